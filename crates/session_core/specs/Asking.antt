-- Whether a resync request was read, told from what is said to the peer.
use Rattle.std.specs.Prelude.{ℕ, Bool, true, false, ◌==◌, ◌&&◌, ◌||◌, List, [], ◌∷◌}
use Rattle.peers_msg.specs.Kinds.{control_class, resync_partial}
use Rattle.peers_msg.specs.declared.message.Message.{Message}
use Rattle.peers_msg.specs.declared.message.Message.TheVariants as messages

-- two bytes that are the message `partial`
abbrev pub is_partial : ℕ → ℕ → Bool
is_partial class kind = class == control_class && kind == resync_partial

-- Whether `partial` stands among replies. Each of them has an even length.
unfoldable pub asks_all : List ℕ → Bool
asks_all [] = false
asks_all (class ∷ []) = false
asks_all (class ∷ kind ∷ replies) = is_partial class kind || asks_all replies

-- a resync request
abbrev pub is_request : Message → Bool
is_request messages.Request = true
is_request messages.Finished = false
is_request messages.Partial = false
is_request messages.Confirm = false
is_request messages.Heartbeat = false
is_request messages.ProtocolError = false
is_request messages.SizeError = false
is_request (messages.Update id life rest) = false
is_request (messages.Define definition) = false
is_request (messages.Switch id) = false
is_request (messages.Acked id last) = false
is_request (messages.Other class kind) = false
