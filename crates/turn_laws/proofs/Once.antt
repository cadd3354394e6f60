-- Each key stands once among the updates of a table.
use Rattle.std.proofs.Common.{◌≡◌, ℕ, zero, suc, List, [], ◌∷◌, ◌++◌, length, map, Some, refl}
use Rattle.std.proofs.Common.{true, false, sym, ap, subst, ◌∙◌}
use Rattle.std.specs.Prelude.{slice_get}
use Rattle.std.specs.List.Sorted.{IsStrictlySortedBy}
use Rattle.std.specs.Str.{bytes_eq}
use Rattle.std.proofs.lemmas.List.{append_cancel_left}
use Rattle.std.proofs.lemmas.Slice.Eq.{bytes_eq-Decides}
use Rattle.agg_types.specs.declared.config.KeyKind.{KeyKind}
use Rattle.agg_types.specs.declared.config.KeyKind.TheVariants.{Integer, Ip, Ipv6, Str, Binary}
use Rattle.peers_msg.specs.declared.message.Message.{Message}
use Rattle.peers_msg.specs.declared.message.Message.TheVariants as messages
use Rattle.peers_msg.specs.Spelling.{integer_spelling}
use Rattle.peers_msg.proofs.Numerals.{spelled, spelling_alone}
use Rattle.pushed_keys.specs.Turns.{next_id}
use Rattle.pushed_keys.specs.declared.change.Change.{Change}
use Rattle.pushed_keys.specs.declared.change.Change.TheVariants.{Put, TakeAway}
use Rattle.pushed_keys.specs.declared.pushed.Pushed.{Pushed}
use Rattle.telling.specs.Telling.{key_spelling, update_of, updates}
use Rattle.turn_laws.specs.Keys.{AreInOrder}
use Rattle.turn_laws.proofs.Sides.{Each, IsBelow, unlike}

-- ---- an update's key

abbrev front : List ℕ → List ℕ
front [] = []
front (x ∷ []) = []
front (x ∷ y ∷ xs) = x ∷ front (y ∷ xs)

front_is : (xs : List ℕ) (x : ℕ) → front (xs ++ x ∷ []) ≡ xs
front_is [] x = refl
front_is (a ∷ []) x = refl
front_is (a ∷ b ∷ xs) x = ap (λ (ys : List ℕ). a ∷ ys) (front_is (b ∷ xs) x)

abbrev rest_of : Message → List ℕ
rest_of (messages.Update id life rest) = rest
rest_of messages.Request = []
rest_of messages.Finished = []
rest_of messages.Partial = []
rest_of messages.Confirm = []
rest_of messages.Heartbeat = []
rest_of messages.ProtocolError = []
rest_of messages.SizeError = []
rest_of (messages.Define d) = []
rest_of (messages.Switch id) = []
rest_of (messages.Acked id last) = []
rest_of (messages.Other class kind) = []

front_of : (table : Pushed) (id : ℕ) (key : List ℕ) (change : Change)
    → front (rest_of (update_of table id key change)) ≡ key_spelling table.kind key
front_of table id key Put = front_is (key_spelling table.kind key) 1
front_of table id key TakeAway = front_is (key_spelling table.kind key) 0

spelled_once : (kind : KeyKind) (a b : List ℕ) → key_spelling kind a ≡ key_spelling kind b → a ≡ b
spelled_once Integer a b e = e
spelled_once Ip a b e = e
spelled_once Ipv6 a b e = e
spelled_once (Str len) a b e =
    let same : integer_spelling (length a) ≡ integer_spelling (length b) =
    spelling_alone (integer_spelling (length a)) (integer_spelling (length b)) a b
    (spelled (length a)).0 (spelled (length b)).0 e in
    append_cancel_left (integer_spelling (length b)) a b
    (ap (λ (text : List ℕ). text ++ a) (sym same) ∙ e)
spelled_once (Binary len) a b e = e

same_key : (table : Pushed) (m n : ℕ) (a b : List ℕ) (change other : Change)
    → update_of table m a change ≡ update_of table n b other → a ≡ b
same_key table m n a b change other e =
    spelled_once table.kind a b (sym (front_of table m a change)
    ∙ ap (λ (message : Message). front (rest_of message)) e ∙ front_of table n b other)

key_at : (table : Pushed) (last : ℕ) (cs : List (List ℕ × Change)) (i id : ℕ) (key : List ℕ)
    (change : Change) → slice_get (updates table last cs) i ≡ Some (update_of table id key change)
    → slice_get (map (λ c. c.0) cs) i ≡ Some key
key_at table last [] i id key change e = absurd (cc e)
key_at table last (c ∷ cs) zero id key change e =
    let same : update_of table (next_id last) c.0 c.1 ≡ update_of table id key change = cc e in
    ap Some (same_key table (next_id last) id c.0 key c.1 change same)
key_at table last (c ∷ cs) (suc i) id key change e =
    key_at table (next_id last) cs i id key change e

-- ---- once

got : (P : List ℕ → Type 0) (keys : List (List ℕ)) (i : ℕ) (key : List ℕ) → Each P keys
    → slice_get keys i ≡ Some key → P key
got P [] i key h e = absurd (cc e)
got P (k ∷ keys) zero key h e = subst P (let s : k ≡ key = cc e in s) h.0
got P (k ∷ keys) (suc i) key h e = got P keys i key h.1 e

not_below_itself : (key : List ℕ) → IsBelow key key → ⊥
not_below_itself key below =
    let no : bytes_eq key key ≡ false = unlike key key below in
    let yes : bytes_eq key key ≡ true = (bytes_eq-Decides key key).1 refl in
    cc

behind_first : (k : List ℕ) (keys : List (List ℕ)) (j : ℕ) (key : List ℕ)
    → Each (IsBelow k) keys → k ≡ key → slice_get keys j ≡ Some key → ⊥
behind_first k keys j key h same e =
    not_below_itself k (subst (λ (x : List ℕ). IsBelow k x) (sym same)
    (got (IsBelow k) keys j key h e))

at_once : (keys : List (List ℕ)) (i j : ℕ) (key : List ℕ) → AreInOrder keys
    → slice_get keys i ≡ Some key → slice_get keys j ≡ Some key → i ≡ j
unfolding IsStrictlySortedBy
at_once [] i j key h a b = absurd (cc a)
at_once (k ∷ keys) zero zero key h a b = refl
at_once (k ∷ keys) zero (suc j) key h a b =
    absurd (behind_first k keys j key h.0 (let s : k ≡ key = cc a in s) b)
at_once (k ∷ keys) (suc i) zero key h a b =
    absurd (behind_first k keys i key h.0 (let s : k ≡ key = cc b in s) a)
at_once (k ∷ keys) (suc i) (suc j) key h a b = ap suc (at_once keys i j key h.1 a b)

-- two updates of one key are one
pub update_once : (table : Pushed) (last : ℕ) (cs : List (List ℕ × Change)) (i j m n : ℕ)
    (key : List ℕ) (change other : Change) → AreInOrder (map (λ c. c.0) cs)
    → slice_get (updates table last cs) i ≡ Some (update_of table m key change)
    → slice_get (updates table last cs) j ≡ Some (update_of table n key other) → i ≡ j
update_once table last cs i j m n key change other h a b =
    at_once (map (λ c. c.0) cs) i j key h (key_at table last cs i m key change a)
    (key_at table last cs j n key other b)
