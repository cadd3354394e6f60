-- What is unsaid, written in pieces.
use Rattle.std.proofs.Common.{◌≡◌, ◌+◌, ℕ, Bool, List, [], ◌∷◌, ◌++◌, Option, Result, Ok, Err, refl}
use Rattle.std.proofs.Common.{sym, ap, subst, ◌∙◌, append-nil, append_assoc, take, drop}
use Rattle.std.proofs.Math.Seq.{take-add}
use Rattle.std.proofs.lemmas.Grind.{flat_map-append}
use Rattle.std.proofs.lemmas.List.{drop-drop, take-append-drop}
use Rattle.std.specs.Io.KnownBytes.{Appends}
use Rattle.peers_msg.specs.Spelling.{message_spelling}
use Rattle.peers_msg.specs.declared.message.Message.{Message}
use Rattle.session_core.specs.Piece.{Setup}
use Rattle.pushed_keys.specs.declared.pushed.Pushed.{Pushed}
use Rattle.telling.specs.Telling.{text_of, turn_text}
use Rattle.telling.specs.Unsaid.{Unsaid, unsaid_messages}
use Rattle.worker_frame.specs.declared.writing.WriteFailed.{WriteFailed}
use Rattle.worker_frame.specs.Writing.{Sends}
use Rattle.worker_frame.proofs.Sent.{wrote_more}
use Rattle.peer_worker.specs.Tellings.{WritesOn}
use Rattle.peer_worker.specs.Turns.{Piece, Say, Send, Tell, Turn, said_in, text_in, unsaid_in}

text_both : (xs ys : List Message) → text_of (xs ++ ys) ≡ text_of xs ++ text_of ys
text_both = flat_map-append message_spelling

text_parted : (count : ℕ) (ms : List Message)
    → text_of ms ≡ text_of (take count ms) ++ text_of (drop count ms)
text_parted count ms =
    ap text_of (sym (take-append-drop count ms)) ∙ text_both (take count ms) (drop count ms)

-- ---- a piece, and pieces

-- bytes are written behind others that were
sends_more : {B : Type 0} (before between after : Option (List ℕ)) (xs ys : List ℕ)
    (result : Result B WriteFailed) → Appends before between xs → Sends between after ys result
    → Sends before after (xs ++ ys) result
sends_more before between after xs ys (Ok done) first sent =
    wrote_more before between after xs ys first sent
sends_more before between after xs ys (Err failed) first sent = record {
  front = xs ++ sent.front;
  rest = sent.rest;
  split = ap (λ (zs : List ℕ). xs ++ zs) sent.split ∙ sym (append_assoc xs sent.front sent.rest);
  wrote = wrote_more before between after xs sent.front first sent.wrote;
}

-- whatever is handed on
pub writes_as : {A B : Type 0} (pushed : List Pushed) (old new : Unsaid)
    (before after : Option (List ℕ)) (done : A) (other : B)
    → WritesOn pushed old new before after (Ok done)
    → WritesOn pushed old new before after (Ok other)
writes_as pushed old new before after done other wrote = record {
  count = wrote.count;
  left = wrote.left;
  sent = wrote.sent;
}

-- a piece behind others
pub writes_more : {A B : Type 0} (pushed : List Pushed) (old middle new : Unsaid)
    (before between after : Option (List ℕ)) (done : A) (result : Result B WriteFailed)
    → WritesOn pushed old middle before between (Ok done)
    → WritesOn pushed middle new between after result
    → WritesOn pushed old new before after result
writes_more pushed old middle new before between after done result first second =
    let ms : List Message = unsaid_messages pushed old in
    let a : ℕ = first.count in
    let b : ℕ = second.count in record {
      count = a + b;
      left = second.left ∙ (ap (drop b) first.left ∙ drop-drop b a ms);
      sent = subst (λ (bytes : List ℕ). Sends before after bytes result)
          (ap (λ (more : List Message). text_of (take a ms) ++ text_of (take b more)) first.left
          ∙ (sym (text_both (take a ms) (take b (drop a ms))) ∙ ap text_of (sym (take-add a b ms))))
          (sends_more before between after (text_of (take a ms))
          (text_of (take b (unsaid_messages pushed middle))) result first.sent second.sent);
    }

-- ---- all pieces of a telling

-- what was written of a telling, and what is unsaid of it, is its text
pub said_and_unsaid : (setup : Setup) (seated : Bool) (turns : List Turn)
    → text_in setup seated turns
    ≡ said_in setup seated turns ++ text_of (unsaid_in setup seated turns)
unfolding turn_text
said_and_unsaid setup seated [] = refl
said_and_unsaid setup seated (Piece piece ∷ earlier) = said_and_unsaid setup seated earlier
said_and_unsaid setup seated (Send signal ∷ earlier) = said_and_unsaid setup seated earlier
said_and_unsaid setup seated (Tell telling ∷ earlier) = refl
said_and_unsaid setup seated (Say count ∷ earlier) =
    let unsaid : List Message = unsaid_in setup seated earlier in
    let said : List ℕ = said_in setup seated earlier in
    said_and_unsaid setup seated earlier
    ∙ (ap (λ (bytes : List ℕ). said ++ bytes) (text_parted count unsaid)
    ∙ sym (append_assoc said (text_of (take count unsaid)) (text_of (drop count unsaid))))

pub said_whole_text : (setup : Setup) (seated : Bool) (turns : List Turn)
    → unsaid_in setup seated turns ≡ [] → said_in setup seated turns ≡ text_in setup seated turns
said_whole_text setup seated turns none =
    sym (said_and_unsaid setup seated turns
    ∙ (ap (λ (ms : List Message). said_in setup seated turns ++ text_of ms) none
    ∙ append-nil (said_in setup seated turns)))
