use Rattle.std.proofs.Common.{◌≡◌, true, ltb, append_assoc, refl}
use Rattle.std.proofs.lemmas.Bool.{lt-ltb}
use Rattle.peers_msg.specs.Spelling.{integer_spelling}
use Rattle.peers_msg.proofs.writing.append_acked.Goals as goal

pub returns-then-id-lt-FIRST_OF_LONG-clause-ok : goal.returns-then-id-lt-FIRST_OF_LONG-clause-ok
unfolding integer_spelling
returns-then-id-lt-FIRST_OF_LONG-clause-ok c =
    let low : ltb c.args.id 240 ≡ true = lt-ltb c.args.id 240 c.if-id-lt-FIRST_OF_LONG.true in
    rw (
      low,
      c.in_ok-extend_from_slice-2.ensures.items,
      c.in_ok-extend_from_slice.ensures.items,
      append_assoc,
      c.to_be_bytes.ensures,
    ) refl
