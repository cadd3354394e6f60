use Rattle.std.proofs.Common.{◌≡◌, ◌∙◌, ◌++◌, ◌∷◌, ◌+◌, ap, arith, length, rules, subst, sym}
use Rattle.std.proofs.Common.{List, [], ℕ}
use Rattle.std.proofs.lemmas.List.{length-append}
use Rattle.std.specs.Prelude.{MatchOption, Option}
use Rattle.telling.specs.Down.{IsNext}
use Rattle.telling.specs.Unsaid.{Unsaid, unsaid_messages}
use Rattle.telling.specs.declared.unsaid.Step.{Step}
use Rattle.telling.proofs.unsaid.Unsaid.write_further.Goals as goal

pub returns-clause-goes : goal.returns-clause-goes
returns-clause-goes c = λ yes.
    let next : IsNext c.args.pushed.now c.args.self.now c.in-Some.step
    c.draft_next.new.draft.message.items =
    subst (λ (o : Option Step). MatchOption o (unsaid_messages c.args.pushed.now c.args.self.now
    ≡ []) (λ step. IsNext c.args.pushed.now c.args.self.now step
    c.draft_next.new.draft.message.items)) c.in-Some.is c.in-Ok.ensures in
    let more : c.extend_from_slice.new.self.items
    ≡ c.args.piece.now.items ++ c.as_slice-message.result.now = search rules in
    let long : length c.extend_from_slice.new.self.items
    ≡ length c.args.piece.now.items + length c.as_slice-message.result.now =
    ap length more ∙ length-append c.args.piece.now.items c.as_slice-message.result.now in
    let room : c.len.result ≡ length c.args.piece.now.items = search rules in
    record {
      message = next.message;
      left = next.left ∙ ap (λ (u : Unsaid).
          next.message ∷ unsaid_messages c.args.pushed.now u) (sym c.leave_behind.ensures);
      says = more ∙ ap (λ (bytes : List ℕ). c.args.piece.now.items ++ bytes)
          (c.as_slice-message.ensures.value ∙ next.spelled);
      small = omega (
        arith,
        long,
        room,
        c.saturating_add.ensures,
        c.if-saturating_add-gt-PIECE.false,
      );
    }
