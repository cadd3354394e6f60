use Rattle.std.proofs.Common.{◌≡◌, [], false, drop, refl, subst, List}
use Rattle.std.proofs.lemmas.Result.{IfOk-weaker}
use Rattle.std.specs.Prelude.{MatchOption}
use Rattle.pushed_keys.specs.declared.told.UnsaidTable.{UnsaidTable}
use Rattle.pushed_keys.proofs.Rest.{drop_here}
use Rattle.telling.specs.Down.{IsNext}
use Rattle.telling.specs.Unsaid.{Unsaid, unsaid_messages}
use Rattle.telling.specs.declared.unsaid.Step.{Step}
use Rattle.telling.proofs.Steps.{first_next, left_at, next_behind}
use Rattle.telling.proofs.unsaid.Unsaid.draft_next.Goals as goal

pub returns-in_default : goal.returns-in_default
returns-in_default c = IfOk-weaker c.draft_update.result _ _ (λ next h.
    let tables = subst (λ (ts : List UnsaidTable). MatchOption next (unsaid_messages
    c.args.pushed.now (left_at c.self.inside.defined c.self.inside.place ts) ≡ []) (λ step.
    IsNext c.args.pushed.now (left_at c.self.inside.defined c.self.inside.place ts) step
    c.draft_update.new.draft.message.items)) c.as_slice.ensures.value h in
    subst (λ (u : Unsaid). MatchOption next (unsaid_messages c.args.pushed.now u ≡ [])
    (λ step. IsNext c.args.pushed.now u step c.draft_update.new.draft.message.items))
    c.self.view_is (next_behind c.args.pushed.now _ next _ (c.in_default.ensures.none refl) tables))
    c.draft_update.ensures

pub returns : goal.returns
returns c =
    let at : Unsaid = record {
      undefined = c.self.inside.undefined;
      defined = c.self.inside.defined;
      before = c.self.inside.place;
      tables = drop c.self.inside.place c.self.inside.tables.items;
    } in
    let step : Step = record {
      undefined = c.undefined_behind.result;
      defined = c.self.inside.defined;
      place = c.self.inside.place;
      is_update = false;
    } in
    subst (λ (u : Unsaid). IsNext c.args.pushed.now u step c.define.new.self.message.items)
    c.self.view_is (first_next c.args.pushed.now at c.in-Some.place c.index-pushed-place.result step
    c.define.new.self.message.items (c.in-Some.ensures.is refl)
    (drop_here c.args.pushed.now c.in-Some.place c.index-pushed-place.result
    c.in-Some.ensures.within c.index-pushed-place.is) c.undefined_behind.ensures refl refl refl
    c.in_ok-define.ensures)
