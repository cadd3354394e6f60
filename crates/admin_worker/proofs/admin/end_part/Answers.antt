use Rattle.std.proofs.Common.{◌≡◌, ℕ, Bool, true, false, List, ◌++◌, refl, ap, sym, inr}
use Rattle.std.proofs.Common.{◌∙◌, Ok, Option, Result, subst}
use Rattle.std.proofs.lemmas.Result.{err_from_is_err_and}
use Rattle.hub.specs.Views.{Seeing}
use Rattle.admin_worker.proofs.Commanded.{has_quit, learned_same, stops_obeying, works_obeyed}
use Rattle.admin_worker.proofs.Kept.{from_ok, kept_manner, kept_quits}
use Rattle.admin_worker.specs.Commanding.{HasLearned, ObeysTo, kept_of}
use Rattle.admin_worker.specs.Commands.{changes_in, is_silent, manner_of, seen_by}
use Rattle.admin_worker.specs.Manners.{manner_behind}
use Rattle.admin_worker.specs.declared.manner.Manner.{Manner}
use Rattle.admin_worker.specs.declared.faults.LineFault.{LineFault}
use Rattle.admin_worker.specs.declared.worker.AdminWorker.{AdminWorker}
use Rattle.agg_types.specs.declared.event.What.{What}
use Rattle.hub.specs.History.{Beginning}
use Rattle.admin_worker.specs.Status.{quits}
use Rattle.admin_worker.proofs.admin.end_part.Goals as goal

-- what is told of what is kept holds of the line
asks_same : (line kept text : List ℕ) (asked is : Bool) → kept ≡ kept_of line → text ≡ kept
    → asked ≡ quits text → asked ≡ is → quits line ≡ is
asks_same line kept text asked is of same asks value =
    sym (kept_quits line) ∙ (ap quits (sym (same ∙ of)) ∙ (sym asks ∙ value))

pub returns-then-quits-clause-takes : goal.returns-then-quits-clause-takes
returns-then-quits-clause-takes g c =
    λ rest whole ends door seat start given w.
    let hub = c.args.context.now.hub.now in
    let kept : c.keep.new.self.line.bytes.items ≡ kept_of (w.line ++ c.args.bytes.now) =
    from_ok c.keep.result (sym c.is_err.ensures.value ∙ c.if-is_err.false)
    (c.keep.ensures.keeps w.line w.keeps) in
    inr (has_quit hub seat c.args.worker.now c.keep.new.self c.args.bytes.now rest c.args.end
    start given (g.W.Write.contents c.args.writer.now) c.keep.ensures.poster whole ends w
    (asks_same (w.line ++ c.args.bytes.now) c.keep.new.self.line.bytes.items c.as_slice.result.now
    c.quits.result true kept c.as_slice.ensures c.quits.ensures c.if-quits.true))

-- what is said of a part that is answered in one manner
said_alike : (one other : Manner) (hub since : Beginning) (seat : ℕ)
    (worker : AdminWorker) (whats : List What) (line : List ℕ) (before after : Option (List ℕ))
    (result : Result (Unit {0}) LineFault) → one ≡ other
    → ObeysTo (is_silent one.behind line) one hub since seat worker whats line before after result
    → ObeysTo (is_silent other.behind line) other hub since seat worker whats line before after
    result
said_alike one other hub since seat worker whats line before after result is obeys =
    subst (λ (m : Manner). ObeysTo (is_silent m.behind line) m hub since seat worker whats line
    before after result) is obeys

-- how the next part is answered
next_manner : (one other : Manner) (line kept text : List ℕ) (end : ℕ) (next : Manner)
    → one ≡ other → kept ≡ kept_of line → text ≡ kept → next ≡ manner_behind one text end
    → next ≡ manner_behind other line end
next_manner one other line kept text end next is of same made =
    made ∙ (ap (λ (l : List ℕ). manner_behind one l end) (same ∙ of)
    ∙ (kept_manner one line end ∙ ap (λ (m : Manner). manner_behind m line end) is))

pub returns-in_err-obey_part-clause-takes : goal.returns-in_err-obey_part-clause-takes
returns-in_err-obey_part-clause-takes g c =
    λ rest whole ends door seat start given w.
    let hub = c.args.context.now.hub.now in
    let since = seen_by hub w.parts in
    let learned : HasLearned hub since seat c.keep.new.self (changes_in w.parts) =
    learned_same hub since seat c.args.worker.now c.keep.new.self (changes_in w.parts)
    c.keep.ensures.poster (ap (λ (s : Seeing). s.seen) c.keep.ensures.lens) w.learned in
    let kept : c.keep.new.self.line.bytes.items ≡ kept_of (w.line ++ c.args.bytes.now) =
    from_ok c.keep.result (sym c.is_err.ensures.value ∙ c.if-is_err.false)
    (c.keep.ensures.keeps w.line w.keeps) in
    let p = err_from_is_err_and c.from_residual.result c.from_residual.ensures.1 in
    rw (p.1, p.2) (stops_obeying hub seat c.args.worker.now c.obey_part.new.worker c.args.bytes.now
    rest c.args.end start given (g.W.Write.contents c.args.writer.now)
    (g.W.Write.contents c.obey_part.new.writer) _ c.keep.new.self.manner whole ends w
    (c.keep.ensures.manner ∙ w.manner)
    (c.in_err-obey_part.ensures.obeys since seat (changes_in w.parts) (w.line ++ c.args.bytes.now)
    learned kept
    (asks_same (w.line ++ c.args.bytes.now)
    c.keep.new.self.line.bytes.items c.as_slice.result.now c.quits.result false kept
    c.as_slice.ensures c.quits.ensures c.if-quits.false)))

pub returns-clause-takes : goal.returns-clause-takes
returns-clause-takes g c =
    λ rest whole ends door seat start given w.
    let hub = c.args.context.now.hub.now in
    let since = seen_by hub w.parts in
    let learned : HasLearned hub since seat c.keep.new.self (changes_in w.parts) =
    learned_same hub since seat c.args.worker.now c.keep.new.self (changes_in w.parts)
    c.keep.ensures.poster (ap (λ (s : Seeing). s.seen) c.keep.ensures.lens) w.learned in
    let kept : c.keep.new.self.line.bytes.items ≡ kept_of (w.line ++ c.args.bytes.now) =
    from_ok c.keep.result (sym c.is_err.ensures.value ∙ c.if-is_err.false)
    (c.keep.ensures.keeps w.line w.keeps) in
    let obeyed = said_alike c.keep.new.self.manner (manner_of door w.parts) hub since seat
    c.obey_part.new.worker (changes_in w.parts) (w.line ++ c.args.bytes.now)
    (g.W.Write.contents c.args.writer.now) (g.W.Write.contents c.obey_part.new.writer) (Ok (tt {0}))
    (c.keep.ensures.manner ∙ w.manner)
    (c.in_ok-obey_part.ensures.obeys since seat (changes_in w.parts)
    (w.line ++ c.args.bytes.now) learned kept
    (asks_same (w.line ++ c.args.bytes.now) c.keep.new.self.line.bytes.items c.as_slice.result.now
    c.quits.result false kept c.as_slice.ensures c.quits.ensures c.if-quits.false)) in
    works_obeyed hub seat c.args.worker.now c.obey_part.new.worker _ c.args.bytes.now rest
    c.args.end start given (g.W.Write.contents c.args.writer.now)
    (g.W.Write.contents c.obey_part.new.writer)
    obeyed.0 refl refl c.clear.ensures whole ends w
    (next_manner c.keep.new.self.manner (manner_of door w.parts) (w.line ++ c.args.bytes.now)
    c.keep.new.self.line.bytes.items c.as_slice-text.result.now c.args.end
    c.follow-next.result (c.keep.ensures.manner ∙ w.manner) kept c.as_slice-text.ensures
    c.follow-next.ensures) obeyed.1 obeyed.2
