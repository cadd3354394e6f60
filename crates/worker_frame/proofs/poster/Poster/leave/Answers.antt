use Rattle.std.proofs.Common.{Option, IfSome, sym, subst}
use Rattle.hub.specs.History.{Beginning}
use Rattle.hub.specs.Posts.{Follows}
use Rattle.worker_frame.proofs.Owns.{left_follows, left_shown}
use Rattle.worker_frame.specs.Told.{IsLeft}
use Rattle.worker_frame.proofs.poster.Poster.leave.Goals.{in-Ok, in-Err}
use Rattle.worker_frame.proofs.poster.Poster.leave.Goals as goal

pub returns : goal.returns
returns g c =
    λ whats waiting told.
    let P : Option Beginning → Type 0 =
    λ o. IfSome o (IsLeft c.args.self.pass.seat whats waiting) in
    let F : Option Beginning → Type 0 = λ o. IfSome o (Follows c.args.hub.now) in record {
      last = told.last;
      last_shown = told.shown;
      left = elim c.match-leave.branch [
        | in-Ok w ↦ subst P (sym w.left-is) (left_shown c.args.self.pass whats waiting w.in-Ok.left
            told.tells told.number w.in-Ok.ensures)
        | in-Err w ↦ subst P (sym w.left-is) tt
      ];
      left_shown = elim c.match-leave.branch [
        | in-Ok w ↦ subst F (sym w.left-is) (left_follows c.args.hub.now c.args.self.pass
            w.in-Ok.left told.seen w.in-Ok.ensures)
        | in-Err w ↦ subst F (sym w.left-is) tt
      ];
    }
