use Rattle.std.proofs.Common.{◌≡◌, [], Option, IfSome, ap, sym, subst, ◌∙◌, refl}
use Rattle.hub.specs.Posts.{Follows, Seated, SitsDown}
use Rattle.session_core.specs.Piece.{Setup, setup_of}
use Rattle.session_core.specs.Talk.{stage_of}
use Rattle.peer_worker.proofs.Ends.{goes_on_at_start}
use Rattle.peer_worker.proofs.Works.{no_facts}
use Rattle.worker_frame.specs.declared.poster.Poster.{Poster}
use Rattle.worker_frame.specs.Told.{HasTold}
use Rattle.peer_worker.specs.Turns.{PosterTells, facts_in}
use Rattle.peer_worker.proofs.worker.Worker.new.Goals.{in-None, in-Some}
use Rattle.peer_worker.proofs.worker.Worker.new.Goals as goal

pub returns-clause-work : goal.returns-clause-work
returns-clause-work c =
    λ hub sits.
    let setup : Setup = setup_of hub.config in
    let seated : c.accept.result.seated ≡ c.is_some.result =
    ap (λ s. s.seated) c.accept.ensures.new in
    let P : Option Poster → Type 0 = λ d. PosterTells hub d
    (facts_in setup c.accept.result.seated []) 0
    in record {
      has_seat = refl;
      stands = c.accept.ensures.stands setup ∙ ap (λ b. stage_of setup b []) (sym seated);
      goes_on = goes_on_at_start setup c.accept.result.seated
          (ap (λ b. stage_of setup b []) seated ∙ (sym (c.accept.ensures.stands setup)
          ∙ ap (λ s. s.stage) c.accept.ensures.new));
      told = elim c.match-pass.branch [
        | in-None w ↦ subst P (sym w.poster-is) tt
        | in-Some w ↦
            let Q : Option Seated → Type 0 = λ o. IfSome o (λ p. SitsDown p × Follows hub p.seen) in
            let h : SitsDown w.in-Some.pass × Follows hub w.in-Some.pass.seen =
            subst Q w.in-Some.is sits in
            let told : HasTold hub w.new.result [] 0 =
            w.new.ensures.told hub h.0 h.1 in
            subst P (sym w.poster-is) (subst (λ facts. HasTold hub w.new.result facts 0)
            (no_facts setup c.accept.result.seated) told)
      ];
      shown = tt;
      tells = tt;
    }
