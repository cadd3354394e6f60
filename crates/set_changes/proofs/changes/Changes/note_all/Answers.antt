use Rattle.std.proofs.Common.{◌≡◌, ◌∙◌, ◌+◌, ◌++◌, ap, subst, sym, List}
use Rattle.standing_filters.specs.declared.flips.Flip.{Flip}
use Rattle.set_changes.specs.Noting.{AreKept}
use Rattle.set_changes.specs.Numbered.{AreChangesOf, FlipsSay, Numbered}
use Rattle.set_changes.proofs.Known.{noted_all, noted_anew}
use Rattle.set_changes.proofs.changes.Changes.note_all.Goals as goal
use Rattle.set_changes.proofs.changes.Changes.note_all.Goals.{in-None, in-Some}

pub returns : goal.returns
returns c sets early late known len say =
    let old = c.args.self.now in
    let inside = c.self.inside in
    let bumped : Numbered = record {
      count = inside.count + c.args.events;
      start = inside.start;
      logs = inside.logs.items;
    } in
    let bumped_is : bumped ≡ record old { count = old.count + c.args.events } =
    ap (λ (n : Numbered). record n { count = n.count + c.args.events }) c.self.view_is in
    elim c.match-known.branch [
      | in-None w ↦ subst (λ (n : Numbered). AreChangesOf n sets (early ++ late)) (sym w.self-is)
          (noted_anew old bumped w.begin_anew.new.self c.args.events sets early late
          (ap (λ (n : Numbered). n.count) bumped_is) w.begin_anew.ensures.count
          w.begin_anew.ensures.start w.begin_anew.ensures.logs known len)
      | in-Some w ↦ subst (λ (n : Numbered). AreChangesOf n sets (early ++ late)) (sym w.self-is)
          (noted_all old bumped w.note_each.new.self c.args.events w.in-Some.flips.now sets early
          late (subst AreKept c.self.view_is c.self.invariant)
          (subst AreKept (c.self-2.view_is ∙ w.self-is) c.self-2.invariant) bumped_is
          w.note_each.ensures known len
          (subst (λ (fs : List Flip). FlipsSay sets fs early late) (sym w.in-Some.ensures.1)
          (say w.in-Some.ensures.0)))
    ]
