use Rattle.std.proofs.Common.{◌≡◌, ◌∙◌, ◌<◌, ℕ, List, length, map, sym, ap, subst, inl, inr, arith}
use Rattle.std.proofs.Common.{false}
use Rattle.std.proofs.lemmas.Bool.{false≢true}
use Rattle.standing_filters.specs.Plans.{AreWatches, Watching, view_of_watch}
use Rattle.standing_filters.specs.Ready.{AreReady, HaveRoom, IsRoomFor}
use Rattle.standing_filters.specs.Watched.{AllWatched, IsReady}
use Rattle.standing_filters.proofs.Lent.{told_whole, whole}
use Rattle.standing_filters.proofs.Readying.{one_less, room_of}
use Rattle.standing_filters.proofs.standing.Standing.judge.Goals as goal

pub returns-clause-flips : goal.returns-clause-flips
returns-clause-flips g c =
    told_whole c.self.inside.watches.len c.touch_each.new.watches c.self.inside.watches.items
    c.as_mut_slice.result.now c.args.self.now.filters c.args.flips.now c.touch_each.new.flips
    (omega (arith, c.touch_each.auto.watches, c.as_mut_slice.ensures.len))
    (ap (map view_of_watch) c.as_mut_slice.ensures.value
    ∙ ap (λ (s : AllWatched). s.filters) c.self.view_is) c.touch_each.ensures.flips

-- there is room where the key is ready
pub touch_each-requires-clause-room : goal.touch_each-requires-clause-room
touch_each-requires-clause-room g c = elim c.requires.sure [
  | inl ready ↦ inr (subst (λ (ws : List Watching). IsRoomFor c.args.table c.args.key.now
      c.self.inside.copies.items ws) (sym c.as_mut_slice.ensures.value)
      (room_of c.self.inside.table c.self.inside.sure c.self.inside.is_copied
      c.self.inside.copies.items c.self.inside.watches.items c.args.table c.args.key.now
      (subst (λ (s : AllWatched). IsReady c.args.table c.args.key.now s) (sym c.self.view_is) ready)
      c.self.invariant.1))
  | inr dead ↦ inl dead
]

-- and for one less it is left
pub invariant_of-self : goal.invariant_of-self
invariant_of-self g c =
    let done : List Watching = c.touch_each.new.watches in
    let len : ℕ = c.self.inside.watches.len in
    let items : List Watching = c.self.inside.watches.items in
    let count : len ≡ length done =
    omega (arith, c.touch_each.auto.watches, c.as_mut_slice.ensures.len) in
    let table = c.self.inside.table in
    let sure = c.self.inside.sure in
    let less = c.saturating_sub-self-inside.result in
    let lent : 0 < sure → HaveRoom sure table c.as_mut_slice.result.now = λ some.
    subst (HaveRoom sure table) (sym c.as_mut_slice.ensures.value)
    (c.self.invariant.1.room some) in
    subst (λ (ws : List Watching). AreWatches ws
    × AreReady table less false c.touch_each.new.copies.items ws)
    (sym (whole len done items count)) (
      c.touch_each.ensures.stay,
      record {
        room = one_less table sure less c.as_mut_slice.result.now done
            c.touch_each.ensures.room_left c.saturating_sub-self-inside.ensures lent;
        some = λ is. absurd (false≢true is);
        copied = λ is. absurd (false≢true is);
      },
    )
