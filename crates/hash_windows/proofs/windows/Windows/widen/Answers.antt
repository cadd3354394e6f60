use Rattle.std.proofs.Common.{◌≡◌, ◌*◌, ◌<◌, [], length, slice_index_or, subst, arith}
use Rattle.hash_windows.proofs.Words.{kept_by_widen}
use Rattle.hash_windows.specs.Windows.{home, short_of, word_of, IsIn}
use Rattle.hash_windows.proofs.windows.Windows.widen.Goals as goal

pub returns-in-Some : goal.returns-in-Some
returns-in-Some c =
    λ h q has.
    let full : length c.args.self.now.windows.items ≡ c.args.self.now.wide = omega arith in
    let some : 0 < c.args.self.now.wide = omega arith in
    let twice : c.args.self.now.wide * 2 ≡ c.in-Some.wide = omega (arith, c.in-Some.ensures) in
    record {
      word = subst (λ w. IsIn (slice_index_or c.args.self.now.windows.items
          (home w c.args.self.now.wide (length c.args.self.now.windows.items) (short_of h)) [])
          (word_of (short_of h) q))
          twice
          (kept_by_widen c.args.self.now.wide c.args.self.now.half c.args.self.now.windows.items
          (short_of h) (word_of (short_of h) q) full some has.word);
    }
