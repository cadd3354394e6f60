use Rattle.std.proofs.Common.{◌≡◌, ◌<◌, ◌%◌, ℕ, Some, length, slice_get}
use Rattle.hash_windows.specs.Windows.{hash_in}
use Rattle.hash_windows.specs.declared.windows.Word.{Word}
use Rattle.hash_windows.proofs.parting.parted.Given as goal

abbrev pub invariant-loop-index : goal.invariant-loop-index
invariant-loop-index l =
    record {
      stays : (n : ℕ) (w : Word) → n < l.index → slice_get l.window n ≡ Some w
          → (hash_in w % l.wide ≡ l.number → ⊥) → slice_get l.stay n ≡ Some w;
      goes : (n : ℕ) (w : Word) → n < l.index → slice_get l.window n ≡ Some w
          → hash_in w % l.wide ≡ l.number → slice_get l.go n ≡ Some w;
      stay_len : length l.stay ≡ 16;
      go_len : length l.go ≡ 16;
    }
