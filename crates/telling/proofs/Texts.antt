-- Pieces that are appended one after the other, and messages as they are spelled.
use Rattle.std.proofs.Common.{◌≡◌, ℕ, List, [], ◌++◌, append_assoc, append-nil}

-- seven pieces, and nothing behind them
pub seven_appended : (o a b c d e f g p q r s t u v : List ℕ) → a ≡ o ++ p → b ≡ a ++ q → c ≡ b ++ r
    → d ≡ c ++ s → e ≡ d ++ t → f ≡ e ++ u → g ≡ f ++ v
    → g ≡ o ++ ((p ++ q ++ r ++ s ++ t ++ u ++ v) ++ [])
seven_appended o a b c d e f g p q r s t u v h1 h2 h3 h4 h5 h6 h7 =
    rw (h7, h6, h5, h4, h3, h2, h1) (simp (append_assoc, append-nil))
