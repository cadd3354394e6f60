-- Part of a piece's bytes, less its front.
use Rattle.std.proofs.Common.{◌≡◌, ℕ, ◌+◌, ◌-◌, ◌≤◌, List, length, take, drop, ap, ◌∙◌}
use Rattle.std.proofs.Common.{length-drop, arith}
use Rattle.std.proofs.lemmas.List.{drop-drop, drop-take, take_all}

pub part_behind : (bytes : List ℕ) (start len taken : ℕ) → taken ≤ len
    → drop taken (take len (drop start bytes)) ≡ take (len - taken) (drop (start + taken) bytes)
part_behind bytes start len taken within =
    let all : len ≡ taken + (len - taken) = omega arith in
    ap (λ n. drop taken (take n (drop start bytes))) all
    ∙ drop-take taken (len - taken) (drop start bytes)
    ∙ ap (take (len - taken)) (drop-drop taken start bytes)

-- the bytes from a place on, as an index up to their end gives them
pub behind_all : (bytes : List ℕ) (start : ℕ)
    → take (length bytes - start) (drop start bytes) ≡ drop start bytes
behind_all bytes start =
    take_all (length bytes - start) (drop start bytes) (omega (arith, length-drop start bytes))
