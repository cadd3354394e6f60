-- Which lines are HTTP's.
use Rattle.std.specs.Prelude.{◌≡◌, ◌⊎◌, ℕ, Bool, nat_eq, List, [], ◌∷◌, codes, map, length, take}
use Rattle.std.specs.Prelude.{IsTrue}
use Rattle.std.specs.List.{list_any, starts_with}
use Rattle.std.specs.Char.{to_ascii_lowercase}

-- whether it begins with a method of HTTP and a space
abbrev pub is_request : List ℕ → Bool
is_request line =
    list_any (starts_with nat_eq line)
    (codes "GET " ∷ codes "HEAD " ∷ codes "POST " ∷ codes "PUT " ∷ codes "DELETE "
    ∷ codes "OPTIONS " ∷ codes "PATCH " ∷ codes "CONNECT " ∷ codes "TRACE " ∷ [])

-- it begins with these bytes, in any case
abbrev pub IsNamed : List ℕ → List ℕ → Type 0
IsNamed name line = map to_ascii_lowercase (take (length name) line) ≡ map to_ascii_lowercase name

-- a line of a request: its first one, or one of the fields that each browser sends
abbrev pub IsHttp : List ℕ → Type 0
IsHttp line =
    IsTrue (is_request line) ⊎ (IsNamed (codes "host:") line ⊎ IsNamed (codes "origin:") line)
