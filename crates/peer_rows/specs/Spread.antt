use Rattle.std.specs.Prelude.{List, [], ◌∷◌, ◌++◌, map}

-- A map whose values are maps, as one list of entries: the key of each is a pair of the two keys.
module _ {K P Q X : Type 0} (pair : K → P → Q) where
  -- the entries of one value
  abbrev pub part : K → List (P × X) → List (Q × X)
  part k rows = map (λ r. (pair k r.0, r.1)) rows

  -- the entries of all values, one after another
  abbrev pub spread : List (K × List (P × X)) → List (Q × X)
  spread [] = []
  spread (e ∷ es) = part e.0 e.1 ++ spread es
