use Rattle.std.specs.Prelude.{◌≡◌, ◌≢◌, ℕ, ◌+◌, ◌*◌, ◌^◌, ◌==◌, List, [], Option, Some, None, map}
use Rattle.std.specs.Prelude.{slice_get, slice_index_or, slice_set, unwrap_or, if◌then◌else◌}
use Rattle.std.specs.BTreeMap.{is_at}
use Rattle.std.specs.Map.{lookup}
use Rattle.std.specs.Option.{option_map}
use Rattle.std.specs.Ordering.{nat_cmp}

-- the moment of two parts and the number that a link stands for; one number is none
abbrev pub link_of : ℕ → ℕ → ℕ → ℕ → Option (ℕ × ℕ)
link_of none low high index =
    if index == none then None else Some (high * 2 ^ 32 + low, index)

-- the moment and the number of a place
abbrev pub link_in : List (Option (ℕ × ℕ)) → ℕ → Option (ℕ × ℕ)
link_in links place = slice_index_or links place None

-- the moments of all places
abbrev pub moments_of : List (Option (ℕ × ℕ)) → List (Option ℕ)
moments_of links = map (option_map (λ link. link.0)) links

-- the links, in which a place is told its stand, if there is such a place
abbrev pub mended : List (Option (ℕ × ℕ)) → Option ℕ → ℕ × ℕ → List (Option (ℕ × ℕ))
mended links None link = links
mended links (Some place) link = slice_set links place (Some link)

-- the places of a moment
abbrev pub places_at : List (ℕ × List ℕ) → ℕ → List ℕ
places_at buckets at = unwrap_or (lookup (is_at (nat_cmp at)) buckets) []

-- no moment stands without a place
abbrev pub AreBuckets : List (ℕ × List ℕ) → Type 0
AreBuckets buckets = (at : ℕ) → lookup (is_at (nat_cmp at)) buckets ≢ Some []

-- a place stands where it says, and no other place stands anywhere
pub record AreLinked (at : ℕ → Option (ℕ × ℕ)) (places : ℕ → List ℕ) : Type 0 where
  pub stands : (p : ℕ) (s : ℕ × ℕ) → at p ≡ Some s → slice_get (places s.0) s.1 ≡ Some p
  pub says : (p : ℕ) (s : ℕ × ℕ) → slice_get (places s.0) s.1 ≡ Some p → at p ≡ Some s

-- the same of links and buckets
abbrev pub IsLinked : List (Option (ℕ × ℕ)) → List (ℕ × List ℕ) → Type 0
IsLinked links buckets = AreLinked (link_in links) (places_at buckets)
