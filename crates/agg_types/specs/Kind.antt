use Rattle.std.specs.Prelude.{ℕ, Bool, List, [], ◌∷◌, codes, Option, Some, None, is_some, find}
use Rattle.std.specs.Prelude.{nat_le, ◌==◌}
use Rattle.std.specs.Str.{bytes_eq}
use Rattle.agg_types.specs.declared.config.KeyKind.{KeyKind}
use Rattle.agg_types.specs.declared.config.KeyKind.TheVariants.{Integer, Ip, Ipv6, Str, Binary}
use Rattle.agg_types.specs.declared.kind.KeyLength.{KeyLength}
use Rattle.agg_types.specs.declared.kind.KeyLength.TheVariants.{Exactly, AtMost}

-- what names a kind of keys and tells how long they are
pub record Info : Type 0 where
  pub number : ℕ
  pub name : List ℕ
  pub length : KeyLength

-- the kinds: the number of the type in a definition of the peers protocol, the name that HAProxy
-- gives it, and the length of the keys in bytes
abbrev pub info : KeyKind → Info
info Integer = record { number = 2; name = codes "integer"; length = Exactly 4 }
info Ip = record { number = 4; name = codes "ip"; length = Exactly 4 }
info Ipv6 = record { number = 5; name = codes "ipv6"; length = Exactly 16 }
info (Str most) = record { number = 6; name = codes "string"; length = AtMost most }
info (Binary exact) = record { number = 7; name = codes "binary"; length = Exactly exact }

-- the number of a kind in a definition of the peers protocol
abbrev pub kind_number : KeyKind → ℕ
kind_number kind = (info kind).number

-- the name that HAProxy gives a kind
abbrev pub kind_name : KeyKind → List ℕ
kind_name kind = (info kind).name

-- the length of a kind's keys, in bytes
abbrev pub kind_length : KeyKind → KeyLength
kind_length kind = (info kind).length

-- whether a key may have so many bytes
abbrev pub allows : KeyLength → ℕ → Bool
allows (Exactly exact) len = len == exact
allows (AtMost most) len = nat_le len most

-- the length that a declaration gives the kind, where it gives one
abbrev pub given_length : KeyKind → Option ℕ
given_length Integer = None
given_length Ip = None
given_length Ipv6 = None
given_length (Str most) = Some most
given_length (Binary exact) = Some exact

-- whether a declaration gives the kind a length
abbrev pub takes_length : KeyKind → Bool
takes_length kind = is_some (given_length kind)

-- the kind with this length, where a declaration gives it one
abbrev pub with_length : KeyKind → ℕ → KeyKind
with_length Integer len = Integer
with_length Ip len = Ip
with_length Ipv6 len = Ipv6
with_length (Str most) len = Str len
with_length (Binary exact) len = Binary len

-- every kind, by its number; where a declaration gives one a length, it is 0
abbrev pub all_kinds : List KeyKind
all_kinds = Integer ∷ Ip ∷ Ipv6 ∷ Str 0 ∷ Binary 0 ∷ []

-- the kind of a name, of length 0 where a declaration gives it one
abbrev pub kind_named : List ℕ → Option KeyKind
kind_named name = find (λ kind. bytes_eq (kind_name kind) name) all_kinds

-- the kind of a number, of length 0 where a declaration gives it one
abbrev pub kind_numbered : ℕ → Option KeyKind
kind_numbered number = find (λ kind. kind_number kind == number) all_kinds
