-- A printed key is read back, whatever its kind.
use Rattle.std.proofs.Common.{◌≡◌, ℕ, List, Some, true, refl, arith}
use Rattle.std.proofs.lemmas.Bool.{eqb-true}
use Rattle.agg_types.specs.Fits.{key_fits}
use Rattle.agg_types.specs.declared.config.KeyKind.{KeyKind}
use Rattle.agg_types.specs.declared.config.KeyKind.TheVariants.{Integer, Ip, Ipv6, Str, Binary}
use Rattle.hex.specs.Hex.{IsBytes}
use Rattle.key_text.specs.Printed.{key_text}
use Rattle.key_text.specs.Read.{bytes_of, key_of}
use Rattle.key_text.proofs.RoundTrip.{binary_back, integer_back, octets_back}
use Rattle.key_text.proofs.RoundTrip.{string_back}
use Rattle.key_text.proofs.Elisions.{address_back}

-- the bytes that the text of a key says
bytes_back : (kind : KeyKind) (key : List ℕ) → key_fits kind key ≡ true → IsBytes key
    → bytes_of kind (key_text kind key) ≡ Some key
bytes_back Integer key fits bytes = integer_back key bytes (eqb-true _ _ fits)
bytes_back Ip key fits bytes =
    let four = eqb-true _ _ fits in
    octets_back key bytes (omega arith)
bytes_back Ipv6 key fits bytes = address_back key bytes (eqb-true _ _ fits)
bytes_back (Str len) key fits bytes = string_back key bytes
bytes_back (Binary len) key fits bytes = binary_back key bytes

-- the key that it is read as
pub key_back : (kind : KeyKind) (key : List ℕ) → key_fits kind key ≡ true → IsBytes key
    → key_of kind (key_text kind key) ≡ Some key
key_back kind key fits bytes = rw (bytes_back kind key fits bytes) (rw fits refl)
