-- A name is read, and what it names.
use Rattle.std.proofs.Common.{◌≡◌, ℕ, List, Option, None, Some, Ok, Err, refl}
use Rattle.line_words.specs.Reader.{Left, end, word}
use Rattle.line_words.specs.declared.misread.Expected.TheVariants.{Name}
use Rattle.line_words.specs.declared.misread.Misread.{Misread}
use Rattle.show_clear.specs.Parse.{last_named, named, no_name}
use Rattle.show_clear.specs.Refused.{refused_for}

-- nothing has the name
pub named_none : (found : List ℕ → Option ℕ) (left rest : Left) (name : List ℕ)
    → word Name left ≡ Ok (name, rest) → found name ≡ None
    → named found left ≡ Err (no_name left.number)
unfolding named
named_none found left rest name read none = rw (read, none) refl

-- the line ends before it
pub named_missing : (found : List ℕ → Option ℕ) (left : Left) (at : Misread)
    → word Name left ≡ Err at → named found left ≡ Err (refused_for at)
unfolding named
named_missing found left at missing = rw missing refl

pub named_some : (found : List ℕ → Option ℕ) (left rest : Left) (name : List ℕ) (place : ℕ)
    → word Name left ≡ Ok (name, rest) → found name ≡ Some place
    → named found left ≡ Ok (place, rest)
unfolding named
named_some found left rest name place read some = rw (read, some) refl

pub last_none : (found : List ℕ → Option ℕ) (left rest : Left) (name : List ℕ)
    → word Name left ≡ Ok (name, rest) → found name ≡ None
    → last_named found left ≡ Err (no_name left.number)
unfolding last_named
last_none found left rest name read none = rw (named_none found left rest name read none) refl

pub last_missing : (found : List ℕ → Option ℕ) (left : Left) (at : Misread)
    → word Name left ≡ Err at → last_named found left ≡ Err (refused_for at)
unfolding last_named
last_missing found left at missing = rw (named_missing found left at missing) refl

-- a word follows it
pub last_behind : (found : List ℕ → Option ℕ) (left rest : Left) (name : List ℕ) (place : ℕ)
    (at : Misread) → word Name left ≡ Ok (name, rest) → found name ≡ Some place
    → end rest ≡ Err at → last_named found left ≡ Err (refused_for at)
unfolding last_named
last_behind found left rest name place at read some over =
    rw (named_some found left rest name place read some, over) refl

pub last_some : (found : List ℕ → Option ℕ) (left rest : Left) (name : List ℕ) (place : ℕ)
    (behind : Unit {0} × Left) → word Name left ≡ Ok (name, rest) → found name ≡ Some place
    → end rest ≡ Ok behind → last_named found left ≡ Ok place
unfolding last_named
last_some found left rest name place behind read some over =
    rw (named_some found left rest name place read some, over) refl

pub ruleset named_lemmas =
    (named_none, named_missing, named_some, last_none, last_missing, last_behind, last_some)
