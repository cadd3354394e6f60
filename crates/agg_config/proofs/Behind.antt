-- A declaration behind others that have no fault.
use Rattle.std.proofs.Common.{◌≡◌, ℕ, ◌-◌, Bool, false, not, ◌&&◌, ◌||◌, List, [], ◌∷◌, ◌++◌}
use Rattle.std.proofs.Common.{length, map, remove, Some, refl, sym, ap, ◌∙◌, arith}
use Rattle.std.proofs.Common.{append-nil, append_assoc, length-append, Ok, Err}
use Rattle.std.specs.Prelude.{slice_get}
use Rattle.agg_types.specs.Check.{all_faults, each, fault_if, filter_faults, peer_faults}
use Rattle.agg_types.specs.Check.{ignored_faults, log_faults, push_faults, rank_faults}
use Rattle.agg_types.specs.Check.{rows_fit, table_faults}
use Rattle.agg_types.specs.Name.{is_name}
use Rattle.agg_types.specs.declared.check.ConfigFault.{ConfigFault}
use Rattle.agg_types.specs.declared.check.ConfigFault.TheVariants.{BadName, BadSize}
use Rattle.agg_types.specs.declared.config.Config.{Config}
use Rattle.line_words.proofs.Checked.{both_none}
use Rattle.agg_config.specs.Reading.{FailsFirst, Passes, Puts, bounds_again, declaring}
use Rattle.agg_config.specs.Reading.{faults_behind, is_me, wrong_check}
use Rattle.agg_config.specs.declared.causes.Wrong.{Wrong}
use Rattle.agg_config.specs.declared.declarations.Declaration.{Declaration}

-- what has no fault in a configuration without faults
pub record Parts (config : Config) : Type 0 where
  pub me : fault_if (not (is_name config.me)) BadName ≡ []
  pub peers : each peer_faults [] config.peers ≡ []
  pub tables : each table_faults [] config.tables ≡ []
  pub filters : each (filter_faults config.tables) [] config.filters ≡ []
  pub ranks : each (rank_faults config.tables) [] config.ranks ≡ []
  pub pushes : each (push_faults config.tables config.filters) [] config.pushes ≡ []
  pub rows : fault_if (not (rows_fit config.rows)) BadSize ≡ []
  pub logs : each (log_faults config.filters) [] config.logs ≡ []
  pub ignored : each (ignored_faults config.tables) [] config.ignored ≡ []

pub parts : (config : Config) → all_faults config ≡ [] → Parts config
parts config none =
    let a = both_none _ _ none in
    let b = both_none _ _ a.0 in
    let c = both_none _ _ b.0 in
    let d = both_none _ _ c.0 in
    let e = both_none _ _ d.0 in
    let f = both_none _ _ e.0 in
    let g = both_none _ _ f.0 in
    let h = both_none _ _ g.0 in
    record {
      me = h.0;
      peers = h.1;
      tables = g.1;
      filters = f.1;
      ranks = e.1;
      pushes = d.1;
      rows = c.1;
      logs = b.1;
      ignored = a.1;
    }

-- nothing behind a list
nil : {xs ys : List ConfigFault} → xs ≡ ys → xs ++ [] ≡ ys
nil {xs} is = append-nil xs ∙ is

nils : (xs : List ConfigFault) → xs ++ [] ++ [] ++ [] ++ [] ++ [] ++ [] ++ [] ≡ xs
nils xs = nil (nil (nil (nil (nil (nil (append-nil xs))))))

-- the faults of one more are all, where those before have none
each-more : {A : Type 0} (faults : List A → A → List ConfigFault) (before xs : List A) (x : A)
    → each faults before (xs ++ x ∷ []) ≡ each faults before xs ++ faults (before ++ xs) x
each-more faults before [] x =
    append-nil (faults before x) ∙ ap (λ l. faults l x) (sym (append-nil before))
each-more faults before (y ∷ ys) x =
    ap (λ l. faults before y ++ l) (each-more faults (before ++ y ∷ []) ys x
    ∙ ap (λ l. each faults (before ++ y ∷ []) ys ++ faults l x)
    (append_assoc before (y ∷ []) ys))
    ∙ sym (append_assoc (faults before y) (each faults (before ++ y ∷ []) ys)
    (faults (before ++ y ∷ ys) x))

each-one : {A : Type 0} (faults : List A → A → List ConfigFault) (xs : List A) (x : A)
    → each faults [] xs ≡ [] → each faults [] (xs ++ x ∷ []) ≡ faults xs x
each-one faults xs x none = each-more faults [] xs x ∙ ap (λ l. l ++ faults xs x) none

-- the faults of one more peer are all
peers_faults : (config : Config) (name : List ℕ) → all_faults config ≡ []
    → all_faults (record config { peers = config.peers ++ name ∷ [] })
    ≡ peer_faults config.peers name
peers_faults config name none =
    let p = parts config none in
    rw (
      p.me,
      each-one peer_faults config.peers name p.peers,
      p.tables,
      p.filters,
      p.ranks,
      p.pushes,
      p.rows,
      p.logs,
      p.ignored,
    ) (nils (peer_faults config.peers name))

-- the fault of a bound on all rows is the only one
pub rows_faults : (config : Config) (rows : ℕ) → all_faults config ≡ []
    → all_faults (record config { rows = Some rows })
    ≡ fault_if (not (rows_fit (Some rows))) BadSize
rows_faults config rows none =
    let p = parts config none in
    rw (
      p.me,
      p.peers,
      p.tables,
      p.filters,
      p.ranks,
      p.pushes,
      p.logs,
      p.ignored,
    ) (nil (append-nil (fault_if (not (rows_fit (Some rows))) BadSize)))

-- the last of a list is taken away
taken : {A : Type 0} (xs ys : List A) (x : A) → ys ≡ remove (xs ++ x ∷ [])
    (length (xs ++ x ∷ []) - 1) → ys ≡ xs
taken {A = A} xs ys x is =
    let place : length (xs ++ x ∷ []) - 1 ≡ length xs = omega (arith, length-append xs (x ∷ [])) in
    is ∙ ap (λ k. remove (xs ++ x ∷ []) k) place ∙ at_last xs
  where
    at_last : (xs : List A) → remove (xs ++ x ∷ []) (length xs) ≡ xs
    at_last [] = refl
    at_last (y ∷ ys) = ap (λ l. y ∷ l) (at_last ys)

-- what was put behind a list is taken away again
pub put_back : {A : Type 0} (xs : List A) (x : A) (longer left : List A) → longer ≡ xs ++ x ∷ []
    → left ≡ remove longer (length longer - 1) → left ≡ xs
put_back xs x longer left is gone =
    taken xs left x (gone ∙ ap (λ l. remove l (length l - 1)) is)

-- a first fault is the first where others follow
pub still_first : (faults others : List ConfigFault) (wrong : Wrong)
    → slice_get (map wrong_check faults) 0 ≡ Some wrong
    → slice_get (map wrong_check (faults ++ others)) 0 ≡ Some wrong
still_first [] others wrong e = absurd cc
still_first (first ∷ faults) others wrong e = e

-- the first of faults, as what is wrong
pub first_wrong : (faults : List ConfigFault) (fault : ConfigFault)
    → slice_get faults 0 ≡ Some fault
    → slice_get (map wrong_check faults) 0 ≡ Some (wrong_check fault)
first_wrong [] fault e = absurd cc
first_wrong (first ∷ faults) fault e = let same : first ≡ fault = cc in
    ap (λ f. Some (wrong_check f)) same

-- a peer with a fault, and one without
pub peer_wrong : (config : Config) (name : List ℕ) (fault : ConfigFault) (wrong : Wrong)
    → all_faults config ≡ [] → slice_get (peer_faults config.peers name) 0 ≡ Some fault
    → wrong ≡ wrong_check fault
    → Puts config (record config { peers = config.peers ++ name ∷ [] }) (Err wrong) config
peer_wrong config name fault wrong none first is =
    ((λ _. rw (peers_faults config name none, is) (first_wrong _ fault first)), refl)

pub peer_fine : (config : Config) (name : List ℕ) (peers : List (List ℕ)) (done : Unit {0})
    → all_faults config ≡ [] → peer_faults config.peers name ≡ []
    → peers ≡ config.peers ++ name ∷ []
    → Puts config (record config { peers = config.peers ++ name ∷ [] }) (Ok done)
    (record config { peers = peers })
peer_fine config name peers done none fine is =
    (peers_faults config name none ∙ fine, ap (λ ps. record config { peers = ps }) is)

-- a configuration with a fault
pub put_wrong : (config more after : Config) (fault : ConfigFault) (wrong : Wrong)
    → slice_get (all_faults more) 0 ≡ Some fault → wrong ≡ wrong_check fault → after ≡ config
    → Puts config more (Err wrong) after
put_wrong config more after fault wrong first is same =
    ((λ _. rw is (first_wrong _ fault first)), same)

-- a declaration that goes with the others, and one that doesn't
pub added : (config after : Config) (named told : Bool) (declaration : Declaration)
    → bounds_again config declaration ≡ false → (named && is_me declaration) ≡ false
    → all_faults (declaring config declaration) ≡ [] → after ≡ declaring config declaration
    → told ≡ (named || is_me declaration)
    → Passes config named (Ok (Some declaration)) after told
added config after named told declaration once first none is says = record {
  faultless = rw (once, none, first) refl;
  whole = is;
  told = says;
}

pub not_added : (config : Config) (named : Bool) (declaration : Declaration) (wrong : Wrong)
    → bounds_again config declaration ≡ false
    → FailsFirst wrong (map wrong_check (all_faults (declaring config declaration)))
    → FailsFirst wrong (faults_behind config named (Ok (Some declaration)))
not_added config named declaration wrong once fails = λ not.
    rw once (still_first (all_faults (declaring config declaration)) _ wrong (fails not))
