-- The lines of filters, one behind the other, and that a checked filter has few conditions.
use Rattle.std.proofs.Common.{◌≡◌, ℕ, suc, ◌-◌, ◌<◌, ◌≤◌, true, false, eqb, List, []}
use Rattle.std.proofs.Common.{◌∷◌, ◌++◌, length, get_or, take, drop, refl, ap, sym, subst, ◌∙◌}
use Rattle.std.proofs.Common.{append_assoc, append-nil, arith}
use Rattle.std.proofs.lemmas.Bool.Decides.{nat_tests}
use Rattle.std.proofs.lemmas.List.{take_rest}
use Rattle.std.specs.List.{AllByRecursion}
use Rattle.std.specs.Prelude.{slice_index_or}
use Rattle.agg_types.specs.Check.{config_faults}
use Rattle.agg_types.specs.declared.config.Config.{Config}
use Rattle.agg_types.specs.declared.config.Filter.{Filter}
use Rattle.agg_types.specs.declared.limits.TheConstants.{MOST_CONDS}
use Rattle.fleet_model.specs.Answers.{no_filter}
use Rattle.fleet_model.specs.State.{State}
use Rattle.fleet_model.proofs.Checked.{conds_few}
use Rattle.key_text.proofs.Begins.{begins_then}
use Rattle.answer_text.specs.KeyAnswer.{AppendsKey, AppendsVerdict, AppendsVerdicts}
use Rattle.answer_text.specs.KeyAnswer.{AreVerdictLines, HasFew, holders_text, of_table}

-- nothing was appended for no filter
pub no_lines : (state : State) (key out : List ℕ) → AppendsVerdicts state key [] out out
no_lines state key out = record { text = []; is = sym (append-nil out); lines = refl }

-- a filter of another table has no line
pub other_then : (state : State) (table : ℕ) (key : List ℕ) (filter : Filter)
    (filters : List Filter) (old new : List ℕ) → eqb filter.table table ≡ false
    → AppendsVerdicts state key (of_table table filters) old new
    → AppendsVerdicts state key (of_table table (filter ∷ filters)) old new
other_then state table key filter filters old new other more = rw other more

-- the line of the first, and then those of the others
pub first_then : (state : State) (table : ℕ) (key : List ℕ) (filter : Filter)
    (filters : List Filter) (old middle new : List ℕ) → eqb filter.table table ≡ true
    → AppendsVerdict state key filter old middle
    → AppendsVerdicts state key (of_table table filters) middle new
    → AppendsVerdicts state key (of_table table (filter ∷ filters)) old new
first_then state table key filter filters old middle new its first more =
    let both : AppendsVerdicts state key (filter ∷ of_table table filters) old new = record {
      text = first.0 ++ more.text;
      is = more.is ∙ ap (λ text. text ++ more.text) first.1 ∙ append_assoc old first.0 more.text;
      lines = (first.0, more.text, refl, first.2, more.lines);
    } in
    rw its both

-- the same, of filters of which this is the first
pub first_in : (state : State) (table : ℕ) (key : List ℕ) (filters : List Filter)
    (filter : Filter) (old middle new : List ℕ) → filter ≡ get_or filters 0 filter
    → 1 ≤ length filters → filter.table ≡ table
    → AppendsVerdict state key filter old middle
    → AppendsVerdicts state key (of_table table (take (length filters - 1) (drop 1 filters)))
    middle new
    → AppendsVerdicts state key (of_table table filters) old new
first_in state table key [] filter old middle new is some its first more =
    absurd (omega (arith, some))
first_in state table key (f ∷ filters) filter old middle new is some its first more =
    first_then state table key f filters old middle new
    (subst (λ (g : Filter). eqb g.table table ≡ true) is (so filter.table table its))
    (subst (λ (g : Filter). AppendsVerdict state key g old middle) is first)
    (subst (λ (fs : List Filter). AppendsVerdicts state key (of_table table fs) middle new)
    (take_rest (f ∷ filters) 1) more)
  where
    so : (a b : ℕ) → a ≡ b → eqb a b ≡ true
    so a b same = grind (arith, nat_tests)

-- those of a table's filters behind the lines of the peers
pub key_then : (state : State) (table : ℕ) (key : List ℕ) (filters : List Filter)
    (old middle new : List ℕ) → filters ≡ state.config.filters
    → middle ≡ old ++ holders_text state table key
    → AppendsVerdicts state key (of_table table filters) middle new
    → AppendsKey state table key old new
key_then state table key filters old middle new all first more = (
  holders_text state table key ++ more.text,
  more.is ∙ ap (λ text. text ++ more.text) first
      ∙ append_assoc old (holders_text state table key) more.text,
  (
    more.text,
    refl,
    subst (λ (fs : List Filter). AreVerdictLines state key (of_table table fs) more.text) all
        more.lines,
  ),
)

each_few : (filters : List Filter)
    → ((i : ℕ) → i < length filters
    → length (slice_index_or filters i no_filter).conds ≤ MOST_CONDS)
    → AllByRecursion HasFew filters
each_few [] few = tt
each_few (filter ∷ filters) few =
    (few 0 (omega arith), each_few filters (λ i within. few (suc i) (omega (arith, within))))

-- each filter of a checked configuration has few conditions
pub all_few : (config : Config) → config_faults config ≡ [] → AllByRecursion HasFew config.filters
all_few config none =
    each_few config.filters (λ i within. conds_few config i no_filter within none)

pub ruleset line_lemmas = (begins_then, no_lines, other_then, first_then)

pub ruleset key_lemmas = (begins_then, key_then)
