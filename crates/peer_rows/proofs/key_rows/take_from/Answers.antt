use Rattle.std.proofs.Common.{◌≡◌, ◌∙◌, Option, length, subst}
use Rattle.std.specs.BTreeMap.{is_at}
use Rattle.std.specs.Map.{lookup}
use Rattle.std.specs.Option.{option_copied}
use Rattle.std.specs.Ordering.{nat_cmp}
use Rattle.peer_rows.specs.Most.{AreMosts, AreRaised}
use Rattle.peer_rows.specs.declared.row.Row.{Row}
use Rattle.peer_rows.proofs.Totals.{mosts-taken}
use Rattle.peer_rows.proofs.key_rows.take_from.Goals as goal

pub returns-in-Many-clause-summed : goal.returns-in-Many-clause-summed
returns-in-Many-clause-summed c =
    let summed : AreMosts c.in-Many.mosts c.in-Many.page = rw c.in-Many.is at c.requires.summed in
    let went : option_copied c.as_ref.result
    ≡ lookup (is_at (nat_cmp c.args.peer)) c.in-Many.page =
    c.as_ref.ensures.value ∙ c.take-row.ensures.value in
    mosts-taken c.args.peer c.in-Many.mosts c.in-Many.mosts c.take_off.new.self
    c.in-Many.page c.take-row.new.self summed c.take_off.ensures.columns
    (subst (λ (row : Option Row). AreRaised row c.take_off.new.self c.in-Many.mosts
    (length c.take_off.new.self)) went c.take_off.ensures.sums) c.take-row.ensures.after

pub returns-in-Paged-clause-summed : goal.returns-in-Paged-clause-summed
returns-in-Paged-clause-summed c =
    let summed : AreMosts c.in-Paged.mosts c.in-Paged.pages =
    rw c.in-Paged.is at c.requires.summed in
    let went : option_copied c.as_ref-in-Paged.result
    ≡ lookup (is_at (nat_cmp c.args.peer)) c.in-Paged.pages =
    c.as_ref-in-Paged.ensures.value ∙ c.take-row-in-Paged.ensures.value in
    mosts-taken c.args.peer c.in-Paged.mosts c.in-Paged.mosts c.take_off-in-Paged.new.self
    c.in-Paged.pages c.take-row-in-Paged.new.self summed c.take_off-in-Paged.ensures.columns
    (subst (λ (row : Option Row). AreRaised row c.take_off-in-Paged.new.self c.in-Paged.mosts
    (length c.take_off-in-Paged.new.self)) went c.take_off-in-Paged.ensures.sums)
    c.take-row-in-Paged.ensures.after
