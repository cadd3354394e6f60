use Rattle.std.proofs.Common.{◌≡◌, ◌<◌, length, nat_lt, ap, sym, ◌∙◌, subst}
use Rattle.std.specs.Prelude.{filter}
use Rattle.std.specs.List.{AllByRecursion}
use Rattle.std.specs.Option.{option_map, option_copied}
use Rattle.std.specs.Ordering.{nat_cmp, is_lt}
use Rattle.expiry_wheel.specs.Entries.{first_beyond}
use Rattle.expiry_wheel.specs.Items.{first_item}
use Rattle.expiry_wheel.specs.Lent.{lent_entry}
use Rattle.expiry_wheel.specs.Moments.{entries_of}
use Rattle.expiry_wheel.proofs.Steps.{and_true}
use Rattle.expiry_wheel.proofs.Grouped.{first_beyond-entries_of, filter-same, is_lt-nat_cmp}
use Rattle.expiry_wheel.proofs.Grouped.{first-of_groups, some_beyond, not_none}
use Rattle.expiry_wheel.proofs.ordered.OrderedDue.beyond.Goals as goal

pub returns-in_err-later : goal.returns-in_err-later
returns-in_err-later g c =
    let ms = c.self.inside.moments.entries in
    let left : c.range.result ≡ filter (λ m. nat_lt c.args.at m.0) ms = c.range.ensures.between tt
    ∙ filter-same _ _ (λ m. and_true (is_lt (nat_cmp c.args.at m.0))
    ∙ is_lt-nat_cmp c.args.at m.0) ms in
    ap (option_map lent_entry) c.from_residual.ensures
    ∙ sym (first_beyond-entries_of g.T.Ord.cmp c.args.at ms c.self.invariant
    ∙ ap (λ ns. first_item (entries_of ns)) (sym left ∙ c.in_err-later.ensures.steps.0))
    ∙ ap (first_beyond c.args.at) c.self.view_is

pub returns-in_err-first : goal.returns-in_err-first
returns-in_err-first g c =
    let ms = c.self.inside.moments.entries in
    let left : c.range.result ≡ filter (λ m. nat_lt c.args.at m.0) ms = c.range.ensures.between tt
    ∙ filter-same _ _ (λ m. and_true (is_lt (nat_cmp c.args.at m.0))
    ∙ is_lt-nat_cmp c.args.at m.0) ms in
    absurd (not_none c.in_ok-later.together.now
    (subst (AllByRecursion (λ m. 0 < length m.1)) (sym left ∙ c.in_ok-later.ensures.steps)
    (some_beyond g.T.Ord.cmp c.args.at ms c.self.invariant)).0
    (sym c.first.ensures.first ∙ ap option_copied c.in_err-first.was))

pub returns : goal.returns
returns g c =
    let ms = c.self.inside.moments.entries in
    let left : c.range.result ≡ filter (λ m. nat_lt c.args.at m.0) ms = c.range.ensures.between tt
    ∙ filter-same _ _ (λ m. and_true (is_lt (nat_cmp c.args.at m.0))
    ∙ is_lt-nat_cmp c.args.at m.0) ms in
    sym (first_beyond-entries_of g.T.Ord.cmp c.args.at ms c.self.invariant
    ∙ first-of_groups c.in_ok-later.later.now c.in_ok-first.field-0.now c.in_ok-later.together.now
    (filter (λ m. nat_lt c.args.at m.0) ms) c.next.new.self
    (sym left ∙ c.in_ok-later.ensures.steps) (sym c.first.ensures.first
    ∙ ap option_copied c.in_ok-first.was))
    ∙ ap (first_beyond c.args.at) c.self.view_is
