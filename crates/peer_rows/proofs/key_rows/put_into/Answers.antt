use Rattle.std.proofs.Common.{◌≡◌, ◌∙◌, Option, length, subst}
use Rattle.std.specs.BTreeMap.{is_at}
use Rattle.std.specs.Map.{lookup}
use Rattle.std.specs.Option.{option_copied}
use Rattle.std.specs.Ordering.{nat_cmp}
use Rattle.peer_rows.specs.Most.{AreMosts, AreRaised}
use Rattle.peer_rows.specs.Peers.{ArePeers}
use Rattle.peer_rows.specs.declared.row.Row.{Row}
use Rattle.peer_rows.proofs.Peers.{are-put}
use Rattle.peer_rows.proofs.Totals.{mosts-put}
use Rattle.peer_rows.proofs.key_rows.put_into.Goals as goal

pub get-requires : goal.get-requires
get-requires c =
    let are : ArePeers c.in-Many.page = rw c.in-Many.is at c.requires.are in
    (are-put c.args.peer c.in-Many.page c.put-in-Many.new.self c.args.row are
    c.in_ok-old-in-Many.ensures.ok).sorted

pub returns-in_ok-old-in-Many-clause-summed : goal.returns-in_ok-old-in-Many-clause-summed
returns-in_ok-old-in-Many-clause-summed c =
    let are : ArePeers c.in-Many.page = rw c.in-Many.is at c.requires.are in
    let summed : AreMosts c.in-Many.mosts c.in-Many.page = rw c.in-Many.is at c.requires.summed in
    let own = is_at (nat_cmp c.args.peer) in
    let went : option_copied c.as_ref.result ≡ lookup own c.in-Many.page =
    c.as_ref.ensures.value ∙ c.in_ok-old-in-Many.ensures.old in
    mosts-put c.args.peer c.in-Many.mosts c.add.new.self c.take_off.new.self
    c.in-Many.page c.put-in-Many.new.self c.args.row are.sorted summed
    c.add.ensures.columns
    (subst (λ (row : Option Row). AreRaised row c.in-Many.mosts c.add.new.self
    (length c.add.new.self)) c.get.ensures c.add.ensures.sums)
    c.take_off.ensures.columns
    (subst (λ (row : Option Row). AreRaised row c.take_off.new.self c.add.new.self
    (length c.take_off.new.self)) went c.take_off.ensures.sums)
    c.in_ok-old-in-Many.ensures.ok

pub returns-in_ok-old-in-Paged-clause-summed : goal.returns-in_ok-old-in-Paged-clause-summed
returns-in_ok-old-in-Paged-clause-summed c =
    let are : ArePeers c.in-Paged.pages = rw c.in-Paged.is at c.requires.are in
    let summed : AreMosts c.in-Paged.mosts c.in-Paged.pages =
    rw c.in-Paged.is at c.requires.summed in
    let own = is_at (nat_cmp c.args.peer) in
    let went : option_copied c.as_ref-in-Paged.result ≡ lookup own c.in-Paged.pages =
    c.as_ref-in-Paged.ensures.value ∙ c.in_ok-old-in-Paged.ensures.old in
    mosts-put c.args.peer c.in-Paged.mosts c.add-in-Paged.new.self c.take_off-in-Paged.new.self
    c.in-Paged.pages c.put-in-Paged.new.self c.args.row are.sorted summed
    c.add-in-Paged.ensures.columns
    (subst (λ (row : Option Row). AreRaised row c.in-Paged.mosts c.add-in-Paged.new.self
    (length c.add-in-Paged.new.self)) c.get-in-Paged.ensures c.add-in-Paged.ensures.sums)
    c.take_off-in-Paged.ensures.columns
    (subst (λ (row : Option Row). AreRaised row c.take_off-in-Paged.new.self c.add-in-Paged.new.self
    (length c.take_off-in-Paged.new.self)) went c.take_off-in-Paged.ensures.sums)
    c.in_ok-old-in-Paged.ensures.ok
