use Rattle.std.proofs.Common.{◌≡◌, ◌∙◌, ◌∷◌, [], ◌++◌, ap, sym, subst, arith, rules, true}
use Rattle.std.proofs.Common.{List, ℕ, ◌+◌, ◌*◌, length}
use Rattle.std.specs.Result.{is_ok}
use Rattle.peer_rows.specs.Pages.{AreBefore, AreFrom, ArePages, joined}
use Rattle.peer_rows.proofs.Paging.{Rows, last_sorted, length_behind, parted_joined, parted_pages}
use Rattle.peer_rows.proofs.Paging.{two_behind}
use Rattle.peer_rows.proofs.pages.part_last.Goals as goal

pub part-later-requires : goal.part-later-requires
part-later-requires c =
    let all = c.in-Some-pop.ensures.items in
    let are : ArePages 0 (c.pop.new.self.items ++ c.in-Some-pop.last ∷ []) =
    subst (λ (ps : List Rows). ArePages 0 ps) (sym c.reserve.ensures.items ∙ all) c.requires in
    last_sorted 0 c.pop.new.self.items c.in-Some-pop.last are

-- the pages afterwards
after : (c : goal.Joined-push-2) → c.push-in-Some-later.new.self.items
    ≡ c.pop.new.self.items ++ c.part-later.new.self ∷ c.in-Some-later.later ∷ []
after c =
    let ok : is_ok c.push.result ≡ true = search rules in
    let also : is_ok c.push-in-Some-later.result ≡ true = search rules in
    let first : c.push.new.self.items ≡ c.pop.new.self.items ++ c.part-later.new.self ∷ [] =
    rw ok at c.push.ensures.items in
    let second : c.push-in-Some-later.new.self.items
    ≡ c.push.new.self.items ++ c.in-Some-later.later ∷ [] =
    rw also at c.push-in-Some-later.ensures.items in
    second ∙ ap (λ (ps : List Rows). ps ++ c.in-Some-later.later ∷ []) first
    ∙ two_behind c.pop.new.self.items c.part-later.new.self c.in-Some-later.later

-- the pages before
before : (c : goal.Joined-push-2) → c.args.pages.now.items
    ≡ c.pop.new.self.items ++ (c.part-later.new.self ++ c.in-Some-later.later) ∷ []
before c =
    sym c.reserve.ensures.items ∙ c.in-Some-pop.ensures.items
    ∙ ap (λ (p : Rows). c.pop.new.self.items ++ p ∷ []) c.in-Some-later.ensures.rows

pub returns-in-Some-later-clause-are : goal.returns-in-Some-later-clause-are
returns-in-Some-later-clause-are c =
    let pages = before c in
    let count = ap (λ (ps : List Rows). length ps) pages
    ∙ length_behind c.pop.new.self.items (c.part-later.new.self ++ c.in-Some-later.later) in
    let value = ap (λ (ps : List Rows). length ps) c.deref.ensures.value in
    let end : c.in-Some.end ≡ 0 + 32 * (length c.pop.new.self.items + 1) =
    omega (arith, count, value, c.deref.ensures.len, c.len.ensures, c.in-Some.ensures) in
    subst (λ (ps : List Rows). ArePages 0 ps) (sym (after c))
    (parted_pages 0 c.pop.new.self.items c.part-later.new.self c.in-Some-later.later
    (subst (λ (ps : List Rows). ArePages 0 ps) pages c.requires)
    (subst (λ (n : ℕ). AreBefore n c.part-later.new.self) end c.in-Some-later.ensures.before)
    (subst (λ (n : ℕ). AreFrom n c.in-Some-later.later) end c.in-Some-later.ensures.from))

pub returns-in-Some-later-clause-rows : goal.returns-in-Some-later-clause-rows
returns-in-Some-later-clause-rows c =
    ap joined (after c)
    ∙ parted_joined c.pop.new.self.items c.part-later.new.self c.in-Some-later.later
    ∙ ap joined (sym (before c))
