use Rattle.std.proofs.Common.{◌≡◌, ◌∙◌, ℕ, suc, List, [], ◌∷◌, ◌++◌, Some, ap, sym, map}
use Rattle.std.proofs.Common.{option_map, drop, drop-cons, get_or, ◌+◌, subst, arith}
use Rattle.std.specs.Borrow.{Bor}
use Rattle.command_line.specs.Networks.{network_of, network_parts, networks_of}
use Rattle.command_line.proofs.NetworkTexts.{one_read, with_front}
use Rattle.command_line.proofs.reading.read_networks.Goals as goal

-- one more text says a network
pub loop-text-preserved : goal.loop-text-preserved
loop-text-preserved c =
    let texts = c.args.texts.now in
    let at = c.loop-text.text-index in
    let networks = c.loop-text.networks.items in
    let view : Bor (List ℕ) → List ℕ = λ text. text.now in
    let none : Bor (List ℕ) = record { ref_ptr = (0, 0); now = [] } in
    let rest = map view (drop (at + 1) texts) in
    let next : suc at ≡ at + 1 = omega arith in
    let split : drop at texts ≡ get_or texts at none ∷ drop (at + 1) texts =
    subst (λ n. drop at texts ≡ get_or texts at none ∷ drop n texts) next
    (drop-cons texts at none c.loop-text-test.true) in
    let read : Some (network_parts c.in-Some.network) ≡ network_of (get_or texts at none).now =
    ap (option_map network_parts) (sym c.in-Some.is) ∙ c.in_ok-read_network.ensures
    ∙ ap network_of c.as_bytes.ensures.value in
    ap (λ items. with_front (map network_parts items) (networks_of rest))
    c.in_ok-push-in-Some.ensures.items
    ∙ one_read networks c.in-Some.network rest (get_or texts at none).now read
    ∙ ap (λ ts. with_front (map network_parts networks) (networks_of (map view ts)))
    (sym split)
    ∙ c.loop-text.invariant
