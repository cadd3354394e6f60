use Rattle.std.proofs.Common.{◌∙◌, sym, arith, refl}
use Rattle.peers_msg.proofs.Exact.{IsBytes, found_is, is_found, cut_is, is_cut, over_is, is_over}
use Rattle.peers_msg.proofs.Exact.{err_is}
use Rattle.peers_msg.proofs.integer.get_int.Goals as goal

pub returns-clause-found : goal.returns-clause-found
returns-clause-found c =
    let bytes = c.args.bytes.now in
    let fits : IsBytes bytes = λ i. omega (arith, c.type_inv.bytes i) in
    λ n len. (
      λ e. found_is bytes fits n len (sym c.read_int.ensures.exact ∙ e),
      λ h. c.read_int.ensures.exact ∙ is_found bytes n len h,
    )

pub returns-clause-cut : goal.returns-clause-cut
returns-clause-cut c =
    let bytes = c.args.bytes.now in
    let fits : IsBytes bytes = λ i. omega (arith, c.type_inv.bytes i) in (
      λ e. cut_is bytes fits (sym c.read_int.ensures.exact ∙ e),
      λ h. c.read_int.ensures.exact
          ∙ is_cut bytes h,
    )

pub returns-clause-over : goal.returns-clause-over
returns-clause-over c =
    let bytes = c.args.bytes.now in
    let fits : IsBytes bytes = λ i. omega (arith, c.type_inv.bytes i) in (
      λ e. let x = err_is c.read_int.result e in
          over_is bytes x.0 fits (sym c.read_int.ensures.exact
          ∙ x.1),
      λ h. rw (c.read_int.ensures.exact, is_over bytes h) refl,
    )
