use Rattle.std.proofs.Common.{◌∙◌, sym, ap, Some}
use Rattle.std.proofs.lemmas.Map.Views.{tells_apart}
use Rattle.std.proofs.lemmas.Map.Lookups.{exact_bytes}
use Rattle.peer_rows.proofs.keyed.is_of.Goals as goal

pub returns-in-Some : goal.returns-in-Some
returns-in-Some c = λ same. sym c.in-Some.ensures
    ∙ ap Some (tells_apart exact_bytes c.in-Some.own.now c.args.key.now (sym c.eq.ensures ∙ same))
