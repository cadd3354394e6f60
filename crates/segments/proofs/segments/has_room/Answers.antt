use Rattle.std.proofs.Common.{◌-◌, length, arith, refl, rules}
use Rattle.std.proofs.lemmas.Bool.{ltb-false}
use Rattle.segments.proofs.Joined.{complete_seen}
use Rattle.segments.proofs.segments.has_room.Goals as goal

pub returns-in-Some-clause-no : goal.returns-in-Some-clause-no
returns-in-Some-clause-no g c =
    λ no. complete_seen c.args.segments.now.items c.in-Some.last.now
    (length c.args.segments.now.items - 1) c.requires refl (search rules)
    (omega (arith, ltb-false c.len.result 1024 no))
