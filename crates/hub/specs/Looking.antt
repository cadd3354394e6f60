-- A lens that is lent to a look.
use Rattle.std.specs.Prelude.{◌≡◌, Option}
use Rattle.std.specs.Borrow.{Fml, MutBor, RestsIfNone}
use Rattle.hub.specs.Views.{Seeing}
use Rattle.hub.specs.declared.lens.Look.{Look}
use Rattle.hub.specs.contracts.lens.Lens.{the_row}

-- at None the lens has seen what it had seen before; else it ends as the look leaves it
abbrev pub Rests : MutBor Seeing → Option Look → Fml
Rests s r = RestsIfNone the_row s (λ k. k.lens.ghost_name) r (λ n. n.seen ≡ s.now.seen)
