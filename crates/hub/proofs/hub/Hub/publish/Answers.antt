use Rattle.std.proofs.Common.{◌≡◌, sym, subst}
use Rattle.hub.specs.Copied.{whole}
use Rattle.hub.specs.Kept.{Pressed}
use Rattle.hub.proofs.Held.{published}
use Rattle.hub.proofs.hub.Hub.publish.Goals as goal

pub put_back-requires : goal.put_back-requires
put_back-requires g c = λ done. subst (λ (p : Pressed). p.shown ≡ whole p.taken)
    (sym c.reader-press.ensures)
    (published c.args.press c.show_all-press.result.0 c.show_all-press.result.1
    c.show_all-press.ensures.taken c.show_all-press.ensures.shown done)
