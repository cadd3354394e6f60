use Rattle.std.proofs.Common.{◌≡◌, drop, fold, max}
use Rattle.haproxy_cfg.specs.Tables.{longest}
use Rattle.haproxy_cfg.proofs.lives.longest.Given as goal

abbrev pub invariant-loop-col : goal.invariant-loop-col
invariant-loop-col l =
    fold (λ most col. max most col.1) l.most (drop l.col-index l.cols) ≡ longest l.cols
