use Rattle.std.proofs.Common.{◌≡◌, ◌∙◌, ◌++◌, append_assoc, codes, decimal}
use Rattle.std.proofs.lemmas.Result.{on_ok_weaker}
use Rattle.agg_types.specs.declared.limits.TheConstants.{MOST_FILTERS, MOST_IGNORED, MOST_LOGS}
use Rattle.agg_types.specs.declared.limits.TheConstants.{MOST_PEERS, MOST_PUSHES}
use Rattle.agg_types.specs.declared.limits.TheConstants.{MOST_RANKS, MOST_TABLES}
use Rattle.config_text.proofs.Counted.{behind, text_behind}
use Rattle.config_text.proofs.explained.append_limits.Goals as goal

pub returns : goal.returns
returns c =
    let before = c.args.out.now.items in
    let so1 = codes "there may be " ++ decimal MOST_PEERS in
    let so2 = so1 ++ codes " peers, " ++ decimal MOST_TABLES in
    let so3 = so2 ++ codes " tables, " ++ decimal MOST_FILTERS in
    let so4 = so3 ++ codes " filters, " ++ decimal MOST_RANKS in
    let so5 = so4 ++ codes " ranked lists, " ++ decimal MOST_PUSHES in
    let so6 = so5 ++ codes " pushes, " ++ decimal MOST_LOGS in
    let so7 = so6 ++ codes " logs, " ++ decimal MOST_IGNORED in
    let at1 : c.append_counted.new.out.items ≡ before ++ so1 =
    c.in_ok-append_counted.ensures ∙ append_assoc before (codes "there may be ")
    (decimal MOST_PEERS) in
    let at2 : c.append_counted-2.new.out.items ≡ before ++ so2 =
    behind before c.append_counted.new.out.items _ so1 (codes " peers, ")
    (decimal MOST_TABLES) at1
    c.in_ok-append_counted-2.ensures in
    let at3 : c.append_counted-3.new.out.items ≡ before ++ so3 =
    behind before c.append_counted-2.new.out.items _ so2 (codes " tables, ")
    (decimal MOST_FILTERS) at2
    c.in_ok-append_counted-3.ensures in
    let at4 : c.append_counted-4.new.out.items ≡ before ++ so4 =
    behind before c.append_counted-3.new.out.items _ so3 (codes " filters, ")
    (decimal MOST_RANKS) at3
    c.in_ok-append_counted-4.ensures in
    let at5 : c.append_counted-5.new.out.items ≡ before ++ so5 =
    behind before c.append_counted-4.new.out.items _ so4 (codes " ranked lists, ")
    (decimal MOST_PUSHES) at4
    c.in_ok-append_counted-5.ensures in
    let at6 : c.append_counted-6.new.out.items ≡ before ++ so6 =
    behind before c.append_counted-5.new.out.items _ so5 (codes " pushes, ")
    (decimal MOST_LOGS) at5
    c.in_ok-append_counted-6.ensures in
    let at7 : c.append_counted-7.new.out.items ≡ before ++ so7 =
    behind before c.append_counted-6.new.out.items _ so6 (codes " logs, ")
    (decimal MOST_IGNORED) at6
    c.in_ok-append_counted-7.ensures in
    on_ok_weaker c.append_text.result (λ more. text_behind before _ _ so7
    (codes " ignored tables") at7 more)
    c.append_text.ensures.ok
