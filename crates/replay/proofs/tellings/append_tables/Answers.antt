use Rattle.std.proofs.Common.{◌≡◌, ◌+◌, ◌∙◌, ap, sym, append_assoc}
use Rattle.std.proofs.Common.{append-nil, List, ℕ, ◌++◌, drop, map}
use Rattle.std.proofs.lemmas.List.{drop_all}
use Rattle.telling.specs.Telling.{told_keys}
use Rattle.replay.specs.Tellings.{table_text, tables_from}
use Rattle.replay.proofs.Shown.{tables_more}
use Rattle.replay.proofs.tellings.append_tables.Goals as goal

pub loop-before-preserved : goal.loop-before-preserved
loop-before-preserved c =
    let keys : map (λ key. key.now) c.as_slice.result.now
    ≡ told_keys c.args.pushed.now c.args.teller.now c.loop-before.before c.args.now =
    rw c.as_slice.ensures.value c.in_ok-keys.ensures in
    let rest : List ℕ = tables_from c.args.conn c.args.pushed.now c.args.teller.now c.args.now
    (c.loop-before.before + 1) (drop (c.loop-before.before + 1) c.args.pushed.now) in
    ap (λ (text : List ℕ). text ++ rest) c.in_ok-append_table.ensures
    ∙ append_assoc c.loop-before.out.items (table_text c.args.conn c.index-pushed-before.result
    (map (λ key. key.now) c.as_slice.result.now)) rest
    ∙ ap (λ (ks : List (List ℕ)). c.loop-before.out.items
    ++ (table_text c.args.conn c.index-pushed-before.result ks ++ rest)) keys
    ∙ ap (λ (text : List ℕ). c.loop-before.out.items ++ text)
    (sym (tables_more c.args.conn c.args.pushed.now c.args.teller.now c.args.now
    c.loop-before.before c.index-pushed-before.result c.loop-before-test.true
    c.index-pushed-before.is)) ∙ c.loop-before.invariant

pub returns : goal.returns
unfolding tables_from
returns c =
    sym (append-nil c.loop-before.out.items)
    ∙ ap (λ tables. c.loop-before.out.items ++ tables_from c.args.conn c.args.pushed.now
    c.args.teller.now c.args.now c.loop-before.before tables)
    (sym (drop_all c.loop-before.before c.args.pushed.now c.loop-before-test.false))
    ∙ c.loop-before.invariant
