use Rattle.std.proofs.Common.{◌-◌, arith}
use Rattle.agg_types.specs.declared.limits.TheConstants.{LONGEST_COMMAND_LINE}
use Rattle.admin_worker.proofs.Kept.{kept_full, kept_marked, kept_whole}
use Rattle.admin_worker.proofs.line.Line.add.Goals as goal

pub returns-then-len-gt-LONGEST_COMMAND_LINE-clause-ok
    : goal.returns-then-len-gt-LONGEST_COMMAND_LINE-clause-ok
returns-then-len-gt-LONGEST_COMMAND_LINE-clause-ok c = λ line is.
    kept_full line c.args.bytes.now c.args.self.now.bytes.items is
    (omega (arith, c.len-len.ensures, c.if-len-gt-LONGEST_COMMAND_LINE.true))

pub returns-in_default-clause-ok : goal.returns-in_default-clause-ok
returns-in_default-clause-ok c = λ line is.
    kept_whole line c.args.bytes.now c.args.self.now.bytes.items c.parted_at.result.0.now
    c.parted_at.result.1.now c.extend_from_slice.new.self.items
    (LONGEST_COMMAND_LINE - c.len-len.result) is
    (omega (arith, c.len-len.ensures, c.if-len-gt-LONGEST_COMMAND_LINE.false))
    c.parted_at.ensures.front c.parted_at.ensures.behind c.in_default.ensures
    c.in_ok-extend_from_slice.ensures.ok

pub returns-clause-ok : goal.returns-clause-ok
returns-clause-ok c = λ line is.
    kept_marked line c.args.bytes.now c.args.self.now.bytes.items c.parted_at.result.0.now
    c.parted_at.result.1.now c.extend_from_slice.new.self.items c.extend_from_slice-2.new.self.items
    (LONGEST_COMMAND_LINE - c.len-len.result) c.in-Some.byte is
    (omega (arith, c.len-len.ensures, c.if-len-gt-LONGEST_COMMAND_LINE.false))
    c.parted_at.ensures.front c.parted_at.ensures.behind c.in-Some.ensures
    c.in_ok-extend_from_slice.ensures.ok
    (grind (arith, c.extend_from_slice-2.ensures.ok, c.if-is_err.false))
