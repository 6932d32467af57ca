use Rattle.std.proofs.Common.{sym}
use Rattle.envelope.proofs.LockLemmas.{first_len, has_space, is_first, parts_are}
use Rattle.line_words.proofs.TestLemmas.{fails, passes}
use Rattle.envelope.proofs.lock_lines.first_line.Goals as goal

pub returns-in_default-cut_at-clause-read : goal.returns-in_default-cut_at-clause-read
returns-in_default-cut_at-clause-read c name line rest is =
    has_space c.args.text.now c.in-Some.first.now c.in-Some.rest.now name line rest c.in-Some.ensures (sym c.in_default-cut_at.ensures) is

pub returns-then-not-is_line_name-clause-read : goal.returns-then-not-is_line_name-clause-read
returns-then-not-is_line_name-clause-read c name line rest is =
    let parts = parts_are c.args.text.now c.in-Some.first.now c.in-Some.rest.now c.in-Some-cut_at.name.now c.in-Some-cut_at.line.now name line rest
    c.in-Some.ensures c.in-Some-cut_at.ensures is in
    fails c.is_line_name.result c.is_line_name.ensures c.if-not-is_line_name.true (rw parts.0 is.named)

pub returns-clause-written : goal.returns-clause-written
returns-clause-written c =
    is_first c.args.text.now c.in-Some.first.now c.in-Some.rest.now c.in-Some-cut_at.name.now c.in-Some-cut_at.line.now c.in-Some.ensures c.in-Some-cut_at.ensures
    (passes c.is_line_name.result c.is_line_name.ensures c.if-not-is_line_name.false)

pub returns-clause-len : goal.returns-clause-len
returns-clause-len c =
    first_len c.args.text.now c.in-Some-cut_at.name.now c.in-Some-cut_at.line.now c.in-Some.rest.now
    (is_first c.args.text.now c.in-Some.first.now c.in-Some.rest.now c.in-Some-cut_at.name.now c.in-Some-cut_at.line.now c.in-Some.ensures c.in-Some-cut_at.ensures
    (passes c.is_line_name.result c.is_line_name.ensures c.if-not-is_line_name.false))

pub returns-clause-read : goal.returns-clause-read
returns-clause-read c name line rest is =
    parts_are c.args.text.now c.in-Some.first.now c.in-Some.rest.now c.in-Some-cut_at.name.now c.in-Some-cut_at.line.now name line rest
    c.in-Some.ensures c.in-Some-cut_at.ensures is
