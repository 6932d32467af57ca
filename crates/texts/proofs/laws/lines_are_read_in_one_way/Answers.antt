use Rattle.std.proofs.Common.{[]}
use Rattle.texts.proofs.LineLemmas.{same_lines, same_next, same_value}
use Rattle.texts.proofs.laws.lines_are_read_in_one_way.Goals as goal

pub returns-clause-value : goal.returns-clause-value
returns-clause-value g c = same_value g.L.Line.form g.met.L.Line.is_form

pub returns-clause-end : goal.returns-clause-end
returns-clause-end g c = λ x y more hx hy e. (same_next g.L.Line.form g.met.L.Line.is_form x y more [] hx hy e).1

pub returns-clause-lines : goal.returns-clause-lines
returns-clause-lines g c = λ text rest other xs ys a b. same_lines g.L.Line.form g.met.L.Line.is_form text xs ys rest other a b
