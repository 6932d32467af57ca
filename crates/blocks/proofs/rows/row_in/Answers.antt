use Rattle.std.proofs.Common.{arith}
use Rattle.blocks.proofs.BlockLemmas.{no_bytes, past_table}
use Rattle.blocks.proofs.rows.row_in.Goals as goal

pub returns-then-table-start-clause-read : goal.returns-then-table-start-clause-read
returns-then-table-start-clause-read c = no_bytes c.args.table.now c.args.number (let short = c.if-table-start.true in omega arith)

pub returns-then-table-start-clause-only : goal.returns-then-table-start-clause-only
returns-then-table-start-clause-only c = λ rows are. past_table c.args.table.now rows c.args.number are (let short = c.if-table-start.true in omega arith)
