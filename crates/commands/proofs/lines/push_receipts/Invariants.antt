use Rattle.std.proofs.Common.{◌≡◌, ◌++◌, string_bytes, take}
use Rattle.std.specs.List.{flat_map}
use Rattle.commands.specs.Commands.{receipt_line}
use Rattle.commands.proofs.lines.push_receipts.Given as goal

-- the lines of the receipts so far stand behind what there was
abbrev pub invariant-loop-receipt : goal.invariant-loop-receipt
invariant-loop-receipt l = string_bytes l.text ≡ string_bytes l.fn.text ++ flat_map receipt_line (take l.receipt-index l.receipts)
