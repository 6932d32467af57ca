-- What an office and its clerks keep between any two calls.
use Rattle.std.specs.Prelude.{◌≡◌, ℕ, List, [], map}
use Rattle.atomic_table.specs.Seated.{TableId}
use Rattle.atomic_table.specs.Table.{Me}
use Rattle.dealer.specs.Offices.{receipt_of}
use Rattle.dealer.specs.declared.receipt.Receipt.{Receipt}
use Rattle.dealer.specs.declared.tickets.Hand.{Hand}
use Rattle.dealer.specs.declared.tickets.Sheet.{Sheet}

-- the table has one word, the next ticket, and was made with the office's sheet
pub record IsOffice (key : Sheet) (table : TableId) (sheet : Sheet) : Type 0 where
  pub same_sheet : key ≡ sheet
  pub one_word : table.words ≡ 1
  pub no_slots : table.slots ≡ 0

-- a clerk's fields agree with its hand: what it may still draw, and a receipt for each ticket
pub record IsClerk (me : Me (Unit {0}) Hand) (left : ℕ) (given : List Receipt) : Type 0 where
  pub rest : me.0.rest ≡ left
  pub receipts : given ≡ map (receipt_of me.0.cycle) me.0.drawn
  pub no_slots : me.1 ≡ []
