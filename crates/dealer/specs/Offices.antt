-- Offices, clerks and receipts, as contracts see them.
use Rattle.std.specs.Prelude.{◌≡◌, ℕ, ◌+◌, ◌<◌, List, length, map}
use Rattle.std.specs.List.{All}
use Rattle.atomic_table.specs.Seated.{TableId}
use Rattle.certificate.specs.Certificates.{Weighted}
use Rattle.dealer.specs.Cycles.{quorum_of_ticket}
use Rattle.dealer.specs.declared.receipt.Receipt.{Receipt}
use Rattle.dealer.specs.declared.fault.DealFault.{DealFault}
use Rattle.dealer.specs.declared.fault.DealFault.TheVariants.{QuotaSpent, OutOfMemory as NoRoom}
use Rattle.dealer.specs.declared.fault.OfficeFault.{OfficeFault}
use Rattle.dealer.specs.declared.fault.OfficeFault.TheVariants.{ClerksOut, OutOfMemory}

-- the name of an office: its table of tickets, and the plan of its cycle
pub record OfficeName : Type 0 where
  pub table : TableId
  pub cycle : Weighted

-- an office: its name, and how many tickets its clerks may draw in all
pub record OfficeState : Type 0 where
  pub name : OfficeName
  pub quota : ℕ

-- a clerk: its office, how many tickets it may still draw, and its receipts
pub record ClerkState : Type 0 where
  pub office : OfficeName
  pub rest : ℕ
  pub receipts : List Receipt

-- the receipt of a ticket
abbrev pub receipt_of : Weighted → ℕ → Receipt
receipt_of w ticket = record { ticket = ticket; quorum = quorum_of_ticket w ticket }

-- the tickets of these receipts, in the same order
abbrev pub tickets_of : List Receipt → List ℕ
tickets_of receipts = map (λ r. r.ticket) receipts

-- each receipt has the quorum of its ticket
abbrev pub AreByCycle : Weighted → List Receipt → Type 0
AreByCycle w receipts = All (λ r. r.quorum ≡ quorum_of_ticket w r.ticket) receipts

-- a clerk's share of the office's tickets: how many it drew, and how many it may still draw
abbrev pub share_of : ClerkState → ℕ
share_of clerk = length clerk.receipts + clerk.rest

-- when a draw may fail with this fault, by how many tickets the clerk may still draw
abbrev pub RefusesTicket : ℕ → DealFault → Type 0
RefusesTicket rest QuotaSpent = rest ≡ 0
RefusesTicket rest NoRoom = 0 < rest

-- the fault says by how much the clerk's share is short of the office's quota
abbrev pub AreOut : ℕ → ℕ → OfficeFault → Type 0
AreOut quota share (ClerksOut q) = (0 < q) × (share + q ≡ quota)
AreOut quota share OutOfMemory = ⊥

-- when a close may fail with this fault, by the office's quota and the clerk's share of it
abbrev pub RefusesAccount : ℕ → ℕ → OfficeFault → Type 0
RefusesAccount quota share (ClerksOut q) = (0 < q) × (share + q ≡ quota)
RefusesAccount quota share OutOfMemory = share ≡ quota
