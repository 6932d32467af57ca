-- The worst load when one voter is down.
use Rattle.std.specs.Prelude.{◌≡◌, ℕ, ◌<◌, List, [], ◌∷◌}
use Rattle.certificate.specs.Certificates.{Weighted}
use Rattle.certificate.specs.Ratios.{IsAtMost}
use Rattle.failures.specs.Failures.{Bears, MeetsEach}
use Rattle.losses.specs.Losses.{load_left, tickets_left}
use Rattle.losses.specs.declared.one_down.OneDown.{OneDown}
use Rattle.losses.specs.declared.one_down.OneDown.TheVariants.{NoQuorum, NoTicket, Load}

-- The loss of a voter leaves a quorum and a ticket.
pub record LeavesTicket (w : Weighted) (i : ℕ) : Type 0 where
  pub quorum : Bears w.system.quorums (i ∷ [])
  pub ticket : 0 < tickets_left (i ∷ []) w

-- what the loss of this voter leaves: no quorum; a quorum, but no ticket; or tickets with this load
abbrev pub Leaves : Weighted → ℕ → OneDown → Type 0
Leaves w i NoQuorum = MeetsEach w.system.quorums (i ∷ [])
Leaves w i NoTicket = Bears w.system.quorums (i ∷ []) × (tickets_left (i ∷ []) w ≡ 0)
Leaves w i (Load load) = LeavesTicket w i × (load ≡ load_left (i ∷ []) w)

-- The loss of each voter below n that leaves a quorum leaves tickets whose load is at most this one. One
-- of them has exactly this load.
pub record IsWorstLoad (n : ℕ) (w : Weighted) (load : ℕ × ℕ) : Type 0 where
  pub tickets : (i : ℕ) → i < n → Bears w.system.quorums (i ∷ []) → 0 < tickets_left (i ∷ []) w
  pub most : (i : ℕ) → i < n → Bears w.system.quorums (i ∷ []) → IsAtMost (load_left (i ∷ []) w) load
  pub reached : (i : ℕ) × (i < n) × Leaves w i (Load load)

-- the worst of what the loss of a voter below n leaves: no loss leaves a quorum; some loss leaves a
-- quorum, but no ticket; or this is the greatest load that is left
abbrev pub IsWorstBelow : ℕ → Weighted → OneDown → Type 0
IsWorstBelow n w NoQuorum = (i : ℕ) → i < n → MeetsEach w.system.quorums (i ∷ [])
IsWorstBelow n w NoTicket = (i : ℕ) × (i < n) × Leaves w i NoTicket
IsWorstBelow n w (Load load) = IsWorstLoad n w load

-- the same of all voters
abbrev pub IsWorst : Weighted → OneDown → Type 0
IsWorst w found = IsWorstBelow w.system.voters w found
