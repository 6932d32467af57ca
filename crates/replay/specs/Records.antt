-- Records of a run: who drew which ticket and received which quorum, who passed by which number,
-- and what the register was at the end. A record is sound if its tickets and its numbers are those
-- that a counter hands out from 0. Each ticket also has to name the quorum at its place of the
-- plan's cycle.
use Rattle.std.specs.Prelude.{ℕ, ◌≡◌, ◌≢◌, ◌<◌, ◌≤◌, List, length, map}
use Rattle.std.specs.List.{All, Contains}
use Rattle.numbers.specs.Counts.{times}
use Rattle.numbers.specs.Sums.{AreAllBelow}
use Rattle.certificate.specs.Certificates.{Weighted}
use Rattle.dealer.specs.Cycles.{quorum_of_ticket}
use Rattle.quorum_set.specs.declared.bridge.Side.{Side}
use Rattle.quorum_set.specs.declared.bridge.Side.TheVariants.{First, Second}
use Rattle.run_outcome.specs.declared.record.RunRecord.{RunRecord}
use Rattle.run_outcome.specs.Entries.{Draw, Pass}
use Rattle.replay.specs.declared.check.Gap.{Gap}
use Rattle.replay.specs.declared.check.Gap.TheVariants.{Twice, Missing}
use Rattle.replay.specs.declared.fault.ReplayFault.{ReplayFault}
use Rattle.replay.specs.declared.fault.ReplayFault.TheVariants.{TicketTwice, TicketMissing, WrongQuorum, PassTwice, PassMissing, WrongRegister, BadLine, OutOfMemory}

-- what a record says of the draws of one plan and of all passes; it also says how many messages were lost
pub record Entries : Type 0 where
  pub draws : List Draw
  pub passes : List Pass
  pub register : ℕ

-- the draws of one plan
abbrev pub draws_on : Side → RunRecord → List Draw
draws_on First r = r.draws.items
draws_on Second r = r.draws2.items

-- the entries of a record, with the draws of one plan; all passes count
abbrev pub entries_on : Side → RunRecord → Entries
entries_on side r = record { draws = draws_on side r; passes = r.passes.items; register = r.register }

-- the entries of a record, with the draws of the first plan
abbrev pub entries_of : RunRecord → Entries
entries_of r = entries_on First r

-- the tickets that were drawn
abbrev pub tickets_of : List Draw → List ℕ
tickets_of draws = map (λ d. d.1) draws

-- the pass numbers
abbrev pub numbers_of : List Pass → List ℕ
numbers_of passes = map (λ p. p.1) passes

-- Sound records

-- n numbers are 0 to n - 1, each once, in any order
abbrev pub EachOnce : List ℕ → Type 0
EachOnce ns = AreAllBelow ns (length ns)

-- the draw names the quorum at its ticket's place of the cycle
abbrev pub IsRight : Weighted → Draw → Type 0
IsRight w d = d.2 ≡ quorum_of_ticket w d.1

-- A sound record:
-- - The tickets are 0, 1, 2 and so on, each drawn once, and each names its quorum by the cycle.
-- - The pass numbers are 0, 1, 2 and so on, each once.
-- - The register is the number of passes.
pub record IsSoundRecord (w : Weighted) (e : Entries) : Type 0 where
  pub tickets : EachOnce (tickets_of e.draws)
  pub quorums : All (IsRight w) e.draws
  pub numbers : EachOnce (numbers_of e.passes)
  pub register : e.register ≡ length e.passes

-- The first fault

-- the number occurs more than once
abbrev pub IsTwice : List ℕ → ℕ → Type 0
IsTwice ns n = 2 ≤ times n ns

-- the number is below how many there are, and does not occur
abbrev pub IsMissing : List ℕ → ℕ → Type 0
IsMissing ns n = (n < length ns) × (times n ns ≡ 0)

-- a draw of this ticket names another quorum than the cycle does
abbrev pub IsWrong : Weighted → List Draw → ℕ → Type 0
IsWrong w draws ticket = (d : Draw) × Contains draws d × (d.1 ≡ ticket) × ¬ (IsRight w d)

-- n is the smallest number for which P holds
abbrev pub IsLeast : (ℕ → Type 0) → ℕ → Type 0
IsLeast P n = P n × ((m : ℕ) → P m → n ≤ m)

-- no number occurs more than once
abbrev pub NoneTwice : List ℕ → Type 0
NoneTwice ns = (n : ℕ) → ¬ (IsTwice ns n)

-- the smallest number that occurs more than once, or if there is none, the smallest that is missing
abbrev pub IsFirstGap : List ℕ → Gap → Type 0
IsFirstGap ns (Twice n) = IsLeast (IsTwice ns) n
IsFirstGap ns (Missing n) = NoneTwice ns × IsLeast (IsMissing ns) n

-- the draws are those of a sound record
abbrev pub AreSoundDraws : Weighted → List Draw → Type 0
AreSoundDraws w draws = EachOnce (tickets_of draws) × All (IsRight w) draws

-- The first fault of a record. Each fault is looked for in the whole record before the next one,
-- and the smallest number is named. `OutOfMemory` says nothing about the record.
abbrev pub IsFirstFault : Weighted → Entries → ReplayFault → Type 0
IsFirstFault w e (TicketTwice t) = IsLeast (IsTwice (tickets_of e.draws)) t
IsFirstFault w e (TicketMissing t) = NoneTwice (tickets_of e.draws) × IsLeast (IsMissing (tickets_of e.draws)) t
IsFirstFault w e (WrongQuorum t) = EachOnce (tickets_of e.draws) × IsLeast (IsWrong w e.draws) t
IsFirstFault w e (PassTwice p) = AreSoundDraws w e.draws × IsLeast (IsTwice (numbers_of e.passes)) p
IsFirstFault w e (PassMissing p) =
    AreSoundDraws w e.draws × NoneTwice (numbers_of e.passes) × IsLeast (IsMissing (numbers_of e.passes)) p
IsFirstFault w e (WrongRegister q) =
    AreSoundDraws w e.draws × EachOnce (numbers_of e.passes) × (q ≡ length e.passes) × (e.register ≢ q)
IsFirstFault w e (BadLine line) = ⊥
IsFirstFault w e OutOfMemory = Unit {0}

-- the first fault of a record, and not `OutOfMemory`
abbrev pub IsFound : Weighted → Entries → ReplayFault → Type 0
IsFound w e OutOfMemory = ⊥
IsFound w e fault = IsFirstFault w e fault

-- Faults of each part of a record

-- a fault of the tickets: the smallest that occurs more than once, or if there is none, the
-- smallest that is missing
abbrev pub IsTicketFault : List ℕ → ReplayFault → Type 0
IsTicketFault tickets (TicketTwice t) = IsLeast (IsTwice tickets) t
IsTicketFault tickets (TicketMissing t) = NoneTwice tickets × IsLeast (IsMissing tickets) t
IsTicketFault tickets fault = ⊥

-- a fault of the pass numbers: the smallest that occurs more than once, or if there is none, the
-- smallest that is missing
abbrev pub IsNumberFault : List ℕ → ReplayFault → Type 0
IsNumberFault numbers (PassTwice p) = IsLeast (IsTwice numbers) p
IsNumberFault numbers (PassMissing p) = NoneTwice numbers × IsLeast (IsMissing numbers) p
IsNumberFault numbers fault = ⊥

-- a fault of the register: it is not the number of passes
abbrev pub IsRegisterFault : Entries → ReplayFault → Type 0
IsRegisterFault e (WrongRegister q) = (q ≡ length e.passes) × (e.register ≢ q)
IsRegisterFault e fault = ⊥
