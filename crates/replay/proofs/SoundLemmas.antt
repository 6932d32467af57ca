-- A sound record has no fault.
use Rattle.std.proofs.Common.{◌≡◌, ℕ, ◌*◌, List, Option, None, Some, MatchOption, length, refl, ◌∙◌, subst, sym, arith}
use Rattle.std.specs.List.{All}
use Rattle.std.proofs.lemmas.List.{length-map}
use Rattle.std.proofs.lemmas.List.Elements.{All-contains}
use Rattle.certificate.specs.Certificates.{Weighted, cycle_len}
use Rattle.dealer.specs.Accounts.{IsWholeCycles}
use Rattle.replay.specs.declared.fault.ReplayFault.{ReplayFault}
use Rattle.replay.specs.declared.fault.ReplayFault.TheVariants.{TicketTwice, TicketMissing, WrongQuorum, PassTwice, PassMissing, WrongRegister, BadLine, OutOfMemory}
use Rattle.run_outcome.specs.Entries.{Draw}
use Rattle.replay.specs.Records.{EachOnce, Entries, IsFirstFault, IsFound, IsNumberFault, IsRegisterFault, IsRight, IsSoundRecord, IsTicketFault, numbers_of, tickets_of}
use Rattle.replay.proofs.AscendingLemmas.{IsMissing-EachOnce, NoneTwice-EachOnce}

-- the faults of the parts, in their order

pub IsFound-tickets : (w : Weighted) (e : Entries) (fault : ReplayFault) → IsTicketFault (tickets_of e.draws) fault → IsFound w e fault
IsFound-tickets w e OutOfMemory h = h
IsFound-tickets w e (TicketTwice t) h = h
IsFound-tickets w e (TicketMissing t) h = h
IsFound-tickets w e (BadLine line) h = h
IsFound-tickets w e fault h = absurd h

pub IsFound-numbers : (w : Weighted) (e : Entries) (fault : ReplayFault) → EachOnce (tickets_of e.draws) → All (IsRight w) e.draws → IsNumberFault (numbers_of e.passes) fault → IsFound w e fault
IsFound-numbers w e OutOfMemory counts right h = h
IsFound-numbers w e (PassTwice p) counts right h = ((counts, right), h)
IsFound-numbers w e (PassMissing p) counts right h = ((counts, right), h.0, h.1)
IsFound-numbers w e (BadLine line) counts right h = h
IsFound-numbers w e fault counts right h = absurd h

pub IsFound-register : (w : Weighted) (e : Entries) (fault : ReplayFault) → EachOnce (tickets_of e.draws) → All (IsRight w) e.draws → EachOnce (numbers_of e.passes)
    → IsRegisterFault e fault → IsFound w e fault
IsFound-register w e (WrongRegister q) counts right up h = ((counts, right), up, h.0, h.1)
IsFound-register w e (BadLine line) counts right up h = h
IsFound-register w e OutOfMemory counts right up h = h
IsFound-register w e fault counts right up h = absurd h

-- a sound record has no fault, except out of memory
pub IsSoundRecord-no_fault : (w : Weighted) (e : Entries) (fault : ReplayFault) → IsSoundRecord w e → IsFirstFault w e fault → fault ≡ OutOfMemory
IsSoundRecord-no_fault w e (TicketTwice t) sound h = absurd (NoneTwice-EachOnce (tickets_of e.draws) sound.tickets t h.0)
IsSoundRecord-no_fault w e (TicketMissing t) sound h = absurd (IsMissing-EachOnce (tickets_of e.draws) t sound.tickets h.1.0)
IsSoundRecord-no_fault w e (WrongQuorum t) sound h = let wrong = h.1.0 in absurd (wrong.3 (All-contains (IsRight w) e.draws wrong.0 sound.quorums wrong.1))
IsSoundRecord-no_fault w e (PassTwice p) sound h = absurd (NoneTwice-EachOnce (numbers_of e.passes) sound.numbers p h.1.0)
IsSoundRecord-no_fault w e (PassMissing p) sound h = absurd (IsMissing-EachOnce (numbers_of e.passes) p sound.numbers h.2.0)
IsSoundRecord-no_fault w e (WrongRegister q) sound h = absurd (h.3 (sound.register ∙ sym h.2))
IsSoundRecord-no_fault w e (BadLine line) sound h = absurd h
IsSoundRecord-no_fault w e OutOfMemory sound h = refl

-- the tickets of a sound record fill cycles, where they are as many
pub IsWholeCycles-tickets : (v w : Weighted) (draws : List Draw) (tickets : List ℕ) (k : ℕ) → v ≡ w → tickets ≡ tickets_of draws → EachOnce (tickets_of draws)
    → length draws ≡ k * cycle_len w → IsWholeCycles v k tickets
IsWholeCycles-tickets v w draws tickets k same are counts long =
    let all : length (tickets_of draws) ≡ k * cycle_len w = length-map draws (λ d. d.1) ∙ long in
    let whole : IsWholeCycles w k (tickets_of draws) = record { in_all = all; each_once = λ t lt. counts.each_once t (omega (arith, all)) } in
    subst (λ (x : Weighted). IsWholeCycles x k tickets) (sym same) (subst (λ (ts : List ℕ). IsWholeCycles w k ts) (sym are) whole)

-- a fault that was found is the first one
pub IsFirstFault-IsFound : (w : Weighted) (e : Entries) (fault : ReplayFault) → IsFound w e fault → IsFirstFault w e fault
IsFirstFault-IsFound w e OutOfMemory h = tt
IsFirstFault-IsFound w e fault h = h

-- the register is looked at last
pub register_at_end : (w : Weighted) (e : Entries) (found : Option ReplayFault) → EachOnce (tickets_of e.draws) → All (IsRight w) e.draws → EachOnce (numbers_of e.passes)
    → MatchOption found (e.register ≡ length e.passes) (IsRegisterFault e) → MatchOption found (IsSoundRecord w e) (IsFound w e)
register_at_end w e None counts right up is = record { tickets = counts; quorums = right; numbers = up; register = is }
register_at_end w e (Some fault) counts right up is = IsFound-register w e fault counts right up is
