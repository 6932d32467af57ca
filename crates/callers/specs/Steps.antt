-- What may come to the calls for a lock, in any order, and what the laws say of it.
use Rattle.std.specs.Prelude.{ℕ, ◌≡◌, ◌⊎◌, Bool, true, false, List, [], ◌∷◌, ◌++◌, Some}
use Rattle.callers.specs.Calls.{closed, emptied, handed, has_lock, lost, somebody_waits, tries_refused, unlocked, unwanted, wanted}
use Rattle.callers.specs.declared.calls.Calls.{Calls}
use Rattle.callers.specs.declared.calls.Holder.{Holder}
use Rattle.callers.specs.declared.calls.Phase.{Phase}
use Rattle.callers.specs.declared.calls.Phase.TheVariants.{Idle, Asking, Inside}

pub data CallStep : Type 0 where
  -- a call comes in this phase: whether it only tries
  Wants : Phase → Bool → CallStep
  -- a call does not wait any more: whether it only tried
  Unwants : Bool → CallStep
  -- somebody else has the lock
  RefusesTries : Phase → CallStep
  -- the session would hand the lock to a call: whether all votes count
  Hands : Phase → Bool → CallStep
  -- a call gives the lock back that had it under this request
  Unlocks : ℕ → CallStep
  -- the lock may be lost
  MayBeLost : CallStep
  -- all that wait fail
  Empties : CallStep
  -- the session closes
  Closes : CallStep

abbrev pub call_stepped : Calls → CallStep → Calls
call_stepped c (Wants phase tries) = wanted c phase tries
call_stepped c (Unwants tries) = unwanted c tries
call_stepped c (RefusesTries phase) = tries_refused c phase
call_stepped c (Hands phase counts) = handed c phase counts
call_stepped c (Unlocks request) = unlocked c request
call_stepped c MayBeLost = lost c
call_stepped c Empties = emptied c
call_stepped c Closes = closed c

-- the calls after these, in order
abbrev pub all_call_stepped : Calls → List CallStep → Calls
all_call_stepped c [] = c
all_call_stepped c (s ∷ steps) = all_call_stepped (call_stepped c s) steps

-- ---- what the laws say

-- a call has the lock under this request
abbrev pub HasLock : Calls → ℕ → Type 0
HasLock c request = (h : Holder) × (c.holder ≡ Some h) × (h.request ≡ request)

-- among these steps the call that had the lock under this request gave it back
pub record GaveBack (c : Calls) (steps : List CallStep) (request : ℕ) : Type 0 where
  pub before : List CallStep
  pub rest : List CallStep
  pub are : steps ≡ before ++ Unlocks request ∷ rest
  pub had : HasLock (all_call_stepped c before) request

-- none of these gives back what was had under this request
abbrev pub KeepsLock : ℕ → CallStep → Type 0
KeepsLock request (Unlocks other) = other ≡ request → ⊥
KeepsLock request (Wants phase tries) = Unit {0}
KeepsLock request (Unwants tries) = Unit {0}
KeepsLock request (RefusesTries phase) = Unit {0}
KeepsLock request (Hands phase counts) = Unit {0}
KeepsLock request MayBeLost = Unit {0}
KeepsLock request Empties = Unit {0}
KeepsLock request Closes = Unit {0}

-- Whoever waits is served: a call has the lock, or it is asked for, or votes are waited for that do not count yet. If nobody waits the session
-- does not ask.
abbrev pub CallsAreServed : Calls → Phase → Bool → Bool → Type 0
CallsAreServed c Idle counts doubtful = (has_lock c ≡ true) ⊎ (somebody_waits c ≡ false)
CallsAreServed c Asking counts doubtful = (has_lock c ≡ true) ⊎ (somebody_waits c ≡ true)
CallsAreServed c (Inside request) counts doubtful =
    (has_lock c ≡ true) ⊎ ((somebody_waits c ≡ true) × (counts ≡ false) × (doubtful ≡ false))
