-- Fair rounds: what has to happen in a stretch of steps. All else is up to an adversary.
use Rattle.std.specs.Prelude.{ℕ, ◌≡◌, ◌≢◌, ◌+◌, ◌*◌, ◌<◌, ◌≤◌, nat_lt, if◌then◌else◌, true, List, [], ◌∷◌, ◌++◌, length, Option, None, Some, slice_get}
use Rattle.std.specs.List.{AllByRecursion, Contains}
use Rattle.message.specs.declared.message.Message.{Message}
use Rattle.message.specs.declared.message.Message.TheVariants as kinds
use Rattle.message.specs.declared.message.VoterBody.{VoterBody}
use Rattle.message.specs.declared.message.VoterBody.TheVariants as asks
use Rattle.requester.specs.Words.{is_asking, is_inside}
use Rattle.world_state.specs.declared.step.Step.{Step}
use Rattle.world_state.specs.declared.step.Step.TheVariants.{Ask, Deliver, Leave, GiveUp, RemindClient, RemindVoter, Exchange}
use Rattle.world.specs.Runs.{run_of}
use Rattle.world.specs.Waiting.{block}
use Rattle.world_state.specs.Steps.{Dealing, WorldState, client_at}

-- Message k arrives in these steps, and each message that is sent on its arrival arrives after it.
pub record IsAnswered (deal : Dealing) (w : WorldState) (steps : List Step) (k : ℕ) : Type 0 where
  pub first : List Step
  pub rest : List Step
  pub split : steps ≡ first ++ Deliver k ∷ rest
  pub answers : (j : ℕ) → length (run_of deal first w).sent ≤ j → j < length (run_of deal (first ++ Deliver k ∷ []) w).sent
      → Contains rest (Deliver j)

-- This reminder is among the steps. Each message that it sends arrives after it, and so do the answers
-- to that.
pub record IsReminded (deal : Dealing) (w : WorldState) (steps : List Step) (reminder : Step) : Type 0 where
  pub first : List Step
  pub rest : List Step
  pub split : steps ≡ first ++ reminder ∷ rest
  pub arrive : (k : ℕ) → length (run_of deal first w).sent ≤ k → k < length (run_of deal (first ++ reminder ∷ []) w).sent
      → IsAnswered deal (run_of deal (first ++ reminder ∷ []) w) rest k

-- A fair round: everybody is reminded, and who is inside when it begins leaves. Anything may happen
-- besides.
pub record IsFairRound (deal : Dealing) (w : WorldState) (steps : List Step) : Type 0 where
  pub clients : (c : ℕ) → c < length w.clients → IsReminded deal w steps (RemindClient c)
  pub voters : (v : ℕ) → v < length w.voters → IsReminded deal w steps (RemindVoter v)
  pub leaves : (c : ℕ) → is_inside (client_at w.clients c).phase ≡ true → Contains steps (Leave c)

-- fair rounds, one after the other
abbrev pub AreFairRounds : Dealing → WorldState → List (List Step) → Type 0
AreFairRounds deal w [] = Unit {0}
AreFairRounds deal w (r ∷ rs) = IsFairRound deal w r × AreFairRounds deal (run_of deal r w) rs

-- the steps of these rounds
abbrev pub steps_of : List (List Step) → List Step
steps_of [] = []
steps_of (r ∷ rs) = r ++ steps_of rs

-- 1 if message k is one of the first `old` and its body is that of a REQUEST, else 0
abbrev pub late_body : ℕ → ℕ → VoterBody → ℕ
late_body old k (asks.Request stamp) = if nat_lt k old then 1 else 0
late_body old k (asks.Relinquish grant) = 0
late_body old k (asks.Release stamp) = 0

-- the same of message k as it was sent, if it was
abbrev pub late_message : ℕ → ℕ → Option Message → ℕ
late_message old k None = 0
late_message old k (Some (kinds.ToVoter m)) = late_body old k m.body
late_message old k (Some (kinds.ToClient m)) = 0

-- 1 if the step is the arrival of a REQUEST that is one of the first `old` messages, else 0
abbrev pub late_step : ℕ → List Message → Step → ℕ
late_step old sent (Ask c) = 0
late_step old sent (Deliver k) = late_message old k (slice_get sent k)
late_step old sent (Leave c) = 0
late_step old sent (GiveUp c) = 0
late_step old sent (RemindClient c) = 0
late_step old sent (RemindVoter v) = 0
late_step old sent Exchange = 0

-- how many of these steps are such arrivals; `sent` are the messages that were sent before them
abbrev pub late_steps : ℕ → List Message → List Step → ℕ
late_steps old sent [] = 0
late_steps old sent (s ∷ steps) = late_step old sent s + late_steps old sent steps

-- How often REQUESTs arrive later than in the round after that in which they were sent. `old` messages
-- were sent before the previous round began; in the first of these rounds no REQUEST is late.
abbrev pub late_in : Dealing → ℕ → WorldState → List (List Step) → ℕ
late_in deal old w [] = 0
late_in deal old w (r ∷ rs) = late_steps old w.sent r + late_in deal (length w.sent) (run_of deal r w) rs

-- Nobody asked, entered or gave up: each client has its stamp, and who asked asks.
pub record IsStill (w u : WorldState) : Type 0 where
  pub stamps : (c : ℕ) → (client_at u.clients c).stamp ≡ (client_at w.clients c).stamp
  pub asks : (c : ℕ) → is_asking (client_at w.clients c).phase ≡ true → is_asking (client_at u.clients c).phase ≡ true

-- 1 if the step is a withdrawal, else 0
abbrev pub give_up : Step → ℕ
give_up (Ask c) = 0
give_up (Deliver k) = 0
give_up (Leave c) = 0
give_up (GiveUp c) = 1
give_up (RemindClient c) = 0
give_up (RemindVoter v) = 0
give_up Exchange = 0

-- how many of these steps are withdrawals
abbrev pub give_ups_in : List Step → ℕ
give_ups_in [] = 0
give_ups_in (s ∷ steps) = give_up s + give_ups_in steps

-- none of these steps is a withdrawal of this client
abbrev pub DoesNotGiveUp : ℕ → List Step → Type 0
DoesNotGiveUp c steps = AllByRecursion (λ s. s ≢ GiveUp c) steps

-- k fair rounds in which nothing is late and nobody gives up; `old` messages were sent before the round
-- before the first
pub record IsTimely (deal : Dealing) (old : ℕ) (w : WorldState) (k : ℕ) (rounds : List (List Step)) : Type 0 where
  pub fair : AreFairRounds deal w rounds
  pub count : length rounds ≡ k
  pub in_time : late_in deal old w rounds ≡ 0
  pub kept_up : give_ups_in (steps_of rounds) ≡ 0

-- Grants of each voter that are enough for k blocks of rounds, if a of n clients ask: the rounds of
-- `fair_rounds_can_be_made` take at most 2 a + 2 grants each, and one is left.
abbrev pub grants_for : ℕ → ℕ → ℕ → ℕ
grants_for a n k = k * block n * (2 * a + 2) + 1
