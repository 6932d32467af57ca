-- rounds in two parts
use Rattle.std.proofs.Common.{◌≡◌, ℕ, zero, suc, ◌+◌, ◌≤◌, Bool, true, false, List, [], ◌∷◌, ◌++◌, length, Option, Some, None, refl, sym, ap, subst, ◌∙◌, arith, append_assoc}
use Rattle.std.specs.Prelude.{if◌then◌else◌, nat_lt, slice_get}
use Rattle.std.proofs.lemmas.Bool.{false≢true}
use Rattle.std.proofs.lemmas.Bool.Decides.{nat_tests}
use Rattle.message.specs.declared.message.Message.{Message}
use Rattle.message.specs.declared.message.Message.TheVariants as kinds
use Rattle.message.specs.declared.message.VoterBody.{VoterBody}
use Rattle.message.specs.declared.message.VoterBody.TheVariants as asks
use Rattle.world_state.specs.declared.step.Step.{Step}
use Rattle.world_state.specs.declared.step.Step.TheVariants.{Ask, Deliver, Leave, GiveUp, RemindClient, RemindVoter, Exchange}
use Rattle.world.specs.Runs.{run_of}
use Rattle.world_state.specs.Steps.{Dealing, WorldState}
use Rattle.world.proofs.Plans.{run_then}
use Rattle.progress.specs.LiveRounds.{AreLiveRounds, Live}
use Rattle.progress.specs.Moves.{of_steps}
use Rattle.progress.specs.Rounds.{late_body, late_in, late_message, late_step, late_steps, steps_of}

pub steps-append : (a b : List (List Step)) → steps_of (a ++ b) ≡ steps_of a ++ steps_of b
steps-append [] b = refl
steps-append (r ∷ a) b = ap (λ l. r ++ l) (steps-append a b) ∙ sym (append_assoc r (steps_of a) (steps_of b))

pub live-split : (live : Live) (deal : Dealing) (a b : List (List Step)) (x : WorldState) → AreLiveRounds of_steps live deal x (a ++ b) → AreLiveRounds of_steps live deal x a × AreLiveRounds of_steps live deal (run_of deal (steps_of a) x) b
live-split live deal [] b x h = (tt, h)
live-split live deal (r ∷ a) b x h =
    let rest = live-split live deal a b (run_of deal r x) h.1 in
    ((h.0, rest.0), subst (λ (u : WorldState). AreLiveRounds of_steps live deal u b) (sym (run_then deal r (steps_of a) x)) rest.1)

pub late-split : (deal : Dealing) (old : ℕ) (a b : List (List Step)) (x : WorldState)
    → (later : ℕ) × (late_in deal old x (a ++ b) ≡ late_in deal old x a + late_in deal later (run_of deal (steps_of a) x) b)
late-split deal old [] b x = (old, omega arith)
late-split deal old (r ∷ a) b x =
    let rest = late-split deal (length x.sent) a b (run_of deal r x) in (
      rest.0,
      (let same = ap (λ (u : WorldState). late_in deal rest.0 u b) (run_then deal r (steps_of a) x) in let both = rest.1 in omega arith),
    )

none_if : (b : Bool) → b ≡ false → ◌≡◌ {A = ℕ} (if b then 1 else 0) 0
none_if true e = absurd (false≢true (sym e))
none_if false e = refl

none_late_body : (k : ℕ) (b : VoterBody) → late_body 0 k b ≡ 0
none_late_body k (asks.Request t) = none_if (nat_lt k 0) (grind (arith, nat_tests))
none_late_body k (asks.Relinquish n) = refl
none_late_body k (asks.Release t) = refl

none_late_message : (k : ℕ) (o : Option Message) → late_message 0 k o ≡ 0
none_late_message k None = refl
none_late_message k (Some (kinds.ToVoter m)) = none_late_body k m.body
none_late_message k (Some (kinds.ToClient m)) = refl

none_late_step : (sent : List Message) (s : Step) → late_step 0 sent s ≡ 0
none_late_step sent (Ask c) = refl
none_late_step sent (Deliver k) = none_late_message k (slice_get sent k)
none_late_step sent (Leave c) = refl
none_late_step sent (GiveUp c) = refl
none_late_step sent (RemindClient c) = refl
none_late_step sent (RemindVoter v) = refl
none_late_step sent Exchange = refl

-- in the first round no REQUEST is late
pub none_late : (sent : List Message) (steps : List Step) → late_steps 0 sent steps ≡ 0
none_late sent [] = refl
none_late sent (s ∷ steps) = (let here = none_late_step sent s in let rest = none_late sent steps in omega arith)

pub late-more : (deal : Dealing) (old : ℕ) (rounds : List (List Step)) (x : WorldState) → late_in deal 0 x rounds ≤ late_in deal old x rounds
late-more deal old [] x = omega arith
late-more deal old (r ∷ rs) x = (let none = none_late x.sent r in omega arith)

pub split_rounds : (m : ℕ) (rounds : List (List Step)) → m ≤ length rounds → (a : List (List Step)) × (b : List (List Step)) × (rounds ≡ a ++ b) × (length a ≡ m) × (length rounds ≡ m + length b)
split_rounds zero rounds most = ([], rounds, refl, refl, omega arith)
split_rounds (suc m) [] most = absurd (omega arith)
split_rounds (suc m) (r ∷ rs) most =
    let rest = split_rounds m rs (omega arith) in
    (r ∷ rest.0, rest.1, ap (λ l. r ∷ l) rest.2, (let count = rest.3 in omega arith), (let count = rest.4 in omega arith))
