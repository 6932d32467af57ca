-- the bounds without late REQUESTs
use Rattle.std.proofs.Common.{◌≡◌, ℕ, ◌+◌, ◌*◌, ◌≤◌, Bool, true, false, List, [], ◌∷◌, ◌++◌, arith}
use Rattle.std.specs.Prelude.{◌&&◌, nat_lt, if◌then◌else◌}
use Rattle.std.proofs.Math.Nat.{mul-le-mul_left}
use Rattle.requester.specs.Words.{is_asking}
use Rattle.world_state.specs.declared.step.Step.{Step}
use Rattle.world_state.specs.declared.step.Step.TheVariants.{Ask, Deliver, Leave, GiveUp, RemindClient, RemindVoter, Exchange}
use Rattle.world.specs.Runs.{run_of}
use Rattle.world.specs.Waiting.{block, bound, patient_bound}
use Rattle.world_state.specs.Steps.{Dealing, WorldState, client_at}
use Rattle.progress.specs.Patience.{hasty, hasty_from, hasty_steps}
use Rattle.progress.specs.Rounds.{give_up, give_ups_in, steps_of}
use Rattle.progress.proofs.run.Along.{next}

-- ---- hasty withdrawals are withdrawals

one_at_most : (b : Bool) → ◌≤◌ (if b then 1 else 0) 1
one_at_most true = omega arith
one_at_most false = omega arith

one_give_up : (u x : WorldState) (s : Step) → hasty u x s ≤ give_up s
one_give_up u x (Ask c) = omega arith
one_give_up u x (Deliver k) = omega arith
one_give_up u x (Leave c) = omega arith
one_give_up u x (GiveUp c) = one_at_most (is_asking (client_at x.clients c).phase && nat_lt (client_at u.clients c).stamp (client_at x.clients c).stamp)
one_give_up u x (RemindClient c) = omega arith
one_give_up u x (RemindVoter v) = omega arith
one_give_up u x Exchange = omega arith

few_steps : (deal : Dealing) (u x : WorldState) (steps : List Step) → hasty_steps deal u x steps ≤ give_ups_in steps
few_steps deal u x [] = omega arith
few_steps deal u x (s ∷ steps) = (let here = one_give_up u x s in let rest = few_steps deal u (next deal x s) steps in omega arith)

give_ups-append : (a b : List Step) → give_ups_in (a ++ b) ≡ give_ups_in a + give_ups_in b
give_ups-append [] b = omega arith
give_ups-append (s ∷ a) b = (let rest = give_ups-append a b in omega arith)

pub few_hasty : (deal : Dealing) (u v w : WorldState) (rounds : List (List Step)) → hasty_from deal u v w rounds ≤ give_ups_in (steps_of rounds)
few_hasty deal u v w [] = omega arith
few_hasty deal u v w (r ∷ rs) =
    let here = few_steps deal u w r in
    let rest = few_hasty deal v w (run_of deal r w) rs in
    let both = give_ups-append r (steps_of rs) in
    omega arith

-- ---- bounds

pub bound-of_law : (n g hasty late rounds : ℕ) → hasty ≤ g → late ≡ 0 → bound n g ≤ rounds → block n * (3 * n + 2 * hasty + late) ≤ rounds
bound-of_law n g hasty late rounds few none enough = (let less = mul-le-mul_left (block n) (let m : 3 * n + 2 * hasty + late ≤ 3 * n + 2 * g = omega arith in m) in omega arith)

pub patient_bound-of_law : (n hasty late rounds : ℕ) → hasty ≡ 0 → late ≡ 0 → patient_bound n ≤ rounds → block n * (3 * n + 2 * hasty + late) ≤ rounds
patient_bound-of_law n hasty late rounds patient none enough = (let less = mul-le-mul_left (block n) (let m : 3 * n + 2 * hasty + late ≤ 3 * n = omega arith in m) in omega arith)
