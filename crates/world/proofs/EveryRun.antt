-- Every run is one of happenings, in which nobody restarts.
use Rattle.std.proofs.Common.{◌≡◌, ℕ, ◌<◌, Bool, true, false, List, [], ◌∷◌, map, length, Result, Ok, Err, refl, sym, ap, subst, ◌∙◌, arith}
use Rattle.numbers.proofs.Lists.{AllByRecursion-weaker}
use Rattle.numbers.specs.Sets.{has}
use Rattle.message.specs.declared.message.Message.{Message}
use Rattle.message.specs.declared.message.Message.TheVariants as kinds
use Rattle.world_state.specs.declared.fault.WorldFault.{WorldFault}
use Rattle.world_state.specs.declared.step.Step.{Step}
use Rattle.world.specs.Ranges.{IsInRange, IsSound}
use Rattle.world_state.specs.Numbered.{IsAddressed, IsNumbered}
use Rattle.world.specs.Restarts.{Goes, Node, OneClient, OneVoter, Nobody, Saved, all_happen, save_and_send, happens, maker, save_unless}
use Rattle.world.specs.Runs.{AreLimits, after, run_of, start}
use Rattle.world_state.specs.Steps.{WorldState, Dealing, Outcome, client_at, step}
use Rattle.world.specs.Visible.{DealsFrom, DoMeet}
use Rattle.world.specs.Rules.{ClientLaws, VoterLaws}
use Rattle.world.specs.Coherence.{IsCoherent}
use Rattle.world.proofs.Added.{AreDrawn-run}
use Rattle.world.proofs.Claims.{Bounds}
use Rattle.world.proofs.ClientMoves.{member_below}
use Rattle.world.proofs.Exclusion.{quorum_busy}
use Rattle.world.proofs.Reached.{RunPremises, RunOk, are_quorums, start_ok}
use Rattle.world.proofs.Restarts.{all_ok, live_ok, saved_now}

-- ---- the live world

live_saved : (silent : Bool) (who : Node) (s : Saved) → (save_unless silent who s).live ≡ s.live
live_saved true who s = refl
live_saved false (OneClient c) s = refl
live_saved false (OneVoter v) s = refl
live_saved false Nobody s = refl

live_gone : (s : Saved) (who : Node) (r : Result Outcome WorldFault) → (save_and_send s who r).live ≡ after s.live r
live_gone s who (Ok o) = live_saved _ who (record s { live = o.state })
live_gone s who (Err fault) = refl

live_run : (deal : Dealing) (steps : List Step) (s : Saved) → (all_happen deal (map Goes steps) s).live ≡ run_of deal steps s.live
live_run deal [] s = refl
live_run deal (t ∷ steps) s = live_run deal steps (happens deal s (Goes t)) ∙ ap (run_of deal steps) (live_gone s (maker s.live t) (step deal s.live t))

-- after any steps from such a world
pub run_from : (b : Bounds) → RunPremises b → (deal : Dealing) → DealsFrom b.quorums deal → (steps : List Step) (w : WorldState) → RunOk b w → RunOk b (run_of deal steps w)
run_from b given deal deals steps w first_ok =
    let first : Saved = record { live = w; clients = w.clients; voters = w.voters } in
    let s = all_happen deal (map Goes steps) first in
    let ok = all_ok b given deal deals (map Goes steps) first (saved_now b w first_ok) in
    subst (λ (w : WorldState). RunOk b w) (live_run deal steps first) (record { clients = ok.sizes.0; voters = ok.sizes.1; world = live_ok b s ok; walked = ok.walked })

pub run_ok : (b : Bounds) → RunPremises b → (deal : Dealing) → DealsFrom b.quorums deal → (steps : List Step) → RunOk b (run_of deal steps (start b.voters b.clients b.limit))
run_ok b given deal deals steps = run_from b given deal deals steps (start b.voters b.clients b.limit) (start_ok b given)

-- ---- what holds of a run

IsAddressed-in_range : (b : Bounds) (w : WorldState) → length w.clients ≡ b.clients → length w.voters ≡ b.voters → (m : Message) → IsInRange b.voters b.clients b.limit m → IsAddressed w m
IsAddressed-in_range b w clients voters (kinds.ToVoter m) range = (subst (λ n. m.client < n) (sym clients) range.0, subst (λ n. m.voter < n) (sym voters) range.1)
IsAddressed-in_range b w clients voters (kinds.ToClient m) range = (subst (λ n. m.client < n) (sym clients) range.0, subst (λ n. m.voter < n) (sym voters) range.1)

pub numbered_by : (b : Bounds) → RunPremises b → (w : WorldState) → RunOk b w → IsNumbered w
numbered_by b given w ok =
    let clients = ok.clients in
    let voters = ok.voters in
    let few_clients = given.limits.few_clients in
    let few_voters = given.limits.few_voters in
    record {
      clients = λ c within. (ok.world.client_ids c (subst (λ n. c < n) ok.clients within)).id;
      voters = λ v within. ok.world.voter_ids v (subst (λ n. v < n) ok.voters within);
      few_clients = omega arith;
      few_voters = omega arith;
      messages = AllByRecursion-weaker (IsInRange b.voters b.clients b.limit) (IsAddressed w) (IsAddressed-in_range b w ok.clients ok.voters) w.sent ok.world.ranges;
    }

-- over every list of steps
pub every_run : ClientLaws → VoterLaws → (voters clients limit : ℕ) (quorums : List (List ℕ)) (deal : Dealing) (steps : List Step)
    → AreLimits voters clients limit → DoMeet voters quorums → DealsFrom quorums deal → IsSound voters clients limit (run_of deal steps (start voters clients limit))
every_run cs vs voters clients limit quorums deal steps limits meets deals =
    let b : Bounds = record { voters = voters; clients = clients; limit = limit; quorums = quorums } in
    let given : RunPremises b = record { client = cs; voter = vs; limits = limits; meet = meets } in
    let first = start voters clients limit in
    let ok = run_ok b given deal deals steps in
    let drawn = AreDrawn-run deal steps first (refl, refl) in
    record { exclusive = ok.walked.list; in_range = ok.world.ranges; draws = drawn.0; draws2 = drawn.1; numbered = numbered_by b given (run_of deal steps first) ok }

-- ---- what fits together

pub coherent_by : (b : Bounds) → RunPremises b → (w : WorldState) → RunOk b w → IsCoherent w
coherent_by b given w ok = record {
  numbered = numbered_by b given w ok;
  clients = λ c. (ok.world.clients c).sound;
  voters = λ v. (ok.world.voters v).sound;
  messages = ok.world.messages;
  held = ok.world.held;
  made = λ v c s is.
      let e = (ok.world.voters v).entries c s is in
      record { client = subst (λ n. c < n) (sym ok.clients) e.client; some = e.stamp.0; reached = e.reached };
  members = λ c v is. subst (λ n. v < n) (sym ok.voters) (member_below b (are_quorums b given.meet) (client_at w.clients c) (ok.world.clients c).quorum v is);
  common = λ c d busy_c busy_d.
      let j = quorum_busy b (client_at w.clients c) (ok.world.clients c) busy_c in
      let k = quorum_busy b (client_at w.clients d) (ok.world.clients d) busy_d in
      let both = given.meet.meets j.0 k.0 j.1 k.1 in
      record {
        voter = both.0;
        first = ap (λ (q : List ℕ). has q both.0) j.2 ∙ both.2;
        second = ap (λ (q : List ℕ). has q both.0) k.2 ∙ both.3;
      };
}

-- over every list of steps
pub every_run_coherent : ClientLaws → VoterLaws → (voters clients limit : ℕ) (quorums : List (List ℕ)) (deal : Dealing) (steps : List Step)
    → AreLimits voters clients limit → DoMeet voters quorums → DealsFrom quorums deal → IsCoherent (run_of deal steps (start voters clients limit))
every_run_coherent cs vs voters clients limit quorums deal steps limits meets deals =
    let b : Bounds = record { voters = voters; clients = clients; limit = limit; quorums = quorums } in
    let given : RunPremises b = record { client = cs; voter = vs; limits = limits; meet = meets } in
    coherent_by b given (run_of deal steps (start voters clients limit)) (run_ok b given deal deals steps)
