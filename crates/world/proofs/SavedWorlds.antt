-- what a saved world keeps, by its plans
use Rattle.std.proofs.Common.{◌≡◌, ℕ, ◌<◌, Bool, true, List, length, map, sym, ap, ◌∙◌, arith}
use Rattle.std.specs.Prelude.{nat_lt, slice_set}
use Rattle.std.specs.List.{range_with_len}
use Rattle.std.proofs.lemmas.Bool.Decides.{nat_tests}
use Rattle.std.proofs.lemmas.List.FromFn.{length-map-range_with_len}
use Rattle.dealer.specs.Plans.{PlanPair, ArePlans}
use Rattle.voter.specs.declared.state.VoterState.{VoterState}
use Rattle.voter.specs.Steps as voter
use Rattle.requester.specs.declared.state.ClientState.{ClientState}
use Rattle.requester.specs.Steps as client
use Rattle.world_state.specs.declared.step.Event.{Event}
use Rattle.world.specs.Restarts.{Happening, OneClient, Restarts, Saved, come_back, if_there}
use Rattle.world.specs.Rules.{ClientLaws, VoterLaws}
use Rattle.world.specs.Runs.{AreLimits, IsReached, start_by}
use Rattle.world.specs.SavedWorlds.{IsSavedWorld, LosesNothing, PlannedSaved, begin_by, happens_by, live_of}
use Rattle.world_state.specs.Steps.{WorldState, client_at, dealing_of}
use Rattle.world.specs.Visible.{DealsFrom}
use Rattle.world.proofs.Claims.{Bounds}
use Rattle.world.proofs.Mixes.{begin_led, happens_led, live_led, unseen}
use Rattle.world.proofs.Plans.{AllBridgesMeet, AllCoteriesMeet, AllNameQuorums, plans_deal, plans_meet, quorums_of}
use Rattle.world.proofs.Reached.{RunPremises}

-- the laws that a saved world rests on
pub record SavedLaws : Type 0 where
  pub client : ClientLaws
  pub voter : VoterLaws
  pub meet : AllCoteriesMeet
  pub bridges : AllBridgesMeet
  pub name : AllNameQuorums

abbrev bounds_of : (plans : PlanPair) (clients limit : ℕ) → Bounds
bounds_of plans clients limit = record { voters = plans.first.system.voters; clients = clients; limit = limit; quorums = quorums_of plans.first plans.second }

given_by : SavedLaws → (plans : PlanPair) (clients limit : ℕ) → ArePlans plans → AreLimits plans.first.system.voters clients limit → RunPremises (bounds_of plans clients limit)
given_by laws plans clients limit are limits = record {
  client = laws.client;
  voter = laws.voter;
  limits = limits;
  meet = plans_meet laws.meet laws.bridges plans.first are.first plans.second are.second;
}

deals_by : SavedLaws → (plans : PlanPair) → ArePlans plans → DealsFrom (quorums_of plans.first plans.second) (dealing_of plans)
deals_by laws plans are = plans_deal laws.name plans.first are.first plans.second are.second

pub IsSavedWorld-first : (plans : PlanPair) (clients limit : ℕ) → ArePlans plans → AreLimits plans.first.system.voters clients limit
    → IsSavedWorld (record { plans = plans; saved = begin_by plans clients limit })
IsSavedWorld-first plans clients limit are limits = record {
  plans = are;
  clients = clients;
  limit = limit;
  limits = limits;
  led = begin_led (dealing_of plans) plans.first.system.voters clients limit;
}

pub IsSavedWorld-happens : SavedLaws → (w : PlannedSaved) (h : Happening) → IsSavedWorld w → LosesNothing h → IsSavedWorld (happens_by w h)
IsSavedWorld-happens laws w h is nothing = record {
  plans = is.plans;
  clients = is.clients;
  limit = is.limit;
  limits = is.limits;
  led = happens_led (bounds_of w.plans is.clients is.limit) (given_by laws w.plans is.clients is.limit is.plans is.limits) (dealing_of w.plans) (deals_by laws w.plans is.plans) w.saved is.led h nothing;
}

pub IsReached-live : (w : PlannedSaved) → IsSavedWorld w → IsReached (live_of w)
IsReached-live w is =
    let led = live_led (dealing_of w.plans) (start_by w.plans is.clients is.limit) w.saved is.led in
    record { plans = is.plans; clients = is.clients; limit = is.limit; limits = is.limits; steps = led.0; state = led.1 }

-- what the code makes is the new world
pub begin_by-new : (plans : PlanPair) (clients limit many : ℕ) (w : WorldState) (cs : List ClientState) (vs : List VoterState) → w ≡ start_by plans clients limit → many ≡ length w.voters
    → cs ≡ map (λ c. client.start c limit) (range_with_len 0 clients) → vs ≡ map (λ v. voter.start v limit) (range_with_len 0 many)
    → ◌≡◌ {A = Saved} (record { live = w; clients = cs; voters = vs }) (begin_by plans clients limit)
begin_by-new plans clients limit many w cs vs live count each_client each_voter =
    let n = plans.first.system.voters in
    let same : many ≡ n = count ∙ ap (λ (u : WorldState). length u.voters) live ∙ length-map-range_with_len (λ v. voter.start v limit) 0 n in
    let voters = each_voter ∙ ap (λ (k : ℕ). map (λ v. voter.start v limit) (range_with_len 0 k)) same in
    λ i. record { live = live i; clients = each_client i; voters = voters i }

there : (c n : ℕ) → c < n → nat_lt c n ≡ true
there c n within = grind (arith, nat_tests)

-- a client of the world has its saved state again, and nothing is seen of it
pub restarts-client : SavedLaws → (w : PlannedSaved) → IsSavedWorld w → (c : ℕ) → c < length w.saved.live.clients
    → record w { saved = record w.saved { live = record w.saved.live { clients = slice_set w.saved.live.clients c (client_at w.saved.clients c) } } } ≡ happens_by w (Restarts (OneClient c))
restarts-client laws w is c within =
    let list = slice_set w.saved.live.clients c (client_at w.saved.clients c) in
    let seen = unseen (bounds_of w.plans is.clients is.limit) (given_by laws w.plans is.clients is.limit is.plans is.limits) (dealing_of w.plans) (deals_by laws w.plans is.plans) w.saved is.led c within in
    ap (λ (l : List Event). record w { saved = record w.saved { live = record w.saved.live { clients = list; visible = l } } }) (sym seen)
    ∙ ap (λ (t : Bool). record w { saved = if_there t (come_back w.saved c (client_at w.saved.clients c)) w.saved }) (sym (there c (length w.saved.live.clients) within))
