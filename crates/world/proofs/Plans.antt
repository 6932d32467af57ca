-- the quorums of the plans meet, and their tickets name them
use Rattle.std.proofs.Common.{◌≡◌, ℕ, ◌+◌, ◌<◌, ◌≤◌, ◌^◌, List, [], ◌∷◌, ◌++◌, length, Option, Some, None, Result, Ok, Err, refl, sym, ap, subst, ◌∙◌, arith}
use Rattle.std.specs.Prelude.{IfSome, option_map}
use Rattle.std.specs.List.{All, AllByRecursion}
use Rattle.std.proofs.lemmas.List.{get_or_append_left, get_or-append-add, length-append}
use Rattle.std.proofs.lemmas.List.Elements.{All-append}
use Rattle.numbers.proofs.Lists.{AllByRecursion-weaker}
use Rattle.numbers.specs.Sets.{IsSet}
use Rattle.quorum_set.specs.declared.bridge.Side.TheVariants.{First, Second}
use Rattle.quorum_set.specs.Bridges.{Bridged, IsBridge}
use Rattle.quorum_set.specs.Coteries.{QuorumSystem, IsCoterie}
use Rattle.quorum_set.specs.Meetings.{AllMeet}
use Rattle.message.specs.declared.message.Message.{Message}
use Rattle.message.specs.declared.message.Message.TheVariants as kinds
use Rattle.message.specs.declared.message.ClientBody.{ClientBody}
use Rattle.message.specs.declared.message.ClientBody.TheVariants as to_client
use Rattle.message.specs.Lines.{AreCounts, HasLine, IsCount}
use Rattle.certificate.specs.Certificates.{Weighted, IsCertificate}
use Rattle.dealer.specs.Cycles.{quorum_of_ticket}
use Rattle.dealer.specs.Plans.{coteries_of}
use Rattle.world_state.specs.declared.step.Step.{Step}
use Rattle.world.specs.Coherence.{IsCoherent}
use Rattle.world.specs.Ranges.{IsInRange, IsSound, IsWithin, ReportsWithin}
use Rattle.world.specs.Runs.{AreLimits, IsReached, after, run_of, start, start_by}
use Rattle.world_state.specs.declared.fault.WorldFault.{WorldFault}
use Rattle.world_state.specs.declared.step.Stepped.{Stepped}
use Rattle.world_state.specs.Steps.{Dealing, Does, Planned, WorldState, dealing_of, outcome_of, quorum_by, step, step_of}
use Rattle.world.specs.Visible.{DealsFrom, DoMeet, IsAmong}

abbrev pub AllCoteriesMeet : Type 0
AllCoteriesMeet = (s : QuorumSystem) → IsCoterie s → AllMeet s.voters s.quorums

abbrev pub AllNameQuorums : Type 0
AllNameQuorums = (w : Weighted) (ticket : ℕ) → IsCertificate w → quorum_of_ticket w ticket < length w.system.quorums

abbrev pub AllBridgesMeet : Type 0
AllBridgesMeet = (b : Bridged) → IsBridge b → AllMeet b.first.voters (b.first.quorums ++ b.second.quorums)

-- ---- the quorums of one plan

plan_meets : AllCoteriesMeet → (w : Weighted) → IsCertificate w → DoMeet w.system.voters w.system.quorums
plan_meets all_meet w is = record { sets = is.coterie.sets; in_range = is.coterie.in_range; meets = all_meet w.system is.coterie }

IsAmong-plan : AllNameQuorums → (w : Weighted) → IsCertificate w → (ticket : ℕ) → IsAmong w.system.quorums (quorum_by w ticket)
IsAmong-plan all_name w is ticket = (quorum_of_ticket w ticket, all_name w ticket is, refl)

-- ---- the quorums of two plans

IsAmong-left : (qs rs : List (List ℕ)) (q : List ℕ) → IsAmong qs q → IsAmong (qs ++ rs) q
IsAmong-left qs rs q is =
    let below = is.1 in
    (is.0, omega (arith, length-append qs rs), is.2 ∙ sym (get_or_append_left qs rs [] is.0 is.1))

IsAmong-right : (qs rs : List (List ℕ)) (q : List ℕ) → IsAmong rs q → IsAmong (qs ++ rs) q
IsAmong-right qs rs q is =
    let below = is.1 in
    (length qs + is.0, omega (arith, length-append qs rs), is.2 ∙ sym (get_or-append-add qs rs is.0 []))

-- the quorums of both plans together
abbrev pub quorums_of : Weighted → Option Weighted → List (List ℕ)
quorums_of w None = w.system.quorums
quorums_of w (Some v) = w.system.quorums ++ v.system.quorums

-- the second plan, if there is one, meets its certificate, and there is a bridge to its coterie
abbrev pub SecondFollows : Weighted → Option Weighted → Type 0
SecondFollows w second = IfSome second (λ v. IsCertificate v × IsBridge (coteries_of w v))

pub plans_meet : AllCoteriesMeet → AllBridgesMeet → (w : Weighted) → IsCertificate w → (second : Option Weighted) → SecondFollows w second → DoMeet w.system.voters (quorums_of w second)
plans_meet all_meet all_bridged w is None follows = plan_meets all_meet w is
plans_meet all_meet all_bridged w is (Some v) follows =
    let below : All (λ q. All (λ i. i < w.system.voters) q) v.system.quorums = subst (λ n. All (λ q. All (λ i. i < n) q) v.system.quorums) (sym follows.1.same_voters) follows.0.coterie.in_range in
    record {
      sets = All-append IsSet w.system.quorums v.system.quorums is.coterie.sets follows.0.coterie.sets;
      in_range = All-append (λ q. All (λ i. i < w.system.voters) q) w.system.quorums v.system.quorums is.coterie.in_range below;
      meets = all_bridged (coteries_of w v) follows.1;
    }

pub plans_deal : AllNameQuorums → (w : Weighted) → IsCertificate w → (second : Option Weighted) → SecondFollows w second
    → DealsFrom (quorums_of w second) (record { first = quorum_by w; second = option_map quorum_by second })
plans_deal all_name w is None follows First ticket = IsAmong-plan all_name w is ticket
plans_deal all_name w is None follows Second ticket = IsAmong-plan all_name w is ticket
plans_deal all_name w is (Some v) follows First ticket = IsAmong-left w.system.quorums v.system.quorums _ (IsAmong-plan all_name w is ticket)
plans_deal all_name w is (Some v) follows Second ticket = IsAmong-right w.system.quorums v.system.quorums _ (IsAmong-plan all_name v follows.0 ticket)

-- ---- a world that is reached

IsCount-within : (limit n : ℕ) → limit ≤ 2 ^ 62 → IsWithin limit n → IsCount n
IsCount-within limit n most within = let least = within.0 in let far = within.1 in (least, omega arith)

AreCounts-within : (limit : ℕ) (body : ClientBody) → limit ≤ 2 ^ 62 → ReportsWithin limit body → AreCounts body
AreCounts-within limit (to_client.Locked stamp grant) most within = (IsCount-within limit stamp most within.0, IsCount-within limit grant most within.1)
AreCounts-within limit (to_client.Fail stamp) most within = IsCount-within limit stamp most within
AreCounts-within limit (to_client.Inquire grant) most within = IsCount-within limit grant most within

HasLine-in_range : (voters clients limit : ℕ) → AreLimits voters clients limit → (m : Message) → IsInRange voters clients limit m → HasLine m
HasLine-in_range voters clients limit limits (kinds.ToVoter m) range =
    let few_clients = limits.few_clients in
    let few_voters = limits.few_voters in
    let client = range.0 in
    let voter = range.1 in
    (omega arith, omega arith, IsCount-within limit _ limits.few_stamps range.2)
HasLine-in_range voters clients limit limits (kinds.ToClient m) range =
    let few_clients = limits.few_clients in
    let few_voters = limits.few_voters in
    let far = limits.few_stamps in
    let client = range.0 in
    let voter = range.1 in
    let seen = range.2 in
    (omega arith, omega arith, omega arith, AreCounts-within limit m.body limits.few_stamps range.3)

abbrev pub AllSound : Type 0
AllSound = (voters clients limit : ℕ) (quorums : List (List ℕ)) (deal : Dealing) (steps : List Step) → AreLimits voters clients limit → DoMeet voters quorums → DealsFrom quorums deal
    → IsSound voters clients limit (run_of deal steps (start voters clients limit))

-- the laws that a world rests on
pub record WorldLaws : Type 0 where
  pub sound : AllSound
  pub meet : AllCoteriesMeet
  pub bridges : AllBridgesMeet
  pub name : AllNameQuorums

pub IsSound-reached : WorldLaws → (w : Planned) → (r : IsReached w) → IsSound w.plans.first.system.voters r.clients r.limit w.state
IsSound-reached laws w r =
    let voters = w.plans.first.system.voters in
    subst (λ (u : WorldState). IsSound voters r.clients r.limit u) (sym r.state)
    (laws.sound voters r.clients r.limit (quorums_of w.plans.first w.plans.second) (dealing_of w.plans) r.steps r.limits
    (plans_meet laws.meet laws.bridges w.plans.first r.plans.first w.plans.second r.plans.second)
    (plans_deal laws.name w.plans.first r.plans.first w.plans.second r.plans.second))

abbrev pub AllCoherent : Type 0
AllCoherent = (voters clients limit : ℕ) (quorums : List (List ℕ)) (deal : Dealing) (steps : List Step) → AreLimits voters clients limit → DoMeet voters quorums → DealsFrom quorums deal
    → IsCoherent (run_of deal steps (start voters clients limit))

pub IsCoherent-reached : AllCoherent → AllCoteriesMeet → AllBridgesMeet → AllNameQuorums → (w : Planned) → IsReached w → IsCoherent w.state
IsCoherent-reached coherent meet bridges name w r =
    subst (λ (u : WorldState). IsCoherent u) (sym r.state)
    (coherent w.plans.first.system.voters r.clients r.limit (quorums_of w.plans.first w.plans.second) (dealing_of w.plans) r.steps r.limits
    (plans_meet meet bridges w.plans.first r.plans.first w.plans.second r.plans.second)
    (plans_deal name w.plans.first r.plans.first w.plans.second r.plans.second))

pub HasLine-reached : WorldLaws → (w : Planned) → IsReached w → AllByRecursion HasLine w.state.sent
HasLine-reached laws w r =
    let voters = w.plans.first.system.voters in
    AllByRecursion-weaker (IsInRange voters r.clients r.limit) HasLine (HasLine-in_range voters r.clients r.limit r.limits) w.state.sent (IsSound-reached laws w r).in_range

-- steps, one after the other
pub run_then : (deal : Dealing) (a b : List Step) (w : WorldState) → run_of deal (a ++ b) w ≡ run_of deal b (run_of deal a w)
run_then deal [] b w = refl
run_then deal (s ∷ a) b w = run_then deal a b (after w (step deal w s))

-- one more step
pub IsReached-after : (w : Planned) → IsReached w → (s : Step) (u : WorldState) → u ≡ after w.state (step_of w s) → IsReached (record { plans = w.plans; state = u })
IsReached-after w r s u is = record {
  plans = r.plans;
  clients = r.clients;
  limit = r.limit;
  limits = r.limits;
  steps = r.steps ++ s ∷ [];
  state = is ∙ ap (λ (v : WorldState). after v (step (dealing_of w.plans) v s)) r.state ∙ sym (run_then (dealing_of w.plans) r.steps (s ∷ []) (start_by w.plans r.clients r.limit));
}

-- what the code did to a world in which it made room
pub IsReached-does : (w : Planned) → IsReached w → (s : Step) (roomy : WorldState) (result : Result Stepped WorldFault) (new : WorldState) → roomy ≡ w.state
    → Does (step (dealing_of w.plans) roomy s) roomy result new → IsReached (record { plans = w.plans; state = new })
IsReached-does w r s roomy (Ok o) new same does =
    IsReached-after w r s new (sym (ap (λ o. after w.state o) (subst (λ (u : WorldState). step (dealing_of w.plans) u s ≡ Ok (outcome_of o new)) same does)))
IsReached-does w r s roomy (Err fault) new same does = subst (λ (u : WorldState). IsReached (record { plans = w.plans; state = u })) (sym (does.1 ∙ same)) r
