-- every world over plans: what holds of the first one, and each event keeps
use Rattle.std.proofs.Common.{◌≡◌, ℕ, ◌+◌, ◌≤◌, true, List, [], ◌∷◌, sym, ap, ◌∙◌, inl, inr, arith}
use Rattle.std.proofs.lemmas.Bool.{cases_lt, false≢true}
use Rattle.std.proofs.lemmas.Option.{none-some}
use Rattle.voter.specs.declared.state.Grant.{Grant}
use Rattle.requester.specs.declared.state.ClientState.{ClientState}
use Rattle.requester.specs.Words.{is_idle}
use Rattle.world_state.specs.Steps.{Dealing, client_at}
use Rattle.world.specs.Restarts.{begin}
use Rattle.world.specs.Incidents.{befalls}
use Rattle.world.specs.Runs.{AreLimits, start}
use Rattle.world.specs.Rules.{ClientLaws, VoterLaws}
use Rattle.world.specs.Visible.{AreQuorums, DealsFrom, DoMeet, IsExclusive}
use Rattle.world.specs.Restarts.{IsIn, stamp_of}
use Rattle.world.proofs.Claims.{Bounds}
use Rattle.world.proofs.Exclusion.{Walked}
use Rattle.world.proofs.Reached.{Grounds, client_new, client_past, first_ok, new_clients, start_unused}
use Rattle.world.proofs.Restarts.{MixedOk, live_fits, mixed_of, saved_now, walks_on}
use Rattle.leases.proofs.Rebirths.{orderly_follows}
use Rattle.generations.specs.Plans.{IsSuccession, Plans}
use Rattle.generations.specs.Turns.{AsksBy}
use Rattle.plan_worlds.specs.Worlds.{AreInOrder, AskByPlan, Befalls, Event, IsVoteOf, Retires, World, all_happen, first_world, happens}
use Rattle.plan_worlds.proofs.Votes.{IsRight, Knows, none_ahead, one_client, right_retires}

-- what holds of every world
pub record IsSoundOver (b : Bounds) (plans : Plans) (by : AsksBy) (w : World) : Type 0 where
  pub mixed : MixedOk b w.saved
  pub walked : Walked w.saved.live.visible (client_at w.saved.live.clients)
  pub asks : AskByPlan plans by w.saved
  pub right : IsRight plans by w

known : (b : Bounds) (plans : Plans) (by : AsksBy) (w : World) → IsSuccession b.voters plans → IsSoundOver b plans by w → Knows b plans by w
known b plans by w succession sound = record { succession = succession; fits = live_fits b w.saved sound.mixed; asks = sound.asks; right = sound.right }

-- ---- the first world

-- there are no quorums, so any two meet
none_meet : (voters : ℕ) → DoMeet voters []
none_meet voters = record {
  sets = λ i d within. absurd (omega arith);
  in_range = λ i d within. absurd (omega arith);
  meets = λ j k within also. absurd (omega arith);
}

idle_first : (voters clients limit c : ℕ) → is_idle (client_at (start voters clients limit).clients c).phase ≡ true
unfolding new_clients
idle_first voters clients limit c = elim (cases_lt c clients) [
  | inl within ↦ ap (λ (x : ClientState). is_idle x.phase) (client_new clients limit c within)
  | inr beyond ↦ ap (λ (x : ClientState). is_idle x.phase) (client_past clients limit c beyond)
]

sound_first : (b : Bounds) → Grounds b → (plans : Plans) (by : AsksBy) (oldest : ℕ → ℕ) → IsSoundOver b plans by (first_world b.voters b.clients b.limit oldest)
sound_first b given plans by oldest =
    let first = saved_now b (start b.voters b.clients b.limit) (first_ok b given) in
    let none : Bounds = record { voters = b.voters; clients = b.clients; limit = b.limit; quorums = [] } in
    let free = start_unused none (record { client = given.client; voter = given.voter; limits = given.limits; meet = none_meet b.voters }) in
    record {
      mixed = mixed_of b (begin b.voters b.clients b.limit) first;
      walked = first.walked;
      asks = λ c busy. absurd (false≢true (sym busy ∙ idle_first b.voters b.clients b.limit c));
      right = λ v grant has. absurd (none-some grant (sym (free v).held ∙ (elim has [ inl live ↦ live | inr saved ↦ saved ])));
    }

-- ---- events

goes_on : (b : Bounds) → Grounds b → (plans : Plans) (by : AsksBy) → IsSuccession b.voters plans → (deal : Dealing) → DealsFrom b.quorums deal → (w : World) → IsSoundOver b plans by w
    → (es : List Event) → AreInOrder plans by deal w es → IsSoundOver b plans by (all_happen deal w es)
goes_on b given plans by succession deal deals w sound [] order = sound
goes_on b given plans by succession deal deals w sound (Befalls i ∷ es) order =
    let s = befalls deal w.saved i in
    let next : World = record { saved = s; oldest = w.oldest } in
    let follows = orderly_follows b given deal deals w.saved sound.mixed i order.0.orderly in
    let right : IsRight plans by next = λ v grant has. elim (order.0.votes v grant has) [ inl had ↦ sound.right v grant had | inr may ↦ may ] in
    let know : Knows b plans by next = record { succession = succession; fits = live_fits b s follows.mixed; asks = order.0.asks; right = right } in
    goes_on b given plans by succession deal deals next
    (record { mixed = follows.mixed; walked = walks_on w.saved s sound.walked follows.shows (one_client b plans by next know); asks = order.0.asks; right = right }) es order.1
goes_on b given plans by succession deal deals w sound (Retires v ∷ es) order =
    let next = happens deal w (Retires v) in
    goes_on b given plans by succession deal deals next
    (record { mixed = sound.mixed; walked = sound.walked; asks = sound.asks; right = right_retires plans by w v order.0 sound.right }) es order.1

sound_after : ClientLaws → VoterLaws → (voters clients limit : ℕ) (plans : Plans) (by : AsksBy) (quorums : List (List ℕ)) (deal : Dealing) (oldest : ℕ → ℕ) (events : List Event)
    → AreLimits voters clients limit → IsSuccession voters plans → AreQuorums voters quorums → DealsFrom quorums deal → AreInOrder plans by deal (first_world voters clients limit oldest) events
    → IsSoundOver (record { voters = voters; clients = clients; limit = limit; quorums = quorums }) plans by (all_happen deal (first_world voters clients limit oldest) events)
sound_after cs vs voters clients limit plans by quorums deal oldest events limits succession are deals order =
    let b : Bounds = record { voters = voters; clients = clients; limit = limit; quorums = quorums } in
    let given : Grounds b = record { client = cs; voter = vs; limits = limits; quorums = are } in
    goes_on b given plans by succession deal deals (first_world voters clients limit oldest) (sound_first b given plans by oldest) events order

pub one_over_plans : ClientLaws → VoterLaws → (voters clients limit : ℕ) (plans : Plans) (by : AsksBy) (quorums : List (List ℕ)) (deal : Dealing) (oldest : ℕ → ℕ) (events : List Event)
    → AreLimits voters clients limit → IsSuccession voters plans → AreQuorums voters quorums → DealsFrom quorums deal → AreInOrder plans by deal (first_world voters clients limit oldest) events
    → IsExclusive (all_happen deal (first_world voters clients limit oldest) events).saved.live.visible
one_over_plans cs vs voters clients limit plans by quorums deal oldest events limits succession are deals order =
    (sound_after cs vs voters clients limit plans by quorums deal oldest events limits succession are deals order).walked.list

pub nobody_ahead : ClientLaws → VoterLaws → (voters clients limit : ℕ) (plans : Plans) (by : AsksBy) (quorums : List (List ℕ)) (deal : Dealing) (oldest : ℕ → ℕ) (events : List Event) (c v : ℕ)
    (grant : Grant)
    → AreLimits voters clients limit → IsSuccession voters plans → AreQuorums voters quorums → DealsFrom quorums deal → AreInOrder plans by deal (first_world voters clients limit oldest) events
    → IsIn (all_happen deal (first_world voters clients limit oldest) events).saved c → IsVoteOf (all_happen deal (first_world voters clients limit oldest) events).saved v grant
    → by c (stamp_of (all_happen deal (first_world voters clients limit oldest) events).saved c) + 2 ≤ by grant.client grant.stamp → ⊥
nobody_ahead cs vs voters clients limit plans by quorums deal oldest events c v grant limits succession are deals order in_c has far =
    let b : Bounds = record { voters = voters; clients = clients; limit = limit; quorums = quorums } in
    let w = all_happen deal (first_world voters clients limit oldest) events in
    let sound = sound_after cs vs voters clients limit plans by quorums deal oldest events limits succession are deals order in
    none_ahead b plans by w (known b plans by w succession sound) c v grant in_c has far
