-- that what the laws ask for can be had
use Rattle.std.proofs.Common.{◌≡◌, ℕ, zero, suc, ◌+◌, ◌<◌, ◌≤◌, Bool, true, false, cond, List, [], ◌∷◌, ◌++◌, length, drop, Option, Some, None, refl, sym, ap, subst, ◌∙◌, inl, inr, arith, eqb}
use Rattle.std.specs.Prelude.{nat_lt, slice_set, replicate}
use Rattle.std.specs.FinMap as fin
use Rattle.std.specs.FinMap.{get-empty, get-remove}
use Rattle.std.specs.List.{All}
use Rattle.std.specs.Ordering.{nat_cmp}
use Rattle.std.specs.Cmp.{nat_cmp_total}
use Rattle.std.proofs.lemmas.Bool.{false≢true}
use Rattle.std.proofs.lemmas.List.Elements.{All-from_recursion}
use Rattle.std.proofs.lemmas.Option.{none-some, same_Some}
use Rattle.numbers.specs.Sets.{IsSet}
use Rattle.message.specs.declared.request.Request.{Request}
use Rattle.message.specs.declared.message.Message.{Message}
use Rattle.message.specs.declared.message.Message.TheVariants as kinds
use Rattle.message.specs.declared.message.VoterBody.TheVariants as asks
use Rattle.message.specs.declared.message.ClientBody.TheVariants as to_client
use Rattle.voter.specs.declared.state.Grant.{Grant}
use Rattle.voter.specs.declared.state.VoterState.{VoterState}
use Rattle.voter.specs.Steps as voter
use Rattle.voter.specs.Waiting.{Waiting, front}
use Rattle.voter.proofs.Front.{eq_by_cmp-nat, front-none}
use Rattle.requester.specs.declared.state.ClientState.{ClientState}
use Rattle.requester.specs.declared.state.Phase.TheVariants.{Idle, Inside}
use Rattle.requester.specs.Steps as client
use Rattle.requester.specs.Words.{is_idle, members}
use Rattle.quorum_set.specs.declared.bridge.Side.TheVariants.{First, Second}
use Rattle.world_state.specs.declared.step.Event.{Event}
use Rattle.world_state.specs.declared.step.Step.TheVariants.{Ask, Deliver, Leave}
use Rattle.world_state.specs.Steps.{after_voter, client_at, step, voter_at}
use Rattle.world.specs.Incidents.{Happens}
use Rattle.world.specs.Restarts.{Goes, Happening, IsIn, OneVoter, Saved, Saves, happens, save_and_send}
use Rattle.world.specs.Runs.{AreLimits}
use Rattle.world.specs.Visible.{AreQuorums, DealsFrom, IsAmong}
use Rattle.generations.specs.Example.{three_plans}
use Rattle.generations.specs.Plans.{HaveCommon, IsSuccession}
use Rattle.generations.proofs.Example.{three_replace}
use Rattle.generations.proofs.TurnExample.{asked, beside, one_get, one_waiting}
use Rattle.plan_worlds.specs.Example.{both_quorums, by_even, first_enters, first_is_in, first_leaves, first_quorum, new_world, one_each, quorum_of, third_enters, third_is_in, third_quorum}
use Rattle.plan_worlds.specs.Worlds as worlds
use Rattle.plan_worlds.specs.Worlds.{AreInOrder, AskByPlan, Befalls, IsLeft, IsRetired, IsVoteOf, MayGive, Retires, World, all_happen, one_older}
use Rattle.plan_worlds.proofs.Votes.{left_retired}

-- ---- a voter, of which nobody waits

-- what is given at once does not wait
kept_out : (c s d : ℕ) (b : Bool) → eqb d c ≡ b → cond b None (cond (eqb d c) (Some s) None) ≡ None
kept_out c s d true e = refl
kept_out c s d false e = ap (λ (b : Bool). cond b (Some s) None) e

once : (c s : ℕ) → fin.remove (one_waiting c s) c ≡ fin.empty
once c s = fin.same_map nat_cmp_total fin.nat_cmp-IsAntisymmetric (fin.remove (one_waiting c s) c) fin.empty
    (λ d. get-remove nat_cmp_total (one_waiting c s) c d ∙ ap (λ (b : Bool). cond b None (fin.get (one_waiting c s) d)) (eq_by_cmp-nat d c)
    ∙ ap (λ (o : Option ℕ). cond (eqb d c) None o) (one_get c s d) ∙ kept_out c s d (eqb d c) refl ∙ sym (get-empty nat_cmp d))

nobody : front fin.empty ≡ None
nobody = front-none fin.empty (get-empty nat_cmp)

-- the voter gave its first grant to this client
abbrev given : ℕ → ℕ → VoterState
given v c = record (voter.start v 10) { seen = 1; held = Some (record { client = c; stamp = 1; grant = 1 }); granted = 1 }

abbrev gave : ℕ → ℕ → voter.Outcome
gave v c = record { replies = record { voter = v; client = c; seen = 1; body = to_client.Locked 1 1 } ∷ []; state = given v c }

asked_gave : (v c : ℕ) → asked v 0 c 1 ≡ gave v c
asked_gave v c = ap (λ (w : Waiting). record (gave v c) { state = record (given v c) { waiting = w } }) (once c 1)

first_given : (v : ℕ) → voter.step (voter.start v 10) (record { client = 0; voter = v; body = asks.Request 1 }) ≡ Some (gave v 0)
unfolding voter.step voter.take_request
first_given v = ap (λ (o : voter.Outcome). voter.unless_spent (nat_lt 10 o.state.granted) o) (beside v 0 0 1) ∙ ap (λ (o : voter.Outcome). Some o) (asked_gave v 0)

third_given : (v : ℕ) → voter.step (voter.start v 10) (record { client = 1; voter = v; body = asks.Request 1 }) ≡ Some (gave v 1)
unfolding voter.step voter.take_request
third_given v = ap (λ (o : voter.Outcome). voter.unless_spent (nat_lt 10 o.state.granted) o) (beside v 0 1 1) ∙ ap (λ (o : voter.Outcome). Some o) (asked_gave v 1)

-- the voter's first grant is over
abbrev freed : ℕ → VoterState
freed v = record (given v 0) { held = None; finished = slice_set (replicate 64 0) 0 1 }

first_freed : (v : ℕ) → voter.step (given v 0) (record { client = 0; voter = v; body = asks.Release 1 }) ≡ Some (record { replies = []; state = freed v })
unfolding voter.step voter.take_release voter.grant_front
first_freed v = ap (λ (o : Option Request). voter.unless_spent (nat_lt 10 (voter.grant_to (freed v) o).state.granted) (voter.grant_to (freed v) o)) nobody

-- ---- the worlds

abbrev request_to : ℕ → ℕ → Message
request_to c v = kinds.ToVoter (record { client = c; voter = v; body = asks.Request 1 })

abbrev locked_to : ℕ → ℕ → Message
locked_to v c = kinds.ToClient (record { voter = v; client = c; seen = 1; body = to_client.Locked 1 1 })

abbrev release_to : ℕ → ℕ → Message
release_to c v = kinds.ToVoter (record { client = c; voter = v; body = asks.Release 1 })

-- a client that asks, that has its first vote, that is inside, and that left
abbrev asking : ℕ → List ℕ → ClientState
asking c q = client.begin_request (client.start c 10) q

abbrev voted : ℕ → ℕ → List ℕ → ClientState
voted c v q = client.hold (asking c q) v 1

abbrev inside : ℕ → ℕ → ℕ → List ℕ → ClientState
inside c v u q = record (client.hold (voted c v q) u 1) { phase = Inside }

abbrev left : ℕ → ℕ → ℕ → List ℕ → ClientState
left c v u q = record (client.clear_votes (inside c v u q)) { phase = Idle }

-- six voters, of which voters 0, 1, 4 and 5 are these
abbrev voters_by : VoterState → VoterState → VoterState → VoterState → List VoterState
voters_by a b d e = a ∷ b ∷ voter.start 2 10 ∷ voter.start 3 10 ∷ d ∷ e ∷ []

abbrev new_voters : List VoterState
new_voters = voters_by (voter.start 0 10) (voter.start 1 10) (voter.start 4 10) (voter.start 5 10)

-- clients and voters as they are and as they are saved; messages, draws, and what was seen
abbrev scene : List ClientState → List ClientState → List VoterState → List VoterState → List Message → List (ℕ × ℕ) → List Event → Saved
scene clients kept_clients voters kept sent draws visible = record {
  live = record { clients = clients; voters = voters; sent = sent; draws = draws; draws2 = []; side = First; visible = visible };
  clients = kept_clients;
  voters = kept;
}

abbrev pair : ClientState → ClientState → List ClientState
pair x y = x ∷ y ∷ []

abbrev sent_0 : List Message
sent_0 = request_to 0 0 ∷ request_to 0 1 ∷ []

abbrev sent_1 : List Message
sent_1 = request_to 0 0 ∷ request_to 0 1 ∷ locked_to 0 0 ∷ []

abbrev sent_2 : List Message
sent_2 = request_to 0 0 ∷ request_to 0 1 ∷ locked_to 0 0 ∷ locked_to 1 0 ∷ []

abbrev sent_3 : List Message
sent_3 = request_to 0 0 ∷ request_to 0 1 ∷ locked_to 0 0 ∷ locked_to 1 0 ∷ release_to 0 0 ∷ release_to 0 1 ∷ []

abbrev sent_4 : List Message
sent_4 = request_to 0 0 ∷ request_to 0 1 ∷ locked_to 0 0 ∷ locked_to 1 0 ∷ release_to 0 0 ∷ release_to 0 1 ∷ request_to 1 4 ∷ request_to 1 5 ∷ []

abbrev sent_5 : List Message
sent_5 = request_to 0 0 ∷ request_to 0 1 ∷ locked_to 0 0 ∷ locked_to 1 0 ∷ release_to 0 0 ∷ release_to 0 1 ∷ request_to 1 4 ∷ request_to 1 5 ∷ locked_to 4 1 ∷ []

abbrev sent_6 : List Message
sent_6 = request_to 0 0 ∷ request_to 0 1 ∷ locked_to 0 0 ∷ locked_to 1 0 ∷ release_to 0 0 ∷ release_to 0 1 ∷ request_to 1 4 ∷ request_to 1 5 ∷ locked_to 4 1 ∷ locked_to 5 1 ∷ []

abbrev new_1 : ClientState
new_1 = client.start 1 10

abbrev one_given : List VoterState
one_given = voters_by (given 0 0) (voter.start 1 10) (voter.start 4 10) (voter.start 5 10)

abbrev both_given : List VoterState
both_given = voters_by (given 0 0) (given 1 0) (voter.start 4 10) (voter.start 5 10)

abbrev one_freed : List VoterState
one_freed = voters_by (given 0 0) (freed 1) (voter.start 4 10) (voter.start 5 10)

abbrev third_one : List VoterState
third_one = voters_by (given 0 0) (freed 1) (given 4 1) (voter.start 5 10)

abbrev third_both : List VoterState
third_both = voters_by (given 0 0) (freed 1) (given 4 1) (given 5 1)

abbrev seen_in : List Event
seen_in = record { client = 0; entered = true } ∷ []

abbrev seen_out : List Event
seen_out = record { client = 0; entered = true } ∷ record { client = 0; entered = false } ∷ []

abbrev seen_third : List Event
seen_third = record { client = 0; entered = true } ∷ record { client = 0; entered = false } ∷ record { client = 1; entered = true } ∷ []

abbrev one_draw : List (ℕ × ℕ)
one_draw = (0, 0) ∷ []

abbrev two_draws : List (ℕ × ℕ)
two_draws = (0, 0) ∷ (1, 1) ∷ []

abbrev asks_0 : List ClientState
asks_0 = pair (asking 0 first_quorum) new_1

abbrev has_0 : List ClientState
has_0 = pair (voted 0 0 first_quorum) new_1

abbrev in_0 : List ClientState
in_0 = pair (inside 0 0 1 first_quorum) new_1

abbrev out_0 : List ClientState
out_0 = pair (left 0 0 1 first_quorum) new_1

abbrev asks_1 : List ClientState
asks_1 = pair (left 0 0 1 first_quorum) (asking 1 third_quorum)

abbrev has_1 : List ClientState
has_1 = pair (left 0 0 1 first_quorum) (voted 1 4 third_quorum)

abbrev in_1 : List ClientState
in_1 = pair (left 0 0 1 first_quorum) (inside 1 4 5 third_quorum)

abbrev world_0 : Saved
world_0 = scene (pair (client.start 0 10) new_1) (pair (client.start 0 10) new_1) new_voters new_voters [] [] []

abbrev world_1 : Saved
world_1 = scene asks_0 asks_0 new_voters new_voters sent_0 one_draw []

abbrev world_2 : Saved
world_2 = scene asks_0 asks_0 one_given one_given sent_1 one_draw []

abbrev world_3 : Saved
world_3 = scene asks_0 asks_0 both_given both_given sent_2 one_draw []

abbrev world_4 : Saved
world_4 = scene has_0 asks_0 both_given both_given sent_2 one_draw []

abbrev world_5 : Saved
world_5 = scene in_0 in_0 both_given both_given sent_2 one_draw seen_in

abbrev world_6 : Saved
world_6 = scene out_0 out_0 both_given both_given sent_3 one_draw seen_out

abbrev world_7 : Saved
world_7 = scene out_0 out_0 one_freed both_given sent_3 one_draw seen_out

abbrev world_8 : Saved
world_8 = scene out_0 out_0 one_freed one_freed sent_3 one_draw seen_out

abbrev world_9 : Saved
world_9 = scene asks_1 asks_1 one_freed one_freed sent_4 two_draws seen_out

abbrev world_10 : Saved
world_10 = scene asks_1 asks_1 third_one third_one sent_5 two_draws seen_out

abbrev world_11 : Saved
world_11 = scene asks_1 asks_1 third_both third_both sent_6 two_draws seen_out

abbrev world_12 : Saved
world_12 = scene has_1 asks_1 third_both third_both sent_6 two_draws seen_out

abbrev world_13 : Saved
world_13 = scene in_1 in_1 third_both third_both sent_6 two_draws seen_third

-- ---- each step

to_1 : happens one_each world_0 (Goes (Ask 0)) ≡ world_1
unfolding step client_at client.step client.ask
to_1 = refl

to_2 : happens one_each world_1 (Goes (Deliver 0)) ≡ world_2
unfolding step voter_at
to_2 = ap (λ (o : Option voter.Outcome). save_and_send world_1 (OneVoter 0) (after_voter world_1.live 0 o)) (first_given 0)

to_3 : happens one_each world_2 (Goes (Deliver 1)) ≡ world_3
unfolding step voter_at
to_3 = ap (λ (o : Option voter.Outcome). save_and_send world_2 (OneVoter 1) (after_voter world_2.live 1 o)) (first_given 1)

to_4 : happens one_each world_3 (Goes (Deliver 2)) ≡ world_4
unfolding step client_at client.step client.take client.take_locked
to_4 = refl

to_5 : happens one_each world_4 (Goes (Deliver 3)) ≡ world_5
unfolding step client_at client.step client.take client.take_locked
to_5 = refl

to_6 : happens one_each world_5 (Goes (Leave 0)) ≡ world_6
unfolding step client_at client.step client.leave
to_6 = refl

to_7 : happens one_each world_6 (Goes (Deliver 5)) ≡ world_7
unfolding step voter_at
to_7 = ap (λ (o : Option voter.Outcome). save_and_send world_6 (OneVoter 1) (after_voter world_6.live 1 o)) (first_freed 1)

to_8 : happens one_each world_7 (Saves (OneVoter 1)) ≡ world_8
unfolding voter_at
to_8 = refl

to_9 : happens one_each world_8 (Goes (Ask 1)) ≡ world_9
unfolding step client_at client.step client.ask
to_9 = refl

to_10 : happens one_each world_9 (Goes (Deliver 6)) ≡ world_10
unfolding step voter_at
to_10 = ap (λ (o : Option voter.Outcome). save_and_send world_9 (OneVoter 4) (after_voter world_9.live 4 o)) (third_given 4)

to_11 : happens one_each world_10 (Goes (Deliver 7)) ≡ world_11
unfolding step voter_at
to_11 = ap (λ (o : Option voter.Outcome). save_and_send world_10 (OneVoter 5) (after_voter world_10.live 5 o)) (third_given 5)

to_12 : happens one_each world_11 (Goes (Deliver 8)) ≡ world_12
unfolding step client_at client.step client.take client.take_locked
to_12 = refl

to_13 : happens one_each world_12 (Goes (Deliver 9)) ≡ world_13
unfolding step client_at client.step client.take client.take_locked
to_13 = refl

-- ---- what is asked of each event

-- voters 1, 2, 4 and 5 retired the first plan
abbrev none_retired : ℕ → ℕ
none_retired v = 0

abbrev four_retired : ℕ → ℕ
four_retired = one_older (one_older (one_older (one_older none_retired 1) 2) 4) 5

-- whoever has a vote may be given it, and requests ask by their plans
record IsFine (oldest : ℕ → ℕ) (s : Saved) : Type 0 where
  votes : (v : ℕ) (grant : Grant) → IsVoteOf s v grant → MayGive three_plans oldest v (by_even grant.client grant.stamp)
  asks : AskByPlan three_plans by_even s

goes_on : (oldest : ℕ → ℕ) (s t : Saved) (h : Happening) (es : List worlds.Event) → happens one_each s h ≡ t → IsFine oldest t → AreInOrder three_plans by_even one_each (record { saved = t; oldest = oldest }) es
    → AreInOrder three_plans by_even one_each (record { saved = s; oldest = oldest }) (Befalls (Happens h) ∷ es)
goes_on oldest s t h es is fine rest = (
  record { orderly = tt; votes = λ v grant has. inr ((subst (IsFine oldest) (sym is) fine).votes v grant has); asks = (subst (IsFine oldest) (sym is) fine).asks },
  subst (λ (u : Saved). AreInOrder three_plans by_even one_each (record { saved = u; oldest = oldest }) es) (sym is) rest,
)

-- of the grant that has its vote, if one has it
abbrev Holds : (ℕ → Grant → Type 0) → ℕ → VoterState → Type 0
Holds P v y = (grant : Grant) → y.held ≡ Some grant → P v grant

of_voters : (P : ℕ → Grant → Type 0) (a b d e : VoterState) → Holds P 0 a → Holds P 1 b → Holds P 4 d → Holds P 5 e → (v : ℕ) → Holds P v (voter_at (voters_by a b d e) v)
unfolding voter_at
of_voters P a b d e at_a at_b at_d at_e zero grant is = at_a grant is
of_voters P a b d e at_a at_b at_d at_e (suc zero) grant is = at_b grant is
of_voters P a b d e at_a at_b at_d at_e (suc (suc zero)) grant is = absurd (none-some grant is)
of_voters P a b d e at_a at_b at_d at_e (suc (suc (suc zero))) grant is = absurd (none-some grant is)
of_voters P a b d e at_a at_b at_d at_e (suc (suc (suc (suc zero)))) grant is = at_d grant is
of_voters P a b d e at_a at_b at_d at_e (suc (suc (suc (suc (suc zero))))) grant is = at_e grant is
of_voters P a b d e at_a at_b at_d at_e (suc (suc (suc (suc (suc (suc v)))))) grant is = absurd (none-some grant is)

abbrev May : (ℕ → ℕ) → ℕ → Grant → Type 0
May oldest v grant = MayGive three_plans oldest v (by_even grant.client grant.stamp)

free : (P : ℕ → Grant → Type 0) (v : ℕ) (y : VoterState) → y.held ≡ None → Holds P v y
free P v y none grant is = absurd (none-some grant (sym none ∙ is))

gave_to : (P : ℕ → Grant → Type 0) (v c : ℕ) → P v (record { client = c; stamp = 1; grant = 1 }) → Holds P v (given v c)
gave_to P v c is grant has = subst (λ (g : Grant). P v g) (same_Some _ _ has) is

-- client 0 may have the vote of a voter that did not retire the first plan
first_may : (oldest : ℕ → ℕ) (v : ℕ) → oldest v ≡ 0 → Holds (May oldest) v (given v 0)
first_may oldest v none = gave_to (May oldest) v 0 (record { taken = omega arith; order = λ n far. absurd (omega arith) })

first_left : IsRetired three_plans four_retired 0
first_left = left_retired 6 three_plans four_retired 0 three_replace.0
    (record { quorum = 1 ∷ 2 ∷ 4 ∷ 5 ∷ []; among = (1, omega arith, refl); retired = (omega arith, (omega arith, (omega arith, (omega arith, tt)))) })

third_may : (v : ℕ) → four_retired v ≤ 2 → Holds (May four_retired) v (given v 1)
third_may v few = gave_to (May four_retired) v 1 (record {
  taken = few;
  order = λ n far. subst (λ k. IsRetired three_plans four_retired k) (let none : 0 ≡ n = omega arith in none) first_left;
})

abbrev Voted : (ℕ → ℕ) → List VoterState → Type 0
Voted oldest voters = (v : ℕ) → Holds (May oldest) v (voter_at voters v)

new_voted : Voted none_retired new_voters
new_voted = of_voters (May none_retired) (voter.start 0 10) (voter.start 1 10) (voter.start 4 10) (voter.start 5 10) (free (May none_retired) 0 (voter.start 0 10) refl) (free (May none_retired) 1 (voter.start 1 10) refl)
    (free (May none_retired) 4 (voter.start 4 10) refl) (free (May none_retired) 5 (voter.start 5 10) refl)

one_voted : Voted none_retired one_given
one_voted = of_voters (May none_retired) (given 0 0) (voter.start 1 10) (voter.start 4 10) (voter.start 5 10) (first_may none_retired 0 refl) (free (May none_retired) 1 (voter.start 1 10) refl)
    (free (May none_retired) 4 (voter.start 4 10) refl) (free (May none_retired) 5 (voter.start 5 10) refl)

both_voted : Voted none_retired both_given
both_voted = of_voters (May none_retired) (given 0 0) (given 1 0) (voter.start 4 10) (voter.start 5 10) (first_may none_retired 0 refl) (first_may none_retired 1 refl)
    (free (May none_retired) 4 (voter.start 4 10) refl) (free (May none_retired) 5 (voter.start 5 10) refl)

freed_voted : (oldest : ℕ → ℕ) → oldest 0 ≡ 0 → Voted oldest one_freed
freed_voted oldest none = of_voters (May oldest) (given 0 0) (freed 1) (voter.start 4 10) (voter.start 5 10) (first_may oldest 0 none) (free (May oldest) 1 (freed 1) refl)
    (free (May oldest) 4 (voter.start 4 10) refl) (free (May oldest) 5 (voter.start 5 10) refl)

third_one_voted : Voted four_retired third_one
third_one_voted = of_voters (May four_retired) (given 0 0) (freed 1) (given 4 1) (voter.start 5 10) (first_may four_retired 0 refl) (free (May four_retired) 1 (freed 1) refl)
    (third_may 4 (omega arith)) (free (May four_retired) 5 (voter.start 5 10) refl)

third_both_voted : Voted four_retired third_both
third_both_voted = of_voters (May four_retired) (given 0 0) (freed 1) (given 4 1) (given 5 1) (first_may four_retired 0 refl) (free (May four_retired) 1 (freed 1) refl)
    (third_may 4 (omega arith)) (third_may 5 (omega arith))

-- of two clients
of_clients : (x y : ClientState) → (is_idle x.phase ≡ false → members x ≡ first_quorum) → (is_idle y.phase ≡ false → members y ≡ third_quorum)
    → (c : ℕ) → is_idle (client_at (pair x y) c).phase ≡ false → IsAmong (three_plans (c + c)) (members (client_at (pair x y) c))
unfolding client_at
of_clients x y first third zero busy = (0, omega arith, first busy)
of_clients x y first third (suc zero) busy = (1, omega arith, third busy)
of_clients x y first third (suc (suc c)) busy = absurd (false≢true (sym busy))

idle : (x : ClientState) (q : List ℕ) → is_idle x.phase ≡ true → is_idle x.phase ≡ false → members x ≡ q
idle x q is busy = absurd (false≢true (sym busy ∙ is))

-- what is so of clients, and of voters live and saved, is so of the world
fine : (oldest : ℕ → ℕ) (x y : ClientState) (saved : List ClientState) (voters kept : List VoterState) (sent : List Message) (draws : List (ℕ × ℕ)) (visible : List Event)
    → Voted oldest voters → Voted oldest kept → (is_idle x.phase ≡ false → members x ≡ first_quorum) → (is_idle y.phase ≡ false → members y ≡ third_quorum)
    → IsFine oldest (scene (pair x y) saved voters kept sent draws visible)
fine oldest x y saved voters kept sent draws visible live also first third = record {
  votes = λ v grant has. elim has [ inl is ↦ live v grant is | inr is ↦ also v grant is ];
  asks = of_clients x y first third;
}

-- a voter retires its oldest plan while nobody has its vote
abbrev NoVote : Saved → ℕ → Type 0
NoVote s v = ((voter_at s.live.voters v).held ≡ None) × ((voter_at s.voters v).held ≡ None)

retires : (oldest : ℕ → ℕ) (s : Saved) (v : ℕ) (es : List worlds.Event) → NoVote s v → AreInOrder three_plans by_even one_each (record { saved = s; oldest = one_older oldest v }) es
    → AreInOrder three_plans by_even one_each (record { saved = s; oldest = oldest }) (Retires v ∷ es)
retires oldest s v es none rest = (
  (λ grant has. absurd (none-some grant (elim has [ inl is ↦ sym none.0 ∙ is | inr is ↦ sym none.1 ∙ is ]))),
  rest,
)

no_vote : (v : ℕ) → nat_lt 0 v ≡ true → NoVote world_8 v
unfolding voter_at
no_vote zero some = absurd (false≢true some)
no_vote (suc zero) some = (refl, refl)
no_vote (suc (suc zero)) some = (refl, refl)
no_vote (suc (suc (suc zero))) some = (refl, refl)
no_vote (suc (suc (suc (suc zero)))) some = (refl, refl)
no_vote (suc (suc (suc (suc (suc zero))))) some = (refl, refl)
no_vote (suc (suc (suc (suc (suc (suc v)))))) some = (refl, refl)

third_order : AreInOrder three_plans by_even one_each (record { saved = world_8; oldest = four_retired }) third_enters
third_order =
    let q = left 0 0 1 first_quorum in
    let out = idle q first_quorum refl in
    goes_on four_retired world_8 world_9 (Goes (Ask 1)) (drop 1 third_enters) to_9 (fine four_retired q (asking 1 third_quorum) asks_1 one_freed one_freed sent_4 two_draws seen_out (freed_voted four_retired refl) (freed_voted four_retired refl) out (λ _. refl))
    (goes_on four_retired world_9 world_10 (Goes (Deliver 6)) (drop 2 third_enters) to_10 (fine four_retired q (asking 1 third_quorum) asks_1 third_one third_one sent_5 two_draws seen_out third_one_voted third_one_voted out (λ _. refl))
    (goes_on four_retired world_10 world_11 (Goes (Deliver 7)) (drop 3 third_enters) to_11 (fine four_retired q (asking 1 third_quorum) asks_1 third_both third_both sent_6 two_draws seen_out third_both_voted third_both_voted out (λ _. refl))
    (goes_on four_retired world_11 world_12 (Goes (Deliver 8)) (drop 4 third_enters) to_12 (fine four_retired q (voted 1 4 third_quorum) asks_1 third_both third_both sent_6 two_draws seen_out third_both_voted third_both_voted out (λ _. refl))
    (goes_on four_retired world_12 world_13 (Goes (Deliver 9)) (drop 5 third_enters) to_13 (fine four_retired q (inside 1 4 5 third_quorum) in_1 third_both third_both sent_6 two_draws seen_third third_both_voted third_both_voted out (λ _. refl))
    tt))))

leaves_order : AreInOrder three_plans by_even one_each (record { saved = world_5; oldest = none_retired }) (first_leaves ++ third_enters)
leaves_order =
    let q = left 0 0 1 first_quorum in
    let out = idle q first_quorum refl in
    let off = idle new_1 third_quorum refl in
    let freed_now = freed_voted none_retired refl in
    goes_on none_retired world_5 world_6 (Goes (Leave 0)) (drop 1 (first_leaves ++ third_enters)) to_6 (fine none_retired q new_1 out_0 both_given both_given sent_3 one_draw seen_out both_voted both_voted out off)
    (goes_on none_retired world_6 world_7 (Goes (Deliver 5)) (drop 2 (first_leaves ++ third_enters)) to_7 (fine none_retired q new_1 out_0 one_freed both_given sent_3 one_draw seen_out freed_now both_voted out off)
    (goes_on none_retired world_7 world_8 (Saves (OneVoter 1)) (drop 3 (first_leaves ++ third_enters)) to_8 (fine none_retired q new_1 out_0 one_freed one_freed sent_3 one_draw seen_out freed_now freed_now out off)
    (retires none_retired world_8 1 (drop 4 (first_leaves ++ third_enters)) (no_vote 1 refl)
    (retires (one_older none_retired 1) world_8 2 (drop 5 (first_leaves ++ third_enters)) (no_vote 2 refl)
    (retires (one_older (one_older none_retired 1) 2) world_8 4 (drop 6 (first_leaves ++ third_enters)) (no_vote 4 refl)
    (retires (one_older (one_older (one_older none_retired 1) 2) 4) world_8 5 (drop 7 (first_leaves ++ third_enters)) (no_vote 5 refl) third_order))))))

all_order : AreInOrder three_plans by_even one_each (record { saved = world_0; oldest = none_retired }) (first_enters ++ (first_leaves ++ third_enters))
all_order =
    let off = idle new_1 third_quorum refl in
    goes_on none_retired world_0 world_1 (Goes (Ask 0)) (drop 1 (first_enters ++ (first_leaves ++ third_enters))) to_1 (fine none_retired (asking 0 first_quorum) new_1 asks_0 new_voters new_voters sent_0 one_draw [] new_voted new_voted (λ _. refl) off)
    (goes_on none_retired world_1 world_2 (Goes (Deliver 0)) (drop 2 (first_enters ++ (first_leaves ++ third_enters))) to_2 (fine none_retired (asking 0 first_quorum) new_1 asks_0 one_given one_given sent_1 one_draw [] one_voted one_voted (λ _. refl) off)
    (goes_on none_retired world_2 world_3 (Goes (Deliver 1)) (drop 3 (first_enters ++ (first_leaves ++ third_enters))) to_3 (fine none_retired (asking 0 first_quorum) new_1 asks_0 both_given both_given sent_2 one_draw [] both_voted both_voted (λ _. refl) off)
    (goes_on none_retired world_3 world_4 (Goes (Deliver 2)) (drop 4 (first_enters ++ (first_leaves ++ third_enters))) to_4 (fine none_retired (voted 0 0 first_quorum) new_1 asks_0 both_given both_given sent_2 one_draw [] both_voted both_voted (λ _. refl) off)
    (goes_on none_retired world_4 world_5 (Goes (Deliver 3)) (drop 5 (first_enters ++ (first_leaves ++ third_enters))) to_5 (fine none_retired (inside 0 0 1 first_quorum) new_1 in_0 both_given both_given sent_2 one_draw seen_in both_voted both_voted (λ _. refl) off)
    leaves_order))))

-- ---- where the events lead

leads : (oldest : ℕ → ℕ) (s t : Saved) (h : Happening) (es : List worlds.Event) (end : World) → happens one_each s h ≡ t → all_happen one_each (record { saved = t; oldest = oldest }) es ≡ end
    → all_happen one_each (record { saved = s; oldest = oldest }) (Befalls (Happens h) ∷ es) ≡ end
leads oldest s t h es end is rest = ap (λ (u : Saved). all_happen one_each (record { saved = u; oldest = oldest }) es) is ∙ rest

to_first : (es : List worlds.Event) (end : World) → all_happen one_each (record { saved = world_5; oldest = none_retired }) es ≡ end
    → all_happen one_each (record { saved = world_0; oldest = none_retired }) (first_enters ++ es) ≡ end
to_first es end rest =
    leads none_retired world_0 world_1 (Goes (Ask 0)) (drop 1 (first_enters ++ es)) end to_1
    (leads none_retired world_1 world_2 (Goes (Deliver 0)) (drop 2 (first_enters ++ es)) end to_2
    (leads none_retired world_2 world_3 (Goes (Deliver 1)) (drop 3 (first_enters ++ es)) end to_3
    (leads none_retired world_3 world_4 (Goes (Deliver 2)) (drop 4 (first_enters ++ es)) end to_4
    (leads none_retired world_4 world_5 (Goes (Deliver 3)) (drop 5 (first_enters ++ es)) end to_5 rest))))

to_third : all_happen one_each (record { saved = world_8; oldest = four_retired }) third_enters ≡ record { saved = world_13; oldest = four_retired }
to_third =
    let end : World = record { saved = world_13; oldest = four_retired } in
    leads four_retired world_8 world_9 (Goes (Ask 1)) (drop 1 third_enters) end to_9
    (leads four_retired world_9 world_10 (Goes (Deliver 6)) (drop 2 third_enters) end to_10
    (leads four_retired world_10 world_11 (Goes (Deliver 7)) (drop 3 third_enters) end to_11
    (leads four_retired world_11 world_12 (Goes (Deliver 8)) (drop 4 third_enters) end to_12
    (leads four_retired world_12 world_13 (Goes (Deliver 9)) [] end to_13 refl))))

to_end : all_happen one_each (record { saved = world_5; oldest = none_retired }) (first_leaves ++ third_enters) ≡ record { saved = world_13; oldest = four_retired }
to_end =
    let end : World = record { saved = world_13; oldest = four_retired } in
    leads none_retired world_5 world_6 (Goes (Leave 0)) (drop 1 (first_leaves ++ third_enters)) end to_6
    (leads none_retired world_6 world_7 (Goes (Deliver 5)) (drop 2 (first_leaves ++ third_enters)) end to_7
    (leads none_retired world_7 world_8 (Saves (OneVoter 1)) (drop 3 (first_leaves ++ third_enters)) end to_8 to_third))

inside_at : (s : Saved) (w : World) (c : ℕ) → w.saved ≡ s → IsIn s c → IsIn w.saved c
inside_at s w c is in_c = subst (λ (u : Saved). IsIn u c) (sym is) in_c

first_in : IsIn first_is_in.saved 0
unfolding client_at
first_in = inside_at world_5 first_is_in 0 (ap (λ (w : World). w.saved) (to_first [] (record { saved = world_5; oldest = none_retired }) refl)) refl

third_in : IsIn third_is_in.saved 1
unfolding client_at
third_in = inside_at world_13 third_is_in 1 (ap (λ (w : World). w.saved) (to_first (first_leaves ++ third_enters) (record { saved = world_13; oldest = four_retired }) to_end)) refl

-- ---- numbers and quorums

limits : AreLimits 6 2 10
limits = record { few_voters = omega arith; few_clients = omega arith; some_stamp = omega arith; few_stamps = omega arith }

quorums : AreQuorums 6 both_quorums
quorums = record {
  sets = All-from_recursion IsSet both_quorums ((omega arith, omega arith, (omega arith, omega arith, tt)), ((omega arith, omega arith, (omega arith, omega arith, tt)), tt));
  in_range = All-from_recursion (λ q. All (λ v. v < 6) q) both_quorums (
    All-from_recursion (λ v. v < 6) first_quorum (omega arith, (omega arith, tt)),
    (All-from_recursion (λ v. v < 6) third_quorum (omega arith, (omega arith, tt)), tt),
  );
  some = All-from_recursion (λ q. 1 ≤ length q) both_quorums (omega arith, (omega arith, tt));
}

dealt : (n : ℕ) → IsAmong both_quorums (quorum_of n)
dealt zero = (0, omega arith, refl)
dealt (suc n) = (1, omega arith, refl)

deals : DealsFrom both_quorums one_each
deals First n = dealt n
deals Second n = dealt n

pub can_be_had : IsSuccession 6 three_plans × (HaveCommon 6 (three_plans 0) (three_plans 2) → ⊥)
    × AreLimits 6 2 10 × AreQuorums 6 both_quorums × DealsFrom both_quorums one_each
    × AreInOrder three_plans by_even one_each new_world (first_enters ++ (first_leaves ++ third_enters))
    × IsIn first_is_in.saved 0 × IsIn third_is_in.saved 1
can_be_had = (three_replace.0, three_replace.1, limits, quorums, deals, all_order, first_in, third_in)
