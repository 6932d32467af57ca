-- The numbers of a voter's grants rise, also over restarts. So whoever has a vote later has it by a
-- greater number, unless it is the same request of the same client.
use Rattle.std.proofs.Common.{◌≡◌, ℕ, ◌<◌, ◌≤◌, Bool, true, false, List, [], ◌∷◌, map, Option, Some, None, Result, Ok, Err, refl, sym, ap, subst, ◌∙◌, ◌⊎◌, inl, inr, arith}
use Rattle.std.specs.Prelude.{is_some, length, nat_lt, slice_get}
use Rattle.std.proofs.lemmas.Bool.Decides.{nat_tests}
use Rattle.std.proofs.lemmas.Option.{none-some, same_Some}
use Rattle.message.specs.declared.message.ToVoter.{ToVoter}
use Rattle.message.specs.declared.message.Message.{Message}
use Rattle.message.specs.declared.message.Message.TheVariants as kinds
use Rattle.voter.specs.declared.state.Grant.{Grant}
use Rattle.voter.specs.declared.state.VoterState.{VoterState}
use Rattle.voter.specs.Saved.{least_voter}
use Rattle.voter.specs.Steps as voter
use Rattle.voter.specs.VoteMoves.{VoteMoves, GrantIsNew}
use Rattle.requester.specs.declared.fault.ClientFault.{ClientFault}
use Rattle.requester.specs.Steps as client
use Rattle.requester.specs.declared.state.ClientState.{ClientState}
use Rattle.requester.specs.Words.{held_of, holds}
use Rattle.quorum_set.specs.declared.bridge.Side.{Side}
use Rattle.quorum_set.specs.declared.bridge.Side.TheVariants.{First, Second}
use Rattle.world_state.specs.declared.fault.WorldFault.{WorldFault}
use Rattle.world_state.specs.declared.step.Step.{Step}
use Rattle.world_state.specs.declared.step.Step.TheVariants.{Ask, Deliver, Leave, GiveUp, RemindClient, RemindVoter, Exchange}
use Rattle.world.specs.Restarts.{Node, OneClient, OneVoter, Nobody, Saved, Happening, Goes, Saves, Forgets, Restarts, HasVote, IsIn, IsNewer, IsSameRequest, pass_of, stamp_of}
use Rattle.world.specs.Restarts.{forget, come_back, if_there, maker, save, restart, save_unless, save_and_send, happens, all_happen, begin}
use Rattle.world_state.specs.Steps.{is_silent}
use Rattle.world.specs.Runs.{AreLimits, start}
use Rattle.world_state.specs.Steps.{Dealing, Outcome, WorldState, act, after_client, ask, next_ticket, quorum_dealt, say, after_voter, client_at, come, draw_of, exchange, if_client}
use Rattle.world_state.specs.Steps.{if_voter, step, voter_at}
use Rattle.world.specs.Visible.{DealsFrom, DoMeet}
use Rattle.world.specs.Rules.{ClientLaws, VoterLaws}
use Rattle.world.proofs.Claims.{Bounds, Names}
use Rattle.world.proofs.Exclusion.{common_vote, held_under}
use Rattle.world.proofs.Places.{EachVoter, set_voter}
use Rattle.world.proofs.Reached.{RunPremises, start_unused}
use Rattle.world.proofs.Restarts.{SavedOk, all_ok, begin_ok, happens_ok, live_ok}

-- ---- a property of each voter, by its number

-- of each voter as it is, and as it is saved
abbrev EachSaved : (ℕ → VoterState → Type 0) → Saved → Type 0
EachSaved P s = EachVoter P s.live.voters × EachVoter P s.voters

-- each step of a voter keeps the property, and so does the loss of all but the least
record PropertyLasts (P : ℕ → VoterState → Type 0) : Type 0 where
  steps : (v : ℕ) (y : VoterState) (m : ToVoter) (o : voter.Outcome) → voter.IsSound y → voter.step y m ≡ Some o → P v y → P v o.state
  least : (v : ℕ) (y : VoterState) → P v y → P v (least_voter y)

-- ---- steps of the world

abbrev VotersMoved : (ℕ → VoterState → Type 0) → Result Outcome WorldFault → Type 0
VotersMoved P (Ok o) = EachVoter P o.state.voters
VotersMoved P (Err fault) = Unit {0}

client_moved : (P : ℕ → VoterState → Type 0) (w : WorldState) (c : ℕ) (r : Result client.Outcome ClientFault) → EachVoter P w.voters → VotersMoved P (after_client w c r)
client_moved P w c (Ok o) all = all
client_moved P w c (Err fault) all = tt

client_drew : (P : ℕ → VoterState → Type 0) (side : Side) (w : WorldState) (c : ℕ) (r : Result client.Outcome ClientFault) → EachVoter P w.voters → VotersMoved P (after_client (draw_of side w c) c r)
client_drew P First w c r all = client_moved P (draw_of First w c) c r all
client_drew P Second w c r all = client_moved P (draw_of Second w c) c r all

voter_moved : (P : ℕ → VoterState → Type 0) → PropertyLasts P → (w : WorldState) (m : ToVoter) (r : Option voter.Outcome) → voter.step (voter_at w.voters m.voter) m ≡ r
    → voter.IsSound (voter_at w.voters m.voter) → EachVoter P w.voters → VotersMoved P (after_voter w m.voter r)
voter_moved P lasts w m (Some o) is sound all = set_voter P w.voters m.voter o.state (lasts.steps m.voter (voter_at w.voters m.voter) m o sound is (all m.voter)) all
voter_moved P lasts w m None is sound all = tt

moved_if : (P : ℕ → VoterState → Type 0) (t : Bool) (c : ℕ) (next : Result Outcome WorldFault) → VotersMoved P next → VotersMoved P (if_client t c next)
moved_if P true c next moved = moved
moved_if P false c next moved = tt

moved_if_voter : (P : ℕ → VoterState → Type 0) (t : Bool) (v : ℕ) (next : Result Outcome WorldFault) → VotersMoved P next → VotersMoved P (if_voter t v next)
moved_if_voter P true v next moved = moved
moved_if_voter P false v next moved = tt

came : (P : ℕ → VoterState → Type 0) → PropertyLasts P → (w : WorldState) (k : ℕ) (m : Option Message) → EachVoter (λ v y. voter.IsSound y) w.voters → EachVoter P w.voters → VotersMoved P (come w k m)
came P lasts w k None sound all = tt
came P lasts w k (Some (kinds.ToVoter m)) sound all = voter_moved P lasts w m (voter.step (voter_at w.voters m.voter) m) refl (sound m.voter) all
came P lasts w k (Some (kinds.ToClient m)) sound all = client_moved P w m.client (client.step (client_at w.clients m.client) (client.Takes m)) all

exchanged : (P : ℕ → VoterState → Type 0) (w : WorldState) (are_two : Bool) (side : Side) → EachVoter P w.voters → VotersMoved P (exchange are_two side w)
exchanged P w true First all = all
exchanged P w true Second all = tt
exchanged P w false side all = tt

moved : (P : ℕ → VoterState → Type 0) → PropertyLasts P → (deal : Dealing) (w : WorldState) → EachVoter (λ v y. voter.IsSound y) w.voters → (st : Step) → EachVoter P w.voters → VotersMoved P (step deal w st)
unfolding step
moved P lasts deal w sound (Ask c) all = moved_if P (nat_lt c (length w.clients)) c (ask w c (quorum_dealt deal w.side (next_ticket w)))
    (client_drew P w.side w c (client.step (client_at w.clients c) (client.Asks (quorum_dealt deal w.side (next_ticket w)))) all)
moved P lasts deal w sound (Deliver k) all = came P lasts w k (slice_get w.sent k) sound all
moved P lasts deal w sound (Leave c) all = moved_if P (nat_lt c (length w.clients)) c (act w c client.Leaves) (client_moved P w c (client.step (client_at w.clients c) client.Leaves) all)
moved P lasts deal w sound (GiveUp c) all = moved_if P (nat_lt c (length w.clients)) c (act w c client.GivesUp) (client_moved P w c (client.step (client_at w.clients c) client.GivesUp) all)
moved P lasts deal w sound (RemindClient c) all = moved_if P (nat_lt c (length w.clients)) c (Ok (say w (map kinds.ToVoter (client.remind (client_at w.clients c))))) all
moved P lasts deal w sound (RemindVoter v) all = moved_if_voter P (nat_lt v (length w.voters)) v (Ok (say w (map kinds.ToClient (voter.remind (voter_at w.voters v))))) all
moved P lasts deal w sound Exchange all = exchanged P w (is_some deal.second) w.side all

-- ---- all that may happen

saves : (P : ℕ → VoterState → Type 0) (who : Node) (s : Saved) → EachSaved P s → EachSaved P (save who s)
saves P Nobody s each = each
saves P (OneClient c) s each = each
saves P (OneVoter v) s each = (each.0, set_voter P s.voters v (voter_at s.live.voters v) (each.0 v) each.1)

forgets : (P : ℕ → VoterState → Type 0) → PropertyLasts P → (who : Node) (s : Saved) → EachSaved P s → EachSaved P (forget who s)
forgets P lasts Nobody s each = each
forgets P lasts (OneClient c) s each = each
forgets P lasts (OneVoter v) s each = (each.0, set_voter P s.voters v (least_voter (voter_at s.voters v)) (lasts.least v (voter_at s.voters v) (each.1 v)) each.1)

came_back : (P : ℕ → VoterState → Type 0) (t : Bool) (u s : Saved) → EachSaved P u → EachSaved P s → EachSaved P (if_there t u s)
came_back P true u s then each = then
came_back P false u s then each = each

restarts : (P : ℕ → VoterState → Type 0) (who : Node) (s : Saved) → EachSaved P s → EachSaved P (restart who s)
restarts P Nobody s each = each
restarts P (OneClient c) s each = came_back P (nat_lt c (length s.live.clients)) (come_back s c (client_at s.clients c)) s each each
restarts P (OneVoter v) s each = (set_voter P s.live.voters v (voter_at s.voters v) (each.1 v) each.0, each.1)

saves_unless : (P : ℕ → VoterState → Type 0) (silent : Bool) (who : Node) (s : Saved) → EachSaved P s → EachSaved P (save_unless silent who s)
saves_unless P true who s each = each
saves_unless P false who s each = saves P who s each

goes : (P : ℕ → VoterState → Type 0) (s : Saved) (who : Node) (r : Result Outcome WorldFault) → VotersMoved P r → EachSaved P s → EachSaved P (save_and_send s who r)
goes P s who (Ok o) now each = saves_unless P (is_silent o.sent o.seen) who (record s { live = o.state }) (now, each.1)
goes P s who (Err fault) now each = each

lasts_over : (P : ℕ → VoterState → Type 0) → PropertyLasts P → (b : Bounds) (deal : Dealing) (s : Saved) → SavedOk b s → (h : Happening) → EachSaved P s → EachSaved P (happens deal s h)
lasts_over P lasts b deal s ok (Goes st) each = goes P s (maker s.live st) (step deal s.live st) (moved P lasts deal s.live (λ v. ((live_ok b s ok).voters v).sound) st each.0) each
lasts_over P lasts b deal s ok (Saves who) each = saves P who s each
lasts_over P lasts b deal s ok (Forgets who) each = forgets P lasts who s each
lasts_over P lasts b deal s ok (Restarts who) each = restarts P who s each

lasts_over_all : (P : ℕ → VoterState → Type 0) → PropertyLasts P → (b : Bounds) → RunPremises b → (deal : Dealing) → DealsFrom b.quorums deal → (hs : List Happening) (s : Saved) → SavedOk b s → EachSaved P s
    → EachSaved P (all_happen deal hs s)
lasts_over_all P lasts b given deal deals [] s ok each = each
lasts_over_all P lasts b given deal deals (h ∷ hs) s ok each =
    lasts_over_all P lasts b given deal deals hs (happens deal s h) (happens_ok b given deal deals s ok h) (lasts_over P lasts b deal s ok h each)

-- ---- the current grant has the number of the grants

abbrev HasLatest : ℕ → VoterState → Type 0
HasLatest v y = (g : Grant) → y.held ≡ Some g → g.grant ≡ y.granted

latest_new : (y z : VoterState) → GrantIsNew y z → (v : ℕ) → HasLatest v z
latest_new y z new v g is = ap (λ (h : Grant). h.grant) (same_Some g new.grant (sym is ∙ new.held)) ∙ new.number ∙ sym new.granted

latest_moved : (frees : Bool) (y z : VoterState) → VoteMoves frees y z → (v : ℕ) → HasLatest v y → HasLatest v z
latest_moved true y z (inl ends) v latest g is = absurd (none-some g (sym ends.held ∙ is))
latest_moved true y z (inr new) v latest g is = latest_new y z new v g is
latest_moved false y z (inl stays) v latest g is = latest g (sym stays.held ∙ is) ∙ sym stays.granted
latest_moved false y z (inr new) v latest g is = latest_new y z new.1 v g is

latest_lasts : VoterLaws → PropertyLasts HasLatest
latest_lasts laws = record {
  steps = λ v y m o sound is latest. latest_moved (voter.effect_of y m).frees y o.state (laws.numbers y m o sound is) v latest;
  least = λ v y latest. latest;
}

latest_first : (b : Bounds) → RunPremises b → EachSaved HasLatest (begin b.voters b.clients b.limit)
latest_first b given =
    let none : EachVoter HasLatest (start b.voters b.clients b.limit).voters = λ v g is. absurd (none-some g (sym (start_unused b given v).held ∙ is)) in
    (none, none)

-- ---- a grant that was given once

-- it is the latest one, perhaps over, or a later one was given
abbrev WasGivenOrLater : Grant → VoterState → Type 0
WasGivenOrLater g y = (g.grant < y.granted) ⊎ ((y.granted ≡ g.grant) × ((y.held ≡ None) ⊎ (y.held ≡ Some g)))

given_new : (g : Grant) (y z : VoterState) → GrantIsNew y z → WasGivenOrLater g y → WasGivenOrLater g z
given_new g y z new (inl less) = let more = new.granted in inl (omega arith)
given_new g y z new (inr same) = let more = new.granted in let here = same.0 in inl (omega arith)

given_moved : (g : Grant) (frees : Bool) (y z : VoterState) → VoteMoves frees y z → WasGivenOrLater g y → WasGivenOrLater g z
given_moved g true y z (inl ends) (inl less) = let still = ends.granted in inl (omega arith)
given_moved g true y z (inl ends) (inr same) = inr (ends.granted ∙ same.0, inl ends.held)
given_moved g true y z (inr new) was = given_new g y z new was
given_moved g false y z (inl stays) (inl less) = let still = stays.granted in inl (omega arith)
given_moved g false y z (inl stays) (inr same) = inr (stays.granted ∙ same.0, elim same.1 [ inl none ↦ inl (stays.held ∙ none) | inr some ↦ inr (stays.held ∙ some) ])
given_moved g false y z (inr new) was = given_new g y z new.1 was

abbrev WasGivenBy : ℕ → Grant → ℕ → VoterState → Type 0
WasGivenBy voter g v y = v ≡ voter → WasGivenOrLater g y

given_lasts : VoterLaws → (voter_number : ℕ) (g : Grant) → PropertyLasts (WasGivenBy voter_number g)
given_lasts laws voter_number g = record {
  steps = λ v y m o sound is was here. given_moved g (voter.effect_of y m).frees y o.state (laws.numbers y m o sound is) (was here);
  least = λ v y was. was;
}

-- ---- two holders

abbrev grant_of : ℕ → ℕ → ℕ → Grant
grant_of c s g = record { client = c; stamp = s; grant = g }

later_or_same : (c s g d r n : ℕ) (y : VoterState) → WasGivenOrLater (grant_of c s g) y → Names y.held d r n → n ≡ y.granted → (g < n) ⊎ ((c ≡ d) × (s ≡ r) × (g ≡ n))
later_or_same c s g d r n y (inl less) names is = inl (omega arith)
later_or_same c s g d r n y (inr same) names is = elim same.1 [
  | inl none ↦ absurd (none-some (grant_of d r n) (sym none ∙ names))
  | inr some ↦ let e = same_Some (grant_of c s g) (grant_of d r n) (sym some ∙ names) in
      inr (ap (λ (h : Grant). h.client) e, ap (λ (h : Grant). h.stamp) e, ap (λ (h : Grant). h.grant) e)
]

pub later_votes : ClientLaws → VoterLaws → (voters clients limit : ℕ) (quorums : List (List ℕ)) (deal : Dealing) (before after : List Happening) (c d v g n : ℕ)
    → AreLimits voters clients limit → DoMeet voters quorums → DealsFrom quorums deal
    → HasVote (all_happen deal before (begin voters clients limit)) c v g
    → HasVote (all_happen deal after (all_happen deal before (begin voters clients limit))) d v n
    → (g < n) ⊎ ((c ≡ d) × (stamp_of (all_happen deal before (begin voters clients limit)) c ≡ stamp_of (all_happen deal after (all_happen deal before (begin voters clients limit))) d) × (g ≡ n))
later_votes cs vs voters clients limit quorums deal before after c d v g n limits meets deals first second =
    let b : Bounds = record { voters = voters; clients = clients; limit = limit; quorums = quorums } in
    let given : RunPremises b = record { client = cs; voter = vs; limits = limits; meet = meets } in
    let s = all_happen deal before (begin voters clients limit) in
    let t = all_happen deal after s in
    let ok = all_ok b given deal deals before (begin voters clients limit) (begin_ok b given) in
    let ok_after = all_ok b given deal deals after s ok in
    let latest = lasts_over_all HasLatest (latest_lasts vs) b given deal deals before (begin voters clients limit) (begin_ok b given) (latest_first b given) in
    let latest_after = lasts_over_all HasLatest (latest_lasts vs) b given deal deals after s ok latest in
    let held = grant_of c (stamp_of s c) g in
    let named : Names (voter_at s.live.voters v).held c (stamp_of s c) g = (live_ok b s ok).held c v g first in
    let named_saved : Names (voter_at s.voters v).held c (stamp_of s c) g = (ok.mixes (client_at s.live.clients) (voter_at s.voters) (λ q. inl refl) (λ q. inr refl)).held c v g first in
    let was : EachSaved (WasGivenBy v held) s = (
      λ q here. subst (λ k. WasGivenOrLater held (voter_at s.live.voters k)) (sym here) (inr (sym (latest.0 v held named), inr named)),
      λ q here. subst (λ k. WasGivenOrLater held (voter_at s.voters k)) (sym here) (inr (sym (latest.1 v held named_saved), inr named_saved)),
    ) in
    let was_after = lasts_over_all (WasGivenBy v held) (given_lasts vs v held) b given deal deals after s ok was in
    let named_after : Names (voter_at t.live.voters v).held d (stamp_of t d) n = (live_ok b t ok_after).held d v n second in
    later_or_same c (stamp_of s c) g d (stamp_of t d) n (voter_at t.live.voters v) (was_after.0 v refl) named_after (latest_after.0 v (grant_of d (stamp_of t d) n) named_after)

-- ---- two passes

has_grant : (x : ClientState) (v : ℕ) → holds x v ≡ true → 1 ≤ held_of x v
has_grant x v is = grind (arith, nat_tests)

pub later_passes : ClientLaws → VoterLaws → (voters clients limit : ℕ) (quorums : List (List ℕ)) (deal : Dealing) (before after : List Happening) (c d : ℕ)
    → AreLimits voters clients limit → DoMeet voters quorums → DealsFrom quorums deal
    → IsIn (all_happen deal before (begin voters clients limit)) c
    → IsIn (all_happen deal after (all_happen deal before (begin voters clients limit))) d
    → IsSameRequest (all_happen deal before (begin voters clients limit)) c (all_happen deal after (all_happen deal before (begin voters clients limit))) d
    ⊎ IsNewer (pass_of (all_happen deal before (begin voters clients limit)) c) (pass_of (all_happen deal after (all_happen deal before (begin voters clients limit))) d)
later_passes cs vs voters clients limit quorums deal before after c d limits meets deals in_c in_d =
    let b : Bounds = record { voters = voters; clients = clients; limit = limit; quorums = quorums } in
    let given : RunPremises b = record { client = cs; voter = vs; limits = limits; meet = meets } in
    let s = all_happen deal before (begin voters clients limit) in
    let t = all_happen deal after s in
    let ok = all_ok b given deal deals before (begin voters clients limit) (begin_ok b given) in
    let ok_after = all_ok b given deal deals after s ok in
    let x = client_at s.live.clients c in
    let y = client_at t.live.clients d in
    let both = common_vote b meets x y ((live_ok b s ok).clients c) ((live_ok b t ok_after).clients d) in_c in_d in
    let v = both.0 in
    let within : v < voters = both.1 in
    let few = limits.few_voters in
    elim (later_votes cs vs voters clients limit quorums deal before after c d v (held_of x v) (held_of y v) limits meets deals (held_under x v both.2) (held_under y v both.3)) [
      | inl less ↦ inr (v, omega arith, has_grant x v both.2, less)
      | inr same ↦ inl (same.0, same.1)
    ]
