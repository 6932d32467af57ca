-- what the voter of the example says, and to whom it gives its vote
use Rattle.std.proofs.Common.{◌≡◌, ℕ, Bool, true, false, cond, List, [], ◌∷◌, Option, Some, None, refl, sym, ap, subst, ◌∙◌, eqb}
use Rattle.std.specs.Prelude.{nat_lt}
use Rattle.std.specs.List.{list_any, range_with_len}
use Rattle.std.specs.Ordering.{nat_cmp}
use Rattle.std.specs.FinMap as fin
use Rattle.std.specs.FinMap.{get-empty}
use Rattle.std.proofs.lemmas.Bool.{eqb-true}
use Rattle.std.proofs.lemmas.Option.{none-some, same_Some}
use Rattle.numbers.specs.Bounds.{max_clients}
use Rattle.message.specs.declared.request.Request.{Request}
use Rattle.message.specs.Requests.{precedes}
use Rattle.quiet_time.specs.Quiet.{is_awaited, noted, since_start, waits_inside}
use Rattle.quiet_time.specs.Runs as quiet_time
use Rattle.voter.specs.declared.state.Grant.{Grant}
use Rattle.voter.specs.declared.state.VoterState.{VoterState}
use Rattle.voter.specs.Steps as voter
use Rattle.voter.specs.Waiting.{Waiting, front}
use Rattle.voter.proofs.Front.{front-is, precedes-not_self}
use Rattle.voter.proofs.Soundness.{get-inserted}
use Rattle.working_votes.specs.Example.{new_voters, request}
use Rattle.working_votes.specs.Turns.{Meets, all_after, closed_at, grant_at, hears_by, is_put_off, replies_by, said_by, said_in}
use Rattle.whole_lock.specs.Example.{is_heard, locked}

-- ---- the one request that waits is the front

abbrev one_waiting : Waiting
one_waiting = fin.insert fin.empty 7 1

abbrev request_of : ℕ → ℕ → Request
request_of client stamp = record { stamp = stamp; client = client }

one_get : (client : ℕ) → fin.get one_waiting client ≡ cond (eqb client 7) (Some 1) None
one_get client = get-inserted fin.empty 7 1 client ∙ ap (λ (o : Option ℕ). cond (eqb client 7) (Some 1) o) (get-empty nat_cmp client)

found : (client stamp : ℕ) (b : Bool) → eqb client 7 ≡ b → cond b (Some 1) None ≡ Some stamp → request_of client stamp ≡ request_of 7 1
found client stamp true e is = ap (λ (n : ℕ). request_of n stamp) (eqb-true client 7 e) ∙ ap (λ (n : ℕ). request_of 7 n) (sym (same_Some 1 stamp is))
found client stamp false e is = absurd (none-some stamp is)

one_waits : front one_waiting ≡ Some (request_of 7 1)
one_waits = front-is one_waiting (request_of 7 1) (one_get 7)
    (λ client stamp is. subst (λ (r : Request). precedes r (request_of 7 1) ≡ false) (sym (found client stamp (eqb client 7) refl (sym (one_get client) ∙ is))) (precedes-not_self (request_of 7 1)))

-- ---- the step

abbrev new_voter : VoterState
new_voter = voter.start 0 2

-- it gives its vote to the request
abbrev granted : voter.Outcome
granted = voter.grant_to (voter.queue (voter.see new_voter 1) 7 1) (Some (request_of 7 1))

beside : voter.take_request_beside (voter.see new_voter 1) 7 1 (fin.get (fin.empty {R = nat_cmp}) 7) ≡ granted
unfolding voter.take_request_beside voter.admit voter.grant_front
beside =
    ap (λ (o : Option ℕ). voter.take_request_beside (voter.see new_voter 1) 7 1 o) (get-empty nat_cmp 7)
    ∙ ap (λ (o : Option Request). voter.grant_to (voter.queue (voter.see new_voter 1) 7 1) o) one_waits

steps : voter.step new_voter request ≡ Some granted
unfolding voter.step voter.take_request
steps = ap (λ (o : voter.Outcome). voter.unless_spent (nat_lt 2 o.state.granted) o) beside

-- ---- the turn

-- nobody waits who said that he is inside, so the vote is open to anybody
none_of : {A : Type 0} (test : A → Bool) (xs : List A) → ((x : A) → test x ≡ false) → list_any test xs ≡ false
none_of test [] never = refl
none_of test (x ∷ xs) never = rw (never x) (none_of test xs never)

not_awaited : is_awaited (since_start 0) new_voter ≡ false
unfolding is_awaited
not_awaited = none_of (λ client. waits_inside (since_start 0) client (fin.get new_voter.waiting client)) (range_with_len 0 max_clients)
    (λ client. ap (waits_inside (since_start 0) client) (get-empty nat_cmp client))

taken : is_put_off (new_voters 0) request false ≡ false
taken = rw not_awaited refl

-- the vote, and what is said, by the outcome
abbrev vote_by : Option voter.Outcome → Option Grant
vote_by o = (quiet_time.after (new_voters 0).lock (λ v. noted (closed_at (new_voters 0)) false (new_voters 0).lock.since v 7 request.body) o).vote.held

pub first_vote : grant_at (hears_by (is_put_off (new_voters 0) request false) (new_voters 0) request false) ≡ Some (record { client = 7; stamp = 1; grant = 1 })
first_vote = ap (λ b. grant_at (hears_by b (new_voters 0) request false)) taken ∙ ap vote_by steps

pub held : (hears_by (is_put_off (new_voters 0) request false) (new_voters 0) request false).lock.vote.held ≡ Some (record { client = 7; stamp = 1; grant = 1 })
held = ap (λ b. (hears_by b (new_voters 0) request false).lock.vote.held) taken ∙ ap vote_by steps

pub said : said_in (all_after new_voters is_heard) (Meets 0 request false) ≡ locked ∷ []
said = ap (λ b. replies_by b (new_voters 0) request) taken ∙ ap said_by steps
