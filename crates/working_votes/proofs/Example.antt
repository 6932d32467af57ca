-- that a session works by the votes of the example
use Rattle.std.proofs.Common.{◌≡◌, ◌<◌, ◌≤◌, ◌*◌, ◌⊎◌, ℕ, zero, suc, Bool, true, false, List, [], ◌∷◌, ◌++◌, Option, Some, None, refl, sym, ap, subst, ◌∙◌, arith, inl, inr}
use Rattle.std.specs.FinMap.{get}
use Rattle.std.specs.List.{AllByRecursion, list_any, range_with_len}
use Rattle.std.proofs.lemmas.Bool.{false≢true}
use Rattle.std.proofs.lemmas.Bool.Decides.{nat_tests}
use Rattle.std.specs.Prelude.{nat_lt}
use Rattle.std.proofs.lemmas.Option.{none-some, same_Some}
use Rattle.lease_clock.specs.Clocks.{is_silent}
use Rattle.lease_clock.specs.Leases.{is_among}
use Rattle.message.specs.declared.message.ClientBody.TheVariants as to_client
use Rattle.numbers.specs.Bounds.{max_clients}
use Rattle.quiet_time.specs.Quiet.{is_awaited, is_old, noted, since_start, waits_inside}
use Rattle.quiet_time.specs.Runs as quiet_time
use Rattle.voter.proofs.Contract.{MeetsContract-step}
use Rattle.voter.proofs.Effects.{IsSound-step, step-Some}
use Rattle.voter.proofs.Soundness.{IsSound-start}
use Rattle.voter.proofs.Staying.{ended-step, taken_up-step, takes-step}
use Rattle.voter.specs.declared.state.Grant.{Grant}
use Rattle.voter.specs.declared.state.VoterState.{VoterState}
use Rattle.voter.specs.Leases.{evict}
use Rattle.voter.specs.Steps.{IsSound, Outcome, step}
use Rattle.voter.specs.Steps as voter
use Rattle.voter.specs.VoterContract.{Ends, IsEntry}
use Rattle.working.specs.Events.{Beats, Event, Hears, IsRated, Marked, Marks, Renews, Takes, World, after_all}
use Rattle.working.specs.Events as law
use Rattle.working.specs.Example.{pass, start}
use Rattle.working.specs.Sessions.{is_working}
use Rattle.working.specs.Voters.{Quiet}
use Rattle.working_votes.proofs.Rises.{rises-step}
use Rattle.working_votes.specs.Example.{by_client, gives_back, mark_after, new_voters, release, request, saved, seven_asks, starts_anew, whole, works_on}
use Rattle.working_votes.specs.Turns.{Alters, AreFree, AreTrue, Crashes, Evicts, IsOver, Loses, MayEnd, MayEndIf, Place, Turn, Wakes, all_after, all_events, closed_at, events_at, events_by, events_in, grant_at, hears_by, is_doubtful, is_put_off, known, place_after, places_after, started, with_lock}

one_or_two : (n : ℕ) → 0 < n → n ≤ 2 → (n ≡ 1) ⊎ (n ≡ 2)
one_or_two zero some few = absurd (omega arith)
one_or_two (suc zero) some few = inl refl
one_or_two (suc (suc zero)) some few = inr refl
one_or_two (suc (suc (suc n))) some few = absurd (omega arith)

abbrev new_voter : VoterState
new_voter = voter.start 0 2

sound : IsSound new_voter
sound = IsSound-start 0 2 (omega arith)

-- nobody asked a new voter
nobody : (d t : ℕ) → IsEntry new_voter d t → ⊥
nobody d t entry = elim entry [
  | inl held ↦ none-some held.0 held.1
  | inr waits ↦ none-some t (sym (sound.free refl d) ∙ waits)
]

-- so its vote is open to anybody
none_of : {A : Type 0} (test : A → Bool) (xs : List A) → ((x : A) → test x ≡ false) → list_any test xs ≡ false
none_of test [] never = refl
none_of test (x ∷ xs) never = rw (never x) (none_of test xs never)

not_awaited : is_awaited (since_start 0) new_voter ≡ false
unfolding is_awaited
not_awaited = none_of (λ client. waits_inside (since_start 0) client (get new_voter.waiting client)) (range_with_len 0 max_clients)
    (λ client. ap (waits_inside (since_start 0) client) (sound.free refl client))

taken : is_put_off (new_voters 0) request false ≡ false
taken = rw not_awaited refl

has_it : (g : Grant) → g.client ≡ 7 → g.stamp ≡ 1 → Some g ≡ Some (record { client = 7; stamp = 1; grant = g.grant })
has_it g client stamp = ap (λ c. Some (record { client = c; stamp = g.stamp; grant = g.grant })) client ∙ ap (λ s. Some (record { client = 7; stamp = s; grant = g.grant })) stamp

-- a new voter gives its vote to the request
held_by_seven : (o : Outcome) (held : Option Grant) → step new_voter request ≡ Some o → o.state.held ≡ held
    → (number : ℕ) × (held ≡ Some (record { client = 7; stamp = 1; grant = number }))
held_by_seven o None steps is =
    let after = IsSound-step new_voter request o sound steps in
    let entry = taken_up-step new_voter request o 1 sound refl (omega arith) (λ s before. absurd (nobody 7 s before)) steps in
    elim entry [
      | inl held ↦ absurd (none-some held.0 (sym is ∙ held.1))
      | inr waits ↦ absurd (none-some 1 (sym (after.free is 7) ∙ waits))
    ]
held_by_seven o (Some g) steps is =
    elim ((MeetsContract-step new_voter request o steps).entries g.client g.stamp (inl (g, is, refl, refl))) [
      | inl before ↦ absurd (nobody g.client g.stamp before)
      | inr brings ↦ (g.grant, has_it g brings.0 brings.1)
    ]

held_after : (number : ℕ) × (grant_at (hears_by false (new_voters 0) request false) ≡ Some (record { client = 7; stamp = 1; grant = number }))
held_after =
    let taken = takes-step new_voter request sound (omega arith) in
    let has = held_by_seven taken.0 taken.0.state.held taken.1 refl in
    (has.0, ap (λ (o : Option Outcome). (quiet_time.after (new_voters 0).lock (λ v. noted (closed_at (new_voters 0)) false (new_voters 0).lock.since v 7 request.body) o).vote.held) taken.1 ∙ has.1)

-- it may give two grants
first_one : (o : Outcome) (g : Grant) → step new_voter request ≡ Some o → o.state.held ≡ Some g → (g.grant ≡ 1) ⊎ (g.grant ≡ 2)
first_one o g steps is =
    let within = step-Some new_voter request o steps in
    let few : nat_lt 2 o.state.granted ≡ false = subst (λ (p : Outcome). nat_lt 2 p.state.granted ≡ false) within.1 within.0 in
    let counted = (IsSound-step new_voter request o sound steps).numbered g is in
    elim ((rises-step 0 new_voter request o (omega arith) steps).given g is) [
      | inl before ↦ absurd (none-some g before)
      | inr above ↦ (let most : o.state.granted ≤ 2 = grind (arith, nat_tests) in one_or_two g.grant above (omega arith))
    ]

number_is : (held_after.0 ≡ 1) ⊎ (held_after.0 ≡ 2)
unfolding held_after held_by_seven
number_is =
    let taken = takes-step new_voter request sound (omega arith) in
    let has = held_by_seven taken.0 taken.0.state.held taken.1 refl in
    first_one taken.0 (record { client = 7; stamp = 1; grant = has.0 }) taken.1 has.1

-- ---- the second step, in the quiet time: the voter says its LOCKED again

abbrev pub said_again : Outcome
said_again = record { replies = voter.reply (voter.see saved 1) 7 (to_client.Locked 1 1) ∷ []; state = voter.see saved 1 }

again : step saved request ≡ Some said_again
unfolding step voter.take_request voter.take_request_beside
again = refl

abbrev pub killed : Place
killed = started saved true

-- the voter after this, once it is awake, and once the RELEASE came, by what each step does
abbrev pub heard_by : Option Outcome → Place
heard_by o = with_lock killed (quiet_time.after killed.lock (λ v. noted true true killed.lock.since v 7 request.body) o)

abbrev awake_by : Option Outcome → Place
awake_by o = record { lock = (heard_by o).lock; is_quiet = false }

abbrev free_by : Option Outcome → Option Outcome → Place
free_by o last = with_lock (awake_by o) (quiet_time.after (awake_by o).lock (λ v. noted (closed_at (awake_by o)) false (awake_by o).lock.since v 7 release.body) last)

-- ---- the third step: the vote is free

sound_saved : IsSound saved
sound_saved = record {
  limit = omega arith;
  granted = omega arith;
  numbered = λ g is. subst (λ (x : Grant). x.grant ≤ 1) (same_Some (record { client = 7; stamp = 1; grant = 1 }) g is) (omega arith);
  apart = λ g is. sound.free refl g.client;
  free = λ none. absurd (none-some (record { client = 7; stamp = 1; grant = 1 }) (sym none));
}

-- the vote is free after the RELEASE of who has it, if nobody waits
nobody_after : (v : VoterState) → IsSound v → v.held ≡ Some (record { client = 7; stamp = 1; grant = 1 }) → ((d : ℕ) → get v.waiting d ≡ None)
    → (o : Outcome) (held : Option Grant) → step v release ≡ Some o → o.state.held ≡ held → held ≡ None
nobody_after v ok has free o None steps is = refl
nobody_after v ok has free o (Some g) steps is =
    let entry : IsEntry o.state g.client g.stamp = inl (g, is, refl, refl) in
    let g7 : Grant = record { client = 7; stamp = 1; grant = 1 } in
    elim ((MeetsContract-step v release o steps).entries g.client g.stamp entry) [
      | inl before ↦ elim before [
        | inl held ↦
            let own : 7 ≡ g.client = ap (λ (x : Grant). x.client) (same_Some g7 held.0 (sym has ∙ held.1)) ∙ held.2 in
            absurd (ended-step v release o g7 1 ok has refl refl (omega arith) steps g.stamp (subst (λ c. IsEntry o.state c g.stamp) (sym own) entry))
        | inr waits ↦ absurd (none-some g.stamp (sym (free g.client) ∙ waits))
      ]
      | inr none ↦ absurd none
    ]

seen_saved : IsSound (voter.see saved 1)
seen_saved = record { limit = sound_saved.limit; granted = sound_saved.granted; numbered = sound_saved.numbered; apart = sound_saved.apart; free = sound_saved.free }

is_free : (free_by (Some said_again) (step (voter.see saved 1) release)).lock.vote.held ≡ None
is_free =
    let taken = takes-step (voter.see saved 1) release seen_saved (omega arith) in
    ap (λ (o : Option Outcome). (free_by (Some said_again) o).lock.vote.held) taken.1
    ∙ nobody_after (voter.see saved 1) seen_saved refl (sound.free refl) taken.0 taken.0.state.held taken.1 refl

-- ---- the fourth step, in another quiet time: the grant of the older copy is let go

abbrev old_by : Option Outcome → Place
old_by o = with_lock killed (quiet_time.after killed.lock (λ v. killed.lock.since) o)

old_is : ((old_by (evict saved 1)).lock.vote.held ≡ None) × ((old_by (evict saved 1)).lock.since ≡ killed.lock.since)
old_is =
    let taken = takes-step saved release sound_saved (omega arith) in
    let gone = nobody_after saved sound_saved refl (sound.free refl) taken.0 taken.0.state.held taken.1 refl in
    subst (λ (o : Option Outcome). ((old_by o).lock.vote.held ≡ None) × ((old_by o).lock.since ≡ killed.lock.since)) (sym taken.1) (gone, refl)

old_known : grant_at (old_by (evict saved 1)) ≡ None
old_known = ap (λ (h : Option Grant). known true (old_by (evict saved 1)).lock.since h) old_is.0

old_certain : is_doubtful (old_by (evict saved 1)) ≡ false
old_certain = ap (λ (h : Option Grant). is_old (old_by (evict saved 1)).lock.since h) old_is.0

-- ---- what the example is to the law, by the vote after the first step, the second step, and the vote after the third

abbrev pub first_events : Option Grant → List Event
first_events vote =
    Marks 0 ∷ pass 10 9 ∷ Marked 0 1 ∷ Beats 7 ∷ pass 10 9 ∷ Hears 7 0 109 ∷ (events_by by_client 0 None vote ++ pass 10 9 ∷ Renews 7 0 0 ∷ Takes 7 0 0 ∷ [])

abbrev beats : ℕ → List Event
beats time = Beats 7 ∷ Hears 7 0 time ∷ Renews 7 0 0 ∷ []

abbrev marks : ℕ → ℕ → ℕ → List Event
marks number voters sessions = Marks 0 ∷ pass voters sessions ∷ Marked 0 number ∷ []

abbrev pub quiet_events : List Event
quiet_events = Takes 7 0 0 ∷ beats 127 ++ marks 1 50 45 ++ beats 172 ++ marks 2 50 45 ++ beats 217 ++ marks 3 10 9

abbrev more_events : Option Grant → Option Outcome → List Event → List Event
more_events vote o rest =
    Marks 0 ∷ pass 10 9 ∷ Marked 0 1 ∷ Beats 7 ∷ pass 10 9 ∷ Hears 7 0 109
    ∷ (events_by by_client 0 None vote ++ pass 10 9 ∷ Renews 7 0 0 ∷ Takes 7 0 0 ∷ law.Loses 0 ∷ (events_at by_client 0 killed (heard_by o) ++ quiet_events ++ law.Wakes 0 ∷ rest))

abbrev all_of : Option Grant → Option Outcome → Option Grant → List Event
all_of vote o last = more_events vote o (law.Ends 7 1 ∷ (events_by by_client 0 (grant_at (awake_by o)) last ++ []))

abbrev pub first_vote : Option Grant
first_vote = grant_at (hears_by (is_put_off (new_voters 0) request false) (new_voters 0) request false)

first_is : (number : ℕ) × (first_vote ≡ Some (record { client = 7; stamp = 1; grant = number }))
first_is = (held_after.0, ap (λ b. grant_at (hears_by b (new_voters 0) request false)) taken ∙ held_after.1)

-- what holds of such events whatever the number of the first grant is, holds of the example
pub for_any : (P : Option Grant → Option Outcome → Type 0) → ((number : ℕ) → P (Some (record { client = 7; stamp = 1; grant = number })) (Some said_again)) → P first_vote (step saved request)
for_any P holds = subst (λ h. P h (step saved request)) (sym first_is.1) (subst (λ o. P (Some (record { client = 7; stamp = 1; grant = first_is.0 })) o) (sym again) (holds first_is.0))

-- and what holds if that is 1 or 2
pub for_both : (P : Option Grant → Option Outcome → Type 0)
    → P (Some (record { client = 7; stamp = 1; grant = 1 })) (Some said_again) → P (Some (record { client = 7; stamp = 1; grant = 2 })) (Some said_again)
    → P first_vote (step saved request)
unfolding first_is
for_both P one two =
    subst (λ h. P h (step saved request)) (sym first_is.1)
    (subst (λ o. P (Some (record { client = 7; stamp = 1; grant = first_is.0 })) o) (sym again)
    (elim number_is [
      | inl is ↦ subst (λ n. P (Some (record { client = 7; stamp = 1; grant = n })) (Some said_again)) (sym is) one
      | inr is ↦ subst (λ n. P (Some (record { client = 7; stamp = 1; grant = n })) (Some said_again)) (sym is) two
    ]))

abbrev last_vote : Option Outcome → Option Grant
last_vote o = (free_by o (step (heard_by o).lock.vote release)).lock.vote.held

last_is : last_vote (step saved request) ≡ None
last_is = subst (λ o. last_vote o ≡ None) (sym again) is_free

-- ---- the premises

pub free : AreFree new_voters
free voter = (refl, refl)

-- the world when the quiet time ends, and when the RELEASE arrives
abbrev quiet_world : Option Grant → Option Outcome → World
quiet_world vote o =
    let asked = after_all 100 90 (after_all 100 90 start (Marks 0 ∷ pass 10 9 ∷ Marked 0 1 ∷ Beats 7 ∷ pass 10 9 ∷ Hears 7 0 109 ∷ [])) (events_by by_client 0 None vote) in
    let lost = after_all 100 90 asked (pass 10 9 ∷ Renews 7 0 0 ∷ Takes 7 0 0 ∷ law.Loses 0 ∷ []) in
    after_all 100 90 (after_all 100 90 lost (events_at by_client 0 killed (heard_by o))) quiet_events

over : IsOver 100 ((quiet_world first_vote (step saved request)).voters 0)
over = for_any (λ h o. IsOver 100 ((quiet_world h o).voters 0)) (λ number q is. subst (λ (x : Quiet). is_silent ((quiet_world (Some (record { client = 7; stamp = 1; grant = number })) (Some said_again)).voters 0).clock x.since 100 ≡ true) (same_Some _ q is) refl)

not_doubtful : is_doubtful (heard_by (step saved request)) ≡ false
not_doubtful = subst (λ o. is_doubtful (heard_by o) ≡ false) (sym again) refl

has_ended : is_among 1 ((after_all 100 90 (quiet_world first_vote (step saved request)) (law.Wakes 0 ∷ law.Ends 7 1 ∷ [])).sessions 7).ended ≡ true
has_ended = for_any (λ h o. is_among 1 ((after_all 100 90 (quiet_world h o) (law.Wakes 0 ∷ law.Ends 7 1 ∷ [])).sessions 7).ended ≡ true) (λ number. refl)

awake_has : grant_at (awake_by (step saved request)) ≡ Some (record { client = 7; stamp = 1; grant = 1 })
awake_has = subst (λ o. grant_at (awake_by o) ≡ Some (record { client = 7; stamp = 1; grant = 1 })) (sym again) refl

-- its grant ends, as the session ended the request
may_end : MayEndIf by_client 100 (after_all 100 90 (quiet_world first_vote (step saved request)) (law.Wakes 0 ∷ law.Ends 7 1 ∷ [])) 0 (awake_by (step saved request)) (Ends 7 release.body)
may_end g has ends =
    let w = after_all 100 90 (quiet_world first_vote (step saved request)) (law.Wakes 0 ∷ law.Ends 7 1 ∷ []) in
    subst (λ (x : Grant). MayEnd by_client 100 w 0 false x) (same_Some (record { client = 7; stamp = 1; grant = 1 }) g (sym awake_has ∙ has)) (inl has_ended)

-- the world when the second quiet time ends
abbrev old_world : Option Grant → Option Outcome → Option Grant → Option Grant → World
old_world vote o last old =
    let freed = after_all 100 90 (after_all 100 90 (quiet_world vote o) (law.Wakes 0 ∷ law.Ends 7 1 ∷ [])) (events_by by_client 0 (grant_at (awake_by o)) last) in
    let begun = after_all 100 90 (after_all 100 90 freed (law.Restarts 0 ∷ law.Loses 0 ∷ [])) (events_by by_client 0 None old) in
    after_all 100 90 begun (marks 1 50 45 ++ marks 2 50 45 ++ marks 3 10 9)

abbrev IsOverThen : Option Grant → Option Outcome → Option Grant → Option Grant → Type 0
IsOverThen vote o last old = IsOver 100 ((old_world vote o last old).voters 0)

over_again : IsOverThen first_vote (step saved request) (last_vote (step saved request)) (grant_at (old_by (evict saved 1)))
over_again =
    subst (λ last. IsOverThen first_vote (step saved request) last (grant_at (old_by (evict saved 1)))) (sym last_is)
    (subst (λ old. IsOverThen first_vote (step saved request) None old) (sym old_known)
    (for_any (λ h o. IsOverThen h o None None) (λ number q is. subst (λ (x : Quiet). is_silent ((old_world (Some (record { client = 7; stamp = 1; grant = number })) (Some said_again) None None).voters 0).clock x.since 100 ≡ true) (same_Some _ q is) refl)))

pub are_true : AreTrue by_client 100 90 start new_voters whole
are_true = (tt, (tt, (tt, (tt, (tt, (tt, (((λ quiet. absurd (false≢true quiet)), (λ g held ends. absurd (none-some g held))), (tt, (tt, (tt, (sound_saved, (((λ quiet. ((omega arith), (omega arith))), (λ g held ends. absurd (none-some g held))), (tt, (tt, (tt, (tt, (tt, (tt, (tt, (tt, (tt, (tt, (tt, (tt, (tt, (tt, (tt, (tt, (tt, (tt, (tt, ((refl, not_doubtful, over), (tt, (((λ quiet. absurd (false≢true quiet)), may_end), (refl, ((sym last_is, (λ quiet. absurd (false≢true quiet))), (sound_saved, ((λ g held same. absurd (none-some g held)), (tt, (tt, (tt, (tt, (tt, (tt, (tt, (tt, (tt, ((refl, old_certain, over_again), tt))))))))))))))))))))))))))))))))))))))))))))))))

-- the voters' clocks go on by ten where the sessions' go on by nine
goes : (voter session : ℕ) → 9 * 10 ≤ 10 * 9
goes voter session = omega arith

goes_long : (voter session : ℕ) → 9 * 50 ≤ 10 * 45
goes_long voter session = omega arith

abbrev pub before : List Turn
before = seven_asks ++ works_on ++ gives_back

pub before_rates : AllByRecursion (IsRated 9 10) (all_events by_client new_voters before)
unfolding step voter.take_request voter.take_request_beside
before_rates = subst (λ last. AllByRecursion (IsRated 9 10) (all_of first_vote (step saved request) last)) (sym last_is)
    (for_any (λ h o. AllByRecursion (IsRated 9 10) (all_of h o None)) (λ number. (tt, (goes, (tt, (tt, (goes, (tt, (tt, (tt, (tt, (goes, (tt, (tt, (tt, (tt, (tt, (tt, (tt, (tt, (tt, (tt, (tt, (goes_long, (tt, (tt, (tt, (tt, (tt, (goes_long, (tt, (tt, (tt, (tt, (tt, (goes, (tt, (tt, (tt, (tt, (tt, (tt, (tt, tt)))))))))))))))))))))))))))))))))))))))))))

-- the events of turns, and of others after them
pub events_then : (places : ℕ → Place) (first rest : List Turn) → all_events by_client places (first ++ rest) ≡ all_events by_client places first ++ all_events by_client (all_after places first) rest
events_then places [] rest = refl
events_then places (t ∷ first) rest =
    ap (λ events. events_in by_client places t ++ events) (events_then (places_after places t) first rest)
    ∙ sym (together (events_in by_client places t) (all_events by_client (places_after places t) first) (all_events by_client (all_after (places_after places t) first) rest))
  where
    together : (x y z : List Event) → (x ++ y) ++ z ≡ x ++ (y ++ z)
    together [] y z = refl
    together (e ∷ x) y z = ap (λ events. e ∷ events) (together x y z)

both_rates : (first rest : List Event) → AllByRecursion (IsRated 9 10) first → AllByRecursion (IsRated 9 10) rest → AllByRecursion (IsRated 9 10) (first ++ rest)
both_rates [] rest none all = all
both_rates (e ∷ first) rest rated all = (rated.0, both_rates first rest rated.1 all)

old_rates : (first vote : Option Grant) → first ≡ None → vote ≡ None → AllByRecursion (IsRated 9 10) (law.Restarts 0 ∷ law.Loses 0 ∷ (events_by by_client 0 first vote ++ []))
old_rates None None none is = (tt, (tt, (tt, tt)))
old_rates None (Some g) none is = absurd (none-some g (sym is))
old_rates (Some g) vote none is = absurd (none-some g (sym none))

abbrev lets_go : List Turn
lets_go = Crashes 0 ∷ Alters 0 (voter.start 0 20) ∷ Loses 0 saved ∷ Evicts 0 1 ∷ []

abbrev ends_quiet : List Turn
ends_quiet = mark_after 1 50 45 ++ mark_after 2 50 45 ++ mark_after 3 10 9 ++ Wakes 0 ∷ []

rates_to : (places : ℕ → Place) → AllByRecursion (IsRated 9 10) (all_events by_client places lets_go)
rates_to places = old_rates (grant_at killed) (grant_at (place_after killed (Evicts 0 1))) refl old_known

rates_from : (places : ℕ → Place) → AllByRecursion (IsRated 9 10) (all_events by_client places ends_quiet)
rates_from places = (tt, (goes_long, (tt, (tt, (goes_long, (tt, (tt, (goes, (tt, (tt, tt))))))))))

rates_then : (places : ℕ → Place) → AllByRecursion (IsRated 9 10) (all_events by_client places starts_anew)
rates_then places = subst (λ events. AllByRecursion (IsRated 9 10) events) (sym (events_then places lets_go ends_quiet))
    (both_rates (all_events by_client places lets_go) (all_events by_client (all_after places lets_go) ends_quiet) (rates_to places) (rates_from (all_after places lets_go)))

pub rates : AllByRecursion (IsRated 9 10) (all_events by_client new_voters whole)
rates = subst (λ events. AllByRecursion (IsRated 9 10) events) (sym (events_then new_voters before starts_anew))
    (both_rates (all_events by_client new_voters before) (all_events by_client (all_after new_voters before) starts_anew) before_rates (rates_then (all_after new_voters before)))

-- ---- what holds

pub works : is_working 80 10 ((after_all 100 90 start (all_events by_client new_voters seven_asks)).sessions 7) 1 (0 ∷ []) ≡ true
works = for_any (λ h o. is_working 80 10 ((after_all 100 90 start (first_events h)).sessions 7) 1 (0 ∷ []) ≡ true) (λ number. refl)

pub works_still : is_working 80 10 ((after_all 100 90 start (all_events by_client new_voters (seven_asks ++ works_on))).sessions 7) 1 (0 ∷ []) ≡ true
unfolding step voter.take_request voter.take_request_beside
works_still = for_any (λ h o. is_working 80 10 ((after_all 100 90 start (more_events h o [])).sessions 7) 1 (0 ∷ []) ≡ true) (λ number. refl)

pub has_vote : (all_after new_voters (seven_asks ++ works_on) 0).lock.vote.held ≡ Some (record { client = 7; stamp = 1; grant = 1 })
has_vote = awake_has

pub is_over : (all_after new_voters (seven_asks ++ works_on ++ gives_back) 0).lock.vote.held ≡ None
is_over = last_is

pub serves : (all_after new_voters whole 0).is_quiet ≡ false
serves = refl

pub is_free_then : (all_after new_voters whole 0).lock.vote.held ≡ None
is_free_then = old_is.0
