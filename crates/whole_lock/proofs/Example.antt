-- what the example asks for
use Rattle.std.proofs.Common.{◌≡◌, ◌≤◌, ◌*◌, ℕ, suc, zero, false, List, [], ◌∷◌, Option, Some, refl, sym, ap, subst, ◌∙◌, inl, inr, arith}
use Rattle.std.specs.List.{AllByRecursion, slice_get}
use Rattle.std.proofs.lemmas.Bool.{false≢true}
use Rattle.std.proofs.lemmas.Option.{none-some, same_Some}
use Rattle.numbers.specs.Sets.{IsSet}
use Rattle.requester.specs.Steps.{ask, take, take_locked}
use Rattle.voter.specs.declared.state.Grant.{Grant}
use Rattle.working.specs.Events.{DoMeet, Event, IsOneOf, IsRated, after_all}
use Rattle.working.specs.Example.{start}
use Rattle.working.specs.Voters.{Acknowledgement, Locked, grant_of}
use Rattle.vote_leases.specs.Example.{lapses_of}
use Rattle.vote_leases.specs.Sessions.{AreTold, events_of}
use Rattle.vote_leases.specs.declared.lease.VoterLease.{VoterLease}
use Rattle.callers.specs.Worlds.{CallWorks, begun_caller, caller_after, steps_of}
use Rattle.client_node.specs.Example.{lease, locks}
use Rattle.client_node.specs.Locks.{ask_lock}
use Rattle.client_node.specs.Worlds.{AllMet, MayBegin, all_steps, locks_after}
use Rattle.working_votes.specs.Example.{by_client, new_voters, request}
use Rattle.working_votes.specs.Turns.{AreFree, AreTrue, all_after, all_events}
use Rattle.working_votes.proofs.Example.{first_events}
use Rattle.whole_lock.specs.Example.{a_call, alone, comes, is_granted, sent_by}
use Rattle.whole_lock.specs.Quorums.{HasQuorum}
use Rattle.whole_lock.proofs.Granted.{first_vote, held}
use Rattle.whole_lock.proofs.Works.{has_quorum}

-- ---- quorums, leases, and numbers

in_alone : (p : List ℕ) → IsOneOf p alone → IsOneOf 0 p
in_alone p among = elim among [
  | inl e ↦ subst (λ (q : List ℕ). IsOneOf 0 q) (sym e) (inl refl)
  | inr none ↦ absurd none
]

pub meet : DoMeet alone
meet p q in_p in_q = (0, in_alone p in_p, in_alone q in_q)

one_is_set : IsSet (0 ∷ [])
one_is_set = ((omega arith), (omega arith), tt)

own_lease : (kept : ℕ → VoterLease) → kept 0 ≡ lease → (voter : ℕ) (l : VoterLease) → slice_get (lease ∷ []) voter ≡ Some l → l ≡ kept voter
own_lease kept first zero l is = sym (same_Some lease l is) ∙ sym first
own_lease kept first (suc voter) l is = absurd (none-some l is)

pub begins : MayBegin 7 1000 0
begins = ((omega arith), (omega arith), (omega arith), (omega arith))

-- ---- the turns

pub free : AreFree new_voters
free voter = (refl, refl)

pub turns : AreTrue by_client 100 90 start new_voters is_granted
turns = (tt, (tt, (tt, (tt, (tt, (tt, (((λ quiet. absurd (false≢true quiet)), (λ g held ends. absurd (none-some g held))), (tt, (tt, (tt, tt))))))))))

-- what happens in them, as the vote is this one
abbrev the_grant : Option Grant
the_grant = Some (record { client = 7; stamp = 1; grant = 1 })

events : all_events by_client new_voters is_granted ≡ first_events the_grant
events = ap first_events first_vote

-- the voters' clocks go on by ten where the sessions' go on by nine
goes : (voter session : ℕ) → 9 * 10 ≤ 10 * 9
goes voter session = omega arith

pub rates : AllByRecursion (IsRated 9 10) (all_events by_client new_voters is_granted)
rates = subst (λ (es : List Event). AllByRecursion (IsRated 9 10) es) (sym events) (tt, (goes, (tt, (tt, (goes, (tt, (tt, (tt, (tt, (goes, (tt, (tt, tt))))))))))))

-- ---- the steps of the session's lock

pub same : events_of (steps_of (all_steps 80 locks a_call)) ≡ all_events by_client new_voters is_granted
unfolding ask take take_locked
same = sym events

same_lapses : (a b : Acknowledgement) → Some a ≡ Some b → a.lapses ≡ b.lapses
same_lapses a b is = ap (λ (x : Acknowledgement). x.lapses) (same_Some a b is)

same_told : (a b : Locked) → Some a ≡ Some b → a.lapses ≡ b.lapses
same_told a b is = ap (λ (x : Locked). x.lapses) (same_Some a b is)

pub told : AreTold lapses_of 100 90 start (steps_of (all_steps 80 locks a_call))
unfolding ask take take_locked
told = (tt, (tt, (tt, (tt, (tt, (tt, (tt, (tt, (tt, (tt, (tt, ((λ a is of. same_lapses _ a is), ((λ m is of. same_told _ m is), tt)))))))))))))

pub met : AllMet 100 80 90 7 alone start (begun_caller 0) locks a_call
unfolding ask take take_locked
met = (tt, ((inl refl, one_is_set, (omega arith)), (tt, (tt, (tt, (tt, (tt, (tt, (tt, (tt, (tt, (tt, (tt, ((refl, (omega arith), own_lease _ refl, refl, (record { grant = grant_of 7 1 1; lapses = 0; renews = false }, refl, refl, λ re run. absurd (false≢true re))), (own_lease _ refl, tt)))))))))))))))

pub works : CallWorks 10 ((after_all 100 90 start (all_events by_client new_voters is_granted)).sessions 7).time
    (caller_after 100 80 90 7 start (begun_caller 0) (all_steps 80 locks a_call)) 1
unfolding ask take take_locked
works = subst (λ (es : List Event). CallWorks 10 ((after_all 100 90 start es).sessions 7).time (caller_after 100 80 90 7 start (begun_caller 0) (all_steps 80 locks a_call)) 1) (sym events)
    ((record { request = 1; is_lost = false }, refl, refl), (omega arith))

pub asks : sent_by (ask_lock (locks_after 80 locks comes 7) (0 ∷ [])) ≡ request ∷ []
unfolding ask
asks = refl

-- ---- what holds

pub has_vote : (all_after new_voters is_granted 0).lock.vote.held ≡ Some (record { client = 7; stamp = 1; grant = 1 })
has_vote = held

pub has_votes : HasQuorum by_client (all_after new_voters is_granted) 7 1 alone
has_votes = has_quorum by_client lapses_of 9 10 100 80 10 (λ voter. 25) (λ voter. 100) (λ session. 100) new_voters is_granted (λ session. session) (λ session. 1000) (λ session. 0) alone a_call 7 1
    (omega arith) rates (omega arith) meet free turns same told begins met works
