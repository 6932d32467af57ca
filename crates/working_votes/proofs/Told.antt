-- the session of the example is told to work on
use Rattle.std.proofs.Common.{◌≡◌, ◌<◌, ◌+◌, ℕ, Bool, true, false, List, [], ◌∷◌, ◌++◌, Option, Some, None, refl, sym, ap, subst, ◌∙◌, arith}
use Rattle.std.specs.List.{AllByRecursion}
use Rattle.std.proofs.lemmas.Option.{same_Some}
use Rattle.voter.specs.Steps.{Outcome, step}
use Rattle.voter.specs.Steps as voter
use Rattle.voter.specs.declared.state.Grant.{Grant}
use Rattle.working.specs.Events.{Event, IsRated, World, after_all}
use Rattle.working.specs.Events as law
use Rattle.working.specs.Example.{start}
use Rattle.working.specs.Voters.{Acknowledgement, Locked}
use Rattle.vote_leases.specs.Example.{first, lapses_of, second, under}
use Rattle.vote_leases.specs.Sessions.{AreTold, Asks, HasUntil, Holds, Learns, Step, all_stepped, begun, events_of}
use Rattle.vote_leases.specs.declared.incarnation.Incarnation.{Incarnation}
use Rattle.working_votes.proofs.Example.{are_true, before, before_rates, events_then, first_events, first_vote, for_any, for_both, heard_by, killed, quiet_events}
use Rattle.working_votes.specs.Example.{by_client, gives_back, new_voters, request, saved, seven_asks, seven_is_told, starts_anew, whole, works_on}
use Rattle.working_votes.specs.Turns.{AreTrue, Askers, Place, Turn, all_after, all_events, events_at, events_in, places_after}

-- ---- the events of what it is told

events_told : (f : ℕ → Incarnation) (es : List Event) → events_of (under f es) ≡ es
events_told f [] = refl
events_told f (e ∷ es) = ap (λ x. e ∷ x) (events_told f es)

events_and : (f : ℕ → Incarnation) (es : List Event) (rest : List Step) → events_of (under f es ++ rest) ≡ es ++ events_of rest
events_and f [] rest = refl
events_and f (e ∷ es) rest = ap (λ x. e ∷ x) (events_and f es rest)

abbrev asked : List Event
asked = all_events by_client new_voters seven_asks

abbrev worked : List Event
worked = all_events by_client (all_after new_voters seven_asks) works_on

pub same : events_of seven_is_told ≡ all_events by_client new_voters (seven_asks ++ works_on)
same = events_and (λ voter. first) asked (Holds 7 0 ∷ Learns 7 0 second ∷ under (λ voter. second) worked)
    ∙ (ap (λ es. asked ++ es) (events_told (λ voter. second) worked) ∙ sym (events_then new_voters seven_asks works_on))

-- ---- the premises of the turns

true_before : (who : Askers) (ttl span : ℕ) (w : World) (places : ℕ → Place) (turns rest : List Turn)
    → AreTrue who ttl span w places (turns ++ rest) → AreTrue who ttl span w places turns
true_before who ttl span w places [] rest all = tt
true_before who ttl span w places (t ∷ turns) rest all =
    (all.0, true_before who ttl span (after_all ttl span w (events_in who places t)) (places_after places t) turns rest all.1)

pub premises : AreTrue by_client 100 90 start new_voters (seven_asks ++ works_on)
premises = true_before by_client 100 90 start new_voters (seven_asks ++ works_on) (gives_back ++ starts_anew) are_true

all_before : (P : Event → Type 0) (es rest : List Event) → AllByRecursion P (es ++ rest) → AllByRecursion P es
all_before P [] rest all = tt
all_before P (e ∷ es) rest all = (all.0, all_before P es rest all.1)

pub rates : AllByRecursion (IsRated 9 10) (events_of seven_is_told)
rates = subst (λ es. AllByRecursion (IsRated 9 10) es) (sym same)
    (all_before (IsRated 9 10) (all_events by_client new_voters (seven_asks ++ works_on)) (all_events by_client (all_after new_voters (seven_asks ++ works_on)) gives_back)
    (subst (λ es. AllByRecursion (IsRated 9 10) es) (events_then new_voters (seven_asks ++ works_on) gives_back) before_rates))

-- ---- what it is told

abbrev told_by : Option Grant → Option Outcome → List Step
told_by vote o =
    Asks 7 1 ∷ under (λ voter. first) (first_events vote)
    ++ Holds 7 0 ∷ Learns 7 0 second ∷ under (λ voter. second) (law.Loses 0 ∷ (events_at by_client 0 killed (heard_by o) ++ quiet_events ++ law.Wakes 0 ∷ []))

abbrev CountsThen : Option Grant → Option Outcome → Type 0
CountsThen vote o = AllByRecursion (HasUntil 80 10 ((after_all 100 90 start (events_of (told_by vote o))).sessions 7).time (all_stepped 100 80 90 7 start (begun 0) (told_by vote o)) 1) (0 ∷ [])

pub counts : AllByRecursion (HasUntil 80 10 ((after_all 100 90 start (events_of seven_is_told)).sessions 7).time (all_stepped 100 80 90 7 start (begun 0) seven_is_told) 1) (0 ∷ [])
unfolding step voter.take_request voter.take_request_beside
counts = for_both CountsThen ((refl, refl, 297, refl, omega arith), tt) ((refl, refl, 297, refl, omega arith), tt)

same_lapses : (a b : Acknowledgement) → Some a ≡ Some b → a.lapses ≡ b.lapses
same_lapses a b is = ap (λ (x : Acknowledgement). x.lapses) (same_Some a b is)

same_told : (a b : Locked) → Some a ≡ Some b → a.lapses ≡ b.lapses
same_told a b is = ap (λ (x : Locked). x.lapses) (same_Some a b is)

pub says : AreTold lapses_of 100 90 start seven_is_told
unfolding step voter.take_request voter.take_request_beside
says = for_any (λ h o. AreTold lapses_of 100 90 start (told_by h o)) (λ number. (tt, (tt, (tt, (tt, (tt, (tt, (tt, (tt, (tt, (tt, (tt, ((λ a is of. same_lapses _ a is), ((λ m is of. same_told _ m is), (tt, (tt, (tt, (tt, (tt, (tt, ((λ m is of. same_told _ m is), (tt, (tt, ((λ a is of. same_lapses _ a is), (tt, (tt, (tt, (tt, (tt, ((λ a is of. same_lapses _ a is), (tt, (tt, (tt, (tt, (tt, ((λ a is of. same_lapses _ a is), (tt, (tt, (tt, (tt, tt))))))))))))))))))))))))))))))))))))))))
