-- who is told to work, works
use Rattle.std.proofs.Common.{◌≡◌, ℕ, ◌+◌, ◌*◌, ◌≤◌, true, false, List, [], ◌∷◌, refl, ap, subst, Option, Some, None, arith}
use Rattle.std.specs.Prelude.{min, not}
use Rattle.std.specs.List.{AllByRecursion, list_all}
use Rattle.std.proofs.lemmas.Option.{none-some, same_Some}
use Rattle.lease_clock.specs.Leases.{is_among}
use Rattle.working.specs.Events.{DoMeet, IsOneOf, IsRated, Works, World, after, after_all, begins}
use Rattle.working.specs.Sessions.{Session, has_vote, is_working}
use Rattle.working.proofs.Working.{one_works}
use Rattle.vote_leases.specs.Leases.{beat_of, end_of}
use Rattle.vote_leases.specs.Sessions.{AreTold, Asks, Happens, HasUntil, Holds, IsToldToWork, Kept, Learns, Step, all_stepped, begun, events_of, stepped, world_after, world_after_all}
use Rattle.vote_leases.specs.declared.incarnation.Incarnation.{Incarnation}
use Rattle.vote_leases.proofs.Evidence.{and_true, counted_votes, stands_counted}
use Rattle.vote_leases.proofs.Stands.{begun_stands}
use Rattle.vote_leases.proofs.Steps.{IsKept, step_on}

steps_on : (lapses : ℕ → ℕ → Incarnation → ℕ) (ttl lease stop me : ℕ) (w : World) (k : Kept) (steps : List Step) → AreTold lapses ttl (lease + stop) w steps → IsKept (lapses me) k (w.sessions me)
    → IsKept (lapses me) (all_stepped ttl lease (lease + stop) me w k steps) ((world_after_all ttl (lease + stop) w steps).sessions me)
steps_on lapses ttl lease stop me w k [] told is = is
steps_on lapses ttl lease stop me w k (s ∷ steps) told is =
    steps_on lapses ttl lease stop me (world_after ttl (lease + stop) w s) (stepped lease me w k s) steps told.1 (step_on lapses ttl lease stop me w k s told.0 is)

-- the steps' world is that of their events
same_world : (ttl span : ℕ) (w : World) (steps : List Step) → world_after_all ttl span w steps ≡ after_all ttl span w (events_of steps)
same_world ttl span w [] = refl
same_world ttl span w (Happens e i ∷ steps) = same_world ttl span (after ttl span w e) steps
same_world ttl span w (Asks session request ∷ steps) = same_world ttl span w steps
same_world ttl span w (Learns session voter i ∷ steps) = same_world ttl span w steps
same_world ttl span w (Holds session voter ∷ steps) = same_world ttl span w steps

-- ---- what counts, the session has

pub end_before : (o : Option ℕ) (span end : ℕ) → end_of o span ≡ Some end → (beat : ℕ) × (o ≡ Some beat) × (end ≤ beat + span)
end_before None span end is = absurd (none-some end is)
end_before (Some beat) span end is =
    (beat, refl, (let same = same_Some (min (beat + span) 18446744073709551615) end is in omega arith))

until_has : (tell : ℕ → Incarnation → ℕ) (lease stop request voter : ℕ) (k : Kept) (s : Session) → IsKept tell k s → HasUntil lease stop s.time k request voter
    → (has_vote (lease + stop) s request voter ≡ true) × (is_among request s.ended ≡ false)
until_has tell lease stop request voter k s is has =
    let v = k.votes voter in
    let l = k.leases voter in
    let stands = is voter in
    let found = end_before (beat_of v.taken l) lease has.2 has.3 in
    let before = has.4 in
    let least = found.2 in
    let counted = stands_counted (tell voter) l v (s.votes voter) (s.leases voter) s.ended (s.returned voter) found.0 stands found.1 in (
      subst (λ (r : ℕ). has_vote (lease + stop) s r voter ≡ true) has.1 (counted_votes (lease + stop) v.request voter found.0 s counted (omega arith)),
      subst (λ (r : ℕ). is_among r s.ended ≡ false) has.1 (stands.goes_on has.0),
    )

all_have : (tell : ℕ → Incarnation → ℕ) (lease stop request : ℕ) (k : Kept) (s : Session) (quorum : List ℕ) → IsKept tell k s
    → AllByRecursion (HasUntil lease stop s.time k request) quorum → list_all (has_vote (lease + stop) s request) quorum ≡ true
all_have tell lease stop request k s [] is all = refl
all_have tell lease stop request k s (voter ∷ quorum) is all =
    and_true (has_vote (lease + stop) s request voter) (list_all (has_vote (lease + stop) s request) quorum)
    (until_has tell lease stop request voter k s is all.0).0 (all_have tell lease stop request k s quorum is all.1)

-- ---- the laws

begin_kept : (tell : ℕ → Incarnation → ℕ) (periods voters sessions : ℕ → ℕ) (used me : ℕ) → IsKept tell (begun used) ((begins periods voters sessions).sessions me)
begin_kept tell periods voters sessions used me = λ voter. begun_stands (tell voter) used

pub told_works : (lapses : ℕ → ℕ → Incarnation → ℕ) (ttl lease stop : ℕ) (periods voters sessions : ℕ → ℕ) (used : ℕ) (steps : List Step) (me request voter : ℕ) (quorum : List ℕ)
    → AreTold lapses ttl (lease + stop) (begins periods voters sessions) steps
    → AllByRecursion (HasUntil lease stop ((after_all ttl (lease + stop) (begins periods voters sessions) (events_of steps)).sessions me).time
    (all_stepped ttl lease (lease + stop) me (begins periods voters sessions) (begun used) steps) request) (voter ∷ quorum)
    → is_working lease stop ((after_all ttl (lease + stop) (begins periods voters sessions) (events_of steps)).sessions me) request (voter ∷ quorum) ≡ true
told_works lapses ttl lease stop periods voters sessions used steps me request voter quorum told all =
    let start = begins periods voters sessions in
    let k = all_stepped ttl lease (lease + stop) me start (begun used) steps in
    let s = (after_all ttl (lease + stop) start (events_of steps)).sessions me in
    let is : IsKept (lapses me) k s =
    subst (λ (w : World). IsKept (lapses me) k (w.sessions me)) (same_world ttl (lease + stop) start steps)
    (steps_on lapses ttl lease stop me start (begun used) steps told (begin_kept (lapses me) periods voters sessions used me)) in
    and_true (not (is_among request s.ended)) (list_all (has_vote (lease + stop) s request) (voter ∷ quorum))
    (ap not (until_has (lapses me) lease stop request voter k s is all.0).1)
    (all_have (lapses me) lease stop request k s (voter ∷ quorum) is all)

-- a quorum that meets itself has a voter
works_by : (lease stop request : ℕ) (w : World) (me : ℕ) (quorums : List (List ℕ)) (quorum : List ℕ) → DoMeet quorums → IsOneOf quorum quorums
    → ((voter : ℕ) (others : List ℕ) → quorum ≡ voter ∷ others → is_working lease stop (w.sessions me) request (voter ∷ others) ≡ true)
    → Works lease stop quorums w me request
works_by lease stop request w me quorums [] meet among works = absurd ((meet [] [] among among).1)
works_by lease stop request w me quorums (voter ∷ others) meet among works = record { quorum = voter ∷ others; is_quorum = among; works = works voter others refl }

pub one_told : (lapses : ℕ → ℕ → Incarnation → ℕ) (a b ttl lease stop : ℕ) (periods voters sessions used : ℕ → ℕ) (steps : List Step) (quorums : List (List ℕ)) (me request other another : ℕ)
    → 1 ≤ b → AllByRecursion (IsRated a b) (events_of steps) → b * (lease + stop) ≤ a * ttl → DoMeet quorums
    → AreTold lapses ttl (lease + stop) (begins periods voters sessions) steps
    → IsToldToWork lease stop ((after_all ttl (lease + stop) (begins periods voters sessions) (events_of steps)).sessions me).time quorums
    (all_stepped ttl lease (lease + stop) me (begins periods voters sessions) (begun (used me)) steps) request
    → IsToldToWork lease stop ((after_all ttl (lease + stop) (begins periods voters sessions) (events_of steps)).sessions other).time quorums
    (all_stepped ttl lease (lease + stop) other (begins periods voters sessions) (begun (used other)) steps) another
    → (me ≡ other) × (request ≡ another)
one_told lapses a b ttl lease stop periods voters sessions used steps quorums me request other another some rated bound meet told first second =
    let start = begins periods voters sessions in
    let w = after_all ttl (lease + stop) start (events_of steps) in
    one_works a b ttl lease stop periods voters sessions (events_of steps) quorums me request other another some rated bound meet
    (works_by lease stop request w me quorums first.quorum meet first.is_quorum
    (λ voter others is. told_works lapses ttl lease stop periods voters sessions (used me) steps me request voter others told
    (subst (λ (q : List ℕ). AllByRecursion (HasUntil lease stop (w.sessions me).time (all_stepped ttl lease (lease + stop) me start (begun (used me)) steps) request) q) is first.counts)))
    (works_by lease stop another w other quorums second.quorum meet second.is_quorum
    (λ voter others is. told_works lapses ttl lease stop periods voters sessions (used other) steps other another voter others told
    (subst (λ (q : List ℕ). AllByRecursion (HasUntil lease stop (w.sessions other).time (all_stepped ttl lease (lease + stop) other start (begun (used other)) steps) another) q) is second.counts)))
