-- who works has its votes, and at most one works
use Rattle.std.proofs.Common.{◌≡◌, ℕ, ◌+◌, ◌*◌, ◌≤◌, true, false, List, [], ◌∷◌, sym, ap, ◌∙◌}
use Rattle.std.specs.Prelude.{not}
use Rattle.std.specs.List.{AllByRecursion, list_all}
use Rattle.std.proofs.lemmas.Option.{same_Some}
use Rattle.lease_clock.specs.Leases.{is_among}
use Rattle.working.specs.Events.{DoMeet, Event, HasVote, IsOneOf, IsRated, Works, World, after_all, begins}
use Rattle.working.specs.Sessions.{has_vote, is_working}
use Rattle.working.specs.Voters.{grant_of}
use Rattle.working.proofs.Lists.{both, one_of}
use Rattle.working.proofs.Seen.{Given}
use Rattle.working.proofs.Counted.{is_current, not_true}
use Rattle.working.proofs.Worlds.{IsGood, begin_good, events_on}

-- each vote of a quorum
all_current : (g : Given) (session request : ℕ) (w : World) (quorum : List ℕ) → IsGood g w → is_among request (w.sessions session).ended ≡ false
    → list_all (has_vote (g.lease + g.stop) (w.sessions session) request) quorum ≡ true → AllByRecursion (HasVote w session request) quorum
all_current g session request w [] good going all = tt
all_current g session request w (voter ∷ quorum) good going all =
    let parts = both (has_vote (g.lease + g.stop) (w.sessions session) request voter) (list_all (has_vote (g.lease + g.stop) (w.sessions session) request) quorum) all in (
      is_current g voter session request (w.voters voter) (w.sessions session) (good voter session) going parts.0,
      all_current g session request w quorum good going parts.1,
    )

working_current : (g : Given) (session request : ℕ) (w : World) (quorum : List ℕ) → IsGood g w
    → is_working g.lease g.stop (w.sessions session) request quorum ≡ true → AllByRecursion (HasVote w session request) quorum
working_current g session request w quorum good works =
    let parts = both (not (is_among request (w.sessions session).ended)) (list_all (has_vote (g.lease + g.stop) (w.sessions session) request) quorum) works in
    all_current g session request w quorum good (not_true (is_among request (w.sessions session).ended) parts.0) parts.1

pub has_its_votes : (a b ttl lease stop : ℕ) (periods voters sessions : ℕ → ℕ) (events : List Event) (session request : ℕ) (quorum : List ℕ)
    → 1 ≤ b → AllByRecursion (IsRated a b) events → b * (lease + stop) ≤ a * ttl
    → is_working lease stop ((after_all ttl (lease + stop) (begins periods voters sessions) events).sessions session) request quorum ≡ true
    → AllByRecursion (HasVote (after_all ttl (lease + stop) (begins periods voters sessions) events) session request) quorum
has_its_votes a b ttl lease stop periods voters sessions events session request quorum some rated bound works =
    let g : Given = record { a = a; b = b; ttl = ttl; lease = lease; stop = stop; some = some; bound = bound } in
    working_current g session request (after_all ttl (lease + stop) (begins periods voters sessions) events) quorum
    (events_on g (begins periods voters sessions) events rated (begin_good g periods voters sessions)) works

-- ---- at most one

-- a voter has one current grant
one_vote : (w : World) (session request other another voter : ℕ) → HasVote w session request voter → HasVote w other another voter → (session ≡ other) × (request ≡ another)
one_vote w session request other another voter first second =
    let same = same_Some (grant_of session request first.0) (grant_of other another second.0) (sym first.1 ∙ second.1) in
    (ap (λ x. x.session) same, ap (λ x. x.request) same)

one_at_most : (w : World) (session request other another : ℕ) (quorums : List (List ℕ)) (p q : List ℕ) → DoMeet quorums → IsOneOf p quorums → IsOneOf q quorums
    → AllByRecursion (HasVote w session request) p → AllByRecursion (HasVote w other another) q → (session ≡ other) × (request ≡ another)
one_at_most w session request other another quorums p q meet in_p in_q all_p all_q =
    let shared = meet p q in_p in_q in
    one_vote w session request other another shared.0 (one_of (HasVote w session request) p shared.0 all_p shared.1) (one_of (HasVote w other another) q shared.0 all_q shared.2)

pub one_works : (a b ttl lease stop : ℕ) (periods voters sessions : ℕ → ℕ) (events : List Event) (quorums : List (List ℕ)) (session request other another : ℕ)
    → 1 ≤ b → AllByRecursion (IsRated a b) events → b * (lease + stop) ≤ a * ttl → DoMeet quorums
    → Works lease stop quorums (after_all ttl (lease + stop) (begins periods voters sessions) events) session request
    → Works lease stop quorums (after_all ttl (lease + stop) (begins periods voters sessions) events) other another
    → (session ≡ other) × (request ≡ another)
one_works a b ttl lease stop periods voters sessions events quorums session request other another some rated bound meet first second =
    one_at_most (after_all ttl (lease + stop) (begins periods voters sessions) events) session request other another quorums first.quorum second.quorum meet first.is_quorum second.is_quorum
    (has_its_votes a b ttl lease stop periods voters sessions events session request first.quorum some rated bound first.works)
    (has_its_votes a b ttl lease stop periods voters sessions events other another second.quorum some rated bound second.works)
