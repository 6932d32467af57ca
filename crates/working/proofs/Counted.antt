-- a vote that counts is current
use Rattle.std.proofs.Common.{◌≡◌, ℕ, ◌+◌, ◌≤◌, ◌<◌, Bool, true, false, List, [], ◌∷◌, refl, sym, ap, subst, ◌∙◌, Option, Some, arith, inl, inr}
use Rattle.std.specs.Prelude.{◌==◌, ◌||◌, ◌&&◌, nat_lt, not, if◌then◌else◌}
use Rattle.std.specs.List.{AllByRecursion, list_any}
use Rattle.std.proofs.lemmas.Bool.{false≢true, eqb-true}
use Rattle.std.proofs.lemmas.Bool.Decides.{nat_tests}
use Rattle.lease_clock.specs.Leases.{is_among}
use Rattle.working.specs.Sessions.{Session, counts, has_vote, is_lasting}
use Rattle.working.specs.Voters.{Acknowledgement, Grant, Locked, Voter, grant_of}
use Rattle.working.proofs.Lists.{both, find_in}
use Rattle.working.proofs.Seen.{Given, WasTold, beats_of}
use Rattle.working.proofs.Holds.{HasStopped, Holds, IsOwn, IsTaken, Stands}

pub not_true : (b : Bool) → not b ≡ true → b ≡ false
not_true true is = absurd (false≢true is)
not_true false is = refl

-- a session stopped to which the voter acknowledged nothing but heartbeats with fewer lapses than it has now
told_stopped : (g : Given) (session beat l : ℕ) (v : Voter) (s : Session) (acknowledged : List Acknowledgement) → l < v.lapses session → AllByRecursion (HasStopped g session v s) acknowledged
    → is_among beat (beats_of session l acknowledged) ≡ true → beat + (g.lease + g.stop) ≤ s.time
told_stopped g session beat l v s [] less stopped told = absurd (false≢true told)
told_stopped g session beat l v s (a ∷ others) less stopped told =
    elim ((a.session == session) && not (nat_lt l a.lapses)) as (λ b. ((a.session == session) && not (nat_lt l a.lapses)) ≡ b
    → is_among beat (if b then a.beat ∷ beats_of session l others else beats_of session l others) ≡ true → beat + (g.lease + g.stop) ≤ s.time) [
      | false ↦ λ e found. told_stopped g session beat l v s others less stopped.1 found
      | true ↦ λ e found. elim (beat == a.beat) as (λ b. (beat == a.beat) ≡ b → (b || is_among beat (beats_of session l others)) ≡ true → beat + (g.lease + g.stop) ≤ s.time) [
        | false ↦ λ apart rest. told_stopped g session beat l v s others less stopped.1 rest
        | true ↦ λ same rest.
            let parts = both (a.session == session) (not (nat_lt l a.lapses)) e in
            let few = not_true (nat_lt l a.lapses) parts.1 in
            let fewer : a.lapses < v.lapses session = grind (arith, nat_tests) in
            subst (λ (x : ℕ). x + (g.lease + g.stop) ≤ s.time) (sym (eqb-true beat a.beat same)) (stopped.0 (eqb-true a.session session parts.0) (inl fewer))
      ] refl found
    ] refl told

-- so an acknowledgement that still counts has at least as many lapses
newest : (g : Given) (session lapses : ℕ) (v : Voter) (s : Session) (a : Acknowledgement) → AllByRecursion (HasStopped g session v s) v.acknowledged → WasTold session v.acknowledged a
    → is_lasting (g.lease + g.stop) s.time lapses a ≡ true → lapses < v.lapses session → ⊥
newest g session lapses v s a stopped told lasting few =
    let parts = both (a.lapses == lapses) (nat_lt s.time (a.beat + (g.lease + g.stop))) lasting in
    let before : s.time < a.beat + (g.lease + g.stop) = grind (arith, nat_tests) in
    let same = eqb-true a.lapses lapses parts.0 in
    let over = told_stopped g session a.beat a.lapses v s v.acknowledged (omega arith) stopped told in
    omega arith

-- a grant that stands is current, if its request goes on and it was not given back
stands_current : (current : Option Grant) (ended returned : List ℕ) (grant : Grant) → is_among grant.request ended ≡ false → is_among grant.number returned ≡ false
    → Stands current ended returned grant → current ≡ Some grant
stands_current current ended returned grant going kept stands = elim stands [
  | inl e ↦ e
  | inr free ↦ elim free [
    | inl e ↦ absurd (false≢true (sym going ∙ e))
    | inr e ↦ absurd (false≢true (sym kept ∙ e))
  ]
]

-- a grant of the session's own is current, if its request goes on
own_current : (current : Option Grant) (ended : List ℕ) (grant : Grant) → is_among grant.request ended ≡ false → IsOwn current ended grant
    → (number : ℕ) × (current ≡ Some (grant_of grant.session grant.request number))
own_current current ended grant going own = elim own [
  | inl e ↦ absurd (false≢true (sym going ∙ e))
  | inr is ↦ is
]

counts_current : (g : Given) (voter session request : ℕ) (v : Voter) (s : Session) (k : Locked) → Holds g voter session v s → is_among k.grant.request s.ended ≡ false
    → IsTaken session (v.lapses session) v.current v.quiet s.ended (s.returned voter) k → counts (g.lease + g.stop) s request voter k ≡ true
    → (number : ℕ) × (v.current ≡ Some (grant_of k.grant.session k.grant.request number))
counts_current g voter session request v s k h going taken has =
    let parts = both (k.grant.request == request) _ has in
    let more = both (not (is_among k.grant.number (s.returned voter))) (list_any (is_lasting (g.lease + g.stop) s.time k.lapses) (s.leases voter)) parts.1 in
    let found = find_in (WasTold session v.acknowledged) (is_lasting (g.lease + g.stop) s.time k.lapses) (s.leases voter) more.1 h.leases in
    let least = newest g session k.lapses v s found.one h.stopped found.holds found.passes in
    elim (nat_lt (v.lapses session) k.lapses) as (λ b. nat_lt (v.lapses session) k.lapses ≡ b → (number : ℕ) × (v.current ≡ Some (grant_of k.grant.session k.grant.request number))) [
      | true ↦ λ e. own_current v.current s.ended k.grant going (taken.had (let more_lapses : v.lapses session < k.lapses = grind (arith, nat_tests) in more_lapses))
      | false ↦ λ e. elim (nat_lt k.lapses (v.lapses session)) as (λ b. nat_lt k.lapses (v.lapses session) ≡ b → (number : ℕ) × (v.current ≡ Some (grant_of k.grant.session k.grant.request number))) [
        | true ↦ λ less. absurd (least (let fewer : k.lapses < v.lapses session = grind (arith, nat_tests) in fewer))
        | false ↦ λ less. (let same : k.lapses ≡ v.lapses session = grind (arith, nat_tests) in
            (k.grant.number, stands_current v.current s.ended (s.returned voter) k.grant going (not_true (is_among k.grant.number (s.returned voter)) more.0) (taken.kept.stands taken.own same)))
      ] refl
    ] refl

-- a vote that counts is current
pub is_current : (g : Given) (voter session request : ℕ) (v : Voter) (s : Session) → Holds g voter session v s → is_among request s.ended ≡ false
    → has_vote (g.lease + g.stop) s request voter ≡ true → (number : ℕ) × (v.current ≡ Some (grant_of session request number))
is_current g voter session request v s h going has =
    let found = find_in (IsTaken session (v.lapses session) v.current v.quiet s.ended (s.returned voter)) (counts (g.lease + g.stop) s request voter) (s.votes voter) has h.kept.votes in
    let k = found.one in
    let own = found.holds.own in
    let same = eqb-true k.grant.request request (both (k.grant.request == request) _ found.passes).0 in
    let current = counts_current g voter session request v s k h (subst (λ (r : ℕ). is_among r s.ended ≡ false) (sym same) going) found.holds found.passes in
    (current.0, current.1 ∙ ap (λ x. Some (grant_of x k.grant.request current.0)) own ∙ ap (λ x. Some (grant_of session x current.0)) same)
