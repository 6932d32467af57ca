-- what holds of a voter and a session
use Rattle.std.proofs.Common.{◌≡◌, ℕ, ◌+◌, ◌≤◌, ◌<◌, true, List, Option, Some, None, inl, inr, arith}
use Rattle.std.specs.Prelude.{◌⊎◌}
use Rattle.std.specs.List.{AllByRecursion}
use Rattle.lease_clock.specs.Leases.{is_among}
use Rattle.working.specs.Sessions.{Session}
use Rattle.working.specs.Voters.{Acknowledgement, Grant, Locked, Quiet, Voter, grant_of, said}
use Rattle.working.proofs.Lists.{weaker}
use Rattle.working.proofs.Seen.{Given, IsReached, WasTold, seen}

-- ---- grants

-- the grant is current, or its request ended, or it was given back
abbrev pub Stands : Option Grant → List ℕ → List ℕ → Grant → Type 0
Stands current ended returned grant = (current ≡ Some grant) ⊎ ((is_among grant.request ended ≡ true) ⊎ (is_among grant.number returned ≡ true))

-- of a quiet voter, a grant of the lapses that it goes on with: it is the one that it gave meanwhile, or its request ended, or
-- it was given back
abbrev pub StandsNext : ℕ → Option Quiet → List ℕ → List ℕ → Locked → Type 0
StandsNext lapses None ended returned locked = Unit {0}
StandsNext lapses (Some q) ended returned locked = locked.lapses ≡ said lapses (Some q) → Stands q.kept ended returned locked.grant

-- a LOCKED of a session has at most the lapses that its voter says now
pub record IsKept (session lapses : ℕ) (current : Option Grant) (quiet : Option Quiet) (ended returned : List ℕ) (locked : Locked) : Type 0 where
  pub few : locked.grant.session ≡ session → locked.lapses ≤ said lapses quiet
  pub stands : locked.grant.session ≡ session → locked.lapses ≡ lapses → Stands current ended returned locked.grant
  pub next : locked.grant.session ≡ session → StandsNext lapses quiet ended returned locked
  pub renews : locked.grant.session ≡ session → lapses < locked.lapses → locked.renews ≡ true

-- the request has the vote, or ended
abbrev pub IsOwn : Option Grant → List ℕ → Grant → Type 0
IsOwn current ended grant = (is_among grant.request ended ≡ true) ⊎ ((number : ℕ) × (current ≡ Some (grant_of grant.session grant.request number)))

-- the same of one that the session took. If it renews a vote, the session had that vote.
pub record IsTaken (session lapses : ℕ) (current : Option Grant) (quiet : Option Quiet) (ended returned : List ℕ) (locked : Locked) : Type 0 where
  pub own : locked.grant.session ≡ session
  pub kept : IsKept session lapses current quiet ended returned locked
  pub had : lapses < locked.lapses → IsOwn current ended locked.grant

-- of all that left the voter, and of all that the session took from it
pub record AreKept (session lapses : ℕ) (current : Option Grant) (quiet : Option Quiet) (ended returned : List ℕ) (left taken : List Locked) : Type 0 where
  pub told : AllByRecursion (IsKept session lapses current quiet ended returned) left
  pub votes : AllByRecursion (IsTaken session lapses current quiet ended returned) taken

pub keeps : (session lapses later : ℕ) (current next : Option Grant) (quiet quieter : Option Quiet) (ended more returned given : List ℕ) (left taken : List Locked)
    → ((k : Locked) → IsKept session lapses current quiet ended returned k → IsKept session later next quieter more given k)
    → ((k : Locked) → k.grant.session ≡ session → IsKept session lapses current quiet ended returned k → (lapses < k.lapses → IsOwn current ended k.grant) → later < k.lapses → IsOwn next more k.grant)
    → AreKept session lapses current quiet ended returned left taken → AreKept session later next quieter more given left taken
keeps session lapses later current next quiet quieter ended more returned given left taken f own kept = record {
  told = weaker f left kept.told;
  votes = weaker (λ k is. record { own = is.own; kept = f k is.kept; had = own k is.own is.kept is.had }) taken kept.votes;
}

-- a grant that stands still does, if what was current and was this one is free of its session, or current still
pub stands_on : (current next : Option Grant) (ended returned : List ℕ) (grant : Grant) → (current ≡ Some grant → Stands next ended returned grant)
    → Stands current ended returned grant → Stands next ended returned grant
stands_on current next ended returned grant free stands = elim stands [
  | inl e ↦ free e
  | inr other ↦ inr other
]

-- the current grant of a voter changes that is not quiet
pub current_on : (other lapses : ℕ) (current next : Option Grant) (ended returned : List ℕ) (left taken : List Locked)
    → ((grant : Grant) → grant.session ≡ other → current ≡ Some grant → Stands next ended returned grant)
    → AreKept other lapses current None ended returned left taken → AreKept other lapses next None ended returned left taken
current_on other lapses current next ended returned left taken free kept =
    keeps other lapses lapses current next None None ended ended returned returned left taken
    (λ k is. record {
      few = is.few;
      stands = λ own same. stands_on current next ended returned k.grant (free k.grant own) (is.stands own same);
      next = is.next;
      renews = is.renews;
    })
    (λ k own is had less. (let few = is.few own in absurd (omega arith))) kept

-- the grant changes that a quiet voter gave
pub kept_on : (other lapses : ℕ) (current next : Option Grant) (q : Quiet) (ended returned : List ℕ) (left taken : List Locked)
    → ((grant : Grant) → grant.session ≡ other → q.kept ≡ Some grant → Stands next ended returned grant)
    → AreKept other lapses current (Some q) ended returned left taken → AreKept other lapses current (Some (record q { kept = next })) ended returned left taken
kept_on other lapses current next q ended returned left taken free kept =
    keeps other lapses lapses current current (Some q) (Some (record q { kept = next })) ended ended returned returned left taken
    (λ k is. record {
      few = is.few;
      stands = is.stands;
      next = λ own same. stands_on q.kept next ended returned k.grant (free k.grant own) (is.next own same);
      renews = is.renews;
    })
    (λ k own is had. had) kept

-- ---- leases

-- the lapses grew since this was acknowledged, or the number was given on
abbrev pub IsVoid : ℕ → Voter → Acknowledgement → Type 0
IsVoid session v a = (a.lapses < v.lapses session) ⊎ (is_among session v.over ≡ true)

-- then the session stopped, if it has nothing newer
abbrev pub HasStopped : Given → ℕ → Voter → Session → Acknowledgement → Type 0
HasStopped g session v s a = a.session ≡ session → IsVoid session v a → a.beat + (g.lease + g.stop) ≤ s.time

-- what holds of a voter and a session, by their numbers
pub record Holds (g : Given) (voter session : ℕ) (v : Voter) (s : Session) : Type 0 where
  pub reached : (lapses : ℕ) → v.lapses session ≤ lapses → IsReached g (seen session lapses v s)
  pub stopped : AllByRecursion (HasStopped g session v s) v.acknowledged
  pub kept : AreKept session (v.lapses session) v.current v.quiet s.ended (s.returned voter) v.told (s.votes voter)
  pub leases : AllByRecursion (WasTold session v.acknowledged) (s.leases voter)
