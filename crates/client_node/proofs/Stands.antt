-- what a session of `callers` keeps stands for its lock
use Rattle.std.proofs.Common.{◌≡◌, ℕ, ◌≤◌, Bool, true, false, List, [], ◌∷◌, map, refl, sym, ap, subst, ◌∙◌, Option, Some, None, arith}
use Rattle.std.specs.Prelude.{◌==◌, ◌&&◌, min, slice_set, if◌then◌else◌}
use Rattle.std.specs.List.{AllByRecursion, slice_get}
use Rattle.std.specs.Option.{option_map}
use Rattle.std.proofs.lemmas.Bool.{eqb-true, eq-eqb, false≢true}
use Rattle.std.proofs.lemmas.List.{get_or-set_same, get_or-set_other, length-set}
use Rattle.std.proofs.lemmas.Option.{get_or_from_slice_get, none-some, same_Some, slice_get-get_or, slice_get-map, slice_get_within}
use Rattle.requester.specs.declared.state.ClientState.{ClientState}
use Rattle.requester.specs.Soundness.{IsSound}
use Rattle.requester.specs.Words.{is_idle, members}
use Rattle.working.specs.Events.{IsOneOf}
use Rattle.working.specs.Voters.{set}
use Rattle.working.proofs.Lists.{both, not_here, set_by}
use Rattle.vote_leases.specs.Leases.{until as end_of}
use Rattle.vote_leases.specs.Sessions.{Kept}
use Rattle.vote_leases.specs.declared.lease.VoterLease.{VoterLease}
use Rattle.vote_leases.specs.declared.vote.Vote.{Vote}
use Rattle.callers.specs.Steps.{HasLock}
use Rattle.callers.specs.Worlds.{Caller, CountsTo, HasVotesTo, IfOwn}
use Rattle.callers.specs.declared.calls.Calls.{Calls}
use Rattle.callers.specs.declared.calls.Holder.{Holder}
use Rattle.client_node.specs.Locks.{Lock, earlier, first_end, is_had_inside, is_inside_by, known_end, until, voter_end}
use Rattle.client_node.specs.Worlds.{AreOwn}

-- ---- lists and functions

pub got_same : {X : Type 0} (xs : List X) (i : ℕ) (y x : X) → slice_get (slice_set xs i y) i ≡ Some x → x ≡ y
got_same xs i y x is =
    let within = slice_get_within (slice_set xs i y) i x is in
    let long = length-set xs i y in
    sym (get_or_from_slice_get (slice_set xs i y) i x y is) ∙ get_or-set_same xs i y y (omega arith)

pub got_other : {X : Type 0} (xs : List X) (i j : ℕ) (y x : X) → (j ≡ i → ⊥) → slice_get (slice_set xs i y) j ≡ Some x → slice_get xs j ≡ Some x
got_other xs i j y x other is =
    let within = slice_get_within (slice_set xs i y) j x is in
    let long = length-set xs i y in
    slice_get-get_or xs j x (omega arith)
    ∙ ap Some (sym (get_or-set_other xs i j y x other) ∙ get_or_from_slice_get (slice_set xs i y) j x x is)

-- each vote of a list is the one that is kept of its voter
abbrev pub AreVotes : List Vote → (ℕ → Vote) → Type 0
AreVotes votes kept = (voter : ℕ) (v : Vote) → slice_get votes voter ≡ Some v → v ≡ kept voter

pub votes_set : (votes : List Vote) (kept : ℕ → Vote) (place : ℕ) (y : Vote) → AreVotes votes kept → AreVotes (slice_set votes place y) (set kept place y)
votes_set votes kept place y are voter =
    set_by (λ (other : ℕ) (x : Vote). (v : Vote) → slice_get (slice_set votes place y) other ≡ Some v → v ≡ x) kept place y voter
    (λ v is. got_same votes place y v is)
    (λ other v is. are voter v (got_other votes place voter y v (λ same. not_here place voter other (sym same)) is))

mapped_one : (f : Vote → Vote) (o : Option Vote) (x v : Vote) → ((y : Vote) → o ≡ Some y → y ≡ x) → option_map f o ≡ Some v → v ≡ f x
mapped_one f None x v are is = absurd (none-some v is)
mapped_one f (Some y) x v are is = sym (same_Some (f y) v is) ∙ ap f (are y refl)

pub votes_mapped : (f : Vote → Vote) (votes : List Vote) (kept : ℕ → Vote) → AreVotes votes kept → AreVotes (map f votes) (λ voter. f (kept voter))
votes_mapped f votes kept are voter v is =
    mapped_one f (slice_get votes voter) (kept voter) v (are voter) (sym (slice_get-map f votes voter) ∙ is)

-- ---- steps of the session's own

pub own : {X : Type 0} (me : ℕ) (a b : X) → (if me == me then a else b) ≡ a
own me a b = ap (λ (c : Bool). if c then a else b) (eq-eqb me me refl)

pub if_own : (b : Bool) (P : Type 0) → P → IfOwn b P
if_own true P p = p
if_own false P p = tt

pub not_own : (b : Bool) (P : Type 0) → b ≡ false → IfOwn b P
not_own true P is = absurd (false≢true (sym is))
not_own false P is = tt

pub from_own : (me : ℕ) (P : Type 0) → IfOwn (me == me) P → P
from_own me P is = subst (λ (b : Bool). IfOwn b P) (eq-eqb me me refl) is

-- ---- what stands for what

pub record Stands (quorums : List (List ℕ)) (o : Caller) (l : Lock) : Type 0 where
  pub calls : o.calls ≡ l.calls
  pub votes : AreVotes l.votes o.kept.votes
  pub client : IsSound l.client
  pub had : is_had_inside l.client l.calls.holder ≡ true
  pub quorum : is_idle l.client.phase ≡ false → IsOneOf (members l.client) quorums

-- ---- up to when votes count

-- both times are there, and neither is before the first one
earlier_is : (a b : Option ℕ) (end : ℕ) → earlier a b ≡ Some end → (x : ℕ) × (y : ℕ) × (a ≡ Some x) × (b ≡ Some y) × (end ≤ x) × (end ≤ y)
earlier_is None b end is = absurd (none-some end is)
earlier_is (Some x) None end is = absurd (none-some end is)
earlier_is (Some x) (Some y) end is = (let same = same_Some (min x y) end is in (x, y, refl, refl, (omega arith), (omega arith)))

vote_counts : (span request end time : ℕ) (v : Vote) (l : VoterLease) (goes : Bool) → (v.is_open && v.request == request) ≡ goes → (if goes then end_of v l span else None) ≡ Some end → time ≤ end
    → (v.is_open ≡ true) × (v.request ≡ request) × (e : ℕ) × (end_of v l span ≡ Some e) × (time ≤ e)
vote_counts span request end time v l false is counts before = absurd (none-some end counts)
vote_counts span request end time v l true is counts before =
    let parts = both v.is_open (v.request == request) is in
    (parts.0, eqb-true v.request request parts.1, end, counts, before)

known_counts : (span request end time voter : ℕ) (k : Kept) (o : Option Vote) (m : Option VoterLease) → ((v : Vote) → o ≡ Some v → v ≡ k.votes voter)
    → ((l : VoterLease) → m ≡ Some l → l ≡ k.leases voter) → known_end span request o m ≡ Some end → time ≤ end → CountsTo span k request time voter
known_counts span request end time voter k None m votes leases is before = absurd (none-some end is)
known_counts span request end time voter k (Some v) None votes leases is before = absurd (none-some end is)
known_counts span request end time voter k (Some v) (Some l) votes leases is before =
    subst (λ (x : Vote). (x.is_open ≡ true) × (x.request ≡ request) × (e : ℕ) × (end_of x (k.leases voter) span ≡ Some e) × (time ≤ e)) (votes v refl)
    (subst (λ (x : VoterLease). (v.is_open ≡ true) × (v.request ≡ request) × (e : ℕ) × (end_of v x span ≡ Some e) × (time ≤ e)) (leases l refl)
    (vote_counts span request end time v l (v.is_open && v.request == request) refl is before))

all_count : (span request end time : ℕ) (k : Kept) (votes : List Vote) (leases : List VoterLease) (voters : List ℕ) → AreVotes votes k.votes → AreOwn leases k
    → first_end span request votes leases voters ≡ Some end → time ≤ end → AllByRecursion (CountsTo span k request time) voters
all_count span request end time k votes leases [] are own is before = tt
all_count span request end time k votes leases (voter ∷ voters) are own is before =
    let parts = earlier_is (voter_end span request votes leases voter) (first_end span request votes leases voters) end is in
    let one = parts.4 in
    let rest = parts.5 in (
      known_counts span request parts.0 time voter k (slice_get votes voter) (slice_get leases voter) (are voter) (own voter) parts.2 (omega arith),
      all_count span request parts.1 time k votes leases voters are own parts.3 (omega arith),
    )

busy_until : (idle : Bool) (first : Option ℕ) (end : ℕ) → (if idle then None else first) ≡ Some end → (idle ≡ false) × (first ≡ Some end)
busy_until true first end is = absurd (none-some end is)
busy_until false first end is = (refl, is)

-- up to this end all votes of a quorum count
pub has_votes : (quorums : List (List ℕ)) (span end : ℕ) (o : Caller) (l : Lock) (leases : List VoterLease) → Stands quorums o l → AreOwn leases o.kept → until l leases span ≡ Some end
    → HasVotesTo span quorums o.kept l.client.stamp end
has_votes quorums span end o l leases stands own is =
    let parts = busy_until (is_idle l.client.phase) (first_end span l.client.stamp l.votes leases (members l.client)) end is in record {
      quorum = members l.client;
      is_quorum = stands.quorum parts.0;
      counts = all_count span l.client.stamp end end o.kept l.votes leases (members l.client) stands.votes own parts.1 (omega arith);
    }

-- ---- the call that has the lock

-- if whoever has the lock had it before, the client is still inside
pub still_had : (x : ClientState) (c d : Calls) → ((request : ℕ) → HasLock d request → HasLock c request) → is_had_inside x c.holder ≡ true → is_had_inside x d.holder ≡ true
still_had x c d had is =
    elim d.holder as (λ (o : Option Holder). d.holder ≡ o → is_had_inside x o ≡ true) [
      | None ↦ λ e. refl
      | Some h ↦ λ e.
          let before = had h.request (h, e, refl) in
          subst (λ (r : ℕ). is_inside_by x r ≡ true) before.2 (subst (λ (o : Option Holder). is_had_inside x o ≡ true) before.1 is)
    ] refl

-- whoever has the lock has it under the request by which the client is inside
pub had_under : (x : ClientState) (c : Calls) (request : ℕ) → is_had_inside x c.holder ≡ true → HasLock c request → is_inside_by x request ≡ true
had_under x c request is has =
    subst (λ (r : ℕ). is_inside_by x r ≡ true) has.2 (subst (λ (o : Option Holder). is_had_inside x o ≡ true) has.1 is)
