-- What the calls of leases, votes, stamps, claims and of the calls for a lock return and write. Each is said for the one lease, vote or
-- claim, or for the ones, that the bytes are.
use Rattle.std.specs.Prelude.{ℕ, ℤ, ◌≡◌, ◌≢◌, ◌==◌, Bool, true, false, List, length, Option, None, Some, nat_lt, if◌then◌else◌}
use Rattle.claims.specs.Claims.{accepted_by, claims_next, is_accepted_by, next_epoch}
use Rattle.claims.specs.Claims as claims
use Rattle.claims.specs.declared.claim.Claim.{Claim}
use Rattle.callers.specs.Calls.{call_fault, closed, emptied, ends_try, handed, is_new_loss, lost, lost_of, may_end, may_hand, next, spoiled, tries_refused, unlocked, unwanted, wanted}
use Rattle.callers.specs.Calls as calls
use Rattle.callers.specs.declared.calls.Calls.{Calls}
use Rattle.callers.specs.declared.calls.Next.{Next}
use Rattle.callers.specs.declared.calls.Next.TheVariants.{Nothing, Ask, GiveUp, Leave, Hand, Lose}
use Rattle.callers.specs.declared.calls.Phase.{Phase}
use Rattle.callers.specs.declared.calls.Phase.TheVariants.{Idle, Asking, Inside}
use Rattle.callers.specs.declared.fault.CallFault.{CallFault}
use Rattle.callers.specs.declared.fault.CallFault.TheVariants.{Closed, Held, TooMany}
use Rattle.own_stamps.specs.Stamps.{forgotten, is_own, renewed, told, untold}
use Rattle.own_stamps.specs.declared.stamps.OwnStamps.{OwnStamps}
use Rattle.vote_leases.specs.Leases.{asked, begun_lease, begun_vote, heard, is_same, is_taken, kept, taken, until}
use Rattle.vote_leases.specs.declared.incarnation.Incarnation.{Incarnation}
use Rattle.vote_leases.specs.declared.lease.VoterLease.{VoterLease}
use Rattle.vote_leases.specs.declared.vote.Locked.{Locked}
use Rattle.vote_leases.specs.declared.vote.Vote.{Vote}
use Rattle.blocks.specs.Numbers.{done, refused}
use Rattle.blocks.specs.declared.refusal.Refusal.TheVariants.{BadArgument, BadState}
use Rattle.session_blocks.specs.Bytes.{AreCalls, AreNoCalls, AreNoStamps, AreStamps, IsClaim, IsLease, IsNoClaim, IsNoLease, IsNoVote, IsVote}

-- how many bytes a lease, a vote, stamps, a claim and calls have
abbrev pub lease_bytes : ℕ
lease_bytes = 40

abbrev pub vote_bytes : ℕ
vote_bytes = 72

abbrev pub stamps_bytes : ℕ
stamps_bytes = 32

abbrev pub claim_bytes : ℕ
claim_bytes = 40

abbrev pub calls_bytes : ℕ
calls_bytes = 56

-- a truth as a number
abbrev pub yes_of : Bool → ℕ
yes_of is = if is then 1 else 0

-- a number that is there or not, and 0 if not
abbrev pub or_zero : Option ℕ → ℕ
or_zero None = 0
or_zero (Some number) = number

-- ---- leases

-- the lease is made of a voter of which nothing was heard
pub record LeaseIsMade (before after : List ℕ) (result : ℤ) : Type 0 where
  pub bad_state : length before ≢ lease_bytes → result ≡ refused BadState
  pub made : length before ≡ lease_bytes → (result ≡ done) × IsLease after begun_lease

-- the lease becomes what the step makes of it
pub record LeaseBecomes (step : VoterLease → VoterLease) (before after : List ℕ) (result : ℤ) : Type 0 where
  pub no_lease : IsNoLease before → result ≡ refused BadState
  pub becomes : (l : VoterLease) → IsLease before l → (result ≡ done) × IsLease after (step l)

-- a message says this incarnation: 1 if that is the latest one then, and 0 if not
pub record LeaseHears (incarnation : Incarnation) (before after : List ℕ) (latest : ℕ) (result : ℤ) : Type 0 where
  pub no_lease : IsNoLease before → result ≡ refused BadState
  pub hears : (l : VoterLease) → IsLease before l
      → (result ≡ done) × IsLease after (heard l incarnation) × (latest ≡ yes_of (is_same incarnation (heard l incarnation).incarnation))

-- ---- votes

-- the vote is made of a lock that the session did not ask for
pub record VoteIsMade (used : ℕ) (before after : List ℕ) (result : ℤ) : Type 0 where
  pub bad_state : length before ≢ vote_bytes → result ≡ refused BadState
  pub made : length before ≡ vote_bytes → (result ≡ done) × IsVote after (begun_vote used)

-- the vote becomes what the step makes of it
pub record VoteBecomes (step : Vote → Vote) (before after : List ℕ) (result : ℤ) : Type 0 where
  pub no_vote : IsNoVote before → result ≡ refused BadState
  pub becomes : (v : Vote) → IsVote before v → (result ≡ done) × IsVote after (step v)

-- a request asks: 1 if its stamp is above those before, and 0 if not
pub record VoteAsks (request : ℕ) (before after : List ℕ) (yes : ℕ) (result : ℤ) : Type 0 where
  pub no_vote : IsNoVote before → result ≡ refused BadState
  pub asks : (v : Vote) → IsVote before v → (result ≡ done) × IsVote after (asked v request) × (yes ≡ yes_of (nat_lt v.request request))

-- the vote keeps what counts by the voter's lease
pub record VoteKeeps (lease before after : List ℕ) (result : ℤ) : Type 0 where
  pub no_vote : IsNoVote before → result ≡ refused BadState
  pub no_lease : IsNoLease lease → result ≡ refused BadState
  pub keeps : (v : Vote) (l : VoterLease) → IsVote before v → IsLease lease l → (result ≡ done) × IsVote after (kept v l)

-- a LOCKED comes, where a heartbeat counts for this span: 1 if the session has the vote by it, and 0 if not
pub record VoteTakes (locked : Locked) (span now : ℕ) (lease before after : List ℕ) (yes : ℕ) (result : ℤ) : Type 0 where
  pub no_vote : IsNoVote before → result ≡ refused BadState
  pub no_lease : IsNoLease lease → result ≡ refused BadState
  pub takes : (v : Vote) (l : VoterLease) → IsVote before v → IsLease lease l
      → (result ≡ done) × IsVote after (taken v l locked span now) × (yes ≡ yes_of (is_taken v l locked span now))

-- up to when the vote counts, and 0 if it does not
pub record VoteShowsEnd (span : ℕ) (lease vote : List ℕ) (end : ℕ) (result : ℤ) : Type 0 where
  pub no_vote : IsNoVote vote → result ≡ refused BadState
  pub no_lease : IsNoLease lease → result ≡ refused BadState
  pub shows : (v : Vote) (l : VoterLease) → IsVote vote v → IsLease lease l → (result ≡ done) × (end ≡ or_zero (until v l span))

-- ---- stamps

-- the stamps are made at a voter that told nothing
pub record StampsAreMade (before after : List ℕ) (result : ℤ) : Type 0 where
  pub bad_state : length before ≢ stamps_bytes → result ≡ refused BadState
  pub made : length before ≡ stamps_bytes → (result ≡ done) × AreStamps after (untold 0)

-- some voter says that the voter has this run
pub record StampsAreRenewed (run : ℕ) (before after : List ℕ) (result : ℤ) : Type 0 where
  pub no_stamps : AreNoStamps before → result ≡ refused BadState
  pub renews : (s : OwnStamps) → AreStamps before s → (result ≡ done) × AreStamps after (renewed s run)

-- what the voter told is forgotten
pub record StampsAreForgotten (before after : List ℕ) (result : ℤ) : Type 0 where
  pub no_stamps : AreNoStamps before → result ≡ refused BadState
  pub forgets : (s : OwnStamps) → AreStamps before s → (result ≡ done) × AreStamps after (forgotten s)

-- the voter tells this in a run
pub record StampsHear (run base reserved : ℕ) (before after : List ℕ) (result : ℤ) : Type 0 where
  pub no_stamps : AreNoStamps before → result ≡ refused BadState
  pub hear : (s : OwnStamps) → AreStamps before s → (result ≡ done) × AreStamps after (told s run base reserved)

-- whether the session may ask under this stamp: 1 if it may, and 0 if not
pub record StampsAreOwn (bytes : List ℕ) (stamp yes : ℕ) (result : ℤ) : Type 0 where
  pub no_stamps : AreNoStamps bytes → result ≡ refused BadState
  pub are : (s : OwnStamps) → AreStamps bytes s → (result ≡ done) × (yes ≡ yes_of (is_own s stamp))

-- ---- claims

-- the claim is made of a number of which nothing was heard
pub record ClaimIsMade (before after : List ℕ) (result : ℤ) : Type 0 where
  pub bad_state : length before ≢ claim_bytes → result ≡ refused BadState
  pub made : length before ≡ claim_bytes → (result ≡ done) × IsClaim after claims.begun

-- the claim becomes what the step makes of it
pub record ClaimBecomes (step : Claim → Claim) (before after : List ℕ) (result : ℤ) : Type 0 where
  pub no_claim : IsNoClaim before → result ≡ refused BadState
  pub becomes : (c : Claim) → IsClaim before c → (result ≡ done) × IsClaim after (step c)

-- the number is claimed under the next epoch, which is 0 if there is none
pub record ClaimsNext (before after : List ℕ) (epoch : ℕ) (result : ℤ) : Type 0 where
  pub no_claim : IsNoClaim before → result ≡ refused BadState
  pub claims : (c : Claim) → IsClaim before c → (result ≡ done) × IsClaim after (claims_next c) × (epoch ≡ or_zero (next_epoch c))

-- a voter accepted a claim of this epoch, and told this base: 1 if that is of the claim that goes on, and 0 if not
pub record ClaimIsAccepted (voter epoch base : ℕ) (before after : List ℕ) (yes : ℕ) (result : ℤ) : Type 0 where
  pub no_claim : IsNoClaim before → result ≡ refused BadState
  pub accepted : (c : Claim) → IsClaim before c
      → (result ≡ done) × IsClaim after (accepted_by c voter epoch base) × (yes ≡ yes_of (is_accepted_by c voter epoch))

-- what is kept, where the epoch is 0 if no claim goes on
pub record ClaimShows (bytes : List ℕ) (newest epoch accepted base : ℕ) (result : ℤ) : Type 0 where
  pub no_claim : IsNoClaim bytes → result ≡ refused BadState
  pub shows : (c : Claim) → IsClaim bytes c
      → (result ≡ done) × (newest ≡ c.newest) × (epoch ≡ or_zero c.epoch) × (accepted ≡ c.accepted) × (base ≡ c.base)

-- ---- calls for a lock

-- the phase with this number, of a session whose request has this stamp
abbrev pub phase_of : ℕ → ℕ → Option Phase
phase_of number request =
    if number == 0 then Some Idle else if number == 1 then Some Asking else if number == 2 then Some (Inside request) else None

-- why a call is refused, as a number: 0 if it is taken
abbrev pub fault_number : Option CallFault → ℕ
fault_number None = 0
fault_number (Some Closed) = 1
fault_number (Some Held) = 2
fault_number (Some TooMany) = 3

-- what is next, as a number
abbrev pub next_number : Next → ℕ
next_number Nothing = 0
next_number Ask = 1
next_number GiveUp = 2
next_number Leave = 3
next_number Hand = 4
next_number Lose = 5

-- how a call gave the lock back, as a number: 0 if it did not have it, 2 if it was told before that the lock may be lost
abbrev pub unlock_number : Option Bool → ℕ
unlock_number None = 0
unlock_number (Some false) = 1
unlock_number (Some true) = 2

-- the calls are made of a lock that nobody wants
pub record CallsAreMade (used : ℕ) (before after : List ℕ) (result : ℤ) : Type 0 where
  pub bad_state : length before ≢ calls_bytes → result ≡ refused BadState
  pub made : length before ≡ calls_bytes → (result ≡ done) × AreCalls after (calls.begun used)

-- a call comes in this phase
pub record CallComes (phase request : ℕ) (tries : Bool) (before after : List ℕ) (why : ℕ) (result : ℤ) : Type 0 where
  pub no_calls : AreNoCalls before → result ≡ refused BadState
  pub no_phase : (c : Calls) → AreCalls before c → phase_of phase request ≡ None → result ≡ refused BadArgument
  pub comes : (c : Calls) (p : Phase) → AreCalls before c → phase_of phase request ≡ Some p
      → (result ≡ done) × AreCalls after (wanted c p tries) × (why ≡ fault_number (call_fault c p tries))

-- a call does not wait any more
pub record CallGoes (tries : Bool) (before after : List ℕ) (result : ℤ) : Type 0 where
  pub no_calls : AreNoCalls before → result ≡ refused BadState
  pub goes : (c : Calls) → AreCalls before c → (result ≡ done) × AreCalls after (unwanted c tries)

-- somebody else has the lock: 1 if that ends a call that only tries, and 0 if not
pub record TriesAreRefused (phase request : ℕ) (before after : List ℕ) (yes : ℕ) (result : ℤ) : Type 0 where
  pub no_calls : AreNoCalls before → result ≡ refused BadState
  pub no_phase : (c : Calls) → AreCalls before c → phase_of phase request ≡ None → result ≡ refused BadArgument
  pub are : (c : Calls) (p : Phase) → AreCalls before c → phase_of phase request ≡ Some p
      → (result ≡ done) × AreCalls after (tries_refused c p) × (yes ≡ yes_of (ends_try c p))

-- the lock is handed to the first call that waits, if that may have it: 1 if so, and 0 if not
pub record LockIsHanded (phase request : ℕ) (counts : Bool) (before after : List ℕ) (yes : ℕ) (result : ℤ) : Type 0 where
  pub no_calls : AreNoCalls before → result ≡ refused BadState
  pub no_phase : (c : Calls) → AreCalls before c → phase_of phase request ≡ None → result ≡ refused BadArgument
  pub handed : (c : Calls) (p : Phase) → AreCalls before c → phase_of phase request ≡ Some p
      → (result ≡ done) × AreCalls after (handed c p counts) × (yes ≡ yes_of (may_hand c p counts))

-- a call gives the lock back
pub record CallUnlocks (request : ℕ) (before after : List ℕ) (how : ℕ) (result : ℤ) : Type 0 where
  pub no_calls : AreNoCalls before → result ≡ refused BadState
  pub unlocks : (c : Calls) → AreCalls before c
      → (result ≡ done) × AreCalls after (unlocked c request) × (how ≡ unlock_number (lost_of c request))

-- the lock may be lost: 1 if a call has to be told, and 0 if not
pub record LockMayBeLost (before after : List ℕ) (yes : ℕ) (result : ℤ) : Type 0 where
  pub no_calls : AreNoCalls before → result ≡ refused BadState
  pub loses : (c : Calls) → AreCalls before c → (result ≡ done) × AreCalls after (lost c) × (yes ≡ yes_of (is_new_loss c))

-- all calls that wait fail, and none is taken from now on if the session closes
pub record CallsEnd (closes : Bool) (before after : List ℕ) (result : ℤ) : Type 0 where
  pub no_calls : AreNoCalls before → result ≡ refused BadState
  pub end : (c : Calls) → AreCalls before c → (result ≡ done) × AreCalls after (if closes then closed c else emptied c)

-- what the session has to do next
pub record CallsShowNext (phase request : ℕ) (counts doubtful : Bool) (bytes : List ℕ) (shown : ℕ) (result : ℤ) : Type 0 where
  pub no_calls : AreNoCalls bytes → result ≡ refused BadState
  pub no_phase : (c : Calls) → AreCalls bytes c → phase_of phase request ≡ None → result ≡ refused BadArgument
  pub shows : (c : Calls) (p : Phase) → AreCalls bytes c → phase_of phase request ≡ Some p
      → (result ≡ done) × (shown ≡ next_number (next c p counts doubtful))

-- what it has to do if a vote may be somebody else's
pub record CallsShowSpoiled (phase request : ℕ) (bytes : List ℕ) (shown : ℕ) (result : ℤ) : Type 0 where
  pub no_calls : AreNoCalls bytes → result ≡ refused BadState
  pub no_phase : (c : Calls) → AreCalls bytes c → phase_of phase request ≡ None → result ≡ refused BadArgument
  pub shows : (c : Calls) (p : Phase) → AreCalls bytes c → phase_of phase request ≡ Some p
      → (result ≡ done) × (shown ≡ next_number (spoiled c p))

-- whether the session may end its request of this stamp: 1 if it may, and 0 if not
pub record CallsShowEnd (request : ℕ) (bytes : List ℕ) (yes : ℕ) (result : ℤ) : Type 0 where
  pub no_calls : AreNoCalls bytes → result ≡ refused BadState
  pub shows : (c : Calls) → AreCalls bytes c → (result ≡ done) × (yes ≡ yes_of (may_end c request))
