-- What the calls of a session's lock return and write. Each is said for the one lock that the blocks are, and for the leases that the
-- bytes are. That a refused call writes nothing is a clause of each call.
use Rattle.std.specs.Prelude.{ℕ, ℤ, ◌≡◌, Bool, List, Result, Ok, Err}
use Rattle.message.specs.declared.message.ToClient.{ToClient}
use Rattle.requester.specs.declared.fault.ClientFault.{ClientFault}
use Rattle.callers.specs.Calls.{call_fault, ends_try, spoiled, tries_refused, wanted}
use Rattle.vote_leases.specs.declared.incarnation.Incarnation.{Incarnation}
use Rattle.vote_leases.specs.declared.lease.VoterLease.{VoterLease}
use Rattle.client_node.specs.Locks.{Lock, LockOutcome, ask_lock, hand_lock, handed_until, is_doubtful, next, phase_of, take_lock, until, with_calls}
use Rattle.client_node.specs.declared.fault.LockFault.{LockFault}
use Rattle.client_node.specs.declared.fault.LockFault.TheVariants.{HasLock, OfClient}
use Rattle.blocks.specs.Numbers.{client_refusal, done, refused}
use Rattle.blocks.specs.declared.refusal.Refusal.{Refusal}
use Rattle.blocks.specs.declared.refusal.Refusal.TheVariants.{BadMessage, BadState, Busy}
use Rattle.lock_blocks.specs.ClientSteps.{entered_number}
use Rattle.lock_blocks.specs.Lines.{IsToClient, Sends, lines_to_voters}
use Rattle.session_blocks.specs.SessionSteps.{fault_number, next_number, or_zero, yes_of}
use Rattle.client_blocks.specs.Bytes.{AreLeases, AreNoLeases, IsLock, IsNoLock}

-- ---- what a lock shows

-- up to when all votes of the quorum count, and 0 if they do not
pub record LockShowsEnd (client votes calls leases : List ℕ) (span end : ℕ) (result : ℤ) : Type 0 where
  pub no_lock : IsNoLock client votes calls → result ≡ refused BadState
  pub no_leases : AreNoLeases leases → result ≡ refused BadState
  pub shows : (l : Lock) (ls : List VoterLease) → IsLock client votes calls l → AreLeases leases ls
      → (result ≡ done) × (end ≡ or_zero (until l ls span))

-- what the session has to do next for the calls, at this time
pub record LockShowsNext (client votes calls leases since : List ℕ) (span now shown : ℕ) (result : ℤ) : Type 0 where
  pub no_lock : IsNoLock client votes calls → result ≡ refused BadState
  pub no_leases : AreNoLeases leases → result ≡ refused BadState
  pub shows : (l : Lock) (ls : List VoterLease) → IsLock client votes calls l → AreLeases leases ls
      → (result ≡ done) × (shown ≡ next_number (next l ls since span now))

-- whether a vote may be somebody else's, at this time: 1 if so, and 0 if not
pub record LockShowsDoubt (client votes calls leases since : List ℕ) (span now yes : ℕ) (result : ℤ) : Type 0 where
  pub no_lock : IsNoLock client votes calls → result ≡ refused BadState
  pub no_leases : AreNoLeases leases → result ≡ refused BadState
  pub shows : (l : Lock) (ls : List VoterLease) → IsLock client votes calls l → AreLeases leases ls
      → (result ≡ done) × (yes ≡ yes_of (is_doubtful l ls since span now))

-- what it has to do if a vote may be somebody else's
pub record LockShowsSpoiled (client votes calls : List ℕ) (shown : ℕ) (result : ℤ) : Type 0 where
  pub no_lock : IsNoLock client votes calls → result ≡ refused BadState
  pub shows : (l : Lock) → IsLock client votes calls l
      → (result ≡ done) × (shown ≡ next_number (spoiled l.calls (phase_of l.client)))

-- ---- what comes to the calls alone

-- The lock is handed to the first call that waits, if all votes count now. Up to when that call has it, and 0 if it was not handed the
-- lock.
pub record LockHands (client votes leases : List ℕ) (span now : ℕ) (before after : List ℕ) (end : ℕ) (result : ℤ) : Type 0 where
  pub no_lock : IsNoLock client votes before → result ≡ refused BadState
  pub no_leases : AreNoLeases leases → result ≡ refused BadState
  pub hands : (l : Lock) (ls : List VoterLease) → IsLock client votes before l → AreLeases leases ls
      → (result ≡ done) × IsLock client votes after (hand_lock l ls span now) × (end ≡ or_zero (handed_until l ls span now))

-- a call comes, in the phase of the client: 0 if it is taken, and else why it is refused
pub record LockIsWanted (client votes : List ℕ) (tries : Bool) (before after : List ℕ) (why : ℕ) (result : ℤ) : Type 0 where
  pub no_lock : IsNoLock client votes before → result ≡ refused BadState
  pub wants : (l : Lock) → IsLock client votes before l
      → (result ≡ done) × IsLock client votes after (with_calls l (wanted l.calls (phase_of l.client) tries))
      × (why ≡ fault_number (call_fault l.calls (phase_of l.client) tries))

-- somebody else has the lock: 1 if that ends a call that only tries, and 0 if not
pub record LockRefusesTries (client votes : List ℕ) (before after : List ℕ) (yes : ℕ) (result : ℤ) : Type 0 where
  pub no_lock : IsNoLock client votes before → result ≡ refused BadState
  pub refuses : (l : Lock) → IsLock client votes before l
      → (result ≡ done) × IsLock client votes after (with_calls l (tries_refused l.calls (phase_of l.client)))
      × (yes ≡ yes_of (ends_try l.calls (phase_of l.client)))

-- ---- what changes the client and its votes

-- the refusal of a request that does not end
abbrev pub lock_refusal : LockFault → Refusal
lock_refusal HasLock = Busy
lock_refusal (OfClient fault) = client_refusal fault

-- by what the end of a request gives: a fault, or messages and the lock afterwards
abbrev pub EndsBy : Result LockOutcome LockFault → (client votes calls out out_after : List ℕ) → ℕ → ℤ → Type 0
EndsBy (Err fault) client votes calls out out_after written result = result ≡ refused (lock_refusal fault)
EndsBy (Ok o) client votes calls out out_after written result =
    Sends (lines_to_voters o.out) out out_after written result (IsLock client votes calls o.lock)

-- the client leaves, or gives its request up
pub record LockEnds (step : Lock → Result LockOutcome LockFault) (calls client client_after votes votes_after out out_after : List ℕ) (written : ℕ) (result : ℤ) : Type 0 where
  pub no_lock : IsNoLock client votes calls → result ≡ refused BadState
  pub ends : (l : Lock) → IsLock client votes calls l → EndsBy (step l) client_after votes_after calls out out_after written result

-- by what a request that begins gives
abbrev pub AsksBy : Result LockOutcome ClientFault → (client votes calls out out_after : List ℕ) → ℕ → ℤ → Type 0
AsksBy (Err fault) client votes calls out out_after written result = result ≡ refused (client_refusal fault)
AsksBy (Ok o) client votes calls out out_after written result =
    Sends (lines_to_voters o.out) out out_after written result (IsLock client votes calls o.lock)

-- a request begins for the votes of this quorum
pub record LockAsks (quorum calls client client_after votes votes_after out out_after : List ℕ) (written : ℕ) (result : ℤ) : Type 0 where
  pub no_lock : IsNoLock client votes calls → result ≡ refused BadState
  pub asks : (l : Lock) → IsLock client votes calls l → AsksBy (ask_lock l quorum) client_after votes_after calls out out_after written result

-- The client takes a line, whose header says this incarnation. `entered` is 1 if it got the lock in this call, and 0 if not.
pub record LockTakes (incarnation : Incarnation) (span now : ℕ) (leases line calls client client_after votes votes_after out out_after : List ℕ) (written : ℕ) (entered result : ℤ) : Type 0 where
  pub no_lock : IsNoLock client votes calls → result ≡ refused BadState
  pub no_leases : AreNoLeases leases → result ≡ refused BadState
  pub no_message : (l : Lock) (ls : List VoterLease) → IsLock client votes calls l → AreLeases leases ls
      → ((m : ToClient) → IsToClient line l.client.id m → ⊥) → result ≡ refused BadMessage
  pub takes : (l : Lock) (ls : List VoterLease) (m : ToClient) → IsLock client votes calls l → AreLeases leases ls → IsToClient line l.client.id m
      → Sends (lines_to_voters (take_lock l incarnation ls span now m).out) out out_after written result
      (IsLock client_after votes_after calls (take_lock l incarnation ls span now m).lock
      × (entered ≡ entered_number (take_lock l incarnation ls span now m).seen))
