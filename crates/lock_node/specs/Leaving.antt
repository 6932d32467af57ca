-- What a session is told, which turns of a host undo no letter, and what a vote has to be for that.
use Rattle.std.specs.Prelude.{ℕ, ◌≡◌, List}
use Rattle.message.specs.declared.message.ClientBody.TheVariants as to_client
use Rattle.sessions.specs.Rows.{IsOneOf}
use Rattle.voter.specs.declared.state.Grant.{Grant}
use Rattle.voter.specs.declared.state.VoterState.{VoterState}
use Rattle.voter.specs.Steps.{IsSound, reply, see}
use Rattle.lock_node.specs.Letters.{Letter}
use Rattle.lock_node.specs.Locks.{Calls, Crashes, Extends, IsForgotten, LetsGo, LockNode, Reminds, Saves, Skips, Speaks}
use Rattle.lock_node.specs.Thrift.{Befalls, HandsOut, HostTurn}

-- The LOCKED by which the voter of a lock answers a REQUEST of a session: the voter before, the lock, the session, its
-- number, the stamp, and the number of the grant.
abbrev pub locked_letter : VoterState → ℕ → ℕ → ℕ → ℕ → ℕ → Letter
locked_letter v lock session client stamp grant =
    record { lock = lock; session = session; message = reply (see v stamp) client (to_client.Locked stamp grant) }

-- Of these letters one says LOCKED by this grant to the session: the letters, lock, session, grant.
abbrev pub IsTold : List Letter → ℕ → ℕ → Grant → Type 0
IsTold letters lock session g =
    (l : Letter) × IsOneOf l letters × (l.lock ≡ lock) × (l.session ≡ session) × (l.message.client ≡ g.client)
    × (l.message.body ≡ to_client.Locked g.stamp g.grant)

-- the letters of this lock that wait go on waiting, or leave: the process does not crash, and the lock is not forgotten
abbrev pub KeepsLetters : ℕ → HostTurn → Type 0
KeepsLetters lock (Befalls (Calls number call)) = Unit {0}
KeepsLetters lock (Befalls (Speaks other session epoch m)) = Unit {0}
KeepsLetters lock (Befalls (LetsGo other grant)) = Unit {0}
KeepsLetters lock (Befalls (Reminds other)) = Unit {0}
KeepsLetters lock (Befalls (Extends other limit)) = Unit {0}
KeepsLetters lock (Befalls (Skips other above)) = Unit {0}
KeepsLetters lock (Befalls (IsForgotten other above limit)) = other ≡ lock → ⊥
KeepsLetters lock (Befalls Saves) = Unit {0}
KeepsLetters lock (Befalls Crashes) = ⊥
KeepsLetters lock (HandsOut other) = Unit {0}

-- the vote of each lock is sound, and so is what is on the disk
abbrev pub AreSound : LockNode → Type 0
AreSound n = (lock : ℕ) → IsSound (n.locks lock).live × IsSound (n.locks lock).saved
