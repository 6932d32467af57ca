-- One place, the voters that keep who is there, and all processes that ever start there.
--
-- Each voter saves before it answers, and a crash keeps what it saved: none of them loses its state. A process starts from
-- any copy of the place's state, so each may have started any number of times, and have asked for any ceiling. Any number
-- of processes may run at a time. Messages are late, repeated or lost.
use Rattle.std.specs.Prelude.{ℕ, ◌≡◌, ◌<◌, ◌==◌, Bool, true, ◌&&◌, ◌⊎◌, List, [], ◌∷◌, ◌++◌, Option, Some, None, Result, Ok, Err, if◌then◌else◌, slice_get, Contains}
use Rattle.starts.specs.declared.fault.StartFault.{StartFault}
use Rattle.starts.specs.declared.peer.Peer.{Peer}
use Rattle.starts.specs.declared.start.Answers.{Answers}
use Rattle.starts.specs.declared.start.Start.{Start}
use Rattle.starts.specs.Peers.{ended_with, later_of, meets}
use Rattle.starts.specs.Starts as starts

-- what a voter answers to a process
pub data Reply : Type 0 where
  -- it takes the process, and knew this ceiling before: voter, process, ceiling
  Knows : ℕ → ℕ → ℕ → Reply
  -- It keeps this ceiling for the process. If it did not hear of its start before, it says which ceiling it knew: voter,
  -- process, ceiling, known one
  Keeps : ℕ → ℕ → ℕ → Option ℕ → Reply

-- the process that a voter met last, and the ceiling that was known then
pub record Met : Type 0 where
  pub process : ℕ
  pub known : ℕ

-- a grant that a process gave, when it might give grants up to this ceiling
pub record Given : Type 0 where
  pub process : ℕ
  pub number : ℕ
  pub ceiling : ℕ

-- The voters that keep the place, and the processes, by their numbers. Of each voter: what it keeps, live and saved; whom it
-- met last, which it does not save; and the replies that wait for its next save. Each reply that ever left. Each process.
-- And each grant.
pub record World : Type 0 where
  pub peers : ℕ → Peer
  pub saved : ℕ → Peer
  pub met : ℕ → Option Met
  pub outbox : ℕ → List Reply
  pub said : List Reply
  pub starts : ℕ → Start
  pub given : List Given

-- what may happen, at any time
pub data Event : Type 0 where
  -- A voter hears that a process started, which says which ceiling its state has: voter, process, ceiling
  Meets : ℕ → ℕ → ℕ → Event
  -- a voter hears that a process asks for this ceiling: voter, process, ceiling
  IsAsked : ℕ → ℕ → ℕ → Event
  -- A voter hears from another one, or from the process, which ceiling a process has, and how often its state was saved when it
  -- ended: voter, process, ceiling, saves
  Learns : ℕ → ℕ → ℕ → ℕ → Event
  -- a voter hears that a process ended, whose state was saved so often: voter, process, saves
  Ends : ℕ → ℕ → ℕ → Event
  -- a voter saves, and its replies leave
  Saves : ℕ → Event
  -- a voter crashes, and restarts from what it saved
  Crashes : ℕ → Event
  -- a reply comes to the process that it is for, by its place among all that left; whether the voter knows that the last run
  -- ended cleanly
  Hears : ℕ → Bool → Event
  -- a process asks for its first ceiling, if it may
  Begins : ℕ → Answers → Event
  -- a process counts the voters that keep its ceiling, and whether they and it contain a quorum
  Turns : ℕ → Bool → Event
  -- a process gave the grant of this number, and may ask for the next ceiling: process, number
  Needs : ℕ → ℕ → Event
  -- the plans of a process changed
  Renews : ℕ → Event
  -- a process gives the grant of this number, if it may: process, number
  Gives : ℕ → ℕ → Event

-- ---- the first world

-- nobody is known
abbrev pub nobody : Peer
nobody = record { identity = 0; run = 0; start = 0; process = 0; ceiling = 0; ended = 0 }

-- No voter knows anybody. Each process has a state that asked for some ceiling, and first asks for so many grants.
abbrev pub first_world : (ℕ → ℕ) → (ℕ → ℕ) → World
first_world ceilings blocks = record {
  peers = λ voter. nobody;
  saved = λ voter. nobody;
  met = λ voter. None;
  outbox = λ voter. [];
  said = [];
  starts = λ process. starts.begun (ceilings process) (blocks process);
  given = [];
}

-- Of each process: the identity of its state, which is never 0, how often that was made again, how often it started, and a
-- word that it made up, which no other process has.
pub record AreProcesses (who : ℕ → Peer) : Type 0 where
  pub somebody : (p : ℕ) → 0 < (who p).identity
  pub apart : (p q : ℕ) → (who p).process ≡ (who q).process → p ≡ q

-- the process, as it says what it is, with this ceiling
abbrev pub says : Peer → ℕ → ℕ → Peer
says p ceiling ended =
    record { identity = p.identity; run = p.run; start = p.start; process = p.process; ceiling = ceiling; ended = ended }

-- ---- voters

-- a function that has this value at one place
abbrev pub set : {X : Type 0} → (ℕ → X) → ℕ → X → ℕ → X
set f place value other = if place == other then value else f other

-- What a voter shows to a process that starts: what was known when it said so for the first time, as far as it remembers.
abbrev pub shown : Option Met → ℕ → ℕ → ℕ
shown None process known = known
shown (Some m) process known = if m.process == process then m.known else known

-- the ceiling that a voter knew, if it did not hear of this start before
abbrev pub knew : Peer → Peer → Option ℕ
knew p now = if (p.identity == now.identity) && (p.process == now.process) then None else Some p.ceiling

-- a voter keeps this from now on, remembers whom it met, and replies after its next save
abbrev pub answers : World → ℕ → Peer → Option Met → Reply → World
answers w voter peer met reply = record {
  peers = set w.peers voter peer;
  saved = w.saved;
  met = set w.met voter met;
  outbox = set w.outbox voter (w.outbox voter ++ reply ∷ []);
  said = w.said;
  starts = w.starts;
  given = w.given;
}

-- a process starts: a voter that refuses it changes nothing
abbrev pub meets_start : World → ℕ → ℕ → Result Peer StartFault → World
meets_start w voter process (Err fault) = w
meets_start w voter process (Ok peer) =
    let known = shown (w.met voter) process (w.peers voter).ceiling in
    answers w voter peer (Some (record { process = process; known = known })) (Knows voter process known)

-- a process asks for a ceiling: a voter that refuses it changes nothing
abbrev pub meets_asker : World → ℕ → ℕ → ℕ → Option ℕ → Result Peer StartFault → World
meets_asker w voter process ceiling known (Err fault) = w
meets_asker w voter process ceiling known (Ok peer) = answers w voter peer (w.met voter) (Keeps voter process ceiling known)

-- a voter keeps this from now on
abbrev pub keeps : World → ℕ → Peer → World
keeps w voter peer = record {
  peers = set w.peers voter peer;
  saved = w.saved;
  met = w.met;
  outbox = w.outbox;
  said = w.said;
  starts = w.starts;
  given = w.given;
}

-- a voter saves, and its replies leave
abbrev pub saves : World → ℕ → World
saves w voter = record {
  peers = w.peers;
  saved = set w.saved voter (w.peers voter);
  met = w.met;
  outbox = set w.outbox voter [];
  said = w.said ++ w.outbox voter;
  starts = w.starts;
  given = w.given;
}

-- a voter restarts from what it saved
abbrev pub crashes : World → ℕ → World
crashes w voter = record {
  peers = set w.peers voter (w.saved voter);
  saved = w.saved;
  met = set w.met voter None;
  outbox = set w.outbox voter [];
  said = w.said;
  starts = w.starts;
  given = w.given;
}

-- ---- processes

abbrev pub goes_on : World → ℕ → Start → World
goes_on w process start = record {
  peers = w.peers;
  saved = w.saved;
  met = w.met;
  outbox = w.outbox;
  said = w.said;
  starts = set w.starts process start;
  given = w.given;
}

-- a reply comes to its process
abbrev pub comes : World → Option Reply → Bool → World
comes w None is_clean = w
comes w (Some (Knows voter process known)) is_clean = goes_on w process (starts.hears (w.starts process) voter known is_clean)
comes w (Some (Keeps voter process ceiling known)) is_clean = goes_on w process (starts.is_kept_by (w.starts process) voter ceiling known)

-- a process gives a grant
abbrev pub gives : World → ℕ → ℕ → World
gives w process number = record {
  peers = w.peers;
  saved = w.saved;
  met = w.met;
  outbox = w.outbox;
  said = w.said;
  starts = w.starts;
  given = record { process = process; number = number; ceiling = (w.starts process).ceiling } ∷ w.given;
}

-- the world after an event: who the processes are, the world before, the event
abbrev pub after : (ℕ → Peer) → World → Event → World
after who w (Meets voter process ceiling) = meets_start w voter process (meets (w.peers voter) (says (who process) ceiling 0))
after who w (IsAsked voter process ceiling) =
    meets_asker w voter process ceiling (knew (w.peers voter) (who process)) (meets (w.peers voter) (says (who process) ceiling 0))
after who w (Learns voter process ceiling ended) = keeps w voter (later_of (w.peers voter) (says (who process) ceiling ended))
after who w (Ends voter process ended) = keeps w voter (ended_with (w.peers voter) (who process).identity (who process).start ended)
after who w (Saves voter) = saves w voter
after who w (Crashes voter) = crashes w voter
after who w (Hears place is_clean) = comes w (slice_get w.said place) is_clean
after who w (Begins process answers) = goes_on w process (starts.begins (w.starts process) answers)
after who w (Turns process have_quorums) =
    goes_on w process (starts.after_turn (w.starts process) (starts.turn_of (w.starts process) have_quorums))
after who w (Needs process number) = goes_on w process (starts.needs (w.starts process) number)
after who w (Renews process) = goes_on w process (starts.renews (w.starts process))
after who w (Gives process number) = if starts.may_give (w.starts process) number then gives w process number else w

-- the world after these, in order
abbrev pub after_all : (ℕ → Peer) → World → List Event → World
after_all who w [] = w
after_all who w (e ∷ es) = after_all who (after who w e) es

-- ---- what the laws say

-- a voter said that it keeps this ceiling for the process
abbrev pub SaysItKeeps : World → ℕ → ℕ → ℕ → Type 0
SaysItKeeps w voter process ceiling = (known : Option ℕ) × Contains w.said (Keeps voter process ceiling known)

-- a voter said which ceiling it knew, and the process heard so before it served
abbrev pub IsCounted : World → ℕ → ℕ → Type 0
IsCounted w voter process = starts.has_voter (w.starts process).counted voter ≡ true

-- a voter answered the process, and did not refuse it
abbrev pub IsTakenBy : World → ℕ → ℕ → Type 0
IsTakenBy w voter process =
    ((ceiling : ℕ) × Contains w.said (Knows voter process ceiling)) ⊎ ((ceiling : ℕ) × SaysItKeeps w voter process ceiling)

-- the world after these events, from the first one
abbrev pub world_after : (ℕ → Peer) → (ℕ → ℕ) → (ℕ → ℕ) → List Event → World
world_after who ceilings blocks events = after_all who (first_world ceilings blocks) events

-- a voter that keeps this refuses the process, whatever ceiling that has
abbrev pub IsRefused : Peer → Peer → Type 0
IsRefused peer process = (ceiling : ℕ) → (fault : StartFault) × (meets peer (says process ceiling 0) ≡ Err fault)
