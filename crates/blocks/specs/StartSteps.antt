-- What the calls of a peer and of a start return and write. Each is said for the one peer, or the one start, that the bytes are.
use Rattle.std.specs.Prelude.{ℕ, ℤ, ◌≡◌, ◌≢◌, ◌<◌, ◌==◌, Bool, List, length, Option, Some, None, Result, Ok, Err, if◌then◌else◌}
use Rattle.starts.specs.declared.fault.StartFault.{StartFault}
use Rattle.starts.specs.declared.peer.Peer.{Peer}
use Rattle.starts.specs.declared.start.Start.{Start}
use Rattle.starts.specs.declared.start.Turn.{Turn}
use Rattle.starts.specs.declared.start.Turn.TheVariants.{AsksAgain, Raises, Serves, ServesQuietly, Waits}
use Rattle.starts.specs.Peers.{ended_with, is_clean, later_of, meets}
use Rattle.starts.specs.Starts.{after_turn, begun, needs, turn_of}
use Rattle.blocks.specs.Bytes.{IsNoPeer, IsNoStart, IsPeer, IsStart}
use Rattle.blocks.specs.Numbers.{done, refused, start_refusal}
use Rattle.blocks.specs.declared.refusal.Refusal.TheVariants.{BadArgument, BadState}

-- how many bytes a peer has, and a start
abbrev pub peer_bytes : ℕ
peer_bytes = 56

abbrev pub start_bytes : ℕ
start_bytes = 80

-- ---- peers

-- by what meeting a process gives: a refusal, or what is kept from now on
abbrev pub KeepsPeer : Result Peer StartFault → List ℕ → ℤ → Type 0
KeepsPeer (Ok peer) after result = (result ≡ done) × IsPeer after peer
KeepsPeer (Err fault) after result = result ≡ refused (start_refusal fault)

-- the process of another peer started in the place
pub record PeerMeets (before now after : List ℕ) (result : ℤ) : Type 0 where
  pub no_peer : IsNoPeer before → result ≡ refused BadState
  pub no_other : (p : Peer) → IsPeer before p → IsNoPeer now → result ≡ refused BadState
  pub meets : (p q : Peer) → IsPeer before p → IsPeer now q → KeepsPeer (meets p q) after result

-- the later one of two peers of a place is kept
pub record PeerLearns (before other after : List ℕ) (result : ℤ) : Type 0 where
  pub no_peer : IsNoPeer before → result ≡ refused BadState
  pub no_other : (p : Peer) → IsPeer before p → IsNoPeer other → result ≡ refused BadState
  pub learns : (p q : Peer) → IsPeer before p → IsPeer other q → (result ≡ done) × IsPeer after (later_of p q)

-- the voter says in this start that it ended, when its state was saved so often
pub record PeerEnds (before : List ℕ) (identity start saves : ℕ) (after : List ℕ) (result : ℤ) : Type 0 where
  pub no_peer : IsNoPeer before → result ≡ refused BadState
  pub ends : (p : Peer) → IsPeer before p → (result ≡ done) × IsPeer after (ended_with p identity start saves)

-- whether the last run of the voter is known to have ended cleanly, with so many saves: 1 if it is, and 0 if not
pub record PeerIsClean (bytes : List ℕ) (identity saves yes : ℕ) (result : ℤ) : Type 0 where
  pub no_peer : IsNoPeer bytes → result ≡ refused BadState
  pub clean : (p : Peer) → IsPeer bytes p → (result ≡ done) × (yes ≡ (if is_clean p identity saves then 1 else 0))

-- ---- starts

-- a start is made, of a state that asked for this ceiling last
pub record StartIsMade (ceiling first : ℕ) (before after : List ℕ) (result : ℤ) : Type 0 where
  pub bad_state : length before ≢ start_bytes → result ≡ refused BadState
  pub made : length before ≡ start_bytes → (result ≡ done) × IsStart after (begun ceiling first)

-- a start makes this step
pub record StartDoes (step_of : Start → Start) (before after : List ℕ) (result : ℤ) : Type 0 where
  pub no_start : IsNoStart before → result ≡ refused BadState
  pub does : (s : Start) → IsStart before s → (result ≡ done) × IsStart after (step_of s)

-- the grant of this number was given: a start may ask for the next ceiling
pub record StartNeeds (before : List ℕ) (number : ℕ) (after : List ℕ) (result : ℤ) : Type 0 where
  pub no_start : IsNoStart before → result ≡ refused BadState
  pub needs : (s : Start) → IsStart before s → (result ≡ done) × IsStart after (needs s number)

-- a start makes this step, by a word of this voter
pub record StartHears (voter : ℕ) (step_of : Start → Start) (before after : List ℕ) (result : ℤ) : Type 0 where
  pub bad_argument : (voter < 64 → ⊥) → result ≡ refused BadArgument
  pub hears : voter < 64 → StartDoes step_of before after result

-- the ceiling that a voter knew, if it says so by a number that is not 0
abbrev pub known_if : ℕ → ℕ → Option ℕ
known_if says known = if says == 0 then None else Some known

-- the number of a turn
abbrev pub turn_number : Turn → ℕ
turn_number Waits = 0
turn_number AsksAgain = 1
turn_number Serves = 2
turn_number ServesQuietly = 3
turn_number Raises = 4

-- a start counts who keeps its ceiling, and what comes of it
pub record StartTurns (before : List ℕ) (have_quorums : Bool) (after : List ℕ) (turn : ℕ) (result : ℤ) : Type 0 where
  pub no_start : IsNoStart before → result ≡ refused BadState
  pub turns : (s : Start) → IsStart before s
      → (result ≡ done) × IsStart after (after_turn s (turn_of s have_quorums)) × (turn ≡ turn_number (turn_of s have_quorums))
