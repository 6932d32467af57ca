-- A peer as seven numbers of 64 bits, and a start as ten.
use Rattle.std.specs.Prelude.{ℕ, ◌+◌, ◌/◌, ◌%◌, ◌^◌, Bool, List, [], ◌∷◌, if◌then◌else◌}
use Rattle.starts.specs.declared.peer.Peer.{Peer}
use Rattle.starts.specs.declared.start.Start.{Start}

-- the numbers of a peer: the identity's upper and lower half, and then the others
abbrev pub peer_words : Peer → List ℕ
peer_words p = p.identity / 2 ^ 64 ∷ p.identity % 2 ^ 64 ∷ p.run ∷ p.start ∷ p.process ∷ p.ceiling ∷ p.ended ∷ []

-- two flags as a number
abbrev pub flags_of : Bool → Bool → ℕ
flags_of serves is_clean = (if serves then 1 else 0) + (if is_clean then 2 else 0)

-- the numbers of a start
abbrev pub start_words : Start → List ℕ
start_words s =
    s.answered ∷ s.counted ∷ s.known ∷ s.floor ∷ s.asked ∷ s.kept ∷ s.ceiling ∷ s.first ∷ s.block ∷ flags_of s.serves s.is_clean ∷ []
