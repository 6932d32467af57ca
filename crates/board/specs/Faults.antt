-- Why a client's seat is not taken back.
use Rattle.std.specs.Prelude.{◌≡◌, ◌≢◌, ℕ, ◌<◌, List, slice_index}
use Rattle.board.specs.declared.fault.BoardFault.{BoardFault}
use Rattle.board.specs.declared.fault.BoardFault.TheVariants.{SeatsOut, VoteOut, RegisterFull, OutOfMemory}

-- v is the smallest voter whose vote is held; or no vote is held, and memory ran out
abbrev pub IsOut : List ℕ → BoardFault → Type 0
IsOut held (VoteOut v) = (slice_index held v ≢ 0) × ((k : ℕ) → k < v → slice_index held k ≡ 0)
IsOut held OutOfMemory = (v : ℕ) → slice_index held v ≡ 0
IsOut held (SeatsOut _) = ⊥
IsOut held RegisterFull = ⊥
