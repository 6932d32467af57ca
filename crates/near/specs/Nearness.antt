-- Weights that are near the best.
use Rattle.std.specs.Prelude.{ℕ, ◌+◌, ◌*◌, ◌≤◌, List, length, replicate, Result, Ok, Err}
use Rattle.quorum_set.specs.Coteries.{QuorumSystem}
use Rattle.certificate.specs.Bounds.{bound_of}
use Rattle.certificate.specs.Certificates.{Weighted, load_of}

-- weight 1 for each quorum
abbrev pub ones_of : QuorumSystem → List ℕ
ones_of s = replicate (length s.quorums) 1

-- the load is at most this many millionths of the bound above the bound
abbrev pub IsWithin : ℕ → Weighted → Type 0
IsWithin millionths w =
    (load_of w).0 * (bound_of w).1 * 1000000 ≤ (bound_of w).0 * (load_of w).1 * (1000000 + millionths)

-- this holds of the weights, whether they are `Ok` or `Err`
abbrev pub HoldsOfEither : (Weighted → Type 0) → Result Weighted Weighted → Type 0
HoldsOfEither holds (Ok w) = holds w
HoldsOfEither holds (Err w) = holds w
