-- What is left of weights when voters are down. A client asks whole quorums. If a member of one is
-- down, the client takes its next ticket. So the weights in force are those of the quorums that are
-- left, in their old proportions.
use Rattle.std.specs.Prelude.{ℕ, ◌-◌, ◌<◌, ◌≤◌, Bool, if◌then◌else◌, List, [], ◌∷◌, ◌++◌, length}
use Rattle.std.specs.List.{All}
use Rattle.numbers.specs.Sets.{Ascends, IsSet}
use Rattle.quorum_set.specs.Coteries.{are_disjoint}
use Rattle.failures.specs.Failures.{Bears}
use Rattle.certificate.specs.Certificates.{Weighted, cycle_len, cycle_ratio, load_of}

-- whether no member of the quorum is down
abbrev pub is_left : List ℕ → List ℕ → Bool
is_left down q = are_disjoint down q

-- each quorum's weight, but 0 if the quorum is lost
abbrev pub each_left : List ℕ → List (List ℕ) → List ℕ → List ℕ
each_left down [] weights = []
each_left down (q ∷ qs) [] = []
each_left down (q ∷ qs) (a ∷ weights) = (if is_left down q then a else 0) ∷ each_left down qs weights

-- the same weights, but 0 for each quorum that is lost
abbrev pub weights_left : List ℕ → Weighted → Weighted
weights_left down w = record w { quorum_weights = each_left down w.system.quorums w.quorum_weights }

-- how many tickets of a cycle are left: the sum of the weights of the quorums that are left
abbrev pub tickets_left : List ℕ → Weighted → ℕ
tickets_left down w = cycle_len (weights_left down w)

-- how many tickets of a cycle are lost
abbrev pub tickets_lost : List ℕ → Weighted → ℕ
tickets_lost down w = cycle_len w - tickets_left down w

-- the ratio of what is left of a cycle: how often it uses a voter, divided by the voter's capacity,
-- for the voter of which this is greatest
abbrev pub ratio_left : List ℕ → Weighted → ℕ × ℕ
ratio_left down w = cycle_ratio (weights_left down w)

-- the load of the tickets that are left, in lowest terms: their ratio, divided by their number
abbrev pub load_left : List ℕ → Weighted → ℕ × ℕ
load_left down w = load_of (weights_left down w)

-- some ticket is left without these voters, if a quorum is
abbrev pub KeepsTicket : Weighted → List ℕ → Type 0
KeepsTicket w down = Bears w.system.quorums down → 0 < tickets_left down w

-- this is so without the voters that are down, and at most so many voters more, from this number on
abbrev pub KeepTickets : Weighted → List ℕ → ℕ → ℕ → Type 0
KeepTickets w down first more =
    (others : List ℕ) → Ascends first w.system.voters others → length others ≤ more → KeepsTicket w (others ++ down)

-- each set of at most f voters that leaves a quorum of the coterie leaves one of positive weight
abbrev pub BearsLosses : ℕ → Weighted → Type 0
BearsLosses f w =
    (down : List ℕ) → IsSet down → All (λ i. i < w.system.voters) down → length down ≤ f → KeepsTicket w down
