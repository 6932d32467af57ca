-- Cyclic coteries: a base set of places on a ring, shifted place by place. A perfect difference set
-- gives a finite projective plane (Maekawa, ACM TOCS 3(2), 1985, section 3).
use Rattle.std.specs.Prelude.{ℕ, ◌+◌, ◌%◌, ◌==◌, ◌||◌, Bool, false, not, List, [], ◌∷◌, Result, Ok, Err, length, map, nat_lt}
use Rattle.std.specs.List.{list_any, list_all, range_with_len}
use Rattle.quorum_set.specs.Coteries.{QuorumSystem, coterie_of}
use Rattle.numbers.specs.Bounds.{max_voters}
use Rattle.numbers.specs.Sets.{has, set_where}
use Rattle.quorum_set.specs.declared.fault.CoterieFault.{CoterieFault}
use Rattle.quorum_set.specs.declared.fault.CoterieFault.TheVariants.{Disjoint, Contained}
use Rattle.construct.specs.Answers.{check_sizes}
use Rattle.construct.specs.declared.fault.ConstructFault.{ConstructFault}
use Rattle.construct.specs.declared.fault.ConstructFault.TheVariants.{Coterie}

-- the base, shifted by s places round a ring of n
abbrev pub shift_by : ℕ → List ℕ → ℕ → List ℕ
shift_by n base s = set_where (λ v. list_any (λ x. (x + s) % n == v) base)

-- the base, shifted by each number of places below n
unfoldable pub cyclic_quorums : ℕ → List ℕ → List (List ℕ)
cyclic_quorums n base = map (shift_by n base) (range_with_len 0 n)

-- whether a number is in the list twice
abbrev pub has_repeat : List ℕ → Bool
has_repeat [] = false
has_repeat (x ∷ xs) = has xs x || has_repeat xs

-- whether there is no ring, or the base is empty, or a member of it is no place on the ring
abbrev pub is_off_ring : ℕ → List ℕ → Bool
is_off_ring n base = (n == 0) || (length base == 0) || not (list_all (λ x. nat_lt x n) base)

-- whether there is no ring, or the base is no non-empty set of places on it
abbrev pub is_bad_base : ℕ → List ℕ → Bool
is_bad_base n base = is_off_ring n base || has_repeat base

-- the coterie, or its fault as a fault of a construction
abbrev pub as_construct : Result QuorumSystem CoterieFault → Result QuorumSystem ConstructFault
as_construct (Ok s) = Ok s
as_construct (Err fault) = Err (Coterie fault)

-- the cyclic coterie of the base, or the fault of the numbers, or else the fault of the shifted
-- sets
abbrev pub cyclic_at : ℕ → List ℕ → Result QuorumSystem ConstructFault
cyclic_at voters base =
    check_sizes (is_bad_base voters base) (nat_lt max_voters voters)
    (as_construct (coterie_of voters (cyclic_quorums voters base)))

-- if the fault is one of sets, two of them are disjoint, or one lies within the other
abbrev pub IsCyclicFault : ConstructFault → Type 0
IsCyclicFault (Coterie (Disjoint j k)) = Unit {0}
IsCyclicFault (Coterie (Contained j k)) = Unit {0}
IsCyclicFault (Coterie fault) = ⊥
IsCyclicFault fault = Unit {0}
