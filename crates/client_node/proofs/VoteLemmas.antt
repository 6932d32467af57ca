-- loops over votes
use Rattle.std.proofs.Common.{◌≡◌, ℕ, ◌+◌, ◌≤◌, ◌<◌, List, [], ◌∷◌, ◌++◌, length, suc, zero, take, drop, set, get_or, map, refl, ap, subst, ◌∙◌, Option, Some, None, arith}
use Rattle.vote_leases.specs.declared.lease.VoterLease.{VoterLease}
use Rattle.vote_leases.specs.declared.vote.Vote.{Vote}
use Rattle.client_node.specs.Locks.{earlier, first_end, voter_end}

-- ---- each of a list is changed, from its first on

-- those up to this place are changed, and the rest is to be
abbrev pub changed_to : {X : Type 0} → (X → X) → ℕ → List X → List X
changed_to f i xs = take i xs ++ map f (drop i xs)

changed_next : {X : Type 0} → (f : X → X) (xs : List X) (i : ℕ) (d : X) → i < length xs → changed_to f (suc i) (set xs i (f (get_or xs i d))) ≡ changed_to f i xs
changed_next f [] i d less = absurd (omega arith)
changed_next f (x ∷ xs) zero d less = refl
changed_next f (x ∷ xs) (suc i) d less = ap (λ ys. x ∷ ys) (changed_next f xs i d (omega arith))

pub changed_more : {X : Type 0} → (f : X → X) (xs : List X) (i : ℕ) (d : X) → i < length xs → changed_to f (i + 1) (set xs i (f (get_or xs i d))) ≡ changed_to f i xs
changed_more f xs i d less =
    let is : suc i ≡ i + 1 = (omega arith) in
    subst (λ n. changed_to f n (set xs i (f (get_or xs i d))) ≡ changed_to f i xs) is (changed_next f xs i d less)

pub changed_all : {X : Type 0} → (f : X → X) (xs : List X) (i : ℕ) → length xs ≤ i → changed_to f i xs ≡ xs
changed_all f [] zero most = refl
changed_all f [] (suc i) most = refl
changed_all f (x ∷ xs) zero most = absurd (omega arith)
changed_all f (x ∷ xs) (suc i) most = ap (λ ys. x ∷ ys) (changed_all f xs i (omega arith))

-- ---- the first end of several

swapped : (a b c : Option ℕ) → earlier b (earlier a c) ≡ earlier a (earlier b c)
swapped None None c = refl
swapped None (Some b) c = refl
swapped (Some a) None c = refl
swapped (Some a) (Some b) None = refl
swapped (Some a) (Some b) (Some c) = ap Some (omega arith)

pub earlier_first : (a b c : Option ℕ) → earlier (earlier a b) c ≡ earlier a (earlier b c)
earlier_first None b c = refl
earlier_first (Some a) None c = refl
earlier_first (Some a) (Some b) None = refl
earlier_first (Some a) (Some b) (Some c) = ap Some (omega arith)

pub most_first : (span request : ℕ) (votes : List Vote) (leases : List VoterLease) (voters : List ℕ)
    → earlier (Some 18446744073709551615) (first_end span request votes leases voters) ≡ first_end span request votes leases voters
most_first span request votes leases [] = refl
most_first span request votes leases (voter ∷ voters) =
    let rest = first_end span request votes leases voters in
    swapped (voter_end span request votes leases voter) (Some 18446744073709551615) rest ∙ ap (earlier (voter_end span request votes leases voter)) (most_first span request votes leases voters)
