-- Lists of capacities 1.
use Rattle.std.proofs.Common.{◌≡◌, ℕ, ◌+◌, ◌∷◌, List, map, replicate, zero, suc, refl, ap, sym, ◌∙◌}
use Rattle.std.specs.List.{range_with_len}
use Rattle.quorum_set.specs.Capacities.{unit_capacities}

map-one-range_with_len : (a n : ℕ) → map {B = ℕ} (λ i. 1) (range_with_len a n) ≡ replicate n 1
map-one-range_with_len a zero = refl
map-one-range_with_len a (suc n) = ap (λ (xs : List ℕ). 1 ∷ xs) (map-one-range_with_len (a + 1) n)

-- the number 1, n times
pub unit_capacities_of : (n : ℕ) (xs : List ℕ) → xs ≡ replicate n 1 → xs ≡ unit_capacities n
unit_capacities_of n xs e = e ∙ sym (map-one-range_with_len 0 n)
