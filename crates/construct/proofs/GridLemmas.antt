-- The quorums of a grid are a coterie.
use Rattle.std.proofs.Common.{◌≡◌, ◌⊎◌, ℕ, ◌+◌, ◌*◌, ◌/◌, ◌%◌, ◌<◌, ◌≤◌, true, false, ◌||◌, ◌&&◌, eqb, ltb, [], length, get_or, sym, refl, ap, ap₂, ◌∙◌, inl, inr, arith}
use Rattle.std.proofs.lemmas.Bool.{eq-eqb, ne_eqb, lt-ltb, ltb-true, and_parts, or_from, or_left, or_right, cases_eq}
use Rattle.std.proofs.lemmas.Nat.{mul-add-lt, div-mul-add, mod-mul-add, div-add-mod', mod_below, div_below, mul-le}
use Rattle.std.proofs.lemmas.List.FromFn.{get_or-map-range_with_len, length-map-range_with_len}
use Rattle.numbers.specs.Sets.{has}
use Rattle.quorum_set.specs.Coteries.{IsCoterie}
use Rattle.numbers.proofs.SetLemmas.{has-set_where}
use Rattle.construct.specs.Grid.{row_with_column, grid_quorums, grid_system}
use Rattle.construct.proofs.Quorums.{IsQuorum, IsCrossing, IsCoterie-from, IsCrossing-from, IsQuorum-where, All-range, AllPairs-range}

cell_below : (r c a b : ℕ) → a < r → b < c → a * c + b < r * c
cell_below r c a b row column = omega (arith, mul-add-lt a c b r row column)

-- the voter in row a and column b is a member where its row is row i or its column is column k
has-cell : (r c i k a b : ℕ) → r * c ≤ 64 → a < r → b < c → has (row_with_column r c i k) (a * c + b) ≡ (eqb a i || eqb b k)
has-cell r c i k a b few row column =
    let below = cell_below r c a b row column in
    has-set_where (λ v. ltb v (r * c) && (eqb (v / c) i || eqb (v % c) k)) (a * c + b) (omega (arith, below))
    ∙ ap (λ t. t && (eqb ((a * c + b) / c) i || eqb ((a * c + b) % c) k)) (lt-ltb _ _ below)
    ∙ ap₂ (λ x y. eqb x i || eqb y k) (div-mul-add a c b column) (mod-mul-add a c b column)

-- one of two or more numbers that is not k
other_than : (n k : ℕ) → 2 ≤ n → (b : ℕ) × (b < n) × (b ≡ k → ⊥)
other_than n k two =
    elim (cases_eq k 0) [
      | inl at ↦ (1, omega arith, λ e. omega arith)
      | inr off ↦ (0, omega arith, λ e. off (sym e))
    ]

-- crosses at different places: a voter of the one that is not in the other
row_with_column-has_other : (r c i k x y : ℕ) → 2 ≤ r → 2 ≤ c → r * c ≤ 64 → i < r → k < c → (i ≡ x → ⊥) ⊎ (k ≡ y → ⊥)
    → (v : ℕ) × (has (row_with_column r c i k) v ≡ true) × (has (row_with_column r c x y) v ≡ false)
row_with_column-has_other r c i k x y rows columns few row column (inl differ) =
    let (b, below, off) = other_than c y columns in (
      i * c + b,
      has-cell r c i k i b few row below ∙ or_left (eqb i i) (eqb b k) (eq-eqb i i refl),
      has-cell r c x y i b few row below ∙ or_from (eqb i x) (eqb b y) (ne_eqb i x differ) (ne_eqb b y off),
    )
row_with_column-has_other r c i k x y rows columns few row column (inr differ) =
    let (a, below, off) = other_than r x rows in (
      a * c + k,
      has-cell r c i k a k few below column ∙ or_right (eqb a i) (eqb k k) (eq-eqb k k refl),
      has-cell r c x y a k few below column ∙ or_from (eqb a x) (eqb k y) (ne_eqb a x off) (ne_eqb k y differ),
    )

differ-sym : (i k x y : ℕ) → (i ≡ x → ⊥) ⊎ (k ≡ y → ⊥) → (x ≡ i → ⊥) ⊎ (y ≡ k → ⊥)
differ-sym i k x y (inl differ) = inl (λ e. differ (sym e))
differ-sym i k x y (inr differ) = inr (λ e. differ (sym e))

IsCrossing-row_with_column : (r c i k x y : ℕ) → 2 ≤ r → 2 ≤ c → r * c ≤ 64 → i < r → k < c → x < r → y < c → (i ≡ x → ⊥) ⊎ (k ≡ y → ⊥)
    → IsCrossing (row_with_column r c i k) (row_with_column r c x y)
IsCrossing-row_with_column r c i k x y rows columns few row column row2 column2 differ =
    let (v, v_in, v_out) = row_with_column-has_other r c i k x y rows columns few row column differ in
    let (w, w_in, w_out) = row_with_column-has_other r c x y i k rows columns few row2 column2 (differ-sym i k x y differ) in
    IsCrossing-from (row_with_column r c i k) (row_with_column r c x y) (i * c + y) v w
    (has-cell r c i k i y few row column2 ∙ or_left (eqb i i) (eqb y k) (eq-eqb i i refl))
    (has-cell r c x y i y few row column2 ∙ or_right (eqb i x) (eqb y y) (eq-eqb y y refl))
    v_in v_out w_in w_out

-- different voters differ in their rows or in their columns
places_differ : (c j l : ℕ) → j < l → (j / c ≡ l / c → ⊥) ⊎ (j % c ≡ l % c → ⊥)
places_differ c j l before =
    elim (cases_eq (j / c) (l / c)) [
      | inr rows ↦ inl rows
      | inl row ↦ inr (λ column.
          let same : j / c * c + j % c ≡ l / c * c + l % c = ap₂ (λ a b. a * c + b) row column in
          omega (arith, same, div-add-mod' j c, div-add-mod' l c))
    ]

pub grid_is_coterie : (r c : ℕ) → 2 ≤ r → 2 ≤ c → r * c ≤ 64 → IsCoterie (grid_system r c)
unfolding grid_quorums
grid_is_coterie r c rows columns few =
    let four = mul-le 2 2 r c rows columns in
    let quorum_at = λ (j : ℕ). row_with_column r c (j / c) (j % c) in
    let long = length-map-range_with_len quorum_at 0 (r * c) in
    IsCoterie-from (r * c) (grid_quorums r c) (omega (arith, four)) few (omega (arith, four, long)) (omega (arith, long))
    (All-range (IsQuorum (r * c)) quorum_at 0 (r * c) (λ j from lt.
    let inside : j < r * c = omega arith in
    IsQuorum-where (r * c) (λ v. ltb v (r * c) && (eqb (v / c) (j / c) || eqb (v % c) (j % c))) j (omega arith)
    (ap₂ (λ a b. a && b) (lt-ltb j (r * c) inside) (or_left (eqb (j / c) (j / c)) (eqb (j % c) (j % c)) (eq-eqb (j / c) (j / c) refl)))
    (λ v small passes. ltb-true v (r * c) (and_parts (ltb v (r * c)) (eqb (v / c) (j / c) || eqb (v % c) (j % c)) passes).0)))
    (AllPairs-range IsCrossing quorum_at 0 (r * c) (λ j l from before lt.
    let some : 0 < c = omega arith in
    IsCrossing-row_with_column r c (j / c) (j % c) (l / c) (l % c) rows columns few (div_below j c r some (omega arith)) (mod_below j c some)
    (div_below l c r some (omega arith)) (mod_below l c some) (places_differ c j l before)))

pub length-grid_quorums : (r c : ℕ) → length (grid_quorums r c) ≡ r * c
unfolding grid_quorums
length-grid_quorums r c = length-map-range_with_len (λ j. row_with_column r c (j / c) (j % c)) 0 (r * c)

pub grid_quorums-at : (r c i k : ℕ) → i < r → k < c → get_or (grid_quorums r c) (i * c + k) [] ≡ row_with_column r c i k
unfolding grid_quorums
grid_quorums-at r c i k row column =
    get_or-map-range_with_len (λ j. row_with_column r c (j / c) (j % c)) 0 (r * c) (i * c + k) (i * c + k) [] (cell_below r c i k row column) (omega arith)
    ∙ ap₂ (row_with_column r c) (div-mul-add i c k column) (mod-mul-add i c k column)
