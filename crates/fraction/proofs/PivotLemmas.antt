-- Lemmas on the rows of a pivot: those above its row, its row, and those below.
use Rattle.std.proofs.Common.{◌≡◌, ◌≢◌, ℕ, ◌+◌, ◌-◌, ◌*◌, ◌/◌, ◌<◌, ℤ, pos, negsuc, ◌*ℤ◌, ◌<ℤ◌, unsigned_abs, List, [], ◌∷◌, ◌++◌, length, get_or, suc, sym, refl, subst, ap, ◌∙◌, inl, inr, arith, Vec}
use Rattle.std.specs.declared.alloc.Global.{Global}
use Rattle.std.specs.Int.{◌∣◌}
use Rattle.std.proofs.lemmas.Bool.{cases_lt, cases_eq, eq-eqb, ne_eqb}
use Rattle.std.proofs.lemmas.List.{get_or_append_left, get_or-append-add, map-append, length-append, length-map}
use Rattle.std.proofs.Math.Seq.{get_or-append_seam}
use Rattle.std.proofs.Math.ListN.{set}
use Rattle.std.proofs.lemmas.Int.{ints, unsigned_abs-mul}
use Rattle.std.proofs.lemmas.Nat.Gcd.{dvd_antisymm}
use Rattle.std.proofs.Math.Nat.{one-dvd, eq-zero_of_zero-dvd, mul-dvd-mul_left, dvd_of_mul-dvd-mul_left, mul-div_cancel', mul_comm}
use Rattle.fraction.specs.Fractions.{Fits}
use Rattle.fraction.specs.Tables.{Table, PivotFits, pivot_entry, row_of}
use Rattle.fraction.specs.Rows.{lists_of, row_at, entry_of, combine_entry, EachFits, EliminateFits, IsEliminated, AllEliminateFit, EachRow, IsDivided, IsDivisorOfAll, IsLevelWith}
use Rattle.fraction.specs.Rows.{OthersFit, IsUnreduced, IsLowest}
use Rattle.fraction.proofs.Lowest.{unsigned_abs-some, positive-some}

-- a list of one element
cons-from_length_one : (own : List (Vec ℤ Global)) (d : Vec ℤ Global) → length own ≡ 1 → own ≡ get_or own 0 d ∷ []
cons-from_length_one [] d e = absurd (omega arith)
cons-from_length_one (x ∷ []) d e = refl
cons-from_length_one (x ∷ y ∷ xs) d e = absurd (omega arith)

pub set-from_length_one : (own : List (Vec ℤ Global)) (v : Vec ℤ Global) → length own ≡ 1 → set own 0 v ≡ v ∷ []
set-from_length_one [] v e = absurd (omega arith)
set-from_length_one (x ∷ []) v e = refl
set-from_length_one (x ∷ y ∷ xs) v e = absurd (omega arith)

-- the entries of rows that are parted at one of them
pub lists_of-parted : (rows above rest own below : List (Vec ℤ Global)) (first : Vec ℤ Global) → rows ≡ above ++ rest → rest ≡ own ++ below → own ≡ first ∷ []
    → lists_of rows ≡ lists_of above ++ (first.items ∷ lists_of below)
lists_of-parted rows above rest own below first e f g =
    ap lists_of (e ∙ ap (λ r. above ++ r) (f ∙ ap (λ o. o ++ below) g)) ∙ map-append (λ row. row.items) above (first ∷ below)

-- Rows: those above a row, the row, and those below.
pub record IsParted (L A B : List (List ℤ)) (p : List ℤ) (row : ℕ) : Type 0 where
  pub whole : L ≡ A ++ (p ∷ B)
  pub count : length A ≡ row

pub IsParted-split : (rows above rest own below : List (Vec ℤ Global)) (d : Vec ℤ Global) (row : ℕ) → rows ≡ above ++ rest → length above ≡ row → rest ≡ own ++ below → length own ≡ 1
    → IsParted (lists_of rows) (lists_of above) (lists_of below) (get_or own 0 d).items row
IsParted-split rows above rest own below d row e n f one = record {
  whole = lists_of-parted rows above rest own below (get_or own 0 d) e f (cons-from_length_one own d one);
  count = length-map above (λ row. row.items) ∙ n;
}

pub row_at-row : (L A B : List (List ℤ)) (p : List ℤ) (row : ℕ) → IsParted L A B p row → row_at L row ≡ p
row_at-row L A B p row parted = ap (λ l. row_at l row) parted.whole ∙ ap (λ i. row_at (A ++ (p ∷ B)) i) (sym parted.count) ∙ get_or-append_seam A p B []

row_at-above : (L A B : List (List ℤ)) (p : List ℤ) (i : ℕ) → L ≡ A ++ (p ∷ B) → i < length A → row_at L i ≡ row_at A i
row_at-above L A B p i e lt = ap (λ l. row_at l i) e ∙ get_or_append_left A (p ∷ B) [] i lt

row_at-below : (L A B : List (List ℤ)) (p : List ℤ) (k : ℕ) → L ≡ A ++ (p ∷ B) → row_at L (length A + suc k) ≡ row_at B k
row_at-below L A B p k e = ap (λ l. row_at l (length A + suc k)) e ∙ get_or-append-add A (p ∷ B) (suc k) []

count_of : (L A B : List (List ℤ)) (p : List ℤ) → L ≡ A ++ (p ∷ B) → length L ≡ length A + suc (length B)
count_of L A B p e = ap length e ∙ length-append A (p ∷ B)

-- the same fact of equal rows and scales
pub EliminateFits-as : (r r' p p' : List ℤ) (s s' : ℤ) (col : ℕ) → r ≡ r' → p ≡ p' → s ≡ s' → EliminateFits r s p col → EliminateFits r' s' p' col
EliminateFits-as r r' p p' s s' col er ep es fits =
    subst (λ x. EliminateFits x s' p' col) er (subst (λ x. EliminateFits r s' x col) ep (subst (λ x. EliminateFits r x p col) es fits))

pub AllEliminateFit-as : (A : List (List ℤ)) (p p' : List ℤ) (s s' : ℤ) (col : ℕ) → p' ≡ p → s' ≡ s → AllEliminateFit A s p col → AllEliminateFit A s' p' col
AllEliminateFit-as A p p' s s' col ep es fits = subst (λ x. AllEliminateFit A x p' col) (sym es) (subst (λ x. AllEliminateFit A s x col) (sym ep) fits)

pub EachRow-IsEliminated_as : (A A' : List (List ℤ)) (p p' : List ℤ) (s s' : ℤ) (col : ℕ) → p' ≡ p → s' ≡ s → EachRow (λ old new. IsEliminated old new s' p' col) A A'
    → EachRow (λ old new. IsEliminated old new s p col) A A'
EachRow-IsEliminated_as A A' p p' s s' col ep es is = subst (λ x. EachRow (λ old new. IsEliminated old new s x col) A A') ep
    (subst (λ x. EachRow (λ old new. IsEliminated old new x p' col) A A') es is)

-- a row that was scaled, of equal rows and factors
pub scaled_row-equal : (new old new' old' : List ℤ) (den den' : ℤ) → new ≡ new' → old' ≡ old → den' ≡ den → ((j : ℕ) → j < length old' → entry_of new' j ≡ entry_of old' j *ℤ den')
    → (j : ℕ) → j < length old → entry_of new j ≡ entry_of old j *ℤ den
scaled_row-equal new old new' old' den den' en eo ed is j lt =
    ap (λ r. entry_of r j) en ∙ is j (subst (λ r. j < length r) (sym eo) lt) ∙ ap (λ r. entry_of r j *ℤ den') eo ∙ ap (λ d. entry_of old j *ℤ d) ed

-- the parts of what fits
pub PivotFits-from_parts : (L : List (List ℤ)) (den : ℤ) (row col : ℕ) → Fits (den *ℤ entry_of (row_at L row) col) → EachFits (row_at L row) den
    → OthersFit L (entry_of (row_at L row) col) row col → PivotFits (record { rows = L; den = den }) row col
PivotFits-from_parts L den row col at own others = record { den = at; pivot_row = λ j place. own j place.1; others = λ i j ne place. others i place.0 ne j place.1 }

pub OthersFit-PivotFits : (L : List (List ℤ)) (den : ℤ) (row col : ℕ) → PivotFits (record { rows = L; den = den }) row col → OthersFit L (entry_of (row_at L row) col) row col
OthersFit-PivotFits L den row col fits = λ i lt ne j within. fits.others i j ne (lt, within)

-- what the pivot forms of another row fits
row_fits : (L : List (List ℤ)) (r p : List ℤ) (den : ℤ) (row col i : ℕ) → row_at L row ≡ p → row_at L i ≡ r → i < length L → i ≢ row → PivotFits (record { rows = L; den = den }) row col
    → EliminateFits r (entry_of p col) p col
row_fits L r p den row col i ep er lt ne fits =
    subst (λ r. EliminateFits r (entry_of p col) p col) er (subst (λ q. EliminateFits (row_at L i) (entry_of q col) q col) ep (λ j within. fits.others i j ne (lt, within)))

pub AllEliminateFit-above : (L A B : List (List ℤ)) (p : List ℤ) (den : ℤ) (row col : ℕ) → IsParted L A B p row → IsLevelWith L row → col < length (row_at L row)
    → PivotFits (record { rows = L; den = den }) row col → AllEliminateFit A (entry_of p col) p col
AllEliminateFit-above L A B p den row col parted level within fits = λ i lt.
    let many = count_of L A B p parted.whole in
    let own = row_at-row L A B p row parted in
    let this = row_at-above L A B p i parted.whole lt in
    let inside : i < length L = omega arith in
    let ne : i ≢ row = omega arith in
    (ap length (sym this) ∙ level i inside ∙ ap length own, subst (λ r. col < length r) own within, row_fits L (row_at A i) p den row col i own this inside ne fits)

pub AllEliminateFit-below : (L A B : List (List ℤ)) (p : List ℤ) (den : ℤ) (row col : ℕ) → IsParted L A B p row → IsLevelWith L row → col < length (row_at L row)
    → PivotFits (record { rows = L; den = den }) row col → AllEliminateFit B (entry_of p col) p col
AllEliminateFit-below L A B p den row col parted level within fits = λ k lt.
    let many = count_of L A B p parted.whole in
    let own = row_at-row L A B p row parted in
    let this = row_at-below L A B p k parted.whole in
    let inside : length A + suc k < length L = omega arith in
    let ne : length A + suc k ≢ row = omega arith in
    (ap length (sym this) ∙ level (length A + suc k) inside ∙ ap length own, subst (λ r. col < length r) own within, row_fits L (row_at B k) p den row col (length A + suc k) own this inside ne fits)

pub EachFits-pivot_row : (L A B : List (List ℤ)) (p : List ℤ) (den : ℤ) (row col : ℕ) → IsParted L A B p row → PivotFits (record { rows = L; den = den }) row col → EachFits p den
EachFits-pivot_row L A B p den row col parted fits =
    let many = count_of L A B p parted.whole in
    let inside : row < length L = omega arith in
    subst (λ r. EachFits r den) (row_at-row L A B p row parted) (λ j within. fits.pivot_row j (inside, within))

-- a row that lost the pivot's row has the numbers of the pivot
other_is : (t : Table) (old new p : List ℤ) (row col i : ℕ) → row_of t row ≡ p → row_of t i ≡ old → i ≢ row → IsEliminated old new (entry_of p col) p col
    → (length new ≡ length (row_of t i)) × ((j : ℕ) → j < length (row_of t i) → entry_of new j ≡ pivot_entry t row col i j)
other_is t old new p row col i ep er ne is =
    (is.0 ∙ ap length (sym er), λ j lt. is.1 j (subst (λ r. j < length r) er lt) ∙ sym (at j))
  where
    at : (j : ℕ) → pivot_entry t row col i j ≡ combine_entry old (entry_of p col) p (entry_of old col) j
    at j = rw (ne_eqb i row ne, er, ep) refl

-- the pivot's row, scaled, has the numbers of the pivot
own_is : (t : Table) (new p : List ℤ) (row col i : ℕ) → row_of t row ≡ p → i ≡ row → length new ≡ length p → ((j : ℕ) → j < length p → entry_of new j ≡ entry_of p j *ℤ t.den)
    → (length new ≡ length (row_of t i)) × ((j : ℕ) → j < length (row_of t i) → entry_of new j ≡ pivot_entry t row col i j)
own_is t new p row col i ep ei same is =
    let this : row_of t i ≡ p = ap (row_of t) ei ∙ ep in
    (same ∙ ap length (sym this), λ j lt. is j (subst (λ r. j < length r) this lt) ∙ sym (at j))
  where
    at : (j : ℕ) → pivot_entry t row col i j ≡ entry_of p j *ℤ t.den
    at j = rw (eq-eqb i row ei, ep) refl

pub IsUnreduced-from_rows : (L M A B A' B' : List (List ℤ)) (p p' : List ℤ) (den : ℤ) (row col : ℕ) → IsParted L A B p row → M ≡ A' ++ (p' ∷ B')
    → EachRow (λ old new. IsEliminated old new (entry_of p col) p col) A A' → EachRow (λ old new. IsEliminated old new (entry_of p col) p col) B B' → length p' ≡ length p
    → ((j : ℕ) → j < length p → entry_of p' j ≡ entry_of p j *ℤ den) → IsUnreduced (record { rows = L; den = den }) M row col
IsUnreduced-from_rows L M A B A' B' p p' den row col parted f above below same own =
    let many = count_of L A B p parted.whole in
    let many' = count_of M A' B' p' f in
    let counts = above.0 in
    let rests = below.0 in
    record {
      count = omega arith;
      entries = λ i lt. elim (cases_lt i (length A)) [
        | inl before ↦
            subst (λ r. Right i r) (sym (row_at-above M A' B' p' i f (omega arith)))
            (other_is t (row_at A i) (row_at A' i) p row col i (row_at-row L A B p row parted) (row_at-above L A B p i parted.whole before) (omega arith) (above.1 i before))
        | inr after ↦ elim (cases_eq i (length A)) [
          | inl at ↦
              subst (λ r. Right i r) (sym (row_at-row M A' B' p' i (record { whole = f; count = counts ∙ sym at })))
              (own_is t p' p row col i (row_at-row L A B p row parted) (at ∙ parted.count) same own)
          | inr off ↦
              let k : ℕ = i - suc (length A) in
              let place : i ≡ length A + suc k = omega arith in
              let place' : i ≡ length A' + suc k = omega arith in
              subst (λ r. Right i r) (sym (ap (row_at M) place' ∙ row_at-below M A' B' p' k f))
              (other_is t (row_at B k) (row_at B' k) p row col i (row_at-row L A B p row parted) (ap (row_at L) place ∙ row_at-below L A B p k parted.whole) (omega arith) (below.1 k (omega arith)))
        ]
      ];
    }
  where
    t : Table
    t = record { rows = L; den = den }

    Right : ℕ → List ℤ → Type 0
    Right i r = (length r ≡ length (row_of t i)) × ((j : ℕ) → j < length (row_of t i) → entry_of r j ≡ pivot_entry t row col i j)

-- a divisor of a number that is not 0 is not 0
pub divisor-some : (den : ℤ) (size g : ℕ) → size ≡ unsigned_abs den → pos 0 <ℤ den → g ∣ size → 0 < g
divisor-some den size g e above divides =
    let size_some = unsigned_abs-some den (positive-some den above) in
    elim (cases_lt 0 g) [
      | inl some ↦ some
      | inr low ↦
          let none : g ≡ 0 = omega arith in
          let gone = eq-zero_of_zero-dvd (subst (λ d. d ∣ size) none divides) in
          absurd (omega arith)
    ]

-- a positive number is its absolute value
positive_is : (z : ℤ) → pos 0 <ℤ z → pos (unsigned_abs z) ≡ z
positive_is (pos n) above = refl
positive_is (negsuc n) above = absurd (omega (arith, ints))

-- numbers that are divided by their greatest common divisor have none but 1
pub IsLowest-divided : (old new : List (List ℤ)) (den low : ℤ) (size g : ℕ) → size ≡ unsigned_abs den → pos 0 <ℤ den → IsDivisorOfAll size old g → EachRow (IsDivided g) old new
    → low ≡ pos (size / g) → IsLowest old new den low
IsLowest-divided old new den low size g e above is rows low_is =
    let some = divisor-some den size g e above is.number in
    record {
      divisor = g;
      positive = some;
      den_is = ap (λ z. z *ℤ pos g) low_is ∙ ap pos (mul_comm (size / g) g ∙ mul-div_cancel' g is.number ∙ e) ∙ positive_is den above;
      rows = rows;
      lowest = λ d at_low at_entries.
          let quotient : d ∣ size / g = subst (λ n. d ∣ n) (ap unsigned_abs low_is) at_low in
          let at_den : g * d ∣ size = subst (λ n. g * d ∣ n) (mul-div_cancel' g is.number) (mul-dvd-mul_left d g quotient) in
          let at_each : (i j : ℕ) → i < length old → j < length (row_at old i) → g * d ∣ unsigned_abs (entry_of (row_at old i) j) = λ i j lt within.
          subst (λ n. g * d ∣ n) (mul_comm g (unsigned_abs (entry_of (row_at new i) j)) ∙ sym (unsigned_abs-mul (entry_of (row_at new i) j) (pos g)) ∙ ap unsigned_abs ((rows.1 i lt).1 j within))
          (mul-dvd-mul_left d g (at_entries i j lt within)) in
          let whole : g * d ∣ g * 1 = subst (λ n. g * d ∣ n) (sym (times_one g)) (is.greatest (g * d) at_den at_each) in
          dvd_antisymm (dvd_of_mul-dvd-mul_left d some whole) (one-dvd d);
    }
  where
    times_one : (g : ℕ) → g * 1 ≡ g
    times_one g = omega arith
