-- Lemmas on all rows of a table.
use Rattle.std.proofs.Common.{◌≡◌, ◌≢◌, ℕ, ◌+◌, ◌<◌, ◌≤◌, ℤ, List, [], length, get_or, sym, subst, ap, ◌∙◌, arith, below_more, get_or-set_same, get_or-set_other, Vec}
use Rattle.std.specs.declared.alloc.Global.{Global}
use Rattle.std.proofs.Math.ListN.{set}
use Rattle.std.proofs.lemmas.List.{get_or-map, map-set, length-map}
use Rattle.std.proofs.lemmas.List.{with_items_is}
use Rattle.std.specs.Vec.{with_items}
use Rattle.fraction.specs.Rows.{lists_of, row_at}

-- what is written to a vector as a slice
pub with_items-items : {A : Type 0} (v : Vec A Global) (ws xs : List A) → length ws ≡ length xs → xs ≡ v.items → (with_items v ws).items ≡ ws
with_items-items v ws xs e at = with_items_is v ws (e ∙ ap length at ∙ sym v.ok.0)

-- a row is stored at i: what held of each row below i, and holds of the row, holds of each below i + 1
pub row_at-stored : (P : ℕ → List ℤ → Type 0) (rows : List (Vec ℤ Global)) (i : ℕ) (v : Vec ℤ Global) → i < length rows → ((k : ℕ) → k < i → P k (row_at (lists_of rows) k))
    → P i v.items → (k : ℕ) → k < i + 1 → P k (row_at (lists_of (set rows i v)) k)
row_at-stored P rows i v lt below here =
    let many : length (lists_of rows) ≡ length rows = length-map rows (λ row. row.items) in
    below_more (λ k. P k (row_at (lists_of (set rows i v)) k)) i
    (λ k h. let ne : k ≢ i = omega arith in subst (P k) (sym (at k ∙ get_or-set_other (lists_of rows) i k v.items [] ne)) (below k h))
    (subst (P i) (sym (at i ∙ get_or-set_same (lists_of rows) i v.items [] (omega arith))) here)
  where
    at : (k : ℕ) → row_at (lists_of (set rows i v)) k ≡ row_at (set (lists_of rows) i v.items) k
    at k = ap (λ rs. row_at rs k) (map-set (λ row. row.items) rows i v)

-- the rows above i are as they were
pub row_at-kept : (old : ℕ → List ℤ) (rows : List (Vec ℤ Global)) (i : ℕ) (v : Vec ℤ Global) → ((k : ℕ) → i ≤ k → row_at (lists_of rows) k ≡ old k) → (k : ℕ) → i + 1 ≤ k
    → row_at (lists_of (set rows i v)) k ≡ old k
row_at-kept old rows i v left k le =
    let ne : k ≢ i = omega arith in
    ap (λ rs. row_at rs k) (map-set (λ row. row.items) rows i v) ∙ get_or-set_other (lists_of rows) i k v.items [] ne ∙ left k (omega arith)

-- the entries that a loop reads as a slice, as they were at first
pub row_at-was : (rows : List (Vec ℤ Global)) (old : List (List ℤ)) (i : ℕ) (item : Vec ℤ Global) (now : List ℤ) → i < length rows → now ≡ (get_or rows i item).items
    → ((k : ℕ) → i ≤ k → row_at (lists_of rows) k ≡ row_at old k) → now ≡ row_at old i
row_at-was rows old i item now lt e left = e ∙ sym (get_or-map (λ row. row.items) rows i item [] lt) ∙ left i (omega arith)

-- the row at i is written, as the relation has it
pub row_at-written : (R : List ℤ → List ℤ → Type 0) (old : List (List ℤ)) (rows : List (Vec ℤ Global)) (i : ℕ) (item : Vec ℤ Global) (seen new : List ℤ) → i < length rows
    → seen ≡ (get_or rows i item).items → ((k : ℕ) → i ≤ k → row_at (lists_of rows) k ≡ row_at old k) → ((k : ℕ) → k < i → R (row_at old k) (row_at (lists_of rows) k))
    → length new ≡ length seen → R seen new → (k : ℕ) → k < i + 1 → R (row_at old k) (row_at (lists_of (set rows i (with_items (get_or rows i item) new))) k)
row_at-written R old rows i item seen new lt at left done same is =
    let now = with_items-items (get_or rows i item) new seen same at in
    let was = row_at-was rows old i item seen lt at left in
    row_at-stored (λ k r. R (row_at old k) r) rows i (with_items (get_or rows i item) new) lt done (subst (R (row_at old i)) (sym now) (subst (λ r. R r new) was is))
