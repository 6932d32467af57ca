-- The member that is no voter's number, and its quorum, are the least.
use Rattle.std.proofs.Common.{◌≡◌, ℕ, ◌+◌, ◌<◌, ◌≤◌, ◌⊎◌, true, false, cond, leb, List, [], ◌∷◌, length, get_or, zero, suc, sym, refl, ap, subst, ◌∙◌, inl, inr, arith, Option, None, Some}
use Rattle.std.proofs.lemmas.Bool.{cases_lt, true≢false, leb-false, leb-true}
use Rattle.std.proofs.lemmas.List.Elements.{All-head, All-tail}
use Rattle.std.specs.List.{All}
use Rattle.std.specs.Option.{option_or, option_map}
use Rattle.numbers.specs.Sets.{has, IsSet, Ascends}
use Rattle.quorum_set.specs.Coteries.{first_from, first_outside, IsLeastStray}
use Rattle.numbers.proofs.SetLemmas.{has-below, has-head, has-tail}

-- the number is a member that is not below n, and the least such
abbrev IsLeastFrom : ℕ → List ℕ → ℕ → Type 0
IsLeastFrom n s i = (has s i ≡ true) × (n ≤ i) × ((k : ℕ) → has s k ≡ true → n ≤ k → i ≤ k)

least_head : (n x : ℕ) (xs : List ℕ) (low high : ℕ) → Ascends low high (x ∷ xs) → n ≤ x → IsLeastFrom n (x ∷ xs) x
least_head n x xs low high h le = (
  has-head x xs,
  le,
  λ k member above.
      elim (cases_lt k x) as (λ _. x ≤ k) [
        | inl below ↦ absurd (true≢false (sym member ∙ has-below x high (x ∷ xs) k (omega arith, h.1, h.2) below))
        | inr from ↦ from
      ],
)

least_tail : (n x : ℕ) (xs : List ℕ) (i : ℕ) → x < n → IsLeastFrom n xs i → IsLeastFrom n (x ∷ xs) i
least_tail n x xs i lt least =
    let off : x ≡ i → ⊥ = λ e. omega (arith, least.1) in
    (has-tail x xs i off ∙ least.0, least.1, λ k member above. least.2 k (sym (has-tail x xs k (λ e. omega arith)) ∙ member) above)

first_from-least : (n low high : ℕ) (s : List ℕ) (i : ℕ) → Ascends low high s → first_from n s ≡ Some i → IsLeastFrom n s i
first_from-least n low high [] i h e = cc
first_from-least n low high (x ∷ xs) i h e =
    elim (leb n x) as (λ b. leb n x ≡ b → cond b (Some x) (first_from n xs) ≡ Some i → IsLeastFrom n (x ∷ xs) i) [
      | true ↦ λ above found. let at : x ≡ i = cc in subst (IsLeastFrom n (x ∷ xs)) at (least_head n x xs low high h (leb-true n x above))
      | false ↦ λ below found. least_tail n x xs i (leb-false n x below) (first_from-least n (x + 1) high xs i h.2 found)
    ] refl e

-- a set with no number from n on has no such member
first_from-no_member : (n : ℕ) (s : List ℕ) (k : ℕ) → first_from n s ≡ None → has s k ≡ true → n ≤ k → ⊥
first_from-no_member n [] k e member above = cc
first_from-no_member n (x ∷ xs) k e member above =
    elim (leb n x) as (λ b. leb n x ≡ b → cond b (Some x) (first_from n xs) ≡ None → ⊥) [
      | true ↦ λ from found. cc
      | false ↦ λ below found.
          let off : x ≡ k → ⊥ = λ same. let lt = leb-false n x below in omega arith in
          first_from-no_member n xs k found (sym (has-tail x xs k off) ∙ member) above
    ] refl e

-- with the sets counted from d on
abbrev LeastFromPlace : ℕ → ℕ → List (List ℕ) → ℕ × ℕ → Type 0
LeastFromPlace n d sets p = (j : ℕ) × (p.0 ≡ d + j) × IsLeastStray n sets j p.1

stray_parts : (d i : ℕ) (p : ℕ × ℕ) → Some (d, i) ≡ Some p → (p.0 ≡ d) × (p.1 ≡ i)
stray_parts d i p e = (cc, cc)

stray_head : (n : ℕ) (s : List ℕ) (sets : List (List ℕ)) (i : ℕ) → IsLeastFrom n s i → IsLeastStray n (s ∷ sets) 0 i
stray_head n s sets i least = (omega arith, least.0, least.1, first)
  where
    first : (a k : ℕ) → a < length (s ∷ sets) → has (get_or (s ∷ sets) a []) k ≡ true → n ≤ k → (0 < a) ⊎ ((0 ≡ a) × (i ≤ k))
    first zero k lt member above = inr (refl, least.2 k member above)
    first (suc a) k lt member above = inl (omega arith)

stray_tail : (n : ℕ) (s : List ℕ) (sets : List (List ℕ)) (j i : ℕ) → first_from n s ≡ None → IsLeastStray n sets j i → IsLeastStray n (s ∷ sets) (suc j) i
stray_tail n s sets j i none least = (omega (arith, least.0), least.1, least.2, first)
  where
    first : (a k : ℕ) → a < length (s ∷ sets) → has (get_or (s ∷ sets) a []) k ≡ true → n ≤ k → (suc j < a) ⊎ ((suc j ≡ a) × (i ≤ k))
    first zero k lt member above = absurd (first_from-no_member n s k none member above)
    first (suc a) k lt member above =
        elim (least.3 a k (omega arith) member above) [
          | inl before ↦ inl (omega arith)
          | inr same ↦ inr (ap suc same.0, same.1)
        ]

stray_step : (n d : ℕ) (s : List ℕ) (sets : List (List ℕ)) (p : ℕ × ℕ) (o : Option ℕ) → IsSet s → first_from n s ≡ o → (first_outside n (d + 1) sets ≡ Some p → LeastFromPlace n (d + 1) sets p)
    → option_or (option_map (λ i. (d, i)) o) (first_outside n (d + 1) sets) ≡ Some p → LeastFromPlace n d (s ∷ sets) p
stray_step n d s sets p None set none later h =
    let found = later h in
    (suc found.0, omega (arith, found.1), stray_tail n s sets found.0 p.1 none found.2)
stray_step n d s sets p (Some i) set at later h =
    let parts = stray_parts d i p h in
    (0, omega (arith, parts.0), subst (IsLeastStray n (s ∷ sets) 0) (sym parts.1) (stray_head n s sets i (first_from-least n 0 64 s i set at)))

stray_from : (n d : ℕ) (sets : List (List ℕ)) (p : ℕ × ℕ) → All IsSet sets → first_outside n d sets ≡ Some p → LeastFromPlace n d sets p
stray_from n d [] p all e = cc
stray_from n d (s ∷ sets) p all e = stray_step n d s sets p (first_from n s) (All-head IsSet s sets all) refl (stray_from n (d + 1) sets p (All-tail IsSet s sets all)) e

-- what is found is the least
pub IsLeastStray-first_outside : (n : ℕ) (sets : List (List ℕ)) (j i : ℕ) → All IsSet sets → first_outside n 0 sets ≡ Some (j, i) → IsLeastStray n sets j i
IsLeastStray-first_outside n sets j i all e =
    let found = stray_from n 0 sets (j, i) all e in
    let at : found.0 ≡ j = omega (arith, found.1) in
    subst (λ k. IsLeastStray n sets k i) at found.2
