-- Laws of the first fault: it is absent exactly at a coterie, and its pair is the least.
use Rattle.std.proofs.Common.{◌≡◌, ℕ, ◌+◌, ◌<◌, ◌≤◌, ◌⊎◌, Bool, true, false, cond, eqb, ltb, List, [], ◌∷◌, length, get_or, zero, suc, sym, refl, ap, subst, ◌∙◌, inl, inr, arith, Option, None, Some}
use Rattle.std.proofs.lemmas.Bool.{cases_lt, true≢false, lt-leb, le-ltb, ne_eqb, not_from_true, or_from}
use Rattle.std.proofs.lemmas.List.Elements.{All-head, All-tail}
use Rattle.std.proofs.lemmas.List.Quantifiers.{position-Some}
use Rattle.std.specs.List.{All, AllPairs, position}
use Rattle.std.specs.Option.{option_or, option_map}
use Rattle.quorum_set.specs.declared.fault.CoterieFault.TheVariants.{NoVoters, TooManyVoters, NoQuorums, TooManyQuorums, EmptyQuorum, VoterOutOfRange, Disjoint, Contained}
use Rattle.quorum_set.specs.Coteries.{IsCoterie, first_from, first_outside, first_pair, are_disjoint, is_one_within, fault_if, first_fault, IsLeastPair}
use Rattle.numbers.proofs.Options.{position-None}

-- with the pairs counted from d on
abbrev LeastFrom : (List ℕ → List ℕ → Bool) → ℕ → List (List ℕ) → ℕ × ℕ → Type 0
LeastFrom test d sets p = (j : ℕ) × (k : ℕ) × (p.0 ≡ d + j) × (p.1 ≡ d + k) × IsLeastPair test sets j k

pub some_parts : (a b : ℕ) (p : ℕ × ℕ) → Some (a, b) ≡ Some p → (p.0 ≡ a) × (p.1 ≡ b)
some_parts a b p e = (cc, cc)

-- one set before the others, where no later one passes with it, and where the one at i is the first
none_with : (test : List ℕ → List ℕ → Bool) (s : List ℕ) (sets : List (List ℕ)) (j k : ℕ) → All (λ x. test s x ≡ false) sets → IsLeastPair test sets j k → IsLeastPair test (s ∷ sets) (suc j) (suc k)
none_with test s sets j k all least = (omega (arith, least.0), omega (arith, least.1), least.2, below)
  where
    below : (a b : ℕ) → a < b → b < length (s ∷ sets) → test (get_or (s ∷ sets) a []) (get_or (s ∷ sets) b []) ≡ true → (suc j < a) ⊎ ((suc j ≡ a) × (suc k ≤ b))
    below zero zero ab lt passes = absurd (omega arith)
    below zero (suc b) ab lt passes = absurd (true≢false (sym passes ∙ all b [] (omega arith)))
    below (suc a) zero ab lt passes = absurd (omega arith)
    below (suc a) (suc b) ab lt passes =
        elim (least.3 a b (omega arith) (omega arith) passes) [
          | inl before ↦ inl (omega arith)
          | inr same ↦ inr (ap suc same.0, omega (arith, same.1))
        ]

one_with : (test : List ℕ → List ℕ → Bool) (s : List ℕ) (sets : List (List ℕ)) (i : ℕ) → i < length sets → test s (get_or sets i []) ≡ true → ((k : ℕ) → k < i → test s (get_or sets k []) ≡ false)
    → IsLeastPair test (s ∷ sets) 0 (suc i)
one_with test s sets i lt passes fails = (omega arith, omega arith, passes, first)
  where
    first : (a b : ℕ) → a < b → b < length (s ∷ sets) → test (get_or (s ∷ sets) a []) (get_or (s ∷ sets) b []) ≡ true → (0 < a) ⊎ ((0 ≡ a) × (suc i ≤ b))
    first zero zero ab lower both = absurd (omega arith)
    first zero (suc b) ab lower both =
        elim (cases_lt b i) [
          | inl early ↦ absurd (true≢false (sym both ∙ fails b early))
          | inr late ↦ inr (refl, omega arith)
        ]
    first (suc a) b ab lower both = inl (omega arith)

least_step : (test : List ℕ → List ℕ → Bool) (d : ℕ) (s : List ℕ) (sets : List (List ℕ)) (p : ℕ × ℕ) (o : Option ℕ) → position (test s) sets ≡ o
    → (first_pair test (d + 1) sets ≡ Some p → LeastFrom test (d + 1) sets p)
    → option_or (option_map (λ k. (d, d + 1 + k)) o) (first_pair test (d + 1) sets) ≡ Some p → LeastFrom test d (s ∷ sets) p
least_step test d s sets p None none later h =
    let found = later h in
    (suc found.0, suc found.1, omega (arith, found.2), omega (arith, found.3), none_with test s sets found.0 found.1 (position-None (test s) sets none) found.4)
least_step test d s sets p (Some i) at later h =
    let found = position-Some (test s) sets i [] at in
    let parts = some_parts d (d + 1 + i) p h in
    (0, suc i, omega (arith, parts.0), omega (arith, parts.1), one_with test s sets i found.0 found.1 found.2)

least_from : (test : List ℕ → List ℕ → Bool) (d : ℕ) (sets : List (List ℕ)) (p : ℕ × ℕ) → first_pair test d sets ≡ Some p → LeastFrom test d sets p
least_from test d [] p e = cc
least_from test d (s ∷ sets) p e = least_step test d s sets p (position (test s) sets) refl (least_from test (d + 1) sets p) e

-- the pair that is found is the least
pub IsLeastPair-first_pair : (test : List ℕ → List ℕ → Bool) (sets : List (List ℕ)) (j k : ℕ) → first_pair test 0 sets ≡ Some (j, k) → IsLeastPair test sets j k
IsLeastPair-first_pair test sets j k e =
    let found = least_from test 0 sets (j, k) e in
    let at_j : found.0 ≡ j = omega (arith, found.2) in
    let at_k : found.1 ≡ k = omega (arith, found.3) in
    subst (λ n. IsLeastPair test sets n k) at_j (subst (λ n. IsLeastPair test sets found.0 n) at_k found.4)

-- no place passes
pub position-nil : {A : Type 0} (p : A → Bool) (xs : List A) → All (λ x. p x ≡ false) xs → position p xs ≡ None
position-nil p [] all = refl
position-nil p (x ∷ xs) all = by (position p (x ∷ xs)) refl
  where
    by : (o : Option ℕ) → position p (x ∷ xs) ≡ o → o ≡ None
    by None e = refl
    by (Some i) e = let at = position-Some p (x ∷ xs) i x e in absurd (true≢false (sym at.1 ∙ all i x at.0))

first_from-below : (n : ℕ) (s : List ℕ) → All (λ i. i < n) s → first_from n s ≡ None
first_from-below n [] all = refl
first_from-below n (i ∷ s) all = ap (λ b. cond b (Some i) (first_from n s)) (lt-leb n i (All-head (λ i. i < n) i s all)) ∙ first_from-below n s (All-tail (λ i. i < n) i s all)

first_outside-inside : (n j : ℕ) (sets : List (List ℕ)) → All (λ s. All (λ i. i < n) s) sets → first_outside n j sets ≡ None
first_outside-inside n j [] all = refl
first_outside-inside n j (s ∷ sets) all =
    ap (λ o. option_or (option_map (λ i. (j, i)) o) (first_outside n (j + 1) sets)) (first_from-below n s (All-head (λ s. All (λ i. i < n) s) s sets all))
    ∙ first_outside-inside n (j + 1) sets (All-tail (λ s. All (λ i. i < n) s) s sets all)

first_pair-nil : (test : List ℕ → List ℕ → Bool) (j : ℕ) (sets : List (List ℕ)) → AllPairs (λ q r. test q r ≡ false) sets → first_pair test j sets ≡ None
first_pair-nil test j [] all = refl
first_pair-nil test j (s ∷ sets) all =
    ap (λ o. option_or (option_map (λ k. (j, j + 1 + k)) o) (first_pair test (j + 1) sets)) (position-nil (test s) sets (λ k d lt. all 0 (suc k) d (omega arith) (omega arith)))
    ∙ first_pair-nil test (j + 1) sets (λ a b d ab lt. all (suc a) (suc b) d (omega arith) (omega arith))

eight_none : (F : Type 0) (a b c d e f g h : Option F) → a ≡ None → b ≡ None → c ≡ None → d ≡ None → e ≡ None → f ≡ None → g ≡ None → h ≡ None
    → option_or a (option_or b (option_or c (option_or d (option_or e (option_or f (option_or g h)))))) ≡ None
eight_none F a b c d e f g h na nb nc nd ne nf ng nh = rw (na, nb, nc, nd, ne, nf, ng, nh) refl

-- a coterie has no fault
pub first_fault-IsCoterie : (n : ℕ) (sets : List (List ℕ)) → IsCoterie (record { voters = n; quorums = sets }) → first_fault n sets ≡ None
first_fault-IsCoterie n sets h =
    let some_voter : n ≡ 0 → ⊥ = λ e. omega (arith, h.some_voter) in
    let some_quorum : length sets ≡ 0 → ⊥ = λ e. omega (arith, h.some_quorum) in
    eight_none _ (fault_if (eqb n 0) NoVoters) (fault_if (ltb 64 n) TooManyVoters) (fault_if (eqb (length sets) 0) NoQuorums)
    (fault_if (ltb 4096 (length sets)) TooManyQuorums) (option_map EmptyQuorum (position (λ s. eqb (length s) 0) sets))
    (option_map (λ p. VoterOutOfRange p.0 p.1) (first_outside n 0 sets)) (option_map (λ p. Disjoint p.0 p.1) (first_pair are_disjoint 0 sets))
    (option_map (λ p. Contained p.0 p.1) (first_pair is_one_within 0 sets))
    (ap (λ b. fault_if b NoVoters) (ne_eqb n 0 some_voter)) (ap (λ b. fault_if b TooManyVoters) (le-ltb 64 n h.few_voters))
    (ap (λ b. fault_if b NoQuorums) (ne_eqb (length sets) 0 some_quorum)) (ap (λ b. fault_if b TooManyQuorums) (le-ltb 4096 (length sets) h.few_quorums))
    (ap (option_map EmptyQuorum) (position-nil (λ s. eqb (length s) 0) sets (λ k d lt. ne_eqb (length (get_or sets k d)) 0 (λ e. omega (arith, h.not_empty k d lt)))))
    (ap (option_map (λ p. VoterOutOfRange p.0 p.1)) (first_outside-inside n 0 sets h.in_range))
    (ap (option_map (λ p. Disjoint p.0 p.1)) (first_pair-nil are_disjoint 0 sets (λ a b d ab lt. not_from_true _ (h.meets a b d ab lt))))
    (ap (option_map (λ p. Contained p.0 p.1)) (first_pair-nil is_one_within 0 sets (λ a b d ab lt. or_from _ _ (h.apart a b d ab lt).0 (h.apart a b d ab lt).1)))
