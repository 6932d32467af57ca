-- Shifted sets: that they are sets of voters, and repeats in a list.
use Rattle.std.proofs.Common.{◌≡◌, ℕ, ◌+◌, ◌%◌, ◌<◌, ◌≤◌, Bool, true, false, cond, ◌||◌, not, eqb, ltb, List, [], ◌∷◌, ◌++◌, length, get_or, take, drop, sym, refl, ap, ap₂, ◌∙◌}
use Rattle.std.proofs.Common.{inl, inr, arith, Option, None, Some}
use Rattle.std.specs.List.{All, list_any, list_all, position}
use Rattle.std.specs.Option.{option_or, option_map}
use Rattle.std.specs.Result.{IfErr}
use Rattle.std.proofs.lemmas.Bool.{true≢false, eqb-true, eq-eqb, ne_eqb, eqb-false, le-ltb, lt-leb, or_cases, or_parts}
use Rattle.std.proofs.lemmas.Nat.{mod_below}
use Rattle.std.proofs.lemmas.List.{take-append-drop}
use Rattle.std.proofs.lemmas.List.Elements.{All-head, All-tail}
use Rattle.std.proofs.lemmas.List.FromFn.{length-map-range_with_len}
use Rattle.numbers.specs.Sets.{has}
use Rattle.quorum_set.specs.Coteries.{QuorumSystem, first_from, first_outside, first_pair, are_disjoint, is_one_within, fault_if, first_fault, coterie_or, coterie_of}
use Rattle.quorum_set.specs.declared.fault.CoterieFault.TheVariants.{NoVoters, TooManyVoters, NoQuorums, TooManyQuorums, EmptyQuorum, VoterOutOfRange, Disjoint, Contained}
use Rattle.quorum_set.proofs.FaultLaws.{position-nil}
use Rattle.numbers.proofs.SetLemmas.{has-append}
use Rattle.construct.specs.Cyclic.{shift_by, cyclic_quorums, has_repeat, is_bad_base, as_construct, IsCyclicFault}
use Rattle.construct.proofs.Quorums.{IsQuorum, IsQuorum-where, All-range}
use Rattle.construct.proofs.SetLemmas.{eqb_turned}

-- a place on the ring is below n
moved_below : (n s : ℕ) (base : List ℕ) (v : ℕ) → 0 < n → list_any (λ x. eqb ((x + s) % n) v) base ≡ true → v < n
moved_below n s [] v some e = absurd (true≢false (sym e))
moved_below n s (x ∷ xs) v some e =
    elim (or_cases (eqb ((x + s) % n) v) (list_any (λ y. eqb ((y + s) % n) v) xs) e) [
      | inl at ↦ let same = eqb-true ((x + s) % n) v at in omega (arith, mod_below (x + s) n some)
      | inr later ↦ moved_below n s xs v some later
    ]

IsQuorum-shift_by : (n : ℕ) (base : List ℕ) (s : ℕ) → 0 < n → n ≤ 64 → (length base ≡ 0 → ⊥) → IsQuorum n (shift_by n base s)
IsQuorum-shift_by n [] s some few full = absurd (full refl)
IsQuorum-shift_by n (x ∷ xs) s some few full =
    IsQuorum-where n (λ v. list_any (λ y. eqb ((y + s) % n) v) (x ∷ xs)) ((x + s) % n) (omega (arith, mod_below (x + s) n some))
    (ap (λ b. b || list_any (λ y. eqb ((y + s) % n) ((x + s) % n)) xs) (eq-eqb ((x + s) % n) ((x + s) % n) refl))
    (λ v small passes. moved_below n s (x ∷ xs) v some passes)

first_from-none : (n : ℕ) (s : List ℕ) → All (λ v. v < n) s → first_from n s ≡ None
first_from-none n [] all = refl
first_from-none n (x ∷ xs) all =
    ap (λ b. cond b (Some x) (first_from n xs)) (lt-leb n x (All-head (λ v. v < n) x xs all))
    ∙ first_from-none n xs (All-tail (λ v. v < n) x xs all)

none_outside : (n d : ℕ) (sets : List (List ℕ)) → All (IsQuorum n) sets → first_outside n d sets ≡ None
none_outside n d [] all = refl
none_outside n d (s ∷ sets) all =
    ap (λ o. option_or (option_map (λ i. (d, i)) o) (first_outside n (d + 1) sets)) (first_from-none n s (All-head (IsQuorum n) s sets all).in_range)
    ∙ none_outside n (d + 1) sets (All-tail (IsQuorum n) s sets all)

six_none : (F : Type 0) (a b c d e f rest : Option F) → a ≡ None → b ≡ None → c ≡ None → d ≡ None → e ≡ None → f ≡ None
    → option_or a (option_or b (option_or c (option_or d (option_or e (option_or f rest))))) ≡ rest
six_none F a b c d e f rest na nb nc nd ne nf = rw (na, nb, nc, nd, ne, nf) refl

last_faults : (x y : Option (ℕ × ℕ)) (s : QuorumSystem)
    → IfErr (as_construct (coterie_or (option_or (option_map (λ p. Disjoint p.0 p.1) x) (option_map (λ p. Contained p.0 p.1) y)) s)) IsCyclicFault
last_faults None None s = tt
last_faults None (Some p) s = tt
last_faults (Some p) y s = tt

-- sets of voters that are no coterie are so since two are disjoint, or one lies within another
sets_fault : (n : ℕ) (sets : List (List ℕ)) → 0 < n → n ≤ 64 → 0 < length sets → length sets ≤ 4096 → All (IsQuorum n) sets → IfErr (as_construct (coterie_of n sets)) IsCyclicFault
sets_fault n sets some few full short all =
    let last = option_or (option_map (λ p. Disjoint p.0 p.1) (first_pair are_disjoint 0 sets)) (option_map (λ p. Contained p.0 p.1) (first_pair is_one_within 0 sets)) in
    let e : first_fault n sets ≡ last =
    six_none _ (fault_if (eqb n 0) NoVoters) (fault_if (ltb 64 n) TooManyVoters) (fault_if (eqb (length sets) 0) NoQuorums)
    (fault_if (ltb 4096 (length sets)) TooManyQuorums) (option_map EmptyQuorum (position (λ s. eqb (length s) 0) sets))
    (option_map (λ p. VoterOutOfRange p.0 p.1) (first_outside n 0 sets)) last
    (ap (λ b. fault_if b NoVoters) (ne_eqb n 0 (λ e. omega arith))) (ap (λ b. fault_if b TooManyVoters) (le-ltb 64 n few))
    (ap (λ b. fault_if b NoQuorums) (ne_eqb (length sets) 0 (λ e. omega arith))) (ap (λ b. fault_if b TooManyQuorums) (le-ltb 4096 (length sets) short))
    (ap (option_map EmptyQuorum) (position-nil (λ s. eqb (length s) 0) sets (λ k d lt. ne_eqb (length (get_or sets k d)) 0 (λ e. omega (arith, (all k d lt).not_empty)))))
    (ap (option_map (λ p. VoterOutOfRange p.0 p.1)) (none_outside n 0 sets all)) in
    rw e (last_faults (first_pair are_disjoint 0 sets) (first_pair is_one_within 0 sets) (record { voters = n; quorums = sets }))

pub cyclic_fault_of : (n : ℕ) (base : List ℕ) → n ≤ 64 → is_bad_base n base ≡ false → (cyclic_quorums n base ≡ cyclic_quorums n base) × IfErr (as_construct (coterie_of n (cyclic_quorums n base))) IsCyclicFault
unfolding cyclic_quorums
cyclic_fault_of n base few good =
    let listed = (or_parts ((eqb n 0 || eqb (length base) 0) || not (list_all (λ x. ltb x n) base)) (has_repeat base) good).0 in
    let (some_voter, some_member) = or_parts (eqb n 0) (eqb (length base) 0) (or_parts (eqb n 0 || eqb (length base) 0) (not (list_all (λ x. ltb x n) base)) listed).0 in
    let full = eqb-false (length base) 0 some_member in
    let off = eqb-false n 0 some_voter in
    let some : 0 < n = omega arith in
    let long = length-map-range_with_len (shift_by n base) 0 n in (
      refl,
      sets_fault n (cyclic_quorums n base) some few (omega (arith, long)) (omega (arith, long))
          (All-range (IsQuorum n) (shift_by n base) 0 n (λ s from lt. IsQuorum-shift_by n base s some few full)),
    )

pub length-cyclic_quorums : (n : ℕ) (base : List ℕ) → length (cyclic_quorums n base) ≡ n
unfolding cyclic_quorums
length-cyclic_quorums n base = length-map-range_with_len (shift_by n base) 0 n

-- repeats
or_mixed : (a b c d : Bool) → ((a || (b || false)) || (c || d)) ≡ ((a || c) || (b || d))
or_mixed true b c d = refl
or_mixed false true true d = refl
or_mixed false true false d = refl
or_mixed false false c d = refl

pub has_repeat-push : (xs : List ℕ) (y : ℕ) → has_repeat (xs ++ y ∷ []) ≡ (has_repeat xs || has xs y)
has_repeat-push [] y = refl
has_repeat-push (x ∷ xs) y =
    ap₂ (λ a b. a || b) (has-append xs (y ∷ []) x) (has_repeat-push xs y)
    ∙ ap (λ b. (has xs x || (b || false)) || (has_repeat xs || has xs y)) (eqb_turned y x)
    ∙ or_mixed (has xs x) (eqb x y) (has_repeat xs) (has xs y)

has_repeat-longer : (xs ys : List ℕ) → has_repeat xs ≡ true → has_repeat (xs ++ ys) ≡ true
has_repeat-longer [] ys e = absurd (true≢false (sym e))
has_repeat-longer (x ∷ xs) ys e =
    elim (or_cases (has xs x) (has_repeat xs) e) as (λ _. (has (xs ++ ys) x || has_repeat (xs ++ ys)) ≡ true) [
      | inl here ↦ ap (λ b. b || has_repeat (xs ++ ys)) (has-append xs ys x ∙ ap (λ b. b || has ys x) here)
      | inr later ↦ or_right_true (has (xs ++ ys) x) (has_repeat (xs ++ ys)) (has_repeat-longer xs ys later)
    ]
  where
    or_right_true : (a b : Bool) → b ≡ true → (a || b) ≡ true
    or_right_true true b e = refl
    or_right_true false b e = e

pub has_repeat-take : (n : ℕ) (xs : List ℕ) → has_repeat (take n xs) ≡ true → has_repeat xs ≡ true
has_repeat-take n xs e = sym (ap has_repeat (take-append-drop n xs)) ∙ has_repeat-longer (take n xs) (drop n xs) e

-- what has been seen, with one more number
pub has-append_one : (xs : List ℕ) (x q : ℕ) (b : Bool) → b ≡ has xs q → cond (eqb x q) true b ≡ has (xs ++ x ∷ []) q
has-append_one xs x q b e = or_turned (eqb x q) b ∙ ap (λ t. t || (eqb x q || false)) e ∙ sym (has-append xs (x ∷ []) q)
  where
    or_turned : (a b : Bool) → cond a true b ≡ (b || (a || false))
    or_turned true true = refl
    or_turned true false = refl
    or_turned false true = refl
    or_turned false false = refl
