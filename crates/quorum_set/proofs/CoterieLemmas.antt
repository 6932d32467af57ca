-- Lemmas on the first fault of a list of sets.
use Rattle.std.proofs.Common.{◌≡◌, ℕ, ◌+◌, ◌<◌, Bool, true, false, cond, eqb, ltb, leb, List, [], ◌∷◌, length, get_or, zero, suc, refl, arith, Option, None, Some}
use Rattle.std.proofs.lemmas.Bool.{eqb-false, ltb-false, leb-false, not-false, or_parts}
use Rattle.std.proofs.lemmas.List.Elements.{All-nil, All-cons}
use Rattle.std.specs.List.{All, AllPairs, position}
use Rattle.std.specs.Option.{option_or, option_map}
use Rattle.numbers.specs.Sets.{IsSet}
use Rattle.numbers.proofs.Options.{option_map-None, option_or-None, position-None}
use Rattle.quorum_set.specs.declared.fault.CoterieFault.TheVariants.{NoVoters, TooManyVoters, NoQuorums, TooManyQuorums, EmptyQuorum, VoterOutOfRange, Disjoint, Contained}
use Rattle.quorum_set.specs.Coteries.{IsCoterie, first_from, first_outside, first_pair, are_disjoint, is_one_within, fault_if, first_fault}

first_from-None : (n : ℕ) (s : List ℕ) → first_from n s ≡ None → All (λ i. i < n) s
first_from-None n [] e = All-nil (λ i. i < n)
first_from-None n (i ∷ s) e =
    elim (leb n i) as (λ b. leb n i ≡ b → cond b (Some i) (first_from n s) ≡ None → All (λ i. i < n) (i ∷ s)) [
      | true ↦ λ _ h. cc
      | false ↦ λ above h. All-cons (λ i. i < n) i s (leb-false n i above) (first_from-None n s h)
    ] refl e

first_outside-None : (n j : ℕ) (sets : List (List ℕ)) → first_outside n j sets ≡ None → All (λ s. All (λ i. i < n) s) sets
first_outside-None n j [] e = All-nil (λ s. All (λ i. i < n) s)
first_outside-None n j (s ∷ sets) e =
    let both = option_or-None _ _ e in
    All-cons (λ s. All (λ i. i < n) s) s sets (first_from-None n s (option_map-None _ _ both.0)) (first_outside-None n (j + 1) sets both.1)

AllPairs-cons : {A : Type 0} (R : A → A → Type 0) (x : A) (xs : List A) → All (R x) xs → AllPairs R xs → AllPairs R (x ∷ xs)
AllPairs-cons R x xs one rest zero zero d lt in_list = absurd (omega arith)
AllPairs-cons R x xs one rest zero (suc j) d lt in_list = one j d (omega arith)
AllPairs-cons R x xs one rest (suc i) zero d lt in_list = absurd (omega arith)
AllPairs-cons R x xs one rest (suc i) (suc j) d lt in_list = rest i j d (omega arith) (omega arith)

first_pair-None : (test : List ℕ → List ℕ → Bool) (j : ℕ) (sets : List (List ℕ)) → first_pair test j sets ≡ None → AllPairs (λ q r. test q r ≡ false) sets
first_pair-None test j [] e = λ a b d lt in_list. absurd (omega arith)
first_pair-None test j (s ∷ sets) e =
    let both = option_or-None _ _ e in
    AllPairs-cons (λ q r. test q r ≡ false) s sets (position-None (test s) sets (option_map-None _ _ both.0)) (first_pair-None test (j + 1) sets both.1)

fault_if-None : (b : Bool) (e : _) → fault_if b e ≡ None → b ≡ false
fault_if-None true e h = cc
fault_if-None false e h = refl

none_of_eight : (F : Type 0) (a b c d e f g h : Option F) → option_or a (option_or b (option_or c (option_or d (option_or e (option_or f (option_or g h)))))) ≡ None
    → (a ≡ None) × (b ≡ None) × (c ≡ None) × (d ≡ None) × (e ≡ None) × (f ≡ None) × (g ≡ None) × (h ≡ None)
none_of_eight F a b c d e f g h all =
    let one = option_or-None a _ all in
    let two = option_or-None b _ one.1 in
    let three = option_or-None c _ two.1 in
    let four = option_or-None d _ three.1 in
    let five = option_or-None e _ four.1 in
    let six = option_or-None f _ five.1 in
    let seven = option_or-None g h six.1 in
    (one.0, two.0, three.0, four.0, five.0, six.0, seven.0, seven.1)

-- sets with no fault are a coterie
pub IsCoterie-first_fault : (n : ℕ) (sets : List (List ℕ)) → All IsSet sets → first_fault n sets ≡ None → IsCoterie (record { voters = n; quorums = sets })
IsCoterie-first_fault n sets are_sets e =
    let none = none_of_eight _ (fault_if (eqb n 0) NoVoters) (fault_if (ltb 64 n) TooManyVoters) (fault_if (eqb (length sets) 0) NoQuorums)
    (fault_if (ltb 4096 (length sets)) TooManyQuorums) (option_map EmptyQuorum (position (λ s. eqb (length s) 0) sets))
    (option_map (λ p. VoterOutOfRange p.0 p.1) (first_outside n 0 sets)) (option_map (λ p. Disjoint p.0 p.1) (first_pair are_disjoint 0 sets))
    (option_map (λ p. Contained p.0 p.1) (first_pair is_one_within 0 sets)) e in
    let some_voter = eqb-false n 0 (fault_if-None (eqb n 0) NoVoters none.0) in
    let some_quorum = eqb-false (length sets) 0 (fault_if-None (eqb (length sets) 0) NoQuorums none.2) in
    let members = position-None (λ s. eqb (length s) 0) sets (option_map-None EmptyQuorum (position (λ s. eqb (length s) 0) sets) none.4) in
    record {
      some_voter = omega arith;
      few_voters = ltb-false 64 n (fault_if-None (ltb 64 n) TooManyVoters none.1);
      some_quorum = omega arith;
      few_quorums = ltb-false 4096 (length sets) (fault_if-None (ltb 4096 (length sets)) TooManyQuorums none.3);
      sets = are_sets;
      not_empty = λ k d lt. let some = eqb-false (length (get_or sets k d)) 0 (members k d lt) in omega arith;
      in_range = first_outside-None n 0 sets (option_map-None (λ p. VoterOutOfRange p.0 p.1) (first_outside n 0 sets) none.5);
      meets = λ i j d lt in_list. not-false _ (first_pair-None are_disjoint 0 sets (option_map-None (λ p. Disjoint p.0 p.1) (first_pair are_disjoint 0 sets) none.6) i j d lt in_list);
      apart = λ i j d lt in_list. or_parts _ _ (first_pair-None is_one_within 0 sets (option_map-None (λ p. Contained p.0 p.1) (first_pair is_one_within 0 sets) none.7) i j d lt in_list);
    }
