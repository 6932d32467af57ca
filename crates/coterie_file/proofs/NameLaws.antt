-- What the tests of names mean, and the names v0, v1, ..
use Rattle.std.proofs.Common.{◌≡◌, ◌≢◌, ℕ, ◌+◌, ◌<◌, ◌≤◌, true, false, cond, not, List, [], ◌∷◌, ◌++◌, length, get_or, sym, refl, ap, ◌∙◌, arith}
use Rattle.std.proofs.Common.{None, Some, MatchOption, codes, decimal, subst, append_assoc, append-nil}
use Rattle.std.specs.List.{position}
use Rattle.std.specs.Option.{option_map}
use Rattle.std.proofs.lemmas.Bool.{ltb-true, lt-ltb, leb-true, le-leb, not-false, not_from_true, false≢true}
use Rattle.std.proofs.lemmas.Fmt.{decimal_is_IsNumeral, decimal_injective, length-decimal-le}
use Rattle.std.proofs.lemmas.List.{length-append, get_or_default, take_more, take_all}
use Rattle.std.proofs.Math.ListN.{get_or-append}
use Rattle.std.proofs.Math.Seq.{get_or-append_seam}
use Rattle.std.proofs.lemmas.List.Elements.{All-cons}
use Rattle.std.proofs.lemmas.List.FromFn.{length-map-range_with_len, get_or-map-range_with_len, take-map-range_with_len}
use Rattle.std.proofs.lemmas.List.Quantifiers.{all_pairs_push}
use Rattle.std.proofs.lemmas.List.Sums.{AllPass-from_list_all, list_all-from_AllPass}
use Rattle.std.proofs.lemmas.Str.Parse.{digit_at}
use Rattle.coterie_file.specs.Names.{is_name_byte, IsName, is_name, has_name, name_at, AllDiffer, AreNames, IsLeastRepeat, first_repeat, names_fault}
use Rattle.coterie_file.specs.Named.{numbered_names}
use Rattle.coterie_file.specs.declared.fault.FileFault.TheVariants.{BadName, RepeatedName}
use Rattle.coterie_file.proofs.ListLemmas.{Contains-has_name, has_name-Contains}
use Rattle.numbers.proofs.Options.{and-true, option_map-None, option_or-None, position-None}
use Rattle.quorum_set.proofs.FaultLaws.{position-nil}

-- a name that has_name does not find is none of the list
pub has_name-false : (names : List (List ℕ)) (name : List ℕ) → has_name names name ≡ false → (k : ℕ) (d : List ℕ) → k < length names → get_or names k d ≢ name
has_name-false names name e k d lt same =
    false≢true (sym e ∙ has_name-Contains names name (k, lt, get_or_default names k name d lt ∙ same))

least_here : (before : List (List ℕ)) (name : List ℕ) (names : List (List ℕ)) → AllDiffer before → has_name before name ≡ true → IsLeastRepeat (before ++ name ∷ names) (length before)
least_here before name names differ found =
    let all = before ++ name ∷ names in
    let at = Contains-has_name before name found in
    let early : (k : ℕ) → k < length before → name_at all k ≡ name_at before k = λ k lt. get_or-append before (name ∷ names) [] k lt in
    record {
      within = omega (arith, length-append before (name ∷ names));
      repeated = (at.0, at.1, early at.0 at.1 ∙ get_or_default before at.0 [] name at.1 ∙ at.2 ∙ sym (get_or-append_seam before name names []));
      least = λ k lt h. differ h.0 k [] h.1 lt (sym (early h.0 (omega (arith, h.1))) ∙ h.2 ∙ early k lt);
    }

-- the first repeat is the least, and where there is none all differ
pub first_repeat-means : (before names : List (List ℕ)) → AllDiffer before → MatchOption (first_repeat before names) (AllDiffer (before ++ names)) (IsLeastRepeat (before ++ names))
first_repeat-means before [] differ = rw (append-nil before) differ
first_repeat-means before (name ∷ names) differ =
    elim (has_name before name) as (λ b. has_name before name ≡ b → MatchOption (cond b (Some (length before)) (first_repeat (before ++ name ∷ []) names))
    (AllDiffer (before ++ name ∷ names)) (IsLeastRepeat (before ++ name ∷ names))) [
      | true ↦ λ e. least_here before name names differ e
      | false ↦ λ e.
          let one : before ++ name ∷ names ≡ (before ++ name ∷ []) ++ names = sym (append_assoc before (name ∷ []) names) in
          rw one (first_repeat-means (before ++ name ∷ []) names (all_pairs_push (λ m n. m ≢ n) before name differ (has_name-false before name e)))
    ] refl

pub IsName-from_test : (name : List ℕ) → is_name name ≡ true → IsName name
IsName-from_test name e =
    let parts = and-true _ _ e in
    let sizes = and-true _ _ parts.0 in
    record {
      not_empty = ltb-true 0 (length name) sizes.0;
      short = leb-true (length name) 64 sizes.1;
      bytes = AllPass-from_list_all is_name_byte name parts.1;
    }

pub is_name-from_IsName : (name : List ℕ) → IsName name → is_name name ≡ true
is_name-from_IsName name h = rw (lt-ltb 0 (length name) h.not_empty, le-leb (length name) 64 h.short, list_all-from_AllPass is_name_byte name h.bytes) refl

-- names without a repeat all differ
pub AllDiffer-from_no_repeat : (names : List (List ℕ)) → first_repeat [] names ≡ None → AllDiffer names
AllDiffer-from_no_repeat names apart =
    let means = first_repeat-means [] names (λ i j d lt l. absurd (omega arith)) in
    rw apart at means

pub AreNames-from_no_fault : (names : List (List ℕ)) → names_fault names ≡ None → AreNames names
AreNames-from_no_fault names e =
    let parts = option_or-None (option_map BadName (position (λ n. not (is_name n)) names)) (option_map RepeatedName (first_repeat [] names)) e in
    let good = position-None (λ n. not (is_name n)) names (option_map-None BadName _ parts.0) in
    record {
      named = λ k d lt. IsName-from_test (get_or names k d) (not-false _ (good k d lt));
      different = AllDiffer-from_no_repeat names (option_map-None RepeatedName _ parts.1);
    }

-- names that all differ have no repeat
pub first_repeat-none : (names : List (List ℕ)) → AllDiffer names → first_repeat [] names ≡ None
first_repeat-none names differ =
    let means = first_repeat-means [] names (λ i j d lt l. absurd (omega arith)) in
    elim (first_repeat [] names) as (λ o. MatchOption o (AllDiffer names) (IsLeastRepeat names) → o ≡ None) [
      | None ↦ λ h. refl
      | Some i ↦ λ h. absurd (differ h.repeated.0 i [] h.repeated.1 h.within h.repeated.2)
    ] means

pub names_fault-none : (names : List (List ℕ)) → AreNames names → names_fault names ≡ None
names_fault-none names h =
    let good : position (λ n. not (is_name n)) names ≡ None = position-nil (λ n. not (is_name n)) names (λ k d lt. not_from_true _ (is_name-from_IsName (get_or names k d) (h.named k d lt))) in
    rw (good, first_repeat-none names h.different) refl

-- the names v0, v1, ..
digit_is_name_byte : (b : ℕ) → 48 ≤ b → b ≤ 57 → is_name_byte b ≡ true
digit_is_name_byte b low high = rw (le-leb 48 b low, le-leb b 57 high) refl

IsName-numbered : (i : ℕ) → i < 64 → IsName (codes "v" ++ decimal i)
IsName-numbered i lt =
    let digits = (decimal_is_IsNumeral i (omega arith)).0 in
    record {
      not_empty = omega arith;
      short = omega (arith, length-decimal-le 2 i (omega arith) (omega arith) (omega arith));
      bytes = All-cons (λ b. is_name_byte b ≡ true) 118 (decimal i) refl (λ k d l.
          let digit = digit_at (decimal i) k digits.1 l in
          rw (get_or_default (decimal i) k d 0 l) (digit_is_name_byte (get_or (decimal i) k 0) digit.0 digit.1));
    }

pub length-numbered_names : (n : ℕ) → length (numbered_names n) ≡ n
length-numbered_names n = length-map-range_with_len (λ i. codes "v" ++ decimal i) 0 n

-- one more name
pub numbered_names-push : (n : ℕ) → numbered_names (n + 1) ≡ numbered_names n ++ (codes "v" ++ decimal n) ∷ []
numbered_names-push n =
    let f : ℕ → List ℕ = λ i. codes "v" ++ decimal i in
    let all = numbered_names (n + 1) in
    let len : length all ≡ n + 1 = length-numbered_names (n + 1) in
    sym (take_all (n + 1) all (omega arith)) ∙ take_more all n [] (omega arith)
    ∙ ap (λ xs. xs ++ get_or all n [] ∷ []) (take-map-range_with_len f 0 (n + 1) n (omega arith))
    ∙ ap (λ x. numbered_names n ++ x ∷ []) (get_or-map-range_with_len f 0 (n + 1) n n [] (omega arith) (omega arith))

pub AreNames-numbered : (n : ℕ) → n ≤ 64 → AreNames (numbered_names n)
AreNames-numbered n le =
    let f : ℕ → List ℕ = λ i. codes "v" ++ decimal i in
    let at : (i : ℕ) (d : List ℕ) → i < n → get_or (numbered_names n) i d ≡ f i = λ i d lt. get_or-map-range_with_len f 0 n i i d lt (omega arith) in
    let len : length (numbered_names n) ≡ n = length-numbered_names n in
    record {
      named = λ k d lt. let P : List ℕ → Type 0 = IsName in subst P (sym (at k d (omega arith))) (IsName-numbered k (omega arith));
      different = λ i j d lt l same.
          let texts : f i ≡ f j = sym (at i d (omega arith)) ∙ same ∙ at j d (omega arith) in
          let digits : decimal i ≡ decimal j = cc in
          omega (arith, decimal_injective i j (omega arith) (omega arith) digits);
    }
