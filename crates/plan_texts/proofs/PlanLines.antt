-- The lines of a text: each is the text of what is read from it, and each text is read.
use Rattle.std.proofs.Common.{◌≡◌, ℕ, ◌<◌, ◌≤◌, ◌^◌, Bool, true, false, cond, ◌&&◌, eqb, leb, ◌⊎◌, inl, inr, List, [], ◌∷◌, ◌++◌, length, take, drop, map, Option, None, Some}
use Rattle.std.proofs.Common.{Ok, sym, refl, ap, ap₂, subst, ◌∙◌, arith, append_assoc, rules}
use Rattle.std.specs.Prelude.{codes}
use Rattle.std.specs.List.{All, slice_split, join_with_byte, AllByRecursion}
use Rattle.std.specs.Option.{option_map, option_and_then, ok_or}
use Rattle.std.specs.Str.{bytes_eq}
use Rattle.std.specs.Fmt.{decimal}
use Rattle.std.proofs.lemmas.Bool.{and_parts, and_from, not-true, not_from_false, leb-true, le-leb}
use Rattle.std.proofs.lemmas.Option.{cond_some, same_Some}
use Rattle.std.proofs.lemmas.List.{take_at, drop_at, take-append-drop}
use Rattle.std.proofs.lemmas.List.Elements.{recursion_from_All}
use Rattle.std.proofs.lemmas.List.Sums.{AllPass-from_list_all, list_all-from_AllPass}
use Rattle.std.proofs.lemmas.List.Splits.{join_with_byte-slice_split, length-slice_split}
use Rattle.std.proofs.lemmas.Slice.Eq.{bytes_eq-Decides}
use Rattle.certificate.specs.declared.fault.PlanFault.{PlanFault}
use Rattle.certificate.specs.declared.fault.PlanFault.TheVariants.{BadText}
use Rattle.plan_texts.specs.PlanTexts.{HasDigits, IsShort, with_spaces, title_line, ratio_line, cycle_line, weights_line, number_of, numbers_of, after_prefix, read_title, read_pair}
use Rattle.plan_texts.specs.PlanTexts.{read_ratio, read_cycle, read_numbers, have_a_line, read_capacities, line_at}
use Rattle.numbers.specs.Bounds.{max_capacity}
use Rattle.numbers.proofs.Options.{and_then-Some, option_map-Some}
use Rattle.quorum_set.specs.Capacities.{IsCapacity, are_unit}
use Rattle.texts.specs.Cuts.{cut_at}
use Rattle.plan_texts.proofs.Numbers.{HasDigits-small, number_of-Some, number_of-decimal}
use Rattle.texts.proofs.CutLemmas.{Lacks, Lacks-append, Lacks-decimal, Lacks-join, AllLack, cut_at-append, cut_at-Some, slice_split-join}

-- one more number is written
pub with_spaces-push : (ns : List ℕ) (n : ℕ) → 0 < length ns → with_spaces (ns ++ n ∷ []) ≡ with_spaces ns ++ 32 ∷ decimal n
with_spaces-push [] n some = absurd (omega arith)
with_spaces-push (x ∷ []) n some = refl
with_spaces-push (x ∷ y ∷ ns) n some =
    ap (λ t. decimal x ++ 32 ∷ t) (with_spaces-push (y ∷ ns) n (omega arith))
    ∙ sym (append_assoc (decimal x) (32 ∷ with_spaces (y ∷ ns)) (32 ∷ decimal n))

-- words that are numbers are as they are written
numbers_of-Some : (words : List (List ℕ)) (ns : List ℕ) → numbers_of words ≡ Some ns → (words ≡ map decimal ns) × AllByRecursion IsShort ns
numbers_of-Some [] ns e = subst (λ ms. ([] ≡ map decimal ms) × AllByRecursion IsShort ms) (same_Some [] ns e) (refl, tt)
numbers_of-Some (word ∷ words) ns e =
    let first = and_then-Some (λ n. option_map (λ ns. n ∷ ns) (numbers_of words)) (number_of 7 word) ns e in
    let others = option_map-Some (λ ms. first.0 ∷ ms) (numbers_of words) ns first.2 in
    let word_is = number_of-Some 7 word first.0 first.1 in
    let words_are = numbers_of-Some words others.0 others.1 in
    subst (λ ms. (word ∷ words ≡ map decimal ms) × AllByRecursion IsShort ms) others.2
    (ap₂ (λ (w : List ℕ) (ws : List (List ℕ)). w ∷ ws) word_is.0 words_are.0, (word_is.1, words_are.1))

numbers_of-decimal : (ns : List ℕ) → AllByRecursion IsShort ns → numbers_of (map decimal ns) ≡ Some ns
numbers_of-decimal [] h = refl
numbers_of-decimal (n ∷ ns) h = rw (number_of-decimal 7 n (omega arith) h.0, numbers_of-decimal ns h.1) refl

AllLack-decimal : (mark : ℕ) (ns : List ℕ) → mark < 48 → AllByRecursion IsShort ns → AllLack mark (map decimal ns)
AllLack-decimal mark [] low h = tt
AllLack-decimal mark (n ∷ ns) low h = (Lacks-decimal mark n low (HasDigits-small 7 n (omega arith) h.0), AllLack-decimal mark ns low h.1)

-- a word and what follows it
after_prefix-Some : (word line rest : List ℕ) → after_prefix word line ≡ Some rest → line ≡ word ++ rest
after_prefix-Some word line rest e =
    let parts = cond_some (bytes_eq (take (length word) line) word) (drop (length word) line) rest e in
    let same = (bytes_eq-Decides (take (length word) line) word).0 parts.0 in
    sym (take-append-drop (length word) line) ∙ ap (λ t. t ++ drop (length word) line) same ∙ ap (λ t. word ++ t) parts.1

pub after_prefix-append : (word rest : List ℕ) → after_prefix word (word ++ rest) ≡ Some rest
after_prefix-append word rest =
    let same = (bytes_eq-Decides (take (length word) (word ++ rest)) word).1 (take_at word rest (length word) refl) in
    ap (λ b. cond b (Some (drop (length word) (word ++ rest))) None) same ∙ ap Some (drop_at word rest (length word) refl)

-- each line
abbrev pub IsTitle : Bool → List ℕ → ℕ → Type 0
IsTitle bounded line version = (line ≡ title_line bounded version) × ((version ≡ 1) ⊎ (version ≡ 2))

pub read_title-Some : (bounded : Bool) (line : List ℕ) (version : ℕ) → read_title bounded line ≡ Some version → IsTitle bounded line version
read_title-Some bounded line version e = by_first (bytes_eq line (title_line bounded 1)) refl e
  where
    by_second : (b : Bool) → bytes_eq line (title_line bounded 2) ≡ b → cond b (Some 2) None ≡ Some version → IsTitle bounded line version
    by_second true same h = subst (IsTitle bounded line) (same_Some 2 version h) ((bytes_eq-Decides line (title_line bounded 2)).0 same, inr refl)
    by_second false other h = cc

    by_first : (b : Bool) → bytes_eq line (title_line bounded 1) ≡ b → cond b (Some 1) (cond (bytes_eq line (title_line bounded 2)) (Some 2) None) ≡ Some version → IsTitle bounded line version
    by_first true same h = subst (IsTitle bounded line) (same_Some 1 version h) ((bytes_eq-Decides line (title_line bounded 1)).0 same, inl refl)
    by_first false other h = by_second (bytes_eq line (title_line bounded 2)) refl h

pub read_title-one : (bounded : Bool) → read_title bounded (title_line bounded 1) ≡ Some 1
read_title-one true = refl
read_title-one false = refl

pub read_title-two : (bounded : Bool) → read_title bounded (title_line bounded 2) ≡ Some 2
read_title-two true = refl
read_title-two false = refl

pub read_ratio-Some : (word : List ℕ) (digits : ℕ) (line : List ℕ) (x : ℕ × ℕ) → read_ratio word digits line ≡ Some x → (line ≡ ratio_line word x) × (HasDigits digits x.0 × HasDigits digits x.1)
read_ratio-Some word digits line x e =
    let found = and_then-Some (λ rest. option_and_then (read_pair digits) (cut_at 47 rest)) (after_prefix word line) x e in
    let sides = and_then-Some (read_pair digits) (cut_at 47 found.0) x found.2 in
    let left = and_then-Some (λ p. option_map (λ q. (p, q)) (number_of digits sides.0.1)) (number_of digits sides.0.0) x sides.2 in
    let right = option_map-Some (λ q. (left.0, q)) (number_of digits sides.0.1) x left.2 in
    let before = number_of-Some digits sides.0.0 left.0 left.1 in
    let after = number_of-Some digits sides.0.1 right.0 right.1 in
    subst (λ (y : ℕ × ℕ). (line ≡ ratio_line word y) × (HasDigits digits y.0 × HasDigits digits y.1)) right.2 (
      after_prefix-Some word line found.0 found.1
          ∙ ap (λ t. word ++ t) (cut_at-Some 47 found.0 sides.0 sides.1)
          ∙ ap₂ (λ (p q : List ℕ). word ++ (p ++ 47 ∷ q)) before.0 after.0,
      (before.1, after.1),
    )

pub read_ratio-written : (word : List ℕ) (digits : ℕ) (line : List ℕ) (x : ℕ × ℕ) → digits ≤ 19 → line ≡ ratio_line word x → HasDigits digits x.0 → HasDigits digits x.1 → read_ratio word digits line ≡ Some x
read_ratio-written word digits line x few e left right =
    let cut = cut_at-append 47 (decimal x.0) (decimal x.1) (Lacks-decimal 47 x.0 (omega arith) (HasDigits-small digits x.0 few left)) in
    ap (read_ratio word digits) e
    ∙ ap (option_and_then (λ rest. option_and_then (read_pair digits) (cut_at 47 rest))) (after_prefix-append word (decimal x.0 ++ 47 ∷ decimal x.1))
    ∙ ap (option_and_then (read_pair digits)) cut ∙ rw (number_of-decimal digits x.0 few left, number_of-decimal digits x.1 few right) refl

pub read_cycle-Some : (line : List ℕ) (n : ℕ) → read_cycle line ≡ Some n → (line ≡ cycle_line n) × IsShort n
read_cycle-Some line n e =
    let word = and_then-Some (number_of 7) (after_prefix (codes "cycle ") line) n e in
    let number = number_of-Some 7 word.0 n word.2 in
    (after_prefix-Some (codes "cycle ") line word.0 word.1 ∙ ap (λ t. codes "cycle " ++ t) number.0, number.1)

pub read_cycle-written : (line : List ℕ) (n : ℕ) → line ≡ cycle_line n → IsShort n → read_cycle line ≡ Some n
read_cycle-written line n e short =
    ap read_cycle e ∙ ap (option_and_then (number_of 7)) (after_prefix-append (codes "cycle ") (decimal n)) ∙ number_of-decimal 7 n (omega arith) short

some_words : (ns : List ℕ) → 0 < length ns → 0 < length (map decimal ns)
some_words [] some = absurd (omega arith)
some_words (n ∷ ns) some = omega arith

some_numbers : (ns : List ℕ) → 0 < length (map decimal ns) → 0 < length ns
some_numbers [] some = absurd (omega arith)
some_numbers (n ∷ ns) some = omega arith

pub read_numbers-Some : (word line ns : List ℕ) → read_numbers word line ≡ Some ns → (line ≡ weights_line word ns) × (AllByRecursion IsShort ns × (0 < length ns))
read_numbers-Some word line ns e =
    let rest = and_then-Some (λ rest. numbers_of (slice_split (λ b. eqb b 32) rest)) (after_prefix word line) ns e in
    let numbers = numbers_of-Some (slice_split (λ b. eqb b 32) rest.0) ns rest.2 in
    let some = length-slice_split (λ b. eqb b 32) rest.0 in (
      after_prefix-Some word line rest.0 rest.1 ∙ ap (λ t. word ++ t) (sym (join_with_byte-slice_split 32 rest.0) ∙ ap (join_with_byte 32) numbers.0),
      (numbers.1, some_numbers ns (omega (arith, some, ap length numbers.0))),
    )

pub read_numbers-written : (word line ns : List ℕ) → line ≡ weights_line word ns → AllByRecursion IsShort ns → 0 < length ns → read_numbers word line ≡ Some ns
read_numbers-written word line ns e short some =
    ap (read_numbers word) e
    ∙ ap (option_and_then (λ rest. numbers_of (slice_split (λ b. eqb b 32) rest))) (after_prefix-append word (with_spaces ns))
    ∙ ap numbers_of (slice_split-join (map decimal ns) (some_words ns some) (AllLack-decimal 32 ns (omega arith) short))
    ∙ numbers_of-decimal ns short

-- no line has a newline in it
pub Lacks-ratio : (word : List ℕ) (x : ℕ × ℕ) → Lacks 10 word → x.0 < 2 ^ 64 → x.1 < 2 ^ 64 → Lacks 10 (ratio_line word x)
Lacks-ratio word x one left right =
    Lacks-append 10 word (decimal x.0 ++ 47 ∷ decimal x.1) one
    (Lacks-append 10 (decimal x.0) (47 ∷ decimal x.1) (Lacks-decimal 10 x.0 (omega arith) left) (refl, Lacks-decimal 10 x.1 (omega arith) right))

pub Lacks-cycle : (n : ℕ) → IsShort n → Lacks 10 (cycle_line n)
Lacks-cycle n short = Lacks-append 10 (codes "cycle ") (decimal n) (search rules) (Lacks-decimal 10 n (omega arith) (HasDigits-small 7 n (omega arith) short))

pub Lacks-weights : (word ns : List ℕ) → Lacks 10 word → AllByRecursion IsShort ns → Lacks 10 (weights_line word ns)
Lacks-weights word ns one short = Lacks-append 10 word (with_spaces ns) one (Lacks-join (map decimal ns) (AllLack-decimal 10 ns (omega arith) short))

-- a line at the front of a text
ok_or_Ok : {A : Type 0} (o : Option A) (e : PlanFault) (x : A) → ok_or o e ≡ Ok x → o ≡ Some x
ok_or_Ok None e x h = cc
ok_or_Ok (Some y) e x h = cc

pub line_at-Ok : {X : Type 0} (k : ℕ) (read : List ℕ → Option X) (text : List ℕ) (x : X × List ℕ) → line_at k read text ≡ Ok x → (line : List ℕ) × (text ≡ line ++ 10 ∷ x.1) × (read line ≡ Some x.0)
line_at-Ok {X} k read text x e =
    let some = ok_or_Ok (option_and_then (λ cut. option_map (λ y. (y, cut.1)) (read cut.0)) (cut_at 10 text)) (BadText k) x e in
    let cut = and_then-Some (λ cut. option_map (λ y. (y, cut.1)) (read cut.0)) (cut_at 10 text) x some in
    let stated = option_map-Some (λ y. (y, cut.0.1)) (read cut.0.0) x cut.2 in
    let same : stated.0 ≡ x.0 = ap (λ p. p.0) stated.2 in
    let rest : cut.0.1 ≡ x.1 = ap (λ p. p.1) stated.2 in
    (cut.0.0, cut_at-Some 10 text cut.0 cut.1 ∙ ap (λ t. cut.0.0 ++ 10 ∷ t) rest, stated.1 ∙ ap Some same)

pub line_at-append : {X : Type 0} (k : ℕ) (read : List ℕ → Option X) (line rest : List ℕ) (x : X) → read line ≡ Some x → Lacks 10 line → line_at k read (line ++ 10 ∷ rest) ≡ Ok (x, rest)
line_at-append k read line rest x is lacks = rw (cut_at-append 10 line rest lacks, is) refl

-- a line of capacities
have_a_line-IsCapacity : (ns : List ℕ) → have_a_line ns ≡ true → All IsCapacity ns × (are_unit ns ≡ false)
have_a_line-IsCapacity ns e =
    let parts = and_parts _ _ e in
    let each = AllPass-from_list_all (λ c. leb 1 c && leb c max_capacity) ns parts.0 in
    (λ i d lt. let tests = and_parts _ _ (each i d lt) in (leb-true _ _ tests.0, leb-true _ _ tests.1), not-true _ parts.1)

IsCapacity-have_a_line : (ns : List ℕ) → All IsCapacity ns → are_unit ns ≡ false → have_a_line ns ≡ true
IsCapacity-have_a_line ns each some =
    and_from _ _ (list_all-from_AllPass (λ c. leb 1 c && leb c max_capacity) ns (λ i d lt. let range = each i d lt in and_from _ _ (le-leb _ _ range.0) (le-leb _ _ range.1)))
    (not_from_false _ some)

some_capacity : (ns : List ℕ) → are_unit ns ≡ false → 0 < length ns
some_capacity [] some = cc
some_capacity (n ∷ ns) some = omega arith

pub IsCapacity-IsShort : (ns : List ℕ) → All IsCapacity ns → AllByRecursion IsShort ns
IsCapacity-IsShort ns each = recursion_from_All IsShort ns (λ i d lt. let range = each i d lt in omega (arith, range.1))

pub read_capacities-Some : (line ns : List ℕ) → read_capacities line ≡ Some ns → (line ≡ weights_line (codes "capacity ") ns) × (All IsCapacity ns × (are_unit ns ≡ false))
read_capacities-Some line ns e =
    let found = and_then-Some (λ numbers. cond (have_a_line numbers) (Some numbers) None) (read_numbers (codes "capacity ") line) ns e in
    let parts = cond_some (have_a_line found.0) found.0 ns found.2 in (
      (read_numbers-Some (codes "capacity ") line found.0 found.1).0 ∙ ap (weights_line (codes "capacity ")) parts.1,
      subst (λ ms. All IsCapacity ms × (are_unit ms ≡ false)) parts.1 (have_a_line-IsCapacity found.0 parts.0),
    )

pub read_capacities-written : (line ns : List ℕ) → line ≡ weights_line (codes "capacity ") ns → All IsCapacity ns → are_unit ns ≡ false → read_capacities line ≡ Some ns
read_capacities-written line ns e each some =
    ap (option_and_then (λ numbers. cond (have_a_line numbers) (Some numbers) None))
    (read_numbers-written (codes "capacity ") line ns e (IsCapacity-IsShort ns each) (some_capacity ns some))
    ∙ ap (λ b. cond b (Some ns) None) (IsCapacity-have_a_line ns each some)
