-- Texts that are cut at a byte, and what has no such byte.
use Rattle.std.proofs.Common.{◌≡◌, ℕ, ◌+◌, ◌^◌, ◌<◌, Bool, true, false, cond, eqb, ltb, List, [], ◌∷◌, ◌++◌, length, get_or, take, drop, None, Some, sym, refl, ap, ◌∙◌, arith}
use Rattle.std.proofs.Common.{length-append, append_assoc}
use Rattle.std.specs.List.{All, position, position_or_len, before_first, after_first, slice_split, join_with_byte}
use Rattle.std.specs.Option.{option_map}
use Rattle.std.specs.Str.{all_ascii_digits}
use Rattle.std.specs.Fmt.{decimal}
use Rattle.std.proofs.lemmas.Bool.{ltb-true, ltb-false, lt-ltb, eq-eqb, ne_eqb, eqb-true}
use Rattle.std.proofs.lemmas.List.{take_at, drop_at}
use Rattle.std.proofs.lemmas.List.Elements.{All-nil, All-cons}
use Rattle.std.proofs.lemmas.List.Sums.{fails_before_first, split_at_first}
use Rattle.std.proofs.lemmas.List.Splits.{slice_split_none, slice_split_at, slice_split_first}
use Rattle.std.proofs.lemmas.List.Quantifiers.{position-Some}
use Rattle.std.proofs.lemmas.Str.Parse.{tells_all_ascii_digits}
use Rattle.std.proofs.lemmas.Fmt.{digits_decimal}
use Rattle.texts.specs.Cuts.{cut_at}
use Rattle.std.specs.Str.Parse.{digits_value}
use Rattle.std.proofs.lemmas.Str.Parse.{IsNumeralModel, numerals_by_value}

pub ascii_numerals : IsNumeralModel (λ ds. all_ascii_digits ds ≡ true) (digits_value 10)
ascii_numerals = numerals_by_value (λ ds. all_ascii_digits ds ≡ true) tells_all_ascii_digits

-- no byte of the text is the mark
abbrev pub Lacks : ℕ → List ℕ → Type 0
Lacks mark [] = Unit {0}
Lacks mark (b ∷ bs) = (eqb b mark ≡ false) × Lacks mark bs

pub Lacks-append : (mark : ℕ) (xs ys : List ℕ) → Lacks mark xs → Lacks mark ys → Lacks mark (xs ++ ys)
Lacks-append mark [] ys h k = k
Lacks-append mark (x ∷ xs) ys h k = (h.0, Lacks-append mark xs ys h.1 k)

All-Lacks : (mark : ℕ) (xs : List ℕ) → Lacks mark xs → All (λ b. eqb b mark ≡ false) xs
All-Lacks mark [] h = All-nil (λ b. eqb b mark ≡ false)
All-Lacks mark (x ∷ xs) h = All-cons (λ b. eqb b mark ≡ false) x xs h.0 (All-Lacks mark xs h.1)

-- digits are 48 to 57
Lacks-digits : (mark : ℕ) (ds : List ℕ) → mark < 48 → all_ascii_digits ds ≡ true → Lacks mark ds
Lacks-digits mark [] low h = tt
Lacks-digits mark (d ∷ ds) low h =
    let parts = tells_all_ascii_digits.parts d ds h in
    (ne_eqb d mark (λ e. omega (arith, parts.0)), Lacks-digits mark ds low parts.1)

pub Lacks-decimal : (mark n : ℕ) → mark < 48 → n < 2 ^ 64 → Lacks mark (decimal n)
Lacks-decimal mark n low fits = Lacks-digits mark (decimal n) low (digits_decimal ascii_numerals n fits)

place_after : (mark : ℕ) (front rest : List ℕ) → Lacks mark front → position_or_len (λ b. eqb b mark) (front ++ mark ∷ rest) ≡ length front
place_after mark [] rest h = rw (eq-eqb mark mark refl) refl
place_after mark (x ∷ front) rest h = rw h.0 (omega (arith, place_after mark front rest h.1))

drop_past : (mark : ℕ) (front rest : List ℕ) → drop (length front + 1) (front ++ mark ∷ rest) ≡ rest
drop_past mark front rest =
    ap (drop (length front + 1)) (sym (append_assoc front (mark ∷ []) rest))
    ∙ drop_at (front ++ mark ∷ []) rest (length front + 1) (length-append front (mark ∷ []))

pub cut_at-append : (mark : ℕ) (front rest : List ℕ) → Lacks mark front → cut_at mark (front ++ mark ∷ rest) ≡ Some (front, rest)
cut_at-append mark front rest h =
    let place = place_after mark front rest h in
    let inside : ltb (position_or_len (λ b. eqb b mark) (front ++ mark ∷ rest)) (length (front ++ mark ∷ rest)) ≡ true =
    lt-ltb _ _ (omega (arith, place, length-append front (mark ∷ rest))) in
    let at : position (λ b. eqb b mark) (front ++ mark ∷ rest) ≡ Some (length front) = rw (inside, place) refl in
    ap (option_map (λ place. (take place (front ++ mark ∷ rest), drop (place + 1) (front ++ mark ∷ rest)))) at
    ∙ ap (λ t. Some (t, drop (length front + 1) (front ++ mark ∷ rest))) (take_at front (mark ∷ rest) (length front) refl)
    ∙ ap (λ t. Some (front, t)) (drop_past mark front rest)

some_pair : (a b : List ℕ) (x : List ℕ × List ℕ) → Some (a, b) ≡ Some x → (x.0 ≡ a) × (x.1 ≡ b)
some_pair a b x e = (cc, cc)

-- where a text is cut
pub cut_at-parts : (mark : ℕ) (bs : List ℕ) (x : List ℕ × List ℕ) → cut_at mark bs ≡ Some x
    → (position_or_len (λ b. eqb b mark) bs < length bs) × (x.0 ≡ before_first (λ b. eqb b mark) bs) × (x.1 ≡ after_first (λ b. eqb b mark) bs)
cut_at-parts mark bs x e = by (ltb (position_or_len (λ b. eqb b mark) bs) (length bs)) refl e
  where
    by : (t : Bool) → ltb (position_or_len (λ b. eqb b mark) bs) (length bs) ≡ t
        → option_map {U = List ℕ × List ℕ} (λ place. (take place bs, drop (place + 1) bs)) (cond t (Some (position_or_len (λ b. eqb b mark) bs)) None) ≡ Some x
        → (position_or_len (λ b. eqb b mark) bs < length bs) × (x.0 ≡ before_first (λ b. eqb b mark) bs) × (x.1 ≡ after_first (λ b. eqb b mark) bs)
    by true inside h = let parts = some_pair _ _ x h in (ltb-true _ _ inside, parts.0, parts.1)
    by false outside h = cc

pub cut_at-Some : (mark : ℕ) (bs : List ℕ) (x : List ℕ × List ℕ) → cut_at mark bs ≡ Some x → bs ≡ x.0 ++ mark ∷ x.1
cut_at-Some mark bs x e =
    let parts = cut_at-parts mark bs x e in
    let at = position-Some (λ b. eqb b mark) bs (position_or_len (λ b. eqb b mark) bs) 0 (rw (lt-ltb _ _ parts.0) refl) in
    let is : get_or bs (position_or_len (λ b. eqb b mark) bs) 0 ≡ mark = eqb-true _ _ at.1 in
    let whole = split_at_first (λ b. eqb b mark) bs 0 parts.0 in
    rw (parts.1, parts.2) (whole ∙ ap (λ t. before_first (λ b. eqb b mark) bs ++ t ∷ after_first (λ b. eqb b mark) bs) is)

-- the first word, and the other words
pub slice_split-cut_at : (bs : List ℕ) (x : List ℕ × List ℕ) → cut_at 32 bs ≡ Some x → slice_split (λ b. eqb b 32) bs ≡ x.0 ∷ slice_split (λ b. eqb b 32) x.1
slice_split-cut_at bs x e =
    let parts = cut_at-parts 32 bs x e in
    rw (parts.1, parts.2) (slice_split_first (λ b. eqb b 32) bs 0 parts.0)

pub slice_split-no_cut : (bs : List ℕ) → cut_at 32 bs ≡ None → slice_split (λ b. eqb b 32) bs ≡ bs ∷ []
slice_split-no_cut bs e = slice_split_none (λ b. eqb b 32) bs (by (ltb (position_or_len (λ b. eqb b 32) bs) (length bs)) refl e)
  where
    by : (t : Bool) → ltb (position_or_len (λ b. eqb b 32) bs) (length bs) ≡ t
        → option_map {U = List ℕ × List ℕ} (λ place. (take place bs, drop (place + 1) bs)) (cond t (Some (position_or_len (λ b. eqb b 32) bs)) None) ≡ None
        → All (λ b. eqb b 32 ≡ false) bs
    by true inside h = cc
    by false outside h = λ k d lt. let long = ltb-false _ _ outside in fails_before_first (λ b. eqb b 32) bs k d (omega arith)

-- the words that were joined are the words again
abbrev pub AllLack : ℕ → List (List ℕ) → Type 0
AllLack mark [] = Unit {0}
AllLack mark (word ∷ words) = Lacks mark word × AllLack mark words

pub slice_split-join : (words : List (List ℕ)) → 0 < length words → AllLack 32 words → slice_split (λ b. eqb b 32) (join_with_byte 32 words) ≡ words
slice_split-join [] some h = absurd (omega arith)
slice_split-join (w ∷ []) some h = slice_split_none (λ b. eqb b 32) w (All-Lacks 32 w h.0)
slice_split-join (w ∷ y ∷ words) some h =
    slice_split_at (λ b. eqb b 32) w 32 (join_with_byte 32 (y ∷ words)) (All-Lacks 32 w h.0) refl
    ∙ ap (λ t. w ∷ t) (slice_split-join (y ∷ words) (omega arith) h.1)

pub Lacks-join : (words : List (List ℕ)) → AllLack 10 words → Lacks 10 (join_with_byte 32 words)
Lacks-join [] h = tt
Lacks-join (w ∷ []) h = h.0
Lacks-join (w ∷ y ∷ words) h = Lacks-append 10 w (32 ∷ join_with_byte 32 (y ∷ words)) h.0 (refl, Lacks-join (y ∷ words) h.1)
