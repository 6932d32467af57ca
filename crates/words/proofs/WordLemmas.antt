-- numbers as bytes, one more at a time
use Rattle.std.proofs.Common.{rules, ◌≡◌, ℕ, ◌+◌, ◌*◌, ◌<◌, List, [], ◌∷◌, ◌++◌, length, length-append, take, drop, refl, sym, ap, subst, ◌∙◌, arith}
use Rattle.std.specs.Int.{w64, to_le_bytes, from_le_bytes}
use Rattle.std.specs.Prelude.{◌^◌, zero, suc}
use Rattle.std.proofs.Math.Seq.{drop-append_seam, take-append_seam}
use Rattle.std.proofs.lemmas.List.Concat.{flat_map-append}
use Rattle.std.proofs.lemmas.List.Elements.{All-append, All-cons, All-head, All-nil, All-tail}
use Rattle.std.proofs.lemmas.Nat.{from_le_bytes-to_le_bytes_8}
use Rattle.words.specs.WordBytes.{FitIn64Bits, bytes_of}

one : (word : ℕ) → bytes_of (word ∷ []) ≡ to_le_bytes w64 word
one word = search rules

pub bytes_of-push : (words : List ℕ) (word : ℕ) → bytes_of (words ++ word ∷ []) ≡ bytes_of words ++ to_le_bytes w64 word
bytes_of-push words word = flat_map-append (to_le_bytes w64) words (word ∷ []) ∙ ap (λ l. bytes_of words ++ l) (one word)

take_empty : (m : ℕ) → take {A = ℕ} m [] ≡ []
take_empty zero = refl
take_empty (suc m) = refl

take_parts : (n m : ℕ) (xs : List ℕ) → take n xs ++ take m (drop n xs) ≡ take (n + m) xs
take_parts zero m xs = ap (λ k. take k xs) (let e : m ≡ 0 + m = omega arith in e)
take_parts (suc n) m [] = take_empty m ∙ sym (take_empty (suc n + m))
take_parts (suc n) m (x ∷ xs) = ap (λ l. x ∷ l) (take_parts n m xs) ∙ ap (λ k. take k (x ∷ xs)) (let e : suc (n + m) ≡ suc n + m = omega arith in e)

pub bytes_of-more : (bytes words after : List ℕ) (i word : ℕ) → bytes_of words ≡ take (8 * i) bytes → to_le_bytes w64 word ≡ take 8 (drop (8 * i) bytes) → after ≡ words
    ++ word ∷ [] → bytes_of after ≡ take (8 * (i + 1)) bytes
bytes_of-more bytes words after i word h is e =
    ap bytes_of e ∙ bytes_of-push words word ∙ (λ k. h k ++ is k) ∙ take_parts (8 * i) 8 bytes ∙ ap (λ k. take k bytes) (let n : 8 * i + 8 ≡ 8 * (i + 1) = omega arith in n)

pub FitIn64Bits-more : (words after : List ℕ) (word : ℕ) → FitIn64Bits words → word < 2 ^ 64 → after ≡ words ++ word ∷ [] → FitIn64Bits after
FitIn64Bits-more words after word fit small e =
    let one : FitIn64Bits (word ∷ []) = All-cons (λ w. w < 2 ^ 64) word [] small (All-nil (λ w. w < 2 ^ 64)) in
    subst (λ l. FitIn64Bits l) (sym e) (All-append (λ w. w < 2 ^ 64) words (word ∷ []) fit one)

-- ---- bytes have one reading

word_bytes : (word : ℕ) → length (to_le_bytes w64 word) ≡ 8
word_bytes word = search rules

pub length-bytes_of : (words : List ℕ) → length (bytes_of words) ≡ 8 * length words
length-bytes_of [] = refl
length-bytes_of (word ∷ words) =
    let eight = word_bytes word in
    let rest = length-bytes_of words in
    let both = length-append (to_le_bytes w64 word) (bytes_of words) in
    omega arith

same_word : (a b : ℕ) → a < 2 ^ 64 → b < 2 ^ 64 → to_le_bytes w64 a ≡ to_le_bytes w64 b → a ≡ b
same_word a b small other e = sym (from_le_bytes-to_le_bytes_8 a small) ∙ ap (from_le_bytes w64) e ∙ from_le_bytes-to_le_bytes_8 b other

first_bytes : (word : ℕ) (words : List ℕ) → take 8 (bytes_of (word ∷ words)) ≡ to_le_bytes w64 word
first_bytes word words = ap (λ n. take n (to_le_bytes w64 word ++ bytes_of words)) (sym (word_bytes word)) ∙ take-append_seam (to_le_bytes w64 word) (bytes_of words)

later_bytes : (word : ℕ) (words : List ℕ) → drop 8 (bytes_of (word ∷ words)) ≡ bytes_of words
later_bytes word words = ap (λ n. drop n (to_le_bytes w64 word ++ bytes_of words)) (sym (word_bytes word)) ∙ drop-append_seam (to_le_bytes w64 word) (bytes_of words)

not_empty : (word : ℕ) (words : List ℕ) → bytes_of (word ∷ words) ≡ [] → ⊥
not_empty word words e =
    let long = length-append (to_le_bytes w64 word) (bytes_of words) in
    let eight = word_bytes word in
    let none : length (to_le_bytes w64 word ++ bytes_of words) ≡ 0 = ap (λ l. length l) e in
    omega arith

pub one_reading : (first second : List ℕ) → FitIn64Bits first → FitIn64Bits second → bytes_of first ≡ bytes_of second → first ≡ second
one_reading [] [] fit other e = refl
one_reading [] (b ∷ second) fit other e = absurd (not_empty b second (sym e))
one_reading (a ∷ first) [] fit other e = absurd (not_empty a first e)
one_reading (a ∷ first) (b ∷ second) fit other e =
    let heads = same_word a b (All-head (λ w. w < 2 ^ 64) a first fit) (All-head (λ w. w < 2 ^ 64) b second other)
    (sym (first_bytes a first) ∙ ap (λ l. take 8 l) e ∙ first_bytes b second) in
    let tails = one_reading first second (All-tail (λ w. w < 2 ^ 64) a first fit) (All-tail (λ w. w < 2 ^ 64) b second other)
    (sym (later_bytes a first) ∙ ap (λ l. drop 8 l) e ∙ later_bytes b second) in
    λ i. heads i ∷ tails i
