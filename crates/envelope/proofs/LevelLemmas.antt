-- The word of a level, and words that a reader ignores.
use Rattle.std.proofs.Common.{◌≡◌, ◌≢◌, ◌<◌, ◌^◌, ◌⊎◌, inl, inr, ℕ, List, [], ◌∷◌, ◌++◌, Some, None, refl, sym, ap, ◌∙◌, rules, arith}
use Rattle.std.specs.Prelude.{codes, option_map}
use Rattle.std.specs.List.{AllByRecursion}
use Rattle.std.specs.Fmt.{decimal}
use Rattle.std.proofs.lemmas.Bool.{cases_eq, ne_eqb}
use Rattle.texts.specs.Cuts.{cut_at}
use Rattle.texts.specs.Fields.{HasNoSpace, IsBorder}
use Rattle.texts.proofs.CutLemmas.{cut_at-append}
use Rattle.texts.proofs.Numbers.{HasNoSpace-decimal}
use Rattle.envelope.specs.Headers.{AreIgnored, IsIgnored, IsOther, key_of, level_words}
use Rattle.line_words.specs.Lines.{spaced}

pub IsBorder-spaced : (words : List (List ℕ)) → IsBorder (spaced words [])
IsBorder-spaced [] = tt
IsBorder-spaced (w ∷ ws) = refl

pub IsBorder-ignored : (tail : List ℕ) → AreIgnored tail → IsBorder tail
IsBorder-ignored tail h = rw h.2 (IsBorder-spaced h.0)

-- there is a first word, which is ignored
pub record IsOtherWord (tail : List ℕ) : Type 0 where
  pub word : List ℕ
  pub more : List ℕ
  pub ignored : IsIgnored word
  pub border : IsBorder more
  pub others : AreIgnored more
  pub is : tail ≡ (32 ∷ word) ++ more

pub ignored_cases : (tail : List ℕ) → AreIgnored tail → (tail ≡ []) ⊎ IsOtherWord tail
ignored_cases tail h = by h.0 h.1 h.2
  where
    by : (words : List (List ℕ)) → AllByRecursion IsIgnored words → tail ≡ spaced words [] → (tail ≡ []) ⊎ IsOtherWord tail
    by [] all e = inl e
    by (w ∷ ws) all e = inr (record { word = w; more = spaced ws []; ignored = all.0; border = IsBorder-spaced ws; others = (ws, all.1, refl); is = e })

-- the level is 0, and has no word
pub record HasNoLevel (n : ℕ) (bytes rest : List ℕ) : Type 0 where
  pub zero_level : n ≡ 0
  pub same : bytes ≡ rest
  pub cases : (bytes ≡ []) ⊎ IsOtherWord bytes

-- the level has a word
pub record HasLevel (n : ℕ) (bytes rest : List ℕ) : Type 0 where
  pub some : 0 < n
  pub border : IsBorder rest
  pub is : bytes ≡ (32 ∷ (codes "level=" ++ decimal n)) ++ rest

pub level_cases : (n : ℕ) (bytes rest : List ℕ) → AreIgnored rest → bytes ≡ spaced (level_words n) rest → HasNoLevel n bytes rest ⊎ HasLevel n bytes rest
level_cases n bytes rest h e =
    elim (cases_eq n 0) [
      | inl z ↦ inl (let same = rw z at e in record { zero_level = z; same = same; cases = rw same (ignored_cases rest h) })
      | inr nz ↦ inr (let test = ne_eqb n 0 nz in record { some = omega arith; border = IsBorder-ignored rest h; is = rw test at e })
    ]

pub IsBorder-level : (n : ℕ) (rest : List ℕ) → AreIgnored rest → IsBorder (spaced (level_words n) rest)
IsBorder-level n rest h =
    elim (cases_eq n 0) [
      | inl z ↦ rw z (IsBorder-ignored rest h)
      | inr nz ↦ rw (ne_eqb n 0 nz) refl
    ]

pub level_word_plain : (n : ℕ) → n < 2 ^ 64 → HasNoSpace (codes "level=" ++ decimal n)
level_word_plain n small = let d = HasNoSpace-decimal n small in search (rules, d)

pub level_word_cut : (n : ℕ) → cut_at 61 (codes "level=" ++ decimal n) ≡ Some (codes "level", decimal n)
level_word_cut n = cut_at-append 61 (codes "level") (decimal n) (search rules)

some_pair : (a b : List ℕ) (x : List ℕ × List ℕ) → Some (a, b) ≡ Some x → (a ≡ x.0) × (b ≡ x.1)
some_pair a b x e = (cc, cc)

-- what a cut of the level's word gives
pub cut_of_level : (n : ℕ) (word key value : List ℕ) → word ≡ codes "level=" ++ decimal n → Some (key, value) ≡ cut_at 61 word → (key ≡ codes "level") × (value ≡ decimal n)
cut_of_level n word key value is e = some_pair key value (codes "level", decimal n) (e ∙ ap (cut_at 61) is ∙ level_word_cut n)

pub none_of_level : (n : ℕ) (word : List ℕ) → word ≡ codes "level=" ++ decimal n → None ≡ cut_at 61 word → ⊥
none_of_level n word is e = let no = e ∙ ap (cut_at 61) is ∙ level_word_cut n in cc

-- the key of an ignored word is not `level`
pub not_level : (word other key value : List ℕ) → word ≡ other → IsIgnored other → Some (key, value) ≡ cut_at 61 word → key ≢ codes "level"
not_level word other key value same h e is =
    let o : IsOther (key_of other) = h.1 in
    let found : key_of other ≡ Some key = ap (λ w. key_of w) (sym same) ∙ ap (option_map {U = List ℕ} (λ (x : List ℕ × List ℕ). x.0)) (sym e) in
    (rw found at o).1 is
