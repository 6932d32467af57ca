-- the words of a row that is lifted
use Rattle.std.proofs.Common.{◌≡◌, ℕ, ◌≤◌, Bool, List, [], ◌∷◌, get_or, refl, sym, ap, subst, ◌∙◌, Option, Some, None, arith}
use Rattle.std.specs.Prelude.{max}
use Rattle.numbers.specs.Bounds.{max_limit}
use Rattle.sessions.specs.Rows.{Row}
use Rattle.session_rows.specs.Saved.{IsBounded, session_words, words_of}
use Rattle.lost_rows.specs.Relearned.{lifted}

-- the last three words are those of the session
last_three : (epoch base top : ℕ) (name : Option ℕ) (again : Bool)
    → get_or (epoch ∷ base ∷ top ∷ session_words name again) 3 0 ∷ get_or (epoch ∷ base ∷ top ∷ session_words name again) 4 0
    ∷ get_or (epoch ∷ base ∷ top ∷ session_words name again) 5 0 ∷ [] ≡ session_words name again
last_three epoch base top None again = refl
last_three epoch base top (Some name) again = refl

-- six words, of which the second and the third are others
abbrev with_two : List ℕ → ℕ → ℕ → List ℕ
with_two words base top = get_or words 0 0 ∷ base ∷ top ∷ get_or words 3 0 ∷ get_or words 4 0 ∷ get_or words 5 0 ∷ []

pub lifted_words : (r : Row) (base stamp : ℕ) (saved : List ℕ) (least top : ℕ) → saved ≡ words_of r → least ≡ max (get_or saved 1 0) base
    → top ≡ max (get_or saved 2 0) stamp
    → with_two saved least top ≡ words_of (lifted r base stamp)
lifted_words r base stamp saved least top e f g =
    subst (λ (ws : List ℕ). least ≡ max (get_or ws 1 0) base → top ≡ max (get_or ws 2 0) stamp → with_two ws least top ≡ words_of (lifted r base stamp)) (sym e)
    (λ low high.
    ap (λ (n : ℕ). with_two (words_of r) n top) low
    ∙ (ap (λ (n : ℕ). with_two (words_of r) (max r.base base) n) high
    ∙ ap (λ (ws : List ℕ). r.epoch ∷ max r.base base ∷ max r.reserved stamp ∷ ws) (last_three r.epoch r.base r.reserved r.session r.again)))
    f g

pub lifted_bounds : (r : Row) (base stamp : ℕ) → IsBounded r → base ≤ stamp → stamp ≤ max_limit → IsBounded (lifted r base stamp)
lifted_bounds r base stamp is few most =
    let sound = is.sound in
    let less = is.few in
    record { sound = both r.base r.reserved base stamp sound few; few = top r.reserved stamp less most; free = is.free }
  where
    both : (a b c d : ℕ) → a ≤ b → c ≤ d → max a c ≤ max b d
    both a b c d e f = omega arith

    top : (b d : ℕ) → b ≤ max_limit → d ≤ max_limit → max b d ≤ max_limit
    top b d e f = omega arith
