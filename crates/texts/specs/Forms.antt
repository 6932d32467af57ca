-- Lines: a word, and then numbers, each with a space in front. The form of a kind of line says which
-- word and which numbers each value has, and which values have a line.
use Rattle.std.specs.Prelude.{ℕ, ◌≡◌, ◌≢◌, ◌≤◌, List, ◌∷◌, ◌++◌, length, map}
use Rattle.std.specs.List.{AllByRecursion}
use Rattle.texts.specs.Fields.{AllFit, fields}
use Rattle.texts.specs.Lines.{text_of_lines}

-- the form of a kind of line
pub record Form (A : Type 0) : Type 1 where
  -- the word of a value
  pub word : A → List ℕ
  -- the numbers of a value
  pub numbers : A → List ℕ
  -- whether a value has a line
  pub fits : A → Type 0

-- no byte of a word is a space or a newline
abbrev pub IsWord : List ℕ → Type 0
IsWord word = AllByRecursion (λ b. (b ≢ 32) × (b ≢ 10)) word

-- the words of this form are words, its numbers are few and small, and belong to one value
pub record IsForm {A : Type 0} (f : Form A) : Type 0 where
  pub words : (x : A) → f.fits x → IsWord (f.word x)
  pub small : (x : A) → f.fits x → AllFit (f.numbers x)
  pub few : (x : A) → f.fits x → length (f.numbers x) ≤ 5
  pub one : (x y : A) → f.fits x → f.fits y → f.word x ≡ f.word y → f.numbers x ≡ f.numbers y → x ≡ y

-- the value has a line, of this word and these numbers
pub record IsLineOf {A : Type 0} (f : Form A) (x : A) (word numbers : List ℕ) : Type 0 where
  pub fits : f.fits x
  pub word_is : word ≡ f.word x
  pub numbers_are : numbers ≡ f.numbers x

-- the one line of a value, without its newline
abbrev pub line_of : {A : Type 0} → Form A → A → List ℕ
line_of f x = f.word x ++ fields (f.numbers x)

-- the lines of these values, each with a newline at its end
abbrev pub text_of : {A : Type 0} → Form A → List A → List ℕ
text_of f xs = text_of_lines (map (line_of f) xs)

-- each of these values has a line
abbrev pub HaveLines : {A : Type 0} → Form A → List A → Type 0
HaveLines f xs = AllByRecursion f.fits xs

-- the text begins with no line of this form
abbrev pub BeginsWithNone : {A : Type 0} → Form A → List ℕ → Type 0
BeginsWithNone {A} f text = (x : A) (more : List ℕ) → f.fits x → text ≢ line_of f x ++ 10 ∷ more

-- the text begins with the line of x, and goes on with `rest`
pub record IsNext {A : Type 0} (f : Form A) (text : List ℕ) (x : A) (rest : List ℕ) : Type 0 where
  pub has_line : f.fits x
  pub text_is : text ≡ line_of f x ++ 10 ∷ rest

-- the text begins with the lines of xs, and goes on with `rest`, which begins with no such line
pub record AreFirst {A : Type 0} (f : Form A) (text : List ℕ) (xs : List A) (rest : List ℕ) : Type 0 where
  pub have_lines : HaveLines f xs
  pub text_is : text ≡ text_of f xs ++ rest
  pub no_more : BeginsWithNone f rest
