-- The text of a record, each line with a newline at its end.
--
--     quorum-record 1
--     draw CLIENT TICKET QUORUM        any number of draws,
--     pass CLIENT NUMBER               and then any number of passes
--     register NUMBER
--
-- CLIENT is at most 63, QUORUM at most 4095, and the others are below 2^64. A number is decimal,
-- without a leading zero. One space is between two words.
use Rattle.std.specs.Prelude.{ℕ, ◌≡◌, ◌≢◌, ◌<◌, ◌≤◌, ◌+◌, ◌^◌, ◌⊎◌, List, [], ◌∷◌, ◌++◌, length, codes}
use Rattle.std.proofs.Common.{ap, arith, get_or, rules}
use Rattle.texts.specs.Forms.{AreFirst, BeginsWithNone, Form, HaveLines, IsForm, IsNext, line_of, text_of}
use Rattle.replay.specs.declared.fault.ReplayFault.{ReplayFault}
use Rattle.replay.specs.declared.fault.ReplayFault.TheVariants.{BadLine, OutOfMemory}
use Rattle.run_outcome.specs.Entries.{Draw, Pass}
use Rattle.replay.specs.Records.{Entries}

-- The text

-- the first line
abbrev pub title_line : List ℕ
title_line = codes "quorum-record 1"

-- the line of a draw: client, ticket and quorum
abbrev pub draw_form : Form Draw
draw_form = record {
  word = λ d. codes "draw";
  numbers = λ d. d.0 ∷ d.1 ∷ d.2 ∷ [];
  fits = λ d. (d.0 ≤ 63) × (d.1 < 2 ^ 64) × (d.2 ≤ 4095);
}

-- the line of a pass: client and number
abbrev pub pass_form : Form Pass
pass_form = record {
  word = λ p. codes "pass";
  numbers = λ p. p.0 ∷ p.1 ∷ [];
  fits = λ p. (p.0 ≤ 63) × (p.1 < 2 ^ 64);
}

-- the last line: the register
abbrev pub register_form : Form ℕ
register_form = record {
  word = λ n. codes "register";
  numbers = λ n. n ∷ [];
  fits = λ n. n < 2 ^ 64;
}

-- the lines of these draws, each with a newline at its end
abbrev pub draws_text : List Draw → List ℕ
draws_text draws = text_of draw_form draws

-- the lines of these passes, each with a newline at its end
abbrev pub passes_text : List Pass → List ℕ
passes_text passes = text_of pass_form passes

-- the last line, with its newline
abbrev pub register_text : ℕ → List ℕ
register_text n = line_of register_form n ++ 10 ∷ []

-- what follows the first line
abbrev pub body_text : Entries → List ℕ
body_text e = draws_text e.draws ++ (passes_text e.passes ++ register_text e.register)

-- the one text of a record
abbrev pub record_text : Entries → List ℕ
record_text e = title_line ++ 10 ∷ body_text e

-- a record that has a text
pub record HasText (e : Entries) : Type 0 where
  pub draws : HaveLines draw_form e.draws
  pub passes : HaveLines pass_form e.passes
  pub register : register_form.fits e.register

-- The first bad line

-- the body begins with these draws, then with these passes, as far as there are any, and goes on with `last`
pub record IsCut (body : List ℕ) (draws : List Draw) (passes : List Pass) (last : List ℕ) : Type 0 where
  pub rest : List ℕ
  pub draws_are : AreFirst draw_form body draws rest
  pub passes_are : AreFirst pass_form rest passes last

-- what follows the draws and the passes is bad: no register's line comes next, or the text goes on after it
abbrev pub IsBadEnd : List ℕ → ℕ → Type 0
IsBadEnd last place =
    (BeginsWithNone register_form last × (place ≡ 2))
    ⊎ ((n : ℕ) × (rest : List ℕ) × IsNext register_form last n rest × (rest ≢ []) × (place ≡ 3))

-- the number of the bad line in what follows the first line: it is missing, malformed or out of
-- place; the first line of `body` has number 2
pub record IsBadBody (body : List ℕ) (line : ℕ) : Type 0 where
  pub draws : List Draw
  pub passes : List Pass
  pub last : List ℕ
  pub cut : IsCut body draws passes last
  pub place : ℕ
  pub bad : IsBadEnd last place
  pub line_is : line ≡ length draws + length passes + place

-- the number, from 1, of the first bad line of a text
abbrev pub IsFirstBad : List ℕ → ℕ → Type 0
IsFirstBad text line =
    ((line ≡ 1) × ((body : List ℕ) → text ≢ title_line ++ 10 ∷ body))
    ⊎ ((body : List ℕ) × (text ≡ title_line ++ 10 ∷ body) × IsBadBody body line)

-- the fault is the text's first bad line, or memory ran out
abbrev pub IsBadRecord : List ℕ → ReplayFault → Type 0
IsBadRecord text (BadLine line) = IsFirstBad text line
IsBadRecord text OutOfMemory = Unit {0}
IsBadRecord text fault = ⊥

-- the same for what follows the first line
abbrev pub IsBadRest : List ℕ → ReplayFault → Type 0
IsBadRest body (BadLine line) = IsBadBody body line
IsBadRest body OutOfMemory = Unit {0}
IsBadRest body fault = ⊥

-- The forms are those of lines

pub draws_have_form : IsForm draw_form
draws_have_form = record {
  words = λ d h. search rules;
  small = λ d h. (omega (arith, h.0), (h.1, (omega (arith, h.2), tt)));
  few = λ d h. omega arith;
  one = λ d e hd he word numbers. ap (λ (ns : List ℕ). (get_or ns 0 0, get_or ns 1 0, get_or ns 2 0)) numbers;
}

pub passes_have_form : IsForm pass_form
passes_have_form = record {
  words = λ p h. search rules;
  small = λ p h. (omega (arith, h.0), (h.1, tt));
  few = λ p h. omega arith;
  one = λ p q hp hq word numbers. ap (λ (ns : List ℕ). (get_or ns 0 0, get_or ns 1 0)) numbers;
}

pub registers_have_form : IsForm register_form
registers_have_form = record {
  words = λ n h. search rules;
  small = λ n h. (h, tt);
  few = λ n h. omega arith;
  one = λ m n hm hn word numbers. ap (λ (ns : List ℕ). get_or ns 0 0) numbers;
}
