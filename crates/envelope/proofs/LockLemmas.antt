-- Names of locks have no space and no newline; lines with such a name, and how they are cut.
use Rattle.std.proofs.Common.{◌≡◌, ℕ, Bool, true, false, List, [], ◌∷◌, ◌++◌, Option, None, Some, refl, sym, ap, ◌∙◌, inl, inr, append_assoc, length, length-append, take, drop, ◌+◌, rules, arith}
use Rattle.std.specs.Prelude.{codes, ◌&&◌}
use Rattle.std.specs.Fmt.{decimal}
use Rattle.std.specs.List.{list_all}
use Rattle.std.proofs.lemmas.Bool.{ne_eqb}
use Rattle.std.proofs.lemmas.List.{drop_at, take_at}
use Rattle.std.proofs.lemmas.Option.{same_Some}
use Rattle.texts.specs.Cuts.{cut_at}
use Rattle.texts.specs.Fields.{HasNoSpace, fields}
use Rattle.texts.proofs.CutLemmas.{Lacks, Lacks-append, cut_at-Some, cut_at-append}
use Rattle.envelope.specs.Headers.{part}
use Rattle.envelope.specs.LockLines.{AreLinePlaces, HasNoNewline, IsFirstLine, IsLineName, IsLockName, LockSaysFits, is_lock_byte, lock_at, lock_numbers, lock_says_line, lock_word, named_line}
use Rattle.envelope.specs.declared.locks.LockSays.{LockSays}
use Rattle.envelope.specs.declared.locks.LockSays.TheVariants.{Gone, Full, Held}
use Rattle.line_words.specs.Lines.{control_line}
use Rattle.line_words.proofs.SpacedLemmas.{Lacks-spaced, cut_of, number_lacks}

both : (p q : Bool) → (p && q) ≡ true → (p ≡ true) × (q ≡ true)
both true q h = (refl, h)
both false q h = absurd cc

lock_bytes-HasNoSpace : (bs : List ℕ) → list_all is_lock_byte bs ≡ true → HasNoSpace bs
lock_bytes-HasNoSpace [] h = tt
lock_bytes-HasNoSpace (b ∷ bs) h =
    let parts = both (is_lock_byte b) (list_all is_lock_byte bs) h in
    (λ e. let no = rw e at parts.0 in cc, lock_bytes-HasNoSpace bs parts.1)

-- a byte that is none of a lock's name is not in one
lock_bytes-Lacks : (mark : ℕ) (bs : List ℕ) → is_lock_byte mark ≡ false → list_all is_lock_byte bs ≡ true → Lacks mark bs
lock_bytes-Lacks mark [] none h = tt
lock_bytes-Lacks mark (b ∷ bs) none h =
    let parts = both (is_lock_byte b) (list_all is_lock_byte bs) h in
    (ne_eqb b mark (λ e. let no = rw e at parts.0 in cc), lock_bytes-Lacks mark bs none parts.1)

pub lock_name_has_no_space : (name : List ℕ) → IsLockName name → HasNoSpace name
lock_name_has_no_space name h = lock_bytes-HasNoSpace name h.bytes

pub lock_name_lacks_newline : (name : List ℕ) → IsLockName name → Lacks 10 name
lock_name_lacks_newline name h = lock_bytes-Lacks 10 name refl h.bytes

line_name_lacks_space : (name : List ℕ) → IsLineName name → Lacks 32 name
line_name_lacks_space name is = elim is [
  | inl lock ↦ lock_bytes-Lacks 32 name refl lock.bytes
  | inr dot ↦ rw dot (refl, tt)
]

-- a line is cut at the space behind its name
pub cut_of_line : (name line : List ℕ) → IsLineName name → cut_at 32 (name ++ (32 ∷ line)) ≡ Some (name, line)
cut_of_line name line is = cut_at-append 32 name line (line_name_lacks_space name is)

-- ---- the first line of a text

pair : (a b c d : List ℕ) → ◌≡◌ {A = Option (List ℕ × List ℕ)} (Some (a, b)) (Some (c, d)) → (a ≡ c) × (b ≡ d)
pair a b c d e =
    let same = same_Some (a, b) (c, d) e in
    (ap (λ (p : List ℕ × List ℕ). p.0) same, ap (λ (p : List ℕ × List ℕ). p.1) same)

-- the first line is what is in front of the first newline
first_is : (text first rest n l r : List ℕ) → Some (first, rest) ≡ cut_at 10 text → IsFirstLine text n l r → (first ≡ n ++ (32 ∷ l)) × (rest ≡ r)
first_is text first rest n l r cut is = pair first rest (n ++ (32 ∷ l)) r (cut ∙ is.first_line)

-- its parts are those in front of its first space and behind it
pub parts_are : (text first rest name line n l r : List ℕ) → Some (first, rest) ≡ cut_at 10 text → Some (name, line) ≡ cut_at 32 first → IsFirstLine text n l r
    → (name ≡ n) × (line ≡ l) × (rest ≡ r)
parts_are text first rest name line n l r cut at is =
    let whole = first_is text first rest n l r cut is in
    let parts = pair name line n l (at ∙ ap (cut_at 32) whole.0 ∙ cut_of_line n l is.named) in
    (parts.0, parts.1, whole.1)

pub has_space : (text first rest n l r : List ℕ) → Some (first, rest) ≡ cut_at 10 text → cut_at 32 first ≡ None → IsFirstLine text n l r → ⊥
has_space text first rest n l r cut none is =
    let whole = first_is text first rest n l r cut is in
    let no : ◌≡◌ {A = Option (List ℕ × List ℕ)} None (Some (n, l)) = sym none ∙ ap (cut_at 32) whole.0 ∙ cut_of_line n l is.named in
    cc

pub is_first : (text first rest name line : List ℕ) → Some (first, rest) ≡ cut_at 10 text → Some (name, line) ≡ cut_at 32 first → IsLineName name
    → IsFirstLine text name line rest
is_first text first rest name line cut at named = record {
  named = named;
  first_line = sym cut ∙ ap (λ (f : List ℕ). Some (f, rest)) (cut_at-Some 32 first (name, line) (sym at));
}

-- ---- what is written

newline_lacks : (bs : List ℕ) → HasNoNewline bs → Lacks 10 bs
newline_lacks [] h = tt
newline_lacks (b ∷ bs) h = (ne_eqb b 10 h.0, newline_lacks bs h.1)

line_name_lacks_newline : (name : List ℕ) → IsLineName name → Lacks 10 name
line_name_lacks_newline name is = elim is [
  | inl lock ↦ lock_name_lacks_newline name lock
  | inr dot ↦ rw dot (refl, tt)
]

pub cut_off : (name line rest : List ℕ) → IsLineName name → HasNoNewline line → IsFirstLine (named_line name line ++ rest) name line rest
cut_off name line rest named plain = record {
  named = named;
  first_line = ap (cut_at 10) (apart name line rest)
      ∙ cut_at-append 10 (name ++ (32 ∷ line)) rest (Lacks-append 10 name (32 ∷ line) (line_name_lacks_newline name named) (refl, newline_lacks line plain));
}
  where
    apart : (a b d : List ℕ) → (a ++ ((32 ∷ b) ++ 10 ∷ [])) ++ d ≡ (a ++ (32 ∷ b)) ++ 10 ∷ d
    apart a b d = simp append_assoc refl

says_word_lacks : (s : LockSays) → Lacks 10 (lock_word s)
says_word_lacks (Gone stamp) = search rules
says_word_lacks (Full stamp) = search rules
says_word_lacks (Held stamp milliseconds) = search rules

says_numbers_lack : (s : LockSays) → LockSaysFits s → Lacks 10 (fields (lock_numbers s))
says_numbers_lack (Gone stamp) h = Lacks-spaced (decimal stamp ∷ []) [] (number_lacks stamp h, tt) tt
says_numbers_lack (Full stamp) h = Lacks-spaced (decimal stamp ∷ []) [] (number_lacks stamp h, tt) tt
says_numbers_lack (Held stamp milliseconds) h =
    Lacks-spaced (decimal stamp ∷ decimal milliseconds ∷ []) [] (number_lacks stamp h.0, (number_lacks milliseconds h.1, tt)) tt

lock_says_lacks : (lock : List ℕ) (s : LockSays) → IsLockName lock → LockSaysFits s → Lacks 10 (lock_says_line lock s)
lock_says_lacks lock s named fits =
    Lacks-append 10 (lock_word s) ((32 ∷ lock) ++ fields (lock_numbers s)) (says_word_lacks s)
    (Lacks-append 10 (32 ∷ lock) (fields (lock_numbers s)) (refl, lock_name_lacks_newline lock named) (says_numbers_lack s fits))

pub says_cut_off : (lock : List ℕ) (s : LockSays) (rest : List ℕ) → IsLockName lock → LockSaysFits s
    → IsFirstLine (control_line (lock_says_line lock s) ++ rest) (codes ".") (lock_says_line lock s) rest
says_cut_off lock s rest named fits = record { named = inr refl; first_line = cut_of (lock_says_line lock s) rest (lock_says_lacks lock s named fits) }

-- ---- places

first_text : (text name line rest : List ℕ) → IsFirstLine text name line rest → text ≡ (name ++ (32 ∷ line)) ++ 10 ∷ rest
first_text text name line rest is = cut_at-Some 10 text (name ++ (32 ∷ line), rest) is.first_line

pub first_len : (text name line rest : List ℕ) → IsFirstLine text name line rest → length text ≡ length name + length line + 2 + length rest
first_len text name line rest is =
    let whole = ap (λ (t : List ℕ). length t) (first_text text name line rest is) in
    let outer = length-append (name ++ (32 ∷ line)) (10 ∷ rest) in
    let inner = length-append name (32 ∷ line) in
    omega arith

pub line_places : (text name line rest : List ℕ) → IsFirstLine text name line rest → AreLinePlaces text name line rest
line_places text name line rest is =
    let whole = first_text text name line rest is in
    let apart = whole ∙ append_assoc name (32 ∷ line) (10 ∷ rest) in
    let second = whole ∙ apart_at name line rest in
    let third = whole ∙ behind name line rest in
    record {
      name_is = ap (λ (t : List ℕ). take (length name) t) apart ∙ take_at name ((32 ∷ line) ++ 10 ∷ rest) (length name) refl;
      line_is = ap (λ (t : List ℕ). take (length line) (drop (length name + 1) t)) second
          ∙ ap (λ (t : List ℕ). take (length line) t) (drop_at (name ++ 32 ∷ []) (line ++ 10 ∷ rest) (length name + 1) (length-append name (32 ∷ [])))
          ∙ take_at line (10 ∷ rest) (length line) refl;
      rest_is = ap (λ (t : List ℕ). drop (length name + length line + 2) t) third
          ∙ drop_at (name ++ ((32 ∷ line) ++ 10 ∷ [])) rest (length name + length line + 2) (front_len name line);
    }
  where
    apart_at : (a b d : List ℕ) → (a ++ (32 ∷ b)) ++ 10 ∷ d ≡ (a ++ 32 ∷ []) ++ (b ++ 10 ∷ d)
    apart_at a b d = simp append_assoc refl

    behind : (a b d : List ℕ) → (a ++ (32 ∷ b)) ++ 10 ∷ d ≡ (a ++ ((32 ∷ b) ++ 10 ∷ [])) ++ d
    behind a b d = simp append_assoc refl

    front_len : (a b : List ℕ) → length (a ++ ((32 ∷ b) ++ 10 ∷ [])) ≡ length a + length b + 2
    front_len a b = let outer = length-append a ((32 ∷ b) ++ 10 ∷ []) in let inner = length-append (32 ∷ b) (10 ∷ []) in omega arith

pub lock_place : (lock : List ℕ) (s : LockSays) → part lock_at (length lock) (lock_says_line lock s) ≡ lock
lock_place lock (Gone stamp) = take_at lock (fields (stamp ∷ [])) (length lock) refl
lock_place lock (Full stamp) = take_at lock (fields (stamp ∷ [])) (length lock) refl
lock_place lock (Held stamp milliseconds) = take_at lock (fields (stamp ∷ milliseconds ∷ [])) (length lock) refl
