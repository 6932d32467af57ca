-- A line is read in one way, and so are lists of lines.
use Rattle.std.proofs.Common.{◌≡◌, ◌≢◌, ℕ, ◌+◌, ◌<◌, Option, Some, None, IfSome, List, [], ◌∷◌, ◌++◌, length, take, drop, get_or, refl, sym, ap, ap₂, ◌∙◌, append_assoc, arith}
use Rattle.std.specs.List.{position_or_len}
use Rattle.std.specs.Fmt.{decimal}
use Rattle.std.proofs.lemmas.Bool.{ne_eqb}
use Rattle.std.proofs.lemmas.Fmt.{decimal_injective}
use Rattle.std.proofs.lemmas.List.{append-nil, drop_more, take_at, drop_at}
use Rattle.std.proofs.lemmas.Slice.Eq.{text_from_reads}
use Rattle.texts.specs.Cuts.{cut_at}
use Rattle.texts.specs.Fields.{AllFit, HasNoSpace, IsBorder, fields}
use Rattle.texts.proofs.CutLemmas.{Lacks, Lacks-append, Lacks-decimal, cut_at-append}
use Rattle.texts.proofs.FieldLemmas.{IsBorder-fields, IsLeft, IsNext}
use Rattle.texts.proofs.Numbers.{HasNoSpace-decimal, is_space, position_or_len-space}
use Rattle.texts.specs.Forms.{AreFirst, BeginsWithNone, Form, HaveLines, IsForm, IsLineOf, IsWord, line_of, text_of}

-- Words and numbers

pub HasNoSpace-word : (word : List ℕ) → IsWord word → HasNoSpace word
HasNoSpace-word [] h = tt
HasNoSpace-word (b ∷ bs) h = (h.0.0, HasNoSpace-word bs h.1)

Lacks-word : (word : List ℕ) → IsWord word → Lacks 10 word
Lacks-word [] h = tt
Lacks-word (b ∷ bs) h = (ne_eqb b 10 h.0.1, Lacks-word bs h.1)

Lacks-fields : (ns : List ℕ) → AllFit ns → Lacks 10 (fields ns)
Lacks-fields [] fit = tt
Lacks-fields (n ∷ ns) fit = (refl, Lacks-append 10 (decimal n) (fields ns) (Lacks-decimal 10 n (omega arith) fit.0) (Lacks-fields ns fit.1))

-- two texts with the same first word
same_words : (w v a b : List ℕ) → HasNoSpace w → HasNoSpace v → IsBorder a → IsBorder b → w ++ a ≡ v ++ b → (w ≡ v) × (a ≡ b)
same_words w v a b hw hv ha hb e =
    let n : length w ≡ length v = sym (position_or_len-space w a hw ha) ∙ ap (position_or_len is_space) e ∙ position_or_len-space v b hv hb in
    (sym (take_at w a (length w) refl) ∙ ap (take (length w)) e ∙ take_at v b (length w) (sym n), sym (drop_at w a (length w) refl) ∙ ap (drop (length w)) e ∙ drop_at v b (length w) (sym n))

-- the same fields are those of the same numbers
same_numbers : (ms ns : List ℕ) → AllFit ms → AllFit ns → fields ms ≡ fields ns → ms ≡ ns
same_numbers [] [] hm hn e = refl
same_numbers [] (n ∷ ns) hm hn e = absurd cc
same_numbers (m ∷ ms) [] hm hn e = absurd cc
same_numbers (m ∷ ms) (n ∷ ns) hm hn e =
    let parts = same_words (decimal m) (decimal n) (fields ms) (fields ns) (HasNoSpace-decimal m hm.0) (HasNoSpace-decimal n hn.0) (IsBorder-fields ms) (IsBorder-fields ns) (ap (drop 1) e) in
    ap₂ (λ (x : ℕ) (xs : List ℕ). x ∷ xs) (decimal_injective m n hm.0 hn.0 parts.0) (same_numbers ms ns hm.1 hn.1 parts.1)

-- numbers of a known length

pub one_number : (ns : List ℕ) → length ns ≡ 1 → ns ≡ get_or ns 0 0 ∷ []
one_number ns len = text_from_reads ns (get_or ns 0 0 ∷ []) len (refl, tt)

pub two_numbers : (ns : List ℕ) → length ns ≡ 2 → ns ≡ get_or ns 0 0 ∷ get_or ns 1 0 ∷ []
two_numbers ns len = text_from_reads ns (get_or ns 0 0 ∷ get_or ns 1 0 ∷ []) len (refl, (refl, tt))

pub three_numbers : (ns : List ℕ) → length ns ≡ 3 → ns ≡ get_or ns 0 0 ∷ get_or ns 1 0 ∷ get_or ns 2 0 ∷ []
three_numbers ns len = text_from_reads ns (get_or ns 0 0 ∷ get_or ns 1 0 ∷ get_or ns 2 0 ∷ []) len (refl, (refl, (refl, tt)))

-- while something is left, there is a next number
pub next_field : (found rest ns ms : List ℕ) → rest ≢ [] → IsLeft found rest ns ms → (n : ℕ) × (more : List ℕ) × IsNext found rest ns n more
next_field found rest ns [] some left = absurd (some left.rest_is)
next_field found rest ns (n ∷ ms) some left =
    (n, ms, record { small = left.fit.0; fit = left.fit.1; numbers = left.numbers ∙ sym (append_assoc found (n ∷ []) ms); rest_is = left.rest_is })

-- once nothing is left, all numbers were found
pub all_found : (found rest ns ms : List ℕ) → rest ≡ [] → IsLeft found rest ns ms → found ≡ ns
all_found found rest ns [] none left = sym (left.numbers ∙ append-nil found)
all_found found rest ns (m ∷ ms) none left = let e = sym left.rest_is ∙ none in absurd cc

-- Lines

pub Lacks-line : {A : Type 0} (f : Form A) → IsForm f → (x : A) → f.fits x → Lacks 10 (line_of f x)
Lacks-line f is x h = Lacks-append 10 (f.word x) (fields (f.numbers x)) (Lacks-word (f.word x) (is.words x h)) (Lacks-fields (f.numbers x) (is.small x h))

-- the same line, of one form or of two, has the same word and numbers
pub same_parts : {A B : Type 0} (f : Form A) (g : Form B) → IsForm f → IsForm g → (x : A) (y : B) → f.fits x → g.fits y → line_of f x ≡ line_of g y
    → (f.word x ≡ g.word y) × (f.numbers x ≡ g.numbers y)
same_parts f g isf isg x y hx hy e =
    let parts = same_words (f.word x) (g.word y) (fields (f.numbers x)) (fields (g.numbers y)) (HasNoSpace-word (f.word x) (isf.words x hx)) (HasNoSpace-word (g.word y) (isg.words y hy))
    (IsBorder-fields (f.numbers x)) (IsBorder-fields (g.numbers y)) e in
    (parts.0, same_numbers (f.numbers x) (g.numbers y) (isf.small x hx) (isg.small y hy) parts.1)

-- what has the word and the numbers of a line has this line
pub line_written : {A : Type 0} (f : Form A) (line word rest numbers ns : List ℕ) (found : Option A) → line ≡ word ++ rest → rest ≡ fields ns → numbers ≡ ns
    → IfSome found (λ x. IsLineOf f x word numbers) → IfSome found (λ x. f.fits x × (line ≡ line_of f x))
line_written f line word rest numbers ns None whole heard same is = tt
line_written f line word rest numbers ns (Some x) whole heard same is =
    (is.fits, whole ∙ ap₂ (λ (w r : List ℕ). w ++ r) is.word_is (heard ∙ ap fields (sym same ∙ is.numbers_are)))

-- a line has one value
pub same_value : {A : Type 0} (f : Form A) → IsForm f → (x y : A) → f.fits x → f.fits y → line_of f x ≡ line_of f y → x ≡ y
same_value f is x y hx hy e = let parts = same_parts f f is is x y hx hy e in is.one x y hx hy parts.0 parts.1

-- where a text that begins with a line is cut
pub cut_line : (text line rest : List ℕ) → Lacks 10 line → text ≡ line ++ 10 ∷ rest → cut_at 10 text ≡ Some (line, rest)
cut_line text line rest lacks e = ap (cut_at 10) e ∙ cut_at-append 10 line rest lacks

-- the same, of a line of a value
pub cut_first : {A : Type 0} (f : Form A) → IsForm f → (text : List ℕ) (found : Option (List ℕ × List ℕ)) → found ≡ cut_at 10 text → (x : A) (rest : List ℕ) → f.fits x
    → text ≡ line_of f x ++ 10 ∷ rest → found ≡ Some (line_of f x, rest)
cut_first f is text found cut x rest h e = cut ∙ cut_line text (line_of f x) rest (Lacks-line f is x h) e

pub same_pair : {A B : Type 0} (a c : A) (b d : B) → ◌≡◌ {A = Option (A × B)} (Some (a, b)) (Some (c, d)) → (a ≡ c) × (b ≡ d)
same_pair {A} {B} a c b d e = let pair : ◌≡◌ {A = A × B} (a, b) (c, d) = cc in (ap (λ (x : A × B). x.0) pair, ap (λ (x : A × B). x.1) pair)

-- two texts that begin with lines are the same lines and the same rests
pub same_cut : (line rest other more : List ℕ) → Lacks 10 line → Lacks 10 other → line ++ 10 ∷ rest ≡ other ++ 10 ∷ more → (line ≡ other) × (rest ≡ more)
same_cut line rest other more one two e =
    same_pair line other rest more (sym (cut_line (line ++ 10 ∷ rest) line rest one refl) ∙ cut_line (line ++ 10 ∷ rest) other more two e)

pub next_parts : {A B : Type 0} (f : Form A) (g : Form B) → IsForm f → IsForm g → (x : A) (y : B) (rest more : List ℕ) → f.fits x → g.fits y
    → line_of f x ++ 10 ∷ rest ≡ line_of g y ++ 10 ∷ more → (line_of f x ≡ line_of g y) × (rest ≡ more)
next_parts f g isf isg x y rest more hx hy e = same_cut (line_of f x) rest (line_of g y) more (Lacks-line f isf x hx) (Lacks-line g isg y hy) e

pub same_next : {A : Type 0} (f : Form A) → IsForm f → (x y : A) (rest more : List ℕ) → f.fits x → f.fits y → line_of f x ++ 10 ∷ rest ≡ line_of f y ++ 10 ∷ more → (x ≡ y) × (rest ≡ more)
same_next f is x y rest more hx hy e = let parts = next_parts f f is is x y rest more hx hy e in (same_value f is x y hx hy parts.0, parts.1)

-- a text that begins with a line of one form begins with none of another form, if the word is none of it
pub no_other : {A B : Type 0} (f : Form A) (g : Form B) → IsForm f → IsForm g → (x : A) (rest : List ℕ) → f.fits x → ((y : B) → f.word x ≢ g.word y) → BeginsWithNone g (line_of f x ++ 10 ∷ rest)
no_other f g isf isg x rest hx apart = λ y more hy e. apart y (same_parts f g isf isg x y hx hy (next_parts f g isf isg x y rest more hx hy e).0).0

-- Lists of lines

pub text_of-cons : {A : Type 0} (f : Form A) (x : A) (xs : List A) (rest : List ℕ) → text_of f (x ∷ xs) ++ rest ≡ line_of f x ++ 10 ∷ (text_of f xs ++ rest)
text_of-cons f x xs rest = append_assoc (line_of f x) (10 ∷ text_of f xs) rest

-- one more line at the end
pub text_of-push : {A : Type 0} (f : Form A) (xs : List A) (x : A) (rest : List ℕ) → text_of f (xs ++ x ∷ []) ++ rest ≡ text_of f xs ++ (line_of f x ++ 10 ∷ rest)
text_of-push f [] x rest = append_assoc (line_of f x) (10 ∷ []) rest
text_of-push f (y ∷ ys) x rest =
    append_assoc (line_of f y) (10 ∷ text_of f (ys ++ x ∷ [])) rest
    ∙ ap (λ (t : List ℕ). line_of f y ++ 10 ∷ t) (text_of-push f ys x rest)
    ∙ sym (append_assoc (line_of f y) (10 ∷ text_of f ys) (line_of f x ++ 10 ∷ rest))

-- one more line at the end of what was read
pub text_of-next : {A : Type 0} (f : Form A) (xs : List A) (x : A) (text rest after : List ℕ) → text ≡ text_of f xs ++ rest
    → rest ≡ line_of f x ++ 10 ∷ after → text ≡ text_of f (xs ++ x ∷ []) ++ after
text_of-next f xs x text rest after whole next = whole ∙ ap (λ (t : List ℕ). text_of f xs ++ t) next ∙ sym (text_of-push f xs x after)

-- one more line at the end of what was written
pub text_of-more : {A : Type 0} (f : Form A) (xs : List A) (i : ℕ) (d : A) (written more whole : List ℕ) → i < length xs → more ≡ written ++ (line_of f (get_or xs i d) ++ 10 ∷ [])
    → written ++ text_of f (drop i xs) ≡ whole → more ++ text_of f (drop (i + 1) xs) ≡ whole
text_of-more f xs i d written more whole lt pushed left =
    let x = get_or xs i d in
    let rest = text_of f (drop (i + 1) xs) in
    ap (λ (t : List ℕ). t ++ rest) pushed
    ∙ append_assoc written (line_of f x ++ 10 ∷ []) rest
    ∙ ap (λ (t : List ℕ). written ++ t) (append_assoc (line_of f x) (10 ∷ []) rest ∙ sym (ap (text_of f) (drop_more xs i d lt)))
    ∙ left

pub HaveLines-push : {A : Type 0} (f : Form A) (xs : List A) (x : A) → HaveLines f xs → f.fits x → HaveLines f (xs ++ x ∷ [])
HaveLines-push f [] x h k = (k, tt)
HaveLines-push f (y ∷ ys) x h k = (h.0, HaveLines-push f ys x h.1 k)

pub some_text : (front rest : List ℕ) → front ++ 10 ∷ rest ≢ []
some_text [] rest = λ e. cc
some_text (b ∷ front) rest = λ e. cc

pub no_line : {A : Type 0} (f : Form A) → BeginsWithNone f []
no_line f = λ x more h e. some_text (line_of f x) more (sym e)

-- a text begins with one list of lines after which no other one comes
pub same_lines : {A : Type 0} (f : Form A) → IsForm f → (text : List ℕ) (xs ys : List A) (u v : List ℕ) → AreFirst f text xs u → AreFirst f text ys v → (xs ≡ ys) × (u ≡ v)
same_lines {A} f is text xs ys u v a b = by xs ys a.have_lines b.have_lines (sym a.text_is ∙ b.text_is)
  where
    by : (xs ys : List A) → HaveLines f xs → HaveLines f ys → text_of f xs ++ u ≡ text_of f ys ++ v → (xs ≡ ys) × (u ≡ v)
    by [] [] hx hy e = (refl, e)
    by [] (y ∷ ys) hx hy e = absurd (a.no_more y (text_of f ys ++ v) hy.0 (e ∙ text_of-cons f y ys v))
    by (x ∷ xs) [] hx hy e = absurd (b.no_more x (text_of f xs ++ u) hx.0 (sym e ∙ text_of-cons f x xs u))
    by (x ∷ xs) (y ∷ ys) hx hy e =
        let first = same_next f is x y (text_of f xs ++ u) (text_of f ys ++ v) hx.0 hy.0 (sym (text_of-cons f x xs u) ∙ e ∙ text_of-cons f y ys v) in
        let others = by xs ys hx.1 hy.1 first.1 in
        (ap₂ (λ (z : A) (zs : List A). z ∷ zs) first.0 others.0, others.1)

-- the lines of these values, and nothing behind them
pub all_lines : {A : Type 0} (f : Form A) (xs : List A) (text : List ℕ) → HaveLines f xs → text ≡ text_of f xs → AreFirst f text xs []
all_lines f xs text h e = record { have_lines = h; text_is = e ∙ sym (append-nil (text_of f xs)); no_more = no_line f }
