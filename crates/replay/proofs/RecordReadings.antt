-- The text of a record is read in one way.
use Rattle.std.proofs.Common.{◌≡◌, ◌≢◌, ℕ, ◌+◌, List, [], ◌∷◌, ◌++◌, length, drop, get_or, refl, sym, ap, ap₂, ◌∙◌, append_assoc, inl, inr, arith}
use Rattle.std.specs.Prelude.{IfErr, IfOk, MatchResult, Result, Ok, Err}
use Rattle.std.proofs.lemmas.List.{append-nil}
use Rattle.texts.specs.Forms.{AreFirst, BeginsWithNone, HaveLines, line_of}
use Rattle.texts.proofs.LineLemmas.{no_other, same_lines, same_next, text_of-cons}
use Rattle.run_outcome.specs.declared.record.RunRecord.{RunRecord}
use Rattle.replay.specs.declared.fault.ReplayFault.{ReplayFault}
use Rattle.replay.specs.declared.fault.ReplayFault.TheVariants.{BadLine, OutOfMemory}
use Rattle.run_outcome.specs.Entries.{Draw, Pass}
use Rattle.replay.specs.Records.{Entries, entries_of}
use Rattle.replay.specs.RecordTexts.{HasText, IsBadBody, IsBadEnd, IsBadRest, IsCut, IsFirstBad, body_text, draw_form, draws_have_form, draws_text, pass_form, passes_have_form, passes_text}
use Rattle.replay.specs.RecordTexts.{record_text, register_form, registers_have_form, title_line}

same_cut : (body : List ℕ) (d e : List Draw) (p q : List Pass) (x y : List ℕ) → IsCut body d p x → IsCut body e q y → (d ≡ e) × (p ≡ q) × (x ≡ y)
same_cut body d e p q x y a b =
    let draws = same_lines draw_form draws_have_form body d e a.rest b.rest a.draws_are b.draws_are in
    let passes_are : AreFirst pass_form a.rest q y = rw draws.1 b.passes_are in
    let passes = same_lines pass_form passes_have_form a.rest p q x y a.passes_are passes_are in
    (draws.0, passes.0, passes.1)

-- no draw begins the lines of passes and a register
no_draw : (passes : List Pass) (n : ℕ) (rest : List ℕ) → HaveLines pass_form passes → register_form.fits n → BeginsWithNone draw_form (passes_text passes ++ (line_of register_form n ++ 10 ∷ rest))
no_draw [] n rest h hn = no_other register_form draw_form registers_have_form draws_have_form n rest hn (λ d e. cc)
no_draw (p ∷ passes) n rest h hn =
    let behind = line_of register_form n ++ 10 ∷ rest in
    let apart : (d : Draw) → pass_form.word p ≢ draw_form.word d = λ d e. (let first : ◌≡◌ {A = ℕ} 112 100 = ap (λ (word : List ℕ). get_or word 0 0) e in omega arith) in
    rw (text_of-cons pass_form p passes behind) (no_other pass_form draw_form passes_have_form draws_have_form p (passes_text passes ++ behind) h.0 apart)

body-whole : (e : Entries) (rest : List ℕ) → body_text e ++ rest ≡ draws_text e.draws ++ (passes_text e.passes ++ (line_of register_form e.register ++ 10 ∷ rest))
body-whole e rest =
    let register = line_of register_form e.register ++ 10 ∷ [] in
    append_assoc (draws_text e.draws) (passes_text e.passes ++ register) rest
    ∙ ap (λ (t : List ℕ). draws_text e.draws ++ t) (append_assoc (passes_text e.passes) register rest)
    ∙ ap (λ (t : List ℕ). draws_text e.draws ++ (passes_text e.passes ++ t)) (append_assoc (line_of register_form e.register) (10 ∷ []) rest)

cut_record : (body rest : List ℕ) (e : Entries) → HasText e → body ≡ body_text e ++ rest → IsCut body e.draws e.passes (line_of register_form e.register ++ 10 ∷ rest)
cut_record body rest e h is =
    record {
      rest = passes_text e.passes ++ (line_of register_form e.register ++ 10 ∷ rest);
      draws_are = record { have_lines = h.draws; text_is = is ∙ body-whole e rest; no_more = no_draw e.passes e.register rest h.passes h.register };
      passes_are = record {
        have_lines = h.passes;
        text_is = refl;
        no_more = no_other register_form pass_form registers_have_form passes_have_form e.register rest h.register (λ p w. cc);
      };
    }

-- a record's body begins no other one
same_body : (body : List ℕ) (a b : Entries) (x y : List ℕ) → HasText a → HasText b → body ≡ body_text a ++ x → body ≡ body_text b ++ y → (a ≡ b) × (x ≡ y)
same_body body a b x y ha hb ea eb =
    let same = same_cut body a.draws b.draws a.passes b.passes (line_of register_form a.register ++ 10 ∷ x) (line_of register_form b.register ++ 10 ∷ y) (cut_record body x a ha ea)
    (cut_record body y b hb eb) in
    let register = same_next register_form registers_have_form a.register b.register x y ha.register hb.register same.2 in
    ((λ i. record { draws = same.0 i; passes = same.1 i; register = register.0 i }), register.1)

-- a body has one bad line, or none

same_end : (last : List ℕ) (j k : ℕ) → IsBadEnd last j → IsBadEnd last k → j ≡ k
same_end last j k (inl a) (inl b) = a.1 ∙ sym b.1
same_end last j k (inl a) (inr b) = absurd (a.0 b.0 b.1 b.2.has_line b.2.text_is)
same_end last j k (inr a) (inl b) = absurd (b.0 a.0 a.1 a.2.has_line a.2.text_is)
same_end last j k (inr a) (inr b) = a.4 ∙ sym b.4

same_bad_body : (body : List ℕ) (m n : ℕ) → IsBadBody body m → IsBadBody body n → m ≡ n
same_bad_body body m n a b =
    let same = same_cut body a.draws b.draws a.passes b.passes a.last b.last a.cut b.cut in
    let bad : IsBadEnd a.last b.place = rw same.2 b.bad in
    a.line_is
    ∙ ap₂ (λ (d : List Draw) (p : List Pass). length d + length p + a.place) same.0 same.1
    ∙ ap (λ (k : ℕ). length b.draws + length b.passes + k) (same_end a.last a.place b.place a.bad bad)
    ∙ sym b.line_is

whole_end : (n : ℕ) (place : ℕ) → register_form.fits n → ¬ (IsBadEnd (line_of register_form n ++ 10 ∷ []) place)
whole_end n place h (inl a) = a.0 n [] h refl
whole_end n place h (inr a) = a.3 (sym (same_next register_form registers_have_form n a.0 [] a.1 h a.2.has_line a.2.text_is).1)

never_bad_body : (body : List ℕ) (line : ℕ) (e : Entries) → IsBadBody body line → HasText e → body ≢ body_text e
never_bad_body body line e a h = λ is.
    let whole = cut_record body [] e h (is ∙ sym (append-nil (body_text e))) in
    let same = same_cut body a.draws e.draws a.passes e.passes a.last (line_of register_form e.register ++ 10 ∷ []) a.cut whole in
    let bad : IsBadEnd (line_of register_form e.register ++ 10 ∷ []) a.place = rw (sym same.2) a.bad in
    whole_end e.register a.place h.register bad

-- Texts

same_behind : (x y : List ℕ) → title_line ++ 10 ∷ x ≡ title_line ++ 10 ∷ y → x ≡ y
same_behind x y e = ap (drop 16) e

-- a record's text begins no longer one, and is no other one's
pub record_text-unique : (a b : Entries) (more : List ℕ) → HasText a → HasText b → record_text a ++ more ≡ record_text b → (a ≡ b) × (more ≡ [])
record_text-unique a b more ha hb e =
    let bodies = same_behind (body_text a ++ more) (body_text b) (sym (append_assoc title_line (10 ∷ body_text a) more) ∙ e) in
    same_body (body_text a ++ more) a b more [] ha hb refl (bodies ∙ sym (append-nil (body_text b)))

pub IsFirstBad-unique : (text : List ℕ) (m n : ℕ) → IsFirstBad text m → IsFirstBad text n → m ≡ n
IsFirstBad-unique text m n (inl a) (inl b) = a.0 ∙ sym b.0
IsFirstBad-unique text m n (inl a) (inr b) = absurd (a.1 b.0 b.1)
IsFirstBad-unique text m n (inr a) (inl b) = absurd (b.1 a.0 a.1)
IsFirstBad-unique text m n (inr a) (inr b) =
    let bodies = same_behind b.0 a.0 (sym b.1 ∙ a.1) in
    same_bad_body a.0 m n a.2 (rw (sym bodies) b.2)

pub never_both : (text : List ℕ) (line : ℕ) (e : Entries) → IsFirstBad text line → HasText e → text ≢ record_text e
never_both text line e (inl a) h = λ is. a.1 (body_text e) is
never_both text line e (inr a) h = λ is. never_bad_body a.0 line e a.2 h (same_behind a.0 (body_text e) (sym a.1 ∙ is))

-- the text of a record is read as this record
pub read_back : (text body : List ℕ) (r : Result RunRecord ReplayFault) → text ≡ title_line ++ 10 ∷ body → IfOk r (λ run. HasText (entries_of run) × (body ≡ body_text (entries_of run)))
    → IfErr r (IsBadRest body)
    → (e : Entries) → HasText e → text ≡ record_text e → MatchResult r (λ run. entries_of run ≡ e) (λ fault. fault ≡ OutOfMemory)
read_back text body (Ok run) title written bad e h is = (same_body body (entries_of run) e [] [] written.0 h (written.1 ∙ sym (append-nil (body_text (entries_of run))))
    (same_behind body (body_text e) (sym title ∙ is) ∙ sym (append-nil (body_text e)))).0
read_back text body (Err (BadLine line)) title written bad e h is = absurd (never_bad_body body line e bad h (same_behind body (body_text e) (sym title ∙ is)))
read_back text body (Err OutOfMemory) title written bad e h is = refl
read_back text body (Err fault) title written bad e h is = absurd bad
