-- A line that a client says begins with a word that clients say.
use Rattle.std.proofs.Common.{◌≡◌, ℕ, List, [], ◌∷◌, ◌++◌, Some, length, take, refl, sym, ap, ◌∙◌, append_assoc, arith, rules}
use Rattle.std.specs.Prelude.{codes}
use Rattle.std.specs.Fmt.{decimal}
use Rattle.std.specs.List.{position_or_len}
use Rattle.std.proofs.lemmas.List.{take_at}
use Rattle.texts.specs.Cuts.{cut_at}
use Rattle.texts.specs.Fields.{HasNoSpace, IsBorder, fields}
use Rattle.texts.proofs.CutLemmas.{Lacks, Lacks-append}
use Rattle.texts.proofs.FieldLemmas.{IsBorder-fields}
use Rattle.texts.proofs.LineLemmas.{HasNoSpace-word, Lacks-line}
use Rattle.texts.proofs.Numbers.{is_space, position_or_len-space}
use Rattle.session_lines.specs.Control.{ClientWordFits, IsUnknown, OpenedFits, SaysFits, client_form, client_line, client_numbers, client_word, client_words, client_words_have_form, opened_numbers, says_line, voter_form, voter_words_have_form}
use Rattle.session_lines.specs.declared.control.ClientWord.{ClientWord}
use Rattle.session_lines.specs.declared.control.Opened.{Opened}
use Rattle.session_lines.specs.declared.control.VoterSays.{VoterSays}
use Rattle.session_lines.specs.declared.control.VoterSays.TheVariants as says
use Rattle.line_words.specs.Lines.{control_line}
use Rattle.line_words.proofs.SpacedLemmas.{Lacks-spaced, cut_of, number_lacks}

same_word : (w v a b : List ℕ) → HasNoSpace w → HasNoSpace v → IsBorder a → IsBorder b → w ++ a ≡ v ++ b → w ≡ v
same_word w v a b hw hv ha hb e =
    let n : length w ≡ length v = sym (position_or_len-space w a hw ha) ∙ ap (position_or_len is_space) e ∙ position_or_len-space v b hv hb in
    sym (take_at w a (length w) refl) ∙ ap (take (length w)) e ∙ take_at v b (length w) (sym n)

pub said_is_known : (line : List ℕ) (w : ClientWord) → line ≡ client_line w → IsUnknown line → ⊥
said_is_known line w e u =
    u.none w (same_word u.word (client_word w) u.rest (fields (client_numbers w)) u.plain (HasNoSpace-word (client_word w) (client_words w)) u.border
    (IsBorder-fields (client_numbers w)) (sym u.is ∙ e))

-- Lines of control end at the first newline

pub cut_of_client : (w : ClientWord) (rest : List ℕ) → ClientWordFits w → cut_at 10 (control_line (client_line w) ++ rest) ≡ Some (codes ". " ++ client_line w, rest)
cut_of_client w rest fits = cut_of (client_line w) rest (Lacks-line client_form client_words_have_form w fits)

opened_lacks : (o : Opened) → OpenedFits o → Lacks 10 (fields (opened_numbers o))
opened_lacks o h =
    Lacks-spaced (decimal o.number ∷ decimal o.epoch ∷ decimal o.base ∷ decimal o.reserved ∷ decimal o.seq ∷ decimal o.requests ∷ []) [] (
      number_lacks o.number (omega (arith, h.number)),
      (
        number_lacks o.epoch h.epoch,
        (
          number_lacks o.base h.base,
          (
            number_lacks o.reserved h.reserved,
            (number_lacks o.seq h.seq, (number_lacks o.requests h.requests, tt)),
          ),
        ),
      ),
    ) tt

pub cut_of_voter : (s : VoterSays) (rest : List ℕ) → SaysFits s → cut_at 10 (control_line (says_line s) ++ rest) ≡ Some (codes ". " ++ says_line s, rest)
cut_of_voter (says.Word w) rest fits = cut_of (says_line (says.Word w)) rest (Lacks-line voter_form voter_words_have_form w fits)
cut_of_voter (says.Opened o) rest fits = cut_of (says_line (says.Opened o)) rest
    (Lacks-append 10 (codes "opened") (fields (opened_numbers o)) (search rules) (opened_lacks o fits))
