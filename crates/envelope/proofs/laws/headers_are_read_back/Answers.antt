use Rattle.std.proofs.Common.{◌≡◌, ◌++◌, [], ◌∷◌, ◌∙◌, ap, List, ℕ, arith, refl, append_assoc}
use Rattle.texts.specs.Cuts.{cut_at}
use Rattle.texts.proofs.CutLemmas.{cut_at-append}
use Rattle.envelope.specs.Headers.{head_line, head_then}
use Rattle.envelope.proofs.LineLemmas.{head_lacks, head_short, head_then_rest}
use Rattle.envelope.proofs.laws.headers_are_read_back.Goals as goal

pub returns : goal.returns
returns c h lines fits =
    let short = head_short h [] fits in
    let whole : head_line h ++ lines ≡ head_then h [] ++ 10 ∷ lines =
    ap (λ (t : List ℕ). t ++ lines) (head_then_rest h (10 ∷ [])) ∙ append_assoc (head_then h []) (10 ∷ []) lines in
    record {
      has_line = fits;
      others = ([], tt, refl);
      first_line = ap (cut_at 10) whole ∙ cut_at-append 10 (head_then h []) lines (head_lacks h fits);
      short = omega (arith, short);
    }
