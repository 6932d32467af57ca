use Rattle.std.proofs.Common.{◌≡◌, List, ℕ, ◌∷◌, ◌++◌, ap, sym, ◌∙◌, rules}
use Rattle.texts.proofs.CutLemmas.{cut_at-Some}
use Rattle.replay.specs.RecordTexts.{title_line}
use Rattle.replay.proofs.record_reading.behind_title.Goals as goal

pub returns-in-Some : goal.returns-in-Some
returns-in-Some c =
    let title : c.in-Some.line.now ≡ title_line = search rules in
    cut_at-Some 10 c.args.text.now (c.in-Some.line.now, c.in-Some.rest.now) (sym c.in-Some.ensures) ∙ ap (λ (t : List ℕ). t ++ 10 ∷ c.in-Some.rest.now) title
