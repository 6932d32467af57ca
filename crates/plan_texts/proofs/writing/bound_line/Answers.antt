use Rattle.std.proofs.Common.{ap, sym, ◌∙◌}
use Rattle.texts.specs.Lines.{text_of_lines}
use Rattle.plan_texts.specs.PlanTexts.{bound_lines}
use Rattle.plan_texts.proofs.Written.{is_text, written_bound, written_bound-lines}
use Rattle.plan_texts.proofs.writing.bound_line.Goals as goal

pub returns-in-Some : goal.returns-in-Some
returns-in-Some c =
    let p = c.in-Some.numerator in
    let q = c.in-Some.denominator in
    is_text c.format.result (written_bound p q) (text_of_lines (bound_lines c.args.bound)) c.format.ensures.ok
    (written_bound-lines p q ∙ ap (λ b. text_of_lines (bound_lines b)) (sym c.in-Some.is))
