use Rattle.std.proofs.Common.{◌≡◌, ap, ap₂, refl, ◌∙◌}
use Rattle.std.specs.Prelude.{string_bytes}
use Rattle.certificate.specs.Certificates.{load_of, cycle_len}
use Rattle.plan_texts.specs.PlanTexts.{bound_lines, capacity_lines, is_bounded, with_spaces, written_capacities, title_line, version_of, text_with}
use Rattle.texts.specs.Lines.{text_of_lines}
use Rattle.plan_texts.proofs.PlanLaws.{is_some-is_bounded}
use Rattle.plan_texts.proofs.Written.{written_text, written_text-lines, is_text}
use Rattle.plan_texts.proofs.writing.text_with.Goals as goal

pub returns : goal.returns
returns c =
    let load = c.load-numerator.result in
    let len = c.cycle_len-cycle_len.result in
    let b = c.args.bound in
    let w = c.args.weights.now in
    let stated = written_capacities w.capacities in
    let title = string_bytes c.in_ok-title.title in
    let bound = string_bytes c.in_ok-bound_line.bound_line in
    let capacities = string_bytes c.in_ok-capacity_line.capacity_line in
    let quorums = string_bytes c.in_ok-quorum_weights.quorum_weights in
    let voters = string_bytes c.in_ok-voter_weights.voter_weights in
    let title_is : title ≡ title_line (is_bounded b) (version_of stated) =
    c.in_ok-title.ensures ∙ ap₂ (λ some cs. title_line some (version_of (written_capacities cs))) (c.is_some.ensures ∙ is_some-is_bounded b) c.capacities.ensures.value in
    let bound_is : bound ≡ text_of_lines (bound_lines b) = c.in_ok-bound_line.ensures in
    let capacities_are : capacities ≡ text_of_lines (capacity_lines stated) =
    c.in_ok-capacity_line.ensures ∙ ap (λ cs. text_of_lines (capacity_lines (written_capacities cs))) c.capacities-2.ensures.value in
    let quorums_are : quorums ≡ with_spaces w.quorum_weights = c.in_ok-quorum_weights.ensures ∙ ap with_spaces c.quorum_weights.ensures.value in
    let voters_are : voters ≡ with_spaces w.voter_weights = c.in_ok-voter_weights.ensures ∙ ap with_spaces c.voter_weights.ensures.value in
    let left : load.0 ≡ (load_of w).0 = ap (λ x. x.0) c.load-numerator.ensures.value in
    let right : load.1 ≡ (load_of w).1 = ap (λ x. x.1) c.load-numerator.ensures.value in
    let same : written_text title load.0 load.1 bound len capacities quorums voters
    ≡ written_text (title_line (is_bounded b) (version_of stated)) (load_of w).0 (load_of w).1 (text_of_lines (bound_lines b)) (cycle_len w) (text_of_lines (capacity_lines stated)) (with_spaces w.quorum_weights) (with_spaces w.voter_weights) =
    rw (title_is, left, right, bound_is, c.cycle_len-cycle_len.ensures.value, capacities_are, quorums_are, voters_are) refl in
    is_text c.format.result (written_text title load.0 load.1 bound len capacities quorums voters) (text_with b w) c.format.ensures.ok
    (same ∙ written_text-lines b stated (title_line (is_bounded b) (version_of stated)) (load_of w).0 (load_of w).1 (cycle_len w) (with_spaces w.quorum_weights) (with_spaces w.voter_weights))
