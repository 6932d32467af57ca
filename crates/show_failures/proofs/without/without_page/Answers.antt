use Rattle.std.proofs.Common.{◌≡◌, ◌∙◌, ap, map, string_bytes}
use Rattle.std.proofs.lemmas.Result.{IfOk-weaker}
use Rattle.failures.specs.Failures.{system_without}
use Rattle.coterie_file.specs.Writing.{coterie_text}
use Rattle.show_failures.specs.Names.{voters_named}
use Rattle.show_failures.specs.Without.{none_left_text, without_text}
use Rattle.show_failures.proofs.WithoutLemmas.{without_text-left, without_text-none}
use Rattle.show_failures.proofs.without.without_page.Goals as goal

pub returns-in-Ok : goal.returns-in-Ok
returns-in-Ok c =
    let named = c.args.named.now in
    let failed = c.voters_named-failed.result in
    let is : c.in-Some.left ≡ system_without failed named.system = (rw c.in-Some.is at c.in_ok-left.ensures.left) ∙ ap (system_without failed) c.coterie.ensures.value in
    let text = ap coterie_text c.in-Ok.ensures.made ∙ without_text-left named failed c.in-Some.left c.count.ensures.coterie is
    ∙ ap (without_text named) c.voters_named-failed.ensures.value in
    IfOk-weaker c.write_coterie.result (λ t. string_bytes t ≡ coterie_text c.in-Ok.left)
    (λ t. string_bytes t ≡ without_text named (voters_named named.names (map string_bytes c.args.words.now)))
    (λ t e. e ∙ text) c.write_coterie.ensures.layout

pub returns-in-None : goal.returns-in-None
returns-in-None c =
    let named = c.args.named.now in
    let failed = c.voters_named-failed.result in
    let meets = rw (c.in-None.is, c.coterie.ensures.value) at c.in_ok-left.ensures.none in
    let text = without_text-none named failed meets ∙ ap (without_text named) c.voters_named-failed.ensures.value in
    IfOk-weaker c.none_left_text.result (λ t. string_bytes t ≡ none_left_text named.names failed)
    (λ t. string_bytes t ≡ without_text named (voters_named named.names (map string_bytes c.args.words.now)))
    (λ t e. e ∙ text) c.none_left_text.ensures
