use Rattle.std.proofs.Common.{◌≡◌, ◌∙◌, ◌++◌, ap, map, string_bytes}
use Rattle.std.proofs.lemmas.Result.{IfOk-weaker}
use Rattle.show_tables.specs.Words.{AddsLine, line_text, spaced}
use Rattle.show_tables.proofs.LineLemmas.{placed_line}
use Rattle.show_tables.proofs.words.push_line.Goals as goal

pub returns : goal.returns
returns c =
    let texts = map string_bytes c.args.texts.now in
    let old = string_bytes c.args.text.now in
    let new = string_bytes c.push_placed_line.new.text in
    let line = c.as_slice.result.now in
    IfOk-weaker c.push_placed_line.result (λ _. new ≡ old ++ line_text (map spaced line)) (λ _. AddsLine texts old new)
    (λ _ is. placed_line line texts old new (ap (map (λ p. p.text.now)) c.as_slice.ensures.value ∙ c.in_ok-placed.ensures) is) c.push_placed_line.ensures
