use Rattle.std.proofs.Common.{◌≡◌, length, ap, ◌∙◌, refl}
use Rattle.std.specs.List.{position_or_len}
use Rattle.std.specs.Prelude.{◌==◌}
use Rattle.std.proofs.lemmas.List.{take_at, drop_at}
use Rattle.texts.proofs.Numbers.{position_or_len-space, HasNoSpace-take, IsBorder-drop}
use Rattle.texts.proofs.words.cut.Goals as goal

pub returns-clause-read : goal.returns-clause-read
returns-clause-read c front rest plain border e =
    let n : c.word_len.result ≡ length front = c.word_len.ensures.place ∙ ap (position_or_len (λ b. b == 32)) e ∙ position_or_len-space front rest plain border in
    (rw (c.split_at.ensures.front, e, n) (take_at front rest (length front) refl), rw (c.split_at.ensures.back, e, n) (drop_at front rest (length front) refl))

pub returns-clause-word : goal.returns-clause-word
returns-clause-word c = rw (c.split_at.ensures.front, c.word_len.ensures.place) (HasNoSpace-take c.args.bytes.now)

pub returns-clause-border : goal.returns-clause-border
returns-clause-border c = rw (c.split_at.ensures.back, c.word_len.ensures.place) (IsBorder-drop c.args.bytes.now)
