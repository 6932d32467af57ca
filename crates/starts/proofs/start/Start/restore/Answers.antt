use Rattle.std.proofs.Common.{◌∙◌, List, ℕ, ap, get_or, sym}
use Rattle.std.proofs.lemmas.Option.{none-some}
use Rattle.starts.proofs.start.Start.restore.Goals as goal

pub returns-in_default-clause-read : goal.returns-in_default-clause-read
returns-in_default-clause-read c = λ s is.
    absurd (none-some (s.serves, s.is_clean) (sym c.in_default.is ∙ c.flags_in.ensures.read s.serves s.is_clean (ap (λ (xs : List ℕ). get_or xs 9 0) is)))
