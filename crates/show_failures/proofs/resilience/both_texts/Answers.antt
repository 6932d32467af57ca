use Rattle.std.proofs.Common.{◌++◌, List, ℕ, ap, subst, ◌∙◌}
use Rattle.std.specs.Prelude.{string_bytes}
use Rattle.quorum_set.specs.Coteries.{QuorumSystem}
use Rattle.show_failures.specs.Resilience.{SaysBorne}
use Rattle.show_failures.specs.declared.resilience.Quorums.TheVariants.{OfCoterie}
use Rattle.show_failures.proofs.resilience.both_texts.Goals as goal

pub returns : goal.returns
returns c =
    let first = string_bytes c.in_ok-text.text in
    let second = string_bytes c.in_ok-second.second in
    let P : QuorumSystem → Type 0 = λ s. SaysBorne OfCoterie c.args.named.now.names s first in (
      first,
      second,
      subst P c.coterie.ensures.value c.in_ok-text.ensures,
      c.in_ok-second.ensures,
      c.in_ok-push_str.ensures.bytes ∙ ap (λ (b : List ℕ). first ++ b) c.as_str.ensures.value,
    )
