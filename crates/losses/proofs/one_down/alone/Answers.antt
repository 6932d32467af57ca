use Rattle.std.proofs.Common.{ℕ, ◌≡◌, ◌<◌, ◌||◌, eqb, List, subst}
use Rattle.numbers.specs.Sets.{has}
use Rattle.losses.proofs.OneDownLemmas.{one_alone}
use Rattle.losses.proofs.one_down.alone.Goals as goal

pub returns : goal.returns
returns c =
    one_alone c.with_voter.result c.args.voter c.requires c.with_voter.ensures.set
    (subst (λ (s : List ℕ). (i : ℕ) → i < 64 → has c.with_voter.result i ≡ (eqb i c.args.voter || has s i)) c.empty.ensures c.with_voter.ensures.members)
