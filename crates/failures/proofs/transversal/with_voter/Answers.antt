use Rattle.std.proofs.Common.{◌==◌, ◌||◌, sym, subst, ap, ◌∙◌}
use Rattle.numbers.specs.Sets.{has, IsSet}
use Rattle.numbers.proofs.SetLemmas.{IsSet-set_where, has-set_where}
use Rattle.failures.proofs.FailureLemmas.{All-from_with}
use Rattle.failures.proofs.transversal.with_voter.Goals as goal

pub returns-clause-set : goal.returns-clause-set
returns-clause-set c = subst IsSet (sym c.insert.ensures.members) (IsSet-set_where _)

pub returns-clause-members : goal.returns-clause-members
returns-clause-members c i lt =
    ap (λ s. has s i) c.insert.ensures.members ∙ has-set_where _ i lt
    ∙ ap (λ s. (i == c.args.voter) || has s i) c.copy-more.ensures.value

pub returns-clause-voters : goal.returns-clause-voters
returns-clause-voters c n lt all = All-from_with n _ _ c.args.voter (returns-clause-set c) (returns-clause-members c) lt all
