use Rattle.std.proofs.Common.{rules, ◌≡◌, ◌≤◌, sym, subst}
use Rattle.certificate.specs.Bounds.{bound_of}
use Rattle.certificate.specs.Certificates.{AreWeights}
use Rattle.certificate.proofs.BoundLemmas.{BearsBound-weights, IsBounded-weights, bound_of-fits}
use Rattle.certificate.proofs.weights.Weights.bound.Goals as goal
use Rattle.certificate.proofs.weights.Weights.bound.Goals.{After-lowest_terms}

-- the result is the bound
is_bound : (c : After-lowest_terms) → c.lowest_terms.result ≡ bound_of c.args.self.now
is_bound c = let own = c.self.invariant in search rules

pub returns-clause-value : goal.returns-clause-value
returns-clause-value c = is_bound (goal.at.returns-clause-value c).After-lowest_terms

pub returns-clause-small : goal.returns-clause-small
returns-clause-small c =
    let own = c.self.invariant in
    let fits = subst (λ w. ((bound_of w).0 ≤ 64000000) × ((bound_of w).1 ≤ 1000000000)) c.self.view_is (bound_of-fits _ c.self.inside.sums own.1) in
    subst (λ x. (x.0 ≤ 64000000) × (x.1 ≤ 1000000000)) (sym (is_bound (goal.at.returns-clause-small c).After-lowest_terms)) fits

pub returns-clause-bounded : goal.returns-clause-bounded
returns-clause-bounded c = let weights : AreWeights c.args.self.now = search rules in IsBounded-weights c.args.self.now weights

pub returns-clause-voter : goal.returns-clause-voter
returns-clause-voter c = let weights : AreWeights c.args.self.now = search rules in BearsBound-weights c.args.self.now weights
