use Rattle.std.proofs.Common.{rules, ◌≡◌, ◌≤◌, ◌*◌, sym, subst, arith}
use Rattle.std.specs.Int.{IsGcd}
use Rattle.divisor.proofs.GcdLemmas.{lowest_terms-exact, lowest_terms-lowest}
use Rattle.certificate.specs.Bounds.{bound_of}
use Rattle.certificate.specs.Certificates.{AreWeights, cycle_len, cycle_ratio, load_of}
use Rattle.certificate.specs.Ratios.{IsAtMost}
use Rattle.certificate.proofs.BoundLemmas.{load-above}
use Rattle.certificate.proofs.RatioLemmas.{load_of-fits, load_of-some, stored-small}
use Rattle.certificate.proofs.weights.Weights.load.Goals as goal
use Rattle.certificate.proofs.weights.Weights.load.Goals.{After-lowest_terms}

pub overflow_mul-self-inside : goal.overflow_mul-self-inside
overflow_mul-self-inside c =
    let own = c.self.invariant in
    omega (arith, stored-small _ own.0 c.self.inside.sums own.1)

-- the result is the load
is_load : (c : After-lowest_terms) → c.lowest_terms.result ≡ load_of c.args.self.now
is_load c = let own = c.self.invariant in search rules

pub returns-clause-value : goal.returns-clause-value
returns-clause-value c = is_load (goal.at.returns-clause-value c).After-lowest_terms

pub returns-clause-exact : goal.returns-clause-exact
returns-clause-exact c =
    let r = cycle_ratio c.args.self.now in
    let denominator = r.1 * cycle_len c.args.self.now in
    subst (λ x. x.0 * denominator ≡ r.0 * x.1) (sym (is_load (goal.at.returns-clause-exact c).After-lowest_terms)) (lowest_terms-exact r.0 denominator)

pub returns-clause-lowest : goal.returns-clause-lowest
returns-clause-lowest c =
    let weights : AreWeights c.args.self.now = search rules in
    let r = cycle_ratio c.args.self.now in
    subst (λ x. IsGcd x.0 x.1 1) (sym (is_load (goal.at.returns-clause-lowest c).After-lowest_terms))
    (lowest_terms-lowest r.0 (r.1 * cycle_len c.args.self.now) (load_of-some c.args.self.now weights))

pub returns-clause-above : goal.returns-clause-above
returns-clause-above c =
    let weights : AreWeights c.args.self.now = search rules in
    let is = is_load (goal.at.returns-clause-above c).After-lowest_terms in
    subst (IsAtMost (bound_of c.args.self.now)) (sym is) (load-above c.args.self.now weights)

pub returns-clause-small : goal.returns-clause-small
returns-clause-small c =
    let weights : AreWeights c.args.self.now = search rules in
    subst (λ x. (x.0 ≤ 1000000) × (x.1 ≤ 1000000000)) (sym (is_load (goal.at.returns-clause-small c).After-lowest_terms)) (load_of-fits c.args.self.now weights)
