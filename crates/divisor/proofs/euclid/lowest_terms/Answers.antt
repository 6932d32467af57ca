use Rattle.std.proofs.Common.{rules}
use Rattle.divisor.proofs.GcdLemmas.{lowest_terms-max}
use Rattle.divisor.proofs.euclid.lowest_terms.Goals as goal

pub returns : goal.returns
returns c =
    let same = lowest_terms-max c.args.numerator c.args.denominator c.gcd.result c.gcd.ensures.divisor in
    search (same, rules)
