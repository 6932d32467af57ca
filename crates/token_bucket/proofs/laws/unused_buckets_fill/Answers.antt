use Rattle.token_bucket.proofs.BucketLemmas.{fills, spends}
use Rattle.token_bucket.proofs.laws.unused_buckets_fill.Goals as goal

pub returns-clause-fills : goal.returns-clause-fills
returns-clause-fills c = fills

pub returns-clause-spends : goal.returns-clause-spends
returns-clause-spends c = spends
