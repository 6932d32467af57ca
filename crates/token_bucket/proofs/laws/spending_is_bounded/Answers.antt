use Rattle.token_bucket.proofs.BucketLemmas.{begun_sound, bounded}
use Rattle.token_bucket.specs.Buckets.{begun}
use Rattle.token_bucket.proofs.laws.spending_is_bounded.Goals as goal

pub returns : goal.returns
returns c = λ rate most begin from to calls. bounded from to (begun rate most begin) calls (begun_sound rate most begin)
