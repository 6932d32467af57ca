-- A bucket as five numbers of 64 bits.
use Rattle.std.specs.Prelude.{ℕ, ◌/◌, ◌%◌, List, [], ◌∷◌}
use Rattle.token_bucket.specs.Buckets.{Bucket, billion}

-- the numbers of a bucket: rate, most, whole tokens, what is left of another one, and the time
abbrev pub words_of : Bucket → List ℕ
words_of b = b.rate ∷ b.most ∷ b.level / billion ∷ b.level % billion ∷ b.at ∷ []
