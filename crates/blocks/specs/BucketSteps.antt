-- What the calls of a token bucket return and write. Each is said for the one bucket that the bytes
-- are.
use Rattle.std.specs.Prelude.{ℕ, ℤ, ◌≡◌, ◌≢◌, List, length, Result, Ok, Err}
use Rattle.token_bucket.specs.Buckets.{Bucket, begun, left, spend_of}
use Rattle.token_bucket.specs.declared.fault.BucketFault.{BucketFault}
use Rattle.blocks.specs.Bytes.{IsBucket, IsNoBucket}
use Rattle.blocks.specs.Numbers.{done, refused}
use Rattle.blocks.specs.declared.refusal.Refusal.TheVariants.{BadState, TokensSpent}

-- how many bytes a token bucket has
abbrev pub bucket_bytes : ℕ
bucket_bytes = 40

-- a bucket is made, which begins now
pub record BucketIsMade (rate most now : ℕ) (before after : List ℕ) (result : ℤ) : Type 0 where
  pub bad_state : length before ≢ bucket_bytes → result ≡ refused BadState
  pub made : length before ≡ bucket_bytes → (result ≡ done) × IsBucket after (begun rate most now)

-- how many tokens there are now
pub record BucketShowsLeft (bytes : List ℕ) (now shown : ℕ) (result : ℤ) : Type 0 where
  pub no_bucket : IsNoBucket bytes → result ≡ refused BadState
  pub shows : (b : Bucket) → IsBucket bytes b → (result ≡ done) × (shown ≡ left b now)

-- by what the bucket's own step gives: a refusal, or the bucket afterwards
abbrev pub Leaves : Result Bucket BucketFault → List ℕ → ℤ → Type 0
Leaves (Ok b) after result = (result ≡ done) × IsBucket after b
Leaves (Err fault) after result = result ≡ refused TokensSpent

-- tokens are taken now
pub record BucketSpends (before : List ℕ) (now tokens : ℕ) (after : List ℕ) (result : ℤ) : Type 0 where
  pub no_bucket : IsNoBucket before → result ≡ refused BadState
  pub spends : (b : Bucket) → IsBucket before b → Leaves (spend_of b now tokens) after result
