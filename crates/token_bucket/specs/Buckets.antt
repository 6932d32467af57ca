-- A token bucket: it gains tokens at a rate, up to a bound, and whoever takes some takes no more than there are. After
-- Turner, "New directions in communications (or which way to the information age?)", IEEE Communications Magazine
-- 24(10), 1986, whose counter is a leaky bucket: it fills as tokens are taken here.
use Rattle.std.specs.Prelude.{ℕ, ◌≤◌, ◌+◌, ◌-◌, ◌*◌, ◌/◌, nat_le, max, min, Result, Ok, Err, if◌then◌else◌}
use Rattle.token_bucket.specs.declared.fault.BucketFault.{BucketFault}
use Rattle.token_bucket.specs.declared.fault.BucketFault.TheVariants.{TokensSpent}

-- How many parts a token has, and how many nanoseconds a second.
abbrev pub billion : ℕ
billion = 1000000000

-- The bucket: how many tokens it gains a second, how many it has at most, how many parts of tokens there were when tokens
-- were last taken, and when that was, in nanoseconds.
pub record Bucket : Type 0 where
  pub rate : ℕ
  pub most : ℕ
  pub level : ℕ
  pub at : ℕ

-- a bucket with no more than it may have
abbrev pub IsSound : Bucket → Type 0
IsSound b = b.level ≤ b.most * billion

-- a bucket that begins now, with half of what it may have
abbrev pub begun : ℕ → ℕ → ℕ → Bucket
begun rate most now = record { rate = rate; most = most; level = most * 500000000; at = now }

-- How many parts there are now. A time before the last spending counts as that.
abbrev pub level_at : Bucket → ℕ → ℕ
level_at b now = min (b.most * billion) (b.level + b.rate * (now - b.at))

-- how many whole tokens there are now
abbrev pub left : Bucket → ℕ → ℕ
left b now = level_at b now / billion

-- the bucket once these tokens are taken now
abbrev pub spent : Bucket → ℕ → ℕ → Bucket
spent b now tokens = record { rate = b.rate; most = b.most; level = level_at b now - tokens * billion; at = max now b.at }

-- these tokens are taken, if there are so many
abbrev pub spend_of : Bucket → ℕ → ℕ → Result Bucket BucketFault
spend_of b now tokens = if nat_le tokens (left b now) then Ok (spent b now tokens) else Err TokensSpent

-- the bucket once all is taken now
abbrev pub emptied : Bucket → ℕ → Bucket
emptied b now = record { rate = b.rate; most = b.most; level = 0; at = max now b.at }
