-- What may come to a bucket, and how much it gives.
use Rattle.std.specs.Prelude.{ℕ, ◌+◌, nat_le, max, Bool, ◌&&◌, List, [], ◌∷◌, if◌then◌else◌}
use Rattle.token_bucket.specs.Buckets.{Bucket, left, spent}

-- a call: when it is made, and how many tokens it is to take
pub record Spending : Type 0 where
  pub now : ℕ
  pub tokens : ℕ

-- the call is not refused: there are so many
abbrev pub is_done : Bucket → Spending → Bool
is_done b s = nat_le s.tokens (left b s.now)

-- the bucket after the call, which changes nothing if it is refused
abbrev pub after : Bucket → Spending → Bucket
after b s = if is_done b s then spent b s.now s.tokens else b

-- the bucket after these calls, in order
abbrev pub after_all : Bucket → List Spending → Bucket
after_all b [] = b
after_all b (s ∷ ss) = after_all (after b s) ss

-- when the call counts: now, or when tokens were last taken if that is later
abbrev pub time_of : Bucket → Spending → ℕ
time_of b s = max s.now b.at

-- the call is done, and counts at a time between these two, or at one of them
abbrev pub is_between : ℕ → ℕ → Bucket → Spending → Bool
is_between from to b s = is_done b s && (nat_le from (time_of b s) && nat_le (time_of b s) to)

-- how many tokens are taken by those of these calls that count between these two times
abbrev pub spent_between : ℕ → ℕ → Bucket → List Spending → ℕ
spent_between from to b [] = 0
spent_between from to b (s ∷ ss) = (if is_between from to b s then s.tokens else 0) + spent_between from to (after b s) ss
