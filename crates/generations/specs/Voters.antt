-- A voter to which plans come one after another: its vote, and which plans it takes requests of.
use Rattle.std.specs.Prelude.{ℕ, ◌+◌, ◌==◌, nat_le, nat_lt, Bool, false, ◌&&◌, not, Option, Some, None, is_none, if◌then◌else◌}

-- a request: of which client, under which stamp, and the number of the plan by which it asks
pub record Request : Type 0 where
  pub client : ℕ
  pub stamp : ℕ
  pub plan : ℕ

-- What a voter keeps: the request that has its vote, if one has it, and the oldest and the newest plan that it takes requests
-- of. It retired each plan before the oldest one.
pub record Kept : Type 0 where
  pub vote : Option Request
  pub oldest : ℕ
  pub newest : ℕ

-- A voter as it is, and as it saved itself. And which requests it told, once that was saved, that they have its vote, until that
-- vote ends.
pub record Voter : Type 0 where
  pub live : Kept
  pub saved : Kept
  pub told : Request → Bool

-- both are one request
abbrev pub is_same : Request → Request → Bool
is_same r s = (r.client == s.client) && ((r.stamp == s.stamp) && (r.plan == s.plan))

-- the request has the vote
abbrev pub is_of : Option Request → Request → Bool
is_of None request = false
is_of (Some holder) request = is_same holder request

-- a request of this plan, or of an older one, has the vote
abbrev pub is_by : Option Request → ℕ → Bool
is_by None plan = false
is_by (Some holder) plan = nat_le holder.plan plan

-- nobody has the vote, and the voter takes requests of this plan
abbrev pub may_give : Kept → Request → Bool
may_give k request = is_none k.vote && (nat_le k.oldest request.plan && nat_le request.plan k.newest)

-- the request has the vote, if it may be given
abbrev pub given : Kept → Request → Kept
given k request = if may_give k request then record { vote = Some request; oldest = k.oldest; newest = k.newest } else k

-- the request does not have the vote any more, if it had it
abbrev pub ended : Kept → Request → Kept
ended k request = if is_of k.vote request then record { vote = None; oldest = k.oldest; newest = k.newest } else k

-- the next plan is taken, too
abbrev pub next_taken : Kept → Kept
next_taken k = record { vote = k.vote; oldest = k.oldest; newest = k.newest + 1 }

-- the oldest plan may be retired: there is a later one, and no request of the oldest one has the vote
abbrev pub may_retire : Kept → Bool
may_retire k = nat_lt k.oldest k.newest && not (is_by k.vote k.oldest)

-- the oldest plan is retired, if it may be
abbrev pub retired : Kept → Kept
retired k = if may_retire k then record { vote = k.vote; oldest = k.oldest + 1; newest = k.newest } else k
