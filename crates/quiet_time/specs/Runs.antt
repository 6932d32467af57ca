-- What may happen to a lock in a voter's quiet time, and what was said in it.
use Rattle.std.specs.Prelude.{ℕ, ◌≡◌, ◌≢◌, ◌⊎◌, ◌&&◌, nat_le, Bool, true, false, List, [], ◌∷◌, Option, Some, None, if◌then◌else◌}
use Rattle.std.specs.FinMap.{get}
use Rattle.message.specs.declared.message.ToVoter.{ToVoter}
use Rattle.message.specs.declared.message.VoterBody.TheVariants as asks
use Rattle.numbers.specs.Bounds.{max_limit}
use Rattle.quiet_time.specs.declared.since_start.SinceStart.{SinceStart}
use Rattle.quiet_time.specs.Quiet.{end_of, forgotten, is_old, noted, puts_off, quiet_step, since_start}
use Rattle.voter.specs.declared.state.Grant.{Grant}
use Rattle.voter.specs.declared.state.VoterState.{VoterState}
use Rattle.voter.specs.Leases.{evict}
use Rattle.voter.specs.Steps.{IsSound, Outcome}
use Rattle.voter.specs.VoterContract.{Ends}

-- the vote of a lock, and what was said of it since the start
pub record Lock : Type 0 where
  pub vote : VoterState
  pub since : SinceStart

-- what may happen to it in the quiet time
pub data Event : Type 0 where
  -- a message comes, and its client says that it is inside or not
  Hears : ToVoter → Bool → Event
  -- the grant with this number is let go, if it is the current one
  LetsGo : ℕ → Event
  -- the session of a client is over
  IsOver : ℕ → Event
  -- the vote may have grants up to another number, no less than it gave
  Extends : ℕ → Event

-- the lock after what the voter did, which said that this is known now
abbrev pub after : Lock → (VoterState → SinceStart) → Option Outcome → Lock
after l known None = l
after l known (Some o) = record { vote = o.state; since = known o.state }

-- the lock after a message that is not put off
abbrev pub hears : Lock → ToVoter → Bool → Lock
hears l m inside = after l (λ v. noted true inside l.since v m.client m.body) (quiet_step (is_old l.since l.vote.held) l.vote m)

-- the lock with this limit, if it is in range
abbrev pub with_limit : Bool → Lock → ℕ → Lock
with_limit true l limit = record { vote = record l.vote { limit = limit }; since = l.since }
with_limit false l limit = l

-- the lock after an event of the quiet time
abbrev pub happens : Lock → Event → Lock
happens l (Hears m inside) = if puts_off true inside m.body then l else hears l m inside
happens l (LetsGo grant) = after l (λ v. l.since) (evict l.vote grant)
happens l (IsOver client) = record { vote = l.vote; since = forgotten l.since client }
happens l (Extends limit) = with_limit (nat_le l.vote.granted limit && nat_le limit max_limit) l limit

-- the lock after these, in order
abbrev pub all_happen : Lock → List Event → Lock
all_happen l [] = l
all_happen l (e ∷ es) = all_happen (happens l e) es

-- the lock at the end of the quiet time; unchanged where a grant would have to be given, and none is left
abbrev pub ended : Lock → Lock
ended l = after l (λ v. l.since) (end_of l.since l.vote l.vote.held)

-- the old grant can be let go, if there is one
abbrev pub CanEnd : Lock → Type 0
CanEnd l = end_of l.since l.vote l.vote.held ≢ None

-- A client said by this request, in one of these events, that it is inside.
abbrev pub IsSaidBy : Event → ℕ → ℕ → Type 0
IsSaidBy (Hears m inside) client stamp = (inside ≡ true) × (m.client ≡ client) × (m.body ≡ asks.Request stamp)
IsSaidBy (LetsGo grant) client stamp = ⊥
IsSaidBy (IsOver other) client stamp = ⊥
IsSaidBy (Extends limit) client stamp = ⊥

abbrev pub IsSaid : List Event → ℕ → ℕ → Type 0
IsSaid [] client stamp = ⊥
IsSaid (e ∷ es) client stamp = IsSaidBy e client stamp ⊎ IsSaid es client stamp

-- A voter begins: it is sound, it forgot who waits, and nothing was said yet.
pub record Begins (l : Lock) : Type 0 where
  pub sound : IsSound l.vote
  pub nobody : (client : ℕ) → get l.vote.waiting client ≡ None
  pub nothing : l.since ≡ since_start l.vote.granted

-- This event neither ends a grant, nor says that its session is over.
abbrev pub Leaves : Event → Grant → Type 0
Leaves (Hears m inside) g = Ends m.client m.body g → ⊥
Leaves (LetsGo grant) g = g.grant ≢ grant
Leaves (IsOver client) g = g.client ≢ client
Leaves (Extends limit) g = Unit {0}

abbrev pub AllLeave : List Event → Grant → Type 0
AllLeave [] g = Unit {0}
AllLeave (e ∷ es) g = Leaves e g × AllLeave es g
