-- Worlds with messages and incidents, whose voters retire plans.
--
-- A request asks a quorum of its plan. Plans follow one another, and only neighbours have common voters.
use Rattle.std.specs.Prelude.{ℕ, ◌≡◌, ◌+◌, ◌<◌, ◌≤◌, ◌⊎◌, ◌==◌, true, false, List, [], ◌∷◌, Some, if◌then◌else◌}
use Rattle.std.specs.List.{AllByRecursion}
use Rattle.numbers.specs.Sets.{has}
use Rattle.voter.specs.declared.state.Grant.{Grant}
use Rattle.requester.specs.Words.{is_idle, members}
use Rattle.world_state.specs.Steps.{Dealing, client_at, voter_at}
use Rattle.world.specs.Restarts.{Saved, begin, stamp_of}
use Rattle.world.specs.Incidents.{Incident, befalls}
use Rattle.world.specs.Visible.{IsAmong}
use Rattle.leases.specs.Orderly.{IsOrderly}
use Rattle.generations.specs.Plans.{Plans}
use Rattle.generations.specs.Turns.{AsksBy}

-- Clients and voters, live and saved, with every message that was sent; and the oldest plan that each voter did not retire. It retired
-- each plan before that one.
pub record World : Type 0 where
  pub saved : Saved
  pub oldest : ℕ → ℕ

-- what may happen, at any time
pub data Event : Type 0 where
  -- an incident, such as a step, a save, a crash or a rebirth
  Befalls : Incident → Event
  -- a voter retires its oldest plan, for good
  Retires : ℕ → Event

-- the voter retired one plan more
abbrev pub one_older : (ℕ → ℕ) → ℕ → ℕ → ℕ
one_older oldest v u = if v == u then oldest u + 1 else oldest u

-- the world afterwards
abbrev pub happens : Dealing → World → Event → World
happens deal w (Befalls i) = record { saved = befalls deal w.saved i; oldest = w.oldest }
happens deal w (Retires v) = record { saved = w.saved; oldest = one_older w.oldest v }

-- the world after these events, in order
abbrev pub all_happen : Dealing → World → List Event → World
all_happen deal w [] = w
all_happen deal w (e ∷ es) = all_happen deal (happens deal w e) es

-- new clients and voters; voters may have retired any plans
abbrev pub first_world : ℕ → ℕ → ℕ → (ℕ → ℕ) → World
first_world voters clients limit oldest = record { saved = begin voters clients limit; oldest = oldest }

-- ---- what is asked of events

-- the grant has the voter's vote, as the voter is, or as it is saved
abbrev pub IsVoteOf : Saved → ℕ → Grant → Type 0
IsVoteOf s v grant = ((voter_at s.live.voters v).held ≡ Some grant) ⊎ ((voter_at s.voters v).held ≡ Some grant)

-- each quorum of the plan has a voter that retired it
abbrev pub IsRetired : Plans → (ℕ → ℕ) → ℕ → Type 0
IsRetired plans oldest plan = (q : List ℕ) → IsAmong (plans plan) q → (v : ℕ) × (has q v ≡ true) × (plan < oldest v)

-- A voter may give its vote to a request of this plan: it did not retire the plan, and plan n is retired, if this is plan n + 2 or a
-- later one.
pub record MayGive (plans : Plans) (oldest : ℕ → ℕ) (v plan : ℕ) : Type 0 where
  pub taken : oldest v ≤ plan
  pub order : (n : ℕ) → n + 2 ≤ plan → IsRetired plans oldest n

-- each request, while it runs, asks a quorum of its plan
abbrev pub AskByPlan : Plans → AsksBy → Saved → Type 0
AskByPlan plans by s = (c : ℕ) → is_idle (client_at s.live.clients c).phase ≡ false
    → IsAmong (plans (by c (stamp_of s c))) (members (client_at s.live.clients c))

-- An incident befalls a world, which is this one afterwards.
pub record BefallsInOrder (plans : Plans) (by : AsksBy) (w : World) (i : Incident) (s : Saved) : Type 0 where
  -- it leaves votes to those that may count on them
  pub orderly : IsOrderly w.saved i
  -- whoever has a voter's vote afterwards had it before, or may be given it
  pub votes : (v : ℕ) (grant : Grant) → IsVoteOf s v grant → IsVoteOf w.saved v grant ⊎ MayGive plans w.oldest v (by grant.client grant.stamp)
  pub asks : AskByPlan plans by s

-- A voter retires its oldest plan only while no request of this plan has its vote, or of one before it.
abbrev pub MayRetire : AsksBy → World → ℕ → Type 0
MayRetire by w v = (grant : Grant) → IsVoteOf w.saved v grant → w.oldest v < by grant.client grant.stamp

-- the event may happen now
abbrev pub IsInOrder : Plans → AsksBy → Dealing → World → Event → Type 0
IsInOrder plans by deal w (Befalls i) = BefallsInOrder plans by w i (befalls deal w.saved i)
IsInOrder plans by deal w (Retires v) = MayRetire by w v

-- each of these events may happen when it does
abbrev pub AreInOrder : Plans → AsksBy → Dealing → World → List Event → Type 0
AreInOrder plans by deal w [] = Unit {0}
AreInOrder plans by deal w (e ∷ es) = IsInOrder plans by deal w e × AreInOrder plans by deal (happens deal w e) es

-- each voter of a quorum of the next plan retired this one
pub record IsLeft (plans : Plans) (oldest : ℕ → ℕ) (plan : ℕ) : Type 0 where
  pub quorum : List ℕ
  pub among : IsAmong (plans (plan + 1)) quorum
  pub retired : AllByRecursion (λ v. plan < oldest v) quorum
