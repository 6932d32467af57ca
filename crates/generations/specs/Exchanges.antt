-- All voters of a cluster while its plan is exchanged again and again.
--
-- Nobody sends messages here: a vote is given to a request, and ends, at any time. What is asked of clients is only by which plan
-- their requests ask.
use Rattle.std.specs.Prelude.{ℕ, ◌≡◌, ◌+◌, ◌<◌, ◌≤◌, ◌==◌, ◌&&◌, ◌||◌, not, zero, suc, true, false, List, [], ◌∷◌, None, if◌then◌else◌}
use Rattle.std.specs.List.{AllByRecursion}
use Rattle.numbers.specs.Sets.{has}
use Rattle.world.specs.Visible.{IsAmong}
use Rattle.generations.specs.Plans.{Plans}
use Rattle.generations.specs.Voters.{Kept, Request, Voter, ended, given, is_of, is_same, may_give, next_taken, retired}

-- each voter, by its number
abbrev pub World : Type 0
World = ℕ → Voter

-- What may happen to a voter, at any time. It says "no" where its own rules forbid it: then nothing happens.
pub data Event : Type 0 where
  -- a voter gives its vote to a request
  Gives : ℕ → Request → Event
  -- the vote of a request ends at a voter, if it has it: it is given back, or let go
  Ends : ℕ → Request → Event
  -- a voter takes the next plan
  Takes : ℕ → Event
  -- a voter retires its oldest plan
  Retires : ℕ → Event
  -- a voter saves, and then tells who has its vote
  Saves : ℕ → Event
  -- a voter crashes, and restarts from what it saved
  Crashes : ℕ → Event

-- the world with another voter of this number
abbrev pub set : World → ℕ → Voter → World
set w v x u = if v == u then x else w u

-- the voter is this now, and saved nothing of it yet
abbrev pub turned : Voter → Kept → Voter
turned x k = record { live = k; saved = x.saved; told = x.told }

-- the world afterwards
abbrev pub happens : World → Event → World
happens w (Gives v request) = set w v (turned (w v) (given (w v).live request))
happens w (Ends v request) = set w v (record {
  live = ended (w v).live request;
  saved = (w v).saved;
  told = λ r. (w v).told r && not (is_same r request);
})
happens w (Takes v) = set w v (turned (w v) (next_taken (w v).live))
happens w (Retires v) = set w v (turned (w v) (retired (w v).live))
happens w (Saves v) = set w v (record {
  live = (w v).live;
  saved = (w v).live;
  told = λ r. (w v).told r || is_of (w v).live.vote r;
})
happens w (Crashes v) = set w v (turned (w v) (w v).saved)

-- the world after these events, in order
abbrev pub all_happen : World → List Event → World
all_happen w [] = w
all_happen w (e ∷ es) = all_happen (happens w e) es

-- ---- inside

-- The request is inside: it has the votes of all voters of a quorum of its plan. Each told its client so, and that vote
-- did not end.
pub record IsInside (plans : Plans) (w : World) (request : Request) : Type 0 where
  pub quorum : List ℕ
  pub among : IsAmong (plans request.plan) quorum
  pub votes : AllByRecursion (λ v. (w v).told request ≡ true) quorum

-- ---- the order of plans

-- the voter retired this plan, and saved that
abbrev pub HasRetired : World → ℕ → ℕ → Type 0
HasRetired w plan v = plan < (w v).saved.oldest

-- the plan is retired: each quorum of it has a voter that retired it
abbrev pub IsRetired : Plans → World → ℕ → Type 0
IsRetired plans w plan = (q : List ℕ) → IsAmong (plans plan) q → (v : ℕ) × (has q v ≡ true) × HasRetired w plan v

-- the order rule: a voter gives its vote to a request of plan n + 2, or of a later one, only once plan n is retired
abbrev pub IsInOrder : Plans → World → Event → Type 0
IsInOrder plans w (Gives v request) = may_give (w v).live request ≡ true → (plan : ℕ) → plan + 2 ≤ request.plan → IsRetired plans w plan
IsInOrder plans w (Ends v request) = Unit {0}
IsInOrder plans w (Takes v) = Unit {0}
IsInOrder plans w (Retires v) = Unit {0}
IsInOrder plans w (Saves v) = Unit {0}
IsInOrder plans w (Crashes v) = Unit {0}

-- each of these events is in order when it happens
abbrev pub AreInOrder : Plans → World → List Event → Type 0
AreInOrder plans w [] = Unit {0}
AreInOrder plans w (e ∷ es) = IsInOrder plans w e × AreInOrder plans (happens w e) es

-- nobody has the vote, and the voter saved that, and which plans it takes
pub record IsFree (x : Voter) : Type 0 where
  pub nobody : x.live.vote ≡ None
  pub same : x.live ≡ x.saved
  pub untold : (request : Request) → x.told request ≡ false

-- no vote is given; voters may have retired any plans
abbrev pub IsFirst : World → Type 0
IsFirst w = (v : ℕ) → IsFree (w v)

-- ---- how an exchange sees to that order

-- each voter of a quorum of the next plan retired this one
pub record IsLeft (plans : Plans) (w : World) (plan : ℕ) : Type 0 where
  pub quorum : List ℕ
  pub among : IsAmong (plans (plan + 1)) quorum
  pub retired : AllByRecursion (HasRetired w plan) quorum

-- the plan after this one may be taken: the one before it is left, if there is one
abbrev pub MayFollow : Plans → World → ℕ → Type 0
MayFollow plans w zero = Unit {0}
MayFollow plans w (suc plan) = IsLeft plans w plan

-- the rule of an exchange: a voter takes plan n + 2 only once each voter of a quorum of plan n + 1 retired plan n
abbrev pub IsExchange : Plans → World → Event → Type 0
IsExchange plans w (Gives v request) = Unit {0}
IsExchange plans w (Ends v request) = Unit {0}
IsExchange plans w (Takes v) = MayFollow plans w (w v).live.newest
IsExchange plans w (Retires v) = Unit {0}
IsExchange plans w (Saves v) = Unit {0}
IsExchange plans w (Crashes v) = Unit {0}

-- each of these events is by this rule when it happens
abbrev pub AreExchanges : Plans → World → List Event → Type 0
AreExchanges plans w [] = Unit {0}
AreExchanges plans w (e ∷ es) = IsExchange plans w e × AreExchanges plans (happens w e) es

-- a voter that has plan 0 alone
abbrev pub new_voter : Voter
new_voter = record { live = record { vote = None; oldest = 0; newest = 0 }; saved = record { vote = None; oldest = 0; newest = 0 }; told = λ request. false }

-- each voter begins with plan 0 alone
abbrev pub first_world : World
first_world v = new_voter
