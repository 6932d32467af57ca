-- Clerks of one or two plans, and the offices that deal the plans' tickets.
use Rattle.std.specs.Prelude.{◌≡◌, ℕ, ◌+◌, ◌-◌, ◌≤◌, ◌++◌, Bool, true, false, List, [], ◌∷◌, Option, None, Some, All, IfSome, option_map}
use Rattle.quorum_set.specs.declared.bridge.Side.{Side}
use Rattle.quorum_set.specs.declared.bridge.Side.TheVariants.{First, Second}
use Rattle.certificate.specs.Certificates.{Weighted}
use Rattle.dealer.specs.declared.receipt.Receipt.{Receipt}
use Rattle.dealer.specs.Cycles.{quorum_of_ticket}
use Rattle.dealer.specs.Offices.{ClerkState, OfficeName, OfficeState, share_of}

-- the clerk of the first plan, that of the second plan, if there is one, and the plan in use
pub record ClerksState : Type 0 where
  pub first : ClerkState
  pub second : Option ClerkState
  pub side : Side

-- the office of the first plan, and that of the second plan, if there is one
pub record OfficesState : Type 0 where
  pub first : OfficeState
  pub second : Option OfficeState

-- the clerk of a plan
abbrev pub clerk_of : ClerksState → Side → Option ClerkState
clerk_of k First = Some k.first
clerk_of k Second = k.second

abbrev pub receipts_in : Option ClerkState → List Receipt
receipts_in None = []
receipts_in (Some k) = k.receipts

abbrev pub rest_in : Option ClerkState → ℕ
rest_in None = 0
rest_in (Some k) = k.rest

abbrev pub share_in : Option ClerkState → ℕ
share_in None = 0
share_in (Some k) = share_of k

abbrev pub quota_in : Option OfficeState → ℕ
quota_in None = 0
quota_in (Some o) = o.quota

-- the receipts of a plan; without such a plan there are none
abbrev pub receipts_of : ClerksState → Side → List Receipt
receipts_of k side = receipts_in (clerk_of k side)

-- how many tickets of a plan may still be drawn; without such a plan there are none
abbrev pub rest_of : ClerksState → Side → ℕ
rest_of k side = rest_in (clerk_of k side)

-- how many tickets of a plan this clerk drew and may still draw; without such a plan there are none
abbrev pub share_of_plan : ClerksState → Side → ℕ
share_of_plan k side = share_in (clerk_of k side)

-- the office of a plan
abbrev pub office_of : OfficesState → Side → Option OfficeState
office_of o First = Some o.first
office_of o Second = o.second

-- how many tickets of a plan all clerks may draw; without such a plan there are none
abbrev pub quota_of : OfficesState → Side → ℕ
quota_of o side = quota_in (office_of o side)

-- the clerk after it drew the ticket of this receipt
abbrev pub with_receipt : ClerkState → Receipt → ClerkState
with_receipt clerk r = record clerk { rest = clerk.rest - 1; receipts = clerk.receipts ++ r ∷ [] }

abbrev pub drawn_by : Side → ClerksState → Receipt → ClerksState
drawn_by First k r = record k { first = with_receipt k.first r }
drawn_by Second k r = record k { second = option_map (λ x. with_receipt x r) k.second }

-- the clerks after the one of the plan in use drew the ticket of this receipt
abbrev pub drawn : ClerksState → Receipt → ClerksState
drawn k r = drawn_by k.side k r

-- the clerks once the second plan is in use
abbrev pub use_second_plan : ClerksState → ClerksState
use_second_plan k = record k { side = Second }

abbrev pub may_exchange_from : Side → Option ClerkState → Bool
may_exchange_from First (Some k) = true
may_exchange_from First None = false
may_exchange_from Second second = false

-- the first plan is in use, and there is a second
abbrev pub may_exchange : ClerksState → Bool
may_exchange k = may_exchange_from k.side k.second

-- there is a plan of this side
abbrev pub IsThere : {A : Type 0} → Side → Option A → Type 0
IsThere First second = Unit {0}
IsThere Second None = ⊥
IsThere Second (Some k) = Unit {0}

-- the names of both clerks' offices
abbrev pub names_of : ClerksState → OfficeName × Option OfficeName
names_of k = (k.first.office, option_map (λ x. x.office) k.second)

-- the offices' names
abbrev pub office_names : OfficesState → OfficeName × Option OfficeName
office_names o = (o.first.name, option_map (λ x. x.name) o.second)

-- a clerk for each office, which may draw n tickets and has drawn none; the first plan is in use
abbrev pub fresh_clerk : OfficeName → ℕ → ClerkState
fresh_clerk office n = record { office = office; rest = n; receipts = [] }

abbrev pub fresh_clerks : OfficeName × Option OfficeName → ℕ → ClerksState
fresh_clerks names n = record {
  first = fresh_clerk names.0 n;
  second = option_map (λ o. fresh_clerk o n) names.1;
  side = First;
}

-- both offices, where the clerks of each may draw n tickets in all
abbrev pub offices_with : OfficeName × Option OfficeName → ℕ → OfficesState
offices_with names n = record {
  first = record { name = names.0; quota = n };
  second = option_map (λ o. record { name = o; quota = n }) names.1;
}

-- each clerk has this share of its office's tickets
abbrev pub HasShare : ClerksState → ℕ → Type 0
HasShare k n = (share_of k.first ≡ n) × IfSome k.second (λ x. share_of x ≡ n)

abbrev pub IsDealtBy : Option OfficeName → ℕ → ℕ → Type 0
IsDealtBy None ticket quorum = ⊥
IsDealtBy (Some office) ticket quorum = quorum ≡ quorum_of_ticket office.cycle ticket

abbrev pub office_in : OfficeName × Option OfficeName → Side → Option OfficeName
office_in names First = Some names.0
office_in names Second = names.1

-- the ticket of this side's office names this quorum, by the cycle of its plan; without such an
-- office there is no ticket
abbrev pub IsDealt : OfficeName × Option OfficeName → Side → ℕ → ℕ → Type 0
IsDealt names side ticket quorum = IsDealtBy (office_in names side) ticket quorum

-- each receipt has the quorum of its ticket
abbrev pub AreDealt : OfficeName × Option OfficeName → Side → List Receipt → Type 0
AreDealt names side receipts = All (λ r. IsDealt names side r.ticket r.quorum) receipts

-- the quorums of a plan's coterie; without a plan there are none
abbrev pub plan_quorums : Option Weighted → List (List ℕ)
plan_quorums None = []
plan_quorums (Some plan) = plan.system.quorums

abbrev pub quorums_in : Option OfficeName → List (List ℕ)
quorums_in office = plan_quorums (option_map (λ o. o.cycle) office)

-- the quorums of the plan of a side's office; without such an office there are none
abbrev pub quorums_of : OfficeName × Option OfficeName → Side → List (List ℕ)
quorums_of names side = quorums_in (office_in names side)

-- the clerk with n tickets less to draw
abbrev pub with_less : ClerkState → ℕ → ClerkState
with_less clerk n = record clerk { rest = clerk.rest - n }

-- the clerks with n tickets less to draw of each plan
abbrev pub less_each : ClerksState → ℕ → ClerksState
less_each k n = record k { first = with_less k.first n; second = option_map (λ x. with_less x n) k.second }

-- a clerk that another one of its office joined
abbrev pub with_joined : ClerkState → ClerkState → ClerkState
with_joined clerk other = record clerk { rest = clerk.rest + other.rest; receipts = clerk.receipts ++ other.receipts }

abbrev pub joined_second : Option ClerkState → Option ClerkState → Option ClerkState
joined_second None other = None
joined_second (Some clerk) None = Some clerk
joined_second (Some clerk) (Some other) = Some (with_joined clerk other)

-- the clerks, each joined by the other one of its office
abbrev pub joined_each : ClerksState → ClerksState → ClerksState
joined_each k other = record k {
  first = with_joined k.first other.first;
  second = joined_second k.second other.second;
}

-- the clerks, where only the first plan's clerk is joined by the other one of its office
abbrev pub joined_first : ClerksState → ClerksState → ClerksState
joined_first k other = record k { first = with_joined k.first other.first }

abbrev pub IsWholeIn : Option OfficeState → Option ClerkState → Type 0
IsWholeIn None clerk = Unit {0}
IsWholeIn (Some office) None = ⊥
IsWholeIn (Some office) (Some clerk) = office.quota ≤ share_of clerk

-- each clerk has all the tickets of its office, drawn or left
abbrev pub AreWhole : OfficesState → ClerksState → Type 0
AreWhole o k = (o.first.quota ≤ share_of k.first) × IsWholeIn o.second k.second
