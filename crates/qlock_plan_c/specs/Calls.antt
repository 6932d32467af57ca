-- How each call ends, and what it has written then.
use Rattle.std.specs.Prelude.{◌≡◌, ◌⊎◌, ℕ, ◌+◌, ◌/◌, ◌%◌, ◌<◌, ◌≤◌, ⊤, List, [], ◌∷◌, ◌++◌, Ok, Err}
use Rattle.std.specs.List.{flat_map}
use Rattle.numbers.specs.Bounds.{max_cycle, max_tickets}
use Rattle.words.specs.WordBytes.{bytes_of}
use Rattle.coterie_file.specs.Named.{NamedSystem}
use Rattle.certificate.specs.Certificates.{Weighted, IsCertificate, IsOptimal, cycle_len, load_of}
use Rattle.certificate.specs.Bounds.{IsBounded, bound_of}
use Rattle.even.specs.EvenCycles.{EvenOrder}
use Rattle.even.specs.Slacks.{IsSlack}
use Rattle.even.specs.declared.slack.Slack.{Slack}
use Rattle.plan_inputs.specs.Lines.{line_of}
use Rattle.qlock_plan_c.specs.Orders.{IsEvenOrder, IsOrder, masks_of}
use Rattle.qlock_plan_c.specs.Outputs.{IsUnwritten, LacksRoom, Output, Writes}
use Rattle.qlock_plan_c.specs.Texts.{AreDescribed, AreRefused}
use Rattle.plan_inputs.specs.Inputs.{IsPlanText, IsWeightsText, PlannedSystem, RefusesToPlan, WeighedSystem, coterie_in, planned_by, weighed_by}
use Rattle.plan_inputs.specs.declared.fault.InputFault.{InputFault}
use Rattle.qlock_plan_c.specs.declared.order.Order.{Order}
use Rattle.qlock_plan_c.specs.declared.outcome.Outcome.{Outcome}
use Rattle.qlock_plan_c.specs.declared.outcome.Outcome.TheVariants.{Done, BadArgument, NoRoom, Refused, NoMemory}

-- Calls that write a text

-- the call has this text to write: its own, or the line of a fault
abbrev pub HasToWrite : (List ℕ → Type 0) → (InputFault → Type 0) → List ℕ → Type 0
HasToWrite texts faults text = texts text ⊎ ((fault : InputFault) × faults fault × (text ≡ line_of fault))

-- A call whose own text is one of `texts` ends. It is done once such a text is written. It is
-- refused with one of `faults`, whose line is written. Otherwise nothing is.
abbrev pub TextCall : (List ℕ → Type 0) → (InputFault → Type 0) → Output → Outcome → Type 0
TextCall texts faults o Done = (text : List ℕ) × texts text × Writes text o
TextCall texts faults o Refused = (fault : InputFault) × faults fault × Writes (line_of fault) o
TextCall texts faults o NoRoom = (text : List ℕ) × HasToWrite texts faults text × LacksRoom text o
TextCall texts faults o NoMemory = IsUnwritten o
TextCall texts faults o BadArgument = ⊥

-- the names, each with a newline
abbrev pub names_text : List (List ℕ) → List ℕ
names_text names = flat_map (λ name. name ++ 10 ∷ []) names

-- the text has the names of the voters of the coterie that the first text describes
abbrev pub IsNamesText : List ℕ → List ℕ → Type 0
IsNamesText coterie text = (named : NamedSystem) × (coterie_in coterie ≡ Ok named) × (text ≡ names_text named.names)

-- the call `qlock_names`: its text has the names, and it is refused with the fault of the coterie
abbrev pub NamesCall : List ℕ → Output → Outcome → Type 0
NamesCall coterie o outcome = TextCall (IsNamesText coterie) (λ fault. coterie_in coterie ≡ Err fault) o outcome

-- the call `qlock_plan`: its text is an optimal plan's, and it is refused with the fault of
-- reading the coterie or of looking for a plan
abbrev pub PlanCall : List ℕ → Output → Outcome → Type 0
PlanCall coterie o outcome = TextCall (IsPlanText coterie) (RefusesToPlan coterie) o outcome

-- there are cycles of at most so many tickets
abbrev pub IsLength : ℕ → Type 0
IsLength most = (0 < most) × (most ≤ max_cycle)

-- the call `qlock_weights`: its text is that of weights with a cycle of at most `most` tickets, and it is
-- refused with the fault of the coterie
abbrev pub WeightsCall : List ℕ → ℕ → Output → Outcome → Type 0
WeightsCall coterie most o BadArgument = ¬ IsLength most × IsUnwritten o
WeightsCall coterie most o outcome =
    IsLength most × TextCall (IsWeightsText coterie most) (λ fault. coterie_in coterie ≡ Err fault) o outcome

-- Calls that write numbers

-- A call with numbers ends. `allowed` is what it asks of its arguments. If it is done, `done` says
-- what its numbers are, `out` is as it was, and `written` is 0. If it is refused with one of
-- `faults`, the line of the fault is in `out`. Otherwise `out` is as it was. Unless it is done, its
-- numbers are as they were: `kept`.
abbrev pub NumbersCall : (allowed done kept : Type 0) → (InputFault → Type 0) → Output → Outcome → Type 0
NumbersCall allowed done kept faults o Done = allowed × done × (o.after ≡ o.before) × (o.count ≡ 0)
NumbersCall allowed done kept faults o Refused =
    allowed × kept × ((fault : InputFault) × faults fault × Writes (line_of fault) o)
NumbersCall allowed done kept faults o NoRoom =
    allowed × kept × ((fault : InputFault) × faults fault × LacksRoom (line_of fault) o)
NumbersCall allowed done kept faults o NoMemory = allowed × kept × IsUnwritten o
NumbersCall allowed done kept faults o BadArgument = ¬ allowed × kept × IsUnwritten o

-- three numbers of the caller's
pub record Three : Type 0 where
  pub first : ℕ
  pub second : ℕ
  pub third : ℕ

abbrev pub three : ℕ → ℕ → ℕ → Three
three first second third = record { first = first; second = second; third = third }

-- The texts describe a coterie and an optimal plan of it. The numbers are the plan's load, as a
-- numerator and a denominator in lowest terms, and the length of its cycle.
pub record WritesLoad (coterie plan : List ℕ) (numbers : Three) : Type 0 where
  pub planned : PlannedSystem
  pub texts : planned_by coterie plan ≡ Ok planned
  pub certificate : IsCertificate planned.plan
  pub optimal : IsOptimal planned.plan
  pub numerator : numbers.first ≡ (load_of planned.plan).0
  pub denominator : numbers.second ≡ (load_of planned.plan).1
  pub cycle : numbers.third ≡ cycle_len planned.plan

-- The texts describe a coterie and weights of it. The numbers are the stride of the even order, and
-- the numerator and the denominator of its slack.
pub record WritesSlack (coterie weights : List ℕ) (numbers : Three) : Type 0 where
  pub weighed : WeighedSystem
  pub texts : weighed_by coterie weights ≡ Ok weighed
  pub order : EvenOrder
  pub is_even : IsEvenOrder weighed.weights order
  pub stride : numbers.first ≡ order.stride
  pub slack : Slack
  pub is_slack : IsSlack order slack
  pub excess : numbers.second ≡ slack.excess
  pub unit : numbers.third ≡ slack.unit

-- the call `qlock_check`
abbrev pub CheckCall : (coterie plan : List ℕ) → (before after : Three) → Output → Outcome → Type 0
CheckCall coterie plan before after o outcome =
    NumbersCall ⊤ (WritesLoad coterie plan after) (after ≡ before) (λ fault. planned_by coterie plan ≡ Err fault) o outcome

-- the call `qlock_slack`
abbrev pub SlackCall : (coterie weights : List ℕ) → (before after : Three) → Output → Outcome → Type 0
SlackCall coterie weights before after o outcome =
    NumbersCall ⊤ (WritesSlack coterie weights after) (after ≡ before)
    (λ fault. weighed_by coterie weights ≡ Err fault) o outcome

-- the numbers that say how good weights are: load and bound, each a numerator and a denominator, and the
-- length of a cycle
pub record Measures : Type 0 where
  pub load : ℕ × ℕ
  pub bound : ℕ × ℕ
  pub cycle : ℕ

abbrev pub measures : ℕ → ℕ → ℕ → ℕ → ℕ → Measures
measures load_p load_q bound_p bound_q cycle =
    record { load = (load_p, load_q); bound = (bound_p, bound_q); cycle = cycle }

-- The texts describe a coterie and weights of it. The numbers are their load, their bound, which no load
-- of weights of this coterie is below, and the length of their cycle.
pub record WritesMeasures (coterie weights : List ℕ) (numbers : Measures) : Type 0 where
  pub weighed : WeighedSystem
  pub texts : weighed_by coterie weights ≡ Ok weighed
  pub load : numbers.load ≡ load_of weighed.weights
  pub bound : numbers.bound ≡ bound_of weighed.weights
  pub bounded : IsBounded weighed.weights
  pub cycle : numbers.cycle ≡ cycle_len weighed.weights

-- the call `qlock_check_weights`
abbrev pub CheckWeightsCall : (coterie weights : List ℕ) → (before after : Measures) → Output → Outcome → Type 0
CheckWeightsCall coterie weights before after o outcome =
    NumbersCall ⊤ (WritesMeasures coterie weights after) (after ≡ before)
    (λ fault. weighed_by coterie weights ≡ Err fault) o outcome

-- which tickets are asked for: the number of an order, the first ticket, and how many bytes there
-- are for masks
pub record Asked : Type 0 where
  pub order : ℕ
  pub first : ℕ
  pub bytes : ℕ

abbrev pub question_of : ℕ → ℕ → ℕ → Asked
question_of order first bytes = record { order = order; first = first; bytes = bytes }

-- there is such an order, each mask has 8 bytes, and there are such tickets
abbrev pub IsAllowed : Asked → Type 0
IsAllowed a = (a.order ≤ 1) × (a.bytes % 8 ≡ 0) × (a.first + a.bytes / 8 ≤ max_tickets)

-- The texts describe a coterie, and a plan or weights of it, as the order needs them. The bytes are the
-- masks of the quorums of these tickets, in this order.
pub record WritesMasks (coterie weights : List ℕ) (a : Asked) (masks : List ℕ) : Type 0 where
  pub weighted : Weighted
  pub texts : AreDescribed a.order coterie weights weighted
  pub order : Order
  pub is_order : IsOrder weighted a.order order
  pub masks_are : masks ≡ bytes_of (masks_of order a.first (a.bytes / 8))

-- the call `qlock_quorums`
abbrev pub QuorumsCall : (coterie weights : List ℕ) → Asked → (before after : List ℕ) → Output → Outcome → Type 0
QuorumsCall coterie weights a before after o outcome =
    NumbersCall (IsAllowed a) (WritesMasks coterie weights a after) (after ≡ before)
    (AreRefused a.order coterie weights) o outcome
