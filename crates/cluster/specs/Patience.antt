-- How a member waits for a message.
use Rattle.std.specs.Prelude.{◌≡◌, ◌⊎◌, ℕ, ◌+◌, ◌-◌, ◌/◌, ◌%◌, ◌^◌, ◌≤◌, ◌==◌, Bool, true, false, ◌&&◌, min, nat_le}
use Rattle.members.specs.Losses.{LosesAtLeast}
use Rattle.cluster.specs.declared.patience.Step.{Step}
use Rattle.cluster.specs.declared.patience.Step.TheVariants.{Look, Yield, Sleep, Remind}

-- What a member counts while it waits:
-- - the looks in a row that found no message, since the last message or reminder;
-- - the sleeps that are left since other programs kept it waiting;
-- - the reminders since its request began;
-- - how many of these found no memory for a message, in a row up to the last one.
pub record PatienceState : Type 0 where
  pub empty : ℕ
  pub sleeps : ℕ
  pub reminders : ℕ
  pub starved : ℕ

-- what a member counts that has not waited yet
abbrev pub no_patience : PatienceState
no_patience = record { empty = 0; sleeps = 0; reminders = 0; starved = 0 }

-- a request began: whether other programs kept it waiting is all that is still known
abbrev pub begun : PatienceState → PatienceState
begun p = record p { empty = 0; reminders = 0; starved = 0 }

-- a look found a message, or a member reminded: it counts empty looks anew
abbrev pub counting_anew : PatienceState → PatienceState
counting_anew p = record p { empty = 0 }

-- a look found no message; the count stays at its greatest value
abbrev pub with_empty_look : PatienceState → PatienceState
with_empty_look p = record p { empty = min (p.empty + 1) (2 ^ 64 - 1) }

-- a member yielded its thread, by whether other programs kept it waiting
abbrev pub with_yield : Bool → PatienceState → PatienceState
with_yield true p = record p { sleeps = 100 }
with_yield false p = p

-- a member slept
abbrev pub with_sleep : PatienceState → PatienceState
with_sleep p = record p { sleeps = p.sleeps - 1 }

-- a member reminded, by whether a message found no memory; the counts stay at their greatest value
abbrev pub with_reminder : Bool → PatienceState → PatienceState
with_reminder true p = record p { empty = 0; reminders = min (p.reminders + 1) (2 ^ 64 - 1); starved = min (p.starved + 1) (2 ^ 64 - 1) }
with_reminder false p = record p { empty = 0; reminders = min (p.reminders + 1) (2 ^ 64 - 1); starved = 0 }

-- a member that may sleep does so before each look whose count is a multiple of this: 32 at first, and
-- half of it after each reminder, down to 1
abbrev pub looks_for_sleep : ℕ → ℕ
looks_for_sleep reminders = 32 / 2 ^ min reminders 5

-- What a member does before its next look, by its count of empty looks:
-- - it reminds after 1,000;
-- - it looks at once after at most 16;
-- - it yields its thread after at most 500, unless other programs kept it waiting;
-- - it sleeps after each multiple of `looks_for_sleep`;
-- - otherwise it looks at once.
abbrev pub is_long : PatienceState → Bool
is_long p = nat_le 1000 p.empty

abbrev pub is_short : PatienceState → Bool
is_short p = nat_le p.empty 16

abbrev pub may_yield : PatienceState → Bool
may_yield p = p.sleeps == 0 && nat_le p.empty 500

abbrev pub may_sleep : PatienceState → Bool
may_sleep p = p.empty % looks_for_sleep p.reminders == 0

abbrev pub step_by : Bool → Bool → Bool → Bool → Step
step_by true short yields sleeps = Remind
step_by false true yields sleeps = Look
step_by false false true sleeps = Yield
step_by false false false true = Sleep
step_by false false false false = Look

abbrev pub next_step : PatienceState → Step
next_step p = step_by (is_long p) (is_short p) (may_yield p) (may_sleep p)

-- how many reminders in a row have to find no memory before a member's work ends
abbrev pub most_starved : ℕ
most_starved = 5

-- What a member's patience is after each step, with how many messages it lost before and after. After
-- a reminder that found no memory it lost one more at least.
abbrev pub Waited : Step → PatienceState → PatienceState → ℕ → ℕ → Type 0
Waited Look before after lost now = (after ≡ before) × (now ≡ lost)
Waited Yield before after lost now = ((after ≡ with_yield true before) ⊎ (after ≡ with_yield false before)) × (now ≡ lost)
Waited Sleep before after lost now = (after ≡ with_sleep before) × (now ≡ lost)
Waited Remind before after lost now =
    ((after ≡ with_reminder true before) × LosesAtLeast 1 lost now)
    ⊎ ((after ≡ with_reminder false before) × (lost ≤ now))
