-- What a call leaves in `out` and `written`.
use Rattle.std.specs.Prelude.{ℕ, ◌≡◌, ◌<◌, ◌≤◌, List, ◌++◌, drop, length}
use Rattle.plan_inputs.specs.Lines.{line_of}
use Rattle.plan_inputs.specs.declared.fault.InputFault.{InputFault}
use Rattle.plan_inputs.specs.declared.fault.InputFault.TheVariants.{OutOfMemory}
use Rattle.qlock_plan_c.specs.declared.outcome.Outcome.{Outcome}
use Rattle.qlock_plan_c.specs.declared.outcome.Outcome.TheVariants.{Done, NoRoom, Refused, NoMemory}

-- the bytes of `out` and the number in `written`, before and after a call
pub record Output : Type 0 where
  pub before : List ℕ
  pub after : List ℕ
  pub count_before : ℕ
  pub count : ℕ

abbrev pub output : List ℕ → List ℕ → ℕ → ℕ → Output
output before after count_before count =
    record { before = before; after = after; count_before = count_before; count = count }

-- The text is at the front of `out`, whose other bytes stay as they were, and `written` is the
-- number of its bytes.
pub record Writes (text : List ℕ) (o : Output) : Type 0 where
  pub bytes : o.after ≡ text ++ drop (length text) o.before
  pub counted : o.count ≡ length text
  pub fits : length text ≤ length o.before

-- both stay as they were
abbrev pub IsUnwritten : Output → Type 0
IsUnwritten o = (o.after ≡ o.before) × (o.count ≡ o.count_before)

-- `out` is too short for the text, and both stay as they were
abbrev pub LacksRoom : List ℕ → Output → Type 0
LacksRoom text o = (length o.before < length text) × IsUnwritten o

-- a text was written, or there is no room for it
abbrev pub PutsText : List ℕ → Output → Outcome → Type 0
PutsText text o Done = Writes text o
PutsText text o NoRoom = LacksRoom text o
PutsText text o outcome = ⊥

-- the same of a text that says why the call was refused
abbrev pub PutsRefusal : List ℕ → Output → Outcome → Type 0
PutsRefusal text o Refused = Writes text o
PutsRefusal text o NoRoom = LacksRoom text o
PutsRefusal text o outcome = ⊥

-- the line of a fault was written, or there is no room for it; out of memory has no line
abbrev pub PutsFault : InputFault → Output → Outcome → Type 0
PutsFault OutOfMemory o outcome = (outcome ≡ NoMemory) × IsUnwritten o
PutsFault fault o outcome = PutsRefusal (line_of fault) o outcome
