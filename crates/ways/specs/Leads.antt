-- Steps that lead from a world to a later one, and help its clients.
use Rattle.std.specs.Prelude.{ℕ, ◌≡◌, List, Result, Ok, Err, length}
use Rattle.std.specs.List.{AllByRecursion}
use Rattle.world.specs.WayIn.{Helps, IsWayIn}
use Rattle.world_state.specs.declared.step.Step.{Step}
use Rattle.world.specs.Runs.{run_of}
use Rattle.world_state.specs.Steps.{Planned, dealing_of}
use Rattle.ways.specs.declared.make.Went.{Went}
use Rattle.ways.specs.declared.make.Went.TheVariants.{On, In}

-- the steps lead from the old world to the new one
pub record Lead (old new : Planned) (steps : List Step) : Type 0 where
  pub plans : new.plans ≡ old.plans
  pub state : new.state ≡ run_of (dealing_of old.plans) steps old.state

-- the steps lead there and help, and nobody entered or left
pub record LeadsOn (old new : Planned) (steps : List Step) : Type 0 where
  pub leads : Lead old new steps
  pub helps : AllByRecursion (Helps (length old.state.sent)) steps
  pub visible : new.state.visible ≡ old.state.visible

-- some reminders, and arrivals of messages that were sent after the first of them, lead there, and
-- nobody entered or left
abbrev pub AreLedOn : Planned → Planned → Type 0
AreLedOn old new = (steps : List Step) × LeadsOn old new steps

-- the steps lead there, and are a way in for this client
pub record LeadsIn (old new : Planned) (c : ℕ) (steps : List Step) : Type 0 where
  pub leads : Lead old new steps
  pub way : IsWayIn (dealing_of old.plans) old.state c steps

-- where the steps lead, by how the world goes on
abbrev pub Leads : Planned → Went → Planned → List Step → Type 0
Leads old On new steps = LeadsOn old new steps
Leads old (In c) new steps = LeadsIn old new c steps

-- how the world goes on after a call; if memory ran out, nobody entered yet
abbrev pub went_of : {E : Type 0} → Result Went E → Went
went_of (Ok went) = went
went_of (Err error) = On

-- wherever steps began, if they led to this world, they lead to the new one with those that were added
abbrev pub LeadFurther : ℕ → Planned → List Step → Went → Planned → List Step → Type 0
LeadFurther first world steps went new more =
    (old : Planned) → first ≡ length old.state.sent → LeadsOn old world steps → Leads old went new more
