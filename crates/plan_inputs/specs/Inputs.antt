-- What texts describe: a coterie, and a plan or weights of it.
use Rattle.std.specs.Prelude.{◌≡◌, ◌⊎◌, ◌≤◌, ℕ, List, length, Result, Ok, Err, if◌then◌else◌}
use Rattle.std.specs.Bool.{OnFalse}
use Rattle.std.specs.Str.{is_utf8}
use Rattle.numbers.specs.Results.{◌>>=◌}
use Rattle.coterie_file.specs.Named.{NamedSystem}
use Rattle.coterie_file.specs.Reading.{coterie_at}
use Rattle.coterie_file.specs.declared.fault.FileFault.TheVariants.{NotToml}
use Rattle.certificate.specs.Bounds.{IsBounded}
use Rattle.certificate.specs.Certificates.{Weighted, AreWeights, IsCertificate, IsOptimal, cycle_len, load_of, with_weights}
use Rattle.certificate.specs.Ratios.{IsAtMost}
use Rattle.plan_texts.specs.PlanTexts.{plan_at, plan_text, weights_at, weights_text}
use Rattle.near.specs.Nearness.{ones_of}
use Rattle.planner.specs.Causes.{CanCome}
use Rattle.planner.specs.Uniform.{IsWarranted, all_ones}
use Rattle.planner.specs.Weights.{HaveNoCommonDivisor}
use Rattle.planner.specs.declared.fault.Cause.{Cause}
use Rattle.planner.specs.declared.fault.PlannerFault.TheVariants as planner
use Rattle.planner.specs.declared.fault.PlannerFault.TheVariants.{NoPlan}
use Rattle.plan_inputs.specs.Faults.{refused_as, is_out_of_memory}
use Rattle.plan_inputs.specs.declared.fault.InputFault.{InputFault}
use Rattle.plan_inputs.specs.declared.fault.InputFault.TheVariants as faults
use Rattle.plan_inputs.specs.declared.fault.InputFault.TheVariants.{File, Planner}
use Rattle.plan_inputs.specs.declared.planned.Planned.{Planned}
use Rattle.plan_inputs.specs.declared.planned.Weighed.{Weighed}

-- the coterie that the bytes describe, which have to be UTF-8
unfoldable pub coterie_in : List ℕ → Result NamedSystem InputFault
coterie_in bytes = if is_utf8 bytes then refused_as File (coterie_at bytes) else Err (File NotToml)

-- the plan of the coterie and capacities that the bytes describe
unfoldable pub plan_in : NamedSystem → List ℕ → Result Weighted InputFault
plan_in named bytes = refused_as faults.Plan (plan_at named.system named.capacities bytes)

-- a coterie with names, and a plan
pub record PlannedSystem : Type 0 where
  pub named : NamedSystem
  pub plan : Weighted

-- the two parts of a coterie with a plan of it
abbrev pub parts_of : Planned → PlannedSystem
parts_of p = record { named = p.named; plan = p.plan }

-- what two texts describe: a coterie, and a plan of it
unfoldable pub planned_by : List ℕ → List ℕ → Result PlannedSystem InputFault
planned_by coterie plan = do
  named ← coterie_in coterie
  plan ← plan_in named plan
  Ok (record { named = named; plan = plan })

-- The text is the one of an optimal plan, whose coterie and capacities are those that the first
-- text describes. All weights are 1 if these are a certificate. No number above 1 divides all
-- weights of the quorums, or all weights of the voters.
pub record IsPlanText (coterie text : List ℕ) : Type 0 where
  pub named : NamedSystem
  pub coterie_is : coterie_in coterie ≡ Ok named
  pub plan : Weighted
  pub system : plan.system ≡ named.system
  pub capacities : plan.capacities ≡ named.capacities
  pub certificate : IsCertificate plan
  pub optimal : IsOptimal plan
  pub ones : IsCertificate (all_ones named.system named.capacities) → plan ≡ all_ones named.system named.capacities
  pub lowest : HaveNoCommonDivisor plan.quorum_weights × HaveNoCommonDivisor plan.voter_weights
  pub text_is : text ≡ plan_text plan

-- The text describes a coterie of which all weights 1 are no certificate, and the planner found no
-- plan of it, for this cause. The coterie is not uniform, or has unequal capacities.
pub record IsUnplanned (coterie : List ℕ) (cause : Cause) : Type 0 where
  pub named : NamedSystem
  pub coterie_is : coterie_in coterie ≡ Ok named
  pub uncertified : ¬ IsCertificate (all_ones named.system named.capacities)
  pub warranted : IsWarranted named.system named.capacities (NoPlan cause)
  pub can_come : CanCome named.capacities (NoPlan cause)

-- Planning fails with this fault: the text describes no coterie, or no plan of it was found. The
-- fault is never the planner's own `OutOfMemory`.
abbrev pub RefusesToPlan : List ℕ → InputFault → Type 0
RefusesToPlan coterie (Planner (NoPlan cause)) = IsUnplanned coterie cause
RefusesToPlan coterie (Planner planner.OutOfMemory) = ⊥
RefusesToPlan coterie fault = coterie_in coterie ≡ Err fault

-- the result is the text of an optimal plan, or the fault of planning, unless memory ran out
abbrev pub Plans : {X : Type 0} → (X → List ℕ) → List ℕ → Result X InputFault → Type 0
Plans view coterie (Ok x) = IsPlanText coterie (view x)
Plans view coterie (Err fault) = OnFalse (is_out_of_memory fault) (RefusesToPlan coterie fault)

-- the weights of the coterie and capacities that the bytes describe, theirs or a plan's
unfoldable pub weights_in : NamedSystem → List ℕ → Result Weighted InputFault
weights_in named bytes = refused_as faults.Plan (weights_at named.system named.capacities bytes)

-- a coterie with names, and weights of it
pub record WeighedSystem : Type 0 where
  pub named : NamedSystem
  pub weights : Weighted

-- the two parts of a coterie with weights of it
abbrev pub weighed_parts : Weighed → WeighedSystem
weighed_parts w = record { named = w.named; weights = w.weights }

-- what two texts describe: a coterie, and weights of it
unfoldable pub weighed_by : List ℕ → List ℕ → Result WeighedSystem InputFault
weighed_by coterie weights = do
  named ← coterie_in coterie
  weights ← weights_in named weights
  Ok (record { named = named; weights = weights })

-- The text is that of weights, whose coterie and capacities are those that the first text describes, and
-- whose cycle has at most `most` tickets. It is a plan's text if and only if the weights are a plan. No
-- weights have a load below the bound. The load is at most that of weights 1 of all quorums, if these are
-- not too many.
pub record IsWeightsText (coterie : List ℕ) (most : ℕ) (text : List ℕ) : Type 0 where
  pub named : NamedSystem
  pub coterie_is : coterie_in coterie ≡ Ok named
  pub weights : Weighted
  pub system : weights.system ≡ named.system
  pub capacities : weights.capacities ≡ named.capacities
  pub are : AreWeights weights
  pub short : cycle_len weights ≤ most
  pub bounded : IsBounded weights
  pub ones : length named.system.quorums ≤ most
      → IsAtMost (load_of weights)
      (load_of (with_weights named.system named.capacities (ones_of named.system) weights.voter_weights))
  pub text_is : (IsCertificate weights × (text ≡ plan_text weights))
      ⊎ ((¬ IsCertificate weights) × (text ≡ weights_text weights))

-- the result is the text of weights, or the fault of the coterie's text, unless memory ran out
abbrev pub FindsWeights : {X : Type 0} → (X → List ℕ) → List ℕ → ℕ → Result X InputFault → Type 0
FindsWeights view coterie most (Ok x) = IsWeightsText coterie most (view x)
FindsWeights view coterie most (Err fault) = OnFalse (is_out_of_memory fault) (coterie_in coterie ≡ Err fault)
