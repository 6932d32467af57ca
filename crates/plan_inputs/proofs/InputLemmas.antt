-- Lemmas on what texts describe.
use Rattle.std.proofs.Common.{◌≡◌, ℕ, Bool, true, false, cond, List, Result, Ok, Err, ap, sym, refl, ◌∙◌}
use Rattle.std.specs.Bool.{OnFalse}
use Rattle.std.specs.Str.{IsUtf8, is_utf8}
use Rattle.std.proofs.lemmas.Str.{IsUtf8-from_is_utf8, is_utf8-from_IsUtf8}
use Rattle.coterie_file.specs.Answers as file_answers
use Rattle.coterie_file.specs.Named.{NamedSystem}
use Rattle.coterie_file.specs.Reading.{coterie_at}
use Rattle.coterie_file.specs.declared.fault.FileFault.{FileFault}
use Rattle.coterie_file.specs.declared.fault.FileFault.TheVariants as file
use Rattle.plan_texts.specs.PlanTexts as plan_texts
use Rattle.certificate.specs.declared.fault.PlanFault.{PlanFault}
use Rattle.certificate.specs.declared.fault.PlanFault.TheVariants as plan
use Rattle.certificate.specs.Certificates.{IsCertificate}
use Rattle.planner.specs.Causes.{CanCome}
use Rattle.planner.specs.Uniform.{IsWarranted, all_ones}
use Rattle.planner.specs.declared.fault.PlannerFault.{PlannerFault}
use Rattle.planner.specs.declared.fault.PlannerFault.TheVariants as planner
use Rattle.plan_inputs.specs.Faults.{IsOfFile, Refuses, file_refusal, is_out_of_memory, plan_refusal, planner_refusal, refused_as}
use Rattle.plan_inputs.specs.Inputs.{RefusesToPlan, coterie_in}
use Rattle.plan_inputs.specs.declared.fault.InputFault.{InputFault}
use Rattle.plan_inputs.specs.declared.fault.InputFault.TheVariants.{File, Plan, Planner, OutOfMemory}

is_no_text : (bytes : List ℕ) (b : Bool) → is_utf8 bytes ≡ b → (IsUtf8 bytes → ⊥) → b ≡ false
is_no_text bytes true e none = absurd (none (IsUtf8-from_is_utf8 bytes e))
is_no_text bytes false e none = refl

-- bytes that are no text are no coterie
pub coterie_in-refused : (bytes : List ℕ) → (IsUtf8 bytes → ⊥) → coterie_in bytes ≡ Err (File file.NotToml)
unfolding coterie_in
coterie_in-refused bytes none = ap (λ b. cond b (refused_as File (coterie_at bytes)) (Err (File file.NotToml))) (is_no_text bytes (is_utf8 bytes) refl none)

-- and of a text they are what it describes
pub coterie_in-read : (bytes text : List ℕ) → text ≡ bytes → IsUtf8 bytes → coterie_in bytes ≡ refused_as File (coterie_at text)
unfolding coterie_in
coterie_in-read bytes text same is_text = ap (λ b. cond b (refused_as File (coterie_at bytes)) (Err (File file.NotToml))) (is_utf8-from_IsUtf8 bytes is_text)
    ∙ ap (λ t. refused_as File (coterie_at t)) (sym same)

-- a refusal of the coterie is one of the call
pub Refuses-file : {Y : Type 0} (fault : FileFault) (wanted : Result Y FileFault) → file_answers.Refuses fault wanted → Refuses (file_refusal fault) (refused_as File wanted)
Refuses-file file.OutOfMemory wanted e = tt
Refuses-file fault wanted e = ap (refused_as File) e

-- so is one of the plan
pub Refuses-plan : {Y : Type 0} (fault : PlanFault) (wanted : Result Y PlanFault) → plan_texts.Refuses fault wanted → Refuses (plan_refusal fault) (refused_as Plan wanted)
Refuses-plan plan.OutOfMemory wanted e = tt
Refuses-plan fault wanted e = ap (refused_as Plan) e

-- so is one of the planner
pub unplanned_refused : (coterie : List ℕ) (named : NamedSystem) (fault : PlannerFault) → coterie_in coterie ≡ Ok named
    → (IsCertificate (all_ones named.system named.capacities) → fault ≡ planner.OutOfMemory)
    → IsWarranted named.system named.capacities fault → CanCome named.capacities fault
    → OnFalse (is_out_of_memory (planner_refusal fault)) (RefusesToPlan coterie (planner_refusal fault))
unplanned_refused coterie named planner.OutOfMemory e certified warranted can_come = tt
unplanned_refused coterie named (planner.NoPlan cause) e certified warranted can_come = record {
  named = named;
  coterie_is = e;
  uncertified = λ is. let e = certified is in cc;
  warranted = warranted;
  can_come = can_come;
}

-- a text that describes no coterie has no plan
pub unread_refused : (coterie : List ℕ) (fault : InputFault) → IsOfFile fault → OnFalse (is_out_of_memory fault) (coterie_in coterie ≡ Err fault)
    → OnFalse (is_out_of_memory fault) (RefusesToPlan coterie fault)
unread_refused coterie OutOfMemory of_file e = tt
unread_refused coterie (File fault) of_file e = e
unread_refused coterie (Plan fault) of_file e = absurd of_file
unread_refused coterie (Planner fault) of_file e = absurd of_file
