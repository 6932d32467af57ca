-- Lemmas on how calls end.
use Rattle.std.proofs.Common.{◌≡◌, ℕ, ◌+◌, ◌<◌, List, [], ◌∷◌, ◌++◌, length, get_or, take, Err, inr, refl, sym, ap, ◌∙◌, subst}
use Rattle.std.specs.Bool.{OnFalse}
use Rattle.std.proofs.lemmas.Grind.{flat_map-append}
use Rattle.std.proofs.lemmas.List.{append-nil, take_more}
use Rattle.qlock_plan_c.specs.Calls.{IsLength, TextCall, WeightsCall, names_text}
use Rattle.plan_inputs.specs.Inputs.{IsWeightsText, coterie_in}
use Rattle.plan_inputs.specs.Lines.{line_of}
use Rattle.plan_inputs.specs.Faults.{is_out_of_memory}
use Rattle.qlock_plan_c.specs.Outputs.{Output, PutsFault, PutsRefusal}
use Rattle.plan_inputs.specs.declared.fault.InputFault.{InputFault}
use Rattle.plan_inputs.specs.declared.fault.InputFault.TheVariants.{OutOfMemory}
use Rattle.qlock_plan_c.specs.declared.outcome.Outcome.{Outcome}
use Rattle.qlock_plan_c.specs.declared.outcome.Outcome.TheVariants.{Done, BadArgument, NoRoom, Refused, NoMemory}

line_written : (texts : List ℕ → Type 0) (faults : InputFault → Type 0) (o : Output) (fault : InputFault) (outcome : Outcome) → faults fault → PutsRefusal (line_of fault) o outcome
    → TextCall texts faults o outcome
line_written texts faults o fault Refused is puts = (fault, is, puts)
line_written texts faults o fault NoRoom is puts = (line_of fault, inr (fault, is, refl), puts)
line_written texts faults o fault outcome is puts = absurd puts

-- a call that writes the line of its fault
pub fault_written : (texts : List ℕ → Type 0) (faults : InputFault → Type 0) (o : Output) (fault : InputFault) (outcome : Outcome) → OnFalse (is_out_of_memory fault) (faults fault)
    → PutsFault fault o outcome → TextCall texts faults o outcome
fault_written texts faults o OutOfMemory outcome is puts = subst (λ (e : Outcome). TextCall texts faults o e) (sym puts.0) puts.1
fault_written texts faults o fault outcome is puts = line_written texts faults o fault outcome is puts

-- one name more
pub names_text-more : (names : List (List ℕ)) (i : ℕ) (name before after : List ℕ) → i < length names → get_or names i [] ≡ name → before ≡ names_text (take i names)
    → after ≡ before ++ (name ++ 10 ∷ []) → after ≡ names_text (take (i + 1) names)
names_text-more names i name before after lt at was is =
    let line : List ℕ → List ℕ = λ n. n ++ 10 ∷ [] in
    let more : take (i + 1) names ≡ take i names ++ name ∷ [] = take_more names i [] lt ∙ ap (λ n. take i names ++ n ∷ []) at in
    let lines : names_text (take (i + 1) names) ≡ names_text (take i names) ++ line name =
    ap names_text more ∙ flat_map-append line (take i names) (name ∷ []) ∙ ap (λ rest. names_text (take i names) ++ rest) (append-nil (line name)) in
    is ∙ ap (λ t. t ++ line name) was ∙ sym lines

-- a call of weights that has a length ends as one that writes a text
pub WeightsCall-TextCall : (coterie : List ℕ) (most : ℕ) (o : Output) (outcome : Outcome) → IsLength most
    → TextCall (IsWeightsText coterie most) (λ fault. coterie_in coterie ≡ Err fault) o outcome → WeightsCall coterie most o outcome
WeightsCall-TextCall coterie most o BadArgument is h = absurd h
WeightsCall-TextCall coterie most o Done is h = (is, h)
WeightsCall-TextCall coterie most o NoRoom is h = (is, h)
WeightsCall-TextCall coterie most o Refused is h = (is, h)
WeightsCall-TextCall coterie most o NoMemory is h = (is, h)
