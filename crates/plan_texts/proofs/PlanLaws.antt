-- The laws of texts: what is read has this text, the text of a plan and of weights is read, and no text begins another.
use Rattle.std.proofs.Common.{◌≡◌, ◌≢◌, ℕ, ◌+◌, ◌<◌, ◌≤◌, ◌*◌, ◌⊎◌, inl, inr, Bool, true, false, cond, ◌&&◌, eqb, not, get_or, List, [], ◌∷◌, ◌++◌, length, sum, Option, None, Some, Result, Ok, Err, sym}
use Rattle.std.proofs.Common.{refl, ap, ap₂, subst, ◌∙◌, arith, append_assoc, rules}
use Rattle.std.specs.Prelude.{codes, is_some, IfOk}
use Rattle.std.specs.List.{All, AllByRecursion}
use Rattle.std.specs.Cmp.Lexicographic.{bytes_decides}
use Rattle.std.specs.Option.{option_or}
use Rattle.std.proofs.lemmas.Bool.{eqb-true, eq-eqb, and_parts, not-false}
use Rattle.std.proofs.lemmas.List.{nil_from_length, append-nil}
use Rattle.std.proofs.lemmas.List.Sums.{count_by-le-length, sum_by-cons}
use Rattle.std.proofs.Math.Nat.{div-le_self, mul-le-mul, mul-le-mul_left, mul-le-mul_right}
use Rattle.std.proofs.lemmas.List.Elements.{All-from_recursion}
use Rattle.numbers.specs.Sets.{has}
use Rattle.numbers.specs.Sums.{sum_below}
use Rattle.numbers.proofs.SumsBelow.{sum_below-le, sum_below-list, sum_below-times}
use Rattle.quorum_set.specs.Counts.{count_of}
use Rattle.quorum_set.specs.Coteries.{QuorumSystem}
use Rattle.quorum_set.specs.Capacities.{IsCapacity, are_unit}
use Rattle.numbers.proofs.Options.{option_or-None}
use Rattle.certificate.specs.declared.fault.PlanFault.{PlanFault}
use Rattle.certificate.specs.declared.fault.PlanFault.TheVariants.{BadText, WrongBound, WrongCapacity, WrongCycle, WrongLoad}
use Rattle.divisor.specs.Gcd.{gcd_of}
use Rattle.certificate.specs.Certificates.{Weighted, AreWeights, IsCertificate, capacity_total, cycle_len, cycle_ratio, lightest_quorum, load_of, voter_total, sizes_fault, weights_fault, with_weights}
use Rattle.certificate.specs.Bounds.{bound_of}
use Rattle.texts.specs.Lines.{text_of_lines}
use Rattle.plan_texts.specs.PlanTexts.{HasDigits, IsShort, Contents, contents_with, text_with, written_capacities, is_bounded, version_of, load_digits, title_line, ratio_line, cycle_line, weights_line}
use Rattle.plan_texts.specs.PlanTexts.{bound_lines, capacity_lines, lines_of, plan_text, weights_text, read_title, read_ratio, read_cycle, read_capacities, read_numbers, line_at, bound_at, capacities_at, cycle_place, ◌>>=◌}
use Rattle.plan_texts.specs.PlanTexts.{contents_at, are_same, begins_as_weights, bound_fault, head_fault, are_given, capacities_fault, unless_fault, judge, plan_at, weights_at, UnlessOutOfMemory}
use Rattle.certificate.proofs.FaultLaws.{cond_Some-None, IsCertificate-weights_fault, sizes_fault-AreWeights, weights_fault-IsCertificate}
use Rattle.plan_texts.proofs.Numbers.{HasDigits-small}
use Rattle.certificate.proofs.BoundLemmas.{BearsBound-weights}
use Rattle.certificate.proofs.RatioLemmas.{AreWeights-certificate, capacity-some, cycle_ratio-small, load_of-fits, load_of-le}
use Rattle.certificate.proofs.UnitCapacities.{cycle_ratio-are_unit}
use Rattle.texts.proofs.CutLemmas.{Lacks}
use Rattle.plan_texts.proofs.PlanLines.{read_title-Some, read_title-one, read_title-two, read_ratio-Some, read_ratio-written, read_cycle-Some, read_cycle-written, IsCapacity-IsShort}
use Rattle.plan_texts.proofs.PlanLines.{read_capacities-Some, read_capacities-written, read_numbers-Some, read_numbers-written, Lacks-ratio, Lacks-cycle, Lacks-weights, line_at-Ok, line_at-append}

bind_Ok : {A B : Type 0} (r : Result A PlanFault) (f : A → Result B PlanFault) (y : B) → (r >>= f) ≡ Ok y → (x : A) × (r ≡ Ok x) × (f x ≡ Ok y)
bind_Ok (Ok x) f y e = (x, refl, e)
bind_Ok (Err d) f y e = cc

ended_Ok : {A : Type 0} (b : Bool) (d : PlanFault) (x y : A) → cond b (Ok x) (Err d) ≡ Ok y → (b ≡ true) × (x ≡ y)
ended_Ok true d x y e = (refl, cc)
ended_Ok false d x y e = cc

-- the capacities that a text gives are capacities, and some is not 1
abbrev pub AreWritten : Option (List ℕ) → Type 0
AreWritten None = Unit {0}
AreWritten (Some capacities) = All IsCapacity capacities × (are_unit capacities ≡ false)

-- what is written, if nothing follows
abbrev contents_unless_more : ℕ → Contents → List ℕ → Result Contents PlanFault
contents_unless_more last t more = cond (eqb (length more) 0) (Ok t) (Err (BadText last))

-- a line, and more behind it
abbrev line_and : List ℕ → List ℕ → List ℕ
line_and line more = line ++ 10 ∷ more

-- the line at the front of a text was read, and then the rest
read_on : {X : Type 0} (k : ℕ) (read : List ℕ → Option X) (text : List ℕ) (next : X × List ℕ → Result Contents PlanFault) (t : Contents) → (line_at k read text >>= next) ≡ Ok t
    → (x : X × List ℕ) × (line : List ℕ) × (text ≡ line ++ 10 ∷ x.1) × (read line ≡ Some x.0) × (next x ≡ Ok t)
read_on k read text next t e =
    let found = bind_Ok (line_at k read text) next t e in
    let line = line_at-Ok k read text found.0 found.1 in
    (found.0, line.0, line.1, line.2, found.2)

-- the lines, and more behind them
abbrev lines_and : List (List ℕ) → List ℕ → List ℕ
lines_and [] more = more
lines_and (line ∷ lines) more = line ++ 10 ∷ lines_and lines more

text_of_lines-append : (lines : List (List ℕ)) (more : List ℕ) → text_of_lines lines ++ more ≡ lines_and lines more
text_of_lines-append [] more = refl
text_of_lines-append (line ∷ lines) more = append_assoc line (10 ∷ text_of_lines lines) more ∙ ap (λ r. line ++ 10 ∷ r) (text_of_lines-append lines more)

lines_and-append : (first second : List (List ℕ)) (more : List ℕ) → lines_and (first ++ second) more ≡ lines_and first (lines_and second more)
lines_and-append [] second more = refl
lines_and-append (line ∷ first) second more = ap (λ r. line ++ 10 ∷ r) (lines_and-append first second more)

text_of_lines-lines_and : (first lines : List (List ℕ)) → text_of_lines (first ++ lines) ≡ lines_and first (text_of_lines lines)
text_of_lines-lines_and [] lines = refl
text_of_lines-lines_and (line ∷ first) lines = ap (λ r. line ++ 10 ∷ r) (text_of_lines-lines_and first lines)

-- reading from the second line on, and so on
module _ (bounded : Bool) where
  abbrev from_voters : ℕ → ℕ × ℕ → Option (ℕ × ℕ) → ℕ → Option (List ℕ) → List ℕ → List ℕ → Result Contents PlanFault
  from_voters version l b n c q text =
      line_at (cycle_place bounded + version + 1) (read_numbers (codes "voter ")) text
      >>= λ voters. contents_unless_more (cycle_place bounded + version + 2) (record { load = l; bound = b; cycle = n; capacities = c; quorum_weights = q; voter_weights = voters.0 }) voters.1

  abbrev from_quorums : ℕ → ℕ × ℕ → Option (ℕ × ℕ) → ℕ → Option (List ℕ) → List ℕ → Result Contents PlanFault
  from_quorums version l b n c text = line_at (cycle_place bounded + version) (read_numbers (codes "quorum ")) text >>= λ quorums. from_voters version l b n c quorums.0 quorums.1

  abbrev from_capacities : ℕ → ℕ × ℕ → Option (ℕ × ℕ) → ℕ → List ℕ → Result Contents PlanFault
  from_capacities version l b n text = capacities_at (cycle_place bounded) version text >>= λ capacities. from_quorums version l b n capacities.0 capacities.1

  abbrev from_cycle : ℕ → ℕ × ℕ → Option (ℕ × ℕ) → List ℕ → Result Contents PlanFault
  from_cycle version l b text = line_at (cycle_place bounded) read_cycle text >>= λ cycle. from_capacities version l b cycle.0 cycle.1

  abbrev from_bound : ℕ → ℕ × ℕ → List ℕ → Result Contents PlanFault
  from_bound version l text = bound_at bounded text >>= λ bound. from_cycle version l bound.0 bound.1

  abbrev from_load : ℕ → List ℕ → Result Contents PlanFault
  from_load version text = line_at 2 (read_ratio (codes "load ") (load_digits bounded version)) text >>= λ load. from_bound version load.0 load.1

-- the lines of the weights
abbrev weights_lines : Contents → List (List ℕ)
weights_lines t = weights_line (codes "quorum ") t.quorum_weights ∷ weights_line (codes "voter ") t.voter_weights ∷ []

-- the capacities that are read are written so, in a text of that version
capacities_at-Ok : (place version : ℕ) (text : List ℕ) (x : Option (List ℕ) × List ℕ) → (version ≡ 1) ⊎ (version ≡ 2) → capacities_at place version text ≡ Ok x
    → (text ≡ lines_and (capacity_lines x.0) x.1) × AreWritten x.0 × (version ≡ version_of x.0)
capacities_at-Ok place version text x (inl one) e = absent x (pair (subst (λ v. capacities_at place v text ≡ Ok x) one e))
  where
    pair : capacities_at place 1 text ≡ Ok x → (None, text) ≡ x
    pair h = cc

    absent : (x : Option (List ℕ) × List ℕ) → (None, text) ≡ x → (text ≡ lines_and (capacity_lines x.0) x.1) × AreWritten x.0 × (version ≡ version_of x.0)
    absent x h = subst (λ (y : Option (List ℕ) × List ℕ). (text ≡ lines_and (capacity_lines y.0) y.1) × AreWritten y.0 × (version ≡ version_of y.0)) h (refl, tt, one)
capacities_at-Ok place version text x (inr two) e =
    let line = bind_Ok (line_at (place + 1) read_capacities text) (λ y. Ok (Some y.0, y.1)) x (subst (λ v. capacities_at place v text ≡ Ok x) two e) in
    let found = line_at-Ok (place + 1) read_capacities text line.0 line.1 in
    let so = read_capacities-Some found.0 line.0.0 found.2 in
    subst (λ (y : Option (List ℕ) × List ℕ). (text ≡ lines_and (capacity_lines y.0) y.1) × AreWritten y.0 × (version ≡ version_of y.0)) (pair line.0 line.2)
    (found.1 ∙ ap (λ l. l ++ 10 ∷ line.0.1) so.0, so.1, two)
  where
    pair : (y : List ℕ × List ℕ) → ◌≡◌ {A = Result (Option (List ℕ) × List ℕ) PlanFault} (Ok (Some y.0, y.1)) (Ok x) → (Some y.0, y.1) ≡ x
    pair y h = cc

-- the bound that is read is written so, in a text that has one
bound_at-Ok : (bounded : Bool) (text : List ℕ) (x : Option (ℕ × ℕ) × List ℕ) → bound_at bounded text ≡ Ok x → (text ≡ lines_and (bound_lines x.0) x.1) × (bounded ≡ is_bounded x.0)
bound_at-Ok false text x e = absent x (pair e)
  where
    pair : bound_at false text ≡ Ok x → (None, text) ≡ x
    pair h = cc

    absent : (x : Option (ℕ × ℕ) × List ℕ) → (None, text) ≡ x → (text ≡ lines_and (bound_lines x.0) x.1) × (false ≡ is_bounded x.0)
    absent x h = subst (λ (y : Option (ℕ × ℕ) × List ℕ). (text ≡ lines_and (bound_lines y.0) y.1) × (false ≡ is_bounded y.0)) h (refl, refl)
bound_at-Ok true text x e =
    let line = bind_Ok (line_at 3 (read_ratio (codes "bound ") 10) text) (λ y. Ok (Some y.0, y.1)) x e in
    let found = line_at-Ok 3 (read_ratio (codes "bound ") 10) text line.0 line.1 in
    let so = read_ratio-Some (codes "bound ") 10 found.0 line.0.0 found.2 in
    subst (λ (y : Option (ℕ × ℕ) × List ℕ). (text ≡ lines_and (bound_lines y.0) y.1) × (true ≡ is_bounded y.0)) (pair line.0 line.2)
    (found.1 ∙ ap (λ l. l ++ 10 ∷ line.0.1) so.0, refl)
  where
    pair : (y : (ℕ × ℕ) × List ℕ) → ◌≡◌ {A = Result (Option (ℕ × ℕ) × List ℕ) PlanFault} (Ok (Some y.0, y.1)) (Ok x) → (Some y.0, y.1) ≡ x
    pair y h = cc

-- the lines of these contents, one after the other, are their text
joined : (t : Contents) (bounded : Bool) (version : ℕ) (text title one load two three cycle four five quorums six voters seven : List ℕ)
    → text ≡ line_and title one → title ≡ title_line bounded version → bounded ≡ is_bounded t.bound → version ≡ version_of t.capacities
    → one ≡ line_and load two → load ≡ ratio_line (codes "load ") t.load
    → two ≡ lines_and (bound_lines t.bound) three
    → three ≡ line_and cycle four → cycle ≡ cycle_line t.cycle
    → four ≡ lines_and (capacity_lines t.capacities) five
    → five ≡ line_and quorums six → quorums ≡ weights_line (codes "quorum ") t.quorum_weights
    → six ≡ line_and voters seven → voters ≡ weights_line (codes "voter ") t.voter_weights → seven ≡ []
    → text ≡ text_of_lines (lines_of t)
joined t bounded version text title one load two three cycle four five quorums six voters seven e1 title_is bounded_is version_is e2 load_is e3 e4 cycle_is e5 e6 quorums_are e7 voters_are none =
    let last = e7 ∙ ap₂ line_and voters_are none in
    let weights = e6 ∙ ap₂ line_and quorums_are last in
    let capacities = e5 ∙ ap (lines_and (capacity_lines t.capacities)) weights ∙ sym (text_of_lines-lines_and (capacity_lines t.capacities) (weights_lines t)) in
    let length_on = e4 ∙ ap₂ line_and cycle_is capacities in
    let bound_on = e3 ∙ ap (lines_and (bound_lines t.bound)) length_on ∙ sym (text_of_lines-lines_and (bound_lines t.bound) (cycle_line t.cycle ∷ (capacity_lines t.capacities ++ weights_lines t))) in
    e1 ∙ ap₂ line_and (title_is ∙ ap₂ title_line bounded_is version_is) (e2 ∙ ap₂ line_and load_is bound_on)

-- what is read of a text with this text
abbrev IsRead : Bool → List ℕ → Contents → Type 0
IsRead bounded text t = (text ≡ text_of_lines (lines_of t)) × AreWritten t.capacities × (bounded ≡ is_bounded t.bound)

-- the text of what is read is the text that was read
contents-Ok : (bounded : Bool) (text : List ℕ) (t : Contents) → contents_at bounded text ≡ Ok t → IsRead bounded text t
unfolding contents_at
contents-Ok bounded text t e =
    let place = cycle_place bounded in
    let title = read_on 1 (read_title bounded) text (λ title. from_load bounded title.0 title.1) t e in
    let version = title.0.0 in
    let title_is = read_title-Some bounded title.1 version title.3 in
    let digits = load_digits bounded version in
    let load = read_on 2 (read_ratio (codes "load ") digits) title.0.1 (λ load. from_bound bounded version load.0 load.1) t title.4 in
    let load_is = read_ratio-Some (codes "load ") digits load.1 load.0.0 load.3 in
    let bound = bind_Ok (bound_at bounded load.0.1) (λ bound. from_cycle bounded version load.0.0 bound.0 bound.1) t load.4 in
    let b = bound.0.0 in
    let bound_is = bound_at-Ok bounded load.0.1 bound.0 bound.1 in
    let cycle = read_on place read_cycle bound.0.1 (λ cycle. from_capacities bounded version load.0.0 b cycle.0 cycle.1) t bound.2 in
    let cycle_is = read_cycle-Some cycle.1 cycle.0.0 cycle.3 in
    let capacities = bind_Ok (capacities_at place version cycle.0.1) (λ capacities. from_quorums bounded version load.0.0 b cycle.0.0 capacities.0 capacities.1) t cycle.4 in
    let c = capacities.0.0 in
    let capacities_are = capacities_at-Ok place version cycle.0.1 capacities.0 title_is.1 capacities.1 in
    let quorums = read_on (place + version) (read_numbers (codes "quorum ")) capacities.0.1 (λ quorums. from_voters bounded version load.0.0 b cycle.0.0 c quorums.0 quorums.1) t capacities.2 in
    let quorums_are = read_numbers-Some (codes "quorum ") quorums.1 quorums.0.0 quorums.3 in
    let made_of : List ℕ → Contents = λ v. record { load = load.0.0; bound = b; cycle = cycle.0.0; capacities = c; quorum_weights = quorums.0.0; voter_weights = v } in
    let voters = read_on (place + version + 1) (read_numbers (codes "voter ")) quorums.0.1 (λ voters. contents_unless_more (place + version + 2) (made_of voters.0) voters.1) t quorums.4 in
    let voters_are = read_numbers-Some (codes "voter ") voters.1 voters.0.0 voters.3 in
    let made = made_of voters.0.0 in
    let end = ended_Ok (eqb (length voters.0.1) 0) (BadText (place + version + 2)) made t voters.4 in
    let none : voters.0.1 ≡ [] = nil_from_length voters.0.1 (eqb-true (length voters.0.1) 0 end.0) in
    let whole = joined made bounded version text title.1 title.0.1 load.1 load.0.1 bound.0.1 cycle.1 cycle.0.1 capacities.0.1 quorums.1 quorums.0.1 voters.1 voters.0.1 title.2 title_is.0 bound_is.1 capacities_are.2 load.2
    load_is.0 bound_is.0 cycle.2 cycle_is.0 capacities_are.0 quorums.2 quorums_are.0 voters.2 voters_are.0 none in
    subst (IsRead bounded text) end.1 (whole, capacities_are.1, bound_is.1)

load_digits-few : (bounded : Bool) (version : ℕ) → load_digits bounded version ≤ 19
load_digits-few bounded version = by (not bounded && eqb version 1)
  where
    by : (b : Bool) → cond b 7 10 ≤ 19
    by true = omega arith
    by false = omega arith

-- a bound has the digits of its line
abbrev pub IsBoundWritten : Option (ℕ × ℕ) → Type 0
IsBoundWritten None = Unit {0}
IsBoundWritten (Some bound) = HasDigits 10 bound.0 × HasDigits 10 bound.1

-- what the lines tell has the digits of its line, and there is a quorum and a voter
pub record IsWrittenAs (t : Contents) : Type 0 where
  pub left : HasDigits (load_digits (is_bounded t.bound) (version_of t.capacities)) t.load.0
  pub right : HasDigits (load_digits (is_bounded t.bound) (version_of t.capacities)) t.load.1
  pub bound : IsBoundWritten t.bound
  pub cycle : IsShort t.cycle
  pub stated : AreWritten t.capacities
  pub some_quorum : 0 < length t.quorum_weights
  pub quorums : AllByRecursion IsShort t.quorum_weights
  pub some_voter : 0 < length t.voter_weights
  pub voters : AllByRecursion IsShort t.voter_weights

read_title-version_of : (bounded : Bool) (c : Option (List ℕ)) → read_title bounded (title_line bounded (version_of c)) ≡ Some (version_of c)
read_title-version_of bounded None = read_title-one bounded
read_title-version_of bounded (Some capacities) = read_title-two bounded

Lacks-title : (bounded : Bool) (c : Option (List ℕ)) → Lacks 10 (title_line bounded (version_of c))
Lacks-title true None = search rules
Lacks-title true (Some capacities) = search rules
Lacks-title false None = search rules
Lacks-title false (Some capacities) = search rules

bound_at-again : (b : Option (ℕ × ℕ)) (rest : List ℕ) → IsBoundWritten b → bound_at (is_bounded b) (lines_and (bound_lines b) rest) ≡ Ok (b, rest)
bound_at-again None rest h = refl
bound_at-again (Some bound) rest h =
    let line = ratio_line (codes "bound ") bound in
    let lacks = Lacks-ratio (codes "bound ") bound (search rules) (HasDigits-small 10 bound.0 (omega arith) h.0) (HasDigits-small 10 bound.1 (omega arith) h.1) in
    ap (λ r. r >>= λ x. Ok (Some x.0, x.1))
    (line_at-append 3 (read_ratio (codes "bound ") 10) line rest bound (read_ratio-written (codes "bound ") 10 line bound (omega arith) refl h.0 h.1) lacks)

capacities_at-again : (place : ℕ) (c : Option (List ℕ)) (rest : List ℕ) → AreWritten c → capacities_at place (version_of c) (lines_and (capacity_lines c) rest) ≡ Ok (c, rest)
capacities_at-again place None rest stated = refl
capacities_at-again place (Some capacities) rest stated =
    let line = weights_line (codes "capacity ") capacities in
    let short = IsCapacity-IsShort capacities stated.0 in
    ap (λ r. r >>= λ x. Ok (Some x.0, x.1))
    (line_at-append (place + 1) read_capacities line rest capacities (read_capacities-written line capacities refl stated.0 stated.1) (Lacks-weights (codes "capacity ") capacities (search rules) short))

-- the text of these contents is read as them, if nothing follows
contents-again : (t : Contents) (more : List ℕ) → IsWrittenAs t
    → contents_at (is_bounded t.bound) (text_of_lines (lines_of t) ++ more) ≡ cond (eqb (length more) 0) (Ok t) (Err (BadText (cycle_place (is_bounded t.bound) + version_of t.capacities + 2)))
unfolding contents_at
contents-again t more h =
    let b = t.bound in
    let bounded = is_bounded b in
    let place = cycle_place bounded in
    let c = t.capacities in
    let version = version_of c in
    let digits = load_digits bounded version in
    let few = load_digits-few bounded version in
    let voters = weights_line (codes "voter ") t.voter_weights in
    let quorums = weights_line (codes "quorum ") t.quorum_weights in
    let load = ratio_line (codes "load ") t.load in
    let rest6 = voters ++ 10 ∷ more in
    let rest5 = quorums ++ 10 ∷ rest6 in
    let rest4 = lines_and (capacity_lines c) rest5 in
    let rest3 = cycle_line t.cycle ++ 10 ∷ rest4 in
    let rest2 = lines_and (bound_lines b) rest3 in
    let rest1 = load ++ 10 ∷ rest2 in
    let loads = Lacks-ratio (codes "load ") t.load (search rules) (HasDigits-small digits t.load.0 few h.left) (HasDigits-small digits t.load.1 few h.right) in
    ap (contents_at bounded) (text_of_lines-append (lines_of t) more)
    ∙ ap (λ r. contents_at bounded (title_line bounded version ++ 10 ∷ (load ++ 10 ∷ r))) (lines_and-append (bound_lines b) (cycle_line t.cycle ∷ (capacity_lines c ++ weights_lines t)) more)
    ∙ ap (λ r. contents_at bounded (title_line bounded version ++ 10 ∷ (load ++ 10 ∷ lines_and (bound_lines b) (cycle_line t.cycle ++ 10 ∷ r)))) (lines_and-append (capacity_lines c) (weights_lines t) more)
    ∙ ap (λ r. r >>= λ title. from_load bounded title.0 title.1) (line_at-append 1 (read_title bounded) (title_line bounded version) rest1 version (read_title-version_of bounded c) (Lacks-title bounded c))
    ∙ ap (λ r. r >>= λ load. from_bound bounded version load.0 load.1) (line_at-append 2 (read_ratio (codes "load ") digits) load rest2 t.load
    (read_ratio-written (codes "load ") digits load t.load few refl h.left h.right) loads)
    ∙ ap (λ r. r >>= λ x. from_cycle bounded version t.load x.0 x.1) (bound_at-again b rest3 h.bound)
    ∙ ap (λ r. r >>= λ cycle. from_capacities bounded version t.load b cycle.0 cycle.1)
    (line_at-append place read_cycle (cycle_line t.cycle) rest4 t.cycle (read_cycle-written (cycle_line t.cycle) t.cycle refl h.cycle) (Lacks-cycle t.cycle h.cycle))
    ∙ ap (λ r. r >>= λ x. from_quorums bounded version t.load b t.cycle x.0 x.1) (capacities_at-again place c rest5 h.stated)
    ∙ ap (λ r. r >>= λ q. from_voters bounded version t.load b t.cycle c q.0 q.1)
    (line_at-append (place + version) (read_numbers (codes "quorum ")) quorums rest6 t.quorum_weights (read_numbers-written (codes "quorum ") quorums t.quorum_weights refl h.quorums h.some_quorum)
    (Lacks-weights (codes "quorum ") t.quorum_weights (search rules) h.quorums))
    ∙ ap (λ r. r >>= λ v. contents_unless_more (place + version + 2) (record { load = t.load; bound = b; cycle = t.cycle; capacities = c; quorum_weights = t.quorum_weights; voter_weights = v.0 }) v.1)
    (line_at-append (place + version + 1) (read_numbers (codes "voter ")) voters more t.voter_weights (read_numbers-written (codes "voter ") voters t.voter_weights refl h.voters h.some_voter)
    (Lacks-weights (codes "voter ") t.voter_weights (search rules) h.voters))

-- no fault, so the value
unless_Ok : (o : Option PlanFault) (w p : Weighted) → unless_fault o w ≡ Ok p → (o ≡ None) × (w ≡ p)
unless_Ok None w p e = (refl, cc)
unless_Ok (Some d) w p e = cc

-- two ratios that are the same
are_same-true : (x y : ℕ × ℕ) → are_same x y ≡ true → y ≡ x
are_same-true x y same =
    let parts = and_parts _ _ same in
    let left : y.0 ≡ x.0 = sym (eqb-true _ _ parts.0) in
    let right : y.1 ≡ x.1 = sym (eqb-true _ _ parts.1) in
    ap₂ (λ (p q : ℕ). (p, q)) left right

-- the bound of these weights, if the text has one
abbrev own_bound : Bool → Weighted → Option (ℕ × ℕ)
own_bound bounded w = cond bounded (Some (bound_of w)) None

bound_fault-None : (w : Weighted) (b : Option (ℕ × ℕ)) → bound_fault w b ≡ None → b ≡ own_bound (is_bounded b) w
bound_fault-None w None none = refl
bound_fault-None w (Some bound) none = ap Some (are_same-true (bound_of w) bound (not-false _ (cond_Some-None _ WrongBound None none).0))

-- a text without fault gives the weights' load, bound and cycle
same_head : (w : Weighted) (t : Contents) → head_fault w t.load t.bound t.cycle ≡ None → (t.load ≡ load_of w) × (t.bound ≡ own_bound (is_bounded t.bound) w) × (t.cycle ≡ cycle_len w)
same_head w t none =
    let load = option_or-None _ _ none in
    let bound = option_or-None _ _ load.1 in (
      are_same-true (load_of w) t.load (not-false _ (cond_Some-None _ WrongLoad None load.0).0),
      bound_fault-None w t.bound bound.0,
      sym (eqb-true _ _ (not-false _ (cond_Some-None _ WrongCycle None bound.1).0)),
    )

-- a text that gives these capacities gives them as it is to
same_capacities : (capacities : List ℕ) (c : Option (List ℕ)) → AreWritten c → are_given capacities c ≡ true → c ≡ written_capacities capacities
same_capacities capacities None stated given = ap (λ b. cond b None (Some capacities)) (sym given)
same_capacities capacities (Some cs) stated given =
    let same = (bytes_decides cs capacities).0 given in
    ap Some same ∙ ap (λ b. cond b None (Some capacities)) (sym (subst (λ ms. are_unit ms ≡ false) same stated.1))

are_given-stated : (capacities : List ℕ) → are_given capacities (written_capacities capacities) ≡ true
are_given-stated capacities = by (are_unit capacities) refl
  where
    by : (b : Bool) → are_unit capacities ≡ b → are_given capacities (cond b None (Some capacities)) ≡ true
    by true unit = unit
    by false some = (bytes_decides capacities capacities).1 refl

-- weights that are read have the text that was read
judged-Ok : (first : Weighted → Option PlanFault) (bounded : Bool) (s : QuorumSystem) (capacities text : List ℕ) (p : Weighted)
    → (contents_at bounded text >>= λ t. judge first (with_weights s capacities t.quorum_weights t.voter_weights) t) ≡ Ok p
    → (p.system ≡ s) × (p.capacities ≡ capacities) × (text ≡ text_with (own_bound bounded p) p) × (first p ≡ None)
judged-Ok first bounded s capacities text p e =
    let stated = bind_Ok (contents_at bounded text) (λ t. judge first (with_weights s capacities t.quorum_weights t.voter_weights) t) p e in
    let t = stated.0 in
    let w = with_weights s capacities t.quorum_weights t.voter_weights in
    let judged = unless_Ok (option_or (capacities_fault capacities t) (option_or (first w) (head_fault w t.load t.bound t.cycle))) w p stated.2 in
    let given = option_or-None (capacities_fault capacities t) (option_or (first w) (head_fault w t.load t.bound t.cycle)) judged.0 in
    let none = option_or-None (first w) (head_fault w t.load t.bound t.cycle) given.1 in
    let head = same_head w t none.1 in
    let whole = contents-Ok bounded text t stated.1 in
    let capacities_are = same_capacities capacities t.capacities whole.1 (no_fault (are_given capacities t.capacities) given.0) in
    let bound_is : t.bound ≡ own_bound bounded w = head.1 ∙ ap (λ b. own_bound b w) (sym whole.2) in
    let same : t ≡ contents_with (own_bound bounded w) w =
    λ i. record { load = head.0 i; bound = bound_is i; cycle = head.2 i; capacities = capacities_are i; quorum_weights = t.quorum_weights; voter_weights = t.voter_weights } in (
      ap (λ v. v.system) (sym judged.1),
      ap (λ v. v.capacities) (sym judged.1),
      whole.0 ∙ ap (λ u. text_of_lines (lines_of u)) same ∙ ap (λ v. text_with (own_bound bounded v) v) judged.1,
      sym (ap first judged.1) ∙ none.0,
    )
  where
    no_fault : (b : Bool) → cond b None (Some WrongCapacity) ≡ None → b ≡ true
    no_fault true h = refl
    no_fault false h = cc

-- the numbers of weights have few digits
small_weights : (ws : List ℕ) → sum ws ≤ 1000000 → AllByRecursion IsShort ws
small_weights [] h = tt
small_weights (x ∷ ws) h = (omega (arith, sum_by-cons (λ y. y) x ws), small_weights ws (omega (arith, sum_by-cons (λ y. y) x ws)))

AreWritten-written_capacities : (w : Weighted) → AreWeights w → AreWritten (written_capacities w.capacities)
AreWritten-written_capacities w h = by (are_unit w.capacities) refl
  where
    by : (b : Bool) → are_unit w.capacities ≡ b → AreWritten (cond b None (Some w.capacities))
    by true unit = tt
    by false some = (h.capacities.in_range, some)

small_product : (q len most : ℕ) → q ≤ most → len ≤ 1000000 → q * len ≤ most * 1000000
small_product q len most le few = mul-le-mul le few

load_of-HasDigits : (bounded : Bool) (w : Weighted) → AreWeights w
    → HasDigits (load_digits bounded (version_of (written_capacities w.capacities))) (load_of w).0 × HasDigits (load_digits bounded (version_of (written_capacities w.capacities))) (load_of w).1
load_of-HasDigits true w h = (omega (arith, (load_of-fits w h).0), omega (arith, (load_of-fits w h).1))
load_of-HasDigits false w h = by (are_unit w.capacities) refl
  where
    by : (b : Bool) → are_unit w.capacities ≡ b
        → HasDigits (load_digits false (version_of (cond b None (Some w.capacities)))) (load_of w).0 × HasDigits (load_digits false (version_of (cond b None (Some w.capacities)))) (load_of w).1
    by true unit =
        let one : (cycle_ratio w).1 ≡ 1 = ap (λ r. r.1) (cycle_ratio-are_unit w h.capacities.one_each unit) in
        let most = small_product (cycle_ratio w).1 (cycle_len w) 1 (omega (arith, one)) h.few_quorums in
        (omega (arith, (load_of-le w).0, (cycle_ratio-small w h).0), omega (arith, (load_of-le w).1, most))
    by false some = (omega (arith, (load_of-fits w h).0), omega (arith, (load_of-fits w h).1))

pub is_some-is_bounded : (b : Option (ℕ × ℕ)) → is_some b ≡ is_bounded b
is_some-is_bounded None = refl
is_some-is_bounded (Some bound) = refl

-- the bound is small, as some voter of the first quorum bears it
lightest_quorum-le : (w : Weighted) → AreWeights w → lightest_quorum w ≤ capacity_total w
lightest_quorum-le w h =
    let found = BearsBound-weights w h (0 ∷ []) (All-from_recursion (λ j. j < length w.system.quorums) (0 ∷ []) (h.coterie.some_quorum, tt)) in
    let some = capacity-some w.capacities w.system.voters h.capacities found.0 found.1 in
    bears (lightest_quorum w) (get_or w.capacities found.0 0) (count_of w.system found.0 (0 ∷ [])) (capacity_total w) some (count_by-le-length (λ j. has (get_or w.system.quorums j []) found.0) (0 ∷ [])) found.2
  where
    bears : (t cap count total : ℕ) → 0 < cap → count ≤ 1 → 1 * t * cap ≤ count * total → t ≤ total
    bears t cap count total some few le =
        let low : t * 1 ≤ t * cap = mul-le-mul_left t some in
        let high : count * total ≤ 1 * total = mul-le-mul_right total few in
        omega (arith, low, high, le)

capacity_total-small : (w : Weighted) → AreWeights w → capacity_total w ≤ 1000000000
capacity_total-small w h =
    let each = sum_below-le w.system.voters (λ i. get_or w.voter_weights i 0 * get_or w.capacities i 0) (λ i. 1000 * get_or w.voter_weights i 0)
    (λ i lt. (let most : get_or w.capacities i 0 ≤ 1000 = (h.capacities.in_range i 0 (omega (arith, lt, h.capacities.one_each))).1 in
    let le : get_or w.voter_weights i 0 * get_or w.capacities i 0 ≤ get_or w.voter_weights i 0 * 1000 = mul-le-mul_left (get_or w.voter_weights i 0) most in omega (arith, le))) in
    let times = sum_below-times w.system.voters 1000 (λ i. get_or w.voter_weights i 0) in
    let total : sum_below (λ i. get_or w.voter_weights i 0) w.system.voters ≡ voter_total w =
    subst (λ n. sum_below (λ i. get_or w.voter_weights i 0) n ≡ voter_total w) h.voters (sum_below-list (λ x. x) w.voter_weights) in
    omega (arith, each, times, total, h.few_voters)

bound_of-small : (w : Weighted) → AreWeights w → ((bound_of w).0 ≤ 1000000000) × ((bound_of w).1 ≤ 1000000000)
bound_of-small w h =
    let t = lightest_quorum w in
    let c = capacity_total w in
    let total = capacity_total-small w h in
    (omega (arith, div-le_self t (gcd_of t c), lightest_quorum-le w h, total), omega (arith, div-le_self c (gcd_of t c), total))

bound_of-IsBoundWritten : (bounded : Bool) (w : Weighted) → AreWeights w → IsBoundWritten (own_bound bounded w)
bound_of-IsBoundWritten false w h = tt
bound_of-IsBoundWritten true w h = (omega (arith, (bound_of-small w h).0), omega (arith, (bound_of-small w h).1))

is_bounded-own : (bounded : Bool) (w : Weighted) → is_bounded (own_bound bounded w) ≡ bounded
is_bounded-own true w = refl
is_bounded-own false w = refl

IsWrittenAs-weights : (bounded : Bool) (w : Weighted) → AreWeights w → IsWrittenAs (contents_with (own_bound bounded w) w)
IsWrittenAs-weights bounded w h =
    let D = λ (b : Bool). HasDigits (load_digits b (version_of (written_capacities w.capacities))) (load_of w).0 × HasDigits (load_digits b (version_of (written_capacities w.capacities))) (load_of w).1 in
    let loads = subst D (sym (is_bounded-own bounded w)) (load_of-HasDigits bounded w h) in
    record {
      left = loads.0;
      right = loads.1;
      bound = bound_of-IsBoundWritten bounded w h;
      cycle = omega (arith, h.few_quorums);
      stated = AreWritten-written_capacities w h;
      some_quorum = omega (arith, h.quorums, h.coterie.some_quorum);
      quorums = small_weights w.quorum_weights h.few_quorums;
      some_voter = omega (arith, h.voters, h.coterie.some_voter);
      voters = small_weights w.voter_weights h.few_voters;
    }

-- the text of weights, and more behind it, is read so
text_again : (bounded : Bool) (w : Weighted) (more : List ℕ) → AreWeights w → contents_at bounded (text_with (own_bound bounded w) w ++ more)
    ≡ cond (eqb (length more) 0) (Ok (contents_with (own_bound bounded w) w)) (Err (BadText (cycle_place bounded + version_of (written_capacities w.capacities) + 2)))
text_again true w more h = contents-again (contents_with (Some (bound_of w)) w) more (IsWrittenAs-weights true w h)
text_again false w more h = contents-again (contents_with None w) more (IsWrittenAs-weights false w h)

reported_again : (bounded : Bool) (w : Weighted) → AreWeights w → contents_at bounded (text_with (own_bound bounded w) w) ≡ Ok (contents_with (own_bound bounded w) w)
reported_again bounded w h = ap (contents_at bounded) (sym (append-nil (text_with (own_bound bounded w) w))) ∙ text_again bounded w [] h

are_same-refl : (x : ℕ × ℕ) → are_same x x ≡ true
are_same-refl x = rw (eq-eqb x.0 x.0 refl, eq-eqb x.1 x.1 refl) refl

fits_itself : (bounded : Bool) (w : Weighted) → head_fault w (load_of w) (own_bound bounded w) (cycle_len w) ≡ None
fits_itself true w = rw (are_same-refl (load_of w), are_same-refl (bound_of w), eq-eqb (cycle_len w) (cycle_len w) refl) refl
fits_itself false w = rw (are_same-refl (load_of w), eq-eqb (cycle_len w) (cycle_len w) refl) refl

-- the text of weights without a first fault is read as these weights
judged-again : (first : Weighted → Option PlanFault) (bounded : Bool) (w : Weighted) → AreWeights w → first w ≡ None
    → (contents_at bounded (text_with (own_bound bounded w) w) >>= λ t. judge first (with_weights w.system w.capacities t.quorum_weights t.voter_weights) t) ≡ Ok w
judged-again first bounded w h none =
    let t = contents_with (own_bound bounded w) w in
    ap (λ r. r >>= λ t. judge first (with_weights w.system w.capacities t.quorum_weights t.voter_weights) t) (reported_again bounded w h)
    ∙ ap (λ b. unless_fault (option_or (cond b None (Some WrongCapacity)) (option_or (first w) (head_fault w t.load t.bound t.cycle))) w) (are_given-stated w.capacities)
    ∙ ap (λ o. unless_fault (option_or o (head_fault w t.load t.bound t.cycle)) w) none
    ∙ ap (λ o. unless_fault o w) (fits_itself bounded w)

-- how texts begin
weights_text-begins : (w : Weighted) → begins_as_weights (weights_text w) ≡ true
weights_text-begins w = by (written_capacities w.capacities)
  where
    by : (c : Option (List ℕ)) → begins_as_weights (text_of_lines (lines_of (record { load = load_of w; bound = Some (bound_of w); cycle = cycle_len w; capacities = c; quorum_weights = w.quorum_weights; voter_weights = w.voter_weights }))) ≡ true
    by None = refl
    by (Some capacities) = refl

plan_text-begins : (w : Weighted) → begins_as_weights (plan_text w) ≡ false
plan_text-begins w = by (written_capacities w.capacities)
  where
    by : (c : Option (List ℕ)) → begins_as_weights (text_of_lines (lines_of (record { load = load_of w; bound = None; cycle = cycle_len w; capacities = c; quorum_weights = w.quorum_weights; voter_weights = w.voter_weights }))) ≡ false
    by None = refl
    by (Some capacities) = refl

-- the text of a plan is read as this plan
pub plan_at-plan_text : (w : Weighted) → IsCertificate w → plan_at w.system w.capacities (plan_text w) ≡ Ok w
unfolding plan_at
plan_at-plan_text w h = judged-again weights_fault false w (AreWeights-certificate w h) (weights_fault-IsCertificate w h)

-- and as these weights
weights_at-plan_text : (w : Weighted) → IsCertificate w → weights_at w.system w.capacities (plan_text w) ≡ Ok w
unfolding weights_at
weights_at-plan_text w h =
    ap (λ b. cond b (contents_at true (plan_text w) >>= λ t. judge sizes_fault (with_weights w.system w.capacities t.quorum_weights t.voter_weights) t) (plan_at w.system w.capacities (plan_text w))) (plan_text-begins w)
    ∙ plan_at-plan_text w h

weights_at-weights_text : (w : Weighted) → AreWeights w → weights_at w.system w.capacities (weights_text w) ≡ Ok w
unfolding weights_at
weights_at-weights_text w h =
    ap (λ b. cond b (contents_at true (weights_text w) >>= λ t. judge sizes_fault (with_weights w.system w.capacities t.quorum_weights t.voter_weights) t) (plan_at w.system w.capacities (weights_text w))) (weights_text-begins w)
    ∙ judged-again sizes_fault true w h (sizes_fault-AreWeights w h)

-- no text begins another
text_with-end : (bounded : Bool) (v w : Weighted) (more : List ℕ) → AreWeights v → AreWeights w → text_with (own_bound bounded v) v ++ more ≡ text_with (own_bound bounded w) w → more ≡ []
text_with-end bounded v w more hv hw e =
    let one = sym (text_again bounded v more hv) ∙ ap (contents_at bounded) e ∙ reported_again bounded w hw in
    nil_from_length more (eqb-true _ _ (ended_Ok (eqb (length more) 0) (BadText (cycle_place bounded + version_of (written_capacities v.capacities) + 2)) (contents_with (own_bound bounded v) v) (contents_with (own_bound bounded w) w) one).0)

pub plan_text-end : (v w : Weighted) (more : List ℕ) → IsCertificate v → IsCertificate w → plan_text v ++ more ≡ plan_text w → more ≡ []
plan_text-end v w more hv hw = text_with-end false v w more (AreWeights-certificate v hv) (AreWeights-certificate w hw)

pub weights_text-end : (v w : Weighted) (more : List ℕ) → AreWeights v → AreWeights w → weights_text v ++ more ≡ weights_text w → more ≡ []
weights_text-end v w more hv hw = text_with-end true v w more hv hw

-- the eighth letter tells a plan's text from one of weights
abbrev eighth : List ℕ → ℕ
eighth text = get_or text 7 0

plan_text-eighth : (w : Weighted) (more : List ℕ) → eighth (plan_text w ++ more) ≡ 112
plan_text-eighth w more = by (written_capacities w.capacities)
  where
    by : (c : Option (List ℕ)) → eighth (text_of_lines (lines_of (record { load = load_of w; bound = None; cycle = cycle_len w; capacities = c; quorum_weights = w.quorum_weights; voter_weights = w.voter_weights })) ++ more) ≡ 112
    by None = refl
    by (Some capacities) = refl

weights_text-eighth : (w : Weighted) (more : List ℕ) → eighth (weights_text w ++ more) ≡ 119
weights_text-eighth w more = by (written_capacities w.capacities)
  where
    by : (c : Option (List ℕ)) → eighth (text_of_lines (lines_of (record { load = load_of w; bound = Some (bound_of w); cycle = cycle_len w; capacities = c; quorum_weights = w.quorum_weights; voter_weights = w.voter_weights })) ++ more) ≡ 119
    by None = refl
    by (Some capacities) = refl

pub texts_apart : (v w : Weighted) (more : List ℕ) → (plan_text v ++ more ≢ weights_text w) × (weights_text v ++ more ≢ plan_text w)
texts_apart v w more = (
  λ e. (let same : 112 ≡ 119 = sym (plan_text-eighth v more) ∙ ap eighth (e ∙ sym (append-nil (weights_text w))) ∙ weights_text-eighth w [] in absurd (omega (arith, same))),
  λ e. (let same : 119 ≡ 112 = sym (weights_text-eighth v more) ∙ ap eighth (e ∙ sym (append-nil (plan_text w))) ∙ plan_text-eighth w [] in absurd (omega (arith, same))),
)

-- what a call answered
pub plan_at-sound : (s : QuorumSystem) (capacities text : List ℕ) (r : Result Weighted PlanFault) → UnlessOutOfMemory r (plan_at s capacities text)
    → IfOk r (λ p. (p.system ≡ s) × (p.capacities ≡ capacities) × (text ≡ plan_text p))
unfolding plan_at
plan_at-sound s capacities text (Ok p) h = let is = judged-Ok weights_fault false s capacities text p h in (is.0, is.1, is.2)
plan_at-sound s capacities text (Err e) h = tt

-- the text of these weights, or of the plan that they are
abbrev pub IsTextOf : List ℕ → Weighted → Type 0
IsTextOf text w = (text ≡ weights_text w) ⊎ (IsCertificate w × (text ≡ plan_text w))

pub weights_at-sound : (s : QuorumSystem) (capacities text : List ℕ) (r : Result Weighted PlanFault) → IfOk r AreWeights → UnlessOutOfMemory r (weights_at s capacities text)
    → IfOk r (λ w. (w.system ≡ s) × (w.capacities ≡ capacities) × IsTextOf text w)
unfolding weights_at plan_at
weights_at-sound s capacities text (Err e) are h = tt
weights_at-sound s capacities text (Ok w) are h = by (begins_as_weights text) h
  where
    by : (b : Bool) → cond b (contents_at true text >>= λ t. judge sizes_fault (with_weights s capacities t.quorum_weights t.voter_weights) t) (plan_at s capacities text) ≡ Ok w
        → (w.system ≡ s) × (w.capacities ≡ capacities) × IsTextOf text w
    by true e = let is = judged-Ok sizes_fault true s capacities text w e in (is.0, is.1, inl is.2)
    by false e =
        let is = judged-Ok weights_fault false s capacities text w e in
        (is.0, is.1, inr (IsCertificate-weights_fault w are.coterie are.capacities is.3, is.2))

-- the text of what is there is read
again : (at : QuorumSystem → List ℕ → List ℕ → Result Weighted PlanFault) (text_of : Weighted → List ℕ) (s : QuorumSystem) (capacities text : List ℕ) (r : Result Weighted PlanFault) (w : Weighted)
    → at w.system w.capacities (text_of w) ≡ Ok w → UnlessOutOfMemory r (at s capacities text) → w.system ≡ s → w.capacities ≡ capacities → text ≡ text_of w → UnlessOutOfMemory r (Ok w)
again at text_of s capacities text r w is h same same_capacities e =
    subst (λ wanted. UnlessOutOfMemory r wanted)
    (ap (λ t. at s capacities t) e ∙ ap (λ s. at s capacities (text_of w)) (sym same) ∙ ap (λ cs. at w.system cs (text_of w)) (sym same_capacities) ∙ is) h

pub plan_at-complete : (s : QuorumSystem) (capacities text : List ℕ) (r : Result Weighted PlanFault) (w : Weighted) → UnlessOutOfMemory r (plan_at s capacities text)
    → w.system ≡ s → w.capacities ≡ capacities → IsCertificate w → text ≡ plan_text w → UnlessOutOfMemory r (Ok w)
plan_at-complete s capacities text r w h same same_capacities certificate e = again plan_at plan_text s capacities text r w (plan_at-plan_text w certificate) h same same_capacities e

pub weights_at-complete : (s : QuorumSystem) (capacities text : List ℕ) (r : Result Weighted PlanFault) (w : Weighted) → UnlessOutOfMemory r (weights_at s capacities text)
    → w.system ≡ s → w.capacities ≡ capacities → AreWeights w → text ≡ weights_text w → UnlessOutOfMemory r (Ok w)
weights_at-complete s capacities text r w h same same_capacities are e = again weights_at weights_text s capacities text r w (weights_at-weights_text w are) h same same_capacities e

pub weights_at-complete_plan : (s : QuorumSystem) (capacities text : List ℕ) (r : Result Weighted PlanFault) (w : Weighted) → UnlessOutOfMemory r (weights_at s capacities text)
    → w.system ≡ s → w.capacities ≡ capacities → IsCertificate w → text ≡ plan_text w → UnlessOutOfMemory r (Ok w)
weights_at-complete_plan s capacities text r w h same same_capacities certificate e = again weights_at plan_text s capacities text r w (weights_at-plan_text w certificate) h same same_capacities e
