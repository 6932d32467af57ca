-- what each step leaves of the call that has the lock
use Rattle.std.proofs.Common.{◌≡◌, ℕ, ◌+◌, ◌≤◌, ◌<◌, Bool, true, false, List, [], ◌∷◌, refl, sym, ap, subst, ◌∙◌, ◌⊎◌, inl, inr, Option, Some, None, arith}
use Rattle.std.specs.Prelude.{◌==◌, ◌&&◌, not, nat_lt, is_none, is_some, if◌then◌else◌}
use Rattle.std.specs.List.{AllByRecursion}
use Rattle.std.proofs.lemmas.Bool.{eqb-true, eq-eqb, false≢true}
use Rattle.std.proofs.lemmas.Bool.Decides.{nat_tests}
use Rattle.std.proofs.lemmas.Option.{none-some, same_Some}
use Rattle.working.proofs.Lists.{both}
use Rattle.callers.specs.Calls.{call_fault, ends_try, handed, handed_under, has_lock, is_new_loss, is_unaware, is_under, lost, lost_of, may_hand, one_more, somebody_waits, spoiled, spoiled_of, told_lost, tries_refused, unlocked, unwanted, wanted, was_lost, with_holder}
use Rattle.callers.specs.Steps.{CallStep, Closes, Empties, GaveBack, Hands, HasLock, KeepsLock, MayBeLost, RefusesTries, Unlocks, Unwants, Wants, all_call_stepped, call_stepped}
use Rattle.callers.specs.declared.calls.Calls.{Calls}
use Rattle.callers.specs.declared.calls.Holder.{Holder}
use Rattle.callers.specs.declared.calls.Next.TheVariants.{Nothing}
use Rattle.callers.specs.declared.calls.Phase.{Phase}
use Rattle.callers.specs.declared.calls.Phase.TheVariants.{Idle, Asking, Inside}

-- ---- what does not change who has the lock

either_holder : (b : Bool) (x y c : Calls) → x.holder ≡ c.holder → y.holder ≡ c.holder → (if b then x else y).holder ≡ c.holder
either_holder true x y c one two = one
either_holder false x y c one two = two

wanted_holder : (c : Calls) (phase : Phase) (tries : Bool) → (wanted c phase tries).holder ≡ c.holder
wanted_holder c phase tries =
    either_holder (is_none (call_fault c phase tries)) (one_more c tries) c c
    (either_holder tries (record c { is_tried = true }) (record c { waiting = c.waiting + 1 }) c refl refl) refl

unwanted_holder : (c : Calls) (tries : Bool) → (unwanted c tries).holder ≡ c.holder
unwanted_holder c true = refl
unwanted_holder c false = refl

refused_holder : (c : Calls) (phase : Phase) → (tries_refused c phase).holder ≡ c.holder
refused_holder c phase = either_holder (ends_try c phase) (record c { is_tried = false }) c c refl refl

-- ---- while a call has the lock it is handed to no other

and_false : (a b : Bool) → (a && (false && b)) ≡ false
and_false true b = refl
and_false false b = refl

pub none_handed : (c : Calls) (h : Holder) (phase : Phase) (counts : Bool) → c.holder ≡ Some h → may_hand c phase counts ≡ false
none_handed c h Idle counts has = refl
none_handed c h Asking counts has = refl
none_handed c h (Inside request) counts has =
    subst (λ (o : Option Holder). (counts && (not (is_some o) && (somebody_waits c && nat_lt c.used request))) ≡ false) (sym has)
    (and_false counts (somebody_waits c && nat_lt c.used request))

same_if : (b : Bool) (x c : Calls) → b ≡ false → (if b then x else c) ≡ c
same_if true x c is = absurd (false≢true (sym is))
same_if false x c is = refl

not_handed : (c : Calls) (phase : Phase) (counts : Bool) → may_hand c phase counts ≡ false → handed c phase counts ≡ c
not_handed c phase counts is = same_if (may_hand c phase counts) (handed_under c phase) c is

not_true : (b : Bool) → not b ≡ true → b ≡ false
not_true true is = absurd (false≢true is)
not_true false is = refl

pub may_parts : (c : Calls) (request : ℕ) (counts : Bool) → may_hand c (Inside request) counts ≡ true → (has_lock c ≡ false) × (c.used < request)
may_parts c request counts may =
    let rest = (both counts (not (has_lock c) && (somebody_waits c && nat_lt c.used request)) may).1 in
    let parts = both (not (has_lock c)) (somebody_waits c && nat_lt c.used request) rest in
    let last = (both (somebody_waits c) (nat_lt c.used request) parts.1).1 in
    (not_true (has_lock c) parts.0, (grind (arith, nat_tests)))

-- ---- each step, while a call has the lock

-- the call has the lock on, and may have been told that it may be lost
abbrev GoesOn : Calls → Calls → Type 0
GoesOn c next = (next.holder ≡ c.holder) ⊎ (next.holder ≡ told_lost c.holder)

not_unlocked : (c : Calls) (h : Holder) (request : ℕ) → c.holder ≡ Some h → (request ≡ h.request → ⊥) → unlocked c request ≡ c
not_unlocked c h request has other =
    same_if (is_under c.holder request) (record c { holder = None }) c
    (subst (λ (o : Option Holder). is_under o request ≡ false) (sym has)
    (elim (h.request == request) as (λ b. (h.request == request) ≡ b → (h.request == request) ≡ false) [
      | false ↦ λ e. e
      | true ↦ λ e. absurd (other (sym (eqb-true h.request request e)))
    ] refl))

step_goes_on : (c : Calls) (h : Holder) (s : CallStep) → c.holder ≡ Some h → KeepsLock h.request s → GoesOn c (call_stepped c s)
step_goes_on c h (Wants phase tries) has kept = inl (wanted_holder c phase tries)
step_goes_on c h (Unwants tries) has kept = inl (unwanted_holder c tries)
step_goes_on c h (RefusesTries phase) has kept = inl (refused_holder c phase)
step_goes_on c h (Hands phase counts) has kept = inl (ap (λ (x : Calls). x.holder) (not_handed c phase counts (none_handed c h phase counts has)))
step_goes_on c h (Unlocks request) has kept = inl (ap (λ (x : Calls). x.holder) (not_unlocked c h request has kept))
step_goes_on c h MayBeLost has kept = inr refl
step_goes_on c h Empties has kept = inl refl
step_goes_on c h Closes has kept = inl refl

abbrev holder_of : ℕ → Bool → Holder
holder_of request is_lost = record { request = request; is_lost = is_lost }

lost_has : (c : Calls) (h : Holder) → c.holder ≡ Some h → told_lost c.holder ≡ Some (holder_of h.request true)
lost_has c h has = ap told_lost has

pub step_has : (c : Calls) (s : CallStep) (request : ℕ) → HasLock c request → KeepsLock request s → HasLock (call_stepped c s) request
step_has c s request has kept =
    let h = has.0 in
    elim (step_goes_on c h s has.1 (subst (λ (r : ℕ). KeepsLock r s) (sym has.2) kept)) [
      | inl same ↦ (h, same ∙ has.1, has.2)
      | inr lost ↦ (holder_of h.request true, lost ∙ lost_has c h has.1, has.2)
    ]

-- ---- until it gives the lock back

-- a step gives this call's lock back, or not
is_back : (request : ℕ) (s : CallStep) → (s ≡ Unlocks request) ⊎ KeepsLock request s
is_back request (Unlocks other) = elim (other == request) as (λ b. (other == request) ≡ b → (Unlocks other ≡ Unlocks request) ⊎ (other ≡ request → ⊥)) [
  | true ↦ λ e. inl (ap Unlocks (eqb-true other request e))
  | false ↦ λ e. inr (λ same. false≢true (sym e ∙ eq-eqb other request same))
] refl
is_back request (Wants phase tries) = inr tt
is_back request (Unwants tries) = inr tt
is_back request (RefusesTries phase) = inr tt
is_back request (Hands phase counts) = inr tt
is_back request MayBeLost = inr tt
is_back request Empties = inr tt
is_back request Closes = inr tt

later_back : (c : Calls) (s : CallStep) (steps : List CallStep) (request : ℕ) → GaveBack (call_stepped c s) steps request → GaveBack c (s ∷ steps) request
later_back c s steps request b = record { before = s ∷ b.before; rest = b.rest; are = ap (λ (ss : List CallStep). s ∷ ss) b.are; had = b.had }

has_or_back : (c : Calls) (steps : List CallStep) (request : ℕ) → HasLock c request → GaveBack c steps request ⊎ HasLock (all_call_stepped c steps) request
has_or_back c [] request has = inr has
has_or_back c (s ∷ steps) request has = elim (is_back request s) [
  | inl back ↦ inl (record { before = []; rest = steps; are = ap (λ (x : CallStep). x ∷ steps) back; had = has })
  | inr kept ↦ elim (has_or_back (call_stepped c s) steps request (step_has c s request has kept)) [
    | inl back ↦ inl (later_back c s steps request back)
    | inr on ↦ inr on
  ]
]

when_handed : (c : Calls) (request : ℕ) (counts : Bool) → may_hand c (Inside request) counts ≡ true
    → handed c (Inside request) counts ≡ with_holder (unwanted c c.is_tried) request
when_handed c request counts may = subst (λ (b : Bool). (if b then with_holder (unwanted c c.is_tried) request else c) ≡ with_holder (unwanted c c.is_tried) request) (sym may) refl

pub handed_has : (c : Calls) (request : ℕ) (counts : Bool) → may_hand c (Inside request) counts ≡ true → HasLock (handed c (Inside request) counts) request
handed_has c request counts may = (holder_of request false, ap (λ (x : Calls). x.holder) (when_handed c request counts may), refl)

pub one_call : (c : Calls) (request : ℕ) (again : Phase) (counts counts_again : Bool) (steps : List CallStep)
    → may_hand c (Inside request) counts ≡ true
    → may_hand (all_call_stepped (call_stepped c (Hands (Inside request) counts)) steps) again counts_again ≡ true
    → GaveBack (call_stepped c (Hands (Inside request) counts)) steps request
one_call c request again counts counts_again steps first second =
    let d = call_stepped c (Hands (Inside request) counts) in
    elim (has_or_back d steps request (handed_has c request counts first)) [
      | inl back ↦ back
      | inr has ↦ absurd (false≢true (sym (none_handed (all_call_stepped d steps) has.0 again counts_again has.1) ∙ second))
    ]

-- ---- stamps only grow

either_used : (b : Bool) (x y c : Calls) → c.used ≤ x.used → c.used ≤ y.used → c.used ≤ (if b then x else y).used
either_used true x y c one two = one
either_used false x y c one two = two

same_used : (c d : Calls) → d.used ≡ c.used → c.used ≤ d.used
same_used c d same = (omega arith)

unwanted_used : (c : Calls) (tries : Bool) → c.used ≤ (unwanted c tries).used
unwanted_used c true = same_used c c refl
unwanted_used c false = same_used c c refl

handed_used : (c : Calls) (phase : Phase) (counts : Bool) → c.used ≤ (handed c phase counts).used
handed_used c Idle counts = same_used c c refl
handed_used c Asking counts = same_used c c refl
handed_used c (Inside request) counts =
    elim (may_hand c (Inside request) counts) as (λ b. may_hand c (Inside request) counts ≡ b → c.used ≤ (if b then with_holder (unwanted c c.is_tried) request else c).used) [
      | true ↦ λ e. (let less = (may_parts c request counts e).1 in omega arith)
      | false ↦ λ e. same_used c c refl
    ] refl

step_used : (c : Calls) (s : CallStep) → c.used ≤ (call_stepped c s).used
step_used c (Wants phase tries) =
    either_used (is_none (call_fault c phase tries)) (one_more c tries) c c
    (either_used tries (record c { is_tried = true }) (record c { waiting = c.waiting + 1 }) c (same_used c c refl) (same_used c c refl)) (same_used c c refl)
step_used c (Unwants tries) = unwanted_used c tries
step_used c (RefusesTries phase) = either_used (ends_try c phase) (record c { is_tried = false }) c c (same_used c c refl) (same_used c c refl)
step_used c (Hands phase counts) = handed_used c phase counts
step_used c (Unlocks request) = either_used (is_under c.holder request) (record c { holder = None }) c c (same_used c c refl) (same_used c c refl)
step_used c MayBeLost = same_used c c refl
step_used c Empties = same_used c c refl
step_used c Closes = same_used c c refl

steps_used : (c : Calls) (steps : List CallStep) → c.used ≤ (all_call_stepped c steps).used
steps_used c [] = same_used c c refl
steps_used c (s ∷ steps) = (let one = step_used c s in let rest = steps_used (call_stepped c s) steps in omega arith)

pub own_requests : (c : Calls) (request later : ℕ) (counts counts_later : Bool) (steps : List CallStep)
    → may_hand c (Inside request) counts ≡ true
    → may_hand (all_call_stepped (call_stepped c (Hands (Inside request) counts)) steps) (Inside later) counts_later ≡ true
    → request < later
own_requests c request later counts counts_later steps first second =
    let d = call_stepped c (Hands (Inside request) counts) in
    let is : d.used ≡ request = ap (λ (x : Calls). x.used) (when_handed c request counts first) in
    let more = steps_used d steps in
    let less = (may_parts (all_call_stepped d steps) later counts_later second).1 in
    (omega arith)

-- ---- a call that was told that the lock may be lost

abbrev WasTold : Calls → ℕ → Type 0
WasTold c request = c.holder ≡ Some (holder_of request true)

step_told : (c : Calls) (s : CallStep) (request : ℕ) → WasTold c request → KeepsLock request s → WasTold (call_stepped c s) request
step_told c s request told kept = elim (step_goes_on c (holder_of request true) s told kept) [
  | inl same ↦ same ∙ told
  | inr lost ↦ lost ∙ lost_has c (holder_of request true) told
]

steps_told : (c : Calls) (steps : List CallStep) (request : ℕ) → WasTold c request → AllByRecursion (KeepsLock request) steps → WasTold (all_call_stepped c steps) request
steps_told c [] request told kept = told
steps_told c (s ∷ steps) request told kept = steps_told (call_stepped c s) steps request (step_told c s request told kept.0) kept.1

told_answers : (c : Calls) (request : ℕ) (phase : Phase) → WasTold c request
    → (is_new_loss c ≡ false) × (spoiled c phase ≡ Nothing) × (lost_of c request ≡ Some true)
told_answers c request phase told =
    subst (λ (o : Option Holder). (is_unaware o ≡ false) × (spoiled_of o phase ≡ Nothing) × ((if is_under o request then was_lost o else None) ≡ Some true)) (sym told)
    (refl, refl, ap (λ (b : Bool). if b then Some true else None) (eq-eqb request request refl))

pub said_once : (c : Calls) (request : ℕ) (phase : Phase) (steps : List CallStep) → HasLock c request → AllByRecursion (KeepsLock request) steps
    → (is_new_loss (all_call_stepped (lost c) steps) ≡ false)
    × (spoiled (all_call_stepped (lost c) steps) phase ≡ Nothing)
    × (lost_of (all_call_stepped (lost c) steps) request ≡ Some true)
said_once c request phase steps has kept =
    told_answers (all_call_stepped (lost c) steps) request phase
    (steps_told (lost c) steps request (lost_has c has.0 has.1 ∙ ap (λ (r : ℕ). Some (holder_of r true)) has.2) kept)

-- ---- who had the lock before a step

same_lock : (c next : Calls) (request : ℕ) → next.holder ≡ c.holder → HasLock next request → HasLock c request
same_lock c next request same has = (has.0, sym same ∙ has.1, has.2)

lost_had : (o : Option Holder) (request : ℕ) (h : Holder) → told_lost o ≡ Some h → h.request ≡ request → (g : Holder) × (o ≡ Some g) × (g.request ≡ request)
lost_had None request h is same = absurd (none-some h is)
lost_had (Some g) request h is same = (g, refl, ap (λ (x : Holder). x.request) (same_Some (holder_of g.request true) h is) ∙ same)

unlocked_had : (c : Calls) (under : Bool) (request : ℕ) → HasLock (if under then record c { holder = None } else c) request → HasLock c request
unlocked_had c true request has = absurd (none-some has.0 has.1)
unlocked_had c false request has = has

pub not_handed_had : (c : Calls) (phase : Phase) (counts : Bool) (request : ℕ) → may_hand c phase counts ≡ false → HasLock (handed c phase counts) request → HasLock c request
not_handed_had c phase counts request may has = same_lock c (handed c phase counts) request (ap (λ (x : Calls). x.holder) (not_handed c phase counts may)) has

pub wants_had : (c : Calls) (phase : Phase) (tries : Bool) (request : ℕ) → HasLock (wanted c phase tries) request → HasLock c request
wants_had c phase tries request has = same_lock c (wanted c phase tries) request (wanted_holder c phase tries) has

pub unwants_had : (c : Calls) (tries : Bool) (request : ℕ) → HasLock (unwanted c tries) request → HasLock c request
unwants_had c tries request has = same_lock c (unwanted c tries) request (unwanted_holder c tries) has

pub refuses_had : (c : Calls) (phase : Phase) (request : ℕ) → HasLock (tries_refused c phase) request → HasLock c request
refuses_had c phase request has = same_lock c (tries_refused c phase) request (refused_holder c phase) has

pub unlocks_had : (c : Calls) (other request : ℕ) → HasLock (unlocked c other) request → HasLock c request
unlocks_had c other request has = unlocked_had c (is_under c.holder other) request has

pub loses_had : (c : Calls) (request : ℕ) → HasLock (lost c) request → HasLock c request
loses_had c request has = lost_had c.holder request has.0 has.1 has.2
