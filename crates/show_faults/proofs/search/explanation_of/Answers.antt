use Rattle.std.proofs.Common.{◌≡◌, ◌≢◌, ℕ, ◌+◌, ◌<◌, ◌≤◌, List, [], ◌∷◌, All, map, drop, get_or, length, arith, subst, sym}
use Rattle.std.proofs.lemmas.List.{at_drop_more, at_drop_all}
use Rattle.std.proofs.lemmas.List.Elements.{All-nil, All-cons, All-head, All-tail, All-map, All-get_or}
use Rattle.show_faults.specs.declared.section.Section.{Section}
use Rattle.show_faults.specs.Codes.{HaveAllCodes, IsFaultCode, IsNoneOf, codes_of}
use Rattle.show_faults.proofs.search.explanation_of.Goals as goal

-- a code that no row of this section has, and no later section has
one_more : (code : List ℕ) (sections : List Section) (i : ℕ) (section : Section) → i < length sections
    → All (λ row. row.code.now ≢ code) (get_or sections i section).explanations.now
    → All (IsNoneOf code) (map (λ s. codes_of s.explanations.now) (drop (i + 1) sections))
    → All (IsNoneOf code) (map (λ s. codes_of s.explanations.now) (drop i sections))
one_more code sections i section inside none later =
    rw (at_drop_more (λ xs. xs) sections i section inside)
    (All-cons (IsNoneOf code) _ _ (All-map (λ c. c ≢ code) (λ row. row.code.now) (get_or sections i section).explanations.now none) later)

-- what holds of all images, holds of the image of each
of_map : {X Y : Type 0} (P : Y → Type 0) (f : X → Y) (xs : List X) → All P (map f xs) → All (λ x. P (f x)) xs
of_map P f [] h = All-nil (λ x. P (f x))
of_map P f (x ∷ xs) h = All-cons (λ x. P (f x)) x xs (All-head P (f x) (map f xs) h) (of_map P f xs (All-tail P (f x) (map f xs) h))

-- a code that some row of this section has
one_known : (code : List ℕ) (sections : List Section) (i : ℕ) (section : Section) → i < length sections → HaveAllCodes sections
    → (All (λ row. row.code.now ≢ code) (get_or sections i section).explanations.now → ⊥) → IsFaultCode code
one_known code sections i section inside all among none =
    let known : All (IsNoneOf code) (map (λ s. codes_of s.explanations.now) sections) = subst (All (IsNoneOf code)) (sym all) none in
    let each = of_map (IsNoneOf code) (λ (s : Section). codes_of s.explanations.now) sections known in
    let here = All-get_or (λ (s : Section). IsNoneOf code (codes_of s.explanations.now)) sections i section inside each in
    among (of_map (λ (c : List ℕ). c ≢ code) (λ row. row.code.now) (get_or sections i section).explanations.now here)

pub returns-in-Some-clause-known : goal.returns-in-Some-clause-known
returns-in-Some-clause-known c =
    let sections = c.sections-section-items.result in
    let i = c.loop-section.section-index in
    let inside : i < length sections = omega (arith) in
    subst IsFaultCode (sym c.in-Some.ensures.found) (one_known _ sections i _ inside c.sections-section-items.ensures c.in-Some.ensures.among)

pub loop-section-preserved : goal.loop-section-preserved
loop-section-preserved c =
    let sections = c.sections-section-items.result in
    let i = c.loop-section.section-index in
    let inside : i < length sections = omega (arith) in
    λ later. c.loop-section.invariant (one_more _ sections i _ inside c.in_default.ensures.none later)

pub returns-clause-none : goal.returns-clause-none
returns-clause-none c =
    let sections = c.sections-section-items.result in
    let i = c.loop-section.section-index in
    let past : length sections ≤ i = omega (arith) in
    let over : drop i sections ≡ [] = at_drop_all (λ xs. xs) sections i past in
    let all = c.loop-section.invariant (rw over (All-nil (IsNoneOf c.code_of-code.result.now))) in
    rw (c.sections-section-items.ensures, c.code_of-code.ensures) at all
