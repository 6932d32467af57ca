-- the front of a map
use Rattle.std.proofs.Common.{◌≡◌, ℕ, ◌<◌, Bool, true, false, cond, List, [], ◌∷◌, Option, Some, None, refl, sym, ap, subst, ◌⊎◌, inl, inr, ◌∙◌, arith, eqb}
use Rattle.std.specs.Ordering.{nat_cmp, eq_by_cmp, is_lt}
use Rattle.std.specs.Prelude.{T, ◌&&◌, is_some}
use Rattle.std.specs.FinMap.{entries, entries_sorted, get, get-entries}
use Rattle.std.specs.FinMap.Entries.{find, is_sorted, below_all}
use Rattle.std.proofs.lemmas.Bool.Decides.{nat_tests}
use Rattle.std.proofs.lemmas.Option.{none-some, same_Some}
use Rattle.message.specs.declared.request.Request.{Request}
use Rattle.message.specs.Requests.{precedes}
use Rattle.voter.specs.Waiting.{Waiting, request, first_of, least, front}

pub precedes-total : (a b : Request) → precedes a b ≡ false → precedes b a ≡ false → (a.stamp ≡ b.stamp) × (a.client ≡ b.client)
precedes-total a b h k = grind (arith, nat_tests)

pub precedes-once : (a b : Request) → precedes a b ≡ true → precedes b a ≡ false
precedes-once a b h = grind (arith, nat_tests)

pub precedes-trans : (a b c : Request) → precedes a b ≡ true → precedes b c ≡ true → precedes a c ≡ true
precedes-trans a b c h k = grind (arith, nat_tests)

pub precedes-not_self : (a : Request) → precedes a a ≡ false
precedes-not_self a = grind (arith, nat_tests)

pub eq_by_cmp-nat : (m n : ℕ) → eq_by_cmp nat_cmp m n ≡ eqb m n
eq_by_cmp-nat m n = grind (arith, nat_tests)

-- what is found is what every entry with that key says
pub find-head : (q : ℕ) (e : ℕ × ℕ) (es : List (ℕ × ℕ)) → find nat_cmp q (e ∷ es) ≡ cond (eqb q e.0) (Some e.1) (find nat_cmp q es)
find-head q e es = ap (λ b. cond b (Some e.1) (find nat_cmp q es)) (eq_by_cmp-nat q e.0)

and_parts : (a b : Bool) → T (a && b) → T a × T b
and_parts true b h = (tt, h)
and_parts false b h = absurd h

true_of : (b : Bool) → T b → b ≡ true
true_of true h = refl
true_of false h = absurd h

below_lt : (q k : ℕ) → T (is_lt (nat_cmp q k)) → q < k
below_lt q k h = let e = true_of _ h in grind (arith, nat_tests)

below_missed : (q : ℕ) (es : List (ℕ × ℕ)) → T (below_all nat_cmp q es) → find nat_cmp q es ≡ None
below_missed q [] h = refl
below_missed q (e ∷ es) h =
    let parts = and_parts _ _ h in
    let rest = below_missed q es parts.1 in
    let less = below_lt q e.0 parts.0 in
    let head = find-head q e es in
    grind (arith, nat_tests)

-- each key is there once
IsApart : List (ℕ × ℕ) → Type 0
IsApart [] = Unit {0}
IsApart (e ∷ es) = (find nat_cmp e.0 es ≡ None) × IsApart es

IsApart-sorted : (es : List (ℕ × ℕ)) → T (is_sorted nat_cmp es) → IsApart es
unfolding IsApart
IsApart-sorted [] h = tt
IsApart-sorted (e ∷ es) h = let parts = and_parts _ _ h in (below_missed e.0 es parts.0, IsApart-sorted es parts.1)

-- the least of entries in order is found, and nothing found precedes it
pub record IsLeast (es : List (ℕ × ℕ)) (r : Request) : Type 0 where
  pub found : find nat_cmp r.client es ≡ Some r.stamp
  pub first : (c s : ℕ) → find nat_cmp c es ≡ Some s → precedes (record { stamp = s; client = c }) r ≡ false

unfoldable pub IsLeastOf : List (ℕ × ℕ) → Option Request → Type 0
IsLeastOf es None = (c : ℕ) → find nat_cmp c es ≡ None
IsLeastOf es (Some r) = IsLeast es r

found_after : (c s : ℕ) (e : ℕ × ℕ) (es : List (ℕ × ℕ)) → find nat_cmp e.0 es ≡ None → find nat_cmp c es ≡ Some s → find nat_cmp c (e ∷ es) ≡ Some s
found_after c s e es none is = let head = find-head c e es in grind (arith, nat_tests)

pub cond_eqb-Some : (c k s t : ℕ) (o : Option ℕ) → cond (eqb c k) (Some t) o ≡ Some s → ((c ≡ k) × (s ≡ t)) ⊎ (o ≡ Some s)
cond_eqb-Some c k s t o is = grind (arith, nat_tests)

found_cases : (c s : ℕ) (e : ℕ × ℕ) (es : List (ℕ × ℕ)) → find nat_cmp c (e ∷ es) ≡ Some s → ((c ≡ e.0) × (s ≡ e.1)) ⊎ (find nat_cmp c es ≡ Some s)
found_cases c s e es is = cond_eqb-Some c e.0 s e.1 _ (sym (find-head c e es) ∙ is)

least_step : (e : ℕ × ℕ) (es : List (ℕ × ℕ)) (o : Option Request) → find nat_cmp e.0 es ≡ None → IsLeastOf es o → IsLeast (e ∷ es) (first_of (request e) o)
unfolding IsLeastOf
least_step e es None apart h = record {
  found = let head = find-head e.0 e es in grind (arith, nat_tests);
  first = λ c t is. elim (found_cases c t e es is) [
    | inl here ↦ grind (arith, nat_tests)
    | inr later ↦ absurd (none-some t (sym (h c) ∙ later))
  ];
}
least_step e es (Some q) apart h =
    elim (precedes q (request e)) as (λ b. precedes q (request e) ≡ b → IsLeast (e ∷ es) (cond b q (request e))) [
      | true ↦ λ before. record {
        found = found_after q.client q.stamp e es apart h.found;
        first = λ c t is. elim (found_cases c t e es is) [
          | inl here ↦ grind (arith, nat_tests)
          | inr later ↦ h.first c t later
        ];
      }
      | false ↦ λ after. record {
        found = let head = find-head e.0 e es in grind (arith, nat_tests);
        first = λ c t is. elim (found_cases c t e es is) [
          | inl here ↦ grind (arith, nat_tests)
          | inr later ↦ let no = h.first c t later in grind (arith, nat_tests)
        ];
      }
    ] refl

least_of : (es : List (ℕ × ℕ)) → IsApart es → IsLeastOf es (least es)
unfolding IsLeastOf IsApart
least_of [] a = λ c. refl
least_of (e ∷ es) a = least_step e es (least es) a.0 (least_of es a.1)

pub least-is : (es : List (ℕ × ℕ)) → T (is_sorted nat_cmp es) → IsLeastOf es (least es)
least-is es s = least_of es (IsApart-sorted es s)

-- a request that is found, and that nothing found precedes, is the front
same_least : (es : List (ℕ × ℕ)) (r : Request) (o : Option Request) → IsLeastOf es o → IsLeast es r → o ≡ Some r
unfolding IsLeastOf
same_least es r None h k = absurd (none-some r.stamp (sym (h r.client) ∙ k.found))
same_least es r (Some q) h k =
    let same = precedes-total q r (k.first q.client q.stamp h.found) (h.first r.client r.stamp k.found) in
    λ i. Some (record { stamp = same.0 i; client = same.1 i })

pub front-is : (w : Waiting) (r : Request) → get w r.client ≡ Some r.stamp
    → ((c s : ℕ) → get w c ≡ Some s → precedes (record { stamp = s; client = c }) r ≡ false) → front w ≡ Some r
unfolding front
front-is w r found first =
    same_least (entries w) r (least (entries w)) (least-is (entries w) (entries_sorted w))
    (record { found = sym (get-entries w r.client) ∙ found; first = λ c s is. first c s (get-entries w c ∙ is) })

no_least : (es : List (ℕ × ℕ)) (o : Option Request) → IsLeastOf es o → ((c : ℕ) → find nat_cmp c es ≡ None) → o ≡ None
unfolding IsLeastOf
no_least es None h none = refl
no_least es (Some q) h none = absurd (none-some q.stamp (sym (none q.client) ∙ h.found))

pub front-none : (w : Waiting) → ((c : ℕ) → get w c ≡ None) → front w ≡ None
unfolding front
front-none w none = no_least (entries w) (least (entries w)) (least-is (entries w) (entries_sorted w)) (λ c. sym (get-entries w c) ∙ none c)

some_least : (es : List (ℕ × ℕ)) (o : Option Request) (c s : ℕ) → IsLeastOf es o → find nat_cmp c es ≡ Some s → is_some o ≡ true
unfolding IsLeastOf
some_least es None c s h is = absurd (none-some s (sym (h c) ∙ is))
some_least es (Some q) c s h is = refl

pub front-some : (w : Waiting) (c s : ℕ) → get w c ≡ Some s → is_some (front w) ≡ true
unfolding front
front-some w c s is = some_least (entries w) (least (entries w)) c s (least-is (entries w) (entries_sorted w)) (sym (get-entries w c) ∙ is)

least_found : (es : List (ℕ × ℕ)) (o : Option Request) (r : Request) → IsLeastOf es o → o ≡ Some r → find nat_cmp r.client es ≡ Some r.stamp
unfolding IsLeastOf
least_found es None r h is = absurd (none-some r is)
least_found es (Some q) r h is = subst (λ (x : Request). find nat_cmp x.client es ≡ Some x.stamp) (same_Some q r is) h.found

-- the front waits
pub front-found : (w : Waiting) (r : Request) → front w ≡ Some r → get w r.client ≡ Some r.stamp
unfolding front
front-found w r is = get-entries w r.client ∙ least_found (entries w) (least (entries w)) r (least-is (entries w) (entries_sorted w)) is

none_found : (es : List (ℕ × ℕ)) (o : Option Request) → IsLeastOf es o → o ≡ None → (c : ℕ) → find nat_cmp c es ≡ None
unfolding IsLeastOf
none_found es None h e = h
none_found es (Some q) h e = absurd (none-some q (sym e))

-- where no request is the front, none waits
pub get-no_front : (w : Waiting) → front w ≡ None → (c : ℕ) → get w c ≡ None
unfolding front
get-no_front w e c = get-entries w c ∙ none_found (entries w) (least (entries w)) (least-is (entries w) (entries_sorted w)) e c
