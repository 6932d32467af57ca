-- what the guard of a story did, by the clauses of the guard
use Rattle.std.proofs.Common.{◌≡◌, ℕ, zero, suc, ◌+◌, ◌<◌, ◌≤◌, ◌^◌, Bool, true, false, cond, List, [], ◌∷◌, map, length, Option, Some, None, Result, Ok, Err, refl, sym, ap, ap₂, subst, ◌∙◌, inl, inr, arith}
use Rattle.std.specs.Prelude.{◌||◌, not, IfNone, IfOk, IfSome, OnErr, find, nat_lt, slice_index}
use Rattle.std.specs.List.{list_any, range_with_len}
use Rattle.std.proofs.lemmas.Bool.{cases_lt, false≢true}
use Rattle.std.proofs.lemmas.Bool.Decides.{nat_tests}
use Rattle.fence.specs.declared.fence.Fence.{Fence}
use Rattle.fence.specs.declared.fault.FenceFault.{FenceFault}
use Rattle.fence.specs.declared.fault.FenceFault.TheVariants.{TurnsSpent}
use Rattle.fence.specs.Passes.{Admits, SeesAlso, highest_with, is_not_older}
use Rattle.fence.specs.Turns.{Raises, RaisesNone}
use Rattle.stories.specs.declared.happening.Happening.{Happening}
use Rattle.stories.specs.declared.happening.Happening.TheVariants.{Admitted, NoTurn}
use Rattle.stories.specs.Plays.{guard_of}
use Rattle.stories.specs.Guards.{Guard, first_older, guard_after_by, guard_did_by, is_newer, is_spent, seen_with}

-- ---- the first of some numbers

find_none : (p : ℕ → Bool) (a n : ℕ) → ((u : ℕ) → a ≤ u → u < a + n → p u ≡ false) → find p (range_with_len a n) ≡ None
find_none p a zero none = refl
find_none p a (suc n) none =
    ap (λ (b : Bool). cond b (Some a) (find p (range_with_len (a + 1) n))) (none a (omega arith) (omega arith))
    ∙ find_none p (a + 1) n (λ u low high. none u (omega arith) (omega arith))

find_first : (p : ℕ → Bool) (a n v : ℕ) → a ≤ v → v < a + n → p v ≡ true → ((u : ℕ) → a ≤ u → u < v → p u ≡ false) → find p (range_with_len a n) ≡ Some v
find_first p a zero v low high is first = absurd (omega arith)
find_first p a (suc n) v low high is first = elim (cases_lt a v) [
  | inl below ↦
      ap (λ (b : Bool). cond b (Some a) (find p (range_with_len (a + 1) n))) (first a (omega arith) below)
      ∙ find_first p (a + 1) n v (omega arith) (omega arith) is (λ u from to. first u (omega arith) to)
  | inr at ↦
      let same : v ≡ a = omega arith in
      ap (λ (b : Bool). cond b (Some a) (find p (range_with_len (a + 1) n))) (subst (λ k. p k ≡ true) same is) ∙ ap (λ k. Some k) (sym same)
]

-- the first older grant, as the code found it
pub older_is : (seen pass : List ℕ) (r : Option ℕ) → IfSome r (λ v. (v < 64) × (is_not_older seen pass v ≡ false)) → IfSome r (λ v. (u : ℕ) → u < v → is_not_older seen pass u ≡ true)
    → IfNone r (Admits seen pass) → r ≡ first_older seen pass
unfolding first_older
older_is seen pass None older first none = sym (find_none (λ v. not (is_not_older seen pass v)) 0 64 (λ u low high. ap not (none u (omega arith))))
older_is seen pass (Some v) older first none =
    sym (find_first (λ v. not (is_not_older seen pass v)) 0 64 v (omega arith) (let high = older.0 in omega arith) (ap not older.1) (λ u low high. ap not (first u high)))

-- ---- something newer

any_some : (p : ℕ → Bool) (a n : ℕ) → list_any p (range_with_len a n) ≡ true → (v : ℕ) × (v < a + n) × (p v ≡ true)
any_some p a zero e = absurd (false≢true e)
any_some p a (suc n) e = elim (p a) as (λ b. p a ≡ b → (b || list_any p (range_with_len (a + 1) n)) ≡ true → (v : ℕ) × (v < a + suc n) × (p v ≡ true)) [
  | true ↦ λ is _. (a, omega arith, is)
  | false ↦ λ _ rest. let r = any_some p (a + 1) n rest in (r.0, (let high = r.1 in omega arith), r.2)
] refl e

any_none : (p : ℕ → Bool) (a n : ℕ) → list_any p (range_with_len a n) ≡ false → (v : ℕ) → a ≤ v → v < a + n → p v ≡ false
any_none p a zero e v low high = absurd (omega arith)
any_none p a (suc n) e v low high = elim (p a) as (λ b. p a ≡ b → (b || list_any p (range_with_len (a + 1) n)) ≡ false → p v ≡ false) [
  | true ↦ λ _ rest. absurd (false≢true (sym rest))
  | false ↦ λ is rest. elim (cases_lt a v) [
    | inl below ↦ any_none p (a + 1) n rest v (omega arith) (omega arith)
    | inr at ↦ let same : a ≡ v = omega arith in subst (λ k. p k ≡ false) same is
  ]
] refl e

raises_some : (seen pass : List ℕ) → is_newer seen pass ≡ true → Raises seen pass
unfolding is_newer
raises_some seen pass is =
    let some = any_some (λ v. nat_lt (slice_index seen v) (slice_index pass v)) 0 64 is in
    (some.0, (let high = some.1 in omega arith), (let less = some.2 in grind (arith, nat_tests)))

raises_none : (seen pass : List ℕ) → is_newer seen pass ≡ false → RaisesNone seen pass
unfolding is_newer
raises_none seen pass is v within =
    let less = any_none (λ u. nat_lt (slice_index seen u) (slice_index pass u)) 0 64 is v (omega arith) (omega arith) in
    grind (arith, nat_tests)

-- ---- what was seen

list_is : (f : ℕ → ℕ) (a : ℕ) (xs : List ℕ) → ((v : ℕ) → v < length xs → slice_index xs v ≡ f (a + v)) → xs ≡ map f (range_with_len a (length xs))
list_is f a [] is = refl
list_is f a (x ∷ xs) is =
    let here : a + 0 ≡ a = omega arith in
    ap₂ (λ (y : ℕ) (l : List ℕ). y ∷ l) (is 0 (omega arith) ∙ ap f here)
    (list_is f (a + 1) xs (λ v within. is (suc v) (omega arith) ∙ ap f (let same : a + suc v ≡ (a + 1) + v = omega arith in same)))

seen_is : (seen pass after : List ℕ) → length after ≡ 64 → SeesAlso seen pass after → after ≡ seen_with seen pass
unfolding seen_with
seen_is seen pass after many sees =
    list_is (λ v. highest_with seen pass v) 0 after (λ v within. sees v (omega arith) ∙ ap (λ k. highest_with seen pass k) (let same : v ≡ 0 + v = omega arith in same))
    ∙ ap (λ n. map (λ v. highest_with seen pass v) (range_with_len 0 n)) many

-- ---- a pass that the guard admits, if a turn is left

-- what is said of what the guard returned
abbrev pub said : Result ℕ FenceFault → Happening
said (Ok turn) = Admitted turn
said (Err fault) = NoTurn

pub record Did (g h : Guard) (pass : List ℕ) (r : Result ℕ FenceFault) : Type 0 where
  pub said_is : said r ≡ guard_did_by None (is_newer g.seen pass) (is_spent g) g
  pub after : h ≡ guard_after_by None (is_newer g.seen pass) (is_spent g) g pass

guard_is : (g h : Guard) (pass : List ℕ) (r : Result ℕ FenceFault) (turn : ℕ) → length h.seen ≡ 64 → IfOk r (λ t. SeesAlso g.seen pass h.seen × (h.turn ≡ t)) → r ≡ Ok turn
    → h ≡ record { seen = seen_with g.seen pass; turn = turn }
guard_is g h pass r turn many sees is =
    let ok = subst (λ (q : Result ℕ FenceFault). IfOk q (λ t. SeesAlso g.seen pass h.seen × (h.turn ≡ t))) is sees in
    λ i. record { seen = seen_is g.seen pass h.seen many ok.0 i; turn = ok.1 i }

-- what is known of a call of the guard
pub record Called (g h : Guard) (pass : List ℕ) (r : Result ℕ FenceFault) : Type 0 where
  pub many : length h.seen ≡ 64
  pub again : RaisesNone g.seen pass → r ≡ Ok g.turn
  pub next : Raises g.seen pass → g.turn + 1 < 2 ^ 64 → r ≡ Ok (g.turn + 1)
  pub spent : Raises g.seen pass → 2 ^ 64 ≤ g.turn + 1 → r ≡ Err TurnsSpent
  pub sees : IfOk r (λ t. SeesAlso g.seen pass h.seen × (h.turn ≡ t))
  pub same : OnErr r (h ≡ g)

by_newer : (g h : Guard) (pass : List ℕ) (r : Result ℕ FenceFault) → Called g h pass r → (newer spent : Bool) → is_newer g.seen pass ≡ newer → is_spent g ≡ spent
    → (said r ≡ guard_did_by None newer spent g) × (h ≡ guard_after_by None newer spent g pass)
by_newer g h pass r call false spent e f =
    let is = call.again (raises_none g.seen pass e) in
    (ap said is, guard_is g h pass r g.turn call.many call.sees is)
by_newer g h pass r call true true e f =
    let is = call.spent (raises_some g.seen pass e) (grind (arith, nat_tests)) in
    (ap said is, subst (λ (q : Result ℕ FenceFault). OnErr q (h ≡ g)) is call.same)
by_newer g h pass r call true false e f =
    let is = call.next (raises_some g.seen pass e) (grind (arith, nat_tests)) in
    (ap said is, guard_is g h pass r (g.turn + 1) call.many call.sees is)

pub admitted : (g h : Guard) (pass : List ℕ) (r : Result ℕ FenceFault) → Called g h pass r → Did g h pass r
admitted g h pass r call =
    let d = by_newer g h pass r call (is_newer g.seen pass) (is_spent g) refl refl in
    record { said_is = d.0; after = d.1 }

pub same_guard : (r : Result ℕ FenceFault) (f g : Fence) → OnErr r (f ≡ g) → OnErr r (guard_of f ≡ guard_of g)
same_guard (Ok turn) f g same = same
same_guard (Err fault) f g same = ap (λ (h : Fence). guard_of h) same
