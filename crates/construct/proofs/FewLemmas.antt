-- Lists of at most 4096 sets.
use Rattle.std.proofs.Common.{◌≡◌, ℕ, ◌+◌, ◌<◌, ◌≤◌, cond, List, [], ◌∷◌, ◌++◌, length, map, zero, suc, sym, refl, ap, ap₂, subst, ◌∙◌, inl, inr, arith, Result, Ok, Err, Vec, length-append}
use Rattle.std.specs.declared.alloc.Global.{Global}
use Rattle.std.specs.Result.{IsErrAnd}
use Rattle.std.specs.Bool.{OnFalse}
use Rattle.std.proofs.lemmas.Bool.{cases_lt, lt-ltb, le-ltb, OnFalse_at, OnFalse_from}
use Rattle.construct.specs.Answers.{Gives, Lists, few, is_out_of_memory}
use Rattle.quorum_set.specs.Coteries.{QuorumSystem}
use Rattle.construct.specs.Majority.{sets_from}
use Rattle.construct.specs.declared.fault.ConstructFault.{ConstructFault}
use Rattle.construct.specs.declared.fault.ConstructFault.TheVariants.{TooLarge}

pub few-small : (sets : List (List ℕ)) → length sets ≤ 4096 → few sets ≡ Ok sets
unfolding few
few-small sets le = ap (λ b. cond b (Err TooLarge) (Ok sets)) (le-ltb 4096 (length sets) le)

pub few-large : (sets : List (List ℕ)) → 4096 < length sets → few sets ≡ Err TooLarge
unfolding few
few-large sets lt = ap (λ b. cond b (Err TooLarge) (Ok sets)) (lt-ltb 4096 (length sets) lt)

-- what a list of few sets is
pub few-is : (sets list : List (List ℕ)) → few sets ≡ Ok list → (sets ≡ list) × (length sets ≤ 4096)
few-is sets list e = elim (cases_lt 4096 (length sets)) as (λ _. (sets ≡ list) × (length sets ≤ 4096)) [
  | inl more ↦ let large = few-large sets more in cc
  | inr less ↦ let small = few-small sets less in (cc, less)
]

pub few-not : (sets : List (List ℕ)) (fault : ConstructFault) → few sets ≡ Err fault → 4096 < length sets
few-not sets fault e = elim (cases_lt 4096 (length sets)) as (λ _. 4096 < length sets) [
  | inl more ↦ more
  | inr less ↦ let small = few-small sets less in cc
]

-- what is too long stays so
pub few-longer : (sets more : List (List ℕ)) (fault : ConstructFault) → few sets ≡ Err fault → length sets ≤ length more → few more ≡ Err fault
few-longer sets more fault e le =
    let large = few-not sets fault e in
    few-large more (omega arith) ∙ sym (few-large sets large) ∙ e

-- a refusal for one reason is one for another reason that follows
pub refuses-by : {P Q : Type 0} (fault : ConstructFault) → (P → Q) → OnFalse (is_out_of_memory fault) P → OnFalse (is_out_of_memory fault) Q
refuses-by {P} {Q} fault step e = OnFalse_from (is_out_of_memory fault) Q (λ off. step (OnFalse_at off e))

pub lists-refused : (r : Result (Vec (List ℕ) Global) ConstructFault) (sets : List (List ℕ)) (fault : ConstructFault) → IsErrAnd r (λ e. e ≡ fault)
    → OnFalse (is_out_of_memory fault) (few sets ≡ Err fault) → Lists r sets
lists-refused (Ok x) sets fault h e = absurd h
lists-refused (Err f) sets fault h e =
    let P : ConstructFault → Type 0 = λ g. OnFalse (is_out_of_memory g) (few sets ≡ Err g) in subst P (sym h) e

pub gives-refused : (r wanted : Result QuorumSystem ConstructFault) (fault : ConstructFault) → IsErrAnd r (λ e. e ≡ fault)
    → OnFalse (is_out_of_memory fault) (wanted ≡ Err fault) → Gives r wanted
gives-refused (Ok x) wanted fault h e = absurd h
gives-refused (Err f) wanted fault h e =
    let P : ConstructFault → Type 0 = λ g. OnFalse (is_out_of_memory g) (wanted ≡ Err g) in subst P (sym h) e

pub gives-made : (r wanted : Result QuorumSystem ConstructFault) (system : QuorumSystem) → r ≡ Ok system → wanted ≡ Ok system → Gives r wanted
gives-made r wanted system is e =
    let P : Result QuorumSystem ConstructFault → Type 0 = λ q. Gives q wanted in subst P (sym is) e

-- one set more
pub few_push : (sets : List (List ℕ)) (set : List ℕ) → length sets < 4096 → few (sets ++ set ∷ []) ≡ Ok (sets ++ set ∷ [])
few_push sets set lt = few-small (sets ++ set ∷ []) (omega (arith, length-append sets (set ∷ [])))

pub many_push : (sets : List (List ℕ)) (set : List ℕ) → 4096 ≤ length sets → few (sets ++ set ∷ []) ≡ Err TooLarge
many_push sets set le = few-large (sets ++ set ∷ []) (omega (arith, length-append sets (set ∷ [])))

-- the sets one by one
pub few-length : (sets list : List (List ℕ)) → few sets ≡ Ok list → length list ≤ 4096
few-length sets list e = let is = few-is sets list e in omega (arith, ap length is.0, is.1)

pub few-same : (sets list : List (List ℕ)) → list ≡ sets → length list ≤ 4096 → few sets ≡ Ok list
few-same sets list is le = few-small sets (omega (arith, ap length is)) ∙ ap (λ qs. Ok qs) (sym is)

pub sets_from-none : (a n k : ℕ) → n < k → sets_from a n k ≡ []
unfolding sets_from
sets_from-none a n zero lt = absurd (omega arith)
sets_from-none a zero (suc k) lt = refl
sets_from-none a (suc n) (suc k) lt =
    ap₂ (λ xs ys. map (λ s. a ∷ s) xs ++ ys) (sets_from-none (a + 1) n k (omega arith)) (sets_from-none (a + 1) n (suc k) (omega arith))
