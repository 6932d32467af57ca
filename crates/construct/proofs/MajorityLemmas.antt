-- Sets of one size, and why majorities are a coterie.
use Rattle.std.proofs.Common.{ap, ◌++◌, ◌≡◌, ℕ, ◌+◌, ◌*◌, ◌/◌, ◌<◌, ◌≤◌, true, false, cond, eqb, leb, List, [], ◌∷◌, length, get_or, map, zero, suc, sym, refl, ap₂, ◌∙◌, inl, inr, arith, length-append, Ok, Err}
use Rattle.std.specs.List.{All, AllPairs, Contains}
use Rattle.std.proofs.lemmas.Bool.{true≢false, leb-true, le-ltb, ne_eqb, or_right, cases_eq, cases_lt, agree_below_at}
use Rattle.std.proofs.lemmas.List.{length-map, get_or-map}
use Rattle.std.proofs.lemmas.List.Elements.{All-nil, All-cons, All-append, All-map, Contains-append_left, Contains-append_right}
use Rattle.numbers.specs.Sets.{has, Ascends, IsSet}
use Rattle.quorum_set.specs.Coteries.{IsCoterie}
use Rattle.numbers.proofs.SetLemmas.{Ascends-lower, has-below, has-above, has-head, has-tail, length-Ascends}
use Rattle.construct.specs.Majority.{sets_from, choose, majority_system, majority_at}
use Rattle.construct.specs.declared.fault.ConstructFault.{ConstructFault}
use Rattle.construct.specs.declared.fault.ConstructFault.TheVariants.{BadSize, TooLarge}
use Rattle.construct.specs.Answers.{few}
use Rattle.construct.proofs.FewLemmas.{few-is, few-not}
use Rattle.numbers.proofs.Meetings.{All-members}
use Rattle.construct.proofs.Quorums.{IsQuorum, IsCoterie-from, IsCrossing-from, AllPairs-append}
use Rattle.construct.proofs.TreeLemmas.{AllPairs-map}

-- an ascending list of k of the n numbers from low on
pub record IsChoice (low n k : ℕ) (s : List ℕ) : Type 0 where
  pub ascends : Ascends low (low + n) s
  pub long : length s ≡ k

pub Ascends-below : (low high more : ℕ) (s : List ℕ) → high ≤ more → Ascends low high s → Ascends low more s
Ascends-below low high more [] le h = tt
Ascends-below low high more (x ∷ xs) le h = (h.0, omega (arith, h.1), Ascends-below (x + 1) high more xs le h.2)

-- what follows the first number is above the least one, and so is a list that does not begin with it
Ascends-tail : (low n x : ℕ) (xs : List ℕ) → Ascends low (low + suc n) (x ∷ xs) → Ascends (low + 1) (low + 1 + n) xs
Ascends-tail low n x xs h =
    let up : low + suc n ≡ low + 1 + n = omega arith in
    Ascends-lower (x + 1) (low + 1) (low + 1 + n) xs (omega (arith, h.0)) (rw up at h.2)

Ascends-after : (low n x : ℕ) (xs : List ℕ) → (x ≡ low → ⊥) → Ascends low (low + suc n) (x ∷ xs) → Ascends (low + 1) (low + 1 + n) (x ∷ xs)
Ascends-after low n x xs off h =
    let up : low + suc n ≡ low + 1 + n = omega arith in
    (omega (arith, h.0), omega (arith, h.1), rw up at h.2)

IsChoice-with : (low n k : ℕ) (s : List ℕ) → IsChoice (low + 1) n k s → IsChoice low (suc n) (suc k) (low ∷ s)
IsChoice-with low n k s choice = record {
  ascends = (omega arith, omega arith, Ascends-below (low + 1) (low + 1 + n) (low + suc n) s (omega arith) choice.ascends);
  long = omega (arith, choice.long);
}

IsChoice-without : (low n k : ℕ) (s : List ℕ) → IsChoice (low + 1) n k s → IsChoice low (suc n) k s
IsChoice-without low n k s choice = record {
  ascends = Ascends-lower (low + 1) low (low + suc n) s (omega arith) (Ascends-below (low + 1) (low + 1 + n) (low + suc n) s (omega arith) choice.ascends);
  long = choice.long;
}

pub IsChoice-sets_from : (low n k : ℕ) → All (IsChoice low n k) (sets_from low n k)
unfolding sets_from
IsChoice-sets_from low n zero = All-cons (IsChoice low n 0) [] [] (record { ascends = tt; long = refl }) (All-nil (IsChoice low n 0))
IsChoice-sets_from low zero (suc k) = All-nil (IsChoice low 0 (suc k))
IsChoice-sets_from low (suc n) (suc k) =
    All-append (IsChoice low (suc n) (suc k)) (map (λ s. low ∷ s) (sets_from (low + 1) n k)) (sets_from (low + 1) n (suc k))
    (All-map (IsChoice low (suc n) (suc k)) (λ s. low ∷ s) (sets_from (low + 1) n k) (λ j d lt. IsChoice-with low n k _ (IsChoice-sets_from (low + 1) n k j d lt)))
    (λ j d lt. IsChoice-without low n (suc k) _ (IsChoice-sets_from (low + 1) n (suc k) j d lt))

-- each such list is among the sets
Contains-map : (f : List ℕ → List ℕ) (xs : List (List ℕ)) (s : List ℕ) → Contains xs s → Contains (map f xs) (f s)
Contains-map f xs s (k, lt, at) = (k, omega (arith, length-map xs f), get_or-map f xs k s (f s) lt ∙ ap f at)

pub Contains-sets_from : (low n k : ℕ) (s : List ℕ) → Ascends low (low + n) s → length s ≡ k → Contains (sets_from low n k) s
unfolding sets_from
Contains-sets_from low n zero [] h long = (0, omega arith, refl)
Contains-sets_from low n zero (x ∷ xs) h long = absurd (omega arith)
Contains-sets_from low zero (suc k) [] h long = absurd (omega arith)
Contains-sets_from low zero (suc k) (x ∷ xs) h long = absurd (omega (arith, h.0, h.1))
Contains-sets_from low (suc n) (suc k) [] h long = absurd (omega arith)
Contains-sets_from low (suc n) (suc k) (x ∷ xs) h long =
    let with_low = map (λ s. low ∷ s) (sets_from (low + 1) n k) in
    let without = sets_from (low + 1) n (suc k) in
    elim (cases_eq x low) as (λ _. Contains (with_low ++ without) (x ∷ xs)) [
      | inl first ↦
          Contains-append_left with_low without (x ∷ xs)
          (rw first (Contains-map (λ s. low ∷ s) (sets_from (low + 1) n k) xs (Contains-sets_from (low + 1) n k xs (Ascends-tail low n x xs h) (omega arith))))
      | inr off ↦
          Contains-append_right with_low without (x ∷ xs)
          (Contains-sets_from (low + 1) n (suc k) (x ∷ xs) (Ascends-after low n x xs off h) long)
    ]

pub length-sets_from : (low n k : ℕ) → length (sets_from low n k) ≡ choose n k
unfolding sets_from choose
length-sets_from low n zero = refl
length-sets_from low zero (suc k) = refl
length-sets_from low (suc n) (suc k) =
    omega (
      arith,
      length-append (map (λ s. low ∷ s) (sets_from (low + 1) n k)) (sets_from (low + 1) n (suc k)),
      length-map (sets_from (low + 1) n k) (λ (s : List ℕ). low ∷ s),
      length-sets_from (low + 1) n k,
      length-sets_from (low + 1) n (suc k),
    )

pub has_from : (low high : ℕ) (s : List ℕ) (v : ℕ) → Ascends low high s → has s v ≡ true → (low ≤ v) × (v < high)
has_from low high s v h there = (
  elim (cases_lt v low) as (λ _. low ≤ v) [
    | inl below ↦ absurd (true≢false (sym there ∙ has-below low high s v h below))
    | inr from ↦ from
  ],
  elim (cases_lt v high) as (λ _. v < high) [
    | inl below ↦ below
    | inr above ↦ absurd (true≢false (sym there ∙ has-above low high s v h above))
  ],
)

has_later : (x : ℕ) (xs : List ℕ) (v : ℕ) → has xs v ≡ true → has (x ∷ xs) v ≡ true
has_later x xs v there = or_right (eqb x v) (has xs v) there

-- two sets with more members together than there are numbers meet
pub Ascends-common : (n low : ℕ) (s t : List ℕ) → Ascends low (low + n) s → Ascends low (low + n) t → n < length s + length t → (v : ℕ) × (has s v ≡ true) × (has t v ≡ true)
Ascends-common n low [] t hs ht more = absurd (omega (arith, length-Ascends low (low + n) t (omega arith) ht))
Ascends-common n low (x ∷ xs) [] hs ht more = absurd (omega (arith, length-Ascends low (low + n) (x ∷ xs) (omega arith) hs))
Ascends-common zero low (x ∷ xs) (y ∷ ys) hs ht more = absurd (omega (arith, hs.0, hs.1))
Ascends-common (suc n) low (x ∷ xs) (y ∷ ys) hs ht more =
    let rest_s = Ascends-tail low n x xs hs in
    let rest_t = Ascends-tail low n y ys ht in
    elim (cases_eq x low) [
      | inl first ↦
          elim (cases_eq y low) [
            | inl second ↦ (low, rw first (has-head low xs), rw second (has-head low ys))
            | inr later ↦
                let (v, v_s, v_t) = Ascends-common n (low + 1) xs (y ∷ ys) rest_s (Ascends-after low n y ys later ht) (omega arith) in
                (v, has_later x xs v v_s, v_t)
          ]
      | inr off ↦
          elim (cases_eq y low) [
            | inl second ↦
                let (v, v_s, v_t) = Ascends-common n (low + 1) (x ∷ xs) ys (Ascends-after low n x xs off hs) rest_t (omega arith) in
                (v, v_s, has_later y ys v v_t)
            | inr later ↦
                Ascends-common n (low + 1) (x ∷ xs) (y ∷ ys) (Ascends-after low n x xs off hs)
                (Ascends-after low n y ys later ht) (omega arith)
          ]
    ]

-- a set with more members has one that the other has not
Ascends-longer_has_other : (n low : ℕ) (s t : List ℕ) → Ascends low (low + n) s → Ascends low (low + n) t → length s < length t → (v : ℕ) × (has t v ≡ true) × (has s v ≡ false)
Ascends-longer_has_other n low s [] hs ht more = absurd (omega arith)
Ascends-longer_has_other n low [] (y ∷ ys) hs ht more = (y, has-head y ys, refl)
Ascends-longer_has_other zero low (x ∷ xs) (y ∷ ys) hs ht more = absurd (omega (arith, hs.0, hs.1))
Ascends-longer_has_other (suc n) low (x ∷ xs) (y ∷ ys) hs ht more =
    let rest_s = Ascends-tail low n x xs hs in
    let rest_t = Ascends-tail low n y ys ht in
    elim (cases_eq x low) [
      | inl first ↦
          elim (cases_eq y low) [
            | inl second ↦
                let (v, v_t, v_s) = Ascends-longer_has_other n (low + 1) xs ys rest_s rest_t (omega arith) in
                let after = (has_from (low + 1) (low + 1 + n) ys v rest_t v_t).0 in
                (v, has_later y ys v v_t, has-tail x xs v (λ e. omega arith) ∙ v_s)
            | inr later ↦
                let whole = Ascends-after low n y ys later ht in
                let (v, v_t, v_s) = Ascends-longer_has_other n (low + 1) xs (y ∷ ys) rest_s whole (omega arith) in
                let after = (has_from (low + 1) (low + 1 + n) (y ∷ ys) v whole v_t).0 in
                (v, v_t, has-tail x xs v (λ e. omega arith) ∙ v_s)
          ]
      | inr off ↦
          elim (cases_eq y low) [
            | inl second ↦
                (y, has-head y ys, has-below (low + 1) (low + 1 + n) (x ∷ xs) y (Ascends-after low n x xs off hs) (omega arith))
            | inr later ↦
                Ascends-longer_has_other n (low + 1) (x ∷ xs) (y ∷ ys) (Ascends-after low n x xs off hs)
                (Ascends-after low n y ys later ht) (omega arith)
          ]
    ]

-- each of the sets has a member that the other has not
pub record IsApart (s t : List ℕ) : Type 0 where
  pub left : (v : ℕ) × (has s v ≡ true) × (has t v ≡ false)
  pub right : (v : ℕ) × (has t v ≡ true) × (has s v ≡ false)

apart_with : (low n k : ℕ) (s t : List ℕ) → IsChoice (low + 1) n k s → IsChoice (low + 1) n k t → IsApart s t → IsApart (low ∷ s) (low ∷ t)
apart_with low n k s t a b apart =
    let (v, v_s, v_t) = apart.left in
    let (w, w_t, w_s) = apart.right in
    let above_v = (has_from (low + 1) (low + 1 + n) s v a.ascends v_s).0 in
    let above_w = (has_from (low + 1) (low + 1 + n) t w b.ascends w_t).0 in record {
      left = (v, has_later low s v v_s, has-tail low t v (λ e. omega arith) ∙ v_t);
      right = (w, has_later low t w w_t, has-tail low s w (λ e. omega arith) ∙ w_s);
    }

apart_without : (low n k : ℕ) (s t : List ℕ) → IsChoice (low + 1) n k s → IsChoice (low + 1) n (suc k) t → IsApart (low ∷ s) t
apart_without low n k s t a b =
    let (v, v_t, v_s) = Ascends-longer_has_other n (low + 1) s t a.ascends b.ascends (omega (arith, a.long, b.long)) in
    let above = (has_from (low + 1) (low + 1 + n) t v b.ascends v_t).0 in record {
      left = (low, has-head low s, has-below (low + 1) (low + 1 + n) t low b.ascends (omega arith));
      right = (v, v_t, has-tail low s v (λ e. omega arith) ∙ v_s);
    }

pub apart_choices : (low n k : ℕ) → AllPairs IsApart (sets_from low n k)
unfolding sets_from
apart_choices low n zero = λ a b d before lt. absurd (omega arith)
apart_choices low zero (suc k) = λ a b d before lt. absurd (omega arith)
apart_choices low (suc n) (suc k) =
    let with_low = sets_from (low + 1) n k in
    let without = sets_from (low + 1) n (suc k) in
    AllPairs-append IsApart (map (λ s. low ∷ s) with_low) without
    (AllPairs-map IsApart (λ s. low ∷ s) with_low (λ a b d before lt.
    apart_with low n k (get_or with_low a d) (get_or with_low b d) (IsChoice-sets_from (low + 1) n k a d (omega arith)) (IsChoice-sets_from (low + 1) n k b d lt)
    (apart_choices (low + 1) n k a b d before lt)))
    (apart_choices (low + 1) n (suc k))
    (All-map (λ s. All (IsApart s) without) (λ s. low ∷ s) with_low (λ a d la.
    λ b e lb. apart_without low n k (get_or with_low a d) (get_or without b e) (IsChoice-sets_from (low + 1) n k a d la) (IsChoice-sets_from (low + 1) n (suc k) b e lb)))

-- there are not too many
few_majorities : (n : ℕ) → n ≤ 14 → length (sets_from 0 n (n / 2 + 1)) ≤ 4096
unfolding choose
few_majorities n le =
    omega (
      arith,
      length-sets_from 0 n (n / 2 + 1),
      leb-true (choose n (n / 2 + 1)) 4096 (agree_below_at (λ m. leb (choose m (m / 2 + 1)) 4096) (λ m. true) 15 n refl (omega arith)),
    )

pub some_sets : (low n k : ℕ) → k ≤ n → 0 < length (sets_from low n k)
unfolding sets_from
some_sets low n zero le = omega arith
some_sets low zero (suc k) le = absurd (omega arith)
some_sets low (suc n) (suc k) le =
    omega (
      arith,
      length-append (map (λ s. low ∷ s) (sets_from (low + 1) n k)) (sets_from (low + 1) n (suc k)),
      length-map (sets_from (low + 1) n k) (λ (s : List ℕ). low ∷ s),
      some_sets (low + 1) n k (omega arith),
    )

pub IsSet-choice : (n k : ℕ) (s : List ℕ) → n ≤ 64 → IsChoice 0 n k s → IsSet s
IsSet-choice n k s few choice = Ascends-below 0 (0 + n) 64 s (omega arith) choice.ascends

pub All-IsChoice : (n k : ℕ) (s : List ℕ) → IsChoice 0 n k s → All (λ i. i < n) s
All-IsChoice n k s choice = All-members (λ i. i < n) s (λ v there. omega (arith, (has_from 0 (0 + n) s v choice.ascends there).1))

IsQuorum-choice : (n k : ℕ) (s : List ℕ) → n ≤ 64 → IsChoice 0 n (suc k) s → IsQuorum n s
IsQuorum-choice n k s few choice = record {
  set = IsSet-choice n (suc k) s few choice;
  not_empty = omega (arith, choice.long);
  in_range = All-IsChoice n (suc k) s choice;
}

sets_are_coterie : (size n : ℕ) → size ≤ n → n < 2 * size → n ≤ 64 → length (sets_from 0 n size) ≤ 4096 → IsCoterie (record { voters = n; quorums = sets_from 0 n size })
sets_are_coterie zero n le more few_voters few_sets = absurd (omega arith)
sets_are_coterie (suc k) n le more few_voters few_sets =
    let list = sets_from 0 n (suc k) in
    let all = IsChoice-sets_from 0 n (suc k) in
    IsCoterie-from n list (omega arith) few_voters (some_sets 0 n (suc k) le) few_sets
    (λ j d lt. IsQuorum-choice n k (get_or list j d) few_voters (all j d lt))
    (λ a b d before lt.
    let first = all a d (omega arith) in
    let second = all b d lt in
    let (v, v_s, v_t) = Ascends-common n 0 (get_or list a d) (get_or list b d) first.ascends second.ascends (omega (arith, first.long, second.long)) in
    let apart = apart_choices 0 n (suc k) a b d before lt in
    IsCrossing-from (get_or list a d) (get_or list b d) v apart.left.0 apart.right.0 v_s v_t apart.left.1 apart.left.2 apart.right.1 apart.right.2)

pub majority_is_coterie : (n : ℕ) → 0 < n → n ≤ 14 → IsCoterie (majority_system n)
majority_is_coterie n some le = sets_are_coterie (n / 2 + 1) n (omega arith) (omega arith) (omega arith) (few_majorities n le)

-- the majorities that are made, and why none are refused
pub majority_at-made : (n : ℕ) → 0 < n → n ≤ 14 → majority_at n ≡ Ok (majority_system n)
majority_at-made n some le =
    ap₂ (λ b l. cond b (Err BadSize) (cond l (Err TooLarge) (Ok (majority_system n)))) (ne_eqb n 0 (λ e. omega arith)) (le-ltb 14 n le)

pub majority_made : (n : ℕ) (list : List (List ℕ)) → few (sets_from 0 n (n / 2 + 1)) ≡ Ok list → majority_system n ≡ record { voters = n; quorums = list }
majority_made n list e = ap (λ qs. record { voters = n; quorums = qs }) (few-is (sets_from 0 n (n / 2 + 1)) list e).0

pub majority_refused : (n : ℕ) (fault : ConstructFault) → 0 < n → n ≤ 14 → few (sets_from 0 n (n / 2 + 1)) ≡ Err fault → majority_at n ≡ Err fault
majority_refused n fault some le e = absurd (omega (arith, few_majorities n le, few-not (sets_from 0 n (n / 2 + 1)) fault e))

-- sets of one size are sets
pub IsSet-sets_from : (low n k : ℕ) → low + n ≤ 64 → All IsSet (sets_from low n k)
IsSet-sets_from low n k le = λ j d lt.
    Ascends-below 0 (low + n) 64 (get_or (sets_from low n k) j d) le
    (Ascends-lower low 0 (low + n) (get_or (sets_from low n k) j d) (omega arith) (IsChoice-sets_from low n k j d lt).ascends)
