-- grants that are old: there are at most as many as voters, and they do not come back
use Rattle.std.proofs.Common.{◌≡◌, ℕ, zero, suc, ◌<◌, ◌≤◌, Bool, true, false, List, Option, Some, None, refl, sym, ap, subst, ◌∙◌, inl, inr, arith}
use Rattle.std.specs.Prelude.{◌&&◌, length, nat_lt}
use Rattle.std.proofs.lemmas.Bool.{cases_eq, cases_lt, false≢true}
use Rattle.std.proofs.lemmas.Bool.Decides.{nat_tests}
use Rattle.std.proofs.lemmas.List.{get_or_past}
use Rattle.std.proofs.lemmas.Option.{none-some, same_Some}
use Rattle.numbers.specs.Sums.{sum_below}
use Rattle.numbers.proofs.SumsBelow.{sum_below-le, sum_below-one}
use Rattle.voter.specs.declared.state.Grant.{Grant}
use Rattle.voter.specs.declared.state.VoterState.{VoterState}
use Rattle.voter.specs.Steps as voter
use Rattle.requester.specs.Words.{last_of}
use Rattle.world_state.specs.Steps.{WorldState, client_at, voter_at}
use Rattle.progress.proofs.invariants.Inquiries.{Outlasts, Outlasts-self}
use Rattle.progress.proofs.run.Moves.{Moved}
use Rattle.progress.proofs.invariants.Outstanding.{Outlasts-voter}
use Rattle.progress.proofs.invariants.Sure.{Course}
use Rattle.progress.proofs.patience.Turns.{one_if}

-- no grant of later than the world w is old
abbrev pub AreOld : Course → WorldState → Type 0
AreOld p w = (v : ℕ) → p.old v ≤ suc (voter_at w.voters v).granted

-- an old grant that has the vote in the world w, and was not given back, is not given back in the
-- world z
abbrev pub KeepsOlds : Course → WorldState → WorldState → Type 0
KeepsOlds p w z = (v : ℕ) (g : Grant) → (voter_at w.voters v).held ≡ Some g → g.grant < p.old v → last_of (client_at w.clients g.client) v < g.grant
    → last_of (client_at z.clients g.client) v < g.grant

pub Outlasts-moved : (x y : WorldState) → Moved x y → (v : ℕ) → Outlasts (voter_at x.voters v) (voter_at y.voters v)
Outlasts-moved x y moved v = elim moved [
  | inl k ↦ subst (λ (vs : List VoterState). Outlasts (voter_at x.voters v) (voter_at vs v)) (sym k.voters) (Outlasts-self (voter_at x.voters v))
  | inr (inl k) ↦ Outlasts-voter x y k v
  | inr (inr k) ↦ subst (λ (vs : List VoterState). Outlasts (voter_at x.voters v) (voter_at vs v)) (sym k.voters) (Outlasts-self (voter_at x.voters v))
]

-- an old grant had the vote before
pub same_grant : (p : Course) (w : WorldState) (v : ℕ) (g : Grant) (y : VoterState) → AreOld p w → Outlasts (voter_at w.voters v) y → y.held ≡ Some g → g.grant < p.old v
    → (voter_at w.voters v).held ≡ Some g
same_grant p w v g y few outlasts held less = elim (outlasts.grants g held) [
  | inl was ↦ was.0
  | inr new ↦ (let most = few v in absurd (omega arith))
]

-- ---- how many there are

-- the grant is old, and was not given back
abbrev pub is_stale : Course → WorldState → ℕ → Option Grant → Bool
is_stale p x v None = false
is_stale p x v (Some g) = nat_lt g.grant (p.old v) && nat_lt (last_of (client_at x.clients g.client) v) g.grant

abbrev pub stale_at : Course → WorldState → ℕ → Bool
stale_at p x v = is_stale p x v (voter_at x.voters v).held

-- the old grants of the first n voters that were not given back
unfoldable pub olds_of : Course → ℕ → WorldState → ℕ
olds_of p n x = sum_below (λ v. one_if (stale_at p x v)) n

-- an old grant that was not given back
record Stale (p : Course) (x : WorldState) (v : ℕ) (o : Option Grant) : Type 0 where
  grant : Grant
  held : o ≡ Some grant
  less : grant.grant < p.old v
  free : last_of (client_at x.clients grant.client) v < grant.grant

stale_some : (p : Course) (x : WorldState) (v : ℕ) (o : Option Grant) → is_stale p x v o ≡ true → Stale p x v o
stale_some p x v None is = absurd (false≢true is)
stale_some p x v (Some g) is = record { grant = g; held = refl; less = grind (arith, nat_tests); free = grind (arith, nat_tests) }

stale_by : (p : Course) (x : WorldState) (v : ℕ) (g : Grant) → g.grant < p.old v → last_of (client_at x.clients g.client) v < g.grant → is_stale p x v (Some g) ≡ true
stale_by p x v g less free = grind (arith, nat_tests)

-- what was so of the world x is so of a later one
pub record GoesLater (p : Course) (x z : WorldState) : Type 0 where
  pub few : AreOld p x
  pub outlasts : (v : ℕ) → Outlasts (voter_at x.voters v) (voter_at z.voters v)
  pub last : (d v : ℕ) → last_of (client_at x.clients d) v ≤ last_of (client_at z.clients d) v

stale_before : (p : Course) (x z : WorldState) (v : ℕ) → GoesLater p x z → stale_at p z v ≡ true → stale_at p x v ≡ true
stale_before p x z v go is =
    let s = stale_some p z v (voter_at z.voters v).held is in
    let g = s.grant in
    let was = same_grant p x v g (voter_at z.voters v) go.few (go.outlasts v) s.held s.less in
    let rises = go.last g.client v in
    let less = s.less in
    let free = s.free in
    ap (is_stale p x v) was ∙ stale_by p x v g less (omega arith)

one_before : (a b : Bool) → (b ≡ true → a ≡ true) → one_if b ≤ one_if a
one_before true true h = omega arith
one_before true false h = omega arith
one_before false false h = omega arith
one_before false true h = absurd (false≢true (h refl))

pub olds_fall : (p : Course) (n : ℕ) (x z : WorldState) → GoesLater p x z → olds_of p n z ≤ olds_of p n x
unfolding olds_of
olds_fall p n x z go = sum_below-le n (λ v. one_if (stale_at p z v)) (λ v. one_if (stale_at p x v)) (λ v _. one_before (stale_at p x v) (stale_at p z v) (stale_before p x z v go))

pub olds_most : (p : Course) (n : ℕ) (x : WorldState) → olds_of p n x ≤ n
unfolding olds_of
olds_most p n x = omega (arith, sum_below-le n (λ v. one_if (stale_at p x v)) (λ v. 1) (λ v _. most (stale_at p x v)), sum_below-one n)
  where
    most : (b : Bool) → one_if b ≤ 1
    most true = omega arith
    most false = omega arith

-- if no grant is old there is none
pub no_olds : (p : Course) (n : ℕ) (x : WorldState) → ((v : ℕ) → p.old v ≡ 0) → olds_of p n x ≡ 0
unfolding olds_of
no_olds p zero x none = refl
no_olds p (suc n) x none =
    let rest = no_olds p n x none in
    let here : one_if (stale_at p x n) ≡ 0 = ap one_if (fresh p x n (voter_at x.voters n).held (none n)) in
    omega arith
  where
    fresh : (p : Course) (x : WorldState) (v : ℕ) (o : Option Grant) → p.old v ≡ 0 → is_stale p x v o ≡ false
    fresh p x v None none = refl
    fresh p x v (Some g) none = grind (arith, nat_tests)

sum_same : (n e : ℕ) (f g : ℕ → ℕ) → ((d : ℕ) → g d ≤ f d) → sum_below f n ≤ sum_below g n → e < n → f e ≤ g e
sum_same zero e f g each all within = absurd (omega arith)
sum_same (suc n) e f g each all within =
    let here = each n in
    let rest = sum_below-le n g f (λ d _. each d) in
    elim (cases_eq e n) [
      | inl last ↦ subst (λ i. f i ≤ g i) (sym last) (omega arith)
      | inr other ↦ sum_same n e f g each (omega arith) (omega arith)
    ]

is_one : (a b : Bool) → one_if a ≤ one_if b → a ≡ true → b ≡ true
is_one true true h is = refl
is_one true false h is = absurd (omega arith)
is_one false b h is = absurd (false≢true is)

voter_below : (x : WorldState) (v : ℕ) (g : Grant) → (voter_at x.voters v).held ≡ Some g → v < length x.voters
unfolding voter_at
voter_below x v g held = elim (cases_lt v (length x.voters)) [
  | inl less ↦ less
  | inr beyond ↦ absurd (none-some g (sym (ap (λ (y : VoterState). y.held) (get_or_past x.voters v (voter.start 0 1) beyond)) ∙ held))
]

-- while there are as many, none is given back
pub keeps_olds : (p : Course) (n : ℕ) (x z : WorldState) → GoesLater p x z → length x.voters ≡ n → olds_of p n x ≤ olds_of p n z → KeepsOlds p x z
unfolding olds_of
keeps_olds p n x z go count same v g held less free =
    let within = voter_below x v g held in
    let f : ℕ → ℕ = λ u. one_if (stale_at p x u) in
    let h : ℕ → ℕ = λ u. one_if (stale_at p z u) in
    let each : (u : ℕ) → h u ≤ f u = λ u. one_before (stale_at p x u) (stale_at p z u) (stale_before p x z u go) in
    let one = sum_same n v f h each same (omega arith) in
    let stale = is_one (stale_at p x v) (stale_at p z v) one (ap (is_stale p x v) held ∙ stale_by p x v g less free) in
    let s = stale_some p z v (voter_at z.voters v).held stale in
    let was = same_grant p x v s.grant (voter_at z.voters v) go.few (go.outlasts v) s.held s.less in
    let own : s.grant ≡ g = same_Some s.grant g (sym was ∙ held) in
    subst (λ (k : Grant). last_of (client_at z.clients k.client) v < k.grant) own s.free
