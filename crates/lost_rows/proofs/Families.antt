-- Answers by which a session may ask, also while some are still to come, and what holds of all voters, their answers and their replies
use Rattle.std.proofs.Common.{◌≡◌, ℕ, ◌<◌, ◌≤◌, Bool, true, false, List, [], ◌∷◌, refl, sym, ap, subst, ◌∙◌, ◌⊎◌, inl, inr, Option, Some, None, arith}
use Rattle.std.specs.Prelude.{◌==◌, if◌then◌else◌}
use Rattle.std.specs.List.{AllByRecursion}
use Rattle.std.proofs.lemmas.Bool.{eqb-false, eqb-true}
use Rattle.std.proofs.lemmas.Bool.Decides.{eqb_tells}
use Rattle.sessions.specs.Rows.{IsOneOf, Row, Use}
use Rattle.lost_rows.specs.Spent.{IsSpent}
use Rattle.lost_rows.specs.Voters.{Answer, IsTold, Recoveries, Reply, Voter, newest, set, without}
use Rattle.lost_rows.proofs.SpentLemmas.{at_least}

-- ---- lists and functions

pub one_of : {A : Type 0} (P : A → Type 0) (xs : List A) (x : A) → AllByRecursion P xs → IsOneOf x xs → P x
one_of P [] x all among = absurd among
one_of P (y ∷ ys) x all among = elim among [
  | inl e ↦ subst P (sym e) all.0
  | inr rest ↦ one_of P ys x all.1 rest
]

pub same_or : (v u : ℕ) → (v ≡ u) ⊎ (v ≡ u → ⊥)
same_or v u = elim (eqb_tells v u) [ inl e ↦ inl e.1 | inr e ↦ inr e.1 ]

pub member : (v : ℕ) (q : List ℕ) → IsOneOf v q ⊎ (IsOneOf v q → ⊥)
member v [] = inr (λ among. among)
member v (y ∷ ys) = elim (same_or v y) [
  | inl e ↦ inl (inl e)
  | inr other ↦ elim (member v ys) [
    | inl among ↦ inl (inr among)
    | inr not_in ↦ inr (λ among. elim among [ inl e ↦ other e | inr rest ↦ not_in rest ])
  ]
]

pub some_or : (o : Option Answer) → (o ≡ None) ⊎ ((a : Answer) × (o ≡ Some a))
some_or None = inl refl
some_or (Some a) = inr (a, refl)

test : {A : Type 0} (P : ℕ → A → Type 0) (f : ℕ → A) (v : ℕ) (x : A) (u : ℕ) (b : Bool) → (v == u) ≡ b → P v x → ((v ≡ u → ⊥) → P u (f u))
    → P u (if b then x else f u)
test P f v x u true e here there = subst (λ (o : ℕ). P o x) (eqb-true v u e) here
test P f v x u false e here there = there (eqb-false v u e)

-- what holds of the new value, and of each other one before, holds of each
pub set_all : {A : Type 0} (P : ℕ → A → Type 0) (f : ℕ → A) (v : ℕ) (x : A) → P v x → ((u : ℕ) → (v ≡ u → ⊥) → P u (f u)) → (u : ℕ) → P u (set f v x u)
set_all P f v x here there u = test P f v x u (v == u) refl here (there u)

pub set_at : {A : Type 0} (f : ℕ → A) (v : ℕ) (x : A) → set f v x v ≡ x
set_at f v x = set_all (λ u y. v ≡ u → y ≡ x) f v x (λ e. refl) (λ u other e. absurd (other e)) v refl

pub set_other : {A : Type 0} (f : ℕ → A) (v : ℕ) (x : A) (u : ℕ) → (v ≡ u → ⊥) → set f v x u ≡ f u
set_other f v x u other = set_all (λ o y. (v ≡ o → ⊥) → y ≡ f o) f v x (λ not_one. absurd (not_one refl)) (λ o not_one again. refl) u other

-- a reply that is neither of this voter nor to it
pub record IsApart (replies : List Reply) (v : ℕ) (t : Reply) : Type 0 where
  pub among : IsOneOf t replies
  pub voter : v ≡ t.voter → ⊥
  pub to : v ≡ t.to → ⊥

apart_more : (replies : List Reply) (r : Reply) (v : ℕ) (t : Reply) → IsApart replies v t → IsApart (r ∷ replies) v t
apart_more replies r v t is = record { among = inr is.among; voter = is.voter; to = is.to }

apart_test : (replies rest : List Reply) (r : Reply) (v : ℕ) (t : Reply) (a b : Bool) → (r.voter == v) ≡ a → (r.to == v) ≡ b → (IsOneOf t rest
    → IsApart replies v t)
    → IsOneOf t (if a then rest else if b then rest else r ∷ rest) → IsApart (r ∷ replies) v t
apart_test replies rest r v t true b e f more among = apart_more replies r v t (more among)
apart_test replies rest r v t false true e f more among = apart_more replies r v t (more among)
apart_test replies rest r v t false false e f more among = elim among [
  | inl one ↦ record {
    among = inl one;
    voter = λ at. eqb-false r.voter v e (sym (at ∙ ap (λ (s : Reply). s.voter) one));
    to = λ at. eqb-false r.to v f (sym (at ∙ ap (λ (s : Reply). s.to) one));
  }
  | inr old ↦ apart_more replies r v t (more old)
]

pub in_without : (replies : List Reply) (v : ℕ) (t : Reply) → IsOneOf t (without replies v) → IsApart replies v t
in_without [] v t among = absurd among
in_without (r ∷ rs) v t among =
    apart_test rs (without rs v) r v t (r.voter == v) (r.to == v) refl refl (in_without rs v t) among

-- the newest run of which replies tell is at least that of each
pub newest_least : (replies : List Reply) (u : ℕ) (t : Reply) → IsOneOf t replies → t.knows u ≤ newest replies u
newest_least [] u t among = absurd among
newest_least (r ∷ rs) u t among =
    let both = at_least (r.knows u) (newest rs u) (newest (r ∷ rs) u) refl in
    let first = both.0 in
    let rest = both.1 in
    elim among [
      | inl e ↦ subst (λ (s : Reply). s.knows u ≤ newest (r ∷ rs) u) (sym e) first
      | inr old ↦ (let least = newest_least rs u t old in omega arith)
    ]

-- ---- families of answers

-- a voter knows of this run of another one, and the run began
pub record Knows (voters : ℕ → Voter) (u v r : ℕ) : Type 0 where
  pub known : r ≤ (voters u).knows v
  pub began : r ≤ (voters v).run

abbrev pub Grows : (ℕ → Voter) → (ℕ → Voter) → Type 0
Grows old new = (u v r : ℕ) → Knows old u v r → Knows new u v r

-- For some voters of a quorum an answer by which the stamp is the session's own. None says that another one has a later run than that one's
-- answer. Nor does any of the other voters know so, whose answer may still come.
pub record IsFamily (answers : List Answer) (voters : ℕ → Voter) (x : Use) (quorum : List ℕ) (f : ℕ → Option Answer) : Type 0 where
  pub told : (v : ℕ) (a : Answer) → IsOneOf v quorum → f v ≡ Some a → IsTold answers x.session x.epoch x.stamp v a
  pub newest : (u v : ℕ) (a b : Answer) → IsOneOf u quorum → IsOneOf v quorum → f u ≡ Some a → f v ≡ Some b → a.knows v ≤ b.run
  pub still : (u v : ℕ) (b : Answer) → IsOneOf u quorum → IsOneOf v quorum → f u ≡ None → f v ≡ Some b → (r : ℕ) → Knows voters u v r → r ≤ b.run

-- a family now is one before
pub family_before : (answers : List Answer) (old new : ℕ → Voter) (x : Use) (q : List ℕ) (f : ℕ → Option Answer) → Grows old new
    → IsFamily answers new x q f → IsFamily answers old x q f
family_before answers old new x q f grows is = record {
  told = is.told;
  newest = is.newest;
  still = λ u v b in_u in_v none some r knows. is.still u v b in_u in_v none some r (grows u v r knows);
}

-- ---- what holds

abbrev pub Spends : Row → Use → Type 0
Spends row x = IsSpent row x.session x.epoch x.stamp

-- the reply is to a voter whose state is lost, of one that knows the run for which it is
pub record IsTrue (voters : ℕ → Voter) (t : Reply) : Type 0 where
  pub talks : (voters t.voter).is_lost ≡ false
  pub silent : (voters t.to).is_lost ≡ true
  pub known : t.again ≤ (voters t.voter).knows t.to
  pub told : t.again ≤ t.knows t.to

-- All voters of a recovery know that the voter has this run, and so does the voter. If a reply of any of them is to one that knows it, the reply
-- says so.
pub record IsHeard (recoveries : Recoveries) (voters : ℕ → Voter) (replies : List Reply) (v r : ℕ) : Type 0 where
  pub recovery : List ℕ
  pub among : IsOneOf recovery (recoveries v)
  pub knows : (z : ℕ) → IsOneOf z recovery ⊎ (z ≡ v) → r ≤ (voters z).knows v
  pub tells : (t : Reply) → IsOneOf t replies → IsOneOf t.voter recovery ⊎ (t.voter ≡ v) → r ≤ (voters t.to).knows v → r ≤ t.knows v

-- What a voter told a session is spent by its rows, and by each of its replies, unless the session knew of the run for which that is.
pub record IsSafe (voters : ℕ → Voter) (replies : List Reply) (x : Use) (v : ℕ) (a : Answer) : Type 0 where
  pub rows : (voters v).is_lost ≡ false → Spends (voters v).live x × Spends (voters v).saved x
  pub replied : (t : Reply) → IsOneOf t replies → t.voter ≡ v → Spends t.row x ⊎ (t.again ≤ a.knows t.to)

-- what holds of all voters, their answers and their replies
pub record Holds (quorums : List (List ℕ)) (recoveries : Recoveries) (voters : ℕ → Voter) (answers : List Answer) (replies : List Reply) : Type 0 where
  pub ran : (a : Answer) → IsOneOf a answers → a.run ≤ (voters a.voter).run
  pub true_replies : (t : Reply) → IsOneOf t replies → IsTrue voters t
  pub own : (v : ℕ) → (voters v).run ≤ (voters v).knows v
  pub past : (y : ℕ) → (voters y).is_lost ≡ true → (v : ℕ) → (voters y).knows v ≤ (voters v).run
  pub heard : (v r : ℕ) → 0 < r → r ≤ (voters v).run → IsHeard recoveries voters replies v r
  pub safe : (x : Use) (q : List ℕ) (f : ℕ → Option Answer) → IsOneOf q quorums → IsFamily answers voters x q f
      → (v : ℕ) (a : Answer) → IsOneOf v q → f v ≡ Some a → IsSafe voters replies x v a
  pub once : (x y : Use) (p q : List ℕ) (f g : ℕ → Option Answer) → IsOneOf p quorums → IsOneOf q quorums
      → IsFamily answers voters x p f → IsFamily answers voters y q g → x.stamp ≡ y.stamp
      → (v : ℕ) (a b : Answer) → IsOneOf v p → IsOneOf v q → f v ≡ Some a → g v ≡ Some b → (x.session ≡ y.session) × (x.epoch ≡ y.epoch)
