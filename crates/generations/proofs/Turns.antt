-- turns grow over all plans
use Rattle.std.proofs.Common.{◌≡◌, ℕ, zero, suc, ◌+◌, ◌-◌, ◌<◌, ◌≤◌, true, List, [], ◌∷◌, refl, sym, subst, ◌⊎◌, inl, inr, arith}
use Rattle.std.specs.Prelude.{slice_index}
use Rattle.std.specs.List.{AllByRecursion}
use Rattle.std.proofs.lemmas.Bool.{cases_lt}
use Rattle.numbers.specs.Sets.{has}
use Rattle.quorum_set.specs.Meetings.{AllMeet, Meet}
use Rattle.world.specs.Visible.{IsAmong}
use Rattle.passes.specs.Grants.{AreApart, AreOfOne, Gave, Giving, HaveLimits, IsCoterie, IsPass, Pass, Voters}
use Rattle.passes.specs.Guarded.{Entry}
use Rattle.passes.specs.Turns.{AreOrdered, AreTaken, IsTurnOf}
use Rattle.generations.specs.Plans.{IsSuccession, Plans}
use Rattle.generations.specs.Turns.{AreInTurn, AreLaterOrOne, AreNear, AreSettled, AsksBy, HasLearned, HasTurn, IsLater, IsOfLaterPlan, IsPassBy, IsSettled, KeepMarks, Marks, plan_of}

-- ---- plans that are near each other

swapped : (count : ℕ) (p q : List ℕ) → Meet count p q → Meet count q p
swapped count p q m = (m.0, m.1, m.3, m.2)

-- two quorums alone
two_meet : (count : ℕ) (p q : List ℕ) → Meet count p p → Meet count p q → Meet count q q → AllMeet count (p ∷ q ∷ [])
two_meet count p q pp pq qq zero zero few also = pp
two_meet count p q pp pq qq zero (suc zero) few also = pq
two_meet count p q pp pq qq (suc zero) zero few also = swapped count p q pq
two_meet count p q pp pq qq (suc zero) (suc zero) few also = qq
two_meet count p q pp pq qq (suc (suc j)) k few also = absurd (omega arith)
two_meet count p q pp pq qq j (suc (suc k)) few also = absurd (omega arith)

-- quorums of plans that are near each other
near_meet : (count : ℕ) (plans : Plans) → IsSuccession count plans → (n m : ℕ) → AreNear n m → (p q : List ℕ) → IsAmong (plans n) p → IsAmong (plans m) q → IsCoterie count (p ∷ q ∷ [])
near_meet count plans succession n m near p q in_p in_q = record {
  few = succession.few;
  meets = two_meet count p q (succession.one n p p in_p in_p) (across near) (succession.one m q q in_q in_q);
}
  where
    across : AreNear n m → Meet count p q
    across (inl same) = succession.one n p q in_p (subst (λ (k : ℕ). IsAmong (plans k) q) same in_q)
    across (inr next) = succession.next n p q in_p (subst (λ (k : ℕ). IsAmong (plans k) q) next in_q)

first_of : (gave : Giving) (quorums : List (List ℕ)) (p : Pass) → (is : IsPass quorums gave p) → (q : List ℕ) → IsPass (is.quorum ∷ q ∷ []) gave p
first_of gave quorums p is q = record { quorum = is.quorum; among = (0, omega arith, refl); covers = is.covers; given = is.given }

second_of : (gave : Giving) (quorums : List (List ℕ)) (p : Pass) → (is : IsPass quorums gave p) → (q : List ℕ) → IsPass (q ∷ is.quorum ∷ []) gave p
second_of gave quorums p is q = record { quorum = is.quorum; among = (1, omega arith, refl); covers = is.covers; given = is.given }

-- what the laws on one coterie say
abbrev pub PassesAreApart : Type 0
PassesAreApart = (count : ℕ) (quorums : List (List ℕ)) (voters : Voters) (first second : Pass) → IsCoterie count quorums → HaveLimits voters
    → IsPass quorums (Gave voters) first → IsPass quorums (Gave voters) second → AreOfOne first second ⊎ AreApart first.grants second.grants

abbrev pub TurnsGrow : Type 0
TurnsGrow = (count : ℕ) (quorums : List (List ℕ)) (voters : Voters) (first second : Pass) (turn later : ℕ) → IsCoterie count quorums → HaveLimits voters
    → IsPass quorums (Gave voters) first → IsPass quorums (Gave voters) second → IsTurnOf voters first turn → IsTurnOf voters second later → AreOrdered first second turn later

pub near_apart : PassesAreApart → (count : ℕ) (plans : Plans) (n m : ℕ) (voters : Voters) (first second : Pass) → IsSuccession count plans → HaveLimits voters → AreNear n m
    → IsPass (plans n) (Gave voters) first → IsPass (plans m) (Gave voters) second → AreOfOne first second ⊎ AreApart first.grants second.grants
near_apart law count plans n m voters p q succession limits near is_p is_q =
    law count (is_p.quorum ∷ is_q.quorum ∷ []) voters p q (near_meet count plans succession n m near is_p.quorum is_q.quorum is_p.among is_q.among) limits
    (first_of (Gave voters) (plans n) p is_p is_q.quorum) (second_of (Gave voters) (plans m) q is_q is_p.quorum)

near_turns : TurnsGrow → (count : ℕ) (plans : Plans) → IsSuccession count plans → (n m : ℕ) → AreNear n m → (voters : Voters) → HaveLimits voters → (p q : Pass) (turn later : ℕ)
    → IsPass (plans n) (Gave voters) p → IsPass (plans m) (Gave voters) q → IsTurnOf voters p turn → IsTurnOf voters q later → AreOrdered p q turn later
near_turns law count plans succession n m near voters limits p q turn later is_p is_q =
    law count (is_p.quorum ∷ is_q.quorum ∷ []) voters p q turn later (near_meet count plans succession n m near is_p.quorum is_q.quorum is_p.among is_q.among) limits
    (first_of (Gave voters) (plans n) p is_p is_q.quorum) (second_of (Gave voters) (plans m) q is_q is_p.quorum)

-- ---- plans that are further apart

-- a quorum of this plan whose voters have marks at or above the turn
record Reaches (plans : Plans) (mark : Marks) (turn n : ℕ) : Type 0 where
  quorum : List ℕ
  among : IsAmong (plans n) quorum
  least : (v : ℕ) → has quorum v ≡ true → turn ≤ mark n v

-- who settles the next plan has a floor at or above the ceilings of a quorum of this one
settle : (plans : Plans) (floor ceiling : Marks) (turn n : ℕ) → IsSettled plans floor ceiling n → Reaches plans ceiling turn n → Reaches plans floor turn (n + 1)
settle plans floor ceiling turn n is r = record {
  quorum = is.quorum;
  among = is.among;
  least = λ u in_quorum.
      let at = is.learned u in_quorum r.quorum r.among in
      let low = r.least at.0 at.1 in
      let high = at.2 in
      omega arith;
}

-- whoever learned the ceilings of a quorum learned one of each quorum
pub learned_by_quorum : (count : ℕ) (plans : Plans) (floor ceiling : Marks) (n : ℕ) (quorum : List ℕ) → IsSuccession count plans → IsAmong (plans (n + 1)) quorum
    → ((u : ℕ) → has quorum u ≡ true → HasLearned plans floor ceiling n u) → IsSettled plans floor ceiling n
learned_by_quorum count plans floor ceiling n quorum succession among all = record {
  quorum = quorum;
  among = among;
  learned = λ u in_quorum q in_q.
      let of = all u in_quorum in
      let m = succession.one n q of.quorum in_q of.among in
      (m.0, m.2, of.most m.0 m.3);
}

raised : (by : AsksBy) (voters : Voters) (floor ceiling : Marks) → KeepMarks by voters floor ceiling → (plans : Plans) (turn n : ℕ) → Reaches plans floor turn n → Reaches plans ceiling turn n
raised by voters floor ceiling keep plans turn n r = record {
  quorum = r.quorum;
  among = r.among;
  least = λ v in_quorum. (let low = r.least v in_quorum in let rises = keep.rises n v in omega arith);
}

-- the turn of a pass is below the ceilings of its quorum
begins : (by : AsksBy) (voters : Voters) (floor ceiling : Marks) → KeepMarks by voters floor ceiling → (plans : Plans) (p : Pass) (turn : ℕ) → IsPassBy plans by voters p → IsTurnOf voters p turn
    → Reaches plans ceiling turn (plan_of by p)
begins by voters floor ceiling keep plans p turn is has_turn = record {
  quorum = is.quorum;
  among = is.among;
  least = λ v in_quorum.
      let some = is.covers v in_quorum in
      keep.below (plan_of by p) v p.client p.stamp (slice_index p.grants v) turn (is.given v some) refl (has_turn.skipped v some);
}

-- and so below the ceilings of a quorum of each later plan
reaches : (by : AsksBy) (voters : Voters) (floor ceiling : Marks) → KeepMarks by voters floor ceiling → (plans : Plans) (last : ℕ) → AreSettled plans floor ceiling last → (first turn : ℕ) → Reaches plans ceiling turn first
    → (more n : ℕ) → first + more ≡ n → n + 1 ≤ last → Reaches plans ceiling turn n
reaches by voters floor ceiling keep plans last settled first turn from zero n e few = subst (λ (k : ℕ). Reaches plans ceiling turn k) (let same : first ≡ n = omega arith in same) from
reaches by voters floor ceiling keep plans last settled first turn from (suc more) n e few =
    let before = reaches by voters floor ceiling keep plans last settled first turn from more (first + more) refl (omega arith) in
    let next = settle plans floor ceiling turn (first + more) (settled (first + more) (omega arith)) before in
    subst (λ (k : ℕ). Reaches plans ceiling turn k) (let same : first + more + 1 ≡ n = omega arith in same) (raised by voters floor ceiling keep plans turn (first + more + 1) next)

far_turns : (count : ℕ) (plans : Plans) → IsSuccession count plans → (by : AsksBy) (voters : Voters) (floor ceiling : Marks) → KeepMarks by voters floor ceiling → (last : ℕ) → AreSettled plans floor ceiling last
    → (p q : Pass) (turn later : ℕ) → IsPassBy plans by voters p → IsPassBy plans by voters q → IsTurnOf voters p turn → IsTurnOf voters q later
    → plan_of by q ≤ last → (n : ℕ) → plan_of by q ≡ n + 2 → plan_of by p ≤ n → turn < later
far_turns count plans succession by voters floor ceiling keep last settled p q turn later is_p is_q first second few n at far =
    let old = reaches by voters floor ceiling keep plans last settled (plan_of by p) turn (begins by voters floor ceiling keep plans p turn is_p first) (n - plan_of by p) n (omega arith) (omega arith) in
    let new = settle plans floor ceiling turn n (settled n (omega arith)) old in
    let e : plan_of by q ≡ n + 1 + 1 = omega arith in
    let m = succession.next (n + 1) new.quorum is_q.quorum new.among (subst (λ (k : ℕ). IsAmong (plans k) is_q.quorum) e is_q.among) in
    let some = is_q.covers m.0 m.3 in
    let above = keep.above (n + 1) m.0 q.client q.stamp (slice_index q.grants m.0) (is_q.given m.0 some) e in
    let low = new.least m.0 m.2 in
    let most = second.most m.0 in
    omega arith

-- ---- any two passes

pub in_turn : TurnsGrow → (count : ℕ) (plans : Plans) (by : AsksBy) (voters : Voters) (floor ceiling : Marks) (last : ℕ) (e f : Entry)
    → IsSuccession count plans → HaveLimits voters → KeepMarks by voters floor ceiling → AreSettled plans floor ceiling last
    → HasTurn plans by voters last e → HasTurn plans by voters last f → AreInTurn by e.pass f.pass e.turn f.turn
in_turn law count plans by voters floor ceiling last e f succession limits keep settled is_e is_f =
    elim (cases_lt (plan_of by e.pass) (plan_of by f.pass)) [
      | inl less ↦ elim (cases_lt (plan_of by e.pass + 1) (plan_of by f.pass)) [
        | inl far ↦ inr (inl (inr (far_by e f is_e is_f (omega arith))))
        | inr least ↦ near_by (inr (omega arith))
      ]
      | inr most ↦ elim (cases_lt (plan_of by f.pass + 1) (plan_of by e.pass)) [
        | inl far ↦ inr (inr (inr (far_by f e is_f is_e (omega arith))))
        | inr least ↦ back (near_or (omega arith) (omega arith))
      ]
    ]
  where
    far_by : (a b : Entry) → HasTurn plans by voters last a → HasTurn plans by voters last b → plan_of by a.pass + 2 ≤ plan_of by b.pass → IsOfLaterPlan by a.pass b.pass a.turn b.turn
    far_by a b is_a is_b far = record {
      plan = far;
      rises = far_turns count plans succession by voters floor ceiling keep last settled a.pass b.pass a.turn b.turn is_a.pass is_b.pass is_a.turn is_b.turn
          is_b.few (plan_of by b.pass - 2) (omega arith) (omega arith);
    }

    near_by : AreNear (plan_of by e.pass) (plan_of by f.pass) → AreInTurn by e.pass f.pass e.turn f.turn
    near_by near = elim (near_turns law count plans succession (plan_of by e.pass) (plan_of by f.pass) near voters limits e.pass f.pass e.turn f.turn is_e.pass is_f.pass is_e.turn is_f.turn) [
      | inl one ↦ inl one
      | inr (inl newer) ↦ inr (inl (inl newer))
      | inr (inr older) ↦ inr (inr (inl older))
    ]

    near_or : plan_of by f.pass ≤ plan_of by e.pass → plan_of by e.pass ≤ plan_of by f.pass + 1 → AreNear (plan_of by f.pass) (plan_of by e.pass)
    near_or most least = elim (cases_lt (plan_of by f.pass) (plan_of by e.pass)) [
      | inl less ↦ inr (omega arith)
      | inr same ↦ inl (omega arith)
    ]

    back : AreNear (plan_of by f.pass) (plan_of by e.pass) → AreInTurn by e.pass f.pass e.turn f.turn
    back near = elim (near_turns law count plans succession (plan_of by f.pass) (plan_of by e.pass) near voters limits f.pass e.pass f.turn e.turn is_f.pass is_e.pass is_f.turn is_e.turn) [
      | inl one ↦ inl (sym one.0, sym one.1)
      | inr (inl newer) ↦ inr (inr (inl newer))
      | inr (inr older) ↦ inr (inl (inl older))
    ]

-- ---- a store that compares turns

-- any two entries of this kind are in turn
abbrev pub AnyInTurn : AsksBy → (Entry → Type 0) → Type 0
AnyInTurn by P = (e f : Entry) → P e → P f → AreInTurn by e.pass f.pass e.turn f.turn

not_older : (by : AsksBy) (e f : Entry) → e.turn ≤ f.turn → AreInTurn by e.pass f.pass e.turn f.turn → AreOfOne e.pass f.pass ⊎ IsLater by e.pass f.pass e.turn f.turn
not_older by e f least (inl one) = inl one
not_older by e f least (inr (inl later)) = inr later
not_older by e f least (inr (inr (inl newer))) = absurd (let rises = newer.rises in omega arith)
not_older by e f least (inr (inr (inr newer))) = absurd (let rises = newer.rises in omega arith)

later_ones : (by : AsksBy) (P : Entry → Type 0) → AnyInTurn by P → (e : Entry) (es : List Entry) → P e → AllByRecursion P es → AllByRecursion (λ f. e.turn ≤ f.turn) es
    → AllByRecursion (λ f. AreOfOne e.pass f.pass ⊎ IsLater by e.pass f.pass e.turn f.turn) es
later_ones by P any e [] is all least = tt
later_ones by P any e (f ∷ fs) is all least = (not_older by e f least.0 (any e f is all.0), later_ones by P any e fs is all.1 least.1)

pub taken_in_turn : (by : AsksBy) (P : Entry → Type 0) → AnyInTurn by P → (es : List Entry) → AllByRecursion P es → AreTaken es → AreLaterOrOne by es
taken_in_turn by P any [] all taken = tt
taken_in_turn by P any (e ∷ es) all taken = (later_ones by P any e es all.0 all.1 taken.0, taken_in_turn by P any es all.1 taken.1)
