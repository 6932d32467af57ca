-- that events of `sessions` lead to the same here
use Rattle.std.proofs.Common.{◌≡◌, ℕ, ◌<◌, Bool, true, false, List, [], ◌∷◌, length, map, refl, sym, ap, subst, ◌∙◌, inl, inr, arith}
use Rattle.std.specs.Prelude.{if◌then◌else◌, slice_set}
use Rattle.std.specs.List.{AllByRecursion}
use Rattle.std.proofs.lemmas.List.{get_or-set_other, get_or-set_same, length-set}
use Rattle.std.proofs.lemmas.Bool.{false≢true}
use Rattle.sessions.specs.Rows.{IsOneOf, Row, Use, claimed, closed, dropped, reserved, taken_back}
use Rattle.sessions.specs.Tables as tables
use Rattle.sessions.specs.Tables.{no_row, row_at}
use Rattle.lost_rows.specs.SameEvents.{IsOfFirst, same_answer, same_event}
use Rattle.lost_rows.specs.Voters.{Answer, IsTold, MayAllCome, MayAsk, MayCome, Recoveries, Voter, World, all_happen, answer_of, answered, changed, happens, restarted, set, start, stored, with_voter}
use Rattle.lost_rows.proofs.Families.{set_all}

-- ---- lists

one_mapped : (a : Answer) (xs : List Answer) → IsOneOf a xs → IsOneOf (same_answer a) (map same_answer xs)
one_mapped a [] among = absurd among
one_mapped a (x ∷ xs) among = elim among [
  | inl e ↦ inl (ap same_answer e)
  | inr rest ↦ inr (one_mapped a xs rest)
]

all_by : (P : ℕ → Type 0) (xs : List ℕ) → ((x : ℕ) → IsOneOf x xs → P x) → AllByRecursion P xs
all_by P [] each = tt
all_by P (x ∷ xs) each = (each x (inl refl), all_by P xs (λ y among. each y (inr among)))

-- ---- rows

-- these are the rows that the voters have, live or saved
pub record AreRows (many : ℕ) (voters : ℕ → Voter) (row_of : Voter → Row) (rows : List Row) : Type 0 where
  pub count : length rows ≡ many
  pub is : (v : ℕ) → v < many → row_at rows v ≡ row_of (voters v)

rows_set : (many : ℕ) (voters : ℕ → Voter) (row_of : Voter → Row) (rows : List Row) (v : ℕ) (x : Voter) (row : Row) → v < many → row ≡ row_of x
    → AreRows many voters row_of rows → AreRows many (set voters v x) row_of (slice_set rows v row)
rows_set many voters row_of rows v x row below e are = record {
  count = length-set rows v row ∙ are.count;
  is = set_all (λ u y. u < many → row_at (slice_set rows v row) u ≡ row_of y) voters v x
      (λ few. get_or-set_same rows v row no_row (let count = are.count in omega arith) ∙ e)
      (λ u other few. get_or-set_other rows v u row no_row (λ same. other (sym same)) ∙ are.is u few);
}

rows_same : (many : ℕ) (voters : ℕ → Voter) (row_of : Voter → Row) (rows : List Row) (v : ℕ) (x : Voter) → row_of x ≡ row_of (voters v)
    → AreRows many voters row_of rows → AreRows many (set voters v x) row_of rows
rows_same many voters row_of rows v x e are = record {
  count = are.count;
  is = set_all (λ u y. u < many → row_at rows u ≡ row_of y) voters v x (λ few. are.is v few ∙ sym e) (λ u other few. are.is u few);
}

-- ---- worlds

-- no voter has lost its state, and all is as in this world of `sessions`
pub record AreSame (many : ℕ) (w : World) (t : tables.World) : Type 0 where
  pub has_state : (v : ℕ) → (w.voters v).is_lost ≡ false
  pub live : AreRows many w.voters (λ (x : Voter). x.live) t.live
  pub saved : AreRows many w.voters (λ (x : Voter). x.saved) t.saved
  pub answers : t.answers ≡ map same_answer w.answers
  pub uses : t.uses ≡ w.uses

abbrev with_row : Voter → Row → Voter
with_row x row = record { live = row; saved = x.saved; run = x.run; knows = x.knows; is_lost = false }

changed_by : (x : Voter) (row : Row) (b : Bool) → b ≡ false → (if b then x else with_row x row) ≡ with_row x row
changed_by x row true e = absurd (false≢true (sym e))
changed_by x row false e = refl

changed_is : (x : Voter) (row : Row) → x.is_lost ≡ false → changed x row ≡ with_row x row
changed_is x row e = changed_by x row x.is_lost e

abbrev with_answer : World → ℕ → Voter → World
with_answer w v x = record { voters = set w.voters v (stored x); answers = answer_of v x ∷ w.answers; replies = w.replies; uses = w.uses }

answered_by : (w : World) (v : ℕ) (x : Voter) (b : Bool) → b ≡ false → (if b then w else with_answer w v x) ≡ with_answer w v x
answered_by w v x true e = absurd (false≢true (sym e))
answered_by w v x false e = refl

answered_is : (w : World) (v : ℕ) (x : Voter) → x.is_lost ≡ false → answered w v x ≡ with_answer w v x
answered_is w v x e = answered_by w v x x.is_lost e

-- a voter's row goes on by this
row_on : (many : ℕ) (w : World) (t : tables.World) (v : ℕ) (f : Row → Row) → v < many → AreSame many w t
    → AreSame many (with_voter w v (changed (w.voters v) (f (w.voters v).live)))
    (record { live = slice_set t.live v (f (row_at t.live v)); saved = t.saved; answers = t.answers; uses = t.uses })
row_on many w t v f below are =
    let row = f (w.voters v).live in
    let x = changed (w.voters v) row in
    let is : x ≡ with_row (w.voters v) row = changed_is (w.voters v) row (are.has_state v) in
    record {
      has_state = set_all (λ u y. y.is_lost ≡ false) w.voters v x (ap (λ (y : Voter). y.is_lost) is) (λ u other. are.has_state u);
      live = rows_set many w.voters (λ (y : Voter). y.live) t.live v x (f (row_at t.live v)) below
          (ap f (are.live.is v below) ∙ sym (ap (λ (y : Voter). y.live) is)) are.live;
      saved = rows_same many w.voters (λ (y : Voter). y.saved) t.saved v x (ap (λ (y : Voter). y.saved) is) are.saved;
      answers = are.answers;
      uses = are.uses;
    }

answer_on : (many : ℕ) (w : World) (t : tables.World) (v : ℕ) → v < many → AreSame many w t
    → AreSame many (with_answer w v (w.voters v)) (tables.happens t (tables.Answers v))
answer_on many w t v below are =
    let x = stored (w.voters v) in
    let row : row_at t.live v ≡ (w.voters v).live = are.live.is v below in
    record {
      has_state = set_all (λ u y. y.is_lost ≡ false) w.voters v x (are.has_state v) (λ u other. are.has_state u);
      live = rows_same many w.voters (λ (y : Voter). y.live) t.live v x refl are.live;
      saved = rows_set many w.voters (λ (y : Voter). y.saved) t.saved v x (row_at t.live v) below row are.saved;
      answers = ap (λ (r : Row). record { voter = v; row = r } ∷ t.answers) row
          ∙ ap (λ (rest : List tables.Answer). same_answer (answer_of v (w.voters v)) ∷ rest) are.answers;
      uses = are.uses;
    }

crash_on : (many : ℕ) (w : World) (t : tables.World) (v : ℕ) → v < many → AreSame many w t
    → AreSame many (with_voter w v (restarted (w.voters v))) (tables.happens t (tables.Crashes v))
crash_on many w t v below are =
    let x = restarted (w.voters v) in
    record {
      has_state = set_all (λ u y. y.is_lost ≡ false) w.voters v x (are.has_state v) (λ u other. are.has_state u);
      live = rows_set many w.voters (λ (y : Voter). y.live) t.live v x (row_at t.saved v) below (are.saved.is v below) are.live;
      saved = rows_same many w.voters (λ (y : Voter). y.saved) t.saved v x refl are.saved;
      answers = are.answers;
      uses = are.uses;
    }

same_after : (many : ℕ) (w : World) (t : tables.World) (e : tables.Event) → IsOfFirst many e → AreSame many w t
    → AreSame many (happens w (same_event e)) (tables.happens t e)
same_after many w t (tables.Claims v session epoch) below are = row_on many w t v (λ r. claimed r session epoch) below are
same_after many w t (tables.Reserves v session epoch stamp) below are = row_on many w t v (λ r. reserved r session epoch stamp) below are
same_after many w t (tables.Closes v session epoch) below are = row_on many w t v (λ r. closed r session epoch) below are
same_after many w t (tables.TakesBack v session epoch) below are = row_on many w t v (λ r. taken_back r session epoch) below are
same_after many w t (tables.Drops v epoch stamp) below are = row_on many w t v (λ r. dropped r epoch stamp) below are
same_after many w t (tables.Answers v) below are =
    subst (λ (o : World). AreSame many o (tables.happens t (tables.Answers v))) (sym (answered_is w v (w.voters v) (are.has_state v)))
    (answer_on many w t v below are)
same_after many w t (tables.Crashes v) below are = crash_on many w t v below are
same_after many w t (tables.Asks session epoch stamp quorum) below are = record {
  has_state = are.has_state;
  live = are.live;
  saved = are.saved;
  answers = are.answers;
  uses = ap (λ (uses : List Use). record { session = session; epoch = epoch; stamp = stamp } ∷ uses) are.uses;
}

same_start : (rows : List Row) → AreSame (length rows) (start (row_at rows)) (tables.start rows)
same_start rows = record {
  has_state = λ v. refl;
  live = record { count = refl; is = λ v below. refl };
  saved = record { count = refl; is = λ v below. refl };
  answers = refl;
  uses = refl;
}

same_all : (many : ℕ) (w : World) (t : tables.World) (events : List tables.Event) → AllByRecursion (IsOfFirst many) events → AreSame many w t
    → AreSame many (all_happen w (map same_event events)) (tables.all_happen t events)
same_all many w t [] all are = are
same_all many w t (e ∷ es) all are = same_all many (happens w (same_event e)) (tables.happens t e) es all.1 (same_after many w t e all.0 are)

-- ---- which events may come

told_too : (w : World) (t : tables.World) (session epoch stamp v : ℕ) (a : Answer) → t.answers ≡ map same_answer w.answers
    → IsTold w.answers session epoch stamp v a → tables.Told t.answers session epoch stamp v
told_too w t session epoch stamp v a e told = record {
  knows = record {
    answer = same_answer a;
    among = subst (λ (answers : List tables.Answer). IsOneOf (same_answer a) answers) (sym e) (one_mapped a w.answers told.among);
    of_voter = told.of_voter;
    of_session = told.of_session;
    of_epoch = told.of_epoch;
  };
  above = told.above;
  few = told.few;
}

may_too : (quorums : List (List ℕ)) (recoveries : Recoveries) (many : ℕ) (w : World) (t : tables.World) (e : tables.Event) → AreSame many w t
    → MayCome quorums recoveries w (same_event e) → tables.MayCome quorums t e
may_too quorums recoveries many w t (tables.Claims v session epoch) are may = tt
may_too quorums recoveries many w t (tables.Reserves v session epoch stamp) are may = tt
may_too quorums recoveries many w t (tables.Closes v session epoch) are may = tt
may_too quorums recoveries many w t (tables.TakesBack v session epoch) are may = tt
may_too quorums recoveries many w t (tables.Drops v epoch stamp) are may = tt
may_too quorums recoveries many w t (tables.Answers v) are may = tt
may_too quorums recoveries many w t (tables.Crashes v) are may = tt
may_too quorums recoveries many w t (tables.Asks session epoch stamp quorum) are may =
    let asks : MayAsk w.answers session epoch stamp quorum = may.1 in (
      may.0,
      all_by (tables.Told t.answers session epoch stamp) quorum
          (λ v in_v. told_too w t session epoch stamp v (asks.answer v) are.answers (asks.told v in_v)),
    )

may_all : (quorums : List (List ℕ)) (recoveries : Recoveries) (many : ℕ) (w : World) (t : tables.World) (events : List tables.Event)
    → AllByRecursion (IsOfFirst many) events → AreSame many w t → MayAllCome quorums recoveries w (map same_event events)
    → tables.MayAllCome quorums t events
may_all quorums recoveries many w t [] all are may = tt
may_all quorums recoveries many w t (e ∷ es) all are may = (
  may_too quorums recoveries many w t e are may.0,
  may_all quorums recoveries many (happens w (same_event e)) (tables.happens t e) es all.1 (same_after many w t e all.0 are) may.1,
)

-- ---- the law

pub same_may : (rows : List Row) (quorums : List (List ℕ)) (recoveries : Recoveries) (events : List tables.Event)
    → AllByRecursion (IsOfFirst (length rows)) events → MayAllCome quorums recoveries (start (row_at rows)) (map same_event events)
    → tables.MayAllCome quorums (tables.start rows) events
same_may rows quorums recoveries events all may =
    may_all quorums recoveries (length rows) (start (row_at rows)) (tables.start rows) events all (same_start rows) may

pub same_answers : (rows : List Row) (events : List tables.Event) → AllByRecursion (IsOfFirst (length rows)) events
    → (tables.all_happen (tables.start rows) events).answers ≡ map same_answer (all_happen (start (row_at rows)) (map same_event events)).answers
same_answers rows events all = (same_all (length rows) (start (row_at rows)) (tables.start rows) events all (same_start rows)).answers

pub same_uses : (rows : List Row) (events : List tables.Event) → AllByRecursion (IsOfFirst (length rows)) events
    → (tables.all_happen (tables.start rows) events).uses ≡ (all_happen (start (row_at rows)) (map same_event events)).uses
same_uses rows events all = (same_all (length rows) (start (row_at rows)) (tables.start rows) events all (same_start rows)).uses
