-- at which voters a stamp is a session's own, and that those told it so
use Rattle.std.proofs.Common.{w64, ◌^◌, ◌<◌, ◌≤◌, ◌≡◌, ℕ, ◌+◌, if◌then◌else◌, Bool, true, false, ◌&&◌, List, [], ◌∷◌, Option, None, Some, refl, replicate, sym, subst, ap, ap₂, ◌∙◌, inl, inr, arith}
use Rattle.std.specs.Prelude.{bit_and, ◌==◌, nat_lt, slice_set}
use Rattle.std.specs.Int.{bit_not}
use Rattle.std.specs.List.{AllByRecursion, list_all, slice_get}
use Rattle.std.proofs.lemmas.Bool.{cases_eq, false≢true}
use Rattle.std.proofs.lemmas.Bool.Decides.{nat_tests}
use Rattle.std.proofs.lemmas.List.{get_or-replicate, get_or-set_other, get_or-set_same, length-replicate, length-set}
use Rattle.std.proofs.lemmas.Option.{get_or_from_slice_get, slice_get-get_or, slice_get_within}
use Rattle.numbers.specs.Sets.{Ascends, has, members_of, set_where, within}
use Rattle.numbers.proofs.SetLemmas.{has-set_where}
use Rattle.quorum_set.proofs.MaskLemmas.{IsSet-members_of, within-members_of}
use Rattle.sessions.specs.Rows.{IsOneOf, Row}
use Rattle.sessions.specs.Tables.{no_row}
use Rattle.lost_rows.specs.Voters.{Answer, Answers, Asks, Claims, Closes, Crashes, Drops, Event, IsMadeAgain, IsTold, Loses, MayAllCome, MayAsk, MayCome, Recoveries, Replies, Reserves, TakesBack, World, happens, start}
use Rattle.own_stamps.specs.Asking.{IsFromAnswers, IsKnown, KeepsWhatItHeard, MayAllComeByStamps, MayComeByStamps}
use Rattle.own_stamps.specs.Stamps.{IsOf, all_told, forgotten, is_own, is_own_there, is_owner, may_ask, noted, owners, renewed, told, untold}
use Rattle.own_stamps.specs.declared.stamps.OwnStamps.{OwnStamps}
use Rattle.own_stamps.proofs.StampLemmas.{were_told}

-- ---- the quorum as a word

all_pass : (p : ℕ → Bool) (low : ℕ) (s : List ℕ) → Ascends low 64 s → list_all (has (set_where p)) s ≡ list_all p s
all_pass p low [] is = refl
all_pass p low (v ∷ s) is = ap₂ (λ a b. a && b) (has-set_where p v is.1) (all_pass p (v + 1) s is.2)

pub may_ask_by_word : (kept : List OwnStamps) (quorum stamp : ℕ) (q o : List ℕ) → q ≡ members_of quorum → o ≡ owners kept stamp → within q o ≡ may_ask kept quorum stamp
may_ask_by_word kept quorum stamp q o q_is o_is =
    (λ i. within (q_is i) (o_is i)) ∙ all_pass (is_owner kept stamp) 0 (members_of quorum) (IsSet-members_of quorum)

pub may_ask_by_bits : (kept : List OwnStamps) (quorum stamp voters : ℕ) → quorum < 2 ^ 64 → voters < 2 ^ 64 → members_of voters ≡ owners kept stamp
    → (bit_and quorum (bit_not w64 voters) == 0) ≡ may_ask kept quorum stamp
may_ask_by_bits kept quorum stamp voters fits few are =
    within-members_of quorum voters fits few ∙ may_ask_by_word kept quorum stamp (members_of quorum) (members_of voters) refl are

-- ---- who may ask was told

-- of a voter that told the session that the stamp is its own: an answer that says so, from the run that is kept
record IsFound (answers : List Answer) (session epoch stamp : ℕ) (kept : List OwnStamps) (voter : ℕ) : Type 0 where
  s : OwnStamps
  there : slice_get kept voter ≡ Some s
  answer : Answer
  told : IsTold answers session epoch stamp voter answer
  run : answer.run ≡ s.run
  known : IsKnown kept answer

-- what holds of all holds of one
one_of : {A : Type 0} (P : A → Type 0) (xs : List A) (x : A) → AllByRecursion P xs → IsOneOf x xs → P x
one_of P [] x all among = absurd among
one_of P (y ∷ ys) x all among = elim among [
  | inl e ↦ subst P (sym e) all.0
  | inr rest ↦ one_of P ys x all.1 rest
]

found_by : (answers : List Answer) (session epoch stamp : ℕ) (kept : List OwnStamps) (voter : ℕ) (s : Option OwnStamps) → slice_get kept voter ≡ s
    → ((t : OwnStamps) → s ≡ Some t → IsFromAnswers answers session epoch kept voter t) → is_own_there s stamp ≡ true
    → IsFound answers session epoch stamp kept voter
found_by answers session epoch stamp kept voter None there keeps own = absurd (false≢true own)
found_by answers session epoch stamp kept voter (Some s) there keeps own =
    let from = keeps s refl in
    let gives = were_told answers from.heard session epoch stamp voter s.run from.of (subst (λ (t : OwnStamps). is_own t stamp ≡ true) from.is own) in
    record {
      s = s;
      there = there;
      answer = gives.0;
      told = gives.2;
      run = (one_of (IsOf answers session epoch voter s.run) from.heard gives.0 from.of gives.1).4;
      known = one_of (IsKnown kept) from.heard gives.0 from.known gives.1;
    }

found : (answers : List Answer) (session epoch stamp : ℕ) (kept : List OwnStamps) (voter : ℕ) → KeepsWhatItHeard answers session epoch kept
    → is_owner kept stamp voter ≡ true → IsFound answers session epoch stamp kept voter
found answers session epoch stamp kept voter keeps own =
    found_by answers session epoch stamp kept voter (slice_get kept voter) refl (keeps voter) own

both : (a b : Bool) → (a && b) ≡ true → (a ≡ true) × (b ≡ true)
both true b is = (refl, is)
both false b is = absurd (false≢true is)

all_own : (p : ℕ → Bool) (s : List ℕ) → list_all p s ≡ true → (v : ℕ) → IsOneOf v s → p v ≡ true
all_own p [] own v among = absurd among
all_own p (u ∷ s) own v among =
    let parts = both (p u) (list_all p s) own in
    elim among [
      | inl e ↦ subst (λ (w : ℕ). p w ≡ true) (sym e) parts.0
      | inr rest ↦ all_own p s parts.1 v rest
    ]

-- of a voter at which the stamp is not the session's own no answer is asked for
no_answer : Answer
no_answer = record { voter = 0; row = no_row; run = 0; knows = λ u. 0 }

answer_by : (answers : List Answer) (session epoch stamp : ℕ) (kept : List OwnStamps) (keeps : KeepsWhatItHeard answers session epoch kept) (v : ℕ) (b : Bool)
    → is_owner kept stamp v ≡ b → Answer
answer_by answers session epoch stamp kept keeps v true own = (found answers session epoch stamp kept v keeps own).answer
answer_by answers session epoch stamp kept keeps v false own = no_answer

-- the answer that is taken is the one that is found
abbrev IsThat : List Answer → ℕ → ℕ → ℕ → List OwnStamps → ℕ → Answer → Type 0
IsThat answers session epoch stamp kept v a = (f : IsFound answers session epoch stamp kept v) × (f.answer ≡ a)

that : (answers : List Answer) (session epoch stamp : ℕ) (kept : List OwnStamps) (keeps : KeepsWhatItHeard answers session epoch kept) (v : ℕ) (b : Bool)
    (own : is_owner kept stamp v ≡ b) → b ≡ true → IsThat answers session epoch stamp kept v (answer_by answers session epoch stamp kept keeps v b own)
unfolding answer_by
that answers session epoch stamp kept keeps v true own is = (found answers session epoch stamp kept v keeps own, refl)
that answers session epoch stamp kept keeps v false own is = absurd (false≢true is)

pub quorum_told : (answers : List Answer) (kept : List OwnStamps) (session epoch quorum stamp : ℕ) → KeepsWhatItHeard answers session epoch kept
    → may_ask kept quorum stamp ≡ true → MayAsk answers session epoch stamp (members_of quorum)
quorum_told answers kept session epoch quorum stamp keeps may =
    let answer : ℕ → Answer = λ v. answer_by answers session epoch stamp kept keeps v (is_owner kept stamp v) refl in
    let is : (v : ℕ) → IsOneOf v (members_of quorum) → IsThat answers session epoch stamp kept v (answer v) = λ v among. that answers session epoch stamp kept keeps v (is_owner kept stamp v) refl (all_own (is_owner kept stamp) (members_of quorum) may v among) in
    record {
      answer = answer;
      told = λ v among. subst (IsTold answers session epoch stamp v) (is v among).1 (is v among).0.told;
      newest = λ u v in_u in_v.
          let one = is u in_u in
          let other = is v in_v in
          let few : one.0.answer.knows v ≤ other.0.s.run = one.0.known v other.0.s other.0.there in
          subst (λ (a : Answer). a.knows v ≤ (answer v).run) one.1
          (subst (λ (a : Answer). one.0.answer.knows v ≤ a.run) other.1 (subst (λ (n : ℕ). one.0.answer.knows v ≤ n) (sym other.0.run) few));
    }

-- ---- what is kept is what was heard

got_same : (xs : List OwnStamps) (i : ℕ) (y x : OwnStamps) → slice_get (slice_set xs i y) i ≡ Some x → x ≡ y
got_same xs i y x is =
    let within = slice_get_within (slice_set xs i y) i x is in
    let long = length-set xs i y in
    sym (get_or_from_slice_get (slice_set xs i y) i x y is) ∙ get_or-set_same xs i y y (omega arith)

got_other : (xs : List OwnStamps) (i j : ℕ) (y x : OwnStamps) → (j ≡ i → ⊥) → slice_get (slice_set xs i y) j ≡ Some x → slice_get xs j ≡ Some x
got_other xs i j y x off is =
    let within = slice_get_within (slice_set xs i y) j x is in
    let long = length-set xs i y in
    slice_get-get_or xs j x (omega arith)
    ∙ ap (λ (z : OwnStamps). Some z) (sym (get_or-set_other xs i j y x off) ∙ get_or_from_slice_get (slice_set xs i y) j x x is)

pub keeps_new : (answers : List Answer) (session epoch n : ℕ) → KeepsWhatItHeard answers session epoch (replicate n (untold 0))
keeps_new answers session epoch n voter s is =
    let within = slice_get_within (replicate n (untold 0)) voter s is in
    let long = length-replicate n (untold 0) in
    let same : s ≡ untold 0 = sym (get_or_from_slice_get (replicate n (untold 0)) voter s (untold 0) is) ∙ get_or-replicate n voter (untold 0) (untold 0) (omega arith) in
    record { heard = []; of = tt; known = tt; is = same ∙ ap (λ (t : OwnStamps). untold t.run) (sym same) }

-- no run falls where one member is another one, with a run that is no earlier
no_earlier : (kept : List OwnStamps) (voter : ℕ) (s t : OwnStamps) → slice_get kept voter ≡ Some s → s.run ≤ t.run → (a : Answer) → IsKnown kept a
    → IsKnown (slice_set kept voter t) a
no_earlier kept voter s t there more a known v u is = elim (cases_eq v voter) [
  | inl at ↦
      let same : u ≡ t = got_same kept voter t u (subst (λ (i : ℕ). slice_get (slice_set kept voter t) i ≡ Some u) at is) in
      let before = known voter s there in
      let now : a.knows voter ≤ t.run = omega arith in
      subst (λ (i : ℕ). a.knows i ≤ u.run) (sym at) (subst (λ (x : OwnStamps). a.knows voter ≤ x.run) (sym same) now)
  | inr off ↦ known v u (got_other kept voter v t u off is)
]

each : {A : Type 0} (P Q : A → Type 0) → ((x : A) → P x → Q x) → (xs : List A) → AllByRecursion P xs → AllByRecursion Q xs
each P Q f [] h = tt
each P Q f (x ∷ xs) h = (f x h.0, each P Q f xs h.1)

-- one member is another one, of no earlier run, which stands for what was heard as well
keeps_one : (answers : List Answer) (kept : List OwnStamps) (session epoch voter : ℕ) (s t : OwnStamps) → KeepsWhatItHeard answers session epoch kept
    → slice_get kept voter ≡ Some s → s.run ≤ t.run → IsFromAnswers answers session epoch kept voter t → KeepsWhatItHeard answers session epoch (slice_set kept voter t)
keeps_one answers kept session epoch voter s t keeps there more from v u is =
    let later : (heard : List Answer) → AllByRecursion (IsKnown kept) heard → AllByRecursion (IsKnown (slice_set kept voter t)) heard =
    each (IsKnown kept) (IsKnown (slice_set kept voter t)) (no_earlier kept voter s t there more) in
    elim (cases_eq v voter) [
      | inl at ↦
          let same : u ≡ t = got_same kept voter t u (subst (λ (i : ℕ). slice_get (slice_set kept voter t) i ≡ Some u) at is) in
          subst (λ (i : ℕ). IsFromAnswers answers session epoch (slice_set kept voter t) i u) (sym at)
          (subst (λ (x : OwnStamps). IsFromAnswers answers session epoch (slice_set kept voter t) voter x) (sym same)
          (record { heard = from.heard; of = from.of; known = later from.heard from.known; is = from.is }))
      | inr off ↦
          let old = keeps v u (got_other kept voter v t u off is) in
          record { heard = old.heard; of = old.of; known = later old.heard old.known; is = old.is }
    ]

-- what nothing was told of, whichever the run is
from_none : (answers : List Answer) (session epoch : ℕ) (kept : List OwnStamps) (voter run : ℕ) → IsFromAnswers answers session epoch kept voter (untold run)
from_none answers session epoch kept voter run = record { heard = []; of = tt; known = tt; is = refl }

from_renewed : (answers : List Answer) (session epoch : ℕ) (kept : List OwnStamps) (voter : ℕ) (s : OwnStamps) (run : ℕ) (b : Bool)
    → IsFromAnswers answers session epoch kept voter s → IsFromAnswers answers session epoch kept voter (if b then untold run else s)
from_renewed answers session epoch kept voter s run true from = from_none answers session epoch kept voter run
from_renewed answers session epoch kept voter s run false from = from

renewed_run : (s : OwnStamps) (run : ℕ) → (s.run ≤ (renewed s run).run) × (run ≤ (renewed s run).run)
renewed_run s run =
    elim (nat_lt s.run run) as (λ b. nat_lt s.run run ≡ b → (s.run ≤ (if b then untold run else s).run) × (run ≤ (if b then untold run else s).run)) [
      | true ↦ λ e. (let less : s.run < run = grind (arith, nat_tests) in omega arith, omega arith)
      | false ↦ λ e. (omega arith, grind (arith, nat_tests))
    ] refl

pub keeps_renewed : (answers : List Answer) (kept : List OwnStamps) (session epoch voter run : ℕ) (s : OwnStamps) → KeepsWhatItHeard answers session epoch kept
    → slice_get kept voter ≡ Some s → KeepsWhatItHeard answers session epoch (slice_set kept voter (renewed s run))
keeps_renewed answers kept session epoch voter run s keeps there =
    keeps_one answers kept session epoch voter s (renewed s run) keeps there (renewed_run s run).0
    (from_renewed answers session epoch kept voter s run (nat_lt s.run run) (keeps voter s there))

pub keeps_forgotten : (answers : List Answer) (kept : List OwnStamps) (session epoch voter : ℕ) (s : OwnStamps) → KeepsWhatItHeard answers session epoch kept
    → slice_get kept voter ≡ Some s → KeepsWhatItHeard answers session epoch (slice_set kept voter (forgotten s))
keeps_forgotten answers kept session epoch voter s keeps there =
    keeps_one answers kept session epoch voter s (forgotten s) keeps there (omega arith) (from_none answers session epoch kept voter s.run)

-- an answer of the run that is kept is heard
from_noted : (answers : List Answer) (session epoch : ℕ) (kept : List OwnStamps) (voter : ℕ) (t : OwnStamps) (a : Answer)
    → IsFromAnswers answers session epoch kept voter t → IsOf answers session epoch voter t.run a → IsKnown kept a
    → IsFromAnswers answers session epoch kept voter (noted t a.row.base a.row.reserved)
from_noted answers session epoch kept voter t a from of known =
    record { heard = a ∷ from.heard; of = (of, from.of); known = (known, from.known); is = ap (λ (x : OwnStamps). noted x a.row.base a.row.reserved) from.is }

-- the run after a later one is known, or the same one
run_is : (s : OwnStamps) (run : ℕ) → nat_lt run s.run ≡ false → run ≡ (renewed s run).run
run_is s run late =
    elim (nat_lt s.run run) as (λ b. nat_lt s.run run ≡ b → run ≡ (if b then untold run else s).run) [
      | true ↦ λ e. refl
      | false ↦ λ e. grind (arith, nat_tests)
    ] refl

heard_by : (answers : List Answer) (kept : List OwnStamps) (session epoch voter : ℕ) (s : OwnStamps) (a : Answer) → KeepsWhatItHeard answers session epoch kept
    → slice_get kept voter ≡ Some s → IsOf answers session epoch voter a.run a → IsKnown kept a → (b : Bool) → nat_lt a.run s.run ≡ b
    → KeepsWhatItHeard answers session epoch (slice_set kept voter (if b then s else noted (renewed s a.run) a.row.base a.row.reserved))
heard_by answers kept session epoch voter s a keeps there of known true late =
    keeps_one answers kept session epoch voter s s keeps there (omega arith) (keeps voter s there)
heard_by answers kept session epoch voter s a keeps there of known false late =
    let t = renewed s a.run in
    let from = from_renewed answers session epoch kept voter s a.run (nat_lt s.run a.run) (keeps voter s there) in
    keeps_one answers kept session epoch voter s (noted t a.row.base a.row.reserved) keeps there (renewed_run s a.run).0
    (from_noted answers session epoch kept voter t a from (of.0, of.1, of.2, of.3, run_is s a.run late) known)

pub keeps_heard : (answers : List Answer) (kept : List OwnStamps) (session epoch voter : ℕ) (s : OwnStamps) (a : Answer) → KeepsWhatItHeard answers session epoch kept
    → slice_get kept voter ≡ Some s → IsOf answers session epoch voter a.run a → IsKnown kept a
    → KeepsWhatItHeard answers session epoch (slice_set kept voter (told s a.run a.row.base a.row.reserved))
keeps_heard answers kept session epoch voter s a keeps there of known =
    heard_by answers kept session epoch voter s a keeps there of known (nat_lt a.run s.run) refl

of_more : (answers heard : List Answer) (session epoch voter run : ℕ) (a : Answer) → AllByRecursion (IsOf answers session epoch voter run) heard
    → AllByRecursion (IsOf (a ∷ answers) session epoch voter run) heard
of_more answers [] session epoch voter run a of = tt
of_more answers (b ∷ heard) session epoch voter run a of = ((inr of.0.0, of.0.1, of.0.2, of.0.3, of.0.4), of_more answers heard session epoch voter run a of.1)

pub keeps_later : (answers : List Answer) (kept : List OwnStamps) (session epoch : ℕ) (a : Answer) → KeepsWhatItHeard answers session epoch kept
    → KeepsWhatItHeard (a ∷ answers) session epoch kept
keeps_later answers kept session epoch a keeps voter s is =
    let from = keeps voter s is in
    record { heard = from.heard; of = of_more answers from.heard session epoch voter s.run a from.of; known = from.known; is = from.is }

-- ---- no stamp is used twice

may_come : (quorums : List (List ℕ)) (recoveries : Recoveries) (w : World) (e : Event) → MayComeByStamps quorums recoveries w e → MayCome quorums recoveries w e
may_come quorums recoveries w (Claims v session epoch) by = tt
may_come quorums recoveries w (Reserves v session epoch stamp) by = tt
may_come quorums recoveries w (Closes v session epoch) by = tt
may_come quorums recoveries w (TakesBack v session epoch) by = tt
may_come quorums recoveries w (Drops v epoch stamp) by = tt
may_come quorums recoveries w (Answers v) by = tt
may_come quorums recoveries w (Crashes v) by = tt
may_come quorums recoveries w (Loses v) by = tt
may_come quorums recoveries w (Replies v to run) by = tt
may_come quorums recoveries w (IsMadeAgain v run row replies) by = by
may_come quorums recoveries w (Asks session epoch stamp voters) by = (
  by.among,
  subst (MayAsk w.answers session epoch stamp) (sym by.members) (quorum_told w.answers by.kept session epoch by.quorum stamp by.keeps by.may),
)

all_may_come : (quorums : List (List ℕ)) (recoveries : Recoveries) (w : World) (es : List Event) → MayAllComeByStamps quorums recoveries w es
    → MayAllCome quorums recoveries w es
all_may_come quorums recoveries w [] by = tt
all_may_come quorums recoveries w (e ∷ es) by = (may_come quorums recoveries w e by.0, all_may_come quorums recoveries (happens w e) es by.1)

pub come_from_start : (rows : ℕ → Row) (quorums : List (List ℕ)) (recoveries : Recoveries) (events : List Event) → MayAllComeByStamps quorums recoveries (start rows) events
    → MayAllCome quorums recoveries (start rows) events
come_from_start rows quorums recoveries events by = all_may_come quorums recoveries (start rows) events by
