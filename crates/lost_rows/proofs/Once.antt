-- the laws, over all events
use Rattle.std.proofs.Common.{◌≡◌, ℕ, ◌≤◌, Bool, true, false, List, [], ◌∷◌, refl, sym, ap, subst, ◌∙◌, inl, inr, Some, arith}
use Rattle.std.specs.Prelude.{max, if◌then◌else◌}
use Rattle.std.proofs.lemmas.Bool.{cases_lt, false≢true}
use Rattle.std.proofs.lemmas.Option.{none-some, same_Some}
use Rattle.sessions.specs.Rows.{AreOnce, IsOneOf, Row, Use, claimed, closed, dropped, reserved, taken_back}
use Rattle.lost_rows.specs.Spent.{Keeps}
use Rattle.lost_rows.specs.Voters.{Answer, Answers, AreSound, Asks, Claims, Closes, Crashes, Drops, Event, IsMadeAgain, IsTold, Loses, MayAllCome, MayAsk, MayCome, Recoveries, Replies, Reserves, TakesBack, Voter, World, all_happen, answer_of, aware, changed, happens, reply_of, restarted, set, start, stored, with_voter}
use Rattle.lost_rows.proofs.SpentLemmas.{at_least, claimed_keeps, closed_keeps, dropped_keeps, reserved_keeps, taken_back_keeps}
use Rattle.lost_rows.proofs.Families.{Holds, IsFamily, set_all, set_at}
use Rattle.lost_rows.proofs.Steps.{Changes, Steps, answer_on, set_steps, steps_on}
use Rattle.lost_rows.proofs.Losses.{lose_on, made_on, reply_on}

-- what holds of the world
abbrev pub HoldsIn : List (List ℕ) → Recoveries → World → Type 0
HoldsIn quorums recoveries w = Holds quorums recoveries w.voters w.answers w.replies

unchanged : (x : Voter) → Changes x x
unchanged x = record { run = refl; lost = refl; more = λ v. omega arith; quiet = λ v lost. refl; rows = λ lost u live saved. (live, saved) }

change : (x : Voter) (row : Row) (b : Bool) → x.is_lost ≡ b → Keeps x.live row
    → Changes x (if b then x else record { live = row; saved = x.saved; run = x.run; knows = x.knows; is_lost = false })
change x row true e keeps = unchanged x
change x row false e keeps = record {
  run = refl;
  lost = sym e;
  more = λ v. omega arith;
  quiet = λ v lost. refl;
  rows = λ lost u live saved. (keeps u.session u.epoch u.stamp live, saved);
}

change_on : (quorums : List (List ℕ)) (recoveries : Recoveries) (w : World) (v : ℕ) (row : Row) → Keeps (w.voters v).live row → HoldsIn quorums recoveries w
    → Holds quorums recoveries (set w.voters v (changed (w.voters v) row)) w.answers w.replies
change_on quorums recoveries w v row keeps =
    steps_on quorums recoveries w.voters (set w.voters v (changed (w.voters v) row)) w.answers w.replies
    (set_steps w.voters v (changed (w.voters v) row) (change (w.voters v) row (w.voters v).is_lost refl keeps))

stores : (x : Voter) → Changes x (stored x)
stores x = record { run = refl; lost = refl; more = λ v. omega arith; quiet = λ v lost. refl; rows = λ lost u live saved. (live, live) }

restarts : (x : Voter) → Changes x (restarted x)
restarts x = record { run = refl; lost = refl; more = λ v. omega arith; quiet = λ v lost. refl; rows = λ lost u live saved. (saved, saved) }

-- a voter that comes to know of a run
learns_run : (x : Voter) (to run : ℕ) → x.is_lost ≡ false → Changes x (aware x to run)
learns_run x to run has_it = record {
  run = refl;
  lost = refl;
  more = set_all (λ u n. x.knows u ≤ n) x.knows to (max (x.knows to) run) (at_least (x.knows to) run (max (x.knows to) run) refl).0 (λ u other. omega arith);
  quiet = λ v lost. absurd (false≢true (sym has_it ∙ lost));
  rows = λ lost u live saved. (live, live);
}

answered_on : (quorums : List (List ℕ)) (recoveries : Recoveries) (w : World) (v : ℕ) (b : Bool) → (w.voters v).is_lost ≡ b → HoldsIn quorums recoveries w
    → HoldsIn quorums recoveries (if b then w
    else record { voters = set w.voters v (stored (w.voters v)); answers = answer_of v (w.voters v) ∷ w.answers; replies = w.replies; uses = w.uses })
answered_on quorums recoveries w v true e is = is
answered_on quorums recoveries w v false e is =
    let x = stored (w.voters v) in
    let new = set w.voters v x in
    let at : new v ≡ x = set_at w.voters v x in
    answer_on quorums recoveries new w.answers w.replies (answer_of v (w.voters v))
    (record {
      row = ap (λ (y : Voter). y.live) (sym at);
      saved = subst (λ (y : Voter). y.saved ≡ y.live) (sym at) refl;
      run = ap (λ (y : Voter). y.run) (sym at);
      knows = λ u. ap (λ (y : Voter). y.knows u) (sym at);
    })
    (ap (λ (y : Voter). y.is_lost) at ∙ e)
    (steps_on quorums recoveries w.voters new w.answers w.replies (set_steps w.voters v x (stores (w.voters v))) is)

replied_on : (quorums : List (List ℕ)) (recoveries : Recoveries) (w : World) (v to run : ℕ) (a b : Bool) → (w.voters v).is_lost ≡ a → (w.voters to).is_lost ≡ b
    → HoldsIn quorums recoveries w
    → HoldsIn quorums recoveries (if a then w
    else if b then record {
      voters = set w.voters v (aware (w.voters v) to run);
      answers = w.answers;
      replies = reply_of v (aware (w.voters v) to run) to run ∷ w.replies;
      uses = w.uses;
    }
    else with_voter w v (aware (w.voters v) to run))
replied_on quorums recoveries w v to run true b e f is = is
replied_on quorums recoveries w v to run false false e f is =
    let x = aware (w.voters v) to run in
    steps_on quorums recoveries w.voters (set w.voters v x) w.answers w.replies (set_steps w.voters v x (learns_run (w.voters v) to run e)) is
replied_on quorums recoveries w v to run false true e f is =
    let x = aware (w.voters v) to run in
    let new = set w.voters v x in
    let at : new v ≡ x = set_at w.voters v x in
    let steps : Steps w.voters new = set_steps w.voters v x (learns_run (w.voters v) to run e) in
    let same = steps.run to in
    let newer = max ((w.voters v).knows to) run in
    let least = (at_least ((w.voters v).knows to) run newer refl).1 in
    let known : run ≤ x.knows to = subst (λ (n : ℕ). run ≤ n) (sym (set_at (w.voters v).knows to newer)) least in
    reply_on quorums recoveries new w.answers w.replies (reply_of v x to run)
    (record {
      talks = steps.lost v ∙ e;
      silent = steps.lost to ∙ f;
      known = subst (λ (y : Voter). run ≤ y.knows to) (sym at) known;
      told = known;
    })
    (ap (λ (y : Voter). y.live) (sym at))
    (λ u. ap (λ (y : Voter). y.knows u) (sym at))
    (steps_on quorums recoveries w.voters new w.answers w.replies steps is)

step_on : (quorums : List (List ℕ)) (recoveries : Recoveries) (w : World) (e : Event) → AreSound quorums recoveries → MayCome quorums recoveries w e
    → HoldsIn quorums recoveries w → HoldsIn quorums recoveries (happens w e)
step_on quorums recoveries w (Claims v name epoch) sound may is =
    change_on quorums recoveries w v (claimed (w.voters v).live name epoch) (claimed_keeps (w.voters v).live name epoch) is
step_on quorums recoveries w (Reserves v name epoch stamp) sound may is =
    change_on quorums recoveries w v (reserved (w.voters v).live name epoch stamp) (reserved_keeps (w.voters v).live name epoch stamp) is
step_on quorums recoveries w (Closes v name epoch) sound may is =
    change_on quorums recoveries w v (closed (w.voters v).live name epoch) (closed_keeps (w.voters v).live name epoch) is
step_on quorums recoveries w (TakesBack v name epoch) sound may is =
    change_on quorums recoveries w v (taken_back (w.voters v).live name epoch) (taken_back_keeps (w.voters v).live name epoch) is
step_on quorums recoveries w (Drops v epoch stamp) sound may is =
    change_on quorums recoveries w v (dropped (w.voters v).live epoch stamp) (dropped_keeps (w.voters v).live epoch stamp) is
step_on quorums recoveries w (Answers v) sound may is = answered_on quorums recoveries w v (w.voters v).is_lost refl is
step_on quorums recoveries w (Crashes v) sound may is =
    steps_on quorums recoveries w.voters (set w.voters v (restarted (w.voters v))) w.answers w.replies
    (set_steps w.voters v (restarted (w.voters v)) (restarts (w.voters v))) is
step_on quorums recoveries w (Loses v) sound may is = lose_on quorums recoveries w.voters w.answers w.replies v is
step_on quorums recoveries w (Replies v to run) sound may is =
    replied_on quorums recoveries w v to run (w.voters v).is_lost (w.voters to).is_lost refl refl is
step_on quorums recoveries w (IsMadeAgain v run row replies) sound may is = made_on quorums recoveries w v run row replies sound may is
step_on quorums recoveries w (Asks name epoch stamp quorum) sound may is = is

all_on : (quorums : List (List ℕ)) (recoveries : Recoveries) (w : World) (es : List Event) → AreSound quorums recoveries → MayAllCome quorums recoveries w es
    → HoldsIn quorums recoveries w → HoldsIn quorums recoveries (all_happen w es)
all_on quorums recoveries w [] sound may is = is
all_on quorums recoveries w (e ∷ es) sound may is = all_on quorums recoveries (happens w e) es sound may.1 (step_on quorums recoveries w e sound may.0 is)

holds_first : (quorums : List (List ℕ)) (recoveries : Recoveries) (rows : ℕ → Row) → HoldsIn quorums recoveries (start rows)
holds_first quorums recoveries rows = record {
  ran = λ a among. absurd among;
  true_replies = λ t among. absurd among;
  own = λ v. omega arith;
  past = λ y lost v. omega arith;
  heard = λ v r some began. absurd (omega arith);
  safe = λ x q f in_q family v a in_v some. absurd (family.told v a in_v some).among;
  once = λ x y p q f g in_p in_q of_x of_y stamps v a b in_x in_y some_x some_y. absurd (of_x.told v a in_x some_x).among;
}

pub holds : (quorums : List (List ℕ)) (recoveries : Recoveries) (rows : ℕ → Row) (events : List Event) → AreSound quorums recoveries
    → MayAllCome quorums recoveries (start rows) events → HoldsIn quorums recoveries (all_happen (start rows) events)
holds quorums recoveries rows events sound may = all_on quorums recoveries (start rows) events sound may (holds_first quorums recoveries rows)

-- ---- the uses

-- the session asked one of the quorums, with an answer of each voter
pub record IsAsked (quorums : List (List ℕ)) (answers : List Answer) (x : Use) : Type 0 where
  pub quorum : List ℕ
  pub among : IsOneOf quorum quorums
  pub may : MayAsk answers x.session x.epoch x.stamp quorum

abbrev AreAsked : List (List ℕ) → World → Type 0
AreAsked quorums w = (x : Use) → IsOneOf x w.uses → IsAsked quorums w.answers x

asked_more : (quorums : List (List ℕ)) (answers : List Answer) (a : Answer) (x : Use) → IsAsked quorums answers x → IsAsked quorums (a ∷ answers) x
asked_more quorums answers a x is = record {
  quorum = is.quorum;
  among = is.among;
  may = record {
    answer = is.may.answer;
    told = λ v in_v.
        let t = is.may.told v in_v in
        record { among = inr t.among; of_voter = t.of_voter; of_session = t.of_session; of_epoch = t.of_epoch; above = t.above; few = t.few };
    newest = is.may.newest;
  };
}

asked_answered : (quorums : List (List ℕ)) (w : World) (v : ℕ) (b : Bool) → AreAsked quorums w
    → AreAsked quorums (if b then w
    else record { voters = set w.voters v (stored (w.voters v)); answers = answer_of v (w.voters v) ∷ w.answers; replies = w.replies; uses = w.uses })
asked_answered quorums w v true is = is
asked_answered quorums w v false is = λ x among. asked_more quorums w.answers (answer_of v (w.voters v)) x (is x among)

asked_replied : (quorums : List (List ℕ)) (w : World) (v to run : ℕ) (a b : Bool) → AreAsked quorums w
    → AreAsked quorums (if a then w
    else if b then record {
      voters = set w.voters v (aware (w.voters v) to run);
      answers = w.answers;
      replies = reply_of v (aware (w.voters v) to run) to run ∷ w.replies;
      uses = w.uses;
    }
    else with_voter w v (aware (w.voters v) to run))
asked_replied quorums w v to run true b is = is
asked_replied quorums w v to run false true is = is
asked_replied quorums w v to run false false is = is

asked_after : (quorums : List (List ℕ)) (recoveries : Recoveries) (w : World) (e : Event) → MayCome quorums recoveries w e → AreAsked quorums w
    → AreAsked quorums (happens w e)
asked_after quorums recoveries w (Claims v name epoch) may is = is
asked_after quorums recoveries w (Reserves v name epoch stamp) may is = is
asked_after quorums recoveries w (Closes v name epoch) may is = is
asked_after quorums recoveries w (TakesBack v name epoch) may is = is
asked_after quorums recoveries w (Drops v epoch stamp) may is = is
asked_after quorums recoveries w (Answers v) may is = asked_answered quorums w v (w.voters v).is_lost is
asked_after quorums recoveries w (Crashes v) may is = is
asked_after quorums recoveries w (Loses v) may is = is
asked_after quorums recoveries w (Replies v to run) may is = asked_replied quorums w v to run (w.voters v).is_lost (w.voters to).is_lost is
asked_after quorums recoveries w (IsMadeAgain v run row replies) may is = is
asked_after quorums recoveries w (Asks name epoch stamp quorum) may is = λ x among. elim among [
  | inl e ↦ subst (IsAsked quorums w.answers) (sym e) (record { quorum = quorum; among = may.0; may = may.1 })
  | inr old ↦ is x old
]

asked_all : (quorums : List (List ℕ)) (recoveries : Recoveries) (w : World) (es : List Event) → MayAllCome quorums recoveries w es
    → AreAsked quorums w → AreAsked quorums (all_happen w es)
asked_all quorums recoveries w [] may is = is
asked_all quorums recoveries w (e ∷ es) may is = asked_all quorums recoveries (happens w e) es may.1 (asked_after quorums recoveries w e may.0 is)

-- with an answer of each voter a family is whole
whole : (answers : List Answer) (voters : ℕ → Voter) (x : Use) (q : List ℕ) (may : MayAsk answers x.session x.epoch x.stamp q)
    → IsFamily answers voters x q (λ v. Some (may.answer v))
whole answers voters x q may = record {
  told = λ v a in_v some. subst (IsTold answers x.session x.epoch x.stamp v) (same_Some (may.answer v) a some) (may.told v in_v);
  newest = λ u v a b in_u in_v some_u some_v.
      let least = may.newest u v in_u in_v in
      let first : a.knows v ≤ (may.answer v).run = subst (λ (c : Answer). c.knows v ≤ (may.answer v).run) (same_Some (may.answer u) a some_u) least in
      subst (λ (c : Answer). a.knows v ≤ c.run) (same_Some (may.answer v) b some_v) first;
  still = λ u v b in_u in_v none some. absurd (none-some (may.answer u) (sym none));
}

pub used_once : (rows : ℕ → Row) (quorums : List (List ℕ)) (recoveries : Recoveries) (events : List Event)
    → AreSound quorums recoveries → MayAllCome quorums recoveries (start rows) events
    → AreOnce (all_happen (start rows) events).uses
used_once rows quorums recoveries events sound may x y in_x in_y at =
    let w = all_happen (start rows) events in
    let is = holds quorums recoveries rows events sound may in
    let asked = asked_all quorums recoveries (start rows) events may (λ u among. absurd among) in
    let of_x = asked x in_x in
    let of_y = asked y in_y in
    let m = sound.quorums_meet of_x.quorum of_y.quorum of_x.among of_y.among in
    is.once x y of_x.quorum of_y.quorum (λ v. Some (of_x.may.answer v)) (λ v. Some (of_y.may.answer v)) of_x.among of_y.among
    (whole w.answers w.voters x of_x.quorum of_x.may) (whole w.answers w.voters y of_y.quorum of_y.may) at
    m.0 (of_x.may.answer m.0) (of_y.may.answer m.0) m.1 m.2 refl refl

-- ---- the runs

-- a recovery has a voter
some_voter : (quorums : List (List ℕ)) (recoveries : Recoveries) (u : ℕ) (p : List ℕ) → AreSound quorums recoveries → IsOneOf p (recoveries u)
    → (z : ℕ) × IsOneOf z p
some_voter quorums recoveries u p sound in_p = elim (sound.both u u p p in_p in_p) [ inl in_u ↦ (u, in_u) | inr m ↦ (m.0, m.1) ]

pub known_runs : (rows : ℕ → Row) (quorums : List (List ℕ)) (recoveries : Recoveries) (events : List Event) (v u : ℕ) (recovery : List ℕ)
    → AreSound quorums recoveries → MayAllCome quorums recoveries (start rows) events
    → IsOneOf recovery (recoveries u)
    → (z : ℕ) × IsOneOf z recovery × (((all_happen (start rows) events).voters v).run ≤ ((all_happen (start rows) events).voters z).knows v)
known_runs rows quorums recoveries events v u recovery sound may in_u =
    let w = all_happen (start rows) events in
    let is = holds quorums recoveries rows events sound may in
    elim (cases_lt 0 (w.voters v).run) [
      | inl some ↦ (
          let h = is.heard v (w.voters v).run some (omega arith) in
          elim (sound.both v u h.recovery recovery h.among in_u) [
            | inl in_v ↦ (v, in_v, h.knows v (inr refl))
            | inr m ↦ (m.0, m.2, h.knows m.0 (inl m.1))
          ])
      | inr none ↦ (let z = some_voter quorums recoveries u recovery sound in_u in (z.0, z.1, omega arith))
    ]
