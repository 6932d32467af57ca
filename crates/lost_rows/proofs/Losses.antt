-- what holds when a voter replies to one whose state is lost, when one loses its state, and when one is made again
use Rattle.std.proofs.Common.{◌≡◌, ℕ, ◌<◌, ◌≤◌, true, false, List, ◌∷◌, refl, sym, ap, subst, ◌∙◌, ◌⊎◌, inl, inr, Option, Some, None, arith}
use Rattle.std.specs.Prelude.{min}
use Rattle.std.proofs.lemmas.Bool.{cases_lt, false≢true}
use Rattle.sessions.specs.Rows.{IsOneOf, Row, Use}
use Rattle.lost_rows.specs.Spent.{Keeps}
use Rattle.lost_rows.specs.Voters.{Answer, AreSound, HasReplied, IsFor, MayBeMade, Recoveries, Reply, Voter, World, lost, made, newest, set, without}
use Rattle.lost_rows.proofs.Families.{Grows, Holds, IsFamily, IsHeard, IsTrue, Spends, family_before, in_without, newest_least, one_of, same_or, set_all, set_at, set_other, some_or}

-- ---- a voter replies

pub reply_on : (quorums : List (List ℕ)) (recoveries : Recoveries) (voters : ℕ → Voter) (answers : List Answer) (replies : List Reply) (t : Reply)
    → IsTrue voters t → t.row ≡ (voters t.voter).live → ((u : ℕ) → t.knows u ≡ (voters t.voter).knows u)
    → Holds quorums recoveries voters answers replies → Holds quorums recoveries voters answers (t ∷ replies)
reply_on quorums recoveries voters answers replies t is_true row knows is = record {
  ran = is.ran;
  true_replies = λ s among. elim among [ inl e ↦ subst (λ (r : Reply). IsTrue voters r) (sym e) is_true | inr old ↦ is.true_replies s old ];
  own = is.own;
  past = is.past;
  heard = λ v r some began.
      let h = is.heard v r some began in
      record {
        recovery = h.recovery;
        among = h.among;
        knows = h.knows;
        tells = λ s among of known. elim among [
          | inl e ↦ (
              let had = h.knows s.voter of in
              let same : s.knows v ≡ (voters s.voter).knows v = subst (λ (r : Reply). r.knows v ≡ (voters r.voter).knows v) (sym e) (knows v) in
              omega arith)
          | inr old ↦ h.tells s old of known
        ];
      };
  safe = λ x q f in_q family v a in_v some.
      let p = is.safe x q f in_q family v a in_v some in
      record {
        rows = p.rows;
        replied = λ s among of. elim among [
          | inl e ↦ (
              let at : t.voter ≡ v = sym (ap (λ (r : Reply). r.voter) e) ∙ of in
              let live = (p.rows (subst (λ (o : ℕ). (voters o).is_lost ≡ false) at is_true.talks)).0 in
              let same : s.row ≡ (voters v).live = ap (λ (r : Reply). r.row) e ∙ (row ∙ ap (λ (o : ℕ). (voters o).live) at) in
              inl (subst (λ (r : Row). Spends r x) (sym same) live))
          | inr old ↦ p.replied s old of
        ];
      };
  once = is.once;
}

-- ---- a voter loses its state

-- of this voter the runs that began count still
abbrev forgets : (ℕ → Voter) → Voter → Voter
forgets voters x = record { live = x.live; saved = x.saved; run = x.run; knows = λ u. min (x.knows u) (voters u).run; is_lost = true }

at_most : (a c m : ℕ) → m ≡ min a c → (m ≤ a) × (m ≤ c) × ((r : ℕ) → r ≤ a → r ≤ c → r ≤ m)
at_most a c m e = (omega arith, omega arith, λ r few less. omega arith)

pub lose_on : (quorums : List (List ℕ)) (recoveries : Recoveries) (voters : ℕ → Voter) (answers : List Answer) (replies : List Reply) (v : ℕ)
    → Holds quorums recoveries voters answers replies → Holds quorums recoveries (set voters v (forgets voters (voters v))) answers (without replies v)
lose_on quorums recoveries voters answers replies v is =
    let x = forgets voters (voters v) in
    let new = set voters v x in
    let run : (u : ℕ) → (new u).run ≡ (voters u).run = set_all (λ u y. y.run ≡ (voters u).run) voters v x refl (λ u other. refl) in
    let keeps : (u w r : ℕ) → r ≤ (voters u).knows w → r ≤ (voters w).run → r ≤ (new u).knows w
    = λ u w r. set_all (λ o y. r ≤ (voters o).knows w → r ≤ (voters w).run → r ≤ y.knows w) voters v x
    (λ known began. (at_most ((voters v).knows w) (voters w).run (x.knows w) refl).2 r known began) (λ o other known began. known) u in
    let other_is : (u : ℕ) → (v ≡ u → ⊥) → new u ≡ voters u = set_other voters v x in
    let grows : Grows voters new = λ u w r k.
    let same = run w in
    let began = k.began in
    record { known = keeps u w r k.known k.began; began = omega arith } in
    record {
      ran = λ a among. (let had = is.ran a among in let same = run a.voter in omega arith);
      true_replies = λ t among.
          let apart = in_without replies v t among in
          let p = is.true_replies t apart.among in
          let from = other_is t.voter apart.voter in
          let to = other_is t.to apart.to in
          record {
            talks = ap (λ (y : Voter). y.is_lost) from ∙ p.talks;
            silent = ap (λ (y : Voter). y.is_lost) to ∙ p.silent;
            known = subst (λ (y : Voter). t.again ≤ y.knows t.to) (sym from) p.known;
            told = p.told;
          };
      own = λ u. (let had = is.own u in let same = run u in let kept = keeps u u (voters u).run had (omega arith) in omega arith);
      past = λ y lost w. (
          let same = run w in
          let old : (new y).knows w ≤ (voters w).run = set_all (λ o z. z.is_lost ≡ true → z.knows w ≤ (voters w).run) voters v x
          (λ is_lost. (at_most ((voters v).knows w) (voters w).run (x.knows w) refl).1) (λ o other is_lost. is.past o is_lost w) y lost in
          omega arith);
      heard = λ u r some began.
          let same = run u in
          let began_before : r ≤ (voters u).run = omega arith in
          let h = is.heard u r some began_before in
          record {
            recovery = h.recovery;
            among = h.among;
            knows = λ z in_z. keeps z u r (h.knows z in_z) began_before;
            tells = λ t among of known.
                let apart = in_without replies v t among in
                h.tells t apart.among of (subst (λ (y : Voter). r ≤ y.knows u) (other_is t.to apart.to) known);
          };
      safe = λ y q f in_q family u a in_u some.
          let p = is.safe y q f in_q (family_before answers voters new y q f grows family) u a in_u some in
          record {
            rows = set_all (λ o z. (((voters o).is_lost ≡ false → Spends (voters o).live y × Spends (voters o).saved y)
                → z.is_lost ≡ false → Spends z.live y × Spends z.saved y)) voters v x
                (λ both has_it. absurd (false≢true (sym has_it))) (λ o other both has_it. both has_it) u p.rows;
            replied = λ t among of. p.replied t (in_without replies v t among).among of;
          };
      once = λ y z p q f g in_p in_q of_y of_z.
          is.once y z p q f g in_p in_q (family_before answers voters new y p f grows of_y) (family_before answers voters new z q g grows of_z);
    }

-- ---- a voter is made again

-- the reply of a voter of the recovery
pub record Replied (w : World) (v run : ℕ) (replies : List Reply) (z : ℕ) : Type 0 where
  pub reply : Reply
  pub given : IsOneOf reply replies
  pub among : IsOneOf reply w.replies
  pub of_voter : reply.voter ≡ z
  pub to : reply.to ≡ v
  pub again : reply.again ≡ run

reply_at : (recoveries : Recoveries) (w : World) (v run : ℕ) (row : Row) (replies : List Reply) (may : MayBeMade recoveries w v run row replies) (z : ℕ)
    → IsOneOf z may.recovery → Replied w v run replies z
reply_at recoveries w v run row replies may z in_z =
    let of = one_of (HasReplied replies) may.recovery z may.replied in_z in
    let fit = one_of (IsFor w.replies v run) replies of.reply may.fit of.among in
    record { reply = of.reply; given = of.among; among = fit.among; of_voter = of.of_voter; to = fit.to; again = fit.run }

-- what a reply of z says of a run that the lost voter knows
told_by : (recoveries : Recoveries) (w : World) (v run : ℕ) (replies : List Reply) (u r z : ℕ) (h : IsHeard recoveries w.voters w.replies u r)
    → Replied w v run replies z
    → IsOneOf z h.recovery ⊎ (z ≡ u) → r ≤ (w.voters v).knows u → r ≤ newest replies u
told_by recoveries w v run replies u r z h t in_z known =
    let from = subst (λ (o : ℕ). IsOneOf o h.recovery ⊎ (o ≡ u)) (sym t.of_voter) in_z in
    let tells = h.tells t.reply t.among from (subst (λ (o : ℕ). r ≤ (w.voters o).knows u) (sym t.to) known) in
    let least = newest_least replies u t.reply t.given in
    omega arith

-- whatever run it knew, it knows again
learns : (quorums : List (List ℕ)) (recoveries : Recoveries) (w : World) (v run : ℕ) (row : Row) (replies : List Reply) → AreSound quorums recoveries
    → Holds quorums recoveries w.voters w.answers w.replies → (may : MayBeMade recoveries w v run row replies)
    → (u r : ℕ) → 0 < r → r ≤ (w.voters u).run → r ≤ (w.voters v).knows u → r ≤ newest replies u
learns quorums recoveries w v run row replies sound is may u r some began known =
    let h = is.heard u r some began in
    elim (sound.both u v h.recovery may.recovery h.among may.among) [
      | inl in_u ↦ told_by recoveries w v run replies u r u h (reply_at recoveries w v run row replies may u in_u) (inr refl) known
      | inr m ↦ told_by recoveries w v run replies u r m.0 h (reply_at recoveries w v run row replies may m.0 m.2) (inl m.1) known
    ]

-- a voter of the recovery knows the run that begins, and is another one
knows_run : (quorums : List (List ℕ)) (recoveries : Recoveries) (w : World) (v run : ℕ) (replies : List Reply)
    → Holds quorums recoveries w.voters w.answers w.replies
    → (w.voters v).is_lost ≡ true → (z : ℕ) → Replied w v run replies z → (v ≡ z → ⊥) × (run ≤ (w.voters z).knows v)
knows_run quorums recoveries w v run replies is lost z t =
    let p = is.true_replies t.reply t.among in
    let talks : (w.voters z).is_lost ≡ false = subst (λ (o : ℕ). (w.voters o).is_lost ≡ false) t.of_voter p.talks in
    let known : t.reply.again ≤ (w.voters z).knows v
    = subst (λ (o : ℕ). t.reply.again ≤ (w.voters z).knows o) t.to (subst (λ (o : ℕ). t.reply.again ≤ (w.voters o).knows t.reply.to) t.of_voter p.known) in
    let again = t.again in
    (λ at. false≢true (sym talks ∙ (sym (ap (λ (o : ℕ). (w.voters o).is_lost) at) ∙ lost)), omega arith)

-- what is spent by an answer of the voter's earlier runs, is spent by its new row
spent_again : (quorums : List (List ℕ)) (recoveries : Recoveries) (w : World) (v run : ℕ) (row : Row) (replies : List Reply) → AreSound quorums recoveries
    → Holds quorums recoveries w.voters w.answers w.replies → (may : MayBeMade recoveries w v run row replies)
    → (x : Use) (q : List ℕ) (f : ℕ → Option Answer) → IsOneOf q quorums → IsFamily w.answers w.voters x q f
    → ((z : ℕ) (b : Answer) → IsOneOf z may.recovery → IsOneOf z q → IsOneOf v q → f z ≡ None → f v ≡ Some b → run ≤ b.run)
    → (b : Answer) → IsOneOf v q → f v ≡ Some b → Spends row x
spent_again quorums recoveries w v run row replies sound is may x q f in_q family still b in_v some =
    let m = sound.meet v may.recovery q may.among in_q in
    let t = reply_at recoveries w v run row replies may m.0 m.1 in
    let told = family.told v b in_v some in
    let later = may.later in
    let ran : b.run ≤ (w.voters v).run = subst (λ (o : ℕ). b.run ≤ (w.voters o).run) told.of_voter (is.ran b told.among) in
    elim (some_or (f m.0)) [
      | inl none ↦ (let least = still m.0 b m.1 m.2 in_v none some in absurd (omega arith))
      | inr has ↦ (
          let least = family.newest m.0 v has.0 b m.2 in_v has.1 some in
          elim ((is.safe x q f in_q family m.0 has.0 m.2 has.1).replied t.reply t.among t.of_voter) [
            | inl spent ↦ one_of (λ (r : Reply). Keeps r.row row) replies t.reply may.kept t.given x.session x.epoch x.stamp spent
            | inr few ↦ (
                let known : t.reply.again ≤ has.0.knows v = subst (λ (o : ℕ). t.reply.again ≤ has.0.knows o) t.to few in
                let again = t.again in
                absurd (omega arith))
          ])
    ]

pub made_on : (quorums : List (List ℕ)) (recoveries : Recoveries) (w : World) (v run : ℕ) (row : Row) (replies : List Reply) → AreSound quorums recoveries
    → MayBeMade recoveries w v run row replies → Holds quorums recoveries w.voters w.answers w.replies
    → Holds quorums recoveries (set w.voters v (made v run row replies)) w.answers (without w.replies v)
made_on quorums recoveries w v run row replies sound may is =
    let x = made v run row replies in
    let new = set w.voters v x in
    let later = may.later in
    let at : new v ≡ x = set_at w.voters v x in
    let own_run : (new v).run ≡ run = ap (λ (y : Voter). y.run) at in
    let other_is : (u : ℕ) → (v ≡ u → ⊥) → new u ≡ w.voters u = set_other w.voters v x in
    let goes : (u : ℕ) → (w.voters u).run ≤ (new u).run = set_all (λ u y. (w.voters u).run ≤ y.run) w.voters v x (omega arith) (λ u other. omega arith) in
    let knows_own : x.knows v ≡ run = set_at (newest replies) v run in
    -- what a voter knew of runs that began, it knows
    let keeps : (u z r : ℕ) → r ≤ (w.voters z).run → r ≤ (w.voters u).knows z → r ≤ (new u).knows z
    = λ u z r began. set_all (λ o y. r ≤ (w.voters o).knows z → r ≤ y.knows z) w.voters v x
    (λ known. set_all (λ o n. r ≤ (w.voters o).run → r ≤ (w.voters v).knows o → r ≤ n) (newest replies) v run
    (λ few known_here. omega arith)
    (λ o other few known_here. elim (cases_lt 0 r) [
      | inl some ↦ learns quorums recoveries w v run row replies sound is may o r some few known_here
      | inr least ↦ omega arith
    ])
    z began known)
    (λ o other known. known) u in
    let grows : Grows w.voters new = λ u z r k.
    let more = goes z in
    let began = k.began in
    record { known = keeps u z r k.began k.known; began = omega arith } in
    let in_recovery : (z : ℕ) → IsOneOf z may.recovery → run ≤ (new z).knows v
    = λ z in_z. (
    let known = knows_run quorums recoveries w v run replies is may.is_lost z (reply_at recoveries w v run row replies may z in_z) in
    subst (λ (y : Voter). run ≤ y.knows v) (sym (other_is z known.0)) known.1) in
    let anew : (r : ℕ) → (w.voters v).run < r → r ≤ run → IsHeard recoveries new (without w.replies v) v r
    = λ r more few. record {
      recovery = may.recovery;
      among = may.among;
      knows = λ z of. elim of [
        | inl in_z ↦ (let known = in_recovery z in_z in omega arith)
        | inr same ↦ subst (λ (o : ℕ). r ≤ (new o).knows v) (sym same) (subst (λ (y : Voter). r ≤ y.knows v) (sym at) (let e = knows_own in omega arith))
      ];
      tells = λ t among of known.
          let apart = in_without w.replies v t among in
          let had : r ≤ (w.voters t.to).knows v = subst (λ (y : Voter). r ≤ y.knows v) (other_is t.to apart.to) known in
          let most = is.past t.to (is.true_replies t apart.among).silent v in
          absurd (omega arith);
    } in
    record {
      ran = λ a among. (let had = is.ran a among in let more = goes a.voter in omega arith);
      true_replies = λ t among.
          let apart = in_without w.replies v t among in
          let p = is.true_replies t apart.among in
          let from = other_is t.voter apart.voter in
          let to = other_is t.to apart.to in
          record {
            talks = ap (λ (y : Voter). y.is_lost) from ∙ p.talks;
            silent = ap (λ (y : Voter). y.is_lost) to ∙ p.silent;
            known = subst (λ (y : Voter). t.again ≤ y.knows t.to) (sym from) p.known;
            told = p.told;
          };
      own = set_all (λ u y. y.run ≤ y.knows u) w.voters v x (let e = knows_own in omega arith) (λ u other. is.own u);
      past = λ y lost z. (
          let more = goes z in
          let old : (new y).knows z ≤ (w.voters z).run = set_all (λ o n. n.is_lost ≡ true → n.knows z ≤ (w.voters z).run) w.voters v x
          (λ is_lost. absurd (false≢true is_lost)) (λ o other is_lost. is.past o is_lost z) y lost in
          omega arith);
      heard = λ u r some began. elim (cases_lt (w.voters u).run r) [
        | inr few ↦ (
            let h = is.heard u r some few in
            record {
              recovery = h.recovery;
              among = h.among;
              knows = λ z in_z. keeps z u r few (h.knows z in_z);
              tells = λ t among of known.
                  let apart = in_without w.replies v t among in
                  h.tells t apart.among of (subst (λ (y : Voter). r ≤ y.knows u) (other_is t.to apart.to) known);
            })
        | inl more ↦ elim (same_or v u) [
          | inr other ↦ absurd (let same = ap (λ (y : Voter). y.run) (other_is u other) in omega arith)
          | inl same ↦ (
              let here : r ≤ (new v).run = subst (λ (o : ℕ). r ≤ (new o).run) (sym same) began in
              let over : (w.voters v).run < r = subst (λ (o : ℕ). (w.voters o).run < r) (sym same) more in
              subst (λ (o : ℕ). IsHeard recoveries new (without w.replies v) o r) same (anew r over (omega arith)))
        ]
      ];
      safe = λ y q f in_q family u a in_u some.
          let before = family_before w.answers w.voters new y q f grows family in
          let p = is.safe y q f in_q before u a in_u some in
          record {
            rows = λ has_it. elim (same_or v u) [
              | inl same ↦ (
                  let in_v : IsOneOf v q = subst (λ (o : ℕ). IsOneOf o q) (sym same) in_u in
                  let spent = spent_again quorums recoveries w v run row replies sound is may y q f in_q before
                  (λ z b in_z in_p in_w none at_v. family.still z v b in_p in_w none at_v run (record { known = in_recovery z in_z; began = omega arith }))
                  a in_v (ap f same ∙ some) in
                  let both = subst (λ (n : Voter). Spends n.live y × Spends n.saved y) (sym at) (spent, spent) in
                  subst (λ (o : ℕ). Spends (new o).live y × Spends (new o).saved y) same both)
              | inr other ↦ (
                  let is_same = other_is u other in
                  subst (λ (n : Voter). Spends n.live y × Spends n.saved y) (sym is_same) (p.rows (sym (ap (λ (n : Voter). n.is_lost) is_same) ∙ has_it)))
            ];
            replied = λ t among of. p.replied t (in_without w.replies v t among).among of;
          };
      once = λ y z p q f g in_p in_q of_y of_z.
          is.once y z p q f g in_p in_q (family_before w.answers w.voters new y p f grows of_y) (family_before w.answers w.voters new z q g grows of_z);
    }
