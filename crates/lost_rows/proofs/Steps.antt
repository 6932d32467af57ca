-- what events keep of all voters, their answers and their replies
use Rattle.std.proofs.Common.{◌≡◌, ℕ, ◌<◌, ◌≤◌, true, false, List, ◌∷◌, refl, sym, ap, subst, ◌∙◌, ◌⊎◌, inl, inr, Option, Some, None, arith}
use Rattle.std.proofs.lemmas.Option.{none-some, same_Some}
use Rattle.sessions.specs.Rows.{IsOneOf, Row, Use}
use Rattle.lost_rows.specs.Voters.{Answer, IsTold, Recoveries, Reply, Voter, set}
use Rattle.lost_rows.proofs.Families.{Grows, Holds, IsFamily, Spends, family_before, member, same_or, set_all, set_other, some_or}

-- what is spent by both rows, stays so
abbrev pub KeepsBoth : Voter → Voter → Type 0
KeepsBoth x y = (u : Use) → Spends x.live u → Spends x.saved u → Spends y.live u × Spends y.saved u

-- Nobody loses its state, nor is made again. Whoever has its state may come to know more, and all that is spent by its rows stays so.
pub record Steps (old new : ℕ → Voter) : Type 0 where
  pub run : (u : ℕ) → (new u).run ≡ (old u).run
  pub lost : (u : ℕ) → (new u).is_lost ≡ (old u).is_lost
  pub more : (u v : ℕ) → (old u).knows v ≤ (new u).knows v
  pub quiet : (u v : ℕ) → (old u).is_lost ≡ true → (new u).knows v ≡ (old u).knows v
  pub rows : (u : ℕ) → (old u).is_lost ≡ false → KeepsBoth (old u) (new u)

steps_grow : (old new : ℕ → Voter) → Steps old new → Grows old new
steps_grow old new s u v r k =
    let known = k.known in
    let began = k.began in
    let run = s.run v in
    let more = s.more u v in
    record { known = omega arith; began = omega arith }

-- one voter changes
pub record Changes (x y : Voter) : Type 0 where
  pub run : y.run ≡ x.run
  pub lost : y.is_lost ≡ x.is_lost
  pub more : (v : ℕ) → x.knows v ≤ y.knows v
  pub quiet : (v : ℕ) → x.is_lost ≡ true → y.knows v ≡ x.knows v
  pub rows : x.is_lost ≡ false → KeepsBoth x y

pub set_steps : (w : ℕ → Voter) (v : ℕ) (y : Voter) → Changes (w v) y → Steps w (set w v y)
set_steps w v y c = record {
  run = set_all (λ u x. x.run ≡ (w u).run) w v y c.run (λ u other. refl);
  lost = set_all (λ u x. x.is_lost ≡ (w u).is_lost) w v y c.lost (λ u other. refl);
  more = λ u z. set_all (λ o x. (w o).knows z ≤ x.knows z) w v y (c.more z) (λ o other. omega arith) u;
  quiet = λ u z. set_all (λ o x. (w o).is_lost ≡ true → x.knows z ≡ (w o).knows z) w v y (c.quiet z) (λ o other lost. refl) u;
  rows = set_all (λ u x. (w u).is_lost ≡ false → KeepsBoth (w u) x) w v y c.rows (λ u other lost x live saved. (live, saved));
}

pub steps_on : (quorums : List (List ℕ)) (recoveries : Recoveries) (old new : ℕ → Voter) (answers : List Answer) (replies : List Reply)
    → Steps old new → Holds quorums recoveries old answers replies → Holds quorums recoveries new answers replies
steps_on quorums recoveries old new answers replies s is =
    let grows = steps_grow old new s in
    record {
      ran = λ a among. (let had = is.ran a among in let run = s.run a.voter in omega arith);
      true_replies = λ t among.
          let p = is.true_replies t among in
          let known = p.known in
          let more = s.more t.voter t.to in
          record { talks = s.lost t.voter ∙ p.talks; silent = s.lost t.to ∙ p.silent; known = omega arith; told = p.told };
      own = λ v. (let had = is.own v in let run = s.run v in let more = s.more v v in omega arith);
      past = λ y lost v.
          let was = sym (s.lost y) ∙ lost in
          let had = is.past y was v in
          let same = s.quiet y v was in
          let run = s.run v in
          omega arith;
      heard = λ v r some began.
          let run = s.run v in
          let h = is.heard v r some (omega arith) in
          record {
            recovery = h.recovery;
            among = h.among;
            knows = λ z in_z. (let had = h.knows z in_z in let more = s.more z v in omega arith);
            tells = λ t among of knows. (let same = s.quiet t.to v (is.true_replies t among).silent in h.tells t among of (omega arith));
          };
      safe = λ x q f in_q family v a in_v some.
          let p = is.safe x q f in_q (family_before answers old new x q f grows family) v a in_v some in
          record {
            rows = λ has_it.
                let was = sym (s.lost v) ∙ has_it in
                let both = p.rows was in
                s.rows v was x both.0 both.1;
            replied = p.replied;
          };
      once = λ x y p q f g in_p in_q of_x of_y.
          is.once x y p q f g in_p in_q (family_before answers old new x p f grows of_x) (family_before answers old new y q g grows of_y);
    }

-- ---- a voter answers

-- an answer is by what the voter is, which is saved
pub record IsNew (voters : ℕ → Voter) (a : Answer) : Type 0 where
  pub row : a.row ≡ (voters a.voter).live
  pub saved : (voters a.voter).saved ≡ (voters a.voter).live
  pub run : a.run ≡ (voters a.voter).run
  pub knows : (u : ℕ) → a.knows u ≡ (voters a.voter).knows u

-- a family that has the new answer, and one before without it
pub record HasNew (answers : List Answer) (voters : ℕ → Voter) (x : Use) (q : List ℕ) (f : ℕ → Option Answer) (a : Answer) : Type 0 where
  pub here : IsOneOf a.voter q
  pub is : f a.voter ≡ Some a
  pub was : IsFamily answers voters x q (set f a.voter None)

told_before : (answers : List Answer) (a : Answer) (x : Use) (v : ℕ) (b : Answer) → (b ≡ a → IsOneOf b answers)
    → IsTold (a ∷ answers) x.session x.epoch x.stamp v b → IsTold answers x.session x.epoch x.stamp v b
told_before answers a x v b old t = record {
  among = elim t.among [ inl e ↦ old e | inr among ↦ among ];
  of_voter = t.of_voter;
  of_session = t.of_session;
  of_epoch = t.of_epoch;
  above = t.above;
  few = t.few;
}

family_with : (answers : List Answer) (a : Answer) (voters : ℕ → Voter) (x : Use) (q : List ℕ) (f : ℕ → Option Answer)
    → ((v : ℕ) (b : Answer) → IsOneOf v q → f v ≡ Some b → b ≡ a → a.voter ≡ v → IsOneOf b answers)
    → IsFamily (a ∷ answers) voters x q f → IsFamily answers voters x q f
family_with answers a voters x q f old is = record {
  told = λ v b in_v some.
      let t = is.told v b in_v some in
      told_before answers a x v b (λ e. old v b in_v some e (sym (ap (λ (c : Answer). c.voter) e) ∙ t.of_voter)) t;
  newest = is.newest;
  still = is.still;
}

-- what is so of the answers of the other voters
unset_some : (f : ℕ → Option Answer) (v u : ℕ) (b : Answer) → set f v None u ≡ Some b → (v ≡ u → ⊥) × (f u ≡ Some b)
unset_some f v u b = set_all (λ o y. y ≡ Some b → (v ≡ o → ⊥) × (f o ≡ Some b)) f v None (λ e. absurd (none-some b e)) (λ o other e. (other, e)) u

unset_none : (f : ℕ → Option Answer) (v u : ℕ) → set f v None u ≡ None → (v ≡ u) ⊎ (f u ≡ None)
unset_none f v u = set_all (λ o y. y ≡ None → (v ≡ o) ⊎ (f o ≡ None)) f v None (λ e. inl refl) (λ o other e. inr e) u

unset : (answers : List Answer) (a : Answer) (voters : ℕ → Voter) (x : Use) (q : List ℕ) (f : ℕ → Option Answer) → IsNew voters a
    → IsOneOf a.voter q → f a.voter ≡ Some a
    → IsFamily (a ∷ answers) voters x q f → IsFamily answers voters x q (set f a.voter None)
unset answers a voters x q f new here at is = record {
  told = λ v b in_v some.
      let old = unset_some f a.voter v b some in
      let t = is.told v b in_v old.1 in
      told_before answers a x v b (λ e. absurd (old.0 (sym (ap (λ (c : Answer). c.voter) e) ∙ t.of_voter))) t;
  newest = λ u v b c in_u in_v e_u e_v.
      is.newest u v b c in_u in_v (unset_some f a.voter u b e_u).1 (unset_some f a.voter v c e_v).1;
  still = λ u v b in_u in_v none some r k.
      let old = unset_some f a.voter v b some in
      elim (unset_none f a.voter u none) [
        | inl e ↦ (
            let known : r ≤ (voters a.voter).knows v = subst (λ (o : ℕ). r ≤ (voters o).knows v) (sym e) k.known in
            let same = new.knows v in
            let least = is.newest a.voter v a b here in_v at old.1 in
            omega arith)
        | inr was ↦ is.still u v b in_u in_v was old.1 r k
      ];
}

-- a family is one before, or has the new answer
older : (answers : List Answer) (a : Answer) (voters : ℕ → Voter) (x : Use) (q : List ℕ) (f : ℕ → Option Answer) → IsNew voters a
    → IsFamily (a ∷ answers) voters x q f → IsFamily answers voters x q f ⊎ HasNew answers voters x q f a
older answers a voters x q f new is = elim (member a.voter q) [
  | inr not_in ↦ inl (family_with answers a voters x q f (λ v b in_v some e at. absurd (not_in (subst (λ (o : ℕ). IsOneOf o q) (sym at) in_v))) is)
  | inl here ↦ elim (some_or (f a.voter)) [
    | inl none ↦ inl (family_with answers a voters x q f (λ v b in_v some e at. absurd (none-some b (sym none ∙ (ap f at ∙ some)))) is)
    | inr some ↦ elim (is.told a.voter some.0 here some.1).among [
      | inl e ↦ (
          let at = some.1 ∙ ap (λ (c : Answer). Some c) e in
          inr (record { here = here; is = at; was = unset answers a voters x q f new here at is }))
      | inr old ↦ inl (family_with answers a voters x q f
          (λ v b in_v has_b e at. subst (λ (c : Answer). IsOneOf c answers) (same_Some some.0 b (sym some.1 ∙ (ap f at ∙ has_b))) old) is)
    ]
  ]
]

-- by another voter's answer a family is one before
older_at : (answers : List Answer) (a : Answer) (voters : ℕ → Voter) (x : Use) (q : List ℕ) (f : ℕ → Option Answer) → IsNew voters a
    → IsFamily (a ∷ answers) voters x q f → (v : ℕ) (b : Answer) → (a.voter ≡ v → ⊥) → f v ≡ Some b
    → (g : ℕ → Option Answer) × IsFamily answers voters x q g × (g v ≡ Some b)
older_at answers a voters x q f new is v b other some = elim (older answers a voters x q f new is) [
  | inl was ↦ (f, was, some)
  | inr h ↦ (set f a.voter None, h.was, set_other f a.voter None v other ∙ some)
]

-- by what the voter answers, the stamp is spent
told_spent : (voters : ℕ → Voter) (a : Answer) (answers : List Answer) (x : Use) (v : ℕ) → IsNew voters a
    → IsTold answers x.session x.epoch x.stamp v a → Spends (voters a.voter).live x
told_spent voters a answers x v new t =
    subst (λ (r : Row). Spends r x) new.row (record { few = t.few; whose = inr (record { same = t.of_epoch; name = inl t.of_session }) })

-- whose stamp is spent by a row that has it for a session, it is that session
same_use : (x y : Use) (row : Row) → row.session ≡ Some x.session → row.epoch ≡ x.epoch → row.base < x.stamp → x.stamp ≡ y.stamp → Spends row y
    → (x.session ≡ y.session) × (x.epoch ≡ y.epoch)
same_use x y row has_it epoch above at spent = elim spent.whose [
  | inl below ↦ absurd (omega arith)
  | inr of ↦ elim of.name [
    | inl name ↦ (same_Some x.session y.session (sym has_it ∙ name), sym epoch ∙ of.same)
    | inr nobody ↦ absurd (none-some x.session (sym nobody ∙ has_it))
  ]
]

-- the new answer and another family
same_new : (voters : ℕ → Voter) (a : Answer) (answers : List Answer) (x y : Use) (v : ℕ) → IsNew voters a
    → IsTold answers x.session x.epoch x.stamp v a → x.stamp ≡ y.stamp
    → Spends (voters a.voter).live y → (x.session ≡ y.session) × (x.epoch ≡ y.epoch)
same_new voters a answers x y v new t at spent =
    same_use x y a.row t.of_session t.of_epoch t.above at (subst (λ (r : Row). Spends r y) (sym new.row) spent)

pub answer_on : (quorums : List (List ℕ)) (recoveries : Recoveries) (voters : ℕ → Voter) (answers : List Answer) (replies : List Reply) (a : Answer)
    → IsNew voters a → (voters a.voter).is_lost ≡ false → Holds quorums recoveries voters answers replies
    → Holds quorums recoveries voters (a ∷ answers) replies
answer_on quorums recoveries voters answers replies a new has_it is =
    -- by any family of before the voter's row has spent the stamp, and by one with the new answer
    let spent : (x : Use) (q : List ℕ) (f : ℕ → Option Answer) (b : Answer) → IsOneOf q quorums
    → IsFamily (a ∷ answers) voters x q f → IsOneOf a.voter q → f a.voter ≡ Some b
    → Spends (voters a.voter).live x
    = λ x q f b in_q family in_v some. elim (older answers a voters x q f new family) [
      | inl was ↦ ((is.safe x q f in_q was a.voter b in_v some).rows has_it).0
      | inr h ↦ told_spent voters a (a ∷ answers) x a.voter new (family.told a.voter a h.here h.is)
    ] in
    record {
      ran = λ b among. elim among [
        | inl e ↦ subst (λ (c : Answer). c.run ≤ (voters c.voter).run) (sym e) (let run = new.run in omega arith)
        | inr old ↦ is.ran b old
      ];
      true_replies = is.true_replies;
      own = is.own;
      past = is.past;
      heard = is.heard;
      safe = λ x q f in_q family v b in_v some. elim (same_or a.voter v) [
        | inr other ↦ (
            let was = older_at answers a voters x q f new family v b other some in
            is.safe x q was.0 in_q was.1 v b in_v was.2)
        | inl at ↦ elim (older answers a voters x q f new family) [
          | inl was ↦ is.safe x q f in_q was v b in_v some
          | inr h ↦ (
              let live = told_spent voters a (a ∷ answers) x a.voter new (family.told a.voter a h.here h.is) in
              let same : a ≡ b = same_Some a b (sym h.is ∙ (ap f at ∙ some)) in
              record {
                rows = λ no_loss.
                    let saved = subst (λ (r : Row). Spends r x) (sym new.saved) live in
                    subst (λ (o : ℕ). Spends (voters o).live x × Spends (voters o).saved x) at (live, saved);
                replied = λ t among of.
                    let p = is.true_replies t among in
                    let known : t.again ≤ (voters a.voter).knows t.to = subst (λ (o : ℕ). t.again ≤ (voters o).knows t.to) (of ∙ sym at) p.known in
                    let knows = new.knows t.to in
                    inr (subst (λ (c : Answer). t.again ≤ c.knows t.to) same (omega arith));
              })
        ]
      ];
      once = λ x y p q f g in_p in_q of_x of_y stamps v b c in_x in_y some_x some_y. elim (same_or a.voter v) [
        | inr other ↦ (
            let was = older_at answers a voters x p f new of_x v b other some_x in
            let too = older_at answers a voters y q g new of_y v c other some_y in
            is.once x y p q was.0 too.0 in_p in_q was.1 too.1 stamps v b c in_x in_y was.2 too.2)
        | inl at ↦ elim (older answers a voters x p f new of_x) [
          | inr h ↦ same_new voters a (a ∷ answers) x y a.voter new (of_x.told a.voter a h.here h.is) stamps
              (spent y q g c in_q of_y (subst (λ (o : ℕ). IsOneOf o q) (sym at) in_y) (ap g at ∙ some_y))
          | inl was ↦ elim (older answers a voters y q g new of_y) [
            | inl too ↦ is.once x y p q f g in_p in_q was too stamps v b c in_x in_y some_x some_y
            | inr h ↦ (
                let same = same_new voters a (a ∷ answers) y x a.voter new (of_y.told a.voter a h.here h.is) (sym stamps)
                (spent x p f b in_p of_x (subst (λ (o : ℕ). IsOneOf o p) (sym at) in_x) (ap f at ∙ some_x)) in
                (sym same.0, sym same.1))
          ]
        ]
      ];
    }
