-- what a row was before, and one voter's stamps
use Rattle.std.proofs.Common.{◌≡◌, ℕ, ◌<◌, ◌≤◌, Bool, true, false, List, [], ◌∷◌, refl, sym, ap, subst, ◌∙◌, ◌⊎◌, inl, inr, Option, Some, None, arith}
use Rattle.std.specs.Prelude.{◌==◌, ◌&&◌, ◌||◌, is_none, max, nat_le, nat_lt, if◌then◌else◌}
use Rattle.std.proofs.lemmas.Bool.{and_parts, false≢true}
use Rattle.std.proofs.lemmas.Option.{none-some, same_Some}
use Rattle.std.proofs.lemmas.Bool.Decides.{nat_tests}
use Rattle.sessions.specs.Rows.{AreOnce, Claim, Close, Crash, Deed, Drop, IsOneOf, Request, Reserve, Row, Save, TakeBack, Use, Voter, begin, claimed, closed, does, does_all, dropped, has_number, is_name, is_new, is_taken, reserved, taken_back}

pub at_least : (a c m : ℕ) → m ≡ max a c → (a ≤ m) × (c ≤ m)
at_least a c m e = (omega arith, omega arith)

-- Others may claim the epoch of the row: nobody has it, and it may be claimed again, or its session is one that
-- takes its claim back (`T session epoch`).
abbrev pub Lets : (ℕ → ℕ → Type 0) → Row → Type 0
Lets T a = ((a.session ≡ None) × (a.again ≡ true)) ⊎ ((s : ℕ) × (a.session ≡ Some s) × T s a.epoch)

-- the number had another claim then, and all that was reserved is below the base
pub record IsPast (T : ℕ → ℕ → Type 0) (a b : Row) : Type 0 where
  pub older : a.epoch ≤ b.epoch
  pub below : a.reserved ≤ b.base
  pub grows : a.reserved ≤ b.reserved
  pub lets : a.epoch ≡ b.epoch → Lets T a

-- the number had the same session then
pub record IsSame (a b : Row) : Type 0 where
  pub epoch : a.epoch ≡ b.epoch
  pub session : a.session ≡ b.session
  pub base : a.base ≡ b.base
  pub grows : a.reserved ≤ b.reserved
  pub again : a.again ≡ b.again

-- the number is nobody's now
pub record IsFree (T : ℕ → ℕ → Type 0) (a b : Row) : Type 0 where
  pub nobody : b.session ≡ None
  pub older : a.epoch ≤ b.epoch
  pub grows : a.reserved ≤ b.reserved
  pub lets : a.epoch ≡ b.epoch → b.again ≡ true → Lets T a

-- what a row was before
abbrev pub Before : (ℕ → ℕ → Type 0) → Row → Row → Type 0
Before T a b = IsPast T a b ⊎ (IsSame a b ⊎ IsFree T a b)

pub unchanged : (T : ℕ → ℕ → Type 0) (r : Row) → Before T r r
unchanged T r = inr (inl (record { epoch = refl; session = refl; base = refl; grows = omega arith; again = refl }))

-- the same of a row that has the same session
lets_same : (T : ℕ → ℕ → Type 0) (a b : Row) → IsSame a b → Lets T b → Lets T a
lets_same T a b p l = elim l [
  | inl free ↦ inl (p.session ∙ free.0, p.again ∙ free.1)
  | inr took ↦ inr (took.0, p.session ∙ took.1, subst (λ (e : ℕ). T took.0 e) (sym p.epoch) took.2)
]

-- the epoch of a row that is nobody's may be claimed again
lets_again : (T : ℕ → ℕ → Type 0) (r : Row) → r.session ≡ None → Lets T r → r.again ≡ true
lets_again T r nobody l = elim l [
  | inl free ↦ free.1
  | inr took ↦ absurd (none-some took.0 (sym nobody ∙ took.1))
]

after_past : (T : ℕ → ℕ → Type 0) (a b c : Row) → IsPast T a b → Before T b c → Before T a c
after_past T a b c p bc =
    let older = p.older in
    let below = p.below in
    let grows = p.grows in
    elim bc [
      | inl q ↦ (let more = q.older in let past = q.below in let up = q.grows in inl (record { older = omega arith; below = omega arith; grows = omega arith; lets = λ e. p.lets (omega arith) }))
      | inr rest ↦ elim rest [
        | inl q ↦ (let same = q.epoch in let base = q.base in let up = q.grows in inl (record { older = omega arith; below = omega arith; grows = omega arith; lets = λ e. p.lets (omega arith) }))
        | inr q ↦ (let more = q.older in let up = q.grows in inr (inr (record { nobody = q.nobody; older = omega arith; grows = omega arith; lets = λ e is. p.lets (omega arith) })))
      ]
    ]

after_same : (T : ℕ → ℕ → Type 0) (a b c : Row) → IsSame a b → Before T b c → Before T a c
after_same T a b c p bc =
    let same = p.epoch in
    let base = p.base in
    let grows = p.grows in
    elim bc [
      | inl q ↦ (let more = q.older in let past = q.below in let up = q.grows in
          inl (record { older = omega arith; below = omega arith; grows = omega arith; lets = λ e. lets_same T a b p (q.lets (sym p.epoch ∙ e)) }))
      | inr rest ↦ elim rest [
        | inl q ↦ (let more = q.grows in
            inr (inl (record { epoch = p.epoch ∙ q.epoch; session = p.session ∙ q.session; base = p.base ∙ q.base; grows = omega arith; again = p.again ∙ q.again })))
        | inr q ↦ (let more = q.older in let further = q.grows in
            inr (inr (record { nobody = q.nobody; older = omega arith; grows = omega arith; lets = λ e is. lets_same T a b p (q.lets (sym p.epoch ∙ e) is) })))
      ]
    ]

after_free : (T : ℕ → ℕ → Type 0) (a b c : Row) → IsFree T a b → Before T b c → Before T a c
after_free T a b c p bc =
    let older = p.older in
    let grows = p.grows in
    elim bc [
      | inl q ↦ (let more = q.older in let past = q.below in let up = q.grows in inl (record {
        older = omega arith;
        below = omega arith;
        grows = omega arith;
        lets = λ e. p.lets (omega arith) (lets_again T b p.nobody (q.lets (omega arith)));
      }))
      | inr rest ↦ elim rest [
        | inl q ↦ (let same = q.epoch in let more = q.grows in
            inr (inr (record { nobody = sym q.session ∙ p.nobody; older = omega arith; grows = omega arith; lets = λ e is. p.lets (omega arith) (q.again ∙ is) })))
        | inr q ↦ (let more = q.older in let further = q.grows in inr (inr (record {
          nobody = q.nobody;
          older = omega arith;
          grows = omega arith;
          lets = λ e is. p.lets (omega arith) (lets_again T b p.nobody (q.lets (omega arith) is));
        })))
      ]
    ]

pub further : (T : ℕ → ℕ → Type 0) (a b c : Row) → Before T a b → Before T b c → Before T a c
further T a b c ab bc = elim ab [
  | inl p ↦ after_past T a b c p bc
  | inr rest ↦ elim rest [
    | inl p ↦ after_same T a b c p bc
    | inr p ↦ after_free T a b c p bc
  ]
]

-- each step: the row was before what it makes of it

named : (o : Option ℕ) (session : ℕ) → is_name o session ≡ true → o ≡ Some session
named None session is = absurd (false≢true is)
named (Some name) session is = (let e : name ≡ session = grind (arith, nat_tests) in ap (λ (n : ℕ). Some n) e)

free_of : (o : Option ℕ) → is_none o ≡ true → o ≡ None
free_of None is = refl
free_of (Some name) is = absurd (false≢true is)

-- a claim that may come: of a newer epoch, or of one that may be claimed again
new_claim : (T : ℕ → ℕ → Type 0) (r : Row) (epoch : ℕ) (newer : Bool) → nat_lt r.epoch epoch ≡ newer
    → newer || ((r.epoch == epoch) && (r.again && is_none r.session)) ≡ true → (r.epoch ≤ epoch) × (r.epoch ≡ epoch → Lets T r)
new_claim T r epoch true e is =
    let more : r.epoch < epoch = grind (arith, nat_tests) in
    (omega arith, λ at. absurd (omega arith))
new_claim T r epoch false e is =
    let parts = and_parts (r.epoch == epoch) (r.again && is_none r.session) is in
    let free = and_parts r.again (is_none r.session) parts.1 in
    let at : r.epoch ≡ epoch = (let h = parts.0 in grind (arith, nat_tests)) in
    (omega arith, λ at. inl (free_of r.session free.1, free.0))

claim_goes : (T : ℕ → ℕ → Type 0) (r : Row) (session epoch : ℕ) (t : Bool) → is_new r epoch ≡ t
    → Before T r (if t then record { epoch = epoch; session = Some session; base = r.reserved; reserved = r.reserved; again = false } else r)
claim_goes T r session epoch false e = unchanged T r
claim_goes T r session epoch true e =
    let new = new_claim T r epoch (nat_lt r.epoch epoch) refl e in
    inl (record { older = new.0; below = omega arith; grows = omega arith; lets = new.1 })

pub claimed_goes : (T : ℕ → ℕ → Type 0) (r : Row) (session epoch : ℕ) → Before T r (claimed r session epoch)
claimed_goes T r session epoch = claim_goes T r session epoch (is_new r epoch) refl

reserve_goes : (T : ℕ → ℕ → Type 0) (r : Row) (stamp : ℕ) (t : Bool)
    → Before T r (if t then record { epoch = r.epoch; session = r.session; base = r.base; reserved = max r.reserved stamp; again = r.again } else r)
reserve_goes T r stamp false = unchanged T r
reserve_goes T r stamp true =
    let up = (at_least r.reserved stamp (max r.reserved stamp) refl).0 in
    inr (inl (record { epoch = refl; session = refl; base = refl; grows = up; again = refl }))

pub reserved_goes : (T : ℕ → ℕ → Type 0) (r : Row) (session epoch stamp : ℕ) → Before T r (reserved r session epoch stamp)
reserved_goes T r session epoch stamp = reserve_goes T r stamp (has_number r session epoch)

close_goes : (T : ℕ → ℕ → Type 0) (r : Row) (t : Bool)
    → Before T r (if t then record { epoch = r.epoch; session = None; base = r.base; reserved = r.reserved; again = false } else r)
close_goes T r false = unchanged T r
close_goes T r true = inr (inr (record { nobody = refl; older = omega arith; grows = omega arith; lets = λ e is. absurd (false≢true is) }))

pub closed_goes : (T : ℕ → ℕ → Type 0) (r : Row) (session epoch : ℕ) → Before T r (closed r session epoch)
closed_goes T r session epoch = close_goes T r (has_number r session epoch)

take_back_goes : (T : ℕ → ℕ → Type 0) (r : Row) (session epoch : ℕ) (t : Bool) → has_number r session epoch ≡ t → T session epoch
    → Before T r (if t then record { epoch = r.epoch; session = None; base = r.base; reserved = r.reserved; again = true } else r)
take_back_goes T r session epoch false e took = unchanged T r
take_back_goes T r session epoch true e took =
    let parts = and_parts (r.epoch == epoch) (is_name r.session session) e in
    let at : epoch ≡ r.epoch = (let h = parts.0 in grind (arith, nat_tests)) in
    inr (inr (record {
      nobody = refl;
      older = omega arith;
      grows = omega arith;
      lets = λ same is. inr (session, named r.session session parts.1, subst (λ (x : ℕ). T session x) at took);
    }))

pub taken_back_goes : (T : ℕ → ℕ → Type 0) (r : Row) (session epoch : ℕ) → T session epoch → Before T r (taken_back r session epoch)
taken_back_goes T r session epoch took = take_back_goes T r session epoch (has_number r session epoch) refl took

pub dropped_goes : (T : ℕ → ℕ → Type 0) (r : Row) (epoch stamp : ℕ) → Before T r (dropped r epoch stamp)
dropped_goes T r epoch stamp =
    let newer = (at_least r.epoch epoch (max r.epoch epoch) refl).0 in
    let up = (at_least r.reserved stamp (max r.reserved stamp) refl).0 in
    inr (inr (record {
      nobody = refl;
      older = newer;
      grows = up;
      lets = λ e is.
          let free = and_parts r.again (is_none r.session) (and_parts (nat_le epoch r.epoch) (r.again && is_none r.session) is).1 in
          inl (free_of r.session free.1, free.0);
    }))

-- ---- one voter alone

-- who takes a claim back does not matter here
abbrev Anybody : ℕ → ℕ → Type 0
Anybody session epoch = Unit {0}

-- the stamp is the session's at the row, or past, or nobody has the number
pub record IsSpent (u : Use) (r : Row) : Type 0 where
  pub few : u.stamp ≤ r.reserved
  pub of : ((r.session ≡ Some u.session) × (u.epoch ≡ r.epoch)) ⊎ ((u.stamp ≤ r.base) ⊎ (r.session ≡ None))

spent_on : (u : Use) (a b : Row) → Before Anybody a b → IsSpent u a → IsSpent u b
spent_on u a b ab is =
    let few = is.few in
    elim ab [
      | inl p ↦ (let below = p.below in let grows = p.grows in record { few = omega arith; of = inr (inl (omega arith)) })
      | inr rest ↦ elim rest [
        | inl p ↦ (let grows = p.grows in let base = p.base in record {
          few = omega arith;
          of = elim is.of [
            | inl same ↦ inl (sym p.session ∙ same.0, same.1 ∙ p.epoch)
            | inr over ↦ elim over [
              | inl past ↦ inr (inl (omega arith))
              | inr nobody ↦ inr (inr (sym p.session ∙ nobody))
            ]
          ];
        })
        | inr p ↦ (let grows = p.grows in record { few = omega arith; of = inr (inr p.nobody) })
      ]
    ]

pub record IsTaken (r : Row) (session epoch stamp : ℕ) : Type 0 where
  pub of_session : r.session ≡ Some session
  pub of_epoch : epoch ≡ r.epoch
  pub above : r.base < stamp
  pub few : stamp ≤ r.reserved

taken : (r : Row) (session epoch stamp : ℕ) → is_taken r session epoch stamp ≡ true → IsTaken r session epoch stamp
taken r session epoch stamp is =
    let parts = and_parts (has_number r session epoch) (nat_lt r.base stamp && nat_le stamp r.reserved) is in
    let names = and_parts (r.epoch == epoch) (is_name r.session session) parts.0 in
    let ends = and_parts (nat_lt r.base stamp) (nat_le stamp r.reserved) parts.1 in
    record {
      of_session = named r.session session names.1;
      of_epoch = (let h = names.0 in grind (arith, nat_tests));
      above = (let h = ends.0 in grind (arith, nat_tests));
      few = (let h = ends.1 in grind (arith, nat_tests));
    }

-- uses that are each of one session, and spent at the row
pub record AreOf (uses : List Use) (r : Row) : Type 0 where
  pub once : AreOnce uses
  pub spent : (u : Use) → IsOneOf u uses → IsSpent u r

of_next : (uses : List Use) (a b : Row) → Before Anybody a b → AreOf uses a → AreOf uses b
of_next uses a b ab of = record { once = of.once; spent = λ u among. spent_on u a b ab (of.spent u among) }

same_taken : (u x : Use) (r : Row) → IsSpent u r → IsTaken r x.session x.epoch x.stamp → u.stamp ≡ x.stamp → (u.session ≡ x.session) × (u.epoch ≡ x.epoch)
same_taken u x r is t at = elim is.of [
  | inl same ↦ (same_Some u.session x.session (sym same.0 ∙ t.of_session), same.1 ∙ sym t.of_epoch)
  | inr over ↦ elim over [
    | inl past ↦ (let above = t.above in absurd (omega arith))
    | inr nobody ↦ absurd (none-some x.session (sym nobody ∙ t.of_session))
  ]
]

spent_now : (u : Use) (r : Row) → IsTaken r u.session u.epoch u.stamp → IsSpent u r
spent_now u r t = record { few = t.few; of = inl (t.of_session, t.of_epoch) }

spent_same : (u x : Use) (r : Row) → u ≡ x → IsSpent x r → IsSpent u r
spent_same u x r e is = subst (λ (y : Use). IsSpent y r) (sym e) is

once_more : (uses : List Use) (x : Use) (r : Row) → IsTaken r x.session x.epoch x.stamp → AreOf uses r → AreOf (x ∷ uses) r
once_more uses x r t of = record {
  once = λ first second in_first in_second at. elim in_first [
    | inl one ↦ elim in_second [
      | inl two ↦ (ap (λ (u : Use). u.session) (one ∙ sym two), ap (λ (u : Use). u.epoch) (one ∙ sym two))
      | inr two ↦ (
          let same = same_taken second x r (of.spent second two) t (sym at ∙ ap (λ (u : Use). u.stamp) one) in
          (ap (λ (u : Use). u.session) one ∙ sym same.0, ap (λ (u : Use). u.epoch) one ∙ sym same.1))
    ]
    | inr one ↦ elim in_second [
      | inl two ↦ (
          let same = same_taken first x r (of.spent first one) t (at ∙ ap (λ (u : Use). u.stamp) two) in
          (same.0 ∙ sym (ap (λ (u : Use). u.session) two), same.1 ∙ sym (ap (λ (u : Use). u.epoch) two)))
      | inr two ↦ of.once first second one two at
    ]
  ];
  spent = λ u among. elim among [
    | inl one ↦ spent_same u x r one (spent_now x r t)
    | inr two ↦ of.spent u two
  ];
}

request_of : (uses : List Use) (r : Row) (session epoch stamp : ℕ) (t : Bool) → is_taken r session epoch stamp ≡ t → AreOf uses r
    → AreOf (if t then record { session = session; epoch = epoch; stamp = stamp } ∷ uses else uses) r
request_of uses r session epoch stamp false e of = of
request_of uses r session epoch stamp true e of = once_more uses (record { session = session; epoch = epoch; stamp = stamp }) r (taken r session epoch stamp e) of

pub record IsRight (v : Voter) : Type 0 where
  pub took : AreOf v.took v.live
  pub kept : AreOf v.kept v.saved

-- of a voter whose live row alone changed
right_next : (v : Voter) (r : Row) → Before Anybody v.live r → IsRight v → IsRight (record { live = r; saved = v.saved; took = v.took; kept = v.kept })
right_next v r goes is = record { took = of_next v.took v.live r goes is.took; kept = is.kept }

right_after : (v : Voter) (d : Deed) → IsRight v → IsRight (does v d)
right_after v (Claim session epoch) is = right_next v (claimed v.live session epoch) (claimed_goes Anybody v.live session epoch) is
right_after v (Reserve session epoch stamp) is = right_next v (reserved v.live session epoch stamp) (reserved_goes Anybody v.live session epoch stamp) is
right_after v (Close session epoch) is = right_next v (closed v.live session epoch) (closed_goes Anybody v.live session epoch) is
right_after v (TakeBack session epoch) is = right_next v (taken_back v.live session epoch) (taken_back_goes Anybody v.live session epoch tt) is
right_after v (Drop epoch stamp) is = right_next v (dropped v.live epoch stamp) (dropped_goes Anybody v.live epoch stamp) is
right_after v (Request session epoch stamp) is =
    record { took = request_of v.took v.live session epoch stamp (is_taken v.live session epoch stamp) refl is.took; kept = is.kept }
right_after v Save is = record { took = is.took; kept = is.took }
right_after v Crash is = record { took = is.kept; kept = is.kept }

right_all : (v : Voter) (ds : List Deed) → IsRight v → IsRight (does_all v ds)
right_all v [] is = is
right_all v (d ∷ ds) is = right_all (does v d) ds (right_after v d is)

none_of : (r : Row) → AreOf [] r
none_of r = record { once = λ first second one two at. absurd one; spent = λ u one. absurd one }

pub own : (r : Row) (ds : List Deed) → AreOnce (does_all (begin r) ds).took
own r ds = (right_all (begin r) ds (record { took = none_of r; kept = none_of r })).took.once
