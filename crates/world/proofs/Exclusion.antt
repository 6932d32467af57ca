-- what is seen of clients that step one at a time
use Rattle.std.proofs.Common.{◌≡◌, ℕ, ◌<◌, ◌≤◌, Bool, true, false, cond, List, [], ◌∷◌, ◌++◌, length, Option, Some, None, refl, sym, ap, subst, ◌∙◌, inl, inr, arith, eqb}
use Rattle.std.specs.Prelude.{◌||◌}
use Rattle.std.specs.List.{list_all}
use Rattle.std.proofs.lemmas.Bool.{false≢true}
use Rattle.std.proofs.lemmas.Bool.Decides.{nat_tests}
use Rattle.std.proofs.lemmas.Option.{same_Some}
use Rattle.std.proofs.lemmas.List.{append-nil}
use Rattle.numbers.specs.Sets.{has}
use Rattle.message.specs.declared.message.Message.{Message}
use Rattle.voter.specs.declared.state.Grant.{Grant}
use Rattle.voter.specs.declared.state.VoterState.{VoterState}
use Rattle.requester.specs.declared.state.ClientState.{ClientState}
use Rattle.requester.specs.declared.state.Phase.{Phase}
use Rattle.requester.specs.declared.state.Phase.TheVariants.{Idle, Asking, Inside}
use Rattle.requester.specs.declared.state.Seen.{Seen}
use Rattle.requester.specs.declared.state.Seen.TheVariants.{Nothing, Entered, Left}
use Rattle.requester.specs.RequesterContract.{Sees}
use Rattle.requester.specs.Words.{is_idle, is_inside, members, holds, holds_under, held_of}
use Rattle.world_state.specs.declared.step.Event.{Event}
use Rattle.world_state.specs.Steps.{events}
use Rattle.world.specs.Visible.{DoMeet, GoesOn, IsAmong}
use Rattle.world.proofs.Claims.{Bounds, ClientOk, Names, WorldOk, put, put-each, put-same}

-- ---- nobody is inside together with another

pub list_all-holds : (x : ClientState) (q : List ℕ) (v : ℕ) → list_all (holds x) q ≡ true → has q v ≡ true → holds x v ≡ true
list_all-holds x [] v all is = absurd (false≢true is)
list_all-holds x (u ∷ us) v all is = elim (eqb u v) as (λ b. eqb u v ≡ b → (b || has us v) ≡ true → holds x v ≡ true) [
  | true ↦ λ e _. let same : u ≡ v = grind (arith, nat_tests) in subst (λ n. holds x n ≡ true) same (grind (arith, nat_tests))
  | false ↦ λ _ rest. list_all-holds x us v (grind (arith, nat_tests)) rest
] refl is

pub held_under : (x : ClientState) (v : ℕ) → holds x v ≡ true → holds_under x v (held_of x v) ≡ true
held_under x v is = grind (arith, nat_tests)

pub under_grant : (x : ClientState) (v : ℕ) → 1 ≤ held_of x v → holds_under x v (held_of x v) ≡ true
under_grant x v some = grind (arith, nat_tests)

pub inside_busy : (p : Phase) → is_inside p ≡ true → is_idle p ≡ false
inside_busy Idle e = absurd (false≢true e)
inside_busy Asking e = refl
inside_busy Inside e = refl

pub quorum_busy : (b : Bounds) (x : ClientState) → ClientOk b x → is_idle x.phase ≡ false → IsAmong b.quorums (members x)
quorum_busy b x ok busy = elim ok.quorum [
  | inl none ↦ let some = ok.sound.asked busy in let len = ap (λ (q : List ℕ). length q) none in absurd (omega arith)
  | inr among ↦ among
]

-- two clients that are inside, perhaps at different times, have the vote of one voter
pub common_vote : (b : Bounds) → DoMeet b.voters b.quorums → (x y : ClientState) → ClientOk b x → ClientOk b y → is_inside x.phase ≡ true → is_inside y.phase ≡ true
    → (v : ℕ) × (v < b.voters) × (holds x v ≡ true) × (holds y v ≡ true)
common_vote b meet x y ok_x ok_y in_x in_y =
    let j = quorum_busy b x ok_x (inside_busy x.phase in_x) in
    let k = quorum_busy b y ok_y (inside_busy y.phase in_y) in
    let both = meet.meets j.0 k.0 j.1 k.1 in
    let v = both.0 in (
      v,
      both.1,
      list_all-holds x (members x) v (ok_x.sound.inside in_x) (ap (λ (q : List ℕ). has q v) j.2 ∙ both.2),
      list_all-holds y (members y) v (ok_y.sound.inside in_y) (ap (λ (q : List ℕ). has q v) k.2 ∙ both.3),
    )

same_holder : (held : Option Grant) (c d s t g h : ℕ) → Names held c s g → Names held d t h → c ≡ d
same_holder held c d s t g h a b = ap (λ (k : Grant). k.client) (same_Some _ _ (sym a ∙ b))

pub one_inside : (b : Bounds) → DoMeet b.voters b.quorums → (X : ℕ → ClientState) (Y : ℕ → VoterState) (sent : List Message) → WorldOk b X Y sent
    → (c d : ℕ) → is_inside (X c).phase ≡ true → is_inside (X d).phase ≡ true → c ≡ d
one_inside b meet X Y sent ok c d in_c in_d =
    let both = common_vote b meet (X c) (X d) (ok.clients c) (ok.clients d) in_c in_d in
    let v = both.0 in
    same_holder (Y v).held c d _ _ _ _ (ok.held c v _ (held_under (X c) v both.2)) (ok.held d v _ (held_under (X d) v both.3))

-- ---- the visible list

-- who is inside after these events
abbrev pub inside_after : Option ℕ → List Event → Option ℕ
inside_after inside [] = inside
inside_after None (e ∷ es) = inside_after (Some e.client) es
inside_after (Some c) (e ∷ es) = inside_after None es

abbrev EntersOrIs : Option ℕ → Event → Type 0
EntersOrIs None e = e.entered ≡ true
EntersOrIs (Some c) e = (e.entered ≡ false) × (e.client ≡ c)

abbrev next_inside : Option ℕ → Event → Option ℕ
next_inside None e = Some e.client
next_inside (Some c) e = None

GoesOn-push : (o : Option ℕ) (es : List Event) (e : Event) → GoesOn o es → EntersOrIs (inside_after o es) e → GoesOn o (es ++ e ∷ [])
GoesOn-push None [] e h g = (g, tt)
GoesOn-push (Some c) [] e h g = (g.0, g.1, tt)
GoesOn-push None (x ∷ es) e h g = (h.0, GoesOn-push (Some x.client) es e h.1 g)
GoesOn-push (Some c) (x ∷ es) e h g = (h.0, h.1, GoesOn-push None es e h.2 g)

inside_after-push : (o : Option ℕ) (es : List Event) (e : Event) → inside_after o (es ++ e ∷ []) ≡ next_inside (inside_after o es) e
inside_after-push None [] e = refl
inside_after-push (Some c) [] e = refl
inside_after-push None (x ∷ es) e = inside_after-push (Some x.client) es e
inside_after-push (Some c) (x ∷ es) e = inside_after-push None es e

abbrev pub is_inside_by : Option ℕ → ℕ → Bool
is_inside_by None c = false
is_inside_by (Some d) c = eqb c d

-- the events are those of one client at a time, and who is inside is who entered last
pub record Walked (es : List Event) (X : ℕ → ClientState) : Type 0 where
  pub list : GoesOn None es
  pub inside : (c : ℕ) → is_inside (X c).phase ≡ is_inside_by (inside_after None es) c

eq_self : (c : ℕ) → eqb c c ≡ true
eq_self c = grind (arith, nat_tests)

both_in : (X : ℕ → ClientState) (c d : ℕ) (x : ClientState) → is_inside x.phase ≡ true → is_inside (X d).phase ≡ true → is_inside (put X c x d).phase ≡ true
both_in X c d x in_x in_d = elim (eqb d c) as (λ b. is_inside (cond b x (X d)).phase ≡ true) [ true ↦ in_x | false ↦ in_d ]

is_inside_by-nobody_else : (es : List Event) (X : ℕ → ClientState) (c : ℕ) (x : ClientState) (o : Option ℕ) → ((q : ℕ) → is_inside (X q).phase ≡ is_inside_by o q)
    → is_inside x.phase ≡ true → is_inside (X c).phase ≡ false → ((d : ℕ) → is_inside (put X c x c).phase ≡ true → is_inside (put X c x d).phase ≡ true → c ≡ d) → o ≡ None
is_inside_by-nobody_else es X c x None inside in_x out alone = refl
is_inside_by-nobody_else es X c x (Some d) inside in_x out alone =
    let in_d = inside d ∙ eq_self d in
    let same = alone d (ap (λ (y : ClientState). is_inside y.phase) (put-same X c x) ∙ in_x) (both_in X c d x in_x in_d) in
    absurd (false≢true (sym out ∙ ap (λ n. is_inside (X n).phase) same ∙ in_d))

is_inside_by-true : (c : ℕ) (o : Option ℕ) → is_inside_by o c ≡ true → o ≡ Some c
is_inside_by-true c None e = absurd (false≢true e)
is_inside_by-true c (Some d) e = let same : d ≡ c = grind (arith, nat_tests) in ap (λ (n : ℕ). Some n) same

pub Walked-step : (es : List Event) (X : ℕ → ClientState) (c : ℕ) (x : ClientState) (seen : Seen) → Walked es X → Sees (X c).phase seen x.phase
    → ((d : ℕ) → is_inside (put X c x c).phase ≡ true → is_inside (put X c x d).phase ≡ true → c ≡ d)
    → Walked (es ++ events c seen) (put X c x)
Walked-step es X c x Nothing h sees alone =
    subst (λ (l : List Event). Walked l (put X c x)) (sym (append-nil es))
    (record { list = h.list; inside = put-each (λ q y. is_inside y.phase ≡ is_inside_by (inside_after None es) q) X c x (sym sees ∙ h.inside c) h.inside })
Walked-step es X c x Entered h sees alone =
    let e : Event = record { client = c; entered = true } in
    let none = is_inside_by-nobody_else es X c x (inside_after None es) h.inside sees.1 sees.0 alone in
    record {
      list = GoesOn-push None es e h.list (subst (λ o. EntersOrIs o e) (sym none) refl);
      inside = λ q. elim (eqb q c) as (λ b. eqb q c ≡ b → is_inside (cond b x (X q)).phase ≡ b) [
        | true ↦ λ _. sees.1
        | false ↦ λ _. h.inside q ∙ ap (λ o. is_inside_by o q) none
      ] refl ∙ ap (λ o. is_inside_by o q) (sym (inside_after-push None es e ∙ ap (λ o. next_inside o e) none));
    }
Walked-step es X c x Left h sees alone =
    let e : Event = record { client = c; entered = false } in
    let self = is_inside_by-true c (inside_after None es) (sym (h.inside c) ∙ sees.0) in
    record {
      list = GoesOn-push None es e h.list (subst (λ o. EntersOrIs o e) (sym self) (refl, refl));
      inside = λ q. elim (eqb q c) as (λ b. eqb q c ≡ b → is_inside (cond b x (X q)).phase ≡ false) [
        | true ↦ λ _. sees.1
        | false ↦ λ apart. h.inside q ∙ ap (λ o. is_inside_by o q) self ∙ apart
      ] refl ∙ ap (λ o. is_inside_by o q) (sym (inside_after-push None es e ∙ ap (λ o. next_inside o e) self));
    }
