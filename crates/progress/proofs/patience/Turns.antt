-- how often clients begin and stop to ask
use Rattle.std.proofs.Common.{◌≡◌, ◌≢◌, ℕ, zero, suc, ◌+◌, ◌*◌, ◌<◌, ◌≤◌, Bool, true, false, cond, eqb, List, [], ◌∷◌, ◌++◌, Ok, refl, sym, ap, subst, ◌∙◌, inl, inr, arith, append_assoc}
use Rattle.std.proofs.lemmas.Bool.{cases_eq, false≢true}
use Rattle.std.proofs.lemmas.Bool.Decides.{nat_tests}
use Rattle.std.proofs.lemmas.List.{append-nil, append_cancel_left}
use Rattle.numbers.specs.Sums.{sum_below}
use Rattle.numbers.proofs.SumsBelow.{sum_below-add, sum_below-zero}
use Rattle.requester.specs.declared.state.ClientState.{ClientState}
use Rattle.requester.specs.declared.state.Phase.{Phase}
use Rattle.requester.specs.declared.state.Phase.TheVariants.{Idle, Asking, Inside}
use Rattle.requester.specs.declared.state.Seen.{Seen}
use Rattle.requester.specs.declared.state.Seen.TheVariants.{Nothing, Entered, Left}
use Rattle.requester.specs.RequesterContract.{KeepsQuorum, Sees}
use Rattle.requester.specs.Steps as requester
use Rattle.requester.specs.Words.{is_asking, is_idle, is_inside}
use Rattle.requester.proofs.Messages.{KeepsRequest-take}
use Rattle.requester.proofs.RangeLemmas.{is_inside-busy}
use Rattle.requester.proofs.SoundSteps.{ask-Ok as ask_ok, give_up-Ok, is_asking-busy, is_asking-outside, leave-Ok}
use Rattle.world_state.specs.declared.step.Event.{Event}
use Rattle.world_state.specs.declared.step.Step.{Step}
use Rattle.world_state.specs.declared.step.Step.TheVariants.{Ask, Deliver, Leave, GiveUp, RemindClient, RemindVoter, Exchange}
use Rattle.world.specs.Coherence.{IsCoherent}
use Rattle.world.specs.Runs.{run_of}
use Rattle.world_state.specs.Steps.{Dealing, WorldState, client_at, events}
use Rattle.world.specs.Visible.{entries_of}
use Rattle.progress.specs.Rounds.{DoesNotGiveUp, give_up, give_ups_in}
use Rattle.progress.specs.Rules.{Laws}
use Rattle.progress.proofs.run.Along.{next}
use Rattle.progress.proofs.overtaking.Behind.{meets}
use Rattle.progress.proofs.overtaking.Counting.{entries_of-append, left_not_entered, not_entered, one_entered}
use Rattle.progress.proofs.invariants.Fitting.{take-Ok}
use Rattle.progress.proofs.run.Moves.{Makes, MovedBy, MovedBy-step}
use Rattle.progress.proofs.invariants.Outstanding.{step-GivesUp, step-Leaves}
use Rattle.progress.proofs.invariants.Sure.{Course, IsSure, IsSure-after}

-- ---- how often

-- 1 if these differ, else 0
abbrev pub turn : Bool → Bool → ℕ
turn true true = 0
turn true false = 1
turn false true = 1
turn false false = 0

-- 1 for true, 0 for false
abbrev pub one_if : Bool → ℕ
one_if true = 1
one_if false = 0

abbrev pub asks_at : WorldState → ℕ → Bool
asks_at x d = is_asking (client_at x.clients d).phase

-- how often the client begins or stops to ask in these steps
abbrev pub turns : Dealing → ℕ → List Step → WorldState → ℕ
turns deal d [] x = 0
turns deal d (s ∷ steps) x = turn (asks_at x d) (asks_at (next deal x s) d) + turns deal d steps (next deal x s)

-- 1 if the step is a withdrawal of this client, else 0
abbrev pub own_give_up : ℕ → Step → ℕ
own_give_up d (Ask c) = 0
own_give_up d (Deliver k) = 0
own_give_up d (Leave c) = 0
own_give_up d (GiveUp c) = cond (eqb c d) 1 0
own_give_up d (RemindClient c) = 0
own_give_up d (RemindVoter v) = 0
own_give_up d Exchange = 0

abbrev pub own_give_ups : ℕ → List Step → ℕ
own_give_ups d [] = 0
own_give_ups d (s ∷ steps) = own_give_up d s + own_give_ups d steps

-- ---- who stops to ask has entered, or gave up

entered_by : (before after : Phase) (who : ℕ) (seen : Seen) → Sees before seen after → is_inside before ≡ false → is_inside after ≡ true → 1 ≤ entries_of who (events who seen)
entered_by before after who Nothing sees out now = absurd (false≢true (sym out ∙ sees ∙ now))
entered_by before after who Entered sees out now = (let one = one_entered who in omega arith)
entered_by before after who Left sees out now = absurd (false≢true (sym out ∙ sees.0))

pub inside_by : (q : Phase) → is_idle q ≡ false → is_asking q ≡ false → is_inside q ≡ true
inside_by Idle busy not = absurd (false≢true (sym busy))
inside_by Asking busy not = absurd (false≢true (sym not))
inside_by Inside busy not = refl

pub step-Asks : (x : ClientState) (q : List ℕ) (o : requester.Outcome) → requester.step x (requester.Asks q) ≡ Ok o → is_idle x.phase ≡ true
unfolding requester.step
step-Asks x q o e = (ask_ok x q o e).0

stops_by : (s : Step) (who : ℕ) (x : ClientState) (cause : requester.Cause) (o : requester.Outcome) → Makes s who cause → requester.step x cause ≡ Ok o → KeepsQuorum x cause o.state → Sees x.phase o.seen o.state.phase
    → is_asking x.phase ≡ true → is_asking o.state.phase ≡ false → 1 ≤ entries_of who (events who o.seen) + own_give_up who s
stops_by s who x (requester.Asks q) o makes step keeps sees asks not = absurd (false≢true (sym (is_asking-busy x.phase asks) ∙ step-Asks x q o step))
stops_by s who x (requester.Takes m) o makes step keeps sees asks not =
    let now = inside_by o.state.phase (keeps.1 ∙ is_asking-busy x.phase asks) not in
    let one = entered_by x.phase o.state.phase who o.seen sees (is_asking-outside x.phase asks) now in
    omega arith
stops_by s who x requester.Leaves o makes step keeps sees asks not = absurd (false≢true (sym (is_asking-outside x.phase asks) ∙ (leave-Ok x o (step-Leaves x o step)).0))
stops_by s who x requester.GivesUp o makes step keeps sees asks not =
    let one : own_give_up who s ≡ 1 = ap (own_give_up who) makes ∙ (let same : eqb who who ≡ true = grind (arith, nat_tests) in ap (λ b. cond b 1 0) same) in
    omega arith

pub asks_then : (x : ClientState) (q : List ℕ) (o : requester.Outcome) → requester.step x (requester.Asks q) ≡ Ok o → is_asking o.state.phase ≡ true
unfolding requester.step
asks_then x q o e = ap (λ (r : requester.Outcome). is_asking r.state.phase) (sym (ask_ok x q o e).2)

-- who enters asked before
asked_first : (x : ClientState) (cause : requester.Cause) (o : requester.Outcome) → requester.step x cause ≡ Ok o → KeepsQuorum x cause o.state → is_inside x.phase ≡ false → is_inside o.state.phase ≡ true
    → is_asking x.phase ≡ true
asked_first x (requester.Asks q) o step keeps out now = absurd (false≢true (sym (is_asking-outside o.state.phase (asks_then x q o step)) ∙ now))
asked_first x (requester.Takes m) o step keeps out now = by (is_asking x.phase) refl
  where
    by : (b : Bool) → is_asking x.phase ≡ b → is_asking x.phase ≡ true
    by true is = is
    by false not = absurd (false≢true (sym out ∙ inside_by x.phase (sym keeps.1 ∙ is_inside-busy o.state.phase now) not))
asked_first x requester.Leaves o step keeps out now = absurd (false≢true (sym (is_inside-busy o.state.phase now) ∙ keeps.1))
asked_first x requester.GivesUp o step keeps out now = absurd (false≢true (sym (is_inside-busy o.state.phase now) ∙ keeps.1))

inside_not : (q : Phase) → is_inside q ≡ true → is_asking q ≡ false
inside_not Idle inside = absurd (false≢true inside)
inside_not Asking inside = absurd (false≢true inside)
inside_not Inside inside = refl

entries_turn : (who : ℕ) (x : ClientState) (cause : requester.Cause) (o : requester.Outcome) (seen : Seen) → requester.step x cause ≡ Ok o → KeepsQuorum x cause o.state → Sees x.phase seen o.state.phase
    → entries_of who (events who seen) ≤ turn (is_asking x.phase) (is_asking o.state.phase)
entries_turn who x cause o Nothing step keeps sees = omega arith
entries_turn who x cause o Left step keeps sees = (let none = left_not_entered who in omega arith)
entries_turn who x cause o Entered step keeps sees =
    let one = one_entered who in
    let asked = asked_first x cause o step keeps sees.0 sees.1 in
    let turned : turn (is_asking x.phase) (is_asking o.state.phase) ≡ 1 = (λ i. turn (asked i) (inside_not o.state.phase sees.1 i)) in
    omega arith

-- what is seen of a step
pub record ShowsStep (s : Step) (x y : WorldState) : Type 0 where
  pub more : List Event
  pub visible : y.visible ≡ x.visible ++ more
  pub stops : (d : ℕ) → asks_at x d ≡ true → asks_at y d ≡ false → 1 ≤ entries_of d more + own_give_up d s
  pub enters : (d : ℕ) → entries_of d more ≤ turn (asks_at x d) (asks_at y d)

shows : (laws : Laws) (s : Step) (x y : WorldState) → IsCoherent x → IsCoherent y → MovedBy s x y → ShowsStep s x y
shows laws s x y ok now moved = elim moved [
  | inl client ↦
      let k = client.0 in
      let contract = meets laws.client x y ok now k in
      record {
        more = events k.who k.outcome.seen;
        visible = k.visible;
        stops = λ d asks not. elim (cases_eq d k.who) [
          | inl same ↦ subst (λ i. 1 ≤ entries_of i (events k.who k.outcome.seen) + own_give_up i s) (sym same)
              (stops_by s k.who (client_at x.clients k.who) k.cause k.outcome client.1 k.step contract.quorum contract.seen
              (ap (asks_at x) (sym same) ∙ asks) (ap (λ (z : ClientState). is_asking z.phase) (sym k.here) ∙ ap (asks_at y) (sym same) ∙ not))
          | inr other ↦ absurd (false≢true (sym not ∙ ap (λ (z : ClientState). is_asking z.phase) (k.others d other) ∙ asks))
        ];
        enters = λ d. elim (cases_eq d k.who) [
          | inl same ↦ subst (λ i. entries_of i (events k.who k.outcome.seen) ≤ turn (asks_at x i) (asks_at y i)) (sym same)
              (subst (λ (z : ClientState). entries_of k.who (events k.who k.outcome.seen) ≤ turn (asks_at x k.who) (is_asking z.phase)) (sym k.here)
              (entries_turn k.who (client_at x.clients k.who) k.cause k.outcome k.outcome.seen k.step contract.quorum contract.seen))
          | inr other ↦ (let none = not_entered d k.who k.outcome.seen other in omega arith)
        ];
      }
  | inr (inl voter) ↦ record {
    more = [];
    visible = voter.0.visible ∙ sym (append-nil x.visible);
    stops = λ d asks not. absurd (false≢true (sym not ∙ ap (λ (cs : List ClientState). is_asking (client_at cs d).phase) voter.0.clients ∙ asks));
    enters = λ d. omega arith;
  }
  | inr (inr sent) ↦ record {
    more = [];
    visible = sent.visible ∙ sym (append-nil x.visible);
    stops = λ d asks not. absurd (false≢true (sym not ∙ ap (λ (cs : List ClientState). is_asking (client_at cs d).phase) sent.clients ∙ asks));
    enters = λ d. omega arith;
  }
]

one_turn : (a b : Bool) (n : ℕ) → (a ≡ true → b ≡ false → 1 ≤ n) → turn a b + one_if a ≤ 2 * n + one_if b
one_turn true true n stops = omega arith
one_turn true false n stops = (let one = stops refl refl in omega arith)
one_turn false true n stops = omega arith
one_turn false false n stops = omega arith

-- ---- over a run

-- what is seen of these steps, and how often clients turn in them
pub record TurnCounts (deal : Dealing) (steps : List Step) (x : WorldState) : Type 0 where
  pub more : List Event
  pub visible : (run_of deal steps x).visible ≡ x.visible ++ more
  pub most : (d : ℕ) → turns deal d steps x + one_if (asks_at x d) ≤ 2 * (entries_of d more + own_give_ups d steps) + one_if (asks_at (run_of deal steps x) d)
  pub enters : (d : ℕ) → entries_of d more ≤ turns deal d steps x

counts : (laws : Laws) (p : Course) (steps : List Step) (x : WorldState) → IsSure p x → TurnCounts p.deal steps x
counts laws p [] x r = record { more = []; visible = sym (append-nil x.visible); most = λ d. omega arith; enters = λ d. omega arith }
counts laws p (s ∷ steps) x r =
    let deal = p.deal in
    let ok = (r []).coherent in
    let y = next deal x s in
    let then_reached = IsSure-after p x r s in
    let first = shows laws s x y ok (then_reached []).coherent (MovedBy-step deal x ok.numbered s) in
    let rest = counts laws p steps y then_reached in
    record {
      more = first.more ++ rest.more;
      visible = rest.visible ∙ ap (λ es. es ++ rest.more) first.visible ∙ append_assoc x.visible first.more rest.more;
      most = λ d.
          let a = one_turn (asks_at x d) (asks_at y d) (entries_of d first.more + own_give_up d s) (first.stops d) in
          let b = rest.most d in
          let both = entries_of-append d first.more rest.more in
          omega arith;
      enters = λ d. (let a = first.enters d in let b = rest.enters d in let both = entries_of-append d first.more rest.more in omega arith);
    }

pub turns_most : (laws : Laws) (p : Course) (steps : List Step) (x : WorldState) (more : List Event) → IsSure p x → (run_of p.deal steps x).visible ≡ x.visible ++ more
    → (d : ℕ) → turns p.deal d steps x + one_if (asks_at x d) ≤ 2 * (entries_of d more + own_give_ups d steps) + one_if (asks_at (run_of p.deal steps x) d)
turns_most laws p steps x more r visible d =
    let c = counts laws p steps x r in
    let same : c.more ≡ more = append_cancel_left x.visible c.more more (sym c.visible ∙ visible) in
    subst (λ es. turns p.deal d steps x + one_if (asks_at x d) ≤ 2 * (entries_of d es + own_give_ups d steps) + one_if (asks_at (run_of p.deal steps x) d)) same (c.most d)

-- who enters turns
pub entries_most : (laws : Laws) (p : Course) (steps : List Step) (x : WorldState) (more : List Event) → IsSure p x → (run_of p.deal steps x).visible ≡ x.visible ++ more → (d : ℕ)
    → entries_of d more ≤ turns p.deal d steps x
entries_most laws p steps x more r visible d =
    let c = counts laws p steps x r in
    let same : c.more ≡ more = append_cancel_left x.visible c.more more (sym c.visible ∙ visible) in
    subst (λ es. entries_of d es ≤ turns p.deal d steps x) same (c.enters d)

-- what is seen of any steps
pub shown : (laws : Laws) (p : Course) (steps : List Step) (x : WorldState) → IsSure p x → (more : List Event) × ((run_of p.deal steps x).visible ≡ x.visible ++ more)
shown laws p steps x r = (let c = counts laws p steps x r in (c.more, c.visible))

pub turns-append : (deal : Dealing) (d : ℕ) (a b : List Step) (x : WorldState) → turns deal d (a ++ b) x ≡ turns deal d a x + turns deal d b (run_of deal a x)
turns-append deal d [] b x = omega arith
turns-append deal d (s ∷ a) b x = (let rest = turns-append deal d a b (next deal x s) in omega arith)

pub own_give_ups-append : (d : ℕ) (a b : List Step) → own_give_ups d (a ++ b) ≡ own_give_ups d a + own_give_ups d b
own_give_ups-append d [] b = omega arith
own_give_ups-append d (s ∷ a) b = (let rest = own_give_ups-append d a b in omega arith)

none_own : (c : ℕ) (s : Step) → s ≢ GiveUp c → own_give_up c s ≡ 0
none_own c (Ask d) other = refl
none_own c (Deliver k) other = refl
none_own c (Leave d) other = refl
none_own c (GiveUp d) other = elim (cases_eq d c) [
  | inl same ↦ absurd (other (ap (λ i. GiveUp i) same))
  | inr apart ↦ (let e : eqb d c ≡ false = grind (arith, nat_tests) in ap (λ b. cond b 1 0) e)
]
none_own c (RemindClient d) other = refl
none_own c (RemindVoter v) other = refl
none_own c Exchange other = refl

pub gives_up_never : (c : ℕ) (steps : List Step) → DoesNotGiveUp c steps → own_give_ups c steps ≡ 0
gives_up_never c [] h = refl
gives_up_never c (s ∷ steps) h = (let here = none_own c s h.0 in let rest = gives_up_never c steps h.1 in omega arith)

-- ---- who does not turn is as before

pub idle_not_asking : (q : Phase) → is_idle q ≡ true → is_asking q ≡ false
idle_not_asking Idle idle = refl
idle_not_asking Asking idle = absurd (false≢true idle)
idle_not_asking Inside idle = refl

stamp-cause : (x : ClientState) (cause : requester.Cause) (o : requester.Outcome) → requester.step x cause ≡ Ok o → is_asking o.state.phase ≡ is_asking x.phase → o.state.stamp ≡ x.stamp
stamp-cause x (requester.Asks q) o step same = absurd (false≢true (sym (idle_not_asking x.phase (step-Asks x q o step)) ∙ sym same ∙ asks_then x q o step))
stamp-cause x (requester.Takes m) o step same = ap (λ (r : requester.Outcome). r.state.stamp) (sym (take-Ok x m o step)) ∙ (KeepsRequest-take x m).stamp
stamp-cause x requester.Leaves o step same = ap (λ (r : requester.Outcome). r.state.stamp) (sym (leave-Ok x o (step-Leaves x o step)).1)
stamp-cause x requester.GivesUp o step same = ap (λ (r : requester.Outcome). r.state.stamp) (sym (give_up-Ok x o (step-GivesUp x o step)).1)

pub no_turn : (a b : Bool) → turn a b ≡ 0 → b ≡ a
no_turn true true none = refl
no_turn true false none = absurd (omega arith)
no_turn false true none = absurd (omega arith)
no_turn false false none = refl

pub turn_same : (a b : Bool) → b ≡ a → turn a b ≡ 0
turn_same true true same = refl
turn_same true false same = absurd (false≢true same)
turn_same false true same = absurd (false≢true (sym same))
turn_same false false same = refl

pub stamp_stays : (s : Step) (x y : WorldState) (d : ℕ) → MovedBy s x y → asks_at y d ≡ asks_at x d → (client_at y.clients d).stamp ≡ (client_at x.clients d).stamp
stamp_stays s x y d moved same = elim moved [
  | inl client ↦
      let k = client.0 in
      elim (cases_eq d k.who) [
        | inl own ↦ subst (λ i. (client_at y.clients i).stamp ≡ (client_at x.clients i).stamp) (sym own) (ap (λ (z : ClientState). z.stamp) k.here
            ∙ stamp-cause (client_at x.clients k.who) k.cause k.outcome k.step (ap (λ (z : ClientState). is_asking z.phase) (sym k.here) ∙ ap (asks_at y) (sym own) ∙ same ∙ ap (asks_at x) own))
        | inr other ↦ ap (λ (z : ClientState). z.stamp) (k.others d other)
      ]
  | inr (inl voter) ↦ ap (λ (cs : List ClientState). (client_at cs d).stamp) voter.0.clients
  | inr (inr sent) ↦ ap (λ (cs : List ClientState). (client_at cs d).stamp) sent.clients
]

pub none_turned : (laws : Laws) (p : Course) (d : ℕ) (steps : List Step) (x : WorldState) → IsSure p x → turns p.deal d steps x ≡ 0
    → (asks_at (run_of p.deal steps x) d ≡ asks_at x d) × ((client_at (run_of p.deal steps x).clients d).stamp ≡ (client_at x.clients d).stamp)
none_turned laws p d [] x r none = (refl, refl)
none_turned laws p d (s ∷ steps) x r none =
    let deal = p.deal in
    let ok = (r []).coherent in
    let y = next deal x s in
    let here : turn (asks_at x d) (asks_at y d) ≡ 0 = omega arith in
    let rest : turns deal d steps y ≡ 0 = omega arith in
    let same = no_turn (asks_at x d) (asks_at y d) here in
    let end = none_turned laws p d steps y (IsSure-after p x r s) rest in
    (end.0 ∙ same, end.1 ∙ stamp_stays s x y d (MovedBy-step deal x ok.numbered s) same)

-- ---- all clients

pub sum_has : (n e : ℕ) (f : ℕ → ℕ) → e < n → f e ≤ sum_below f n
sum_has zero e f within = absurd (omega arith)
sum_has (suc n) e f within = elim (cases_eq e n) [
  | inl last ↦ (let here : f e ≡ f n = ap f last in omega arith)
  | inr other ↦ (let rest = sum_has n e f (omega arith) in omega arith)
]

none_above : (c k n : ℕ) → n ≤ c → sum_below (λ d. cond {A = ℕ} (eqb c d) k 0) n ≡ 0
none_above c k zero above = refl
none_above c k (suc n) above =
    let rest = none_above c k n (omega arith) in
    let e : eqb c n ≡ false = (let other : c ≢ n = (λ same. (let x : ⊥ = omega arith in x)) in grind (arith, nat_tests)) in
    let here : cond {A = ℕ} (eqb c n) k 0 ≡ 0 = ap (λ b. cond b k 0) e in
    omega arith

pub at_most_once : (c k n : ℕ) → sum_below (λ d. cond {A = ℕ} (eqb c d) k 0) n ≤ k
at_most_once c k zero = omega arith
at_most_once c k (suc n) = elim (cases_eq c n) [
  | inl same ↦
      let rest = none_above c k n (omega arith) in
      let e : eqb c n ≡ true = grind (arith, nat_tests) in
      let here : cond {A = ℕ} (eqb c n) k 0 ≡ k = ap (λ b. cond b k 0) e in
      omega arith
  | inr other ↦
      let rest = at_most_once c k n in
      let e : eqb c n ≡ false = grind (arith, nat_tests) in
      let here : cond {A = ℕ} (eqb c n) k 0 ≡ 0 = ap (λ b. cond b k 0) e in
      omega arith
]

one_give_up : (n : ℕ) (s : Step) → sum_below (λ d. own_give_up d s) n ≤ give_up s
one_give_up n (Ask c) = (let none = sum_below-zero n in omega arith)
one_give_up n (Deliver k) = (let none = sum_below-zero n in omega arith)
one_give_up n (Leave c) = (let none = sum_below-zero n in omega arith)
one_give_up n (GiveUp c) = at_most_once c 1 n
one_give_up n (RemindClient c) = (let none = sum_below-zero n in omega arith)
one_give_up n (RemindVoter v) = (let none = sum_below-zero n in omega arith)
one_give_up n Exchange = (let none = sum_below-zero n in omega arith)

pub all_give_ups : (n : ℕ) (steps : List Step) → sum_below (λ d. own_give_ups d steps) n ≤ give_ups_in steps
all_give_ups n [] = (let none = sum_below-zero n in omega arith)
all_give_ups n (s ∷ steps) =
    let here = one_give_up n s in
    let rest = all_give_ups n steps in
    let both = sum_below-add n (λ d. own_give_up d s) (λ d. own_give_ups d steps) in
    omega arith
