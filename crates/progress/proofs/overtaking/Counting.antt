-- how often another client enters
use Rattle.std.proofs.Common.{◌≡◌, ◌≢◌, ℕ, ◌+◌, ◌<◌, ◌≤◌, true, false, cond, List, [], ◌∷◌, ◌++◌, Ok, refl, sym, ap, subst, ◌∙◌, ◌⊎◌, inl, inr, arith, eqb, append_assoc}
use Rattle.std.specs.Prelude.{◌==◌, ◌&&◌}
use Rattle.std.proofs.lemmas.Bool.{cases_eq, cases_lt, false≢true}
use Rattle.std.proofs.lemmas.Bool.Decides.{nat_tests}
use Rattle.std.proofs.lemmas.List.{append-nil, append_cancel_left}
use Rattle.std.proofs.lemmas.List.Sums.{sum_by-append}
use Rattle.message.specs.declared.request.Request.{Request}
use Rattle.voter.specs.declared.state.Grant.{Grant}
use Rattle.voter.specs.Entries.{request_of}
use Rattle.message.specs.Requests.{precedes}
use Rattle.requester.specs.declared.state.ClientState.{ClientState}
use Rattle.requester.specs.declared.state.Phase.{Phase}
use Rattle.requester.specs.declared.state.Phase.TheVariants.{Idle, Asking, Inside}
use Rattle.requester.specs.declared.state.Seen.{Seen}
use Rattle.requester.specs.declared.state.Seen.TheVariants.{Nothing, Entered, Left}
use Rattle.requester.specs.Clocks.{KeepsTime}
use Rattle.requester.specs.RequesterContract.{IsLater, KeepsQuorum, Sees}
use Rattle.requester.specs.Steps as requester
use Rattle.requester.specs.Words.{held_of, is_asking, is_idle, is_inside, is_member}
use Rattle.numbers.specs.Sets.{has}
use Rattle.numbers.proofs.Options.{false-by}
use Rattle.world_state.specs.declared.step.Event.{Event}
use Rattle.world_state.specs.declared.step.Step.{Step}
use Rattle.world.specs.Coherence.{IsCoherent}
use Rattle.world.specs.Runs.{after, run_of}
use Rattle.world_state.specs.Steps.{Dealing, WorldState, client_at, events, step, voter_at}
use Rattle.progress.specs.Overtaking.{IsKnownEverywhere, StillRuns}
use Rattle.world.specs.Visible.{entries_of}
use Rattle.progress.proofs.invariants.Always.{Heeds, heeds}
use Rattle.progress.proofs.invariants.Kept.{WorldIsKept}
use Rattle.progress.proofs.overtaking.Behind.{Behind, Behind-first, Behind-moved, IsLater-moved, IsLater-self, IsLater-then, ask-Ok, meets, stamp_of, the_request}
use Rattle.progress.specs.Rules.{ClientLaws, Laws}
use Rattle.progress.proofs.run.Moves.{ClientMoved, Moved, Moved-step, StaysCoherent, kept-by}
use Rattle.progress.proofs.invariants.Placed.{Heeds-moved}
use Rattle.world.proofs.Exclusion.{held_under}
use Rattle.requester.proofs.RangeLemmas.{is_inside-busy}

-- What the number of entries since the world w says of the client d: after one, it asks under a greater
-- stamp than it had then; after two, also under a greater stamp than the request of c.
pub record Counted (w : WorldState) (c d n : ℕ) (x : ClientState) : Type 0 where
  pub few : n ≤ 2
  pub once : 1 ≤ n → is_asking x.phase ≡ true → stamp_of w d < x.stamp
  pub twice : 2 ≤ n → is_asking x.phase ≡ true → stamp_of w c < x.stamp
  pub clock : 2 ≤ n → stamp_of w c ≤ x.clock

-- a step that is no entry
Counted-on : (w : WorldState) (c d n : ℕ) (x y : ClientState) (cause : requester.Cause) → KeepsTime x cause y → stamp_of w d ≤ x.stamp → x.stamp ≤ x.clock → Counted w c d n x → Counted w c d n y
Counted-on w c d n x y cause time least behind h =
    let rises = time.clock in
    record {
      few = h.few;
      once = λ one asks. elim (time.asking asks) [
        | inl same ↦ let was = h.once one same.0 in let stamp = same.1 in omega arith
        | inr new ↦ omega arith
      ];
      twice = λ two asks. elim (time.asking asks) [
        | inl same ↦ let was = h.twice two same.0 in let stamp = same.1 in omega arith
        | inr new ↦ let high = h.clock two in omega arith
      ];
      clock = λ two. (let high = h.clock two in omega arith);
    }

-- what holds of a client that has entered: its stamp is the old one, or it precedes the request, of
-- which it heard
abbrev pub EntersBy : WorldState → ℕ → ℕ → ClientState → Type 0
EntersBy w c d y = (y.stamp ≤ stamp_of w d) ⊎ ((y.stamp ≤ stamp_of w c) × (stamp_of w c ≤ y.clock))

-- the third entry is impossible
third : (w : WorldState) (c d n : ℕ) (x y : ClientState) → is_asking x.phase ≡ true → x.stamp ≤ y.stamp → EntersBy w c d y → Counted w c d n x → n < 2
third w c d n x y asks later by h = elim (cases_lt n 2) [
  | inl less ↦ less
  | inr most ↦
      let one = h.once (omega arith) asks in
      let two = h.twice most asks in
      elim by [
        | inl old ↦ absurd (omega arith)
        | inr new ↦ let least = new.0 in absurd (omega arith)
      ]
]

Counted-enters : (w : WorldState) (c d n : ℕ) (x y : ClientState) → is_asking x.phase ≡ true → is_asking y.phase ≡ false → x.stamp ≤ y.stamp → EntersBy w c d y → Counted w c d n x
    → Counted w c d (n + 1) y
Counted-enters w c d n x y asks not_asks later by h =
    let less = third w c d n x y asks later by h in
    record {
      few = omega arith;
      once = λ one now. absurd (false≢true (sym not_asks ∙ now));
      twice = λ two now. absurd (false≢true (sym not_asks ∙ now));
      clock = λ two. elim by [
        | inl old ↦ let one = h.once (omega arith) asks in absurd (omega arith)
        | inr new ↦ new.1
      ];
    }

-- ---- who enters

outside_asks : (p : Phase) → is_idle p ≡ false → is_inside p ≡ false → is_asking p ≡ true
outside_asks Idle idle inside = absurd (false≢true (sym idle))
outside_asks Asking idle inside = refl
outside_asks Inside idle inside = absurd (false≢true (sym inside))

pub inside_not_asks : (p : Phase) → is_inside p ≡ true → is_asking p ≡ false
inside_not_asks Idle inside = refl
inside_not_asks Asking inside = absurd (false≢true inside)
inside_not_asks Inside inside = refl

asked_before : (x : ClientState) (cause : requester.Cause) (o : requester.Outcome) → requester.step x cause ≡ Ok o → KeepsQuorum x cause o.state → is_inside x.phase ≡ false
    → is_inside o.state.phase ≡ true → is_asking x.phase ≡ true
asked_before x (requester.Asks q) o step keeps out now =
    absurd (false≢true (subst (λ (p : requester.Outcome). is_inside p.state.phase ≡ true) (sym (ask-Ok x q o step)) now))
asked_before x (requester.Takes m) o step keeps out now = outside_asks x.phase (sym keeps.1 ∙ is_inside-busy o.state.phase now) out
asked_before x requester.Leaves o step keeps out now = absurd (false≢true (sym (is_inside-busy o.state.phase now) ∙ keeps.1))
asked_before x requester.GivesUp o step keeps out now = absurd (false≢true (sym (is_inside-busy o.state.phase now) ∙ keeps.1))

before_most : (g : Grant) (r : Request) → precedes (request_of g) r ≡ true → g.stamp ≤ r.stamp
before_most g r before = grind (arith, nat_tests)

-- a client that is inside has the vote of a voter that the request asked
pub enters_by : (laws : ClientLaws) (w u : WorldState) (c d : ℕ) → IsCoherent u → Behind w c u → is_idle (client_at u.clients c).phase ≡ false → d ≢ c → is_inside (client_at u.clients d).phase ≡ true
    → EntersBy w c d (client_at u.clients d)
enters_by laws w u c d ok h busy other inside =
    let y = client_at u.clients d in
    let common = ok.common d c (is_inside-busy y.phase inside) busy in
    let v = common.voter in
    let asked : is_member (client_at w.clients c) v ≡ true = ap (λ q. has q v) (sym h.clients.quorum) ∙ common.second in
    let holds = held_under y v (laws.inside y v (ok.clients d) inside common.first) in
    let n = held_of y v in
    let names = ok.held d v n holds in
    let grant : Grant = record { client = d; stamp = y.stamp; grant = n } in
    elim (cases_lt (voter_at w.voters v).granted n) [
      | inl new ↦ elim ((h.voters v).order grant asked names new) [
        | inl same ↦ absurd (other same)
        | inr before ↦ inr (before_most grant (the_request w c) before, h.clients.heard d v n asked holds new)
      ]
      | inr old ↦ inl ((h.voters v).old grant names old)
    ]

-- ---- what is counted

pub entries_of-append : (d : ℕ) (es fs : List Event) → entries_of d (es ++ fs) ≡ entries_of d es + entries_of d fs
entries_of-append d es fs = sum_by-append (λ (e : Event). cond ((e.client == d) && e.entered) 1 0) es fs

pub not_entered : (d e : ℕ) (seen : Seen) → d ≢ e → entries_of d (events e seen) ≡ 0
not_entered d e Nothing other = refl
not_entered d e Entered other = (let apart : eqb e d ≡ false = grind (arith, nat_tests) in ap (λ b. 0 + cond (b && true) 1 0) apart)
not_entered d e Left other = (let apart : eqb e d ≡ false = grind (arith, nat_tests) in ap (λ b. 0 + cond (b && false) 1 0) apart)

pub left_not_entered : (d : ℕ) → entries_of d (events d Left) ≡ 0
left_not_entered d = (let same : eqb d d ≡ true = grind (arith, nat_tests) in ap (λ b. 0 + cond (b && false) 1 0) same)

pub one_entered : (d : ℕ) → entries_of d (events d Entered) ≡ 1
one_entered d = (let same : eqb d d ≡ true = grind (arith, nat_tests) in ap (λ b. 0 + cond (b && true) 1 0) same)

none_more : (n m : ℕ) → m ≡ 0 → n ≡ n + m
none_more n m none = omega arith

one_more : (n m : ℕ) → m ≡ 1 → n + 1 ≡ n + m
one_more n m one = omega arith

-- the client that moved
counted_own : (laws : ClientLaws) (w u x : WorldState) (c n : ℕ) → IsCoherent u → IsCoherent x → Behind w c u → Behind w c x → is_idle (client_at x.clients c).phase ≡ false
    → (k : ClientMoved u x) → k.who ≢ c
    → (seen : Seen) → Sees (client_at u.clients k.who).phase seen k.outcome.state.phase → Counted w c k.who n (client_at u.clients k.who)
    → Counted w c k.who (n + entries_of k.who (events k.who seen)) k.outcome.state
counted_own laws w u x c n ok now before h busy k other Nothing sees count =
    subst (λ i. Counted w c k.who i k.outcome.state) (none_more n (entries_of k.who (events k.who Nothing)) refl)
    (Counted-on w c k.who n (client_at u.clients k.who) k.outcome.state k.cause (laws.clock (client_at u.clients k.who) k.cause k.outcome (ok.clients k.who) k.step)
    (before.clients.later k.who) (ok.clients k.who).clock count)
counted_own laws w u x c n ok now before h busy k other Left sees count =
    subst (λ i. Counted w c k.who i k.outcome.state) (none_more n (entries_of k.who (events k.who Left)) (left_not_entered k.who))
    (Counted-on w c k.who n (client_at u.clients k.who) k.outcome.state k.cause (laws.clock (client_at u.clients k.who) k.cause k.outcome (ok.clients k.who) k.step)
    (before.clients.later k.who) (ok.clients k.who).clock count)
counted_own laws w u x c n ok now before h busy k other Entered sees count =
    let contract = meets laws u x ok now k in
    let asks = asked_before (client_at u.clients k.who) k.cause k.outcome k.step contract.quorum sees.0 sees.1 in
    let by = subst (λ (y : ClientState). EntersBy w c k.who y) k.here (enters_by laws w x c k.who now h busy other (subst (λ (y : ClientState). is_inside y.phase ≡ true) (sym k.here) sees.1)) in
    subst (λ i. Counted w c k.who i k.outcome.state) (one_more n (entries_of k.who (events k.who Entered)) (one_entered k.who))
    (Counted-enters w c k.who n (client_at u.clients k.who) k.outcome.state asks (inside_not_asks k.outcome.state.phase sees.1) contract.later.stamp by count)

-- the events since the world w, and what they say of the client d
pub record Entries (w : WorldState) (c d : ℕ) (u : WorldState) : Type 0 where
  pub more : List Event
  pub visible : u.visible ≡ w.visible ++ more
  pub counted : Counted w c d (entries_of d more) (client_at u.clients d)

counted_client : (laws : ClientLaws) (w u x : WorldState) (c d : ℕ) → IsCoherent u → IsCoherent x → Behind w c u → Behind w c x → is_idle (client_at x.clients c).phase ≡ false
    → d ≢ c → (k : ClientMoved u x)
    → (more : List Event) → Counted w c d (entries_of d more) (client_at u.clients d) → Counted w c d (entries_of d (more ++ events k.who k.outcome.seen)) (client_at x.clients d)
counted_client laws w u x c d ok now before h busy other k more = elim (cases_eq d k.who) as (λ _. Counted w c d (entries_of d more) (client_at u.clients d)
    → Counted w c d (entries_of d (more ++ events k.who k.outcome.seen)) (client_at x.clients d)) [
      | inl same ↦
          let apart : k.who ≢ c = subst (λ i. i ≢ c) same other in
          let own : Counted w c k.who (entries_of k.who more) (client_at u.clients k.who) → Counted w c k.who (entries_of k.who (more ++ events k.who k.outcome.seen)) (client_at x.clients k.who) =
          λ count. subst (λ (y : ClientState). Counted w c k.who (entries_of k.who (more ++ events k.who k.outcome.seen)) y) (sym k.here)
          (subst (λ i. Counted w c k.who i k.outcome.state) (sym (entries_of-append k.who more (events k.who k.outcome.seen)))
          (counted_own laws w u x c (entries_of k.who more) ok now before h busy k apart k.outcome.seen (meets laws u x ok now k).seen count)) in
          subst (λ i. Counted w c i (entries_of i more) (client_at u.clients i) → Counted w c i (entries_of i (more ++ events k.who k.outcome.seen)) (client_at x.clients i)) (sym same) own
      | inr apart ↦ λ count. subst (λ (y : ClientState). Counted w c d (entries_of d (more ++ events k.who k.outcome.seen)) y) (sym (k.others d apart))
          (subst (λ i. Counted w c d i (client_at u.clients d)) (none_more (entries_of d more) _ (not_entered d k.who k.outcome.seen apart)
          ∙ sym (entries_of-append d more (events k.who k.outcome.seen))) count)
    ]

Entries-client : (laws : ClientLaws) (w u x : WorldState) (c d : ℕ) → IsCoherent u → IsCoherent x → Behind w c u → Behind w c x → is_idle (client_at x.clients c).phase ≡ false
    → d ≢ c → ClientMoved u x → Entries w c d u → Entries w c d x
Entries-client laws w u x c d ok now before h busy other k e = record {
  more = e.more ++ events k.who k.outcome.seen;
  visible = k.visible ∙ ap (λ es. es ++ events k.who k.outcome.seen) e.visible ∙ append_assoc w.visible e.more (events k.who k.outcome.seen);
  counted = counted_client laws w u x c d ok now before h busy other k e.more e.counted;
}

Entries-same : (w u x : WorldState) (c d : ℕ) → x.clients ≡ u.clients → x.visible ≡ u.visible → Entries w c d u → Entries w c d x
Entries-same w u x c d clients visible e = record {
  more = e.more;
  visible = visible ∙ e.visible;
  counted = subst (λ (cs : List ClientState). Counted w c d (entries_of d e.more) (client_at cs d)) (sym clients) e.counted;
}

Entries-moved : (laws : ClientLaws) (w u x : WorldState) (c d : ℕ) → IsCoherent u → IsCoherent x → Behind w c u → Behind w c x → is_idle (client_at x.clients c).phase ≡ false
    → d ≢ c → Moved u x → Entries w c d u → Entries w c d x
Entries-moved laws w u x c d ok now before h busy other moved e = elim moved [
  | inl client ↦ Entries-client laws w u x c d ok now before h busy other client e
  | inr (inl voter) ↦ Entries-same w u x c d voter.clients voter.visible e
  | inr (inr sent) ↦ Entries-same w u x c d sent.clients sent.visible e
]

-- ---- over all steps

pub IsLater-run : (laws : Laws) (deal : Dealing) (steps : List Step) (u : WorldState) → StaysCoherent deal u → (c : ℕ)
    → IsLater (client_at u.clients c) (client_at (run_of deal steps u).clients c)
IsLater-run laws deal steps u r c = kept-by (λ x. IsLater (client_at u.clients c) (client_at x.clients c))
    (λ x y ok now moved h. IsLater-then (client_at u.clients c) (client_at x.clients c) (client_at y.clients c) h (IsLater-moved laws.client x y ok now moved c))
    deal steps u r (IsLater-self (client_at u.clients c))

-- a request that still runs later runs before
pub still_before : (w u z : WorldState) (c : ℕ) → stamp_of w c ≤ stamp_of u c → IsLater (client_at u.clients c) (client_at z.clients c) → StillRuns w z c → StillRuns w u c
still_before w u z c least later runs =
    let rises = later.stamp in
    let stamp = runs.same in
    let same : stamp_of u c ≡ stamp_of z c = omega arith in
    record { runs = false-by _ _ (later.idle same) runs.runs; same = omega arith }

-- a request that runs, the steps so far, and those that are left
Entries-run : (laws : Laws) (deal : Dealing) (w : WorldState) (c d : ℕ) → d ≢ c → (steps : List Step) (u : WorldState) → StaysCoherent deal u → Heeds c u → StillRuns w u c
    → Behind w c u → Entries w c d u
    → StillRuns w (run_of deal steps u) c → Entries w c d (run_of deal steps u)
Entries-run laws deal w c d other [] u r heeded still behind e end = e
Entries-run laws deal w c d other (s ∷ steps) u r heeded still behind e end =
    let ok = r [] in
    let next : StaysCoherent deal (after u (step deal u s)) = λ more. r (s ∷ more) in
    let x = after u (step deal u s) in
    let now = next [] in
    let moved = Moved-step deal u ok.numbered s in
    let heeded_x = Heeds-moved laws c u x ok now moved heeded in
    let least : stamp_of w c ≤ stamp_of x c = (let first = behind.clients.later c in let rises = (IsLater-moved laws.client u x ok now moved c).stamp in omega arith) in
    let still_x = still_before w x (run_of deal steps x) c least (IsLater-run laws deal steps x next c) end in
    let behind_x = Behind-moved laws w u x c ok now heeded heeded_x still moved behind in
    Entries-run laws deal w c d other steps x next heeded_x still_x behind_x (Entries-moved laws.client w u x c d ok now behind behind_x still_x.runs other moved e) end

Entries-first : (w : WorldState) (c d : ℕ) → Entries w c d w
Entries-first w c d = record {
  more = [];
  visible = sym (append-nil w.visible);
  counted = record { few = omega arith; once = λ one. absurd (omega arith); twice = λ two. absurd (omega arith); clock = λ two. absurd (omega arith) };
}

-- it is enough that the request is heeded
pub overtakes_twice : Laws → (deal : Dealing) (w : WorldState) (c d : ℕ) (steps : List Step) (more : List Event) → StaysCoherent deal w → Heeds c w → IsKnownEverywhere w c → d ≢ c
    → StillRuns w (run_of deal steps w) c
    → (run_of deal steps w).visible ≡ w.visible ++ more → entries_of d more ≤ 2
overtakes_twice laws deal w c d steps more r heeded known other end visible =
    let still : StillRuns w w c = record { runs = known.runs; same = refl } in
    let e = Entries-run laws deal w c d other steps w r heeded still (Behind-first w c (r []) heeded known) (Entries-first w c d) end in
    let same : more ≡ e.more = append_cancel_left w.visible more e.more (sym visible ∙ e.visible) in
    subst (λ es. entries_of d es ≤ 2) (sym same) e.counted.few

pub nobody_overtakes : Laws → (deal : Dealing) (w : WorldState) (c d : ℕ) (steps : List Step) (more : List Event) → WorldIsKept deal w → IsKnownEverywhere w c → d ≢ c
    → StillRuns w (run_of deal steps w) c
    → (run_of deal steps w).visible ≡ w.visible ++ more → entries_of d more ≤ 2
nobody_overtakes laws deal w c d steps more r known other end visible =
    overtakes_twice laws deal w c d steps more (λ s. (r s).coherent) (heeds c w (r []).always) known other end visible
