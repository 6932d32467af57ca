-- The first shade: the dead end their requests. So the laws on live rounds of steps are laws on live rounds of
-- moves.
use Rattle.std.proofs.Common.{◌≡◌, ◌≢◌, ℕ, zero, suc, ◌+◌, ◌*◌, ◌<◌, ◌≤◌, Bool, true, false, List, [], ◌∷◌, ◌++◌, map, length, None, Some, refl, sym, ap, subst, ◌∙◌, ◌⊎◌, inl, inr, arith, append_assoc}
use Rattle.std.specs.Prelude.{◌==◌, ◌||◌, if◌then◌else◌, not, Option}
use Rattle.std.specs.List.{AllByRecursion}
use Rattle.std.proofs.lemmas.Bool.{cases_eq, cases_lt, false≢true, lt-ltb}
use Rattle.std.proofs.lemmas.Bool.Decides.{nat_tests}
use Rattle.std.proofs.lemmas.Option.{none-some, same_Some}
use Rattle.voter.specs.declared.state.Grant.{Grant}
use Rattle.std.proofs.lemmas.List.{append-nil, append_cancel_left, get_or_past, length-set}
use Rattle.numbers.proofs.Lists.{AllByRecursion-append}
use Rattle.message.specs.declared.message.Message.{Message}
use Rattle.message.specs.declared.message.Message.TheVariants as kinds
use Rattle.voter.specs.declared.state.VoterState.{VoterState}
use Rattle.requester.specs.declared.fault.ClientFault.TheVariants.{NotAsking, NotInside}
use Rattle.requester.specs.declared.state.ClientState.{ClientState}
use Rattle.requester.specs.declared.state.Phase.{Phase}
use Rattle.requester.specs.declared.state.Phase.TheVariants.{Asking, Idle, Inside}
use Rattle.requester.specs.declared.state.Seen.{Seen}
use Rattle.requester.specs.declared.state.Seen.TheVariants as seen
use Rattle.requester.specs.Steps as requester
use Rattle.requester.proofs.SoundSteps.{is_asking-busy}
use Rattle.requester.specs.Words.{is_asking, is_idle, is_inside}
use Rattle.world_state.specs.declared.step.Event.{Event}
use Rattle.world_state.specs.declared.step.Step.{Step}
use Rattle.world_state.specs.declared.step.Step.TheVariants.{GiveUp, Leave}
use Rattle.world.specs.Coherence.{MessageOk}
use Rattle.world.specs.Ranges.{IsInRange}
use Rattle.world.specs.Rules.{ClientLaws, VoterLaws}
use Rattle.world.specs.Runs.{IsReached, after, run_of}
use Rattle.world.specs.Visible.{DealsFrom, DoMeet, entries_of}
use Rattle.world.specs.Waiting.{live_block}
use Rattle.world.specs.WayIn.{Asks}
use Rattle.world_state.specs.Steps.{Dealing, Planned, WorldState, after_client, client_at, client_did, dealing_of, if_client, step, voter_at}
use Rattle.world.proofs.Claims.{Bounds}
use Rattle.world.proofs.EveryRun.{coherent_by, run_from, run_ok}
use Rattle.world.proofs.Places.{client_here, client_others}
use Rattle.world.proofs.Plans.{run_then}
use Rattle.world.proofs.Reached.{RunPremises, RunOk}
use Rattle.progress.specs.LiveRounds.{AreGone, AreLiveRounds, HasGrantsThere, IsDead, IsOut, LetsGoOfDead, Live, SparesIn, SparesLive, live_below}
use Rattle.progress.specs.Moves.{EachMove, Goes, IsNotBy, LetsGo, Move, hasty_among, late_among, move, moved, moves_of, of_moves, of_steps, steps_among}
use Rattle.progress.specs.Patience.{hasty_in}
use Rattle.progress.specs.Rounds.{DoesNotGiveUp, IsStill, give_ups_in, late_in, steps_of}
use Rattle.progress.specs.Rules.{Laws}
use Rattle.progress.proofs.invariants.Always.{VoterHasSeen, Heeds, WasGiven}
use Rattle.progress.proofs.block.Blocks.{live_is_block}
use Rattle.progress.proofs.losses.Olds.{AreOld, no_olds, olds_of}
use Rattle.progress.proofs.invariants.Outstanding.{IsNotedAt}
use Rattle.progress.proofs.patience.Patient.{everybody_by}
use Rattle.progress.proofs.invariants.Placed.{AskedAt, Heeds-moved}
use Rattle.progress.proofs.shade.Shade.{Allows, Shades, Shading, each_release, extra, image, moves_on, moves_once, releases, stands}
use Rattle.progress.proofs.losses.Lasting.{Goes-run}
use Rattle.progress.proofs.run.Moves.{kept-by}
use Rattle.progress.proofs.shade.ShadeRounds.{all_images, give_ups_shade, hasty_shade, late_shade, length_images, live_rounds_shade, stays_shade, steps_images}
use Rattle.progress.proofs.invariants.Sure.{Course, IsSure, IsSure-first, IsSure-reached, IsSure-run, Serving, Sure, course_of, stays_coherent}
use Rattle.progress.proofs.patience.Waiting.{moves_by, somebody_by}

-- what a world rests on, beside what is sure: its quorums meet
pub record Rests (deal : Dealing) (w : WorldState) : Type 0 where
  pub bounds : Bounds
  pub given : RunPremises bounds
  pub deals : DealsFrom bounds.quorums deal
  pub ok : RunOk bounds w

pub Rests-run : (deal : Dealing) (steps : List Step) (w : WorldState) → Rests deal w → Rests deal (run_of deal steps w)
Rests-run deal steps w r = record { bounds = r.bounds; given = r.given; deals = r.deals; ok = run_from r.bounds r.given deal r.deals steps w r.ok }

-- ---- the dead end their requests

-- the client when its request has ended
abbrev pub quit : ClientState → ClientState
quit x = record (requester.clear_votes x) { phase = Idle }

-- what one client changes that ends its request
pub record Quits (c : ℕ) (x y : WorldState) : Type 0 where
  pub voters : y.voters ≡ x.voters
  pub clients : length y.clients ≡ length x.clients
  pub others : (q : ℕ) → q ≢ c → client_at y.clients q ≡ client_at x.clients q
  pub idle : is_idle (client_at y.clients c).phase ≡ true
  pub stamp : (client_at y.clients c).stamp ≡ (client_at x.clients c).stamp
  pub own : (client_at y.clients c ≡ client_at x.clients c) ⊎ (client_at y.clients c ≡ quit (client_at x.clients c))
  pub draws : y.draws ≡ x.draws
  pub draws2 : y.draws2 ≡ x.draws2
  pub side : y.side ≡ x.side
  pub more : List Message
  pub sent : y.sent ≡ x.sent ++ more

unfoldable pub quit_of : Phase → ℕ → List Step
quit_of Idle c = []
quit_of Asking c = GiveUp c ∷ []
quit_of Inside c = Leave c ∷ []

quits_by : (x : WorldState) (c : ℕ) (what : Seen) → c < length x.clients → Quits c x (client_did x c (requester.end_request (client_at x.clients c) what)).state
quits_by x c what within =
    let o = requester.end_request (client_at x.clients c) what in
    let here = client_here x.clients c o.state within in
    record {
      voters = refl;
      clients = length-set x.clients c o.state;
      others = client_others x.clients c o.state;
      idle = ap (λ (z : ClientState). is_idle z.phase) here;
      stamp = ap (λ (z : ClientState). z.stamp) here;
      own = inr here;
      draws = refl;
      draws2 = refl;
      side = refl;
      more = map kinds.ToVoter o.out;
      sent = refl;
    }

pub quits : (deal : Dealing) (x : WorldState) (c : ℕ) → c < length x.clients → (q : Phase) → (client_at x.clients c).phase ≡ q → Quits c x (run_of deal (quit_of q c) x)
unfolding quit_of step requester.step requester.give_up requester.leave
quits deal x c within Idle is = record {
  voters = refl;
  clients = refl;
  others = λ q other. refl;
  idle = ap is_idle is;
  stamp = refl;
  own = inl refl;
  draws = refl;
  draws2 = refl;
  side = refl;
  more = [];
  sent = sym (append-nil x.sent);
}
quits deal x c within Asking is =
    let end = requester.end_request (client_at x.clients c) seen.Nothing in
    subst (Quits c x) (sym (ap (λ b. after x (if_client b c (after_client x c (requester.give_up (client_at x.clients c))))) (lt-ltb c (length x.clients) within)
    ∙ ap (λ q. after x (after_client x c (requester.unless (if is_asking q then None else Some NotAsking) end))) is)) (quits_by x c seen.Nothing within)
quits deal x c within Inside is =
    let end = requester.end_request (client_at x.clients c) seen.Left in
    subst (Quits c x) (sym (ap (λ b. after x (if_client b c (after_client x c (requester.leave (client_at x.clients c))))) (lt-ltb c (length x.clients) within)
    ∙ ap (λ q. after x (after_client x c (requester.unless (if is_inside q then None else Some NotInside) end))) is)) (quits_by x c seen.Left within)

-- those of the first n clients of the world w that are dead
pub ends : (ℕ → Bool) → WorldState → ℕ → List Step
ends dead w zero = []
ends dead w (suc n) = ends dead w n ++ (if dead n then quit_of (client_at w.clients n).phase n else [])

pub record DeadEnded (dead : ℕ → Bool) (n : ℕ) (w x : WorldState) : Type 0 where
  pub voters : x.voters ≡ w.voters
  pub clients : length x.clients ≡ length w.clients
  pub same : (c : ℕ) → (dead c ≡ false) ⊎ (n ≤ c) → client_at x.clients c ≡ client_at w.clients c
  pub idle : (c : ℕ) → dead c ≡ true → c < n → is_idle (client_at x.clients c).phase ≡ true
  pub stamp : (c : ℕ) → (client_at x.clients c).stamp ≡ (client_at w.clients c).stamp
  pub own : (c : ℕ) → (client_at x.clients c ≡ client_at w.clients c) ⊎ (client_at x.clients c ≡ quit (client_at w.clients c))
  pub draws : x.draws ≡ w.draws
  pub draws2 : x.draws2 ≡ w.draws2
  pub side : x.side ≡ w.side
  pub more : List Message
  pub sent : x.sent ≡ w.sent ++ more

-- the next client is not dead
ended_on : (dead : ℕ → Bool) (n : ℕ) (w x : WorldState) → DeadEnded dead n w x → dead n ≡ false → DeadEnded dead (suc n) w x
ended_on dead n w x h lives = record {
  voters = h.voters;
  clients = h.clients;
  same = λ c which. h.same c (elim which [ inl alive ↦ inl alive | inr past ↦ inr (omega arith) ]);
  idle = λ c gone less. elim (cases_eq c n) [
    | inl own ↦ absurd (false≢true (sym lives ∙ ap dead (sym own) ∙ gone))
    | inr other ↦ h.idle c gone (omega arith)
  ];
  stamp = h.stamp;
  own = h.own;
  draws = h.draws;
  draws2 = h.draws2;
  side = h.side;
  more = h.more;
  sent = h.sent;
}

ended_one : (dead : ℕ → Bool) (n : ℕ) (w x y : WorldState) → DeadEnded dead n w x → Quits n x y → dead n ≡ true → DeadEnded dead (suc n) w y
ended_one dead n w x y h q gone = record {
  voters = q.voters ∙ h.voters;
  clients = q.clients ∙ h.clients;
  same = λ c which. elim (cases_eq c n) [
    | inl own ↦ elim which [ inl alive ↦ absurd (false≢true (sym alive ∙ ap dead own ∙ gone)) | inr past ↦ absurd (omega arith) ]
    | inr other ↦ q.others c other ∙ h.same c (elim which [ inl alive ↦ inl alive | inr past ↦ inr (omega arith) ])
  ];
  idle = λ c is less. elim (cases_eq c n) [
    | inl own ↦ subst (λ i. is_idle (client_at y.clients i).phase ≡ true) (sym own) q.idle
    | inr other ↦ subst (λ (z : ClientState). is_idle z.phase ≡ true) (sym (q.others c other)) (h.idle c is (omega arith))
  ];
  stamp = λ c. elim (cases_eq c n) [
    | inl own ↦ subst (λ i. (client_at y.clients i).stamp ≡ (client_at w.clients i).stamp) (sym own) (q.stamp ∙ h.stamp n)
    | inr other ↦ ap (λ (z : ClientState). z.stamp) (q.others c other) ∙ h.stamp c
  ];
  own = λ c. elim (cases_eq c n) [
    | inl here ↦ subst (λ i. (client_at y.clients i ≡ client_at w.clients i) ⊎ (client_at y.clients i ≡ quit (client_at w.clients i))) (sym here) (elim q.own [
      | inl still ↦ inl (still ∙ h.same n (inr (omega arith)))
      | inr ends ↦ inr (ends ∙ ap (λ (z : ClientState). quit z) (h.same n (inr (omega arith))))
    ])
    | inr other ↦ subst (λ (z : ClientState). (z ≡ client_at w.clients c) ⊎ (z ≡ quit (client_at w.clients c))) (sym (q.others c other)) (h.own c)
  ];
  draws = q.draws ∙ h.draws;
  draws2 = q.draws2 ∙ h.draws2;
  side = q.side ∙ h.side;
  more = h.more ++ q.more;
  sent = q.sent ∙ ap (λ l. l ++ q.more) h.sent ∙ append_assoc w.sent h.more q.more;
}

pub ended : (deal : Dealing) (dead : ℕ → Bool) (w : WorldState) (n : ℕ) → n ≤ length w.clients → DeadEnded dead n w (run_of deal (ends dead w n) w)
unfolding ends
ended deal dead w zero within = record {
  voters = refl;
  clients = refl;
  same = λ c which. refl;
  idle = λ c gone less. absurd (omega arith);
  stamp = λ c. refl;
  own = λ c. inl refl;
  draws = refl;
  draws2 = refl;
  side = refl;
  more = [];
  sent = sym (append-nil w.sent);
}
ended deal dead w (suc n) within =
    let x = run_of deal (ends dead w n) w in
    let h = ended deal dead w n (omega arith) in
    let count = h.clients in
    subst (DeadEnded dead (suc n) w) (sym (run_then deal (ends dead w n) (if dead n then quit_of (client_at w.clients n).phase n else []) w)) (by x h (omega arith) (dead n) refl)
  where
    by : (x : WorldState) → DeadEnded dead n w x → n < length x.clients → (b : Bool) → dead n ≡ b → DeadEnded dead (suc n) w (run_of deal (if b then quit_of (client_at w.clients n).phase n else []) x)
    by x h less true is = ended_one dead n w x _ h (quits deal x n less (client_at w.clients n).phase (ap (λ (z : ClientState). z.phase) (h.same n (inr (omega arith))))) is
    by x h less false is = ended_on dead n w x h is

-- ---- the first shade

first_part : {A : Type 0} (P : A → Type 0) (xs ys : List A) → AllByRecursion P (xs ++ ys) → AllByRecursion P xs
first_part P [] ys h = tt
first_part P (x ∷ xs) ys h = (h.0, first_part P xs ys h.1)

-- a world in which the dead ended their requests, with the RELEASEs of all that are not live
pub begun : Dealing → Shading → WorldState
begun deal k = record (run_of deal (ends k.dead k.first (length k.first.clients)) k.first) { sent = releases k ++ k.first.sent }

-- each client that is not live, and not dead, is idle
abbrev pub AreIdle : Shading → Type 0
AreIdle k = (c : ℕ) → k.live.client c ≡ false → k.dead c ≡ false → is_idle (client_at k.first.clients c).phase ≡ true

-- The world s is as the world w but for these clients, and these messages that were sent before all else.
pub record Under (was : ℕ → Bool) (others : List Message) (w s : WorldState) : Type 0 where
  pub voters : s.voters ≡ w.voters
  pub clients : length s.clients ≡ length w.clients
  pub same : (c : ℕ) → was c ≡ false → client_at s.clients c ≡ client_at w.clients c
  pub sent : s.sent ≡ others ++ w.sent
  pub draws : s.draws ≡ w.draws
  pub draws2 : s.draws2 ≡ w.draws2
  pub side : s.side ≡ w.side

unfoldable pub nobody : ℕ → Bool
nobody c = false

pub under_self : (w : WorldState) → Under nobody [] w w
under_self w = record { voters = refl; clients = refl; same = λ c _. refl; sent = refl; draws = refl; draws2 = refl; side = refl }

-- what the shade has of the world that was sure, in `steps` of the dead
pub record ShadeBegun (k : Shading) (p : Course) (w s : WorldState) : Type 0 where
  pub shades : Shades k p w.visible s.visible w s
  pub few : AreOld p k.first → AreOld p s
  pub heeds : (c : ℕ) → k.dead c ≡ false → Heeds c k.first → Heeds c s
  pub idle : (c : ℕ) → k.live.client c ≡ false → is_idle (client_at s.clients c).phase ≡ true
  pub rests : Rests p.deal s

pub begins : (laws : Laws) (k : Shading) (p : Course) (was : ℕ → Bool) (w : WorldState) → Under was k.others w k.first → ((c : ℕ) → k.dead c ≡ false → was c ≡ false) → Rests p.deal k.first → IsSure p k.first → AreIdle k
    → ShadeBegun k p w (begun p.deal k)
unfolding begun client_at extra
begins laws k p was real under still rests sure idle =
    let deal = p.deal in
    let w = k.first in
    let b = rests.bounds in
    let n = length w.clients in
    let steps = ends k.dead w n in
    let x = run_of deal steps w in
    let s = begun deal k in
    let e = ended deal k.dead w n (omega arith) in
    let ok = run_from b rests.given deal rests.deals steps w rests.ok in
    let kept : Sure p x = IsSure-run p steps w sure [] in
    let gone : (c : ℕ) → k.dead c ≡ true → is_idle (client_at x.clients c).phase ≡ true = λ c dead. elim (cases_lt c n) [
      | inl within ↦ e.idle c dead within
      | inr past ↦ ap (λ (z : ClientState). is_idle z.phase) (get_or_past x.clients c (requester.start 0 1) (let many = e.clients in omega arith))
    ] in
    let rest : (c : ℕ) → k.live.client c ≡ false → is_idle (client_at x.clients c).phase ≡ true = λ c down. elim (k.dead c) as (λ t. k.dead c ≡ t → is_idle (client_at x.clients c).phase ≡ true) [
      | true ↦ gone c
      | false ↦ λ lives. subst (λ (z : ClientState). is_idle z.phase ≡ true) (sym (e.same c (inl lives))) (idle c down lives)
    ] refl in
    let sent : (P : Message → Type 0) → AllByRecursion P x.sent → AllByRecursion P (releases k) → AllByRecursion P (releases k ++ w.sent) = λ P all extras.
    AllByRecursion-append P (releases k) w.sent extras (first_part P w.sent e.more (subst (AllByRecursion P) e.sent all)) in
    let fine : RunOk b s = record {
      clients = ok.clients;
      voters = ok.voters;
      world = record {
        messages = sent (MessageOk (client_at x.clients) (voter_at x.voters)) ok.world.messages
            (each_release (MessageOk (client_at x.clients) (voter_at x.voters)) k (λ c v t down client voter some most.
            ((let stamp = e.stamp c in omega arith), λ busy. absurd (false≢true (sym busy ∙ rest c down)))));
        ranges = sent (IsInRange b.voters b.clients b.limit) ok.world.ranges
            (each_release (IsInRange b.voters b.clients b.limit) k (λ c v t down client voter some most.
            let below : c < b.clients = subst (λ m. c < m) rests.ok.clients client in
            let sound = (ok.world.clients c).sound.stamp in
            let limit = (ok.world.client_ids c below).limit in
            let stamp = e.stamp c in
            (below, subst (λ m. v < m) rests.ok.voters voter, (some, omega arith))));
        held = ok.world.held;
        last = ok.world.last;
        clients = ok.world.clients;
        voters = ok.world.voters;
        client_ids = ok.world.client_ids;
        voter_ids = ok.world.voter_ids;
      };
      walked = ok.walked;
    } in
    let sure_s : IsSure p s = IsSure-first laws p s (λ more. coherent_by b rests.given (run_of deal more s) (run_from b rests.given deal rests.deals more s fine)) (record {
      fits = kept.fits;
      placed = record { asked = sent (AskedAt x.clients) kept.placed.asked (each_release (AskedAt x.clients) k (λ c v t down client voter some most. tt)); places = kept.placed.places; back = kept.placed.back };
      out = record { noted = sent (IsNotedAt p.old x.voters) kept.out.noted (each_release (IsNotedAt p.old x.voters) k (λ c v t down client voter some most. tt)); marks = kept.out.marks; clear = kept.out.clear };
    }) in
    record {
      shades = record {
        shade = record {
          voters = e.voters ∙ under.voters;
          clients = e.clients ∙ under.clients;
          many_clients = sym under.clients;
          many_voters = sym (ap length under.voters);
          same = λ c lives. e.same c (inl lives) ∙ under.same c (still c lives);
          idle = gone;
          stamp = λ c dead. e.stamp c;
          sent = ap (λ l. releases k ++ l) under.sent ∙ sym (append_assoc (releases k) k.others real.sent);
          draws = e.draws ∙ under.draws;
          draws2 = e.draws2 ∙ under.draws2;
          side = e.side ∙ under.side;
          seen = [];
          real = sym (append-nil real.visible);
          shown = sym (append-nil s.visible);
        };
        sure = sure_s;
        stood = λ c down lives. sym (ap (λ (z : ClientState). z.stamp) (under.same c (still c lives)));
      };
      few = λ old v. subst (λ (vs : List VoterState). p.old v ≤ suc (voter_at vs v).granted) (sym e.voters) (old v);
      heeds = λ c lives h. record {
        seen = λ v. subst (λ (z : ClientState). VoterHasSeen c z (voter_at x.voters v)) (sym (e.same c (inl lives))) (subst (λ (vs : List VoterState). VoterHasSeen c (client_at w.clients c) (voter_at vs v)) (sym e.voters) (h.seen v));
        given = AllByRecursion-append (WasGiven x.voters) (releases k) w.sent (each_release (WasGiven x.voters) k (λ c v t down client voter some most. tt))
            (subst (λ (vs : List VoterState). AllByRecursion (WasGiven vs) w.sent) (sym e.voters) h.given);
      };
      idle = rest;
      rests = record { bounds = b; given = rests.given; deals = rests.deals; ok = fine };
    }

-- ---- who is dead

is_second : {A B : Type 0} → A ⊎ B → Bool
is_second (inl x) = false
is_second (inr y) = true

-- whether the second holds, if the test fails
dead_by : {A B : Type 0} (t : Bool) → (t ≡ false → A ⊎ B) → Bool
dead_by true h = false
dead_by false h = is_second (h refl)

dead_lives : {A B : Type 0} (t : Bool) (h : t ≡ false → A ⊎ B) → t ≡ true → dead_by t h ≡ false
unfolding dead_by
dead_lives true h is = refl
dead_lives false h is = absurd (false≢true is)

take_second : {A B : Type 0} (x : A ⊎ B) → is_second x ≡ true → B
unfolding is_second
take_second (inl x) is = absurd (false≢true is)
take_second (inr y) is = y

take_first : {A B : Type 0} (x : A ⊎ B) → is_second x ≡ false → A
unfolding is_second
take_first (inl x) is = x
take_first (inr y) is = absurd (false≢true (sym is))

dead_is : {A B : Type 0} (t : Bool) (h : t ≡ false → A ⊎ B) → dead_by t h ≡ true → B
unfolding dead_by
dead_is true h is = absurd (false≢true is)
dead_is false h is = take_second (h refl) is

out_is : {A B : Type 0} (t : Bool) (h : t ≡ false → A ⊎ B) → t ≡ false → dead_by t h ≡ false → A
unfolding dead_by
out_is true h down is = absurd (false≢true (sym down))
out_is false h down is = take_first (h refl) is

pub allowed : (k : Shading) (deal : Dealing) (moves : List Move) (w : WorldState) → ((c : ℕ) → k.dead c ≡ true → EachMove (IsNotBy c) deal w moves)
    → ((c : ℕ) → k.live.client c ≡ false → k.dead c ≡ false → EachMove (λ x m. (client_at (move deal x m).clients c).stamp ≡ (client_at x.clients c).stamp) deal w moves)
    → EachMove (SparesIn k.live) deal w moves → EachMove (Allows k deal) deal w moves
allowed k deal [] w rests stays spares = tt
allowed k deal (m ∷ moves) w rests stays spares = (
  record { rests = λ c dead. (rests c dead).0; stays = λ c down lives. (stays c down lives).0; spares = spares.0 },
  allowed k deal moves (move deal w m) (λ c dead. (rests c dead).1) (λ c down lives. (stays c down lives).1) spares.1,
)

-- ---- rounds of moves

-- Rounds of moves that begin in this world, and what is asked of them. The laws rest on a world that is as this one
-- but for clients that were dead before.
pub record Runs (p : Course) (w : WorldState) (rounds : List (List Move)) : Type 0 where
  pub was : ℕ → Bool
  pub others : List Message
  pub base : WorldState
  pub under : Under was others w base
  pub passed : (c : ℕ) → was c ≡ true → (p.live.client c ≡ false) × IsDead p.deal w (moves_of rounds) c
  pub rests : Rests p.deal base
  pub few : AreOld p base
  pub sure : IsSure p base
  pub live : AreLiveRounds of_moves p.live p.deal w rounds
  pub gone : AreGone p.live p.deal w (moves_of rounds)
  pub spares : SparesLive p.live p.deal w (moves_of rounds)
  pub left : HasGrantsThere p.live 1 (moved p.deal (moves_of rounds) w)

-- rounds of steps that begin in a shade of this world, and what they have in common with those of moves
record Cast (p : Course) (w : WorldState) (rounds : List (List Move)) (base : WorldState) : Type 0 where
  shade : WorldState
  steps : List (List Step)
  few : AreOld p shade
  sure : IsSure p shade
  live : AreLiveRounds of_steps p.live p.deal shade steps
  serving : Serving p shade (run_of p.deal (steps_of steps) shade)
  clients : length shade.clients ≡ length w.clients
  voters : length shade.voters ≡ length w.voters
  same : (c : ℕ) → p.live.client c ≡ true → client_at shade.clients c ≡ client_at w.clients c
  heeds : (c : ℕ) → p.live.client c ≡ true → Heeds c base → Heeds c shade
  many : length steps ≡ length rounds
  late : late_in p.deal 0 shade steps ≡ late_among p.deal 0 w rounds
  hasty : hasty_in p.deal shade steps ≡ hasty_among p.deal w rounds
  give_ups : give_ups_in (steps_of steps) ≡ give_ups_in (steps_among (moves_of rounds))
  stays : (c : ℕ) → DoesNotGiveUp c (steps_among (moves_of rounds)) → DoesNotGiveUp c (steps_of steps)
  visible : (more : List Event) → (moved p.deal (moves_of rounds) w).visible ≡ w.visible ++ more → (run_of p.deal (steps_of steps) shade).visible ≡ shade.visible ++ more
  still : IsStill w (moved p.deal (moves_of rounds) w) → IsStill shade (run_of p.deal (steps_of steps) shade)

was_or : (a b : Bool) → (if a then true else b) ≡ false → (a ≡ false) × (b ≡ false)
was_or true b is = absurd (false≢true (sym is))
was_or false b is = (refl, is)

cast : (laws : Laws) (p : Course) (w : WorldState) (rounds : List (List Move)) → (r : Runs p w rounds) → Cast p w rounds r.base
cast laws p w rounds r =
    let deal = p.deal in
    let moves = moves_of rounds in
    let dead : ℕ → Bool = λ c. if r.was c then true else dead_by (p.live.client c) (r.gone c) in
    let apart : (c : ℕ) → p.live.client c ≡ true → dead c ≡ false = λ c lives. elim (r.was c) as (λ t. r.was c ≡ t → (if t then true else dead_by (p.live.client c) (r.gone c)) ≡ false) [
      | true ↦ λ is. absurd (false≢true (sym (r.passed c is).0 ∙ lives))
      | false ↦ λ _. dead_lives (p.live.client c) (r.gone c) lives
    ] refl in
    let k : Shading = record { live = p.live; dead = dead; apart = apart; first = r.base; others = r.others } in
    let rests : (c : ℕ) → dead c ≡ true → IsDead deal w moves c = λ c. elim (r.was c) as (λ t. r.was c ≡ t → (if t then true else dead_by (p.live.client c) (r.gone c)) ≡ true → IsDead deal w moves c) [
      | true ↦ λ is _. (r.passed c is).1
      | false ↦ λ _. dead_is (p.live.client c) (r.gone c)
    ] refl in
    let still : (c : ℕ) → dead c ≡ false → r.was c ≡ false = λ c lives. (was_or (r.was c) (dead_by (p.live.client c) (r.gone c)) lives).0 in
    let out : (c : ℕ) → p.live.client c ≡ false → dead c ≡ false → IsOut deal w moves c = λ c down lives. out_is (p.live.client c) (r.gone c) down (was_or (r.was c) (dead_by (p.live.client c) (r.gone c)) lives).1 in
    let begin = begins laws k p r.was w r.under still r.rests r.sure (λ c down lives. subst (λ (z : ClientState). is_idle z.phase ≡ true) (sym (r.under.same c (still c lives))) (out c down lives).idle) in
    let s = begun deal k in
    let h = begin.shades in
    let allow = allowed k deal moves w rests (λ c down lives. (out c down lives).stays) r.spares in
    let steps = all_images k deal w rounds in
    let end = subst (λ l. Shades k p w.visible s.visible (moved deal moves w) (run_of deal l s)) (sym (steps_images k deal w rounds)) (moves_on k p w.visible s.visible moves w s h allow) in
    let z = run_of deal (steps_of steps) s in
    let in_steps = steps_images k deal w rounds in
    record {
      shade = s;
      steps = steps;
      few = begin.few r.few;
      sure = h.sure;
      live = live_rounds_shade k p w.visible s.visible rounds w s h allow r.live;
      serving = record {
        grants = subst (λ (vs : List VoterState). (v : ℕ) → v < length vs → p.live.voter v ≡ true → (voter_at vs v).granted + 1 ≤ (voter_at vs v).limit) (sym end.shade.voters) r.left;
        out = λ c down. (begin.idle c down, stands k p w.visible s.visible (moved deal moves w) z end c down ∙ sym (stands k p w.visible s.visible w s h c down));
      };
      clients = h.shade.clients;
      voters = ap length h.shade.voters;
      same = λ c lives. h.shade.same c (k.apart c lives);
      heeds = λ c lives. begin.heeds c (k.apart c lives);
      many = length_images k deal w rounds;
      late = late_shade k p w.visible s.visible rounds w s h allow;
      hasty = hasty_shade k p w.visible s.visible w s w s h.shade.same h.shade.same rounds w s h allow;
      give_ups = ap give_ups_in in_steps ∙ give_ups_shade k deal moves w;
      stays = λ c stays. subst (DoesNotGiveUp c) (sym in_steps) (stays_shade k deal c moves w stays);
      visible = λ more is. end.shade.shown ∙ ap (λ l. s.visible ++ l) (append_cancel_left w.visible end.shade.seen more (sym end.shade.real ∙ is));
      still = λ still.
          let either : (c : ℕ) → (k.dead c ≡ false) ⊎ (k.dead c ≡ true) = λ c. elim (k.dead c) as (λ t. (t ≡ false) ⊎ (t ≡ true)) [ true ↦ inr refl | false ↦ inl refl ] in
          record {
            stamps = λ c. elim (either c) [
              | inl lives ↦ ap (λ (x : ClientState). x.stamp) (end.shade.same c lives) ∙ still.stamps c ∙ sym (ap (λ (x : ClientState). x.stamp) (h.shade.same c lives))
              | inr dead ↦ end.shade.stamp c dead ∙ sym (h.shade.stamp c dead)
            ];
            asks = λ c asks. elim (either c) [
              | inl lives ↦ subst (λ (x : ClientState). is_asking x.phase ≡ true) (sym (end.shade.same c lives)) (still.asks c (subst (λ (x : ClientState). is_asking x.phase ≡ true) (h.shade.same c lives) asks))
              | inr dead ↦ absurd (false≢true (sym (is_asking-busy (client_at s.clients c).phase asks) ∙ h.shade.idle c dead))
            ];
          };
    }

-- ---- the laws, over moves; the shade has at most `olds` old grants

asks_there : (p : Course) (w : WorldState) (rounds : List (List Move)) (base : WorldState) (z : Cast p w rounds base) (c : ℕ) → p.live.client c ≡ true → Asks w c → Asks z.shade c
asks_there p w rounds base z c lives asks = record {
  client = subst (λ n. c < n) (sym z.clients) asks.client;
  asks = subst (λ (x : ClientState). is_asking x.phase ≡ true) (sym (z.same c lives)) asks.asks;
}

long_there : (p : Course) (w : WorldState) (rounds : List (List Move)) (base : WorldState) (z : Cast p w rounds base) (t : ℕ) → live_block (length w.clients) * t ≤ length rounds → live_block (length z.shade.clients) * t ≤ length z.steps
long_there p w rounds base z t long = subst (λ n. live_block n * t ≤ length z.steps) (sym z.clients) (subst (λ l. live_block (length w.clients) * t ≤ l) (sym z.many) long)

pub moves_somebody : (laws : Laws) (p : Course) (w : WorldState) (c olds : ℕ) (rounds : List (List Move)) → Runs p w rounds → ((x : WorldState) → olds_of p (length w.voters) x ≤ olds) → p.live.client c ≡ true → Asks w c
    → late_among p.deal 0 w rounds ≡ 0 → (olds + 1) * live_block (length w.clients) ≤ length rounds → IsStill w (moved p.deal (moves_of rounds) w) → ⊥
moves_somebody laws p w c olds rounds r most lives asks late long still =
    let z = cast laws p w rounds r in
    let few = subst (λ n. olds_of p n z.shade ≤ olds) (sym z.voters) (most z.shade) in
    moves_by laws p z.shade c (live_block (length z.shade.clients)) (olds + 1) (live_is_block laws p (length z.shade.clients)) z.steps z.few z.sure (asks_there p w rounds r.base z c lives asks) z.live (z.late ∙ late) z.serving
    (omega arith) (subst (λ n. (olds + 1) * live_block n ≤ length z.steps) (sym z.clients) (subst (λ l. (olds + 1) * live_block (length w.clients) ≤ l) (sym z.many) long)) (z.still still)

pub lets_somebody_in : (laws : Laws) (p : Course) (w : WorldState) (c olds : ℕ) (rounds : List (List Move)) (more : List Event) → Runs p w rounds → ((x : WorldState) → olds_of p (length w.voters) x ≤ olds) → p.live.client c ≡ true
    → Asks w c → DoesNotGiveUp c (steps_among (moves_of rounds))
    → live_block (length w.clients) * (live_below p.live (length w.clients) + 2 * give_ups_in (steps_among (moves_of rounds)) + late_among p.deal 0 w rounds + olds) ≤ length rounds
    → (moved p.deal (moves_of rounds) w).visible ≡ w.visible ++ more → (d : ℕ) × (p.live.client d ≡ true) × (1 ≤ entries_of d more)
lets_somebody_in laws p w c olds rounds more r most lives asks stays long visible =
    let z = cast laws p w rounds r in
    let few = subst (λ n. olds_of p n z.shade ≤ olds) (sym z.voters) (most z.shade) in
    let t = live_below p.live (length w.clients) + 2 * give_ups_in (steps_among (moves_of rounds)) + late_among p.deal 0 w rounds + olds in
    let live = ap (live_below p.live) z.clients in
    let late = z.late in
    let give_ups = z.give_ups in
    somebody_by laws p z.shade c (live_block (length z.shade.clients)) t (live_is_block laws p (length z.shade.clients)) z.steps more z.few z.sure (asks_there p w rounds r.base z c lives asks) z.live (z.stays c stays) z.serving
    (omega arith) (long_there p w rounds r.base z t long) (z.visible more visible)

pub lets_everybody_in : (laws : Laws) (p : Course) (w : WorldState) (c olds : ℕ) (rounds : List (List Move)) (more : List Event) → (r : Runs p w rounds) → ((x : WorldState) → olds_of p (length w.voters) x ≤ olds) → p.live.client c ≡ true
    → Heeds c r.base → Asks w c → DoesNotGiveUp c (steps_among (moves_of rounds))
    → live_block (length w.clients) * (3 * live_below p.live (length w.clients) + 2 * hasty_among p.deal w rounds + late_among p.deal 0 w rounds + olds) ≤ length rounds
    → (moved p.deal (moves_of rounds) w).visible ≡ w.visible ++ more → 1 ≤ entries_of c more
lets_everybody_in laws p w c olds rounds more r most lives heeds asks stays long visible =
    let z = cast laws p w rounds r in
    let few = subst (λ n. olds_of p n z.shade ≤ olds) (sym z.voters) (most z.shade) in
    let t = 3 * live_below p.live (length w.clients) + 2 * hasty_among p.deal w rounds + late_among p.deal 0 w rounds + olds in
    let live = ap (live_below p.live) z.clients in
    let late = z.late in
    let hasty = z.hasty in
    everybody_by laws p z.shade c (live_block (length z.shade.clients)) t (live_is_block laws p (length z.shade.clients)) (omega arith) z.steps more z.few z.sure (z.heeds c lives heeds) (asks_there p w rounds r.base z c lives asks) z.live
    (z.stays c stays) z.serving (omega arith) (long_there p w rounds r.base z t long) (z.visible more visible)

-- ---- worlds that are reached

-- the tickets of each world that is reached stand for quorums that meet
abbrev pub AllDeal : Type 0
AllDeal = (w : Planned) → IsReached w → (quorums : List (List ℕ)) × DoMeet w.plans.first.system.voters quorums × DealsFrom quorums (dealing_of w.plans)

pub rests_reached : ClientLaws → VoterLaws → AllDeal → (w : Planned) → IsReached w → Rests (dealing_of w.plans) w.state
rests_reached clients voters dealt w r =
    let d = dealt w r in
    let deal = dealing_of w.plans in
    let b : Bounds = record { voters = w.plans.first.system.voters; clients = r.clients; limit = r.limit; quorums = d.0 } in
    let given : RunPremises b = record { client = clients; voter = voters; limits = r.limits; meet = d.1 } in
    subst (Rests deal) (sym r.state) (record { bounds = b; given = given; deals = d.2; ok = run_ok b given deal d.2 r.steps })

unfoldable pub reached_runs : Laws → ClientLaws → VoterLaws → AllDeal → (live : Live) (w : Planned) (rounds : List (List Move)) → IsReached w → AreLiveRounds of_moves live (dealing_of w.plans) w.state rounds
    → AreGone live (dealing_of w.plans) w.state (moves_of rounds) → SparesLive live (dealing_of w.plans) w.state (moves_of rounds) → HasGrantsThere live 1 (moved (dealing_of w.plans) (moves_of rounds) w.state)
    → Runs (course_of live w) w.state rounds
unfolding nobody
reached_runs laws clients voters dealt live w rounds r fair gone spares left = record {
  was = nobody;
  others = [];
  base = w.state;
  under = under_self w.state;
  passed = λ c is. absurd (false≢true is);
  rests = rests_reached clients voters dealt w r;
  few = λ v. omega arith;
  sure = IsSure-reached laws live w r;
  live = fair;
  gone = gone;
  spares = spares;
  left = left;
}

-- no grant is old there
pub reached_olds : (live : Live) (w : Planned) (x : WorldState) → olds_of (course_of live w) (length w.state.voters) x ≤ 0
reached_olds live w x = (let none = no_olds (course_of live w) (length w.state.voters) x (λ v. refl) in omega arith)

pub plus_none : (b t len : ℕ) → b * t ≤ len → b * (t + 0) ≤ len
plus_none b t len most = subst (λ i. b * i ≤ len) (let e : t ≡ t + 0 = omega arith in e) most

-- ---- moves before the rounds: clients die, and their grants are let go

-- a world that is sure, as this one but for clients that are dead in these moves
pub record Covers (p : Course) (w : WorldState) (moves : List Move) : Type 0 where
  pub was : ℕ → Bool
  pub others : List Message
  pub base : WorldState
  pub under : Under was others w base
  pub passed : (c : ℕ) → was c ≡ true → (p.live.client c ≡ false) × IsDead p.deal w moves c
  pub rests : Rests p.deal base
  pub few : AreOld p base
  pub sure : IsSure p base
  pub heeded : (c : ℕ) → p.live.client c ≡ true → Heeds c base

-- one more client is dead
also : ℕ → (ℕ → Bool) → ℕ → Bool
also d was c = (c == d) || was c

also_is : (d : ℕ) (was : ℕ → Bool) (c : ℕ) → also d was c ≡ true → (c ≡ d) ⊎ (was c ≡ true)
unfolding also
also_is d was c is = elim (was c) as (λ t. was c ≡ t → (c ≡ d) ⊎ (was c ≡ true)) [
  | true ↦ λ e. inr e
  | false ↦ λ e. inl (let own : (c == d) ≡ true = or_left (c == d) (was c) is e in grind (arith, nat_tests))
] refl
  where
    or_left : (a b : Bool) → (a || b) ≡ true → b ≡ false → a ≡ true
    or_left true b is e = refl
    or_left false b is e = absurd (false≢true (sym e ∙ is))

also_not : (d : ℕ) (was : ℕ → Bool) (c : ℕ) → also d was c ≡ false → was c ≡ false
unfolding also
also_not d was c is = by (c == d) (was c) is
  where
    by : (a b : Bool) → (a || b) ≡ false → b ≡ false
    by true b is = absurd (false≢true (sym is))
    by false b is = is

also_own : (d : ℕ) (was : ℕ → Bool) → also d was d ≡ true
unfolding also
also_own d was = ap (λ b. b || was d) (let e : (d == d) ≡ true = grind (arith, nat_tests) in e)

-- a move, after which these clients are dead
cover_move : (laws : Laws) (p : Course) (w : WorldState) (m : Move) (rest : List Move) → (r : Covers p w (m ∷ rest)) → (dead : ℕ → Bool) → ((c : ℕ) → dead c ≡ false → r.was c ≡ false)
    → ((c : ℕ) → dead c ≡ true → (p.live.client c ≡ false) × IsDead p.deal w (m ∷ rest) c) → SparesIn (record { client = λ c. not (dead c); voter = λ v. true }) w m → Covers p (move p.deal w m) rest
cover_move laws p w m rest r dead still passed spares =
    let deal = p.deal in
    let k : Shading = record { live = record { client = λ c. not (dead c); voter = λ v. true }; dead = dead; apart = λ c lives. by (dead c) lives; first = r.base; others = r.others } in
    let begin = begins laws k p r.was w r.under still r.rests r.sure (λ c down lives. absurd (false≢true (sym down ∙ ap not lives))) in
    let s = begun deal k in
    let allow : Allows k deal w m = record {
      rests = λ c is. (passed c is).1.0;
      stays = λ c down lives. absurd (false≢true (sym down ∙ ap not lives));
      spares = spares;
    } in
    let end = moves_once k p w.visible s.visible w s begin.shades m allow in
    let steps = image k w m in
    let z = run_of deal steps s in
    let goes = Goes-run laws p steps s (begin.few r.few) begin.shades.sure in
    record {
      was = dead;
      others = extra k;
      base = z;
      under = record {
        voters = end.shade.voters;
        clients = end.shade.clients;
        same = end.shade.same;
        sent = end.shade.sent;
        draws = end.shade.draws;
        draws2 = end.shade.draws2;
        side = end.shade.side;
      };
      passed = λ c is. ((passed c is).0, (passed c is).1.1);
      rests = Rests-run deal steps s begin.rests;
      few = λ v. (let most = begin.few r.few v in let rises = (goes.outlasts v).granted in omega arith);
      sure = end.sure;
      heeded = λ c lives. kept-by (Heeds c) (Heeds-moved laws c) deal steps s (stays_coherent p s begin.shades.sure) (begin.heeds c (alive c lives) (r.heeded c lives));
    }
  where
    by : (b : Bool) → not b ≡ true → b ≡ false
    by true lives = absurd (false≢true lives)
    by false lives = refl

    alive : (c : ℕ) → p.live.client c ≡ true → dead c ≡ false
    alive c lives = elim (dead c) as (λ t. dead c ≡ t → t ≡ false) [ true ↦ λ is. absurd (false≢true (sym (passed c is).0 ∙ lives)) | false ↦ λ _. refl ] refl

pub cover_moves : (laws : Laws) (p : Course) (moves more : List Move) (w : WorldState) → Covers p w (moves ++ more) → LetsGoOfDead p.live p.deal w moves more → Covers p (moved p.deal moves w) more
cover_moves laws p [] more w r lets = r
cover_moves laws p (Goes t ∷ moves) more w r lets =
    cover_moves laws p moves more (move p.deal w (Goes t)) (cover_move laws p w (Goes t) (moves ++ more) r r.was (λ c alive. alive) r.passed tt) lets
cover_moves laws p (LetsGo v ∷ moves) more w r lets = cover_moves laws p moves more (move p.deal w (LetsGo v)) (by (voter_at w.voters v).held refl) lets.1
  where
    by : (held : Option Grant) → (voter_at w.voters v).held ≡ held → Covers p (move p.deal w (LetsGo v)) (moves ++ more)
    by None is = cover_move laws p w (LetsGo v) (moves ++ more) r r.was (λ c alive. alive) r.passed (λ g held. absurd (none-some g (sym is ∙ held)))
    by (Some g) is =
        let gone = lets.0 g is in
        cover_move laws p w (LetsGo v) (moves ++ more) r (also g.client r.was) (also_not g.client r.was)
        (λ c dead. elim (also_is g.client r.was c dead) [
          | inl own ↦ subst (λ i. (p.live.client i ≡ false) × IsDead p.deal w (LetsGo v ∷ (moves ++ more)) i) (sym own) gone
          | inr was ↦ r.passed c was
        ])
        (λ h held. ap not (subst (λ (i : Grant). also g.client r.was i.client ≡ true) (same_Some g h (sym is ∙ held)) (also_own g.client r.was)))
