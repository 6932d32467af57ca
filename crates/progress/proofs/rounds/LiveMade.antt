-- the rounds of moves that are made are live, and in time; nobody asks anew in them
use Rattle.std.proofs.Common.{◌≡◌, ℕ, zero, suc, ◌+◌, ◌-◌, ◌<◌, ◌≤◌, Bool, true, false, List, [], ◌∷◌, ◌++◌, length, map, Option, None, Some, Ok, refl, sym, ap, subst, ◌∙◌, inl, inr, arith, length-append}
use Rattle.std.specs.Prelude.{◌&&◌, if◌then◌else◌, not, slice_get}
use Rattle.std.specs.List.{AllByRecursion, Contains, list_all}
use Rattle.std.proofs.lemmas.Bool.{cases_eq, false≢true, false_from_ne_true}
use Rattle.std.proofs.lemmas.List.{append-nil}
use Rattle.std.proofs.lemmas.List.Elements.{Contains-append_left, Contains-append_right}
use Rattle.numbers.proofs.Lists.{AllByRecursion-append, AllByRecursion-weaker}
use Rattle.message.specs.declared.message.Message.{Message}
use Rattle.message.specs.declared.message.ToClient.{ToClient}
use Rattle.voter.specs.declared.state.Grant.{Grant}
use Rattle.voter.specs.declared.state.VoterState.{VoterState}
use Rattle.voter.specs.Steps as voter
use Rattle.voter.specs.VoterContract.{IsEntry}
use Rattle.requester.specs.declared.state.ClientState.{ClientState}
use Rattle.requester.specs.declared.state.Phase.{Phase}
use Rattle.requester.specs.declared.state.Phase.TheVariants.{Asking, Idle, Inside}
use Rattle.requester.proofs.Members.{list_all-member}
use Rattle.requester.proofs.Messages.{KeepsRequest-take}
use Rattle.requester.proofs.RangeLemmas.{is_inside-busy}
use Rattle.numbers.specs.Sets.{has}
use Rattle.requester.specs.Steps as requester
use Rattle.requester.specs.Words.{is_asking, is_idle, members}
use Rattle.requester.proofs.SoundSteps.{give_up-Ok, is_asking-busy, leave-Ok}
use Rattle.world_state.specs.declared.step.Event.{Event}
use Rattle.world_state.specs.declared.step.Step.{Step}
use Rattle.world_state.specs.declared.step.Step.TheVariants.{Ask, Deliver, Exchange, GiveUp, Leave, RemindClient, RemindVoter}
use Rattle.world.specs.Runs.{after, run_of}
use Rattle.world.specs.WayIn.{Serves}
use Rattle.world_state.specs.Steps.{Dealing, WorldState, after_voter, client_at, voter_at}
use Rattle.world.proofs.Places.{voter_here}
use Rattle.progress.specs.LiveRounds.{HasGrantsThere, IsAnswered, IsLiveRound, IsReminded, IsServed, Live, is_between}
use Rattle.progress.specs.Moves.{EachMove, Goes, LetsGo, Move, let_go, move, moved, of_moves, release_of, steps_among}
use Rattle.progress.specs.Rounds.{late_steps}
use Rattle.progress.proofs.run.Along.{contains_split, next}
use Rattle.progress.proofs.invariants.Fitting.{take-Ok}
use Rattle.progress.proofs.rounds.LiveMaking.{Part, all_dead, allows_round, begins_move, blocks, chosen, client_block, duties, frees, is_caught, is_first, part_left, part_of, part_right, remind_voters, round, served, voter_block}
use Rattle.progress.proofs.rounds.Making.{all_answered, answer_all, answer_all_serves, in_time, is_reminded, remind, remind_serves, sent_more}
use Rattle.progress.proofs.rounds.Reminders.{answered_before, answered_goes, answered_then, reminded_goes, reminded_more}
use Rattle.progress.proofs.shade.Shaded.{quit_of, quits}
use Rattle.progress.proofs.rounds.Fair.{was_sent}
use Rattle.progress.proofs.block.Known.{within_by}
use Rattle.progress.proofs.losses.Lasting.{left_grants}
use Rattle.progress.proofs.rounds.Longer.{contains_here}
use Rattle.progress.specs.Rules.{Laws}
use Rattle.progress.proofs.run.Moves.{Makes, MovedBy, MovedBy-step}
use Rattle.progress.proofs.invariants.Outstanding.{step-GivesUp, step-Leaves}
use Rattle.progress.proofs.shade.Shade.{Allows, Shades, Shading, each_split, extra, freed, image, images, moved_then, moves_on, moves_once, shifted}
use Rattle.progress.proofs.invariants.Sure.{Course, IsSure, IsSure-after}

-- ---- each step of the duties is a reminder, a Leave, or the arrival of a message that was sent in the round

pub steps_append : (a b : List Move) → steps_among (a ++ b) ≡ steps_among a ++ steps_among b
steps_append [] b = refl
steps_append (Goes t ∷ a) b = ap (λ l. t ∷ l) (steps_append a b)
steps_append (LetsGo v ∷ a) b = steps_append a b

steps_goes : (steps : List Step) → steps_among (map Goes steps) ≡ steps
steps_goes [] = refl
steps_goes (t ∷ steps) = ap (λ l. t ∷ l) (steps_goes steps)

-- so it is of these moves
abbrev pub AllServe : ℕ → List Move → Type 0
AllServe first moves = AllByRecursion (Serves first) (steps_among moves)

serve_join : (first : ℕ) (a b : List Move) → AllServe first a → AllServe first b → AllServe first (a ++ b)
serve_join first a b h g = subst (AllByRecursion (Serves first)) (sym (steps_append a b)) (AllByRecursion-append (Serves first) (steps_among a) (steps_among b) h g)

pub sent_moved : (deal : Dealing) (moves : List Move) (x : WorldState) → length x.sent ≤ length (moved deal moves x).sent
sent_moved deal [] x = omega arith
sent_moved deal (m ∷ moves) x =
    let more = begins_move deal x.sent x m ([], sym (append-nil x.sent)) in
    let first = ap length more.1 in
    let both = length-append x.sent more.0 in
    let rest = sent_moved deal moves (move deal x m) in
    omega arith

serve_blocks : (deal : Dealing) (first : ℕ) (f : WorldState → ℕ → List Move) → ((x : WorldState) (i : ℕ) → first ≤ length x.sent → AllServe first (f x i)) → (low n : ℕ) (x : WorldState) → first ≤ length x.sent → AllServe first (blocks deal f low n x)
unfolding blocks
serve_blocks deal first f h low zero x least = tt
serve_blocks deal first f h low (suc n) x least =
    let y = moved deal (f x low) x in
    serve_join first (f x low) (blocks deal f (low + 1) n y) (h x low least) (serve_blocks deal first f h (low + 1) n y (let grows = sent_moved deal (f x low) x in omega arith))

serve_client : (live : Live) (deal : Dealing) (first : ℕ) (x : WorldState) (c : ℕ) → first ≤ length x.sent → AllServe first (client_block live deal x c)
unfolding client_block
serve_client live deal first x c least = elim (live.client c) as (λ b. AllServe first (if b then map Goes (remind live deal x (RemindClient c)) else [])) [
  | true ↦ subst (AllByRecursion (Serves first)) (sym (steps_goes (remind live deal x (RemindClient c)))) (remind_serves live deal x (RemindClient c) first tt least)
  | false ↦ tt
]

serve_free : (live : Live) (first v : ℕ) (held : Option Grant) → AllServe first (frees live v held)
unfolding frees
serve_free live first v None = tt
serve_free live first v (Some g) = elim (live.client g.client) as (λ b. AllServe first (if b then [] else LetsGo v ∷ [])) [ true ↦ tt | false ↦ tt ]

serve_voter : (live : Live) (deal : Dealing) (first : ℕ) (x : WorldState) (v : ℕ) → first ≤ length x.sent → AllServe first (voter_block live deal x v)
unfolding voter_block served
serve_voter live deal first x v least =
    let y = next deal x (RemindVoter v) in
    let free = frees live v (voter_at x.voters v).held in
    let z = moved deal free y in
    let answers = answer_all live deal y.sent z (length x.sent) (length y.sent - length x.sent) in
    let grows = sent_more deal x (RemindVoter v) in
    let more = sent_moved deal free y in
    elim (live.voter v) as (λ b. AllServe first (if b then Goes (RemindVoter v) ∷ served live deal x v else [])) [
      | true ↦ (
        tt,
        serve_join first free (map Goes answers) (serve_free live first v (voter_at x.voters v).held)
            (subst (AllByRecursion (Serves first)) (sym (steps_goes answers)) (answer_all_serves live deal y.sent z (length x.sent) (length y.sent - length x.sent) first least (omega arith))),
      )
      | false ↦ tt
    ]

serve_chosen : (first : ℕ) (test : ℕ → Bool) (f : ℕ → Step) → ((c : ℕ) → Serves first (f c)) → (n : ℕ) → AllServe first (chosen test f n)
unfolding chosen
serve_chosen first test f h zero = tt
serve_chosen first test f h (suc n) = serve_join first (chosen test f n) (if test n then Goes (f n) ∷ [] else []) (serve_chosen first test f h n)
    (elim (test n) as (λ b. AllServe first (if b then Goes (f n) ∷ [] else [])) [ true ↦ (h n, tt) | false ↦ tt ])

pub serve_duties : (live : Live) (deal : Dealing) (first : ℕ) (x : WorldState) → first ≤ length x.sent → AllServe first (duties live deal x)
unfolding duties
serve_duties live deal first x least =
    let n = length x.clients in
    let a = blocks deal (client_block live deal) 0 n x in
    let y = moved deal a x in
    let b = blocks deal (voter_block live deal) 0 (length x.voters) y in
    let grows = sent_moved deal a x in
    serve_join first a (b ++ chosen live.client Leave n) (serve_blocks deal first (client_block live deal) (serve_client live deal first) 0 n x least)
    (serve_join first b (chosen live.client Leave n) (serve_blocks deal first (voter_block live deal) (serve_voter live deal first) 0 (length x.voters) y (omega arith))
    (serve_chosen first live.client Leave (λ c. tt) n))

-- ---- so no REQUEST is late

late_join : (old : ℕ) (sent : List Message) (a b : List Step) → late_steps old sent (a ++ b) ≡ late_steps old sent a + late_steps old sent b
late_join old sent [] b = omega arith
late_join old sent (t ∷ a) b = (let rest = late_join old sent a b in omega arith)

late_quits : (old : ℕ) (sent : List Message) (test : ℕ → Bool) (n : ℕ) → late_steps old sent (steps_among (chosen test GiveUp n)) ≡ 0
unfolding chosen
late_quits old sent test zero = refl
late_quits old sent test (suc n) =
    let rest = late_quits old sent test n in
    let last : late_steps old sent (steps_among (if test n then Goes (GiveUp n) ∷ [] else [])) ≡ 0 = elim (test n) as (λ b. late_steps old sent (steps_among (if b then Goes (GiveUp n) ∷ [] else [])) ≡ 0) [ true ↦ refl | false ↦ refl ] in
    let both = ap (late_steps old sent) (steps_append (chosen test GiveUp n) (if test n then Goes (GiveUp n) ∷ [] else [])) ∙ late_join old sent (steps_among (chosen test GiveUp n)) (steps_among (if test n then Goes (GiveUp n) ∷ [] else [])) in
    omega arith

pub late_round : (live : Live) (deal : Dealing) (old : ℕ) (w : WorldState) → old ≤ length w.sent → late_steps old w.sent (steps_among (round live deal w)) ≡ 0
unfolding round
late_round live deal old w most =
    let quit = chosen (is_caught live w) GiveUp (length w.clients) in
    let x = moved deal quit w in
    let grows = sent_moved deal quit w in
    let first = late_quits old w.sent (is_caught live w) (length w.clients) in
    let rest = in_time old (length w.sent) w.sent (steps_among (duties live deal x)) most (serve_duties live deal (length w.sent) x grows) in
    let both = ap (late_steps old w.sent) (steps_append quit (duties live deal x)) ∙ late_join old w.sent (steps_among quit) (steps_among (duties live deal x)) in
    omega arith

-- ---- nobody asks anew

-- the step is no Ask
abbrev pub IsNoAsk : Step → Type 0
IsNoAsk (Ask c) = ⊥
IsNoAsk (Deliver k) = Unit {0}
IsNoAsk (Leave c) = Unit {0}
IsNoAsk (GiveUp c) = Unit {0}
IsNoAsk (RemindClient c) = Unit {0}
IsNoAsk (RemindVoter v) = Unit {0}
IsNoAsk Exchange = Unit {0}

serves_no_ask : (first : ℕ) (t : Step) → Serves first t → IsNoAsk t
serves_no_ask first (Ask c) h = h
serves_no_ask first (Deliver k) h = tt
serves_no_ask first (Leave c) h = tt
serves_no_ask first (GiveUp c) h = tt
serves_no_ask first (RemindClient c) h = tt
serves_no_ask first (RemindVoter v) h = tt
serves_no_ask first Exchange h = tt

abbrev pub NoAsks : List Move → Type 0
NoAsks moves = AllByRecursion IsNoAsk (steps_among moves)

no_asks_join : (a b : List Move) → NoAsks a → NoAsks b → NoAsks (a ++ b)
no_asks_join a b h g = subst (AllByRecursion IsNoAsk) (sym (steps_append a b)) (AllByRecursion-append IsNoAsk (steps_among a) (steps_among b) h g)

no_asks_quit : (test : ℕ → Bool) (n : ℕ) → NoAsks (chosen test GiveUp n)
unfolding chosen
no_asks_quit test zero = tt
no_asks_quit test (suc n) = no_asks_join (chosen test GiveUp n) (if test n then Goes (GiveUp n) ∷ [] else []) (no_asks_quit test n)
    (elim (test n) as (λ b. NoAsks (if b then Goes (GiveUp n) ∷ [] else [])) [ true ↦ (tt, tt) | false ↦ tt ])

pub no_asks_round : (live : Live) (deal : Dealing) (w : WorldState) → NoAsks (round live deal w)
unfolding round
no_asks_round live deal w =
    let quit = chosen (is_caught live w) GiveUp (length w.clients) in
    let x = moved deal quit w in
    no_asks_join quit (duties live deal x) (no_asks_quit (is_caught live w) (length w.clients))
    (AllByRecursion-weaker (Serves 0) IsNoAsk (serves_no_ask 0) (steps_among (duties live deal x)) (serve_duties live deal 0 x (omega arith)))

-- The client made no new request: it has its stamp and its quorum, and asks only if it did.
pub record Calm (x y : ClientState) : Type 0 where
  pub stamp : y.stamp ≡ x.stamp
  pub quorum : members y ≡ members x
  pub asks : is_asking y.phase ≡ true → is_asking x.phase ≡ true

calm_self : (x : ClientState) → Calm x x
calm_self x = record { stamp = refl; quorum = refl; asks = λ asks. asks }

calm_then : (x y z : ClientState) → Calm x y → Calm y z → Calm x z
calm_then x y z a b = record { stamp = b.stamp ∙ a.stamp; quorum = b.quorum ∙ a.quorum; asks = λ asks. a.asks (b.asks asks) }

calm_take : (x : ClientState) (m : ToClient) → Calm x (requester.take x m).state
calm_take x m =
    let k = KeepsRequest-take x m in
    record {
      stamp = k.stamp;
      quorum = ap (λ q. q.items) k.quorum;
      asks = λ asks. elim k.phase [ inl same ↦ ap is_asking (sym same.0) ∙ asks | inr enters ↦ absurd (false≢true (sym (ap is_asking enters.after) ∙ asks)) ];
    }

calm_by : (t : Step) (who : ℕ) (x : ClientState) (cause : requester.Cause) (o : requester.Outcome) → Makes t who cause → IsNoAsk t → requester.step x cause ≡ Ok o → Calm x o.state
calm_by t who x (requester.Asks q) o makes none is = absurd (subst IsNoAsk makes none)
calm_by t who x (requester.Takes m) o makes none is = subst (λ (p : requester.Outcome). Calm x p.state) (take-Ok x m o is) (calm_take x m)
calm_by t who x requester.Leaves o makes none is = subst (λ (p : requester.Outcome). Calm x p.state) (leave-Ok x o (step-Leaves x o is)).1 (record { stamp = refl; quorum = refl; asks = λ asks. absurd (false≢true asks) })
calm_by t who x requester.GivesUp o makes none is = subst (λ (p : requester.Outcome). Calm x p.state) (give_up-Ok x o (step-GivesUp x o is)).1 (record { stamp = refl; quorum = refl; asks = λ asks. absurd (false≢true asks) })

calm_moved : (t : Step) (x y : WorldState) → MovedBy t x y → IsNoAsk t → (c : ℕ) → Calm (client_at x.clients c) (client_at y.clients c)
calm_moved t x y moved none c = elim moved [
  | inl client ↦
      let k = client.0 in
      elim (cases_eq c k.who) [
        | inl same ↦ subst (λ i. Calm (client_at x.clients i) (client_at y.clients i)) (sym same)
            (subst (λ (z : ClientState). Calm (client_at x.clients k.who) z) (sym k.here) (calm_by t k.who (client_at x.clients k.who) k.cause k.outcome client.1 none k.step))
        | inr other ↦ subst (λ (z : ClientState). Calm (client_at x.clients c) z) (sym (k.others c other)) (calm_self (client_at x.clients c))
      ]
  | inr (inl voter) ↦ subst (λ (cs : List ClientState). Calm (client_at x.clients c) (client_at cs c)) (sym voter.0.clients) (calm_self (client_at x.clients c))
  | inr (inr sent) ↦ subst (λ (cs : List ClientState). Calm (client_at x.clients c) (client_at cs c)) (sym sent.clients) (calm_self (client_at x.clients c))
]

calm_run : (p : Course) (steps : List Step) (x : WorldState) → IsSure p x → AllByRecursion IsNoAsk steps → (c : ℕ) → Calm (client_at x.clients c) (client_at (run_of p.deal steps x).clients c)
calm_run p [] x r none c = calm_self (client_at x.clients c)
calm_run p (t ∷ steps) x r none c =
    let y = next p.deal x t in
    calm_then (client_at x.clients c) (client_at y.clients c) (client_at (run_of p.deal steps y).clients c)
    (calm_moved t x y (MovedBy-step p.deal x (r []).coherent.numbered t) none.0 c) (calm_run p steps y (IsSure-after p x r t) none.1 c)

no_ask_shifted : (n : ℕ) (t : Step) → IsNoAsk t → IsNoAsk (shifted n t)
unfolding shifted
no_ask_shifted n (Ask c) h = h
no_ask_shifted n (Deliver k) h = tt
no_ask_shifted n (Leave c) h = tt
no_ask_shifted n (GiveUp c) h = tt
no_ask_shifted n (RemindClient c) h = tt
no_ask_shifted n (RemindVoter v) h = tt
no_ask_shifted n Exchange h = tt

no_ask_freed : (k : Shading) (v : ℕ) (held : Option Grant) → AllByRecursion IsNoAsk (freed k v held)
unfolding freed
no_ask_freed k v None = tt
no_ask_freed k v (Some g) = (tt, tt)

no_ask_images : (k : Shading) (deal : Dealing) (moves : List Move) (x : WorldState) → NoAsks moves → AllByRecursion IsNoAsk (images k deal x moves)
unfolding images image
no_ask_images k deal [] x h = tt
no_ask_images k deal (Goes t ∷ moves) x h = (no_ask_shifted (length (extra k)) t h.0, no_ask_images k deal moves (move deal x (Goes t)) h.1)
no_ask_images k deal (LetsGo v ∷ moves) x h = AllByRecursion-append IsNoAsk (freed k v (voter_at x.voters v).held) (images k deal (move deal x (LetsGo v)) moves)
    (no_ask_freed k v (voter_at x.voters v).held) (no_ask_images k deal moves (move deal x (LetsGo v)) h)

-- a client that is not dead makes no new request
pub calm_moves : (k : Shading) (p : Course) (a b : List Event) (moves : List Move) (x s : WorldState) → Shades k p a b x s → EachMove (Allows k p.deal) p.deal x moves → NoAsks moves → (c : ℕ) → k.dead c ≡ false
    → Calm (client_at x.clients c) (client_at (moved p.deal moves x).clients c)
calm_moves k p a b moves x s h allow none c lives =
    let end = moves_on k p a b moves x s h allow in
    subst (λ (z : ClientState). Calm z (client_at (moved p.deal moves x).clients c)) (h.shade.same c lives)
    (subst (λ (z : ClientState). Calm (client_at s.clients c) z) (end.shade.same c lives) (calm_run p (images k p.deal x moves) s h.sure (no_ask_images k p.deal moves x none) c))

-- ---- the round is live

client_reminded : (live : Live) (deal : Dealing) (w : WorldState) (moves : List Move) (c : ℕ) → Part deal w moves (λ y. client_block live deal y c) → live.client c ≡ true → IsReminded of_moves live deal w moves (RemindClient c)
unfolding client_block
client_reminded live deal w moves c part lives =
    let y = moved deal part.before w in
    let t = RemindClient c in
    let block = remind live deal y t in
    subst (λ l. IsReminded of_moves live deal w l t) (sym (part.is ∙ ap (λ b. part.before ++ ((if b then map Goes block else []) ++ part.rest)) lives))
    (reminded_more of_moves moved_then live deal w part.before (map Goes block) part.rest t (reminded_goes live deal y block t (is_reminded live deal y t)))

-- a grant that was let go is over
over_after : (laws : Laws) (y : WorldState) (v : ℕ) (g : Grant) → v < length y.voters → voter.IsSound (voter_at y.voters v) → (voter_at y.voters v).granted < (voter_at y.voters v).limit
    → (voter_at y.voters v).held ≡ Some g → IsEntry (voter_at (let_go y v (voter_at y.voters v).held).voters v) g.client g.stamp → ⊥
over_after laws y v g within sound left held entry =
    let x = voter_at y.voters v in
    let m = release_of v g in
    let takes = laws.voter.takes x m sound left in
    let went : voter_at (let_go y v x.held).voters v ≡ takes.0.state =
    ap (λ o. voter_at (let_go y v o).voters v) held ∙ ap (λ o. voter_at (after y (after_voter y v o)).voters v) takes.1 ∙ voter_here y.voters v takes.0.state within in
    laws.voter.ends x m takes.0 g g.stamp sound held refl refl (omega arith) takes.1 g.stamp (subst (λ (z : VoterState). IsEntry z g.client g.stamp) went entry)

voter_serves : (laws : Laws) (live : Live) (deal : Dealing) (w : WorldState) (moves : List Move) (v : ℕ) → (part : Part deal w moves (λ y. voter_block live deal y v)) → live.voter v ≡ true
    → v < length (moved deal part.before w).voters → voter.IsSound (voter_at (moved deal part.before w).voters v)
    → (voter_at (moved deal part.before w).voters v).granted < (voter_at (moved deal part.before w).voters v).limit → IsServed of_moves live deal w moves v
unfolding voter_block served frees
voter_serves laws live deal w moves v part up within sound left =
    let t = RemindVoter v in
    let before = part.before in
    let y = moved deal before w in
    let z = next deal y t in
    let free = frees live v (voter_at y.voters v).held in
    let u = moved deal free z in
    let answers = answer_all live deal z.sent u (length y.sent) (length z.sent - length y.sent) in
    let later = free ++ map Goes answers in
    let there : moved deal (before ++ Goes t ∷ []) w ≡ z = moved_then deal before (Goes t ∷ []) w in
    let split : moves ≡ before ++ Goes t ∷ (later ++ part.rest) = part.is ∙ ap (λ b. before ++ ((if b then Goes t ∷ later else []) ++ part.rest)) up in
    let same = remind_voters deal y v in
    record {
      reminded = record {
        first = before;
        rest = later ++ part.rest;
        split = split;
        arrive = λ k least between.
            let known = ap (λ (x : WorldState). is_between live (slice_get x.sent k)) (sym there) ∙ between in
            let less = was_sent live z.sent k known in
            subst (λ (x : WorldState). IsAnswered of_moves live deal x (later ++ part.rest) k) (sym there)
            (answered_then of_moves live deal z later part.rest k (answered_before of_moves moved_then live deal z free (map Goes answers) k
            (answered_goes live deal u answers k (all_answered live deal z.sent u (length y.sent) (length z.sent - length y.sent) k least (omega arith) known))));
      };
      drops = λ g held gone.
          let lets : free ≡ LetsGo v ∷ [] = ap (frees live v) held ∙ ap (λ b. if b then [] else LetsGo v ∷ []) gone in
          record {
            first = Goes t ∷ LetsGo v ∷ [];
            rest = map Goes answers ++ part.rest;
            split = ap (λ l. Goes t ∷ ((l ++ map Goes answers) ++ part.rest)) lets;
            over = over_after laws z v g (subst (λ (vs : List VoterState). v < length vs) (sym same) within) (subst (λ (vs : List VoterState). voter.IsSound (voter_at vs v)) (sym same) sound)
                (subst (λ (vs : List VoterState). (voter_at vs v).granted < (voter_at vs v).limit) (sym same) left) (ap (λ (vs : List VoterState). (voter_at vs v).held) same ∙ held);
          };
    }

contains_chosen : (test : ℕ → Bool) (f : ℕ → Step) (n c : ℕ) → c < n → test c ≡ true → Contains (chosen test f n) (Goes (f c))
unfolding chosen
contains_chosen test f zero c less is = absurd (omega arith)
contains_chosen test f (suc n) c less is = elim (cases_eq c n) [
  | inl same ↦ Contains-append_right (chosen test f n) (if test n then Goes (f n) ∷ [] else []) (Goes (f c))
      (subst (λ b. Contains (if b then Goes (f n) ∷ [] else []) (Goes (f c))) (sym (ap test (sym same) ∙ is)) (contains_here (Goes (f n)) (Goes (f c)) [] (ap (λ i. Goes (f i)) (sym same))))
  | inr other ↦ Contains-append_left (chosen test f n) (if test n then Goes (f n) ∷ [] else []) (Goes (f c)) (contains_chosen test f n c (omega arith) is)
]

some_fails : (p : ℕ → Bool) (v : ℕ) (q : List ℕ) → has q v ≡ true → p v ≡ false → list_all p q ≡ false
some_fails p v q member is = false_from_ne_true (list_all p q) (λ all. false≢true (sym is ∙ list_all-member p v q all member))

-- the client gives up, and asks no more
gives_up : (deal : Dealing) (y : WorldState) (c : ℕ) → is_asking (client_at y.clients c).phase ≡ true → is_idle (client_at (next deal y (GiveUp c)).clients c).phase ≡ true
unfolding quit_of
gives_up deal y c asks = by (client_at y.clients c).phase refl asks
  where
    by : (q : Phase) → (client_at y.clients c).phase ≡ q → is_asking q ≡ true → is_idle (client_at (next deal y (GiveUp c)).clients c).phase ≡ true
    by Idle is asks = absurd (false≢true asks)
    by Asking is asks = (quits deal y c (within_by y c (ap is_idle is)) Asking is).idle
    by Inside is asks = absurd (false≢true asks)

in_round : (live : Live) (deal : Dealing) (w : WorldState) (m : Move) → Contains (chosen (is_caught live w) GiveUp (length w.clients)) m → Contains (round live deal w) m
unfolding round
in_round live deal w m there = Contains-append_left (chosen (is_caught live w) GiveUp (length w.clients)) _ m there

no_asks_last : (before : List Move) (t : Step) (rest : List Move) → NoAsks (before ++ Goes t ∷ rest) → NoAsks rest
no_asks_last [] t rest none = none.1
no_asks_last (Goes u ∷ before) t rest none = no_asks_last before t rest none.1
no_asks_last (LetsGo v ∷ before) t rest none = no_asks_last before t rest none

-- who is caught does not ask at the end of the round
pub caught_ends : (live : Live) (first : WorldState) (p : Course) (a b : List Event) (w s : WorldState) → Shades (all_dead live first) p a b w s → (c : ℕ) → c < length w.clients → is_caught live w c ≡ true
    → is_asking (client_at (moved p.deal (round live p.deal w) w).clients c).phase ≡ true → ⊥
unfolding all_dead
caught_ends live first p a b w s h c within caught on =
    let deal = p.deal in
    let k = all_dead live first in
    let quit = chosen (is_caught live w) GiveUp (length w.clients) in
    let all = round live deal w in
    let lives = ap not (is_first (live.client c) _ caught) in
    let parts = contains_split all (Goes (GiveUp c)) (in_round live deal w (Goes (GiveUp c)) (contains_chosen (is_caught live w) GiveUp (length w.clients) c within caught)) in
    let before = parts.0 in
    let rest = parts.1 in
    let y = moved deal before w in
    let z = move deal y (Goes (GiveUp c)) in
    let allow = subst (EachMove (Allows k deal) deal w) parts.2 (allows_round live first deal w) in
    let cut = each_split (Allows k deal) deal before (Goes (GiveUp c) ∷ rest) w allow in
    let none = subst NoAsks parts.2 (no_asks_round live deal w) in
    let none_rest = no_asks_last before (GiveUp c) rest none in
    let at_y = moves_on k p a b before w s h cut.0 in
    let at_z = moves_once k p a b y _ at_y (Goes (GiveUp c)) cut.1.0 in
    let ends : moved deal all w ≡ moved deal rest z = ap (λ l. moved deal l w) parts.2 ∙ moved_then deal before (Goes (GiveUp c) ∷ rest) w in
    let asks_z = (calm_moves k p a b rest z _ at_z cut.1.1 none_rest c lives).asks (subst (λ (u : WorldState). is_asking (client_at u.clients c).phase ≡ true) ends on) in
    let asks_y = (calm_moves k p a b (Goes (GiveUp c) ∷ []) y _ at_y (cut.1.0, tt) (tt, tt) c lives).asks asks_z in
    false≢true (sym (is_asking-busy (client_at z.clients c).phase asks_z) ∙ gives_up deal y c asks_y)

-- the round in its parts
quit_in : Live → WorldState → List Move
quit_in live w = chosen (is_caught live w) GiveUp (length w.clients)

same_many : (live : Live) (first : WorldState) (p : Course) (a b : List Event) (w s : WorldState) → Shades (all_dead live first) p a b w s → (moves : List Move) → EachMove (Allows (all_dead live first) p.deal) p.deal w moves
    → (length (moved p.deal moves w).clients ≡ length w.clients) × (length (moved p.deal moves w).voters ≡ length w.voters)
same_many live first p a b w s h moves allow =
    let k = all_dead live first in
    let end = (moves_on k p a b moves w s h allow).shade in
    (end.many_clients ∙ sym h.shade.many_clients, end.many_voters ∙ sym h.shade.many_voters)

pub round_live : (laws : Laws) (live : Live) (first : WorldState) (p : Course) → p.live ≡ live → (a b : List Event) (w s : WorldState) → Shades (all_dead live first) p a b w s → HasGrantsThere live 1 (moved p.deal (round live p.deal w) w)
    → IsLiveRound of_moves live p.deal w (round live p.deal w)
unfolding round duties all_dead quit_in
round_live laws live first p own a b w s h left =
    let deal = p.deal in
    let k = all_dead live first in
    let n = length w.clients in
    let quit = quit_in live w in
    let allow = allows_round live first deal w in
    let cut = each_split (Allows k deal) deal quit (duties live deal (moved deal quit w)) w allow in
    let x = moved deal quit w in
    let at_x = moves_on k p a b quit w s h cut.0 in
    let many = same_many live first p a b w s h quit cut.0 in
    let clients = blocks deal (client_block live deal) 0 (length x.clients) x in
    let y = moved deal clients x in
    let voters = blocks deal (voter_block live deal) 0 (length x.voters) y in
    let leaves = chosen live.client Leave (length x.clients) in
    record {
      clients = λ c within lives. client_reminded live deal w (round live deal w) c
          (part_right deal w quit (clients ++ (voters ++ leaves)) (λ z. client_block live deal z c) (part_left deal x clients (voters ++ leaves) (λ z. client_block live deal z c)
          (part_of deal (client_block live deal) 0 (length x.clients) c x (omega arith) (let same = many.0 in omega arith)))) lives;
      voters = λ v within up.
          let part = part_right deal w quit (clients ++ (voters ++ leaves)) (λ z. voter_block live deal z v) (part_right deal x clients (voters ++ leaves) (λ z. voter_block live deal z v)
          (part_left deal y voters leaves (λ z. voter_block live deal z v) (part_of deal (voter_block live deal) 0 (length x.voters) v y (omega arith) (let same = many.1 in omega arith)))) in
          let u = moved deal part.before w in
          let rest = voter_block live deal u v ++ part.rest in
          let parts = each_split (Allows k deal) deal part.before rest w (subst (EachMove (Allows k deal) deal w) part.is allow) in
          let at_u = moves_on k p a b part.before w s h parts.0 in
          let t = run_of deal (images k deal w part.before) s in
          let end = moves_on k p a b rest u t at_u parts.1 in
          let goes : moved deal (round live deal w) w ≡ moved deal rest u = ap (λ l. moved deal l w) part.is ∙ moved_then deal part.before rest w in
          let count = same_many live first p a b w s h part.before parts.0 in
          let some : v < length u.voters = (let same = count.1 in omega arith) in
          let grants : HasGrantsThere p.live 1 (run_of deal (images k deal u rest) t) = subst (λ (vs : List VoterState). (i : ℕ) → i < length vs → p.live.voter i ≡ true → (voter_at vs i).granted + 1 ≤ (voter_at vs i).limit)
          (ap (λ (z : WorldState). z.voters) goes ∙ sym end.shade.voters) (subst (λ (l : Live). HasGrantsThere l 1 (moved deal (round live deal w) w)) (sym own) left) in
          let has = left_grants laws p (images k deal u rest) t at_u.sure grants v (subst (λ (vs : List VoterState). v < length vs) (sym at_u.shade.voters) some) (ap (λ (l : Live). l.voter v) own ∙ up) in
          voter_serves laws live deal w (round live deal w) v part up some
          (subst (λ (vs : List VoterState). voter.IsSound (voter_at vs v)) at_u.shade.voters ((at_u.sure []).coherent.voters v))
          (subst (λ (vs : List VoterState). (voter_at vs v).granted < (voter_at vs v).limit) at_u.shade.voters has);
      leaves = λ c lives inside.
          let within = within_by w c (is_inside-busy (client_at w.clients c).phase inside) in
          Contains-append_right quit (clients ++ (voters ++ leaves)) (Goes (Leave c)) (Contains-append_right clients (voters ++ leaves) (Goes (Leave c)) (Contains-append_right voters leaves (Goes (Leave c))
          (contains_chosen live.client Leave (length x.clients) c (let same = many.0 in omega arith) lives)));
      ends = λ c lives stuck on.
          let fails = some_fails live.voter stuck.voter (members (client_at w.clients c)) stuck.member stuck.down in
          caught_ends live first p a b w s h c (within_by w c (is_asking-busy (client_at w.clients c).phase stuck.asks))
          (ap (λ b. b && (is_asking (client_at w.clients c).phase && not (list_all live.voter (members (client_at w.clients c))))) lives
          ∙ ap (λ b. b && not (list_all live.voter (members (client_at w.clients c)))) stuck.asks ∙ ap not fails) on.asks;
    }
