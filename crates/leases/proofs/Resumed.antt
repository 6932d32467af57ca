-- requests get on after incidents, once all clients were idle but those that are dead
use Rattle.std.proofs.Common.{◌≡◌, ℕ, suc, ◌<◌, ◌≤◌, Bool, true, false, List, [], ◌∷◌, ◌++◌, length, Option, None, Some, refl, sym, ap, subst, ◌∙◌, ◌⊎◌, inl, inr, arith}
use Rattle.std.specs.Prelude.{not}
use Rattle.std.specs.List.{AllByRecursion}
use Rattle.std.proofs.lemmas.Bool.{false≢true, false_from_ne_true}
use Rattle.numbers.proofs.Lists.{AllByRecursion-append, AllByRecursion-weaker}
use Rattle.message.specs.declared.message.Message.{Message}
use Rattle.message.specs.declared.message.Message.TheVariants as kinds
use Rattle.message.specs.declared.message.ClientBody.{ClientBody}
use Rattle.message.specs.declared.message.ClientBody.TheVariants as to_client
use Rattle.message.specs.declared.message.ToVoter.{ToVoter}
use Rattle.message.specs.declared.message.VoterBody.TheVariants as asks
use Rattle.voter.specs.declared.state.Grant.{Grant}
use Rattle.voter.specs.declared.state.VoterState.{VoterState}
use Rattle.requester.proofs.SoundSteps.{IsSound-clear_votes, is_asking-busy}
use Rattle.requester.specs.Soundness.{IsSound}
use Rattle.requester.specs.Words.{is_idle, is_inquired}
use Rattle.requester.specs.declared.state.ClientState.{ClientState}
use Rattle.requester.specs.declared.state.Phase.TheVariants.{Idle}
use Rattle.world.specs.Coherence.{MessageOk}
use Rattle.world.specs.Ranges.{IsInRange}
use Rattle.world.specs.Restarts.{Saved, begin}
use Rattle.world.specs.Rules.{ClientLaws, VoterLaws}
use Rattle.world.specs.Runs.{run_of}
use Rattle.world.specs.Visible.{DealsFrom}
use Rattle.world_state.specs.Steps.{Dealing, WorldState, client_at, voter_at}
use Rattle.world_state.specs.declared.step.Step.{Step}
use Rattle.world.proofs.Claims.{Bounds}
use Rattle.world.proofs.EveryRun.{coherent_by, run_from}
use Rattle.world.proofs.Reached.{RunPremises}
use Rattle.progress.proofs.losses.Losses.{course_at}
use Rattle.progress.proofs.losses.Olds.{AreOld}
use Rattle.progress.proofs.invariants.Outstanding.{IsNoted, IsNotedAt, Outstanding}
use Rattle.progress.proofs.block.Known.{within_by}
use Rattle.progress.proofs.losses.Lasting.{Goes-run}
use Rattle.progress.proofs.shade.Shade.{Shading, each_release, releases}
use Rattle.progress.proofs.shade.Shaded.{Covers, Rests, cover_moves, ended, ends, quit}
use Rattle.progress.proofs.invariants.Sure.{IsSure, IsSure-first, IsSure-run}
use Rattle.progress.specs.LiveRounds.{LetsGoOfDead, Live, everybody}
use Rattle.progress.specs.Moves.{Goes, LetsGo, Move, let_go, move, moved, steps_among}
use Rattle.progress.specs.Rules.{Laws}
use Rattle.progress.proofs.invariants.Always.{IsUpTo, WasGiven, heeds}
use Rattle.progress.proofs.invariants.Fitting.{current_busy}
use Rattle.progress.proofs.invariants.Kept.{WorldIsKept, IsKept-first, IsKept-run, StepsKeep}
use Rattle.progress.proofs.run.Moves.{StaysCoherent}
use Rattle.progress.proofs.invariants.Placed.{AskedAt, idle_ask}
use Rattle.leases.specs.Again.{IsReachedAgain, IsReachedLive}
use Rattle.leases.specs.Comeback.{unseen}
use Rattle.world.specs.Incidents.{all_befall}
use Rattle.leases.proofs.Comeback.{ClientKnown, EndLaws, Settled, idle_out, idle_world, live_known, reaches_all}
use Rattle.leases.proofs.Numbers.{IsNamedWithin, VoterLives, Numbered, ToldSaved, count}

-- a LOCKED that was ever sent reports a grant that its voter gave
named_given : (b : Bounds) (N : ℕ → ℕ) (v n : ℕ) (body : ClientBody) → N v ≤ n → IsNamedWithin b N v body → IsUpTo n body
named_given b N v n (to_client.Locked t g) most named = let few = named.0 in omega arith
named_given b N v n (to_client.Fail t) most named = tt
named_given b N v n (to_client.Inquire g) most named = tt

told_given : (b : Bounds) (N : ℕ → ℕ) (vs : List VoterState) → ((v : ℕ) → N v ≤ (voter_at vs v).granted) → (m : Message) → ToldSaved b N m → WasGiven vs m
told_given b N vs most (kinds.ToVoter m) told = tt
told_given b N vs most (kinds.ToClient m) told = named_given b N m.voter (voter_at vs m.voter).granted m.body (most m.voter) told.2

told_asked : (b : Bounds) (N : ℕ → ℕ) (cs : List ClientState) → ((c : ℕ) → is_idle (client_at cs c).phase ≡ true) → (m : Message) → ToldSaved b N m → AskedAt cs m
told_asked b N cs idle (kinds.ToVoter m) told = idle_ask (client_at cs m.client) m.voter m.body (idle m.client)
told_asked b N cs idle (kinds.ToClient m) told = tt

-- an INQUIRE that was ever sent names a grant that is old
named_old : (b : Bounds) (N : ℕ → ℕ) (v : ℕ) (y : VoterState) (body : ClientBody) → N v ≤ y.granted → IsNamedWithin b N v body → IsNoted (suc y.granted) y body
named_old b N v y (to_client.Locked t g) most named = tt
named_old b N v y (to_client.Fail t) most named = tt
named_old b N v y (to_client.Inquire g) most named = (omega arith, λ h held same new. absurd (omega arith))

told_old : (b : Bounds) (N : ℕ → ℕ) (u : WorldState) → ((v : ℕ) → N v ≤ (voter_at u.voters v).granted) → (deal : Dealing) (m : Message) → ToldSaved b N m → IsNotedAt (course_at everybody deal u).old u.voters m
told_old b N u most deal (kinds.ToVoter m) told = tt
told_old b N u most deal (kinds.ToClient m) told = named_old b N m.voter (voter_at u.voters m.voter) m.body (most m.voter) told.2

-- who is idle has marked no voter
no_mark : (x : ClientState) (v : ℕ) → IsSound x → is_idle x.phase ≡ true → is_inquired x v ≡ true → ⊥
no_mark x v sound idle marked = false≢true (sym (sound.held v (sound.inquired v marked)).busy ∙ idle)

-- ---- the world in which all clients were idle, or those that were not have given up

-- the live world with these clients, nothing seen, and these messages before all that was sent
abbrev eased : Saved → List ClientState → List Message → WorldState
eased s cs front = record (unseen s).live { clients = cs; sent = front ++ s.live.sent }

-- what `progress` rests on in such a world: all grants that were given before are old
record Eased (deal : Dealing) (u : WorldState) : Type 0 where
  rests : Rests deal u
  keeps : StepsKeep u
  out : Outstanding (course_at everybody deal u).old u

ease : Laws → (b : Bounds) → RunPremises b → (deal : Dealing) → DealsFrom b.quorums deal → (G : VoterLives) (s : Saved) → Numbered b G s → Settled b s → (cs : List ClientState) → length cs ≡ length s.live.clients
    → ((c : ℕ) → ClientKnown b (count s.voters) s.clients c (client_at cs c)) → (front : List Message) → AllByRecursion (MessageOk (client_at cs) (voter_at s.live.voters)) front → AllByRecursion (IsInRange b.voters b.clients b.limit) front
    → ((P : Message → Type 0) → ((m : ToVoter) → P (kinds.ToVoter m)) → AllByRecursion P front) → Eased deal (eased s cs front)
ease rules b given deal deals G s num st cs many known front fine range each =
    let N = count s.voters in
    let vs = s.live.voters in
    let idle : (c : ℕ) → is_idle (client_at cs c).phase ≡ true = λ c. (known c).idle in
    let world = idle_world b G s num st (client_at cs) (voter_at vs) known (λ v. (num.live_voters v, st.live_voters v, num.behind v)) in
    let old = (course_at everybody deal (eased s cs front)).old in
    record {
      rests = record {
        bounds = b;
        given = given;
        deals = deals;
        ok = record {
          clients = many ∙ num.sizes.0;
          voters = num.sizes.1;
          world = record {
            messages = AllByRecursion-append (MessageOk (client_at cs) (voter_at vs)) front s.live.sent fine world.messages;
            ranges = AllByRecursion-append (IsInRange b.voters b.clients b.limit) front s.live.sent range world.ranges;
            held = world.held;
            last = world.last;
            clients = world.clients;
            voters = world.voters;
            client_ids = world.client_ids;
            voter_ids = world.voter_ids;
          };
          walked = record { list = tt; inside = λ c. idle_out (client_at cs c).phase (idle c) };
        };
      };
      keeps = record {
        always = record {
          seen = λ v c t entry runs. absurd (false≢true (sym (current_busy (client_at cs c) t runs) ∙ idle c));
          given = AllByRecursion-append (WasGiven vs) front s.live.sent (each (WasGiven vs) (λ m. tt)) (AllByRecursion-weaker (ToldSaved b N) (WasGiven vs) (told_given b N vs num.behind) s.live.sent num.told);
        };
        fits = record {
          pairs = λ c v. record {
            unfinished = record {
              most = (let low = (st.live_voters v).finished c in let behind = (known c).on in omega arith);
              busy = λ busy. absurd (false≢true (sym busy ∙ idle c));
            };
            last = (let few = (known c).last v in let behind = num.behind v in omega arith);
            given = λ below g held own asks. absurd (false≢true (sym (is_asking-busy (client_at cs c).phase asks) ∙ idle c));
          };
          lacks = λ c asks. absurd (false≢true (sym (is_asking-busy (client_at cs c).phase asks) ∙ idle c));
        };
        placed = record {
          asked = AllByRecursion-append (AskedAt cs) front s.live.sent (each (AskedAt cs) (λ m. idle_ask (client_at cs m.client) m.voter m.body (idle m.client)))
              (AllByRecursion-weaker (ToldSaved b N) (AskedAt cs) (told_asked b N cs idle) s.live.sent num.told);
          places = λ v c t entry runs. absurd (false≢true (sym (current_busy (client_at cs c) t runs) ∙ idle c));
          back = λ v. (st.live_voters v).back;
        };
      };
      out = record {
        noted = AllByRecursion-append (IsNotedAt old vs) front s.live.sent (each (IsNotedAt old vs) (λ m. tt))
            (AllByRecursion-weaker (ToldSaved b N) (IsNotedAt old vs) (told_old b N (eased s cs front) num.behind deal) s.live.sent num.told);
        marks = λ d v marked new. absurd (no_mark (client_at cs d) v (known d).sound (idle d) marked);
        clear = λ d hindered v. false_from_ne_true (is_inquired (client_at cs d) v) (no_mark (client_at cs d) v (known d).sound (idle d));
      };
    }

-- a client whose request has ended
quit_known : (b : Bounds) (G : VoterLives) (s : Saved) → Numbered b G s → Settled b s → (c : ℕ) → ClientKnown b (count s.voters) s.clients c (quit (client_at s.live.clients c))
quit_known b G s num st c =
    let k = num.live_clients c in
    record { sound = (let x = client_at s.live.clients c in let o = k.sound in IsSound-clear_votes x Idle refl o.id o.some o.limit o.places.last o.stamp o.clock o.quorum (λ busy. absurd (false≢true (sym busy)))); quorum = k.quorum; id = λ w. record { id = k.id w; limit = k.limit w }; idle = refl; on = st.behind c; last = st.last c }

-- what incidents lead to
record Befallen (deal : Dealing) (s : Saved) : Type 0 where
  b : Bounds
  given : RunPremises b
  deals : DealsFrom b.quorums deal
  G : VoterLives
  num : Numbered b G s
  settled : Settled b s

befallen : Laws → ClientLaws → VoterLaws → (live : Live) (deal : Dealing) (w : WorldState) (more : List Move) → (r : IsReachedLive live deal w more) → Befallen deal (all_befall deal r.incidents (begin r.voters r.clients r.limit))
befallen rules cs vs live deal w more r =
    let b : Bounds = record { voters = r.voters; clients = r.clients; limit = r.limit; quorums = r.quorums } in
    let given : RunPremises b = record { client = cs; voter = vs; limits = r.limits; meet = r.meet } in
    let end : EndLaws = record { finishes = rules.voter.finishes; asks_back = rules.voter.asks_back } in
    let t = reaches_all b given end deal r.deals r.incidents r.lawful in
    record { b = b; given = given; deals = r.deals; G = t.lives; num = t.num; settled = t.settled }

-- ---- all were idle

all_idle : (deal : Dealing) (w : WorldState) → (r : IsReachedAgain deal w) → (c : ℕ) → is_idle (client_at (all_befall deal r.incidents (begin r.voters r.clients r.limit)).live.clients c).phase ≡ true
all_idle deal w r c = elim (r.idle c) [ inl idle ↦ idle | inr dead ↦ absurd (false≢true (sym dead.0)) ]

-- where everybody is live, no grant was let go
only_steps : (deal : Dealing) (moves : List Move) (x : WorldState) → LetsGoOfDead everybody deal x moves [] → moved deal moves x ≡ run_of deal (steps_among moves) x
only_steps deal [] x lets = refl
only_steps deal (Goes t ∷ moves) x lets = only_steps deal moves (move deal x (Goes t)) lets
only_steps deal (LetsGo v ∷ moves) x lets = only_steps deal moves (move deal x (LetsGo v)) lets.1 ∙ ap (λ (u : WorldState). run_of deal (steps_among moves) u) (by (voter_at x.voters v).held refl)
  where
    by : (held : Option Grant) → (voter_at x.voters v).held ≡ held → let_go x v held ≡ x
    by None is = refl
    by (Some g) is = absurd (false≢true (sym (lets.0 g is).0))

-- what the laws of `progress` that name no rounds rest on
record LawPremises (deal : Dealing) (w : WorldState) : Type 0 where
  first : WorldState
  eased : Eased deal first
  steps : List Step
  state : w ≡ run_of deal steps first

begun : Laws → ClientLaws → VoterLaws → (deal : Dealing) (w : WorldState) → IsReachedAgain deal w → LawPremises deal w
begun rules cs vs deal w r =
    let s = all_befall deal r.incidents (begin r.voters r.clients r.limit) in
    let f = befallen rules cs vs everybody deal w [] r in
    record {
      first = eased s s.live.clients [];
      eased = ease rules f.b f.given deal f.deals f.G s f.num f.settled s.live.clients refl (λ c. live_known f.b f.G s f.num f.settled c (all_idle deal w r c)) [] tt tt (λ P each. tt);
      steps = steps_among r.moves;
      state = r.state ∙ only_steps deal r.moves (unseen s).live r.evictions;
    }

stays_so : (deal : Dealing) (u : WorldState) → Eased deal u → StaysCoherent deal u
stays_so deal u e = λ steps. coherent_by e.rests.bounds e.rests.given (run_of deal steps u) (run_from e.rests.bounds e.rests.given deal e.rests.deals steps u e.rests.ok)

eased_sure : Laws → (live : Live) (deal : Dealing) (u : WorldState) → Eased deal u → IsSure (course_at live deal u) u
eased_sure rules live deal u e = IsSure-first rules (course_at live deal u) u (stays_so deal u e) (record { fits = e.keeps.fits; placed = e.keeps.placed; out = e.out })

pub kept_again : Laws → ClientLaws → VoterLaws → (deal : Dealing) (w : WorldState) → IsReachedAgain deal w → WorldIsKept deal w
kept_again rules cs vs deal w r =
    let g = begun rules cs vs deal w r in
    subst (WorldIsKept deal) (sym g.state) (IsKept-run deal g.steps g.first (IsKept-first rules deal g.first (stays_so deal g.first g.eased) g.eased.keeps))

-- what its laws on ways in rest on
pub record Resumes (deal : Dealing) (w : WorldState) : Type 0 where
  pub old : ℕ → ℕ
  pub few : AreOld (record { deal = deal; old = old; live = everybody }) w
  pub sure : IsSure (record { deal = deal; old = old; live = everybody }) w

pub resumes : Laws → ClientLaws → VoterLaws → (deal : Dealing) (w : WorldState) → IsReachedAgain deal w → Resumes deal w
resumes rules cs vs deal w r =
    let g = begun rules cs vs deal w r in
    let p = course_at everybody deal g.first in
    let sure = eased_sure rules everybody deal g.first g.eased in
    let goes = Goes-run rules p g.steps g.first (λ v. omega arith) sure in
    record {
      old = p.old;
      few = subst (AreOld p) (sym g.state) (λ v. (let rises = (goes.outlasts v).granted in omega arith));
      sure = subst (IsSure p) (sym g.state) (IsSure-run p g.steps g.first sure);
    }

-- ---- some were dead: they have given up in the shade

-- a client that ran, and is idle now, has ended its request
ends_busy : (x y : ClientState) → (y ≡ x) ⊎ (y ≡ quit x) → is_idle x.phase ≡ false → is_idle y.phase ≡ true → y ≡ quit x
ends_busy x y own runs idle = elim own [
  | inl same ↦ absurd (false≢true (sym runs ∙ ap (λ (z : ClientState). is_idle z.phase) (sym same) ∙ idle))
  | inr ends ↦ ends
]

-- what the laws of `progress` on live rounds rest on
pub record Relies (live : Live) (deal : Dealing) (w : WorldState) (more : List Move) : Type 0 where
  pub old : ℕ → ℕ
  pub covers : Covers (record { deal = deal; old = old; live = live }) w more

pub relies : Laws → ClientLaws → VoterLaws → (live : Live) (deal : Dealing) (w : WorldState) (more : List Move) → IsReachedLive live deal w more → Relies live deal w more
relies rules cs vs live deal w more r =
    let s = all_befall deal r.incidents (begin r.voters r.clients r.limit) in
    let f = befallen rules cs vs live deal w more r in
    let real = (unseen s).live in
    let n = length real.clients in
    let dead : ℕ → Bool = λ c. not (is_idle (client_at real.clients c).phase) in
    let k : Shading = record {
      live = record { client = λ c. is_idle (client_at real.clients c).phase; voter = λ v. true };
      dead = dead;
      apart = λ c idle. ap not idle;
      first = real;
      others = [];
    } in
    let e = ended deal dead real n (omega arith) in
    let xs = (run_of deal (ends dead real n) real).clients in
    let known : (c : ℕ) → ClientKnown f.b (count s.voters) s.clients c (client_at xs c) = λ c. elim (is_idle (client_at real.clients c).phase) as (λ t. is_idle (client_at real.clients c).phase ≡ t → ClientKnown f.b (count s.voters) s.clients c (client_at xs c)) [
      | true ↦ λ idle. subst (ClientKnown f.b (count s.voters) s.clients c) (sym (e.same c (inl (ap not idle)))) (live_known f.b f.G s f.num f.settled c idle)
      | false ↦ λ runs. subst (ClientKnown f.b (count s.voters) s.clients c) (sym (ends_busy (client_at real.clients c) (client_at xs c) (e.own c) runs (e.idle c (ap not runs) (within_by real c runs)))) (quit_known f.b f.G s f.num f.settled c)
    ] refl in
    let front = releases k in
    let u = eased s xs front in
    let eas = ease rules f.b f.given deal f.deals f.G s f.num f.settled xs e.clients known front
    (each_release (MessageOk (client_at xs) (voter_at s.live.voters)) k (λ c v t down client voter some most. ((let stamp = e.stamp c in omega arith), λ runs. absurd (false≢true (sym runs ∙ (known c).idle)))))
    (each_release (IsInRange f.b.voters f.b.clients f.b.limit) k (λ c v t down client voter some most.
    let below : c < f.b.clients = subst (λ m. c < m) f.num.sizes.0 client in
    let sound = (known c).sound.stamp in
    let limit = ((known c).id below).limit in
    let stamp = e.stamp c in
    (below, subst (λ m. v < m) f.num.sizes.1 voter, (some, omega arith))))
    (λ P each. each_release P k (λ c v t down client voter some most. each (record { client = c; voter = v; body = asks.Release t }))) in
    let p = course_at live deal u in
    let covers : Covers p real (r.moves ++ more) = record {
      was = dead;
      others = front;
      base = u;
      under = record { voters = refl; clients = e.clients; same = λ c alive. e.same c (inl alive); sent = refl; draws = refl; draws2 = refl; side = refl };
      passed = λ c is. elim (r.idle c) [
        | inl idle ↦ absurd (false≢true (sym (ap not idle) ∙ is))
        | inr gone ↦ gone
      ];
      rests = eas.rests;
      few = λ v. omega arith;
      sure = eased_sure rules live deal u eas;
      heeded = λ c lives. heeds c u eas.keeps.always;
    } in
    record { old = p.old; covers = subst (λ (x : WorldState). Covers p x more) (sym r.state) (cover_moves rules p r.moves more real covers r.evictions) }
