-- steps before and after a fair round are counted to it
use Rattle.std.proofs.Common.{◌≡◌, ℕ, ◌<◌, ◌≤◌, true, List, [], ◌∷◌, ◌++◌, length, map, Ok, refl, sym, ap, subst, ◌∙◌, ◌⊎◌, inl, inr, arith, length-append, append_assoc}
use Rattle.std.specs.List.{Contains}
use Rattle.std.proofs.lemmas.Bool.{cases_eq, false≢true}
use Rattle.std.proofs.lemmas.List.Elements.{Contains-append_left, Contains-append_right}
use Rattle.message.specs.declared.message.Message.TheVariants as kinds
use Rattle.message.specs.declared.message.ToClient.{ToClient}
use Rattle.requester.specs.declared.state.ClientState.{ClientState}
use Rattle.requester.specs.Steps as requester
use Rattle.requester.specs.Words.{is_asking, is_inside}
use Rattle.requester.proofs.Messages.{KeepsRequest-take}
use Rattle.requester.proofs.RangeLemmas.{is_inside-busy}
use Rattle.requester.proofs.SoundSteps.{give_up-Ok as give_up_ok}
use Rattle.world_state.specs.declared.step.Step.{Step}
use Rattle.world_state.specs.declared.step.Step.TheVariants.{Deliver, Leave, RemindClient, RemindVoter}
use Rattle.world.specs.Runs.{IsReached, after, run_of}
use Rattle.world_state.specs.Steps.{Dealing, Planned, WorldState, client_at, dealing_of, step}
use Rattle.world.proofs.Plans.{run_then}
use Rattle.progress.specs.Rounds.{IsAnswered, IsFairRound, IsReminded}
use Rattle.progress.specs.Rules.{ClientLaws, Laws}
use Rattle.progress.specs.LiveRounds.{everybody}
use Rattle.progress.proofs.overtaking.Behind.{ask-busy}
use Rattle.progress.proofs.overtaking.Counting.{inside_not_asks}
use Rattle.progress.proofs.invariants.Fitting.{take-Ok}
use Rattle.progress.proofs.run.Moves.{Makes, Moved, MovedBy, MovedBy-step, Moved-step}
use Rattle.progress.proofs.invariants.Sure.{Course, IsSure, IsSure-after, IsSure-reached, course_of}

-- ---- lists

pub contains_next : {A : Type 0} (x y : A) (xs : List A) → Contains xs y → Contains (x ∷ xs) y
contains_next x y xs there = Contains-append_right (x ∷ []) xs y there

pub contains_here : {A : Type 0} (x y : A) (xs : List A) → x ≡ y → Contains (x ∷ xs) y
contains_here x y xs same = (0, omega (arith), same)

-- ---- how a world grows

-- as many clients and voters as before, and at least as many messages
pub record Grows (w u : WorldState) : Type 0 where
  pub clients : length u.clients ≡ length w.clients
  pub voters : length u.voters ≡ length w.voters
  pub sent : length w.sent ≤ length u.sent

pub Grows-moved : (w u : WorldState) → Moved w u → Grows w u
Grows-moved w u moved = elim moved [
  | inl k ↦ record {
    clients = k.count;
    voters = ap length k.voters;
    sent = (let e = ap length k.sent in omega (arith, length-append w.sent (map kinds.ToVoter k.outcome.out)));
  }
  | inr (inl k) ↦ record {
    clients = ap length k.clients;
    voters = k.count;
    sent = (let e = ap length k.sent in omega (arith, length-append w.sent (map kinds.ToClient k.outcome.replies)));
  }
  | inr (inr k) ↦ record {
    clients = ap length k.clients;
    voters = ap length k.voters;
    sent = (let e = ap length k.sent in omega (arith, length-append w.sent k.more));
  }
]

pub Grows-run : (laws : Laws) (p : Course) (steps : List Step) (u : WorldState) → IsSure p u → Grows u (run_of p.deal steps u)
Grows-run laws p [] u r = record { clients = refl; voters = refl; sent = omega arith }
Grows-run laws p (s ∷ steps) u r =
    let ok = (r []).coherent in
    let a = Grows-moved u (after u (step p.deal u s)) (Moved-step p.deal u ok.numbered s) in
    let b = Grows-run laws p steps (after u (step p.deal u s)) (IsSure-after p u r s) in
    let first = a.sent in
    let second = b.sent in
    record { clients = b.clients ∙ a.clients; voters = b.voters ∙ a.voters; sent = omega arith }

-- ---- who is inside stays until it leaves

inside-take : (x : ClientState) (m : ToClient) → is_inside x.phase ≡ true → is_inside (requester.take x m).state.phase ≡ true
inside-take x m inside = elim (KeepsRequest-take x m).phase [ inl same ↦ ap is_inside same.0 ∙ inside | inr enters ↦ ap is_inside enters.after ]

gave_up : (x : ClientState) (o : requester.Outcome) → requester.step x requester.GivesUp ≡ Ok o → is_asking x.phase ≡ true
unfolding requester.step
gave_up x o e = (give_up_ok x o e).0

inside-cause : (laws : ClientLaws) (s : Step) (c : ℕ) (x : ClientState) (cause : requester.Cause) (o : requester.Outcome) → Makes s c cause → requester.step x cause ≡ Ok o
    → is_inside x.phase ≡ true → (is_inside o.state.phase ≡ true) ⊎ (s ≡ Leave c)
inside-cause laws s c x (requester.Asks q) o makes step inside = absurd (ask-busy x q o (laws.busy x q (is_inside-busy x.phase inside)) step)
inside-cause laws s c x (requester.Takes m) o makes step inside =
    inl (subst (λ (p : requester.Outcome). is_inside p.state.phase ≡ true) (take-Ok x m o step) (inside-take x m inside))
inside-cause laws s c x requester.Leaves o makes step inside = inr makes
inside-cause laws s c x requester.GivesUp o makes step inside = absurd (false≢true (sym (inside_not_asks x.phase inside) ∙ gave_up x o step))

inside-moved : (laws : ClientLaws) (s : Step) (w u : WorldState) (c : ℕ) → MovedBy s w u → is_inside (client_at w.clients c).phase ≡ true
    → (is_inside (client_at u.clients c).phase ≡ true) ⊎ (s ≡ Leave c)
inside-moved laws s w u c moved inside = elim moved [
  | inl client ↦
      let k = client.0 in
      elim (cases_eq c k.who) [
        | inl same ↦
            subst (λ i. (is_inside (client_at u.clients i).phase ≡ true) ⊎ (s ≡ Leave i)) (sym same) (subst (λ (z : ClientState). (is_inside z.phase ≡ true) ⊎ (s ≡ Leave k.who)) (sym k.here)
            (inside-cause laws s k.who (client_at w.clients k.who) k.cause k.outcome client.1 k.step (subst (λ i. is_inside (client_at w.clients i).phase ≡ true) same inside)))
        | inr other ↦ inl (ap (λ (z : ClientState). is_inside z.phase) (k.others c other) ∙ inside)
      ]
  | inr (inl voter) ↦ inl (ap (λ (cs : List ClientState). is_inside (client_at cs c).phase) voter.0.clients ∙ inside)
  | inr (inr sent) ↦ inl (ap (λ (cs : List ClientState). is_inside (client_at cs c).phase) sent.clients ∙ inside)
]

-- who is inside still is, or has left in these steps
inside-run : (laws : Laws) (p : Course) (c : ℕ) (steps : List Step) (u : WorldState) → IsSure p u → is_inside (client_at u.clients c).phase ≡ true
    → (is_inside (client_at (run_of p.deal steps u).clients c).phase ≡ true) ⊎ Contains steps (Leave c)
inside-run laws p c [] u r inside = inl inside
inside-run laws p c (s ∷ steps) u r inside =
    let deal = p.deal in
    let ok = (r []).coherent in
    let x = after u (step deal u s) in
    elim (inside-moved laws.client s u x c (MovedBy-step deal u ok.numbered s) inside) [
      | inl still ↦ elim (inside-run laws p c steps x (IsSure-after p u r s) still) [
        | inl end ↦ inl end
        | inr left ↦ inr (contains_next s (Leave c) steps left)
      ]
      | inr leaves ↦ inr (contains_here s (Leave c) steps leaves)
    ]

-- ---- more steps around those of a round

split_more : {A : Type 0} (before first rest more all : List A) (s : A) → all ≡ first ++ s ∷ rest → before ++ (all ++ more) ≡ (before ++ first) ++ s ∷ (rest ++ more)
split_more before first rest more all s split = ap (λ l. before ++ (l ++ more)) split ∙ ap (λ l. before ++ l) (append_assoc first (s ∷ rest) more) ∙ sym (append_assoc before first (s ∷ (rest ++ more)))

pub IsAnswered-more : (deal : Dealing) (w : WorldState) (steps more : List Step) (k : ℕ) → IsAnswered deal w steps k → IsAnswered deal w (steps ++ more) k
IsAnswered-more deal w steps more k a = record {
  first = a.first;
  rest = a.rest ++ more;
  split = split_more [] a.first a.rest more steps (Deliver k) a.split;
  answers = λ j least less. Contains-append_left a.rest more (Deliver j) (a.answers j least less);
}

pub IsReminded-more : (deal : Dealing) (w : WorldState) (before steps more : List Step) (reminder : Step) → IsReminded deal (run_of deal before w) steps reminder
    → IsReminded deal w (before ++ (steps ++ more)) reminder
IsReminded-more deal w before steps more reminder h =
    let begins = run_then deal before h.first w in
    let goes : run_of deal ((before ++ h.first) ++ reminder ∷ []) w ≡ run_of deal (h.first ++ reminder ∷ []) (run_of deal before w) =
    ap (λ l. run_of deal l w) (append_assoc before h.first (reminder ∷ [])) ∙ run_then deal before (h.first ++ reminder ∷ []) w in
    record {
      first = before ++ h.first;
      rest = h.rest ++ more;
      split = split_more before h.first h.rest more steps reminder h.split;
      arrive = λ k least less. subst (λ (u : WorldState). IsAnswered deal u (h.rest ++ more) k) (sym goes)
          (IsAnswered-more deal (run_of deal (h.first ++ reminder ∷ []) (run_of deal before w)) h.rest more k
          (h.arrive k (subst (λ (u : WorldState). length u.sent ≤ k) begins least) (subst (λ (u : WorldState). k < length u.sent) goes less)));
    }

pub IsFairRound-more : Laws → (w : Planned) (before round more : List Step) → IsReached w → IsFairRound (dealing_of w.plans) (run_of (dealing_of w.plans) before w.state) round
    → IsFairRound (dealing_of w.plans) w.state (before ++ (round ++ more))
IsFairRound-more laws w before round more r h =
    let deal = dealing_of w.plans in
    let p = course_of everybody w in
    let sure = IsSure-reached laws everybody w r in
    let grows = Grows-run laws p before w.state sure in
    record {
      clients = λ c within. IsReminded-more deal w.state before round more (RemindClient c) (h.clients c (subst (λ n. c < n) (sym grows.clients) within));
      voters = λ v within. IsReminded-more deal w.state before round more (RemindVoter v) (h.voters v (subst (λ n. v < n) (sym grows.voters) within));
      leaves = λ c inside. elim (inside-run laws p c before w.state sure inside) [
        | inl still ↦ Contains-append_right before (round ++ more) (Leave c) (Contains-append_left round more (Leave c) (h.leaves c still))
        | inr left ↦ Contains-append_left before (round ++ more) (Leave c) left
      ];
    }
