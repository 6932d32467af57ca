-- how many grants of a voter the rounds take that are made
use Rattle.std.proofs.Common.{◌≡◌, ◌≢◌, ℕ, zero, suc, ◌+◌, ◌*◌, ◌-◌, ◌<◌, ◌≤◌, Bool, true, false, eqb, List, [], ◌∷◌, ◌++◌, length, map, Option, Some, None, Ok, refl, sym, ap, subst, ◌∙◌, inl, inr, arith, append_assoc, length-append}
use Rattle.std.specs.Prelude.{if◌then◌else◌, nat_lt, slice_get}
use Rattle.std.specs.List.{AllByRecursion, flat_map}
use Rattle.std.proofs.Math.Nat.{suc-mul}
use Rattle.std.proofs.lemmas.Bool.{cases_eq}
use Rattle.std.proofs.lemmas.Bool.Decides.{nat_tests}
use Rattle.std.proofs.lemmas.List.{append-nil, map-append}
use Rattle.std.proofs.lemmas.Option.{none-some, same_Some}
use Rattle.numbers.specs.Sets.{Ascends}
use Rattle.message.specs.declared.message.ClientBody.{ClientBody}
use Rattle.message.specs.declared.message.ClientBody.TheVariants as to_client
use Rattle.message.specs.declared.message.Message.{Message}
use Rattle.message.specs.declared.message.Message.TheVariants as kinds
use Rattle.message.specs.declared.message.ToClient.{ToClient}
use Rattle.message.specs.declared.message.ToVoter.{ToVoter}
use Rattle.requester.specs.declared.state.ClientState.{ClientState}
use Rattle.requester.specs.declared.state.Phase.{Phase}
use Rattle.requester.specs.declared.state.Phase.TheVariants.{Asking, Idle, Inside}
use Rattle.requester.specs.Steps as requester
use Rattle.requester.specs.Words.{holds, is_asking, is_covered, is_relinquished, members}
use Rattle.voter.specs.declared.state.Grant.{Grant}
use Rattle.voter.specs.declared.state.VoterState.{VoterState}
use Rattle.voter.specs.Steps as voter
use Rattle.voter.specs.VoteMoves.{VoteMoves}
use Rattle.world_state.specs.declared.step.Step.{Step}
use Rattle.world_state.specs.declared.step.Step.TheVariants.{Ask, Deliver, Exchange, GiveUp, Leave, RemindClient, RemindVoter}
use Rattle.world.specs.Coherence.{IsCoherent}
use Rattle.world.specs.Runs.{after, run_of}
use Rattle.world.specs.WayIn.{HasGrants}
use Rattle.world_state.specs.Steps.{Dealing, WorldState, after_voter, client_at, come, if_client, if_voter, say, step, voter_at}
use Rattle.world.proofs.Plans.{run_then}
use Rattle.progress.specs.LiveRounds.{Live, everybody, is_between}
use Rattle.progress.specs.Rounds.{steps_of}
use Rattle.progress.specs.Rules.{Laws}
use Rattle.progress.proofs.run.Along.{next}
use Rattle.progress.proofs.run.Arrivals.{client_takes, message_stays}
use Rattle.progress.proofs.run.Exchanges.{get_next}
use Rattle.progress.proofs.rounds.Longer.{Grows-run}
use Rattle.progress.proofs.rounds.Making.{AskAmong, among_still, answer, answer_all, answer_if, arrivals, each, made_rounds, remind, remind_all, remind_serves, round_of, round_serves}
use Rattle.progress.proofs.run.Moves.{Moved, MovedBy-step, Moved-step, VoterMoved, each_voter}
use Rattle.progress.proofs.invariants.Sure.{Course, IsSure, IsSure-after, IsSure-run}
use Rattle.progress.proofs.patience.Turns.{asks_at, one_if}
use Rattle.progress.proofs.patience.Waiting.{one_most}

-- ---- grants of one voter

-- the voter gave at most n grants more, and has the same limit
pub record Spends (n : ℕ) (y z : VoterState) : Type 0 where
  pub granted : z.granted ≤ y.granted + n
  pub limit : z.limit ≡ y.limit

pub Spends-self : (n : ℕ) (y : VoterState) → Spends n y y
Spends-self n y = record { granted = omega arith; limit = refl }

pub Spends-then : (n m k : ℕ) (x y z : VoterState) → n + m ≤ k → Spends n x y → Spends m y z → Spends k x z
Spends-then n m k x y z most a b = record { granted = (let first = a.granted in let rest = b.granted in omega arith); limit = b.limit ∙ a.limit }

few_by : (frees : Bool) (y z : VoterState) → VoteMoves frees y z → z.granted ≤ y.granted + 1
few_by true y z (inl ends) = let same = ends.granted in omega arith
few_by true y z (inr new) = let more = new.granted in omega arith
few_by false y z (inl stays) = let same = stays.granted in omega arith
few_by false y z (inr new) = let more = new.1.granted in omega arith

-- so it was between these worlds
abbrev pub Spent : ℕ → ℕ → WorldState → WorldState → Type 0
Spent n v x z = Spends n (voter_at x.voters v) (voter_at z.voters v)

pub Spent-same : (n v : ℕ) (x z : WorldState) → z.voters ≡ x.voters → Spent n v x z
Spent-same n v x z same = subst (λ (vs : List VoterState). Spends n (voter_at x.voters v) (voter_at vs v)) (sym same) (Spends-self n (voter_at x.voters v))

-- ---- a message arrives

-- 1 if these are the same, else 0
abbrev pub one_at : ℕ → ℕ → ℕ
one_at v u = one_if (eqb u v)

-- 1 if the message is to this voter, else 0
abbrev pub hits : ℕ → Message → ℕ
hits v (kinds.ToVoter m) = one_at v m.voter
hits v (kinds.ToClient m) = 0

abbrev hits_in : ℕ → List Message → ℕ
hits_in v [] = 0
hits_in v (m ∷ ms) = hits v m + hits_in v ms

voter_gives : (laws : Laws) (x y : WorldState) (k : VoterMoved x y) (v : ℕ) → ((u : ℕ) → voter.IsSound (voter_at x.voters u)) → Spent (one_at v k.message.voter) v x y
voter_gives laws x y k v sound = each_voter (λ q z. Spends (one_at q k.message.voter) (voter_at x.voters q) z) x y k (
    let w = voter_at x.voters k.message.voter in
    let own : one_at k.message.voter k.message.voter ≡ 1 = ap one_if (let e : eqb k.message.voter k.message.voter ≡ true = grind (arith, nat_tests) in e) in
    let few = few_by _ w k.outcome.state (laws.voter.numbers w k.message k.outcome (sound k.message.voter) k.step) in
    record { granted = omega arith; limit = (laws.voter.carries w k.message k.outcome k.step).limit }
    ) (λ q. Spends-self (one_at q k.message.voter) (voter_at x.voters q)) v

-- which message arrives by the step, if one does
arrives : Step → Option ℕ
arrives (Ask c) = None
arrives (Deliver k) = Some k
arrives (Leave c) = None
arrives (GiveUp c) = None
arrives (RemindClient c) = None
arrives (RemindVoter v) = None
arrives Exchange = None

pub delivers : (laws : Laws) (p : Course) (x : WorldState) (k v : ℕ) (m : Message) → IsSure p x → slice_get x.sent k ≡ Some m → Spent (hits v m) v x (next p.deal x (Deliver k))
unfolding arrives
delivers laws p x k v m r is =
    let ok = (r []).coherent in
    let y = next p.deal x (Deliver k) in
    elim (MovedBy-step p.deal x ok.numbered (Deliver k)) [
      | inl client ↦ Spent-same (hits v m) v x y client.0.voters
      | inr (inl voter) ↦
          let j = voter.0 in
          let place : k ≡ j.place = same_Some k j.place (ap arrives voter.1) in
          let same : m ≡ kinds.ToVoter j.message = same_Some m (kinds.ToVoter j.message) (sym is ∙ subst (λ i. slice_get x.sent i ≡ Some (kinds.ToVoter j.message)) (sym place) j.came) in
          subst (λ n. Spent (hits v n) v x y) (sym same) (voter_gives laws x y j v ok.voters)
      | inr (inr sent) ↦ Spent-same (hits v m) v x y sent.voters
    ]

-- ---- messages arrive, one after the other

-- these messages have the places from this one on
abbrev Are : List Message → ℕ → List Message → Type 0
Are sent low [] = Unit {0}
Are sent low (m ∷ ms) = (slice_get sent low ≡ Some m) × Are sent (low + 1) ms

are_new : (xs ms : List Message) → Are (xs ++ ms) (length xs) ms
are_new xs [] = tt
are_new xs (m ∷ ms) =
    let rest = are_new (xs ++ m ∷ []) ms in (
      get_next xs m ms,
      subst (λ l. Are l (length xs + 1) ms) (append_assoc xs (m ∷ []) ms) (subst (λ n. Are ((xs ++ m ∷ []) ++ ms) n ms) (length-append xs (m ∷ [])) rest),
    )

are_there : (x y : WorldState) (low : ℕ) (ms : List Message) → Moved x y → Are x.sent low ms → Are y.sent low ms
are_there x y low [] moved are = tt
are_there x y low (m ∷ ms) moved are = (message_stays low m x y moved are.0, are_there x y (low + 1) ms moved are.1)

are_still : (p : Course) (steps : List Step) (x : WorldState) (low : ℕ) (ms : List Message) → IsSure p x → Are x.sent low ms → Are (run_of p.deal steps x).sent low ms
are_still p [] x low ms r are = are
are_still p (s ∷ steps) x low ms r are =
    are_still p steps (next p.deal x s) low ms (IsSure-after p x r s) (are_there x (next p.deal x s) low ms (Moved-step p.deal x ((r []).coherent).numbered s) are)

-- those of them arrive that are between live ones
arrivals_give : (laws : Laws) (p : Course) (live : Live) (sent : List Message) (v low : ℕ) (ms : List Message) (x : WorldState) → IsSure p x → Are x.sent low ms
    → Spent (hits_in v ms) v x (run_of p.deal (arrivals live sent low (length ms)) x)
unfolding arrivals
arrivals_give laws p live sent v low [] x r are = Spends-self 0 (voter_at x.voters v)
arrivals_give laws p live sent v low (m ∷ ms) x r are =
    let rest = arrivals live sent (low + 1) (length ms) in
    let y = next p.deal x (Deliver low) in
    elim (is_between live (slice_get sent low)) as (λ b. Spent (hits_in v (m ∷ ms)) v x (run_of p.deal ((if b then Deliver low ∷ [] else []) ++ rest) x)) [
      | true ↦ Spends-then (hits v m) (hits_in v ms) (hits_in v (m ∷ ms)) (voter_at x.voters v) (voter_at y.voters v) (voter_at (run_of p.deal rest y).voters v) (omega arith)
          (delivers laws p x low v m r are.0)
          (arrivals_give laws p live sent v (low + 1) ms y (IsSure-after p x r (Deliver low)) (are_still p (Deliver low ∷ []) x (low + 1) ms r are.1))
      | false ↦ Spends-then 0 (hits_in v ms) (hits_in v (m ∷ ms)) (voter_at x.voters v) (voter_at x.voters v) (voter_at (run_of p.deal rest x).voters v) (omega arith)
          (Spends-self 0 (voter_at x.voters v)) (arrivals_give laws p live sent v (low + 1) ms x r are.1)
    ]

-- ---- a message arrives, and then the replies to it

-- a message of a reminder: no FAIL
abbrev pub IsPlainBody : ClientBody → Type 0
IsPlainBody (to_client.Locked stamp grant) = Unit {0}
IsPlainBody (to_client.Fail stamp) = ⊥
IsPlainBody (to_client.Inquire grant) = Unit {0}

abbrev pub IsPlain : Message → Type 0
IsPlain (kinds.ToVoter m) = Unit {0}
IsPlain (kinds.ToClient m) = IsPlainBody m.body

-- 1 if the message is to this voter or from it, else 0
abbrev pub meets : ℕ → Message → ℕ
meets v (kinds.ToVoter m) = one_at v m.voter
meets v (kinds.ToClient m) = one_at v m.voter

abbrev pub meets_in : ℕ → List Message → ℕ
meets_in v [] = 0
meets_in v (m ∷ ms) = meets v m + meets_in v ms

meets-append : (v : ℕ) (a b : List Message) → meets_in v (a ++ b) ≡ meets_in v a + meets_in v b
meets-append v [] b = omega arith
meets-append v (m ∷ a) b = (let rest = meets-append v a b in omega arith)

no_hits : (v : ℕ) (rs : List ToClient) → hits_in v (map kinds.ToClient rs) ≡ 0
no_hits v [] = refl
no_hits v (m ∷ rs) = (let rest = no_hits v rs in omega arith)

-- what the step sends hits the voter at most n times
record SendsAtMost (n v : ℕ) (x y : WorldState) : Type 0 where
  more : List Message
  sent : y.sent ≡ x.sent ++ more
  few : hits_in v more ≤ n

voter_sends : (x : WorldState) (m : ToVoter) (v : ℕ) (r : Option voter.Outcome) → SendsAtMost 0 v x (after x (after_voter x m.voter r))
voter_sends x m v (Some o) = record { more = map kinds.ToClient o.replies; sent = refl; few = (let none = no_hits v o.replies in omega arith) }
voter_sends x m v None = record { more = []; sent = sym (append-nil x.sent); few = omega arith }

sends_voter : (deal : Dealing) (x : WorldState) (k v : ℕ) (m : ToVoter) → slice_get x.sent k ≡ Some (kinds.ToVoter m) → SendsAtMost 0 v x (next deal x (Deliver k))
unfolding step
sends_voter deal x k v m is =
    subst (SendsAtMost 0 v x) (sym (ap (λ o. after x (come x k o)) is)) (voter_sends x m v (voter.step (voter_at x.voters m.voter) m))

locked_hits : (w v : ℕ) (x : ClientState) (current fresh : Bool) (s g : ℕ) → hits_in w (map kinds.ToVoter (requester.take_locked_by current fresh x v s g).out) ≤ one_at w v
locked_hits w v x false fresh s g = omega arith
locked_hits w v x true false s g = omega arith
locked_hits w v x true true s g = enter (is_covered (requester.hold x v g))
  where
    enter : (b : Bool) → hits_in w (map kinds.ToVoter (requester.enter_if b (requester.hold x v g)).out) ≤ one_at w v
    enter false = omega arith
    enter true = omega arith

inquire_hits : (w v : ℕ) (x : ClientState) (counts hindered : Bool) → hits_in w (map kinds.ToVoter (requester.take_inquire_by counts hindered x v).out) ≤ one_at w v
unfolding requester.relinquish
inquire_hits w v x false hindered = omega arith
inquire_hits w v x true false = omega arith
inquire_hits w v x true true = gives (holds x v)
  where
    gives : (b : Bool) → hits_in w (map kinds.ToVoter (requester.relinquish_if b x v).out) ≤ one_at w v
    gives false = omega arith
    gives true = omega arith

body_hits : (w v : ℕ) (x : ClientState) (b : ClientBody) → IsPlainBody b → hits_in w (map kinds.ToVoter (requester.take_body x v b).out) ≤ one_at w v
unfolding requester.take_locked requester.take_inquire
body_hits w v x (to_client.Locked s g) plain = locked_hits w v x _ _ s g
body_hits w v x (to_client.Fail s) plain = absurd plain
body_hits w v x (to_client.Inquire g) plain = inquire_hits w v x _ _

sends_client : (p : Course) (x : WorldState) (k v : ℕ) (m : ToClient) → IsSure p x → slice_get x.sent k ≡ Some (kinds.ToClient m) → IsPlainBody m.body
    → SendsAtMost (one_at v m.voter) v x (next p.deal x (Deliver k))
unfolding requester.take
sends_client p x k v m r is plain =
    let takes = client_takes p.deal x k m (r []).coherent is in
    record {
      more = map kinds.ToVoter (requester.take (client_at x.clients m.client) m).out;
      sent = takes.sent;
      few = body_hits v m.voter (requester.see (client_at x.clients m.client) m.seen) m.body plain;
    }

-- the messages that were sent arrive
replies_give : (laws : Laws) (p : Course) (live : Live) (n v : ℕ) (x y : WorldState) → IsSure p y → SendsAtMost n v x y → Spent n v y (run_of p.deal (arrivals live y.sent (length x.sent) (length y.sent - length x.sent)) y)
replies_give laws p live n v x y r s =
    let count : length s.more ≡ length y.sent - length x.sent = (let long = ap length s.sent in let both = length-append x.sent s.more in omega arith) in
    let are : Are y.sent (length x.sent) s.more = subst (λ l. Are l (length x.sent) s.more) (sym s.sent) (are_new x.sent s.more) in
    let gives = arrivals_give laws p live y.sent v (length x.sent) s.more y r are in
    let z = run_of p.deal (arrivals live y.sent (length x.sent) (length s.more)) y in
    subst (λ k. Spent n v y (run_of p.deal (arrivals live y.sent (length x.sent) k) y)) count
    (record { granted = (let few = s.few in let most = gives.granted in omega arith); limit = gives.limit })

answer_gives : (laws : Laws) (p : Course) (live : Live) (x : WorldState) (k v : ℕ) (m : Message) → IsSure p x → slice_get x.sent k ≡ Some m → IsPlain m
    → Spent (meets v m) v x (run_of p.deal (answer live p.deal x k) x)
unfolding answer
answer_gives laws p live x k v (kinds.ToVoter m) r is plain =
    let y = next p.deal x (Deliver k) in
    Spends-then (meets v (kinds.ToVoter m)) 0 (meets v (kinds.ToVoter m)) _ _ _ (omega arith) (delivers laws p x k v (kinds.ToVoter m) r is)
    (replies_give laws p live 0 v x y (IsSure-after p x r (Deliver k)) (sends_voter p.deal x k v m is))
answer_gives laws p live x k v (kinds.ToClient m) r is plain =
    let y = next p.deal x (Deliver k) in
    Spends-then 0 (meets v (kinds.ToClient m)) (meets v (kinds.ToClient m)) _ _ _ (omega arith) (delivers laws p x k v (kinds.ToClient m) r is)
    (replies_give laws p live (one_at v m.voter) v x y (IsSure-after p x r (Deliver k)) (sends_client p x k v m r is plain))

answer_if_gives : (laws : Laws) (p : Course) (live : Live) (b : Bool) (x : WorldState) (k v : ℕ) (m : Message) → IsSure p x → slice_get x.sent k ≡ Some m → IsPlain m
    → Spent (meets v m) v x (run_of p.deal (answer_if b live p.deal x k) x)
unfolding answer_if
answer_if_gives laws p live true x k v m r is plain = answer_gives laws p live x k v m r is plain
answer_if_gives laws p live false x k v m r is plain = Spends-self (meets v m) (voter_at x.voters v)

answers_give : (laws : Laws) (p : Course) (live : Live) (sent : List Message) (v low : ℕ) (ms : List Message) (x : WorldState) → IsSure p x → Are x.sent low ms → AllByRecursion IsPlain ms
    → Spent (meets_in v ms) v x (run_of p.deal (answer_all live p.deal sent x low (length ms)) x)
unfolding answer_all
answers_give laws p live sent v low [] x r are plain = Spends-self 0 (voter_at x.voters v)
answers_give laws p live sent v low (m ∷ ms) x r are plain =
    let b = is_between live (slice_get sent low) in
    let first = answer_if b live p.deal x low in
    let y = run_of p.deal first x in
    let rest = answer_all live p.deal sent y (low + 1) (length ms) in
    subst (λ (z : WorldState). Spent (meets_in v (m ∷ ms)) v x z) (sym (run_then p.deal first rest x))
    (Spends-then (meets v m) (meets_in v ms) (meets_in v (m ∷ ms)) _ _ _ (omega arith) (answer_if_gives laws p live b x low v m r are.0 plain.0)
    (answers_give laws p live sent v (low + 1) ms y (IsSure-run p first x r) (are_still p first x (low + 1) ms r are.1) plain.1))

-- ---- a reminder

-- what the reminder sends
pub record Reminds (n v : ℕ) (x y : WorldState) : Type 0 where
  pub more : List Message
  pub sent : y.sent ≡ x.sent ++ more
  pub voters : y.voters ≡ x.voters
  pub plain : AllByRecursion IsPlain more
  pub few : meets_in v more ≤ n

nothing : (n v : ℕ) (x : WorldState) → Reminds n v x x
nothing n v x = record { more = []; sent = sym (append-nil x.sent); voters = refl; plain = tt; few = omega arith }

all_plain : (out : List ToVoter) → AllByRecursion IsPlain (map kinds.ToVoter out)
all_plain [] = tt
all_plain (m ∷ out) = (tt, all_plain out)

member_meets : (v u : ℕ) (x : ClientState) (held given_back : Bool) → meets_in v (map kinds.ToVoter (requester.remind_by held given_back x u)) ≤ 2 * one_at v u
member_meets v u x true given_back = omega arith
member_meets v u x false false = omega arith
member_meets v u x false true = omega arith

-- each member of the quorum is reminded once
members_meet : (v low : ℕ) (x : ClientState) (q : List ℕ) → Ascends low 64 q
    → (meets_in v (map kinds.ToVoter (flat_map (requester.remind_member x) q)) ≤ 2) × (v < low → meets_in v (map kinds.ToVoter (flat_map (requester.remind_member x) q)) ≤ 0)
members_meet v low x [] set = (omega arith, λ less. omega arith)
members_meet v low x (u ∷ q) set =
    let own = requester.remind_member x u in
    let others = flat_map (requester.remind_member x) q in
    let both = ap (meets_in v) (map-append kinds.ToVoter own others) ∙ meets-append v (map kinds.ToVoter own) (map kinds.ToVoter others) in
    let here = member_meets v u x (holds x u) (is_relinquished x u) in
    let rest = members_meet v (u + 1) x q set.2 in
    elim (cases_eq u v) [
      | inl same ↦
          let one : one_at v u ≡ 1 = ap one_if (let e : eqb u v ≡ true = grind (arith, nat_tests) in e) in
          let none = rest.1 (omega arith) in
          (omega arith, λ less. absurd (let least = set.0 in omega arith))
      | inr other ↦
          let zero_here : one_at v u ≡ 0 = ap one_if (let e : eqb u v ≡ false = grind (arith, nat_tests) in e) in
          let few = rest.0 in
          (omega arith, λ less. (let least = set.0 in let none = rest.1 (omega arith) in omega arith))
    ]

client_meets : (v : ℕ) (x : ClientState) (phase : Phase) → Ascends 0 64 (members x) → meets_in v (map kinds.ToVoter (requester.remind_in phase x)) ≤ 2 * one_if (is_asking phase)
client_meets v x Idle set = omega arith
client_meets v x Asking set = (members_meet v 0 x (members x) set).0
client_meets v x Inside set = omega arith

fewer_if : (a b : Bool) → (a ≡ true → b ≡ true) → one_if a ≤ one_if b
fewer_if true b so = (let one : one_if b ≡ 1 = ap one_if (so refl) in omega arith)
fewer_if false b so = omega arith

pub reminds_client : (p : Course) (among : ℕ → Bool) (x : WorldState) (c v : ℕ) → IsSure p x → AskAmong among x → Reminds (2 * one_if (among c)) v x (next p.deal x (RemindClient c))
unfolding step requester.remind
reminds_client p among x c v r ask = said (nat_lt c (length x.clients))
  where
    said : (b : Bool) → Reminds (2 * one_if (among c)) v x (after x (if_client b c (Ok (say x (map kinds.ToVoter (requester.remind (client_at x.clients c)))))))
    said true = record {
      more = map kinds.ToVoter (requester.remind (client_at x.clients c));
      sent = refl;
      voters = refl;
      plain = all_plain (requester.remind (client_at x.clients c));
      few = (let most = client_meets v (client_at x.clients c) (client_at x.clients c).phase ((r []).coherent.clients c).quorum in let fewer = fewer_if (asks_at x c) (among c) (ask c) in omega arith);
    }
    said false = nothing (2 * one_if (among c)) v x

-- what a voter's reminder sends, by whether an INQUIRE is outstanding
abbrev said_again : Bool → VoterState → Grant → List Message
said_again inquiring y g = map kinds.ToClient (voter.reply y g.client (to_client.Locked g.stamp g.grant) ∷ voter.inquiry_again inquiring y g)

again_meets : (v : ℕ) (y : VoterState) (g : Grant) (inquiring : Bool) → AllByRecursion IsPlain (said_again inquiring y g) × (meets_in v (said_again inquiring y g) ≤ 2 * one_at v y.id)
again_meets v y g true = ((tt, (tt, tt)), omega arith)
again_meets v y g false = ((tt, tt), omega arith)

voter_meets : (v : ℕ) (y : VoterState) (held : Option Grant) → AllByRecursion IsPlain (map kinds.ToClient (voter.remind_of held y)) × (meets_in v (map kinds.ToClient (voter.remind_of held y)) ≤ 2 * one_at v y.id)
voter_meets v y None = (tt, omega arith)
voter_meets v y (Some g) = again_meets v y g y.inquiring

pub reminds_voter : (p : Course) (x : WorldState) (u v : ℕ) → IsSure p x → u < length x.voters → Reminds (2 * one_at v u) v x (next p.deal x (RemindVoter u))
unfolding step voter.remind
reminds_voter p x u v r within = said (nat_lt u (length x.voters))
  where
    id : (voter_at x.voters u).id ≡ u
    id = (r []).coherent.numbered.voters u within

    said : (b : Bool) → Reminds (2 * one_at v u) v x (after x (if_voter b u (Ok (say x (map kinds.ToClient (voter.remind (voter_at x.voters u)))))))
    said true =
        let both = voter_meets v (voter_at x.voters u) (voter_at x.voters u).held in
        record {
          more = map kinds.ToClient (voter.remind (voter_at x.voters u));
          sent = refl;
          voters = refl;
          plain = both.0;
          few = subst (λ i. meets_in v (map kinds.ToClient (voter.remind (voter_at x.voters u))) ≤ 2 * one_at v i) id both.1;
        }
    said false = nothing (2 * one_at v u) v x

-- the reminder is made, then other steps are, and then its messages arrive
pub said_gives : (laws : Laws) (p : Course) (live : Live) (n m v : ℕ) (x : WorldState) (s : Step) (others : List Step) → IsSure p x → Reminds n v x (next p.deal x s) → Spent m v (next p.deal x s) (run_of p.deal others (next p.deal x s))
    → Spent (n + m) v x (run_of p.deal (answer_all live p.deal (next p.deal x s).sent (run_of p.deal others (next p.deal x s)) (length x.sent) (length (next p.deal x s).sent - length x.sent)) (run_of p.deal others (next p.deal x s)))
said_gives laws p live n m v x s others r said spent =
    let y = next p.deal x s in
    let u = run_of p.deal others y in
    let ry = IsSure-after p x r s in
    let count : length said.more ≡ length y.sent - length x.sent = (let long = ap length said.sent in let both = length-append x.sent said.more in omega arith) in
    let are : Are y.sent (length x.sent) said.more = subst (λ l. Are l (length x.sent) said.more) (sym said.sent) (are_new x.sent said.more) in
    let gives = answers_give laws p live y.sent v (length x.sent) said.more u (IsSure-run p others y ry) (are_still p others y (length x.sent) said.more ry are) said.plain in
    let few = said.few in
    let z = run_of p.deal (answer_all live p.deal y.sent u (length x.sent) (length said.more)) u in
    let all : Spent (n + m) v y z = record { granted = (let most = gives.granted in let own = spent.granted in omega arith); limit = gives.limit ∙ spent.limit } in
    subst (λ (vs : List VoterState). Spends (n + m) (voter_at vs v) (voter_at (run_of p.deal (answer_all live p.deal y.sent u (length x.sent) (length y.sent - length x.sent)) u).voters v)) said.voters
    (subst (λ k. Spent (n + m) v y (run_of p.deal (answer_all live p.deal y.sent u (length x.sent) k) u)) count all)

remind_gives : (laws : Laws) (p : Course) (live : Live) (n v : ℕ) (x : WorldState) (s : Step) → IsSure p x → Reminds n v x (next p.deal x s) → Spent n v x (run_of p.deal (remind live p.deal x s) x)
unfolding remind
remind_gives laws p live n v x s r said =
    let gives = said_gives laws p live n 0 v x s [] r said (Spends-self 0 (voter_at (next p.deal x s).voters v)) in
    record { granted = (let most = gives.granted in omega arith); limit = gives.limit }

-- ---- reminders, one after the other

-- how many of the n clients from this one on are among these
abbrev pub count_from : (ℕ → Bool) → ℕ → ℕ → ℕ
count_from among low zero = 0
count_from among low (suc n) = one_if (among low) + count_from among (low + 1) n

-- how many clients ask
abbrev pub askers : WorldState → ℕ
askers w = count_from (asks_at w) 0 (length w.clients)

pub askers_most : (among : ℕ → Bool) (low n : ℕ) → count_from among low n ≤ n
askers_most among low zero = omega arith
askers_most among low (suc n) = (let here = one_most (among low) in let rest = askers_most among (low + 1) n in omega arith)

pub one_from : (among : ℕ → Bool) (c low n : ℕ) → ((d : ℕ) → d ≢ c → among d ≡ false) → (count_from among low n ≤ 1) × (c < low → count_from among low n ≤ 0)
one_from among c low zero others = (omega arith, λ less. omega arith)
one_from among c low (suc n) others =
    let here = one_most (among low) in
    let rest = one_from among c (low + 1) n others in
    elim (cases_eq low c) [
      | inl same ↦ (let none = rest.1 (omega arith) in (omega arith, λ less. absurd (omega arith)))
      | inr other ↦
          let not : one_if (among low) ≡ 0 = ap one_if (others low other) in
          let few = rest.0 in
          (omega arith, λ less. (let none = rest.1 (omega arith) in omega arith))
    ]

clients_give : (laws : Laws) (p : Course) (among : ℕ → Bool) (v low n : ℕ) (x : WorldState) → IsSure p x → AskAmong among x
    → Spent (2 * count_from among low n) v x (run_of p.deal (remind_all p.deal x (each RemindClient low n)) x)
unfolding remind_all each
clients_give laws p among v low zero x r ask = Spends-self 0 (voter_at x.voters v)
clients_give laws p among v low (suc n) x r ask =
    let first = remind everybody p.deal x (RemindClient low) in
    let y = run_of p.deal first x in
    let rest = remind_all p.deal y (each RemindClient (low + 1) n) in
    let sent = length x.sent in
    let ask_y = among_still laws p among sent first x r (remind_serves everybody p.deal x (RemindClient low) sent tt (omega arith)) ask in
    subst (λ (z : WorldState). Spent (2 * count_from among low (suc n)) v x z) (sym (run_then p.deal first rest x))
    (Spends-then (2 * one_if (among low)) (2 * count_from among (low + 1) n) (2 * count_from among low (suc n)) _ _ _ (omega arith)
    (remind_gives laws p everybody (2 * one_if (among low)) v x (RemindClient low) r (reminds_client p among x low v r ask))
    (clients_give laws p among v (low + 1) n y (IsSure-run p first x r) ask_y))

voters_give : (laws : Laws) (p : Course) (v low n : ℕ) (x : WorldState) → IsSure p x → low + n ≤ length x.voters
    → Spent (2 * count_from (λ u. eqb u v) low n) v x (run_of p.deal (remind_all p.deal x (each RemindVoter low n)) x)
unfolding remind_all each
voters_give laws p v low zero x r most = Spends-self 0 (voter_at x.voters v)
voters_give laws p v low (suc n) x r most =
    let first = remind everybody p.deal x (RemindVoter low) in
    let y = run_of p.deal first x in
    let rest = remind_all p.deal y (each RemindVoter (low + 1) n) in
    let grows = Grows-run laws p first x r in
    let same = grows.voters in
    subst (λ (z : WorldState). Spent (2 * count_from (λ u. eqb u v) low (suc n)) v x z) (sym (run_then p.deal first rest x))
    (Spends-then (2 * one_at v low) (2 * count_from (λ u. eqb u v) (low + 1) n) (2 * count_from (λ u. eqb u v) low (suc n)) _ _ _ (omega arith)
    (remind_gives laws p everybody (2 * one_at v low) v x (RemindVoter low) r (reminds_voter p x low v r (omega arith)))
    (voters_give laws p v (low + 1) n y (IsSure-run p first x r) (omega arith)))

reminders_then : (deal : Dealing) (a b : List Step) (x : WorldState)
    → run_of deal (remind_all deal x (a ++ b)) x ≡ run_of deal (remind_all deal (run_of deal (remind_all deal x a) x) b) (run_of deal (remind_all deal x a) x)
unfolding remind_all
reminders_then deal [] b x = refl
reminders_then deal (s ∷ a) b x =
    let first = remind everybody deal x s in
    let y = run_of deal first x in
    run_then deal first (remind_all deal y (a ++ b)) x ∙ reminders_then deal a b y
    ∙ ap (λ (z : WorldState). run_of deal (remind_all deal z b) z) (sym (run_then deal first (remind_all deal y a) x))

-- ---- a round

leaves_give : (p : Course) (v low n : ℕ) (x : WorldState) → IsSure p x → Spent 0 v x (run_of p.deal (each Leave low n) x)
unfolding each arrives
leaves_give p v low zero x r = Spends-self 0 (voter_at x.voters v)
leaves_give p v low (suc n) x r =
    let y = next p.deal x (Leave low) in
    let same : y.voters ≡ x.voters = elim (MovedBy-step p.deal x ((r []).coherent).numbered (Leave low)) [
      | inl client ↦ client.0.voters
      | inr (inl voter) ↦ absurd (none-some voter.0.place (ap arrives voter.1))
      | inr (inr sent) ↦ sent.voters
    ] in
    Spends-then 0 0 0 _ _ _ (omega arith) (Spent-same 0 v x y same) (leaves_give p v (low + 1) n y (IsSure-after p x r (Leave low)))

round_gives : (laws : Laws) (p : Course) (among : ℕ → Bool) (v : ℕ) (x : WorldState) → IsSure p x → AskAmong among x
    → Spent (2 * count_from among 0 (length x.clients) + 2) v x (run_of p.deal (round_of p.deal x) x)
unfolding round_of
round_gives laws p among v x r ask =
    let n = length x.clients in
    let m = length x.voters in
    let clients = each RemindClient 0 n in
    let voters = each RemindVoter 0 m in
    let leaves = each Leave 0 n in
    let first = remind_all p.deal x clients in
    let y = run_of p.deal first x in
    let ry = IsSure-run p first x r in
    let second = remind_all p.deal y voters in
    let z = run_of p.deal second y in
    let own = (one_from (λ u. eqb u v) v 0 m (λ u other. (let e : eqb u v ≡ false = grind (arith, nat_tests) in e))).0 in
    let goes = run_then p.deal (remind_all p.deal x (clients ++ voters)) leaves x ∙ ap (run_of p.deal leaves) (reminders_then p.deal clients voters x) in
    subst (λ (u : WorldState). Spent (2 * count_from among 0 n + 2) v x u) (sym goes)
    (Spends-then (2 * count_from among 0 n) 2 (2 * count_from among 0 n + 2) _ _ _ (omega arith) (clients_give laws p among v 0 n x r ask)
    (Spends-then (2 * count_from (λ u. eqb u v) 0 m) 0 2 _ _ _ (omega arith) (voters_give laws p v 0 m y ry (let same = (Grows-run laws p first x r).voters in omega arith))
    (leaves_give p v 0 n z (IsSure-run p second y ry))))

rounds_give : (laws : Laws) (p : Course) (among : ℕ → Bool) (a k v : ℕ) (x : WorldState) → IsSure p x → AskAmong among x → count_from among 0 (length x.clients) ≤ a
    → Spent (k * (2 * a + 2)) v x (run_of p.deal (steps_of (made_rounds p.deal x k)) x)
unfolding made_rounds
rounds_give laws p among a zero v x r ask most = Spends-self (0 * (2 * a + 2)) (voter_at x.voters v)
rounds_give laws p among a (suc k) v x r ask most =
    let n = length x.clients in
    let first = round_of p.deal x in
    let y = run_of p.deal first x in
    let rest = steps_of (made_rounds p.deal y k) in
    let product = suc-mul k (2 * a + 2) in
    let grows = Grows-run laws p first x r in
    subst (λ (z : WorldState). Spent (suc k * (2 * a + 2)) v x z) (sym (run_then p.deal first rest x))
    (Spends-then (2 * count_from among 0 n + 2) (k * (2 * a + 2)) (suc k * (2 * a + 2)) _ _ _ (omega arith) (round_gives laws p among v x r ask)
    (rounds_give laws p among a k v y (IsSure-run p first x r) (among_still laws p among (length x.sent) first x r (round_serves p.deal x) ask)
    (subst (λ i. count_from among 0 i ≤ a) (sym grows.clients) most)))

-- ---- grants that are left

left_by : (laws : Laws) (p : Course) (w : WorldState) (steps : List Step) (n left : ℕ) → IsSure p w → ((v : ℕ) → Spent n v w (run_of p.deal steps w)) → HasGrants (n + left) w
    → HasGrants left (run_of p.deal steps w)
left_by laws p w steps n left r spent has = λ v within.
    let few = (spent v).granted in
    let limit = (spent v).limit in
    let some = has v (subst (λ m. v < m) (Grows-run laws p steps w r).voters within) in
    omega arith

-- k rounds take at most k * (2 * a + 2) grants of each voter, if a clients ask
pub rounds_leave : (laws : Laws) (p : Course) (w : WorldState) (a k left : ℕ) → IsSure p w → askers w ≤ a → HasGrants (k * (2 * a + 2) + left) w
    → HasGrants left (run_of p.deal (steps_of (made_rounds p.deal w k)) w)
rounds_leave laws p w a k left r most = left_by laws p w (steps_of (made_rounds p.deal w k)) (k * (2 * a + 2)) left r (λ v. rounds_give laws p (asks_at w) a k v w r (λ d asks. asks) most)

-- any step takes at most one
step_gives : (laws : Laws) (x y : WorldState) → IsCoherent x → Moved x y → (v : ℕ) → Spent 1 v x y
step_gives laws x y ok moved v = elim moved [
  | inl client ↦ Spent-same 1 v x y client.voters
  | inr (inl voter) ↦
      let gives = voter_gives laws x y voter v ok.voters in
      record { granted = (let few = gives.granted in let one = one_most (eqb voter.message.voter v) in omega arith); limit = gives.limit }
  | inr (inr sent) ↦ Spent-same 1 v x y sent.voters
]

steps_give : (laws : Laws) (p : Course) (v : ℕ) (steps : List Step) (x : WorldState) → IsSure p x → Spent (length steps) v x (run_of p.deal steps x)
steps_give laws p v [] x r = Spends-self 0 (voter_at x.voters v)
steps_give laws p v (s ∷ steps) x r =
    let ok = (r []).coherent in
    Spends-then 1 (length steps) (length (s ∷ steps)) _ _ _ (omega arith) (step_gives laws x (next p.deal x s) ok (Moved-step p.deal x ok.numbered s) v)
    (steps_give laws p v steps (next p.deal x s) (IsSure-after p x r s))

pub steps_leave : (laws : Laws) (p : Course) (w : WorldState) (steps : List Step) (left : ℕ) → IsSure p w → HasGrants (length steps + left) w → HasGrants left (run_of p.deal steps w)
steps_leave laws p w steps left r = left_by laws p w steps (length steps) left r (λ v. steps_give laws p v steps w r)
