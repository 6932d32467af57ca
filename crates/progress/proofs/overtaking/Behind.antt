-- what holds while a request runs that every voter of its quorum knows
use Rattle.std.proofs.Common.{◌≡◌, ◌≢◌, ℕ, ◌+◌, ◌<◌, ◌≤◌, Bool, true, false, List, [], ◌∷◌, map, length, Some, Ok, Err, refl, sym, ap, subst, ◌∙◌, ◌⊎◌, inl, inr, arith}
use Rattle.std.specs.List.{AllByRecursion}
use Rattle.std.specs.Result.{is_err}
use Rattle.std.proofs.lemmas.Bool.{cases_eq, false≢true}
use Rattle.std.proofs.lemmas.Bool.Decides.{nat_tests}
use Rattle.std.proofs.lemmas.Option.{none-some, same_Some}
use Rattle.numbers.specs.Sets.{IsSet, has}
use Rattle.numbers.proofs.Lists.{AllByRecursion-append, AllByRecursion-get, AllByRecursion-weaker}
use Rattle.message.specs.declared.message.Message.{Message}
use Rattle.message.specs.declared.message.Message.TheVariants as kinds
use Rattle.message.specs.declared.message.ToClient.{ToClient}
use Rattle.message.specs.declared.message.ToVoter.{ToVoter}
use Rattle.message.specs.declared.message.ClientBody.{ClientBody}
use Rattle.message.specs.declared.message.ClientBody.TheVariants as to_client
use Rattle.message.specs.declared.message.VoterBody.{VoterBody}
use Rattle.message.specs.declared.message.VoterBody.TheVariants as asks
use Rattle.message.specs.declared.request.Request.{Request}
use Rattle.voter.specs.declared.state.Grant.{Grant}
use Rattle.voter.specs.declared.state.VoterState.{VoterState}
use Rattle.voter.specs.Entries.{Finishes, request_of}
use Rattle.voter.specs.Replies.{AllCarry, seen_after}
use Rattle.voter.specs.Steps as voter
use Rattle.voter.specs.VoteMoves.{VoteMoves}
use Rattle.voter.specs.VoterContract.{IsEntry}
use Rattle.message.specs.Requests.{precedes}
use Rattle.requester.specs.declared.fault.ClientFault.TheVariants.{Busy}
use Rattle.requester.specs.declared.state.ClientState.{ClientState}
use Rattle.requester.proofs.SoundSteps.{ask-Ok as ask_ok}
use Rattle.requester.specs.Clocks.{Hears}
use Rattle.requester.specs.RequesterContract.{Accepts, IsLater, IsLocked, KeepsQuorum, Locks, MeetsContract}
use Rattle.requester.specs.Steps as requester
use Rattle.requester.specs.Words.{is_current, holds_under, is_idle, is_member, members}
use Rattle.world.specs.Coherence.{AskOk, IsCoherent}
use Rattle.world_state.specs.Steps.{WorldState, client_at, voter_at}
use Rattle.progress.specs.Overtaking.{IsKnownEverywhere, StillRuns}
use Rattle.progress.proofs.invariants.Always.{Heeds, IsUpTo, WasGiven, asked_by, granted_rises, is_named}
use Rattle.progress.specs.Rules.{ClientLaws, Laws, VoterLaws}
use Rattle.progress.proofs.run.Moves.{Came, ClientMoved, IsReminder, Moved, OnlySent, VoterMoved, all_sent, each_client, each_voter}

-- ---- a client's step

pub ask-Ok : (x : ClientState) (q : List ℕ) (o : requester.Outcome) → requester.step x (requester.Asks q) ≡ Ok o → requester.send_requests x q ≡ o
unfolding requester.step
ask-Ok x q o e = (ask_ok x q o e).2

pub ask-busy : (x : ClientState) (q : List ℕ) (o : requester.Outcome) → requester.ask x q ≡ Err Busy → requester.step x (requester.Asks q) ≡ Ok o → ⊥
unfolding requester.step
ask-busy x q o refused e = false≢true (ap is_err (sym e ∙ refused))

accepts_by : (w u : WorldState) → IsCoherent w → IsCoherent u → (c : ℕ) (cause : requester.Cause) (o : requester.Outcome) → c < length w.clients → Came w c cause
    → requester.step (client_at w.clients c) cause ≡ Ok o → client_at u.clients c ≡ o.state → Accepts (client_at w.clients c) cause
accepts_by w u ok now c (requester.Asks q) o within came step here =
    let is = ask-Ok (client_at w.clients c) q o step in
    let state : requester.begin_request (client_at w.clients c) q ≡ client_at u.clients c = ap (λ (p : requester.Outcome). p.state) is ∙ sym here in
    let sound = now.clients c in (
      subst (λ (y : ClientState). IsSet (members y)) (sym state) sound.quorum,
      subst (λ (y : ClientState). is_idle y.phase ≡ false → 1 ≤ length (members y)) (sym state) sound.asked refl,
    )
accepts_by w u ok now c (requester.Takes m) o within came step here =
    let id = ok.numbered.clients c within in
    let below = (AllByRecursion-get _ w.sent came.1 (kinds.ToClient m) ok.numbered.messages came.2).1 in
    let few = ok.numbered.few_voters in
    (came.0 ∙ sym id, omega arith)
accepts_by w u ok now c requester.Leaves o within came step here = tt
accepts_by w u ok now c requester.GivesUp o within came step here = tt

pub accepts : (w u : WorldState) → IsCoherent w → IsCoherent u → (k : ClientMoved w u) → Accepts (client_at w.clients k.who) k.cause
accepts w u ok now k = accepts_by w u ok now k.who k.cause k.outcome k.within k.came k.step k.here

pub meets : (laws : ClientLaws) (w u : WorldState) → IsCoherent w → IsCoherent u → (k : ClientMoved w u) → MeetsContract (client_at w.clients k.who) k.cause k.outcome
meets laws w u ok now k = laws.meets (client_at w.clients k.who) k.cause k.outcome (ok.clients k.who) (accepts w u ok now k) k.step

-- ---- clients go on

pub IsLater-then : (x y z : ClientState) → IsLater x y → IsLater y z → IsLater x z
IsLater-then x y z a b =
    let s = a.stamp in
    let t = b.stamp in
    record {
      stamp = omega arith;
      last = λ v. (let p = a.last v in let q = b.last v in omega arith);
      idle = λ same idle. let first : x.stamp ≡ y.stamp = omega arith in let second : y.stamp ≡ z.stamp = omega arith in b.idle second (a.idle first idle);
    }

pub IsLater-self : (x : ClientState) → IsLater x x
IsLater-self x = record { stamp = omega arith; last = λ v. omega arith; idle = λ _ idle. idle }

later_client : (laws : ClientLaws) (w u : WorldState) → IsCoherent w → IsCoherent u → ClientMoved w u → (c : ℕ) → IsLater (client_at w.clients c) (client_at u.clients c)
later_client laws w u ok now k = each_client (λ c y. IsLater (client_at w.clients c) y) w u k
    (subst (λ (y : ClientState). IsLater (client_at w.clients k.who) y) (sym k.here) (meets laws w u ok now k).later) (λ c. IsLater-self (client_at w.clients c))

same_clients : (w u : WorldState) → u.clients ≡ w.clients → (c : ℕ) → IsLater (client_at w.clients c) (client_at u.clients c)
same_clients w u same c = subst (λ (cs : List ClientState). IsLater (client_at w.clients c) (client_at cs c)) (sym same) (IsLater-self (client_at w.clients c))

pub IsLater-moved : (laws : ClientLaws) (w u : WorldState) → IsCoherent w → IsCoherent u → Moved w u → (c : ℕ) → IsLater (client_at w.clients c) (client_at u.clients c)
IsLater-moved laws w u ok now moved c = elim moved [
  | inl client ↦ later_client laws w u ok now client c
  | inr (inl voter) ↦ same_clients w u voter.clients c
  | inr (inr sent) ↦ same_clients w u sent.clients c
]

-- ---- what holds behind the request

-- the stamp and the place of the request
abbrev pub stamp_of : WorldState → ℕ → ℕ
stamp_of w c = (client_at w.clients c).stamp

abbrev pub the_request : WorldState → ℕ → Request
the_request w c = record { stamp = stamp_of w c; client = c }

-- the voter is asked by the request
abbrev pub IsAskedBy : WorldState → ℕ → ℕ → Type 0
IsAskedBy w c v = is_member (client_at w.clients c) v ≡ true

-- how many grants the voter had given
abbrev pub given_at : WorldState → ℕ → ℕ
given_at w v = (voter_at w.voters v).granted

-- The voter v since the world w: the request is known, and a vote that was granted since then goes to it
-- or to one that precedes it.
pub record OneVoter (w : WorldState) (c v : ℕ) (y : VoterState) : Type 0 where
  pub known : IsAskedBy w c v → IsEntry y c (stamp_of w c)
  pub given : given_at w v ≤ y.granted
  pub order : (g : Grant) → IsAskedBy w c v → y.held ≡ Some g → given_at w v < g.grant → (g.client ≡ c) ⊎ (precedes (request_of g) (the_request w c) ≡ true)
  pub old : (g : Grant) → y.held ≡ Some g → g.grant ≤ given_at w v → g.stamp ≤ stamp_of w g.client

abbrev pub VotersBehind : WorldState → ℕ → List VoterState → Type 0
VotersBehind w c vs = (v : ℕ) → OneVoter w c v (voter_at vs v)

-- who holds a vote that was granted since then has a clock that is not behind the request
abbrev pub HasHeard : WorldState → ℕ → ClientState → Type 0
HasHeard w c x = (v n : ℕ) → IsAskedBy w c v → holds_under x v n ≡ true → given_at w v < n → stamp_of w c ≤ x.clock

-- the clients since then: the request has its quorum
pub record Clients (w : WorldState) (c : ℕ) (cs : List ClientState) : Type 0 where
  pub quorum : members (client_at cs c) ≡ members (client_at w.clients c)
  pub heard : (e : ℕ) → HasHeard w c (client_at cs e)
  pub later : (e : ℕ) → stamp_of w e ≤ (client_at cs e).stamp

-- a LOCKED of a grant that was given since then carries a stamp that is not behind the request
abbrev Carries : WorldState → ℕ → ℕ → ℕ → ClientBody → Type 0
Carries w c v seen (to_client.Locked s g) = IsAskedBy w c v → given_at w v < g → stamp_of w c ≤ seen
Carries w c v seen (to_client.Fail s) = Unit {0}
Carries w c v seen (to_client.Inquire g) = Unit {0}

abbrev pub CarriesLate : WorldState → ℕ → Message → Type 0
CarriesLate w c (kinds.ToVoter m) = Unit {0}
CarriesLate w c (kinds.ToClient m) = Carries w c m.voter m.seen m.body

pub record Behind (w : WorldState) (c : ℕ) (u : WorldState) : Type 0 where
  pub voters : VotersBehind w c u.voters
  pub clients : Clients w c u.clients
  pub late : AllByRecursion (CarriesLate w c) u.sent

-- ---- messages

carries : (w : WorldState) (c v seen : ℕ) (body : ClientBody) → (IsAskedBy w c v → stamp_of w c ≤ seen) → Carries w c v seen body
carries w c v seen (to_client.Locked s g) high = λ asked new. high asked
carries w c v seen (to_client.Fail s) high = tt
carries w c v seen (to_client.Inquire g) high = tt

replies_late : (w : WorldState) (c v seen : ℕ) → (IsAskedBy w c v → stamp_of w c ≤ seen) → (rs : List ToClient) → AllCarry v seen rs → AllByRecursion (CarriesLate w c) (map kinds.ToClient rs)
replies_late w c v seen high [] carry = tt
replies_late w c v seen high (r ∷ rs) carry = (
  carries w c r.voter r.seen r.body (λ asked. subst (λ n. stamp_of w c ≤ n) (sym carry.0.1) (high (subst (λ n. IsAskedBy w c n) carry.0.0 asked))),
  replies_late w c v seen high rs carry.1,
)

-- ---- a client moves

locked_late : (w : WorldState) (c v s n sender seen clock : ℕ) (body : ClientBody) → Carries w c sender seen body → Locks sender body v s n → seen ≤ clock → IsAskedBy w c v
    → given_at w v < n → stamp_of w c ≤ clock
locked_late w c v s n sender seen clock (to_client.Locked t g) carry locks high asked new =
    let at = locks.0 in
    let asked_again = carry (subst (λ q. IsAskedBy w c q) locks.0 asked) (subst (λ q. given_at w q < g) locks.0 (subst (λ q. given_at w v < q) locks.2 new)) in
    omega arith
locked_late w c v s n sender seen clock (to_client.Fail t) carry locks high asked new = absurd locks
locked_late w c v s n sender seen clock (to_client.Inquire g) carry locks high asked new = absurd locks

cause_late : (w u : WorldState) (c e v s n : ℕ) (y : ClientState) (cause : requester.Cause) → AllByRecursion (CarriesLate w c) u.sent → Came u e cause → Hears cause y
    → IsLocked cause v s n → IsAskedBy w c v → given_at w v < n → stamp_of w c ≤ y.clock
cause_late w u c e v s n y (requester.Asks q) late came heard locked asked new = absurd locked
cause_late w u c e v s n y (requester.Takes m) late came heard locked asked new =
    locked_late w c v s n m.voter m.seen y.clock m.body (AllByRecursion-get (CarriesLate w c) u.sent came.1 (kinds.ToClient m) late came.2) locked heard asked new
cause_late w u c e v s n y requester.Leaves late came heard locked asked new = absurd locked
cause_late w u c e v s n y requester.GivesUp late came heard locked asked new = absurd locked

heard_by : (laws : ClientLaws) (w u x : WorldState) (c : ℕ) → IsCoherent u → IsCoherent x → AllByRecursion (CarriesLate w c) u.sent → Clients w c u.clients → (k : ClientMoved u x)
    → HasHeard w c k.outcome.state
heard_by laws w u x c ok now late was k v n asked holds new =
    let time = laws.clock (client_at u.clients k.who) k.cause k.outcome (ok.clients k.who) k.step in
    let rises = time.clock in
    elim ((meets laws u x ok now k).held v n holds) [
      | inl before ↦ let high = was.heard k.who v n asked before.0 new in omega arith
      | inr got ↦ cause_late w u c k.who v k.outcome.state.stamp n k.outcome.state k.cause late k.came time.heard got.0 asked new
    ]

quorum_by : (laws : ClientLaws) (x y : ClientState) (cause : requester.Cause) (o : requester.Outcome) → is_idle x.phase ≡ false → requester.step x cause ≡ Ok o
    → KeepsQuorum x cause y → members y ≡ members x
quorum_by laws x y (requester.Asks q) o busy step keeps = absurd (ask-busy x q o (laws.busy x q busy) step)
quorum_by laws x y (requester.Takes m) o busy step keeps = keeps.0
quorum_by laws x y requester.Leaves o busy step keeps = keeps.0
quorum_by laws x y requester.GivesUp o busy step keeps = keeps.0

quorum_kept : (laws : ClientLaws) (u x : WorldState) (c : ℕ) → IsCoherent u → IsCoherent x → is_idle (client_at u.clients c).phase ≡ false → ClientMoved u x
    → members (client_at x.clients c) ≡ members (client_at u.clients c)
quorum_kept laws u x c ok now busy k =
    each_client (λ q y. is_idle (client_at u.clients q).phase ≡ false → members y ≡ members (client_at u.clients q)) u x k
    (subst (λ (y : ClientState). is_idle (client_at u.clients k.who).phase ≡ false → members y ≡ members (client_at u.clients k.who)) (sym k.here)
    (λ runs. quorum_by laws (client_at u.clients k.who) k.outcome.state k.cause k.outcome runs k.step (meets laws u x ok now k).quorum)) (λ q _. refl) c busy

Clients-client : (laws : ClientLaws) (w u x : WorldState) (c : ℕ) → IsCoherent u → IsCoherent x → AllByRecursion (CarriesLate w c) u.sent → is_idle (client_at u.clients c).phase ≡ false
    → Clients w c u.clients → ClientMoved u x → Clients w c x.clients
Clients-client laws w u x c ok now late busy was k = record {
  quorum = quorum_kept laws u x c ok now busy k ∙ was.quorum;
  heard = each_client (λ _ y. HasHeard w c y) u x k (subst (HasHeard w c) (sym k.here) (heard_by laws w u x c ok now late was k)) was.heard;
  later = λ e. (let before = was.later e in let rises = (later_client laws u x ok now k e).stamp in omega arith);
}

Behind-client : (laws : ClientLaws) (w u x : WorldState) (c : ℕ) → IsCoherent u → IsCoherent x → is_idle (client_at u.clients c).phase ≡ false → ClientMoved u x → Behind w c u → Behind w c x
Behind-client laws w u x c ok now busy k h = record {
  voters = subst (λ (vs : List VoterState). VotersBehind w c vs) (sym k.voters) h.voters;
  clients = Clients-client laws w u x c ok now h.late busy h.clients k;
  late = subst (λ ms. AllByRecursion (CarriesLate w c) ms) (sym k.sent) (AllByRecursion-append (CarriesLate w c) u.sent _ h.late (all_sent (CarriesLate w c) kinds.ToVoter (λ m. tt) k.outcome.out));
}

-- ---- a voter moves

-- no message finishes a request that runs
pub not_finished : (x : ClientState) (y : VoterState) (v client c : ℕ) (body : VoterBody) → (c ≡ client → AskOk x y v client body) → is_idle x.phase ≡ false → Finishes client body c x.stamp → ⊥
not_finished x y v client c (asks.Request t) asked busy finishes = let most = asked finishes.0 in let less = finishes.1 in omega arith
not_finished x y v client c (asks.Relinquish g) asked busy finishes = finishes
not_finished x y v client c (asks.Release t) asked busy finishes = let less = (asked finishes.0).1 busy in let most = finishes.1 in omega arith

-- of two requests of different clients one precedes the other
other_precedes : (g : Grant) (r : Request) → g.client ≢ r.client → precedes r (request_of g) ≡ false → precedes (request_of g) r ≡ true
other_precedes g r other not_before = grind (arith, nat_tests)

new_order : (laws : VoterLaws) (y : VoterState) (m : ToVoter) (o : voter.Outcome) (c s : ℕ) (g : Grant) → voter.IsSound y → voter.step y m ≡ Some o → IsEntry y c s → IsEntry o.state c s
    → o.state.held ≡ Some g → y.granted < g.grant → (g.client ≡ c) ⊎ (precedes (request_of g) (record { stamp = s; client = c }) ≡ true)
new_order laws y m o c s g ok step before entry held new = elim entry [
  | inl has ↦ inl (ap (λ (h : Grant). h.client) (same_Some g has.0 (sym held ∙ has.1)) ∙ has.2)
  | inr waits ↦ elim (cases_eq g.client c) [
    | inl same ↦ inl same
    | inr other ↦ inr (other_precedes g (record { stamp = s; client = c }) other (laws.first y m o g c s ok step held new before waits))
  ]
]

-- the grant is as before, or it is the next one
grant_moves : (frees : Bool) (y z : VoterState) (g : Grant) → VoteMoves frees y z → z.held ≡ Some g → (y.held ≡ Some g) ⊎ (g.grant ≡ y.granted + 1)
grant_moves true y z g (inl ends) held = absurd (none-some g (sym ends.held ∙ held))
grant_moves true y z g (inr new) held = inr (ap (λ (h : Grant). h.grant) (same_Some g new.grant (sym held ∙ new.held)) ∙ new.number)
grant_moves false y z g (inl stays) held = inl (sym stays.held ∙ held)
grant_moves false y z g (inr new) held = inr (ap (λ (h : Grant). h.grant) (same_Some g new.1.grant (sym held ∙ new.1.held)) ∙ new.1.number)

pub grant_moved : (laws : VoterLaws) (u x : WorldState) → IsCoherent u → (k : VoterMoved u x) → (g : Grant) → k.outcome.state.held ≡ Some g → ((voter_at u.voters k.message.voter).held ≡ Some g)
    ⊎ (g.grant ≡ (voter_at u.voters k.message.voter).granted + 1)
grant_moved laws u x ok k g held = grant_moves _ (voter_at u.voters k.message.voter) k.outcome.state g
    (laws.numbers (voter_at u.voters k.message.voter) k.message k.outcome (ok.voters k.message.voter) k.step) held

OneVoter-moved : (laws : VoterLaws) (w u x : WorldState) (c : ℕ) → IsCoherent u → StillRuns w u c → (k : VoterMoved u x)
    → OneVoter w c k.message.voter (voter_at u.voters k.message.voter) → OneVoter w c k.message.voter k.outcome.state
OneVoter-moved laws w u x c ok runs k h =
    let y = voter_at u.voters k.message.voter in
    let asked = asked_by u x ok k c in
    let known : IsAskedBy w c k.message.voter → IsEntry k.outcome.state c (stamp_of w c) = λ is.
    elim (laws.stays y k.message k.outcome c (stamp_of w c) (ok.voters k.message.voter) k.step (h.known is)) [
      | inl stays ↦ stays
      | inr finishes ↦ absurd (not_finished (client_at u.clients c) y k.message.voter k.message.client c k.message.body asked runs.runs
          (subst (λ n. Finishes k.message.client k.message.body c n) (sym runs.same) finishes))
    ] in
    let rises = granted_rises _ y k.outcome.state (laws.numbers y k.message k.outcome (ok.voters k.message.voter) k.step) in
    record {
      known = known;
      given = (let least = h.given in omega arith);
      order = λ g is held new. elim (grant_moved laws u x ok k g held) [
        | inl was ↦ h.order g is was new
        | inr next ↦ new_order laws y k.message k.outcome c (stamp_of w c) g (ok.voters k.message.voter) k.step (h.known is) (known is) held (omega arith)
      ];
      old = λ g held few. elim (grant_moved laws u x ok k g held) [
        | inl was ↦ h.old g was few
        | inr next ↦ let least = h.given in absurd (omega arith)
      ];
    }

Voters-moved : (laws : VoterLaws) (w u x : WorldState) (c : ℕ) → IsCoherent u → StillRuns w u c → VoterMoved u x → VotersBehind w c u.voters → VotersBehind w c x.voters
Voters-moved laws w u x c ok runs k h = each_voter (OneVoter w c) u x k (OneVoter-moved laws w u x c ok runs k (h k.message.voter)) h

pub is_current_of : (x : ClientState) (s : ℕ) → is_idle x.phase ≡ false → s ≡ x.stamp → is_current x s ≡ true
is_current_of x s busy same = grind (arith, nat_tests)

-- the request that still runs is the client's current one
runs_now : (w u : WorldState) (c : ℕ) → StillRuns w u c → is_current (client_at u.clients c) (stamp_of w c) ≡ true
runs_now w u c runs = is_current_of (client_at u.clients c) (stamp_of w c) runs.runs (sym runs.same)

Behind-voter : (laws : VoterLaws) (w u x : WorldState) (c : ℕ) → IsCoherent u → Heeds c x → StillRuns w u c → VoterMoved u x → Behind w c u → Behind w c x
Behind-voter laws w u x c ok heeded runs k h =
    let y = voter_at u.voters k.message.voter in
    let voters = Voters-moved laws w u x c ok runs k h.voters in
    let carry = laws.carries y k.message k.outcome k.step in
    let high : IsAskedBy w c k.message.voter → stamp_of w c ≤ seen_after y.seen k.message.body = λ is.
    subst (λ n. stamp_of w c ≤ n) (ap (λ (z : VoterState). z.seen) k.here ∙ carry.seen) (heeded.seen k.message.voter (stamp_of w c) ((voters k.message.voter).known is)
    (subst (λ (cs : List ClientState). is_current (client_at cs c) (stamp_of w c) ≡ true) (sym k.clients) (runs_now w u c runs))) in
    record {
      voters = voters;
      clients = subst (λ (cs : List ClientState). Clients w c cs) (sym k.clients) h.clients;
      late = subst (λ ms. AllByRecursion (CarriesLate w c) ms) (sym k.sent) (AllByRecursion-append (CarriesLate w c) u.sent _ h.late
          (replies_late w c k.message.voter (seen_after y.seen k.message.body) high k.outcome.replies
          (subst (λ i. AllCarry i (seen_after y.seen k.message.body) k.outcome.replies) (is_named u x ok k) carry.carried)));
    }

-- ---- messages alone

reminder_late : (laws : VoterLaws) (w u : WorldState) (c : ℕ) → IsCoherent u → Heeds c u → StillRuns w u c → VotersBehind w c u.voters → (more : List Message) → IsReminder u more → AllByRecursion (CarriesLate w c) more
reminder_late laws w u c ok heeded runs voters more said = elim said [
  | inl out ↦ subst (λ ms. AllByRecursion (CarriesLate w c) ms) (sym out.1) (all_sent (CarriesLate w c) kinds.ToVoter (λ m. tt) out.0)
  | inr v ↦
      let y = voter_at u.voters v.0 in
      subst (λ ms. AllByRecursion (CarriesLate w c) ms) (sym v.2) (replies_late w c v.0 y.seen (λ is. heeded.seen v.0 (stamp_of w c) ((voters v.0).known is) (runs_now w u c runs)) (voter.remind y)
      (subst (λ i. AllCarry i y.seen (voter.remind y)) (ok.numbered.voters v.0 v.1) (laws.remembers y)))
]

Behind-sent : (laws : VoterLaws) (w u x : WorldState) (c : ℕ) → IsCoherent u → Heeds c u → StillRuns w u c → OnlySent u x → Behind w c u → Behind w c x
Behind-sent laws w u x c ok heeded runs k h = record {
  voters = subst (λ (vs : List VoterState). VotersBehind w c vs) (sym k.voters) h.voters;
  clients = subst (λ (cs : List ClientState). Clients w c cs) (sym k.clients) h.clients;
  late = subst (λ ms. AllByRecursion (CarriesLate w c) ms) (sym k.sent) (AllByRecursion-append (CarriesLate w c) u.sent k.more h.late (reminder_late laws w u c ok heeded runs h.voters k.more k.reminder));
}

pub Behind-moved : (laws : Laws) (w u x : WorldState) (c : ℕ) → IsCoherent u → IsCoherent x → Heeds c u → Heeds c x → StillRuns w u c → Moved u x → Behind w c u → Behind w c x
Behind-moved laws w u x c ok now before after runs moved h = elim moved [
  | inl client ↦ Behind-client laws.client w u x c ok now runs.runs client h
  | inr (inl voter) ↦ Behind-voter laws.voter w u x c ok after runs voter h
  | inr (inr sent) ↦ Behind-sent laws.voter w u x c ok before runs sent h
]

-- ---- the first world

first_late : (w : WorldState) (c : ℕ) (m : Message) → WasGiven w.voters m → CarriesLate w c m
first_late w c (kinds.ToVoter m) given = tt
first_late w c (kinds.ToClient m) given = first_carries w c m.voter m.seen m.body given
  where
    first_carries : (w : WorldState) (c v seen : ℕ) (body : ClientBody) → IsUpTo (given_at w v) body → Carries w c v seen body
    first_carries w c v seen (to_client.Locked s g) few = λ asked new. absurd (omega arith)
    first_carries w c v seen (to_client.Fail s) few = tt
    first_carries w c v seen (to_client.Inquire g) few = tt

pub Behind-first : (w : WorldState) (c : ℕ) → IsCoherent w → Heeds c w → IsKnownEverywhere w c → Behind w c w
Behind-first w c ok heeded known = record {
  voters = λ v. record {
    known = known.known v;
    given = omega arith;
    order = λ g asked held new. (let few = (ok.voters v).numbered g held in absurd (omega arith));
    old = λ g held few. (ok.made v g.client g.stamp (inl (g, held, refl, refl))).reached;
  };
  clients = record {
    quorum = refl;
    heard = λ e v n asked holds new. (let few = (ok.voters v).numbered (record { client = e; stamp = stamp_of w e; grant = n }) (ok.held e v n holds) in absurd (omega arith));
    later = λ e. omega arith;
  };
  late = AllByRecursion-weaker (WasGiven w.voters) (CarriesLate w c) (first_late w c) w.sent heeded.given;
}
