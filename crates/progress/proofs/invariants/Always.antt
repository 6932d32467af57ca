-- what holds after every run, beside what `world` says
use Rattle.std.proofs.Common.{◌≡◌, ℕ, ◌≤◌, Bool, true, false, List, [], ◌∷◌, ◌++◌, map, Some, refl, sym, ap, subst, ◌∙◌, inl, inr, arith}
use Rattle.std.specs.FinMap as fin
use Rattle.std.specs.List.{AllByRecursion}
use Rattle.std.specs.Ordering.{nat_cmp}
use Rattle.std.proofs.lemmas.Bool.{cases_lt}
use Rattle.std.proofs.lemmas.Bool.Decides.{nat_tests}
use Rattle.std.proofs.lemmas.Option.{none-some}
use Rattle.message.specs.declared.message.Message.{Message}
use Rattle.message.specs.declared.message.Message.TheVariants as kinds
use Rattle.message.specs.declared.message.ToClient.{ToClient}
use Rattle.message.specs.declared.message.ToVoter.{ToVoter}
use Rattle.message.specs.declared.message.ClientBody.{ClientBody}
use Rattle.message.specs.declared.message.ClientBody.TheVariants as to_client
use Rattle.message.specs.declared.message.VoterBody.{VoterBody}
use Rattle.message.specs.declared.message.VoterBody.TheVariants as asks
use Rattle.voter.specs.declared.state.VoterState.{VoterState}
use Rattle.requester.specs.declared.state.ClientState.{ClientState}
use Rattle.requester.specs.Words.{is_current}
use Rattle.voter.specs.Replies.{AllCarry, seen_after}
use Rattle.voter.specs.Steps as voter
use Rattle.voter.specs.VoteMoves.{VoteMoves}
use Rattle.voter.specs.VoterContract.{AllReport, Brings, IsEntry, ReportsVote}
use Rattle.world.specs.Coherence.{AskOk, IsCoherent, MessageOk}
use Rattle.world_state.specs.Numbered.{IsAddressed}
use Rattle.world.specs.Runs.{start}
use Rattle.world_state.specs.Steps.{WorldState, client_at, step, voter_at}
use Rattle.world.proofs.Reached.{new_voters, voter_new, voter_past}
use Rattle.progress.specs.Rules.{VoterLaws}
use Rattle.progress.proofs.run.Moves.{ClientMoved, IsReminder, Moved, OnlySent, VoterMoved, all_sent, each_voter}
use Rattle.numbers.proofs.Lists.{AllByRecursion-append, AllByRecursion-get, AllByRecursion-weaker}

-- the voter has seen the stamp of the client's request that runs, if it knows it
abbrev pub VoterHasSeen : ℕ → ClientState → VoterState → Type 0
VoterHasSeen c x y = (s : ℕ) → IsEntry y c s → is_current x s ≡ true → s ≤ y.seen

-- each voter has seen the stamp of each request that runs and that it knows
abbrev pub AllSeen : List ClientState → List VoterState → Type 0
AllSeen cs vs = (v c : ℕ) → VoterHasSeen c (client_at cs c) (voter_at vs v)

-- the grant of a LOCKED is one of the first n
abbrev pub IsUpTo : ℕ → ClientBody → Type 0
IsUpTo n (to_client.Locked stamp grant) = grant ≤ n
IsUpTo n (to_client.Fail stamp) = Unit {0}
IsUpTo n (to_client.Inquire grant) = Unit {0}

-- the grant of a LOCKED was given by its voter
abbrev pub WasGiven : List VoterState → Message → Type 0
WasGiven vs (kinds.ToVoter m) = Unit {0}
WasGiven vs (kinds.ToClient m) = IsUpTo (voter_at vs m.voter).granted m.body

-- what holds of one client's request, and of each LOCKED
pub record Heeds (c : ℕ) (w : WorldState) : Type 0 where
  pub seen : (v : ℕ) → VoterHasSeen c (client_at w.clients c) (voter_at w.voters v)
  pub given : AllByRecursion (WasGiven w.voters) w.sent

pub record Always (w : WorldState) : Type 0 where
  pub seen : AllSeen w.clients w.voters
  pub given : AllByRecursion (WasGiven w.voters) w.sent

-- ---- lists of messages

up_to : (y : VoterState) → voter.IsSound y → (c : ℕ) (body : ClientBody) → ReportsVote y.held c body → IsUpTo y.granted body
up_to y ok c (to_client.Locked s g) heard = ok.numbered (record { client = c; stamp = s; grant = g }) heard
up_to y ok c (to_client.Fail s) heard = tt
up_to y ok c (to_client.Inquire g) heard = tt

replies_given : (vs : List VoterState) (v seen : ℕ) (y : VoterState) → voter_at vs v ≡ y → voter.IsSound y → (rs : List ToClient) → AllReport y.held rs → AllCarry v seen rs
    → AllByRecursion (WasGiven vs) (map kinds.ToClient rs)
replies_given vs v seen y is ok [] tell carry = tt
replies_given vs v seen y is ok (r ∷ rs) tell carry = (
  subst (λ (z : VoterState). IsUpTo z.granted r.body) (sym (ap (voter_at vs) carry.0.0 ∙ is)) (up_to y ok r.client r.body tell.0),
  replies_given vs v seen y is ok rs tell.1 carry.1,
)

-- ---- a voter's step

pub granted_rises : (frees : Bool) (y z : VoterState) → VoteMoves frees y z → y.granted ≤ z.granted
granted_rises true y z (inl ends) = let same = ends.granted in omega arith
granted_rises true y z (inr new) = let more = new.granted in omega arith
granted_rises false y z (inl stays) = let same = stays.granted in omega arith
granted_rises false y z (inr new) = let more = new.1.granted in omega arith

pub granted_later : (laws : VoterLaws) (w u : WorldState) → IsCoherent w → (k : VoterMoved w u) → (v : ℕ) → (voter_at w.voters v).granted ≤ (voter_at u.voters v).granted
granted_later laws w u ok k = each_voter (λ v y. (voter_at w.voters v).granted ≤ y.granted) w u k
    (granted_rises _ _ k.outcome.state (laws.numbers (voter_at w.voters k.message.voter) k.message k.outcome (ok.voters k.message.voter) k.step)) (λ v. omega arith)

still_given : (vs us : List VoterState) → ((v : ℕ) → (voter_at vs v).granted ≤ (voter_at us v).granted) → (m : Message) → WasGiven vs m → WasGiven us m
still_given vs us later (kinds.ToVoter m) given = tt
still_given vs us later (kinds.ToClient m) given = still_up_to (voter_at vs m.voter).granted (voter_at us m.voter).granted m.body (later m.voter) given
  where
    still_up_to : (a b : ℕ) (body : ClientBody) → a ≤ b → IsUpTo a body → IsUpTo b body
    still_up_to a b (to_client.Locked s g) most up = omega arith
    still_up_to a b (to_client.Fail s) most up = tt
    still_up_to a b (to_client.Inquire g) most up = tt

seen_before : (seen s : ℕ) (body : VoterBody) → s ≤ seen → s ≤ seen_after seen body
seen_before seen s (asks.Request t) most = grind (arith, nat_tests)
seen_before seen s (asks.Relinquish g) most = most
seen_before seen s (asks.Release t) most = grind (arith, nat_tests)

seen_brought : (seen client c s : ℕ) (body : VoterBody) → Brings client body c s → s ≤ seen_after seen body
seen_brought seen client c s (asks.Request t) brings = let same = brings.1 in grind (arith, nat_tests)
seen_brought seen client c s (asks.Relinquish g) brings = absurd brings
seen_brought seen client c s (asks.Release t) brings = absurd brings

seen_by : (laws : VoterLaws) (y : VoterState) (m : ToVoter) (o : voter.Outcome) → voter.step y m ≡ Some o → (c : ℕ) (x : ClientState) → VoterHasSeen c x y → VoterHasSeen c x o.state
seen_by laws y m o step c x was s entry runs =
    subst (λ n. s ≤ n) (sym (laws.carries y m o step).seen) (elim ((laws.meets y m o step).entries c s entry) [
      | inl before ↦ seen_before y.seen s m.body (was s before runs)
      | inr brings ↦ seen_brought y.seen m.client c s m.body brings
    ])

pub Seen-voter : (laws : VoterLaws) (w u : WorldState) (c : ℕ) → VoterMoved w u → ((v : ℕ) → VoterHasSeen c (client_at w.clients c) (voter_at w.voters v))
    → (v : ℕ) → VoterHasSeen c (client_at u.clients c) (voter_at u.voters v)
Seen-voter laws w u c k seen v = subst (λ (cs : List ClientState). VoterHasSeen c (client_at cs c) (voter_at u.voters v)) (sym k.clients)
    (each_voter (λ q y. VoterHasSeen c (client_at w.clients c) y) w u k
    (seen_by laws (voter_at w.voters k.message.voter) k.message k.outcome k.step c (client_at w.clients c) (seen k.message.voter)) seen v)

-- the voter that took the message is the one that it names
pub is_named : (w u : WorldState) → IsCoherent w → (k : VoterMoved w u) → (voter_at w.voters k.message.voter).id ≡ k.message.voter
is_named w u ok k = ok.numbered.voters k.message.voter (AllByRecursion-get (IsAddressed w) w.sent k.place (kinds.ToVoter k.message) ok.numbered.messages k.came).1

-- what the message says is so of its client
pub asked_by : (w u : WorldState) → IsCoherent w → (k : VoterMoved w u) → (c : ℕ) → c ≡ k.message.client
    → AskOk (client_at w.clients c) (voter_at w.voters k.message.voter) k.message.voter k.message.client k.message.body
asked_by w u ok k c same = subst (λ n. AskOk (client_at w.clients n) (voter_at w.voters k.message.voter) k.message.voter k.message.client k.message.body) (sym same)
    (AllByRecursion-get (MessageOk (client_at w.clients) (voter_at w.voters)) w.sent k.place (kinds.ToVoter k.message) ok.messages k.came)

given-voter : (laws : VoterLaws) (w u : WorldState) → IsCoherent w → IsCoherent u → VoterMoved w u → AllByRecursion (WasGiven w.voters) w.sent → AllByRecursion (WasGiven u.voters) u.sent
given-voter laws w u ok now k given =
    let y = voter_at w.voters k.message.voter in
    let carried = (laws.carries y k.message k.outcome k.step).carried in
    subst (λ ms. AllByRecursion (WasGiven u.voters) ms) (sym k.sent) (AllByRecursion-append (WasGiven u.voters) w.sent _
    (AllByRecursion-weaker (WasGiven w.voters) (WasGiven u.voters) (still_given w.voters u.voters (granted_later laws w u ok k)) w.sent given)
    (replies_given u.voters k.message.voter _ k.outcome.state k.here (subst voter.IsSound k.here (now.voters k.message.voter)) k.outcome.replies (laws.meets y k.message k.outcome k.step).heard
    (subst (λ i. AllCarry i (seen_after y.seen k.message.body) k.outcome.replies) (is_named w u ok k) carried)))

pub Heeds-voter : (laws : VoterLaws) (w u : WorldState) (c : ℕ) → IsCoherent w → IsCoherent u → VoterMoved w u → Heeds c w → Heeds c u
Heeds-voter laws w u c ok now k h = record { seen = Seen-voter laws w u c k h.seen; given = given-voter laws w u ok now k h.given }

-- ---- a client's step, and messages alone

given-client : (w u : WorldState) → ClientMoved w u → AllByRecursion (WasGiven w.voters) w.sent → AllByRecursion (WasGiven u.voters) u.sent
given-client w u k given =
    subst (λ ms. AllByRecursion (WasGiven u.voters) ms) (sym k.sent) (subst (λ (vs : List VoterState). AllByRecursion (WasGiven vs) (w.sent ++ map kinds.ToVoter k.outcome.out)) (sym k.voters)
    (AllByRecursion-append (WasGiven w.voters) w.sent _ given (all_sent (WasGiven w.voters) kinds.ToVoter (λ m. tt) k.outcome.out)))

pub Heeds-client : (w u : WorldState) (c : ℕ) → ClientMoved w u → ((v : ℕ) → VoterHasSeen c (client_at u.clients c) (voter_at u.voters v)) → Heeds c w → Heeds c u
Heeds-client w u c k seen a = record { seen = seen; given = given-client w u k a.given }

reminder_given : (laws : VoterLaws) (w : WorldState) → IsCoherent w → (more : List Message) → IsReminder w more → AllByRecursion (WasGiven w.voters) more
reminder_given laws w ok more said = elim said [
  | inl out ↦ subst (λ ms. AllByRecursion (WasGiven w.voters) ms) (sym out.1) (all_sent (WasGiven w.voters) kinds.ToVoter (λ m. tt) out.0)
  | inr v ↦
      let y = voter_at w.voters v.0 in
      subst (λ ms. AllByRecursion (WasGiven w.voters) ms) (sym v.2) (replies_given w.voters v.0 y.seen y refl (ok.voters v.0) (voter.remind y) (laws.repeats y)
      (subst (λ i. AllCarry i y.seen (voter.remind y)) (ok.numbered.voters v.0 v.1) (laws.remembers y)))
]

given-sent : (laws : VoterLaws) (w u : WorldState) → IsCoherent w → OnlySent w u → AllByRecursion (WasGiven w.voters) w.sent → AllByRecursion (WasGiven u.voters) u.sent
given-sent laws w u ok k given =
    subst (λ ms. AllByRecursion (WasGiven u.voters) ms) (sym k.sent) (subst (λ (vs : List VoterState). AllByRecursion (WasGiven vs) (w.sent ++ k.more)) (sym k.voters)
    (AllByRecursion-append (WasGiven w.voters) w.sent k.more given (reminder_given laws w ok k.more k.reminder)))

pub given-moved : (laws : VoterLaws) (w u : WorldState) → IsCoherent w → IsCoherent u → Moved w u → AllByRecursion (WasGiven w.voters) w.sent → AllByRecursion (WasGiven u.voters) u.sent
given-moved laws w u ok now moved given = elim moved [
  | inl client ↦ given-client w u client given
  | inr (inl voter) ↦ given-voter laws w u ok now voter given
  | inr (inr sent) ↦ given-sent laws w u ok sent given
]

pub Heeds-sent : (laws : VoterLaws) (w u : WorldState) (c : ℕ) → IsCoherent w → OnlySent w u → Heeds c w → Heeds c u
Heeds-sent laws w u c ok k a = record {
  seen = λ v. subst (λ (cs : List ClientState). VoterHasSeen c (client_at cs c) (voter_at u.voters v)) (sym k.clients)
      (subst (λ (vs : List VoterState). VoterHasSeen c (client_at w.clients c) (voter_at vs v)) (sym k.voters) (a.seen v));
  given = given-sent laws w u ok k a.given;
}

-- all clients' requests are heeded
pub heeds : (c : ℕ) (w : WorldState) → Always w → Heeds c w
heeds c w a = record { seen = λ v. a.seen v c; given = a.given }

pub heeds_all : (w : WorldState) → ((c : ℕ) → Heeds c w) → Always w
heeds_all w all = record { seen = λ v c. (all c).seen v; given = (all 0).given }

-- ---- every run

-- each voter of a new world is a new one
pub new_voter : (n limit v : ℕ) → (i : ℕ) × (l : ℕ) × (voter_at (new_voters n limit) v ≡ voter.start i l)
new_voter n limit v = elim (cases_lt v n) [ inl within ↦ (v, limit, voter_new n limit v within) | inr beyond ↦ (0, 1, voter_past n limit v beyond) ]

pub none_entry : (i l c s : ℕ) → IsEntry (voter.start i l) c s → ⊥
none_entry i l c s entry = elim entry [
  | inl held ↦ none-some held.0 held.1
  | inr waits ↦ none-some s (sym (fin.get-empty nat_cmp c) ∙ waits)
]

pub Always-start : (voters clients limit : ℕ) → Always (start voters clients limit)
unfolding new_voters
Always-start voters clients limit = record {
  seen = λ v c s entry runs. let new = new_voter voters limit v in absurd (none_entry new.0 new.1 c s (subst (λ (y : VoterState). IsEntry y c s) new.2 entry));
  given = tt;
}
