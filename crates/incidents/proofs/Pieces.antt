-- a client or a voter that is fit takes a step: it is fit afterwards, and so is what it sends
use Rattle.std.proofs.Common.{◌≡◌, ℕ, ◌+◌, ◌<◌, ◌≤◌, ◌^◌, true, false, List, [], ◌∷◌, map, Bool, Ok, Some, refl, sym, ap, subst, ◌∙◌, inl, inr, arith}
use Rattle.std.specs.FinMap as fin
use Rattle.std.specs.Ordering.{nat_cmp}
use Rattle.std.specs.List.{AllByRecursion}
use Rattle.std.proofs.lemmas.Bool.{cases_lt, false≢true}
use Rattle.std.proofs.lemmas.Bool.Decides.{nat_tests}
use Rattle.std.proofs.lemmas.Option.{none-some, same_Some}
use Rattle.numbers.proofs.Lists.{slice_index-replicate_zero}
use Rattle.numbers.specs.Sets.{has}
use Rattle.message.specs.Lines.{voter_number}
use Rattle.message.specs.declared.message.ToVoter.{ToVoter}
use Rattle.message.specs.declared.message.ToClient.{ToClient}
use Rattle.message.specs.declared.message.Message.{Message}
use Rattle.message.specs.declared.message.Message.TheVariants as kinds
use Rattle.message.specs.declared.message.VoterBody.{VoterBody}
use Rattle.message.specs.declared.message.VoterBody.TheVariants as asks
use Rattle.message.specs.declared.message.ClientBody.{ClientBody}
use Rattle.message.specs.declared.message.ClientBody.TheVariants as to_client
use Rattle.voter.specs.declared.state.Grant.{Grant}
use Rattle.voter.specs.declared.state.VoterState.{VoterState}
use Rattle.voter.specs.Replies.{AllCarry, AllReportPlace, ReportsPlace, seen_after}
use Rattle.voter.specs.Saved.{least_voter}
use Rattle.voter.specs.Steps as voter
use Rattle.voter.specs.VoteMoves.{VoteMoves}
use Rattle.voter.specs.VoterContract.{AllReport, ReportsVote}
use Rattle.requester.specs.declared.state.ClientState.{ClientState}
use Rattle.requester.specs.RequesterContract.{Accepts, AllInRange, AllRepeat, AllSay, ComesInRange, IsLocked, IsReached, KeepsQuorum, Locks, RemindersInRange, Repeats, Says, SaysInRange}
use Rattle.requester.specs.Saved.{least_client}
use Rattle.voter.proofs.KeptLemmas as kept
use Rattle.voter.proofs.Soundness.{IsSound-counted}
use Rattle.requester.proofs.SavedLemmas.{least_is_sound}
use Rattle.requester.specs.Soundness as sound
use Rattle.requester.specs.Steps as client
use Rattle.requester.specs.Words.{held_of, holds_under, is_member, last_of, members}
use Rattle.world.specs.Ranges.{IsWithin, ReportsWithin}
use Rattle.world.specs.Rules.{ClientLaws, VoterLaws}
use Rattle.world.specs.Visible.{AreQuorums, IsAmong}
use Rattle.world.proofs.Claims.{Bounds}
use Rattle.world.proofs.ClientMoves.{Draws, member_below}
use Rattle.world.proofs.Exclusion.{under_grant}
use Rattle.world.proofs.IncidentLemmas.{AsksInRange, anew_sound, brought, counted, reborn_sound}
use Rattle.world.proofs.Reached.{RunPremises}
use Rattle.world.specs.Incidents.{anew, reborn}
use Rattle.incidents.specs.Fit.{IsFitClient, IsFitMessage, IsFitVoter}

abbrev pub FitClient : Bounds → ℕ → ClientState → Type 0
FitClient b c x = IsFitClient b.voters b.limit c x

abbrev pub FitVoter : Bounds → ℕ → VoterState → Type 0
FitVoter b v y = IsFitVoter b.clients b.limit v y

abbrev pub FitMessage : Bounds → Message → Type 0
FitMessage b m = IsFitMessage b.voters b.clients b.limit m

-- ---- a client's step

-- a LOCKED that comes is of a voter of this world, and in range
abbrev pub ComesOfWorld : Bounds → client.Cause → Type 0
ComesOfWorld b cause = (v s g : ℕ) → IsLocked cause v s g → (v < b.voters) × IsWithin b.limit s × IsWithin b.limit g

under_same : (x : ClientState) (v g : ℕ) → holds_under x v g ≡ true → held_of x v ≡ g
under_same x v g is = grind (arith, nat_tests)

quorum_on : (b : Bounds) → AreQuorums b.voters b.quorums → (x y : ClientState) (cause : client.Cause) → Draws b cause → KeepsQuorum x cause y
    → ((v : ℕ) → is_member x v ≡ true → v < b.voters) → (v : ℕ) → is_member y v ≡ true → v < b.voters
quorum_on b are x y (client.Asks q) draws keeps was v is = member_below b are y (inr (subst (λ (l : List ℕ). IsAmong b.quorums l) (sym keeps) draws)) v is
quorum_on b are x y (client.Takes m) draws keeps was v is = was v (subst (λ (l : List ℕ). has l v ≡ true) keeps.0 is)
quorum_on b are x y client.Leaves draws keeps was v is = was v (subst (λ (l : List ℕ). has l v ≡ true) keeps.0 is)
quorum_on b are x y client.GivesUp draws keeps was v is = was v (subst (λ (l : List ℕ). has l v ≡ true) keeps.0 is)

pub comes_in_range : (b : Bounds) (x : ClientState) (cause : client.Cause) → x.limit ≡ b.limit → ComesOfWorld b cause → ComesInRange x.limit cause
comes_in_range b x cause limit comes v s g locks =
    let within = (comes v s g locks).1 in
    let most = within.1 in
    (within.0, omega arith)

pub client_after : ClientLaws → (b : Bounds) → AreQuorums b.voters b.quorums → (c : ℕ) (x : ClientState) (cause : client.Cause) (o : client.Outcome) → FitClient b c x → Accepts x cause → Draws b cause
    → ComesOfWorld b cause → client.step x cause ≡ Ok o → FitClient b c o.state
client_after laws b are c x cause o fit accepts draws comes is =
    let y = o.state in
    let move = laws.meets x cause o fit.sound accepts is in
    record {
      id = move.id ∙ fit.id;
      limit = move.limit ∙ fit.limit;
      sound = laws.stays x cause o fit.sound accepts is;
      quorum = quorum_on b are x y cause draws move.quorum fit.quorum;
      held = λ v. elim (cases_lt 0 (held_of y v)) [
        | inl some ↦ elim (move.held v (held_of y v) (under_grant y v some)) [
          | inl before ↦ let same = under_same x v (held_of y v) before.0 in let most = fit.held v in omega arith
          | inr locked ↦ let most = (comes v y.stamp (held_of y v) locked.0).2.1 in most
        ]
        | inr none ↦ omega arith
      ];
      last = λ v. elim (move.last v) [
        | inl same ↦ let most = fit.last v in omega arith
        | inr was ↦ let same = under_same x v (last_of y v) was in let most = fit.held v in omega arith
      ];
    }

-- ---- what a client sends

reached : (b : Bounds) (y : ClientState) (cause : client.Cause) → ComesOfWorld b cause → ((v : ℕ) → is_member y v ≡ true → v < b.voters) → (v : ℕ) → IsReached cause y v → v < b.voters
reached b y cause comes quorum v is = elim is [
  | inl member ↦ quorum v member
  | inr locked ↦ (comes v locked.0 locked.1.0 locked.1.1).0
]

number_said : (b : Bounds) (x y : ClientState) (cause : client.Cause) → y.limit ≡ b.limit → (v : ℕ) → last_of y v ≤ b.limit → (body : VoterBody) → Says x cause y v body → SaysInRange y.limit body
    → IsWithin b.limit (voter_number body)
number_said b x y cause limit v last (asks.Request s) says range = let most = range.1 in (range.0, omega arith)
number_said b x y cause limit v last (asks.Relinquish g) says range = let same = says.0 in (range, omega arith)
number_said b x y cause limit v last (asks.Release s) says range = let most = range.1 in (range.0, omega arith)

pub asks_fit : (b : Bounds) (c : ℕ) → c < b.clients → (x y : ClientState) (cause : client.Cause) → x.id ≡ c → FitClient b c y → ComesOfWorld b cause → (out : List ToVoter) → AllSay x cause y out → AllInRange cause y out
    → AllByRecursion (FitMessage b) (map kinds.ToVoter out)
asks_fit b c within x y cause id fit comes [] say range = tt
asks_fit b c within x y cause id fit comes (m ∷ ms) say range = (
  (
    subst (λ n. n < b.clients) (sym (say.0.0 ∙ id)) within,
    reached b y cause comes fit.quorum m.voter range.0.0,
    number_said b x y cause fit.limit m.voter (fit.last m.voter) m.body say.0.1 range.0.2,
  ),
  asks_fit b c within x y cause id fit comes ms say.1 range.1,
)

number_repeated : (b : Bounds) (x : ClientState) → x.limit ≡ b.limit → (v : ℕ) → last_of x v ≤ b.limit → (body : VoterBody) → Repeats x v body → SaysInRange x.limit body → IsWithin b.limit (voter_number body)
number_repeated b x limit v last (asks.Request s) says range = let most = range.1 in (range.0, omega arith)
number_repeated b x limit v last (asks.Relinquish g) says range = let same = says in (range, omega arith)
number_repeated b x limit v last (asks.Release s) says range = absurd says

pub reminders_fit : (b : Bounds) (c : ℕ) → c < b.clients → (x : ClientState) → FitClient b c x → (out : List ToVoter) → AllRepeat x out → RemindersInRange x out → AllByRecursion (FitMessage b) (map kinds.ToVoter out)
reminders_fit b c within x fit [] say range = tt
reminders_fit b c within x fit (m ∷ ms) say range = (
  (
    subst (λ n. n < b.clients) (sym (say.0.0 ∙ fit.id)) within,
    fit.quorum m.voter range.0.0,
    number_repeated b x fit.limit m.voter (fit.last m.voter) m.body say.0.1 range.0.2,
  ),
  reminders_fit b c within x fit ms say.1 range.1,
)

-- the LOCKED of a message that was sent is in range
pub comes_by : (b : Bounds) (sender : ℕ) (body : ClientBody) → sender < b.voters → ReportsWithin b.limit body → (v s g : ℕ) → Locks sender body v s g → (v < b.voters) × IsWithin b.limit s × IsWithin b.limit g
comes_by b sender (to_client.Locked stamp grant) within numbers v s g locks = (
  subst (λ n. n < b.voters) (sym locks.0) within,
  subst (λ n. IsWithin b.limit n) (sym locks.1) numbers.0,
  subst (λ n. IsWithin b.limit n) (sym locks.2) numbers.1,
)
comes_by b sender (to_client.Fail stamp) within numbers v s g locks = absurd locks
comes_by b sender (to_client.Inquire grant) within numbers v s g locks = absurd locks

-- ---- a voter's step

-- a message that a voter may take
pub record MayHear (b : Bounds) (m : ToVoter) : Type 0 where
  pub client : m.client < b.clients
  pub voter : m.voter < b.voters
  pub asks : AsksInRange b.limit m.body
  pub number : voter_number m.body < 2 ^ 64

asks_within : (limit : ℕ) (body : VoterBody) → IsWithin limit (voter_number body) → AsksInRange limit body
asks_within limit (asks.Request s) is = is
asks_within limit (asks.Relinquish g) is = tt
asks_within limit (asks.Release s) is = tt

-- a message that was sent may be heard
pub may_hear : (b : Bounds) → RunPremises b → (m : ToVoter) → FitMessage b (kinds.ToVoter m) → MayHear b m
may_hear b given m fit = record {
  client = fit.0;
  voter = fit.1;
  asks = asks_within b.limit m.body fit.2;
  number = (let most = fit.2.1 in let few = given.limits.few_stamps in omega arith);
}

seen_on : (seen : ℕ) (body : VoterBody) → seen < 2 ^ 64 → voter_number body < 2 ^ 64 → seen_after seen body < 2 ^ 64
seen_on seen (asks.Request s) was number = omega arith
seen_on seen (asks.Relinquish g) was number = was
seen_on seen (asks.Release s) was number = omega arith

new_grant : (z : VoterState) (n : ℕ) (h : Grant) → z.held ≡ Some h → h.grant ≡ n + 1 → (g : Grant) → z.held ≡ Some g → 1 ≤ g.grant
new_grant z n h held number g is =
    let same : g.grant ≡ h.grant = ap (λ (k : Grant). k.grant) (same_Some g h (sym is ∙ held)) in
    omega arith

grant_on : (frees : Bool) (y z : VoterState) → VoteMoves frees y z → ((g : Grant) → y.held ≡ Some g → 1 ≤ g.grant) → (g : Grant) → z.held ≡ Some g → 1 ≤ g.grant
grant_on true y z (inl ends) was g is = absurd (none-some g (sym ends.held ∙ is))
grant_on true y z (inr new) was g is = new_grant z y.granted new.grant new.held new.number g is
grant_on false y z (inl stays) was g is = was g (sym stays.held ∙ is)
grant_on false y z (inr new) was g is = new_grant z y.granted new.1.grant new.1.held new.1.number g is

pub voter_after : VoterLaws → (b : Bounds) (v : ℕ) (y : VoterState) (m : ToVoter) (o : voter.Outcome) → FitVoter b v y → MayHear b m → voter.step y m ≡ Some o → FitVoter b v o.state
voter_after laws b v y m o fit may is =
    let carries = laws.carries y m o is in
    let meets = laws.meets y m o is in
    let same = carries.limit in
    let most = fit.limit in
    record {
      id = carries.id ∙ fit.id;
      limit = omega arith;
      sound = laws.stays y m o fit.sound is;
      requests = λ c t e. elim (meets.entries c t e) [
        | inl old ↦ fit.requests c t old
        | inr brings ↦ brought b m.client m.body may.client may.asks c t brings
      ];
      grant = grant_on (voter.effect_of y m).frees y o.state (laws.numbers y m o fit.sound is) fit.grant;
      seen = subst (λ n. n < 2 ^ 64) (sym carries.seen) (seen_on y.seen m.body fit.seen may.number);
    }

-- ---- what a voter sends

grant_within : (b : Bounds) (v : ℕ) (z : VoterState) → FitVoter b v z → (g : Grant) → z.held ≡ Some g → IsWithin b.limit g.grant
grant_within b v z fit g held =
    let given = fit.sound.numbered g held in
    let most = fit.sound.granted in
    let far = fit.limit in
    (fit.grant g held, omega arith)

-- to whom, and in range
reply_fit : (b : Bounds) (v : ℕ) (z : VoterState) → FitVoter b v z → (c : ℕ) (body : ClientBody) → ReportsVote z.held c body → ReportsPlace z c body → (c < b.clients) × ReportsWithin b.limit body
reply_fit b v z fit c (to_client.Locked s g) vote place =
    let h : Grant = record { client = c; stamp = s; grant = g } in
    let known = fit.requests c s (inl (h, vote, refl, refl)) in
    (known.0, (known.1, grant_within b v z fit h vote))
reply_fit b v z fit c (to_client.Fail s) vote place = fit.requests c s (inr place)
reply_fit b v z fit c (to_client.Inquire g) vote place = (
  subst (λ n. n < b.clients) place.2 (fit.requests place.0.client place.0.stamp (inl (place.0, place.1, refl, refl))).0,
  subst (λ n. IsWithin b.limit n) place.3 (grant_within b v z fit place.0 place.1),
)

pub replies_fit : (b : Bounds) (v seen : ℕ) (z : VoterState) → v < b.voters → seen < 2 ^ 64 → FitVoter b v z → (rs : List ToClient) → AllReport z.held rs → AllReportPlace z rs → AllCarry v seen rs
    → AllByRecursion (FitMessage b) (map kinds.ToClient rs)
replies_fit b v seen z within small fit [] report place carry = tt
replies_fit b v seen z within small fit (r ∷ rs) report place carry =
    let to = reply_fit b v z fit r.client r.body report.0 place.0 in (
      (to.0, subst (λ n. n < b.voters) (sym carry.0.0) within, subst (λ n. n < 2 ^ 64) (sym carry.0.1) small, to.1),
      replies_fit b v seen z within small fit rs report.1 place.1 carry.1,
    )

pub seen_carried : (b : Bounds) (v : ℕ) (y : VoterState) (m : ToVoter) → FitVoter b v y → MayHear b m → seen_after y.seen m.body < 2 ^ 64
seen_carried b v y m fit may = seen_on y.seen m.body fit.seen may.number

-- ---- states that come back

-- a client without a request holds nothing and gave nothing back
client_empty : (b : Bounds) (c : ℕ) (x y : ClientState) → FitClient b c x → y.id ≡ x.id → y.limit ≡ x.limit → sound.IsSound y → members y ≡ [] → ((v : ℕ) → held_of y v ≡ 0) → ((v : ℕ) → last_of y v ≡ 0) → FitClient b c y
client_empty b c x y fit id limit is_sound none held last = record {
  id = id ∙ fit.id;
  limit = limit ∙ fit.limit;
  sound = is_sound;
  quorum = λ v is. absurd (false≢true (ap (λ (q : List ℕ). has q v) (sym none) ∙ is));
  held = λ v. (let zero = held v in omega arith);
  last = λ v. (let zero = last v in omega arith);
}

pub least_client_fit : (b : Bounds) (c : ℕ) (x : ClientState) → FitClient b c x → FitClient b c (least_client x)
least_client_fit b c x fit = client_empty b c x (least_client x) fit refl refl (least_is_sound x fit.sound) refl (λ v. slice_index-replicate_zero 64 v) (λ v. slice_index-replicate_zero 64 v)

pub anew_fit : (b : Bounds) → RunPremises b → (c : ℕ) (x : ClientState) (clock : ℕ) → FitClient b c x → clock ≤ x.limit → FitClient b c (anew x clock)
anew_fit b given c x clock fit most =
    client_empty b c x (anew x clock) fit refl refl (anew_sound b given x clock fit.sound most) refl (λ v. slice_index-replicate_zero 64 v) (λ v. slice_index-replicate_zero 64 v)

pub least_voter_fit : (b : Bounds) (v : ℕ) (y : VoterState) → FitVoter b v y → FitVoter b v (least_voter y)
least_voter_fit b v y fit = record {
  id = fit.id;
  limit = fit.limit;
  sound = kept.least_is_sound y fit.sound;
  requests = λ c s is. elim is [ inl held ↦ fit.requests c s (inl held) | inr waits ↦ absurd (none-some s (sym (fin.get-empty nat_cmp c) ∙ waits)) ];
  grant = fit.grant;
  seen = omega arith;
}

pub reborn_fit : (b : Bounds) (v : ℕ) (y : VoterState) (above : ℕ) → FitVoter b v y → above ≤ y.limit → FitVoter b v (reborn y above)
reborn_fit b v y above fit most = record {
  id = fit.id;
  limit = fit.limit;
  sound = reborn_sound y above fit.sound most;
  requests = λ c s is. elim is [ inl held ↦ absurd (none-some held.0 held.1) | inr waits ↦ absurd (none-some s (sym (fin.get-empty nat_cmp c) ∙ waits)) ];
  grant = λ g held. absurd (none-some g held);
  seen = omega arith;
}

pub counted_fit : (b : Bounds) → RunPremises b → (v : ℕ) (y : VoterState) (granted limit : ℕ) → FitVoter b v y → y.granted ≤ granted → granted ≤ limit → limit ≤ b.limit
    → FitVoter b v (counted y granted limit)
counted_fit b given v y granted limit fit more within most = record {
  id = fit.id;
  limit = most;
  sound = IsSound-counted y granted limit fit.sound more within (let few = given.limits.few_stamps in omega arith);
  requests = fit.requests;
  grant = fit.grant;
  seen = fit.seen;
}
