-- what a reminder sends, and what comes of a message that arrives
use Rattle.std.proofs.Common.{◌≡◌, ℕ, zero, suc, ◌+◌, ◌<◌, ◌≤◌, List, [], ◌∷◌, ◌++◌, map, length, Some, refl, ap, ◌∙◌, inl, inr, arith}
use Rattle.std.specs.Prelude.{slice_get}
use Rattle.std.specs.List.{AllByRecursion, Contains}
use Rattle.std.proofs.lemmas.Option.{none-some, slice_get_within}
use Rattle.numbers.proofs.Lists.{AllByRecursion-get}
use Rattle.message.specs.declared.message.Message.{Message}
use Rattle.message.specs.declared.message.Message.TheVariants as kinds
use Rattle.message.specs.declared.message.ToClient.{ToClient}
use Rattle.message.specs.declared.message.ToVoter.{ToVoter}
use Rattle.voter.specs.Steps as voter
use Rattle.requester.specs.Steps as requester
use Rattle.world_state.specs.declared.step.Step.{Step}
use Rattle.world_state.specs.declared.step.Step.TheVariants.{Deliver, RemindClient, RemindVoter}
use Rattle.world.specs.Coherence.{IsCoherent}
use Rattle.world_state.specs.Numbered.{IsAddressed}
use Rattle.world_state.specs.Steps.{Dealing, WorldState, client_at, voter_at}
use Rattle.progress.specs.Rules.{Laws}
use Rattle.progress.proofs.run.Along.{next}
use Rattle.progress.proofs.run.Exchanges.{after-deliver_client, after-deliver_voter, after-remind_client, after-remind_voter, get_next, get_sent, reminded, spoken}
use Rattle.progress.proofs.run.Moves.{Moved, client_here, voter_here}

-- ---- lists

pub get_before : {A : Type 0} (xs ys : List A) (k : ℕ) (m : A) → slice_get xs k ≡ Some m → slice_get (xs ++ ys) k ≡ Some m
get_before [] ys k m is = absurd (none-some m is)
get_before (x ∷ xs) ys zero m is = is
get_before (x ∷ xs) ys (suc k) m is = get_before xs ys k m is

-- what holds of each message of the second list
pub get_after : {A : Type 0} (P : A → Type 0) (xs ys : List A) (k : ℕ) (m : A) → length xs ≤ k → slice_get (xs ++ ys) k ≡ Some m → AllByRecursion P ys → P m
get_after P [] ys k m least is all = AllByRecursion-get P ys k m all is
get_after P (x ∷ xs) ys zero m least is all = absurd (omega arith)
get_after P (x ∷ xs) ys (suc k) m least is all = get_after P xs ys k m (omega arith) is all

-- a message that was sent stays
pub message_stays : (k : ℕ) (m : Message) (x y : WorldState) → Moved x y → slice_get x.sent k ≡ Some m → slice_get y.sent k ≡ Some m
message_stays k m x y moved is = elim moved [
  | inl client ↦ ap (λ ms. slice_get ms k) client.sent ∙ get_before x.sent (map kinds.ToVoter client.outcome.out) k m is
  | inr (inl voter) ↦ ap (λ ms. slice_get ms k) voter.sent ∙ get_before x.sent (map kinds.ToClient voter.outcome.replies) k m is
  | inr (inr sent) ↦ ap (λ ms. slice_get ms k) sent.sent ∙ get_before x.sent sent.more k m is
]

-- ---- a reminder

-- this message is sent by the step
pub record Sends (deal : Dealing) (x : WorldState) (s : Step) (m : Message) : Type 0 where
  pub place : ℕ
  pub least : length x.sent ≤ place
  pub less : place < length (next deal x s).sent
  pub is : slice_get (next deal x s).sent place ≡ Some m

pub says : (deal : Dealing) (x : WorldState) (c : ℕ) (m : ToVoter) → c < length x.clients → Contains (requester.remind (client_at x.clients c)) m → Sends deal x (RemindClient c) (kinds.ToVoter m)
unfolding spoken
says deal x c m within there =
    let now = after-remind_client deal x c within in
    let is : slice_get (next deal x (RemindClient c)).sent (length x.sent + there.0) ≡ Some (kinds.ToVoter m) =
    ap (λ (u : WorldState). slice_get u.sent (length x.sent + there.0)) now ∙ get_sent x.sent (requester.remind (client_at x.clients c)) there.0 m there.1 there.2 in
    record {
      place = length x.sent + there.0;
      least = omega arith;
      less = slice_get_within (next deal x (RemindClient c)).sent (length x.sent + there.0) (kinds.ToVoter m) is;
      is = is;
    }

-- the first message of a voter's reminder
pub reminds_first : (deal : Dealing) (x : WorldState) (v : ℕ) (m : ToClient) (more : List ToClient) → v < length x.voters → voter.remind (voter_at x.voters v) ≡ m ∷ more
    → Sends deal x (RemindVoter v) (kinds.ToClient m)
unfolding reminded
reminds_first deal x v m more within out =
    let now = after-remind_voter deal x v within in
    let is : slice_get (next deal x (RemindVoter v)).sent (length x.sent) ≡ Some (kinds.ToClient m) =
    ap (λ (u : WorldState). slice_get u.sent (length x.sent)) now ∙ ap (λ rs. slice_get (x.sent ++ map kinds.ToClient rs) (length x.sent)) out
    ∙ get_next x.sent (kinds.ToClient m) (map kinds.ToClient more) in
    record {
      place = length x.sent;
      least = omega arith;
      less = slice_get_within (next deal x (RemindVoter v)).sent (length x.sent) (kinds.ToClient m) is;
      is = is;
    }

second_get : {A : Type 0} (xs : List A) (y z : A) (ys : List A) → slice_get (xs ++ y ∷ z ∷ ys) (suc (length xs)) ≡ Some z
second_get [] y z ys = refl
second_get (x ∷ xs) y z ys = second_get xs y z ys

-- the second message of a voter's reminder
pub reminds_second : (deal : Dealing) (x : WorldState) (v : ℕ) (m n : ToClient) (more : List ToClient) → v < length x.voters → voter.remind (voter_at x.voters v) ≡ m ∷ n ∷ more
    → Sends deal x (RemindVoter v) (kinds.ToClient n)
unfolding reminded
reminds_second deal x v m n more within out =
    let now = after-remind_voter deal x v within in
    let is : slice_get (next deal x (RemindVoter v)).sent (suc (length x.sent)) ≡ Some (kinds.ToClient n) =
    ap (λ (u : WorldState). slice_get u.sent (suc (length x.sent))) now ∙ ap (λ rs. slice_get (x.sent ++ map kinds.ToClient rs) (suc (length x.sent))) out
    ∙ second_get x.sent (kinds.ToClient m) (kinds.ToClient n) (map kinds.ToClient more) in
    record {
      place = suc (length x.sent);
      least = omega arith;
      less = slice_get_within (next deal x (RemindVoter v)).sent (suc (length x.sent)) (kinds.ToClient n) is;
      is = is;
    }

-- ---- a message arrives

-- the voter takes it
pub record VoterTakes (deal : Dealing) (x : WorldState) (k : ℕ) (m : ToVoter) : Type 0 where
  pub outcome : voter.Outcome
  pub step : voter.step (voter_at x.voters m.voter) m ≡ Some outcome
  pub here : voter_at (next deal x (Deliver k)).voters m.voter ≡ outcome.state
  pub clients : (next deal x (Deliver k)).clients ≡ x.clients
  pub sent : (next deal x (Deliver k)).sent ≡ x.sent ++ map kinds.ToClient outcome.replies

pub voter_takes : (laws : Laws) (deal : Dealing) (x : WorldState) (k : ℕ) (m : ToVoter) → IsCoherent x → (voter_at x.voters m.voter).granted < (voter_at x.voters m.voter).limit
    → slice_get x.sent k ≡ Some (kinds.ToVoter m) → VoterTakes deal x k m
voter_takes laws deal x k m ok left is =
    let within = (AllByRecursion-get (IsAddressed x) x.sent k (kinds.ToVoter m) ok.numbered.messages is).1 in
    let taken = laws.voter.takes (voter_at x.voters m.voter) m (ok.voters m.voter) left in
    let o = taken.0 in
    let goes = after-deliver_voter deal x k m o is taken.1 in
    record {
      outcome = o;
      step = taken.1;
      here = ap (λ (u : WorldState). voter_at u.voters m.voter) goes ∙ voter_here x.voters m.voter o.state within;
      clients = ap (λ (u : WorldState). u.clients) goes;
      sent = ap (λ (u : WorldState). u.sent) goes;
    }

-- a reply of the voter
pub replied : (deal : Dealing) (x : WorldState) (k : ℕ) (m : ToVoter) (r : ToClient) → (t : VoterTakes deal x k m) → t.outcome.replies ≡ r ∷ [] → Sends deal x (Deliver k) (kinds.ToClient r)
replied deal x k m r t out =
    let is : slice_get (next deal x (Deliver k)).sent (length x.sent) ≡ Some (kinds.ToClient r) =
    ap (λ ms. slice_get ms (length x.sent)) (t.sent ∙ ap (λ rs. x.sent ++ map kinds.ToClient rs) out) ∙ get_next x.sent (kinds.ToClient r) [] in
    record {
      place = length x.sent;
      least = omega arith;
      less = slice_get_within (next deal x (Deliver k)).sent (length x.sent) (kinds.ToClient r) is;
      is = is;
    }

-- the client takes it
pub record ClientTakes (deal : Dealing) (x : WorldState) (k : ℕ) (m : ToClient) : Type 0 where
  pub here : client_at (next deal x (Deliver k)).clients m.client ≡ (requester.take (client_at x.clients m.client) m).state
  pub voters : (next deal x (Deliver k)).voters ≡ x.voters
  pub sent : (next deal x (Deliver k)).sent ≡ x.sent ++ map kinds.ToVoter (requester.take (client_at x.clients m.client) m).out

pub client_takes : (deal : Dealing) (x : WorldState) (k : ℕ) (m : ToClient) → IsCoherent x → slice_get x.sent k ≡ Some (kinds.ToClient m) → ClientTakes deal x k m
client_takes deal x k m ok is =
    let within = (AllByRecursion-get (IsAddressed x) x.sent k (kinds.ToClient m) ok.numbered.messages is).0 in
    let goes = after-deliver_client deal x k m is in
    record {
      here = ap (λ (u : WorldState). client_at u.clients m.client) goes ∙ client_here x.clients m.client (requester.take (client_at x.clients m.client) m).state within;
      voters = ap (λ (u : WorldState). u.voters) goes;
      sent = ap (λ (u : WorldState). u.sent) goes;
    }

-- what the client sends back
pub answered : (deal : Dealing) (x : WorldState) (k : ℕ) (m : ToClient) (r : ToVoter) → ClientTakes deal x k m → (requester.take (client_at x.clients m.client) m).out ≡ r ∷ []
    → Sends deal x (Deliver k) (kinds.ToVoter r)
answered deal x k m r t out =
    let is : slice_get (next deal x (Deliver k)).sent (length x.sent) ≡ Some (kinds.ToVoter r) =
    ap (λ ms. slice_get ms (length x.sent)) (t.sent ∙ ap (λ rs. x.sent ++ map kinds.ToVoter rs) out) ∙ get_next x.sent (kinds.ToVoter r) [] in
    record {
      place = length x.sent;
      least = omega arith;
      less = slice_get_within (next deal x (Deliver k)).sent (length x.sent) (kinds.ToVoter r) is;
      is = is;
    }
