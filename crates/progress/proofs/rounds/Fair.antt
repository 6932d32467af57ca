-- fair rounds are live rounds in which everybody is live
use Rattle.std.proofs.Common.{◌≡◌, ℕ, zero, suc, ◌<◌, true, List, [], ◌∷◌, length, map, refl, sym, subst, ◌∙◌, arith}
use Rattle.std.specs.Prelude.{slice_get}
use Rattle.std.proofs.lemmas.Bool.{false≢true}
use Rattle.message.specs.declared.message.Message.{Message}
use Rattle.message.specs.declared.message.Message.TheVariants as kinds
use Rattle.world_state.specs.declared.step.Step.TheVariants.{Leave, RemindVoter}
use Rattle.world_state.specs.declared.step.Step.{Step}
use Rattle.world.specs.Runs.{run_of}
use Rattle.world.specs.WayIn.{HasGrants}
use Rattle.world_state.specs.Steps.{Dealing, WorldState}
use Rattle.progress.specs.LiveRounds.{AreLiveRounds, IsAnswered, IsLiveRound, IsReminded, IsServed, Live, everybody, is_between}
use Rattle.progress.specs.Moves.{Goes, all_go, of_moves, of_steps}
use Rattle.progress.specs.Rounds as fair
use Rattle.progress.proofs.rounds.Reminders.{goes_in, moved_steps, reminded_goes}
use Rattle.progress.proofs.invariants.Sure.{Course, Serving}

-- a message between live ones was sent
pub was_sent : (live : Live) (l : List Message) (j : ℕ) → is_between live (slice_get l j) ≡ true → j < length l
was_sent live [] j is = absurd (false≢true is)
was_sent live (m ∷ l) zero is = omega arith
was_sent live (m ∷ l) (suc j) is = (let rest = was_sent live l j is in omega arith)

answered : (live : Live) (deal : Dealing) (w : WorldState) (steps : List Step) (k : ℕ) → fair.IsAnswered deal w steps k → IsAnswered of_steps live deal w steps k
answered live deal w steps k h = record { first = h.first; rest = h.rest; split = h.split; answers = λ j least between. h.answers j least (was_sent live _ j between) }

reminded : (live : Live) (deal : Dealing) (w : WorldState) (steps : List Step) (s : Step) → fair.IsReminded deal w steps s → IsReminded of_steps live deal w steps s
reminded live deal w steps s h = record {
  first = h.first;
  rest = h.rest;
  split = h.split;
  arrive = λ k least between. answered live deal _ h.rest k (h.arrive k least (was_sent live _ k between));
}

-- with everybody live this is a fair round's reminder
is_sent : (l : List Message) (j : ℕ) → j < length l → is_between everybody (slice_get l j) ≡ true
is_sent [] j less = absurd (omega arith)
is_sent (kinds.ToVoter m ∷ l) zero less = refl
is_sent (kinds.ToClient m ∷ l) zero less = refl
is_sent (m ∷ l) (suc j) less = is_sent l j (omega arith)

fair_answered : (deal : Dealing) (w : WorldState) (steps : List Step) (k : ℕ) → IsAnswered of_steps everybody deal w steps k → fair.IsAnswered deal w steps k
fair_answered deal w steps k h = record { first = h.first; rest = h.rest; split = h.split; answers = λ j least less. h.answers j least (is_sent _ j less) }

pub fair_reminded : (deal : Dealing) (w : WorldState) (steps : List Step) (s : Step) → IsReminded of_steps everybody deal w steps s → fair.IsReminded deal w steps s
fair_reminded deal w steps s h = record { first = h.first; rest = h.rest; split = h.split; arrive = λ k least less. fair_answered deal _ h.rest k (h.arrive k least (is_sent _ k less)) }

served : (live : Live) (deal : Dealing) (w : WorldState) (steps : List Step) (v : ℕ) → ((c : ℕ) → live.client c ≡ true) → fair.IsReminded deal w steps (RemindVoter v) → IsServed of_steps live deal w steps v
served live deal w steps v all h = record {
  reminded = reminded live deal w steps (RemindVoter v) h;
  drops = λ g held dead. absurd (false≢true (sym dead ∙ all g.client));
}

fair_is_live : (live : Live) (deal : Dealing) (w : WorldState) (round : List Step) → ((c : ℕ) → live.client c ≡ true) → ((v : ℕ) → live.voter v ≡ true) → fair.IsFairRound deal w round
    → IsLiveRound of_steps live deal w round
fair_is_live live deal w round all up h = record {
  clients = λ c within _. reminded live deal w round _ (h.clients c within);
  voters = λ v within _. served live deal w round v all (h.voters v within);
  leaves = λ c _ inside. h.leaves c inside;
  ends = λ c _ stuck _. false≢true (sym stuck.down ∙ up stuck.voter);
}

pub fair_are_live : (live : Live) (deal : Dealing) (w : WorldState) (rounds : List (List Step)) → ((c : ℕ) → live.client c ≡ true) → ((v : ℕ) → live.voter v ≡ true) → fair.AreFairRounds deal w rounds
    → AreLiveRounds of_steps live deal w rounds
fair_are_live live deal w [] all up h = tt
fair_are_live live deal w (r ∷ rs) all up h = (fair_is_live live deal w r all up h.0, fair_are_live live deal (run_of deal r w) rs all up h.1)

-- rounds of steps, as rounds of moves
fair_goes : (live : Live) (deal : Dealing) (w : WorldState) (round : List Step) → ((c : ℕ) → live.client c ≡ true) → ((v : ℕ) → live.voter v ≡ true) → fair.IsFairRound deal w round → IsLiveRound of_moves live deal w (map Goes round)
fair_goes live deal w round all up h = record {
  clients = λ c within _. reminded_goes live deal w round _ (reminded live deal w round _ (h.clients c within));
  voters = λ v within _. record {
    reminded = reminded_goes live deal w round _ (reminded live deal w round _ (h.voters v within));
    drops = λ g held dead. absurd (false≢true (sym dead ∙ all g.client));
  };
  leaves = λ c _ inside. goes_in round (Leave c) (h.leaves c inside);
  ends = λ c _ stuck _. false≢true (sym stuck.down ∙ up stuck.voter);
}

pub fair_go : (live : Live) (deal : Dealing) (w : WorldState) (rounds : List (List Step)) → ((c : ℕ) → live.client c ≡ true) → ((v : ℕ) → live.voter v ≡ true) → fair.AreFairRounds deal w rounds
    → AreLiveRounds of_moves live deal w (all_go rounds)
fair_go live deal w [] all up h = tt
fair_go live deal w (r ∷ rs) all up h =
    (fair_goes live deal w r all up h.0, subst (λ (u : WorldState). AreLiveRounds of_moves live deal u (all_go rs)) (sym (moved_steps deal r w)) (fair_go live deal (run_of deal r w) rs all up h.1))

pub everybody_serves : (p : Course) (w z : WorldState) → ((c : ℕ) → p.live.client c ≡ true) → HasGrants 1 z → Serving p w z
everybody_serves p w z all left = record { grants = λ v within _. left v within; out = λ c dead. absurd (false≢true (sym dead ∙ all c)) }
