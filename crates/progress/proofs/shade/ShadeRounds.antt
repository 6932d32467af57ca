-- Live rounds of moves are live rounds of steps in the shade, and what is counted in them is the same.
use Rattle.std.proofs.Common.{◌≡◌, ◌≢◌, ℕ, ◌+◌, ◌-◌, ◌<◌, ◌≤◌, true, false, List, [], ◌∷◌, ◌++◌, length, Option, Some, None, refl, sym, ap, subst, ◌∙◌, arith, append_assoc, length-append}
use Rattle.std.specs.Prelude.{◌&&◌, nat_lt, slice_get, if◌then◌else◌}
use Rattle.std.specs.List.{Contains}
use Rattle.std.proofs.lemmas.Bool.{false_from_ne_true}
use Rattle.std.proofs.lemmas.Bool.Decides.{nat_tests}
use Rattle.std.proofs.lemmas.List.Elements.{Contains-append_right}
use Rattle.message.specs.declared.message.Message.{Message}
use Rattle.message.specs.declared.message.Message.TheVariants as kinds
use Rattle.message.specs.declared.message.VoterBody.{VoterBody}
use Rattle.message.specs.declared.message.VoterBody.TheVariants as asks
use Rattle.voter.specs.declared.state.Grant.{Grant}
use Rattle.voter.specs.declared.state.VoterState.{VoterState}
use Rattle.voter.specs.VoterContract.{IsEntry}
use Rattle.requester.specs.declared.state.ClientState.{ClientState}
use Rattle.requester.specs.Words.{holds, is_asking, is_inside, is_member}
use Rattle.world_state.specs.declared.step.Event.{Event}
use Rattle.world_state.specs.declared.step.Step.{Step}
use Rattle.world_state.specs.declared.step.Step.TheVariants.{Ask, Deliver, Leave, GiveUp, RemindClient, RemindVoter, Exchange}
use Rattle.world.specs.Restarts.{maker}
use Rattle.world.specs.Runs.{run_of}
use Rattle.world_state.specs.Steps.{Dealing, WorldState, client_at, voter_at}
use Rattle.progress.specs.LiveRounds.{AreLiveRounds, Drops, IsAnswered, IsLiveRound, IsReminded, IsServed, is_between}
use Rattle.progress.specs.Moves.{EachMove, Goes, LetsGo, Move, hasty_among_from, hasty_moves, late_among, move, moved, moves_of, of_moves, of_steps, release_of, steps_among}
use Rattle.progress.specs.Patience.{hasty, hasty_from, hasty_steps}
use Rattle.progress.specs.Rounds.{DoesNotGiveUp, give_up, give_ups_in, late_body, late_in, late_message, late_step, late_steps, steps_of}
use Rattle.progress.proofs.run.Along.{contains_split}
use Rattle.progress.proofs.rounds.Longer.{contains_here}
use Rattle.progress.proofs.rounds.Parts.{none_late}
use Rattle.progress.proofs.shade.Shade.{Allows, Shades, Shading, each_split, extra, freed, freed_is, get_after, get_before, get_shade, image, images, images-append, images-one, moved_then, moves_on, moves_once, place, shifted, stands}
use Rattle.progress.proofs.invariants.Sure.{Course}

-- ---- a step among these moves, and where it is in the shade

record Cut (k : Shading) (p : Course) (a b : List Event) (w s : WorldState) (moves first rest : List Move) (t : Step) : Type 0 where
  before : Shades k p a b (moved p.deal first w) (run_of p.deal (images k p.deal w first) s)
  then_on : Shades k p a b (moved p.deal (first ++ Goes t ∷ []) w) (run_of p.deal (images k p.deal w first ++ shifted (length (extra k)) t ∷ []) s)
  allow : EachMove (Allows k p.deal) p.deal (moved p.deal (first ++ Goes t ∷ []) w) rest
  split : images k p.deal w moves ≡ images k p.deal w first ++ shifted (length (extra k)) t ∷ images k p.deal (moved p.deal (first ++ Goes t ∷ []) w) rest

cut : (k : Shading) (p : Course) (a b : List Event) (w s : WorldState) → Shades k p a b w s → (moves first rest : List Move) (t : Step) → EachMove (Allows k p.deal) p.deal w moves → moves ≡ first ++ Goes t ∷ rest
    → Cut k p a b w s moves first rest t
cut k p a b w s h moves first rest t allow is =
    let deal = p.deal in
    let one = Goes t ∷ [] in
    let whole : moves ≡ (first ++ one) ++ rest = is ∙ sym (append_assoc first one rest) in
    let parts = each_split (Allows k deal) deal (first ++ one) rest w (subst (EachMove (Allows k deal) deal w) whole allow) in
    let firsts = each_split (Allows k deal) deal first one w parts.0 in
    let begin : images k deal w (first ++ one) ≡ images k deal w first ++ shifted (length (extra k)) t ∷ [] =
    images-append k deal first one w ∙ ap (λ l. images k deal w first ++ l) (images-one k deal (moved deal first w) t) in
    let u = moved deal (first ++ one) w in
    record {
      before = moves_on k p a b first w s h firsts.0;
      then_on = subst (λ l. Shades k p a b u (run_of deal l s)) begin (moves_on k p a b (first ++ one) w s h parts.0);
      allow = parts.1;
      split = ap (images k deal w) whole ∙ images-append k deal (first ++ one) rest w ∙ ap (λ l. l ++ images k deal u rest) begin
          ∙ append_assoc (images k deal w first) (shifted (length (extra k)) t ∷ []) (images k deal u rest);
    }

contains_image : (k : Shading) (deal : Dealing) (w : WorldState) (moves : List Move) (t : Step) → Contains moves (Goes t) → Contains (images k deal w moves) (shifted (length (extra k)) t)
unfolding images image
contains_image k deal w moves t there =
    let parts = contains_split moves (Goes t) there in
    let begin = images k deal w parts.0 in
    let rest = images k deal (moved deal parts.0 w) (Goes t ∷ parts.1) in
    subst (λ l. Contains l (shifted (length (extra k)) t)) (sym (ap (images k deal w) parts.2 ∙ images-append k deal parts.0 (Goes t ∷ parts.1) w))
    (Contains-append_right begin rest (shifted (length (extra k)) t) (contains_here (shifted (length (extra k)) t) (shifted (length (extra k)) t) _ refl))

-- a message between live ones that is sent on this step
record SentLive (k : Shading) (y t u z : WorldState) (j : ℕ) : Type 0 where
  number : ℕ
  is : length (extra k) + number ≡ j
  least : length y.sent ≤ number
  between : is_between k.live (slice_get u.sent number) ≡ true

sent_in : (k : Shading) (p : Course) (a b : List Event) (y t u z : WorldState) → Shades k p a b y t → Shades k p a b u z → (j : ℕ) → length t.sent ≤ j → is_between k.live (slice_get z.sent j) ≡ true → SentLive k y t u z j
sent_in k p a b y t u z h g j least between =
    let n = length (extra k) in
    let many : length t.sent ≡ n + length y.sent = ap length h.shade.sent ∙ length-append (extra k) y.sent in
    let is : n + (j - n) ≡ j = omega arith in
    record {
      number = j - n;
      is = is;
      least = omega arith;
      between = ap (is_between k.live) (sym (get_shade k a b u z g.shade (j - n)) ∙ ap (slice_get z.sent) is) ∙ between;
    }

answered_shade : (k : Shading) (p : Course) (a b : List Event) (w s : WorldState) → Shades k p a b w s → (moves : List Move) (i : ℕ) → EachMove (Allows k p.deal) p.deal w moves
    → IsAnswered of_moves k.live p.deal w moves i → IsAnswered of_steps k.live p.deal s (images k p.deal w moves) (length (extra k) + i)
unfolding shifted
answered_shade k p a b w s h moves i allow q =
    let deal = p.deal in
    let c = cut k p a b w s h moves q.first q.rest (Deliver i) allow q.split in
    let u = moved deal (q.first ++ Goes (Deliver i) ∷ []) w in
    record {
      first = images k deal w q.first;
      rest = images k deal u q.rest;
      split = c.split;
      answers = λ j least between.
          let m = sent_in k p a b _ _ _ _ c.before c.then_on j least between in
          subst (λ l. Contains (images k deal u q.rest) (Deliver l)) m.is (contains_image k deal u q.rest (Deliver m.number) (q.answers m.number m.least m.between));
    }

reminded_shade : (k : Shading) (p : Course) (a b : List Event) (w s : WorldState) → Shades k p a b w s → (moves : List Move) (t : Step) → EachMove (Allows k p.deal) p.deal w moves
    → IsReminded of_moves k.live p.deal w moves t → IsReminded of_steps k.live p.deal s (images k p.deal w moves) (shifted (length (extra k)) t)
reminded_shade k p a b w s h moves t allow q =
    let deal = p.deal in
    let c = cut k p a b w s h moves q.first q.rest t allow q.split in
    let u = moved deal (q.first ++ Goes t ∷ []) w in
    record {
      first = images k deal w q.first;
      rest = images k deal u q.rest;
      split = c.split;
      arrive = λ j least between.
          let m = sent_in k p a b _ _ _ _ c.before c.then_on j least between in
          subst (IsAnswered of_steps k.live deal (run_of deal (images k deal w q.first ++ shifted (length (extra k)) t ∷ []) s) (images k deal u q.rest)) m.is
          (answered_shade k p a b u _ c.then_on q.rest m.number c.allow (q.arrive m.number m.least m.between));
    }

drops_shade : (k : Shading) (p : Course) (a b : List Event) (w s : WorldState) → Shades k p a b w s → (moves : List Move) (v c t : ℕ) → EachMove (Allows k p.deal) p.deal w moves
    → Drops of_moves p.deal w moves v c t → Drops of_steps p.deal s (images k p.deal w moves) v c t
drops_shade k p a b w s h moves v c t allow d =
    let deal = p.deal in
    let firsts = (each_split (Allows k deal) deal d.first d.rest w (subst (EachMove (Allows k deal) deal w) d.split allow)).0 in
    record {
      first = images k deal w d.first;
      rest = images k deal (moved deal d.first w) d.rest;
      split = ap (images k deal w) d.split ∙ images-append k deal d.first d.rest w;
      over = λ entry. d.over (subst (λ (vs : List VoterState). IsEntry (voter_at vs v) c t) (moves_on k p a b d.first w s h firsts).shade.voters entry);
    }

served_shade : (k : Shading) (p : Course) (a b : List Event) (w s : WorldState) → Shades k p a b w s → (moves : List Move) (v : ℕ) → EachMove (Allows k p.deal) p.deal w moves
    → IsServed of_moves k.live p.deal w moves v → IsServed of_steps k.live p.deal s (images k p.deal w moves) v
unfolding reminded_shade images image shifted
served_shade k p a b w s h moves v allow q =
    let deal = p.deal in
    let t = RemindVoter v in
    let first = q.reminded.first in
    let rest = q.reminded.rest in
    let y = moved deal first w in
    let c = cut k p a b w s h moves first rest t allow q.reminded.split in
    let later = (each_split (Allows k deal) deal first (Goes t ∷ rest) w (subst (EachMove (Allows k deal) deal w) q.reminded.split allow)).1 in
    record {
      reminded = reminded_shade k p a b w s h moves t allow q.reminded;
      drops = λ g held gone. subst (λ (x : WorldState). Drops of_steps deal (run_of deal (images k deal w first) s) (t ∷ images k deal x rest) v g.client g.stamp) (sym (moved_then deal first (Goes t ∷ []) w))
          (drops_shade k p a b y _ c.before (Goes t ∷ rest) v g.client g.stamp later (q.drops g (ap (λ (vs : List VoterState). (voter_at vs v).held) (sym c.before.shade.voters) ∙ held) gone));
    }

live_round_shade : (k : Shading) (p : Course) (a b : List Event) (w s : WorldState) → Shades k p a b w s → (moves : List Move) → EachMove (Allows k p.deal) p.deal w moves
    → IsLiveRound of_moves k.live p.deal w moves → IsLiveRound of_steps k.live p.deal s (images k p.deal w moves)
unfolding shifted
live_round_shade k p a b w s h moves allow q =
    let deal = p.deal in
    let same : (c : ℕ) → k.live.client c ≡ true → client_at s.clients c ≡ client_at w.clients c = λ c lives. h.shade.same c (k.apart c lives) in
    let end : (c : ℕ) → k.live.client c ≡ true → client_at (run_of deal (images k deal w moves) s).clients c ≡ client_at (moved deal moves w).clients c =
    λ c lives. (moves_on k p a b moves w s h allow).shade.same c (k.apart c lives) in
    record {
      clients = λ c within lives. reminded_shade k p a b w s h moves (RemindClient c) allow (q.clients c (subst (λ n. c < n) h.shade.clients within) lives);
      voters = λ v within lives. served_shade k p a b w s h moves v allow (q.voters v (subst (λ (vs : List VoterState). v < length vs) h.shade.voters within) lives);
      leaves = λ c lives inside. contains_image k deal w moves (Leave c) (q.leaves c lives (subst (λ (x : ClientState). is_inside x.phase ≡ true) (same c lives) inside));
      ends = λ c lives stuck on. q.ends c lives (record {
        asks = subst (λ (x : ClientState). is_asking x.phase ≡ true) (same c lives) stuck.asks;
        voter = stuck.voter;
        member = subst (λ (x : ClientState). is_member x stuck.voter ≡ true) (same c lives) stuck.member;
        lacks = subst (λ (x : ClientState). holds x stuck.voter ≡ false) (same c lives) stuck.lacks;
        down = stuck.down;
      }) (record {
        asks = subst (λ (x : ClientState). is_asking x.phase ≡ true) (end c lives) on.asks;
        same = sym (ap (λ (x : ClientState). x.stamp) (end c lives)) ∙ on.same ∙ ap (λ (x : ClientState). x.stamp) (same c lives);
      });
    }

-- ---- rounds

pub all_images : Shading → Dealing → WorldState → List (List Move) → List (List Step)
all_images k deal w [] = []
all_images k deal w (r ∷ rs) = images k deal w r ∷ all_images k deal (moved deal r w) rs

pub steps_images : (k : Shading) (deal : Dealing) (w : WorldState) (rounds : List (List Move)) → steps_of (all_images k deal w rounds) ≡ images k deal w (moves_of rounds)
unfolding all_images images
steps_images k deal w [] = refl
steps_images k deal w (r ∷ rs) = ap (λ l. images k deal w r ++ l) (steps_images k deal (moved deal r w) rs) ∙ sym (images-append k deal r (moves_of rs) w)

pub length_images : (k : Shading) (deal : Dealing) (w : WorldState) (rounds : List (List Move)) → length (all_images k deal w rounds) ≡ length rounds
unfolding all_images
length_images k deal w [] = refl
length_images k deal w (r ∷ rs) = (let rest = length_images k deal (moved deal r w) rs in omega arith)

pub live_rounds_shade : (k : Shading) (p : Course) (a b : List Event) (rounds : List (List Move)) (w s : WorldState) → Shades k p a b w s → EachMove (Allows k p.deal) p.deal w (moves_of rounds)
    → AreLiveRounds of_moves k.live p.deal w rounds → AreLiveRounds of_steps k.live p.deal s (all_images k p.deal w rounds)
unfolding all_images
live_rounds_shade k p a b [] w s h allow q = tt
live_rounds_shade k p a b (r ∷ rs) w s h allow q =
    let parts = each_split (Allows k p.deal) p.deal r (moves_of rs) w allow in
    (live_round_shade k p a b w s h r parts.0 q.0, live_rounds_shade k p a b rs (moved p.deal r w) (run_of p.deal (images k p.deal w r) s) (moves_on k p a b r w s h parts.0) parts.1 q.1)

-- ---- late REQUESTs

same_less : (n i old : ℕ) → nat_lt (n + i) (n + old) ≡ nat_lt i old
same_less n i old = grind (arith, nat_tests)

late_body_shade : (n old i : ℕ) (body : VoterBody) → late_body (n + old) (n + i) body ≡ late_body old i body
late_body_shade n old i (asks.Request t) = ap (λ b. if b then 1 else 0) (same_less n i old)
late_body_shade n old i (asks.Relinquish g) = refl
late_body_shade n old i (asks.Release t) = refl

late_message_shade : (n old i : ℕ) (o : Option Message) → late_message (n + old) (n + i) o ≡ late_message old i o
late_message_shade n old i None = refl
late_message_shade n old i (Some (kinds.ToVoter m)) = late_body_shade n old i m.body
late_message_shade n old i (Some (kinds.ToClient m)) = refl

late_step_shade : (k : Shading) (old : ℕ) (sent : List Message) (t : Step) → late_step (length (extra k) + old) (extra k ++ sent) (shifted (length (extra k)) t) ≡ late_step old sent t
unfolding shifted
late_step_shade k old sent (Ask c) = refl
late_step_shade k old sent (Deliver i) = ap (late_message (length (extra k) + old) (length (extra k) + i)) (get_after (extra k) sent i) ∙ late_message_shade (length (extra k)) old i (slice_get sent i)
late_step_shade k old sent (Leave c) = refl
late_step_shade k old sent (GiveUp c) = refl
late_step_shade k old sent (RemindClient c) = refl
late_step_shade k old sent (RemindVoter v) = refl
late_step_shade k old sent Exchange = refl

-- a RELEASE is no late REQUEST
late_freed : (k : Shading) (p : Course) (a b : List Event) (w s : WorldState) → Shades k p a b w s → (old : ℕ) (sent : List Message) (v : ℕ) (held : Option Grant) (steps : List Step) → (voter_at w.voters v).held ≡ held
    → ((g : Grant) → held ≡ Some g → k.live.client g.client ≡ false) → late_steps old (extra k ++ sent) (freed k v held ++ steps) ≡ late_steps old (extra k ++ sent) steps
unfolding freed
late_freed k p a b w s h old sent v None steps is gone = refl
late_freed k p a b w s h old sent v (Some g) steps is gone =
    let j = place k g.client v g.stamp in
    let here = get_before (extra k) sent j (kinds.ToVoter (release_of v g)) (freed_is k a b w s h.shade (h.sure []).coherent (stands k p a b w s h) v g is (gone g refl)) in
    let none = ap (late_message old j) here in
    omega (arith, none)

late_moves_shade : (k : Shading) (p : Course) (a b : List Event) (old : ℕ) (sent : List Message) (moves : List Move) (w s : WorldState) → Shades k p a b w s → EachMove (Allows k p.deal) p.deal w moves
    → late_steps (length (extra k) + old) (extra k ++ sent) (images k p.deal w moves) ≡ late_steps old sent (steps_among moves)
unfolding images image
late_moves_shade k p a b old sent [] w s h allow = refl
late_moves_shade k p a b old sent (Goes t ∷ moves) w s h allow =
    let first = late_step_shade k old sent t in
    let rest = late_moves_shade k p a b old sent moves _ _ (moves_once k p a b w s h (Goes t) allow.0) allow.1 in
    omega (arith, first, rest)
late_moves_shade k p a b old sent (LetsGo v ∷ moves) w s h allow =
    late_freed k p a b w s h (length (extra k) + old) sent v (voter_at w.voters v).held (images k p.deal (move p.deal w (LetsGo v)) moves) refl allow.0.spares
    ∙ late_moves_shade k p a b old sent moves _ _ (moves_once k p a b w s h (LetsGo v) allow.0) allow.1

late_from_shade : (k : Shading) (p : Course) (a b : List Event) (old : ℕ) (rounds : List (List Move)) (w s : WorldState) → Shades k p a b w s → EachMove (Allows k p.deal) p.deal w (moves_of rounds)
    → late_in p.deal (length (extra k) + old) s (all_images k p.deal w rounds) ≡ late_among p.deal old w rounds
unfolding all_images
late_from_shade k p a b old [] w s h allow = refl
late_from_shade k p a b old (r ∷ rs) w s h allow =
    let deal = p.deal in
    let parts = each_split (Allows k deal) deal r (moves_of rs) w allow in
    let first = ap (λ l. late_steps (length (extra k) + old) l (images k deal w r)) h.shade.sent ∙ late_moves_shade k p a b old w.sent r w s h parts.0 in
    let many : length s.sent ≡ length (extra k) + length w.sent = ap length h.shade.sent ∙ length-append (extra k) w.sent in
    let z = run_of deal (images k deal w r) s in
    let rest = ap (λ n. late_in deal n z (all_images k deal (moved deal r w) rs)) many ∙ late_from_shade k p a b (length w.sent) rs (moved deal r w) z (moves_on k p a b r w s h parts.0) parts.1 in
    omega (arith, first, rest)

-- in the first round none is late
pub late_shade : (k : Shading) (p : Course) (a b : List Event) (rounds : List (List Move)) (w s : WorldState) → Shades k p a b w s → EachMove (Allows k p.deal) p.deal w (moves_of rounds)
    → late_in p.deal 0 s (all_images k p.deal w rounds) ≡ late_among p.deal 0 w rounds
unfolding all_images
late_shade k p a b [] w s h allow = refl
late_shade k p a b (r ∷ rs) w s h allow =
    let deal = p.deal in
    let parts = each_split (Allows k deal) deal r (moves_of rs) w allow in
    let one = none_late s.sent (images k deal w r) in
    let two = none_late w.sent (steps_among r) in
    let many : length s.sent ≡ length (extra k) + length w.sent = ap length h.shade.sent ∙ length-append (extra k) w.sent in
    let z = run_of deal (images k deal w r) s in
    let rest = ap (λ n. late_in deal n z (all_images k deal (moved deal r w) rs)) many ∙ late_from_shade k p a b (length w.sent) rs (moved deal r w) z (moves_on k p a b r w s h parts.0) parts.1 in
    omega (arith, one, two, rest)

-- ---- withdrawals

freed_give_ups : (k : Shading) (v : ℕ) (held : Option Grant) (steps : List Step) → give_ups_in (freed k v held ++ steps) ≡ give_ups_in steps
unfolding freed
freed_give_ups k v None steps = refl
freed_give_ups k v (Some g) steps = omega arith

step_give_ups : (n : ℕ) (t : Step) → give_up (shifted n t) ≡ give_up t
unfolding shifted
step_give_ups n (Ask c) = refl
step_give_ups n (Deliver i) = refl
step_give_ups n (Leave c) = refl
step_give_ups n (GiveUp c) = refl
step_give_ups n (RemindClient c) = refl
step_give_ups n (RemindVoter v) = refl
step_give_ups n Exchange = refl

pub give_ups_shade : (k : Shading) (deal : Dealing) (moves : List Move) (w : WorldState) → give_ups_in (images k deal w moves) ≡ give_ups_in (steps_among moves)
unfolding images image
give_ups_shade k deal [] w = refl
give_ups_shade k deal (Goes t ∷ moves) w =
    let first = step_give_ups (length (extra k)) t in
    let rest = give_ups_shade k deal moves (move deal w (Goes t)) in
    omega (arith, first, rest)
give_ups_shade k deal (LetsGo v ∷ moves) w = freed_give_ups k v (voter_at w.voters v).held (images k deal (move deal w (LetsGo v)) moves) ∙ give_ups_shade k deal moves (move deal w (LetsGo v))

abbrev IsDelivery : Step → Type 0
IsDelivery (Ask d) = ⊥
IsDelivery (Deliver i) = Unit {0}
IsDelivery (Leave d) = ⊥
IsDelivery (GiveUp d) = ⊥
IsDelivery (RemindClient d) = ⊥
IsDelivery (RemindVoter v) = ⊥
IsDelivery Exchange = ⊥

-- the step of which this is the image
back_from : (n c : ℕ) (t : Step) → shifted n t ≡ GiveUp c → t ≡ GiveUp c
unfolding shifted
back_from n c (Ask d) same = same
back_from n c (Deliver i) same = absurd (subst IsDelivery same tt)
back_from n c (Leave d) same = same
back_from n c (GiveUp d) same = same
back_from n c (RemindClient d) same = same
back_from n c (RemindVoter v) same = same
back_from n c Exchange same = same

freed_stays : (k : Shading) (c v : ℕ) (held : Option Grant) (steps : List Step) → DoesNotGiveUp c steps → DoesNotGiveUp c (freed k v held ++ steps)
unfolding freed
freed_stays k c v None steps stays = stays
freed_stays k c v (Some g) steps stays = ((λ same. absurd (subst IsDelivery same tt)), stays)

pub stays_shade : (k : Shading) (deal : Dealing) (c : ℕ) (moves : List Move) (w : WorldState) → DoesNotGiveUp c (steps_among moves) → DoesNotGiveUp c (images k deal w moves)
unfolding images image
stays_shade k deal c [] w stays = tt
stays_shade k deal c (Goes t ∷ moves) w stays = ((λ same. stays.0 (back_from (length (extra k)) c t same)), stays_shade k deal c moves (move deal w (Goes t)) stays.1)
stays_shade k deal c (LetsGo v ∷ moves) w stays = freed_stays k c v (voter_at w.voters v).held _ (stays_shade k deal c moves (move deal w (LetsGo v)) stays)

-- ---- hasty withdrawals

-- each client that is not dead is the same in both worlds
abbrev AreSame : Shading → WorldState → WorldState → Type 0
AreSame k w s = (c : ℕ) → k.dead c ≡ false → client_at s.clients c ≡ client_at w.clients c

hasty_step : (k : Shading) (u x v y : WorldState) → AreSame k u v → AreSame k x y → (t : Step) → ((c : ℕ) → k.dead c ≡ true → t ≢ GiveUp c) → hasty v y (shifted (length (extra k)) t) ≡ hasty u x t
unfolding shifted
hasty_step k u x v y before now (Ask c) others = refl
hasty_step k u x v y before now (Deliver i) others = refl
hasty_step k u x v y before now (Leave c) others = refl
hasty_step k u x v y before now (GiveUp c) others =
    let lives = false_from_ne_true (k.dead c) (λ is. others c is refl) in
    λ i. if is_asking (now c lives i).phase && nat_lt (before c lives i).stamp (now c lives i).stamp then 1 else 0
hasty_step k u x v y before now (RemindClient c) others = refl
hasty_step k u x v y before now (RemindVoter w) others = refl
hasty_step k u x v y before now Exchange others = refl

hasty_freed : (k : Shading) (deal : Dealing) (u s : WorldState) (v : ℕ) (held : Option Grant) (steps : List Step) → hasty_steps deal u s (freed k v held ++ steps) ≡ hasty_steps deal u (run_of deal (freed k v held) s) steps
unfolding freed
hasty_freed k deal u s v None steps = refl
hasty_freed k deal u s v (Some g) steps = omega arith

hasty_moves_shade : (k : Shading) (p : Course) (a b : List Event) (u v : WorldState) → AreSame k u v → (moves : List Move) (w s : WorldState) → Shades k p a b w s → EachMove (Allows k p.deal) p.deal w moves
    → hasty_steps p.deal v s (images k p.deal w moves) ≡ hasty_moves p.deal u w moves
unfolding images image
hasty_moves_shade k p a b u v before [] w s h allow = refl
hasty_moves_shade k p a b u v before (Goes t ∷ moves) w s h allow =
    let first = hasty_step k u w v s before h.shade.same t (λ c dead same. allow.0.rests c dead (ap (maker w) same)) in
    let rest = hasty_moves_shade k p a b u v before moves _ _ (moves_once k p a b w s h (Goes t) allow.0) allow.1 in
    omega (arith, first, rest)
hasty_moves_shade k p a b u v before (LetsGo i ∷ moves) w s h allow =
    hasty_freed k p.deal v s i (voter_at w.voters i).held (images k p.deal (move p.deal w (LetsGo i)) moves)
    ∙ hasty_moves_shade k p a b u v before moves _ _ (moves_once k p a b w s h (LetsGo i) allow.0) allow.1

pub hasty_shade : (k : Shading) (p : Course) (a b : List Event) (u u' v v' : WorldState) → AreSame k u u' → AreSame k v v' → (rounds : List (List Move)) (w s : WorldState) → Shades k p a b w s
    → EachMove (Allows k p.deal) p.deal w (moves_of rounds) → hasty_from p.deal u' v' s (all_images k p.deal w rounds) ≡ hasty_among_from p.deal u v w rounds
unfolding all_images
hasty_shade k p a b u u' v v' first second [] w s h allow = refl
hasty_shade k p a b u u' v v' first second (r ∷ rs) w s h allow =
    let deal = p.deal in
    let parts = each_split (Allows k deal) deal r (moves_of rs) w allow in
    let now = hasty_moves_shade k p a b u u' first r w s h parts.0 in
    let rest = hasty_shade k p a b v v' w s second h.shade.same rs (moved deal r w) (run_of deal (images k deal w r) s) (moves_on k p a b r w s h parts.0) parts.1 in
    omega (arith, now, rest)
