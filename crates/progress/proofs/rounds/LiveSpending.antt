-- how many grants of a voter the rounds of moves take that are made
use Rattle.std.proofs.Common.{◌≡◌, ℕ, zero, suc, ◌+◌, ◌-◌, ◌*◌, ◌<◌, Bool, true, false, eqb, List, [], ◌∷◌, ◌++◌, length, map, Option, None, Some, Result, Ok, Err, refl, sym, ap, subst, ◌∙◌, arith, length-append}
use Rattle.std.specs.Prelude.{if◌then◌else◌, slice_get}
use Rattle.std.proofs.lemmas.Bool.Decides.{nat_tests}
use Rattle.std.proofs.lemmas.List.{map-append}
use Rattle.message.specs.declared.message.Message.{Message}
use Rattle.message.specs.declared.message.Message.TheVariants as kinds
use Rattle.requester.specs.declared.fault.ClientFault.{ClientFault}
use Rattle.requester.specs.Steps as requester
use Rattle.voter.specs.declared.state.Grant.{Grant}
use Rattle.voter.specs.declared.state.VoterState.{VoterState}
use Rattle.world_state.specs.declared.step.Event.{Event}
use Rattle.world_state.specs.declared.step.Step.{Step}
use Rattle.world_state.specs.declared.step.Step.TheVariants.{Deliver, GiveUp, Leave, RemindClient, RemindVoter}
use Rattle.world.specs.Runs.{after, run_of}
use Rattle.world_state.specs.Steps.{Dealing, WorldState, after_client, if_client, step, voter_at}
use Rattle.progress.specs.LiveRounds.{Live, is_between}
use Rattle.progress.specs.Moves.{EachMove, Goes, LetsGo, Move, move, moved, release_of}
use Rattle.progress.specs.Rules.{Laws}
use Rattle.progress.proofs.run.Along.{next}
use Rattle.progress.proofs.rounds.LiveMaking.{all_dead, allows_round, allows_client, allows_voter, blocks, chosen, client_block, duties, frees, is_caught, remind_voters, round, served, voter_block}
use Rattle.progress.proofs.rounds.Making.{answer, answer_all, answer_if, arrivals, remind}
use Rattle.progress.proofs.rounds.Reminders.{moved_steps}
use Rattle.progress.proofs.shade.Shade.{Allows, IsShade, Shades, Shading, each_split, extra, freed, freed_is, get_after, get_before, image, images, moved_then, moves_on, moves_once, place, shifted, stands}
use Rattle.progress.proofs.rounds.Spending.{Reminds, Spends, Spends-self, Spends-then, Spent, count_from, delivers, one_at, one_from, reminds_client, reminds_voter, said_gives}
use Rattle.progress.proofs.invariants.Sure.{Course}

-- ---- arrivals in the shade

images_goes : (k : Shading) (deal : Dealing) (steps : List Step) (x : WorldState) → images k deal x (map Goes steps) ≡ map (shifted (length (extra k))) steps
unfolding images image
images_goes k deal [] x = refl
images_goes k deal (t ∷ steps) x = ap (λ l. shifted (length (extra k)) t ∷ l) (images_goes k deal steps (move deal x (Goes t)))

shift_arrivals : (k : Shading) (live : Live) (sent : List Message) (low n : ℕ) → map (shifted (length (extra k))) (arrivals live sent low n) ≡ arrivals live (extra k ++ sent) (length (extra k) + low) n
unfolding arrivals shifted
shift_arrivals k live sent low zero = refl
shift_arrivals k live sent low (suc n) =
    let m = length (extra k) in
    let rest = shift_arrivals k live sent (low + 1) n ∙ ap (λ i. arrivals live (extra k ++ sent) i n) (let e : m + (low + 1) ≡ m + low + 1 = omega arith in e) in
    subst (λ o. map (shifted m) ((if is_between live (slice_get sent low) then Deliver low ∷ [] else []) ++ arrivals live sent (low + 1) n)
    ≡ (if is_between live o then Deliver (m + low) ∷ [] else []) ++ arrivals live (extra k ++ sent) (m + low + 1) n) (sym (get_after (extra k) sent low))
    (elim (is_between live (slice_get sent low)) as (λ b. map (shifted m) ((if b then Deliver low ∷ [] else []) ++ arrivals live sent (low + 1) n) ≡ (if b then Deliver (m + low) ∷ [] else []) ++ arrivals live (extra k ++ sent) (m + low + 1) n) [
      | true ↦ ap (λ l. Deliver (m + low) ∷ l) rest
      | false ↦ rest
    ])

shade_long : (k : Shading) (a b : List Event) (x s : WorldState) → IsShade k a b x s → length s.sent ≡ length (extra k) + length x.sent
shade_long k a b x s h = ap length h.sent ∙ length-append (extra k) x.sent

shift_answer : (k : Shading) (p : Course) (a b : List Event) (live : Live) (u r : WorldState) → Shades k p a b u r → (i : ℕ) (t : Bool) → EachMove (Allows k p.deal) p.deal u (map Goes (answer_if t live p.deal u i))
    → map (shifted (length (extra k))) (answer_if t live p.deal u i) ≡ answer_if t live p.deal r (length (extra k) + i)
unfolding answer answer_if shifted image
shift_answer k p a b live u r h i false allow = refl
shift_answer k p a b live u r h i true allow =
    let deal = p.deal in
    let m = length (extra k) in
    let y = next deal u (Deliver i) in
    let z = next deal r (Deliver (m + i)) in
    let now : IsShade k a b y z = (moves_once k p a b u r h (Goes (Deliver i)) allow.0).shade in
    let long = shade_long k a b u r h.shade in
    let longer = shade_long k a b y z now in
    let same : length y.sent - length u.sent ≡ length z.sent - length r.sent = omega arith in
    ap (λ l. Deliver (m + i) ∷ l) (shift_arrivals k live y.sent (length u.sent) (length y.sent - length u.sent)
    ∙ (λ j. arrivals live (sym now.sent j) (sym long j) (same j)))

shift_answers : (k : Shading) (p : Course) (a b : List Event) (live : Live) (sent : List Message) (low n : ℕ) (u r : WorldState) → Shades k p a b u r → EachMove (Allows k p.deal) p.deal u (map Goes (answer_all live p.deal sent u low n))
    → map (shifted (length (extra k))) (answer_all live p.deal sent u low n) ≡ answer_all live p.deal (extra k ++ sent) r (length (extra k) + low) n
unfolding answer_all
shift_answers k p a b live sent low zero u r h allow = refl
shift_answers k p a b live sent low (suc n) u r h allow =
    let deal = p.deal in
    let m = length (extra k) in
    let t = is_between live (slice_get sent low) in
    let first = answer_if t live deal u low in
    let y = run_of deal first u in
    let rest = answer_all live deal sent y (low + 1) n in
    let parts = each_split (Allows k deal) deal (map Goes first) (map Goes rest) u (subst (EachMove (Allows k deal) deal u) (map-append Goes first rest) allow) in
    let here = shift_answer k p a b live u r h low t parts.0 in
    let z = run_of deal (answer_if t live deal r (m + low)) r in
    let at_y = subst (λ (x : WorldState). Shades k p a b x z) (moved_steps deal first u)
    (subst (λ l. Shades k p a b (moved deal (map Goes first) u) (run_of deal l r)) (images_goes k deal first u ∙ here) (moves_on k p a b (map Goes first) u r h parts.0)) in
    let more = shift_answers k p a b live sent (low + 1) n y z at_y (subst (λ (x : WorldState). EachMove (Allows k deal) deal x (map Goes rest)) (moved_steps deal first u) parts.1) in
    map-append (shifted m) first rest ∙ (λ j. here j ++ more j)
    ∙ subst (λ o. answer_if t live deal r (m + low) ++ answer_all live deal (extra k ++ sent) z (m + (low + 1)) n
    ≡ answer_if (is_between live o) live deal r (m + low) ++ answer_all live deal (extra k ++ sent) (run_of deal (answer_if (is_between live o) live deal r (m + low)) r) (m + low + 1) n) (sym (get_after (extra k) sent low))
    (ap (λ i. answer_if t live deal r (m + low) ++ answer_all live deal (extra k ++ sent) z i n) (let e : m + (low + 1) ≡ m + low + 1 = omega arith in e))

-- ---- a block

spent_real : (k : Shading) (a b : List Event) (n v : ℕ) (x y s t : WorldState) → IsShade k a b x s → IsShade k a b y t → Spent n v s t → Spent n v x y
spent_real k a b n v x y s t h g spent = subst (λ (vs : List VoterState). Spends n (voter_at vs v) (voter_at y.voters v)) h.voters (subst (λ (vs : List VoterState). Spends n (voter_at s.voters v) (voter_at vs v)) g.voters spent)

-- a reminder is made, perhaps a grant is let go, and the messages between live ones arrive
block_gives : (laws : Laws) (k : Shading) (p : Course) (a b : List Event) (live : Live) (x s : WorldState) → Shades k p a b x s → (n m v : ℕ) (t : Step) (free : List Move)
    → EachMove (Allows k p.deal) p.deal x (Goes t ∷ (free ++ map Goes (answer_all live p.deal (next p.deal x t).sent (moved p.deal free (next p.deal x t)) (length x.sent) (length (next p.deal x t).sent - length x.sent))))
    → Reminds n v s (next p.deal s (shifted (length (extra k)) t))
    → Spent m v (next p.deal s (shifted (length (extra k)) t)) (run_of p.deal (images k p.deal (next p.deal x t) free) (next p.deal s (shifted (length (extra k)) t)))
    → Spent (n + m) v x (moved p.deal (Goes t ∷ (free ++ map Goes (answer_all live p.deal (next p.deal x t).sent (moved p.deal free (next p.deal x t)) (length x.sent) (length (next p.deal x t).sent - length x.sent)))) x)
unfolding image
block_gives laws k p a b live x s h n m v t free allow reminds spent =
    let deal = p.deal in
    let y = next deal x t in
    let u = moved deal free y in
    let answers = answer_all live deal y.sent u (length x.sent) (length y.sent - length x.sent) in
    let tt' = shifted (length (extra k)) t in
    let z = next deal s tt' in
    let at_y : Shades k p a b y z = moves_once k p a b x s h (Goes t) allow.0 in
    let parts = each_split (Allows k deal) deal free (map Goes answers) y allow.1 in
    let r = run_of deal (images k deal y free) z in
    let at_u = moves_on k p a b free y z at_y parts.0 in
    let end = moves_on k p a b (map Goes answers) u r at_u parts.1 in
    let long = shade_long k a b x s h.shade in
    let longer = shade_long k a b y z at_y.shade in
    let same : length y.sent - length x.sent ≡ length z.sent - length s.sent = omega arith in
    let steps : images k deal u (map Goes answers) ≡ answer_all live deal z.sent r (length s.sent) (length z.sent - length s.sent) = images_goes k deal answers u
    ∙ shift_answers k p a b live y.sent (length x.sent) (length y.sent - length x.sent) u r at_u parts.1 ∙ (λ j. answer_all live deal (sym at_y.shade.sent j) r (sym long j) (same j)) in
    let gives = said_gives laws p live n m v s tt' (images k deal y free) h.sure reminds spent in
    let done = subst (λ l. Spent (n + m) v s (run_of deal l r)) (sym steps) gives in
    subst (Spent (n + m) v x) (sym (moved_then deal free (map Goes answers) y)) (spent_real k a b (n + m) v x (moved deal (map Goes answers) u) s (run_of deal (images k deal u (map Goes answers)) r) h.shade end.shade done)

client_gives : (laws : Laws) (live : Live) (first : WorldState) (p : Course) (a b : List Event) (v : ℕ) (x s : WorldState) → Shades (all_dead live first) p a b x s → (c : ℕ) → Spent 2 v x (moved p.deal (client_block live p.deal x c) x)
unfolding client_block remind shifted images
client_gives laws live first p a b v x s h c =
    let k = all_dead live first in
    let deal = p.deal in
    let block = Goes (RemindClient c) ∷ map Goes (answer_all live deal (next deal x (RemindClient c)).sent (next deal x (RemindClient c)) (length x.sent) (length (next deal x (RemindClient c)).sent - length x.sent)) in
    elim (live.client c) as (λ t. EachMove (Allows k deal) deal x (if t then block else []) → Spent 2 v x (moved deal (if t then block else []) x)) [
      | true ↦ λ allow. block_gives laws k p a b live x s h 2 0 v (RemindClient c) [] allow (reminds_client p (λ d. true) s c v h.sure (λ d asks. refl)) (Spends-self 0 (voter_at (next deal s (RemindClient c)).voters v))
      | false ↦ λ _. Spends-self 2 (voter_at x.voters v)
    ] (allows_client live first deal x c)

-- a grant that is let go takes at most one more
frees_give : (laws : Laws) (live : Live) (first : WorldState) (p : Course) (a b : List Event) (v u : ℕ) (x s : WorldState) → Shades (all_dead live first) p a b x s → (held : Option Grant) → (voter_at x.voters u).held ≡ held
    → Spent (one_at v u) v s (run_of p.deal (images (all_dead live first) p.deal x (frees live u held)) s)
unfolding frees images image freed all_dead
frees_give laws live first p a b v u x s h None is = Spends-self (one_at v u) (voter_at s.voters v)
frees_give laws live first p a b v u x s h (Some g) is =
    let k = all_dead live first in
    elim (live.client g.client) as (λ t. live.client g.client ≡ t → Spent (one_at v u) v s (run_of p.deal (images k p.deal x (if t then [] else LetsGo u ∷ [])) s)) [
      | true ↦ λ _. Spends-self (one_at v u) (voter_at s.voters v)
      | false ↦ λ gone.
          let j = place k g.client u g.stamp in
          let there = ap (λ l. slice_get l j) h.shade.sent ∙ get_before (extra k) x.sent j (kinds.ToVoter (release_of u g)) (freed_is k a b x s h.shade (h.sure []).coherent (stands k p a b x s h) u g is gone) in
          subst (λ o. Spent (one_at v u) v s (run_of p.deal (freed k u o ++ []) s)) (sym is) (delivers laws p s j v (kinds.ToVoter (release_of u g)) h.sure there)
    ] refl

voter_gives : (laws : Laws) (live : Live) (first : WorldState) (p : Course) (a b : List Event) (v u : ℕ) (x s : WorldState) → Shades (all_dead live first) p a b x s → u < length x.voters → Spent (3 * one_at v u) v x (moved p.deal (voter_block live p.deal x u) x)
unfolding voter_block served shifted image
voter_gives laws live first p a b v u x s h within =
    let k = all_dead live first in
    let deal = p.deal in
    let t = RemindVoter u in
    let free = frees live u (voter_at x.voters u).held in
    let block = Goes t ∷ served live deal x u in
    elim (live.voter u) as (λ up. EachMove (Allows k deal) deal x (if up then block else []) → Spent (3 * one_at v u) v x (moved deal (if up then block else []) x)) [
      | true ↦ λ allow.
          let y = next deal x t in
          let z = next deal s t in
          let at_y : Shades k p a b y z = moves_once k p a b x s h (Goes t) allow.0 in
          let spent = frees_give laws live first p a b v u y z at_y (voter_at x.voters u).held (ap (λ (vs : List VoterState). (voter_at vs u).held) (remind_voters deal x u)) in
          let gives = block_gives laws k p a b live x s h (2 * one_at v u) (one_at v u) v t free allow (reminds_voter p s u v h.sure (subst (λ (vs : List VoterState). u < length vs) (sym h.shade.voters) within)) spent in
          record { granted = (let few = gives.granted in omega arith); limit = gives.limit }
      | false ↦ λ _. Spends-self (3 * one_at v u) (voter_at x.voters v)
    ] (allows_voter live first deal x u)

-- ---- a round

sum_from : (ℕ → ℕ) → ℕ → ℕ → ℕ
sum_from g low zero = 0
sum_from g low (suc n) = g low + sum_from g (low + 1) n

-- each block takes so many grants at most
blocks_give : (live : Live) (first : WorldState) (p : Course) (a b : List Event) (v : ℕ) (f : WorldState → ℕ → List Move) (g : ℕ → ℕ) → ((x : WorldState) (i : ℕ) → EachMove (Allows (all_dead live first) p.deal) p.deal x (f x i)) → (low n : ℕ)
    → ((x s : WorldState) → Shades (all_dead live first) p a b x s → (i : ℕ) → i < low + n → Spent (g i) v x (moved p.deal (f x i) x)) → (x s : WorldState) → Shades (all_dead live first) p a b x s
    → Spent (sum_from g low n) v x (moved p.deal (blocks p.deal f low n x) x)
unfolding blocks sum_from
blocks_give live first p a b v f g allow low zero gives x s h = Spends-self 0 (voter_at x.voters v)
blocks_give live first p a b v f g allow low (suc n) gives x s h =
    let k = all_dead live first in
    let deal = p.deal in
    let y = moved deal (f x low) x in
    let at_y = moves_on k p a b (f x low) x s h (allow x low) in
    let rest = blocks deal f (low + 1) n y in
    subst (Spent (g low + sum_from g (low + 1) n) v x) (sym (moved_then deal (f x low) rest x))
    (Spends-then (g low) (sum_from g (low + 1) n) (g low + sum_from g (low + 1) n) (voter_at x.voters v) (voter_at y.voters v) (voter_at (moved deal rest y).voters v) (omega arith)
    (gives x s h low (omega arith)) (blocks_give live first p a b v f g allow (low + 1) n (λ u t at_u i less. gives u t at_u i (omega arith)) y _ at_y))

twice_from : (low n : ℕ) → sum_from (λ c. 2) low n ≡ 2 * n
unfolding sum_from
twice_from low zero = omega arith
twice_from low (suc n) = (let rest = twice_from (low + 1) n in omega arith)

own_from : (v low n : ℕ) → sum_from (λ u. 3 * one_at v u) low n ≡ 3 * count_from (λ u. eqb u v) low n
unfolding sum_from
own_from v low zero = omega arith
own_from v low (suc n) = (let rest = own_from v (low + 1) n in omega arith)

-- a call changes no voter
call_voters : (x : WorldState) (c : ℕ) (r : Result requester.Outcome ClientFault) → (after x (after_client x c r)).voters ≡ x.voters
call_voters x c (Ok o) = refl
call_voters x c (Err fault) = refl

if_voters : (x : WorldState) (t : Bool) (c : ℕ) (r : Result requester.Outcome ClientFault) → (after x (if_client t c (after_client x c r))).voters ≡ x.voters
if_voters x true c r = call_voters x c r
if_voters x false c r = refl

leave_voters : (deal : Dealing) (x : WorldState) (c : ℕ) → (next deal x (Leave c)).voters ≡ x.voters
unfolding step
leave_voters deal x c = if_voters x _ c _

quit_voters : (deal : Dealing) (x : WorldState) (c : ℕ) → (next deal x (GiveUp c)).voters ≡ x.voters
unfolding step
quit_voters deal x c = if_voters x _ c _

chosen_voters : (deal : Dealing) (test : ℕ → Bool) (f : ℕ → Step) → ((x : WorldState) (c : ℕ) → (next deal x (f c)).voters ≡ x.voters) → (n : ℕ) (x : WorldState) → (moved deal (chosen test f n) x).voters ≡ x.voters
unfolding chosen
chosen_voters deal test f same zero x = refl
chosen_voters deal test f same (suc n) x =
    let y = moved deal (chosen test f n) x in
    ap (λ (u : WorldState). u.voters) (moved_then deal (chosen test f n) (if test n then Goes (f n) ∷ [] else []) x)
    ∙ elim (test n) as (λ b. (moved deal (if b then Goes (f n) ∷ [] else []) y).voters ≡ y.voters) [ true ↦ same y n | false ↦ refl ]
    ∙ chosen_voters deal test f same n x

-- a round takes at most 2 n + 3 grants of a voter, for n clients
pub round_gives : (laws : Laws) (live : Live) (first : WorldState) (p : Course) (a b : List Event) (v : ℕ) (w s : WorldState) → Shades (all_dead live first) p a b w s
    → Spent (2 * length w.clients + 3) v w (moved p.deal (round live p.deal w) w)
unfolding round duties
round_gives laws live first p a b v w s h =
    let k = all_dead live first in
    let deal = p.deal in
    let n = length w.clients in
    let quit = chosen (is_caught live w) GiveUp n in
    let x = moved deal quit w in
    let cut = each_split (Allows k deal) deal quit (duties live deal x) w (allows_round live first deal w) in
    let at_x = moves_on k p a b quit w s h cut.0 in
    let m = length x.voters in
    let clients = blocks deal (client_block live deal) 0 (length x.clients) x in
    let y = moved deal clients x in
    let voters = blocks deal (voter_block live deal) 0 m y in
    let z = moved deal voters y in
    let leaves = chosen live.client Leave (length x.clients) in
    let parts = each_split (Allows k deal) deal clients (voters ++ leaves) x cut.1 in
    let at_y = moves_on k p a b clients x _ at_x parts.0 in
    let same_clients : length x.clients ≡ n = at_x.shade.many_clients ∙ sym h.shade.many_clients in
    let own = (one_from (λ u. eqb u v) v 0 m (λ u other. (let e : eqb u v ≡ false = grind (arith, nat_tests) in e))).0 in
    let one = ap (λ (vs : List VoterState). voter_at vs v) (chosen_voters deal (is_caught live w) GiveUp (quit_voters deal) n w) in
    let two = blocks_give live first p a b v (client_block live deal) (λ c. 2) (allows_client live first deal) 0 (length x.clients) (λ u t g i less. client_gives laws live first p a b v u t g i) x _ at_x in
    let three = blocks_give live first p a b v (voter_block live deal) (λ u. 3 * one_at v u) (allows_voter live first deal) 0 m
    (λ u t g i less. voter_gives laws live first p a b v i u t g (let same : length u.voters ≡ m = g.shade.many_voters ∙ sym at_x.shade.many_voters in omega arith)) y _ at_y in
    let four = ap (λ (vs : List VoterState). voter_at vs v) (chosen_voters deal live.client Leave (leave_voters deal) (length x.clients) z) in
    let twice = twice_from 0 (length x.clients) in
    let thrice = own_from v 0 m in
    let goes : moved deal (round live deal w) w ≡ moved deal leaves z = moved_then deal quit (duties live deal x) w ∙ moved_then deal clients (voters ++ leaves) x ∙ moved_then deal voters leaves y in
    subst (Spent (2 * n + 3) v w) (sym goes) (subst (λ (q : VoterState). Spends (2 * n + 3) (voter_at w.voters v) q) (sym four) (subst (λ (q : VoterState). Spends (2 * n + 3) q (voter_at z.voters v)) one
    (record { granted = (let f = two.granted in let g = three.granted in omega arith); limit = three.limit ∙ two.limit })))
