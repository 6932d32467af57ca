-- live rounds of moves that are made, one after the other, and what is counted in them
use Rattle.std.proofs.Common.{◌≡◌, ◌≢◌, ℕ, zero, suc, ◌+◌, ◌*◌, ◌<◌, ◌≤◌, Bool, true, false, List, [], ◌∷◌, ◌++◌, length, refl, sym, ap, subst, ◌∙◌, inl, inr, arith}
use Rattle.std.specs.Prelude.{◌&&◌, if◌then◌else◌, nat_lt, not}
use Rattle.std.specs.List.{list_all}
use Rattle.std.proofs.Math.Nat.{suc-mul}
use Rattle.std.proofs.lemmas.Bool.{cases_eq, false≢true}
use Rattle.std.proofs.lemmas.Bool.Decides.{nat_tests}
use Rattle.numbers.specs.Sets.{has}
use Rattle.numbers.specs.Sums.{sum_below}
use Rattle.numbers.proofs.Lists.{AllByRecursion-append, AllByRecursion-weaker}
use Rattle.numbers.proofs.SetLemmas.{has-head, has-tail}
use Rattle.numbers.proofs.SumsBelow.{sum_below-add, sum_below-le}
use Rattle.requester.specs.Words.{is_asking, is_member, members}
use Rattle.world_state.specs.declared.step.Event.{Event}
use Rattle.world_state.specs.declared.step.Step.{Step}
use Rattle.world_state.specs.declared.step.Step.TheVariants.{Ask, Deliver, Exchange, GiveUp, Leave, RemindClient, RemindVoter}
use Rattle.world.specs.Rules.{ClientLaws, VoterLaws}
use Rattle.world.specs.Runs.{IsReached}
use Rattle.world.specs.WayIn.{Serves}
use Rattle.world_state.specs.Steps.{Dealing, Planned, WorldState, client_at, dealing_of}
use Rattle.progress.specs.LiveRounds.{AreLiveRounds, AreTimely, HasGrantsThere, Live, SparesIn, live_below}
use Rattle.progress.specs.Moves.{EachMove, Goes, IsNotBy, LetsGo, Move, hasty_among_from, hasty_moves, late_among, move, moved, moves_of, of_moves, steps_among}
use Rattle.progress.specs.Patience.{hasty}
use Rattle.progress.specs.Rounds.{DoesNotGiveUp, give_ups_in}
use Rattle.progress.specs.Rules.{Laws}
use Rattle.progress.proofs.rounds.LiveMade.{NoAsks, calm_moves, caught_ends, late_round, no_asks_round, round_live, sent_moved, serve_duties, steps_append}
use Rattle.progress.proofs.rounds.LiveMaking.{all_dead, allows_round, chosen, duties, each_join, is_caught, round}
use Rattle.progress.proofs.rounds.LiveSpending.{round_gives}
use Rattle.progress.proofs.rounds.Making.{no_give_ups}
use Rattle.progress.proofs.shade.Shade.{Allows, Shades, moved_then, moves_on, moves_once}
use Rattle.progress.proofs.shade.Shaded.{AllDeal, begins, nobody, rests_reached, under_self}
use Rattle.progress.proofs.invariants.Sure.{Course, IsSure-reached, course_of}
use Rattle.progress.proofs.patience.Turns.{asks_at, one_if}

-- k rounds, one after the other
made : Live → Dealing → WorldState → ℕ → List (List Move)
made live deal w zero = []
made live deal w (suc k) = round live deal w ∷ made live deal (moved deal (round live deal w) w) k

allows_made : (live : Live) (first : WorldState) (deal : Dealing) (k : ℕ) (w : WorldState) → EachMove (Allows (all_dead live first) deal) deal w (moves_of (made live deal w k))
unfolding made
allows_made live first deal zero w = tt
allows_made live first deal (suc k) w =
    each_join (Allows (all_dead live first) deal) deal (round live deal w) (moves_of (made live deal (moved deal (round live deal w) w) k)) w (allows_round live first deal w) (allows_made live first deal k (moved deal (round live deal w) w))

each_weaker : (P Q : WorldState → Move → Type 0) (deal : Dealing) → ((x : WorldState) (m : Move) → P x m → Q x m) → (moves : List Move) (w : WorldState) → EachMove P deal w moves → EachMove Q deal w moves
each_weaker P Q deal f [] w h = tt
each_weaker P Q deal f (m ∷ moves) w h = (f w m h.0, each_weaker P Q deal f moves (move deal w m) h.1)

-- ---- who gives up

give_ups_join : (a b : List Step) → give_ups_in (a ++ b) ≡ give_ups_in a + give_ups_in b
give_ups_join [] b = omega arith
give_ups_join (t ∷ a) b = (let rest = give_ups_join a b in omega arith)

quits_count : (test : ℕ → Bool) (n : ℕ) → give_ups_in (steps_among (chosen test GiveUp n)) ≡ sum_below (λ c. one_if (test c)) n
unfolding chosen
quits_count test zero = refl
quits_count test (suc n) =
    let rest = quits_count test n in
    let last : give_ups_in (steps_among (if test n then Goes (GiveUp n) ∷ [] else [])) ≡ one_if (test n) = elim (test n) as (λ b. give_ups_in (steps_among (if b then Goes (GiveUp n) ∷ [] else [])) ≡ one_if b) [ true ↦ refl | false ↦ refl ] in
    let both = ap give_ups_in (steps_append (chosen test GiveUp n) (if test n then Goes (GiveUp n) ∷ [] else [])) ∙ give_ups_join (steps_among (chosen test GiveUp n)) (steps_among (if test n then Goes (GiveUp n) ∷ [] else [])) in
    omega arith

round_count : (live : Live) (deal : Dealing) (w : WorldState) → give_ups_in (steps_among (round live deal w)) ≡ sum_below (λ c. one_if (is_caught live w c)) (length w.clients)
unfolding round
round_count live deal w =
    let quit = chosen (is_caught live w) GiveUp (length w.clients) in
    let x = moved deal quit w in
    let rest = steps_among (duties live deal x) in
    let none : give_ups_in rest ≡ 0 = (let h = no_give_ups 0 rest [] (serve_duties live deal 0 x (omega arith)) refl in let whole = give_ups_join rest [] in omega arith) in
    let both = ap give_ups_in (steps_append quit (duties live deal x)) ∙ give_ups_join (steps_among quit) rest in
    let first = quits_count (is_caught live w) (length w.clients) in
    omega arith

-- how many live clients ask
asking_live : Live → ℕ → WorldState → ℕ
asking_live live n x = sum_below (λ c. if live.client c then one_if (asks_at x c) else 0) n

asking_most : (live : Live) (n : ℕ) (x : WorldState) → asking_live live n x ≤ live_below live n
unfolding asking_live
asking_most live n x = sum_below-le n (λ c. if live.client c then one_if (asks_at x c) else 0) (λ c. if live.client c then 1 else 0) (λ c _. by (live.client c) (asks_at x c))
  where
    by : (a b : Bool) → (if a then one_if b else 0) ≤ (if a then 1 else 0)
    by true true = omega arith
    by true false = omega arith
    by false b = omega arith

-- who gives up asks no more
fewer_ask : (live : Live) (first : WorldState) (p : Course) (a b : List Event) (w s : WorldState) → Shades (all_dead live first) p a b w s
    → give_ups_in (steps_among (round live p.deal w)) + asking_live live (length w.clients) (moved p.deal (round live p.deal w) w) ≤ asking_live live (length w.clients) w
unfolding asking_live all_dead
fewer_ask live first p a b w s h =
    let deal = p.deal in
    let n = length w.clients in
    let all = round live deal w in
    let z = moved deal all w in
    let before : ℕ → ℕ = λ c. if live.client c then one_if (asks_at w c) else 0 in
    let later : ℕ → ℕ = λ c. if live.client c then one_if (asks_at z c) else 0 in
    let test : ℕ → ℕ = λ c. one_if (is_caught live w c) in
    let each : (c : ℕ) → c < n → test c + later c ≤ before c = λ c within.
    by (live.client c) (asks_at w c) (not (list_all live.voter (members (client_at w.clients c)))) (asks_at z c)
    (λ lives. (calm_moves (all_dead live first) p a b all w s h (allows_round live first deal w) (no_asks_round live deal w) c (ap not lives)).asks)
    (λ caught asks. caught_ends live first p a b w s h c within caught asks) in
    let sums = sum_below-le n (λ c. test c + later c) before each in
    let both = sum_below-add n test later in
    let count = round_count live deal w in
    omega arith
  where
    by : (l asks down on : Bool) → (l ≡ true → on ≡ true → asks ≡ true) → ((l && (asks && down)) ≡ true → on ≡ true → ⊥) → one_if (l && (asks && down)) + (if l then one_if on else 0) ≤ (if l then one_if asks else 0)
    by false asks down on h g = omega arith
    by true true true true h g = absurd (g refl refl)
    by true true true false h g = omega arith
    by true true false true h g = omega arith
    by true true false false h g = omega arith
    by true false down true h g = absurd (false≢true (h refl refl))
    by true false down false h g = omega arith

-- the client is live, and a voter of its quorum is not
abbrev is_tied : Live → WorldState → ℕ → Bool
is_tied live w c = live.client c && not (list_all live.voter (members (client_at w.clients c)))

uncaught : (live : Live) (w : WorldState) (c : ℕ) → is_tied live w c ≡ false → is_caught live w c ≡ false
uncaught live w c free = by (live.client c) (is_asking (client_at w.clients c).phase) (not (list_all live.voter (members (client_at w.clients c)))) free
  where
    by : (a b t : Bool) → (a && t) ≡ false → (a && (b && t)) ≡ false
    by true true t free = free
    by true false t free = refl
    by false b t free = refl

-- who asks live voters alone is not tied
all_by : (p : ℕ → Bool) (q : List ℕ) → ((v : ℕ) → has q v ≡ true → p v ≡ true) → list_all p q ≡ true
all_by p [] h = refl
all_by p (x ∷ q) h =
    let rest = all_by p q (λ v member. elim (cases_eq x v) [
      | inl same ↦ subst (λ i. p i ≡ true) same (h x (has-head x q))
      | inr other ↦ h v (has-tail x q v other ∙ member)
    ]) in
    (λ i. h x (has-head x q) i && rest i)

untied : (live : Live) (w : WorldState) (c : ℕ) → ((v : ℕ) → is_member (client_at w.clients c) v ≡ true → live.voter v ≡ true) → is_tied live w c ≡ false
untied live w c alone = ap (λ b. live.client c && not b) (all_by live.voter (members (client_at w.clients c)) alone) ∙ by (live.client c)
  where
    by : (a : Bool) → (a && false) ≡ false
    by true = refl
    by false = refl

same_tied : (live : Live) (first : WorldState) (p : Course) (a b : List Event) (moves : List Move) (x s : WorldState) → Shades (all_dead live first) p a b x s → EachMove (Allows (all_dead live first) p.deal) p.deal x moves → NoAsks moves → (c : ℕ)
    → is_tied live (moved p.deal moves x) c ≡ is_tied live x c
unfolding all_dead
same_tied live first p a b moves x s h allow none c = elim (live.client c) as (λ l. live.client c ≡ l → is_tied live (moved p.deal moves x) c ≡ is_tied live x c) [
  | true ↦ λ lives. ap (λ q. live.client c && not (list_all live.voter q)) (calm_moves (all_dead live first) p a b moves x s h allow none c (ap not lives)).quorum
  | false ↦ λ gone. ap (λ l. l && not (list_all live.voter (members (client_at (moved p.deal moves x).clients c)))) gone ∙ sym (ap (λ l. l && not (list_all live.voter (members (client_at x.clients c)))) gone)
] refl

serves_stays : (c : ℕ) (t : Step) → Serves 0 t → t ≢ GiveUp c
serves_stays c t serves same = subst (Serves 0) same serves

quits_stay : (test : ℕ → Bool) (c : ℕ) → test c ≡ false → (n : ℕ) → DoesNotGiveUp c (steps_among (chosen test GiveUp n))
unfolding chosen
quits_stay test c none zero = tt
quits_stay test c none (suc n) = subst (DoesNotGiveUp c) (sym (steps_append (chosen test GiveUp n) (if test n then Goes (GiveUp n) ∷ [] else [])))
    (AllByRecursion-append (λ s. s ≢ GiveUp c) (steps_among (chosen test GiveUp n)) (steps_among (if test n then Goes (GiveUp n) ∷ [] else [])) (quits_stay test c none n)
    (elim (test n) as (λ b. test n ≡ b → DoesNotGiveUp c (steps_among (if b then Goes (GiveUp n) ∷ [] else []))) [
      | true ↦ λ is. ((λ same. false≢true (sym none ∙ ap test (sym (ap who same)) ∙ is)), tt)
      | false ↦ λ _. tt
    ] refl))
  where
    who : Step → ℕ
    who (Ask d) = d
    who (Deliver i) = i
    who (Leave d) = d
    who (GiveUp d) = d
    who (RemindClient d) = d
    who (RemindVoter v) = v
    who Exchange = 0

round_stays : (live : Live) (deal : Dealing) (w : WorldState) (c : ℕ) → is_caught live w c ≡ false → DoesNotGiveUp c (steps_among (round live deal w))
unfolding round
round_stays live deal w c none =
    let quit = chosen (is_caught live w) GiveUp (length w.clients) in
    let x = moved deal quit w in
    subst (DoesNotGiveUp c) (sym (steps_append quit (duties live deal x))) (AllByRecursion-append (λ s. s ≢ GiveUp c) (steps_among quit) (steps_among (duties live deal x)) (quits_stay (is_caught live w) c none (length w.clients))
    (AllByRecursion-weaker (Serves 0) (λ s. s ≢ GiveUp c) (serves_stays c) (steps_among (duties live deal x)) (serve_duties live deal 0 x (omega arith))))

-- ---- nobody gives up a new request

-- each live client has its stamp
abbrev SameStamps : Live → WorldState → WorldState → Type 0
SameStamps live u x = (c : ℕ) → live.client c ≡ true → (client_at x.clients c).stamp ≡ (client_at u.clients c).stamp

not_hasty : (live : Live) (first : WorldState) (deal : Dealing) (u x : WorldState) (t : Step) → SameStamps live u x → Allows (all_dead live first) deal x (Goes t) → hasty u x t ≡ 0
unfolding all_dead
not_hasty live first deal u x (Ask c) same allow = refl
not_hasty live first deal u x (Deliver k) same allow = refl
not_hasty live first deal u x (Leave c) same allow = refl
not_hasty live first deal u x (GiveUp c) same allow =
    let lives : live.client c ≡ true = by (live.client c) (λ dead. allow.rests c dead refl) in
    let no : nat_lt (client_at u.clients c).stamp (client_at x.clients c).stamp ≡ false = (let e = same c lives in grind (arith, nat_tests)) in
    ap (λ b. if is_asking (client_at x.clients c).phase && b then 1 else 0) no ∙ none (is_asking (client_at x.clients c).phase)
  where
    by : (b : Bool) → (not b ≡ true → ⊥) → b ≡ true
    by true h = refl
    by false h = absurd (h refl)

    none : (b : Bool) → ◌≡◌ {A = ℕ} (if b && false then 1 else 0) 0
    none true = refl
    none false = refl
not_hasty live first deal u x (RemindClient c) same allow = refl
not_hasty live first deal u x (RemindVoter v) same allow = refl
not_hasty live first deal u x Exchange same allow = refl

same_after : (live : Live) (first : WorldState) (p : Course) (a b : List Event) (u : WorldState) (moves : List Move) (x s : WorldState) → Shades (all_dead live first) p a b x s → EachMove (Allows (all_dead live first) p.deal) p.deal x moves → NoAsks moves
    → SameStamps live u x → SameStamps live u (moved p.deal moves x)
unfolding all_dead
same_after live first p a b u moves x s h allow none same c lives = (calm_moves (all_dead live first) p a b moves x s h allow none c (ap not lives)).stamp ∙ same c lives

patient_moves : (live : Live) (first : WorldState) (p : Course) (a b : List Event) (u : WorldState) (moves : List Move) (x s : WorldState) → Shades (all_dead live first) p a b x s → EachMove (Allows (all_dead live first) p.deal) p.deal x moves → NoAsks moves
    → SameStamps live u x → hasty_moves p.deal u x moves ≡ 0
patient_moves live first p a b u [] x s h allow none same = refl
patient_moves live first p a b u (Goes t ∷ moves) x s h allow none same =
    let here = not_hasty live first p.deal u x t same allow.0 in
    let rest = patient_moves live first p a b u moves _ _ (moves_once (all_dead live first) p a b x s h (Goes t) allow.0) allow.1 none.1 (same_after live first p a b u (Goes t ∷ []) x s h (allow.0, tt) (none.0, tt) same) in
    omega arith
patient_moves live first p a b u (LetsGo v ∷ moves) x s h allow none same =
    patient_moves live first p a b u moves _ _ (moves_once (all_dead live first) p a b x s h (LetsGo v) allow.0) allow.1 none (same_after live first p a b u (LetsGo v ∷ []) x s h (allow.0, tt) tt same)

-- ---- all rounds

-- what holds of k rounds that begin in w; two rounds before, u was the world, and v one round before
record RoundsKeep (live : Live) (p : Course) (old : ℕ) (u v w : WorldState) (k left : ℕ) : Type 0 where
  are_live : AreLiveRounds of_moves live p.deal w (made live p.deal w k)
  count : length (made live p.deal w k) ≡ k
  in_time : late_among p.deal old w (made live p.deal w k) ≡ 0
  patient : hasty_among_from p.deal u v w (made live p.deal w k) ≡ 0
  few : give_ups_in (steps_among (moves_of (made live p.deal w k))) ≤ asking_live live (length w.clients) w
  stays : (c : ℕ) → is_tied live w c ≡ false → DoesNotGiveUp c (steps_among (moves_of (made live p.deal w k)))
  grants : HasGrantsThere live left (moved p.deal (moves_of (made live p.deal w k)) w)

kept : (laws : Laws) (live : Live) (first : WorldState) (p : Course) → p.live ≡ live → (a b : List Event) (k left old : ℕ) → 1 ≤ left → (u v w s : WorldState) → Shades (all_dead live first) p a b w s → old ≤ length w.sent
    → SameStamps live u w → SameStamps live v w → HasGrantsThere live (k * (2 * length w.clients + 3) + left) w → RoundsKeep live p old u v w k left
unfolding made asking_live
kept laws live first p own a b zero left old some u v w s h most one two has = record {
  are_live = tt;
  count = refl;
  in_time = refl;
  patient = refl;
  few = omega arith;
  stays = λ c all. tt;
  grants = λ i within up. (let lots = has i within up in omega arith);
}
kept laws live first p own a b (suc k) left old some u v w s h most one two has =
    let deal = p.deal in
    let n = length w.clients in
    let all = round live deal w in
    let x = moved deal all w in
    let allow = allows_round live first deal w in
    let at_x = moves_on (all_dead live first) p a b all w s h allow in
    let none = no_asks_round live deal w in
    let clients : length x.clients ≡ n = at_x.shade.many_clients ∙ sym h.shade.many_clients in
    let voters : length x.voters ≡ length w.voters = at_x.shade.many_voters ∙ sym h.shade.many_voters in
    let product = suc-mul k (2 * n + 3) in
    let spent = round_gives laws live first p a b in
    let has_x : HasGrantsThere live (k * (2 * n + 3) + left) x = λ i within up.
    (let gives = (spent i w s h).granted in let limit = (spent i w s h).limit in let lots = has i (omega arith) up in omega arith) in
    let rest = kept laws live first p own a b k left (length w.sent) some v w x _ at_x (sent_moved deal all w) (same_after live first p a b v all w s h allow none two) (same_after live first p a b w all w s h allow none (λ c lives. refl))
    (subst (λ m. HasGrantsThere live (k * (2 * m + 3) + left) x) (sym clients) has_x) in
    let more = moves_of (made live deal x k) in
    let joined = steps_append all more in
    record {
      are_live = (round_live laws live first p own a b w s h (λ i within up. (let lots = has_x i within up in omega arith)), rest.are_live);
      count = ap suc rest.count;
      in_time = (let here = late_round live deal old w most in let later = rest.in_time in omega arith);
      patient = (let here = patient_moves live first p a b u all w s h allow none one in let later = rest.patient in omega arith);
      few =
          let here = fewer_ask live first p a b w s h in
          let later = subst (λ m. give_ups_in (steps_among more) ≤ asking_live live m x) clients rest.few in
          let both = ap give_ups_in joined ∙ give_ups_join (steps_among all) (steps_among more) in
          omega arith;
      stays = λ c free. subst (DoesNotGiveUp c) (sym joined) (AllByRecursion-append (λ t. t ≢ GiveUp c) (steps_among all) (steps_among more) (round_stays live deal w c (uncaught live w c free))
          (rest.stays c (same_tied live first p a b all w s h allow none c ∙ free)));
      grants = subst (HasGrantsThere live left) (sym (moved_then deal all more w)) rest.grants;
    }

-- so there are such rounds in each world that is reached
pub timely_reached : Laws → ClientLaws → VoterLaws → AllDeal → (live : Live) (w : Planned) (k left : ℕ) → IsReached w → 1 ≤ left → HasGrantsThere live (k * (2 * length w.state.clients + 3) + left) w.state
    → (rounds : List (List Move)) × AreTimely live (dealing_of w.plans) w.state k rounds × HasGrantsThere live left (moved (dealing_of w.plans) (moves_of rounds) w.state)
unfolding all_dead nobody
timely_reached laws clients voters dealt live w k left r some has =
    let p = course_of live w in
    let deal = dealing_of w.plans in
    let u = w.state in
    let g = all_dead live u in
    let begin = begins laws g p nobody u (under_self u) (λ c _. refl) (rests_reached clients voters dealt w r) (IsSure-reached laws live w r) (λ c gone lives. absurd (false≢true (sym lives ∙ ap not gone))) in
    let all = kept laws live u p refl u.visible _ k left 0 some u u u _ begin.shades (omega arith) (λ c lives. refl) (λ c lives. refl) has in
    let rounds = made live deal u k in
    let allow = allows_made live u deal k u in (
      rounds,
      record {
        are_live = all.are_live;
        count = all.count;
        in_time = all.in_time;
        patient = all.patient;
        few = (let asking = asking_most live (length u.clients) u in let gives = all.few in omega arith);
        stays = λ c alone. all.stays c (untied live u c alone);
        dead = λ c gone. each_weaker (Allows g deal) (IsNotBy c) deal (λ x m allows. allows.rests c (ap not gone)) (moves_of rounds) u allow;
        spares = each_weaker (Allows g deal) (SparesIn live) deal (λ x m allows. allows.spares) (moves_of rounds) u allow;
      },
      all.grants,
    )
