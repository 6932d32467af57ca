-- How to make live rounds in which who is not live does nothing, and its grants are let go. Clients that wait for a
-- voter that is down give up.
use Rattle.std.proofs.Common.{◌≡◌, ◌≢◌, ℕ, zero, suc, ◌+◌, ◌-◌, ◌<◌, ◌≤◌, Bool, true, false, List, [], ◌∷◌, ◌++◌, length, map, Option, None, Some, Ok, Err, refl, sym, ap, subst, ◌∙◌, inl, inr, arith, append_assoc}
use Rattle.std.specs.Prelude.{◌&&◌, if◌then◌else◌, nat_lt, not, slice_get}
use Rattle.std.specs.List.{list_all}
use Rattle.std.proofs.lemmas.Bool.{cases_eq, false≢true}
use Rattle.std.proofs.lemmas.List.{append-nil, map-append}
use Rattle.std.proofs.lemmas.Option.{same_Some}
use Rattle.message.specs.declared.message.Message.{Message}
use Rattle.message.specs.declared.message.Message.TheVariants as kinds
use Rattle.voter.specs.declared.state.Grant.{Grant}
use Rattle.voter.specs.declared.state.VoterState.{VoterState}
use Rattle.voter.specs.Steps as voter
use Rattle.requester.specs.Words.{is_asking, members}
use Rattle.world_state.specs.declared.step.Step.{Step}
use Rattle.world_state.specs.declared.step.Step.TheVariants.{Deliver, GiveUp, Leave, RemindClient, RemindVoter}
use Rattle.world.specs.Restarts.{Node, OneClient, OneVoter, Nobody, maker, receiver}
use Rattle.world.specs.Runs.{after, run_of}
use Rattle.world_state.specs.Steps.{Dealing, WorldState, after_voter, client_at, if_voter, say, step, voter_at}
use Rattle.world.proofs.Added.{Adds-step}
use Rattle.progress.specs.LiveRounds.{Live, is_between}
use Rattle.progress.specs.Moves.{EachMove, Goes, LetsGo, Move, let_go, move, moved}
use Rattle.progress.proofs.run.Along.{next}
use Rattle.progress.proofs.rounds.Making.{answer, answer_all, answer_if, arrivals, remind}
use Rattle.progress.proofs.rounds.Reminders.{moved_steps}
use Rattle.progress.proofs.shade.Shade.{Allows, Shading, moved_then}

-- ---- the moves

-- those of the numbers from this one on, one after the other
unfoldable pub blocks : Dealing → (WorldState → ℕ → List Move) → ℕ → ℕ → WorldState → List Move
blocks deal f low zero x = []
blocks deal f low (suc n) x = f x low ++ blocks deal f (low + 1) n (moved deal (f x low) x)

unfoldable pub client_block : Live → Dealing → WorldState → ℕ → List Move
client_block live deal x c = if live.client c then map Goes (remind live deal x (RemindClient c)) else []

-- the voter lets its grant go, if its client is not live
unfoldable pub frees : Live → ℕ → Option Grant → List Move
frees live v None = []
frees live v (Some g) = if live.client g.client then [] else LetsGo v ∷ []

-- what comes after a voter's reminder: it lets its grant go, if its client is not live, and the messages arrive
unfoldable pub served : Live → Dealing → WorldState → ℕ → List Move
served live deal x v =
    frees live v (voter_at x.voters v).held
    ++ map Goes (answer_all live deal (next deal x (RemindVoter v)).sent (moved deal (frees live v (voter_at x.voters v).held) (next deal x (RemindVoter v))) (length x.sent) (length (next deal x (RemindVoter v)).sent - length x.sent))

unfoldable pub voter_block : Live → Dealing → WorldState → ℕ → List Move
voter_block live deal x v = if live.voter v then Goes (RemindVoter v) ∷ served live deal x v else []

-- the client asks, and a voter of its quorum is not live
abbrev pub is_caught : Live → WorldState → ℕ → Bool
is_caught live w c = live.client c && (is_asking (client_at w.clients c).phase && not (list_all live.voter (members (client_at w.clients c))))

-- this step of each of the first n clients that passes the test
unfoldable pub chosen : (ℕ → Bool) → (ℕ → Step) → ℕ → List Move
chosen test f zero = []
chosen test f (suc n) = chosen test f n ++ (if test n then Goes (f n) ∷ [] else [])

-- the reminders, and then who is inside leaves
unfoldable pub duties : Live → Dealing → WorldState → List Move
duties live deal x =
    blocks deal (client_block live deal) 0 (length x.clients) x
    ++ (blocks deal (voter_block live deal) 0 (length x.voters) (moved deal (blocks deal (client_block live deal) 0 (length x.clients) x) x)
    ++ chosen live.client Leave (length x.clients))

-- first who is caught gives up
unfoldable pub round : Live → Dealing → WorldState → List Move
round live deal w = chosen (is_caught live w) GiveUp (length w.clients) ++ duties live deal (moved deal (chosen (is_caught live w) GiveUp (length w.clients)) w)

-- ---- where a block is

pub record Part (deal : Dealing) (w : WorldState) (moves : List Move) (block : WorldState → List Move) : Type 0 where
  pub before : List Move
  pub rest : List Move
  pub is : moves ≡ before ++ (block (moved deal before w) ++ rest)

pub part_left : (deal : Dealing) (w : WorldState) (a b : List Move) (block : WorldState → List Move) → Part deal w a block → Part deal w (a ++ b) block
part_left deal w a b block p = record {
  before = p.before;
  rest = p.rest ++ b;
  is = ap (λ l. l ++ b) p.is ∙ append_assoc p.before (block (moved deal p.before w) ++ p.rest) b ∙ ap (λ l. p.before ++ l) (append_assoc (block (moved deal p.before w)) p.rest b);
}

pub part_right : (deal : Dealing) (w : WorldState) (a b : List Move) (block : WorldState → List Move) → Part deal (moved deal a w) b block → Part deal w (a ++ b) block
part_right deal w a b block p = record {
  before = a ++ p.before;
  rest = p.rest;
  is = ap (λ l. a ++ l) p.is ∙ sym (append_assoc a p.before (block (moved deal p.before (moved deal a w)) ++ p.rest))
      ∙ ap (λ (u : WorldState). (a ++ p.before) ++ (block u ++ p.rest)) (sym (moved_then deal a p.before w));
}

pub part_of : (deal : Dealing) (f : WorldState → ℕ → List Move) (low n i : ℕ) (x : WorldState) → low ≤ i → i < low + n → Part deal x (blocks deal f low n x) (λ y. f y i)
unfolding blocks
part_of deal f low zero i x least less = absurd (omega arith)
part_of deal f low (suc n) i x least less = elim (cases_eq low i) [
  | inl same ↦ record { before = []; rest = blocks deal f (low + 1) n (moved deal (f x low) x); is = ap (λ j. f x j ++ blocks deal f (low + 1) n (moved deal (f x low) x)) same }
  | inr other ↦ part_right deal x (f x low) (blocks deal f (low + 1) n (moved deal (f x low) x)) (λ y. f y i) (part_of deal f (low + 1) n i (moved deal (f x low) x) (omega arith) (omega arith))
]

-- what holds of the moves of each block holds of all
pub each_join : (P : WorldState → Move → Type 0) (deal : Dealing) (a b : List Move) (w : WorldState) → EachMove P deal w a → EachMove P deal (moved deal a w) b → EachMove P deal w (a ++ b)
each_join P deal [] b w h g = g
each_join P deal (m ∷ a) b w h g = (h.0, each_join P deal a b (move deal w m) h.1 g)

each_block : (P : WorldState → Move → Type 0) (deal : Dealing) (f : WorldState → ℕ → List Move) → ((x : WorldState) (i : ℕ) → EachMove P deal x (f x i)) → (low n : ℕ) (x : WorldState) → EachMove P deal x (blocks deal f low n x)
unfolding blocks
each_block P deal f h low zero x = tt
each_block P deal f h low (suc n) x = each_join P deal (f x low) (blocks deal f (low + 1) n (moved deal (f x low) x)) x (h x low) (each_block P deal f h (low + 1) n (moved deal (f x low) x))

-- ---- who is not live does nothing

-- everybody that is not live is dead
unfoldable pub all_dead : Live → WorldState → Shading
all_dead live w = record { live = live; dead = λ c. not (live.client c); apart = λ c lives. ap not lives; first = w; others = [] }

-- the message of this number is between live ones, now and later
between_later : (live : Live) (sent more : List Message) (i : ℕ) → is_between live (slice_get sent i) ≡ true → is_between live (slice_get (sent ++ more) i) ≡ true
between_later live [] more i is = absurd (false≢true is)
between_later live (m ∷ sent) more zero is = is
between_later live (m ∷ sent) more (suc i) is = between_later live sent more i is

-- it comes to a voter, or to a client that is live
to_live : (live : Live) (o : Option Message) (c : ℕ) → is_between live o ≡ true → not (live.client c) ≡ true → receiver o ≢ OneClient c
to_live live None c is dead same = false≢true is
to_live live (Some (kinds.ToVoter m)) c is dead same = subst IsVoter same tt
  where
    IsVoter : Node → Type 0
    IsVoter (OneClient d) = ⊥
    IsVoter (OneVoter v) = Unit {0}
    IsVoter Nobody = ⊥
to_live live (Some (kinds.ToClient m)) c is dead same = false≢true (sym (ap not (by (live.client m.client) (live.voter m.voter) is)) ∙ ap (λ i. not (live.client i)) (subst (λ n. m.client ≡ Who n) same refl) ∙ dead)
  where
    Who : Node → ℕ
    Who (OneClient d) = d
    Who (OneVoter v) = 0
    Who Nobody = 0

    by : (a b : Bool) → (a && b) ≡ true → a ≡ true
    by true b is = refl
    by false b is = is

-- a step of a client that is live, of a voter, or of nobody
allows_step : (live : Live) (w : WorldState) (deal : Dealing) (x : WorldState) (t : Step) → ((c : ℕ) → not (live.client c) ≡ true → maker x t ≢ OneClient c) → Allows (all_dead live w) deal x (Goes t)
unfolding all_dead
allows_step live w deal x t others = record {
  rests = others;
  stays = λ c gone lives. absurd (false≢true (sym lives ∙ ap not gone));
  spares = tt;
}

more_sent : (deal : Dealing) (x : WorldState) (s : Step) → (more : List Message) × ((next deal x s).sent ≡ x.sent ++ more)
more_sent deal x s = elim (step deal x s) as (λ r. step deal x s ≡ r → (more : List Message) × ((after x r).sent ≡ x.sent ++ more)) [
  | Ok o ↦ λ e. (let adds = Adds-step deal x s o e in (adds.more, adds.sent))
  | Err fault ↦ λ e. ([], sym (append-nil x.sent))
] (refl {a = step deal x s})

-- the messages that were sent so far begin with these
abbrev pub SentBegins : List Message → WorldState → Type 0
SentBegins sent x = (more : List Message) × (x.sent ≡ sent ++ more)

begins_step : (deal : Dealing) (sent : List Message) (x : WorldState) (s : Step) → SentBegins sent x → SentBegins sent (next deal x s)
begins_step deal sent x s h = (let m = more_sent deal x s in (h.0 ++ m.0, m.1 ∙ ap (λ l. l ++ m.0) h.1 ∙ append_assoc sent h.0 m.0))

begins_run : (deal : Dealing) (sent : List Message) (steps : List Step) (x : WorldState) → SentBegins sent x → SentBegins sent (run_of deal steps x)
begins_run deal sent [] x h = h
begins_run deal sent (s ∷ steps) x h = begins_run deal sent steps (next deal x s) (begins_step deal sent x s h)

allows_arrival : (live : Live) (w : WorldState) (deal : Dealing) (x : WorldState) (sent : List Message) (i : ℕ) → SentBegins sent x → is_between live (slice_get sent i) ≡ true → Allows (all_dead live w) deal x (Goes (Deliver i))
allows_arrival live w deal x sent i h between = allows_step live w deal x (Deliver i)
    (λ c dead. to_live live (slice_get x.sent i) c (subst (λ l. is_between live (slice_get l i) ≡ true) (sym h.1) (between_later live sent h.0 i between)) dead)

-- steps of these moves, one after the other
join_steps : (P : WorldState → Move → Type 0) (deal : Dealing) (a b : List Step) (x : WorldState) → EachMove P deal x (map Goes a) → EachMove P deal (run_of deal a x) (map Goes b) → EachMove P deal x (map Goes (a ++ b))
join_steps P deal a b x h g = subst (EachMove P deal x) (sym (map-append Goes a b)) (each_join P deal (map Goes a) (map Goes b) x h (subst (λ (u : WorldState). EachMove P deal u (map Goes b)) (sym (moved_steps deal a x)) g))

allows_arrivals : (live : Live) (w : WorldState) (deal : Dealing) (sent : List Message) (low n : ℕ) (x : WorldState) → SentBegins sent x → EachMove (Allows (all_dead live w) deal) deal x (map Goes (arrivals live sent low n))
unfolding arrivals
allows_arrivals live w deal sent low zero x h = tt
allows_arrivals live w deal sent low (suc n) x h =
    let P = Allows (all_dead live w) deal in
    let rest = arrivals live sent (low + 1) n in
    elim (is_between live (slice_get sent low)) as (λ b. is_between live (slice_get sent low) ≡ b → EachMove P deal x (map Goes ((if b then Deliver low ∷ [] else []) ++ rest))) [
      | true ↦ λ is. (allows_arrival live w deal x sent low h is, allows_arrivals live w deal sent (low + 1) n (next deal x (Deliver low)) (begins_step deal sent x (Deliver low) h))
      | false ↦ λ is. allows_arrivals live w deal sent (low + 1) n x h
    ] refl

allows_answer : (live : Live) (w : WorldState) (deal : Dealing) (sent : List Message) (k : ℕ) (x : WorldState) (b : Bool) → is_between live (slice_get sent k) ≡ b → SentBegins sent x → EachMove (Allows (all_dead live w) deal) deal x (map Goes (answer_if b live deal x k))
unfolding answer answer_if
allows_answer live w deal sent k x true is h = (allows_arrival live w deal x sent k h is, allows_arrivals live w deal _ (length x.sent) _ (next deal x (Deliver k)) ([], sym (append-nil _)))
allows_answer live w deal sent k x false is h = tt

allows_answers : (live : Live) (w : WorldState) (deal : Dealing) (sent : List Message) (low n : ℕ) (x : WorldState) → SentBegins sent x → EachMove (Allows (all_dead live w) deal) deal x (map Goes (answer_all live deal sent x low n))
unfolding answer_all
allows_answers live w deal sent low zero x h = tt
allows_answers live w deal sent low (suc n) x h =
    let P = Allows (all_dead live w) deal in
    let b = is_between live (slice_get sent low) in
    let first = answer_if b live deal x low in
    let y = run_of deal first x in
    join_steps P deal first (answer_all live deal sent y (low + 1) n) x (allows_answer live w deal sent low x b refl h) (allows_answers live w deal sent (low + 1) n y (begins_run deal sent first x h))

allows_remind : (live : Live) (w : WorldState) (deal : Dealing) (x : WorldState) (t : Step) → ((c : ℕ) → not (live.client c) ≡ true → maker x t ≢ OneClient c) → EachMove (Allows (all_dead live w) deal) deal x (map Goes (remind live deal x t))
unfolding remind
allows_remind live w deal x t others = (allows_step live w deal x t others, allows_answers live w deal (next deal x t).sent (length x.sent) _ (next deal x t) ([], sym (append-nil _)))

-- a client that is live is not one that is dead
not_it : (live : Live) (c d : ℕ) → live.client c ≡ true → not (live.client d) ≡ true → OneClient c ≢ OneClient d
not_it live c d lives dead same = false≢true (sym (ap not (ap live.client (sym (subst (λ n. c ≡ Who n) same refl)) ∙ lives)) ∙ dead)
  where
    Who : Node → ℕ
    Who (OneClient e) = e
    Who (OneVoter v) = 0
    Who Nobody = 0

not_voter : (v d : ℕ) → OneVoter v ≢ OneClient d
not_voter v d same = subst IsVoter same tt
  where
    IsVoter : Node → Type 0
    IsVoter (OneClient e) = ⊥
    IsVoter (OneVoter u) = Unit {0}
    IsVoter Nobody = ⊥

pub allows_client : (live : Live) (w : WorldState) (deal : Dealing) (x : WorldState) (c : ℕ) → EachMove (Allows (all_dead live w) deal) deal x (client_block live deal x c)
unfolding client_block
allows_client live w deal x c = elim (live.client c) as (λ b. live.client c ≡ b → EachMove (Allows (all_dead live w) deal) deal x (if b then map Goes (remind live deal x (RemindClient c)) else [])) [
  | true ↦ λ lives. allows_remind live w deal x (RemindClient c) (λ d. not_it live c d lives)
  | false ↦ λ _. tt
] refl

allows_chosen : (live : Live) (w : WorldState) (deal : Dealing) (test : ℕ → Bool) (f : ℕ → Step) → ((c : ℕ) (x : WorldState) → maker x (f c) ≡ OneClient c) → ((c : ℕ) → test c ≡ true → live.client c ≡ true) → (n : ℕ) (x : WorldState)
    → EachMove (Allows (all_dead live w) deal) deal x (chosen test f n)
unfolding chosen
allows_chosen live w deal test f own lives zero x = tt
allows_chosen live w deal test f own lives (suc n) x =
    let P = Allows (all_dead live w) deal in
    let y = moved deal (chosen test f n) x in
    each_join P deal (chosen test f n) (if test n then Goes (f n) ∷ [] else []) x (allows_chosen live w deal test f own lives n x)
    (elim (test n) as (λ b. test n ≡ b → EachMove P deal y (if b then Goes (f n) ∷ [] else [])) [
      | true ↦ λ is. (allows_step live w deal y (f n) (λ d dead same. not_it live n d (lives n is) dead (sym (own n y) ∙ same)), tt)
      | false ↦ λ _. tt
    ] refl)

-- ---- voters

pub remind_voters : (deal : Dealing) (x : WorldState) (v : ℕ) → (next deal x (RemindVoter v)).voters ≡ x.voters
unfolding step
remind_voters deal x v = by (nat_lt v (length x.voters))
  where
    by : (b : Bool) → (after x (if_voter b v (Ok (say x (map kinds.ToClient (voter.remind (voter_at x.voters v))))))).voters ≡ x.voters
    by true = refl
    by false = refl

-- a grant that is let go is of a client that is not live
allows_free : (live : Live) (w : WorldState) (deal : Dealing) (x : WorldState) (v : ℕ) → ((g : Grant) → (voter_at x.voters v).held ≡ Some g → live.client g.client ≡ false) → Allows (all_dead live w) deal x (LetsGo v)
unfolding all_dead
allows_free live w deal x v gone = record { rests = λ c dead. tt; stays = λ c down lives. absurd (false≢true (sym lives ∙ ap not down)); spares = gone }

allows_frees : (live : Live) (w : WorldState) (deal : Dealing) (x : WorldState) (v : ℕ) (held : Option Grant) → (voter_at x.voters v).held ≡ held → EachMove (Allows (all_dead live w) deal) deal x (frees live v held)
unfolding frees
allows_frees live w deal x v None is = tt
allows_frees live w deal x v (Some g) is = elim (live.client g.client) as (λ b. live.client g.client ≡ b → EachMove (Allows (all_dead live w) deal) deal x (if b then [] else LetsGo v ∷ [])) [
  | true ↦ λ _. tt
  | false ↦ λ gone. (allows_free live w deal x v (λ h held. subst (λ (i : Grant). live.client i.client ≡ false) (same_Some g h (sym is ∙ held)) gone), tt)
] refl

begins_by : (sent : List Message) (x : WorldState) (v : ℕ) (r : Option voter.Outcome) → SentBegins sent x → SentBegins sent (after x (after_voter x v r))
begins_by sent x v (Some o) h = (h.0 ++ map kinds.ToClient o.replies, ap (λ l. l ++ map kinds.ToClient o.replies) h.1 ∙ append_assoc sent h.0 (map kinds.ToClient o.replies))
begins_by sent x v None h = h

begins_free : (sent : List Message) (x : WorldState) (v : ℕ) (held : Option Grant) → SentBegins sent x → SentBegins sent (let_go x v held)
begins_free sent x v None h = h
begins_free sent x v (Some g) h = begins_by sent x v _ h

pub begins_move : (deal : Dealing) (sent : List Message) (x : WorldState) (m : Move) → SentBegins sent x → SentBegins sent (move deal x m)
begins_move deal sent x (Goes t) h = begins_step deal sent x t h
begins_move deal sent x (LetsGo v) h = begins_free sent x v (voter_at x.voters v).held h

begins_moves : (deal : Dealing) (sent : List Message) (moves : List Move) (x : WorldState) → SentBegins sent x → SentBegins sent (moved deal moves x)
begins_moves deal sent [] x h = h
begins_moves deal sent (m ∷ moves) x h = begins_moves deal sent moves (move deal x m) (begins_move deal sent x m h)

pub allows_voter : (live : Live) (w : WorldState) (deal : Dealing) (x : WorldState) (v : ℕ) → EachMove (Allows (all_dead live w) deal) deal x (voter_block live deal x v)
unfolding voter_block served
allows_voter live w deal x v =
    let P = Allows (all_dead live w) deal in
    let y = next deal x (RemindVoter v) in
    let held = (voter_at x.voters v).held in
    let free = frees live v held in
    let z = moved deal free y in
    elim (live.voter v) as (λ b. EachMove P deal x (if b then Goes (RemindVoter v) ∷ served live deal x v else [])) [
      | true ↦ (
        allows_step live w deal x (RemindVoter v) (λ c _. not_voter v c),
        each_join P deal free _ y (allows_frees live w deal y v held (ap (λ (vs : List VoterState). (voter_at vs v).held) (remind_voters deal x v)))
            (allows_answers live w deal y.sent (length x.sent) _ z (begins_moves deal y.sent free y ([], sym (append-nil y.sent)))),
      )
      | false ↦ tt
    ]

-- ---- the round

allows_duties : (live : Live) (w : WorldState) (deal : Dealing) (x : WorldState) → EachMove (Allows (all_dead live w) deal) deal x (duties live deal x)
unfolding duties
allows_duties live w deal x =
    let P = Allows (all_dead live w) deal in
    let n = length x.clients in
    let a = blocks deal (client_block live deal) 0 n x in
    let y = moved deal a x in
    let b = blocks deal (voter_block live deal) 0 (length x.voters) y in
    let leaves = chosen live.client Leave n in
    each_join P deal a (b ++ leaves) x (each_block P deal (client_block live deal) (allows_client live w deal) 0 n x)
    (each_join P deal b leaves y (each_block P deal (voter_block live deal) (allows_voter live w deal) 0 (length x.voters) y)
    (allows_chosen live w deal live.client Leave (λ c u. refl) (λ c lives. lives) n (moved deal b y)))

pub is_first : (a b : Bool) → (a && b) ≡ true → a ≡ true
is_first true b is = refl
is_first false b is = is

-- `w` is the world in which the first round begins
pub allows_round : (live : Live) (w : WorldState) (deal : Dealing) (x : WorldState) → EachMove (Allows (all_dead live w) deal) deal x (round live deal x)
unfolding round
allows_round live w deal x =
    let quits = chosen (is_caught live x) GiveUp (length x.clients) in
    each_join (Allows (all_dead live w) deal) deal quits (duties live deal (moved deal quits x)) x
    (allows_chosen live w deal (is_caught live x) GiveUp (λ c u. refl) (λ c is. is_first (live.client c) _ is) (length x.clients) x) (allows_duties live w deal (moved deal quits x))
