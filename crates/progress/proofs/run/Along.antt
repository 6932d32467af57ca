-- what holds all along a list of steps, and where a step of a round is in it
use Rattle.std.proofs.Common.{Option, Some, true, ◌≡◌, ℕ, zero, suc, ◌<◌, ◌≤◌, List, [], ◌∷◌, ◌++◌, length, refl, sym, ap, subst, ◌∙◌, ◌⊎◌, inl, inr, arith, false}
use Rattle.std.specs.Prelude.{◌&&◌, slice_get, slice_index_or}
use Rattle.std.specs.List.{Contains}
use Rattle.world_state.specs.declared.step.Step.{Step}
use Rattle.world_state.specs.declared.step.Step.TheVariants.{Deliver, RemindVoter}
use Rattle.world.specs.Runs.{after, run_of}
use Rattle.world_state.specs.Steps.{Dealing, WorldState, step, voter_at}
use Rattle.world.proofs.Plans.{run_then}
use Rattle.progress.specs.LiveRounds.{IsAnswered, IsReminded, IsServed, Live, is_between}
use Rattle.progress.specs.Moves.{of_steps}
use Rattle.message.specs.declared.message.Message.{Message}
use Rattle.message.specs.declared.message.Message.TheVariants as kinds
use Rattle.message.specs.declared.message.ToClient.{ToClient}
use Rattle.message.specs.declared.message.ToVoter.{ToVoter}
use Rattle.voter.specs.VoterContract.{IsEntry}
use Rattle.voter.specs.declared.state.Grant.{Grant}

-- the world after one step
abbrev pub next : Dealing → WorldState → Step → WorldState
next deal x s = after x (step deal x s)

-- P holds of each world of these steps, and R of each step and the worlds before and after it
abbrev pub Along : (WorldState → Type 0) → (Step → WorldState → WorldState → Type 0) → Dealing → List Step → WorldState → Type 0
Along P R deal [] x = P x
Along P R deal (s ∷ steps) x = P x × R s x (next deal x s) × Along P R deal steps (next deal x s)

pub along-first : (P : WorldState → Type 0) (R : Step → WorldState → WorldState → Type 0) (deal : Dealing) (steps : List Step) (x : WorldState) → Along P R deal steps x → P x
along-first P R deal [] x h = h
along-first P R deal (s ∷ steps) x h = h.0

pub along-last : (P : WorldState → Type 0) (R : Step → WorldState → WorldState → Type 0) (deal : Dealing) (steps : List Step) (x : WorldState) → Along P R deal steps x → P (run_of deal steps x)
along-last P R deal [] x h = h
along-last P R deal (s ∷ steps) x h = along-last P R deal steps (next deal x s) h.2

pub along-split : (P : WorldState → Type 0) (R : Step → WorldState → WorldState → Type 0) (deal : Dealing) (a b : List Step) (x : WorldState) → Along P R deal (a ++ b) x
    → Along P R deal a x × Along P R deal b (run_of deal a x)
along-split P R deal [] b x h = (along-first P R deal b x h, h)
along-split P R deal (s ∷ a) b x h = (let rest = along-split P R deal a b (next deal x s) h.2 in ((h.0, h.1, rest.0), rest.1))

pub along-weaker : (P Q : WorldState → Type 0) (R : Step → WorldState → WorldState → Type 0) (deal : Dealing) → ((x : WorldState) → P x → Q x) → (steps : List Step) (x : WorldState)
    → Along P R deal steps x → Along Q R deal steps x
along-weaker P Q R deal weaker [] x h = weaker x h
along-weaker P Q R deal weaker (s ∷ steps) x h = (weaker x h.0, h.1, along-weaker P Q R deal weaker steps (next deal x s) h.2)

-- what each step keeps holds at the end
pub along-kept : (P : WorldState → Type 0) (R : Step → WorldState → WorldState → Type 0) (deal : Dealing) (Q : WorldState → Type 0) → ((s : Step) (x y : WorldState) → P x → P y → R s x y → Q x → Q y)
    → (steps : List Step) (x : WorldState) → Along P R deal steps x → Q x → Q (run_of deal steps x)
along-kept P R deal Q keep [] x h q = q
along-kept P R deal Q keep (s ∷ steps) x h q =
    let y = next deal x s in
    along-kept P R deal Q keep steps y h.2 (keep s x y h.0 (along-first P R deal steps y h.2) h.1 q)

-- K holds all along, or at the end A does, which each step keeps
pub along-or : (P : WorldState → Type 0) (R : Step → WorldState → WorldState → Type 0) (deal : Dealing) (K A : WorldState → Type 0)
    → ((s : Step) (x y : WorldState) → P x → P y → R s x y → K x → K y ⊎ A y) → ((s : Step) (x y : WorldState) → P x → P y → R s x y → A x → A y)
    → (steps : List Step) (x : WorldState) → Along P R deal steps x → K x → A (run_of deal steps x) ⊎ Along (λ z. P z × K z) R deal steps x
along-or P R deal K A go keep [] x h k = inr (h, k)
along-or P R deal K A go keep (s ∷ steps) x h k =
    let y = next deal x s in
    elim (go s x y h.0 (along-first P R deal steps y h.2) h.1 k) [
      | inl on ↦ elim (along-or P R deal K A go keep steps y h.2 on) [
        | inl end ↦ inl end
        | inr all ↦ inr ((h.0, k), h.1, all)
      ]
      | inr done ↦ inl (along-kept P R deal A keep steps y h.2 done)
    ]

-- ---- where a step is

-- this step is made between the worlds x and z
pub record Spot (P : WorldState → Type 0) (R : Step → WorldState → WorldState → Type 0) (deal : Dealing) (x z : WorldState) (s : Step) : Type 0 where
  pub before : WorldState
  pub first : List Step
  pub rest : List Step
  pub reaches : run_of deal first x ≡ before
  pub lead : Along P R deal first x
  pub here : P before
  pub moved : R s before (next deal before s)
  pub follow : Along P R deal rest (next deal before s)
  pub ends : run_of deal rest (next deal before s) ≡ z

pub spot_at : (P : WorldState → Type 0) (R : Step → WorldState → WorldState → Type 0) (deal : Dealing) (steps first rest : List Step) (x : WorldState) (s : Step) → Along P R deal steps x
    → steps ≡ first ++ s ∷ rest → Spot P R deal x (run_of deal steps x) s
spot_at P R deal steps first rest x s h split =
    let parts = along-split P R deal first (s ∷ rest) x (subst (λ l. Along P R deal l x) split h) in
    record {
      before = run_of deal first x;
      first = first;
      rest = rest;
      reaches = refl;
      lead = parts.0;
      here = parts.1.0;
      moved = parts.1.1;
      follow = parts.1.2;
      ends = sym (ap (λ l. run_of deal l x) split ∙ run_then deal first (s ∷ rest) x);
    }

-- what each step keeps holds there, and from there on
pub spot_before : (P : WorldState → Type 0) (R : Step → WorldState → WorldState → Type 0) (deal : Dealing) (Q : WorldState → Type 0) → ((s : Step) (x y : WorldState) → P x → P y → R s x y → Q x → Q y)
    → (x z : WorldState) (s : Step) → (spot : Spot P R deal x z s) → Q x → Q spot.before
spot_before P R deal Q keep x z s spot q = subst Q spot.reaches (along-kept P R deal Q keep spot.first x spot.lead q)

pub spot_end : (P : WorldState → Type 0) (R : Step → WorldState → WorldState → Type 0) (deal : Dealing) (Q : WorldState → Type 0) → ((s : Step) (x y : WorldState) → P x → P y → R s x y → Q x → Q y)
    → (x z : WorldState) (s : Step) → (spot : Spot P R deal x z s) → Q (next deal spot.before s) → Q z
spot_end P R deal Q keep x z s spot q = subst Q spot.ends (along-kept P R deal Q keep spot.rest (next deal spot.before s) spot.follow q)

-- what each step keeps, and holds there, holds at the end
pub spot_through : (P : WorldState → Type 0) (R : Step → WorldState → WorldState → Type 0) (deal : Dealing) (Q : WorldState → Type 0) → ((s : Step) (x y : WorldState) → P x → P y → R s x y → Q x → Q y)
    → (x z : WorldState) (s : Step) → (spot : Spot P R deal x z s) → Q spot.before → Q z
spot_through P R deal Q keep x z s spot q =
    spot_end P R deal Q keep x z s spot (keep s spot.before (next deal spot.before s) spot.here (along-first P R deal spot.rest (next deal spot.before s) spot.follow) spot.moved q)

pub spot_after : (P : WorldState → Type 0) (R : Step → WorldState → WorldState → Type 0) (deal : Dealing) (x z : WorldState) (s : Step) → (spot : Spot P R deal x z s) → P (next deal spot.before s)
spot_after P R deal x z s spot = along-first P R deal spot.rest (next deal spot.before s) spot.follow

pub contains_split : {A : Type 0} (xs : List A) (x : A) → Contains xs x → (first : List A) × (rest : List A) × (xs ≡ first ++ x ∷ rest)
contains_split {A} xs x there = go xs there.0 there.1 there.2
  where
    go : (xs : List A) (k : ℕ) → k < length xs → slice_index_or xs k x ≡ x → (first : List A) × (rest : List A) × (xs ≡ first ++ x ∷ rest)
    go [] k less is = absurd (omega arith)
    go (y ∷ ys) zero less is = ([], ys, ap (λ z. z ∷ ys) is)
    go (y ∷ ys) (suc k) less is = (let more = go ys k (omega arith) is in (y ∷ more.0, more.1, ap (λ l. y ∷ l) more.2))

pub spot_in : (P : WorldState → Type 0) (R : Step → WorldState → WorldState → Type 0) (deal : Dealing) (steps : List Step) (x : WorldState) (s : Step) → Along P R deal steps x → Contains steps s
    → Spot P R deal x (run_of deal steps x) s
spot_in P R deal steps x s h there = (let parts = contains_split steps s there in spot_at P R deal steps parts.0 parts.1 x s h parts.2)

-- the message arrives between the worlds x and z, and then the replies to it do
pub record Heard (P : WorldState → Type 0) (R : Step → WorldState → WorldState → Type 0) (live : Live) (deal : Dealing) (x z : WorldState) (k : ℕ) : Type 0 where
  pub spot : Spot P R deal x z (Deliver k)
  pub replies : (j : ℕ) → length spot.before.sent ≤ j → is_between live (slice_get (next deal spot.before (Deliver k)).sent j) ≡ true → Spot P R deal (next deal spot.before (Deliver k)) z (Deliver j)

-- the reminder is made between the worlds x and z, and then its messages arrive
pub record Reminded (P : WorldState → Type 0) (R : Step → WorldState → WorldState → Type 0) (live : Live) (deal : Dealing) (x z : WorldState) (s : Step) : Type 0 where
  pub spot : Spot P R deal x z s
  pub heard : (k : ℕ) → length spot.before.sent ≤ k → is_between live (slice_get (next deal spot.before s).sent k) ≡ true → Heard P R live deal (next deal spot.before s) z k

heard_at : (P : WorldState → Type 0) (R : Step → WorldState → WorldState → Type 0) (live : Live) (deal : Dealing) (steps : List Step) (x z : WorldState) (k : ℕ) → run_of deal steps x ≡ z → Along P R deal steps x
    → IsAnswered of_steps live deal x steps k → Heard P R live deal x z k
unfolding spot_at
heard_at P R live deal steps x z k ends h a = subst (λ (u : WorldState). Heard P R live deal x u k) ends (
    let spot = spot_at P R deal steps a.first a.rest x (Deliver k) h a.split in
    let goes = run_then deal a.first (Deliver k ∷ []) x in
    record {
      spot = spot;
      replies = λ j least between. subst (λ (u : WorldState). Spot P R deal (next deal spot.before (Deliver k)) u (Deliver j)) spot.ends
          (spot_in P R deal a.rest (next deal spot.before (Deliver k)) (Deliver j) spot.follow (a.answers j least (ap (λ (u : WorldState). is_between live (slice_get u.sent j)) goes ∙ between)));
    })

pub reminded_at : (P : WorldState → Type 0) (R : Step → WorldState → WorldState → Type 0) (live : Live) (deal : Dealing) (steps : List Step) (x : WorldState) (s : Step) → Along P R deal steps x
    → IsReminded of_steps live deal x steps s → Reminded P R live deal x (run_of deal steps x) s
unfolding spot_at
reminded_at P R live deal steps x s h a =
    let spot = spot_at P R deal steps a.first a.rest x s h a.split in
    let goes = run_then deal a.first (s ∷ []) x in
    record {
      spot = spot;
      heard = λ k least between. heard_at P R live deal a.rest (next deal spot.before s) (run_of deal steps x) k spot.ends spot.follow
          (subst (λ (u : WorldState). IsAnswered of_steps live deal u a.rest k) goes (a.arrive k least (ap (λ (u : WorldState). is_between live (slice_get u.sent k)) goes ∙ between)));
    }

-- ---- messages between live ones

pub between_to : (live : Live) (o : Option Message) (m : ToVoter) → o ≡ Some (kinds.ToVoter m) → live.client m.client ≡ true → live.voter m.voter ≡ true → is_between live o ≡ true
between_to live o m is c v = ap (is_between live) is ∙ (λ i. c i && v i)

pub between_from : (live : Live) (o : Option Message) (m : ToClient) → o ≡ Some (kinds.ToClient m) → live.client m.client ≡ true → live.voter m.voter ≡ true → is_between live o ≡ true
between_from live o m is c v = ap (is_between live) is ∙ (λ i. c i && v i)

-- ---- voters that drop a request

-- at some moment between the worlds u and z the voter does not know this request
pub record Dropped (P : WorldState → Type 0) (R : Step → WorldState → WorldState → Type 0) (deal : Dealing) (u z : WorldState) (v c s : ℕ) : Type 0 where
  pub first : List Step
  pub rest : List Step
  pub lead : Along P R deal first u
  pub follow : Along P R deal rest (run_of deal first u)
  pub ends : run_of deal rest (run_of deal first u) ≡ z
  pub over : IsEntry (voter_at (run_of deal first u).voters v) c s → ⊥

-- the voter is reminded between the worlds x and z, and drops the request of a client that is not live
pub record Served (P : WorldState → Type 0) (R : Step → WorldState → WorldState → Type 0) (live : Live) (deal : Dealing) (x z : WorldState) (v : ℕ) : Type 0 where
  pub reminded : Reminded P R live deal x z (RemindVoter v)
  pub drops : (g : Grant) → (voter_at reminded.spot.before.voters v).held ≡ Some g → live.client g.client ≡ false → Dropped P R deal reminded.spot.before z v g.client g.stamp

pub served_at : (P : WorldState → Type 0) (R : Step → WorldState → WorldState → Type 0) (live : Live) (deal : Dealing) (steps : List Step) (x : WorldState) (v : ℕ) → Along P R deal steps x
    → IsServed of_steps live deal x steps v → Served P R live deal x (run_of deal steps x) v
unfolding reminded_at spot_at
served_at P R live deal steps x v h a = record {
  reminded = reminded_at P R live deal steps x (RemindVoter v) h a.reminded;
  drops = λ g held dead.
      let u = run_of deal a.reminded.first x in
      let list = RemindVoter v ∷ a.reminded.rest in
      let d = a.drops g held dead in
      let here = (along-split P R deal a.reminded.first list x (subst (λ l. Along P R deal l x) a.reminded.split h)).1 in
      let parts = along-split P R deal d.first d.rest u (subst (λ l. Along P R deal l u) d.split here) in
      record {
        first = d.first;
        rest = d.rest;
        lead = parts.0;
        follow = parts.1;
        ends = sym (run_then deal d.first d.rest u) ∙ sym (ap (λ l. run_of deal l u) d.split) ∙ sym (ap (λ l. run_of deal l x) a.reminded.split ∙ run_then deal a.reminded.first list x);
        over = d.over;
      };
}
