-- exchanges keep the order rule, and bridges make a succession of plans
use Rattle.std.proofs.Common.{◌≡◌, ℕ, zero, suc, ◌+◌, ◌≤◌, Bool, true, false, List, [], ◌∷◌, Some, subst, inl, inr, arith}
use Rattle.std.specs.Prelude.{◌&&◌, nat_le, is_none, if◌then◌else◌}
use Rattle.std.proofs.lemmas.Bool.{and_parts, cases_lt}
use Rattle.std.proofs.lemmas.Bool.Decides.{nat_tests}
use Rattle.generations.specs.Plans.{IsSuccession, Plans}
use Rattle.generations.specs.Voters.{Request, Voter, given, is_of, may_give, may_retire, next_taken, retired}
use Rattle.generations.specs.Exchanges.{AreExchanges, AreInOrder, Crashes, Ends, Event, Gives, HasRetired, IsExchange, IsInOrder, IsLeft, IsRetired, MayFollow, Retires, Saves, Takes, World, first_world, happens, set, turned}
use Rattle.generations.proofs.Worlds.{Grows, all_of, end_at, save_at, set_all, set_grows, still_retired}

-- what each voter of a quorum of the next plan retired is retired
left_is_retired : (count : ℕ) (plans : Plans) → IsSuccession count plans → (w : World) (plan : ℕ) → IsLeft plans w plan → IsRetired plans w plan
left_is_retired count plans succession w plan left q among =
    let m = succession.next plan q left.quorum among left.among in
    (m.0, m.2, all_of (HasRetired w plan) left.quorum m.0 left.retired m.3)

followed : (count : ℕ) (plans : Plans) → IsSuccession count plans → (w : World) (newest : ℕ) → MayFollow plans w newest → (plan : ℕ) → plan + 1 ≡ newest → IsRetired plans w plan
followed count plans succession w zero may plan e = absurd (omega arith)
followed count plans succession w (suc n) may plan e =
    let same : n ≡ plan = omega arith in
    subst (λ (p : ℕ). IsRetired plans w p) same (left_is_retired count plans succession w n may)

-- all plans before the one before a voter's newest one are retired
record Follows (plans : Plans) (w : World) (x : Voter) : Type 0 where
  grows : x.saved.oldest ≤ x.live.oldest
  live : (plan : ℕ) → plan + 2 ≤ x.live.newest → IsRetired plans w plan
  saved : (plan : ℕ) → plan + 2 ≤ x.saved.newest → IsRetired plans w plan

abbrev AllFollow : Plans → World → Type 0
AllFollow plans w = (v : ℕ) → Follows plans w (w v)

follows_later : (plans : Plans) (w after : World) → Grows w after → (x : Voter) → Follows plans w x → Follows plans after x
follows_later plans w after grows x is = record {
  grows = is.grows;
  live = λ plan few. still_retired plans w after grows plan (is.live plan few);
  saved = λ plan few. still_retired plans w after grows plan (is.saved plan few);
}

goes_on : (plans : Plans) (w : World) (v : ℕ) (y : Voter) → AllFollow plans w → (w v).saved.oldest ≤ y.saved.oldest → Follows plans w y → AllFollow plans (set w v y)
goes_on plans w v y is more follows =
    let grows = set_grows w v y more in
    set_all (λ u x. Follows plans (set w v y) x) w v y (follows_later plans w (set w v y) grows y follows) (λ u. follows_later plans w (set w v y) grows (w u) (is u))

give_on : (plans : Plans) (w : World) (x : Voter) (r : Request) (t : Bool) → Follows plans w x → Follows plans w (turned x (if t then record { vote = Some r; oldest = x.live.oldest; newest = x.live.newest } else x.live))
give_on plans w x r false is = record { grows = is.grows; live = is.live; saved = is.saved }
give_on plans w x r true is = record { grows = is.grows; live = is.live; saved = is.saved }

retire_on : (plans : Plans) (w : World) (x : Voter) (t : Bool) → Follows plans w x
    → Follows plans w (turned x (if t then record { vote = x.live.vote; oldest = x.live.oldest + 1; newest = x.live.newest } else x.live))
retire_on plans w x false is = record { grows = is.grows; live = is.live; saved = is.saved }
retire_on plans w x true is = record { grows = (let grows = is.grows in omega arith); live = is.live; saved = is.saved }

end_on : (plans : Plans) (w : World) (x : Voter) (r : Request) (t : Bool) → Follows plans w x → Follows plans w (end_at x r t)
end_on plans w x r false is = record { grows = is.grows; live = is.live; saved = is.saved }
end_on plans w x r true is = record { grows = is.grows; live = is.live; saved = is.saved }

take_on : (plans : Plans) (w : World) (x : Voter) → ((plan : ℕ) → plan + 1 ≡ x.live.newest → IsRetired plans w plan) → Follows plans w x → Follows plans w (turned x (next_taken x.live))
take_on plans w x last is = record {
  grows = is.grows;
  live = λ plan few. elim (cases_lt (plan + 1) x.live.newest) [
    | inl less ↦ is.live plan (omega arith)
    | inr least ↦ last plan (omega arith)
  ];
  saved = is.saved;
}

step_on : (count : ℕ) (plans : Plans) → IsSuccession count plans → (w : World) (e : Event) → AllFollow plans w → IsExchange plans w e → AllFollow plans (happens w e)
step_on count plans succession w (Gives v r) is rule = goes_on plans w v (turned (w v) (given (w v).live r)) is (omega arith) (give_on plans w (w v) r (may_give (w v).live r) (is v))
step_on count plans succession w (Ends v r) is rule = goes_on plans w v (end_at (w v) r (is_of (w v).live.vote r)) is (omega arith) (end_on plans w (w v) r (is_of (w v).live.vote r) (is v))
step_on count plans succession w (Takes v) is rule =
    goes_on plans w v (turned (w v) (next_taken (w v).live)) is (omega arith) (take_on plans w (w v) (followed count plans succession w (w v).live.newest rule) (is v))
step_on count plans succession w (Retires v) is rule = goes_on plans w v (turned (w v) (retired (w v).live)) is (omega arith) (retire_on plans w (w v) (may_retire (w v).live) (is v))
step_on count plans succession w (Saves v) is rule =
    goes_on plans w v (save_at (w v)) is (is v).grows (record { grows = omega arith; live = (is v).live; saved = (is v).live })
step_on count plans succession w (Crashes v) is rule =
    goes_on plans w v (turned (w v) (w v).saved) is (omega arith) (record { grows = omega arith; live = (is v).saved; saved = (is v).saved })

in_order : (plans : Plans) (w : World) (e : Event) → AllFollow plans w → IsInOrder plans w e
in_order plans w (Gives v r) is = λ may plan few.
    let parts = and_parts (is_none (w v).live.vote) (nat_le (w v).live.oldest r.plan && nat_le r.plan (w v).live.newest) may in
    let most : r.plan ≤ (w v).live.newest = (let h = (and_parts (nat_le (w v).live.oldest r.plan) (nat_le r.plan (w v).live.newest) parts.1).1 in grind (arith, nat_tests)) in
    (is v).live plan (omega arith)
in_order plans w (Ends v r) is = tt
in_order plans w (Takes v) is = tt
in_order plans w (Retires v) is = tt
in_order plans w (Saves v) is = tt
in_order plans w (Crashes v) is = tt

all_in_order : (count : ℕ) (plans : Plans) → IsSuccession count plans → (w : World) (es : List Event) → AllFollow plans w → AreExchanges plans w es → AreInOrder plans w es
all_in_order count plans succession w [] is rule = tt
all_in_order count plans succession w (e ∷ es) is rule = (in_order plans w e is, all_in_order count plans succession (happens w e) es (step_on count plans succession w e is rule.0) rule.1)

pub exchanges_in_order : (count : ℕ) (plans : Plans) (events : List Event) → IsSuccession count plans → AreExchanges plans first_world events → AreInOrder plans first_world events
exchanges_in_order count plans events succession rule = all_in_order count plans succession first_world events
    (λ v. record { grows = omega arith; live = λ plan few. absurd (omega arith); saved = λ plan few. absurd (omega arith) }) rule
