-- Votes of a seat and of its client.
use Rattle.std.proofs.Common.{◌≡◌, ℕ, zero, suc, ◌≤◌, Bool, true, false, true≢false, not, ◌&&◌, List, [], ◌∷◌, refl, sym, ap, ◌∙◌, arith, drop, length, nat_lt}
use Rattle.std.specs.Prelude.{slice_index, slice_set}
use Rattle.std.proofs.lemmas.List.{at_drop_all, get_or-set_other}
use Rattle.std.proofs.lemmas.Grind.{same_number_lists}
use Rattle.std.proofs.lemmas.Bool.{and_parts}
use Rattle.std.proofs.lemmas.Bool.Decides.{nat_tests}
use mathlib.Core.Logic.{dite}
use native.Mathlib.Decide.{ℕ_discrete}
use Rattle.numbers.specs.Sets.{has}
use Rattle.message.specs.declared.message.ToClient.{ToClient}
use Rattle.message.specs.declared.message.ClientBody.{ClientBody}
use Rattle.message.specs.declared.message.ClientBody.TheVariants as to_client
use Rattle.requester.specs.declared.state.ClientState.{ClientState}
use Rattle.requester.specs.Steps.{would_hold, would_hold_body, is_fresh}
use Rattle.requester.specs.Words.{holds, is_member, is_current, last_of}
use Rattle.node.specs.Votes.{HoldsWithin, HoldsFewer, HoldsLocked, HoldsOnly}

-- a vote that was set to 0 is not held, whether the list has its place or not
pub dropped_is_0 : (held : List ℕ) (v : ℕ) → slice_index (slice_set held v 0) v ≡ 0
dropped_is_0 [] v = refl
dropped_is_0 (g ∷ gs) zero = refl
dropped_is_0 (g ∷ gs) (suc v) = dropped_is_0 gs v

-- the seat's votes, while those of these voters are still to be compared with the client's
pub record Compared (voters : ℕ) (rest held seat : List ℕ) : Type 0 where
  pub len : length seat ≡ 64
  pub within : HoldsWithin voters seat
  pub same : (v : ℕ) → has rest v ≡ false → slice_index seat v ≡ slice_index held v
  pub fewer : HoldsFewer held seat

pub Compared-all : (voters : ℕ) (quorum held seat : List ℕ) (n : ℕ) → length held ≡ 64 → length quorum ≤ n → Compared voters (drop n quorum) held seat → seat ≡ held
Compared-all voters quorum held seat n len past r =
    same_number_lists seat held (r.len ∙ sym len) (λ v lt. r.same v (at_drop_all (λ vs. has vs v) quorum n past))

-- A LOCKED that counts

not_held : (n : ℕ) → not (nat_lt 0 n) ≡ true → n ≡ 0
not_held n e = grind (arith, nat_tests)

fresh_parts : (x : ClientState) (voter grant : ℕ) → is_fresh x voter grant ≡ true → (is_member x voter ≡ true) × (slice_index x.held voter ≡ 0)
fresh_parts x voter grant e =
    let k = and_parts (is_member x voter) (not (holds x voter)) (and_parts (is_member x voter && not (holds x voter)) (nat_lt (last_of x voter) grant) e).0 in
    (k.0, not_held (slice_index x.held voter) k.1)

would_parts : (x : ClientState) (voter : ℕ) (b : ClientBody) → would_hold_body x voter b ≡ true → (is_member x voter ≡ true) × (slice_index x.held voter ≡ 0)
would_parts x voter (to_client.Locked stamp grant) e = fresh_parts x voter grant (and_parts (is_current x stamp) _ e).1
would_parts x voter b e = absurd (true≢false (sym e))

-- it is of a member's vote that is not held yet
pub member_and_free : (x : ClientState) (m : ToClient) → would_hold x m ≡ true → (is_member x m.voter ≡ true) × (slice_index x.held m.voter ≡ 0)
unfolding would_hold
member_and_free x m e = would_parts x m.voter m.body e

-- the seat then holds only votes of the client's quorum

HoldsOnly-locked : (voters : List ℕ) (voter : ℕ) (b : ClientBody) (seat after : List ℕ) → has voters voter ≡ true → HoldsOnly voters seat → HoldsLocked seat voter b after → HoldsOnly voters after
HoldsOnly-locked voters voter (to_client.Locked stamp grant) seat after member only locked = λ v out. dite (ℕ_discrete v voter)
    (λ e. absurd (true≢false (sym member ∙ sym (ap (has voters) e) ∙ out)))
    (λ ne. ap (λ l. slice_index l v) locked ∙ get_or-set_other seat voter v grant 0 ne ∙ only v out)
HoldsOnly-locked voters voter b seat after member only locked = absurd locked

pub HoldsOnly-hold : (voters : List ℕ) (voter : ℕ) (b : ClientBody) (taken : Bool) (seat after : List ℕ) → has voters voter ≡ true → HoldsOnly voters seat
    → (taken ≡ true → HoldsLocked seat voter b after) → (taken ≡ false → after ≡ seat) → HoldsOnly voters after
HoldsOnly-hold voters voter b true seat after member only locked kept = HoldsOnly-locked voters voter b seat after member only (locked refl)
HoldsOnly-hold voters voter b false seat after member only locked kept = λ v out. ap (λ l. slice_index l v) (kept refl) ∙ only v out
