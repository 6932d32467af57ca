-- FAIL hinders, a client that is hindered gives back what it is asked for, and marks stay
use Rattle.std.proofs.Common.{◌≡◌, ℕ, Bool, true, false, ◌&&◌, ◌||◌, not, filter, refl, sym, ap, subst, ◌∙◌, inl, inr, arith}
use Rattle.std.specs.Prelude.{◌==◌}
use Rattle.std.proofs.lemmas.Bool.{false≢true, eq-eqb, or_left}
use Rattle.std.proofs.lemmas.Bool.Decides.{nat_tests}
use Rattle.numbers.specs.Sets.{has}
use Rattle.numbers.proofs.SetLemmas.{has-IsSet_below}
use Rattle.message.specs.declared.message.ToClient.{ToClient}
use Rattle.message.specs.declared.message.ClientBody.{ClientBody}
use Rattle.message.specs.declared.message.ClientBody.TheVariants as to_client
use Rattle.requester.specs.declared.state.ClientState.{ClientState}
use Rattle.requester.specs.Words.{is_asking, members, is_member, held_of, holds, is_failed, is_inquired, is_relinquished, is_hindered}
use Rattle.requester.specs.Soundness.{IsSound}
use Rattle.requester.specs.Steps.{fail, take_fail, take_fail_by, see, take, take_body}
use Rattle.requester.specs.Held.{IsGivenBack, KeepsMark}
use Rattle.requester.proofs.Giving.{failed-relinquish_each, moves-relinquish_each}
use Rattle.requester.proofs.Members.{absurd-true_false, has_with-self, list_any-member}
use Rattle.requester.proofs.Messages.{VoteFate-take}
use Rattle.requester.proofs.SoundSteps.{IsSound-see}

-- FAIL that counts hinders

hinders-take_fail_by : (b : Bool) (x : ClientState) (v : ℕ) → b ≡ true → is_member x v ≡ true → IsSound x → is_hindered (take_fail_by b x v).state ≡ true
hinders-take_fail_by false x v counts member s = absurd (false≢true counts)
hinders-take_fail_by true x v counts member s =
    let o = take_fail_by true x v in
    let rest = (moves-relinquish_each (fail x v) (filter (is_inquired (fail x v)) (members x))).rest in
    let below = has-IsSet_below (members x) v s.quorum member in
    let mark : is_failed o.state v ≡ true = ap (λ l. has l v) (failed-relinquish_each (fail x v) (filter (is_inquired (fail x v)) (members x))) ∙ has_with-self x.failed v below in
    let there : has (members o.state) v ≡ true = ap (λ (z : ClientState). has (members z) v) rest ∙ member in
    list_any-member (λ u. is_failed o.state u || is_relinquished o.state u) v (members o.state) there (or_left (is_failed o.state v) (is_relinquished o.state v) mark)

all_true : (a b c d : Bool) → a ≡ true → b ≡ true → c ≡ true → d ≡ false → (a && b && c && not d) ≡ true
all_true a b c d e f g h = grind (arith, nat_tests)

-- FAIL of the present request, from a member whose vote is not held: the client is hindered afterwards
pub hinders-fail : (x : ClientState) (v : ℕ) → is_asking x.phase ≡ true → is_member x v ≡ true → holds x v ≡ false → IsSound x → is_hindered (take_fail x v x.stamp).state ≡ true
unfolding take_fail
hinders-fail x v asking member free s =
    let now : (x.stamp == x.stamp) ≡ true = eq-eqb x.stamp x.stamp refl in
    hinders-take_fail_by _ x v (all_true (is_asking x.phase) (x.stamp == x.stamp) (is_member x v) (holds x v) asking now member free) member s

-- ---- any message

fails-body : (x : ClientState) (v : ℕ) (b : ClientBody) → IsSound x → is_asking x.phase ≡ true → is_member x v ≡ true → holds x v ≡ false → b ≡ to_client.Fail x.stamp
    → is_hindered (take_body x v b).state ≡ true
fails-body x v b s asking member free is = subst (λ c. is_hindered (take_body x v c).state ≡ true) (sym is) (hinders-fail x v asking member free s)

pub hinders-take : (x : ClientState) (m : ToClient) → IsSound x → is_asking x.phase ≡ true → is_member x m.voter ≡ true → holds x m.voter ≡ false → m.body ≡ to_client.Fail x.stamp
    → is_hindered (take x m).state ≡ true
unfolding take
hinders-take x m s asking member free is = fails-body (see x m.seen) m.voter m.body (IsSound-see x m.seen s) asking member free is

-- INQUIRE of a held vote, while hindered: it is given back
pub gives-take : (x : ClientState) (m : ToClient) → IsSound x → is_asking x.phase ≡ true → holds x m.voter ≡ true → is_hindered x ≡ true → m.body ≡ to_client.Inquire (held_of x m.voter)
    → IsGivenBack x (take x m) m.voter × (is_relinquished (take x m).state m.voter ≡ true)
gives-take x m s asking held hindered is = elim (VoteFate-take x m m.voter s) [
  | inl kept ↦ absurd-true_false (is_hindered x) hindered (kept.asked asking (record { voter = refl; body = is; held = held })).0
  | inr (inl brought) ↦ absurd-true_false (holds x m.voter) held brought.free
  | inr (inr back) ↦ ((held, back.gone, back.sent), back.given)
]

pub marks-take : (x : ClientState) (m : ToClient) (v : ℕ) → IsSound x → KeepsMark x (take x m).state v
marks-take x m v s = elim (VoteFate-take x m v s) [
  | inl kept ↦ inl (kept.last, λ was. inl (kept.given ∙ was))
  | inr (inl brought) ↦ inl (brought.last, λ _. inr brought.has)
  | inr (inr back) ↦ inr (back.had, back.last, back.given)
]
