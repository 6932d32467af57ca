-- How long the lines of a call are.
use Rattle.std.proofs.Common.{◌≡◌, ℕ, ◌+◌, ◌*◌, ◌<◌, ◌≤◌, ◌^◌, Bool, true, false, List, [], ◌∷◌, ◌++◌, length, Option, Some, None, Ok, refl, ap, subst, arith}
use Rattle.std.specs.Prelude.{◌==◌, map, not, filter, if◌then◌else◌}
use Rattle.std.specs.Fmt.{decimal}
use Rattle.std.specs.List.{flat_map}
use Rattle.std.proofs.lemmas.Fmt.{length-decimal-le}
use Rattle.std.proofs.lemmas.List.{length-append, length-map}
use Rattle.std.proofs.lemmas.List.Filters.{length-filter_both}
use Rattle.std.proofs.lemmas.Option.{none-some, same_Some}
use Rattle.std.specs.Result.{result_ok}
use Rattle.numbers.specs.Sets.{IsSet}
use Rattle.message.specs.Lines.{AreCounts, HasLine, client_numbers, client_word, voter_number, voter_word}
use Rattle.message.specs.declared.message.ClientBody.{ClientBody}
use Rattle.message.specs.declared.message.ClientBody.TheVariants as to_client
use Rattle.message.specs.declared.message.Message.TheVariants as kinds
use Rattle.message.specs.declared.message.ToClient.{ToClient}
use Rattle.message.specs.declared.message.ToVoter.{ToVoter}
use Rattle.message.specs.declared.message.VoterBody.{VoterBody}
use Rattle.message.specs.declared.message.VoterBody.TheVariants as asks
use Rattle.requester.specs.declared.state.ClientState.{ClientState}
use Rattle.requester.specs.declared.state.Phase.{Phase}
use Rattle.requester.specs.declared.state.Phase.TheVariants.{Idle, Asking, Inside}
use Rattle.requester.specs.Words.{holds, is_inquired, is_relinquished, members}
use Rattle.requester.specs.Leases.{disclaim, disclaim_in, disclaim_unless, renew, renew_in}
use Rattle.requester.specs.Steps as client
use Rattle.requester.specs.Steps.{Asks, Cause, GivesUp, Leaves, Takes}
use Rattle.requester.proofs.Members.{length-IsSet}
use Rattle.requester.proofs.SoundSteps.{Ok-same, ask-Ok, give_up-Ok, leave-Ok}
use Rattle.texts.specs.Fields.{fields}
use Rattle.voter.specs.declared.state.Grant.{Grant}
use Rattle.voter.specs.declared.state.VoterState.{VoterState}
use Rattle.voter.specs.Leases.{evict, evict_held, release_of}
use Rattle.voter.specs.Steps as voter
use Rattle.voter.proofs.ReplyLemmas.{AreAnswers-step}
use Rattle.qlock_c.proofs.ClientLines.{clients_can_be_read}
use Rattle.qlock_c.proofs.ReplyLines.{voters_can_be_read}
use Rattle.lock_blocks.specs.Bytes.{IsClient}
use Rattle.lock_blocks.specs.Lines.{ClientsCanRead, VotersCanRead, line_of, lines_to_clients, lines_to_voters}
use Rattle.lock_blocks.specs.Sent.{Comes, FitClientRoom, FitVoterRoom, OfEachClient, OfEachVoter}

-- One line

id_short : (n : ℕ) → n ≤ 63 → length (decimal n) ≤ 2
id_short n few = length-decimal-le 2 n (omega arith) (omega arith) (omega arith)

number_short : (n : ℕ) → n < 2 ^ 64 → length (decimal n) ≤ 20
number_short n fits = length-decimal-le 20 n (omega arith) (omega arith) fits

-- a line of a word and fields, with its newline
length-line : (word more : List ℕ) → length ((word ++ more) ++ 10 ∷ []) ≡ length word + length more + 1
length-line word more = omega (arith, length-append (word ++ more) (10 ∷ []), length-append word more)

length-fields : (n : ℕ) (ns : List ℕ) → length (fields (n ∷ ns)) ≡ 1 + length (decimal n) + length (fields ns)
length-fields n ns =
    let long : length (fields (n ∷ ns)) ≡ length (32 ∷ decimal n) + length (fields ns) = length-append (32 ∷ decimal n) (fields ns) in
    omega (arith, long)

voter_word_short : (b : VoterBody) → length (voter_word b) ≤ 10
voter_word_short (asks.Request stamp) = omega arith
voter_word_short (asks.Relinquish grant) = omega arith
voter_word_short (asks.Release stamp) = omega arith

to_voter_short : (m : ToVoter) → HasLine (kinds.ToVoter m) → length (line_of (kinds.ToVoter m)) ≤ 38
to_voter_short m has =
    let n = voter_number m.body in
    let long = length-line (voter_word m.body) (fields (m.client ∷ m.voter ∷ n ∷ [])) in
    let one = length-fields m.client (m.voter ∷ n ∷ []) in
    let two = length-fields m.voter (n ∷ []) in
    let three = length-fields n [] in
    let word = voter_word_short m.body in
    let from = id_short m.client has.0 in
    let to = id_short m.voter has.1 in
    let number = number_short n has.2.1 in
    omega (arith, long, one, two, three, word, from, to, number)

-- the word and the numbers of the body
body_short : (b : ClientBody) (seen : ℕ) → seen < 2 ^ 64 → AreCounts b → length (client_word b) + length (fields (client_numbers b ++ seen ∷ [])) ≤ 69
body_short (to_client.Locked stamp grant) seen fits counts =
    let one = length-fields stamp (grant ∷ seen ∷ []) in
    let two = length-fields grant (seen ∷ []) in
    let three = length-fields seen [] in
    let first = number_short stamp counts.0.1 in
    let second = number_short grant counts.1.1 in
    let third = number_short seen fits in
    omega (arith, one, two, three, first, second, third)
body_short (to_client.Fail stamp) seen fits counts =
    let one = length-fields stamp (seen ∷ []) in
    let two = length-fields seen [] in
    let first = number_short stamp counts.1 in
    let second = number_short seen fits in
    omega (arith, one, two, first, second)
body_short (to_client.Inquire grant) seen fits counts =
    let one = length-fields grant (seen ∷ []) in
    let two = length-fields seen [] in
    let first = number_short grant counts.1 in
    let second = number_short seen fits in
    omega (arith, one, two, first, second)

to_client_short : (m : ToClient) → HasLine (kinds.ToClient m) → length (line_of (kinds.ToClient m)) ≤ 76
to_client_short m has =
    let numbers = client_numbers m.body ++ m.seen ∷ [] in
    let long = length-line (client_word m.body) (fields (m.voter ∷ m.client ∷ numbers)) in
    let one = length-fields m.voter (m.client ∷ numbers) in
    let two = length-fields m.client numbers in
    let from = id_short m.voter has.0 in
    let to = id_short m.client has.1 in
    let body = body_short m.body m.seen has.2 has.3 in
    omega (arith, long, one, two, from, to, body)

-- All lines

to_voters_short : (ms : List ToVoter) → VotersCanRead ms → length (lines_to_voters ms) ≤ 38 * length ms
to_voters_short [] read = omega arith
to_voters_short (m ∷ ms) read =
    let long = length-append (line_of (kinds.ToVoter m)) (lines_to_voters ms) in
    let one = to_voter_short m read.0 in
    let others = to_voters_short ms read.1 in
    omega (arith, long, one, others)

to_clients_short : (ms : List ToClient) → ClientsCanRead ms → length (lines_to_clients ms) ≤ 76 * length ms
to_clients_short [] read = omega arith
to_clients_short (m ∷ ms) read =
    let long = length-append (line_of (kinds.ToClient m)) (lines_to_clients ms) in
    let one = to_client_short m read.0 in
    let others = to_clients_short ms read.1 in
    omega (arith, long, one, others)

-- How many a voter sends

inquiry_few : (again : Bool) (v : VoterState) (g : Grant) → length (voter.inquiry_again again v g) ≤ 1
inquiry_few true v g = omega arith
inquiry_few false v g = omega arith

remind_of_few : (o : Option Grant) (v : VoterState) → length (voter.remind_of o v) ≤ 3
remind_of_few None v = omega arith
remind_of_few (Some g) v = let few = inquiry_few v.inquiring v g in omega arith

reminders_few : (v : VoterState) → length (voter.remind v) ≤ 3
unfolding voter.remind
reminders_few v = remind_of_few v.held v

evicted_few : (o : Option Grant) (v : VoterState) (grant : ℕ) (out : voter.Outcome) → voter.IsSound v → evict_held o v grant ≡ Some out → length out.replies ≤ 3
evicted_few None v grant out sound is = subst (λ (p : voter.Outcome). length p.replies ≤ 3) (same_Some _ _ is) (omega arith)
evicted_few (Some g) v grant out sound is = elim (g.grant == grant) as (λ b. (if b then voter.step v (release_of v g) else Some (voter.no_reply v)) ≡ Some out → length out.replies ≤ 3) [
  | true ↦ λ e. (AreAnswers-step v (release_of v g) out sound e).few
  | false ↦ λ e. subst (λ (p : voter.Outcome). length p.replies ≤ 3) (same_Some _ _ e) (omega arith)
] is

evict_few : (v : VoterState) (grant : ℕ) (o : voter.Outcome) → voter.IsSound v → evict v grant ≡ Some o → length o.replies ≤ 3
evict_few v grant o sound is = evicted_few v.held v grant o sound is

-- How many a client sends

relinquish_few : (b : Bool) (x : ClientState) (v : ℕ) → length (client.relinquish_if b x v).out ≤ 1
relinquish_few false x v = omega arith
relinquish_few true x v = omega arith

one_few : (x : ClientState) (v : ℕ) → length (client.relinquish x v).out ≤ 1
unfolding client.relinquish
one_few x v = relinquish_few (holds x v) x v

each_few : (x : ClientState) (vs : List ℕ) → length (client.relinquish_each x vs).out ≤ length vs
each_few x [] = omega arith
each_few x (v ∷ vs) =
    let y = (client.relinquish x v).state in
    let long = length-append (client.relinquish x v).out (client.relinquish_each y vs).out in
    let one = one_few x v in
    let others = each_few y vs in
    omega (arith, long, one, others)

inquired_few : (x : ClientState) → length (client.relinquish_inquired x (members x)).out ≤ length (members x)
inquired_few x =
    let each = each_few x (filter (is_inquired x) (members x)) in
    let part = length-filter_both (is_inquired x) (λ v. not (is_inquired x v)) (λ v. refl) (members x) in
    omega (arith, each, part)

enter_few : (b : Bool) (x : ClientState) → length (client.enter_if b x).out ≤ 64
enter_few false x = omega arith
enter_few true x = omega arith

locked_few : (current fresh : Bool) (x : ClientState) (voter stamp grant : ℕ) → length (client.take_locked_by current fresh x voter stamp grant).out ≤ 64
locked_few false fresh x voter stamp grant = omega arith
locked_few true false x voter stamp grant = omega arith
locked_few true true x voter stamp grant = enter_few _ (client.hold x voter grant)

fail_few : (b : Bool) (x : ClientState) (voter : ℕ) → length (members x) ≤ 64 → length (client.take_fail_by b x voter).out ≤ 64
fail_few false x voter few = omega arith
fail_few true x voter few = let all = inquired_few (client.fail x voter) in omega (arith, few, all)

inquire_few : (b hindered : Bool) (x : ClientState) (voter : ℕ) → length (client.take_inquire_by b hindered x voter).out ≤ 64
inquire_few false hindered x voter = omega arith
inquire_few true false x voter = omega arith
inquire_few true true x voter = let one = one_few x voter in omega (arith, one)

body_few : (x : ClientState) (voter : ℕ) (b : ClientBody) → length (members x) ≤ 64 → length (client.take_body x voter b).out ≤ 64
unfolding client.take_locked client.take_fail client.take_inquire
body_few x voter (to_client.Locked stamp grant) few = locked_few _ _ x voter stamp grant
body_few x voter (to_client.Fail stamp) few = fail_few _ x voter few
body_few x voter (to_client.Inquire grant) few = inquire_few _ _ x voter

take_few : (x : ClientState) (m : ToClient) → length (members x) ≤ 64 → length (client.take x m).out ≤ 64
unfolding client.take
take_few x m few = body_few (client.see x m.seen) m.voter m.body few

-- a message to each voter of a set
told_few : (x : ClientState) (body : VoterBody) (q : List ℕ) → IsSet q → length (map (λ v. client.tell x v body) q) ≤ 128
told_few x body q set =
    let same = length-map q (λ v. client.tell x v body) in
    let few = length-IsSet q set in
    omega (arith, same, few)

steps_few : (bytes : List ℕ) (x : ClientState) (cause : Cause) (o : client.Outcome) → IsClient bytes x → Comes cause → client.step x cause ≡ Ok o → length o.out ≤ 128
unfolding client.step
steps_few bytes x (Asks q) o is comes e =
    let k = ask-Ok x q o e in
    subst (λ (p : client.Outcome). length p.out ≤ 128) k.2 (told_few (client.begin_request x q) (asks.Request (x.clock + 1)) q comes)
steps_few bytes x (Takes m) o is comes e =
    let few = take_few x m (length-IsSet (members x) is.kept.sound.quorum) in
    subst (λ (p : client.Outcome). length p.out ≤ 128) (Ok-same (client.take x m) o e) (omega (arith, few))
steps_few bytes x Leaves o is comes e =
    subst (λ (p : client.Outcome). length p.out ≤ 128) (leave-Ok x o e).1 (told_few x (asks.Release x.stamp) (members x) is.kept.sound.quorum)
steps_few bytes x GivesUp o is comes e =
    subst (λ (p : client.Outcome). length p.out ≤ 128) (give_up-Ok x o e).1 (told_few x (asks.Release x.stamp) (members x) is.kept.sound.quorum)

remind_by_few : (held given : Bool) (x : ClientState) (v : ℕ) → length (client.remind_by held given x v) ≤ 2
remind_by_few true given x v = omega arith
remind_by_few false false x v = omega arith
remind_by_few false true x v = omega arith

remind_all_few : (x : ClientState) (vs : List ℕ) → length (flat_map (client.remind_member x) vs) ≤ 2 * length vs
remind_all_few x [] = omega arith
remind_all_few x (v ∷ vs) =
    let long = length-append (client.remind_member x v) (flat_map (client.remind_member x) vs) in
    let one = remind_by_few (holds x v) (is_relinquished x v) x v in
    let others = remind_all_few x vs in
    omega (arith, long, one, others)

remind_in_few : (p : Phase) (x : ClientState) → IsSet (members x) → length (client.remind_in p x) ≤ 128
remind_in_few Asking x set =
    let all = remind_all_few x (members x) in
    let few = length-IsSet (members x) set in
    omega (arith, all, few)
remind_in_few Idle x set = omega arith
remind_in_few Inside x set = omega arith

remind_few : (x : ClientState) → IsSet (members x) → length (client.remind x) ≤ 128
unfolding client.remind
remind_few x set = remind_in_few x.phase x set

disclaim_unless_few : (none : Bool) (x : ClientState) (voters : List ℕ) → IsSet voters → length (disclaim_unless none x voters) ≤ 128
disclaim_unless_few true x voters set = omega arith
disclaim_unless_few false x voters set = told_few x (asks.Release x.stamp) voters set

disclaim_in_few : (p : Phase) (x : ClientState) (voters : List ℕ) (sent : List ToVoter) → IsSet voters → disclaim_in p x voters ≡ Ok sent → length sent ≤ 128
disclaim_in_few Idle x voters sent set e = subst (λ (ms : List ToVoter). length ms ≤ 128) (Ok-same _ sent e) (disclaim_unless_few _ x voters set)
disclaim_in_few Asking x voters sent set e = absurd (none-some sent (ap result_ok e))
disclaim_in_few Inside x voters sent set e = absurd (none-some sent (ap result_ok e))

disclaim_few : (x : ClientState) (voters : List ℕ) (sent : List ToVoter) → IsSet voters → disclaim x voters ≡ Ok sent → length sent ≤ 128
disclaim_few x voters sent set e = disclaim_in_few x.phase x voters sent set e

renew_in_few : (p : Phase) (x : ClientState) → IsSet (members x) → length (renew_in p x) ≤ 128
renew_in_few Inside x set = told_few x (asks.Request x.stamp) (members x) set
renew_in_few Idle x set = omega arith
renew_in_few Asking x set = omega arith

renew_few : (x : ClientState) → IsSet (members x) → length (renew x) ≤ 128
renew_few x set = renew_in_few x.phase x set

-- The rooms

voters_short : (ms : List ToClient) → ClientsCanRead ms → length ms ≤ 3 → FitVoterRoom ms
voters_short ms read few = let short = to_clients_short ms read in omega (arith, short, few)

clients_short : (ms : List ToVoter) → VotersCanRead ms → length ms ≤ 128 → FitClientRoom ms
clients_short ms read few = let short = to_voters_short ms read in omega (arith, short, few)

pub voters_fit : OfEachVoter FitVoterRoom
voters_fit = record {
  steps = λ before after v m o is steps saved.
      voters_short o.replies (voters_can_be_read.steps before after v m o is steps saved) (AreAnswers-step v m o is.kept.sound steps).few;
  evictions = λ before after v grant o is evicts saved.
      voters_short o.replies (voters_can_be_read.evictions before after v grant o is evicts saved) (evict_few v grant o is.kept.sound evicts);
  reminders = λ bytes v is. voters_short (voter.remind v) (voters_can_be_read.reminders bytes v is) (reminders_few v);
}

pub clients_fit : OfEachClient FitClientRoom
clients_fit = record {
  steps = λ bytes x cause o is comes steps.
      clients_short o.out (clients_can_be_read.steps bytes x cause o is comes steps) (steps_few bytes x cause o is comes steps);
  reminders = λ bytes x is. clients_short (client.remind x) (clients_can_be_read.reminders bytes x is) (remind_few x is.kept.sound.quorum);
  disclaims = λ bytes x voters sent is set says.
      clients_short sent (clients_can_be_read.disclaims bytes x voters sent is set says) (disclaim_few x voters sent set says);
  renewals = λ bytes x is. clients_short (renew x) (clients_can_be_read.renewals bytes x is) (renew_few x is.kept.sound.quorum);
}
