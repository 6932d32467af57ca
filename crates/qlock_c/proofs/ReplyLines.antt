-- Each message of a voter has a line, so that its client takes it.
use Rattle.std.proofs.Common.{◌≡◌, ℕ, ◌<◌, ◌≤◌, ◌^◌, ◌+◌, ◌-◌, true, false, List, [], ◌∷◌, ◌++◌, length, Option, Some, None, refl, sym, ap, subst, subst₂, ◌∙◌, arith, get_or, ltb}
use Rattle.std.specs.Prelude.{◌==◌, if◌then◌else◌, unwrap_or}
use Rattle.std.specs.FinMap.{get}
use Rattle.std.proofs.lemmas.Bool.Decides.{nat_tests}
use Rattle.std.proofs.lemmas.List.{get_or_append_left, get_or-append_right, length-append}
use Rattle.std.proofs.lemmas.List.FromFn.{get_or-map-range_with_len, length-map-range_with_len}
use Rattle.std.proofs.lemmas.Option.{same_Some, none-some}
use Rattle.message.specs.Lines.{AreCounts, IsCount}
use Rattle.message.specs.declared.message.ClientBody.{ClientBody}
use Rattle.message.specs.declared.message.ClientBody.TheVariants as to_client
use Rattle.message.specs.declared.message.ToClient.{ToClient}
use Rattle.message.specs.declared.message.ToVoter.{ToVoter}
use Rattle.voter.specs.declared.state.Grant.{Grant}
use Rattle.voter.specs.declared.state.VoterState.{VoterState}
use Rattle.voter.specs.Replies.{AllCarry, AllReportPlace, ReportsPlace}
use Rattle.voter.specs.Saved.{IsHolder, IsKept, grant_words, head_words, header, truth_word, words_of}
use Rattle.voter.specs.Leases.{evict, evict_held, release_of}
use Rattle.voter.specs.Steps.{Outcome, no_reply, remind, step}
use Rattle.voter.specs.VoterContract.{AllReport, ReportsVote}
use Rattle.voter.specs.Waiting.{waiting_words}
use Rattle.voter.proofs.Contract.{MeetsContract-step}
use Rattle.voter.proofs.ReplyLemmas.{AllCarry-remind, AllReport-remind, AllReportPlace-remind, AreAnswers-step, CarrySeen-step}
use Rattle.words.specs.WordBytes.{FitIn64Bits}
use Rattle.lock_blocks.specs.Bytes.{IsVoter}
use Rattle.lock_blocks.specs.Lines.{ClientsCanRead}
use Rattle.lock_blocks.specs.Sent.{OfEachVoter}

-- The numbers of a voter fit

seen_fits : (v : VoterState) → FitIn64Bits (words_of v) → v.seen < 2 ^ 64
unfolding words_of
seen_fits v fit = fit 4 0 (omega arith)

held_fits : (v : VoterState) (g : Grant) → FitIn64Bits (words_of v) → v.held ≡ Some g → (g.stamp < 2 ^ 64) × (g.grant < 2 ^ 64)
unfolding words_of
held_fits v g fit is =
    let words : FitIn64Bits ((header ∷ v.id ∷ v.limit ∷ v.granted ∷ v.seen ∷ truth_word v.inquiring ∷ grant_words (Some g)) ++ (waiting_words v.waiting ++ v.finished)) =
    subst (λ o. FitIn64Bits ((header ∷ v.id ∷ v.limit ∷ v.granted ∷ v.seen ∷ truth_word v.inquiring ∷ grant_words o) ++ (waiting_words v.waiting ++ v.finished))) is fit in
    (words 8 0 (omega arith), words 9 0 (omega arith))

length-grant_words : (o : Option Grant) → length (grant_words o) ≡ 4
length-grant_words None = refl
length-grant_words (Some g) = refl

waiting_at : (v : VoterState) (c s : ℕ) → c < 64 → get v.waiting c ≡ Some s → get_or (waiting_words v.waiting ++ v.finished) c 0 ≡ s
waiting_at v c s few is =
    let all = length-map-range_with_len (λ k. unwrap_or (get v.waiting k) 0) 0 64 in
    get_or_append_left (waiting_words v.waiting) v.finished 0 c (omega (arith, all)) ∙ get_or-map-range_with_len (λ k. unwrap_or (get v.waiting k) 0) 0 64 c c 0 few (omega arith) ∙ ap (λ o. unwrap_or o 0) is

waiting_fits : (v : VoterState) (c s : ℕ) → FitIn64Bits (words_of v) → c < 64 → get v.waiting c ≡ Some s → s < 2 ^ 64
unfolding words_of
waiting_fits v c s fit few is =
    let head : length (head_words v) ≡ 10 = omega (arith, length-grant_words v.held) in
    let all = length-map-range_with_len (λ k. unwrap_or (get v.waiting k) 0) 0 64 in
    let long = length-append (head_words v) (waiting_words v.waiting ++ v.finished) in
    let longer = length-append (waiting_words v.waiting) v.finished in
    let back : 10 + c - 10 ≡ c = omega arith in
    let at : get_or (words_of v) (10 + c) 0 ≡ s = get_or-append_right (head_words v) (waiting_words v.waiting ++ v.finished) 10 (10 + c) 0 head (omega arith) ∙ ap (λ k. get_or (waiting_words v.waiting ++ v.finished) k 0) back ∙ waiting_at v c s few is in
    subst (λ n. n < 2 ^ 64) at (fit (10 + c) 0 (omega (arith, head, all, long, longer)))

-- What one message says

few_wait : (v : VoterState) → IsKept v → (c s : ℕ) → get v.waiting c ≡ Some s → c < 64
few_wait v kept c s is = elim (ltb c 64) as (λ b. ltb c 64 ≡ b → c < 64) [
  | true ↦ λ e. grind (arith, nat_tests)
  | false ↦ λ e. let past : 64 ≤ c = grind (arith, nat_tests) in absurd (none-some s (sym (kept.few c past) ∙ is))
] refl

vote_counts : (v : VoterState) (g : Grant) → IsKept v → FitIn64Bits (words_of v) → v.held ≡ Some g → (g.client ≤ 63) × IsCount g.stamp × IsCount g.grant
vote_counts v g kept fit is =
    let holder : IsHolder (Some g) = subst (λ o. IsHolder o) is kept.holder in
    let fits = held_fits v g fit is in
    (let few = holder.0 in omega arith, (holder.1, fits.0), (holder.2, fits.1))

counts : (v : VoterState) (c : ℕ) (body : ClientBody) → IsKept v → FitIn64Bits (words_of v) → ReportsVote v.held c body → ReportsPlace v c body → (c ≤ 63) × AreCounts body
counts v c (to_client.Locked stamp grant) kept fit vote place =
    let all = vote_counts v (record { client = c; stamp = stamp; grant = grant }) kept fit vote in
    (all.0, (all.1, all.2))
counts v c (to_client.Fail stamp) kept fit vote place =
    let few : c < 64 = few_wait v kept c stamp place in
    (omega arith, (kept.stamped c stamp place, waiting_fits v c stamp fit few place))
counts v c (to_client.Inquire grant) kept fit vote place =
    let all = vote_counts v place.0 kept fit place.1 in
    (subst (λ n. n ≤ 63) place.2 all.0, subst IsCount place.3 all.2)

has_line : (v : VoterState) (r : ToClient) → IsKept v → FitIn64Bits (words_of v) → (r.voter ≡ v.id) × (r.seen ≡ v.seen) → ReportsVote v.held r.client r.body → ReportsPlace v r.client r.body
    → (r.voter ≤ 63) × (r.client ≤ 63) × (r.seen < 2 ^ 64) × AreCounts r.body
has_line v r kept fit carries vote place =
    let body = counts v r.client r.body kept fit vote place in
    let few = kept.id in
    let same = carries.0 in
    (omega arith, body.0, subst (λ n. n < 2 ^ 64) (sym carries.1) (seen_fits v fit), body.1)

-- All messages of a voter

can_read : (v : VoterState) (rs : List ToClient) → IsKept v → FitIn64Bits (words_of v) → AllCarry v.id v.seen rs → AllReport v.held rs → AllReportPlace v rs → ClientsCanRead rs
can_read v [] kept fit carry report place = tt
can_read v (r ∷ rs) kept fit carry report place = (has_line v r kept fit carry.0 report.0 place.0, can_read v rs kept fit carry.1 report.1 place.1)

step_can_be_read : (v : VoterState) (m : ToVoter) (o : Outcome) (after : List ℕ) → IsKept v → step v m ≡ Some o → IsVoter after o.state → ClientsCanRead o.replies
step_can_be_read v m o after kept is saved =
    let carry = CarrySeen-step v m o is in
    can_read o.state o.replies saved.kept saved.fit
    (subst₂ (λ id seen. AllCarry id seen o.replies) (sym carry.id) (sym carry.seen) carry.carried)
    (MeetsContract-step v m o is).heard (AreAnswers-step v m o kept.sound is).place

remind_can_be_read : (v : VoterState) (bytes : List ℕ) → IsVoter bytes v → ClientsCanRead (remind v)
remind_can_be_read v bytes is = can_read v (remind v) is.kept is.fit (AllCarry-remind v) (AllReport-remind v) (AllReportPlace-remind v)

evicted_by : (o : Option Grant) (v : VoterState) (grant : ℕ) (out : Outcome) (after : List ℕ) → IsKept v → evict_held o v grant ≡ Some out → IsVoter after out.state → ClientsCanRead out.replies
evicted_by None v grant out after kept is saved = subst (λ (p : Outcome). ClientsCanRead p.replies) (same_Some _ _ is) tt
evicted_by (Some g) v grant out after kept is saved = elim (g.grant == grant) as (λ b. (if b then step v (release_of v g) else Some (no_reply v)) ≡ Some out → ClientsCanRead out.replies) [
  | true ↦ λ e. step_can_be_read v (release_of v g) out after kept e saved
  | false ↦ λ e. subst (λ (p : Outcome). ClientsCanRead p.replies) (same_Some _ _ e) tt
] is

evict_can_be_read : (v : VoterState) (grant : ℕ) (o : Outcome) (after : List ℕ) → IsKept v → evict v grant ≡ Some o → IsVoter after o.state → ClientsCanRead o.replies
evict_can_be_read v grant o after kept is saved = evicted_by v.held v grant o after kept is saved

pub voters_can_be_read : OfEachVoter ClientsCanRead
voters_can_be_read = record {
  steps = λ before after v m o is steps saved. step_can_be_read v m o after is.kept steps saved;
  evictions = λ before after v grant o is evicts saved. evict_can_be_read v grant o after is.kept evicts saved;
  reminders = λ bytes v is. remind_can_be_read v bytes is;
}
