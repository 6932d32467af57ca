-- requests are known only at members of their quorums, and votes are asked back, after every run
use Rattle.std.proofs.Common.{◌≡◌, ◌≢◌, ℕ, ◌+◌, ◌≤◌, true, List, [], ◌∷◌, map, Ok, refl, sym, ap, subst, ◌∙◌, ◌⊎◌, inl, inr, arith}
use Rattle.std.specs.List.{AllByRecursion}
use Rattle.std.proofs.lemmas.Bool.{cases_eq, false≢true}
use Rattle.std.proofs.lemmas.Bool.Decides.{nat_tests}
use Rattle.numbers.specs.Sets.{has}
use Rattle.numbers.proofs.Options.{false-by}
use Rattle.numbers.proofs.Lists.{AllByRecursion-append, AllByRecursion-get, AllByRecursion-weaker}
use Rattle.message.specs.declared.message.Message.{Message}
use Rattle.message.specs.declared.message.Message.TheVariants as kinds
use Rattle.message.specs.declared.message.ToClient.{ToClient}
use Rattle.message.specs.declared.message.ToVoter.{ToVoter}
use Rattle.message.specs.declared.message.VoterBody.{VoterBody}
use Rattle.message.specs.declared.message.VoterBody.TheVariants as asks
use Rattle.voter.specs.declared.state.VoterState.{VoterState}
use Rattle.voter.specs.Entries.{AsksBack}
use Rattle.voter.specs.Steps as voter
use Rattle.voter.specs.VoterContract.{Brings, IsEntry}
use Rattle.requester.specs.declared.state.ClientState.{ClientState}
use Rattle.requester.specs.RequesterContract.{AllSay, AllRepeat, IsLater, KeepsQuorum, RemindersInRange}
use Rattle.requester.specs.Soundness.{IsSound}
use Rattle.requester.specs.Steps as requester
use Rattle.requester.specs.Votes.{IsGiving, IsReleasing}
use Rattle.requester.proofs.Messages.{SendsBack-take}
use Rattle.requester.specs.Words.{is_current, is_idle, is_member, members}
use Rattle.world.specs.Coherence.{AskOk, IsCoherent, MessageOk}
use Rattle.world.specs.Runs.{start}
use Rattle.world_state.specs.Steps.{WorldState, client_at, voter_at}
use Rattle.progress.proofs.invariants.Always.{Always, VoterHasSeen, Heeds, Heeds-client, Heeds-sent, Heeds-voter, heeds, heeds_all, none_entry, new_voter}
use Rattle.world.proofs.Reached.{new_voters}
use Rattle.progress.proofs.overtaking.Behind.{ask-Ok, is_current_of, meets}
use Rattle.progress.proofs.invariants.Fitting.{current_busy, current_stamp, take-Ok}
use Rattle.progress.specs.Rules.{Laws}
use Rattle.progress.proofs.run.Moves.{ClientMoved, IsReminder, Moved, OnlySent, VoterMoved, all_sent, each_client, each_voter}

-- a REQUEST for the request that runs went to a member of its quorum
abbrev pub AskedBy : ClientState → ℕ → VoterBody → Type 0
AskedBy x v (asks.Request s) = is_current x s ≡ true → is_member x v ≡ true
AskedBy x v (asks.Relinquish g) = Unit {0}
AskedBy x v (asks.Release s) = Unit {0}

abbrev pub AskedAt : List ClientState → Message → Type 0
AskedAt cs (kinds.ToVoter m) = AskedBy (client_at cs m.client) m.voter m.body
AskedAt cs (kinds.ToClient m) = Unit {0}

-- the voter knows a request that runs only if it is a member of its quorum
abbrev pub IsPlaced : ℕ → ClientState → ℕ → VoterState → Type 0
IsPlaced c x v y = (s : ℕ) → IsEntry y c s → is_current x s ≡ true → is_member x v ≡ true

pub record Placed (cs : List ClientState) (vs : List VoterState) (sent : List Message) : Type 0 where
  pub asked : AllByRecursion (AskedAt cs) sent
  pub places : (v c : ℕ) → IsPlaced c (client_at cs c) v (voter_at vs v)
  pub back : (v : ℕ) → AsksBack (voter_at vs v)

-- ---- words

idle_not_current : (x : ClientState) (s : ℕ) → is_idle x.phase ≡ true → is_current x s ≡ true → ⊥
idle_not_current x s idle is = false≢true (sym (current_busy x s is) ∙ idle)

-- ---- a client moves

-- a request that runs after a step, and was made before, ran before
ran_before : (x z : ClientState) (s : ℕ) → IsLater x z → s ≤ x.stamp → is_current z s ≡ true → (z.stamp ≡ x.stamp) × (is_current x s ≡ true)
ran_before x z s later most is =
    let same = current_stamp z s is in
    let rises = later.stamp in
    let stamp : z.stamp ≡ x.stamp = omega arith in
    let mine : s ≡ x.stamp = omega arith in
    (stamp, is_current_of x s (false-by _ _ (later.idle (sym stamp)) (current_busy z s is)) mine)

pub same_members : (x z : ClientState) (cause : requester.Cause) (o : requester.Outcome) → IsSound x → requester.step x cause ≡ Ok o → o.state ≡ z → KeepsQuorum x cause z
    → z.stamp ≡ x.stamp → members z ≡ members x
same_members x z (requester.Asks q) o sound taken is keeps same =
    let stamp : x.clock + 1 ≡ z.stamp = ap (λ (p : requester.Outcome). p.state.stamp) (ask-Ok x q o taken) ∙ ap (λ (w : ClientState). w.stamp) is in
    let behind = sound.clock in
    absurd (omega arith)
same_members x z (requester.Takes m) o sound taken is keeps same = keeps.0
same_members x z requester.Leaves o sound taken is keeps same = keeps.0
same_members x z requester.GivesUp o sound taken is keeps same = keeps.0

-- ---- what a client sends

abbrev AllAsked : ClientState → List ToVoter → Type 0
AllAsked z out = AllByRecursion (λ m. AskedBy z m.voter m.body) out

abbrev pub NoRequest : VoterBody → Type 0
NoRequest (asks.Request s) = ⊥
NoRequest (asks.Relinquish g) = Unit {0}
NoRequest (asks.Release s) = Unit {0}

abbrev pub NoRequests : List ToVoter → Type 0
NoRequests out = AllByRecursion (λ m. NoRequest m.body) out

pub no-take : (x : ClientState) (m : ToClient) → IsSound x → NoRequests (requester.take x m).out
no-take x m sound =
    let o = requester.take x m in
    AllByRecursion-weaker (λ n. IsGiving m x o n ⊎ IsReleasing m x n) (λ n. NoRequest n.body) (λ n back. elim back [
      | inl gives ↦ subst NoRequest (sym gives.body) tt
      | inr releases ↦ subst NoRequest (sym releases.body) tt
    ]) o.out (SendsBack-take x m sound)

no_ask : (z : ClientState) (v : ℕ) (b : VoterBody) → NoRequest b → AskedBy z v b
no_ask z v (asks.Request s) none = absurd none
no_ask z v (asks.Relinquish g) none = tt
no_ask z v (asks.Release s) none = tt

none_asked : (z : ClientState) (out : List ToVoter) → NoRequests out → AllAsked z out
none_asked z [] none = tt
none_asked z (m ∷ out) none = (no_ask z m.voter m.body none.0, none_asked z out none.1)

pub idle_ask : (z : ClientState) (v : ℕ) (b : VoterBody) → is_idle z.phase ≡ true → AskedBy z v b
idle_ask z v (asks.Request s) idle = λ is. absurd (idle_not_current z s idle is)
idle_ask z v (asks.Relinquish g) idle = tt
idle_ask z v (asks.Release s) idle = tt

idle_asked : (z : ClientState) (out : List ToVoter) → is_idle z.phase ≡ true → AllAsked z out
idle_asked z [] idle = tt
idle_asked z (m ∷ out) idle = (idle_ask z m.voter m.body idle, idle_asked z out idle)

member_ask : (z : ClientState) (v : ℕ) (b : VoterBody) → is_member z v ≡ true → AskedBy z v b
member_ask z v (asks.Request s) is = λ _. is
member_ask z v (asks.Relinquish g) is = tt
member_ask z v (asks.Release s) is = tt

members_asked : (x z : ClientState) (b : VoterBody) (q : List ℕ) → ((v : ℕ) → has q v ≡ true → is_member z v ≡ true) → AllAsked z (map (λ v. requester.tell x v b) q)
members_asked x z b [] all = tt
members_asked x z b (v ∷ q) all = (member_ask z v b (all v (grind (arith, nat_tests))), members_asked x z b q (λ u is. all u (grind (arith, nat_tests))))

asked_out : (x z : ClientState) (cause : requester.Cause) (o : requester.Outcome) → IsSound x → requester.step x cause ≡ Ok o → o.state ≡ z → KeepsQuorum x cause z → AllAsked z o.out
asked_out x z (requester.Asks q) o sound taken is keeps =
    subst (λ (p : requester.Outcome). AllAsked z p.out) (ask-Ok x q o taken) (members_asked (requester.begin_request x q) z (asks.Request (x.clock + 1)) q (λ v there. ap (λ l. has l v) keeps ∙ there))
asked_out x z (requester.Takes m) o sound taken is keeps = none_asked z o.out (subst (λ (p : requester.Outcome). NoRequests p.out) (take-Ok x m o taken) (no-take x m sound))
asked_out x z requester.Leaves o sound taken is keeps = idle_asked z o.out keeps.1
asked_out x z requester.GivesUp o sound taken is keeps = idle_asked z o.out keeps.1

-- messages of one client
sent_asked : (cs : List ClientState) (x z : ClientState) (cause : requester.Cause) (who : ℕ) (y : ClientState) (out : List ToVoter) → client_at cs who ≡ z → x.id ≡ who
    → AllSay x cause y out → AllAsked z out → AllByRecursion (AskedAt cs) (map kinds.ToVoter out)
sent_asked cs x z cause who y [] is id says all = tt
sent_asked cs x z cause who y (m ∷ out) is id says all =
    (subst (λ (w : ClientState). AskedBy w m.voter m.body) (sym (ap (client_at cs) (says.0.0 ∙ id) ∙ is)) all.0, sent_asked cs x z cause who y out is id says.1 all.1)

asked_later : (x z : ClientState) (y : VoterState) (v c : ℕ) (b : VoterBody) → IsLater x z → (z.stamp ≡ x.stamp → members z ≡ members x) → AskOk x y v c b → AskedBy x v b → AskedBy z v b
asked_later x z y v c (asks.Request s) later same ok h = λ is. (let before = ran_before x z s later ok is in ap (λ l. has l v) (same before.0) ∙ h before.1)
asked_later x z y v c (asks.Relinquish g) later same ok h = tt
asked_later x z y v c (asks.Release s) later same ok h = tt

-- what one client's step leaves of the clients
record ClientsLater (who : ℕ) (cs ds : List ClientState) : Type 0 where
  later : IsLater (client_at cs who) (client_at ds who)
  same : (client_at ds who).stamp ≡ (client_at cs who).stamp → members (client_at ds who) ≡ members (client_at cs who)
  others : (q : ℕ) → q ≢ who → client_at ds q ≡ client_at cs q

asked_still : (who : ℕ) (cs ds : List ClientState) (Y : ℕ → VoterState) → ClientsLater who cs ds → (m : Message) → MessageOk (client_at cs) Y m → AskedAt cs m → AskedAt ds m
asked_still who cs ds Y k (kinds.ToClient m) ok h = tt
asked_still who cs ds Y k (kinds.ToVoter m) ok h = elim (cases_eq m.client who) [
  | inl same ↦
      subst (λ c. AskedBy (client_at ds c) m.voter m.body) (sym same) (asked_later (client_at cs who) (client_at ds who) (Y m.voter) m.voter m.client m.body k.later k.same
      (subst (λ c. AskOk (client_at cs c) (Y m.voter) m.voter m.client m.body) same ok) (subst (λ c. AskedBy (client_at cs c) m.voter m.body) same h))
  | inr other ↦ subst (λ (w : ClientState). AskedBy w m.voter m.body) (sym (k.others m.client other)) h
]

all_still : (who : ℕ) (cs ds : List ClientState) (Y : ℕ → VoterState) → ClientsLater who cs ds → (ms : List Message) → AllByRecursion (MessageOk (client_at cs) Y) ms
    → AllByRecursion (AskedAt cs) ms → AllByRecursion (AskedAt ds) ms
all_still who cs ds Y k [] ok h = tt
all_still who cs ds Y k (m ∷ ms) ok h = (asked_still who cs ds Y k m ok.0 h.0, all_still who cs ds Y k ms ok.1 h.1)

Placed-client : (laws : Laws) (u x : WorldState) → IsCoherent u → IsCoherent x → ClientMoved u x → Placed u.clients u.voters u.sent → Placed x.clients x.voters x.sent
Placed-client laws u x ok now k h =
    let old = client_at u.clients k.who in
    let new = client_at x.clients k.who in
    let contract = meets laws.client u x ok now k in
    let quorum = subst (λ (z : ClientState). KeepsQuorum old k.cause z) (sym k.here) contract.quorum in
    let later = subst (λ (z : ClientState). IsLater old z) (sym k.here) contract.later in
    let moved : ClientsLater k.who u.clients x.clients = record {
      later = later;
      same = same_members old new k.cause k.outcome (ok.clients k.who) k.step (sym k.here) quorum;
      others = k.others;
    } in
    record {
      asked = subst (λ ms. AllByRecursion (AskedAt x.clients) ms) (sym k.sent) (AllByRecursion-append (AskedAt x.clients) u.sent _
          (all_still k.who u.clients x.clients (voter_at u.voters) moved u.sent ok.messages h.asked)
          (sent_asked x.clients old new k.cause k.who k.outcome.state k.outcome.out refl (ok.numbered.clients k.who k.within) contract.out
          (asked_out old new k.cause k.outcome (ok.clients k.who) k.step (sym k.here) quorum)));
      places = subst (λ (vs : List VoterState). (v c : ℕ) → IsPlaced c (client_at x.clients c) v (voter_at vs v)) (sym k.voters)
          (λ v. each_client (λ c z. IsPlaced c z v (voter_at u.voters v)) u x k (λ s entry is.
          let before = ran_before old new s later (ok.made v k.who s entry).reached is in
          ap (λ l. has l v) (moved.same before.0) ∙ h.places v k.who s entry before.1) (h.places v));
      back = subst (λ (vs : List VoterState). (v : ℕ) → AsksBack (voter_at vs v)) (sym k.voters) h.back;
    }

-- ---- a voter moves

brought : (cs : List ClientState) (v client c s : ℕ) (b : VoterBody) → AskedBy (client_at cs client) v b → Brings client b c s → is_current (client_at cs c) s ≡ true
    → is_member (client_at cs c) v ≡ true
brought cs v client c s (asks.Request t) asked brings is =
    subst (λ i. is_member (client_at cs i) v ≡ true) (sym brings.0) (asked (subst (λ i. is_current (client_at cs i) t ≡ true) brings.0 (subst (λ n. is_current (client_at cs c) n ≡ true) brings.1 is)))
brought cs v client c s (asks.Relinquish g) asked brings is = absurd brings
brought cs v client c s (asks.Release t) asked brings is = absurd brings

Placed-voter : (laws : Laws) (u x : WorldState) → VoterMoved u x → Placed u.clients u.voters u.sent → Placed x.clients x.voters x.sent
Placed-voter laws u x k h = subst (λ (cs : List ClientState). Placed cs x.voters x.sent) (sym k.clients) (record {
  asked = subst (λ ms. AllByRecursion (AskedAt u.clients) ms) (sym k.sent)
      (AllByRecursion-append (AskedAt u.clients) u.sent _ h.asked (all_sent (AskedAt u.clients) kinds.ToClient (λ m. tt) k.outcome.replies));
  places = λ v c. each_voter (λ v y. IsPlaced c (client_at u.clients c) v y) u x k (λ s entry is.
      elim ((laws.voter.meets (voter_at u.voters k.message.voter) k.message k.outcome k.step).entries c s entry) [
        | inl before ↦ h.places k.message.voter c s before is
        | inr brings ↦ brought u.clients k.message.voter k.message.client c s k.message.body
            (AllByRecursion-get (AskedAt u.clients) u.sent k.place (kinds.ToVoter k.message) h.asked k.came) brings is
      ]) (λ v. h.places v c) v;
  back = each_voter (λ _ y. AsksBack y) u x k (laws.voter.asks_back (voter_at u.voters k.message.voter) k.message k.outcome (h.back k.message.voter) k.step) h.back;
})

-- ---- reminders

members_said : (z : ClientState) (out : List ToVoter) → RemindersInRange z out → AllAsked z out
members_said z [] range = tt
members_said z (m ∷ out) range = (member_ask z m.voter m.body range.0.0, members_said z out range.1)

repeats_asked : (cs : List ClientState) (x : ClientState) (who : ℕ) (out : List ToVoter) → client_at cs who ≡ x → x.id ≡ who → AllRepeat x out → AllAsked x out
    → AllByRecursion (AskedAt cs) (map kinds.ToVoter out)
repeats_asked cs x who [] is id says all = tt
repeats_asked cs x who (m ∷ out) is id says all =
    (subst (λ (w : ClientState). AskedBy w m.voter m.body) (sym (ap (client_at cs) (says.0.0 ∙ id) ∙ is)) all.0, repeats_asked cs x who out is id says.1 all.1)

reminder_asked : (laws : Laws) (u : WorldState) → IsCoherent u → (more : List Message) → IsReminder u more → AllByRecursion (AskedAt u.clients) more
reminder_asked laws u ok more said = elim said [
  | inl out ↦ subst (λ ms. AllByRecursion (AskedAt u.clients) ms) (sym out.1) (elim out.2 [
    | inl none ↦ subst (λ l. AllByRecursion (AskedAt u.clients) (map kinds.ToVoter l)) (sym none) tt
    | inr own ↦
        let x = client_at u.clients own.0 in
        subst (λ l. AllByRecursion (AskedAt u.clients) (map kinds.ToVoter l)) (sym own.2)
        (repeats_asked u.clients x own.0 (requester.remind x) refl (ok.numbered.clients own.0 own.1)
        (laws.client.repeats x) (members_said x (requester.remind x) (laws.client.in_range x (ok.clients own.0))))
  ])
  | inr v ↦ subst (λ ms. AllByRecursion (AskedAt u.clients) ms) (sym v.2) (all_sent (AskedAt u.clients) kinds.ToClient (λ m. tt) (voter.remind (voter_at u.voters v.0)))
]

Placed-sent : (laws : Laws) (u x : WorldState) → IsCoherent u → OnlySent u x → Placed u.clients u.voters u.sent → Placed x.clients x.voters x.sent
Placed-sent laws u x ok k h = subst (λ (cs : List ClientState). Placed cs x.voters x.sent) (sym k.clients) (subst (λ (vs : List VoterState). Placed u.clients vs x.sent) (sym k.voters) (record {
  asked = subst (λ ms. AllByRecursion (AskedAt u.clients) ms) (sym k.sent) (AllByRecursion-append (AskedAt u.clients) u.sent k.more h.asked (reminder_asked laws u ok k.more k.reminder));
  places = h.places;
  back = h.back;
}))

pub Placed-moved : (laws : Laws) (u x : WorldState) → IsCoherent u → IsCoherent x → Moved u x → Placed u.clients u.voters u.sent → Placed x.clients x.voters x.sent
Placed-moved laws u x ok now moved h = elim moved [
  | inl client ↦ Placed-client laws u x ok now client h
  | inr (inl voter) ↦ Placed-voter laws u x voter h
  | inr (inr sent) ↦ Placed-sent laws u x ok sent h
]

-- ---- every run

abbrev pub IsPlacedWorld : WorldState → Type 0
IsPlacedWorld u = Placed u.clients u.voters u.sent

pub Placed-start : (laws : Laws) (voters clients limit : ℕ) → IsPlacedWorld (start voters clients limit)
unfolding new_voters
Placed-start laws voters clients limit = record {
  asked = tt;
  places = λ v c s entry is. let new = new_voter voters limit v in absurd (none_entry new.0 new.1 c s (subst (λ (y : VoterState). IsEntry y c s) new.2 entry));
  back = λ v. let new = new_voter voters limit v in subst (λ (y : VoterState). AsksBack y) (sym new.2) (laws.voter.asks_first new.0 new.1);
}

-- ---- what voters have seen

pub Seen-client : (laws : Laws) (u x : WorldState) (e : ℕ) → IsCoherent u → IsCoherent x → ClientMoved u x → ((v : ℕ) → VoterHasSeen e (client_at u.clients e) (voter_at u.voters v))
    → (v : ℕ) → VoterHasSeen e (client_at x.clients e) (voter_at x.voters v)
Seen-client laws u x e ok now k a v =
    let old = client_at u.clients k.who in
    let new = client_at x.clients k.who in
    let later = subst (λ (z : ClientState). IsLater old z) (sym k.here) (meets laws.client u x ok now k).later in
    subst (λ (vs : List VoterState). VoterHasSeen e (client_at x.clients e) (voter_at vs v)) (sym k.voters) (elim (cases_eq e k.who) [
      | inl same ↦ λ s entry is.
          let own : IsEntry (voter_at u.voters v) k.who s = subst (λ i. IsEntry (voter_at u.voters v) i s) same entry in
          let runs : is_current new s ≡ true = subst (λ i. is_current (client_at x.clients i) s ≡ true) same is in
          let before = ran_before old new s later (ok.made v k.who s own).reached runs in
          a v s entry (subst (λ i. is_current (client_at u.clients i) s ≡ true) (sym same) before.1)
      | inr other ↦ subst (λ (z : ClientState). VoterHasSeen e z (voter_at u.voters v)) (sym (k.others e other)) (a v)
    ])

pub Heeds-moved : (laws : Laws) (c : ℕ) (w u : WorldState) → IsCoherent w → IsCoherent u → Moved w u → Heeds c w → Heeds c u
Heeds-moved laws c w u ok now moved a = elim moved [
  | inl client ↦ Heeds-client w u c client (Seen-client laws w u c ok now client a.seen) a
  | inr (inl voter) ↦ Heeds-voter laws.voter w u c ok now voter a
  | inr (inr sent) ↦ Heeds-sent laws.voter w u c ok sent a
]

pub Always-moved : (laws : Laws) (w u : WorldState) → IsCoherent w → IsCoherent u → Moved w u → Always w → Always u
Always-moved laws w u ok now moved a = heeds_all u (λ c. Heeds-moved laws c w u ok now moved (heeds c w a))
