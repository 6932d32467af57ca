-- what holds whatever happens, also if saved states are lost: each step keeps it, and so does each
-- loss
use Rattle.std.proofs.Common.{◌≡◌, ◌≢◌, ℕ, suc, ◌<◌, List, refl, sym, ap, subst, ◌∙◌, inl, inr, arith}
use Rattle.std.specs.FinMap as fin
use Rattle.std.specs.List.{AllByRecursion}
use Rattle.std.specs.Ordering.{nat_cmp}
use Rattle.std.proofs.lemmas.Bool.{cases_eq, false≢true}
use Rattle.std.proofs.lemmas.Option.{none-some}
use Rattle.numbers.specs.Bounds.{max_limit}
use Rattle.numbers.proofs.Lists.{AllByRecursion-weaker, slice_index-replicate_zero}
use Rattle.message.specs.declared.message.Message.{Message}
use Rattle.message.specs.declared.message.Message.TheVariants as kinds
use Rattle.message.specs.declared.message.ClientBody.{ClientBody}
use Rattle.message.specs.declared.message.ClientBody.TheVariants as to_client
use Rattle.voter.specs.declared.state.Grant.{Grant}
use Rattle.voter.specs.declared.state.VoterState.{VoterState}
use Rattle.voter.specs.Entries.{AsksBack}
use Rattle.voter.specs.Saved.{least_voter}
use Rattle.requester.specs.declared.state.ClientState.{ClientState}
use Rattle.requester.specs.Saved.{least_client}
use Rattle.requester.specs.Words.{held_of, is_idle}
use Rattle.world.specs.Coherence.{IsCoherent}
use Rattle.world.specs.Runs.{start}
use Rattle.world_state.specs.Steps.{WorldState, client_at, voter_at}
use Rattle.world.proofs.Exclusion.{held_under}
use Rattle.progress.specs.Rules.{Laws}
use Rattle.progress.proofs.invariants.Always.{IsUpTo, WasGiven, given-moved}
use Rattle.progress.proofs.invariants.Fitting.{ClientsFit, Fits-moved, Fits-start, Lacks, PairFits, current_busy}
use Rattle.progress.proofs.run.Moves.{Moved, each_but}
use Rattle.progress.proofs.invariants.Outstanding.{AreMarked, IsClear, IsNoted, IsNotedAt, Outstanding, Outstanding-moved, Outstanding-start}
use Rattle.progress.proofs.invariants.Placed.{AskedAt, AskedBy, IsPlaced, Placed, Placed-moved, Placed-start, idle_ask}

-- all grants are old: no voter gives as many
abbrev pub beyond : ℕ → ℕ
beyond v = suc max_limit

pub record Endures (u : WorldState) : Type 0 where
  pub fits : ClientsFit u.clients u.voters
  pub placed : Placed u.clients u.voters u.sent
  pub out : Outstanding beyond u
  pub given : AllByRecursion (WasGiven u.voters) u.sent

pub Endures-moved : (laws : Laws) (u x : WorldState) → IsCoherent u → IsCoherent x → Moved u x → Endures u → Endures x
Endures-moved laws u x ok now moved h = record {
  fits = Fits-moved laws u x ok now moved h.fits;
  placed = Placed-moved laws u x ok now moved h.placed;
  out = Outstanding-moved laws beyond u x ok now moved h.out;
  given = given-moved laws.voter u x ok now moved h.given;
}

pub Endures-start : (laws : Laws) (voters clients limit : ℕ) → Endures (start voters clients limit)
Endures-start laws voters clients limit = record {
  fits = Fits-start voters clients limit;
  placed = Placed-start laws voters clients limit;
  out = Outstanding-start beyond voters clients limit;
  given = tt;
}

-- the marked votes are old
no_marks : (old : ℕ → ℕ) (u : WorldState) → IsCoherent u → ((v : ℕ) → (voter_at u.voters v).granted < old v) → (d : ℕ) → AreMarked old (client_at u.clients d) u.voters
no_marks old u ok few d v is new =
    let x = client_at u.clients d in
    let has = (ok.clients d).inquired v is in
    let names = ok.held d v (held_of x v) (held_under x v has) in
    let grant : Grant = record { client = d; stamp = x.stamp; grant = held_of x v } in
    let most = (ok.voters v).numbered grant names in
    let less = few v in
    absurd (omega arith)

few_given : (u : WorldState) → IsCoherent u → (v : ℕ) → (voter_at u.voters v).granted < beyond v
few_given u ok v = (let a = (ok.voters v).granted in let b = (ok.voters v).limit in omega arith)

-- ---- with other grants as old ones

noted_by : (first second : ℕ) (y : VoterState) (b : ClientBody) → y.granted < second → IsNoted first y b → IsNoted second y b
noted_by first second y (to_client.Locked s g) few h = tt
noted_by first second y (to_client.Fail s) few h = tt
noted_by first second y (to_client.Inquire n) few h = (h.0, λ g held same new. (let most = h.0 in absurd (omega arith)))

noted_at : (old new : ℕ → ℕ) (vs : List VoterState) → ((v : ℕ) → (voter_at vs v).granted < new v) → (m : Message) → IsNotedAt old vs m → IsNotedAt new vs m
noted_at old new vs few (kinds.ToVoter m) h = tt
noted_at old new vs few (kinds.ToClient m) h = noted_by (old m.voter) (new m.voter) (voter_at vs m.voter) m.body (few m.voter) h

-- it is enough that no grant of later is old
pub outstanding_by : (old new : ℕ → ℕ) (u : WorldState) → IsCoherent u → ((v : ℕ) → (voter_at u.voters v).granted < new v) → Outstanding old u → Outstanding new u
outstanding_by old new u ok few h = record {
  noted = AllByRecursion-weaker (IsNotedAt old u.voters) (IsNotedAt new u.voters) (noted_at old new u.voters few) u.sent h.noted;
  marks = no_marks new u ok few;
  clear = h.clear;
}

-- ---- other worlds with the same clients, voters and messages

pub Endures-same : (u x : WorldState) → IsCoherent x → x.clients ≡ u.clients → x.voters ≡ u.voters → x.sent ≡ u.sent → Endures u → Endures x
Endures-same u x now clients voters sent h = record {
  fits = subst (λ (cs : List ClientState). ClientsFit cs x.voters) (sym clients) (subst (λ (vs : List VoterState). ClientsFit u.clients vs) (sym voters) h.fits);
  placed = subst (λ ms. Placed x.clients x.voters ms) (sym sent)
      (subst (λ (cs : List ClientState). Placed cs x.voters u.sent) (sym clients) (subst (λ (vs : List VoterState). Placed u.clients vs u.sent) (sym voters) h.placed));
  out = record {
    noted = subst (λ ms. AllByRecursion (IsNotedAt beyond x.voters) ms) (sym sent) (subst (λ (vs : List VoterState). AllByRecursion (IsNotedAt beyond vs) u.sent) (sym voters) h.out.noted);
    marks = no_marks beyond x now (few_given x now);
    clear = subst (λ (cs : List ClientState). (d : ℕ) → IsClear (client_at cs d)) (sym clients) h.out.clear;
  };
  given = subst (λ ms. AllByRecursion (WasGiven x.voters) ms) (sym sent) (subst (λ (vs : List VoterState). AllByRecursion (WasGiven vs) u.sent) (sym voters) h.given);
}

-- ---- a client lost all of its state but the least

pub record ClientLost (u x : WorldState) : Type 0 where
  pub who : ℕ
  pub here : client_at x.clients who ≡ least_client (client_at u.clients who)
  pub others : (q : ℕ) → q ≢ who → client_at x.clients q ≡ client_at u.clients q
  pub voters : x.voters ≡ u.voters
  pub sent : x.sent ≡ u.sent

least_pair : (c v : ℕ) (x : ClientState) (y : VoterState) → PairFits c v x y → PairFits c v (least_client x) y
least_pair c v x y h = record {
  unfinished = record { most = h.unfinished.most; busy = λ busy. absurd (false≢true (sym busy)) };
  last = (let none = slice_index-replicate_zero 64 v in omega arith);
  given = λ below g held own asks. absurd (false≢true asks);
}

asked_less : (u x : WorldState) → (k : ClientLost u x) → (m : Message) → AskedAt u.clients m → AskedAt x.clients m
asked_less u x k (kinds.ToClient m) h = tt
asked_less u x k (kinds.ToVoter m) h = elim (cases_eq m.client k.who) [
  | inl same ↦ idle_ask (client_at x.clients m.client) m.voter m.body (ap (λ i. is_idle (client_at x.clients i).phase) same ∙ ap (λ (z : ClientState). is_idle z.phase) k.here)
  | inr other ↦ subst (λ (z : ClientState). AskedBy z m.voter m.body) (sym (k.others m.client other)) h
]

pub Endures-client_lost : (u x : WorldState) → IsCoherent x → ClientLost u x → Endures u → Endures x
Endures-client_lost u x now k h =
    let old = client_at u.clients k.who in
    let each : (P : ℕ → ClientState → Type 0) → P k.who (least_client old) → ((q : ℕ) → P q (client_at u.clients q)) → (q : ℕ) → P q (client_at x.clients q) =
    λ P least all. each_but P (client_at u.clients) (client_at x.clients) k.who k.others (subst (P k.who) (sym k.here) least) all in
    record {
      fits = subst (λ (vs : List VoterState). ClientsFit x.clients vs) (sym k.voters) (record {
        pairs = λ c v. each (λ c z. PairFits c v z (voter_at u.voters v)) (least_pair k.who v old (voter_at u.voters v) (h.fits.pairs k.who v)) (λ c. h.fits.pairs c v) c;
        lacks = each (λ _ z. Lacks z) (λ asks. absurd (false≢true asks)) h.fits.lacks;
      });
      placed = subst (λ (vs : List VoterState). Placed x.clients vs x.sent) (sym k.voters) (subst (λ ms. Placed x.clients u.voters ms) (sym k.sent) (record {
        asked = AllByRecursion-weaker (AskedAt u.clients) (AskedAt x.clients) (asked_less u x k) u.sent h.placed.asked;
        places = λ v. each (λ c z. IsPlaced c z v (voter_at u.voters v)) (λ s entry is. absurd (false≢true (sym (current_busy (least_client old) s is)))) (h.placed.places v);
        back = h.placed.back;
      }));
      out = record {
        noted = subst (λ ms. AllByRecursion (IsNotedAt beyond x.voters) ms) (sym k.sent) (subst (λ (vs : List VoterState). AllByRecursion (IsNotedAt beyond vs) u.sent) (sym k.voters) h.out.noted);
        marks = no_marks beyond x now (few_given x now);
        clear = each (λ _ z. IsClear z) (λ hindered v. refl) h.out.clear;
      };
      given = subst (λ ms. AllByRecursion (WasGiven x.voters) ms) (sym k.sent) (subst (λ (vs : List VoterState). AllByRecursion (WasGiven vs) u.sent) (sym k.voters) h.given);
    }

-- ---- a voter lost all of its state but the least

pub record VoterLost (u x : WorldState) : Type 0 where
  pub who : ℕ
  pub here : voter_at x.voters who ≡ least_voter (voter_at u.voters who)
  pub others : (q : ℕ) → q ≢ who → voter_at x.voters q ≡ voter_at u.voters q
  pub clients : x.clients ≡ u.clients
  pub sent : x.sent ≡ u.sent

least_voter_pair : (c v : ℕ) (x : ClientState) (y : VoterState) → PairFits c v x y → PairFits c v x (least_voter y)
least_voter_pair c v x y h = record {
  unfinished = record {
    most = (let none = slice_index-replicate_zero 64 c in omega arith);
    busy = λ busy. (let less = h.unfinished.busy busy in let none = slice_index-replicate_zero 64 c in omega arith);
  };
  last = h.last;
  given = h.given;
}

up_to_same : (a b : ℕ) (body : ClientBody) → a ≡ b → IsUpTo a body → IsUpTo b body
up_to_same a b body same h = subst (λ n. IsUpTo n body) same h

given_less : (u x : WorldState) → ((v : ℕ) → (voter_at u.voters v).granted ≡ (voter_at x.voters v).granted) → (m : Message) → WasGiven u.voters m → WasGiven x.voters m
given_less u x same (kinds.ToVoter m) h = tt
given_less u x same (kinds.ToClient m) h = up_to_same (voter_at u.voters m.voter).granted (voter_at x.voters m.voter).granted m.body (same m.voter) h

-- of an INQUIRE it is enough that its grant was given
noted_less : (first : ℕ) (y z : VoterState) (b : ClientBody) → y.granted ≡ z.granted → z.granted < first → IsNoted first y b → IsNoted first z b
noted_less first y z (to_client.Locked s g) same few h = tt
noted_less first y z (to_client.Fail s) same few h = tt
noted_less first y z (to_client.Inquire n) same few h = (let most = h.0 in (omega arith, λ g held own new. absurd (omega arith)))

noted_lost : (u x : WorldState) → ((v : ℕ) → (voter_at u.voters v).granted ≡ (voter_at x.voters v).granted) → ((v : ℕ) → (voter_at x.voters v).granted < beyond v) → (m : Message)
    → IsNotedAt beyond u.voters m → IsNotedAt beyond x.voters m
noted_lost u x same few (kinds.ToVoter m) h = tt
noted_lost u x same few (kinds.ToClient m) h = noted_less (beyond m.voter) (voter_at u.voters m.voter) (voter_at x.voters m.voter) m.body (same m.voter) (few m.voter) h

least_asks_back : (y : VoterState) → AsksBack (least_voter y)
least_asks_back y g client stamp held waits before = absurd (none-some stamp (sym (fin.get-empty nat_cmp client) ∙ waits))

pub Endures-voter_lost : (u x : WorldState) → IsCoherent x → VoterLost u x → Endures u → Endures x
Endures-voter_lost u x now k h =
    let old = voter_at u.voters k.who in
    let each : (P : ℕ → VoterState → Type 0) → P k.who (least_voter old) → ((q : ℕ) → P q (voter_at u.voters q)) → (q : ℕ) → P q (voter_at x.voters q) =
    λ P least all. each_but P (voter_at u.voters) (voter_at x.voters) k.who k.others (subst (P k.who) (sym k.here) least) all in
    let same : (v : ℕ) → (voter_at u.voters v).granted ≡ (voter_at x.voters v).granted = each (λ v y. (voter_at u.voters v).granted ≡ y.granted) refl (λ v. refl) in
    record {
      fits = subst (λ (cs : List ClientState). ClientsFit cs x.voters) (sym k.clients) (record {
        pairs = λ c. each (λ v y. PairFits c v (client_at u.clients c) y) (least_voter_pair c k.who (client_at u.clients c) old (h.fits.pairs c k.who)) (h.fits.pairs c);
        lacks = h.fits.lacks;
      });
      placed = subst (λ (cs : List ClientState). Placed cs x.voters x.sent) (sym k.clients) (subst (λ ms. Placed u.clients x.voters ms) (sym k.sent) (record {
        asked = h.placed.asked;
        places = λ v c. each (λ v y. IsPlaced c (client_at u.clients c) v y) (λ s entry is. elim entry [
          | inl held ↦ h.placed.places k.who c s (inl held) is
          | inr waits ↦ absurd (none-some s (sym (fin.get-empty nat_cmp c) ∙ waits))
        ]) (λ v. h.placed.places v c) v;
        back = each (λ _ y. AsksBack y) (least_asks_back old) h.placed.back;
      }));
      out = record {
        noted = subst (λ ms. AllByRecursion (IsNotedAt beyond x.voters) ms) (sym k.sent)
            (AllByRecursion-weaker (IsNotedAt beyond u.voters) (IsNotedAt beyond x.voters) (noted_lost u x same (few_given x now)) u.sent h.out.noted);
        marks = no_marks beyond x now (few_given x now);
        clear = subst (λ (cs : List ClientState). (d : ℕ) → IsClear (client_at cs d)) (sym k.clients) h.out.clear;
      };
      given = subst (λ ms. AllByRecursion (WasGiven x.voters) ms) (sym k.sent) (AllByRecursion-weaker (WasGiven u.voters) (WasGiven x.voters) (given_less u x same) u.sent h.given);
    }
