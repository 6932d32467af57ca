-- the life of a voter beside a world
use Rattle.std.proofs.Common.{◌≡◌, ◌≢◌, ℕ, ◌≤◌, true, false, cond, List, [], ◌∷◌, ◌++◌, map, Option, Some, Ok, zero, suc, refl, sym, ap, subst, ◌∙◌, ◌⊎◌, inl, inr, arith, eqb, append_assoc}
use Rattle.std.specs.Prelude.{◌&&◌, ◌==◌, if◌then◌else◌, nat_le, slice_get, slice_set}
use Rattle.std.specs.List.{AllByRecursion}
use Rattle.std.proofs.lemmas.Bool.{cases_eq}
use Rattle.std.proofs.lemmas.Bool.Decides.{nat_tests}
use Rattle.std.proofs.lemmas.List.{append-nil}
use Rattle.std.proofs.lemmas.Option.{none-some, same_Some}
use Rattle.numbers.specs.Bounds.{max_limit}
use Rattle.message.specs.declared.message.Message.{Message}
use Rattle.message.specs.declared.message.Message.TheVariants as kinds
use Rattle.message.specs.declared.message.ToClient.{ToClient}
use Rattle.message.specs.declared.message.ClientBody.{ClientBody}
use Rattle.message.specs.declared.message.ClientBody.TheVariants as to_client
use Rattle.message.specs.declared.message.ToVoter.{ToVoter}
use Rattle.voter.specs.declared.state.VoterState.{VoterState}
use Rattle.voter.specs.Saved.{least_voter}
use Rattle.voter.specs.Steps as voter
use Rattle.voter_node.specs.Nodes as nodes
use Rattle.passes.specs.Grants.{IsGiven, IsLockedFor}
use Rattle.voter_node.specs.Lives.{Fate, Meets, IsReborn, HasLimit, IsSkipped, be_reborn, be_skipped, becomes, have_limit, node_after, says, sends}
use Rattle.world.proofs.Claims.{put}
use Rattle.world.specs.Restarts.{Saved}
use Rattle.world_state.specs.Steps.{voter_at}
use Rattle.world.specs.Incidents.{limited, reborn, skipped}
use Rattle.leases.specs.WorldVoters.{IsNodeOf, said_by}
use Rattle.world.proofs.Befalling.{own_voter}

-- what holds of a list of functions after one is replaced
pub put_at : {A : Type 0} (P : A → Type 0) (Y : ℕ → A) (v : ℕ) (z : A) (q : ℕ) → (q ≡ v → P z) → (q ≢ v → P (Y q)) → P (put Y v z q)
put_at P Y v z q here there = elim (eqb q v) as (λ b. eqb q v ≡ b → P (cond b z (Y q))) [
  | true ↦ λ e. here (grind (arith, nat_tests))
  | false ↦ λ e. there (λ same. grind (arith, nat_tests))
] refl

-- ---- a world in which a voter has another state

-- the world in which this voter has these states, live and saved, after these messages more
abbrev pub mid : Saved → ℕ → VoterState → VoterState → List ToClient → Saved
mid s v y z more = record s {
  live = record s.live { voters = slice_set s.live.voters v y; sent = s.live.sent ++ map kinds.ToClient more };
  voters = slice_set s.voters v z;
}

pub set_own : (vs : List VoterState) (v : ℕ) (y : VoterState) → voter_at vs v ≡ y → slice_set vs v y ≡ vs
set_own vs v y is = ap (λ z. slice_set vs v z) (sym is) ∙ own_voter vs v

-- the voters may be written in other ways
pub as_mid : (s : Saved) (v : ℕ) (y z : VoterState) (ys zs : List VoterState) → slice_set s.live.voters v y ≡ ys → slice_set s.voters v z ≡ zs
    → mid s v y z [] ≡ record s { live = record s.live { voters = ys }; voters = zs }
as_mid s v y z ys zs live saved =
    let sent = append-nil s.live.sent in
    λ i. record s { live = record s.live { voters = live i; sent = sent i }; voters = saved i }

-- ---- longer lives

pub node-append : (n : nodes.Node) (fs gs : List Fate) → node_after n (fs ++ gs) ≡ node_after (node_after n fs) gs
node-append n [] gs = refl
node-append n (f ∷ fs) gs = node-append (becomes n f) fs gs

pub says-append : (n : nodes.Node) (fs gs : List Fate) → says n (fs ++ gs) ≡ says n fs ++ says (node_after n fs) gs
says-append n [] gs = refl
says-append n (f ∷ fs) gs =
    ap (λ (l : List ToClient). sends n f ++ l) (says-append (becomes n f) fs gs) ∙ sym (append_assoc (sends n f) (says (becomes n f) fs) (says (node_after (becomes n f) fs) gs))

pub given_before : (rs ts : List ToClient) (c s g : ℕ) → IsGiven rs c s g → IsGiven (rs ++ ts) c s g
given_before [] ts c s g is = absurd is
given_before (r ∷ rs) ts c s g (inl is) = inl is
given_before (r ∷ rs) ts c s g (inr is) = inr (given_before rs ts c s g is)

-- ---- what a voter said, of all that was sent

told_own : (v : ℕ) (m : ToClient) (ms : List Message) → m.voter ≡ v → said_by v (kinds.ToClient m ∷ ms) ≡ m ∷ said_by v ms
told_own v m ms own = ap (λ t. if t then m ∷ said_by v ms else said_by v ms) (let e : (m.voter == v) ≡ true = grind (arith, nat_tests) in e)

told_other : (v : ℕ) (m : ToClient) (ms : List Message) → m.voter ≢ v → said_by v (kinds.ToClient m ∷ ms) ≡ said_by v ms
told_other v m ms other = ap (λ t. if t then m ∷ said_by v ms else said_by v ms) (let e : (m.voter == v) ≡ false = grind (arith, nat_tests) in e)

said-append : (v : ℕ) (ms ns : List Message) → said_by v (ms ++ ns) ≡ said_by v ms ++ said_by v ns
said-append v [] ns = refl
said-append v (kinds.ToVoter m ∷ ms) ns = said-append v ms ns
said-append v (kinds.ToClient m ∷ ms) ns = elim (cases_eq m.voter v) [
  | inl own ↦ told_own v m (ms ++ ns) own ∙ ap (λ (l : List ToClient). m ∷ l) (said-append v ms ns) ∙ ap (λ (l : List ToClient). l ++ said_by v ns) (sym (told_own v m ms own))
  | inr other ↦ told_other v m (ms ++ ns) other ∙ said-append v ms ns ∙ ap (λ (l : List ToClient). l ++ said_by v ns) (sym (told_other v m ms other))
]

by_clients : (v : ℕ) (ms : List ToVoter) → said_by v (map kinds.ToVoter ms) ≡ []
by_clients v [] = refl
by_clients v (m ∷ ms) = by_clients v ms

by_itself : (v : ℕ) (rs : List ToClient) → AllByRecursion (λ r. r.voter ≡ v) rs → said_by v (map kinds.ToClient rs) ≡ rs
by_itself v [] own = refl
by_itself v (r ∷ rs) own = told_own v r (map kinds.ToClient rs) own.0 ∙ ap (λ (l : List ToClient). r ∷ l) (by_itself v rs own.1)

by_others : (q v : ℕ) (rs : List ToClient) → q ≢ v → AllByRecursion (λ r. r.voter ≡ v) rs → said_by q (map kinds.ToClient rs) ≡ []
by_others q v [] other own = refl
by_others q v (r ∷ rs) other own = told_other q r (map kinds.ToClient rs) (λ same. other (sym same ∙ own.0)) ∙ by_others q v rs other own.1

none_more : (v : ℕ) (sent more : List Message) → said_by v more ≡ [] → said_by v (sent ++ more) ≡ said_by v sent
none_more v sent more none = said-append v sent more ∙ ap (λ (l : List ToClient). said_by v sent ++ l) none ∙ append-nil (said_by v sent)

-- clients say something, the voter does, and another voter
pub clients_say : (v : ℕ) (sent : List Message) (ms : List ToVoter) → said_by v (sent ++ map kinds.ToVoter ms) ≡ said_by v sent
clients_say v sent ms = none_more v sent (map kinds.ToVoter ms) (by_clients v ms)

pub says_more : (v : ℕ) (sent : List Message) (rs : List ToClient) → AllByRecursion (λ r. r.voter ≡ v) rs → said_by v (sent ++ map kinds.ToClient rs) ≡ said_by v sent ++ rs
says_more v sent rs own = said-append v sent (map kinds.ToClient rs) ∙ ap (λ (l : List ToClient). said_by v sent ++ l) (by_itself v rs own)

pub others_say : (q v : ℕ) (sent : List Message) (rs : List ToClient) → q ≢ v → AllByRecursion (λ r. r.voter ≡ v) rs → said_by q (sent ++ map kinds.ToClient rs) ≡ said_by q sent
others_say q v sent rs other own = none_more q sent (map kinds.ToClient rs) (by_others q v rs other own)

-- a LOCKED that was sent
given_behind : (v : ℕ) (r : ToClient) (ms : List Message) (c t g : ℕ) → IsGiven (said_by v ms) c t g → IsGiven (said_by v (kinds.ToClient r ∷ ms)) c t g
given_behind v r ms c t g is = elim (cases_eq r.voter v) [
  | inl own ↦ subst (λ (l : List ToClient). IsGiven l c t g) (sym (told_own v r ms own)) (inr is)
  | inr other ↦ subst (λ (l : List ToClient). IsGiven l c t g) (sym (told_other v r ms other)) is
]

given_first : (x : Message) (ms : List Message) (m : ToClient) (t g : ℕ) → x ≡ kinds.ToClient m → IsLockedFor m.body t g → IsGiven (said_by m.voter (x ∷ ms)) m.client t g
given_first x ms m t g is locked = subst (λ (y : Message). IsGiven (said_by m.voter (y ∷ ms)) m.client t g) (sym is)
    (subst (λ (l : List ToClient). IsGiven l m.client t g) (sym (told_own m.voter m ms refl)) (inl (refl, locked)))

pub said_there : (ms : List Message) (k : ℕ) (m : ToClient) (t g : ℕ) → slice_get ms k ≡ Some (kinds.ToClient m) → IsLockedFor m.body t g → IsGiven (said_by m.voter ms) m.client t g
said_there [] k m t g at locked = absurd (none-some (kinds.ToClient m) at)
said_there (x ∷ ms) zero m t g at locked = given_first x ms m t g (same_Some x (kinds.ToClient m) at) locked
said_there (kinds.ToVoter r ∷ ms) (suc k) m t g at locked = said_there ms k m t g at locked
said_there (kinds.ToClient r ∷ ms) (suc k) m t g at locked = given_behind m.voter r ms m.client t g (said_there ms k m t g at locked)

pub locked_is : (body : ClientBody) (t g : ℕ) → IsLockedFor body t g → body ≡ to_client.Locked t g
locked_is (to_client.Locked s h) t g is = λ i. to_client.Locked (is.0 i) (is.1 i)
locked_is (to_client.Fail s) t g is = absurd is
locked_is (to_client.Inquire h) t g is = absurd is

-- it is one of these or one of those
pub given_or : (rs ts : List ToClient) (c t g : ℕ) → IsGiven (rs ++ ts) c t g → IsGiven rs c t g ⊎ IsGiven ts c t g
given_or [] ts c t g is = inr is
given_or (r ∷ rs) ts c t g (inl is) = inl (inl is)
given_or (r ∷ rs) ts c t g (inr is) = elim (given_or rs ts c t g is) [ inl first ↦ inl (inr first) | inr second ↦ inr second ]

-- what is said of each LOCKED holds of what was given
pub given_by : (P : ToClient → Type 0) (rs : List ToClient) → AllByRecursion P rs → (c t g : ℕ) → IsGiven rs c t g → (r : ToClient) × P r × (r.client ≡ c) × IsLockedFor r.body t g
given_by P [] all c t g is = absurd is
given_by P (r ∷ rs) all c t g (inl is) = (r, all.0, is.0, is.1)
given_by P (r ∷ rs) all c t g (inr is) = given_by P rs all.1 c t g is

-- and what is said of each message of a list holds of each that the voter said
pub said_all : (v : ℕ) (P : Message → Type 0) (ms : List Message) → AllByRecursion P ms → AllByRecursion (λ r. P (kinds.ToClient r) × (r.voter ≡ v)) (said_by v ms)
said_all v P [] all = tt
said_all v P (kinds.ToVoter m ∷ ms) all = said_all v P ms all.1
said_all v P (kinds.ToClient m ∷ ms) all = elim (cases_eq m.voter v) [
  | inl own ↦ subst (λ (l : List ToClient). AllByRecursion (λ r. P (kinds.ToClient r) × (r.voter ≡ v)) l) (sym (told_own v m ms own)) ((all.0, own), said_all v P ms all.1)
  | inr other ↦ subst (λ (l : List ToClient). AllByRecursion (λ r. P (kinds.ToClient r) × (r.voter ≡ v)) l) (sym (told_other v m ms other)) (said_all v P ms all.1)
]

-- ---- a node that lives on

-- the node is the voter with these states after these fates, and these messages leave
pub record LivesTo (n : nodes.Node) (y z : VoterState) (rs : List ToClient) : Type 0 where
  pub fates : List Fate
  pub is : IsNodeOf y z (node_after n fates)
  pub sent : says n fates ≡ rs

-- a node with nothing that waits
abbrev pub rests : VoterState → VoterState → nodes.Node
rests y w = record { live = y; saved = w; outbox = [] }

is_rests : (y z : VoterState) (n : nodes.Node) → IsNodeOf y z n → n ≡ rests y n.saved
is_rests y z n is = λ i. record { live = is.live i; saved = n.saved; outbox = is.none_wait i }

by_rests : (y z x w : VoterState) (n : nodes.Node) (rs : List ToClient) → IsNodeOf y z n → LivesTo (rests y n.saved) x w rs → LivesTo n x w rs
by_rests y z x w n rs is to = subst (λ (m : nodes.Node). LivesTo m x w rs) (sym (is_rests y z n is)) to

-- the node's event is this step of its voter
abbrev pub EventIsStep : VoterState → nodes.Event → voter.Outcome → Type 0
EventIsStep y e o = (w : VoterState) → nodes.node_step (rests y w) e ≡ Ok (nodes.silent (nodes.put (rests y w) o))

pub takes_step : (y : VoterState) (m : ToVoter) (o : voter.Outcome) → voter.step y m ≡ Some o → EventIsStep y (nodes.Takes m) o
unfolding nodes.node_step
takes_step y m o is w = ap (λ (r : Option voter.Outcome). nodes.after_voter (rests y w) r) is

pub reminds_step : (y : VoterState) → EventIsStep y nodes.Reminds (record { replies = voter.remind y; state = y })
unfolding nodes.node_step
reminds_step y w = refl

-- a step that sends nothing is not saved
pub lives_silently : (y z : VoterState) (n : nodes.Node) (e : nodes.Event) (o : voter.Outcome) → IsNodeOf y z n → EventIsStep y e o → o.replies ≡ [] → LivesTo n o.state z []
lives_silently y z n e o is by none =
    let w = n.saved in
    let there : node_after (rests y w) (Meets e ∷ []) ≡ rests o.state w = ap (nodes.after (rests y w)) (by w) ∙ (λ i. record { live = o.state; saved = w; outbox = none i }) in
    by_rests y z o.state z n [] is (record {
      fates = Meets e ∷ [];
      is = subst (λ (m : nodes.Node). IsNodeOf o.state z m) (sym there) (record { live = refl; saved = is.saved; none_wait = refl });
      sent = ap (λ r. nodes.sends_of r ++ []) (by w);
    })

-- another one is saved, and then its messages leave
pub lives_saved : (y z : VoterState) (n : nodes.Node) (e : nodes.Event) (o : voter.Outcome) → IsNodeOf y z n → EventIsStep y e o → LivesTo n o.state o.state o.replies
unfolding nodes.node_step
lives_saved y z n e o is by =
    let w = n.saved in
    let then_ = λ (m : nodes.Node). becomes m (Meets nodes.IsSaved) in
    let there : node_after (rests y w) (Meets e ∷ Meets nodes.IsSaved ∷ []) ≡ rests o.state o.state = ap (λ r. then_ (nodes.after (rests y w) r)) (by w) in
    by_rests y z o.state o.state n o.replies is (record {
      fates = Meets e ∷ Meets nodes.IsSaved ∷ [];
      is = subst (λ (m : nodes.Node). IsNodeOf o.state o.state m) (sym there) (record { live = refl; saved = inl refl; none_wait = refl });
      sent = ap (λ r. nodes.sends_of r ++ (sends (nodes.after (rests y w) r) (Meets nodes.IsSaved) ++ [])) (by w) ∙ append-nil o.replies;
    })

pub is_saved : (y z : VoterState) (n : nodes.Node) → IsNodeOf y z n → LivesTo n y y []
unfolding nodes.node_step
is_saved y z n is = by_rests y z y y n [] is (record { fates = Meets nodes.IsSaved ∷ []; is = record { live = refl; saved = inl refl; none_wait = refl }; sent = refl })

pub forgets : (y z : VoterState) (n : nodes.Node) → IsNodeOf y z n → LivesTo n y (least_voter z) []
forgets y z n is = record {
  fates = [];
  is = record { live = is.live; saved = inr (elim is.saved [ inl same ↦ ap least_voter same | inr least ↦ ap least_voter least ]); none_wait = is.none_wait };
  sent = refl;
}

pub restarts : (y z : VoterState) (n : nodes.Node) → IsNodeOf y z n → LivesTo n z z []
unfolding nodes.node_step
restarts y z n is = elim is.saved [
  | inl same ↦ record { fates = Meets nodes.Restarts ∷ []; is = record { live = sym same; saved = inl same; none_wait = refl }; sent = refl }
  | inr least ↦ record { fates = Meets nodes.Forgets ∷ []; is = record { live = sym least; saved = inl least; none_wait = refl }; sent = refl }
]

-- what is saved of a voter, whether all but the least was lost or not
saved_counts : (y z : VoterState) (n : nodes.Node) → IsNodeOf y z n → (z.granted ≡ n.saved.granted) × (z.id ≡ n.saved.id)
saved_counts y z n is = elim is.saved [
  | inl same ↦ (ap (λ (a : VoterState). a.granted) same, ap (λ (a : VoterState). a.id) same)
  | inr least ↦ (ap (λ (a : VoterState). a.granted) least, ap (λ (a : VoterState). a.id) least)
]

le_true : (a b : ℕ) → a ≤ b → nat_le a b ≡ true
le_true a b less = grind (arith, nat_tests)

pub is_reborn : (y z : VoterState) (n : nodes.Node) (above : ℕ) → IsNodeOf y z n → y.id ≡ z.id → z.granted ≤ above → above ≤ y.limit → y.limit ≤ max_limit
    → LivesTo n (reborn y above) (reborn y above) []
is_reborn y z n above is id least most few =
    let was = saved_counts y z n is in
    let same = was.0 in
    let low : n.saved.granted ≤ above = omega arith in
    let may : (nat_le n.saved.granted above && (nat_le above y.limit && nat_le y.limit max_limit)) ≡ true =
    λ i. le_true n.saved.granted above low i && (le_true above y.limit most i && le_true y.limit max_limit few i) in
    let there : becomes n (IsReborn above y.limit) ≡ nodes.node_of (reborn y above) = ap (λ t. be_reborn t n above y.limit) may
    ∙ ap (λ (k : ℕ). nodes.node_of (record (voter.start k y.limit) { granted = above })) (sym (id ∙ was.1)) in
    record {
      fates = IsReborn above y.limit ∷ [];
      is = subst (λ (m : nodes.Node). IsNodeOf (reborn y above) (reborn y above) m) (sym there) (record { live = refl; saved = inl refl; none_wait = refl });
      sent = refl;
    }

pub has_limit : (y z : VoterState) (n : nodes.Node) (limit : ℕ) → IsNodeOf y z n → y.granted ≤ limit → limit ≤ max_limit → LivesTo n (limited y limit) z []
has_limit y z n limit is least most =
    let w = n.saved in
    let may : (nat_le y.granted limit && nat_le limit max_limit) ≡ true = λ i. le_true y.granted limit least i && le_true limit max_limit most i in
    let there : becomes (rests y w) (HasLimit limit) ≡ rests (limited y limit) w = ap (λ t. have_limit t (rests y w) limit) may in
    by_rests y z (limited y limit) z n [] is (record {
      fates = HasLimit limit ∷ [];
      is = subst (λ (m : nodes.Node). IsNodeOf (limited y limit) z m) (sym there) (record { live = refl; saved = is.saved; none_wait = refl });
      sent = refl;
    })

pub is_skipped : (y z : VoterState) (n : nodes.Node) (above : ℕ) → IsNodeOf y z n → y.granted ≤ above → above ≤ y.limit → LivesTo n (skipped y above) z []
is_skipped y z n above is least most =
    let w = n.saved in
    let may : (nat_le y.granted above && nat_le above y.limit) ≡ true = λ i. le_true y.granted above least i && le_true above y.limit most i in
    let there : becomes (rests y w) (IsSkipped above) ≡ rests (skipped y above) w = ap (λ t. be_skipped t (rests y w) above) may in
    by_rests y z (skipped y above) z n [] is (record {
      fates = IsSkipped above ∷ [];
      is = subst (λ (m : nodes.Node). IsNodeOf (skipped y above) z m) (sym there) (record { live = refl; saved = is.saved; none_wait = refl });
      sent = refl;
    })
