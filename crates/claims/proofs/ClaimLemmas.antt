-- what is kept of claims, and which answers it stands for
use Rattle.std.proofs.Common.{◌≡◌, ℕ, ◌+◌, ◌*◌, ◌%◌, ◌^◌, ◌≤◌, ◌<◌, Bool, true, false, List, [], ◌∷◌, ◌++◌, refl, sym, ap, subst, ◌∙◌, ◌⊎◌, inl, inr, Option, Some, None, arith, mod-eq_of_lt, lit<}
use Rattle.std.specs.Prelude.{bit_or, ◌&&◌, ◌||◌, eqb, max, nat_lt, if◌then◌else◌}
use Rattle.std.specs.List.{AllByRecursion}
use Rattle.std.proofs.lemmas.Bool.{false≢true, eqb-true}
use Rattle.std.proofs.lemmas.Bool.Decides.{nat_tests}
use Rattle.std.proofs.lemmas.Nat.{pow_below}
use Rattle.std.proofs.lemmas.Option.{none-some, same_Some}
use Rattle.numbers.specs.Sets.{has, members_of, set_where}
use Rattle.numbers.proofs.Meetings.{has-later, within-has}
use Rattle.numbers.proofs.SetLemmas.{has-IsSet_below, has-head, has-set_where}
use Rattle.quorum_set.proofs.MaskLemmas.{insert_by_word, members_of-zero, set_of_word, word_with_bit_fits}
use Rattle.sessions.specs.Rows.{IsOneOf, Row, Use}
use Rattle.sessions.specs.Tables.{Answer, Begins, DoMeet, Event, IsAnswered, IsBegun, KeepsClaim, MayAllCome, all_happen, start}
use Rattle.sessions.proofs.Tables.{begin_above, one_of_epoch}
use Rattle.claims.specs.Claims.{AreSteps, ClaimsNext, GivesUp, Hears, IsHeard, IsOwn, Sees, Step, accepted_by, all_stepped, begun, claiming, claims_next, epochs_of, given_up, is_accepted_by, is_of, last_epoch, next_epoch, saw, stepped, taken_back}
use Rattle.claims.specs.declared.claim.Claim.{Claim}

both : (a b : Bool) → (a && b) ≡ true → (a ≡ true) × (b ≡ true)
both true b is = (refl, is)
both false b is = absurd (false≢true is)

-- ---- one more voter

one_bit : (i : ℕ) → i < 64 → 1 * 2 ^ i % 2 ^ 64 ≡ 2 ^ i
one_bit i lt = (let fits = pow_below i 64 lt in let once : 1 * 2 ^ i ≡ 2 ^ i = omega arith in ap (λ n. n % 2 ^ 64) once ∙ mod-eq_of_lt fits)

more_fits : (m i : ℕ) → m < 2 ^ 64 → i < 64 → bit_or m (2 ^ i) < 2 ^ 64
more_fits m i fits lt = subst (λ (x : ℕ). bit_or m x < 2 ^ 64) (one_bit i lt) (word_with_bit_fits m (1 * 2 ^ i) fits)

either : (a b : Bool) → (a || b) ≡ true → (a ≡ true) ⊎ (b ≡ true)
either true b is = inl refl
either false b is = inr is

-- a voter of the greater set is the one more, or was there before
was_there : (m i v : ℕ) → m < 2 ^ 64 → i < 64 → has (members_of (bit_or m (2 ^ i))) v ≡ true → (v ≡ i) ⊎ (has (members_of m) v ≡ true)
was_there m i v fits lt is =
    let members : members_of (bit_or m (2 ^ i)) ≡ set_where (λ j. eqb j i || has (members_of m) j) =
    subst (λ (x : ℕ). members_of (bit_or m x) ≡ set_where (λ j. eqb j i || has (members_of m) j)) (one_bit i lt) (insert_by_word m i (members_of m) refl fits lt) in
    let below = has-IsSet_below (members_of (bit_or m (2 ^ i))) v (set_of_word (bit_or m (2 ^ i))) is in
    let passes : (eqb v i || has (members_of m) v) ≡ true = sym (has-set_where (λ j. eqb j i || has (members_of m) j) v below) ∙ ap (λ s. has s v) (sym members) ∙ is in
    elim (either (eqb v i) (has (members_of m) v) passes) [
      | inl e ↦ inl (eqb-true v i e)
      | inr e ↦ inr e
    ]

-- ---- who accepted a claim told the session so

record Stands (answers : List Answer) (session : ℕ) (c : Claim) : Type 0 where
  fits : c.accepted < 2 ^ 64
  told : (epoch v : ℕ) → c.epoch ≡ Some epoch → has (members_of c.accepted) v ≡ true → Begins answers session epoch c.base v

nobody : (v : ℕ) → has (members_of 0) v ≡ true → ⊥
nobody v is = false≢true (ap (λ s. has s v) (sym members_of-zero) ∙ is)

claims_on : (answers : List Answer) (session : ℕ) (c : Claim) (next : Option ℕ) → Stands answers session c → Stands answers session (claiming c next)
claims_on answers session c None stands = stands
claims_on answers session c (Some epoch) stands = record { fits = lit< tt; told = λ other v same has. absurd (nobody v has) }

same_epoch : (claimed : Option ℕ) (epoch other : ℕ) → is_of claimed epoch ≡ true → claimed ≡ Some other → epoch ≡ other
same_epoch None epoch other is same = absurd (none-some other same)
same_epoch (Some claimed) epoch other is same = sym (eqb-true claimed epoch is) ∙ same_Some claimed other same

accepts_on : (answers : List Answer) (session : ℕ) (c : Claim) (a : Answer) → IsOneOf a answers → a.row.session ≡ Some session
    → is_accepted_by c a.voter a.row.epoch ≡ true → Stands answers session c
    → Stands answers session (record c { accepted = bit_or c.accepted (2 ^ a.voter); base = max c.base a.row.base })
accepts_on answers session c a among own counts stands =
    let parts = both (nat_lt a.voter 64) (is_of c.epoch a.row.epoch) counts in
    let below : a.voter < 64 = (let e = parts.0 in grind (arith, nat_tests)) in
    record {
      fits = more_fits c.accepted a.voter stands.fits below;
      told = λ epoch v same has. elim (was_there c.accepted a.voter v stands.fits below has) [
        | inl e ↦ record {
          knows = record { answer = a; among = among; of_voter = sym e; of_session = own; of_epoch = same_epoch c.epoch a.row.epoch epoch parts.1 same };
          least = (omega arith);
        }
        | inr e ↦ (let before = stands.told epoch v same e in let least = before.least in record { knows = before.knows; least = (omega arith) })
      ];
    }

step_on : (answers : List Answer) (session : ℕ) (c : Claim) (s : Step) → IsHeard answers session s → Stands answers session c → Stands answers session (stepped c s)
step_on answers session c (Sees epoch) heard stands = record { fits = stands.fits; told = stands.told }
step_on answers session c ClaimsNext heard stands = claims_on answers session c (next_epoch c) stands
step_on answers session c (Hears a) heard stands =
    elim (is_accepted_by c a.voter a.row.epoch) as (λ b. is_accepted_by c a.voter a.row.epoch ≡ b
    → Stands answers session (if b then record c { accepted = bit_or c.accepted (2 ^ a.voter); base = max c.base a.row.base } else c)) [
      | true ↦ λ counts. accepts_on answers session c a heard.0 heard.1 counts stands
      | false ↦ λ counts. stands
    ] refl
step_on answers session c GivesUp heard stands = record { fits = lit< tt; told = λ epoch v same has. absurd (none-some epoch same) }

steps_on : (answers : List Answer) (session : ℕ) (steps : List Step) (c : Claim) → AllByRecursion (IsHeard answers session) steps → Stands answers session c
    → Stands answers session (all_stepped c steps)
steps_on answers session [] c heard stands = stands
steps_on answers session (s ∷ steps) c heard stands = steps_on answers session steps (stepped c s) heard.1 (step_on answers session c s heard.0 stands)

begins : (answers : List Answer) (session : ℕ) → Stands answers session begun
begins answers session = record { fits = lit< tt; told = λ epoch v same has. absurd (nobody v has) }

-- what holds of each member holds of all
of_members : (P : ℕ → Type 0) (s : List ℕ) → ((v : ℕ) → has s v ≡ true → P v) → AllByRecursion P s
of_members P [] each = tt
of_members P (x ∷ xs) each = (each x (has-head x xs), of_members P xs (λ v is. each v (has-later x xs v is)))

knows_of : (answers : List Answer) (session epoch clock : ℕ) (s : List ℕ) → IsBegun answers session epoch clock s → IsAnswered answers session epoch s
knows_of answers session epoch clock [] begun = tt
knows_of answers session epoch clock (v ∷ s) begun = (begun.0.knows, knows_of answers session epoch clock s begun.1)

pub were_given : (answers : List Answer) (steps : List Step) (session epoch quorum : ℕ) → AllByRecursion (IsHeard answers session) steps → IsOwn (all_stepped begun steps) epoch quorum
    → IsAnswered answers session epoch (members_of quorum) × IsBegun answers session epoch (all_stepped begun steps).base (members_of quorum)
were_given answers steps session epoch quorum heard own =
    let c = all_stepped begun steps in
    let stands = steps_on answers session steps begun heard (begins answers session) in
    let all = of_members (Begins answers session epoch c.base) (members_of quorum)
    (λ v is. stands.told epoch v own.claims (within-has (members_of quorum) (members_of c.accepted) v own.accepted is)) in
    (knows_of answers session epoch c.base (members_of quorum) all, all)

-- ---- no epoch is claimed again

-- the session took its claim of this epoch back
record IsBack (epoch : ℕ) (c : Claim) : Type 0 where
  seen : epoch ≤ c.newest
  apart : (claimed : ℕ) → c.epoch ≡ Some claimed → epoch < claimed

-- the claim that goes on is of an epoch that was claimed
abbrev IsKnown : Claim → Type 0
IsKnown c = (claimed : ℕ) → c.epoch ≡ Some claimed → claimed ≤ c.newest

next_above : (c : Claim) (claimed : ℕ) → next_epoch c ≡ Some claimed → claimed ≡ c.newest + 1
next_above c claimed is = elim (nat_lt c.newest last_epoch) as (λ b. (if b then Some (c.newest + 1) else None) ≡ Some claimed → claimed ≡ c.newest + 1) [
  | true ↦ λ e. sym (same_Some (c.newest + 1) claimed e)
  | false ↦ λ e. absurd (none-some claimed e)
] is

back_claims : (epoch : ℕ) (c : Claim) (next : Option ℕ) → next_epoch c ≡ next → IsBack epoch c → IsBack epoch (claiming c next)
back_claims epoch c None is back = back
back_claims epoch c (Some claimed) is back =
    let more = next_above c claimed is in
    let seen = back.seen in
    record { seen = (omega arith); apart = λ other same. (let e = same_Some claimed other same in omega arith) }

known_claims : (c : Claim) (next : Option ℕ) → IsKnown c → IsKnown (claiming c next)
known_claims c None known = known
known_claims c (Some claimed) known = λ other same. (let e = same_Some claimed other same in omega arith)

-- an answer changes neither the epoch that is claimed nor those that were heard of
answer_keeps : (P : Claim → Type 0) (c : Claim) (a : Answer)
    → (P (record c { accepted = bit_or c.accepted (2 ^ a.voter); base = max c.base a.row.base })) → P c → P (accepted_by c a.voter a.row.epoch a.row.base)
answer_keeps P c a more same =
    elim (is_accepted_by c a.voter a.row.epoch) as (λ b. P (if b then record c { accepted = bit_or c.accepted (2 ^ a.voter); base = max c.base a.row.base } else c)) [
      | true ↦ more
      | false ↦ same
    ]

back_on : (epoch : ℕ) (c : Claim) (s : Step) → IsBack epoch c → IsBack epoch (stepped c s)
back_on epoch c (Sees other) back = (let seen = back.seen in record { seen = (omega arith); apart = back.apart })
back_on epoch c ClaimsNext back = back_claims epoch c (next_epoch c) refl back
back_on epoch c (Hears a) back = answer_keeps (IsBack epoch) c a (record { seen = back.seen; apart = back.apart }) back
back_on epoch c GivesUp back = record { seen = back.seen; apart = λ claimed same. absurd (none-some claimed same) }

known_on : (c : Claim) (s : Step) → IsKnown c → IsKnown (stepped c s)
known_on c (Sees other) known = λ claimed same. (let least = known claimed same in omega arith)
known_on c ClaimsNext known = known_claims c (next_epoch c) known
known_on c (Hears a) known = answer_keeps IsKnown c a known known
known_on c GivesUp known = λ claimed same. absurd (none-some claimed same)

stays_back : (steps : List Step) (c : Claim) (epoch : ℕ) → IsBack epoch c → (all_stepped c steps).epoch ≡ Some epoch → ⊥
stays_back [] c epoch back is = (let less = back.apart epoch is in omega arith)
stays_back (s ∷ steps) c epoch back is = stays_back steps (stepped c s) epoch (back_on epoch c s back) is

-- of a claim that is taken back, or of one that is taken back later
back_or_later : (claimed : Option ℕ) (epoch : ℕ) (later : List ℕ) → IsOneOf epoch (epochs_of claimed ++ later) → (claimed ≡ Some epoch) ⊎ IsOneOf epoch later
back_or_later None epoch later is = inr is
back_or_later (Some claimed) epoch later is = elim is [
  | inl e ↦ inl (ap (λ (x : ℕ). Some x) (sym e))
  | inr rest ↦ inr rest
]

never : (steps : List Step) (c : Claim) (epoch : ℕ) → IsKnown c → (all_stepped c steps).epoch ≡ Some epoch → IsOneOf epoch (taken_back c steps) → ⊥
never [] c epoch known is among = absurd among
never (Sees other ∷ steps) c epoch known is among = never steps (saw c other) epoch (known_on c (Sees other) known) is among
never (ClaimsNext ∷ steps) c epoch known is among = never steps (claims_next c) epoch (known_on c ClaimsNext known) is among
never (Hears a ∷ steps) c epoch known is among = never steps (accepted_by c a.voter a.row.epoch a.row.base) epoch (known_on c (Hears a) known) is among
never (GivesUp ∷ steps) c epoch known is among = elim (back_or_later c.epoch epoch (taken_back (given_up c) steps) among) [
  | inl e ↦ stays_back steps (given_up c) epoch (record { seen = known epoch e; apart = λ claimed same. absurd (none-some claimed same) }) is
  | inr later ↦ never steps (given_up c) epoch (known_on c GivesUp known) is later
]

pub made_once : (steps : List Step) (epoch : ℕ) → (all_stepped begun steps).epoch ≡ Some epoch → IsOneOf epoch (taken_back begun steps) → ⊥
made_once steps epoch = never steps begun epoch (λ claimed same. absurd (none-some claimed same))

-- ---- whose the number is

keeps : (events : List Event) (answers : List Answer) (session epoch : ℕ) (steps : List Step) → AreSteps events answers session steps → (all_stepped begun steps).epoch ≡ Some epoch
    → KeepsClaim events session epoch
keeps events answers session epoch steps are is voter among = made_once steps epoch is (are.backs voter epoch among)

pub by_one : (rows : List Row) (quorums : List (List ℕ)) (events : List Event) (steps others : List Step) (session other epoch first second : ℕ)
    → DoMeet quorums → IsOneOf (members_of first) quorums → IsOneOf (members_of second) quorums
    → AreSteps events (all_happen (start rows) events).answers session steps
    → AreSteps events (all_happen (start rows) events).answers other others
    → IsOwn (all_stepped begun steps) epoch first → IsOwn (all_stepped begun others) epoch second → session ≡ other
by_one rows quorums events steps others session other epoch first second meet in_first in_second one two own other_own =
    let answers = (all_happen (start rows) events).answers in
    one_of_epoch rows quorums events (members_of first) (members_of second) session other epoch meet in_first in_second
    (keeps events answers session epoch steps one own.claims) (keeps events answers other epoch others two other_own.claims)
    (were_given answers steps session epoch first one.heard own).0 (were_given answers others other epoch second two.heard other_own).0

pub above : (rows : List Row) (quorums : List (List ℕ)) (events : List Event) (steps : List Step) (session epoch quorum : ℕ) (x : Use)
    → DoMeet quorums → MayAllCome quorums (start rows) events → IsOneOf (members_of quorum) quorums
    → AreSteps events (all_happen (start rows) events).answers session steps → IsOwn (all_stepped begun steps) epoch quorum
    → IsOneOf x (all_happen (start rows) events).uses → x.epoch < epoch → x.stamp ≤ (all_stepped begun steps).base
above rows quorums events steps session epoch quorum x meet may among one own in_x less =
    let answers = (all_happen (start rows) events).answers in
    begin_above rows quorums events (members_of quorum) session epoch (all_stepped begun steps).base x meet may among
    (were_given answers steps session epoch quorum one.heard own).1 in_x less
