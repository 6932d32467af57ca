-- what is kept of answers, and which of them it stands for
use Rattle.std.proofs.Common.{◌≡◌, ℕ, ◌≤◌, ◌<◌, Bool, true, false, List, [], ◌∷◌, refl, subst, ap, arith, inl, inr, if◌then◌else◌}
use Rattle.std.specs.Prelude.{◌&&◌, max, nat_le, nat_lt}
use Rattle.std.specs.List.{AllByRecursion}
use Rattle.std.proofs.lemmas.Bool.{false≢true}
use Rattle.std.proofs.lemmas.Bool.Decides.{nat_tests}
use Rattle.sessions.specs.Rows.{IsOneOf}
use Rattle.lost_rows.specs.Voters.{Answer, IsTold}
use Rattle.own_stamps.specs.Stamps.{AreBelow, IsOf, all_told, is_own, renewed, told}
use Rattle.own_stamps.specs.declared.stamps.OwnStamps.{OwnStamps}

both : (a b : Bool) → (a && b) ≡ true → (a ≡ true) × (b ≡ true)
both true b is = (refl, is)
both false b is = absurd (false≢true is)

-- an answer of these by which a stamp is the session's own
abbrev pub GivesStamp : List Answer → List Answer → ℕ → ℕ → ℕ → ℕ → Type 0
GivesStamp answers taken session epoch stamp voter = (a : Answer) × IsOneOf a taken × IsTold answers session epoch stamp voter a

-- one of the answers gives the stamp that is between the greatest base and the greatest reserved stamp
one_gives : (answers taken : List Answer) (session epoch stamp voter run : ℕ) → AllByRecursion (IsOf answers session epoch voter run) taken
    → (all_told run taken).base < stamp → stamp ≤ (all_told run taken).reserved → GivesStamp answers taken session epoch stamp voter
one_gives answers [] session epoch stamp voter run of above few = absurd (omega arith)
one_gives answers (a ∷ taken) session epoch stamp voter run of above few =
    elim (nat_le stamp a.row.reserved) as (λ b. nat_le stamp a.row.reserved ≡ b → GivesStamp answers (a ∷ taken) session epoch stamp voter) [
      | true ↦ λ e. (
        a,
        inl refl,
        record {
          among = of.0.0;
          of_voter = of.0.1;
          of_session = of.0.2;
          of_epoch = of.0.3;
          above = (omega arith);
          few = (grind (arith, nat_tests));
        },
      )
      | false ↦ λ e.
          let beyond : a.row.reserved < stamp = grind (arith, nat_tests) in
          let rest = one_gives answers taken session epoch stamp voter run of.1 (omega arith) (omega arith) in
          (rest.0, inr rest.1, rest.2)
    ] refl

pub were_told : (answers taken : List Answer) (session epoch stamp voter run : ℕ) → AllByRecursion (IsOf answers session epoch voter run) taken
    → is_own (all_told run taken) stamp ≡ true → GivesStamp answers taken session epoch stamp voter
were_told answers taken session epoch stamp voter run of is =
    let s = all_told run taken in
    let rest = both s.is_told (nat_lt s.base stamp && nat_le stamp s.reserved) is in
    let bounds = both (nat_lt s.base stamp) (nat_le stamp s.reserved) rest.1 in
    let above = bounds.0 in
    let few = bounds.1 in
    one_gives answers taken session epoch stamp voter run of (grind (arith, nat_tests)) (grind (arith, nat_tests))

-- ---- what was told stays

base_below : (run : ℕ) (taken : List Answer) (stamp : ℕ) → AllByRecursion (AreBelow stamp) taken → 0 < stamp → (all_told run taken).base < stamp
base_below run [] stamp below some = some
base_below run (a ∷ taken) stamp below some = (let least = base_below run taken stamp below.1 some in let here = below.0 in omega arith)

reserved_stays : (run : ℕ) (taken : List Answer) (a : Answer) → IsOneOf a taken
    → ((all_told run taken).is_told ≡ true) × (a.row.reserved ≤ (all_told run taken).reserved)
reserved_stays run [] a among = absurd among
reserved_stays run (b ∷ taken) a among = elim among [
  | inl e ↦ (refl, subst (λ (x : Answer). a.row.reserved ≤ max (all_told run taken).reserved x.row.reserved) e (omega arith))
  | inr rest ↦ (refl, (let few = (reserved_stays run taken a rest).1 in omega arith))
]

and_all : (a b c : Bool) → a ≡ true → b ≡ true → c ≡ true → (a && (b && c)) ≡ true
and_all true true c first second third = third
and_all true false c first second third = absurd (false≢true second)
and_all false b c first second third = absurd (false≢true first)

pub are_own : (taken : List Answer) (session epoch stamp voter run : ℕ) (a : Answer) → IsTold taken session epoch stamp voter a
    → AllByRecursion (AreBelow stamp) taken → is_own (all_told run taken) stamp ≡ true
are_own taken session epoch stamp voter run a told below =
    let s = all_told run taken in
    let stays = reserved_stays run taken a told.among in
    let above = told.above in
    let few = told.few in
    let least = base_below run taken stamp below (omega arith) in
    let most = stays.1 in
    and_all s.is_told (nat_lt s.base stamp) (nat_le stamp s.reserved) stays.0 (grind (arith, nat_tests)) (let bound : stamp ≤ s.reserved = omega arith in grind (arith, nat_tests))

-- ---- runs

pub none_known : (s : OwnStamps) (run stamp : ℕ) → s.run < run → is_own (renewed s run) stamp ≡ false
none_known s run stamp later =
    let is : nat_lt s.run run ≡ true = grind (arith, nat_tests) in
    ap (λ (b : Bool). is_own (if b then record { run = run; is_told = false; base = 0; reserved = 0 } else s) stamp) is

pub none_late : (s : OwnStamps) (run base reserved : ℕ) → run < s.run → told s run base reserved ≡ s
none_late s run base reserved earlier =
    let is : nat_lt run s.run ≡ true = grind (arith, nat_tests) in
    ap (λ (b : Bool). if b then s else record { run = (renewed s run).run; is_told = true; base = max (renewed s run).base base; reserved = max (renewed s run).reserved reserved }) is
