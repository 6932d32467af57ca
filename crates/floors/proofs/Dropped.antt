-- a row that is dropped, and one that begins at the floor
use Rattle.std.proofs.Common.{◌≡◌, ◌<◌, ◌≤◌, ℕ, zero, suc, Bool, true, false, List, [], ◌∷◌, refl, sym, ap, subst, ◌∙◌, ◌⊎◌, inl, inr, Option, Some, None, arith, length}
use Rattle.std.specs.Prelude.{◌==◌, ◌&&◌, ◌||◌, not, is_none, max, nat_le, nat_lt, if◌then◌else◌, slice_index_or, slice_set}
use Rattle.std.proofs.lemmas.Bool.{cases_lt, false≢true}
use Rattle.std.proofs.lemmas.Bool.Decides.{nat_tests}
use Rattle.floors.specs.Floors.{Floor, MayStandFor, above_both, row_on}
use Rattle.session_rows.specs.Calls.{floor_row, learn_of}
use Rattle.session_rows.specs.declared.claim.Heard.{Heard}
use Rattle.sessions.specs.Rows.{Row, claimed, dropped, is_new}
use Rattle.sessions.specs.Tables.{Drops, World, happens, no_row, row_at}

-- an epoch may not be claimed again that is not below the floor
spent : (a : Bool) (session : Option ℕ) (epoch floor : ℕ) → (a ≡ true → epoch < floor) → (nat_le floor epoch && (a && is_none session)) ≡ false
spent false session epoch floor below = elim (nat_le floor epoch) as (λ b. (b && false) ≡ false) [ false ↦ refl | true ↦ refl ]
spent true session epoch floor below = let less = below refl in let none : nat_le floor epoch ≡ false = grind (arith, nat_tests) in ap (λ b. b && is_none session) none

or_false : (b : Bool) → (b || false) ≡ b
or_false false = refl
or_false true = refl

and_false : (b : Bool) → (b && false) ≡ false
and_false false = refl
and_false true = refl

of_parts : (e s : ℕ) (epoch stamp : ℕ) (again : Bool) → epoch ≡ e → stamp ≡ s → again ≡ false
    → record { epoch = epoch; session = None; base = stamp; reserved = stamp; again = again } ≡ floor_row e s
of_parts e s epoch stamp again newer more is =
    ap (λ (x : ℕ). record { epoch = x; session = None; base = stamp; reserved = stamp; again = again }) newer
    ∙ (ap (λ (x : ℕ). record { epoch = e; session = None; base = x; reserved = x; again = again }) more
    ∙ ap (λ (b : Bool). record { epoch = e; session = None; base = s; reserved = s; again = b }) is)

greater : (a b : ℕ) → a ≤ b → max a b ≡ b
greater a b le = omega arith

pub begins : (f : Floor) (number : ℕ) (r : Row) → MayStandFor f number r → dropped r (f.epochs number) f.stamp ≡ row_on f number
begins f number r may = of_parts (f.epochs number) f.stamp (max r.epoch (f.epochs number)) (max r.reserved f.stamp)
    (nat_le (f.epochs number) r.epoch && (r.again && is_none r.session))
    (greater r.epoch (f.epochs number) may.0) (greater r.reserved f.stamp may.1) (spent r.again r.session r.epoch (f.epochs number) may.2)

-- what a voter's row is set to, it is
at_set : (rows : List Row) (v : ℕ) (r : Row) → v < length rows → row_at (slice_set rows v r) v ≡ r
at_set [] v r few = absurd (omega arith)
at_set (x ∷ xs) zero r few = refl
at_set (x ∷ xs) (suc v) r few = at_set xs v r (omega arith)

pub forgets : (f : Floor) (number voter : ℕ) (w : World) → voter < length w.live → MayStandFor f number (row_at w.live voter)
    → row_at (happens w (Drops voter (f.epochs number) f.stamp)).live voter ≡ row_on f number
forgets f number voter w few may =
    at_set w.live voter (dropped (row_at w.live voter) (f.epochs number) f.stamp) few ∙ begins f number (row_at w.live voter) may

pub above : (f : Floor) (number epoch : ℕ) → is_new (row_on f number) epoch ≡ nat_lt (f.epochs number) epoch
above f number epoch =
    elim (f.epochs number == epoch) as (λ b. (nat_lt (f.epochs number) epoch || (b && (false && true))) ≡ nat_lt (f.epochs number) epoch) [
      | false ↦ or_false (nat_lt (f.epochs number) epoch)
      | true ↦ or_false (nat_lt (f.epochs number) epoch)
    ]

pub higher : (f : Floor) (number session epoch : ℕ) → f.epochs number < epoch → (claimed (row_on f number) session epoch).base ≡ f.stamp
higher f number session epoch less =
    let test : is_new (row_on f number) epoch ≡ true = (above f number epoch ∙ (grind (arith, nat_tests))) in
    subst (λ b. (if b then record { epoch = epoch; session = Some session; base = f.stamp; reserved = f.stamp; again = false } else row_on f number).base ≡ f.stamp)
    (sym test) refl

-- ---- a floor that is learned

-- a floor that is dropped to another one
again_dropped : (f g : Floor) (number epoch : ℕ) → max (f.epochs number) epoch ≡ max (f.epochs number) (g.epochs number)
    → dropped (row_on f number) epoch g.stamp ≡ row_on (above_both f g) number
again_dropped f g number epoch same = of_parts (max (f.epochs number) (g.epochs number)) (max f.stamp g.stamp)
    (max (f.epochs number) epoch) (max f.stamp g.stamp) (nat_le epoch (f.epochs number) && (false && true)) same refl
    (elim (nat_le epoch (f.epochs number)) as (λ b. (b && (false && true)) ≡ false) [ false ↦ refl | true ↦ refl ])

learned_by : (f g : Floor) (number : ℕ) (here newer : Bool) → nat_lt (f.epochs number) (g.epochs number) ≡ newer
    → (if newer && (true || not here) then dropped (row_on f number) (g.epochs number) g.stamp
    else if (f.epochs number == g.epochs number) && (false && (here && true)) then dropped (row_on f number) (f.epochs number) g.stamp
    else dropped (row_on f number) 0 g.stamp) ≡ row_on (above_both f g) number
learned_by f g number here true is = again_dropped f g number (g.epochs number) refl
learned_by f g number here false is =
    let same : max (f.epochs number) 0 ≡ max (f.epochs number) (g.epochs number) = (let few : g.epochs number ≤ f.epochs number = grind (arith, nat_tests) in omega arith) in
    subst (λ b. (if b then dropped (row_on f number) (f.epochs number) g.stamp else dropped (row_on f number) 0 g.stamp) ≡ row_on (above_both f g) number)
    (sym (and_false (f.epochs number == g.epochs number))) (again_dropped f g number 0 same)

pub learned : (f g : Floor) (number : ℕ) (heard : Heard) → heard.there ≡ true → learn_of (row_on f number) (row_on g number) heard ≡ row_on (above_both f g) number
learned f g number heard there = subst (λ (t : Bool).
    (if nat_lt (f.epochs number) (g.epochs number) && (t || not heard.here) then dropped (row_on f number) (g.epochs number) g.stamp
    else if (f.epochs number == g.epochs number) && (false && (heard.here && t)) then dropped (row_on f number) (f.epochs number) g.stamp
    else dropped (row_on f number) 0 g.stamp) ≡ row_on (above_both f g) number)
    (sym there) (learned_by f g number heard.here (nat_lt (f.epochs number) (g.epochs number)) refl)
