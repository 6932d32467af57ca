-- faults of a step, and numbers of clients and voters
use Rattle.std.proofs.Common.{◌≡◌, ℕ, ◌<◌, ◌≤◌, true, false, Result, Ok, Err, refl, sym, subst, ap, ◌∙◌, arith}
use Rattle.std.specs.Prelude.{nat_lt}
use Rattle.std.proofs.lemmas.Bool.Decides.{nat_tests}
use Rattle.world_state.specs.declared.fault.WorldFault.{WorldFault}
use Rattle.world_state.specs.declared.fault.WorldFault.TheVariants as faults
use Rattle.world_state.specs.Steps as world

-- the step's own fault refuses it
pub refuses : (wanted : Result world.Outcome WorldFault) (fault : WorldFault) → wanted ≡ Err fault → world.Refuses wanted fault
refuses wanted fault is = subst (λ r. world.Refuses r fault) (sym is) refl

-- a step without a fault fails only if out of memory
pub no_memory : (wanted : Result world.Outcome WorldFault) (o : world.Outcome) → wanted ≡ Ok o → world.Refuses wanted faults.OutOfMemory
no_memory wanted o is = subst (λ r. world.Refuses r faults.OutOfMemory) (sym is) refl

pub if_client-below : (c n : ℕ) (next : Result world.Outcome WorldFault) → c < n → world.if_client (nat_lt c n) c next ≡ next
if_client-below c n next within = ap (λ t. world.if_client t c next) (let e : nat_lt c n ≡ true = grind (arith, nat_tests) in e)

pub if_client-missing : (c n : ℕ) (next : Result world.Outcome WorldFault) (fault : WorldFault) → (fault ≡ faults.NoSuchClient c) × (n ≤ c) → world.if_client (nat_lt c n) c next ≡ Err fault
if_client-missing c n next fault missing =
    let beyond = missing.1 in
    ap (λ t. world.if_client t c next) (let e : nat_lt c n ≡ false = grind (arith, nat_tests) in e) ∙ ap (λ (f : WorldFault). Err f) (sym missing.0)

pub if_voter-below : (v n : ℕ) (next : Result world.Outcome WorldFault) → v < n → world.if_voter (nat_lt v n) v next ≡ next
if_voter-below v n next within = ap (λ t. world.if_voter t v next) (let e : nat_lt v n ≡ true = grind (arith, nat_tests) in e)

pub if_voter-missing : (v n : ℕ) (next : Result world.Outcome WorldFault) (fault : WorldFault) → (fault ≡ faults.NoSuchVoter v) × (n ≤ v) → world.if_voter (nat_lt v n) v next ≡ Err fault
if_voter-missing v n next fault missing =
    let beyond = missing.1 in
    ap (λ t. world.if_voter t v next) (let e : nat_lt v n ≡ false = grind (arith, nat_tests) in e) ∙ ap (λ (f : WorldFault). Err f) (sym missing.0)
