-- Tests that failed or passed.
use Rattle.std.proofs.Common.{◌≡◌, ◌↔◌, Bool, true, false}
use Rattle.std.specs.Prelude.{IsTrue}

pub fails : {P : Type 0} (b : Bool) → (IsTrue b ↔ P) → b ≡ false → P → ⊥
fails b h e p = let t : b ≡ true = h.1 p in cc

pub passes : {P : Type 0} (b : Bool) → (IsTrue b ↔ P) → b ≡ true → P
passes b h e = h.0 e
