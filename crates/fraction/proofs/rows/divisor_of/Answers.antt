use Rattle.std.proofs.Common.{ℕ, ◌<◌, unsigned_abs, length, sym, subst, arith, below_more}
use Rattle.std.specs.Int.{◌∣◌}
use Rattle.std.proofs.lemmas.Nat.Gcd.{dvd_trans}
use Rattle.fraction.specs.Rows.{lists_of, row_at, entry_of}
use Rattle.fraction.proofs.rows.divisor_of.Goals as goal

pub loop-i-preserved : goal.loop-i-preserved
loop-i-preserved c =
    let is = c.divisor_of-common.ensures in
    record {
      number = dvd_trans _ is.number c.loop-i.invariant.number;
      entries = λ k j below. below_more (λ k. (j : ℕ) → j < length (row_at (lists_of c.args.rows.now) k)
          → c.divisor_of-common.result ∣ unsigned_abs (entry_of (row_at (lists_of c.args.rows.now) k) j)) c.loop-i.i
          (λ k lt j within. dvd_trans _ is.number (c.loop-i.invariant.entries k j lt within))
          (subst (λ r. (j : ℕ) → j < length r → c.divisor_of-common.result ∣ unsigned_abs (entry_of r j)) c.row_of.ensures is.entries) k below j;
      greatest = λ d number entries. is.greatest d (c.loop-i.invariant.greatest d number (λ k j lt. entries k j (omega arith)))
          (subst (λ r. (j : ℕ) → j < length r → d ∣ unsigned_abs (entry_of r j)) (sym c.row_of.ensures) (λ j. entries c.loop-i.i j (omega arith)));
    }
