-- what is spent by a row stays so, whatever comes to its voter
use Rattle.std.proofs.Common.{◌≡◌, ℕ, ◌≤◌, Bool, true, false, refl, inl, inr, Some, None, arith}
use Rattle.std.specs.Prelude.{max, if◌then◌else◌}
use Rattle.sessions.specs.Rows.{Row, claimed, closed, dropped, has_number, is_new, reserved, taken_back}
use Rattle.lost_rows.specs.Spent.{Keeps}

pub at_least : (a c m : ℕ) → m ≡ max a c → (a ≤ m) × (c ≤ m)
at_least a c m e = (omega arith, omega arith)

claim_keeps : (r : Row) (name epoch : ℕ) (t : Bool)
    → Keeps r (if t then record { epoch = epoch; session = Some name; base = r.reserved; reserved = r.reserved; again = false } else r)
claim_keeps r name epoch false = λ x e s is. is
claim_keeps r name epoch true = λ x e s is. record { few = is.few; whose = inl is.few }

pub claimed_keeps : (r : Row) (name epoch : ℕ) → Keeps r (claimed r name epoch)
claimed_keeps r name epoch = claim_keeps r name epoch (is_new r epoch)

reserve_keeps : (r : Row) (stamp : ℕ) (t : Bool)
    → Keeps r (if t then record { epoch = r.epoch; session = r.session; base = r.base; reserved = max r.reserved stamp; again = r.again } else r)
reserve_keeps r stamp false = λ x e s is. is
reserve_keeps r stamp true = λ x e s is.
    let few = is.few in
    let up = (at_least r.reserved stamp (max r.reserved stamp) refl).0 in
    record { few = omega arith; whose = elim is.whose [ inl below ↦ inl below | inr of ↦ inr (record { same = of.same; name = of.name }) ] }

pub reserved_keeps : (r : Row) (name epoch stamp : ℕ) → Keeps r (reserved r name epoch stamp)
reserved_keeps r name epoch stamp = reserve_keeps r stamp (has_number r name epoch)

end_keeps : (r : Row) (again t : Bool)
    → Keeps r (if t then record { epoch = r.epoch; session = None; base = r.base; reserved = r.reserved; again = again } else r)
end_keeps r again false = λ x e s is. is
end_keeps r again true = λ x e s is.
    record { few = is.few; whose = elim is.whose [ inl below ↦ inl below | inr of ↦ inr (record { same = of.same; name = inr refl }) ] }

pub closed_keeps : (r : Row) (name epoch : ℕ) → Keeps r (closed r name epoch)
closed_keeps r name epoch = end_keeps r false (has_number r name epoch)

pub taken_back_keeps : (r : Row) (name epoch : ℕ) → Keeps r (taken_back r name epoch)
taken_back_keeps r name epoch = end_keeps r true (has_number r name epoch)

pub dropped_keeps : (r : Row) (epoch stamp : ℕ) → Keeps r (dropped r epoch stamp)
dropped_keeps r epoch stamp = λ x e s is.
    let few = is.few in
    let up = (at_least r.reserved stamp (max r.reserved stamp) refl).0 in
    record { few = omega arith; whose = inl (omega arith) }
