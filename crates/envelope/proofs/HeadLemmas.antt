-- A header is what its parts are.
use Rattle.std.proofs.Common.{◌≡◌, ℕ, List, refl}
use Rattle.envelope.specs.Headers.{Head}
use Rattle.envelope.specs.declared.header.Sender.{Sender}

pub same_head : (h : Head) (cluster coterie name : List ℕ) (sender : Sender) (level : ℕ) → cluster ≡ h.cluster → coterie ≡ h.coterie → sender ≡ h.sender
    → name ≡ h.name → level ≡ h.level
    → ◌≡◌ {A = Head} (record { cluster = cluster; coterie = coterie; sender = sender; name = name; level = level }) h
same_head h cluster coterie name sender level a b s n l = rw (a, b, s, n, l) refl
