-- Receipts and their tickets.
use Rattle.std.proofs.Common.{◌≡◌, ◌<◌, ℕ, suc, zero, List, [], ◌∷◌, get_or, map, length, refl, sym, ap, ◌∙◌, arith}
use Rattle.std.proofs.lemmas.List.{get_or-map, length-map}
use Rattle.certificate.specs.Certificates.{Weighted, IsCertificate}
use Rattle.dealer.specs.declared.receipt.Receipt.{Receipt}
use Rattle.dealer.specs.Cycles.{quorum_of_ticket}
use Rattle.dealer.specs.Offices.{receipt_of, tickets_of, AreByCycle}
use Rattle.dealer.proofs.AccountLemmas.{ticket_in_range}
use Rattle.numbers.specs.Sums.{AreAllBelow}

-- the tickets of the tickets' receipts
pub tickets_of-map : (w : Weighted) (tickets : List ℕ) → tickets_of (map (receipt_of w) tickets) ≡ tickets
tickets_of-map w [] = refl
tickets_of-map w (t ∷ ts) = ap (λ (l : List ℕ). t ∷ l) (tickets_of-map w ts)

pub tickets_of-receipts : (w : Weighted) (tickets : List ℕ) (receipts : List Receipt) → receipts ≡ map (receipt_of w) tickets → tickets_of receipts ≡ tickets
tickets_of-receipts w tickets receipts are = ap tickets_of are ∙ tickets_of-map w tickets

-- tickets' receipts name the tickets' quorums
pub AreByCycle-map : (w : Weighted) (tickets : List ℕ) → AreByCycle w (map (receipt_of w) tickets)
AreByCycle-map w [] k d lt = absurd (omega arith)
AreByCycle-map w (t ∷ ts) zero d lt = refl
AreByCycle-map w (t ∷ ts) (suc k) d lt = AreByCycle-map w ts k d (omega arith)

-- the tickets of receipts that have all tickets below their number
pub AreAllBelow-receipts : (cycle : Weighted) (drawn : List ℕ) (receipts : List Receipt) → receipts ≡ map (receipt_of cycle) drawn → AreAllBelow drawn (length drawn)
    → AreAllBelow (tickets_of receipts) (length receipts)
AreAllBelow-receipts cycle drawn receipts are all = rw (tickets_of-receipts cycle drawn receipts are, ap length are ∙ length-map drawn (receipt_of cycle)) all

-- a receipt among these names its ticket's quorum, which is one of the plan's
pub receipt_names : (w : Weighted) (receipts : List Receipt) (i : ℕ) (d : Receipt) → IsCertificate w → AreByCycle w receipts → i < length receipts
    → ((get_or receipts i d).quorum ≡ quorum_of_ticket w (get_or (tickets_of receipts) i 0)) × ((get_or receipts i d).quorum < length w.system.quorums)
receipt_names w receipts i d is by_cycle lt =
    let at = get_or-map (λ (r : Receipt). r.ticket) receipts i d 0 lt in
    let names = by_cycle i d lt ∙ ap (quorum_of_ticket w) (sym at) in
    (names, omega (arith, names, ticket_in_range w (get_or (tickets_of receipts) i 0) is))
