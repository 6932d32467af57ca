-- Lemmas on texts that are written line by line.
use Rattle.std.proofs.Common.{◌≡◌, ℕ, ◌+◌, List, [], ◌∷◌, ◌++◌, map, suc, refl, ap, ap₂, sym, ◌∙◌, arith}
use Rattle.std.proofs.lemmas.List.{append_assoc}
use Rattle.std.specs.List.{flat_map, range_with_len}
use Rattle.certificate.specs.Certificates.{Weighted}
use Rattle.dealer.specs.Accounts.{account_of}
use Rattle.dealer.specs.declared.account.Account.{Account}
use Rattle.dealer.specs.declared.receipt.Receipt.{Receipt}
use Rattle.dealer.specs.Offices.{receipt_of}
use Rattle.numbers.proofs.CountLemmas.{flat_map-range_more}
use Rattle.plan_inputs.specs.Inputs.{PlannedSystem}
use Rattle.commands.specs.Commands.{account_text, deal_text, ratio_part, receipt_line, ticket_line}

-- what was written for the numbers below n, and then the line of n
pub flat_map-more_lines : (line : ℕ → List ℕ) (n : ℕ) (before now after : List ℕ) → now ≡ before ++ flat_map line (range_with_len 0 n) → after ≡ now ++ line n → after ≡ before
    ++ flat_map line (range_with_len 0 (n + 1))
flat_map-more_lines line n before now after so_far one =
    let next : suc n ≡ n + 1 = omega arith in
    one ∙ ap (λ t. t ++ line n) so_far ∙ append_assoc before (flat_map line (range_with_len 0 n)) (line n)
    ∙ ap (λ t. before ++ t) (sym (flat_map-range_more line 0 n n (omega arith)) ∙ ap (λ m. flat_map line (range_with_len 0 m)) next)

-- the lines of the receipts of tickets are those of the tickets
pub receipt_lines : (w : Weighted) (tickets : List ℕ) → flat_map receipt_line (map (receipt_of w) tickets) ≡ flat_map (ticket_line w) tickets
receipt_lines w [] = refl
receipt_lines w (t ∷ ts) = ap (λ rest. ticket_line w t ++ rest) (receipt_lines w ts)

-- the lines of the receipts, behind them those of the account, and its ratio
pub deal_text-joined : (p : PlannedSystem) (n : ℕ) (receipts : List Receipt) (account : Account) → receipts ≡ map (receipt_of p.plan) (range_with_len 0 n)
    → account ≡ account_of p.plan (range_with_len 0 n)
    → flat_map receipt_line receipts ++ (account_text p.named.names account ++ ratio_part p.named.capacities account) ≡ deal_text p n
unfolding deal_text
deal_text-joined p n receipts account drawn counts =
    ap₂ (λ (t : List ℕ) (a : Account). t ++ (account_text p.named.names a ++ ratio_part p.named.capacities a))
    (ap (flat_map receipt_line) drawn ∙ receipt_lines p.plan (range_with_len 0 n)) counts
