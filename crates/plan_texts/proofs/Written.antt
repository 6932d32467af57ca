-- What is written of a plan.
use Rattle.std.proofs.Common.{◌≡◌, ℕ, ◌+◌, ◌<◌, ◌≤◌, List, [], ◌∷◌, ◌++◌, length, get_or, take, Result, Ok, Err, sym, refl, ap, ◌∙◌, arith, append_assoc}
use Rattle.std.specs.Prelude.{codes, IfOk, IfSome, Option, None, Some, String, string_bytes}
use Rattle.std.specs.Fmt.{decimal}
use Rattle.std.proofs.lemmas.List.{take_more, length-take}
use Rattle.texts.specs.Lines.{text_of_lines}
use Rattle.plan_texts.specs.PlanTexts.{with_spaces, ratio_line, cycle_line, bound_lines, capacity_lines}
use Rattle.plan_texts.proofs.PlanLines.{with_spaces-push}

pub with_spaces-first : (new text before ns : List ℕ) (k : ℕ) → k ≤ 0 → k < length ns → new ≡ text ++ decimal (get_or ns k 0) → text ≡ before → before ≡ with_spaces (take k ns) → new ≡ with_spaces (take (k + 1) ns)
with_spaces-first new text before ns k low lt written same is =
    let none : k ≡ 0 = omega arith in
    let nothing : with_spaces (take k ns) ≡ [] = rw none refl in
    let one : with_spaces (take k ns ++ get_or ns k 0 ∷ []) ≡ decimal (get_or ns k 0) = rw none refl in
    written ∙ ap (λ t. t ++ decimal (get_or ns k 0)) (same ∙ is ∙ nothing) ∙ sym one ∙ ap with_spaces (sym (take_more ns k 0 lt))

pub with_spaces-next : (new text pushed before ns : List ℕ) (k : ℕ) → 0 < k → k < length ns → new ≡ text ++ decimal (get_or ns k 0) → text ≡ pushed → pushed ≡ before ++ 32 ∷ []
    → before ≡ with_spaces (take k ns) → new ≡ with_spaces (take (k + 1) ns)
with_spaces-next new text pushed before ns k some lt written same push is =
    written ∙ ap (λ t. t ++ decimal (get_or ns k 0)) (same ∙ push ∙ ap (λ t. t ++ 32 ∷ []) is)
    ∙ append_assoc (with_spaces (take k ns)) (32 ∷ []) (decimal (get_or ns k 0))
    ∙ sym (with_spaces-push (take k ns) (get_or ns k 0) (omega (arith, length-take k ns)))
    ∙ ap with_spaces (sym (take_more ns k 0 lt))

-- the lines as one text, with the title, the lines of bound and capacities, and the weights as they were written
abbrev pub written_text : List ℕ → ℕ → ℕ → List ℕ → ℕ → List ℕ → List ℕ → List ℕ → List ℕ
written_text title p q bound d capacities quorums voters =
    (title ++ (codes "\nload " ++ (decimal p
    ++ (codes "/" ++ (decimal q ++ (codes "\n" ++ (bound ++ (codes "cycle " ++ (decimal d ++ (codes "\n" ++ (capacities ++ codes "quorum ")))))))))))
    ++ (quorums ++ (codes "\nvoter " ++ (voters ++ codes "\n")))

-- the line of a bound, as it is written
abbrev pub written_bound : ℕ → ℕ → List ℕ
written_bound p q = codes "bound " ++ (decimal p ++ (codes "/" ++ (decimal q ++ codes "\n")))

pub written_bound-lines : (p q : ℕ) → written_bound p q ≡ text_of_lines (bound_lines (Some (p, q)))
written_bound-lines p q = simp append_assoc

pub written_text-lines : (b : Option (ℕ × ℕ)) (c : Option (List ℕ)) (title : List ℕ) (p q d : ℕ) (quorums voters : List ℕ)
    → written_text title p q (text_of_lines (bound_lines b)) d (text_of_lines (capacity_lines c)) quorums voters
    ≡ text_of_lines (title ∷ ratio_line (codes "load ") (p, q)
    ∷ (bound_lines b ++ cycle_line d ∷ (capacity_lines c ++ ((codes "quorum " ++ quorums) ∷ (codes "voter " ++ voters) ∷ []))))
written_text-lines None None title p q d quorums voters = simp append_assoc
written_text-lines None (Some capacities) title p q d quorums voters = simp append_assoc
written_text-lines (Some b) None title p q d quorums voters = simp append_assoc
written_text-lines (Some b) (Some capacities) title p q d quorums voters = simp append_assoc

pub is_text : {A E : Type 0} (r : Result (String A) E) (got wanted : List ℕ) → IfOk r (λ s. IfSome (Some got) (λ bs. string_bytes s ≡ bs)) → got ≡ wanted → IfOk r (λ s. string_bytes s ≡ wanted)
is_text (Ok s) got wanted h e = h ∙ e
is_text (Err x) got wanted h e = tt
