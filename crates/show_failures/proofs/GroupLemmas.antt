-- Lemmas on groups of voters.
use Rattle.std.proofs.Common.{◌≡◌, ℕ, ◌+◌, Bool, true, false, cond, List, [], ◌∷◌, ◌++◌, map, filter, sym, refl, ap, ◌∙◌, arith}
use Rattle.std.specs.List.{range_with_len}
use Rattle.std.proofs.lemmas.List.{append-nil, map-append}
use Rattle.std.proofs.lemmas.List.Elements.{filter-append}
use Rattle.std.proofs.lemmas.List.FromFn.{map-range_with_len_more}
use Rattle.show_failures.specs.Groups.{group_of, groups_below, leads}

map-id : (xs : List ℕ) → map (λ x. x) xs ≡ xs
map-id [] = refl
map-id (x ∷ xs) = ap (λ t. x ∷ t) (map-id xs)

range-more : (n : ℕ) → range_with_len 0 (n + 1) ≡ range_with_len 0 n ++ n ∷ []
range-more n =
    sym (map-id (range_with_len 0 (n + 1))) ∙ map-range_with_len_more (λ x. x) 0 n n (omega arith) ∙ ap (λ t. t ++ n ∷ []) (map-id (range_with_len 0 n))

-- the groups of one voter more
groups_below-more : (names : List (List ℕ)) (n : ℕ) → groups_below names (n + 1) ≡ groups_below names n ++ map (group_of names) (filter (leads names) (n ∷ []))
groups_below-more names n =
    ap (λ t. map (group_of names) (filter (leads names) t)) (range-more n)
    ∙ ap (map (group_of names)) (filter-append (leads names) (range_with_len 0 n) (n ∷ []))
    ∙ map-append (group_of names) (filter (leads names) (range_with_len 0 n)) (filter (leads names) (n ∷ []))

one_leads : (names : List (List ℕ)) (n : ℕ) (b : Bool) → leads names n ≡ b → map (group_of names) (filter (leads names) (n ∷ [])) ≡ map (group_of names) (cond b (n ∷ []) [])
one_leads names n b e = ap (λ c. map (group_of names) (cond c (n ∷ []) [])) e

-- the next voter is the first of its group
pub groups_below-with : (names : List (List ℕ)) (n : ℕ) (old new : List (List ℕ)) (group : List ℕ) → old ≡ groups_below names n → leads names n ≡ true → group ≡ group_of names n
    → new ≡ old ++ group ∷ []
    → new ≡ groups_below names (n + 1)
groups_below-with names n old new group so_far first is added =
    added ∙ (λ i. so_far i ++ is i ∷ []) ∙ sym (groups_below-more names n ∙ ap (λ t. groups_below names n ++ t) (one_leads names n true first))

-- the next voter's group is there
pub groups_below-without : (names : List (List ℕ)) (n : ℕ) (old : List (List ℕ)) → old ≡ groups_below names n → leads names n ≡ false → old ≡ groups_below names (n + 1)
groups_below-without names n old so_far later =
    so_far ∙ sym (groups_below-more names n ∙ ap (λ t. groups_below names n ++ t) (one_leads names n false later) ∙ append-nil (groups_below names n))
