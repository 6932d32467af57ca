-- Lemmas on the bytes of names.
use Rattle.std.proofs.Common.{◌≡◌, ◌∙◌, ℕ, true, false, List, sym, subst, refl, All}
use Rattle.std.specs.List.{AllPass}
use Rattle.std.proofs.lemmas.Bool.{ne_eqb}
use Rattle.std.proofs.lemmas.List.Elements.{All-weaker}
use Rattle.coterie_file.specs.Names.{IsName, is_name_byte}
use Rattle.show_report.specs.Names.{is_plain}

-- a byte of a name is another than a byte that no name has
other : (b sign : ℕ) → is_name_byte b ≡ true → is_name_byte sign ≡ false → sign ≡ b → ⊥
other b sign named outside same = let bad : false ≡ true = sym outside ∙ subst (λ (x : ℕ). is_name_byte x ≡ true) (sym same) named in cc

-- a byte of a name is none of the signs of HTML
plain_byte : (b : ℕ) → is_name_byte b ≡ true → is_plain b ≡ true
plain_byte b named =
    rw (ne_eqb 60 b (other b 60 named refl), ne_eqb 62 b (other b 62 named refl), ne_eqb 38 b (other b 38 named refl), ne_eqb 34 b (other b 34 named refl), ne_eqb 39 b (other b 39 named refl)) refl

-- and so with all bytes of all names
pub plain_names : (names : List (List ℕ)) → All IsName names → All (AllPass is_plain) names
plain_names names are =
    All-weaker IsName (AllPass is_plain) (λ name is. All-weaker (λ b. is_name_byte b ≡ true) (λ b. is_plain b ≡ true) plain_byte name is.bytes) names are
