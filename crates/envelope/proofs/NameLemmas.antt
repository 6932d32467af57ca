-- No byte of a name is a space, a newline or `=`.
use Rattle.std.proofs.Common.{◌≡◌, ℕ, Bool, true, false, List, [], ◌∷◌, refl}
use Rattle.std.specs.Prelude.{◌&&◌}
use Rattle.std.specs.List.{list_all}
use Rattle.std.proofs.lemmas.Bool.{ne_eqb}
use Rattle.texts.specs.Fields.{HasNoSpace}
use Rattle.texts.proofs.CutLemmas.{Lacks}
use Rattle.envelope.specs.Names.{IsName, is_name_byte}

both : (p q : Bool) → (p && q) ≡ true → (p ≡ true) × (q ≡ true)
both true q h = (refl, h)
both false q h = absurd cc

name_bytes-HasNoSpace : (bs : List ℕ) → list_all is_name_byte bs ≡ true → HasNoSpace bs
name_bytes-HasNoSpace [] h = tt
name_bytes-HasNoSpace (b ∷ bs) h =
    let parts = both (is_name_byte b) (list_all is_name_byte bs) h in
    (λ e. let no = rw e at parts.0 in cc, name_bytes-HasNoSpace bs parts.1)

name_bytes-Lacks : (bs : List ℕ) → list_all is_name_byte bs ≡ true → Lacks 10 bs
name_bytes-Lacks [] h = tt
name_bytes-Lacks (b ∷ bs) h =
    let parts = both (is_name_byte b) (list_all is_name_byte bs) h in
    (ne_eqb b 10 (λ e. let no = rw e at parts.0 in cc), name_bytes-Lacks bs parts.1)

pub name_has_no_space : (name : List ℕ) → IsName name → HasNoSpace name
name_has_no_space name h = name_bytes-HasNoSpace name h.bytes

pub name_lacks_newline : (name : List ℕ) → IsName name → Lacks 10 name
name_lacks_newline name h = name_bytes-Lacks name h.bytes
