-- Names inside HTML.
use Rattle.std.specs.Prelude.{◌==◌, ℕ, Bool, not, codes}
use Rattle.std.specs.List.{list_any}

-- the byte is none of the signs that mean something in HTML: `<`, `>`, `&`, `"` and `'`
abbrev pub is_plain : ℕ → Bool
is_plain b = not (list_any (λ sign. sign == b) (codes "<>&\"'"))
