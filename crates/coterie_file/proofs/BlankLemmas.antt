-- Lemmas on blank texts, which are documents without a key.
use Rattle.std.proofs.Common.{◌≡◌, ℕ, List, refl, Ok, Result}
use Rattle.std.proofs.lemmas.Bool.{eq-eqb}
use Rattle.toml.specs.Data.{Members, no_members}
use Rattle.toml.specs.Errors.{IsBlank}
use Rattle.toml.specs.Parse.{parse_document, lines}
use Rattle.coterie_file.specs.Answers.{Refuses}
use Rattle.coterie_file.specs.Lists.{table_at}
use Rattle.coterie_file.specs.declared.fault.FileFault.{FileFault}
use Rattle.coterie_file.specs.declared.fault.FileFault.TheVariants.{OutOfMemory}

pub table_at-blank : (text : List ℕ) → IsBlank text → table_at text ≡ Ok no_members
unfolding parse_document lines
table_at-blank text blank = rw (eq-eqb _ 0 blank) refl

-- a fault other than out of memory, of a text that is read
pub never_refused : (fault : FileFault) (wanted : Result Members FileFault) (table : Members) → Refuses fault wanted → wanted ≡ Ok table → (fault ≡ OutOfMemory → ⊥) → ⊥
never_refused OutOfMemory wanted table h e k = k refl
never_refused fault wanted table h e k = cc

pub same_table : (wanted : Result Members FileFault) (table other : Members) → wanted ≡ Ok table → wanted ≡ Ok other → table ≡ other
same_table wanted table other h e = cc
