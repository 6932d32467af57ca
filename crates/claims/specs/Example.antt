-- The claims of two sessions of a number, one after the other, in the world of `sessions` in which a voter crashes between them.
use Rattle.std.specs.Prelude.{ℕ, List, [], ◌∷◌, Some, false}
use Rattle.sessions.specs.Tables.{Answer}
use Rattle.claims.specs.Claims.{ClaimsNext, Hears, Sees, Step}

-- what a voter told a session of its row
abbrev pub answer : ℕ → ℕ → ℕ → ℕ → ℕ → Answer
answer voter session epoch base reserved =
    record { voter = voter; row = record { epoch = epoch; session = Some session; base = base; reserved = reserved; again = false } }

-- session 7 claims the first epoch, which voters 0 and 1 accept
abbrev pub seven : List Step
seven = Sees 0 ∷ ClaimsNext ∷ Hears (answer 0 7 1 0 1) ∷ Hears (answer 1 7 1 0 1) ∷ []

-- session 8 claims the second epoch, which voters 1 and 2 accept: voter 1 reserved a stamp before
abbrev pub eight : List Step
eight = Sees 1 ∷ ClaimsNext ∷ Hears (answer 2 8 2 0 2) ∷ Hears (answer 1 8 2 1 2) ∷ []
