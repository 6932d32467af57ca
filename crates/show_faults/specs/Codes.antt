-- The codes of faults.
use Rattle.std.specs.Prelude.{ℕ, ◌≡◌, ◌≢◌, ◌==◌, List, [], ◌∷◌, codes, map, All}
use Rattle.std.specs.List.{before_first}
use Rattle.show_faults.specs.declared.explanation.Explanation.{Explanation}
use Rattle.show_faults.specs.declared.section.Section.{Section}

-- the code in a line: what is in front of its first space, which is 32
abbrev pub code_in : List ℕ → List ℕ
code_in line = before_first (λ b. b == 32) line

-- the codes of these explanations
abbrev pub codes_of : List Explanation → List (List ℕ)
codes_of rows = map (λ row. row.code.now) rows

-- the codes of the faults of the input, the output and memory
abbrev pub input_codes : List (List ℕ)
input_codes =
    codes "I1" ∷ codes "I2" ∷ codes "I3" ∷ codes "I4" ∷ codes "I5" ∷ codes "I6" ∷
    codes "O1" ∷
    []

-- the codes of the faults of coteries
abbrev pub coterie_codes : List (List ℕ)
coterie_codes =
    codes "F1" ∷ codes "F2" ∷ codes "F3" ∷ codes "F4" ∷ codes "F5" ∷ codes "F6" ∷ codes "F7" ∷ codes "F8" ∷
    codes "E1" ∷ codes "E2" ∷ codes "E3" ∷ codes "E4" ∷ codes "E5" ∷ codes "E6" ∷ codes "E7" ∷ codes "E8" ∷
    codes "G1" ∷ codes "G2" ∷ codes "J1" ∷
    []

-- the codes of the faults of plans, and of the causes that `N1` has
abbrev pub plan_codes : List (List ℕ)
plan_codes =
    codes "P1" ∷ codes "P2" ∷ codes "P3" ∷ codes "P4" ∷ codes "P5" ∷ codes "P6" ∷ codes "P7" ∷ codes "P8" ∷ codes "P9" ∷
    codes "P10" ∷ codes "N1" ∷ codes "S1" ∷ codes "S2" ∷ codes "S3" ∷
    []

-- the codes of the faults of scripts and records
abbrev pub record_codes : List (List ℕ)
record_codes =
    codes "A1" ∷ codes "A2" ∷ codes "A3" ∷ codes "A4" ∷ codes "A5" ∷ codes "A6" ∷ codes "A7" ∷
    []

-- the codes of the faults of clients, voters and runs
abbrev pub protocol_codes : List (List ℕ)
protocol_codes =
    codes "U1" ∷ codes "U2" ∷ codes "U3" ∷ codes "U4" ∷
    codes "C1" ∷ codes "C2" ∷ codes "C3" ∷ codes "C4" ∷
    codes "V1" ∷
    codes "K2" ∷
    codes "B2" ∷ codes "B3" ∷
    []

-- the codes of all faults, in sections
abbrev pub fault_codes : List (List (List ℕ))
fault_codes = input_codes ∷ coterie_codes ∷ plan_codes ∷ record_codes ∷ protocol_codes ∷ []

-- these sections have an explanation for each code of a fault, in the order of the codes
abbrev pub HaveAllCodes : List Section → Type 0
HaveAllCodes sections = map (λ s. codes_of s.explanations.now) sections ≡ fault_codes

-- the code is none of these
abbrev pub IsNoneOf : List ℕ → List (List ℕ) → Type 0
IsNoneOf code table = All (λ c. c ≢ code) table

-- some fault has this code
abbrev pub IsFaultCode : List ℕ → Type 0
IsFaultCode code = ¬ All (IsNoneOf code) fault_codes
