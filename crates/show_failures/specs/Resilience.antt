-- What a page says of the voters that may fail.
use Rattle.std.specs.Prelude.{◌≡◌, ◌-◌, ◌||◌, ◌&&◌, ◌==◌, ℕ, Bool, true, if◌then◌else◌, nat_lt, nat_le, List, [], ◌++◌, Option, None, Some, length, codes, decimal}
use Rattle.std.specs.List.{flat_map}
use Rattle.failures.specs.Failures.{IsSmallest, IsTransversal}
use Rattle.quorum_set.specs.Coteries.{QuorumSystem}
use Rattle.certificate.specs.Bounds.{bound_of}
use Rattle.certificate.specs.Certificates.{Weighted, load_of}
use Rattle.coterie_file.specs.Named.{NamedSystem}
use Rattle.show_failures.specs.Groups.{groups_of}
use Rattle.show_failures.specs.Names.{names_text}
use Rattle.show_failures.specs.Used.{used_system}
use Rattle.show_failures.specs.Without.{is_borne}
use Rattle.show_failures.specs.declared.resilience.Resilience.{Resilience}
use Rattle.show_failures.specs.declared.resilience.Quorums.{Quorums}
use Rattle.show_failures.specs.declared.resilience.Quorums.TheVariants.{OfCoterie, OfPlan}

-- which voters may fail
abbrev pub borne_words : Quorums → List ℕ
borne_words OfCoterie = codes "voters that may fail, whichever they are"
borne_words OfPlan = codes "voters that may fail before all of these are lost, whichever they are"

-- what the failure of a blocking set leaves
abbrev pub blocking_words : Quorums → List ℕ
blocking_words OfCoterie = codes "whose failure leaves no quorum"
blocking_words OfPlan = codes "whose failure leaves none of these"

-- what is said of each group
abbrev pub group_words : Quorums → List ℕ
group_words OfCoterie = codes "groups by name, and whether all of a group may fail"
group_words OfPlan = codes "groups by name, and whether some of these are left when all of a group fails"

-- a number that is an upper bound alone is called so
abbrev pub most_words : Bool → List ℕ
most_words is_smallest = if is_smallest then [] else codes "at most "

-- how a blocking set is called
abbrev pub set_words : Bool → List ℕ
set_words is_smallest = if is_smallest then codes "a smallest set" else codes "a set"

-- what is said of the search
abbrev pub search_words : Bool → List ℕ
search_words is_smallest = if is_smallest then [] else codes " (the search for a smallest one did not end)"

-- how many voters may fail, and a blocking set
abbrev pub resilience_text : Quorums → List (List ℕ) → Resilience → List ℕ
resilience_text quorums names found =
    borne_words quorums ++ (codes ": " ++ (most_words found.is_smallest ++ (decimal found.borne
    ++ (codes "\n" ++ (set_words found.is_smallest ++ (codes " " ++ (blocking_words quorums
    ++ (search_words found.is_smallest ++ (codes ": " ++ (names_text names found.blocking ++ codes "\n"))))))))))

-- whether some quorum is left
abbrev pub answer_words : Bool → List ℕ
answer_words is_left = if is_left then codes "yes" else codes "no "

-- the line of a group
abbrev pub group_text : List (List ℕ) → List (List ℕ) → List ℕ → List ℕ
group_text names quorums group =
    codes "  " ++ (answer_words (is_borne quorums group) ++ (codes "  " ++ (names_text names group ++ codes "\n")))

-- whether there is but one group, or each voter is its own
abbrev pub are_plain : List (List ℕ) → ℕ → Bool
are_plain groups voters = nat_lt (length groups) 2 || nat_le voters (length groups)

-- the lines of these groups, unless they say nothing
abbrev pub groups_text : Quorums → List (List ℕ) → QuorumSystem → List (List ℕ) → List ℕ
groups_text quorums names system groups =
    if are_plain groups system.voters then []
    else group_words quorums ++ (codes ":\n" ++ flat_map (group_text names system.quorums) groups)

-- The number of voters that may fail, and a blocking set of this system. If the number is not called an
-- upper bound, the set is a smallest one.
pub record IsFound (system : QuorumSystem) (found : Resilience) : Type 0 where
  pub meets : IsTransversal system found.blocking
  pub smallest : found.is_smallest ≡ true → IsSmallest system.quorums found.blocking
  pub borne : found.borne ≡ length found.blocking - 1

-- the text says how many voters of this system may fail, and which groups
abbrev pub SaysBorne : Quorums → List (List ℕ) → QuorumSystem → List ℕ → Type 0
SaysBorne quorums names system text =
    (found : Resilience) × IsFound system found
    × (text ≡ resilience_text quorums names found ++ groups_text quorums names system (groups_of names))

-- whose the quorums are that a cycle uses: a plan's if the load is the bound, else the weights'
abbrev pub owner_words : Weighted → List ℕ
owner_words w =
    if (load_of w).0 == (bound_of w).0 && (load_of w).1 == (bound_of w).1 then codes "the plan's" else codes "the weights'"

-- how many of all quorums a cycle uses
abbrev pub used_text : Weighted → List ℕ
used_text w =
    codes "\n" ++ (owner_words w ++ (codes " own quorums: " ++ (decimal (length (used_system w).quorums) ++ (codes " of "
    ++ (decimal (length w.system.quorums) ++ codes ", those of positive weight\n")))))

-- the text says the same of the quorums that a cycle uses
abbrev pub SaysPlan : List (List ℕ) → Weighted → List ℕ → Type 0
SaysPlan names plan text =
    (rest : List ℕ) × SaysBorne OfPlan names (used_system plan) rest × (text ≡ used_text plan ++ rest)

-- the page says it of all quorums, and with a plan of those that it uses
abbrev pub IsResiliencePage : NamedSystem → Option Weighted → List ℕ → Type 0
IsResiliencePage named None page = SaysBorne OfCoterie named.names named.system page
IsResiliencePage named (Some plan) page =
    (first second : List ℕ) × SaysBorne OfCoterie named.names named.system first
    × SaysPlan named.names plan second × (page ≡ first ++ second)
