-- What is left when voters fail, as a text.
use Rattle.std.specs.Prelude.{ℕ, Bool, if◌then◌else◌, List, ◌++◌, codes}
use Rattle.std.specs.List.{list_any}
use Rattle.quorum_set.specs.Coteries.{are_disjoint}
use Rattle.failures.specs.Failures.{system_without}
use Rattle.coterie_file.specs.Named.{NamedSystem}
use Rattle.coterie_file.specs.Writing.{coterie_text}
use Rattle.show_failures.specs.Names.{names_text}

-- whether some quorum has no member among the failed voters: `Bears` as a test
abbrev pub is_borne : List (List ℕ) → List ℕ → Bool
is_borne quorums failed = list_any (are_disjoint failed) quorums

-- the line that says why no quorum is left; it is a comment of TOML
abbrev pub none_left_text : List (List ℕ) → List ℕ → List ℕ
none_left_text names failed =
    codes "# no quorum is left: every quorum has a member among " ++ (names_text names failed ++ codes "\n")

-- the text of the quorums without a failed member, over the same voters, or why no quorum is left
abbrev pub without_text : NamedSystem → List ℕ → List ℕ
without_text named failed =
    if is_borne named.system.quorums failed
    then coterie_text (record named { system = system_without failed named.system })
    else none_left_text named.names failed
