use Rattle.std.proofs.Common.{◌≡◌, length, map, string_bytes}
use Rattle.show_cli.specs.Failures.{file_names}
use Rattle.show_cli.proofs.compared.named_as.Given as goal

-- the coteries so far, and the names of their files
abbrev pub invariant-loop-named : goal.invariant-loop-named
invariant-loop-named l = record {
  coteries : map (λ c. c.named) l.candidates.items ≡ l.yielded;
  names : map (λ c. string_bytes c.name) l.candidates.items ≡ file_names (length l.candidates.items) (map string_bytes l.files);
}
