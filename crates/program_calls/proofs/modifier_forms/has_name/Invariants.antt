use Rattle.std.proofs.Common.{◌≡◌, bytes_eq, drop, map}
use Rattle.std.specs.List.{list_any}
use Rattle.program_calls.specs.SeenModifiers.{seen_line}
use Rattle.program_calls.proofs.modifier_forms.has_name.Given as goal

abbrev pub invariant-loop-line : goal.invariant-loop-line
invariant-loop-line l = list_any (λ m. bytes_eq m.name l.name) (map seen_line (drop l.line-index l.lines)) ≡ list_any (λ m. bytes_eq m.name l.name) (map seen_line l.lines)
