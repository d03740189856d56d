use Rattle.std.proofs.Common.{◌≡◌, ◌++◌, drop, map, option_map}
use Rattle.program_uses.specs.InvokedTypes.{invoked_do}
use Rattle.program_fields.specs.SeenFields.{seen_do}
use Rattle.program_uses.proofs.invocations.all_invoked.Given as goal

abbrev pub invariant-loop-found : goal.invariant-loop-found
invariant-loop-found l = l.rows.items ++ map (λ d. invoked_do l.types.table (option_map seen_do d)) (drop l.found-index l.dos) ≡ map (λ d. invoked_do l.types.table (option_map seen_do d)) l.dos
