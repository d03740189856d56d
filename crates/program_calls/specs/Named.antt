-- Arguments by their names.
use Rattle.std.specs.Prelude.{ℕ, Bool, false, List, bytes_eq}
use Rattle.std.specs.Option.{option_map_or}
use Rattle.dsl_tree.specs.declared.parts.Ident.{Ident}
use Rattle.dsl_tree.specs.PhaseTree.{ArgumentTree}

-- the argument has the name
abbrev pub has_name : List ℕ → ArgumentTree → Bool
has_name name a = option_map_or (λ (i : Ident). bytes_eq i.text name) a.name false
