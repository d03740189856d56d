-- The labels that the texts of types have.
use Rattle.std.specs.Prelude.{ℕ, ◌+◌, nat_eq, cond, List, [], ◌∷◌, Option, Some, None}
use Rattle.program_calls.specs.type_heads.Table.{Table}
use Rattle.program_calls.specs.type_heads.Types.{Do, Member}
use Rattle.program_calls.specs.composition.Calls.{phases_in}
use Rattle.program_calls.specs.SeenLabels.{LabelHere, labels_here, seen_labels}
use Rattle.program_fields.specs.SeenFields.{first_do_in}
use Rattle.program_texts.specs.declared.labels.TypeLabels.{TypeLabels}

-- the labels of a `do` of type t that stands in its own text
abbrev pub own_labels : Table → ℕ → Option Do → Option (List LabelHere)
own_labels table t None = None
own_labels table t (Some d) = cond (nat_eq d.holder t) (Some (labels_here table d.holder (phases_in d.phase))) None

-- these labels of each type, given the members of each, from type n on
abbrev pub labels_from : Table → ℕ → List (List Member) → List (Option (List LabelHere))
labels_from table n [] = []
labels_from table n (members ∷ others) = own_labels table n (first_do_in members) ∷ labels_from table (n + 1) others

-- the labels of a type
abbrev pub seen_type_labels : TypeLabels → List LabelHere
seen_type_labels (TypeLabels.Own table) = seen_labels table.now
seen_type_labels (TypeLabels.Inherited table) = seen_labels table
