-- The labels of the text of a type.
use Rattle.std.specs.Prelude.{◌≡◌, ℕ}
use Rattle.expr_nodes.specs.type_heads.Types.{Types}
use Rattle.program_texts.specs.program_calls.SeenLabels.{do_labels}
use Rattle.program_texts.specs.OwnLabels.{seen_type_labels}
use Rattle.text_constraints.specs.declared.members.TextLabels.{TextLabels}

-- the labels are those of the text of that type
unfoldable pub IsLabelled : Types → ℕ → TextLabels → Type 0
IsLabelled ts holder l = (l.holder ≡ holder) × (seen_type_labels l.labels ≡ do_labels ts holder)
