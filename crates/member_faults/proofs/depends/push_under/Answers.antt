use Rattle.std.proofs.Common.{◌∙◌, ◌++◌, [], ap, bytes_eq}
use Rattle.std.specs.Prelude.{find, option_and_then, slice_index_or}
use Rattle.type_members.specs.type_heads.Table.{base}
use Rattle.type_members.specs.type_heads.Types.{Field}
use Rattle.type_members.specs.type_heads.Members.{fields_among}
use Rattle.type_members.specs.Listed.{lists_of}
use Rattle.member_faults.proofs.ConditionSteps.{under_is}
use Rattle.member_faults.proofs.depends.push_under.Goals as goal

pub returns : goal.returns
returns c = c.in_ok-push_hit.ensures ∙ ap (λ us. c.args.into.now.items ++ us)
    (under_is c.condition_field-hit.result
    (option_and_then (λ b. find (λ (f : Field). bytes_eq f.name.text c.args.condition.now.field.text) (fields_among (slice_index_or (lists_of c.args.lists.now) b []))) (base c.args.heads.now c.args.of))
    c.condition_field-hit.ensures)
