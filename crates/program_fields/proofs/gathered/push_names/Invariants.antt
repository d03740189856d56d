use Rattle.std.proofs.Common.{◌≡◌, ◌++◌, drop, map}
use Rattle.dsl_tree.specs.Views.{field_tree}
use Rattle.program_fields.specs.SeenFields.{fields_named, seen_field}
use Rattle.program_fields.proofs.gathered.push_names.Given as goal

abbrev pub invariant-loop-name : goal.invariant-loop-name
invariant-loop-name l =
    map seen_field l.into.items ++ fields_named (field_tree l.decl) l.holder l.under (drop l.name-index l.decl.names)
    ≡ map seen_field l.fn.into.items ++ fields_named (field_tree l.decl) l.holder l.under l.decl.names
