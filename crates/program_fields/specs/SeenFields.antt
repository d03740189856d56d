-- What the program's own fields and `do`s are seen as.
use Rattle.std.specs.Prelude.{ℕ, Bool, bytes_eq, List, Option, true, filter_map, find, map}
use Rattle.dsl_tree.specs.declared.parts.Ident.{Ident}
use Rattle.dsl_tree.specs.FileTree.{FieldTree}
use Rattle.dsl_tree.specs.Views.{field_tree, phase_tree}
use Rattle.type_heads.specs.Members.{do_declared}
use Rattle.type_heads.specs.Types.{Do, Field, Member}
use Rattle.program_fields.specs.declared.fields.TypeDo.{TypeDo}
use Rattle.program_fields.specs.declared.fields.TypeField.{TypeField}

-- a field
abbrev pub seen_field : TypeField → Field
seen_field f = record { name = f.name.now; tree = field_tree f.decl.now; holder = f.holder; under = f.under.now }

-- a `do`
abbrev pub seen_do : TypeDo → Do
seen_do d = record { holder = d.holder; place = d.place; phase = phase_tree d.phase.now; under = d.under.now }

-- a field for each of the names
abbrev pub fields_named : FieldTree → ℕ → List ℕ → List Ident → List Field
fields_named f holder under names = map (λ i. record { name = i; tree = f; holder = holder; under = under }) names

-- a field of that name
abbrev pub has_name : List ℕ → Field → Bool
has_name name f = bytes_eq f.name.text name

-- the first `do` among members
abbrev pub first_do_in : List Member → Option Do
first_do_in members = find (λ d. true) (filter_map (λ m. do_declared m m.written.member) members)
