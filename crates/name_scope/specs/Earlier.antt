-- The declarations before one, as the code holds them.
use Rattle.std.specs.Prelude.{List, ◌++◌, take}
use Rattle.dsl_tree.specs.declared.file.Declaration.{Declaration}
use Rattle.name_scope.specs.declared.known.Earlier.{Earlier}
use Rattle.name_scope.specs.Headings.{declarations}

abbrev pub earlier_of : Earlier → List Declaration
earlier_of e = declarations e.files.now ++ take e.index e.file.now.file.decls
