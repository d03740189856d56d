use Rattle.std.proofs.Common.{◌≡◌, ◌∙◌, ◌≤◌, sym, ap₂, subst, length}
use Rattle.name_scope.specs.FileNumbers.{AddedFile, with_imports, names_before}
use Rattle.name_scope.specs.Sources.{IsProgram}
use Rattle.name_scope.proofs.Numbering.{grown}
use Rattle.name_scope.proofs.program.take.Goals as goal

pub returns-clause-program : goal.returns-clause-program
returns-clause-program c =
    let added : AddedFile = record { name = c.args.name; file = c.args.file } in
    let names : c.number_imports.new.names.items ≡ with_imports (names_before c.args.sources.now.items c.args.name) c.args.file.imports
    = c.in_ok-number_imports.ensures.named ∙ ap₂ with_imports (c.in_ok-number_main.ensures.ok ∙ ap₂ names_before c.as_slice.ensures.value c.as_str.ensures) c.as_slice-2.ensures in
    let few : length (with_imports (names_before c.args.sources.now.items c.args.name) c.args.file.imports) ≤ 64
    = subst (λ ns. length ns ≤ 64) names c.number_imports.ensures.few in
    subst (λ ns. IsProgram c.push_source.new.sources.items ns) (sym names)
    (subst (λ fs. IsProgram fs (with_imports (names_before c.args.sources.now.items c.args.name) c.args.file.imports)) (sym c.in_ok-push_source.ensures.ok)
    (grown c.args.sources.now.items c.args.names.now.items added c.requires.program c.requires.next few))
