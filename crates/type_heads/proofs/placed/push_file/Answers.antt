use Rattle.std.proofs.Common.{◌≡◌, ◌+◌, ◌++◌, ap, map, subst, sym, rules, OnOk}
use Rattle.std.proofs.lemmas.Result.{on_ok_weaker}
use Rattle.name_scope.specs.dsl_tree.Views.{declaration_tree}
use Rattle.type_heads.specs.DeclaredTypes.{placed_in}
use Rattle.type_heads.specs.Placing.{seen_placed, placed_after}
use Rattle.type_heads.proofs.PlacedFiles.{in_file, beyond, more_file}
use Rattle.type_heads.proofs.placed.push_file.Goals as goal

pub returns-in-Some : goal.returns-in-Some
returns-in-Some c = on_ok_weaker c.push_decls.result
    (λ is. more_file (map seen_placed c.push_decls.new.all.items) (map seen_placed c.args.all.now.items) (placed_in c.args.number 0 (map declaration_tree c.in-Some.file.now.decls))
    (placed_after (c.args.number + 1) c.args.program.now) (placed_after c.args.number c.args.program.now) is
    (in_file c.args.program.now c.args.number c.in-Some.file.now (search rules)))
    (subst (λ ds. OnOk c.push_decls.result (map seen_placed c.push_decls.new.all.items ≡ map seen_placed c.args.all.now.items ++ placed_in c.args.number 0 (map declaration_tree ds)))
    c.as_slice.ensures c.push_decls.ensures)

pub returns-in-None : goal.returns-in-None
returns-in-None c = ap (λ xs. map seen_placed c.args.all.now.items ++ xs) (sym (beyond c.args.program.now c.args.number (search rules)))
