use Rattle.std.proofs.Common.{◌≡◌, ◌++◌, drop, flat_map, map}
use Rattle.program_texts.specs.composition.SeenParts.{seen_occurrence}
use Rattle.program_texts.specs.composition.SeenScenes.{seen_scene}
use Rattle.dsl_tree.specs.declared.parts.Ident.{Ident}
use Rattle.dsl_tree.specs.Views.{field_tree}
use Rattle.expr_nodes.specs.SeenNames.{seen_scope}
use Rattle.program_texts.specs.SeenTexts.{types_in}
use Rattle.text_constraints.specs.OwnTexts.{it_given, name_kept}
use Rattle.text_constraints.proofs.members.push_names.Given as goal

abbrev pub invariant-loop-name : goal.invariant-loop-name
invariant-loop-name l = (seen_scope l.scope).it ≡ it_given (types_in l.texts) (field_tree l.decl) →
    map seen_occurrence l.into.items ++ flat_map (λ (i : Ident). name_kept (types_in l.texts) (seen_scene l.standing.scene.now).bindings l.standing.object.now (seen_scope l.scope) l.under i (field_tree l.decl)) (drop l.name-index l.name-items)
    ≡ map seen_occurrence l.fn.into.items ++ flat_map (λ (i : Ident). name_kept (types_in l.texts) (seen_scene l.standing.scene.now).bindings l.standing.object.now (seen_scope l.scope) l.under i (field_tree l.decl)) l.decl.names
