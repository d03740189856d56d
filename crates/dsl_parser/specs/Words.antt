-- The words of the definitions here, and those that `dsl_cursor` doesn't pass on.
pub use Rattle.osc_base.specs.{Stops.OnStop, declared.fault.Fault.Fault}
pub use Rattle.dsl_tree.specs.FileTree.{FileTree}
pub use Rattle.dsl_tree.specs.Language.{FirstFault, fault_code, Spelled}
pub use Rattle.dsl_tree.specs.PhaseTree.{PhaseTree, row_of}
pub use Rattle.dsl_tree.specs.Views.{phase_tree, member_tree, modifier_decl_tree, modifier_part_tree, part_tree, file_tree, rule_tree, compound_tree, path_tree, declaration_tree, field_tree, head_tree}
pub use Rattle.dsl_tree.specs.Written.{path, path_row, word}
pub use Rattle.dsl_tree.specs.WrittenFile.{body, compound_heading, field_end, file, initial, optional_heir, qualified_name}
pub use Rattle.dsl_tree.specs.declared.{compounds.CompoundDecl.CompoundDecl, compounds.Heir.Heir, compounds.Member.Member, file.File.File, modifiers.ModifierPart.ModifierPart, parts.QName.QName, phases.InvokeHead.InvokeHead, phases.InvokePart.InvokePart, phases.Phase.Phase, rules.PathHead.PathHead, rules.RuleDecl.RuleDecl}
pub use Rattle.dsl_parser.specs.Answers.{HasDeadToken, HasViableFront}
pub use Rattle.dsl_parser.specs.Members.{head_codes, head_token, written_extension, written_field_rest, written_named}
pub use Rattle.dsl_parser.specs.Phases.{IsHeaded, IsStarted, behind_label, behind_name, composition_codes, composition_token, core_of, headed, invoke_codes, invoke_token, label_rest, name_rest, phases_rest}
pub use Rattle.dsl_parser.specs.declared.{phases.PhaseStart.TheVariants.Composition, phases.CompositionHead.CompositionHead, invocations.InvocationRest.InvocationRest}
