use Rattle.std.proofs.Common.{List, ◌∙◌, subst}
use Rattle.dsl_cursor.specs.Words.{Token}
use Rattle.dsl_parser.specs.Words.{FirstFault}
use Rattle.dsl_tree.proofs.{OneTrees.no_tree_at_fault, Tops.whole_file, Tops.only_tree}
use Rattle.dsl_parser.proofs.Wholes.{file_fault, file_parsed}
use Rattle.dsl_parser.proofs.parser.parse.Goals as goal

pub fault_at-requires : goal.fault_at-requires
fault_at-requires c = file_fault _ _ c.in-Err-At.left c.in-Err-At.field-0 c.new.ensures c.in-Err-At.field-0-is c.in-Err-At.ensures.err

pub returns-in-Ok-clause-tree : goal.returns-in-Ok-clause-tree
returns-in-Ok-clause-tree c = whole_file _ _ (file_parsed c.in-Ok.file _ _ (c.new.ensures ∙ c.as_slice-tokens.ensures) c.in-Ok.ensures.ok)

pub returns-in-Ok-clause-only : goal.returns-in-Ok-clause-only
returns-in-Ok-clause-only c = λ t spelled. only_tree _ _ (file_parsed c.in-Ok.file _ _ (c.new.ensures ∙ c.as_slice-tokens.ensures) c.in-Ok.ensures.ok) t spelled

pub returns-in-Err-At-clause-none : goal.returns-in-Err-At-clause-none
returns-in-Err-At-clause-none c = λ t spelled. no_tree_at_fault c.args.tokens.now c.fault_at.result t (subst (λ (v : List Token). FirstFault v c.fault_at.result) c.as_slice-tokens.ensures c.fault_at.ensures) spelled
