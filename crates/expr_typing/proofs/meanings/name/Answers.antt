use Rattle.std.proofs.Common.{◌∙◌, ap, Some, None}
use Rattle.expr_nodes.specs.Names.{meaning, typed_meaning, name_rows}
use Rattle.expr_nodes.specs.SeenNames.{seen_scope}
use Rattle.expr_typing.specs.Meanings.{seen_meaning}
use Rattle.expr_typing.proofs.NameMeanings.{name_faults}
use Rattle.typed_parts.proofs.Settled.{refused, settled}
use Rattle.expr_typing.proofs.meanings.name.Goals as goal

pub returns-in-None-clause-fault : goal.returns-in-None-clause-fault
returns-in-None-clause-fault c = name_faults c.args.types.now.table (seen_scope c.args.scope.now) c.args.name.now (seen_meaning c.in_ok-meaning.meaning) c.is_hidden-hidden.result None
    c.in_ok-meaning.ensures (rw c.as_str.ensures at c.is_hidden-hidden.ensures) c.in-None.ensures

pub returns-in-None-clause-typed : goal.returns-in-None-clause-typed
returns-in-None-clause-typed c = settled (name_rows c.args.types.now.table (seen_scope c.args.scope.now) c.args.name.now) (typed_meaning (meaning c.args.types.now.table (seen_scope c.args.scope.now) c.args.name.now)) _
    (name_faults c.args.types.now.table (seen_scope c.args.scope.now) c.args.name.now (seen_meaning c.in_ok-meaning.meaning) c.is_hidden-hidden.result None
    c.in_ok-meaning.ensures (rw c.as_str.ensures at c.is_hidden-hidden.ensures) c.in-None.ensures) (c.typed_of.ensures ∙ ap typed_meaning c.in_ok-meaning.ensures)

pub returns-in-Some-clause-fault : goal.returns-in-Some-clause-fault
returns-in-Some-clause-fault c = name_faults c.args.types.now.table (seen_scope c.args.scope.now) c.args.name.now (seen_meaning c.in_ok-meaning.meaning) c.is_hidden-hidden.result (Some c.in-Some.fault)
    c.in_ok-meaning.ensures (rw c.as_str.ensures at c.is_hidden-hidden.ensures) c.in-Some.ensures

pub returns-in-Some-clause-typed : goal.returns-in-Some-clause-typed
returns-in-Some-clause-typed c = refused (name_rows c.args.types.now.table (seen_scope c.args.scope.now) c.args.name.now) _ c.in-Some.fault
    (name_faults c.args.types.now.table (seen_scope c.args.scope.now) c.args.name.now (seen_meaning c.in_ok-meaning.meaning) c.is_hidden-hidden.result (Some c.in-Some.fault)
    c.in_ok-meaning.ensures (rw c.as_str.ensures at c.is_hidden-hidden.ensures) c.in-Some.ensures)
