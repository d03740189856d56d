use Rattle.type_model.specs.type_heads.Gathered.{all_of}
use Rattle.type_build.specs.Sound.{IsFirstFault, IsHeadingFault}
use Rattle.type_build.proofs.Stops.{exit, heading_first}
use Rattle.type_build.proofs.build.with_heads.Goals as goal

pub returns-in_err-refuse_headings-clause-fault : goal.returns-in_err-refuse_headings-clause-fault
returns-in_err-refuse_headings-clause-fault c =
    exit (IsHeadingFault (all_of c.args.declarations.now)) (IsFirstFault (all_of c.args.declarations.now)) c.from_residual-in_err-refuse_headings.result c.in_err-refuse_headings.field-0.0
    (heading_first (all_of c.args.declarations.now)) c.in_err-refuse_headings.ensures.fault c.from_residual-in_err-refuse_headings.ensures.1
