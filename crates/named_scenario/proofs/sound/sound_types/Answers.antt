use Rattle.std.proofs.Common.{◌∙◌}
use Rattle.named_scenario.proofs.FirstFaults.{no_fault, told_fault, unbuilt, use_fault}
use Rattle.named_scenario.proofs.sound.sound_types.Goals as goal

pub returns-in_err-types-clause-fault : goal.returns-in_err-types-clause-fault
returns-in_err-types-clause-fault c = unbuilt c.args.program.now c.from_residual.result c.in_err-types.field-0.0 c.in_err-types.ensures.fault c.from_residual.ensures.1

pub returns-in_err-fault-clause-fault : goal.returns-in_err-fault-clause-fault
returns-in_err-fault-clause-fault c = no_fault c.args.program.now c.from_residual-in_err-fault.result c.from_residual-in_err-fault.ensures.1

pub returns-in-Some-clause-fault : goal.returns-in-Some-clause-fault
returns-in-Some-clause-fault c =
    told_fault c.args.program.now c.in-Some.fault
    (use_fault c.args.program.now _ c.in_ok-types.ensures.sound.0 c.in_ok-types.ensures.sound.1 c.in_ok-fault.ensures ∙ c.in-Some.is)

pub returns-in-None-clause-sound : goal.returns-in-None-clause-sound
returns-in-None-clause-sound c =
    use_fault c.args.program.now _ c.in_ok-types.ensures.sound.0 c.in_ok-types.ensures.sound.1 c.in_ok-fault.ensures ∙ c.in-None.is
