use Rattle.work_counts.specs.program_texts.SeenTexts.{types_in}
use Rattle.work_parts.proofs.WorkForms.{of_composition, of_invocation, of_object, of_value, of_wait}
use Rattle.work_parts.proofs.works.counts.Goals as goal

pub returns-in-Object : goal.returns-in-Object
returns-in-Object c = of_object (types_in c.args.texts.now) c.args.last c.args.work.now c.object_counts.result _ _ _ _ _ c.in-Object.is c.object_counts.ensures

pub returns-in-Value : goal.returns-in-Value
returns-in-Value c = of_value (types_in c.args.texts.now) c.args.last c.args.work.now c.value_counts.result _ _ _ c.in-Value.is c.value_counts.ensures

pub returns-in-Comp : goal.returns-in-Comp
returns-in-Comp c = of_composition (types_in c.args.texts.now) c.args.last c.args.work.now c.composition_counts.result _ _ c.in-Comp.is c.composition_counts.ensures

pub returns-in_ok-own-in-Invoke : goal.returns-in_ok-own-in-Invoke
returns-in_ok-own-in-Invoke c = of_invocation (types_in c.args.texts.now) c.args.last c.args.work.now c.in_ok-own-in-Invoke.own _ _ _ _ _ c.in-Invoke.is c.in_ok-own-in-Invoke.ensures

pub returns-in-Wait : goal.returns-in-Wait
returns-in-Wait c = of_wait (types_in c.args.texts.now) c.args.last c.args.work.now c.wait_counts.result _ _ c.in-Wait.is c.wait_counts.ensures
