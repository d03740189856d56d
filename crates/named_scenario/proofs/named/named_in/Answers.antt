use Rattle.std.proofs.Common.{◌∙◌}
use Rattle.std.specs.Prelude.{option_copied}
use Rattle.dsl_tree.specs.Views.{compound_tree}
use Rattle.named_scenario.proofs.FirstFaults.{declared_by, found_is, never_absent}
use Rattle.named_scenario.proofs.named.named_in.Goals as goal

pub returns-in_default-clause-stop : goal.returns-in_default-clause-stop
returns-in_default-clause-stop c = (
  c.requires.sound,
  found_is c.args.program.now (option_copied c.args.owner) c.args.name.now c.args.types c.scenario_type.result c.requires.types c.scenario_type.ensures ∙ c.in_default.is,
)

pub unreachable-requires : goal.unreachable-requires
unreachable-requires c =
    never_absent c.args.program.now (option_copied c.args.owner) c.args.name.now c.args.types c.scenario_type.result c.in-Some.id
    c.requires.types c.scenario_type.ensures c.in-Some.is c.in-None.ensures

pub returns-clause-named : goal.returns-clause-named
returns-clause-named c = record {
  same_types = c.requires.types;
  sound = c.requires.sound;
  named = found_is c.args.program.now (option_copied c.args.owner) c.args.name.now c.args.types c.scenario_type.result c.requires.types c.scenario_type.ensures ∙ c.in-Some.is;
  declared = declared_by c.args.program.now (option_copied c.args.owner) c.args.name.now c.args.types c.scenario_type.result c.in-Some.id
      (compound_tree c.in-Some-declared_scenario.declaration.now) c.requires.types c.scenario_type.ensures c.in-Some.is c.in-Some-declared_scenario.ensures;
}
