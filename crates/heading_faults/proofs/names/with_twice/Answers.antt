use Rattle.type_members.specs.dsl_tree.Views.{declaration_tree}
use Rattle.heading_faults.specs.SeenNames.{seen_name}
use Rattle.heading_faults.proofs.NameSteps.{named, unnamed}
use Rattle.heading_faults.proofs.names.with_twice.Goals as goal

pub returns-in_ok-is_met-in-Some : goal.returns-in_ok-is_met-in-Some
returns-in_ok-is_met-in-Some c = named c.args.first c.with_fault.result c.args.met.now.keys.keys c.meet.new.self.keys.keys (declaration_tree c.args.declaration.now)
    (seen_name c.in-Some.name) c.in_ok-is_met-in-Some.is_met c.in-Some.ensures c.in_ok-is_met-in-Some.ensures.before c.in_ok-is_met-in-Some.ensures.more c.with_fault.ensures

pub returns-in-None : goal.returns-in-None
returns-in-None c = unnamed c.args.first c.args.met.now.keys.keys (declaration_tree c.args.declaration.now) c.in-None.ensures
