use Rattle.std.proofs.Common.{◌∙◌, ap, subst, IfOk}
use Rattle.member_faults.specs.NamePlaces.{lent_names}
use Rattle.fault_sets.specs.NameRows.{ContinuesNames}
use Rattle.member_faults.proofs.names.with_members.Goals as goal

pub returns : goal.returns
returns c = subst (λ is. IfOk c.with_names.result (λ f. ContinuesNames c.args.first c.args.met.now f c.with_names.new.met is)) (ap lent_names c.as_slice.ensures.value ∙ c.in_ok-names.ensures) c.with_names.ensures
