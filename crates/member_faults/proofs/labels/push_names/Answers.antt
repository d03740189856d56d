use Rattle.std.proofs.Common.{◌∙◌, ◌+◌, ◌++◌, [], ◌∷◌, ap, drop}
use Rattle.member_faults.specs.NamePlaces.{lent_names}
use Rattle.member_faults.proofs.PartSteps.{lent_more, rest_left}
use Rattle.fault_sets.proofs.RowSteps.{left_is}
use Rattle.member_faults.proofs.labels.push_names.Goals as goal

pub loop-name-preserved : goal.loop-name-preserved
loop-name-preserved c =
    let i = c.loop-name.name-index in
    let names = c.args.names.now in
    rest_left (lent_names c.args.into.now.items ++ names) (lent_names c.loop-name.into.items) (lent_names c.push.new.self.items) (c.name-item.result ∷ []) (drop (i + 1) names)
    (ap lent_names c.in_ok-push.ensures.items ∙ lent_more c.loop-name.into.items _)
    (c.loop-name.invariant ∙ ap (λ ns. lent_names c.loop-name.into.items ++ ns) (left_is names i c.name-item.result c.loop-name-test.true c.name-item.is))
