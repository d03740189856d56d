use Rattle.std.proofs.Common.{◌∙◌, ◌+◌, ◌++◌, [], ◌∷◌, ap, cond, drop, map}
use Rattle.std.specs.Prelude.{filter}
use Rattle.type_members.specs.type_heads.Bodied.{seen_body}
use Rattle.type_members.specs.type_heads.Members.{is_conditional}
use Rattle.member_faults.proofs.ConditionSteps.{filter_next}
use Rattle.fault_sets.proofs.RowSteps.{left_is, more_put}
use Rattle.member_faults.proofs.depends.push_all_conditional.Goals as goal

pub loop-of-preserved : goal.loop-of-preserved
loop-of-preserved c =
    let test = is_conditional (map seen_body c.args.bodies.now) in
    let x = c.of-item.result in
    let later = drop (c.loop-of.of-index + 1) c.args.types.now in
    more_put (c.args.into.now.items ++ filter test c.args.types.now) c.loop-of.into.items c.push_conditional.new.into.items (cond (test x) (x ∷ []) []) (filter test later)
    c.in_ok-push_conditional.ensures
    (c.loop-of.invariant ∙ ap (λ ts. c.loop-of.into.items ++ filter test ts) (left_is c.args.types.now c.loop-of.of-index x c.loop-of-test.true c.of-item.is)
    ∙ ap (λ ts. c.loop-of.into.items ++ ts) (filter_next test x later))
