use Rattle.std.proofs.Common.{◌≡◌, ◌∙◌, ◌++◌, [], ◌∷◌, ap, length}
use Rattle.type_members.specs.type_heads.Cycles.{fresh}
use Rattle.type_members.specs.type_heads.Table.{bases, line_within}
use Rattle.fault_sets.specs.Reaching.{AddsFresh, HasNumbers}
use Rattle.fault_sets.proofs.RowSteps.{if_ok}
use Rattle.fault_sets.proofs.Rounds.{first_met}
use Rattle.heading_faults.proofs.held.first_family.Goals as goal

pub returns-clause-types : goal.returns-clause-types
returns-clause-types c =
    let heads = c.args.heads.now in
    let whole : c.as_slice-2.result.now ≡ c.args.of ∷ bases heads c.args.of =
    c.as_slice-2.ensures.value ∙ c.in_ok-push_types.ensures ∙ ap (λ ws. ws ++ c.as_slice.result.now) c.in_ok-whole.ensures.items
    ∙ ap (λ bs. c.args.of ∷ bs) (c.as_slice.ensures.value ∙ c.in_ok-bases.ensures ∙ ap (line_within (length heads) heads) c.base.ensures) in
    if_ok (λ new. AddsFresh c.args.met.now [] c.as_slice-2.result.now c.all_fresh.new.met new.items) (λ new. new.items ≡ fresh [] (c.args.of ∷ bases heads c.args.of))
    (λ new one. (first_met c.args.met.now c.all_fresh.new.met new.items c.as_slice-2.result.now c.requires one).0 ∙ ap (fresh []) whole) c.all_fresh.result c.all_fresh.ensures

pub returns-clause-met : goal.returns-clause-met
returns-clause-met c =
    if_ok (λ new. AddsFresh c.args.met.now [] c.as_slice-2.result.now c.all_fresh.new.met new.items) (λ new. HasNumbers c.all_fresh.new.met new.items)
    (λ new one. (first_met c.args.met.now c.all_fresh.new.met new.items c.as_slice-2.result.now c.requires one).1) c.all_fresh.result c.all_fresh.ensures
