use Rattle.std.proofs.Common.{◌≡◌, ◌++◌, flat_map}
use Rattle.type_members.specs.osc_base.FaultRows.{first_from}
use Rattle.heading_faults.specs.ItemSets.{ContinuesItems, items_in, rows_of_items}
use Rattle.heading_faults.specs.Trees.{trees}
use Rattle.fault_sets.proofs.RowSteps.{if_ok}
use Rattle.heading_faults.proofs.ItemSteps.{then_items, all_items}
use Rattle.heading_faults.proofs.items.with_enum.Goals as goal

pub returns : goal.returns
returns c =
    let added = flat_map items_in (trees c.args.extensions.now) in
    if_ok (λ f. ContinuesItems c.in_ok-first.first c.with_items.new.met f c.with_extensions.new.met added) (λ f. f ≡ first_from c.args.first (rows_of_items (c.args.own.now ++ added)))
    (λ f more. all_items c.args.first f c.new-met.result c.with_extensions.new.met (c.args.own.now ++ added) c.new-met.ensures.none c.new-met.ensures.next
    (then_items c.args.first c.in_ok-first.first f c.new-met.result c.with_items.new.met c.with_extensions.new.met c.args.own.now added c.in_ok-first.ensures more))
    c.with_extensions.result c.with_extensions.ensures
