use Rattle.std.proofs.Common.{◌∙◌, ◌+◌, subst, sym, take, take_all}
use Rattle.type_heads.specs.Grouped.{AreGrouped}
use Rattle.type_heads.proofs.Groups.{grouped_put}
use Rattle.type_heads.proofs.grouping.extensions_of.Goals as goal

pub loop-declaration-preserved : goal.loop-declaration-preserved
loop-declaration-preserved c = record {
  count = c.in_ok-put_extension.ensures.count ∙ c.loop-declaration.invariant.count;
  grouped = λ heads index.
      subst (AreGrouped heads c.args.count (take (c.loop-declaration.declaration-index + 1) c.args.placed.now)) (sym (c.in_ok-put_extension.ensures.put heads index))
      (grouped_put heads c.args.count c.loop-declaration.declaration-index c.args.placed.now c.declaration-item.result c.loop-declaration.added.items
      c.loop-declaration-test.true c.declaration-item.is (c.loop-declaration.invariant.grouped heads index) c.loop-declaration.invariant.count);
}

pub returns-clause-grouped : goal.returns-clause-grouped
returns-clause-grouped c = λ heads index.
    subst (λ ps. AreGrouped heads c.args.count ps c.loop-declaration.added.items) (take_all c.loop-declaration.declaration-index c.args.placed.now c.loop-declaration-test.false)
    (c.loop-declaration.invariant.grouped heads index)
