use Rattle.std.proofs.Common.{OnOk, map, refl, subst}
use Rattle.std.proofs.lemmas.Result.{on_ok_weaker}
use Rattle.dsl_spell.specs.Writing.{expr_tree, suffix_tree, further_tree, Writes, Fills, Joins}
use Rattle.dsl_spell.proofs.Places.{one_more, all_done, furthers, suffixes, items, fills, further_steps, item_steps, listed_writes, operators_write, suffixes_write}
use Rattle.dsl_spell.proofs.spell_expr.+spelling.Goals as goal

pub push_expr-returns : goal.push_expr-returns
push_expr-returns t c = on_ok_weaker c.push_node.result (fills c.args.w.now c.push_node.new.w (expr_tree c.args.tree.now)) c.push_node.ensures

pub push_node-returns-in_ok-push_expr-in-Dot : goal.push_node-returns-in_ok-push_expr-in-Dot
push_node-returns-in_ok-push_expr-in-Dot t c =
    on_ok_weaker c.push_suffixes.result
    (suffixes_write c.args.w.now c.push_expr-in-Dot.new.w c.push_suffixes.new.w c.args.tree.now c.in-Dot.head c.in-Dot.suffixes c.in-Dot.is (subst (λ e. Fills c.args.w.now (expr_tree e) c.push_expr-in-Dot.new.w) c.get-in-Dot.ensures c.in_ok-push_expr-in-Dot.ensures))
    (subst (λ ss. OnOk c.push_suffixes.result (Writes c.push_expr-in-Dot.new.w (suffixes ss) c.push_suffixes.new.w)) c.as_slice-in-Dot.ensures c.push_suffixes.ensures)

pub push_node-returns-in_ok-push_expr-in-Or : goal.push_node-returns-in_ok-push_expr-in-Or
push_node-returns-in_ok-push_expr-in-Or t c =
    on_ok_weaker c.push_further.result
    (operators_write c.args.w.now c.push_expr-in-Or.new.w c.push_further.new.w c.args.tree.now c.in-Or.first c.in-Or.rest c.in-Or.is (subst (λ e. Fills c.args.w.now (expr_tree e) c.push_expr-in-Or.new.w) c.get-in-Or.ensures c.in_ok-push_expr-in-Or.ensures))
    (subst (λ fs. OnOk c.push_further.result (Joins c.push_expr-in-Or.new.w (map further_tree fs) c.push_further.new.w)) c.as_slice-in-Or.ensures c.push_further.ensures)

pub push_further-parts-preserved : goal.push_further-parts-preserved
push_further-parts-preserved t c n =
    one_more (furthers n) c.args.rest.now c.parts.next-index c.next-item.result c.args.w.now c.parts.w c.push_expr.new.w (c.parts.invariant n)
    (further_steps n c.next-item.result c.kind_of_operator.result c.parts.w c.push.new.self c.push_expr.new.w c.kind_of_operator.ensures c.in_ok-push.ensures c.in_ok-push_expr.ensures)
    c.parts-test.true c.next-item.is

pub push_further-returns : goal.push_further-returns
push_further-returns t c n = all_done (furthers n) c.args.rest.now c.parts.next-index c.args.w.now c.parts.w (c.parts.invariant n) c.parts-test.false refl

pub push_suffixes-suffixes-preserved : goal.push_suffixes-suffixes-preserved
push_suffixes-suffixes-preserved t c =
    one_more suffixes c.args.suffixes.now c.suffixes.suffix-index c.suffix-item.result c.args.w.now c.suffixes.w c.push_suffix.new.w c.suffixes.invariant
    (λ rest. c.in_ok-push_suffix.ensures (map suffix_tree rest)) c.suffixes-test.true c.suffix-item.is

pub push_suffixes-returns : goal.push_suffixes-returns
push_suffixes-returns t c = all_done suffixes c.args.suffixes.now c.suffixes.suffix-index c.args.w.now c.suffixes.w c.suffixes.invariant c.suffixes-test.false refl

pub push_items-others-preserved : goal.push_items-others-preserved
push_items-others-preserved t c =
    one_more items c.in-Some.others.now c.others.item-index c.item-item.result c.push_expr.new.w c.others.w c.push_expr-in-others.new.w c.others.invariant
    (item_steps c.item-item.result c.others.w c.bare_mark.new.self c.push_expr-in-others.new.w c.in_ok-bare_mark-in-Some.ensures c.in_ok-push_expr-in-Some-2.ensures) c.others-test.true c.item-item.is

pub push_items-returns-after-others : goal.push_items-returns-after-others
push_items-returns-after-others t c =
    on_ok_weaker c.bare_mark-in-Some.result
    (listed_writes c.args.w.now c.push_expr.new.w c.others.w c.bare_mark-in-Some.new.self c.args.items.now c.in-Some.first.now c.in-Some.others.now c.in-Some.ensures.cases.0 c.in_ok-push_expr-in-Some.ensures
    (all_done items c.in-Some.others.now c.others.item-index c.push_expr.new.w c.others.w c.others.invariant c.others-test.false refl))
    c.bare_mark-in-Some.ensures
