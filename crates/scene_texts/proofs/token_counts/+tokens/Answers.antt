use Rattle.std.proofs.Common.{List, ◌+◌, ◌∙◌, ap, sym, refl}
use Rattle.dsl_tree.specs.declared.expr.Further.{Further}
use Rattle.dsl_tree.specs.declared.expr.Suffix.{Suffix}
use Rattle.dsl_tree.specs.declared.expr.Expr.{Expr}
use Rattle.dsl_tree.specs.Views.{expr_tree}
use Rattle.expansion_laws.specs.composition.Tokens.{tokens}
use Rattle.expansion_laws.specs.Counts.{total}
use Rattle.scene_texts.specs.Capped.{capped}
use Rattle.scene_texts.specs.RowTokens.{further_count, item_count, suffix_count}
use Rattle.scene_texts.proofs.TokenRows.{total_more, further_seen}
use Rattle.scene_texts.proofs.TokenNodes.{with_middle, with_start, with_both, with_more, with_fewer, implies_counted, relation_counted, span_counted, range_counted, not_counted, minus_counted, group_counted, or_counted, and_counted, sum_counted, product_counted, dot_counted, index_counted, listed_counted, suffix_counted, name_suffix_counted, number_counted, physical_counted, chars_counted, truth_counted, it_counted, actor_counted, name_counted, enum_name_counted}
use Rattle.scene_texts.proofs.token_counts.+tokens.Goals as goal

pub further_tokens-further-init : goal.further_tokens-further-init
unfolding capped
further_tokens-further-init t c = refl

pub further_tokens-further-preserved : goal.further_tokens-further-preserved
further_tokens-further-preserved t c =
    total_more further_count c.args.rest.now c.further.further-index c.further-item.result c.further.all c.one_further.result c.add-all.result
    c.further.invariant c.one_further.ensures c.add-all.ensures c.further-test.true c.further-item.is

pub item_tokens-items-init : goal.item_tokens-items-init
unfolding capped
item_tokens-items-init t c = refl

pub item_tokens-items-preserved : goal.item_tokens-items-preserved
item_tokens-items-preserved t c =
    total_more item_count c.args.items.now c.items.item-index c.item-item.result c.items.all c.one_item.result c.add-all.result
    c.items.invariant c.one_item.ensures c.add-all.ensures c.items-test.true c.item-item.is

pub suffix_tokens-suffixes-init : goal.suffix_tokens-suffixes-init
unfolding capped
suffix_tokens-suffixes-init t c = refl

pub suffix_tokens-suffixes-preserved : goal.suffix_tokens-suffixes-preserved
suffix_tokens-suffixes-preserved t c =
    total_more suffix_count c.args.suffixes.now c.suffixes.suffix-index c.suffix-item.result c.suffixes.all c.one_suffix.result c.add-all.result
    c.suffixes.invariant c.one_suffix.ensures c.add-all.ensures c.suffixes-test.true c.suffix-item.is

pub one_further-returns : goal.one_further-returns
one_further-returns t c =
    with_more 1 c.tokens.result (tokens (expr_tree c.args.further.now.part)) c.add.result c.add.ensures c.tokens.ensures
    ∙ ap (λ e. capped (1 + tokens e)) (sym (further_seen c.args.further.now))

pub one_item-returns : goal.one_item-returns
one_item-returns t c = with_fewer 1 c.tokens.result (tokens (expr_tree c.args.item.now)) c.add.result c.add.ensures c.tokens.ensures

pub one_suffix-returns-in-Dot : goal.one_suffix-returns-in-Dot
one_suffix-returns-in-Dot t c = name_suffix_counted c.args.suffix.now c.in-Dot.field-0 c.in-Dot.is

pub one_suffix-returns-in-Index : goal.one_suffix-returns-in-Index
one_suffix-returns-in-Index t c =
    suffix_counted c.add.result c.args.suffix.now c.in-Index.place c.in-Index.index c.in-Index.is (with_more 2 c.tokens.result (tokens (expr_tree c.in-Index.index)) c.add.result c.add.ensures c.tokens.ensures)

pub tokens-returns-in-Implies : goal.tokens-returns-in-Implies
tokens-returns-in-Implies t c =
    implies_counted c.between.result c.args.expr.now c.in-Implies.place c.in-Implies.left c.in-Implies.right c.in-Implies.is
    (with_middle c.tokens.result 1 c.tokens-in-Implies.result (tokens (expr_tree c.in-Implies.left)) (tokens (expr_tree c.in-Implies.right)) c.between.result c.between.ensures
    (c.tokens.ensures ∙ ap (λ (e : Expr). capped (tokens (expr_tree e))) c.get.ensures)
    (c.tokens-in-Implies.ensures ∙ ap (λ (e : Expr). capped (tokens (expr_tree e))) c.get-in-Implies.ensures))

pub tokens-returns-in-Relation : goal.tokens-returns-in-Relation
tokens-returns-in-Relation t c =
    relation_counted c.between-in-Relation.result c.args.expr.now c.in-Relation.place c.in-Relation.sign c.in-Relation.left c.in-Relation.right c.in-Relation.is
    (with_middle c.tokens-in-Relation.result 1 c.tokens-in-Relation-2.result (tokens (expr_tree c.in-Relation.left)) (tokens (expr_tree c.in-Relation.right)) c.between-in-Relation.result c.between-in-Relation.ensures
    (c.tokens-in-Relation.ensures ∙ ap (λ (e : Expr). capped (tokens (expr_tree e))) c.get-in-Relation.ensures)
    (c.tokens-in-Relation-2.ensures ∙ ap (λ (e : Expr). capped (tokens (expr_tree e))) c.get-in-Relation-2.ensures))

pub tokens-returns-in-Span : goal.tokens-returns-in-Span
tokens-returns-in-Span t c =
    span_counted c.between-in-Span.result c.args.expr.now c.in-Span.place c.in-Span.low c.in-Span.high c.in-Span.is
    (with_start 3 c.tokens-in-Span.result c.tokens-in-Span-2.result (tokens (expr_tree c.in-Span.low)) (tokens (expr_tree c.in-Span.high)) c.between-in-Span.result c.between-in-Span.ensures
    (c.tokens-in-Span.ensures ∙ ap (λ (e : Expr). capped (tokens (expr_tree e))) c.get-in-Span.ensures)
    (c.tokens-in-Span-2.ensures ∙ ap (λ (e : Expr). capped (tokens (expr_tree e))) c.get-in-Span-2.ensures))

pub tokens-returns-in-RangeCall : goal.tokens-returns-in-RangeCall
tokens-returns-in-RangeCall t c =
    range_counted c.between-in-RangeCall.result c.args.expr.now c.in-RangeCall.place c.in-RangeCall.low c.in-RangeCall.high c.in-RangeCall.is
    (with_start 4 c.tokens-in-RangeCall.result c.tokens-in-RangeCall-2.result (tokens (expr_tree c.in-RangeCall.low)) (tokens (expr_tree c.in-RangeCall.high)) c.between-in-RangeCall.result c.between-in-RangeCall.ensures
    (c.tokens-in-RangeCall.ensures ∙ ap (λ (e : Expr). capped (tokens (expr_tree e))) c.get-in-RangeCall.ensures)
    (c.tokens-in-RangeCall-2.ensures ∙ ap (λ (e : Expr). capped (tokens (expr_tree e))) c.get-in-RangeCall-2.ensures))

pub tokens-returns-in-Not : goal.tokens-returns-in-Not
tokens-returns-in-Not t c =
    not_counted c.add-in-Not.result c.args.expr.now c.in-Not.place c.in-Not.part c.in-Not.is
    (with_more 1 c.tokens-in-Not.result (tokens (expr_tree c.in-Not.part)) c.add-in-Not.result c.add-in-Not.ensures
    (c.tokens-in-Not.ensures ∙ ap (λ (e : Expr). capped (tokens (expr_tree e))) c.get-in-Not.ensures))

pub tokens-returns-in-Minus : goal.tokens-returns-in-Minus
tokens-returns-in-Minus t c =
    minus_counted c.add-in-Minus.result c.args.expr.now c.in-Minus.place c.in-Minus.part c.in-Minus.is
    (with_more 1 c.tokens-in-Minus.result (tokens (expr_tree c.in-Minus.part)) c.add-in-Minus.result c.add-in-Minus.ensures
    (c.tokens-in-Minus.ensures ∙ ap (λ (e : Expr). capped (tokens (expr_tree e))) c.get-in-Minus.ensures))

pub tokens-returns-in-Group : goal.tokens-returns-in-Group
tokens-returns-in-Group t c =
    group_counted c.add-in-Group.result c.args.expr.now c.in-Group.place c.in-Group.inner c.in-Group.is
    (with_more 2 c.tokens-in-Group.result (tokens (expr_tree c.in-Group.inner)) c.add-in-Group.result c.add-in-Group.ensures
    (c.tokens-in-Group.ensures ∙ ap (λ (e : Expr). capped (tokens (expr_tree e))) c.get-in-Group.ensures))

pub tokens-returns-in-Or : goal.tokens-returns-in-Or
tokens-returns-in-Or t c =
    or_counted c.add.result c.args.expr.now c.in-Or.first c.in-Or.rest c.in-Or.is
    (with_both c.tokens-in-Or.result c.further_tokens-rest.result (tokens (expr_tree c.in-Or.first)) (total further_count c.in-Or.rest) c.add.result c.add.ensures
    (c.tokens-in-Or.ensures ∙ ap (λ (e : Expr). capped (tokens (expr_tree e))) c.get-in-Or.ensures)
    (c.further_tokens-rest.ensures ∙ ap (λ (fs : List Further). capped (total further_count fs)) c.as_slice.ensures))

pub tokens-returns-in-And : goal.tokens-returns-in-And
tokens-returns-in-And t c =
    and_counted c.add-in-And.result c.args.expr.now c.in-And.first c.in-And.rest c.in-And.is
    (with_both c.tokens-in-And.result c.further_tokens-rest-in-And.result (tokens (expr_tree c.in-And.first)) (total further_count c.in-And.rest) c.add-in-And.result c.add-in-And.ensures
    (c.tokens-in-And.ensures ∙ ap (λ (e : Expr). capped (tokens (expr_tree e))) c.get-in-And.ensures)
    (c.further_tokens-rest-in-And.ensures ∙ ap (λ (fs : List Further). capped (total further_count fs)) c.as_slice-in-And.ensures))

pub tokens-returns-in-Sum : goal.tokens-returns-in-Sum
tokens-returns-in-Sum t c =
    sum_counted c.add-in-Sum.result c.args.expr.now c.in-Sum.first c.in-Sum.rest c.in-Sum.is
    (with_both c.tokens-in-Sum.result c.further_tokens-rest-in-Sum.result (tokens (expr_tree c.in-Sum.first)) (total further_count c.in-Sum.rest) c.add-in-Sum.result c.add-in-Sum.ensures
    (c.tokens-in-Sum.ensures ∙ ap (λ (e : Expr). capped (tokens (expr_tree e))) c.get-in-Sum.ensures)
    (c.further_tokens-rest-in-Sum.ensures ∙ ap (λ (fs : List Further). capped (total further_count fs)) c.as_slice-in-Sum.ensures))

pub tokens-returns-in-Product : goal.tokens-returns-in-Product
tokens-returns-in-Product t c =
    product_counted c.add-in-Product.result c.args.expr.now c.in-Product.first c.in-Product.rest c.in-Product.is
    (with_both c.tokens-in-Product.result c.further_tokens-rest-in-Product.result (tokens (expr_tree c.in-Product.first)) (total further_count c.in-Product.rest) c.add-in-Product.result c.add-in-Product.ensures
    (c.tokens-in-Product.ensures ∙ ap (λ (e : Expr). capped (tokens (expr_tree e))) c.get-in-Product.ensures)
    (c.further_tokens-rest-in-Product.ensures ∙ ap (λ (fs : List Further). capped (total further_count fs)) c.as_slice-in-Product.ensures))

pub tokens-returns-in-Dot : goal.tokens-returns-in-Dot
tokens-returns-in-Dot t c =
    dot_counted c.add-in-Dot.result c.args.expr.now c.in-Dot.head c.in-Dot.suffixes c.in-Dot.is
    (with_both c.tokens-in-Dot.result c.suffix_tokens-after.result (tokens (expr_tree c.in-Dot.head)) (total suffix_count c.in-Dot.suffixes) c.add-in-Dot.result c.add-in-Dot.ensures
    (c.tokens-in-Dot.ensures ∙ ap (λ (e : Expr). capped (tokens (expr_tree e))) c.get-in-Dot.ensures)
    (c.suffix_tokens-after.ensures ∙ ap (λ (ss : List Suffix). capped (total suffix_count ss)) c.as_slice-in-Dot.ensures))

pub tokens-returns-in-Index : goal.tokens-returns-in-Index
tokens-returns-in-Index t c =
    index_counted c.add-in-Index.result c.args.expr.now c.in-Index.head c.in-Index.suffixes c.in-Index.is
    (with_both c.tokens-in-Index.result c.suffix_tokens-after-in-Index.result (tokens (expr_tree c.in-Index.head)) (total suffix_count c.in-Index.suffixes) c.add-in-Index.result c.add-in-Index.ensures
    (c.tokens-in-Index.ensures ∙ ap (λ (e : Expr). capped (tokens (expr_tree e))) c.get-in-Index.ensures)
    (c.suffix_tokens-after-in-Index.ensures ∙ ap (λ (ss : List Suffix). capped (total suffix_count ss)) c.as_slice-in-Index.ensures))

pub tokens-returns-in-Listed : goal.tokens-returns-in-Listed
tokens-returns-in-Listed t c =
    listed_counted c.add-in-Listed.result c.args.expr.now c.in-Listed.place c.in-Listed.items c.in-Listed.is
    (with_more 1 c.item_tokens.result (total item_count c.in-Listed.items) c.add-in-Listed.result c.add-in-Listed.ensures
    (c.item_tokens.ensures ∙ ap (λ (es : List Expr). capped (total item_count es)) c.as_slice-in-Listed.ensures))

pub tokens-returns-in-Number : goal.tokens-returns-in-Number
tokens-returns-in-Number t c = number_counted c.args.expr.now c.in-Number.field-0 c.in-Number.is

pub tokens-returns-in-Physical : goal.tokens-returns-in-Physical
tokens-returns-in-Physical t c = physical_counted c.args.expr.now c.in-Physical.number c.in-Physical.unit c.in-Physical.is

pub tokens-returns-in-Chars : goal.tokens-returns-in-Chars
tokens-returns-in-Chars t c = chars_counted c.args.expr.now c.in-Chars.place c.in-Chars.text c.in-Chars.is

pub tokens-returns-in-Truth : goal.tokens-returns-in-Truth
tokens-returns-in-Truth t c = truth_counted c.args.expr.now c.in-Truth.place c.in-Truth.value c.in-Truth.is

pub tokens-returns-in-It : goal.tokens-returns-in-It
tokens-returns-in-It t c = it_counted c.args.expr.now c.in-It.field-0 c.in-It.is

pub tokens-returns-in-Actor : goal.tokens-returns-in-Actor
tokens-returns-in-Actor t c = actor_counted c.args.expr.now c.in-Actor.field-0 c.in-Actor.is

pub tokens-returns-in-Name : goal.tokens-returns-in-Name
tokens-returns-in-Name t c = name_counted c.args.expr.now c.in-Name.field-0 c.in-Name.is

pub tokens-returns-in-EnumName : goal.tokens-returns-in-EnumName
tokens-returns-in-EnumName t c = enum_name_counted c.args.expr.now c.in-EnumName.of c.in-EnumName.member c.in-EnumName.is
