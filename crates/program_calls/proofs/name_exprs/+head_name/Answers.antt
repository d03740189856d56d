use Rattle.std.proofs.Common.{◌∙◌, ap, refl, sym}
use Rattle.dsl_tree.specs.ExprTree.{ExprTree}
use Rattle.dsl_tree.specs.Views.{expr_tree}
use Rattle.dsl_tree.proofs.Seen.{seen_or, seen_and, seen_sum, seen_product}
use Rattle.program_calls.specs.NameExprs.{head_in}
use Rattle.program_calls.proofs.HeadNameForms.{alone_rest, head_of_dot, head_of_index, more_rest}
use Rattle.program_calls.proofs.name_exprs.+head_name.Goals as goal

pub returns-in-Dot : goal.returns-in-Dot
returns-in-Dot t c = c.head_name.ensures ∙ ap (λ e. head_in (expr_tree e)) c.get.ensures ∙ sym (head_of_dot c.in-Dot.head c.in-Dot.suffixes) ∙ ap (λ e. head_in (expr_tree e)) (sym c.in-Dot.is)

pub returns-in-Index : goal.returns-in-Index
returns-in-Index t c = c.head_name-in-Index.ensures ∙ ap (λ e. head_in (expr_tree e)) c.get-in-Index.ensures ∙ sym (head_of_index c.in-Index.head c.in-Index.suffixes)
    ∙ ap (λ e. head_in (expr_tree e)) (sym c.in-Index.is)

pub returns-then-is_alone : goal.returns-then-is_alone
returns-then-is_alone t c =
    c.head_name-then-is_alone.ensures ∙ ap (λ e. head_in (expr_tree e)) c.get-then-is_alone.ensures
    ∙ sym (alone_rest ExprTree.Or (expr_tree c.in-Or.first) c.in-Or.rest (sym c.is_alone.ensures ∙ c.if-is_alone.true))
    ∙ sym (ap head_in (seen_or c.in-Or.first c.in-Or.rest)) ∙ ap (λ e. head_in (expr_tree e)) (sym c.in-Or.is)

pub returns-else-is_alone : goal.returns-else-is_alone
returns-else-is_alone t c =
    sym (more_rest ExprTree.Or (expr_tree c.in-Or.first) (λ place operator left right. refl) c.in-Or.rest (sym c.is_alone.ensures ∙ c.if-is_alone.false))
    ∙ sym (ap head_in (seen_or c.in-Or.first c.in-Or.rest)) ∙ ap (λ e. head_in (expr_tree e)) (sym c.in-Or.is)

pub returns-then-is_alone-2 : goal.returns-then-is_alone-2
returns-then-is_alone-2 t c =
    c.head_name-then-is_alone-2.ensures ∙ ap (λ e. head_in (expr_tree e)) c.get-then-is_alone-2.ensures
    ∙ sym (alone_rest ExprTree.And (expr_tree c.in-And.first) c.in-And.rest (sym c.is_alone-in-And.ensures ∙ c.if-is_alone-2.true))
    ∙ sym (ap head_in (seen_and c.in-And.first c.in-And.rest)) ∙ ap (λ e. head_in (expr_tree e)) (sym c.in-And.is)

pub returns-else-is_alone-2 : goal.returns-else-is_alone-2
returns-else-is_alone-2 t c =
    sym (more_rest ExprTree.And (expr_tree c.in-And.first) (λ place operator left right. refl) c.in-And.rest (sym c.is_alone-in-And.ensures ∙ c.if-is_alone-2.false))
    ∙ sym (ap head_in (seen_and c.in-And.first c.in-And.rest)) ∙ ap (λ e. head_in (expr_tree e)) (sym c.in-And.is)

pub returns-then-is_alone-3 : goal.returns-then-is_alone-3
returns-then-is_alone-3 t c =
    c.head_name-then-is_alone-3.ensures ∙ ap (λ e. head_in (expr_tree e)) c.get-then-is_alone-3.ensures
    ∙ sym (alone_rest ExprTree.Sum (expr_tree c.in-Sum.first) c.in-Sum.rest (sym c.is_alone-in-Sum.ensures ∙ c.if-is_alone-3.true))
    ∙ sym (ap head_in (seen_sum c.in-Sum.first c.in-Sum.rest)) ∙ ap (λ e. head_in (expr_tree e)) (sym c.in-Sum.is)

pub returns-else-is_alone-3 : goal.returns-else-is_alone-3
returns-else-is_alone-3 t c =
    sym (more_rest ExprTree.Sum (expr_tree c.in-Sum.first) (λ place operator left right. refl) c.in-Sum.rest (sym c.is_alone-in-Sum.ensures ∙ c.if-is_alone-3.false))
    ∙ sym (ap head_in (seen_sum c.in-Sum.first c.in-Sum.rest)) ∙ ap (λ e. head_in (expr_tree e)) (sym c.in-Sum.is)

pub returns-then-is_alone-4 : goal.returns-then-is_alone-4
returns-then-is_alone-4 t c =
    c.head_name-then-is_alone-4.ensures ∙ ap (λ e. head_in (expr_tree e)) c.get-then-is_alone-4.ensures
    ∙ sym (alone_rest ExprTree.Product (expr_tree c.in-Product.first) c.in-Product.rest (sym c.is_alone-in-Product.ensures ∙ c.if-is_alone-4.true))
    ∙ sym (ap head_in (seen_product c.in-Product.first c.in-Product.rest)) ∙ ap (λ e. head_in (expr_tree e)) (sym c.in-Product.is)

pub returns-else-is_alone-4 : goal.returns-else-is_alone-4
returns-else-is_alone-4 t c =
    sym (more_rest ExprTree.Product (expr_tree c.in-Product.first) (λ place operator left right. refl) c.in-Product.rest (sym c.is_alone-in-Product.ensures ∙ c.if-is_alone-4.false))
    ∙ sym (ap head_in (seen_product c.in-Product.first c.in-Product.rest)) ∙ ap (λ e. head_in (expr_tree e)) (sym c.in-Product.is)
