use Rattle.std.proofs.Common.{◌∙◌, ◌++◌, ◌∷◌, ◌-◌, [], ap, map}
use Rattle.std.proofs.lemmas.List.{map-append}
use Rattle.expr_nodes.specs.Typed as Nodes
use Rattle.expr_nodes.specs.Typed.{row_of, items_of}
use Rattle.expr_nodes.specs.Names.{elements_from}
use Rattle.expr_nodes.specs.Seen.{seen, seen_info}
use Rattle.expr_typing.proofs.Elements.{first_elements, next_element}
use Rattle.expr_typing.proofs.held.elements.Goals as goal

pub loop-number-init : goal.loop-number-init
loop-number-init c =
    ap (λ xs. row_of (map seen xs ++ items_of (elements_from 0 (c.args.count - 0) (λ p. Nodes.Read (seen_info c.args.info.now) p c.args.per) c.args.path.now))) c.new-items.ensures
    ∙ first_elements (λ p. Nodes.Read (seen_info c.args.info.now) p c.args.per) c.args.path.now c.args.count

pub loop-number-preserved : goal.loop-number-preserved
loop-number-preserved c =
    next_element (λ p. Nodes.Read (seen_info c.args.info.now) p c.args.per) c.args.path.now c.loop-number.number c.args.count (map seen c.loop-number.items) (map seen c.push.new.self)
    (elements_from 0 c.args.count (λ p. Nodes.Read (seen_info c.args.info.now) p c.args.per) c.args.path.now) c.loop-number-test.true
    (ap (map seen) c.in_ok-push.ensures.ok ∙ map-append seen c.loop-number.items (c.in_ok-element.field-0 ∷ []) ∙ ap (λ v. map seen c.loop-number.items ++ v ∷ []) c.in_ok-element.ensures)
    c.loop-number.invariant
