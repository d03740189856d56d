use Rattle.std.proofs.Common.{◌∙◌, ◌+◌, ap, cond, Some, None, arith, take_all}
use Rattle.std.specs.Option.{option_or}
use Rattle.name_scope.specs.Declaring.{first_place, is_called}
use Rattle.name_scope.proofs.Tables.{place_next}
use Rattle.name_scope.proofs.table.NameTable.of.Goals as goal

pub loop-modifier-preserved : goal.loop-modifier-preserved
loop-modifier-preserved c = record {
  count = c.in_ok-place.ensures.next ∙ ap (λ n. n + 1) c.loop-modifier.invariant.count;
  small = c.in_ok-place.ensures.small;
  first = λ name. c.in_ok-note_modifier.ensures name
      ∙ ap (λ o. option_or o (cond (is_called name c.modifier-item.result) (Some c.loop-modifier.place) None)) (c.loop-modifier.invariant.first name)
      ∙ place_next (is_called name) c.args.modifiers.now c.loop-modifier.modifier-index c.loop-modifier.place c.modifier-item.result
      c.loop-modifier-test.true c.loop-modifier.invariant.count c.modifier-item.is;
}

pub returns-clause-few : goal.returns-clause-few
returns-clause-few c = omega arith

pub returns-clause-first : goal.returns-clause-first
returns-clause-first c = λ name. c.loop-modifier.invariant.first name
    ∙ ap (first_place (is_called name) 0) (take_all c.loop-modifier.modifier-index c.args.modifiers.now c.loop-modifier-test.false)
