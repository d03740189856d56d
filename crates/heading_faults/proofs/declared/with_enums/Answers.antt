use Rattle.std.proofs.Common.{◌≡◌, ◌∙◌, ◌+◌, ◌<◌, sym, ap, subst, drop, length, get_or}
use Rattle.type_members.specs.osc_base.FaultRows.{first_from}
use Rattle.type_members.specs.type_heads.Gathered.{all_of, heads_of}
use Rattle.type_members.specs.type_heads.DeclaredTypes.{all_declared}
use Rattle.type_members.specs.type_heads.HeadingFaults.{enum_rows_from}
use Rattle.fault_sets.proofs.RowSteps.{left_is}
use Rattle.heading_faults.proofs.ItemSteps.{next_type}
use Rattle.heading_faults.proofs.declared.with_enums.Goals as goal

pub loop-own-preserved : goal.loop-own-preserved
loop-own-preserved c =
    let less : c.loop-own.own-index < length c.args.declarations.now.types.items
    = subst (λ xs. c.loop-own.own-index < length xs) c.as_slice-own-items.ensures.value c.loop-own-test.true in
    let is : c.own-item.result ≡ get_or c.args.declarations.now.types.items c.loop-own.own-index c.own-item.result
    = c.own-item.is ∙ ap (λ xs. get_or xs c.loop-own.own-index c.own-item.result) c.as_slice-own-items.ensures.value in
    record {
      count = ap (λ n. n + 1) c.loop-own.invariant.count;
      rest = next_type (heads_of c.args.declarations.now) c.args.declarations.now.placed.items c.loop-own.number c.extensions-extensions.result.now c.own-item.result
          (drop c.loop-own.own-index c.args.declarations.now.types.items) (drop (c.loop-own.own-index + 1) c.args.declarations.now.types.items)
          (first_from c.args.first (enum_rows_from (heads_of c.args.declarations.now) (all_of c.args.declarations.now) 0 (all_declared (all_of c.args.declarations.now))))
          c.loop-own.found c.in_ok-found.found
          (c.extensions-extensions.ensures ∙ c.requires.same_extensions c.loop-own.number (subst (λ n. n < length c.args.declarations.now.types.items) (sym c.loop-own.invariant.count) less))
          (left_is c.args.declarations.now.types.items c.loop-own.own-index c.own-item.result less is)
          c.in_ok-found.ensures c.loop-own.invariant.rest;
    }
