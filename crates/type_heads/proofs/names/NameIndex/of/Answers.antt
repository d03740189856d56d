use Rattle.std.proofs.Common.{◌∙◌, ◌+◌, ◌&&◌, ap, sym, cond, Some, None, bytes_eq, map, take, take_all, option_copied}
use Rattle.std.specs.Option.{option_or}
use Rattle.name_scope.specs.Declaring.{same_owner, first_place}
use Rattle.name_scope.proofs.Tables.{place_next}
use Rattle.type_heads.specs.DeclaredTypes.{Declared}
use Rattle.type_heads.specs.Table.{TypeHead}
use Rattle.type_heads.specs.Placing.{seen_type}
use Rattle.type_heads.proofs.NameTables.{place_of_map}
use Rattle.type_heads.proofs.names.NameIndex.of.Goals as goal

pub loop-own-preserved : goal.loop-own-preserved
loop-own-preserved c = record {
  count = c.in_ok-place.ensures.next ∙ ap (λ n. n + 1) c.loop-own.invariant.count;
  small = c.in_ok-place.ensures.small;
  first = λ owner name. c.in_ok-note.ensures owner name
      ∙ ap (λ o. option_or o (cond (same_owner (option_copied c.owner.result) owner && bytes_eq c.name.result.now name) (Some c.loop-own.place) None)) (c.loop-own.invariant.first owner name)
      ∙ ap (λ w. option_or (first_place (λ o. same_owner (seen_type o).head.owner owner && bytes_eq (seen_type o).head.name name) 0 (take c.loop-own.own-index c.args.types.now))
      (cond (same_owner w owner && bytes_eq c.name.result.now name) (Some c.loop-own.place) None)) c.owner.ensures
      ∙ ap (λ w. option_or (first_place (λ o. same_owner (seen_type o).head.owner owner && bytes_eq (seen_type o).head.name name) 0 (take c.loop-own.own-index c.args.types.now))
      (cond (same_owner (seen_type c.own-item.result).head.owner owner && bytes_eq w name) (Some c.loop-own.place) None)) c.name.ensures
      ∙ place_next (λ o. same_owner (seen_type o).head.owner owner && bytes_eq (seen_type o).head.name name) c.args.types.now c.loop-own.own-index c.loop-own.place c.own-item.result
      c.loop-own-test.true c.loop-own.invariant.count c.own-item.is;
}

pub returns-clause-first : goal.returns-clause-first
returns-clause-first c = λ owner name. c.loop-own.invariant.first owner name
    ∙ ap (first_place (λ o. same_owner (seen_type o).head.owner owner && bytes_eq (seen_type o).head.name name) 0) (take_all c.loop-own.own-index c.args.types.now c.loop-own-test.false)
    ∙ sym (place_of_map (λ (d : Declared). d.head) (λ (h : TypeHead). same_owner h.owner owner && bytes_eq h.name name) 0 (map seen_type c.args.types.now)
    ∙ place_of_map seen_type (λ (d : Declared). same_owner d.head.owner owner && bytes_eq d.head.name name) 0 c.args.types.now)
