use Rattle.std.proofs.Common.{◌≡◌, ◌∙◌, ◌+◌, ◌≤◌, ◌++◌, ◌∷◌, [], refl, sym, ap, subst, arith, length, take, take_all}
use Rattle.std.proofs.lemmas.List.{drop_all, take_more}
use Rattle.type_heads.specs.EnumNames.{hit_in}
use Rattle.type_heads.specs.Table.{enums_with}
use Rattle.type_heads.proofs.Hits.{hit_after, hit_from}
use Rattle.type_heads.proofs.EnumTables.{AreTables, enums_from, hits_next, table_number, tables_more}
use Rattle.type_heads.proofs.enum_index.EnumIndex.of.Goals as goal

pub loop-head-init : goal.loop-head-init
loop-head-init c = record {
  count = refl;
  tables = subst (λ xs. AreTables xs []) (sym c.new-tables.ensures.items) tt;
  hits = λ name. hit_from (enums_with c.args.heads.now name) ∙ ap (λ h. hit_after h (enums_with c.args.heads.now name)) (sym (c.new-hits.ensures name));
}

pub loop-head-preserved : goal.loop-head-preserved
loop-head-preserved c =
    let heads = c.args.heads.now in
    let i = c.loop-head.head-index in
    let item = c.head-item.result in
    let before = c.loop-head.tables.items in
    let table = c.in_ok-own_table.field-0 in
    let more : take i heads ++ item ∷ [] ≡ take (i + 1) heads = ap (λ y. take i heads ++ y ∷ []) c.head-item.is ∙ sym (take_more heads i item c.loop-head-test.true) in
    record {
      count = ap (λ n. n + 1) c.loop-head.invariant.count;
      tables = subst (λ xs. AreTables xs (take (i + 1) heads)) (sym c.in_ok-push.ensures.items)
          (subst (AreTables (before ++ table ∷ [])) more (tables_more before table (take i heads) item c.loop-head.invariant.tables c.in_ok-own_table.ensures.numbers));
      hits = λ name. c.loop-head.invariant.hits name
          ∙ hits_next heads i c.loop-head.number item name (hit_in c.loop-head.hits name) (hit_in c.own_table.new.hits name) c.loop-head-test.true c.loop-head.invariant.count c.head-item.is
          (c.in_ok-own_table.ensures.hits name);
    }

pub returns : goal.returns
returns c =
    let heads = c.args.heads.now in
    let i = c.loop-head.head-index in
    let past : length heads ≤ i = omega (arith, c.loop-head-test.false) in
    record {
      numbers = table_number c.loop-head.tables.items heads (subst (AreTables c.loop-head.tables.items) (take_all i heads c.loop-head-test.false) c.loop-head.invariant.tables);
      hits = λ name. sym (c.loop-head.invariant.hits name ∙ ap (λ hs. hit_after (hit_in c.loop-head.hits name) (enums_from heads name c.loop-head.number hs)) (drop_all i heads past));
    }
