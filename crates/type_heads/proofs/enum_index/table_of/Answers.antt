use Rattle.std.proofs.Common.{◌≡◌, ◌∙◌, ◌+◌, ◌++◌, ◌∷◌, [], refl, sym, ap, pos, option_map, take, take_all}
use Rattle.std.proofs.lemmas.List.{take_more}
use Rattle.type_heads.specs.EnumNames.{hit_counted, hit_in, number_in}
use Rattle.type_heads.specs.Table.{number_of}
use Rattle.type_heads.proofs.EnumTables.{hits_more, numbers_more}
use Rattle.type_heads.proofs.enum_index.table_of.Goals as goal

pub loop-member-init : goal.loop-member-init
loop-member-init c = record { numbers = c.new-table.ensures; hits = λ name. refl }

pub loop-member-preserved : goal.loop-member-preserved
loop-member-preserved c =
    let members = c.args.members.now in
    let i = c.loop-member.member-index in
    let item = c.member-item.result in
    let more : take i members ++ item ∷ [] ≡ take (i + 1) members = ap (λ y. take i members ++ y ∷ []) c.member-item.is ∙ sym (take_more members i item c.loop-member-test.true) in
    record {
      numbers = λ name. numbers_more (take i members) item name (number_in c.loop-member.table name) (number_in c.note.new.table name) (c.loop-member.invariant.numbers name) (c.in_ok-note.ensures.numbers name)
          ∙ ap (λ ms. option_map pos (number_of ms name)) more;
      hits = λ name. hits_more (take i members) item name (number_in c.loop-member.table name) (hit_in c.args.hits.now name) (hit_in c.loop-member.hits name) (hit_in c.note.new.hits name) c.args.of
          (c.loop-member.invariant.numbers name) (c.loop-member.invariant.hits name) (c.in_ok-note.ensures.hits name)
          ∙ ap (λ ms. hit_counted ms (hit_in c.args.hits.now name) c.args.of name) more;
    }

pub returns-clause-numbers : goal.returns-clause-numbers
returns-clause-numbers c = λ name. c.loop-member.invariant.numbers name ∙ ap (λ ms. option_map pos (number_of ms name)) (take_all c.loop-member.member-index c.args.members.now c.loop-member-test.false)

pub returns-clause-hits : goal.returns-clause-hits
returns-clause-hits c = λ name. c.loop-member.invariant.hits name
    ∙ ap (λ ms. hit_counted ms (hit_in c.args.hits.now name) c.args.of name) (take_all c.loop-member.member-index c.args.members.now c.loop-member-test.false)
