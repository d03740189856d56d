use Rattle.std.proofs.Common.{subst}
use Rattle.std.proofs.lemmas.Result.{on_ok_weaker}
use Rattle.dsl_spell.specs.Writing.{base, bases_tail, unit_end, Writes, comma_row}
use Rattle.dsl_spell.proofs.Places.{bases_write}
use Rattle.dsl_spell.proofs.spell_file.push_unit_bases.Goals as goal

pub returns : goal.returns
returns c =
    on_ok_weaker c.push_unit_end.result
    (bases_write c.args.w.now c.push_commas.new.w c.push_unit_end.new.w c.args.decl.now.bases (unit_end c.args.decl.now.factor c.args.decl.now.offset)
    (subst (λ bs. Writes c.args.w.now (comma_row base bases_tail bs) c.push_commas.new.w) c.as_slice.ensures c.in_ok-push_commas.ensures))
    c.push_unit_end.ensures
