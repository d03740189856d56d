use Rattle.std.proofs.Common.{OnOk, map, subst}
use Rattle.std.proofs.lemmas.Result.{on_ok_weaker}
use Rattle.dsl_spell.specs.Writing.{suffix_tree, Writes, suffix_tail}
use Rattle.dsl_spell.proofs.Places.{path_writes}
use Rattle.dsl_spell.proofs.spell_phase.push_path.Goals as goal

pub returns : goal.returns
returns c =
    on_ok_weaker c.push_suffixes.result (path_writes c.args.w.now c.push_path_head.new.w c.push_suffixes.new.w c.args.tree.now.head c.args.tree.now.suffixes c.in_ok-push_path_head.ensures)
    (subst (λ ss. OnOk c.push_suffixes.result (Writes c.push_path_head.new.w (suffix_tail (map suffix_tree ss)) c.push_suffixes.new.w)) c.as_slice.ensures c.push_suffixes.ensures)
