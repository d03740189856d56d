use Rattle.dsl_spell.proofs.Spellings.{written_spells}
use Rattle.dsl_spell.proofs.spell_tree.spell.Goals as goal

pub returns : goal.returns
returns c =
    written_spells c.args.file.now (record { alloc = c.args.alloc; at = c.args.file.now.end; tokens = c.new.result }) c.push_file.new.w c.requires c.new.ensures c.in_ok-push_file.ensures
