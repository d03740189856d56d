use Rattle.leaf_bench.proofs.judgements.judge_once.Goals as goal

pub judge-requires : goal.judge-requires
judge-requires c = record { slots = c.requires.slots; reach = c.requires.reach }
