use Rattle.std.proofs.Common.{◌∙◌, ap, ◌||◌}
use Rattle.std.specs.List.{list_any}
use Rattle.heading_faults.specs.SeenNames.{shares_key}
use Rattle.fault_sets.proofs.KeySets.{key_more}
use Rattle.heading_faults.proofs.NameKeys.{same_key, alike, key_shares}
use Rattle.heading_faults.proofs.names.NameSet.meet.Goals as goal

pub returns-clause-more : goal.returns-clause-more
returns-clause-more c = λ other. key_more same_key (shares_key other) c.key.result c.args.self.now.keys.keys c.insert.new.self.keys c.in_ok-is_new.ensures.keys (λ k e. alike other c.key.result k e)
    ∙ ap (λ b. b || list_any (shares_key other) c.args.self.now.keys.keys) (key_shares other c.args.name c.key.result c.key.ensures)
