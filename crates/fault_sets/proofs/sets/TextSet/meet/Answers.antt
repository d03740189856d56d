use Rattle.std.proofs.Common.{◌∙◌, refl, ap, not}
use Rattle.std.specs.List.{list_any}
use Rattle.std.specs.Str.{bytes_eq}
use Rattle.fault_sets.proofs.KeySets.{any_now, text_more, twice_not}
use Rattle.fault_sets.proofs.sets.TextSet.meet.Goals as goal

pub returns-clause-before : goal.returns-clause-before
returns-clause-before c = ap not c.in_ok-is_new.ensures.added ∙ twice_not _ ∙ any_now (bytes_eq c.args.text.now) c.self.inside.texts.keys ∙ ap (list_any (bytes_eq c.args.text.now)) c.self.view_is

pub returns-clause-more : goal.returns-clause-more
returns-clause-more c = text_more c.self.inside.texts.keys c.insert.new.self.keys c.args.text c.args.self.now _ c.self.view_is refl c.in_ok-is_new.ensures.keys
