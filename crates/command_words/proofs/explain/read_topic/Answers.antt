use Rattle.std.proofs.Common.{◌∙◌, sym}
use Rattle.command_words.proofs.TopicWords.{help_topic, known_topic, no_topic}
use Rattle.command_words.proofs.explain.read_topic.Goals as goal

pub returns-in-Some-clause-request : goal.returns-in-Some-clause-request
returns-in-Some-clause-request c =
    sym (known_topic c.args.word.now c.in-Some.topic c.in_default.not-help c.in_default.not-text c.in_default.not-text-2 (sym c.topic_named.ensures ∙ c.in-Some.is))

pub returns-in-None-clause-request : goal.returns-in-None-clause-request
returns-in-None-clause-request c =
    sym (no_topic c.args.word.now c.in_default.not-help c.in_default.not-text c.in_default.not-text-2 (sym c.topic_named.ensures ∙ c.in-None.is))

pub returns-in-help-clause-request : goal.returns-in-help-clause-request
returns-in-help-clause-request c = sym (help_topic c.args.word.now c.in-help.is)
