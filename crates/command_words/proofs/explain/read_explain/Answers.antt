use Rattle.std.proofs.Common.{◌∙◌, ap}
use Rattle.command_words.specs.Words.{topic_wanted}
use Rattle.command_words.proofs.TopicWords.{with_more_words, with_one_word, without_words}
use Rattle.command_words.proofs.explain.read_explain.Goals as goal

pub returns-in-empty-clause-request : goal.returns-in-empty-clause-request
returns-in-empty-clause-request c = without_words c.args.words.now c.in-empty.len_below

pub returns-in-len1-clause-request : goal.returns-in-len1-clause-request
returns-in-len1-clause-request c =
    c.read_topic.ensures.request ∙ ap topic_wanted c.as_str.ensures.value
    ∙ with_one_word c.args.words.now c.word-item.result c.in-len1.len_at_least c.in-len1.len_below c.word-item.is

pub returns-in_default-clause-request : goal.returns-in_default-clause-request
returns-in_default-clause-request c = with_more_words c.args.words.now c.in_default.len_at_least
