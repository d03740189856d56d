-- What a contract sees of the requests of the code.
use Rattle.fault_texts.specs.Explained.{explanation, topic_list}
use Rattle.command_words.specs.Shared.{Source}
use Rattle.command_words.specs.Words.{CheckAsked, ExportAsked, FlatAsked, GenerateAsked, MakeAsked, MigrateAsked, VerifyAsked, Wanted}
use Rattle.command_words.specs.Words.{Help, Generate, Check, Export, Verify, Flat, Make, Migrate, Refused}
use Rattle.command_words.specs.declared.requests.CheckWords.{CheckWords}
use Rattle.command_words.specs.declared.requests.ExportWords.{ExportWords}
use Rattle.command_words.specs.declared.requests.FlatWords.{FlatWords}
use Rattle.command_words.specs.declared.requests.GenerateWords.{GenerateWords}
use Rattle.command_words.specs.declared.requests.MakeWords.{MakeWords}
use Rattle.command_words.specs.declared.requests.MigrateWords.{MigrateWords}
use Rattle.command_words.specs.declared.requests.Request.{Request}
use Rattle.command_words.specs.declared.requests.Request.TheVariants as request
use Rattle.command_words.specs.declared.requests.Source as words
use Rattle.command_words.specs.declared.requests.VerifyWords.{VerifyWords}

abbrev pub source_by : words.Source → Source
source_by source = record { file = source.file.now; scenario = source.scenario.now }

abbrev pub asked_by : GenerateWords → GenerateAsked
asked_by words = record {
  source = source_by words.source;
  setting = words.setting;
  seed = words.seed;
  cuts = words.cuts;
  tries = words.tries;
}

abbrev pub checked_by : CheckWords → CheckAsked
checked_by words = record {
  source = source_by words.source;
  run = words.run.now;
  setting = words.setting;
}

abbrev pub exported_by : ExportWords → ExportAsked
exported_by words = record {
  source = source_by words.source;
  run = words.run.now;
  setting = words.setting;
  form = words.form;
  ego = words.ego.now;
  lane_width = words.lane_width;
}

abbrev pub verified_by : VerifyWords → VerifyAsked
verified_by words = record {
  source = source_by words.source;
  «record» = words.«record».now;
  setting = words.setting;
}

abbrev pub flattened_by : FlatWords → FlatAsked
flattened_by words = record { source = source_by words.source; setting = words.setting }

abbrev pub made_by : MakeWords → MakeAsked
made_by words = record { count = words.count }

abbrev pub migrated_by : MigrateWords → MigrateAsked
migrated_by words = record { run = words.run.now }

abbrev pub seen : Request → Wanted
seen (request.Help text) = Help text.now
seen request.Topics = Help topic_list
seen (request.Explain topic) = Help (explanation topic)
seen (request.Generate words) = Generate (asked_by words)
seen (request.Check words) = Check (checked_by words)
seen (request.Export words) = Export (exported_by words)
seen (request.Verify words) = Verify (verified_by words)
seen (request.Flat words) = Flat (flattened_by words)
seen (request.Make words) = Make (made_by words)
seen (request.Migrate words) = Migrate (migrated_by words)
seen request.Refused = Refused
