-- Which texts are said of which code and status: the constants of `src/`.
use Rattle.osc_base.specs.declared.fault.FaultCode.{FaultCode}
use Rattle.fault_texts.specs.Said.{Said, said}
use Rattle.fault_texts.specs.declared.topics.Status.{Status}
use Rattle.fault_texts.specs.declared.lexical.TheConstants as lexical
use Rattle.fault_texts.specs.declared.grammar.TheConstants as grammar
use Rattle.fault_texts.specs.declared.meaning.TheConstants as meaning
use Rattle.fault_texts.specs.declared.statuses.TheConstants as statuses

-- what is said of a fault's code
abbrev pub said_of_fault : FaultCode → Said
said_of_fault FaultCode.Utf8 = said lexical.UTF8.0.now lexical.UTF8.1.now lexical.UTF8.2.now lexical.UTF8.3.now lexical.UTF8.4.now
said_of_fault FaultCode.Tab = said lexical.TAB.0.now lexical.TAB.1.now lexical.TAB.2.now lexical.TAB.3.now lexical.TAB.4.now
said_of_fault FaultCode.Indent = said lexical.INDENT.0.now lexical.INDENT.1.now lexical.INDENT.2.now lexical.INDENT.3.now lexical.INDENT.4.now
said_of_fault FaultCode.Character = said lexical.CHARACTER.0.now lexical.CHARACTER.1.now lexical.CHARACTER.2.now lexical.CHARACTER.3.now lexical.CHARACTER.4.now
said_of_fault FaultCode.Text = said lexical.TEXT.0.now lexical.TEXT.1.now lexical.TEXT.2.now lexical.TEXT.3.now lexical.TEXT.4.now
said_of_fault FaultCode.Number = said lexical.NUMBER.0.now lexical.NUMBER.1.now lexical.NUMBER.2.now lexical.NUMBER.3.now lexical.NUMBER.4.now
said_of_fault FaultCode.Deep = said lexical.DEEP.0.now lexical.DEEP.1.now lexical.DEEP.2.now lexical.DEEP.3.now lexical.DEEP.4.now
said_of_fault FaultCode.Syntax = said grammar.SYNTAX.0.now grammar.SYNTAX.1.now grammar.SYNTAX.2.now grammar.SYNTAX.3.now grammar.SYNTAX.4.now
said_of_fault FaultCode.LeftOut = said grammar.LEFT_OUT.0.now grammar.LEFT_OUT.1.now grammar.LEFT_OUT.2.now grammar.LEFT_OUT.3.now grammar.LEFT_OUT.4.now
said_of_fault FaultCode.MissingImport = said meaning.MISSING_IMPORT.0.now meaning.MISSING_IMPORT.1.now meaning.MISSING_IMPORT.2.now meaning.MISSING_IMPORT.3.now meaning.MISSING_IMPORT.4.now
said_of_fault FaultCode.TooManyFiles = said meaning.TOO_MANY_FILES.0.now meaning.TOO_MANY_FILES.1.now meaning.TOO_MANY_FILES.2.now meaning.TOO_MANY_FILES.3.now meaning.TOO_MANY_FILES.4.now
said_of_fault FaultCode.Twice = said meaning.TWICE.0.now meaning.TWICE.1.now meaning.TWICE.2.now meaning.TWICE.3.now meaning.TWICE.4.now
said_of_fault FaultCode.Unknown = said meaning.UNKNOWN.0.now meaning.UNKNOWN.1.now meaning.UNKNOWN.2.now meaning.UNKNOWN.3.now meaning.UNKNOWN.4.now
said_of_fault FaultCode.Cycle = said meaning.CYCLE.0.now meaning.CYCLE.1.now meaning.CYCLE.2.now meaning.CYCLE.3.now meaning.CYCLE.4.now
said_of_fault FaultCode.WrongKind = said meaning.WRONG_KIND.0.now meaning.WRONG_KIND.1.now meaning.WRONG_KIND.2.now meaning.WRONG_KIND.3.now meaning.WRONG_KIND.4.now
said_of_fault FaultCode.Clash = said meaning.CLASH.0.now meaning.CLASH.1.now meaning.CLASH.2.now meaning.CLASH.3.now meaning.CLASH.4.now
said_of_fault FaultCode.UnitClash = said meaning.UNIT_CLASH.0.now meaning.UNIT_CLASH.1.now meaning.UNIT_CLASH.2.now meaning.UNIT_CLASH.3.now meaning.UNIT_CLASH.4.now
said_of_fault FaultCode.NotConstant = said meaning.NOT_CONSTANT.0.now meaning.NOT_CONSTANT.1.now meaning.NOT_CONSTANT.2.now meaning.NOT_CONSTANT.3.now meaning.NOT_CONSTANT.4.now
said_of_fault FaultCode.ZeroDivisor = said meaning.ZERO_DIVISOR.0.now meaning.ZERO_DIVISOR.1.now meaning.ZERO_DIVISOR.2.now meaning.ZERO_DIVISOR.3.now meaning.ZERO_DIVISOR.4.now
said_of_fault FaultCode.BadArgument = said meaning.BAD_ARGUMENT.0.now meaning.BAD_ARGUMENT.1.now meaning.BAD_ARGUMENT.2.now meaning.BAD_ARGUMENT.3.now meaning.BAD_ARGUMENT.4.now
said_of_fault FaultCode.TwoDo = said meaning.TWO_DO.0.now meaning.TWO_DO.1.now meaning.TWO_DO.2.now meaning.TWO_DO.3.now meaning.TWO_DO.4.now
said_of_fault FaultCode.ChoiceLabel = said meaning.CHOICE_LABEL.0.now meaning.CHOICE_LABEL.1.now meaning.CHOICE_LABEL.2.now meaning.CHOICE_LABEL.3.now meaning.CHOICE_LABEL.4.now
said_of_fault FaultCode.Wide = said meaning.WIDE.0.now meaning.WIDE.1.now meaning.WIDE.2.now meaning.WIDE.3.now meaning.WIDE.4.now
said_of_fault FaultCode.TooMany = said meaning.TOO_MANY.0.now meaning.TOO_MANY.1.now meaning.TOO_MANY.2.now meaning.TOO_MANY.3.now meaning.TOO_MANY.4.now
said_of_fault FaultCode.NoScenario = said meaning.NO_SCENARIO.0.now meaning.NO_SCENARIO.1.now meaning.NO_SCENARIO.2.now meaning.NO_SCENARIO.3.now meaning.NO_SCENARIO.4.now
said_of_fault FaultCode.TooLarge = said meaning.TOO_LARGE.0.now meaning.TOO_LARGE.1.now meaning.TOO_LARGE.2.now meaning.TOO_LARGE.3.now meaning.TOO_LARGE.4.now
said_of_fault FaultCode.Ambiguous = said meaning.AMBIGUOUS.0.now meaning.AMBIGUOUS.1.now meaning.AMBIGUOUS.2.now meaning.AMBIGUOUS.3.now meaning.AMBIGUOUS.4.now
said_of_fault FaultCode.Index = said meaning.INDEX.0.now meaning.INDEX.1.now meaning.INDEX.2.now meaning.INDEX.3.now meaning.INDEX.4.now

-- what is said of a status
abbrev pub said_of_status : Status → Said
said_of_status Status.Words = said statuses.WORDS.0.now statuses.WORDS.1.now statuses.WORDS.2.now statuses.WORDS.3.now statuses.WORDS.4.now
said_of_status Status.Text = said statuses.TEXT.0.now statuses.TEXT.1.now statuses.TEXT.2.now statuses.TEXT.3.now statuses.TEXT.4.now
said_of_status Status.Shelf = said statuses.SHELF.0.now statuses.SHELF.1.now statuses.SHELF.2.now statuses.SHELF.3.now statuses.SHELF.4.now
said_of_status Status.Sink = said statuses.SINK.0.now statuses.SINK.1.now statuses.SINK.2.now statuses.SINK.3.now statuses.SINK.4.now
said_of_status Status.Memory = said statuses.MEMORY.0.now statuses.MEMORY.1.now statuses.MEMORY.2.now statuses.MEMORY.3.now statuses.MEMORY.4.now
said_of_status Status.Arguments = said statuses.ARGUMENTS.0.now statuses.ARGUMENTS.1.now statuses.ARGUMENTS.2.now statuses.ARGUMENTS.3.now statuses.ARGUMENTS.4.now
