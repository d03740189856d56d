-- The numbers of the codes.
use Rattle.std.specs.Prelude.{ℕ}
use Rattle.osc_base.specs.declared.fault.FaultCode.{FaultCode}

-- the number by which a code is printed
abbrev pub number_of : FaultCode → ℕ
number_of FaultCode.Utf8 = 101
number_of FaultCode.Tab = 102
number_of FaultCode.Indent = 103
number_of FaultCode.Character = 104
number_of FaultCode.Text = 105
number_of FaultCode.Number = 106
number_of FaultCode.Deep = 107
number_of FaultCode.Syntax = 201
number_of FaultCode.LeftOut = 202
number_of FaultCode.MissingImport = 301
number_of FaultCode.TooManyFiles = 302
number_of FaultCode.Twice = 311
number_of FaultCode.Unknown = 312
number_of FaultCode.Cycle = 313
number_of FaultCode.WrongKind = 314
number_of FaultCode.Clash = 315
number_of FaultCode.UnitClash = 316
number_of FaultCode.NotConstant = 317
number_of FaultCode.ZeroDivisor = 318
number_of FaultCode.BadArgument = 319
number_of FaultCode.TwoDo = 320
number_of FaultCode.ChoiceLabel = 321
number_of FaultCode.Wide = 322
number_of FaultCode.TooMany = 323
number_of FaultCode.NoScenario = 324
number_of FaultCode.TooLarge = 325
number_of FaultCode.Ambiguous = 326
number_of FaultCode.Index = 327
