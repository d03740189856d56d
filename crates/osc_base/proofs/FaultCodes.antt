-- Two codes of one number are one code.
use Rattle.std.proofs.Common.{◌≡◌, ◌∙◌, refl, sym, ap, ℕ, cond, List, [], ◌∷◌, Option, Some, None}
use Rattle.std.specs.Prelude.{nat_eq}
use Rattle.osc_base.specs.declared.fault.FaultCode.{FaultCode}
use Rattle.osc_base.specs.declared.fault.FaultCode.TheVariants.{Utf8, Tab, Indent, Character, Text, Number, Deep, Syntax, LeftOut, MissingImport, TooManyFiles, Twice, Unknown, Cycle, WrongKind, Clash, UnitClash, NotConstant, ZeroDivisor, BadArgument, TwoDo, ChoiceLabel, Wide, TooMany, NoScenario, TooLarge, Ambiguous, Index}
use Rattle.osc_base.specs.FaultCodes.{number_of}

-- every code
abbrev all : List FaultCode
all = Utf8 ∷ Tab ∷ Indent ∷ Character ∷ Text ∷ Number ∷ Deep ∷ Syntax ∷ LeftOut ∷ MissingImport ∷ TooManyFiles
    ∷ Twice ∷ Unknown ∷ Cycle ∷ WrongKind ∷ Clash ∷ UnitClash ∷ NotConstant ∷ ZeroDivisor ∷ BadArgument ∷ TwoDo ∷ ChoiceLabel
    ∷ Wide ∷ TooMany ∷ NoScenario ∷ TooLarge ∷ Ambiguous ∷ Index ∷ []

-- the first code of a list with the number
abbrev numbered : ℕ → List FaultCode → Option FaultCode
numbered n [] = None
numbered n (c ∷ cs) = cond (nat_eq n (number_of c)) (Some c) (numbered n cs)

each : (c : FaultCode) → numbered (number_of c) all ≡ Some c
each Utf8 = refl
each Tab = refl
each Indent = refl
each Character = refl
each Text = refl
each Number = refl
each Deep = refl
each Syntax = refl
each LeftOut = refl
each MissingImport = refl
each TooManyFiles = refl
each Twice = refl
each Unknown = refl
each Cycle = refl
each WrongKind = refl
each Clash = refl
each UnitClash = refl
each NotConstant = refl
each ZeroDivisor = refl
each BadArgument = refl
each TwoDo = refl
each ChoiceLabel = refl
each Wide = refl
each TooMany = refl
each NoScenario = refl
each TooLarge = refl
each Ambiguous = refl
each Index = refl

abbrev or_utf8 : Option FaultCode → FaultCode
or_utf8 None = Utf8
or_utf8 (Some c) = c

pub same_code : (a b : FaultCode) → number_of a ≡ number_of b → a ≡ b
same_code a b e = ap or_utf8 (sym (each a) ∙ ap (λ n. numbered n all) e ∙ each b)
