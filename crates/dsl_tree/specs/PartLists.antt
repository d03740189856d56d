-- Written by tools/grammar_lists.py from the rules of Grammar.antt: change those, and run it again.
--
-- What each part may begin with, and what it may go on with, by the numbers of `Codes.code`. Nothing rests on these
-- lists but that they pass the test `is_predictive`, which proofs/Checked.antt computes for each part.
use Rattle.std.specs.Prelude.{ℕ, List, [], ◌∷◌, Bool, true, false}
use Rattle.dsl_tree.specs.Grammar.{Part}

-- the place of a part in the list of all parts, and what the functions below say of it
pub record Row : Type 0 where
  pub place : ℕ
  pub empty : Bool
  pub first : List ℕ
  pub goes_on : List ℕ
  pub second : List ℕ

abbrev row : ℕ → Bool → List ℕ → List ℕ → List ℕ → Row
row n e f g s = record { place = n; empty = e; first = f; goes_on = g; second = s }

abbrev pub row_of : Part → Row
row_of Part.File = row 0 false (3 ∷ 50 ∷ 51 ∷ 52 ∷ 55 ∷ 56 ∷ 57 ∷ 58 ∷ 59 ∷ 61 ∷ 82 ∷ []) []
    (3 ∷ 5 ∷ 6 ∷ 7 ∷ 8 ∷ 13 ∷ 50 ∷ 51 ∷ 52 ∷ 55 ∷ 56 ∷ 57 ∷ 58 ∷ 59 ∷ 61 ∷ 82 ∷ [])
row_of Part.Imports = row 1 true (50 ∷ []) (50 ∷ []) (5 ∷ 6 ∷ 7 ∷ 8 ∷ 13 ∷ 50 ∷ [])
row_of Part.Import = row 2 false (50 ∷ []) [] (5 ∷ 6 ∷ 7 ∷ 8 ∷ 13 ∷ [])
row_of Part.ImportRest = row 3 false (5 ∷ 6 ∷ 7 ∷ 8 ∷ 13 ∷ []) [] (0 ∷ 26 ∷ [])
row_of Part.DottedNames = row 4 true (26 ∷ []) (26 ∷ []) (5 ∷ 6 ∷ 7 ∷ 8 ∷ [])
row_of Part.Modifiers = row 5 true (82 ∷ []) (82 ∷ []) (5 ∷ 6 ∷ 7 ∷ 8 ∷ 82 ∷ [])
row_of Part.ModifierDeclaration = row 6 false (82 ∷ []) [] (5 ∷ 6 ∷ 7 ∷ 8 ∷ [])
row_of Part.ModifierPart = row 7 false (5 ∷ 6 ∷ 7 ∷ 8 ∷ 63 ∷ 66 ∷ []) [] (20 ∷ 24 ∷ [])
row_of Part.NamedPart = row 8 false (20 ∷ 24 ∷ []) [] (5 ∷ 6 ∷ 7 ∷ 8 ∷ 9 ∷ 10 ∷ 11 ∷ 12 ∷ 13 ∷ 20 ∷ 21 ∷ 22 ∷ 37 ∷ 57 ∷ 74 ∷ 76 ∷ 79 ∷ 80 ∷ 81 ∷ [])
row_of Part.ModifierPartsTail = row 9 true (5 ∷ 6 ∷ 7 ∷ 8 ∷ 63 ∷ 66 ∷ []) (5 ∷ 6 ∷ 7 ∷ 8 ∷ 63 ∷ 66 ∷ []) (5 ∷ 6 ∷ 7 ∷ 8 ∷ 20 ∷ 24 ∷ 63 ∷ 66 ∷ [])
row_of Part.Declarations = row 10 true (51 ∷ 52 ∷ 55 ∷ 56 ∷ 57 ∷ 58 ∷ 59 ∷ 61 ∷ []) (51 ∷ 52 ∷ 55 ∷ 56 ∷ 57 ∷ 58 ∷ 59 ∷ 61 ∷ [])
    (5 ∷ 6 ∷ 7 ∷ 8 ∷ 51 ∷ 52 ∷ 55 ∷ 56 ∷ 57 ∷ 58 ∷ 59 ∷ 61 ∷ [])
row_of Part.Declaration = row 11 false (51 ∷ 52 ∷ 55 ∷ 56 ∷ 57 ∷ 58 ∷ 59 ∷ 61 ∷ []) [] (5 ∷ 6 ∷ 7 ∷ 8 ∷ [])
row_of Part.BasesTail = row 12 true (25 ∷ []) (25 ∷ []) (5 ∷ 8 ∷ [])
row_of Part.UnitTail = row 13 false (21 ∷ 25 ∷ []) [] (0 ∷ 5 ∷ 6 ∷ 7 ∷ 8 ∷ [])
row_of Part.UnitMore = row 14 false (5 ∷ 6 ∷ 7 ∷ 8 ∷ []) [] (21 ∷ 24 ∷ 25 ∷ [])
row_of Part.FactorTail = row 15 false (21 ∷ 25 ∷ []) [] (0 ∷ 7 ∷ [])
row_of Part.Base = row 16 false (5 ∷ 8 ∷ []) [] (24 ∷ [])
row_of Part.OptionalDash = row 17 true (37 ∷ []) (37 ∷ []) []
row_of Part.Signed = row 18 false (9 ∷ 10 ∷ 11 ∷ 37 ∷ []) [] (9 ∷ 10 ∷ 11 ∷ [])
row_of Part.EnumItems = row 19 false (22 ∷ []) [] (5 ∷ 6 ∷ 7 ∷ 8 ∷ [])
row_of Part.EnumItem = row 20 false (5 ∷ 6 ∷ 7 ∷ 8 ∷ []) (28 ∷ []) (28 ∷ [])
row_of Part.ItemNumber = row 21 true (28 ∷ []) (28 ∷ []) (9 ∷ 10 ∷ [])
row_of Part.ItemsTail = row 22 true (25 ∷ []) (25 ∷ 28 ∷ []) (5 ∷ 6 ∷ 7 ∷ 8 ∷ [])
row_of Part.QualifiedName = row 23 false (5 ∷ 6 ∷ 7 ∷ 8 ∷ []) (26 ∷ []) (26 ∷ [])
row_of Part.SecondName = row 24 true (26 ∷ []) (26 ∷ []) (5 ∷ 6 ∷ 7 ∷ 8 ∷ [])
row_of Part.OptionalHeir = row 25 true (60 ∷ []) (20 ∷ 26 ∷ 60 ∷ []) (5 ∷ 6 ∷ 7 ∷ 8 ∷ [])
row_of Part.HeirCondition = row 26 true (20 ∷ []) (20 ∷ []) (5 ∷ 6 ∷ 7 ∷ 8 ∷ [])
row_of Part.ConditionValue = row 27 false (5 ∷ 6 ∷ 7 ∷ 8 ∷ 80 ∷ 81 ∷ []) (40 ∷ []) (40 ∷ [])
row_of Part.EnumMember = row 28 true (40 ∷ []) (40 ∷ []) (5 ∷ 6 ∷ 7 ∷ 8 ∷ [])
row_of Part.Body = row 29 false (0 ∷ 24 ∷ []) [] (0 ∷ [])
row_of Part.Block = row 30 false (0 ∷ []) [] (1 ∷ [])
row_of Part.ExtensionRest = row 31 false (0 ∷ 22 ∷ []) [] (0 ∷ 1 ∷ 5 ∷ 6 ∷ 7 ∷ 8 ∷ [])
row_of Part.MembersTail = row 32 true (5 ∷ 6 ∷ 7 ∷ 8 ∷ 63 ∷ 66 ∷ 67 ∷ []) (5 ∷ 6 ∷ 7 ∷ 8 ∷ 63 ∷ 66 ∷ 67 ∷ [])
    (5 ∷ 6 ∷ 7 ∷ 8 ∷ 20 ∷ 24 ∷ 25 ∷ 57 ∷ 63 ∷ 66 ∷ 67 ∷ 68 ∷ 69 ∷ 70 ∷ 71 ∷ [])
row_of Part.Member = row 33 false (5 ∷ 6 ∷ 7 ∷ 8 ∷ 63 ∷ 66 ∷ 67 ∷ []) [] (5 ∷ 6 ∷ 7 ∷ 8 ∷ 20 ∷ 24 ∷ 25 ∷ 57 ∷ 68 ∷ 69 ∷ 70 ∷ 71 ∷ [])
row_of Part.NamesTail = row 34 true (25 ∷ []) (25 ∷ []) (5 ∷ 6 ∷ 7 ∷ 8 ∷ [])
row_of Part.FieldType = row 35 false (5 ∷ 6 ∷ 7 ∷ 8 ∷ 62 ∷ []) [] (54 ∷ [])
row_of Part.Initial = row 36 true (28 ∷ []) (22 ∷ 26 ∷ 28 ∷ 29 ∷ 30 ∷ 31 ∷ 32 ∷ 33 ∷ 34 ∷ 35 ∷ 36 ∷ 37 ∷ 38 ∷ 39 ∷ 40 ∷ 75 ∷ 77 ∷ 78 ∷ [])
    (5 ∷ 6 ∷ 7 ∷ 8 ∷ 9 ∷ 10 ∷ 11 ∷ 12 ∷ 13 ∷ 20 ∷ 22 ∷ 37 ∷ 57 ∷ 74 ∷ 76 ∷ 79 ∷ 80 ∷ 81 ∷ [])
row_of Part.FieldEnd = row 37 false (0 ∷ 73 ∷ []) [] (24 ∷ [])
row_of Part.RulesTail = row 38 true (63 ∷ 66 ∷ []) (63 ∷ 66 ∷ []) (20 ∷ 63 ∷ 66 ∷ [])
row_of Part.Rule = row 39 false (63 ∷ 66 ∷ []) [] (20 ∷ [])
row_of Part.KeepKind = row 40 true (64 ∷ 65 ∷ []) (64 ∷ 65 ∷ []) []
row_of Part.Path = row 41 false (5 ∷ 6 ∷ 7 ∷ 8 ∷ 57 ∷ 74 ∷ []) (22 ∷ 26 ∷ []) (22 ∷ 26 ∷ [])
row_of Part.SuffixesTail = row 42 true (22 ∷ 26 ∷ []) (22 ∷ 26 ∷ [])
    (5 ∷ 6 ∷ 7 ∷ 8 ∷ 9 ∷ 10 ∷ 11 ∷ 12 ∷ 13 ∷ 20 ∷ 22 ∷ 26 ∷ 37 ∷ 57 ∷ 74 ∷ 76 ∷ 79 ∷ 80 ∷ 81 ∷ [])
row_of Part.Suffix = row 43 false (22 ∷ 26 ∷ []) [] (5 ∷ 6 ∷ 7 ∷ 8 ∷ 9 ∷ 10 ∷ 11 ∷ 12 ∷ 13 ∷ 20 ∷ 22 ∷ 37 ∷ 57 ∷ 74 ∷ 76 ∷ 79 ∷ 80 ∷ 81 ∷ [])
row_of Part.Phase = row 44 false (5 ∷ 6 ∷ 7 ∷ 8 ∷ 57 ∷ 68 ∷ 69 ∷ 70 ∷ 71 ∷ []) [] (20 ∷ 24 ∷ 26 ∷ 72 ∷ [])
row_of Part.PhaseAfterName = row 45 false (20 ∷ 24 ∷ 26 ∷ []) []
    (5 ∷ 6 ∷ 7 ∷ 8 ∷ 9 ∷ 10 ∷ 11 ∷ 12 ∷ 13 ∷ 20 ∷ 21 ∷ 22 ∷ 37 ∷ 57 ∷ 68 ∷ 69 ∷ 70 ∷ 71 ∷ 74 ∷ 76 ∷ 79 ∷ 80 ∷ 81 ∷ [])
row_of Part.LabelledPhase = row 46 false (5 ∷ 6 ∷ 7 ∷ 8 ∷ 57 ∷ 68 ∷ 69 ∷ 70 ∷ 71 ∷ []) [] (20 ∷ 24 ∷ 26 ∷ 72 ∷ [])
row_of Part.Composition = row 47 false (68 ∷ 69 ∷ 70 ∷ []) [] (20 ∷ 24 ∷ [])
row_of Part.CompositionArguments = row 48 true (20 ∷ []) (20 ∷ [])
    (5 ∷ 6 ∷ 7 ∷ 8 ∷ 9 ∷ 10 ∷ 11 ∷ 12 ∷ 13 ∷ 20 ∷ 22 ∷ 37 ∷ 57 ∷ 74 ∷ 76 ∷ 79 ∷ 80 ∷ 81 ∷ [])
row_of Part.PhasesTail = row 49 true (5 ∷ 6 ∷ 7 ∷ 8 ∷ 57 ∷ 68 ∷ 69 ∷ 70 ∷ 71 ∷ []) (5 ∷ 6 ∷ 7 ∷ 8 ∷ 57 ∷ 68 ∷ 69 ∷ 70 ∷ 71 ∷ [])
    (5 ∷ 6 ∷ 7 ∷ 8 ∷ 20 ∷ 24 ∷ 26 ∷ 57 ∷ 68 ∷ 69 ∷ 70 ∷ 71 ∷ 72 ∷ [])
row_of Part.Wait = row 50 false (71 ∷ []) [] (72 ∷ [])
row_of Part.InvocationRest = row 51 false (20 ∷ 26 ∷ []) []
    (5 ∷ 6 ∷ 7 ∷ 8 ∷ 9 ∷ 10 ∷ 11 ∷ 12 ∷ 13 ∷ 20 ∷ 21 ∷ 22 ∷ 37 ∷ 57 ∷ 74 ∷ 76 ∷ 79 ∷ 80 ∷ 81 ∷ [])
row_of Part.InvocationArguments = row 52 false (5 ∷ 6 ∷ 7 ∷ 8 ∷ 9 ∷ 10 ∷ 11 ∷ 12 ∷ 13 ∷ 20 ∷ 21 ∷ 22 ∷ 37 ∷ 57 ∷ 74 ∷ 76 ∷ 79 ∷ 80 ∷ 81 ∷ []) []
    (5 ∷ 6 ∷ 7 ∷ 8 ∷ 9 ∷ 10 ∷ 11 ∷ 12 ∷ 13 ∷ 20 ∷ 21 ∷ 22 ∷ 24 ∷ 25 ∷ 26 ∷ 29 ∷ 30 ∷ 31 ∷ 32 ∷ 33 ∷ 34 ∷ 35 ∷ 36 ∷ 37 ∷ 38 ∷ 39 ∷ 40 ∷ 57 ∷ 74 ∷ 75 ∷ 76 ∷ 77 ∷ 78 ∷ 79 ∷ 80 ∷ 81 ∷ [])
row_of Part.InvocationEnd = row 53 false (0 ∷ 73 ∷ []) [] (24 ∷ [])
row_of Part.InvocationPart = row 54 false (5 ∷ 6 ∷ 7 ∷ 8 ∷ 63 ∷ 66 ∷ []) [] (20 ∷ [])
row_of Part.PartsTail = row 55 true (5 ∷ 6 ∷ 7 ∷ 8 ∷ 63 ∷ 66 ∷ []) (5 ∷ 6 ∷ 7 ∷ 8 ∷ 63 ∷ 66 ∷ []) (5 ∷ 6 ∷ 7 ∷ 8 ∷ 20 ∷ 63 ∷ 66 ∷ [])
row_of Part.Arguments = row 56 false (5 ∷ 6 ∷ 7 ∷ 8 ∷ 9 ∷ 10 ∷ 11 ∷ 12 ∷ 13 ∷ 20 ∷ 22 ∷ 37 ∷ 57 ∷ 74 ∷ 76 ∷ 79 ∷ 80 ∷ 81 ∷ []) []
    (5 ∷ 6 ∷ 7 ∷ 8 ∷ 9 ∷ 10 ∷ 11 ∷ 12 ∷ 13 ∷ 20 ∷ 21 ∷ 22 ∷ 24 ∷ 25 ∷ 26 ∷ 29 ∷ 30 ∷ 31 ∷ 32 ∷ 33 ∷ 34 ∷ 35 ∷ 36 ∷ 37 ∷ 38 ∷ 39 ∷ 40 ∷ 57 ∷ 74 ∷ 75 ∷ 76 ∷ 77 ∷ 78 ∷ 79 ∷ 80 ∷ 81 ∷ [])
row_of Part.ArgumentsTail = row 57 false (21 ∷ 25 ∷ []) [] (5 ∷ 6 ∷ 7 ∷ 8 ∷ 9 ∷ 10 ∷ 11 ∷ 12 ∷ 13 ∷ 20 ∷ 22 ∷ 37 ∷ 57 ∷ 74 ∷ 76 ∷ 79 ∷ 80 ∷ 81 ∷ [])
row_of Part.NamedTail = row 58 false (21 ∷ 25 ∷ []) [] (5 ∷ 6 ∷ 7 ∷ 8 ∷ [])
row_of Part.Expr = row 59 false (5 ∷ 6 ∷ 7 ∷ 8 ∷ 9 ∷ 10 ∷ 11 ∷ 12 ∷ 13 ∷ 20 ∷ 22 ∷ 37 ∷ 57 ∷ 74 ∷ 76 ∷ 79 ∷ 80 ∷ 81 ∷ [])
    (22 ∷ 26 ∷ 29 ∷ 30 ∷ 31 ∷ 32 ∷ 33 ∷ 34 ∷ 35 ∷ 36 ∷ 37 ∷ 38 ∷ 39 ∷ 40 ∷ 75 ∷ 77 ∷ 78 ∷ [])
    (5 ∷ 6 ∷ 7 ∷ 8 ∷ 9 ∷ 10 ∷ 11 ∷ 12 ∷ 13 ∷ 20 ∷ 22 ∷ 26 ∷ 29 ∷ 30 ∷ 31 ∷ 32 ∷ 33 ∷ 34 ∷ 35 ∷ 36 ∷ 37 ∷ 38 ∷ 39 ∷ 40 ∷ 57 ∷ 74 ∷ 75 ∷ 76 ∷ 77 ∷ 78 ∷ 79 ∷ 80 ∷ 81 ∷ [])
row_of Part.ImpliesTail = row 60 true (35 ∷ []) (22 ∷ 26 ∷ 29 ∷ 30 ∷ 31 ∷ 32 ∷ 33 ∷ 34 ∷ 35 ∷ 36 ∷ 37 ∷ 38 ∷ 39 ∷ 40 ∷ 75 ∷ 77 ∷ 78 ∷ [])
    (5 ∷ 6 ∷ 7 ∷ 8 ∷ 9 ∷ 10 ∷ 11 ∷ 12 ∷ 13 ∷ 20 ∷ 22 ∷ 37 ∷ 57 ∷ 74 ∷ 76 ∷ 79 ∷ 80 ∷ 81 ∷ [])
row_of Part.Or = row 61 false (5 ∷ 6 ∷ 7 ∷ 8 ∷ 9 ∷ 10 ∷ 11 ∷ 12 ∷ 13 ∷ 20 ∷ 22 ∷ 37 ∷ 57 ∷ 74 ∷ 76 ∷ 79 ∷ 80 ∷ 81 ∷ [])
    (22 ∷ 26 ∷ 29 ∷ 30 ∷ 31 ∷ 32 ∷ 33 ∷ 34 ∷ 36 ∷ 37 ∷ 38 ∷ 39 ∷ 40 ∷ 75 ∷ 77 ∷ 78 ∷ [])
    (5 ∷ 6 ∷ 7 ∷ 8 ∷ 9 ∷ 10 ∷ 11 ∷ 12 ∷ 13 ∷ 20 ∷ 22 ∷ 26 ∷ 29 ∷ 30 ∷ 31 ∷ 32 ∷ 33 ∷ 34 ∷ 36 ∷ 37 ∷ 38 ∷ 39 ∷ 40 ∷ 57 ∷ 74 ∷ 75 ∷ 76 ∷ 77 ∷ 78 ∷ 79 ∷ 80 ∷ 81 ∷ [])
row_of Part.OrTail = row 62 true (78 ∷ []) (22 ∷ 26 ∷ 29 ∷ 30 ∷ 31 ∷ 32 ∷ 33 ∷ 34 ∷ 36 ∷ 37 ∷ 38 ∷ 39 ∷ 40 ∷ 75 ∷ 77 ∷ 78 ∷ [])
    (5 ∷ 6 ∷ 7 ∷ 8 ∷ 9 ∷ 10 ∷ 11 ∷ 12 ∷ 13 ∷ 20 ∷ 22 ∷ 37 ∷ 57 ∷ 74 ∷ 76 ∷ 79 ∷ 80 ∷ 81 ∷ [])
row_of Part.And = row 63 false (5 ∷ 6 ∷ 7 ∷ 8 ∷ 9 ∷ 10 ∷ 11 ∷ 12 ∷ 13 ∷ 20 ∷ 22 ∷ 37 ∷ 57 ∷ 74 ∷ 76 ∷ 79 ∷ 80 ∷ 81 ∷ [])
    (22 ∷ 26 ∷ 29 ∷ 30 ∷ 31 ∷ 32 ∷ 33 ∷ 34 ∷ 36 ∷ 37 ∷ 38 ∷ 39 ∷ 40 ∷ 75 ∷ 77 ∷ [])
    (5 ∷ 6 ∷ 7 ∷ 8 ∷ 9 ∷ 10 ∷ 11 ∷ 12 ∷ 13 ∷ 20 ∷ 22 ∷ 26 ∷ 29 ∷ 30 ∷ 31 ∷ 32 ∷ 33 ∷ 34 ∷ 36 ∷ 37 ∷ 38 ∷ 39 ∷ 40 ∷ 57 ∷ 74 ∷ 75 ∷ 76 ∷ 77 ∷ 79 ∷ 80 ∷ 81 ∷ [])
row_of Part.AndTail = row 64 true (77 ∷ []) (22 ∷ 26 ∷ 29 ∷ 30 ∷ 31 ∷ 32 ∷ 33 ∷ 34 ∷ 36 ∷ 37 ∷ 38 ∷ 39 ∷ 40 ∷ 75 ∷ 77 ∷ [])
    (5 ∷ 6 ∷ 7 ∷ 8 ∷ 9 ∷ 10 ∷ 11 ∷ 12 ∷ 13 ∷ 20 ∷ 22 ∷ 37 ∷ 57 ∷ 74 ∷ 76 ∷ 79 ∷ 80 ∷ 81 ∷ [])
row_of Part.Not = row 65 false (5 ∷ 6 ∷ 7 ∷ 8 ∷ 9 ∷ 10 ∷ 11 ∷ 12 ∷ 13 ∷ 20 ∷ 22 ∷ 37 ∷ 57 ∷ 74 ∷ 76 ∷ 79 ∷ 80 ∷ 81 ∷ [])
    (22 ∷ 26 ∷ 29 ∷ 30 ∷ 31 ∷ 32 ∷ 33 ∷ 34 ∷ 36 ∷ 37 ∷ 38 ∷ 39 ∷ 40 ∷ 75 ∷ [])
    (5 ∷ 6 ∷ 7 ∷ 8 ∷ 9 ∷ 10 ∷ 11 ∷ 12 ∷ 13 ∷ 20 ∷ 22 ∷ 26 ∷ 29 ∷ 30 ∷ 31 ∷ 32 ∷ 33 ∷ 34 ∷ 36 ∷ 37 ∷ 38 ∷ 39 ∷ 40 ∷ 57 ∷ 74 ∷ 75 ∷ 76 ∷ 79 ∷ 80 ∷ 81 ∷ [])
row_of Part.Relation = row 66 false (5 ∷ 6 ∷ 7 ∷ 8 ∷ 9 ∷ 10 ∷ 11 ∷ 12 ∷ 13 ∷ 20 ∷ 22 ∷ 37 ∷ 57 ∷ 74 ∷ 76 ∷ 80 ∷ 81 ∷ [])
    (22 ∷ 26 ∷ 29 ∷ 30 ∷ 31 ∷ 32 ∷ 33 ∷ 34 ∷ 36 ∷ 37 ∷ 38 ∷ 39 ∷ 40 ∷ 75 ∷ [])
    (5 ∷ 6 ∷ 7 ∷ 8 ∷ 9 ∷ 10 ∷ 11 ∷ 12 ∷ 13 ∷ 20 ∷ 22 ∷ 26 ∷ 29 ∷ 30 ∷ 31 ∷ 32 ∷ 33 ∷ 34 ∷ 36 ∷ 37 ∷ 38 ∷ 39 ∷ 40 ∷ 57 ∷ 74 ∷ 75 ∷ 76 ∷ 79 ∷ 80 ∷ 81 ∷ [])
row_of Part.RelationTail = row 67 true (29 ∷ 30 ∷ 31 ∷ 32 ∷ 33 ∷ 34 ∷ 75 ∷ [])
    (22 ∷ 26 ∷ 29 ∷ 30 ∷ 31 ∷ 32 ∷ 33 ∷ 34 ∷ 36 ∷ 37 ∷ 38 ∷ 39 ∷ 40 ∷ 75 ∷ [])
    (5 ∷ 6 ∷ 7 ∷ 8 ∷ 9 ∷ 10 ∷ 11 ∷ 12 ∷ 13 ∷ 20 ∷ 22 ∷ 37 ∷ 57 ∷ 74 ∷ 76 ∷ 80 ∷ 81 ∷ [])
row_of Part.Sum = row 68 false (5 ∷ 6 ∷ 7 ∷ 8 ∷ 9 ∷ 10 ∷ 11 ∷ 12 ∷ 13 ∷ 20 ∷ 22 ∷ 37 ∷ 57 ∷ 74 ∷ 76 ∷ 80 ∷ 81 ∷ [])
    (22 ∷ 26 ∷ 36 ∷ 37 ∷ 38 ∷ 39 ∷ 40 ∷ [])
    (5 ∷ 6 ∷ 7 ∷ 8 ∷ 9 ∷ 10 ∷ 11 ∷ 12 ∷ 13 ∷ 20 ∷ 22 ∷ 26 ∷ 36 ∷ 37 ∷ 38 ∷ 39 ∷ 40 ∷ 57 ∷ 74 ∷ 76 ∷ 79 ∷ 80 ∷ 81 ∷ [])
row_of Part.SumTail = row 69 true (36 ∷ 37 ∷ []) (22 ∷ 26 ∷ 36 ∷ 37 ∷ 38 ∷ 39 ∷ 40 ∷ [])
    (5 ∷ 6 ∷ 7 ∷ 8 ∷ 9 ∷ 10 ∷ 11 ∷ 12 ∷ 13 ∷ 20 ∷ 22 ∷ 37 ∷ 57 ∷ 74 ∷ 76 ∷ 80 ∷ 81 ∷ [])
row_of Part.Product = row 70 false (5 ∷ 6 ∷ 7 ∷ 8 ∷ 9 ∷ 10 ∷ 11 ∷ 12 ∷ 13 ∷ 20 ∷ 22 ∷ 37 ∷ 57 ∷ 74 ∷ 76 ∷ 80 ∷ 81 ∷ []) (22 ∷ 26 ∷ 38 ∷ 39 ∷ 40 ∷ [])
    (5 ∷ 6 ∷ 7 ∷ 8 ∷ 9 ∷ 10 ∷ 11 ∷ 12 ∷ 13 ∷ 20 ∷ 22 ∷ 26 ∷ 37 ∷ 38 ∷ 39 ∷ 40 ∷ 57 ∷ 74 ∷ 76 ∷ 79 ∷ 80 ∷ 81 ∷ [])
row_of Part.ProductTail = row 71 true (38 ∷ 39 ∷ []) (22 ∷ 26 ∷ 38 ∷ 39 ∷ 40 ∷ [])
    (5 ∷ 6 ∷ 7 ∷ 8 ∷ 9 ∷ 10 ∷ 11 ∷ 12 ∷ 13 ∷ 20 ∷ 22 ∷ 37 ∷ 57 ∷ 74 ∷ 76 ∷ 80 ∷ 81 ∷ [])
row_of Part.Minus = row 72 false (5 ∷ 6 ∷ 7 ∷ 8 ∷ 9 ∷ 10 ∷ 11 ∷ 12 ∷ 13 ∷ 20 ∷ 22 ∷ 37 ∷ 57 ∷ 74 ∷ 76 ∷ 80 ∷ 81 ∷ []) (22 ∷ 26 ∷ 40 ∷ [])
    (5 ∷ 6 ∷ 7 ∷ 8 ∷ 9 ∷ 10 ∷ 11 ∷ 12 ∷ 13 ∷ 20 ∷ 22 ∷ 26 ∷ 37 ∷ 40 ∷ 57 ∷ 74 ∷ 76 ∷ 79 ∷ 80 ∷ 81 ∷ [])
row_of Part.Postfix = row 73 false (5 ∷ 6 ∷ 7 ∷ 8 ∷ 9 ∷ 10 ∷ 11 ∷ 12 ∷ 13 ∷ 20 ∷ 22 ∷ 57 ∷ 74 ∷ 76 ∷ 80 ∷ 81 ∷ []) (22 ∷ 26 ∷ 40 ∷ [])
    (5 ∷ 6 ∷ 7 ∷ 8 ∷ 9 ∷ 10 ∷ 11 ∷ 12 ∷ 13 ∷ 20 ∷ 22 ∷ 26 ∷ 37 ∷ 40 ∷ 57 ∷ 74 ∷ 76 ∷ 79 ∷ 80 ∷ 81 ∷ [])
row_of Part.Primary = row 74 false (5 ∷ 6 ∷ 7 ∷ 8 ∷ 9 ∷ 10 ∷ 11 ∷ 12 ∷ 13 ∷ 20 ∷ 22 ∷ 57 ∷ 74 ∷ 76 ∷ 80 ∷ 81 ∷ []) (40 ∷ [])
    (5 ∷ 6 ∷ 7 ∷ 8 ∷ 9 ∷ 10 ∷ 11 ∷ 12 ∷ 13 ∷ 20 ∷ 22 ∷ 37 ∷ 40 ∷ 57 ∷ 74 ∷ 76 ∷ 79 ∷ 80 ∷ 81 ∷ [])
row_of Part.BracketRest = row 75 false (23 ∷ 25 ∷ 27 ∷ []) []
    (5 ∷ 6 ∷ 7 ∷ 8 ∷ 9 ∷ 10 ∷ 11 ∷ 12 ∷ 13 ∷ 20 ∷ 22 ∷ 23 ∷ 37 ∷ 57 ∷ 74 ∷ 76 ∷ 79 ∷ 80 ∷ 81 ∷ [])
row_of Part.ListedTail = row 76 true (25 ∷ []) (22 ∷ 25 ∷ 26 ∷ 29 ∷ 30 ∷ 31 ∷ 32 ∷ 33 ∷ 34 ∷ 35 ∷ 36 ∷ 37 ∷ 38 ∷ 39 ∷ 40 ∷ 75 ∷ 77 ∷ 78 ∷ [])
    (5 ∷ 6 ∷ 7 ∷ 8 ∷ 9 ∷ 10 ∷ 11 ∷ 12 ∷ 13 ∷ 20 ∷ 22 ∷ 37 ∷ 57 ∷ 74 ∷ 76 ∷ 79 ∷ 80 ∷ 81 ∷ [])

-- the codes of the first token of a part
abbrev pub first : Part → List ℕ
first p = (row_of p).first

-- whether a part may be written as nothing
abbrev pub empty : Part → Bool
empty p = (row_of p).empty

-- the codes with which a longer part goes on at the end of a whole one
abbrev pub goes_on : Part → List ℕ
goes_on p = (row_of p).goes_on

-- the codes of the second token of a part
abbrev pub second : Part → List ℕ
second p = (row_of p).second
