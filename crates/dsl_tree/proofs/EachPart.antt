-- Written by tools/grammar_lists.py from the parts of Grammar.antt: change those, and run it again.
--
-- The list of all parts: a test that holds on it holds of each.
use Rattle.std.proofs.Common.{◌≡◌, ℕ, zero, suc, List, [], ◌∷◌, Bool, true, subst, arith}
use Rattle.std.specs.List.{list_all}
use Rattle.dsl_tree.specs.Grammar.{Part}
use Rattle.dsl_tree.specs.PartLists.{row_of}
use Rattle.dsl_tree.proofs.Tests.{left_of, right_of}

-- the part at a place
abbrev part_at : List Part → ℕ → Part
part_at [] n = Part.File
part_at (p ∷ parts) zero = p
part_at (p ∷ parts) (suc n) = part_at parts n

passes : (test : Part → Bool) (parts : List Part) (n : ℕ) → test Part.File ≡ true → list_all test parts ≡ true → test (part_at parts n) ≡ true
passes test [] n f h = f
passes test (p ∷ parts) zero f h = left_of (test p) (list_all test parts) h
passes test (p ∷ parts) (suc n) f h = passes test parts n f (right_of (test p) (list_all test parts) h)

abbrev pub parts : List Part
parts =
    Part.File ∷ Part.Imports ∷ Part.Import ∷ Part.ImportRest ∷ Part.DottedNames ∷ Part.Modifiers ∷ Part.ModifierDeclaration ∷ Part.ModifierPart
    ∷ Part.NamedPart ∷ Part.ModifierPartsTail ∷ Part.Declarations ∷ Part.Declaration ∷ Part.BasesTail ∷ Part.UnitTail ∷ Part.UnitMore
    ∷ Part.FactorTail ∷ Part.Base ∷ Part.OptionalDash ∷ Part.Signed ∷ Part.EnumItems ∷ Part.EnumItem ∷ Part.ItemNumber ∷ Part.ItemsTail
    ∷ Part.QualifiedName ∷ Part.SecondName ∷ Part.OptionalHeir ∷ Part.HeirCondition ∷ Part.ConditionValue ∷ Part.EnumMember ∷ Part.Body ∷ Part.Block
    ∷ Part.ExtensionRest ∷ Part.MembersTail ∷ Part.Member ∷ Part.NamesTail ∷ Part.FieldType ∷ Part.Initial ∷ Part.FieldEnd ∷ Part.RulesTail
    ∷ Part.Rule ∷ Part.KeepKind ∷ Part.Path ∷ Part.SuffixesTail ∷ Part.Suffix ∷ Part.Phase ∷ Part.PhaseAfterName ∷ Part.LabelledPhase
    ∷ Part.Composition ∷ Part.CompositionArguments ∷ Part.PhasesTail ∷ Part.Wait ∷ Part.InvocationRest ∷ Part.InvocationArguments ∷ Part.InvocationEnd
    ∷ Part.InvocationPart ∷ Part.PartsTail ∷ Part.Arguments ∷ Part.ArgumentsTail ∷ Part.NamedTail ∷ Part.Expr ∷ Part.ImpliesTail ∷ Part.Or
    ∷ Part.OrTail ∷ Part.And ∷ Part.AndTail ∷ Part.Not ∷ Part.Relation ∷ Part.RelationTail ∷ Part.Sum ∷ Part.SumTail ∷ Part.Product ∷ Part.ProductTail
    ∷ Part.Minus ∷ Part.Postfix ∷ Part.Primary ∷ Part.BracketRest ∷ Part.ListedTail ∷ []

-- each part stands at its own place
at_place : (p : Part) → part_at parts (row_of p).place ≡ p
at_place p = grind arith

pub each_part : (test : Part → Bool) → list_all test parts ≡ true → (p : Part) → test p ≡ true
each_part test h p = subst (λ (q : Part). test q ≡ true) (at_place p) (passes test parts (row_of p).place (left_of (test Part.File) _ h) h)
