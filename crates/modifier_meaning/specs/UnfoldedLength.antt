-- Applications whose parts are too long or too deep, by the tokens and brackets of the parts with the arguments put in.
use Rattle.std.specs.Prelude.{ℕ, ◌+◌, ◌&&◌, ◌||◌, cond, List, [], ◌∷◌, max, nat_lt, is_some, fold, map, sum_by}
use Rattle.std.specs.List.{list_any}
use Rattle.composition.specs.osc_base.declared.fault.FaultCode.{FaultCode}
use Rattle.composition.specs.osc_base.FaultRows.{FaultRow, row}
use Rattle.composition.specs.dsl_tree.declared.rules.KeepKind.{KeepKind}
use Rattle.composition.specs.dsl_tree.ExprTree.{ExprTree, Implies, Or, And, Not, Relation, Sum, Product, Minus, Dot, Index, Number, Physical, Chars, Truth, It, Actor, Name, EnumName, Group, Span, Listed, RangeCall, Start, ExprRow, End, Item}
use Rattle.composition.specs.dsl_tree.PhaseTree.{RuleTree, ArgumentTree, ModifierTree, PartTree}
use Rattle.composition.specs.dsl_tree.FileTree.{ModifierDeclTree, FileTree}
use Rattle.composition.specs.Tokens.{tokens, arguments_tokens}
use Rattle.composition.specs.SceneFaults.{most_tokens}
use Rattle.modifier_meaning.specs.Application.{declared_modifiers, modifier_applied}
use Rattle.modifier_meaning.specs.Unfolded.{unfolded_part}
use Rattle.modifier_meaning.specs.ModifierFaults.{invoked_applications}

-- the most brackets that may be open at a place
abbrev pub most_brackets : ℕ
most_brackets = 64

-- ---- tokens

-- the word, the brackets and the line's end of a `keep`, and the word after the bracket if there is one
abbrev pub keep_tokens : KeepKind → ℕ
keep_tokens KeepKind.Plain = 4
keep_tokens KeepKind.Hard = 5
keep_tokens KeepKind.Default = 5

-- the tokens of a line in a `with:`
abbrev pub part_tokens : PartTree → ℕ
part_tokens (PartTree.RulePart (RuleTree.Keep place kind e)) = keep_tokens kind + tokens e
part_tokens (PartTree.RulePart (RuleTree.Remove place path)) = 4 + tokens path
part_tokens (PartTree.ModifierPart modifier) = 4 + arguments_tokens modifier.arguments

-- ---- brackets

abbrev mutual
  -- the most brackets that are open at a place in an expression
  pub brackets : ExprTree → ℕ
  brackets (Implies p a b) = max (brackets a) (brackets b)
  brackets (Or p op a b) = max (brackets a) (brackets b)
  brackets (And p op a b) = max (brackets a) (brackets b)
  brackets (Not p a) = brackets a
  brackets (Relation p sign a b) = max (brackets a) (brackets b)
  brackets (Sum p op a b) = max (brackets a) (brackets b)
  brackets (Product p op a b) = max (brackets a) (brackets b)
  brackets (Minus p a) = brackets a
  brackets (Dot head i) = brackets head
  brackets (Index p head index) = max (brackets head) (1 + brackets index)
  brackets (Number d) = 0
  brackets (Physical d unit) = 0
  brackets (Chars p text) = 0
  brackets (Truth p value) = 0
  brackets (It p) = 0
  brackets (Actor p) = 0
  brackets (Name i) = 0
  brackets (EnumName of member) = 0
  brackets (Group p a) = 1 + brackets a
  brackets (Span p a b) = 1 + max (brackets a) (brackets b)
  brackets (Listed p items) = 1 + brackets_among items
  brackets (RangeCall p a b) = 1 + max (brackets a) (brackets b)
  brackets (Start a) = brackets a

  -- the items of a list
  pub brackets_among : ExprRow → ℕ
  brackets_among End = 0
  brackets_among (Item a others) = max (brackets a) (brackets_among others)

-- the most brackets that are open at a place in a line of a `with:`, its own among them
abbrev pub part_brackets : PartTree → ℕ
part_brackets (PartTree.RulePart (RuleTree.Keep place kind e)) = 1 + brackets e
part_brackets (PartTree.RulePart (RuleTree.Remove place path)) = 1 + brackets path
part_brackets (PartTree.ModifierPart modifier) = 1 + fold max 0 (map (λ (a : ArgumentTree). brackets a.value) modifier.arguments)

-- ---- rows

-- the parts that replace an application of a user modifier
abbrev pub parts_of : List ModifierDeclTree → ModifierTree → List PartTree
parts_of mods m = cond (is_some (modifier_applied mods m)) (unfolded_part mods (PartTree.ModifierPart m)) []

-- the applications from one on, given how many tokens the parts of those before it have
abbrev pub lengths_from : FaultCode → List ModifierDeclTree → ℕ → List ModifierTree → List FaultRow
lengths_from code mods before [] = []
lengths_from code mods before (m ∷ others) =
    let parts = parts_of mods m in
    let all = before + sum_by part_tokens parts in
    row m.name.place code (is_some (modifier_applied mods m) && (nat_lt most_tokens all || list_any (λ part. nat_lt most_brackets (part_brackets part)) parts))
    ∷ lengths_from code mods all others

-- An application in an invocation whose parts, with those of the applications before it, have too many tokens, or whose parts have too many open
-- brackets. The code of this fault is given.
abbrev pub length_rows : FaultCode → List FileTree → List FaultRow
length_rows code files = lengths_from code (declared_modifiers files) 0 (invoked_applications files)
