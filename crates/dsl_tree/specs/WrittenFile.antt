-- What members, declarations and files are written as.
use Rattle.std.specs.Prelude.{ℕ, ◌==◌, List, [], ◌∷◌, Option, Some, None, Bool, cond, ◌&&◌}
use Rattle.osc_base.specs.declared.fault.Place.{Place}
use Rattle.dsl_tree.specs.declared.parts.Ident.{Ident}
use Rattle.dsl_tree.specs.declared.parts.Digits.{Digits}
use Rattle.dsl_tree.specs.declared.parts.Signed.{Signed}
use Rattle.dsl_tree.specs.declared.parts.QName.{QName}
use Rattle.dsl_tree.specs.declared.units.BasePart.{BasePart}
use Rattle.dsl_tree.specs.declared.units.PhysicalDecl.{PhysicalDecl}
use Rattle.dsl_tree.specs.declared.units.UnitDecl.{UnitDecl}
use Rattle.dsl_tree.specs.declared.enums.EnumItem.{EnumItem}
use Rattle.dsl_tree.specs.declared.enums.EnumDecl.{EnumDecl}
use Rattle.dsl_tree.specs.declared.compounds.ConditionValue.{ConditionValue}
use Rattle.dsl_tree.specs.declared.compounds.HeirCondition.{HeirCondition}
use Rattle.dsl_tree.specs.declared.compounds.Heir.{Heir}
use Rattle.dsl_tree.specs.declared.compounds.CompoundKind.{CompoundKind}
use Rattle.dsl_tree.specs.declared.file.Import.{Import}
use Rattle.dsl_tree.specs.declared.token.TokenKind.{TokenKind}
use Rattle.dsl_tree.specs.declared.token.MarkKind.{MarkKind}
use Rattle.dsl_tree.specs.declared.token.WordKind.{WordKind}
use Rattle.dsl_tree.specs.Codes.{si_text, factor_text, offset_text}
use Rattle.dsl_tree.specs.ExprTree.{ExprTree}
use Rattle.dsl_tree.specs.PhaseTree.{RuleTree}
use Rattle.dsl_tree.specs.FileTree.{FieldTree, MemberTree, Field, Rule, Do, CompoundTree, DeclarationTree, TypeDeclaration, UnitDeclaration, EnumDeclaration, CompoundDeclaration, MemberExtension, EnumExtension, ModifierPartTree, Parameter, ModifierRule, Application, ModifierDeclTree, FileTree}
use Rattle.dsl_tree.specs.Forest.{Forest, nil, seen, bare, sub, wrong}
use Rattle.dsl_tree.specs.Written.{mark, word, mark_at, word_at, ident, digits, truth_word, expr}
use Rattle.dsl_tree.specs.WrittenPhases.{newline, opened, block_end, with_block, by_option, dotted_names, rule, rules_tail, invocation_arguments, phase}

-- Imports

abbrev pub import_rest : Import → Forest
import_rest (Import.Named place name) = seen place (TokenKind.Chars name) (newline nil)
import_rest (Import.Dotted []) = wrong
import_rest (Import.Dotted (name ∷ names)) = ident name (sub (dotted_names names) (newline nil))

abbrev pub import_of : Import → Forest
import_of i = word WordKind.ImportWord (sub (import_rest i) nil)

abbrev pub imports : List Import → Forest
imports [] = nil
imports (i ∷ is) = sub (import_of i) (sub (imports is) nil)

-- Types and units

-- a name with this text, whose place the tree doesn't hold
abbrev pub known_name : List ℕ → Forest → Forest
known_name text f = bare (TokenKind.Name text) f

abbrev pub same_place : Place → Place → Bool
same_place p q = (p.file == q.file) && ((p.line == q.line) && ((p.column == q.column) && (p.token == q.token)))

-- a minus and a number, or a number alone, whose place is then the place of both
abbrev pub signed : Signed → Forest
signed s =
    cond s.minus (sub (mark_at s.place MarkKind.Dash nil) (digits s.number nil))
    (cond (same_place s.place s.number.place) (sub nil (digits s.number nil)) wrong)

abbrev pub base : BasePart → Forest
base b = ident b.name (mark MarkKind.Colon (signed b.exponent))

abbrev pub bases_tail : List BasePart → Forest
bases_tail [] = nil
bases_tail (b ∷ bs) = mark MarkKind.Comma (sub (base b) (sub (bases_tail bs) nil))

-- the bracket and the line end after bases
abbrev pub bases_end : Forest
bases_end = mark MarkKind.CloseRound (newline nil)

abbrev pub type_bases : List BasePart → Forest
type_bases [] = wrong
type_bases (b ∷ bs) = sub (base b) (sub (bases_tail bs) bases_end)

abbrev pub type_declaration : PhysicalDecl → Forest
type_declaration d =
    word_at d.place WordKind.TypeWord (ident d.name (word WordKind.IsWord (known_name si_text (mark MarkKind.OpenRound (type_bases d.bases)))))

-- what stands after the word `offset`
abbrev pub offset_rest : Signed → Forest
offset_rest s = mark MarkKind.Colon (sub (signed s) bases_end)

abbrev pub offset_end : Signed → Forest
offset_end s = known_name offset_text (offset_rest s)

abbrev pub factor_tail : Option Signed → Forest
factor_tail None = bases_end
factor_tail (Some offset) = mark MarkKind.Comma (offset_end offset)

-- what stands after the word `factor`
abbrev pub factor_rest : Signed → Option Signed → Forest
factor_rest factor offset = mark MarkKind.Colon (sub (signed factor) (sub (factor_tail offset) nil))

-- what stands after the bases of a unit
abbrev pub unit_end : Option Signed → Option Signed → Forest
unit_end None None = bases_end
unit_end None (Some offset) = mark MarkKind.Comma (sub (offset_end offset) nil)
unit_end (Some factor) offset = mark MarkKind.Comma (sub (known_name factor_text (factor_rest factor offset)) nil)

abbrev pub unit_tail : List BasePart → Forest → Forest
unit_tail [] end = end
unit_tail (b ∷ bs) end = mark MarkKind.Comma (sub (sub (base b) (sub (unit_tail bs end) nil)) nil)

abbrev pub unit_bases : List BasePart → Forest → Forest
unit_bases [] end = wrong
unit_bases (b ∷ bs) end = sub (base b) (sub (unit_tail bs end) nil)

abbrev pub unit_declaration : UnitDecl → Forest
unit_declaration d =
    word_at d.place WordKind.UnitWord (ident d.name (word WordKind.OfWord (ident d.of (word WordKind.IsWord (known_name si_text
    (mark MarkKind.OpenRound (unit_bases d.bases (unit_end d.factor d.offset))))))))

-- Enums

abbrev pub item_number : Option Digits → Forest
item_number None = nil
item_number (Some number) = mark MarkKind.Assign (digits number nil)

abbrev pub enum_item : EnumItem → Forest
enum_item i = ident i.name (sub (item_number i.number) nil)

abbrev pub items_tail : List EnumItem → Forest
items_tail [] = nil
items_tail (i ∷ is) = mark MarkKind.Comma (sub (enum_item i) (sub (items_tail is) nil))

abbrev pub enum_items : List EnumItem → Forest
enum_items [] = wrong
enum_items (i ∷ is) = mark MarkKind.OpenSquare (sub (enum_item i) (sub (items_tail is) (mark MarkKind.CloseSquare nil)))

abbrev pub enum_declaration : EnumDecl → Forest
enum_declaration d = word_at d.place WordKind.EnumWord (ident d.name (mark MarkKind.Colon (sub (enum_items d.items) (newline nil))))

-- Headings

abbrev pub second_name : Option Ident → Forest
second_name None = nil
second_name (Some name) = mark MarkKind.Dot (ident name nil)

abbrev pub qualified_name : QName → Forest
qualified_name q = ident q.first (sub (second_name q.second) nil)

abbrev pub condition_value : ConditionValue → Forest
condition_value (ConditionValue.Truth place value) = word_at place (truth_word value) nil
condition_value (ConditionValue.Name name) = ident name (sub nil nil)
condition_value (ConditionValue.EnumName of name) = ident of (sub (mark MarkKind.Bang (ident name nil)) nil)

abbrev pub heir_condition : Option HeirCondition → Forest
heir_condition None = nil
heir_condition (Some c) = mark MarkKind.OpenRound (ident c.field (mark MarkKind.Equal (sub (condition_value c.value) (mark MarkKind.CloseRound nil))))

abbrev pub optional_heir : Option Heir → Forest
optional_heir None = nil
optional_heir (Some h) = word WordKind.InheritsWord (sub (qualified_name h.base) (sub (heir_condition h.condition) nil))

-- Members

abbrev pub names_tail : List Ident → Forest
names_tail [] = nil
names_tail (name ∷ names) = mark MarkKind.Comma (ident name (sub (names_tail names) nil))

abbrev pub field_type : Option Place → Ident → Forest
field_type None of = ident of nil
field_type (Some place) of = word_at place WordKind.ListWord (word WordKind.OfWord (ident of nil))

abbrev pub initial : Option ExprTree → Forest
initial None = nil
initial (Some value) = mark MarkKind.Assign (sub (expr value) nil)

abbrev pub field_end : List RuleTree → Forest
field_end [] = newline nil
field_end (r ∷ rs) = with_block (sub (rule r) (sub (rules_tail rs) block_end))

-- a field after its first name
abbrev pub field_rest : List Ident → FieldTree → Forest
field_rest names f = sub (names_tail names) (mark MarkKind.Colon (sub (field_type f.list f.of) (sub (initial f.initial) (sub (field_end f.rules) nil))))

abbrev pub field : List Ident → FieldTree → Forest
field [] f = wrong
field (name ∷ names) f = ident name (field_rest names f)

abbrev pub member : MemberTree → Forest
member (Field f) = field f.names f
member (Rule r) = sub (rule r) nil
member (Do place p) = word_at place WordKind.DoWord (sub (phase p) nil)

abbrev pub members_tail : List MemberTree → Forest
members_tail [] = nil
members_tail (m ∷ ms) = sub (member m) (sub (members_tail ms) nil)

-- a block of members, one at least
abbrev pub block : List MemberTree → Forest
block [] = wrong
block (m ∷ ms) = opened (sub (member m) (sub (members_tail ms) block_end))

abbrev pub body : List MemberTree → Forest
body [] = newline nil
body (m ∷ ms) = mark MarkKind.Colon (sub (block (m ∷ ms)) nil)

-- Declarations

abbrev pub heading_rest : CompoundTree → Forest
heading_rest c = sub (optional_heir c.heir) (sub (body c.members) nil)

-- a name without an owner
abbrev pub plain_name : QName → Forest → Forest
plain_name q f = by_option q.second (ident q.first f) (λ second. wrong)

abbrev pub compound_heading : CompoundKind → CompoundTree → Forest
compound_heading CompoundKind.Struct c = word_at c.place WordKind.StructWord (plain_name c.name (heading_rest c))
compound_heading CompoundKind.Actor c = word_at c.place WordKind.ActorWord (plain_name c.name (heading_rest c))
compound_heading CompoundKind.Action c = word_at c.place WordKind.ActionWord (sub (qualified_name c.name) (heading_rest c))
compound_heading CompoundKind.Scenario c = word_at c.place WordKind.ScenarioWord (sub (qualified_name c.name) (heading_rest c))

-- `extend`, a name and what is added
abbrev pub extension : Place → QName → Forest → Forest
extension place name f = word_at place WordKind.ExtendWord (sub (qualified_name name) (mark MarkKind.Colon (sub f nil)))

abbrev pub declaration : DeclarationTree → Forest
declaration (TypeDeclaration d) = type_declaration d
declaration (UnitDeclaration d) = unit_declaration d
declaration (EnumDeclaration d) = enum_declaration d
declaration (CompoundDeclaration c) = compound_heading c.kind c
declaration (MemberExtension e) = extension e.place e.name (sub (block e.members) nil)
declaration (EnumExtension e) = extension e.place e.name (sub (enum_items e.items) (newline nil))

abbrev pub declarations : List DeclarationTree → Forest
declarations [] = nil
declarations (d ∷ ds) = sub (declaration d) (sub (declarations ds) nil)

-- Modifiers and files

abbrev pub modifier_part : ModifierPartTree → Forest
modifier_part (Parameter name of) = ident name (sub (mark MarkKind.Colon (ident of (newline nil))) nil)
modifier_part (ModifierRule r) = sub (rule r) nil
modifier_part (Application m) = ident m.name (sub (mark MarkKind.OpenRound (sub (invocation_arguments m.arguments) (newline nil))) nil)

abbrev pub modifier_parts_tail : List ModifierPartTree → Forest
modifier_parts_tail [] = nil
modifier_parts_tail (p ∷ ps) = sub (modifier_part p) (sub (modifier_parts_tail ps) nil)

-- a block of parts, one at least
abbrev pub modifier_block : List ModifierPartTree → Forest
modifier_block [] = wrong
modifier_block (p ∷ ps) = opened (sub (modifier_part p) (sub (modifier_parts_tail ps) block_end))

abbrev pub modifier_declaration : ModifierDeclTree → Forest
modifier_declaration d = word_at d.place WordKind.ModifierWord (ident d.name (mark MarkKind.Colon (modifier_block d.parts)))

abbrev pub modifiers : List ModifierDeclTree → Forest
modifiers [] = nil
modifiers (d ∷ ds) = sub (modifier_declaration d) (sub (modifiers ds) nil)

abbrev pub file : FileTree → Forest
file f = sub (imports f.imports) (sub (modifiers f.modifiers) (sub (declarations f.decls) (seen f.end TokenKind.End nil)))
