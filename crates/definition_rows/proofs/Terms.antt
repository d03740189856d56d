-- Shorthands for the trees of small programs of one file, and what is judged of them.
use Rattle.std.specs.Prelude.{ℕ, Bool, List, [], ◌∷◌, Option, Some, None}
use Rattle.osc_base.specs.declared.fault.Place.{Place}
use Rattle.osc_base.specs.declared.fault.Fault.{Fault}
use Rattle.osc_base.specs.declared.fault.FaultCode.{FaultCode}
use Rattle.dsl_tree.specs.declared.parts.Ident.{Ident}
use Rattle.dsl_tree.specs.declared.parts.QName.{QName}
use Rattle.dsl_tree.specs.declared.parts.Digits.{Digits}
use Rattle.dsl_tree.specs.declared.parts.Signed.{Signed}
use Rattle.dsl_tree.specs.declared.enums.EnumItem.{EnumItem}
use Rattle.dsl_tree.specs.declared.compounds.CompoundKind.{CompoundKind}
use Rattle.dsl_tree.specs.declared.compounds.ConditionValue.{ConditionValue}
use Rattle.dsl_tree.specs.declared.compounds.Heir.{Heir}
use Rattle.dsl_tree.specs.ExprTree.{ExprTree}
use Rattle.dsl_tree.specs.PhaseTree.{RuleTree, ArgumentTree}
use Rattle.dsl_tree.specs.FileTree.{MemberTree, DeclarationTree}
use Rattle.type_heads.specs.Types.{Program}
use Rattle.type_heads.specs.DeclaredTypes.{types_of}
use Rattle.field_flatten.specs.composition.StaticFaults.{declaration_fault}

-- the line, the column and the number of a token
abbrev pub p : ℕ → ℕ → ℕ → Place
p line column token = record { file = 0; line = line; column = column; token = token }

abbrev pub name : ℕ → ℕ → ℕ → List ℕ → Ident
name line column token text = record { place = p line column token; text = text }

-- a whole number, a decimal with digits after the point, and a whole number with a sign
abbrev pub digits : ℕ → ℕ → ℕ → ℕ → Digits
digits line column token n = record { place = p line column token; digits = n; places = 0 }

abbrev pub digits_at : Place → ℕ → ℕ → Digits
digits_at place n places = record { place = place; digits = n; places = places }

abbrev pub signed : ℕ → ℕ → ℕ → Bool → ℕ → Signed
signed line column token minus n = record { place = p line column token; minus = minus; number = digits line column token n }

abbrev pub alone : Ident → QName
alone i = record { first = i; second = None }

abbrev pub owned : Ident → Ident → QName
owned i j = record { first = i; second = Some j }

abbrev pub inherits : QName → Heir
inherits base = record { base = base; condition = None }

-- `inherits BASE(FIELD == VALUE)`
abbrev pub inherits_if : QName → Ident → ConditionValue → Heir
inherits_if base field value = record { base = base; condition = Some (record { field = field; value = value }) }

-- `NAMES: TYPE = INITIAL` with rules, and the same of a list
abbrev pub field : List Ident → Ident → Option ExprTree → List RuleTree → MemberTree
field names of initial rules = MemberTree.Field (record { names = names; list = None; of = of; initial = initial; rules = rules })

abbrev pub list_field : List Ident → Place → Ident → Option ExprTree → List RuleTree → MemberTree
list_field names list of initial rules = MemberTree.Field (record { names = names; list = Some list; of = of; initial = initial; rules = rules })

abbrev pub compound : Place → CompoundKind → QName → Option Heir → List MemberTree → DeclarationTree
compound place kind name heir members = DeclarationTree.CompoundDeclaration (record { place = place; kind = kind; name = name; heir = heir; members = members })

abbrev pub item : Ident → Option Digits → EnumItem
item name number = record { name = name; number = number }

abbrev pub enum : Place → Ident → List EnumItem → DeclarationTree
enum place name items = DeclarationTree.EnumDeclaration (record { place = place; name = name; items = items })

abbrev pub argument : Option Ident → ExprTree → ArgumentTree
argument name value = record { name = name; value = value }

-- a fault: its line and column, the number of its token, and its code
abbrev pub fault : ℕ → ℕ → ℕ → FaultCode → Fault
fault line column token code = record { place = p line column token; code = code }

-- the program of one file with these declarations
abbrev pub program : List DeclarationTree → Program
program declarations = record { files = record { imports = []; modifiers = []; decls = declarations; end = p 99 1 999 } ∷ []; library = None }

-- its first fault of headings, members and uses
abbrev pub judged : List DeclarationTree → Option Fault
judged declarations = declaration_fault (program declarations) (types_of (program declarations))
