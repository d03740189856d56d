-- Worked trees, with the tokens that they are spelled by.
use Rattle.std.specs.Prelude.{ℕ, ◌+◌, List, [], ◌∷◌, None, Some, true, false, codes}
use Rattle.osc_base.specs.declared.fault.Place.{Place}
use Rattle.dsl_tree.specs.declared.parts.Ident.{Ident}
use Rattle.dsl_tree.specs.declared.parts.Signed.{Signed}
use Rattle.dsl_tree.specs.declared.units.BasePart.{BasePart}
use Rattle.dsl_tree.specs.declared.phases.CompKind.{CompKind}
use Rattle.dsl_tree.specs.declared.phases.InvokeHead.{InvokeHead}
use Rattle.dsl_tree.specs.declared.token.Token.{Token}
use Rattle.dsl_tree.specs.declared.token.TokenKind.{TokenKind}
use Rattle.dsl_tree.specs.declared.token.ExcludedWord.{ExcludedWord}
use Rattle.dsl_tree.specs.declared.token.MarkKind.{MarkKind}
use Rattle.dsl_tree.specs.declared.token.WordKind.{WordKind}
use Rattle.dsl_tree.specs.declared.expr.Operator.{Operator}
use Rattle.dsl_tree.specs.declared.expr.RelationSign.{RelationSign}
use Rattle.dsl_tree.specs.declared.rules.KeepKind.{KeepKind}
use Rattle.dsl_tree.specs.declared.compounds.CompoundKind.{CompoundKind}
use Rattle.dsl_tree.specs.ExprTree.{ExprTree}
use Rattle.dsl_tree.specs.PhaseTree.{RuleTree, PartTree, PhaseTree, PhaseRow}
use Rattle.dsl_tree.specs.FileTree.{MemberTree, DeclarationTree, ModifierPartTree, FileTree}

-- some place with this number of tokens before it
abbrev pub at : ℕ → Place
at n = record { file = 0; line = 1; column = n + 1; token = n }

-- tokens of these kinds, one after another
abbrev pub tokens_from : ℕ → List TokenKind → List Token
tokens_from n [] = []
tokens_from n (kind ∷ kinds) = record { place = at n; kind = kind } ∷ tokens_from (n + 1) kinds

abbrev pub named : List ℕ → TokenKind
named text = TokenKind.Name text

abbrev pub whole : ℕ → TokenKind
whole n = TokenKind.Number n 0

abbrev pub ident_at : ℕ → List ℕ → Ident
ident_at n text = record { place = at n; text = text }

abbrev pub number_at : ℕ → ℕ → ExprTree
number_at n digits = ExprTree.Number (record { place = at n; digits = digits; places = 0 })

-- scenario top:
--     x: int
--     keep(x in [1..2])
abbrev pub scenario_front : List TokenKind
scenario_front =
    TokenKind.Word WordKind.ScenarioWord ∷ named (codes "top") ∷ TokenKind.Mark MarkKind.Colon ∷ TokenKind.Newline ∷ TokenKind.Indent
    ∷ named (codes "x") ∷ TokenKind.Mark MarkKind.Colon ∷ named (codes "int") ∷ TokenKind.Newline
    ∷ TokenKind.Word WordKind.KeepWord ∷ TokenKind.Mark MarkKind.OpenRound ∷ named (codes "x") ∷ TokenKind.Word WordKind.InWord
    ∷ TokenKind.Mark MarkKind.OpenSquare ∷ whole 1 ∷ TokenKind.Mark MarkKind.TwoDots ∷ whole 2 ∷ []

abbrev pub scenario_back : List TokenKind
scenario_back =
    TokenKind.Mark MarkKind.CloseSquare ∷ TokenKind.Mark MarkKind.CloseRound ∷ TokenKind.Newline ∷ TokenKind.Dedent ∷ TokenKind.End ∷ []

abbrev pub scenario_tree : FileTree
scenario_tree = record {
  imports = [];
  modifiers = [];
  decls = DeclarationTree.CompoundDeclaration (record {
    place = at 0;
    kind = CompoundKind.Scenario;
    name = record { first = ident_at 1 (codes "top"); second = None };
    heir = None;
    members =
        MemberTree.Field (record { names = ident_at 5 (codes "x") ∷ []; list = None; of = ident_at 7 (codes "int"); initial = None; rules = [] })
        ∷ MemberTree.Rule (RuleTree.Keep (at 9) KeepKind.Plain
        (ExprTree.Relation (at 12) RelationSign.Within (ExprTree.Name (ident_at 11 (codes "x"))) (ExprTree.Span (at 13) (number_at 14 1) (number_at 16 2))))
        ∷ [];
  }) ∷ [];
  end = at 21;
}

-- not a == 1 + 2 * -b.c[0] => true
abbrev pub levels_tokens : List TokenKind
levels_tokens =
    TokenKind.Word WordKind.NotWord ∷ named (codes "a") ∷ TokenKind.Mark MarkKind.Equal ∷ whole 1 ∷ TokenKind.Mark MarkKind.Plus ∷ whole 2
    ∷ TokenKind.Mark MarkKind.Star ∷ TokenKind.Mark MarkKind.Dash ∷ named (codes "b") ∷ TokenKind.Mark MarkKind.Dot ∷ named (codes "c")
    ∷ TokenKind.Mark MarkKind.OpenSquare ∷ whole 0 ∷ TokenKind.Mark MarkKind.CloseSquare ∷ TokenKind.Mark MarkKind.Arrow
    ∷ TokenKind.Word WordKind.TrueWord ∷ []

abbrev pub levels_tree : ExprTree
levels_tree =
    ExprTree.Implies (at 14)
    (ExprTree.Not (at 0) (ExprTree.Relation (at 2) RelationSign.Equal (ExprTree.Name (ident_at 1 (codes "a")))
    (ExprTree.Sum (at 4) Operator.Plus (ExprTree.Start (number_at 3 1))
    (ExprTree.Product (at 6) Operator.Star (ExprTree.Start (number_at 5 2))
    (ExprTree.Minus (at 7) (ExprTree.Index (at 11) (ExprTree.Dot (ExprTree.Start (ExprTree.Name (ident_at 8 (codes "b")))) (ident_at 10 (codes "c"))) (number_at 12 0)))))))
    (ExprTree.Truth (at 15) true)

-- 1 + 2 - 3
abbrev pub sum_tokens : List TokenKind
sum_tokens = whole 1 ∷ TokenKind.Mark MarkKind.Plus ∷ whole 2 ∷ TokenKind.Mark MarkKind.Dash ∷ whole 3 ∷ []

abbrev pub sum_tree : ExprTree
sum_tree = ExprTree.Sum (at 3) Operator.Dash (ExprTree.Sum (at 1) Operator.Plus (ExprTree.Start (number_at 0 1)) (number_at 2 2)) (number_at 4 3)

-- type t is SI(m: 1, s: -2)
-- unit u of t is SI(m: 1, factor: 0.1, offset: -3)
abbrev pub units_tokens : List TokenKind
units_tokens =
    TokenKind.Word WordKind.TypeWord ∷ named (codes "t") ∷ TokenKind.Word WordKind.IsWord ∷ named (codes "SI") ∷ TokenKind.Mark MarkKind.OpenRound
    ∷ named (codes "m") ∷ TokenKind.Mark MarkKind.Colon ∷ whole 1 ∷ TokenKind.Mark MarkKind.Comma
    ∷ named (codes "s") ∷ TokenKind.Mark MarkKind.Colon ∷ TokenKind.Mark MarkKind.Dash ∷ whole 2 ∷ TokenKind.Mark MarkKind.CloseRound ∷ TokenKind.Newline
    ∷ TokenKind.Word WordKind.UnitWord ∷ named (codes "u") ∷ TokenKind.Word WordKind.OfWord ∷ named (codes "t") ∷ TokenKind.Word WordKind.IsWord
    ∷ named (codes "SI") ∷ TokenKind.Mark MarkKind.OpenRound ∷ named (codes "m") ∷ TokenKind.Mark MarkKind.Colon ∷ whole 1 ∷ TokenKind.Mark MarkKind.Comma
    ∷ named (codes "factor") ∷ TokenKind.Mark MarkKind.Colon ∷ TokenKind.Number 1 1 ∷ TokenKind.Mark MarkKind.Comma
    ∷ named (codes "offset") ∷ TokenKind.Mark MarkKind.Colon ∷ TokenKind.Mark MarkKind.Dash ∷ whole 3 ∷ TokenKind.Mark MarkKind.CloseRound ∷ TokenKind.Newline
    ∷ TokenKind.End ∷ []

abbrev pub positive_at : ℕ → ℕ → ℕ → Signed
positive_at n digits places = record { place = at n; minus = false; number = record { place = at n; digits = digits; places = places } }

abbrev pub negative_at : ℕ → ℕ → Signed
negative_at n digits = record { place = at n; minus = true; number = record { place = at (n + 1); digits = digits; places = 0 } }

abbrev pub base_at : ℕ → List ℕ → Signed → BasePart
base_at n text exponent = record { name = ident_at n text; exponent = exponent }

abbrev pub units_tree : FileTree
units_tree = record {
  imports = [];
  modifiers = [];
  decls =
      DeclarationTree.TypeDeclaration (record {
        place = at 0;
        name = ident_at 1 (codes "t");
        bases = base_at 5 (codes "m") (positive_at 7 1 0) ∷ base_at 9 (codes "s") (negative_at 11 2) ∷ [];
      })
      ∷ DeclarationTree.UnitDeclaration (record {
        place = at 15;
        name = ident_at 16 (codes "u");
        of = ident_at 18 (codes "t");
        bases = base_at 22 (codes "m") (positive_at 24 1 0) ∷ [];
        factor = Some (positive_at 28 1 1);
        offset = Some (negative_at 32 3);
      })
      ∷ [];
  end = at 36;
}

-- modifier m:
--     n: speed
--     keep(n == 1)
--     lane()
abbrev pub modifier_tokens : List TokenKind
modifier_tokens =
    TokenKind.Word WordKind.ModifierWord ∷ named (codes "m") ∷ TokenKind.Mark MarkKind.Colon ∷ TokenKind.Newline ∷ TokenKind.Indent
    ∷ named (codes "n") ∷ TokenKind.Mark MarkKind.Colon ∷ named (codes "speed") ∷ TokenKind.Newline
    ∷ TokenKind.Word WordKind.KeepWord ∷ TokenKind.Mark MarkKind.OpenRound ∷ named (codes "n") ∷ TokenKind.Mark MarkKind.Equal ∷ whole 1
    ∷ TokenKind.Mark MarkKind.CloseRound ∷ TokenKind.Newline
    ∷ named (codes "lane") ∷ TokenKind.Mark MarkKind.OpenRound ∷ TokenKind.Mark MarkKind.CloseRound ∷ TokenKind.Newline
    ∷ TokenKind.Dedent ∷ TokenKind.End ∷ []

abbrev pub modifier_file : FileTree
modifier_file = record {
  imports = [];
  modifiers = record {
    place = at 0;
    name = ident_at 1 (codes "m");
    parts =
        ModifierPartTree.Parameter (ident_at 5 (codes "n")) (ident_at 7 (codes "speed"))
        ∷ ModifierPartTree.ModifierRule (RuleTree.Keep (at 9) KeepKind.Plain
        (ExprTree.Relation (at 12) RelationSign.Equal (ExprTree.Name (ident_at 11 (codes "n"))) (number_at 13 1)))
        ∷ ModifierPartTree.Application (record { name = ident_at 16 (codes "lane"); arguments = [] })
        ∷ [];
  } ∷ [];
  decls = [];
  end = at 21;
}

-- a: one_of(1, n: 2):
--     b.c() with:
--         m(3)
abbrev pub phase_tokens : List TokenKind
phase_tokens =
    named (codes "a") ∷ TokenKind.Mark MarkKind.Colon ∷ TokenKind.Word WordKind.OneOfWord ∷ TokenKind.Mark MarkKind.OpenRound ∷ whole 1
    ∷ TokenKind.Mark MarkKind.Comma ∷ named (codes "n") ∷ TokenKind.Mark MarkKind.Colon ∷ whole 2 ∷ TokenKind.Mark MarkKind.CloseRound
    ∷ TokenKind.Mark MarkKind.Colon ∷ TokenKind.Newline ∷ TokenKind.Indent
    ∷ named (codes "b") ∷ TokenKind.Mark MarkKind.Dot ∷ named (codes "c") ∷ TokenKind.Mark MarkKind.OpenRound ∷ TokenKind.Mark MarkKind.CloseRound
    ∷ TokenKind.Word WordKind.WithWord ∷ TokenKind.Mark MarkKind.Colon ∷ TokenKind.Newline ∷ TokenKind.Indent
    ∷ named (codes "m") ∷ TokenKind.Mark MarkKind.OpenRound ∷ whole 3 ∷ TokenKind.Mark MarkKind.CloseRound ∷ TokenKind.Newline
    ∷ TokenKind.Dedent ∷ TokenKind.Dedent ∷ []

abbrev pub phase_tree : PhaseTree
phase_tree =
    PhaseTree.Comp (Some (ident_at 0 (codes "a"))) (at 2) CompKind.OneOf
    (record { name = None; value = number_at 4 1 } ∷ record { name = Some (ident_at 6 (codes "n")); value = number_at 8 2 } ∷ [])
    (PhaseRow.Phase
    (PhaseTree.Invoke None (InvokeHead.Name (ident_at 13 (codes "b"))) (ident_at 15 (codes "c") ∷ []) []
    (PartTree.ModifierPart (record { name = ident_at 22 (codes "m"); arguments = record { name = None; value = number_at 24 3 } ∷ [] }) ∷ []))
    PhaseRow.End)

-- Trees that break the grammar. They are a sum with nothing after its first part, and a sum as a part of a
-- product. They are also an exponent of 10, and a number without a minus that stands at two places.
abbrev pub empty_sum : ExprTree
empty_sum = ExprTree.Start (number_at 0 1)

abbrev pub sum_in_product : ExprTree
sum_in_product = ExprTree.Product (at 3) Operator.Star (ExprTree.Start (ExprTree.Sum (at 1) Operator.Plus (ExprTree.Start (number_at 0 1)) (number_at 2 2))) (number_at 4 3)

abbrev pub large_exponent : BasePart
large_exponent = base_at 0 (codes "m") (positive_at 2 10 0)

abbrev pub two_places : Signed
two_places = record { place = at 0; minus = false; number = record { place = at 1; digits = 1; places = 0 } }

-- Lists of tokens that spell no tree: a left-out word at the beginning, a scenario without a name, and
-- an expression that ends after its sign
abbrev pub left_out_tokens : List TokenKind
left_out_tokens = TokenKind.LeftOut ExcludedWord.CoverWord ∷ TokenKind.End ∷ []

abbrev pub nameless_tokens : List TokenKind
nameless_tokens = TokenKind.Word WordKind.ScenarioWord ∷ TokenKind.Mark MarkKind.Colon ∷ TokenKind.End ∷ []

-- scenario top:
--     keep(x ==
abbrev pub broken_tokens : List TokenKind
broken_tokens =
    TokenKind.Word WordKind.ScenarioWord ∷ named (codes "top") ∷ TokenKind.Mark MarkKind.Colon ∷ TokenKind.Newline ∷ TokenKind.Indent
    ∷ TokenKind.Word WordKind.KeepWord ∷ TokenKind.Mark MarkKind.OpenRound ∷ named (codes "x") ∷ TokenKind.Mark MarkKind.Equal ∷ TokenKind.Newline
    ∷ TokenKind.Dedent ∷ TokenKind.End ∷ []
