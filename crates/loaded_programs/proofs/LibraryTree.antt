-- The tree of the library.
use Rattle.std.proofs.Common.{◌≡◌, ℕ, ◌+◌, true, false, List, [], ◌∷◌, Option, Some, None, refl, subst, arith}
use Rattle.std.proofs.lemmas.Bool.Decides.{nat_tests}
use Rattle.std.specs.Prelude.{codes, ◌==◌, slice_index_or}
use Rattle.osc_base.specs.declared.fault.Place.{Place}
use Rattle.name_scope.specs.dsl_tree.declared.parts.Ident.{Ident}
use Rattle.name_scope.specs.dsl_tree.declared.parts.Digits.{Digits}
use Rattle.name_scope.specs.dsl_tree.declared.parts.Signed.{Signed}
use Rattle.name_scope.specs.dsl_tree.declared.units.BasePart.{BasePart}
use Rattle.name_scope.specs.dsl_tree.declared.rules.KeepKind.{KeepKind}
use Rattle.name_scope.specs.dsl_tree.declared.compounds.CompoundKind.{CompoundKind}
use Rattle.name_scope.specs.dsl_tree.declared.expr.RelationSign.{RelationSign}
use Rattle.name_scope.specs.dsl_tree.declared.token.Token.{Token}
use Rattle.name_scope.specs.dsl_tree.declared.token.TokenKind.{TokenKind}
use Rattle.name_scope.specs.dsl_tree.ExprTree.{ExprTree}
use Rattle.name_scope.specs.dsl_tree.PhaseTree.{RuleTree}
use Rattle.name_scope.specs.dsl_tree.FileTree.{MemberTree, DeclarationTree, FileTree}
use Rattle.name_scope.specs.dsl_tree.Grammar.{Part, rules}
use Rattle.name_scope.specs.dsl_tree.Forest.{Spells}
use Rattle.name_scope.specs.dsl_tree.Language.{Spelled}
use Rattle.name_scope.specs.dsl_tree.WrittenFile.{file}
use Rattle.name_scope.proofs.of_dsl_tree.Tests.{any_rule, follows, is_whole, tokens_of, Is-follows, Spells-tokens_of}
use Rattle.name_scope.proofs.of_dsl_tree.OneTrees.{spelled_once}
use Rattle.dsl_lexer.specs.SourceTokens.{TokensCut}
use Rattle.dsl_lexer.proofs.LawProofs.{one_list}
use Rattle.name_scope.specs.Library.{library_source}
use Rattle.program_load.specs.SourceReading.{IsRead}
use Rattle.loaded_programs.proofs.LibraryTokens.{at, library_tokens, library_cut}

abbrev place : ℕ → ℕ → ℕ → ℕ → Place
place n line column number = record { file = n; line = line; column = column; token = number }

abbrev ident : ℕ → ℕ → ℕ → ℕ → List ℕ → Ident
ident n line column number text = record { place = place n line column number; text = text }

abbrev digits : ℕ → ℕ → ℕ → ℕ → ℕ → ℕ → Digits
digits n line column number value places = record { place = place n line column number; digits = value; places = places }

-- a number without a sign, and a negative one
abbrev plain : Digits → Signed
plain d = record { place = d.place; minus = false; number = d }

-- `m: 1` and `s: -1`
abbrev once : ℕ → ℕ → ℕ → ℕ → List ℕ → BasePart
once n line column number name = record { name = ident n line column number name; exponent = plain (digits n line (column + 3) (number + 2) 1 0) }

abbrev per : ℕ → ℕ → ℕ → ℕ → List ℕ → ℕ → BasePart
per n line column number name power = record {
  name = ident n line column number name;
  exponent = record { place = place n line (column + 3) (number + 2); minus = true; number = digits n line (column + 4) (number + 3) power 0 };
}

abbrev type_at : ℕ → ℕ → ℕ → List ℕ → List BasePart → DeclarationTree
type_at n line number name bases = DeclarationTree.TypeDeclaration (record { place = place n line 1 number; name = ident n line 6 (number + 1) name; bases = bases })

abbrev unit_at : ℕ → ℕ → ℕ → List ℕ → ℕ → List ℕ → List BasePart → Option Signed → DeclarationTree
unit_at n line number name column of bases factor = DeclarationTree.UnitDeclaration (record {
  place = place n line 1 number;
  name = ident n line 6 (number + 1) name;
  of = ident n line column (number + 3) of;
  bases = bases;
  factor = factor;
  offset = None;
})

abbrev amount : ℕ → ℕ → ℕ → ℕ → ℕ → List ℕ → ExprTree
amount n line column number value unit = ExprTree.Physical (digits n line column number value 0) unit

-- a limit of vehicles: its field, with the rule on the next line
abbrev limit_at : ℕ → ℕ → ℕ → List ℕ → ℕ → List ℕ → ExprTree → ExprTree → ExprTree → MemberTree
limit_at n line number name column of initial low high = MemberTree.Field (record {
  names = ident n line 5 number name ∷ [];
  list = None;
  of = ident n line column (number + 2) of;
  initial = Some initial;
  rules = RuleTree.Keep (place n (line + 1) 9 (number + 9)) KeepKind.Plain
      (ExprTree.Relation (place n (line + 1) 17 (number + 12)) RelationSign.Within (ExprTree.It (place n (line + 1) 14 (number + 11))) (ExprTree.Span (place n (line + 1) 20 (number + 13)) low high)) ∷ [];
})

abbrev pub limits : ℕ → List MemberTree
limits n =
    limit_at n 14 182 (codes "max_speed") 16 (codes "speed") (amount n 14 24 186 50 (codes "mps")) (amount n 15 21 196 0 (codes "mps")) (amount n 15 27 198 100 (codes "mps"))
    ∷ limit_at n 16 203 (codes "max_acceleration") 23 (codes "acceleration") (amount n 16 38 207 10 (codes "mpsps")) (amount n 17 21 217 0 (codes "mpsps")) (amount n 17 29 219 20 (codes "mpsps"))
    ∷ []

abbrev pub library_declarations : ℕ → List DeclarationTree
library_declarations n =
    type_at n 1 0 (codes "length") (once n 1 19 5 (codes "m") ∷ [])
    ∷ type_at n 2 10 (codes "time") (once n 2 17 15 (codes "s") ∷ [])
    ∷ type_at n 3 20 (codes "speed") (once n 3 18 25 (codes "m") ∷ per n 3 24 29 (codes "s") 1 ∷ [])
    ∷ type_at n 4 35 (codes "acceleration") (once n 4 25 40 (codes "m") ∷ per n 4 31 44 (codes "s") 2 ∷ [])
    ∷ unit_at n 5 50 (codes "m") 11 (codes "length") (once n 5 24 57 (codes "m") ∷ []) None
    ∷ unit_at n 6 62 (codes "km") 12 (codes "length") (once n 6 25 69 (codes "m") ∷ []) (Some (plain (digits n 6 39 75 1000 0)))
    ∷ unit_at n 7 78 (codes "s") 11 (codes "time") (once n 7 22 85 (codes "s") ∷ []) None
    ∷ unit_at n 8 90 (codes "ms") 12 (codes "time") (once n 8 23 97 (codes "s") ∷ []) (Some (plain (digits n 8 37 103 1 3)))
    ∷ unit_at n 9 106 (codes "min") 13 (codes "time") (once n 9 24 113 (codes "s") ∷ []) (Some (plain (digits n 9 38 119 60 0)))
    ∷ unit_at n 10 122 (codes "mps") 13 (codes "speed") (once n 10 25 129 (codes "m") ∷ per n 10 31 133 (codes "s") 1 ∷ []) None
    ∷ unit_at n 11 139 (codes "kph") 13 (codes "speed") (once n 11 25 146 (codes "m") ∷ per n 11 31 150 (codes "s") 1 ∷ []) (Some (plain (digits n 11 46 157 277777778 9)))
    ∷ unit_at n 12 160 (codes "mpsps") 15 (codes "acceleration") (once n 12 34 167 (codes "m") ∷ per n 12 40 171 (codes "s") 2 ∷ []) None
    ∷ DeclarationTree.CompoundDeclaration (record {
      place = place n 13 1 177;
      kind = CompoundKind.Actor;
      name = record { first = ident n 13 7 178 (codes "vehicle"); second = None };
      heir = None;
      members = limits n;
    })
    ∷ DeclarationTree.CompoundDeclaration (record {
      place = place n 18 1 225;
      kind = CompoundKind.Action;
      name = record { first = ident n 18 8 226 (codes "vehicle"); second = Some (ident n 18 16 228 (codes "drive")) };
      heir = None;
      members = [];
    })
    ∷ []

abbrev pub library_tree : ℕ → FileTree
library_tree n = record { imports = []; modifiers = []; decls = library_declarations n; end = place n 19 1 230 }

-- the place of a token of the library
abbrev place_of : ℕ → ℕ → Place
place_of n i = (slice_index_or (library_tokens n) i (at n 1 1 0 TokenKind.End)).place

same_number : (n : ℕ) → (n == n) ≡ true
same_number n = grind (arith, nat_tests)

tree_follows : (n : ℕ) → any_rule (rules Part.File) (follows (file (library_tree n))) ≡ true
tree_follows n = rw (same_number n) refl

tree_whole : (n : ℕ) → is_whole (file (library_tree n)) ≡ true
tree_whole n = rw (same_number n) refl

tree_tokens : (n : ℕ) → tokens_of (place_of n) (file (library_tree n)) 0 [] ≡ library_tokens n
tree_tokens n = rw (same_number n) refl

pub library_spelled : (n : ℕ) → Spelled (library_tree n) (library_tokens n)
library_spelled n = record {
  follows = Is-follows Part.File (file (library_tree n)) (tree_follows n);
  spells = subst (λ ts. Spells (file (library_tree n)) ts []) (tree_tokens n) (Spells-tokens_of (place_of n) (file (library_tree n)) 0 [] (tree_whole n));
}

-- a file that is read from the library's source has the library's tree
pub library_read : (n : ℕ) (source : List ℕ) (tokens : List Token) (tree : FileTree) → source ≡ library_source → IsRead n source tokens tree → tree ≡ library_tree n
library_read n source tokens tree same read =
    let one : tokens ≡ library_tokens n = one_list n library_source tokens (library_tokens n) (subst (λ s. TokensCut n s tokens) same read.cut) (library_cut n) in
    spelled_once tree (library_tree n) (library_tokens n) (subst (Spelled tree) one read.spelled) (library_spelled n)
