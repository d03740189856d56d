-- What blocks and arguments are written as, of which there is one item at least, and the steps of parts that end with
-- a block; and types with members.
use Rattle.std.proofs.Common.{◌≡◌, ◌<◌, List, [], ◌∷◌, length, map, refl, arith, true, false, sym, Option, None}
use Rattle.dsl_cursor.specs.Words.{MarkKind, WordKind, nil, sub, mark, in_block, Place, Ident, Forest, ident, Token, Part, in_part, read}
use Rattle.dsl_headings.specs.Words.{CompoundKind, is_plain, kind_word}
use Rattle.dsl_expressions.specs.Words.{Argument, argument_tree, word_at}
use Rattle.dsl_parser.specs.Words.{RuleDecl, Member, InvokePart, ModifierPart, rule_tree, member_tree, modifier_part_tree, part_tree, word, CompoundDecl, Heir, QName, compound_tree, body, compound_heading, optional_heir, qualified_name}
use Rattle.dsl_tree.specs.WrittenPhases as phases
use Rattle.dsl_tree.specs.WrittenFile as file
use Rattle.std.proofs.lemmas.Bool.{false≢true}
use Rattle.dsl_cursor.proofs.ReadSteps.{read_step}

pub step_field_end : (ts : List Token) → read Part.FieldEnd ts ≡ in_part read Part.FieldEnd ts
step_field_end ts = read_step Part.FieldEnd ts

pub step_invocation_end : (ts : List Token) → read Part.InvocationEnd ts ≡ in_part read Part.InvocationEnd ts
step_invocation_end ts = read_step Part.InvocationEnd ts

pub step_body : (ts : List Token) → read Part.Body ts ≡ in_part read Part.Body ts
step_body ts = read_step Part.Body ts

pub step_modifier : (ts : List Token) → read Part.ModifierDeclaration ts ≡ in_part read Part.ModifierDeclaration ts
step_modifier ts = read_step Part.ModifierDeclaration ts

pub rules_block : (rs : List RuleDecl) → 0 < length rs → file.field_end (map rule_tree rs) ≡ word WordKind.WithWord (mark MarkKind.Colon (in_block (λ r. phases.rule (rule_tree r)) (λ xs. phases.rules_tail (map rule_tree xs)) rs))
rules_block [] some = absurd (omega (arith, some))
rules_block (r ∷ rs) some = refl

pub parts_block : (ps : List InvokePart) → 0 < length ps → phases.invocation_end (map part_tree ps) ≡ word WordKind.WithWord (mark MarkKind.Colon (in_block (λ p. phases.invocation_part (part_tree p)) (λ xs. phases.parts_tail (map part_tree xs)) ps))
parts_block [] some = absurd (omega (arith, some))
parts_block (p ∷ ps) some = refl

pub modifier_lines : (ps : List ModifierPart)
    → file.modifier_block (map modifier_part_tree ps) ≡ in_block (λ p. file.modifier_part (modifier_part_tree p)) (λ xs. file.modifier_parts_tail (map modifier_part_tree xs)) ps
modifier_lines [] = refl
modifier_lines (p ∷ ps) = refl

pub members_block : (ms : List Member) → file.block (map member_tree ms) ≡ in_block (λ m. file.member (member_tree m)) (λ xs. file.members_tail (map member_tree xs)) ms
members_block [] = refl
members_block (m ∷ ms) = refl

pub members_body : (ms : List Member) → 0 < length ms → file.body (map member_tree ms) ≡ mark MarkKind.Colon (sub (file.block (map member_tree ms)) nil)
members_body [] some = absurd (omega (arith, some))
members_body (m ∷ ms) some = refl

pub of_invocation : (xs : List Argument) → 0 < length xs → phases.invocation_arguments (map argument_tree xs) ≡ sub (phases.arguments (map argument_tree xs)) nil
of_invocation [] some = absurd (omega (arith, some))
of_invocation (x ∷ xs) some = refl

pub of_composition : (xs : List Argument) → 0 < length xs → phases.composition_arguments (map argument_tree xs) ≡ mark MarkKind.OpenRound (sub (phases.arguments (map argument_tree xs)) nil)
of_composition [] some = absurd (omega (arith, some))
of_composition (x ∷ xs) some = refl

pub ruleset some_arguments = (of_invocation, of_composition)

abbrev pub rest_of : Option Heir → List Member → Forest
rest_of heir members = sub (optional_heir heir) (sub (body (map member_tree members)) nil)

abbrev pub compound : Place → CompoundKind → QName → Option Heir → List Member → CompoundDecl
compound place kind name heir members = record { place = place; kind = kind; name = name; heir = heir; members = members }

abbrev pub alone : Ident → QName
alone first = record { first = first; second = None }

pub plain_forest : (place : Place) (kind : CompoundKind) (first : Ident) (heir : Option Heir) (members : List Member) → is_plain kind ≡ true
    → compound_heading kind (compound_tree (compound place kind (alone first) heir members)) ≡ word_at place (kind_word kind) (ident first (rest_of heir members))
plain_forest place CompoundKind.Struct first heir members h = refl
plain_forest place CompoundKind.Actor first heir members h = refl
plain_forest place CompoundKind.Action first heir members h = absurd (false≢true h)
plain_forest place CompoundKind.Scenario first heir members h = absurd (false≢true h)

pub owned_forest : (place : Place) (kind : CompoundKind) (name : QName) (heir : Option Heir) (members : List Member) → is_plain kind ≡ false
    → compound_heading kind (compound_tree (compound place kind name heir members)) ≡ word_at place (kind_word kind) (sub (qualified_name name) (rest_of heir members))
owned_forest place CompoundKind.Struct name heir members h = absurd (false≢true (sym h))
owned_forest place CompoundKind.Actor name heir members h = absurd (false≢true (sym h))
owned_forest place CompoundKind.Action name heir members h = refl
owned_forest place CompoundKind.Scenario name heir members h = refl
