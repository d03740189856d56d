-- The grammar, as a table of parts and their rules.
--
-- Each rule is the row of symbols that a part is written as. If a part has many rules, any one of them
-- writes it. `[]` is the rule that writes nothing. A repetition is a part that ends in
-- itself, or in a part that does. Rules of one part that would begin alike share their beginning. So one token tells
-- which rule goes on; in arguments two tokens do.
--
-- Above the rules of each part stands what the part is in EBNF, word for word as in `docs/LANGUAGE.md`. A part's name is
-- written there in small letters with `_` between its words: `EnumItems` is `enum_items`. `tools/grammar_ebnf.py` checks
-- that the lines are those of that page, and that each of them writes exactly the tokens and parts that the rules write.
use Rattle.std.specs.Prelude.{ℕ, List, [], ◌∷◌, map}
use Rattle.dsl_tree.specs.declared.token.TokenKind.{TokenKind}
use Rattle.dsl_tree.specs.declared.token.MarkKind.{MarkKind}
use Rattle.dsl_tree.specs.declared.token.MarkKind.TheVariants.{OpenRound, CloseRound, OpenSquare, CloseSquare, Colon, Comma, Dot, TwoDots, Assign, Equal, Differ, Below, AtMost, Above, AtLeast, Arrow, Plus, Dash, Star, Slash, Bang}
use Rattle.dsl_tree.specs.declared.token.WordKind.{WordKind}
use Rattle.dsl_tree.specs.declared.token.WordKind.TheVariants.{ImportWord, TypeWord, UnitWord, IsWord, OfWord, EnumWord, StructWord, ActorWord, ActionWord, ScenarioWord, InheritsWord, ExtendWord, ListWord, KeepWord, HardWord, DefaultWord, RemoveDefaultWord, DoWord, SerialWord, ParallelWord, OneOfWord, WaitWord, ElapsedWord, WithWord, ItWord, InWord, RangeWord, AndWord, OrWord, NotWord, TrueWord, FalseWord, ModifierWord}
use Rattle.dsl_tree.specs.Codes.{code, mark_code, word_code, si_name, factor_name, offset_name, other_name, small_number, large_number, point_number, physical_code, text_code}

pub data Part : Type 0 where
  File : Part
  Imports : Part
  Import : Part
  ImportRest : Part
  DottedNames : Part
  Modifiers : Part
  ModifierDeclaration : Part
  ModifierPart : Part
  NamedPart : Part
  ModifierPartsTail : Part
  Declarations : Part
  Declaration : Part
  BasesTail : Part
  UnitTail : Part
  UnitMore : Part
  FactorTail : Part
  Base : Part
  OptionalDash : Part
  Signed : Part
  EnumItems : Part
  EnumItem : Part
  ItemNumber : Part
  ItemsTail : Part
  QualifiedName : Part
  SecondName : Part
  OptionalHeir : Part
  HeirCondition : Part
  ConditionValue : Part
  EnumMember : Part
  Body : Part
  Block : Part
  ExtensionRest : Part
  MembersTail : Part
  Member : Part
  NamesTail : Part
  FieldType : Part
  Initial : Part
  FieldEnd : Part
  RulesTail : Part
  Rule : Part
  KeepKind : Part
  Path : Part
  SuffixesTail : Part
  Suffix : Part
  Phase : Part
  PhaseAfterName : Part
  LabelledPhase : Part
  Composition : Part
  CompositionArguments : Part
  PhasesTail : Part
  Wait : Part
  InvocationRest : Part
  InvocationArguments : Part
  InvocationEnd : Part
  InvocationPart : Part
  PartsTail : Part
  Arguments : Part
  ArgumentsTail : Part
  NamedTail : Part
  Expr : Part
  ImpliesTail : Part
  Or : Part
  OrTail : Part
  And : Part
  AndTail : Part
  Not : Part
  Relation : Part
  RelationTail : Part
  Sum : Part
  SumTail : Part
  Product : Part
  ProductTail : Part
  Minus : Part
  Postfix : Part
  Primary : Part
  BracketRest : Part
  ListedTail : Part

-- a token with one of these codes, whose place the tree holds (`Seen`) or doesn't hold (`Bare`); or a part
pub data Symbol : Type 0 where
  Seen : (codes : List ℕ) → Symbol
  Bare : (codes : List ℕ) → Symbol
  Of : (part : Part) → Symbol

-- a mark or a word
abbrev pub mark : MarkKind → Symbol
mark m = Bare (mark_code m ∷ [])

abbrev pub word : WordKind → Symbol
word w = Bare (word_code w ∷ [])

-- one of some marks or words
abbrev pub any_word : List WordKind → Symbol
any_word ws = Bare (map word_code ws)

-- a mark whose place the tree holds
abbrev pub placed_mark : MarkKind → Symbol
placed_mark m = Seen (mark_code m ∷ [])

abbrev pub placed_word : WordKind → Symbol
placed_word w = Seen (word_code w ∷ [])

abbrev pub placed_marks : List MarkKind → Symbol
placed_marks ms = Seen (map mark_code ms)

abbrev pub placed_words : List WordKind → Symbol
placed_words ws = Seen (map word_code ws)

abbrev pub newline : Symbol
newline = Bare (code TokenKind.Newline ∷ [])

abbrev pub indent : Symbol
indent = Bare (code TokenKind.Indent ∷ [])

abbrev pub dedent : Symbol
dedent = Bare (code TokenKind.Dedent ∷ [])

-- a name, or one of some words
abbrev pub name_or : List WordKind → Symbol
name_or ws = Seen (si_name ∷ factor_name ∷ offset_name ∷ other_name ∷ map word_code ws)

abbrev pub name : Symbol
name = name_or []

-- the names with a meaning of their own in types and units
abbrev pub si : Symbol
si = Bare (si_name ∷ [])

abbrev pub factor : Symbol
factor = Bare (factor_name ∷ [])

abbrev pub offset : Symbol
offset = Bare (offset_name ∷ [])

-- the name of a base, which is neither `factor` nor `offset`
abbrev pub base_name : Symbol
base_name = Seen (si_name ∷ other_name ∷ [])

-- numbers: whole and at most 9, whole, and any
abbrev pub exponent : Symbol
exponent = Seen (small_number ∷ [])

abbrev pub whole : Symbol
whole = Seen (small_number ∷ large_number ∷ [])

abbrev pub number : Symbol
number = Seen (small_number ∷ large_number ∷ point_number ∷ [])

abbrev pub physical : Symbol
physical = Seen (physical_code ∷ [])

abbrev pub text : Symbol
text = Seen (text_code ∷ [])

-- the signs of a relation
abbrev pub relation_sign : Symbol
relation_sign = Seen (word_code InWord ∷ map mark_code (Equal ∷ Differ ∷ Below ∷ AtMost ∷ Above ∷ AtLeast ∷ []))

abbrev pub rules : Part → List (List Symbol)
-- file = {import} {modifier_declaration} {declaration} END
rules File =
    (Of Imports ∷ Of Modifiers ∷ Of Declarations ∷ Seen (code TokenKind.End ∷ []) ∷ [])
    ∷ []
-- imports = {import}
rules Imports =
    []
    ∷ (Of Import ∷ Of Imports ∷ [])
    ∷ []
-- import = 'import' ( S | N {'.' N} ) NL
rules Import =
    (word ImportWord ∷ Of ImportRest ∷ [])
    ∷ []
-- an import after its word
-- import_rest = S NL | N {'.' N} NL
rules ImportRest =
    (text ∷ newline ∷ [])
    ∷ (name ∷ Of DottedNames ∷ newline ∷ [])
    ∷ []
-- further names, each after a point
-- dotted_names = {'.' N}
rules DottedNames =
    []
    ∷ (mark Dot ∷ name ∷ Of DottedNames ∷ [])
    ∷ []
-- modifiers = {modifier_declaration}
rules Modifiers =
    []
    ∷ (Of ModifierDeclaration ∷ Of Modifiers ∷ [])
    ∷ []
-- modifier_declaration = 'modifier' N ':' NL INDENT modifier_part {modifier_part} DEDENT
rules ModifierDeclaration =
    (placed_word ModifierWord ∷ name ∷ mark Colon ∷ newline ∷ indent ∷ Of ModifierPart ∷ Of ModifierPartsTail ∷ dedent ∷ [])
    ∷ []
-- modifier_part = N ':' N NL | rule | N '(' (')' | arguments) NL
rules ModifierPart =
    (name ∷ Of NamedPart ∷ [])
    ∷ (Of Rule ∷ [])
    ∷ []
-- a part of a modifier after its name: the type of a parameter, or the arguments of a modifier that is applied
-- named_part = ':' N NL | '(' (')' | arguments) NL
rules NamedPart =
    (mark Colon ∷ name ∷ newline ∷ [])
    ∷ (mark OpenRound ∷ Of InvocationArguments ∷ newline ∷ [])
    ∷ []
-- modifier_parts_tail = {modifier_part}
rules ModifierPartsTail =
    []
    ∷ (Of ModifierPart ∷ Of ModifierPartsTail ∷ [])
    ∷ []
-- declarations = {declaration}
rules Declarations =
    []
    ∷ (Of Declaration ∷ Of Declarations ∷ [])
    ∷ []
-- declaration
--     = 'type' N 'is' SI '(' base {',' base} ')' NL
--     | 'unit' N 'of' N 'is' SI '(' base {',' base} [',' factor ':' signed] [',' offset ':' signed] ')' NL
--     | 'enum' N ':' enum_items NL
--     | ('struct' | 'actor') N optional_heir body
--     | ('action' | 'scenario') qualified_name optional_heir body
--     | 'extend' qualified_name ':' (enum_items NL | block)
rules Declaration =
    (placed_word TypeWord ∷ name ∷ word IsWord ∷ si ∷ mark OpenRound ∷ Of Base ∷ Of BasesTail ∷ mark CloseRound ∷ newline ∷ [])
    ∷ (placed_word UnitWord ∷ name ∷ word OfWord ∷ name ∷ word IsWord ∷ si ∷ mark OpenRound ∷ Of Base ∷ Of UnitTail ∷ [])
    ∷ (placed_word EnumWord ∷ name ∷ mark Colon ∷ Of EnumItems ∷ newline ∷ [])
    ∷ (placed_words (StructWord ∷ ActorWord ∷ []) ∷ name ∷ Of OptionalHeir ∷ Of Body ∷ [])
    ∷ (placed_words (ActionWord ∷ ScenarioWord ∷ []) ∷ Of QualifiedName ∷ Of OptionalHeir ∷ Of Body ∷ [])
    ∷ (placed_word ExtendWord ∷ Of QualifiedName ∷ mark Colon ∷ Of ExtensionRest ∷ [])
    ∷ []
-- further bases of a type, each after a comma
-- bases_tail = {',' base}
rules BasesTail =
    []
    ∷ (mark Comma ∷ Of Base ∷ Of BasesTail ∷ [])
    ∷ []
-- after a base of a unit: the closing bracket and the line end, or more
-- unit_tail = {',' base} [',' factor ':' signed] [',' offset ':' signed] ')' NL
rules UnitTail =
    (mark CloseRound ∷ newline ∷ [])
    ∷ (mark Comma ∷ Of UnitMore ∷ [])
    ∷ []
-- after a comma in a unit: another base, or the factor, or the offset, to the line end
-- unit_more = base unit_tail | factor ':' signed factor_tail | offset ':' signed ')' NL
rules UnitMore =
    (Of Base ∷ Of UnitTail ∷ [])
    ∷ (factor ∷ mark Colon ∷ Of Signed ∷ Of FactorTail ∷ [])
    ∷ (offset ∷ mark Colon ∷ Of Signed ∷ mark CloseRound ∷ newline ∷ [])
    ∷ []
-- after the factor of a unit: the offset, if there is one, to the line end
-- factor_tail = [',' offset ':' signed] ')' NL
rules FactorTail =
    (mark CloseRound ∷ newline ∷ [])
    ∷ (mark Comma ∷ offset ∷ mark Colon ∷ Of Signed ∷ mark CloseRound ∷ newline ∷ [])
    ∷ []
-- base = B ':' ['-'] E
rules Base =
    (base_name ∷ mark Colon ∷ Of OptionalDash ∷ exponent ∷ [])
    ∷ []
-- optional_dash = ['-']
rules OptionalDash =
    []
    ∷ (placed_mark Dash ∷ [])
    ∷ []
-- signed = ['-'] R
rules Signed =
    (Of OptionalDash ∷ number ∷ [])
    ∷ []
-- the items of an enum in their brackets
-- enum_items = '[' enum_item {',' enum_item} ']'
rules EnumItems =
    (mark OpenSquare ∷ Of EnumItem ∷ Of ItemsTail ∷ mark CloseSquare ∷ [])
    ∷ []
-- enum_item = N ['=' W]
rules EnumItem =
    (name ∷ Of ItemNumber ∷ [])
    ∷ []
-- item_number = ['=' W]
rules ItemNumber =
    []
    ∷ (mark Assign ∷ whole ∷ [])
    ∷ []
-- further items, each after a comma
-- items_tail = {',' enum_item}
rules ItemsTail =
    []
    ∷ (mark Comma ∷ Of EnumItem ∷ Of ItemsTail ∷ [])
    ∷ []
-- qualified_name = N ['.' N]
rules QualifiedName =
    (name ∷ Of SecondName ∷ [])
    ∷ []
-- the name after an owner, if there is one
-- second_name = ['.' N]
rules SecondName =
    []
    ∷ (mark Dot ∷ name ∷ [])
    ∷ []
-- optional_heir = ['inherits' qualified_name ['(' N '==' condition_value ')']]
rules OptionalHeir =
    []
    ∷ (word InheritsWord ∷ Of QualifiedName ∷ Of HeirCondition ∷ [])
    ∷ []
-- heir_condition = ['(' N '==' condition_value ')']
rules HeirCondition =
    []
    ∷ (mark OpenRound ∷ name ∷ mark Equal ∷ Of ConditionValue ∷ mark CloseRound ∷ [])
    ∷ []
-- condition_value = 'true' | 'false' | N ['!' N]
rules ConditionValue =
    (placed_words (TrueWord ∷ FalseWord ∷ []) ∷ [])
    ∷ (name ∷ Of EnumMember ∷ [])
    ∷ []
-- the member after the name of an enum, if there is one
-- enum_member = ['!' N]
rules EnumMember =
    []
    ∷ (mark Bang ∷ name ∷ [])
    ∷ []
-- a line end, or a block after its colon
-- body = NL | ':' block
rules Body =
    (newline ∷ [])
    ∷ (mark Colon ∷ Of Block ∷ [])
    ∷ []
-- a block, after its colon
-- block = NL INDENT member {member} DEDENT
rules Block =
    (newline ∷ indent ∷ Of Member ∷ Of MembersTail ∷ dedent ∷ [])
    ∷ []
-- what `extend` adds, after the colon
-- extension_rest = enum_items NL | block
rules ExtensionRest =
    (Of EnumItems ∷ newline ∷ [])
    ∷ (Of Block ∷ [])
    ∷ []
-- members_tail = {member}
rules MembersTail =
    []
    ∷ (Of Member ∷ Of MembersTail ∷ [])
    ∷ []
-- member = N {',' N} ':' field_type ['=' expr] field_end | rule | 'do' phase
rules Member =
    (name ∷ Of NamesTail ∷ mark Colon ∷ Of FieldType ∷ Of Initial ∷ Of FieldEnd ∷ [])
    ∷ (Of Rule ∷ [])
    ∷ (placed_word DoWord ∷ Of Phase ∷ [])
    ∷ []
-- further names of a field, each after a comma
-- names_tail = {',' N}
rules NamesTail =
    []
    ∷ (mark Comma ∷ name ∷ Of NamesTail ∷ [])
    ∷ []
-- field_type = N | 'list' 'of' N
rules FieldType =
    (name ∷ [])
    ∷ (placed_word ListWord ∷ word OfWord ∷ name ∷ [])
    ∷ []
-- initial = ['=' expr]
rules Initial =
    []
    ∷ (mark Assign ∷ Of Expr ∷ [])
    ∷ []
-- the end of a field: a line end, or `with:` and its rules
-- field_end = NL | 'with' ':' NL INDENT rule {rule} DEDENT
rules FieldEnd =
    (newline ∷ [])
    ∷ (word WithWord ∷ mark Colon ∷ newline ∷ indent ∷ Of Rule ∷ Of RulesTail ∷ dedent ∷ [])
    ∷ []
-- rules_tail = {rule}
rules RulesTail =
    []
    ∷ (Of Rule ∷ Of RulesTail ∷ [])
    ∷ []
-- rule = 'keep' '(' ['hard' | 'default'] expr ')' NL | 'remove_default' '(' path ')' NL
rules Rule =
    (placed_word KeepWord ∷ mark OpenRound ∷ Of KeepKind ∷ Of Expr ∷ mark CloseRound ∷ newline ∷ [])
    ∷ (placed_word RemoveDefaultWord ∷ mark OpenRound ∷ Of Path ∷ mark CloseRound ∷ newline ∷ [])
    ∷ []
-- keep_kind = ['hard' | 'default']
rules KeepKind =
    []
    ∷ (any_word (HardWord ∷ DefaultWord ∷ []) ∷ [])
    ∷ []
-- path = (N | 'it' | 'actor') {suffix}
rules Path =
    (name_or (ItWord ∷ ActorWord ∷ []) ∷ Of SuffixesTail ∷ [])
    ∷ []
-- suffixes_tail = {suffix}
rules SuffixesTail =
    []
    ∷ (Of Suffix ∷ Of SuffixesTail ∷ [])
    ∷ []
-- suffix = '.' N | '[' expr ']'
rules Suffix =
    (mark Dot ∷ name ∷ [])
    ∷ (placed_mark OpenSquare ∷ Of Expr ∷ mark CloseSquare ∷ [])
    ∷ []
-- phase = [N ':'] ( composition | (N | 'actor') invocation_rest | wait )
rules Phase =
    (name ∷ Of PhaseAfterName ∷ [])
    ∷ (Of Composition ∷ [])
    ∷ (placed_word ActorWord ∷ Of InvocationRest ∷ [])
    ∷ (Of Wait ∷ [])
    ∷ []
-- a phase after a name, which is its label or the head of an invocation
-- phase_after_name = ':' labelled_phase | invocation_rest
rules PhaseAfterName =
    (mark Colon ∷ Of LabelledPhase ∷ [])
    ∷ (Of InvocationRest ∷ [])
    ∷ []
-- a phase after its label
-- labelled_phase = composition | (N | 'actor') invocation_rest | wait
rules LabelledPhase =
    (name_or (ActorWord ∷ []) ∷ Of InvocationRest ∷ [])
    ∷ (Of Composition ∷ [])
    ∷ (Of Wait ∷ [])
    ∷ []
-- composition
--     = ('serial' | 'parallel' | 'one_of') ['(' arguments] ':' NL INDENT phase {phase} DEDENT
rules Composition =
    (placed_words (SerialWord ∷ ParallelWord ∷ OneOfWord ∷ []) ∷ Of CompositionArguments ∷ mark Colon ∷ newline ∷ indent
    ∷ Of Phase ∷ Of PhasesTail ∷ dedent ∷ [])
    ∷ []
-- the arguments of a composition in their brackets, if there are any
-- composition_arguments = ['(' arguments]
rules CompositionArguments =
    []
    ∷ (mark OpenRound ∷ Of Arguments ∷ [])
    ∷ []
-- phases_tail = {phase}
rules PhasesTail =
    []
    ∷ (Of Phase ∷ Of PhasesTail ∷ [])
    ∷ []
-- wait = 'wait' 'elapsed' '(' expr ')' NL
rules Wait =
    (placed_word WaitWord ∷ word ElapsedWord ∷ mark OpenRound ∷ Of Expr ∷ mark CloseRound ∷ newline ∷ [])
    ∷ []
-- an invocation after its head
-- invocation_rest = {'.' N} '(' (')' | arguments) invocation_end
rules InvocationRest =
    (Of DottedNames ∷ mark OpenRound ∷ Of InvocationArguments ∷ Of InvocationEnd ∷ [])
    ∷ []
-- the arguments of an invocation or a modifier, if there are any, and the closing bracket
-- invocation_arguments = ')' | arguments
rules InvocationArguments =
    (mark CloseRound ∷ [])
    ∷ (Of Arguments ∷ [])
    ∷ []
-- the end of an invocation: a line end, or `with:` and its parts
-- invocation_end = NL | 'with' ':' NL INDENT invocation_part {invocation_part} DEDENT
rules InvocationEnd =
    (newline ∷ [])
    ∷ (word WithWord ∷ mark Colon ∷ newline ∷ indent ∷ Of InvocationPart ∷ Of PartsTail ∷ dedent ∷ [])
    ∷ []
-- invocation_part = rule | N '(' (')' | arguments) NL
rules InvocationPart =
    (Of Rule ∷ [])
    ∷ (name ∷ mark OpenRound ∷ Of InvocationArguments ∷ newline ∷ [])
    ∷ []
-- parts_tail = {invocation_part}
rules PartsTail =
    []
    ∷ (Of InvocationPart ∷ Of PartsTail ∷ [])
    ∷ []
-- one argument or more and the closing bracket; those with names come last
-- arguments = ( expr {',' expr} {',' N ':' expr} | N ':' expr {',' N ':' expr} ) ')'
rules Arguments =
    (Of Expr ∷ Of ArgumentsTail ∷ [])
    ∷ (name ∷ mark Colon ∷ Of Expr ∷ Of NamedTail ∷ [])
    ∷ []
-- after an argument without a name: the closing bracket, or more arguments
-- arguments_tail = {',' expr} {',' N ':' expr} ')'
rules ArgumentsTail =
    (mark CloseRound ∷ [])
    ∷ (mark Comma ∷ Of Arguments ∷ [])
    ∷ []
-- after an argument with a name: the closing bracket, or more such arguments
-- named_tail = {',' N ':' expr} ')'
rules NamedTail =
    (mark CloseRound ∷ [])
    ∷ (mark Comma ∷ name ∷ mark Colon ∷ Of Expr ∷ Of NamedTail ∷ [])
    ∷ []
-- expr = or ['=>' or]
rules Expr =
    (Of Or ∷ Of ImpliesTail ∷ [])
    ∷ []
-- after the left side of an implication: its right side, if there is one
-- implies_tail = ['=>' or]
rules ImpliesTail =
    []
    ∷ (placed_mark Arrow ∷ Of Or ∷ [])
    ∷ []
-- or = and {'or' and}
rules Or =
    (Of And ∷ Of OrTail ∷ [])
    ∷ []
-- further parts of an `or`
-- or_tail = {'or' and}
rules OrTail =
    []
    ∷ (placed_word OrWord ∷ Of And ∷ Of OrTail ∷ [])
    ∷ []
-- and = not {'and' not}
rules And =
    (Of Not ∷ Of AndTail ∷ [])
    ∷ []
-- further parts of an `and`
-- and_tail = {'and' not}
rules AndTail =
    []
    ∷ (placed_word AndWord ∷ Of Not ∷ Of AndTail ∷ [])
    ∷ []
-- not = ['not'] relation
rules Not =
    (placed_word NotWord ∷ Of Relation ∷ [])
    ∷ (Of Relation ∷ [])
    ∷ []
-- relation = sum [('==' | '!=' | '<' | '<=' | '>' | '>=' | 'in') sum]
rules Relation =
    (Of Sum ∷ Of RelationTail ∷ [])
    ∷ []
-- the sign and the right side of a relation, if there is one
-- relation_tail = [('==' | '!=' | '<' | '<=' | '>' | '>=' | 'in') sum]
rules RelationTail =
    []
    ∷ (relation_sign ∷ Of Sum ∷ [])
    ∷ []
-- sum = product {('+' | '-') product}
rules Sum =
    (Of Product ∷ Of SumTail ∷ [])
    ∷ []
-- further parts of a sum
-- sum_tail = {('+' | '-') product}
rules SumTail =
    []
    ∷ (placed_marks (Plus ∷ Dash ∷ []) ∷ Of Product ∷ Of SumTail ∷ [])
    ∷ []
-- product = minus {('*' | '/') minus}
rules Product =
    (Of Minus ∷ Of ProductTail ∷ [])
    ∷ []
-- further parts of a product
-- product_tail = {('*' | '/') minus}
rules ProductTail =
    []
    ∷ (placed_marks (Star ∷ Slash ∷ []) ∷ Of Minus ∷ Of ProductTail ∷ [])
    ∷ []
-- an operand with a minus before it, or without
-- minus = ['-'] postfix
rules Minus =
    (placed_mark Dash ∷ Of Postfix ∷ [])
    ∷ (Of Postfix ∷ [])
    ∷ []
-- an operand with its suffixes
-- postfix = primary {suffix}
rules Postfix =
    (Of Primary ∷ Of SuffixesTail ∷ [])
    ∷ []
-- an operand
-- primary
--     = R | P | S | 'true' | 'false' | 'it' | 'actor' | N ['!' N] | '(' expr ')'
--     | '[' expr '..' expr ']' | '[' expr {',' expr} ']' | 'range' '(' expr ',' expr ')'
rules Primary =
    (number ∷ [])
    ∷ (physical ∷ [])
    ∷ (text ∷ [])
    ∷ (placed_words (TrueWord ∷ FalseWord ∷ []) ∷ [])
    ∷ (placed_word ItWord ∷ [])
    ∷ (placed_word ActorWord ∷ [])
    ∷ (name ∷ Of EnumMember ∷ [])
    ∷ (placed_mark OpenRound ∷ Of Expr ∷ mark CloseRound ∷ [])
    ∷ (placed_mark OpenSquare ∷ Of Expr ∷ Of BracketRest ∷ [])
    ∷ (placed_word RangeWord ∷ mark OpenRound ∷ Of Expr ∷ mark Comma ∷ Of Expr ∷ mark CloseRound ∷ [])
    ∷ []
-- after the first expression in square brackets: the other end of a range, or further items, and the bracket
-- bracket_rest = '..' expr ']' | {',' expr} ']'
rules BracketRest =
    (mark TwoDots ∷ Of Expr ∷ mark CloseSquare ∷ [])
    ∷ (Of ListedTail ∷ mark CloseSquare ∷ [])
    ∷ []
-- further items of a list, each after a comma
-- listed_tail = {',' expr}
rules ListedTail =
    []
    ∷ (mark Comma ∷ Of Expr ∷ Of ListedTail ∷ [])
    ∷ []
