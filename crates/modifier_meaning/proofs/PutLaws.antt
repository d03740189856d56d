-- An expression that is read in an environment, and the same with the arguments put in.
use Rattle.std.proofs.Common.{◌≡◌, refl, sym, ap, ap₂, ◌∙◌, ℕ, ◌+◌, List, [], ◌∷◌, Bool, true, false, cond, Option, Some, None, map, true≢false}
use Rattle.std.specs.Prelude.{find, bytes_eq, option_map, option_and_then}
use Rattle.std.specs.Option.{option_map_or}
use Rattle.composition.specs.dsl_tree.declared.parts.Ident.{Ident}
use Rattle.composition.specs.dsl_tree.ExprTree.{ExprTree, Implies, Or, And, Not, Relation, Sum, Product, Minus, Dot, Index, Number, Physical, Chars, Truth, It, Actor, Name, EnumName, Group, Span, Listed, RangeCall, Start, ExprRow, End, Item}
use Rattle.composition.specs.type_heads.Table.{Table}
use Rattle.composition.specs.expr_nodes.Typed.{Typed, begun_at, place_of}
use Rattle.composition.specs.expr_nodes.Scope.{Scope}
use Rattle.composition.specs.expr_nodes.Names.{name_typed, dot_typed}
use Rattle.composition.specs.expr_nodes.Operators as Operators
use Rattle.composition.specs.expr_nodes.Operators.{not_typed, and_typed, or_typed, implies_typed, minus_typed, sum_typed, factor_typed, relation_typed, span_typed, item_typed, list_typed, index_typed, index_of, group_typed}
use Rattle.composition.specs.expr_nodes.Typing.{typed, typed_row, first, is_path}
use Rattle.composition.specs.ModifierLines.{NamedValue}
use Rattle.composition.specs.Tokens.{tokens, item_tokens}
use Rattle.modifier_meaning.specs.Put.{operand, argument_of, is_front, with_front, joined, put_front, put, put_row}
use Rattle.modifier_meaning.specs.Environment.{Argument, stands_for, typed_in, typed_row_in, first_in, is_path_in, tokens_in, item_tokens_in}
use Rattle.modifier_meaning.specs.ModifierLaws.{argument_read, TypedInIsPut, FormsInArePut}

-- What is asked of an expression, if it looks through `Start`: it is the same of a path's front once an argument stands there.
module _ {X : Type 0} (ask : ExprTree → X) (through : (e : ExprTree) → ask (Start e) ≡ ask e) where
  of_front : (e : ExprTree) → ask (with_front e) ≡ ask e
  of_front (Implies p a b) = through (Implies p a b)
  of_front (Or p op a b) = through (Or p op a b)
  of_front (And p op a b) = through (And p op a b)
  of_front (Not p a) = through (Not p a)
  of_front (Relation p sign a b) = through (Relation p sign a b)
  of_front (Sum p op a b) = through (Sum p op a b)
  of_front (Product p op a b) = through (Product p op a b)
  of_front (Minus p a) = through (Minus p a)
  of_front (Dot head i) = refl
  of_front (Index p head index) = refl
  of_front (Number d) = through (Number d)
  of_front (Physical d unit) = through (Physical d unit)
  of_front (Chars p text) = through (Chars p text)
  of_front (Truth p value) = through (Truth p value)
  of_front (It p) = through (It p)
  of_front (Actor p) = through (Actor p)
  of_front (Name i) = through (Name i)
  of_front (EnumName of member) = through (EnumName of member)
  of_front (Group p a) = through (Group p a)
  of_front (Span p a b) = through (Span p a b)
  of_front (Listed p items) = through (Listed p items)
  of_front (RangeCall p a b) = through (RangeCall p a b)
  of_front (Start a) = through (Start a)

  of_joined : (e : ExprTree) → ask (joined e) ≡ ask e
  of_joined (Implies p a b) = refl
  of_joined (Or p op a b) = refl
  of_joined (And p op a b) = refl
  of_joined (Not p a) = refl
  of_joined (Relation p sign a b) = refl
  of_joined (Sum p op a b) = refl
  of_joined (Product p op a b) = refl
  of_joined (Minus p a) = refl
  of_joined (Dot head i) = refl
  of_joined (Index p head index) = refl
  of_joined (Number d) = refl
  of_joined (Physical d unit) = refl
  of_joined (Chars p text) = refl
  of_joined (Truth p value) = refl
  of_joined (It p) = refl
  of_joined (Actor p) = refl
  of_joined (Name i) = refl
  of_joined (EnumName of member) = refl
  of_joined (Group p a) = refl
  of_joined (Span p a b) = refl
  of_joined (Listed p items) = refl
  of_joined (RangeCall p a b) = refl
  of_joined (Start a) = of_front a ∙ sym (through a)

  pub of_put_front : (b : Bool) (e : ExprTree) → ask (put_front b e) ≡ ask e
  of_put_front true e = of_joined e
  of_put_front false e = refl

-- what is looked up in a list of what arguments come to
module _ (table : Table) (sc : Scope) {X : Type 0} (of : Argument → X) (other : X) (i : Ident) where
  found_here : (b : Bool) (a : NamedValue) (env : Option Argument) (args : Option NamedValue) →
      option_map_or of env other ≡ option_map_or (λ v. of (argument_read table sc v)) args other →
      option_map_or of (cond b (Some (argument_read table sc a)) env) other ≡ option_map_or (λ v. of (argument_read table sc v)) (cond b (Some a) args) other
  found_here true a env args h = refl
  found_here false a env args h = h

  pub found : (args : List NamedValue) →
      stands_for (map (argument_read table sc) args) of other i ≡ option_map_or (λ v. of (argument_read table sc v)) (argument_of args i.text) other
  found [] = refl
  found (a ∷ args) =
      found_here (bytes_eq a.name i.text) a (find (λ (v : Argument). bytes_eq v.name i.text) (map (argument_read table sc) args)) (argument_of args i.text) (found args)

-- what is asked of an argument that is put in for a name
module _ {X : Type 0} (ask : ExprTree → X) (of : NamedValue → X) (i : Ident) (same : (v : NamedValue) → of v ≡ ask (operand v.value)) where
  pub of_put_name : (o : Option NamedValue) → option_map_or of o (ask (Name i)) ≡ ask (option_map_or (λ (v : NamedValue). operand v.value) o (Name i))
  of_put_name None = refl
  of_put_name (Some v) = same v

typed_operand : (table : Table) (sc : Scope) (b : Bool) (e : ExprTree) → cond b (typed table sc e) (group_typed (first e) (typed table sc e)) ≡ typed table sc (cond b e (Group (first e) e))
typed_operand table sc true e = refl
typed_operand table sc false e = refl

first_operand : (b : Bool) (e : ExprTree) → first e ≡ first (cond b e (Group (first e) e))
first_operand true e = refl
first_operand false e = refl

path_operand : (e : ExprTree) (b : Bool) → is_path e ≡ b → is_path e ≡ is_path (cond b e (Group (first e) e))
path_operand e true h = refl
path_operand e false h = h

tokens_operand : (b : Bool) (e : ExprTree) → cond b (tokens e) (2 + tokens e) ≡ tokens (cond b e (Group (first e) e))
tokens_operand true e = refl
tokens_operand false e = refl

-- what is no number literal
abbrev no_index : Option ℕ
no_index = None

-- a path never stands for an index that is a number
index_front : (e : ExprTree) (b : Bool) → is_path e ≡ b → no_index ≡ index_of (cond b e (Group (first e) e))
index_front (Number d) true h = absurd (true≢false (sym h))
index_front (Number d) false h = refl
index_front (Implies p x y) true h = refl
index_front (Implies p x y) false h = refl
index_front (Or p op x y) true h = refl
index_front (Or p op x y) false h = refl
index_front (And p op x y) true h = refl
index_front (And p op x y) false h = refl
index_front (Not p x) true h = refl
index_front (Not p x) false h = refl
index_front (Relation p sign x y) true h = refl
index_front (Relation p sign x y) false h = refl
index_front (Sum p op x y) true h = refl
index_front (Sum p op x y) false h = refl
index_front (Product p op x y) true h = refl
index_front (Product p op x y) false h = refl
index_front (Minus p x) true h = refl
index_front (Minus p x) false h = refl
index_front (Dot head j) true h = refl
index_front (Dot head j) false h = refl
index_front (Index p head index) true h = refl
index_front (Index p head index) false h = refl
index_front (Physical d unit) true h = refl
index_front (Physical d unit) false h = refl
index_front (Chars p text) true h = refl
index_front (Chars p text) false h = refl
index_front (Truth p value) true h = refl
index_front (Truth p value) false h = refl
index_front (It p) true h = refl
index_front (It p) false h = refl
index_front (Actor p) true h = refl
index_front (Actor p) false h = refl
index_front (Name j) true h = refl
index_front (Name j) false h = refl
index_front (EnumName of member) true h = refl
index_front (EnumName of member) false h = refl
index_front (Group p x) true h = refl
index_front (Group p x) false h = refl
index_front (Span p x y) true h = refl
index_front (Span p x y) false h = refl
index_front (Listed p items) true h = refl
index_front (Listed p items) false h = refl
index_front (RangeCall p x y) true h = refl
index_front (RangeCall p x y) false h = refl
index_front (Start x) true h = refl
index_front (Start x) false h = refl

index_named : (o : Option NamedValue) (i : Ident) → no_index ≡ index_of (option_map_or (λ (v : NamedValue). operand v.value) o (Name i))
index_named None i = refl
index_named (Some v) i = index_front v.value (is_path v.value) refl

-- an index is a number literal exactly if it was one
index_put : (args : List NamedValue) (e : ExprTree) → index_of e ≡ index_of (put args e)
index_put args (Implies p a b) = refl
index_put args (Or p op a b) = refl
index_put args (And p op a b) = refl
index_put args (Not p a) = refl
index_put args (Relation p sign a b) = refl
index_put args (Sum p op a b) = refl
index_put args (Product p op a b) = refl
index_put args (Minus p a) = refl
index_put args (Dot head i) = refl
index_put args (Index p head index) = refl
index_put args (Number d) = refl
index_put args (Physical d unit) = refl
index_put args (Chars p text) = refl
index_put args (Truth p value) = refl
index_put args (It p) = refl
index_put args (Actor p) = refl
index_put args (Name i) = index_named (argument_of args i.text) i
index_put args (EnumName of member) = refl
index_put args (Group p a) = refl
index_put args (Span p a b) = refl
index_put args (Listed p items) = refl
index_put args (RangeCall p a b) = refl
index_put args (Start a) = refl

module _ (table : Table) (sc : Scope) (args : List NamedValue) where
  abbrev env : List Argument
  env = map (argument_read table sc) args

  -- an element, by its head and index
  element : (h h2 : Option Typed) (i i2 : ExprTree) → h ≡ h2 → index_of i ≡ index_of i2 → index_typed h i ≡ index_typed h2 i2
  element h h2 i i2 p q = ap₂ (λ x m. option_and_then (λ n. option_and_then (λ y. option_map (begun_at (place_of y)) (Operators.element n y)) x) m) p q

  -- ---- typed forms

  typed_name : (i : Ident) → typed_in table sc (map (argument_read table sc) args) (Name i) ≡ typed table sc (put args (Name i))
  typed_name i =
      found table sc (λ a. a.typed) (name_typed table sc i) i args
      ∙ of_put_name (typed table sc) (λ v. (argument_read table sc v).typed) i (λ v. typed_operand table sc (is_path v.value) v.value) (argument_of args i.text)

  mutual
    pub typed_as_put : (e : ExprTree) → typed_in table sc (map (argument_read table sc) args) e ≡ typed table sc (put args e)
    typed_as_put (Implies p a b) = ap₂ (implies_typed p) (typed_as_put a) (typed_as_put b)
    typed_as_put (Or p op a b) = ap₂ (or_typed p) (typed_as_put a) (typed_as_put b)
    typed_as_put (And p op a b) = ap₂ (and_typed p) (typed_as_put a) (typed_as_put b)
    typed_as_put (Not p a) = ap (not_typed p) (typed_as_put a)
    typed_as_put (Relation p sign a b) = ap₂ (relation_typed p sign) (typed_as_put a) (typed_as_put b)
    typed_as_put (Sum p op a b) = ap₂ (sum_typed p op) (typed_as_put a) (typed_as_put b)
    typed_as_put (Product p op a b) = ap₂ (factor_typed p op) (typed_as_put a) (typed_as_put b)
    typed_as_put (Minus p a) = ap (minus_typed p) (typed_as_put a)
    typed_as_put (Dot head i) = ap (λ h. dot_typed table h i) (typed_as_put head ∙ sym (of_put_front (typed table sc) (λ e. refl) (is_front head) (put args head)))
    typed_as_put (Index p head index) =
        element (typed_in table sc (map (argument_read table sc) args) head) (typed table sc (put_front (is_front head) (put args head))) index (put args index)
        (typed_as_put head ∙ sym (of_put_front (typed table sc) (λ e. refl) (is_front head) (put args head))) (index_put args index)
    typed_as_put (Number d) = refl
    typed_as_put (Physical d unit) = refl
    typed_as_put (Chars p text) = refl
    typed_as_put (Truth p value) = refl
    typed_as_put (It p) = refl
    typed_as_put (Actor p) = refl
    typed_as_put (Name i) = typed_name i
    typed_as_put (EnumName of member) = refl
    typed_as_put (Group p a) = ap (group_typed p) (typed_as_put a)
    typed_as_put (Span p a b) = ap₂ (span_typed p) (typed_as_put a) (typed_as_put b)
    typed_as_put (Listed p items) = ap (list_typed p) (row_as_put items)
    typed_as_put (RangeCall p a b) = ap₂ (span_typed p) (typed_as_put a) (typed_as_put b)
    typed_as_put (Start a) = typed_as_put a

    row_as_put : (row : ExprRow) → typed_row_in table sc (map (argument_read table sc) args) row ≡ typed_row table sc (put_row args row)
    row_as_put End = refl
    row_as_put (Item a others) = ap₂ item_typed (typed_as_put a) (row_as_put others)

  -- ---- where an expression begins

  pub first_as_put : (e : ExprTree) → first_in (map (argument_read table sc) args) e ≡ first (put args e)
  first_as_put (Implies p a b) = first_as_put a
  first_as_put (Or p op a b) = first_as_put a
  first_as_put (And p op a b) = first_as_put a
  first_as_put (Not p a) = refl
  first_as_put (Relation p sign a b) = first_as_put a
  first_as_put (Sum p op a b) = first_as_put a
  first_as_put (Product p op a b) = first_as_put a
  first_as_put (Minus p a) = refl
  first_as_put (Dot head i) = first_as_put head ∙ sym (of_put_front first (λ e. refl) (is_front head) (put args head))
  first_as_put (Index p head index) = first_as_put head ∙ sym (of_put_front first (λ e. refl) (is_front head) (put args head))
  first_as_put (Number d) = refl
  first_as_put (Physical d unit) = refl
  first_as_put (Chars p text) = refl
  first_as_put (Truth p value) = refl
  first_as_put (It p) = refl
  first_as_put (Actor p) = refl
  first_as_put (Name i) =
      found table sc (λ a. a.place) i.place i args
      ∙ of_put_name first (λ v. (argument_read table sc v).place) i (λ v. first_operand (is_path v.value) v.value) (argument_of args i.text)
  first_as_put (EnumName of member) = refl
  first_as_put (Group p a) = refl
  first_as_put (Span p a b) = refl
  first_as_put (Listed p items) = refl
  first_as_put (RangeCall p a b) = refl
  first_as_put (Start a) = first_as_put a

  -- ---- paths

  pub path_as_put : (e : ExprTree) → is_path_in (map (argument_read table sc) args) e ≡ is_path (put args e)
  path_as_put (Implies p a b) = refl
  path_as_put (Or p op a b) = refl
  path_as_put (And p op a b) = refl
  path_as_put (Not p a) = refl
  path_as_put (Relation p sign a b) = refl
  path_as_put (Sum p op a b) = refl
  path_as_put (Product p op a b) = refl
  path_as_put (Minus p a) = refl
  path_as_put (Dot head i) = path_as_put head ∙ sym (of_put_front is_path (λ e. refl) (is_front head) (put args head))
  path_as_put (Index p head index) = path_as_put head ∙ sym (of_put_front is_path (λ e. refl) (is_front head) (put args head))
  path_as_put (Number d) = refl
  path_as_put (Physical d unit) = refl
  path_as_put (Chars p text) = refl
  path_as_put (Truth p value) = refl
  path_as_put (It p) = refl
  path_as_put (Actor p) = refl
  path_as_put (Name i) =
      found table sc (λ a. a.is_path) true i args
      ∙ of_put_name is_path (λ v. (argument_read table sc v).is_path) i (λ v. path_operand v.value (is_path v.value) refl) (argument_of args i.text)
  path_as_put (EnumName of member) = refl
  path_as_put (Group p a) = refl
  path_as_put (Span p a b) = refl
  path_as_put (Listed p items) = refl
  path_as_put (RangeCall p a b) = refl
  path_as_put (Start a) = path_as_put a

  -- ---- tokens

  mutual
    pub tokens_as_put : (e : ExprTree) → tokens_in (map (argument_read table sc) args) e ≡ tokens (put args e)
    tokens_as_put (Implies p a b) = ap₂ (λ n m. n + 1 + m) (tokens_as_put a) (tokens_as_put b)
    tokens_as_put (Or p op a b) = ap₂ (λ n m. n + 1 + m) (tokens_as_put a) (tokens_as_put b)
    tokens_as_put (And p op a b) = ap₂ (λ n m. n + 1 + m) (tokens_as_put a) (tokens_as_put b)
    tokens_as_put (Not p a) = ap (λ n. 1 + n) (tokens_as_put a)
    tokens_as_put (Relation p sign a b) = ap₂ (λ n m. n + 1 + m) (tokens_as_put a) (tokens_as_put b)
    tokens_as_put (Sum p op a b) = ap₂ (λ n m. n + 1 + m) (tokens_as_put a) (tokens_as_put b)
    tokens_as_put (Product p op a b) = ap₂ (λ n m. n + 1 + m) (tokens_as_put a) (tokens_as_put b)
    tokens_as_put (Minus p a) = ap (λ n. 1 + n) (tokens_as_put a)
    tokens_as_put (Dot head i) = ap (λ n. n + 2) (tokens_as_put head ∙ sym (of_put_front tokens (λ e. refl) (is_front head) (put args head)))
    tokens_as_put (Index p head index) =
        ap₂ (λ n m. n + 2 + m) (tokens_as_put head ∙ sym (of_put_front tokens (λ e. refl) (is_front head) (put args head))) (tokens_as_put index)
    tokens_as_put (Number d) = refl
    tokens_as_put (Physical d unit) = refl
    tokens_as_put (Chars p text) = refl
    tokens_as_put (Truth p value) = refl
    tokens_as_put (It p) = refl
    tokens_as_put (Actor p) = refl
    tokens_as_put (Name i) =
        found table sc (λ a. a.tokens) 1 i args
        ∙ of_put_name tokens (λ v. (argument_read table sc v).tokens) i (λ v. tokens_operand (is_path v.value) v.value) (argument_of args i.text)
    tokens_as_put (EnumName of member) = refl
    tokens_as_put (Group p a) = ap (λ n. 2 + n) (tokens_as_put a)
    tokens_as_put (Span p a b) = ap₂ (λ n m. 3 + n + m) (tokens_as_put a) (tokens_as_put b)
    tokens_as_put (Listed p items) = ap (λ n. 1 + n) (items_as_put items)
    tokens_as_put (RangeCall p a b) = ap₂ (λ n m. 4 + n + m) (tokens_as_put a) (tokens_as_put b)
    tokens_as_put (Start a) = tokens_as_put a

    items_as_put : (row : ExprRow) → item_tokens_in (map (argument_read table sc) args) row ≡ item_tokens (put_row args row)
    items_as_put End = refl
    items_as_put (Item a others) = ap₂ (λ n m. n + 1 + m) (tokens_as_put a) (items_as_put others)

pub typed_in_is_put : TypedInIsPut
typed_in_is_put table sc args e = typed_as_put table sc args e

pub forms_in_are_put : FormsInArePut
forms_in_are_put table sc args e = (first_as_put table sc args e, path_as_put table sc args e, tokens_as_put table sc args e)
