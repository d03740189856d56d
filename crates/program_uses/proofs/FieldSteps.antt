-- What is given to a field.
use Rattle.std.proofs.Common.{◌≡◌, ◌∙◌, refl, ap, ℕ, Bool, true, false, cond, List, [], ◌∷◌, Option, Some, None, is_some, option_map}
use Rattle.std.specs.Option.{option_map_or}
use Rattle.osc_base.specs.FaultRows.{FaultRow}
use Rattle.dsl_tree.specs.ExprTree.{ExprTree}
use Rattle.dsl_tree.specs.FileTree.{FieldTree}
use Rattle.expr_nodes.specs.type_heads.Table.{Table, form, named}
use Rattle.expr_nodes.specs.type_heads.Members.{list_length}
use Rattle.expr_nodes.specs.Kinds.{ValueKind, kind_of}
use Rattle.expr_nodes.specs.Names.{per_of}
use Rattle.expr_nodes.specs.Scope.{It, Scope}
use Rattle.expr_nodes.specs.Sizes.{Size, field_size}
use Rattle.program_calls.specs.composition.Uses.{values_given, values_rows, with_kind}
use Rattle.program_uses.specs.ExprParts.{listed_items}
use Rattle.program_uses.specs.FieldRows.{field_it, fitted_rows}
use Rattle.program_uses.specs.TableTypes.{of_table}

-- the items of a list, or the one value
pub items_given : (is_list : Bool) (e : ExprTree) (xs : List ExprTree) → Some xs ≡ cond is_list (listed_items e) None → xs ≡ values_given is_list e
items_given true (ExprTree.Listed place items) xs h = cc
items_given true _ xs h = absurd (cc)
items_given false e xs h = absurd (cc)

pub value_given : (is_list : Bool) (e : ExprTree) → None ≡ cond is_list (listed_items e) None → e ∷ [] ≡ values_given is_list e
value_given true (ExprTree.Listed place items) h = absurd (cc)
value_given true _ h = refl
value_given false e h = refl

-- what a type holds, by its kind, scale and reach
pub kinded : (table : Table) (of : ℕ) (rows : ValueKind → Size → List FaultRow) (k : ValueKind) (s : Size) →
    Some k ≡ kind_of of (form table.heads of) → s ≡ field_size (per_of (form table.heads of)) → rows k s ≡ with_kind (of_table None table) of rows
kinded table of rows k s one two =
    ap (rows k) two ∙ ap (λ o. option_map_or (λ x. rows x (field_size (per_of (form table.heads of)))) o []) one

-- a field whose type is declared
pub fitted : (table : Table) (sc : Scope) (f : FieldTree) (e : ExprTree) (is_list : Bool) (k : ValueKind) (s : Size) (of : ℕ) (name : List ℕ) →
    name ≡ f.of.text → Some of ≡ named table.heads None name → is_list ≡ is_some f.list → Some k ≡ kind_of of (form table.heads of) → s ≡ field_size (per_of (form table.heads of)) →
    values_rows table sc (values_given is_list e) k s ≡ fitted_rows table sc f e
fitted table sc f e is_list k s of name same is listed one two =
    ap (λ b. values_rows table sc (values_given b e) k s) listed
    ∙ kinded table of (values_rows table sc (values_given (is_some f.list) e)) k s one two
    ∙ ap (λ o. option_map_or (λ t. with_kind (of_table None table) t (values_rows table sc (values_given (is_some f.list) e))) o []) (is ∙ ap (named table.heads None) same)

-- one whose type isn't
pub unfitted : (table : Table) (sc : Scope) (f : FieldTree) (e : ExprTree) (name : List ℕ) → name ≡ f.of.text → None ≡ named table.heads None name → [] ≡ fitted_rows table sc f e
unfitted table sc f e name same is =
    ap (λ o. option_map_or (λ t. with_kind (of_table None table) t (values_rows table sc (values_given (is_some f.list) e))) o []) (is ∙ ap (named table.heads None) same)

-- what `it` is
pub it_is : (table : Table) (f : FieldTree) (of : ℕ) (length : Option ℕ) (name : List ℕ) → name ≡ f.of.text → Some of ≡ named table.heads None name → length ≡ list_length f →
    Some (It.Of of length) ≡ field_it table f
it_is table f of length name same is long =
    ap (λ n. Some (It.Of of n)) long ∙ ap (λ o. option_map (λ t. It.Of t (list_length f)) o) (is ∙ ap (named table.heads None) same)

pub it_isnt : (table : Table) (f : FieldTree) (name : List ℕ) → name ≡ f.of.text → None ≡ named table.heads None name → None ≡ field_it table f
it_isnt table f name same is = ap (λ o. option_map (λ t. It.Of t (list_length f)) o) (is ∙ ap (named table.heads None) same)
