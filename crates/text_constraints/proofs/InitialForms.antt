-- Initial values, by whether they are lists.
use Rattle.std.proofs.Common.{◌≡◌, ◌∙◌, refl, sym, ap, ap₂, suc, Bool, true, false, cond, List, [], ◌∷◌, Option, Some, None, is_some, length, map, option_map}
use Rattle.osc_base.specs.declared.fault.Place.{Place}
use Rattle.dsl_tree.specs.declared.expr.Expr.{Expr}
use Rattle.dsl_tree.specs.ExprTree.{ExprTree, items_of}
use Rattle.dsl_tree.specs.Views.{expr_tree}
use Rattle.expr_nodes.specs.type_heads.Table.{Table}
use Rattle.expr_nodes.specs.type_heads.Members.{items_in}
use Rattle.expr_nodes.specs.Typing.{first}
use Rattle.program_texts.specs.Ranges.{listed_items}
use Rattle.text_constraints.specs.Kept.{Holder}
use Rattle.text_constraints.specs.OwnTexts.{elements_kept, initial_kept, initials_kept}
use Rattle.text_constraints.specs.Sites.{Site}

-- the items that are given to a list
abbrev pub given_items : Bool → ExprTree → Option (List ExprTree)
given_items is_list e = cond is_list (listed_items e) None

module _ (table : Table) (s : Site) (h : Holder) where
  -- a value that is given as one
  pub whole : (is_list : Bool) (e : ExprTree) → None ≡ given_items is_list e → initial_kept table s h (ExprTree.It (first e)) e ∷ [] ≡ initials_kept table s h is_list e
  whole true (ExprTree.Listed place items) n = absurd (cc)
  whole false (ExprTree.Listed place items) n = refl
  whole true (ExprTree.Implies place left right) n = refl
  whole true (ExprTree.Or place operator left right) n = refl
  whole true (ExprTree.And place operator left right) n = refl
  whole true (ExprTree.Not place part) n = refl
  whole true (ExprTree.Relation place sign left right) n = refl
  whole true (ExprTree.Sum place operator left right) n = refl
  whole true (ExprTree.Product place operator left right) n = refl
  whole true (ExprTree.Minus place part) n = refl
  whole true (ExprTree.Dot head name) n = refl
  whole true (ExprTree.Index place head index) n = refl
  whole true (ExprTree.Number number) n = refl
  whole true (ExprTree.Physical number unit) n = refl
  whole true (ExprTree.Chars place text) n = refl
  whole true (ExprTree.Truth place value) n = refl
  whole true (ExprTree.It place) n = refl
  whole true (ExprTree.Actor place) n = refl
  whole true (ExprTree.Name name) n = refl
  whole true (ExprTree.EnumName of member) n = refl
  whole true (ExprTree.Group place inner) n = refl
  whole true (ExprTree.Span place low high) n = refl
  whole true (ExprTree.RangeCall place low high) n = refl
  whole true (ExprTree.Start part) n = refl
  whole false (ExprTree.Implies place left right) n = refl
  whole false (ExprTree.Or place operator left right) n = refl
  whole false (ExprTree.And place operator left right) n = refl
  whole false (ExprTree.Not place part) n = refl
  whole false (ExprTree.Relation place sign left right) n = refl
  whole false (ExprTree.Sum place operator left right) n = refl
  whole false (ExprTree.Product place operator left right) n = refl
  whole false (ExprTree.Minus place part) n = refl
  whole false (ExprTree.Dot head name) n = refl
  whole false (ExprTree.Index place head index) n = refl
  whole false (ExprTree.Number number) n = refl
  whole false (ExprTree.Physical number unit) n = refl
  whole false (ExprTree.Chars place text) n = refl
  whole false (ExprTree.Truth place value) n = refl
  whole false (ExprTree.It place) n = refl
  whole false (ExprTree.Actor place) n = refl
  whole false (ExprTree.Name name) n = refl
  whole false (ExprTree.EnumName of member) n = refl
  whole false (ExprTree.Group place inner) n = refl
  whole false (ExprTree.Span place low high) n = refl
  whole false (ExprTree.RangeCall place low high) n = refl
  whole false (ExprTree.Start part) n = refl

  -- a list of values
  pub listed : (is_list : Bool) (e : ExprTree) (xs : List ExprTree) → Some xs ≡ given_items is_list e → elements_kept table s h 0 xs ≡ initials_kept table s h is_list e
  listed true (ExprTree.Listed place items) xs n = let same : xs ≡ items_of items = cc in ap (elements_kept table s h 0) same
  listed false (ExprTree.Listed place items) xs n = absurd (cc)
  listed true (ExprTree.Implies place left right) xs n = absurd (cc)
  listed true (ExprTree.Or place operator left right) xs n = absurd (cc)
  listed true (ExprTree.And place operator left right) xs n = absurd (cc)
  listed true (ExprTree.Not place part) xs n = absurd (cc)
  listed true (ExprTree.Relation place sign left right) xs n = absurd (cc)
  listed true (ExprTree.Sum place operator left right) xs n = absurd (cc)
  listed true (ExprTree.Product place operator left right) xs n = absurd (cc)
  listed true (ExprTree.Minus place part) xs n = absurd (cc)
  listed true (ExprTree.Dot head name) xs n = absurd (cc)
  listed true (ExprTree.Index place head index) xs n = absurd (cc)
  listed true (ExprTree.Number number) xs n = absurd (cc)
  listed true (ExprTree.Physical number unit) xs n = absurd (cc)
  listed true (ExprTree.Chars place text) xs n = absurd (cc)
  listed true (ExprTree.Truth place value) xs n = absurd (cc)
  listed true (ExprTree.It place) xs n = absurd (cc)
  listed true (ExprTree.Actor place) xs n = absurd (cc)
  listed true (ExprTree.Name name) xs n = absurd (cc)
  listed true (ExprTree.EnumName of member) xs n = absurd (cc)
  listed true (ExprTree.Group place inner) xs n = absurd (cc)
  listed true (ExprTree.Span place low high) xs n = absurd (cc)
  listed true (ExprTree.RangeCall place low high) xs n = absurd (cc)
  listed true (ExprTree.Start part) xs n = absurd (cc)
  listed false (ExprTree.Implies place left right) xs n = absurd (cc)
  listed false (ExprTree.Or place operator left right) xs n = absurd (cc)
  listed false (ExprTree.And place operator left right) xs n = absurd (cc)
  listed false (ExprTree.Not place part) xs n = absurd (cc)
  listed false (ExprTree.Relation place sign left right) xs n = absurd (cc)
  listed false (ExprTree.Sum place operator left right) xs n = absurd (cc)
  listed false (ExprTree.Product place operator left right) xs n = absurd (cc)
  listed false (ExprTree.Minus place part) xs n = absurd (cc)
  listed false (ExprTree.Dot head name) xs n = absurd (cc)
  listed false (ExprTree.Index place head index) xs n = absurd (cc)
  listed false (ExprTree.Number number) xs n = absurd (cc)
  listed false (ExprTree.Physical number unit) xs n = absurd (cc)
  listed false (ExprTree.Chars place text) xs n = absurd (cc)
  listed false (ExprTree.Truth place value) xs n = absurd (cc)
  listed false (ExprTree.It place) xs n = absurd (cc)
  listed false (ExprTree.Actor place) xs n = absurd (cc)
  listed false (ExprTree.Name name) xs n = absurd (cc)
  listed false (ExprTree.EnumName of member) xs n = absurd (cc)
  listed false (ExprTree.Group place inner) xs n = absurd (cc)
  listed false (ExprTree.Span place low high) xs n = absurd (cc)
  listed false (ExprTree.RangeCall place low high) xs n = absurd (cc)
  listed false (ExprTree.Start part) xs n = absurd (cc)

-- how long the list is
pub counted : (is_list : Bool) (e : ExprTree) (xs : List ExprTree) → Some xs ≡ given_items is_list e → cond is_list (Some (items_in (Some e))) None ≡ Some (length xs)
counted true (ExprTree.Listed place items) xs n = let same : xs ≡ items_of items = cc in ap (λ ys. Some (length ys)) (sym same)
counted false (ExprTree.Listed place items) xs n = absurd (cc)
counted true (ExprTree.Implies place left right) xs n = absurd (cc)
counted true (ExprTree.Or place operator left right) xs n = absurd (cc)
counted true (ExprTree.And place operator left right) xs n = absurd (cc)
counted true (ExprTree.Not place part) xs n = absurd (cc)
counted true (ExprTree.Relation place sign left right) xs n = absurd (cc)
counted true (ExprTree.Sum place operator left right) xs n = absurd (cc)
counted true (ExprTree.Product place operator left right) xs n = absurd (cc)
counted true (ExprTree.Minus place part) xs n = absurd (cc)
counted true (ExprTree.Dot head name) xs n = absurd (cc)
counted true (ExprTree.Index place head index) xs n = absurd (cc)
counted true (ExprTree.Number number) xs n = absurd (cc)
counted true (ExprTree.Physical number unit) xs n = absurd (cc)
counted true (ExprTree.Chars place text) xs n = absurd (cc)
counted true (ExprTree.Truth place value) xs n = absurd (cc)
counted true (ExprTree.It place) xs n = absurd (cc)
counted true (ExprTree.Actor place) xs n = absurd (cc)
counted true (ExprTree.Name name) xs n = absurd (cc)
counted true (ExprTree.EnumName of member) xs n = absurd (cc)
counted true (ExprTree.Group place inner) xs n = absurd (cc)
counted true (ExprTree.Span place low high) xs n = absurd (cc)
counted true (ExprTree.RangeCall place low high) xs n = absurd (cc)
counted true (ExprTree.Start part) xs n = absurd (cc)
counted false (ExprTree.Implies place left right) xs n = absurd (cc)
counted false (ExprTree.Or place operator left right) xs n = absurd (cc)
counted false (ExprTree.And place operator left right) xs n = absurd (cc)
counted false (ExprTree.Not place part) xs n = absurd (cc)
counted false (ExprTree.Relation place sign left right) xs n = absurd (cc)
counted false (ExprTree.Sum place operator left right) xs n = absurd (cc)
counted false (ExprTree.Product place operator left right) xs n = absurd (cc)
counted false (ExprTree.Minus place part) xs n = absurd (cc)
counted false (ExprTree.Dot head name) xs n = absurd (cc)
counted false (ExprTree.Index place head index) xs n = absurd (cc)
counted false (ExprTree.Number number) xs n = absurd (cc)
counted false (ExprTree.Physical number unit) xs n = absurd (cc)
counted false (ExprTree.Chars place text) xs n = absurd (cc)
counted false (ExprTree.Truth place value) xs n = absurd (cc)
counted false (ExprTree.It place) xs n = absurd (cc)
counted false (ExprTree.Actor place) xs n = absurd (cc)
counted false (ExprTree.Name name) xs n = absurd (cc)
counted false (ExprTree.EnumName of member) xs n = absurd (cc)
counted false (ExprTree.Group place inner) xs n = absurd (cc)
counted false (ExprTree.Span place low high) xs n = absurd (cc)
counted false (ExprTree.RangeCall place low high) xs n = absurd (cc)
counted false (ExprTree.Start part) xs n = absurd (cc)

pub length_of : (l : Option Place) (i : Option ExprTree) → option_map (λ (place : Place). items_in i) l ≡ cond (is_some l) (Some (items_in i)) None
length_of None i = refl
length_of (Some place) i = refl

map_length : (es : List Expr) → length (map expr_tree es) ≡ length es
map_length [] = refl
map_length (e ∷ es) = ap (λ n. suc n) (map_length es)

pub counted_own : (is_list : Bool) (e : ExprTree) (items : List Expr) → Some (map expr_tree items) ≡ given_items is_list e → cond is_list (Some (items_in (Some e))) None ≡ Some (length items)
counted_own is_list e items n = counted is_list e (map expr_tree items) n ∙ ap (λ k. Some k) (map_length items)

pub value_it : (l : Option Place) (i : Option ExprTree) (b : Bool) (e : ExprTree) → b ≡ is_some l → i ≡ Some e → option_map (λ (place : Place). items_in i) l ≡ cond b (Some (items_in (Some e))) None
value_it l i b e list is = length_of l i ∙ ap₂ (λ c j. cond c (Some (items_in j)) None) (sym list) is
