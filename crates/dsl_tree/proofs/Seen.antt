-- The tree of each node of an expression, in terms of its parts' trees.
use Rattle.std.proofs.Common.{◌≡◌, List, ℕ, Bool, map, ap, sym, ◌∙◌}
use Rattle.osc_base.specs.declared.fault.Place.{Place}
use Rattle.dsl_tree.specs.declared.parts.Ident.{Ident}
use Rattle.dsl_tree.specs.declared.parts.Digits.{Digits}
use Rattle.dsl_tree.specs.declared.expr.RelationSign.{RelationSign}
use Rattle.dsl_tree.specs.declared.expr.Expr.{Expr}
use Rattle.dsl_tree.specs.declared.expr.Further.{Further}
use Rattle.dsl_tree.specs.declared.expr.Suffix.{Suffix}
use Rattle.dsl_tree.specs.declared.expr.Expr.TheOpen.{Expr-F, Suffix-F}
use Rattle.dsl_tree.specs.declared.expr.Expr.TheFolds.{fold-roll-Expr, fold-roll-Suffix, fold-roll-Further, map-Expr}
use Rattle.dsl_tree.specs.declared.expr.Expr.TheViews
use Rattle.dsl_tree.specs.declared.expr.Expr.TheViews.{roll-Expr}
use Rattle.dsl_tree.specs.declared.expr.Expr.TheVariants.{rolls-Implies, rolls-Or, rolls-And, rolls-Not, rolls-Relation, rolls-Sum, rolls-Product, rolls-Minus, rolls-Number, rolls-Physical, rolls-Chars, rolls-Truth, rolls-It, rolls-Actor, rolls-Name, rolls-EnumName, rolls-Group, rolls-Span, rolls-Listed, rolls-RangeCall}
use Rattle.dsl_tree.specs.ExprTree.{ExprTree, row_of}
use Rattle.dsl_tree.specs.Views.{SuffixTree, FurtherTree, grouped, with_suffixes, named_row, indexed_row, expr_step, suffix_step, further_step, expr_tree, suffix_tree, further_tree}

seen : (y : Expr-F Expr Suffix Further) → expr_tree (roll-Expr y) ≡ expr_step (map-Expr Expr Suffix Further ExprTree SuffixTree FurtherTree expr_tree suffix_tree further_tree y)
seen y = fold-roll-Expr ExprTree SuffixTree FurtherTree expr_step suffix_step further_step y

pub seen_implies : (place : Place) (left right : Expr) → expr_tree (TheViews.Implies place left right) ≡ ExprTree.Implies place (expr_tree left) (expr_tree right)
seen_implies place left right = ap expr_tree (sym (rolls-Implies place left right)) ∙ seen (Expr-F.Implies place left right)

pub seen_or : (first : Expr) (rest : List Further) → expr_tree (TheViews.Or first rest) ≡ grouped ExprTree.Or (ExprTree.Start (expr_tree first)) (map further_tree rest)
seen_or first rest = ap expr_tree (sym (rolls-Or first rest)) ∙ seen (Expr-F.Or first rest)

pub seen_and : (first : Expr) (rest : List Further) → expr_tree (TheViews.And first rest) ≡ grouped ExprTree.And (ExprTree.Start (expr_tree first)) (map further_tree rest)
seen_and first rest = ap expr_tree (sym (rolls-And first rest)) ∙ seen (Expr-F.And first rest)

pub seen_not : (place : Place) (part : Expr) → expr_tree (TheViews.Not place part) ≡ ExprTree.Not place (expr_tree part)
seen_not place part = ap expr_tree (sym (rolls-Not place part)) ∙ seen (Expr-F.Not place part)

pub seen_relation : (place : Place) (sign : RelationSign) (left right : Expr) → expr_tree (TheViews.Relation place sign left right) ≡ ExprTree.Relation place sign (expr_tree left) (expr_tree right)
seen_relation place sign left right = ap expr_tree (sym (rolls-Relation place sign left right)) ∙ seen (Expr-F.Relation place sign left right)

pub seen_sum : (first : Expr) (rest : List Further) → expr_tree (TheViews.Sum first rest) ≡ grouped ExprTree.Sum (ExprTree.Start (expr_tree first)) (map further_tree rest)
seen_sum first rest = ap expr_tree (sym (rolls-Sum first rest)) ∙ seen (Expr-F.Sum first rest)

pub seen_product : (first : Expr) (rest : List Further) → expr_tree (TheViews.Product first rest) ≡ grouped ExprTree.Product (ExprTree.Start (expr_tree first)) (map further_tree rest)
seen_product first rest = ap expr_tree (sym (rolls-Product first rest)) ∙ seen (Expr-F.Product first rest)

pub seen_minus : (place : Place) (part : Expr) → expr_tree (TheViews.Minus place part) ≡ ExprTree.Minus place (expr_tree part)
seen_minus place part = ap expr_tree (sym (rolls-Minus place part)) ∙ seen (Expr-F.Minus place part)

pub seen_dot : (head : Expr) (suffixes : List Suffix) → expr_tree (TheViews.Expr::Dot head suffixes) ≡ named_row (with_suffixes (ExprTree.Start (expr_tree head)) (map suffix_tree suffixes)) (map suffix_tree suffixes)
unfolding Rattle.dsl_tree.specs.declared.expr.Expr.TheViews.roll-Expr denote.Hole.Carrier.roll
seen_dot head suffixes = fold-roll-Expr ExprTree SuffixTree FurtherTree expr_step suffix_step further_step (Expr-F.Expr::Dot head suffixes)

pub seen_index : (head : Expr) (suffixes : List Suffix) → expr_tree (TheViews.Expr::Index head suffixes) ≡ indexed_row (with_suffixes (ExprTree.Start (expr_tree head)) (map suffix_tree suffixes)) (map suffix_tree suffixes)
unfolding Rattle.dsl_tree.specs.declared.expr.Expr.TheViews.roll-Expr denote.Hole.Carrier.roll
seen_index head suffixes = fold-roll-Expr ExprTree SuffixTree FurtherTree expr_step suffix_step further_step (Expr-F.Expr::Index head suffixes)

pub seen_number : (number : Digits) → expr_tree (Expr.Number number) ≡ ExprTree.Number number
seen_number number = ap expr_tree (sym (rolls-Number number)) ∙ seen (Expr-F.Number number)

pub seen_physical : (number : Digits) (unit : List ℕ) → expr_tree (Expr.Physical number unit) ≡ ExprTree.Physical number unit
seen_physical number unit = ap expr_tree (sym (rolls-Physical number unit)) ∙ seen (Expr-F.Physical number unit)

pub seen_chars : (place : Place) (text : List ℕ) → expr_tree (Expr.Chars place text) ≡ ExprTree.Chars place text
seen_chars place text = ap expr_tree (sym (rolls-Chars place text)) ∙ seen (Expr-F.Chars place text)

pub seen_truth : (place : Place) (value : Bool) → expr_tree (Expr.Truth place value) ≡ ExprTree.Truth place value
seen_truth place value = ap expr_tree (sym (rolls-Truth place value)) ∙ seen (Expr-F.Truth place value)

pub seen_it : (place : Place) → expr_tree (Expr.It place) ≡ ExprTree.It place
seen_it place = ap expr_tree (sym (rolls-It place)) ∙ seen (Expr-F.It place)

pub seen_actor : (place : Place) → expr_tree (Expr.Actor place) ≡ ExprTree.Actor place
seen_actor place = ap expr_tree (sym (rolls-Actor place)) ∙ seen (Expr-F.Actor place)

pub seen_name : (name : Ident) → expr_tree (Expr.Name name) ≡ ExprTree.Name name
seen_name name = ap expr_tree (sym (rolls-Name name)) ∙ seen (Expr-F.Name name)

pub seen_enum_name : (of member : Ident) → expr_tree (Expr.EnumName of member) ≡ ExprTree.EnumName of member
seen_enum_name of member = ap expr_tree (sym (rolls-EnumName of member)) ∙ seen (Expr-F.EnumName of member)

pub seen_group : (place : Place) (inner : Expr) → expr_tree (TheViews.Group place inner) ≡ ExprTree.Group place (expr_tree inner)
seen_group place inner = ap expr_tree (sym (rolls-Group place inner)) ∙ seen (Expr-F.Group place inner)

pub seen_span : (place : Place) (low high : Expr) → expr_tree (TheViews.Span place low high) ≡ ExprTree.Span place (expr_tree low) (expr_tree high)
seen_span place low high = ap expr_tree (sym (rolls-Span place low high)) ∙ seen (Expr-F.Span place low high)

pub seen_listed : (place : Place) (items : List Expr) → expr_tree (TheViews.Listed place items) ≡ ExprTree.Listed place (row_of (map expr_tree items))
seen_listed place items = ap expr_tree (sym (rolls-Listed place items)) ∙ seen (Expr-F.Listed place items)

pub seen_range_call : (place : Place) (low high : Expr) → expr_tree (TheViews.RangeCall place low high) ≡ ExprTree.RangeCall place (expr_tree low) (expr_tree high)
seen_range_call place low high = ap expr_tree (sym (rolls-RangeCall place low high)) ∙ seen (Expr-F.RangeCall place low high)

pub seen_dot_suffix : (name : Ident) → suffix_tree (Suffix.Suffix::Dot name) ≡ SuffixTree.Named name
unfolding Rattle.dsl_tree.specs.declared.expr.Expr.TheViews.roll-Suffix denote.Hole.Carrier.roll
seen_dot_suffix name = fold-roll-Suffix ExprTree SuffixTree FurtherTree expr_step suffix_step further_step (Suffix-F.Suffix::Dot name)

pub seen_index_suffix : (place : Place) (index : Expr) → suffix_tree (Suffix.Suffix::Index place index) ≡ SuffixTree.At place (expr_tree index)
unfolding Rattle.dsl_tree.specs.declared.expr.Expr.TheViews.roll-Suffix denote.Hole.Carrier.roll
seen_index_suffix place index = fold-roll-Suffix ExprTree SuffixTree FurtherTree expr_step suffix_step further_step (Suffix-F.Suffix::Index place index)

pub seen_further : (f : Further) → further_tree f ≡ record { place = f.place; operator = f.operator; part = expr_tree f.part }
unfolding denote.Hole.Carrier.roll
seen_further f = fold-roll-Further ExprTree SuffixTree FurtherTree expr_step suffix_step further_step (record { place = f.place; operator = f.operator; part = f.part })
