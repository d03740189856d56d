-- The amount of an initial value, by whether it is a list.
use Rattle.std.proofs.Common.{◌≡◌, refl, ap, true, false, List, Some, None}
use Rattle.dsl_tree.specs.ExprTree.{ExprTree, items_of}
use Rattle.program_texts.specs.Ranges.{listed_items}
use Rattle.work_counts.specs.Amounts.{sum_of}
use Rattle.work_counts.specs.TextAmounts.{initial_amount, value_amount}

-- of a field that is no list
pub initial_single : (e : ExprTree) → value_amount e ≡ initial_amount false e
initial_single (ExprTree.Listed place items) = refl
initial_single (ExprTree.Implies place left right) = refl
initial_single (ExprTree.Or place operator left right) = refl
initial_single (ExprTree.And place operator left right) = refl
initial_single (ExprTree.Not place part) = refl
initial_single (ExprTree.Relation place sign left right) = refl
initial_single (ExprTree.Sum place operator left right) = refl
initial_single (ExprTree.Product place operator left right) = refl
initial_single (ExprTree.Minus place part) = refl
initial_single (ExprTree.Dot head name) = refl
initial_single (ExprTree.Index place head index) = refl
initial_single (ExprTree.Number number) = refl
initial_single (ExprTree.Physical number unit) = refl
initial_single (ExprTree.Chars place text) = refl
initial_single (ExprTree.Truth place value) = refl
initial_single (ExprTree.It place) = refl
initial_single (ExprTree.Actor place) = refl
initial_single (ExprTree.Name name) = refl
initial_single (ExprTree.EnumName of member) = refl
initial_single (ExprTree.Group place inner) = refl
initial_single (ExprTree.Span place low high) = refl
initial_single (ExprTree.RangeCall place low high) = refl
initial_single (ExprTree.Start part) = refl

-- of a list that is given as one
pub initial_whole : (e : ExprTree) → None ≡ listed_items e → value_amount e ≡ initial_amount true e
initial_whole (ExprTree.Listed place items) h = absurd (cc)
initial_whole (ExprTree.Implies place left right) h = refl
initial_whole (ExprTree.Or place operator left right) h = refl
initial_whole (ExprTree.And place operator left right) h = refl
initial_whole (ExprTree.Not place part) h = refl
initial_whole (ExprTree.Relation place sign left right) h = refl
initial_whole (ExprTree.Sum place operator left right) h = refl
initial_whole (ExprTree.Product place operator left right) h = refl
initial_whole (ExprTree.Minus place part) h = refl
initial_whole (ExprTree.Dot head name) h = refl
initial_whole (ExprTree.Index place head index) h = refl
initial_whole (ExprTree.Number number) h = refl
initial_whole (ExprTree.Physical number unit) h = refl
initial_whole (ExprTree.Chars place text) h = refl
initial_whole (ExprTree.Truth place value) h = refl
initial_whole (ExprTree.It place) h = refl
initial_whole (ExprTree.Actor place) h = refl
initial_whole (ExprTree.Name name) h = refl
initial_whole (ExprTree.EnumName of member) h = refl
initial_whole (ExprTree.Group place inner) h = refl
initial_whole (ExprTree.Span place low high) h = refl
initial_whole (ExprTree.RangeCall place low high) h = refl
initial_whole (ExprTree.Start part) h = refl

-- of the elements of a list
pub initial_listed : (e : ExprTree) (xs : List ExprTree) → Some xs ≡ listed_items e → sum_of value_amount xs ≡ initial_amount true e
initial_listed (ExprTree.Listed place items) xs h = let same : xs ≡ items_of items = cc in ap (sum_of value_amount) same
initial_listed (ExprTree.Implies place left right) xs h = absurd (cc)
initial_listed (ExprTree.Or place operator left right) xs h = absurd (cc)
initial_listed (ExprTree.And place operator left right) xs h = absurd (cc)
initial_listed (ExprTree.Not place part) xs h = absurd (cc)
initial_listed (ExprTree.Relation place sign left right) xs h = absurd (cc)
initial_listed (ExprTree.Sum place operator left right) xs h = absurd (cc)
initial_listed (ExprTree.Product place operator left right) xs h = absurd (cc)
initial_listed (ExprTree.Minus place part) xs h = absurd (cc)
initial_listed (ExprTree.Dot head name) xs h = absurd (cc)
initial_listed (ExprTree.Index place head index) xs h = absurd (cc)
initial_listed (ExprTree.Number number) xs h = absurd (cc)
initial_listed (ExprTree.Physical number unit) xs h = absurd (cc)
initial_listed (ExprTree.Chars place text) xs h = absurd (cc)
initial_listed (ExprTree.Truth place value) xs h = absurd (cc)
initial_listed (ExprTree.It place) xs h = absurd (cc)
initial_listed (ExprTree.Actor place) xs h = absurd (cc)
initial_listed (ExprTree.Name name) xs h = absurd (cc)
initial_listed (ExprTree.EnumName of member) xs h = absurd (cc)
initial_listed (ExprTree.Group place inner) xs h = absurd (cc)
initial_listed (ExprTree.Span place low high) xs h = absurd (cc)
initial_listed (ExprTree.RangeCall place low high) xs h = absurd (cc)
initial_listed (ExprTree.Start part) xs h = absurd (cc)
