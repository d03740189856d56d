-- The table of modifiers: what each is called, which arguments it has, and what it asks.
use Rattle.std.specs.Prelude.{ℕ, ◌+◌, ◌&&◌, ◌||◌, Bool, true, false, cond, not, List, [], ◌∷◌, ◌++◌, Option, Some, None, length, nat_eq, bytes_eq, codes, find, filter, filter_map, is_some, option_map, option_and_then, option_to_list, pos, negsuc}
use Rattle.std.specs.Option.{option_map_or}
use Rattle.std.specs.List.{list_any}
use Rattle.expr_nodes.specs.osc_base.declared.modifier.Moment.{Moment}
use Rattle.expr_nodes.specs.osc_base.declared.relation.Quantity.{Quantity}
use Rattle.expr_nodes.specs.osc_base.declared.relation.Reading.{Reading}
use Rattle.expr_nodes.specs.osc_base.declared.relation.Rate.{Rate}
use Rattle.expr_nodes.specs.osc_base.declared.relation.Side.{Side}
use Rattle.expr_nodes.specs.osc_base.declared.relation.Relation.{Relation}
use Rattle.cond_inherit.specs.dsl_tree.ExprTree.{ExprTree}
use Rattle.cond_inherit.specs.dsl_tree.PhaseTree.{ModifierTree}
use Rattle.composition.specs.ModifierLines.{NamedValue, named_value, unnamed_value, is_at, moment_of}

-- Where a modifier has its value or range: nowhere, first without a name, first without or with a name, or with a name alone.
pub data ValuePlace : Type 0 where
  Nowhere : ValuePlace
  First : ValuePlace
  FirstOr : (name : List ℕ) → ValuePlace
  Named : (name : List ℕ) → ValuePlace

-- A row of the table: the modifier's name, where it has its value or range, the name of the argument for its other vehicle if it has one, the word
-- after `side:` if it has one, whether `at:` may be written, and what it asks.
pub record ModifierRow : Type 0 where
  pub name : List ℕ
  pub value : ValuePlace
  pub other : Option (List ℕ)
  pub side : Option (List ℕ)
  pub has_at : Bool
  pub relation : Relation

-- a row without a side that is asked for at the moments of `at:`
abbrev pub at_moments : List ℕ → ValuePlace → Option (List ℕ) → Relation → ModifierRow
at_moments name value other relation = record { name = name; value = value; other = other; side = None; has_at = true; relation = relation }

-- a row that says on which side of another vehicle a lane lies
abbrev pub beside : List ℕ → Relation → ModifierRow
beside side relation = record { name = codes "lane"; value = Nowhere; other = Some (codes "side_of"); side = Some side; has_at = true; relation = relation }

-- a row that is asked for all along its phase
abbrev pub all_along : List ℕ → ValuePlace → Option (List ℕ) → Relation → ModifierRow
all_along name value side relation = record { name = name; value = value; other = None; side = side; has_at = false; relation = relation }

-- what is read
abbrev pub own_speed : Reading
own_speed = Reading.Own Quantity.Speed

abbrev pub other_speed : Reading
other_speed = Reading.Other Quantity.Speed

abbrev pub next_speed : Reading
next_speed = Reading.Next Quantity.Speed

abbrev pub own_lane : Reading
own_lane = Reading.Own Quantity.Lane

abbrev pub other_lane : Reading
other_lane = Reading.Other Quantity.Lane

abbrev pub next_lane : Reading
next_lane = Reading.Next Quantity.Lane

abbrev pub own_position : Reading
own_position = Reading.Own Quantity.Position

abbrev pub other_position : Reading
other_position = Reading.Other Quantity.Position

-- The table. Who is ahead of another has the headway of the one behind.
abbrev pub modifier_table : List ModifierRow
modifier_table =
    at_moments (codes "speed") (FirstOr (codes "speed")) None (Relation.Within own_speed Rate.Whole)
    ∷ at_moments (codes "speed") (FirstOr (codes "speed")) (Some (codes "faster_than")) (Relation.Apart own_speed other_speed Rate.Whole)
    ∷ at_moments (codes "speed") (FirstOr (codes "speed")) (Some (codes "slower_than")) (Relation.Apart other_speed own_speed Rate.Whole)
    ∷ at_moments (codes "speed") Nowhere (Some (codes "same_as")) (Relation.Beside own_speed other_speed (pos 0))
    ∷ at_moments (codes "lane") (FirstOr (codes "lane")) None (Relation.Within own_lane Rate.Whole)
    ∷ at_moments (codes "lane") Nowhere (Some (codes "same_as")) (Relation.Beside own_lane other_lane (pos 0))
    ∷ at_moments (codes "lane") Nowhere (Some (codes "left_of")) (Relation.Beside own_lane other_lane (pos 1))
    ∷ at_moments (codes "lane") Nowhere (Some (codes "right_of")) (Relation.Beside own_lane other_lane (negsuc 0))
    ∷ beside (codes "same") (Relation.Beside own_lane other_lane (pos 0))
    ∷ beside (codes "left") (Relation.Beside own_lane other_lane (pos 1))
    ∷ beside (codes "right") (Relation.Beside own_lane other_lane (negsuc 0))
    ∷ at_moments (codes "position") (FirstOr (codes "distance")) None (Relation.Within own_position Rate.Whole)
    ∷ at_moments (codes "position") (FirstOr (codes "distance")) (Some (codes "ahead_of")) (Relation.Apart own_position other_position Rate.Whole)
    ∷ at_moments (codes "position") (FirstOr (codes "distance")) (Some (codes "behind")) (Relation.Apart other_position own_position Rate.Whole)
    ∷ at_moments (codes "position") (Named (codes "time")) (Some (codes "ahead_of")) (Relation.Apart own_position other_position (Rate.Headway other_speed))
    ∷ at_moments (codes "position") (Named (codes "time")) (Some (codes "behind")) (Relation.Apart other_position own_position (Rate.Headway own_speed))
    ∷ all_along (codes "keep_speed") Nowhere None (Relation.Beside next_speed own_speed (pos 0))
    ∷ all_along (codes "keep_lane") Nowhere None (Relation.Beside next_lane own_lane (pos 0))
    ∷ all_along (codes "acceleration") First None (Relation.Apart next_speed own_speed Rate.Tick)
    ∷ all_along (codes "change_lane") First None (Relation.Change None)
    ∷ all_along (codes "change_lane") First (Some (codes "left")) (Relation.Change (Some Side.Left))
    ∷ all_along (codes "change_lane") First (Some (codes "right")) (Relation.Change (Some Side.Right))
    ∷ []

-- a modifier of that name is there
abbrev pub is_modifier : List ℕ → Bool
is_modifier name = list_any (λ r. bytes_eq r.name name) modifier_table

-- ---- arguments

-- what is written between the brackets: the values without a name, those with one but `at:`, and those of `at:`
pub record Written : Type 0 where
  pub unnamed : List ExprTree
  pub named : List NamedValue
  pub at : List NamedValue

-- what is written between the brackets of a modifier
abbrev pub written : ModifierTree → Written
written m =
    let named = filter_map named_value m.arguments in
    record { unnamed = filter_map unnamed_value m.arguments; named = filter (λ v. not (is_at v)) named; at = filter is_at named }

-- the value of the first argument of that name
abbrev pub value_named : List NamedValue → List ℕ → Option ExprTree
value_named named name = option_map (λ (v : NamedValue). v.value) (find (λ (v : NamedValue). bytes_eq v.name name) named)

-- the word of the first argument of that name
abbrev pub word_of : ExprTree → Option (List ℕ)
word_of (ExprTree.Name i) = Some i.text
word_of _ = None

-- the name that it may have
abbrev pub may_be_named : ValuePlace → Option (List ℕ)
may_be_named Nowhere = None
may_be_named First = None
may_be_named (FirstOr name) = Some name
may_be_named (Named name) = Some name

-- a value or range has to be there
abbrev pub is_valued : ValuePlace → Bool
is_valued Nowhere = false
is_valued _ = true

-- it may stand there without a name
abbrev pub may_be_unnamed : ValuePlace → Bool
may_be_unnamed Nowhere = false
may_be_unnamed First = true
may_be_unnamed (FirstOr name) = true
may_be_unnamed (Named name) = false

-- the values and ranges that are written where the row has its own
abbrev pub ranges_by : ModifierRow → Written → List ExprTree
ranges_by r w = w.unnamed ++ option_to_list (option_and_then (value_named w.named) (may_be_named r.value))

-- the argument for the other vehicle
abbrev pub other_by : ModifierRow → Written → Option ExprTree
other_by r w = option_and_then (value_named w.named) r.other

-- the word after `side:` is that of the row
abbrev pub has_side : ModifierRow → Written → Bool
has_side r w =
    option_map_or (λ side. option_map_or (bytes_eq side) (option_and_then word_of (value_named w.named (codes "side"))) false) r.side true

-- 1 if it is there, else 0
abbrev pub one_if : Bool → ℕ
one_if b = cond b 1 0

-- so many arguments with a name are those that the row has
abbrev pub named_count : ModifierRow → Written → ℕ
named_count r w =
    one_if (is_some (option_and_then (value_named w.named) (may_be_named r.value))) + (one_if (is_some r.other) + one_if (is_some r.side))

-- The row is that of what is written: there is one value or range if the row has one, else none; each argument of the row is there, and no other.
abbrev pub is_row : List ℕ → Written → ModifierRow → Bool
is_row name w r =
    bytes_eq r.name name
    && ((may_be_unnamed r.value || nat_eq (length w.unnamed) 0)
    && (nat_eq (length (ranges_by r w)) (one_if (is_valued r.value))
    && (nat_eq (length w.named) (named_count r w)
    && ((not (is_some r.other) || is_some (other_by r w))
    && (has_side r w && (r.has_at || nat_eq (length w.at) 0))))))

-- ---- forms

-- a modifier as written: what it asks, its moments, its value or range, and the path to its other vehicle
pub record ModifierForm : Type 0 where
  pub relation : Relation
  pub moment : Moment
  pub range : Option ExprTree
  pub other : Option ExprTree

-- the first of a list
abbrev pub first_of : List ExprTree → Option ExprTree
first_of [] = None
first_of (e ∷ es) = Some e

-- the form by a row
abbrev pub form_by : Written → Moment → ModifierRow → ModifierForm
form_by w moment r = record { relation = r.relation; moment = moment; range = first_of (ranges_by r w); other = other_by r w }

-- the form of a modifier; none if no row of the table has its name and arguments
abbrev pub modifier_form : ModifierTree → Option ModifierForm
modifier_form m =
    let w = written m in
    option_and_then (λ moment. option_map (form_by w moment) (find (is_row m.name.text w) modifier_table)) (moment_of w.at)
