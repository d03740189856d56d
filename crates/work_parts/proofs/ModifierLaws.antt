-- The modifiers of an invocation at their homes are those of its definition.
use Rattle.std.proofs.Common.{◌≡◌, ◌∙◌, refl, sym, ap, ap₂, List, [], ◌∷◌, ◌++◌, Option, Some, None, flat_map, map, option_and_then, option_map, option_to_list, Result, Ok, Err}
use Rattle.std.proofs.lemmas.List.{map-append}
use Rattle.std.specs.Result.{OnOk}
use Rattle.osc_base.specs.declared.path.Path.{Path}
use Rattle.dsl_tree.specs.ExprTree.{ExprTree}
use Rattle.dsl_tree.specs.PhaseTree.{ModifierTree, PartTree}
use Rattle.object_works.specs.type_heads.Table.{Table}
use Rattle.object_works.specs.type_heads.Types.{Types}
use Rattle.expr_nodes.specs.Scope.{It, Scope}
use Rattle.expr_nodes.specs.Typed as Nodes
use Rattle.expr_nodes.specs.Typed.{Typed, moved}
use Rattle.expr_nodes.specs.Typing.{typed}
use Rattle.object_works.specs.composition.Expansion.{Calling, given_modifier, here_in, high_end, low_end, object_at, part_modifier}
use Rattle.object_works.specs.composition.Givens.{Here, from_root, typed_here}
use Rattle.object_works.specs.composition.Homes.{home}
use Rattle.object_works.specs.composition.ModifierLines.{ModifierForm, modifier_form}
use Rattle.object_works.specs.composition.Scenes.{Binding, ModifierSpot}
use Rattle.object_works.specs.scene_expansion.Walks.{modifier_at}
use Rattle.scene_places.specs.Placed.{home_under as placed_under}
use Rattle.scene_places.specs.scene_texts.Moving.{path_under}
use Rattle.scene_places.proofs.of_scene_texts.MovedTwice.{from_root_is, moved_home}
use Rattle.work_parts.specs.Modifiers.{actor_home, high_at, home_under, low_at, modifier_there, part_there, parts_there}

-- an end of a range with its paths changed is that of the range with its paths changed
low_moved : (to : Path → Path) (t : Typed) → moved to (low_end t) ≡ low_end (moved to t)
low_moved to (Nodes.Constant i number) = refl
low_moved to (Nodes.Read i path per) = refl
low_moved to (Nodes.Whole i path) = refl
low_moved to (Nodes.Listed i is_field items) = refl
low_moved to (Nodes.Span i low high) = refl
low_moved to (Nodes.Minus i part) = refl
low_moved to (Nodes.Not i part) = refl
low_moved to (Nodes.Sum i left right) = refl
low_moved to (Nodes.Times i left right) = refl
low_moved to (Nodes.And i left right) = refl
low_moved to (Nodes.Or i left right) = refl
low_moved to (Nodes.Implies i left right) = refl
low_moved to (Nodes.Relation i sign left right) = refl
low_moved to (Nodes.Within i left right) = refl

high_moved : (to : Path → Path) (t : Typed) → moved to (high_end t) ≡ high_end (moved to t)
high_moved to (Nodes.Constant i number) = refl
high_moved to (Nodes.Read i path per) = refl
high_moved to (Nodes.Whole i path) = refl
high_moved to (Nodes.Listed i is_field items) = refl
high_moved to (Nodes.Span i low high) = refl
high_moved to (Nodes.Minus i part) = refl
high_moved to (Nodes.Not i part) = refl
high_moved to (Nodes.Sum i left right) = refl
high_moved to (Nodes.Times i left right) = refl
high_moved to (Nodes.And i left right) = refl
high_moved to (Nodes.Or i left right) = refl
high_moved to (Nodes.Implies i left right) = refl
high_moved to (Nodes.Relation i sign left right) = refl
high_moved to (Nodes.Within i left right) = refl

module _ (bindings : List Binding) (ts : Types) (call : Calling) (sc : Scope) where
  -- where the text stands
  abbrev here : Here
  here = record { object = call.object; it = call.path; scope = sc }

  abbrev there : Path → Path
  there = home_under bindings call

  -- what a path to an object leads to
  led : (t : Typed) → option_map there (object_at t) ≡ option_map (home bindings) (object_at (moved (from_root here) t))
  led (Nodes.Constant i number) = refl
  led (Nodes.Read i path per) = refl
  led (Nodes.Whole i path) = ap (λ (p : Path). Some (home bindings p)) (sym (from_root_is here path))
  led (Nodes.Listed i is_field items) = refl
  led (Nodes.Span i low high) = refl
  led (Nodes.Minus i part) = refl
  led (Nodes.Not i part) = refl
  led (Nodes.Sum i left right) = refl
  led (Nodes.Times i left right) = refl
  led (Nodes.And i left right) = refl
  led (Nodes.Or i left right) = refl
  led (Nodes.Implies i left right) = refl
  led (Nodes.Relation i sign left right) = refl
  led (Nodes.Within i left right) = refl

  led_part : (t : Option Typed) → option_map there (option_and_then object_at t) ≡ option_map (home bindings) (option_and_then object_at (option_map (moved (from_root here)) t))
  led_part None = refl
  led_part (Some t) = led t

  -- the other vehicle
  other_is : (e : Option ExprTree) → option_map there (option_and_then object_at (option_and_then (typed ts.table sc) e)) ≡ option_map (home bindings) (option_and_then object_at (option_and_then (typed_here ts here) e))
  other_is None = refl
  other_is (Some e) = led_part (typed ts.table sc e)

  -- the least value
  low_part : (t : Option Typed) → option_map (low_at there) t ≡ option_map (moved (home bindings)) (option_map low_end (option_map (moved (from_root here)) t))
  low_part None = refl
  low_part (Some t) = ap Some (sym (moved_home here (home bindings) (low_end t)) ∙ ap (moved (home bindings)) (low_moved (from_root here) t))

  low_is : (e : Option ExprTree) → option_map (low_at there) (option_and_then (typed ts.table sc) e) ≡ option_map (moved (home bindings)) (option_map low_end (option_and_then (typed_here ts here) e))
  low_is None = refl
  low_is (Some e) = low_part (typed ts.table sc e)

  -- the greatest value
  high_part : (t : Option Typed) → option_map (high_at there) t ≡ option_map (moved (home bindings)) (option_map high_end (option_map (moved (from_root here)) t))
  high_part None = refl
  high_part (Some t) = ap Some (sym (moved_home here (home bindings) (high_end t)) ∙ ap (moved (home bindings)) (high_moved (from_root here) t))

  high_is : (e : Option ExprTree) → option_map (high_at there) (option_and_then (typed ts.table sc) e) ≡ option_map (moved (home bindings)) (option_map high_end (option_and_then (typed_here ts here) e))
  high_is None = refl
  high_is (Some e) = high_part (typed ts.table sc e)

  -- a modifier
  modifier_is : (m : ModifierTree) (f : ModifierForm) → modifier_there there (actor_home bindings call) ts.table sc call m f ≡ modifier_at bindings (given_modifier ts call here m f)
  modifier_is m f = λ i. record {
    place = m.name.place;
    phase = call.path;
    own = actor_home bindings call;
    other = other_is f.other i;
    kind = f.kind;
    moment = f.moment;
    low = low_is f.range i;
    high = high_is f.range i;
  }

  -- the modifier that a part is
  part_is : (p : PartTree) → part_there there (actor_home bindings call) ts.table sc call p ≡ map (modifier_at bindings) (part_modifier ts call here p)
  part_is (PartTree.RulePart r) = refl
  part_is (PartTree.ModifierPart m) = by (modifier_form m)
    where
      by : (o : Option ModifierForm) → map (modifier_there there (actor_home bindings call) ts.table sc call m) (option_to_list o) ≡ map (modifier_at bindings) (map (given_modifier ts call here m) (option_to_list o))
      by None = refl
      by (Some f) = ap (λ (s : ModifierSpot). s ∷ []) (modifier_is m f)

  -- those among parts
  parts_are : (parts : List PartTree) → parts_there there (actor_home bindings call) ts.table sc call parts ≡ map (modifier_at bindings) (flat_map (part_modifier ts call here) parts)
  parts_are [] = refl
  parts_are (p ∷ parts) =
      ap₂ (λ (xs ys : List ModifierSpot). xs ++ ys) (part_is p) (parts_are parts)
      ∙ sym (map-append (modifier_at bindings) (part_modifier ts call here p) (flat_map (part_modifier ts call here) parts))

-- those of an invocation, given where the paths of its text lead
invocation_is : (bindings : List Binding) (object path : Path) (ts : Types) (table : Table) (call : Calling) (it : Option It) (sc : Scope) (parts own : List PartTree)
    → object ≡ call.object → path ≡ call.path → table ≡ ts.table → sc ≡ (here_in ts call it).scope → parts ≡ own
    → parts_there (placed_under bindings object path) (actor_home bindings call) table sc call parts
    ≡ map (modifier_at bindings) (flat_map (part_modifier ts call (here_in ts call it)) own)
unfolding placed_under
invocation_is bindings object path ts table call it sc parts own one two three four five =
    (λ i. parts_there (λ (p : Path). home bindings (path_under (one i) (two i) p)) (actor_home bindings call) (three i) (four i) call (five i))
    ∙ parts_are bindings ts call (here_in ts call it).scope own

-- ---- results

on_ok : {X E : Type 0} (P Q : Type 0) → (P → Q) → (r : Result X E) → OnOk r P → OnOk r Q
on_ok P Q more (Ok x) h = more h
on_ok P Q more (Err e) h = tt

-- those of an invocation, put at the end
pub invocation_put : {X E : Type 0} (bindings : List Binding) (object path : Path) (ts : Types) (table : Table) (call : Calling) (it : Option It) (sc : Scope) (parts own : List PartTree) (old new : List ModifierSpot)
    (r : Result X E) → OnOk r (new ≡ old ++ parts_there (placed_under bindings object path) (actor_home bindings call) table sc call parts)
    → object ≡ call.object → path ≡ call.path → table ≡ ts.table → sc ≡ (here_in ts call it).scope → parts ≡ own
    → OnOk r (new ≡ old ++ map (modifier_at bindings) (flat_map (part_modifier ts call (here_in ts call it)) own))
invocation_put bindings object path ts table call it sc parts own old new r put one two three four five =
    on_ok
    (new ≡ old ++ parts_there (placed_under bindings object path) (actor_home bindings call) table sc call parts)
    (new ≡ old ++ map (modifier_at bindings) (flat_map (part_modifier ts call (here_in ts call it)) own))
    (λ h. h ∙ ap (λ ms. old ++ ms) (invocation_is bindings object path ts table call it sc parts own one two three four five)) r put
