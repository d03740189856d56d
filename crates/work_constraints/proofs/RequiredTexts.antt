-- Constraints on what is read, at their homes.
use Rattle.std.proofs.Common.{◌≡◌, ◌∙◌, refl, sym, ap, Bool, true, false, cond, List, [], ◌∷◌, Option, Some, None, find, is_some, map, option_map, option_to_list}
use Rattle.osc_base.specs.declared.fault.Place.{Place}
use Rattle.osc_base.specs.declared.mark.Strength.{Strength}
use Rattle.osc_base.specs.declared.path.Path.{Path}
use Rattle.dsl_tree.specs.ExprTree.{ExprTree}
use Rattle.expr_nodes.specs.type_heads.Types.{Field, Types}
use Rattle.osc_base.specs.Paths.{then_duration}
use Rattle.expr_nodes.specs.Names.{duration_at}
use Rattle.expr_nodes.specs.Typed as Nodes
use Rattle.expr_nodes.specs.Typed.{Typed, moved}
use Rattle.expr_nodes.specs.Typing.{first, typed}
use Rattle.text_constraints.specs.composition.Expanded.{occurrence_of}
use Rattle.text_constraints.specs.composition.Expansion.{Calling, given_duration, parameter}
use Rattle.text_constraints.specs.composition.Calls.{scope_at}
use Rattle.text_constraints.specs.composition.Givens.{from_root, given_required, read_at, required, typed_here}
use Rattle.text_constraints.specs.composition.Homes.{home}
use Rattle.text_constraints.specs.composition.Scenes.{Binding}
use Rattle.text_constraints.specs.Sites.{Site, at_home, here_of}
use Rattle.text_constraints.proofs.HomedTexts.{moved_is, read_moved, typed_is}
use Rattle.work_constraints.specs.CallTexts.{call_site, duration_kept, one_read, parameter_kept, phase_holder, required_kept}

required_moved : (to : Path → Path) (place : Place) (left right : Typed) → moved to (required place left right) ≡ required place (moved to left) (moved to right)
required_moved to place left (Nodes.Span i low high) = refl
required_moved to place left (Nodes.Constant i number) = refl
required_moved to place left (Nodes.Read i path per) = refl
required_moved to place left (Nodes.Whole i path) = refl
required_moved to place left (Nodes.Listed i is_field items) = refl
required_moved to place left (Nodes.Minus i part) = refl
required_moved to place left (Nodes.Not i part) = refl
required_moved to place left (Nodes.Sum i one other) = refl
required_moved to place left (Nodes.Times i one other) = refl
required_moved to place left (Nodes.And i one other) = refl
required_moved to place left (Nodes.Or i one other) = refl
required_moved to place left (Nodes.Implies i one other) = refl
required_moved to place left (Nodes.Relation i sign one other) = refl
required_moved to place left (Nodes.Within i one other) = refl

part_moved : (to : Path → Path) (place : Place) (left : Typed) (right : Option Typed)
    → option_map (moved to) (option_map (required place left) right) ≡ option_map (required place (moved to left)) (option_map (moved to) right)
part_moved to place left None = refl
part_moved to place left (Some t) = ap (λ x. Some x) (required_moved to place left t)

module _ (ts : Types) (s : Site) (path : Path) (value : ExprTree) where
  pub required_is : (left : Typed) → occurrence_of s.bindings (given_required ts (here_of s) path (Some left) value) ≡ required_kept ts.table s (phase_holder path) (moved (home s.bindings) left) value
  required_is left = λ i. record {
    place = first value;
    holder = path;
    under = [];
    mark = record { target = sym (read_moved (home s.bindings) left) i; strength = Strength.Hard };
    typed = (part_moved (home s.bindings) (first value) left (typed_here ts (here_of s) value)
        ∙ ap (option_map (required (first value) (moved (home s.bindings) left))) (typed_is s ts value)) i;
  }

  some_same : (to : Path → Path) (o : Option Path) → is_some (option_map to o) ≡ is_some o
  some_same to None = refl
  some_same to (Some p) = refl

  -- an argument for a parameter
  pub parameter_is : (f : Field) → map (occurrence_of s.bindings) (map (λ (p : Typed). given_required ts (here_of s) path (Some p) value) (option_to_list (parameter ts (here_of s) value f)))
      ≡ parameter_kept ts.table s (phase_holder path) value f.name
  parameter_is f = by (typed ts.table s.scope (ExprTree.Dot (ExprTree.It (first value)) f.name))
    where
      tested : (t : Typed) (b : Bool) → map (occurrence_of s.bindings) (map (λ (p : Typed). given_required ts (here_of s) path (Some p) value) (option_to_list (cond b (Some (moved (from_root (here_of s)) t)) None)))
          ≡ map (λ (p : Typed). required_kept ts.table s (phase_holder path) (moved (at_home s) p) value) (option_to_list (cond b (Some t) None))
      tested t true = ap (λ o. o ∷ []) (required_is (moved (from_root (here_of s)) t) ∙ ap (λ l. required_kept ts.table s (phase_holder path) l value) (moved_is s t))
      tested t false = refl

      by : (o : Option Typed) → map (occurrence_of s.bindings) (map (λ (p : Typed). given_required ts (here_of s) path (Some p) value) (option_to_list (find (λ l. is_some (read_at l)) (option_to_list (option_map (moved (from_root (here_of s))) o)))))
          ≡ map (λ (p : Typed). required_kept ts.table s (phase_holder path) (moved (at_home s) p) value) (option_to_list (one_read o))
      by None = refl
      by (Some t) =
          ap (λ b. map (occurrence_of s.bindings) (map (λ (p : Typed). given_required ts (here_of s) path (Some p) value) (option_to_list (cond b (Some (moved (from_root (here_of s)) t)) None))))
          (ap is_some (read_moved (from_root (here_of s)) t) ∙ some_same (from_root (here_of s)) (read_at t))
          ∙ tested t (is_some (read_at t))

-- a stated duration
pub duration_is : (ts : Types) (bindings : List Binding) (call : Calling) (value : ExprTree)
    → occurrence_of bindings (given_duration ts call value) ≡ duration_kept ts.table (call_site bindings call (scope_at ts call.holder None call.way)) (phase_holder call.path) value
duration_is ts bindings call value = required_is ts (call_site bindings call (scope_at ts call.holder None call.way)) call.path value (duration_at (first value) (then_duration call.path))
