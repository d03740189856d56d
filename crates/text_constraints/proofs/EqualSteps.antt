-- Constraints that a field equals a value, of parts that are known.
use Rattle.std.proofs.Common.{◌≡◌, ◌∙◌, refl, sym, ap, ap₂, ℕ, Bool, true, false, cond, Option, Some, None, Result, Ok, Err, IfOk, option_map}
use Rattle.osc_base.specs.declared.fault.Place.{Place}
use Rattle.osc_base.specs.declared.mark.Strength.{Strength}
use Rattle.osc_base.specs.declared.path.Path.{Path}
use Rattle.osc_base.specs.FaultRows.{first_fault}
use Rattle.dsl_tree.specs.declared.expr.RelationSign.{RelationSign}
use Rattle.dsl_tree.specs.ExprTree.{ExprTree}
use Rattle.expr_nodes.specs.type_heads.Table.{Table}
use Rattle.program_texts.specs.composition.Givens.{element, equals}
use Rattle.program_texts.specs.composition.Scenes.{Occurrence}
use Rattle.expr_nodes.specs.declared.compare.Compare.{Compare}
use Rattle.expr_nodes.specs.declared.parts.Checked.{Checked}
use Rattle.expr_nodes.specs.Checks.{IsChecked}
use Rattle.expr_nodes.specs.Names.{it_rows, it_typed}
use Rattle.expr_nodes.specs.Operators.{comparison_rows, comparison_typed}
use Rattle.expr_nodes.specs.Parts.{any_holds}
use Rattle.expr_nodes.specs.Seen.{seen_part}
use Rattle.expr_nodes.specs.Typed.{Typed, moved}
use Rattle.expr_nodes.specs.Typing.{first, typed}
use Rattle.text_constraints.specs.Elements.{Sample, SampleFor, element_read}
use Rattle.text_constraints.specs.Kept.{Holder, constraint, equal_kept}
use Rattle.text_constraints.specs.OwnTexts.{initial_kept}
use Rattle.text_constraints.specs.Sites.{Site, at_home, read_home, typed_home}

pub if_ok : {X E : Type 0} (P Q : X → Type 0) → ((x : X) → P x → Q x) → (r : Result X E) → IfOk r P → IfOk r Q
if_ok P Q more (Ok x) h = more x h
if_ok P Q more (Err e) h = h

-- what is known of the sides tells the constraint
pub equal_of : (table : Table) (s : Site) (h : Holder) (place begins : Place) (strength : Strength) (l v : ExprTree) (left : Option Typed) (target : Option Path) (t : Option Typed)
    → begins ≡ first v → left ≡ typed table s.scope l → target ≡ read_home s left → t ≡ typed_home table s (ExprTree.Relation begins RelationSign.Equal l v)
    → constraint h place strength target t ≡ equal_kept table s h place strength l v
equal_of table s h place begins strength l v left target t is one at whole =
    ap₂ (λ a b. constraint h place strength a b) (at ∙ ap (read_home s) one) (whole ∙ ap (λ p. typed_home table s (ExprTree.Relation p RelationSign.Equal l v)) is)

module _ (table : Table) (s : Site) (h : Holder) (value : ExprTree) (begins : Place) (left right : Checked) (o : Occurrence) where
  abbrev Told : Type 0
  Told = (tb : Table) (l v : ExprTree) → begins ≡ first v → IsChecked tb s.scope l left → IsChecked tb s.scope v right → o ≡ equal_kept tb s h begins Strength.Default l v

  -- `it` has an initial value
  pub initial_of : Told → begins ≡ first value → left.fault ≡ first_fault (it_rows s.scope begins) → seen_part left.typed ≡ it_typed table s.scope begins → IsChecked table s.scope value right
      → o ≡ initial_kept table s h (ExprTree.It (first value)) value
  initial_of told is fault one other = told table (ExprTree.It begins) value is (fault, one) other ∙ ap (λ p. equal_kept table s h p Strength.Default (ExprTree.It p) value) is

  -- an element has an initial value
  pub element_of : Told → (n : ℕ) (sample : Sample) → SampleFor table s.scope n (Some sample) → begins ≡ first value → left.fault ≡ None → seen_part left.typed ≡ Some (element_read begins n sample) → IsChecked table s.scope value right
      → o ≡ initial_kept table s h (element (first value) n) value
  unfolding SampleFor
  element_of told n sample known is fault one other =
      told table (element begins n) value is (fault ∙ sym (known begins).0, one ∙ sym (known begins).1) other ∙ ap (λ p. equal_kept table s h p Strength.Default (element p n) value) is

-- nothing is known of an element
module _ (table : Table) (s : Site) (h : Holder) where
  either : (b : Bool) (o : Option Typed) → o ≡ None → cond b None o ≡ None
  either true o h = refl
  either false o h = h

  no_relation : (p : Place) (b : Option Typed) → comparison_typed p Compare.Equal None b ≡ None
  no_relation p b = either (any_holds (comparison_rows p Compare.Equal None b)) None refl

  pub nothing_of : (n : ℕ) (value : ExprTree) (at : Place) → at ≡ first value → SampleFor table s.scope n None → constraint h at Strength.Default None None ≡ initial_kept table s h (element (first value) n) value
  unfolding SampleFor
  nothing_of n value at is none =
      ap (λ p. constraint h p Strength.Default None None) is
      ∙ ap₂ (λ a b. constraint h (first value) Strength.Default a b)
      (sym (ap (read_home s) (none (first value))))
      (sym (ap (λ l. option_map (moved (at_home s)) (comparison_typed (first value) Compare.Equal l (typed table s.scope value))) (none (first value))
      ∙ ap (option_map (moved (at_home s))) (no_relation (first value) (typed table s.scope value))))
