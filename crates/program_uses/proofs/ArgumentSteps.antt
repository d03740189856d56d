-- The arguments of an invocation, one at a time.
use Rattle.std.proofs.Common.{◌≡◌, ◌∙◌, sym, ap, ap₂, subst, ℕ, ◌+◌, Bool, true, ◌||◌, cond, List, [], ◌∷◌, ◌++◌, Option, None, bytes_eq, codes, is_some}
use Rattle.std.specs.List.{list_any}
use Rattle.osc_base.specs.declared.fault.Place.{Place}
use Rattle.osc_base.specs.declared.fault.Fault.{Fault}
use Rattle.osc_base.specs.declared.fault.FaultCode.{FaultCode}
use Rattle.osc_base.specs.FaultRows.{row, row_fault, first_of, first_from}
use Rattle.osc_base.proofs.FaultRows.{first_from_joined}
use Rattle.dsl_tree.specs.declared.parts.Ident.{Ident}
use Rattle.dsl_tree.specs.PhaseTree.{ArgumentTree}
use Rattle.fault_sets.specs.NameRows.{HasTexts}
use Rattle.expr_nodes.specs.type_heads.Table.{Table}
use Rattle.expr_nodes.specs.type_heads.Types.{Field}
use Rattle.expr_nodes.specs.Fits.{duration_fit_rows}
use Rattle.expr_nodes.specs.Scope.{Scope}
use Rattle.expr_nodes.specs.Typing.{typed, expr_rows, first as begins}
use Rattle.program_calls.specs.composition.Calls.{Assigned}
use Rattle.program_calls.specs.composition.Uses.{among, argument_place, assigned_rows, name_assigned}
use Rattle.program_uses.specs.ArgumentRows.{Continues, arguments_in, assigned_in, field_value_rows}
use Rattle.program_uses.specs.TableTypes.{of_table}

-- a set with one text more
pub one_text_more : (set set' earlier : List (List ℕ)) (text : List ℕ) → HasTexts set earlier →
    ((other : List ℕ) → list_any (bytes_eq other) set' ≡ (bytes_eq other text || list_any (bytes_eq other) set)) → HasTexts set' (text ∷ earlier)
one_text_more set set' earlier text has more other = more other ∙ ap (λ b. bytes_eq other text || b) (has other)

module _ (table : Table) (sc : Scope) (first : Option Fault) (old : List (List ℕ)) (a : ArgumentTree) where
  -- more arguments than fields
  pub surplus : (place : Place) (found : Option Fault) → place ≡ begins a.value → found ≡ first_of first (row_fault (row place FaultCode.BadArgument true)) →
      Continues table sc first old found old a Assigned.Surplus
  surplus place found at is earlier has = (has, is ∙ ap (λ p. first_of first (row_fault (row p FaultCode.BadArgument true))) at)

  -- a name that tells nothing
  pub unknown : (name : Ident) (found : Option Fault) → found ≡ first_of first (row_fault (row name.place FaultCode.Unknown true)) →
      Continues table sc first old found old a (Assigned.Unknown name)
  unknown name found is earlier has = (has, is)

  -- a name that may have been met
  met_row : (text : List ℕ) (earlier : List (List ℕ)) (place : Place) (is_met : Bool) → HasTexts old earlier → is_met ≡ list_any (bytes_eq text) old → place ≡ argument_place a →
      (other : Bool) → first_of first (row_fault (row place FaultCode.BadArgument (is_met || other))) ≡ first_of first (row_fault (row (argument_place a) FaultCode.BadArgument (among text earlier || other)))
  met_row text earlier place is_met has is at other =
      ap₂ (λ p m. first_of first (row_fault (row p FaultCode.BadArgument (m || other)))) at (is ∙ has text)

  -- the duration
  pub duration : (new : List (List ℕ)) (place : Place) (is_met : Bool) (own found : Option Fault) → place ≡ argument_place a →
      is_met ≡ list_any (bytes_eq (codes "duration")) old → ((other : List ℕ) → list_any (bytes_eq other) new ≡ (bytes_eq other (codes "duration") || list_any (bytes_eq other) old)) →
      own ≡ first_of first (row_fault (row place FaultCode.BadArgument is_met)) → found ≡ first_from own (duration_fit_rows (begins a.value) (typed table sc a.value)) →
      Continues table sc first old found new a Assigned.Duration
  duration new place is_met own found at is more one rest earlier has = (
    one_text_more old new earlier (codes "duration") has more,
    rest ∙ ap (λ f. first_from f (duration_fit_rows (begins a.value) (typed table sc a.value)))
        (one ∙ ap₂ (λ p m. first_of first (row_fault (row p FaultCode.BadArgument m))) at (is ∙ has (codes "duration"))),
  )

  -- a field
  pub given : (f : Field) (new : List (List ℕ)) (text : List ℕ) (place : Place) (is_met is_list : Bool) (own found : Option Fault) → text ≡ f.name.text → place ≡ argument_place a →
      is_list ≡ is_some f.tree.list → is_met ≡ list_any (bytes_eq text) old → ((other : List ℕ) → list_any (bytes_eq other) new ≡ (bytes_eq other text || list_any (bytes_eq other) old)) →
      own ≡ first_of first (row_fault (row place FaultCode.BadArgument (is_met || is_list))) →
      found ≡ first_from own (cond (is_some f.tree.list) [] (field_value_rows table sc f.tree a.value)) → Continues table sc first old found new a (Assigned.Given f)
  given f new text place is_met is_list own found named at listed is more one rest earlier has = (
    one_text_more old new earlier f.name.text has (λ other. more other ∙ ap (λ t. bytes_eq other t || list_any (bytes_eq other) old) named),
    rest ∙ ap (λ g. first_from g (cond (is_some f.tree.list) [] (field_value_rows table sc f.tree a.value)))
        (one ∙ met_row text earlier place is_met has is at is_list
        ∙ ap₂ (λ t l. first_of first (row_fault (row (argument_place a) FaultCode.BadArgument (among t earlier || l)))) named listed),
  )

-- what is left of some arguments
pub record ArgumentsLeft (table : Table) (sc : Scope) (fields : List Field) (whole : Option Fault) (set : List (List ℕ)) (found : Option Fault) (n : ℕ) (left : List ArgumentTree) : Type 0 where
  pub earlier : List (List ℕ)
  pub has : HasTexts set earlier
  pub rest : whole ≡ first_from found (arguments_in table sc fields earlier n left)

pub next_argument : (table : Table) (sc : Scope) (fields : List Field) (whole : Option Fault) (set set' : List (List ℕ)) (found own found' : Option Fault) (n : ℕ)
    (left later : List ArgumentTree) (a : ArgumentTree) (to : Assigned) → left ≡ a ∷ later → own ≡ first_from found (expr_rows table sc a.value) → to ≡ assigned_in fields n a.name →
    Continues table sc own set found' set' a to → ArgumentsLeft table sc fields whole set found n left → ArgumentsLeft table sc fields whole set' found' (n + 1) later
next_argument table sc fields whole set set' found own found' n left later a to is mine same more l =
    let goes = assigned_in fields n a.name in
    let step : Continues table sc own set found' set' a goes = subst (λ x. Continues table sc own set found' set' a x) same more in
    let now = step l.earlier l.has in
    let others = arguments_in table sc fields (name_assigned goes ++ l.earlier) (n + 1) later in
    record {
      earlier = name_assigned goes ++ l.earlier;
      has = now.0;
      rest = l.rest ∙ ap (λ args. first_from found (arguments_in table sc fields l.earlier n args)) is
          ∙ first_from_joined found (expr_rows table sc a.value ++ assigned_rows (of_table None table) sc l.earlier a goes) others
          ∙ ap (λ f. first_from f others) (first_from_joined found (expr_rows table sc a.value) (assigned_rows (of_table None table) sc l.earlier a goes)
          ∙ ap (λ f. first_from f (assigned_rows (of_table None table) sc l.earlier a goes)) (sym mine) ∙ sym now.1);
    }

pub no_argument : (table : Table) (sc : Scope) (fields : List Field) (whole : Option Fault) (set : List (List ℕ)) (found : Option Fault) (n : ℕ) (left : List ArgumentTree) → left ≡ [] →
    ArgumentsLeft table sc fields whole set found n left → found ≡ whole
no_argument table sc fields whole set found n left none l = sym (l.rest ∙ ap (λ args. first_from found (arguments_in table sc fields l.earlier n args)) none)
