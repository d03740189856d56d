-- The arguments of a composition, one at a time.
use Rattle.std.proofs.Common.{◌≡◌, ◌∙◌, refl, sym, ap, subst, ℕ, Bool, true, false, ◌||◌, List, [], ◌∷◌, ◌++◌, Option, Some, None, bytes_eq}
use Rattle.std.specs.List.{list_any}
use Rattle.std.specs.Option.{option_map_or}
use Rattle.osc_base.specs.declared.fault.Fault.{Fault}
use Rattle.osc_base.specs.declared.fault.FaultCode.{FaultCode}
use Rattle.osc_base.specs.FaultRows.{row, row_fault, first_of, first_from}
use Rattle.osc_base.proofs.FaultRows.{first_from_joined}
use Rattle.dsl_tree.specs.declared.parts.Ident.{Ident}
use Rattle.dsl_tree.specs.declared.phases.CompKind.{CompKind}
use Rattle.dsl_tree.specs.ExprTree.{ExprTree}
use Rattle.dsl_tree.specs.PhaseTree.{ArgumentTree}
use Rattle.fault_sets.specs.NameRows.{HasTexts}
use Rattle.expr_nodes.specs.type_heads.Table.{Table}
use Rattle.expr_nodes.specs.Scope.{Scope}
use Rattle.expr_nodes.specs.Typing.{expr_rows, first as begins}
use Rattle.program_calls.specs.composition.Uses.{among, composition_rows, is_overlap, named_rows}
use Rattle.program_calls.specs.NameExprs.{name_in}
use Rattle.program_uses.specs.CompositionRows.{ContinuesComposition, ContinuesNamed, composed_rows, name_given, overlap_words, valued_rows}
use Rattle.program_uses.proofs.ArgumentSteps.{one_text_more}

-- one of the words after `overlap:`
overlap_by : (e : ExprTree) → option_map_or (λ (i : Ident). among i.text overlap_words) (name_in e) false ≡ is_overlap e
overlap_by (ExprTree.Name i) = refl
overlap_by _ = refl

pub overlap_named : (e : ExprTree) (i : Ident) → Some i ≡ name_in e → among i.text overlap_words ≡ is_overlap e
overlap_named e i h = ap (λ o. option_map_or (λ (j : Ident). among j.text overlap_words) o false) h ∙ overlap_by e

pub overlap_unnamed : (e : ExprTree) → None ≡ name_in e → false ≡ is_overlap e
overlap_unnamed e h = ap (λ o. option_map_or (λ (j : Ident). among j.text overlap_words) o false) h ∙ overlap_by e

-- a name that may have been met, and then the rows of the value
pub named_step : (table : Table) (sc : Scope) (comp : CompKind) (first own found : Option Fault) (old new : List (List ℕ)) (i : Ident) (value : ExprTree) (text : List ℕ) (is_met : Bool) →
    text ≡ i.text → is_met ≡ list_any (bytes_eq text) old → ((other : List ℕ) → list_any (bytes_eq other) new ≡ (bytes_eq other text || list_any (bytes_eq other) old)) →
    own ≡ first_of first (row_fault (row i.place FaultCode.BadArgument is_met)) → found ≡ first_from own (valued_rows table sc comp i value) →
    ContinuesNamed table sc comp first old found new i value
named_step table sc comp first own found old new i value text is_met same is more one rest earlier has = (
  one_text_more old new earlier i.text has (λ other. more other ∙ ap (λ t. bytes_eq other t || list_any (bytes_eq other) old) same),
  rest ∙ ap (λ f. first_from f (valued_rows table sc comp i value))
      (one ∙ ap (λ m. first_of first (row_fault (row i.place FaultCode.BadArgument m))) (is ∙ has text ∙ ap (λ t. among t earlier) same)),
)

-- an argument with a name, and one without
module _ (table : Table) (sc : Scope) (comp : CompKind) (first found : Option Fault) (old : List (List ℕ)) (a : ArgumentTree) where
  pub with_name : (new : List (List ℕ)) (i : Ident) → a.name ≡ Some i → ContinuesNamed table sc comp first old found new i a.value → ContinuesComposition table sc comp first old found new a
  with_name new i is more earlier has =
      let now = more earlier has in (
        subst (λ o. HasTexts new (option_map_or (λ (j : Ident). j.text ∷ []) o [] ++ earlier)) (sym is) now.0,
        now.1 ∙ ap (λ o. first_from first (option_map_or (λ (j : Ident). named_rows table sc comp earlier j a.value) o (row (begins a.value) FaultCode.BadArgument true ∷ expr_rows table sc a.value))) (sym is),
      )

  pub without_name : a.name ≡ None → found ≡ first_from first (row (begins a.value) FaultCode.BadArgument true ∷ expr_rows table sc a.value) → ContinuesComposition table sc comp first old found old a
  without_name is rest earlier has = (
    subst (λ o. HasTexts old (option_map_or (λ (j : Ident). j.text ∷ []) o [] ++ earlier)) (sym is) has,
    rest ∙ ap (λ o. first_from first (option_map_or (λ (j : Ident). named_rows table sc comp earlier j a.value) o (row (begins a.value) FaultCode.BadArgument true ∷ expr_rows table sc a.value))) (sym is),
  )

-- what is left of some arguments
pub record CompositionLeft (table : Table) (sc : Scope) (comp : CompKind) (whole : Option Fault) (set : List (List ℕ)) (found : Option Fault) (left : List ArgumentTree) : Type 0 where
  pub earlier : List (List ℕ)
  pub has : HasTexts set earlier
  pub rest : whole ≡ first_from found (composition_rows table sc comp earlier left)

pub next_composed : (table : Table) (sc : Scope) (comp : CompKind) (whole : Option Fault) (set set' : List (List ℕ)) (found found' : Option Fault) (left later : List ArgumentTree) (a : ArgumentTree) →
    left ≡ a ∷ later → ContinuesComposition table sc comp found set found' set' a → CompositionLeft table sc comp whole set found left → CompositionLeft table sc comp whole set' found' later
next_composed table sc comp whole set set' found found' left later a is more l =
    let now = more l.earlier l.has in
    let others = composition_rows table sc comp (name_given a ++ l.earlier) later in
    record {
      earlier = name_given a ++ l.earlier;
      has = now.0;
      rest = l.rest ∙ ap (λ args. first_from found (composition_rows table sc comp l.earlier args)) is
          ∙ first_from_joined found (composed_rows table sc comp l.earlier a) others ∙ ap (λ f. first_from f others) (sym now.1);
    }

pub none_composed : (table : Table) (sc : Scope) (comp : CompKind) (whole : Option Fault) (set : List (List ℕ)) (found : Option Fault) (left : List ArgumentTree) → left ≡ [] →
    CompositionLeft table sc comp whole set found left → found ≡ whole
none_composed table sc comp whole set found left none l = sym (l.rest ∙ ap (λ args. first_from found (composition_rows table sc comp l.earlier args)) none)
