-- The text of types, one at a time.
use Rattle.std.proofs.Common.{◌≡◌, ◌∙◌, sym, ap, ap₂, ℕ, ◌&&◌, Bool, length, List, [], ◌∷◌, ◌++◌, Option, Some, None, append-nil, flat_map, map, option_map, option_to_list, slice_index_or}
use Rattle.std.proofs.lemmas.Grind.{flat_map-append}
use Rattle.osc_base.specs.declared.fault.Place.{Place}
use Rattle.osc_base.specs.declared.fault.Fault.{Fault}
use Rattle.osc_base.specs.declared.fault.FaultCode.{FaultCode}
use Rattle.osc_base.specs.FaultRows.{first_from, first_of, row, row_fault}
use Rattle.osc_base.proofs.FaultRows.{first_from_joined}
use Rattle.dsl_tree.specs.FileTree.{FieldTree, MemberTree}
use Rattle.dsl_tree.specs.PhaseTree.{RuleTree}
use Rattle.dsl_tree.specs.Views.{phase_tree}
use Rattle.expr_nodes.specs.type_heads.Bodied.{seen_body, seen_written}
use Rattle.expr_nodes.specs.type_heads.declared.body.Body.{Body}
use Rattle.expr_nodes.specs.type_heads.declared.body.WrittenMember.{WrittenMember}
use Rattle.expr_nodes.specs.type_heads.Cycles.{returns}
use Rattle.expr_nodes.specs.type_heads.Members.{body, the_do}
use Rattle.expr_nodes.specs.type_heads.Table.{Table, form, is_scenario}
use Rattle.expr_nodes.specs.type_heads.Types.{Do, Types}
use Rattle.expr_nodes.specs.Scope.{Scope}
use Rattle.program_calls.specs.composition.Calls.{PhaseHere, phases_in, scope_at}
use Rattle.program_calls.specs.composition.Uses.{invocation_row, invocations, member_use_rows, rule_rows, text_rows}
use Rattle.program_calls.specs.SeenLabels.{LabelHere, do_labels, labels_here}
use Rattle.program_uses.specs.FieldRows.{field_in}
use Rattle.program_uses.specs.SeenTexts.{bare_body, written_rows}
use Rattle.program_fields.specs.SeenFields.{seen_do}
use Rattle.program_fields.specs.declared.fields.TypeDo.{TypeDo}
use Rattle.program_uses.proofs.InvokedSteps.{index_map, returns_same}

-- the body of a type
pub body_at : (ts : Types) (bodies : List Body) → map seen_body bodies ≡ ts.bodies → (t : ℕ) → body ts.bodies t ≡ seen_body (slice_index_or bodies t bare_body)
body_at ts bodies same t = sym (ap (λ bs. body bs t) same) ∙ index_map seen_body bare_body bodies t

-- the members of a text
pub text_law : (ts : Types) (t : ℕ) (bodies : List Body) (own more : List WrittenMember) → map seen_body bodies ≡ ts.bodies → own ≡ (slice_index_or bodies t bare_body).own → more ≡ (slice_index_or bodies t bare_body).more →
    flat_map (written_rows ts t) (map seen_written own) ++ flat_map (written_rows ts t) (map seen_written more) ≡ text_rows ts t
text_law ts t bodies own more same is also =
    sym (flat_map-append (written_rows ts t) (map seen_written own) (map seen_written more))
    ∙ ap₂ (λ xs ys. flat_map (written_rows ts t) (map seen_written xs ++ map seen_written ys)) is also
    ∙ sym (ap (λ b. flat_map (written_rows ts t) (b.own ++ b.more)) (body_at ts bodies same t))

-- the labels of the `do` of a type
abbrev here : Types → Do → List LabelHere
here ts d = labels_here ts.table d.holder (phases_in d.phase)

pub labels_told : (ts : Types) (t : ℕ) (table : Table) (d : TypeDo) (o : Option TypeDo) (labels : List LabelHere) (phases : List PhaseHere) → table ≡ ts.table → option_map seen_do o ≡ the_do ts t → o ≡ Some d →
    labels ≡ labels_here table d.holder phases → phases ≡ phases_in (phase_tree d.phase.now) → labels ≡ do_labels ts t
labels_told ts t table d o labels phases same told some is also =
    is ∙ ap₂ (λ tb ps. labels_here tb d.holder ps) same also ∙ sym (append-nil (labels_here ts.table d.holder (phases_in (phase_tree d.phase.now))))
    ∙ ap (λ x. flat_map (here ts) (option_to_list x)) (sym (ap (option_map seen_do) some) ∙ told)

pub labels_none : (ts : Types) (t : ℕ) (o : Option TypeDo) → option_map seen_do o ≡ the_do ts t → o ≡ None → [] ≡ do_labels ts t
labels_none ts t o told none = ap (λ x. flat_map (here ts) (option_to_list x)) (sym (ap (option_map seen_do) none) ∙ told)

-- one text more, and one row more
pub next_text : (ts : Types) (whole found found' : Option Fault) (n : ℕ) (left later : List ℕ) → left ≡ n ∷ later → found' ≡ first_from found (text_rows ts n) →
    whole ≡ first_from found (flat_map (text_rows ts) left) → whole ≡ first_from found' (flat_map (text_rows ts) later)
next_text ts whole found found' n left later is more rest =
    rest ∙ ap (λ ns. first_from found (flat_map (text_rows ts) ns)) is ∙ first_from_joined found (text_rows ts n) (flat_map (text_rows ts) later)
    ∙ ap (λ f. first_from f (flat_map (text_rows ts) later)) (sym more)

pub next_row : (ts : Types) (whole found found' : Option Fault) (n : ℕ) (left later : List ℕ) → left ≡ n ∷ later → found' ≡ first_of found (row_fault (invocation_row ts n)) →
    whole ≡ first_from found (map (invocation_row ts) left) → whole ≡ first_from found' (map (invocation_row ts) later)
next_row ts whole found found' n left later is more rest =
    rest ∙ ap (λ ns. first_from found (map (invocation_row ts) ns)) is ∙ ap (λ f. first_from f (map (invocation_row ts) later)) (sym more)

-- the row of a scenario that invokes itself
pub row_is : (ts : Types) (table : Table) (bodies : List Body) (rows : ℕ → List ℕ) (n : ℕ) (place : Place) (wrong : Bool) → table ≡ ts.table → map seen_body bodies ≡ ts.bodies →
    ((t : ℕ) → rows t ≡ invocations ts t) → place ≡ (slice_index_or bodies n bare_body).place → wrong ≡ (is_scenario (form table.heads n) && returns (length table.heads) rows n) →
    row place FaultCode.Cycle wrong ≡ invocation_row ts n
row_is ts table bodies rows n place wrong same told each at is =
    ap₂ (λ p b. row p FaultCode.Cycle b) (at ∙ sym (ap (λ b. b.place) (body_at ts bodies told n)))
    (is ∙ ap (λ t. is_scenario (form t.heads n) && returns (length t.heads) rows n) same
    ∙ ap (λ b. is_scenario (form ts.table.heads n) && b) (returns_same (length ts.table.heads) rows (invocations ts) each n))

-- a field and a rule in the text of a type
pub field_member : (ts : Types) (table : Table) (sc : Scope) (t : ℕ) (before : Option Fault) (f : FieldTree) → table ≡ ts.table → sc ≡ scope_at ts t None [] →
    first_from before (field_in table sc f) ≡ first_from before (member_use_rows ts t (MemberTree.Field f))
field_member ts table sc t before f same is = ap₂ (λ tb s. first_from before (field_in tb s f)) same is

pub rule_member : (ts : Types) (table : Table) (sc : Scope) (t : ℕ) (before : Option Fault) (r : RuleTree) → table ≡ ts.table → sc ≡ scope_at ts t None [] →
    first_from before (rule_rows table sc r) ≡ first_from before (member_use_rows ts t (MemberTree.Rule r))
rule_member ts table sc t before r same is = ap₂ (λ tb s. first_from before (rule_rows tb s r)) same is
