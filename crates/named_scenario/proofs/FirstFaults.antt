-- The first fault of declarations, from the first fault of each group.
use Rattle.std.proofs.Common.{◌≡◌, ◌∙◌, refl, sym, ap, subst, ℕ, List, Option, Some, None, Bool, true, false, cond, Result, Ok, Err, IfErr}
use Rattle.std.specs.Prelude.{IsErrAnd, option_and_then}
use Rattle.osc_base.specs.declared.stop.Stop.{Stop}
use Rattle.std.specs.Option.{option_or}
use Rattle.osc_base.specs.declared.fault.Fault.{Fault}
use Rattle.osc_base.specs.FaultRows.{first_fault}
use Rattle.dsl_tree.specs.FileTree.{CompoundTree}
use Rattle.name_scope.specs.FileNumbers.{AddedFile}
use Rattle.program_uses.specs.type_heads.Table.{form, is_scenario, named}
use Rattle.program_uses.specs.type_heads.Told.{Told, told}
use Rattle.program_uses.specs.type_heads.HeadingFaults.{heading_rows}
use Rattle.program_uses.specs.type_heads.MemberFaults.{member_fault_rows}
use Rattle.program_uses.specs.type_heads.DeclaredTypes.{program_of}
use Rattle.program_uses.specs.composition.Uses.{use_rows}
use Rattle.named_scenario.specs.Declarations.{IsDeclaredBy, scenario_declared}
use Rattle.named_scenario.specs.Naming.{fault_in, scenario_in, types_in}
use Rattle.named_scenario.proofs.DeclaredScenario.{StandsFor, stands_for}

earlier : {A : Type 0} (a b c : Option A) (x : A) → option_or a b ≡ Some x → option_or a (option_or b c) ≡ Some x
earlier (Some a) b c x is = is
earlier None (Some b) c x is = is
earlier None None c x is = let never : None ≡ Some x = is in absurd cc

last : {A : Type 0} (a b c o : Option A) → a ≡ None → b ≡ None → c ≡ o → option_or a (option_or b c) ≡ o
last a b c o none none' is = ap (λ a. option_or a (option_or b c)) none ∙ ap (λ b. option_or b c) none' ∙ is

module _ (files : List AddedFile) where
  abbrev of_headings : Option Fault
  of_headings = first_fault (heading_rows (program_of files) (types_in files))

  abbrev of_members : Option Fault
  of_members = first_fault (member_fault_rows (types_in files))

  -- the fault at which no types are built
  pub built_fault : (f : Fault) → option_or of_headings of_members ≡ Some f → fault_in files ≡ Some f
  unfolding fault_in
  built_fault f is = earlier of_headings of_members (first_fault (use_rows (types_in files))) f is

  -- the fault of uses, or none
  pub use_fault : (o : Option Fault) → of_headings ≡ None → of_members ≡ None → o ≡ first_fault (use_rows (types_in files)) → fault_in files ≡ o
  unfolding fault_in
  use_fault o none none' is = last of_headings of_members (first_fault (use_rows (types_in files))) o none none' (sym is)

  module _ (owner : Option (List ℕ)) (name : List ℕ) (ts : Told) (found : Option ℕ) where
    abbrev named_there : Told → Option ℕ
    named_there ts = option_and_then (λ t. cond (is_scenario (form ts.table.heads t)) (Some t) None) (named ts.table.heads owner name)

    pub found_is : ts ≡ told (types_in files) → found ≡ named_there ts → scenario_in files owner name ≡ found
    unfolding scenario_in
    found_is same is = sym (is ∙ ap named_there same)

    of_scenario : (t : ℕ) (o : Option ℕ) → option_and_then (λ t. cond (is_scenario (form (types_in files).table.heads t)) (Some t) None) o ≡ Some t → (o ≡ Some t) × (is_scenario (form (types_in files).table.heads t) ≡ true)
    of_scenario t None is = let never : None ≡ Some t = is in absurd cc
    of_scenario t (Some u) is = by (is_scenario (form (types_in files).table.heads u)) refl is
      where
        by : (b : Bool) → is_scenario (form (types_in files).table.heads u) ≡ b → cond b (Some u) None ≡ Some t → (Some u ≡ Some t) × (is_scenario (form (types_in files).table.heads t) ≡ true)
        by true holds is = (is, let same : u ≡ t = cc in subst (λ t. is_scenario (form (types_in files).table.heads t) ≡ true) same holds)
        by false fails is = let never : None ≡ Some t = is in absurd cc

    pub stands : (t : ℕ) → ts ≡ told (types_in files) → found ≡ named_there ts → found ≡ Some t → StandsFor files owner name (types_in files) t
    stands t same is some =
        let h = of_scenario t (named (types_in files).table.heads owner name) (sym (ap named_there same) ∙ sym is ∙ some) in
        stands_for files owner name t h.0 h.1

    pub declared_by : (t : ℕ) (c : CompoundTree) → ts ≡ told (types_in files) → found ≡ named_there ts → found ≡ Some t → Some c ≡ scenario_declared files owner name →
        IsDeclaredBy (types_in files) t c
    declared_by t c same is some its =
        let h = stands t same is some in
        let equal : h.c ≡ c = let both : Some h.c ≡ Some c = sym h.stands ∙ sym its in cc in
        subst (IsDeclaredBy (types_in files) t) equal h.by

    pub never_absent : (t : ℕ) → ts ≡ told (types_in files) → found ≡ named_there ts → found ≡ Some t → None ≡ scenario_declared files owner name → ⊥
    never_absent t same is some none = let h = stands t same is some in let never : None ≡ Some h.c = none ∙ h.stands in cc

-- types that can't be built
pub unbuilt : {T : Type 0} (files : List AddedFile) (r : Result T (Stop Fault)) (e : Stop Fault) →
    ((f : Fault) → e ≡ Stop.At f → option_or (of_headings files) (of_members files) ≡ Some f) → IsErrAnd r (λ x. x ≡ e) →
    IfErr r (λ stop. (f : Fault) → stop ≡ Stop.At f → fault_in files ≡ Some f)
unbuilt files (Ok x) e at same = tt
unbuilt files (Err x) e at same = λ f is. built_fault files f (at f (sym same ∙ is))

-- a fault that is told is the one that is meant
pub told_fault : (files : List AddedFile) (first : Fault) → fault_in files ≡ Some first → (f : Fault) → Stop.At first ≡ Stop.At f → fault_in files ≡ Some f
told_fault files first is f same = let equal : first ≡ f = cc in is ∙ ap Some equal

-- out of memory is no fault
pub no_fault : {T : Type 0} (files : List AddedFile) (r : Result T (Stop Fault)) → IsErrAnd r (λ x. x ≡ Stop.Memory) →
    IfErr r (λ stop. (f : Fault) → stop ≡ Stop.At f → fault_in files ≡ Some f)
no_fault files (Ok x) same = tt
no_fault files (Err x) same = λ f is. let never : Stop.Memory ≡ Stop.At f = sym same ∙ is in absurd cc
