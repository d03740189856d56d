-- The laws, from their lemmas.
use Rattle.std.proofs.Common.{List, ◌≡◌, ℕ, ◌<◌, ◌≤◌, ◌^◌, refl, sym, ap, subst, ◌∙◌, Bool, true, false, ◌&&◌, ◌||◌, Option, Some, None, length, arith}
use Rattle.std.specs.Prelude.{nat_lt, codes, cond, option_and_then}
use Rattle.std.specs.List.{list_all}
use Rattle.expansion_laws.specs.type_heads.Types.{Program, Types, Member, Field, Do}
use Rattle.expansion_laws.specs.type_heads.DeclaredTypes.{types_of, Placed, placed}
use Rattle.expansion_laws.specs.composition.declared.setting.Setting.{Setting}
use Rattle.expansion_laws.specs.composition.Slots.{slot_names}
use Rattle.expansion_laws.specs.composition.Items.{items}
use Rattle.expansion_laws.specs.composition.Expansion.{expansion}
use Rattle.expansion_laws.specs.composition.Expanded.{scene_from, scene}
use Rattle.expansion_laws.specs.composition.SceneFaults.{object_count, most_slots, most_rules, named_scenario}
use Rattle.expansion_laws.specs.composition.Invariants.{are_texts}
use Rattle.expansion_laws.specs.dsl_tree.FileTree.{DeclarationTree, MemberTree}
use Rattle.field_flatten.proofs.Tests.{left_of, all_at, all_from, In, map_in, flat_map_in}
use Rattle.scene_laws.specs.Premises.{is_formed, is_written, is_spelled, is_spelled_program, is_free}
use Rattle.scene_laws.specs.SceneLaws.{ScenesHaveRanges, ScenesAreFew, TypedAreSound, ConditionsAreGrounded, ConditionsAreSmall, ScenesAreLaidOut}
use Rattle.expansion_laws.proofs.SceneCounts.{fewer_rules}
use Rattle.scene_laws.proofs.FaultRows.{no_left, no_right, no_faults}
use Rattle.scene_laws.proofs.LowestTerms.{below}
use Rattle.scene_laws.proofs.IsSound.{scalar_values}
use Rattle.scene_laws.proofs.TypedSound.{typed_good}
use Rattle.scene_laws.proofs.MovedPaths.{sound_moved, values_moved}
use Rattle.scene_laws.proofs.Grounded.{all_occurrences_grounded, all_modifiers_grounded, all_occurrences_small, all_modifiers_small}
use Rattle.scene_laws.proofs.OrderedTexts.{program_texts}
use Rattle.scene_laws.proofs.EnumHeads.{program_enums}
use Rattle.scene_laws.proofs.Ranges.{all_ranges, all_ordered}
use Rattle.scene_laws.proofs.WrittenMembers.{AllMembers, all_members, members_pass}
use Rattle.scene_laws.proofs.FullPhases.{choices_full}
use Rattle.expansion_laws.specs.dsl_tree.declared.parts.Ident.{Ident}
use Rattle.expansion_laws.specs.dsl_tree.declared.compounds.CompoundKind.{CompoundKind}
use Rattle.expansion_laws.specs.type_heads.Form.{Form}
use Rattle.expansion_laws.specs.type_heads.Table.{form, named, is_compound, is_behaviour, is_scenario}
use Rattle.expansion_laws.specs.type_heads.Members.{members, fields_declared, fields, the_do}
use Rattle.expansion_laws.specs.composition.StaticFaults.{declaration_fault}
use Rattle.scene_laws.proofs.FieldNames.{Pairs, NamesDiffer, program_counted, fields_apart, no_duration}
use Rattle.scene_laws.proofs.OwnedHeads.{AreOwned, HaveActors, program_owned, program_actors, do_scenario}
use Rattle.scene_laws.proofs.DistinctPaths.{choices_distinct, values_distinct, phases_distinct, vehicles_distinct}
use Rattle.scene_laws.proofs.NestedPhases.{all_nested}
use Rattle.scene_laws.proofs.WholeRun.{whole_is}
use Rattle.scene_laws.proofs.NoDurations.{no_durations}

-- a test of members that each written member passes
pub declarations_pass : (test : MemberTree → Bool) → ((m : MemberTree) → is_written m ≡ true → test m ≡ true) → (p : Program) → is_spelled_program p ≡ true → list_all (λ (d : Placed). members_pass test d.declaration) (placed p) ≡ true
declarations_pass test f p h = all_from (λ (d : Placed). members_pass test d.declaration) (placed p) (λ d i. by d.declaration (all_at (λ (d : Placed). is_spelled d.declaration) (placed p) h d i))
  where
    by : (d : DeclarationTree) → is_spelled d ≡ true → members_pass test d ≡ true
    by (DeclarationTree.CompoundDeclaration d) s = all_from test d.members (λ m i. f m (all_at is_written d.members s m i))
    by (DeclarationTree.MemberExtension d) s = all_from test d.members (λ m i. f m (all_at is_written d.members s m i))
    by (DeclarationTree.TypeDeclaration d) s = refl
    by (DeclarationTree.UnitDeclaration d) s = refl
    by (DeclarationTree.EnumDeclaration d) s = refl
    by (DeclarationTree.EnumExtension d) s = refl

pub all_formed : (p : Program) → is_spelled_program p ≡ true → AllMembers is_formed (types_of p)
all_formed p h = all_members is_formed p (declarations_pass is_formed (λ m w. left_of (is_formed m) _ w) p h)

texts_are : (p : Program) (t : ℕ) (setting : Setting) → (are_texts (scene (types_of p) t setting).texts && nat_lt 0 (length (scene (types_of p) t setting).texts)) ≡ true
unfolding types_of
texts_are p t setting = program_texts p.files

pub scenes_have_ranges : ScenesHaveRanges
scenes_have_ranges p t setting written none =
    let faults = no_faults p (types_of p) none in
    let enums = program_enums p written faults.headings in
    record {
      ranges = all_ranges (types_of p) enums t setting;
      enums_ordered = all_ordered (types_of p) enums t setting;
      choices_full = choices_full (types_of p) (all_formed p written) t setting;
      texts = texts_are p t setting;
    }

few : (n most : ℕ) → nat_lt most n ≡ false → most < 2 ^ 32 → nat_lt n (2 ^ 32) ≡ true
few n most h l = less n (2 ^ 32) (step n most (2 ^ 32) (below most n h) l)
  where
    less : (a b : ℕ) → a < b → nat_lt a b ≡ true
    less a b p = grind arith

    step : (a b c : ℕ) → a ≤ b → b < c → a < c
    step a b c p q = omega (arith, p, q)

no_more : (n m most : ℕ) → m ≤ n → nat_lt most n ≡ false → nat_lt most m ≡ false
no_more n m most l h = above m most (under n most (below most n h) l)
  where
    above : (a b : ℕ) → a ≤ b → nat_lt b a ≡ false
    above a b p = grind arith

    under : (n most : ℕ) → n ≤ most → m ≤ n → m ≤ most
    under n most p q = omega (arith, p, q)

pub scenes_are_few : ScenesAreFew
scenes_are_few ts t setting h =
    let whole = scene_from ts setting (expansion ts t) in
    let slots = no_right (nat_lt most_slots (object_count whole)) _ h in
    let rules = no_right (nat_lt most_slots (length (slot_names whole))) _ slots in
    record {
      few_slots = few (length (slot_names whole)) most_slots (no_left (nat_lt most_slots (length (slot_names whole))) _ slots) (omega arith);
      few_rules =
          few (length (items (scene ts t setting))) most_rules
          (no_more (length (items whole)) (length (items (scene ts t setting))) most_rules (fewer_rules whole) (no_left (nat_lt most_rules (length (items whole))) _ rules)) (omega arith);
    }

pub typed_are_sound : TypedAreSound
typed_are_sound table sc e t small short is =
    let good = typed_good table small sc e short t is in
    record {
      sound = λ to. sound_moved to t ∙ good.sound;
      values = λ to scalar. values_moved to t ∙ scalar_values t scalar good.stands;
    }

pub conditions_are_grounded : ConditionsAreGrounded
conditions_are_grounded scene spots held = record { occurrences_grounded = all_occurrences_grounded scene spots held; modifiers_grounded = all_modifiers_grounded scene spots }

pub conditions_are_small : ConditionsAreSmall
conditions_are_small scene spots under = record { occurrences_small = all_occurrences_small scene spots under; modifiers_small = all_modifiers_small scene spots }

-- ---- paths

-- what the lemmas on expansions take of a program
pub record IsJudged (ts : Types) : Type 0 where
  pub names : (t : ℕ) → Pairs NamesDiffer (fields ts t)
  pub free : (t : ℕ) (f : Field) → In f (fields ts t) → is_free f.name.text ≡ true
  pub owned : AreOwned ts.table.heads
  pub actors : HaveActors ts.table.heads
  pub untimed : (t : ℕ) → is_behaviour (form ts.table.heads t) ≡ true → (f : Field) → In f (fields ts t) → f.name.text ≡ codes "duration" → ⊥
  pub scenarios : (t : ℕ) (d : Do) → the_do ts t ≡ Some d → is_scenario (form ts.table.heads t) ≡ true

free_fields : (ts : Types) → AllMembers is_formed ts → (t : ℕ) (f : Field) → In f (fields ts t) → is_free f.name.text ≡ true
free_fields ts formed t f i =
    let g = flat_map_in (λ (m : Member). fields_declared m m.written.member) (members ts t) f i in
    by g.0 g.0.written.member (formed.members t g.0 g.1) g.2
  where
    by : (m : Member) (tree : MemberTree) → is_formed tree ≡ true → In f (fields_declared m tree) → is_free f.name.text ≡ true
    by m (MemberTree.Field x) h j =
        let g = map_in (λ (i : Ident). record { name = i; tree = x; holder = m.holder; under = m.under }) x.names f j in
        subst (λ (z : Field). is_free z.name.text ≡ true) (sym g.2) (all_at (λ (i : Ident). is_free i.text) x.names h g.0 g.1)
    by m (MemberTree.Rule r) h j = absurd j
    by m (MemberTree.Do place phase) h j = absurd j

pub program_judged : (p : Program) → is_spelled_program p ≡ true → declaration_fault p (types_of p) ≡ None → IsJudged (types_of p)
program_judged p written none =
    let faults = no_faults p (types_of p) none in
    let counted = program_counted p in
    record {
      names = fields_apart (types_of p) counted faults.members;
      free = free_fields (types_of p) (all_formed p written);
      owned = program_owned p;
      actors = program_actors p faults.headings;
      untimed = no_duration (types_of p) counted faults.members;
      scenarios = do_scenario (types_of p) counted faults.members;
    }

-- what is named is a scenario
named_is : (ts : Types) (owner : Option (List ℕ)) (name : List ℕ) (t : ℕ) → named_scenario ts owner name ≡ Some t → is_scenario (form ts.table.heads t) ≡ true
named_is ts owner name t h = by (named ts.table.heads owner name) h
  where
    test : (u : ℕ) (b : Bool) → is_scenario (form ts.table.heads u) ≡ b → cond b (Some u) None ≡ Some t → is_scenario (form ts.table.heads t) ≡ true
    test u true e is = let same : u ≡ t = cc in subst (λ k. is_scenario (form ts.table.heads k) ≡ true) same e
    test u false e is = cc

    by : (o : Option ℕ) → option_and_then (λ u. cond (is_scenario (form ts.table.heads u)) (Some u) None) o ≡ Some t → is_scenario (form ts.table.heads t) ≡ true
    by None e = cc
    by (Some u) e = test u (is_scenario (form ts.table.heads u)) refl e

behaves : (f : Form) → is_scenario f ≡ true → is_behaviour f ≡ true
behaves f h = by (is_compound CompoundKind.Action f) h
  where
    by : (b : Bool) → is_scenario f ≡ true → b || is_scenario f ≡ true
    by true e = refl
    by false e = e

pub scenes_are_laid_out : ScenesAreLaidOut
scenes_are_laid_out p t owner name setting written none is =
    let ts = types_of p in
    let j = program_judged p written none in
    record {
      choices_distinct = choices_distinct ts j.names j.free t setting;
      values_distinct = values_distinct ts j.names j.free t setting;
      phases_distinct = phases_distinct ts j.names j.free t setting;
      vehicles_distinct = vehicles_distinct ts j.names j.free t setting;
      nested = all_nested ts j.scenarios j.actors t setting;
      whole = whole_is ts j.scenarios j.actors t j.names j.free setting;
      no_durations = no_durations ts j.owned j.free j.untimed t setting (behaves (form ts.table.heads t) (named_is ts owner name t is));
    }
