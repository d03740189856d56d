-- The laws, from their lemmas.
use Rattle.std.proofs.Common.{◌≡◌, ℕ, ◌≤◌, refl, ◌∙◌, inl, inr, subst, List, [], true, false, Option, Some, None, length, arith}
use Rattle.std.specs.Prelude.{codes, nat_le}
use Rattle.osc_base.specs.Paths.{root, then_name}
use Rattle.expr_eval.specs.type_heads.Table.{TableField, form, owner, field_of, is_object}
use Rattle.expr_eval.specs.type_heads.Types.{Program}
use Rattle.expr_eval.specs.type_heads.DeclaredTypes.{types_of}
use Rattle.expr_eval.specs.expr_nodes.Sizes.{field_reach}
use Rattle.run_values.specs.composition.Expansion.{expansion}
use Rattle.run_values.specs.composition.Expanded.{scene, spots_of}
use Rattle.run_values.specs.composition.StaticFaults.{declaration_fault}
use Rattle.run_values.specs.composition.SceneFaults.{named_scenario}
use Rattle.scene_laws.specs.Premises.{IsSmallTable, is_free, is_spelled_program}
use Rattle.scene_laws.proofs.FaultRows.{NoFaults, no_faults}
use Rattle.scene_laws.proofs.EnumHeads.{program_enums}
use Rattle.scene_laws.proofs.Ranges.{small_table}
use Rattle.scene_laws.proofs.PlacedObjects.{IsAcyclic, Placed, scenario_behaves}
use Rattle.scene_laws.proofs.MemberPhases.{Resolves, all_members_hold}
use Rattle.scene_laws.proofs.SceneFields.{IsJudged, program_judged, scenes_have_ranges, scenes_are_laid_out, scenes_are_few, conditions_are_grounded, conditions_are_small}
use Rattle.checkable_scenes.specs.Premises.{IsLoadedProgram}
use Rattle.checkable_scenes.specs.CheckableLaws.{ScopesAreResolved, ExpressionsAreTyped, ScenesAreGrounded, VehiclesAreLimited, RangesAreNarrow, ScenesAreLimited, ScenesAreExpanded, ScenesHaveReads, ModifiersAreSound, ScenesAreTyped, ScenesAreCheckable}
use Rattle.checkable_scenes.proofs.ConditionFields.{IsInherited}
use Rattle.checkable_scenes.proofs.GroundedSpots.{spots_grounded}
use Rattle.checkable_scenes.proofs.HeldConstraints.{all_held}
use Rattle.checkable_scenes.proofs.FewMembers.{all_few_members}
use Rattle.checkable_scenes.proofs.SmallConditions.{spots_small, unders_small}
use Rattle.checkable_scenes.proofs.ResolvedScopes.{bare_resolved, scope_resolved}
use Rattle.checkable_scenes.proofs.TypedExpressions.{all_typed}
use Rattle.checkable_scenes.proofs.JudgedUses.{invocations_resolve}
use Rattle.checkable_scenes.proofs.ProgramFacts.{base_members, program_inherited, program_begun, program_acyclic, program_kinds}
use Rattle.checkable_scenes.proofs.PlacedScenarios.{named_is, whole_placed, actor_placed}
use Rattle.checkable_scenes.proofs.VehicleLimits.{all_limited}
use Rattle.checkable_scenes.proofs.ShortTexts.{program_short}
use Rattle.checkable_scenes.proofs.NarrowModifiers.{all_narrow}
use Rattle.checkable_scenes.proofs.PhaseSteps.{named_thing}
use Rattle.checkable_scenes.proofs.ReadFacts.{program_holds, program_declared, program_alike, of_table, table_is, fields_known}
use Rattle.checkable_scenes.proofs.KnownPaths.{words_apart, actor_still}
use Rattle.checkable_scenes.proofs.ReadObjects.{AllKnown}
use Rattle.checkable_scenes.proofs.ReadScenes.{expressions_right}
use Rattle.checkable_scenes.proofs.WholeObjects.{program_lone}
use Rattle.checkable_scenes.proofs.SoundModifiers.{modifiers_right, modifiers_valued}
use Rattle.checkable_scenes.proofs.SoundFields.{TextsKnown}
use Rattle.checkable_scenes.proofs.TypedScenes.{occurrences_right, all_valued}

-- the invocations of a program without faults are each of something
resolved : (p : Program) → NoFaults p (types_of p) → Resolves (types_of p)
resolved p faults = invocations_resolve (types_of p) (program_inherited p faults) faults.uses (program_kinds p faults.headings)

-- what is known of a program without faults
record Known (p : Program) : Type 0 where
  faults : NoFaults p (types_of p)
  judged : IsJudged (types_of p)
  acyclic : IsAcyclic (types_of p)
  inherited : IsInherited (types_of p)
  resolves : Resolves (types_of p)

known : (p : Program) → is_spelled_program p ≡ true → declaration_fault p (types_of p) ≡ None → Known p
known p spelled none =
    let faults = no_faults p (types_of p) none in
    record { faults = faults; judged = program_judged p spelled none; acyclic = program_acyclic p faults; inherited = program_inherited p faults; resolves = resolved p faults }

-- where the objects of a named scenario begin
record Begun (p : Program) (k : Known p) (t : ℕ) : Type 0 where
  first : Placed (types_of p) k.acyclic (spots_of (types_of p) (expansion (types_of p) t)) root t [] []
  actor : (x : ℕ) → owner (types_of p).table.heads t ≡ Some x → Placed (types_of p) k.acyclic (spots_of (types_of p) (expansion (types_of p) t)) (then_name root (codes "actor")) x [] []

begun : (p : Program) (k : Known p) (t : ℕ) (owner : Option (List ℕ)) (name : List ℕ) → named_scenario (types_of p) owner name ≡ Some t → Begun p k t
begun p k t owner name is =
    let n = named_is (types_of p) owner name t is in
    record { first = whole_placed (types_of p) k.acyclic t n.1 n.0; actor = actor_placed (types_of p) k.acyclic t n.1 n.0 k.judged.actors }

few : (n : ℕ) → nat_le n field_reach ≡ true → n ≤ field_reach
few n h = grind arith

small : (p : Program) → IsLoadedProgram p → NoFaults p (types_of p) → IsSmallTable (types_of p).table
small p l faults = small_table (types_of p) (program_enums p l.spelled faults.headings) (few (length (types_of p).table.texts) l.few_texts)

pub scopes_are_resolved : ScopesAreResolved
scopes_are_resolved p none =
    let faults = no_faults p (types_of p) none in
    let kinds = program_kinds p faults.headings in
    record { labelled = scope_resolved (types_of p) kinds (resolved p faults); bare = bare_resolved (types_of p).table kinds }

pub expressions_are_typed : ExpressionsAreTyped
expressions_are_typed p none = let faults = no_faults p (types_of p) none in all_typed (types_of p) (program_kinds p faults.headings) (resolved p faults) faults.uses

pub scenes_are_grounded : ScenesAreGrounded
scenes_are_grounded p t owner name setting spelled none is =
    let ts = types_of p in
    let k = known p spelled none in
    let b = begun p k t owner name is in
    let spots = spots_grounded ts k.acyclic k.inherited k.judged.names k.judged.free t setting b.first b.actor in
    let held = all_held ts k.acyclic k.inherited k.judged.names k.judged.free t setting b.first b.actor in
    let g = conditions_are_grounded (scene ts t setting) spots held in
    record {
      spots_grounded = spots;
      held = held;
      occurrences_grounded = g.occurrences_grounded;
      modifiers_grounded = g.modifiers_grounded;
      members = all_members_hold ts k.acyclic k.judged.names k.judged.free k.resolves t setting b.first b.actor;
    }

pub vehicles_are_limited : VehiclesAreLimited
vehicles_are_limited p t owner name setting l none is =
    let k = known p l.spelled none in
    let b = begun p k t owner name is in
    all_limited (types_of p) k.acyclic k.inherited k.judged.names k.judged.free t setting l.limits b.first b.actor

pub ranges_are_narrow : RangesAreNarrow
ranges_are_narrow p t setting l none =
    let k = known p l.spelled none in
    all_narrow (types_of p) k.inherited k.faults.uses (program_short p l.spelled) (small p l k.faults) t setting

pub scenes_are_limited : ScenesAreLimited
scenes_are_limited p t owner name setting l none is large =
    let ts = types_of p in
    let k = known p l.spelled none in
    let b = begun p k t owner name is in
    let table = small p l k.faults in
    let spots = spots_small ts k.acyclic k.inherited k.judged.names k.judged.free k.resolves table t setting b.first b.actor large in
    let c = conditions_are_small (scene ts t setting) spots (unders_small ts k.acyclic k.inherited k.judged.names k.judged.free k.resolves table t setting b.first b.actor large) in
    record {
      spots_small = spots;
      occurrences_small = c.occurrences_small;
      modifiers_small = c.modifiers_small;
      few_texts = l.few_texts;
      few_members = all_few_members ts k.acyclic k.judged.names k.judged.free k.resolves t setting b.first b.actor large;
      narrow_ranges = ranges_are_narrow p t setting l none;
    }

-- all that is known of the types of a program
all_known : (p : Program) (k : Known p) → AllKnown (types_of p)
all_known p k =
    let ts = types_of p in
    let holds = program_holds p k.faults.headings in record {
      inherited = k.inherited;
      reads = record {
        fields = fields_known p holds k.judged.free k.judged.untimed;
        free = λ t name x e. let o = of_table p t name x e in subst (λ z. is_free z ≡ true) o.named (k.judged.free t o.f o.inside);
        scenarios = k.judged.scenarios;
        actors = k.judged.actors;
      };
      alike = program_alike p k.faults.headings;
      holds = holds;
      declared = program_declared p k.faults.headings;
      kinds = program_kinds p k.faults.headings;
      uses = k.faults.uses;
      free = k.judged.free;
      untimed = k.judged.untimed;
      owned = k.judged.owned;
    }

pub scenes_have_reads : ScenesHaveReads
scenes_have_reads p t owner name setting l none is =
    let k = known p l.spelled none in
    let n = named_is (types_of p) owner name t is in
    expressions_right (types_of p) (all_known p k) (program_short p l.spelled) t setting
    (record { place = inl (scenario_behaves (form (types_of p).table.heads t) n.0, tt); bound = λ b i. absurd i })
    (λ x e. record {
      place = inr (actor_still (form (types_of p).table.heads x) (k.judged.actors t x e), named_thing [] (codes "actor") (words_apart (codes "actor") (codes "do") refl) (λ same. absurd (words_apart (codes "actor") (codes "duration") refl same)));
      bound = λ b i. absurd i;
    })

-- no list holds objects
lone : (p : Program) → Known p → (t : ℕ) (name : List ℕ) (x : TableField) → field_of (types_of p).table t name ≡ Some x → (n : ℕ) → x.length ≡ Some n → is_object (form (types_of p).table.heads x.of) ≡ false
lone p k t name x e n h = let o = of_table p t name x e in program_lone p k.faults.headings t o.f o.inside x.of o.typed n (o.count ∙ h)

pub modifiers_are_sound : ModifiersAreSound
modifiers_are_sound p t owner name setting l none is =
    let ts = types_of p in
    let k = known p l.spelled none in
    let b = begun p k t owner name is in
    modifiers_right ts (all_known p k) k.resolves (program_short p l.spelled) (small p l k.faults)
    (λ t name x e n h. lone p k t name x e n h)
    k.acyclic t setting b.first b.actor (scenes_have_reads p t owner name setting l none is)

-- all that is known of the texts of a program
texts_known : (p : Program) → IsLoadedProgram p → (k : Known p) → TextsKnown (types_of p)
texts_known p l k = record {
  known = all_known p k;
  resolves = k.resolves;
  short = program_short p l.spelled;
  small = small p l k.faults;
  tabled = λ t. table_is p t;
  lone = λ t f i of typed n e. program_lone p k.faults.headings t f i of typed n e;
  begun = λ t m i. program_begun p k.faults k.inherited t m i;
  heirs = λ t b e. base_members p t b e;
}

pub scenes_are_typed : ScenesAreTyped
scenes_are_typed p t owner name setting l none is =
    let ts = types_of p in
    let k = known p l.spelled none in
    let b = begun p k t owner name is in
    let x = texts_known p l k in
    let reads = scenes_have_reads p t owner name setting l none is in
    record {
      occurrences = occurrences_right ts x t setting reads;
      all_values = all_valued ts x t setting reads (modifiers_valued ts x.known k.resolves x.short x.small (λ t name x e n h. lone p k t name x e n h) k.acyclic t setting b.first b.actor reads);
    }

pub scenes_are_expanded : ScenesAreExpanded
scenes_are_expanded p t owner name setting l none is large fits =
    let ts = types_of p in
    let typed = scenes_are_typed p t owner name setting l none is in
    let g = scenes_are_grounded p t owner name setting l.spelled none is in
    let r = scenes_have_ranges p t setting l.spelled none in
    let a = scenes_are_laid_out p t owner name setting l.spelled none is in
    let f = scenes_are_few ts t setting large in
    record {
      is_scene = record {
        spots_grounded = g.spots_grounded;
        occurrences_grounded = g.occurrences_grounded;
        modifiers_grounded = g.modifiers_grounded;
        choices_distinct = a.choices_distinct;
        values_distinct = a.values_distinct;
        phases_distinct = a.phases_distinct;
        vehicles_distinct = a.vehicles_distinct;
        members = g.members;
        nested = a.nested;
        whole = a.whole;
        choices_full = r.choices_full;
        ranges = r.ranges;
        limited = vehicles_are_limited p t owner name setting l none is;
        texts = r.texts;
        occurrences = typed.occurrences;
        modifiers = modifiers_are_sound p t owner name setting l none is;
        setting = fits;
        few_slots = f.few_slots;
        few_rules = f.few_rules;
      };
      all_values = typed.all_values;
      no_durations = a.no_durations;
      enums_ordered = r.enums_ordered;
    }

pub scenes_are_checkable : ScenesAreCheckable
scenes_are_checkable s e l = record { is_scene = e.is_scene; few_texts = l.few_texts; narrow_ranges = l.narrow_ranges }
