-- Two ways to read arguments, of which one follows the other: so do the readings of all parts.
use Rattle.std.proofs.Common.{◌≡◌, refl, ap, ap₂, ◌∙◌, ℕ, zero, suc, List, [], ◌∷◌, ◌++◌, map, length, Option, Some, None}
use Rattle.std.specs.Prelude.{flat_map}
use Rattle.std.specs.Option.{option_map_or}
use Rattle.std.proofs.lemmas.List.{map-append}
use Rattle.composition.specs.dsl_tree.PhaseTree.{ModifierTree, PartTree}
use Rattle.composition.specs.dsl_tree.FileTree.{ModifierPartTree, ModifierDeclTree}
use Rattle.composition.specs.ModifierLines.{NamedValue}
use Rattle.modifier_meaning.specs.Application.{Reading, RuleIn, ModifierIn, modifier_applied, parameters, values_given, part_applied, applied_within, readings}

-- a reading with other meanings of the parameters
abbrev pub with_env : {A B : Type 0} → (A → B) → Reading A → Reading B
with_env h (RuleIn env rule) = Reading.RuleIn (map h env) rule
with_env h (ModifierIn env modifier) = Reading.ModifierIn (map h env) modifier

module _ {A B : Type 0} (h : A → B) (read : List A → NamedValue → A) (read2 : List B → NamedValue → B) (follows : (env : List A) (v : NamedValue) → h (read env v) ≡ read2 (map h env) v) (mods : List ModifierDeclTree) where
  env_follows : (env : List A) (values : List NamedValue) → map h (map (read env) values) ≡ map (read2 (map h env)) values
  env_follows env [] = refl
  env_follows env (v ∷ values) = ap₂ (λ a b. a ∷ b) (follows env v) (env_follows env values)

  -- parts, given that applications follow
  module _ (apply : List A → ModifierTree → List (Reading A)) (apply2 : List B → ModifierTree → List (Reading B)) (same : (env : List A) (m : ModifierTree) → map (with_env h) (apply env m) ≡ apply2 (map h env) m) where
    part_follows : (env : List A) (env2 : List B) → map h env ≡ env2 → (part : ModifierPartTree) → map (with_env h) (part_applied apply env part) ≡ part_applied apply2 env2 part
    part_follows env env2 e (ModifierPartTree.Parameter name of) = refl
    part_follows env env2 e (ModifierPartTree.ModifierRule rule) = ap (λ x. Reading.RuleIn x rule ∷ []) e
    part_follows env env2 e (ModifierPartTree.Application modifier) = same env modifier ∙ ap (λ x. apply2 x modifier) e

    pub parts_follow : (env : List A) (env2 : List B) → map h env ≡ env2 → (parts : List ModifierPartTree) →
        map (with_env h) (flat_map (part_applied apply env) parts) ≡ flat_map (part_applied apply2 env2) parts
    parts_follow env env2 e [] = refl
    parts_follow env env2 e (part ∷ parts) =
        map-append (with_env h) (part_applied apply env part) (flat_map (part_applied apply env) parts)
        ∙ ap₂ (λ a b. a ++ b) (part_follows env env2 e part) (parts_follow env env2 e parts)

    pub application_follows : (env : List A) (m : ModifierTree) (o : Option ModifierDeclTree) →
        map (with_env h) (option_map_or (λ (d : ModifierDeclTree). flat_map (part_applied apply (map (read env) (values_given (parameters d) 0 m.arguments))) d.parts) o (Reading.ModifierIn env m ∷ []))
        ≡ option_map_or (λ (d : ModifierDeclTree). flat_map (part_applied apply2 (map (read2 (map h env)) (values_given (parameters d) 0 m.arguments))) d.parts) o (Reading.ModifierIn (map h env) m ∷ [])
    application_follows env m None = refl
    application_follows env m (Some d) =
        parts_follow
        (map (read env) (values_given (parameters d) 0 m.arguments)) (map (read2 (map h env)) (values_given (parameters d) 0 m.arguments))
        (env_follows env (values_given (parameters d) 0 m.arguments)) d.parts

  pub applied_follows : (steps : ℕ) (env : List A) (m : ModifierTree) →
      map (with_env h) (applied_within steps read mods env m) ≡ applied_within steps read2 mods (map h env) m
  applied_follows zero env m = refl
  applied_follows (suc steps) env m =
      application_follows (applied_within steps read mods) (applied_within steps read2 mods) (λ env m. applied_follows steps env m) env m (modifier_applied mods m)

  pub readings_follow : (part : PartTree) → map (with_env h) (readings read mods part) ≡ readings read2 mods part
  readings_follow (PartTree.RulePart rule) = refl
  readings_follow (PartTree.ModifierPart modifier) = applied_follows (length mods) [] modifier
