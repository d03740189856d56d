-- The constraints and modifiers of parts that are read where they stand, and of the unfolded parts.
use Rattle.std.proofs.Common.{◌≡◌, refl, sym, ap, ap₂, ◌∙◌, ℕ, ◌+◌, List, [], ◌∷◌, map, Bool, true, false, cond, Option, Some, None, true≢false}
use Rattle.std.specs.Prelude.{flat_map, codes, option_map, option_and_then, option_to_list}
use Rattle.std.specs.Option.{option_map_or, option_or}
use Rattle.composition.specs.osc_base.declared.fault.Place.{Place}
use Rattle.composition.specs.osc_base.declared.path.Path.{Path}
use Rattle.composition.specs.osc_base.declared.mark.Strength.{Strength}
use Rattle.composition.specs.osc_base.Paths.{then_name}
use Rattle.composition.specs.dsl_tree.declared.parts.Ident.{Ident}
use Rattle.composition.specs.dsl_tree.ExprTree.{ExprTree, Implies, Or, And, Not, Relation, Sum, Product, Minus, Dot, Index, Number, Physical, Chars, Truth, It, Actor, Name, EnumName, Group, Span, Listed, RangeCall, Start}
use Rattle.composition.specs.dsl_tree.PhaseTree.{RuleTree, ArgumentTree, ModifierTree, PartTree}
use Rattle.composition.specs.dsl_tree.FileTree.{ModifierDeclTree}
use Rattle.composition.specs.type_heads.Types.{Types}
use Rattle.composition.specs.expr_nodes.Typed.{Typed, moved}
use Rattle.composition.specs.expr_nodes.Typing.{typed, first, is_path}
use Rattle.composition.specs.ModifierLines.{NamedValue, ModifierForm, modifier_form}
use Rattle.composition.specs.Tokens.{tokens, argument_tokens, arguments_tokens}
use Rattle.composition.specs.Uses.{is_at}
use Rattle.composition.specs.Givens.{Here, Given, from_root, typed_here, read_at, target_at, left_target, keep_target, strength_of, given_rule}
use Rattle.composition.specs.Expansion.{GivenModifier, Calling, object_at, low_end, high_end, given_modifier, part_rule, part_modifier}
use Rattle.modifier_meaning.specs.Put.{operand, argument_of, put}
use Rattle.modifier_meaning.specs.Environment.{Argument, as_argument, typed_in, first_in, is_path_in, tokens_in, read_argument}
use Rattle.modifier_meaning.specs.Application.{Reading, RuleIn, ModifierIn, readings}
use Rattle.modifier_meaning.specs.Unfolded.{put_value, put_rule, put_argument, put_modifier, put_reading, unfolded_part, unfolded_parts}
use Rattle.modifier_meaning.specs.WrittenScene.{typed_here_in, target_in, left_target_in, keep_target_in, given_rule_in, reading_rule, arguments_tokens_in, given_modifier_in, reading_modifier, rules_of_part, modifiers_of_part}
use Rattle.modifier_meaning.specs.ModifierLaws.{argument_read, PartsAgree}
use Rattle.modifier_meaning.proofs.Lists.{flat_alike, flat_of_map, flat_of_flat}
use Rattle.modifier_meaning.proofs.Readings.{with_env, readings_follow}
use Rattle.modifier_meaning.proofs.PutLaws.{typed_as_put, first_as_put, path_as_put, tokens_as_put}
use Rattle.modifier_meaning.proofs.Forms.{put_form, form_put}

module _ (ts : Types) (call : Calling) (here : Here) where
  abbrev said : NamedValue → Argument
  said = argument_read ts.table here.scope

  -- an argument is read list it is put in
  as_said : (name : List ℕ) (b b2 : Bool) (p p2 : Place) (t t2 : Option Typed) (n n2 : ℕ) → b ≡ b2 → p ≡ p2 → t ≡ t2 → n ≡ n2 → as_argument name b p t n ≡ as_argument name b2 p2 t2 n2
  as_said name b b2 p p2 t t2 n n2 e f g h = ap₂ (λ x y. as_argument name x y t n) e f ∙ ap₂ (λ x y. as_argument name b2 p2 x y) g h

  follows : (args : List NamedValue) (v : NamedValue) → said (put_value args v) ≡ read_argument ts.table here.scope (map said args) v
  follows args v = sym (as_said v.name
      (is_path_in (map said args) v.value) (is_path (put args v.value)) (first_in (map said args) v.value) (first (put args v.value))
      (typed_in ts.table here.scope (map said args) v.value) (typed ts.table here.scope (put args v.value)) (tokens_in (map said args) v.value) (tokens (put args v.value))
      (path_as_put ts.table here.scope args v.value) (first_as_put ts.table here.scope args v.value)
      (typed_as_put ts.table here.scope args v.value) (tokens_as_put ts.table here.scope args v.value))

  -- ---- rules

  -- a path or an expression in brackets isn't a relation
  no_left : (e : ExprTree) (b : Bool) → is_path e ≡ b → None ≡ left_target ts here (cond b e (Group (first e) e))
  no_left (Relation p sign x y) true h = absurd (true≢false (sym h))
  no_left (Relation p sign x y) false h = refl
  no_left (Implies p x y) true h = refl
  no_left (Implies p x y) false h = refl
  no_left (Or p op x y) true h = refl
  no_left (Or p op x y) false h = refl
  no_left (And p op x y) true h = refl
  no_left (And p op x y) false h = refl
  no_left (Not p x) true h = refl
  no_left (Not p x) false h = refl
  no_left (Sum p op x y) true h = refl
  no_left (Sum p op x y) false h = refl
  no_left (Product p op x y) true h = refl
  no_left (Product p op x y) false h = refl
  no_left (Minus p x) true h = refl
  no_left (Minus p x) false h = refl
  no_left (Dot head j) true h = refl
  no_left (Dot head j) false h = refl
  no_left (Index p head index) true h = refl
  no_left (Index p head index) false h = refl
  no_left (Number d) true h = refl
  no_left (Number d) false h = refl
  no_left (Physical d unit) true h = refl
  no_left (Physical d unit) false h = refl
  no_left (Chars p text) true h = refl
  no_left (Chars p text) false h = refl
  no_left (Truth p value) true h = refl
  no_left (Truth p value) false h = refl
  no_left (It p) true h = refl
  no_left (It p) false h = refl
  no_left (Actor p) true h = refl
  no_left (Actor p) false h = refl
  no_left (Name j) true h = refl
  no_left (Name j) false h = refl
  no_left (EnumName of member) true h = refl
  no_left (EnumName of member) false h = refl
  no_left (Group p x) true h = refl
  no_left (Group p x) false h = refl
  no_left (Span p x y) true h = refl
  no_left (Span p x y) false h = refl
  no_left (Listed p items) true h = refl
  no_left (Listed p items) false h = refl
  no_left (RangeCall p x y) true h = refl
  no_left (RangeCall p x y) false h = refl
  no_left (Start x) true h = refl
  no_left (Start x) false h = refl

  left_named : (o : Option NamedValue) (i : Ident) → None ≡ left_target ts here (option_map_or (λ (v : NamedValue). operand v.value) o (Name i))
  left_named None i = refl
  left_named (Some v) i = no_left v.value (is_path v.value) refl

  module _ (args : List NamedValue) where
    typed_put : (e : ExprTree) → typed_here_in ts here (map said args) e ≡ typed_here ts here (put args e)
    typed_put e = ap (option_map (moved (from_root here))) (typed_as_put ts.table here.scope args e)

    target_put : (e : ExprTree) → target_in ts here (map said args) e ≡ target_at ts here (put args e)
    target_put e = ap₂ (λ b t. cond b (option_and_then read_at t) None) (path_as_put ts.table here.scope args e) (typed_put e)

    left_put : (e : ExprTree) → left_target_in ts here (map said args) e ≡ left_target ts here (put args e)
    left_put (Implies p x y) = refl
    left_put (Or p op x y) = refl
    left_put (And p op x y) = refl
    left_put (Not p x) = refl
    left_put (Relation p sign x y) = target_put x
    left_put (Sum p op x y) = refl
    left_put (Product p op x y) = refl
    left_put (Minus p x) = refl
    left_put (Dot head j) = refl
    left_put (Index p head index) = refl
    left_put (Number d) = refl
    left_put (Physical d unit) = refl
    left_put (Chars p text) = refl
    left_put (Truth p value) = refl
    left_put (It p) = refl
    left_put (Actor p) = refl
    left_put (Name j) = left_named (argument_of args j.text) j
    left_put (EnumName of member) = refl
    left_put (Group p x) = refl
    left_put (Span p x y) = refl
    left_put (Listed p items) = refl
    left_put (RangeCall p x y) = refl
    left_put (Start x) = refl

    keep_put : (strength : Strength) (e : ExprTree) → keep_target_in ts here (map said args) strength e ≡ keep_target ts here strength (put args e)
    keep_put Strength.Hard e = left_put e
    keep_put Strength.Default e = ap₂ (λ a b. option_or a b) (left_put e) (target_put e)
    keep_put Strength.Remove e = target_put e

    abbrev given : Place → Strength → Option Path → Option Typed → ℕ → Given
    given place strength target t n = record { place = place; holder = call.path; under = []; strength = strength; target = target; typed = t; tokens = n }

    given_same : (place : Place) (strength : Strength) (target target2 : Option Path) (t t2 : Option Typed) (n n2 : ℕ) → target ≡ target2 → t ≡ t2 → n ≡ n2 → given place strength target t n ≡ given place strength target2 t2 n2
    given_same place strength target target2 t t2 n n2 e f g = λ i. given place strength (e i) (f i) (g i)

    rule_put : (rule : RuleTree) → given_rule_in ts here (map said args) call.path rule ≡ given_rule ts here call.path [] (put_rule args rule)
    rule_put (RuleTree.Keep place kind e) =
        given_same place (strength_of kind) (keep_target_in ts here (map said args) (strength_of kind) e) (keep_target ts here (strength_of kind) (put args e))
        (typed_here_in ts here (map said args) e) (typed_here ts here (put args e)) (tokens_in (map said args) e) (tokens (put args e))
        (keep_put (strength_of kind) e) (typed_put e) (tokens_as_put ts.table here.scope args e)
    rule_put (RuleTree.Remove place path) =
        given_same place Strength.Remove (target_in ts here (map said args) path) (target_at ts here (put args path)) None None
        (tokens_in (map said args) path) (tokens (put args path)) (target_put path) refl (tokens_as_put ts.table here.scope args path)

    -- ---- modifiers

    argument_by : (a : ArgumentTree) (b : Bool) →
        cond b (argument_tokens a) (option_map_or (λ name. 2) a.name 0 + tokens_in (map said args) a.value) ≡ argument_tokens (cond b a (record a { value = put args a.value }))
    argument_by a true = refl
    argument_by a false = ap (λ n. option_map_or (λ name. 2) a.name 0 + n) (tokens_as_put ts.table here.scope args a.value)

    arguments_put : (list : List ArgumentTree) → arguments_tokens_in (map said args) list ≡ arguments_tokens (map (put_argument args) list)
    arguments_put [] = refl
    arguments_put (a ∷ []) = argument_by a (is_at a)
    arguments_put (a ∷ next ∷ later) = ap₂ (λ n m. n + 1 + m) (argument_by a (is_at a)) (arguments_put (next ∷ later))

    option_put : (o : Option ExprTree) → option_and_then (typed_here_in ts here (map said args)) o ≡ option_and_then (typed_here ts here) (option_map (put args) o)
    option_put None = refl
    option_put (Some e) = typed_put e

    abbrev spot : ModifierTree → ModifierForm → Option Typed → Option Typed → ℕ → GivenModifier
    spot m f range other n = record {
      modifier = record {
        place = m.name.place;
        phase = call.path;
        own = then_name call.path (codes "actor");
        other = option_and_then object_at other;
        kind = f.kind;
        moment = f.moment;
        low = option_map low_end range;
        high = option_map high_end range;
      };
      tokens = n;
    }

    spot_same : (m : ModifierTree) (f : ModifierForm) (range range2 other other2 : Option Typed) (n n2 : ℕ) → range ≡ range2 → other ≡ other2 → n ≡ n2 → spot m f range other n ≡ spot m f range2 other2 n2
    spot_same m f range range2 other other2 n n2 p q r = λ i. spot m f (p i) (q i) (r i)

    modifier_put : (m : ModifierTree) (f : ModifierForm) → given_modifier_in ts call here (map said args) m f ≡ given_modifier ts call here (put_modifier args m) (put_form args f)
    modifier_put m f =
        spot_same m f
        (option_and_then (typed_here_in ts here (map said args)) f.range) (option_and_then (typed_here ts here) (option_map (put args) f.range))
        (option_and_then (typed_here_in ts here (map said args)) f.other) (option_and_then (typed_here ts here) (option_map (put args) f.other))
        (arguments_tokens_in (map said args) m.arguments) (arguments_tokens (map (put_argument args) m.arguments))
        (option_put f.range) (option_put f.other) (arguments_put m.arguments)

    formed : (m : ModifierTree) (o : Option ModifierForm) →
        map (given_modifier_in ts call here (map said args) m) (option_to_list o) ≡ map (given_modifier ts call here (put_modifier args m)) (option_to_list (option_map (put_form args) o))
    formed m None = refl
    formed m (Some f) = ap (λ g. g ∷ []) (modifier_put m f)

  reading_rule_put : (r : Reading NamedValue) → reading_rule ts call here (with_env said r) ≡ part_rule ts call here (put_reading r)
  reading_rule_put (RuleIn args rule) = ap (λ g. g ∷ []) (rule_put args rule)
  reading_rule_put (ModifierIn args modifier) = refl

  reading_modifier_put : (r : Reading NamedValue) → reading_modifier ts call here (with_env said r) ≡ part_modifier ts call here (put_reading r)
  reading_modifier_put (RuleIn args rule) = refl
  reading_modifier_put (ModifierIn args modifier) =
      formed args modifier (modifier_form modifier)
      ∙ ap (λ o. map (given_modifier ts call here (put_modifier args modifier)) (option_to_list o)) (sym (form_put args modifier))

  -- ---- parts

  -- what the readings of a part give, if each gives what the reading that is put in gives
  module _ (mods : List ModifierDeclTree) {X : Type 0} (f : Reading Argument → List X) (g : PartTree → List X) (same : (r : Reading NamedValue) → f (with_env said r) ≡ g (put_reading r)) where
    part_agrees : (part : PartTree) → flat_map f (readings (read_argument ts.table here.scope) mods part) ≡ flat_map g (unfolded_part mods part)
    part_agrees part =
        ap (λ rs. flat_map f rs) (sym (readings_follow said put_value (read_argument ts.table here.scope) follows mods part))
        ∙ flat_of_map f (with_env said) (readings put_value mods part)
        ∙ flat_alike (λ r. f (with_env said r)) (λ r. g (put_reading r)) same (readings put_value mods part)
        ∙ sym (flat_of_map g put_reading (readings put_value mods part))

    pub all_agree : (parts : List PartTree) → flat_map (λ part. flat_map f (readings (read_argument ts.table here.scope) mods part)) parts ≡ flat_map g (unfolded_parts mods parts)
    all_agree parts =
        flat_alike (λ part. flat_map f (readings (read_argument ts.table here.scope) mods part)) (λ part. flat_map g (unfolded_part mods part)) part_agrees parts
        ∙ sym (flat_of_flat g (unfolded_part mods) parts)

  pub rules_agree : (mods : List ModifierDeclTree) (parts : List PartTree) → flat_map (rules_of_part mods ts call here) parts ≡ flat_map (part_rule ts call here) (unfolded_parts mods parts)
  rules_agree mods parts = all_agree mods (reading_rule ts call here) (part_rule ts call here) reading_rule_put parts

  pub modifiers_agree : (mods : List ModifierDeclTree) (parts : List PartTree) → flat_map (modifiers_of_part mods ts call here) parts ≡ flat_map (part_modifier ts call here) (unfolded_parts mods parts)
  modifiers_agree mods parts = all_agree mods (reading_modifier ts call here) (part_modifier ts call here) reading_modifier_put parts

pub parts_agree : PartsAgree
parts_agree mods ts call here parts = (rules_agree ts call here mods parts, modifiers_agree ts call here mods parts)
