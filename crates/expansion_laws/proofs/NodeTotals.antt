-- A scenario is too large if the counts of its parts pass a limit.
use Rattle.std.proofs.Common.{◌≡◌, ℕ, ◌+◌, ◌*◌, List, [], ◌∷◌, ◌++◌, ◌∙◌, length, map, flat_map, refl, ap, ap₂, sym, arith}
use Rattle.composition.specs.type_heads.Types.{Types}
use Rattle.composition.specs.declared.setting.Setting.{Setting}
use Rattle.composition.specs.Expansion.{GivenModifier, Expansion, Expansions, Object, Value, Phase, End, Part, expansion}
use Rattle.composition.specs.SceneFaults.{is_too_large}
use Rattle.expansion_laws.specs.Nodes.{Node, nodes_of, nodes_in, closed_of, closed_in, object_node, phase_node}
use Rattle.expansion_laws.specs.Counts.{total, spot_objects, spot_slots, spot_rules, samples_of, given_rules, given_tokens, modifier_tokens, is_past}
use Rattle.expansion_laws.specs.Laid.{spots_laid, givens_laid, modifiers_laid, rules_laid, tokens_laid}
use Rattle.expansion_laws.specs.NodeCounts.{node_objects, node_slots, node_rules, node_tokens, pass_limits}
use Rattle.expansion_laws.proofs.LaidScenes.{laid_past}

pub total_append : {X : Type 0} (f : X → ℕ) (xs ys : List X) → total f (xs ++ ys) ≡ total f xs + total f ys
total_append f [] ys = omega arith
total_append f (x ∷ xs) ys = let more : total f (xs ++ ys) ≡ total f xs + total f ys = total_append f xs ys in omega arith

total_of_map : {X Y : Type 0} (f : Y → ℕ) (g : X → Y) (xs : List X) → total f (map g xs) ≡ total (λ x. f (g x)) xs
total_of_map f g [] = refl
total_of_map f g (x ∷ xs) = ap (λ n. f (g x) + n) (total_of_map f g xs)

total_of_flat : {X Y : Type 0} (f : Y → ℕ) (g : X → List Y) (xs : List X) → total f (flat_map g xs) ≡ total (λ x. total f (g x)) xs
total_of_flat f g [] = refl
total_of_flat f g (x ∷ xs) = total_append f (g x) (flat_map g xs) ∙ ap (λ n. total f (g x) + n) (total_of_flat f g xs)

total_alike : {X : Type 0} (f g : X → ℕ) → ((x : X) → f x ≡ g x) → (xs : List X) → total f xs ≡ total g xs
total_alike f g same [] = refl
total_alike f g same (x ∷ xs) = ap₂ (λ n m. n + m) (same x) (total_alike f g same xs)

-- each counts as many
total_of_same : {X : Type 0} (n : ℕ) (xs : List X) → total (λ x. n) xs ≡ n * length xs
total_of_same n [] = omega arith
total_of_same {X} n (x ∷ xs) = let more : total (λ (x : X). n) xs ≡ n * length xs = total_of_same n xs in omega arith

total_times : {X : Type 0} (n : ℕ) (f : X → ℕ) (xs : List X) → total (λ x. n * f x) xs ≡ n * total f xs
total_times n f [] = omega arith
total_times {X} n f (x ∷ xs) = let more : total (λ (x : X). n * f x) xs ≡ n * total f xs = total_times n f xs in omega arith

total_sum : {X : Type 0} (f g : X → ℕ) (xs : List X) → total (λ x. f x + g x) xs ≡ total f xs + total g xs
total_sum f g [] = omega arith
total_sum {X} f g (x ∷ xs) = let more : total (λ (x : X). f x + g x) xs ≡ total f xs + total g xs = total_sum f g xs in omega arith

last_counted : (f : Node → ℕ) (xs ys : List Node) (n : Node) → total f xs ≡ total f ys → total f (xs ++ n ∷ []) ≡ total f (n ∷ ys)
last_counted f xs ys n same = let both : total f (xs ++ n ∷ []) ≡ total f xs + total f (n ∷ []) = total_append f xs (n ∷ []) in omega (arith, same, both)

-- both orders count as many
mutual
  pub closed_total : (f : Node → ℕ) (ts : Types) (e : Expansion) → total f (closed_of ts e) ≡ total f (nodes_of ts e)
  closed_total f ts (Object path t guards parts own) =
      last_counted f (closed_in ts parts) (nodes_in ts parts) (object_node ts path t guards own) (closed_totals f ts parts)
  closed_total f ts (Value path guards range) = refl
  closed_total f ts (Phase path guards kind members bindings object given modifiers) =
      last_counted f (closed_in ts object) (nodes_in ts object) (phase_node path guards kind members bindings given modifiers) (closed_totals f ts object)

  closed_totals : (f : Node → ℕ) (ts : Types) (es : Expansions) → total f (closed_in ts es) ≡ total f (nodes_in ts es)
  closed_totals f ts End = refl
  closed_totals f ts (Part part others) =
      total_append f (closed_of ts part) (closed_in ts others) ∙ ap₂ (λ n m. n + m) (closed_total f ts part) (closed_totals f ts others)
      ∙ sym (total_append f (nodes_of ts part) (nodes_in ts others))

module _ (last : ℕ) (before after : List Node) (alike : (f : Node → ℕ) → total f after ≡ total f before) where
  objects_are : total spot_objects (spots_laid before) ≡ total node_objects before
  objects_are = total_of_map spot_objects (λ (n : Node). n.spot) before

  slots_are : total (spot_slots (samples_of last)) (spots_laid before) ≡ total (node_slots last) before
  slots_are = total_of_map (spot_slots (samples_of last)) (λ (n : Node). n.spot) before

  givens_are : (f : Node → ℕ) (n : ℕ) → n ≡ total f after → n ≡ total f before
  givens_are f n is = is ∙ alike f

  rules_are : rules_laid (last + 1) before after ≡ total (node_rules last) before
  rules_are =
      let given : total given_rules (givens_laid after) ≡ total (λ (n : Node). total given_rules n.given) before =
      total_of_flat given_rules (λ (n : Node). n.given) after ∙ alike (λ (n : Node). total given_rules n.given) in
      let spots : total (spot_rules (last + 1)) (spots_laid before) ≡ total (λ (n : Node). spot_rules (last + 1) n.spot) before = total_of_map (spot_rules (last + 1)) (λ (n : Node). n.spot) before in
      let modified : total (λ (m : GivenModifier). last + 1) (modifiers_laid before) ≡ total (λ (n : Node). (last + 1) * length n.modifiers) before =
      total_of_flat (λ (m : GivenModifier). last + 1) (λ (n : Node). n.modifiers) before
      ∙ total_alike (λ (n : Node). total (λ (m : GivenModifier). last + 1) n.modifiers) (λ (n : Node). (last + 1) * length n.modifiers) (λ n. total_of_same (last + 1) n.modifiers) before in
      ap₂ (λ n m. n + m) given (ap₂ (λ n m. n + m) spots modified)
      ∙ sym (total_sum (λ (n : Node). total given_rules n.given) (λ (n : Node). spot_rules (last + 1) n.spot + (last + 1) * length n.modifiers) before
      ∙ ap (λ m. total (λ (n : Node). total given_rules n.given) before + m) (total_sum (λ (n : Node). spot_rules (last + 1) n.spot) (λ (n : Node). (last + 1) * length n.modifiers) before))

  tokens_are : tokens_laid (last + 1) before after ≡ total (node_tokens last) before
  tokens_are =
      let given : total given_tokens (givens_laid after) ≡ total (λ (n : Node). total given_tokens n.given) before =
      total_of_flat given_tokens (λ (n : Node). n.given) after ∙ alike (λ (n : Node). total given_tokens n.given) in
      let modified : (last + 1) * total modifier_tokens (modifiers_laid before) ≡ total (λ (n : Node). (last + 1) * total modifier_tokens n.modifiers) before =
      ap (λ k. (last + 1) * k) (total_of_flat modifier_tokens (λ (n : Node). n.modifiers) before) ∙ sym (total_times (last + 1) (λ (n : Node). total modifier_tokens n.modifiers) before) in
      ap₂ (λ n m. n + m) given modified ∙ sym (total_sum (λ (n : Node). total given_tokens n.given) (λ (n : Node). (last + 1) * total modifier_tokens n.modifiers) before)

-- the counts of parts decide the limits
pub too_large_is : (ts : Types) (t : ℕ) (setting : Setting) → is_too_large ts t setting ≡ pass_limits setting.ticks (nodes_of ts (expansion ts t))
too_large_is ts t setting =
    let tree : Expansion = expansion ts t in
    let before : List Node = nodes_of ts tree in
    let after : List Node = closed_of ts tree in
    let alike : (f : Node → ℕ) → total f after ≡ total f before = λ f. closed_total f ts tree in
    laid_past ts t setting before after refl refl
    ∙ ap₂ (λ a b. is_past a b (rules_laid (setting.ticks + 1) before after) (tokens_laid (setting.ticks + 1) before after)) (objects_are setting.ticks before after alike) (slots_are setting.ticks before after alike)
    ∙ ap₂ (λ a b. is_past (total node_objects before) (total (node_slots setting.ticks) before) a b) (rules_are setting.ticks before after alike) (tokens_are setting.ticks before after alike)
