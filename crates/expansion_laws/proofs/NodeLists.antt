-- The lists of an expansion are those of its nodes.
use Rattle.std.proofs.Common.{◌≡◌, List, [], ◌∷◌, ◌++◌, ◌∙◌, map, flat_map, refl, ap, ap₂, sym, append_assoc}
use Rattle.std.proofs.lemmas.List.{map-append, append-nil}
use Rattle.composition.specs.type_heads.Types.{Types}
use Rattle.composition.specs.Scenes.{Spot, Binding}
use Rattle.composition.specs.Givens.{Given}
use Rattle.composition.specs.Expansion.{GivenModifier, Expansion, Expansions, Object, Value, Phase, End, Part}
use Rattle.composition.specs.Expanded.{spots_of, spots_in, bindings_of, bindings_in, modifiers_of, modifiers_in, givens_of, givens_in}
use Rattle.expansion_laws.specs.Nodes.{Node, nodes_of, nodes_in, closed_of, closed_in, object_node, phase_node}

flat_append : {X Y : Type 0} (f : X → List Y) (xs ys : List X) → flat_map f (xs ++ ys) ≡ flat_map f xs ++ flat_map f ys
flat_append f [] ys = refl
flat_append f (x ∷ xs) ys = ap (λ zs. f x ++ zs) (flat_append f xs ys) ∙ sym (append_assoc (f x) (flat_map f xs) (flat_map f ys))

mutual
  pub spots_are : (ts : Types) (e : Expansion) → spots_of ts e ≡ map (λ n. n.spot) (nodes_of ts e)
  spots_are ts (Object path t guards parts own) = ap (λ (ss : List Spot). (object_node ts path t guards own).spot ∷ ss) (spots_among ts parts)
  spots_are ts (Value path guards range) = refl
  spots_are ts (Phase path guards kind members bindings object given modifiers) =
      ap (λ (ss : List Spot). (phase_node path guards kind members bindings given modifiers).spot ∷ ss) (spots_among ts object)

  spots_among : (ts : Types) (es : Expansions) → spots_in ts es ≡ map (λ n. n.spot) (nodes_in ts es)
  spots_among ts End = refl
  spots_among ts (Part part others) =
      ap₂ (λ (xs ys : List Spot). xs ++ ys) (spots_are ts part) (spots_among ts others) ∙ sym (map-append (λ (n : Node). n.spot) (nodes_of ts part) (nodes_in ts others))

mutual
  pub bindings_are : (ts : Types) (e : Expansion) → bindings_of e ≡ flat_map (λ n. n.bindings) (nodes_of ts e)
  bindings_are ts (Object path t guards parts own) = bindings_among ts parts
  bindings_are ts (Value path guards range) = refl
  bindings_are ts (Phase path guards kind members bindings object given modifiers) = ap (λ (bs : List Binding). bindings ++ bs) (bindings_among ts object)

  bindings_among : (ts : Types) (es : Expansions) → bindings_in es ≡ flat_map (λ n. n.bindings) (nodes_in ts es)
  bindings_among ts End = refl
  bindings_among ts (Part part others) =
      ap₂ (λ (xs ys : List Binding). xs ++ ys) (bindings_are ts part) (bindings_among ts others) ∙ sym (flat_append (λ (n : Node). n.bindings) (nodes_of ts part) (nodes_in ts others))

mutual
  pub modifiers_are : (ts : Types) (e : Expansion) → modifiers_of e ≡ flat_map (λ n. n.modifiers) (nodes_of ts e)
  modifiers_are ts (Object path t guards parts own) = modifiers_among ts parts
  modifiers_are ts (Value path guards range) = refl
  modifiers_are ts (Phase path guards kind members bindings object given modifiers) = ap (λ (ms : List GivenModifier). modifiers ++ ms) (modifiers_among ts object)

  modifiers_among : (ts : Types) (es : Expansions) → modifiers_in es ≡ flat_map (λ n. n.modifiers) (nodes_in ts es)
  modifiers_among ts End = refl
  modifiers_among ts (Part part others) =
      ap₂ (λ (xs ys : List GivenModifier). xs ++ ys) (modifiers_are ts part) (modifiers_among ts others)
      ∙ sym (flat_append (λ (n : Node). n.modifiers) (nodes_of ts part) (nodes_in ts others))

mutual
  pub givens_are : (ts : Types) (e : Expansion) → givens_of e ≡ flat_map (λ n. n.given) (closed_of ts e)
  givens_are ts (Object path t guards parts own) =
      ap₂ (λ (xs ys : List Given). xs ++ ys) (givens_among ts parts) (sym (append-nil own))
      ∙ sym (flat_append (λ (n : Node). n.given) (closed_in ts parts) (object_node ts path t guards own ∷ []))
  givens_are ts (Value path guards range) = refl
  givens_are ts (Phase path guards kind members bindings object given modifiers) =
      ap₂ (λ (xs ys : List Given). xs ++ ys) (givens_among ts object) (sym (append-nil given))
      ∙ sym (flat_append (λ (n : Node). n.given) (closed_in ts object) (phase_node path guards kind members bindings given modifiers ∷ []))

  givens_among : (ts : Types) (es : Expansions) → givens_in es ≡ flat_map (λ n. n.given) (closed_in ts es)
  givens_among ts End = refl
  givens_among ts (Part part others) =
      ap₂ (λ (xs ys : List Given). xs ++ ys) (givens_are ts part) (givens_among ts others)
      ∙ sym (flat_append (λ (n : Node). n.given) (closed_of ts part) (closed_in ts others))
