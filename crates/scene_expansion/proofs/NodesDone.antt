-- Lists of works that are laid out, one work further.
use Rattle.std.proofs.Common.{◌≡◌, ℕ, ◌+◌, ◌<◌, List, [], ◌∷◌, ◌++◌, ◌∙◌, length, map, flat_map, take, drop, get_or, refl, ap, sym}
use Rattle.std.proofs.lemmas.List.{map-append, take_more, take-append-drop, append-nil}
use Rattle.std.proofs.lemmas.Grind.{flat_map-append}
use Rattle.program_calls.specs.type_heads.Types.{Types}
use Rattle.program_calls.specs.composition.declared.part.Spot.{Spot as OwnSpot}
use Rattle.program_calls.specs.composition.SeenParts.{seen_spot}
use Rattle.program_calls.specs.composition.Scenes.{Spot}
use Rattle.scene_texts.specs.expansion_laws.Nodes.{Node}
use Rattle.scene_texts.specs.expansion_laws.WorkNodes.{node_of}
use Rattle.scene_texts.specs.expansion_laws.Laid.{spots_laid}
use Rattle.scene_expansion.specs.declared.work.Work.{Work as OwnWork}
use Rattle.scene_expansion.specs.SeenWorks.{seen_work}
use Rattle.scene_expansion.specs.Walks.{nodes_done}

module _ (ts : Types) (works : List OwnWork) (i : ℕ) (w : OwnWork) (lt : i < length works) (is : w ≡ get_or works i w) where
  pub done_more : nodes_done ts (take (i + 1) works) ≡ nodes_done ts (take i works) ++ node_of ts (seen_work w) ∷ []
  done_more =
      ap (nodes_done ts) (take_more works i w lt ∙ ap (λ (v : OwnWork). take i works ++ v ∷ []) (sym is))
      ∙ ap (map (node_of ts)) (map-append seen_work (take i works) (w ∷ []))
      ∙ map-append (node_of ts) (map seen_work (take i works)) (seen_work w ∷ [])

  -- a spot more
  pub spots_more : (spots new : List OwnSpot) (s : OwnSpot) → map seen_spot spots ≡ spots_laid (nodes_done ts (take i works)) → seen_spot s ≡ (node_of ts (seen_work w)).spot → new ≡ spots ++ s ∷ []
      → map seen_spot new ≡ spots_laid (nodes_done ts (take (i + 1) works))
  spots_more spots new s before own pushed =
      ap (map seen_spot) pushed ∙ map-append seen_spot spots (s ∷ [])
      ∙ ap (λ (ss : List Spot). ss ++ seen_spot s ∷ []) before ∙ ap (λ (t : Spot). spots_laid (nodes_done ts (take i works)) ++ t ∷ []) own
      ∙ sym (ap spots_laid done_more ∙ map-append (λ (n : Node). n.spot) (nodes_done ts (take i works)) (node_of ts (seen_work w) ∷ []))

  -- the items of a work more
  pub items_more : {X : Type 0} (of : Node → List X) (old new : List X) → old ≡ flat_map of (nodes_done ts (take i works)) → new ≡ old ++ of (node_of ts (seen_work w))
      → new ≡ flat_map of (nodes_done ts (take (i + 1) works))
  items_more {X} of old new before pushed =
      pushed ∙ ap (λ (xs : List X). xs ++ of (node_of ts (seen_work w))) before
      ∙ sym (ap (flat_map of) done_more ∙ flat_map-append of (nodes_done ts (take i works)) (node_of ts (seen_work w) ∷ [])
      ∙ ap (λ (xs : List X). flat_map of (nodes_done ts (take i works)) ++ xs) (append-nil (of (node_of ts (seen_work w)))))

  -- the items of a work more, each changed
  pub changed_more : {X Y : Type 0} (of : Node → List X) (to : X → Y) (old new : List Y) → old ≡ map to (flat_map of (nodes_done ts (take i works))) → new ≡ old ++ map to (of (node_of ts (seen_work w)))
      → new ≡ map to (flat_map of (nodes_done ts (take (i + 1) works)))
  changed_more {X} {Y} of to old new before pushed =
      pushed ∙ ap (λ (ys : List Y). ys ++ map to (of (node_of ts (seen_work w)))) before
      ∙ sym (ap (map to) (sym (items_more of (flat_map of (nodes_done ts (take i works))) (flat_map of (nodes_done ts (take i works)) ++ of (node_of ts (seen_work w))) refl refl))
      ∙ map-append to (flat_map of (nodes_done ts (take i works))) (of (node_of ts (seen_work w))))

-- works in two parts
pub done_split : (ts : Types) (works : List OwnWork) (i : ℕ) → nodes_done ts works ≡ nodes_done ts (take i works) ++ nodes_done ts (drop i works)
done_split ts works i =
    ap (nodes_done ts) (sym (take-append-drop i works))
    ∙ ap (map (node_of ts)) (map-append seen_work (take i works) (drop i works))
    ∙ map-append (node_of ts) (map seen_work (take i works)) (map seen_work (drop i works))
