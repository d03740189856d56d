-- A step of each walk keeps all nodes.
use Rattle.std.proofs.Common.{◌≡◌, ℕ, ◌+◌, ◌<◌, List, [], ◌∷◌, ◌++◌, ◌∙◌, length, map, flat_map, reverse, refl, ap, ap₂, sym, append_assoc, arith, length-append}
use Rattle.std.proofs.lemmas.List.{map-append, append-nil, length-map, length-reverse, reverse-append, reverse-reverse}
use Rattle.std.proofs.lemmas.Grind.{flat_map-append}
use Rattle.std.proofs.lemmas.Result.{on_ok_weaker}
use Rattle.std.specs.Prelude.{Result, OnOk}
use Rattle.program_calls.specs.type_heads.Types.{Types}
use Rattle.scene_expansion.specs.declared.work.Work.{Work as OwnWork}
use Rattle.scene_texts.specs.expansion_laws.Nodes.{Node}
use Rattle.scene_texts.specs.expansion_laws.Works.{Work, parts_of}
use Rattle.scene_texts.specs.expansion_laws.WorkNodes.{node_of, nodes_for, closed_for}
use Rattle.scene_expansion.specs.SeenWorks.{seen_work}
use Rattle.scene_expansion.specs.Walks.{nodes_done, nodes_before, nodes_after, whole_before, whole_after}
use Rattle.scene_texts.proofs.of_expansion_laws.WorkSteps.{nodes_step, closed_step}

module _ (ts : Types) (done left parts : List OwnWork) (w : OwnWork) (made : map seen_work parts ≡ parts_of ts (seen_work w)) where
  more_done : nodes_done ts (done ++ w ∷ []) ≡ nodes_done ts done ++ node_of ts (seen_work w) ∷ []
  more_done = ap (map (node_of ts)) (map-append seen_work done (w ∷ [])) ∙ map-append (node_of ts) (map seen_work done) (seen_work w ∷ [])

  -- the nodes of what is left once the work is laid out
  rest : List Node
  rest = flat_map (nodes_for ts) (map seen_work (reverse left))

  left_before : flat_map (nodes_for ts) (map seen_work (reverse (left ++ w ∷ []))) ≡ node_of ts (seen_work w) ∷ flat_map (nodes_for ts) (parts_of ts (seen_work w)) ++ flat_map (nodes_for ts) (map seen_work (reverse left))
  left_before =
      ap (λ (ws : List OwnWork). flat_map (nodes_for ts) (map seen_work ws)) (reverse-append left (w ∷ []))
      ∙ ap (λ (ns : List Node). ns ++ flat_map (nodes_for ts) (map seen_work (reverse left))) (nodes_step ts (seen_work w))

  left_then : flat_map (nodes_for ts) (map seen_work (reverse (left ++ reverse parts))) ≡ flat_map (nodes_for ts) (parts_of ts (seen_work w)) ++ flat_map (nodes_for ts) (map seen_work (reverse left))
  left_then =
      ap (λ (ws : List OwnWork). flat_map (nodes_for ts) (map seen_work ws)) (reverse-append left (reverse parts) ∙ ap (λ (ws : List OwnWork). ws ++ reverse left) (reverse-reverse parts))
      ∙ ap (flat_map (nodes_for ts)) (map-append seen_work parts (reverse left) ∙ ap (λ (ws : List Work). ws ++ map seen_work (reverse left)) made)
      ∙ flat_map-append (nodes_for ts) (parts_of ts (seen_work w)) (map seen_work (reverse left))

  pub before_step : nodes_before ts (done ++ w ∷ []) (left ++ reverse parts) ≡ nodes_before ts done (left ++ w ∷ [])
  before_step =
      ap₂ (λ (xs ys : List Node). xs ++ ys) more_done left_then
      ∙ append_assoc (nodes_done ts done) (node_of ts (seen_work w) ∷ []) (flat_map (nodes_for ts) (parts_of ts (seen_work w)) ++ flat_map (nodes_for ts) (map seen_work (reverse left)))
      ∙ ap (λ (ys : List Node). nodes_done ts done ++ ys) (sym left_before)

  after_then : flat_map (closed_for ts) (map seen_work (left ++ parts)) ≡ flat_map (closed_for ts) (map seen_work left) ++ flat_map (closed_for ts) (parts_of ts (seen_work w))
  after_then =
      ap (flat_map (closed_for ts)) (map-append seen_work left parts ∙ ap (λ (ws : List Work). map seen_work left ++ ws) made)
      ∙ flat_map-append (closed_for ts) (map seen_work left) (parts_of ts (seen_work w))

  after_before : flat_map (closed_for ts) (map seen_work (left ++ w ∷ [])) ≡ flat_map (closed_for ts) (map seen_work left) ++ (flat_map (closed_for ts) (parts_of ts (seen_work w)) ++ node_of ts (seen_work w) ∷ [])
  after_before =
      ap (flat_map (closed_for ts)) (map-append seen_work left (w ∷ []))
      ∙ flat_map-append (closed_for ts) (map seen_work left) (seen_work w ∷ [])
      ∙ ap (λ (ns : List Node). flat_map (closed_for ts) (map seen_work left) ++ ns) (append-nil-of (closed_for ts (seen_work w)) ∙ closed_step ts (seen_work w))
    where
      append-nil-of : (ns : List Node) → ns ++ [] ≡ ns
      append-nil-of [] = refl
      append-nil-of (n ∷ ns) = ap (λ (ms : List Node). n ∷ ms) (append-nil-of ns)

  pub after_step : nodes_after ts (done ++ w ∷ []) (left ++ parts) ≡ nodes_after ts done (left ++ w ∷ [])
  after_step =
      let L : List Node = flat_map (closed_for ts) (map seen_work left) in
      let P : List Node = flat_map (closed_for ts) (parts_of ts (seen_work w)) in
      let D : List Node = nodes_done ts (reverse done) in
      ap₂ (λ (xs ys : List Node). xs ++ ys) after_then (ap (nodes_done ts) (reverse-append done (w ∷ [])))
      ∙ append_assoc L P (node_of ts (seen_work w) ∷ D)
      ∙ ap (λ (ns : List Node). L ++ ns) (sym (append_assoc P (node_of ts (seen_work w) ∷ []) D))
      ∙ sym (append_assoc L (P ++ node_of ts (seen_work w) ∷ []) D)
      ∙ ap (λ (ns : List Node). ns ++ D) (sym after_before)

-- a step that may run out of memory

pub laid_before_step : {A E : Type 0} (r : Result A E) (ts : Types) (done left parts pushed stacked : List OwnWork) (w : OwnWork)
    → map seen_work parts ≡ parts_of ts (seen_work w) → pushed ≡ done ++ w ∷ [] → OnOk r (stacked ≡ left ++ reverse parts)
    → OnOk r (nodes_before ts pushed stacked ≡ nodes_before ts done (left ++ w ∷ []))
laid_before_step r ts done left parts pushed stacked w made is stacks =
    on_ok_weaker {P = stacked ≡ left ++ reverse parts} {Q = nodes_before ts pushed stacked ≡ nodes_before ts done (left ++ w ∷ [])} r then stacks
  where
    then : stacked ≡ left ++ reverse parts → nodes_before ts pushed stacked ≡ nodes_before ts done (left ++ w ∷ [])
    then same = ap (λ (ds : List OwnWork). nodes_before ts ds stacked) is ∙ ap (λ (ls : List OwnWork). nodes_before ts (done ++ w ∷ []) ls) same ∙ before_step ts done left parts w made

pub laid_after_step : {A E : Type 0} (r : Result A E) (ts : Types) (done left parts pushed stacked : List OwnWork) (w : OwnWork)
    → map seen_work parts ≡ parts_of ts (seen_work w) → pushed ≡ done ++ w ∷ [] → OnOk r (stacked ≡ left ++ parts)
    → OnOk r (nodes_after ts pushed stacked ≡ nodes_after ts done (left ++ w ∷ []))
laid_after_step r ts done left parts pushed stacked w made is stacks =
    on_ok_weaker {P = stacked ≡ left ++ parts} {Q = nodes_after ts pushed stacked ≡ nodes_after ts done (left ++ w ∷ [])} r then stacks
  where
    then : stacked ≡ left ++ parts → nodes_after ts pushed stacked ≡ nodes_after ts done (left ++ w ∷ [])
    then same = ap (λ (ds : List OwnWork). nodes_after ts ds stacked) is ∙ ap (λ (ls : List OwnWork). nodes_after ts (done ++ w ∷ []) ls) same ∙ after_step ts done left parts w made

-- the start and the end of each walk

pub begun_before : (ts : Types) (root : OwnWork) (parts done left : List OwnWork) → done ≡ root ∷ [] → left ≡ reverse parts
    → nodes_before ts done left ≡ whole_before ts (seen_work root) (map seen_work parts)
begun_before ts root parts done left is_done is_left =
    ap₂ (λ (ds ls : List OwnWork). nodes_before ts ds ls) is_done is_left
    ∙ ap (λ (ws : List OwnWork). node_of ts (seen_work root) ∷ flat_map (nodes_for ts) (map seen_work ws)) (reverse-reverse parts)

pub begun_after : (ts : Types) (root : OwnWork) (parts done left : List OwnWork) → done ≡ root ∷ [] → left ≡ parts
    → nodes_after ts done left ≡ whole_after ts (seen_work root) (map seen_work parts)
begun_after ts root parts done left is_done is_left = ap₂ (λ (ds ls : List OwnWork). nodes_after ts ds ls) is_done is_left

pub ended_before : (ts : Types) (done left : List OwnWork) (whole : List Node) → nodes_before ts done left ≡ whole → left ≡ [] → nodes_done ts done ≡ whole
ended_before ts done left whole is empty = sym (append-nil (nodes_done ts done)) ∙ ap (λ (ls : List OwnWork). nodes_before ts done ls) (sym empty) ∙ is

pub ended_after : (ts : Types) (done left : List OwnWork) (whole : List Node) → nodes_after ts done left ≡ whole → left ≡ [] → nodes_done ts (reverse done) ≡ whole
ended_after ts done left whole is empty = ap (λ (ls : List OwnWork). nodes_after ts done ls) (sym empty) ∙ is

done_length : (ts : Types) (done : List OwnWork) → length (nodes_done ts done) ≡ length done
done_length ts done = length-map (map seen_work done) (node_of ts) ∙ length-map done seen_work

pub many_before : (ts : Types) (done left : List OwnWork) (whole : List Node) (n : ℕ) → nodes_before ts done left ≡ whole → length done ≡ n + 1 → n ≡ 131072 → 131072 < length whole
many_before ts done left whole n is laid most =
    let rest : List Node = flat_map (nodes_for ts) (map seen_work (reverse left)) in
    let whole_length : length whole ≡ length (nodes_done ts done) + length (flat_map (nodes_for ts) (map seen_work (reverse left))) =
    ap length (sym is) ∙ length-append (nodes_done ts done) (flat_map (nodes_for ts) (map seen_work (reverse left))) in
    let same : length (nodes_done ts done) ≡ length done = done_length ts done in
    omega (arith, whole_length, same, laid, most)

pub many_after : (ts : Types) (done left : List OwnWork) (whole : List Node) (n : ℕ) → nodes_after ts done left ≡ whole → length done ≡ n + 1 → n ≡ 131072 → 131072 < length whole
many_after ts done left whole n is laid most =
    let whole_length : length whole ≡ length (flat_map (closed_for ts) (map seen_work left)) + length (nodes_done ts (reverse done)) =
    ap length (sym is) ∙ length-append (flat_map (closed_for ts) (map seen_work left)) (nodes_done ts (reverse done)) in
    let same : length (nodes_done ts (reverse done)) ≡ length done = done_length ts (reverse done) ∙ length-reverse done in
    omega (arith, whole_length, same, laid, most)

-- a step of a loop: the work on top is laid out
pub one_before : (ts : Types) (done left popped new_done new_left : List OwnWork) (w : OwnWork) (whole : List Node)
    → nodes_before ts done left ≡ whole → left ≡ popped ++ w ∷ [] → nodes_before ts new_done new_left ≡ nodes_before ts done (popped ++ w ∷ []) → nodes_before ts new_done new_left ≡ whole
one_before ts done left popped new_done new_left w whole is pop step = step ∙ ap (λ (ls : List OwnWork). nodes_before ts done ls) (sym pop) ∙ is

pub one_after : (ts : Types) (done left popped new_done new_left : List OwnWork) (w : OwnWork) (whole : List Node)
    → nodes_after ts done left ≡ whole → left ≡ popped ++ w ∷ [] → nodes_after ts new_done new_left ≡ nodes_after ts done (popped ++ w ∷ []) → nodes_after ts new_done new_left ≡ whole
one_after ts done left popped new_done new_left w whole is pop step = step ∙ ap (λ (ls : List OwnWork). nodes_after ts done ls) (sym pop) ∙ is
