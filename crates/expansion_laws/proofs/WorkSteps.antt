-- Each step of laying out: the nodes of a part are its own node and those of the parts in it.
use Rattle.std.proofs.Common.{◌≡◌, ℕ, zero, suc, List, [], ◌∷◌, ◌++◌, ◌∙◌, Option, Some, None, length, map, filter, filter_map, flat_map, refl, ap, ap₂, sym, append_assoc}
use Rattle.std.proofs.lemmas.List.{map-append}
use Rattle.std.specs.Prelude.{◌&&◌, not, option_to_list, codes}
use Rattle.std.specs.List.{range_with_len}
use Rattle.composition.specs.osc_base.declared.path.Path.{Path}
use Rattle.composition.specs.osc_base.Paths.{root, then_name, then_index}
use Rattle.composition.specs.dsl_tree.PhaseTree as PhaseTrees
use Rattle.composition.specs.dsl_tree.PhaseTree.{PhaseTree}
use Rattle.composition.specs.type_heads.Table.{form, owner, is_object}
use Rattle.composition.specs.type_heads.Types.{Types, Field, Do}
use Rattle.composition.specs.type_heads.Members.{fields, field_type, list_length, the_do}
use Rattle.composition.specs.declared.guard.Guard.{Guard}
use Rattle.composition.specs.declared.spot.ValueRange.{ValueRange}
use Rattle.composition.specs.Scenes.{Binding}
use Rattle.composition.specs.Ranges.{range_of}
use Rattle.composition.specs.Homes.{is_bound}
use Rattle.composition.specs.Calls.{PhaseHere, phases_in, invoked}
use Rattle.composition.specs.Givens.{guards_under, own_givens}
use Rattle.composition.specs.Expansion.{Expansion, Calling, calling, in_row, value_parts, field_parts, phase_part, do_parts, expand_within, own_actor, expansion}
use Rattle.expansion_laws.specs.Nodes.{Node, nodes_of, nodes_in, closed_of, closed_in, object_node}
use Rattle.expansion_laws.specs.Works.{Work, Object, Value, Comp, Invoke, Wait, maker, expansion_of, bindings_made, value_works, field_works, phase_works, do_works, object_works, actor_works, parts_of, root_works, root_works_within}
use Rattle.expansion_laws.specs.WorkNodes.{own_within, node_of, nodes_for, closed_for, root_node}

-- lists

map_map : {X Y Z : Type 0} (g : Y → Z) (f : X → Y) (xs : List X) → map g (map f xs) ≡ map (λ x. g (f x)) xs
map_map g f [] = refl
map_map g f (x ∷ xs) = ap (λ zs. g (f x) ∷ zs) (map_map g f xs)

flat_alike : {X Y : Type 0} (f g : X → List Y) → ((x : X) → f x ≡ g x) → (xs : List X) → flat_map f xs ≡ flat_map g xs
flat_alike f g same [] = refl
flat_alike f g same (x ∷ xs) = ap₂ (λ ys zs. ys ++ zs) (same x) (flat_alike f g same xs)

map_flat : {X Y Z : Type 0} (g : Y → Z) (f : X → List Y) (xs : List X) → map g (flat_map f xs) ≡ flat_map (λ x. map g (f x)) xs
map_flat g f [] = refl
map_flat g f (x ∷ xs) = map-append g (f x) (flat_map f xs) ∙ ap (λ zs. map g (f x) ++ zs) (map_flat g f xs)

flat_of_map : {X Y Z : Type 0} (f : Y → List Z) (g : X → Y) (xs : List X) → flat_map f (map g xs) ≡ flat_map (λ x. f (g x)) xs
flat_of_map f g [] = refl
flat_of_map f g (x ∷ xs) = ap (λ zs. f (g x) ++ zs) (flat_of_map f g xs)

-- parts in a row

row_nodes : (ts : Types) (es : List Expansion) → nodes_in ts (in_row es) ≡ flat_map (nodes_of ts) es
row_nodes ts [] = refl
row_nodes ts (e ∷ es) = ap (λ (ns : List Node). nodes_of ts e ++ ns) (row_nodes ts es)

row_closed : (ts : Types) (es : List Expansion) → closed_in ts (in_row es) ≡ flat_map (closed_of ts) es
row_closed ts [] = refl
row_closed ts (e ∷ es) = ap (λ (ns : List Node). closed_of ts e ++ ns) (row_closed ts es)

-- the parts of an object

values_made : (ts : Types) (path : Path) (guards : List Guard) (count : Option ℕ) (range : ValueRange)
    → value_parts path guards count range ≡ map (expansion_of ts) (value_works path guards count range)
values_made ts path guards None range = refl
values_made ts path guards (Some n) range = sym (map_map (expansion_of ts) (λ k. Value (then_index path k) guards range) (range_with_len 0 n))

module _ (steps : ℕ) (ts : Types) (bindings : List Binding) (object : Path) (guards : List Guard) where
  field_made : (t : ℕ) (f : Field) → field_parts (maker ts steps) ts bindings object t guards f ≡ map (expansion_of ts) (field_works steps ts bindings object t guards f)
  field_made t f =
      let path : Path = then_name object f.name.text in
      let conditions : List Guard = guards ++ guards_under ts object t f.under in
      let types : List ℕ = option_to_list (field_type ts f) in
      let objects : List ℕ = filter (λ of. is_object (form ts.table.heads of) && not (is_bound bindings path)) types in
      let ranges : List ValueRange = filter_map (λ of. range_of (form ts.table.heads of)) types in
      ap₂ (λ (xs ys : List Expansion). xs ++ ys)
      (sym (map_map (expansion_of ts) (λ of. Object steps path of conditions []) objects))
      (flat_alike (value_parts path conditions (list_length f.tree)) (λ r. map (expansion_of ts) (value_works path conditions (list_length f.tree) r)) (values_made ts path conditions (list_length f.tree)) ranges
      ∙ sym (map_flat (expansion_of ts) (value_works path conditions (list_length f.tree)) ranges))
      ∙ sym (map-append (expansion_of ts) (map (λ of. Object steps path of conditions []) objects) (flat_map (value_works path conditions (list_length f.tree)) ranges))

  phase_made : (call : Calling) (p : PhaseTree) → phase_part (maker ts steps) ts call p ≡ map (expansion_of ts) (phase_works steps ts call p)
  phase_made call (PhaseTrees.Comp label place kind arguments members) = refl
  phase_made call (PhaseTrees.Invoke label head names arguments parts) =
      sym (map_map (expansion_of ts) (λ of. Invoke steps call head names arguments parts of (bindings_made ts call head names arguments of)) (option_to_list (invoked ts call.holder head names)))
  phase_made call (PhaseTrees.Wait label place elapsed) = refl

  do_made : (d : Do) → do_parts (maker ts steps) ts bindings object guards d ≡ map (expansion_of ts) (do_works steps ts bindings object guards d)
  do_made d =
      flat_alike (λ (p : PhaseHere). phase_part (maker ts steps) ts (calling bindings object guards d p) p.phase)
      (λ (p : PhaseHere). map (expansion_of ts) (phase_works steps ts (calling bindings object guards d p) p.phase))
      (λ p. phase_made (calling bindings object guards d p) p.phase) (phases_in d.phase)
      ∙ sym (map_flat (expansion_of ts) (λ (p : PhaseHere). phase_works steps ts (calling bindings object guards d p) p.phase) (phases_in d.phase))

  object_made : (t : ℕ)
      → flat_map (field_parts (maker ts steps) ts bindings object t guards) (fields ts t)
      ++ flat_map (do_parts (maker ts steps) ts bindings object guards) (option_to_list (the_do ts t))
      ≡ map (expansion_of ts) (object_works steps ts object t guards bindings)
  object_made t =
      ap₂ (λ (xs ys : List Expansion). xs ++ ys)
      (flat_alike (field_parts (maker ts steps) ts bindings object t guards) (λ f. map (expansion_of ts) (field_works steps ts bindings object t guards f)) (field_made t) (fields ts t)
      ∙ sym (map_flat (expansion_of ts) (field_works steps ts bindings object t guards) (fields ts t)))
      (flat_alike (do_parts (maker ts steps) ts bindings object guards) (λ d. map (expansion_of ts) (do_works steps ts bindings object guards d)) do_made (option_to_list (the_do ts t))
      ∙ sym (map_flat (expansion_of ts) (do_works steps ts bindings object guards) (option_to_list (the_do ts t))))
      ∙ sym (map-append (expansion_of ts) (flat_map (field_works steps ts bindings object t guards) (fields ts t)) (flat_map (do_works steps ts bindings object guards) (option_to_list (the_do ts t))))

-- the nodes of parts that works come to

made_nodes : (ts : Types) (es : List Expansion) (ws : List Work) → es ≡ map (expansion_of ts) ws → nodes_in ts (in_row es) ≡ flat_map (nodes_for ts) ws
made_nodes ts es ws made = row_nodes ts es ∙ ap (flat_map (nodes_of ts)) made ∙ flat_of_map (nodes_of ts) (expansion_of ts) ws

made_closed : (ts : Types) (es : List Expansion) (ws : List Work) → es ≡ map (expansion_of ts) ws → closed_in ts (in_row es) ≡ flat_map (closed_for ts) ws
made_closed ts es ws made = row_closed ts es ∙ ap (flat_map (closed_of ts)) made ∙ flat_of_map (closed_of ts) (expansion_of ts) ws

-- the steps

pub nodes_step : (ts : Types) (w : Work) → nodes_for ts w ≡ node_of ts w ∷ flat_map (nodes_for ts) (parts_of ts w)
nodes_step ts (Object zero path t guards bindings) = refl
nodes_step ts (Object (suc steps) path t guards bindings) =
    ap (λ (ns : List Node). object_node ts path t guards (own_givens ts path t) ∷ ns)
    (made_nodes ts _ (object_works steps ts path t guards bindings) (object_made steps ts bindings path guards t))
nodes_step ts (Value path guards range) = refl
nodes_step ts (Comp call kind arguments count) = refl
nodes_step ts (Invoke steps call head names arguments parts of bindings) = refl
nodes_step ts (Wait call elapsed) = refl

pub closed_step : (ts : Types) (w : Work) → closed_for ts w ≡ flat_map (closed_for ts) (parts_of ts w) ++ node_of ts w ∷ []
closed_step ts (Object zero path t guards bindings) = refl
closed_step ts (Object (suc steps) path t guards bindings) =
    ap (λ (ns : List Node). ns ++ object_node ts path t guards (own_givens ts path t) ∷ [])
    (made_closed ts _ (object_works steps ts path t guards bindings) (object_made steps ts bindings path guards t))
closed_step ts (Value path guards range) = refl
closed_step ts (Comp call kind arguments count) = refl
closed_step ts (Invoke steps call head names arguments parts of bindings) = refl
closed_step ts (Wait call elapsed) = refl

-- the named scenario

actor_made : (ts : Types) (t : ℕ) → own_actor ts t ≡ map (expansion_of ts) (actor_works ts t)
actor_made ts t = sym (map_map (expansion_of ts) (λ a. Object (length ts.table.heads) (then_name root (codes "actor")) a [] []) (option_to_list (owner ts.table.heads t)))

root_made : (steps : ℕ) (ts : Types) (t : ℕ)
    → own_actor ts t ++ flat_map (field_parts (maker ts steps) ts [] root t []) (fields ts t) ++ flat_map (do_parts (maker ts steps) ts [] root []) (option_to_list (the_do ts t))
    ≡ map (expansion_of ts) (root_works_within (suc steps) ts t)
root_made steps ts t =
    append_assoc (own_actor ts t) (flat_map (field_parts (maker ts steps) ts [] root t []) (fields ts t)) (flat_map (do_parts (maker ts steps) ts [] root []) (option_to_list (the_do ts t)))
    ∙ ap₂ (λ (xs ys : List Expansion). xs ++ ys) (actor_made ts t) (object_made steps ts [] root [] t)
    ∙ sym (map-append (expansion_of ts) (actor_works ts t) (object_works steps ts root t [] []))

root_nodes_within : (n : ℕ) (ts : Types) (t : ℕ)
    → nodes_of ts (expand_within n ts root t [] [] (own_actor ts t)) ≡ object_node ts root t [] (own_within n ts root t) ∷ flat_map (nodes_for ts) (root_works_within n ts t)
root_nodes_within zero ts t = refl
root_nodes_within (suc steps) ts t =
    ap (λ (ns : List Node). object_node ts root t [] (own_givens ts root t) ∷ ns) (made_nodes ts _ (root_works_within (suc steps) ts t) (root_made steps ts t))

root_closed_within : (n : ℕ) (ts : Types) (t : ℕ)
    → closed_of ts (expand_within n ts root t [] [] (own_actor ts t)) ≡ flat_map (closed_for ts) (root_works_within n ts t) ++ object_node ts root t [] (own_within n ts root t) ∷ []
root_closed_within zero ts t = refl
root_closed_within (suc steps) ts t =
    ap (λ (ns : List Node). ns ++ object_node ts root t [] (own_givens ts root t) ∷ []) (made_closed ts _ (root_works_within (suc steps) ts t) (root_made steps ts t))

pub root_nodes : (ts : Types) (t : ℕ) → nodes_of ts (expansion ts t) ≡ root_node ts t ∷ flat_map (nodes_for ts) (root_works ts t)
root_nodes ts t = root_nodes_within (length ts.table.heads) ts t

pub root_closed : (ts : Types) (t : ℕ) → closed_of ts (expansion ts t) ≡ flat_map (closed_for ts) (root_works ts t) ++ root_node ts t ∷ []
root_closed ts t = root_closed_within (length ts.table.heads) ts t
