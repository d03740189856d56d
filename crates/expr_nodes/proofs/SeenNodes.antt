-- What the nodes of typed expressions are seen as, in terms of their parts.
use Rattle.std.proofs.Common.{◌≡◌, List, [], ◌∷◌, ◌++◌, ◌∙◌, ap, sym, map, refl}
use Rattle.std.proofs.lemmas.List.{map-append}
use Rattle.std.specs.Prelude.{Bool, not}
use Rattle.std.specs.List.{list_any}
use Rattle.expr_nodes.specs.Kinds.{are_alike}
use Rattle.expr_nodes.specs.Parts.{parts_of}
use Rattle.expr_nodes.specs.Operators.{fits_in}
use Rattle.expr_nodes.specs.declared.node.Info.{Info}
use Rattle.expr_nodes.specs.declared.node.Join.{Join}
use Rattle.expr_nodes.specs.declared.node.Earlier.{Earlier}
use Rattle.expr_nodes.specs.declared.node.Typed.{Typed}
use Rattle.expr_nodes.specs.declared.node.Typed.TheOpen.{Typed-F}
use Rattle.expr_nodes.specs.declared.node.Typed.TheFolds.{fold-roll-Typed, fold-roll-Earlier}
use Rattle.expr_nodes.specs.declared.node.Typed.TheViews
use Rattle.expr_nodes.specs.Typed as Nodes
use Rattle.expr_nodes.specs.Seen.{Reached, typed_step, earlier_step, seen, reached, seen_info, joined, grouped}

pub reached_is : (e : Earlier) → reached e ≡ record { info = seen_info e.info; part = seen e.part }
unfolding denote.Hole.Carrier.roll
reached_is e = fold-roll-Earlier Nodes.Typed Reached typed_step earlier_step (record { info = e.info; part = e.part })

pub seen_joined : (info : Info) (join : Join) (first : Typed) (earlier : List Earlier) (last : Typed)
    → seen (TheViews.Joined info join first earlier last) ≡ joined join (seen_info info) (grouped join (seen first) (map reached earlier)) (seen last)
unfolding Rattle.expr_nodes.specs.declared.node.Typed.TheViews.roll-Typed denote.Hole.Carrier.roll
seen_joined info join first earlier last = fold-roll-Typed Nodes.Typed Reached typed_step earlier_step (Typed-F.Joined info join first earlier last)

pub grouped_more : (join : Join) (left : Nodes.Typed) (rest : List Reached) (next : Reached)
    → grouped join left (rest ++ next ∷ []) ≡ joined join next.info (grouped join left rest) next.part
grouped_more join left [] next = refl
grouped_more join left (r ∷ rest) next = grouped_more join (joined join r.info left r.part) rest next

pub longer_is : (join : Join) (first : Nodes.Typed) (earlier : List Earlier) (next : Earlier) (longer : List Earlier) → longer ≡ earlier ++ next ∷ []
    → grouped join first (map reached longer) ≡ joined join (seen_info next.info) (grouped join first (map reached earlier)) (seen next.part)
longer_is join first earlier next longer is =
    ap (λ es. grouped join first (map reached es)) is
    ∙ ap (grouped join first) (map-append reached earlier (next ∷ []))
    ∙ grouped_more join first (map reached earlier) (reached next)
    ∙ ap (λ (r : Reached). joined join r.info (grouped join first (map reached earlier)) r.part) (reached_is next)

-- a row that is extended goes on from the row that it was
pub row_before : (left : Typed) (info : Info) (other join : Join) (first : Typed) (earlier longer : List Earlier) (last : Typed) → left ≡ TheViews.Joined info other first earlier last → other ≡ join
    → ((j : Join) (start : Nodes.Typed) → grouped j start (map reached longer) ≡ joined j (seen_info info) (grouped j start (map reached earlier)) (seen last))
    → grouped join (seen first) (map reached longer) ≡ seen left
row_before left info other join first earlier longer last is same more =
    more join (seen first) ∙ sym (ap seen is ∙ seen_joined info other first earlier last ∙ ap (λ j. joined j (seen_info info) (grouped j (seen first) (map reached earlier)) (seen last)) same)

-- a list as a row, and back
pub items_row : (items : List Nodes.Typed) → Nodes.items_of (Nodes.row_of items) ≡ items
items_row [] = refl
items_row (t ∷ rest) = ap (λ ts. t ∷ ts) (items_row rest)

pub seen_listed : (info : Info) (is_field : Bool) (items : List Typed) → seen (TheViews.Listed info is_field items) ≡ Nodes.Listed (seen_info info) is_field (Nodes.row_of (map seen items))
unfolding Rattle.expr_nodes.specs.declared.node.Typed.TheViews.roll-Typed denote.Hole.Carrier.roll
seen_listed info is_field items = fold-roll-Typed Nodes.Typed Reached typed_step earlier_step (Typed-F.Listed info is_field items)

module _ (t : Typed) (info : Info) (is_field : Bool) (items shown : List Typed) (is : t ≡ TheViews.Listed info is_field items) (same : shown ≡ items) where
  seen_as : seen t ≡ Nodes.Listed (seen_info info) is_field (Nodes.row_of (map seen items))
  seen_as = ap seen is ∙ seen_listed info is_field items

  items_are : map seen shown ≡ Nodes.items_of (Nodes.row_of (map seen items))
  items_are = ap (map seen) same ∙ sym (items_row (map seen items))

  -- a test of the items of a list
  pub any_listed : (test : Nodes.Typed → Bool) (r : Bool) → r ≡ list_any test (map seen shown) → r ≡ list_any test (parts_of (seen t))
  any_listed test r h = h ∙ ap (list_any test) items_are ∙ sym (ap (λ n. list_any test (parts_of n)) seen_as)

  pub fits_listed : (x : Nodes.Typed) (r : Bool) → r ≡ list_any (λ y. not (are_alike (Nodes.kind x) (Nodes.kind y))) (map seen shown) → not r ≡ fits_in x (seen t)
  fits_listed x r h =
      ap not (h ∙ ap (list_any (λ y. not (are_alike (Nodes.kind x) (Nodes.kind y)))) items_are)
      ∙ sym (ap (fits_in x) seen_as)
