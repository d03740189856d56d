-- The labels that the texts have of a type.
use Rattle.std.proofs.Common.{◌≡◌, ◌∙◌, refl, sym, ap, ℕ, zero, suc, ◌+◌, ◌≤◌, List, [], ◌∷◌, ◌++◌, Bool, true, false, cond, nat_eq, Option, Some, None, Bor, append-nil, arith, flat_map, map, option_copied, option_map, option_to_list, slice_index_or}
use Rattle.std.specs.Prelude.{slice_get, IfSome}
use Rattle.std.specs.Slice.{IsItemAt}
use Rattle.std.proofs.lemmas.Option.{slice_get-get_or}
use Rattle.program_calls.specs.type_heads.Table.{Table}
use Rattle.program_calls.specs.type_heads.Types.{Do, Member, Types}
use Rattle.program_calls.specs.composition.Calls.{phases_in}
use Rattle.program_calls.specs.expr_nodes.declared.labels.LabelTable.{LabelTable}
use Rattle.program_calls.specs.SeenLabels.{LabelHere, do_labels, labels_here, seen_labels}
use Rattle.program_texts.specs.OwnLabels.{labels_from, own_labels}
use Rattle.program_fields.specs.SeenFields.{first_do_in}

-- what is at a place of a list that is made of a list
got : {X Y : Type 0} (f : X → Y) (xs : List X) (t : ℕ) → slice_get (map f xs) t ≡ option_map f (slice_get xs t)
got f [] t = refl
got f (x ∷ xs) zero = refl
got f (x ∷ xs) (suc t) = got f xs t

item_is : {X : Type 0} (xs : List X) (i : ℕ) (x : Bor X) → IsItemAt xs i (Some x) → Some x.now ≡ slice_get xs i
item_is xs i x h = let n : i ≤ i = omega arith in ap Some (h.4 n x.now) ∙ sym (slice_get-get_or xs i x.now h.3.0)

at_index : (rows : List (List Member)) (t : ℕ) (ms : List Member) → slice_get rows t ≡ Some ms → slice_index_or rows t [] ≡ ms
at_index [] t ms h = absurd (cc)
at_index (x ∷ xs) zero ms h = cc
at_index (x ∷ xs) (suc t) ms h = at_index xs t ms h

-- what is had of the type at a place, the first of which has number n
had : (table : Table) (n t : ℕ) (rows : List (List Member)) → slice_get (labels_from table n rows) t ≡ option_map (λ ms. own_labels table (n + t) (first_do_in ms)) (slice_get rows t)
had table n t [] = refl
had table n zero (ms ∷ rows) =
    let e : n ≡ n + 0 = omega arith in
    ap (λ m. Some (own_labels table m (first_do_in ms))) e
had table n (suc t) (ms ∷ rows) =
    let e : n + 1 + t ≡ n + suc t = omega arith in
    had table (n + 1) t rows ∙ ap (λ m. option_map (λ xs. own_labels table m (first_do_in xs)) (slice_get rows t)) e

-- the labels of a `do` that stands in the text of its own type
of_own : (table : Table) (t : ℕ) (o : Option Do) (labels : List LabelHere) → Some labels ≡ own_labels table t o
    → labels ≡ flat_map (λ (d : Do). labels_here table d.holder (phases_in d.phase)) (option_to_list o)
of_own table t None labels h = absurd (cc)
of_own table t (Some d) labels h = by (nat_eq d.holder t) h
  where
    by : (b : Bool) → Some labels ≡ cond b (Some (labels_here table d.holder (phases_in d.phase))) None → labels ≡ labels_here table d.holder (phases_in d.phase) ++ []
    by true is =
        let e : labels ≡ labels_here table d.holder (phases_in d.phase) = cc in
        e ∙ sym (append-nil (labels_here table d.holder (phases_in d.phase)))
    by false is = absurd (cc)

-- a table that the texts have of a type
pub own_is : (ts : Types) (t : ℕ) (tables : List (Option LabelTable)) (table : LabelTable) → map (option_map seen_labels) tables ≡ labels_from ts.table 0 ts.members
    → slice_get tables t ≡ Some (Some table) → seen_labels table ≡ do_labels ts t
own_is ts t tables table are at =
    by (slice_get ts.members t) refl
    (ap (option_map (option_map seen_labels)) (sym at) ∙ sym (got (option_map seen_labels) tables t) ∙ ap (λ xs. slice_get xs t) are ∙ had ts.table 0 t ts.members)
  where
    by : (o : Option (List Member)) → slice_get ts.members t ≡ o → Some (Some (seen_labels table)) ≡ option_map (λ ms. own_labels ts.table (0 + t) (first_do_in ms)) o
        → seen_labels table ≡ do_labels ts t
    by None is h = absurd (cc)
    by (Some ms) is h =
        let one : Some (seen_labels table) ≡ own_labels ts.table (0 + t) (first_do_in ms) = cc in
        of_own ts.table (0 + t) (first_do_in ms) (seen_labels table) one
        ∙ ap (λ xs. flat_map (λ (d : Do). labels_here ts.table d.holder (phases_in d.phase)) (option_to_list (first_do_in xs))) (sym (at_index ts.members t ms is))

-- the same, where the table was asked for
pub own_found : (ts : Types) (t : ℕ) (tables : List (Option LabelTable)) (entry : Bor (Option LabelTable)) (found : Option (Bor LabelTable))
    → map (option_map seen_labels) tables ≡ labels_from ts.table 0 ts.members → IsItemAt tables t (Some entry) → option_copied found ≡ entry.now
    → IfSome found (λ table. seen_labels table.now ≡ do_labels ts t)
own_found ts t tables entry None are at same = tt
own_found ts t tables entry (Some table) are at same = own_is ts t tables table.now are (sym (item_is tables t entry at) ∙ ap (λ e. Some e) (sym same))
