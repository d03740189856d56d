-- What answers tell, one part after another.
use Rattle.std.proofs.Common.{◌≡◌, ◌∙◌, refl, sym, ap, subst, ℕ, suc, false, ◌+◌, ◌<◌, List, [], ◌∷◌, ◌++◌, Some, Result, Ok, Err, length, append_assoc, drop, drop-cons, add-one, get_or}
use Rattle.std.specs.Prelude.{nat_eq, IsErrAnd}
use Rattle.std.specs.Option.{option_map_or}
use Rattle.std.specs.Fmt.{decimal}
use Rattle.serde_json.specs.Data.{Data, Items, item}
use Rattle.serde_json.specs.Find.{as_array}
use Rattle.serde_json.specs.View.{view, items_view}
use Rattle.serde_json.specs.declared.value.Value.{Value}
use Rattle.run_texts.specs.declared.misfit.Misfit.{Misfit}
use Rattle.run_texts.specs.declared.misfit.Misfit.TheVariants.{At, Memory}
use Rattle.run_texts.specs.RunShape.{Shaped, Fits, Differs, shaped_then, inside, all_from, items_count, is_list_of}
use Rattle.run_texts.specs.RunReading.{IsTold}

-- the data itself differs
pub told_here : (T : Type 0) (e : Misfit) → e ≡ At [] → IsTold {T = T} (Differs []) (Err e)
told_here T e h = subst (λ z. IsTold {T = T} (Differs []) (Err z)) (sym h) refl

-- ---- lists

-- there are as many items as there are values
pub count_items : (vs : List Value) → items_count (items_view vs) ≡ length vs
count_items [] = refl
count_items (v ∷ vs) = ap suc (count_items vs)

pub counts_items : (d : Data) (vs : List Value) (n k : ℕ) → Some (items_view vs) ≡ as_array d → k ≡ length vs → nat_eq k n ≡ is_list_of n d
counts_items d vs n k e h =
    ap (λ m. nat_eq m n) (h ∙ sym (count_items vs)) ∙ ap (λ o. option_map_or (λ items. nat_eq (items_count items) n) o false) e

-- what is told of a list, of which so much is read
abbrev pub after : {T : Type 0} → List T → Shaped (List T) → Shaped (List T)
after done s = shaped_then s (λ later. Fits (done ++ later))

pub after_none : {T : Type 0} (s : Shaped (List T)) → after [] s ≡ s
after_none (Fits later) = refl
after_none (Differs p) = refl

module _ {T : Type 0} (f : Data → Shaped T) where
  pub list_more : (done : List T) (n : ℕ) (d : Data) (ds : Items) (x : T) → inside (decimal n) (f d) ≡ Fits x
      → after done (all_from f n (item d ds)) ≡ after (done ++ x ∷ []) (all_from f (n + 1) ds)
  list_more done n d ds x e =
      ap (λ o. after done (shaped_then o (λ y. shaped_then (all_from f (n + 1) ds) (λ later. Fits (y ∷ later))))) e ∙ by (all_from f (n + 1) ds)
    where
      by : (s : Shaped (List T)) → after done (shaped_then s (λ later. Fits (x ∷ later))) ≡ after (done ++ x ∷ []) s
      by (Fits later) = ap (λ z. Fits z) (sym (append_assoc done (x ∷ []) later))
      by (Differs p) = refl

  pub list_stops : (done : List T) (n : ℕ) (d : Data) (ds : Items) (e : Misfit) → IsTold {T = T} (inside (decimal n) (f d)) (Err e)
      → IsTold {T = List T} (after done (all_from f n (item d ds))) (Err e)
  list_stops done n d ds (At p) h =
      ap (λ o. after done (shaped_then o (λ y. shaped_then (all_from f (n + 1) ds) (λ later. Fits (y ∷ later))))) h
  list_stops done n d ds Memory h = tt

pub items_more : (vs : List Value) (i : ℕ) (v : Value) → i < length vs → items_view (drop i vs) ≡ item (view (get_or vs i v)) (items_view (drop (i + 1) vs))
items_more vs i v less =
    ap items_view (drop-cons vs i v less) ∙ ap (λ k. item (view (get_or vs i v)) (items_view (drop k vs))) (sym (add-one i))

module _ {T : Type 0} (f : Data → Shaped T) where
  -- the stop of an item is that of the list
  pub list_err : (whole : Shaped (List T)) (done : List T) (n : ℕ) (vs : List Value) (v : Value) (e : Misfit) (r : Result (List T) Misfit)
      → after done (all_from f n (items_view (drop n vs))) ≡ whole → n < length vs → v ≡ get_or vs n v
      → IsTold {T = T} (inside (decimal n) (f (view v))) (Err e) → IsErrAnd r (λ x. x ≡ e) → IsTold {T = List T} whole r
  list_err whole done n vs v e (Ok x) so less is told h = absurd h
  list_err whole done n vs v e (Err x) so less is told h =
      subst (λ z. IsTold {T = List T} whole (Err z)) (sym h)
      (subst (λ w. IsTold {T = List T} w (Err e))
      (ap (λ z. after done (all_from f n z)) (sym (items_more vs n v less ∙ ap (λ z. item (view z) (items_view (drop (n + 1) vs))) (sym is))) ∙ so)
      (list_stops f done n (view v) (items_view (drop (n + 1) vs)) e told))
