-- What stands in a list that is made of options.
use Rattle.std.proofs.Common.{◌≡◌, refl, sym, ap, ◌∙◌, inl, inr, List, [], ◌∷◌, Option, Some, None}
use Rattle.std.specs.Prelude.{filter_map, option_to_list}
use Rattle.std.specs.List.{cons_option}
use Rattle.field_flatten.proofs.Tests.{In}

pub of_option : {A : Type 0} (o : Option A) (x : A) → In x (option_to_list o) → o ≡ Some x
of_option None x i = absurd i
of_option (Some y) x (inl e) = ap Some (sym e)
of_option (Some y) x (inr i) = absurd i

pub filter_map_in : {A B : Type 0} (f : A → Option B) (xs : List A) (y : B) → In y (filter_map f xs) → (x : A) × In x xs × (f x ≡ Some y)
filter_map_in f [] y i = absurd i
filter_map_in {A} {B} f (x ∷ xs) y i = by (f x) refl i (filter_map_in f xs y)
  where
    by : (o : Option B) → f x ≡ o → In y (cons_option o (filter_map f xs)) → (In y (filter_map f xs) → (z : A) × In z xs × (f z ≡ Some y)) → (z : A) × In z (x ∷ xs) × (f z ≡ Some y)
    by None e j rest = let g = rest j in (g.0, inr g.1, g.2)
    by (Some w) e (inl same) rest = (x, inl refl, e ∙ ap Some (sym same))
    by (Some w) e (inr j) rest = let g = rest j in (g.0, inr g.1, g.2)
