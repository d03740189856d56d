-- Conditions by reference are equal when their conditions are.
use Rattle.std.proofs.Common.{◌≡◌, refl, ap, ◌∙◌, List, [], ◌∷◌, ◌++◌, map, Bool, true, false, ◌&&◌, ◌||◌, cond, if◌then◌else◌, arith}
use Rattle.std.specs.Prelude.{ℤ, nat_eq}
use Rattle.std.specs.Ordering.{int_eq}
use Rattle.std.proofs.lemmas.Int.{ints}
use Rattle.std.specs.List.{list_any}
use Rattle.indexmap.specs.IndexSet.{insert_key}
use Rattle.osc_base.specs.Comparisons.{same_number}
use Rattle.osc_base.specs.Paths.{same_path}
use Rattle.osc_base.proofs.PathEquality.{path_eq}
use Rattle.composition.specs.declared.guard.Guard.{Guard}
use Rattle.composition.specs.There.{same_guard}
use Rattle.scene_conditions.specs.declared.condition.Condition.{Condition}
use Rattle.scene_conditions.specs.contracts.condition.ConditionPartialEq.TheImpl as keys
use Rattle.scene_conditions.specs.SeenConditions.{seen_condition}
use Rattle.scene_conditions.specs.Gathered.{with_one}

swapped : (a b : Bool) → a && b ≡ b && a
swapped true true = refl
swapped true false = refl
swapped false true = refl
swapped false false = refl

number_eq : (v w : ℤ) → int_eq v w ≡ same_number v w
number_eq v w = grind (arith, ints)

key_eq : (a b : Condition) → keys.eq-value.it a b ≡ same_guard (seen_condition a) (seen_condition b)
key_eq (Condition.Choice p m) (Condition.Choice q n) = ap (λ t. t && nat_eq m n) (path_eq p.now q.now) ∙ swapped (same_path p.now q.now) (nat_eq m n)
key_eq (Condition.Choice p m) (Condition.Value q w) = refl
key_eq (Condition.Value p v) (Condition.Choice q n) = refl
key_eq (Condition.Value p v) (Condition.Value q w) = (λ i. path_eq p.now q.now i && number_eq v w i) ∙ swapped (same_path p.now q.now) (same_number v w)

any_eq : (k : Condition) (ks : List Condition) → list_any (keys.eq-value.it k) ks ≡ list_any (same_guard (seen_condition k)) (map seen_condition ks)
any_eq k [] = refl
any_eq k (l ∷ ks) = λ i. key_eq k l i || any_eq k ks i

map_end : (ks : List Condition) (k : Condition) → map seen_condition (ks ++ k ∷ []) ≡ map seen_condition ks ++ seen_condition k ∷ []
map_end [] k = refl
map_end (l ∷ ks) k = ap (λ gs. seen_condition l ∷ gs) (map_end ks k)

-- a set with one condition more
pub one_more : (old new : List Condition) (k : Condition) (g : Guard) → new ≡ insert_key keys.eq-value.it old k → seen_condition k ≡ g → map seen_condition new ≡ with_one (map seen_condition old) g
one_more old new k g is seen =
    ap (map seen_condition) is ∙ by (list_any (keys.eq-value.it k) old) ∙ ap (λ b. cond b (map seen_condition old) (map seen_condition old ++ seen_condition k ∷ [])) (any_eq k old)
    ∙ ap (with_one (map seen_condition old)) seen
  where
    by : (b : Bool) → map seen_condition (if b then old else old ++ k ∷ []) ≡ cond b (map seen_condition old) (map seen_condition old ++ seen_condition k ∷ [])
    by true = refl
    by false = map_end old k
