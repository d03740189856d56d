-- The actions and scenarios that the `do` of each type invokes.
use Rattle.std.proofs.Common.{◌≡◌, ◌∙◌, refl, sym, ap, ap₂, ℕ, zero, suc, ◌+◌, ◌<◌, ◌≤◌, List, [], ◌∷◌, ◌++◌, Option, Some, None, append-nil, arith, drop, flat_map, length, map, option_map, option_to_list, slice_index_or}
use Rattle.std.specs.List.{cons_option}
use Rattle.dsl_tree.specs.PhaseTree.{PhaseTree, Comp, Invoke, Wait}
use Rattle.expr_nodes.specs.type_heads.Cycles.{fresh, reached, returns}
use Rattle.expr_nodes.specs.type_heads.Members.{has, the_do}
use Rattle.expr_nodes.specs.type_heads.Table.{Table, numbers_from}
use Rattle.expr_nodes.specs.type_heads.Types.{Do, Types}
use Rattle.program_calls.specs.composition.Calls.{PhaseHere, callee, phases_in}
use Rattle.program_calls.specs.composition.Uses.{invocations, invoked_by}
use Rattle.program_uses.specs.InvokedTypes.{invoked_at, invoked_do, invoked_in}
use Rattle.program_fields.specs.SeenFields.{seen_do}
use Rattle.program_fields.specs.declared.fields.TypeDo.{TypeDo}
use Rattle.program_uses.proofs.UseLaws.{called_law}

one_same : (ts : Types) (d : Do) (p : PhaseTree) → invoked_by ts d p ≡ option_to_list (invoked_at ts.table d.holder p)
one_same ts d (Comp label place kind arguments members) = refl
one_same ts d (Invoke label head names arguments parts) = ap option_to_list (called_law ts d.holder (callee head names))
one_same ts d (Wait label place elapsed) = refl

option_first : (o : Option ℕ) (xs : List ℕ) → option_to_list o ++ xs ≡ cons_option o xs
option_first None xs = refl
option_first (Some x) xs = refl

each_same : (ts : Types) (d : Do) (ps : List PhaseHere) → flat_map (λ (p : PhaseHere). invoked_by ts d p.phase) ps ≡ invoked_in ts.table d.holder ps
each_same ts d [] = refl
each_same ts d (p ∷ ps) =
    ap₂ (λ xs ys. xs ++ ys) (one_same ts d p.phase) (each_same ts d ps) ∙ option_first (invoked_at ts.table d.holder p.phase) (invoked_in ts.table d.holder ps)

-- what a `do` invokes
do_same : (ts : Types) (o : Option Do) → invoked_do ts.table o ≡ flat_map (λ (d : Do). flat_map (λ (p : PhaseHere). invoked_by ts d p.phase) (phases_in d.phase)) (option_to_list o)
do_same ts None = refl
do_same ts (Some d) = sym (append-nil (flat_map (λ (p : PhaseHere). invoked_by ts d p.phase) (phases_in d.phase)) ∙ each_same ts d (phases_in d.phase))

pub index_map : {X Y : Type 0} (f : X → Y) (d : X) (xs : List X) (t : ℕ) → slice_index_or (map f xs) t (f d) ≡ f (slice_index_or xs t d)
index_map f d [] t = refl
index_map f d (x ∷ xs) zero = refl
index_map f d (x ∷ xs) (suc t) = index_map f d xs t

-- what each type invokes
pub are_invoked : (ts : Types) (table : Table) (dos : List (Option TypeDo)) (rows : List (List ℕ)) → table ≡ ts.table →
    ((t : ℕ) → option_map seen_do (slice_index_or dos t None) ≡ the_do ts t) → rows ≡ map (λ d. invoked_do table (option_map seen_do d)) dos →
    (t : ℕ) → slice_index_or rows t [] ≡ invocations ts t
are_invoked ts table dos rows same told is t =
    ap (λ rs. slice_index_or rs t []) is ∙ index_map (λ d. invoked_do table (option_map seen_do d)) None dos t
    ∙ ap (λ tb. invoked_do tb (option_map seen_do (slice_index_or dos t None))) same ∙ ap (invoked_do ts.table) (told t) ∙ do_same ts (the_do ts t)

-- steps that are equal at each number lead back alike
flat_same : (f g : ℕ → List ℕ) → ((t : ℕ) → f t ≡ g t) → (xs : List ℕ) → flat_map f xs ≡ flat_map g xs
flat_same f g same [] = refl
flat_same f g same (x ∷ xs) = ap₂ (λ ys zs. ys ++ zs) (same x) (flat_same f g same xs)

reached_same : (rounds : ℕ) (f g : ℕ → List ℕ) → ((t : ℕ) → f t ≡ g t) → (found new : List ℕ) → reached rounds f found new ≡ reached rounds g found new
reached_same zero f g same found new = refl
reached_same (suc rounds) f g same found [] = refl
reached_same (suc rounds) f g same found (x ∷ xs) =
    ap (λ ys. reached rounds f (found ++ x ∷ xs) (fresh (found ++ x ∷ xs) ys)) (flat_same f g same (x ∷ xs))
    ∙ reached_same rounds f g same (found ++ x ∷ xs) (fresh (found ++ x ∷ xs) (flat_map g (x ∷ xs)))

pub returns_same : (count : ℕ) (f g : ℕ → List ℕ) → ((t : ℕ) → f t ≡ g t) → (t : ℕ) → returns count f t ≡ returns count g t
returns_same count f g same t =
    ap (λ xs. has t (reached (suc count) f [] (fresh [] xs))) (same t) ∙ ap (has t) (reached_same (suc count) f g same [] (fresh [] (g t)))

-- what is left of numbers begins with the next, or is nothing
pub next_number : {X : Type 0} (xs : List X) (n m : ℕ) → n < length xs → numbers_from m (drop n xs) ≡ m ∷ numbers_from (m + 1) (drop (n + 1) xs)
next_number [] n m less = absurd (omega arith)
next_number (x ∷ xs) zero m less = refl
next_number (x ∷ xs) (suc n) m less =
    let l : n < length xs = omega arith in
    let e : suc n + 1 ≡ suc (n + 1) = omega arith in
    next_number xs n m l ∙ ap (λ k. m ∷ numbers_from (m + 1) (drop k (x ∷ xs))) (sym e)

pub no_number : {X : Type 0} (xs : List X) (n m : ℕ) → length xs ≤ n → numbers_from m (drop n xs) ≡ []
no_number [] zero m more = refl
no_number [] (suc n) m more = refl
no_number (x ∷ xs) zero m more = absurd (omega arith)
no_number (x ∷ xs) (suc n) m more = let l : length xs ≤ n = omega arith in no_number xs n m l
