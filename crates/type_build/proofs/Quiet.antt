-- Rows of which none holds.
use Rattle.std.proofs.Common.{◌≡◌, ◌∙◌, refl, sym, ap₂, inl, inr, ◌&&◌, Bool, true, false, List, [], ◌∷◌, ◌++◌, None, subst}
use Rattle.std.specs.Prelude.{flat_map, not}
use Rattle.std.specs.List.{list_all}
use Rattle.std.proofs.lemmas.List.Folds.{list_all-append}
use Rattle.type_model.specs.osc_base.declared.fault.Fault.{Fault}
use Rattle.type_model.specs.osc_base.FaultRows.{FaultRow, IsFault, IsFirst, first_fault}
use Rattle.type_model.proofs.of_osc_base.FaultRows.{is_first}

-- no row holds
abbrev pub are_quiet : List FaultRow → Bool
are_quiet rows = list_all (λ (r : FaultRow). not r.holds) rows

none_holds : (rows : List FaultRow) → ((f : Fault) → IsFault rows f → ⊥) → are_quiet rows ≡ true
none_holds [] h = refl
none_holds (r ∷ rs) h = by r.holds refl (none_holds rs (λ f is. h f (inr is)))
  where
    by : (b : Bool) → r.holds ≡ b → are_quiet rs ≡ true → (not b && are_quiet rs) ≡ true
    by true e later = absurd (h r.fault (inl (e, refl)))
    by false e later = later

pub quiet : (rows : List FaultRow) → first_fault rows ≡ None → are_quiet rows ≡ true
quiet rows is = none_holds rows (subst (IsFirst (IsFault rows)) is (is_first rows))

-- Parts

pub and_left : (a b : Bool) → (a && b) ≡ true → a ≡ true
and_left true b h = refl
and_left false b h = h

pub and_right : (a b : Bool) → (a && b) ≡ true → b ≡ true
and_right true b h = h
and_right false b h = absurd (let e : false ≡ true = h in cc)

pub and_both : (a b : Bool) → a ≡ true → b ≡ true → (a && b) ≡ true
and_both a b h k = ap₂ (λ x y. x && y) h k

pub quiet_left : (rs ss : List FaultRow) → are_quiet (rs ++ ss) ≡ true → are_quiet rs ≡ true
quiet_left rs ss h = and_left (are_quiet rs) (are_quiet ss) (sym (list_all-append (λ (r : FaultRow). not r.holds) rs ss) ∙ h)

pub quiet_right : (rs ss : List FaultRow) → are_quiet (rs ++ ss) ≡ true → are_quiet ss ≡ true
quiet_right rs ss h = and_right (are_quiet rs) (are_quiet ss) (sym (list_all-append (λ (r : FaultRow). not r.holds) rs ss) ∙ h)

pub each_quiet : {X : Type 0} (rows : X → List FaultRow) (xs : List X) → are_quiet (flat_map rows xs) ≡ true → list_all (λ x. are_quiet (rows x)) xs ≡ true
each_quiet rows [] h = refl
each_quiet rows (x ∷ xs) h =
    and_both (are_quiet (rows x)) (list_all (λ x. are_quiet (rows x)) xs) (quiet_left (rows x) (flat_map rows xs) h)
    (each_quiet rows xs (quiet_right (rows x) (flat_map rows xs) h))
