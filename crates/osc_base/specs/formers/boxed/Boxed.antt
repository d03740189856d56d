-- A type may lead back to itself through a `Boxed`, which is one such value.
use mathlib.Core.Path.{refl}
use mathlib.Core.Former.{Former, this, const, pair, via}
use base.Stored.{gnil}
use base.Fml.{ftrue}
use denote.RattleType.{RattleType}
use denote.Memory.{part_of}
use denote.RawPtr.{Ptr}
use denote.Sharing.{nothing}
use denote.HoleLaws.{Alike}
use denote.HolePlaces.{Recodes, struct_places, laid, one_value}
use denote.Hole.Fix.{over}
use denote.Param.Weighed.{Weighed}
use denote.Model.Placed.{view_places}
use Rattle.std.specs.declared.boxed.Box.{Box}
use Rattle.std.specs.contracts.boxed.Box as box
use Rattle.std.specs.declared.alloc.Global.{Global}
use Rattle.std.specs.contracts.alloc.Global as global
use Rattle.std.specs.contracts.impls.GlobalAllocator.TheImpl.{ghosts}
use Rattle.osc_base.specs.declared.boxed.Boxed.TheInside.{Inside}
use Rattle.osc_base.specs.declared.boxed.Boxed.TheView.{view, invariant}
use Rattle.osc_base.specs.contracts.boxed.Boxed as BoxedType
use Rattle.osc_base.specs.contracts.boxed.Boxed.TheInside as BoxedFields

-- a box of T is seen as a T
abbrev pub the_former : Former {0} → Former {0}
the_former value = value

abbrev pub the_weighed : {value : Former {0}} → Weighed value → Weighed (the_former value)
the_weighed weighed = weighed

-- the one field, a `Box`: a pointer, an allocator and the value
abbrev the_field : Former {0}
the_field = via (pair (const (Ptr × Global)) this) Inside
    (λ X fields. ((fields.inner.ptr, fields.inner.alloc), fields.inner.value))
    (λ X parts. record { inner = record { ptr = parts.0.0; alloc = parts.0.1; value = parts.1 } })
    (λ X fields. refl) (λ X parts. refl)

abbrev with_value : {X Y : Type 0} → Box X Global → Y → Box Y Global
with_value b y = record { ptr = b.ptr; alloc = b.alloc; value = y }

abbrev box_of : RattleType → RattleType
box_of R = box.the_row R global.the_row ghosts

module _ (R S : RattleType) (h : R.Denot → S.Denot) where
  box_places : Alike R S h → Alike (box_of R) (box_of S) (λ b. with_value b (h b.value))
  unfolding part_of
  box_places same = record {
    mir_same = λ i. (box_of (one_value R (same.mir_same i) (λ _. ftrue) (λ _ _. nothing) gnil)).mir;
    own_same = λ b i. (box_of (one_value R (same.mir_same i) (same.own_same b.value i) (same.shr_same b.value i) gnil)).own_val (with_value b tt);
    shr_same = λ b i. (box_of (one_value R (same.mir_same i) (same.own_same b.value i) (same.shr_same b.value i) gnil)).shr_at (with_value b tt);
  }

  pub the_places : Alike R S h → Alike (BoxedType.the_row R) (BoxedType.the_row S) ((the_former this).map R.Denot S.Denot h)
  the_places same = view_places the_field this view (λ X Y k u. refl) (λ X u. refl) R.Denot S.Denot h
      (BoxedType.the_row R).coded (BoxedType.the_row S).coded (invariant R.Denot) (invariant S.Denot)
      (λ u p q. refl) (λ u p q. refl) (λ u e. tt) (λ u e. tt) (over (BoxedFields.the_row R)) (over (BoxedFields.the_row S))
      (struct_places (BoxedFields.the_type R) (BoxedFields.the_type S) ((λ b. with_value b (h b.value)), tt) _ (λ fields. refl) refl
      (laid _ _ _ (box_places same), tt))

  pub the_codes_placed : Recodes R S h → Recodes (BoxedType.the_row R) (BoxedType.the_row S) ((the_former this).map R.Denot S.Denot h)
  the_codes_placed same value = same value
