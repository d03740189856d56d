-- A type may lead back to itself through a `Row`, which is a list of such values.
use mathlib.Core.Path.{◌≡◌, refl, sym}
use mathlib.Core.List.{List, []}
use mathlib.Core.Former.{Former, this, list, via, children}
use base.Stored.{code_map}
use denote.RattleType.{RattleType}
use denote.HoleLaws.{Alike}
use denote.HolePlaces.{Recodes, struct_places, laid}
use denote.Hole.Carrier.{listed, list-listed}
use denote.Hole.Fix.{over}
use denote.Param.Weighed.{Weighed, w_list}
use denote.Model.Placed.{view_places}
use Rattle.std.specs.formers.vec.Vec as vec
use Rattle.std.specs.contracts.alloc.Global as global
use Rattle.std.specs.declared.alloc.Global.{Global}
use Rattle.std.specs.contracts.impls.GlobalAllocator.TheImpl.{ghosts}
use Rattle.osc_base.specs.declared.row.Row.TheInside.{Inside}
use Rattle.osc_base.specs.declared.row.Row.TheView.{view, invariant}
use Rattle.osc_base.specs.contracts.row.Row as RowType
use Rattle.osc_base.specs.contracts.row.Row.TheInside as RowFields

-- a row of T is seen as a list of T
abbrev pub the_former : Former {0} → Former {0}
the_former item = list item

abbrev pub the_weighed : {item : Former {0}} → Weighed item → Weighed (the_former item)
the_weighed weighed = w_list weighed

pub the_empty : List ⊥
the_empty = []

abbrev pub the_items : (X : Type 0) → List X → List X
the_items X items = items

pub the_items_listed : (X : Type 0) (items : List X) → listed _ (children (the_former this) X items) ≡ the_items X items
the_items_listed X items = list-listed X items

-- the one field, a `Vec`
abbrev the_field : Former {0}
the_field = via (vec.the_former this Global) Inside (λ X fields. fields.items) (λ X items. record { items = items }) (λ X fields. refl) (λ X items. refl)

module _ (R S : RattleType) (h : R.Denot → S.Denot) where
  pub the_places : Alike R S h → Alike (RowType.the_row R) (RowType.the_row S) ((the_former this).map R.Denot S.Denot h)
  the_places same = view_places the_field (list this) view (λ X Y k u. refl) (λ X u. refl) R.Denot S.Denot h
      (RowType.the_row R).coded (RowType.the_row S).coded (invariant R.Denot) (invariant S.Denot)
      (λ u p q. refl) (λ u p q. refl) (λ u e. tt) (λ u e. tt) (over (RowFields.the_row R)) (over (RowFields.the_row S))
      (struct_places (RowFields.the_type R) (RowFields.the_type S) (vec.mapped h, tt) _ (λ fields. refl) refl
      (laid _ _ _ (vec.the_places global.the_row ghosts R S h same), tt))

  pub the_codes_placed : Recodes R S h → Recodes (RowType.the_row R) (RowType.the_row S) ((the_former this).map R.Denot S.Denot h)
  the_codes_placed same items = sym (code_map R.coded.code S.coded.code h (λ item. sym (same item)) items)
