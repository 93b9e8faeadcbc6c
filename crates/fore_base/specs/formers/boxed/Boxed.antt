-- How a `Boxed` stores its item, so that the item's type may lead back to the box.
use mathlib.Core.Path.{refl}
use mathlib.Core.Former.{Former, this, const, pair, via}
use base.Stored.{gnil}
use base.Fml.{ftrue}
use denote.RattleType.{RattleType}
use denote.Memory.{part_of}
use denote.RawPtr.{Ptr}
use denote.Sharing.{nothing}
use denote.HoleLaws.{Alike}
use denote.HolePlaces.{Recodes, struct_places, laid, one_value}
use denote.Hole.Fix.{over}
use denote.Param.Weighed.{Weighed}
use denote.Model.Placed.{view_places}
use Rattle.std.specs.declared.boxed.Box.{Box}
use Rattle.std.specs.contracts.boxed.Box as owner
use Rattle.std.specs.declared.alloc.Global.{Global}
use Rattle.std.specs.contracts.alloc.Global as heap
use Rattle.std.specs.contracts.impls.GlobalAllocator.TheImpl.{ghosts}
use Rattle.fore_base.specs.declared.boxed.Boxed.TheInside.{Inside}
use Rattle.fore_base.specs.declared.boxed.Boxed.TheView.{view, invariant}
use Rattle.fore_base.specs.contracts.boxed.Boxed as outer
use Rattle.fore_base.specs.contracts.boxed.Boxed.TheInside as inner

-- a box has one shape, and one item
abbrev pub the_former : Former {0} → Former {0}
the_former item = item

abbrev pub the_weighed : {item : Former {0}} → Weighed item → Weighed (the_former item)
the_weighed weighed = weighed

-- the one field, a `Box`: where it lies, and the item
abbrev stored : Former {0}
stored = via (pair (const (Ptr × Global)) this) Inside
    (λ X boxed. ((boxed.inner.ptr, boxed.inner.alloc), boxed.inner.value))
    (λ X parts. record { inner = record { ptr = parts.0.0; alloc = parts.0.1; value = parts.1 } })
    (λ X boxed. refl) (λ X parts. refl)

-- the same place, with another item
abbrev holding : {X Y : Type 0} → Box X Global → Y → Box Y Global
holding there item = record { ptr = there.ptr; alloc = there.alloc; value = item }

abbrev row_of : RattleType → RattleType
row_of R = owner.the_row R heap.the_row ghosts

module _ (R S : RattleType) (h : R.Denot → S.Denot) where
  item_places : Alike R S h → Alike (row_of R) (row_of S) (λ there. holding there (h there.value))
  unfolding part_of
  item_places alike = record {
    mir_same = λ i. (row_of (one_value R (alike.mir_same i) (λ _. ftrue) (λ _ _. nothing) gnil)).mir;
    own_same =
        λ there i.
        (row_of
        (one_value R (alike.mir_same i) (alike.own_same there.value i) (alike.shr_same there.value i) gnil)).own_val
        (holding there tt);
    shr_same =
        λ there i.
        (row_of
        (one_value R (alike.mir_same i) (alike.own_same there.value i) (alike.shr_same there.value i) gnil)).shr_at
        (holding there tt);
  }

  pub the_places : Alike R S h → Alike (outer.the_row R) (outer.the_row S) ((the_former this).map R.Denot S.Denot h)
  the_places alike = view_places stored this view (λ X Y k u. refl) (λ X u. refl) R.Denot S.Denot h
      (outer.the_row R).coded (outer.the_row S).coded (invariant R.Denot) (invariant S.Denot)
      (λ u p q. refl) (λ u p q. refl) (λ u e. tt) (λ u e. tt) (over (inner.the_row R)) (over (inner.the_row S))
      (struct_places (inner.the_type R) (inner.the_type S) ((λ there. holding there (h there.value)), tt) _
      (λ item. refl) refl
      (laid _ _ _ (item_places alike), tt))

  pub the_codes_placed : Recodes R S h
      → Recodes (outer.the_row R) (outer.the_row S) ((the_former this).map R.Denot S.Denot h)
  the_codes_placed recodes item = recodes item
