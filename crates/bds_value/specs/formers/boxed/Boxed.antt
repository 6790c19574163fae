-- How a `Boxed` holds its value, so that a type may hold boxes of itself: its value is the one inside.
use mathlib.Core.Path.{refl}
use mathlib.Core.Former.{Former, this, const, pair, via}
use base.Stored.{gnil}
use base.Fml.{ftrue}
use denote.RattleType.{RattleType}
use denote.Memory.{part_of}
use denote.RawPtr.{Ptr}
use denote.Sharing.{nothing}
use denote.HoleLaws.{Alike}
use denote.HolePlaces.{Recodes, struct_places, laid, one_value}
use denote.Hole.Fix.{over}
use denote.Param.Weighed.{Weighed}
use denote.Model.Placed.{view_places}
use Rattle.std.specs.declared.boxed.Box.{Box}
use Rattle.std.specs.contracts.boxed.Box as box
use Rattle.std.specs.declared.alloc.Global.{Global}
use Rattle.std.specs.contracts.alloc.Global as global
use Rattle.std.specs.contracts.impls.GlobalAllocator.TheImpl.{ghosts}
use Rattle.bds_value.specs.declared.boxed.Boxed.TheInside.{Inside}
use Rattle.bds_value.specs.declared.boxed.Boxed.TheView.{view, invariant}
use Rattle.bds_value.specs.contracts.boxed.Boxed as shown
use Rattle.bds_value.specs.contracts.boxed.Boxed.TheInside as inner

abbrev pub the_former : Former {0} → Former {0}
the_former item = item

abbrev pub the_weighed : {item : Former {0}} → Weighed item → Weighed (the_former item)
the_weighed weight = weight

-- where the value lies and by which allocator, beside the value
abbrev field : Former {0}
field = via (pair (const (Ptr × Global)) this) Inside (λ X b. ((b.inner.ptr, b.inner.alloc), b.inner.value))
    (λ X v. record { inner = record { ptr = v.0.0; alloc = v.0.1; value = v.1 } }) (λ X b. refl) (λ X v. refl)

abbrev replaced : {X Y : Type 0} → Box X Global → Y → Box Y Global
replaced b y = record { ptr = b.ptr; alloc = b.alloc; value = y }

abbrev box_row : RattleType → RattleType
box_row R = box.the_row R global.the_row ghosts

module _ (Old New : RattleType) (change : Old.Denot → New.Denot) where
  in_box : Alike Old New change → Alike (box_row Old) (box_row New) (λ b. replaced b (change b.value))
  unfolding part_of
  in_box alike = record {
    mir_same = λ i. (box_row (one_value Old (alike.mir_same i) (λ _. ftrue) (λ _ _. nothing) gnil)).mir;
    own_same = λ b i. (box_row (one_value Old (alike.mir_same i) (alike.own_same b.value i) (alike.shr_same b.value i) gnil)).own_val (replaced b tt);
    shr_same = λ b i. (box_row (one_value Old (alike.mir_same i) (alike.own_same b.value i) (alike.shr_same b.value i) gnil)).shr_at (replaced b tt);
  }

  pub the_places : Alike Old New change → Alike (shown.the_row Old) (shown.the_row New) ((the_former this).map Old.Denot New.Denot change)
  the_places alike = view_places field this view (λ X Y k b. refl) (λ X b. refl)
      Old.Denot New.Denot change (shown.the_row Old).coded (shown.the_row New).coded
      (invariant Old.Denot) (invariant New.Denot) (λ b p q. refl) (λ b p q. refl) (λ b p. tt) (λ b p. tt)
      (over (inner.the_row Old)) (over (inner.the_row New))
      (struct_places (inner.the_type Old) (inner.the_type New) ((λ b. replaced b (change b.value)), tt) _ (λ d. refl) refl (laid _ _ _ (in_box alike), tt))

  pub the_codes_placed : Recodes Old New change → Recodes (shown.the_row Old) (shown.the_row New) ((the_former this).map Old.Denot New.Denot change)
  the_codes_placed recodes d = recodes d
