-- How a `Shared` holds its value, so that a type may hold itself through it: its value is the one inside.
use mathlib.Core.Path.{refl}
use mathlib.Core.Former.{Former, this, const, pair, via}
use base.Stored.{gnil}
use base.Fml.{ftrue}
use denote.RattleType.{RattleType}
use denote.Memory.{part_of}
use denote.RawPtr.{Ptr}
use denote.Sharing.{nothing}
use denote.HoleLaws.{Alike}
use denote.HolePlaces.{Recodes, struct_places, laid, one_value}
use denote.Hole.Fix.{over}
use denote.Param.Weighed.{Weighed}
use denote.Model.Placed.{view_places}
use Rattle.std.specs.declared.rc.Rc.{Rc}
use Rattle.std.specs.contracts.rc.Rc as rc
use Rattle.std.specs.declared.alloc.Global.{Global}
use Rattle.std.specs.contracts.alloc.Global as global
use Rattle.std.specs.contracts.impls.GlobalAllocator.TheImpl.{ghosts}
use Rattle.bds_value.specs.declared.shared.Shared.TheInside.{Inside}
use Rattle.bds_value.specs.declared.shared.Shared.TheView.{view, invariant}
use Rattle.bds_value.specs.contracts.shared.Shared as shown
use Rattle.bds_value.specs.contracts.shared.Shared.TheInside as inner

abbrev pub the_former : Former {0} → Former {0}
the_former item = item

abbrev pub the_weighed : {item : Former {0}} → Weighed item → Weighed (the_former item)
the_weighed weight = weight

-- where the value lies, beside the value
abbrev field : Former {0}
field = via (pair (const Ptr) this) Inside (λ X s. (s.inner.ptr, s.inner.value))
    (λ X v. record { inner = record { ptr = v.0; value = v.1 } }) (λ X s. refl) (λ X v. refl)

abbrev replaced : {X Y : Type 0} → Rc X Global → Y → Rc Y Global
replaced r y = record { ptr = r.ptr; value = y }

abbrev rc_row : RattleType → RattleType
rc_row R = rc.the_row R global.the_row ghosts

module _ (Old New : RattleType) (change : Old.Denot → New.Denot) where
  in_rc : Alike Old New change → Alike (rc_row Old) (rc_row New) (λ r. replaced r (change r.value))
  unfolding part_of
  in_rc alike = record {
    mir_same = λ i. (rc_row (one_value Old (alike.mir_same i) (λ _. ftrue) (λ _ _. nothing) gnil)).mir;
    own_same = λ r i. (rc_row (one_value Old (alike.mir_same i) (alike.own_same r.value i) (alike.shr_same r.value i) gnil)).own_val (replaced r tt);
    shr_same = λ r i. (rc_row (one_value Old (alike.mir_same i) (alike.own_same r.value i) (alike.shr_same r.value i) gnil)).shr_at (replaced r tt);
  }

  pub the_places : Alike Old New change → Alike (shown.the_row Old) (shown.the_row New) ((the_former this).map Old.Denot New.Denot change)
  the_places alike = view_places field this view (λ X Y k s. refl) (λ X s. refl)
      Old.Denot New.Denot change (shown.the_row Old).coded (shown.the_row New).coded
      (invariant Old.Denot) (invariant New.Denot) (λ s p q. refl) (λ s p q. refl) (λ s p. tt) (λ s p. tt)
      (over (inner.the_row Old)) (over (inner.the_row New))
      (struct_places (inner.the_type Old) (inner.the_type New) ((λ r. replaced r (change r.value)), tt) _ (λ d. refl) refl (laid _ _ _ (in_rc alike), tt))

  pub the_codes_placed : Recodes Old New change → Recodes (shown.the_row Old) (shown.the_row New) ((the_former this).map Old.Denot New.Denot change)
  the_codes_placed recodes d = recodes d
