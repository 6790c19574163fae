-- How a `Listed` holds its items, so that a type may hold lists of itself: its value is the list, and each item stands in it once.
use mathlib.Core.Path.{◌≡◌, refl, sym}
use mathlib.Core.List.{List, []}
use mathlib.Core.Former.{Former, this, list, via, children}
use base.Stored.{code_map}
use denote.RattleType.{RattleType}
use denote.HoleLaws.{Alike}
use denote.HolePlaces.{Recodes, struct_places, laid}
use denote.Hole.Carrier.{listed, list-listed}
use denote.Hole.Fix.{over}
use denote.Param.Weighed.{Weighed, w_list}
use denote.Model.Placed.{view_places}
use Rattle.std.specs.formers.vec.Vec as vec
use Rattle.std.specs.declared.alloc.Global.{Global}
use Rattle.std.specs.contracts.alloc.Global as global
use Rattle.std.specs.contracts.impls.GlobalAllocator.TheImpl.{ghosts}
use Rattle.bds_value.specs.declared.listed.Listed.TheInside.{Inside}
use Rattle.bds_value.specs.declared.listed.Listed.TheView.{view, invariant}
use Rattle.bds_value.specs.contracts.listed.Listed as shown
use Rattle.bds_value.specs.contracts.listed.Listed.TheInside as inner

-- the values are lists of the values of the items
abbrev pub the_former : Former {0} → Former {0}
the_former item = list item

abbrev pub the_weighed : {item : Former {0}} → Weighed item → Weighed (the_former item)
the_weighed weight = w_list weight

abbrev pub the_empty : List ⊥
the_empty = []

abbrev pub the_items : (X : Type 0) → List X → List X
the_items X xs = xs

pub the_items_listed : (X : Type 0) (xs : List X) → listed _ (children (the_former this) X xs) ≡ the_items X xs
the_items_listed X xs = list-listed X xs

-- the one field, a `Vec`
abbrev field : Former {0}
field = via (vec.the_former this Global) Inside (λ X it. it.items) (λ X v. record { items = v }) (λ X it. refl) (λ X v. refl)

module _ (Old New : RattleType) (change : Old.Denot → New.Denot) where
  pub the_places : Alike Old New change → Alike (shown.the_row Old) (shown.the_row New) ((the_former this).map Old.Denot New.Denot change)
  the_places alike =
      let in_vec = vec.the_places global.the_row ghosts Old New change alike in
      view_places field (list this) view (λ X Y k it. refl) (λ X it. refl)
      Old.Denot New.Denot change (shown.the_row Old).coded (shown.the_row New).coded
      (invariant Old.Denot) (invariant New.Denot) (λ it p q. refl) (λ it p q. refl) (λ it p. tt) (λ it p. tt)
      (over (inner.the_row Old)) (over (inner.the_row New))
      (struct_places (inner.the_type Old) (inner.the_type New) (vec.mapped change, tt) _ (λ d. refl) refl (laid _ _ _ in_vec, tt))

  pub the_codes_placed : Recodes Old New change → Recodes (shown.the_row Old) (shown.the_row New) ((the_former this).map Old.Denot New.Denot change)
  the_codes_placed recodes xs = sym (code_map Old.coded.code New.coded.code change (λ x. sym (recodes x)) xs)
