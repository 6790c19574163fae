-- How a `Rising` holds its values, so that a type may hold maps of itself: its value is the list of the pairs, and each value stands in it once.
use mathlib.Core.Path.{◌≡◌, refl, sym, ap}
use mathlib.Core.HLevel.{Unit-prop}
use mathlib.Core.List.{List, [], ◌∷◌, map}
use mathlib.Core.Former.{Former, this, const, pair, list, via, children}
use base.Stored.{code_map, coded×, gcons}
use denote.Builtin.{u8}
use denote.RattleType.{RattleType}
use denote.HoleLaws.{Alike}
use denote.HolePlaces.{Recodes, struct_places, laid}
use denote.Hole.Carrier.{listed}
use denote.Hole.Fix.{over}
use denote.Param.Weighed.{Weighed, w_const, w_pair, w_list}
use denote.Model.Placed.{view_places}
use Rattle.std.specs.Prelude.{ℕ}
use Rattle.std_collections.specs.formers.btree_map.BTreeMap as btree
use Rattle.std.specs.declared.alloc.Global.{Global}
use Rattle.std.specs.contracts.alloc.Global as global
use Rattle.std.specs.contracts.impls.GlobalAllocator.TheImpl.{ghosts}
use Rattle.bds_value.specs.contracts.listed.Listed as text
use Rattle.bds_value.specs.contracts.order.ByteTextOrd.TheImpl as ordered
use Rattle.bds_value.specs.contracts.order.ByteTextPartialEq.TheImpl as equal
use Rattle.bds_value.specs.contracts.order.ByteTextPartialOrd.TheImpl as partial
use Rattle.bds_value.specs.declared.rising.Rising.TheInside.{Inside}
use Rattle.bds_value.specs.declared.rising.Rising.TheView.{view}
use Rattle.bds_value.specs.contracts.rising.Rising as shown
use Rattle.bds_value.specs.contracts.rising.Rising.TheInside as inner

-- a key beside a value
abbrev entry : Former {0} → Former {0}
entry item = pair (const (List ℕ)) item

-- the values are lists of keys and values
abbrev pub the_former : Former {0} → Former {0}
the_former item = list (entry item)

abbrev pub the_weighed : {item : Former {0}} → Weighed item → Weighed (the_former item)
the_weighed weight = w_list (w_pair (w_const (List ℕ)) weight)

abbrev pub the_empty : List (List ℕ × ⊥)
the_empty = []

abbrev pub the_items : (X : Type 0) → List (List ℕ × X) → List X
the_items X ps = map (λ p. p.1) ps

pub the_items_listed : (X : Type 0) (ps : List (List ℕ × X)) → listed _ (children (the_former this) X ps) ≡ the_items X ps
the_items_listed X [] = refl
the_items_listed X (p ∷ ps) = ap (λ l. p.1 ∷ l) (the_items_listed X ps)

-- the one field, a `BTreeMap`
abbrev field : Former {0}
field = via (btree.the_former this (List ℕ) Global) Inside (λ X it. it.pairs) (λ X v. record { pairs = v }) (λ X it. refl) (λ X v. refl)

abbrev on_value : {X Y : Type 0} → (X → Y) → List ℕ × X → List ℕ × Y
on_value change p = (p.0, change p.1)

abbrev text_row : RattleType
text_row = text.the_row u8

module _ (Old New : RattleType) (change : Old.Denot → New.Denot) where
  pub the_places : Alike Old New change → Alike (shown.the_row Old) (shown.the_row New) ((the_former this).map Old.Denot New.Denot change)
  the_places alike =
      let in_map = btree.the_places text_row global.the_row ordered.ghosts equal.ghosts partial.ghosts ghosts Old New change alike in
      view_places field (the_former this) view (λ X Y k it. refl) (λ X it. refl)
      Old.Denot New.Denot change (shown.the_row Old).coded (shown.the_row New).coded
      (λ it. Unit {0}) (λ it. Unit {0}) (λ it. Unit-prop) (λ it. Unit-prop)
      (λ it u. u) (λ it u. u)
      (over (inner.the_row Old)) (over (inner.the_row New))
      (struct_places (inner.the_type Old) (inner.the_type New) ((btree.the_former this (List ℕ) Global).map Old.Denot New.Denot change, tt) _ (λ d. refl) refl (laid _ _ _ in_map, tt))

  pub the_codes_placed : Recodes Old New change → Recodes (shown.the_row Old) (shown.the_row New) ((the_former this).map Old.Denot New.Denot change)
  the_codes_placed recodes ps =
      sym (code_map (coded× text_row.coded Old.coded).code (coded× text_row.coded New.coded).code (on_value change) (λ x i. gcons (text_row.coded.code x.0) (sym (recodes x.1) i)) ps)
