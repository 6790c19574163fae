-- When the names that the checker has in force are those of a scope, and stand in a unit and a function with their types.
use Rattle.std.specs.Prelude.{◌≡◌, ℕ, List, [], ◌∷◌, Some, Ok, true, ⊤, slice_get}
use Rattle.bds_value.specs.declared.value.Ty.{Ty}
use Rattle.bds_value.specs.Types.{list_item, map_item}
use Rattle.bds_code.specs.declared.unit.Function.{Function}
use Rattle.bds_code.specs.declared.unit.Unit.{Unit as CodeUnit}
use Rattle.bds_code.specs.Row.{row}
use Rattle.bds_check_names.specs.declared.names.Names.{Names}
use Rattle.bds_check_names.specs.declared.names.Head.{Head}
use Rattle.bds_check_names.specs.Types.{is_known}
use Rattle.bds_check_names.specs.Scopes.{found, function_named}
use Rattle.bds_check_size.specs.Known.{look}
use Rattle.bds_gen_expr.specs.declared.scope.Scope.{Scope}
use Rattle.bds_gen_expr.specs.Scope.{known, load, function_number}

abbrev pub AreAllKnown : List Ty → Type 0
AreAllKnown [] = ⊤
AreAllKnown (t ∷ ts) = (is_known t ≡ true) × AreAllKnown ts

module _ (u : CodeUnit) (f : Function) where
  pub record Fits (sc : Scope) (names : Names) : Type 0 where
    pub loads : (x : List ℕ) (t : Ty) (s : List Ty) → found x names ≡ Some t → is_known t ≡ true → row u f (load sc x) s ≡ Ok (t ∷ s)
    pub calls : (x : List ℕ) (h : Head) → function_named x names.functions ≡ Some h → (g : Function) × (slice_get u.functions (function_number sc x) ≡ Some g) × (g.params ≡ h.parameters) × (g.ret ≡ h.result)
    pub parameters : (x : List ℕ) (h : Head) → function_named x names.functions ≡ Some h → AreAllKnown h.parameters
    pub looks : (x : List ℕ) → look (known sc) x ≡ found x names
    pub knowns : (x : List ℕ) (t : Ty) → found x names ≡ Some t → is_known t ≡ true
    pub items : (x : List ℕ) (t i : Ty) → found x names ≡ Some t → list_item t ≡ Some i → is_known i ≡ true
    pub entries : (x : List ℕ) (t i : Ty) → found x names ≡ Some t → map_item t ≡ Some i → is_known i ≡ true
