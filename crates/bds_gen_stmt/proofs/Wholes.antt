-- Marks of which whole functions are made: types that values have, texts within the limit, lines in files, and labels with no more operands than instructions stand before.
use Rattle.std.proofs.Common.{◌≡◌, ◌≤◌, ◌<◌, ◌+◌, ◌&&◌, ℕ, suc, List, [], ◌∷◌, ◌++◌, length, Bool, true, false, refl, sym, ◌∙◌, subst, arith, rules}
use Rattle.std.specs.Prelude.{⊤, nat_le, nat_lt, ◌-◌}
use Rattle.std.specs.List.{AllByRecursion}
use Rattle.std.proofs.lemmas.Grind.{common_steps}
use Rattle.bds_value.specs.declared.TheConstants.{MAX_TEXT, MAX_NESTING}
use Rattle.bds_value.specs.declared.value.Ty.{Ty}
use Rattle.bds_value.specs.declared.value.Ty.TheVariants as ty
use Rattle.bds_value.specs.Fields.{is_solid, nesting}
use Rattle.bds_value.proofs.TypeLaws.{room-Bool, room-Int, room-Text, room-List, room-Map}
use Rattle.bds_code.specs.declared.instr.Instr.{Instr}
use Rattle.bds_code.specs.declared.instr.Instr.TheVariants.{PushText, PushDefault, MakeList, MakeMap, Update}
use Rattle.bds_verify.specs.Whole.{is_value_ty, is_item_ty}
use Rattle.bds_gen_expr.specs.Marks.{Mark, does, label, slot, count}

abbrev pub IsWholeInstr : Instr → ℕ → Type 0
IsWholeInstr (PushText t) p = length t ≤ MAX_TEXT
IsWholeInstr (PushDefault t) p = is_value_ty t ≡ true
IsWholeInstr (MakeList t n) p = is_item_ty t ≡ true
IsWholeInstr (MakeMap t n) p = is_item_ty t ≡ true
IsWholeInstr (Update scope i kinds what) p = length kinds ≤ p
IsWholeInstr _ p = ⊤

abbrev pub AreValueTys : List Ty → Type 0
AreValueTys ts = AllByRecursion (λ t. is_value_ty t ≡ true) ts

module _ (files : ℕ) where
  -- from a place on
  abbrev pub AreWhole : List Mark → ℕ → Type 0
  AreWhole [] p = ⊤
  AreWhole (does i at ∷ ms) p = IsWholeInstr i p × (at.file < files) × AreWhole ms (suc p)
  AreWhole (label s ∷ ms) p = AreValueTys s × (length s ≤ p) × AreWhole ms p
  AreWhole (slot t ∷ ms) p = (is_value_ty t ≡ true) × AreWhole ms p

  pub whole-at : (ms : List Mark) (p q : ℕ) → p ≡ q → AreWhole ms p → AreWhole ms q
  whole-at ms p q e h = subst (AreWhole ms) e h

  pub whole-then : (ms ns : List Mark) (p q : ℕ) → p + count ms ≡ q → AreWhole ms p → AreWhole ns q → AreWhole (ms ++ ns) p
  whole-then [] ns p q e h k = whole-at ns q p (omega (arith, e)) k
  whole-then (does i at ∷ ms) ns p q e h k = (h.0, h.1, whole-then ms ns (suc p) q (omega (arith, e)) h.2 k)
  whole-then (label s ∷ ms) ns p q e h k = (h.0, h.1, whole-then ms ns p q e h.2 k)
  whole-then (slot t ∷ ms) ns p q e h k = (h.0, whole-then ms ns p q e h.1 k)

-- Types that values have

pub bool-value : is_value_ty ty.Bool ≡ true
bool-value = room-Bool MAX_NESTING

pub int-value : is_value_ty ty.Int ≡ true
int-value = room-Int MAX_NESTING

pub text-value : is_value_ty ty.Text ≡ true
text-value = room-Text MAX_NESTING

pub text-item : is_item_ty ty.Text ≡ true
text-item = room-Text (MAX_NESTING - 1)

pub texts-value : is_value_ty (ty.List ty.Text) ≡ true
texts-value = room-List ty.Text MAX_NESTING ∙ text-item

and-right : (a b : Bool) → (a && b) ≡ true → b ≡ true
and-right true b h = h
and-right false b h = absurd (search (rules, h))

-- the items of a list, and the values of a map
pub item-value : (t : Ty) → is_value_ty (ty.List t) ≡ true → is_item_ty t ≡ true
item-value t h = and-right (nat_lt 0 MAX_NESTING) (is_item_ty t) (sym (room-List t MAX_NESTING) ∙ h)

pub entry-value : (t : Ty) → is_value_ty (ty.Map t) ≡ true → is_item_ty t ≡ true
entry-value t h = and-right (nat_lt 0 MAX_NESTING) (is_item_ty t) (sym (room-Map t MAX_NESTING) ∙ h)

not-deeper : (n : ℕ) → nat_lt MAX_NESTING n ≡ false → nat_le n MAX_NESTING ≡ true
not-deeper n h = grind (arith, common_steps)

pub within : (n m : ℕ) → n ≤ m → nat_le n m ≡ true
within n m h = grind (arith, common_steps)

pub both-true : (a b : Bool) → a ≡ true → b ≡ true → (a && b) ≡ true
both-true true true h k = refl
both-true false b h k = absurd (search (rules, h))
both-true true false h k = absurd (search (rules, k))

pub value-ty : (t : Ty) → is_solid t ≡ true → nat_lt MAX_NESTING (nesting t) ≡ false → is_value_ty t ≡ true
value-ty t s n = both-true (nat_le (nesting t) MAX_NESTING) (is_solid t) (not-deeper (nesting t) n) s

-- a type that is written
pub written-value : (t : Ty) → is_solid t ≡ true → nesting t ≤ MAX_NESTING → is_value_ty t ≡ true
written-value t s n = both-true (nat_le (nesting t) MAX_NESTING) (is_solid t) (within (nesting t) MAX_NESTING n) s
