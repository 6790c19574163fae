-- A verified unit is within the limits of a file.
use Rattle.std.proofs.Common.{◌≡◌, ◌≤◌, ◌&&◌, ◌||◌, ◌⊎◌, inl, inr, ℕ, suc, nat_eq, nat_lt, nat_le, List, [], ◌∷◌, length, slice_get, Option, Some, None, Bool, true, false, refl, sym, ◌∙◌, ap, arith}
use Rattle.std.specs.List.{All, list_all}
use Rattle.std.proofs.lemmas.Bool.{leb-true}
use Rattle.std.proofs.lemmas.Grind.{common_steps}
use Rattle.std.proofs.lemmas.List.Elements.{All-nil, All-cons}
use Rattle.bds_value.specs.declared.TheConstants.{MAX_TEXT}
use Rattle.bds_value.specs.declared.value.Ty.{Ty, out-Ty, roll-Ty, roll-out-Ty}
use Rattle.bds_value.specs.declared.value.Ty.TheVariants as ty
use Rattle.bds_value.specs.declared.value.Ty.TheOpen.{Ty-F}
use Rattle.bds_value.specs.Fields.{nesting, is_solid, AreFieldTypes, IsValueTy, IsFieldTy, RisesFrom}
use Rattle.bds_value.specs.Reading.{follows}
use Rattle.bds_value.specs.Types.{is_void, is_void_at, fits_within}
use Rattle.bds_code.specs.declared.instr.Instr.{Instr}
use Rattle.bds_code.specs.declared.instr.Instr.TheVariants.{PushText, PushDefault, MakeList, MakeMap, Update}
use Rattle.bds_code.specs.declared.unit.Function.{Function}
use Rattle.bds_code.specs.declared.unit.Unit.{Unit as CodeUnit}
use Rattle.bds_code.specs.UnitFields.{IsFieldInstr, IsFieldLabel, IsFieldFunction, IsFieldUnit}
use Rattle.bds_verify.specs.Verified.{VerifiedUnit}
use Rattle.bds_verify.specs.Whole.{is_value_ty, are_value_tys, is_item_ty, is_text, is_whole_instr, rises_from, rises, is_label, are_labels, is_code, are_lines, is_heading, is_whole, begins}

abbrev Label : Type 0
Label = ℕ × List Ty

both : (a b : Bool) → (a && b) ≡ true → (a ≡ true) × (b ≡ true)
both true true e = (refl, refl)
both true false e = absurd (cc)
both false b e = absurd (cc)

either : (a b : Bool) → (a || b) ≡ true → (a ≡ true) ⊎ (b ≡ true)
either true b e = inl refl
either false b e = inr e

all_from : {X : Type 0} (p : X → Bool) (P : X → Type 0) → ((x : X) → p x ≡ true → P x) → (xs : List X) → list_all p xs ≡ true → All P xs
all_from p P good [] h = All-nil P
all_from p P good (x ∷ xs) h = let b = both (p x) (list_all p xs) h in All-cons P x xs (good x b.0) (all_from p P good xs b.1)

-- what holds at each place holds of each item
all_at : (P : Function → Type 0) (fs : List Function) → ((n : ℕ) (f : Function) → slice_get fs n ≡ Some f → P f) → All P fs
all_at P [] h = All-nil P
all_at P (f ∷ fs) h = All-cons P f fs (h 0 f refl) (all_at P fs (λ n g e. h (suc n) g e))

void_is_at : (y : Ty-F Ty) → is_void_at y ≡ true → y ≡ Ty-F.Void
void_is_at Ty-F.Void h = refl
void_is_at Ty-F.Bool h = absurd (cc)
void_is_at Ty-F.Int h = absurd (cc)
void_is_at Ty-F.Text h = absurd (cc)
void_is_at (Ty-F.List t) h = absurd (cc)
void_is_at (Ty-F.Map t) h = absurd (cc)

void_is : (t : Ty) → is_void t ≡ true → t ≡ ty.Void
void_is t h = sym (roll-out-Ty t) ∙ ap roll-Ty (void_is_at (out-Ty t) h) ∙ ty.rolls-Void

fits : (t : Ty) (n : ℕ) → n ≤ 200 → fits_within t n ≡ true → IsValueTy t
fits t n le h =
    let parts = both (nat_le (nesting t) n) (is_solid t) h in
    let l : nesting t ≤ n = leb-true (nesting t) n parts.0 in
    (omega arith, parts.1)

value-field : (t : Ty) → is_value_ty t ≡ true → IsFieldTy t
value-field t h = inr (fits t 200 (omega arith) h)

item-field : (t : Ty) → is_item_ty t ≡ true → IsFieldTy t
item-field t h = inr (fits t 199 (omega arith) h)

text-field : (t : List ℕ) → is_text t ≡ true → length t ≤ MAX_TEXT
text-field t h = leb-true (length t) MAX_TEXT h

types-field : (ts : List Ty) → are_value_tys ts ≡ true → AreFieldTypes ts
types-field ts h =
    let parts = both (nat_le (length ts) 4294967295) (list_all is_value_ty ts) h in
    record { count = leb-true (length ts) 4294967295 parts.0; each = all_from is_value_ty IsFieldTy value-field ts parts.1 }

instr-field : (i : Instr) → is_whole_instr i ≡ true → IsFieldInstr i
instr-field (PushText t) h = text-field t h
instr-field (PushDefault t) h = value-field t h
instr-field (MakeList t n) h = item-field t h
instr-field (MakeMap t n) h = item-field t h
instr-field (Update scope slot kinds what) h = leb-true (length kinds) 4294967295 h
instr-field _ h = tt

label-field : (size : ℕ) (l : Label) → is_label size l ≡ true → IsFieldLabel l
label-field size l h = types-field l.1 (both (nat_lt l.0 size) (are_value_tys l.1) h).1

rising : (last : Option ℕ) (ls : List Label) → rises_from last ls ≡ true → RisesFrom nat_lt (λ (l : Label). l.0) last ls
rising last [] h = tt
rising last (l ∷ ls) h = let parts = both (follows nat_lt last l.0) (rises_from (Some l.0) ls) h in (parts.0, rising (Some l.0) ls parts.1)

result-field : (t : Ty) → (is_void t || is_value_ty t) ≡ true → IsFieldTy t
result-field t h = elim (either (is_void t) (is_value_ty t) h) [ inl v ↦ inl (void_is t v) | inr v ↦ value-field t v ]

module _ (u : CodeUnit) (f : Function) (w : is_whole u f ≡ true) where
  pub function-field : IsFieldFunction f
  function-field =
      let parts = both (is_heading f) (is_code f.code && (are_labels (length f.code) f.labels && are_lines (length u.files) (length f.code) f.lines)) w in
      let head = both (is_text f.name) (are_value_tys f.params && (are_value_tys f.locals && (is_void f.ret || is_value_ty f.ret))) parts.0 in
      let params = both (are_value_tys f.params) (are_value_tys f.locals && (is_void f.ret || is_value_ty f.ret)) head.1 in
      let locals = both (are_value_tys f.locals) (is_void f.ret || is_value_ty f.ret) params.1 in
      let behind = both (is_code f.code) (are_labels (length f.code) f.labels && are_lines (length u.files) (length f.code) f.lines) parts.1 in
      let code = both (nat_lt 0 (length f.code)) (nat_le (length f.code) 16777216 && list_all is_whole_instr f.code) behind.0 in
      let size = both (nat_le (length f.code) 16777216) (list_all is_whole_instr f.code) code.1 in
      let tables = both (are_labels (length f.code) f.labels) (are_lines (length u.files) (length f.code) f.lines) behind.1 in
      let labels = both (nat_le (length f.labels) 4294967295) (rises f.labels && list_all (is_label (length f.code)) f.labels) tables.0 in
      let rise = both (rises f.labels) (list_all (is_label (length f.code)) f.labels) labels.1 in
      let lines = both (nat_eq (length f.lines) (length f.code)) (list_all (λ a. nat_lt a.file (length u.files)) f.lines) tables.1 in
      record {
        name = text-field f.name head.0;
        params = types-field f.params params.0;
        locals = types-field f.locals locals.0;
        ret = result-field f.ret locals.1;
        size = leb-true (length f.code) 16777216 size.0;
        code = all_from is_whole_instr IsFieldInstr instr-field f.code size.1;
        targets = leb-true (length f.labels) 4294967295 labels.0;
        labels = all_from (is_label (length f.code)) IsFieldLabel (label-field (length f.code)) f.labels rise.1;
        rises = rising None f.labels rise.0;
        lines = (let same : nat_eq (length f.lines) (length f.code) ≡ true = lines.0 in grind (arith, common_steps));
      }

pub field-unit : (u : CodeUnit) → VerifiedUnit u → IsFieldUnit u
field-unit u v =
    let parts = both (nat_le (length u.files) 4294967295 && list_all is_text u.files) (are_value_tys u.globals && (nat_le (length u.functions) 4294967295 && begins (slice_get u.functions 0))) v.whole in
    let files = both (nat_le (length u.files) 4294967295) (list_all is_text u.files) parts.0 in
    let globals = both (are_value_tys u.globals) (nat_le (length u.functions) 4294967295 && begins (slice_get u.functions 0)) parts.1 in
    let functions = both (nat_le (length u.functions) 4294967295) (begins (slice_get u.functions 0)) globals.1 in
    record {
      files = record { count = leb-true (length u.files) 4294967295 files.0; each = all_from is_text (λ t. length t ≤ MAX_TEXT) text-field u.files files.1 };
      globals = types-field u.globals globals.0;
      count = leb-true (length u.functions) 4294967295 functions.0;
      functions = all_at IsFieldFunction u.functions (λ n f e. function-field u f (v.functions n f e).whole);
    }
