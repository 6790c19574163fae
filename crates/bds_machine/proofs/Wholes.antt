-- What a function of a verified unit is: its code, its labels and its lines.
use Rattle.std.proofs.Common.{◌≡◌, ◌<◌, ◌≤◌, ◌^◌, ℕ, List, [], ◌∷◌, length, slice_get, true, false, cond, nat_eq, nat_lt, nat_le, zero, suc, Some, refl, subst, arith}
use Rattle.std.specs.List.{list_all}
use Rattle.std.proofs.lemmas.Grind.{common_steps}
use Rattle.std.proofs.lemmas.Option.{slice_get_within}
use Rattle.bds_value.specs.declared.value.At.{At}
use Rattle.bds_value.specs.declared.value.Ty.{Ty}
use Rattle.bds_code.specs.declared.instr.Instr.{Instr}
use Rattle.bds_code.specs.declared.unit.Function.{Function}
use Rattle.bds_code.specs.declared.unit.Unit.{Unit as CodeUnit}
use Rattle.bds_verify.specs.Verified.{label_at, VerifiedUnit}
use Rattle.bds_verify.specs.Whole.{is_whole, is_whole_instr, is_heading, is_code, are_labels, are_lines, is_label, rises}
use Rattle.bds_machine.proofs.HeldFits.{both}

-- the parts of a whole function

code-whole : (u : CodeUnit) (f : Function) → is_whole u f ≡ true → is_code f.code ≡ true
code-whole u f w = (both (is_code f.code) _ (both (is_heading f) _ w).1).0

labels-whole : (u : CodeUnit) (f : Function) → is_whole u f ≡ true → are_labels (length f.code) f.labels ≡ true
labels-whole u f w = (both (are_labels (length f.code) f.labels) _ (both (is_code f.code) _ (both (is_heading f) _ w).1).1).0

lines-whole : (u : CodeUnit) (f : Function) → is_whole u f ≡ true → are_lines (length u.files) (length f.code) f.lines ≡ true
lines-whole u f w = (both (are_labels (length f.code) f.labels) _ (both (is_code f.code) _ (both (is_heading f) _ w).1).1).1

pub code_short : (u : CodeUnit) (f : Function) → is_whole u f ≡ true → length f.code ≤ 16777216
code_short u f w =
    let few : nat_le (length f.code) 16777216 ≡ true = (both (nat_le (length f.code) 16777216) _ (both (nat_lt 0 (length f.code)) _ (code-whole u f w)).1).0 in
    grind (arith, common_steps)

-- a place fits into the number of 32 bits that stands for it, and so does the next one
pub small : (u : CodeUnit) (n p : ℕ) (f : Function) (i : Instr) → VerifiedUnit u → slice_get u.functions n ≡ Some f → slice_get f.code p ≡ Some i → p < 2 ^ 24
small u n p f i v there at =
    let short = code_short u f (v.functions n f there).whole in
    let l : p < length f.code = slice_get_within f.code p i at in
    omega (arith, short, l)

all-at : (c : List Instr) (n : ℕ) (i : Instr) → list_all is_whole_instr c ≡ true → slice_get c n ≡ Some i → is_whole_instr i ≡ true
all-at [] n i h e = absurd (cc)
all-at (x ∷ xs) zero i h e = let same : x ≡ i = cc in subst (λ x. is_whole_instr x ≡ true) same (both (is_whole_instr x) _ h).0
all-at (x ∷ xs) (suc n) i h e = all-at xs n i (both (is_whole_instr x) _ h).1 e

pub instr-whole : (u : CodeUnit) (f : Function) (n : ℕ) (i : Instr) → is_whole u f ≡ true → slice_get f.code n ≡ Some i → is_whole_instr i ≡ true
instr-whole u f n i w at = all-at f.code n i (both (nat_le (length f.code) 16777216) _ (both (nat_lt 0 (length f.code)) _ (code-whole u f w)).1).1 at

label-in : (n : ℕ) (ls : List (ℕ × List Ty)) (to : ℕ) (s : List Ty) → list_all (is_label n) ls ≡ true → label_at ls to ≡ Some s → to < n
label-in n [] to s h e = absurd (cc)
label-in n (l ∷ ls) to s h e = elim (nat_eq l.0 to) as (λ b. nat_eq l.0 to ≡ b → cond b (Some l.1) (label_at ls to) ≡ Some s → to < n) [
  | true ↦ (λ same e. let f : nat_lt l.0 n ≡ true = (both (nat_lt l.0 n) _ (both (is_label n l) _ h).0).0 in grind (arith, common_steps))
  | false ↦ (λ same e. label-in n ls to s (both (is_label n l) _ h).1 e)
] refl e

pub label-within : (u : CodeUnit) (f : Function) (to : ℕ) (s : List Ty) → is_whole u f ≡ true → label_at f.labels to ≡ Some s → to < length f.code
label-within u f to s w e =
    label-in (length f.code) f.labels to s (both (rises f.labels) _ (both (nat_le (length f.labels) 4294967295) _ (labels-whole u f w)).1).1 e

pub line-there : (u : CodeUnit) (f : Function) (n : ℕ) → is_whole u f ≡ true → n < length f.code → (at : At) × (slice_get f.lines n ≡ Some at)
line-there u f n w l =
    let same : nat_eq (length f.lines) (length f.code) ≡ true = (both (nat_eq (length f.lines) (length f.code)) _ (lines-whole u f w)).0 in
    there f.lines n (grind (arith, common_steps))
  where
    there : (ls : List At) (n : ℕ) → n < length ls → (at : At) × (slice_get ls n ≡ Some at)
    there [] n l = absurd (omega arith)
    there (a ∷ ls) zero l = (a, refl)
    there (a ∷ ls) (suc n) l = there ls n (omega arith)
