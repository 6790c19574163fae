-- Lists of fields are fields, both ways.
use Rattle.std.proofs.Common.{ℕ, ◌<◌, ◌≤◌, ◌^◌, List, length, refl, arith}
use Rattle.std.specs.List.{All}
use Rattle.std.proofs.lemmas.List.Elements.{All-from_recursion, recursion_from_All}
use Rattle.bds_value.specs.declared.TheConstants.{MAX_COUNT, MAX_TEXT}
use Rattle.bds_value.specs.Fields.{AreFieldTexts, AreFieldTypes, IsField, IsFieldTy, ReadsBack}
use Rattle.bds_value.specs.Reading.{Reader, list_at, all_at, text_at, texts_at, ty_at, types_at}
use Rattle.bds_value.specs.Spelling.{list_field, text_field, texts_field, ty_field, types_field}
use Rattle.bds_value.proofs.ListLaws.{list_back, list_spelled}
use Rattle.bds_value.proofs.NumberLaws.{text_is_field}
use Rattle.bds_value.proofs.RestLaws.{same_field}
use Rattle.bds_value.proofs.TyFieldLaws.{ty_is_field}

pub list_is_field : {X : Type 0} (r : Reader X) (spell : X → List ℕ) (Legal : X → Type 0) → IsField r spell Legal → (limit : ℕ) → limit < 2 ^ 32
    → IsField (list_at limit r) (list_field spell) (λ xs. (length xs ≤ limit) × All Legal xs)
list_is_field {X = X} r spell Legal field limit small = record {
  read_back = λ xs h. list_back r spell limit small xs h.0 (recursion_from_All (ReadsBack r spell) xs (λ k d l. field.read_back _ (h.1 k d l)));
  spelled = λ i j xs bytes e. let s = list_spelled r spell Legal field.spelled limit small i j xs bytes e in record { legal = (s.legal.0, All-from_recursion Legal xs s.legal.1); stretch = s.stretch };
}

pub all_is_field : {X : Type 0} (r : Reader X) (spell : X → List ℕ) (Legal : X → Type 0) → IsField r spell Legal → IsField (all_at r) (list_field spell) (λ xs. (length xs ≤ MAX_COUNT) × All Legal xs)
all_is_field r spell Legal field = list_is_field r spell Legal field MAX_COUNT (omega arith)

abbrev LegalText : List ℕ → Type 0
LegalText t = length t ≤ MAX_TEXT

pub texts_are_field : IsField texts_at texts_field AreFieldTexts
texts_are_field = same_field texts_at texts_field texts_field (λ ts. (length ts ≤ MAX_COUNT) × All LegalText ts) AreFieldTexts (λ ts. refl)
    (λ ts h. record { count = h.0; each = h.1 }) (λ ts h. (h.count, h.each)) (all_is_field text_at text_field LegalText text_is_field)

pub types_are_field : IsField types_at types_field AreFieldTypes
types_are_field = same_field types_at types_field types_field (λ ts. (length ts ≤ MAX_COUNT) × All IsFieldTy ts) AreFieldTypes (λ ts. refl)
    (λ ts h. record { count = h.0; each = h.1 }) (λ ts h. (h.count, h.each)) (all_is_field ty_at ty_field IsFieldTy ty_is_field)
