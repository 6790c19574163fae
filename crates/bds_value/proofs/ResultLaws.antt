-- The result of an operator is a well-formed value of the operator's type.
use Rattle.std.proofs.Common.{◌≡◌, ℕ, ℤ, pos, ◌+ℤ◌, ◌-ℤ◌, ◌*ℤ◌, List, [], ◌∷◌, ◌++◌, length, Bool, true, false, cond, nat_lt, Result, Ok, Err, refl, sym, ap, subst, ◌∙◌, inl, inr}
use Rattle.std.specs.Int.{int_wrap, w64}
use Rattle.std.specs.Int.RustNames.{int_div, int_rem}
use Rattle.std.specs.List.{AllByRecursion}
use Rattle.std.specs.Ordering.{int_eq, int_cmp, bool_cmp}
use Rattle.std.specs.Prelude.{◌⊎◌}
use Rattle.bds_value.specs.declared.TheConstants.{MAX_TEXT, MAX_ITEMS}
use Rattle.bds_value.specs.declared.faults.OpFault.{OpFault}
use Rattle.bds_value.specs.declared.faults.OpFault.TheVariants.{ZeroDivisor, TooLong}
use Rattle.bds_value.specs.declared.value.Op.{Op}
use Rattle.bds_value.specs.declared.value.Op.TheVariants.{Add, Sub, Mul, Div, Rem, Equal, NotEqual, Less, LessEqual, Greater, GreaterEqual, Concat, ListAdd, ListCat}
use Rattle.bds_value.specs.declared.value.Ty.{Ty, out-Ty}
use Rattle.bds_value.specs.declared.value.Ty.TheVariants as ty
use Rattle.bds_value.specs.declared.value.Ty.TheOpen.{Ty-F}
use Rattle.bds_value.specs.declared.value.Value.{Value}
use Rattle.bds_value.specs.declared.value.Value.TheVariants as value
use Rattle.bds_value.specs.Operators.{Takes, binary_of, number_result, text_result, bool_result, short_text, short_list, holds, result_type}
use Rattle.bds_value.specs.Order.{text_cmp}
use Rattle.bds_value.specs.TextResult.{held}
use Rattle.bds_value.specs.Value.{type_of, FitsHere, IsWellFormed, IsOf}
use Rattle.bds_value.proofs.Every.{every-Bool, every-Int, every-Text, every-List}
use Rattle.bds_value.proofs.FormedLaws.{value_cases}
use Rattle.bds_value.proofs.ValueFieldLaws.{type_of-Bool, type_of-Int, type_of-Text, type_of-List, type_of-Map}

-- a value of a type is of the type's kind
abbrev OfInt : Value → Type 0
OfInt v = type_of v ≡ ty.Int → (n : ℤ) × (v ≡ value.Int n)

pub of_int : (v : Value) → OfInt v
of_int = value_cases OfInt
    (λ b e. let other : ◌≡◌ {A = Ty-F Ty} Ty-F.Bool Ty-F.Int = sym ty.outs-Bool ∙ ap out-Ty (sym (type_of-Bool b) ∙ e) ∙ ty.outs-Int in absurd (cc))
    (λ n e. (n, refl))
    (λ t e. let other : ◌≡◌ {A = Ty-F Ty} Ty-F.Text Ty-F.Int = sym ty.outs-Text ∙ ap out-Ty (sym (type_of-Text t) ∙ e) ∙ ty.outs-Int in absurd (cc))
    (λ t items e. let other : ◌≡◌ {A = Ty-F Ty} (Ty-F.List t) (Ty-F.Int) = sym (ty.outs-List t) ∙ ap out-Ty (sym (type_of-List t items) ∙ e) ∙ ty.outs-Int in absurd (cc))
    (λ t ps e. let other : ◌≡◌ {A = Ty-F Ty} (Ty-F.Map t) (Ty-F.Int) = sym (ty.outs-Map t) ∙ ap out-Ty (sym (type_of-Map t ps) ∙ e) ∙ ty.outs-Int in absurd (cc))

abbrev OfText : Value → Type 0
OfText v = type_of v ≡ ty.Text → (t : List ℕ) × (v ≡ value.Text t)

pub of_text : (v : Value) → OfText v
of_text = value_cases OfText
    (λ b e. let other : ◌≡◌ {A = Ty-F Ty} Ty-F.Bool Ty-F.Text = sym ty.outs-Bool ∙ ap out-Ty (sym (type_of-Bool b) ∙ e) ∙ ty.outs-Text in absurd (cc))
    (λ n e. let other : ◌≡◌ {A = Ty-F Ty} Ty-F.Int Ty-F.Text = sym ty.outs-Int ∙ ap out-Ty (sym (type_of-Int n) ∙ e) ∙ ty.outs-Text in absurd (cc))
    (λ t e. (t, refl))
    (λ t items e. let other : ◌≡◌ {A = Ty-F Ty} (Ty-F.List t) (Ty-F.Text) = sym (ty.outs-List t) ∙ ap out-Ty (sym (type_of-List t items) ∙ e) ∙ ty.outs-Text in absurd (cc))
    (λ t ps e. let other : ◌≡◌ {A = Ty-F Ty} (Ty-F.Map t) (Ty-F.Text) = sym (ty.outs-Map t) ∙ ap out-Ty (sym (type_of-Map t ps) ∙ e) ∙ ty.outs-Text in absurd (cc))

abbrev OfBool : Value → Type 0
OfBool v = type_of v ≡ ty.Bool → (b : Bool) × (v ≡ value.Bool b)

pub of_bool : (v : Value) → OfBool v
of_bool = value_cases OfBool
    (λ b e. (b, refl))
    (λ n e. let other : ◌≡◌ {A = Ty-F Ty} Ty-F.Int Ty-F.Bool = sym ty.outs-Int ∙ ap out-Ty (sym (type_of-Int n) ∙ e) ∙ ty.outs-Bool in absurd (cc))
    (λ t e. let other : ◌≡◌ {A = Ty-F Ty} Ty-F.Text Ty-F.Bool = sym ty.outs-Text ∙ ap out-Ty (sym (type_of-Text t) ∙ e) ∙ ty.outs-Bool in absurd (cc))
    (λ t items e. let other : ◌≡◌ {A = Ty-F Ty} (Ty-F.List t) (Ty-F.Bool) = sym (ty.outs-List t) ∙ ap out-Ty (sym (type_of-List t items) ∙ e) ∙ ty.outs-Bool in absurd (cc))
    (λ t ps e. let other : ◌≡◌ {A = Ty-F Ty} (Ty-F.Map t) (Ty-F.Bool) = sym (ty.outs-Map t) ∙ ap out-Ty (sym (type_of-Map t ps) ∙ e) ∙ ty.outs-Bool in absurd (cc))

abbrev OfList : Value → Type 0
OfList v = (t : Ty) → type_of v ≡ ty.List t → (items : List Value) × (v ≡ value.List t items)

pub of_list : (v : Value) → OfList v
of_list = value_cases OfList
    (λ b t e. let other : ◌≡◌ {A = Ty-F Ty} Ty-F.Bool (Ty-F.List t) = sym ty.outs-Bool ∙ ap out-Ty (sym (type_of-Bool b) ∙ e) ∙ ty.outs-List t in absurd (cc))
    (λ n t e. let other : ◌≡◌ {A = Ty-F Ty} Ty-F.Int (Ty-F.List t) = sym ty.outs-Int ∙ ap out-Ty (sym (type_of-Int n) ∙ e) ∙ ty.outs-List t in absurd (cc))
    (λ s t e. let other : ◌≡◌ {A = Ty-F Ty} Ty-F.Text (Ty-F.List t) = sym ty.outs-Text ∙ ap out-Ty (sym (type_of-Text s) ∙ e) ∙ ty.outs-List t in absurd (cc))
    (λ u items t e. let same : ◌≡◌ {A = Ty-F Ty} (Ty-F.List u) (Ty-F.List t) = sym (ty.outs-List u) ∙ ap out-Ty (sym (type_of-List u items) ∙ e) ∙ ty.outs-List t in
    let one : u ≡ t = cc in (items, ap (λ w. value.List w items) one))
    (λ u ps t e. let other : ◌≡◌ {A = Ty-F Ty} (Ty-F.Map u) (Ty-F.List t) = sym (ty.outs-Map u) ∙ ap out-Ty (sym (type_of-Map u ps) ∙ e) ∙ ty.outs-List t in absurd (cc))

-- results of each kind
int_has : (n : ℤ) (v : Value) → ◌≡◌ {A = Result Value OpFault} (Ok (value.Int n)) (Ok v) → IsOf v ty.Int
int_has n v e = let same : value.Int n ≡ v = cc in subst (λ u. IsOf u ty.Int) same ((every-Int FitsHere n).1 tt, type_of-Int n)

bool_has : (b : Bool) (v : Value) → ◌≡◌ {A = Result Value OpFault} (Ok (value.Bool b)) (Ok v) → IsOf v ty.Bool
bool_has b v e = let same : value.Bool b ≡ v = cc in subst (λ u. IsOf u ty.Bool) same ((every-Bool FitsHere b).1 tt, type_of-Bool b)

divided_has : (t : Bool) (n : ℤ) (v : Value) → ◌≡◌ {A = Result Value OpFault} (cond t (Err ZeroDivisor) (Ok (value.Int n))) (Ok v) → IsOf v ty.Int
divided_has true n v e = absurd (cc)
divided_has false n v e = int_has n v e

text_has : (t : List ℕ) (v : Value) → short_text t ≡ Ok v → IsOf v ty.Text
text_has t v e = by_test (nat_lt MAX_TEXT (length t)) refl
  where
    by_test : (b : Bool) → nat_lt MAX_TEXT (length t) ≡ b → IsOf v ty.Text
    by_test true is = let g : ◌≡◌ {A = Result Value OpFault} (Err (TooLong (held (length t)))) (Ok v) = rw is at e in absurd (cc)
    by_test false is =
        let g : ◌≡◌ {A = Result Value OpFault} (Ok (value.Text t)) (Ok v) = rw is at e in
        let same : value.Text t ≡ v = cc in
        subst (λ u. IsOf u ty.Text) same ((every-Text FitsHere t).1 tt, type_of-Text t)

list_has : (t : Ty) (items : List Value) (v : Value) → AllByRecursion (λ u. type_of u ≡ t) items → AllByRecursion IsWellFormed items → short_list t items ≡ Ok v → IsOf v (ty.List t)
list_has t items v types formed e = by_test (nat_lt MAX_ITEMS (length items)) refl
  where
    by_test : (b : Bool) → nat_lt MAX_ITEMS (length items) ≡ b → IsOf v (ty.List t)
    by_test true is = let g : ◌≡◌ {A = Result Value OpFault} (Err (TooLong (held (length items)))) (Ok v) = rw is at e in absurd (cc)
    by_test false is =
        let g : ◌≡◌ {A = Result Value OpFault} (Ok (value.List t items)) (Ok v) = rw is at e in
        let same : value.List t items ≡ v = cc in
        subst (λ u. IsOf u (ty.List t)) same ((every-List FitsHere t items).1 (types, formed), type_of-List t items)

joined_all : {X : Type 0} (P : X → Type 0) (xs ys : List X) → AllByRecursion P xs → AllByRecursion P ys → AllByRecursion P (xs ++ ys)
joined_all P [] ys h g = g
joined_all P (x ∷ xs) ys h g = (h.0, joined_all P xs ys h.1 g)

-- at two numbers, two texts, two truth values
numbers_is : (op : Op) (l r : Value) (a b : ℤ) → l ≡ value.Int a → r ≡ value.Int b → binary_of op l r ≡ number_result op a b
numbers_is op l r a b e f = rw (e, f, value.outs-Int a, value.outs-Int b) refl

texts_is : (op : Op) (l r : Value) (a b : List ℕ) → l ≡ value.Text a → r ≡ value.Text b → binary_of op l r ≡ text_result op a b
texts_is op l r a b e f = rw (e, f, value.outs-Text a, value.outs-Text b) refl

bools_is : (op : Op) (l r : Value) (a b : Bool) → l ≡ value.Bool a → r ≡ value.Bool b → binary_of op l r ≡ bool_result op a b
bools_is op l r a b e f = rw (e, f, value.outs-Bool a, value.outs-Bool b) refl

append_is : (l r : Value) (t : Ty) (items : List Value) → l ≡ value.List t items → binary_of ListAdd l r ≡ short_list t (items ++ r ∷ [])
append_is l r t items e = rw (e, value.outs-List t items) refl

join_is : (l r : Value) (t : Ty) (items more : List Value) → l ≡ value.List t items → r ≡ value.List t more → binary_of ListCat l r ≡ short_list t (items ++ more)
join_is l r t items more e f = rw (e, f, value.outs-List t items, value.outs-List t more) refl

compared : (op : Op) → ((a b : ℤ) → number_result op a b ≡ Ok (value.Bool (holds op (int_cmp a b)))) → ((a b : List ℕ) → text_result op a b ≡ Ok (value.Bool (holds op (text_cmp a b)))) → (l r v : Value)
    → (type_of l ≡ ty.Bool) ⊎ ((type_of l ≡ ty.Int) ⊎ (type_of l ≡ ty.Text)) → type_of r ≡ type_of l → binary_of op l r ≡ Ok v → IsOf v ty.Bool
compared op n t l r v (inl h) s e =
    let a = of_bool l h in
    let b = of_bool r (s ∙ h) in
    bool_has (holds op (bool_cmp a.0 b.0)) v (sym (bools_is op l r a.0 b.0 a.1 b.1) ∙ e)
compared op n t l r v (inr (inl h)) s e =
    let a = of_int l h in
    let b = of_int r (s ∙ h) in
    bool_has (holds op (int_cmp a.0 b.0)) v (sym (n a.0 b.0) ∙ sym (numbers_is op l r a.0 b.0 a.1 b.1) ∙ e)
compared op n t l r v (inr (inr h)) s e =
    let a = of_text l h in
    let b = of_text r (s ∙ h) in
    bool_has (holds op (text_cmp a.0 b.0)) v (sym (t a.0 b.0) ∙ sym (texts_is op l r a.0 b.0 a.1 b.1) ∙ e)

appended_has : (l r v : Value) → IsWellFormed l → IsWellFormed r → type_of l ≡ ty.List (type_of r) → binary_of ListAdd l r ≡ Ok v → IsOf v (type_of l)
appended_has l r v hl hr h e =
    let t = type_of r in
    let list = of_list l t h in
    let items = list.0 in
    let parts = (every-List FitsHere t items).0 (subst IsWellFormed list.1 hl) in
    let there = append_is l r t items list.1 in
    subst (IsOf v) (sym h) (list_has t (items ++ r ∷ []) v (joined_all (λ u. type_of u ≡ type_of r) items (r ∷ []) parts.0 (refl, tt)) (joined_all IsWellFormed items (r ∷ []) parts.1 (hr, tt)) (sym there ∙ e))

joined_has : (t : Ty) (l r v : Value) → IsWellFormed l → IsWellFormed r → type_of l ≡ ty.List t → type_of r ≡ type_of l → binary_of ListCat l r ≡ Ok v → IsOf v (type_of l)
joined_has t l r v hl hr h s e =
    let left = of_list l t h in
    let right = of_list r t (s ∙ h) in
    let lefts = (every-List FitsHere t left.0).0 (subst IsWellFormed left.1 hl) in
    let rights = (every-List FitsHere t right.0).0 (subst IsWellFormed right.1 hr) in
    let there = join_is l r t left.0 right.0 left.1 right.1 in
    subst (IsOf v) (sym h) (list_has t (left.0 ++ right.0) v (joined_all (λ u. type_of u ≡ t) left.0 right.0 lefts.0 rights.0) (joined_all IsWellFormed left.0 right.0 lefts.1 rights.1) (sym there ∙ e))

-- the result of an operator that takes the operands' types
pub binary_formed : (op : Op) (l r v : Value) → IsWellFormed l → IsWellFormed r → Takes op (type_of l) (type_of r) → binary_of op l r ≡ Ok v → IsOf v (result_type op (type_of l))
binary_formed Add l r v hl hr h e = let a = of_int l h.0 in let b = of_int r h.1 in int_has (int_wrap w64 (a.0 +ℤ b.0)) v (sym (numbers_is Add l r a.0 b.0 a.1 b.1) ∙ e)
binary_formed Sub l r v hl hr h e = let a = of_int l h.0 in let b = of_int r h.1 in int_has (int_wrap w64 (a.0 -ℤ b.0)) v (sym (numbers_is Sub l r a.0 b.0 a.1 b.1) ∙ e)
binary_formed Mul l r v hl hr h e = let a = of_int l h.0 in let b = of_int r h.1 in int_has (int_wrap w64 (a.0 *ℤ b.0)) v (sym (numbers_is Mul l r a.0 b.0 a.1 b.1) ∙ e)
binary_formed Div l r v hl hr h e = let a = of_int l h.0 in let b = of_int r h.1 in divided_has (int_eq b.0 (pos 0)) (int_wrap w64 (int_div a.0 b.0)) v (sym (numbers_is Div l r a.0 b.0 a.1 b.1) ∙ e)
binary_formed Rem l r v hl hr h e = let a = of_int l h.0 in let b = of_int r h.1 in divided_has (int_eq b.0 (pos 0)) (int_rem a.0 b.0) v (sym (numbers_is Rem l r a.0 b.0 a.1 b.1) ∙ e)
binary_formed Equal l r v hl hr h e = compared Equal (λ a b. refl) (λ a b. refl) l r v h.0 h.1 e
binary_formed NotEqual l r v hl hr h e = compared NotEqual (λ a b. refl) (λ a b. refl) l r v h.0 h.1 e
binary_formed Less l r v hl hr h e = compared Less (λ a b. refl) (λ a b. refl) l r v (inr h.0) h.1 e
binary_formed LessEqual l r v hl hr h e = compared LessEqual (λ a b. refl) (λ a b. refl) l r v (inr h.0) h.1 e
binary_formed Greater l r v hl hr h e = compared Greater (λ a b. refl) (λ a b. refl) l r v (inr h.0) h.1 e
binary_formed GreaterEqual l r v hl hr h e = compared GreaterEqual (λ a b. refl) (λ a b. refl) l r v (inr h.0) h.1 e
binary_formed Concat l r v hl hr h e = let a = of_text l h.0 in let b = of_text r h.1 in text_has (a.0 ++ b.0) v (sym (texts_is Concat l r a.0 b.0 a.1 b.1) ∙ e)
binary_formed ListAdd l r v hl hr h e = appended_has l r v hl hr h e
binary_formed ListCat l r v hl hr h e = joined_has h.0.0 l r v hl hr h.0.1 h.1 e
