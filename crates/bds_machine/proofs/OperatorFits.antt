-- The rows of operators, and those that show a value, keep the types.
use Rattle.std.proofs.Common.{◌≡◌, ◌≤◌, ℕ, List, [], ◌∷◌, ◌++◌, length, nat_lt, Bool, true, false, not, Ok, Err, refl, sym, ap, ◌∙◌, inl, inr, arith}
use Rattle.std.proofs.lemmas.Grind.{common_steps}
use Rattle.std.specs.Bool.{if◌then◌else◌}
use Rattle.std.specs.Int.{int_wrap, w64}
use Rattle.std.specs.Prelude.{◌⊎◌, neg_ℤ}
use Rattle.bds_value.specs.declared.TheConstants.{MAX_TEXT}
use Rattle.bds_value.specs.declared.faults.OpFault.TheVariants.{TooLong}
use Rattle.bds_value.specs.declared.value.Op.{Op}
use Rattle.bds_value.specs.declared.value.Op.TheVariants.{ListAdd, ListCat}
use Rattle.bds_value.specs.declared.value.Ty.{Ty, out-Ty}
use Rattle.bds_value.specs.declared.value.Ty.TheVariants as ty
use Rattle.bds_value.specs.declared.value.Ty.TheOpen.{Ty-F}
use Rattle.bds_value.specs.declared.value.Value.{Value}
use Rattle.bds_value.specs.declared.value.Value.TheVariants as value
use Rattle.bds_value.specs.Operators.{short_text, Takes, result_type}
use Rattle.bds_value.specs.TextResult.{held}
use Rattle.bds_value.specs.Types.{is_plain, is_plain_at, is_ordered, is_ordered_at}
use Rattle.bds_value.specs.Options.{◌>>=◌}
use Rattle.bds_value.specs.RunFaults.{op_fault}
use Rattle.bds_value.specs.Results as results
use Rattle.bds_code.specs.declared.unit.Function.{Function}
use Rattle.bds_code.specs.Operands.{provided, given, giving, any_taken, taken, item_of, swapped}
use Rattle.bds_code.specs.Row as row
use Rattle.bds_code_frames.specs.Stack.{Stack, Call, popped}
use Rattle.bds_verify.specs.Threads.{IsCall}
use Rattle.bds_machine_values.specs.Faults.{outcome, gives, finishes}
use Rattle.bds_machine_values.specs.Results.{applied}
use Rattle.bds_machine_values.specs.Values.{operated, negated, inverted, shown}
use Rattle.bds_machine.proofs.HeldFits.{IsHeld, holds-Bool, holds-Int, holds-Text}
use Rattle.bds_machine.proofs.LawFits.{OperatorLaw}
use Rattle.bds_machine.proofs.OperandFits.{kept_here, take_any, take_int, take_bool}
use Rattle.bds_machine.proofs.ResultFits.{Fits, gives_fits, finishes_fits}
use Rattle.bds_machine.proofs.TypesFits.{rolled, bind_ok, provided-ok, any-ok, taken-ok, giving-ok, swapped-ok, item-ok}

at_most : (n m : ℕ) → nat_lt m n ≡ false → n ≤ m
at_most n m e = grind (arith, common_steps)

-- a short text is held, and a longer one is a fault
pub short_text_held : (t : List ℕ) → IsHeld ty.Text (outcome op_fault (short_text t))
short_text_held t = by_test (nat_lt MAX_TEXT (length t)) refl
  where
    by_test : (b : Bool) → nat_lt MAX_TEXT (length t) ≡ b → IsHeld ty.Text (outcome op_fault (if b then Err (TooLong (held (length t))) else Ok (value.Text t)))
    by_test true e = tt
    by_test false e = holds-Text t (at_most (length t) MAX_TEXT e)

-- a type whose values are compared
abbrev pub IsPlain : Ty → Type 0
IsPlain t = (t ≡ ty.Bool) ⊎ ((t ≡ ty.Int) ⊎ (t ≡ ty.Text))

-- a type whose values have an order
abbrev pub IsOrdered : Ty → Type 0
IsOrdered t = (t ≡ ty.Int) ⊎ (t ≡ ty.Text)

pub plain-is : (t : Ty) → is_plain t ≡ true → IsPlain t
plain-is t h = from (out-Ty t) refl h
  where
    from : (y : Ty-F Ty) → out-Ty t ≡ y → is_plain_at y ≡ true → IsPlain t
    from Ty-F.Bool e h = inl (rolled t Ty-F.Bool e ∙ ty.rolls-Bool)
    from Ty-F.Int e h = inr (inl (rolled t Ty-F.Int e ∙ ty.rolls-Int))
    from Ty-F.Text e h = inr (inr (rolled t Ty-F.Text e ∙ ty.rolls-Text))
    from (Ty-F.List x) e h = absurd (cc)
    from (Ty-F.Map x) e h = absurd (cc)
    from Ty-F.Void e h = absurd (cc)

pub ordered-is : (t : Ty) → is_ordered t ≡ true → IsOrdered t
ordered-is t h = from (out-Ty t) refl h
  where
    from : (y : Ty-F Ty) → out-Ty t ≡ y → is_ordered_at y ≡ true → IsOrdered t
    from Ty-F.Int e h = inl (rolled t Ty-F.Int e ∙ ty.rolls-Int)
    from Ty-F.Text e h = inr (rolled t Ty-F.Text e ∙ ty.rolls-Text)
    from Ty-F.Bool e h = absurd (cc)
    from (Ty-F.List x) e h = absurd (cc)
    from (Ty-F.Map x) e h = absurd (cc)
    from Ty-F.Void e h = absurd (cc)

module _ (f : Function) (next : List Ty) (c : Call) (below : Stack) where
  module _ (law : OperatorLaw) where
    operated_fits : (op : Op) (a b : Ty) (shape rest : List Ty) → shape ≡ b ∷ a ∷ rest → next ≡ given (result_type op a) ++ rest → Takes op a b → IsCall f shape c → Fits f next c below (operated op (c ∷ below))
    operated_fits op a b shape rest e n takes call =
        take_any (Fits f next c below) f c below b (a ∷ rest) c (λ right. popped right.1 >>= λ left. finishes (applied op left.0 right.0) left.1) (kept_here f shape (b ∷ a ∷ rest) c e call)
        (λ right d hr kept. take_any (Fits f next c below) f c below a rest d (λ left. finishes (applied op left.0 right) left.1) kept
        (λ left d hl kept. finishes_fits f next c below rest (result_type op a) (applied op left right) d n (law op left right a b hl hr takes) kept))

    -- an operator on two operands of one type
    pub pair_fits : (op : Op) (t : Ty) (shape : List Ty) → Takes op t t → swapped (t ∷ t ∷ []) (result_type op t) shape ≡ Ok next → IsCall f shape c → Fits f next c below (operated op (c ∷ below))
    pair_fits op t shape takes h call = let r = swapped-ok (t ∷ t ∷ []) (result_type op t) shape next h in operated_fits op t t shape r.0 r.1 r.2 takes call

    pub list_add_fits : (shape : List Ty) → row.item_added shape ≡ Ok next → IsCall f shape c → Fits f next c below (operated ListAdd (c ∷ below))
    list_add_fits shape h call =
        let r = bind_ok (any_taken shape) (λ r. results.◌>>=◌ (taken (ty.List r.0) r.1) (giving (ty.List r.0))) next h in
        let t = r.0.0 in
        let s = bind_ok (taken (ty.List t) r.0.1) (giving (ty.List t)) next r.2 in
        operated_fits ListAdd (ty.List t) t shape s.0 (any-ok shape r.0 r.1 ∙ ap (λ xs. t ∷ xs) (taken-ok (ty.List t) r.0.1 s.0 s.1)) (giving-ok (ty.List t) s.0 next s.2) refl call

    pub list_cat_fits : (shape : List Ty) → row.lists_joined shape ≡ Ok next → IsCall f shape c → Fits f next c below (operated ListCat (c ∷ below))
    list_cat_fits shape h call =
        let r = bind_ok (any_taken shape) (λ r. results.◌>>=◌ (item_of r.0) (λ t. results.◌>>=◌ (taken r.0 r.1) (giving r.0))) next h in
        let l = r.0.0 in
        let i = bind_ok (item_of l) (λ t. results.◌>>=◌ (taken l r.0.1) (giving l)) next r.2 in
        let s = bind_ok (taken l r.0.1) (giving l) next i.2 in
        operated_fits ListCat l l shape s.0 (any-ok shape r.0 r.1 ∙ ap (λ xs. l ∷ xs) (taken-ok l r.0.1 s.0 s.1)) (giving-ok l s.0 next s.2) ((i.0, item-ok l i.0 i.1), refl) call

    pub compared_fits : (op : Op) (test : Ty → Bool) (shape : List Ty) → ((t : Ty) → test t ≡ true → Takes op t t) → ((t : Ty) → result_type op t ≡ ty.Bool) → row.compared test shape ≡ Ok next → IsCall f shape c → Fits f next c below (operated op (c ∷ below))
    compared_fits op test shape takes gives_bool h call =
        let r = bind_ok (any_taken shape) (λ r. results.◌>>=◌ (results.◌>>=◌ (provided (test r.0) r.1) (taken r.0)) (giving ty.Bool)) next h in
        let t = r.0.0 in
        let g = bind_ok (results.◌>>=◌ (provided (test t) r.0.1) (taken t)) (giving ty.Bool) next r.2 in
        let s = bind_ok (provided (test t) r.0.1) (taken t) g.0 g.1 in
        let passes = provided-ok (test t) r.0.1 s.0 s.1 in
        let types : shape ≡ t ∷ t ∷ g.0 = any-ok shape r.0 r.1 ∙ ap (λ xs. t ∷ xs) (passes.1 ∙ taken-ok t s.0 g.0 s.2) in
        operated_fits op t t shape g.0 types (giving-ok ty.Bool g.0 next g.2 ∙ ap (λ u. given u ++ g.0) (sym (gives_bool t))) (takes t passes.0) call

  pub negated_fits : (shape : List Ty) → swapped (ty.Int ∷ []) ty.Int shape ≡ Ok next → IsCall f shape c → Fits f next c below (negated (c ∷ below))
  negated_fits shape h call =
      let r = swapped-ok (ty.Int ∷ []) ty.Int shape next h in
      take_int (Fits f next c below) f c below r.0 c (λ n. gives (value.Int (int_wrap w64 (neg_ℤ n.0))) n.1) (kept_here f shape (ty.Int ∷ r.0) c r.1 call)
      (λ n d kept. gives_fits f next c below r.0 ty.Int (value.Int (int_wrap w64 (neg_ℤ n))) d r.2 (holds-Int (int_wrap w64 (neg_ℤ n))) kept)

  pub inverted_fits : (shape : List Ty) → swapped (ty.Bool ∷ []) ty.Bool shape ≡ Ok next → IsCall f shape c → Fits f next c below (inverted (c ∷ below))
  inverted_fits shape h call =
      let r = swapped-ok (ty.Bool ∷ []) ty.Bool shape next h in
      take_bool (Fits f next c below) f c below r.0 c (λ b. gives (value.Bool (not b.0)) b.1) (kept_here f shape (ty.Bool ∷ r.0) c r.1 call)
      (λ b d kept. gives_fits f next c below r.0 ty.Bool (value.Bool (not b)) d r.2 (holds-Bool (not b)) kept)

  pub shown_fits : (shape : List Ty) (text : Value → List ℕ) → row.shown shape ≡ Ok next → IsCall f shape c → Fits f next c below (shown text (c ∷ below))
  shown_fits shape text h call =
      let r = bind_ok (any_taken shape) (λ r. giving ty.Text r.1) next h in
      take_any (Fits f next c below) f c below r.0.0 r.0.1 c (λ x. finishes (outcome op_fault (short_text (text x.0))) x.1) (kept_here f shape (r.0.0 ∷ r.0.1) c (any-ok shape r.0 r.1) call)
      (λ v d k kept. finishes_fits f next c below r.0.1 ty.Text (outcome op_fault (short_text (text v))) d (giving-ok ty.Text r.0.1 next r.2) (short_text_held (text v)) kept)
