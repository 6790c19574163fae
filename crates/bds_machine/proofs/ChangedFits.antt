-- Each instruction that goes on, where its row accepts the types of the operands, keeps the types of a thread or is a fault.
use Rattle.std.proofs.Common.{◌≡◌, List, ◌∷◌, length, true, Ok, refl}
use Rattle.std.proofs.lemmas.Bool.{leb-true}
use Rattle.bds_value.specs.declared.TheConstants.{MAX_TEXT, MAX_NESTING}
use Rattle.bds_value.specs.declared.value.Op.TheVariants as op
use Rattle.bds_value.specs.declared.value.Ty.{Ty}
use Rattle.bds_value.specs.declared.value.Ty.TheVariants as ty
use Rattle.bds_value.specs.declared.value.Value.{Value}
use Rattle.bds_value.specs.declared.value.Value.TheVariants as value
use Rattle.bds_value.specs.Text.{text_of, piece_of}
use Rattle.bds_value.specs.Types.{is_plain, is_ordered}
use Rattle.bds_code.specs.declared.instr.Instr.{Instr}
use Rattle.bds_code.specs.declared.instr.Instr.TheVariants.{PushBool, PushInt, PushText, PushDefault, Load, Store, LoadGlobal, StoreGlobal, Drop, Add, Sub, Mul, Div, Rem, Neg, Not, Show, Blank, Concat, ListAdd, ListCat, Equal, NotEqual, Less, LessEqual, Greater, GreaterEqual, MakeList, MakeMap, Item, Key, Update, Method}
use Rattle.bds_code.specs.declared.unit.Function.{Function}
use Rattle.bds_code.specs.declared.unit.Unit.{Unit as CodeUnit}
use Rattle.bds_code.specs.Row.{row}
use Rattle.bds_code_frames.specs.Stack.{Call, Stack}
use Rattle.bds_verify.specs.Threads.{IsCall, Typed}
use Rattle.bds_verify.specs.Whole.{is_whole_instr}
use Rattle.bds_machine_values.specs.Worked.{worked, changed, beside}
use Rattle.bds_machine.proofs.Fits.{FitsRow, goes_on}
use Rattle.bds_machine.proofs.HeldFits.{holds-Bool, holds-Int, holds-Text, within}
use Rattle.bds_machine.proofs.LawFits.{OperatorLaw, PartLaw, PutLaw, MethodLaw, ChangeLaw}
use Rattle.bds_machine.proofs.Laws.{operator_law, part_law, put_law, method_law, change_law}
use Rattle.bds_machine.proofs.LiteralFits.{list_made_fits, map_made_fits, list_of-item, map_of-item}
use Rattle.bds_machine.proofs.MethodFits.{method_fits}
use Rattle.bds_machine.proofs.OperatorFits.{pair_fits, list_add_fits, list_cat_fits, compared_fits, negated_fits, inverted_fits, shown_fits, plain-is, ordered-is}
use Rattle.bds_machine.proofs.PartFits.{item_fits, entry_fits}
use Rattle.bds_machine.proofs.ResultFits.{Fits, FitsBoth, beside_fits, row_fits}
use Rattle.bds_machine.proofs.SlotFits.{push_fits, defaulted_fits, load_fits, load_global_fits, store_fits, store_global_fits, drop_fits}
use Rattle.bds_machine.proofs.UpdateFits.{updated_fits}

module _ (operators : OperatorLaw) (parts : PartLaw) (puts : PutLaw) (methods : MethodLaw) (library : ChangeLaw)
    (u : CodeUnit) (f : Function) (shape next : List Ty) (g : List Value) (c : Call) (below : Stack) (globals : Typed g u.globals) (call : IsCall f shape c) where
  -- an instruction that changes no globals
  kept_beside : (i : Instr) → Fits f next c below (worked i g (c ∷ below)) → FitsBoth f next c below u.globals (beside g (worked i g (c ∷ below)))
  kept_beside i h = beside_fits f next c below u.globals g (worked i g (c ∷ below)) globals h

  changed_both : (i : Instr) → is_whole_instr i ≡ true → goes_on i ≡ true → row u f i shape ≡ Ok next → FitsBoth f next c below u.globals (changed i g (c ∷ below))
  changed_both (PushBool b) whole on h = kept_beside (PushBool b) (push_fits f next c below shape ty.Bool (value.Bool b) h (holds-Bool b) call)
  changed_both (PushInt n) whole on h = kept_beside (PushInt n) (push_fits f next c below shape ty.Int (value.Int n) h (holds-Int n) call)
  changed_both (PushText t) whole on h = kept_beside (PushText t) (push_fits f next c below shape ty.Text (value.Text t) h (holds-Text t (leb-true (length t) MAX_TEXT whole)) call)
  changed_both (PushDefault t) whole on h = kept_beside (PushDefault t) (defaulted_fits f next c below shape t h (within t MAX_NESTING whole) call)
  changed_both (Load i) whole on h = kept_beside (Load i) (load_fits f next c below shape i h call)
  changed_both (Store i) whole on h = kept_beside (Store i) (store_fits f next c below shape i h call)
  changed_both (LoadGlobal i) whole on h = kept_beside (LoadGlobal i) (load_global_fits f next c below shape i g u.globals h globals call)
  changed_both (StoreGlobal i) whole on h = store_global_fits f next c below shape i g u.globals h globals call
  changed_both Drop whole on h = kept_beside Drop (drop_fits f next c below shape h call)
  changed_both Add whole on h = kept_beside Add (pair_fits f next c below operators op.Add ty.Int shape (refl, refl) h call)
  changed_both Sub whole on h = kept_beside Sub (pair_fits f next c below operators op.Sub ty.Int shape (refl, refl) h call)
  changed_both Mul whole on h = kept_beside Mul (pair_fits f next c below operators op.Mul ty.Int shape (refl, refl) h call)
  changed_both Div whole on h = kept_beside Div (pair_fits f next c below operators op.Div ty.Int shape (refl, refl) h call)
  changed_both Rem whole on h = kept_beside Rem (pair_fits f next c below operators op.Rem ty.Int shape (refl, refl) h call)
  changed_both Neg whole on h = kept_beside Neg (negated_fits f next c below shape h call)
  changed_both Not whole on h = kept_beside Not (inverted_fits f next c below shape h call)
  changed_both Show whole on h = kept_beside Show (shown_fits f next c below shape text_of h call)
  changed_both Blank whole on h = kept_beside Blank (shown_fits f next c below shape piece_of h call)
  changed_both Concat whole on h = kept_beside Concat (pair_fits f next c below operators op.Concat ty.Text shape (refl, refl) h call)
  changed_both ListAdd whole on h = kept_beside ListAdd (list_add_fits f next c below operators shape h call)
  changed_both ListCat whole on h = kept_beside ListCat (list_cat_fits f next c below operators shape h call)
  changed_both Equal whole on h = kept_beside Equal (compared_fits f next c below operators op.Equal is_plain shape (λ t e. (plain-is t e, refl)) (λ t. refl) h call)
  changed_both NotEqual whole on h = kept_beside NotEqual (compared_fits f next c below operators op.NotEqual is_plain shape (λ t e. (plain-is t e, refl)) (λ t. refl) h call)
  changed_both Less whole on h = kept_beside Less (compared_fits f next c below operators op.Less is_ordered shape (λ t e. (ordered-is t e, refl)) (λ t. refl) h call)
  changed_both LessEqual whole on h = kept_beside LessEqual (compared_fits f next c below operators op.LessEqual is_ordered shape (λ t e. (ordered-is t e, refl)) (λ t. refl) h call)
  changed_both Greater whole on h = kept_beside Greater (compared_fits f next c below operators op.Greater is_ordered shape (λ t e. (ordered-is t e, refl)) (λ t. refl) h call)
  changed_both GreaterEqual whole on h = kept_beside GreaterEqual (compared_fits f next c below operators op.GreaterEqual is_ordered shape (λ t e. (ordered-is t e, refl)) (λ t. refl) h call)
  changed_both (MakeList t n) whole on h = kept_beside (MakeList t n) (list_made_fits f next c below shape t n h (list_of-item t whole) call)
  changed_both (MakeMap t n) whole on h = kept_beside (MakeMap t n) (map_made_fits f next c below shape t n h (map_of-item t whole) call)
  changed_both Item whole on h = kept_beside Item (item_fits parts f next c below shape h call)
  changed_both Key whole on h = kept_beside Key (entry_fits parts f next c below shape h call)
  changed_both (Method m) whole on h = kept_beside (Method m) (method_fits methods f next c below m shape h call)
  changed_both (Update scope slot kinds what) whole on h = updated_fits u f next c below operators parts puts library scope slot kinds what g shape h globals call
  changed_both _ whole on h = absurd (cc)

  fits : (i : Instr) → is_whole_instr i ≡ true → goes_on i ≡ true → row u f i shape ≡ Ok next → FitsRow u f next c below (changed i g (c ∷ below))
  fits i whole on h = row_fits f next c below u (changed i g (c ∷ below)) (changed_both i whole on h)

-- a row that goes on keeps the types
pub changed_fits : (u : CodeUnit) (f : Function) (i : Instr) (shape next : List Ty) (g : List Value) (c : Call) (below : Stack) → is_whole_instr i ≡ true → goes_on i ≡ true
    → row u f i shape ≡ Ok next → IsCall f shape c → Typed g u.globals → FitsRow u f next c below (changed i g (c ∷ below))
changed_fits u f i shape next g c below whole on h call globals = fits operator_law part_law put_law method_law change_law u f shape next g c below globals call i whole on h
