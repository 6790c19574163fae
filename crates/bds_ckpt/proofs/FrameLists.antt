-- The frames of a thread as a list and as a stack.
use Rattle.std.proofs.Common.{◌≡◌, ℕ, List, [], ◌∷◌, ◌++◌, map, reverse, Some, IsSome, refl, sym, ap, ◌∙◌, subst, append_assoc, append-nil}
use Rattle.std.proofs.lemmas.List.{reverse-append}
use Rattle.bds_value.specs.declared.value.Value.{Value}
use Rattle.bds_code_frames.specs.declared.frame.Frame.{Frame}
use Rattle.bds_code_frames.specs.Stack.{Call, Stack, call_of, stack, place_of, with_ops, opened, slot_added, pushed}
use Rattle.bds_code_frames.proofs.Newest.{stack-push}
use Rattle.bds_code_frames.proofs.Stacked.{same_frames}
use Rattle.bds_ckpt.specs.Adding.{begun, more_operands}

-- slots

pub opens : (old new : List Frame) (f p : ℕ) → new ≡ old ++ opened f p ∷ [] → stack new ≡ begun f p [] ∷ stack old
opens old new f p e = ap stack e ∙ stack-push old (opened f p)

pub slot_allowed : (f p : ℕ) (slots : List Value) (s below : Stack) (v : Value) → s ≡ begun f p slots ∷ below → IsSome (slot_added v s)
slot_allowed f p slots s below v e = subst (λ s. IsSome (slot_added v s)) (sym e) refl

pub slot_more : (f p : ℕ) (slots : List Value) (s new below : Stack) (v : Value) → s ≡ begun f p slots ∷ below → slot_added v s ≡ Some new → new ≡ begun f p (slots ++ v ∷ []) ∷ below
slot_more f p slots s new below v e h =
    let a : slot_added v s ≡ Some (begun f p (slots ++ v ∷ []) ∷ below) = ap (slot_added v) e in
    let b : Some new ≡ Some (begun f p (slots ++ v ∷ []) ∷ below) = sym h ∙ a in cc

-- operands

pub no_more : (s : Stack) → s ≡ more_operands [] s
no_more [] = refl
no_more (c ∷ below) = refl

there : (done : List Value) (s : Stack) (v : Value) → IsSome (place_of s) → IsSome (pushed v (more_operands done s))
there done [] v h = absurd (cc)
there done (c ∷ below) v h = refl

pub operand_allowed : (done : List Value) (old s : Stack) (v : Value) → s ≡ more_operands done old → IsSome (place_of old) → IsSome (pushed v s)
operand_allowed done old s v e h = subst (λ s. IsSome (pushed v s)) (sym e) (there done old v h)

pushed_more : (done : List Value) (old : Stack) (v : Value) → IsSome (place_of old) → pushed v (more_operands done old) ≡ Some (more_operands (done ++ v ∷ []) old)
pushed_more done [] v h = absurd (cc)
pushed_more done (c ∷ below) v h = ap (λ (vs : List Value). Some (with_ops (vs ++ c.ops) c ∷ below)) (sym (reverse-append done (v ∷ [])))

pub operand_more : (done : List Value) (old s new : Stack) (v : Value) → s ≡ more_operands done old → IsSome (place_of old) → pushed v s ≡ Some new → new ≡ more_operands (done ++ v ∷ []) old
operand_more done old s new v e h is =
    let a : pushed v s ≡ Some (more_operands (done ++ v ∷ []) old) = ap (pushed v) e ∙ pushed_more done old v h in
    let b : Some new ≡ Some (more_operands (done ++ v ∷ []) old) = sym is ∙ a in cc

-- what is left to be added

pub one_done : (done values rest all : List Value) (v : Value) → values ≡ rest ++ v ∷ [] → done ++ reverse values ≡ all → (done ++ v ∷ []) ++ reverse rest ≡ all
one_done done values rest all v e is =
    append_assoc done (v ∷ []) (reverse rest) ∙ ap (λ l. done ++ l) (sym (reverse-append rest (v ∷ [])) ∙ ap reverse (sym e)) ∙ is

pub all_done : (done values all : List Value) → values ≡ [] → done ++ reverse values ≡ all → done ≡ all
all_done done values all e is = sym (append-nil done) ∙ ap (λ l. done ++ reverse l) (sym e) ∙ is

-- a whole frame

pub added : (old middle new : List Frame) (f : Frame) → stack middle ≡ begun f.function f.place f.slots ∷ stack old → stack new ≡ more_operands f.operands (stack middle) → new ≡ old ++ f ∷ []
added old middle new f begins more =
    let ends : more_operands f.operands (begun f.function f.place f.slots ∷ stack old) ≡ call_of f ∷ stack old =
    ap (λ (vs : List Value). record { function = f.function; place = f.place; slots = f.slots; ops = vs } ∷ stack old) (append-nil (reverse f.operands)) in
    same_frames new (old ++ f ∷ []) (more ∙ ap (more_operands f.operands) begins ∙ ends ∙ sym (stack-push old f))

pub newest_there : (s below : Stack) (c : Call) → s ≡ c ∷ below → IsSome (place_of s)
newest_there s below c e = subst (λ s. IsSome (place_of s)) (sym e) refl
