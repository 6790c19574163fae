-- The line of the instruction behind which a thread stands, and the answer that it awaits.
use Rattle.std.proofs.Common.{◌≡◌, ◌+◌, ◌-◌, ◌↔◌, ℕ, slice_get, Option, Some, None, IsSome, true, false, refl, sym, ap, ◌∙◌, subst, arith}
use Rattle.std.proofs.lemmas.Option.{slice_get_within}
use Rattle.bds_value.specs.declared.value.Ty.{Ty}
use Rattle.bds_value.specs.declared.value.Ty.TheVariants as ty
use Rattle.bds_value.specs.declared.value.Value.{Value}
use Rattle.bds_value.specs.Types.{is_void, is_void_at}
use Rattle.bds_code.specs.declared.unit.Function.{Function}
use Rattle.bds_code.specs.declared.unit.Unit.{Unit as CodeUnit}
use Rattle.bds_code_frames.specs.declared.thread.Thread.{Thread}
use Rattle.bds_code_frames.specs.Stack.{stack, place_of}
use Rattle.bds_verify.specs.Verified.{VerifiedUnit}
use Rattle.bds_machine.specs.Answers.{AwaitsAnswer, IsAnswer}
use Rattle.bds_machine.proofs.TypesFits.{value-not_void}
use Rattle.bds_machine.proofs.Wholes.{line-there}

is_some : {X : Type 0} (o : Option X) (x : X) → o ≡ Some x → IsSome o
is_some o x e = subst IsSome (sym e) refl

pairs : (a b : ℕ × ℕ) → Some a ≡ Some b → a ≡ b
pairs a b e = cc

same_thing : {X : Type 0} (a b : X) → Some a ≡ Some b → a ≡ b
same_thing a b e = cc

-- each instruction of a verified unit has a line
pub line_there : (u : CodeUnit) (t : Thread) (type : Ty) → AwaitsAnswer u t type → VerifiedUnit u → (here : ℕ × ℕ) → place_of (stack t.frames) ≡ Some here
    → (f : Function) → slice_get u.functions here.0 ≡ Some f → IsSome (slice_get f.lines (here.1 - 1))
line_there u t type awaits v here stands f there =
    let same : (awaits.function, awaits.at + 1) ≡ here = pairs (awaits.function, awaits.at + 1) here (sym awaits.stands ∙ stands) in
    let number : awaits.function ≡ here.0 = ap (λ (p : ℕ × ℕ). p.0) same in
    let place : awaits.at + 1 ≡ here.1 = ap (λ (p : ℕ × ℕ). p.1) same in
    let at : awaits.at ≡ here.1 - 1 = omega (arith, place) in
    let function : awaits.f ≡ f = same_thing awaits.f f (sym awaits.there ∙ ap (slice_get u.functions) number ∙ there) in
    let code : slice_get f.code (here.1 - 1) ≡ Some awaits.instruction = subst (λ n. slice_get f.code n ≡ Some awaits.instruction) at (subst (λ (g : Function). slice_get g.code awaits.at ≡ Some awaits.instruction) function awaits.code) in
    let l = line-there u f (here.1 - 1) (v.functions here.0 f there).whole (slice_get_within f.code (here.1 - 1) awaits.instruction code) in
    is_some (slice_get f.lines (here.1 - 1)) l.0 l.1

no_value : is_void ty.Void ≡ true
no_value = ap is_void_at ty.outs-Void

pub counted : (value : Option Value) (type : Ty) → IsAnswer value type → (value ≡ None) ↔ (type ≡ ty.Void)
counted None type h = (λ e. h, λ e. refl)
counted (Some v) type h = (
  λ e. absurd (cc),
  λ e. absurd (let no : false ≡ true = sym (value-not_void type h.nests) ∙ ap is_void e ∙ no_value in cc),
)
