-- Slots and operands of a frame.
use Rattle.std.proofs.Common.{◌≡◌, ◌≢◌, ◌<◌, ◌≤◌, ◌+◌, ◌-◌, ℕ, zero, suc, List, [], ◌∷◌, ◌++◌, length, reverse, slice_get, Option, Some, None, Bool, true, false, cond, refl, sym, ap, ◌∙◌, subst, arith}
use Rattle.std.specs.Bool.{Decides}
use Rattle.std.proofs.lemmas.List.{reverse-append, reverse-reverse, length-append}
use Rattle.bds_value.specs.declared.value.Ty.{Ty, out-Ty, roll-Ty, roll-out-Ty}
use Rattle.bds_value.specs.declared.value.Ty.TheOpen.{Ty-F}
use Rattle.bds_value.specs.declared.value.Ty.TheVariants as ty
use Rattle.bds_value.specs.declared.value.Value.{Value}
use Rattle.bds_value.specs.Types.{is_void, is_void_at}
use Rattle.bds_code.specs.declared.instr.Instr.{Instr}
use Rattle.bds_code.specs.declared.instr.Instr.TheVariants as instr
use Rattle.bds_code.specs.declared.unit.Function.{Function}
use Rattle.bds_code.specs.Operands.{given}
use Rattle.bds_verify.specs.Threads.{Typed}
use Rattle.bds_state_threads.specs.Judged.{IsCalledFrom, HasRest}
use Rattle.bds_state_threads.proofs.Locals.{typed-append}
use Rattle.bds_state_threads.proofs.Typing.{typed-length}

typed-split : (vs ws : List Value) (ts us : List Ty) → length vs ≡ length ts → Typed (vs ++ ws) (ts ++ us) → Typed vs ts × Typed ws us
typed-split [] ws [] us e h = (tt, h)
typed-split [] ws (t ∷ ts) us e h = absurd (omega arith)
typed-split (v ∷ vs) ws [] us e h = absurd (omega arith)
typed-split (v ∷ vs) ws (t ∷ ts) us e h = let r = typed-split vs ws ts us (omega arith) h.1 in ((h.0, r.0), r.1)

pub typed-reverse : (vs : List Value) (ts : List Ty) → Typed vs ts → Typed (reverse vs) (reverse ts)
typed-reverse [] [] h = tt
typed-reverse [] (t ∷ ts) h = absurd h
typed-reverse (v ∷ vs) [] h = absurd h
typed-reverse (v ∷ vs) (t ∷ ts) h =
    subst (λ x. Typed x (reverse (t ∷ ts))) (sym (reverse-append (v ∷ []) vs))
    (subst (λ y. Typed (reverse vs ++ v ∷ []) y) (sym (reverse-append (t ∷ []) ts)) (typed-append (reverse vs) (v ∷ []) (reverse ts) (t ∷ []) (typed-reverse vs ts h.1) (h.0, tt)))

pub typed-turned : (vs : List Value) (ts : List Ty) (b : Bool) → Decides b (Typed vs ts) → Decides b (Typed (reverse vs) (reverse ts))
typed-turned vs ts b d = (
  λ sure. typed-reverse vs ts (d.0 sure),
  λ h. d.1 (subst (λ x. Typed x ts) (reverse-reverse vs) (subst (λ y. Typed (reverse (reverse vs)) y) (reverse-reverse ts) (typed-reverse (reverse vs) (reverse ts) h))),
)

module _ (slots first rest : List Value) (ps ls : List Ty) (parts : slots ≡ first ++ rest) (count : length first ≡ length ps) where
  split : Typed slots (ps ++ ls) → Typed first ps × Typed rest ls
  split h = typed-split first rest ps ls count (subst (λ x. Typed x (ps ++ ls)) parts h)

  pub slots-first : (b : Bool) → Decides b (Typed first ps) → b ≡ false → Decides false (Typed slots (ps ++ ls))
  slots-first b d never = (λ e. absurd (cc), λ h. absurd (let sure = d.1 (split h).0 in let wrong : true ≡ false = sym sure ∙ never in cc))

  pub slots-both : (a b : Bool) → Decides a (Typed first ps) → a ≡ true → Decides b (Typed rest ls) → Decides b (Typed slots (ps ++ ls))
  slots-both a b d sure k = (
    λ e. subst (λ x. Typed x (ps ++ ls)) (sym parts) (typed-append first rest ps ls (d.0 sure) (k.0 e)),
    λ h. k.1 (split h).1,
  )

pub slots-few : (slots : List Value) (ps ls : List Ty) → length slots < length ps → Decides false (Typed slots (ps ++ ls))
slots-few slots ps ls l = (λ e. absurd (cc), λ h. absurd (let e = typed-length slots (ps ++ ls) h in omega (arith, e, length-append ps ls)))

no-place : (f : Function) (place callee : ℕ) → place ≡ 0 → IsCalledFrom f place callee → ⊥
no-place f place callee e h = let b = h.behind in omega (arith, b)

pub called-nowhere : (f : Function) (place callee : ℕ) → place ≡ 0 → Decides false (IsCalledFrom f place callee)
called-nowhere f place callee e = (λ x. absurd (cc), λ h. absurd (no-place f place callee e h))

module _ (f : Function) (place callee : ℕ) (o : Option Instr) (is : slice_get f.code (place - 1) ≡ o) where
  there : IsCalledFrom f place callee → o ≡ Some (instr.Call callee)
  there h =
      let at : place - 1 ≡ h.at = (let b = h.behind in omega (arith, b)) in
      sym is ∙ ap (slice_get f.code) at ∙ h.calls

  pub called-by : (called : ℕ) (b : Bool) → place ≢ 0 → o ≡ Some (instr.Call called) → Decides b (called ≡ callee) → Decides b (IsCalledFrom f place callee)
  called-by called b some e d = (
    λ sure. record { at = place - 1; behind = omega arith; calls = is ∙ e ∙ ap (λ n. Some (instr.Call n)) (d.0 sure) },
    λ h. d.1 (let s : Some (instr.Call called) ≡ Some (instr.Call callee) = sym e ∙ there h in cc),
  )

  pub called-not : (o ≡ Some (instr.Call callee) → ⊥) → Decides false (IsCalledFrom f place callee)
  called-not never = (λ x. absurd (cc), λ h. absurd (never (there h)))

given-Void : given ty.Void ≡ []
given-Void = ap (λ b. cond b [] (ty.Void ∷ [])) (ap is_void_at ty.outs-Void)

void_is : (y : Ty-F Ty) → is_void_at y ≡ true → y ≡ Ty-F.Void
void_is Ty-F.Void h = refl
void_is Ty-F.Bool h = absurd (cc)
void_is Ty-F.Int h = absurd (cc)
void_is Ty-F.Text h = absurd (cc)
void_is (Ty-F.List t) h = absurd (cc)
void_is (Ty-F.Map t) h = absurd (cc)

-- a type of values is given as one operand
pub given-other : (t : Ty) → t ≢ ty.Void → given t ≡ t ∷ []
given-other t never = from (is_void t) refl
  where
    from : (b : Bool) → is_void t ≡ b → cond b [] (t ∷ []) ≡ t ∷ []
    from false e = refl
    from true e = absurd (never (sym (roll-out-Ty t) ∙ ap roll-Ty (void_is (out-Ty t) e) ∙ ty.rolls-Void))

pub rest-void : (os : List Value) (shape : List Ty) (ret : Ty) (b : Bool) → ret ≡ ty.Void → Decides b (Typed os shape) → Decides b (HasRest os shape ret)
rest-void os shape ret b e d =
    let turned = typed-turned os shape b d in
    let none : given ret ≡ [] = ap given e ∙ given-Void in (
      λ sure. record { rest = reverse shape; result = sym (ap (λ g. g ++ reverse shape) none); typed = turned.0 sure },
      λ h. turned.1 (subst (Typed (reverse os)) (sym (h.result ∙ ap (λ g. g ++ h.rest) none)) h.typed),
    )

module _ (os : List Value) (shape front : List Ty) (last ret : Ty) (value : given ret ≡ ret ∷ []) (ends : shape ≡ front ++ last ∷ []) where
  turned-shape : reverse shape ≡ last ∷ reverse front
  turned-shape = ap reverse ends ∙ reverse-append front (last ∷ [])

  parts-of : HasRest os shape ret → (last ≡ ret) × Typed (reverse os) (reverse front)
  parts-of h =
      let e : last ∷ reverse front ≡ ret ∷ h.rest = sym turned-shape ∙ h.result ∙ ap (λ g. g ++ h.rest) value in
      let same : reverse front ≡ h.rest = cc in
      (cc, subst (Typed (reverse os)) (sym same) h.typed)

  pub rest-other : (b : Bool) → Decides b (last ≡ ret) → b ≡ false → Decides false (HasRest os shape ret)
  rest-other b d never = (λ e. absurd (cc), λ h. absurd (let sure = d.1 (parts-of h).0 in let wrong : true ≡ false = sym sure ∙ never in cc))

  pub rest-front : (a b : Bool) → Decides a (last ≡ ret) → a ≡ true → Decides b (Typed os front) → Decides b (HasRest os shape ret)
  rest-front a b d sure k =
      let turned = typed-turned os front b k in (
        λ e. record { rest = reverse front; result = turned-shape ∙ ap (λ t. t ∷ reverse front) (d.0 sure) ∙ sym (ap (λ g. g ++ reverse front) value); typed = turned.0 e },
        λ h. turned.1 (parts-of h).1,
      )

pub rest-none : (os : List Value) (shape : List Ty) (ret : Ty) → given ret ≡ ret ∷ [] → length shape ≡ 0 → Decides false (HasRest os shape ret)
rest-none os [] ret value e = (λ x. absurd (cc), λ h. absurd (let r : [] ≡ ret ∷ h.rest = h.result ∙ ap (λ g. g ++ h.rest) value in cc))
rest-none os (t ∷ ts) ret value e = absurd (omega arith)
