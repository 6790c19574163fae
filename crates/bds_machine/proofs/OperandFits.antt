-- Taking typed operands, whatever the row goes on with.
use Rattle.std.proofs.Common.{◌≡◌, ◌≤◌, ℕ, ℤ, List, [], ◌∷◌, ◌++◌, length, take, drop, reverse, nat_le, cond, Bool, true, Option, Some, None, refl, sym, ap, ◌∙◌, subst, arith}
use Rattle.std.proofs.lemmas.Grind.{common_steps}
use Rattle.std.proofs.lemmas.List.{reverse-append, reverse-reverse}
use Rattle.bds_value.specs.declared.value.Ty.{Ty}
use Rattle.bds_value.specs.declared.value.Ty.TheVariants as ty
use Rattle.bds_value.specs.declared.value.Value.{Value}
use Rattle.bds_value.specs.declared.value.Value.TheVariants as value
use Rattle.bds_value.proofs.ResultLaws.{of_bool, of_int, of_text}
use Rattle.bds_value.specs.Options.{◌>>=◌}
use Rattle.bds_value.specs.Readers.{as_bool, bool_at, as_int, int_at, as_text, text_at}
use Rattle.bds_code.specs.declared.unit.Function.{Function}
use Rattle.bds_code_frames.specs.Stack.{Stack, Call, popped, popped_of, with_ops}
use Rattle.bds_verify.specs.Threads.{Holds, Typed, IsCall}
use Rattle.bds_machine_values.specs.Operands.{taken_as, taken_all}
use Rattle.bds_machine.proofs.Fits.{Kept}

pub bool_there : (v : Value) → Holds v ty.Bool → (b : Bool) × (as_bool v ≡ Some b) × (v ≡ value.Bool b)
bool_there v h = let r = of_bool v h.type in (r.0, ap as_bool r.1 ∙ ap bool_at (value.outs-Bool r.0), r.1)

pub int_there : (v : Value) → Holds v ty.Int → (n : ℤ) × (as_int v ≡ Some n) × (v ≡ value.Int n)
int_there v h = let r = of_int v h.type in (r.0, ap as_int r.1 ∙ ap int_at (value.outs-Int r.0), r.1)

pub text_there : (v : Value) → Holds v ty.Text → (t : List ℕ) × (as_text v ≡ Some t) × (v ≡ value.Text t)
text_there v h = let r = of_text v h.type in (r.0, ap as_text r.1 ∙ ap text_at (value.outs-Text r.0), r.1)

-- the call itself, whose operands have these types
pub kept_here : (f : Function) (shape types : List Ty) (c : Call) → shape ≡ types → IsCall f shape c → Kept f types c c
kept_here f shape types c e h = record { function = refl; place = refl; call = subst (λ s. IsCall f s c) e h }

-- values of these types, of which the first are split off
pub typed_split : (ts rest : List Ty) (vs : List Value) → Typed vs (ts ++ rest) → Typed (take (length ts) vs) ts × Typed (drop (length ts) vs) rest × (length ts ≤ length vs)
typed_split [] rest vs h = (tt, h, omega arith)
typed_split (t ∷ ts) rest [] h = absurd h
typed_split (t ∷ ts) rest (v ∷ vs) h = let r = typed_split ts rest vs h.1 in ((h.0, r.0), r.1, omega (arith, r.2))

typed_append : (ts us : List Ty) (vs ws : List Value) → Typed vs ts → Typed ws us → Typed (vs ++ ws) (ts ++ us)
typed_append [] us [] ws h k = k
typed_append [] us (v ∷ vs) ws h k = absurd h
typed_append (t ∷ ts) us [] ws h k = absurd h
typed_append (t ∷ ts) us (v ∷ vs) ws h k = (h.0, typed_append ts us vs ws h.1 k)

-- in the order of the types the other way round
pub typed-turned : (ts : List Ty) (vs : List Value) → Typed vs ts → Typed (reverse vs) (reverse ts)
typed-turned [] [] h = tt
typed-turned [] (v ∷ vs) h = absurd h
typed-turned (t ∷ ts) [] h = absurd h
typed-turned (t ∷ ts) (v ∷ vs) h =
    subst (λ us. Typed (reverse (v ∷ vs)) us) (sym (reverse-append (t ∷ []) ts))
    (subst (λ ws. Typed ws (reverse ts ++ t ∷ [])) (sym (reverse-append (v ∷ []) vs)) (typed_append (reverse ts) (t ∷ []) (reverse vs) (v ∷ []) (typed-turned ts vs h.1) (h.0, tt)))

pub typed-reverse : (ts : List Ty) (vs : List Value) → Typed vs (reverse ts) → Typed (reverse vs) ts
typed-reverse ts vs h = subst (Typed (reverse vs)) (reverse-reverse ts) (typed-turned (reverse ts) vs h)

fits_in : (n m : ℕ) → n ≤ m → nat_le n m ≡ true
fits_in n m l = grind (arith, common_steps)

module _ {R : Type 0} (P : Option R → Type 0) (f : Function) (c : Call) (below : Stack) where
  pop_by : (t : Ty) (shape : List Ty) (d : Call) (ops : List Value) (go : Value × Stack → Option R) → Kept f (t ∷ shape) c d → Typed ops (t ∷ shape)
      → ((v : Value) (e : Call) → Holds v t → Kept f shape c e → P (go (v, e ∷ below))) → P (popped_of ops d below >>= go)
  pop_by t shape d [] go k h then = absurd h
  pop_by t shape d (v ∷ vs) go k h then = then v (with_ops vs d) h.0 (record { function = k.function; place = k.place; call = record { slots = k.call.slots; ops = h.1 } })

  pub take_any : (t : Ty) (shape : List Ty) (d : Call) (go : Value × Stack → Option R) → Kept f (t ∷ shape) c d
      → ((v : Value) (e : Call) → Holds v t → Kept f shape c e → P (go (v, e ∷ below))) → P (popped (d ∷ below) >>= go)
  take_any t shape d go k then = pop_by t shape d d.ops go k k.call.ops then

  pub assoc : {A B : Type 0} (o : Option A) (k : A → Option B) (go : B → Option R) → ((o >>= k) >>= go) ≡ (o >>= λ x. k x >>= go)
  assoc None k go = refl
  assoc (Some x) k go = refl

  -- an operand as what it is read as
  pub take_as : {X : Type 0} (reads : Value → Option X) (t : Ty) (shape : List Ty) (d : Call) (go : X × Stack → Option R) → ((v : Value) → Holds v t → (x : X) × (reads v ≡ Some x))
      → Kept f (t ∷ shape) c d → ((x : X) (e : Call) → Kept f shape c e → P (go (x, e ∷ below))) → P (taken_as reads (d ∷ below) >>= go)
  take_as reads t shape d go there k then =
      subst P (sym (assoc (popped (d ∷ below)) (λ r. reads r.0 >>= λ x. Some (x, r.1)) go))
      (take_any t shape d (λ r. (reads r.0 >>= λ x. Some (x, r.1)) >>= go) k
      (λ v e h k. let x = there v h in subst (λ o. P ((o >>= λ x. Some (x, e ∷ below)) >>= go)) (sym x.1) (then x.0 e k)))

  pub take_bool : (shape : List Ty) (d : Call) (go : Bool × Stack → Option R) → Kept f (ty.Bool ∷ shape) c d
      → ((b : Bool) (e : Call) → Kept f shape c e → P (go (b, e ∷ below))) → P (taken_as as_bool (d ∷ below) >>= go)
  take_bool shape d go = take_as as_bool ty.Bool shape d go (λ v h. let r = bool_there v h in (r.0, r.1))

  pub take_int : (shape : List Ty) (d : Call) (go : ℤ × Stack → Option R) → Kept f (ty.Int ∷ shape) c d
      → ((n : ℤ) (e : Call) → Kept f shape c e → P (go (n, e ∷ below))) → P (taken_as as_int (d ∷ below) >>= go)
  take_int shape d go = take_as as_int ty.Int shape d go (λ v h. let r = int_there v h in (r.0, r.1))

  pub take_text : (shape : List Ty) (d : Call) (go : List ℕ × Stack → Option R) → Kept f (ty.Text ∷ shape) c d
      → ((s : List ℕ) (e : Call) → Kept f shape c e → P (go (s, e ∷ below))) → P (taken_as as_text (d ∷ below) >>= go)
  take_text shape d go = take_as as_text ty.Text shape d go (λ v h. let r = text_there v h in (r.0, r.1))

  -- so many operands, in their order
  pub take_all : (ts shape : List Ty) (n : ℕ) (d : Call) (go : List Value × Stack → Option R) → n ≡ length ts → Kept f (ts ++ shape) c d
      → ((vs : List Value) (e : Call) → Typed vs ts → Kept f shape c e → P (go (reverse vs, e ∷ below))) → P (taken_all n (d ∷ below) >>= go)
  take_all ts shape n d go is k then =
      let r = typed_split ts shape d.ops k.call.ops in
      let here : Option (List Value × Stack) = Some (reverse (take (length ts) d.ops), with_ops (drop (length ts) d.ops) d ∷ below) in
      subst (λ m. P (taken_all m (d ∷ below) >>= go)) (sym is)
      (subst (λ b. P (cond b here None >>= go)) (sym (fits_in (length ts) (length d.ops) r.2))
      (then (take (length ts) d.ops) (with_ops (drop (length ts) d.ops) d) r.0 (record { function = k.function; place = k.place; call = record { slots = k.call.slots; ops = r.1 } })))
