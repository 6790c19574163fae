-- A return hands the result to the call that waits for it.
use Rattle.std.proofs.Common.{◌≡◌, ◌<◌, ◌≤◌, ℕ, List, [], ◌∷◌, ◌++◌, length, reverse, slice_get, Bool, true, false, cond, Option, Some, None, refl, sym, ap, ◌∙◌, subst, arith}
use Rattle.bds_value.specs.declared.TheConstants.{MAX_CALLS}
use Rattle.bds_value.specs.declared.value.Ty.{Ty}
use Rattle.bds_value.specs.declared.value.Value.{Value}
use Rattle.bds_value.specs.Types.{is_void}
use Rattle.bds_value.specs.Options.{◌>>=◌}
use Rattle.bds_code.specs.declared.unit.Function.{Function}
use Rattle.bds_code.specs.declared.unit.Unit.{Unit as CodeUnit}
use Rattle.bds_code.specs.Operands.{given}
use Rattle.bds_code_frames.specs.Stack.{Call, Stack, popped, with_ops, closed}
use Rattle.bds_verify.specs.Threads.{Holds, IsCall, Typed, Waits, AreBelow, AreLive, AreAllShapes, Shapes}
use Rattle.bds_machine.specs.declared.point.Point.TheVariants as point
use Rattle.bds_machine.specs.Calls.{Step, On, Leaves, back, returns}
use Rattle.bds_machine.specs.Weight.{weight}
use Rattle.bds_machine.proofs.Moves.{Newest, Goes, some_calls, no_calls_live}
use Rattle.bds_machine.proofs.Takes.{then_is, pops}

some_same : {A : Type 0} {x y : A} → Some x ≡ Some y → x ≡ y
some_same h = cc

-- what a function of a type hands over
abbrev IsResult : Option Value → Ty → Type 0
IsResult None t = given t ≡ []
IsResult (Some v) t = Holds v t × (given t ≡ t ∷ [])

module _ (u : CodeUnit) (g : List Value) (shapes : Shapes u) (judged : AreAllShapes u shapes) (typed : Typed g u.globals) where
  -- the call that waited, with these operands
  resumed : (callee : ℕ) (w : Call) (rest : Stack) (ops : List Value) → (h : Waits u shapes callee w) → AreBelow u shapes w.function rest
      → Typed ops (reverse (shapes w.function w.place)) → length (w ∷ rest) ≤ MAX_CALLS → AreLive u g (with_ops ops w ∷ rest)
  resumed callee w rest ops h chain is few = record {
    shapes = shapes;
    judged = judged;
    globals_typed = typed;
    calls = record { f = h.f; there = h.there; within = h.within; call = record { slots = h.call.slots; ops = is }; chain = chain };
    few = few;
  }

  pub result_shape : (callee : ℕ) (f : Function) (w : Call) → slice_get u.functions callee ≡ Some f → (h : Waits u shapes callee w) → reverse (shapes w.function w.place) ≡ given f.ret ++ h.rest
  result_shape callee f w there h = let same : h.g ≡ f = some_same (sym h.callee_there ∙ there) in h.result ∙ ap (λ (f : Function). given f.ret ++ h.rest) same

module _ (u : CodeUnit) where
  less_below : (c w : Call) (ops : List Value) (rest : Stack) (t : ℕ) → weight u (with_ops ops w ∷ rest) t < weight u (c ∷ w ∷ rest) t
  unfolding weight
  less_below c w ops rest t = omega arith

  back_well : (g : List Value) (c : Call) (below : Stack) (t : ℕ) → (n : Newest u g c below) → (r : Option Value) → IsResult r n.f.ret → Goes u c below t (back r g below t)
  back_well g c [] t n r h = (Leaves point.Finished g [] t, refl, (λ e. absurd (cc), (refl, no_calls_live u g c [] n)))
  back_well g c (w ∷ rest) t n None h =
      let waits = n.chain.0 in
      let shape = result_shape u g n.shapes n.judged n.globals_typed c.function n.f w n.there waits ∙ ap (λ s. s ++ waits.rest) h in
      let live = resumed u g n.shapes n.judged n.globals_typed c.function w rest w.ops waits n.chain.1 (subst (Typed w.ops) (sym shape) waits.call.ops) (omega (arith, n.few)) in
      (On g (w ∷ rest) t, refl, (live, some_calls w rest, less_below c w w.ops rest t))
  back_well g c (w ∷ rest) t n (Some v) h =
      let waits = n.chain.0 in
      let ops = v ∷ w.ops in
      let shape = result_shape u g n.shapes n.judged n.globals_typed c.function n.f w n.there waits ∙ ap (λ s. s ++ waits.rest) h.1 in
      let live = resumed u g n.shapes n.judged n.globals_typed c.function w rest ops waits n.chain.1 (subst (Typed ops) (sym shape) (h.0, waits.call.ops)) (omega (arith, n.few)) in
      (On g (with_ops ops w ∷ rest) t, refl, (live, some_calls (with_ops ops w) rest, less_below c w ops rest t))

  abbrev hands : List Value → ℕ → Option Value × Stack → Option Step
  hands g t r = closed r.1 >>= λ below. back r.0 g below t

  by_result : (g : List Value) (c : Call) (below : Stack) (t : ℕ) → (n : Newest u g c below) → reverse (n.shapes c.function c.place) ≡ given n.f.ret ++ []
      → (b : Bool) → is_void n.f.ret ≡ b → Goes u c below t (cond b (Some (None, c ∷ below)) (popped (c ∷ below) >>= λ r. Some (Some r.0, r.1)) >>= hands g t)
  by_result g c below t n is true void = back_well g c below t n None (ap (λ b. cond b [] (n.f.ret ∷ [])) void)
  by_result g c below t n is false value =
      let one : given n.f.ret ≡ n.f.ret ∷ [] = ap (λ b. cond b [] (n.f.ret ∷ [])) value in
      let call : IsCall n.f (n.f.ret ∷ []) c = subst (λ s. IsCall n.f s c) (is ∙ ap (λ s. s ++ []) one) n.call in
      let p = pops n.f [] c below n.f.ret call in
      let r = back_well g c below t n (Some p.value) (p.holds, one) in
      let takes = popped (c ∷ below) >>= λ r. Some (Some r.0, r.1) in
      let result : Option (Option Value × Stack) = Some (Some p.value, p.left ∷ below) in
      let taken : takes ≡ result = then_is (popped (c ∷ below)) (p.value, p.left ∷ below) (λ r. Some (Some r.0, r.1)) result p.is (refl {a = result}) in
      (r.0, then_is takes (Some p.value, p.left ∷ below) (hands g t) (Some r.0) taken r.1, r.2)

  -- a return, where the operands are the function's result
  pub returns_well : (g : List Value) (c : Call) (below : Stack) (t : ℕ) → (n : Newest u g c below) → reverse (n.shapes c.function c.place) ≡ given n.f.ret ++ []
      → Goes u c below t (returns n.f.ret g (c ∷ below) t)
  returns_well g c below t n is = by_result g c below t n is (is_void n.f.ret) refl
