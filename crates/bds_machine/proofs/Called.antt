-- A call leaves a valid newest call, and the one before it waits.
use Rattle.std.proofs.Common.{◌≡◌, ◌<◌, ◌≤◌, ◌+◌, ◌-◌, ℕ, List, [], ◌∷◌, ◌++◌, map, take, drop, length, reverse, slice_get, nat_eq, nat_lt, nat_le, true, false, cond, Some, refl, sym, ap, ◌∙◌, subst, arith}
use Rattle.std.proofs.lemmas.Grind.{common_steps}
use Rattle.bds_value.specs.declared.TheConstants.{MAX_CALLS}
use Rattle.bds_value.specs.declared.value.Ty.{Ty}
use Rattle.bds_value.specs.declared.value.Value.{Value}
use Rattle.bds_value.specs.Value.{default_of}
use Rattle.bds_value.specs.declared.faults.RunFault.TheVariants.{CallsTooDeep}
use Rattle.bds_value.specs.Options.{◌>>=◌}
use Rattle.bds_code.specs.declared.instr.Instr.TheVariants.{Call as CallTo}
use Rattle.bds_code.specs.declared.unit.Function.{Function}
use Rattle.bds_code.specs.declared.unit.Unit.{Unit as CodeUnit}
use Rattle.bds_code.specs.Operands.{given}
use Rattle.bds_code.specs.Row.{row}
use Rattle.bds_code_frames.specs.Stack.{Call, Stack}
use Rattle.bds_verify.specs.Pass.{is_tick}
use Rattle.bds_verify.specs.Threads.{AreLive, Stands, Typed}
use Rattle.bds_verify.specs.Verified.{IsFine, VerifiedUnit}
use Rattle.bds_state_threads.proofs.Locals.{starts_somewhere, locals-typed, typed-append}
use Rattle.bds_machine.specs.declared.point.Point.TheVariants as point
use Rattle.bds_machine.specs.Calls.{On, Leaves, goes, enters, ticks, calls, stops}
use Rattle.bds_machine.specs.Weight.{ahead, weight}
use Rattle.bds_machine.proofs.Effects.{turned-ok, called-ok}
use Rattle.bds_machine.proofs.Ends.{stops_well}
use Rattle.bds_machine.proofs.Moves.{Newest, Goes, some_calls, some_left, ahead-at, ahead-next, at_most, newest_live}
use Rattle.bds_machine.proofs.Takes.{then_is}
use Rattle.bds_machine.proofs.Typed.{typed-arguments}
use Rattle.bds_machine.proofs.TypesFits.{swapped-ok}
use Rattle.bds_machine.proofs.Wholes.{code_short}

module _ (u : CodeUnit) (g : List Value) (c : Call) (below : Stack) (t : ℕ) (n : Newest u g c below) (k : ℕ) (callee : Function) where
  -- the call that is entered
  abbrev new_call : Call
  new_call = record { function = k; place = 0; slots = reverse (take (length callee.params) c.ops) ++ map default_of callee.locals; ops = [] }

  -- the call that waits
  abbrev old_call : Call
  old_call = record { function = c.function; place = c.place + 1; slots = c.slots; ops = drop (length callee.params) c.ops }

  entered_stack : length callee.params ≤ length c.ops → enters k callee (c.place + 1) (c ∷ below) ≡ Some (new_call ∷ old_call ∷ below)
  entered_stack few = let e : nat_le (length callee.params) (length c.ops) ≡ true = grind (arith, common_steps) in rw e refl

  entered_stands : (rest : List Ty) → VerifiedUnit u → slice_get u.functions k ≡ Some callee → slice_get n.f.code c.place ≡ Some (CallTo k) → Typed c.ops (reverse callee.params ++ rest)
      → c.place + 1 < length n.f.code → reverse (n.shapes c.function (c.place + 1)) ≡ given callee.ret ++ rest → Stands u n.shapes (reverse (n.shapes k 0)) new_call (old_call ∷ below)
  entered_stands rest v there at typed within result =
      let args = typed-arguments c.ops callee.params rest typed in
      let whole = (v.functions k callee there).whole in
      record {
        f = callee;
        there = there;
        within = starts_somewhere u callee whole;
        call = record {
          slots = typed-append _ _ callee.params callee.locals args.0 (locals-typed u callee whole);
          ops = subst (λ s. Typed [] (reverse s)) (sym (n.judged k callee there).start) tt;
        };
        chain = (
          record {
            f = n.f;
            g = callee;
            at = c.place;
            there = n.there;
            callee_there = there;
            behind = refl;
            calls = at;
            within = within;
            rest = rest;
            result = result;
            call = record { slots = n.call.slots; ops = args.1 };
          },
          n.chain,
        );
      }

  entered_lighter : slice_get u.functions k ≡ Some callee → is_tick (slice_get n.f.code c.place) ≡ false → length callee.code ≤ 16777216 → 0 < t
      → weight u (new_call ∷ old_call ∷ below) (t - 1) < weight u (c ∷ below) t
  unfolding weight
  entered_lighter there still short some =
      let a = ahead-at u k 0 callee there in
      let m = at_most (is_tick (slice_get callee.code 0)) (length callee.code) 0 in
      let x : ahead u k 0 ≤ length callee.code + 1 = rw a m in
      let y = ahead-next u c.function c.place n.f n.there n.within still in
      omega arith

module _ (u : CodeUnit) (g : List Value) (c : Call) (below : Stack) (t : ℕ) (n : Newest u g c below) (v : VerifiedUnit u) where
  pub call_row : (k : ℕ) (next : List Ty) → slice_get n.f.code c.place ≡ Some (CallTo k) → IsFine u n.f (n.shapes c.function) c.place (CallTo k) next
      → Goes u c below t (calls u n.f k c.place g (c ∷ below) t)
  call_row k next at fine =
      let shape = reverse (n.shapes c.function c.place) in
      let e = called-ok u k (λ f. f.ret) shape (reverse next) (turned-ok (row u n.f (CallTo k) shape) next fine.effect) in
      let callee = e.0 in
      let r = swapped-ok (reverse callee.params) callee.ret shape (reverse next) e.2 in
      let typed = subst (Typed c.ops) r.1 n.call.ops in
      let falls = fine.falls refl in
      let few = (typed-arguments c.ops callee.params r.0 typed).2 in
      let d = new_call u g c below t n k callee in
      let w = old_call u g c below t n k callee in
      let stands = entered_stands u g c below t n k callee r.0 v e.1 at typed falls.0 (ap reverse falls.1 ∙ r.2) in
      let short = code_short u callee (v.functions k callee e.1).whole in
      let enter = λ (t : ℕ). slice_get u.functions k >>= λ callee. enters k callee (c.place + 1) (c ∷ below) >>= goes g t in
      elim (nat_lt (length (c ∷ below)) MAX_CALLS) as (λ b. nat_lt (length (c ∷ below)) MAX_CALLS ≡ b → Goes u c below t (cond b (ticks g (c ∷ below) t enter) (stops n.f c.place CallsTooDeep t))) [
        | false ↦ (λ deep. stops_well u g c below t n CallsTooDeep)
        | true ↦ (λ room. elim (nat_eq t 0) as (λ b. nat_eq t 0 ≡ b → Goes u c below t (cond b (Some (Leaves point.Spent g (c ∷ below) t)) (enter (t - 1)))) [
          | true ↦ (λ z. (_, refl, (λ h. absurd (cc), (newest_live u g c below n, some_calls c below))))
          | false ↦ (λ z.
              let live : AreLive u g (d ∷ w ∷ below) = record { shapes = n.shapes; judged = n.judged; globals_typed = n.globals_typed; calls = stands; few = grind (arith, common_steps) } in (
                On g (d ∷ w ∷ below) (t - 1),
                then_is (slice_get u.functions k) callee (λ callee. enters k callee (c.place + 1) (c ∷ below) >>= goes g (t - 1)) (Some (On g (d ∷ w ∷ below) (t - 1))) e.1
                    (then_is (enters k callee (c.place + 1) (c ∷ below)) (d ∷ w ∷ below) (goes g (t - 1)) (Some (On g (d ∷ w ∷ below) (t - 1))) (entered_stack u g c below t n k callee few) refl),
                (live, some_calls d (w ∷ below), entered_lighter u g c below t n k callee e.1 (ap is_tick at) short (some_left t z)),
              ))
        ] refl)
      ] refl
