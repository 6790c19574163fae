-- A thread that begins is valid.
use Rattle.std.proofs.Common.{◌≡◌, ◌≢◌, ◌<◌, ◌≤◌, ◌&&◌, ℕ, List, [], ◌∷◌, ◌++◌, map, length, reverse, slice_get, nat_eq, nat_le, Bool, true, Option, Some, None, IsSome, refl, sym, ap, ◌∙◌, subst, arith, rules}
use Rattle.std.specs.List.{list_all}
use Rattle.std.proofs.lemmas.Bool.{leb-true}
use Rattle.bds_value.specs.declared.TheConstants.{MAX_COUNT}
use Rattle.bds_value.specs.declared.ids.Status.TheVariants.{Ready}
use Rattle.bds_value.specs.declared.value.Ty.{Ty}
use Rattle.bds_value.specs.declared.value.Value.{Value}
use Rattle.bds_value.specs.Types.{is_void}
use Rattle.bds_value.specs.Value.{default_of}
use Rattle.bds_code.specs.declared.unit.Function.{Function}
use Rattle.bds_code.specs.declared.unit.Unit.{Unit as CodeUnit}
use Rattle.bds_code_frames.specs.declared.thread.Thread.{Thread}
use Rattle.bds_code_frames.specs.Stack.{stack, call_at}
use Rattle.bds_verify.specs.Threads.{Shapes, AreAllShapes, AreLive, HasParts, IsThread, Typed}
use Rattle.bds_verify.specs.Verified.{AreShapes, VerifiedUnit}
use Rattle.bds_verify.specs.Whole.{begins, is_value_ty, are_value_tys}
use Rattle.bds_state_threads.specs.Made.{IsBegun}
use Rattle.bds_state_threads.proofs.Locals.{both, starts_somewhere, locals-typed, defaults-typed, typed-append}

no_parameters : (ts : List Ty) → nat_eq (length ts) 0 ≡ true → ts ≡ []
no_parameters [] h = refl
no_parameters (t ∷ ts) h = absurd (search (rules, h))

module _ (u : CodeUnit) (v : VerifiedUnit u) where
  pub globals-values : list_all is_value_ty u.globals ≡ true
  globals-values = (both (nat_le (length u.globals) MAX_COUNT) _ (both (are_value_tys u.globals) _ (both _ _ v.whole).1).0).1

  pub few-globals : length u.globals ≤ MAX_COUNT
  few-globals = leb-true (length u.globals) MAX_COUNT (both (nat_le (length u.globals) MAX_COUNT) _ (both (are_value_tys u.globals) _ (both _ _ v.whole).1).0).0

  first-begins : begins (slice_get u.functions 0) ≡ true
  first-begins = (both (nat_le (length u.functions) MAX_COUNT) _ (both (are_value_tys u.globals) _ (both _ _ v.whole).1).1).1

  shapes-by : (n : ℕ) (o : Option Function) → slice_get u.functions n ≡ o → ℕ → List Ty
  shapes-by n None e = λ p. []
  shapes-by n (Some f) e = (v.functions n f e).shapes.0

  -- the types of the operands at each place
  pub all-shapes : Shapes u
  all-shapes n = shapes-by n (slice_get u.functions n) refl

  by-shapes : (n : ℕ) (o : Option Function) (e : slice_get u.functions n ≡ o) (f : Function) → o ≡ Some f → AreShapes u f (shapes-by n o e)
  unfolding shapes-by
  by-shapes n None e f h = absurd (cc)
  by-shapes n (Some g) e f h = let same : g ≡ f = cc in subst (λ k. AreShapes u k (shapes-by n (Some g) e)) same (v.functions n g e).shapes.1

  pub are-all : AreAllShapes u all-shapes
  unfolding all-shapes
  are-all n f there = by-shapes n (slice_get u.functions n) refl f there

  -- the first function is there, and takes nothing
  pub first-params : (f : Function) → slice_get u.functions 0 ≡ Some f → Typed [] f.params
  first-params f there =
      let none : f.params ≡ [] = no_parameters f.params (both (nat_eq (length f.params) 0) (is_void f.ret) (subst (λ o. begins o ≡ true) there first-begins)).0 in
      subst (Typed []) (sym none) tt

  pub some_function : (fs : List Function) → fs ≡ u.functions → 0 < length fs
  some_function [] e = absurd (let none : begins (slice_get [] 0) ≡ true = subst (λ fs. begins (slice_get fs 0) ≡ true) (sym e) first-begins in cc)
  some_function (f ∷ fs) e = omega arith

  module _ (function : ℕ) (f : Function) (there : slice_get u.functions function ≡ Some f) where
    begun-live : (args globals : List Value) → Typed args f.params → Typed globals u.globals → AreLive u globals (call_at function (args ++ map default_of f.locals) ∷ [])
    begun-live args globals a g = record {
      shapes = all-shapes;
      judged = are-all;
      globals_typed = g;
      calls = record {
        f = f;
        there = there;
        within = starts_somewhere u f (v.functions function f there).whole;
        call = record {
          slots = typed-append args (map default_of f.locals) f.params f.locals a (locals-typed u f (v.functions function f there).whole);
          ops = subst (λ s. Typed [] (reverse s)) (sym (are-all function f there).start) tt;
        };
        chain = tt;
      };
      few = omega arith;
    }

  pub begun_valid : (parent function : ℕ) (args globals : List Value) (t : Thread) → IsBegun u parent function args globals t
      → ((f : Function) → slice_get u.functions function ≡ Some f → Typed args f.params) → Typed globals u.globals → IsThread u t
  begun_valid parent function args globals t h a g =
      let live = begun-live function h.f h.there args globals (a h.f h.there) g in
      let here : AreLive u t.globals (stack t.frames) = subst (λ x. AreLive u x (stack t.frames)) (sym h.globals) (subst (AreLive u globals) (sym h.frames) live) in
      subst (λ s. HasParts u s t.globals t.frames) (sym h.status)
      (here, λ e. absurd (let none : call_at function (args ++ map default_of h.f.locals) ∷ [] ≡ [] = sym h.frames ∙ ap stack e in cc))
