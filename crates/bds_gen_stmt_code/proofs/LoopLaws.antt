-- How a loop ends, whatever its head and its body are.
use Rattle.std.proofs.Common.{◌≡◌, ◌+◌, ℕ, Option, Some, List, [], ◌∷◌, ◌++◌, length, length-append, refl, sym, ◌∙◌, ap, ap₂, subst, arith, append_assoc}
use Rattle.bds_value.specs.declared.value.At.{At}
use Rattle.bds_code.specs.declared.instr.Instr.{Instr}
use Rattle.bds_code.specs.declared.instr.Instr.TheVariants.{Jump, JumpUnless}
use Rattle.bds_code.specs.declared.unit.Function.{Function}
use Rattle.bds_gen_expr.specs.Gen.{act, patched}
use Rattle.bds_gen_expr.specs.Marks.{Mark, does, label, one, put, written}
use Rattle.bds_gen_stmt.specs.Spots.{Loop, Spot}
use Rattle.bds_gen_stmt_code.specs.Bodies.{spot_of, place_in, with_function, with_body}
use Rattle.bds_gen_stmt_code.specs.GenLoops.{in_new_loop, loop_closed}
use Rattle.bds_gen_stmt_code.specs.Leaps.{loop_to, led}
use Rattle.bds_gen_stmt_code.specs.declared.body.Body.{Body}
use Rattle.bds_gen_stmt_code.specs.declared.body.Leap.{Leap}
use Rattle.bds_gen_stmt_code.specs.declared.body.Unfinished.{Unfinished}
use Rattle.bds_gen_stmt_code.proofs.Led.{AreBefore, led-length, led-slots, led-written}
use Rattle.bds_gen_stmt_code.proofs.Then.{then_is}
use Rattle.bds_gen_stmt_code.proofs.Went.{Went, went-as, went-behind, went-body, went-function, went-turned, went-loop}

abbrev spot-next : Spot → ℕ → Spot
spot-next sp n = record sp { next = n }

led-spot : (l : Loop) (js ks : List Leap) (b : Body) (at : At) (i : Instr) (sp : Spot) → spot_of b ≡ sp → spot_of (record b { function = act (led l js b.function) at i; leaps = ks }) ≡ sp
led-spot l js ks b at i sp e = ap (λ n. spot-next (spot_of b) n) (led-slots l js b.function) ∙ e

-- behind its test stand the body, what follows that, and the jump to the top
pub loop-went : (ms : Option Loop → List Mark) (ns : List Mark) (fs : List Function) (s2 s3 : Spot) (u way : Unfinished) (b : Body) (at : At) (top again test end : ℕ)
    → Went ms fs s2 (in_new_loop (with_function u (act u.body.function at (JumpUnless 0)))) way
    → b.function ≡ written way.body.function ns → b.leaps ≡ way.body.leaps → spot_of b ≡ s3 → test ≡ place_in u → length b.function.code + 1 ≡ end
    → Went (λ o. does (JumpUnless end) at ∷ (ms (Some (loop_to again end)) ++ (ns ++ (does (Jump top) at ∷ label [] ∷ [])))) fs s3 u (with_body way (loop_closed b at top again test u.body.leaps))
loop-went ms ns fs s2 s3 u way b at top again test end a e1 e2 e3 e4 e5 =
    let far : ℕ = length b.function.code + 1 in
    let l : Loop = loop_to again far in
    let t : Unfinished = with_function u (act u.body.function at (JumpUnless 0)) in
    let v2 : Unfinished = with_body way (record way.body { function = led l way.body.leaps way.body.function; leaps = u.body.leaps }) in
    let w2 = went-loop ms fs s2 t way l a in
    let high : AreBefore (place_in way) way.body.leaps = subst (AreBefore (place_in way)) (sym a.leaps) a.high in
    let x : Function = led l b.leaps b.function in
    let first : x ≡ written v2.body.function ns = ap₂ (λ js f. led l js f) e2 e1 ∙ led-written l way.body.leaps way.body.function ns high in
    let b3 : Body = record b { function = act x at (Jump top); leaps = u.body.leaps } in
    let v3 : Unfinished = with_body v2 b3 in
    let w3 = went-body v2 b3 (ns ++ one at (Jump top)) s3 (then_is v2.body.function x (act x at (Jump top)) ns (one at (Jump top)) first refl) refl (led-spot l b.leaps u.body.leaps b at (Jump top) s3 e3) in
    let w23 = went-behind (λ o. ms (Some l)) (λ o. ns ++ one at (Jump top)) fs s2 s3 t v2 v3 w2 w3 in
    let i : Instr = JumpUnless (length v3.body.function.code + 0) in
    let w4 = went-turned (λ o. ms (Some l) ++ (ns ++ one at (Jump top))) fs s3 u v3 at (JumpUnless 0) i test e4 w23 in
    let v4 : Unfinished = with_function v3 (patched v3.body.function test i) in
    let w5 = went-function v4 (put v4.body.function (label [])) (label [] ∷ []) s3 refl refl w4.spot in
    let v5 : Unfinished = with_function v4 (put v4.body.function (label [])) in
    let w = went-behind (λ o. does i at ∷ (ms (Some l) ++ (ns ++ one at (Jump top)))) (λ o. label [] ∷ []) fs s3 s3 u v4 v5 w4 w5 in
    let long = length-append x.code (Jump top ∷ []) in
    let same = led-length l b.leaps b.function in
    let there : length v3.body.function.code + 0 ≡ far = omega (arith, long, same) in
    let tail : List Mark = does (Jump top) at ∷ label [] ∷ [] in
    let front : ms (Some l) ++ ((ns ++ one at (Jump top)) ++ (label [] ∷ [])) ≡ ms (Some l) ++ (ns ++ tail) =
    ap (λ xs. ms (Some l) ++ xs) (append_assoc ns (one at (Jump top)) (label [] ∷ [])) in
    went-as (λ o. does i at ∷ ((ms (Some l) ++ (ns ++ one at (Jump top))) ++ (label [] ∷ []))) (λ o. does (JumpUnless end) at ∷ (ms (Some (loop_to again end)) ++ (ns ++ tail))) fs fs s3 s3 u v5
    (λ o. ap (λ k. does (JumpUnless k) at ∷ ((ms (Some l) ++ (ns ++ one at (Jump top))) ++ (label [] ∷ []))) there
    ∙ ap (λ xs. does (JumpUnless far) at ∷ xs) (append_assoc (ms (Some l)) (ns ++ one at (Jump top)) (label [] ∷ []) ∙ front)
    ∙ ap (λ k. does (JumpUnless k) at ∷ (ms (Some (loop_to again k)) ++ (ns ++ tail))) e5)
    refl refl w
