-- The jumps to the cases of a `switch`: what is set at them stays apart from what is written behind.
use Rattle.std.proofs.Common.{◌≡◌, ◌<◌, ◌≤◌, ◌+◌, ℕ, suc, Option, Some, None, List, [], ◌∷◌, ◌++◌, length, refl, sym, ◌∙◌, ap, arith}
use Rattle.std.specs.Prelude.{⊤}
use Rattle.std.proofs.lemmas.List.{length-set}
use Rattle.bds_value.specs.declared.value.At.{At}
use Rattle.bds_tree.specs.StmtTree.{CaseTrees, CaseTree, no_cases, more_cases, a_case}
use Rattle.bds_tree.specs.Tree.{Tree}
use Rattle.bds_code.specs.declared.instr.Instr.{Instr}
use Rattle.bds_code.specs.declared.instr.Instr.TheVariants.{Jump}
use Rattle.bds_code.specs.declared.unit.Function.{Function}
use Rattle.bds_check_size.specs.Known.{Known}
use Rattle.bds_check_size.specs.StmtSize.{case_size}
use Rattle.bds_gen_expr.specs.Gen.{patched}
use Rattle.bds_gen_expr.specs.Marks.{Mark, does, label, count, written}
use Rattle.bds_gen_expr.proofs.Written.{written-append, length-written, patched-written, patched-act}
use Rattle.bds_gen_stmt.specs.Spots.{Loop, Spot, again_of}
use Rattle.bds_gen_stmt_code.specs.Bodies.{slots_of, spot_of, place_in, with_function, with_body}
use Rattle.bds_gen_stmt_code.specs.GenLoops.{in_new_loop}
use Rattle.bds_gen_stmt_code.specs.GenSwitches.{label_of, jump_to, other_behind, arrived}
use Rattle.bds_gen_stmt_code.specs.Leaps.{loop_to, led, led_out, going_on}
use Rattle.bds_gen_stmt_code.specs.declared.body.Body.{Body}
use Rattle.bds_gen_stmt_code.specs.declared.body.Leap.{Leap}
use Rattle.bds_gen_stmt_code.specs.declared.body.Unfinished.{Unfinished}
use Rattle.bds_gen_stmt_code.proofs.Led.{AreFrom, from-lower, before-higher, led_in, in-patched, led-patched, nowhere, out-length, out-slots, on-from, on-before, on-rising, led-on, out-unset}
use Rattle.bds_gen_stmt_code.proofs.Went.{Went}

abbrev spot-next : Spot → ℕ → Spot
spot-next sp n = record sp { next = n }

-- One jump

abbrev pub set_jump : Option ℕ → ℕ → Function → Function
set_jump None to f = f
set_jump (Some place) to f = patched f place (Jump to)

abbrev pub IsBelow : Option ℕ → ℕ → Type 0
IsBelow None p = ⊤
IsBelow (Some n) p = n < p

pub set-length : (o : Option ℕ) (to : ℕ) (f : Function) → length (set_jump o to f).code ≡ length f.code
set-length None to f = refl
set-length (Some n) to f = length-set f.code n (Jump to)

pub set-slots : (o : Option ℕ) (to : ℕ) (f : Function) → slots_of (set_jump o to f) ≡ slots_of f
set-slots None to f = refl
set-slots (Some n) to f = refl

pub set-written : (o : Option ℕ) (to : ℕ) (f : Function) (ms : List Mark) → IsBelow o (length f.code) → set_jump o to (written f ms) ≡ written (set_jump o to f) ms
set-written None to f ms h = refl
set-written (Some n) to f ms h = patched-written ms f n (Jump to) h

-- it leads here
pub arrived-is : (o : Option ℕ) (f : Function) (p : ℕ) → length f.code ≡ p → arrived o f ≡ written (set_jump o p f) (label [] ∷ [])
arrived-is None f p e = refl
arrived-is (Some n) f p e = ap (λ k. written (patched f n (Jump k)) (label [] ∷ [])) (let z : length f.code + 0 ≡ p = omega (arith, e) in z)

pub went-patched : (ms : Option Loop → List Mark) (fs : List Function) (sp : Spot) (u v : Unfinished) (n : ℕ) (i : Instr) → n < place_in u → Went ms fs sp u v
    → Went ms fs sp (with_function u (patched u.body.function n i)) (with_function v (patched v.body.function n i))
went-patched ms fs sp u v n i h a =
    let long = length-set u.body.function.code n i in
    let far = length-set v.body.function.code n i in
    let apart : AreFrom (suc n) a.new = from-lower a.new (place_in u) (suc n) (omega (arith, h)) a.low in
    record {
      new = a.new;
      leaps = a.leaps;
      low = from-lower a.new (place_in u) (length (patched u.body.function n i).code) (omega (arith, long)) a.low;
      high = before-higher a.new (place_in v) (length (patched v.body.function n i).code) (omega (arith, far)) a.high;
      rising = a.rising;
      unset = led-patched nowhere a.new v.body.function n i apart ∙ ap (λ g. patched g n i) a.unset;
      is = λ o. in-patched o a.new v.body.function n i apart ∙ ap (λ g. patched g n i) (a.is o) ∙ patched-written (ms o) u.body.function n i h;
      spot = a.spot;
      finished = a.finished;
      first = a.first;
    }

pub went-set : (ms : Option Loop → List Mark) (fs : List Function) (sp : Spot) (u v : Unfinished) (o : Option ℕ) (to : ℕ) → IsBelow o (place_in u) → Went ms fs sp u v
    → Went ms fs sp (with_function u (set_jump o to u.body.function)) (with_function v (set_jump o to v.body.function))
went-set ms fs sp u v None to h a = a
went-set ms fs sp u v (Some n) to h a = went-patched ms fs sp u v n (Jump to) h a

-- The jumps of all cases, where the statements of the first stand at a place

abbrev pub set_jumps : CaseTrees → List ℕ → Option ℕ → Known → ℕ → Function → Function
set_jumps no_cases js other k q f = f
set_jumps (more_cases c cs) [] other k q f = f
set_jumps (more_cases c cs) (j ∷ js) other k q f = set_jumps cs js (other_behind (label_of c) other) k (q + case_size c k) (set_jump (jump_to (label_of c) j other) q f)

-- a jump for each case, before a place
abbrev pub AreBelow : CaseTrees → List ℕ → ℕ → Type 0
AreBelow no_cases js p = ⊤
AreBelow (more_cases c cs) [] p = ⊥
AreBelow (more_cases c cs) (j ∷ js) p = (j < p) × AreBelow cs js p

pub to-below : (l : Option Tree) (j p : ℕ) (other : Option ℕ) → j < p → IsBelow other p → IsBelow (jump_to l j other) p
to-below None j p other h k = k
to-below (Some e) j p other h k = h

pub behind-below : (l : Option Tree) (p : ℕ) (other : Option ℕ) → IsBelow other p → IsBelow (other_behind l other) p
behind-below None p other k = tt
behind-below (Some e) p other k = k

pub below-higher : (o : Option ℕ) (p q : ℕ) → p ≤ q → IsBelow o p → IsBelow o q
below-higher None p q le h = tt
below-higher (Some n) p q le h = omega (arith, le, h)

pub are-higher : (cs : CaseTrees) (js : List ℕ) (p q : ℕ) → p ≤ q → AreBelow cs js p → AreBelow cs js q
are-higher no_cases js p q le h = tt
are-higher (more_cases c cs) [] p q le h = absurd h
are-higher (more_cases c cs) (j ∷ js) p q le h = let first = h.0 in (omega (arith, le, first), are-higher cs js p q le h.1)

pub sets-length : (cs : CaseTrees) (js : List ℕ) (other : Option ℕ) (k : Known) (q : ℕ) (f : Function) → length (set_jumps cs js other k q f).code ≡ length f.code
sets-length no_cases js other k q f = refl
sets-length (more_cases c cs) [] other k q f = refl
sets-length (more_cases c cs) (j ∷ js) other k q f =
    sets-length cs js (other_behind (label_of c) other) k (q + case_size c k) (set_jump (jump_to (label_of c) j other) q f) ∙ set-length (jump_to (label_of c) j other) q f

pub sets-slots : (cs : CaseTrees) (js : List ℕ) (other : Option ℕ) (k : Known) (q : ℕ) (f : Function) → slots_of (set_jumps cs js other k q f) ≡ slots_of f
sets-slots no_cases js other k q f = refl
sets-slots (more_cases c cs) [] other k q f = refl
sets-slots (more_cases c cs) (j ∷ js) other k q f =
    sets-slots cs js (other_behind (label_of c) other) k (q + case_size c k) (set_jump (jump_to (label_of c) j other) q f) ∙ set-slots (jump_to (label_of c) j other) q f

pub sets-written : (cs : CaseTrees) (js : List ℕ) (other : Option ℕ) (k : Known) (q : ℕ) (f : Function) (ms : List Mark) → AreBelow cs js (length f.code) → IsBelow other (length f.code)
    → set_jumps cs js other k q (written f ms) ≡ written (set_jumps cs js other k q f) ms
sets-written no_cases js other k q f ms h o = refl
sets-written (more_cases c cs) [] other k q f ms h o = refl
sets-written (more_cases c cs) (j ∷ js) other k q f ms h o =
    let l : Option Tree = label_of c in
    let g : Function = set_jump (jump_to l j other) q f in
    let long : length g.code ≡ length f.code = set-length (jump_to l j other) q f in
    ap (set_jumps cs js (other_behind l other) k (q + case_size c k)) (set-written (jump_to l j other) q f ms (to-below l j (length f.code) other h.0 o))
    ∙ sets-written cs js (other_behind l other) k (q + case_size c k) g ms (are-higher cs js (length f.code) (length g.code) (omega (arith, long)) h.1)
    (below-higher (other_behind l other) (length f.code) (length g.code) (omega (arith, long)) (behind-below l (length f.code) other o))

pub went-sets : (ms : Option Loop → List Mark) (fs : List Function) (sp : Spot) (u v : Unfinished) (cs : CaseTrees) (js : List ℕ) (other : Option ℕ) (k : Known) (q : ℕ) → AreBelow cs js (place_in u) → IsBelow other (place_in u) → Went ms fs sp u v
    → Went ms fs sp (with_function u (set_jumps cs js other k q u.body.function)) (with_function v (set_jumps cs js other k q v.body.function))
went-sets ms fs sp u v no_cases js other k q h o a = a
went-sets ms fs sp u v (more_cases c cs) [] other k q h o a = a
went-sets ms fs sp u v (more_cases c cs) (j ∷ js) other k q h o a =
    let l : Option Tree = label_of c in
    let own : Option ℕ = jump_to l j other in
    let u1 : Unfinished = with_function u (set_jump own q u.body.function) in
    let v1 : Unfinished = with_function v (set_jump own q v.body.function) in
    let long : place_in u1 ≡ place_in u = set-length own q u.body.function in
    went-sets ms fs sp u1 v1 cs js (other_behind l other) k (q + case_size c k) (are-higher cs js (place_in u) (place_in u1) (omega (arith, long)) h.1)
    (below-higher (other_behind l other) (place_in u) (place_in u1) (omega (arith, long)) (behind-below l (place_in u) other o)) (went-set ms fs sp u v own q (to-below l j (place_in u) other h.0 o) a)

-- an instruction among others
pub patched-at : (g : Function) (xs ys : List Mark) (at : At) (j i : Instr) (n : ℕ) → length g.code + count xs ≡ n → patched (written g (xs ++ (does j at ∷ ys))) n i ≡ written g (xs ++ (does i at ∷ ys))
patched-at g xs ys at j i n e =
    let before : Function = written g xs in
    let there : length before.code ≡ n = length-written xs g ∙ e in
    ap (λ f. patched f n i) (written-append xs (does j at ∷ ys) g)
    ∙ at-place before n there
    ∙ sym (written-append xs (does i at ∷ ys) g)
  where
    at-place : (before : Function) (n : ℕ) → length before.code ≡ n → patched (written before (does j at ∷ ys)) n i ≡ written before (does i at ∷ ys)
    at-place before n there =
        let one : Function = written before (does j at ∷ []) in
        let long = length-written (does j at ∷ []) before in
        patched-written ys one n i (omega (arith, long, there)) ∙ ap (λ f. written f ys) (ap (λ k. patched one k i) (sym there) ∙ patched-act before at j i)

-- The jumps that end a `switch` are led, and the others go on
pub went-switch : (ms : Option Loop → List Mark) (fs : List Function) (sp : Spot) (u v : Unfinished) (end : ℕ) → Went ms fs sp (in_new_loop u) v
    → Went (λ o. ms (Some (loop_to (again_of o) end))) fs sp u (with_body v (record v.body { function = led_out end v.body.leaps v.body.function; leaps = u.body.leaps ++ going_on v.body.leaps }))
went-switch ms fs sp u v end a =
    let f : Function = v.body.function in
    let same : led_out end v.body.leaps f ≡ led_out end a.new f = ap (λ js. led_out end js f) a.leaps in
    let long = out-length end v.body.leaps f in
    record {
      new = going_on a.new;
      leaps = ap (λ js. u.body.leaps ++ going_on js) a.leaps;
      low = on-from a.new (place_in u) a.low;
      high = on-before a.new (length (led_out end v.body.leaps f).code) (before-higher a.new (place_in v) (length (led_out end v.body.leaps f).code) (omega (arith, long)) a.high);
      rising = on-rising a.new a.rising;
      unset = ap (led nowhere (going_on a.new)) same ∙ led-on 0 0 end a.new f a.rising ∙ sym (out-unset end a.new f a.rising a.unset) ∙ sym same;
      is = by_loop same;
      spot = spot_out v.body a.spot;
      finished = a.finished;
      first = a.first;
    }
  where
    by_loop : led_out end v.body.leaps v.body.function ≡ led_out end a.new v.body.function → (o : Option Loop) → led_in o (going_on a.new) (led_out end v.body.leaps v.body.function) ≡ written u.body.function (ms (Some (loop_to (again_of o) end)))
    by_loop same None = same ∙ out-unset end a.new v.body.function a.rising a.unset ∙ a.is (Some (loop_to 0 end))
    by_loop same (Some l) = ap (led l (going_on a.new)) same ∙ led-on l.again l.end end a.new v.body.function a.rising ∙ a.is (Some (loop_to l.again end))

    spot_out : (b : Body) → spot_of b ≡ sp → spot_of (record b { function = led_out end b.leaps b.function; leaps = u.body.leaps ++ going_on b.leaps }) ≡ sp
    spot_out b e = ap (spot-next (spot_of b)) (out-slots end b.leaps b.function) ∙ e
