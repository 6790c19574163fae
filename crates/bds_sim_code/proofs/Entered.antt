-- Marks that were written into a function of the unit stand in it, one behind another.
use Rattle.std.proofs.Common.{◌≡◌, ℕ, ◌+◌, List, [], ◌∷◌, ◌++◌, length, length-append, Some, slice_get, refl, sym, ap, ◌∙◌, arith, append_assoc, append-nil}
use Rattle.bds_value.specs.declared.value.At.{At}
use Rattle.bds_code.specs.declared.unit.Function.{Function}
use Rattle.bds_code.specs.declared.unit.Unit.{Unit as CodeUnit}
use Rattle.bds_gen_expr.specs.Marks.{Mark, does, label, slot, put, written}
use Rattle.bds_gen_expr.proofs.Written.{codes, code-is}
use Rattle.bds_sim_terms.specs.steps.Stands.{Source}
use Rattle.bds_sim_code.proofs.Marked.{Has}

-- the lines among marks
abbrev lines_of : List Mark → List At
lines_of [] = []
lines_of (does i at ∷ ms) = at ∷ lines_of ms
lines_of (label s ∷ ms) = lines_of ms
lines_of (slot t ∷ ms) = lines_of ms

lines_are : (ms : List Mark) (f : Function) → (written f ms).lines ≡ f.lines ++ lines_of ms
lines_are [] f = sym (append-nil f.lines)
lines_are (does i at ∷ ms) f = lines_are ms (put f (does i at)) ∙ append_assoc f.lines (at ∷ []) (lines_of ms)
lines_are (label s ∷ ms) f = lines_are ms (put f (label s))
lines_are (slot t ∷ ms) f = lines_are ms (put f (slot t))

middle : {A : Type 0} (xs : List A) (x : A) (ys : List A) → slice_get (xs ++ x ∷ ys) (length xs) ≡ Some x
middle [] x ys = refl
middle (y ∷ xs) x ys = middle xs x ys

module _ (o : Source) (u : CodeUnit) (fn : ℕ) (g : Function) (there : slice_get u.functions fn ≡ Some g) where
  -- behind what the function had before
  has_behind : (ms : List Mark) (f : Function) (pc : ℕ) → written f ms ≡ g → length f.code ≡ pc → length f.lines ≡ pc → Has o u fn ms pc
  has_behind [] f pc e c l = tt
  has_behind (does i at ∷ ms) f pc e c l =
      let code = sym (ap (λ (k : Function). k.code) e) ∙ code-is (does i at ∷ ms) f in
      let lines = sym (ap (λ (k : Function). k.lines) e) ∙ lines_are (does i at ∷ ms) f in
      let is = ap (λ k. slice_get k pc) code ∙ ap (λ n. slice_get (f.code ++ i ∷ codes ms) n) (sym c) ∙ middle f.code i (codes ms) in
      let at_line = ap (λ k. slice_get k pc) lines ∙ ap (λ n. slice_get (f.lines ++ at ∷ lines_of ms) n) (sym l) ∙ middle f.lines at (lines_of ms) in
      let more_code = length-append f.code (i ∷ []) in
      let more_lines = length-append f.lines (at ∷ []) in
      (record { is = record { f = g; there = there; code = is }; lines = at_line }, has_behind ms (put f (does i at)) (pc + 1) e (omega (arith, more_code, c)) (omega (arith, more_lines, l)))
  has_behind (label s ∷ ms) f pc e c l = has_behind ms (put f (label s)) pc e c l
  has_behind (slot t ∷ ms) f pc e c l = has_behind ms (put f (slot t)) pc e c l

  -- a function that had nothing before
  pub has_written : (ms : List Mark) (f : Function) → written f ms ≡ g → f.code ≡ [] → f.lines ≡ [] → Has o u fn ms 0
  has_written ms f e c l = has_behind ms f 0 e (ap length c) (ap length l)
