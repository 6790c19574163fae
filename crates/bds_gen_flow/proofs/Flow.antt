-- Code through which operands go, one part behind the other.
use Rattle.std.proofs.Common.{◌≡◌, ◌+◌, ℕ, suc, List, [], ◌∷◌, ◌++◌, Option, Some, None, Ok, true, refl, sym, ap, subst, arith}
use Rattle.bds_value.specs.declared.value.At.{At}
use Rattle.bds_value.specs.declared.value.Ty.{Ty}
use Rattle.bds_code.specs.declared.instr.Instr.{Instr}
use Rattle.bds_code.specs.declared.unit.Function.{Function}
use Rattle.bds_code.specs.declared.unit.Unit.{Unit as CodeUnit}
use Rattle.bds_code.specs.Row.{row}
use Rattle.bds_verify.specs.Verified.{goes_on, target}
use Rattle.bds_gen_flow.specs.Flow.{kept, Goes, HasMarks, Runs}
use Rattle.bds_gen_expr.specs.Marks.{Mark, does, label, slot, count, one}

-- `Labels` are the labels of the function, each with its list, and `Ticks` its places where a tick is counted
module _ (u : CodeUnit) (f : Function) (Labels : ℕ → List Ty → Type 0) (Ticks : ℕ → Type 0) where
  abbrev Go : List Mark → ℕ → Option (List Ty) → Option (List Ty) → Type 0
  Go = Goes u f Labels Ticks

  abbrev Is : List Mark → ℕ → Type 0
  Is = HasMarks u f Labels Ticks

  abbrev Run : List Mark → ℕ → ℕ → List Ty → List Ty → Type 0
  Run = Runs u f Labels Ticks

  pub goes_append : (ms ns : List Mark) (p q : ℕ) (come mid end : Option (List Ty)) → p + count ms ≡ q → Go ms p come mid → Go ns q mid end → Go (ms ++ ns) p come end
  goes_append [] ns p q come mid end e g h =
      let same : q ≡ p = omega (arith, e) in
      subst (λ c. Go ns p c end) (sym g) (subst (λ n. Go ns n mid end) same h)
  goes_append (does i at ∷ ms) ns p q come mid end e g h = (g.0, g.1, g.2, g.3, goes_append ms ns (suc p) q (kept (goes_on i) g.1) mid end (omega (arith, e)) g.4 h)
  goes_append (label s ∷ ms) ns p q come mid end e g h = (g.0, goes_append ms ns p q (Some s) mid end e g.1 h)
  goes_append (slot t ∷ ms) ns p q come mid end e g h = goes_append ms ns p q come mid end e g h

  pub has_append : (ms ns : List Mark) (p q : ℕ) → p + count ms ≡ q → Is (ms ++ ns) p → Is ms p × Is ns q
  has_append [] ns p q e h = let same : p ≡ q = omega (arith, e) in (tt, subst (Is ns) same h)
  has_append (does i at ∷ ms) ns p q e h = let r : Is ms (suc p) × Is ns q = has_append ms ns (suc p) q (omega (arith, e)) h.1 in ((h.0, r.0), r.1)
  has_append (label s ∷ ms) ns p q e h = let r : Is ms p × Is ns q = has_append ms ns p q e h.1 in ((h.0, r.0), r.1)
  has_append (slot t ∷ ms) ns p q e h = has_append ms ns p q e h

  pub runs_none : (p : ℕ) (s : List Ty) → Run [] p p s s
  runs_none p s = record { place = omega arith; goes = λ h. refl }

  pub count-append : (ms ns : List Mark) → count (ms ++ ns) ≡ count ms + count ns
  count-append [] ns = omega arith
  count-append (does i at ∷ ms) ns = let e = count-append ms ns in omega (arith, e)
  count-append (label s ∷ ms) ns = count-append ms ns
  count-append (slot t ∷ ms) ns = count-append ms ns

  pub runs_then : (ms ns : List Mark) (p q r : ℕ) (s t w : List Ty) → Run ms p q s t → Run ns q r t w → Run (ms ++ ns) p r s w
  runs_then ms ns p q r s t w a b = record {
    place = let e = count-append ms ns in let f = a.place in let g = b.place in omega (arith, e, f, g);
    goes = λ h. let both : Is ms p × Is ns q = has_append ms ns p q a.place h in goes_append ms ns p q (Some s) (Some t) (Some w) a.place (a.goes both.0) (b.goes both.1);
  }

  pub runs_to : (ms : List Mark) (p q r : ℕ) (s t : List Ty) → q ≡ r → Run ms p q s t → Run ms p r s t
  runs_to ms p q r s t e a = subst (λ n. Run ms p n s t) e a

  -- one instruction that doesn't jump and goes on
  pub runs_does : (i : Instr) (at : At) (ms : List Mark) (p r : ℕ) (s next t : List Ty) → target i ≡ None → goes_on i ≡ true → row u f i s ≡ Ok next → Run ms (p + 1) r next t → Run (does i at ∷ ms) p r s t
  runs_does i at ms p r s next t j g e a = record {
    place = let f = a.place in omega (arith, f);
    goes = λ h.
        let suc_is : p + 1 ≡ suc p = omega arith in
        let has : Is ms (p + 1) = subst (Is ms) (sym suc_is) h.1 in
        (s, next, refl, record { effect = e; jump = λ to k. absurd (cc) }, subst (λ c. Go ms (suc p) c (Some t)) (ap (λ b. kept b next) (sym g)) (subst (λ n. Go ms n (Some next) (Some t)) suc_is (a.goes has)));
  }

  pub runs_one : (i : Instr) (at : At) (p q : ℕ) (s next : List Ty) → p + 1 ≡ q → target i ≡ None → goes_on i ≡ true → row u f i s ≡ Ok next → Run (one at i) p q s next
  runs_one i at p q s next to j g e = runs_to (one at i) p (p + 1) q s next to (runs_does i at [] p (p + 1) s next next j g e (runs_none (p + 1) next))
