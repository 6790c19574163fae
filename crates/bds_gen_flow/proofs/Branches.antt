-- Code with jumps forward: one of two parts, or one part or none.
use Rattle.std.proofs.Common.{◌≡◌, ◌<◌, ◌+◌, ℕ, suc, List, [], ◌∷◌, ◌++◌, Option, Some, Ok, refl, sym, subst, arith}
use Rattle.bds_value.specs.declared.value.At.{At}
use Rattle.bds_value.specs.declared.value.Ty.{Ty}
use Rattle.bds_value.specs.declared.value.Ty.TheVariants as ty
use Rattle.bds_code.specs.declared.instr.Instr.{Instr}
use Rattle.bds_code.specs.declared.instr.Instr.TheVariants.{Jump, JumpUnless, Tick}
use Rattle.bds_code.specs.declared.unit.Function.{Function}
use Rattle.bds_code.specs.declared.unit.Unit.{Unit as CodeUnit}
use Rattle.bds_code.specs.Row.{row}
use Rattle.bds_verify.specs.Verified.{target}
use Rattle.bds_gen_expr.specs.Marks.{Mark, does, label, count}
use Rattle.bds_gen_flow.specs.Flow.{IsRow, Goes, HasMarks, Runs}
use Rattle.bds_gen_flow.proofs.Flow.{goes_append, has_append, count-append}
use Rattle.bds_gen_flow.proofs.RowEffects.{take_one, bool-solid, given-none}

module _ (u : CodeUnit) (f : Function) (Labels : ℕ → List Ty → Type 0) (Ticks : ℕ → Type 0) where
  pub forward : (i : Instr) (p to : ℕ) (s next : List Ty) → row u f i s ≡ Ok next → target i ≡ Some to → Labels to next → p < to → IsRow u f Labels Ticks p i s next
  forward i p to s next e j l b = record {
    effect = e;
    jump = λ n k. let same : to ≡ n = cc in (subst (λ n. Labels n next) same l, λ le. absurd (omega (arith, same, b, le)));
  }

  pub back : (i : Instr) (p to : ℕ) (s next : List Ty) → row u f i s ≡ Ok next → target i ≡ Some to → Labels to next → Ticks to → IsRow u f Labels Ticks p i s next
  back i p to s next e j l t = record { effect = e; jump = λ n k. let same : to ≡ n = cc in (subst (λ n. Labels n next) same l, λ le. subst Ticks same t) }

  pub unless-row : (to : ℕ) (s : List Ty) → row u f (JumpUnless to) (ty.Bool ∷ s) ≡ Ok s
  unless-row to s = take_one ty.Bool s bool-solid

  pub jump-row : (to : ℕ) (s : List Ty) → row u f (Jump to) s ≡ Ok s
  jump-row to s = given-none s

  abbrev Go : List Mark → ℕ → Option (List Ty) → Option (List Ty) → Type 0
  Go = Goes u f Labels Ticks

  abbrev Is : List Mark → ℕ → Type 0
  Is = HasMarks u f Labels Ticks

  abbrev Run : List Mark → ℕ → ℕ → List Ty → List Ty → Type 0
  Run = Runs u f Labels Ticks

  module _ (at : At) (test a b : List Mark) (p q right r other end : ℕ) (s t : List Ty) where
    abbrev pub chosen : List Mark
    chosen = test ++ (does (JumpUnless other) at ∷ (a ++ (does (Jump end) at ∷ label s ∷ (b ++ (label t ∷ [])))))

    pub runs_choice : suc q ≡ right → suc r ≡ other → Run test p q s (ty.Bool ∷ s) → Run a right r s t → Run b other end s t → Run chosen p end s t
    runs_choice eq er rt ra rb = record {
      place =
          let c1 = count-append u f Labels Ticks test (does (JumpUnless other) at ∷ (a ++ (does (Jump end) at ∷ label s ∷ (b ++ (label t ∷ []))))) in
          let c2 = count-append u f Labels Ticks a (does (Jump end) at ∷ label s ∷ (b ++ (label t ∷ []))) in
          let c3 = count-append u f Labels Ticks b (label t ∷ []) in
          let e1 = rt.place in
          let e2 = ra.place in
          let e3 = rb.place in
          omega (arith, c1, c2, c3, e1, e2, e3, eq, er);
      goes = λ h.
          let h1 = has_append u f Labels Ticks test (does (JumpUnless other) at ∷ (a ++ (does (Jump end) at ∷ label s ∷ (b ++ (label t ∷ []))))) p q rt.place h in
          let at_a : Is (a ++ (does (Jump end) at ∷ label s ∷ (b ++ (label t ∷ [])))) right = subst (Is (a ++ (does (Jump end) at ∷ label s ∷ (b ++ (label t ∷ []))))) eq h1.1.1 in
          let h2 = has_append u f Labels Ticks a (does (Jump end) at ∷ label s ∷ (b ++ (label t ∷ []))) right r ra.place at_a in
          let at_b : Labels other s × Is (b ++ (label t ∷ [])) other = subst (λ n. Labels n s × Is (b ++ (label t ∷ [])) n) er h2.1.1 in
          let h3 = has_append u f Labels Ticks b (label t ∷ []) other end rb.place at_b.1 in
          let e1 = rt.place in
          let e2 = ra.place in
          let e3 = rb.place in
          let before_other : q < other = omega (arith, e2, eq, er) in
          let before_end : r < end = omega (arith, e3, er) in
          let last : Go (b ++ (label t ∷ [])) other (Some s) (Some t) = goes_append u f Labels Ticks b (label t ∷ []) other end (Some s) (Some t) (Some t) rb.place (rb.goes h3.0) (refl, refl) in
          let behind : Go (does (Jump end) at ∷ label s ∷ (b ++ (label t ∷ []))) r (Some t) (Some t) =
          (t, t, refl, forward (Jump end) r end t t (jump-row end t) refl h3.1.0 before_end, (tt, subst (λ n. Go (b ++ (label t ∷ [])) n (Some s) (Some t)) (sym er) last)) in
          let middle : Go (a ++ (does (Jump end) at ∷ label s ∷ (b ++ (label t ∷ [])))) right (Some s) (Some t) =
          goes_append u f Labels Ticks a (does (Jump end) at ∷ label s ∷ (b ++ (label t ∷ []))) right r (Some s) (Some t) (Some t) ra.place (ra.goes h2.0) behind in
          goes_append u f Labels Ticks test (does (JumpUnless other) at ∷ (a ++ (does (Jump end) at ∷ label s ∷ (b ++ (label t ∷ []))))) p q (Some s) (Some (ty.Bool ∷ s)) (Some t) rt.place (rt.goes h1.0) (
            ty.Bool ∷ s,
            s,
            refl,
            forward (JumpUnless other) q other (ty.Bool ∷ s) s (unless-row other s) refl at_b.0 before_other,
            subst (λ n. Go (a ++ (does (Jump end) at ∷ label s ∷ (b ++ (label t ∷ [])))) n (Some s) (Some t)) (sym eq) middle,
          );
    }

  module _ (at : At) (test a : List Mark) (p q right end : ℕ) (s : List Ty) where
    -- one part or none
    pub runs_if : suc q ≡ right → Run test p q s (ty.Bool ∷ s) → Run a right end s s → Run (test ++ (does (JumpUnless end) at ∷ (a ++ (label s ∷ [])))) p end s s
    runs_if eq rt ra = record {
      place =
          let c1 = count-append u f Labels Ticks test (does (JumpUnless end) at ∷ (a ++ (label s ∷ []))) in
          let c2 = count-append u f Labels Ticks a (label s ∷ []) in
          let e1 = rt.place in
          let e2 = ra.place in
          omega (arith, c1, c2, e1, e2, eq);
      goes = λ h.
          let h1 = has_append u f Labels Ticks test (does (JumpUnless end) at ∷ (a ++ (label s ∷ []))) p q rt.place h in
          let at_a : Is (a ++ (label s ∷ [])) right = subst (Is (a ++ (label s ∷ []))) eq h1.1.1 in
          let h2 = has_append u f Labels Ticks a (label s ∷ []) right end ra.place at_a in
          let e2 = ra.place in
          let before_end : q < end = omega (arith, e2, eq) in
          let last : Go (a ++ (label s ∷ [])) right (Some s) (Some s) = goes_append u f Labels Ticks a (label s ∷ []) right end (Some s) (Some s) (Some s) ra.place (ra.goes h2.0) (refl, refl) in
          goes_append u f Labels Ticks test (does (JumpUnless end) at ∷ (a ++ (label s ∷ []))) p q (Some s) (Some (ty.Bool ∷ s)) (Some s) rt.place (rt.goes h1.0)
          (ty.Bool ∷ s, s, refl, forward (JumpUnless end) q end (ty.Bool ∷ s) s (unless-row end s) refl h2.1.0 before_end, subst (λ n. Go (a ++ (label s ∷ [])) n (Some s) (Some s)) (sym eq) last);
    }

    -- again and again
    abbrev pub looped : List Mark
    looped = label s ∷ does Tick at ∷ (test ++ (does (JumpUnless end) at ∷ (a ++ (does (Jump p) at ∷ label s ∷ []))))

    pub runs_loop : (r : ℕ) → suc q ≡ right → suc r ≡ end → Run test (suc p) q s (ty.Bool ∷ s) → (Labels p s → Ticks p → Labels end s → Run a right r s s) → p + count looped ≡ end → suc p + count test ≡ q → right + count a ≡ r → Run looped p end s s
    runs_loop r eq er rt ra place pt pa = record {
      place = place;
      goes = λ h.
          let top : Labels p s = h.0 in
          let ticks : Ticks p = h.1.0 refl in
          let h1 = has_append u f Labels Ticks test (does (JumpUnless end) at ∷ (a ++ (does (Jump p) at ∷ label s ∷ []))) (suc p) q pt h.1.1 in
          let at_a : Is (a ++ (does (Jump p) at ∷ label s ∷ [])) right = subst (Is (a ++ (does (Jump p) at ∷ label s ∷ []))) eq h1.1.1 in
          let h2 = has_append u f Labels Ticks a (does (Jump p) at ∷ label s ∷ []) right r pa at_a in
          let out : Labels end s = subst (λ n. Labels n s) er h2.1.1.0 in
          let before_end : q < end = omega (arith, pa, eq, er) in
          let run = ra top ticks out in
          let last : Go (a ++ (does (Jump p) at ∷ label s ∷ [])) right (Some s) (Some s) =
          goes_append u f Labels Ticks a (does (Jump p) at ∷ label s ∷ []) right r (Some s) (Some s) (Some s) pa (run.goes h2.0)
          (s, s, refl, back (Jump p) r p s s (jump-row p s) refl top ticks, (tt, refl)) in
          let tested : Go (test ++ (does (JumpUnless end) at ∷ (a ++ (does (Jump p) at ∷ label s ∷ [])))) (suc p) (Some s) (Some s) =
          goes_append u f Labels Ticks test (does (JumpUnless end) at ∷ (a ++ (does (Jump p) at ∷ label s ∷ []))) (suc p) q (Some s) (Some (ty.Bool ∷ s)) (Some s) pt (rt.goes h1.0)
          (ty.Bool ∷ s, s, refl, forward (JumpUnless end) q end (ty.Bool ∷ s) s (unless-row end s) refl out before_end, subst (λ n. Go (a ++ (does (Jump p) at ∷ label s ∷ [])) n (Some s) (Some s)) (sym eq) last) in
          (refl, (s, s, refl, record { effect = given-none s; jump = λ to k. absurd (cc) }, tested));
    }

  -- a label between two parts, to which the first may jump
  pub runs_behind_label : (a b : List Mark) (p q r : ℕ) (s : List Ty) → p + count a ≡ q → (Labels q s → Run a p q s s) → Run b q r s s → Run (a ++ (label s ∷ b)) p r s s
  runs_behind_label a b p q r s e ra rb = record {
    place = let c1 = count-append u f Labels Ticks a (label s ∷ b) in let e2 = rb.place in omega (arith, e, c1, e2);
    goes = λ h.
        let hs = has_append u f Labels Ticks a (label s ∷ b) p q e h in
        let first = ra hs.1.0 in
        goes_append u f Labels Ticks a (label s ∷ b) p q (Some s) (Some s) (Some s) e (first.goes hs.0) (refl, rb.goes hs.1.1);
  }
