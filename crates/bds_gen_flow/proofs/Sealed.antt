-- A function of marks through which the operands go has one list of operands for each place.
use Rattle.std.proofs.Common.{◌≡◌, ◌≤◌, ◌<◌, ◌+◌, ◌-◌, ◌⊎◌, inl, inr, ℕ, zero, suc, List, [], ◌∷◌, ◌++◌, length, reverse, slice_get, Option, Some, None, IsSome, true, false, Ok, refl, sym, ◌∙◌, ap, subst, arith, add-one}
use Rattle.std.proofs.lemmas.List.{reverse-reverse}
use Rattle.std.proofs.lemmas.Option.{slice_get_within}
use Rattle.std.proofs.lemmas.Grind.{common_steps}
use Rattle.bds_value.specs.declared.value.Ty.{Ty}
use Rattle.bds_code.specs.declared.instr.Instr.{Instr}
use Rattle.bds_code.specs.declared.unit.Function.{Function}
use Rattle.bds_code.specs.declared.unit.Unit.{Unit as CodeUnit}
use Rattle.bds_code.specs.Row.{row}
use Rattle.bds_verify.specs.Verified.{label_at, goes_on, target, turned, IsFine, AreShapes}
use Rattle.bds_gen_expr.specs.Marks.{Mark, does, label, slot, count, put, written}
use Rattle.bds_gen_flow.specs.Flow.{Meets, kept, Goes, HasMarks, Own, OwnTicks, Anything, Anywhere, Passes}
use Rattle.bds_gen_expr.proofs.Written.{codes, code-is, codes-count}
use Rattle.bds_gen_flow.proofs.Labelled.{stays, settled, longer, Open, open-does, open-label, label-there}

some-same : {X : Type 0} (x y : X) → Some x ≡ Some y → x ≡ y
some-same x y e = cc

get-middle : (xs : List Instr) (i : Instr) (ys : List Instr) → slice_get (xs ++ i ∷ ys) (length xs) ≡ Some i
get-middle [] i ys = refl
get-middle (x ∷ xs) i ys = get-middle xs i ys

module _ (u : CodeUnit) (F : Function) where
  -- what marks say of labels is true of the function, where the operands go through them whatever jumps need
  module _ (Any : ℕ → List Ty → Type 0) (Every : ℕ → Type 0) where
    pub has-own : (ms : List Mark) (f : Function) (p : ℕ) (come end : Option (List Ty)) → written f ms ≡ F → length f.code ≡ p → Open f come → Goes u F Any Every ms p come end → HasMarks u F (Own F) (OwnTicks F) ms p
    has-own [] f p come end is e o g = tt
    has-own (does i at ∷ ms) f p come end is e o g =
        let code : F.code ≡ f.code ++ i ∷ codes ms = ap (λ (x : Function). x.code) (sym is) ∙ code-is (does i at ∷ ms) f in
        let there : slice_get F.code p ≡ Some i = ap (λ c. slice_get c p) code ∙ ap (λ n. slice_get (f.code ++ i ∷ codes ms) n) (sym e) ∙ get-middle f.code i (codes ms) in
        let l = longer f i in
        (λ t. there ∙ ap (λ x. Some x) t, has-own ms (put f (does i at)) (suc p) (kept (goes_on i) g.1) end is (omega (arith, l, e)) (open-does f come (kept (goes_on i) g.1) i at o) g.4)
    has-own (label s ∷ ms) f p come end is e o g =
        let here : label_at (put f (label s)).labels (length f.code) ≡ Some (reverse s) = label-there f come s o g.0 in
        let kept_on : label_at F.labels (length f.code) ≡ Some (reverse s) = ap (λ (x : Function). label_at x.labels (length f.code)) (sym is) ∙ stays ms (put f (label s)) (length f.code) (reverse s) here in
        (subst (λ n. Own F n s) e kept_on, has-own ms (put f (label s)) p (Some s) end is e (open-label f come s o g.0) g.1)
    has-own (slot t ∷ ms) f p come end is e o g = has-own ms (put f (slot t)) p come end is e (record { above = o.above; here = o.here; last = o.last }) g

  abbrev Go : List Mark → ℕ → Option (List Ty) → Option (List Ty) → Type 0
  Go = Goes u F (Own F) (OwnTicks F)

  -- the operands before each instruction
  abbrev at_place : (ms : List Mark) (p : ℕ) (come end : Option (List Ty)) → Go ms p come end → ℕ → List Ty
  at_place [] p come end g n = []
  at_place (does i at ∷ ms) p come end g zero = g.0
  at_place (does i at ∷ ms) p come end g (suc n) = at_place ms (suc p) (kept (goes_on i) g.1) end g.4 n
  at_place (label s ∷ ms) p come end g n = at_place ms p (Some s) end g.1 n
  at_place (slot t ∷ ms) p come end g n = at_place ms p come end g n

  first-is : (ms : List Mark) (p : ℕ) (come end : Option (List Ty)) (g : Go ms p come end) (s : List Ty) → come ≡ Some s → 0 < count ms → at_place ms p come end g 0 ≡ s
  first-is [] p come end g s e l = absurd (omega (arith, l))
  first-is (does i at ∷ ms) p come end g s e l = some-same g.0 s (sym g.2 ∙ e)
  first-is (label c ∷ ms) p come end g s e l = first-is ms p (Some c) end g.1 s (ap (λ x. Some x) (sym (subst (λ o. Meets o c) e g.0))) l
  first-is (slot t ∷ ms) p come end g s e l = first-is ms p come end g s e l

  goes-on : (ms : List Mark) (p : ℕ) (come : Option (List Ty)) (s : List Ty) → Go ms p come None → come ≡ Some s → 0 < count ms
  goes-on [] p come s g e = absurd (cc)
  goes-on (does i at ∷ ms) p come s g e = omega arith
  goes-on (label c ∷ ms) p come s g e = goes-on ms p (Some c) c g.1 refl
  goes-on (slot t ∷ ms) p come s g e = goes-on ms p come s g e

  some-there : (o : Option (List Ty)) (d : List Ty) → o ≡ Some d → IsSome o
  some-there (Some x) d e = grind (arith, common_steps)
  some-there None d e = absurd (cc)

  labelled-next : (ms : List Mark) (p : ℕ) (come : Option (List Ty)) → Go ms p come None → HasMarks u F (Own F) (OwnTicks F) ms p → come ≡ None → (count ms ≡ 0) ⊎ IsSome (label_at F.labels p)
  labelled-next [] p come g h e = inl refl
  labelled-next (does i at ∷ ms) p come g h e = absurd (cc)
  labelled-next (label s ∷ ms) p come g h e = inr (some-there (label_at F.labels p) (reverse s) h.0)
  labelled-next (slot t ∷ ms) p come g h e = labelled-next ms p come g h e

  record Fine (i : Instr) (k size : ℕ) (s behind : List Ty) : Type 0 where
    next : List Ty
    effect : row u F i s ≡ Ok next
    jump : (to : ℕ) → target i ≡ Some to → Own F to next × (to ≤ k → OwnTicks F to)
    falls : goes_on i ≡ true → (1 < size) × (behind ≡ next)
    ends : goes_on i ≡ false → (1 ≡ size) ⊎ IsSome (label_at F.labels (k + 1))

  -- `size` is how many instructions there are from this one on
  fine : (ms : List Mark) (p : ℕ) (come : Option (List Ty)) (g : Go ms p come None) → HasMarks u F (Own F) (OwnTicks F) ms p → (n : ℕ) (i : Instr) → slice_get (codes ms) n ≡ Some i → (k size : ℕ) → p + n ≡ k → n + size ≡ count ms
      → Fine i k size (at_place ms p come None g n) (at_place ms p come None g (suc n))
  fine [] p come g h n i is k size e es = absurd (cc)
  fine (does j at ∷ ms) p come g h zero i is k size e es =
      let same : j ≡ i = some-same j i is in
      subst (λ x. Fine x k size g.0 (at_place ms (suc p) (kept (goes_on j) g.1) None g.4 0)) same record {
        next = g.1;
        effect = g.3.effect;
        jump = λ to t. let r = g.3.jump to t in (r.0, λ le. r.1 (omega (arith, le, e)));
        falls = λ b.
            let come_is : kept (goes_on j) g.1 ≡ Some g.1 = ap (λ b. kept b g.1) b in
            let more_there : 0 < count ms = goes-on ms (suc p) (kept (goes_on j) g.1) g.1 g.4 come_is in
            (omega (arith, es, more_there), first-is ms (suc p) (kept (goes_on j) g.1) None g.4 g.1 come_is more_there);
        ends = λ b. last (labelled-next ms (suc p) (kept (goes_on j) g.1) g.4 h.1 (ap (λ b. kept b g.1) b));
      }
    where
      last : (count ms ≡ 0) ⊎ IsSome (label_at F.labels (suc p)) → (1 ≡ size) ⊎ IsSome (label_at F.labels (k + 1))
      last (inl c) = inl (omega (arith, c, es))
      last (inr l) = inr (let same : suc p ≡ k + 1 = omega (arith, e) in subst (λ n. IsSome (label_at F.labels n)) same l)
  fine (does j at ∷ ms) p come g h (suc n) i is k size e es = fine ms (suc p) (kept (goes_on j) g.1) g.4 h.1 n i is k size (omega (arith, e)) (omega (arith, es))
  fine (label s ∷ ms) p come g h n i is k size e es = fine ms p (Some s) g.1 h.1 n i is k size e es
  fine (slot t ∷ ms) p come g h n i is k size e es = fine ms p come g h n i is k size e es

  -- a label of the function has the list of its place
  agree : (ms : List Mark) (f : Function) (p : ℕ) (come end : Option (List Ty)) → written f ms ≡ F → length f.code ≡ p → Open f come → (g : Go ms p come end) → (n k : ℕ) (d : List Ty) → p + n ≡ k → n < count ms → label_at F.labels k ≡ Some d
      → reverse (at_place ms p come end g n) ≡ d
  agree [] f p come end is e o g n k d ek l h = absurd (omega (arith, l))
  agree (does i at ∷ ms) f p come end is e o g zero k d ek l h =
      let long = longer f i in
      let place : length f.code ≡ k = omega (arith, e, ek) in
      let before : k < length (f.code ++ i ∷ []) = omega (arith, long, place) in
      let own : label_at f.labels k ≡ Some d = sym (settled ms (put f (does i at)) k before) ∙ ap (λ (x : Function). label_at x.labels k) is ∙ h in
      let came : come ≡ Some (reverse d) = o.here d (ap (label_at f.labels) place ∙ own) in
      let same : g.0 ≡ reverse d = some-same g.0 (reverse d) (sym g.2 ∙ came) in
      ap reverse same ∙ reverse-reverse d
  agree (does i at ∷ ms) f p come end is e o g (suc n) k d ek l h =
      let long = longer f i in
      agree ms (put f (does i at)) (suc p) (kept (goes_on i) g.1) end is (omega (arith, long, e)) (open-does f come (kept (goes_on i) g.1) i at o) g.4 n k d (omega (arith, ek)) (omega (arith, l)) h
  agree (label s ∷ ms) f p come end is e o g n k d ek l h = agree ms (put f (label s)) p (Some s) end is e (open-label f come s o g.0) g.1 n k d ek l h
  agree (slot t ∷ ms) f p come end is e o g n k d ek l h = agree ms (put f (slot t)) p come end is e (record { above = o.above; here = o.here; last = o.last }) g n k d ek l h

  -- the whole function
  pub everything : (ms : List Mark) (p : ℕ) → HasMarks u F Anything Anywhere ms p
  everything [] p = tt
  everything (does i at ∷ ms) p = (λ t. tt, everything ms (suc p))
  everything (label s ∷ ms) p = (tt, everything ms p)
  everything (slot t ∷ ms) p = everything ms p

  module _ (ms : List Mark) (f : Function) (is : written f ms ≡ F) (no_code : f.code ≡ []) (no_labels : f.labels ≡ []) (passes : Passes u F ms) where
    no_length : length f.code ≡ 0
    no_length = ap length no_code

    opened : Open f (Some [])
    opened = record {
      above = λ q l. ap (λ ls. label_at ls q) no_labels;
      here = λ d h. absurd (let none : label_at f.labels (length f.code) ≡ None = ap (λ ls. label_at ls (length f.code)) no_labels in cc);
      last = λ e. ap (λ ls. label_at ls (length f.code)) no_labels;
    }

    has : HasMarks u F (Own F) (OwnTicks F) ms 0
    has = has-own Anything Anywhere ms f 0 (Some []) None is no_length opened passes.anyhow

    g : Go ms 0 (Some []) None
    g = passes.own has

    code : F.code ≡ codes ms
    code = ap (λ (x : Function). x.code) (sym is) ∙ code-is ms f ∙ ap (λ c. c ++ codes ms) no_code

    size : length F.code ≡ count ms
    size = ap length code ∙ codes-count ms

    abbrev shapes : ℕ → List Ty
    shapes n = reverse (at_place ms 0 (Some []) None g n)

    at_each : (n : ℕ) (i : Instr) (left : ℕ) → n + left ≡ count ms → Fine i n left (at_place ms 0 (Some []) None g n) (at_place ms 0 (Some []) None g (suc n)) → (next : List Ty) × IsFine u F shapes n i next
    at_each n i left e r = (
      reverse r.next,
      record {
        effect = ap (λ s. turned (row u F i s)) (reverse-reverse (at_place ms 0 (Some []) None g n)) ∙ ap turned r.effect;
        jump = λ to t. r.jump to t;
        falls = λ b. let w = r.falls b in let long = size in (let more_there = w.0 in omega (arith, long, more_there, e), ap shapes (add-one n) ∙ ap reverse w.1);
        ends = λ b. last (r.ends b);
      },
    )
      where
        last : (1 ≡ left) ⊎ IsSome (label_at F.labels (n + 1)) → (n + 1 ≡ length F.code) ⊎ IsSome (label_at F.labels (n + 1))
        last (inl o) = inl (let long = size in omega (arith, long, o, e))
        last (inr l) = inr l

    pub sealed : (shapes : ℕ → List Ty) × AreShapes u F shapes
    sealed = (
      shapes,
      record {
        start = ap reverse (first-is ms 0 (Some []) None g [] refl (goes-on ms 0 (Some []) [] g refl));
        labels = λ n d l h. let long = size in agree ms f 0 (Some []) None is no_length opened g n n d (omega arith) (omega (arith, long, l)) h;
        each = λ n i there.
            let within : n < length F.code = slice_get_within F.code n i there in
            let long = size in
            at_each n i (count ms - n) (omega (arith, long, within)) (fine ms 0 (Some []) g has n i (ap (λ c. slice_get c n) (sym code) ∙ there) n (count ms - n) (omega arith) (omega (arith, long, within)));
      },
    )

  -- where this is known for any labels
  pub sealed_anyhow : (ms : List Mark) (f : Function) → written f ms ≡ F → f.code ≡ [] → f.labels ≡ [] → ((L : ℕ → List Ty → Type 0) (T : ℕ → Type 0) → HasMarks u F L T ms 0 → Goes u F L T ms 0 (Some []) None) → (shapes : ℕ → List Ty) × AreShapes u F shapes
  sealed_anyhow ms f is no_code no_labels goes = sealed ms f is no_code no_labels (record { anyhow = goes Anything Anywhere (everything ms 0); own = goes (Own F) (OwnTicks F) })
