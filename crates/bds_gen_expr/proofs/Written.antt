-- What a function is into which marks were written.
use Rattle.std.proofs.Common.{◌≡◌, ◌<◌, ◌+◌, ℕ, List, [], ◌∷◌, ◌++◌, length, length-append, slice_set, reverse, refl, sym, ◌∙◌, ap, arith, append_assoc, append-nil}
use Rattle.std.proofs.lemmas.List.{length-set, set-append_left}
use Rattle.std.proofs.Math.Seq.{set-append_seam}
use Rattle.bds_value.specs.declared.value.At.{At}
use Rattle.bds_value.specs.declared.value.Ty.{Ty}
use Rattle.bds_code.specs.declared.instr.Instr.{Instr}
use Rattle.bds_code.specs.declared.unit.Function.{Function}
use Rattle.bds_gen_expr.specs.Marks.{Mark, does, label, slot, count, put, labelled, written}
use Rattle.bds_gen_expr.specs.Gen.{act, patched}

pub written-append : (ms ns : List Mark) (g : Function) → written g (ms ++ ns) ≡ written (written g ms) ns
written-append [] ns g = refl
written-append (m ∷ ms) ns g = written-append ms ns (put g m)

-- the instructions among marks
abbrev pub codes : List Mark → List Instr
codes [] = []
codes (does i at ∷ ms) = i ∷ codes ms
codes (label s ∷ ms) = codes ms
codes (slot t ∷ ms) = codes ms

pub code-is : (ms : List Mark) (f : Function) → (written f ms).code ≡ f.code ++ codes ms
code-is [] f = sym (append-nil f.code)
code-is (does i at ∷ ms) f = code-is ms (put f (does i at)) ∙ append_assoc f.code (i ∷ []) (codes ms)
code-is (label s ∷ ms) f = code-is ms (put f (label s))
code-is (slot t ∷ ms) f = code-is ms (put f (slot t))

pub codes-count : (ms : List Mark) → length (codes ms) ≡ count ms
codes-count [] = refl
codes-count (does i at ∷ ms) = let e = codes-count ms in omega (arith, e)
codes-count (label s ∷ ms) = codes-count ms
codes-count (slot t ∷ ms) = codes-count ms

pub length-written : (ms : List Mark) (g : Function) → length (written g ms).code ≡ length g.code + count ms
length-written ms g = let a = ap length (code-is ms g) in let b = length-append g.code (codes ms) in let c = codes-count ms in omega (arith, a, b, c)

pub ret-is : (ms : List Mark) (f : Function) → (written f ms).ret ≡ f.ret
ret-is [] f = refl
ret-is (does i at ∷ ms) f = ret-is ms (put f (does i at))
ret-is (label s ∷ ms) f = ret-is ms (put f (label s))
ret-is (slot t ∷ ms) f = ret-is ms (put f (slot t))

pub params-is : (ms : List Mark) (f : Function) → (written f ms).params ≡ f.params
params-is [] f = refl
params-is (does i at ∷ ms) f = params-is ms (put f (does i at))
params-is (label s ∷ ms) f = params-is ms (put f (label s))
params-is (slot t ∷ ms) f = params-is ms (put f (slot t))

-- Another instruction at a place

labelled-where : (g : Function) (n m : ℕ) (code : List Instr) (s : List Ty) → n ≡ m → record g { code = code; labels = labelled g.labels n s } ≡ record g { code = code; labels = labelled g.labels m s }
labelled-where g n m code s e = ap (λ k. record g { code = code; labels = labelled g.labels k s }) e

-- what stands before is changed alike before and behind the writing
pub patched-put : (m : Mark) (g : Function) (n : ℕ) (i : Instr) → n < length g.code → patched (put g m) n i ≡ put (patched g n i) m
patched-put (does j at) g n i h = ap (λ c. record g { code = c; lines = g.lines ++ at ∷ [] }) (set-append_left g.code (j ∷ []) n i h)
patched-put (label s) g n i h = labelled-where g (length g.code) (length (slice_set g.code n i)) (slice_set g.code n i) (reverse s) (sym (length-set g.code n i))
patched-put (slot t) g n i h = refl

pub patched-written : (ms : List Mark) (g : Function) (n : ℕ) (i : Instr) → n < length g.code → patched (written g ms) n i ≡ written (patched g n i) ms
patched-written [] g n i h = refl
patched-written (m ∷ ms) g n i h = patched-written ms (put g m) n i (longer m) ∙ ap (λ f. written f ms) (patched-put m g n i h)
  where
    longer : (m : Mark) → n < length (put g m).code
    longer (does j at) = let e = length-append g.code (j ∷ []) in omega (arith, e, h)
    longer (label s) = h
    longer (slot t) = h

-- an instruction that was just written
pub patched-act : (g : Function) (at : At) (j i : Instr) → patched (act g at j) (length g.code) i ≡ act g at i
patched-act g at j i = ap (λ c. record g { code = c; lines = g.lines ++ at ∷ [] }) (set-append_seam g.code j [] i)
