-- The labels of a function into which marks were written.
use Rattle.std.proofs.Common.{◌≡◌, ◌<◌, ◌+◌, ℕ, List, [], ◌∷◌, ◌++◌, length, length-append, reverse, nat_eq, cond, Option, Some, None, Bool, true, false, refl, sym, ◌∙◌, ap, arith, if◌then◌else◌, rules}
use Rattle.std.proofs.lemmas.Grind.{common_steps}
use Rattle.std.proofs.lemmas.List.{reverse-reverse}
use Rattle.bds_value.specs.declared.value.At.{At}
use Rattle.bds_value.specs.declared.value.Ty.{Ty}
use Rattle.bds_code.specs.declared.instr.Instr.{Instr}
use Rattle.bds_code.specs.declared.unit.Function.{Function}
use Rattle.bds_verify.specs.Verified.{label_at}
use Rattle.bds_gen_expr.specs.Marks.{Mark, does, label, slot, is_last, labelled, put, written}
use Rattle.bds_gen_flow.specs.Flow.{Meets}

abbrev Labels : Type 0
Labels = List (ℕ × List Ty)

abbrev or_this : Option (List Ty) → Option (List Ty) → Option (List Ty)
or_this (Some t) o = Some t
or_this None o = o

chosen : (b : Bool) (t : List Ty) (o p : Option (List Ty)) → cond b (Some t) (or_this o p) ≡ or_this (cond b (Some t) o) p
chosen true t o p = refl
chosen false t o p = refl

at-append : (ls : Labels) (l : ℕ × List Ty) (q : ℕ) → label_at (ls ++ l ∷ []) q ≡ or_this (label_at ls q) (cond (nat_eq l.0 q) (Some l.1) None)
at-append [] l q = refl
at-append (k ∷ ls) l q = ap (cond (nat_eq k.0 q) (Some k.1)) (at-append ls l q) ∙ chosen (nat_eq k.0 q) k.1 (label_at ls q) (cond (nat_eq l.0 q) (Some l.1) None)

-- a label stays
pub stays-labelled : (ls : Labels) (p q : ℕ) (t d : List Ty) → label_at ls q ≡ Some d → label_at (labelled ls p t) q ≡ Some d
stays-labelled ls p q t d h = by (is_last ls p)
  where
    by : (b : Bool) → label_at (if b then ls else ls ++ (p, t) ∷ []) q ≡ Some d
    by true = h
    by false = at-append ls (p, t) q ∙ ap (λ o. or_this o (cond (nat_eq p q) (Some t) None)) h

-- no other place gets one
pub other-labelled : (ls : Labels) (p q : ℕ) (t : List Ty) → (p ≡ q → ⊥) → label_at (labelled ls p t) q ≡ label_at ls q
other-labelled ls p q t n = by (is_last ls p)
  where
    differ : nat_eq p q ≡ false
    differ = grind (arith, common_steps)

    or_none : (o : Option (List Ty)) → or_this o None ≡ o
    or_none (Some d) = refl
    or_none None = refl

    by : (b : Bool) → label_at (if b then ls else ls ++ (p, t) ∷ []) q ≡ label_at ls q
    by true = refl
    by false = at-append ls (p, t) q ∙ ap (λ b. or_this (label_at ls q) (cond b (Some t) None)) differ ∙ or_none (label_at ls q)

some-last : (ls : Labels) (p : ℕ) → is_last ls p ≡ true → (d : List Ty) × (label_at ls p ≡ Some d)
some-last [] p h = absurd (search (rules, h))
some-last (l ∷ []) p h = (l.1, ap (λ b. cond b (Some l.1) None) h)
some-last (l ∷ (k ∷ ls)) p h = by (nat_eq l.0 p) (some-last (k ∷ ls) p h)
  where
    by : (b : Bool) → (d : List Ty) × (label_at (k ∷ ls) p ≡ Some d) → (d : List Ty) × (cond b (Some l.1) (label_at (k ∷ ls) p) ≡ Some d)
    by true r = (l.1, refl)
    by false r = r

-- the place itself has one then: the new one, unless it had one
pub own-labelled : (ls : Labels) (p : ℕ) (t : List Ty) → ((d : List Ty) → label_at ls p ≡ Some d → d ≡ t) → (is_last ls p ≡ false → label_at ls p ≡ None) → label_at (labelled ls p t) p ≡ Some t
own-labelled ls p t h k = by (is_last ls p) refl
  where
    same : nat_eq p p ≡ true
    same = grind (arith, common_steps)

    by : (b : Bool) → is_last ls p ≡ b → label_at (if b then ls else ls ++ (p, t) ∷ []) p ≡ Some t
    by true e = let r = some-last ls p e in r.1 ∙ ap (λ x. Some x) (h r.0 r.1)
    by false e = at-append ls (p, t) p ∙ ap (λ o. or_this o (cond (nat_eq p p) (Some t) None)) (k e) ∙ ap (λ b. cond b (Some t) None) same

last-append : (ls : Labels) (p : ℕ) (t : List Ty) → is_last (ls ++ (p, t) ∷ []) p ≡ true
last-append [] p t = grind (arith, common_steps)
last-append (l ∷ []) p t = grind (arith, common_steps)
last-append (l ∷ (k ∷ ls)) p t = last-append (k ∷ ls) p t

is-last : (ls : Labels) (p : ℕ) (t : List Ty) → is_last (labelled ls p t) p ≡ true
is-last ls p t = by (is_last ls p) refl
  where
    by : (b : Bool) → is_last ls p ≡ b → is_last (if b then ls else ls ++ (p, t) ∷ []) p ≡ true
    by true e = e
    by false e = last-append ls p t

-- What is written behind leaves what stands before

pub stays : (ms : List Mark) (f : Function) (q : ℕ) (d : List Ty) → label_at f.labels q ≡ Some d → label_at (written f ms).labels q ≡ Some d
stays [] f q d h = h
stays (does i at ∷ ms) f q d h = stays ms (put f (does i at)) q d h
stays (label s ∷ ms) f q d h = stays ms (put f (label s)) q d (stays-labelled f.labels (length f.code) q (reverse s) d h)
stays (slot t ∷ ms) f q d h = stays ms (put f (slot t)) q d h

pub longer : (f : Function) (i : Instr) → length (f.code ++ i ∷ []) ≡ length f.code + 1
longer f i = length-append f.code (i ∷ [])

-- places before the end are settled
pub settled : (ms : List Mark) (f : Function) (q : ℕ) → q < length f.code → label_at (written f ms).labels q ≡ label_at f.labels q
settled [] f q l = refl
settled (does i at ∷ ms) f q l = let e = longer f i in settled ms (put f (does i at)) q (omega (arith, e, l))
settled (label s ∷ ms) f q l = settled ms (put f (label s)) q l ∙ other-labelled f.labels (length f.code) q (reverse s) (λ e. absurd (omega (arith, e, l)))
settled (slot t ∷ ms) f q l = settled ms (put f (slot t)) q l

-- What is known of a function into which something is written: no label lies ahead, and one at the end has what comes there

pub record Open (f : Function) (come : Option (List Ty)) : Type 0 where
  pub above : (q : ℕ) → length f.code < q → label_at f.labels q ≡ None
  pub here : (d : List Ty) → label_at f.labels (length f.code) ≡ Some d → come ≡ Some (reverse d)
  pub last : is_last f.labels (length f.code) ≡ false → label_at f.labels (length f.code) ≡ None

pub open-does : (f : Function) (come next : Option (List Ty)) (i : Instr) (at : At) → Open f come → Open (put f (does i at)) next
open-does f come next i at o = record {
  above = λ q l. let e = longer f i in o.above q (omega (arith, e, l));
  here = λ d h. let e = longer f i in absurd (let none : label_at f.labels (length (f.code ++ i ∷ [])) ≡ None = o.above (length (f.code ++ i ∷ [])) (omega (arith, e)) in search (rules, sym none ∙ h));
  last = λ e. let e = longer f i in o.above (length (f.code ++ i ∷ [])) (omega (arith, e));
}

meets-same : (come : Option (List Ty)) (s d : List Ty) → Meets come s → come ≡ Some (reverse d) → d ≡ reverse s
meets-same None s d m h = absurd (search (rules, h))
meets-same (Some c) s d m h = let e : c ≡ reverse d = cc in sym (reverse-reverse d) ∙ ap reverse (sym e ∙ m)

pub label-there : (f : Function) (come : Option (List Ty)) (s : List Ty) → Open f come → Meets come s → label_at (put f (label s)).labels (length f.code) ≡ Some (reverse s)
label-there f come s o m = own-labelled f.labels (length f.code) (reverse s) (λ d h. meets-same come s d m (o.here d h)) o.last

pub open-label : (f : Function) (come : Option (List Ty)) (s : List Ty) → Open f come → Meets come s → Open (put f (label s)) (Some s)
open-label f come s o m = record {
  above = λ q l. other-labelled f.labels (length f.code) q (reverse s) (λ e. absurd (omega (arith, e, l))) ∙ o.above q l;
  here = λ d h. let e : reverse s ≡ d = some-same (reverse s) d (sym (label-there f come s o m) ∙ h) in ap (λ x. Some x) (sym (reverse-reverse s) ∙ ap reverse e);
  last = λ e. absurd (let yes_last : is_last (labelled f.labels (length f.code) (reverse s)) (length f.code) ≡ true = is-last f.labels (length f.code) (reverse s) in search (rules, sym e ∙ yes_last));
}
  where
    some-same : (x y : List Ty) → Some x ≡ Some y → x ≡ y
    some-same x y e = cc
