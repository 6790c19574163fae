-- Values of types, one after the other.
use Rattle.std.proofs.Common.{◌≡◌, ◌<◌, ◌≤◌, ◌+◌, ℕ, zero, suc, List, [], ◌∷◌, ◌++◌, take, length, get_or, Bool, true, false, IsTrue, ◌↔◌, refl, sym, ap, ◌∙◌, subst, arith, add-one}
use Rattle.std.specs.Bool.{Decides}
use Rattle.std.specs.List.{All}
use Rattle.std.proofs.Math.Seq.{take-suc}
use Rattle.std.proofs.lemmas.List.{take_all}
use Rattle.bds_value.specs.declared.value.Ty.{Ty}
use Rattle.bds_value.specs.declared.value.Value.{Value}
use Rattle.bds_value.specs.Fields.{IsFieldValue, IsValueTy}
use Rattle.bds_value.specs.Value.{type_of}
use Rattle.bds_verify.specs.Threads.{Holds, Typed}
use Rattle.bds_state_threads.proofs.Locals.{typed-append}

pub typed-length : (vs : List Value) (ts : List Ty) → Typed vs ts → length vs ≡ length ts
typed-length [] [] h = refl
typed-length [] (t ∷ ts) h = absurd h
typed-length (v ∷ vs) [] h = absurd h
typed-length (v ∷ vs) (t ∷ ts) h = let e : length vs ≡ length ts = typed-length vs ts h.1 in omega (arith, e)

pub uneven : (vs : List Value) (ts : List Ty) → (length vs ≡ length ts → ⊥) → Decides false (Typed vs ts)
uneven vs ts never = (λ e. absurd (cc), λ h. absurd (never (typed-length vs ts h)))

typed-at : (vs : List Value) (ts : List Ty) (i : ℕ) (v : Value) (t : Ty) → i < length vs → i < length ts → v ≡ get_or vs i v → t ≡ get_or ts i t → Typed vs ts → type_of v ≡ t
typed-at [] ts i v t l k e f h = absurd (omega arith)
typed-at (w ∷ vs) [] i v t l k e f h = absurd h
typed-at (w ∷ vs) (s ∷ ts) zero v t l k e f h = ap type_of e ∙ h.0.type ∙ sym f
typed-at (w ∷ vs) (s ∷ ts) (suc i) v t l k e f h = typed-at vs ts i v t (omega arith) (omega arith) e f h.1

pub other_type : (vs : List Value) (ts : List Ty) (i : ℕ) (v : Value) (t : Ty) (b : Bool) → i < length vs → i < length ts → v ≡ get_or vs i v → t ≡ get_or ts i t → Decides b (type_of v ≡ t) → b ≡ false → Decides false (Typed vs ts)
other_type vs ts i v t b l k e f d never = (λ e. absurd (cc), λ h. absurd (let sure = d.1 (typed-at vs ts i v t l k e f h) in let wrong : true ≡ false = sym sure ∙ never in cc))

held : (v : Value) (t : Ty) → IsFieldValue v → type_of v ≡ t → Holds v t
held v t h e = record { type = e; formed = h.1; limits = h.2; nests = subst IsValueTy e h.0 }

more_of : {X : Type 0} (xs : List X) (i : ℕ) (x : X) → i < length xs → x ≡ get_or xs i x → take (i + 1) xs ≡ take i xs ++ x ∷ []
more_of xs i x l e = ap (λ n. take n xs) (add-one i) ∙ take-suc xs i x l ∙ ap (λ y. take i xs ++ y ∷ []) (sym e)

pub typed-more : (vs : List Value) (ts : List Ty) (i : ℕ) (v : Value) (t : Ty) (b : Bool) → i < length vs → i < length ts → v ≡ get_or vs i v → t ≡ get_or ts i t → Decides b (type_of v ≡ t) → b ≡ true → All IsFieldValue vs
    → Typed (take i vs) (take i ts) → Typed (take (i + 1) vs) (take (i + 1) ts)
typed-more vs ts i v t b l k e f d sure all h =
    let good : IsFieldValue v = subst IsFieldValue (sym e) (all i v l) in
    let both : Typed (take i vs ++ v ∷ []) (take i ts ++ t ∷ []) = typed-append (take i vs) (v ∷ []) (take i ts) (t ∷ []) h (held v t good (d.0 sure), tt) in
    subst (λ x. Typed x (take (i + 1) ts)) (sym (more_of vs i v l e)) (subst (λ y. Typed (take i vs ++ v ∷ []) y) (sym (more_of ts i t k f)) both)

pub typed-all : (vs : List Value) (ts : List Ty) (i : ℕ) → length vs ≤ i → length ts ≤ i → Typed (take i vs) (take i ts) → Decides true (Typed vs ts)
typed-all vs ts i l k h = (λ e. subst (λ x. Typed x ts) (take_all i vs l) (subst (λ y. Typed (take i vs) y) (take_all i ts k) h), λ h. refl)
