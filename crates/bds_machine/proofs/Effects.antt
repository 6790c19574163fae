-- What the effect of a row that goes elsewhere says of the operands.
use Rattle.std.proofs.Common.{◌≡◌, ℕ, List, [], ◌∷◌, ◌++◌, slice_get, reverse, cond, Some, Result, Ok, Err, refl, sym, ap, ◌∙◌}
use Rattle.std.proofs.lemmas.List.{reverse-reverse}
use Rattle.bds_value.specs.declared.value.Ty.{Ty}
use Rattle.bds_value.specs.declared.value.Ty.TheVariants as ty
use Rattle.bds_value.specs.Types.{is_void_at}
use Rattle.bds_code.specs.declared.effects.EffectFault.{EffectFault}
use Rattle.bds_code.specs.declared.unit.Function.{Function}
use Rattle.bds_code.specs.declared.unit.Unit.{Unit as CodeUnit}
use Rattle.bds_code.specs.Operands.{there, all_taken, given, swapped}
use Rattle.bds_code.specs.Row.{called, none_left, returned, answers, asked}
use Rattle.bds_verify.specs.Verified.{turned}
use Rattle.bds_machine.proofs.TypesFits.{bind_ok, there-ok, all_taken-ok, swapped-ok}

pub turned-ok : (r : Result (List Ty) EffectFault) (next : List Ty) → turned r ≡ Ok next → r ≡ Ok (reverse next)
turned-ok (Err e) next h = absurd (cc)
turned-ok (Ok s) next h = let e : reverse s ≡ next = cc in ap (λ x. Ok x) (sym (reverse-reverse s) ∙ ap reverse e)

none-ok : (s next : List Ty) → none_left s ≡ Ok next → s ≡ []
none-ok [] next h = refl
none-ok (x ∷ xs) next h = absurd (cc)

pub returned-ok : (ret : Ty) (s next : List Ty) → returned ret s ≡ Ok next → s ≡ given ret ++ []
returned-ok ret s next h =
    let r = bind_ok (all_taken (given ret) s) none_left next h in
    all_taken-ok (given ret) s r.0 r.1 ∙ ap (λ x. given ret ++ x) (none-ok r.0 next r.2)

pub called-ok : (u : CodeUnit) (n : ℕ) (gives : Function → Ty) (s next : List Ty) → called u n gives s ≡ Ok next
    → (callee : Function) × (slice_get u.functions n ≡ Some callee) × (swapped (reverse callee.params) (gives callee) s ≡ Ok next)
called-ok u n gives s next h =
    let r = bind_ok (there (slice_get u.functions n) n) (λ callee. swapped (reverse callee.params) (gives callee) s) next h in
    (r.0, there-ok (slice_get u.functions n) n r.0 r.1, r.2)

pub asked-ok : (n : ℕ) (s next : List Ty) → asked n s ≡ Ok next → (t : Ty) × (slice_get answers n ≡ Some t) × (swapped (ty.Text ∷ []) t s ≡ Ok next)
asked-ok n s next h =
    let r = bind_ok (there (slice_get answers n) n) (λ t. swapped (ty.Text ∷ []) t s) next h in
    (r.0, there-ok (slice_get answers n) n r.0 r.1, r.2)

pub given-Void : given ty.Void ≡ []
given-Void = ap (λ x. cond (is_void_at x) [] (ty.Void ∷ [])) ty.outs-Void

-- an effect that gives nothing
pub void-ok : (ts s next : List Ty) → swapped ts ty.Void s ≡ Ok next → s ≡ ts ++ next
void-ok ts s next h = let r = swapped-ok ts ty.Void s next h in r.1 ∙ ap (λ x. ts ++ x) (sym (r.2 ∙ ap (λ x. x ++ r.0) given-Void))
