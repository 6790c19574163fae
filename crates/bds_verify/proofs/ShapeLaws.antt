-- The pass gives the list at each place of a verified function.
use Rattle.std.proofs.Common.{◌≡◌, ◌<◌, ◌+◌, inl, inr, ℕ, List, length, slice_get, Option, Some, None, IsSome}
use Rattle.std.proofs.Common.{Result, Ok, Err, IfOk, refl, sym, ap, subst, ◌∙◌}
use Rattle.bds_value.specs.declared.listed.NoMemory.{NoMemory}
use Rattle.bds_value.specs.declared.value.Ty.{Ty}
use Rattle.bds_code.specs.declared.unit.Function.{Function}
use Rattle.bds_code.specs.declared.unit.Unit.{Unit as CodeUnit}
use Rattle.bds_verify.specs.Verified.{label_at, AreShapes}
use Rattle.bds_verify.specs.Marked.{IsBeginning}
use Rattle.bds_verify.specs.Pass.{onward_at, onward, comes, shape_of}
use Rattle.bds_verify.specs.Pass.{shape_at}
use Rattle.bds_verify.proofs.Exact.{all_agree}
use Rattle.bds_verify.proofs.Steps.{comes-next}

-- where a label declares the list, what comes doesn't count
declared_alone : (declared a b : Option (List Ty)) → IsSome declared → shape_of declared a ≡ shape_of declared b
declared_alone (Some d) a b h = refl
declared_alone None a b h = absurd (cc)

module _ (u : CodeUnit) (f : Function) where
  pub begun_shape : (n : ℕ) (come : Option (List Ty)) → IsBeginning u f n come
      → shape_of (label_at f.labels n) come ≡ shape_at u f n
  begun_shape n come (inl e) = ap (shape_of (label_at f.labels n)) e
  begun_shape n come (inr (e, there)) = declared_alone (label_at f.labels n) come (comes u f n) there

  pub next_comes : (n : ℕ) (come next : Option (List Ty)) → IsBeginning u f n come → next ≡ onward u f n come
      → IsBeginning u f (n + 1) next
  next_comes n come next b h =
      inl (h ∙ ap (onward_at u f (slice_get f.code n)) (begun_shape n come b) ∙ sym (comes-next u f n))

pub only_list : (u : CodeUnit) (n place : ℕ) (f : Function) (r : Result (List Ty) NoMemory)
    → slice_get u.functions n ≡ Some f → place < length f.code → IfOk r (λ s. s ≡ shape_at u f place)
    → IfOk r (λ s. (g : Function) → slice_get u.functions n ≡ Some g → (shapes : ℕ → List Ty) → AreShapes u g shapes
    → s ≡ shapes place)
only_list u n place f (Err e) is l h = tt
only_list u n place f (Ok s) is l h = λ g at shapes good.
    let same : g ≡ f = cc in
    h ∙ (all_agree u f shapes (subst (λ x. AreShapes u x shapes) same good) place l).same
