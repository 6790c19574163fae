-- What is known of the list at a place.
use Rattle.std.proofs.Common.{◌≡◌, ℕ, List, Option, Some, None, Result, Ok, Err, IfOk, refl, sym, subst, ◌∙◌}
use Rattle.bds_value.specs.declared.value.Ty.{Ty}
use Rattle.bds_verify.specs.declared.numbers.Numbers.{Numbers}
use Rattle.bds_verify.specs.declared.places.CheckFault.{CheckFault}
use Rattle.bds_verify.specs.Numbered.{AreDeclared, Knows}
use Rattle.bds_verify.specs.Pass.{differs, shape_of, Checks}
use Rattle.bds_verify.specs.Verified.{label_at}
use Rattle.bds_verify.proofs.SameTys.{differs-none}

came_is : (declared : Option (List Ty)) (came : List Ty) → differs declared (Some came) ≡ None
    → shape_of declared (Some came) ≡ came
came_is None came h = refl
came_is (Some d) came h = sym (differs-none d came h)

pub same_came : (declared : Option (List Ty)) (came : List Ty) (r : Result (List Ty) CheckFault)
    → Checks (differs declared (Some came)) (shape_of declared (Some came)) r → IfOk r (λ shape. shape ≡ came)
same_came declared came (Err e) h = tt
same_came declared came (Ok shape) h = h.1 ∙ came_is declared came h.0

pub begun_known : (declared : Option (List Ty)) (place : ℕ) (old new : Numbers) (r : Result (List Ty) CheckFault)
    → Checks (differs declared None) (shape_of declared None) r
    → ((labels : List (ℕ × List Ty)) → declared ≡ label_at labels place → AreDeclared old.lists.nodes labels old.labels
    → Knows labels new (shape_of declared None))
    → IfOk r (λ shape. (labels : List (ℕ × List Ty)) → declared ≡ label_at labels place
    → AreDeclared old.lists.nodes labels old.labels → Knows labels new shape)
begun_known declared place old new (Err e) h known = tt
begun_known declared place old new (Ok shape) h known =
    λ labels here are. subst (λ (ts : List Ty). Knows labels new ts) (sym h.1) (known labels here are)
