-- One more place of the pass.
use Rattle.std.proofs.Common.{◌≡◌, ◌<◌, ◌+◌, ℕ, List, length, Option, None, Err, below_more, add-one, refl, sym, ◌∙◌, ap}
use Rattle.bds_value.specs.declared.value.Ty.{Ty}
use Rattle.bds_code.specs.declared.unit.Function.{Function}
use Rattle.bds_code.specs.declared.unit.Unit.{Unit as CodeUnit}
use Rattle.bds_verify.specs.declared.places.CheckFault.{CheckFault}
use Rattle.bds_verify.specs.declared.places.CheckFault.TheVariants.{Bad, NoMemory}
use Rattle.bds_verify.specs.Pass.{comes, onward, judge, fault_at, Checks, FirstFault, at_place}

module _ (u : CodeUnit) (f : Function) where
  pub comes-next : (n : ℕ) → comes u f (n + 1) ≡ onward u f n (comes u f n)
  comes-next n = rw add-one refl

  pub goes_by : (n : ℕ) (come next : Option (List Ty)) → come ≡ comes u f n → ((k : ℕ) → k < n → fault_at u f k ≡ None)
      → (judge u f n come ≡ None) × (next ≡ onward u f n come) → (next ≡ comes u f (n + 1)) × ((k : ℕ) → k < n + 1 → fault_at u f k ≡ None)
  unfolding fault_at
  goes_by n come next e before h = (
    h.1 ∙ ap (onward u f n) e ∙ sym (comes-next n),
    below_more (λ k. fault_at u f k ≡ None) n before (ap (judge u f n) (sym e) ∙ h.0),
  )

  pub stops_at : (n : ℕ) (come : Option (List Ty)) (fault : CheckFault) → come ≡ comes u f n → ((k : ℕ) → k < n → fault_at u f k ≡ None) → n < length f.code
      → Checks (judge u f n come) (onward u f n come) (Err fault) → FirstFault u f (Err (at_place n fault))
  unfolding fault_at
  stops_at n come NoMemory e before l h = tt
  stops_at n come (Bad kind) e before l h = record { place = l; fault = ap (judge u f n) (sym e) ∙ h; before = before }
