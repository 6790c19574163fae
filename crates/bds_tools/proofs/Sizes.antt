-- How many instructions a unit that may be in a file has at most.
use Rattle.std.proofs.Common.{◌≡◌, ◌∙◌, ◌≤◌, ◌<◌, ℕ, ◌+◌, ◌*◌, List, ap, arith, get_or, length, subst, take}
use Rattle.std.specs.List.{All}
use Rattle.std.proofs.lemmas.List.Elements.{All-weaker}
use Rattle.std.proofs.lemmas.List.Sums.{sum_by-le, sum_by_more_le}
use Rattle.bds_value.specs.declared.TheConstants.{MAX_CODE, MAX_COUNT}
use Rattle.bds_code.specs.UnitFields.{IsFieldFunction, IsFieldUnit}
use Rattle.bds_code.specs.declared.unit.Function.{Function}
use Rattle.bds_code.specs.declared.unit.Unit.{Unit as CodeUnit}
use Rattle.bds_tools.specs.Info.{instructions}

pub instructions_fit : (u : CodeUnit) → IsFieldUnit u → instructions u.functions ≤ MAX_COUNT * MAX_CODE
instructions_fit u is =
    let each : All (λ (f : Function). length f.code ≤ MAX_CODE) u.functions = All-weaker IsFieldFunction (λ (f : Function). length f.code ≤ MAX_CODE) (λ f it. it.size) u.functions is.functions in
    let all : instructions u.functions ≤ length u.functions * MAX_CODE = sum_by-le (λ (f : Function). length f.code) MAX_CODE u.functions each in
    omega (arith, all, is.count)

-- so the sum of the first functions and one more fits
pub one_more_fits : (u : CodeUnit) (fs : List Function) (i total size : ℕ) (f : Function) → IsFieldUnit u → fs ≡ u.functions → i < length fs → total ≡ instructions (take i u.functions) → f ≡ get_or fs i f → size ≡ length f.code → total + size ≤ MAX_COUNT * MAX_CODE
one_more_fits u fs i total size f is same within so_far item of =
    let here : i < length u.functions = subst (λ (xs : List Function). i < length xs) same within in
    let more : instructions (take i u.functions) + length (get_or u.functions i f).code ≤ instructions u.functions = sum_by_more_le (λ (f : Function). length f.code) u.functions i f here in
    let its : length f.code ≡ length (get_or u.functions i f).code = ap (λ (f : Function). length f.code) (item ∙ ap (λ (xs : List Function). get_or xs i f) same) in
    omega (arith, more, its, so_far, of, instructions_fit u is)
