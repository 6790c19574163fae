-- The last pair of a list, and another second part in it.
use Rattle.std.proofs.Common.{◌≡◌, ℕ, ◌-◌, ◌<◌, List, [], ◌∷◌, ◌++◌, length, set, slice_get, Some, ap, ◌∙◌, arith, length-append}
use Rattle.std.proofs.Math.Seq.{set-append_seam, get_or-append_seam}
use Rattle.std.proofs.lemmas.Option.{slice_get-get_or}

pub last_replaced : {X Y : Type 0} (xs : List (X × Y)) (i : ℕ) (p : X × Y) (y : Y) (before : List (X × Y)) (x : X) (old : Y) →
    i ≡ length xs - 1 → slice_get xs i ≡ Some p → xs ≡ before ++ (x, old) ∷ [] → set xs i (p.0, y) ≡ before ++ (x, y) ∷ []
last_replaced {X} {Y} xs i p y before x old at here is =
    let place : i ≡ length before = omega (arith, ap length is, length-append before ((x, old) ∷ [])) in
    let within : length before < length (before ++ (x, old) ∷ []) = omega (arith, length-append before ((x, old) ∷ [])) in
    let read : slice_get xs i ≡ Some (x, old) = rw (is, place) (slice_get-get_or (before ++ (x, old) ∷ []) (length before) (x, old) within ∙ ap Some (get_or-append_seam before (x, old) [] (x, old))) in
    let same : p ≡ (x, old) = cc in
    rw (is, place, same) (set-append_seam before (x, old) [] (x, y))
