-- When a wait is over: no id names a lost task where none is lost, and not all have ended where one goes on.
use Rattle.std.proofs.Common.{◌≡◌, ◌<◌, ℕ, zero, suc, Bool, true, false, ◌||◌, ◌&&◌, List, [], ◌∷◌, length, get_or}
use Rattle.std.proofs.Common.{refl, sym, ap, ◌∙◌, arith}
use Rattle.std.specs.List.{list_all, list_any}
use Rattle.bds_code_frames.specs.declared.thread.Thread.{Thread}
use Rattle.bds_tasks.specs.declared.task.Task.{Task}
use Rattle.bds_tasks.specs.Kept.{is_lost_task}
use Rattle.bds_tasks.specs.Tasks.{passes}
use Rattle.bds_value.specs.declared.ids.Id.{Id}
use Rattle.bds_value.specs.declared.ids.Id.TheVariants as id
use Rattle.bds_state.specs.Ready.{names_ended, names_lost}

one_none : (tasks : List Task) → ((n : ℕ) → passes is_lost_task tasks n ≡ false) → (x : Id) → names_lost tasks x ≡ false
one_none tasks h (id.Task n) = h n
one_none tasks h (id.Thread n) = refl

pub none_named : (tasks : List Task) → ((n : ℕ) → passes is_lost_task tasks n ≡ false) → (ids : List Id)
    → list_any (names_lost tasks) ids ≡ false
none_named tasks h [] = refl
none_named tasks h (x ∷ ids) =
    ap (λ b. b || list_any (names_lost tasks) ids) (one_none tasks h x) ∙ none_named tasks h ids

pub one_goes_on : (threads : List Thread) (tasks : List Task) (ids : List Id) (i : ℕ) (x : Id) → i < length ids
    → x ≡ get_or ids i x → names_ended threads tasks x ≡ false → list_all (names_ended threads tasks) ids ≡ false
one_goes_on threads tasks [] i x l is e = let no : ⊥ = omega (arith, l) in elim no [ ]
one_goes_on threads tasks (y ∷ ids) zero x l is e =
    ap (λ b. b && list_all (names_ended threads tasks) ids) (ap (names_ended threads tasks) (sym is) ∙ e)
one_goes_on threads tasks (y ∷ ids) (suc i) x l is e = ap (λ b. names_ended threads tasks y && b)
    (one_goes_on threads tasks ids i x (omega (arith, l)) is e) ∙ go (names_ended threads tasks y)
  where
    go : (b : Bool) → b && false ≡ false
    go true = refl
    go false = refl
