-- A variable is changed where it stands, once the operands are taken.
use Rattle.std.proofs.Common.{◌≡◌, ◌<◌, ℕ, subst, arith, List, [], ◌∷◌, length, slice_get, slice_set, Bool, Option, Some, None, Result, Ok, Err, IsSome, refl, sym, ap, ◌∙◌}
use Rattle.std.proofs.lemmas.Grind.{common_steps}
use Rattle.std.proofs.lemmas.List.{set-set, get_or-set_same}
use Rattle.std.proofs.lemmas.Option.{slice_get-get_or, slice_get_within}
use Rattle.bds_value.specs.declared.value.Place.{Place}
use Rattle.bds_value.specs.declared.value.Value.{Value}
use Rattle.bds_value.specs.Options.{◌>>=◌}
use Rattle.bds_code_frames.specs.Stack.{Stack, swapped, slot_at, beside, with_slots}
use Rattle.bds_machine_values.specs.declared.faults.RowFault.{RowFault}
use Rattle.bds_machine_values.specs.declared.faults.RowFault.TheVariants.{Fault, NoMemory}
use Rattle.bds_machine_values.specs.Faults.{Outcome, and_then, Leaves}
use Rattle.bds_machine_values.specs.Operands.{taken_all}
use Rattle.bds_code.specs.declared.instr.Instr.{Instr}
use Rattle.bds_code.specs.declared.instr.Instr.TheVariants.{StoreGlobal, Update}
use Rattle.bds_machine_values.specs.Worked.{worked, changed, beside as keeping}
use Rattle.bds_machine_values.specs.declared.changes.Change.{Change}
use Rattle.bds_machine_values.specs.Changes.{IsChangeOf, args_taken, path_taken, value_after}
use Rattle.bds_machine_values.specs.Results.{with_part}
use Rattle.bds_machine_values.specs.Updates.{operand_counts, path_of, value_changed, variable, assigned, updated}

pub some_first : {X Y : Type 0} (o : Outcome X) (go : X → Outcome Y) → IsSome (and_then o go) → IsSome o
some_first None go h = h
some_first (Some r) go h = refl

-- a change at the end of a path is one of the value itself
pub changed_here : (make : Value → Outcome Value) (path : List Place) (v : Value) → length path < 1 → IsSome (with_part make path v) → IsSome (make v)
changed_here make [] v l h = some_first (make v) _ h
changed_here make (p ∷ ps) v l h = absurd (omega (arith, l))

pub leaves_then : {X Y : Type 0} (o : Outcome X) (go : X → Outcome Y) (x : X) (y : Y) (r : Result (Unit {0}) RowFault) → go x ≡ Some (Ok y) → Leaves o x r → Leaves (and_then o go) y r
leaves_then o go x y (Ok u) last e = ap (λ o. and_then o go) e ∙ last
leaves_then o go x y (Err (Fault e)) last h = ap (λ o. and_then o go) h
leaves_then o go x y (Err NoMemory) last h = tt

-- a slot of the newest call, whose value is taken out and put back

pub slot_held : (s after : Stack) (i : ℕ) (w x v : Value) → swapped i w s ≡ Some (x, after) → slot_at i s ≡ Some v → x ≡ v
slot_held [] after i w x v e at = absurd (cc)
slot_held (c ∷ below) after i w x v e at =
    let taken : Some (v, with_slots (slice_set c.slots i w) c ∷ below) ≡ Some (x, after) = ap (λ o. beside o (with_slots (slice_set c.slots i w) c ∷ below)) (sym at) ∙ e in
    let same : (v, with_slots (slice_set c.slots i w) c ∷ below) ≡ (x, after) = cc in
    sym (ap (λ (p : Value × Stack). p.0) same)

pub swapped_cell : (o : Option Value) (s after : Stack) (x : Value) → beside o s ≡ Some (x, after) → (o ≡ Some x) × (s ≡ after)
swapped_cell None s after x e = absurd (cc)
swapped_cell (Some y) s after x e =
    let same : (y, s) ≡ (x, after) = cc in
    (ap (λ (p : Value × Stack). Some p.0) same, ap (λ (p : Value × Stack). p.1) same)

set_there : (xs : List Value) (i : ℕ) (x w : Value) → slice_get xs i ≡ Some x → slice_get (slice_set xs i w) i ≡ Some w
set_there xs i x w e =
    let l = slice_get_within xs i x e in
    let l' : i < length (slice_set xs i w) = grind (arith, common_steps) in
    slice_get-get_or (slice_set xs i w) i w l' ∙ ap Some (get_or-set_same xs i w w l)

put_back : (s mid : Stack) (i : ℕ) (w x new : Value) → swapped i w s ≡ Some (x, mid) → (after : Stack) × (swapped i new mid ≡ Some (w, after)) × (swapped i new s ≡ Some (x, after))
put_back [] mid i w x new e = absurd (cc)
put_back (c ∷ below) mid i w x new e =
    let cell = swapped_cell (slice_get c.slots i) (with_slots (slice_set c.slots i w) c ∷ below) mid x e in
    let after : Stack = with_slots (slice_set c.slots i new) c ∷ below in (
      after,
      ap (swapped i new) (sym cell.1) ∙ ap (λ o. beside o (with_slots (slice_set (slice_set c.slots i w) i new) c ∷ below)) (set_there c.slots i x w cell.0)
          ∙ ap (λ slots. beside (Some w) (with_slots slots c ∷ below)) (set-set c.slots i w new),
      ap (λ o. beside o after) cell.0,
    )

pub some_back : (s mid : Stack) (i : ℕ) (w x new : Value) → swapped i w s ≡ Some (x, mid) → IsSome (swapped i new mid)
some_back s mid i w x new e = subst IsSome (sym (put_back s mid i w x new e).1) refl

pub swapped_back : (s mid end : Stack) (i : ℕ) (w x y new : Value) → swapped i w s ≡ Some (x, mid) → swapped i new mid ≡ Some (y, end) → swapped i new s ≡ Some (x, end)
swapped_back s mid end i w x y new e back =
    let r = put_back s mid i w x new e in
    let ends : Some (w, r.0) ≡ Some (y, end) = sym r.1 ∙ back in
    let same : (w, r.0) ≡ (y, end) = cc in
    r.2 ∙ ap (λ (p : Value × Stack). Some (x, p.1)) same

pub some_both : {A B : Type 0} (o : Option A) (go : A → Option B) → IsSome (o >>= go) → (x : A) × (o ≡ Some x) × IsSome (go x)
some_both None go h = absurd (cc)
some_both (Some x) go h = (x, refl, h)

bind_bind : {A B C : Type 0} (o : Option A) (f : A → Option B) (go : B → Option C) → (o >>= λ x. f x >>= go) ≡ ((o >>= f) >>= go)
bind_bind None f go = refl
bind_bind (Some x) f go = refl

module _ (scope : Bool) (slot : ℕ) (kinds : List Bool) (what : ℕ) (globals : List Value) where
  -- what is left of an update once its operands are taken
  abbrev applied : (List Place → Value → Outcome Value) → List Place × Stack → Outcome (List Value × Stack)
  applied change p = variable scope slot globals p.1 >>= λ v. and_then (change p.0 v) (λ new. assigned scope slot new globals p.1)

  abbrev by_args : List Value → List Place → Value → Outcome Value
  by_args args path v = value_changed what path v args

  path_first : (s : Stack) (go : List Place × Stack → Outcome (List Value × Stack)) → (taken_all (length kinds) s >>= λ steps. path_of kinds steps.0 >>= λ path. go (path, steps.1)) ≡ (path_taken kinds s >>= go)
  path_first s go = by_taken (taken_all (length kinds) s)
    where
      by_taken : (o : Option (List Value × Stack)) → (o >>= λ steps. path_of kinds steps.0 >>= λ path. go (path, steps.1)) ≡ ((o >>= λ steps. path_of kinds steps.0 >>= λ path. Some (path, steps.1)) >>= go)
      by_taken None = refl
      by_taken (Some steps) = bind_bind (path_of kinds steps.0) (λ path. Some (path, steps.1)) go

  in_turn : (s : Stack) → updated scope slot kinds what globals s ≡ (args_taken what s >>= λ args. path_taken kinds args.1 >>= applied (by_args args.0))
  in_turn s =
      bind_bind (slice_get operand_counts what) (λ n. taken_all n s) (λ args. taken_all (length kinds) args.1 >>= λ steps. path_of kinds steps.0 >>= λ path. applied (by_args args.0) (path, steps.1))
      ∙ by_taken (args_taken what s)
    where
      by_taken : (o : Option (List Value × Stack))
          → (o >>= λ args. taken_all (length kinds) args.1 >>= λ steps. path_of kinds steps.0 >>= λ path. applied (by_args args.0) (path, steps.1)) ≡ (o >>= λ args. path_taken kinds args.1 >>= applied (by_args args.0))
      by_taken None = refl
      by_taken (Some args) = path_first args.1 (applied (by_args args.0))

  pub args_there : (s : Stack) → IsSome (updated scope slot kinds what globals s) → IsSome (args_taken what s)
  args_there s h = let r = some_both (args_taken what s) (λ args. path_taken kinds args.1 >>= applied (by_args args.0)) (subst IsSome (in_turn s) h) in subst IsSome (sym r.1) refl

  behind_args : (s mid : Stack) (args : List Value) → args_taken what s ≡ Some (args, mid) → updated scope slot kinds what globals s ≡ (path_taken kinds mid >>= applied (by_args args))
  behind_args s mid args taken = in_turn s ∙ ap (λ o. o >>= λ args. path_taken kinds args.1 >>= applied (by_args args.0)) taken

  pub path_there : (s mid : Stack) (args : List Value) → args_taken what s ≡ Some (args, mid) → IsSome (updated scope slot kinds what globals s) → IsSome (path_taken kinds mid)
  path_there s mid args taken h = let r = some_both (path_taken kinds mid) (applied (by_args args)) (subst IsSome (behind_args s mid args taken) h) in subst IsSome (sym r.1) refl

  pub update_left : (s mid end : Stack) (args : List Value) (change : Change) (path : List Place) → args_taken what s ≡ Some (args, mid) → IsChangeOf what args change → path_taken kinds mid ≡ Some (path, end)
      → updated scope slot kinds what globals s ≡ (variable scope slot globals end >>= λ v. and_then (value_after change path v) (λ new. assigned scope slot new globals end))
  update_left s mid end args change path taken is steps = behind_args s mid args taken ∙ ap (λ o. o >>= applied (by_args args)) steps ∙ by_value (variable scope slot globals end)
    where
      by_value : (o : Option Value)
          → (o >>= λ v. and_then (value_changed what path v args) (λ new. assigned scope slot new globals end)) ≡ (o >>= λ v. and_then (value_after change path v) (λ new. assigned scope slot new globals end))
      by_value None = refl
      by_value (Some v) = ap (λ o. and_then o (λ new. assigned scope slot new globals end)) (is path v)

-- a row that is no store and no change leaves the globals
pub others_changed : (i : Instr) (g : List Value) (s : Stack) → ((n : ℕ) → i ≡ StoreGlobal n → ⊥) → ((b : Bool) (n : ℕ) (kinds : List Bool) (what : ℕ) → i ≡ Update b n kinds what → ⊥) → changed i g s ≡ keeping g (worked i g s)
others_changed (StoreGlobal n) g s store update = absurd (store n refl)
others_changed (Update b n kinds what) g s store update = absurd (update b n kinds what refl)
others_changed i g s store update = refl
