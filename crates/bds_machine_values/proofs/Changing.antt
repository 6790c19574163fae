-- A part of a value is changed as the part one step below is.
use Rattle.std.proofs.Common.{◌≡◌, ◌&&◌, ℕ, ℤ, pos, negsuc, List, [], ◌∷◌, length, ◌<◌, ◌≤◌, Bool, true, false, cond, slice_get, slice_set, Option, Some, None, Result, Ok, Err, IsSome, refl, ap, ◌∙◌}
use Rattle.std.proofs.lemmas.Option.{slice_get_past, slice_get-get_or}
use Rattle.bds_value.specs.declared.faults.RunFault.{RunFault}
use Rattle.bds_value.specs.declared.faults.RunFault.TheVariants as run
use Rattle.bds_value.specs.declared.faults.PutFault.{PutFault}
use Rattle.bds_value.specs.declared.faults.PutFault.TheVariants.{NoIndex}
use Rattle.bds_value.specs.declared.value.Place.{Place}
use Rattle.bds_value.specs.declared.value.Place.TheVariants.{Index, Key}
use Rattle.bds_value.specs.declared.value.Ty.{Ty}
use Rattle.bds_value.specs.declared.value.Value.{Value, out-Value}
use Rattle.bds_value.specs.declared.value.Value.TheVariants as value
use Rattle.bds_value.specs.declared.value.Value.TheOpen.{Value-F}
use Rattle.bds_value.specs.Results.{result_map}
use Rattle.bds_value.specs.Path.{at_index, at_key, child, fault_at, onward, item_of, put_in, put_step, put_index, put_key, nat_of, set_key, add_key, replace_key}
use Rattle.bds_value.specs.Value.{type_of}
use Rattle.bds_value.specs.RunFaults.{put_fault}
use Rattle.bds_value.specs.Options.{◌>>=◌}
use Rattle.bds_machine_values.specs.declared.faults.RowFault.{RowFault}
use Rattle.bds_machine_values.specs.declared.faults.RowFault.TheVariants.{Fault, NoMemory}
use Rattle.bds_machine_values.specs.Faults.{Outcome, outcome, and_then, IsFaultOf, Leaves}
use Rattle.bds_machine_values.specs.declared.changes.Change.{Change}
use Rattle.bds_machine_values.specs.declared.changes.Change.TheVariants.{Replace}
use Rattle.bds_machine_values.specs.Changes.{part_after, value_after}
use Rattle.bds_machine_values.specs.Results.{has_parts, if_there, walks, put_at, remade, with_part}
use Rattle.bds_machine_values.specs.Typing.{leads, suits}
use Rattle.bds_machine_values.proofs.Applied.{there_where}

-- a result, put into what it is a part of
abbrev pub lifted : {X Y : Type 0} → (X → Y) → Outcome X → Outcome Y
lifted f o = and_then o (λ x. Some (Ok (f x)))

pub some_lifted : {X Y : Type 0} (f : X → Y) (o : Outcome X) → IsSome (lifted f o) → IsSome o
some_lifted f None h = h
some_lifted f (Some r) h = refl

pub leaves_lifted : {X Y : Type 0} (f : X → Y) (o : Outcome X) (y : X) (r : Result (Unit {0}) RowFault) → Leaves o y r → Leaves (lifted f o) (f y) r
leaves_lifted f o y (Ok u) e = ap (lifted f) e
leaves_lifted f o y (Err (Fault e)) h = ap (lifted f) h
leaves_lifted f o y (Err NoMemory) h = tt

stops : {X Y Z : Type 0} (f : Y → Z) (o : Option RunFault) (go : X → Outcome Y) (go' : X → Outcome Z) → and_then (o >>= λ e. Some (Err e)) go' ≡ lifted f (and_then (o >>= λ e. Some (Err e)) go)
stops f None go go' = refl
stops f (Some e) go go' = refl

ends : {Y Z : Type 0} (f : Y → Z) (o : Option RunFault) → (o >>= λ e. Some (Err e)) ≡ lifted f (o >>= λ e. Some (Err e))
ends f None = refl
ends f (Some e) = refl

puts : {X : Type 0} (f : X → Value) (r : Result X PutFault) → outcome put_fault (result_map f r) ≡ lifted f (outcome put_fault r)
puts f (Ok y) = refl
puts f (Err e) = ends f (put_fault e)

module _ (f : Value → Value) (make : Value → Outcome Value) (inner outer : Value → Result Value PutFault) (same : (new : Value) → outer new ≡ result_map f (inner new)) where
  new_put : (o : Outcome Value) → and_then o (λ new. outcome put_fault (outer new)) ≡ lifted f (and_then o (λ new. outcome put_fault (inner new)))
  new_put None = refl
  new_put (Some (Err e)) = refl
  new_put (Some (Ok new)) = ap (outcome put_fault) (same new) ∙ puts f (inner new)

  part_put : (r : Result Value PutFault)
      → and_then (outcome put_fault r) (λ part. and_then (make part) (λ new. outcome put_fault (outer new)))
      ≡ lifted f (and_then (outcome put_fault r) (λ part. and_then (make part) (λ new. outcome put_fault (inner new))))
  part_put (Ok part) = new_put (make part)
  part_put (Err e) = stops f (put_fault e) _ _

-- a result that is there where a test holds, put into what it is a part of
lifted_where : (b : Bool) (f : Value → Value) (o : Outcome Value) → cond b (lifted f o) None ≡ lifted f (cond b o None)
lifted_where true f o = refl
lifted_where false f o = refl

changed_below : (make : Value → Outcome Value) (p : Place) (rest : List Place) (v x : Value) (f : Value → Value) → has_parts p (out-Value v) ≡ true → child p (out-Value v) ≡ Some x
    → ((new : Value) → put_in (p ∷ rest) v new ≡ result_map f (put_in rest x new)) → with_part make (p ∷ rest) v ≡ lifted f (with_part make rest x)
changed_below make p rest v x f parts there put =
    let walked : walks (p ∷ rest) v ≡ walks rest x = ap (λ b. b && if_there (child p (out-Value v)) (walks rest)) parts ∙ ap (λ o. if_there o (walks rest)) there in
    let same : remade make (p ∷ rest) v ≡ lifted f (remade make rest x) =
    ap (λ o. and_then (outcome put_fault (onward o (fault_at p (out-Value v)) (item_of rest))) (λ part. and_then (make part) (λ new. outcome put_fault (put_in (p ∷ rest) v new)))) there
    ∙ part_put f make (put_in rest x) (put_in (p ∷ rest) v) put (item_of rest x)
    in
    ap (λ b. cond b (remade make (p ∷ rest) v) None) walked ∙ ap (λ o. cond (walks rest x) o None) same ∙ lifted_where (walks rest x) f (remade make rest x)

twice : {X Y : Type 0} (g : Y → Value) (f : X → Y) (r : Result X PutFault) → result_map g (result_map f r) ≡ result_map (λ x. g (f x)) r
twice g f (Ok x) = refl
twice g f (Err e) = refl

-- at an index that is there
pub index_there : (make : Value → Outcome Value) (i : ℤ) (n : ℕ) (rest : List Place) (t : Ty) (items : List Value) (x : Value) → i ≡ pos n → slice_get items n ≡ Some x
    → with_part make (Index i ∷ rest) (value.List t items) ≡ lifted (λ y. value.List t (slice_set items n y)) (with_part make rest x)
index_there make i n rest t items x is at =
    changed_below make (Index i) rest (value.List t items) x (λ y. value.List t (slice_set items n y))
    (ap (has_parts (Index i)) (value.outs-List t items))
    (ap (child (Index i)) (value.outs-List t items) ∙ ap (λ i. at_index i items) is ∙ at)
    (λ new.
    let go : Value → Result Value PutFault = λ w. put_in rest w new in
    let put : Value → Result (List Value) PutFault = λ w. result_map (λ y. slice_set items n y) (go w) in
    ap (λ s. put_step (Index i) s rest new go) (value.outs-List t items)
    ∙ ap (λ i. result_map (value.List t) (put_index i items go)) is
    ∙ ap (λ o. result_map (value.List t) (onward o (NoIndex (pos n) (length items)) put)) at
    ∙ twice (value.List t) (λ y. slice_set items n y) (go x))

no_item : (i : ℤ) (items : List Value) → ((n : ℕ) → i ≡ pos n → length items ≤ n) → at_index i items ≡ None
no_item (pos n) items h = slice_get_past items n (h n refl)
no_item (negsuc n) items h = refl

stopped : (make : Value → Outcome Value) (p : Place) (rest : List Place) (v : Value) (shape : Value-F Value) → out-Value v ≡ shape → has_parts p shape ≡ true → child p shape ≡ None
    → with_part make (p ∷ rest) v ≡ and_then (outcome put_fault (Err (fault_at p shape))) (λ part. and_then (make part) (λ new. outcome put_fault (put_in (p ∷ rest) v new)))
stopped make p rest v shape is parts none =
    let walked : walks (p ∷ rest) v ≡ true =
    ap (λ s. has_parts p s && if_there (child p s) (walks rest)) is ∙ ap (λ b. b && if_there (child p shape) (walks rest)) parts ∙ ap (λ o. if_there o (walks rest)) none
    in
    let go : Value → Outcome Value = λ part. and_then (make part) (λ new. outcome put_fault (put_in (p ∷ rest) v new)) in
    ap (λ b. cond b (remade make (p ∷ rest) v) None) walked
    ∙ ap (λ s. and_then (outcome put_fault (onward (child p s) (fault_at p s) (item_of rest))) go) is ∙ ap (λ o. and_then (outcome put_fault (onward o (fault_at p shape) (item_of rest))) go) none

pub index_gone : (make : Value → Outcome Value) (i : ℤ) (rest : List Place) (t : Ty) (items : List Value) → ((n : ℕ) → i ≡ pos n → length items ≤ n)
    → with_part make (Index i ∷ rest) (value.List t items) ≡ Some (Err (run.NoIndex i (length items)))
index_gone make i rest t items h = stopped make (Index i) rest (value.List t items) (Value-F.List t items) (value.outs-List t items) refl (no_item i items h)

-- at a key that is there
pub key_there : (make : Value → Outcome Value) (k : List ℕ) (rest : List Place) (t : Ty) (ps : List (List ℕ × Value)) (w : Value) → at_key k ps ≡ Some w
    → with_part make (Key k ∷ rest) (value.Map t ps) ≡ lifted (λ y. value.Map t (set_key k y ps)) (with_part make rest w)
key_there make k rest t ps w at =
    changed_below make (Key k) rest (value.Map t ps) w (λ y. value.Map t (set_key k y ps))
    (ap (has_parts (Key k)) (value.outs-Map t ps))
    (ap (child (Key k)) (value.outs-Map t ps) ∙ at)
    (λ new.
    let go : Value → Result Value PutFault = λ w. put_in rest w new in
    ap (λ s. put_step (Key k) s rest new go) (value.outs-Map t ps)
    ∙ ap (λ o. result_map (value.Map t) (replace_key k ps o (add_key k new ps rest) go)) at
    ∙ twice (value.Map t) (λ y. set_key k y ps) (go w))

pub key_missing : (make : Value → Outcome Value) (k : List ℕ) (rest : List Place) (t : Ty) (ps : List (List ℕ × Value)) → at_key k ps ≡ None
    → with_part make (Key k ∷ rest) (value.Map t ps) ≡ Some (Err (run.NoKey k))
key_missing make k rest t ps none = stopped make (Key k) rest (value.Map t ps) (Value-F.Map t ps) (value.outs-Map t ps) refl none

-- a value is put at a key of a map
pub entry_put : (k : List ℕ) (t : Ty) (ps : List (List ℕ × Value)) (new : Value) → IsSome (put_at (Key k ∷ []) (value.Map t ps) new)
    → put_at (Key k ∷ []) (value.Map t ps) new ≡ lifted (value.Map t) (outcome put_fault (put_key k ps [] new (λ w. Ok new)))
entry_put k t ps new h =
    there_where (suits (Key k ∷ []) (type_of (value.Map t ps)) (type_of new)) (outcome put_fault (put_in (Key k ∷ []) (value.Map t ps) new)) h
    ∙ ap (λ s. outcome put_fault (put_step (Key k) s [] new (λ w. Ok new))) (value.outs-Map t ps)
    ∙ puts (value.Map t) (put_key k ps [] new (λ w. Ok new))

-- a value is put at an index of a list
pub item_put : (i : ℤ) (t : Ty) (items : List Value) (new : Value) → IsSome (put_at (Index i ∷ []) (value.List t items) new)
    → put_at (Index i ∷ []) (value.List t items) new ≡ lifted (value.List t) (outcome put_fault (put_index i items (λ w. Ok new)))
item_put i t items new h =
    there_where (suits (Index i ∷ []) (type_of (value.List t items)) (type_of new)) (outcome put_fault (put_in (Index i ∷ []) (value.List t items) new)) h
    ∙ ap (λ s. outcome put_fault (put_step (Index i) s [] new (λ w. Ok new))) (value.outs-List t items)
    ∙ puts (value.List t) (put_index i items (λ w. Ok new))

pub put_there : (i : ℤ) (n : ℕ) (items : List Value) (new : Value) → i ≡ pos n → n < length items → outcome put_fault (put_index i items (λ w. Ok new)) ≡ Some (Ok (slice_set items n new))
put_there i n items new is l =
    ap (λ i. outcome put_fault (put_index i items (λ w. Ok new))) is
    ∙ ap (λ o. outcome put_fault (onward o (NoIndex (pos n) (length items)) (λ x. Ok (slice_set items n new)))) (slice_get-get_or items n new l)

pub put_gone : (i : ℤ) (items : List Value) (new : Value) → ((n : ℕ) → i ≡ pos n → length items ≤ n) → outcome put_fault (put_index i items (λ w. Ok new)) ≡ Some (Err (run.NoIndex i (length items)))
put_gone i items new h = ap (λ o. outcome put_fault (onward o (NoIndex i (length items)) (λ x. Ok (slice_set items (nat_of i) new)))) (no_item i items h)

-- a fault that is told of what stops so
pub told_fault : {X : Type 0} (o : Outcome X) (e : RunFault) (y : X) (fault : RowFault) → o ≡ Some (Err e) → IsFaultOf (Some e) fault → Leaves o y (Err fault)
told_fault o e y (Fault f) stopped h = stopped ∙ ap (λ o. o >>= λ e. Some (Err e)) h
told_fault o e y NoMemory stopped h = tt

-- a change that is no replacement changes the part where it stands
pub other_change : (change : Change) (path : List Place) (v : Value) → ((new : Value) → change ≡ Replace new → ⊥) → IsSome (value_after change path v) → value_after change path v ≡ with_part (part_after change) path v
other_change (Replace new) path v h there = absurd (h new refl)
other_change change path v h there = there_where (leads path (type_of v)) (with_part (part_after change) path v) there
