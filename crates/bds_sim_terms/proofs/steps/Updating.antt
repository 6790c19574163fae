-- The row that changes a part of a variable.
use Rattle.std.proofs.Common.{◌≡◌, ℕ, ℤ, ◌+◌, Bool, true, false, cond, List, [], ◌∷◌, ◌++◌, map, length, reverse, Option, Some, None, IsSome, Result, Ok, Err, slice_get, slice_set, refl, sym, ap, ◌∙◌, subst, inl, inr, arith}
use Rattle.std.specs.Prelude.{if◌then◌else◌}
use Rattle.bds_lib.specs.Change.{change_of}
use Rattle.bds_value.specs.declared.faults.PutFault.{PutFault}
use Rattle.bds_value.specs.declared.value.Op.TheVariants as op
use Rattle.bds_value.specs.declared.value.Place.{Place}
use Rattle.bds_value.specs.declared.value.Place.TheVariants.{Index, Key}
use Rattle.bds_value.specs.declared.value.Ty.{Ty, out-Ty, fold-Ty}
use Rattle.bds_value.specs.declared.value.Ty.TheOpen.{Ty-F}
use Rattle.bds_value.specs.declared.value.Value.{Value, out-Value}
use Rattle.bds_value.specs.declared.value.Value.TheOpen.{Value-F}
use Rattle.bds_value.specs.Operators.{short_text}
use Rattle.bds_value.specs.Path.{item_of, put_in}
use Rattle.bds_value.specs.Text.{text_of}
use Rattle.bds_value.specs.Value.{type_of}
use Rattle.bds_value.specs.declared.faults.RunFault.{RunFault}
use Rattle.bds_code.specs.declared.instr.Instr.TheVariants as instr
use Rattle.bds_code.specs.declared.unit.Function.{Function}
use Rattle.bds_code.specs.declared.unit.Unit.{Unit as CodeUnit}
use Rattle.bds_value.specs.Types.{same_ty}
use Rattle.bds_code_frames.specs.Stack.{Stack}
use Rattle.bds_machine_values.specs.Faults.{Outcome, outcome, and_then}
use Rattle.bds_value.specs.RunFaults.{op_fault as as_fault, put_fault as as_put_fault}
use Rattle.bds_machine.specs.Calls.{Step, On}
use Rattle.bds_value.specs.Options.{◌>>=◌}
use Rattle.bds_value.specs.Readers.{as_int, as_text}
use Rattle.bds_machine_values.specs.Operands.{taken_all}
use Rattle.bds_machine_values.specs.Results.{applied, mutated, remade, with_part, remade_at, walks}
use Rattle.bds_machine_values.specs.Typing.{leads, suits}
use Rattle.bds_machine_values.specs.Updates.{operand_counts, step_of, path_of, more_items, added_at, added, value_changed, variable, assigned}
use Rattle.bds_machine.specs.Table.{onward, row}
use Rattle.bds_schedule.specs.Faults.{outcome as source_outcome, and_then as source_then}
use Rattle.bds_value.specs.RunFaults.{op_fault as source_fault, put_fault as source_put_fault}
use Rattle.bds_lib.specs.RunFaults.{lib_fault as source_lib_fault}
use Rattle.bds_meaning.specs.Term.{Change, Replaced, Increased, Reckoned, Mutated, Into, by_index, by_key}
use Rattle.bds_meaning.specs.Updates.{place_of, path_of as source_path, operated as source_operated, added_at as source_added_at, added as source_added, put, value_after}
use Rattle.bds_value.specs.Readers.{number_in, text_in}
use Rattle.bds_sim_terms.specs.steps.Stands.{is_key, IsMutation, IsChange}
use Rattle.bds_sim_terms.proofs.steps.Computing.{Tells, mutated_told, put_told}
use Rattle.bds_sim.proofs.Reading.{number_read, text_read}
use Rattle.bds_sim_terms.proofs.steps.Rows.{frame, applied_told, outcome_told, taken_front}

-- a path

step_read : (k : Into) (v : Value) (p : Place) → step_of (is_key k) v ≡ Some p → place_of k v ≡ p
step_read by_index v p e = go (as_int v) refl e
  where
    go : (q : Option ℤ) → as_int v ≡ q → (q >>= λ i. Some (Index i)) ≡ Some p → Index (number_in v) ≡ p
    go None q e = absurd (cc e)
    go (Some i) q e = ap Index (number_read (out-Value v) i q) ∙ (let r : Index i ≡ p = cc e in r)
step_read by_key v p e = go (as_text v) refl e
  where
    go : (q : Option (List ℕ)) → as_text v ≡ q → (q >>= λ k. Some (Key k)) ≡ Some p → Key (text_in v) ≡ p
    go None q e = absurd (cc e)
    go (Some k) q e = ap Key (text_read (out-Value v) k q) ∙ (let r : Key k ≡ p = cc e in r)

pub path_read : (into : List Into) (steps rest : List Value) (path : List Place) → path_of (map is_key into) steps ≡ Some path → source_path into (steps ++ rest) ≡ path
path_read [] [] rest path e = ends rest path e
  where
    ends : (rest : List Value) (path : List Place) → ◌≡◌ {A = Option (List Place)} (Some []) (Some path) → source_path [] rest ≡ path
    ends [] path e = cc e
    ends (v ∷ vs) path e = cc e
path_read [] (v ∷ steps) rest path e = absurd (cc e)
path_read (k ∷ into) [] rest path e = absurd (cc e)
path_read (k ∷ into) (v ∷ steps) rest path e = go (λ more q. path_read into steps rest more q) (step_of (is_key k) v) refl (path_of (map is_key into) steps) refl e
  where
    go : ((more : List Place) → path_of (map is_key into) steps ≡ Some more → source_path into (steps ++ rest) ≡ more) → (q : Option Place) → step_of (is_key k) v ≡ q → (qs : Option (List Place)) → path_of (map is_key into) steps ≡ qs
        → (q >>= λ p. qs >>= λ ps. Some (p ∷ ps)) ≡ Some path → place_of k v ∷ source_path into (steps ++ rest) ≡ path
    go again None q qs e1 e = absurd (cc e)
    go again (Some p) q None e1 e = absurd (cc e)
    go again (Some p) q (Some ps) e1 e = ap (λ p. p ∷ source_path into (steps ++ rest)) (step_read k v p q) ∙ ap (λ l. p ∷ l) (again ps e1) ∙ (let r : p ∷ ps ≡ path = cc e in r)

-- a part behind a change

then_told : {X : Type 0} (first' : Outcome X) (told : Result X RunFault) (go : X → Outcome Value) (go' : X → Result Value RunFault) → (IsSome first' → first' ≡ Some told) → ((x : X) → Tells (go x) (go' x)) → Tells (and_then first' go) (source_then told go')
then_told None told go go' h g some = absurd (cc some)
then_told (Some (Ok x)) told go go' h g some = let e : Ok x ≡ told = cc (h refl) in g x some ∙ ap (λ r. Some (source_then r go')) e
then_told (Some (Err e)) told go go' h g some = let q : ◌≡◌ {A = Result _ RunFault} (Err e) told = cc (h refl) in ap (λ r. Some (source_then r go')) q

cond_told : (b : Bool) (x : Outcome Value) (r : Result Value RunFault) → Tells x r → Tells (cond b x None) r
cond_told true x r h some = h some
cond_told false x r h some = absurd (cc some)

more_told : (part x : Value) → Tells (more_items part x) (source_operated (if same_ty (type_of part) (type_of x) then op.ListCat else op.ListAdd) part x)
more_told part x = go (same_ty (type_of part) (type_of x))
  where
    go : (b : Bool) → Tells (if b then applied op.ListCat part x else applied op.ListAdd part x) (source_operated (if b then op.ListCat else op.ListAdd) part x)
    go true = applied_told op.ListCat part x
    go false = applied_told op.ListAdd part x

added_told : (f : Value-F Value) (part x : Value) → Tells (added_at f part x) (source_added_at f part x)
added_told (Value-F.Int n) part x = applied_told op.Add part x
added_told (Value-F.Text t) part x = then_told (outcome as_fault (short_text (text_of x))) (source_outcome source_fault (short_text (text_of x))) (applied op.Concat part) (source_operated op.Concat part) (outcome_told (short_text (text_of x))) (applied_told op.Concat part)
added_told (Value-F.List t items) part x = more_told part x
added_told (Value-F.Bool b) part x = λ some. absurd (cc some)
added_told (Value-F.Map t ps) part x = λ some. absurd (cc some)

item_told : (path : List Place) (v : Value) (r : Result Value PutFault) → Tells (outcome as_put_fault r) (source_outcome source_put_fault r)
item_told path v r = put_told r

-- a value whose part at a path is made anew
remade_told : (make : Value → Outcome Value) (after : Value → Result Value RunFault) (path : List Place) (v : Value) → ((part : Value) → Tells (make part) (after part))
    → Tells (remade_at make path v) (source_then (source_outcome source_put_fault (item_of path v)) (λ part. source_then (after part) (put path v)))
remade_told make after path v h =
    cond_told (leads path (type_of v)) (with_part make path v) _
    (cond_told (walks path v) (remade make path v) _
    (then_told (outcome as_put_fault (item_of path v)) (source_outcome source_put_fault (item_of path v)) (λ part. and_then (make part) (λ new. outcome as_put_fault (put_in path v new))) (λ part. source_then (after part) (put path v)) (put_told (item_of path v))
    (λ part. then_told (make part) (after part) (λ new. outcome as_put_fault (put_in path v new)) (put path v) (h part) (λ new. put_told (put_in path v new)))))

one : (P : List Value → Type 0) (us : List Value) → length us ≡ 1 → ((x : Value) → P (x ∷ [])) → P us
one P [] e h = absurd (omega (arith, e))
one P (x ∷ []) e h = h x
one P (x ∷ y ∷ us) e h = absurd (omega (arith, e))

-- a value behind a change, by the change's number
pub value_told : (change : Change) (what n : ℕ) (path : List Place) (v : Value) (args : List Value) → IsChange change what n → length args ≡ n → Tells (value_changed what path v args) (value_after change args path v)
value_told Replaced what n path v args c e =
    subst (λ what. Tells (value_changed what path v args) (value_after Replaced args path v)) (sym c.0)
    (one (λ args. Tells (value_changed 0 path v args) (value_after Replaced args path v)) args (e ∙ c.1) λ x. cond_told (suits path (type_of v) (type_of x)) (outcome as_put_fault (put_in path v x)) _ (put_told (put_in path v x)))
value_told Increased what n path v args c e =
    subst (λ what. Tells (value_changed what path v args) (value_after Increased args path v)) (sym c.0)
    (one (λ args. Tells (value_changed 1 path v args) (value_after Increased args path v)) args (e ∙ c.1) λ x. remade_told (λ part. added part x) (λ part. source_added part x) path v (λ part. added_told (out-Value part) part x))
value_told (Reckoned op.Sub) what n path v args c e =
    subst (λ what. Tells (value_changed what path v args) (value_after (Reckoned op.Sub) args path v)) (sym c.0)
    (one (λ args. Tells (value_changed 2 path v args) (value_after (Reckoned op.Sub) args path v)) args (e ∙ c.1) λ x. remade_told (λ part. applied op.Sub part x) (λ part. source_operated op.Sub part x) path v (λ part. applied_told op.Sub part x))
value_told (Reckoned op.Mul) what n path v args c e =
    subst (λ what. Tells (value_changed what path v args) (value_after (Reckoned op.Mul) args path v)) (sym c.0)
    (one (λ args. Tells (value_changed 3 path v args) (value_after (Reckoned op.Mul) args path v)) args (e ∙ c.1) λ x. remade_told (λ part. applied op.Mul part x) (λ part. source_operated op.Mul part x) path v (λ part. applied_told op.Mul part x))
value_told (Reckoned op.Div) what n path v args c e =
    subst (λ what. Tells (value_changed what path v args) (value_after (Reckoned op.Div) args path v)) (sym c.0)
    (one (λ args. Tells (value_changed 4 path v args) (value_after (Reckoned op.Div) args path v)) args (e ∙ c.1) λ x. remade_told (λ part. applied op.Div part x) (λ part. source_operated op.Div part x) path v (λ part. applied_told op.Div part x))
value_told (Reckoned op.Rem) what n path v args c e =
    subst (λ what. Tells (value_changed what path v args) (value_after (Reckoned op.Rem) args path v)) (sym c.0)
    (one (λ args. Tells (value_changed 5 path v args) (value_after (Reckoned op.Rem) args path v)) args (e ∙ c.1) λ x. remade_told (λ part. applied op.Rem part x) (λ part. source_operated op.Rem part x) path v (λ part. applied_told op.Rem part x))
value_told (Mutated m) what n path v args c e = subst (λ what. Tells (value_changed what path v args) (value_after (Mutated m) args path v)) (sym c.0) (go c.1)
  where
    told : (k : ℕ) → Tells (remade_at (λ part. mutated k part args) path v) (value_after (Mutated k) args path v)
    told k = remade_told (λ part. mutated k part args) (λ part. source_outcome source_lib_fault (change_of k part args)) path v (λ part. mutated_told k part args)

    go : IsMutation m → Tells (value_changed m path v args) (value_after (Mutated m) args path v)
    go = elim [
      | inl e ↦ subst (λ k. Tells (value_changed k path v args) (value_after (Mutated k) args path v)) (sym e) (told 6)
      | inr (inl e) ↦ subst (λ k. Tells (value_changed k path v args) (value_after (Mutated k) args path v)) (sym e) (told 7)
      | inr (inr (inl e)) ↦ subst (λ k. Tells (value_changed k path v args) (value_after (Mutated k) args path v)) (sym e) (told 8)
      | inr (inr (inr (inl e))) ↦ subst (λ k. Tells (value_changed k path v args) (value_after (Mutated k) args path v)) (sym e) (told 9)
      | inr (inr (inr (inr e))) ↦ subst (λ k. Tells (value_changed k path v args) (value_after (Mutated k) args path v)) (sym e) (told 10)
    ]
value_told _ what n path v args c e = absurd c

pub count_is : (change : Change) (what n : ℕ) → IsChange change what n → slice_get operand_counts what ≡ Some n
count_is Replaced what n c = ap (λ w. slice_get operand_counts w) c.0 ∙ ap Some (sym c.1)
count_is Increased what n c = ap (λ w. slice_get operand_counts w) c.0 ∙ ap Some (sym c.1)
count_is (Reckoned op.Sub) what n c = ap (λ w. slice_get operand_counts w) c.0 ∙ ap Some (sym c.1)
count_is (Reckoned op.Mul) what n c = ap (λ w. slice_get operand_counts w) c.0 ∙ ap Some (sym c.1)
count_is (Reckoned op.Div) what n c = ap (λ w. slice_get operand_counts w) c.0 ∙ ap Some (sym c.1)
count_is (Reckoned op.Rem) what n c = ap (λ w. slice_get operand_counts w) c.0 ∙ ap Some (sym c.1)
count_is (Mutated m) what n c = ap (λ w. slice_get operand_counts w) c.0 ∙ c.2
count_is _ what n c = absurd c

module _ (u : CodeUnit) (f : Function) (fn pc : ℕ) (g slots : List Value) (below : Stack) (t : ℕ) where
  abbrev pub ends : Outcome (List Value × Stack) → Option Step
  ends r = onward f pc r t (λ x. On x.0 x.1 t)

  abbrev pub from_value : Bool → ℕ → List Value → Outcome Value → Option Step
  from_value scope n ops r = ends (and_then r (λ new. assigned scope n new g (frame fn (pc + 1) slots ops ∷ below)))

  abbrev pub from_variable : Bool → ℕ → ℕ → List Place → List Value → List Value → Option Value → Outcome (List Value × Stack)
  from_variable scope n what path args ops o = o >>= λ v. and_then (value_changed what path v args) (λ new. assigned scope n new g (frame fn (pc + 1) slots ops ∷ below))

  abbrev pub from_path : Bool → ℕ → ℕ → List Value → List Value → Option (List Place) → Option Step
  from_path scope n what args ops o = ends (o >>= λ path. from_variable scope n what path args ops (variable scope n g (frame fn (pc + 1) slots ops ∷ below)))

  abbrev from_steps : Bool → ℕ → List Bool → ℕ → List Value → Option (List Value × Stack) → Option Step
  from_steps scope n kinds what args o = ends (o >>= λ steps. path_of kinds steps.0 >>= λ path. variable scope n g steps.1 >>= λ v. and_then (value_changed what path v args) (λ new. assigned scope n new g steps.1))

  abbrev from_args : Bool → ℕ → List Bool → ℕ → Option (List Value × Stack) → Option Step
  from_args scope n kinds what o = ends (o >>= λ args. taken_all (length kinds) args.1 >>= λ steps. path_of kinds steps.0 >>= λ path. variable scope n g steps.1 >>= λ v. and_then (value_changed what path v args.0) (λ new. assigned scope n new g steps.1))

  abbrev from_count : Bool → ℕ → List Bool → ℕ → Stack → Option ℕ → Option Step
  from_count scope n kinds what s o = ends (o >>= λ k. taken_all k s >>= λ args. taken_all (length kinds) args.1 >>= λ steps. path_of kinds steps.0 >>= λ path. variable scope n g steps.1 >>= λ v. and_then (value_changed what path v args.0) (λ new. assigned scope n new g steps.1))

  pub update_row : (scope : Bool) (n : ℕ) (kinds : List Bool) (what k : ℕ) (xs ps ops : List Value) → slice_get operand_counts what ≡ Some k → length xs ≡ k → length ps ≡ length kinds
      → row u f (instr.Update scope n kinds what) pc g (frame fn pc slots (xs ++ (ps ++ ops)) ∷ below) t ≡ from_path scope n what (reverse xs) ops (path_of kinds (reverse ps))
  update_row scope n kinds what k xs ps ops counts e1 e2 =
      ap (from_count scope n kinds what (frame fn (pc + 1) slots (xs ++ (ps ++ ops)) ∷ below)) counts
      ∙ ap (from_args scope n kinds what) (taken_front fn (pc + 1) k slots xs (ps ++ ops) below e1)
      ∙ ap (from_steps scope n kinds what (reverse xs)) (taken_front fn (pc + 1) (length kinds) slots ps ops below e2)

  -- where the outcome is the source's
  pub record Updated (scope : Bool) (n what : ℕ) (args ops : List Value) (steps : List Value) (kinds : List Bool) (v : Value) : Type 0 where
    pub path : List Place
    pub led : path_of kinds steps ≡ Some path
    pub some : IsSome (value_changed what path v args)
    pub is : from_path scope n what args ops (path_of kinds steps) ≡ from_value scope n ops (value_changed what path v args)

  some_value : (scope : Bool) (n : ℕ) (ops : List Value) (r : Outcome Value) → IsSome (from_value scope n ops r) → IsSome r
  some_value scope n ops None h = absurd (cc h)
  some_value scope n ops (Some r) h = refl

  pub updated_there : (scope : Bool) (n what : ℕ) (args ops steps : List Value) (kinds : List Bool) (v : Value) (o : Option (List Place)) → path_of kinds steps ≡ o → variable scope n g (frame fn (pc + 1) slots ops ∷ below) ≡ Some v → IsSome (from_path scope n what args ops o) → Updated scope n what args ops steps kinds v
  updated_there scope n what args ops steps kinds v None e var h = absurd (cc h)
  updated_there scope n what args ops steps kinds v (Some path) e var h =
      let q : from_path scope n what args ops (Some path) ≡ from_value scope n ops (value_changed what path v args) = ap (λ o. ends (from_variable scope n what path args ops o)) var in
      record { path = path; led = e; some = some_value scope n ops (value_changed what path v args) (subst IsSome q h); is = ap (from_path scope n what args ops) e ∙ q }

  -- a variable that changes is there
  pub variable_there : (scope : Bool) (n what : ℕ) (args ops : List Value) (o : Option (List Place)) (w : Option Value) → variable scope n g (frame fn (pc + 1) slots ops ∷ below) ≡ w → IsSome (from_path scope n what args ops o) → (v : Value) × (variable scope n g (frame fn (pc + 1) slots ops ∷ below) ≡ Some v)
  variable_there scope n what args ops None w e h = absurd (cc h)
  variable_there scope n what args ops (Some path) None e h = absurd (cc (subst IsSome (ap (λ o. ends (from_variable scope n what path args ops o)) e) h))
  variable_there scope n what args ops (Some path) (Some v) e h = (v, e)

  abbrev put_beside : ℕ → Value → List Value → Option Value → Outcome (List Value × Stack)
  put_beside n new ops o = Rattle.bds_code_frames.specs.Stack.beside o (frame fn (pc + 1) (slice_set slots n new) ops ∷ below) >>= λ old. Some (Ok (g, old.1))

  abbrev put_global : ℕ → Value → List Value → Option Value → Outcome (List Value × Stack)
  put_global n new ops o = o >>= λ old. Some (Ok (slice_set g n new, frame fn (pc + 1) slots ops ∷ below))

  pub global_put : (n : ℕ) (new old : Value) (ops : List Value) → slice_get g n ≡ Some old → from_value true n ops (Some (Ok new)) ≡ Some (On (slice_set g n new) (frame fn (pc + 1) slots ops ∷ below) t)
  global_put n new old ops e = ap (λ o. ends (put_global n new ops o)) e

  pub local_put : (n : ℕ) (new old : Value) (ops : List Value) → slice_get slots n ≡ Some old → from_value false n ops (Some (Ok new)) ≡ Some (On g (frame fn (pc + 1) (slice_set slots n new) ops ∷ below) t)
  local_put n new old ops e = ap (λ o. ends (put_beside n new ops o)) e
