-- The changes of a part of a variable, by their numbers: what they take, and that the variable keeps its type.
use Rattle.std.proofs.Common.{◌≡◌, ◌||◌, ◌==◌, ℕ, List, [], ◌∷◌, ◌++◌, length, reverse, slice_get, Bool, true, false, Option, Some, None, is_some, Ok, Err, refl, sym, ap, ◌∙◌, subst}
use Rattle.std.specs.Prelude.{⊤}
use Rattle.std.specs.Bool.{if◌then◌else◌}
use Rattle.std.specs.List.{AllByRecursion}
use Rattle.std.specs.Option.{ok_or}
use Rattle.std.proofs.lemmas.Bool.{eqb-true}
use Rattle.std.proofs.lemmas.List.{length-map}
use Rattle.bds_value.specs.declared.methods.Method.{Method}
use Rattle.bds_value.specs.declared.methods.Method.TheVariants.{Plain, File, Change}
use Rattle.bds_value.specs.declared.methods.MethodRow.{MethodRow}
use Rattle.bds_value.specs.declared.methods.Part.{Part}
use Rattle.bds_value.specs.declared.methods.Takes.{Takes as Arguments}
use Rattle.bds_value.specs.declared.value.Op.{Op}
use Rattle.bds_value.specs.declared.value.Op.TheVariants.{Add, Sub, Mul, Div, Rem, Concat, ListAdd, ListCat}
use Rattle.bds_value.specs.declared.value.Place.{Place}
use Rattle.bds_value.specs.declared.value.Ty.{Ty, out-Ty}
use Rattle.bds_value.specs.declared.value.Ty.TheVariants as ty
use Rattle.bds_value.specs.declared.value.Ty.TheOpen.{Ty-F}
use Rattle.bds_value.specs.declared.value.Value.{Value, out-Value}
use Rattle.bds_value.specs.declared.value.Value.TheVariants as value
use Rattle.bds_value.specs.Operators.{short_text, Takes, result_type}
use Rattle.bds_value.specs.Path.{item_of, put_in, type_at_path}
use Rattle.bds_value.specs.Text.{text_of}
use Rattle.bds_value.specs.Value.{type_of}
use Rattle.bds_value.proofs.ResultLaws.{of_list}
use Rattle.bds_value.specs.Methods.{Row, part_ty, parts_of, inner_at, inner_of, text_rows, inner_rows, list_rows, item_rows, map_rows, rows_at, same_method, row_in, row_at}
use Rattle.bds_value.specs.Types.{is_void, same_ty}
use Rattle.bds_value.proofs.TypeLaws.{same_ty-true}
use Rattle.bds_value.specs.RunFaults.{op_fault, put_fault}
use Rattle.bds_lib.specs.Rows.{find, types_in, with_change, changes_in, changes_of}
use Rattle.bds_lib.proofs.TypedLaws.{◌&◌}
use Rattle.bds_code.specs.declared.effects.EffectFault.TheVariants.{Needs}
use Rattle.bds_code.specs.MethodRows.{Operands, arguments_taken}
use Rattle.bds_code.specs.Operands.{provided, any_taken, taken}
use Rattle.bds_code.specs.Operands as code
use Rattle.bds_code.specs.UpdateRows as rows
use Rattle.bds_verify.specs.Threads.{Holds, Typed}
use Rattle.bds_machine_values.specs.Faults.{Outcome, outcome, and_then}
use Rattle.bds_machine_values.specs.Results.{applied, mutated, walks, remade, with_part}
use Rattle.bds_machine_values.specs.Typing.{leads, suits}
use Rattle.bds_machine_values.specs.Updates.{operand_counts, more_items, added_at, added, counted, part_changed, changed_at, value_changed}
use Rattle.bds_machine.proofs.HeldFits.{IsHeld, held_where}
use Rattle.bds_machine.proofs.LawFits.{OperatorLaw, PartLaw, PutLaw, ChangeLaw}
use Rattle.bds_machine.proofs.OperandFits.{int_there, text_there}
use Rattle.bds_machine.proofs.OperatorFits.{short_text_held}
use Rattle.bds_machine.proofs.PathLimits.{IsStep}
use Rattle.bds_machine.proofs.TableFits.{AreRows, row_there}
use Rattle.bds_machine.proofs.TypingLaws.{suits-true}
use Rattle.bds_machine_values.proofs.Walks.{walks-there}
use Rattle.bds_machine.proofs.TypesFits.{rolled, bind_ok, wanted-ok, provided-ok, any-ok, taken-ok, all_taken-ok, item-ok}

held_then : (a b : Ty) (r : Outcome Value) (go : Value → Outcome Value) → IsHeld a r → ((x : Value) → Holds x a → IsHeld b (go x)) → IsHeld b (and_then r go)
held_then a b None go h goes = absurd h
held_then a b (Some (Err e)) go h goes = tt
held_then a b (Some (Ok x)) go h goes = goes x h

one_typed : (P : List Value → Type 0) (a : Ty) → ((x : Value) → Holds x a → P (x ∷ [])) → (args : List Value) → Typed args (a ∷ []) → P args
one_typed P a h [] typed = absurd typed
one_typed P a h (x ∷ []) typed = h x typed.0
one_typed P a h (x ∷ y ∷ ys) typed = absurd typed.1

-- a part of this type after a change with arguments of these types
abbrev ChangesPart : ℕ → Ty → List Ty → Type 0
ChangesPart what p types = (part : Value) (args : List Value) → Holds part p → Typed args types → IsHeld p (part_changed what part args)

-- a variable after a change of its part with arguments of these types
abbrev ChangesValue : ℕ → Ty → List Ty → Type 0
ChangesValue what p types = (v : Value) (t : Ty) (path : List Place) (args : List Value) → AllByRecursion IsStep path → Holds v t → type_at_path path t ≡ Some p → Typed args types → IsHeld t (value_changed what path v args)

-- the operands are so many arguments of a change of a part of this type
pub record IsTypedChange (what n : ℕ) (p : Ty) (shape rest : List Ty) : Type 0 where
  pub types : List Ty
  pub count : n ≡ length types
  pub takes : shape ≡ reverse types ++ rest
  pub changes : ChangesValue what p types

abbrev pub AreChanges : ℕ → ℕ → (Ty → Operands) → Type 0
AreChanges what n change = (p : Ty) (shape rest : List Ty) → change p shape ≡ Ok rest → IsTypedChange what n p shape rest

-- the number of operands that stands beside a change's number
abbrev IsCounted : Method → Arguments → Type 0
IsCounted (Change k) takes = slice_get operand_counts k ≡ Some (length (parts_of takes))
IsCounted _ takes = ⊤

abbrev AreCounted : List Row → Type 0
AreCounted = AllByRecursion (λ (r : Row). IsCounted r.method r.takes)

text_counted : AreCounted (text_rows ++ inner_rows)
text_counted = tt & tt & tt & tt & tt & tt & tt & tt & tt & tt & tt & tt & tt & tt & tt & tt & tt & tt & tt & tt & tt & tt & tt & tt & tt & tt

list_counted : (y : Ty-F Ty) → AreCounted (list_rows ++ item_rows y)
list_counted y = tt & tt & tt & tt & tt & refl & refl & refl & refl & further y
  where
    further : (y : Ty-F Ty) → AreCounted (item_rows y)
    further Ty-F.Bool = tt & refl & tt
    further Ty-F.Int = tt & refl & tt & tt
    further Ty-F.Text = tt & refl & tt & tt & tt
    further (Ty-F.List t) = tt
    further (Ty-F.Map t) = tt
    further Ty-F.Void = tt

map_counted : AreCounted map_rows
map_counted = tt & tt & tt & tt & refl & tt

-- a row that is found by the number of its change is one of the library's, and its number of arguments is the one beside the number
abbrev IsFound : Ty → List (ℕ × List Ty) → ℕ → MethodRow → Type 0
IsFound item changes what r = (find what changes ≡ Some (types_in item r.takes)) × (slice_get operand_counts what ≡ Some (length (parts_of r.takes)))

by_number : (item : Ty) (what k : ℕ) (t : Arguments) (g : Option Part) (more : List (ℕ × List Ty)) (later : Option MethodRow) (r : MethodRow) (here : Bool) → k == what ≡ here → IsCounted (Change k) t
    → (later ≡ Some r → IsFound item more what r) → (if here then Some (record { method = Change k; takes = t; gives = g }) else later) ≡ Some r
    → (if here then Some (types_in item t) else find what more) ≡ Some (types_in item r.takes) × (slice_get operand_counts what ≡ Some (length (parts_of r.takes)))
by_number item what k t g more later r true same counted go h =
    let e : record { method = Change k; takes = t; gives = g } ≡ r = cc in (
      ap (λ (x : MethodRow). Some (types_in item x.takes)) e,
      ap (slice_get operand_counts) (sym (eqb-true k what same)) ∙ counted ∙ ap (λ (x : MethodRow). Some (length (parts_of x.takes))) e,
    )
by_number item what k t g more later r false other counted go h = go h

found_at : (item : Ty) (what : ℕ) (a : Method) (t : Arguments) (g : Option Part) (more : List (ℕ × List Ty)) (later : Option MethodRow) (r : MethodRow) → IsCounted a t → (later ≡ Some r → IsFound item more what r)
    → (if same_method a (Change what) then Some (record { method = a; takes = t; gives = g }) else later) ≡ Some r → IsFound item (with_change a (types_in item t) more) what r
found_at item what (Plain k) t g more later r counted go h = go h
found_at item what (File k) t g more later r counted go h = go h
found_at item what (Change k) t g more later r counted go h = by_number item what k t g more later r (k == what) refl counted go h

found_in : (item : Ty) (rows : List Row) (what : ℕ) (r : MethodRow) → AreCounted rows → row_in rows (Change what) ≡ Some r → IsFound item (changes_in item rows) what r
found_in item [] what r all h = absurd (cc)
found_in item (x ∷ xs) what r all h = found_at item what x.method x.takes x.gives (changes_in item xs) (row_in xs (Change what)) r all.0 (found_in item xs what r all.1) h

-- a change of a number at a part is its row of the library's table
change_found : (p : Ty) (what : ℕ) (r : MethodRow) → row_at p (Change what) ≡ Some r → IsFound (inner_of p) (changes_of (out-Ty p)) what r
change_found p what r = at (out-Ty p)
  where
    in_list : (t : Ty) (void : Bool) → row_in (if void then [] else list_rows ++ item_rows (out-Ty t)) (Change what) ≡ Some r → IsFound t (changes_of (Ty-F.List t)) what r
    in_list t true h = absurd (cc)
    in_list t false h = found_in t (list_rows ++ item_rows (out-Ty t)) what r (list_counted (out-Ty t)) h

    in_map : (t : Ty) (void : Bool) → row_in (if void then [] else map_rows) (Change what) ≡ Some r → IsFound t (changes_of (Ty-F.Map t)) what r
    in_map t true h = absurd (cc)
    in_map t false h = found_in t map_rows what r map_counted h

    at : (y : Ty-F Ty) → row_in (rows_at y) (Change what) ≡ Some r → IsFound (inner_at y) (changes_of y) what r
    at Ty-F.Text h = absurd (cc)
    at (Ty-F.List t) h = in_list t (is_void t) h
    at (Ty-F.Map t) h = in_map t (is_void t) h
    at Ty-F.Bool h = absurd (cc)
    at Ty-F.Int h = absurd (cc)
    at Ty-F.Void h = absurd (cc)

either_or : (a b : Bool) → (a || b) ≡ true → b ≡ false → a ≡ true
either_or true b h e = refl
either_or false b h e = absurd (cc)

module _ (operators : OperatorLaw) (parts : PartLaw) (puts : PutLaw) (library : ChangeLaw) where
  at_part : (what : ℕ) (p : Ty) (types : List Ty) → ChangesPart what p types → (v : Value) (t : Ty) (path : List Place) (args : List Value) → AllByRecursion IsStep path → Holds v t → type_at_path path t ≡ Some p → Typed args types → IsHeld t (changed_at what path v args)
  at_part what p types h v t path args short hv fits typed =
      held_where (leads path (type_of v)) t (with_part (λ part. part_changed what part args) path v) (ap is_some (ap (type_at_path path) hv.type ∙ fits))
      (held_where (walks path v) t (remade (λ part. part_changed what part args) path v) (walks-there path v t p hv.formed hv.type fits)
      (held_then p t (outcome put_fault (item_of path v)) (λ part. and_then (part_changed what part args) (λ new. outcome put_fault (put_in path v new))) (parts path v t p hv fits)
      (λ part hp. held_then p t (part_changed what part args) (λ new. outcome put_fault (put_in path v new)) (h part args hp typed) (λ new hn. puts path v new t p short hv hn fits))))

  put_change : AreChanges 0 1 taken
  put_change p shape rest h = record {
    types = p ∷ [];
    count = refl;
    takes = taken-ok p shape rest h;
    changes = λ v t path args short hv fits. one_typed (λ args. IsHeld t (value_changed 0 path v args)) p
        (λ new hn. held_where (suits path (type_of v) (type_of new)) t (outcome put_fault (put_in path v new)) (suits-true path (type_of v) (type_of new) t p hv.type hn.type fits) (puts path v new t p short hv hn fits)) args;
  }

  numbers : (op : Op) → Takes op ty.Int ty.Int → result_type op ty.Int ≡ ty.Int → (part x : Value) → Holds part ty.Int → Holds x ty.Int → IsHeld ty.Int (applied op part x)
  numbers op takes gives part x hp hx = subst (λ t. IsHeld t (applied op part x)) gives (operators op part x ty.Int ty.Int hp hx takes)

  counted_types : (p : Ty) (shape rest : List Ty) → rows.counted p shape ≡ Ok rest → (ty.Int ≡ p) × (shape ≡ ty.Int ∷ rest)
  counted_types p shape rest h =
      let r = bind_ok (provided (same_ty ty.Int p) shape) (taken ty.Int) rest h in
      let same = provided-ok (same_ty ty.Int p) shape r.0 r.1 in
      (same_ty-true ty.Int p same.0, same.1 ∙ taken-ok ty.Int r.0 rest r.2)

  -- a change of a number by an operator
  counted_part : (what : ℕ) (op : Op) (p : Ty) → ty.Int ≡ p → Takes op ty.Int ty.Int → result_type op ty.Int ≡ ty.Int → ((part : Value) (args : List Value) → part_changed what part args ≡ counted op part args) → ChangesPart what p (ty.Int ∷ [])
  counted_part what op p e takes gives is part args hp typed =
      subst (λ t. IsHeld t (part_changed what part args)) e
      (subst (IsHeld ty.Int) (sym (is part args))
      (one_typed (λ args. IsHeld ty.Int (counted op part args)) ty.Int (λ x hx. numbers op takes gives part x (subst (Holds part) (sym e) hp) hx) args typed))

  sub_change : AreChanges 2 1 rows.counted
  sub_change p shape rest h =
      let r = counted_types p shape rest h in
      record { types = ty.Int ∷ []; count = refl; takes = r.1; changes = at_part 2 p (ty.Int ∷ []) (counted_part 2 Sub p r.0 (refl, refl) refl (λ part args. refl)) }

  mul_change : AreChanges 3 1 rows.counted
  mul_change p shape rest h =
      let r = counted_types p shape rest h in
      record { types = ty.Int ∷ []; count = refl; takes = r.1; changes = at_part 3 p (ty.Int ∷ []) (counted_part 3 Mul p r.0 (refl, refl) refl (λ part args. refl)) }

  div_change : AreChanges 4 1 rows.counted
  div_change p shape rest h =
      let r = counted_types p shape rest h in
      record { types = ty.Int ∷ []; count = refl; takes = r.1; changes = at_part 4 p (ty.Int ∷ []) (counted_part 4 Div p r.0 (refl, refl) refl (λ part args. refl)) }

  rem_change : AreChanges 5 1 rows.counted
  rem_change p shape rest h =
      let r = counted_types p shape rest h in
      record { types = ty.Int ∷ []; count = refl; takes = r.1; changes = at_part 5 p (ty.Int ∷ []) (counted_part 5 Rem p r.0 (refl, refl) refl (λ part args. refl)) }

  -- what is added to a part

  added_int : (part x : Value) → Holds part ty.Int → Holds x ty.Int → IsHeld ty.Int (added part x)
  added_int part x hp hx =
      let n = int_there part hp in
      subst (λ y. IsHeld ty.Int (added_at y part x)) (sym (ap out-Value n.2 ∙ value.outs-Int n.0)) (operators Add part x ty.Int ty.Int hp hx (refl, refl))

  added_text : (part x : Value) → Holds part ty.Text → IsHeld ty.Text (added part x)
  added_text part x hp =
      let s = text_there part hp in
      subst (λ y. IsHeld ty.Text (added_at y part x)) (sym (ap out-Value s.2 ∙ value.outs-Text s.0))
      (held_then ty.Text ty.Text (outcome op_fault (short_text (text_of x))) (applied Concat part) (short_text_held (text_of x))
      (λ text ht. operators Concat part text ty.Text ty.Text hp ht (refl, refl)))

  more_held : (t p u : Ty) (part x : Value) → p ≡ ty.List t → (same_ty t u || same_ty p u) ≡ true → Holds part p → Holds x u → IsHeld p (more_items part x)
  more_held t p u part x list one hp hx = by_test (same_ty (type_of part) (type_of x)) refl
    where
      same : (b : Bool) → same_ty (type_of part) (type_of x) ≡ b → same_ty p u ≡ b
      same b e = ap (λ q. same_ty q u) (sym hp.type) ∙ ap (same_ty (type_of part)) (sym hx.type) ∙ e

      by_test : (b : Bool) → same_ty (type_of part) (type_of x) ≡ b → IsHeld p (if b then applied ListCat part x else applied ListAdd part x)
      by_test true e = operators ListCat part x p u hp hx ((t, list), sym (same_ty-true p u (same true e)))
      by_test false e =
          let item : t ≡ u = same_ty-true t u (either_or (same_ty t u) (same_ty p u) one (same false e)) in
          operators ListAdd part x p u hp hx (list ∙ ap ty.List item)

  added_items : (t p u : Ty) (part x : Value) → p ≡ ty.List t → (same_ty t u || same_ty p u) ≡ true → Holds part p → Holds x u → IsHeld p (added part x)
  added_items t p u part x list one hp hx =
      let items = of_list part t (hp.type ∙ list) in
      subst (λ y. IsHeld p (added_at y part x)) (sym (ap out-Value items.1 ∙ value.outs-List t items.0)) (more_held t p u part x list one hp hx)

  added_one : (p u : Ty) (shape rest : List Ty) → shape ≡ u ∷ rest → ((part x : Value) → Holds part p → Holds x u → IsHeld p (added part x)) → IsTypedChange 1 1 p shape rest
  added_one p u shape rest takes h = record {
    types = u ∷ [];
    count = refl;
    takes = takes;
    changes = at_part 1 p (u ∷ []) (λ part args hp. one_typed (λ args. IsHeld p (part_changed 1 part args)) u (λ x hx. h part x hp hx) args);
  }

  add_change : AreChanges 1 1 rows.added
  add_change p shape rest h = from (out-Ty p) refl h
    where
      from : (y : Ty-F Ty) → out-Ty p ≡ y → rows.added_at y p shape ≡ Ok rest → IsTypedChange 1 1 p shape rest
      from Ty-F.Int e h =
          let is : ty.Int ≡ p = sym (rolled p Ty-F.Int e ∙ ty.rolls-Int) in
          subst (λ q. IsTypedChange 1 1 q shape rest) is (added_one ty.Int ty.Int shape rest (taken-ok ty.Int shape rest h) added_int)
      from Ty-F.Text e h =
          let is : ty.Text ≡ p = sym (rolled p Ty-F.Text e ∙ ty.rolls-Text) in
          let r = bind_ok (any_taken shape) (λ r. Ok r.1) rest h in
          let takes : shape ≡ r.0.0 ∷ rest = any-ok shape r.0 r.1 ∙ ap (λ xs. r.0.0 ∷ xs) (let e : r.0.1 ≡ rest = cc in e) in
          subst (λ q. IsTypedChange 1 1 q shape rest) is (added_one ty.Text r.0.0 shape rest takes (λ part x hp hx. added_text part x hp))
      from (Ty-F.List l) e h =
          let i = bind_ok (code.item_of p) (λ t. rows.one_or_all p t shape) rest h in
          let r = bind_ok (any_taken shape) (λ r. provided (same_ty i.0 r.0 || same_ty p r.0) r.1) rest i.2 in
          let one = provided-ok (same_ty i.0 r.0.0 || same_ty p r.0.0) r.0.1 rest r.2 in
          added_one p r.0.0 shape rest (any-ok shape r.0 r.1 ∙ ap (λ xs. r.0.0 ∷ xs) one.1) (λ part x. added_items i.0 p r.0.0 part x (item-ok p i.0 i.1) one.0)
      from Ty-F.Bool e h = absurd (cc)
      from (Ty-F.Map l) e h = absurd (cc)
      from Ty-F.Void e h = absurd (cc)

  -- the changes of the library

  mutated_change : (what n : ℕ) → slice_get operand_counts what ≡ Some n → ((part : Value) (args : List Value) → part_changed what part args ≡ mutated what part args)
      → ((path : List Place) (v : Value) (args : List Value) → value_changed what path v args ≡ changed_at what path v args) → AreChanges what n (rows.mutated what)
  mutated_change what n beside is at p shape rest h =
      let row = bind_ok (ok_or (row_at p (Change what)) Needs) (λ r. arguments_taken (inner_of p) r.takes shape) rest h in
      let found = change_found p what row.0 (wanted-ok (row_at p (Change what)) row.0 row.1) in
      let types : List Ty = types_in (inner_of p) row.0.takes in
      let same : n ≡ length (parts_of row.0.takes) = let e : Some n ≡ Some (length (parts_of row.0.takes)) = sym beside ∙ found.1 in cc in
      record {
        types = types;
        count = same ∙ sym (length-map (parts_of row.0.takes) (part_ty (inner_of p)));
        takes = all_taken-ok (reverse types) shape rest row.2;
        changes = λ v t path args short hv fits typed. subst (IsHeld t) (sym (at path v args))
            (at_part what p types (λ part args hp typed. subst (IsHeld p) (sym (is part args)) (library what part args p types found.0 hp typed)) v t path args short hv fits typed);
      }

  -- each row of the table is a change with the number of operands that stands beside it
  all_changes : AreRows AreChanges 0 rows.change_rows operand_counts
  all_changes = put_change & add_change & sub_change & mul_change & div_change & rem_change & mutated_change 6 1 refl (λ part args. refl) (λ path v args. refl) & mutated_change 7 2 refl (λ part args. refl) (λ path v args. refl) & mutated_change 8 1 refl (λ part args. refl) (λ path v args. refl) & mutated_change 9 1 refl (λ part args. refl) (λ path v args. refl) & mutated_change 10 1 refl (λ part args. refl) (λ path v args. refl) & tt

  -- a change by its number
  pub change_there : (what : ℕ) (change : Ty → Operands) → slice_get rows.change_rows what ≡ Some change → (n : ℕ) × (slice_get operand_counts what ≡ Some n) × AreChanges what n change
  change_there what change e = row_there AreChanges rows.change_rows operand_counts what change all_changes e
