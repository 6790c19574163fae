-- The rows of methods keep the types.
use Rattle.std.proofs.Common.{◌≡◌, ℕ, List, [], ◌∷◌, ◌++◌, ◌==◌, length, reverse, slice_get, Bool, true, false, Option, Some, Result, Ok, refl, sym, ap, ◌∙◌, subst, if◌then◌else◌}
use Rattle.std.specs.Prelude.{⊤}
use Rattle.std.specs.List.{AllByRecursion}
use Rattle.std.specs.Option.{ok_or}
use Rattle.std.proofs.lemmas.Bool.{eqb-true}
use Rattle.std.proofs.lemmas.List.{length-map, length-reverse}
use Rattle.bds_value.specs.declared.methods.Method.{Method}
use Rattle.bds_value.specs.declared.methods.Method.TheVariants.{Plain, File, Change}
use Rattle.bds_value.specs.declared.methods.MethodRow.{MethodRow}
use Rattle.bds_value.specs.declared.methods.Part.{Part}
use Rattle.bds_value.specs.declared.methods.Takes.{Takes}
use Rattle.bds_value.specs.declared.value.Ty.{Ty, out-Ty}
use Rattle.bds_value.specs.declared.value.Ty.TheVariants as ty
use Rattle.bds_value.specs.declared.value.Ty.TheOpen.{Ty-F}
use Rattle.bds_value.specs.Methods.{Row, part_ty, parts_of, gives_ty, inner_at, inner_of, text_rows, inner_rows, list_rows, item_rows, map_rows, rows_at, same_method, row_in, row_at, arguments_of}
use Rattle.bds_value.specs.Options.{◌>>=◌}
use Rattle.bds_value.specs.Results as results
use Rattle.bds_value.specs.Types.{is_void}
use Rattle.bds_lib.specs.Rows.{Signature, find, signature, signatures_of, signatures_in, types_in, with_signature}
use Rattle.bds_lib.proofs.TypedLaws.{◌&◌}
use Rattle.bds_code.specs.declared.effects.EffectFault.{EffectFault}
use Rattle.bds_code.specs.declared.effects.EffectFault.TheVariants.{Needs}
use Rattle.bds_code.specs.declared.unit.Function.{Function}
use Rattle.bds_code.specs.MethodRows.{applied, method}
use Rattle.bds_code.specs.Operands.{giving, there, taken, all_taken}
use Rattle.bds_code_frames.specs.Stack.{Call, Stack, popped}
use Rattle.bds_verify.specs.Threads.{IsCall}
use Rattle.bds_machine.specs.MethodOperands.{IsMethod}
use Rattle.bds_machine_values.specs.Operands.{taken_all}
use Rattle.bds_machine_values.specs.Faults.{finishes}
use Rattle.bds_machine_values.specs.Results.{called}
use Rattle.bds_machine_values.specs.Values.{argument_counts, method_given}
use Rattle.bds_machine.proofs.LawFits.{MethodLaw}
use Rattle.bds_machine.proofs.OperandFits.{kept_here, take_any, take_all, typed-reverse}
use Rattle.bds_machine.proofs.ResultFits.{Fits, finishes_fits}
use Rattle.bds_machine.proofs.TypesFits.{bind_ok, wanted-ok, taken-ok, all_taken-ok, giving-ok}

-- the number of arguments that stands beside a method's number
abbrev IsCounted : Method → Takes → Type 0
IsCounted (Plain k) takes = slice_get argument_counts k ≡ Some (length (parts_of takes))
IsCounted _ takes = ⊤

abbrev AreCounted : List Row → Type 0
AreCounted = AllByRecursion (λ (r : Row). IsCounted r.method r.takes)

text_counted : AreCounted (text_rows ++ inner_rows)
text_counted =
    refl & refl & refl & refl & refl & refl & refl & refl & refl & refl & refl & refl & refl & refl & refl & refl & refl
    & tt & tt & tt & tt & tt & tt & tt & refl & tt

list_counted : (y : Ty-F Ty) → AreCounted (list_rows ++ item_rows y)
list_counted y = refl & refl & refl & refl & refl & tt & tt & tt & tt & further y
  where
    further : (y : Ty-F Ty) → AreCounted (item_rows y)
    further Ty-F.Bool = refl & tt & tt
    further Ty-F.Int = refl & tt & refl & tt
    further Ty-F.Text = refl & tt & refl & refl & tt
    further (Ty-F.List t) = tt
    further (Ty-F.Map t) = tt
    further Ty-F.Void = tt

map_counted : AreCounted map_rows
map_counted = refl & refl & refl & refl & tt & tt

-- a row that is found by its number is a row of the library's table, and its number of arguments is the one beside the number
abbrev IsFound : Ty → List (ℕ × Signature) → ℕ → MethodRow → Type 0
IsFound item kinds m r = (find m kinds ≡ Some (signature (types_in item r.takes) (gives_ty item r.gives))) × (slice_get argument_counts m ≡ Some (length (parts_of r.takes)))

by_number : (item : Ty) (m k : ℕ) (t : Takes) (g : Option Part) (more : List (ℕ × Signature)) (later : Option MethodRow) (r : MethodRow) (here : Bool) → k == m ≡ here → IsCounted (Plain k) t
    → (later ≡ Some r → IsFound item more m r) → (if here then Some (record { method = Plain k; takes = t; gives = g }) else later) ≡ Some r
    → (if here then Some (signature (types_in item t) (gives_ty item g)) else find m more) ≡ Some (signature (types_in item r.takes) (gives_ty item r.gives)) × (slice_get argument_counts m ≡ Some (length (parts_of r.takes)))
by_number item m k t g more later r true same counted go h =
    let e : record { method = Plain k; takes = t; gives = g } ≡ r = cc in (
      ap (λ (x : MethodRow). Some (signature (types_in item x.takes) (gives_ty item x.gives))) e,
      ap (slice_get argument_counts) (sym (eqb-true k m same)) ∙ counted ∙ ap (λ (x : MethodRow). Some (length (parts_of x.takes))) e,
    )
by_number item m k t g more later r false other counted go h = go h

found_at : (item : Ty) (m : ℕ) (a : Method) (t : Takes) (g : Option Part) (more : List (ℕ × Signature)) (later : Option MethodRow) (r : MethodRow) → IsCounted a t → (later ≡ Some r → IsFound item more m r)
    → (if same_method a (Plain m) then Some (record { method = a; takes = t; gives = g }) else later) ≡ Some r → IsFound item (with_signature a (signature (types_in item t) (gives_ty item g)) more) m r
found_at item m (Plain k) t g more later r counted go h = by_number item m k t g more later r (k == m) refl counted go h
found_at item m (File k) t g more later r counted go h = go h
found_at item m (Change k) t g more later r counted go h = go h

found_in : (item : Ty) (rows : List Row) (m : ℕ) (r : MethodRow) → AreCounted rows → row_in rows (Plain m) ≡ Some r → IsFound item (signatures_in item rows) m r
found_in item [] m r all h = absurd (cc)
found_in item (x ∷ xs) m r all h = found_at item m x.method x.takes x.gives (signatures_in item xs) (row_in xs (Plain m)) r all.0 (found_in item xs m r all.1) h

-- the method of a number at a receiver is its row of the library's table
method_found : (receiver : Ty) (m : ℕ) (r : MethodRow) → row_at receiver (Plain m) ≡ Some r → IsFound (inner_of receiver) (signatures_of (out-Ty receiver)) m r
method_found receiver m r = at (out-Ty receiver)
  where
    in_list : (t : Ty) (void : Bool) → row_in (if void then [] else list_rows ++ item_rows (out-Ty t)) (Plain m) ≡ Some r → IsFound t (signatures_of (Ty-F.List t)) m r
    in_list t true h = absurd (cc)
    in_list t false h = found_in t (list_rows ++ item_rows (out-Ty t)) m r (list_counted (out-Ty t)) h

    in_map : (t : Ty) (void : Bool) → row_in (if void then [] else map_rows) (Plain m) ≡ Some r → IsFound t (signatures_of (Ty-F.Map t)) m r
    in_map t true h = absurd (cc)
    in_map t false h = found_in t map_rows m r map_counted h

    at : (y : Ty-F Ty) → row_in (rows_at y) (Plain m) ≡ Some r → IsFound (inner_at y) (signatures_of y) m r
    at Ty-F.Text h = found_in ty.Void (text_rows ++ inner_rows) m r text_counted h
    at (Ty-F.List t) h = in_list t (is_void t) h
    at (Ty-F.Map t) h = in_map t (is_void t) h
    at Ty-F.Bool h = absurd (cc)
    at Ty-F.Int h = absurd (cc)
    at Ty-F.Void h = absurd (cc)

abbrev with_row : ℕ → List Ty → Ty → Result (List Ty) EffectFault
with_row m s receiver = results.◌>>=◌ (ok_or (row_at receiver (Plain m)) Needs) (λ r. applied receiver r s)

abbrev with_receiver : ℕ → List Ty → ℕ → Result (List Ty) EffectFault
with_receiver m s n = results.◌>>=◌ (ok_or (slice_get s n) Needs) (with_row m s)

-- a method of the effect is one of the table
pub method_rowed : (m : ℕ) (shape next : List Ty) → method m shape ≡ Ok next → (n : ℕ) × (slice_get argument_counts m ≡ Some n) × IsMethod m n shape next
method_rowed m shape next h =
    let count = bind_ok (there (arguments_of (Plain m)) m) (with_receiver m shape) next h in
    let below = bind_ok (ok_or (slice_get shape count.0) Needs) (with_row m shape) next count.2 in
    let row = bind_ok (ok_or (row_at below.0 (Plain m)) Needs) (λ r. applied below.0 r shape) next below.2 in
    from below.0 row.0 (method_found below.0 m row.0 (wanted-ok (row_at below.0 (Plain m)) row.0 row.1)) row.2
  where
    from : (receiver : Ty) (r : MethodRow) → IsFound (inner_of receiver) (signatures_of (out-Ty receiver)) m r → applied receiver r shape ≡ Ok next
        → (n : ℕ) × (slice_get argument_counts m ≡ Some n) × IsMethod m n shape next
    from receiver r found given_so =
        let types : List Ty = types_in (inner_of receiver) r.takes in
        let last = bind_ok (results.◌>>=◌ (all_taken (reverse types) shape) (taken receiver)) (giving (gives_ty (inner_of receiver) r.gives)) next given_so in
        let first = bind_ok (all_taken (reverse types) shape) (taken receiver) last.0 last.1 in
        let takes : shape ≡ reverse types ++ receiver ∷ last.0 = all_taken-ok (reverse types) shape first.0 first.1 ∙ ap (λ xs. reverse types ++ xs) (taken-ok receiver first.0 last.0 first.2) in (
          length (parts_of r.takes),
          found.1,
          record {
            receiver = receiver;
            types = types;
            result = gives_ty (inner_of receiver) r.gives;
            rest = last.0;
            row = found.0;
            count = sym (length-map (parts_of r.takes) (part_ty (inner_of receiver)));
            takes = takes;
            gives = giving-ok (gives_ty (inner_of receiver) r.gives) last.0 next last.2;
          },
        )

module _ (law : MethodLaw) (f : Function) (next : List Ty) (c : Call) (below : Stack) where
  called_fits : (m n : ℕ) (shape : List Ty) → IsMethod m n shape next → IsCall f shape c
      → Fits f next c below (taken_all n (c ∷ below) >>= λ args. popped args.1 >>= λ receiver. finishes (called m receiver.0 args.0) receiver.1)
  called_fits m n shape is call =
      take_all (Fits f next c below) f c below (reverse is.types) (is.receiver ∷ is.rest) n c (λ args. popped args.1 >>= λ receiver. finishes (called m receiver.0 args.0) receiver.1)
      (is.count ∙ sym (length-reverse is.types)) (kept_here f shape (reverse is.types ++ is.receiver ∷ is.rest) c is.takes call)
      (λ vs d typed kept. take_any (Fits f next c below) f c below is.receiver is.rest d (λ receiver. finishes (called m receiver.0 (reverse vs)) receiver.1) kept
      (λ v e h kept. finishes_fits f next c below is.rest is.result (called m v (reverse vs)) e is.gives
      (law m v (reverse vs) is.receiver is.result is.types is.row h (typed-reverse is.types vs typed)) kept))

  pub method_fits : (m : ℕ) (shape : List Ty) → method m shape ≡ Ok next → IsCall f shape c → Fits f next c below (method_given m (c ∷ below))
  method_fits m shape h call =
      let is = method_rowed m shape next h in
      subst (λ o. Fits f next c below (o >>= λ n. taken_all n (c ∷ below) >>= λ args. popped args.1 >>= λ receiver. finishes (called m receiver.0 args.0) receiver.1)) (sym is.1)
      (called_fits m is.0 shape is.2 call)
