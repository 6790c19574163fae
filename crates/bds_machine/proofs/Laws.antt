-- Results of operators, parts, methods and changes have their types and are within the limits, or are faults of the run.
use Rattle.std.proofs.Common.{◌≡◌, ℕ, List, [], ◌∷◌, map, Some, None, Option, Result, Ok, Err, IfOk, refl, sym, ap, ◌∙◌, subst}
use Rattle.std.specs.List.{AllByRecursion}
use Rattle.bds_value.specs.declared.faults.OpFault.TheVariants as op
use Rattle.bds_value.specs.declared.faults.OpFault.{OpFault}
use Rattle.bds_value.specs.declared.faults.PutFault.TheVariants as put
use Rattle.bds_value.specs.declared.faults.PutFault.{PutFault}
use Rattle.bds_value.specs.declared.value.Op.{Op}
use Rattle.bds_value.specs.declared.value.Op.TheVariants.{Add, Sub, Mul, Div, Rem, Equal, NotEqual, Less, LessEqual, Greater, GreaterEqual, Concat, ListAdd, ListCat}
use Rattle.bds_value.specs.declared.value.Place.{Place}
use Rattle.bds_value.specs.declared.value.Place.TheVariants.{Index, Key}
use Rattle.bds_value.specs.declared.value.Ty.{Ty, out-Ty}
use Rattle.bds_value.specs.declared.value.Ty.TheVariants as ty
use Rattle.bds_value.specs.declared.value.Ty.TheOpen.{Ty-F}
use Rattle.bds_value.specs.declared.value.Value.{Value}
use Rattle.bds_value.specs.Fields.{IsValueTy}
use Rattle.bds_value.specs.Operators.{binary_of, Takes, result_type}
use Rattle.bds_value.specs.Path.{item_of, put_in, type_at_path, fits_step, further}
use Rattle.bds_value.specs.Spelling.{IsWithinLimits}
use Rattle.bds_value.specs.Value.{type_of, IsWellFormed, IsOf}
use Rattle.bds_value.proofs.FormedLaws.{item_formed, put_formed}
use Rattle.bds_value.proofs.ResultLaws.{binary_formed}
use Rattle.bds_value.specs.RunFaults.{op_fault, put_fault}
use Rattle.bds_lib.specs.declared.faults.LibFault.{LibFault}
use Rattle.bds_lib.specs.declared.faults.LibFault.TheVariants as lib
use Rattle.bds_lib.specs.Call.{method_of}
use Rattle.bds_lib.specs.Change.{change_of}
use Rattle.bds_lib.specs.Results.{OrNoMemory}
use Rattle.bds_lib.specs.Rows.{IsRow, IsChangeRow, Signature, signature, signatures_of, text_signatures, list_signatures, item_signatures}
use Rattle.bds_lib.proofs.ChangeLaws.{change_formed, Like}
use Rattle.bds_lib.proofs.TypedLaws.{method_typed, change_takes, found, ◌&◌}
use Rattle.bds_lib.proofs.FormedLaws.{all_append}
use Rattle.bds_lib.specs.RunFaults.{lib_fault}
use Rattle.bds_verify.specs.Threads.{Holds, Typed}
use Rattle.bds_machine_values.specs.Faults.{outcome}
use Rattle.bds_machine_values.specs.Typing.{takes, is_row, is_change_row}
use Rattle.bds_machine.proofs.HeldFits.{IsHeld, held_where, value-Bool, value-Int, value-Text, value-Texts, value-List, list_inside, map_inside, shallow}
use Rattle.bds_machine.proofs.TypesFits.{rolled}
use Rattle.bds_machine.proofs.TypingLaws.{takes-true, row-true, change_row-true}
use Rattle.bds_machine.proofs.LawFits.{OperatorLaw, PartLaw, PutLaw, MethodLaw, ChangeLaw}
use Rattle.bds_machine.proofs.OperatorLimits as operator
use Rattle.bds_machine.proofs.OperatorLimits.{binary_short}
use Rattle.bds_machine.proofs.PathLimits as path
use Rattle.bds_machine.proofs.PathLimits.{item_short, put_short, IsStep}
use Rattle.bds_machine.proofs.MethodLimits as method
use Rattle.bds_machine.proofs.MethodLimits.{method_short}
use Rattle.bds_machine.proofs.ChangeLimits.{change_short}

held : (v : Value) (t : Ty) → IsValueTy t → IsOf v t → IsWithinLimits v → Holds v t
held v t nests is limits = record { type = is.1; formed = is.0; limits = limits; nests = nests }

-- a result of an operator
op_held : (r : Result Value OpFault) (t : Ty) → IsValueTy t → ((v : Value) → r ≡ Ok v → IsOf v t) → operator.IsShort r → IsHeld t (outcome op_fault r)
op_held (Ok v) t n h s = held v t n (h v refl) s
op_held (Err op.ZeroDivisor) t n h s = tt
op_held (Err (op.TooLong m)) t n h s = tt
op_held (Err op.NoMemory) t n h s = absurd s

put_held : (r : Result Value PutFault) (t : Ty) → IsValueTy t → ((v : Value) → r ≡ Ok v → IsOf v t) → path.IsShort r → IsHeld t (outcome put_fault r)
put_held (Ok v) t n h s = held v t n (h v refl) s
put_held (Err (put.NoIndex i m)) t n h s = tt
put_held (Err (put.NoKey k)) t n h s = tt
put_held (Err (put.TooLong m)) t n h s = tt
put_held (Err put.NoMemory) t n h s = absurd s

lib_held : (r : Result Value LibFault) (t : Ty) → IsValueTy t → IfOk r (λ v. IsOf v t) → method.IsShort r → IsHeld t (outcome lib_fault r)
lib_held (Ok v) t n h s = held v t n h s
lib_held (Err (lib.NoIndex i m)) t n h s = tt
lib_held (Err (lib.TooLong m)) t n h s = tt
lib_held (Err (lib.NotANumber k)) t n h s = tt
lib_held (Err lib.NoMemory) t n h s = absurd s

-- types of values

value-result : (op : Op) (t : Ty) → IsValueTy t → IsValueTy (result_type op t)
value-result Add t h = value-Int
value-result Sub t h = value-Int
value-result Mul t h = value-Int
value-result Div t h = value-Int
value-result Rem t h = value-Int
value-result Concat t h = value-Text
value-result ListAdd t h = h
value-result ListCat t h = h
value-result Equal t h = value-Bool
value-result NotEqual t h = value-Bool
value-result Less t h = value-Bool
value-result LessEqual t h = value-Bool
value-result Greater t h = value-Bool
value-result GreaterEqual t h = value-Bool

item_value : (t u : Ty) → t ≡ ty.List u → IsValueTy t → IsValueTy u
item_value t u e h = let r = list_inside u (subst IsValueTy e h) in shallow u r.0 r.1

entry_value : (t u : Ty) → t ≡ ty.Map u → IsValueTy t → IsValueTy u
entry_value t u e h = let r = map_inside u (subst IsValueTy e h) in shallow u r.0 r.1

values_value : (t u : Ty) → t ≡ ty.Map u → IsValueTy t → IsValueTy (ty.List u)
values_value t u e h = let r = map_inside u (subst IsValueTy e h) in value-List u r.0 r.1

step_value : (p : Place) (t u : Ty) → IsValueTy t → fits_step p (out-Ty t) ≡ Some u → IsValueTy u
step_value p t u h fits = from p (out-Ty t) refl fits
  where
    from : (p : Place) (y : Ty-F Ty) → out-Ty t ≡ y → fits_step p y ≡ Some u → IsValueTy u
    from (Index i) (Ty-F.List x) e f = let same : x ≡ u = cc in item_value t u (rolled t (Ty-F.List x) e ∙ ty.rolls-List x ∙ ap ty.List same) h
    from (Key k) (Ty-F.Map x) e f = let same : x ≡ u = cc in entry_value t u (rolled t (Ty-F.Map x) e ∙ ty.rolls-Map x ∙ ap ty.Map same) h
    from _ _ e f = absurd (cc)

further_some : (o : Option Ty) (go : Ty → Option Ty) (t : Ty) → further o go ≡ Some t → (u : Ty) × (o ≡ Some u) × (go u ≡ Some t)
further_some (Some u) go t e = (u, refl, e)
further_some None go t e = absurd (cc)

path_value : (path : List Place) (t p : Ty) → IsValueTy t → type_at_path path t ≡ Some p → IsValueTy p
path_value [] t p h e = let same : t ≡ p = cc in subst IsValueTy same h
path_value (q ∷ path) t p h e =
    let r = further_some (fits_step q (out-Ty t)) (type_at_path path) p e in
    path_value path r.0 p (step_value q t r.0 h r.1) r.2

abbrev AreValues : List (ℕ × Signature) → Type 0
AreValues = AllByRecursion {X = ℕ × Signature} (λ r. IsValueTy r.1.gives)

texts_value : AreValues text_signatures
texts_value =
    value-Int
    & value-Text
    & value-Text
    & value-Text
    & value-Text
    & value-Bool
    & value-Bool
    & value-Int
    & value-Int
    & value-Text
    & value-Texts
    & value-Int
    & value-Text
    & value-Text
    & value-Text
    & value-Text
    & value-Text
    & value-Texts
    & tt

items_value : (t : Ty) (y : Ty-F Ty) → IsValueTy (ty.List t) → AreValues (item_signatures t y)
items_value t Ty-F.Bool h = (value-Bool, tt)
items_value t Ty-F.Int h = value-Bool & h & tt
items_value t Ty-F.Text h = value-Bool & h & value-Text & tt
items_value t (Ty-F.List u) h = tt
items_value t (Ty-F.Map u) h = tt
items_value t Ty-F.Void h = tt

kinds_value : (t : Ty) (y : Ty-F Ty) → out-Ty t ≡ y → IsValueTy t → AreValues (signatures_of y)
kinds_value t Ty-F.Text e h = texts_value
kinds_value t (Ty-F.List u) e h =
    let is : t ≡ ty.List u = rolled t (Ty-F.List u) e ∙ ty.rolls-List u in
    let list : IsValueTy (ty.List u) = subst IsValueTy is h in
    all_append {X = ℕ × Signature} (λ r. IsValueTy r.1.gives) (list_signatures u) (item_signatures u (out-Ty u)) (value-Int & value-Bool & item_value t u is h & list & list & tt) (items_value u (out-Ty u) list)
kinds_value t (Ty-F.Map u) e h =
    let is : t ≡ ty.Map u = rolled t (Ty-F.Map u) e ∙ ty.rolls-Map u in
    value-Int & value-Bool & value-Texts & values_value t u is h & tt
kinds_value t Ty-F.Bool e h = tt
kinds_value t Ty-F.Int e h = tt
kinds_value t Ty-F.Void e h = tt

row_value : (m : ℕ) (receiver t : Ty) (types : List Ty) → IsRow m receiver types t → IsValueTy receiver → IsValueTy t
row_value m receiver t types row h = found (λ n k. IsValueTy k.gives) (signatures_of (out-Ty receiver)) m (signature types t) (kinds_value receiver (out-Ty receiver) refl h) row

-- typed arguments

types_are : (args : List Value) (types : List Ty) → Typed args types → map type_of args ≡ types
types_are [] [] h = refl
types_are [] (t ∷ ts) h = absurd h
types_are (v ∷ vs) [] h = absurd h
types_are (v ∷ vs) (t ∷ ts) h = ap (λ x. x ∷ map type_of vs) h.0.type ∙ ap (λ xs. t ∷ xs) (types_are vs ts h.1)

are_formed : (args : List Value) (types : List Ty) → Typed args types → AllByRecursion IsWellFormed args
are_formed [] ts h = tt
are_formed (v ∷ vs) [] h = absurd h
are_formed (v ∷ vs) (t ∷ ts) h = (h.0.formed, are_formed vs ts h.1)

are_short : (args : List Value) (types : List Ty) → Typed args types → AllByRecursion IsWithinLimits args
are_short [] ts h = tt
are_short (v ∷ vs) [] h = absurd h
are_short (v ∷ vs) (t ∷ ts) h = (h.0.limits, are_short vs ts h.1)

-- the laws

pub operator_law : OperatorLaw
operator_law op l r a b hl hr h =
    let here : Takes op (type_of l) (type_of r) = subst (λ x. Takes op x (type_of r)) (sym hl.type) (subst (λ y. Takes op a y) (sym hr.type) h) in
    held_where (takes op (type_of l) (type_of r)) (result_type op a) (outcome op_fault (binary_of op l r)) (takes-true op (type_of l) (type_of r) here)
    (op_held (binary_of op l r) (result_type op a) (value-result op a hl.nests) (λ v e. subst (λ x. IsOf v (result_type op x)) hl.type (binary_formed op l r v hl.formed hr.formed here e))
    (binary_short op l r hl.limits hr.limits))

pub part_law : PartLaw
part_law path v t p h fits = put_held (item_of path v) p (path_value path t p h.nests fits) (λ w e. item_formed path v w p h.formed (ap (type_at_path path) h.type ∙ fits) e) (item_short path v h.limits)

pub put_law : PutLaw
put_law path v new t p short h k fits =
    let here : type_at_path path (type_of v) ≡ Some (type_of new) = ap (type_at_path path) h.type ∙ fits ∙ ap Some (sym k.type) in
    put_held (put_in path v new) t h.nests (λ w e. subst (IsOf w) h.type (put_formed path v new w h.formed k.formed here e)) (put_short path v new short h.limits k.limits)

same_result : (r : Result Value LibFault) → method.IsShort r → OrNoMemory r r
same_result (Ok v) h = refl
same_result (Err (lib.NoIndex i n)) h = refl
same_result (Err (lib.TooLong n)) h = refl
same_result (Err (lib.NotANumber s)) h = refl
same_result (Err lib.NoMemory) h = absurd h

pub method_law : MethodLaw
method_law m v args receiver t types row h typed =
    let short = method_short m args v h.limits in
    let here : IsRow m (type_of v) (map type_of args) t = subst (λ x. IsRow m x (map type_of args) t) (sym h.type) (subst (λ ts. IsRow m receiver ts t) (sym (types_are args types typed)) row) in
    held_where (is_row m (type_of v) (map type_of args)) t (outcome lib_fault (method_of m v args)) (row-true m (type_of v) t (map type_of args) here)
    (lib_held (method_of m v args) t (row_value m receiver t types row h.nests) (method_typed m v args (method_of m v args) (same_result (method_of m v args) short) t here h.formed) short)

pub change_law : ChangeLaw
change_law what v args place types row h typed =
    let here : IsChangeRow what (type_of v) (map type_of args) = subst (λ x. IsChangeRow what x (map type_of args)) (sym h.type) (subst (IsChangeRow what place) (sym (types_are args types typed)) row) in
    let like : IfOk (change_of what v args) (Like v) = change_formed what v args h.formed (are_formed args types typed) (change_takes what args v here) in
    held_where (is_change_row what (type_of v) (map type_of args)) place (outcome lib_fault (change_of what v args)) (change_row-true what (type_of v) (map type_of args) here)
    (lib_held (change_of what v args) place h.nests (subst (λ t. IfOk (change_of what v args) (λ w. IsOf w t)) h.type like) (change_short what args v h.limits (are_short args types typed)))
