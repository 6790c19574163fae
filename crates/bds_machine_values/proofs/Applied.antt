-- What operators, methods and changes give of operands that they take.
use Rattle.std.proofs.Common.{◌≡◌, List, [], ◌∷◌, ◌++◌, Bool, true, false, cond, map, Option, Some, None, Err, IsSome, refl, sym, ap, ◌∙◌, subst}
use Rattle.std.specs.Prelude.{ℕ, Result}
use Rattle.bds_value.specs.declared.faults.RunFault.{RunFault}
use Rattle.bds_value.specs.declared.faults.PutFault.{PutFault}
use Rattle.bds_value.specs.declared.faults.PutFault.TheVariants as put
use Rattle.bds_value.specs.declared.value.Op.{Op}
use Rattle.bds_value.specs.declared.value.Op.TheVariants.{ListAdd, ListCat}
use Rattle.bds_value.specs.declared.value.Place.{Place}
use Rattle.bds_value.specs.declared.value.Ty.{Ty}
use Rattle.bds_value.specs.declared.value.Value.{Value}
use Rattle.bds_value.specs.declared.value.Value.TheVariants as value
use Rattle.bds_value.specs.Operators.{binary_of, short_list}
use Rattle.bds_value.specs.Path.{put_in, Puts}
use Rattle.bds_value.specs.Value.{type_of}
use Rattle.bds_value.specs.RunFaults.{op_fault, put_fault}
use Rattle.bds_value.specs.Options.{◌>>=◌}
use Rattle.bds_lib.specs.declared.faults.LibFault.{LibFault}
use Rattle.bds_lib.specs.declared.faults.LibFault.TheVariants as lib
use Rattle.bds_lib.specs.Call.{method_of}
use Rattle.bds_lib.specs.Change.{change_of}
use Rattle.bds_lib.specs.Results.{OrNoMemory, Changes}
use Rattle.bds_lib.specs.RunFaults.{lib_fault}
use Rattle.bds_machine_values.specs.declared.faults.RowFault.{RowFault}
use Rattle.bds_machine_values.specs.declared.faults.RowFault.TheVariants.{Fault, NoMemory}
use Rattle.bds_machine_values.specs.Faults.{Outcome, Answers, Leaves, IsFaultOf, outcome}
use Rattle.bds_machine_values.specs.Results.{applied, called, mutated, put_at}
use Rattle.bds_machine_values.specs.Typing.{takes, suits, is_row, is_change_row}

-- what is there only where a test holds
pub there_where : {X : Type 0} (b : Bool) (o : Option X) → IsSome (cond b o None) → cond b o None ≡ o
there_where true o h = refl
there_where false o h = absurd (cc)

-- what an operator gives where it gives something
pub applied-is : (op : Op) (l r : Value) → IsSome (applied op l r) → applied op l r ≡ outcome op_fault (binary_of op l r)
applied-is op l r h = there_where (takes op (type_of l) (type_of r)) (outcome op_fault (binary_of op l r)) h

pub item_added : (op : Op) (t : Ty) (items : List Value) (x : Value) (r : Result Value RowFault) → op ≡ ListAdd → IsSome (applied op (value.List t items) x)
    → Answers (outcome op_fault (short_list t (items ++ x ∷ []))) r → Answers (applied op (value.List t items) x) r
item_added op t items x r e h given =
    let is : binary_of op (value.List t items) x ≡ short_list t (items ++ x ∷ []) = rw (e, value.outs-List t items) refl in
    subst (λ o. Answers o r) (sym (applied-is op (value.List t items) x h ∙ ap (outcome op_fault) is)) given

pub list_joined : (t u : Ty) (items more : List Value) (x : Value) (r : Result Value RowFault) → x ≡ value.List u more → IsSome (applied ListCat (value.List t items) x)
    → Answers (outcome op_fault (short_list t (items ++ more))) r → Answers (applied ListCat (value.List t items) x) r
list_joined t u items more x r e h given =
    let is : binary_of ListCat (value.List t items) x ≡ short_list t (items ++ more) = rw (e, value.outs-List t items, value.outs-List u more) refl in
    subst (λ o. Answers o r) (sym (applied-is ListCat (value.List t items) x h ∙ ap (outcome op_fault) is)) given

-- a fault of the run where a result is that fault
stops : (o : Option RunFault) (given : Outcome Value) (e : RowFault) → given ≡ o >>= (λ e. Some (Err e)) → IsFaultOf o e → Answers given (Err e)
stops o given (Fault x) is f = is ∙ ap (λ o. o >>= λ e. Some (Err e)) f
stops o given NoMemory is f = tt

-- no fault of the run
lost : (given : Outcome Value) (e : RowFault) → IsFaultOf None e → Answers given (Err e)
lost given (Fault x) f = absurd (cc)
lost given NoMemory f = tt

leaves : (given : Outcome Value) (v : Value) (e : RowFault) → Answers given (Err e) → Leaves given v (Err e)
leaves given v (Fault x) h = h
leaves given v NoMemory h = tt

-- a method's fault
pub called_stops : (m : ℕ) (v : Value) (args : List Value) (fault : LibFault) (e : RowFault) → IsSome (called m v args) → OrNoMemory (method_of m v args) (Err fault) → IsFaultOf (lib_fault fault) e → Answers (called m v args) (Err e)
called_stops m v args fault e h k f = from fault k f
  where
    is : called m v args ≡ outcome lib_fault (method_of m v args)
    is = there_where (is_row m (type_of v) (map type_of args)) (outcome lib_fault (method_of m v args)) h

    from : (fault : LibFault) → OrNoMemory (method_of m v args) (Err fault) → IsFaultOf (lib_fault fault) e → Answers (called m v args) (Err e)
    from (lib.NoIndex i n) k f = stops (lib_fault (lib.NoIndex i n)) (called m v args) e (is ∙ ap (outcome lib_fault) (sym k)) f
    from (lib.TooLong n) k f = stops (lib_fault (lib.TooLong n)) (called m v args) e (is ∙ ap (outcome lib_fault) (sym k)) f
    from (lib.NotANumber t) k f = stops (lib_fault (lib.NotANumber t)) (called m v args) e (is ∙ ap (outcome lib_fault) (sym k)) f
    from lib.NoMemory k f = lost (called m v args) e f

-- the fault of a method that changes a part
pub mutated_stops : (m : ℕ) (part new : Value) (args : List Value) (fault : LibFault) (e : RowFault) → IsSome (mutated m part args) → Changes (change_of m part args) part new (Err fault) → IsFaultOf (lib_fault fault) e → Answers (mutated m part args) (Err e)
mutated_stops m part new args fault e h k f = from fault k f
  where
    is : mutated m part args ≡ outcome lib_fault (change_of m part args)
    is = there_where (is_change_row m (type_of part) (map type_of args)) (outcome lib_fault (change_of m part args)) h

    from : (fault : LibFault) → Changes (change_of m part args) part new (Err fault) → IsFaultOf (lib_fault fault) e → Answers (mutated m part args) (Err e)
    from (lib.NoIndex i n) k f = stops (lib_fault (lib.NoIndex i n)) (mutated m part args) e (is ∙ ap (outcome lib_fault) k.0) f
    from (lib.TooLong n) k f = stops (lib_fault (lib.TooLong n)) (mutated m part args) e (is ∙ ap (outcome lib_fault) k.0) f
    from (lib.NotANumber t) k f = stops (lib_fault (lib.NotANumber t)) (mutated m part args) e (is ∙ ap (outcome lib_fault) k.0) f
    from lib.NoMemory k f = lost (mutated m part args) e f

-- the fault of what can't be put
pub unput : {X : Type 0} (given : Result X PutFault) (old after : X) (fault : PutFault) (e : RowFault) → Puts given old after (Err fault) → IsFaultOf (put_fault fault) e → Leaves (outcome put_fault given) after (Err e)
unput given old after (put.NoIndex i n) (Fault x) k f = ap (outcome put_fault) k.0 ∙ ap (λ o. o >>= λ e. Some (Err e)) f
unput given old after (put.NoKey t) (Fault x) k f = ap (outcome put_fault) k.0 ∙ ap (λ o. o >>= λ e. Some (Err e)) f
unput given old after (put.TooLong n) (Fault x) k f = ap (outcome put_fault) k.0 ∙ ap (λ o. o >>= λ e. Some (Err e)) f
unput given old after put.NoMemory (Fault x) k f = absurd (cc)
unput given old after fault NoMemory k f = tt

-- the fault of a path that leads to no part
pub put_stops : (path : List Place) (v new after : Value) (fault : PutFault) (e : RowFault) → IsSome (put_at path v new) → Puts (put_in path v new) v after (Err fault) → IsFaultOf (put_fault fault) e → Leaves (put_at path v new) after (Err e)
put_stops path v new after fault e h k f =
    let is : put_at path v new ≡ outcome put_fault (put_in path v new) = there_where (suits path (type_of v) (type_of new)) (outcome put_fault (put_in path v new)) h in
    subst (λ o. Leaves o after (Err e)) (sym is) (unput (put_in path v new) v after fault e k f)
