-- For private contracts alone: tasks and rules, in the order of the writing. Here the last operand stands at the end.
use Rattle.std.specs.Prelude.{ℕ, Bool, true, false, List, [], ◌∷◌, ◌++◌, length, reverse}
use Rattle.bds_value.specs.declared.value.At.{At}
use Rattle.bds_value.specs.declared.value.Ty.{Ty}
use Rattle.bds_value.specs.declared.value.Ty.TheVariants as ty
use Rattle.bds_tree.specs.StmtTree.{SettingFormTree, setting_named, setting_plain, SettingTree}
use Rattle.bds_tree.specs.Tree.{Tree, FormTree, node, dependency, type_of}
use Rattle.bds_tree.specs.declared.stmt.Body.{Body}
use Rattle.bds_code.specs.declared.instr.Instr.TheVariants.{PushBool, PushText, Load, Store, JumpUnless, NewTask, Declare}
use Rattle.bds_code.specs.declared.unit.Function.{Function}
use Rattle.bds_check_size.specs.StmtSize.{has_condition}
use Rattle.bds_gen_expr.specs.ExprCode.{listing}
use Rattle.bds_gen_expr.specs.Gen.{act, begin_other, end_at, gen}
use Rattle.bds_gen_expr.specs.Marks.{does, written}
use Rattle.bds_gen_expr.specs.declared.scope.Scope.{Scope}
use Rattle.bds_gen_stmt.specs.TaskCode.{outs_slot, ins_slot, needed_slot, option_slot, joining_code, asks_date, defaults_code, make_code}

-- a file or a list of files as a list
abbrev pub gen_files : Tree → At → Scope → List Ty → Function → Function
gen_files e at sc s f = written (gen e sc s f) (listing at (type_of e))

-- what is needed stays true only with the truth value on the list
abbrev pub joined : At → ℕ → List Ty → Function → Function
joined at first s f = written f (joining_code at first (length f.code) (reverse s))

abbrev pub asked_date : Bool → At → ℕ → List Ty → Function → Function
asked_date of_dep at first s f = written f (asks_date of_dep at first (length f.code) (reverse s))

abbrev pub gen_plain : Bool → Tree → FormTree → At → Scope → ℕ → List Ty → Function → Function
gen_plain of_dep e (dependency a b) at sc first s f =
    asked_date of_dep at first s (act (gen_files b at sc s (act (gen_files a at sc s f) at (Store (outs_slot first)))) at (Store (ins_slot first)))
gen_plain of_dep e _ at sc first s f = joined at first s (gen e sc s f)

abbrev pub gen_setting : Bool → SettingFormTree → At → Scope → ℕ → List Ty → Function → Function
gen_setting of_dep (setting_named x e) at sc first s f = act (gen e sc s f) at (Store (option_slot x first))
gen_setting of_dep (setting_plain (node place t g)) at sc first s f = gen_plain of_dep (node place t g) g at sc first s f

abbrev pub gen_settings : Bool → List SettingTree → Scope → ℕ → List Ty → Function → Function
gen_settings of_dep [] sc first s f = f
gen_settings of_dep (x ∷ xs) sc first s f = gen_settings of_dep xs sc first s (gen_setting of_dep x.form x.at sc first s f)

-- a task that is made only where it is needed
abbrev pub gen_needed : List SettingTree → Body → At → Scope → ℕ → List Ty → Function → Function
gen_needed os b at sc first s f =
    let options : Function = gen_settings false os sc first s (written f (does (PushBool true) at ∷ does (Store (needed_slot first)) at ∷ [])) in
    let test : Function = act options at (Load (needed_slot first)) in
    let way : Function = written (act test at (JumpUnless 0)) (make_code NewTask b at sc first) in
    end_at (act (begin_other way (length test.code) at s) at (PushText [])) (length way.code) (s ++ ty.Text ∷ [])

abbrev pub gen_behind : Bool → List SettingTree → Body → At → Scope → ℕ → List Ty → Function → Function
gen_behind false os b at sc first s f = written (gen_settings false os sc first s f) (make_code NewTask b at sc first)
gen_behind true os b at sc first s f = gen_needed os b at sc first s f

abbrev pub gen_task : List SettingTree → Body → At → Scope → ℕ → List Ty → Function → Function
gen_task os b at sc first s f = gen_behind (has_condition os) os b at sc first s (written f (defaults_code os at first))

abbrev pub gen_rule : List SettingTree → Body → At → Scope → ℕ → List Ty → Function → Function
gen_rule os b at sc first s f = written (gen_settings true os sc first s (written f (defaults_code os at first))) (make_code Declare b at sc first)
