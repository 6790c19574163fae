-- The code of tasks and rules. Options are evaluated in the order of the text into slots of their own.
use Rattle.std.specs.Prelude.{ℕ, pos, ◌+◌, Bool, true, false, List, [], ◌∷◌, ◌++◌, codes, if◌then◌else◌}
use Rattle.std.specs.Str.{bytes_eq}
use Rattle.bds_value.specs.declared.value.At.{At}
use Rattle.bds_value.specs.declared.value.Ty.{Ty}
use Rattle.bds_value.specs.declared.value.Ty.TheVariants as ty
use Rattle.bds_tree.specs.StmtTree.{SettingFormTree, setting_named, setting_plain, SettingTree}
use Rattle.bds_tree.specs.Tree.{Tree, FormTree, node, dependency}
use Rattle.bds_tree.specs.declared.stmt.Body.{Body}
use Rattle.bds_tree.specs.declared.stmt.Command.{Command}
use Rattle.bds_code.specs.declared.instr.Instr.{Instr}
use Rattle.bds_code.specs.declared.instr.Instr.TheVariants.{PushBool, PushInt, PushText, PushDefault, Load, Store, Concat, Jump, JumpUnless, OutOfDate, NewTask}
use Rattle.bds_check_rules.specs.StmtBreaks.{commands_of, any_dependency}
use Rattle.bds_check_size.specs.ExprSize.{expr_size, files_size}
use Rattle.bds_check_size.specs.StmtSize.{commands_size, setting_size, settings_size, has_option, has_condition, defaults_size}
use Rattle.bds_gen_expr.specs.ExprCode.{pieces_code, expr_code, files_code}
use Rattle.bds_gen_expr.specs.Marks.{Mark, does, label, one}
use Rattle.bds_gen_expr.specs.Scope.{types_in}
use Rattle.bds_gen_expr.specs.declared.scope.Scope.{Scope}

abbrev pub outs_slot : ℕ → ℕ
outs_slot first = first

abbrev pub ins_slot : ℕ → ℕ
ins_slot first = first + 1

abbrev pub needed_slot : ℕ → ℕ
needed_slot first = first + 6

abbrev pub option_slot : List ℕ → ℕ → ℕ
option_slot x first =
    if bytes_eq x (codes "cpus") then first + 2 else
    (if bytes_eq x (codes "canFail") then first + 3 else
    (if bytes_eq x (codes "retry") then first + 4 else first + 5))

abbrev pub set_unless : Bool → At → Instr → ℕ → List Mark
set_unless there at push i = if there then [] else does push at ∷ does (Store i) at ∷ []

abbrev pub defaults_code : List SettingTree → At → ℕ → List Mark
defaults_code os at first =
    set_unless (any_dependency os) at (PushDefault (ty.List ty.Text)) (outs_slot first)
    ++ (set_unless (any_dependency os) at (PushDefault (ty.List ty.Text)) (ins_slot first)
    ++ (set_unless (has_option (codes "cpus") os) at (PushInt (pos 1)) (first + 2)
    ++ (set_unless (has_option (codes "canFail") os) at (PushBool false) (first + 3)
    ++ (set_unless (has_option (codes "retry") os) at (PushInt (pos 0)) (first + 4)
    ++ set_unless (has_option (codes "taskName") os) at (PushText []) (first + 5)))))

-- the slot of what is needed stays true only with the truth value on the list
abbrev pub joining_code : At → ℕ → ℕ → List Ty → List Mark
joining_code at first p s =
    does (JumpUnless (p + 2)) at ∷ does (Jump (p + 4)) at ∷ label s ∷ does (PushBool false) at ∷ does (Store (needed_slot first)) at ∷ label s ∷ []

abbrev pub asks_date : Bool → At → ℕ → ℕ → List Ty → List Mark
asks_date true at first p s = []
asks_date false at first p s =
    does (Load (outs_slot first)) at ∷ does (Load (ins_slot first)) at ∷ does OutOfDate at ∷ joining_code at first (p + 3) s

abbrev pub plain_form_code : Bool → Tree → FormTree → At → Scope → ℕ → ℕ → List Ty → List Mark
plain_form_code of_dep e (dependency a b) at sc first p s =
    let right = p + files_size (types_in sc) a + 1 in
    files_code a at sc p s
    ++ (does (Store (outs_slot first)) at ∷ (files_code b at sc right s ++ (does (Store (ins_slot first)) at ∷ asks_date of_dep at first (right + files_size (types_in sc) b + 1) s)))
plain_form_code of_dep e _ at sc first p s = expr_code e sc p s ++ joining_code at first (p + expr_size (types_in sc) e) s

abbrev pub setting_code : Bool → SettingFormTree → At → Scope → ℕ → ℕ → List Ty → List Mark
setting_code of_dep (setting_named x e) at sc first p s = expr_code e sc p s ++ one at (Store (option_slot x first))
setting_code of_dep (setting_plain (node place t f)) at sc first p s = plain_form_code of_dep (node place t f) f at sc first p s

abbrev pub settings_code : Bool → List SettingTree → Scope → ℕ → ℕ → List Ty → List Mark
settings_code of_dep [] sc first p s = []
settings_code of_dep (x ∷ xs) sc first p s = setting_code of_dep x.form x.at sc first p s ++ settings_code of_dep xs sc first (p + setting_size (types_in sc) of_dep x.form) s

abbrev pub load_options : At → ℕ → List Mark
load_options at first =
    does (Load (outs_slot first)) at ∷ does (Load (ins_slot first)) at ∷ does (Load (first + 2)) at ∷ does (Load (first + 3)) at
    ∷ does (Load (first + 4)) at ∷ does (Load (first + 5)) at ∷ []

abbrev pub further_commands : List Command → Scope → At → List Mark
further_commands [] sc at = []
further_commands (c ∷ cs) sc at = does (PushText (10 ∷ [])) at ∷ does Concat at ∷ (pieces_code sc c.at c.text ++ (does Concat at ∷ further_commands cs sc at))

abbrev pub commands_code : List Command → Scope → At → List Mark
commands_code [] sc at = []
commands_code (c ∷ cs) sc at = pieces_code sc c.at c.text ++ further_commands cs sc at

-- what makes a task or a rule of options that are in their slots
abbrev pub make_code : Instr → Body → At → Scope → ℕ → List Mark
make_code i b at sc first = load_options at first ++ (commands_code (commands_of b) sc at ++ one at i)

abbrev pub task_behind : Bool → List SettingTree → Body → At → Scope → ℕ → ℕ → List Ty → List Mark
task_behind false os b at sc first p s = settings_code false os sc first p s ++ make_code NewTask b at sc first
task_behind true os b at sc first p s =
    let behind = p + 2 + settings_size (types_in sc) false os in
    let other = behind + 2 + 6 + commands_size (types_in sc) (commands_of b) + 1 + 1 in
    does (PushBool true) at ∷ does (Store (needed_slot first)) at
    ∷ (settings_code false os sc first (p + 2) s
    ++ (does (Load (needed_slot first)) at ∷ does (JumpUnless other) at
    ∷ (make_code NewTask b at sc first
    ++ (does (Jump (other + 1)) at ∷ label s ∷ does (PushText []) at ∷ label (ty.Text ∷ s) ∷ []))))

abbrev pub task_code : List SettingTree → Body → At → Scope → ℕ → ℕ → List Ty → List Mark
task_code os b at sc first p s = defaults_code os at first ++ task_behind (has_condition os) os b at sc first (p + defaults_size os) s
