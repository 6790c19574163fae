-- For private contracts alone: the labels and the cases of a `switch`, in the order of the writing. A jump to a case leads to 0 until that case is written.
use Rattle.std.specs.Prelude.{ℕ, ◌+◌, true, false, Option, Some, None, List, [], ◌∷◌, ◌++◌, length, if◌then◌else◌}
use Rattle.bds_value.specs.declared.value.At.{At}
use Rattle.bds_value.specs.declared.value.Ty.{Ty}
use Rattle.bds_tree.specs.StmtTree.{CaseTrees, CaseTree, no_cases, more_cases, a_case}
use Rattle.bds_tree.specs.Tree.{Tree, type_of}
use Rattle.bds_code.specs.declared.instr.Instr.TheVariants.{Load, Store, Equal, Jump, JumpUnless}
use Rattle.bds_code.specs.declared.unit.Function.{Function}
use Rattle.bds_check_rules.specs.StmtBreaks.{any_default}
use Rattle.bds_gen_expr.specs.Gen.{act as one_more, gen}
use Rattle.bds_gen_expr.specs.Marks.{does, label, slot, put, written}
use Rattle.bds_gen_expr.specs.declared.scope.Scope.{Scope}
use Rattle.bds_gen_stmt_code.specs.Bodies.{slots_of, with_function, with_body}
use Rattle.bds_gen_stmt_code.specs.GenLoops.{jump_ended, in_new_loop}
use Rattle.bds_gen_stmt_code.specs.Leaps.{led_out, going_on}
use Rattle.bds_gen_stmt_code.specs.declared.body.Body.{Body}
use Rattle.bds_gen_stmt_code.specs.declared.body.Leap.{Leap}
use Rattle.bds_gen_stmt_code.specs.declared.body.Unfinished.{Unfinished}
use Rattle.bds_gen_stmt_code.specs.declared.switches.OpenedSwitch.{OpenedSwitch}

-- Labels

abbrev pub label_of : CaseTree → Option Tree
label_of (a_case at l ss) = l

-- a label is compared with the value of the `switch`, which a slot keeps
abbrev pub compared : Function → At → ℕ → Function
compared f at value_slot = written f (does (Load value_slot) at ∷ does Equal at ∷ does (JumpUnless (length f.code + 4)) at ∷ does (Jump 0) at ∷ label [] ∷ [])

abbrev pub gen_label : Option Tree → At → ℕ → Scope → Function → Function
gen_label None at value_slot sc f = f
gen_label (Some e) at value_slot sc f = compared (gen e sc [] f) at value_slot

-- the place of the jump to its case; `default` has none here
abbrev pub label_jump : Option Tree → Scope → Function → ℕ
label_jump None sc f = 0
label_jump (Some e) sc f = length (gen e sc [] f).code + 3

abbrev pub gen_labels : CaseTrees → At → ℕ → Scope → Function → Function
gen_labels no_cases at value_slot sc f = f
gen_labels (more_cases c cs) at value_slot sc f = gen_labels cs at value_slot sc (gen_label (label_of c) at value_slot sc f)

abbrev pub label_jumps : CaseTrees → At → ℕ → Scope → Function → List ℕ
label_jumps no_cases at value_slot sc f = []
label_jumps (more_cases c cs) at value_slot sc f = label_jump (label_of c) sc f ∷ label_jumps cs at value_slot sc (gen_label (label_of c) at value_slot sc f)

-- Cases

-- The jump that leads to a case: its own, or for `default` the one behind all labels, which only the first has.
abbrev pub jump_to : Option Tree → ℕ → Option ℕ → Option ℕ
jump_to None own other = other
jump_to (Some e) own other = Some own

abbrev pub other_behind : Option Tree → Option ℕ → Option ℕ
other_behind None other = None
other_behind (Some e) other = other

-- a jump leads here, if there is one
abbrev pub arrived : Option ℕ → Function → Function
arrived None f = put f (label [])
arrived (Some jump) f = jump_ended f jump

-- The whole

abbrev pub kept : Function → At → Ty → Function
kept f at t = written f (slot t ∷ does (Store (slots_of f)) at ∷ [])

-- the labels, where this has the value
abbrev pub compared_all : Function → At → Ty → CaseTrees → Scope → Function
compared_all f at t cs sc = gen_labels cs at (slots_of f) sc (kept f at t)

-- the jump behind all labels, where it leads behind the `switch`
abbrev pub open_jump : CaseTrees → ℕ → Option ℕ
open_jump cs other = if any_default cs then None else Some other

-- a `switch` ends, and these are the jumps of what is around it
abbrev pub switch_closed : Body → Option ℕ → List Leap → Body
switch_closed b jump around = record b {
  function = arrived jump (led_out (length b.function.code + 0) b.leaps b.function);
  leaps = around ++ going_on b.leaps;
}

-- What begins and what ends a `switch` and a case. These words stay closed, so that the contracts of the walk stay short.

unfoldable pub switch_begun : Tree → CaseTrees → At → Unfinished → Unfinished
switch_begun e cs at u = in_new_loop (with_function u (one_more (compared_all (gen e u.body.scope [] u.body.function) at (type_of e) cs u.body.scope) at (Jump 0)))

unfoldable pub switch_opened : Tree → CaseTrees → At → Unfinished → OpenedSwitch
switch_opened e cs at u =
    let value : Function = gen e u.body.scope [] u.body.function in
    record {
      jumps = label_jumps cs at (slots_of value) u.body.scope (kept value at (type_of e));
      other = length (compared_all value at (type_of e) cs u.body.scope).code + 0;
      around = u.body.leaps;
    }

unfoldable pub case_begun : Option ℕ → Unfinished → Unfinished
case_begun jump u = with_function u (arrived jump u.body.function)

unfoldable pub switch_ended : CaseTrees → OpenedSwitch → Unfinished → Unfinished
switch_ended cs o u = with_body u (switch_closed u.body (open_jump cs o.other) o.around)
