-- For private contracts alone: tests and loops, in the order of the writing. A jump whose place isn't known yet leads to 0 until it is.
use Rattle.std.specs.Prelude.{ℕ, pos, ◌+◌, true, false, Option, Some, None, List, [], ◌∷◌, length}
use Rattle.bds_value.specs.declared.change_numbers.TheConstants.{ADD}
use Rattle.bds_value.specs.declared.method_numbers.TheConstants.{LIST_SIZE}
use Rattle.bds_value.specs.declared.value.At.{At}
use Rattle.bds_value.specs.declared.value.Ty.{Ty}
use Rattle.bds_value.specs.declared.value.Ty.TheVariants as ty
use Rattle.bds_tree.specs.StmtTree.{SmallTree}
use Rattle.bds_tree.specs.Tree.{Tree}
use Rattle.bds_code.specs.declared.instr.Instr.TheVariants.{PushBool, PushInt, Load, Store, Less, Item, Update, Jump, JumpUnless, Tick, Method as CallMethod}
use Rattle.bds_code.specs.declared.unit.Function.{Function}
use Rattle.bds_gen_expr.specs.Gen.{act as one_more, patched, begin_other, gen}
use Rattle.bds_gen_expr.specs.Marks.{does, label, slot, put, written}
use Rattle.bds_gen_expr.specs.declared.scope.Scope.{Scope}
use Rattle.bds_gen_stmt_code.specs.Bodies.{slots_of, in_body, with_function, with_body, with_local, left_body}
use Rattle.bds_gen_stmt_code.specs.GenParts.{gen_small}
use Rattle.bds_gen_stmt_code.specs.Leaps.{loop_to, led}
use Rattle.bds_gen_stmt_code.specs.declared.blocks.Before.{Before}
use Rattle.bds_gen_stmt_code.specs.declared.body.Body.{Body}
use Rattle.bds_gen_stmt_code.specs.declared.body.Leap.{Leap}
use Rattle.bds_gen_stmt_code.specs.declared.body.Unfinished.{Unfinished}
use Rattle.bds_gen_stmt_code.specs.declared.control.Opened.{Opened}
use Rattle.bds_gen_stmt_code.specs.declared.control.OpenedList.{OpenedList}
use Rattle.bds_gen_stmt_code.specs.declared.loops.Head.{Head}

-- Tests and loops

abbrev pub gen_condition : Option Tree → At → Scope → Function → Function
gen_condition None at sc f = one_more f at (PushBool true)
gen_condition (Some e) at sc f = gen e sc [] f

-- a test that leads ahead behind what was written
abbrev pub tested : Function → At → Function
tested f at = one_more f at (JumpUnless 0)

-- the test at a place leads here, and so does a jump
abbrev pub test_ended : Function → ℕ → Function
test_ended f test = put (patched f test (JumpUnless (length f.code + 0))) (label [])

abbrev pub jump_ended : Function → ℕ → Function
jump_ended f jump = put (patched f jump (Jump (length f.code + 0))) (label [])

-- where a loop begins
abbrev pub topped : Function → At → Function
topped f at = one_more (put f (label [])) at Tick

-- the jumps of a loop lead to these places
abbrev pub loop_ended : Function → At → ℕ → ℕ → ℕ → List Leap → Function
loop_ended f at top again test js =
    test_ended (one_more (led (loop_to again (length f.code + 1)) js f) at (Jump top)) test

-- a loop ends, and these are the jumps of the one around it
abbrev pub loop_closed : Body → At → ℕ → ℕ → ℕ → List Leap → Body
loop_closed b at top again test around = record b { function = loop_ended b.function at top again test b.leaps; leaps = around }

-- without jumps yet
abbrev pub in_new_loop : Unfinished → Unfinished
in_new_loop u = record u { body = record u.body { leaps = [] } }

-- the list of a list loop and its count
abbrev pub list_begun : Function → At → Ty → Function
list_begun f at t =
    written f (slot (ty.List t) ∷ does (Store (slots_of f)) at ∷ does (PushInt (pos 0)) at ∷ slot ty.Int ∷ does (Store (slots_of f + 1)) at ∷ [])

-- its test, where these are the slots of the list and the count
abbrev pub list_tested : Function → At → ℕ → ℕ → Function
list_tested f at list count =
    written f (label [] ∷ does Tick at ∷ does (Load count) at ∷ does (Load list) at ∷ does (CallMethod LIST_SIZE) at ∷ does Less at ∷ [])

abbrev pub list_item : Function → At → ℕ → ℕ → Function
list_item f at list count = written f (does (Load list) at ∷ does (Load count) at ∷ does Item at ∷ [])

-- one more is counted
abbrev pub list_counted : Function → At → ℕ → Function
list_counted f at count = written f (label [] ∷ does (PushInt (pos 1)) at ∷ does (Update false count [] ADD) at ∷ [])

-- the slot of the count, the top and the place of the test, where the list is below
abbrev pub list_head : Function → At → Ty → Head
list_head f at t = record { count = slots_of f + 1; top = length (list_begun f at t).code + 0; test = length (list_tested (list_begun f at t) at (slots_of f) (slots_of f + 1)).code }

-- the variable takes an item
abbrev pub list_own : Body → At → Ty → List ℕ → Body
list_own b at t x =
    let list : ℕ = slots_of b.function in
    let count : ℕ = slots_of b.function + 1 in
    with_local (in_body b (list_item (tested (list_tested (list_begun b.function at t) at list count) at) at list count)) at x t

-- a list loop ends
abbrev pub list_closed : Body → At → Head → List Leap → Body
list_closed b at h around = loop_closed (in_body b (list_counted b.function at h.count)) at h.top (length b.function.code + 0) h.test around

-- What begins and what ends a statement that has others within. These words stay closed, so that the contracts of the walk stay short.

unfoldable pub if_begun : Tree → At → Unfinished → Unfinished
if_begun c at u = with_function u (tested (gen c u.body.scope [] u.body.function) at)

-- the place of its test
unfoldable pub if_test : Tree → Unfinished → ℕ
if_test c u = length (gen c u.body.scope [] u.body.function).code

unfoldable pub if_ended : ℕ → Unfinished → Unfinished
if_ended test u = with_function u (test_ended u.body.function test)

unfoldable pub else_begun : ℕ → At → Unfinished → Unfinished
else_begun test at u = with_function u (begin_other u.body.function test at [])

-- the place of the jump over it
unfoldable pub else_jump : Unfinished → ℕ
else_jump u = length u.body.function.code

unfoldable pub else_ended : ℕ → Unfinished → Unfinished
else_ended jump u = with_function u (jump_ended u.body.function jump)

unfoldable pub while_begun : Tree → At → Unfinished → Unfinished
while_begun c at u = in_new_loop (with_function u (tested (gen c u.body.scope [] (topped u.body.function at)) at))

unfoldable pub while_opened : Tree → At → Unfinished → Opened
while_opened c at u = record { top = length u.body.function.code; test = length (gen c u.body.scope [] (topped u.body.function at)).code; around = u.body.leaps }

unfoldable pub while_ended : At → Opened → Unfinished → Unfinished
while_ended at o u = with_body u (loop_closed u.body at o.top o.top o.test o.around)

unfoldable pub for_begun : Option SmallTree → Option Tree → At → Unfinished → Unfinished
for_begun first c at u =
    let head : Body = gen_small first u.body in
    in_new_loop (with_body u (in_body head (tested (gen_condition c at head.scope (topped head.function at)) at)))

unfoldable pub for_opened : Option SmallTree → Option Tree → At → Unfinished → Opened
for_opened first c at u =
    let head : Body = gen_small first u.body in
    record { top = length head.function.code; test = length (gen_condition c at head.scope (topped head.function at)).code; around = head.leaps }

-- its variables aren't in force behind it
unfoldable pub for_ended : Option SmallTree → At → Before → Opened → Unfinished → Unfinished
for_ended next at before o u =
    let behind : Body = gen_small next (in_body u.body (put u.body.function (label []))) in
    with_body u (left_body before.count before.at_top (loop_closed behind at o.top (length u.body.function.code) o.test o.around))

unfoldable pub each_begun : Ty → List ℕ → Tree → At → Unfinished → Unfinished
each_begun t x e at u = in_new_loop (with_body u (list_own (in_body u.body (gen e u.body.scope [] u.body.function)) at t x))

unfoldable pub each_opened : Ty → Tree → At → Unfinished → OpenedList
each_opened t e at u = record { head = list_head (gen e u.body.scope [] u.body.function) at t; around = u.body.leaps }

unfoldable pub each_ended : At → Before → OpenedList → Unfinished → Unfinished
each_ended at before o u = with_body u (left_body before.count before.at_top (list_closed u.body at o.head o.around))
