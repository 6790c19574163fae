-- Small scripts with what is asked of the outside under these replies, as examples of the meaning.
use Rattle.std.specs.Prelude.{◌≡◌, ℕ, pos, ◌^◌, true, false, List, [], ◌∷◌, Some, None, codes}
use Rattle.bds_value.specs.declared.value.Ty.{Ty}
use Rattle.bds_value.specs.declared.value.Ty.TheVariants as ty
use Rattle.bds_tree.specs.declared.token.Piece.{Piece}
use Rattle.bds_tree.specs.declared.token.Piece.TheVariants as piece
use Rattle.bds_tree.specs.declared.token.Index.TheVariants as index
use Rattle.bds_tree.specs.declared.token.KeyName.TheVariants as key_name
use Rattle.bds_tree.specs.declared.expr.BinaryOp.{BinaryOp}
use Rattle.bds_tree.specs.declared.expr.BinaryOp.TheVariants as sign
use Rattle.bds_tree.specs.declared.stmt.Body.{Body}
use Rattle.bds_tree.specs.declared.stmt.Body.TheVariants as body
use Rattle.bds_tree.specs.declared.stmt.Parameter.{Parameter}
use Rattle.bds_tree.specs.declared.stmt.StepOp.TheVariants.{Increment}
use Rattle.bds_tree.specs.declared.stmt.UpdateOp.TheVariants as update_op
use Rattle.bds_tree.specs.Tree.{Tree, node, number, truth, text, name, call, list, mapping, method, binary, dependency, none, more, no_pairs, more_pairs}
use Rattle.bds_tree.specs.StmtTree.{at_key, PlaceTree, step_after, small_declare, small_step, SettingTree, setting_named, setting_plain, StmtTree, LineTree, ActFormTree, BlockTree, PartTree, ScriptTree, stmt, inner_block, line, when, for, each, declare, infer, assign, update, call_line, break, print, println, exit, return, wait, checkpoint, act_line, right_expr, right_act, act, sys, task, dep, goal, par_block, block, no_stmt, a_stmt, no_right, a_right, a_function, a_statement, to_stmts, while, step, continue, par_call}
use Rattle.bds_host.specs.declared.asks.Ask.TheVariants as ask
use Rattle.bds_host.specs.declared.asks.Reply.{Reply}
use Rattle.bds_host.specs.declared.asks.Reply.TheVariants as reply
use Rattle.bds_meaning.specs.Opening.{opening, program_of}
use Rattle.bds_schedule.specs.Play.{play, saved_in, Played, Comes}
use Rattle.bds_schedule.specs.Revive.{revived}
use Rattle.bds_meaning.specs.Run.{Conf, source_move}
use Rattle.bds_schedule.specs.Stages.{End, Spent}
use Rattle.bds_schedule.specs.Steps.{Step}
use Rattle.bds_schedule.specs.ScheduleRows.{at_line, ended}

-- Trees

abbrev pub num : ℕ → ℕ → Tree
num l n = node (at_line l) ty.Int (number (pos n))

abbrev pub str : ℕ → List ℕ → Tree
str l t = node (at_line l) ty.Text (text (piece.Plain t ∷ []))

abbrev pub var : ℕ → Ty → List ℕ → Tree
var l t x = node (at_line l) t (name x)

abbrev pub sum : ℕ → Tree → Tree → Tree
sum l a b = node (at_line l) ty.Int (binary a sign.Add b)

abbrev pub texts : Ty
texts = ty.List ty.Text

abbrev pub on_line : ℕ → LineTree → StmtTree
on_line l form = stmt (at_line l) (line form)

abbrev pub part : ℕ → LineTree → PartTree
part l form = a_statement (on_line l form)

abbrev pub printed : ℕ → Tree → LineTree
printed l e = println (Some e)

abbrev pub command : ℕ → List Piece → Body
command l ps = body.Sys (record { at = at_line l; text = ps })

abbrev pub says : List ℕ → List Piece
says t = piece.Plain t ∷ []

abbrev pub files_from : ℕ → Tree → Tree → SettingTree
files_from l a b = record { at = at_line l; form = setting_plain (node (at_line l) ty.Bool (dependency a b)) }

abbrev pub set_to : ℕ → List ℕ → Tree → SettingTree
set_to l x e = record { at = at_line l; form = setting_named x e }

abbrev pub acts : ℕ → ActFormTree → LineTree
acts l form = act_line (act (at_line l) form)

abbrev pub block_of : ℕ → List StmtTree → BlockTree
block_of l ss = block (at_line l) (to_stmts ss)

abbrev pub script_of : List PartTree → ScriptTree
script_of parts = record { at = at_line 1; files = codes "s.bds" ∷ []; parts = parts }

-- Runs

abbrev pub opens : List PartTree → Conf
opens parts = opening (codes "s.bds") 4 (2 ^ 62) [] [] (script_of parts)

-- each state is saved as no bytes
abbrev pub moves : List PartTree → Conf → Step Conf End
moves parts c = source_move (program_of (script_of parts)) [] c

-- the asks of a script under replies, with 4 processors
abbrev pub runs : ℕ → List PartTree → List Reply → Played
runs steps parts replies = play (moves parts) steps (opens parts) replies

-- the asks of a run that goes on from the first save of a script, where these were the replies before it
abbrev pub goes_on : ℕ → List PartTree → List Reply → List Reply → Played
goes_on steps parts before replies = play (moves parts) steps (revived (saved_in (moves parts) steps (opens parts) before) 4 (2 ^ 62)) replies

-- println 1 + 2 * 3
abbrev pub sum_of_product : List PartTree
sum_of_product = part 1 (printed 1 (sum 1 (num 1 1) (node (at_line 1) ty.Int (binary (num 1 2) sign.Mul (num 1 3))))) ∷ []

abbrev pub sum_is_printed : Type 0
sum_is_printed = runs 40 sum_of_product (reply.Done ∷ []) ≡ ended (ask.Out (codes "7\n") ∷ []) 0

-- int z; println 1 / z
abbrev pub quotient_of_zero : List PartTree
quotient_of_zero =
    part 1 (declare ty.Int (codes "z") no_right)
    ∷ part 1 (printed 1 (node (at_line 1) ty.Int (binary (num 1 1) sign.Div (var 1 ty.Int (codes "z")))))
    ∷ []

abbrev pub zero_divisor_is_told : Type 0
zero_divisor_is_told = runs 60 quotient_of_zero (reply.Done ∷ []) ≡ ended (ask.Err (codes "bds: s.bds:1: zero divisor\n") ∷ []) 1

-- l := ['a', 'b']
-- m := { 'k' => 'v' }
-- println "$l[0] $l[x y] $ $1 $m{'k'}"
abbrev pub pieces_of_text : List PartTree
pieces_of_text =
    part 1 (infer (codes "l") (right_expr (node (at_line 1) texts (list (more (str 1 (codes "a")) (more (str 1 (codes "b")) none))))))
    ∷ part 2 (infer (codes "m") (right_expr (node (at_line 2) (ty.Map ty.Text) (mapping (more_pairs (str 2 (codes "k")) (str 2 (codes "v")) no_pairs)))))
    ∷ part 3 (printed 3 (node (at_line 3) ty.Text (text (
    piece.Item (codes "l") (index.Number (pos 0))
    ∷ piece.Plain (codes " ")
    ∷ piece.Name (codes "l")
    ∷ piece.Plain (codes "[x y] $ $1 ")
    ∷ piece.Key (codes "m") (key_name.Text (codes "k"))
    ∷ []))))
    ∷ []

abbrev pub pieces_are_joined : Type 0
pieces_are_joined = runs 52 pieces_of_text (reply.Done ∷ []) ≡ ended (ask.Out (codes "a a b[x y] $ $1 v\n") ∷ []) 0

-- int f() { checkpoint 'a.chp'; return 2 }
-- println 1 + f()
abbrev pub save_in_call : List PartTree
save_in_call =
    a_function (record {
      at = at_line 1;
      result = ty.Int;
      name = codes "f";
      parameters = [];
      body = block_of 1 (on_line 1 (checkpoint (Some (str 1 (codes "a.chp")))) ∷ on_line 1 (return (a_right (right_expr (num 1 2)))) ∷ []);
    })
    ∷ part 2 (printed 2 (sum 2 (num 2 1) (node (at_line 2) ty.Int (call (codes "f") none))))
    ∷ []

abbrev pub call_is_saved : Type 0
call_is_saved = runs 60 save_in_call (reply.Done ∷ reply.Done ∷ []) ≡ ended (ask.Save (codes "a.chp") [] ∷ ask.Out (codes "3\n") ∷ []) 0

-- and what goes on from that save
abbrev pub saved_call_goes_on : Type 0
saved_call_goes_on = goes_on 60 save_in_call [] (reply.Done ∷ []) ≡ ended (ask.Out (codes "3\n") ∷ []) 0

-- task sys echo hi
abbrev pub one_task : List PartTree
one_task = part 1 (acts 1 (task None (command 1 (says (codes "echo hi"))))) ∷ []

abbrev pub task_is_run : Type 0
task_is_run =
    runs 60 one_task (reply.Started ∷ reply.Run 0 ∷ reply.Ended 1 0 ∷ [])
    ≡ ended (ask.Start 1 0 (codes "echo hi") ∷ ask.Next (0 ∷ []) (1 ∷ []) ∷ ask.Next [] (1 ∷ []) ∷ []) 0

-- task sys true
-- task sys false
abbrev pub failing_task : List PartTree
failing_task =
    part 1 (acts 1 (task None (command 1 (says (codes "true")))))
    ∷ part 2 (acts 2 (task None (command 2 (says (codes "false")))))
    ∷ []

abbrev pub failing_replies : List Reply
failing_replies =
    reply.Started ∷ reply.Run 0 ∷ reply.Started ∷ reply.Run 0 ∷ reply.Ended 2 1 ∷ reply.Run 0 ∷ reply.Ended 1 0 ∷ reply.Done ∷ reply.Done ∷ []

abbrev pub failed_task_is_told : Type 0
failed_task_is_told =
    runs 100 failing_task failing_replies
    ≡ ended (
    ask.Start 1 0 (codes "true")
    ∷ ask.Next (0 ∷ []) (1 ∷ [])
    ∷ ask.Start 2 0 (codes "false")
    ∷ ask.Next (0 ∷ []) (1 ∷ 2 ∷ [])
    ∷ ask.Next [] (1 ∷ 2 ∷ [])
    ∷ ask.Next (0 ∷ []) (1 ∷ [])
    ∷ ask.Next [] (1 ∷ [])
    ∷ ask.Err (codes "bds: task.2 failed with code 1\n")
    ∷ ask.Save (codes "s.bds.chp") []
    ∷ []) 1

-- only the task that failed runs again
abbrev pub failed_task_runs_again : Type 0
failed_task_runs_again =
    goes_on 100 failing_task failing_replies (reply.Started ∷ reply.Ended 2 0 ∷ [])
    ≡ ended (ask.Start 2 0 (codes "false") ∷ ask.Next [] (2 ∷ []) ∷ []) 0

-- 'end'.write('')
abbrev pub written : ℕ → List ℕ → LineTree
written l path = call_line (node (at_line l) ty.Void (method (str l path) (codes "write") (more (node (at_line l) ty.Text (text [])) none)))

-- string a = task sys sleep 9
-- string b = task sys echo b
-- wait b
-- checkpoint 'c.chp'
-- wait
-- 'end'.write('')
abbrev pub save_between_waits : List PartTree
save_between_waits =
    part 1 (declare ty.Text (codes "a") (a_right (right_act (act (at_line 1) (task None (command 1 (says (codes "sleep 9"))))))))
    ∷ part 2 (declare ty.Text (codes "b") (a_right (right_act (act (at_line 2) (task None (command 2 (says (codes "echo b"))))))))
    ∷ part 3 (wait (Some (var 3 ty.Text (codes "b"))))
    ∷ part 4 (checkpoint (Some (str 4 (codes "c.chp"))))
    ∷ part 5 (wait None)
    ∷ part 6 (written 6 (codes "end"))
    ∷ []

abbrev pub waits_replies : List Reply
waits_replies =
    reply.Started ∷ reply.Run 0 ∷ reply.Started ∷ reply.Run 0 ∷ reply.Ended 2 0 ∷ reply.Run 0 ∷ reply.Done ∷ reply.Run 0 ∷ reply.Ended 1 0 ∷ reply.Done ∷ []

abbrev pub waits_come_in_order : Type 0
waits_come_in_order =
    runs 58 save_between_waits waits_replies
    ≡ ended (
    ask.Start 1 0 (codes "sleep 9")
    ∷ ask.Next (0 ∷ []) (1 ∷ [])
    ∷ ask.Start 2 0 (codes "echo b")
    ∷ ask.Next (0 ∷ []) (1 ∷ 2 ∷ [])
    ∷ ask.Next [] (1 ∷ 2 ∷ [])
    ∷ ask.Next (0 ∷ []) (1 ∷ [])
    ∷ ask.Save (codes "c.chp") []
    ∷ ask.Next (0 ∷ []) (1 ∷ [])
    ∷ ask.Next [] (1 ∷ [])
    ∷ ask.Write (codes "end") []
    ∷ []) 0

-- task sys sleep 9
-- checkpoint 'c.chp'
-- wait
-- 'end'.write('')
abbrev pub save_with_task : List PartTree
save_with_task =
    part 1 (acts 1 (task None (command 1 (says (codes "sleep 9")))))
    ∷ part 2 (checkpoint (Some (str 2 (codes "c.chp"))))
    ∷ part 3 (wait None)
    ∷ part 4 (written 4 (codes "end"))
    ∷ []

abbrev pub running_task_starts_again : Type 0
running_task_starts_again =
    goes_on 40 save_with_task (reply.Started ∷ reply.Run 0 ∷ []) (reply.Started ∷ reply.Run 0 ∷ reply.Ended 1 0 ∷ reply.Done ∷ [])
    ≡ ended (ask.Start 1 0 (codes "sleep 9") ∷ ask.Next (0 ∷ []) (1 ∷ []) ∷ ask.Next [] (1 ∷ []) ∷ ask.Write (codes "end") [] ∷ []) 0

-- for(int i = 0; i < 2; i++) 'a'.rm()
abbrev pub counted_loop : List PartTree
counted_loop =
    a_statement (stmt (at_line 1) (for
    (Some (record { at = at_line 1; form = small_declare ty.Int (codes "i") (Some (num 1 0)) }))
    (Some (node (at_line 1) ty.Bool (binary (var 1 ty.Int (codes "i")) sign.Less (num 1 2))))
    (Some (record { at = at_line 1; form = small_step (step_after (record { at = at_line 1; name = codes "i"; suffixes = [] }) Increment) }))
    (on_line 1 (call_line (node (at_line 1) ty.Void (method (str 1 (codes "a")) (codes "rm") none))))))
    ∷ []

abbrev pub loop_is_counted : Type 0
loop_is_counted = runs 60 counted_loop (reply.Done ∷ reply.Missing ∷ []) ≡ ended (ask.Remove (codes "a") ∷ ask.Remove (codes "a") ∷ []) 0

-- task(cpus := 2) sys a
-- task(cpus := 9) sys b
abbrev pub wide_task : List PartTree
wide_task =
    part 1 (acts 1 (task (Some (set_to 1 (codes "cpus") (num 1 2) ∷ [])) (command 1 (says (codes "a")))))
    ∷ part 2 (acts 2 (task (Some (set_to 2 (codes "cpus") (num 2 9) ∷ [])) (command 2 (says (codes "b")))))
    ∷ []

abbrev pub task_waits_for_processors : Type 0
task_waits_for_processors =
    runs 40 wide_task (reply.Started ∷ reply.Run 0 ∷ reply.Run 0 ∷ reply.Ended 1 0 ∷ reply.Started ∷ reply.Ended 2 0 ∷ [])
    ≡ ended (
    ask.Start 1 0 (codes "a")
    ∷ ask.Next (0 ∷ []) (1 ∷ [])
    ∷ ask.Next (0 ∷ []) (1 ∷ [])
    ∷ ask.Next [] (1 ∷ [])
    ∷ ask.Start 2 0 (codes "b")
    ∷ ask.Next [] (2 ∷ [])
    ∷ []) 0

abbrev pub there : ℕ → Reply
there time = reply.Stamp true 1 (pos time)

abbrev pub rule_of : ℕ → List ℕ → Tree → List ℕ → PartTree
rule_of l out ins says_it = part l (acts l (dep (files_from l (str l out) ins ∷ []) (command l (says says_it))))

-- dep('a' <- 'b') sys x
-- dep('b' <- 'a') sys y
-- goal 'a'
abbrev pub rules_in_circle : List PartTree
rules_in_circle =
    rule_of 1 (codes "a") (str 1 (codes "b")) (codes "x")
    ∷ rule_of 2 (codes "b") (str 2 (codes "a")) (codes "y")
    ∷ part 3 (acts 3 (goal (str 3 (codes "a"))))
    ∷ []

abbrev pub cycle_is_told : Type 0
cycle_is_told = runs 36 rules_in_circle (reply.Done ∷ []) ≡ ended (ask.Err (codes "bds: s.bds:3: cycle of rules\n") ∷ []) 1

-- goal 'q'
abbrev pub goal_without_rule : List PartTree
goal_without_rule = part 1 (acts 1 (goal (str 1 (codes "q")))) ∷ []

abbrev pub missing_rule_is_told : Type 0
missing_rule_is_told =
    runs 12 goal_without_rule (reply.Stamp false 0 (pos 0) ∷ reply.Done ∷ [])
    ≡ ended (ask.Stamp (codes "q") ∷ ask.Err (codes "bds: s.bds:1: no rule makes q\n") ∷ []) 1

abbrev pub par_of : ℕ → ℕ → List ℕ → PartTree
par_of l n path =
    part l (acts l (par_block (block_of l (
    on_line l (assign (record { at = at_line l; name = codes "x"; suffixes = [] }) (right_expr (num l n)))
    ∷ on_line l (written l path)
    ∷ []))))

-- int x = 1
-- par { x = 2; 'a'.write('') }
-- par { x = 3; 'b'.write('') }
-- wait
-- exit x
abbrev pub two_blocks : List PartTree
two_blocks =
    part 1 (declare ty.Int (codes "x") (a_right (right_expr (num 1 1))))
    ∷ par_of 2 2 (codes "a")
    ∷ par_of 3 3 (codes "b")
    ∷ part 4 (wait None)
    ∷ part 5 (exit (var 5 ty.Int (codes "x")))
    ∷ []

abbrev pub blocks_have_their_own : Type 0
blocks_have_their_own =
    runs 80 two_blocks (reply.Run 0 ∷ reply.Run 2 ∷ reply.Done ∷ reply.Run 2 ∷ reply.Run 1 ∷ reply.Done ∷ reply.Run 1 ∷ [])
    ≡ ended (
    ask.Next (0 ∷ 1 ∷ []) []
    ∷ ask.Next (0 ∷ 1 ∷ 2 ∷ []) []
    ∷ ask.Write (codes "b") []
    ∷ ask.Next (0 ∷ 1 ∷ 2 ∷ []) []
    ∷ ask.Next (0 ∷ 1 ∷ []) []
    ∷ ask.Write (codes "a") []
    ∷ ask.Next (0 ∷ 1 ∷ []) []
    ∷ []) 1

abbrev pub first_block_may_come_first : Type 0
first_block_may_come_first =
    runs 80 two_blocks (reply.Run 1 ∷ reply.Done ∷ reply.Run 1 ∷ reply.Run 0 ∷ reply.Done ∷ [])
    ≡ ended (
    ask.Next (0 ∷ 1 ∷ []) []
    ∷ ask.Write (codes "a") []
    ∷ ask.Next (0 ∷ 1 ∷ []) []
    ∷ ask.Next (0 ∷ 2 ∷ []) []
    ∷ ask.Write (codes "b") []
    ∷ []) 1

-- par { wait 'thread.1' }
abbrev pub wait_for_itself : List PartTree
wait_for_itself = part 1 (acts 1 (par_block (block_of 1 (on_line 1 (wait (Some (str 1 (codes "thread.1")))) ∷ [])))) ∷ []

abbrev pub deadlock_is_told : Type 0
deadlock_is_told = runs 60 wait_for_itself (reply.Run 0 ∷ reply.Done ∷ []) ≡ ended (ask.Next (0 ∷ 1 ∷ []) [] ∷ ask.Err (codes "bds: deadlock\n") ∷ []) 1

-- for(string s : ['a', 'b']) { s.rm(); break }
abbrev pub list_loop : List PartTree
list_loop =
    a_statement (stmt (at_line 1) (each ty.Text (codes "s")
    (node (at_line 1) texts (list (more (str 1 (codes "a")) (more (str 1 (codes "b")) none))))
    (stmt (at_line 1) (inner_block (block_of 1 (
    on_line 1 (call_line (node (at_line 1) ty.Void (method (var 1 ty.Text (codes "s")) (codes "rm") none)))
    ∷ on_line 1 break
    ∷ []))))))
    ∷ []

abbrev pub loop_is_left : Type 0
loop_is_left = runs 50 list_loop (reply.Missing ∷ []) ≡ ended (ask.Remove (codes "a") ∷ []) 0

-- int{} m
-- m{'k'} = 4
-- m{'k'} *= 5
-- m{'z'} += 1
abbrev pub key_of : ℕ → List ℕ → PlaceTree
key_of l k = record { at = at_line l; name = codes "m"; suffixes = at_key (str l k) ∷ [] }

abbrev pub updates_of_keys : List PartTree
updates_of_keys =
    part 1 (declare (ty.Map ty.Int) (codes "m") no_right)
    ∷ part 2 (assign (key_of 2 (codes "k")) (right_expr (num 2 4)))
    ∷ part 3 (update (key_of 3 (codes "k")) update_op.Mul (right_expr (num 3 5)))
    ∷ part 4 (update (key_of 4 (codes "z")) update_op.Add (right_expr (num 4 1)))
    ∷ []

abbrev pub missing_key_is_told : Type 0
missing_key_is_told = runs 32 updates_of_keys (reply.Done ∷ []) ≡ ended (ask.Err (codes "bds: s.bds:4: no key z\n") ∷ []) 1

-- task(retry := 1) sys x
abbrev pub task_tried_again : List PartTree
task_tried_again = part 1 (acts 1 (task (Some (set_to 1 (codes "retry") (num 1 1) ∷ [])) (command 1 (says (codes "x"))))) ∷ []

abbrev pub next_attempt_starts : Type 0
next_attempt_starts =
    runs 80 task_tried_again (reply.Started ∷ reply.Run 0 ∷ reply.Ended 1 1 ∷ reply.Started ∷ reply.Ended 1 0 ∷ [])
    ≡ ended (
    ask.Start 1 0 (codes "x")
    ∷ ask.Next (0 ∷ []) (1 ∷ [])
    ∷ ask.Next [] (1 ∷ [])
    ∷ ask.Start 1 1 (codes "x")
    ∷ ask.Next [] (1 ∷ [])
    ∷ []) 0

-- exit 300
abbrev pub exit_above_bytes : List PartTree
exit_above_bytes = part 1 (exit (num 1 300)) ∷ []

abbrev pub status_is_a_byte : Type 0
status_is_a_byte = runs 20 exit_above_bytes [] ≡ ended [] 44

-- string s = sys echo $HOME hi
-- print s
abbrev pub output_of_command : List PartTree
output_of_command =
    part 1 (declare ty.Text (codes "s") (a_right (right_act (act (at_line 1) (sys (piece.Plain (codes "echo ") ∷ piece.Name (codes "HOME") ∷ piece.Plain (codes " hi") ∷ []))))))
    ∷ part 2 (print (var 2 ty.Text (codes "s")))
    ∷ []

abbrev pub output_is_printed : Type 0
output_is_printed =
    runs 80 output_of_command (reply.SysDone 0 (codes "x hi\n") ∷ reply.Done ∷ [])
    ≡ ended (ask.Sys (codes "echo $HOME hi") ∷ ask.Out (codes "x hi\n") ∷ []) 0

abbrev pub failed_command_is_told : Type 0
failed_command_is_told =
    runs 80 output_of_command (reply.SysDone 3 [] ∷ reply.Done ∷ [])
    ≡ ended (ask.Sys (codes "echo $HOME hi") ∷ ask.Err (codes "bds: s.bds:1: sys failed with code 3\n") ∷ []) 1

-- if (1 < 2)
-- println 'a'
-- else
-- println 'b'
abbrev pub two_ways : List PartTree
two_ways =
    a_statement (stmt (at_line 1) (when
    (node (at_line 1) ty.Bool (binary (num 1 1) sign.Less (num 1 2)))
    (on_line 2 (printed 2 (str 2 (codes "a"))))
    (a_stmt (on_line 4 (printed 4 (str 4 (codes "b")))))))
    ∷ []

abbrev pub one_way_is_taken : Type 0
one_way_is_taken = runs 40 two_ways (reply.Done ∷ []) ≡ ended (ask.Out (codes "a\n") ∷ []) 0

abbrev pub empty_script_ends : Type 0
empty_script_ends = runs 12 [] [] ≡ ended [] 0

-- println 9223372036854775807 + 1
abbrev pub greatest_sum : List PartTree
greatest_sum = part 1 (printed 1 (sum 1 (num 1 9223372036854775807) (num 1 1))) ∷ []

abbrev pub sum_wraps : Type 0
sum_wraps = runs 24 greatest_sum (reply.Done ∷ []) ≡ ended (ask.Out (codes "-9223372036854775808\n") ∷ []) 0

abbrev pub always : Tree
always = node (at_line 1) ty.Bool (truth true)

-- while(true) {}
abbrev pub endless_loop : List PartTree
endless_loop = a_statement (stmt (at_line 1) (while always (stmt (at_line 1) (inner_block (block_of 1 []))))) ∷ []

-- with a budget of three ticks
abbrev pub budget_is_spent : Type 0
budget_is_spent =
    play (moves endless_loop) 60 (opening (codes "s.bds") 4 3 [] [] (script_of endless_loop)) []
    ≡ record { asks = []; verdict = Comes Spent }

abbrev pub local_int : List ℕ → Tree
local_int x = var 1 ty.Int x

abbrev pub compared : BinaryOp → Tree → Tree → Tree
compared o a b = node (at_line 1) ty.Bool (binary a o b)

abbrev pub whole : List ℕ → PlaceTree
whole x = record { at = at_line 1; name = x; suffixes = [] }

abbrev pub braced : List StmtTree → StmtTree
braced ss = stmt (at_line 1) (inner_block (block_of 1 ss))

abbrev pub function : List ℕ → Ty → List Parameter → List StmtTree → PartTree
function x result parameters ss = a_function (record { at = at_line 1; result = result; name = x; parameters = parameters; body = block_of 1 ss })

abbrev pub an_int : List ℕ → Parameter
an_int x = record { ty = ty.Int; name = x }

-- int f(int n) { while(true) { if (n > 2) return n; n++ } }
-- exit f(0)
abbrev pub return_in_loop : List PartTree
return_in_loop =
    function (codes "f") ty.Int (an_int (codes "n") ∷ []) (
    stmt (at_line 1) (while always (braced (
    stmt (at_line 1) (when (compared sign.Greater (local_int (codes "n")) (num 1 2)) (on_line 1 (return (a_right (right_expr (local_int (codes "n")))))) no_stmt)
    ∷ on_line 1 (step (step_after (whole (codes "n")) Increment))
    ∷ []))) ∷ [])
    ∷ part 2 (exit (node (at_line 2) ty.Int (call (codes "f") (more (num 2 0) none))))
    ∷ []

abbrev pub call_is_returned_from : Type 0
call_is_returned_from = runs 80 return_in_loop [] ≡ ended [] 3

-- int x
-- for(int i = 0; i < 3; i++) { if (i == 1) continue; x += i }
-- exit x
abbrev pub skipping_loop : List PartTree
skipping_loop =
    part 1 (declare ty.Int (codes "x") no_right)
    ∷ a_statement (stmt (at_line 1) (for
    (Some (record { at = at_line 1; form = small_declare ty.Int (codes "i") (Some (num 1 0)) }))
    (Some (compared sign.Less (local_int (codes "i")) (num 1 3)))
    (Some (record { at = at_line 1; form = small_step (step_after (whole (codes "i")) Increment) }))
    (braced (
    stmt (at_line 1) (when (compared sign.Equal (local_int (codes "i")) (num 1 1)) (on_line 1 continue) no_stmt)
    ∷ on_line 1 (update (whole (codes "x")) update_op.Add (right_expr (local_int (codes "i"))))
    ∷ []))))
    ∷ part 3 (exit (var 3 ty.Int (codes "x")))
    ∷ []

abbrev pub turn_is_skipped : Type 0
turn_is_skipped = runs 120 skipping_loop [] ≡ ended [] 2

-- int x = 1
-- { int x = 5; x++ }
-- exit x
abbrev pub inner_variable : List PartTree
inner_variable =
    part 1 (declare ty.Int (codes "x") (a_right (right_expr (num 1 1))))
    ∷ a_statement (braced (on_line 2 (declare ty.Int (codes "x") (a_right (right_expr (num 2 5)))) ∷ on_line 2 (step (step_after (whole (codes "x")) Increment)) ∷ []))
    ∷ part 3 (exit (var 3 ty.Int (codes "x")))
    ∷ []

abbrev pub inner_variable_is_dropped : Type 0
inner_variable_is_dropped = runs 40 inner_variable [] ≡ ended [] 1

-- void g(int n) { exit n }
-- par g(3)
abbrev pub thread_of_call : List PartTree
thread_of_call =
    function (codes "g") ty.Void (an_int (codes "n") ∷ []) (on_line 1 (exit (local_int (codes "n"))) ∷ [])
    ∷ part 2 (acts 2 (par_call (codes "g") (more (num 2 3) none)))
    ∷ []

abbrev pub thread_runs_call : Type 0
thread_runs_call = runs 30 thread_of_call (reply.Run 1 ∷ []) ≡ ended (ask.Next (0 ∷ 1 ∷ []) [] ∷ []) 3
