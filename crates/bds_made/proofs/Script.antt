-- The script that is made, as a tree.
use Rattle.std.specs.Prelude.{ℕ, zero, suc, ◌+◌, ◌%◌, ℤ, pos, List, [], ◌∷◌, Some, None, codes, decimal}
use Rattle.bds_value.specs.declared.value.At.{At}
use Rattle.bds_value.specs.declared.value.Ty.{Ty}
use Rattle.bds_value.specs.declared.value.Ty.TheVariants as ty
use Rattle.bds_tree.specs.declared.token.Piece.{Piece}
use Rattle.bds_tree.specs.declared.token.Piece.TheVariants as piece
use Rattle.bds_tree.specs.declared.stmt.Body.TheVariants as body
use Rattle.bds_tree.specs.declared.stmt.UpdateOp.TheVariants as update_op
use Rattle.bds_tree.specs.lexing.Pieces.{plain_piece}
use Rattle.bds_tree.specs.Tree.{Tree, node, number, text, name, dependency}
use Rattle.bds_tree.specs.StmtTree.{SettingTree, setting_named, setting_plain, StmtTree, stmt, line, declare, update}
use Rattle.bds_tree.specs.StmtTree.{println, wait, act_line, right_expr, act, task, no_right, PartTree, ScriptTree}
use Rattle.bds_tree.specs.StmtTree.{a_statement}
use Rattle.bds_made.proofs.Texts.{sort_text, out_text, in_text}
use Rattle.bds_made.proofs.Words.{cat_pieces}

abbrev pub at_line : ℕ → At
at_line l = record { file = 0; line = l }

abbrev pub first_stmt : StmtTree
first_stmt = stmt (at_line 1) (line (declare (ty.List ty.Text) (codes "outs") no_right))

-- the types of its expressions: those before checking, and those behind it
pub record Types : Type 0 where
  pub text : Ty
  pub number : Ty
  pub test : Ty
  pub list : Ty

abbrev pub bare : Types
bare = record { text = ty.Void; number = ty.Void; test = ty.Void; list = ty.Void }

abbrev pub judged : Types
judged = record { text = ty.Text; number = ty.Int; test = ty.Bool; list = ty.List ty.Text }

module _ (t : Types) where
  abbrev pub quoted : ℕ → List Piece → Tree
  quoted l ps = node (at_line l) t.text (text ps)

  abbrev pub setting : ℕ → Tree → SettingTree
  setting l e = record { at = at_line l; form = setting_plain e }

  -- a task of a dependency, further options, and a command
  abbrev pub a_task : ℕ → Tree → Tree → List SettingTree → List Piece → StmtTree
  a_task l outs ins others command =
      stmt (at_line l) (line (act_line (act (at_line l) (task
      (Some (setting l (node (at_line l) t.test (dependency outs ins)) ∷ others))
      (body.Sys (record { at = at_line l; text = command }))))))

  abbrev pub cpus_setting : ℕ → ℤ → SettingTree
  cpus_setting l z =
      record { at = at_line l; form = setting_named (codes "cpus") (node (at_line l) t.number (number z)) }

  -- a task of the digits of its number and its processors, and the line behind it
  abbrev pub task_stmt : ℕ → List ℕ → ℤ → StmtTree
  task_stmt l d z =
      a_task l (quoted l (plain_piece (out_text d))) (quoted l (plain_piece (in_text d))) (cpus_setting l z ∷ [])
      (plain_piece (sort_text d))

  abbrev pub add_stmt : ℕ → List ℕ → StmtTree
  add_stmt l d =
      stmt (at_line l) (line (update (record { at = at_line l; name = codes "outs"; suffixes = [] }) update_op.Add
      (right_expr (quoted l (plain_piece (out_text d))))))

  abbrev pub all_stmt : ℕ → StmtTree
  all_stmt l =
      a_task l (quoted l (plain_piece (codes "all"))) (node (at_line l) t.list (name (codes "outs"))) [] cat_pieces

  abbrev pub wait_stmt : ℕ → StmtTree
  wait_stmt l = stmt (at_line l) (line (wait None))

  abbrev pub print_stmt : ℕ → StmtTree
  print_stmt l = stmt (at_line l) (line (println (Some (quoted l (piece.Name (codes "outs") ∷ [])))))

  abbrev pub tail_parts : ℕ → List PartTree
  tail_parts l =
      a_statement (all_stmt l) ∷ a_statement (wait_stmt (l + 1)) ∷ a_statement (print_stmt ((l + 1) + 1)) ∷ []

  -- so many tasks, from a number and a line on, and what is behind all
  abbrev pub tasks_parts : ℕ → ℕ → ℕ → List PartTree
  tasks_parts zero i l = tail_parts l
  tasks_parts (suc k) i l =
      a_statement (task_stmt l (decimal i) (pos (1 + i % 3))) ∷ a_statement (add_stmt (l + 1) (decimal i))
      ∷ tasks_parts k (i + 1) ((l + 1) + 1)

  abbrev pub made_parts : ℕ → List PartTree
  made_parts n = a_statement first_stmt ∷ tasks_parts n 0 2

  abbrev pub made_tree : List (List ℕ) → ℕ → ScriptTree
  made_tree files n = record { at = at_line 1; files = files; parts = made_parts n }
