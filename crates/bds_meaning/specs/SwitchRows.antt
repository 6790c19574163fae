-- Scripts with a `switch`, and what is asked of the outside under these replies.
use Rattle.std.specs.Prelude.{◌≡◌, ℕ, List, [], ◌∷◌, Option, Some, None, codes}
use Rattle.bds_value.specs.declared.value.Ty.TheVariants as ty
use Rattle.bds_tree.specs.Tree.{Tree, node, call, method, none}
use Rattle.bds_tree.specs.StmtTree.{StmtTree, CaseTree, PartTree, stmt, switch, inner_block, while, call_line, break, continue, checkpoint, return, right_expr, a_right, a_case, to_stmts, to_cases, a_function, a_statement}
use Rattle.bds_host.specs.declared.asks.Ask.TheVariants as ask
use Rattle.bds_host.specs.declared.asks.Reply.TheVariants as reply
use Rattle.bds_meaning.specs.Opening.{opening}
use Rattle.bds_schedule.specs.Play.{play, Comes}
use Rattle.bds_schedule.specs.ScheduleRows.{at_line, ended}
use Rattle.bds_meaning.specs.Rows.{num, str, always, on_line, block_of, script_of, moves, runs, goes_on}
use Rattle.bds_schedule.specs.Stages.{Spent}

abbrev pub removes : ℕ → List ℕ → StmtTree
removes l x = on_line l (call_line (node (at_line l) ty.Void (method (str l x) (codes "rm") none)))

abbrev pub case_of : ℕ → Option Tree → List StmtTree → CaseTree
case_of l label ss = a_case (at_line l) label (to_stmts ss)

abbrev pub switch_on : ℕ → Tree → List CaseTree → StmtTree
switch_on l e cs = stmt (at_line l) (switch e (to_cases cs))

-- switch (2) { case 1: 'a'.rm(); case 2: 'b'.rm(); default: 'd'.rm(); break; case 3: 'c'.rm() }
abbrev pub falling_through : List PartTree
falling_through =
    a_statement (switch_on 1 (num 1 2) (
    case_of 1 (Some (num 1 1)) (removes 1 (codes "a") ∷ [])
    ∷ case_of 1 (Some (num 1 2)) (removes 1 (codes "b") ∷ [])
    ∷ case_of 1 None (removes 1 (codes "d") ∷ on_line 1 break ∷ [])
    ∷ case_of 1 (Some (num 1 3)) (removes 1 (codes "c") ∷ [])
    ∷ []))
    ∷ []

abbrev pub cases_are_run : Type 0
cases_are_run = runs 50 falling_through (reply.Missing ∷ reply.Missing ∷ []) ≡ ended (ask.Remove (codes "b") ∷ ask.Remove (codes "d") ∷ []) 0

-- switch (4) { case 1: 'a'.rm(); default: 'd'.rm(); case 3: 'c'.rm() }
abbrev pub default_in_the_middle : List PartTree
default_in_the_middle =
    a_statement (switch_on 1 (num 1 4) (
    case_of 1 (Some (num 1 1)) (removes 1 (codes "a") ∷ [])
    ∷ case_of 1 None (removes 1 (codes "d") ∷ [])
    ∷ case_of 1 (Some (num 1 3)) (removes 1 (codes "c") ∷ [])
    ∷ []))
    ∷ []

abbrev pub default_is_run_last : Type 0
default_is_run_last = runs 50 default_in_the_middle (reply.Missing ∷ reply.Missing ∷ []) ≡ ended (ask.Remove (codes "d") ∷ ask.Remove (codes "c") ∷ []) 0

-- while(true) { switch (1) { case 1: continue }; 'c'.rm() }
abbrev pub continuing : List PartTree
continuing =
    a_statement (stmt (at_line 1) (while always
    (stmt (at_line 1) (inner_block (block_of 1 (
    switch_on 1 (num 1 1) (case_of 1 (Some (num 1 1)) (on_line 1 continue ∷ []) ∷ [])
    ∷ removes 1 (codes "c")
    ∷ []))))))
    ∷ []

-- with a budget of two ticks nothing is asked
abbrev pub loop_around_goes_on : Type 0
loop_around_goes_on =
    play (moves continuing) 60 (opening (codes "s.bds") 4 2 [] [] (script_of continuing)) []
    ≡ record { asks = []; verdict = Comes Spent }

-- int f() { checkpoint 'a.chp'; return 2 }
-- switch (2) { case f(): 'x'.rm() }
abbrev pub save_in_label : List PartTree
save_in_label =
    a_function (record {
      at = at_line 1;
      result = ty.Int;
      name = codes "f";
      parameters = [];
      body = block_of 1 (on_line 1 (checkpoint (Some (str 1 (codes "a.chp")))) ∷ on_line 1 (return (a_right (right_expr (num 1 2)))) ∷ []);
    })
    ∷ a_statement (switch_on 2 (num 2 2) (case_of 2 (Some (node (at_line 2) ty.Int (call (codes "f") none))) (removes 2 (codes "x") ∷ []) ∷ []))
    ∷ []

abbrev pub label_is_saved : Type 0
label_is_saved = runs 60 save_in_label (reply.Done ∷ reply.Missing ∷ []) ≡ ended (ask.Save (codes "a.chp") [] ∷ ask.Remove (codes "x") ∷ []) 0

-- and what goes on from that save
abbrev pub saved_label_goes_on : Type 0
saved_label_goes_on = goes_on 60 save_in_label [] (reply.Missing ∷ []) ≡ ended (ask.Remove (codes "x") ∷ []) 0
