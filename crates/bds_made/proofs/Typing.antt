-- The script that is made breaks no rule, and these are its types.
use Rattle.std.proofs.Common.{◌≡◌, ℕ, zero, suc, ◌+◌, ◌%◌, Bool, true, false, List, [], ◌∷◌, Some, None, refl, ap, ◌∙◌}
use Rattle.std.proofs.Common.{arith}
use Rattle.std.specs.Prelude.{codes, decimal, pos, ℤ, ◌||◌, nat_lt}
use Rattle.bds_value.specs.declared.TheConstants.{MAX_GLOBALS}
use Rattle.bds_value.specs.declared.value.Ty as a_type
use Rattle.bds_value.specs.declared.value.Ty.{Ty}
use Rattle.bds_value.specs.declared.value.Ty.TheVariants as ty
use Rattle.bds_value.specs.declared.value.Ty.TheOpen.{Ty-F}
use Rattle.bds_value.specs.Fields.{nesting, nesting_step}
use Rattle.bds_value.specs.Types.{same_ty, same_at, list_item, list_item_at}
use Rattle.bds_value.proofs.Folds.{ty_fold-List, ty_fold-Text, ty_fold-Int, ty_fold-Bool}
use Rattle.bds_value.proofs.TypeLaws.{same_ty-Text, same_ty-refl}
use Rattle.bds_tree.specs.StmtTree.{StmtTree, PartTree, a_statement}
use Rattle.bds_tree.specs.declared.stmt.UpdateOp.TheVariants as update_op
use Rattle.bds_check_names.specs.Types.{is_known, known_at}
use Rattle.bds_check_rules.specs.StmtBreaks.{update_rule}
use Rattle.bds_check_names.specs.declared.names.Names.{Names}
use Rattle.bds_check_names.specs.declared.names.Head.{Head}
use Rattle.bds_check_names.specs.Scopes.{variable, top}
use Rattle.bds_check_names.specs.Slots.{parts_slots, parts_globals, are_too_many}
use Rattle.bds_check_typing.specs.Program.{first_broken, typed, heads_of, globals_of, first_globals, names_of}
use Rattle.bds_check_typing.specs.Program.{judge_parts, judge_script, JudgedParts, JudgedScript, also_part}
use Rattle.bds_check_typing.specs.Program.{statement_part, close_parts, with_parts, script_breaks}
use Rattle.bds_check_typing.specs.Walk.{first, placed}
use Rattle.bds_check_rules.specs.declared.rules.Rule.TheVariants as rule
use Rattle.bds_check_rules.specs.Pieces.{when as broken_if}
use Rattle.bds_check_typing.specs.StmtParts.{JudgedStmt}
use Rattle.bds_check_typing.specs.StmtWalk.{judge_stmt}
use Rattle.bds_made.proofs.Script.{Types, at_line, bare, judged, first_stmt, task_stmt, add_stmt, all_stmt, wait_stmt}
use Rattle.bds_made.proofs.Script.{print_stmt, tail_parts, tasks_parts, made_parts, made_tree}

-- Types

pub text_text : same_ty ty.Text ty.Text ≡ true
text_text = same_ty-refl ty.Text

pub list_list : same_ty (ty.List ty.Text) (ty.List ty.Text) ≡ true
list_list = same_ty-refl (ty.List ty.Text)

pub int_int : same_ty ty.Int ty.Int ≡ true
int_int = same_ty-refl ty.Int

pub text_list : same_ty ty.Text (ty.List ty.Text) ≡ false
unfolding a_type.out-Ty denote.Hole.Carrier.out
text_list = same_ty-Text (ty.List ty.Text)

pub list_text : same_ty (ty.List ty.Text) ty.Text ≡ false
unfolding a_type.out-Ty denote.Hole.Carrier.out
list_text =
    ap (λ (f : Ty
    → Bool). f ty.Text) (ty_fold-List (λ (y : Ty-F (Ty → Bool)) (t : Ty). same_at y (a_type.out-Ty t)) ty.Text)

pub text_nests : nesting ty.Text ≡ 0
text_nests = ty_fold-Text nesting_step

pub int_nests : nesting ty.Int ≡ 0
int_nests = ty_fold-Int nesting_step

pub bool_nests : nesting ty.Bool ≡ 0
bool_nests = ty_fold-Bool nesting_step

pub list_nests : nesting (ty.List ty.Text) ≡ 1
list_nests = ty_fold-List nesting_step ty.Text ∙ ap (λ x. nesting_step (Ty-F.List x)) text_nests

-- Statements

abbrev pub names_before : Names
names_before = names_of [] first_globals

abbrev pub names_behind : Names
names_behind = names_of [] (variable (codes "args") (ty.List ty.Text) ∷ variable (codes "outs") (ty.List ty.Text) ∷ [])

first_judged : judge_stmt first_stmt names_before top
    ≡ record { stmt = first_stmt; broken = None; names = names_behind }
unfolding a_type.out-Ty denote.Hole.Carrier.out
first_judged = refl

task_judged : (l : ℕ) (d : List ℕ) (z : ℤ) → judge_stmt (task_stmt bare l d z) names_behind top
    ≡ record { stmt = task_stmt judged l d z; broken = None; names = names_behind }
unfolding a_type.out-Ty denote.Hole.Carrier.out
task_judged l d z = simp (text_text, int_int, text_nests, int_nests, bool_nests) refl

known_list : is_known (ty.List ty.Text) ≡ true
known_list = ap known_at (ty.outs-List ty.Text)

known_text : is_known ty.Text ≡ true
known_text = ap known_at ty.outs-Text

list_is : list_item (ty.List ty.Text) ≡ Some ty.Text
list_is = ap list_item_at (ty.outs-List ty.Text)

rule_is : update_rule update_op.Add (ty.List ty.Text) ty.Text ≡ None
rule_is = rw (known_list, known_text, list_text, list_is, text_text, list_list) refl

add_judged : (l : ℕ) (d : List ℕ) → judge_stmt (add_stmt bare l d) names_behind top
    ≡ record { stmt = add_stmt judged l d; broken = None; names = names_behind }
add_judged l d = rw (text_nests, known_list, known_text, list_text, list_is, text_text, list_list) refl

all_judged : (l : ℕ) → judge_stmt (all_stmt bare l) names_behind top
    ≡ record { stmt = all_stmt judged l; broken = None; names = names_behind }
unfolding a_type.out-Ty denote.Hole.Carrier.out
all_judged l = simp (text_text, list_text, list_list, text_nests, list_nests, bool_nests) refl

wait_judged : (l : ℕ) → judge_stmt (wait_stmt bare l) names_behind top
    ≡ record { stmt = wait_stmt judged l; broken = None; names = names_behind }
unfolding a_type.out-Ty denote.Hole.Carrier.out
wait_judged l = refl

print_judged : (l : ℕ) → judge_stmt (print_stmt bare l) names_behind top
    ≡ record { stmt = print_stmt judged l; broken = None; names = names_behind }
unfolding a_type.out-Ty denote.Hole.Carrier.out
print_judged l = simp text_nests refl

-- Parts

abbrev good : List PartTree → JudgedParts
good ps = record { parts = ps; broken = None }

module _ (all : Names) (before : List Head) where
  part_judged : (names behind : Names) (s t : StmtTree) (ps qs : List PartTree)
      → judge_stmt s names top ≡ record { stmt = t; broken = None; names = behind }
      → judge_parts all before behind ps ≡ good qs
      → judge_parts all before names (a_statement s ∷ ps) ≡ good (a_statement t ∷ qs)
  part_judged names behind s t ps qs e rest =
      ap (λ (j : JudgedStmt). also_part (statement_part j) (judge_parts all before j.names ps)) e
      ∙ ap (λ js. also_part (statement_part (record { stmt = t; broken = None; names = behind })) js) rest

  tail_judged : (l : ℕ) → judge_parts all before names_behind (tail_parts bare l) ≡ good (tail_parts judged l)
  tail_judged l =
      part_judged names_behind names_behind (all_stmt bare l) (all_stmt judged l)
      (a_statement (wait_stmt bare (l + 1)) ∷ a_statement (print_stmt bare ((l + 1) + 1)) ∷ [])
      (a_statement (wait_stmt judged (l + 1)) ∷ a_statement (print_stmt judged ((l + 1) + 1)) ∷ []) (all_judged l)
      (part_judged names_behind names_behind (wait_stmt bare (l + 1)) (wait_stmt judged (l + 1))
      (a_statement (print_stmt bare ((l + 1) + 1)) ∷ []) (a_statement (print_stmt judged ((l + 1) + 1)) ∷ [])
      (wait_judged (l + 1))
      (part_judged names_behind names_behind (print_stmt bare ((l + 1) + 1)) (print_stmt judged ((l + 1) + 1)) [] []
      (print_judged ((l + 1) + 1)) refl))

  tasks_judged : (k i l : ℕ)
      → judge_parts all before names_behind (tasks_parts bare k i l) ≡ good (tasks_parts judged k i l)
  tasks_judged zero i l = tail_judged l
  tasks_judged (suc k) i l =
      part_judged names_behind names_behind (task_stmt bare l (decimal i) (pos (1 + i % 3)))
      (task_stmt judged l (decimal i) (pos (1 + i % 3)))
      (a_statement (add_stmt bare (l + 1) (decimal i)) ∷ tasks_parts bare k (i + 1) ((l + 1) + 1))
      (a_statement (add_stmt judged (l + 1) (decimal i)) ∷ tasks_parts judged k (i + 1) ((l + 1) + 1))
      (task_judged l (decimal i) (pos (1 + i % 3)))
      (part_judged names_behind names_behind (add_stmt bare (l + 1) (decimal i)) (add_stmt judged (l + 1) (decimal i))
      (tasks_parts bare k (i + 1) ((l + 1) + 1)) (tasks_parts judged k (i + 1) ((l + 1) + 1))
      (add_judged (l + 1) (decimal i)) (tasks_judged k (i + 1) ((l + 1) + 1)))

pub no_heads : (t : Types) (k i l : ℕ) → heads_of (tasks_parts t k i l) ≡ []
no_heads t zero i l = refl
no_heads t (suc k) i l = no_heads t k (i + 1) ((l + 1) + 1)

parts_judged : (all : Names) (n : ℕ)
    → judge_parts all [] (names_of (heads_of (made_parts bare n)) first_globals) (made_parts bare n)
    ≡ good (made_parts judged n)
parts_judged all n =
    ap (λ hs. judge_parts all [] (names_of hs first_globals) (made_parts bare n)) (no_heads bare n 0 2)
    ∙ part_judged all [] names_before names_behind first_stmt first_stmt (tasks_parts bare n 0 2)
    (tasks_parts judged n 0 2) first_judged (tasks_judged all [] n 0 2)

few_slots : (k i l : ℕ) → parts_slots (tasks_parts judged k i l) ≡ 0
few_slots zero i l = refl
few_slots (suc k) i l = let e = few_slots k (i + 1) ((l + 1) + 1) in omega (arith, e)

few_globals : (k i l : ℕ) → parts_globals (tasks_parts judged k i l) ≡ 0
few_globals zero i l = refl
few_globals (suc k) i l = let e = few_globals k (i + 1) ((l + 1) + 1) in omega (arith, e)

unbroken : (n : ℕ) → script_breaks (made_parts judged n) ≡ None
unbroken n =
    ap (λ k. broken_if (are_too_many k || nat_lt MAX_GLOBALS (parts_globals (made_parts judged n) + 1))
    rule.TooManyLocals None)
    (let e = few_slots n 0 2 in let z : parts_slots (made_parts judged n) ≡ 0 = omega (arith, e) in z)
    ∙ ap (λ k. broken_if (false || nat_lt MAX_GLOBALS (k + 1)) rule.TooManyLocals None)
    (let e = few_globals n 0 2 in let z : parts_globals (made_parts judged n) ≡ 1 = omega (arith, e) in z)

script_judged : (files : List (List ℕ)) (n : ℕ)
    → judge_script (made_tree bare files n) ≡ record { script = made_tree judged files n; broken = None }
script_judged files n =
    ap (λ js. with_parts (made_tree bare files n) (close_parts (at_line 1) js))
    (parts_judged (names_of (heads_of (made_parts bare n)) (globals_of (made_parts bare n))) n)
    ∙ ap (λ r. with_parts (made_tree bare files n) (record {
      parts = made_parts judged n;
      broken = first None (placed (at_line 1) r);
    })) (unbroken n)

pub made_is_accepted : (files : List (List ℕ)) (n : ℕ) → first_broken (made_tree bare files n) ≡ None
made_is_accepted files n = ap (λ (j : JudgedScript). j.broken) (script_judged files n)

pub made_is_typed : (files : List (List ℕ)) (n : ℕ) → typed (made_tree bare files n) ≡ made_tree judged files n
made_is_typed files n = ap (λ (j : JudgedScript). j.script) (script_judged files n)
