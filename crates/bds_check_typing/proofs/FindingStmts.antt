-- Where the names in force have types, a statement that breaks no rule is judged alike while types of globals are found.
use Rattle.std.proofs.Common.{◌≡◌, true, false, Option, Some, None, refl, ap, ap₂, ◌∙◌}
use Rattle.bds_value.specs.declared.value.At.{At}
use Rattle.bds_tree.specs.StmtTree.{StmtTree, StmtFormTree, LineTree, RightTree, ActTree, ActFormTree, BlockTree, StmtTrees, MaybeStmt, MaybeRight, stmt, inner_block, empty, line, when, while, for, each, declare, infer, assign, update, step, call_line, print, println, error, exit, break, continue, return, wait, checkpoint, act_line, right_expr, right_act, act, sys, task, dep, goal, par_call, par_block, block, no_stmts, more_stmts, no_stmt, a_stmt, no_right, a_right, CaseTrees, CaseTree, switch, no_cases, more_cases, a_case}
use Rattle.bds_check_names.specs.declared.names.Names.{Names}
use Rattle.bds_check_names.specs.declared.names.Asked.{Asked}
use Rattle.bds_check_names.specs.declared.names.Asked.TheVariants.{Whole, Value, This}
use Rattle.bds_check_names.specs.declared.names.Site.{Site}
use Rattle.bds_check_rules.specs.declared.rules.Rule.{Rule}
use Rattle.bds_check_names.specs.Scopes.{function_named, with_local, inner, in_loop, apart, in_switch}
use Rattle.bds_check_rules.specs.Declarations.{declared_by_form, names_with}
use Rattle.bds_check_rules.specs.StmtBreaks.{place_ty, stmt_breaks, none_seen, act_breaks, commands_of}
use Rattle.bds_check_typing.specs.Walk.{Broken, first, placed, judge, parameters_of}
use Rattle.bds_check_typing.specs.StmtParts.{JudgedSmall, JudgedActForm, JudgedForm, JudgedStmt, JudgedBlock, judge_maybe, judge_place, judge_small, judge_settings, body_broken, task_with, dep_with, par_with, par_rule, block_at, par_block_with, close_act, returned, close_stmt}
use Rattle.bds_check_typing.specs.StmtWalk.{JudgedStmts, goal_with, right_with, right_with_act, some_right, line_with, line_with_maybe, line_with_right, line_with_maybe_right, line_with_place, line_with_step, line_with_act, form_with_block, form_with_line, form_with_branches, form_with_body, form_with_head, some_stmt, also_stmt, block_with, behind_first, judge_stmt, judge_stmt_form, judge_else, judge_line, judge_right, judge_maybe_right, judge_act, judge_act_form, judge_block, judge_stmts, form_with_cases, case_with, also_case, judge_cases, judge_case}
use Rattle.bds_check_typing.specs.Known.{AreNamesWritten, AreStmtTypesWritten, AreFormTypesWritten, AreElseTypesWritten, AreLineTypesWritten, AreRightTypesWritten, AreMaybeRightTypesWritten, AreActTypesWritten, AreActFormTypesWritten, AreBlockTypesWritten, AreStmtsTypesWritten, AreCasesTypesWritten, AreCaseTypesWritten}
use Rattle.bds_check_typing.proofs.WellTypedLaws.{first-left, first-right}
use Rattle.bds_check_typing.proofs.NameTypes.{with-local-typed, stmt-names-typed, small-names-typed}
use Rattle.bds_check_typing.proofs.Finding.{finding, finding_small, expr-alike, arguments-alike, maybe-alike, place-alike, step-alike, small-alike, settings-alike, commands-alike, act-rule-alike, stmt-rule-alike, names-alike}

abbrev finding_stmt : JudgedStmt → JudgedStmt
finding_stmt j = record { stmt = j.stmt; broken = j.broken; names = finding j.names }

abbrev finding_stmts : JudgedStmts → JudgedStmts
finding_stmts j = record { stmts = j.stmts; broken = j.broken; names = finding j.names }

-- a statement behind its parts
close-alike : (names : Names) → AreNamesWritten names → (at : At) (site : Site) (a j : JudgedForm) → a ≡ j → close_stmt at (finding names) site a ≡ finding_stmt (close_stmt at names site j)
close-alike names n at site a j e =
    ap (close_stmt at (finding names) site) e
    ∙ ap (λ (r : Option Rule). record { stmt = stmt at j.form; broken = first j.broken (placed at r); names = names_with (finding names) site (declared_by_form j.form) }) (stmt-rule-alike names n j.form site)
    ∙ ap (λ (m : Names). record { stmt = stmt at j.form; broken = first j.broken (placed at (stmt_breaks names site j.form)); names = m }) (names-alike names n (declared_by_form j.form) site)

close-act-alike : (names : Names) → AreNamesWritten names → (at : At) (asked : Asked) (a j : JudgedActForm) → a ≡ j → close_act at (finding names) asked a ≡ close_act at names asked j
close-act-alike names n at asked a j e =
    ap (close_act at (finding names) asked) e ∙ ap (λ (r : Option Rule). record { act = act at j.form; broken = first j.broken (placed at r) }) (act-rule-alike names n j.form asked)

three : {A B C D : Type 0} {a x : A} {b y : B} {c z : C} → (f : A → B → C → D) → a ≡ x → b ≡ y → c ≡ z → f a b c ≡ f x y z
three {x = x} {b = b} {c = c} f p q r = ap (λ w. f w b c) p ∙ ap₂ (f x) q r

mutual
  stmt-alike : (s : StmtTree) (names : Names) (site : Site) → AreNamesWritten names → AreStmtTypesWritten s → (judge_stmt s names site).broken ≡ None → judge_stmt s (finding names) site ≡ finding_stmt (judge_stmt s names site)
  stmt-alike (stmt at f) names site n h q =
      close-alike names n at site (judge_stmt_form f (finding names) site) (judge_stmt_form f names site)
      (form-alike f names site n h (first-left (judge_stmt_form f names site).broken (placed at (stmt_breaks names site (judge_stmt_form f names site).form)) q))

  form-alike : (f : StmtFormTree) (names : Names) (site : Site) → AreNamesWritten names → AreFormTypesWritten f → (judge_stmt_form f names site).broken ≡ None → judge_stmt_form f (finding names) site ≡ judge_stmt_form f names site
  form-alike (inner_block b) names site n h q = ap form_with_block (block-alike b names (inner names site) n h q)
  form-alike empty names site n h q = refl
  form-alike (line l) names site n h q = ap form_with_line (line-alike l names site n h q)
  form-alike (when c then_part else_part) names site n h q =
      let within : Site = inner names site in
      let condition : Option Broken = (judge c names Value).broken in
      let here : Option Broken = (judge_stmt then_part names within).broken in
      let others : Option Broken = (judge_else else_part names within).broken in
      let rest : first here others ≡ None = first-right condition (first here others) q in
      three form_with_branches
      (expr-alike names n c Value (first-left condition (first here others) q)) (stmt-alike then_part names within n h.0 (first-left here others rest)) (else-alike else_part names within n h.1 (first-right here others rest))
  form-alike (while c s) names site n h q =
      let within : Site = in_loop names site in
      ap₂ (form_with_body while)
      (expr-alike names n c Value (first-left (judge c names Value).broken (judge_stmt s names within).broken q)) (stmt-alike s names within n h (first-right (judge c names Value).broken (judge_stmt s names within).broken q))
  form-alike (for head c next s) names site n h q =
      let within : Site = inner names site in
      let behind : Names = behind_first head names site in
      let a : Option Broken = (judge_small head names within).broken in
      let b : Option Broken = (judge_maybe c behind).broken in
      let d : Option Broken = (judge_small next behind (inner behind site)).broken in
      let e : Option Broken = (judge_stmt s behind (in_loop behind site)).broken in
      let q0 : a ≡ None = first-left a (first b (first d e)) q in
      let q1 : first b (first d e) ≡ None = first-right a (first b (first d e)) q in
      let q2 : first d e ≡ None = first-right b (first d e) q1 in
      let m : AreNamesWritten behind = small-names-typed names n head within h.0 q0 in
      let first_alike : judge_small head (finding names) within ≡ finding_small names n (judge_small head names within) = small-alike names n head within q0 in
      ap (λ (j : JudgedSmall). form_with_head j (judge_maybe c j.names) (judge_small next j.names (inner j.names site)) (judge_stmt s j.names (in_loop j.names site))) first_alike
      ∙ three (form_with_head (judge_small head names within))
      (maybe-alike behind m c (first-left b (first d e) q1)) (small-alike behind m next (inner behind site) (first-left d e q2)) (stmt-alike s behind (in_loop behind site) m h.2 (first-right d e q2))
  form-alike (each t x e s) names site n h q =
      let behind : Names = with_local names x t in
      let within : Site = in_loop behind site in
      ap₂ (form_with_body (each t x))
      (expr-alike names n e Value (first-left (judge e names Value).broken (judge_stmt s behind within).broken q)) (stmt-alike s behind within (with-local-typed names x t n h.0) h.1 (first-right (judge e names Value).broken (judge_stmt s behind within).broken q))
  form-alike (switch e cs) names site n h q =
      let value : Option Broken = (judge e names Value).broken in
      let cases : Option Broken = (judge_cases cs names site).broken in
      ap₂ form_with_cases (expr-alike names n e Value (first-left value cases q)) (cases-alike cs names site n h (first-right value cases q))

  cases-alike : (cs : CaseTrees) (names : Names) (site : Site) → AreNamesWritten names → AreCasesTypesWritten cs → (judge_cases cs names site).broken ≡ None → judge_cases cs (finding names) site ≡ judge_cases cs names site
  cases-alike no_cases names site n h q = refl
  cases-alike (more_cases c cs) names site n h q =
      let here : Option Broken = (judge_case c names site).broken in
      let others : Option Broken = (judge_cases cs names site).broken in
      ap₂ also_case (case-alike c names site n h.0 (first-left here others q)) (cases-alike cs names site n h.1 (first-right here others q))

  case-alike : (c : CaseTree) (names : Names) (site : Site) → AreNamesWritten names → AreCaseTypesWritten c → (judge_case c names site).broken ≡ None → judge_case c (finding names) site ≡ judge_case c names site
  case-alike (a_case at l ss) names site n h q =
      let within : Site = in_switch names site in
      let label : Option Broken = (judge_maybe l names).broken in
      let body : Option Broken = (judge_stmts ss names within).broken in
      ap₂ (case_with at) (maybe-alike names n l (first-left label body q)) (stmts-alike ss names within n h (first-right label body q))

  else-alike : (s : MaybeStmt) (names : Names) (site : Site) → AreNamesWritten names → AreElseTypesWritten s → (judge_else s names site).broken ≡ None → judge_else s (finding names) site ≡ judge_else s names site
  else-alike no_stmt names site n h q = refl
  else-alike (a_stmt s) names site n h q = ap some_stmt (stmt-alike s names site n h q)

  line-alike : (l : LineTree) (names : Names) (site : Site) → AreNamesWritten names → AreLineTypesWritten l → (judge_line l names site).broken ≡ None → judge_line l (finding names) site ≡ judge_line l names site
  line-alike (declare t x r) names site n h q = ap (line_with_maybe_right (declare t x)) (maybe-right-alike r names (This t) n h.1 q)
  line-alike (infer x r) names site n h q = ap (line_with_right (infer x)) (right-alike r names Value n h q)
  line-alike (assign p r) names site n h q =
      let asked : Asked = This (place_ty names p) in
      ap₂ (line_with_place assign)
      (place-alike names n p (first-left (judge_place p names).broken (judge_right r names asked).broken q)) (right-alike r names asked n h (first-right (judge_place p names).broken (judge_right r names asked).broken q))
  line-alike (update p o r) names site n h q =
      ap₂ (line_with_place (λ x. update x o))
      (place-alike names n p (first-left (judge_place p names).broken (judge_right r names Value).broken q)) (right-alike r names Value n h (first-right (judge_place p names).broken (judge_right r names Value).broken q))
  line-alike (step s) names site n h q = ap line_with_step (step-alike names n s q)
  line-alike (call_line e) names site n h q = ap (line_with call_line) (expr-alike names n e Whole q)
  line-alike (print e) names site n h q = ap (line_with print) (expr-alike names n e Value q)
  line-alike (println e) names site n h q = ap (line_with_maybe println) (maybe-alike names n e q)
  line-alike (error e) names site n h q = ap (line_with error) (expr-alike names n e Value q)
  line-alike (exit e) names site n h q = ap (line_with exit) (expr-alike names n e Value q)
  line-alike break names site n h q = refl
  line-alike continue names site n h q = refl
  line-alike (return r) names site n h q = ap (line_with_maybe_right return) (maybe-right-alike r names (returned site.returns) n h q)
  line-alike (wait e) names site n h q = ap (line_with_maybe wait) (maybe-alike names n e q)
  line-alike (checkpoint e) names site n h q = ap (line_with_maybe checkpoint) (maybe-alike names n e q)
  line-alike (act_line a) names site n h q = ap line_with_act (act-alike a names Whole n h q)

  pub right-alike : (r : RightTree) (names : Names) (asked : Asked) → AreNamesWritten names → AreRightTypesWritten r → (judge_right r names asked).broken ≡ None → judge_right r (finding names) asked ≡ judge_right r names asked
  right-alike (right_expr e) names asked n h q = ap right_with (expr-alike names n e asked q)
  right-alike (right_act a) names asked n h q = ap right_with_act (act-alike a names asked n h q)

  maybe-right-alike : (r : MaybeRight) (names : Names) (asked : Asked) → AreNamesWritten names → AreMaybeRightTypesWritten r → (judge_maybe_right r names asked).broken ≡ None → judge_maybe_right r (finding names) asked ≡ judge_maybe_right r names asked
  maybe-right-alike no_right names asked n h q = refl
  maybe-right-alike (a_right r) names asked n h q = ap some_right (right-alike r names asked n h q)

  act-alike : (a : ActTree) (names : Names) (asked : Asked) → AreNamesWritten names → AreActTypesWritten a → (judge_act a names asked).broken ≡ None → judge_act a (finding names) asked ≡ judge_act a names asked
  act-alike (act at f) names asked n h q =
      close-act-alike names n at asked (judge_act_form f (finding names)) (judge_act_form f names)
      (act-form-alike f names n h (first-left (judge_act_form f names).broken (placed at (act_breaks names asked (judge_act_form f names).form)) q))

  act-form-alike : (f : ActFormTree) (names : Names) → AreNamesWritten names → AreActFormTypesWritten f → (judge_act_form f names).broken ≡ None → judge_act_form f (finding names) ≡ judge_act_form f names
  act-form-alike (sys ps) names n h q = refl
  act-form-alike (task None b) names n h q = ap (λ (r : Option Broken). record { form = task None b; broken = r }) (commands-alike names n (commands_of b))
  act-form-alike (task (Some os) b) names n h q =
      ap₂ (task_with b)
      (settings-alike names n os false none_seen (first-left (judge_settings os names false none_seen).broken (body_broken b names) q)) (commands-alike names n (commands_of b))
  act-form-alike (dep os b) names n h q =
      ap₂ (dep_with b)
      (settings-alike names n os true none_seen (first-left (judge_settings os names true none_seen).broken (body_broken b names) q)) (commands-alike names n (commands_of b))
  act-form-alike (goal e) names n h q = ap goal_with (expr-alike names n e Value q)
  act-form-alike (par_call f es) names n h q = ap (par_with f) (arguments-alike names n es (parameters_of (function_named f names.functions)) q)
  act-form-alike (par_block b) names n h q =
      let j : JudgedBlock = judge_block b names (apart names) in
      ap (par_block_with names) (block-alike b names (apart names) n h (first-left j.broken (placed (block_at j.block) (par_rule names j.block)) q))

  block-alike : (b : BlockTree) (names : Names) (site : Site) → AreNamesWritten names → AreBlockTypesWritten b → (judge_block b names site).broken ≡ None → judge_block b (finding names) site ≡ judge_block b names site
  block-alike (block at ss) names site n h q = ap (block_with at) (stmts-alike ss names site n h q)

  stmts-alike : (ss : StmtTrees) (names : Names) (site : Site) → AreNamesWritten names → AreStmtsTypesWritten ss → (judge_stmts ss names site).broken ≡ None → judge_stmts ss (finding names) site ≡ finding_stmts (judge_stmts ss names site)
  stmts-alike no_stmts names site n h q = refl
  stmts-alike (more_stmts s ss) names site n h q =
      let behind : Names = (judge_stmt s names site).names in
      let here : Option Broken = (judge_stmt s names site).broken in
      let others : Option Broken = (judge_stmts ss behind site).broken in
      let q0 : here ≡ None = first-left here others q in
      ap (λ (j : JudgedStmt). also_stmt j (judge_stmts ss j.names site)) (stmt-alike s names site n h.0 q0)
      ∙ ap (also_stmt (judge_stmt s names site)) (stmts-alike ss behind site (stmt-names-typed names n s site h.0 q0) h.1 (first-right here others q))
