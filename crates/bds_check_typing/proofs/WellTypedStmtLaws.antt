-- A statement in which the walk meets no broken node is well typed.
use Rattle.std.proofs.Common.{◌≡◌, true, false, Option, Some, None, refl, subst}
use Rattle.bds_tree.specs.StmtTree.{StmtTree, StmtFormTree, LineTree, RightTree, ActTree, ActFormTree, BlockTree, StmtTrees, MaybeStmt, MaybeRight, stmt, inner_block, empty, line, when, while, for, each, declare, infer, assign, update, step, call_line, print, println, error, exit, break, continue, return, wait, checkpoint, act_line, right_expr, right_act, act, sys, task, dep, goal, par_call, par_block, block, no_stmts, more_stmts, no_stmt, a_stmt, no_right, a_right, CaseTrees, CaseTree, switch, no_cases, more_cases, a_case}
use Rattle.bds_check_names.specs.declared.names.Names.{Names}
use Rattle.bds_check_names.specs.declared.names.Asked.{Asked}
use Rattle.bds_check_names.specs.declared.names.Asked.TheVariants.{Whole, Value, This}
use Rattle.bds_check_names.specs.declared.names.Site.{Site}
use Rattle.bds_check_names.specs.Scopes.{function_named, with_local, inner, in_loop, apart, in_switch}
use Rattle.bds_check_rules.specs.StmtBreaks.{place_ty, stmt_breaks, none_seen, commands_of, act_breaks}
use Rattle.bds_check_typing.specs.Walk.{Broken, first, judge, parameters_of}
use Rattle.bds_check_typing.specs.StmtParts.{judge_maybe, judge_place, judge_small, judge_settings, body_broken, returned, par_rule, block_at}
use Rattle.bds_check_typing.specs.StmtWalk.{behind_first, judge_stmt, judge_stmt_form, judge_else, judge_line, judge_right, judge_maybe_right, judge_act, judge_act_form, judge_block, judge_stmts, judge_cases, judge_case}
use Rattle.bds_check_typing.specs.WellTypedParts.{IsWellTypedMaybe, IsWellTypedSmall, names_behind_small}
use Rattle.bds_check_typing.specs.WellTypedStmts.{names_behind, IsWellTypedStmt, IsWellTypedForm, IsWellTypedElse, IsWellTypedLine, IsWellTypedRight, IsWellTypedMaybeRight, IsWellTypedAct, IsWellTypedActForm, IsWellTypedBlock, AreWellTypedStmts, AreWellTypedCases, IsWellTypedCase}
use Rattle.bds_check_typing.proofs.WellTypedLaws.{first-left, first-right, well-typed, well-typed-arguments}
use Rattle.bds_check_typing.proofs.WellTypedPartLaws.{small-names-kept, maybe-typed, closed, place-typed, step-typed, asked-of-place, small-typed, settings-typed, commands-typed}

-- The names behind

pub names-kept : (s : StmtTree) (names : Names) (site : Site) → (judge_stmt s names site).names ≡ names_behind (judge_stmt s names site).stmt names site
names-kept (stmt at f) names site = refl

-- Statements

mutual
  pub stmt-typed : (s : StmtTree) (names : Names) (site : Site) → (judge_stmt s names site).broken ≡ None → IsWellTypedStmt (judge_stmt s names site).stmt names site
  stmt-typed (stmt at f) names site q =
      closed (IsWellTypedForm (judge_stmt_form f names site).form names site) at (judge_stmt_form f names site).broken
      (stmt_breaks names site (judge_stmt_form f names site).form) (form-typed f names site) q

  pub form-typed : (f : StmtFormTree) (names : Names) (site : Site) → (judge_stmt_form f names site).broken ≡ None → IsWellTypedForm (judge_stmt_form f names site).form names site
  form-typed (inner_block b) names site q = block-typed b names (inner names site) q
  form-typed empty names site q = tt
  form-typed (line l) names site q = line-typed l names site q
  form-typed (when c then_part else_part) names site q =
      let condition : Option Broken = (judge c names Value).broken in
      let here : Option Broken = (judge_stmt then_part names (inner names site)).broken in
      let others : Option Broken = (judge_else else_part names (inner names site)).broken in
      let rest : first here others ≡ None = first-right condition (first here others) q in (
        well-typed c names Value (first-left condition (first here others) q),
        stmt-typed then_part names (inner names site) (first-left here others rest),
        else-typed else_part names (inner names site) (first-right here others rest),
      )
  form-typed (while c s) names site q = (
    well-typed c names Value (first-left (judge c names Value).broken (judge_stmt s names (in_loop names site)).broken q),
    stmt-typed s names (in_loop names site) (first-right (judge c names Value).broken (judge_stmt s names (in_loop names site)).broken q),
  )
  form-typed (for head c next s) names site q =
      let behind : Names = behind_first head names site in
      let a : Option Broken = (judge_small head names (inner names site)).broken in
      let b : Option Broken = (judge_maybe c behind).broken in
      let d : Option Broken = (judge_small next behind (inner behind site)).broken in
      let e : Option Broken = (judge_stmt s behind (in_loop behind site)).broken in
      let q1 : first b (first d e) ≡ None = first-right a (first b (first d e)) q in
      let q2 : first d e ≡ None = first-right b (first d e) q1 in
      let same : behind ≡ names_behind_small (judge_small head names (inner names site)).small names (inner names site) = small-names-kept head names (inner names site) in (
        small-typed head names (inner names site) (first-left a (first b (first d e)) q),
        subst (IsWellTypedMaybe (judge_maybe c behind).expr) same (maybe-typed c behind (first-left b (first d e) q1)),
        subst (λ (n : Names). IsWellTypedSmall (judge_small next behind (inner behind site)).small n (inner n site)) same (small-typed next behind (inner behind site) (first-left d e q2)),
        subst (λ (n : Names). IsWellTypedStmt (judge_stmt s behind (in_loop behind site)).stmt n (in_loop n site)) same (stmt-typed s behind (in_loop behind site) (first-right d e q2)),
      )
  form-typed (each t x e s) names site q =
      let behind : Names = with_local names x t in (
        well-typed e names Value (first-left (judge e names Value).broken (judge_stmt s behind (in_loop behind site)).broken q),
        stmt-typed s behind (in_loop behind site) (first-right (judge e names Value).broken (judge_stmt s behind (in_loop behind site)).broken q),
      )
  form-typed (switch e cs) names site q =
      let value : Option Broken = (judge e names Value).broken in
      let cases : Option Broken = (judge_cases cs names site).broken in
      (well-typed e names Value (first-left value cases q), cases-typed cs names site (first-right value cases q))

  cases-typed : (cs : CaseTrees) (names : Names) (site : Site) → (judge_cases cs names site).broken ≡ None → AreWellTypedCases (judge_cases cs names site).cases names site
  cases-typed no_cases names site q = tt
  cases-typed (more_cases c cs) names site q =
      let here : Option Broken = (judge_case c names site).broken in
      let others : Option Broken = (judge_cases cs names site).broken in
      (case-typed c names site (first-left here others q), cases-typed cs names site (first-right here others q))

  pub case-typed : (c : CaseTree) (names : Names) (site : Site) → (judge_case c names site).broken ≡ None → IsWellTypedCase (judge_case c names site).tree names site
  case-typed (a_case at l ss) names site q =
      let within : Site = in_switch names site in
      let label : Option Broken = (judge_maybe l names).broken in
      let body : Option Broken = (judge_stmts ss names within).broken in
      (maybe-typed l names (first-left label body q), stmts-typed ss names within (first-right label body q))

  else-typed : (s : MaybeStmt) (names : Names) (site : Site) → (judge_else s names site).broken ≡ None → IsWellTypedElse (judge_else s names site).stmt names site
  else-typed no_stmt names site q = tt
  else-typed (a_stmt s) names site q = stmt-typed s names site q

  line-typed : (l : LineTree) (names : Names) (site : Site) → (judge_line l names site).broken ≡ None → IsWellTypedLine (judge_line l names site).line names site
  line-typed (declare t x r) names site q = maybe-right-typed r names (This t) q
  line-typed (infer x r) names site q = right-typed r names Value q
  line-typed (assign p r) names site q =
      let asked : Asked = This (place_ty names p) in (
        place-typed p names (first-left (judge_place p names).broken (judge_right r names asked).broken q),
        asked-of-place (IsWellTypedRight (judge_right r names asked).right names) p names (right-typed r names asked (first-right (judge_place p names).broken (judge_right r names asked).broken q)),
      )
  line-typed (update p o r) names site q = (
    place-typed p names (first-left (judge_place p names).broken (judge_right r names Value).broken q),
    right-typed r names Value (first-right (judge_place p names).broken (judge_right r names Value).broken q),
  )
  line-typed (step s) names site q = step-typed s names q
  line-typed (call_line e) names site q = well-typed e names Whole q
  line-typed (print e) names site q = well-typed e names Value q
  line-typed (println e) names site q = maybe-typed e names q
  line-typed (error e) names site q = well-typed e names Value q
  line-typed (exit e) names site q = well-typed e names Value q
  line-typed break names site q = tt
  line-typed continue names site q = tt
  line-typed (return r) names site q = maybe-right-typed r names (returned site.returns) q
  line-typed (wait e) names site q = maybe-typed e names q
  line-typed (checkpoint e) names site q = maybe-typed e names q
  line-typed (act_line a) names site q = act-typed a names Whole q

  pub right-typed : (r : RightTree) (names : Names) (asked : Asked) → (judge_right r names asked).broken ≡ None → IsWellTypedRight (judge_right r names asked).right names asked
  right-typed (right_expr e) names asked q = well-typed e names asked q
  right-typed (right_act a) names asked q = act-typed a names asked q

  maybe-right-typed : (r : MaybeRight) (names : Names) (asked : Asked) → (judge_maybe_right r names asked).broken ≡ None → IsWellTypedMaybeRight (judge_maybe_right r names asked).right names asked
  maybe-right-typed no_right names asked q = tt
  maybe-right-typed (a_right r) names asked q = right-typed r names asked q

  act-typed : (a : ActTree) (names : Names) (asked : Asked) → (judge_act a names asked).broken ≡ None → IsWellTypedAct (judge_act a names asked).act names asked
  act-typed (act at f) names asked q =
      closed (IsWellTypedActForm (judge_act_form f names).form names) at (judge_act_form f names).broken
      (act_breaks names asked (judge_act_form f names).form) (act-form-typed f names) q

  pub act-form-typed : (f : ActFormTree) (names : Names) → (judge_act_form f names).broken ≡ None → IsWellTypedActForm (judge_act_form f names).form names
  act-form-typed (sys ps) names q = tt
  act-form-typed (task None b) names q = (tt, commands-typed (commands_of b) names q)
  act-form-typed (task (Some os) b) names q = (
    settings-typed os names false none_seen (first-left (judge_settings os names false none_seen).broken (body_broken b names) q),
    commands-typed (commands_of b) names (first-right (judge_settings os names false none_seen).broken (body_broken b names) q),
  )
  act-form-typed (dep os b) names q = (
    settings-typed os names true none_seen (first-left (judge_settings os names true none_seen).broken (body_broken b names) q),
    commands-typed (commands_of b) names (first-right (judge_settings os names true none_seen).broken (body_broken b names) q),
  )
  act-form-typed (goal e) names q = well-typed e names Value q
  act-form-typed (par_call f es) names q = well-typed-arguments es names (parameters_of (function_named f names.functions)) q
  act-form-typed (par_block b) names q =
      closed (IsWellTypedBlock (judge_block b names (apart names)).block names (apart names)) (block_at (judge_block b names (apart names)).block) (judge_block b names (apart names)).broken
      (par_rule names (judge_block b names (apart names)).block) (block-typed b names (apart names)) q

  pub block-typed : (b : BlockTree) (names : Names) (site : Site) → (judge_block b names site).broken ≡ None → IsWellTypedBlock (judge_block b names site).block names site
  block-typed (block at ss) names site q = stmts-typed ss names site q

  stmts-typed : (ss : StmtTrees) (names : Names) (site : Site) → (judge_stmts ss names site).broken ≡ None → AreWellTypedStmts (judge_stmts ss names site).stmts names site
  stmts-typed no_stmts names site q = tt
  stmts-typed (more_stmts s ss) names site q =
      let behind : Names = (judge_stmt s names site).names in
      let here : Option Broken = (judge_stmt s names site).broken in
      let others : Option Broken = (judge_stmts ss behind site).broken in (
        stmt-typed s names site (first-left here others q),
        subst (λ (n : Names). AreWellTypedStmts (judge_stmts ss behind site).stmts n site) (names-kept s names site) (stmts-typed ss behind site (first-right here others q)),
      )
