-- Where the names in force have types, each value of a statement has one.
use Rattle.std.proofs.Common.{◌≡◌, Bool, true, false, List, [], ◌∷◌, Option, Some, None, refl}
use Rattle.std.specs.List.{AllByRecursion}
use Rattle.bds_tree.specs.Tree.{Tree}
use Rattle.bds_tree.specs.StmtTree.{SuffixTree, at_index, at_key, PlaceTree, StepTree, step_after, step_before, SmallFormTree, small_declare, small_infer, small_assign, small_update, small_step, small_call, SmallTree, SettingFormTree, setting_named, setting_plain, SettingTree, StmtTree, StmtFormTree, LineTree, RightTree, ActTree, ActFormTree, BlockTree, StmtTrees, MaybeStmt, MaybeRight, stmt, inner_block, empty, line, when, while, for, each, declare, infer, assign, update, step, call_line, print, println, error, exit, break, continue, return, wait, checkpoint, act_line, right_expr, right_act, act, sys, task, dep, goal, par_call, par_block, block, no_stmts, more_stmts, no_stmt, a_stmt, no_right, a_right, CaseTrees, CaseTree, switch, no_cases, more_cases, a_case}
use Rattle.bds_check_names.specs.declared.names.Names.{Names}
use Rattle.bds_check_names.specs.declared.names.Asked.{Asked}
use Rattle.bds_check_names.specs.declared.names.Asked.TheVariants.{Whole, Value, This}
use Rattle.bds_check_names.specs.declared.names.Site.{Site}
use Rattle.bds_check_names.specs.declared.names.Seen.{Seen}
use Rattle.bds_check_names.specs.Scopes.{function_named, with_local, inner, in_loop, apart, is_value, in_switch}
use Rattle.bds_check_rules.specs.StmtBreaks.{place_ty, place_breaks, small_breaks, stmt_breaks, setting_breaks, none_seen, seen_behind, act_breaks}
use Rattle.bds_check_typing.specs.Walk.{Broken, first, placed, judge, parameters_of}
use Rattle.bds_check_typing.specs.StmtParts.{judge_maybe, judge_suffix, judge_suffixes, judge_place, judge_step, judge_small_form, judge_small, judge_setting_form, judge_setting, judge_settings, body_broken, returned, par_rule, block_at}
use Rattle.bds_check_typing.specs.StmtWalk.{behind_first, judge_stmt, judge_stmt_form, judge_else, judge_line, judge_right, judge_maybe_right, judge_act, judge_act_form, judge_block, judge_stmts, judge_cases, judge_case}
use Rattle.bds_check_typing.specs.Known.{AreNamesWritten, IsAskedWritten, IsValueWritten, IsCallWritten, IsMaybeWritten, IsSuffixWritten, IsPlaceWritten, IsStepWritten, IsSmallFormWritten, IsSmallWritten, IsSettingFormWritten, AreSettingsWritten, IsStmtWritten, IsFormWritten, IsElseWritten, IsLineWritten, IsRightWritten, IsMaybeRightWritten, IsActWritten, IsActFormWritten, IsBlockWritten, AreStmtsWritten, AreSmallFormTypesWritten, AreSmallTypesWritten, AreStmtTypesWritten, AreFormTypesWritten, AreElseTypesWritten, AreLineTypesWritten, AreRightTypesWritten, AreMaybeRightTypesWritten, AreActTypesWritten, AreActFormTypesWritten, AreBlockTypesWritten, AreStmtsTypesWritten, AreCasesWritten, IsCaseWritten, AreCasesTypesWritten, AreCaseTypesWritten}
use Rattle.bds_check_typing.proofs.WellTypedLaws.{first-left, first-right, placed-none}
use Rattle.bds_check_typing.proofs.ValueTypes.{value-typed, call-typed, arguments-typed, arguments-asked}
use Rattle.bds_check_typing.proofs.NameTypes.{place-asked, act-written, IsReturnTyped, returned-typed, returned-value, with-local-typed, stmt-names-typed, small-names-typed}

-- Expressions in statements

module _ (names : Names) (n : AreNamesWritten names) where
  pub typed-value : (e : Tree) → (judge e names Value).broken ≡ None → IsValueWritten (judge e names Value).tree
  typed-value e q = value-typed names n e Value tt refl q

  pub typed-call : (e : Tree) → (judge e names Whole).broken ≡ None → IsCallWritten (judge e names Whole).tree
  typed-call e q = call-typed names n e q

  pub typed-maybe : (e : Option Tree) → (judge_maybe e names).broken ≡ None → IsMaybeWritten (judge_maybe e names).expr
  typed-maybe None q = tt
  typed-maybe (Some e) q = typed-value e q

  typed-suffix : (s : SuffixTree) → (judge_suffix s names).broken ≡ None → IsSuffixWritten (judge_suffix s names).suffix
  typed-suffix (at_index e) q = typed-value e q
  typed-suffix (at_key e) q = typed-value e q

  typed-suffixes : (ss : List SuffixTree) → (judge_suffixes ss names).broken ≡ None → AllByRecursion IsSuffixWritten (judge_suffixes ss names).suffixes
  typed-suffixes [] q = tt
  typed-suffixes (s ∷ ss) q = (
    typed-suffix s (first-left (judge_suffix s names).broken (judge_suffixes ss names).broken q),
    typed-suffixes ss (first-right (judge_suffix s names).broken (judge_suffixes ss names).broken q),
  )

  pub typed-place : (p : PlaceTree) → (judge_place p names).broken ≡ None → IsPlaceWritten (judge_place p names).place
  typed-place p q = typed-suffixes p.suffixes (first-left (judge_suffixes p.suffixes names).broken (placed p.at (place_breaks names (judge_place p names).place)) q)

  pub typed-step : (s : StepTree) → (judge_step s names).broken ≡ None → IsStepWritten (judge_step s names).step
  typed-step (step_after p o) q = typed-place p q
  typed-step (step_before o p) q = typed-place p q

  typed-small-form : (f : SmallFormTree) → AreSmallFormTypesWritten f → (judge_small_form f names).broken ≡ None → IsSmallFormWritten (judge_small_form f names).form
  typed-small-form (small_declare t x None) h q = (h, tt)
  typed-small-form (small_declare t x (Some e)) h q = (h, value-typed names n e (This t) h refl q)
  typed-small-form (small_infer x e) h q = typed-value e q
  typed-small-form (small_assign p e) h q =
      let asked : Asked = This (place_ty names p) in
      let there : (judge_place p names).broken ≡ None = first-left (judge_place p names).broken (judge e names asked).broken q in
      (typed-place p there, value-typed names n e asked (place-asked names n p there) refl (first-right (judge_place p names).broken (judge e names asked).broken q))
  typed-small-form (small_update p o e) h q = (
    typed-place p (first-left (judge_place p names).broken (judge e names Value).broken q),
    typed-value e (first-right (judge_place p names).broken (judge e names Value).broken q),
  )
  typed-small-form (small_step s) h q = typed-step s q
  typed-small-form (small_call e) h q = typed-call e q

  pub typed-small : (s : Option SmallTree) (site : Site) → AreSmallTypesWritten s → (judge_small s names site).broken ≡ None → IsSmallWritten (judge_small s names site).small
  typed-small None site h q = tt
  typed-small (Some s) site h q = typed-small-form s.form h (first-left (judge_small_form s.form names).broken (placed s.at (small_breaks names site (judge_small_form s.form names).form)) q)

  typed-setting-form : (f : SettingFormTree) → (judge_setting_form f names).broken ≡ None → IsSettingFormWritten (judge_setting_form f names).form
  typed-setting-form (setting_named x e) q = typed-value e q
  typed-setting-form (setting_plain e) q = typed-value e q

  pub typed-settings : (ss : List SettingTree) (of_dep : Bool) (seen : Seen) → (judge_settings ss names of_dep seen).broken ≡ None → AreSettingsWritten (judge_settings ss names of_dep seen).settings
  typed-settings [] of_dep seen q = tt
  typed-settings (s ∷ ss) of_dep seen q =
      let here : Option Broken = (judge_setting s names of_dep seen).broken in
      let others : Option Broken = (judge_settings ss names of_dep (seen_behind seen s.form)).broken in (
        typed-setting-form s.form (first-left (judge_setting_form s.form names).broken (placed s.at (setting_breaks of_dep seen (judge_setting_form s.form names).form)) (first-left here others q)),
        typed-settings ss of_dep (seen_behind seen s.form) (first-right here others q),
      )

-- Statements

mutual
  pub typed-stmt : (s : StmtTree) (names : Names) (site : Site) → AreNamesWritten names → IsReturnTyped site.returns → AreStmtTypesWritten s → (judge_stmt s names site).broken ≡ None → IsStmtWritten (judge_stmt s names site).stmt
  typed-stmt (stmt at f) names site n r h q = typed-form f names site n r h (first-left (judge_stmt_form f names site).broken (placed at (stmt_breaks names site (judge_stmt_form f names site).form)) q)

  typed-form : (f : StmtFormTree) (names : Names) (site : Site) → AreNamesWritten names → IsReturnTyped site.returns → AreFormTypesWritten f → (judge_stmt_form f names site).broken ≡ None → IsFormWritten (judge_stmt_form f names site).form
  typed-form (inner_block b) names site n r h q = typed-block b names (inner names site) n r h q
  typed-form empty names site n r h q = tt
  typed-form (line l) names site n r h q = typed-line l names site n r h q
  typed-form (when c then_part else_part) names site n r h q =
      let condition : Option Broken = (judge c names Value).broken in
      let here : Option Broken = (judge_stmt then_part names (inner names site)).broken in
      let others : Option Broken = (judge_else else_part names (inner names site)).broken in
      let rest : first here others ≡ None = first-right condition (first here others) q in (
        typed-value names n c (first-left condition (first here others) q),
        typed-stmt then_part names (inner names site) n r h.0 (first-left here others rest),
        typed-else else_part names (inner names site) n r h.1 (first-right here others rest),
      )
  typed-form (while c s) names site n r h q = (
    typed-value names n c (first-left (judge c names Value).broken (judge_stmt s names (in_loop names site)).broken q),
    typed-stmt s names (in_loop names site) n r h (first-right (judge c names Value).broken (judge_stmt s names (in_loop names site)).broken q),
  )
  typed-form (for head c next s) names site n r h q =
      let behind : Names = behind_first head names site in
      let a : Option Broken = (judge_small head names (inner names site)).broken in
      let b : Option Broken = (judge_maybe c behind).broken in
      let d : Option Broken = (judge_small next behind (inner behind site)).broken in
      let e : Option Broken = (judge_stmt s behind (in_loop behind site)).broken in
      let q0 : a ≡ None = first-left a (first b (first d e)) q in
      let q1 : first b (first d e) ≡ None = first-right a (first b (first d e)) q in
      let q2 : first d e ≡ None = first-right b (first d e) q1 in
      let m : AreNamesWritten behind = small-names-typed names n head (inner names site) h.0 q0 in (
        typed-small names n head (inner names site) h.0 q0,
        typed-maybe behind m c (first-left b (first d e) q1),
        typed-small behind m next (inner behind site) h.1 (first-left d e q2),
        typed-stmt s behind (in_loop behind site) m r h.2 (first-right d e q2),
      )
  typed-form (each t x e s) names site n r h q =
      let behind : Names = with_local names x t in (
        h.0,
        typed-value names n e (first-left (judge e names Value).broken (judge_stmt s behind (in_loop behind site)).broken q),
        typed-stmt s behind (in_loop behind site) (with-local-typed names x t n h.0) r h.1 (first-right (judge e names Value).broken (judge_stmt s behind (in_loop behind site)).broken q),
      )
  typed-form (switch e cs) names site n r h q =
      let value : Option Broken = (judge e names Value).broken in
      let cases : Option Broken = (judge_cases cs names site).broken in
      (typed-value names n e (first-left value cases q), typed-cases cs names site n r h (first-right value cases q))

  typed-cases : (cs : CaseTrees) (names : Names) (site : Site) → AreNamesWritten names → IsReturnTyped site.returns → AreCasesTypesWritten cs → (judge_cases cs names site).broken ≡ None → AreCasesWritten (judge_cases cs names site).cases
  typed-cases no_cases names site n r h q = tt
  typed-cases (more_cases c cs) names site n r h q =
      let here : Option Broken = (judge_case c names site).broken in
      let others : Option Broken = (judge_cases cs names site).broken in
      (typed-case c names site n r h.0 (first-left here others q), typed-cases cs names site n r h.1 (first-right here others q))

  typed-case : (c : CaseTree) (names : Names) (site : Site) → AreNamesWritten names → IsReturnTyped site.returns → AreCaseTypesWritten c → (judge_case c names site).broken ≡ None → IsCaseWritten (judge_case c names site).tree
  typed-case (a_case at l ss) names site n r h q =
      let within : Site = in_switch names site in
      let label : Option Broken = (judge_maybe l names).broken in
      let body : Option Broken = (judge_stmts ss names within).broken in
      (typed-maybe names n l (first-left label body q), typed-stmts ss names within n r h (first-right label body q))

  typed-else : (s : MaybeStmt) (names : Names) (site : Site) → AreNamesWritten names → IsReturnTyped site.returns → AreElseTypesWritten s → (judge_else s names site).broken ≡ None → IsElseWritten (judge_else s names site).stmt
  typed-else no_stmt names site n r h q = tt
  typed-else (a_stmt s) names site n r h q = typed-stmt s names site n r h q

  typed-line : (l : LineTree) (names : Names) (site : Site) → AreNamesWritten names → IsReturnTyped site.returns → AreLineTypesWritten l → (judge_line l names site).broken ≡ None → IsLineWritten (judge_line l names site).line
  typed-line (declare t x r) names site n k h q = (h.0, typed-maybe-right r names (This t) n h.0 refl h.1 q)
  typed-line (infer x r) names site n k h q = typed-right r names Value n tt refl h q
  typed-line (assign p r) names site n k h q =
      let asked : Asked = This (place_ty names p) in
      let there : (judge_place p names).broken ≡ None = first-left (judge_place p names).broken (judge_right r names asked).broken q in
      (typed-place names n p there, typed-right r names asked n (place-asked names n p there) refl h (first-right (judge_place p names).broken (judge_right r names asked).broken q))
  typed-line (update p o r) names site n k h q = (
    typed-place names n p (first-left (judge_place p names).broken (judge_right r names Value).broken q),
    typed-right r names Value n tt refl h (first-right (judge_place p names).broken (judge_right r names Value).broken q),
  )
  typed-line (step s) names site n k h q = typed-step names n s q
  typed-line (call_line e) names site n k h q = typed-call names n e q
  typed-line (print e) names site n k h q = typed-value names n e q
  typed-line (println e) names site n k h q = typed-maybe names n e q
  typed-line (error e) names site n k h q = typed-value names n e q
  typed-line (exit e) names site n k h q = typed-value names n e q
  typed-line break names site n k h q = tt
  typed-line continue names site n k h q = tt
  typed-line (return r) names site n k h q = typed-maybe-right r names (returned site.returns) n (returned-typed site.returns k) (returned-value site.returns) h q
  typed-line (wait e) names site n k h q = typed-maybe names n e q
  typed-line (checkpoint e) names site n k h q = typed-maybe names n e q
  typed-line (act_line a) names site n k h q = typed-act a names Whole n h q

  pub typed-right : (r : RightTree) (names : Names) (asked : Asked) → AreNamesWritten names → IsAskedWritten asked → is_value asked ≡ true → AreRightTypesWritten r → (judge_right r names asked).broken ≡ None → IsRightWritten (judge_right r names asked).right
  typed-right (right_expr e) names asked n k v h q = value-typed names n e asked k v q
  typed-right (right_act (act at f)) names asked n k v h q =
      let typed : ActFormTree = (judge_act_form f names).form in (
        act-written names asked typed v (placed-none at (act_breaks names asked typed) (first-right (judge_act_form f names).broken (placed at (act_breaks names asked typed)) q)),
        typed-act-form f names n h (first-left (judge_act_form f names).broken (placed at (act_breaks names asked typed)) q),
      )

  typed-maybe-right : (r : MaybeRight) (names : Names) (asked : Asked) → AreNamesWritten names → IsAskedWritten asked → is_value asked ≡ true → AreMaybeRightTypesWritten r → (judge_maybe_right r names asked).broken ≡ None → IsMaybeRightWritten (judge_maybe_right r names asked).right
  typed-maybe-right no_right names asked n k v h q = tt
  typed-maybe-right (a_right r) names asked n k v h q = typed-right r names asked n k v h q

  typed-act : (a : ActTree) (names : Names) (asked : Asked) → AreNamesWritten names → AreActTypesWritten a → (judge_act a names asked).broken ≡ None → IsActWritten (judge_act a names asked).act
  typed-act (act at f) names asked n h q = typed-act-form f names n h (first-left (judge_act_form f names).broken (placed at (act_breaks names asked (judge_act_form f names).form)) q)

  typed-act-form : (f : ActFormTree) (names : Names) → AreNamesWritten names → AreActFormTypesWritten f → (judge_act_form f names).broken ≡ None → IsActFormWritten (judge_act_form f names).form
  typed-act-form (sys ps) names n h q = tt
  typed-act-form (task None b) names n h q = tt
  typed-act-form (task (Some os) b) names n h q = typed-settings names n os false none_seen (first-left (judge_settings os names false none_seen).broken (body_broken b names) q)
  typed-act-form (dep os b) names n h q = typed-settings names n os true none_seen (first-left (judge_settings os names true none_seen).broken (body_broken b names) q)
  typed-act-form (goal e) names n h q = typed-value names n e q
  typed-act-form (par_call f es) names n h q = arguments-typed names n es (parameters_of (function_named f names.functions)) (arguments-asked f names n) q
  typed-act-form (par_block b) names n h q =
      typed-block b names (apart names) n tt h (first-left (judge_block b names (apart names)).broken (placed (block_at (judge_block b names (apart names)).block) (par_rule names (judge_block b names (apart names)).block)) q)

  pub typed-block : (b : BlockTree) (names : Names) (site : Site) → AreNamesWritten names → IsReturnTyped site.returns → AreBlockTypesWritten b → (judge_block b names site).broken ≡ None → IsBlockWritten (judge_block b names site).block
  typed-block (block at ss) names site n r h q = typed-stmts ss names site n r h q

  typed-stmts : (ss : StmtTrees) (names : Names) (site : Site) → AreNamesWritten names → IsReturnTyped site.returns → AreStmtsTypesWritten ss → (judge_stmts ss names site).broken ≡ None → AreStmtsWritten (judge_stmts ss names site).stmts
  typed-stmts no_stmts names site n r h q = tt
  typed-stmts (more_stmts s ss) names site n r h q =
      let behind : Names = (judge_stmt s names site).names in
      let here : Option Broken = (judge_stmt s names site).broken in
      let others : Option Broken = (judge_stmts ss behind site).broken in
      let q0 : here ≡ None = first-left here others q in
      (typed-stmt s names site n r h.0 q0, typed-stmts ss behind site (stmt-names-typed names n s site h.0 q0) r h.1 (first-right here others q))
