use Rattle.std.proofs.Common.{ℕ, Option, List, ◌++◌, map, arith, ap, ap₂, ◌∙◌}
use Rattle.std.proofs.lemmas.List.{map-append}
use Rattle.std.proofs.lemmas.Result.{IfOk-weaker, on_ok_weaker}
use Rattle.std.specs.Option.{option_map}
use Rattle.bds_tree.specs.StmtView.{small_of, stmt_of, line_of, right_of, block_of}
use Rattle.bds_tree.specs.View.{tree_of}
use Rattle.bds_check_typing.specs.GivenValues.{set_by}
use Rattle.bds_source_terms.specs.View as view
use Rattle.bds_source_terms.specs.View.{term_of, branch_of}
use Rattle.bds_source.proofs.Extending.{extends_then}
use Rattle.bds_source.proofs.Walks.{nothing_is, within_is, part_is, if_is, if_else_is, while_is, last_is, turns_are, turns_behind_are, for_is, each_is, stmt_is, form_block, form_empty, form_line, form_if, form_if_else, form_while, form_for, form_each, declared_set, line_default, line_declared, line_inferred, line_assigned, line_updated, line_returned, line_alone, line_plain, right_expr_is, right_act_is, act_par_is, act_plain_is, par_is, block_is, stmts_next, stmts_none, sequence_is, form_switch, case_body_is, case_put, cases_next, cases_none, switch_is}
use Rattle.bds_meaning.specs.OpeningStatements.{unless_set, scope_at}
use Rattle.bds_meaning.specs.Term.{Constant, Declare}
use Rattle.bds_value.specs.declared.value.Value.{Value}
use Rattle.bds_tree.specs.StmtView.{stmts_of, cases_of}
use Rattle.bds_source_terms.specs.declared.term.Term.{Term as SourceTerm}
use Rattle.bds_source.specs.Opened.{opened_right, opened_stmts, opened_if, opened_while, opened_for, opened_each}
use Rattle.bds_source_terms.specs.declared.term.Term.TheVariants as source
use Rattle.bds_tree.specs.StmtTree.{no_stmt, a_stmt}
use Rattle.bds_tree.specs.declared.stmt.Line.TheVariants as lines
use Rattle.bds_tree.specs.declared.stmt.Stmt.{Stmt}
use Rattle.bds_tree.specs.declared.stmt.StmtForm.TheVariants as form
use Rattle.bds_source.proofs.+stmts.Goals as goal

pub statements::stmt_term-returns-clause-term : goal.statements::stmt_term-returns-clause-term
statements::stmt_term-returns-clause-term t c = IfOk-weaker c.form_term.result _ _ (λ u e. stmt_is (set_by c.args.settings.now) c.args.names.now c.args.site.now c.args.stmt.now (term_of u) e) c.form_term.ensures.term

pub statements::within-returns-in-Ok-block_term-clause-term : goal.statements::within-returns-in-Ok-block_term-clause-term
statements::within-returns-in-Ok-block_term-clause-term t c =
    IfOk-weaker c.block.result _ _
    (λ u e. within_is (set_by c.args.settings.now) c.args.names.now c.args.site.now c.in-Ok.site (block_of c.args.inner_block.now) (term_of u) (term_of c.in-Ok-block_term.term) c.in-Ok.ensures c.in-Ok-block_term.ensures.term e)
    c.block.ensures

pub statements::part_term-returns-in-Ok-stmt_term-clause-term : goal.statements::part_term-returns-in-Ok-stmt_term-clause-term
statements::part_term-returns-in-Ok-stmt_term-clause-term t c =
    IfOk-weaker c.block.result _ _
    (λ u e. part_is (set_by c.args.settings.now) c.args.names.now c.args.site.now c.in-Ok.site (stmt_of c.args.stmt.now) (term_of u) (term_of c.in-Ok-stmt_term.term) c.in-Ok.ensures c.in-Ok-stmt_term.ensures.term e)
    c.block.ensures

pub statements::if_term-returns-in-Ok-part_term-clause-term : goal.statements::if_term-returns-in-Ok-part_term-clause-term
statements::if_term-returns-in-Ok-part_term-clause-term t c =
    IfOk-weaker c.choose.result _ _
    (λ u e. if_is (set_by c.args.settings.now) c.args.names.now c.args.site.now (tree_of c.args.condition.now) (stmt_of c.args.way.now) (term_of u) (term_of c.in-Ok.condition) (term_of c.in-Ok-part_term.way) (term_of source.Nothing) c.in-Ok.ensures c.in-Ok-part_term.ensures.term nothing_is e)
    c.choose.ensures

pub statements::while_term-returns-in-Ok-part_term-clause-term : goal.statements::while_term-returns-in-Ok-part_term-clause-term
statements::while_term-returns-in-Ok-part_term-clause-term t c =
    IfOk-weaker c.looped.result _ _
    (λ u e. while_is (set_by c.args.settings.now) c.args.names.now c.args.site.now (tree_of c.args.condition.now) (stmt_of c.args.body.now) (term_of u) (term_of c.in-Ok.condition) (term_of c.in-Ok-part_term.body) (term_of source.Nothing) c.in-Ok.ensures c.in-Ok-part_term.ensures.term nothing_is e)
    c.looped.ensures

pub loops::for_term-returns-in-Ok-turns_within-clause-term : goal.loops::for_term-returns-in-Ok-turns_within-clause-term
loops::for_term-returns-in-Ok-turns_within-clause-term t c =
    IfOk-weaker c.for_of.result _ _
    (λ u e. for_is (set_by c.args.settings.now) c.args.names.now c.args.site.now (option_map small_of c.args.first.now) (option_map tree_of c.args.condition.now) (option_map small_of c.args.last.now) (stmt_of c.args.body.now) (term_of u) (term_of c.in-Ok.start) (term_of c.in-Ok-turns_within.turns)
    c.in-Ok.ensures c.in-Ok-turns_within.ensures.term e)
    c.for_of.ensures

pub loops::turns_term-returns-in-Ok-turn_parts-clause-term : goal.loops::turns_term-returns-in-Ok-turn_parts-clause-term
loops::turns_term-returns-in-Ok-turn_parts-clause-term t c =
    IfOk-weaker c.looped_in.result _ _
    (λ u e. turns_are (set_by c.args.settings.now) c.args.names.now c.args.site.now (option_map tree_of c.args.condition.now) (option_map small_of c.args.last.now) (stmt_of c.args.body.now) (term_of u) (term_of c.in-Ok.test) (term_of c.in-Ok-turn_parts.body) (term_of c.in-Ok-turn_parts.last)
    c.in-Ok.ensures c.in-Ok-turn_parts.ensures.body c.in-Ok-turn_parts.ensures.last e)
    c.looped_in.ensures

pub blocks::put_stmts-returns-clause-terms : goal.blocks::put_stmts-returns-clause-terms
blocks::put_stmts-returns-clause-terms t c = stmts_none (set_by c.args.settings.now) c.args.site.now c.args.stmts.now c.loop-stmt.stmt-index c.loop-stmt.names (map term_of c.loop-stmt.terms) _ (omega arith) c.loop-stmt.invariant.terms

pub blocks::put_stmts-loop-stmt-preserved : goal.blocks::put_stmts-loop-stmt-preserved
blocks::put_stmts-loop-stmt-preserved t c = record {
  terms = stmts_next (set_by c.args.settings.now) c.args.site.now c.args.stmts.now c.loop-stmt.stmt-index c.stmt-item.result c.loop-stmt.names c.put_stmt.new.names (map term_of c.loop-stmt.terms) (map term_of c.put_stmt.new.terms) _
      (omega arith) c.stmt-item.is c.in_ok-put_stmt.ensures.term c.in_ok-put_stmt.ensures.names c.loop-stmt.invariant.terms;
  extends = extends_then c.args.names.now c.loop-stmt.names c.put_stmt.new.names c.loop-stmt.invariant.extends c.in_ok-put_stmt.ensures.extends;
}

pub blocks::sequence_term-returns-in-Ok-clause-term : goal.blocks::sequence_term-returns-in-Ok-clause-term
blocks::sequence_term-returns-in-Ok-clause-term t c =
    IfOk-weaker c.sequence.result _ _
    (λ u e. sequence_is (set_by c.args.settings.now) c.args.names.now c.args.site.now c.args.stmts.now (map term_of c.put_stmts-put.new.terms) (term_of u) (c.in-Ok.ensures.terms ∙ ap (λ (none : List SourceTerm). map term_of none ++ opened_stmts (set_by c.args.settings.now) c.args.names.now c.args.site.now (stmts_of c.args.stmts.now)) c.new-terms.ensures) e)
    c.sequence.ensures

pub blocks::block_term-returns-clause-term : goal.blocks::block_term-returns-clause-term
blocks::block_term-returns-clause-term t c =
    IfOk-weaker c.sequence_term.result _ _
    (λ u e. block_is (set_by c.args.settings.now) c.args.names.now c.args.site.now c.args.block.now c.as_slice.result.now (term_of u) c.as_slice.ensures e)
    c.sequence_term.ensures.term

pub switches::case_body-returns-in-Ok-sequence_term-clause-term : goal.switches::case_body-returns-in-Ok-sequence_term-clause-term
switches::case_body-returns-in-Ok-sequence_term-clause-term t c =
    IfOk-weaker c.block.result _ _
    (λ u e. case_body_is (set_by c.args.settings.now) c.args.names.now c.args.site.now c.in-Ok.site c.args.stmts.now (term_of u) (term_of c.in-Ok-sequence_term.term) c.in-Ok.ensures c.in-Ok-sequence_term.ensures.term e)
    c.block.ensures

pub switches::put_case-returns-in-Ok-label_term-clause-branches : goal.switches::put_case-returns-in-Ok-label_term-clause-branches
switches::put_case-returns-in-Ok-label_term-clause-branches t c =
    on_ok_weaker c.push.result
    (λ e. case_put (set_by c.args.settings.now) c.args.names.now c.case_body.new.names c.args.site.now c.args.case.now c.as_slice.result.now (option_map term_of c.in-Ok-label_term.label) (term_of c.in-Ok.body) (map branch_of c.args.branches.now) (map branch_of c.push.new.self)
    c.case_body.ensures.same c.as_slice.ensures c.in-Ok-label_term.ensures c.in-Ok.ensures.term (ap (λ (bs : List (Option SourceTerm × SourceTerm)). map branch_of bs) e ∙ map-append branch_of c.args.branches.now _))
    c.push.ensures.ok

pub switches::put_cases-returns-clause-branches : goal.switches::put_cases-returns-clause-branches
switches::put_cases-returns-clause-branches t c =
    cases_none (set_by c.args.settings.now) c.args.names.now c.args.site.now c.args.cases.now c.loop-case.case-index (map branch_of c.loop-case.branches) _ (omega arith) c.loop-case.invariant.branches

pub switches::put_cases-loop-case-preserved : goal.switches::put_cases-loop-case-preserved
switches::put_cases-loop-case-preserved t c = record {
  branches = cases_next (set_by c.args.settings.now) c.args.names.now c.loop-case.names c.args.site.now c.args.cases.now c.loop-case.case-index c.case-item.result (map branch_of c.loop-case.branches) (map branch_of c.put_case.new.branches) _
      (omega arith) c.case-item.is c.loop-case.invariant.same c.in_ok-put_case.ensures.branches c.loop-case.invariant.branches;
  same = c.in_ok-put_case.ensures.same ∙ c.loop-case.invariant.same;
}

pub switches::switch_term-returns-in-Ok-branches_of-clause-term : goal.switches::switch_term-returns-in-Ok-branches_of-clause-term
switches::switch_term-returns-in-Ok-branches_of-clause-term t c =
    IfOk-weaker c.switched.result _ _
    (λ u e. switch_is (set_by c.args.settings.now) c.args.names.now c.args.site.now (tree_of c.args.value.now) (cases_of c.args.cases.now) (term_of u) (term_of c.in-Ok.value) (map branch_of c.in-Ok-branches_of.branches) c.in-Ok.ensures c.in-Ok-branches_of.ensures.branches e)
    c.switched.ensures

pub statements::form_term-returns-in-Switch-clause-term : goal.statements::form_term-returns-in-Switch-clause-term
statements::form_term-returns-in-Switch-clause-term t c =
    IfOk-weaker c.switch_term.result _ _
    (λ u e. form_switch (set_by c.args.settings.now) c.args.names.now c.args.site.now c.args.at c.args.form.now c.in-Switch.value c.in-Switch.cases c.as_slice.result.now (term_of u) c.in-Switch.is c.as_slice.ensures e)
    c.switch_term.ensures.term

pub loops::each_term-returns-in-Ok-body_within-clause-term : goal.loops::each_term-returns-in-Ok-body_within-clause-term
loops::each_term-returns-in-Ok-body_within-clause-term t c =
    IfOk-weaker c.each.result _ _
    (λ u e. each_is (set_by c.args.settings.now) c.args.names.now c.args.site.now c.args.ty.now c.args.name.now c.in-Ok.x (tree_of c.args.items.now) (stmt_of c.args.body.now) (term_of u) (term_of c.in-Ok-expr_term.items) (term_of c.in-Ok-body_within.body) c.in-Ok.ensures c.in-Ok-expr_term.ensures c.in-Ok-body_within.ensures.term e)
    c.each.ensures

pub loops::turn_parts-returns-in-Ok-last_term-clause-last : goal.loops::turn_parts-returns-in-Ok-last_term-clause-last
loops::turn_parts-returns-in-Ok-last_term-clause-last t c =
    IfOk-weaker c.two_boxes.result _ _
    (λ p e. last_is c.args.names.now c.part_term.new.names (option_map small_of c.args.last.now) (term_of p.1) c.part_term.ensures.same (ap term_of e ∙ c.in-Ok-last_term.ensures))
    c.two_boxes.ensures.second

pub loops::turns_behind-returns-in-Ok-clause-term : goal.loops::turns_behind-returns-in-Ok-clause-term
loops::turns_behind-returns-in-Ok-clause-term t c =
    IfOk-weaker c.turns_term.result _ _
    (λ u e. turns_behind_are (set_by c.args.settings.now) c.args.names.now c.go_behind_first.new.names c.args.site.now (option_map small_of c.args.first.now) (option_map tree_of c.args.condition.now) (option_map small_of c.args.last.now) (stmt_of c.args.body.now) (term_of u) c.in-Ok.ensures.value e)
    c.turns_term.ensures.term

pub rights::act_term-returns-in-ParBlock-clause-term : goal.rights::act_term-returns-in-ParBlock-clause-term
rights::act_term-returns-in-ParBlock-clause-term t c =
    IfOk-weaker c.par_term.result _ _
    (λ u e. act_par_is (set_by c.args.settings.now) c.args.names.now c.args.act.now c.in-ParBlock.block (term_of u) c.in-ParBlock.is e)
    c.par_term.ensures.term

pub rights::act_term-returns-in-Sys-clause-term : goal.rights::act_term-returns-in-Sys-clause-term
rights::act_term-returns-in-Sys-clause-term t c =
    IfOk-weaker c.plain_act.result _ _
    (λ u e. act_plain_is (set_by c.args.settings.now) c.args.names.now c.args.act.now (term_of u) c.plain_act.ensures.plain e)
    c.plain_act.ensures.term

pub rights::declared-returns-in-Some-clause-term : goal.rights::declared-returns-in-Some-clause-term
rights::declared-returns-in-Some-clause-term t c =
    IfOk-weaker c.declare_set.result _ _
    (λ u e. declared_set (set_by c.args.settings.now) c.args.names.now c.args.site.now c.args.name.now (right_of c.args.right.now) (term_of u) (Constant c.in-Some.value.now) (ap (λ (o : Option Value). unless_set o (opened_right (set_by c.args.settings.now) c.args.names.now (right_of c.args.right.now))) c.in-Some.ensures) e)
    c.declare_set.ensures

pub rights::declared-returns-in-Ok-right_term-clause-term : goal.rights::declared-returns-in-Ok-right_term-clause-term
rights::declared-returns-in-Ok-right_term-clause-term t c =
    IfOk-weaker c.declare.result _ _
    (λ u e. declared_set (set_by c.args.settings.now) c.args.names.now c.args.site.now c.args.name.now (right_of c.args.right.now) (term_of u) (term_of c.in-Ok-right_term.value) (c.in-Ok-right_term.ensures.term ∙ ap (λ (o : Option Value). unless_set o (opened_right (set_by c.args.settings.now) c.args.names.now (right_of c.args.right.now))) c.in-None.ensures) (e ∙ ap (λ (x : List ℕ). Declare (scope_at c.args.site.now) x (term_of c.in-Ok-right_term.value)) c.in-Ok.ensures))
    c.declare.ensures

pub rights::line_term-returns-in-Infer-clause-term : goal.rights::line_term-returns-in-Infer-clause-term
rights::line_term-returns-in-Infer-clause-term t c =
    IfOk-weaker c.declared-in-Infer.result _ _
    (λ u e. line_inferred (set_by c.args.settings.now) c.args.names.now c.args.site.now c.args.at c.args.line.now c.in-Infer.name c.in-Infer.right (term_of u) c.in-Infer.is e)
    c.declared-in-Infer.ensures.term

pub rights::line_term-returns-in-Assign-clause-term : goal.rights::line_term-returns-in-Assign-clause-term
rights::line_term-returns-in-Assign-clause-term t c =
    IfOk-weaker c.taken.result _ _
    (λ u e. line_assigned (set_by c.args.settings.now) c.args.names.now c.args.site.now c.args.at c.args.line.now c.in-Assign.place c.in-Assign.right (term_of u) c.in-Assign.is e)
    c.taken.ensures.term

pub rights::line_term-returns-in-Update-clause-term : goal.rights::line_term-returns-in-Update-clause-term
rights::line_term-returns-in-Update-clause-term t c =
    IfOk-weaker c.taken-in-Update.result _ _
    (λ u e. line_updated (set_by c.args.settings.now) c.args.names.now c.args.site.now c.args.at c.args.line.now c.in-Update.place c.in-Update.op c.in-Update.right (view.change_of c.change_of.result) (term_of u) c.in-Update.is c.change_of.ensures e)
    c.taken-in-Update.ensures.term

pub rights::line_term-returns-in-Alone-clause-term : goal.rights::line_term-returns-in-Alone-clause-term
rights::line_term-returns-in-Alone-clause-term t c =
    IfOk-weaker c.act_term.result _ _
    (λ u e. line_alone (set_by c.args.settings.now) c.args.names.now c.args.site.now c.args.at c.args.line.now c.in-Alone.act (term_of u) c.in-Alone.is e)
    c.act_term.ensures.term

pub rights::line_term-returns-in-Break-clause-term : goal.rights::line_term-returns-in-Break-clause-term
rights::line_term-returns-in-Break-clause-term t c =
    IfOk-weaker c.plain_line-in-Break.result _ _
    (λ u e. line_plain (set_by c.args.settings.now) c.args.names.now c.args.site.now c.args.at (line_of c.args.line.now) (term_of u) c.plain_line-in-Break.ensures.plain e)
    c.plain_line-in-Break.ensures.term

pub rights::par_term-returns-in-Ok-block-clause-term : goal.rights::par_term-returns-in-Ok-block-clause-term
rights::par_term-returns-in-Ok-block-clause-term t c =
    IfOk-weaker c.spawn_block.result _ _
    (λ u e. par_is (set_by c.args.settings.now) c.args.names.now c.apart-site.result c.args.at (block_of c.args.inner_block.now) (term_of u) (term_of c.in-Ok.term) (term_of c.in-Ok-block.term) c.apart-site.ensures c.in-Ok.ensures.term c.in-Ok-block.ensures e)
    c.spawn_block.ensures

pub rights::right_term-returns-in-Expr-clause-term : goal.rights::right_term-returns-in-Expr-clause-term
rights::right_term-returns-in-Expr-clause-term t c =
    IfOk-weaker c.expr_term.result _ _
    (λ u e. right_expr_is (set_by c.args.settings.now) c.args.names.now c.args.right.now c.in-Expr.expr (term_of u) c.in-Expr.is e)
    c.expr_term.ensures

pub rights::right_term-returns-in-Act-clause-term : goal.rights::right_term-returns-in-Act-clause-term
rights::right_term-returns-in-Act-clause-term t c =
    IfOk-weaker c.act_term.result _ _
    (λ u e. right_act_is (set_by c.args.settings.now) c.args.names.now c.args.right.now c.in-Act.act (term_of u) c.in-Act.is e)
    c.act_term.ensures.term

pub statements::form_term-returns-in-Block-clause-term : goal.statements::form_term-returns-in-Block-clause-term
statements::form_term-returns-in-Block-clause-term t c =
    IfOk-weaker c.within.result _ _
    (λ u e. form_block (set_by c.args.settings.now) c.args.names.now c.args.site.now c.args.at c.args.form.now c.in-Block.inner (term_of u) c.in-Block.is e)
    c.within.ensures.term

pub statements::form_term-returns-in-Empty-clause-term : goal.statements::form_term-returns-in-Empty-clause-term
statements::form_term-returns-in-Empty-clause-term t c = nothing_is ∙ form_empty (set_by c.args.settings.now) c.args.names.now c.args.site.now c.args.at c.args.form.now c.in-Empty.is

pub statements::form_term-returns-in-Line-clause-term : goal.statements::form_term-returns-in-Line-clause-term
statements::form_term-returns-in-Line-clause-term t c =
    IfOk-weaker c.line_term.result _ _
    (λ u e. form_line (set_by c.args.settings.now) c.args.names.now c.args.site.now c.args.at c.args.form.now c.in-Line.line (term_of u) c.in-Line.is e)
    c.line_term.ensures.term

pub statements::form_term-returns-in-While-clause-term : goal.statements::form_term-returns-in-While-clause-term
statements::form_term-returns-in-While-clause-term t c =
    IfOk-weaker c.while_term.result _ _
    (λ u e. form_while (set_by c.args.settings.now) c.args.names.now c.args.site.now c.args.at c.args.form.now c.in-While.condition c.in-While.body (term_of u) c.in-While.is (e ∙ ap (λ (a : Stmt). opened_while (set_by c.args.settings.now) c.args.names.now c.args.site.now (tree_of c.in-While.condition) (stmt_of a)) c.get-in-While.ensures))
    c.while_term.ensures.term

pub statements::form_term-returns-in-For-clause-term : goal.statements::form_term-returns-in-For-clause-term
statements::form_term-returns-in-For-clause-term t c =
    IfOk-weaker c.for_term.result _ _
    (λ u e. form_for (set_by c.args.settings.now) c.args.names.now c.args.site.now c.args.at c.args.form.now c.in-For.first c.in-For.condition c.in-For.last c.in-For.body (term_of u) c.in-For.is (e ∙ ap (λ (a : Stmt). opened_for (set_by c.args.settings.now) c.args.names.now c.args.site.now (option_map small_of c.in-For.first) (option_map tree_of c.in-For.condition) (option_map small_of c.in-For.last) (stmt_of a)) c.get-in-For.ensures))
    c.for_term.ensures.term

pub statements::form_term-returns-in-Each-clause-term : goal.statements::form_term-returns-in-Each-clause-term
statements::form_term-returns-in-Each-clause-term t c =
    IfOk-weaker c.each_term.result _ _
    (λ u e. form_each (set_by c.args.settings.now) c.args.names.now c.args.site.now c.args.at c.args.form.now c.in-Each.ty c.in-Each.name c.in-Each.items c.in-Each.body (term_of u) c.in-Each.is (e ∙ ap (λ (a : Stmt). opened_each (set_by c.args.settings.now) c.args.names.now c.args.site.now c.in-Each.ty c.in-Each.name (tree_of c.in-Each.items) (stmt_of a)) c.get-in-Each.ensures))
    c.each_term.ensures.term

pub statements::if_else_term-returns-in-Ok-two_parts-clause-term : goal.statements::if_else_term-returns-in-Ok-two_parts-clause-term
statements::if_else_term-returns-in-Ok-two_parts-clause-term t c =
    IfOk-weaker c.choose_of.result _ _
    (λ u e. if_else_is (set_by c.args.settings.now) c.args.names.now c.args.site.now (tree_of c.args.condition.now) (stmt_of c.args.way.now) (stmt_of c.args.other.now) (term_of u) (term_of c.in-Ok.condition) (term_of c.in-Ok-two_parts.way) (term_of c.in-Ok-two_parts.other) c.in-Ok.ensures c.in-Ok-two_parts.ensures.way c.in-Ok-two_parts.ensures.other e)
    c.choose_of.ensures

pub rights::line_term-returns-in-None-clause-term : goal.rights::line_term-returns-in-None-clause-term
rights::line_term-returns-in-None-clause-term t c =
    IfOk-weaker c.default_line.result _ _
    (λ u e. line_default (set_by c.args.settings.now) c.args.names.now c.args.site.now c.args.at c.args.line.now c.in-Declare.ty c.in-Declare.name (term_of u) (c.in-Declare.is ∙ ap (lines.Declare c.in-Declare.ty c.in-Declare.name) c.in-None.is) e)
    c.default_line.ensures

pub rights::line_term-returns-in-Some-clause-term : goal.rights::line_term-returns-in-Some-clause-term
rights::line_term-returns-in-Some-clause-term t c =
    IfOk-weaker c.declared.result _ _
    (λ u e. line_declared (set_by c.args.settings.now) c.args.names.now c.args.site.now c.args.at c.args.line.now c.in-Declare.ty c.in-Declare.name c.in-Some.right (term_of u) (c.in-Declare.is ∙ ap (lines.Declare c.in-Declare.ty c.in-Declare.name) c.in-Some.is) e)
    c.declared.ensures.term

pub rights::line_term-returns-in-None-right-clause-term : goal.rights::line_term-returns-in-None-right-clause-term
rights::line_term-returns-in-None-right-clause-term t c =
    IfOk-weaker c.plain_line.result _ _
    (λ u e. line_plain (set_by c.args.settings.now) c.args.names.now c.args.site.now c.args.at (line_of c.args.line.now) (term_of u) c.plain_line.ensures.plain e)
    c.plain_line.ensures.term

pub rights::line_term-returns-in-Some-right-clause-term : goal.rights::line_term-returns-in-Some-right-clause-term
rights::line_term-returns-in-Some-right-clause-term t c =
    IfOk-weaker c.returned_right.result _ _
    (λ u e. line_returned (set_by c.args.settings.now) c.args.names.now c.args.site.now c.args.at c.args.line.now c.in-Some-right.right (term_of u) (c.in-Return.is ∙ ap lines.Return c.in-Some-right.is) e)
    c.returned_right.ensures.term

pub statements::form_term-returns-in-None-clause-term : goal.statements::form_term-returns-in-None-clause-term
statements::form_term-returns-in-None-clause-term t c =
    IfOk-weaker c.if_term.result _ _
    (λ u e. form_if (set_by c.args.settings.now) c.args.names.now c.args.site.now c.args.at c.args.form.now c.in-If.condition c.in-If.way (term_of u) (c.in-If.is ∙ ap (form.If c.in-If.condition c.in-If.way) c.in-None.is) (e ∙ ap (λ (a : Stmt). opened_if (set_by c.args.settings.now) c.args.names.now c.args.site.now (tree_of c.in-If.condition) (stmt_of a) no_stmt) c.get.ensures))
    c.if_term.ensures.term

pub statements::form_term-returns-in-Some-clause-term : goal.statements::form_term-returns-in-Some-clause-term
statements::form_term-returns-in-Some-clause-term t c =
    IfOk-weaker c.if_else_term.result _ _
    (λ u e. form_if_else (set_by c.args.settings.now) c.args.names.now c.args.site.now c.args.at c.args.form.now c.in-If.condition c.in-If.way c.in-Some.other (term_of u) (c.in-If.is ∙ ap (form.If c.in-If.condition c.in-If.way) c.in-Some.is) (e ∙ ap₂ (λ (a b : Stmt). opened_if (set_by c.args.settings.now) c.args.names.now c.args.site.now (tree_of c.in-If.condition) (stmt_of a) (a_stmt (stmt_of b))) c.get-in-Some.ensures c.get-in-Some-2.ensures))
    c.if_else_term.ensures.term
