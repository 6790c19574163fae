use Rattle.std.proofs.lemmas.Result.{IfOk-weaker}
use Rattle.bds_tree.specs.StmtView.{stmt_of}
use Rattle.bds_check_typing.specs.GivenValues.{set_by}
use Rattle.bds_source.proofs.TopLevel.{top_put}
use Rattle.bds_source.proofs.opening.put_stmt.Goals as goal

pub returns-in-Ok-push : goal.returns-in-Ok-push
returns-in-Ok-push c =
    IfOk-weaker c.go_behind_top.result _ _
    (λ _ e ps. top_put (set_by c.args.settings.now) c.args.names.now c.stmt_term.new.names c.go_behind_top.new.names c.top-site.result (stmt_of c.args.stmt.now) c.args.terms.now c.push.new.self c.in-Ok.term ps c.top-site.ensures c.in-Ok.ensures.term c.stmt_term.ensures.same c.in-Ok-push.ensures.ok e)
    c.go_behind_top.ensures
