use Rattle.bds_gen_expr.proofs.Growing.{labels_grow, grown-by}
use Rattle.bds_gen_expr.proofs.writing.mark.Goals as goal

pub returns-clause-kept : goal.returns-clause-kept
returns-clause-kept c =
    grown-by c.args.function.now c.put_label.new.labels (labels_grow c.put_label.result c.args.function.now.labels c.put_label.new.labels c.in_ok-place.place c.args.shape.now c.put_label.ensures.ok c.put_label.ensures.err)
