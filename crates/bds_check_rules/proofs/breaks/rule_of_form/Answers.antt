-- proofs/breaks/rule_of_form/Answers.antt
use Rattle.std.proofs.Common.{sym}
use Rattle.bds_tree.proofs.Views.{form_tree_of-Map, form_tree_of-Method}
use Rattle.bds_check_rules.proofs.breaks.rule_of_form.Goals as goal

pub returns-in-Map : goal.returns-in-Map
returns-in-Map c = rw c.in-Map.is (rw (form_tree_of-Map c.in-Map.pairs) (rw (sym c.as_slice-in-Map.ensures) c.map_rule.ensures))

pub returns-in-Method : goal.returns-in-Method
returns-in-Method c =
    rw c.in-Method.is (rw (form_tree_of-Method c.in-Method.receiver c.in-Method.name c.in-Method.arguments) (rw (sym c.as_slice-in-Method.ensures)
    (rw (sym c.get-in-Method.ensures) c.method_call_rule.ensures)))
