use Rattle.std.proofs.Common.{ap, ◌∙◌}
use Rattle.std.specs.Ordering.{is_eq, is_ne, is_lt, is_le, is_gt, is_ge}
use Rattle.bds_value.specs.declared.value.Value.TheVariants as value
use Rattle.bds_machine.specs.Stretches.{computed}
use Rattle.bds_machine.proofs.Numbering.{told, equal, not_equal, less, less_equal, greater, greater_equal}
use Rattle.bds_machine.proofs.numbers.compared.Goals as goal

pub returns-in-Less : goal.returns-in-Less
returns-in-Less c =
    ap (λ i. computed i (value.Int c.args.a) (value.Int c.args.b)) c.in-Less.is ∙ less c.args.a c.args.b
    ∙ told is_lt c.args.a c.args.b c.cmp.result c.is_lt.result c.ranges.a c.ranges.b c.cmp.ensures c.is_lt.ensures

pub returns-in-LessEqual : goal.returns-in-LessEqual
returns-in-LessEqual c =
    ap (λ i. computed i (value.Int c.args.a) (value.Int c.args.b)) c.in-LessEqual.is ∙ less_equal c.args.a c.args.b
    ∙ told is_le c.args.a c.args.b c.cmp-in-LessEqual.result c.is_le.result c.ranges.a c.ranges.b c.cmp-in-LessEqual.ensures c.is_le.ensures

pub returns-in-Greater : goal.returns-in-Greater
returns-in-Greater c =
    ap (λ i. computed i (value.Int c.args.a) (value.Int c.args.b)) c.in-Greater.is ∙ greater c.args.a c.args.b
    ∙ told is_gt c.args.a c.args.b c.cmp-in-Greater.result c.is_gt.result c.ranges.a c.ranges.b c.cmp-in-Greater.ensures c.is_gt.ensures

pub returns-in-GreaterEqual : goal.returns-in-GreaterEqual
returns-in-GreaterEqual c =
    ap (λ i. computed i (value.Int c.args.a) (value.Int c.args.b)) c.in-GreaterEqual.is ∙ greater_equal c.args.a c.args.b
    ∙ told is_ge c.args.a c.args.b c.cmp-in-GreaterEqual.result c.is_ge.result c.ranges.a c.ranges.b c.cmp-in-GreaterEqual.ensures c.is_ge.ensures

pub returns-in-Equal : goal.returns-in-Equal
returns-in-Equal c =
    ap (λ i. computed i (value.Int c.args.a) (value.Int c.args.b)) c.in-Equal.is ∙ equal c.args.a c.args.b
    ∙ told is_eq c.args.a c.args.b c.cmp-in-Equal.result c.is_eq.result c.ranges.a c.ranges.b c.cmp-in-Equal.ensures c.is_eq.ensures

pub returns-in-NotEqual : goal.returns-in-NotEqual
returns-in-NotEqual c =
    ap (λ i. computed i (value.Int c.args.a) (value.Int c.args.b)) c.in-NotEqual.is ∙ not_equal c.args.a c.args.b
    ∙ told is_ne c.args.a c.args.b c.cmp-in-NotEqual.result c.is_ne.result c.ranges.a c.ranges.b c.cmp-in-NotEqual.ensures c.is_ne.ensures
