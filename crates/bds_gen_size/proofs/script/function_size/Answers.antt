use Rattle.std.proofs.Common.{◌∙◌, ap}
use Rattle.bds_tree.specs.StmtView.{function_of}
use Rattle.bds_gen_size.specs.Behind.{with_parameters}
use Rattle.bds_gen_size.proofs.ScriptSums.{with-ending, left-bare}
use Rattle.bds_gen_size.proofs.script.function_size.Goals as goal

pub returns-clause-size : goal.returns-clause-size
returns-clause-size c =
    with-ending (function_of c.args.function.now) c.args.scope.now c.declare_parameters.new.scope c.in_ok-body.body c.ending_size-ending.result c.saturating_add.result c.requires (c.in_ok-declare_parameters.ensures ∙ ap (with_parameters c.args.scope.now) c.as_slice.ensures) c.in_ok-body.ensures.size
    c.ending_size-ending.ensures c.saturating_add.ensures

pub returns-clause-names : goal.returns-clause-names
returns-clause-names c =
    left-bare c.args.scope.now c.declare_parameters.new.scope c.block_size.new.scope c.args.function.now.parameters _ c.requires (c.in_ok-declare_parameters.ensures ∙ ap (with_parameters c.args.scope.now) c.as_slice.ensures) c.in_ok-body.ensures.names c.truncate.ensures
