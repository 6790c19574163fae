use Rattle.std.proofs.Common.{List, subst}
use Rattle.bds_value.specs.declared.value.Value.{Value}
use Rattle.bds_lib.specs.Call.{method_of}
use Rattle.bds_lib.specs.Results.{OrNoMemory}
use Rattle.bds_lib.proofs.TypedLaws.{method_typed}
use Rattle.bds_lib.proofs.FormedLaws.{method_formed, answer_formed}
use Rattle.bds_lib.proofs.calls.call.Goals as goal

pub returns-clause-formed : goal.returns-clause-formed
returns-clause-formed c = λ formed.
    answer_formed (method_of c.args.method c.args.receiver.now c.as_slice.result.now) c.of_method.result c.of_method.ensures
    (method_formed c.args.method c.args.receiver.now c.as_slice.result.now formed)

pub returns-clause-typed : goal.returns-clause-typed
returns-clause-typed c =
    let P : List Value → Type 0 = λ args. OrNoMemory (method_of c.args.method c.args.receiver.now args) c.of_method.result in
    method_typed c.args.method c.args.receiver.now c.args.args.now c.of_method.result (subst P c.as_slice.ensures c.of_method.ensures)
