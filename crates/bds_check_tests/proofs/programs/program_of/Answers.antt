use Rattle.std.proofs.Common.{List, ap, map}
use Rattle.std.proofs.lemmas.Result.{IfOk-weaker}
use Rattle.bds_tree.specs.StmtTree.{PartTree, ScriptTree}
use Rattle.bds_tree.specs.StmtView.{part_of, script_of}
use Rattle.bds_check_tests.proofs.TestPrograms.{is_test_of, program_typed}
use Rattle.bds_check_tests.proofs.programs.program_of.Goals as goal

pub check_again-requires : goal.check_again-requires
check_again-requires c =
    let make : List PartTree → ScriptTree =
    λ ps. record { at = c.args.base.at; files = c.args.base.files; parts = ps } in
    program_typed c.requires.base.0 (script_of c.args.base) (make (map part_of c.put_call.new.parts)) c.args.index
    c.requires.base.1 c.requires.below (λ f there. ap make (c.in-Ok.ensures f there))

pub returns-in-Ok : goal.returns-in-Ok
returns-in-Ok c =
    let make : List PartTree → ScriptTree =
    λ ps. record { at = c.args.base.at; files = c.args.base.files; parts = ps } in
    IfOk-weaker c.check_again.result _ _
    (λ test w t h. is_test_of t (script_of c.args.base) (make (map part_of c.put_call.new.parts)) c.args.index h
    c.requires.below (λ f there. ap make (c.in-Ok.ensures f there)) test w)
    c.check_again.ensures
