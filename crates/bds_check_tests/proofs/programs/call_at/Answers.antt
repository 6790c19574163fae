use Rattle.std.proofs.Common.{◌≡◌, ◌∙◌, List, Some, map, ap, sym}
use Rattle.std.specs.List.{slice_get}
use Rattle.std.specs.Option.{option_copied, option_map}
use Rattle.std.proofs.lemmas.Result.{IfOk-weaker}
use Rattle.bds_tree.specs.StmtTree.{FunctionTree}
use Rattle.bds_tree.specs.StmtView.{function_of, part_of}
use Rattle.bds_check_tests.specs.Tests.{tests_in}
use Rattle.bds_check_tests.proofs.ListedTests.{not_past}
use Rattle.bds_check_tests.proofs.TestPrograms.{call_same}
use Rattle.bds_check_tests.proofs.programs.call_at.Goals as goal

pub returns : goal.returns
returns c =
    let fs : List FunctionTree = tests_in (map part_of c.args.parts.now) in
    let g : FunctionTree = function_of c.in-Some.function.now in
    let here : Some g ≡ slice_get fs c.args.index =
    sym (ap (λ r. option_map function_of (option_copied r)) c.in-Some.is) ∙ c.test_at.ensures in
    IfOk-weaker c.call_of.result _ _ (λ s is f there. is ∙ call_same fs c.args.index g f here there) c.call_of.ensures

pub unreachable-requires : goal.unreachable-requires
unreachable-requires c =
    not_past (tests_in (map part_of c.args.parts.now)) c.args.index c.requires
    (sym (ap (λ r. option_map function_of (option_copied r)) c.in-None.is) ∙ c.test_at.ensures)
