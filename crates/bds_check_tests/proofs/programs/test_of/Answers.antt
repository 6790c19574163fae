use Rattle.std.proofs.Common.{IfOk, subst}
use Rattle.bds_tree.specs.declared.stmt.Script.{Script}
use Rattle.bds_tree.specs.StmtView.{script_of}
use Rattle.bds_check.specs.declared.checking.TypedScript.{TypedScript}
use Rattle.bds_check_tests.specs.Tests.{IsBaseOf, IsTestOf}
use Rattle.bds_check_tests.proofs.programs.test_of.Goals as goal

pub returns : goal.returns
returns c =
    subst (λ (s : Script). IfOk c.program_of.result
    (λ test. (t : TypedScript) → IsBaseOf t (script_of s) → IsTestOf t c.args.index test)) c.taken-whole.ensures
    c.program_of.ensures
