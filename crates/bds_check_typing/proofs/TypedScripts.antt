-- What checking makes of a program is a typed script, and a typed script is accepted as it is.
use Rattle.std.proofs.Common.{◌≡◌}
use Rattle.bds_tree.specs.StmtTree.{ScriptTree}
use Rattle.bds_check_typing.specs.Program.{IsAccepted, typed}
use Rattle.bds_check_typing.specs.Proper.{IsProgram}
use Rattle.bds_check_typing.specs.Typed.{IsTyped}
use Rattle.bds_check_typing.proofs.AcceptedScripts.{script-accepted}
use Rattle.bds_check_typing.proofs.ProperTypes.{program-written}
use Rattle.bds_check_typing.proofs.ProperTyped.{program-kept}
use Rattle.bds_check_typing.proofs.ScriptTypes.{written-typed}

pub accepted-program : (source : ScriptTree) → IsProgram source → IsAccepted source → IsTyped (typed source)
accepted-program source p q = record { program = program-kept source p; types = written-typed source (program-written source p) q }

pub typed-accepted : (s : ScriptTree) → IsTyped s → IsAccepted s × (typed s ≡ s)
typed-accepted s t = script-accepted s (program-written s t.program) t.types.0
