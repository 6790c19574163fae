-- Failed calls of the system by their kind.
use Rattle.std.proofs.Common.{◌≡◌, ◌≢◌, Some, refl}
use Rattle.std.specs.declared.io.ErrorKind.{ErrorKind}
use Rattle.std.specs.declared.io.ErrorKind.TheVariants.{OutOfMemory, NotFound}
use Rattle.bds_host.specs.declared.asks.Reply.{Reply}
use Rattle.bds_host.specs.declared.asks.Reply.TheVariants.{Fault}
use Rattle.bds_exec.specs.Replies.{failure, failure_or}

pub failure-other : (kind : ErrorKind) → kind ≢ OutOfMemory → failure kind ≡ Some Fault
failure-other OutOfMemory other = absurd (other refl)
failure-other _ other = refl

pub failure_or-other : (missing : Reply) (kind : ErrorKind) → kind ≢ NotFound → failure_or missing kind ≡ failure kind
failure_or-other missing NotFound other = absurd (other refl)
failure_or-other missing _ other = refl

pub ruleset failures = (failure-other, failure_or-other)
