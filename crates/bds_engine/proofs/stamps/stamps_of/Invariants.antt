use Rattle.std.proofs.Common.{take}
use Rattle.bds_engine.specs.Stamping.{Stamped}
use Rattle.bds_engine.proofs.stamps.stamps_of.Given as goal

abbrev pub invariant-loop-i : goal.invariant-loop-i
invariant-loop-i g l = Stamped (g.H.Host.log l.initial.host) (take l.i l.files) l.stamps (g.H.Host.log l.host)
