-- What holds behind a reply, whether it is a fault or not.
use Rattle.std.proofs.Common.{◌≡◌, true, false, refl}
use Rattle.bds_host.specs.declared.asks.Reply.{Reply}
use Rattle.bds_host.specs.declared.asks.Reply.TheVariants as reply
use Rattle.bds_host.specs.Host.{is_fault}
use Rattle.bds_schedule.specs.Configuration.{Configuration, faulted, in_mode}
use Rattle.bds_schedule.specs.Stages.{unless_fault}

pub behind_reply : {S : Type 0} (P : Configuration S → Type 0) (c next : Configuration S) (r : Reply)
    → (is_fault r ≡ true → P (in_mode faulted c)) → (is_fault r ≡ false → P next) → P (unless_fault c r next)
behind_reply P c next reply.Fault fault then_is = fault refl
behind_reply P c next (reply.Bytes text) fault then_is = then_is refl
behind_reply P c next reply.Missing fault then_is = then_is refl
behind_reply P c next (reply.Stamp there size time) fault then_is = then_is refl
behind_reply P c next reply.Done fault then_is = then_is refl
behind_reply P c next (reply.SysDone code out) fault then_is = then_is refl
behind_reply P c next reply.Started fault then_is = then_is refl
behind_reply P c next (reply.Run k) fault then_is = then_is refl
behind_reply P c next (reply.Ended task code) fault then_is = then_is refl
behind_reply P c next reply.NoRoom fault then_is = then_is refl
