use Rattle.std.proofs.Common.{inl, inr, refl}
use Rattle.bds_app_log.specs.Replays.{ReplaysJob}
use Rattle.bds_app_log.proofs.replaying.conclude.Goals as goal

pub returns-in-Device : goal.returns-in-Device
returns-in-Device g c = λ l left done used still. ReplaysJob.unlike _ left _ c.tell.result done
    (inl (inl c.in-Device.is)) c.tell.ensures

pub returns-in-Ticks : goal.returns-in-Ticks
returns-in-Ticks g c = λ l left done used still. ReplaysJob.unlike _ left _ c.tell-in-Ticks.result done (inl (inr c.in-Ticks.is))
    c.tell-in-Ticks.ensures

pub returns-in-NoMemory : goal.returns-in-NoMemory
returns-in-NoMemory g c = λ l left done used still. ReplaysJob.no_memory refl
