use Rattle.bds_replay.proofs.Recording.{recorded_more}
use Rattle.bds_replay.proofs.recorder.RecorderHost.ask.Goals as goal

pub invariant_of-self : goal.invariant_of-self
invariant_of-self g c =
    recorded_more _ _ _ c.args.ask c.ask_and_store.result c.self.invariant c.ask_and_store.ensures.stored
