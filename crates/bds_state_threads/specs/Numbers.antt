-- The numbers of a thread have the bits of their fields.
use Rattle.std.specs.Prelude.{◌<◌, ◌^◌, List, ⊤}
use Rattle.std.specs.List.{All}
use Rattle.bds_value.specs.declared.ids.Id.{Id}
use Rattle.bds_value.specs.declared.ids.Id.TheVariants as id
use Rattle.bds_value.specs.declared.ids.Status.{Status}
use Rattle.bds_value.specs.declared.ids.Status.TheVariants.{Ready, Waiting, Ended}
use Rattle.bds_value.specs.Fields.{NumbersFit}
use Rattle.bds_code_frames.specs.declared.frame.Frame.{Frame}
use Rattle.bds_code_frames.specs.declared.thread.Thread.{Thread}
use Rattle.bds_code_frames.specs.Counts.{IsCounted}

abbrev pub IdFits : Id → Type 0
IdFits (id.Task n) = n < 2 ^ 32
IdFits (id.Thread n) = n < 2 ^ 32

abbrev pub StatusFits : Status → Type 0
StatusFits (Waiting ids) = All IdFits ids
StatusFits Ready = ⊤
StatusFits Ended = ⊤

pub record FrameFits (f : Frame) : Type 0 where
  pub function : f.function < 2 ^ 32
  pub place : f.place < 2 ^ 32
  pub slots : All NumbersFit f.slots
  pub operands : All NumbersFit f.operands
  pub counted : IsCounted f

pub record ThreadFits (t : Thread) : Type 0 where
  pub parent : t.parent < 2 ^ 32
  pub status : StatusFits t.status
  pub globals : All NumbersFit t.globals
  pub frames : All FrameFits t.frames
