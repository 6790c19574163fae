-- Which threads may be in a file.
use Rattle.std.specs.Prelude.{◌<◌, ◌≤◌, ◌^◌, List, length, ⊤}
use Rattle.std.specs.List.{All}
use Rattle.bds_value.specs.declared.TheConstants.{MAX_COUNT}
use Rattle.bds_value.specs.declared.ids.Status.{Status}
use Rattle.bds_value.specs.declared.ids.Status.TheVariants.{Ready, Waiting, Ended}
use Rattle.bds_value.specs.declared.value.Value.{Value}
use Rattle.bds_value.specs.Fields.{IsFieldValue}
use Rattle.bds_code_frames.specs.declared.frame.Frame.{Frame}
use Rattle.bds_code_frames.specs.declared.thread.Thread.{Thread}
use Rattle.bds_state_threads.specs.Numbers.{IdFits}

-- values that a field may hold
pub record AreFieldValues (values : List Value) : Type 0 where
  pub count : length values ≤ MAX_COUNT
  pub each : All IsFieldValue values

-- so many ids that a field may hold them
abbrev pub IsFieldStatus : Status → Type 0
IsFieldStatus (Waiting ids) = length ids ≤ MAX_COUNT
IsFieldStatus Ready = ⊤
IsFieldStatus Ended = ⊤

-- a frame that may be in a file
pub record IsFieldFrame (f : Frame) : Type 0 where
  pub slots : AreFieldValues f.slots
  pub operands : AreFieldValues f.operands

-- a thread that may be in a file
pub record IsFieldThread (t : Thread) : Type 0 where
  pub status : IsFieldStatus t.status
  pub globals : AreFieldValues t.globals
  pub count : length t.frames ≤ MAX_COUNT
  pub frames : All IsFieldFrame t.frames
