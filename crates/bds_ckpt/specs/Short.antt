-- For private contracts alone: what writing asks of the threads of a valid state.
use Rattle.std.specs.Prelude.{◌≤◌, List, length}
use Rattle.std.specs.List.{All}
use Rattle.bds_value.specs.declared.TheConstants.{MAX_COUNT}
use Rattle.bds_value.specs.declared.value.Value.{Value}
use Rattle.bds_value.specs.Spelling.{IsWithinLimits}
use Rattle.bds_code_frames.specs.declared.frame.Frame.{Frame}
use Rattle.bds_code_frames.specs.declared.thread.Thread.{Thread}
use Rattle.bds_state_threads.specs.Fields.{IsFieldStatus}

-- a count tells how many values there are, and each is within the limits
pub record AreShort (values : List Value) : Type 0 where
  pub count : length values ≤ MAX_COUNT
  pub each : All IsWithinLimits values

-- the values of a frame are within the limits
pub record IsShortFrame (f : Frame) : Type 0 where
  pub slots : All IsWithinLimits f.slots
  pub operands : All IsWithinLimits f.operands

pub record IsShort (t : Thread) : Type 0 where
  pub status : IsFieldStatus t.status
  pub globals : AreShort t.globals
  pub frames : All IsShortFrame t.frames
