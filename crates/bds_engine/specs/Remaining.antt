-- For proofs alone: how much of a run is left where it stands at a stage.
use Rattle.std.specs.Prelude.{ℕ}
use Rattle.bds_code.specs.declared.unit.Unit.{Unit as CodeUnit}
use Rattle.bds_rank.specs.Left.{left}
use Rattle.bds_rank.specs.Machine.{code_left}
use Rattle.bds_state.specs.Parts.{Parts}
use Rattle.bds_engine_parts.specs.Seen.{seen}
use Rattle.bds_engine_stages.specs.Steps.{mode_seen}
use Rattle.bds_engine_stages.specs.declared.stage.Stage.{Stage}

-- with so many ticks left of the budget
abbrev pub stage_left : CodeUnit → Parts → ℕ → ℕ → Stage → ℕ
stage_left u s cpus ticks g = left (code_left u) (seen s cpus ticks 0 (mode_seen g))
