-- What a point carries is within the limits.
use Rattle.std.specs.Prelude.{ℕ, ◌≤◌, ◌≡◌, List, length, slice_get, Some, None, ⊤}
use Rattle.std.specs.List.{All}
use Rattle.bds_value.specs.declared.TheConstants.{MAX_ITEMS, MAX_TEXT}
use Rattle.bds_host.specs.declared.asks.Ask.{Ask}
use Rattle.bds_host.specs.declared.asks.Ask.TheVariants as ask
use Rattle.bds_rules.specs.declared.rule.Rule.{Rule}
use Rattle.bds_rules.specs.Own as rules
use Rattle.bds_tasks.specs.declared.task.TaskNew.{TaskNew}
use Rattle.bds_tasks.specs.Sound as tasks
use Rattle.bds_code.specs.declared.unit.Function.{Function}
use Rattle.bds_code.specs.declared.unit.Unit.{Unit as CodeUnit}
use Rattle.bds_verify.specs.Threads.{Typed}
use Rattle.bds_machine.specs.declared.point.Point.{Point}
use Rattle.bds_machine.specs.declared.point.Point.TheVariants as point

-- texts that a list of values may hold
pub record AreShort (texts : List (List ℕ)) : Type 0 where
  pub count : length texts ≤ MAX_ITEMS
  pub each : All (λ (t : List ℕ). length t ≤ MAX_TEXT) texts

-- the asks of the machine, with texts within the limits
abbrev pub AskFits : Ask → Type 0
AskFits (ask.Read path) = length path ≤ MAX_TEXT
AskFits (ask.Stamp path) = length path ≤ MAX_TEXT
AskFits (ask.Write path text) = (length path ≤ MAX_TEXT) × (length text ≤ MAX_TEXT)
AskFits (ask.Remove path) = length path ≤ MAX_TEXT
AskFits (ask.Out text) = length text ≤ MAX_TEXT
AskFits (ask.Sys command) = length command ≤ MAX_TEXT
AskFits _ = ⊥

-- a task that may be added once its maker is known
pub record TaskFits (new : TaskNew) : Type 0 where
  pub maker : new.maker ≡ 0
  pub legal : tasks.IsLegal new
  pub outs : AreShort new.outs
  pub ins : AreShort new.ins

pub record RuleFits (r : Rule) : Type 0 where
  pub legal : rules.IsLegal r
  pub outs : AreShort r.outs
  pub ins : AreShort r.ins

module _ (u : CodeUnit) where
  -- the points at which a thread awaits an answer
  abbrev pub Carries : Point → Type 0
  Carries (point.Asks a) = AskFits a
  Carries (point.Old outs ins) = AreShort outs × AreShort ins
  Carries (point.Task new) = TaskFits new
  Carries (point.Declare rule) = RuleFits rule
  Carries (point.Goal files) = AreShort files
  Carries (point.Spawn function args) = (f : Function) × (slice_get u.functions function ≡ Some f) × Typed args f.params
  Carries (point.Wait ids) = AreShort ids
  Carries point.WaitAll = ⊤
  Carries (point.Save (Some path)) = length path ≤ MAX_TEXT
  Carries (point.Save None) = ⊤
  Carries _ = ⊥
