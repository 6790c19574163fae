-- The run of a script that is made from a number: it is never refused, and its ticks are never spent.
use Rattle.std.specs.Prelude.{◌≡◌, ◌≤◌, ℕ, []}
use Rattle.bds_host.specs.Host.{Log}
use Rattle.bds_check_typing.specs.Texts.{IsShort}
use Rattle.bds_meaning.specs.Run.{Program, Conf, ComesTo}
use Rattle.bds_schedule.specs.Stages.{Spent}
use Rattle.bds_tools.specs.Made.{AllMade}
use Rattle.bds_tools.specs.Make.{make_text}
use Rattle.bds_app_run.specs.Commands.{RunsScript}
use Rattle.bds_app_run.specs.declared.call.Call.{Call}
use Rattle.bds_app_run.specs.declared.outcome.Outcome.{Outcome}
use Rattle.bds_app_run.specs.declared.outcome.Outcome.TheVariants.{Refused, Ticks}
use Rattle.bds_made.specs.Straight.{AreStraight}

-- From whichever path, with whatever processors and ticks, and without words behind it, no run has this answer in which
-- each read gives the script, and all else goes by itself
abbrev pub NeverEndsSo : Outcome → Type 0
NeverEndsSo answer = (c : Call) (n : ℕ) (inner : Log) → c.words ≡ [] → IsShort c.path → n ≤ 10000
    → AllMade (make_text n) inner → RunsScript c [] inner answer → ⊥

abbrev pub IsNeverRefused : Type 0
IsNeverRefused = NeverEndsSo Refused

abbrev pub IsNeverSpent : Type 0
IsNeverSpent = NeverEndsSo Ticks

-- no run of threads without loops, calls, switches and `par` is spent, whatever its budget
abbrev pub AreStraightNeverSpent : Type 0
AreStraightNeverSpent =
    (program : Program) (from : Conf) (before after : Log) → AreStraight from
    → ComesTo program from before after Spent → ⊥
