-- A host that answers by itself.
use Rattle.std.specs.Prelude.{ℕ, [], Option, Some, None, false, pos, min}
use Rattle.std.specs.List.{reduce}
use Rattle.bds_host.specs.declared.asks.Ask.{Ask}
use Rattle.bds_host.specs.declared.asks.Ask.TheVariants.{Read, Stamp, Write, Remove, Out, Err, Sys, Start, Next, Save}
use Rattle.bds_host.specs.declared.asks.Reply.{Reply}
use Rattle.bds_host.specs.declared.asks.Reply.TheVariants.{Missing, Stamp as Stamped, Done, SysDone, Started, Run, Ended, Fault}

-- the least ready thread, or else an end of the least running task with code 0
abbrev pub next_reply : Option ℕ → Option ℕ → Reply
next_reply (Some thread) _ = Run thread
next_reply None (Some task) = Ended task 0
next_reply None None = Fault

abbrev pub auto_reply : Ask → Reply
auto_reply (Read _) = Missing
auto_reply (Stamp _) = Stamped false 0 (pos 0)
auto_reply (Sys _) = SysDone 0 []
auto_reply (Start _ _ _) = Started
auto_reply (Next ready running) = next_reply (reduce min ready) (reduce min running)
auto_reply (Write _ _) = Done
auto_reply (Remove _) = Done
auto_reply (Out _) = Done
auto_reply (Err _) = Done
auto_reply (Save _ _) = Done
