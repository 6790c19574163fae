-- What a history says of a task: when a command of it starts, and when it ends.
use Rattle.std.specs.Prelude.{ℕ, Bool, true, false, not, ◌&&◌, ◌||◌, fold, nat_eq, if◌then◌else◌}
use Rattle.bds_host.specs.declared.asks.Ask.{Ask}
use Rattle.bds_host.specs.declared.asks.Ask.TheVariants.{Start}
use Rattle.bds_host.specs.declared.asks.Reply.{Reply}
use Rattle.bds_host.specs.declared.asks.Reply.TheVariants.{Ended, Started}
use Rattle.bds_meaning.specs.History.{Event, pair, restart, History}

abbrev pub is_start : ℕ → Ask → Bool
is_start n (Start task attempt command) = nat_eq task n
is_start n ask = false

abbrev pub is_end : ℕ → Reply → Bool
is_end n (Ended task code) = nat_eq task n
is_end n reply = false

abbrev pub is_started : Reply → Bool
is_started Started = true
is_started reply = false

-- a command of task n starts, whatever the reply
abbrev pub starts : ℕ → Event → Bool
starts n (pair ask reply) = is_start n ask
starts n (restart cpus budget) = false

abbrev pub ends : ℕ → Event → Bool
ends n (pair ask reply) = is_end n reply
ends n (restart cpus budget) = false

-- the attempt that an ask starts of task n, and else the one before it
abbrev pub attempt_by : ℕ → ℕ → Ask → ℕ
attempt_by n last (Start task attempt command) = if nat_eq task n then attempt else last
attempt_by n last ask = last

abbrev pub attempt_behind : ℕ → ℕ → Event → ℕ
attempt_behind n last (pair ask reply) = attempt_by n last ask
attempt_behind n last (restart cpus budget) = last

-- the attempt of task n that a history started last
abbrev pub attempt_in : ℕ → History → ℕ
attempt_in n h = fold (attempt_behind n) 0 h

-- a task runs from a start that was answered to its end, or to a restart
abbrev pub runs_behind : ℕ → Bool → Event → Bool
runs_behind n runs (pair ask reply) = (is_start n ask && is_started reply) || (runs && not (is_end n reply))
runs_behind n runs (restart cpus budget) = false

-- whether task n runs behind a history
abbrev pub runs_in : ℕ → History → Bool
runs_in n h = fold (runs_behind n) false h

abbrev pub cpus_behind : ℕ → Event → ℕ
cpus_behind before (pair ask reply) = before
cpus_behind before (restart cpus budget) = cpus

-- how many processors there are behind a history, of so many at its beginning
abbrev pub cpus_in : ℕ → History → ℕ
cpus_in first h = fold cpus_behind first h
