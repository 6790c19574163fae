-- Runs of threads whose code is a list of needs: examples of scheduling alone, which is the same for threads of every kind.
use Rattle.std.specs.Prelude.{◌≡◌, ℕ, ◌+◌, pos, ◌^◌, true, false, List, [], ◌∷◌, Option, Some, None, codes, slice_get}
use Rattle.bds_host.specs.declared.asks.Ask.TheVariants as ask
use Rattle.bds_host.specs.declared.asks.Reply.{Reply}
use Rattle.bds_host.specs.declared.asks.Reply.TheVariants as reply
use Rattle.bds_schedule.specs.Configuration.{Configuration, Ready, at_point}
use Rattle.bds_schedule.specs.Moves.{move}
use Rattle.bds_schedule.specs.Play.{play, Played, Comes}
use Rattle.bds_schedule.specs.Requests.{Request, Contacts, Compares, MakesTask, Declares, Achieves, AwaitsIds, ThreadAct, Needs, Finishes}
use Rattle.bds_schedule.specs.Stages.{DeviceFault, Done}
use Rattle.bds_value.specs.declared.value.At.{At}
use Rattle.bds_host.specs.declared.asks.Ask.{Ask}

abbrev pub at_line : ℕ → At
at_line n = record { file = 0; line = n }

-- it asked this, and was done with this status
abbrev pub ended : List Ask → ℕ → Played
ended asks status = record { asks = asks; verdict = Comes (Done status) }

-- need n, and then the next one; behind the last one the code has ended
abbrev pub need_at : ℕ → Option (Request ℕ) → ThreadAct ℕ
need_at n (Some r) = Needs (at_line (n + 1)) r (λ us. n + 1)
need_at n None = Finishes n

abbrev pub opens : Configuration ℕ
opens = record { path = codes "s.bds"; cpus = 4; budget = 2 ^ 62; used = 0; threads = record { parent = 0; life = Ready 0 } ∷ []; tasks = []; rules = []; mode = at_point }

-- the asks of one thread with these needs, under replies, with 4 processors
abbrev pub schedules : ℕ → List (Request ℕ) → List Reply → Played
schedules steps needs replies = play (move (codes "s.bds" ∷ []) (λ c. []) (λ n. need_at n (slice_get needs n))) steps opens replies

abbrev pub task_of : ℕ → List ℕ → List (List ℕ) → List (List ℕ) → Request ℕ
task_of cpus command outs ins = MakesTask (record { maker = 0; command = command; name = []; outs = outs; ins = ins; cpus = cpus; can_fail = false; retry = 0 })

abbrev pub rule_of : List ℕ → List (List ℕ) → List ℕ → Request ℕ
rule_of out ins command = Declares (record { outs = out ∷ []; ins = ins; cpus = 1; can_fail = false; retry = 0; name = []; command = command })

-- three tasks of two processors and one of nine
abbrev pub tasks_take_processors : Type 0
tasks_take_processors =
    schedules 40 (task_of 2 (codes "a 0") [] [] ∷ task_of 2 (codes "a 1") [] [] ∷ task_of 2 (codes "a 2") [] [] ∷ task_of 9 (codes "b") [] [] ∷ []) (
    reply.Started ∷ reply.Run 0 ∷ reply.Started ∷ reply.Run 0 ∷ reply.Run 0 ∷ reply.Run 0 ∷ reply.Ended 2 0 ∷ reply.Started
    ∷ reply.Ended 1 0 ∷ reply.Ended 3 0 ∷ reply.Started ∷ reply.Ended 4 0 ∷ [])
    ≡ ended (
    ask.Start 1 0 (codes "a 0")
    ∷ ask.Next (0 ∷ []) (1 ∷ [])
    ∷ ask.Start 2 0 (codes "a 1")
    ∷ ask.Next (0 ∷ []) (1 ∷ 2 ∷ [])
    ∷ ask.Next (0 ∷ []) (1 ∷ 2 ∷ [])
    ∷ ask.Next (0 ∷ []) (1 ∷ 2 ∷ [])
    ∷ ask.Next [] (1 ∷ 2 ∷ [])
    ∷ ask.Start 3 0 (codes "a 2")
    ∷ ask.Next [] (1 ∷ 3 ∷ [])
    ∷ ask.Next [] (3 ∷ [])
    ∷ ask.Start 4 0 (codes "b")
    ∷ ask.Next [] (4 ∷ [])
    ∷ []) 0

abbrev pub there : ℕ → Reply
there time = reply.Stamp true 1 (pos time)

-- rules a <- src, b <- a, c <- a and d <- b, c, and the goal d
abbrev pub diamond_is_planned : Type 0
diamond_is_planned =
    schedules 50 (
    rule_of (codes "a") (codes "src" ∷ []) (codes "ra")
    ∷ rule_of (codes "b") (codes "a" ∷ []) (codes "rb")
    ∷ rule_of (codes "c") (codes "a" ∷ []) (codes "rc")
    ∷ rule_of (codes "d") (codes "b" ∷ codes "c" ∷ []) (codes "rd")
    ∷ Achieves (codes "d" ∷ [])
    ∷ Contacts (ask.Out (codes "planned"))
    ∷ []) (
    there 5 ∷ there 5 ∷ there 5 ∷ there 5 ∷ there 9 ∷ reply.Started ∷ reply.Run 0 ∷ reply.Done ∷ reply.Ended 1 0 ∷ reply.Started ∷ reply.Started
    ∷ reply.Ended 3 0 ∷ reply.Ended 2 0 ∷ reply.Started ∷ reply.Ended 4 0 ∷ [])
    ≡ ended (
    ask.Stamp (codes "a")
    ∷ ask.Stamp (codes "b")
    ∷ ask.Stamp (codes "c")
    ∷ ask.Stamp (codes "d")
    ∷ ask.Stamp (codes "src")
    ∷ ask.Start 1 0 (codes "ra")
    ∷ ask.Next (0 ∷ []) (1 ∷ [])
    ∷ ask.Out (codes "planned")
    ∷ ask.Next [] (1 ∷ [])
    ∷ ask.Start 2 0 (codes "rb")
    ∷ ask.Start 3 0 (codes "rc")
    ∷ ask.Next [] (2 ∷ 3 ∷ [])
    ∷ ask.Next [] (2 ∷ [])
    ∷ ask.Start 4 0 (codes "rd")
    ∷ ask.Next [] (4 ∷ [])
    ∷ []) 0

-- a goal that is up to date, and one without a rule
abbrev pub goal_without_rule : Type 0
goal_without_rule =
    schedules 30 (rule_of (codes "o") (codes "i" ∷ []) (codes "x") ∷ Achieves (codes "o" ∷ []) ∷ Contacts (ask.Out (codes "none")) ∷ Achieves (codes "q" ∷ []) ∷ [])
    (there 1 ∷ there 2 ∷ reply.Done ∷ reply.Stamp false 0 (pos 0) ∷ reply.Done ∷ [])
    ≡ ended (
    ask.Stamp (codes "i")
    ∷ ask.Stamp (codes "o")
    ∷ ask.Out (codes "none")
    ∷ ask.Stamp (codes "q")
    ∷ ask.Err (codes "bds: s.bds:4: no rule makes q\n")
    ∷ []) 1

-- a second rule for a file
abbrev pub second_maker_is_told : Type 0
second_maker_is_told =
    schedules 20 (rule_of (codes "a") [] (codes "x") ∷ rule_of (codes "a") [] (codes "y") ∷ []) (reply.Done ∷ [])
    ≡ ended (ask.Err (codes "bds: s.bds:2: rule 1 makes a\n") ∷ []) 1

-- a task that needs a failed one is cancelled, and a wait for it names the failed one
abbrev pub cancelled_task_is_told : Type 0
cancelled_task_is_told =
    schedules 30 (task_of 1 (codes "x") (codes "a" ∷ []) [] ∷ task_of 1 (codes "y") [] (codes "a" ∷ []) ∷ AwaitsIds (codes "task.2" ∷ []) ∷ []) (
    reply.Started ∷ reply.Run 0 ∷ reply.Run 0 ∷ reply.Ended 1 7 ∷ reply.Done ∷ reply.Done ∷ [])
    ≡ ended (
    ask.Start 1 0 (codes "x")
    ∷ ask.Next (0 ∷ []) (1 ∷ [])
    ∷ ask.Next (0 ∷ []) (1 ∷ [])
    ∷ ask.Next [] (1 ∷ [])
    ∷ ask.Err (codes "bds: task.1 failed with code 7\n")
    ∷ ask.Save (codes "s.bds.chp") []
    ∷ []) 1

-- a fault in reply to a stamp
abbrev pub device_fault_is_told : Type 0
device_fault_is_told =
    schedules 20 (Compares (codes "o" ∷ []) (codes "i" ∷ []) ∷ []) (there 1 ∷ reply.Fault ∷ reply.Done ∷ [])
    ≡ record { asks = ask.Stamp (codes "o") ∷ ask.Stamp (codes "i") ∷ ask.Err (codes "bds: device fault\n") ∷ []; verdict = Comes DeviceFault }
