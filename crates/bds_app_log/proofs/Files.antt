-- A call that reads a file and goes on from the state that it holds, as steps; these agree.
use Rattle.std.proofs.Common.{◌≡◌, ◌∙◌, ℕ, List, ap, sym, subst, refl}
use Rattle.bds_host.specs.declared.asks.Ask.{Ask}
use Rattle.bds_host.specs.declared.asks.Ask.TheVariants as ask
use Rattle.bds_host.specs.declared.asks.Ask.TheVariants.{Read, Err as Tells}
use Rattle.bds_host.specs.declared.asks.Reply.{Reply}
use Rattle.bds_host.specs.declared.asks.Reply.TheVariants.{Bytes, Missing, Fault as Faulted}
use Rattle.bds_host.specs.declared.faults.Fault.{Fault}
use Rattle.bds_host.specs.declared.faults.Fault.TheVariants as fault
use Rattle.bds_host.specs.Message.{message_of}
use Rattle.bds_code.specs.declared.unit.Unit.{Unit as CodeUnit}
use Rattle.bds_state.specs.Parts.{Parts}
use Rattle.bds_ckpt.specs.Loading.{Loadable}
use Rattle.bds_schedule.specs.Determined.{IsSameAsk}
use Rattle.bds_schedule.specs.Moves.{move}
use Rattle.bds_schedule.specs.Stages.{End}
use Rattle.bds_schedule.specs.Steps.{Step, Goes, Asks, Ends}
use Rattle.bds_sim.specs.MachineRun.{State}
use Rattle.bds_sim.specs.Row.{row_step}
use Rattle.bds_engine_parts.specs.Seen.{revived_state}
use Rattle.bds_engine_parts.specs.Image.{image}
use Rattle.bds_engine_parts.specs.Seen.{opening}
use Rattle.bds_front.specs.Unique.{IsLikeAsk}
use Rattle.bds_front.proofs.OneEnd.{StepsAgree}

-- a state of a unit's run
pub record FileRun : Type 0 where
  pub unit : CodeUnit
  pub at : State

abbrev pub run_at : CodeUnit → State → FileRun
run_at u d = record { unit = u; at = d }

abbrev pub in_unit : CodeUnit → Step State End → Step FileRun End
in_unit u (Goes d) = Goes (run_at u d)
in_unit u (Asks a next) = Asks a (λ reply. run_at u (next reply))
in_unit u (Ends e) = Ends e

-- what it does next
abbrev pub run_next : FileRun → Step FileRun End
run_next c = in_unit c.unit (move c.unit.files (image c.unit) (row_step c.unit) c.at)

-- what a call on a file comes to
pub data FileEnd : Type 0 where
  ran : End → FileEnd
  bad_file : FileEnd
  device : FileEnd

-- how far it is
pub data FileStage : Type 0 where
  Unread : FileStage
  Loading : List ℕ → FileStage
  -- the file holds no state for this fault, which is told
  Telling : Fault → FileStage
  Failing : FileStage
  Running : FileRun → FileStage
  AtEnd : FileEnd → FileStage

abbrev pub read_gives : List ℕ → Reply → FileStage
read_gives path (Bytes bytes) = Loading bytes
read_gives path Missing = Telling (fault.Missing path)
read_gives path _ = Failing

abbrev pub or_failing : FileStage → Reply → FileStage
or_failing s Faulted = Failing
or_failing s _ = s

module _ (path : List ℕ) (cpus ticks : ℕ) where
  -- the run of a state that was loaded
  abbrev pub opened : Parts → FileRun
  opened s = run_at (revived_state s).unit (opening (revived_state s) cpus ticks)

  pub data FileSteps : FileStage → Step FileStage FileEnd → Type 0 where
    reads : FileSteps Unread (Asks (Read path) (read_gives path))
    loads : (bytes : List ℕ) (s : Parts) → Loadable bytes s → FileSteps (Loading bytes) (Goes (Running (opened s)))
    holds_none : (bytes : List ℕ) → ((s : Parts) → Loadable bytes s → ⊥)
        → FileSteps (Loading bytes) (Goes (Telling (fault.NotLoadable path)))
    run_goes : (c d : FileRun) → run_next c ≡ Goes d → FileSteps (Running c) (Goes (Running d))
    run_asks : (c : FileRun) (a : Ask) (next : Reply → FileRun) → run_next c ≡ Asks a next
        → FileSteps (Running c) (Asks a (λ reply. Running (next reply)))
    run_ends : (c : FileRun) (e : End) → run_next c ≡ Ends e → FileSteps (Running c) (Goes (AtEnd (ran e)))
    tells : (f : Fault) → FileSteps (Telling f) (Asks (Tells (message_of f)) (or_failing (AtEnd bad_file)))
    fails : FileSteps Failing (Asks (Tells (message_of fault.Device)) (λ reply. AtEnd device))
    comes : (e : FileEnd) → FileSteps (AtEnd e) (Ends e)

  abbrev pub Agree : Step FileStage FileEnd → Step FileStage FileEnd → Type 0
  Agree = StepsAgree IsLikeAsk (λ (s t : FileStage). s ≡ t)

  abbrev in_run : Step FileRun End → Step FileStage FileEnd
  in_run (Goes d) = Goes (Running d)
  in_run (Asks a f) = Asks a (λ reply. Running (f reply))
  in_run (Ends e) = Goes (AtEnd (ran e))

  same_ask : (a : Ask) → IsSameAsk a a
  same_ask (ask.Read p) = refl
  same_ask (ask.Stamp p) = refl
  same_ask (ask.Write p t) = refl
  same_ask (ask.Remove p) = refl
  same_ask (ask.Out t) = refl
  same_ask (ask.Err t) = refl
  same_ask (ask.Sys t) = refl
  same_ask (ask.Start n k t) = refl
  same_ask (ask.Next x y) = refl
  same_ask (ask.Save p t) = refl

  agree_self : (s : Step FileStage FileEnd) → Agree s s
  agree_self (Goes s) = refl
  agree_self (Asks a f) = (IsLikeAsk.like a a (same_ask a), λ reply. refl)
  agree_self (Ends e) = refl

  -- what comes next in a run
  run_step : (c : FileRun) (s : Step FileStage FileEnd) → FileSteps (Running c) s → s ≡ in_run (run_next c)
  run_step c _ (FileSteps.run_goes _ d m) = ap in_run (sym m)
  run_step c _ (FileSteps.run_asks _ a f m) = ap in_run (sym m)
  run_step c _ (FileSteps.run_ends _ e m) = ap in_run (sym m)

  same_run : (c : FileRun) (s t : Step FileStage FileEnd) → FileSteps (Running c) s → FileSteps (Running c) t
      → Agree s t
  same_run c s t a b = subst (λ x. Agree s x) (run_step c s a ∙ sym (run_step c t b)) (agree_self s)

  same_unread : (s t : Step FileStage FileEnd) → FileSteps Unread s → FileSteps Unread t → Agree s t
  same_unread _ _ FileSteps.reads FileSteps.reads = (IsLikeAsk.like (Read path) (Read path) refl, λ reply. refl)

  same_telling : (f : Fault) (s t : Step FileStage FileEnd) → FileSteps (Telling f) s → FileSteps (Telling f) t
      → Agree s t
  same_telling f _ _ (FileSteps.tells _) (FileSteps.tells _) =
      (IsLikeAsk.like (Tells (message_of f)) (Tells (message_of f)) refl, λ reply. refl)

  same_failing : (s t : Step FileStage FileEnd) → FileSteps Failing s → FileSteps Failing t → Agree s t
  same_failing _ _ FileSteps.fails FileSteps.fails =
      (IsLikeAsk.like (Tells (message_of fault.Device)) (Tells (message_of fault.Device)) refl, λ reply. refl)

  same_end : (e : FileEnd) (s t : Step FileStage FileEnd) → FileSteps (AtEnd e) s → FileSteps (AtEnd e) t → Agree s t
  same_end e _ _ (FileSteps.comes _) (FileSteps.comes _) = refl

  -- no bytes are those of two states
  module _ (one : (bytes : List ℕ) (a b : Parts) → Loadable bytes a → Loadable bytes b → a ≡ b) where
    same_load : (bytes : List ℕ) (s t : Step FileStage FileEnd) → FileSteps (Loading bytes) s
        → FileSteps (Loading bytes) t → Agree s t
    same_load bytes _ _ (FileSteps.loads _ c x) (FileSteps.loads _ d y) =
        ap (λ s. Running (opened s)) (one bytes c d x y)
    same_load bytes _ _ (FileSteps.loads _ c x) (FileSteps.holds_none _ none) = absurd (none c x)
    same_load bytes _ _ (FileSteps.holds_none _ none) (FileSteps.loads _ d y) = absurd (none d y)
    same_load bytes _ _ (FileSteps.holds_none _ none) (FileSteps.holds_none _ none') = refl

    same_steps : (c : FileStage) (s t : Step FileStage FileEnd) → FileSteps c s → FileSteps c t → Agree s t
    same_steps Unread s t a b = same_unread s t a b
    same_steps (Loading bytes) s t a b = same_load bytes s t a b
    same_steps (Telling f) s t a b = same_telling f s t a b
    same_steps Failing s t a b = same_failing s t a b
    same_steps (Running c) s t a b = same_run c s t a b
    same_steps (AtEnd e) s t a b = same_end e s t a b

    pub file_steps_agree : (c d : FileStage) (s t : Step FileStage FileEnd) → c ≡ d → FileSteps c s → FileSteps d t
        → Agree s t
    file_steps_agree c d s t same a b = same_steps d s t (subst (λ x. FileSteps x s) same a) b
