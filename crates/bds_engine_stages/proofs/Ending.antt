-- How the run of a state begins, goes on and ends.
use Rattle.std.proofs.Common.{◌≡◌, ℕ, Some, Result, Ok, Err, refl, sym, ap, ◌∙◌, subst, arith}
use Rattle.bds_host.specs.Host.{Log}
use Rattle.bds_schedule.specs.Moves.{move, move_in}
use Rattle.bds_schedule.specs.Stages.{End, Spent}
use Rattle.bds_schedule.specs.Steps.{Step, Leads}
use Rattle.bds_rank.specs.Machine.{LeadsOn}
use Rattle.bds_sim.specs.MachineRun.{State}
use Rattle.bds_sim.specs.Row.{row_step}
use Rattle.bds_code.specs.declared.unit.Unit.{Unit as CodeUnit}
use Rattle.bds_state.specs.Parts.{Parts}
use Rattle.bds_engine_parts.specs.Image.{image}
use Rattle.bds_engine_parts.specs.Run.{Runs}
use Rattle.bds_engine_parts.specs.Saving.{RunEnds, RunHalts}
use Rattle.bds_engine_parts.specs.Saving as whole
use Rattle.bds_engine_parts.specs.Seen.{opening}
use Rattle.bds_engine_parts.specs.declared.stop.RunStop.{RunStop}
use Rattle.bds_engine_parts.specs.declared.stop.RunStop.TheVariants as stop
use Rattle.bds_engine_stages.specs.declared.stage.Stage.{Stage}
use Rattle.bds_engine_stages.specs.declared.stage.Stage.TheVariants as stage
use Rattle.bds_engine_stages.specs.declared.stop.Halt.{Halt}
use Rattle.bds_engine_stages.specs.declared.stop.Halt.TheVariants as halt
use Rattle.bds_engine_stages.specs.Steps.{HasCome, IsAt, CallLeadsTo, StepsWithin, end_of, mode_seen}
use Rattle.bds_engine_stages.proofs.Joining.{leads_plain, reaches_on}

pub mode_of : (s : Parts) (cpus budget used : ℕ) (g : Stage) (d : State) → IsAt s cpus budget used g d
    → d.mode ≡ mode_seen g
mode_of s cpus budget used g _ (IsAt.whole _) = refl
mode_of s cpus budget used _ _ (IsAt.bare c ts b) = refl
mode_of s cpus budget used g d (IsAt.over _ _ o e) = e

pub begun : (s : Parts) (cpus budget : ℕ) (log : Log) → HasCome s cpus budget log s budget stage.Point log
begun s cpus budget log = record {
  unit = refl;
  used = 0;
  room = omega arith;
  left_is = omega arith;
  d = opening s cpus budget;
  is = IsAt.whole stage.Point;
  leads = Leads.here;
}

-- a call is told of the unit alone
pub same_unit : (a b : Parts) → a.unit ≡ b.unit
    → (cpus budget : ℕ) (d : State) (log after : Log) (s' : Parts) (used : ℕ) (r : Result Stage Halt)
    → CallLeadsTo a cpus budget d log after s' used r → CallLeadsTo b cpus budget d log after s' used r
same_unit a b e cpus budget d log after s' used (Ok g) q = record {
  unit = q.unit ∙ e;
  d' = q.d';
  is = q.is;
  leads = subst (λ (u : CodeUnit). LeadsOn (whole.Moves u) d log q.d' after) e q.leads;
}
same_unit a b e cpus budget d log after s' used (Err halt.Spent) q =
    subst (λ (u : CodeUnit). RunEnds u d log after Spent) e q
same_unit a b e cpus budget d log after s' used (Err halt.NoMemory) q =
    subst (λ (u : CodeUnit). RunHalts u d log after) e q

module _ (s : Parts) (cpus budget : ℕ) (before : Log) where
  abbrev next : State → Step State End
  next d = move s.unit.files (image s.unit) (row_step s.unit) d

  -- a step from where the run has come, told of the unit of the state there
  stepped : (now s' : Parts) (left left' : ℕ) (g : Stage) (log after : Log) (r : Result Stage Halt)
      → (h : HasCome s cpus budget before now left g log) → StepsWithin now cpus budget h.d log after s' left' r
      → StepsWithin s cpus budget (opening s cpus budget) before after s' left' r
  stepped now s' left left' g log after r h x = record {
    used = x.used;
    room = x.room;
    left_is = x.left_is;
    reaches = reaches_on s cpus budget (opening s cpus budget) h.d before log after s' x.used r h.leads
        (same_unit now s h.unit cpus budget h.d log after s' x.used r x.reaches);
  }

  pub goes_on : (now s' : Parts) (left left' : ℕ) (g g' : Stage) (log after : Log)
      → (h : HasCome s cpus budget before now left g log) → StepsWithin now cpus budget h.d log after s' left' (Ok g')
      → HasCome s cpus budget before s' left' g' after
  goes_on now s' left left' g g' log after h x =
      let y = stepped now s' left left' g log after (Ok g') h x in
      record {
        unit = y.reaches.unit;
        used = y.used;
        room = y.room;
        left_is = y.left_is;
        d = y.reaches.d';
        is = y.reaches.is;
        leads =
            leads_plain (whole.Moves s.unit) (opening s cpus budget) y.reaches.d' before after y.reaches.leads;
      }

  pub halts_there : (now s' : Parts) (left left' : ℕ) (g : Stage) (log after : Log) (e : Halt) (r : RunStop)
      → (h : HasCome s cpus budget before now left g log) → StepsWithin now cpus budget h.d log after s' left' (Err e)
      → (e ≡ halt.Spent → r ≡ stop.Ticks) → (e ≡ halt.NoMemory → r ≡ stop.NoMemory)
      → Runs s cpus budget before after (Err r)
  halts_there now s' left left' g log after halt.Spent r h x spent none =
      subst (λ r. Runs s cpus budget before after (Err r)) (sym (spent refl))
      (stepped now s' left left' g log after (Err halt.Spent) h x).reaches
  halts_there now s' left left' g log after halt.NoMemory r h x spent none =
      subst (λ r. Runs s cpus budget before after (Err r)) (sym (none refl))
      (stepped now s' left left' g log after (Err halt.NoMemory) h x).reaches

  at_end : (now : Parts) (left : ℕ) (g : Stage) (log : Log) (r : Result ℕ RunStop)
      → HasCome s cpus budget before now left g log → end_of g ≡ Some r → Runs s cpus budget before log r
  at_end now left stage.Told log r h e =
      subst (λ r. Runs s cpus budget before log r) (let q : Err stop.Device ≡ r = cc e in q) (
        h.d,
        h.leads,
        ap (move_in s.unit.files (image s.unit) (row_step s.unit) h.d)
            (mode_of now cpus budget h.used stage.Told h.d h.is),
      )
  at_end now left (stage.Done status) log r h e =
      subst (λ r. Runs s cpus budget before log r) (let q : Ok status ≡ r = cc e in q) (
        h.d,
        h.leads,
        ap (move_in s.unit.files (image s.unit) (row_step s.unit) h.d)
            (mode_of now cpus budget h.used (stage.Done status) h.d h.is),
      )
  at_end now left stage.Point log r h e = absurd (cc e)
  at_end now left (stage.Turn k) log r h e = absurd (cc e)
  at_end now left (stage.Stopping c) log r h e = absurd (cc e)
  at_end now left stage.Saving log r h e = absurd (cc e)
  at_end now left stage.Faulted log r h e = absurd (cc e)

  pub ends_there : (now : Parts) (left : ℕ) (g : Stage) (log : Log) (r : Result ℕ RunStop)
      → HasCome s cpus budget before now left g log → end_of g ≡ Some r → Runs s cpus budget before log r
  ends_there now left g log r h e = at_end now left g log r h e
