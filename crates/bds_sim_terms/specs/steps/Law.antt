-- Threads of the machine stand for threads of the source, between their turns and at their points.
use Rattle.std.specs.Prelude.{◌≡◌, ℕ, List, [], length, Some}
use Rattle.bds_value.specs.declared.value.Value.{Value}
use Rattle.bds_code.specs.declared.unit.Unit.{Unit as CodeUnit}
use Rattle.bds_code_frames.specs.Stack.{Stack, stack}
use Rattle.bds_code_frames.specs.declared.thread.Thread.{Thread}
use Rattle.bds_machine.specs.declared.point.Point.{Point}
use Rattle.bds_machine.specs.declared.point.Point.TheVariants as point
use Rattle.bds_value.specs.declared.ids.Status.TheVariants.{Ready}
use Rattle.bds_verify.specs.Threads.{IsThread}
use Rattle.bds_verify.specs.Verified.{VerifiedUnit}
use Rattle.bds_machine.specs.Running.{ComesTo}
use Rattle.bds_meaning.specs.Acts.{Code}
use Rattle.bds_schedule.specs.Requests.{Request}
use Rattle.bds_sim_terms.specs.steps.Turn.{Turn, Going, Needing, Failed, Exited, Finished, Spent, turn}
use Rattle.bds_sim_terms.specs.steps.Stands.{Source, Codes, values, count_of, Points, IsBehind, StandsAlone}
use Rattle.bds_sim.specs.Threads.{answered}
use Rattle.bds_sim.specs.Threads.{Live, given}

module _ (o : Source) (u : CodeUnit) where
  -- globals and calls that stand for the code of a thread
  pub record StandFor (c : Code) (g : List Value) (s : Stack) : Type 0 where
    pub globals_are : g ≡ values c.variables.globals
    pub calls : StandsAlone o u c.variables c.term s

  -- whatever values an answer gives, the globals and calls with them stand for the code behind it
  abbrev pub StandsAnswered : Request Code → (List Value → Code) → List Value → Stack → Type 0
  StandsAnswered r next g s = (us : List Value) → length us ≡ count_of r → (s' : Stack) × (answered us s ≡ Some s') × StandFor (next us) g s'

  -- where a turn has led, the machine is at a point with these globals and calls, and with so many ticks left
  abbrev pub IsAt : Turn → Point → List Value → Stack → ℕ → Type 0
  IsAt (Going c left') p g s left = ⊥
  IsAt (Needing line r next left') p g s left = Points o u r p g s × (left ≡ left') × IsBehind o u line s × StandsAnswered r next g s
  IsAt (Failed line fault left') p g s left = (p ≡ point.Stop fault line) × (left ≡ left')
  IsAt (Exited status left') p g s left = (p ≡ point.Exit status) × (left ≡ left')
  IsAt (Finished c left') p g s left = (p ≡ point.Finished) × (left ≡ left') × (g ≡ values c.variables.globals) × (s ≡ [])
  IsAt Spent p g s left = (p ≡ point.Spent) × (left ≡ 0)

  abbrev pub ThreadStands : Code → Thread → Type 0
  ThreadStands c thread = StandFor c thread.globals (stack thread.frames)

  -- a call that has run a thread to a point has taken the turn of the source's thread
  abbrev pub IsTurn : Thread → ℕ → Point → Thread → ℕ → Type 0
  IsTurn old before p new after = (c : Code) → ThreadStands c old → (n : ℕ) × IsAt (turn o.program n c before) p new.globals (stack new.frames) after

  -- a call that has run a ready thread to a point has taken such a turn
  abbrev pub TurnsAgree : Type 0
  TurnsAgree = Codes o u → VerifiedUnit u → (old : Thread) → (before : ℕ) → (p : Point) → (new : Thread) → (after : ℕ) → old.status ≡ Ready → IsThread u old → ComesTo u old before p new after → IsTurn old before p new after
