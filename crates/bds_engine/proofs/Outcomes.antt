-- Where a call leaves the run behind its last step.
use Rattle.std.proofs.Common.{◌≡◌, ℕ, Bool, true, false, List, [], ◌∷◌, Option, Some, None, Result, Ok, Err, slice_get, refl, sym, ap, ◌∙◌, subst}
use Rattle.std.specs.Prelude.{unwrap_or}
use Rattle.bds_value.specs.declared.value.At.{At}
use Rattle.bds_value.specs.declared.value.Stamp.{Stamp}
use Rattle.bds_value.specs.declared.value.Value.{Value}
use Rattle.bds_value.specs.declared.ids.Status.TheVariants as status
use Rattle.bds_value.specs.declared.faults.RunFault.{RunFault}
use Rattle.bds_host.specs.declared.asks.Ask.{Ask}
use Rattle.bds_host.specs.declared.asks.Ask.TheVariants as ask
use Rattle.bds_host.specs.declared.asks.Reply.{Reply}
use Rattle.bds_host.specs.declared.asks.Reply.TheVariants as reply
use Rattle.bds_host.specs.Host.{Log, Answered, is_fault}
use Rattle.bds_code.specs.declared.unit.Unit.{Unit as CodeUnit}
use Rattle.bds_code_frames.specs.declared.thread.Thread.{Thread}
use Rattle.bds_code_frames.specs.Stack.{stack}
use Rattle.bds_machine.specs.Answers.{IsGiven}
use Rattle.bds_schedule.specs.Configuration.{IsOnWay, Ready, becomes, faulted, in_mode}
use Rattle.bds_schedule.specs.Faults.{Outcome}
use Rattle.bds_schedule.specs.Moves.{move}
use Rattle.bds_schedule.specs.Stages.{End}
use Rattle.bds_schedule.specs.Stages as stages
use Rattle.bds_schedule.specs.Steps.{Step, Goes, Asks, Halts, Leads}
use Rattle.bds_schedule.specs.Turns as turns
use Rattle.bds_sim.specs.Threads.{given}
use Rattle.bds_sim.specs.Threads as sim
use Rattle.bds_rank.specs.Machine.{LeadsOn}
use Rattle.bds_sim.specs.MachineRun.{State}
use Rattle.bds_sim.specs.Row.{behind, row_step}
use Rattle.bds_sim.specs.schedule.Agree.{IsPlain}
use Rattle.bds_state.specs.Keeping.{with_thread}
use Rattle.bds_state.specs.Parts.{Parts}
use Rattle.bds_engine_parts.specs.Image.{image}
use Rattle.bds_engine_parts.specs.Saving.{SavesWhole}
use Rattle.bds_engine_parts.specs.Saving as whole
use Rattle.bds_engine_parts.specs.Seen.{code_seen, life_seen, seen}
use Rattle.bds_engine_stages.specs.declared.stage.Stage.{Stage}
use Rattle.bds_engine_stages.specs.declared.stage.Stage.TheVariants as stage
use Rattle.bds_engine_stages.specs.declared.stop.Halt.{Halt}
use Rattle.bds_engine_stages.specs.declared.stop.Halt.TheVariants as halt
use Rattle.bds_engine_stages.proofs.Joining.{leads_plain}
use Rattle.bds_engine_stages.specs.Held.{FailsSo, GoesBack, HasPlace, before_row}
use Rattle.bds_engine_stages.specs.Steps.{CallLeadsTo, IsAt, mode_seen}
use Rattle.bds_engine_stages.proofs.Rows.{fails_at, given_is, put_back}
use Rattle.bds_engine.specs.Given.{Gives, at_of}

-- a call is at a stage there, or has found no memory on its way
abbrev pub Comes : CodeUnit → ℕ → ℕ → ℕ → State → Parts → Result Stage Halt → Type 0
Comes u cpus budget used d s' (Ok g) = (s'.unit ≡ u) × IsAt s' cpus budget used g d
Comes u cpus budget used d s' (Err halt.Spent) = ⊥
Comes u cpus budget used d s' (Err halt.NoMemory) = IsOnWay d.mode

abbrev pub stage_behind : Bool → ℕ → Stage
stage_behind true k = stage.Point
stage_behind false k = stage.Turn k

pub unfaulted : (c d : State) (r : Reply) → is_fault r ≡ false → stages.unless_fault c r d ≡ d
unfaulted c d (reply.Bytes text) e = refl
unfaulted c d reply.Missing e = refl
unfaulted c d (reply.Stamp there size time) e = refl
unfaulted c d reply.Done e = refl
unfaulted c d (reply.SysDone code out) e = refl
unfaulted c d reply.Started e = refl
unfaulted c d (reply.Run k) e = refl
unfaulted c d (reply.Ended n code) e = refl
unfaulted c d reply.Fault e = absurd (cc e)
unfaulted c d reply.NoRoom e = refl

-- any ask but a save
pub nothing_saved : (u : CodeUnit) (a : Ask) (f : Reply → State) → IsPlain a → SavesWhole u (Asks a f)
nothing_saved u (ask.Read path) f plain = tt
nothing_saved u (ask.Stamp path) f plain = tt
nothing_saved u (ask.Write path text) f plain = tt
nothing_saved u (ask.Remove path) f plain = tt
nothing_saved u (ask.Out text) f plain = tt
nothing_saved u (ask.Err text) f plain = tt
nothing_saved u (ask.Sys command) f plain = tt
nothing_saved u (ask.Start n attempt command) f plain = tt
nothing_saved u (ask.Next ready running) f plain = tt
nothing_saved u (ask.Save path image) f plain = absurd plain

module _ (s : Parts) (cpus budget used : ℕ) where
  abbrev pub next : State → Step State End
  next d = move s.unit.files (image s.unit) (row_step s.unit) d

  abbrev pub Moves : State → Step State End → Type 0
  Moves d x = whole.Moves s.unit d x

  -- behind steps
  pub comes_to : (a d : State) (before after : Log) (s' : Parts) (r : Result Stage Halt) → LeadsOn Moves a before d after → Comes s.unit cpus budget used d s' r → CallLeadsTo s cpus budget a before after s' used r
  comes_to a d before after s' (Ok g) l h = record { unit = h.0; d' = d; is = h.1; leads = l }
  comes_to a d before after s' (Err halt.Spent) l h = absurd h
  comes_to a d before after s' (Err halt.NoMemory) l h = Halts.halts_at d h (leads_plain Moves a d before after l)

  -- behind a step that needs no ask
  pub goes_to : (a d : State) (log : Log) (s' : Parts) (r : Result Stage Halt) → next a ≡ Goes d → Comes s.unit cpus budget used d s' r → CallLeadsTo s cpus budget a log log s' used r
  goes_to a d log s' r e h = comes_to a d log log s' r (LeadsOn.goes a d log Leads.here (e, tt)) h

  -- behind an ask with its reply
  pub asks_to : (a : State) (before after : Log) (x : Ask) (f : Reply → State) (r : Reply) (s' : Parts) (res : Result Stage Halt) → next a ≡ stages.asking a x f → IsPlain x → Answered before after x r → is_fault r ≡ false → Comes s.unit cpus budget used (f r) s' res
      → CallLeadsTo s cpus budget a before after s' used res
  asks_to a before after x f r s' res e plain answered fine h =
      comes_to a (stages.unless_fault a r (f r)) before after s' res (LeadsOn.asks a before after x (λ q. stages.unless_fault a q (f q)) r Leads.here (e, nothing_saved s.unit x (λ q. stages.unless_fault a q (f q)) plain) answered)
      (subst (λ z. Comes s.unit cpus budget used z s' res) (sym (unfaulted a (f r) r fine)) h)

  -- a fault in reply is told next
  pub faults_to : (a : State) (before after : Log) (x : Ask) (f : Reply → State) (s' : Parts) → next a ≡ stages.asking a x f → IsPlain x → Answered before after x reply.Fault → s'.unit ≡ s.unit → CallLeadsTo s cpus budget a before after s' used (Ok stage.Faulted)
  faults_to a before after x f s' e plain answered same =
      comes_to a (in_mode faulted a) before after s' (Ok stage.Faulted) (LeadsOn.asks a before after x (λ q. stages.unless_fault a q (f q)) reply.Fault Leads.here (e, nothing_saved s.unit x (λ q. stages.unless_fault a q (f q)) plain) answered)
      (same, IsAt.over stage.Faulted (in_mode faulted a) tt refl)

module _ (s : Parts) (k : ℕ) (t : Thread) (place : HasPlace s k t) (is_ready : t.status ≡ status.Ready) where
  abbrev pub go : List Value → sim.Parts
  go us = behind t.globals (stack t.frames) us

  pub given_code : (v : Option Value) (new : Thread) → IsGiven s.unit v t new → code_seen new ≡ go (given v)
  given_code v new g =
      ap (λ x. record { globals = x; calls = stack new.frames }) (ap (λ (x : Thread). x.globals) g.rest)
      ∙ ap (λ x. record { globals = t.globals; calls = x }) (sym (given_is t.globals (stack t.frames) (stack new.frames) v g.frames))

  pub given_ready : (v : Option Value) (new : Thread) → IsGiven s.unit v t new → new.status ≡ status.Ready
  given_ready v new g = ap (λ (x : Thread). x.status) g.rest ∙ is_ready

  given_life : (v : Option Value) (new : Thread) → IsGiven s.unit v t new → life_seen new.status new ≡ Ready (go (given v))
  given_life v new g = ap (λ x. life_seen x new) (given_ready v new g) ∙ ap (λ x. Ready x) (given_code v new g)

  module _ (cpus budget used : ℕ) (m : sim.Parts) (stamps : List Stamp) where
    abbrev pub here : State
    here = before_row s cpus budget used k m stamps

    -- the thread is in its place again
    pub comes_back : (v : Option Value) (g : Stage) (s' : Parts) (r : Result Stage Halt) → IsOnWay (mode_seen g) → GoesBack k v t s s' g r → Comes s.unit cpus budget used (becomes k (Ready (go (given v))) (mode_seen g) here) s' r
    comes_back v g s' (Ok g') way h =
        let b = h.1 in
        let e : becomes k (Ready (go (given v))) (mode_seen g) here ≡ seen (with_thread k b.next s) cpus budget used (mode_seen g) =
        put_back s cpus budget used k place.old place.there m b.next (Ready (go (given v))) (mode_seen g) stamps (ap (λ (x : Thread). x.parent) b.given.rest ∙ place.parent) (given_life v b.next b.given) in (
          ap (λ (x : Parts). x.unit) b.parts,
          subst (λ z. IsAt s' cpus budget used g' z) (ap (λ (x : Parts). seen x cpus budget used (mode_seen g)) b.parts ∙ sym e)
              (subst (λ x. IsAt s' cpus budget used x (seen s' cpus budget used (mode_seen g))) (sym h.0) (IsAt.whole g)),
        )
    comes_back v g s' (Err halt.Spent) way h = absurd h
    comes_back v g s' (Err halt.NoMemory) way h = way

    -- the run stops
    pub stops_so : (at : At) (f : RunFault) (s' : Parts) (r : Result Stage Halt) → s' ≡ s → FailsSo s at f r → Comes s.unit cpus budget used (stages.fails s.unit.files here at f) s' r
    stops_so at f s' (Ok g) same h = (
      ap (λ (x : Parts). x.unit) same,
      subst (λ x. IsAt x cpus budget used g (stages.fails s.unit.files here at f)) (sym same)
          (subst (λ x. IsAt s cpus budget used x (stages.fails s.unit.files here at f)) (sym h) (fails_at s cpus budget used k place.old place.there m stamps at f (unwrap_or (slice_get s.unit.files at.file) s.path) refl)),
    )
    stops_so at f s' (Err halt.Spent) same h = absurd h
    stops_so at f s' (Err halt.NoMemory) same h = tt

    -- one or the other
    pub comes_given : (b : Bool) (s' : Parts) (r : Result Stage Halt) (o : Outcome (List Value)) → Gives s k t (stage_behind b k) s' r o → Comes s.unit cpus budget used (turns.given s.unit.files b k here (at_of s.unit t) go o) s' r
    comes_given true s' r (Ok []) h = comes_back None stage.Point s' r tt h
    comes_given false s' r (Ok []) h = comes_back None (stage.Turn k) s' r tt h
    comes_given true s' r (Ok (v ∷ [])) h = comes_back (Some v) stage.Point s' r tt h
    comes_given false s' r (Ok (v ∷ [])) h = comes_back (Some v) (stage.Turn k) s' r tt h
    comes_given b s' r (Ok (v ∷ w ∷ vs)) h = absurd h
    comes_given true s' r (Err f) h = stops_so (at_of s.unit t) f s' r h.0 h.1
    comes_given false s' r (Err f) h = stops_so (at_of s.unit t) f s' r h.0 h.1
