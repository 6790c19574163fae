-- Asks at the row at which a thread has left the machine.
use Rattle.std.proofs.Common.{◌≡◌, ◌+◌, ◌-◌, ℕ, Bool, true, false, List, [], ◌∷◌, Some, None, Result, Ok, Err, slice_get, refl, sym, ap, ◌∙◌, subst, arith}
use Rattle.std.specs.Prelude.{cond, nat_eq, unwrap_or}
use Rattle.std.proofs.lemmas.Bool.{eqb-true}
use Rattle.std.specs.Result.{IsErrAnd}
use Rattle.bds_value.specs.declared.value.At.{At}
use Rattle.bds_value.specs.declared.value.Stamp.{Stamp}
use Rattle.bds_value.specs.declared.value.Ty.{Ty}
use Rattle.bds_value.specs.declared.faults.RunFault.{RunFault}
use Rattle.bds_value.specs.declared.faults.RunFault.TheVariants as run
use Rattle.bds_value.specs.Options.{◌>>=◌}
use Rattle.bds_host.specs.declared.asks.Ask.{Ask}
use Rattle.bds_host.specs.declared.asks.Ask.TheVariants as ask
use Rattle.bds_host.specs.declared.asks.Reply.{Reply}
use Rattle.bds_host.specs.declared.asks.Reply.TheVariants as reply
use Rattle.bds_host.specs.Host.{Log, Answered, FoundNoRoom, is_fault}
use Rattle.bds_code.specs.declared.instr.Instr.{Instr}
use Rattle.bds_code.specs.declared.unit.Unit.{Unit as CodeUnit}
use Rattle.bds_code_frames.specs.declared.thread.Thread.{Thread}
use Rattle.bds_code_frames.specs.Stack.{stack}
use Rattle.bds_machine.specs.Answers.{AwaitsAnswer}
use Rattle.bds_machine.specs.Carried.{AskFits}
use Rattle.bds_machine.specs.declared.point.Point.{Point}
use Rattle.bds_machine.specs.declared.point.Point.TheVariants as point
use Rattle.bds_schedule.specs.Configuration.{Ready, turn_of, becomes}
use Rattle.bds_schedule.specs.Replies.{answer_to, command_given, is_point, stamp_in, text_given, values_given}
use Rattle.bds_schedule.specs.Requests.{Contacts, Inspects, Needs}
use Rattle.bds_schedule.specs.Stages as stages
use Rattle.bds_schedule.specs.Steps.{Halts, Leads}
use Rattle.bds_schedule.specs.Turns as turns
use Rattle.bds_sim.specs.Threads.{code_behind}
use Rattle.bds_sim.specs.Threads as sim
use Rattle.bds_sim.specs.MachineRun.{State}
use Rattle.bds_sim.specs.Row.{left, no_line, question_at, request_of, row_step}
use Rattle.bds_sim.specs.schedule.Agree.{IsPlain}
use Rattle.bds_rules.specs.declared.rule.Rule.{Rule}
use Rattle.bds_tasks.specs.declared.task.Task.{Task}
use Rattle.bds_state.specs.Parts.{Parts, with_rules, with_tasks}
use Rattle.bds_engine_stages.specs.declared.stage.Stage.{Stage}
use Rattle.bds_engine_stages.specs.declared.stage.Stage.TheVariants as stage
use Rattle.bds_engine_stages.specs.declared.stop.Halt.{Halt}
use Rattle.bds_engine_stages.specs.declared.stop.Halt.TheVariants as halt
use Rattle.bds_engine_stages.specs.Held.{FailsSo, FromRow, GoesBack, IsOut, before_row}
use Rattle.bds_engine_stages.proofs.Joining.{no_room}
use Rattle.bds_engine_stages.proofs.Rows.{row_next}
use Rattle.bds_engine.specs.Given.{Breaks, FromStamps, Gives, TellsNothing, at_of}
use Rattle.bds_engine.proofs.Outcomes.{asks_to, comes_back, comes_given, faults_to, go, next, nothing_saved, stage_behind}

-- the line that is read is that of the row
pub line_is : (u : CodeUnit) (t : Thread) (type : Ty) → (a : AwaitsAnswer u t type) → (x : At) → slice_get a.f.lines a.at ≡ Some x → at_of u t ≡ x
line_is u t type a x is =
    let e : a.at + 1 - 1 ≡ a.at = omega arith in
    ap (λ o. unwrap_or o no_line)
    (ap (λ o. o >>= λ at. slice_get u.functions at.0 >>= λ f. slice_get f.lines (at.1 - 1)) a.stands
    ∙ ap (λ o. o >>= λ f. slice_get f.lines (a.at + 1 - 1)) a.there
    ∙ ap (λ n. slice_get a.f.lines n) e ∙ is)

pub breaks_there : (s : Parts) (t : Thread) (type : Ty) → (a : AwaitsAnswer s.unit t type) → (x : At) → slice_get a.f.lines a.at ≡ Some x → (f : RunFault) (r : Result Stage Halt) → FailsSo s x f r → FailsSo s (at_of s.unit t) f r
breaks_there s t type a x is f r h = subst (λ y. FailsSo s y f r) (sym (line_is s.unit t type a x is)) h

-- no memory
pub err_is : (P : Result Stage Halt → Type 0) → (r : Result Stage Halt) → (e : Halt) → IsErrAnd r (λ x. x ≡ e) → P (Err e) → P r
err_is P (Ok g) e is h = absurd is
err_is P (Err x) e is h = subst (λ z. P (Err z)) (sym is) h

pub halts_here : (s s' : Parts) (k : ℕ) (t : Thread) (p : Point) (log : Log) → FromRow s k t p log log s' (Err halt.NoMemory)
halts_here s s' k t p log = λ cpus budget used m row. Halts.halts_at (before_row s cpus budget used k m []) tt Leads.here

pub halts_so : (s s' : Parts) (k : ℕ) (t : Thread) (p : Point) (log : Log) (r : Result Stage Halt) → IsErrAnd r (λ x. x ≡ halt.NoMemory) → FromRow s k t p log log s' r
halts_so s s' k t p log r is = err_is (λ z. FromRow s k t p log log s' z) r halt.NoMemory is (halts_here s s' k t p log)

-- at its row the thread asks this
abbrev pub AsksAt : Parts → ℕ → Thread → Point → Ask → Type 0
AsksAt s k t p a =
    IsPlain a × ((cpus budget used : ℕ) (m : sim.Parts) → row_step s.unit m ≡ left s.unit p t.globals (stack t.frames)
    → (f : Reply → State) × (next s cpus budget used (before_row s cpus budget used k m []) ≡ stages.asking (before_row s cpus budget used k m []) a f))

module _ (s s' : Parts) (k : ℕ) (t : Thread) (p : Point) (a : Ask) (asks : AsksAt s k t p a) (before after : Log) where
  pub ask_faulted : Answered before after a reply.Fault → s' ≡ s → FromRow s k t p before after s' (Ok stage.Faulted)
  ask_faulted answered same = λ cpus budget used m row.
      let x = asks.1 cpus budget used m row in
      faults_to s cpus budget used (before_row s cpus budget used k m []) before after a x.0 s' x.1 asks.0 answered (ap (λ (z : Parts). z.unit) same)

  pub ask_halts : FoundNoRoom before after a → (r : Result Stage Halt) → IsErrAnd r (λ x. x ≡ halt.NoMemory) → FromRow s k t p before after s' r
  ask_halts found r is = err_is (λ z. FromRow s k t p before after s' z) r halt.NoMemory is
      (λ cpus budget used m row.
      let x = asks.1 cpus budget used m row in
      no_room s cpus budget (before_row s cpus budget used k m []) tt before after a (λ q. stages.unless_fault (before_row s cpus budget used k m []) q (x.0 q)) (x.1, nothing_saved s.unit a (λ q. stages.unless_fault (before_row s cpus budget used k m []) q (x.0 q)) asks.0) found)

-- the outside is asked this as it is, and it is no save
abbrev pub IsContact : CodeUnit → Thread → Ask → Type 0
IsContact u t a = (request_of u t.globals (stack t.frames) (point.Asks a) ≡ Contacts a) × IsPlain a

module _ (s : Parts) (k : ℕ) (t : Thread) (a : Ask) (out : IsOut s k (point.Asks a) t) where
  module _ (contact : IsContact s.unit t a) where
    contact_next : (cpus budget used : ℕ) (m : sim.Parts) → row_step s.unit m ≡ left s.unit (point.Asks a) t.globals (stack t.frames)
        → next s cpus budget used (before_row s cpus budget used k m []) ≡ stages.asking (before_row s cpus budget used k m []) a (λ r. turns.given s.unit.files (is_point a) k (before_row s cpus budget used k m []) (at_of s.unit t) (go s k t out.place out.ready) (values_given a r))
    contact_next cpus budget used m row =
        row_next s cpus budget used k out.place.old out.place.there m [] (Needs (at_of s.unit t) (Contacts a) (go s k t out.place out.ready))
        (row ∙ ap (λ q. Needs (at_of s.unit t) q (go s k t out.place out.ready)) contact.0)

    pub contact_asks : AsksAt s k t (point.Asks a) a
    contact_asks = (
      contact.1,
      λ cpus budget used m row.
          ((λ r. turns.given s.unit.files (is_point a) k (before_row s cpus budget used k m []) (at_of s.unit t) (go s k t out.place out.ready) (values_given a r)), contact_next cpus budget used m row),
    )

    -- what its reply gives
    pub contact_gives : (s' : Parts) (before after : Log) (r : Reply) (res : Result Stage Halt) → Answered before after a r → is_fault r ≡ false → Gives s k t (stage_behind (is_point a) k) s' res (values_given a r) → FromRow s k t (point.Asks a) before after s' res
    contact_gives s' before after r res answered fine gives = λ cpus budget used m row.
        asks_to s cpus budget used (before_row s cpus budget used k m []) before after a _ r s' res (contact_next cpus budget used m row) contact.1 answered fine
        (comes_given s k t out.place out.ready cpus budget used m [] (is_point a) s' res (values_given a r) gives)

module _ (s : Parts) (k : ℕ) (t : Thread) (path : List ℕ) (out : IsOut s k (point.Asks (ask.Stamp path)) t) where
  inspect_next : (cpus budget used : ℕ) (m : sim.Parts) → row_step s.unit m ≡ left s.unit (point.Asks (ask.Stamp path)) t.globals (stack t.frames)
      → next s cpus budget used (before_row s cpus budget used k m [])
      ≡ stages.asking (before_row s cpus budget used k m []) (ask.Stamp path)
      (λ r. becomes k (Ready (go s k t out.place out.ready (answer_to (question_at (code_behind s.unit (stack t.frames))) (stamp_in r) ∷ []))) (turn_of k []) (before_row s cpus budget used k m []))
  inspect_next cpus budget used m row =
      row_next s cpus budget used k out.place.old out.place.there m [] (Needs (at_of s.unit t) (Inspects (question_at (code_behind s.unit (stack t.frames))) path) (go s k t out.place out.ready)) row

  pub inspect_asks : AsksAt s k t (point.Asks (ask.Stamp path)) (ask.Stamp path)
  inspect_asks = (tt, λ cpus budget used m row. (_, inspect_next cpus budget used m row))

  pub inspect_gives : (s' : Parts) (before after : Log) (r : Reply) (res : Result Stage Halt) → Answered before after (ask.Stamp path) r → is_fault r ≡ false
      → GoesBack k (Some (answer_to (question_at (code_behind s.unit (stack t.frames))) (stamp_in r))) t s s' (stage.Turn k) res → FromRow s k t (point.Asks (ask.Stamp path)) before after s' res
  inspect_gives s' before after r res answered fine gives = λ cpus budget used m row.
      asks_to s cpus budget used (before_row s cpus budget used k m []) before after (ask.Stamp path) _ r s' res (inspect_next cpus budget used m row) tt answered fine
      (comes_back s k t out.place out.ready cpus budget used m [] (Some (answer_to (question_at (code_behind s.unit (stack t.frames))) (stamp_in r))) (stage.Turn k) s' res tt gives)

  -- the question is that of the instruction behind which the thread stands
  pub question_is : (type : Ty) → (a : AwaitsAnswer s.unit t type) → (i : Instr) → a.instruction ≡ i → question_at (code_behind s.unit (stack t.frames)) ≡ question_at (Some i)
  question_is type a i is =
      let e : a.at + 1 - 1 ≡ a.at = omega arith in
      ap question_at
      (ap (λ o. o >>= λ at. slice_get s.unit.functions at.0 >>= λ f. slice_get f.code (at.1 - 1)) a.stands
      ∙ ap (λ o. o >>= λ f. slice_get f.code (a.at + 1 - 1)) a.there
      ∙ ap (λ n. slice_get a.f.code n) e ∙ a.code ∙ ap (λ x. Some x) is)

-- Asks that give nothing

module _ (u : CodeUnit) (t : Thread) where
  pub nothing_request : (a : Ask) → TellsNothing a → IsContact u t a
  nothing_request (ask.Write path text) h = (refl, tt)
  nothing_request (ask.Remove path) h = (refl, tt)
  nothing_request (ask.Out text) h = (refl, tt)
  nothing_request (ask.Read path) h = absurd h
  nothing_request (ask.Stamp path) h = absurd h
  nothing_request (ask.Err text) h = absurd h
  nothing_request (ask.Sys command) h = absurd h
  nothing_request (ask.Start n attempt command) h = absurd h
  nothing_request (ask.Next ready running) h = absurd h
  nothing_request (ask.Save path image) h = absurd h

module _ (s s' : Parts) (k : ℕ) (t : Thread) (res : Result Stage Halt) where
  pub nothing_gives : (a : Ask) → TellsNothing a → (r : Reply) → GoesBack k None t s s' (stage.Turn k) res → Gives s k t (stage_behind (is_point a) k) s' res (values_given a r)
  nothing_gives (ask.Write path text) h r b = b
  nothing_gives (ask.Remove path) h r b = b
  nothing_gives (ask.Out text) h r b = b
  nothing_gives (ask.Read path) h r b = absurd h
  nothing_gives (ask.Stamp path) h r b = absurd h
  nothing_gives (ask.Err text) h r b = absurd h
  nothing_gives (ask.Sys command) h r b = absurd h
  nothing_gives (ask.Start n attempt command) h r b = absurd h
  nothing_gives (ask.Next ready running) h r b = absurd h
  nothing_gives (ask.Save path image) h r b = absurd h

  -- a command that went well, and one that did not
  pub command_well : (code : ℕ) (text : List ℕ) → code ≡ 0 → Gives s k t stage.Point s' res (text_given text) → Gives s k t stage.Point s' res (command_given code text)
  command_well code text e h = subst (λ n. Gives s k t stage.Point s' res (command_given n text)) (sym e) h

  pub command_ill : (code : ℕ) (text : List ℕ) → (code ≡ 0 → ⊥) → Breaks s t (run.SysFailed code) s' res → Gives s k t stage.Point s' res (command_given code text)
  command_ill code text e h = by (nat_eq code 0) refl
    where
      by : (b : Bool) → nat_eq code 0 ≡ b → Gives s k t stage.Point s' res (command_given code text)
      by true q = absurd (e (eqb-true code 0 q))
      by false q = subst (λ b. Gives s k t stage.Point s' res (cond b (text_given text) (Err (run.SysFailed code)))) (sym q) h

-- the same behind tables that changed
pub out_tasks : (s : Parts) (k : ℕ) (p : Point) (t : Thread) (ts : List Task) → IsOut s k p t → IsOut (with_tasks ts s) k p t
out_tasks s k p t ts out = record { place = record { old = out.place.old; there = out.place.there; parent = out.place.parent }; ready = out.ready; left = out.left }

pub out_rules : (s : Parts) (k : ℕ) (p : Point) (t : Thread) (rs : List Rule) → IsOut s k p t → IsOut (with_rules rs s) k p t
out_rules s k p t rs out = record { place = record { old = out.place.old; there = out.place.there; parent = out.place.parent }; ready = out.ready; left = out.left }

pub breaks_same : (s new : Parts) (t : Thread) (f : RunFault) (r : Result Stage Halt) → new ≡ s → FailsSo new (at_of new.unit t) f r → Breaks s t f new r
breaks_same s new t f r e h = (e, subst (λ (x : Parts). FailsSo x (at_of x.unit t) f r) e h)

-- an ask of the machine that is none of those with a value
pub tells_nothing : (a : Ask) → AskFits a → ((x : List ℕ) → a ≡ ask.Read x → ⊥) → ((x : List ℕ) → a ≡ ask.Stamp x → ⊥) → ((x : List ℕ) → a ≡ ask.Sys x → ⊥) → TellsNothing a
tells_nothing (ask.Read path) fits r s c = absurd (r path refl)
tells_nothing (ask.Stamp path) fits r s c = absurd (s path refl)
tells_nothing (ask.Sys command) fits r s c = absurd (c command refl)
tells_nothing (ask.Write path text) fits r s c = tt
tells_nothing (ask.Remove path) fits r s c = tt
tells_nothing (ask.Out text) fits r s c = tt
tells_nothing (ask.Err text) fits r s c = absurd fits
tells_nothing (ask.Start n attempt command) fits r s c = absurd fits
tells_nothing (ask.Next ready running) fits r s c = absurd fits
tells_nothing (ask.Save path image) fits r s c = absurd fits

pub halts_stamps : (s s' : Parts) (k : ℕ) (t : Thread) (p : Point) (stamps : List Stamp) → FromStamps s k t p stamps s' (Err halt.NoMemory)
halts_stamps s s' k t p stamps = λ log cpus budget used m row. Halts.halts_at (before_row s cpus budget used k m stamps) tt Leads.here
