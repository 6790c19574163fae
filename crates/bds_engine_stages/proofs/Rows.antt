-- The turn of a thread that was taken out of the state: where it stands before the row at which it left the machine, and behind an answer.
use Rattle.std.proofs.Common.{◌≡◌, ℕ, zero, suc, ◌+◌, ◌<◌, Bool, true, false, List, [], ◌∷◌, map, Option, Some, None, slice_get, slice_set, refl, sym, ap, ◌∙◌, subst, arith}
use Rattle.std.specs.Prelude.{nat_eq, unwrap_or, if◌then◌else◌}
use Rattle.bds_value.specs.declared.value.At.{At}
use Rattle.bds_value.specs.declared.value.Stamp.{Stamp}
use Rattle.bds_value.specs.declared.value.Value.{Value}
use Rattle.bds_value.specs.declared.faults.RunFault.{RunFault}
use Rattle.bds_host.specs.declared.faults.Fault.TheVariants as fault
use Rattle.bds_host.specs.Host.{Log}
use Rattle.bds_code_frames.specs.declared.thread.Thread.{Thread}
use Rattle.bds_code_frames.specs.Stack.{Stack}
use Rattle.bds_machine.specs.Calls.{received}
use Rattle.bds_schedule.specs.Configuration.{Life, Ready, Mode, at_point, turn_of, stopping, failed, exited, in_mode, lives, with_life_from, becomes}
use Rattle.bds_schedule.specs.Configuration as meaning
use Rattle.bds_schedule.specs.Moves.{move}
use Rattle.bds_schedule.specs.Requests.{ThreadAct, Stops, Quits}
use Rattle.bds_schedule.specs.Stages.{End, fails}
use Rattle.bds_schedule.specs.Steps.{Step, Goes, Leads}
use Rattle.bds_schedule.specs.Turns.{taken, turn_at}
use Rattle.bds_sim.proofs.schedule.Threads.{at_life, twice}
use Rattle.bds_sim.specs.Threads.{given}
use Rattle.bds_sim.specs.Threads.{answered}
use Rattle.bds_sim.specs.Threads as sim
use Rattle.bds_rank.specs.Machine.{LeadsOn}
use Rattle.bds_sim.specs.MachineRun.{State}
use Rattle.bds_sim.specs.Row.{row_step}
use Rattle.bds_state.specs.Keeping.{with_thread}
use Rattle.bds_state.specs.Parts.{Parts}
use Rattle.bds_engine_parts.specs.Image.{image}
use Rattle.bds_engine_parts.specs.Seen.{life_seen, thread_seen, seen}
use Rattle.bds_engine_stages.specs.declared.stage.Stage.{Stage}
use Rattle.bds_engine_stages.specs.declared.stage.Stage.TheVariants as stage
use Rattle.bds_engine_stages.specs.declared.stage.Cause.TheVariants as cause
use Rattle.bds_engine_stages.specs.Held.{before_row}
use Rattle.bds_engine_stages.specs.Steps.{IsAt, Leads_to, with_threads}

same_number : (n m : ℕ) → n ≡ m → nat_eq n m ≡ true
same_number n m e = Rattle.std.proofs.lemmas.Bool.eq-eqb n m e

other_number : (n m : ℕ) → n < m → nat_eq n m ≡ false
other_number n m h = by (nat_eq n m) refl
  where
    by : (b : Bool) → nat_eq n m ≡ b → nat_eq n m ≡ false
    by false e = e
    by true e = absurd (let q : n ≡ m = Rattle.std.proofs.lemmas.Bool.eqb-true n m e in omega (arith, q, h))

earlier_number : (n k : ℕ) → k < n → nat_eq n k ≡ false
earlier_number n k h = by (nat_eq n k) refl
  where
    by : (b : Bool) → nat_eq n k ≡ b → nat_eq n k ≡ false
    by false e = e
    by true e = absurd (let q : n ≡ k = Rattle.std.proofs.lemmas.Bool.eqb-true n k e in omega (arith, q, h))

past : (n k : ℕ) (x : Life sim.Parts) (ts : List (meaning.Thread sim.Parts)) → k < n → with_life_from n k x ts ≡ ts
past n k x [] h = refl
past n k x (t ∷ ts) h = ap (λ b. (if b then lives x t else t) ∷ with_life_from (n + 1) k x ts) (earlier_number n k h) ∙ ap (λ us. t ∷ us) (past (n + 1) k x ts (omega (arith, h)))

-- a thread in the place of another of the same maker
set_from : (n i k : ℕ) (ts : List Thread) (t old : Thread) → k ≡ n + i → slice_get ts i ≡ Some old → t.parent ≡ old.parent → map thread_seen (slice_set ts i t) ≡ with_life_from n k (life_seen t.status t) (map thread_seen ts)
set_from n i k [] t old e is p = absurd (cc is)
set_from n zero k (x ∷ xs) t old e is p =
    let same : x ≡ old = cc is in
    ap (λ q. record { parent = q; life = life_seen t.status t } ∷ map thread_seen xs) (p ∙ ap (λ (y : Thread). y.parent) (sym same))
    ∙ ap (λ b. (if b then lives (life_seen t.status t) (thread_seen x) else thread_seen x) ∷ map thread_seen xs) (sym (same_number n k (omega (arith, e))))
    ∙ ap (λ ys. (if nat_eq n k then lives (life_seen t.status t) (thread_seen x) else thread_seen x) ∷ ys) (sym (past (n + 1) k (life_seen t.status t) (map thread_seen xs) (omega (arith, e))))
set_from n (suc i) k (x ∷ xs) t old e is p =
    ap (λ ys. thread_seen x ∷ ys) (set_from (n + 1) i k xs t old (omega (arith, e)) is p)
    ∙ ap (λ b. (if b then lives (life_seen t.status t) (thread_seen x) else thread_seen x) ∷ with_life_from (n + 1) k (life_seen t.status t) (map thread_seen xs)) (sym (other_number n k (omega (arith, e))))

pub set_seen : (k : ℕ) (ts : List Thread) (t old : Thread) → slice_get ts k ≡ Some old → t.parent ≡ old.parent → map thread_seen (slice_set ts k t) ≡ with_life_from 0 k (life_seen t.status t) (map thread_seen ts)
set_seen k ts t old is p = set_from 0 k k ts t old (omega arith) is p

pub map_at : (i : ℕ) (ts : List Thread) (t : Thread) → slice_get ts i ≡ Some t → slice_get (map thread_seen ts) i ≡ Some (thread_seen t)
map_at i [] t is = absurd (cc is)
map_at zero (x ∷ xs) t is = ap (λ y. Some (thread_seen y)) (let q : x ≡ t = cc is in q)
map_at (suc i) (x ∷ xs) t is = map_at i xs t is

module _ (s : Parts) (cpus budget used k : ℕ) (old : Thread) (there : slice_get s.threads k ≡ Some old) (m : sim.Parts) where
  abbrev pub next : State → Step State End
  next d = move s.unit.files (image s.unit) (row_step s.unit) d

  abbrev pub here_at : List Stamp → State
  here_at stamps = before_row s cpus budget used k m stamps

  pub row_next : (stamps : List Stamp) (act : ThreadAct sim.Parts) → row_step s.unit m ≡ act → next (here_at stamps) ≡ taken s.unit.files (image s.unit) (row_step s.unit) k stamps (here_at stamps) act
  row_next stamps act e =
      ap (turn_at s.unit.files (image s.unit) (row_step s.unit) k stamps (here_at stamps)) (at_life k (Ready m) old.parent (life_seen old.status old) (map thread_seen s.threads) (map_at k s.threads old there))
      ∙ ap (taken s.unit.files (image s.unit) (row_step s.unit) k stamps (here_at stamps)) e

  -- the thread behind what it was given, in its place again
  pub put_back : (t : Thread) (x : Life sim.Parts) (mode : Mode) (stamps : List Stamp) → t.parent ≡ old.parent → life_seen t.status t ≡ x → becomes k x mode (here_at stamps) ≡ seen (with_thread k t s) cpus budget used mode
  put_back t x mode stamps p e =
      ap (λ ts. with_threads ts (seen s cpus budget used mode))
      (twice 0 k (Ready m) x (map thread_seen s.threads) ∙ ap (λ l. with_life_from 0 k l (map thread_seen s.threads)) (sym e) ∙ sym (set_seen k s.threads t old there p))

  -- a step that needs no ask
  pub goes_to : (stamps : List Stamp) (d' : State) (s' : Parts) (g : Stage) (log : Log) → s'.unit ≡ s.unit → next (here_at stamps) ≡ Goes d' → IsAt s' cpus budget used g d' → Leads_to s cpus budget (here_at stamps) log log s' used g
  goes_to stamps d' s' g log same e is = record { unit = same; d' = d'; is = is; leads = LeadsOn.goes (here_at stamps) d' log Leads.here (e, tt) }

  -- the run stops by a fault at a node
  pub fails_at : (stamps : List Stamp) (at : At) (f : RunFault) (path : List ℕ) → path ≡ unwrap_or (slice_get s.unit.files at.file) s.path
      → IsAt s cpus budget used (stage.Stopping (cause.Failed (fault.Run path at.line f))) (fails s.unit.files (here_at stamps) at f)
  fails_at stamps at f path e =
      subst (λ p. IsAt s cpus budget used (stage.Stopping (cause.Failed (fault.Run path at.line f))) (in_mode (stopping (failed (fault.Run p at.line f))) (here_at stamps))) e
      (IsAt.bare (cause.Failed (fault.Run path at.line f)) (with_life_from 0 k (Ready m) (map thread_seen s.threads)) tt)

  pub quits : (status : ℕ) (log : Log) → row_step s.unit m ≡ Quits status → Leads_to s cpus budget (here_at []) log log s used (stage.Stopping (cause.Exited status))
  quits status log e =
      goes_to [] (in_mode (stopping (exited status)) (here_at [])) s (stage.Stopping (cause.Exited status)) log refl (row_next [] (Quits status) e)
      (IsAt.bare (cause.Exited status) (with_life_from 0 k (Ready m) (map thread_seen s.threads)) tt)

  pub stops : (at : At) (f : RunFault) (path : List ℕ) (log : Log) → path ≡ unwrap_or (slice_get s.unit.files at.file) s.path → row_step s.unit m ≡ Stops at f
      → Leads_to s cpus budget (here_at []) log log s used (stage.Stopping (cause.Failed (fault.Run path at.line f)))
  stops at f path log p e = goes_to [] (fails s.unit.files (here_at []) at f) s (stage.Stopping (cause.Failed (fault.Run path at.line f))) log refl (row_next [] (Stops at f) e) (fails_at [] at f path p)

-- a thread behind an answer has what the meaning's goes on with
pub given_is : (g : List Value) (before after : Stack) (v : Option Value) → received v before ≡ Some after → unwrap_or (answered (given v) before) before ≡ after
given_is g before after None e = let q : before ≡ after = cc e in q
given_is g before after (Some v) e = ap (λ o. unwrap_or o before) e
