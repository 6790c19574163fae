-- A valid thread has a step, which leaves a valid thread with less to run.
use Rattle.std.proofs.Common.{◌≡◌, ◌≢◌, ℕ, List, [], ◌∷◌, reverse, slice_get, get_or, true, false, Some, None, refl, ap, ◌∙◌}
use Rattle.std.proofs.lemmas.Option.{slice_get-get_or}
use Rattle.bds_value.specs.declared.value.Ty.{Ty}
use Rattle.bds_value.specs.declared.value.Ty.TheVariants as ty
use Rattle.bds_value.specs.declared.value.Value.{Value}
use Rattle.bds_value.specs.Options.{◌>>=◌}
use Rattle.bds_host.specs.declared.asks.Ask.TheVariants as ask
use Rattle.bds_code.specs.declared.instr.Instr.{Instr}
use Rattle.bds_code.specs.declared.instr.Instr.TheVariants.{Jump, JumpUnless, Tick, Call as CallTo, Return, FileRead, FileWrite, FileRemove, FileStamp, Out, Stop, Exit, Sys, OutOfDate, NewTask, Declare, Goal, Spawn, Wait, WaitAll, Save, SaveHere}
use Rattle.bds_code.specs.declared.unit.Unit.{Unit as CodeUnit}
use Rattle.bds_code.specs.Row.{task_parts}
use Rattle.bds_code_frames.specs.Stack.{Call, Stack}
use Rattle.bds_verify.specs.Pass.{is_tick}
use Rattle.bds_verify.specs.Threads.{AreLive}
use Rattle.bds_verify.specs.Verified.{IsFine, VerifiedUnit, goes_on}
use Rattle.bds_machine.specs.declared.point.Point.TheVariants as point
use Rattle.bds_machine.specs.Calls.{Step}
use Rattle.bds_machine_values.specs.Worked.{changed}
use Rattle.bds_machine.specs.Table.{changes, row, step}
use Rattle.bds_machine.specs.Tasks.{task_of, rule_of}
use Rattle.bds_machine.proofs.Asked.{asks_nothing, asks_text, asks_texts, asks_write, asks_compared, asks_spawn, asks_work}
use Rattle.bds_machine.proofs.Called.{call_row}
use Rattle.bds_machine.proofs.ChangedFits.{changed_fits}
use Rattle.bds_machine.proofs.Effects.{returned-ok, called-ok, asked-ok}
use Rattle.bds_machine.proofs.Ends.{next_call, behind_typed, exits_well, fails_well}
use Rattle.bds_machine.proofs.Fits.{goes_on as changes_on}
use Rattle.bds_machine.proofs.Jumps.{effect, onward_well, jump_row, unless_row, tick_row}
use Rattle.bds_machine.proofs.Leaving.{asks_well}
use Rattle.bds_machine.proofs.Moves.{Newest, newest, Goes, Well}
use Rattle.bds_machine.proofs.Returns.{returns_well}
use Rattle.bds_machine.proofs.Wholes.{instr-whole}

module _ (u : CodeUnit) (v : VerifiedUnit u) (g : List Value) (c : Call) (below : Stack) (t : ℕ) (n : Newest u g c below) where
  abbrev shape : List Ty
  shape = reverse (n.shapes c.function c.place)

  abbrev d : Call
  d = next_call u g c below t n

  changes_row : (i : Instr) (next : List Ty) → slice_get n.f.code c.place ≡ Some i → IsFine u n.f (n.shapes c.function) c.place i next → goes_on i ≡ true → is_tick (Some i) ≡ false → changes_on i ≡ true
      → Goes u c below t (changes n.f i c.place g (d ∷ below) t)
  changes_row i next at fine on other change =
      onward_well u g c below t n i next at fine (changed i g (d ∷ below)) on other
      (changed_fits u n.f i shape (reverse next) g d below (instr-whole u n.f c.place i n.whole at) change (effect u g c below t n i next at fine) (behind_typed u g c below t n shape refl) n.globals_typed)

  row_well : (i : Instr) (next : List Ty) → slice_get n.f.code c.place ≡ Some i → IsFine u n.f (n.shapes c.function) c.place i next → Goes u c below t (row u n.f i c.place g (c ∷ below) t)
  row_well (Jump to) next at fine = jump_row u g c below t n to next at fine
  row_well (JumpUnless to) next at fine = unless_row u g c below t n to next at fine
  row_well Tick next at fine = tick_row u g c below t n next at fine
  row_well (CallTo k) next at fine = call_row u g c below t n v k next at fine
  row_well Return next at fine = returns_well u g c below t n (returned-ok n.f.ret shape (reverse next) (effect u g c below t n Return next at fine))
  row_well Stop next at fine = fails_well u g c below t n (reverse next) (effect u g c below t n Stop next at fine)
  row_well Exit next at fine = exits_well u g c below t n (reverse next) (effect u g c below t n Exit next at fine)
  row_well FileRead next at fine =
      asks_well u g c below t n FileRead next at fine ty.Text refl refl (ty.Text ∷ []) (effect u g c below t n FileRead next at fine)
      (λ rest. asks_text n.f rest d below (λ path. point.Asks (ask.Read path)) (λ x. refl))
  row_well FileWrite next at fine =
      asks_well u g c below t n FileWrite next at fine ty.Void refl refl (ty.Text ∷ ty.Text ∷ []) (effect u g c below t n FileWrite next at fine)
      (λ rest. asks_write n.f rest d below)
  row_well FileRemove next at fine =
      asks_well u g c below t n FileRemove next at fine ty.Void refl refl (ty.Text ∷ []) (effect u g c below t n FileRemove next at fine)
      (λ rest. asks_text n.f rest d below (λ path. point.Asks (ask.Remove path)) (λ x. refl))
  row_well (FileStamp q) next at fine =
      let e = asked-ok q shape (reverse next) (effect u g c below t n (FileStamp q) next at fine) in
      asks_well u g c below t n (FileStamp q) next at fine e.0 e.1 refl (ty.Text ∷ []) e.2
      (λ rest. asks_text n.f rest d below (λ path. point.Asks (ask.Stamp path)) (λ x. refl))
  row_well Out next at fine =
      asks_well u g c below t n Out next at fine ty.Void refl refl (ty.Text ∷ []) (effect u g c below t n Out next at fine)
      (λ rest. asks_text n.f rest d below (λ text. point.Asks (ask.Out text)) (λ x. refl))
  row_well Sys next at fine =
      asks_well u g c below t n Sys next at fine ty.Text refl refl (ty.Text ∷ []) (effect u g c below t n Sys next at fine)
      (λ rest. asks_text n.f rest d below (λ command. point.Asks (ask.Sys command)) (λ x. refl))
  row_well OutOfDate next at fine =
      asks_well u g c below t n OutOfDate next at fine ty.Bool refl refl (ty.List ty.Text ∷ ty.List ty.Text ∷ []) (effect u g c below t n OutOfDate next at fine)
      (λ rest. asks_compared n.f rest d below)
  row_well NewTask next at fine =
      asks_well u g c below t n NewTask next at fine ty.Text refl refl task_parts (effect u g c below t n NewTask next at fine)
      (λ rest. asks_work n.f rest d below (λ w cpus retry. point.Task (task_of w cpus retry)) (λ w cpus retry. refl))
  row_well Declare next at fine =
      asks_well u g c below t n Declare next at fine ty.Void refl refl task_parts (effect u g c below t n Declare next at fine)
      (λ rest. asks_work n.f rest d below (λ w cpus retry. point.Declare (rule_of w cpus retry)) (λ w cpus retry. refl))
  row_well Goal next at fine =
      asks_well u g c below t n Goal next at fine (ty.List ty.Text) refl refl (ty.List ty.Text ∷ []) (effect u g c below t n Goal next at fine)
      (λ rest. asks_texts n.f rest d below point.Goal (λ x. refl))
  row_well (Spawn k) next at fine =
      let e = called-ok u k (λ callee. ty.Text) shape (reverse next) (effect u g c below t n (Spawn k) next at fine) in
      asks_well u g c below t n (Spawn k) next at fine ty.Text refl refl (reverse e.0.params) e.2
      (λ rest. asks_spawn n.f rest d below u k e.0 e.1)
  row_well Wait next at fine =
      asks_well u g c below t n Wait next at fine ty.Void refl refl (ty.List ty.Text ∷ []) (effect u g c below t n Wait next at fine)
      (λ rest. asks_texts n.f rest d below point.Wait (λ x. refl))
  row_well WaitAll next at fine =
      asks_well u g c below t n WaitAll next at fine ty.Void refl refl [] (effect u g c below t n WaitAll next at fine)
      (λ rest. asks_nothing n.f rest d below point.WaitAll refl)
  row_well Save next at fine =
      asks_well u g c below t n Save next at fine ty.Void refl refl (ty.Text ∷ []) (effect u g c below t n Save next at fine)
      (λ rest. asks_text n.f rest d below (λ path. point.Save (Some path)) (λ x. refl))
  row_well SaveHere next at fine =
      asks_well u g c below t n SaveHere next at fine ty.Void refl refl [] (effect u g c below t n SaveHere next at fine)
      (λ rest. asks_nothing n.f rest d below (point.Save None) refl)
  row_well i next at fine = changes_row i next at fine refl refl refl

  newest_row : Goes u c below t (step u g (c ∷ below) t)
  unfolding step
  newest_row =
      let i = get_or n.f.code c.place Tick in
      let at : slice_get n.f.code c.place ≡ Some i = slice_get-get_or n.f.code c.place Tick n.within in
      let fine = n.good.each c.place i at in
      let r = row_well i fine.0 at fine.1 in (
        r.0,
        ap (λ o. o >>= λ f. slice_get f.code c.place >>= λ i. row u f i c.place g (c ∷ below) t) n.there
            ∙ ap (λ o. o >>= λ i. row u n.f i c.place g (c ∷ below) t) at ∙ r.1,
        r.2,
      )

pub next_row : (u : CodeUnit) (g : List Value) (s : Stack) (t : ℕ) → VerifiedUnit u → AreLive u g s → s ≢ [] → (x : Step) × (step u g s t ≡ Some x) × Well u s t x
next_row u g [] t v h some = absurd (some refl)
next_row u g (c ∷ below) t v h some = newest_row u v g c below t (newest u g c below v h)
