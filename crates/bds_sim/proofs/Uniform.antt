-- Rows do the same whatever ticks are left, but for the tick; so what one call runs are steps of the run.
use Rattle.std.proofs.Common.{◌≡◌, ℕ, zero, suc, ◌+◌, ◌-◌, Bool, true, false, List, [], ◌∷◌, Option, Some, None, IsSome, Ok, Err, slice_get, refl, sym, ap, ◌∙◌, subst, arith}
use Rattle.std.specs.Prelude.{ℤ, cond, nat_eq, nat_lt, length, ⊤}
use Rattle.bds_value.specs.declared.value.At.{At}
use Rattle.bds_value.specs.declared.value.Value.{Value}
use Rattle.bds_value.specs.declared.faults.RunFault.{RunFault}
use Rattle.bds_value.specs.declared.faults.RunFault.TheVariants.{Error, CallsTooDeep}
use Rattle.bds_code.specs.declared.instr.Instr.{Instr}
use Rattle.bds_code.specs.declared.instr.Instr.TheVariants as instr
use Rattle.bds_code.specs.declared.unit.Function.{Function}
use Rattle.bds_code.specs.declared.unit.Unit.{Unit as CodeUnit}
use Rattle.bds_code_frames.specs.Stack.{Stack, place_of, moved, closed}
use Rattle.bds_value.specs.declared.TheConstants.{MAX_CALLS}
use Rattle.bds_machine.specs.declared.point.Point.{Point}
use Rattle.bds_machine.specs.declared.point.Point.TheVariants as point
use Rattle.bds_machine.specs.Calls.{Step, On, Leaves, Ends, goes, stops, ticks, branches, enters, received, back, result_taken}
use Rattle.bds_host.specs.declared.asks.Ask.TheVariants as ask
use Rattle.bds_machine_values.specs.Faults.{Outcome, and_then}
use Rattle.bds_machine.specs.Tasks.{Work, work_taken, in_ranges, processors, retries}
use Rattle.bds_value.specs.Options.{◌>>=◌}
use Rattle.bds_value.specs.Readers.{as_bool, as_int, as_text, as_texts}
use Rattle.bds_machine_values.specs.Operands.{taken_as, taken_all}
use Rattle.bds_machine.specs.Points.{leaves as waits_at, with_text, with_texts, with_work, written, compared, spawned, asked}
use Rattle.bds_machine.specs.Running.{rows, further}
use Rattle.bds_machine_values.specs.Worked.{changed}
use Rattle.bds_machine.specs.Table.{step, row, behind, onward}
use Rattle.bds_value.specs.Statuses.{status_of}
use Rattle.bds_sim.specs.Threads.{Parts}
use Rattle.bds_sim.specs.Threads.{Live}
use Rattle.bds_sim.specs.schedule.Agree.{Walks, IsTick}
use Rattle.bds_sim.proofs.Valid.{Keeps}
use Rattle.bds_sim.specs.Row.{outcome_of, row_step}
use Rattle.bds_sim.specs.Turns.{HasLeft, IsWaiting}

-- the same whatever ticks are left
data Plainly (f : ℕ → Option Step) : Type 0 where
  never : ((t : ℕ) → f t ≡ None) → Plainly f
  on : (g : List Value) (s : Stack) → ((t : ℕ) → f t ≡ Some (On g s t)) → Plainly f
  leaves : (p : Point) (g : List Value) (s : Stack) → IsWaiting p → ((t : ℕ) → f t ≡ Some (Leaves p g s t)) → Plainly f
  ends : (p : Point) → ((t : ℕ) → f t ≡ Some (Ends p t)) → Plainly f

-- or a tick is counted, where one is left
data StepKind (g : List Value) (s : Stack) (f : ℕ → Option Step) : Type 0 where
  plain : Plainly f → StepKind g s f
  tick : (g' : List Value) (s' : Stack) → f 0 ≡ Some (Leaves point.Spent g s 0) → ((t : ℕ) → f (suc t) ≡ Some (On g' s' t)) → StepKind g s f
  stuck : f 1 ≡ None → StepKind g s f

stops_at : (e : RunFault) (o : Option At) → Plainly (λ t. o >>= λ at. Some (Ends (point.Stop e at) t))
stops_at e None = Plainly.never (λ t. refl)
stops_at e (Some at) = Plainly.ends (point.Stop e at) (λ t. refl)

goes_at : (g : List Value) (k : Option Stack) → Plainly (λ t. k >>= goes g t)
goes_at g None = Plainly.never (λ t. refl)
goes_at g (Some s) = Plainly.on g s (λ t. refl)

changes_at : (f : Function) (p : ℕ) (o : Outcome (List Value × Stack)) → Plainly (λ t. onward f p o t (λ x. On x.0 x.1 t))
changes_at f p None = Plainly.never (λ t. refl)
changes_at f p (Some (Ok x)) = Plainly.on x.0 x.1 (λ t. refl)
changes_at f p (Some (Err e)) = stops_at e (slice_get f.lines p)

-- the points of rows that ask
abbrev Waits : Outcome (Point × Stack) → Type 0
Waits (Some (Ok x)) = IsWaiting x.0
Waits _ = ⊤

by_value : {X : Type 0} (o : Option (X × Stack)) (makes : X → Stack → Outcome (Point × Stack)) → ((x : X) (s : Stack) → Waits (makes x s)) → Waits (o >>= λ r. makes r.0 r.1)
by_value None makes h = tt
by_value (Some r) makes h = h r.0 r.1

by_number : {X : Type 0} (o : Outcome X) (next : X → Outcome (Point × Stack)) → ((x : X) → Waits (next x)) → Waits (and_then o next)
by_number None next h = tt
by_number (Some (Ok x)) next h = h x
by_number (Some (Err e)) next h = tt

by_range : (makes : ℕ → ℕ → Point) (s : Stack) → ((a b : ℕ) → IsWaiting (makes a b)) → (a : Outcome ℕ) (b : Outcome ℕ) → Waits (and_then (and_then a (λ cpus. and_then b (λ retry. Some (Ok (makes cpus retry))))) (λ p. Some (Ok (p, s))))
by_range makes s h None b = tt
by_range makes s h (Some (Err e)) b = tt
by_range makes s h (Some (Ok cpus)) None = tt
by_range makes s h (Some (Ok cpus)) (Some (Err e)) = tt
by_range makes s h (Some (Ok cpus)) (Some (Ok retry)) = h cpus retry

work_waits : (makes : Work → ℕ → ℕ → Point) (s : Stack) → ((w : Work) (a b : ℕ) → IsWaiting (makes w a b)) → Waits (with_work makes s)
work_waits makes s h = by_value (work_taken s) (λ w s. and_then (in_ranges w (makes w)) (λ p. waits_at p s)) (λ w s. by_range (makes w) s (h w) (processors w.cpus) (retries w.retry))

text_waits : (makes : List ℕ → Point) (s : Stack) → ((t : List ℕ) → IsWaiting (makes t)) → Waits (with_text makes s)
text_waits makes s h = by_value (taken_as as_text s) (λ t s. waits_at (makes t) s) (λ t s. h t)

texts_wait : (makes : List (List ℕ) → Point) (s : Stack) → ((t : List (List ℕ)) → IsWaiting (makes t)) → Waits (with_texts makes s)
texts_wait makes s h = by_value (taken_as as_texts s) (λ t s. waits_at (makes t) s) (λ t s. h t)

written_waits : (s : Stack) → Waits (written s)
written_waits s = by_value (taken_as as_text s) (λ text s. taken_as as_text s >>= λ path. waits_at (point.Asks (ask.Write path.0 text)) path.1) (λ text s. by_value (taken_as as_text s) (λ path s. waits_at (point.Asks (ask.Write path text)) s) (λ path s. tt))

compared_waits : (s : Stack) → Waits (compared s)
compared_waits s = by_value (taken_as as_texts s) (λ ins s. taken_as as_texts s >>= λ outs. waits_at (point.Old outs.0 ins) outs.1) (λ ins s. by_value (taken_as as_texts s) (λ outs s. waits_at (point.Old outs ins) s) (λ outs s. tt))

spawned_waits : (u : CodeUnit) (n : ℕ) (s : Stack) → Waits (spawned u n s)
spawned_waits u n s = go (slice_get u.functions n)
  where
    go : (o : Option Function) → Waits (o >>= λ callee. taken_all (length callee.params) s >>= λ args. waits_at (point.Spawn n args.0) args.1)
    go None = tt
    go (Some callee) = by_value (taken_all (length callee.params) s) (λ args s. waits_at (point.Spawn n args) s) (λ args s. tt)

asks_at : (f : Function) (p : ℕ) (g : List Value) (o : Outcome (Point × Stack)) → Waits o → Plainly (λ t. onward f p o t (λ x. Leaves x.0 g x.1 t))
asks_at f p g None h = Plainly.never (λ t. refl)
asks_at f p g (Some (Ok x)) h = Plainly.leaves x.0 g x.1 h (λ t. refl)
asks_at f p g (Some (Err e)) h = stops_at e (slice_get f.lines p)

branches_at : (b : Bool) (to : ℕ) (g : List Value) (s : Stack) → Plainly (λ t. branches b to g s t)
branches_at true to g s = Plainly.on g s (λ t. refl)
branches_at false to g s = goes_at g (moved to s)

tested_at : (to : ℕ) (g : List Value) (o : Option (Bool × Stack)) → Plainly (λ t. o >>= λ b. branches b.0 to g b.1 t)
tested_at to g None = Plainly.never (λ t. refl)
tested_at to g (Some b) = branches_at b.0 to g b.1

exits_at : (o : Option (ℤ × Stack)) → Plainly (λ t. o >>= λ n. Some (Ends (point.Exit (status_of n.0)) t))
exits_at None = Plainly.never (λ t. refl)
exits_at (Some n) = Plainly.ends (point.Exit (status_of n.0)) (λ t. refl)

fails_at : (f : Function) (p : ℕ) (o : Option (List ℕ × Stack)) → Plainly (λ t. o >>= λ text. stops f p (Error text.0) t)
fails_at f p None = Plainly.never (λ t. refl)
fails_at f p (Some text) = stops_at (Error text.0) (slice_get f.lines p)

behind_at : (k : Option Stack) (h : Stack → ℕ → Option Step) → ((s : Stack) → Plainly (h s)) → Plainly (λ t. k >>= λ s. h s t)
behind_at None h q = Plainly.never (λ t. refl)
behind_at (Some s) h q = q s

back_at : (v : Option Value) (g : List Value) (s : Stack) → Plainly (λ t. back v g s t)
back_at v g [] = Plainly.leaves point.Finished g [] tt (λ t. refl)
back_at v g (c ∷ below) = goes_at g (received v (c ∷ below))

returns_at : (g : List Value) (o : Option (Option Value × Stack)) → Plainly (λ t. o >>= λ r. closed r.1 >>= λ below. back r.0 g below t)
returns_at g None = Plainly.never (λ t. refl)
returns_at g (Some r) = behind_at (closed r.1) (λ below t. back r.0 g below t) (λ below. back_at r.0 g below)

no_zero : (t : ℕ) → nat_eq (suc t) 0 ≡ false
no_zero t = go (nat_eq (suc t) 0) refl
  where
    go : (b : Bool) → nat_eq (suc t) 0 ≡ b → nat_eq (suc t) 0 ≡ false
    go false e = e
    go true e = absurd (let q = Rattle.std.proofs.lemmas.Bool.eqb-true (suc t) 0 e in omega (arith, q))

ticks_at : (g : List Value) (s : Stack) (k : Option Stack) → StepKind g s (λ t. ticks g s t (λ left. k >>= goes g left))
ticks_at g s None = StepKind.stuck refl
ticks_at g s (Some s') =
    StepKind.tick g s' refl (λ t. ap (λ b. cond b (Some (Leaves point.Spent g s (suc t))) (Some (On g s' (suc t - 1)))) (no_zero t) ∙ ap (λ n. Some (On g s' n)) (let q : suc t - 1 ≡ t = omega arith in q))

callee_at : (g : List Value) (s : Stack) (n p : ℕ) (o : Option Function) → StepKind g s (λ t. ticks g s t (λ left. o >>= λ callee. enters n callee p s >>= goes g left))
callee_at g s n p None = StepKind.stuck refl
callee_at g s n p (Some callee) = ticks_at g s (enters n callee p s)

calls_at : (u : CodeUnit) (f : Function) (n p : ℕ) (g : List Value) (s : Stack) (b : Bool) → StepKind g s (λ t. cond b (ticks g s t (λ left. slice_get u.functions n >>= λ callee. enters n callee (p + 1) s >>= goes g left)) (stops f p CallsTooDeep t))
calls_at u f n p g s true = callee_at g s n (p + 1) (slice_get u.functions n)
calls_at u f n p g s false = StepKind.plain (stops_at CallsTooDeep (slice_get f.lines p))

behind_kind : (u : CodeUnit) (f : Function) (i : Instr) (p : ℕ) (g : List Value) (s : Stack) → Plainly (λ t. behind u f i p g s t)
behind_kind u f (instr.PushBool b) p g s = changes_at f p (changed (instr.PushBool b) g s)
behind_kind u f (instr.PushInt n) p g s = changes_at f p (changed (instr.PushInt n) g s)
behind_kind u f (instr.PushText x) p g s = changes_at f p (changed (instr.PushText x) g s)
behind_kind u f (instr.PushDefault ty) p g s = changes_at f p (changed (instr.PushDefault ty) g s)
behind_kind u f (instr.Load i) p g s = changes_at f p (changed (instr.Load i) g s)
behind_kind u f (instr.Store i) p g s = changes_at f p (changed (instr.Store i) g s)
behind_kind u f (instr.LoadGlobal i) p g s = changes_at f p (changed (instr.LoadGlobal i) g s)
behind_kind u f (instr.StoreGlobal i) p g s = changes_at f p (changed (instr.StoreGlobal i) g s)
behind_kind u f instr.Drop p g s = changes_at f p (changed instr.Drop g s)
behind_kind u f instr.Add p g s = changes_at f p (changed instr.Add g s)
behind_kind u f instr.Sub p g s = changes_at f p (changed instr.Sub g s)
behind_kind u f instr.Mul p g s = changes_at f p (changed instr.Mul g s)
behind_kind u f instr.Div p g s = changes_at f p (changed instr.Div g s)
behind_kind u f instr.Rem p g s = changes_at f p (changed instr.Rem g s)
behind_kind u f instr.Neg p g s = changes_at f p (changed instr.Neg g s)
behind_kind u f instr.Not p g s = changes_at f p (changed instr.Not g s)
behind_kind u f instr.Show p g s = changes_at f p (changed instr.Show g s)
behind_kind u f instr.Blank p g s = changes_at f p (changed instr.Blank g s)
behind_kind u f instr.Concat p g s = changes_at f p (changed instr.Concat g s)
behind_kind u f instr.ListAdd p g s = changes_at f p (changed instr.ListAdd g s)
behind_kind u f instr.ListCat p g s = changes_at f p (changed instr.ListCat g s)
behind_kind u f instr.Equal p g s = changes_at f p (changed instr.Equal g s)
behind_kind u f instr.NotEqual p g s = changes_at f p (changed instr.NotEqual g s)
behind_kind u f instr.Less p g s = changes_at f p (changed instr.Less g s)
behind_kind u f instr.LessEqual p g s = changes_at f p (changed instr.LessEqual g s)
behind_kind u f instr.Greater p g s = changes_at f p (changed instr.Greater g s)
behind_kind u f instr.GreaterEqual p g s = changes_at f p (changed instr.GreaterEqual g s)
behind_kind u f (instr.MakeList ty n) p g s = changes_at f p (changed (instr.MakeList ty n) g s)
behind_kind u f (instr.MakeMap ty n) p g s = changes_at f p (changed (instr.MakeMap ty n) g s)
behind_kind u f instr.Item p g s = changes_at f p (changed instr.Item g s)
behind_kind u f instr.Key p g s = changes_at f p (changed instr.Key g s)
behind_kind u f (instr.Update scope slot kinds what) p g s = changes_at f p (changed (instr.Update scope slot kinds what) g s)
behind_kind u f (instr.Jump to) p g s = changes_at f p (changed (instr.Jump to) g s)
behind_kind u f (instr.JumpUnless to) p g s = tested_at to g (taken_as as_bool s)
behind_kind u f instr.Tick p g s = changes_at f p (changed instr.Tick g s)
behind_kind u f (instr.Call n) p g s = changes_at f p (changed (instr.Call n) g s)
behind_kind u f instr.Return p g s = changes_at f p (changed instr.Return g s)
behind_kind u f (instr.Method m) p g s = changes_at f p (changed (instr.Method m) g s)
behind_kind u f instr.FileRead p g s = asks_at f p g (asked u instr.FileRead s) (text_waits _ s (λ t. tt))
behind_kind u f instr.FileWrite p g s = asks_at f p g (asked u instr.FileWrite s) (written_waits s)
behind_kind u f instr.FileRemove p g s = asks_at f p g (asked u instr.FileRemove s) (text_waits _ s (λ t. tt))
behind_kind u f (instr.FileStamp q) p g s = asks_at f p g (asked u (instr.FileStamp q) s) (text_waits _ s (λ t. tt))
behind_kind u f instr.Out p g s = asks_at f p g (asked u instr.Out s) (text_waits _ s (λ t. tt))
behind_kind u f instr.Stop p g s = fails_at f p (taken_as as_text s)
behind_kind u f instr.Exit p g s = exits_at (taken_as as_int s)
behind_kind u f instr.Sys p g s = asks_at f p g (asked u instr.Sys s) (text_waits _ s (λ t. tt))
behind_kind u f instr.OutOfDate p g s = asks_at f p g (asked u instr.OutOfDate s) (compared_waits s)
behind_kind u f instr.NewTask p g s = asks_at f p g (asked u instr.NewTask s) (work_waits _ s (λ w a b. tt))
behind_kind u f instr.Declare p g s = asks_at f p g (asked u instr.Declare s) (work_waits _ s (λ w a b. tt))
behind_kind u f instr.Goal p g s = asks_at f p g (asked u instr.Goal s) (texts_wait _ s (λ t. tt))
behind_kind u f (instr.Spawn n) p g s = asks_at f p g (asked u (instr.Spawn n) s) (spawned_waits u n s)
behind_kind u f instr.Wait p g s = asks_at f p g (asked u instr.Wait s) (texts_wait _ s (λ t. tt))
behind_kind u f instr.WaitAll p g s = asks_at f p g (asked u instr.WaitAll s) (tt)
behind_kind u f instr.Save p g s = asks_at f p g (asked u instr.Save s) (text_waits _ s (λ t. tt))
behind_kind u f instr.SaveHere p g s = asks_at f p g (asked u instr.SaveHere s) (tt)

row_kind : (u : CodeUnit) (f : Function) (i : Instr) (p : ℕ) (g : List Value) (s : Stack) → StepKind g s (λ t. row u f i p g s t)
row_kind u f (instr.PushBool b) p g s = StepKind.plain (behind_at (moved (p + 1) s) (λ s t. behind u f (instr.PushBool b) p g s t) (λ s. behind_kind u f (instr.PushBool b) p g s))
row_kind u f (instr.PushInt n) p g s = StepKind.plain (behind_at (moved (p + 1) s) (λ s t. behind u f (instr.PushInt n) p g s t) (λ s. behind_kind u f (instr.PushInt n) p g s))
row_kind u f (instr.PushText x) p g s = StepKind.plain (behind_at (moved (p + 1) s) (λ s t. behind u f (instr.PushText x) p g s t) (λ s. behind_kind u f (instr.PushText x) p g s))
row_kind u f (instr.PushDefault ty) p g s = StepKind.plain (behind_at (moved (p + 1) s) (λ s t. behind u f (instr.PushDefault ty) p g s t) (λ s. behind_kind u f (instr.PushDefault ty) p g s))
row_kind u f (instr.Load i) p g s = StepKind.plain (behind_at (moved (p + 1) s) (λ s t. behind u f (instr.Load i) p g s t) (λ s. behind_kind u f (instr.Load i) p g s))
row_kind u f (instr.Store i) p g s = StepKind.plain (behind_at (moved (p + 1) s) (λ s t. behind u f (instr.Store i) p g s t) (λ s. behind_kind u f (instr.Store i) p g s))
row_kind u f (instr.LoadGlobal i) p g s = StepKind.plain (behind_at (moved (p + 1) s) (λ s t. behind u f (instr.LoadGlobal i) p g s t) (λ s. behind_kind u f (instr.LoadGlobal i) p g s))
row_kind u f (instr.StoreGlobal i) p g s = StepKind.plain (behind_at (moved (p + 1) s) (λ s t. behind u f (instr.StoreGlobal i) p g s t) (λ s. behind_kind u f (instr.StoreGlobal i) p g s))
row_kind u f instr.Drop p g s = StepKind.plain (behind_at (moved (p + 1) s) (λ s t. behind u f instr.Drop p g s t) (λ s. behind_kind u f instr.Drop p g s))
row_kind u f instr.Add p g s = StepKind.plain (behind_at (moved (p + 1) s) (λ s t. behind u f instr.Add p g s t) (λ s. behind_kind u f instr.Add p g s))
row_kind u f instr.Sub p g s = StepKind.plain (behind_at (moved (p + 1) s) (λ s t. behind u f instr.Sub p g s t) (λ s. behind_kind u f instr.Sub p g s))
row_kind u f instr.Mul p g s = StepKind.plain (behind_at (moved (p + 1) s) (λ s t. behind u f instr.Mul p g s t) (λ s. behind_kind u f instr.Mul p g s))
row_kind u f instr.Div p g s = StepKind.plain (behind_at (moved (p + 1) s) (λ s t. behind u f instr.Div p g s t) (λ s. behind_kind u f instr.Div p g s))
row_kind u f instr.Rem p g s = StepKind.plain (behind_at (moved (p + 1) s) (λ s t. behind u f instr.Rem p g s t) (λ s. behind_kind u f instr.Rem p g s))
row_kind u f instr.Neg p g s = StepKind.plain (behind_at (moved (p + 1) s) (λ s t. behind u f instr.Neg p g s t) (λ s. behind_kind u f instr.Neg p g s))
row_kind u f instr.Not p g s = StepKind.plain (behind_at (moved (p + 1) s) (λ s t. behind u f instr.Not p g s t) (λ s. behind_kind u f instr.Not p g s))
row_kind u f instr.Show p g s = StepKind.plain (behind_at (moved (p + 1) s) (λ s t. behind u f instr.Show p g s t) (λ s. behind_kind u f instr.Show p g s))
row_kind u f instr.Blank p g s = StepKind.plain (behind_at (moved (p + 1) s) (λ s t. behind u f instr.Blank p g s t) (λ s. behind_kind u f instr.Blank p g s))
row_kind u f instr.Concat p g s = StepKind.plain (behind_at (moved (p + 1) s) (λ s t. behind u f instr.Concat p g s t) (λ s. behind_kind u f instr.Concat p g s))
row_kind u f instr.ListAdd p g s = StepKind.plain (behind_at (moved (p + 1) s) (λ s t. behind u f instr.ListAdd p g s t) (λ s. behind_kind u f instr.ListAdd p g s))
row_kind u f instr.ListCat p g s = StepKind.plain (behind_at (moved (p + 1) s) (λ s t. behind u f instr.ListCat p g s t) (λ s. behind_kind u f instr.ListCat p g s))
row_kind u f instr.Equal p g s = StepKind.plain (behind_at (moved (p + 1) s) (λ s t. behind u f instr.Equal p g s t) (λ s. behind_kind u f instr.Equal p g s))
row_kind u f instr.NotEqual p g s = StepKind.plain (behind_at (moved (p + 1) s) (λ s t. behind u f instr.NotEqual p g s t) (λ s. behind_kind u f instr.NotEqual p g s))
row_kind u f instr.Less p g s = StepKind.plain (behind_at (moved (p + 1) s) (λ s t. behind u f instr.Less p g s t) (λ s. behind_kind u f instr.Less p g s))
row_kind u f instr.LessEqual p g s = StepKind.plain (behind_at (moved (p + 1) s) (λ s t. behind u f instr.LessEqual p g s t) (λ s. behind_kind u f instr.LessEqual p g s))
row_kind u f instr.Greater p g s = StepKind.plain (behind_at (moved (p + 1) s) (λ s t. behind u f instr.Greater p g s t) (λ s. behind_kind u f instr.Greater p g s))
row_kind u f instr.GreaterEqual p g s = StepKind.plain (behind_at (moved (p + 1) s) (λ s t. behind u f instr.GreaterEqual p g s t) (λ s. behind_kind u f instr.GreaterEqual p g s))
row_kind u f (instr.MakeList ty n) p g s = StepKind.plain (behind_at (moved (p + 1) s) (λ s t. behind u f (instr.MakeList ty n) p g s t) (λ s. behind_kind u f (instr.MakeList ty n) p g s))
row_kind u f (instr.MakeMap ty n) p g s = StepKind.plain (behind_at (moved (p + 1) s) (λ s t. behind u f (instr.MakeMap ty n) p g s t) (λ s. behind_kind u f (instr.MakeMap ty n) p g s))
row_kind u f instr.Item p g s = StepKind.plain (behind_at (moved (p + 1) s) (λ s t. behind u f instr.Item p g s t) (λ s. behind_kind u f instr.Item p g s))
row_kind u f instr.Key p g s = StepKind.plain (behind_at (moved (p + 1) s) (λ s t. behind u f instr.Key p g s t) (λ s. behind_kind u f instr.Key p g s))
row_kind u f (instr.Update scope slot kinds what) p g s = StepKind.plain (behind_at (moved (p + 1) s) (λ s t. behind u f (instr.Update scope slot kinds what) p g s t) (λ s. behind_kind u f (instr.Update scope slot kinds what) p g s))
row_kind u f (instr.Jump to) p g s = StepKind.plain (goes_at g (moved to s))
row_kind u f (instr.JumpUnless to) p g s = StepKind.plain (behind_at (moved (p + 1) s) (λ s t. behind u f (instr.JumpUnless to) p g s t) (λ s. behind_kind u f (instr.JumpUnless to) p g s))
row_kind u f instr.Tick p g s = ticks_at g s (moved (p + 1) s)
row_kind u f (instr.Call n) p g s = calls_at u f n p g s (nat_lt (length s) MAX_CALLS)
row_kind u f instr.Return p g s = StepKind.plain (returns_at g (result_taken f.ret s))
row_kind u f (instr.Method m) p g s = StepKind.plain (behind_at (moved (p + 1) s) (λ s t. behind u f (instr.Method m) p g s t) (λ s. behind_kind u f (instr.Method m) p g s))
row_kind u f instr.FileRead p g s = StepKind.plain (behind_at (moved (p + 1) s) (λ s t. behind u f instr.FileRead p g s t) (λ s. behind_kind u f instr.FileRead p g s))
row_kind u f instr.FileWrite p g s = StepKind.plain (behind_at (moved (p + 1) s) (λ s t. behind u f instr.FileWrite p g s t) (λ s. behind_kind u f instr.FileWrite p g s))
row_kind u f instr.FileRemove p g s = StepKind.plain (behind_at (moved (p + 1) s) (λ s t. behind u f instr.FileRemove p g s t) (λ s. behind_kind u f instr.FileRemove p g s))
row_kind u f (instr.FileStamp q) p g s = StepKind.plain (behind_at (moved (p + 1) s) (λ s t. behind u f (instr.FileStamp q) p g s t) (λ s. behind_kind u f (instr.FileStamp q) p g s))
row_kind u f instr.Out p g s = StepKind.plain (behind_at (moved (p + 1) s) (λ s t. behind u f instr.Out p g s t) (λ s. behind_kind u f instr.Out p g s))
row_kind u f instr.Stop p g s = StepKind.plain (behind_at (moved (p + 1) s) (λ s t. behind u f instr.Stop p g s t) (λ s. behind_kind u f instr.Stop p g s))
row_kind u f instr.Exit p g s = StepKind.plain (behind_at (moved (p + 1) s) (λ s t. behind u f instr.Exit p g s t) (λ s. behind_kind u f instr.Exit p g s))
row_kind u f instr.Sys p g s = StepKind.plain (behind_at (moved (p + 1) s) (λ s t. behind u f instr.Sys p g s t) (λ s. behind_kind u f instr.Sys p g s))
row_kind u f instr.OutOfDate p g s = StepKind.plain (behind_at (moved (p + 1) s) (λ s t. behind u f instr.OutOfDate p g s t) (λ s. behind_kind u f instr.OutOfDate p g s))
row_kind u f instr.NewTask p g s = StepKind.plain (behind_at (moved (p + 1) s) (λ s t. behind u f instr.NewTask p g s t) (λ s. behind_kind u f instr.NewTask p g s))
row_kind u f instr.Declare p g s = StepKind.plain (behind_at (moved (p + 1) s) (λ s t. behind u f instr.Declare p g s t) (λ s. behind_kind u f instr.Declare p g s))
row_kind u f instr.Goal p g s = StepKind.plain (behind_at (moved (p + 1) s) (λ s t. behind u f instr.Goal p g s t) (λ s. behind_kind u f instr.Goal p g s))
row_kind u f (instr.Spawn n) p g s = StepKind.plain (behind_at (moved (p + 1) s) (λ s t. behind u f (instr.Spawn n) p g s t) (λ s. behind_kind u f (instr.Spawn n) p g s))
row_kind u f instr.Wait p g s = StepKind.plain (behind_at (moved (p + 1) s) (λ s t. behind u f instr.Wait p g s t) (λ s. behind_kind u f instr.Wait p g s))
row_kind u f instr.WaitAll p g s = StepKind.plain (behind_at (moved (p + 1) s) (λ s t. behind u f instr.WaitAll p g s t) (λ s. behind_kind u f instr.WaitAll p g s))
row_kind u f instr.Save p g s = StepKind.plain (behind_at (moved (p + 1) s) (λ s t. behind u f instr.Save p g s t) (λ s. behind_kind u f instr.Save p g s))
row_kind u f instr.SaveHere p g s = StepKind.plain (behind_at (moved (p + 1) s) (λ s t. behind u f instr.SaveHere p g s t) (λ s. behind_kind u f instr.SaveHere p g s))

code_kind : (u : CodeUnit) (f : Function) (p : ℕ) (g : List Value) (s : Stack) (o : Option Instr) → StepKind g s (λ t. o >>= λ i. row u f i p g s t)
code_kind u f p g s None = StepKind.plain (Plainly.never (λ t. refl))
code_kind u f p g s (Some i) = row_kind u f i p g s

function_kind : (u : CodeUnit) (p : ℕ) (g : List Value) (s : Stack) (o : Option Function) → StepKind g s (λ t. o >>= λ f. slice_get f.code p >>= λ i. row u f i p g s t)
function_kind u p g s None = StepKind.plain (Plainly.never (λ t. refl))
function_kind u p g s (Some f) = code_kind u f p g s (slice_get f.code p)

place_kind : (u : CodeUnit) (g : List Value) (s : Stack) (o : Option (ℕ × ℕ)) → StepKind g s (λ t. o >>= λ at. slice_get u.functions at.0 >>= λ f. slice_get f.code at.1 >>= λ i. row u f i at.1 g s t)
place_kind u g s None = StepKind.plain (Plainly.never (λ t. refl))
place_kind u g s (Some at) = function_kind u at.1 g s (slice_get u.functions at.0)

step_kind : (u : CodeUnit) (g : List Value) (s : Stack) → StepKind g s (step u g s)
unfolding step
step_kind u g s = place_kind u g s (place_of s)

-- the row with which it has ended, where one tick was left, or none was
pub data IsLast (u : CodeUnit) (m : Parts) (t b : ℕ) : Step → Type 0 where
  leaves : (p : Point) (g : List Value) (s : Stack) (left : ℕ) → IsWaiting p → b ≡ t + left → step u m.globals m.calls 1 ≡ Some (Leaves p g s 1) → IsLast u m t b (Leaves p g s left)
  ends : (p : Point) (left : ℕ) → b ≡ t + left → step u m.globals m.calls 1 ≡ Some (Ends p 1) → IsLast u m t b (Ends p left)
  spent : b ≡ t → IsTick (row_step u m) → IsLast u m t b (Leaves point.Spent m.globals m.calls 0)

pub record Run (u : CodeUnit) (m : Parts) (b : ℕ) (x : Step) : Type 0 where
  pub to : Parts
  pub count : ℕ
  pub walks : Walks (row_step u) m count to
  pub last : IsLast u to count b x

more : (u : CodeUnit) (m : Parts) (t b : ℕ) (x : Step) → IsLast u m t b x → IsLast u m (suc t) (suc b) x
more u m t b _ (IsLast.leaves p g s left w e is) = IsLast.leaves p g s left w (omega (arith, e)) is
more u m t b _ (IsLast.ends p left e is) = IsLast.ends p left (omega (arith, e)) is
more u m t b _ (IsLast.spent e h) = IsLast.spent (ap (λ n. suc n) e) h

module _ (u : CodeUnit) (keeps : Keeps u) where
  abbrev at : List Value → Stack → Parts
  at g s = record { globals = g; calls = s }

  first : (n : ℕ) (g : List Value) (s : Stack) (b : ℕ) (x : Step) → Live u (at g s) → HasLeft x
      → ((g' : List Value) (s' : Stack) (b' : ℕ) → Live u (at g' s') → rows u n g' s' b' ≡ Some x → Run u (at g' s') b' x)
      → StepKind g s (step u g s) → (step u g s b >>= λ y. further y (rows u n)) ≡ Some x → Run u (at g s) b x
  first n g s b x live h rec (StepKind.plain (Plainly.never e)) r = absurd (cc (sym (ap (λ o. o >>= λ y. further y (rows u n)) (e b)) ∙ r))
  first n g s b x live h rec (StepKind.plain (Plainly.on g' s' e)) r =
      let w = rec g' s' b (keeps.stays (at g s) (at g' s') 1 1 live (e 1)) (sym (ap (λ o. o >>= λ y. further y (rows u n)) (e b)) ∙ r) in
      record { to = w.to; count = w.count; walks = Walks.inner (at g s) (at g' s') w.count w.to (ap (outcome_of u) (e 1)) w.walks; last = w.last }
  first n g s b x live h rec (StepKind.plain (Plainly.leaves p g' s' waits e)) r =
      let q : Leaves p g' s' b ≡ x = cc (sym (ap (λ o. o >>= λ y. further y (rows u n)) (e b)) ∙ r) in
      record { to = at g s; count = 0; walks = Walks.here (at g s); last = subst (λ x. IsLast u (at g s) 0 b x) q (IsLast.leaves p g' s' b waits (omega arith) (e 1)) }
  first n g s b x live h rec (StepKind.plain (Plainly.ends p e)) r =
      let q : Ends p b ≡ x = cc (sym (ap (λ o. o >>= λ y. further y (rows u n)) (e b)) ∙ r) in
      record { to = at g s; count = 0; walks = Walks.here (at g s); last = subst (λ x. IsLast u (at g s) 0 b x) q (IsLast.ends p b (omega arith) (e 1)) }
  first n g s zero x live h rec (StepKind.tick g' s' e e') r =
      let q : Leaves point.Spent g s 0 ≡ x = cc (sym (ap (λ o. o >>= λ y. further y (rows u n)) e) ∙ r) in
      record { to = at g s; count = 0; walks = Walks.here (at g s); last = subst (λ x. IsLast u (at g s) 0 0 x) q (IsLast.spent refl (subst (λ o. IsTick o) (sym (ap (outcome_of u) (e' 0))) tt)) }
  first n g s (suc b) x live h rec (StepKind.tick g' s' e e') r =
      let w = rec g' s' b (keeps.stays (at g s) (at g' s') 1 0 live (e' 0)) (sym (ap (λ o. o >>= λ y. further y (rows u n)) (e' b)) ∙ r) in
      record { to = w.to; count = suc w.count; walks = Walks.tick (at g s) (at g' s') w.count w.to (ap (outcome_of u) (e' 0)) w.walks; last = more u w.to w.count b x w.last }
  first n g s b x live h rec (StepKind.stuck e) r = absurd (let w : IsSome {T = Step} None = subst (λ o. IsSome o) e (keeps.moves (at g s) 1 live) in cc w)

  -- the rows of one call are steps of the thread
  pub run : (n : ℕ) (g : List Value) (s : Stack) (b : ℕ) (x : Step) → Live u (at g s) → HasLeft x → rows u n g s b ≡ Some x → Run u (at g s) b x
  run zero g s b x live h r = absurd (subst (λ x. HasLeft x) (let q : x ≡ On g s b = cc (sym r) in q) h)
  run (suc n) g s b x live h r = first n g s b x live h (λ g' s' b' live' r'. run n g' s' b' x live' h r') (step_kind u g s) r
