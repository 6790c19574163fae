-- The rows that make tasks and rules of their operands.
use Rattle.std.proofs.Common.{◌≡◌, ℕ, ℤ, pos, negsuc, ◌+◌, ◌&&◌, nat_le, cond, Bool, true, false, List, ◌∷◌, Option, Some, None, IsSome, Result, Ok, Err, refl, sym, ap, ◌∙◌, subst}
use Rattle.bds_value.specs.declared.value.Value.{Value, out-Value}
use Rattle.bds_value.specs.declared.faults.RunFault.{RunFault}
use Rattle.bds_value.specs.declared.faults.RunFault.TheVariants.{BadOption}
use Rattle.bds_code.specs.declared.instr.Instr.TheVariants as instr
use Rattle.bds_code.specs.declared.unit.Function.{Function}
use Rattle.bds_code.specs.declared.unit.Unit.{Unit as CodeUnit}
use Rattle.bds_code_frames.specs.Stack.{Stack}
use Rattle.bds_machine.specs.declared.point.Point.{Point}
use Rattle.bds_machine.specs.declared.point.Point.TheVariants as point
use Rattle.bds_machine.specs.Calls.{Step, Leaves}
use Rattle.bds_machine_values.specs.Faults.{Outcome, and_then}
use Rattle.bds_value.specs.Options.{◌>>=◌}
use Rattle.bds_value.specs.Readers.{as_bool, as_int, as_text, as_texts}
use Rattle.bds_machine_values.specs.Operands.{taken_as}
use Rattle.bds_machine.specs.Points.{leaves}
use Rattle.bds_machine.specs.Table.{onward, row}
use Rattle.bds_machine.specs.Tasks.{Work as Taken, work_taken, in_ranges, ranged, task_of, rule_of}
use Rattle.bds_schedule.specs.Faults.{and_then as source_then}
use Rattle.bds_value.specs.Readers.{is_true, number_in, text_in, texts_in}
use Rattle.bds_meaning.specs.Work.{Work, in_ranges as source_ranges, ranged as source_ranged, task_of as source_task, rule_of as source_rule}
use Rattle.bds_sim_terms.proofs.steps.Asking.{texts_read}
use Rattle.bds_sim.proofs.Reading.{bool_read, number_read, text_read}
use Rattle.bds_sim_terms.proofs.steps.Rows.{frame}

-- an operand that is read
taken : {X Y : Type 0} (o : Option X) (x : X) (s : Stack) (go : X × Stack → Option Y) → ((y : X) → o ≡ Some y → y ≡ x) → IsSome ((o >>= λ y. Some (y, s)) >>= go) → ((o >>= λ y. Some (y, s)) >>= go) ≡ go (x, s)
taken None x s go told h = absurd (cc h)
taken (Some y) x s go told h = ap (λ y. go (y, s)) (told y refl)

abbrev pub taken_of : Work → List ℕ → Taken
taken_of w command = record { outs = texts_in w.outs; ins = texts_in w.ins; cpus = number_in w.cpus; can_fail = is_true w.can_fail; retry = number_in w.retry; name = text_in w.name; command = command }

-- what is taken behind an operand

abbrev go7 : List ℕ → List ℕ → ℤ → Bool → ℤ → List (List ℕ) → List (List ℕ) × Stack → Option (Taken × Stack)
go7 c n r f p i outs = Some (record { outs = outs.0; ins = i; cpus = p; can_fail = f; retry = r; name = n; command = c }, outs.1)

abbrev go6 : List ℕ → List ℕ → ℤ → Bool → ℤ → List (List ℕ) × Stack → Option (Taken × Stack)
go6 c n r f p ins = taken_as as_texts ins.1 >>= go7 c n r f p ins.0

abbrev go5 : List ℕ → List ℕ → ℤ → Bool → ℤ × Stack → Option (Taken × Stack)
go5 c n r f cpus = taken_as as_texts cpus.1 >>= go6 c n r f cpus.0

abbrev go4 : List ℕ → List ℕ → ℤ → Bool × Stack → Option (Taken × Stack)
go4 c n r can_fail = taken_as as_int can_fail.1 >>= go5 c n r can_fail.0

abbrev go3 : List ℕ → List ℕ → ℤ × Stack → Option (Taken × Stack)
go3 c n retry = taken_as as_bool retry.1 >>= go4 c n retry.0

abbrev go2 : List ℕ → List ℕ × Stack → Option (Taken × Stack)
go2 c name = taken_as as_int name.1 >>= go3 c name.0

abbrev go1 : List ℕ × Stack → Option (Taken × Stack)
go1 command = taken_as as_text command.1 >>= go2 command.0

module _ (fn pc : ℕ) (slots : List Value) (below : Stack) where
  abbrev left : List Value → Stack
  left ops = frame fn pc slots ops ∷ below

  pub work_told : (w : Work) (command : Value) (ops : List Value) → IsSome (work_taken (left (command ∷ w.name ∷ w.retry ∷ w.can_fail ∷ w.cpus ∷ w.ins ∷ w.outs ∷ ops)))
      → work_taken (left (command ∷ w.name ∷ w.retry ∷ w.can_fail ∷ w.cpus ∷ w.ins ∷ w.outs ∷ ops)) ≡ Some (taken_of w (text_in command), left ops)
  work_told w command ops h0 =
      let c : List ℕ = text_in command in
      let n : List ℕ = text_in w.name in
      let r : ℤ = number_in w.retry in
      let f : Bool = is_true w.can_fail in
      let p : ℤ = number_in w.cpus in
      let i : List (List ℕ) = texts_in w.ins in
      let e1 = taken (as_text command) (text_in command) (left (w.name ∷ w.retry ∷ w.can_fail ∷ w.cpus ∷ w.ins ∷ w.outs ∷ ops)) go1 (λ y q. sym (text_read (out-Value command) y q)) h0 in
      let h1 = subst IsSome e1 h0 in
      let e2 = taken (as_text w.name) (text_in w.name) (left (w.retry ∷ w.can_fail ∷ w.cpus ∷ w.ins ∷ w.outs ∷ ops)) (go2 c) (λ y q. sym (text_read (out-Value w.name) y q)) h1 in
      let h2 = subst IsSome e2 h1 in
      let e3 = taken (as_int w.retry) (number_in w.retry) (left (w.can_fail ∷ w.cpus ∷ w.ins ∷ w.outs ∷ ops)) (go3 c n) (λ y q. sym (number_read (out-Value w.retry) y q)) h2 in
      let h3 = subst IsSome e3 h2 in
      let e4 = taken (as_bool w.can_fail) (is_true w.can_fail) (left (w.cpus ∷ w.ins ∷ w.outs ∷ ops)) (go4 c n r) (λ y q. sym (bool_read (out-Value w.can_fail) y q)) h3 in
      let h4 = subst IsSome e4 h3 in
      let e5 = taken (as_int w.cpus) (number_in w.cpus) (left (w.ins ∷ w.outs ∷ ops)) (go5 c n r f) (λ y q. sym (number_read (out-Value w.cpus) y q)) h4 in
      let h5 = subst IsSome e5 h4 in
      let e6 = taken (as_texts w.ins) (texts_in w.ins) (left (w.outs ∷ ops)) (go6 c n r f p) (λ y q. texts_read w.ins y q) h5 in
      let h6 = subst IsSome e6 h5 in
      let e7 = taken (as_texts w.outs) (texts_in w.outs) (left ops) (go7 c n r f p i) (λ y q. texts_read w.outs y q) h6 in
      e1 ∙ e2 ∙ e3 ∙ e4 ∙ e5 ∙ e6 ∙ e7

-- numbers in their ranges

ranged_told : (low high : ℕ) (z : ℤ) → ranged low high z ≡ Some (source_ranged low high z)
ranged_told low high (negsuc n) = refl
ranged_told low high (pos n) = go (nat_le low n && nat_le n high)
  where
    go : (b : Bool) → cond b (Some (Ok n)) (Some (Err (BadOption (pos n)))) ≡ Some (cond b (Ok n) (Err (BadOption (pos n))))
    go true = refl
    go false = refl

abbrev pub mapped : {X Y : Type 0} → (X → Y) → Result X RunFault → Result Y RunFault
mapped f (Ok x) = Ok (f x)
mapped f (Err e) = Err e

pub ranges_told : {X : Type 0} (w : Work) (command : List ℕ) (make : ℕ → ℕ → X) (to : X → Point) → in_ranges (taken_of w command) (λ cpus retry. to (make cpus retry)) ≡ Some (mapped to (source_ranges w make))
ranges_told w command make to =
    ap (λ o. and_then o (λ cpus. and_then (ranged 0 1000 (number_in w.retry)) (λ retry. Some (Ok (to (make cpus retry)))))) (ranged_told 1 1000000 (number_in w.cpus))
    ∙ go (source_ranged 1 1000000 (number_in w.cpus))
  where
    inner : (cpus : ℕ) (q : Result ℕ RunFault) → and_then (Some q) (λ retry. Some (Ok (to (make cpus retry)))) ≡ Some (mapped to (source_then q (λ retry. Ok (make cpus retry))))
    inner cpus (Ok n) = refl
    inner cpus (Err e) = refl

    go : (q : Result ℕ RunFault) → and_then (Some q) (λ cpus. and_then (ranged 0 1000 (number_in w.retry)) (λ retry. Some (Ok (to (make cpus retry)))))
        ≡ Some (mapped to (source_then q (λ cpus. source_then (source_ranged 0 1000 (number_in w.retry)) (λ retry. Ok (make cpus retry)))))
    go (Ok n) = ap (λ o. and_then o (λ retry. Some (Ok (to (make n retry))))) (ranged_told 0 1000 (number_in w.retry)) ∙ inner n (source_ranged 0 1000 (number_in w.retry))
    go (Err e) = refl

module _ (u : CodeUnit) (f : Function) (fn pc : ℕ) (g slots : List Value) (below : Stack) (t : ℕ) where
  abbrev pub left_with : List Value → Outcome Point → Option Step
  left_with ops o = onward f pc (and_then o (λ p. leaves p (frame fn (pc + 1) slots ops ∷ below))) t (λ x. Leaves x.0 g x.1 t)

  abbrev work_step : (Taken → ℕ → ℕ → Point) → Option (Taken × Stack) → Option Step
  work_step makes o = onward f pc (o >>= λ w. and_then (in_ranges w.0 (makes w.0)) (λ p. leaves p w.1)) t (λ x. Leaves x.0 g x.1 t)

  work_there : (makes : Taken → ℕ → ℕ → Point) (o : Option (Taken × Stack)) → IsSome (work_step makes o) → IsSome o
  work_there makes None h = absurd (cc h)
  work_there makes (Some w) h = refl

  pub work_row : (makes : Taken → ℕ → ℕ → Point) (w : Work) (command : Value) (ops : List Value) → IsSome (work_step makes (work_taken (frame fn (pc + 1) slots (command ∷ w.name ∷ w.retry ∷ w.can_fail ∷ w.cpus ∷ w.ins ∷ w.outs ∷ ops) ∷ below)))
      → work_step makes (work_taken (frame fn (pc + 1) slots (command ∷ w.name ∷ w.retry ∷ w.can_fail ∷ w.cpus ∷ w.ins ∷ w.outs ∷ ops) ∷ below)) ≡ left_with ops (in_ranges (taken_of w (text_in command)) (makes (taken_of w (text_in command))))
  work_row makes w command ops h =
      let o = work_taken (frame fn (pc + 1) slots (command ∷ w.name ∷ w.retry ∷ w.can_fail ∷ w.cpus ∷ w.ins ∷ w.outs ∷ ops) ∷ below) in
      ap (work_step makes) (work_told fn (pc + 1) slots below w command ops (work_there makes o h))

  -- a task, or the fault of its options
  pub task_row : (w : Work) (command : Value) (ops : List Value) → IsSome (row u f instr.NewTask pc g (frame fn pc slots (command ∷ w.name ∷ w.retry ∷ w.can_fail ∷ w.cpus ∷ w.ins ∷ w.outs ∷ ops) ∷ below) t)
      → row u f instr.NewTask pc g (frame fn pc slots (command ∷ w.name ∷ w.retry ∷ w.can_fail ∷ w.cpus ∷ w.ins ∷ w.outs ∷ ops) ∷ below) t ≡ left_with ops (Some (mapped point.Task (source_ranges w (source_task w (text_in command)))))
  task_row w command ops h = work_row (λ w cpus retry. point.Task (task_of w cpus retry)) w command ops h ∙ ap (left_with ops) (ranges_told w (text_in command) (source_task w (text_in command)) point.Task)

  pub rule_row : (w : Work) (command : Value) (ops : List Value) → IsSome (row u f instr.Declare pc g (frame fn pc slots (command ∷ w.name ∷ w.retry ∷ w.can_fail ∷ w.cpus ∷ w.ins ∷ w.outs ∷ ops) ∷ below) t)
      → row u f instr.Declare pc g (frame fn pc slots (command ∷ w.name ∷ w.retry ∷ w.can_fail ∷ w.cpus ∷ w.ins ∷ w.outs ∷ ops) ∷ below) t ≡ left_with ops (Some (mapped point.Declare (source_ranges w (source_rule w (text_in command)))))
  rule_row w command ops h = work_row (λ w cpus retry. point.Declare (rule_of w cpus retry)) w command ops h ∙ ap (left_with ops) (ranges_told w (text_in command) (source_rule w (text_in command)) point.Declare)
