-- What a row leaves that leaves the machine: the same calls, of which the newest stands one place further.
use Rattle.std.proofs.Common.{◌≡◌, ◌⊎◌, inl, inr, ℕ, ℤ, pos, negsuc, ◌+◌, ◌≤◌, ◌&&◌, Bool, true, false, List, [], ◌∷◌}
use Rattle.std.proofs.Common.{length, slice_get, Option, Some, None, Ok, Err, sym, ap, refl, subst}
use Rattle.std.specs.Prelude.{cond, drop, nat_le, nat_lt, ⊤}
use Rattle.std.proofs.lemmas.Bool.{and_parts, leb-true}
use Rattle.bds_value.specs.declared.TheConstants.{MAX_CALLS, MAX_RETRY}
use Rattle.bds_value.specs.declared.value.At.{At}
use Rattle.bds_value.specs.declared.value.Ty.{Ty}
use Rattle.bds_value.specs.declared.value.Value.{Value}
use Rattle.bds_value.specs.declared.faults.RunFault.{RunFault}
use Rattle.bds_value.specs.declared.faults.RunFault.TheVariants.{BadOption, CallsTooDeep}
use Rattle.bds_value.specs.Options.{◌>>=◌}
use Rattle.bds_value.specs.Readers.{as_bool, as_int, as_text, as_texts}
use Rattle.bds_host.specs.declared.asks.Ask.TheVariants as ask
use Rattle.bds_code.specs.declared.instr.Instr.{Instr}
use Rattle.bds_code.specs.declared.instr.Instr.TheVariants.{Jump, JumpUnless, Tick, Call as CallTo, Return, FileRead}
use Rattle.bds_code.specs.declared.instr.Instr.TheVariants.{FileWrite, FileRemove, FileStamp, Out, Stop, Exit, Sys}
use Rattle.bds_code.specs.declared.instr.Instr.TheVariants.{OutOfDate, NewTask, Declare, Goal, Spawn, Wait, WaitAll}
use Rattle.bds_code.specs.declared.instr.Instr.TheVariants.{Save, SaveHere}
use Rattle.bds_code.specs.declared.unit.Function.{Function}
use Rattle.bds_code.specs.declared.unit.Unit.{Unit as CodeUnit}
use Rattle.bds_code_frames.specs.Stack.{Call, Stack, closed, moved, popped_of, pushed, with_ops, with_place}
use Rattle.bds_verify.specs.Pass.{is_tick}
use Rattle.bds_machine_values.specs.Faults.{Outcome, and_then}
use Rattle.bds_machine_values.specs.Operands.{taken_as, taken_all}
use Rattle.bds_machine_values.specs.Worked.{changed}
use Rattle.bds_machine.specs.declared.point.Point.{Point}
use Rattle.bds_machine.specs.declared.point.Point.TheVariants as point
use Rattle.bds_machine.specs.Answers.{is_awaited}
use Rattle.bds_machine.specs.Calls.{Step, On, Leaves, Ends, back, branches, enters, goes, result_taken, returns, stops}
use Rattle.bds_machine.specs.Calls.{tested, ticks}
use Rattle.bds_machine.specs.Points.{compared, leaves, spawned, with_text, with_texts, with_work, written}
use Rattle.bds_machine.specs.Table.{exits, fails, onward, row}
use Rattle.bds_machine.specs.Tasks.{Work, in_ranges, processors, retries, rule_of, task_of, work_taken}
use Rattle.bds_goal.proofs.MakerLaws.{some_is}

-- Parts of an option

pub bind_some : {A B : Type 0} (o : Option A) (go : A → Option B) (y : B) → o >>= go ≡ Some y
    → (x : A) × (o ≡ Some x) × (go x ≡ Some y)
bind_some None go y e = absurd (cc e)
bind_some (Some x) go y e = (x, refl, e)

and_some : {A B : Type 0} (o : Outcome A) (go : A → Outcome B) (y : B) → and_then o go ≡ Some (Ok y)
    → (x : A) × (o ≡ Some (Ok x)) × (go x ≡ Some (Ok y))
and_some None go y e = absurd (cc e)
and_some (Some (Ok x)) go y e = (x, refl, e)
and_some (Some (Err f)) go y e = absurd (cc e)

-- a task and a rule that a row makes may be tried again 1,000 times at most
abbrev pub IsFew : Point → Type 0
IsFew (point.Task task) = task.retry ≤ MAX_RETRY
IsFew (point.Declare rule) = rule.retry ≤ MAX_RETRY
IsFew _ = ⊤

-- the same calls, but for operands of the newest
pub record IsTop (c : Call) (below s : Stack) : Type 0 where
  pub call : Call
  pub is : s ≡ call ∷ below
  pub function : call.function ≡ c.function
  pub place : call.place ≡ c.place

-- such calls at a point that awaits an answer
pub record IsAsked (c : Call) (below : Stack) (p : Point) (s : Stack) : Type 0 where
  pub awaited : is_awaited p ≡ true
  pub few : IsFew p
  pub top : IsTop c below s

few_retries : (n : ℤ) (r : ℕ) → retries n ≡ Some (Ok r) → r ≤ MAX_RETRY
few_retries (negsuc n) r e = absurd (cc e)
few_retries (pos n) r e = go (nat_le 0 n && nat_le n MAX_RETRY) refl e
  where
    go : (b : Bool) → (nat_le 0 n && nat_le n MAX_RETRY) ≡ b
        → cond b (Some (Ok n)) (Some (Err (BadOption (pos n)))) ≡ Some (Ok r) → r ≤ MAX_RETRY
    go true is e =
        let same : n ≡ r = cc e in
        subst (λ k. k ≤ MAX_RETRY) same (leb-true n MAX_RETRY ((and_parts (nat_le 0 n) (nat_le n MAX_RETRY) is).1))
    go false is e = absurd (cc e)

module _ (c : Call) (below : Stack) where
  itself : IsTop c below (c ∷ below)
  itself = record { call = c; is = refl; function = refl; place = refl }

  -- what is left where an operand was taken
  taken_here : {X : Type 0} (reads : Value → Option X) (d : Call) → d.function ≡ c.function → d.place ≡ c.place
      → (y : X × Stack) → taken_as reads (d ∷ below) ≡ Some y → IsTop c below y.1
  taken_here {X = X} reads d function place y e = by_operands d.ops e
    where
      by_value : (vs : List Value) (o : Option X) → (o >>= λ x. Some (x, with_ops vs d ∷ below)) ≡ Some y
          → IsTop c below y.1
      by_value vs None e = absurd (cc e)
      by_value vs (Some x) e =
          record {
            call = with_ops vs d;
            is = sym
                (ap (λ (z : X × Stack). z.1) (some_is (x, with_ops vs d ∷ below) y e));
            function = function;
            place = place;
          }

      by_operands : (ops : List Value) → (popped_of ops d below >>= λ r. reads r.0 >>= λ x. Some (x, r.1)) ≡ Some y
          → IsTop c below y.1
      by_operands [] e = absurd (cc e)
      by_operands (v ∷ vs) e = by_value vs (reads v) e

  taken_top : {X : Type 0} (reads : Value → Option X) (s : Stack) → IsTop c below s → (y : X × Stack)
      → taken_as reads s ≡ Some y → IsTop c below y.1
  taken_top reads s top y e =
      taken_here reads top.call top.function top.place y (subst (λ s. taken_as reads s ≡ Some y) top.is e)

  -- a point, with what is left there
  leaves_top : (p : Point) (s : Stack) → is_awaited p ≡ true → IsFew p → IsTop c below s → (x : Point × Stack)
      → leaves p s ≡ Some (Ok x) → IsAsked c below x.0 x.1
  leaves_top p s awaited few top x e =
      let same : (p, s) ≡ x = cc e in subst (λ (z : Point × Stack). IsAsked c below z.0 z.1) same
      (record { awaited = awaited; few = few; top = top })

  abbrev Asked : Outcome (Point × Stack) → Type 0
  Asked o = (x : Point × Stack) → o ≡ Some (Ok x) → IsAsked c below x.0 x.1

  text_top : (makes : List ℕ → Point) → ((t : List ℕ) → is_awaited (makes t) ≡ true)
      → ((t : List ℕ) → IsFew (makes t)) → Asked (with_text makes (c ∷ below))
  text_top makes awaited few x e =
      let t = bind_some (taken_as as_text (c ∷ below)) (λ t. leaves (makes t.0) t.1) (Ok x) e in
      leaves_top (makes t.0.0) t.0.1 (awaited t.0.0) (few t.0.0) (taken_top as_text (c ∷ below) itself t.0 t.1) x t.2

  texts_top : (makes : List (List ℕ) → Point) → ((t : List (List ℕ)) → is_awaited (makes t) ≡ true)
      → ((t : List (List ℕ)) → IsFew (makes t)) → Asked (with_texts makes (c ∷ below))
  texts_top makes awaited few x e =
      let t = bind_some (taken_as as_texts (c ∷ below)) (λ t. leaves (makes t.0) t.1) (Ok x) e in
      leaves_top (makes t.0.0) t.0.1 (awaited t.0.0) (few t.0.0) (taken_top as_texts (c ∷ below) itself t.0 t.1) x t.2

  written_top : Asked (written (c ∷ below))
  written_top x e =
      let text =
      bind_some (taken_as as_text (c ∷ below))
      (λ text. taken_as as_text text.1 >>= λ path. leaves (point.Asks (ask.Write path.0 text.0)) path.1)
      (Ok x) e in
      let path =
      bind_some (taken_as as_text text.0.1) (λ path. leaves (point.Asks (ask.Write path.0 text.0.0)) path.1)
      (Ok x) text.2 in
      leaves_top (point.Asks (ask.Write path.0.0 text.0.0)) path.0.1 refl tt
      (taken_top as_text text.0.1 (taken_top as_text (c ∷ below) itself text.0 text.1) path.0 path.1) x path.2

  compared_top : Asked (compared (c ∷ below))
  compared_top x e =
      let ins =
      bind_some (taken_as as_texts (c ∷ below))
      (λ ins. taken_as as_texts ins.1 >>= λ outs. leaves (point.Old outs.0 ins.0) outs.1) (Ok x) e in
      let outs =
      bind_some (taken_as as_texts ins.0.1) (λ outs. leaves (point.Old outs.0 ins.0.0) outs.1) (Ok x) ins.2 in
      leaves_top (point.Old outs.0.0 ins.0.0) outs.0.1 refl tt
      (taken_top as_texts ins.0.1 (taken_top as_texts (c ∷ below) itself ins.0 ins.1) outs.0 outs.1) x outs.2

  all_top : (n : ℕ) (b : Bool) (args : List Value) (y : List Value × Stack)
      → cond b (Some (args, with_ops (drop n c.ops) c ∷ below)) None ≡ Some y → IsTop c below y.1
  all_top n true args y e =
      record {
        call = with_ops (drop n c.ops) c;
        is = sym
            (ap (λ (z : List Value × Stack). z.1) (some_is (args, with_ops (drop n c.ops) c ∷ below) y e));
        function = refl;
        place = refl;
      }
  all_top n false args y e = absurd (cc e)

  spawned_top : (u : CodeUnit) (n : ℕ) → Asked (spawned u n (c ∷ below))
  spawned_top u n x e =
      let callee =
      bind_some (slice_get u.functions n)
      (λ callee. taken_all (length callee.params) (c ∷ below) >>= λ args. leaves (point.Spawn n args.0)
      args.1) (Ok x) e in
      let args =
      bind_some (taken_all (length callee.0.params) (c ∷ below)) (λ args. leaves (point.Spawn n args.0) args.1)
      (Ok x) callee.2 in
      leaves_top (point.Spawn n args.0.0) args.0.1 refl tt
      (all_top (length callee.0.params) (nat_le (length callee.0.params) (length c.ops)) _ args.0 args.1) x
      args.2

  work_top : (y : Work × Stack) → work_taken (c ∷ below) ≡ Some y → IsTop c below y.1
  work_top y e =
      let command = bind_some (taken_as as_text (c ∷ below)) _ y e in
      let name = bind_some (taken_as as_text command.0.1) _ y command.2 in
      let retry = bind_some (taken_as as_int name.0.1) _ y name.2 in
      let can_fail = bind_some (taken_as as_bool retry.0.1) _ y retry.2 in
      let cpus = bind_some (taken_as as_int can_fail.0.1) _ y can_fail.2 in
      let ins = bind_some (taken_as as_texts cpus.0.1) _ y cpus.2 in
      let outs = bind_some (taken_as as_texts ins.0.1) _ y ins.2 in
      let top1 = taken_top as_text (c ∷ below) itself command.0 command.1 in
      let top2 = taken_top as_text command.0.1 top1 name.0 name.1 in
      let top3 = taken_top as_int name.0.1 top2 retry.0 retry.1 in
      let top4 = taken_top as_bool retry.0.1 top3 can_fail.0 can_fail.1 in
      let top5 = taken_top as_int can_fail.0.1 top4 cpus.0 cpus.1 in
      let top6 = taken_top as_texts cpus.0.1 top5 ins.0 ins.1 in
      let top7 = taken_top as_texts ins.0.1 top6 outs.0 outs.1 in
      let same : outs.0.1 ≡ y.1 = ap (λ (z : Work × Stack). z.1) (some_is _ y outs.2) in
      subst (IsTop c below) same top7

  -- a task or a rule with its numbers in their ranges
  made_so : (w : Work) (make : ℕ → ℕ → Point) → ((cpus retry : ℕ) → is_awaited (make cpus retry) ≡ true)
      → ((cpus retry : ℕ) → retry ≤ MAX_RETRY → IsFew (make cpus retry)) → (p : Point)
      → in_ranges w make ≡ Some (Ok p) → (is_awaited p ≡ true) × IsFew p
  made_so w make awaited few p e =
      let cpus =
      and_some (processors w.cpus) (λ cpus. and_then (retries w.retry) (λ retry. Some (Ok (make cpus retry)))) p
      e in
      let retry = and_some (retries w.retry) (λ retry. Some (Ok (make cpus.0 retry))) p cpus.2 in
      let same : make cpus.0 retry.0 ≡ p = cc retry.2 in
      subst (λ p. (is_awaited p ≡ true) × IsFew p) same
      (awaited cpus.0 retry.0, few cpus.0 retry.0 (few_retries w.retry retry.0 retry.1))

  with_work_top : (makes : Work → ℕ → ℕ → Point)
      → ((w : Work) (cpus retry : ℕ) → is_awaited (makes w cpus retry) ≡ true)
      → ((w : Work) (cpus retry : ℕ) → retry ≤ MAX_RETRY → IsFew (makes w cpus retry))
      → Asked (with_work makes (c ∷ below))
  with_work_top makes awaited few x e =
      let w =
      bind_some (work_taken (c ∷ below)) (λ w. and_then (in_ranges w.0 (makes w.0)) (λ p. leaves p w.1)) (Ok x)
      e in
      let p = and_some (in_ranges w.0.0 (makes w.0.0)) (λ p. leaves p w.0.1) x w.2 in
      let so = made_so w.0.0 (makes w.0.0) (awaited w.0.0) (few w.0.0) p.0 p.1 in
      leaves_top p.0 w.0.1 so.0 so.1 (work_top w.0 w.1) x p.2

-- Rows

-- a row of the newest call has left the machine so, at a point that awaits an answer
pub record LeftSo (u : CodeUnit) (c : Call) (below : Stack) (p : Point) (s : Stack) (left : ℕ) : Type 0 where
  pub f : Function
  pub there : slice_get u.functions c.function ≡ Some f
  pub instruction : Instr
  pub code : slice_get f.code c.place ≡ Some instruction
  pub still : is_tick (Some instruction) ≡ false
  pub gone : IsAsked (with_place (c.place + 1) c) below p s
  pub ticks : left ≡ 1

module _ (u : CodeUnit) (f : Function) (g : List Value) (c : Call) (below : Stack) (p : Point) (g' : List Value)
    (s' : Stack) (left : ℕ) where
  abbrev Gone : Option Step → Type 0
  Gone o = o ≡ Some (Leaves p g' s' left)

  onto : (o : Option Stack) (t : ℕ) → Gone (o >>= goes g t) → ⊥
  onto None t e = absurd (cc e)
  onto (Some s) t e = absurd (cc e)

  stops_on : (e : RunFault) (t : ℕ) (o : Option At) → Gone (o >>= λ at. Some (Ends (point.Stop e at) t)) → ⊥
  stops_on e t None h = absurd (cc h)
  stops_on e t (Some at) h = absurd (cc h)

  changes_on : (place t : ℕ) (o : Outcome (List Value × Stack)) → Gone (onward f place o t (λ x. On x.0 x.1 t)) → ⊥
  changes_on place t None e = absurd (cc e)
  changes_on place t (Some (Ok x)) e = absurd (cc e)
  changes_on place t (Some (Err x)) e = stops_on x t (slice_get f.lines place) e

  calls_on : (n : ℕ) (b : Bool)
      → Gone
      (cond b (slice_get u.functions n >>= λ callee. enters n callee (c.place + 1) (c ∷ below) >>= goes g 0)
      (stops f c.place CallsTooDeep 1)) → ⊥
  calls_on n true e =
      let callee = bind_some (slice_get u.functions n)
      (λ callee. enters n callee (c.place + 1) (c ∷ below) >>= goes g 0) (Leaves p g' s' left) e in onto
      (enters n callee.0 (c.place + 1) (c ∷ below)) 0 callee.2
  calls_on n false e = stops_on CallsTooDeep 1 (slice_get f.lines c.place) e

  tested_on : (to : ℕ) (s : Stack) → Gone (tested to g s 1) → ⊥
  tested_on to s e =
      let b = bind_some (taken_as as_bool s) (λ b. branches b.0 to g b.1 1) (Leaves p g' s' left) e in by b.0.0
      b.0.1 b.2
    where
      by : (b : Bool) (s : Stack) → Gone (branches b to g s 1) → ⊥
      by true s e = absurd (cc e)
      by false s e = onto (moved to s) 1 e

  exits_on : (s : Stack) → Gone (exits s 1) → ⊥
  exits_on s e = let n = bind_some (taken_as as_int s) _ (Leaves p g' s' left) e in absurd (cc n.2)

  fails_on : (s : Stack) → Gone (fails f c.place s 1) → ⊥
  fails_on s e =
      let text = bind_some (taken_as as_text s) _ (Leaves p g' s' left) e in
      stops_on _ 1 (slice_get f.lines c.place) text.2

  -- the end of a thread's code
  returns_on : (ret : Ty) → Gone (returns ret g (c ∷ below) 1) → p ≡ point.Finished
  returns_on ret e =
      let r =
      bind_some (result_taken ret (c ∷ below)) (λ r. closed r.1 >>= λ rest. back r.0 g rest 1)
      (Leaves p g' s' left) e in
      let rest = bind_some (closed r.0.1) (λ rest. back r.0.0 g rest 1) (Leaves p g' s' left) r.2 in
      by r.0.0 rest.0 rest.2
    where
      by : (v : Option Value) (rest : Stack) → Gone (back v g rest 1) → p ≡ point.Finished
      by v [] e = let same : point.Finished ≡ p = cc e in sym same
      by None (w ∷ rest) e = absurd (onto (Some (w ∷ rest)) 1 e)
      by (Some v) (w ∷ rest) e = absurd (onto (pushed v (w ∷ rest)) 1 e)

  module _ (there : slice_get u.functions c.function ≡ Some f) where
    asks_on : (i : Instr) → slice_get f.code c.place ≡ Some i → is_tick (Some i) ≡ false
        → (o : Outcome (Point × Stack)) → Asked (with_place (c.place + 1) c) below o
        → Gone (onward f c.place o 1 (λ x. Leaves x.0 g x.1 1)) → LeftSo u c below p s' left
    asks_on i at still None top e = absurd (cc e)
    asks_on i at still (Some (Err x)) top e = absurd (stops_on x 1 (slice_get f.lines c.place) e)
    asks_on i at still (Some (Ok x)) top e =
        let same_point : x.0 ≡ p = cc e in
        let same_calls : x.1 ≡ s' = cc e in
        let ticks : left ≡ 1 = cc e in
        record {
          f = f;
          there = there;
          instruction = i;
          code = at;
          still = still;
          gone = subst
              (λ p. IsAsked (with_place (c.place + 1) c) below p s') same_point
              (subst (λ s. IsAsked (with_place (c.place + 1) c) below x.0 s) same_calls (top x refl));
          ticks =
              ticks;
        }

    -- a row that leaves the machine has come to the end of the code, or to such a point
    pub row_left : (i : Instr) → slice_get f.code c.place ≡ Some i → Gone (row u f i c.place g (c ∷ below) 1)
        → (p ≡ point.Finished) ⊎ LeftSo u c below p s' left
    row_left (Jump to) at e = absurd (cc e)
    row_left Tick at e = absurd (cc e)
    row_left (CallTo n) at e = absurd (calls_on n (nat_lt (length (c ∷ below)) MAX_CALLS) e)
    row_left Return at e = inl (returns_on f.ret e)
    row_left (JumpUnless to) at e = absurd (tested_on to (with_place (c.place + 1) c ∷ below) e)
    row_left Stop at e = absurd (fails_on (with_place (c.place + 1) c ∷ below) e)
    row_left Exit at e = absurd (exits_on (with_place (c.place + 1) c ∷ below) e)
    row_left FileRead at e =
        inr
        (asks_on FileRead at refl _
        (text_top (with_place (c.place + 1) c) below (λ path. point.Asks (ask.Read path)) (λ t. refl)
        (λ t. tt)) e)
    row_left FileWrite at e = inr (asks_on FileWrite at refl _ (written_top (with_place (c.place + 1) c) below) e)
    row_left FileRemove at e =
        inr
        (asks_on FileRemove at refl _
        (text_top (with_place (c.place + 1) c) below (λ path. point.Asks (ask.Remove path)) (λ t. refl)
        (λ t. tt)) e)
    row_left (FileStamp q) at e =
        inr
        (asks_on (FileStamp q) at refl _
        (text_top (with_place (c.place + 1) c) below (λ path. point.Asks (ask.Stamp path)) (λ t. refl)
        (λ t. tt)) e)
    row_left Out at e =
        inr
        (asks_on Out at refl _
        (text_top (with_place (c.place + 1) c) below (λ text. point.Asks (ask.Out text)) (λ t. refl)
        (λ t. tt)) e)
    row_left Sys at e =
        inr
        (asks_on Sys at refl _
        (text_top (with_place (c.place + 1) c) below (λ command. point.Asks (ask.Sys command)) (λ t. refl)
        (λ t. tt)) e)
    row_left OutOfDate at e = inr (asks_on OutOfDate at refl _ (compared_top (with_place (c.place + 1) c) below) e)
    row_left NewTask at e =
        inr
        (asks_on NewTask at refl _
        (with_work_top (with_place (c.place + 1) c) below
        (λ w cpus retry. point.Task (task_of w cpus retry)) (λ w cpus retry. refl)
        (λ w cpus retry few. few)) e)
    row_left Declare at e =
        inr
        (asks_on Declare at refl _
        (with_work_top (with_place (c.place + 1) c) below
        (λ w cpus retry. point.Declare (rule_of w cpus retry)) (λ w cpus retry. refl)
        (λ w cpus retry few. few)) e)
    row_left Goal at e =
        inr
        (asks_on Goal at refl _ (texts_top (with_place (c.place + 1) c) below point.Goal (λ t. refl) (λ t. tt))
        e)
    row_left (Spawn n) at e = inr (asks_on (Spawn n) at refl _ (spawned_top (with_place (c.place + 1) c) below u n) e)
    row_left Wait at e =
        inr
        (asks_on Wait at refl _ (texts_top (with_place (c.place + 1) c) below point.Wait (λ t. refl) (λ t. tt))
        e)
    row_left WaitAll at e =
        inr
        (asks_on WaitAll at refl _
        (leaves_top (with_place (c.place + 1) c) below point.WaitAll (with_place (c.place + 1) c ∷ below)
        refl tt (itself (with_place (c.place + 1) c) below)) e)
    row_left Save at e =
        inr
        (asks_on Save at refl _
        (text_top (with_place (c.place + 1) c) below (λ path. point.Save (Some path)) (λ t. refl) (λ t. tt))
        e)
    row_left SaveHere at e =
        inr
        (asks_on SaveHere at refl _
        (leaves_top (with_place (c.place + 1) c) below (point.Save None)
        (with_place (c.place + 1) c ∷ below) refl tt (itself (with_place (c.place + 1) c) below)) e)
    row_left i at e = absurd (changes_on c.place 1 (changed i g (with_place (c.place + 1) c ∷ below)) e)
