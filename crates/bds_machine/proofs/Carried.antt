-- What a point carries is within the limits: it was taken from typed operands.
use Rattle.std.proofs.Common.{◌≡◌, ◌≤◌, ◌&&◌, ℕ, ℤ, pos, negsuc, List, [], ◌∷◌, ◌++◌, length, reverse, slice_get, nat_le, cond, Bool, true, false, Option, Some, None, Ok, Err, refl, sym, ap, ◌∙◌, subst, arith}
use Rattle.std.specs.List.{AllByRecursion}
use Rattle.std.proofs.lemmas.Bool.{leb-true}
use Rattle.std.proofs.lemmas.List.{length-reverse}
use Rattle.std.proofs.lemmas.List.Elements.{All-from_recursion}
use Rattle.bds_value.specs.declared.TheConstants.{MAX_CPUS, MAX_ITEMS, MAX_RETRY, MAX_TEXT}
use Rattle.bds_value.specs.declared.faults.RunFault.TheVariants.{BadOption}
use Rattle.bds_value.specs.declared.value.Ty.{Ty}
use Rattle.bds_value.specs.declared.value.Ty.TheVariants as ty
use Rattle.bds_value.specs.declared.value.Value.{Value}
use Rattle.bds_value.specs.declared.value.Value.TheVariants as value
use Rattle.bds_value.specs.Fields.{AreFieldTexts}
use Rattle.bds_value.specs.Options.{◌>>=◌}
use Rattle.bds_value.specs.Readers.{text_at, items_at, as_bool, as_int, as_text, as_items, as_texts, all_texts}
use Rattle.bds_value.specs.Spelling.{IsWithinHere, IsWithinLimits}
use Rattle.bds_value.specs.Value.{type_of, IsWellFormed, FitsHere}
use Rattle.bds_value.proofs.Every.{every-Text, every-List}
use Rattle.bds_value.proofs.ResultLaws.{of_text, of_list}
use Rattle.bds_host.specs.declared.asks.Ask.TheVariants as ask
use Rattle.bds_code.specs.declared.instr.Instr.{Instr}
use Rattle.bds_code.specs.declared.instr.Instr.TheVariants.{FileRead, FileWrite, FileRemove, FileStamp, Out, Sys, OutOfDate, NewTask, Declare, Goal, Spawn, Wait, WaitAll, Save, SaveHere}
use Rattle.bds_code.specs.declared.unit.Function.{Function}
use Rattle.bds_code.specs.declared.unit.Unit.{Unit as CodeUnit}
use Rattle.bds_code.specs.Operands.{swapped}
use Rattle.bds_code.specs.Row.{row, task_parts}
use Rattle.bds_code_frames.specs.Stack.{Call, Stack, stack, popped}
use Rattle.bds_code_frames.specs.declared.thread.Thread.{Thread}
use Rattle.bds_verify.specs.Threads.{Holds, IsCall}
use Rattle.bds_machine.specs.declared.point.Point.{Point}
use Rattle.bds_machine.specs.declared.point.Point.TheVariants as point
use Rattle.bds_machine.specs.Answers.{IsLeft}
use Rattle.bds_machine.specs.Carried.{AreShort, TaskFits, RuleFits, Carries}
use Rattle.bds_machine_values.specs.Faults.{Outcome, and_then}
use Rattle.bds_machine_values.specs.Operands.{taken_as, taken_all}
use Rattle.bds_machine.specs.Points.{leaves, with_text, with_texts, written, compared, spawned, asked}
use Rattle.bds_machine.specs.Tasks.{Work, ranged, processors, retries, work_taken, in_ranges, task_of, rule_of}
use Rattle.bds_machine.proofs.Effects.{called-ok, asked-ok}
use Rattle.bds_machine.proofs.Fits.{Kept}
use Rattle.bds_machine.proofs.OperandFits.{bool_there, int_there, text_there, kept_here, take_any, take_all, assoc, typed-reverse}
use Rattle.bds_machine.proofs.Takes.{then_is}
use Rattle.bds_machine.proofs.TypesFits.{swapped-ok}

abbrev IsShort : List ℕ → Type 0
IsShort t = length t ≤ MAX_TEXT

-- what values of a type are read as

abbrev Held : {X : Type 0} → (Value → Option X) → Ty → (X → Type 0) → Type 0
Held {X = X} reads t Q = (v : Value) → Holds v t → (x : X) × (reads v ≡ Some x) × Q x

held-Text : Held as_text ty.Text IsShort
held-Text v h = let r = text_there v h in (r.0, r.1, (every-Text IsWithinHere r.0).0 (subst IsWithinLimits r.2 h.limits))

held-Int : Held as_int ty.Int (λ n. Unit {0})
held-Int v h = let r = int_there v h in (r.0, r.1, tt)

held-Bool : Held as_bool ty.Bool (λ b. Unit {0})
held-Bool v h = let r = bool_there v h in (r.0, r.1, tt)

text_read : (v : Value) → type_of v ≡ ty.Text → IsWithinLimits v → (t : List ℕ) × (as_text v ≡ Some t) × IsShort t
text_read v e h = let r = of_text v e in (r.0, ap as_text r.1 ∙ ap text_at (value.outs-Text r.0), (every-Text IsWithinHere r.0).0 (subst IsWithinLimits r.1 h))

all_read : (vs : List Value) → AllByRecursion (λ v. type_of v ≡ ty.Text) vs → AllByRecursion IsWithinLimits vs
    → (ts : List (List ℕ)) × (all_texts vs ≡ Some ts) × (length ts ≡ length vs) × AllByRecursion IsShort ts
all_read [] h k = ([], refl, refl, tt)
all_read (v ∷ vs) h k =
    let t = text_read v h.0 k.0 in
    let ts = all_read vs h.1 k.1 in (
      t.0 ∷ ts.0,
      then_is (as_text v) t.0 (λ t. all_texts vs >>= λ ts. Some (t ∷ ts)) (Some (t.0 ∷ ts.0)) t.1 (then_is (all_texts vs) ts.0 (λ ts. Some (t.0 ∷ ts)) (Some (t.0 ∷ ts.0)) ts.1 refl),
      (let e : length ts.0 ≡ length vs = ts.2 in omega (arith, e)),
      (t.2, ts.3),
    )

held-Texts : Held as_texts (ty.List ty.Text) AreShort
held-Texts v h =
    let items = of_list v ty.Text h.type in
    let parts = (every-List FitsHere ty.Text items.0).0 (subst IsWellFormed items.1 h.formed) in
    let short = (every-List IsWithinHere ty.Text items.0).0 (subst IsWithinLimits items.1 h.limits) in
    let ts = all_read items.0 parts.0 short.1 in
    let few : length items.0 ≤ MAX_ITEMS = short.0 in (
      ts.0,
      then_is (as_items v) items.0 all_texts (Some ts.0) (ap as_items items.1 ∙ ap items_at (value.outs-List ty.Text items.0)) ts.1,
      record { count = subst (λ n. n ≤ MAX_ITEMS) (sym ts.2) few; each = All-from_recursion IsShort ts.0 ts.3 },
    )

field-texts : (ts : List (List ℕ)) → AreShort ts → AreFieldTexts ts
field-texts ts h = record { count = let few = h.count in omega (arith, few); each = h.each }

module _ {R : Type 0} (P : Option R → Type 0) (f : Function) (c : Call) (below : Stack) where
  -- an operand as what it is read as, with what is known of that
  take_held : {X : Type 0} (reads : Value → Option X) (t : Ty) (Q : X → Type 0) (shape : List Ty) (d : Call) (go : X × Stack → Option R) → Held reads t Q → Kept f (t ∷ shape) c d
      → ((x : X) (e : Call) → Q x → Kept f shape c e → P (go (x, e ∷ below))) → P (taken_as reads (d ∷ below) >>= go)
  take_held reads t Q shape d go there k then =
      subst P (sym (assoc P f c below (popped (d ∷ below)) (λ r. reads r.0 >>= λ x. Some (x, r.1)) go))
      (take_any P f c below t shape d (λ r. (reads r.0 >>= λ x. Some (x, r.1)) >>= go) k
      (λ v e h k. let x = there v h in subst (λ o. P ((o >>= λ x. Some (x, e ∷ below)) >>= go)) (sym x.1) (then x.0 e x.2 k)))

-- the numbers in their ranges

both : (a b : Bool) → (a && b) ≡ true → (a ≡ true) × (b ≡ true)
both true true h = (refl, refl)
both true false h = absurd (cc)
both false b h = absurd (cc)

ranged_in : (low high n m : ℕ) (b : Bool) → (nat_le low n && nat_le n high) ≡ b → cond b (Some (Ok n)) (Some (Err (BadOption (pos n)))) ≡ Some (Ok m) → (low ≤ m) × (m ≤ high)
ranged_in low high n m false e h = absurd (cc)
ranged_in low high n m true e h =
    let same : n ≡ m = cc in
    let parts = both (nat_le low n) (nat_le n high) e in
    subst (λ k. (low ≤ k) × (k ≤ high)) same (leb-true low n parts.0, leb-true n high parts.1)

ranged-ok : (low high : ℕ) (z : ℤ) (m : ℕ) → ranged low high z ≡ Some (Ok m) → (low ≤ m) × (m ≤ high)
ranged-ok low high (pos n) m h = ranged_in low high n m (nat_le low n && nat_le n high) refl h
ranged-ok low high (negsuc n) m h = absurd (cc)

and_then-ok : {X Y : Type 0} (o : Outcome X) (go : X → Outcome Y) (y : Y) → and_then o go ≡ Some (Ok y) → (x : X) × (o ≡ Some (Ok x)) × (go x ≡ Some (Ok y))
and_then-ok None go y h = absurd (cc)
and_then-ok (Some (Ok x)) go y h = (x, refl, h)
and_then-ok (Some (Err e)) go y h = absurd (cc)

record InRanges (c r : ℕ) : Type 0 where
  some : 1 ≤ c
  cpus : c ≤ MAX_CPUS
  retry : r ≤ MAX_RETRY

in_ranges-ok : (w : Work) (make : ℕ → ℕ → Point) (p : Point) → in_ranges w make ≡ Some (Ok p) → (cpus : ℕ) × (retry : ℕ) × InRanges cpus retry × (make cpus retry ≡ p)
in_ranges-ok w make p h =
    let a = and_then-ok (processors w.cpus) (λ cpus. and_then (retries w.retry) (λ retry. Some (Ok (make cpus retry)))) p h in
    let b = and_then-ok (retries w.retry) (λ retry. Some (Ok (make a.0 retry))) p a.2 in
    let x = ranged-ok 1 MAX_CPUS w.cpus a.0 a.1 in
    let y = ranged-ok 0 MAX_RETRY w.retry b.0 b.1 in
    (a.0, b.0, record { some = x.0; cpus = x.1; retry = y.1 }, (let e : Some (Ok (make a.0 b.0)) ≡ Some (Ok p) = b.2 in cc))

record WorkFits (w : Work) : Type 0 where
  outs : AreShort w.outs
  ins : AreShort w.ins
  name : IsShort w.name
  command : IsShort w.command

abbrev TakesWork : Option (Work × Stack) → Type 0
TakesWork o = (w : Work) (s : Stack) → o ≡ Some (w, s) → WorkFits w

work-fits : (f : Function) (rest : List Ty) (c : Call) (below : Stack) → Kept f (task_parts ++ rest) c c → TakesWork (work_taken (c ∷ below))
work-fits f rest c below k0 =
    take_held TakesWork f c below as_text ty.Text IsShort _ c _ held-Text k0 (λ command d1 q1 k1.
    take_held TakesWork f c below as_text ty.Text IsShort _ d1 _ held-Text k1 (λ name d2 q2 k2.
    take_held TakesWork f c below as_int ty.Int (λ n. Unit {0}) _ d2 _ held-Int k2 (λ retry d3 q3 k3.
    take_held TakesWork f c below as_bool ty.Bool (λ b. Unit {0}) _ d3 _ held-Bool k3 (λ can_fail d4 q4 k4.
    take_held TakesWork f c below as_int ty.Int (λ n. Unit {0}) _ d4 _ held-Int k4 (λ cpus d5 q5 k5.
    take_held TakesWork f c below as_texts (ty.List ty.Text) AreShort _ d5 _ held-Texts k5 (λ ins d6 q6 k6.
    take_held TakesWork f c below as_texts (ty.List ty.Text) AreShort _ d6 _ held-Texts k6 (λ outs d7 q7 k7.
    λ w s e.
    let work : Work = record { outs = outs; ins = ins; cpus = cpus; can_fail = can_fail; retry = retry; name = name; command = command } in
    let same : (work, d7 ∷ below) ≡ (w, s) = cc in
    subst WorkFits (ap (λ (x : Work × Stack). x.0) same) (record { outs = q7; ins = q6; name = q2; command = q1 }))))))))

module _ (u : CodeUnit) where
  -- each point that comes out carries what it may
  abbrev AllCarry : Outcome (Point × Stack) → Type 0
  AllCarry o = (p : Point) (s : Stack) → o ≡ Some (Ok (p, s)) → Carries u p

  carry-left : (p : Point) (s : Stack) → Carries u p → AllCarry (leaves p s)
  carry-left p s h q s' e = let pairs : (p, s) ≡ (q, s') = cc in subst (Carries u) (ap (λ (x : Point × Stack). x.0) pairs) h

  carry-work : (makes : Work → ℕ → ℕ → Point) → ((w : Work) (cpus retry : ℕ) → WorkFits w → InRanges cpus retry → Carries u (makes w cpus retry))
      → (o : Option (Work × Stack)) → TakesWork o → AllCarry (o >>= λ w. and_then (in_ranges w.0 (makes w.0)) (λ p. leaves p w.1))
  carry-work makes h None k p s e = absurd (cc)
  carry-work makes h (Some w) k p s e =
      let a = and_then-ok (in_ranges w.0 (makes w.0)) (λ p. leaves p w.1) (p, s) e in
      let r = in_ranges-ok w.0 (makes w.0) a.0 a.1 in
      carry-left a.0 w.1 (subst (Carries u) r.3 (h w.0 r.0 r.1 (k w.0 w.1 refl) r.2)) p s a.2

  module _ (f : Function) (c : Call) (below : Stack) where
    carry-text : (rest : List Ty) (makes : List ℕ → Point) → ((t : List ℕ) → IsShort t → Carries u (makes t)) → Kept f (ty.Text ∷ rest) c c → AllCarry (with_text makes (c ∷ below))
    carry-text rest makes h k = take_held AllCarry f c below as_text ty.Text IsShort rest c (λ t. leaves (makes t.0) t.1) held-Text k (λ t d q k. carry-left (makes t) (d ∷ below) (h t q))

    carry-texts : (rest : List Ty) (makes : List (List ℕ) → Point) → ((ts : List (List ℕ)) → AreShort ts → Carries u (makes ts)) → Kept f (ty.List ty.Text ∷ rest) c c → AllCarry (with_texts makes (c ∷ below))
    carry-texts rest makes h k =
        take_held AllCarry f c below as_texts (ty.List ty.Text) AreShort rest c (λ t. leaves (makes t.0) t.1) held-Texts k (λ t d q k. carry-left (makes t) (d ∷ below) (h t q))

    carry-written : (rest : List Ty) → Kept f (ty.Text ∷ ty.Text ∷ rest) c c → AllCarry (written (c ∷ below))
    carry-written rest k =
        take_held AllCarry f c below as_text ty.Text IsShort (ty.Text ∷ rest) c (λ text. taken_as as_text text.1 >>= λ path. leaves (point.Asks (ask.Write path.0 text.0)) path.1) held-Text k
        (λ text d q k. take_held AllCarry f c below as_text ty.Text IsShort rest d (λ path. leaves (point.Asks (ask.Write path.0 text)) path.1) held-Text k
        (λ path e r k. carry-left (point.Asks (ask.Write path text)) (e ∷ below) (r, q)))

    carry-compared : (rest : List Ty) → Kept f (ty.List ty.Text ∷ ty.List ty.Text ∷ rest) c c → AllCarry (compared (c ∷ below))
    carry-compared rest k =
        take_held AllCarry f c below as_texts (ty.List ty.Text) AreShort (ty.List ty.Text ∷ rest) c (λ ins. taken_as as_texts ins.1 >>= λ outs. leaves (point.Old outs.0 ins.0) outs.1) held-Texts k
        (λ ins d q k. take_held AllCarry f c below as_texts (ty.List ty.Text) AreShort rest d (λ outs. leaves (point.Old outs.0 ins) outs.1) held-Texts k
        (λ outs e r k. carry-left (point.Old outs ins) (e ∷ below) (r, q)))

    carry-spawned : (rest : List Ty) (n : ℕ) (callee : Function) → slice_get u.functions n ≡ Some callee → Kept f (reverse callee.params ++ rest) c c → AllCarry (spawned u n (c ∷ below))
    carry-spawned rest n callee there k =
        subst (λ o. AllCarry (o >>= λ callee. taken_all (length callee.params) (c ∷ below) >>= λ args. leaves (point.Spawn n args.0) args.1)) (sym there)
        (take_all AllCarry f c below (reverse callee.params) rest (length callee.params) c (λ args. leaves (point.Spawn n args.0) args.1) (sym (length-reverse callee.params)) k
        (λ vs d h k. carry-left (point.Spawn n (reverse vs)) (d ∷ below) (callee, there, typed-reverse callee.params vs h)))

    module _ (shape next : List Ty) (call : IsCall f shape c) where
      -- the operands that an instruction takes
      takes : (types : List Ty) (t : Ty) → swapped types t shape ≡ Ok next → (rest : List Ty) × Kept f (types ++ rest) c c
      takes types t h = let r = swapped-ok types t shape next h in (r.0, kept_here f shape (types ++ r.0) c r.1 call)

      task-fits : (w : Work) (cpus retry : ℕ) → WorkFits w → InRanges cpus retry → TaskFits (task_of w cpus retry)
      task-fits w cpus retry h r = record {
        maker = refl;
        legal = record { command = h.command; name = h.name; outs = field-texts w.outs h.outs; ins = field-texts w.ins h.ins; some_cpus = r.some; cpus = r.cpus; retry = r.retry };
        outs = h.outs;
        ins = h.ins;
      }

      rule-fits : (w : Work) (cpus retry : ℕ) → WorkFits w → InRanges cpus retry → RuleFits (rule_of w cpus retry)
      rule-fits w cpus retry h r = record {
        legal = record { outs = field-texts w.outs h.outs; ins = field-texts w.ins h.ins; some_cpus = r.some; cpus = r.cpus; retry = r.retry; name = h.name; command = h.command };
        outs = h.outs;
        ins = h.ins;
      }

      pub asked-carries : (i : Instr) → row u f i shape ≡ Ok next → AllCarry (asked u i (c ∷ below))
      asked-carries FileRead h = let k = takes (ty.Text ∷ []) ty.Text h in carry-text k.0 (λ path. point.Asks (ask.Read path)) (λ t q. q) k.1
      asked-carries FileWrite h = let k = takes (ty.Text ∷ ty.Text ∷ []) ty.Void h in carry-written k.0 k.1
      asked-carries FileRemove h = let k = takes (ty.Text ∷ []) ty.Void h in carry-text k.0 (λ path. point.Asks (ask.Remove path)) (λ t q. q) k.1
      asked-carries (FileStamp n) h =
          let e = asked-ok n shape next h in
          let k = takes (ty.Text ∷ []) e.0 e.2 in
          carry-text k.0 (λ path. point.Asks (ask.Stamp path)) (λ t q. q) k.1
      asked-carries Out h = let k = takes (ty.Text ∷ []) ty.Void h in carry-text k.0 (λ text. point.Asks (ask.Out text)) (λ t q. q) k.1
      asked-carries Sys h = let k = takes (ty.Text ∷ []) ty.Text h in carry-text k.0 (λ command. point.Asks (ask.Sys command)) (λ t q. q) k.1
      asked-carries OutOfDate h = let k = takes (ty.List ty.Text ∷ ty.List ty.Text ∷ []) ty.Bool h in carry-compared k.0 k.1
      asked-carries NewTask h =
          let k = takes task_parts ty.Text h in
          carry-work (λ w cpus retry. point.Task (task_of w cpus retry)) task-fits (work_taken (c ∷ below)) (work-fits f k.0 c below k.1)
      asked-carries Declare h =
          let k = takes task_parts ty.Void h in
          carry-work (λ w cpus retry. point.Declare (rule_of w cpus retry)) rule-fits (work_taken (c ∷ below)) (work-fits f k.0 c below k.1)
      asked-carries Goal h = let k = takes (ty.List ty.Text ∷ []) (ty.List ty.Text) h in carry-texts k.0 point.Goal (λ t q. q) k.1
      asked-carries (Spawn n) h =
          let e = called-ok u n (λ callee. ty.Text) shape next h in
          let k = takes (reverse e.0.params) ty.Text e.2 in
          carry-spawned k.0 n e.0 e.1 k.1
      asked-carries Wait h = let k = takes (ty.List ty.Text ∷ []) ty.Void h in carry-texts k.0 point.Wait (λ t q. q) k.1
      asked-carries WaitAll h = carry-left point.WaitAll (c ∷ below) tt
      asked-carries Save h = let k = takes (ty.Text ∷ []) ty.Void h in carry-text k.0 (λ path. point.Save (Some path)) (λ t q. q) k.1
      asked-carries SaveHere h = carry-left (point.Save None) (c ∷ below) tt
      asked-carries i h = λ p s e. absurd (cc)

pub left-carries : (u : CodeUnit) (p : Point) (t : Thread) → IsLeft u p t → Carries u p
left-carries u p t left = asked-carries u left.awaits.f left.call left.below left.shape left.next left.typed left.awaits.instruction left.taken p (stack t.frames) left.asks
