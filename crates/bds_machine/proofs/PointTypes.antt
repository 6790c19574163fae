-- The type of what a thread awaits is the one that its point tells.
use Rattle.std.proofs.Common.{◌≡◌, ℕ, List, ◌∷◌, length, slice_get, true, Option, Some, None, Ok, Err, refl, sym, ap, subst, ◌∙◌}
use Rattle.bds_value.specs.declared.value.Ty.{Ty}
use Rattle.bds_value.specs.Options.{◌>>=◌}
use Rattle.bds_value.specs.Readers.{as_text, as_texts}
use Rattle.bds_host.specs.declared.asks.Ask.TheVariants as ask
use Rattle.bds_code.specs.declared.instr.Instr.{Instr}
use Rattle.bds_code.specs.declared.instr.Instr.TheVariants.{FileRead, FileWrite, FileRemove, FileStamp, Out, Sys, OutOfDate, NewTask, Declare, Goal, Spawn, Wait, WaitAll, Save, SaveHere}
use Rattle.bds_code.specs.declared.unit.Unit.{Unit as CodeUnit}
use Rattle.bds_code.specs.Row.{answers}
use Rattle.bds_code_frames.specs.Stack.{Stack, stack}
use Rattle.bds_code_frames.specs.declared.thread.Thread.{Thread}
use Rattle.bds_machine.specs.declared.point.Answer.{Answer}
use Rattle.bds_machine.specs.declared.point.Point.{Point}
use Rattle.bds_machine.specs.declared.point.Point.TheVariants as point
use Rattle.bds_machine_values.specs.Operands.{taken_as, taken_all}
use Rattle.bds_machine_values.specs.Faults.{Outcome, and_then}
use Rattle.bds_machine.specs.Points.{asked, leaves, with_work}
use Rattle.bds_machine.specs.Tasks.{Work, processors, retries, work_taken, in_ranges, task_of, rule_of}
use Rattle.bds_machine.specs.Answers.{awaited, point_ty, is_awaited, value_of, AwaitsAnswer, FitsPoint, IsAnswer, IsLeft}

-- a type that a point doesn't contradict
abbrev pub Agrees : Ty → Point → Type 0
Agrees type p = (t : Ty) → point_ty p ≡ Some t → type ≡ t

-- each point that comes out
abbrev AllPoints : (Point → Type 0) → Outcome (Point × Stack) → Type 0
AllPoints P o = (p : Point) (s : Stack) → o ≡ Some (Ok (p, s)) → P p

module _ (P : Point → Type 0) where
  point_left : (p : Point) (s : Stack) → P p → AllPoints P (leaves p s)
  point_left p s h q s' e = let pairs : (p, s) ≡ (q, s') = cc in subst P (ap (λ (x : Point × Stack). x.0) pairs) h

  points_behind : {X : Type 0} (o : Option X) (go : X → Outcome (Point × Stack)) → ((x : X) → AllPoints P (go x)) → AllPoints P (o >>= go)
  points_behind None go h q s e = absurd (cc)
  points_behind (Some x) go h q s e = h x q s e

  points_then : {X : Type 0} (o : Outcome X) (go : X → Outcome (Point × Stack)) → ((x : X) → AllPoints P (go x)) → AllPoints P (and_then o go)
  points_then None go h q s e = absurd (cc)
  points_then (Some (Err x)) go h q s e = absurd (cc)
  points_then (Some (Ok x)) go h q s e = h x q s e

-- behind what is taken, and at once
module _ (P : Point → Type 0) {X : Type 0} (makes : X → Point) (h : (x : X) → P (makes x)) where
  point_of_taken : (o : Option (X × Stack)) → AllPoints P (o >>= λ r. leaves (makes r.0) r.1)
  point_of_taken o = points_behind P o (λ r. leaves (makes r.0) r.1) (λ r. point_left P (makes r.0) r.1 (h r.0))

module _ (P : Point → Type 0) (makes : Work → ℕ → ℕ → Point) (h : (w : Work) (cpus retry : ℕ) → P (makes w cpus retry)) where
  point_of_ranges : (w : Work) (s : Stack) → AllPoints P (and_then (in_ranges w (makes w)) (λ p. leaves p s))
  point_of_ranges w s q s' e = ranges_made (processors w.cpus) (retries w.retry) e
    where
      ranges_made : (a b : Outcome ℕ) → and_then (and_then a (λ cpus. and_then b (λ retry. Some (Ok (makes w cpus retry))))) (λ p. leaves p s) ≡ Some (Ok (q, s')) → P q
      ranges_made None b e = absurd (cc)
      ranges_made (Some (Err x)) b e = absurd (cc)
      ranges_made (Some (Ok cpus)) None e = absurd (cc)
      ranges_made (Some (Ok cpus)) (Some (Err x)) e = absurd (cc)
      ranges_made (Some (Ok cpus)) (Some (Ok retry)) e = point_left P (makes w cpus retry) s (h w cpus retry) q s' e

  point_of_work : (s : Stack) → AllPoints P (with_work makes s)
  point_of_work s = points_behind P (work_taken s) (λ w. and_then (in_ranges w.0 (makes w.0)) (λ p. leaves p w.1)) (λ w. point_of_ranges w.0 w.1)

asked-agrees : (u : CodeUnit) (type : Ty) (i : Instr) → awaited i ≡ Some type → (s : Stack) → AllPoints (Agrees type) (asked u i s)
asked-agrees u type FileRead a s = point_of_taken (Agrees type) (λ path. point.Asks (ask.Read path)) (λ x t e. cc) (taken_as as_text s)
asked-agrees u type FileWrite a s =
    points_behind (Agrees type) (taken_as as_text s) (λ text. taken_as as_text text.1 >>= λ path. leaves (point.Asks (ask.Write path.0 text.0)) path.1)
    (λ text. point_of_taken (Agrees type) (λ path. point.Asks (ask.Write path text.0)) (λ x t e. cc) (taken_as as_text text.1))
asked-agrees u type FileRemove a s = point_of_taken (Agrees type) (λ path. point.Asks (ask.Remove path)) (λ x t e. cc) (taken_as as_text s)
asked-agrees u type (FileStamp q) a s = point_of_taken (Agrees type) (λ path. point.Asks (ask.Stamp path)) (λ x t e. absurd (cc)) (taken_as as_text s)
asked-agrees u type Out a s = point_of_taken (Agrees type) (λ text. point.Asks (ask.Out text)) (λ x t e. cc) (taken_as as_text s)
asked-agrees u type Sys a s = point_of_taken (Agrees type) (λ command. point.Asks (ask.Sys command)) (λ x t e. cc) (taken_as as_text s)
asked-agrees u type OutOfDate a s =
    points_behind (Agrees type) (taken_as as_texts s) (λ ins. taken_as as_texts ins.1 >>= λ outs. leaves (point.Old outs.0 ins.0) outs.1)
    (λ ins. point_of_taken (Agrees type) (λ outs. point.Old outs ins.0) (λ x t e. cc) (taken_as as_texts ins.1))
asked-agrees u type NewTask a s = point_of_work (Agrees type) (λ w cpus retry. point.Task (task_of w cpus retry)) (λ w cpus retry t e. cc) s
asked-agrees u type Declare a s = point_of_work (Agrees type) (λ w cpus retry. point.Declare (rule_of w cpus retry)) (λ w cpus retry t e. cc) s
asked-agrees u type Goal a s = point_of_taken (Agrees type) point.Goal (λ x t e. cc) (taken_as as_texts s)
asked-agrees u type (Spawn f) a s =
    points_behind (Agrees type) (slice_get u.functions f) (λ callee. taken_all (length callee.params) s >>= λ args. leaves (point.Spawn f args.0) args.1)
    (λ callee. point_of_taken (Agrees type) (point.Spawn f) (λ x t e. cc) (taken_all (length callee.params) s))
asked-agrees u type Wait a s = point_of_taken (Agrees type) point.Wait (λ x t e. cc) (taken_as as_texts s)
asked-agrees u type WaitAll a s = point_left (Agrees type) point.WaitAll s (λ t e. cc)
asked-agrees u type Save a s = point_of_taken (Agrees type) (λ path. point.Save (Some path)) (λ x t e. cc) (taken_as as_text s)
asked-agrees u type SaveHere a s = point_left (Agrees type) (point.Save None) s (λ t e. cc)
asked-agrees u type i a s = λ p s' e. absurd (cc)

-- what a thread awaits is of the type that its point tells
pub left-agrees : (u : CodeUnit) (p : Point) (thread : Thread) (left : IsLeft u p thread) → Agrees left.type p
left-agrees u p thread left = asked-agrees u left.type left.awaits.instruction left.awaits.awaits (left.call ∷ left.below) p (stack thread.frames) left.asks

is_told : (p : Point) (t : Ty) → point_ty p ≡ Some t → is_awaited p ≡ true
is_told (point.Exit code) t e = absurd (cc)
is_told (point.Stop f at) t e = absurd (cc)
is_told point.Finished t e = absurd (cc)
is_told point.Spent t e = absurd (cc)
is_told p t e = refl

-- a thread that was left at a point awaits an answer that fits the point
pub awaits_fitting : (u : CodeUnit) (p : Point) (thread : Thread) → (is_awaited p ≡ true → IsLeft u p thread) → (a : Answer) → FitsPoint p a → (t : Ty) × AwaitsAnswer u thread t × IsAnswer (value_of a) t
awaits_fitting u p thread left a fits =
    let l = left (is_told p fits.type fits.told) in
    let same : l.type ≡ fits.type = left-agrees u p thread l fits.type fits.told in
    (l.type, l.awaits, subst (IsAnswer (value_of a)) (sym same) fits.answer)

-- only an instruction about a stamp asks for one
abbrev StampsBy : Instr → Point → Type 0
StampsBy i p = (path : List ℕ) → p ≡ point.Asks (ask.Stamp path) → (q : ℕ) × (i ≡ FileStamp q)

asked-stamp : (u : CodeUnit) (i : Instr) (s : Stack) → AllPoints (StampsBy i) (asked u i s)
asked-stamp u FileRead s = point_of_taken (StampsBy FileRead) (λ path. point.Asks (ask.Read path)) (λ x path e. absurd (cc)) (taken_as as_text s)
asked-stamp u FileWrite s =
    points_behind (StampsBy FileWrite) (taken_as as_text s) (λ text. taken_as as_text text.1 >>= λ path. leaves (point.Asks (ask.Write path.0 text.0)) path.1)
    (λ text. point_of_taken (StampsBy FileWrite) (λ path. point.Asks (ask.Write path text.0)) (λ x path e. absurd (cc)) (taken_as as_text text.1))
asked-stamp u FileRemove s = point_of_taken (StampsBy FileRemove) (λ path. point.Asks (ask.Remove path)) (λ x path e. absurd (cc)) (taken_as as_text s)
asked-stamp u (FileStamp q) s = point_of_taken (StampsBy (FileStamp q)) (λ path. point.Asks (ask.Stamp path)) (λ x path e. (q, refl)) (taken_as as_text s)
asked-stamp u Out s = point_of_taken (StampsBy Out) (λ text. point.Asks (ask.Out text)) (λ x path e. absurd (cc)) (taken_as as_text s)
asked-stamp u Sys s = point_of_taken (StampsBy Sys) (λ command. point.Asks (ask.Sys command)) (λ x path e. absurd (cc)) (taken_as as_text s)
asked-stamp u OutOfDate s =
    points_behind (StampsBy OutOfDate) (taken_as as_texts s) (λ ins. taken_as as_texts ins.1 >>= λ outs. leaves (point.Old outs.0 ins.0) outs.1)
    (λ ins. point_of_taken (StampsBy OutOfDate) (λ outs. point.Old outs ins.0) (λ x path e. absurd (cc)) (taken_as as_texts ins.1))
asked-stamp u NewTask s = point_of_work (StampsBy NewTask) (λ w cpus retry. point.Task (task_of w cpus retry)) (λ w cpus retry path e. absurd (cc)) s
asked-stamp u Declare s = point_of_work (StampsBy Declare) (λ w cpus retry. point.Declare (rule_of w cpus retry)) (λ w cpus retry path e. absurd (cc)) s
asked-stamp u Goal s = point_of_taken (StampsBy Goal) point.Goal (λ x path e. absurd (cc)) (taken_as as_texts s)
asked-stamp u (Spawn f) s =
    points_behind (StampsBy (Spawn f)) (slice_get u.functions f) (λ callee. taken_all (length callee.params) s >>= λ args. leaves (point.Spawn f args.0) args.1)
    (λ callee. point_of_taken (StampsBy (Spawn f)) (point.Spawn f) (λ x path e. absurd (cc)) (taken_all (length callee.params) s))
asked-stamp u Wait s = point_of_taken (StampsBy Wait) point.Wait (λ x path e. absurd (cc)) (taken_as as_texts s)
asked-stamp u WaitAll s = point_left (StampsBy WaitAll) point.WaitAll s (λ path e. absurd (cc))
asked-stamp u Save s = point_of_taken (StampsBy Save) (λ path. point.Save (Some path)) (λ x path e. absurd (cc)) (taken_as as_text s)
asked-stamp u SaveHere s = point_left (StampsBy SaveHere) (point.Save None) s (λ path e. absurd (cc))
asked-stamp u i s = λ p s' e. absurd (cc)

-- a point tells the type of its answer, or asks for a stamp
abbrev Told : Point → Type 0
Told p = point_ty p ≡ None → (path : List ℕ) × (p ≡ point.Asks (ask.Stamp path))

asked-told : (u : CodeUnit) (i : Instr) (s : Stack) → AllPoints Told (asked u i s)
asked-told u FileRead s = point_of_taken Told (λ path. point.Asks (ask.Read path)) (λ x e. absurd (cc)) (taken_as as_text s)
asked-told u FileWrite s =
    points_behind Told (taken_as as_text s) (λ text. taken_as as_text text.1 >>= λ path. leaves (point.Asks (ask.Write path.0 text.0)) path.1)
    (λ text. point_of_taken Told (λ path. point.Asks (ask.Write path text.0)) (λ x e. absurd (cc)) (taken_as as_text text.1))
asked-told u FileRemove s = point_of_taken Told (λ path. point.Asks (ask.Remove path)) (λ x e. absurd (cc)) (taken_as as_text s)
asked-told u (FileStamp q) s = point_of_taken Told (λ path. point.Asks (ask.Stamp path)) (λ x e. (x, refl)) (taken_as as_text s)
asked-told u Out s = point_of_taken Told (λ text. point.Asks (ask.Out text)) (λ x e. absurd (cc)) (taken_as as_text s)
asked-told u Sys s = point_of_taken Told (λ command. point.Asks (ask.Sys command)) (λ x e. absurd (cc)) (taken_as as_text s)
asked-told u OutOfDate s =
    points_behind Told (taken_as as_texts s) (λ ins. taken_as as_texts ins.1 >>= λ outs. leaves (point.Old outs.0 ins.0) outs.1)
    (λ ins. point_of_taken Told (λ outs. point.Old outs ins.0) (λ x e. absurd (cc)) (taken_as as_texts ins.1))
asked-told u NewTask s = point_of_work Told (λ w cpus retry. point.Task (task_of w cpus retry)) (λ w cpus retry e. absurd (cc)) s
asked-told u Declare s = point_of_work Told (λ w cpus retry. point.Declare (rule_of w cpus retry)) (λ w cpus retry e. absurd (cc)) s
asked-told u Goal s = point_of_taken Told point.Goal (λ x e. absurd (cc)) (taken_as as_texts s)
asked-told u (Spawn f) s =
    points_behind Told (slice_get u.functions f) (λ callee. taken_all (length callee.params) s >>= λ args. leaves (point.Spawn f args.0) args.1)
    (λ callee. point_of_taken Told (point.Spawn f) (λ x e. absurd (cc)) (taken_all (length callee.params) s))
asked-told u Wait s = point_of_taken Told point.Wait (λ x e. absurd (cc)) (taken_as as_texts s)
asked-told u WaitAll s = point_left Told point.WaitAll s (λ e. absurd (cc))
asked-told u Save s = point_of_taken Told (λ path. point.Save (Some path)) (λ x e. absurd (cc)) (taken_as as_text s)
asked-told u SaveHere s = point_left Told (point.Save None) s (λ e. absurd (cc))
asked-told u i s = λ p s' e. absurd (cc)

pub left-told : (u : CodeUnit) (p : Point) (thread : Thread) → IsLeft u p thread → Told p
left-told u p thread left = asked-told u left.awaits.instruction (left.call ∷ left.below) p (stack thread.frames) left.asks

-- where a stamp is asked for, the instruction says what is asked of it
pub stamp-asked : (u : CodeUnit) (path : List ℕ) (thread : Thread) (left : IsLeft u (point.Asks (ask.Stamp path)) thread) → (q : ℕ) × (left.awaits.instruction ≡ FileStamp q) × (slice_get answers q ≡ Some left.type)
stamp-asked u path thread left =
    let r = asked-stamp u left.awaits.instruction (left.call ∷ left.below) (point.Asks (ask.Stamp path)) (stack thread.frames) left.asks path refl in
    (r.0, r.1, ap awaited (sym r.1) ∙ left.awaits.awaits)
