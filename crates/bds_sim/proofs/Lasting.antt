-- A valid thread of a verified unit stays valid: behind its rows, behind an answer, and as a thread that it begins.
use Rattle.std.proofs.Common.{◌≡◌, ◌≢◌, ◌≤◌, ◌<◌, ℕ, zero, suc, ◌+◌, ◌-◌, ◌^◌, List, [], ◌∷◌, ◌++◌, map, length, reverse, slice_get, true, Option, Some, None, IsSome, codes, decimal, refl, sym, ap, ◌∙◌, subst, arith, length-append}
use Rattle.std.proofs.lemmas.Fmt.{length-decimal-le}
use Rattle.std.proofs.lemmas.List.{reverse-reverse}
use Rattle.std.specs.Prelude.{unwrap_or}
use Rattle.bds_value.specs.declared.TheConstants.{MAX_TEXT, MAX_ITEMS, MAX_TASKS, MAX_THREADS}
use Rattle.bds_value.specs.declared.ids.Status.TheVariants.{Ready}
use Rattle.bds_value.specs.declared.value.Stamp.{Stamp}
use Rattle.bds_value.specs.declared.value.Ty.{Ty}
use Rattle.bds_value.specs.declared.value.Ty.TheVariants as ty
use Rattle.bds_value.specs.declared.value.Value.{Value}
use Rattle.bds_value.specs.declared.value.Value.TheVariants as value
use Rattle.bds_value.specs.Options.{◌>>=◌}
use Rattle.bds_value.specs.Value.{default_of}
use Rattle.bds_host.specs.declared.asks.Ask.{Ask}
use Rattle.bds_host.specs.declared.asks.Ask.TheVariants as ask
use Rattle.bds_code.specs.declared.instr.Instr.{Instr}
use Rattle.bds_code.specs.declared.instr.Instr.TheVariants as instr
use Rattle.bds_code.specs.declared.unit.Function.{Function}
use Rattle.bds_code.specs.declared.unit.Unit.{Unit as CodeUnit}
use Rattle.bds_code.specs.Row.{answers}
use Rattle.bds_code_frames.specs.declared.frame.Frame.{Frame}
use Rattle.bds_code_frames.specs.declared.thread.Thread.{Thread}
use Rattle.bds_code_frames.specs.Stack.{Call as Running, Stack, stack, call_of, call_at, place_of, with_ops}
use Rattle.bds_verify.specs.Threads.{AreLive, HasParts, Holds, IsThread, Typed}
use Rattle.bds_verify.specs.Verified.{VerifiedUnit}
use Rattle.bds_state_threads.specs.Made.{IsBegun}
use Rattle.bds_state_threads.proofs.Begun.{begun_valid}
use Rattle.bds_machine.specs.declared.point.Point.{Point}
use Rattle.bds_machine.specs.declared.point.Point.TheVariants as point
use Rattle.bds_machine.specs.Answers.{is_awaited, point_ty, ask_ty, with_frames, IsAnswer, IsLeft}
use Rattle.bds_machine.specs.Calls.{Step, On, Leaves, received}
use Rattle.bds_machine.specs.Carried.{Carries}
use Rattle.bds_machine.specs.Table.{step as machine_step}
use Rattle.bds_machine.proofs.Carried.{left-carries}
use Rattle.bds_machine.proofs.HeldFits.{AllHold, holds-Bool, holds-Int, holds-Text, holds-List, value-Texts}
use Rattle.bds_machine.proofs.Moves.{LeavesWell, Well}
use Rattle.bds_machine.proofs.PointTypes.{left-agrees, left-told, stamp-asked}
use Rattle.bds_machine.proofs.Progress.{next_row}
use Rattle.bds_machine.proofs.Threads.{is_left}
use Rattle.bds_schedule.specs.Ids.{task_id, thread_id}
use Rattle.bds_schedule.specs.Replies.{answer_to}
use Rattle.bds_schedule.specs.Requests.{Request}
use Rattle.bds_schedule.specs.Requests.{Question, IsThere, IsEmpty, SizeOf}
use Rattle.bds_schedule.specs.Turns.{ids_from}
use Rattle.bds_schedule.specs.Values.{of_texts}
use Rattle.bds_sim.specs.Threads.{Live}
use Rattle.bds_sim.specs.Threads.{Parts, code_behind, answered as with_values}
use Rattle.bds_sim.specs.schedule.Agree.{IsGiven, IsText}
use Rattle.bds_sim.specs.Row.{begins, locals_of, question_at, request_of}
use Rattle.bds_sim.proofs.ValidRows.{rows_keep, valid_moves}
use Rattle.bds_sim.proofs.Valid.{Keeps, StaysLive}

-- A stack as the frames of a thread

frame_of : Running → Frame
frame_of c = record { function = c.function; place = c.place; slots = c.slots; operands = reverse c.ops }

frames_of : Stack → List Frame
frames_of s = reverse (map frame_of s)

call_back : (c : Running) → call_of (frame_of c) ≡ c
unfolding frame_of
call_back c = ap (λ ops. record { function = c.function; place = c.place; slots = c.slots; ops = ops }) (reverse-reverse c.ops)

calls_back : (s : Stack) → map call_of (map frame_of s) ≡ s
calls_back [] = refl
calls_back (c ∷ s) = ap (λ d. d ∷ map call_of (map frame_of s)) (call_back c) ∙ ap (λ l. c ∷ l) (calls_back s)

stack_back : (s : Stack) → stack (frames_of s) ≡ s
unfolding frames_of
stack_back s = ap (map call_of) (reverse-reverse (map frame_of s)) ∙ calls_back s

no_frames : frames_of [] ≡ []
unfolding frames_of
no_frames = refl

abbrev thread_with : List Value → List Frame → Thread
thread_with g frames = record { parent = 0; status = Ready; globals = g; frames = frames }

-- Texts of ids are short

id_short : (word : List ℕ) (n : ℕ) → length word ≤ 10 → n ≤ 100000 → length (word ++ decimal n) ≤ MAX_TEXT
id_short word n w h = omega (arith, length-append word (decimal n), w, length-decimal-le 6 n (omega arith) (omega (arith, h)) (omega (arith, h)))

task_short : (n : ℕ) → n ≤ MAX_TASKS → length (task_id n) ≤ MAX_TEXT
task_short n h = id_short (codes "task.") n (omega arith) h

thread_short : (n : ℕ) → n < MAX_THREADS → length (thread_id n) ≤ MAX_TEXT
thread_short n h = id_short (codes "thread.") n (omega arith) (omega (arith, h))

ids_hold : (n : ℕ) (rules : List ℕ) → n + length rules ≤ MAX_TASKS + 1 → AllHold ty.Text (map value.Text (ids_from n rules))
ids_hold n [] h = tt
ids_hold n (r ∷ rs) h = (holds-Text (task_id n) (task_short n (omega (arith, h))), ids_hold (n + 1) rs (omega (arith, h)))

ids_count : (n : ℕ) (rules : List ℕ) → length (map value.Text (ids_from n rules)) ≡ length rules
ids_count n [] = refl
ids_count n (r ∷ rs) = ap suc (ids_count (n + 1) rs)

texts_hold : (n : ℕ) (rules : List ℕ) → n + length rules ≤ MAX_TASKS + 1 → Holds (of_texts (ids_from n rules)) (ty.List ty.Text)
texts_hold n rules h = holds-List ty.Text (map value.Text (ids_from n rules)) value-Texts (omega (arith, ids_count n rules, h)) (ids_hold n rules h)

-- What is given has the type of what is awaited

abbrev the_answer : List Value → Option Value
the_answer [] = None
the_answer (v ∷ us) = Some v

abbrev Fits : Stack → Ty → List Value → Type 0
Fits s t us = IsAnswer (the_answer us) t × (received (the_answer us) s ≡ with_values us s)

one_fits : (s : Stack) (t : Ty) (v : Value) (us : List Value) → us ≡ v ∷ [] → Holds v t → Fits s t us
one_fits s t v us e h = subst (Fits s t) (sym e) (h, refl)

none_fits : (s : Stack) (t : Ty) (us : List Value) → us ≡ [] → t ≡ ty.Void → Fits s t us
none_fits s t us e h = subst (Fits s t) (sym e) (h, refl)

told_ty : (t t' : Ty) → Some t ≡ Some t' → t' ≡ t
told_ty t t' e = cc

module _ (u : CodeUnit) (g : List Value) (s : Stack) (us : List Value) where
  text_fits : (t : Ty) → Some ty.Text ≡ Some t → IsText us → Fits s t us
  text_fits t e h = one_fits s t (value.Text h.0) us h.2 (subst (Holds (value.Text h.0)) (sym (told_ty ty.Text t e)) (holds-Text h.0 h.1))

  nothing_fits : (t : Ty) → Some ty.Void ≡ Some t → us ≡ [] → Fits s t us
  nothing_fits t e h = none_fits s t us h (told_ty ty.Void t e)

  contact_fits : (a : Ask) (t : Ty) → ask_ty a ≡ Some t → IsGiven (request_of u g s (point.Asks a)) us → Fits s t us
  contact_fits (ask.Read path) t e h = text_fits t e h
  contact_fits (ask.Sys command) t e h = text_fits t e h
  contact_fits (ask.Write path text) t e h = nothing_fits t e h
  contact_fits (ask.Remove path) t e h = nothing_fits t e h
  contact_fits (ask.Out text) t e h = nothing_fits t e h
  contact_fits (ask.Stamp path) t e h = absurd (cc)
  contact_fits (ask.Err text) t e h = absurd (cc)
  contact_fits (ask.Start task attempt command) t e h = absurd (cc)
  contact_fits (ask.Next ks ns) t e h = absurd (cc)
  contact_fits (ask.Save path image) t e h = absurd (cc)

  point_fits : (p : Point) (t : Ty) → point_ty p ≡ Some t → IsGiven (request_of u g s p) us → Fits s t us
  point_fits (point.Asks a) t e h = contact_fits a t e h
  point_fits (point.Old outs ins) t e h = one_fits s t (value.Bool h.0) us h.1 (subst (Holds (value.Bool h.0)) (sym (told_ty ty.Bool t e)) (holds-Bool h.0))
  point_fits (point.Task task) t e h = one_fits s t (value.Text (task_id h.0)) us h.2 (subst (Holds (value.Text (task_id h.0))) (sym (told_ty ty.Text t e)) (holds-Text (task_id h.0) (task_short h.0 h.1)))
  point_fits (point.Declare rule) t e h = nothing_fits t e h
  point_fits (point.Goal targets) t e h =
      one_fits s t (of_texts (ids_from h.0 h.1.0)) us h.1.2 (subst (Holds (of_texts (ids_from h.0 h.1.0))) (sym (told_ty (ty.List ty.Text) t e)) (texts_hold h.0 h.1.0 h.1.1))
  point_fits (point.Spawn n args) t e h = one_fits s t (value.Text (thread_id h.0)) us h.2 (subst (Holds (value.Text (thread_id h.0))) (sym (told_ty ty.Text t e)) (holds-Text (thread_id h.0) (thread_short h.0 h.1)))
  point_fits (point.Wait texts) t e h = nothing_fits t e h
  point_fits point.WaitAll t e h = nothing_fits t e h
  point_fits (point.Save path) t e h = nothing_fits t e h
  point_fits (point.Exit code) t e h = absurd (cc)
  point_fits (point.Stop fault at) t e h = absurd (cc)
  point_fits point.Finished t e h = absurd (cc)
  point_fits point.Spent t e h = absurd (cc)

-- what a stamp says to a question has the type of the answer to it
stamp_holds : (q : ℕ) (t : Ty) (st : Stamp) → slice_get answers q ≡ Some t → Holds (answer_to (question_at (Some (instr.FileStamp q))) st) t
stamp_holds zero t st e = subst (Holds (answer_to IsThere st)) (sym (told_ty ty.Bool t e)) (holds-Bool st.there)
stamp_holds (suc zero) t st e = subst (Holds (answer_to IsEmpty st)) (sym (told_ty ty.Bool t e)) (holds-Bool _)
stamp_holds (suc (suc zero)) t st e = subst (Holds (answer_to SizeOf st)) (sym (told_ty ty.Int t e)) (holds-Int _)
stamp_holds (suc (suc (suc n))) t st e = absurd (cc)

module _ (u : CodeUnit) (v : VerifiedUnit u) (g : List Value) (frames : List Frame) where
  abbrev s : Stack
  s = stack frames

  abbrev thread : Thread
  thread = thread_with g frames

  code_is : (p : Point) (left : IsLeft u p thread) → code_behind u s ≡ Some left.awaits.instruction
  code_is p left =
      ap (λ x. x >>= λ at. slice_get u.functions at.0 >>= λ (f : Function). slice_get f.code (at.1 - 1)) left.awaits.stands
      ∙ ap (λ x. x >>= λ (f : Function). slice_get f.code (left.awaits.at + 1 - 1)) left.awaits.there
      ∙ ap (slice_get left.awaits.f.code) (let q : left.awaits.at + 1 - 1 ≡ left.awaits.at = omega arith in q) ∙ left.awaits.code

  -- behind an answer of the type
  valid_behind : (p : Point) (left : IsLeft u p thread) (us : List Value) (s' : Stack) → Fits s left.type us → with_values us s ≡ Some s' → Live u (record { globals = g; calls = s' })
  valid_behind p left us s' fits e =
      let h = left.awaits.valid (the_answer us) fits.0 (frames_of s') (fits.1 ∙ e ∙ ap Some (sym (stack_back s'))) in
      record { valid = subst (AreLive u g) (stack_back s') h.0; some = λ none. h.1 (ap frames_of none ∙ no_frames) }

  answer_valid : (p : Point) → LeavesWell u p g s → is_awaited p ≡ true → (us : List Value) (s' : Stack) → IsGiven (request_of u g s p) us → with_values us s ≡ Some s' → Live u (record { globals = g; calls = s' })
  answer_valid p w awaited us s' given e = go (point_ty p) refl
    where
      left : IsLeft u p thread
      left = is_left u p thread refl w

      go : (told : Option Ty) → point_ty p ≡ told → Live u (record { globals = g; calls = s' })
      go (Some t) is = valid_behind p left us s' (subst (λ t. Fits s t us) (sym (left-agrees u p thread left t is)) (point_fits u g s us p t is given)) e
      go None is =
          let stamp = left-told u p thread left is in
          let path = stamp.0 in
          let left' : IsLeft u (point.Asks (ask.Stamp path)) thread = subst (λ p. IsLeft u p thread) stamp.1 left in
          let asked = stamp-asked u path thread left' in
          let given' : IsGiven (request_of u g s (point.Asks (ask.Stamp path))) us = subst (λ p. IsGiven (request_of u g s p) us) stamp.1 given in
          let question : code_behind u s ≡ Some (instr.FileStamp asked.0) = code_is (point.Asks (ask.Stamp path)) left' ∙ ap Some asked.1 in
          let holds : Holds (answer_to (question_at (code_behind u s)) given'.0) left'.type = subst (λ c. Holds (answer_to (question_at c) given'.0) left'.type) (sym question) (stamp_holds asked.0 left'.type given'.0 asked.2) in
          valid_behind (point.Asks (ask.Stamp path)) left' us s' (one_fits s left'.type (answer_to (question_at (code_behind u s)) given'.0) us given'.1 holds) e

  -- a new thread
  new_valid : (n : ℕ) (args : List Value) → LeavesWell u (point.Spawn n args) g s → Live u (begins u g n args)
  new_valid n args w =
      let p = point.Spawn n args in
      let left : IsLeft u p thread = is_left u p thread refl w in
      let carried = left-carries u p thread left in
      let f : Function = carried.0 in
      let call : Running = call_at n (args ++ map default_of f.locals) in
      let new : Thread = thread_with g (frames_of (call ∷ [])) in
      let begun : IsBegun u 0 n args g new = record { f = f; there = carried.1; parent = refl; status = refl; globals = refl; frames = stack_back (call ∷ []) } in
      let type : left.type ≡ ty.Text = left-agrees u p thread left ty.Text refl in
      let typed : Typed g u.globals = held s left.type left.awaits.stands (subst (Holds (value.Text [])) (sym type) (holds-Text [] (omega arith))) left.awaits.valid in
      let h : HasParts u Ready g (frames_of (call ∷ [])) = begun_valid u v 0 n args g new begun (λ f' there'. subst (λ (f : Function). Typed args f.params) (same_function f f' carried.1 there') carried.2) typed in
      let live : AreLive u g (call ∷ []) = subst (AreLive u g) (stack_back (call ∷ [])) h.0 in
      record {
        valid = subst (λ o. AreLive u g (call_at n (args ++ locals_of o) ∷ [])) (sym carried.1) live;
        some = λ e. absurd (cc);
      }
    where
      same_function : (f f' : Function) → slice_get u.functions n ≡ Some f → slice_get u.functions n ≡ Some f' → f ≡ f'
      same_function f f' a b = cc

      held : (s : Stack) (t : Ty) {at : ℕ × ℕ} → place_of s ≡ Some at → Holds (value.Text []) t
          → ((v : Option Value) → IsAnswer v t → (frames' : List Frame) → received v s ≡ Some (stack frames') → IsThread u (with_frames frames' thread)) → Typed g u.globals
      held [] t e h valid = absurd (cc)
      held (c ∷ below) t e h valid =
          let s' : Stack = with_ops (value.Text [] ∷ c.ops) c ∷ below in
          (valid (Some (value.Text [])) h (frames_of s') (ap Some (sym (stack_back s')))).0.globals_typed

-- at a row of a valid thread
module _ (u : CodeUnit) (v : VerifiedUnit u) (m : Parts) (p : Point) (g : List Value) (s : Stack) (live : Live u m) (is : machine_step u m.globals m.calls 1 ≡ Some (Leaves p g s 1)) where
  leaves_well : is_awaited p ≡ true → LeavesWell u p g s
  leaves_well awaited =
      let r = next_row u m.globals m.calls 1 v live.valid live.some in
      let same : r.0 ≡ Leaves p g s 1 = told_step r.0 (Leaves p g s 1) (sym r.1 ∙ is) in
      (subst (Well u m.calls 1) same r.2).0 awaited
    where
      told_step : (x y : Step) → Some x ≡ Some y → x ≡ y
      told_step x y e = cc

pub stays_live : (u : CodeUnit) → VerifiedUnit u → StaysLive u (Live u)
stays_live u v = record {
  begun = λ m n args g s live is.
      subst (λ s. LeavesWell u (point.Spawn n args) g s → Live u (begins u g n args)) (stack_back s) (new_valid u v g (frames_of s) n args) (leaves_well u v m (point.Spawn n args) g s live is refl);
  answered = λ m p g s us s' live awaited is given e.
      subst (λ s. LeavesWell u p g s → IsGiven (request_of u g s p) us → with_values us s ≡ Some s' → Live u (record { globals = g; calls = s' })) (stack_back s)
      (λ w given e. answer_valid u v g (frames_of s) p w awaited us s' given e) (leaves_well u v m p g s live is awaited) given e;
}

-- what is told of the rows of a verified unit
pub keeps : (u : CodeUnit) → VerifiedUnit u → Keeps u
keeps u v =
    let moves = valid_moves u (rows_keep u v) in
    record { moves = moves.moves; stays = moves.stays; short = moves.short }
