-- What a thread is given fits what it awaits.
use Rattle.std.proofs.Common.{◌≡◌, ℕ, zero, suc, ◌+◌, ◌<◌, ◌≤◌, ◌^◌, List, [], ◌∷◌, ◌++◌, length, Option, Some, Result, Ok, Err, slice_get, refl, sym, ap, ◌∙◌, subst, arith, length-append}
use Rattle.std.specs.Prelude.{codes, cond, decimal}
use Rattle.std.specs.List.{AllByRecursion}
use Rattle.std.proofs.lemmas.Bool.{lt-ltb, le-ltb}
use Rattle.std.proofs.lemmas.Fmt.{length-decimal-le}
use Rattle.bds_value.specs.declared.TheConstants.{MAX_TEXT}
use Rattle.bds_value.specs.declared.value.Stamp.{Stamp}
use Rattle.bds_value.specs.declared.value.Ty.{Ty}
use Rattle.bds_value.specs.declared.value.Ty.TheVariants as ty
use Rattle.bds_value.specs.declared.value.Value.{Value}
use Rattle.bds_value.specs.declared.value.Value.TheVariants as value
use Rattle.bds_value.specs.declared.faults.RunFault.TheVariants as run
use Rattle.bds_value.specs.TextResult.{held}
use Rattle.bds_code.specs.declared.instr.Instr.TheVariants.{FileStamp}
use Rattle.bds_code.specs.declared.unit.Unit.{Unit as CodeUnit}
use Rattle.bds_code.specs.Row.{answers}
use Rattle.bds_code_frames.specs.declared.thread.Thread.{Thread}
use Rattle.bds_host.specs.declared.asks.Ask.TheVariants as ask
use Rattle.bds_machine.specs.Answers.{AwaitsAnswer, FitsPoint, IsAnswer, IsLeft, value_of}
use Rattle.bds_machine.specs.declared.point.Answer.{Answer}
use Rattle.bds_machine.specs.declared.point.Point.{Point}
use Rattle.bds_machine.specs.declared.point.Point.TheVariants as point
use Rattle.bds_machine.proofs.HeldFits.{holds-Bool, holds-Int}
use Rattle.bds_machine.proofs.PointTypes.{awaits_fitting, stamp-asked}
use Rattle.bds_verify.specs.Threads.{Holds}
use Rattle.bds_schedule.specs.Ids.{task_id, thread_id}
use Rattle.bds_schedule.specs.Replies.{answer_to, text_given}
use Rattle.bds_schedule.specs.Turns.{ids_from}
use Rattle.bds_sim.specs.Row.{question_at}
use Rattle.bds_state.specs.Parts.{Parts}
use Rattle.bds_engine_stages.specs.declared.stage.Stage.{Stage}
use Rattle.bds_engine_stages.specs.declared.stop.Halt.{Halt}
use Rattle.bds_engine_stages.specs.Held.{GoesBack, IsOut}
use Rattle.bds_engine.specs.Given.{Breaks, Gives}

pub awaits_so : (s : Parts) (k : ℕ) (t : Thread) (p : Point) (a : Answer) → IsOut s k p t → FitsPoint p a → (type : Ty) × AwaitsAnswer s.unit t type × IsAnswer (value_of a) type
awaits_so s k t p a out fits = awaits_fitting s.unit p t (λ e. out.left) a fits

-- Texts within the limit

pub long_text : (s s' : Parts) (k : ℕ) (t : Thread) (g : Stage) (r : Result Stage Halt) (text : List ℕ) → MAX_TEXT < length text → length text < 2 ^ 64 → Breaks s t (run.TooLong (length text)) s' r → Gives s k t g s' r (text_given text)
long_text s s' k t g r text long fits h =
    let same : held (length text) ≡ length text = omega (arith, fits) in
    subst (λ o. Gives s k t g s' r o) (sym (ap (λ b. cond b (Err (run.TooLong (held (length text)))) (Ok (value.Text text ∷ []))) (lt-ltb MAX_TEXT (length text) long)))
    (subst (λ n. Breaks s t (run.TooLong n) s' r) (sym same) h)

pub short_text : (s s' : Parts) (k : ℕ) (t : Thread) (g : Stage) (r : Result Stage Halt) (text : List ℕ) → length text ≤ MAX_TEXT → GoesBack k (Some (value.Text text)) t s s' g r → Gives s k t g s' r (text_given text)
short_text s s' k t g r text short h =
    subst (λ o. Gives s k t g s' r o) (sym (ap (λ b. cond b (Err (run.TooLong (held (length text)))) (Ok (value.Text text ∷ []))) (le-ltb MAX_TEXT (length text) short))) h

-- Ids

short_number : (words : List ℕ) (n : ℕ) → length words ≤ 7 → n < 2 ^ 32 → length (words ++ decimal n) ≤ MAX_TEXT
short_number words n few low =
    let digits : length (decimal n) ≤ 10 = length-decimal-le 10 n (omega arith) (omega (arith, low)) (omega (arith, low)) in
    let both : length (words ++ decimal n) ≡ length words + length (decimal n) = length-append words (decimal n) in
    omega (arith, digits, both, few)

pub short_task : (n : ℕ) → n < 2 ^ 32 → length (task_id n) ≤ MAX_TEXT
short_task n low = short_number (codes "task.") n (omega arith) low

pub short_thread : (n : ℕ) → n < 2 ^ 32 → length (thread_id n) ≤ MAX_TEXT
short_thread n low = short_number (codes "thread.") n (omega arith) low

pub short_ids : (n : ℕ) (ns : List ℕ) → n + length ns < 2 ^ 32 → AllByRecursion (λ t. length t ≤ MAX_TEXT) (ids_from n ns)
short_ids n [] low = tt
short_ids n (r ∷ ns) low =
    let long : length (r ∷ ns) ≡ length ns + 1 = omega arith in
    (short_task n (omega (arith, low, long)), short_ids (n + 1) ns (omega (arith, low, long)))

pub count_ids : (n : ℕ) (ns : List ℕ) → length (ids_from n ns) ≡ length ns
count_ids n [] = refl
count_ids n (r ∷ ns) = ap (λ x. suc x) (count_ids (n + 1) ns)

-- Stamps

stamp_holds : (q : ℕ) (type : Ty) (stamp : Stamp) → slice_get answers q ≡ Some type → Holds (answer_to (question_at (Some (FileStamp q))) stamp) type
stamp_holds zero type stamp e = let q : ty.Bool ≡ type = cc e in subst (Holds (value.Bool stamp.there)) q (holds-Bool stamp.there)
stamp_holds (suc zero) type stamp e = let q : ty.Bool ≡ type = cc e in subst (Holds _) q (holds-Bool _)
stamp_holds (suc (suc zero)) type stamp e = let q : ty.Int ≡ type = cc e in subst (Holds _) q (holds-Int _)
stamp_holds (suc (suc (suc n))) type stamp e = absurd (cc e)

-- what a stamp says to the question behind which a thread stands
pub stamp_fits : (u : CodeUnit) (path : List ℕ) (t : Thread) → (left : IsLeft u (point.Asks (ask.Stamp path)) t) → (q : ℕ) → left.awaits.instruction ≡ FileStamp q → (stamp : Stamp) (v : Option Value)
    → v ≡ Some (answer_to (question_at (Some (FileStamp q))) stamp) → (type : Ty) × AwaitsAnswer u t type × IsAnswer v type
stamp_fits u path t left q is stamp v e =
    let x = stamp-asked u path t left in
    let same : x.0 ≡ q = let z : FileStamp x.0 ≡ FileStamp q = sym x.1 ∙ is in cc z in
    (left.type, left.awaits, subst (λ w. IsAnswer w left.type) (sym e) (stamp_holds q left.type stamp (subst (λ n. slice_get answers n ≡ Some left.type) same x.2)))
