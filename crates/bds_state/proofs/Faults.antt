-- What is named as not valid isn't, and what the judges of parts tell is what is told of the whole.
use Rattle.std.proofs.Common.{◌≡◌, ◌≢◌, ◌+◌, ◌-◌, ◌<◌, ◌≤◌, ℕ, Bool, true, false, List, [], ◌∷◌, length, slice_get}
use Rattle.std.proofs.Common.{take, min, nat_le, below_more, Option, Some, None, Err, arith, refl, sym, subst}
use Rattle.std.proofs.lemmas.Bool.{leb-false, leb-true}
use Rattle.std.proofs.lemmas.Option.{slice_get_within}
use Rattle.std.specs.List.{All}
use Rattle.bds_value.specs.declared.TheConstants.{MAX_THREADS}
use Rattle.bds_code.specs.declared.unit.Unit.{Unit as CodeUnit}
use Rattle.bds_code_frames.specs.declared.frame.Frame.{Frame}
use Rattle.bds_code_frames.specs.declared.thread.Thread.{Thread}
use Rattle.bds_code_frames.specs.Counts.{IsCounted}
use Rattle.bds_rules.specs.declared.rule.Rule.{Rule}
use Rattle.bds_rules.specs.Own.{first_unfit as unfit_rule}
use Rattle.bds_rules.specs.RuleFields.{AreFieldRules}
use Rattle.bds_rules.proofs.UnfitLaws.{IsBehind, behind_at, first_unfit_rule}
use Rattle.bds_state_threads.specs.Fields.{IsFieldFrame, IsFieldThread}
use Rattle.bds_state_threads.proofs.Chains.{thread-own, thread-frames}
use Rattle.bds_tasks.specs.declared.task.Task.{Task}
use Rattle.bds_tasks.specs.Sound.{AreTasks, EndedBadly, IsSound, first_unfit}
use Rattle.bds_tasks.specs.TaskFields.{AreFieldTasks}
use Rattle.bds_tasks.specs.Tasks.{task_at}
use Rattle.bds_tasks.proofs.UnfitLaws.{IsFirstUnsound, sound_at, unfit_unsound}
use Rattle.bds_state.specs.declared.judge.StateFault.{StateFault}
use Rattle.bds_state.specs.declared.judge.StateFault.TheVariants.{BadThread, BadFrame, BadTask, BadRule, NoMemory}
use Rattle.bds_state.specs.Judged.{AreThreadsBelow, IsBadOwn, IsBadRule, IsBadTask, IsBadThread, IsOwnOf, IsRuleOf}
use Rattle.bds_state.specs.Judged.{IsStateFault, IsTaskOf}
use Rattle.bds_state.specs.Judging.{IsFirstUnmade, IsUnmade, JudgesThreadOf, JudgesThreadsOf, earlier}
use Rattle.bds_state.specs.Parts.{Parts}
use Rattle.bds_state.specs.Valid.{AreThreads, IsCountedThread, IsMade, IsThreadOf, IsValid}
use Rattle.bds_state.proofs.Places.{all_weaker, at_place, same_item, there_within}

own_of : (u : CodeUnit) (tasks threads n : ℕ) (t : Thread) → IsThreadOf tasks threads u n t
    → IsOwnOf u tasks threads n t
own_of u tasks threads n t h = record { parent = h.parent; ids = h.ids; own = thread-own u t h.valid }

task_of : (threads : ℕ) (ts : List Task) (n : ℕ) (t : Task) → AreTasks ts → All (IsMade threads) ts
    → task_at ts n ≡ Some t → IsTaskOf threads ts n t
task_of threads ts n t a made e =
    record { made = at_place (IsMade threads) ts (n - 1) t made e; sound = sound_at ts n t a e }

rule_of : (rs : List Rule) (n : ℕ) (r : Rule) → IsBehind (take (n - 1) rs) r → IsRuleOf rs n r
rule_of rs n r h = record { legal = h.legal; own = h.own }

behind_of : (rs : List Rule) (n : ℕ) (r : Rule) → IsRuleOf rs n r → IsBehind (take (n - 1) rs) r
behind_of rs n r h = record { legal = h.legal; own = h.own }

bad_own : (u : CodeUnit) (tasks : ℕ) (ts : List Thread) (n : ℕ) → AreThreads u tasks ts → (o : Option Thread)
    → slice_get ts n ≡ o → IsBadOwn u tasks (length ts) n o → ⊥
bad_own u tasks ts n a None e bad =
    let first = there_within ts 0 a.main in
    let none : slice_get ts 0 ≡ None = subst (λ k. slice_get ts k ≡ None) bad e in
    let some : slice_get ts 0 ≡ Some first.0 = first.1 in
    absurd (cc)
bad_own u tasks ts n a (Some t) e bad = bad (own_of u tasks (length ts) n t (a.each n t e))

pub fault_invalid : (s : Parts) (f : StateFault) → IsStateFault s f → f ≢ NoMemory → IsValid s → ⊥
fault_invalid s (BadThread n) h never v =
    bad_own s.unit (length s.tasks) s.threads n v.threads (slice_get s.threads n) refl h.bad
fault_invalid s (BadFrame n i) h never v =
    h.frame.bad (thread-frames s.unit h.thread (v.threads.each n h.thread h.there).valid i h.frame.x h.frame.there)
fault_invalid s (BadTask n) h never v =
    h.1.bad (task_of (length s.threads) s.tasks n h.1.task v.tasks v.makers h.1.there)
fault_invalid s (BadRule n) h never v =
    h.3.bad (rule_of s.rules n h.3.rule (behind_at s.rules n h.3.rule v.rules h.3.there))
fault_invalid s NoMemory h never v = never refl

-- Threads

frame_counted : (x : Frame) → IsFieldFrame x → IsCounted x
frame_counted x h = record { slots = h.slots.count; operands = h.operands.count }

pub field_counted : (t : Thread) → IsFieldThread t → IsCountedThread t
field_counted t h =
    record { ids = h.status; frames = all_weaker IsFieldFrame IsCounted frame_counted t.frames h.frames }

-- one more valid thread
pub more_threads : (u : CodeUnit) (tasks : ℕ) (ts : List Thread) (n : ℕ) (t : Thread) → slice_get ts n ≡ Some t
    → IsThreadOf tasks (length ts) u n t → AreThreadsBelow u tasks ts n → AreThreadsBelow u tasks ts (n + 1)
more_threads u tasks ts n t e h before k x l d =
    below_more (λ j. (y : Thread) → slice_get ts j ≡ Some y
    → IsThreadOf tasks (length ts) u j y) n (λ j m y f. before j y m f)
    (λ y f. subst (IsThreadOf tasks (length ts) u n) (same_item (slice_get ts n) t y e f) h) k l x d

-- the fault of a thread behind valid ones
pub first_bad_thread : (u : CodeUnit) (tasks : ℕ) (ts : List Thread) (n : ℕ) (t : Thread) (f : StateFault)
    → AreThreadsBelow u tasks ts n → slice_get ts n ≡ Some t
    → JudgesThreadOf u tasks (length ts) n t (Err f) → JudgesThreadsOf u tasks ts (Err f)
first_bad_thread u tasks ts n t (BadThread k) before e h =
    subst (λ j. IsBadThread u tasks ts j) (sym h.0) (record {
      before = before;
      bad = subst (IsBadOwn u tasks (length ts) n) (sym e) h.1;
    })
first_bad_thread u tasks ts n t (BadFrame k i) before e h =
    subst (λ j. JudgesThreadsOf u tasks ts (Err (BadFrame j i))) (sym h.0) (record {
      before = before;
      thread = t;
      there = e;
      own = h.1;
      frame = h.2;
    })
first_bad_thread u tasks ts n t (BadTask k) before e h = absurd h
first_bad_thread u tasks ts n t (BadRule k) before e h = absurd h
first_bad_thread u tasks ts n t NoMemory before e h = tt

pub no_thread : (u : CodeUnit) (tasks : ℕ) (ts : List Thread) → length ts ≡ 0 → IsBadThread u tasks ts 0
no_thread u tasks [] e = record { before = λ k t l d. absurd (omega (arith, l)); bad = refl }
no_thread u tasks (t ∷ ts) e = absurd (let some : length (t ∷ ts) ≡ 0 = e in omega (arith, some))

pub all_threads : (u : CodeUnit) (tasks : ℕ) (ts : List Thread) (n : ℕ) → 1 ≤ length ts → length ts ≤ MAX_THREADS
    → length ts ≤ n → AreThreadsBelow u tasks ts n → AreThreads u tasks ts
all_threads u tasks ts n some few past before = record {
  main = some;
  count = few;
  each = λ k t e. let l = slice_get_within ts k t e in before k t (omega (arith, l, past)) e;
}

-- Tasks

task_here : (threads : ℕ) (ts : List Task) (k : ℕ) (t : Task) → IsMade threads t → IsSound (EndedBadly ts) (k - 1) t
    → IsTaskOf threads ts k t
task_here threads ts k t made sound = record { made = made; sound = sound }

-- all are sound, and one isn't made
pub unmade_bad : (threads : ℕ) (ts : List Task) (n : ℕ) → AreTasks ts → IsUnmade threads ts n → IsBadTask threads ts n
unmade_bad threads ts n a h = record {
  number = h.number;
  task = h.task;
  there = h.there;
  bad = λ x. h.bad x.made;
  before = λ k t o l e. task_here threads ts k t (h.before k t o l e) (sound_at ts k t a e);
}

-- none is unmade, and one isn't sound
unsound_bad : (threads : ℕ) (ts : List Task) (n : ℕ) → All (IsMade threads) ts → IsFirstUnsound ts n
    → IsBadTask threads ts n
unsound_bad threads ts n made h = record {
  number = h.number;
  task = h.task;
  there = h.there;
  bad = λ x. h.bad x.sound;
  before = λ k t o l e. task_here threads ts k t (at_place (IsMade threads) ts (k - 1) t made e) (h.before k t o l e);
}

-- the earlier of one that isn't sound and one that isn't made
earlier_bad : (threads : ℕ) (ts : List Task) (n m : ℕ) → IsFirstUnsound ts n → IsUnmade threads ts m → (b : Bool)
    → nat_le n m ≡ b → IsBadTask threads ts (min n m)
earlier_bad threads ts n m h g true d =
    let first : n ≤ m = leb-true n m d in
    let least : n ≡ min n m = omega (arith, first) in
    subst (IsBadTask threads ts) least (record {
      number = h.number;
      task = h.task;
      there = h.there;
      bad = λ x. h.bad x.sound;
      before = λ k t o l e. task_here threads ts k t (g.before k t o (omega (arith, l, first)) e) (h.before k t o l e);
    })
earlier_bad threads ts n m h g false d =
    let second : m < n = leb-false n m d in
    let least : m ≡ min n m = omega (arith, second) in
    subst (IsBadTask threads ts) least (record {
      number = g.number;
      task = g.task;
      there = g.there;
      bad = λ x. g.bad x.made;
      before = λ k t o l e. task_here threads ts k t (g.before k t o l e) (h.before k t o (omega (arith, l, second)) e);
    })

pub unfit_bad : (threads : ℕ) (ts : List Task) (n : ℕ) (other : Option ℕ) → AreFieldTasks ts → first_unfit ts ≡ Some n
    → IsFirstUnmade threads ts other → IsBadTask threads ts (earlier n other)
unfit_bad threads ts n None f e made = unsound_bad threads ts n made (unfit_unsound ts n f e)
unfit_bad threads ts n (Some m) f e h = earlier_bad threads ts n m (unfit_unsound ts n f e) h (nat_le n m) refl

-- Rules

pub unfit_bad_rule : (rs : List Rule) (n : ℕ) → AreFieldRules rs → unfit_rule rs ≡ Some n → IsBadRule rs n
unfit_bad_rule rs n f e =
    let h = first_unfit_rule rs n f e in
    record {
      number = h.number;
      rule = h.rule;
      there = h.there;
      bad = λ x. h.bad (behind_of rs n h.rule x);
      before = λ k r o l d. rule_of rs k r (h.earlier k r o l d);
    }
