-- A goal makes the tasks of its plan, or none.
use Rattle.std.proofs.Common.{◌≡◌, ◌∙◌, ◌<◌, ℕ, nat_eq, zero, suc, ◌+◌, ◌≤◌, Bool, true, false, List, [], ◌∷◌, ◌++◌, length, take, fold, Option, Some, None, sym, ap, refl, subst, arith, append_assoc, append-nil, ◌⊎◌, inl, inr, if◌then◌else◌}
use Rattle.std.specs.Prelude.{slice_get, nat_le}
use Rattle.std.proofs.lemmas.Bool.{eq-eqb, eqb-true, false≢true, or_cases, or_parts}
use Rattle.std.proofs.lemmas.List.Folds.{list_any-append}
use Rattle.std.proofs.lemmas.List.{length_push, take_all}
use Rattle.std.proofs.lemmas.Option.{slice_get_within}
use Rattle.bds_value.specs.declared.value.Stamp.{Stamp}
use Rattle.bds_value.specs.declared.value.Value.{Value}
use Rattle.bds_value.specs.declared.TheConstants.{MAX_TASKS}
use Rattle.bds_host.specs.declared.asks.Ask.{Ask}
use Rattle.bds_host.specs.declared.asks.Ask.TheVariants as ask
use Rattle.bds_host.specs.declared.asks.Reply.{Reply}
use Rattle.bds_host.specs.declared.asks.Reply.TheVariants as reply
use Rattle.bds_host.specs.Asks.{fits}
use Rattle.bds_tasks.specs.declared.task.Task.{Task}
use Rattle.bds_tasks.specs.Tasks.{added}
use Rattle.bds_rules.specs.declared.rule.Rule.{Rule}
use Rattle.bds_goal.specs.Chains.{Follow, In, is_in}
use Rattle.bds_goal.specs.Goals.{IsPlan, stamp_in}
use Rattle.bds_goal.specs.Needs.{rule_at}
use Rattle.bds_goal.specs.Reach.{reach, has_cycle}
use Rattle.bds_goal.specs.Plan.{plan, unmade}
use Rattle.bds_meaning.specs.Acts.{Code}
use Rattle.bds_schedule.specs.Configuration.{Life, Thread, Mode, at_point, turn_of, in_mode, lives, with_life_from}
use Rattle.bds_meaning.specs.History.{pair, History, Lives}
use Rattle.bds_schedule.specs.Moves.{move_in}
use Rattle.bds_schedule.specs.Replies.{stamp_in as stamp_given}
use Rattle.bds_meaning.specs.Run.{Program, Conf, Moves, source_move}
use Rattle.bds_schedule.specs.Stages.{End, fails, unless_fault}
use Rattle.bds_schedule.specs.Steps.{Step, Goes, Asks}
use Rattle.bds_meaning.specs.Threads.{thread_step}
use Rattle.bds_schedule.specs.Turns as turns
use Rattle.bds_schedule.specs.Turns.{achieved, ids_from, planned_if, reached, task_of_rule, tasks_planned, where_room}
use Rattle.bds_goal.proofs.GoalCycle.{reach_is_computed}
use Rattle.bds_goal.proofs.GoalPlan.{plan_is_computed}
use Rattle.bds_meaning_laws.specs.Goals.{AreTasksOf, GoalsMakeTheirPlan, IsAchieved, IsAtGoal, IsGoalStep, IsOnce, stamped}
use Rattle.bds_meaning_laws.proofs.Changes.{none_some, some_same}
use Rattle.bds_meaning_laws.proofs.Room.{quiet}
use Rattle.bds_meaning_laws.proofs.Steps.{IsFresh, IsStamped, behind_reply, keeps_source}

-- Tasks of rules

record AreMade (k : ℕ) (rules : List Rule) (ns : List ℕ) (ts us : List Task) : Type 0 where
  new : List Task
  made : AreTasksOf k rules ns new
  are : us ≡ ts ++ new

planned_made : (k : ℕ) (rules : List Rule) (ns : List ℕ) (ts : List Task) → AreMade k rules ns ts (fold (λ tasks r. added tasks (task_of_rule k (rule_at rules r))) ts ns)
planned_made k rules [] ts = record { new = []; made = tt; are = sym (append-nil ts) }
planned_made k rules (n ∷ ns) ts =
    let rest = planned_made k rules ns (added ts (task_of_rule k (rule_at rules n))) in
    record { new = _ ∷ rest.new; made = (record { made_so = refl; untried = refl; waits = refl }, rest.made); are = rest.are ∙ append_assoc ts (_ ∷ []) rest.new }

life_at : (ts : List (Thread Code)) (n i k : ℕ) (life : Life Code) (t : Thread Code) → k ≡ n + i → slice_get ts i ≡ Some t → slice_get (with_life_from n k life ts) i ≡ Some (lives life t)
life_at [] n i k life t same is = absurd (false≢true (ap (λ (o : Option (Thread Code)). is_there o) is))
  where
    is_there : Option (Thread Code) → Bool
    is_there None = false
    is_there (Some t) = true
life_at (x ∷ ts) n zero k life t same is =
    let here : n ≡ k = omega arith in
    ap (λ b. Some (if b then lives life x else x)) (eq-eqb n k here) ∙ ap (λ (o : Option (Thread Code)). Some (lives life (or_this o))) is
  where
    or_this : Option (Thread Code) → Thread Code
    or_this None = x
    or_this (Some y) = y
life_at (x ∷ ts) n (suc i) k life t same is = life_at ts (n + 1) i k life t (omega arith) is

-- A plan holds what is planned, each once

module _ (Next : ℕ → ℕ → Type 0) (Todo : ℕ → Type 0) where
  behind_placed : (placed ns : List ℕ) (m : ℕ) → Follow Next Todo placed ns → In ns m → Todo m × (is_in placed m ≡ false)
  behind_placed placed [] m follow there = absurd (false≢true there)
  behind_placed placed (n ∷ ns) m follow there = go (λ h. behind_placed (placed ++ n ∷ []) ns m follow.2 h) (or_cases (nat_eq m n) _ there)
    where
      go : (In ns m → Todo m × (is_in (placed ++ n ∷ []) m ≡ false)) → (nat_eq m n ≡ true) ⊎ (is_in ns m ≡ true) → Todo m × (is_in placed m ≡ false)
      go more (inl same) = subst (λ k. Todo k × (is_in placed k ≡ false)) (sym (eqb-true m n same)) (follow.0.todo, follow.0.new)
      go more (inr h) = let rest = more h in (rest.0, (or_parts (is_in placed m) _ (sym (list_any-append (nat_eq m) placed (n ∷ [])) ∙ rest.1)).0)

  follow_once : (placed ns : List ℕ) → Follow Next Todo placed ns → IsOnce ns
  follow_once placed [] follow = tt
  follow_once placed (n ∷ ns) follow = (go (is_in ns n) refl, follow_once (placed ++ n ∷ []) ns follow.2)
    where
      go : (b : Bool) → is_in ns n ≡ b → b ≡ false
      go false is = refl
      go true is =
          let new = (behind_placed (placed ++ n ∷ []) ns n follow.2 is).1 in
          let last = (or_parts (is_in placed n) _ (sym (list_any-append (nat_eq n) placed (n ∷ [])) ∙ new)).1 in
          absurd (false≢true (sym (or_parts (nat_eq n n) false last).0 ∙ eq-eqb n n refl))

-- The stamps that a history ends with

record EndsStamped (h : History) (files : List (List ℕ)) (stamps : List Stamp) : Type 0 where
  before : History
  asked : h ≡ before ++ stamped (take (length stamps) files) stamps
  most : length stamps ≤ length files

stamped_more : (files : List (List ℕ)) (stamps : List Stamp) (file : List ℕ) (s : Stamp) → slice_get files (length stamps) ≡ Some file
    → stamped (take (length stamps) files) stamps ++ pair (ask.Stamp file) (reply.Stamp s.there s.size s.time) ∷ [] ≡ stamped (take (length (stamps ++ s ∷ [])) files) (stamps ++ s ∷ [])
stamped_more [] stamps file s is = absurd (none_some file is)
stamped_more (f ∷ files) [] file s is = ap (λ x. pair (ask.Stamp x) (reply.Stamp s.there s.size s.time) ∷ []) (sym (some_same f file is))
stamped_more (f ∷ files) (t ∷ stamps) file s is = ap (λ l. pair (ask.Stamp f) (reply.Stamp t.there t.size t.time) ∷ l) (stamped_more files stamps file s is)

past : (files : List (List ℕ)) (i : ℕ) → slice_get files i ≡ None → length files ≤ i
past [] i is = omega arith
past (f ∷ files) zero is = absurd (none_some f (sym is))
past (f ∷ files) (suc i) is = let more = past files i is in omega arith

-- a goal asks for the stamp of the next file that it reaches

abbrev AsksNext : Conf → ℕ → List Stamp → List (List ℕ) → Step Conf End → Type 0
AsksNext c k stamps targets (Asks a next) =
    (file : List ℕ) × (slice_get (reach c.rules targets) (length stamps) ≡ Some file) × (a ≡ ask.Stamp file)
    × ((r : Reply) → next r ≡ unless_fault c r (in_mode (turn_of k (stamps ++ stamp_given r ∷ [])) c))
AsksNext c k stamps targets s = Unit {0}

module _ (program : Program) (c : Conf) (k : ℕ) (stamps : List Stamp) (targets : List (List ℕ)) (next : List Value → Code) (goal : IsAtGoal program c k stamps targets next) where
  -- what the goal does next
  goal_move : (bytes : List ℕ) → source_move program bytes c ≡ achieved program.files (has_cycle c.rules targets) k stamps c goal.at targets next
  goal_move bytes =
      ap (move_in program.files (λ saved. bytes) (thread_step program.functions) c) goal.turn
      ∙ ap (turns.turn_at program.files (λ saved. bytes) (thread_step program.functions) k stamps c) goal.there
      ∙ ap (turns.turn_in program.files (λ saved. bytes) (thread_step program.functions) k stamps c) goal.ready
      ∙ ap (turns.taken program.files (λ saved. bytes) (thread_step program.functions) k stamps c) goal.needs

  room_asks : (room : Bool) (f : _) (behind : Conf) → AsksNext c k stamps targets (where_room program.files room c goal.at f behind)
  room_asks true f behind = tt
  room_asks false f behind = tt

  plan_asks : (file : Option (List ℕ)) → AsksNext c k stamps targets (planned_if program.files file k stamps c goal.at targets next)
  plan_asks (Some file) = tt
  plan_asks None = room_asks _ _ _

  reached_asks : (file : Option (List ℕ)) → slice_get (reach c.rules targets) (length stamps) ≡ file → AsksNext c k stamps targets (reached program.files file k stamps c goal.at targets next)
  reached_asks (Some file) is = (file, is, refl, λ r. refl)
  reached_asks None is = plan_asks (unmade c.rules targets stamps c.tasks)

  goal_asks : (cycle : Bool) → AsksNext c k stamps targets (achieved program.files cycle k stamps c goal.at targets next)
  goal_asks true = tt
  goal_asks false = reached_asks (slice_get (reach c.rules targets) (length stamps)) refl

  asks_next : (s : Step Conf End) → Moves program c s → AsksNext c k stamps targets s
  asks_next s (bytes, is) = subst (AsksNext c k stamps targets) (sym (goal_move bytes) ∙ is) (goal_asks (has_cycle c.rules targets))

  -- its steps, where the history ends with the stamps that are there
  module _ (h : History) (told : EndsStamped h (reach c.rules targets) stamps) where
    given_up : (f : _) → IsGoalStep c h k targets next (Goes (fails program.files c goal.at f))
    given_up f = inr (record { fault = _; stops = refl; tasks = refl })

    room_step : (room : Bool) (f : _) (behind : Conf) → IsAchieved c h k targets next behind → IsGoalStep c h k targets next (where_room program.files room c goal.at f behind)
    room_step true f behind is = inl is
    room_step false f behind is = given_up f

    plan_step : (file : Option (List ℕ)) → has_cycle c.rules targets ≡ false → slice_get (reach c.rules targets) (length stamps) ≡ None → unmade c.rules targets stamps c.tasks ≡ file
        → IsGoalStep c h k targets next (planned_if program.files file k stamps c goal.at targets next)
    plan_step (Some file) none all is = given_up _
    plan_step None none all is =
        let files = reach c.rules targets in
        let ns = plan c.rules targets stamps c.tasks in
        let new = planned_made k c.rules ns c.tasks in
        let reached = ((reach_is_computed c.rules targets).0 none).0 in
        let order : IsPlan c.rules targets (stamp_in files stamps) c.tasks ns = ((plan_is_computed c.rules targets stamps c.tasks none).0 is files reached).0 in
        let most = past files (length stamps) all in
        let least = told.most in
        room_step (nat_le (length c.tasks + length ns) MAX_TASKS) _ _
        (record {
          before = told.before;
          files = files;
          reach = reached;
          stamps = stamps;
          each = omega arith;
          asked = told.asked ∙ ap (λ l. told.before ++ stamped l stamps) (take_all (length stamps) files most);
          planned = ns;
          plan = order;
          once = follow_once _ _ [] ns order.follow;
          just = λ n. (λ there. (behind_placed _ _ [] ns n order.follow there).0, order.all n);
          new = new.new;
          made = new.made;
          tasks = new.are;
          thread = goal.thread;
          goes_on = life_at c.threads 0 k k _ goal.thread (omega arith) goal.there;
        })

    reached_step : (file : Option (List ℕ)) → has_cycle c.rules targets ≡ false → slice_get (reach c.rules targets) (length stamps) ≡ file → IsGoalStep c h k targets next (reached program.files file k stamps c goal.at targets next)
    reached_step (Some file) none is = λ r. behind_reply (λ d. d.tasks ≡ c.tasks) c (in_mode (turn_of k (stamps ++ stamp_given r ∷ [])) c) r (λ faults. refl) (λ faults. refl)
    reached_step None none is = plan_step (unmade c.rules targets stamps c.tasks) none is refl

    goal_step : (cycle : Bool) → has_cycle c.rules targets ≡ cycle → IsGoalStep c h k targets next (achieved program.files cycle k stamps c goal.at targets next)
    goal_step true is = given_up _
    goal_step false is = reached_step (slice_get (reach c.rules targets) (length stamps)) is refl

    is_goal_step : (s : Step Conf End) → Moves program c s → IsGoalStep c h k targets next s
    is_goal_step s (bytes, is) = subst (IsGoalStep c h k targets next) (sym (goal_move bytes) ∙ is) (goal_step (has_cycle c.rules targets) refl)

-- Where a history leads

ends_more : (h : History) (files : List (List ℕ)) (stamps : List Stamp) (file : List ℕ) (s : Stamp) → slice_get files (length stamps) ≡ Some file → EndsStamped h files stamps
    → EndsStamped (h ++ pair (ask.Stamp file) (reply.Stamp s.there s.size s.time) ∷ []) files (stamps ++ s ∷ [])
ends_more h files stamps file s is old =
    let e = pair (ask.Stamp file) (reply.Stamp s.there s.size s.time) in
    record {
      before = old.before;
      asked = ap (λ l. l ++ e ∷ []) old.asked ∙ append_assoc old.before (stamped (take (length stamps) files) stamps) (e ∷ []) ∙ ap (λ l. old.before ++ l) (stamped_more files stamps file s is);
      most = let a = length_push stamps s in let b : length stamps < length files = slice_get_within files (length stamps) file is in omega arith;
    }

abbrev stamps_in : Mode → List Stamp
stamps_in (turn_of k stamps) = stamps
stamps_in mode = []

abbrev thread_in : Mode → ℕ
thread_in (turn_of k stamps) = k
thread_in mode = 0

abbrev is_turn : Mode → Bool
is_turn (turn_of k stamps) = true
is_turn mode = false

module _ (program : Program) where
  -- at a goal the history ends with the stamps that are there
  abbrev AreStamped : History → Conf → Type 0
  AreStamped h c = (k : ℕ) (stamps : List Stamp) (targets : List (List ℕ)) (next : List Value → Code) → IsAtGoal program c k stamps targets next → EndsStamped h (reach c.rules targets) stamps

  fresh_stamped : (h : History) (c : Conf) → IsFresh c.mode → AreStamped h c
  fresh_stamped h c fresh k stamps targets next goal =
      let none : stamps ≡ [] = subst IsFresh goal.turn fresh in
      subst (EndsStamped h (reach c.rules targets)) (sym none) (record { before = h; asked = sym (append-nil h); most = omega arith })

  module _ (h : History) (c d : Conf) (file : List ℕ) (k : ℕ) (stamps : List Stamp) (targets : List (List ℕ)) (old : EndsStamped h (reach c.rules targets) stamps) (is : slice_get (reach c.rules targets) (length stamps) ≡ Some file)
      (stamps' : List Stamp) (turn : d.mode ≡ turn_of k stamps') (same : d.rules ≡ c.rules) where
    one_more : (r : Reply) → fits (ask.Stamp file) r ≡ true → (r ≡ reply.NoRoom → ⊥) → d ≡ unless_fault c r (in_mode (turn_of k (stamps ++ stamp_given r ∷ [])) c) → EndsStamped (h ++ pair (ask.Stamp file) r ∷ []) (reach d.rules targets) stamps'
    one_more (reply.Bytes text) fit room behind = absurd (false≢true fit)
    one_more reply.Missing fit room behind = absurd (false≢true fit)
    one_more (reply.Stamp there size time) fit room behind =
        let s : Stamp = record { there = there; size = size; time = time } in
        let are : stamps ++ s ∷ [] ≡ stamps' = sym (ap (λ (x : Conf). stamps_in x.mode) behind) ∙ ap stamps_in turn in
        subst (λ rules. EndsStamped (h ++ pair (ask.Stamp file) (reply.Stamp there size time) ∷ []) (reach rules targets) stamps') (sym same)
        (subst (EndsStamped (h ++ pair (ask.Stamp file) (reply.Stamp there size time) ∷ []) (reach c.rules targets)) are (ends_more h (reach c.rules targets) stamps file s is old))
    one_more reply.Done fit room behind = absurd (false≢true fit)
    one_more (reply.SysDone code out) fit room behind = absurd (false≢true fit)
    one_more reply.Started fit room behind = absurd (false≢true fit)
    one_more (reply.Run n) fit room behind = absurd (false≢true fit)
    one_more (reply.Ended n code) fit room behind = absurd (false≢true fit)
    one_more reply.Fault fit room behind = absurd (false≢true (sym (ap (λ (x : Conf). is_turn x.mode) behind) ∙ ap is_turn turn))
    one_more reply.NoRoom fit room behind = absurd (room refl)

  still_stamped : (h : History) (c : Conf) (a : Ask) (next : Reply → Conf) (r : Reply) → fits a r ≡ true → (r ≡ reply.NoRoom → ⊥) → Moves program c (Asks a next) → AreStamped h c → IsStamped c (next r)
      → AreStamped (h ++ pair a r ∷ []) (next r)
  still_stamped h c a next r fit room moves old st k stamps targets go goal =
      let d : Conf = next r in
      let same : st.thread ≡ k = sym (ap (λ (x : Conf). thread_in x.mode) st.behind) ∙ ap thread_in goal.turn in
      let at : IsAtGoal program c k st.stamps targets go = record {
        turn = st.turn ∙ ap (λ n. turn_of n st.stamps) same;
        thread = goal.thread;
        there = sym (ap (λ (x : Conf). slice_get x.threads k) st.behind) ∙ goal.there;
        code = goal.code;
        ready = goal.ready;
        at = goal.at;
        needs = goal.needs;
      } in
      let asks = asks_next program c k st.stamps targets go at (Asks a next) moves in
      subst (λ x. EndsStamped (h ++ pair x r ∷ []) (reach d.rules targets) stamps) (sym asks.2)
      (one_more h c d asks.0 k st.stamps targets (old k st.stamps targets go at) asks.1 stamps goal.turn (ap (λ (x : Conf). x.rules) st.behind) r (subst (λ x. fits x r ≡ true) asks.2 fit) room (asks.3 r))

  module _ (opening : Conf) (begins : opening.mode ≡ at_point) (none : opening.tasks ≡ []) where
    are_stamped : (c : Conf) (h : History) → Lives program opening h c → AreStamped h c
    are_stamped _ _ Lives.opens = fresh_stamped [] opening (subst IsFresh (sym begins) tt)
    are_stamped _ _ (Lives.goes h c d lives moves) = fresh_stamped h d (keeps_source program c (Goes d) (quiet program opening none c h lives) moves).fresh
    are_stamped _ _ (Lives.asks h c a next r lives moves answered) =
        by (are_stamped c h lives) (keeps_source program c (Asks a next) (quiet program opening none c h lives) moves r answered.fitting).fresh
      where
        by : AreStamped h c → IsFresh (next r).mode ⊎ IsStamped c (next r) → AreStamped (h ++ pair a r ∷ []) (next r)
        by old (inl fresh) = fresh_stamped (h ++ pair a r ∷ []) (next r) fresh
        by old (inr st) = still_stamped h c a next r answered.fitting answered.told moves old st
    are_stamped _ _ (Lives.restarts h c path image next cpus budget lives moves) = fresh_stamped _ _ tt

pub goals_make_their_plan : GoalsMakeTheirPlan
goals_make_their_plan program first c h opens lives k stamps targets next goal =
    is_goal_step program c k stamps targets next goal h (are_stamped program first opens.at opens.tasks c h lives k stamps targets next goal)
