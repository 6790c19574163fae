-- Steps that count no tick make a term lighter.
use Rattle.std.proofs.Common.{◌≡◌, ℕ, ◌+◌, ◌<◌, ◌≤◌, Bool, true, false, List, [], ◌++◌, length, reverse, Option, Some, None, Ok, Err, nat_lt, slice_get, refl, ap, arith}
use Rattle.bds_value.specs.declared.value.At.{At}
use Rattle.bds_value.specs.declared.value.Value.{Value}
use Rattle.bds_value.specs.declared.faults.RunFault.TheVariants as run
use Rattle.bds_meaning.specs.Actions.{request_of}
use Rattle.bds_meaning.specs.Acts.{Act, Has, Becomes, Wants, Fails, Returns, Breaks, Continues, Exits, Code, code, bind, in_frame, in_turn, in_switch, gives}
use Rattle.bds_meaning.specs.Computed.{computed}
use Rattle.bds_schedule.specs.Faults.{Outcome}
use Rattle.bds_schedule.specs.Requests.{Request, MakesTask, Declares, Spawns}
use Rattle.bds_meaning.specs.Step.{Function as Definition, function_in, choice, entered, item_next, updated, is_wanted, made, made_if, step}
use Rattle.bds_value.specs.Statuses.{status_of}
use Rattle.bds_value.specs.declared.TheConstants.{MAX_CALLS}
use Rattle.bds_meaning.specs.Step.{wanting}
use Rattle.bds_meaning.specs.Term.{Term, Reduced, Constant, Variable, Compute, Does, Nothing, More, Choose, Call, Frame, Then, Block, Inside, Declare, Update, While, Each, Items, Turn, Switch, Case, Default, Tries, Within, Break, Continue, Return, Error, Exit, Settle, Weigh, Make, SpawnCall, SpawnBlock, Making, as_task, as_rule, settled}
use Rattle.bds_meaning.specs.Switches.{statements_of, from_default, tried, compared, is_equal}
use Rattle.bds_meaning.specs.Updates.{changed}
use Rattle.bds_value.specs.Readers.{is_true, number_in, text_in, items_in}
use Rattle.bds_schedule.specs.Values.{first}
use Rattle.bds_meaning.specs.Variables.{Bindings, Variables, Scope, bound, value_of, with_locals, with_declared, left_to}
use Rattle.bds_meaning.specs.Work.{Setting, Outputs, Inputs, Work, in_ranges, task_of, rule_of}

-- how many steps without a tick a term can make, at most
abbrev pub weight : Term → ℕ
weight (Reduced us) = 0
weight (Constant v) = 1
weight (Variable scope x) = 1
weight (Compute c at a) = weight a + 1
weight (Does action at a) = weight a
weight Nothing = 0
weight (More a b) = weight a + weight b
weight (Choose t a b) = weight t + weight a + weight b + 1
weight (Call f at a) = weight a
weight (Frame own t) = weight t + 1
weight (Then a b) = weight a + weight b + 1
weight (Block t) = weight t + 2
weight (Inside k t) = weight t + 1
weight (Declare scope x a) = weight a + 1
weight (Update at scope x into change a) = weight a + 1
weight (While t body behind) = 0
weight (Each x a body) = weight a + 1
weight (Items x i list body) = 0
weight (Turn k t next) = weight t + weight next + 1
weight (Switch a cases) = weight a + weight cases + weight cases + 3
weight (Case label a cases) = weight label + weight a + weight cases + 1
weight (Default a cases) = weight a + weight cases + 1
weight (Tries v label a cases others) = weight label + weight a + weight cases + weight others + 3
weight (Within k t) = weight t + 1
weight Break = 0
weight Continue = 0
weight (Return a) = weight a
weight (Error at a) = weight a
weight (Exit a) = weight a
weight (Settle setting a rest) = weight a + weight rest + 1
weight (Weigh at rest) = 0
weight (Make making at w command) = weight command + 1
weight (SpawnCall f at a) = weight a
weight (SpawnBlock at block) = 0

abbrev pub Lighter : Act → ℕ → Type 0
Lighter (Becomes false vs t) w = weight t < w
Lighter _ w = Unit {0}

bind_lighter : (x : Act) (form : Term → Term) (rest : List Value → Act) (w w' : ℕ) → ((t : Term) → weight t < w → weight (form t) < w') → ((us : List Value) → Lighter (rest us) w') → Lighter x w → Lighter (bind x form rest) w'
bind_lighter (Has us) form rest w w' h g l = g us
bind_lighter (Becomes false vs t) form rest w w' h g l = h t l
bind_lighter (Becomes true vs t) form rest w w' h g l = tt
bind_lighter (Wants at q go) form rest w w' h g l = tt
bind_lighter (Fails at fault) form rest w w' h g l = tt
bind_lighter (Returns us) form rest w w' h g l = tt
bind_lighter Breaks form rest w w' h g l = tt
bind_lighter Continues form rest w w' h g l = tt
bind_lighter (Exits status) form rest w w' h g l = tt

gives_lighter : (vs : Variables) (at : At) (r : Outcome Value) (w : ℕ) → 0 < w → Lighter (gives vs at r) w
gives_lighter vs at (Ok v) w h = h
gives_lighter vs at (Err fault) w h = tt

updated_lighter : (vs : Variables) (at : At) (scope : Scope) (x : List ℕ) (r : Outcome Value) (w : ℕ) → 0 < w → Lighter (updated vs at scope x r) w
updated_lighter vs at scope x (Ok v) w h = h
updated_lighter vs at scope x (Err fault) w h = tt

choice_lighter : (vs : Variables) (t : Bool) (a b : Term) (w : ℕ) → weight a < w → weight b < w → Lighter (Becomes false vs (choice t a b)) w
choice_lighter vs true a b w ha hb = ha
choice_lighter vs false a b w ha hb = hb

entered_lighter : (b : Bool) (vs : Variables) (at : At) (f : Definition) (us : List Value) (w : ℕ) → Lighter (entered b vs at f us) w
entered_lighter true vs at f us w = tt
entered_lighter false vs at f us w = tt

item_lighter : (vs : Variables) (x : List ℕ) (i : ℕ) (list : Value) (body : Term) (q : Option Value) (w : ℕ) → Lighter (item_next vs x i list body q) w
item_lighter vs x i list body None w = tt
item_lighter vs x i list body (Some v) w = tt

frame_lighter : (x : Act) (vs : Variables) (own : Bindings) (w : ℕ) → Lighter x w → Lighter (in_frame vs (λ own' t'. Frame own' t') own x) (w + 1)
frame_lighter (Has us) vs own w l = omega arith
frame_lighter (Becomes false vs' t) vs own w l = omega (arith, l)
frame_lighter (Becomes true vs' t) vs own w l = tt
frame_lighter (Wants at q go) vs own w l = tt
frame_lighter (Fails at fault) vs own w l = tt
frame_lighter (Returns us) vs own w l = omega arith
frame_lighter Breaks vs own w l = omega arith
frame_lighter Continues vs own w l = omega arith
frame_lighter (Exits status) vs own w l = tt

turn_lighter : (x : Act) (vs : Variables) (k : ℕ) (next : Term) (w : ℕ) → Lighter x w → Lighter (in_turn vs k next (λ t'. Turn k t' next) x) (w + weight next + 1)
turn_lighter (Has us) vs k next w l = omega arith
turn_lighter (Becomes false vs' t) vs k next w l = omega (arith, l)
turn_lighter (Becomes true vs' t) vs k next w l = tt
turn_lighter (Wants at q go) vs k next w l = tt
turn_lighter (Fails at fault) vs k next w l = tt
turn_lighter (Returns us) vs k next w l = tt
turn_lighter Breaks vs k next w l = omega arith
turn_lighter Continues vs k next w l = omega arith
turn_lighter (Exits status) vs k next w l = tt

within_lighter : (x : Act) (vs : Variables) (k : ℕ) (w : ℕ) → Lighter x w → Lighter (in_switch vs k (λ t'. Within k t') x) (w + 1)
within_lighter (Has us) vs k w l = omega arith
within_lighter (Becomes false vs' t) vs k w l = omega (arith, l)
within_lighter (Becomes true vs' t) vs k w l = tt
within_lighter (Wants at q go) vs k w l = tt
within_lighter (Fails at fault) vs k w l = tt
within_lighter (Returns us) vs k w l = tt
within_lighter Breaks vs k w l = omega arith
within_lighter Continues vs k w l = tt
within_lighter (Exits status) vs k w l = tt

statements_weight : (cases : Term) → weight (statements_of cases) ≤ weight cases
statements_weight (Case label a cases) = omega (arith, statements_weight cases)
statements_weight (Default a cases) = omega (arith, statements_weight cases)
statements_weight _ = omega arith

default_weight : (cases : Term) → weight (from_default cases) ≤ weight cases
default_weight (Case label a cases) = omega (arith, default_weight cases)
default_weight (Default a cases) = omega arith
default_weight _ = omega arith

tried_weight : (k : ℕ) (v : Value) (cases others : Term) → weight (tried k v cases others) ≤ weight cases + weight others + 2
tried_weight k v (Case label a cases) others = omega arith
tried_weight k v (Default a cases) others = omega (arith, tried_weight k v cases others)
tried_weight k v _ others = omega (arith, statements_weight others)

compared_weight : (b : Bool) (k : ℕ) (v : Value) (a cases others : Term) → weight (compared b k v a cases others) ≤ weight a + weight cases + weight others + 2
compared_weight true k v a cases others = omega (arith, statements_weight cases)
compared_weight false k v a cases others = omega (arith, tried_weight k v cases others)

made_lighter : (making : Making) (at : At) (w : Work) (command : List ℕ) (n : ℕ) → Lighter (made making at w command) n
made_lighter as_task at w command n = requested_lighter at MakesTask (in_ranges w (task_of w command)) n
  where
    requested_lighter : {X : Type 0} (at : At) (makes : X → Request Code) (r : Outcome X) (n : ℕ) → Lighter (wanting at makes r) n
    requested_lighter at makes (Ok x) n = tt
    requested_lighter at makes (Err fault) n = tt
made_lighter as_rule at w command n = requested_lighter at Declares (in_ranges w (rule_of w command)) n
  where
    requested_lighter : {X : Type 0} (at : At) (makes : X → Request Code) (r : Outcome X) (n : ℕ) → Lighter (wanting at makes r) n
    requested_lighter at makes (Ok x) n = tt
    requested_lighter at makes (Err fault) n = tt

made_if_lighter : (b : Bool) (vs : Variables) (x : Act) (n : ℕ) → 0 < n → Lighter x n → Lighter (made_if b vs x) n
made_if_lighter true vs x n h l = l
made_if_lighter false vs x n h l = h

-- noting an option's value changes no weight
settled_weight : (s : Setting) (v : Value) (t : Term) → weight (settled s v t) ≡ weight t
settled_weight s v (Settle other a rest) = ap (λ n. weight a + n + 1) (settled_weight s v rest)
settled_weight s v (Weigh at rest) = refl
settled_weight s v (Make making at w command) = refl
settled_weight s v _ = refl

module _ (program : List Definition) where
  pub lighter : (t : Term) (vs : Variables) (d : ℕ) → Lighter (step program vs d t) (weight t)
  lighter (Reduced us) vs d = tt
  lighter (Constant v) vs d = omega arith
  lighter (Variable scope x) vs d = omega arith
  lighter (Compute c at a) vs d = bind_lighter (step program vs d a) (λ a'. Compute c at a') (λ us. gives vs at (computed c us)) (weight a) (weight a + 1) (λ t l. omega (arith, l)) (λ us. gives_lighter vs at (computed c us) (weight a + 1) (omega arith)) (lighter a vs d)
  lighter (Does action at a) vs d = bind_lighter (step program vs d a) (λ a'. Does action at a') (λ us. Wants at (request_of action us) (λ ws. Reduced ws)) (weight a) (weight a) (λ t l. l) (λ us. tt) (lighter a vs d)
  lighter Nothing vs d = tt
  lighter (More a b) vs d =
      bind_lighter (step program vs d a) (λ a'. More a' b) (λ us. bind (step program vs d b) (λ b'. More (Reduced us) b') (λ ws. Has (ws ++ us))) (weight a) (weight a + weight b) (λ t l. omega (arith, l))
      (λ us. bind_lighter (step program vs d b) (λ b'. More (Reduced us) b') (λ ws. Has (ws ++ us)) (weight b) (weight a + weight b) (λ t l. omega (arith, l)) (λ ws. tt) (lighter b vs d))
      (lighter a vs d)
  lighter (Choose t a b) vs d =
      bind_lighter (step program vs d t) (λ t'. Choose t' a b) (λ us. Becomes false vs (choice (is_true (first us)) a b)) (weight t) (weight t + weight a + weight b + 1)
      (λ t' l. omega (arith, l)) (λ us. choice_lighter vs (is_true (first us)) a b (weight t + weight a + weight b + 1) (omega arith) (omega arith)) (lighter t vs d)
  lighter (Call f at a) vs d = bind_lighter (step program vs d a) (λ a'. Call f at a') (λ us. entered (nat_lt d MAX_CALLS) vs at (function_in program f) us) (weight a) (weight a) (λ t l. l) (λ us. entered_lighter (nat_lt d MAX_CALLS) vs at (function_in program f) us (weight a)) (lighter a vs d)
  lighter (Frame own t) vs d = frame_lighter (step program (with_locals own vs) (d + 1) t) vs own (weight t) (lighter t (with_locals own vs) (d + 1))
  lighter (Then a b) vs d = bind_lighter (step program vs d a) (λ a'. Then a' b) (λ us. Becomes false vs b) (weight a) (weight a + weight b + 1) (λ t l. omega (arith, l)) (λ us. omega arith) (lighter a vs d)
  lighter (Block t) vs d = omega arith
  lighter (Inside k t) vs d = bind_lighter (step program vs d t) (λ t'. Inside k t') (λ us. Becomes false (left_to k vs) (Reduced [])) (weight t) (weight t + 1) (λ t l. omega (arith, l)) (λ us. omega arith) (lighter t vs d)
  lighter (Declare scope x a) vs d = bind_lighter (step program vs d a) (λ a'. Declare scope x a') (λ us. Becomes false (with_declared vs scope x (first us)) (Reduced [])) (weight a) (weight a + 1) (λ t l. omega (arith, l)) (λ us. omega arith) (lighter a vs d)
  lighter (Update at scope x into change a) vs d =
      bind_lighter (step program vs d a) (λ a'. Update at scope x into change a') (λ us. updated vs at scope x (changed change into us (value_of vs scope x))) (weight a) (weight a + 1) (λ t l. omega (arith, l))
      (λ us. updated_lighter vs at scope x (changed change into us (value_of vs scope x)) (weight a + 1) (omega arith)) (lighter a vs d)
  lighter (While t body behind) vs d = tt
  lighter (Each x a body) vs d = bind_lighter (step program vs d a) (λ a'. Each x a' body) (λ us. Becomes false vs (Items x 0 (first us) body)) (weight a) (weight a + 1) (λ t l. omega (arith, l)) (λ us. omega arith) (lighter a vs d)
  lighter (Items x i list body) vs d = item_lighter vs x i list body (slice_get (items_in list) i) 0
  lighter (Turn k t next) vs d = turn_lighter (step program vs d t) vs k next (weight t) (lighter t vs d)
  lighter (Switch a cases) vs d =
      bind_lighter (step program vs d a) (λ a'. Switch a' cases) (λ us. Becomes false vs (tried (length vs.locals) (first us) cases (from_default cases))) (weight a) (weight a + weight cases + weight cases + 3) (λ t l. omega (arith, l))
      (λ us. omega (arith, tried_weight (length vs.locals) (first us) cases (from_default cases), default_weight cases)) (lighter a vs d)
  lighter (Case label a cases) vs d = tt
  lighter (Default a cases) vs d = tt
  lighter (Tries v label a cases others) vs d =
      bind_lighter (step program vs d label) (λ label'. Tries v label' a cases others) (λ us. Becomes false vs (compared (is_equal (first us) v) (length vs.locals) v a cases others)) (weight label) (weight label + weight a + weight cases + weight others + 3) (λ t l. omega (arith, l))
      (λ us. omega (arith, compared_weight (is_equal (first us) v) (length vs.locals) v a cases others)) (lighter label vs d)
  lighter (Within k t) vs d = within_lighter (step program vs d t) vs k (weight t) (lighter t vs d)
  lighter Break vs d = tt
  lighter Continue vs d = tt
  lighter (Return a) vs d = bind_lighter (step program vs d a) (λ a'. Return a') (λ us. Returns us) (weight a) (weight a) (λ t l. l) (λ us. tt) (lighter a vs d)
  lighter (Error at a) vs d = bind_lighter (step program vs d a) (λ a'. Error at a') (λ us. Fails at (run.Error (text_in (first us)))) (weight a) (weight a) (λ t l. l) (λ us. tt) (lighter a vs d)
  lighter (Exit a) vs d = bind_lighter (step program vs d a) (λ a'. Exit a') (λ us. Exits (status_of (number_in (first us)))) (weight a) (weight a) (λ t l. l) (λ us. tt) (lighter a vs d)
  lighter (Settle setting a rest) vs d =
      bind_lighter (step program vs d a) (λ a'. Settle setting a' rest) (λ us. Becomes false vs (settled setting (first us) rest)) (weight a) (weight a + weight rest + 1) (λ t l. omega (arith, l))
      (λ us. omega (arith, settled_weight setting (first us) rest)) (lighter a vs d)
  lighter (Weigh at rest) vs d = tt
  lighter (Make making at w command) vs d =
      made_if_lighter (is_wanted making w) vs (bind (step program vs d command) (λ command'. Make making at w command') (λ us. made making at w (text_in (first us)))) (weight command + 1) (omega arith)
      (bind_lighter (step program vs d command) (λ command'. Make making at w command') (λ us. made making at w (text_in (first us))) (weight command) (weight command + 1) (λ t l. omega (arith, l)) (λ us. made_lighter making at w (text_in (first us)) (weight command + 1)) (lighter command vs d))
  lighter (SpawnCall f at a) vs d =
      bind_lighter (step program vs d a) (λ a'. SpawnCall f at a') (λ us. Wants at (Spawns (code (with_locals (bound (function_in program f).parameters (reverse us)) vs) (function_in program f).body)) (λ ws. Reduced ws)) (weight a) (weight a) (λ t l. l) (λ us. tt) (lighter a vs d)
  lighter (SpawnBlock at block) vs d = tt
