-- The step of a term: it rewrites the leftmost part that can be reduced.
use Rattle.std.specs.Prelude.{ℕ, ◌+◌, Bool, true, false, List, [], ◌∷◌, ◌++◌, reverse, length, Option, Some, None, Ok, Err, slice_get, nat_lt, if◌then◌else◌}
use Rattle.std.specs.Str.{bytes_eq}
use Rattle.bds_value.specs.declared.TheConstants.{MAX_CALLS}
use Rattle.bds_value.specs.declared.value.At.{At}
use Rattle.bds_value.specs.declared.value.Value.{Value}
use Rattle.bds_value.specs.declared.value.Value.TheVariants as value
use Rattle.bds_value.specs.Statuses.{status_of}
use Rattle.bds_value.specs.declared.faults.RunFault.TheVariants.{CallsTooDeep, Error as Told}
use Rattle.bds_value.specs.Readers.{is_true, number_in, text_in, texts_in, items_in}
use Rattle.bds_meaning.specs.Acts.{Act, Has, Becomes, Wants, Fails, Returns, Breaks, Continues, Exits, bind, in_frame, in_turn, in_switch, gives, Code, code}
use Rattle.bds_meaning.specs.Actions.{request_of}
use Rattle.bds_meaning.specs.Computed.{computed}
use Rattle.bds_schedule.specs.Faults.{Outcome}
use Rattle.bds_schedule.specs.Requests.{Request, Compares, MakesTask, Declares, Spawns}
use Rattle.bds_meaning.specs.Term.{Term, Reduced, Constant, Variable, Compute, Does, Nothing, More, Choose, Call, Frame, Then, Block, Inside, Declare, Update, While, Each, Items, Turn, Switch, Case, Default, Tries, Within, Break, Continue, Return, Error, Exit, Settle, Weigh, Make, SpawnCall, SpawnBlock, Making, as_task, as_rule, settled, work_in}
use Rattle.bds_meaning.specs.Switches.{from_default, tried, compared, is_equal}
use Rattle.bds_meaning.specs.Updates.{changed}
use Rattle.bds_schedule.specs.Values.{first}
use Rattle.bds_meaning.specs.Variables.{Variables, Scope, bound, value_of, stored, with_declared, with_locals, left_to}
use Rattle.bds_meaning.specs.Work.{Condition, Work, in_ranges, task_of, rule_of}

-- a function: its parameters, and its body, which ends with a return
pub record Function : Type 0 where
  pub name : List ℕ
  pub parameters : List (List ℕ)
  pub body : Term

abbrev pub no_function : Function
no_function = record { name = []; parameters = []; body = Nothing }

-- the first function of a name
abbrev pub function_in : List Function → List ℕ → Function
function_in [] f = no_function
function_in (g ∷ gs) f = if bytes_eq g.name f then g else function_in gs f

abbrev pub choice : Bool → Term → Term → Term
choice true a b = a
choice false a b = b

-- a call of a function, where so many calls run. One that is too deep counts no tick
abbrev pub entered : Bool → Variables → At → Function → List Value → Act
entered true vs at f us = Becomes true vs (Frame (bound f.parameters (reverse us)) f.body)
entered false vs at f us = Fails at CallsTooDeep

-- a turn with the next item of a list, or the end of the loop
abbrev pub item_next : Variables → List ℕ → ℕ → Value → Term → Option Value → Act
item_next vs x i list body None = Becomes true vs (Reduced [])
item_next vs x i list body (Some v) = Becomes true (with_locals ((x, v) ∷ vs.locals) vs) (Turn (length vs.locals) body (Items x (i + 1) list body))

abbrev pub updated : Variables → At → Scope → List ℕ → Outcome Value → Act
updated vs at scope x (Ok v) = Becomes false (stored vs scope x v) (Reduced [])
updated vs at scope x (Err fault) = Fails at fault

-- whether the command is wanted
abbrev pub is_wanted : Making → Work → Bool
is_wanted as_task w = w.needed
is_wanted as_rule w = true

abbrev pub wanting : {X : Type 0} → At → (X → Request Code) → Outcome X → Act
wanting at makes (Ok x) = Wants at (makes x) (λ us. Reduced us)
wanting at makes (Err fault) = Fails at fault

-- a task or a rule of this command
abbrev pub made : Making → At → Work → List ℕ → Act
made as_task at w command = wanting at MakesTask (in_ranges w (task_of w command))
made as_rule at w command = wanting at Declares (in_ranges w (rule_of w command))

-- a task that isn't needed is an empty text
abbrev pub made_if : Bool → Variables → Act → Act
made_if true vs act = act
made_if false vs act = Becomes false vs (Reduced (value.Text [] ∷ []))

module _ (program : List Function) where
  -- step variables depth term: the depth is that of the calls that run, and is 1 in a thread's own code
  abbrev pub step : Variables → ℕ → Term → Act
  step vs d (Reduced us) = Has us
  step vs d (Constant v) = Becomes false vs (Reduced (v ∷ []))
  step vs d (Variable scope x) = Becomes false vs (Reduced (value_of vs scope x ∷ []))
  step vs d (Compute c at a) = bind (step vs d a) (λ a'. Compute c at a') λ us. gives vs at (computed c us)
  step vs d (Does action at a) = bind (step vs d a) (λ a'. Does action at a') λ us. Wants at (request_of action us) (λ ws. Reduced ws)
  step vs d Nothing = Has []
  step vs d (More a b) =
      bind (step vs d a) (λ a'. More a' b) λ us.
      bind (step vs d b) (λ b'. More (Reduced us) b') λ ws. Has (ws ++ us)
  step vs d (Choose test a b) = bind (step vs d test) (λ test'. Choose test' a b) λ us. Becomes false vs (choice (is_true (first us)) a b)
  step vs d (Call f at a) = bind (step vs d a) (λ a'. Call f at a') λ us. entered (nat_lt d MAX_CALLS) vs at (function_in program f) us
  step vs d (Frame own t) = in_frame vs (λ own' t'. Frame own' t') own (step (with_locals own vs) (d + 1) t)
  step vs d (Then a b) = bind (step vs d a) (λ a'. Then a' b) λ us. Becomes false vs b
  step vs d (Block t) = Becomes false vs (Inside (length vs.locals) t)
  step vs d (Inside k t) = bind (step vs d t) (λ t'. Inside k t') λ us. Becomes false (left_to k vs) (Reduced [])
  step vs d (Declare scope x a) = bind (step vs d a) (λ a'. Declare scope x a') λ us. Becomes false (with_declared vs scope x (first us)) (Reduced [])
  step vs d (Update at scope x into change a) =
      bind (step vs d a) (λ a'. Update at scope x into change a') λ us. updated vs at scope x (changed change into us (value_of vs scope x))
  step vs d (While test body behind) = Becomes true vs (Choose test (Turn (length vs.locals) body (Then behind (While test body behind))) Nothing)
  step vs d (Each x a body) = bind (step vs d a) (λ a'. Each x a' body) λ us. Becomes false vs (Items x 0 (first us) body)
  step vs d (Items x i list body) = item_next vs x i list body (slice_get (items_in list) i)
  step vs d (Turn k t next) = in_turn vs k next (λ t'. Turn k t' next) (step vs d t)
  step vs d (Switch a cases) = bind (step vs d a) (λ a'. Switch a' cases) λ us. Becomes false vs (tried (length vs.locals) (first us) cases (from_default cases))
  step vs d (Case label a cases) = Has []
  step vs d (Default a cases) = Has []
  step vs d (Tries v label a cases others) =
      bind (step vs d label) (λ label'. Tries v label' a cases others) λ us. Becomes false vs (compared (is_equal (first us) v) (length vs.locals) v a cases others)
  step vs d (Within k t) = in_switch vs k (λ t'. Within k t') (step vs d t)
  step vs d Break = Breaks
  step vs d Continue = Continues
  step vs d (Return a) = bind (step vs d a) (λ a'. Return a') λ us. Returns us
  step vs d (Error at a) = bind (step vs d a) (λ a'. Error at a') λ us. Fails at (Told (text_in (first us)))
  step vs d (Exit a) = bind (step vs d a) (λ a'. Exit a') λ us. Exits (status_of (number_in (first us)))
  step vs d (Settle setting a rest) = bind (step vs d a) (λ a'. Settle setting a' rest) λ us. Becomes false vs (settled setting (first us) rest)
  step vs d (Weigh at rest) = Wants at (Compares (texts_in (work_in rest).outs) (texts_in (work_in rest).ins)) (λ us. settled Condition (first us) rest)
  step vs d (Make making at w command) =
      made_if (is_wanted making w) vs
      (bind (step vs d command) (λ command'. Make making at w command') λ us. made making at w (text_in (first us)))
  step vs d (SpawnCall f at a) =
      bind (step vs d a) (λ a'. SpawnCall f at a') λ us.
      Wants at (Spawns (code (with_locals (bound (function_in program f).parameters (reverse us)) vs) (function_in program f).body)) (λ ws. Reduced ws)
  step vs d (SpawnBlock at block) = Wants at (Spawns (code vs block)) (λ ws. Reduced ws)
