-- The code of a thread asks neither for a start nor for what comes next: only the schedule does.
use Rattle.std.proofs.Common.{◌≡◌, ℕ, Bool, true, false, List, Ok, Err, refl}
use Rattle.std.specs.Prelude.{Option, Some, None}
use Rattle.bds_value.specs.declared.value.At.{At}
use Rattle.bds_value.specs.declared.value.Value.{Value}
use Rattle.bds_value.specs.Readers.{text_in}
use Rattle.bds_host.specs.declared.asks.Ask.{Ask}
use Rattle.bds_host.specs.declared.asks.Ask.TheVariants.{Start, Next}
use Rattle.bds_meaning.specs.Acts.{Act, Has, Becomes, Wants, Fails, Returns, Breaks, Continues, Exits, bind, in_frame, in_turn, gives, Code, in_switch}
use Rattle.bds_meaning.specs.Actions.{request_of}
use Rattle.bds_meaning.specs.Computed.{computed}
use Rattle.bds_schedule.specs.Faults.{Outcome}
use Rattle.bds_schedule.specs.Requests.{Request, Contacts, MakesTask, Declares, ThreadAct, Needs}
use Rattle.bds_meaning.specs.Step.{Function, entered, item_next, made, made_if, is_wanted, step, updated, wanting}
use Rattle.bds_meaning.specs.Term.{Action, Printed, FileRead, FileWritten, FileRemoved, FileStamped, CommandRun, Compared, Achieved, IdsAwaited, AllAwaited, Saved, SavedHere, Making, as_task, as_rule, Term, Reduced, Constant, Variable, Compute, Does, Nothing, More, Choose, Call, Frame, Then, Block, Inside, Declare, Update, While, Each, Items, Turn, Break, Continue, Return, Error, Exit, Settle, Weigh, Make, SpawnCall, SpawnBlock, Switch, Case, Default, Tries, Within}
use Rattle.bds_meaning.specs.Threads.{acted, thread_step}
use Rattle.bds_schedule.specs.Values.{first}
use Rattle.bds_meaning.specs.Variables.{Bindings, Variables, Scope}
use Rattle.bds_meaning.specs.Work.{Work, in_ranges, task_of, rule_of}

-- it starts no task, and does not ask what comes next
abbrev pub is_plain : Ask → Bool
is_plain (Start task attempt command) = false
is_plain (Next ready running) = false
is_plain ask = true

abbrev pub AsksPlainly : {S : Type 0} → Request S → Type 0
AsksPlainly (Contacts ask) = is_plain ask ≡ true
AsksPlainly request = Unit {0}

abbrev pub IsPlainThread : {S : Type 0} → ThreadAct S → Type 0
IsPlainThread (Needs at request next) = AsksPlainly request
IsPlainThread act = Unit {0}

abbrev IsPlain : Act → Type 0
IsPlain (Wants at request next) = AsksPlainly request
IsPlain act = Unit {0}

plain_bind : (a : Act) (form : Term → Term) (rest : List Value → Act) → IsPlain a → ((us : List Value) → IsPlain (rest us)) → IsPlain (bind a form rest)
plain_bind (Has us) form rest is each = each us
plain_bind (Becomes ticks vs t) form rest is each = tt
plain_bind (Wants at request next) form rest is each = is
plain_bind (Fails at fault) form rest is each = tt
plain_bind (Returns us) form rest is each = tt
plain_bind Breaks form rest is each = tt
plain_bind Continues form rest is each = tt
plain_bind (Exits status) form rest is each = tt

plain_frame : (vs : Variables) (form : Bindings → Term → Term) (own : Bindings) (a : Act) → IsPlain a → IsPlain (in_frame vs form own a)
plain_frame vs form own (Has us) is = tt
plain_frame vs form own (Becomes ticks vs' t) is = tt
plain_frame vs form own (Wants at request next) is = is
plain_frame vs form own (Fails at fault) is = tt
plain_frame vs form own (Returns us) is = tt
plain_frame vs form own Breaks is = tt
plain_frame vs form own Continues is = tt
plain_frame vs form own (Exits status) is = tt

plain_turn : (vs : Variables) (k : ℕ) (next : Term) (form : Term → Term) (a : Act) → IsPlain a → IsPlain (in_turn vs k next form a)
plain_turn vs k next form (Has us) is = tt
plain_turn vs k next form (Becomes ticks vs' t) is = tt
plain_turn vs k next form (Wants at request go) is = is
plain_turn vs k next form (Fails at fault) is = tt
plain_turn vs k next form (Returns us) is = tt
plain_turn vs k next form Breaks is = tt
plain_turn vs k next form Continues is = tt
plain_turn vs k next form (Exits status) is = tt

plain_switch : (vs : Variables) (k : ℕ) (form : Term → Term) (a : Act) → IsPlain a → IsPlain (in_switch vs k form a)
plain_switch vs k form (Has us) is = tt
plain_switch vs k form (Becomes ticks vs' t) is = tt
plain_switch vs k form (Wants at request go) is = is
plain_switch vs k form (Fails at fault) is = tt
plain_switch vs k form (Returns us) is = tt
plain_switch vs k form Breaks is = tt
plain_switch vs k form Continues is = tt
plain_switch vs k form (Exits status) is = tt

plain_gives : (vs : Variables) (at : At) (o : Outcome Value) → IsPlain (gives vs at o)
plain_gives vs at (Ok v) = tt
plain_gives vs at (Err f) = tt

plain_updated : (vs : Variables) (at : At) (scope : Scope) (x : List ℕ) (o : Outcome Value) → IsPlain (updated vs at scope x o)
plain_updated vs at scope x (Ok v) = tt
plain_updated vs at scope x (Err f) = tt

plain_entered : (room : Bool) (vs : Variables) (at : At) (f : Function) (us : List Value) → IsPlain (entered room vs at f us)
plain_entered true vs at f us = tt
plain_entered false vs at f us = tt

plain_item : (vs : Variables) (x : List ℕ) (i : ℕ) (list : Value) (body : Term) (v : Option Value) → IsPlain (item_next vs x i list body v)
plain_item vs x i list body None = tt
plain_item vs x i list body (Some v) = tt

plain_wanting : {X : Type 0} (at : At) (makes : X → Request Code) (o : Outcome X) → ((x : X) → AsksPlainly (makes x)) → IsPlain (wanting at makes o)
plain_wanting at makes (Ok x) each = each x
plain_wanting at makes (Err f) each = tt

plain_made : (making : Making) (at : At) (w : Work) (command : List ℕ) → IsPlain (made making at w command)
plain_made as_task at w command = plain_wanting at MakesTask (in_ranges w (task_of w command)) (λ x. tt)
plain_made as_rule at w command = plain_wanting at Declares (in_ranges w (rule_of w command)) (λ x. tt)

plain_if : (wanted : Bool) (vs : Variables) (a : Act) → IsPlain a → IsPlain (made_if wanted vs a)
plain_if true vs a is = is
plain_if false vs a is = tt

plain_request : (action : Action) (us : List Value) → AsksPlainly (request_of {S = Code} action us)
plain_request Printed us = refl
plain_request FileRead us = refl
plain_request FileWritten us = refl
plain_request FileRemoved us = refl
plain_request (FileStamped question) us = tt
plain_request CommandRun us = refl
plain_request Compared us = tt
plain_request Achieved us = tt
plain_request IdsAwaited us = tt
plain_request AllAwaited us = tt
plain_request Saved us = tt
plain_request SavedHere us = tt

module _ (program : List Function) where
  plain_step : (t : Term) (vs : Variables) (d : ℕ) → IsPlain (step program vs d t)
  plain_step (Reduced us) vs d = tt
  plain_step (Constant v) vs d = tt
  plain_step (Variable scope x) vs d = tt
  plain_step (Compute c at a) vs d = plain_bind _ _ _ (plain_step a vs d) (λ us. plain_gives vs at (computed c us))
  plain_step (Does action at a) vs d = plain_bind _ _ _ (plain_step a vs d) (λ us. plain_request action us)
  plain_step Nothing vs d = tt
  plain_step (More a b) vs d = plain_bind _ _ _ (plain_step a vs d) (λ us. plain_bind _ _ _ (plain_step b vs d) (λ ws. tt))
  plain_step (Choose test a b) vs d = plain_bind _ _ _ (plain_step test vs d) (λ us. tt)
  plain_step (Call f at a) vs d = plain_bind _ _ _ (plain_step a vs d) (λ us. plain_entered _ vs at _ us)
  plain_step (Frame own t) vs d = plain_frame vs _ own _ (plain_step t _ _)
  plain_step (Then a b) vs d = plain_bind _ _ _ (plain_step a vs d) (λ us. tt)
  plain_step (Block t) vs d = tt
  plain_step (Inside k t) vs d = plain_bind _ _ _ (plain_step t vs d) (λ us. tt)
  plain_step (Declare scope x a) vs d = plain_bind _ _ _ (plain_step a vs d) (λ us. tt)
  plain_step (Update at scope x into change a) vs d = plain_bind _ _ _ (plain_step a vs d) (λ us. plain_updated vs at scope x _)
  plain_step (While test body behind) vs d = tt
  plain_step (Each x a body) vs d = plain_bind _ _ _ (plain_step a vs d) (λ us. tt)
  plain_step (Items x i list body) vs d = plain_item vs x i list body _
  plain_step (Turn k t next) vs d = plain_turn vs k next _ _ (plain_step t vs d)
  plain_step (Switch a cases) vs d = plain_bind _ _ _ (plain_step a vs d) (λ us. tt)
  plain_step (Case label a cases) vs d = tt
  plain_step (Default a cases) vs d = tt
  plain_step (Tries v label a cases others) vs d = plain_bind _ _ _ (plain_step label vs d) (λ us. tt)
  plain_step (Within k t) vs d = plain_switch vs k _ _ (plain_step t vs d)
  plain_step Break vs d = tt
  plain_step Continue vs d = tt
  plain_step (Return a) vs d = plain_bind _ _ _ (plain_step a vs d) (λ us. tt)
  plain_step (Error at a) vs d = plain_bind _ _ _ (plain_step a vs d) (λ us. tt)
  plain_step (Exit a) vs d = plain_bind _ _ _ (plain_step a vs d) (λ us. tt)
  plain_step (Settle setting a rest) vs d = plain_bind _ _ _ (plain_step a vs d) (λ us. tt)
  plain_step (Weigh at rest) vs d = tt
  plain_step (Make making at w command) vs d =
      plain_if (is_wanted making w) vs _ (plain_bind _ _ _ (plain_step command vs d) (λ us. plain_made making at w (text_in (first us))))
  plain_step (SpawnCall f at a) vs d = plain_bind _ _ _ (plain_step a vs d) (λ us. tt)
  plain_step (SpawnBlock at block) vs d = tt

  plain_acted : (vs : Variables) (a : Act) → IsPlain a → IsPlainThread (acted vs a)
  plain_acted vs (Has us) is = tt
  plain_acted vs (Becomes ticks vs' t) is = tt
  plain_acted vs (Wants at request next) is = is
  plain_acted vs (Fails at fault) is = tt
  plain_acted vs (Returns us) is = tt
  plain_acted vs Breaks is = tt
  plain_acted vs Continues is = tt
  plain_acted vs (Exits status) is = tt

  pub plain_thread : (c : Code) → IsPlainThread (thread_step program c)
  plain_thread c = plain_acted c.variables (step program c.variables 1 c.term) (plain_step c.term c.variables 1)
