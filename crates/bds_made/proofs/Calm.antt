-- What a straight term does counts no tick and begins no thread, and leaves it straight.
use Rattle.std.proofs.Common.{◌≡◌, ℕ, Bool, true, false, List, ◌++◌, Ok, Err, refl}
use Rattle.std.specs.Prelude.{⊤, ◌&&◌}
use Rattle.std.proofs.lemmas.Bool.{and_parts, false≢true}
use Rattle.bds_value.specs.declared.value.At.{At}
use Rattle.bds_value.specs.declared.value.Value.{Value}
use Rattle.bds_value.specs.Readers.{is_true, text_in}
use Rattle.bds_meaning.specs.Acts.{Act, Has, Becomes, Wants, Fails, Returns, Breaks, Continues, Exits, Code, bind}
use Rattle.bds_meaning.specs.Acts.{gives}
use Rattle.bds_meaning.specs.Actions.{request_of}
use Rattle.bds_meaning.specs.Computed.{computed}
use Rattle.bds_meaning.specs.Step.{Function, step, choice, updated, wanting, made, made_if, is_wanted}
use Rattle.bds_meaning.specs.Term.{Term, Reduced, Constant, Variable, Compute, Does, Nothing, More, Choose, Call, Frame}
use Rattle.bds_meaning.specs.Term.{Then, Block, Inside, Declare, Update, While, Each, Items, Turn, Switch, Case}
use Rattle.bds_meaning.specs.Term.{Default, Tries, Within, Break, Continue, Return, Error, Exit, Settle, Weigh, Make}
use Rattle.bds_meaning.specs.Term.{SpawnCall, SpawnBlock, Action, Printed, FileRead, FileWritten, FileRemoved}
use Rattle.bds_meaning.specs.Term.{FileStamped, CommandRun, Compared, Achieved, IdsAwaited, AllAwaited, Saved}
use Rattle.bds_meaning.specs.Term.{SavedHere, Making, as_task, as_rule, settled}
use Rattle.bds_meaning.specs.Threads.{acted, thread_step}
use Rattle.bds_meaning.specs.Updates.{changed}
use Rattle.bds_meaning.specs.Variables.{Variables, Scope, value_of}
use Rattle.bds_meaning.specs.Work.{Setting, Condition, Work, in_ranges, task_of, rule_of}
use Rattle.bds_schedule.specs.Faults.{Outcome}
use Rattle.bds_schedule.specs.Requests.{Request, MakesTask, Declares, Spawns, ThreadAct, GoesOn, Needs}
use Rattle.bds_schedule.specs.Values.{first}
use Rattle.bds_made.specs.Straight.{is_straight, IsStraight}

-- no thread is begun
abbrev pub IsAlone : {S : Type 0} → Request S → Type 0
IsAlone (Spawns s) = ⊥
IsAlone _ = ⊤

abbrev Calm : Act → Type 0
Calm (Becomes ticks vs t) = (ticks ≡ false) × (is_straight t ≡ true)
Calm (Wants at request next) = IsAlone request × ((us : List Value) → is_straight (next us) ≡ true)
Calm _ = ⊤

both : (a b : Bool) → a ≡ true → b ≡ true → a && b ≡ true
both true true e f = refl
both true false e f = f
both false b e f = e

bind_calm : (a : Act) (form : Term → Term) (rest : List Value → Act) → Calm a
    → ((t : Term) → is_straight t ≡ true → is_straight (form t) ≡ true) → ((us : List Value) → Calm (rest us))
    → Calm (bind a form rest)
bind_calm (Has us) form rest calm keeps others = others us
bind_calm (Becomes ticks vs t) form rest calm keeps others = (calm.0, keeps t calm.1)
bind_calm (Wants at request next) form rest calm keeps others = (calm.0, λ us. keeps (next us) (calm.1 us))
bind_calm (Fails at fault) form rest calm keeps others = tt
bind_calm (Returns us) form rest calm keeps others = tt
bind_calm Breaks form rest calm keeps others = tt
bind_calm Continues form rest calm keeps others = tt
bind_calm (Exits status) form rest calm keeps others = tt

gives_calm : (vs : Variables) (at : At) (o : Outcome Value) → Calm (gives vs at o)
gives_calm vs at (Ok v) = (refl, refl)
gives_calm vs at (Err f) = tt

updated_calm : (vs : Variables) (at : At) (scope : Scope) (x : List ℕ) (o : Outcome Value)
    → Calm (updated vs at scope x o)
updated_calm vs at scope x (Ok v) = (refl, refl)
updated_calm vs at scope x (Err f) = tt

alone : (action : Action) (us : List Value) → IsAlone {S = Code} (request_of action us)
alone Printed us = tt
alone FileRead us = tt
alone FileWritten us = tt
alone FileRemoved us = tt
alone (FileStamped q) us = tt
alone CommandRun us = tt
alone Compared us = tt
alone Achieved us = tt
alone IdsAwaited us = tt
alone AllAwaited us = tt
alone Saved us = tt
alone SavedHere us = tt

choice_straight : (b : Bool) (s t : Term) → is_straight s ≡ true → is_straight t ≡ true
    → is_straight (choice b s t) ≡ true
choice_straight true s t h k = h
choice_straight false s t h k = k

settled_straight : (t : Term) (s : Setting) (v : Value) → is_straight t ≡ true → is_straight (settled s v t) ≡ true
settled_straight (Settle other a rest) s v h =
    let k = and_parts (is_straight a) (is_straight rest) h in
    both (is_straight a) (is_straight (settled s v rest)) k.0 (settled_straight rest s v k.1)
settled_straight (Weigh at rest) s v h = settled_straight rest s v h
settled_straight (Make making at w command) s v h = h
settled_straight (Reduced us) s v h = h
settled_straight (Constant u) s v h = h
settled_straight (Variable scope x) s v h = h
settled_straight (Compute c at a) s v h = h
settled_straight (Does action at a) s v h = h
settled_straight Nothing s v h = h
settled_straight (More a b) s v h = h
settled_straight (Choose test a b) s v h = h
settled_straight (Then a b) s v h = h
settled_straight (Block a) s v h = h
settled_straight (Inside k a) s v h = h
settled_straight (Declare scope x a) s v h = h
settled_straight (Update at scope x into change a) s v h = h
settled_straight Break s v h = h
settled_straight Continue s v h = h
settled_straight (Return a) s v h = h
settled_straight (Error at a) s v h = h
settled_straight (Exit a) s v h = h
settled_straight (Call f at a) s v h = h
settled_straight (Frame own a) s v h = h
settled_straight (While test body behind) s v h = h
settled_straight (Each x a body) s v h = h
settled_straight (Items x i list body) s v h = h
settled_straight (Turn k a next) s v h = h
settled_straight (Switch a cases) s v h = h
settled_straight (Case label a cases) s v h = h
settled_straight (Default a cases) s v h = h
settled_straight (Tries u label a cases others) s v h = h
settled_straight (Within k a) s v h = h
settled_straight (SpawnCall f at a) s v h = h
settled_straight (SpawnBlock at block) s v h = h

wanting_calm : {X : Type 0} (at : At) (makes : X → Request Code) (o : Outcome X) → ((x : X) → IsAlone (makes x))
    → Calm (wanting at makes o)
wanting_calm at makes (Ok x) h = (h x, λ us. refl)
wanting_calm at makes (Err f) h = tt

made_calm : (making : Making) (at : At) (w : Work) (command : List ℕ) → Calm (made making at w command)
made_calm as_task at w command = wanting_calm at MakesTask (in_ranges w (task_of w command)) (λ x. tt)
made_calm as_rule at w command = wanting_calm at Declares (in_ranges w (rule_of w command)) (λ x. tt)

if_calm : (b : Bool) (vs : Variables) (act : Act) → Calm act → Calm (made_if b vs act)
if_calm true vs act h = h
if_calm false vs act h = (refl, refl)

module _ (program : List Function) where
  step_calm : (t : Term) (vs : Variables) (d : ℕ) → is_straight t ≡ true → Calm (step program vs d t)
  step_calm (Reduced us) vs d h = tt
  step_calm (Constant v) vs d h = (refl, refl)
  step_calm (Variable scope x) vs d h = (refl, refl)
  step_calm (Compute c at a) vs d h =
      bind_calm (step program vs d a) (λ a'. Compute c at a') (λ us. gives vs at (computed c us)) (step_calm a vs d h)
      (λ t k. k) (λ us. gives_calm vs at (computed c us))
  step_calm (Does action at a) vs d h =
      bind_calm (step program vs d a) (λ a'. Does action at a')
      (λ us. Wants at (request_of action us) (λ ws. Reduced ws)) (step_calm a vs d h) (λ t k. k)
      (λ us. (alone action us, λ ws. refl))
  step_calm Nothing vs d h = tt
  step_calm (More a b) vs d h =
      let k = and_parts (is_straight a) (is_straight b) h in
      bind_calm (step program vs d a) (λ a'. More a' b)
      (λ us. bind (step program vs d b) (λ b'. More (Reduced us) b') (λ ws. Has (ws ++ us))) (step_calm a vs d k.0)
      (λ t s. both (is_straight t) (is_straight b) s k.1)
      (λ us. bind_calm (step program vs d b) (λ b'. More (Reduced us) b') (λ ws. Has (ws ++ us)) (step_calm b vs d k.1)
      (λ t s. s) (λ ws. tt))
  step_calm (Choose test a b) vs d h =
      let k = and_parts (is_straight test) (is_straight a && is_straight b) h in
      let l = and_parts (is_straight a) (is_straight b) k.1 in
      bind_calm (step program vs d test) (λ test'. Choose test' a b)
      (λ us. Becomes false vs (choice (is_true (first us)) a b)) (step_calm test vs d k.0)
      (λ t s. both (is_straight t) (is_straight a && is_straight b) s k.1)
      (λ us. (refl, choice_straight (is_true (first us)) a b l.0 l.1))
  step_calm (Then a b) vs d h =
      let k = and_parts (is_straight a) (is_straight b) h in
      bind_calm (step program vs d a) (λ a'. Then a' b) (λ us. Becomes false vs b) (step_calm a vs d k.0)
      (λ t s. both (is_straight t) (is_straight b) s k.1) (λ us. (refl, k.1))
  step_calm (Block a) vs d h = (refl, h)
  step_calm (Inside k a) vs d h =
      bind_calm (step program vs d a) _ _ (step_calm a vs d h) (λ t s. s) (λ us. (refl, refl))
  step_calm (Declare scope x a) vs d h =
      bind_calm (step program vs d a) _ _ (step_calm a vs d h) (λ t s. s) (λ us. (refl, refl))
  step_calm (Update at scope x into change a) vs d h =
      bind_calm (step program vs d a) (λ a'. Update at scope x into change a')
      (λ us. updated vs at scope x (changed change into us (value_of vs scope x))) (step_calm a vs d h) (λ t s. s)
      (λ us. updated_calm vs at scope x (changed change into us (value_of vs scope x)))
  step_calm Break vs d h = tt
  step_calm Continue vs d h = tt
  step_calm (Return a) vs d h = bind_calm (step program vs d a) _ _ (step_calm a vs d h) (λ t s. s) (λ us. tt)
  step_calm (Error at a) vs d h = bind_calm (step program vs d a) _ _ (step_calm a vs d h) (λ t s. s) (λ us. tt)
  step_calm (Exit a) vs d h = bind_calm (step program vs d a) _ _ (step_calm a vs d h) (λ t s. s) (λ us. tt)
  step_calm (Settle setting a rest) vs d h =
      let k = and_parts (is_straight a) (is_straight rest) h in
      bind_calm (step program vs d a) (λ a'. Settle setting a' rest)
      (λ us. Becomes false vs (settled setting (first us) rest)) (step_calm a vs d k.0)
      (λ t s. both (is_straight t) (is_straight rest) s k.1)
      (λ us. (refl, settled_straight rest setting (first us) k.1))
  step_calm (Weigh at rest) vs d h = (tt, λ us. settled_straight rest Condition (first us) h)
  step_calm (Make making at w command) vs d h =
      if_calm (is_wanted making w) vs
      (bind (step program vs d command) (λ command'. Make making at w command') λ us. made making at w
      (text_in (first us)))
      (bind_calm (step program vs d command) (λ command'. Make making at w command')
      (λ us. made making at w (text_in (first us))) (step_calm command vs d h) (λ t s. s)
      (λ us. made_calm making at w (text_in (first us))))
  step_calm (Call f at a) vs d h = absurd (false≢true h)
  step_calm (Frame own a) vs d h = absurd (false≢true h)
  step_calm (While test body behind) vs d h = absurd (false≢true h)
  step_calm (Each x a body) vs d h = absurd (false≢true h)
  step_calm (Items x i list body) vs d h = absurd (false≢true h)
  step_calm (Turn k a next) vs d h = absurd (false≢true h)
  step_calm (Switch a cases) vs d h = absurd (false≢true h)
  step_calm (Case label a cases) vs d h = absurd (false≢true h)
  step_calm (Default a cases) vs d h = absurd (false≢true h)
  step_calm (Tries u label a cases others) vs d h = absurd (false≢true h)
  step_calm (Within k a) vs d h = absurd (false≢true h)
  step_calm (SpawnCall f at a) vs d h = absurd (false≢true h)
  step_calm (SpawnBlock at block) vs d h = absurd (false≢true h)

-- so does its thread
abbrev pub StaysIdle : {S : Type 0} → (S → Type 0) → ThreadAct S → Type 0
StaysIdle Live (GoesOn tick s) = (tick ≡ false) × Live s
StaysIdle Live (Needs at request next) = IsAlone request × ((us : List Value) → Live (next us))
StaysIdle Live _ = ⊤

acted_idle : (vs : Variables) (a : Act) → Calm a → StaysIdle IsStraight (acted vs a)
acted_idle vs (Has us) h = tt
acted_idle vs (Becomes ticks vs' t) h = h
acted_idle vs (Wants at request next) h = h
acted_idle vs (Fails at fault) h = tt
acted_idle vs (Returns us) h = tt
acted_idle vs Breaks h = tt
acted_idle vs Continues h = tt
acted_idle vs (Exits status) h = tt

pub thread_idle : (program : List Function) (c : Code) → IsStraight c → StaysIdle IsStraight (thread_step program c)
thread_idle program c h =
    acted_idle c.variables (step program c.variables 1 c.term) (step_calm program c.term c.variables 1 h)
