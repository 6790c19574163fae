-- The calls of a thread stand for a term: where they are while the term is left.
use Rattle.std.specs.Prelude.{◌≡◌, ◌≢◌, ◌⊎◌, ℕ, zero, suc, ◌+◌, ◌<◌, ◌≤◌, pos, Bool, true, false, List, [], ◌∷◌, ◌++◌, map, length, cond, slice_get, Option, Some, None, ⊤, if◌then◌else◌}
use Rattle.std.specs.Str.{bytes_eq}
use Rattle.bds_value.specs.declared.value.At.{At}
use Rattle.bds_value.specs.declared.value.Op.{Op}
use Rattle.bds_value.specs.declared.value.Op.TheVariants as op
use Rattle.bds_value.specs.declared.TheConstants.{MAX_ITEMS}
use Rattle.bds_value.specs.declared.value.Ty.{Ty}
use Rattle.bds_value.specs.declared.value.Ty.TheVariants as ty
use Rattle.bds_value.specs.declared.value.Value.{Value}
use Rattle.bds_value.specs.declared.value.Value.TheVariants as value
use Rattle.bds_value.specs.Value.{default_of}
use Rattle.bds_tree.specs.declared.expr.PrefixOp.{PrefixOp}
use Rattle.bds_tree.specs.declared.expr.PrefixOp.TheVariants as sign
use Rattle.bds_host.specs.declared.asks.Ask.{Ask}
use Rattle.bds_host.specs.declared.asks.Ask.TheVariants as ask
use Rattle.bds_code.specs.declared.instr.Instr.{Instr}
use Rattle.bds_code.specs.declared.instr.Instr.TheVariants as instr
use Rattle.bds_code.specs.declared.unit.Function.{Function}
use Rattle.bds_code.specs.declared.unit.Unit.{Unit as CodeUnit}
use Rattle.bds_value.specs.Types.{is_void}
use Rattle.bds_code_frames.specs.Stack.{Call as Running, Stack, call_at, place_of}
use Rattle.bds_machine.specs.declared.point.Point.{Point}
use Rattle.bds_machine.specs.declared.point.Point.TheVariants as point
use Rattle.bds_machine_values.specs.Updates.{operand_counts}
use Rattle.bds_machine_values.specs.Values.{argument_counts}
use Rattle.bds_meaning.specs.Acts.{Code}
use Rattle.bds_schedule.specs.Requests.{Request, Contacts, Inspects, Compares, MakesTask, Declares, Achieves, Spawns, AwaitsIds, AwaitsAll, Saves, IsThere, IsEmpty, SizeOf}
use Rattle.bds_meaning.specs.Step.{Function as Definition, function_in, is_wanted}
use Rattle.bds_meaning.specs.Term.{Computation, Prefixed, Operated, Shown, Pieced, ItemTaken, KeyTaken, MethodCalled, ListMade, MapMade, Action, FileStamped, Change, Replaced, Increased, Reckoned, Mutated, Into, Term, Reduced, Constant, Variable, Compute, Does, Nothing, More, Choose, Call, Frame, Then, Block, Inside, Declare, Update, While, Each, Items, Turn, Switch, Case, Default, Tries, Within, Break, Continue, Return, Error, Exit, SpawnCall, SpawnBlock, Settle, Weigh, Make, Making, as_task, as_rule, work_in, Printed, FileRead, FileWritten, FileRemoved, CommandRun, Compared, Achieved, IdsAwaited, AllAwaited, Saved, SavedHere, by_index, by_key}
use Rattle.bds_schedule.specs.Requests.{Question}
use Rattle.bds_value.specs.Readers.{items_in}
use Rattle.bds_schedule.specs.Values.{of_texts}
use Rattle.bds_meaning.specs.Work.{Setting, Outputs, Inputs, Processors, CanFail, Retries, TaskName, Condition, Work, noted}
use Rattle.bds_meaning.specs.Variables.{Bindings, Variables, Scope, local, global, with_locals}
use Rattle.bds_sim.specs.Threads.{Parts, code_behind, answered}

-- the names in force with their slots, the inner ones first. A local that an inner one hides may have none
abbrev pub Names : Type 0
Names = List (List ℕ × Option ℕ)

abbrev pub slot_of : Names → List ℕ → Option ℕ
slot_of [] x = None
slot_of (p ∷ ns) x = if bytes_eq p.0 x then p.1 else slot_of ns x

-- the number of the first global of a name
abbrev pub position_of : List (List ℕ) → List ℕ → ℕ
position_of [] x = 0
position_of (n ∷ ns) x = if bytes_eq n x then 0 else position_of ns x + 1

abbrev pub Free : ℕ → Names → Type 0
Free i [] = Unit {0}
Free i (p ∷ ns) = (p.1 ≢ Some i) × Free i ns

-- the slot of a name, if it has one, holds this value and is none of these names
abbrev pub InSlot : Option ℕ → Value → Names → List Value → Type 0
InSlot None v ns slots = Unit {0}
InSlot (Some i) v ns slots = (slice_get slots i ≡ Some v) × Free i ns

-- the slots of the names in force hold the locals; any other slot holds anything
abbrev pub Holds : Names → Bindings → List Value → Type 0
Holds [] [] slots = Unit {0}
Holds [] (q ∷ ls) slots = ⊥
Holds (p ∷ ns) [] slots = ⊥
Holds (p ∷ ns) (q ∷ ls) slots = (p.0 ≡ q.0) × InSlot p.1 q.1 ns slots × Holds ns ls slots

-- slots that are held keep these values, and no name in force has one

abbrev pub Unheld : ℕ → List ℕ → Type 0
Unheld i [] = Unit {0}
Unheld i (h ∷ hs) = (h ≢ i) × Unheld i hs

abbrev pub KeepsHeld : List ℕ → List Value → List Value → Type 0
KeepsHeld [] [] slots = Unit {0}
KeepsHeld [] (v ∷ vs) slots = ⊥
KeepsHeld (h ∷ hs) [] slots = ⊥
KeepsHeld (h ∷ hs) (v ∷ vs) slots = (slice_get slots h ≡ Some v) × KeepsHeld hs vs slots

abbrev pub Clear : Option ℕ → List ℕ → Type 0
Clear None hs = Unit {0}
Clear (Some i) hs = Unheld i hs

abbrev pub Apart : Names → List ℕ → Type 0
Apart [] hs = Unit {0}
Apart (p ∷ ns) hs = Clear p.1 hs × Apart ns hs

-- slots fit the locals and what is kept
pub record Fits (names : Names) (held : List ℕ) (kept : List Value) (locals : Bindings) (slots : List Value) : Type 0 where
  pub holds : Holds names locals slots
  pub keeps : KeepsHeld held kept slots
  pub apart : Apart names held

-- parameters stand in the slots from i on
abbrev pub numbered : List (List ℕ) → ℕ → Names
numbered [] i = []
numbered (x ∷ xs) i = (x, Some i) ∷ numbered xs (suc i)

-- a name's slot where it stood, and its slot in a thread that begins with what these slots hold: it is where that was put, or it isn't passed
abbrev pub PassedTo : List ℕ → Option ℕ → Option ℕ → Type 0
PassedTo slots from None = Unit {0}
PassedTo slots from (Some k) = (i : ℕ) × (from ≡ Some i) × (slice_get slots k ≡ Some i)

-- the names of such a thread. A local that isn't passed has no slot there
abbrev pub Passed : Names → List ℕ → Names → Type 0
Passed [] slots [] = Unit {0}
Passed [] slots (q ∷ ns') = ⊥
Passed (p ∷ ns) slots [] = ⊥
Passed (p ∷ ns) slots (q ∷ ns') = (p.0 ≡ q.0) × PassedTo slots p.1 q.1 × Passed ns slots ns'

abbrev pub values : Bindings → List Value
values bs = map (λ b. b.1) bs

abbrev pub names_of : Bindings → List (List ℕ)
names_of bs = map (λ b. b.0) bs

abbrev pub parts : Variables → Stack → Parts
parts vs s = record { globals = values vs.globals; calls = s }

abbrev pub operator_code : Op → Instr
operator_code op.Add = instr.Add
operator_code op.Sub = instr.Sub
operator_code op.Mul = instr.Mul
operator_code op.Div = instr.Div
operator_code op.Rem = instr.Rem
operator_code op.Equal = instr.Equal
operator_code op.NotEqual = instr.NotEqual
operator_code op.Less = instr.Less
operator_code op.LessEqual = instr.LessEqual
operator_code op.Greater = instr.Greater
operator_code op.GreaterEqual = instr.GreaterEqual
operator_code op.Concat = instr.Concat
operator_code op.ListAdd = instr.ListAdd
operator_code op.ListCat = instr.ListCat

-- how many operands an action takes, and the values that it gives
abbrev pub takes : Action → ℕ
takes Printed = 1
takes FileRead = 1
takes FileWritten = 2
takes FileRemoved = 1
takes (FileStamped q) = 1
takes CommandRun = 1
takes Compared = 2
takes Achieved = 1
takes IdsAwaited = 1
takes AllAwaited = 0
takes Saved = 1
takes SavedHere = 0

abbrev pub question_number : Question → ℕ
question_number IsThere = 0
question_number IsEmpty = 1
question_number SizeOf = 2

abbrev pub action_code : Action → Instr
action_code Printed = instr.Out
action_code FileRead = instr.FileRead
action_code FileWritten = instr.FileWrite
action_code FileRemoved = instr.FileRemove
action_code (FileStamped q) = instr.FileStamp (question_number q)
action_code CommandRun = instr.Sys
action_code Compared = instr.OutOfDate
action_code Achieved = instr.Goal
action_code IdsAwaited = instr.Wait
action_code AllAwaited = instr.WaitAll
action_code Saved = instr.Save
action_code SavedHere = instr.SaveHere

-- how many values the answer to an action gives
abbrev pub kind_of : Action → ℕ
kind_of Printed = 0
kind_of FileRead = 1
kind_of FileWritten = 0
kind_of FileRemoved = 0
kind_of (FileStamped q) = 1
kind_of CommandRun = 1
kind_of Compared = 1
kind_of Achieved = 1
kind_of IdsAwaited = 0
kind_of AllAwaited = 0
kind_of Saved = 0
kind_of SavedHere = 0

-- how many values an answer to a request gives
abbrev pub count_of : {S : Type 0} → Request S → ℕ
count_of (Contacts (ask.Read path)) = 1
count_of (Contacts (ask.Sys command)) = 1
count_of (Contacts _) = 0
count_of (Inspects q path) = 1
count_of (Compares outs ins) = 1
count_of (MakesTask task) = 1
count_of (Declares rule) = 0
count_of (Achieves files) = 1
count_of (Spawns s) = 1
count_of (AwaitsIds ids) = 0
count_of AwaitsAll = 0
count_of (Saves path) = 0

-- a contact that an instruction makes, other than for a stamp
abbrev pub IsContact : Ask → Type 0
IsContact (ask.Read path) = ⊤
IsContact (ask.Write path text) = ⊤
IsContact (ask.Remove path) = ⊤
IsContact (ask.Out text) = ⊤
IsContact (ask.Sys command) = ⊤
IsContact _ = ⊥

-- the point of a request, but for a new thread
abbrev pub IsPoint : {S : Type 0} → Request S → Point → Type 0
IsPoint (Contacts a) p = p ≡ point.Asks a
IsPoint (Inspects q path) p = p ≡ point.Asks (ask.Stamp path)
IsPoint (Compares outs ins) p = p ≡ point.Old outs ins
IsPoint (MakesTask task) p = p ≡ point.Task task
IsPoint (Declares rule) p = p ≡ point.Declare rule
IsPoint (Achieves files) p = p ≡ point.Goal files
IsPoint (Spawns s) p = ⊥
IsPoint (AwaitsIds ids) p = p ≡ point.Wait ids
IsPoint AwaitsAll p = p ≡ point.WaitAll
IsPoint (Saves path) p = p ≡ point.Save path

-- whether an instruction pushes this constant
abbrev pub IsPush : Instr → Value → Type 0
IsPush (instr.PushBool b) v = v ≡ value.Bool b
IsPush (instr.PushInt n) v = v ≡ value.Int n
IsPush (instr.PushText t) v = v ≡ value.Text t
IsPush (instr.PushDefault t) v = v ≡ default_of t
IsPush _ v = ⊥

abbrev pub sign_code : PrefixOp → Instr
sign_code sign.Neg = instr.Neg
sign_code sign.Not = instr.Not

-- the instruction that makes a value of so many operands
abbrev pub IsCode : Computation → ℕ → Instr → Type 0
IsCode (Prefixed s) n i = (n ≡ 1) × (i ≡ sign_code s)
IsCode (Operated o) n i = (n ≡ 2) × (i ≡ operator_code o)
IsCode Shown n i = (n ≡ 1) × (i ≡ instr.Show)
IsCode Pieced n i = (n ≡ 1) × (i ≡ instr.Blank)
IsCode ItemTaken n i = (n ≡ 2) × (i ≡ instr.Item)
IsCode KeyTaken n i = (n ≡ 2) × (i ≡ instr.Key)
IsCode (ListMade t) n i = i ≡ instr.MakeList t n
IsCode (MethodCalled m) n i = (k : ℕ) × (slice_get argument_counts m ≡ Some k) × (n ≡ k + 1) × (i ≡ instr.Method m)
IsCode (MapMade t) n i = (k : ℕ) × (n ≡ k + k) × (i ≡ instr.MakeMap t k)

abbrev pub is_key : Into → Bool
is_key by_index = false
is_key by_key = true

-- the numbers of methods that change
abbrev pub IsMutation : ℕ → Type 0
IsMutation m = (m ≡ 6) ⊎ ((m ≡ 7) ⊎ ((m ≡ 8) ⊎ ((m ≡ 9) ⊎ (m ≡ 10))))

-- the number of a change, and how many values it takes
abbrev pub IsChange : Change → ℕ → ℕ → Type 0
IsChange Replaced what n = (what ≡ 0) × (n ≡ 1)
IsChange Increased what n = (what ≡ 1) × (n ≡ 1)
IsChange (Reckoned op.Sub) what n = (what ≡ 2) × (n ≡ 1)
IsChange (Reckoned op.Mul) what n = (what ≡ 3) × (n ≡ 1)
IsChange (Reckoned op.Div) what n = (what ≡ 4) × (n ≡ 1)
IsChange (Reckoned op.Rem) what n = (what ≡ 5) × (n ≡ 1)
IsChange (Mutated m) what n = (what ≡ m) × IsMutation m × (slice_get operand_counts m ≡ Some n)
IsChange _ what n = ⊥

abbrev pub is_global : Scope → Bool
is_global local = false
is_global global = true

abbrev pub load_code : Scope → ℕ → Instr
load_code local n = instr.Load n
load_code global n = instr.LoadGlobal n

-- Options of tasks and rules: each has a slot, in this order

abbrev pub option_number : Setting → ℕ
option_number Outputs = 0
option_number Inputs = 1
option_number Processors = 2
option_number CanFail = 3
option_number Retries = 4
option_number TaskName = 5
option_number Condition = 6

abbrev pub option_slot : ℕ → Setting → ℕ
option_slot first k = first + option_number k

abbrev pub noted_in : Work → Setting → Value
noted_in w Outputs = w.outs
noted_in w Inputs = w.ins
noted_in w Processors = w.cpus
noted_in w CanFail = w.can_fail
noted_in w Retries = w.retry
noted_in w TaskName = w.name
noted_in w Condition = value.Bool w.needed

abbrev pub slots_of : ℕ → List Setting → List ℕ
slots_of first ks = map (option_slot first) ks

abbrev pub notes : Work → List Setting → List Value
notes w ks = map (noted_in w) ks

abbrev pub Among : Setting → List Setting → Type 0
Among k [] = ⊥
Among k (j ∷ js) = (j ≡ k) ⊎ Among k js

abbrev pub AreAmong : List Setting → List Setting → Type 0
AreAmong [] js = Unit {0}
AreAmong (k ∷ ks) js = Among k js × AreAmong ks js

-- the options whose slots hold what is noted, behind another one. Of a condition only the default is stored
abbrev pub known_behind : Setting → List Setting → List Setting
known_behind Condition ks = ks
known_behind k ks = k ∷ ks

-- the operands of a task or a rule
abbrev pub made_of : List Setting
made_of = Outputs ∷ Inputs ∷ Processors ∷ CanFail ∷ Retries ∷ TaskName ∷ []

abbrev pub loads_of : ℕ → List Setting → List Instr
loads_of first ks = map (λ k. instr.Load (option_slot first k)) ks

-- values pushed one after another
abbrev pub onto : List Value → List Value → List Value
onto [] ops = ops
onto (v ∷ vs) ops = onto vs (v ∷ ops)

abbrev pub making_code : Making → Instr
making_code as_task = instr.NewTask
making_code as_rule = instr.Declare

abbrev pub making_count : Making → ℕ
making_count as_task = 1
making_count as_rule = 0

-- conditions are tested at the end, or there are none
abbrev pub IsTested : Setting → Bool → Type 0
IsTested Condition tested = tested ≡ true
IsTested k tested = Unit {0}

-- where a `break` or a `continue` leads, and the names in force there
pub record Target : Type 0 where
  pub place : ℕ
  pub names : Names

abbrev pub target : ℕ → Names → Target
target place names = record { place = place; names = names }

-- a loop or a `switch` around a place: where `break` leads, and `continue`, if there is a loop
pub record Loop : Type 0 where
  pub out : Target
  pub again : Option Target

-- around these names
abbrev pub loop_at : ℕ → ℕ → Names → Loop
loop_at out again names = record { out = target out names; again = Some (target again names) }

abbrev pub out_of : Option Loop → Option Target
out_of None = None
out_of (Some l) = Some l.out

abbrev pub again_of : Option Loop → Option Target
again_of None = None
again_of (Some l) = l.again

-- within a loop, if there is one
abbrev pub switch_at : Option Loop → ℕ → Names → Loop
switch_at around out names = record { out = target out names; again = again_of around }

-- where a term stands. Static: its function, the loop or `switch` around it, the names in force when it is done, the
-- place where it is done and how many values it leaves, and the slots that are held. Of the thread: the operands below
-- these, the calls below its own, and what the held slots keep
pub record Site : Type 0 where
  pub function : ℕ
  pub loop : Option Loop
  pub names : Names
  pub exit : ℕ
  pub kind : ℕ
  pub base : List Value
  pub below : Stack
  pub held : List ℕ
  pub kept : List Value

abbrev pub call : Site → ℕ → List Value → List Value → Running
call c pc slots ops = record { function = c.function; place = pc; slots = slots; ops = ops }

abbrev pub at : Site → ℕ → List Value → List Value → Stack
at c pc slots ops = call c pc slots ops ∷ c.below

-- parts: an operand, a part over other values, and a statement
abbrev pub part : Site → ℕ → ℕ → Site
part c exit kind = record { function = c.function; loop = None; names = c.names; exit = exit; kind = kind; base = c.base; below = c.below; held = c.held; kept = c.kept }

abbrev pub part_named : Site → Names → ℕ → ℕ → Site
part_named c names exit kind = record { function = c.function; loop = None; names = names; exit = exit; kind = kind; base = c.base; below = c.below; held = c.held; kept = c.kept }

abbrev pub part_over : Site → List Value → ℕ → ℕ → Site
part_over c us exit kind = record { function = c.function; loop = None; names = c.names; exit = exit; kind = kind; base = us ++ c.base; below = c.below; held = c.held; kept = c.kept }

abbrev pub statement : Site → Names → ℕ → ℕ → Site
statement c names exit kind = record { function = c.function; loop = c.loop; names = names; exit = exit; kind = kind; base = c.base; below = c.below; held = c.held; kept = c.kept }

-- in a loop's body: the loop holds further slots
abbrev pub looped : Site → ℕ → ℕ → Names → List ℕ → List Value → Site
looped c out again names more hold = record { function = c.function; loop = Some (loop_at out again c.names); names = names; exit = again; kind = 0; base = c.base; below = c.below; held = more ++ c.held; kept = hold ++ c.kept }

-- in the statements of a `switch`
abbrev pub switched : Site → ℕ → Names → Site
switched c out names = record { function = c.function; loop = Some (switch_at c.loop out c.names); names = names; exit = out; kind = 0; base = c.base; below = c.below; held = c.held; kept = c.kept }

-- with further slots that are held
abbrev pub holding : Site → List ℕ → List Value → Site
holding c more hold = record { function = c.function; loop = c.loop; names = c.names; exit = c.exit; kind = c.kind; base = c.base; below = c.below; held = more ++ c.held; kept = hold ++ c.kept }

-- a part while further slots are held
abbrev pub part_holding : Site → List ℕ → List Value → ℕ → ℕ → Site
part_holding c more hold exit kind = record { function = c.function; loop = None; names = c.names; exit = exit; kind = kind; base = c.base; below = c.below; held = more ++ c.held; kept = hold ++ c.kept }

abbrev pub results : Ty → ℕ
results ret = cond (is_void ret) 0 1

-- what a unit is made of: its program and globals, and the number of each function in it
pub record Source : Type 0 where
  pub program : List Definition
  pub globals : List (List ℕ)
  pub number : List ℕ → ℕ

-- the number of a variable that is in force
abbrev pub IsNumber : Source → Scope → Names → List ℕ → ℕ → Type 0
IsNumber o local names x n = slot_of names x ≡ Some n
IsNumber o global names x n = n ≡ position_of o.globals x

module _ (o : Source) (u : CodeUnit) where
  -- an instruction at a place of a function
  pub record Is (function pc : ℕ) (i : Instr) : Type 0 where
    pub f : Function
    pub there : slice_get u.functions function ≡ Some f
    pub code : slice_get f.code pc ≡ Some i

  -- n jumps lead from one place to another
  abbrev pub Jumps : ℕ → ℕ → ℕ → ℕ → Type 0
  Jumps function zero pc to = pc ≡ to
  Jumps function (suc n) pc to = (mid : ℕ) × Is function pc (instr.Jump mid) × Jumps function n mid to

  pub record Comes (function pc to : ℕ) : Type 0 where
    pub count : ℕ
    pub jumps : Jumps function count pc to

  -- the last instruction of a form, and with its line
  pub record Last (c : Site) (pc : ℕ) (i : Instr) : Type 0 where
    pub is : Is c.function pc i
    pub comes : Comes c.function (pc + 1) c.exit

  pub record LastAt (c : Site) (pc : ℕ) (i : Instr) (line : At) : Type 0 where
    pub last : Last c pc i
    pub lines : slice_get last.is.f.lines pc ≡ Some line

  -- the values of a statement are dropped
  abbrev pub Drops : ℕ → ℕ → ℕ → ℕ → Type 0
  Drops function zero from to = Comes function from to
  Drops function (suc k) from to = Is function from instr.Drop × Drops function k (from + 1) to

  -- the globals are the script's, in their order
  abbrev pub Named : Variables → Type 0
  Named vs = names_of vs.globals ≡ o.globals

  -- the newest call is at a place, with these operands
  pub record Stays (vs : Variables) (c : Site) (pc : ℕ) (ops : List Value) (s : Stack) : Type 0 where
    pub named : Named vs
    pub slots : List Value
    pub holds : Fits c.names c.held c.kept vs.locals slots
    pub is : s ≡ at c pc slots ops

  abbrev pub Standing : Type 1
  Standing = Variables → Site → Stack → Type 0

  -- a part that hasn't begun: wherever the newest call is at its place, it stands
  pub record CodeBegins (stands : Standing) (function : ℕ) (loop : Option Loop) (held : List ℕ) (names : Names) (pc : ℕ) (names' : Names) (exit kind : ℕ) : Type 0 where
    pub at : (vs : Variables) (slots base kept : List Value) (below : Stack) → Named vs → Fits names held kept vs.locals slots
        → stands vs (record { function = function; loop = loop; names = names'; exit = exit; kind = kind; base = base; below = below; held = held; kept = kept }) (record { function = function; place = pc; slots = slots; ops = base } ∷ below)

  -- two parts: in the first, or in the second over the first's values
  abbrev pub Two : Standing → Standing → Term → ℕ → ℕ → Variables → Site → ℕ → Stack → Type 0
  Two sa sb a k1 k2 vs c pc s =
      ((mid : ℕ) × sa vs (part c mid k1) s × CodeBegins sb c.function None c.held c.names mid c.names pc k2)
      ⊎ ((us : List Value) × (a ≡ Reduced us) × (length us ≡ k1) × sb vs (part_over c us pc k2) s)

  -- a loop's code begins at `top`
  pub record LoopAt (st sb sn : Standing) (function : ℕ) (loop : Option Loop) (held : List ℕ) (names : Names) (exit top : ℕ) : Type 0 where
    pub test : ℕ
    pub again : ℕ
    pub back : ℕ
    pub out : ℕ
    pub tick : Is function top instr.Tick
    pub begin_test : CodeBegins st function None held names (top + 1) names test 1
    pub branch : Is function test (instr.JumpUnless out)
    pub begin_body : CodeBegins sb function (Some (loop_at out again names)) held names (test + 1) names again 0
    -- what is done behind a turn, and back to the top
    pub begin_next : CodeBegins sn function loop held names again names back 0
    pub turns : Comes function back top
    pub done : Comes function out exit

  -- what goes on behind a turn, where the loop's slots are held still
  pub record Resumes (stands : Standing) (c : Site) (more : List ℕ) (hold : List Value) (again : ℕ) : Type 0 where
    pub as_many : length more ≡ length hold
    pub at : (vs : Variables) (slots : List Value) → Named vs → Fits c.names (more ++ c.held) (hold ++ c.kept) vs.locals slots → stands vs (statement c c.names c.exit 0) (Rattle.bds_sim_terms.specs.steps.Stands.at c again slots c.base)

  -- instructions behind one another
  abbrev pub Row : ℕ → ℕ → List Instr → ℕ → Type 0
  Row function pc [] to = pc ≡ to
  Row function pc (i ∷ is) to = Is function pc i × Row function (pc + 1) is to

  -- a constant is pushed: one value, or the texts of a list that are then made into one
  abbrev pub Gives : ℕ → Value → ℕ → ℕ → Type 0
  Gives function v from to =
      ((i : Instr) × IsPush i v × Row function from (i ∷ []) to)
      ⊎ ((texts : List (List ℕ)) × ((mid : ℕ) × (v ≡ of_texts texts) × (length texts ≤ MAX_ITEMS) × Row function from (map instr.PushText texts) mid × Row function mid (instr.MakeList ty.Text (length texts) ∷ []) to))

  -- the code of a list loop behind its list: its list, counter and variable have slots of their own
  pub record EachAt (sb : Standing) (function : ℕ) (held : List ℕ) (names : Names) (exit : ℕ) (x : List ℕ) : Type 0 where
    pub list : ℕ
    pub count : ℕ
    pub item : ℕ
    pub top : ℕ
    pub again : ℕ
    pub out : ℕ
    pub free_list : Free list names
    pub free_count : Free count names
    pub free_item : Free item names
    pub unheld_list : Unheld list held
    pub unheld_count : Unheld count (list ∷ held)
    pub unheld_item : Unheld item (count ∷ list ∷ held)
    pub test : ℕ
    pub body : ℕ
    pub back : ℕ
    pub looks : Row function top (instr.Tick ∷ instr.Load count ∷ instr.Load list ∷ instr.Method 17 ∷ instr.Less ∷ []) test
    pub branch : Is function test (instr.JumpUnless out)
    pub takes : Row function (test + 1) (instr.Load list ∷ instr.Load count ∷ instr.Item ∷ instr.Store item ∷ []) body
    pub begin_body : CodeBegins sb function (Some (loop_at out again names)) (count ∷ list ∷ held) ((x, Some item) ∷ names) body ((x, Some item) ∷ names) again 0
    pub counts : Row function again (instr.PushInt (pos 1) ∷ instr.Update false count [] 1 ∷ []) back
    pub turns : Comes function back top
    pub done : Comes function out exit

  -- at the top the counter is the place of the next item; behind a turn it is one less
  abbrev pub Counts : ℕ → ℕ → ℕ → ℕ → ℕ → ℕ → List Value → Type 0
  Counts function top again pc n i items = (Comes function pc top × (n ≡ i)) ⊎ ((pc ≡ again) × (i ≡ n + 1) × (n < length items))

  -- a label is compared with the value of the `switch`: where they are equal the code goes on at `start`, and else at `next`
  pub record Tested (function slot test start next : ℕ) : Type 0 where
    pub branch : ℕ
    pub compares : Row function test (instr.Load slot ∷ instr.Equal ∷ []) branch
    pub other : Is function branch (instr.JumpUnless next)
    pub equal : Comes function (branch + 1) start

  -- the code of a case's statements, from which it goes on at `next`
  pub record CaseAt (sa : Standing) (function : ℕ) (loop : Loop) (held : List ℕ) (names : Names) (start next : ℕ) : Type 0 where
    pub end : ℕ
    pub begins : CodeBegins sa function (Some loop) held names start names end 0
    pub on : Comes function end next

  -- the code of a label, while the slot of the value is held
  pub record LabelAt (sl : Standing) (function slot : ℕ) (held : List ℕ) (names : Names) (from start next : ℕ) : Type 0 where
    pub test : ℕ
    pub begins : CodeBegins sl function None (slot ∷ held) names from names test 1
    pub tested : Tested function slot test start next

  -- the slot of a `switch`, and its end
  pub record SwitchAt (c : Site) (slot out : ℕ) : Type 0 where
    pub free : Free slot c.names
    pub unheld : Unheld slot c.held
    pub done : Comes c.function out c.exit

  -- an instruction of a line
  pub record Lined (function pc : ℕ) (i : Instr) (line : At) : Type 0 where
    pub is : Is function pc i
    pub lines : slice_get is.f.lines pc ≡ Some line

  -- the slots of options are none of the names' and of those that are held
  abbrev pub AreSpare : ℕ → Names → List ℕ → Type 0
  AreSpare first names held = (k : Setting) → Free (option_slot first k) names × Unheld (option_slot first k) held

  -- where a condition isn't true, the task isn't needed
  pub record Joins (function first pc to : ℕ) : Type 0 where
    pub no : ℕ
    pub back : ℕ
    pub test : Is function pc (instr.JumpUnless no)
    pub over : Comes function (pc + 1) to
    pub off : Row function no (instr.PushBool false ∷ instr.Store (option_slot first Condition) ∷ []) back
    pub on : Comes function back to

  -- the value of an option goes to its slot
  abbrev pub Notes : Setting → ℕ → ℕ → ℕ → ℕ → Type 0
  Notes Condition function first pc to = Joins function first pc to
  Notes k function first pc to = Row function pc (instr.Store (option_slot first k) ∷ []) to

  -- slots get the values of options that aren't there, the last in front
  abbrev pub Sets : Work → ℕ → ℕ → ℕ → List Setting → ℕ → Type 0
  Sets w function first from [] to = from ≡ to
  Sets w function first from (k ∷ ks) to = (mid : ℕ) × Sets w function first from ks mid × ((i : Instr) × IsPush i (noted_in w k) × Row function mid (i ∷ instr.Store (option_slot first k) ∷ []) to)

  -- at a place, with these options in their slots: before the others are set, or where a condition is still to be joined
  abbrev pub Arrives : Variables → Site → ℕ → Work → List Setting → ℕ → Stack → Type 0
  Arrives vs c first w ks pc s =
      ((from : ℕ) × ((new before : List Setting) × (ks ≡ new ++ before) × Sets w c.function first from new pc × Stays vs (holding c (slots_of first before) (notes w before)) from c.base s))
      ⊎ ((from : ℕ) × ((v : Value) × ((old : Work) × (w ≡ noted Condition v old) × Joins c.function first from pc × Stays vs (holding c (slots_of first ks) (notes old ks)) from (v ∷ c.base) s)))

  -- what is behind an option, by the options in their slots and the place
  abbrev pub Behind : Type 1
  Behind = List Setting → ℕ → Type 0

  abbrev pub SettleAt : Setting → Standing → Behind → ℕ → List ℕ → Names → ℕ → Bool → List Setting → ℕ → Type 0
  SettleAt k sa rest function held names first tested ks pc =
      (mid to : ℕ) × CodeBegins sa function None (slots_of first ks ++ held) names pc names mid 1 × Notes k function first mid to × IsTested k tested × rest (known_behind k ks) to

  abbrev pub WeighAt : At → Behind → ℕ → ℕ → Bool → List Setting → ℕ → Type 0
  WeighAt line rest function first tested ks pc =
      (asks to : ℕ) × AreAmong (Outputs ∷ Inputs ∷ []) ks × (tested ≡ true) × Row function pc (loads_of first (Outputs ∷ Inputs ∷ [])) asks × Lined function asks instr.OutOfDate line
      × Joins function first (asks + 1) to × rest ks to

  -- whether the command is wanted; a task that isn't gives an empty text
  abbrev pub Wanted : Making → Bool → Work → ℕ → ℕ → List Setting → ℕ → ℕ → ℕ → ℕ → Type 0
  Wanted as_rule tested w function first ks pc start exit kind = pc ≡ start
  Wanted as_task false w function first ks pc start exit kind = (w.needed ≡ true) × (pc ≡ start)
  Wanted as_task true w function first ks pc start exit kind =
      (no back : ℕ) × Among Condition ks × Row function pc (instr.Load (option_slot first Condition) ∷ instr.JumpUnless no ∷ []) start × Row function no (instr.PushText [] ∷ []) back × Comes function back exit × (1 ≡ kind)

  abbrev pub MakeAt : Making → At → Work → Standing → ℕ → List ℕ → Names → ℕ → ℕ → ℕ → Bool → List Setting → ℕ → Type 0
  MakeAt making line w sc function held names exit kind first tested ks pc =
      (start command end : ℕ) × AreAmong made_of ks × Wanted making tested w function first ks pc start exit kind × Row function start (loads_of first made_of) command
      × CodeBegins sc function None held names command names end 1 × Lined function end (making_code making) line × Comes function (end + 1) exit × (making_count making ≡ kind)

  -- where a thread's own code is done: behind the code, where no thread is, or at a Return without a result
  abbrev pub EndsAt : ℕ → Function → ℕ → Type 0
  EndsAt function f exit = (exit ≡ length f.code) ⊎ ((is : Is function exit instr.Return) × (0 ≡ results is.f.ret))

  -- the function of the unit that a call runs
  pub record Runs (number : ℕ) (kind : ℕ) : Type 0 where
    pub f : Function
    pub there : slice_get u.functions number ≡ Some f
    pub gives : results f.ret ≡ kind

  abbrev mutual
    pub Stands : Term → Standing
    Stands (Reduced us) vs c s = (length us ≡ c.kind) × ((pc : ℕ) × Comes c.function pc c.exit × Stays vs c pc (us ++ c.base) s)
    Stands (Constant v) vs c s = (1 ≡ c.kind) × ((pc end : ℕ) × Gives c.function v pc end × Comes c.function end c.exit × Stays vs c pc c.base s)
    Stands (Variable scope x) vs c s = (1 ≡ c.kind) × ((pc n : ℕ) × IsNumber o scope c.names x n × Last c pc (load_code scope n) × Stays vs c pc c.base s)
    Stands (Compute comp line a) vs c s =
        (1 ≡ c.kind) × ((pc : ℕ) × ((n : ℕ) × ((i : Instr) × IsCode comp n i × LastAt c pc i line × Stands a vs (part c pc n) s)))
    Stands (Does action line a) vs c s = (pc : ℕ) × LastAt c pc (action_code action) line × (Stands a vs (part c pc (takes action)) s × (kind_of action ≡ c.kind))
    Stands (Choose t a b) vs c s =
        (pc other : ℕ) × Is c.function pc (instr.JumpUnless other) × CodeBegins (Stands a) c.function c.loop c.held c.names (pc + 1) c.names c.exit c.kind
        × CodeBegins (Stands b) c.function c.loop c.held c.names other c.names c.exit c.kind × Stands t vs (part c pc 1) s
    Stands Nothing vs c s = (0 ≡ c.kind) × ((pc : ℕ) × Comes c.function pc c.exit × Stays vs c pc c.base s)
    Stands (More a b) vs c s = (k1 k2 : ℕ) × (k2 + k1 ≡ c.kind) × ((pc : ℕ) × Comes c.function pc c.exit × Two (Stands a) (Stands b) a k1 k2 vs c pc s)
    Stands (Then a b) vs c s = (0 ≡ c.kind) × ((names : Names) × ((k end mid : ℕ) × Drops c.function k end mid × CodeBegins (Stands b) c.function c.loop c.held names mid c.names c.exit 0 × Stands a vs (statement c names end k) s))
    Stands (While t body behind) vs c s =
        (0 ≡ c.kind) × ((top pc : ℕ) × LoopAt (Stands t) (Stands body) (Stands behind) c.function c.loop c.held c.names c.exit top × Comes c.function pc top × Stays vs c pc c.base s)
    Stands (Turn k t next) vs c s =
        (0 ≡ c.kind) × (k ≡ length c.names) × ((again out : ℕ) × ((more : List ℕ) × ((hold : List Value) × Resumes (Stands next) c more hold again × Comes c.function out c.exit
        × ((names : Names) × ((added : Names) × (names ≡ added ++ c.names) × Stands t vs (looped c out again names more hold) s)))))
    Stands (Switch a cases) vs c s =
        (0 ≡ c.kind) × ((slot out pc other : ℕ) × SwitchAt c slot out × Is c.function pc (instr.Store slot) × CasesTried cases c.function slot (switch_at c.loop out c.names) c.held c.names (pc + 1) other
        × DefaultRuns cases c.function (switch_at c.loop out c.names) c.held c.names other × Stands a vs (part c pc 1) s)
    Stands (Case label a cases) vs c s = ⊥
    Stands (Default a cases) vs c s = ⊥
    Stands (Tries v label a cases others) vs c s =
        (0 ≡ c.kind) × ((slot out test start next behind other : ℕ) × SwitchAt c slot out × Tested c.function slot test start next × CaseAt (Stands a) c.function (switch_at c.loop out c.names) c.held c.names start behind
        × CasesRun cases c.function (switch_at c.loop out c.names) c.held c.names behind × CasesTried cases c.function slot (switch_at c.loop out c.names) c.held c.names next other
        × CasesRun others c.function (switch_at c.loop out c.names) c.held c.names other × Stands label vs (part_holding c (slot ∷ []) (v ∷ []) test 1) s)
    Stands (Within k t) vs c s =
        (0 ≡ c.kind) × (k ≡ length c.names) × ((out : ℕ) × Comes c.function out c.exit × ((names : Names) × ((added : Names) × (names ≡ added ++ c.names) × Stands t vs (switched c out names) s)))
    Stands Break vs c s = (pc : ℕ) × ((to : Target) × (out_of c.loop ≡ Some to) × Comes c.function pc to.place × ((added : Names) × (c.names ≡ added ++ to.names) × Stays vs c pc c.base s))
    Stands Continue vs c s = (pc : ℕ) × ((to : Target) × (again_of c.loop ≡ Some to) × Comes c.function pc to.place × ((added : Names) × (c.names ≡ added ++ to.names) × Stays vs c pc c.base s))
    Stands (Declare local x a) vs c s =
        (0 ≡ c.kind) × ((names : Names) × ((slot pc : ℕ) × (c.names ≡ (x, Some slot) ∷ names) × Free slot names × Unheld slot c.held × Last c pc (instr.Store slot) × Stands a vs (part_named c names pc 1) s))
    Stands (Declare global x a) vs c s = (0 ≡ c.kind) × ((pc : ℕ) × Last c pc (instr.StoreGlobal (position_of o.globals x)) × Stands a vs (part c pc 1) s)
    Stands (Block t) vs c s = (0 ≡ c.kind) × (length vs.locals ≡ length c.names) × ((added : Names) × ((k end : ℕ) × Drops c.function k end c.exit × Stands t vs (statement c (added ++ c.names) end k) s))
    Stands (Inside k t) vs c s = (0 ≡ c.kind) × (k ≡ length c.names) × ((added : Names) × ((n end : ℕ) × Drops c.function n end c.exit × Stands t vs (statement c (added ++ c.names) end n) s))
    Stands (Call f line a) vs c s =
        Runs (o.number f) c.kind × ((pc : ℕ) × LastAt c pc (instr.Call (o.number f)) line × Stands a vs (part c pc (length (function_in o.program f).parameters)) s)
    Stands (Frame own t) vs c s =
        (pc : ℕ) × Comes c.function pc c.exit × ((slots : List Value) × Fits c.names c.held c.kept vs.locals slots × ((number : ℕ) × ((runs : Runs number c.kind)
        × ((names : Names) × Stands t (with_locals own vs) (record { function = number; loop = None; names = names; exit = length runs.f.code; kind = 0; base = []; below = at c pc slots c.base; held = []; kept = [] }) s))))
    Stands (Return a) vs c s = (pc : ℕ) × ((is : Is c.function pc instr.Return) × Stands a vs (part c pc (results is.f.ret)) s)
    Stands (Error line a) vs c s = (pc : ℕ) × ((is : Is c.function pc instr.Stop) × (slice_get is.f.lines pc ≡ Some line) × Stands a vs (part c pc 1) s)
    Stands (Exit a) vs c s = (pc : ℕ) × (Is c.function pc instr.Exit × Stands a vs (part c pc 1) s)
    Stands (Update line scope x into change a) vs c s =
        (0 ≡ c.kind) × ((pc n what k : ℕ) × IsNumber o scope c.names x n × IsChange change what k × LastAt c pc (instr.Update (is_global scope) n (map is_key into) what) line × Stands a vs (part c pc (k + length into)) s)
    Stands (SpawnCall x line a) vs c s =
        (1 ≡ c.kind) × ((f : Function) × (slice_get u.functions (o.number x) ≡ Some f) × ((pc : ℕ) × LastAt c pc (instr.Spawn (o.number x)) line × Stands a vs (part c pc (length (function_in o.program x).parameters)) s))
    Stands (Each x a body) vs c s =
        (0 ≡ c.kind) × ((loop : EachAt (Stands body) c.function c.held c.names c.exit x) × ((pc start : ℕ) × Row c.function pc (instr.Store loop.list ∷ instr.PushInt (pos 0) ∷ instr.Store loop.count ∷ []) start × Comes c.function start loop.top × Stands a vs (part c pc 1) s))
    Stands (Items x i list body) vs c s =
        (0 ≡ c.kind) × ((loop : EachAt (Stands body) c.function c.held c.names c.exit x) × ((n pc : ℕ) × Counts c.function loop.top loop.again pc n i (items_in list)
        × Stays vs (holding c (loop.count ∷ loop.list ∷ []) (value.Int (pos n) ∷ list ∷ [])) pc c.base s))
    Stands (SpawnBlock line block) vs c s =
        (1 ≡ c.kind) × ((number : ℕ) × ((f : Function) × ((is : List ℕ) × ((names names' : Names) × ((from pc exit : ℕ) × (slice_get u.functions number ≡ Some f) × (length f.params ≡ length is) × Passed c.names is names
        × CodeBegins (Stands block) number None [] names 0 names' exit 0 × EndsAt number f exit × Row c.function from (map instr.Load is) pc × LastAt c pc (instr.Spawn number) line × Stays vs c from c.base s)))))
    Stands (Settle k a rest) vs c s =
        (first : ℕ) × ((tested : Bool) × ((ks : List Setting) × AreSpare first c.names c.held
        × (((mid to : ℕ) × Notes k c.function first mid to × IsTested k tested × Options rest c.function c.held c.names c.exit c.kind first tested (known_behind k ks) to × Stands a vs (part_holding c (slots_of first ks) (notes (work_in rest) ks) mid 1) s)
        ⊎ ((pc : ℕ) × SettleAt k (Stands a) (Options rest c.function c.held c.names c.exit c.kind first tested) c.function c.held c.names first tested ks pc × Arrives vs c first (work_in rest) ks pc s))))
    Stands (Weigh line rest) vs c s =
        (first : ℕ) × ((tested : Bool) × ((ks : List Setting) × AreSpare first c.names c.held
        × ((pc : ℕ) × WeighAt line (Options rest c.function c.held c.names c.exit c.kind first tested) c.function first tested ks pc × Arrives vs c first (work_in rest) ks pc s)))
    Stands (Make making line w command) vs c s =
        ((end : ℕ) × (is_wanted making w ≡ true) × Lined c.function end (making_code making) line × Comes c.function (end + 1) c.exit × (making_count making ≡ c.kind) × Stands command vs (part_over c (onto (notes w made_of) []) end 1) s)
        ⊎ ((first : ℕ) × ((tested : Bool) × ((ks : List Setting) × AreSpare first c.names c.held
        × ((pc : ℕ) × MakeAt making line w (Stands command) c.function c.held c.names c.exit c.kind first tested ks pc × Arrives vs c first w ks pc s))))

    -- options, and the task or rule at their end, wherever their code begins with these options in their slots
    pub Options : Term → ℕ → List ℕ → Names → ℕ → ℕ → ℕ → Bool → Behind
    Options (Settle k a rest) function held names exit kind first tested ks pc = SettleAt k (Stands a) (Options rest function held names exit kind first tested) function held names first tested ks pc
    Options (Weigh line rest) function held names exit kind first tested ks pc = WeighAt line (Options rest function held names exit kind first tested) function first tested ks pc
    Options (Make making line w command) function held names exit kind first tested ks pc = MakeAt making line w (Stands command) function held names exit kind first tested ks pc
    Options _ function held names exit kind first tested ks pc = ⊥

    -- the code of the statements of these cases, one behind another
    pub CasesRun : Term → ℕ → Loop → List ℕ → Names → ℕ → Type 0
    CasesRun (Case label a cases) function loop held names from = (next : ℕ) × CaseAt (Stands a) function loop held names from next × CasesRun cases function loop held names next
    CasesRun (Default a cases) function loop held names from = (next : ℕ) × CaseAt (Stands a) function loop held names from next × CasesRun cases function loop held names next
    CasesRun _ function loop held names from = Comes function from loop.out.place

    -- the code of the statements from `default` on
    pub DefaultRuns : Term → ℕ → Loop → List ℕ → Names → ℕ → Type 0
    DefaultRuns (Case label a cases) function loop held names from = DefaultRuns cases function loop held names from
    DefaultRuns (Default a cases) function loop held names from = (next : ℕ) × CaseAt (Stands a) function loop held names from next × CasesRun cases function loop held names next
    DefaultRuns _ function loop held names from = Comes function from loop.out.place

    -- the code of the labels of these cases, each with the statements to which it leads; where none is equal, the code goes on at `other`
    pub CasesTried : Term → ℕ → ℕ → Loop → List ℕ → Names → ℕ → ℕ → Type 0
    CasesTried (Case label a cases) function slot loop held names from other =
        (start next behind : ℕ) × LabelAt (Stands label) function slot held names from start next × CaseAt (Stands a) function loop held names start behind × CasesRun cases function loop held names behind
        × CasesTried cases function slot loop held names next other
    CasesTried (Default a cases) function slot loop held names from other = CasesTried cases function slot loop held names from other
    CasesTried _ function slot loop held names from other = Comes function from other

  -- the newest call stands behind an instruction of this line
  pub record IsBehind (line : At) (s : Stack) : Type 0 where
    pub function : ℕ
    pub pc : ℕ
    pub f : Function
    pub stands : place_of s ≡ Some (function, pc + 1)
    pub there : slice_get u.functions function ≡ Some f
    pub lines : slice_get f.lines pc ≡ Some line

  -- the calls stand for a thread's own code
  pub record StandsAlone (vs : Variables) (t : Term) (s : Stack) : Type 0 where
    pub number : ℕ
    pub names : Names
    pub f : Function
    pub there : slice_get u.functions number ≡ Some f
    pub exit : ℕ
    pub ends : EndsAt number f exit
    pub stands : Stands t vs (record { function = number; loop = None; names = names; exit = exit; kind = 0; base = []; below = []; held = []; kept = [] }) s

  -- a new thread: its call stands for its code
  pub record Spawned (c : Code) (p : Point) : Type 0 where
    pub number : ℕ
    pub args : List Value
    pub f : Function
    pub is : p ≡ point.Spawn number args
    pub there : slice_get u.functions number ≡ Some f
    pub stands : StandsAlone c.variables c.term (call_at number (args ++ map default_of f.locals) ∷ [])

  -- the point of a request, with the globals and calls that are left there
  abbrev pub Points : Request Code → Point → List Value → Stack → Type 0
  Points (Contacts a) p g s = (p ≡ point.Asks a) × IsContact a
  Points (Inspects q path) p g s = (p ≡ point.Asks (ask.Stamp path)) × (code_behind u s ≡ Some (instr.FileStamp (question_number q)))
  Points (Spawns c) p g s = Spawned c p × (values c.variables.globals ≡ g)
  Points r p g s = IsPoint r p

  -- a function's code is that of the program's function
  pub record CodeOf (d : Definition) (number : ℕ) (f : Function) : Type 0 where
    pub names : Names
    pub params : length f.params ≡ length d.parameters
    pub body : CodeBegins (Stands d.body) number None [] (numbered d.parameters 0) 0 names (length f.code) 0

  -- the unit's functions are the program's
  pub record Codes : Type 0 where
    pub code : (x : List ℕ) (f : Function) → slice_get u.functions (o.number x) ≡ Some f → CodeOf (function_in o.program x) (o.number x) f
