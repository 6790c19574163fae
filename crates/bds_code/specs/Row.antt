-- What an instruction does to the types of the operands. Here the last operand is the first of the list.
use Rattle.std.specs.Prelude.{ℕ, List, [], ◌∷◌, ◌++◌, slice_get, reverse, replicate, Bool, true, false, Option, Result, Ok, Err}
use Rattle.bds_value.specs.declared.value.Ty.{Ty}
use Rattle.bds_value.specs.declared.value.Ty.TheVariants as ty
use Rattle.bds_value.specs.Types.{is_plain, is_ordered}
use Rattle.bds_value.specs.Results.{◌>>=◌}
use Rattle.bds_code.specs.declared.effects.EffectFault.{EffectFault}
use Rattle.bds_code.specs.declared.effects.EffectFault.TheVariants.{Needs}
use Rattle.bds_code.specs.declared.instr.Instr.{Instr}
use Rattle.bds_code.specs.declared.instr.Instr.TheVariants.{PushBool, PushInt, PushText, PushDefault, Load, Store, LoadGlobal, StoreGlobal, Drop, Add, Sub, Mul, Div, Rem, Neg, Not, Show, Blank, Concat, ListAdd, ListCat, Equal, NotEqual, Less, LessEqual, Greater, GreaterEqual, MakeList, MakeMap, Item, Key, Update, Jump, JumpUnless, Tick, Call, Return, Method, FileRead, FileWrite, FileRemove, FileStamp, Out, Stop, Exit, Sys, OutOfDate, NewTask, Declare, Goal, Spawn, Wait, WaitAll, Save, SaveHere}
use Rattle.bds_code.specs.declared.unit.Function.{Function}
use Rattle.bds_code.specs.declared.unit.Unit.{Unit as CodeUnit}
use Rattle.bds_code.specs.Operands.{there, provided, any_taken, taken, all_taken, item_of, entry_of, given, giving, pairs_taken, swapped}
use Rattle.bds_code.specs.MethodRows.{Operands, method}
use Rattle.bds_code.specs.UpdateRows.{updated}

-- the type of a slot: a parameter, or behind these a local
abbrev pub slot_ty : Function → ℕ → Option Ty
slot_ty f i = slice_get (f.params ++ f.locals) i

-- one word for each class of rows

abbrev pub loaded : Option Ty → ℕ → Operands
loaded variable n s = there variable n >>= λ t. giving t s

abbrev pub stored : Option Ty → ℕ → Operands
stored variable n s = there variable n >>= λ t. taken t s

-- one operand of any type, and what is given for it
abbrev pub dropped : Operands
dropped s = any_taken s >>= λ r. Ok r.1

abbrev pub shown : Operands
shown s = any_taken s >>= λ r. giving ty.Text r.1

-- a list, and an item behind it
abbrev pub item_added : Operands
item_added s = any_taken s >>= λ r. taken (ty.List r.0) r.1 >>= giving (ty.List r.0)

-- two lists of the same type
abbrev pub lists_joined : Operands
lists_joined s = any_taken s >>= λ r. item_of r.0 >>= λ t. taken r.0 r.1 >>= giving r.0

-- two operands of one type that passes a test
abbrev pub compared : (Ty → Bool) → Operands
compared test s = any_taken s >>= λ r. provided (test r.0) r.1 >>= taken r.0 >>= giving ty.Bool

-- a list, and an index in it
abbrev pub item_taken : Operands
item_taken s = taken ty.Int s >>= any_taken >>= λ r. item_of r.0 >>= λ t. giving t r.1

-- a map, and a key of it
abbrev pub entry_taken : Operands
entry_taken s = taken ty.Text s >>= any_taken >>= λ r. entry_of r.0 >>= λ t. giving t r.1

-- pairs of a key and a value
abbrev pub map_made : Ty → ℕ → Operands
map_made t n s = pairs_taken n t s >>= giving (ty.Map t)

-- the parameters of a function, and what is given for them
abbrev pub called : CodeUnit → ℕ → (Function → Ty) → Operands
called u g gives s = there (slice_get u.functions g) g >>= λ callee. swapped (reverse callee.params) (gives callee) s

abbrev pub none_left : Operands
none_left [] = Ok []
none_left _ = Err Needs

-- the result is there, and nothing else
abbrev pub returned : Ty → Operands
returned ret s = all_taken (given ret) s >>= none_left

-- what is answered of a file: whether it is there, whether it is empty, its size
abbrev pub answers : List Ty
answers = ty.Bool ∷ ty.Bool ∷ ty.Int ∷ []

-- a question on a file, by its number
abbrev pub asked : ℕ → Operands
asked n s = there (slice_get answers n) n >>= λ t. swapped (ty.Text ∷ []) t s

-- the type of a variable, in a slot or global
abbrev pub variable_ty : CodeUnit → Function → Bool → ℕ → Option Ty
variable_ty u f false i = slot_ty f i
variable_ty u f true i = slice_get u.globals i

-- outputs, inputs, processors, whether it may fail, retries, name and command of a task, the last first
abbrev pub task_parts : List Ty
task_parts = ty.Text ∷ ty.Text ∷ ty.Int ∷ ty.Bool ∷ ty.Int ∷ ty.List ty.Text ∷ ty.List ty.Text ∷ []

abbrev pub row : CodeUnit → Function → Instr → Operands
row u f (PushBool b) = swapped [] ty.Bool
row u f (PushInt n) = swapped [] ty.Int
row u f (PushText t) = swapped [] ty.Text
row u f (PushDefault t) = swapped [] t
row u f (Load i) = loaded (slot_ty f i) i
row u f (Store i) = stored (slot_ty f i) i
row u f (LoadGlobal i) = loaded (slice_get u.globals i) i
row u f (StoreGlobal i) = stored (slice_get u.globals i) i
row u f Drop = dropped
row u f Add = swapped (ty.Int ∷ ty.Int ∷ []) ty.Int
row u f Sub = swapped (ty.Int ∷ ty.Int ∷ []) ty.Int
row u f Mul = swapped (ty.Int ∷ ty.Int ∷ []) ty.Int
row u f Div = swapped (ty.Int ∷ ty.Int ∷ []) ty.Int
row u f Rem = swapped (ty.Int ∷ ty.Int ∷ []) ty.Int
row u f Neg = swapped (ty.Int ∷ []) ty.Int
row u f Not = swapped (ty.Bool ∷ []) ty.Bool
row u f Show = shown
row u f Blank = shown
row u f Concat = swapped (ty.Text ∷ ty.Text ∷ []) ty.Text
row u f ListAdd = item_added
row u f ListCat = lists_joined
row u f Equal = compared is_plain
row u f NotEqual = compared is_plain
row u f Less = compared is_ordered
row u f LessEqual = compared is_ordered
row u f Greater = compared is_ordered
row u f GreaterEqual = compared is_ordered
row u f (MakeList t n) = swapped (replicate n t) (ty.List t)
row u f (MakeMap t n) = map_made t n
row u f Item = item_taken
row u f Key = entry_taken
row u f (Update scope slot kinds what) = updated (variable_ty u f scope slot) slot kinds what
row u f (Jump to) = swapped [] ty.Void
row u f (JumpUnless to) = swapped (ty.Bool ∷ []) ty.Void
row u f Tick = swapped [] ty.Void
row u f (Call g) = called u g (λ callee. callee.ret)
row u f Return = returned f.ret
row u f (Method m) = method m
row u f FileRead = swapped (ty.Text ∷ []) ty.Text
row u f FileWrite = swapped (ty.Text ∷ ty.Text ∷ []) ty.Void
row u f FileRemove = swapped (ty.Text ∷ []) ty.Void
row u f (FileStamp n) = asked n
row u f Out = swapped (ty.Text ∷ []) ty.Void
row u f Stop = swapped (ty.Text ∷ []) ty.Void
row u f Exit = swapped (ty.Int ∷ []) ty.Void
row u f Sys = swapped (ty.Text ∷ []) ty.Text
row u f OutOfDate = swapped (ty.List ty.Text ∷ ty.List ty.Text ∷ []) ty.Bool
row u f NewTask = swapped task_parts ty.Text
row u f Declare = swapped task_parts ty.Void
row u f Goal = swapped (ty.List ty.Text ∷ []) (ty.List ty.Text)
row u f (Spawn g) = called u g (λ callee. ty.Text)
row u f Wait = swapped (ty.List ty.Text ∷ []) ty.Void
row u f WaitAll = swapped [] ty.Void
row u f Save = swapped (ty.Text ∷ []) ty.Void
row u f SaveHere = swapped [] ty.Void
