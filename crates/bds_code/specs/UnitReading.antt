-- Reading instructions, functions and units, with the first fault that is met.
use Rattle.std.specs.Prelude.{ℕ, Bool, List, [], ◌∷◌, length, slice_get, nat_lt, Option, Some, None, Ok, Err}
use Rattle.bds_value.specs.declared.faults.FieldFault.TheVariants.{BadTag}
use Rattle.bds_value.specs.declared.value.At.{At}
use Rattle.bds_value.specs.declared.value.Ty.{Ty}
use Rattle.bds_value.specs.Reading.{Reader, read_map, byte_at, bool_at, u16_at, u32_at, i64_at, text_at, texts_at, ty_at, types_at, all_at, many, list_at, rising_at, ◌>>=◌}
use Rattle.bds_value.specs.declared.TheConstants.{MAX_COUNT, MAX_CODE}
use Rattle.bds_code.specs.declared.instr.Instr.{Instr}
use Rattle.bds_code.specs.declared.instr.Instr.TheVariants.{PushBool, PushInt, PushText, PushDefault, Load, Store, LoadGlobal, StoreGlobal, Drop, Add, Sub, Mul, Div, Rem, Neg, Not, Show, Blank, Concat, ListAdd, ListCat, Equal, NotEqual, Less, LessEqual, Greater, GreaterEqual, MakeList, MakeMap, Item, Key, Update, Jump, JumpUnless, Tick, Call, Return, Method, FileRead, FileWrite, FileRemove, FileStamp, Out, Stop, Exit, Sys, OutOfDate, NewTask, Declare, Goal, Spawn, Wait, WaitAll, Save, SaveHere}
use Rattle.bds_code.specs.declared.unit.Function.{Function}
use Rattle.bds_code.specs.declared.unit.Unit.{Unit as CodeUnit}

-- an instruction without numbers
abbrev pub bare : Instr → Reader Instr
bare x i = Ok (x, i)

-- an instruction with one number
abbrev pub with_one : {X : Type 0} → (X → Instr) → Reader X → Reader Instr
with_one f r i = read_map f (r i)

-- a type, and a number behind it
abbrev pub sized_at : Reader (Ty × ℕ)
sized_at i = ty_at i >>= λ t. u32_at t.1 >>= λ n. Ok ((t.0, n.0), n.1)

-- an instruction with a type and a number
abbrev pub with_ty : (Ty → ℕ → Instr) → Reader Instr
with_ty f = with_one (λ (p : Ty × ℕ). f p.0 p.1) sized_at

-- the parts of an update, one behind the other
abbrev pub parts_at : Reader (Bool × ℕ × List Bool × ℕ)
parts_at i = bool_at i >>= λ scope. u16_at scope.1 >>= λ slot. all_at bool_at slot.1 >>= λ kinds. byte_at kinds.1 >>= λ what. Ok ((scope.0, slot.0, kinds.0, what.0), what.1)

abbrev pub update_of : Bool × ℕ × List Bool × ℕ → Instr
update_of p = Update p.0 p.1 p.2 p.3

abbrev pub update_at : Reader Instr
update_at = with_one update_of parts_at

-- how an instruction goes on behind its tag, by the tags
abbrev pub instr_readers : List (Reader Instr)
instr_readers =
    with_one PushBool bool_at
    ∷ with_one PushInt i64_at
    ∷ with_one PushText text_at
    ∷ with_one PushDefault ty_at
    ∷ with_one Load u16_at
    ∷ with_one Store u16_at
    ∷ with_one LoadGlobal u16_at
    ∷ with_one StoreGlobal u16_at
    ∷ bare Drop
    ∷ bare Add
    ∷ bare Sub
    ∷ bare Mul
    ∷ bare Div
    ∷ bare Rem
    ∷ bare Neg
    ∷ bare Not
    ∷ bare Show
    ∷ bare Blank
    ∷ bare Concat
    ∷ bare ListAdd
    ∷ bare ListCat
    ∷ bare Equal
    ∷ bare NotEqual
    ∷ bare Less
    ∷ bare LessEqual
    ∷ bare Greater
    ∷ bare GreaterEqual
    ∷ with_ty MakeList
    ∷ with_ty MakeMap
    ∷ bare Item
    ∷ bare Key
    ∷ update_at
    ∷ with_one Jump u32_at
    ∷ with_one JumpUnless u32_at
    ∷ bare Tick
    ∷ with_one Call u32_at
    ∷ bare Return
    ∷ with_one Method byte_at
    ∷ bare FileRead
    ∷ bare FileWrite
    ∷ bare FileRemove
    ∷ with_one FileStamp byte_at
    ∷ bare Out
    ∷ bare Stop
    ∷ bare Exit
    ∷ bare Sys
    ∷ bare OutOfDate
    ∷ bare NewTask
    ∷ bare Declare
    ∷ bare Goal
    ∷ with_one Spawn u32_at
    ∷ bare Wait
    ∷ bare WaitAll
    ∷ bare Save
    ∷ bare SaveHere
    ∷ []

abbrev pub go_on : Option (Reader Instr) → ℕ → ℕ → Reader Instr
go_on None at tag i = Err (BadTag at tag)
go_on (Some r) at tag i = r i

-- an instruction behind its tag, which stands at a place
abbrev pub instr_of : ℕ → ℕ → Reader Instr
instr_of at tag i = go_on (slice_get instr_readers tag) at tag i

abbrev pub instr_at : Reader Instr
instr_at i = byte_at i >>= λ b. instr_of i.at b.0 b.1

-- a label behind its place
abbrev pub label_of : ℕ → Reader (ℕ × List Ty)
label_of place i = read_map (λ shape. (place, shape)) (types_at i)

abbrev pub line_at : Reader At
line_at i = u32_at i >>= λ file. u32_at file.1 >>= λ line. Ok (record { file = file.0; line = line.0 }, line.1)

abbrev pub labels_at : Reader (List (ℕ × List Ty))
labels_at = rising_at MAX_COUNT nat_lt u32_at label_of

-- there is one line for each instruction, and no count of them
abbrev pub function_at : Reader Function
function_at i =
    text_at i >>= λ name.
    types_at name.1 >>= λ params.
    types_at params.1 >>= λ locals.
    ty_at locals.1 >>= λ ret.
    list_at MAX_CODE instr_at ret.1 >>= λ code.
    labels_at code.1 >>= λ labels.
    many line_at (length code.0) labels.1 >>= λ lines.
    Ok (record { name = name.0; params = params.0; locals = locals.0; ret = ret.0; code = code.0; labels = labels.0; lines = lines.0 }, lines.1)

abbrev pub unit_at : Reader CodeUnit
unit_at i =
    texts_at i >>= λ files.
    types_at files.1 >>= λ globals.
    all_at function_at globals.1 >>= λ functions.
    Ok (record { files = files.0; globals = globals.0; functions = functions.0 }, functions.1)
