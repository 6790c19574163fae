-- The bytes of instructions, functions and units.
use Rattle.std.specs.Prelude.{ℕ, ◌<◌, List, [], ◌∷◌, ◌++◌, length}
use Rattle.std.specs.List.{flat_map}
use Rattle.bds_value.specs.declared.value.At.{At}
use Rattle.bds_value.specs.declared.value.Ty.{Ty}
use Rattle.bds_value.specs.Spelling.{u8_field, bool_field, u16_field, u32_field, i64_field, text_field, texts_field, list_field, ty_field, types_field}
use Rattle.bds_code.specs.declared.instr.Instr.{Instr}
use Rattle.bds_code.specs.declared.instr.Instr.TheVariants.{PushBool, PushInt, PushText, PushDefault, Load, Store, LoadGlobal, StoreGlobal, Drop, Add, Sub, Mul, Div, Rem, Neg, Not, Show, Blank, Concat, ListAdd, ListCat, Equal, NotEqual, Less, LessEqual, Greater, GreaterEqual, MakeList, MakeMap, Item, Key, Update, Jump, JumpUnless, Tick, Call, Return, Method, FileRead, FileWrite, FileRemove, FileStamp, Out, Stop, Exit, Sys, OutOfDate, NewTask, Declare, Goal, Spawn, Wait, WaitAll, Save, SaveHere}
use Rattle.bds_code.specs.declared.unit.Function.{Function}
use Rattle.bds_code.specs.declared.unit.Unit.{Unit as CodeUnit}

-- the tag of an instruction
abbrev pub tag : Instr → ℕ
tag (PushBool b) = 0
tag (PushInt n) = 1
tag (PushText t) = 2
tag (PushDefault t) = 3
tag (Load i) = 4
tag (Store i) = 5
tag (LoadGlobal i) = 6
tag (StoreGlobal i) = 7
tag Drop = 8
tag Add = 9
tag Sub = 10
tag Mul = 11
tag Div = 12
tag Rem = 13
tag Neg = 14
tag Not = 15
tag Show = 16
tag Blank = 17
tag Concat = 18
tag ListAdd = 19
tag ListCat = 20
tag Equal = 21
tag NotEqual = 22
tag Less = 23
tag LessEqual = 24
tag Greater = 25
tag GreaterEqual = 26
tag (MakeList t n) = 27
tag (MakeMap t n) = 28
tag Item = 29
tag Key = 30
tag (Update scope slot kinds what) = 31
tag (Jump to) = 32
tag (JumpUnless to) = 33
tag Tick = 34
tag (Call f) = 35
tag Return = 36
tag (Method m) = 37
tag FileRead = 38
tag FileWrite = 39
tag FileRemove = 40
tag (FileStamp q) = 41
tag Out = 42
tag Stop = 43
tag Exit = 44
tag Sys = 45
tag OutOfDate = 46
tag NewTask = 47
tag Declare = 48
tag Goal = 49
tag (Spawn f) = 50
tag Wait = 51
tag WaitAll = 52
tag Save = 53
tag SaveHere = 54

-- what stands behind the tag
abbrev pub numbers_field : Instr → List ℕ
numbers_field (PushBool b) = bool_field b
numbers_field (PushInt n) = i64_field n
numbers_field (PushText t) = text_field t
numbers_field (PushDefault t) = ty_field t
numbers_field (Load i) = u16_field i
numbers_field (Store i) = u16_field i
numbers_field (LoadGlobal i) = u16_field i
numbers_field (StoreGlobal i) = u16_field i
numbers_field (MakeList t n) = ty_field t ++ u32_field n
numbers_field (MakeMap t n) = ty_field t ++ u32_field n
numbers_field (Update scope slot kinds what) = bool_field scope ++ (u16_field slot ++ (list_field bool_field kinds ++ u8_field what))
numbers_field (Jump to) = u32_field to
numbers_field (JumpUnless to) = u32_field to
numbers_field (Call f) = u32_field f
numbers_field (Method m) = u8_field m
numbers_field (FileStamp q) = u8_field q
numbers_field (Spawn f) = u32_field f
numbers_field _ = []

abbrev pub instr_field : Instr → List ℕ
instr_field i = tag i ∷ numbers_field i

abbrev pub label_field : ℕ × List Ty → List ℕ
label_field l = u32_field l.0 ++ types_field l.1

abbrev pub line_field : At → List ℕ
line_field a = u32_field a.file ++ u32_field a.line

-- what stands before the code
abbrev pub head_field : Function → List ℕ
head_field f = text_field f.name ++ (types_field f.params ++ (types_field f.locals ++ ty_field f.ret))

-- there is one line for each instruction, and no count of them
abbrev pub body_field : Function → List ℕ
body_field f = list_field instr_field f.code ++ (list_field label_field f.labels ++ flat_map line_field f.lines)

abbrev pub function_field : Function → List ℕ
function_field f = head_field f ++ body_field f

abbrev pub unit_field : CodeUnit → List ℕ
unit_field u = texts_field u.files ++ (types_field u.globals ++ list_field function_field u.functions)
