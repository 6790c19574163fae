-- The rows that go on with the next place: what each leaves of the globals and of the frames, or its fault. None: it is no such row, or something that it names or takes isn't there, or isn't of a type that it takes.
use Rattle.std.specs.Prelude.{ℕ, List, slice_get, slice_set, Some, None, Ok}
use Rattle.bds_value.specs.declared.value.Op.TheVariants as op
use Rattle.bds_value.specs.declared.value.Value.{Value}
use Rattle.bds_value.specs.declared.value.Value.TheVariants as value
use Rattle.bds_value.specs.Text.{text_of, piece_of}
use Rattle.bds_value.specs.Options.{◌>>=◌}
use Rattle.bds_code.specs.declared.instr.Instr.{Instr}
use Rattle.bds_code.specs.declared.instr.Instr.TheVariants.{PushBool, PushInt, PushText, PushDefault, Load, Store, LoadGlobal, StoreGlobal, Drop, Add, Sub, Mul, Div, Rem, Neg, Not, Show, Blank, Concat, ListAdd, ListCat, Equal, NotEqual, Less, LessEqual, Greater, GreaterEqual, MakeList, MakeMap, Item, Key, Update, Method}
use Rattle.bds_code_frames.specs.Stack.{Stack, slot_at, popped}
use Rattle.bds_machine_values.specs.Faults.{Outcome, and_then, gives}
use Rattle.bds_machine_values.specs.Values.{defaulted, loaded, stored, dropped, operated, negated, inverted, shown, item_given, entry_given, method_given}
use Rattle.bds_machine_values.specs.Literals.{list_made, map_made}
use Rattle.bds_machine_values.specs.Updates.{updated}

-- the rows that change the newest call alone
abbrev pub worked : Instr → List Value → Stack → Outcome Stack
worked (PushBool b) g = gives (value.Bool b)
worked (PushInt n) g = gives (value.Int n)
worked (PushText t) g = gives (value.Text t)
worked (PushDefault t) g = defaulted t
worked (Load i) g = λ s. loaded (slot_at i s) s
worked (Store i) g = stored i
worked (LoadGlobal i) g = loaded (slice_get g i)
worked Drop g = dropped
worked Add g = operated op.Add
worked Sub g = operated op.Sub
worked Mul g = operated op.Mul
worked Div g = operated op.Div
worked Rem g = operated op.Rem
worked Neg g = negated
worked Not g = inverted
worked Show g = shown text_of
worked Blank g = shown piece_of
worked Concat g = operated op.Concat
worked ListAdd g = operated op.ListAdd
worked ListCat g = operated op.ListCat
worked Equal g = operated op.Equal
worked NotEqual g = operated op.NotEqual
worked Less g = operated op.Less
worked LessEqual g = operated op.LessEqual
worked Greater g = operated op.Greater
worked GreaterEqual g = operated op.GreaterEqual
worked (MakeList t n) g = list_made t n
worked (MakeMap t n) g = map_made t n
worked Item g = item_given
worked Key g = entry_given
worked (Method m) g = method_given m
worked _ g = λ s. None

abbrev pub global_stored : ℕ → List Value → Stack → Outcome (List Value × Stack)
global_stored i g s = popped s >>= λ r. slice_get g i >>= λ old. Some (Ok (slice_set g i r.0, r.1))

-- with the globals as they were
abbrev pub beside : List Value → Outcome Stack → Outcome (List Value × Stack)
beside g o = and_then o (λ s. Some (Ok (g, s)))

-- globals and frames behind a row that neither branches, ends nor asks
abbrev pub changed : Instr → List Value → Stack → Outcome (List Value × Stack)
changed (StoreGlobal i) g s = global_stored i g s
changed (Update scope slot kinds what) g s = updated scope slot kinds what g s
changed i g s = beside g (worked i g s)
