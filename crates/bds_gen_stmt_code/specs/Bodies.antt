-- A body that is being written, and what is in force at its end.
use Rattle.std.specs.Prelude.{ℕ, ◌+◌, Bool, false, None, List, [], ◌∷◌, ◌++◌, length, take}
use Rattle.bds_value.specs.declared.value.At.{At}
use Rattle.bds_value.specs.declared.value.Ty.{Ty}
use Rattle.bds_value.specs.declared.value.Ty.TheVariants as ty
use Rattle.bds_code.specs.declared.instr.Instr.TheVariants.{Store, Return, Spawn}
use Rattle.bds_code.specs.declared.unit.Function.{Function}
use Rattle.bds_gen_expr.specs.Gen.{act}
use Rattle.bds_gen_expr.specs.Marks.{does, slot, written}
use Rattle.bds_gen_expr.specs.Numbers.{visible_locals}
use Rattle.bds_gen_expr.specs.Scope.{with_slot}
use Rattle.bds_gen_expr.specs.declared.scope.Scope.{Scope}
use Rattle.bds_gen_stmt.specs.FunctionCode.{fresh, eight, types_of, renumbered}
use Rattle.bds_gen_stmt.specs.Spots.{Spot, declared, store_new}
use Rattle.bds_gen_stmt.specs.StmtCode.{loads_code}
use Rattle.bds_gen_stmt_code.specs.declared.body.Body.{Body}
use Rattle.bds_gen_stmt_code.specs.declared.body.Unfinished.{Unfinished}
use Rattle.bds_gen_stmt_code.specs.declared.blocks.Before.{Before}
use Rattle.bds_gen_stmt_code.specs.declared.blocks.Outer.{Outer}

-- the next slot of a function
abbrev pub slots_of : Function → ℕ
slots_of f = length f.params + length f.locals

-- where it stands, outside of a loop
abbrev pub spot_of : Body → Spot
spot_of b = record { scope = b.scope; next = slots_of b.function; first = b.first; loop = None; at_top = b.at_top }

-- the number of the next function of a `par` block
abbrev pub next_number : Unfinished → ℕ
next_number u = u.first + length u.finished

-- the place of the next instruction
abbrev pub place_in : Unfinished → ℕ
place_in u = length u.body.function.code

-- with another function, or another body
abbrev pub in_body : Body → Function → Body
in_body b f = record b { function = f }

abbrev pub with_function : Unfinished → Function → Unfinished
with_function u f = record u { body = record u.body { function = f } }

abbrev pub with_body : Unfinished → Body → Unfinished
with_body u b = record u { body = b }

-- a new variable takes the last operand
abbrev pub with_variable : Body → At → List ℕ → Ty → Body
with_variable b at x t = record b { function = written b.function (store_new (spot_of b) at t); scope = (declared (spot_of b) x t).scope }

-- a new local, also at the top level
abbrev pub with_local : Body → At → List ℕ → Ty → Body
with_local b at x t = record b {
  function = written b.function (slot t ∷ does (Store (slots_of b.function)) at ∷ []);
  scope = with_slot b.scope x t (slots_of b.function);
}

-- within a statement no declaration makes a global, and behind it what was declared within isn't in force
abbrev pub entered_body : Body → Body
entered_body b = record b { at_top = false }

abbrev pub entered : Unfinished → Unfinished
entered u = record u { body = entered_body u.body }

abbrev pub left_body : ℕ → Bool → Body → Body
left_body count at_top b = record b { scope = record b.scope { locals = take count b.scope.locals }; at_top = at_top }

abbrev pub left : Unfinished → Unfinished → Unfinished
left before u = record u { body = left_body (length before.body.scope.locals) before.body.at_top u.body }

unfoldable pub before_of : Body → Before
before_of b = record { count = length b.scope.locals; at_top = b.at_top }

-- a function with the slots that tasks need
abbrev pub begun : List ℕ → List Ty → Ty → Function
begun x params ret = written (fresh x params ret) eight

-- the function of a `par` block begins
abbrev pub opened_in : Body → Body
opened_in b = record {
  function = begun [] (types_of (visible_locals b.scope.locals)) ty.Void;
  scope = record b.scope { locals = renumbered (visible_locals b.scope.locals) 0 };
  first = length (types_of (visible_locals b.scope.locals));
  at_top = false;
  leaps = [];
}

unfoldable pub opened : Unfinished → Unfinished
opened u = record u { body = opened_in u.body }

-- what is around it
abbrev pub set_aside : Body → Outer
set_aside b = record { function = b.function; locals = b.scope.locals; first = b.first; at_top = b.at_top; leaps = b.leaps }

unfoldable pub around_of : Unfinished → Outer
around_of u = set_aside u.body

-- what is around it goes on
abbrev pub resumed : Outer → Scope → Body
resumed o sc = record { function = o.function; scope = record sc { locals = o.locals }; first = o.first; at_top = o.at_top; leaps = o.leaps }

-- a thread of a function with the locals in force
abbrev pub spawned : Body → At → ℕ → Body
spawned b at number = in_body b (act (written b.function (loads_code at (visible_locals b.scope.locals))) at (Spawn number))

unfoldable pub closed : Outer → At → At → Unfinished → Unfinished
closed o at at_block u = record u { body = spawned (resumed o u.body.scope) at (next_number u); finished = u.finished ++ act u.body.function at_block Return ∷ [] }
