-- For private contracts alone: the jumps of a loop or a `switch` that lead ahead, and to where once that is known.
use Rattle.std.specs.Prelude.{ℕ, Bool, List, [], ◌∷◌, if◌then◌else◌}
use Rattle.bds_code.specs.declared.instr.Instr.TheVariants.{Jump}
use Rattle.bds_code.specs.declared.unit.Function.{Function}
use Rattle.bds_gen_expr.specs.Gen.{patched}
use Rattle.bds_gen_stmt.specs.Spots.{Loop}
use Rattle.bds_gen_stmt_code.specs.declared.body.Leap.{Leap}

abbrev pub leap_at : ℕ → Bool → Leap
leap_at place ends = record { place = place; ends = ends }

-- where a loop goes on, and its end
abbrev pub loop_to : ℕ → ℕ → Loop
loop_to again end = record { again = again; end = end }

abbrev pub target : Loop → Leap → ℕ
target l j = if j.ends then l.end else l.again

-- the last is set first
abbrev pub led : Loop → List Leap → Function → Function
led l [] f = f
led l (j ∷ js) f = patched (led l js f) j.place (Jump (target l j))

-- those that end a `switch` lead to its end
abbrev pub led_out : ℕ → List Leap → Function → Function
led_out end [] f = f
led_out end (j ∷ js) f = if j.ends then patched (led_out end js f) j.place (Jump end) else led_out end js f

-- the others go on with the loop around it
abbrev pub going_on : List Leap → List Leap
going_on [] = []
going_on (j ∷ js) = if j.ends then going_on js else j ∷ going_on js
