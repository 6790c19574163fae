-- What the shell that runs tasks has still to tell.
use Rattle.std.specs.Prelude.{ℕ, List, Option, option_and_then}
use Rattle.bds_exec.specs.declared.runner.Runner.{Runner}

-- the bytes that stand in its pipe, where there is one and they are known
abbrev pub untold : {P F I O E : Type 0} → (O → Option (List ℕ))
    → Option (Runner P F I O E) → Option (List ℕ)
untold remaining runner = option_and_then (λ r. option_and_then remaining r.shell.stdout) runner
