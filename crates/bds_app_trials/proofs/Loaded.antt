-- A script that was loaded.
use Rattle.std.proofs.Common.{◌≡◌, ℕ, List, [], Ok}
use Rattle.bds_host.specs.Host.{Log}
use Rattle.bds_check.specs.declared.checking.TypedScript.{TypedScript}
use Rattle.bds_front.specs.Loading.{Loads}

-- nothing is set in it
pub nothing_set : (path : List ℕ) (before after : Log) (t : TypedScript) → Loads path before after (Ok t)
    → (t.settings ≡ []) × (t.args ≡ [])
nothing_set path before after t (Loads.loaded files program _ made fine same settings args) = (settings, args)
