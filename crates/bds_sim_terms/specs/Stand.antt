-- Threads of the machine that stand for threads of the source.
use Rattle.std.specs.Prelude.{◌≡◌, []}
use Rattle.bds_code.specs.declared.unit.Unit.{Unit as CodeUnit}
use Rattle.bds_meaning.specs.Acts.{Code}
use Rattle.bds_sim_terms.specs.steps.Stands.{Source, values, StandsAlone}
use Rattle.bds_sim.specs.Threads.{Parts}

module _ (o : Source) (u : CodeUnit) (Live : Parts → Type 0) where
  -- a thread that goes on
  pub record Stand (c : Code) (m : Parts) : Type 0 where
    pub globals_are : m.globals ≡ values c.variables.globals
    pub calls : StandsAlone o u c.variables c.term m.calls
    pub live : Live m

  -- a thread whose code has ended
  pub record Finished (c : Code) (m : Parts) : Type 0 where
    pub globals_are : m.globals ≡ values c.variables.globals
    pub none : m.calls ≡ []
