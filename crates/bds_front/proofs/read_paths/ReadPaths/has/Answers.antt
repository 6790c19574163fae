use Rattle.std.proofs.Common.{◌∙◌}
use Rattle.bds_front.proofs.Keys.{any-read}
use Rattle.bds_front.proofs.read_paths.ReadPaths.has.Goals as goal

pub returns : goal.returns
returns c = rw (← c.self.view_is, ← c.as_slice.ensures) (c.contains.ensures ∙ any-read (λ k. k.items) c.as_slice.result.now c.self.inside.paths.keys)
