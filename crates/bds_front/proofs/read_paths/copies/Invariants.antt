use Rattle.std.proofs.Common.{◌≡◌, map, take}
use Rattle.bds_front.proofs.read_paths.copies.Given as goal

abbrev pub invariant-loop-path : goal.invariant-loop-path
invariant-loop-path l = l.texts ≡ map (λ k. k.items) (take l.path-index l.paths)
