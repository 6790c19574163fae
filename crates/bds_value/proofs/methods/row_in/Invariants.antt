use Rattle.std.proofs.Common.{◌≡◌, drop, map}
use Rattle.bds_value.specs.Methods.{row_in, row}
use Rattle.bds_value.proofs.methods.row_in.Given as goal

abbrev pub invariant-loop-row : goal.invariant-loop-row
invariant-loop-row l = row_in (map (λ r. row r.0.now r.1 r.2 r.3) (drop l.row-index l.rows)) l.wanted ≡ row_in (map (λ r. row r.0.now r.1 r.2 r.3) l.rows) l.wanted
