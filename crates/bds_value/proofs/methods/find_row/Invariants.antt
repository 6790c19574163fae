use Rattle.std.proofs.Common.{◌≡◌, drop, map}
use Rattle.bds_value.specs.Methods.{find_in, row, row_of}
use Rattle.bds_value.proofs.methods.find_row.Given as goal

abbrev pub invariant-loop-row : goal.invariant-loop-row
invariant-loop-row l = find_in row_of (map (λ r. row r.0.now r.1 r.2 r.3) (drop l.row-index l.rows)) l.name l.count ≡ find_in row_of (map (λ r. row r.0.now r.1 r.2 r.3) l.rows) l.name l.count
