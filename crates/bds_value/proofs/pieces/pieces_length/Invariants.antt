use Rattle.std.proofs.Common.{◌≡◌, take, length}
use Rattle.std.specs.Prelude.{codes}
use Rattle.std.specs.List.{join_by}
use Rattle.bds_value.specs.Text.{text_of}
use Rattle.bds_value.specs.TextResult.{held}
use Rattle.bds_value.proofs.pieces.pieces_length.Given as goal

abbrev pub invariant-loop-i : goal.invariant-loop-i
invariant-loop-i l = l.total ≡ held (length (join_by text_of (codes " ") (take l.i l.items)))
