use Rattle.std.proofs.Common.{ℕ, ◌+◌, ◌-◌, ◌*◌, length, map, reverse}
use Rattle.bds_value.specs.declared.TheConstants.{MAX_INCLUDES}
use Rattle.bds_tree.specs.StmtView.{part_of}
use Rattle.bds_front.specs.Joining.{GoesThroughFirst}
use Rattle.bds_front.proofs.including.+including.Given as goal

-- an included file stands one deeper
abbrev left : ℕ → ℕ
left depth = 8 * (MAX_INCLUDES - depth)

abbrev pub decreases-join_include : goal.decreases-join_include
decreases-join_include g l = left l.source.now.depth

abbrev pub decreases-join_part : goal.decreases-join_part
decreases-join_part g l = left l.source.now.depth + 1

abbrev pub decreases-join_parts : goal.decreases-join_parts
decreases-join_parts g l = left l.source.now.depth + 2

abbrev pub decreases-join_script : goal.decreases-join_script
decreases-join_script g l = left l.depth + 3

abbrev pub decreases-join_file : goal.decreases-join_file
decreases-join_file g l = left l.depth + 4

abbrev pub invariant-join_parts-loop-part : goal.invariant-join_parts-loop-part
invariant-join_parts-loop-part g l =
    let log = g.H.Host.log in
    GoesThroughFirst l.source.depth l.source.path l.source.file (map part_of l.fn.parts) (map part_of (reverse l.left)) (log l.fn.host) (log l.host) l.fn.joined l.joined

abbrev pub decreases-join_parts-loop-part : goal.decreases-join_parts-loop-part
decreases-join_parts-loop-part g l = length l.left
