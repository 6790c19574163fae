use Rattle.std.proofs.Common.{◌≡◌, take}
use Rattle.bds_tools.specs.Summary.{asked, is_next, is_stamp, is_start}
use Rattle.bds_tools.proofs.traces.counted_asks.Given as goal

-- the pairs so far are counted
abbrev pub invariant-loop-ask : goal.invariant-loop-ask
invariant-loop-ask l = record {
  stamps : l.stamps ≡ asked is_stamp (take l.ask-index l.pairs);
  starts : l.starts ≡ asked is_start (take l.ask-index l.pairs);
  nexts : l.nexts ≡ asked is_next (take l.ask-index l.pairs);
}
