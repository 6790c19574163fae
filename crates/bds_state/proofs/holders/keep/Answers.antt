use Rattle.std.proofs.Common.{List, ℕ, subst, sym}
use Rattle.bds_state.specs.Holding.{AreListed}
use Rattle.bds_state.proofs.HolderLaws.{listed_set}
use Rattle.bds_state.proofs.holders.keep.Goals as goal

pub returns-clause-listed : goal.returns-clause-listed
returns-clause-listed c =
    subst (λ (ns : List ℕ). AreListed ns c.put_in.new.lists) (sym c.put.ensures)
    (listed_set c.args.tasks.now c.lengthen.new.tasks c.args.k c.args.n c.args.lists.now c.put_in.new.lists
    c.in_ok-lengthen.ensures.room c.in_ok-lengthen.ensures.less c.requires.listed c.in_ok-put_in.ensures.more
    c.in_ok-put_in.ensures.there)
