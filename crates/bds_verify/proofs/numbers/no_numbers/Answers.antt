use Rattle.std.proofs.Common.{ℕ, List, sym, subst}
use Rattle.bds_verify.specs.Numbered.{AreDeclared}
use Rattle.bds_verify.proofs.NumberedLaws.{front_none, declared_none}
use Rattle.bds_verify.proofs.numbers.no_numbers.Goals as goal

pub returns-clause-knows : goal.returns-clause-knows
returns-clause-knows c = λ labels shape.
    let nodes = c.no_lists.result.nodes in (
      front_none nodes shape,
      subst (λ (ns : List ℕ). AreDeclared nodes labels ns) (sym c.new.ensures)
          (declared_none nodes labels),
    )
