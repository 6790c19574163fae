use Rattle.bds_fmt.proofs.Formatted.{canonical_law}
use Rattle.bds_fmt.proofs.canonical.canonical_text.Goals as goal

pub returns-clause-law : goal.returns-clause-law
returns-clause-law c = canonical_law c.args.text.now c.args.tokens.now
