use Rattle.std.proofs.Common.{◌≡◌, ◌+◌, ℕ, List, get_or, length, rules, subst}
use Rattle.std.specs.Option.{option_or}
use Rattle.bds_rules.specs.Indexes.{number_if, number_in}
use Rattle.bds_rules.proofs.IndexLaws.{more_known}
use Rattle.bds_rules.proofs.table.put.Goals as goal

pub returns-in-Ok-put_files-clause-known : goal.returns-in-Ok-put_files-clause-known
returns-in-Ok-put_files-clause-known c =
    let before = c.args.rules.now.items in
    let count : c.len-count.result ≡ length before = search rules in
    more_known before c.push.new.self.items c.args.rule c.index.result.now c.as_slice.result.now c.args.makers.now.entries c.put_files.new.index.entries c.in-Ok.ensures.items
    (subst (λ n. c.index.result.now ≡ get_or c.push.new.self.items n c.index.result.now) count c.index.ensures) c.as_slice.ensures c.requires.known
    (subst (λ n. (x : List ℕ) → number_in c.put_files.new.index.entries x ≡ option_or (number_in c.args.makers.now.entries x) (number_if c.as_slice.result.now (n + 1) x)) count c.in-Ok-put_files.ensures.ok)
