use Rattle.std.proofs.Common.{◌∙◌, List, ℕ, ap, sym}
use Rattle.std.specs.Map.{set_value}
use Rattle.std.specs.Str.{bytes_eq}
use Rattle.bds_tasks.proofs.MakerLaws.{has_behind}
use Rattle.bds_tasks.proofs.makers.put_behind.Goals as goal

pub returns-in_ok-put_next-in-Some : goal.returns-in_ok-put_next-in-Some
returns-in_ok-put_next-in-Some c =
    let file = c.args.file.now in
    let ts = c.args.tasks.now in
    let n = c.args.n in
    let old = c.args.makers.now.entries in
    let next = c.put_next.new.numbers in
    has_behind ts file n old (c.get_mut.follows.lender next).entries c.in-Some.numbers.now (sym c.in-Some.ensures.value)
    ((c.get_mut.follows.holds next).0
    ∙ ap (λ (ns : List ℕ). set_value (λ k. bytes_eq file k.items) old ns) c.in_ok-put_next-in-Some.ensures)
