use Rattle.std.proofs.Common.{◌≡◌, ◌+◌, ℕ, Option, Some, None, true, false, arith, rules}
use Rattle.bds_rules.proofs.IndexLaws.{judged_on, judged_stops}
use Rattle.bds_rules.proofs.judge.first_unfit.Goals as goal

pub returns-then-not-is_fit_in : goal.returns-then-not-is_fit_in
returns-then-not-is_fit_in c =
    let no : c.is_fit_in.result ≡ false = search rules in
    record {
      first = judged_stops c.args.rules.now c.loop-i.i c.index-rules-i.result c.loop-i.makers.entries c.is_fit_in.result (omega arith) c.index-rules-i.is c.is_fit_in.ensures no c.loop-i.invariant;
      makers = λ e. absurd (let some : ◌≡◌ {A = Option ℕ} (Some (c.loop-i.i + 1)) None = e in cc);
    }

pub loop-i-preserved : goal.loop-i-preserved
loop-i-preserved c =
    let yes_it_is : c.is_fit_in.result ≡ true = search rules in
    judged_on c.args.rules.now c.loop-i.i c.index-rules-i.result c.loop-i.makers.entries c.put_files.new.index.entries c.as_slice.result.now c.is_fit_in.result (omega arith) c.index-rules-i.is c.is_fit_in.ensures yes_it_is
    c.as_slice.ensures c.in_ok-put_files.ensures.ok c.loop-i.invariant
