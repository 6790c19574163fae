use Rattle.std.proofs.Common.{◌≡◌, ◌∙◌, ◌++◌, codes, length, rules}
use Rattle.std.specs.List.{count_by}
use Rattle.bds_tasks.specs.Tasks.{is_good}
use Rattle.bds_tools.specs.Info.{instructions as instructions_of}
use Rattle.bds_tools.proofs.Joining.{first_line, line_more}
use Rattle.bds_tools.proofs.states.info.Goals as goal

pub returns : goal.returns
returns c =
    let s = c.args.state.now in
    let head : c.put.new.out.items ≡ codes "script " = search (rules, c.in_ok-put.ensures.ok, c.new-out.ensures.items) in
    let path : c.put-2.new.out.items ≡ c.put.new.out.items ++ s.path = search (rules, c.in_ok-put-2.ensures.ok, c.as_slice.ensures) in
    let functions : c.len.result ≡ length s.unit.functions = search rules in
    let instructions : c.instructions.result ≡ instructions_of s.unit.functions = search rules in
    let threads : c.len-2.result ≡ length s.threads = search rules in
    let tasks : c.from.result ≡ length s.tasks = search rules in
    let good : c.ended_well.result ≡ count_by is_good s.tasks = search rules in
    let rules_of : c.from-2.result ≡ length s.rules = search rules in
    let one = first_line c.put.new.out.items c.put-2.new.out.items c.put-3.new.out.items (codes "script ") s.path head path c.in_ok-put-3.ensures.ok in
    let two = line_more _ c.put-3.new.out.items c.put_line.new.out.items (codes "functions") c.len.result (length s.unit.functions) one c.in_ok-put_line.ensures functions in
    let three = line_more _ c.put_line.new.out.items c.put_line-2.new.out.items (codes "instructions") c.instructions.result (instructions_of s.unit.functions) two c.in_ok-put_line-2.ensures instructions in
    let four = line_more _ c.put_line-2.new.out.items c.put_line-3.new.out.items (codes "threads") c.len-2.result (length s.threads) three c.in_ok-put_line-3.ensures threads in
    let five = line_more _ c.put_line-3.new.out.items c.put_line-4.new.out.items (codes "tasks") c.from.result (length s.tasks) four c.in_ok-put_line-4.ensures tasks in
    let six = line_more _ c.put_line-4.new.out.items c.put_line-5.new.out.items (codes "ended well") c.ended_well.result (count_by is_good s.tasks) five c.in_ok-put_line-5.ensures good in
    let all = line_more _ c.put_line-5.new.out.items c.put_line-6.new.out.items (codes "rules") c.from-2.result (length s.rules) six c.in_ok-put_line-6.ensures rules_of in
    c.from_vec.ensures ∙ all.are
