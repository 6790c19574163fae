use Rattle.std.proofs.Common.{◌≡◌, ◌++◌, ◌∷◌, [], Err, rules}
use Rattle.bds_value.specs.Reading.{many}
use Rattle.bds_ckpt.specs.ThreadReading.{thread_at}
use Rattle.bds_value.proofs.ReadLaws.{goes_on, ends, Reads-stop}
use Rattle.bds_ckpt.proofs.reading.threads.read_counted_threads.Goals as goal

pub returns-in_err-read_thread-clause-read : goal.returns-in_err-read_thread-clause-read
returns-in_err-read_thread-clause-read c =
    let fault = c.in_err-read_thread.field-0.0 in
    let total = many thread_at c.args.count c.args.input.now in
    let is : c.from_residual.result ≡ Err fault = search rules in
    Reads-stop (thread_at c.loop.input) total c.read_thread.new.input fault c.from_residual.result is
    (λ e. ends thread_at fault c.loop.threads c.args.count c.loop.counter c.loop.input total c.loop-test.true e c.loop.invariant.read) c.in_err-read_thread.ensures.read

pub loop-preserved : goal.loop-preserved
loop-preserved c =
    let pushed : c.push.new.self ≡ c.loop.threads ++ c.in_ok-read_thread.field-0 ∷ [] = search rules in
    record {
      read = rw pushed (goes_on thread_at c.loop.threads c.args.count c.loop.counter c.loop.input c.in_ok-read_thread.field-0 c.read_thread.new.input (many thread_at c.args.count c.args.input.now) c.loop-test.true c.in_ok-read_thread.ensures.read c.loop.invariant.read);
      kept = search rules;
    }
