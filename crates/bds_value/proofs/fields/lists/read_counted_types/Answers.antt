use Rattle.std.proofs.Common.{◌≡◌, ◌++◌, ◌∷◌, [], Err, rules}
use Rattle.bds_value.specs.Reading.{many, ty_at}
use Rattle.bds_value.proofs.ReadLaws.{goes_on, ends, Reads-stop}
use Rattle.bds_value.proofs.fields.lists.read_counted_types.Goals as goal

pub returns-in_err-read_ty-clause-read : goal.returns-in_err-read_ty-clause-read
returns-in_err-read_ty-clause-read c =
    let fault = c.in_err-read_ty.field-0.0 in
    let total = many ty_at c.args.count c.args.input.now in
    let is : c.from_residual.result ≡ Err fault = search rules in
    Reads-stop (ty_at c.loop.input) total c.read_ty.new.input fault c.from_residual.result is
    (λ e. ends ty_at fault c.loop.types c.args.count c.loop.counter c.loop.input total c.loop-test.true e c.loop.invariant.read) c.in_err-read_ty.ensures.read

pub loop-preserved : goal.loop-preserved
loop-preserved c =
    let pushed : c.push.new.self ≡ c.loop.types ++ c.in_ok-read_ty.field-0 ∷ [] = search rules in
    record {
      read = rw pushed (goes_on ty_at c.loop.types c.args.count c.loop.counter c.loop.input c.in_ok-read_ty.field-0 c.read_ty.new.input (many ty_at c.args.count c.args.input.now) c.loop-test.true c.in_ok-read_ty.ensures.read c.loop.invariant.read);
      kept = search rules;
    }
