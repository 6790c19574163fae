use Rattle.std.proofs.Common.{refl, subst, ◌≡◌, ◌++◌}
use Rattle.bds_replay.specs.Log.{cpus_field, path_field}
use Rattle.bds_replay.specs.Longs.{long_field}
use Rattle.bds_replay.proofs.Puts.{two_puts}
use Rattle.bds_replay.proofs.writing.put_path.Goals as goal

pub returns : goal.returns
returns c =
    two_puts c.args.out.now.items c.put_long.new.out.items c.put_cpus.new.out.items (long_field c.args.job.now.path)
    (cpus_field c.args.job.now) (path_field c.args.job.now) c.put_cpus.result
    (subst (λ t. c.put_long.new.out.items ≡ c.args.out.now.items
    ++ long_field t) c.as_slice.ensures c.in_ok-put_long.ensures) refl c.put_cpus.ensures
