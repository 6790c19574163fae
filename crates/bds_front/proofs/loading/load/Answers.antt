use Rattle.bds_front.proofs.Devices.{loads-device, loads-faulted}
use Rattle.bds_front.proofs.loading.load.Goals as goal

pub returns : goal.returns
returns g c =
    let path = c.args.path.now in
    record {
      loads = c.load_files.ensures;
      device = (loads-device path _ _ _ c.load_files.ensures, loads-faulted path _ _ _ c.load_files.ensures);
    }
