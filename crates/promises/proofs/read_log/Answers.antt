-- `promises::read_log` meets its contract. Assumes nothing.
use Rattle.promises.proofs.CropFigures.{with_figures}
use Rattle.promises.proofs.read_log.Goals as goal

pub returns : goal.returns
returns c =
    let met = with_figures c.read_log.ensures in
    record { read = met.0; not_refused = met.1.0; figures_owed = met.1.1.0; crop_figures_owed = met.1.1.1 }
