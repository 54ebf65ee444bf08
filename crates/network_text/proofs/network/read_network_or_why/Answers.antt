use Rattle.std.specs.Str.Lines.{lines}
use Rattle.network_text.specs.ChoosingRead.{choosing_text_of}
use Rattle.network_text.proofs.OneChoice.{network_is, network_refused}
use Rattle.network_text.proofs.network.read_network_or_why.Goals as goal

pub returns-in-Ok : goal.returns-in-Ok
returns-in-Ok g c =
    network_is (lines c.args.text.now) (choosing_text_of c.in-Ok.text) c.network_read.result c.in-Ok.ensures.value c.network_read.ensures

pub returns-in-Err : goal.returns-in-Err
returns-in-Err g c = network_refused (lines c.args.text.now) c.in-Err.refusal c.in-Err.ensures.value
