use Rattle.dateline_route.proofs.Ends.{ends, classes, channels, meets}
use Rattle.dateline_route.proofs.laws.routes_join_their_ends.Goals as goal

pub returns : goal.returns
returns c = record { ends = ends; class = classes; channels = channels; meet = meets }
