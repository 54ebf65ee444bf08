use Rattle.std.proofs.Common.{◌≡◌, true}
use Rattle.wormhole.proofs.Reached.{words_reached, routes_reached}
use Rattle.wormhole.proofs.Quiescence as quiet
use Rattle.wormhole.proofs.progress_laws.goes_or_quiet.Goals as goal

pub returns : goal.returns
returns c = record {
  either = λ n net deep tiles are s words routes goes moves. quiet.goes_or_quiet n s tiles (goes ≡ true) net deep words routes are moves;
  moving = λ n net deep tiles are s is. quiet.finds_move n s tiles net deep (words_reached n s net is) (routes_reached n s net is) are;
  quiet = λ n net deep tiles are s is. quiet.quiet n s tiles net deep (words_reached n s net is) (routes_reached n s net is) are;
}
