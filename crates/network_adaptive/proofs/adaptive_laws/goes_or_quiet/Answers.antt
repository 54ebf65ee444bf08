use Rattle.std.proofs.Common.{◌≡◌, true}
use Rattle.network_adaptive.proofs.Reached.{words_reached, tracks_reached}
use Rattle.network_adaptive.proofs.Quiet as quiet
use Rattle.network_adaptive.proofs.adaptive_laws.goes_or_quiet.Goals as goal

pub returns : goal.returns
returns c = record {
  either = λ n net escapes answers are number rising deep s words tracks goes moves.
      quiet.goes_or_quiet n s answers (goes ≡ true) net escapes number rising deep words tracks are moves;
  moving = λ n net escapes answers are number rising deep s is.
      quiet.finds_move n s answers net escapes number rising deep (words_reached n s net is) (tracks_reached n s net is) are;
  quiet = λ n net escapes answers are number rising deep s is.
      quiet.quiet n s answers net escapes number rising deep (words_reached n s net is) (tracks_reached n s net is) are;
}
