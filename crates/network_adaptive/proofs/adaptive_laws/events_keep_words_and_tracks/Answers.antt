use Rattle.wormhole.proofs.Reached.{words_empty}
use Rattle.network_adaptive.proofs.Reached.{words_kept, tracks_kept, tracks_empty, words_reached, tracks_reached}
use Rattle.network_adaptive.proofs.adaptive_laws.events_keep_words_and_tracks.Goals as goal

pub returns : goal.returns
returns c = record {
  empty_words = λ n. words_empty n.frame;
  empty_tracks = tracks_empty;
  words = λ n net s e w r may. words_kept n s e net w r may;
  tracks = λ n net s e w r may. tracks_kept n s e net w r may;
  reached_words = λ n net s is. words_reached n s net is;
  reached_tracks = λ n net s is. tracks_reached n s net is;
}
