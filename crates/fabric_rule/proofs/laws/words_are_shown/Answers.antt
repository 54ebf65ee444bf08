use Rattle.fabric_rule.proofs.Runs as runs
use Rattle.fabric_rule.proofs.laws.words_are_shown.Goals as goal

pub returns : goal.returns
returns c = record {
  size = runs.row_size;
  words = λ load ok row run a shows. runs.word_shown load ok row run shows a;
  tiles = runs.names_tile;
}
