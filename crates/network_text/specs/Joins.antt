-- Lines of one pair each (this project's own format).
use Rattle.std.specs.Prelude.{List, [], ◌∷◌, Result, Ok}
use Rattle.lexer.specs.Outcome.{◌>>=◌}
use Rattle.network_judge.specs.declared.table.Join.{Join}
use Rattle.network_text.specs.declared.reason.NetworkReason.{NetworkReason}
use Rattle.network_text.specs.Network.{Reading, after_join}

-- packets go between each of these pairs: a line `join I J` for each, one after another
abbrev pub after_each_join : Reading → List Join → Result Reading NetworkReason
after_each_join r [] = Ok r
after_each_join r (pair ∷ pairs) =
    after_join r pair.from pair.to >>= λ next. after_each_join next pairs
