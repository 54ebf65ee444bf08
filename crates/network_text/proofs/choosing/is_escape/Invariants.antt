use Rattle.std.proofs.Common.{◌≡◌, false, take}
use Rattle.std.specs.Prelude.{◌==◌}
use Rattle.std.specs.List.{list_any}
use Rattle.network_text.proofs.choosing.is_escape.Given as goal

abbrev pub invariant-loop-escape : goal.invariant-loop-escape
invariant-loop-escape l = list_any (λ e. e == l.channel) (take l.escape-index l.escapes) ≡ false
