use Rattle.std.proofs.Common.{◌≡◌, ◌++◌, map, take}
use Rattle.lexer.specs.Joined.{joined_on}
use Rattle.network_names.proofs.called.put_joined.Given as goal

abbrev pub invariant-loop-word : goal.invariant-loop-word
invariant-loop-word g l = l.out.items ≡ l.fn.out.items ++ joined_on (map (λ w. w.now) (take l.word-index l.words))
