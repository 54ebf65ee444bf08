use Rattle.std.proofs.Common.{◌≡◌, ◌++◌, map}
use Rattle.std.specs.Str.Lines.{lines}
use Rattle.network_text.specs.Lines.{first_lines}
use Rattle.network_names.specs.Named.{title_of, word_at}
use Rattle.network_names.proofs.named.Namer.put_line.Given as goal

abbrev pub invariant-loop-k : goal.invariant-loop-k
invariant-loop-k g l = l.out.items ≡ l.fn.out.items
    ++ first_lines (word_at (title_of l.self.titles.room (lines l.self.titles.text.now) l.self.kinds.now) l.self.chosen (map (λ w. w.now) l.words.items)) l.k
