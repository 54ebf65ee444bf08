use Rattle.std.proofs.Common.{◌++◌, ◌∙◌, map, ap}
use Rattle.std.specs.Str.Lines.{lines}
use Rattle.network_text.proofs.Pieces.{line_put}
use Rattle.network_names.specs.Named.{title_of, word_at}
use Rattle.network_names.proofs.named.Namer.put_line.Goals as goal

pub loop-k-preserved : goal.loop-k-preserved
loop-k-preserved g c =
    let s = c.args.self.now in
    let word = word_at (title_of s.titles.room (lines s.titles.text.now) s.kinds.now) s.chosen in
    line_put c.args.out.now.items c.loop-k.out.items c.put_word.new.out.items (word (map (λ w. w.now) c.in_ok-words.words.items)) c.loop-k.k
    c.loop-k.invariant
    (c.in_ok-put_word.ensures ∙ ap (λ ws. c.loop-k.out.items ++ word (map (λ w. w.now) ws) c.loop-k.k) c.deref.ensures.value)
