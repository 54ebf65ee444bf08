use Rattle.std.proofs.Common.{◌≡◌, ℕ, ◌+◌, ◌*◌, ◌<◌, ◌≤◌, [], ◌∷◌, ◌++◌, length, sym, ◌∙◌, ap, arith}
use Rattle.network_judge.specs.Table.{columns_of}
use Rattle.network_text.proofs.Begun.{cell_low}
use Rattle.network_text.proofs.Pieces.{line_put}
use Rattle.network_text.specs.ChoosingRead.{choosing_text_of}
use Rattle.network_text.specs.ChoiceLists.{listed_choice}
use Rattle.network_text.proofs.choosing.Choosing.put_line.Goals as goal

pub loop-k-preserved : goal.loop-k-preserved
loop-k-preserved g c =
    let s = c.args.self.now in
    let t = choosing_text_of s in
    let read = c.requires.read.fixed in
    let cell : ℕ = c.args.at * s.fixed.ejections + (c.args.from + c.loop-k.k) in
    let same : cell ≡ c.args.at * columns_of t.fixed.table + (c.args.from + c.loop-k.k) =
    ap (λ w. c.args.at * w + (c.args.from + c.loop-k.k)) read.ejections in
    line_put c.args.cells.now.items c.loop-k.cells.items c.push.new.self.items
    (λ k. listed_choice t (c.args.at * columns_of t.fixed.table + (c.args.from + k)) c.args.place ∷ []) c.loop-k.k c.loop-k.invariant
    (c.in_ok-push.ensures.items ∙ ap (λ v. c.loop-k.cells.items ++ v ∷ []) (c.listed.ensures ∙ ap (λ z. listed_choice t z c.args.place) same))
