use Rattle.std.proofs.Common.{◌≡◌, ◌+◌, ◌<◌, ◌≤◌, sym, ◌∙◌, arith}
use Rattle.network_judge.specs.Table.{column_of}
use Rattle.network_text.specs.ChoosingRead.{choosing_text_of}
use Rattle.network_text.proofs.Tiles.{column_at}
use Rattle.network_text.proofs.choosing.Choosing.tile_for.Goals as goal

pub tile_from-requires-clause-from : goal.tile_from-requires-clause-from
tile_from-requires-clause-from g c =
    let s = c.args.self.now in
    let ends = sym c.ejects.ensures ∙ c.if-not-ejects.false in
    let column = column_at s.fixed c.args.to c.index-column.result.now c.requires.read.fixed c.requires.begun ends c.index-column.ensures in
    let low = column.low in
    omega arith

pub returns : goal.returns
returns g c =
    let s = c.args.self.now in
    let ends = sym c.ejects.ensures ∙ c.if-not-ejects.false in
    let column = column_at s.fixed c.args.to c.index-column.result.now c.requires.read.fixed c.requires.begun ends c.index-column.ensures in
    let same : c.index-column.result.now ≡ column_of (choosing_text_of s).fixed.table c.args.to = column.is in
    let begins = c.in_ok-found.ensures.from in
    let some = c.in_ok-found.ensures.some column.low in
    record { tile = c.in_ok-found.ensures.tile; begins = λ e. omega arith; ends = λ e. omega arith }
