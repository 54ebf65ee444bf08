use Rattle.std.proofs.Common.{◌+◌, ◌-◌, ◌*◌, ◌<◌, ◌≤◌, length, sym, ◌∙◌, arith}
use Rattle.std.proofs.lemmas.List.{get_or_read}
use Rattle.network_text.specs.ChoosingRead.{choosing_text_of}
use Rattle.network_text.proofs.Tiles.{column_at, found_at}
use Rattle.network_text.proofs.choosing.Choosing.choice.Goals as goal

pub overflow_mul-at : goal.overflow_mul-at
overflow_mul-at g c =
    let s = c.args.self.now in
    let ends = sym c.ejects.ensures ∙ c.if-not-ejects.false in
    let column = column_at s.fixed c.args.to c.index.result.now c.requires.read.fixed c.requires.begun ends c.index.ensures in
    let found = found_at (choosing_text_of s) c.args.tile.now c.args.to c.args.at c.args.place c.index.result.now c.requires.tile ends column.is c.requires.at c.requires.place in
    let low = found.low in
    omega (arith, c.args.tile.now.cells.ok.0)

pub overflow_add-at : goal.overflow_add-at
overflow_add-at g c =
    let s = c.args.self.now in
    let ends = sym c.ejects.ensures ∙ c.if-not-ejects.false in
    let column = column_at s.fixed c.args.to c.index.result.now c.requires.read.fixed c.requires.begun ends c.index.ensures in
    let found = found_at (choosing_text_of s) c.args.tile.now c.args.to c.args.at c.args.place c.index.result.now c.requires.tile ends column.is c.requires.at c.requires.place in
    let low = found.low in
    omega (arith, c.args.tile.now.cells.ok.0)

pub index-requires-2 : goal.index-requires-2
index-requires-2 g c =
    let s = c.args.self.now in
    let ends = sym c.ejects.ensures ∙ c.if-not-ejects.false in
    let column = column_at s.fixed c.args.to c.index.result.now c.requires.read.fixed c.requires.begun ends c.index.ensures in
    let found = found_at (choosing_text_of s) c.args.tile.now c.args.to c.args.at c.args.place c.index.result.now c.requires.tile ends column.is c.requires.at c.requires.place in
    let low = found.low in
    omega (arith, c.args.tile.now.cells.ok.0)

pub returns : goal.returns
returns g c =
    let s = c.args.self.now in
    let ends = sym c.ejects.ensures ∙ c.if-not-ejects.false in
    let column = column_at s.fixed c.args.to c.index.result.now c.requires.read.fixed c.requires.begun ends c.index.ensures in
    let found = found_at (choosing_text_of s) c.args.tile.now c.args.to c.args.at c.args.place c.index.result.now c.requires.tile ends column.is c.requires.at c.requires.place in
    let low = found.low in
    get_or_read c.args.tile.now.cells.items _ _ low c.index-2.ensures 0 ∙ found.is
