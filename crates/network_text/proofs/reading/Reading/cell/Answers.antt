-- The place is that of the text, and small.
use Rattle.std.proofs.Common.{arith}
use Rattle.network_text.specs.Reading.{reading_of}
use Rattle.network_text.proofs.Begun.{begun_same}
use Rattle.network_text.proofs.Cells.{cell_at}
use Rattle.network_text.proofs.reading.Reading.cell.Goals as goal

pub overflow_add-result : goal.overflow_add-result
overflow_add-result g c =
    let old = reading_of c.args.self.now in
    let at = cell_at old c.args.self.now c.args.x c.args.j c.index.result.now c.requires.channel c.requires.ejects
    (begun_same old c.requires.begun) c.requires.read c.index.ensures in
    let small = at.small in
    let inside = at.low in
    omega arith

pub returns-clause-cell : goal.returns-clause-cell
returns-clause-cell g c =
    let old = reading_of c.args.self.now in
    let at = cell_at old c.args.self.now c.args.x c.args.j c.index.result.now c.requires.channel c.requires.ejects
    (begun_same old c.requires.begun) c.requires.read c.index.ensures in
    at.cell

pub returns-clause-within : goal.returns-clause-within
returns-clause-within g c =
    let old = reading_of c.args.self.now in
    let at = cell_at old c.args.self.now c.args.x c.args.j c.index.result.now c.requires.channel c.requires.ejects
    (begun_same old c.requires.begun) c.requires.read c.index.ensures in
    at.low
