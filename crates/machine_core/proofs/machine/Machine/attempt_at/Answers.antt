use Rattle.std.proofs.Common.{List, ◌++◌}
use Rattle.torus.specs.declared.step.Step.{Step}
use Rattle.machine_parts.specs.Ports.{is_raised}
use Rattle.machine_core.specs.declared.part.Part.TheVariants.{Processor, Takes, Puts, Credits, Bank}
use Rattle.machine_core.specs.declared.part.Marks.{Marks}
use Rattle.machine_core.specs.Marked.{marked_between}
use Rattle.machine_core.proofs.Rounds.{tile_stays}
use Rattle.machine_core.proofs.MarkedSteps.{then_part}
use Rattle.machine_core.proofs.machine.Machine.attempt_at.Goals as goal

-- the tile is there at each part
pub attempt_marked-requires-2-clause-tile : goal.attempt_marked-requires-2-clause-tile
attempt_marked-requires-2-clause-tile g c =
    let t = c.args.tile in
    let m : Marks = c.args.marks.now in
    let p_1 : List Step = marked_between (is_raised m.processors t) Processor t 0 5 in
    tile_stays t c.args.self.now c.attempt_marked.new.self p_1 c.attempt_marked.ensures c.requires.tile

pub attempt_marked-requires-3-clause-tile : goal.attempt_marked-requires-3-clause-tile
attempt_marked-requires-3-clause-tile g c =
    let t = c.args.tile in
    let m : Marks = c.args.marks.now in
    let p_1 : List Step = marked_between (is_raised m.processors t) Processor t 0 5 in
    let p_2 : List Step = marked_between (is_raised m.takes t) Takes t 0 c.args.ports in
    let so_far_2 = then_part c.args.self.now c.attempt_marked.new.self c.attempt_marked-2.new.self p_1 p_2 c.attempt_marked.ensures c.attempt_marked-2.ensures in
    tile_stays t c.args.self.now c.attempt_marked-2.new.self (p_1 ++ p_2) so_far_2 c.requires.tile

pub attempt_marked-requires-4-clause-tile : goal.attempt_marked-requires-4-clause-tile
attempt_marked-requires-4-clause-tile g c =
    let t = c.args.tile in
    let m : Marks = c.args.marks.now in
    let p_1 : List Step = marked_between (is_raised m.processors t) Processor t 0 5 in
    let p_2 : List Step = marked_between (is_raised m.takes t) Takes t 0 c.args.ports in
    let p_3 : List Step = marked_between (is_raised m.puts t) Puts t c.args.first c.args.ports in
    let so_far_2 = then_part c.args.self.now c.attempt_marked.new.self c.attempt_marked-2.new.self p_1 p_2 c.attempt_marked.ensures c.attempt_marked-2.ensures in
    let so_far_3 = then_part c.args.self.now c.attempt_marked-2.new.self c.attempt_marked-3.new.self (p_1 ++ p_2) p_3 so_far_2 c.attempt_marked-3.ensures in
    tile_stays t c.args.self.now c.attempt_marked-3.new.self (p_1 ++ p_2 ++ p_3) so_far_3 c.requires.tile

pub attempt_marked-requires-5-clause-tile : goal.attempt_marked-requires-5-clause-tile
attempt_marked-requires-5-clause-tile g c =
    let t = c.args.tile in
    let m : Marks = c.args.marks.now in
    let p_1 : List Step = marked_between (is_raised m.processors t) Processor t 0 5 in
    let p_2 : List Step = marked_between (is_raised m.takes t) Takes t 0 c.args.ports in
    let p_3 : List Step = marked_between (is_raised m.puts t) Puts t c.args.first c.args.ports in
    let p_4 : List Step = marked_between (is_raised m.puts t) Puts t 0 c.args.first in
    let so_far_2 = then_part c.args.self.now c.attempt_marked.new.self c.attempt_marked-2.new.self p_1 p_2 c.attempt_marked.ensures c.attempt_marked-2.ensures in
    let so_far_3 = then_part c.args.self.now c.attempt_marked-2.new.self c.attempt_marked-3.new.self (p_1 ++ p_2) p_3 so_far_2 c.attempt_marked-3.ensures in
    let so_far_4 = then_part c.args.self.now c.attempt_marked-3.new.self c.attempt_marked-4.new.self (p_1 ++ p_2 ++ p_3) p_4 so_far_3 c.attempt_marked-4.ensures in
    tile_stays t c.args.self.now c.attempt_marked-4.new.self (p_1 ++ p_2 ++ p_3 ++ p_4) so_far_4 c.requires.tile

pub attempt_marked-requires-6-clause-tile : goal.attempt_marked-requires-6-clause-tile
attempt_marked-requires-6-clause-tile g c =
    let t = c.args.tile in
    let m : Marks = c.args.marks.now in
    let p_1 : List Step = marked_between (is_raised m.processors t) Processor t 0 5 in
    let p_2 : List Step = marked_between (is_raised m.takes t) Takes t 0 c.args.ports in
    let p_3 : List Step = marked_between (is_raised m.puts t) Puts t c.args.first c.args.ports in
    let p_4 : List Step = marked_between (is_raised m.puts t) Puts t 0 c.args.first in
    let p_5 : List Step = marked_between (is_raised m.credits t) Credits t 0 c.args.ports in
    let so_far_2 = then_part c.args.self.now c.attempt_marked.new.self c.attempt_marked-2.new.self p_1 p_2 c.attempt_marked.ensures c.attempt_marked-2.ensures in
    let so_far_3 = then_part c.args.self.now c.attempt_marked-2.new.self c.attempt_marked-3.new.self (p_1 ++ p_2) p_3 so_far_2 c.attempt_marked-3.ensures in
    let so_far_4 = then_part c.args.self.now c.attempt_marked-3.new.self c.attempt_marked-4.new.self (p_1 ++ p_2 ++ p_3) p_4 so_far_3 c.attempt_marked-4.ensures in
    let so_far_5 = then_part c.args.self.now c.attempt_marked-4.new.self c.attempt_marked-5.new.self (p_1 ++ p_2 ++ p_3 ++ p_4) p_5 so_far_4 c.attempt_marked-5.ensures in
    tile_stays t c.args.self.now c.attempt_marked-5.new.self (p_1 ++ p_2 ++ p_3 ++ p_4 ++ p_5) so_far_5 c.requires.tile

pub returns : goal.returns
returns g c =
    let t = c.args.tile in
    let m : Marks = c.args.marks.now in
    let p_1 : List Step = marked_between (is_raised m.processors t) Processor t 0 5 in
    let p_2 : List Step = marked_between (is_raised m.takes t) Takes t 0 c.args.ports in
    let p_3 : List Step = marked_between (is_raised m.puts t) Puts t c.args.first c.args.ports in
    let p_4 : List Step = marked_between (is_raised m.puts t) Puts t 0 c.args.first in
    let p_5 : List Step = marked_between (is_raised m.credits t) Credits t 0 c.args.ports in
    let p_6 : List Step = marked_between (is_raised m.banks t) Bank t 0 4 in
    let so_far_2 = then_part c.args.self.now c.attempt_marked.new.self c.attempt_marked-2.new.self p_1 p_2 c.attempt_marked.ensures c.attempt_marked-2.ensures in
    let so_far_3 = then_part c.args.self.now c.attempt_marked-2.new.self c.attempt_marked-3.new.self (p_1 ++ p_2) p_3 so_far_2 c.attempt_marked-3.ensures in
    let so_far_4 = then_part c.args.self.now c.attempt_marked-3.new.self c.attempt_marked-4.new.self (p_1 ++ p_2 ++ p_3) p_4 so_far_3 c.attempt_marked-4.ensures in
    let so_far_5 = then_part c.args.self.now c.attempt_marked-4.new.self c.attempt_marked-5.new.self (p_1 ++ p_2 ++ p_3 ++ p_4) p_5 so_far_4 c.attempt_marked-5.ensures in
    then_part c.args.self.now c.attempt_marked-5.new.self c.attempt_marked-6.new.self (p_1 ++ p_2 ++ p_3 ++ p_4 ++ p_5) p_6 so_far_5 c.attempt_marked-6.ensures
