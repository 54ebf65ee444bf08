use Rattle.script_lines.specs.Views.{lists_of}
use Rattle.machine_core.proofs.Begins.{accepted_as}
use Rattle.machine_core.proofs.machine.Machine.load.Goals as goal

pub begin-requires : goal.begin-requires
begin-requires g c = accepted_as c.args.machine c.args.scripts c.torus-torus.result.now c.depth-depth.result c.tags-tags.result
    c.into_opening-opening.result.items (lists_of c.into_lists-lists.result.items)
    c.torus-torus.ensures.accepted c.into_lists-lists.ensures.accepted c.requires
    c.torus-torus.ensures.value c.depth-depth.ensures.value c.tags-tags.ensures.value c.into_opening-opening.ensures.value c.into_lists-lists.ensures.value
