use Rattle.machine_core.specs.Fresh.{told_load}
use Rattle.fabric.proofs.seats.Fabric.open.Given as goal

-- the load is the one that the machine tells
abbrev pub ghosts-dealt : goal.ghosts-dealt
ghosts-dealt g a = record { opening = record { load = told_load a.machine; cuts = a.cuts.now } }
