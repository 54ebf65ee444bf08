use Rattle.core_laws.proofs.PortsKept.{woken_after, moved_after}
use Rattle.core_laws.proofs.PortsAlike.{alike}
use Rattle.core_laws.proofs.RouterMoves.{empty_idle}
use Rattle.core_laws.proofs.wake_laws.moves_keep_sleeping_ports.Goals as goal

pub returns : goal.returns
returns c = record {
  others = λ l ok steps attempt op next f by moves other sleep. woken_after l ok steps attempt op next f by moves other sleep;
  routers = λ l ok steps t choice op next f by moves sleep. moved_after l ok steps t choice op next f by moves sleep;
  empty = λ d s t i h. empty_idle d t s i h;
  alike = λ d s other f rings routers sleep. alike d s other rings routers f sleep;
}
