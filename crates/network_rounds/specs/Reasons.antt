-- Why a line of a traffic text is refused, and which fault that is (this project's own format).
use Rattle.torus.specs.declared.fault.Fault.{Fault}
use Rattle.torus.specs.declared.fault.Fault.TheVariants as fault
use Rattle.network_rounds.specs.declared.reason.TrafficReason.{TrafficReason}
use Rattle.network_rounds.specs.declared.reason.TrafficReason.TheVariants as reason

-- the fault that has a reason
abbrev pub traffic_fault_of : TrafficReason → Fault
traffic_fault_of reason.NotPacket = fault.Line
traffic_fault_of (reason.NotNumber place) = fault.Line
traffic_fault_of reason.RoundLimits = fault.Range
traffic_fault_of reason.LengthLimits = fault.Range
traffic_fault_of reason.NotJoined = fault.Range
traffic_fault_of reason.Memory = fault.Memory
