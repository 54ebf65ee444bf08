-- How long a service waits at most.
use Rattle.std.proofs.Common.{◌≡◌, ℕ, ◌<◌, ◌≤◌, List, length, ap, arith}
use Rattle.std.specs.Prelude.{slice_index_or}
use Rattle.trace_laws.specs.declared.event.Call.{Call}
use Rattle.trace_answer.specs.declared.times.Times.{Times}
use Rattle.trace_answer.specs.Numbers.{waits_of}
use Rattle.trace_answer.specs.Services.{call_at}
use Rattle.trace_answer.specs.Times.{AreLowTimes}
use Rattle.trace_answer.proofs.Numbered.{latest}

pub wait_most : (times : List Times) (order : List Call) (waits : List ℕ) (x : ℕ) → x < length order → AreLowTimes times → waits ≡ waits_of times order
    → slice_index_or waits x 0 ≤ 196609
wait_most times order waits x l low are =
    let last = latest times order x l in
    let issued = low.issued (call_at order last.y).id in
    let is = last.is in
    omega (arith, ap (λ (ws : List ℕ). slice_index_or ws x 0) are, is, issued)
