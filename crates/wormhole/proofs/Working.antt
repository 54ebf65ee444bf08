-- Each enabled step makes at least one of the moves that a machine owes.
use Rattle.std.proofs.Common.{◌≡◌, ⊎_elim, ℕ, ◌+◌, ◌*◌, ◌<◌, ◌≤◌, length, Option, Some, None, ap, refl, arith}
use Rattle.std.proofs.Math.Nat.{mul-le-mul_left}
use Rattle.wormhole.specs.Net.{Net, IsNet, Parcel, net_flits}
use Rattle.wormhole.specs.State.{NetState}
use Rattle.wormhole.specs.Words.{Words}
use Rattle.wormhole.specs.Routes.{Routes}
use Rattle.wormhole.specs.Events.{NetEvent, InjectHead, InjectRest, Latch, ForwardHead, ForwardRest, AcceptHead, AcceptRest, Return, CanHappen, after, network_after}
use Rattle.wormhole.specs.Weight.{sum_below, weight, promised}
use Rattle.wormhole.specs.Work.{End, end_weight, work, Issues, Replies, Serves, NetReports, NetStays, IsChange, EventMayHappen, IsStep}
use Rattle.wormhole.proofs.Sums.{sum_one}
use Rattle.wormhole.proofs.Falls.{one_less}

module _ (n : Net) (s : NetState) (net : IsNet n) (words : Words n s) (routes : Routes n s) where
  issues : (x : ℕ) (k : Parcel) (old new : End) → CanHappen n s.lines (InjectHead x k) → Issues n k old new
      → end_weight new + weight n (after n s (InjectHead x k)) < end_weight old + weight n s
  issues x k old new may row =
      let m : ℕ = length (net_flits k) in
      let far : ℕ = length (n.route k.source k.destination) in
      let a : m * far ≤ m * 10 = mul-le-mul_left m row.near in
      let b = one_less n s net words routes (InjectHead x k) may in
      omega (arith, row.short)

  replies : (x : ℕ) (k : Parcel) (old new : End) → CanHappen n s.lines (InjectHead x k) → Replies n k old new
      → end_weight new + weight n (after n s (InjectHead x k)) < end_weight old + weight n s
  replies x k old new may row =
      let m : ℕ = length (net_flits k) in
      let far : ℕ = length (n.route k.source k.destination) in
      let a : m * far ≤ m * 10 = mul-le-mul_left m row.near in
      let b = one_less n s net words routes (InjectHead x k) may in
      omega arith

  stays : (e : NetEvent) (old new : End) → promised n e ≡ 0 → CanHappen n s.lines e → NetStays old new
      → end_weight new + weight n (after n s e) < end_weight old + weight n s
  stays e old new free may row = let b = one_less n s net words routes e may in omega arith

  serves : (old new : End) → Serves old new → end_weight new + weight n s < end_weight old + weight n s
  serves old new row = omega arith

  reports : (old new : End) → NetReports old new → end_weight new + weight n s < end_weight old + weight n s
  reports old new row = omega arith

  -- by what the network does
  row_falls : (e : Option NetEvent) (old new : End) → EventMayHappen n s e → IsChange n e old new
      → end_weight new + weight n (network_after n s e) < end_weight old + weight n s
  row_falls None old new may change = ⊎_elim (λ (row : Serves old new). serves old new row) (λ (row : NetReports old new). reports old new row) change
  row_falls (Some (InjectHead x k)) old new may change =
      ⊎_elim (λ (row : Issues n k old new). issues x k old new may row) (λ (row : Replies n k old new). replies x k old new may row) change
  row_falls (Some (InjectRest x f more)) old new may change = stays (InjectRest x f more) old new refl may change
  row_falls (Some (Latch x f more)) old new may change = stays (Latch x f more) old new refl may change
  row_falls (Some (ForwardHead x y f)) old new may change = stays (ForwardHead x y f) old new refl may change
  row_falls (Some (ForwardRest x y f)) old new may change = stays (ForwardRest x y f) old new refl may change
  row_falls (Some (AcceptHead x f more)) old new may change = stays (AcceptHead x f more) old new refl may change
  row_falls (Some (AcceptRest x f more)) old new may change = stays (AcceptRest x f more) old new refl may change
  row_falls (Some (Return x)) old new may change = stays (Return x) old new refl may change

  -- each enabled step makes at least one of the moves that are owed
  pub work_falls : (tiles : ℕ) (ends new : ℕ → End) (t : NetState) → IsStep n tiles ends s new t → work n tiles new t < work n tiles ends s
  work_falls tiles ends new t step =
      let here : sum_below tiles (λ z. end_weight (new z)) + end_weight (ends step.tile)
      ≡ sum_below tiles (λ z. end_weight (ends z)) + end_weight (new step.tile) =
      sum_one tiles step.tile (λ z. end_weight (ends z)) (λ z. end_weight (new z)) step.here (λ z low other. ap end_weight (step.others z low other)) in
      let after : weight n t ≡ weight n (network_after n s step.event) = ap (weight n) step.network in
      let falls : end_weight (new step.tile) + weight n (network_after n s step.event) < end_weight (ends step.tile) + weight n s =
      row_falls step.event (ends step.tile) (new step.tile) step.may step.change in
      omega arith
