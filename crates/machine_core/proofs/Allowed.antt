-- What a machine's scripts allow is within the limits.
use Rattle.std.proofs.Common.{◌≡◌, ⊎_elim, ℕ, ◌-◌, ◌<◌, ◌≤◌, List, [], length, Some, sym, ◌∙◌, ap, arith, slice_get, slice_index, get_or}
use Rattle.std.specs.Prelude.{sum, min, Option, option_map}
use Rattle.std.proofs.lemmas.Bool.{cases_lt}
use Rattle.std.proofs.lemmas.List.{length-map, get_or-map, get_or_past}
use Rattle.std.proofs.lemmas.List.Sums.{sum-map}
use Rattle.std.proofs.lemmas.Option.{slice_get_within, get_or_from_slice_get}
use Rattle.script_lines.specs.Lines.{operation_count}
use Rattle.machine_core.specs.declared.machine.Machine.TheInside.{Inside}
use Rattle.machine_core.specs.Growing.{room_of, room_left}
use Rattle.machine_core.specs.Inside.{IsMachine}

module _ {A : Type 0} (a : Inside A) (is : IsMachine a) where
  pub all_small : sum a.allowed.items ≤ 65536
  all_small =
      let same = ap sum is.after.allowed ∙ sum-map operation_count is.load.scripts in
      let few = is.after.accepted.scripts.total in
      omega (arith, same, few)

  pub own_small : (p n : ℕ) → slice_get a.allowed.items p ≡ Some n → n ≤ 4096
  own_small p n at =
      let there = slice_get_within a.allowed.items p n at in
      let many = ap {A = List ℕ} length is.after.allowed ∙ length-map is.load.scripts operation_count in
      let here = get_or_from_slice_get a.allowed.items p n 0 at in
      let same = ap (λ (ns : List ℕ). get_or ns p 0) is.after.allowed
      ∙ get_or-map operation_count is.load.scripts p [] 0 (omega (arith, there, many)) in
      let few = (is.after.accepted.scripts.each p).count in
      omega (arith, here, same, few)

  pub each_small : (p : ℕ) → slice_index a.allowed.items p ≤ 4096
  each_small p =
      let long = ap {A = List ℕ} length is.after.allowed ∙ length-map is.load.scripts operation_count in
      ⊎_elim
      (λ (low : p < length is.load.scripts).
      let same = ap (λ (ns : List ℕ). get_or ns p 0) is.after.allowed ∙ get_or-map operation_count is.load.scripts p [] 0 low in
      let few = (is.after.accepted.scripts.each p).count in
      omega (arith, same, few))
      (λ (past : length is.load.scripts ≤ p). let none = get_or_past a.allowed.items p 0 (omega (arith, past, long)) in omega (arith, none))
      (cases_lt p (length is.load.scripts))

-- the room of a processor that is there
pub room_is : (allowed : List ℕ) (p own all left : ℕ) → slice_get allowed p ≡ Some own → all ≡ sum allowed → left ≡ min (4096 - own) (65536 - all)
    → ◌≡◌ {A = Option ℕ} (Some left) (room_left allowed p)
room_is allowed p own all left at sums is =
    ap Some (is ∙ ap (room_of own) sums) ∙ sym (ap (option_map (λ (n : ℕ). room_of n (sum allowed))) at)
