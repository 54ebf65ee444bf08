use Rattle.std.proofs.Common.{◌≡◌, ◌+◌, ◌≤◌, ◌++◌, List, [], ◌∷◌, ℕ, suc, length, sym, ◌∙◌, ap, arith}
use Rattle.std.specs.List.{insert, range_with_len}
use Rattle.machine_core.specs.Oldest.{sorted_by}
use Rattle.machine_core.specs.Ordered.{age_at, put_in}
use Rattle.machine_core.proofs.Sorted.{sorted_more}
use Rattle.report_lines.proofs.Indexes.{range-more}
use Rattle.command_schedule.proofs.fair_list.inputs_by_age.Goals as goal

pub loop-input-preserved : goal.loop-input-preserved
loop-input-preserved g c =
    let few = c.loop-input.invariant.few in
    let more = c.insert.ensures.len in
    let items = c.as_slice.ensures.value in
    let n : ℕ = c.loop-input.input in
    let key : ℕ → ℕ = age_at c.args.machine.now c.args.tile in
    let one : suc n ≡ n + 1 = omega arith in
    let here : 0 + n ≡ n = omega arith in
    record {
      made = c.insert.ensures.items
          ∙ (ap (λ (xs : List ℕ). insert xs c.place_by_age-place.result n) (sym items)
          ∙ (c.place_by_age-place.ensures.place
          ∙ (ap (put_in key n) (items ∙ c.loop-input.invariant.made)
          ∙ (sym (sorted_more key (range_with_len 0 n) n)
          ∙ ap (sorted_by key) (ap (λ (k : ℕ). range_with_len 0 n ++ k ∷ []) (sym here) ∙ (sym (range-more 0 n) ∙ ap (range_with_len 0) one))))));
      few = omega (arith, few, more);
    }

pub returns : goal.returns
returns g c =
    let few = c.loop-input.invariant.few in
    let end : c.loop-input.input ≡ c.args.ports = omega arith in
    record {
      order = c.loop-input.invariant.made ∙ ap (λ (n : ℕ). sorted_by (age_at c.args.machine.now c.args.tile) (range_with_len 0 n)) end;
      few = omega (arith, few);
    }
