use Rattle.std.proofs.Common.{◌≡◌, ◌+◌, ◌-◌, ◌∙◌, ◌==◌, ℕ, cond, Some, drop, ap, arith}
use Rattle.std.specs.BTreeMap.{get, is_at}
use Rattle.std.specs.List.{find}
use Rattle.std.specs.Ordering.{nat_cmp}
use Rattle.report_model.specs.declared.run.ServedLine.{ServedLine}
use Rattle.report_model.specs.Rows.{entry_key}
use Rattle.report_model.proofs.Found.{found_more}
use Rattle.report_model.proofs.rows.entries_by_key.Goals as goal

pub back-preserved : goal.back-preserved
back-preserved g c =
    let one : c.back.place ≡ (c.back.place - 1) + 1 = omega (arith, c.back-test.true) in
    record {
      by = found_more entry_key c.args.entries.now (c.back.place - 1) c.served_at-served.result (get nat_cmp c.back.by) (get nat_cmp c.insert.new.self)
          c.served_at-served.ensures (λ (q : ℕ). c.in_ok-insert.ensures.updates.0 q
          ∙ ap (λ (k : ℕ). cond (is_at (nat_cmp k) q) (Some c.served_at-served.result) (get nat_cmp c.back.by q)) c.entry_key.ensures)
          (λ (n : ℕ). c.back.invariant.by n
          ∙ ap (λ (m : ℕ). find (λ (y : ServedLine). entry_key y == n) (drop m c.args.entries.now)) one);
      within = omega (arith, c.back.invariant.within);
    }
