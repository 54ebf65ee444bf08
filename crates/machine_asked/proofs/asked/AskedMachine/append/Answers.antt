-- The machine stands where its moves lead from the load with the line.
use Rattle.std.proofs.Common.{◌+◌, ◌≤◌, sym, subst, ◌∙◌}
use Rattle.std.specs.Prelude.{slice_index}
use Rattle.script_lines.specs.Lines.{operations_of}
use Rattle.machine_asked.specs.Asked.{Asked}
use Rattle.machine_asked.specs.Inside.{asked_of}
use Rattle.machine_asked.proofs.Standing.{asked_with, count_there, counts_with, few, spin_there}
use Rattle.machine_asked.proofs.asked.AskedMachine.append.Goals as goal

pub count_more-requires-clause-there : goal.count_more-requires-clause-there
count_more-requires-clause-there g c =
    count_there (asked_of c.self.inside) c.args.processor c.args.line c.self.invariant.asked c.brings_words.ensures c.in_ok-append.ensures.taken.0
    c.self.inside.counts.items c.self.invariant.counts

pub count_more-requires-clause-few : goal.count_more-requires-clause-few
count_more-requires-clause-few g c =
    let most = few (asked_of c.self.inside) c.args.processor c.args.line c.self.invariant.asked c.brings_words.ensures c.in_ok-append.ensures.taken.0 in
    subst (λ ns. slice_index ns c.args.processor + operations_of c.args.line ≤ 4096) (sym c.self.invariant.counts) most

pub mark_spin-requires : goal.mark_spin-requires
mark_spin-requires g c =
    spin_there (asked_of c.self.inside) c.args.processor c.args.line c.self.invariant.asked c.brings_words.ensures c.in_ok-append.ensures.taken.0

pub invariant_of-self-2 : goal.invariant_of-self-2
invariant_of-self-2 g c =
    let v : Asked = asked_of c.self.inside in
    let h = c.self.invariant.asked in
    let none = c.in_ok-append.ensures.taken.0 in
    let on = c.in_ok-append.ensures.law h.load h.steps h.after in
    record {
      counts = counts_with v c.args.processor c.args.line h c.brings_words.ensures none c.self.inside.counts.items c.count_more.new.counts.items
          c.append.new.self c.self.invariant.counts c.count_more.ensures on;
      depth = c.self.invariant.depth ∙ (h.after.depth ∙ sym on.depth);
      tags = c.self.invariant.tags ∙ (h.after.tags ∙ sym on.tags);
      asked = asked_with v c.args.processor c.args.line h c.brings_words.ensures none c.append.new.self c.mark_spin.new.spins.items c.mark_spin.ensures on;
    }
