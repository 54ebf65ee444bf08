use Rattle.std.proofs.Common.{◌*◌, ap, ◌∙◌}
use Rattle.network_judge.specs.Table.{Table, table_of}
use Rattle.network_judge.proofs.Marking.{all_arrive}
use Rattle.network_judge.proofs.Ends.{width_is}
use Rattle.std.specs.List.{count_by}
use Rattle.network_answer.specs.Totals.{injects}
use Rattle.network_answer.proofs.Counting.{some_lost}
use Rattle.network_answer.proofs.totals.totals_of.Goals as goal

pub returns-in-Err-clause-none : goal.returns-in-Err-clause-none
returns-in-Err-clause-none g c =
    let t : Table = table_of c.args.kinds.now c.args.joins.now c.args.choices.now in
    some_lost t _ c.in-Err.ensures.fails

pub longest_route-requires-clause-arrive : goal.longest_route-requires-clause-arrive
longest_route-requires-clause-arrive g c =
    let t : Table = table_of c.args.kinds.now c.args.joins.now c.args.choices.now in
    all_arrive t c.trace_all.new.used c.in-Ok.ensures.marked

pub returns-clause-some : goal.returns-clause-some
returns-clause-some g c =
    let t : Table = table_of c.args.kinds.now c.args.joins.now c.args.choices.now in
    let wide = width_is c.args.kinds.now c.in_ok-ends_of.field-0.items c.in_ok-ends_of.field-0.len c.len-width.result c.in_ok-ends_of.ensures
    c.in_ok-ends_of.field-0.ok.0 c.len-width.ensures in
    record {
      arrive = all_arrive t c.trace_all.new.used c.in-Ok.ensures.marked;
      pairs = c.pairs_marked.ensures;
      all_pairs = ap (λ m. m * c.len-width.result) c.injection_count.ensures.value ∙ ap (λ m. count_by injects c.args.kinds.now * m) wide;
      hops = c.hops_marked.ensures;
      all_hops = c.hop_count.ensures;
      longest = c.longest_route.ensures;
    }
