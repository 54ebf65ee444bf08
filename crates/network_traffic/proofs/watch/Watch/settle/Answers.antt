use Rattle.std.proofs.Common.{◌∙◌, ap, length, arith, ℕ, List}
use Rattle.std.specs.Prelude.{slice_index}
use Rattle.std.proofs.lemmas.List.{with_items_is}
use Rattle.network_traffic.specs.Fates.{rounds_waited}
use Rattle.network_traffic.proofs.Watching.{counted_all, waited_few}
use Rattle.network_traffic.proofs.watch.Watch.settle.Goals as goal

pub returns : goal.returns
returns g c = λ t packets noted is low shows.
    (let w = c.args.self.now in
    let items = with_items_is w.waited c.total_waits.new.waited (c.total_waits.ensures.size ∙ c.deref_mut.ensures.len) in
    let many = ap length c.deref.ensures.value ∙ shows.many in
    record {
      log = record { labels = shows.log.labels; fates = shows.log.fates };
      waited = ap length items ∙ (c.total_waits.ensures.size ∙ (ap length c.deref_mut.ensures.value ∙ shows.waited));
      waits = λ x here. ap (λ (ns : List ℕ). slice_index ns x) items
          ∙ c.total_waits.ensures.total (λ z. rounds_waited t packets z noted) (λ z. (let few = waited_few t packets z noted in omega (arith, few, is, low)))
          (counted_all t packets noted c.args.rounds w c.deref-2.result.now c.deref.result.now is c.deref-2.ensures.value c.deref.ensures.value shows)
          x (omega (arith, here, many));
    })
