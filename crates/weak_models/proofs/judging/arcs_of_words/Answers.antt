use Rattle.std.proofs.Common.{length, subst}
use Rattle.memory_models.specs.Arcs.{RisesByRule}
use Rattle.weak_models.proofs.judging.arcs_of_words.Goals as goal

pub returns : goal.returns
returns g c =
    let r = c.in_ok-rule_arcs.ensures in
    let s = c.in_ok-stale_arcs.ensures in
    let w = c.in_ok-word_arcs.ensures in
    record {
      arcs = w.arcs;
      own = subst (λ z. RisesByRule z c.args.operations.now (length c.args.operations.now) c.word_arcs.new.edges.items) c.writes_rule-rule.ensures
          (λ number up. r.rises number (s.more number (w.more number up)));
      stale = λ number up. s.rises number (w.more number up);
      word = w.rises;
    }
