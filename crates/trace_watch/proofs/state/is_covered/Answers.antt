use Rattle.std.proofs.Common.{sym, ◌∙◌}
use Rattle.std.proofs.lemmas.Bool.{eqb-true}
use Rattle.trace_watch.specs.States.{config_of}
use Rattle.trace_watch.proofs.Compared.{covers_read, seen_read}
use Rattle.trace_watch.proofs.state.is_covered.Goals as goal
use Rattle.trace_watch.proofs.state.is_covered.Goals.{then-one-other, else-one-other}

pub returns-then-are_covered-clause-yes : goal.returns-then-are_covered-clause-yes
returns-then-are_covered-clause-yes g c = λ seen.
    elim c.if-one-other.branch [
      | then-one-other w ↦
          covers_read (config_of c.args.one.now) (config_of c.args.other.now) w.deref.result.now
          w.deref-then-one-other.result.now c.deref-then-are_covered.result.now c.deref-then-are_covered-2.result.now
          w.deref.ensures.value w.deref-then-one-other.ensures.value c.deref-then-are_covered.ensures.value
          c.deref-then-are_covered-2.ensures.value w.if-one-other.true
          (w.are_covered.ensures.yes (sym w.value-is ∙ c.if-are_covered.true)) (c.are_seen.ensures.yes seen)
      | else-one-other w ↦
          absurd (w.if-one-other.false
          (eqb-true c.args.one.now.word c.args.other.now.word (sym w.value-is ∙ c.if-are_covered.true)))
    ]

pub returns-then-are_covered-clause-no : goal.returns-then-are_covered-clause-no
returns-then-are_covered-clause-no g c = λ unseen covers.
    c.are_seen.ensures.no unseen
    (seen_read c.deref-then-are_covered.result.now c.deref-then-are_covered-2.result.now c.args.one.now.seen.items
    c.args.other.now.seen.items c.deref-then-are_covered.ensures.value c.deref-then-are_covered-2.ensures.value covers.seen)
