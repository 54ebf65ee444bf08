use Rattle.std.proofs.Common.{ℕ, List, sym, ◌∙◌, ap, subst}
use Rattle.trace_zones.specs.Conflicts.{EntersOnly, IsSetReader}
use Rattle.trace_zones.specs.Zones.{is_listed}
use Rattle.trace_zones.proofs.Checks.{is_writer}
use Rattle.trace_zones.proofs.zone.is_writer.Goals as goal

pub returns : goal.returns
returns g c = λ yes.
    is_writer c.args.initial c.args.events.now c.args.word c.args.i c.args.zone.now.reader
    (is_listed c.args.zone.now.words.items) c.args.zone.now.entry c.in-Some._call c.in-Some.ensures
    (c.is_entry.ensures c.if-not-is_entry.false)
    (sym (c.has.ensures ∙ ap (λ (ws : List ℕ). is_listed ws c.args.initial) c.deref.ensures.value) ∙ c.if-has.false)
    (subst (λ (ws : List ℕ). IsSetReader c.args.events.now c.args.word (is_listed ws) c.args.zone.now.reader)
    c.deref-2.ensures.value (c.is_reader.ensures c.if-not-is_reader.false))
    (subst (λ (ws : List ℕ). EntersOnly c.args.events.now c.args.word (is_listed ws) c.args.zone.now.entry)
    c.deref-3.ensures.value (c.is_alone.ensures yes))
