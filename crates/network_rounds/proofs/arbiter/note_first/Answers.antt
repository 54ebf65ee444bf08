use Rattle.std.proofs.Common.{◌∙◌, Option, Some, None, List, ℕ, length, sym, ap, arith}
use Rattle.std.specs.Prelude.{slice_index, slice_index_or, slice_set}
use Rattle.network_rounds.specs.Arbiters.{nearer, first_among, asking}
use Rattle.network_rounds.proofs.Firsts.{passes_none, passes_far, notes}
use Rattle.network_rounds.proofs.arbiter.note_first.Goals as goal

pub returns-in_default : goal.returns-in_default
returns-in_default g c = λ moves y low. passes_none c.args.machine.now c.args.of moves y (slice_index c.args.lasts.now y) (slice_index_or c.args.firsts.now y None)
    (sym c.output_asked.ensures ∙ c.in_default.is)

pub returns-then-y-firsts : goal.returns-then-y-firsts
returns-then-y-firsts g c = λ moves y low.
    (let size = c.requires.firsts in
    passes_far c.args.machine.now c.args.of moves y c.in-Some.y (length c.args.firsts.now) (slice_index c.args.lasts.now y) (slice_index_or c.args.firsts.now y None)
    (sym c.output_asked.ensures ∙ c.in-Some.is) c.if-y-firsts.true (omega (arith, low, size)))

pub returns : goal.returns
returns g c = λ moves y low.
    (let m = c.args.machine.now in
    let lasts = c.args.lasts.now in
    let firsts = c.args.firsts.now in
    let z = c.in-Some.y in
    ap (λ (fs : List (Option ℕ)). first_among (slice_index lasts y) (slice_index_or fs y None) (asking m moves y))
    (c.note_input.ensures
    ∙ ap (λ (x : ℕ). slice_set firsts z (Some (nearer (slice_index lasts z) (slice_index_or firsts z None) x))) c.channel.ensures)
    ∙ notes m lasts firsts c.args.of moves y z c.if-y-firsts.false (sym c.output_asked.ensures ∙ c.in-Some.is))
