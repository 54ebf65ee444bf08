use Rattle.std.proofs.Common.{◌≡◌, ◌+◌, ◌-◌, ◌*◌, Some, sym, ◌∙◌, ap, arith, get_or}
use Rattle.std.proofs.lemmas.List.{get_or_read}
use Rattle.channel_number.specs.Order.{channel_count}
use Rattle.machine_core.proofs.Views.{row_length, word_there, no_word_there}
use Rattle.machine_core.proofs.machine.Machine.word.Goals as goal

pub returns-then-address-words : goal.returns-then-address-words
returns-then-address-words g c =
    let n = c.self.inside.opening.ok.0 in
    rw (← c.self.view_is) (sym (no_word_there c.self.inside c.args.address (omega (arith, n))))

pub overflow_sub-base : goal.overflow_sub-base
overflow_sub-base g c =
    let n = c.self.inside.opening.ok.0 in
    let m = c.self.inside.row.ok.0 in
    let e = row_length c.self.inside c.self.invariant in
    omega (arith, n, m, e)

pub overflow_sub-base-2 : goal.overflow_sub-base-2
overflow_sub-base-2 g c =
    let n = c.self.inside.opening.ok.0 in
    let m = c.self.inside.row.ok.0 in
    let e = row_length c.self.inside c.self.invariant in
    omega (arith, n, m, e)

pub index-requires : goal.index-requires
index-requires g c =
    let n = c.self.inside.opening.ok.0 in
    let m = c.self.inside.row.ok.0 in
    let e = row_length c.self.inside c.self.invariant in
    omega (arith, n, m, e)

pub returns : goal.returns
returns g c =
    let n = c.self.inside.opening.ok.0 in
    let m = c.self.inside.row.ok.0 in
    let e = row_length c.self.inside c.self.invariant in
    let at : c.len.result - c.len-words.result - 1 + c.args.address ≡ channel_count c.self.inside.torus * c.self.inside.depth + c.args.address =
    omega (arith, n, m, e) in
    rw (← c.self.view_is)
    (ap Some (get_or_read c.self.inside.row.items _ _ (omega (arith, n, m, e)) c.index.ensures 0 ∙ ap (λ k. get_or c.self.inside.row.items k 0) at)
    ∙ sym (word_there c.self.inside c.self.invariant c.args.address (omega (arith, n))))
