-- The place is in its layer.
use Rattle.std.proofs.Common.{◌≡◌, ◌+◌, ◌*◌, ◌<◌, length, sym, subst, arith}
use Rattle.network_text.proofs.Layers.{place_low}
use Rattle.network_text.proofs.choosing.Choosing.further_place.Goals as goal

pub overflow_add-result : goal.overflow_add-result
overflow_add-result g c =
    let s = c.args.self.now in
    let cells : c.len.result ≡ length s.fixed.choices.items = omega (arith, c.len.ensures) in
    let low = place_low s.layers (length s.fixed.choices.items) c.args.layer c.args.cell (length s.further.items) c.requires.read.rows c.requires.layer c.requires.cell in
    let inside : c.args.layer * c.len.result + c.args.cell < length s.further.items =
    subst (λ z. c.args.layer * z + c.args.cell < length s.further.items) (sym cells) low in
    omega (arith, s.further.ok.0)

pub returns-clause-within : goal.returns-clause-within
returns-clause-within g c =
    let s = c.args.self.now in
    let cells : c.len.result ≡ length s.fixed.choices.items = omega (arith, c.len.ensures) in
    subst (λ z. c.args.layer * z + c.args.cell < length s.further.items) (sym cells)
    (place_low s.layers (length s.fixed.choices.items) c.args.layer c.args.cell (length s.further.items) c.requires.read.rows c.requires.layer c.requires.cell)
