use Rattle.std.proofs.Common.{◌≡◌, true, length, sym, ◌∙◌, arith}
use Rattle.std.specs.List.{list_all}
use Rattle.torus.specs.Refusal.{is_radix, are_below}
use Rattle.torus.proofs.Refusals.{mixed_is_torus, mixed_ok, shape_of-filled}
use Rattle.torus.proofs.shape.Torus.mixed.Goals as goal

pub invariant_of-result : goal.invariant_of-result
invariant_of-result c =
    let radices : list_all is_radix c.args.radices.now ≡ true = sym c.are_radices.ensures ∙ c.if-not-are_radices.false in
    let below : are_below c.args.datelines.now c.args.radices.now ≡ true = sym c.are_below.ensures ∙ c.if-not-are_below.false in
    rw (c.filled.ensures, c.filled-2.ensures)
    (mixed_is_torus c.args.radices.now c.args.datelines.now (omega arith) (omega arith) radices (omega arith) (omega arith) below)

pub returns : goal.returns
returns c =
    let radices : list_all is_radix c.args.radices.now ≡ true = sym c.are_radices.ensures ∙ c.if-not-are_radices.false in
    let below : are_below c.args.datelines.now c.args.radices.now ≡ true = sym c.are_below.ensures ∙ c.if-not-are_below.false in
    let same : length c.args.datelines.now ≡ length c.args.radices.now = omega arith in
    rw (c.filled.ensures, c.filled-2.ensures, shape_of-filled c.args.radices.now c.args.datelines.now (omega arith) same)
    (sym (mixed_ok c.args.radices.now c.args.datelines.now (omega arith) (omega arith) radices (omega arith) same below))
