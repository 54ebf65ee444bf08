use Rattle.std.proofs.Common.{Some, ap, ◌∙◌, subst, sym, ◌<◌, ℕ}
use Rattle.flit_buffer.specs.declared.word_op.WordOp.{WordOp}
use Rattle.flit_buffer.specs.Words.{word_of}
use Rattle.fabric.proofs.Keeps.{loads, stores, swaps, exchanges, adds, ands, ors, xors, maxes, mins}
use Rattle.fabric.proofs.Turning.{as_picked}
use Rattle.fabric.proofs.steps.perform.Goals as goal

pub load-requires : goal.load-requires
load-requires g c =
    let t = g.B.Turning in
    let k = as_picked t.view t.step c.args.step t.place c.args.tile.now c.args.op c.requires.picked.0 c.requires.picked.1 c.requires.load c.requires.tile
    c.requires.op in
    let e = c.in-Load.is in (
      c.requires.table.0,
      subst (λ (o : WordOp). word_of o < c.args.row.now.table_id.words) e (subst (λ (m : ℕ). word_of c.args.op < m) (sym c.requires.table.1) k.2),
      loads c.args.row.now.key.load _ _ c.args.seat.now.me t.step t.place t.view c.requires.turning c.requires.load c.requires.seat.0 c.requires.seat.1
          c.requires.seat.2 k.0 c.in-Load.word (k.1 ∙ ap Some e),
    )

pub store-requires : goal.store-requires
store-requires g c =
    let t = g.B.Turning in
    let k = as_picked t.view t.step c.args.step t.place c.args.tile.now c.args.op c.requires.picked.0 c.requires.picked.1 c.requires.load c.requires.tile
    c.requires.op in
    let e = c.in-Store.is in (
      c.requires.table.0,
      subst (λ (o : WordOp). word_of o < c.args.row.now.table_id.words) e (subst (λ (m : ℕ). word_of c.args.op < m) (sym c.requires.table.1) k.2),
      stores c.args.row.now.key.load _ _ c.args.seat.now.me t.step t.place t.view c.requires.turning c.requires.load c.requires.seat.0 c.requires.seat.1
          c.requires.seat.2 k.0 c.in-Store.word c.in-Store.value (k.1 ∙ ap Some e),
    )

pub swap-requires : goal.swap-requires
swap-requires g c =
    let t = g.B.Turning in
    let k = as_picked t.view t.step c.args.step t.place c.args.tile.now c.args.op c.requires.picked.0 c.requires.picked.1 c.requires.load c.requires.tile
    c.requires.op in
    let e = c.in-Swap.is in (
      c.requires.table.0,
      subst (λ (o : WordOp). word_of o < c.args.row.now.table_id.words) e (subst (λ (m : ℕ). word_of c.args.op < m) (sym c.requires.table.1) k.2),
      swaps c.args.row.now.key.load _ _ c.args.seat.now.me t.step t.place t.view c.requires.turning c.requires.load c.requires.seat.0 c.requires.seat.1
          c.requires.seat.2 k.0 c.in-Swap.word c.in-Swap.value (k.1 ∙ ap Some e),
    )

pub compare_exchange-requires : goal.compare_exchange-requires
compare_exchange-requires g c =
    let t = g.B.Turning in
    let k = as_picked t.view t.step c.args.step t.place c.args.tile.now c.args.op c.requires.picked.0 c.requires.picked.1 c.requires.load c.requires.tile
    c.requires.op in
    let e = c.in-Cas.is in (
      c.requires.table.0,
      subst (λ (o : WordOp). word_of o < c.args.row.now.table_id.words) e (subst (λ (m : ℕ). word_of c.args.op < m) (sym c.requires.table.1) k.2),
      exchanges c.args.row.now.key.load _ _ c.args.seat.now.me t.step t.place t.view c.requires.turning c.requires.load c.requires.seat.0 c.requires.seat.1
          c.requires.seat.2 k.0 c.in-Cas.word c.in-Cas.expected c.in-Cas.new (k.1 ∙ ap Some e),
    )

pub fetch_add-requires : goal.fetch_add-requires
fetch_add-requires g c =
    let t = g.B.Turning in
    let k = as_picked t.view t.step c.args.step t.place c.args.tile.now c.args.op c.requires.picked.0 c.requires.picked.1 c.requires.load c.requires.tile
    c.requires.op in
    let e = c.in-Add.is in (
      c.requires.table.0,
      subst (λ (o : WordOp). word_of o < c.args.row.now.table_id.words) e (subst (λ (m : ℕ). word_of c.args.op < m) (sym c.requires.table.1) k.2),
      adds c.args.row.now.key.load _ _ c.args.seat.now.me t.step t.place t.view c.requires.turning c.requires.load c.requires.seat.0 c.requires.seat.1
          c.requires.seat.2 k.0 c.in-Add.word c.in-Add.value (k.1 ∙ ap Some e),
    )

pub fetch_and-requires : goal.fetch_and-requires
fetch_and-requires g c =
    let t = g.B.Turning in
    let k = as_picked t.view t.step c.args.step t.place c.args.tile.now c.args.op c.requires.picked.0 c.requires.picked.1 c.requires.load c.requires.tile
    c.requires.op in
    let e = c.in-And.is in (
      c.requires.table.0,
      subst (λ (o : WordOp). word_of o < c.args.row.now.table_id.words) e (subst (λ (m : ℕ). word_of c.args.op < m) (sym c.requires.table.1) k.2),
      ands c.args.row.now.key.load _ _ c.args.seat.now.me t.step t.place t.view c.requires.turning c.requires.load c.requires.seat.0 c.requires.seat.1
          c.requires.seat.2 k.0 c.in-And.word c.in-And.value (k.1 ∙ ap Some e),
    )

pub fetch_or-requires : goal.fetch_or-requires
fetch_or-requires g c =
    let t = g.B.Turning in
    let k = as_picked t.view t.step c.args.step t.place c.args.tile.now c.args.op c.requires.picked.0 c.requires.picked.1 c.requires.load c.requires.tile
    c.requires.op in
    let e = c.in-Or.is in (
      c.requires.table.0,
      subst (λ (o : WordOp). word_of o < c.args.row.now.table_id.words) e (subst (λ (m : ℕ). word_of c.args.op < m) (sym c.requires.table.1) k.2),
      ors c.args.row.now.key.load _ _ c.args.seat.now.me t.step t.place t.view c.requires.turning c.requires.load c.requires.seat.0 c.requires.seat.1
          c.requires.seat.2 k.0 c.in-Or.word c.in-Or.value (k.1 ∙ ap Some e),
    )

pub fetch_xor-requires : goal.fetch_xor-requires
fetch_xor-requires g c =
    let t = g.B.Turning in
    let k = as_picked t.view t.step c.args.step t.place c.args.tile.now c.args.op c.requires.picked.0 c.requires.picked.1 c.requires.load c.requires.tile
    c.requires.op in
    let e = c.in-Xor.is in (
      c.requires.table.0,
      subst (λ (o : WordOp). word_of o < c.args.row.now.table_id.words) e (subst (λ (m : ℕ). word_of c.args.op < m) (sym c.requires.table.1) k.2),
      xors c.args.row.now.key.load _ _ c.args.seat.now.me t.step t.place t.view c.requires.turning c.requires.load c.requires.seat.0 c.requires.seat.1
          c.requires.seat.2 k.0 c.in-Xor.word c.in-Xor.value (k.1 ∙ ap Some e),
    )

pub fetch_max-requires : goal.fetch_max-requires
fetch_max-requires g c =
    let t = g.B.Turning in
    let k = as_picked t.view t.step c.args.step t.place c.args.tile.now c.args.op c.requires.picked.0 c.requires.picked.1 c.requires.load c.requires.tile
    c.requires.op in
    let e = c.in-Max.is in (
      c.requires.table.0,
      subst (λ (o : WordOp). word_of o < c.args.row.now.table_id.words) e (subst (λ (m : ℕ). word_of c.args.op < m) (sym c.requires.table.1) k.2),
      maxes c.args.row.now.key.load _ _ c.args.seat.now.me t.step t.place t.view c.requires.turning c.requires.load c.requires.seat.0 c.requires.seat.1
          c.requires.seat.2 k.0 c.in-Max.word c.in-Max.value (k.1 ∙ ap Some e),
    )

pub fetch_min-requires : goal.fetch_min-requires
fetch_min-requires g c =
    let t = g.B.Turning in
    let k = as_picked t.view t.step c.args.step t.place c.args.tile.now c.args.op c.requires.picked.0 c.requires.picked.1 c.requires.load c.requires.tile
    c.requires.op in
    let e = c.in-Min.is in (
      c.requires.table.0,
      subst (λ (o : WordOp). word_of o < c.args.row.now.table_id.words) e (subst (λ (m : ℕ). word_of c.args.op < m) (sym c.requires.table.1) k.2),
      mins c.args.row.now.key.load _ _ c.args.seat.now.me t.step t.place t.view c.requires.turning c.requires.load c.requires.seat.0 c.requires.seat.1
          c.requires.seat.2 k.0 c.in-Min.word c.in-Min.value (k.1 ∙ ap Some e),
    )

pub returns-in-Load-clause-seat : goal.returns-in-Load-clause-seat
returns-in-Load-clause-seat g c = (c.load.ensures.0, c.load.ensures.1, c.load.ensures.2.2)

pub returns-in-Load-clause-told : goal.returns-in-Load-clause-told
returns-in-Load-clause-told g c = c.load.ensures.2.1

pub returns-in-Store-clause-seat : goal.returns-in-Store-clause-seat
returns-in-Store-clause-seat g c = (c.store.ensures.0, c.store.ensures.1, c.store.ensures.2.2)

pub returns-in-Store-clause-told : goal.returns-in-Store-clause-told
returns-in-Store-clause-told g c = c.store.ensures.2.1

pub returns-in-Swap-clause-seat : goal.returns-in-Swap-clause-seat
returns-in-Swap-clause-seat g c = (c.swap.ensures.0, c.swap.ensures.1, c.swap.ensures.2.2)

pub returns-in-Swap-clause-told : goal.returns-in-Swap-clause-told
returns-in-Swap-clause-told g c = c.swap.ensures.2.1

pub returns-in-Cas-clause-seat : goal.returns-in-Cas-clause-seat
returns-in-Cas-clause-seat g c = (c.compare_exchange.ensures.0, c.compare_exchange.ensures.1, c.compare_exchange.ensures.2.2)

pub returns-in-Cas-clause-told : goal.returns-in-Cas-clause-told
returns-in-Cas-clause-told g c = c.compare_exchange.ensures.2.1

pub returns-in-Add-clause-seat : goal.returns-in-Add-clause-seat
returns-in-Add-clause-seat g c = (c.fetch_add.ensures.0, c.fetch_add.ensures.1, c.fetch_add.ensures.2.2)

pub returns-in-Add-clause-told : goal.returns-in-Add-clause-told
returns-in-Add-clause-told g c = c.fetch_add.ensures.2.1

pub returns-in-And-clause-seat : goal.returns-in-And-clause-seat
returns-in-And-clause-seat g c = (c.fetch_and.ensures.0, c.fetch_and.ensures.1, c.fetch_and.ensures.2.2)

pub returns-in-And-clause-told : goal.returns-in-And-clause-told
returns-in-And-clause-told g c = c.fetch_and.ensures.2.1

pub returns-in-Or-clause-seat : goal.returns-in-Or-clause-seat
returns-in-Or-clause-seat g c = (c.fetch_or.ensures.0, c.fetch_or.ensures.1, c.fetch_or.ensures.2.2)

pub returns-in-Or-clause-told : goal.returns-in-Or-clause-told
returns-in-Or-clause-told g c = c.fetch_or.ensures.2.1

pub returns-in-Xor-clause-seat : goal.returns-in-Xor-clause-seat
returns-in-Xor-clause-seat g c = (c.fetch_xor.ensures.0, c.fetch_xor.ensures.1, c.fetch_xor.ensures.2.2)

pub returns-in-Xor-clause-told : goal.returns-in-Xor-clause-told
returns-in-Xor-clause-told g c = c.fetch_xor.ensures.2.1

pub returns-in-Max-clause-seat : goal.returns-in-Max-clause-seat
returns-in-Max-clause-seat g c = (c.fetch_max.ensures.0, c.fetch_max.ensures.1, c.fetch_max.ensures.2.2)

pub returns-in-Max-clause-told : goal.returns-in-Max-clause-told
returns-in-Max-clause-told g c = c.fetch_max.ensures.2.1

pub returns-in-Min-clause-seat : goal.returns-in-Min-clause-seat
returns-in-Min-clause-seat g c = (c.fetch_min.ensures.0, c.fetch_min.ensures.1, c.fetch_min.ensures.2.2)

pub returns-in-Min-clause-told : goal.returns-in-Min-clause-told
returns-in-Min-clause-told g c = c.fetch_min.ensures.2.1
