use Rattle.std.proofs.Common.{ℕ, ◌<◌, sym, subst}
use Rattle.std.proofs.lemmas.Bool.{eqb-true}
use Rattle.flit_buffer.specs.Words.{word_of}
use Rattle.fabric.proofs.Keeps.{looks}
use Rattle.fabric.proofs.Seating.{saw, saw_nothing}
use Rattle.fabric.proofs.Takes.{looked_in_vain}
use Rattle.fabric.proofs.Turning.{op_is, word_in_row}
use Rattle.fabric.proofs.steps.finds_no_flit.Goals as goal

pub load-requires : goal.load-requires
load-requires g c = (
  c.requires.table.0,
  subst (λ (k : ℕ). k < c.args.row.now.table_id.words) (sym c.word.ensures)
      (subst (λ (m : ℕ). word_of c.args.op < m) (sym c.requires.table.1)
      (word_in_row _ _ c.args.step c.args.tile.now.place c.args.op c.requires.load c.requires.tile.place (op_is _ _ _ c.requires.op))),
  looks c.args.row.now.key.load _ _ _ c.args.seat.now.me c.requires.seat.0 c.requires.seat.1,
)

pub returns-then-not-is_inner_take-clause-sees : goal.returns-then-not-is_inner_take-clause-sees
returns-then-not-is_inner_take-clause-sees g c = saw_nothing c.args.seat.now

pub returns-clause-sees : goal.returns-clause-sees
returns-clause-sees g c = saw _ c.args.seat.now c.load.new.seat _ c.load.ensures.2.0 c.load.ensures.0 c.load.ensures.2.1

pub returns-clause-idle : goal.returns-clause-idle
returns-clause-idle g c = λ e.
    looked_in_vain c.args.flags.now _ c.args.step c.args.tile.now.place c.args.op c.args.seat.now.me.0 c.load.new.seat.me.0 _ c.load.result c.requires.load
    c.requires.seat.2 c.requires.tile.place (op_is _ _ _ c.requires.op) (c.is_inner_take.ensures.0 c.if-not-is_inner_take.false) c.word.ensures
    (eqb-true c.load.result 0 e) c.load.ensures.2.0
