use Rattle.std.proofs.Common.{ℕ, subst, arith, sym}
use Rattle.std.specs.Prelude.{Contains}
use Rattle.trace_why.specs.Values.{IsOverfullWord}
use Rattle.trace_why.proofs.Listing.{adding_skip, adding_one}
use Rattle.trace_why.proofs.Trying.{IsOrNew, IsOrLeft, or_left_old, or_left_more, less_only, less_overfull}
use Rattle.std.proofs.lemmas.Result.{err_from_is_err_and}
use Rattle.trace_why.specs.declared.untold.Untold.{Untold}
use Rattle.trace_why.proofs.answers.add_answers.Goals as goal
use Rattle.trace_why.proofs.answers.add_answers.Goals.{in-Some+in_ok-add, in_default}

pub loop-i-init : goal.loop-i-init
loop-i-init g c = record {
  adding = record { kept = λ v h. h; left = λ j call reply l h is. absurd (omega arith) };
  only = or_left_old c.args.events.now c.args.k c.args.address c.args.values.now.items c.requires.apart;
}

pub loop-i-preserved : goal.loop-i-preserved
loop-i-preserved g c = elim c.match-answered_on.branch [
  | in-Some+in_ok-add w ↦ rw w.values-is (record {
    adding = adding_one c.requires.trace.0 c.args.events.now c.args.from c.args.address c.loop-i.i c.args.values.now.items c.loop-i.values.items
        w.add.new.values.items w.in-Some.found w.in-Some.reply c.requires.trace.1 c.loop-i.invariant.adding w.in-Some.ensures w.in_ok-add.ensures.kept
        (subst (λ (v : ℕ). Contains w.add.new.values.items v) w.left_word.ensures w.in_ok-add.ensures.there);
    only = less_only (IsOrNew c.loop-i.values.items w.left_word.result)
        (IsOrLeft c.args.events.now c.args.k c.args.address c.args.values.now.items)
        (or_left_more c.args.events.now c.args.k c.args.address c.loop-i.i c.args.values.now.items c.loop-i.values.items w.left_word.result
        w.in-Some.found w.in-Some.reply c.loop-i.invariant.only.each (omega arith) w.in-Some.ensures w.left_word.ensures)
        w.add.new.values.items w.in_ok-add.ensures.only;
  })
  | in_default w ↦ rw w.values-is (record {
    adding = adding_skip c.args.events.now c.args.from c.args.address c.loop-i.i c.args.values.now.items c.loop-i.values.items c.loop-i.invariant.adding
        w.in_default.ensures;
    only = c.loop-i.invariant.only;
  })
]

pub returns-clause-all : goal.returns-clause-all
returns-clause-all g c = λ i call reply l h is. c.loop-i.invariant.adding.left i call reply l (let end = c.loop-i-test.false in omega arith) is

pub returns-clause-only : goal.returns-clause-only
returns-clause-only g c = c.loop-i.invariant.only

pub returns-in_err-add-clause-untold : goal.returns-in_err-add-clause-untold
returns-in_err-add-clause-untold g c =
    let left = IsOrLeft c.args.events.now c.args.k c.args.address c.args.values.now.items in
    let p = err_from_is_err_and c.from_residual.result c.from_residual.ensures.1 in
    rw p.1 (subst (λ (e : Untold). IsOverfullWord left c.args.bound e) (sym p.2)
    (less_overfull (IsOrNew c.loop-i.values.items c.left_word.result) left
    (or_left_more c.args.events.now c.args.k c.args.address c.loop-i.i c.args.values.now.items c.loop-i.values.items c.left_word.result
    c.in-Some.found c.in-Some.reply c.loop-i.invariant.only.each (omega arith) c.in-Some.ensures c.left_word.ensures)
    c.args.bound _ c.in_err-add.ensures.untold))
