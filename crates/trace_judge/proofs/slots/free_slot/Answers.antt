use Rattle.std.proofs.Common.{◌≡◌, ◌≢◌, ⊎_elim, ◌<◌, ℕ, None, length, slice_get, sym, ◌∙◌, ap, arith}
use Rattle.std.proofs.lemmas.Bool.{cases_eq}
use Rattle.std.proofs.lemmas.Option.{slice_get-get_or}
use Rattle.trace_laws.proofs.Lists.{get_within}
use Rattle.trace_judge.proofs.Parting.{is_free, is_filled}
use Rattle.trace_judge.proofs.slots.free_slot.Goals as goal

pub loop-slot-init : goal.loop-slot-init
loop-slot-init c = λ s low l h. absurd (omega arith)

pub returns-then-is_free : goal.returns-then-is_free
returns-then-is_free c =
    let l : c.loop-slot.slot < length c.args.table.now = let e = c.min-end.ensures in omega arith in (
      c.loop-slot.auto.slot,
      (let e = c.min-end.ensures in omega arith),
      is_free c.args.table.now c.loop-slot.slot _ (slice_get-get_or c.args.table.now c.loop-slot.slot _ l)
          (c.is_free.ensures.free c.if-is_free.true),
    )

pub loop-slot-preserved : goal.loop-slot-preserved
loop-slot-preserved c = λ s low l h. ⊎_elim
    (λ (e : s ≡ c.loop-slot.slot).
    let m : c.loop-slot.slot < length c.args.table.now = let e = c.min-end.ensures in omega arith in
    is_filled c.args.table.now c.loop-slot.slot _ (slice_get-get_or c.args.table.now c.loop-slot.slot _ m)
    (c.is_free.ensures.taken c.if-is_free.false)
    (ap (λ (n : ℕ). slice_get c.args.table.now n) (sym e) ∙ h))
    (λ (ne : s ≢ c.loop-slot.slot). c.loop-slot.invariant s low (omega arith) h)
    (cases_eq s c.loop-slot.slot)

pub returns : goal.returns
returns c = λ s low high h.
    let l = get_within c.args.table.now s None h in
    c.loop-slot.invariant s low (let e = c.min-end.ensures in omega arith) h
