use Rattle.std.proofs.Common.{◌<◌, ◌≡◌, ◌≢◌, ⊎_elim, ◌∙◌, List, ℕ, length, arith, subst, sym, ap}
use Rattle.std.proofs.lemmas.Bool.{cases_eq}
use Rattle.trace_laws.specs.declared.opened.Branch.{Branch}
use Rattle.trace_judge.specs.Kept.{AreWithin, renumbered_all}
use Rattle.trace_judge.specs.Sets.{lists_of}
use Rattle.trace_judge.proofs.Ranks.{lists_pushed, lists_before, length_pushed}
use Rattle.trace_judge.proofs.Searching.{read_set}
use Rattle.trace_judge.proofs.nodes.renumber_words.Goals as goal

pub loop-w-init : goal.loop-w-init
loop-w-init g c = record {
  sized = ap length c.new-later.ensures.items;
  same = λ marks are v l. absurd (omega arith);
}

pub renumber-requires : goal.renumber-requires
renumber-requires g c =
    let l : c.loop-w.w < length c.args.words.now = omega arith in
    let shown = c.deref.ensures.value ∙ read_set c.args.words.now c.loop-w.w c.index-words-w.result l c.index-words-w.is in
    subst (λ (bs : List Branch). AreWithin (length c.args.ranks.now) bs) (sym shown) (c.requires c.loop-w.w l)

pub loop-w-preserved : goal.loop-w-preserved
loop-w-preserved g c =
    let l : c.loop-w.w < length c.args.words.now = omega arith in
    let shown = c.deref.ensures.value ∙ read_set c.args.words.now c.loop-w.w c.index-words-w.result l c.index-words-w.is in
    let last : length c.loop-w.later.items ≡ c.loop-w.w = c.loop-w.invariant.sized in
    record {
      sized = length_pushed c.loop-w.later.items c.push.new.self.items _ c.in_ok-push.ensures.items
          ∙ (let e = last in omega arith);
      same = λ marks are v m. ⊎_elim
          {C = lists_of c.push.new.self.items v ≡ renumbered_all marks (lists_of c.args.words.now v)}
          (λ (e : v ≡ c.loop-w.w).
          lists_pushed c.loop-w.later.items c.push.new.self.items _ v c.in_ok-push.ensures.items (e ∙ sym last)
          ∙ (c.in_ok-renumber.ensures marks are
          ∙ (ap (λ (bs : List Branch). renumbered_all marks bs) shown
          ∙ ap (λ (u : ℕ). renumbered_all marks (lists_of c.args.words.now u)) (sym e))))
          (λ (ne : v ≢ c.loop-w.w).
          lists_before c.loop-w.later.items c.push.new.self.items _ v c.in_ok-push.ensures.items (omega arith)
          ∙ c.loop-w.invariant.same marks are v (omega arith))
          (cases_eq v c.loop-w.w);
    }

pub returns-clause-sized : goal.returns-clause-sized
returns-clause-sized g c = c.loop-w.invariant.sized ∙ (omega arith)

pub returns-clause-same : goal.returns-clause-same
returns-clause-same g c = λ marks are w l. c.loop-w.invariant.same marks are w (omega arith)
