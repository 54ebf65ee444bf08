use Rattle.std.proofs.Common.{◌≡◌, ℕ, List, Bool, length, ap, ◌∙◌, subst, sym}
use Rattle.trace_judge.specs.Kept.{AreWithin, AreRanks, marked_nodes}
use Rattle.trace_judge.specs.Sets.{lists_of}
use Rattle.trace_judge.proofs.nodes.kept.Goals as goal

pub marked-requires-clause-sized : goal.marked-requires-clause-sized
marked-requires-clause-sized g c = ap length c.deref-2.ensures.value ∙ c.in_ok-marks.ensures.sized

pub marked-requires-clause-ranks : goal.marked-requires-clause-ranks
marked-requires-clause-ranks g c =
    subst (λ (ms : List Bool). AreRanks c.deref-3.result.now ms) (sym c.deref-2.ensures.value)
    (subst (λ (rs : List ℕ). AreRanks rs c.in_ok-marks.marks.items) (sym c.deref-3.ensures.value)
    (subst (λ (ms : List Bool). AreRanks c.in_ok-ranks.ranks.items ms) c.deref.ensures.value c.in_ok-ranks.ensures))

pub renumber_words-requires : goal.renumber_words-requires
renumber_words-requires g c = λ w l.
    let are : AreRanks c.in_ok-ranks.ranks.items c.in_ok-marks.marks.items =
    subst (λ (ms : List Bool). AreRanks c.in_ok-ranks.ranks.items ms) c.deref.ensures.value c.in_ok-ranks.ensures in
    let long : length c.deref-4.result.now ≡ length c.args.nodes.now =
    ap length c.deref-4.ensures.value ∙ (are.0 ∙ c.in_ok-marks.ensures.sized) in
    subst (λ (n : ℕ). AreWithin n (lists_of c.args.words.now w)) (sym long) (c.requires.within w l)

pub returns : goal.returns
returns g c =
    let marks : List Bool = c.in_ok-marks.marks.items in
    let are : AreRanks c.deref-4.result.now marks =
    subst (λ (rs : List ℕ). AreRanks rs marks) (sym c.deref-4.ensures.value)
    (subst (λ (ms : List Bool). AreRanks c.in_ok-ranks.ranks.items ms) c.deref.ensures.value c.in_ok-ranks.ensures) in
    record {
      marks = marks;
      are = c.in_ok-marks.ensures;
      long = c.in_ok-later.ensures.sized;
      same = c.in_ok-later.ensures.same marks are;
      only = c.in_ok-only.ensures ∙ ap (λ (ms : List Bool). marked_nodes ms ms c.args.nodes.now) c.deref-2.ensures.value;
    }
