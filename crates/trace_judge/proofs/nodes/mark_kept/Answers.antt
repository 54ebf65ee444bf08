use Rattle.std.proofs.Common.{ℕ, ◌∙◌, subst, sym}
use Rattle.trace_judge.specs.Kept.{AreWithin}
use Rattle.trace_judge.specs.Sets.{lists_of}
use Rattle.trace_judge.proofs.Ranks.{ends_keep}
use Rattle.trace_judge.proofs.nodes.mark_kept.Goals as goal

pub mark_words-requires : goal.mark_words-requires
mark_words-requires g c = λ w l. subst (λ (n : ℕ). AreWithin n (lists_of c.args.words.now w)) (sym c.requires.sized) (c.requires.within w l)

pub mark_back-requires-clause-sized : goal.mark_back-requires-clause-sized
mark_back-requires-clause-sized g c = c.mark_words.auto.marks ∙ c.requires.sized

pub returns-clause-ends : goal.returns-clause-ends
returns-clause-ends g c = λ w l. ends_keep c.mark_words.new.marks c.mark_back.new.marks (lists_of c.args.words.now w)
    c.mark_back.ensures.kept (c.mark_words.ensures w l)
