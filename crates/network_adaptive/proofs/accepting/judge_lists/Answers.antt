use Rattle.std.proofs.lemmas.Option.{MatchOption-at_none}
use Rattle.std.proofs.Common.{length}
use Rattle.network_adaptive.specs.Choosing.{ChoiceTable, choosing_of, IsShaped}
use Rattle.network_adaptive.specs.Shape.{PairsFit, IsFirstWrongPair, ChoicesFit, IsFirstMisfit}
use Rattle.network_adaptive.proofs.Shaped.{shaped}
use Rattle.network_adaptive.proofs.Rising.{promises}
use Rattle.network_adaptive.proofs.accepting.judge_lists.Goals as goal

pub judge-requires-clause-shaped : goal.judge-requires-clause-shaped
judge-requires-clause-shaped g c =
    let t : ChoiceTable = choosing_of c.args.kinds.now c.args.joins.now c.args.ways c.args.choices.now c.args.marks.now in
    shaped t
    (MatchOption-at_none (ChoicesFit t.kinds t.choices t.ways (length t.kinds)) (IsFirstMisfit t.kinds t.choices t.ways) c.in-None-first_misfit.is c.first_misfit.ensures)
    c.requires.full c.requires.marks c.requires.ends
    (MatchOption-at_none (PairsFit t.kinds t.joins (length t.joins)) (IsFirstWrongPair t.kinds t.joins) c.in-None.is c.first_wrong_pair.ensures)

pub returns : goal.returns
returns g c =
    let t : ChoiceTable = choosing_of c.args.kinds.now c.args.joins.now c.args.ways c.args.choices.now c.args.marks.now in
    let is : IsShaped t = shaped t
    (MatchOption-at_none (ChoicesFit t.kinds t.choices t.ways (length t.kinds)) (IsFirstMisfit t.kinds t.choices t.ways) c.in-None-first_misfit.is c.first_misfit.ensures)
    c.requires.full c.requires.marks c.requires.ends
    (MatchOption-at_none (PairsFit t.kinds t.joins (length t.joins)) (IsFirstWrongPair t.kinds t.joins) c.in-None.is c.first_wrong_pair.ensures) in
    (is, c.in_ok-judge.ensures, promises t c.args.replies.now is c.requires.replies c.in_ok-judge.field-0 c.in_ok-judge.ensures)
