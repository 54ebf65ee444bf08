use Rattle.std.proofs.Common.{◌≡◌, ℕ, ◌-◌, Bool, List, ◌∙◌, subst, arith}
use Rattle.std.specs.Prelude.{Option}
use Rattle.state_search.specs.declared.smallest.Ending.{Ending}
use Rattle.state_search.specs.declared.smallest.Ending.TheVariants.{Minimal, Spent}
use Rattle.state_search.specs.Parts.{AreClosed, IsEnding, IsKept, IsMinimal}
use Rattle.model_text.specs.Made.{LogLines}
use Rattle.model_text.specs.Views.{log_so_far}
use Rattle.model_answer.specs.declared.model.AskedModel.{AskedModel}
use Rattle.model_answer.specs.Parts.{EndsSo, IsExplainedBy, needs_of, part_of}
use Rattle.model_answer.proofs.smallest.smallest_log.Goals as goal

-- how a search ends
ends_so : (log : LogLines) (model : AskedModel) (needs : List (Option ℕ)) (kept : List Bool) (left : ℕ) (ending : Ending) → needs ≡ needs_of log
    → IsEnding needs (λ part. IsExplainedBy (part_of log part) model) kept left ending → EndsSo log model kept (1000 - left) ending
ends_so log model needs kept left Minimal e h =
    subst (λ (ns : List (Option ℕ)). IsMinimal ns (λ part. IsExplainedBy (part_of log part) model) kept) e h
ends_so log model needs kept left Spent e h = omega arith

pub returns-then-not-branch : goal.returns-then-not-branch
returns-then-not-branch g c =
    subst (λ (kept : List Bool). IsExplainedBy (part_of (log_so_far c.args.log.now) kept) c.args.model) (c.deref-3.ensures.value ∙ c.in_ok-all.ensures)
    (c.in_ok-is_broken.ensures.no c.if-not-branch.true)

pub first_kept-requires-clause-breaks : goal.first_kept-requires-clause-breaks
first_kept-requires-clause-breaks g c =
    subst (λ (kept : List Bool). IsExplainedBy (part_of (log_so_far c.args.log.now) kept) c.args.model → ⊥) c.deref-3.ensures.value
    (c.in_ok-is_broken.ensures.yes c.if-not-branch.false)

pub returns : goal.returns
returns g c =
    let needs = c.deref-5.ensures.value ∙ c.in_ok-needs.ensures in
    record {
      within = λ k h. subst (λ (ks : List Bool). IsKept ks k) c.in_ok-all.ensures (c.in_ok-first.ensures.within k (c.in_ok-part.ensures.within k h));
      closed = subst (λ (ns : List (Option ℕ)). AreClosed ns c.in_ok-part.part.kept.items) needs c.in_ok-part.ensures.closed;
      none = c.in_ok-part.ensures.broken;
      ended = ends_so (log_so_far c.args.log.now) c.args.model c.deref-5.result.now c.in_ok-part.part.kept.items c.smallest_part.new.left
          c.in_ok-part.part.ending needs c.in_ok-part.ensures.ending;
    }
