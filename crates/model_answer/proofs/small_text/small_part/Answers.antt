use Rattle.std.proofs.Common.{ℕ, Bool, List, ◌∙◌, ap}
use Rattle.model_text.specs.Made.{LogLines}
use Rattle.model_text.specs.Views.{log_so_far}
use Rattle.model_answer.specs.PartText.{log_text}
use Rattle.model_answer.specs.Parts.{part_of}
use Rattle.model_answer.proofs.small_text.small_part.Goals as goal

pub returns : goal.returns
returns g c =
    let log = log_so_far c.args.log.now in
    let words : ℕ = c.args.log.now.head.words in (
      rw c.in-Some.is at c.in_ok-part.ensures,
      c.in_ok-text.ensures
          ∙ (ap (λ (w : ℕ). log_text w (log_so_far c.in_ok-kept.kept)) c.words.ensures.value
          ∙ (ap (λ (l : LogLines). log_text words l) c.in_ok-kept.ensures
          ∙ ap (λ (ks : List Bool). log_text words (part_of log ks)) c.deref.ensures.value)),
    )
