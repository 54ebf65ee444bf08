-- What is told where a small part of a log is asked for that a model doesn't explain.
use Rattle.std.specs.Prelude.{◌≡◌, ℕ, List, Option, Some, None, Ok}
use Rattle.model_text.specs.Lines.{log_of}
use Rattle.model_text.specs.Made.{LogLines}
use Rattle.model_answer.specs.declared.model.AskedModel.{AskedModel}
use Rattle.model_answer.specs.declared.small_text.SmallLogText.{SmallLogText}
use Rattle.model_answer.specs.Parts.{IsExplainedBy, IsSmallLog, all_of_processors, part_of}
use Rattle.model_answer.specs.PartText.{log_text}

-- a small part, with its text; or that some order explains all operations of processors
abbrev pub TellsSmallPart : {A : Type 0} → LogLines → AskedModel → Option (SmallLogText A) → Type 0
TellsSmallPart log model None = IsExplainedBy (part_of log (all_of_processors log)) model
TellsSmallPart log model (Some small) = IsSmallLog log model small.part
    × (small.text.items ≡ log_text log.head.words (part_of log small.part.kept.items))

-- that of the log of a text
pub record TellsSmallLog {A : Type 0} (lines : List (List ℕ)) (model : AskedModel)
    (found : Option (SmallLogText A)) : Type 0
  where
    pub log : LogLines
    pub read : log_of lines ≡ Ok log
    pub is : TellsSmallPart log model found
