-- The memory models that are asked of a log (this project's own names).
use Rattle.std.specs.Prelude.{ℕ, List, [], ◌∷◌, Option, Some, option_map, find, codes}
use Rattle.std.specs.Prelude.{if◌then◌else◌}
use Rattle.std.specs.Str.{bytes_eq}
use Rattle.memory_models.specs.declared.kinds.Rule.{Rule}
use Rattle.memory_models.specs.Models.{sequential, total_store_order, partial_store_order}
use Rattle.memory_models.specs.Models.{coherent, fenced}
use Rattle.model_answer.specs.declared.model.AskedModel.{AskedModel}
use Rattle.model_answer.specs.declared.model.AskedModel.TheVariants.{Rules, Rvwmo}
use Rattle.model_answer.specs.declared.model.MemoryModel.{MemoryModel}
use Rattle.model_answer.specs.declared.model.MemoryModel.TheVariants.{Coherent, Fenced, Pso, Tso, Sc}

-- the word that names a model
abbrev pub model_word : MemoryModel → List ℕ
model_word Coherent = codes "coherent"
model_word Fenced = codes "fenced"
model_word Pso = codes "pso"
model_word Tso = codes "tso"
model_word Sc = codes "sc"

-- every model, weakest first
abbrev pub every_model : List MemoryModel
every_model = Coherent ∷ Fenced ∷ Pso ∷ Tso ∷ Sc ∷ []

-- the model that a word names
abbrev pub model_named : List ℕ → Option MemoryModel
model_named word = find (λ model. bytes_eq word (model_word model)) every_model

-- the model that a word names, RISC-V's among them
abbrev pub asked_named : List ℕ → Option AskedModel
asked_named word =
    if bytes_eq word (codes "rvwmo") then Some Rvwmo else option_map Rules (model_named word)

-- the rules of a model
abbrev pub rules_of_model : MemoryModel → List Rule
rules_of_model Coherent = coherent
rules_of_model Fenced = fenced
rules_of_model Pso = partial_store_order
rules_of_model Tso = total_store_order
rules_of_model Sc = sequential
