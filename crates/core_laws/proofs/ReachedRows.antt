-- The states that runs reach, as tiles and row show them.
use Rattle.std.proofs.Common.{◌≡◌, ℕ, List}
use Rattle.torus.specs.declared.step.Step.{Step}
use Rattle.core_laws.specs.Agents.{TilePlace}
use Rattle.core_laws.specs.Core.{Load, design_of}
use Rattle.core_laws.specs.Runs.{IsAcceptedLoad, state_after}
use Rattle.core_laws.proofs.EveryRun.{holds_in}
use Rattle.core_laws.proofs.RowOfRuns.{surrounded}
use Rattle.core_laws.specs.Seen.{IsShown, state_seen}
use Rattle.core_laws.proofs.SeenStates.{seen}

pub seen_state : (l : Load) → IsAcceptedLoad l → (steps : List Step) (n : ℕ) (places : List TilePlace) (row : List ℕ)
    → IsShown (design_of l) (state_after l steps n) places row → state_seen (design_of l) places row ≡ state_after l steps n
seen_state l ok steps n places row shown =
    seen (design_of l) (state_after l steps n) ok.shape (holds_in l ok steps n).stands.tiles (surrounded l ok steps n) places row shown
