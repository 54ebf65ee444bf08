-- What the program's own types stand for.
use Rattle.std.specs.Prelude.{ℕ, List, [], ◌∷◌, option_map}
use Rattle.script.specs.declared.few.Few.{Few}
use Rattle.script.specs.declared.few.Few.TheVariants.{One, Two, Three}
use Rattle.script.specs.declared.settings.Settings as settings
use Rattle.script.specs.Settings.{Settings}

abbrev pub few_list : Few → List ℕ
few_list (One a) = a ∷ []
few_list (Two a b) = a ∷ b ∷ []
few_list (Three a b c) = a ∷ b ∷ c ∷ []

abbrev pub settings_of : settings.Settings → Settings
settings_of s = record {
  radices = option_map few_list s.radices;
  dims = s.dims;
  datelines = option_map few_list s.datelines;
  depth = s.depth;
  tags = s.tags;
}
