-- What a `MachineText` and what is read of one stand for.
use Rattle.std.specs.Prelude.{◌≡◌, ◌≤◌, length}
use Rattle.script.specs.declared.reading.Reading as reading
use Rattle.script.specs.Settings.{AreChecked}
use Rattle.script.specs.Views.{settings_of}
use Rattle.script.specs.Machine.{Reading}

abbrev pub reading_of : {A : Type 0} → reading.Reading A → Reading
reading_of r = record {
  settings = settings_of r.settings;
  opening = r.opening.items;
  named = r.named.items;
}

-- what the checks leave true of what is read
pub record IsChecked (r : Reading) : Type 0 where
  pub settings : AreChecked r.settings
  pub words : length r.opening ≤ 65536
  pub named : length r.named ≡ length r.opening
