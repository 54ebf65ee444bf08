-- What the checks of a machine text say together.
use Rattle.std.proofs.Common.{◌≡◌, ℕ, false, List, refl, Some, None}
use Rattle.std.specs.Prelude.{Option, Err, is_some, option_map}
use Rattle.script.specs.declared.few.Few.{Few}
use Rattle.script.specs.declared.settings.Settings as settings
use Rattle.script.specs.declared.reason.TextReason.{TextReason}
use Rattle.script.specs.Settings.{after_datelines, undated, spread}
use Rattle.script.specs.Views.{few_list, settings_of}

is_some-map : (o : Option Few) → is_some (option_map few_list o) ≡ is_some o
is_some-map None = refl
is_some-map (Some few) = refl

-- where datelines do not go with the radices, that is the reason
pub datelines_refused : (s : settings.Settings) (zs : List ℕ) (ks : Few) (n : ℕ) (e : TextReason) →
    is_some s.datelines ≡ false → s.radices ≡ Some ks → s.dims ≡ Some n → undated zs (spread n (few_list ks)) ≡ Some e → after_datelines (settings_of s) zs ≡ Err e
datelines_refused s zs ks n e none radices dims refused =
    rw (is_some-map s.datelines, none, radices, dims, refused) refl
