-- What a reader keeps of a network text whose routers choose.
use Rattle.std.specs.Prelude.{◌≡◌, ◌⊎◌, ◌*◌, ◌≤◌, false, length, Result, Ok, Err}
use Rattle.network_text.specs.declared.reason.NetworkReason.{NetworkReason}
use Rattle.network_text.specs.declared.reason.NetworkReason.TheVariants as reason
use Rattle.network_text.specs.Reading.{reading_of, IsRead}
use Rattle.network_text.specs.declared.choosing.Choosing as reading
use Rattle.network_text.specs.Choosing.{ChoosingText, choosing_with}

abbrev pub choosing_text_of : {A : Type 0} → reading.Choosing A → ChoosingText
choosing_text_of c =
    choosing_with (reading_of c.fixed) c.layers c.further.items c.escapes.items

-- each layer has a place for every first choice, and there is none before the first choice
pub record IsChoosingRead {A : Type 0} (c : reading.Choosing A) : Type 0 where
  pub fixed : IsRead c.fixed
  pub rows : length c.further.items ≡ c.layers * length c.fixed.choices.items
  pub few : c.layers ≤ length c.further.items
  pub given : c.fixed.begun ≡ false → c.layers ≡ 0

-- the network of all lines, or why it is refused, or out of memory
abbrev pub MakesChoosing : {A : Type 0} → Result (reading.Choosing A) NetworkReason
    → Result ChoosingText NetworkReason → Type 0
MakesChoosing (Ok c) made = made ≡ Ok (choosing_text_of c)
MakesChoosing (Err e) made = (e ≡ reason.Memory) ⊎ (made ≡ Err e)
