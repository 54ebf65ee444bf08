-- The packet that a head flit at the front of a line begins.
use Rattle.std.proofs.Common.{◌≡◌, ℕ, true, false, List, ◌∷◌, ◌++◌, Option, sym, ap, ◌∙◌, subst}
use Rattle.std.proofs.lemmas.List.Elements.{All-head}
use Rattle.std.specs.List.{All}
use Rattle.std.specs.Option.{option_to_list}
use Rattle.wormhole.specs.Net.{Net, IsNet, IsOn, IsParcel, Parcel, flits_of_all}
use Rattle.wormhole.specs.State.{NetState, in_line}
use Rattle.wormhole.specs.Words.{Words}
use Rattle.wormhole.specs.Routes.{Routes}
use Rattle.wormhole.proofs.Channels.{HasPopped, pop_head, pop_rest}
use Rattle.wormhole.proofs.Beyond.{IsNext, next_on}

-- the first packet of a channel begins with this head flit, and is on its route
pub record Heads (n : Net) (s : NetState) (x f : ℕ) : Type 0 where
  pub parcel : Parcel
  pub others : List Parcel
  pub parcels : (s.notes x).parcels ≡ parcel ∷ others
  pub head : parcel.head ≡ f
  pub is : IsParcel n parcel
  pub on : IsOn x (n.route parcel.source parcel.destination)

-- what the latch and the channel hold is the line
pub in_line_is : (s : NetState) (x : ℕ) (l : Option ℕ) (fs : List ℕ) → (s.lines x).latch ≡ l → (s.lines x).flits ≡ fs
    → in_line (s.lines x) ≡ option_to_list l ++ fs
in_line_is s x l fs latched listed = ap (λ m. option_to_list m ++ (s.lines x).flits) latched ∙ ap (λ m. option_to_list l ++ m) listed

module _ (n : Net) (s : NetState) (words : Words n s) where
  -- what is awaited and what comes stand in the line, or are owed to it
  pub split : (x f : ℕ) (fs : List ℕ) → in_line (s.lines x) ≡ f ∷ fs → (s.notes x).awaited ++ flits_of_all (s.notes x).parcels ≡ f ∷ (fs ++ (s.notes x).owed)
  split x f fs line = words.contiguous x ∙ ap (λ m. m ++ (s.notes x).owed) line

  -- a head at the front of the line begins the first packet
  pub heads : Routes n s → (x f : ℕ) (fs : List ℕ) → n.is_head f ≡ true → in_line (s.lines x) ≡ f ∷ fs → Heads n s x f
  heads routes x f fs bit line =
      let at : HasPopped (s.notes x).parcels (s.notes x).awaited f (fs ++ (s.notes x).owed) = pop_head n _ _ f _ (words.awaited x) bit (split x f fs line) in
      let k : Parcel = at.first in
      let On : Parcel → Type 0 = λ p. IsOn x (n.route p.source p.destination) in
      record {
        parcel = k;
        others = at.others;
        parcels = at.parcels;
        head = at.head;
        is = All-head (IsParcel n) k at.others (subst (All (IsParcel n)) at.parcels (words.parcels x));
        on = All-head On k at.others (subst (All On) at.parcels (routes.on_route x));
      }

  -- a further flit at the front of the line is the first that is awaited
  pub goes_on : (x f : ℕ) (fs : List ℕ) → n.is_head f ≡ false → in_line (s.lines x) ≡ f ∷ fs → (more : List ℕ) × ((s.notes x).awaited ≡ f ∷ more)
  goes_on x f fs bit line =
      let rest = pop_rest n (s.notes x).awaited (s.notes x).parcels f (fs ++ (s.notes x).owed) (words.parcels x) bit (split x f fs line) in
      (rest.0, rest.1)

  -- the router leads it to the next channel of its route
  pub leads : (net : IsNet n) (x y f : ℕ) → n.ejects x ≡ false → (at : Heads n s x f) → y ≡ n.next x (n.told f)
      → IsNext n net at.parcel.source at.parcel.destination at.is.joined x y
  leads net x y f input at output =
      next_on n net at.parcel.source at.parcel.destination at.is.joined x y (output ∙ ap (n.next x) (sym (sym at.is.told ∙ ap n.told at.head))) input at.on
