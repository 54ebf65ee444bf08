-- What the wiring gives, and who owns an output.
use Rattle.std.proofs.Common.{◌≡◌, ◌↔◌, ℕ, zero, suc, ◌<◌, ◌==◌, Bool, true, false, List, [], ◌∷◌, Option, Some, None, refl, sym, ap, ap₂, slice_index_or}
use Rattle.std.proofs.Common.{eq-eqb, if◌then◌else◌}
use Rattle.std.specs.Prelude.{◌&&◌, ◌||◌}
use Rattle.std.specs.List.{list_any}
use Rattle.std.proofs.lemmas.Option.{same_Some}
use Rattle.torus.specs.Shape.{tiles_of, dims_of}
use Rattle.packet.specs.declared.heading.Head.{Head}
use Rattle.packet.specs.Flit.{field, class_numbered}
use Rattle.channel_number.specs.Order.{channel_count, channel_at}
use Rattle.packet.specs.Flits.{head_of}
use Rattle.core_laws.specs.Heads.{carries_route}
use Rattle.router.specs.Table.{RouterState, output_owned, is_owned, is_output, way_of}
use Rattle.channel_number.specs.Ports.{port_count, ejection_channel, input_channel, output_channel}
use Rattle.tile.specs.Tile.{Design}
use Rattle.core_laws.proofs.Projection.{net_of}

-- What is needed of the wiring: the channels at the routers' ports are there, each at one input and one output, and a router's way is the network's choice.
pub record IsWiredUp (d : Design) : Type 0 where
  pub inputs_within : (t i : ℕ) → t < tiles_of d.shape → i < port_count (dims_of d.shape) → input_channel d.shape t i < channel_count d.shape
  pub outputs_within : (t o : ℕ) → t < tiles_of d.shape → o < port_count (dims_of d.shape) → output_channel d.shape t o < channel_count d.shape
  pub inputs_apart : (t i u j : ℕ) → t < tiles_of d.shape → i < port_count (dims_of d.shape) → u < tiles_of d.shape → j < port_count (dims_of d.shape)
      → input_channel d.shape t i ≡ input_channel d.shape u j → (t ≡ u) × (i ≡ j)
  pub outputs_apart : (t o u p : ℕ) → t < tiles_of d.shape → o < port_count (dims_of d.shape) → u < tiles_of d.shape → p < port_count (dims_of d.shape)
      → output_channel d.shape t o ≡ output_channel d.shape u p → (t ≡ u) × (o ≡ p)
  pub inputs_lead : (t i : ℕ) → t < tiles_of d.shape → i < port_count (dims_of d.shape) → (net_of d).ejects (input_channel d.shape t i) ≡ false
  pub chosen : (t i : ℕ) (head : Head) → t < tiles_of d.shape → i < port_count (dims_of d.shape) → head.destination < tiles_of d.shape
      → (channel_at d.shape (input_channel d.shape t i)).class ≡ head.class
      → (way_of d.shape t i head < port_count (dims_of d.shape))
      × (output_channel d.shape t (way_of d.shape t i head)
      ≡ (net_of d).next (input_channel d.shape t i) (ejection_channel d.shape head.destination head.class))

-- no input owns what isn't owned
any_false : (owned : List (Option ℕ)) (i o : ℕ) → list_any (λ k. is_output k o) owned ≡ false → slice_index_or owned i None ≡ Some o → ⊥
any_false [] i o h e = let no : ◌≡◌ {A = Option ℕ} None (Some o) = e in cc
any_false (k ∷ owned) zero o h e = by_first k h e
  where
    by_first : (k : Option ℕ) → list_any (λ k. is_output k o) (k ∷ owned) ≡ false → k ≡ Some o → ⊥
    by_first None h e = cc
    by_first (Some p) h e = let same : p ≡ o = same_Some p o e in let yes' = eq-eqb p o same in cc
any_false (k ∷ owned) (suc i) o h e = by_first (is_output k o) h (λ g. any_false owned i o g e)
  where
    by_first : (b : Bool) → (b || list_any (λ k. is_output k o) owned) ≡ false → (list_any (λ k. is_output k o) owned ≡ false → ⊥) → ⊥
    by_first true h later = cc
    by_first false h later = later h

pub not_owned : (r : RouterState) (o : ℕ) → is_owned r o ≡ false → (i : ℕ) → output_owned r i ≡ Some o → ⊥
not_owned r o h i e = any_false r.owned i o h e

-- a head flit has the head bit, and tells what its fields say
pub record IsHeadOf (flit : ℕ) (head : Head) : Type 0 where
  pub bit : carries_route flit ≡ true
  pub destination : head.destination ≡ field flit 51 6
  pub class : head.class ≡ class_numbered (field flit 57 1)

pub head_told : (flit : ℕ) (head : Head) → head_of flit ≡ Some head → IsHeadOf flit head
head_told flit head h = by_bits (field flit 63 1 == 1) (field flit 61 1 == 1) refl refl h
  where
    by_bits : (a b : Bool) → (field flit 63 1 == 1) ≡ a → (field flit 61 1 == 1) ≡ b
        → (if a && b then Some (record { destination = field flit 51 6; class = class_numbered (field flit 57 1) }) else None) ≡ Some head → IsHeadOf flit head
    by_bits true true is one h =
        let e : ◌≡◌ {A = Head} (record { destination = field flit 51 6; class = class_numbered (field flit 57 1) }) head = same_Some _ _ h in
        record { bit = ap₂ (λ (x y : Bool). x && y) is one; destination = ap (λ (x : Head). x.destination) (sym e); class = ap (λ (x : Head). x.class) (sym e) }
    by_bits true false is one h = cc
    by_bits false b is one h = cc

-- who owns an output after a put: its input, unless the flit is a tail
abbrev pub owner_after : Bool → ℕ → Option ℕ
owner_after tail x = if tail then None else Some x

pub owner_same : (tail : Bool) (x o : ℕ) → (owner_after tail x ≡ Some x) ↔ (owner_after tail o ≡ Some o)
owner_same true x o = (λ h. absurd (cc), λ h. absurd (cc))
owner_same false x o = (λ h. refl, λ h. refl)

pub owner_only : (tail : Bool) (x y : ℕ) → owner_after tail x ≡ Some y → x ≡ y
owner_only true x y h = cc
owner_only false x y h = same_Some x y h

pub owner_none : (tail : Bool) (x o : ℕ) → (owner_after tail o ≡ Some o → ⊥) → owner_after tail x ≡ None
owner_none true x o h = refl
owner_none false x o h = absurd (h refl)
