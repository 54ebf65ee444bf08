-- The state that tiles and row show is the state whose tiles and row they are.
use Rattle.std.proofs.Common.{◌≡◌, ◌≢◌, ⊎_elim, ℕ, zero, suc, ◌+◌, ◌*◌, ◌<◌, ◌≤◌, Bool, List, [], ◌∷◌, ◌++◌, map, length, Option, Some, None, refl, sym, ◌∙◌}
use Rattle.std.proofs.Common.{ap, subst, arith, slice_get, get_or, eq-eqb}
use Rattle.std.specs.Prelude.{if◌then◌else◌, option_map}
use Rattle.std.specs.List.{flat_map}
use Rattle.std.proofs.lemmas.Bool.{cases_eq, cond-true, ne_eqb}
use Rattle.std.proofs.lemmas.Option.{same_Some}
use Rattle.torus.specs.Shape.{IsAccepted, tiles_of}
use Rattle.channel_number.specs.Order.{channel_count}
use Rattle.flit_buffer.specs.Ends.{SendingEnd, ReceivingEnd}
use Rattle.flit_buffer.specs.Places.{receiving, sending}
use Rattle.flit_buffer.specs.Surroundings.{Surroundings, ring}
use Rattle.flit_buffer.proofs.SeenLaws.{surroundings_seen}
use Rattle.core_laws.specs.Agent.{Agent}
use Rattle.core_laws.specs.Agent.TheVariants.{Processor, Router, Bank}
use Rattle.core_laws.specs.Tile.{Design, TileState}
use Rattle.core_laws.specs.Agents.{TilePlace, wiring_of, state_of, tile_placed}
use Rattle.core_laws.specs.Refinement.{IsSurrounded}
use Rattle.core_laws.specs.Core.{State}
use Rattle.core_laws.proofs.RowRows.{row_shows}
use Rattle.one_order.proofs.Lists.{within_length}
use Rattle.flit_buffer.proofs.ManyRings.{apart}
use Rattle.flit_buffer.specs.Surroundings.{ShowsAll}
use Rattle.core_laws.specs.Seen.{receivers, senders, front_at, held_at, around_seen, state_seen, IsShown}
use Rattle.core_laws.proofs.Ends.{Stands, has_receiver, has_sender}

-- An end of the places that begin at a position shows a number; and there is such an end. Over ends of either kind.
module _ {E : Type 0} (base_of : E → ℕ) (told : E → ℕ) (base v : ℕ) where
  abbrev pub Told : List E → Type 0
  Told rs = (k : ℕ) (r : E) → slice_get rs k ≡ Some r → base_of r ≡ base → told r ≡ v

  abbrev pub Has : List E → Type 0
  Has rs = (k : ℕ) × (r : E) × (slice_get rs k ≡ Some r) × (base_of r ≡ base)

  pub told_cons : (x : E) (rest : List E) → (base_of x ≡ base → told x ≡ v) → Told rest
      → (k : ℕ) (r : E) → slice_get (x ∷ rest) k ≡ Some r → base_of r ≡ base → told r ≡ v
  told_cons x rest h t zero r e b = let is : x ≡ r = same_Some x r e in sym (ap told is) ∙ h (ap base_of is ∙ b)
  told_cons x rest h t (suc k) r e b = t k r e b

  pub told_both : (xs ys : List E) → Told xs → Told ys → Told (xs ++ ys)
  told_both [] ys f g = g
  told_both (x ∷ xs) ys f g = told_cons x (xs ++ ys) (f 0 x refl) (told_both xs ys (λ j q. f (suc j) q) g)

  pub has_left : (xs ys : List E) → Has xs → Has (xs ++ ys)
  has_left [] ys h = absurd (cc)
  has_left (x ∷ xs) ys (zero, r, e, b) = (0, r, e, b)
  has_left (x ∷ xs) ys (suc k, r, e, b) = let more = has_left xs ys (k, r, e, b) in (suc more.0, more.1, more.2, more.3)

  pub has_right : (xs ys : List E) → Has ys → Has (xs ++ ys)
  has_right [] ys h = h
  has_right (x ∷ xs) ys h = let more = has_right xs ys h in (suc more.0, more.1, more.2, more.3)

  pub told_all : {P : Type 0} (f : P → List E) (ps : List P) → ((t : ℕ) (p : P) → slice_get ps t ≡ Some p → Told (f p)) → Told (flat_map f ps)
  told_all f [] h = λ k r e b. absurd (cc)
  told_all f (p ∷ ps) h = told_both (f p) (flat_map f ps) (h 0 p refl) (told_all f ps (λ t q. h (suc t) q))

  pub has_at : {P : Type 0} (f : P → List E) (ps : List P) (t : ℕ) (p : P) → slice_get ps t ≡ Some p → Has (f p) → Has (flat_map f ps)
  has_at f [] t p e h = absurd (cc)
  has_at f (q ∷ ps) zero p e h = has_left (f q) (flat_map f ps) (subst (λ x. Has (f x)) (sym (same_Some q p e)) h)
  has_at f (q ∷ ps) (suc t) p e h = has_right (f q) (flat_map f ps) (has_at f ps t p e h)

-- an element of a mapped list
map_at : {A B : Type 0} (f : A → B) (d : A) (xs : List A) (i : ℕ) → i < length xs → slice_get (map f xs) i ≡ Some (f (get_or xs i d))
map_at f d [] i h = absurd (omega arith)
map_at f d (x ∷ xs) zero h = refl
map_at f d (x ∷ xs) (suc i) h = map_at f d xs i (omega arith)

-- what the first end of these places tells
front_told : (base v : ℕ) (rs : List ReceivingEnd) → Told (λ r. r.base) (λ r. r.next) base v rs → Has (λ r. r.base) (λ r. r.next) base v rs
    → front_at base rs ≡ v
front_told base v [] f (k, r, e, b) = absurd (cc)
front_told base v (x ∷ rs) f (k, r, e, b) = ⊎_elim
    (λ (same : x.base ≡ base). cond-true _ _ _ (eq-eqb x.base base same) ∙ f 0 x refl same)
    (λ (other : x.base ≢ base). ap (λ (t : Bool). if t then x.next else front_at base rs) (ne_eqb x.base base other)
    ∙ front_told base v rs (λ j q. f (suc j) q) (behind k e other))
    (cases_eq x.base base)
  where
    behind : (k : ℕ) → slice_get (x ∷ rs) k ≡ Some r → x.base ≢ base → Has (λ r. r.base) (λ r. r.next) base v rs
    behind zero e other = absurd (other (ap (λ (z : ReceivingEnd). z.base) (same_Some x r e) ∙ b))
    behind (suc k) e other = (k, r, e, b)

held_told : (base v : ℕ) (rs : List SendingEnd) → Told (λ r. r.base) (λ r. r.credits) base v rs → Has (λ r. r.base) (λ r. r.credits) base v rs
    → held_at base rs ≡ v
held_told base v [] f (k, r, e, b) = absurd (cc)
held_told base v (x ∷ rs) f (k, r, e, b) = ⊎_elim
    (λ (same : x.base ≡ base). cond-true _ _ _ (eq-eqb x.base base same) ∙ f 0 x refl same)
    (λ (other : x.base ≢ base). ap (λ (t : Bool). if t then x.credits else held_at base rs) (ne_eqb x.base base other)
    ∙ held_told base v rs (λ j q. f (suc j) q) (behind k e other))
    (cases_eq x.base base)
  where
    behind : (k : ℕ) → slice_get (x ∷ rs) k ≡ Some r → x.base ≢ base → Has (λ r. r.base) (λ r. r.credits) base v rs
    behind zero e other = absurd (other (ap (λ (z : SendingEnd). z.base) (same_Some x r e) ∙ b))
    behind (suc k) e other = (k, r, e, b)

-- channels of different numbers begin at different places
one_base : (depth x y : ℕ) → 0 < depth → y * depth ≡ x * depth → y ≡ x
one_base depth x y some e = ⊎_elim
    (λ (same : y ≡ x). same)
    (λ (other : y ≢ x). ⊎_elim
    (λ (low : y * depth + 0 < x * depth). absurd (omega (arith, low, e)))
    (λ (high : x * depth + depth ≤ y * depth + 0). absurd (omega (arith, high, e, some)))
    (apart depth y x 0 other some))
    (cases_eq y x)

-- the states in a list of tiles
same_states : (ps : List TilePlace) (ys : List TileState) → ((t : ℕ) → option_map state_of (slice_get ps t) ≡ slice_get ys t) → map state_of ps ≡ ys
same_states [] [] h = refl
same_states [] (y ∷ ys) h = let e : ◌≡◌ {A = Option TileState} None (Some y) = h 0 in absurd (cc)
same_states (p ∷ ps) [] h = let e : ◌≡◌ {A = Option TileState} (Some (state_of p)) None = h 0 in absurd (cc)
same_states (p ∷ ps) (y ∷ ys) h =
    ap (λ (z : TileState). z ∷ map state_of ps) (same_Some (state_of p) y (h 0)) ∙ ap (λ (zs : List TileState). y ∷ zs) (same_states ps ys (λ t. h (suc t)))

module _ (d : Design) (s : State) (ok : IsAccepted d.shape) (count : length s.tiles ≡ tiles_of d.shape) (network : IsSurrounded d s.around)
    (ps : List TilePlace) (row : List ℕ) (shown : IsShown d s ps row) where
  abbrev receiver : ℕ → ReceivingEnd
  receiver y = receiving (y * d.depth) d.depth (ring s.around.rings y)

  abbrev sender : ℕ → SendingEnd
  sender y = sending (y * d.depth) d.depth (ring s.around.rings y)

  -- a tile that is there stands in its place
  tile_there : (t : ℕ) (p : TilePlace) → slice_get ps t ≡ Some p → (tile : TileState) × (tile_placed d t tile s.around ≡ p)
  tile_there t p e = by_tile (slice_get s.tiles t) (sym (shown.tiles t) ∙ e)
    where
      by_tile : (o : Option TileState) → option_map (λ tile. tile_placed d t tile s.around) o ≡ Some p
          → (tile : TileState) × (tile_placed d t tile s.around ≡ p)
      by_tile None h = absurd (cc)
      by_tile (Some tile) h = (tile, same_Some _ _ h)

  -- and each tile is there
  place_there : (t : ℕ) → t < tiles_of d.shape → (tile : TileState) × (slice_get ps t ≡ Some (tile_placed d t tile s.around))
  place_there t low =
      let w = within_length s.tiles t (omega (arith, count, low)) in
      (w.0, shown.tiles t ∙ ap (λ (o : Option TileState). option_map (λ tile. tile_placed d t tile s.around) o) w.1)

  module _ (x : ℕ) (x_in : x < channel_count d.shape) where
    deep : 0 < d.depth
    deep = let k = network.rings x (subst (λ (n : ℕ). x < n) (sym network.count) x_in) in omega (arith, k.front)

    abbrev ToldR : List ReceivingEnd → Type 0
    ToldR = Told (λ r. r.base) (λ r. r.next) (x * d.depth) (ring s.around.rings x).front

    abbrev HasR : List ReceivingEnd → Type 0
    HasR = Has (λ r. r.base) (λ r. r.next) (x * d.depth) (ring s.around.rings x).front

    told_in : (ys : List ℕ) → ToldR (map receiver ys)
    told_in [] = λ k r e b. absurd (cc)
    told_in (y ∷ ys) =
        told_cons (λ (r : ReceivingEnd). r.base) (λ (r : ReceivingEnd). r.next) (x * d.depth) (ring s.around.rings x).front (receiver y) (map receiver ys)
        (λ b. ap (λ (n : ℕ). (ring s.around.rings n).front) (one_base d.depth x y deep b)) (told_in ys)

    has_in : (ys : List ℕ) → Stands x ys → HasR (map receiver ys)
    has_in ys (i, i_in, is) = (i, receiver (get_or ys i 0), map_at receiver 0 ys i i_in, ap (λ (n : ℕ). n * d.depth) is)

    told_tile : (t : ℕ) (tile : TileState) → ToldR (receivers (tile_placed d t tile s.around))
    told_tile t tile =
        told_both (λ (r : ReceivingEnd). r.base) (λ (r : ReceivingEnd). r.next) (x * d.depth) (ring s.around.rings x).front
        (map receiver (wiring_of d.shape t Processor).inputs)
        (map receiver (wiring_of d.shape t Router).inputs ++ map receiver (wiring_of d.shape t Bank).inputs)
        (told_in (wiring_of d.shape t Processor).inputs)
        (told_both (λ (r : ReceivingEnd). r.base) (λ (r : ReceivingEnd). r.next) (x * d.depth) (ring s.around.rings x).front
        (map receiver (wiring_of d.shape t Router).inputs) (map receiver (wiring_of d.shape t Bank).inputs) (told_in (wiring_of d.shape t Router).inputs)
        (told_in (wiring_of d.shape t Bank).inputs))

    has_tile : (t : ℕ) (a : Agent) (tile : TileState) → Stands x (wiring_of d.shape t a).inputs → HasR (receivers (tile_placed d t tile s.around))
    has_tile t Processor tile st =
        has_left (λ (r : ReceivingEnd). r.base) (λ (r : ReceivingEnd). r.next) (x * d.depth) (ring s.around.rings x).front
        (map receiver (wiring_of d.shape t Processor).inputs) _ (has_in (wiring_of d.shape t Processor).inputs st)
    has_tile t Router tile st =
        has_right (λ (r : ReceivingEnd). r.base) (λ (r : ReceivingEnd). r.next) (x * d.depth) (ring s.around.rings x).front
        (map receiver (wiring_of d.shape t Processor).inputs) _
        (has_left (λ (r : ReceivingEnd). r.base) (λ (r : ReceivingEnd). r.next) (x * d.depth) (ring s.around.rings x).front
        (map receiver (wiring_of d.shape t Router).inputs) _ (has_in (wiring_of d.shape t Router).inputs st))
    has_tile t Bank tile st =
        has_right (λ (r : ReceivingEnd). r.base) (λ (r : ReceivingEnd). r.next) (x * d.depth) (ring s.around.rings x).front
        (map receiver (wiring_of d.shape t Processor).inputs) _
        (has_right (λ (r : ReceivingEnd). r.base) (λ (r : ReceivingEnd). r.next) (x * d.depth) (ring s.around.rings x).front
        (map receiver (wiring_of d.shape t Router).inputs) _ (has_in (wiring_of d.shape t Bank).inputs st))

    pub front_is : front_at (x * d.depth) (flat_map receivers ps) ≡ (ring s.around.rings x).front
    front_is =
        let at = has_receiver d.shape ok x x_in in
        let place = place_there at.tile at.here in
        front_told (x * d.depth) (ring s.around.rings x).front (flat_map receivers ps)
        (told_all (λ (r : ReceivingEnd). r.base) (λ (r : ReceivingEnd). r.next) (x * d.depth) (ring s.around.rings x).front receivers ps
        (λ t p e. let k = tile_there t p e in subst (λ (q : TilePlace). ToldR (receivers q)) k.1 (told_tile t k.0)))
        (has_at (λ (r : ReceivingEnd). r.base) (λ (r : ReceivingEnd). r.next) (x * d.depth) (ring s.around.rings x).front receivers ps at.tile _ place.1
        (has_tile at.tile at.agent place.0 at.there))

    abbrev ToldS : List SendingEnd → Type 0
    ToldS = Told (λ r. r.base) (λ r. r.credits) (x * d.depth) (ring s.around.rings x).channel.held

    abbrev HasS : List SendingEnd → Type 0
    HasS = Has (λ r. r.base) (λ r. r.credits) (x * d.depth) (ring s.around.rings x).channel.held

    told_out : (ys : List ℕ) → ToldS (map sender ys)
    told_out [] = λ k r e b. absurd (cc)
    told_out (y ∷ ys) =
        told_cons (λ (r : SendingEnd). r.base) (λ (r : SendingEnd). r.credits) (x * d.depth) (ring s.around.rings x).channel.held (sender y) (map sender ys)
        (λ b. ap (λ (n : ℕ). (ring s.around.rings n).channel.held) (one_base d.depth x y deep b)) (told_out ys)

    has_out : (ys : List ℕ) → Stands x ys → HasS (map sender ys)
    has_out ys (i, i_in, is) = (i, sender (get_or ys i 0), map_at sender 0 ys i i_in, ap (λ (n : ℕ). n * d.depth) is)

    told_tile_out : (t : ℕ) (tile : TileState) → ToldS (senders (tile_placed d t tile s.around))
    told_tile_out t tile =
        told_both (λ (r : SendingEnd). r.base) (λ (r : SendingEnd). r.credits) (x * d.depth) (ring s.around.rings x).channel.held
        (map sender (wiring_of d.shape t Processor).outputs)
        (map sender (wiring_of d.shape t Router).outputs ++ map sender (wiring_of d.shape t Bank).outputs)
        (told_out (wiring_of d.shape t Processor).outputs)
        (told_both (λ (r : SendingEnd). r.base) (λ (r : SendingEnd). r.credits) (x * d.depth) (ring s.around.rings x).channel.held
        (map sender (wiring_of d.shape t Router).outputs) (map sender (wiring_of d.shape t Bank).outputs) (told_out (wiring_of d.shape t Router).outputs)
        (told_out (wiring_of d.shape t Bank).outputs))

    has_tile_out : (t : ℕ) (a : Agent) (tile : TileState) → Stands x (wiring_of d.shape t a).outputs → HasS (senders (tile_placed d t tile s.around))
    has_tile_out t Processor tile st =
        has_left (λ (r : SendingEnd). r.base) (λ (r : SendingEnd). r.credits) (x * d.depth) (ring s.around.rings x).channel.held
        (map sender (wiring_of d.shape t Processor).outputs) _ (has_out (wiring_of d.shape t Processor).outputs st)
    has_tile_out t Router tile st =
        has_right (λ (r : SendingEnd). r.base) (λ (r : SendingEnd). r.credits) (x * d.depth) (ring s.around.rings x).channel.held
        (map sender (wiring_of d.shape t Processor).outputs) _
        (has_left (λ (r : SendingEnd). r.base) (λ (r : SendingEnd). r.credits) (x * d.depth) (ring s.around.rings x).channel.held
        (map sender (wiring_of d.shape t Router).outputs) _ (has_out (wiring_of d.shape t Router).outputs st))
    has_tile_out t Bank tile st =
        has_right (λ (r : SendingEnd). r.base) (λ (r : SendingEnd). r.credits) (x * d.depth) (ring s.around.rings x).channel.held
        (map sender (wiring_of d.shape t Processor).outputs) _
        (has_right (λ (r : SendingEnd). r.base) (λ (r : SendingEnd). r.credits) (x * d.depth) (ring s.around.rings x).channel.held
        (map sender (wiring_of d.shape t Router).outputs) _ (has_out (wiring_of d.shape t Bank).outputs st))

    pub held_is : held_at (x * d.depth) (flat_map senders ps) ≡ (ring s.around.rings x).channel.held
    held_is =
        let at = has_sender d.shape ok x x_in in
        let place = place_there at.tile at.here in
        held_told (x * d.depth) (ring s.around.rings x).channel.held (flat_map senders ps)
        (told_all (λ (r : SendingEnd). r.base) (λ (r : SendingEnd). r.credits) (x * d.depth) (ring s.around.rings x).channel.held senders ps
        (λ t p e. let k = tile_there t p e in subst (λ (q : TilePlace). ToldS (senders q)) k.1 (told_tile_out t k.0)))
        (has_at (λ (r : SendingEnd). r.base) (λ (r : SendingEnd). r.credits) (x * d.depth) (ring s.around.rings x).channel.held senders ps at.tile _ place.1
        (has_tile_out at.tile at.agent place.0 at.there))

  -- the state that the tiles and the row show
  pub seen : state_seen d ps row ≡ s
  seen =
      let mk : List TileState → Surroundings → State = λ tiles around. record { tiles = tiles; around = around } in
      let tiles : map state_of ps ≡ s.tiles = same_states ps s.tiles (λ t. ap (option_map state_of) (shown.tiles t) ∙ again (slice_get s.tiles t) t) in
      let around : around_seen d ps row ≡ s.around =
      surroundings_seen row d.depth (channel_count d.shape) (λ x. front_at (x * d.depth) (flat_map receivers ps))
      (λ x. held_at (x * d.depth) (flat_map senders ps)) s.around network.count network.rings
      (subst (λ (r : List ℕ). ShowsAll r d.depth s.around) (sym shown.row_is) (row_shows d.depth s.around network.rings)) front_is held_is in
      ap (λ (z : List TileState). mk z (around_seen d ps row)) tiles ∙ ap (λ (z : Surroundings). mk s.tiles z) around
    where
      again : (o : Option TileState) (t : ℕ) → option_map state_of (option_map (λ tile. tile_placed d t tile s.around) o) ≡ o
      again None t = refl
      again (Some tile) t = refl
