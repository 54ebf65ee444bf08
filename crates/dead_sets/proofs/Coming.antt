-- Channels that packets come to over free ones.
use Rattle.std.proofs.Common.{◌≡◌, ℕ, suc, ◌+◌, ◌*◌, ◌<◌, ◌≤◌, ◌&&◌, ◌||◌, not, Bool, true, false, List, [], ◌∷◌, length, refl, sym, ◌∙◌, ap}
use Rattle.std.specs.Prelude.{nat_lt, slice_get, slice_index, drop, ◌==◌}
use Rattle.std.proofs.lemmas.Bool.{ltb-true, lt-ltb, le-ltb, eqb-false, ne_eqb, and_parts}
use Rattle.std.proofs.Math.Seq.{drop-cons}
use Rattle.network_judge.specs.declared.table.Kind.{Kind}
use Rattle.network_judge.specs.declared.table.Join.{Join}
use Rattle.network_judge.specs.Table.{is_receiver}
use Rattle.network_judge.specs.TableNet.{Flits}
use Rattle.network_judge.specs.Marks.{is_marked_at}
use Rattle.network_adaptive.specs.Choices.{AdaptiveNet, Comes, BeginsIn, ByChoice}
use Rattle.network_adaptive.specs.Spread.{names, opens, leads_on, choice_step}
use Rattle.network_adaptive.specs.Choosing.{ChoiceTable, base_of, network, IsShaped}
use Rattle.network_adaptive.proofs.Flags.{not_true}
use Rattle.network_adaptive.proofs.Ways.{NoneNamed, none_names, names_at, step_from, and_none}
use Rattle.network_adaptive.proofs.Bridge.{step_goes, goes_step}
use Rattle.network_adaptive.proofs.Rising.{adaptive_is}
use Rattle.deadlock_laws.specs.Fillings.{Filling, IsWayTo, AreFree, is_occupied}
use Rattle.dead_sets.specs.FillingFlags.{comes_by}

pub or_false : (a b : Bool) → (a || b) ≡ false → (a ≡ false) × (b ≡ false)
or_false true b e = cc
or_false false b e = (refl, e)

pub false_or_false : (a b : Bool) → a ≡ false → b ≡ false → (a || b) ≡ false
false_or_false true b e h = e
false_or_false false b e h = h

pub false_and : (a b : Bool) → a ≡ false → (a && b) ≡ false
false_and a b e = ap (λ c. c && b) e

-- steps from a channel
module _ (kinds : List Kind) (choices : List ℕ) (base ways : ℕ) where
  pub no_step : (x y m : ℕ) → m ≡ ways → NoneNamed choices (base + x * ways) m y → choice_step kinds choices base ways [] x y ≡ false
  no_step x y m e none =
      and_none (leads_on kinds x) (opens (length kinds) choices (base + x * ways) ways [] y)
      (and_none (nat_lt y (length kinds)) (not (is_marked_at [] y) && names choices (base + x * ways) ways y)
      (and_none (not (is_marked_at [] y)) (names choices (base + x * ways) ways y) (none_names choices (base + x * ways) ways m y e none)))

  pub no_step_beyond : (x y : ℕ) → length kinds ≤ y → choice_step kinds choices base ways [] x y ≡ false
  no_step_beyond x y high =
      and_none (leads_on kinds x) (opens (length kinds) choices (base + x * ways) ways [] y)
      (false_and (nat_lt y (length kinds)) (not (is_marked_at [] y) && names choices (base + x * ways) ways y) (le-ltb y (length kinds) high))

  pub no_step_at_end : (x y : ℕ) → leads_on kinds x ≡ false → choice_step kinds choices base ways [] x y ≡ false
  no_step_at_end x y e = false_and (leads_on kinds x) (opens (length kinds) choices (base + x * ways) ways [] y) e

  pub step_at : (x y k : ℕ) → leads_on kinds x ≡ true → y < length kinds → k < ways → slice_index choices (base + x * ways + k) ≡ y
      → choice_step kinds choices base ways [] x y ≡ true
  step_at x y k leads low place e = step_from kinds choices base ways [] x y leads low refl (names_at choices (base + x * ways) ways k y place e)

-- one channel after the other
module _ (kinds : List Kind) (joins : List Join) (choices : List ℕ) (base ways : ℕ) (taken : List Bool) (j goal : ℕ) where
  abbrev comes : ℕ → List ℕ → Bool
  comes = comes_by kinds joins choices base ways taken j goal

  abbrev step : ℕ → ℕ → Bool
  step = choice_step kinds choices base ways []

  abbrev shut : ℕ → Bool
  shut x = x == goal || is_marked_at taken x

  pub stop_beyond : (y x : ℕ) (xs : List ℕ) → length kinds ≤ x → comes y (x ∷ xs) ≡ false
  stop_beyond y x xs high = false_and (nat_lt x (length kinds)) (not (shut x) && (step x y && comes x xs)) (le-ltb x (length kinds) high)

  pub stop_shut : (y x : ℕ) (xs : List ℕ) → shut x ≡ true → comes y (x ∷ xs) ≡ false
  stop_shut y x xs e = and_none (nat_lt x (length kinds)) (not (shut x) && (step x y && comes x xs)) (ap (λ b. not b && (step x y && comes x xs)) e)

  pub stop_step : (y x : ℕ) (xs : List ℕ) → step x y ≡ false → comes y (x ∷ xs) ≡ false
  stop_step y x xs e =
      and_none (nat_lt x (length kinds)) (not (shut x) && (step x y && comes x xs))
      (and_none (not (shut x)) (step x y && comes x xs) (false_and (step x y) (comes x xs) e))

  pub go_on : (y x : ℕ) (xs : List ℕ) → x < length kinds → shut x ≡ false → step x y ≡ true → comes y (x ∷ xs) ≡ comes x xs
  go_on y x xs low e s =
      ap (λ b. b && (not (shut x) && (step x y && comes x xs))) (lt-ltb x (length kinds) low)
      ∙ (ap (λ b. not b && (step x y && comes x xs)) e ∙ ap (λ b. b && comes x xs) s)

  -- the channel at a place
  pub at_place : (before : List ℕ) (k y x : ℕ) → k < length before → slice_index before k ≡ x → comes y (drop k before) ≡ comes y (x ∷ drop (suc k) before)
  at_place before k y x low e = ap (comes y) (drop-cons before k 0 low ∙ ap (λ z. z ∷ drop (suc k) before) e)

  pub go_parts : (y x : ℕ) (xs : List ℕ) → comes y (x ∷ xs) ≡ true → (x < length kinds) × (shut x ≡ false) × (step x y ≡ true) × (comes x xs ≡ true)
  go_parts y x xs e =
      let a = and_parts (nat_lt x (length kinds)) (not (shut x) && (step x y && comes x xs)) e in
      let b = and_parts (not (shut x)) (step x y && comes x xs) a.1 in
      let d = and_parts (step x y) (comes x xs) b.1 in
      (ltb-true x (length kinds) a.0, not_true (shut x) b.0, d.0, d.1)

-- what this tells of the network
module _ (t : ChoiceTable) (depth : ℕ) (flits : Flits) where
  abbrev n : AdaptiveNet
  n = network t depth flits

  abbrev comes_to : List Bool → ℕ → ℕ → ℕ → List ℕ → Bool
  comes_to taken j = comes_by t.kinds t.joins t.choices (base_of t j) t.ways taken j

  pub way_of : (taken : List Bool) (j goal y : ℕ) (xs : List ℕ) → comes_to taken j goal y xs ≡ true → IsWayTo n j y xs
  way_of taken j goal y [] e = e
  way_of taken j goal y (x ∷ xs) e =
      let p = go_parts t.kinds t.joins t.choices (base_of t j) t.ways taken j goal y x xs e in
      (step_goes t [] (λ z. refl) depth flits j x y p.2, way_of taken j goal x xs p.3)

  pub free_of : (fs : List Filling) (taken : List Bool) → ((x : ℕ) → is_marked_at taken x ≡ is_occupied fs x)
      → (j goal y : ℕ) (xs : List ℕ) → comes_to taken j goal y xs ≡ true → AreFree fs goal xs
  free_of fs taken tell j goal y [] e = tt
  free_of fs taken tell j goal y (x ∷ xs) e =
      let p = go_parts t.kinds t.joins t.choices (base_of t j) t.ways taken j goal y x xs e in
      let s = or_false (x == goal) (is_marked_at taken x) p.1 in
      (sym (tell x) ∙ s.1, eqb-false x goal s.0, free_of fs taken tell j goal x xs p.3)

  way_comes : (j y : ℕ) (xs : List ℕ) → IsWayTo n j y xs → Comes n j y
  way_comes j y [] w = BeginsIn y w
  way_comes j y (x ∷ xs) w = ByChoice x y (way_comes j x xs w.1) w.0

  pub way_ends : IsShaped t → (j y : ℕ) (xs : List ℕ) → IsWayTo n j y xs → is_receiver (slice_get t.kinds j) ≡ true
  way_ends shaped j y [] w = (adaptive_is t depth flits shaped).receivers y j w
  way_ends shaped j y (x ∷ xs) w = way_ends shaped j x xs w.1

  pub way_low : IsShaped t → (j y : ℕ) (xs : List ℕ) → IsWayTo n j y xs → y < length t.kinds
  way_low shaped j y xs w = (adaptive_is t depth flits shaped).within j y (way_comes j y xs w)

  pub way_back : IsShaped t → (fs : List Filling) (taken : List Bool) → ((x : ℕ) → is_marked_at taken x ≡ is_occupied fs x)
      → (j goal y : ℕ) (xs : List ℕ) → IsWayTo n j y xs → AreFree fs goal xs → comes_to taken j goal y xs ≡ true
  way_back shaped fs taken tell j goal y [] w free = w
  way_back shaped fs taken tell j goal y (x ∷ xs) w free =
      go_on t.kinds t.joins t.choices (base_of t j) t.ways taken j goal y x xs (way_low shaped j x xs w.1)
      (false_or_false (x == goal) (is_marked_at taken x) (ne_eqb x goal free.1) (tell x ∙ free.0))
      (goes_step t [] (λ z. refl) depth flits j x y w.0)
      ∙ way_back shaped fs taken tell j goal x xs w.1 free.2
