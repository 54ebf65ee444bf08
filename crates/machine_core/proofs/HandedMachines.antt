-- A machine's fields once it is handed a line: they are those of the machine that the line makes.
use Rattle.std.proofs.Common.{◌≡◌, ◌≢◌, ⊎_elim, ℕ, ◌+◌, ◌*◌, ◌<◌, ◌≤◌, List, [], ◌∷◌, ◌++◌, length, take, Some, None, refl, sym, ◌∙◌, ap, subst}
use Rattle.std.proofs.Common.{arith, slice_get, slice_set, slice_index}
use Rattle.std.specs.Prelude.{Vec, sum}
use Rattle.std.proofs.lemmas.Bool.{cases_eq}
use Rattle.std.proofs.lemmas.List.{take_all}
use Rattle.std.proofs.lemmas.List.Sums.{sum_by_push}
use Rattle.std.proofs.lemmas.Option.{same_Some}
use Rattle.torus.specs.Shape.{tiles_of}
use Rattle.torus.specs.declared.step.Step.{Step}
use Rattle.script_lines.specs.declared.line.Line.{Line}
use Rattle.script_lines.specs.Lines.{operations_of, operation_count, total_count, script_of}
use Rattle.one_order.proofs.Lists.{get_set_same, get_set_other}
use Rattle.order_book.specs.RoomyBook.{RoomyBook, KeepsRoom}
use Rattle.one_order.specs.Homes.{line_home_count}
use Rattle.machine_parts.specs.Room.{home_room}
use Rattle.tile.specs.Tile.{Design}
use Rattle.machine_parts.specs.Placed.{PlacedTile}
use Rattle.machine_parts.specs.Core.{Load, State, design_of, after}
use Rattle.machine_parts.proofs.EveryRun.{holds_in}
use Rattle.machine_parts.specs.Machine.{Core, IsAfter}
use Rattle.machine_parts.specs.Seen.{IsShown, state_seen}
use Rattle.machine_parts.proofs.ReachedRows.{seen_state}
use Rattle.machine_parts.specs.ChoicesAsleep.{OtherChoicesSleep}
use Rattle.machine_parts.specs.Awake.{Awake, is_choice_awake, roused}
use Rattle.machine_parts.specs.Ports.{flags_of}
use Rattle.machine_parts.specs.Routers.{OtherPortsSleep}
use Rattle.machine_core.proofs.HandedPorts.{ports_handed}
use Rattle.machine_core.proofs.HandedChoices.{choices_handed}
use Rattle.machine_parts.specs.Appended.{load_with, MayFollow}
use Rattle.machine_parts.proofs.Places.{changed_set}
use Rattle.machine_parts.proofs.Loads.{total_with}
use Rattle.machine_parts.specs.Handed.{has_reported, handed, moves_kept, refused, BringsWords}
use Rattle.machine_parts.proofs.Handed.{stands}
use Rattle.machine_parts.specs.Grown.{tiles_given, AreAsReported}
use Rattle.machine_parts.proofs.Handing.{reported_there, core_is, shown_then, design_then, left_then}
use Rattle.machine_parts.proofs.Rooms.{homes_with, rooms_then}
use Rattle.machine_core.specs.declared.machine.Machine.TheInside.{Inside}
use Rattle.machine_core.specs.Inside.{design_in, places_in, core_of, HasRoomForScripts, IsMachine}
use Rattle.machine_core.proofs.Standing.{all_steps, design_is}
use Rattle.machine_core.proofs.Handing.{may as may_follow, own_is as own_counted, all_is as all_counted, tile_there as tile_is_there}

module _ {A : Type 0} (a : Inside A) (is : IsMachine a) (seen : Core) (view : core_of a ≡ seen) (p : ℕ) (first : Line) (none : refused seen p first ≡ None)
    (brings : BringsWords first) where
  abbrev l : Load
  l = is.load

  abbrev c : Core
  c = core_of a

  abbrev own : ℕ
  own = slice_index a.allowed.items p

  abbrev more : ℕ
  more = operations_of first

  may : MayFollow l p first
  may = may_follow a is seen view p first none brings

  tile_there : p < length a.tiles.items
  tile_there = tile_is_there a is seen view p first none brings

  own_is : own ≡ operation_count (script_of l.scripts p)
  own_is = own_counted a is seen view p first none brings

  all_is : sum a.allowed.items ≡ total_count l.scripts
  all_is = all_counted a is seen view p first none brings

  -- the book with room for the line
  module _ (home : ℕ) (others : (b : ℕ) → b ≢ home → line_home_count (tiles_of l.shape) b first ≡ 0) (g : RoomyBook) (keeps : KeepsRoom a.book g)
      (most : ℕ) (most_is : most ≡ own + more) (issues : most ≤ slice_index g.issues p) (home_tile : PlacedTile)
      (home_at : slice_get a.tiles.items home ≡ Some home_tile)
      (here : line_home_count (tiles_of l.shape) home first ≡ more)
      (positions : home_tile.room + more ≤ slice_index g.positions home) (rows : sum a.allowed.items + more ≤ g.rows) where
    abbrev l_with : Load
    l_with = load_with l p first

    abbrev longer : List Line
    longer = script_of l.scripts p ++ first ∷ []

    issues_then : (q : ℕ) (lines : List Line) → slice_get l_with.scripts q ≡ Some lines → operation_count lines ≤ slice_index g.issues q
    issues_then q lines at = ⊎_elim
        (λ (same : q ≡ p).
        let now : lines ≡ longer = same_Some _ _ (sym at ∙ (ap (slice_get l_with.scripts) same ∙ get_set_same l.scripts p longer may.there)) in
        let count = ap operation_count now ∙ sum_by_push operations_of (script_of l.scripts p) first in
        let e = own_is in
        let room = ap (λ (k : ℕ). slice_index g.issues k) same in
        omega (arith, count, e, room, most_is, issues))
        (λ (other : q ≢ p).
        let k = is.room.issues q lines (sym (get_set_other l.scripts p q longer other) ∙ at) in
        let r = keeps.issues q in
        omega (arith, k, r))
        (cases_eq q p)

    positions_then : (b : ℕ) → b < tiles_of l.shape → home_room (tiles_of l.shape) b l_with.scripts ≤ slice_index g.positions b
    positions_then b low =
        let grown = homes_with (tiles_of l.shape) b l.scripts p first may.there in
        ⊎_elim
        (λ (same : b ≡ home).
        let room = is.banks home home_tile home_at in
        let there : home_room (tiles_of l.shape) b l.scripts ≡ home_room (tiles_of l.shape) home l.scripts =
        ap (λ (k : ℕ). home_room (tiles_of l.shape) k l.scripts) same in
        let counted : line_home_count (tiles_of l.shape) b first ≡ line_home_count (tiles_of l.shape) home first =
        ap (λ (k : ℕ). line_home_count (tiles_of l.shape) k first) same in
        let slot = ap (λ (k : ℕ). slice_index g.positions k) same in
        omega (arith, grown, room, there, counted, slot, here, positions))
        (λ (other : b ≢ home).
        let k = is.room.positions b low in
        let r = keeps.positions b in
        let zero = others b other in
        omega (arith, grown, k, r, zero))
        (cases_eq b home)

    room_then : HasRoomForScripts l_with g
    room_then = record {
      issues = issues_then;
      positions = positions_then;
      rows =
          let total = total_with l p first may.there in
          let e = all_is in
          omega (arith, total, e, rows);
    }

    module _ (book : g.book ≡ a.book.book) (tiles : Vec PlacedTile A) (row : Vec ℕ A) (awake : Awake) (marks : ℕ)
        (now : (v : PlacedTile) → slice_get (tiles_given first p home a.tiles.items) p ≡ Some v
        → AreAsReported (tiles_given first p home a.tiles.items) tiles.items a.row.items row.items a.awake awake marks v.place.processor.state.reported)
        (allowed : Vec ℕ A) (allowed_is : allowed.items ≡ slice_set a.allowed.items p most) (left : ℕ) (left_is : left ≡ a.left + (marks + 241 * more))
        (woken : Awake) (woken_is : woken ≡ roused awake (3 * p)) where
      abbrev grown : Inside A
      grown = record {
        torus = a.torus;
        depth = a.depth;
        tags = a.tags;
        opening = a.opening;
        tiles = tiles;
        row = row;
        book = g;
        allowed = allowed;
        left = left;
        awake = woken;
        ports = a.ports;
      }

      as_reported : AreAsReported (tiles_given first p home a.tiles.items) tiles.items a.row.items row.items a.awake awake marks (has_reported c.state p)
      as_reported =
          let v = reported_there first p home a.tiles.items c.state refl tile_there in
          subst (AreAsReported (tiles_given first p home a.tiles.items) tiles.items a.row.items row.items a.awake awake marks) v.2 (now v.0 v.1)

      abbrev steps : List Step
      steps = moves_kept l c p is.steps

      after_then : IsAfter l_with (handed c p first) steps
      after_then = stands l c is.steps p first is.after may

      long : length c.state.around.words ≡ length c.opening + 1
      long =
          let size = (holds_in l is.after.accepted is.steps (length is.steps)).stands.size in
          let same = ap (λ (s : State). length s.around.words) (is.after.state ∙ sym (ap (after l) (all_steps a is))) in
          let words = ap (λ (ws : List ℕ). length ws) is.after.opening in
          omega (arith, size, same, words)

      shown_before : IsShown (design_in a) c.state (places_in a) a.row.items
      shown_before =
          subst (λ (s : State). IsShown (design_in a) s (places_in a) a.row.items) (sym is.after.state)
          (subst (λ (d : Design). IsShown d (after l is.steps) (places_in a) a.row.items) (sym (design_is a is)) is.seen)

      asleep_before : OtherChoicesSleep (design_in a) c.state (is_choice_awake a.awake)
      asleep_before =
          subst (λ (s : State). OtherChoicesSleep (design_in a) s (is_choice_awake a.awake)) (sym is.after.state)
          (subst (λ (d : Design). OtherChoicesSleep d (after l is.steps) (is_choice_awake a.awake)) (sym (design_is a is)) is.sleepers)

      shown_now : IsShown (design_of l) (after l_with steps) (places_in grown) row.items
      shown_now =
          subst (λ (s : State). IsShown (design_of l) s (places_in grown) row.items) after_then.state
          (subst (λ (d : Design). IsShown d (handed c p first).state (places_in grown) row.items) (design_is a is)
          (shown_then c p first home a.tiles.items tiles.items a.row.items row.items a.awake awake marks as_reported shown_before long))

      asleep_now : OtherChoicesSleep (design_of l) (after l_with steps) (is_choice_awake (roused awake (3 * p)))
      asleep_now =
          subst (λ (s : State). OtherChoicesSleep (design_of l) s (is_choice_awake (roused awake (3 * p)))) after_then.state
          (subst (λ (d : Design). OtherChoicesSleep d (handed c p first).state (is_choice_awake (roused awake (3 * p)))) (design_is a is)
          (choices_handed c p first home a.tiles.items tiles.items a.row.items row.items a.awake awake marks as_reported asleep_before))

      state_now : state_seen (design_in a) (places_in grown) row.items ≡ (handed c p first).state
      state_now =
          let all : take (length steps) steps ≡ steps = take_all (length steps) steps (omega arith) in
          ap (λ (d : Design). state_seen d (places_in grown) row.items) (design_is a is)
          ∙ (seen_state l_with after_then.accepted steps (length steps) (places_in grown) row.items
          (subst (λ (xs : List Step). IsShown (design_of l) (after l_with xs) (places_in grown) row.items) (sym all) shown_now)
          ∙ (ap (after l_with) all ∙ sym after_then.state))

      same_core_now : core_of grown ≡ handed c p first
      same_core_now =
          let summed : left ≡ a.left + marks + 241 * more = omega (arith, left_is) in
          core_is c p first allowed.items (state_seen (design_in a) (places_in grown) row.items) g.book left
          (allowed_is ∙ (ap (slice_set a.allowed.items p) most_is ∙ changed_set (λ (k : ℕ). k + more) a.allowed.items p 0)) state_now book
          (summed ∙ sym (left_then c p first home a.tiles.items tiles.items a.row.items row.items a.awake awake marks as_reported refl))

      -- it is the machine that is handed the line
      pub core_now : core_of grown ≡ handed seen p first
      core_now = same_core_now ∙ ap (λ (x : Core). handed x p first) view

      pub machine_now : IsMachine grown
      machine_now = record {
        load = l_with;
        steps = steps;
        after = subst (λ (x : Core). IsAfter l_with x steps) (sym same_core_now) after_then;
        seen = shown_now;
        banks = rooms_then (tiles_of l.shape) l.scripts p home first may.there here others a.tiles.items is.banks (has_reported c.state p) tiles.items
            a.row.items row.items a.awake awake marks as_reported;
        room = room_then;
        built = ap (λ (w : Awake). w.design) woken_is ∙
            (design_then c p first home a.tiles.items tiles.items a.row.items row.items a.awake awake marks as_reported ∙ is.built);
        sleepers = subst (λ (w : Awake). OtherChoicesSleep (design_of l) (after l_with steps) (is_choice_awake w)) (sym woken_is) asleep_now;
        routed = is.routed;
        ports = subst (λ (s : State). OtherPortsSleep (design_of l) s (flags_of a.ports)) after_then.state
            (ports_handed c p first (design_of l) (flags_of a.ports)
            (subst (λ (s : State). OtherPortsSleep (design_of l) s (flags_of a.ports)) (sym is.after.state) is.ports));
      }
