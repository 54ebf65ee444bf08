-- A machine's fields after an attempt that is enabled: they are those of the machine that the attempt makes.
use Rattle.std.proofs.Common.{◌≡◌, ◌≢◌, ⊎_elim, ℕ, ◌-◌, ◌<◌, ◌≤◌, List, [], ◌∷◌, ◌++◌, length, map, take, Option, Some, None, refl, sym, ◌∙◌, ap, subst, arith}
use Rattle.std.proofs.Common.{slice_get, slice_set}
use Rattle.std.specs.Prelude.{Vec, MatchOption, option_and_then}
use Rattle.std.proofs.lemmas.Bool.{cases_eq}
use Rattle.std.proofs.lemmas.List.{map-set, length-set, take_all}
use Rattle.std.proofs.lemmas.Option.{slice_get_within, same_Some}
use Rattle.torus.specs.Shape.{Shape, tiles_of}
use Rattle.torus.specs.declared.step.Step.{Step}
use Rattle.torus.specs.declared.step.Stepped.TheVariants.{Moved}
use Rattle.script_lines.specs.Lines.{operation_count}
use Rattle.home_bank.specs.declared.entry.Entry.{Entry}
use Rattle.one_order.specs.declared.answer.Answer.{Answer}
use Rattle.one_order.specs.Events.{Event}
use Rattle.one_order.specs.Observed.{list_at}
use Rattle.one_order.proofs.Lists.{get_set_same, get_set_other}
use Rattle.one_order.specs.ProcessorRecord.{ProcessorRecord}
use Rattle.machine_parts.specs.EventBook.{EventBook, noted_event}
use Rattle.machine_parts.specs.Room.{home_room}
use Rattle.flit_buffer.specs.Tries.{performed_by}
use Rattle.flit_buffer.specs.declared.word_op.WordOp.{WordOp}
use Rattle.machine_parts.specs.Attempts.{step_op}
use Rattle.order_book.specs.RoomyBook.{RoomyBook, KeepsRoom}
use Rattle.machine_parts.specs.Rounds.{moves_in, one_if_moved}
use Rattle.tile.specs.Tile.{Design}
use Rattle.tile.specs.Agents.{TilePlace, state_of, tile_next_op, agent_kind, agent_tile}
use Rattle.machine_parts.specs.Placed.{PlacedTile, with_place, tile_attempted}
use Rattle.machine_parts.specs.Core.{Load, State, design_of, step, or_same, first_state, after, records_of}
use Rattle.machine_parts.specs.Seen.{IsShown, state_seen}
use Rattle.machine_parts.proofs.ReachedRows.{seen_state}
use Rattle.machine_parts.specs.Machine.{Core, IsAfter, built_to, machine_told, event_in, core_with, core_next}
use Rattle.machine_parts.proofs.Books.{after_append}
use Rattle.machine_parts.proofs.Machines.{after_step}
use Rattle.machine_parts.proofs.Moves.{most_left}
use Rattle.machine_parts.specs.Notes.{FitsLoad, RoomToNoteService, RoomToNoteAnswer, book_noted, index_served}
use Rattle.machine_parts.proofs.Notes.{book_fits, noted_is, room_to_issue, room_to_serve, room_to_answer}
use Rattle.machine_core.specs.declared.machine.Machine.TheInside.{Inside}
use Rattle.machine_core.specs.Noted.{HasRoomForIssue, HasRoomForService, HasRoomToNote, counts_of, records_in}
use Rattle.machine_core.specs.Inside.{design_in, places_in, core_of, HaveRoom, HasRoomForScripts, IsMachine}
use Rattle.machine_parts.specs.Awake.{Awake, is_choice_awake, awake_after as after_move}
use Rattle.machine_parts.specs.Ports.{AwakePorts, flags_of}
use Rattle.machine_parts.specs.Routers.{PortFlags, OtherPortsSleep}
use Rattle.machine_core.proofs.RouterFlags.{FollowMove, ports_kept}
use Rattle.machine_parts.specs.ChoicesAsleep.{OtherChoicesSleep}
use Rattle.machine_core.proofs.Fields.{Led, state_at, records_shown, with_parts, core_by}
use Rattle.machine_core.proofs.Standing.{design_is, book_is, tiles_counted}
use Rattle.machine_parts.proofs.KeptSleepers as kept
use Rattle.machine_core.proofs.Attempting.{step_is, event_is, place_there, leads}

module _ {A : Type 0} (a : Inside A) (is : IsMachine a) where
  abbrev l : Load
  l = is.load

  abbrev s : State
  s = after l is.steps

  module _ (attempt : Step) where
    abbrev t : ℕ
    t = agent_tile attempt.agent

    abbrev event : Event
    event = event_in (design_of l) s attempt

    module _ (v : PlacedTile) (there : slice_get a.tiles.items t ≡ Some v) where
      moves : (o : Option TilePlace) (q : TilePlace) → o ≡ Some q
          → MatchOption o ((step (design_of l) s attempt ≡ None) × (performed_by a.row.items (tile_next_op v.place attempt) ≡ a.row.items))
          (λ q. (next : State) × (step (design_of l) s attempt ≡ Some next)
          × IsShown (design_of l) next (slice_set (places_in a) t q) (performed_by a.row.items (tile_next_op v.place attempt)))
          → (next : State) × (step (design_of l) s attempt ≡ Some next)
          × IsShown (design_of l) next (slice_set (places_in a) t q) (performed_by a.row.items (tile_next_op v.place attempt))
      moves None q e h = absurd (cc)
      moves (Some p) q e h = (
        h.0,
        h.1,
        subst (λ (x : TilePlace). IsShown (design_of l) h.0 (slice_set (places_in a) t x) (performed_by a.row.items (tile_next_op v.place attempt)))
            (same_Some _ _ e) h.2,
      )

      module _ (q : TilePlace) (attempted : tile_attempted v.place attempt a.row.items ≡ Some q) (w : PlacedTile) (new_tile : w ≡ with_place v q)
          (tiles : List PlacedTile) (tiles_are : tiles ≡ slice_set a.tiles.items t w)
          (row : List ℕ) (row_is : row ≡ performed_by a.row.items (tile_next_op v.place attempt)) where
        led : (next : State) × (step (design_of l) s attempt ≡ Some next)
            × IsShown (design_of l) next (slice_set (places_in a) t q) (performed_by a.row.items (tile_next_op v.place attempt))
        led = moves (tile_attempted v.place attempt a.row.items) q attempted (leads a is attempt v there)

        abbrev next : State
        next = led.0

        places_are : map (λ (x : PlacedTile). x.place) tiles ≡ slice_set (places_in a) t q
        places_are =
            ap (map (λ (x : PlacedTile). x.place)) (tiles_are ∙ ap (slice_set a.tiles.items t) new_tile)
            ∙ map-set (λ (x : PlacedTile). x.place) a.tiles.items t (with_place v q)

        next_after : after l (is.steps ++ attempt ∷ []) ≡ next
        next_after = after_append (design_of l) (first_state l) is.steps (attempt ∷ []) ∙ ap (or_same s) led.1

        shown_after : IsShown (design_of l) (after l (is.steps ++ attempt ∷ [])) (map (λ (x : PlacedTile). x.place) tiles) row
        shown_after =
            subst (λ (x : State). IsShown (design_of l) x (map (λ (x : PlacedTile). x.place) tiles) row) (sym next_after)
            (subst (λ (ps : List TilePlace). IsShown (design_of l) next ps row) (sym places_are)
            (subst (λ (ws : List ℕ). IsShown (design_of l) next (slice_set (places_in a) t q) ws) (sym row_is) led.2))

        -- the tiles and the row show the next state
        next_seen : state_seen (design_of l) (map (λ (x : PlacedTile). x.place) tiles) row ≡ next
        next_seen =
            let more : List Step = is.steps ++ attempt ∷ [] in
            let all : take (length more) more ≡ more = take_all (length more) more (omega arith) in
            seen_state l is.after.accepted more (length more) (map (λ (x : PlacedTile). x.place) tiles) row
            (subst (λ (xs : List Step). IsShown (design_of l) (after l xs) (map (λ (x : PlacedTile). x.place) tiles) row) (sym all) shown_after)
            ∙ (ap (after l) all ∙ next_after)

        new_there : slice_get tiles t ≡ Some (with_place v q)
        new_there = ap (λ (vs : List PlacedTile). slice_get vs t) (tiles_are ∙ ap (slice_set a.tiles.items t) new_tile)
            ∙ get_set_same a.tiles.items t (with_place v q) (slice_get_within a.tiles.items t v there)

        old_state : slice_get s.tiles t ≡ Some (state_of v.place)
        old_state = state_at (design_of l) s (places_in a) a.row.items is.seen t v.place (place_there a is attempt v there)

        new_state : slice_get next.tiles t ≡ Some (state_of q)
        new_state = state_at (design_of l) next (slice_set (places_in a) t q) (performed_by a.row.items (tile_next_op v.place attempt)) led.2 t q
            (get_set_same (places_in a) t q (slice_get_within (places_in a) t v.place (place_there a is attempt v there)))

        records_are : records_in tiles ≡ records_of next
        records_are = records_shown tiles ∙ ap records_of next_seen

        book_fits_now : FitsLoad l a.book.book
        book_fits_now = subst (FitsLoad l) (sym (book_is a is)) (book_fits l is.after.accepted is.steps)

        tiles_long : length tiles ≡ tiles_of l.shape
        tiles_long = ap (λ (vs : List PlacedTile). length vs) tiles_are ∙ (length-set a.tiles.items t w ∙ (tiles_counted a is))

        can_issue : length v.place.processor.state.operations.issued < length q.processor.state.operations.issued → HasRoomForIssue a.book t
        can_issue more =
            let k = room_to_issue l is.after.accepted is.steps attempt next led.1 (state_of v.place) (state_of q) old_state new_state more in
            let reserved = is.room.issues t k.lines k.script in
            let short = subst (λ (g : EventBook). length (list_at g.issues t) < operation_count k.lines) (sym (book_is a is)) k.issues in
            record {
              processor = subst (λ (g : EventBook). t < length g.issues) (sym (book_is a is)) k.processor;
              room = omega (arith, short, reserved);
            }

        can_serve : (e : Entry) → slice_get q.bank.state.entries (length v.place.bank.state.entries) ≡ Some e
            → (e.source < length tiles) × HasRoomForService a.book t e.source (index_served (records_in tiles) e)
        can_serve e new =
            let k = subst (λ (g : EventBook). RoomToNoteService l g t e.source (index_served (records_of next) e)) (sym (book_is a is))
            (room_to_serve l is.after.accepted is.steps attempt next led.1 (state_of v.place) (state_of q) old_state new_state e new) in
            let fits = book_fits_now in
            let long = tiles_long in
            let total = is.room.rows in
            let short : t < tiles_of l.shape = omega (arith, k.bank, fits.positions) in
            let reserved = is.room.positions t short in (
              omega (arith, k.source_in, fits.issues, long),
              record {
                bank = k.bank;
                source = k.source_in;
                index = subst (λ (bs : List ProcessorRecord). index_served bs e < length (list_at a.book.book.issues e.source)) (sym records_are) k.index_in;
                place = omega (arith, k.positions, reserved);
                services = omega (arith, k.services, fits.operations);
                room = omega (arith, k.rows, total);
                rows = omega (arith, k.rows, fits.operations);
              },
            )

        can_answer : (x : Answer) → slice_get q.processor.state.operations.answers (length v.place.processor.state.operations.answers) ≡ Some x
            → RoomToNoteAnswer a.book.book x.bank x.place
        can_answer x new = subst (λ (g : EventBook). RoomToNoteAnswer g x.bank x.place) (sym (book_is a is))
            (room_to_answer l is.after.accepted is.steps attempt next led.1 (state_of v.place) (state_of q) old_state new_state x new)

        -- the book has room for what is noted
        pub can_note : HasRoomToNote tiles t (counts_of v) a.book
        can_note = record {
          issue = λ x at more. can_issue
              (subst (λ (y : PlacedTile). length v.place.processor.state.operations.issued < length y.place.processor.state.operations.issued) (at_new x at)
              more);
          answer = λ x at e new. can_answer e
              (ap (λ (y : PlacedTile). slice_get y.place.processor.state.operations.answers (length v.place.processor.state.operations.answers))
              (sym (at_new x at)) ∙ new);
          service = λ x at e new. can_serve e
              (ap (λ (y : PlacedTile). slice_get y.place.bank.state.entries (length v.place.bank.state.entries)) (sym (at_new x at)) ∙ new);
          events = let fits = book_fits_now in omega (arith, fits.events, fits.operations);
        }
          where
            at_new : (x : PlacedTile) → slice_get tiles t ≡ Some x → x ≡ with_place v q
            at_new x at = same_Some _ _ (sym at ∙ new_there)

        -- the book with what is noted is that of the event
        book_led : (g : RoomyBook)
            → ((x : PlacedTile) → slice_get tiles t ≡ Some x
            → g.book ≡ book_noted t (records_in tiles) (length v.place.processor.state.operations.issued)
            (length v.place.processor.state.operations.answers) (length v.place.bank.state.entries) (state_of x.place) a.book.book)
            → g.book ≡ noted_event (tiles_of l.shape) a.book.book event
        book_led g noted =
            noted (with_place v q) new_there
            ∙ (ap (λ (bs : List ProcessorRecord). book_noted t bs (length v.place.processor.state.operations.issued)
            (length v.place.processor.state.operations.answers) (length v.place.bank.state.entries) (state_of q) a.book.book) records_are
            ∙ noted_is l is.after.accepted is.steps attempt next led.1 (state_of v.place) (state_of q) old_state new_state a.book.book)

        next_is : step (built_to (core_of a)) (core_of a).state attempt ≡ Some next
        next_is = (step_is a is attempt) ∙ led.1

        -- a move is left
        pub one_left : 0 < a.left
        one_left =
            let most : moves_in (step (built_to (core_of a))) (core_of a).state (attempt ∷ []) ≤ a.left =
            most_left l (core_of a) is.steps is.after (attempt ∷ []) in
            let one : one_if_moved (step (built_to (core_of a)) (core_of a).state attempt) ≡ 1 = ap one_if_moved next_is in
            omega (arith, most, one)

        core_led : (g : EventBook) → g ≡ noted_event (tiles_of l.shape) a.book.book event
            → core_by a (state_seen (design_in a) (map (λ (x : PlacedTile). x.place) tiles) row) g (a.left - 1) ≡ core_next (core_of a) attempt
        core_led g noted =
            ap (λ (x : State). core_by a x g (a.left - 1))
            (ap (λ (d : Design). state_seen d (map (λ (x : PlacedTile). x.place) tiles) row) (design_is a is) ∙ next_seen)
            ∙ (ap (λ (b : EventBook). core_by a next b (a.left - 1))
            (noted ∙ (ap (λ (x : Shape). noted_event (tiles_of x) a.book.book event) (sym is.after.shape)
            ∙ ap (noted_event (tiles_of a.torus) a.book.book) (sym (event_is a is attempt))))
            ∙ sym (ap (core_with (core_of a) (event_in (built_to (core_of a)) (core_of a).state attempt)) next_is))

        banks_led : HaveRoom l tiles
        banks_led b x at = ⊎_elim
            (λ (same : b ≡ t).
            let new : x ≡ with_place v q = same_Some _ _ (sym at ∙ (ap (slice_get tiles) same ∙ new_there)) in
            ap (λ (y : PlacedTile). y.room) new ∙ (is.banks t v there ∙ ap (λ (k : ℕ). home_room (tiles_of l.shape) k l.scripts) (sym same)))
            (λ (other : b ≢ t). is.banks b x (sym (ap (λ (vs : List PlacedTile). slice_get vs b) tiles_are ∙ get_set_other a.tiles.items t b w other) ∙ at))
            (cases_eq b t)

        room_led : (g : RoomyBook) → KeepsRoom a.book g → HasRoomForScripts l g
        room_led g keeps = record {
          issues = λ p lines script. omega (arith, is.room.issues p lines script, keeps.issues p);
          positions = λ b short. omega (arith, is.room.positions b short, keeps.positions b);
          rows = omega (arith, is.room.rows, keeps.rows);
        }

        asked_by : (op : WordOp) → tile_next_op v.place attempt ≡ Some op → step_op (design_of l) s attempt ≡ Some op
        asked_by op asked = ap (option_and_then (λ (p : TilePlace). tile_next_op p attempt)) (sym (is.seen.tiles t) ∙ (place_there a is attempt v there)) ∙ asked

        -- no choice of a router is enabled that doesn't count as awake
        ports_led : (op : WordOp) → tile_next_op v.place attempt ≡ Some op → (ports : AwakePorts)
            → FollowMove (agent_kind attempt.agent) a.ports ports t attempt.choice op
            → OtherPortsSleep (design_of l) (after l (is.steps ++ attempt ∷ [])) (flags_of ports)
        ports_led op asked ports ports_are =
            subst (λ (x : State). OtherPortsSleep (design_of l) x (flags_of ports)) (sym next_after)
            (subst (λ (f : PortFlags). OtherPortsSleep (design_of l) next f) (sym ports_are.flags)
            (ports_kept l is.after.accepted is.steps attempt op next a.ports is.routed is.ports (asked_by op asked) led.1 (agent_kind attempt.agent) refl))

        -- who doesn't count as awake is asleep
        sleepers_led : (op : WordOp) → tile_next_op v.place attempt ≡ Some op → (awake : Awake) → awake ≡ after_move a.awake attempt.agent op
            → OtherChoicesSleep (design_of l) (after l (is.steps ++ attempt ∷ [])) (is_choice_awake awake)
        sleepers_led op asked awake awake_is =
            let by = asked_by op asked in
            subst (λ (x : State). OtherChoicesSleep (design_of l) x (is_choice_awake awake)) (sym next_after)
            (subst (λ (w : Awake). OtherChoicesSleep (design_of l) next (is_choice_awake w)) (sym awake_is)
            (kept.moved l is.after.accepted is.steps attempt op next a.awake is.built is.sleepers by led.1))

      -- the fields after an attempt that is enabled
      pub moved : (q : TilePlace) → tile_attempted v.place attempt a.row.items ≡ Some q → (w : PlacedTile) → w ≡ with_place v q
          → (tiles : Vec PlacedTile A) → tiles.items ≡ slice_set a.tiles.items t w
          → (row : Vec ℕ A) → row.items ≡ performed_by a.row.items (tile_next_op v.place attempt)
          → (g : RoomyBook) → KeepsRoom a.book g
          → ((x : PlacedTile) → slice_get tiles.items t ≡ Some x
          → g.book ≡ book_noted t (records_in tiles.items) (length v.place.processor.state.operations.issued)
          (length v.place.processor.state.operations.answers) (length v.place.bank.state.entries) (state_of x.place) a.book.book)
          → (op : WordOp) → tile_next_op v.place attempt ≡ Some op → (awake : Awake) → awake ≡ after_move a.awake attempt.agent op
          → (ports : AwakePorts) → FollowMove (agent_kind attempt.agent) a.ports ports t attempt.choice op
          → Led a (with_parts a tiles row g awake ports (a.left - 1)) Moved attempt
      moved q attempted w new_tile tiles tiles_are row row_is g keeps noted op asked awake awake_is ports ports_are =
          let change : core_of (with_parts a tiles row g awake ports (a.left - 1)) ≡ core_next (core_of a) attempt =
          core_led q attempted w new_tile tiles.items tiles_are row.items row_is g.book
          (book_led q attempted w new_tile tiles.items tiles_are row.items row_is g noted) in
          record {
            machine = record {
              load = l;
              steps = is.steps ++ attempt ∷ [];
              after = subst (λ (c : Core). IsAfter l c (is.steps ++ attempt ∷ [])) (sym change) (after_step l (core_of a) is.steps attempt is.after);
              seen = shown_after q attempted w new_tile tiles.items tiles_are row.items row_is;
              banks = banks_led q attempted w new_tile tiles.items tiles_are row.items row_is;
              room = room_led q attempted w new_tile tiles.items tiles_are row.items row_is g keeps;
              built = ap (λ (x : Awake). x.design) awake_is ∙ is.built;
              sleepers = sleepers_led q attempted w new_tile tiles.items tiles_are row.items row_is op asked awake awake_is;
              routed = ports_are.design ∙ is.routed;
              ports = ports_led q attempted w new_tile tiles.items tiles_are row.items row_is op asked ports ports_are;
            };
            steps = record {
              result = sym (ap machine_told (next_is q attempted w new_tile tiles.items tiles_are row.items row_is));
              change = change;
            };
          }
