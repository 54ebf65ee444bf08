use Rattle.std.proofs.Common.{◌≡◌, ◌≤◌, ℕ, replicate, List, length, slice_index, sym, ◌∙◌, ap, arith}
use Rattle.std.proofs.Math.Nat.{mul-le-mul}
use Rattle.std.proofs.lemmas.List.{length-map}
use Rattle.torus.specs.Shape.{tiles_of}
use Rattle.script_lines.specs.declared.lists.LineList.{LineList}
use Rattle.script_lines.specs.declared.line.Line.{Line}
use Rattle.script_lines.specs.Lines.{operation_count, script_of, total_count}
use Rattle.script_lines.specs.Views.{lists_of}
use Rattle.machine_parts.proofs.LoadingAccepted.{followable}
use Rattle.machine_parts.specs.Core.{Load}
use Rattle.machine_core.proofs.Begins.{Begun, is_machine, is_after_none, has_room, home_small, homes_as, tiles_as, row_as, book_as, allowed_as, part_small}
use Rattle.machine_core.proofs.machine.Machine.begin.Given.{Over}
use Rattle.machine_core.proofs.machine.Machine.begin.Goals as goal

begun : (g : Over) (c : goal.After-most_moves-left g) → Begun
    (record {
      torus = c.args.torus;
      depth = c.args.depth;
      tags = c.args.tags;
      opening = c.args.opening;
      tiles = c.in_ok-tiles.tiles;
      row = c.in_ok-row.row;
      book = c.in_ok-book.book;
      allowed = c.in_ok-allowed.allowed;
      left = c.most_moves-left.result;
      awake = c.in_ok-awake.awake;
      ports = c.in_ok-ports.ports;
    })
    (lists_of c.args.lists.items)
begun g c =
    let l : Load = record {
      shape = c.args.torus;
      depth = c.args.depth;
      tags = c.args.tags;
      opening = c.args.opening.items;
      scripts = lists_of c.args.lists.items;
    } in
    let lists = ap (λ (xs : List (LineList _)). lists_of xs) c.as_slice.ensures.value in
    let lists_2 = ap (λ (xs : List (LineList _)). lists_of xs) c.as_slice-2.ensures.value in
    let lists_3 = ap (λ (xs : List (LineList _)). lists_of xs) c.as_slice-3.ensures.value in
    let counted = c.args.opening.ok.0 in
    let words : c.len-words.result ≡ length c.args.opening.items = omega (arith, c.len-words.ensures) in
    let homes = homes_as (tiles_of c.args.torus) c.tiles.result c.home_rooms-entries.result (lists_of c.args.lists.items) (lists_of c.as_slice-2.result.now)
    c.tiles.ensures.value lists_2 c.home_rooms-entries.ensures in
    let issue_count : length c.processor_rooms-issues.result ≡ 64 = c.processor_rooms-issues.type_inv.1.0.1 in
    let entry_count : length c.home_rooms-entries.result ≡ 64 = c.home_rooms-entries.type_inv.1.0.1 in
    let few = c.requires.shape.tiles in
    let issues_there : c.tiles-tiles.result ≤ length c.processor_rooms-issues.result = omega (arith, c.tiles-tiles.ensures.value) in
    let entries_there : c.tiles-tiles.result ≤ length c.home_rooms-entries.result = omega (arith, c.tiles-tiles.ensures.value) in
    record {
      rooms = slice_index c.home_rooms-entries.result;
      tiles = tiles_as c.args.torus c.args.depth c.args.tags c.len-words.result (length c.args.opening.items) (slice_index c.home_rooms-entries.result)
          (lists_of c.args.lists.items) c.in_ok-tiles.tiles.items
          words c.in_ok-tiles.ensures;
      homes = homes;
      row = row_as c.args.torus c.args.depth c.channel_count.result c.args.opening.items c.as_slice-4.result.now c.in_ok-row.row.items
          c.channel_count.ensures.value c.as_slice-4.ensures.value c.in_ok-row.ensures;
      book = book_as (tiles_of c.args.torus) c.tiles-tiles.result c.processor_rooms-issues.result c.in_ok-book.book.book c.tiles-tiles.ensures.value
          issues_there c.in_ok-book.ensures.book;
      room = has_room l c.requires c.tiles-tiles.result c.all_room-rows.result c.processor_rooms-issues.result c.home_rooms-entries.result c.in_ok-book.book
          c.tiles-tiles.ensures.value issues_there entries_there
          (λ p. c.processor_rooms-issues.ensures p ∙ ap (λ (xs : List (List Line)). operation_count (script_of xs p)) lists)
          homes (c.all_room-rows.ensures ∙ ap total_count lists_3)
          c.in_ok-book.ensures.issues c.in_ok-book.ensures.positions c.in_ok-book.ensures.rows;
      allowed = c.in_ok-allowed.ensures.items
          ∙ allowed_as c.tiles-tiles.result c.processor_rooms-issues.result (lists_of c.args.lists.items)
          (c.tiles-tiles.ensures.value ∙ sym c.requires.processors) issues_there
          (λ p. c.processor_rooms-issues.ensures p ∙ ap (λ (xs : List (List Line)). operation_count (script_of xs p)) lists);
      left =
          let all : c.all_room-rows.result ≡ total_count (lists_of c.args.lists.items) = c.all_room-rows.ensures ∙ ap total_count lists_3 in
          omega (arith, c.most_moves-left.ensures, all, c.tiles-2.ensures.value);
      awake = c.in_ok-awake.ensures
          ∙ ap (λ (n : ℕ). record { design = record { shape = c.args.torus; depth = c.args.depth; words = n }; flags = replicate 192 255 }) words;
      routed = c.in_ok-ports.ensures.0 ∙ ap (λ (n : ℕ). record { shape = c.args.torus; depth = c.args.depth; words = n }) words;
      ports = c.in_ok-ports.ensures.1;
    }

pub most_moves-left-requires : goal.most_moves-left-requires
most_moves-left-requires g c =
    let lists_3 = ap (λ (xs : List (LineList _)). lists_of xs) c.as_slice-3.ensures.value in
    let all : c.all_room-rows.result ≡ total_count (lists_of c.args.lists.items) = c.all_room-rows.ensures ∙ ap total_count lists_3 in
    let total = c.requires.scripts.total in
    omega (arith, all, total)

pub processor_rooms-issues-requires-clause-scripts : goal.processor_rooms-issues-requires-clause-scripts
processor_rooms-issues-requires-clause-scripts g c =
    let lists = ap (λ (xs : List (LineList _)). length xs) c.as_slice.ensures.value in
    omega (arith, lists, length-map c.args.lists.items (λ list. list.lines.items), c.requires.scripts.tiles)

pub new-requires-clause-issues : goal.new-requires-clause-issues
new-requires-clause-issues g c =
    part_small c.tiles-tiles.result c.processor_rooms-issues.result
    (λ p low. let few = (c.requires.scripts.each p).count in
    omega (arith, c.processor_rooms-issues.ensures p, ap (λ (xs : List (LineList _)). operation_count (script_of (lists_of xs) p)) c.as_slice.ensures.value, few))

pub new-requires-clause-positions : goal.new-requires-clause-positions
new-requires-clause-positions g c =
    let lists_2 = ap (λ (xs : List (LineList _)). lists_of xs) c.as_slice-2.ensures.value in
    let homes = homes_as (tiles_of c.args.torus) c.tiles.result c.home_rooms-entries.result (lists_of c.args.lists.items) (lists_of c.as_slice-2.result.now)
    c.tiles.ensures.value lists_2 c.home_rooms-entries.ensures in
    part_small c.tiles-tiles.result c.home_rooms-entries.result
    (λ b low. home_small (record {
      shape = c.args.torus;
      depth = c.args.depth;
      tags = c.args.tags;
      opening = c.args.opening.items;
      scripts = lists_of c.args.lists.items;
    }) c.requires c.home_rooms-entries.result homes b
    (omega (arith, c.tiles-tiles.ensures.value)))

pub first_row-requires-clause-places : goal.first_row-requires-clause-places
first_row-requires-clause-places g c =
    let some : 1 ≤ c.args.depth = c.requires.depth.0 in
    omega (arith, mul-le-mul c.channel_count.ensures.small c.requires.depth.1)

pub first_tiles-requires-clause-accepted : goal.first_tiles-requires-clause-accepted
first_tiles-requires-clause-accepted g c =
    followable (record {
      shape = c.args.torus;
      depth = c.args.depth;
      tags = c.args.tags;
      opening = c.args.opening.items;
      scripts = lists_of c.args.lists.items;
    }) c.requires

pub first_tiles-requires-clause-rooms : goal.first_tiles-requires-clause-rooms
first_tiles-requires-clause-rooms g c =
    let lists_2 = ap (λ (xs : List (LineList _)). lists_of xs) c.as_slice-2.ensures.value in
    home_small (record {
      shape = c.args.torus;
      depth = c.args.depth;
      tags = c.args.tags;
      opening = c.args.opening.items;
      scripts = lists_of c.args.lists.items;
    }) c.requires c.home_rooms-entries.result
    (homes_as (tiles_of c.args.torus) c.tiles.result c.home_rooms-entries.result (lists_of c.args.lists.items) (lists_of c.as_slice-2.result.now)
    c.tiles.ensures.value lists_2 c.home_rooms-entries.ensures)

pub invariant_of-result : goal.invariant_of-result
invariant_of-result g c = is_machine _ (lists_of c.args.lists.items) c.requires (begun g c)

pub returns : goal.returns
returns g c = is_after_none _ (lists_of c.args.lists.items) c.requires (begun g c)

pub new-requires-2-clause-words : goal.new-requires-2-clause-words
new-requires-2-clause-words g c =
    let counted = c.args.opening.ok.0 in
    let few = c.requires.size.1 in
    omega (arith, c.len-words.ensures, counted, few)

pub new-requires-3-clause-words : goal.new-requires-3-clause-words
new-requires-3-clause-words g c =
    let counted = c.args.opening.ok.0 in
    let few = c.requires.size.1 in
    omega (arith, c.len-words.ensures, counted, few)
