-- What a machine shows, which a line doesn't change.
use Rattle.std.proofs.Common.{◌≡◌, ℕ, zero, suc, List, [], ◌∷◌, map, length, refl, ◌∙◌, ap}
use Rattle.std.specs.Prelude.{take}
use Rattle.packet.specs.declared.kinds.Operation.{Operation}
use Rattle.script_lines.specs.declared.line.Line.{Line}
use Rattle.home_bank.specs.declared.entry.Entry.{Entry}
use Rattle.one_order.specs.declared.answer.Answer.{Answer}
use Rattle.one_order.specs.Observed.{Observed}
use Rattle.one_order.specs.ProcessorRecord.{ProcessorRecord}
use Rattle.core_laws.specs.Tile.{TileState}
use Rattle.core_laws.specs.Machine.{Core, shown}
use Rattle.core_laws.specs.Appended.{changed_at, tile_with, appended}
use Rattle.core_laws.proofs.Places.{map_alike}

-- the record of a tile's processor
abbrev record_of : TileState → ProcessorRecord
record_of t = t.processor.operations

-- what a list of tiles shows, with the words of a machine
abbrev shown_by : Core → List (List Operation) → List (List Answer) → List (List Entry) → Observed
shown_by c issued answers entries = record {
  issued = issued;
  answers = answers;
  entries = entries;
  memory = take (length c.opening) c.state.around.words;
}

entries_same : (line : Line) (tiles : List TileState) (p : ℕ)
    → map (λ (t : TileState). t.bank.entries) (changed_at (tile_with line) tiles p)
    ≡ map (λ (t : TileState). t.bank.entries) tiles
entries_same line [] p = refl
entries_same line (t ∷ tiles) zero = refl
entries_same line (t ∷ tiles) (suc p) =
    ap (λ (xs : List (List Entry)). t.bank.entries ∷ xs) (entries_same line tiles p)

pub shown_same : (c : Core) (p : ℕ) (line : Line) → shown (appended c p line) ≡ shown c
shown_same c p line =
    let with_line : List TileState = changed_at (tile_with line) c.state.tiles p in
    let answers : List (List Answer) = map (λ (b : ProcessorRecord). b.answers) (map record_of with_line) in
    let entries : List (List Entry) = map (λ (t : TileState). t.bank.entries) with_line in
    ap (λ (issued : List (List Operation)). shown_by c issued answers entries)
    (map_alike (tile_with line) record_of (λ (b : ProcessorRecord). b.issued) (λ t. refl) c.state.tiles p)
    ∙ (ap (λ (xs : List (List Answer)). shown_by c (shown c).issued xs entries)
    (map_alike (tile_with line) record_of (λ (b : ProcessorRecord). b.answers) (λ t. refl) c.state.tiles p)
    ∙ ap (λ (xs : List (List Entry)). shown_by c (shown c).issued (shown c).answers xs)
    (entries_same line c.state.tiles p))
