-- What a machine shows, which reports that are taken back don't change.
use Rattle.std.proofs.Common.{◌≡◌, ℕ, List, [], ◌∷◌, map, length, refl, ◌∙◌, ap, slice_set}
use Rattle.std.specs.Prelude.{take}
use Rattle.std.proofs.lemmas.List.{take-set}
use Rattle.home_bank.specs.declared.entry.Entry.{Entry}
use Rattle.one_order.specs.Observed.{Observed}
use Rattle.one_order.specs.ProcessorRecord.{ProcessorRecord}
use Rattle.core_laws.specs.Tile.{TileState}
use Rattle.core_laws.specs.Core.{records_of}
use Rattle.core_laws.specs.Machine.{Core, built_to, shown}
use Rattle.core_laws.specs.Reopened.{tile_open, reopened}
use Rattle.core_laws.proofs.UnreportedRuns.{records_open}

-- what is shown of records, entries and words
abbrev shown_by : List ProcessorRecord → List (List Entry) → List ℕ → Observed
shown_by records entries memory = record {
  issued = map (λ (b : ProcessorRecord). b.issued) records;
  answers = map (λ (b : ProcessorRecord). b.answers) records;
  entries = entries;
  memory = memory;
}

entries_open : (tiles : List TileState)
    → map (λ (t : TileState). t.bank.entries) (map tile_open tiles) ≡ map (λ (t : TileState). t.bank.entries) tiles
entries_open [] = refl
entries_open (t ∷ tiles) = ap (λ (xs : List (List Entry)). t.bank.entries ∷ xs) (entries_open tiles)

pub shown_open : (c : Core) → shown (reopened c) ≡ shown c
shown_open c =
    let words : List ℕ = c.state.around.words in
    let entries : List (List Entry) = map (λ (t : TileState). t.bank.entries) (map tile_open c.state.tiles) in
    let memory : List ℕ = take (length c.opening) (slice_set words (length c.opening) 0) in
    ap (λ (bs : List ProcessorRecord). shown_by bs entries memory) (records_open (built_to c) c.state)
    ∙ (ap (λ (xs : List (List Entry)). shown_by (records_of c.state) xs memory) (entries_open c.state.tiles)
    ∙ ap (shown_by (records_of c.state) (shown c).entries) (take-set c.state.around.words (length c.opening) 0))
