-- What holds of the values of a machine: words of 64 bits, addresses of words, and flits that aren't 0.
use Rattle.std.proofs.Common.{◌≡◌, ◌≢◌, ⊎_elim, ℕ, zero, suc, ◌^◌, ◌<◌, ◌≤◌, List, [], ◌∷◌, ◌++◌, length, map, replicate, Option, Some, None, All, sym, ◌∙◌}
use Rattle.std.proofs.Common.{arith, slice_index, slice_index_or}
use Rattle.std.proofs.lemmas.Bool.{cases_lt}
use Rattle.std.proofs.lemmas.List.{get_or-replicate, get_or_past, length-replicate}
use Rattle.std.proofs.lemmas.List.Elements.{All-nil}
use Rattle.torus.specs.Shape.{dims_of, IsAccepted as IsAcceptedShape}
use Rattle.script_lines.specs.declared.line.Line.{Line}
use Rattle.script_lines.specs.Lines.{IsAcceptedScript, script_of}
use Rattle.channel_number.specs.Ports.{port_count}
use Rattle.router.specs.Table.{latch_of}
use Rattle.tile.specs.Tile.{Design, TileState}
use Rattle.core_laws.specs.Core.{Load, State, design_of, first_tile, first_state}
use Rattle.core_laws.specs.Runs.{IsAcceptedLoad}
use Rattle.core_laws.proofs.Followed.{IsFollowed, followed_first, followed_none}
use Rattle.core_laws.proofs.Stands.{tile_at, no_tile}

-- what is used of these limits after the load
pub record IsLimited (d : Design) (tags : ℕ) : Type 0 where
  pub shape : IsAcceptedShape d.shape
  pub few_tags : tags ≤ 16
  pub few_words : d.words ≤ 65536

pub limited : (l : Load) → IsAcceptedLoad l → IsLimited (design_of l) l.tags
limited l ok = record { shape = ok.shape; few_tags = ok.tags.1; few_words = ok.size.1 }

-- the numbers of a list are above 0
abbrev pub AreSome : List ℕ → Type 0
AreSome flits = All (λ flit. 0 < flit) flits

-- of a tile: its processor follows accepted lines, with 64-bit replies; and no flit that is latched or left to put is 0
pub record HasTileValues (words : ℕ) (w : TileState) : Type 0 where
  pub followed : IsFollowed words 4096 w.processor.operations.following
  pub latched : (i flit : ℕ) → latch_of w.router i ≡ Some flit → flit ≢ 0
  pub requests_left : AreSome w.processor.to_put
  pub replies_left : AreSome w.bank.to_put

-- of a state: each word is of 64 bits too
pub record HasValues (d : Design) (s : State) : Type 0 where
  pub words : (a : ℕ) → slice_index s.around.words a < 2 ^ 64
  pub tiles : (t : ℕ) → HasTileValues d.words (tile_at s t)

none_latched : (n i flit : ℕ) → slice_index_or {A = Option ℕ} (replicate n None) i None ≡ Some flit → flit ≢ 0
none_latched n i flit h =
    let e : slice_index_or {A = Option ℕ} (replicate n None) i None ≡ None =
    ⊎_elim (λ (l : i < n). get_or-replicate n i None None l)
    (λ (g : n ≤ i). let len = length-replicate {A = Option ℕ} n None in get_or_past (replicate n None) i None (omega (arith, len))) (cases_lt i n) in
    let no : ◌≡◌ {A = Option ℕ} None (Some flit) = sym e ∙ h in absurd (cc)

abbrev some_none : AreSome []
some_none = All-nil (λ flit. 0 < flit)

first_values : (words dims tags : ℕ) (lines : List Line) → IsAcceptedScript words lines → HasTileValues words (first_tile dims tags lines)
first_values words dims tags lines ok = record {
  followed = followed_first words lines ok;
  latched = none_latched (port_count dims);
  requests_left = some_none;
  replies_left = some_none;
}

no_values : (words : ℕ) → HasTileValues words no_tile
no_values words = record {
  followed = followed_none words 4096;
  latched = λ i flit h. absurd (cc);
  requests_left = some_none;
  replies_left = some_none;
}

tiles_values : (words dims tags : ℕ) (scripts : List (List Line)) → ((p : ℕ) → IsAcceptedScript words (script_of scripts p)) → (t : ℕ)
    → HasTileValues words (slice_index_or (map (first_tile dims tags) scripts) t no_tile)
tiles_values words dims tags [] ok t = no_values words
tiles_values words dims tags (lines ∷ scripts) ok zero = first_values words dims tags lines (ok 0)
tiles_values words dims tags (lines ∷ scripts) ok (suc t) = tiles_values words dims tags scripts (λ p. ok (suc p)) t

words_below : (words : List ℕ) → ((a : ℕ) → a < length words → slice_index words a < 2 ^ 64) → (a : ℕ) → slice_index (words ++ 0 ∷ []) a < 2 ^ 64
words_below [] h zero = omega arith
words_below [] h (suc a) = omega arith
words_below (w ∷ words) h zero = h 0 (omega arith)
words_below (w ∷ words) h (suc a) = words_below words (λ b low. h (suc b) (omega arith)) a

-- It holds of the first state of an accepted load.
pub values_first : (l : Load) → IsAcceptedLoad l → HasValues (design_of l) (first_state l)
values_first l ok = record {
  words = words_below l.opening ok.words;
  tiles = tiles_values (length l.opening) (dims_of l.shape) l.tags l.scripts ok.scripts.each;
}
