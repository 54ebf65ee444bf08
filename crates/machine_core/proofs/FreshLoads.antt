-- A load without the fences in front of its scripts is accepted where the load is, and a machine begins from both alike.
use Rattle.std.proofs.Common.{◌≡◌, ℕ, zero, suc, ◌<◌, List, [], ◌∷◌, map, length, take, refl, sym, ◌∙◌, ap, subst, arith, slice_get, Some}
use Rattle.std.proofs.lemmas.List.{length-map}
use Rattle.std.proofs.lemmas.List.Sums.{sum_by-cons}
use Rattle.torus.specs.Shape.{dims_of}
use Rattle.script_lines.specs.declared.line.Line.{Line}
use Rattle.script_lines.specs.declared.line.Line.TheVariants as line
use Rattle.script_lines.specs.Lines.{operations_of, operation_count, script_of, total_count, IsAcceptedScript}
use Rattle.one_order.specs.Following.{past_fences, first_of}
use Rattle.one_order.specs.Homes.{line_home_count, script_home_count}
use Rattle.one_order.proofs.Places.{count_past_fences}
use Rattle.machine_parts.specs.Room.{home_room}
use Rattle.tile.specs.Tile.{TileState}
use Rattle.machine_parts.specs.Core.{Load, first_state, first_tile}
use Rattle.machine_parts.specs.Runs.{IsAcceptedLoad}

-- the load without the fences in front of its scripts
abbrev pub bare : Load → Load
bare l = record { shape = l.shape; depth = l.depth; tags = l.tags; opening = l.opening; scripts = map past_fences l.scripts }

-- a line behind them, and how many operations stand before it
line_behind : (lines : List Line) (i : ℕ) (x : Line) → slice_get (past_fences lines) i ≡ Some x
    → (j : ℕ) × (slice_get lines j ≡ Some x) × (operation_count (take j lines) ≡ operation_count (take i (past_fences lines)))
line_behind [] i x e = (i, e, refl)
line_behind (line.Fence ∷ lines) i x e =
    let p = line_behind lines i x e in
    (suc p.0, p.1, omega (arith, p.2, sum_by-cons operations_of line.Fence (take p.0 lines)))
line_behind (first ∷ lines) i x e = (i, e, refl)

script_accepted : (words : ℕ) (lines : List Line) → IsAcceptedScript words lines → IsAcceptedScript words (past_fences lines)
script_accepted words lines ok = record {
  each = λ i x e. let p = line_behind lines i x e in ok.each p.0 x p.1;
  lasts = λ i x e last. let p = line_behind lines i x e in subst (λ (n : ℕ). 0 < n) p.2 (ok.lasts p.0 x p.1 last);
  count = let n = count_past_fences lines in let few = ok.count in omega arith;
}

script_is : (scripts : List (List Line)) (p : ℕ) → script_of (map past_fences scripts) p ≡ past_fences (script_of scripts p)
script_is [] p = refl
script_is (lines ∷ scripts) zero = refl
script_is (lines ∷ scripts) (suc p) = script_is scripts p

pub total_is : (scripts : List (List Line)) → total_count (map past_fences scripts) ≡ total_count scripts
total_is [] = refl
total_is (lines ∷ scripts) =
    omega (
      arith,
      total_is scripts,
      count_past_fences lines,
      sum_by-cons operation_count (past_fences lines) (map past_fences scripts),
      sum_by-cons
          operation_count lines scripts,
    )

pub allowed_same : (scripts : List (List Line)) → map operation_count (map past_fences scripts) ≡ map operation_count scripts
allowed_same [] = refl
allowed_same (lines ∷ scripts) =
    ap (λ n. n ∷ map operation_count (map past_fences scripts)) (count_past_fences lines)
    ∙ ap (λ ns. operation_count lines ∷ ns) (allowed_same scripts)

pub bare_accepted : (l : Load) → IsAcceptedLoad l → IsAcceptedLoad (bare l)
bare_accepted l ok = record {
  shape = ok.shape;
  depth = ok.depth;
  tags = ok.tags;
  size = ok.size;
  words = ok.words;
  processors = length-map l.scripts past_fences ∙ ok.processors;
  scripts = record {
    tiles = let n = length-map l.scripts past_fences in let few = ok.scripts.tiles in omega arith;
    each = λ p. subst (IsAcceptedScript (length l.opening)) (sym (script_is l.scripts p))
        (script_accepted (length l.opening) (script_of l.scripts p) (ok.scripts.each p));
    total = let n = total_is l.scripts in let few = ok.scripts.total in omega arith;
  };
}

-- fences in front are passed at the start
past_again : (lines : List Line) → past_fences (past_fences lines) ≡ past_fences lines
past_again [] = refl
past_again (line.Fence ∷ lines) = past_again lines
past_again (first ∷ lines) = refl

tiles_same : (dims tags : ℕ) (scripts : List (List Line)) → map (first_tile dims tags) (map past_fences scripts) ≡ map (first_tile dims tags) scripts
unfolding first_of
tiles_same dims tags [] = refl
tiles_same dims tags (lines ∷ scripts) =
    (λ i. first_as (past_again lines i) ∷ tiles_same dims tags scripts i)
  where
    first_as : List Line → TileState
    first_as ahead = record (first_tile dims tags lines) {
      processor = record (first_tile dims tags lines).processor
          { operations = record (first_tile dims tags lines).processor.operations { following = record (first_of lines) { ahead = ahead } } };
    }

pub first_same : (l : Load) → first_state (bare l) ≡ first_state l
first_same l = ap (λ (tiles : List TileState). record (first_state l) { tiles = tiles }) (tiles_same (dims_of l.shape) l.tags l.scripts)

-- and hold back no operation of a bank
home_past : (tiles b : ℕ) (lines : List Line) → script_home_count tiles b (past_fences lines) ≡ script_home_count tiles b lines
home_past tiles b [] = refl
home_past tiles b (line.Fence ∷ lines) = omega (arith, home_past tiles b lines, sum_by-cons (line_home_count tiles b) line.Fence lines)
home_past tiles b (first ∷ lines) = refl

pub room_same : (tiles b : ℕ) (scripts : List (List Line)) → home_room tiles b (map past_fences scripts) ≡ home_room tiles b scripts
room_same tiles b [] = refl
room_same tiles b (lines ∷ scripts) = omega (
  arith,
  room_same tiles b scripts,
  home_past tiles b lines,
  sum_by-cons (script_home_count tiles b) (past_fences lines) (map past_fences scripts),
  sum_by-cons (script_home_count tiles b) lines scripts,
)

-- what is ahead in the first state
pub ahead_first : (dims tags : ℕ) (scripts : List (List Line))
    → map (λ (tile : TileState). tile.processor.operations.following.ahead) (map (first_tile dims tags) scripts) ≡ map past_fences scripts
unfolding first_of
ahead_first dims tags [] = refl
ahead_first dims tags (lines ∷ scripts) = ap (λ (ls : List (List Line)). past_fences lines ∷ ls) (ahead_first dims tags scripts)
