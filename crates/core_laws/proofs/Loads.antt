-- A load with a further line.
use Rattle.std.proofs.Common.{◌≡◌, ℕ, zero, suc, ◌+◌, ◌*◌, ◌<◌, ◌==◌, ◌&&◌, Bool, true, false, List, [], ◌∷◌, ◌++◌, map, length, Result, Ok, refl, sym}
use Rattle.std.proofs.Common.{◌∙◌, ap, arith, slice_set}
use Rattle.std.specs.Prelude.{nat_le, not, Some, None, if◌then◌else◌, slice_index}
use Rattle.std.proofs.lemmas.List.{length-set}
use Rattle.std.proofs.lemmas.List.Sums.{sum_by-set, sum_by_push}
use Rattle.std.proofs.lemmas.Bool.{eqb-false, leb-true}
use Rattle.torus.specs.Shape.{dims_of}
use Rattle.script_lines.specs.declared.line.Line.{Line}
use Rattle.script_lines.specs.Lines.{operations_of, operation_count, total_count, script_of, mentions_last, IsAcceptedLine, script_with, scripts_with}
use Rattle.script.specs.Scripts.{add_line}
use Rattle.script.specs.declared.reason.TextReason.{TextReason}
use Rattle.script.specs.declared.reason.TextReason.TheVariants as reason
use Rattle.script.specs.Outcome.{unless}
use Rattle.script_lines.specs.Views.{AreCounted}
use Rattle.script.proofs.Counted.{counted_push}
use Rattle.one_order.specs.Following.{Following}
use Rattle.core_laws.specs.Tile.{TileState}
use Rattle.core_laws.specs.Core.{Load, State, first_state, first_tile}
use Rattle.core_laws.specs.Runs.{IsAcceptedLoad}
use Rattle.core_laws.specs.ProgressMoves.{most_moves}
use Rattle.core_laws.specs.Appended.{tile_with, state_with, load_with, MayFollow}
use Rattle.core_laws.proofs.Places.{changed_set, map_changed}
use Rattle.one_order.proofs.Grown.{first_with}

abbrev pushed : Line → List Line → List Line
pushed line lines = lines ++ line ∷ []

-- a tile before any step
tile_first : (dims tags : ℕ) (line : Line) (lines : List Line)
    → first_tile dims tags (lines ++ line ∷ []) ≡ tile_with line (first_tile dims tags lines)
tile_first dims tags line lines =
    let tile : TileState = first_tile dims tags lines in
    ap (λ (f : Following). record {
      processor = record {
        operations = record { following = f; tags = tile.processor.operations.tags; issued = []; answers = [] };
        to_put = [];
        so_far = [];
        reported = false;
        seen = false;
      };
      router = tile.router;
      bank = tile.bank;
    }) (sym (first_with lines line))

pub state_first : (l : Load) (p : ℕ) (line : Line)
    → first_state (load_with l p line) ≡ state_with (first_state l) p line
state_first l p line =
    let made : List TileState → State = λ ts. record { tiles = ts; around = (first_state l).around } in
    ap (λ (scripts : List (List Line)). made (map (first_tile (dims_of l.shape) l.tags) scripts))
    (changed_set (pushed line) l.scripts p [])
    ∙ ap made
    (map_changed (pushed line) (first_tile (dims_of l.shape) l.tags) (tile_with line)
    (tile_first (dims_of l.shape) l.tags line) l.scripts p)

-- the operations of all scripts
pub total_with : (l : Load) (p : ℕ) (line : Line) → p < length l.scripts
    → total_count (load_with l p line).scripts ≡ total_count l.scripts + operations_of line
total_with l p line low =
    let all = sum_by-set operation_count l.scripts p (script_of l.scripts p ++ line ∷ []) [] low in
    let one = sum_by_push operations_of (script_of l.scripts p) line in
    omega (arith, all, one)

pub most_with : (l : Load) (p : ℕ) (line : Line) → p < length l.scripts
    → most_moves (load_with l p line) ≡ most_moves l + 241 * operations_of line
most_with l p line low = let total = total_with l p line low in omega (arith, total)

-- the counts of the scripts
counts_of : (scripts : List (List Line)) (p : ℕ) → p < length scripts
    → slice_index (map operation_count scripts) p ≡ operation_count (script_of scripts p)
counts_of [] p low = absurd (omega arith)
counts_of (x ∷ xs) zero low = refl
counts_of (x ∷ xs) (suc p) low = counts_of xs p (omega arith)

counts_long : (scripts : List (List Line)) → length (map operation_count scripts) ≡ length scripts
counts_long [] = refl
counts_long (x ∷ xs) = let rest = counts_long xs in omega (arith, rest)

pub accepted_with : (l : Load) (p : ℕ) (line : Line) → IsAcceptedLoad l → MayFollow l p line
    → IsAcceptedLoad (load_with l p line)
accepted_with l p line ok may =
    let counted :
    AreCounted (length l.opening) l.scripts (map operation_count l.scripts) (total_count l.scripts) = record {
      accepted = ok.scripts;
      room = counts_long l.scripts;
      each = λ q low. counts_of l.scripts q low;
      all = refl;
    } in
    let more =
    counted_push (length l.opening) l.scripts (map operation_count l.scripts) (total_count l.scripts) p line
    (operation_count (script_of l.scripts p)) (operations_of line)
    counted may.there may.accepted (sym (counts_of l.scripts p may.there)) refl may.last may.few may.few_in_all in
    record {
      shape = ok.shape;
      depth = ok.depth;
      tags = ok.tags;
      size = ok.size;
      words = ok.words;
      processors = length-set l.scripts p (script_of l.scripts p ++ line ∷ []) ∙ ok.processors;
      scripts = more.accepted;
    }

positive : (n : ℕ) → (n == 0) ≡ false → 0 < n
positive n h = let apart = eqb-false n 0 h in omega (arith, apart)

-- what the reader of scripts adds
read_by : (l : Load) (p : ℕ) (line : Line) (lists : List (List Line)) → p < length l.scripts
    → IsAcceptedLine (length l.opening) line
    → (a b c : Bool) → (mentions_last line && (operation_count (script_of l.scripts p) == 0)) ≡ a
    → nat_le (operation_count (script_of l.scripts p) + operations_of line) 4096 ≡ b
    → nat_le (total_count l.scripts + operations_of line) 65536 ≡ c
    → ◌≡◌ {A = Result (List (List Line)) TextReason}
    (unless (if a then Some reason.LastFirst else
    (if not b then Some (reason.ScriptLength (script_with l.scripts p line)) else
    (if not c then Some (reason.ScriptsLength (scripts_with l.scripts line)) else None)))
    (Ok (slice_set l.scripts p (script_of l.scripts p ++ line ∷ [])))) (Ok lists)
    → MayFollow l p line × (lists ≡ (load_with l p line).scripts)
read_by l p line lists low good true b c ia ib ic h = absurd (cc)
read_by l p line lists low good false false c ia ib ic h = absurd (cc)
read_by l p line lists low good false true false ia ib ic h = absurd (cc)
read_by l p line lists low good false true true ia ib ic h = (
  record {
    there = low;
    accepted = good;
    last = λ last. positive (operation_count (script_of l.scripts p))
        (sym (ap (λ (m : Bool). m && (operation_count (script_of l.scripts p) == 0)) last) ∙ ia);
    few = leb-true (operation_count (script_of l.scripts p) + operations_of line) 4096 ib;
    few_in_all = leb-true (total_count l.scripts + operations_of line) 65536 ic;
  },
  cc,
)

pub read_with : (l : Load) (p : ℕ) (line : Line) (lists : List (List Line)) → p < length l.scripts
    → IsAcceptedLine (length l.opening) line
    → add_line l.scripts p line ≡ Ok lists → MayFollow l p line × (lists ≡ (load_with l p line).scripts)
read_with l p line lists low good h =
    read_by l p line lists low good (mentions_last line && (operation_count (script_of l.scripts p) == 0))
    (nat_le (operation_count (script_of l.scripts p) + operations_of line) 4096)
    (nat_le (total_count l.scripts + operations_of line) 65536) refl refl refl h
