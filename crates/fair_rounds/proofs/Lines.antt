-- What lines that are handed leave of a machine.
use Rattle.std.proofs.Common.{◌≡◌, ℕ, ◌<◌, zero, suc, Bool, true, false, List, [], ◌∷◌, ◌++◌, length, map, Option, Some, None, sym, ap, ◌∙◌, refl, arith, subst, slice_get, slice_set, slice_index_or, All}
use Rattle.std.specs.Prelude.{if◌then◌else◌}
use Rattle.std.proofs.lemmas.List.{take_all}
use Rattle.std.proofs.lemmas.List.Elements.{All-head, All-tail}
use Rattle.torus.specs.Shape.{tiles_of, dims_of}
use Rattle.torus.specs.declared.step.Step.{Step}
use Rattle.torus.specs.declared.fault.Fault.{Fault}
use Rattle.packet.specs.declared.kinds.Operation.{Operation}
use Rattle.script_lines.specs.declared.line.Line.{Line}
use Rattle.wormhole.specs.State.{empty}
use Rattle.wormhole.specs.Weight.{sum_below}
use Rattle.wormhole.proofs.Sums.{sum_same}
use Rattle.home_bank.specs.BankTable.{BankState}
use Rattle.tile.specs.Tile.{Design, TileState}
use Rattle.core_laws.specs.Core.{Load, State, design_of, first_state, first_tile, after}
use Rattle.core_laws.specs.Machine.{Core, IsAfter, built_to, shown}
use Rattle.core_laws.specs.MachineMoves.{moves_of}
use Rattle.core_laws.specs.Appended.{changed_at, tile_with, state_with, appended, load_with, IsUnreported, MayFollow}
use Rattle.core_laws.specs.Reopened.{tile_open, state_open, reopened, without_reports}
use Rattle.core_laws.specs.Handed.{has_reported, reported_in, handed, moves_kept, refused, BringsWords}
use Rattle.core_laws.specs.Network.{net_of}
use Rattle.core_laws.proofs.EveryRun.{holds_in}
use Rattle.core_laws.proofs.UnreportedMachines.{taken_back, moves_again, nobody_reported}
use Rattle.core_laws.proofs.Handed.{stands, shown_still, taken}
use Rattle.core_laws.proofs.Loads.{state_first}
use Rattle.core_laws.proofs.Stands.{tile_at, no_tile}
use Rattle.fair_rounds.specs.Burden.{burden}
use Rattle.fair_rounds.specs.Chores.{unsent_of, issued_count, served_count}
use Rattle.fair_rounds.specs.NetRuns.{net_run}
use Rattle.fair_rounds.specs.Hosts.{Handing, taken_by, with_lines}
use Rattle.fair_rounds.proofs.NetRuns.{net_with}
use Rattle.fair_rounds.proofs.OpenRuns.{net_open}
use Rattle.fair_rounds.proofs.Guards.{left_to_do}

-- two states are alike but for what scripts ask, and who has reported
pub record Alike (s z : State) : Type 0 where
  pub router : (t : ℕ) → (tile_at z t).router ≡ (tile_at s t).router
  pub bank : (t : ℕ) → (tile_at z t).bank ≡ (tile_at s t).bank
  pub to_put : (t : ℕ) → (tile_at z t).processor.to_put ≡ (tile_at s t).processor.to_put
  pub issued : (t : ℕ) → (tile_at z t).processor.operations.issued ≡ (tile_at s t).processor.operations.issued
  pub tags : (t : ℕ) → (tile_at z t).processor.operations.tags ≡ (tile_at s t).processor.operations.tags
  pub rings : z.around.rings ≡ s.around.rings

alike_same : (s : State) → Alike s s
alike_same s = record { router = λ t. refl; bank = λ t. refl; to_put = λ t. refl; issued = λ t. refl; tags = λ t. refl; rings = refl }

alike_then : (s z y : State) → Alike s z → Alike z y → Alike s y
alike_then s z y a b = record {
  router = λ t. b.router t ∙ a.router t;
  bank = λ t. b.bank t ∙ a.bank t;
  to_put = λ t. b.to_put t ∙ a.to_put t;
  issued = λ t. b.issued t ∙ a.issued t;
  tags = λ t. b.tags t ∙ a.tags t;
  rings = b.rings ∙ a.rings;
}

part_with : {A : Type 0} (h : TileState → A) (line : Line) → ((u : TileState) → h (tile_with line u) ≡ h u) → (tiles : List TileState) (p t : ℕ)
    → h (slice_index_or (changed_at (tile_with line) tiles p) t no_tile) ≡ h (slice_index_or tiles t no_tile)
part_with h line same [] p t = refl
part_with h line same (u ∷ tiles) zero zero = same u
part_with h line same (u ∷ tiles) zero (suc t) = refl
part_with h line same (u ∷ tiles) (suc p) zero = refl
part_with h line same (u ∷ tiles) (suc p) (suc t) = part_with h line same tiles p t

part_open : {A : Type 0} (h : TileState → A) → ((u : TileState) → h (tile_open u) ≡ h u) → (tiles : List TileState) (t : ℕ)
    → h (slice_index_or (map tile_open tiles) t no_tile) ≡ h (slice_index_or tiles t no_tile)
part_open h same [] t = refl
part_open h same (u ∷ tiles) zero = same u
part_open h same (u ∷ tiles) (suc t) = part_open h same tiles t

alike_with : (s : State) (p : ℕ) (line : Line) → Alike s (state_with s p line)
alike_with s p line = record {
  router = λ t. part_with (λ (u : TileState). u.router) line (λ u. refl) s.tiles p t;
  bank = λ t. part_with (λ (u : TileState). u.bank) line (λ u. refl) s.tiles p t;
  to_put = λ t. part_with (λ (u : TileState). u.processor.to_put) line (λ u. refl) s.tiles p t;
  issued = λ t. part_with (λ (u : TileState). u.processor.operations.issued) line (λ u. refl) s.tiles p t;
  tags = λ t. part_with (λ (u : TileState). u.processor.operations.tags) line (λ u. refl) s.tiles p t;
  rings = refl;
}

alike_open : (d : Design) (s : State) → Alike s (state_open d s)
alike_open d s = record {
  router = λ t. part_open (λ (u : TileState). u.router) (λ u. refl) s.tiles t;
  bank = λ t. part_open (λ (u : TileState). u.bank) (λ u. refl) s.tiles t;
  to_put = λ t. part_open (λ (u : TileState). u.processor.to_put) (λ u. refl) s.tiles t;
  issued = λ t. part_open (λ (u : TileState). u.processor.operations.issued) (λ u. refl) s.tiles t;
  tags = λ t. part_open (λ (u : TileState). u.processor.operations.tags) (λ u. refl) s.tiles t;
  rings = refl;
}

alike_by : (c : Core) (p : ℕ) (line : Line) (b : Bool) → Alike c.state (appended (if b then reopened c else c) p line).state
alike_by c p line true = alike_then c.state (state_open (built_to c) c.state) _ (alike_open (built_to c) c.state) (alike_with (state_open (built_to c) c.state) p line)
alike_by c p line false = alike_with c.state p line

-- alike states are as loaded
pub alike_issued : (d : Design) (s z : State) → Alike s z → issued_count d z ≡ issued_count d s
alike_issued d s z a = sum_same (tiles_of d.shape) _ _ (λ t low. ap (λ (os : List Operation). length os) (a.issued t))

pub alike_served : (d : Design) (s z : State) → Alike s z → served_count d z ≡ served_count d s
alike_served d s z a = sum_same (tiles_of d.shape) _ _ (λ t low. ap (λ (b : BankState). length b.entries) (a.bank t))

alike_unsent : (n : ℕ) (s z : State) → Alike s z
    → sum_below n (λ b. unsent_of (tile_at z b).bank.to_put) ≡ sum_below n (λ b. unsent_of (tile_at s b).bank.to_put)
alike_unsent n s z a = sum_same n _ _ (λ t low. ap (λ (b : BankState). unsent_of b.to_put) (a.bank t))

set_end : (xs : List ℕ) → slice_set (xs ++ 0 ∷ []) (length xs) 0 ≡ xs ++ 0 ∷ []
set_end [] = refl
set_end (x ∷ xs) = ap (λ (ys : List ℕ). x ∷ ys) (set_end xs)

tiles_first : (dims tags : ℕ) (scripts : List (List Line)) → map tile_open (map (first_tile dims tags) scripts) ≡ map (first_tile dims tags) scripts
tiles_first dims tags [] = refl
tiles_first dims tags (x ∷ xs) = ap (λ (ts : List TileState). first_tile dims tags x ∷ ts) (tiles_first dims tags xs)

first_open : (l : Load) → state_open (design_of l) (first_state l) ≡ first_state l
first_open l =
    let made : List TileState → List ℕ → State = λ ts ws. record {
      tiles = ts;
      around = record { rings = (first_state l).around.rings; words = ws };
    } in
    ap (λ (ts : List TileState). made ts (slice_set (l.opening ++ 0 ∷ []) (length l.opening) 0)) (tiles_first (dims_of l.shape) l.tags l.scripts)
    ∙ ap (made (first_state l).tiles) (set_end l.opening)

-- where a machine stands, and what is still to do there
pub record Stage (c : Core) : Type 0 where
  pub load : Load
  pub steps : List Step
  pub after : IsAfter load c steps

abbrev pub todo : (c : Core) → Stage c → ℕ
todo c st = left_to_do st.load (st.after).accepted st.steps

-- a machine after lines
pub record Grows (c : Core) (st : Stage c) (e : Core) : Type 0 where
  pub stage : Stage e
  pub same : todo e stage ≡ todo c st
  pub alike : Alike c.state e.state
  pub built : built_to e ≡ built_to c
  pub tags : e.tags ≡ c.tags
  pub shows : shown e ≡ shown c

net_first : (l : Load) (p : ℕ) (line : Line) (xs : List Step) → IsUnreported (after l xs) p
    → net_run (design_of l) (empty (net_of (design_of l))) (first_state (load_with l p line)) (moves_of l xs)
    ≡ net_run (design_of l) (empty (net_of (design_of l))) (first_state l) xs
net_first l p line xs un =
    ap (λ (s : State). net_run (design_of l) (empty (net_of (design_of l))) s (moves_of l xs)) (state_first l p line)
    ∙ net_with (design_of l) p line (empty (net_of (design_of l))) (first_state l) xs un

still_there : (tiles : List TileState) (p : ℕ) → p < length tiles → reported_in (slice_get tiles p) ≡ false
    → (tile : TileState) × (slice_get tiles p ≡ Some tile) × (tile.processor.reported ≡ false)
still_there [] p low out = absurd (omega (arith, low))
still_there (t ∷ tiles) zero low out = (t, refl, out)
still_there (t ∷ tiles) (suc p) low out = still_there tiles p (omega (arith, low)) out

module _ (c : Core) (st : Stage c) (p : ℕ) (line : Line) (may : MayFollow st.load p line) where
  abbrev l : Load
  l = st.load

  abbrev xs : List Step
  xs = st.steps

  state_is : c.state ≡ after st.load st.steps
  state_is = (st.after).state

  low : p < length c.state.tiles
  low =
      let many : length c.state.tiles ≡ length st.load.scripts = ap (λ (s : State). length s.tiles) (state_is ∙ ap (after st.load) (sym (take_all (length st.steps) st.steps (omega arith))))
      ∙ ((holds_in st.load (st.after).accepted st.steps (length st.steps)).stands.tiles ∙ sym ((st.after).accepted).processors) in
      let there = may.there in
      omega (arith, many, there)

  net_by : (b : Bool) → has_reported c.state p ≡ b
      → net_run (design_of st.load) (empty (net_of (design_of st.load))) (first_state (load_with st.load p line))
      (if b then without_reports (moves_of st.load st.steps) else moves_of st.load st.steps)
      ≡ net_run (design_of st.load) (empty (net_of (design_of st.load))) (first_state st.load) st.steps
  net_by false is =
      let x = still_there c.state.tiles p low is in
      net_first st.load p line st.steps
      (subst (λ (s : State). IsUnreported s p) state_is (record { tile = x.0; there = x.1; unreported = x.2 }))
  net_by true is =
      let ys : List Step = without_reports (moves_of st.load st.steps) in
      let back = taken_back st.load c st.steps st.after in
      let un : IsUnreported (after st.load ys) p = subst (λ (s : State). IsUnreported s p) back.state (nobody_reported c p low) in
      ap (net_run (design_of st.load) (empty (net_of (design_of st.load))) (first_state (load_with st.load p line))) (sym (moves_again st.load (st.after).accepted st.steps))
      ∙ (net_first st.load p line ys un
      ∙ (ap (λ (s : State). net_run (design_of st.load) (empty (net_of (design_of st.load))) s ys) (sym (first_open st.load))
      ∙ net_open st.load (st.after).accepted (empty (net_of (design_of st.load))) (first_state st.load) st.steps ([], refl)))

  grown : Grows c st (handed c p line)
  grown =
      let new = stands st.load c st.steps p line st.after may in
      let e : Core = handed c p line in
      let alike : Alike c.state e.state = alike_by c p line (has_reported c.state p) in
      let unsent = alike_unsent (tiles_of st.load.shape) c.state e.state alike in
      let before : sum_below (tiles_of st.load.shape) (λ b. unsent_of (tile_at c.state b).bank.to_put)
      ≡ sum_below (tiles_of st.load.shape) (λ b. unsent_of (tile_at (after st.load st.steps) b).bank.to_put) =
      ap (λ (s : State). sum_below (tiles_of st.load.shape) (λ b. unsent_of (tile_at s b).bank.to_put)) state_is in
      let behind : sum_below (tiles_of st.load.shape) (λ b. unsent_of (tile_at e.state b).bank.to_put)
      ≡ sum_below (tiles_of st.load.shape) (λ b. unsent_of (tile_at (after (load_with st.load p line) (moves_kept st.load c p st.steps)) b).bank.to_put) =
      ap (λ (s : State). sum_below (tiles_of st.load.shape) (λ b. unsent_of (tile_at s b).bank.to_put)) new.state in
      let net = ap (burden (net_of (design_of st.load))) (net_by (has_reported c.state p) refl) in
      record {
        stage = record { load = load_with st.load p line; steps = moves_kept st.load c p st.steps; after = new };
        same = omega (arith, unsent, before, behind, net);
        alike = alike;
        built = built_by (has_reported c.state p);
        tags = tags_by (has_reported c.state p);
        shows = shown_still c p line;
      }
    where
      built_by : (b : Bool) → built_to (appended (if b then reopened c else c) p line) ≡ built_to c
      built_by true = refl
      built_by false = refl

      tags_by : (b : Bool) → (appended (if b then reopened c else c) p line).tags ≡ c.tags
      tags_by true = refl
      tags_by false = refl

grow_same : (c : Core) (st : Stage c) → Grows c st c
grow_same c st = record { stage = st; same = refl; alike = alike_same c.state; built = refl; tags = refl; shows = refl }

grow_one : (c : Core) (st : Stage c) (h : Handing) → BringsWords h.line → (o : Option Fault) → refused c h.processor h.line ≡ o → Grows c st (taken_by c h o)
grow_one c st h brings (Some fault) is = grow_same c st
grow_one c st h brings None is = grown c st h.processor h.line (taken st.load c st.steps h.processor h.line st.after brings is)

grow_then : (c e f : Core) (st : Stage c) (a : Grows c st e) → Grows e a.stage f → Grows c st f
grow_then c e f st a b = record {
  stage = b.stage;
  same = b.same ∙ a.same;
  alike = alike_then c.state e.state f.state a.alike b.alike;
  built = b.built ∙ a.built;
  tags = b.tags ∙ a.tags;
  shows = b.shows ∙ a.shows;
}

-- lines leave what is still to do, and all that the network and the banks hold
pub grow_all : (hs : List Handing) (c : Core) (st : Stage c) → All (λ h. BringsWords h.line) hs → Grows c st (with_lines c hs)
grow_all [] c st brings = grow_same c st
grow_all (h ∷ hs) c st brings =
    let one = grow_one c st h (All-head (λ h. BringsWords h.line) h hs brings) (refused c h.processor h.line) refl in
    grow_then c (taken_by c h (refused c h.processor h.line)) _ st one
    (grow_all hs (taken_by c h (refused c h.processor h.line)) one.stage (All-tail (λ h. BringsWords h.line) h hs brings))
