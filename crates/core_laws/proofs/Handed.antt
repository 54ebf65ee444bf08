-- A machine that is handed a line at any time.
use Rattle.std.proofs.Common.{◌≡◌, ◌↔◌, ℕ, zero, suc, ◌+◌, ◌<◌, ◌==◌, ◌&&◌, Bool, true, false, not, List, [], ◌∷◌, length, map, Option, Some, None, refl, sym}
use Rattle.std.proofs.Common.{◌∙◌, ap, subst, arith, slice_get}
use Rattle.std.specs.Prelude.{nat_le, nat_lt, slice_index, sum, if◌then◌else◌}
use Rattle.std.proofs.lemmas.Bool.{ltb-true, lt-ltb, leb-true, le-leb, and_parts, and_from, eqb-false, ne_eqb, cond_both}
use Rattle.std.proofs.lemmas.List.{take_all, length-map, get_or-map, get_or_past}
use Rattle.std.proofs.lemmas.List.Sums.{sum-map}
use Rattle.torus.specs.declared.fault.Fault.{Fault}
use Rattle.torus.specs.declared.fault.Fault.TheVariants as fault
use Rattle.torus.specs.declared.step.Step.{Step}
use Rattle.script_lines.specs.declared.line.Line.{Line}
use Rattle.script_lines.specs.declared.line.Line.TheVariants as line
use Rattle.script_lines.specs.Lines.{operations_of, operation_count, total_count, script_of, mentions_last, IsAcceptedLine}
use Rattle.one_order.specs.Scripts.{address_of}
use Rattle.core_laws.specs.Tile.{TileState}
use Rattle.core_laws.specs.Core.{Load, after}
use Rattle.core_laws.proofs.EveryRun.{holds_in}
use Rattle.core_laws.specs.Machine.{Core, IsAfter, shown}
use Rattle.core_laws.specs.MachineMoves.{moves_of}
use Rattle.core_laws.specs.Appended.{appended, load_with, IsUnreported, MayFollow}
use Rattle.core_laws.proofs.Loads.{accepted_with}
use Rattle.core_laws.proofs.GrowthMachines.{grown}
use Rattle.core_laws.proofs.Shown.{shown_same}
use Rattle.core_laws.specs.Reopened.{reopened, without_reports}
use Rattle.core_laws.specs.Handed.{reported_in, has_reported, handed, moves_kept, is_word, has_loads, BringsWords, is_too_long, refused}
use Rattle.core_laws.proofs.UnreportedMachines.{any_time}
use Rattle.core_laws.proofs.UnreportedShown.{shown_open}

-- a processor that is there and hasn't reported
still_there : (tiles : List TileState) (p : ℕ) → p < length tiles → reported_in (slice_get tiles p) ≡ false
    → (tile : TileState) × (slice_get tiles p ≡ Some tile) × (tile.processor.reported ≡ false)
still_there [] p low out = absurd (omega (arith, low))
still_there (t ∷ tiles) zero low out = (t, refl, out)
still_there (t ∷ tiles) (suc p) low out = still_there tiles p (omega (arith, low)) out

module _ (l : Load) (c : Core) (steps : List Step) (p : ℕ) (line : Line) (h : IsAfter l c steps) (may : MayFollow l p line) where
  as_many : length c.state.tiles ≡ length l.scripts
  as_many = ap (λ s. length s.tiles) (h.state ∙ ap (after l) (sym (take_all (length steps) steps (omega arith))))
      ∙ ((holds_in l h.accepted steps (length steps)).stands.tiles ∙ sym h.accepted.processors)

  by_report : (b : Bool) → has_reported c.state p ≡ b
      → IsAfter (load_with l p line) (appended (if b then reopened c else c) p line) (if b then without_reports (moves_of l steps) else moves_of l steps)
  by_report true e = any_time l c steps p line h may
  by_report false e =
      let there = may.there in
      let x = still_there c.state.tiles p (omega (arith, as_many, there)) e in
      grown l c steps p line h (record { tile = x.0; there = x.1; unreported = x.2 }) (accepted_with l p line h.accepted may)

  pub stands : IsAfter (load_with l p line) (handed c p line) (moves_kept l c p steps)
  stands = by_report (has_reported c.state p) refl

shown_by : (c : Core) (p : ℕ) (line : Line) (b : Bool) → shown (appended (if b then reopened c else c) p line) ≡ shown c
shown_by c p line true = shown_same (reopened c) p line ∙ shown_open c
shown_by c p line false = shown_same c p line

pub shown_still : (c : Core) (p : ℕ) (line : Line) → shown (handed c p line) ≡ shown c
shown_still c p line = shown_by c p line (has_reported c.state p)

book_by : (c : Core) (p : ℕ) (line : Line) (b : Bool) → (appended (if b then reopened c else c) p line).book ≡ c.book
book_by c p line true = refl
book_by c p line false = refl

pub book_still : (c : Core) (p : ℕ) (line : Line) → (handed c p line).book ≡ c.book
book_still c p line = book_by c p line (has_reported c.state p)

-- the tests of a line, one after the other
record AllPass (there named loads unled long : Bool) : Type 0 where
  there_is : there ≡ true
  named_is : named ≡ true
  loads_is : loads ≡ true
  unled_is : unled ≡ false
  long_is : long ≡ false

tests : (there named loads unled long : Bool)
    → ◌≡◌ {A = Option Fault} (if not there then Some fault.Processor
    else (if not named then Some fault.Address
    else (if not loads then Some fault.Range
    else (if unled then Some fault.Last
    else (if long then Some fault.Length else None))))) None → AllPass there named loads unled long
tests false named loads unled long e = cc
tests true false loads unled long e = cc
tests true true false unled long e = cc
tests true true true true long e = cc
tests true true true false true e = cc
tests true true true false false e = record { there_is = refl; named_is = refl; loads_is = refl; unled_is = refl; long_is = refl }

tests_pass : (there named loads unled long : Bool) → AllPass there named loads unled long
    → ◌≡◌ {A = Option Fault} (if not there then Some fault.Processor
    else (if not named then Some fault.Address
    else (if not loads then Some fault.Range
    else (if unled then Some fault.Last
    else (if long then Some fault.Length else None))))) None
tests_pass there named loads unled long h = rw (h.there_is, h.named_is, h.loads_is, h.unled_is, h.long_is) refl

accepted_by : (words : ℕ) (first : Line) → is_word words (address_of first) ≡ true → has_loads first ≡ true → BringsWords first
    → IsAcceptedLine words first
accepted_by words (line.Load a) n m h = ltb-true a words n
accepted_by words (line.Store a v) n m h = (ltb-true a words n, h)
accepted_by words (line.Swap a v) n m h = (ltb-true a words n, h)
accepted_by words (line.Cas a e x) n m h = (ltb-true a words n, h.0, h.1)
accepted_by words (line.Add a v) n m h = (ltb-true a words n, h)
accepted_by words (line.And a v) n m h = (ltb-true a words n, h)
accepted_by words (line.Or a v) n m h = (ltb-true a words n, h)
accepted_by words (line.Xor a v) n m h = (ltb-true a words n, h)
accepted_by words (line.Max a v) n m h = (ltb-true a words n, h)
accepted_by words (line.Min a v) n m h = (ltb-true a words n, h)
accepted_by words line.Fence n m h = tt
accepted_by words (line.Spin a v k) n m h =
    let r = and_parts (nat_le 1 k) (nat_le k 4096) m in
    (ltb-true a words n, h, leb-true 1 k r.0, leb-true k 4096 r.1)

named_by : (words : ℕ) (first : Line) → IsAcceptedLine words first → is_word words (address_of first) ≡ true
named_by words (line.Load a) h = lt-ltb a words h
named_by words (line.Store a v) h = lt-ltb a words h.0
named_by words (line.Swap a v) h = lt-ltb a words h.0
named_by words (line.Cas a e x) h = lt-ltb a words h.0
named_by words (line.Add a v) h = lt-ltb a words h.0
named_by words (line.And a v) h = lt-ltb a words h.0
named_by words (line.Or a v) h = lt-ltb a words h.0
named_by words (line.Xor a v) h = lt-ltb a words h.0
named_by words (line.Max a v) h = lt-ltb a words h.0
named_by words (line.Min a v) h = lt-ltb a words h.0
named_by words line.Fence h = refl
named_by words (line.Spin a v k) h = lt-ltb a words h.0

loads_by : (words : ℕ) (first : Line) → IsAcceptedLine words first → has_loads first ≡ true
loads_by words (line.Spin a v k) h = and_from (nat_le 1 k) (nat_le k 4096) (le-leb 1 k h.2) (le-leb k 4096 h.3)
loads_by words first h = refl

-- a `last` has an operation before it
led_of : (b : Bool) (n : ℕ) → (b && (n == 0)) ≡ false → b ≡ true → 0 < n
led_of true n e is = let some = eqb-false n 0 e in omega (arith, some)
led_of false n e is = cc

unled_of : (b : Bool) (n : ℕ) → (b ≡ true → 0 < n) → (b && (n == 0)) ≡ false
unled_of true n some = let low = some refl in ne_eqb n 0 (λ e. omega (arith, e, low))
unled_of false n some = refl

short_of : (b : Bool) → not b ≡ false → b ≡ true
short_of true e = refl
short_of false e = cc

not_long : (b : Bool) → b ≡ true → not b ≡ false
not_long b e = ap not e

module _ (l : Load) (c : Core) (steps : List Step) (p : ℕ) (line : Line) (h : IsAfter l c steps) (brings : BringsWords line) where
  words_are : length c.opening ≡ length l.opening
  words_are = ap (λ (ws : List ℕ). length ws) h.opening

  count_is : length c.allowed ≡ length l.scripts
  count_is = ap (λ (ns : List ℕ). length ns) h.allowed ∙ length-map l.scripts operation_count

  all_is : sum c.allowed ≡ total_count l.scripts
  all_is = ap sum h.allowed ∙ sum-map operation_count l.scripts

  own_is : p < length l.scripts → slice_index c.allowed p ≡ operation_count (script_of l.scripts p)
  own_is low = ap (λ (ns : List ℕ). slice_index ns p) h.allowed ∙ get_or-map operation_count l.scripts p [] 0 low

  abbrev fits : Bool
  fits = nat_le (slice_index c.allowed p + operations_of line) 4096 && nat_le (sum c.allowed + operations_of line) 65536

  pub taken : refused c p line ≡ None → MayFollow l p line
  taken none =
      let t = tests (nat_lt p (length c.allowed)) (is_word (length c.opening) (address_of line)) (has_loads line)
      (mentions_last line && (slice_index c.allowed p == 0)) (is_too_long c.allowed p line) none in
      let low = ltb-true p (length c.allowed) t.there_is in
      let own = own_is (omega (arith, low, count_is)) in
      let r = and_parts (nat_le (slice_index c.allowed p + operations_of line) 4096) (nat_le (sum c.allowed + operations_of line) 65536)
      (short_of fits t.long_is) in
      let few = leb-true (slice_index c.allowed p + operations_of line) 4096 r.0 in
      let few_in_all = leb-true (sum c.allowed + operations_of line) 65536 r.1 in
      record {
        there = omega (arith, low, count_is);
        accepted = subst (λ (n : ℕ). IsAcceptedLine n line) words_are (accepted_by (length c.opening) line t.named_is t.loads_is brings);
        last = λ tells. let some = led_of (mentions_last line) (slice_index c.allowed p) t.unled_is tells in omega (arith, some, own);
        few = omega (arith, few, own);
        few_in_all = omega (arith, few_in_all, all_is);
      }

  pub takes : MayFollow l p line → refused c p line ≡ None
  takes may =
      let there = may.there in
      let own = own_is there in
      let few = may.few in
      let few_in_all = may.few_in_all in
      let ok : IsAcceptedLine (length c.opening) line = subst (λ (n : ℕ). IsAcceptedLine n line) (sym words_are) may.accepted in
      tests_pass (nat_lt p (length c.allowed)) (is_word (length c.opening) (address_of line)) (has_loads line)
      (mentions_last line && (slice_index c.allowed p == 0)) (is_too_long c.allowed p line) (record {
        there_is = lt-ltb p (length c.allowed) (omega (arith, there, count_is));
        named_is = named_by (length c.opening) line ok;
        loads_is = loads_by (length c.opening) line ok;
        unled_is = unled_of (mentions_last line) (slice_index c.allowed p) (λ tells. let some = may.last tells in omega (arith, some, own));
        long_is = not_long fits (and_from (nat_le (slice_index c.allowed p + operations_of line) 4096) (nat_le (sum c.allowed + operations_of line) 65536)
            (le-leb (slice_index c.allowed p + operations_of line) 4096 (omega (arith, few, own)))
            (le-leb (sum c.allowed + operations_of line) 65536 (omega (arith, few_in_all, all_is))));
      })

  pub told : (refused c p line ≡ None) ↔ MayFollow l p line
  told = (taken, takes)
