-- The tests of a line, one after the other.
use Rattle.std.proofs.Common.{◌≡◌, ℕ, ◌<◌, ◌≤◌, ◌==◌, ◌&&◌, Bool, true, false, not, List, length, Option, Some, None, refl, sym, ◌∙◌, ap}
use Rattle.std.specs.Prelude.{nat_lt, slice_index, if◌then◌else◌}
use Rattle.std.proofs.lemmas.Bool.{lt-ltb, le-ltb}
use Rattle.torus.specs.declared.fault.Fault.{Fault}
use Rattle.torus.specs.declared.fault.Fault.TheVariants as fault
use Rattle.script_lines.specs.declared.line.Line.{Line}
use Rattle.script_lines.specs.Lines.{mentions_last}
use Rattle.one_order.specs.Scripts.{address_of}
use Rattle.core_laws.specs.Machine.{Core}
use Rattle.core_laws.specs.Handed.{is_word, has_loads, is_too_long, refused}

abbrev tests : Bool → Bool → Bool → Bool → Bool → Option Fault
tests there named loads unled long =
    if not there then Some fault.Processor
    else (if not named then Some fault.Address
    else (if not loads then Some fault.Range
    else (if unled then Some fault.Last
    else (if long then Some fault.Length else None))))

module _ (allowed : List ℕ) (words p : ℕ) (line : Line) where
  abbrev refused_by : Option Fault
  refused_by = tests (nat_lt p (length allowed)) (is_word words (address_of line)) (has_loads line) (mentions_last line && (slice_index allowed p == 0))
      (is_too_long allowed p line)

  -- a machine refuses the line as the tests of its lists tell
  pub by_lists : (answer : Option Fault) → answer ≡ refused_by → (c : Core) → c.allowed ≡ allowed → length c.opening ≡ words → answer ≡ refused c p line
  by_lists answer is c same count =
      is ∙ (ap (λ (xs : List ℕ). tests (nat_lt p (length xs)) (is_word words (address_of line)) (has_loads line)
      (mentions_last line && (slice_index xs p == 0)) (is_too_long xs p line)) (sym same)
      ∙ ap (λ (n : ℕ). tests (nat_lt p (length c.allowed)) (is_word n (address_of line)) (has_loads line)
      (mentions_last line && (slice_index c.allowed p == 0)) (is_too_long c.allowed p line)) (sym count))

  pub by_processor : length allowed ≤ p → Some fault.Processor ≡ refused_by
  by_processor past = let there = le-ltb p (length allowed) past in rw there refl

  module _ (low : p < length allowed) where
    pub by_address : is_word words (address_of line) ≡ false → Some fault.Address ≡ refused_by
    by_address named = let there = lt-ltb p (length allowed) low in rw (there, named) refl

    module _ (named : is_word words (address_of line) ≡ true) where
      pub by_range : has_loads line ≡ false → Some fault.Range ≡ refused_by
      by_range loads = let there = lt-ltb p (length allowed) low in rw (there, named, loads) refl

      module _ (loads : has_loads line ≡ true) where
        pub by_last : (mentions_last line && (slice_index allowed p == 0)) ≡ true → Some fault.Last ≡ refused_by
        by_last unled = let there = lt-ltb p (length allowed) low in rw (there, named, loads, unled) refl

        module _ (unled : (mentions_last line && (slice_index allowed p == 0)) ≡ false) where
          pub by_length : is_too_long allowed p line ≡ true → Some fault.Length ≡ refused_by
          by_length long = let there = lt-ltb p (length allowed) low in rw (there, named, loads, unled, long) refl

          pub by_none : is_too_long allowed p line ≡ false → None ≡ refused_by
          by_none long = let there = lt-ltb p (length allowed) low in rw (there, named, loads, unled, long) refl
