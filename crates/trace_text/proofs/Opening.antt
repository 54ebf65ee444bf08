-- Opening words by address.
use Rattle.std.proofs.Common.{◌≡◌, ⊎_elim, ℕ, ◌<◌, ◌≤◌, Some, None, refl, sym, ◌∙◌, arith, get_or, length}
use Rattle.std.specs.Prelude.{Option, unwrap_or}
use Rattle.std.proofs.lemmas.Bool.{cases_lt}
use Rattle.std.proofs.lemmas.List.{get_or_past}
use Rattle.std.proofs.lemmas.List.FromFn.{length-map-range_with_len, get_or-map-range_with_len}
use Rattle.trace_text.specs.Kept.{IsKeptIssue}
use Rattle.trace_lines.specs.Head.{value_in}
use Rattle.trace_text.specs.Traced.{TraceReading, TraceSpec, opening_of}
use Rattle.trace_text.specs.Findings.{trace_read}

-- there are as many as the memory has words
pub length-opening : (t : TraceSpec) → length (opening_of t) ≡ t.words
length-opening t = length-map-range_with_len (λ a. unwrap_or (value_in t.inits a) 0) 0 t.words

none_or : (o : Option ℕ) → ((w : ℕ) → o ≡ Some w → ⊥) → unwrap_or o 0 ≡ 0
none_or None none = refl
none_or (Some w) none = absurd (none w refl)

-- the word that lines gave an address, 0 where none did, is its opening word
pub opening_is : (r : TraceReading) → IsKeptIssue r → (a : ℕ) → unwrap_or (value_in r.head.inits a) 0 ≡ get_or (opening_of (trace_read r)) a 0
opening_is r k a = ⊎_elim
    (λ (low : a < r.head.words). sym (get_or-map-range_with_len (λ b. unwrap_or (value_in r.head.inits b) 0) 0 r.head.words a a 0 low (omega arith)))
    (λ (past : r.head.words ≤ a).
    let sized = length-opening (trace_read r) in
    none_or (value_in r.head.inits a) (λ w h. let low = k.opened a w h in absurd (omega arith))
    ∙ sym (get_or_past (opening_of (trace_read r)) a 0 (omega (arith, sized, past))))
    (cases_lt a r.head.words)
