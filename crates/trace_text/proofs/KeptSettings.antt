-- What the lines of the head keep true.
use Rattle.std.proofs.Common.{◌≡◌, ◌≢◌, ⊎_elim, ℕ, ◌<◌, ◌≤◌, ◌^◌, ◌==◌, ◌&&◌, true, false, List, [], ◌∷◌, length, Some, None, refl, sym, ◌∙◌}
use Rattle.std.proofs.Common.{subst, arith}
use Rattle.std.specs.Prelude.{Bool, nat_lt, nat_le, not, Ok, codes}
use Rattle.std.specs.Str.{bytes_eq}
use Rattle.std.proofs.lemmas.Bool.{cases_eq}
use Rattle.std.proofs.lemmas.Bool.Decides.{nat_tests}
use Rattle.std.proofs.lemmas.List.{length-replicate}
use Rattle.trace_lines.specs.Form.{number_at}
use Rattle.trace_lines.specs.Head.{HeadSpec, value_in, with_value, opening_wrong, after_init_line, after_words_line, after_title}
use Rattle.trace_text.specs.Kept.{IsKeptIssue}
use Rattle.trace_text.specs.Lines.{words_within}
use Rattle.trace_text.specs.Traced.{TraceReading, no_trace_read}
use Rattle.trace_text.proofs.Entries.{value_old}
use Rattle.trace_text.proofs.Growing.{none_issued, none_answered, none_trace}
use Rattle.trace_text.proofs.Outcomes.{one_ok, bind_ok, else_ok, then_ok, unless_ok, passed, not_true, lt_true}

pub kept_none : IsKeptIssue no_trace_read
kept_none = record {
  words = omega arith;
  processors = length-replicate {A = List ℕ} 4096 [];
  opened = λ a w h. absurd (let e : None ≡ Some w = h in cc);
  trace = none_trace 0;
  lines = refl;
  known = λ i c h. absurd (none_issued i c h);
  issued = λ n l. absurd (omega arith);
  replied = λ i id reply h. absurd (none_answered i id reply h);
  indexed = λ n i h. absurd (let e : None ≡ Some i = h in cc);
  placed = λ i c h. absurd (none_issued i c h);
  addressed = λ a p h. absurd (let e : None ≡ Some p = h in cc);
  below = λ p a h. absurd (let e : None ≡ Some a = h in cc);
}

-- one opening word more
opened_more : (entries : List (ℕ × ℕ)) (words a v : ℕ) → a < words → ((b w : ℕ) → value_in entries b ≡ Some w → b < words)
    → (b w : ℕ) → value_in (with_value entries a v) b ≡ Some w → b < words
opened_more entries words a v low before b w h = ⊎_elim
    (λ (e : b ≡ a). subst (λ (n : ℕ). n < words) (sym e) low)
    (λ (ne : b ≢ a). before b w (sym (value_old entries a v b ne) ∙ h))
    (cases_eq b a)

-- a reading with another head: what was below the number of words still is
head_kept : (r : TraceReading) → IsKeptIssue r → (head : HeadSpec) → head.words ≤ 2 ^ 32
    → ((a w : ℕ) → value_in head.inits a ≡ Some w → a < head.words) → ((n : ℕ) → n < r.head.words → n < head.words)
    → IsKeptIssue (record r { head = head })
head_kept r k head most opened low = record {
  words = most;
  processors = k.processors;
  opened = opened;
  trace = record {
    rising = k.trace.rising;
    issued = k.trace.issued;
    once = k.trace.once;
    inside = λ i c at. low c.operation.address (k.trace.inside i c at);
  };
  lines = k.lines;
  known = k.known;
  issued = k.issued;
  replied = k.replied;
  indexed = k.indexed;
  placed = k.placed;
  addressed = k.addressed;
  below = λ p a at. low a (k.below p a at);
}

-- an opening word
pub init_kept : (r : TraceReading) → IsKeptIssue r → (late : Bool) (values : List (List ℕ)) (head : HeadSpec)
    → after_init_line r.head late values ≡ Ok head → IsKeptIssue (record r { head = head })
init_kept r k late [] head h = absurd (cc)
init_kept r k late (a ∷ []) head h = absurd (cc)
init_kept r k late (a ∷ b ∷ c ∷ more) head h = absurd (cc)
init_kept r k late (address ∷ value ∷ []) head h =
    let a = bind_ok (number_at 1 address) _ head h in
    let v = bind_ok (number_at 2 value) _ head a.2 in
    let good = unless_ok (opening_wrong r.head late a.0 v.0) _ head v.2 in
    let given = passed (r.head.words == 0) _ _ good.0 in
    let early = passed late _ _ given.1 in
    let low = passed (not (nat_lt a.0 r.head.words)) _ _ early.1 in
    let same : record (r.head) { inits = with_value r.head.inits a.0 v.0 } ≡ head = one_ok _ head good.1 in
    subst (λ (n : HeadSpec). IsKeptIssue (record r { head = n })) same
    (head_kept r k (record (r.head) { inits = with_value r.head.inits a.0 v.0 }) k.words
    (opened_more r.head.inits r.head.words a.0 v.0 (lt_true a.0 r.head.words (not_true (nat_lt a.0 r.head.words) low.0)) k.opened)
    (λ n l. l))

zero_is : (n : ℕ) → (n == 0) ≡ true → n ≡ 0
zero_is n h = grind (arith, nat_tests, h)

le_true : (a b : ℕ) → nat_le a b ≡ true → a ≤ b
le_true a b h = grind (arith, nat_tests, h)

both : (a b : Bool) → (a && b) ≡ true → b ≡ true
both true b h = h
both false b h = absurd (cc)

count_kept : (r : TraceReading) → IsKeptIssue r → (values : List (List ℕ)) (head : HeadSpec)
    → after_words_line r.head values ≡ Ok head → IsKeptIssue (record r { head = head })
count_kept r k [] head h = absurd (cc)
count_kept r k (a ∷ b ∷ more) head h = absurd (cc)
count_kept r k (count ∷ []) head h =
    let w = bind_ok (number_at 1 count) _ head h in
    let new = else_ok (not (r.head.words == 0)) _ _ head w.2 in
    let small = then_ok (nat_le 1 w.0 && nat_le w.0 (2 ^ 32)) _ _ head new.1 in
    let same : record (r.head) { words = w.0 } ≡ head = one_ok _ head small.1 in
    let none : r.head.words ≡ 0 = zero_is r.head.words (not_true (r.head.words == 0) new.0) in
    subst (λ (n : HeadSpec). IsKeptIssue (record r { head = n })) same
    (head_kept r k (record (r.head) { words = w.0 }) (le_true w.0 (2 ^ 32) (both (nat_le 1 w.0) (nat_le w.0 (2 ^ 32)) small.0))
    (λ a v at. absurd (let l = k.opened a v at in omega arith)) (λ n l. absurd (omega arith)))

-- the number of words, at most so many
pub words_kept : (r : TraceReading) → IsKeptIssue r → (most : ℕ) (values : List (List ℕ)) (head : HeadSpec)
    → words_within most r.head values ≡ Ok head → IsKeptIssue (record r { head = head })
words_kept r k most values head h =
    let w = bind_ok (after_words_line r.head values) _ head h in
    let few = else_ok (nat_lt most w.0.words) _ _ head w.2 in
    subst (λ (n : HeadSpec). IsKeptIssue (record r { head = n })) (one_ok w.0 head few.1) (count_kept r k values w.0 w.1)

-- the first line
pub title_kept : (r : TraceReading) → IsKeptIssue r → (keyword : List ℕ) (values : List (List ℕ)) (head : HeadSpec)
    → after_title r.head (codes "trace") keyword values ≡ Ok head → IsKeptIssue (record r { head = head })
title_kept r k keyword [] head h = absurd (cc)
title_kept r k keyword (a ∷ b ∷ more) head h = absurd (cc)
title_kept r k keyword (version ∷ []) head h =
    let known = then_ok (bytes_eq keyword (codes "trace") && bytes_eq version (codes "1")) _ _ head h in
    let same : record (r.head) { begun = true } ≡ head = one_ok _ head known.1 in
    subst (λ (n : HeadSpec). IsKeptIssue (record r { head = n })) same
    (head_kept r k (record (r.head) { begun = true }) k.words k.opened (λ n l. l))
