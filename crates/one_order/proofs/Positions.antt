-- The rows by bank and place, event by event: how a machine finds the row of an answer.
use Rattle.std.proofs.Common.{◌≡◌, ◌≢◌, ⊎_elim, ℕ, ◌+◌, ◌<◌, ◌==◌, cond, List, [], ◌∷◌, ◌++◌, length, take, Some, None, refl, sym, ◌∙◌, ap, subst, slice_get}
use Rattle.std.proofs.Common.{slice_set, replicate}
use Rattle.std.proofs.lemmas.Bool.{cases_eq}
use Rattle.std.proofs.lemmas.List.{length-replicate}
use Rattle.std.proofs.lemmas.Option.{slice_get_within, same_Some}
use Rattle.home_bank.specs.declared.entry.Entry.{Entry}
use Rattle.one_order.specs.declared.answer.Answer.{Answer}
use Rattle.one_order.specs.declared.ordered.Ordered.{Ordered}
use Rattle.one_order.specs.Observed.{Observed, Run, list_at}
use Rattle.one_order.specs.Order.{LinearizationPoint, home, count_at}
use Rattle.one_order.specs.Rows.{AreRowsOf, ArePositions}
use Rattle.one_order.specs.Events.{push_at, nothing_yet, TellsService}
use Rattle.one_order.proofs.Lists.{get_append_left, get_push, push_at_cases, length-push_at, length_list_at_push, list_at_none, get_set_same, get_set_other}
use Rattle.one_order.proofs.EventNumbers.{point_of}
use Rattle.one_order.proofs.Naming.{one_point, same_point}
use Rattle.one_order.proofs.OrderRows.{row_answered}

-- The row with an answer's bank and place is its operation's.
pub row_of_answer : (tiles : ℕ) (opening : List ℕ) (run : Run) (n : ℕ) (order : List LinearizationPoint) (rows : List Ordered)
    → AreRowsOf tiles run n order rows
    → (p : ℕ) (a : Answer) → TellsService tiles opening order p a → (k : ℕ) (row : Ordered) → slice_get rows k ≡ Some row → row.bank ≡ a.bank
    → row.place ≡ a.place → (row.source ≡ p) × (row.index ≡ a.index)
row_of_answer tiles opening run n order rows are p a tells k row h bank place =
    let at = point_of tiles run n order rows are k row h in
    let x : LinearizationPoint = at.point in
    let b : ℕ = home tiles x.operation in
    let homes : home tiles tells.point.operation ≡ b = sym tells.bank ∙ (sym bank ∙ at.is.bank) in
    let counts : count_at tiles b (take tells.k order) ≡ count_at tiles b (take k order) =
    ap (λ c. count_at tiles c (take tells.k order)) (sym (sym bank ∙ at.is.bank)) ∙ (sym tells.place ∙ (sym place ∙ at.is.place)) in
    let same = one_point tiles order tells.k k b tells.point x tells.there at.there homes refl counts in
    let point = same_point order tells.k k tells.point x tells.there at.there same in (
      at.is.source ∙ (ap (λ (y : LinearizationPoint). y.source) (sym point) ∙ tells.source),
      at.is.index
          ∙ (ap (λ (y : LinearizationPoint). y.index) (sym point) ∙ tells.index),
    )

pub positions_none : (tiles : ℕ) (opening : List ℕ) → ArePositions (nothing_yet tiles opening) [] (replicate tiles [])
positions_none tiles opening = record {
  banks = length-replicate tiles [] ∙ sym (length-replicate tiles []);
  count = λ b. ap length (list_at_none {A = ℕ} tiles b) ∙ sym (ap length (list_at_none {A = Entry} tiles b));
  each = λ b place k h. let e : None ≡ Some k = sym (ap (λ xs. slice_get xs place) (list_at_none {A = ℕ} tiles b)) ∙ h in cc;
}

-- Where no entry comes and no row changes, they stay.
pub positions_kept : (s t : Observed) (rows : List Ordered) (positions : List (List ℕ)) → s.entries ≡ t.entries → ArePositions s rows positions
    → ArePositions t rows positions
positions_kept s t rows positions same old = record {
  banks = old.banks ∙ ap length same;
  count = λ b. old.count b ∙ ap (λ xss. length (list_at xss b)) same;
  each = old.each;
}

-- A service adds the position of its row.
pub positions_served : (s t : Observed) (rows : List Ordered) (positions : List (List ℕ)) (b : ℕ) (e : Entry) (row : Ordered) → b < length s.entries
    → t.entries ≡ push_at s.entries b e
    → row.bank ≡ b → row.place ≡ length (list_at s.entries b) → ArePositions s rows positions
    → ArePositions t (rows ++ row ∷ []) (push_at positions b (length rows))
positions_served s t rows positions b e row b_in next bank place old =
    let there : b < length positions = subst (λ (n : ℕ). b < n) (sym old.banks) b_in in
    record {
      banks = length-push_at positions b (length rows) ∙ (old.banks ∙ (sym (length-push_at s.entries b e) ∙ ap length (sym next)));
      count = λ c. length_list_at_push positions b (length rows) c there ∙ (ap (λ n. n + cond (b == c) 1 0) (old.count c)
          ∙ (sym (length_list_at_push s.entries b e c b_in) ∙ ap (λ xss. length (list_at xss c)) (sym next)));
      each = λ c k j h. ⊎_elim
          (λ was. let r = old.each c k j was in (r.0, get_append_left rows (row ∷ []) j r.0 r.1, r.2, r.3))
          (λ (new : (c ≡ b) × (k ≡ length (list_at positions b)) × (length rows ≡ j)).
          (row, ap (slice_get (rows ++ row ∷ [])) (sym new.2) ∙ get_push rows row, bank ∙ sym new.0, place ∙ (sym (old.count b) ∙ sym new.1)))
          (push_at_cases positions b (length rows) c k j h);
    }

-- An answer in a row leaves its bank and place.
pub positions_answered : (s t : Observed) (rows : List Ordered) (positions : List (List ℕ)) (at m : ℕ) (was : Ordered) → s.entries ≡ t.entries
    → slice_get rows at ≡ Some was
    → ArePositions s rows positions → ArePositions t (slice_set rows at (row_answered was m)) positions
positions_answered s t rows positions at m was same there old =
    let kept = positions_kept s t rows positions same old in
    record {
      banks = kept.banks;
      count = kept.count;
      each = λ b place k h.
          let r = old.each b place k h in
          ⊎_elim
          (λ (here : k ≡ at).
          let row : r.0 ≡ was = same_Some r.0 was (sym r.1 ∙ (ap (slice_get rows) here ∙ there)) in (
            row_answered was m,
            ap (slice_get (slice_set rows at (row_answered was m))) here ∙ get_set_same rows at (row_answered was m) (slice_get_within rows at was there),
            ap (λ (z : Ordered). z.bank) (sym row) ∙ r.2,
            ap (λ (z : Ordered). z.place) (sym row) ∙ r.3,
          ))
          (λ (other : k ≢ at). (r.0, get_set_other rows at k (row_answered was m) other ∙ r.1, r.2, r.3))
          (cases_eq k at);
    }
