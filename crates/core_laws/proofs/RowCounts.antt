-- What the counts of a tile tell of its move.
use Rattle.std.proofs.Common.{◌≡◌, ℕ, ◌≤◌, List, [], ◌∷◌, ◌++◌, length, Option, Some, None, sym, ◌∙◌, ap, arith, slice_get}
use Rattle.std.proofs.lemmas.List.{length_push}
use Rattle.home_bank.specs.declared.entry.Entry.{Entry}
use Rattle.one_order.proofs.Lists.{get_push}
use Rattle.one_order.specs.ProcessorRecord.{ProcessorRecord, answer_of}
use Rattle.one_order.specs.Flight.{Move, Sends, Serves, Takes}
use Rattle.core_laws.specs.Tile.{TileState}
use Rattle.core_laws.proofs.TileMoves.{RecordMoved, EntriesMoved}
use Rattle.core_laws.proofs.Events.{no_more}
use Rattle.core_laws.specs.Notes.{IsLevel, RisesByOne}

-- a list with one more has something behind its old end
no_end : {A : Type 0} (xs ys : List A) (x : A) → ys ≡ xs ++ x ∷ [] → slice_get ys (length xs) ≡ None → ⊥
no_end xs ys x e none =
    let some = sym (get_push xs x) ∙ (sym (ap (λ zs. slice_get zs (length xs)) e) ∙ none) in cc

module _ (tiles t : ℕ) (m : List ℕ) (v w : TileState) where
  abbrev b : ProcessorRecord
  b = v.processor.operations

  abbrev c : ProcessorRecord
  c = w.processor.operations

  -- a record that stayed, and entries that stayed
  level : c ≡ b → w.bank.entries ≡ v.bank.entries → IsLevel v w
  level h k = record {
    issued = ap (λ (r : ProcessorRecord). length r.issued) h;
    answers = ap (λ (r : ProcessorRecord). length r.answers) h;
    entries = ap length k;
  }

  pub rises : (move : Option Move) → RecordMoved t b c move → EntriesMoved tiles t m v.bank.entries w.bank.entries move → RisesByOne v w
  rises None h k =
      let same = level h k in
      let i = same.issued in
      let a = same.answers in
      let e = same.entries in
      record { issued = omega (arith, i); answers = omega (arith, a); entries = omega (arith, e); all = omega (arith, i, a, e) }
  rises (Some (Sends p tag o)) h k =
      let i = ap (λ (r : ProcessorRecord). length r.issued) h.1 ∙ length_push b.issued o in
      let a = ap (λ (r : ProcessorRecord). length r.answers) h.1 in
      let e = ap length k in
      record { issued = omega (arith, i); answers = omega (arith, a); entries = omega (arith, e); all = omega (arith, i, a, e) }
  rises (Some (Takes r)) h k =
      let i = ap (λ (x : ProcessorRecord). length x.issued) h in
      let a = ap (λ (x : ProcessorRecord). length x.answers) h ∙ length_push b.answers (answer_of b r) in
      let e = ap length k in
      record { issued = omega (arith, i); answers = omega (arith, a); entries = omega (arith, e); all = omega (arith, i, a, e) }
  rises (Some (Serves r)) h k =
      let i = ap (λ (x : ProcessorRecord). length x.issued) h in
      let a = ap (λ (x : ProcessorRecord). length x.answers) h in
      let e = ap length k ∙ length_push v.bank.entries _ in
      record { issued = omega (arith, i); answers = omega (arith, a); entries = omega (arith, e); all = omega (arith, i, a, e) }

  pub stays : (move : Option Move) → RecordMoved t b c move → EntriesMoved tiles t m v.bank.entries w.bank.entries move
      → length c.issued ≤ length b.issued → slice_get c.answers (length b.answers) ≡ None → slice_get w.bank.entries (length v.bank.entries) ≡ None
      → IsLevel v w
  stays None h k issued answers entries = level h k
  stays (Some (Sends p tag o)) h k issued answers entries =
      let more = ap (λ (r : ProcessorRecord). length r.issued) h.1 in absurd (omega (arith, more, issued, length_push b.issued o))
  stays (Some (Takes r)) h k issued answers entries = absurd (no_end b.answers c.answers (answer_of b r) (ap (λ (x : ProcessorRecord). x.answers) h) answers)
  stays (Some (Serves r)) h k issued answers entries = absurd (no_end v.bank.entries w.bank.entries _ k entries)

  -- where there is one entry more, the record stayed
  pub record_stays : (move : Option Move) → RecordMoved t b c move → EntriesMoved tiles t m v.bank.entries w.bank.entries move
      → (e : Entry) → slice_get w.bank.entries (length v.bank.entries) ≡ Some e → c ≡ b
  record_stays None h k e there = h
  record_stays (Some (Sends p tag o)) h k e there = absurd (no_more v.bank.entries w.bank.entries e k there)
  record_stays (Some (Takes r)) h k e there = absurd (no_more v.bank.entries w.bank.entries e k there)
  record_stays (Some (Serves r)) h k e there = h
