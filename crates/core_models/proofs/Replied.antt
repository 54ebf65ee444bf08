-- Each operation of a run replied what is due where it finds the word that the last write before it left.
use Rattle.std.proofs.Common.{◌≡◌, inl, inr, ℕ, ◌%◌, ◌<◌, ◌≤◌, true}
use Rattle.std.proofs.Common.{List, length, take, Some, refl, sym, ◌∙◌, ap, subst, arith}
use Rattle.std.proofs.Common.{slice_get, slice_index}
use Rattle.std.specs.Prelude.{option_map}
use Rattle.std.proofs.lemmas.Bool.{cases_order}
use Rattle.std.proofs.lemmas.Option.{same_Some, slice_get_within}
use Rattle.packet.specs.declared.kinds.Op.TheVariants as op
use Rattle.packet.specs.declared.kinds.Operation.{Operation as Asked}
use Rattle.packet.specs.declared.kinds.Reply.{Reply}
use Rattle.packet.specs.Memory.{new_word, reply_to, memory_after}
use Rattle.script_lines.specs.declared.line.Line.{Line}
use Rattle.memory_models.specs.Trace.{is_write}
use Rattle.model_text.specs.Kinds.{kind_of_op}
use Rattle.one_order.specs.Scripts.{reply_number}
use Rattle.home_bank.specs.declared.entry.Entry.{Entry}
use Rattle.one_order.specs.declared.ordered.Ordered.{Ordered}
use Rattle.one_order.specs.Observed.{Run, list_at}
use Rattle.one_order.specs.Order.{LinearizationPoint, operations_of}
use Rattle.one_order.specs.OneOrder.{HasOneOrder}
use Rattle.one_order.proofs.Lists.{within_length, list_within}
use Rattle.one_order.proofs.EventNumbers.{numbers}
use Rattle.one_order.specs.AbstractScripts.{FollowScripts}
use Rattle.core_models.specs.Accesses.{Access, opening_store, operation_of_row}
use Rattle.core_models.specs.Traces.{access_at, IsLastWriteBefore}
use Rattle.core_models.specs.Values.{reply_of_row, RepliesWordOf}
use Rattle.core_models.proofs.Rising.{place_of}
use Rattle.core_models.proofs.Ranges.{index_of_get, get_of_map}
use Rattle.core_models.proofs.Services.{write_uses}
use Rattle.core_models.proofs.Rows.{point, row_operation, served_some}
use Rattle.core_models.proofs.Served as seen
use Rattle.core_models.proofs.Served.{at_access}
use Rattle.core_models.proofs.Known.{has_row}
use Rattle.core_models.proofs.Words.{left_is, reply_at_place, word_kept, word_left}

module _ (tiles tags : ℕ) (opening : List ℕ) (run : Run) (n : ℕ) (rows : List Ordered) (one : HasOneOrder tiles tags opening run n rows)
    (scripts : List (List Line)) (follow : FollowScripts run n scripts) (all_there : length scripts ≡ tiles) where
  abbrev asked : List Asked
  asked = operations_of one.order

  abbrev before_place : ℕ → List ℕ
  before_place k = memory_after (take k asked) opening

  abbrev made_by : Ordered → Access
  made_by row = seen.made_by tiles tags opening run n rows one scripts follow row

  abbrev shown : List Access
  shown = seen.shown tiles tags opening run n rows one scripts follow

  -- the operation of a row, in the order
  abbrev ask : (k : ℕ) (row : Ordered) → slice_get rows k ≡ Some row → Asked
  ask k row at = (point tiles tags opening run n rows one k row at).point.operation

  row_op : (k : ℕ) (row : Ordered) (at : slice_get rows k ≡ Some row) → operation_of_row (run n) row ≡ ask k row at
  row_op k row at = index_of_get (list_at (run n).issued row.source) (record { address = 0; op = op.Load }) row.index (ask k row at)
      (row_operation tiles tags opening run n rows one k row at)

  asked_at : (k : ℕ) (row : Ordered) (at : slice_get rows k ≡ Some row) → slice_get asked k ≡ Some (ask k row at)
  asked_at k row at = get_of_map (λ (x : LinearizationPoint). x.operation) one.order k (point tiles tags opening run n rows one k row at).point
      (point tiles tags opening run n rows one k row at).there

  -- what the entry of a row replied
  row_replied : (k : ℕ) (row : Ordered) (at : slice_get rows k ≡ Some row)
      → reply_of_row (run n) row ≡ Some (reply_to (ask k row at).op (slice_index (before_place k) (ask k row at).address))
  row_replied k row at =
      let p = point tiles tags opening run n rows one k row at in
      let was = one.services.served k p.point p.there in
      let entry : Entry = was.entry in
      let there = subst (λ b. slice_get (list_at (run n).entries b) row.place ≡ Some entry) (sym p.is.bank)
      (subst (λ i. slice_get (list_at (run n).entries (p.point.operation.address % tiles)) i ≡ Some entry) (sym p.is.place) was.there) in
      ap (option_map (λ (e : Entry). e.reply)) there ∙ (sym was.reply ∙ reply_at_place asked opening k (ask k row at) (asked_at k row at))

  rises : (j k : ℕ) (x y : Ordered) → j < k → slice_get rows j ≡ Some x → slice_get rows k ≡ Some y → x.served < y.served
  rises j k x y less here there = (numbers tiles tags opening run n rows one).rising j k x y less here there

  module _ (x k : ℕ) (row : Ordered) (here : slice_get shown x ≡ Some (made_by row)) (at : slice_get rows k ≡ Some row)
      (f : ℕ) (found : IsLastWriteBefore shown f x) where
    low : x < length shown
    low = slice_get_within shown x (made_by row) here

    is_row : access_at shown x ≡ made_by row
    is_row = same_Some (access_at shown x) (made_by row) (sym (at_access shown x low) ∙ here)

    abbrev word : ℕ
    word = (ask k row at).address

    word_is : (access_at shown x).word ≡ word
    word_is = ap (λ (a : Access). a.word) is_row ∙ ap (λ (o : Asked). o.address) (row_op k row at)

    -- each earlier write on the word was served no later than the source
    no_later : (i : ℕ) (q : Asked) → i < k → slice_get asked i ≡ Some q → q.address ≡ word → is_write (kind_of_op q.op) ≡ true
        → (other : Ordered) × (slice_get rows i ≡ Some other) × (other.served ≤ (access_at shown f).served)
    no_later i q less there same write =
        let within = slice_get_within rows k row at in
        let row_i = within_length rows i (omega (arith, less, within)) in
        let other : Ordered = row_i.0 in
        let operation : ask i other row_i.1 ≡ q = same_Some (ask i other row_i.1) q (sym (asked_at i other row_i.1) ∙ there) in
        let mine : operation_of_row (run n) other ≡ q = row_op i other row_i.1 ∙ operation in
        let processor = list_within (run n).issued other.source other.index (ask i other row_i.1)
        (row_operation tiles tags opening run n rows one i other row_i.1) in
        let tiles_in = one.shown.processors in
        let place = place_of shown (made_by other)
        (has_row tiles tags opening run n rows one scripts follow i other row_i.1 (omega (arith, processor, tiles_in, all_there))) in
        let inside = slice_get_within shown place.0 (made_by other) place.1 in
        let is : access_at shown place.0 ≡ made_by other = same_Some (access_at shown place.0) (made_by other) (sym
        (at_access shown place.0 inside) ∙ place.1) in
        let time : (access_at shown place.0).served ≡ other.served = ap (λ (a : Access). a.served) is in
        let end : (access_at shown x).served ≡ row.served = ap (λ (a : Access). a.served) is_row in
        let rise = rises i k other row less row_i.1 at in
        let last = found.last place.0 inside (record {
          write = ap (λ (a : Access). is_write a.kind) is ∙ (ap (λ (o : Asked). is_write (kind_of_op o.op)) mine ∙ write);
          word = ap (λ (a : Access). a.word) is ∙ (ap (λ (o : Asked). o.address) mine ∙ (same ∙ sym word_is));
          before = omega (arith, time, end, rise);
        }) in
        (other, row_i.1, omega (arith, time, last))

    -- what the row replied is due where it finds the word before it
    replied_word : (w : ℕ) → slice_index (before_place k) word ≡ w → reply_of_row (run n) row ≡ Some (reply_to (operation_of_row (run n) row).op w)
    replied_word w is = row_replied k row at
        ∙ (ap (λ v. Some (reply_to (ask k row at).op v)) is ∙ ap (λ (o : Asked). Some (reply_to o.op w)) (sym (row_op k row at)))

    pub found_left : RepliesWordOf opening (run n) rows (access_at shown f) row
    found_left =
        let it = found.before in
        elim (seen.used_is tiles tags opening run n rows one scripts follow (access_at shown f) (write_uses (access_at shown f).kind it.write)
        (seen.fact_at tiles tags opening run n rows one scripts follow f found.low)) [
          | inl h ↦ (let none : (access_at shown f).served ≡ 0 = ap (λ (a : Access). a.served) h.2 in
              let named : (access_at shown f).word ≡ h.0 = ap (λ (a : Access). a.word) h.2 in
              let kept = word_kept asked opening word k (λ i q less there same write. (let other = no_later i q less there same write in
              let some = served_some tiles tags opening run n rows one i other.0 other.1 in let bound = other.2 in omega (arith, some, bound, none))) in
              let at_word : word ≡ (access_at shown f).word = sym word_is ∙ sym it.word in (
                slice_index opening (access_at shown f).word,
                inl (h.2 ∙ ap opening_store (sym named), refl),
                replied_word (slice_index opening (access_at shown f).word) (kept ∙ ap (slice_index opening) at_word),
              ))
          | inr h ↦ (let time : (access_at shown f).served ≡ h.row.served = ap (λ (a : Access). a.served) h.is in
              let end : (access_at shown x).served ≡ row.served = ap (λ (a : Access). a.served) is_row in
              let before = it.before in
              let less : h.k < k = elim (cases_order h.k k) [
                | inl same ↦ (let e : h.row ≡ row = same_Some h.row row (sym h.at ∙ (ap (slice_get rows) same ∙ at)) in
                    let s = ap (λ (r : Ordered). r.served) e in absurd (omega (arith, s, time, end, before)))
                | inr (inl l) ↦ l
                | inr (inr more) ↦ (let back = rises k h.k row h.row more at h.at in absurd (omega (arith, back, time, end, before)))
              ] in
              let same : (ask h.k h.row h.at).address ≡ word = sym (ap (λ (o : Asked). o.address) (row_op h.k h.row h.at))
              ∙ (sym (ap (λ (a : Access). a.word) h.is) ∙ (it.word ∙ word_is)) in
              let inside = one.shown.addresses row.source row.index (ask k row at) (row_operation tiles tags opening run n rows one k row at) in
              let left = word_left asked opening word h.k k (ask h.k h.row h.at) less (asked_at h.k h.row h.at) same inside
              (λ i q after until there same_word write. (
              let other = no_later i q until there same_word write in let bound = other.2 in
              let rise = rises h.k i h.row other.0 after h.at other.1 in omega (arith, bound, rise, time))) in
              let reply : Reply = reply_to (ask h.k h.row h.at).op (slice_index (before_place h.k) (ask h.k h.row h.at).address) in
              let w : ℕ = new_word (operation_of_row (run n) h.row).op (reply_number reply) in
              let is : w ≡ new_word (ask h.k h.row h.at).op (slice_index (before_place h.k) word) =
              ap (λ (o : Asked). new_word o.op (reply_number reply)) (row_op h.k h.row h.at)
              ∙ (left_is (ask h.k h.row h.at).op (slice_index (before_place h.k) (ask h.k h.row h.at).address)
              ∙ ap (λ b. new_word (ask h.k h.row h.at).op (slice_index (before_place h.k) b)) same) in (
                w,
                inr (record { k = h.k; row = h.row; reply = reply; there = h.at; is = h.is; replied = row_replied h.k h.row h.at; left = refl }),
                replied_word w (left ∙ sym is),
              ))
        ]
