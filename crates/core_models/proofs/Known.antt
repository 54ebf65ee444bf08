-- The accesses of a run are served as a coherent memory with fences serves them; and none is left out.
use Rattle.std.proofs.Common.{◌≡◌, ◌⊎◌, inl, inr, ℕ, ◌+◌, ◌<◌, ◌==◌, ◌&&◌, true, false, cond, List, length, Some, None, Option}
use Rattle.std.proofs.Common.{refl, sym, ◌∙◌, ap, subst, arith, slice_get, eq-eqb, eqb-true}
use Rattle.std.specs.Prelude.{option_map}
use Rattle.std.proofs.lemmas.Bool.{cases_eq, cases_order, and_parts, and_from, both_ways}
use Rattle.std.proofs.lemmas.Option.{same_Some, slice_get_within}
use Rattle.packet.specs.declared.kinds.Operation.{Operation}
use Rattle.packet.specs.declared.kinds.Op.TheVariants as op
use Rattle.packet.specs.declared.kinds.Reply.{Reply}
use Rattle.script_lines.specs.declared.line.Line.{Line}
use Rattle.memory_models.specs.Trace.{is_load, is_write, uses_word}
use Rattle.one_order.specs.Scripts.{Invocation, IsAnsweredBefore}
use Rattle.one_order.specs.declared.ordered.Ordered.{Ordered}
use Rattle.one_order.specs.Observed.{Run, list_at}
use Rattle.one_order.specs.OneOrder.{HasOneOrder}
use Rattle.one_order.proofs.Lists.{same_get}
use Rattle.one_order.specs.AbstractScripts.{FollowScripts}
use Rattle.core_models.specs.Programs.{Made, program_shown}
use Rattle.core_models.specs.Accesses.{Access, opening_store, operation_of_row, row_named, access_of_step}
use Rattle.core_models.specs.Traces.{access_at}
use Rattle.core_models.proofs.Rising.{Has, has_left, has_right, has_piece, has_filter, place_of, found}
use Rattle.core_models.proofs.Ranges.{has_range, index_of_get}
use Rattle.core_models.proofs.Services.{AreServed, AreInTurn, load_uses}
use Rattle.core_models.proofs.Courses.{all_made}
use Rattle.core_models.proofs.Rows.{point, row_operation, same_name, same_served, served_some, word_served, invoked, answered_served}
use Rattle.core_models.proofs.Served as seen
use Rattle.core_models.proofs.Served.{IsOpening, IsLater, upto_access, at_access, op_uses_word}

-- each operation is answered before the next one is issued
abbrev pub InTurn : List Invocation → Type 0
InTurn ops = (i : ℕ) (o q : Invocation) → slice_get ops i ≡ Some o → slice_get ops (i + 1) ≡ Some q → (reply : Reply) × IsAnsweredBefore o q.issue reply

module _ (tiles tags : ℕ) (opening : List ℕ) (run : Run) (n : ℕ) (rows : List Ordered) (one : HasOneOrder tiles tags opening run n rows)
    (scripts : List (List Line)) (follow : FollowScripts run n scripts) where
  abbrev words : ℕ
  words = length opening

  abbrev made_by : Ordered → Access
  made_by row = seen.made_by tiles tags opening run n rows one scripts follow row

  abbrev shown : List Access
  shown = seen.shown tiles tags opening run n rows one scripts follow

  abbrev IsServed : Access → Type 0
  IsServed a = seen.IsServed tiles tags opening run n rows one scripts follow a

  later_at : (x y : ℕ) → x < y → y < length shown → IsLater (access_at shown x) (access_at shown y)
  later_at = seen.later_at tiles tags opening run n rows one scripts follow

  use_at : (x : ℕ) → x < length shown → uses_word (access_at shown x).kind ≡ true → IsOpening words (access_at shown x) ⊎ IsServed (access_at shown x)
  use_at x low used = seen.used_is tiles tags opening run n rows one scripts follow (access_at shown x) used
      (seen.fact_at tiles tags opening run n rows one scripts follow x low)

  -- the word of a row's access
  row_word : (k : ℕ) (row : Ordered) (at : slice_get rows k ≡ Some row)
      → (made_by row).word ≡ (point tiles tags opening run n rows one k row at).point.operation.address
  row_word k row at = ap (λ (o : Operation). o.address)
      (index_of_get (list_at (run n).issued row.source) (record { address = 0; op = op.Load }) row.index
      (point tiles tags opening run n rows one k row at).point.operation
      (row_operation tiles tags opening run n rows one k row at))

  word_low : (k : ℕ) (row : Ordered) → slice_get rows k ≡ Some row → (made_by row).word < words
  word_low k row at =
      let is = row_word k row at in
      let low = one.shown.addresses row.source row.index (point tiles tags opening run n rows one k row at).point.operation
      (row_operation tiles tags opening run n rows one k row at) in
      omega (arith, is, low)

  served_at : (a : Access) → IsServed a → 0 < a.served
  served_at a h =
      let is : a.served ≡ h.row.served = ap (λ (z : Access). z.served) h.is in
      let some = served_some tiles tags opening run n rows one h.k h.row h.at in
      omega (arith, is, some)

  processor_at : (a : Access) → (h : IsServed a) → a.processor ≡ words + h.row.source
  processor_at a h = ap (λ (z : Access). z.processor) h.is

  opening_upto : (a : Access) → IsOpening words a → upto_access a ≡ 1
  opening_upto a h = ap upto_access h.2

  opening_index : (a : Access) → IsOpening words a → a.index ≡ 0
  opening_index a h = ap (λ (z : Access). z.index) h.2

  opening_processor : (a : Access) (h : IsOpening words a) → a.processor ≡ h.0
  opening_processor a h = ap (λ (z : Access). z.processor) h.2

  opening_served : (a : Access) → IsOpening words a → a.served ≡ 0
  opening_served a h = ap (λ (z : Access). z.served) h.2

  row_upto : (a : Access) (h : IsServed a) → upto_access a ≡ h.row.index + 1
  row_upto a h = ap upto_access h.is ∙ ap (λ b. cond b (h.row.index + 1) h.row.index) (op_uses_word (operation_of_row (run n) h.row).op)

  row_index : (a : Access) (h : IsServed a) → a.index ≡ h.row.index
  row_index a h = ap (λ (z : Access). z.index) h.is

  -- of two of a processor that use words, both are of rows
  pub record Two (a b : Access) : Type 0 where
    first : IsServed a
    second : IsServed b
    source : first.row.source ≡ second.row.source
    less : first.row.index < second.row.index

  two_of : (a b : Access) → IsLater a b → a.processor ≡ b.processor → IsOpening words a ⊎ IsServed a → IsOpening words b ⊎ IsServed b → Two a b
  two_of a b later same (inl h) (inl k) =
      (let u = opening_upto a h in let v = opening_index b k in let l = later.indexes same in absurd (omega (arith, u, v, l)))
  two_of a b later same (inl h) (inr k) =
      (let u = opening_processor a h in let v = processor_at b k in let w = h.1 in absurd (omega (arith, u, v, w, same)))
  two_of a b later same (inr h) (inl k) =
      (let u = processor_at a h in let v = opening_processor b k in let w = k.1 in absurd (omega (arith, u, v, w, same)))
  two_of a b later same (inr h) (inr k) =
      (let u = processor_at a h in let v = processor_at b k in
      let i = row_upto a h in let j = row_index b k in let l = later.indexes same in
      record { first = h; second = k; source = omega (arith, u, v, same); less = omega (arith, i, j, l) })

  two_at : (x y : ℕ) → x < y → y < length shown → (access_at shown x).processor ≡ (access_at shown y).processor → uses_word (access_at shown x).kind ≡ true
      → uses_word (access_at shown y).kind ≡ true → Two (access_at shown x) (access_at shown y)
  two_at x y less low same used also =
      two_of (access_at shown x) (access_at shown y) (later_at x y less low) same (use_at x (omega (arith, less, low)) used) (use_at y low also)

  -- two on one word are served at two times
  never_at_once : (a b : Access) → IsLater a b → a.word ≡ b.word → a.served ≡ b.served → IsOpening words a ⊎ IsServed a → IsOpening words b ⊎ IsServed b → ⊥
  never_at_once a b later word time (inl h) (inl k) =
      (let u = ap (λ (z : Access). z.word) h.2 in let v = ap (λ (z : Access). z.word) k.2 in
      let p = opening_processor a h in let q = opening_processor b k in
      let l = later.indexes (omega (arith, u, v, p, q, word)) in
      let i = opening_upto a h in let j = opening_index b k in omega (arith, i, j, l))
  never_at_once a b later word time (inl h) (inr k) = (let u = opening_served a h in let v = served_at b k in omega (arith, u, v, time))
  never_at_once a b later word time (inr h) (inl k) = (let u = served_at a h in let v = opening_served b k in omega (arith, u, v, time))
  never_at_once a b later word time (inr h) (inr k) =
      (let u : a.served ≡ h.row.served = ap (λ (z : Access). z.served) h.is in let v : b.served ≡ k.row.served = ap (λ (z : Access). z.served) k.is in
      let row = same_served tiles tags opening run n rows one h.k k.k h.row k.row h.at k.at (sym u ∙ (time ∙ v)) in
      let source = ap (λ (z : Ordered). z.source) row in
      let index = ap (λ (z : Ordered). z.index) row in
      let p = processor_at a h in let q = processor_at b k in
      let l = later.indexes (omega (arith, p, q, source)) in
      let i = row_upto a h in let j = row_index b k in omega (arith, i, j, l, index))

  fence_at : (x : ℕ) → x < length shown → uses_word (access_at shown x).kind ≡ false
      → (p : ℕ) × seen.IsFenceBy tiles tags opening run n rows one scripts follow p (access_at shown x)
  fence_at x low none = seen.unused_is tiles tags opening run n rows one scripts follow (access_at shown x) none
      (seen.fact_at tiles tags opening run n rows one scripts follow x low)

  word_at : 0 < words → (a : Access) → seen.IsShown tiles tags opening run n rows one scripts follow a → a.word < words
  word_at some a (inl h) = (let e = ap (λ (z : Access). z.word) h.2 in let l = h.1 in omega (arith, e, l))
  word_at some a (inr (p, low, inl h)) = (let e = ap (λ (z : Access). z.word) h.4 in let l = word_low h.0 h.1 h.2 in omega (arith, e, l))
  word_at some a (inr (p, low, inr h)) = (let e = ap (λ (z : Access). z.word) h.2 in omega (arith, e, some))

  opened_at : (w : ℕ) → w < words
      → (x : ℕ) × (x < length shown) × (is_write (access_at shown x).kind ≡ true) × ((access_at shown x).word ≡ w) × ((access_at shown x).served ≡ 0)
  opened_at w low =
      let here = has_left (seen.openings tiles tags opening run n rows one scripts follow)
      (seen.programs tiles tags opening run n rows one scripts follow) (opening_store w)
      (has_range opening_store words 0 w (omega arith) (omega (arith, low))) in
      let at = place_of shown (opening_store w) here in
      let within = slice_get_within shown at.0 (opening_store w) at.1 in
      let is : access_at shown at.0 ≡ opening_store w = same_Some (access_at shown at.0) (opening_store w) (sym (at_access shown at.0 within) ∙ at.1) in
      (at.0, within, ap (λ (z : Access). is_write z.kind) is, ap (λ (z : Access). z.word) is, ap (λ (z : Access). z.served) is)

  load_at : (a : Access) → is_load a.kind ≡ true → IsOpening words a ⊎ IsServed a → 0 < a.served
  load_at a load (inl h) = (let bad : is_load a.kind ≡ false = ap (λ (z : Access). is_load z.kind) h.2 in absurd (cc))
  load_at a load (inr h) = served_at a h

  pub are_served : 0 < words → AreServed words shown
  are_served some = record {
    processors = λ x y less low. elim (cases_eq x y) [
      | inl same ↦ (let e = ap (λ z. (access_at shown z).processor) same in omega (arith, e))
      | inr other ↦ (later_at x y (omega (arith, less, other)) low).processors
    ];
    word = λ x low. word_at some (access_at shown x) (seen.fact_at tiles tags opening run n rows one scripts follow x low);
    apart = λ x y low high used also word time. elim (cases_order x y) [
      | inl same ↦ same
      | inr (inl less) ↦ absurd (never_at_once (access_at shown x) (access_at shown y) (later_at x y less high) word time (use_at x low used)
          (use_at y high also))
      | inr (inr more) ↦ absurd (never_at_once (access_at shown y) (access_at shown x) (later_at y x more low) (sym word) (sym time)
          (use_at y high also) (use_at x low used))
    ];
    opened = opened_at;
    loads = λ x low load. load_at (access_at shown x) load (use_at x low (load_uses (access_at shown x).kind load));
    unserved = λ x low none. ap (λ (z : Access). z.served) (fence_at x low none).1.2;
    one_word = λ x y less low same used also word. (let two = two_at x y less low same used also in
        let a = two.first in let b = two.second in
        let u : (access_at shown x).word ≡ (made_by a.row).word = ap (λ (z : Access). z.word) a.is in
        let v : (access_at shown y).word ≡ (made_by b.row).word = ap (λ (z : Access). z.word) b.is in
        let s : (access_at shown x).served ≡ a.row.served = ap (λ (z : Access). z.served) a.is in
        let t : (access_at shown y).served ≡ b.row.served = ap (λ (z : Access). z.served) b.is in
        let order = word_served tiles tags opening run n rows one a.k b.k a.row b.row a.at b.at two.source two.less
        (sym (row_word a.k a.row a.at) ∙ (sym u ∙ (word ∙ (v ∙ row_word b.k b.row b.at)))) in
        omega (arith, s, t, order));
    behind = λ f y less low same none used. (let fence = fence_at f (omega (arith, less, low)) none in
        behind_at (access_at shown f) (access_at shown y) fence.0 (ap (λ (z : Access). z.processor) fence.1.2) same (use_at y low used));
    held = λ x f y before less low same also used none uses. (let fence = fence_at f (omega (arith, less, low)) none in
        let two = two_at x y (omega (arith, before, less)) low same used uses in
        let a = two.first in let b = two.second in
        let s : (access_at shown x).served ≡ a.row.served = ap (λ (z : Access). z.served) a.is in
        let t : (access_at shown y).served ≡ b.row.served = ap (λ (z : Access). z.served) b.is in
        let p : (access_at shown f).processor ≡ words + fence.0 = ap (λ (z : Access). z.processor) fence.1.2 in
        let c : (access_at shown f).index ≡ fence.1.0 = ap (λ (z : Access). z.index) fence.1.2 in
        let up : upto_access (access_at shown f) ≡ fence.1.0 = ap upto_access fence.1.2 in
        let q = processor_at (access_at shown x) a in
        let r = processor_at (access_at shown y) b in
        let first = (later_at x f before (omega (arith, less, low))).indexes (same ∙ sym also) in
        let second = (later_at f y less low).indexes also in
        let i = row_upto (access_at shown x) a in
        let j = row_index (access_at shown y) b in
        let order = fence.1.1 a.k b.k a.row b.row a.at b.at (omega (arith, p, q, same, also)) (omega (arith, p, r, also)) (omega
        (arith, first, c, i)) (omega (arith, second, up, j)) in
        omega (arith, s, t, order));
  }
    where
      behind_at : (a b : Access) (p : ℕ) → a.processor ≡ words + p → a.processor ≡ b.processor → IsOpening words b ⊎ IsServed b → 0 < b.served
      behind_at a b p is same (inl h) = (let u = opening_processor b h in let l = h.1 in absurd (omega (arith, u, l, is, same)))
      behind_at a b p is same (inr h) = served_at b h

  -- where each operation is answered before the next one is issued, all are served in program order
  pub are_in_turn : ((p : ℕ) (low : p < length scripts) → InTurn (follow.each p low).ops) → AreInTurn shown
  are_in_turn turns x y less low same used also =
      let two = two_at x y less low same used also in
      let a = two.first in let b = two.second in
      let s : (access_at shown x).served ≡ a.row.served = ap (λ (z : Access). z.served) a.is in
      let t : (access_at shown y).served ≡ b.row.served = ap (λ (z : Access). z.served) b.is in
      let f = follow.each a.p a.low in
      let behind = two.less in
      let order = answered_served tiles tags opening run n rows one a.p f.ops f.are a.k b.k (a.row.index + 1) a.row b.row a.at b.at a.source
      (sym two.source ∙ a.source)
      (omega (arith, behind)) (λ o q at next. turns a.p a.low a.row.index o q at next) in
      omega (arith, s, t, order)

  -- the operation of each row is among the accesses
  pub has_row : (k : ℕ) (row : Ordered) → slice_get rows k ≡ Some row → row.source < length scripts → Has shown (made_by row)
  has_row k row at low =
      let p : ℕ = row.source in
      let f = follow.each p low in
      let made = all_made f.ops 0 (program_shown (run n) p (list_at scripts p))
      (seen.course_of tiles tags opening run n rows one scripts follow p low) row.index (omega arith)
      (invoked tiles tags opening run n rows one p f.ops f.are k row at refl) in
      has_right (seen.openings tiles tags opening run n rows one scripts follow) (seen.programs tiles tags opening run n rows one scripts follow)
      (made_by row)
      (has_piece (seen.piece tiles tags opening run n rows one scripts follow) (length scripts) 0 p (made_by row) (omega arith) (omega (arith, low))
      (has_filter (access_of_step words (run n) rows p) (program_shown (run n) p (list_at scripts p)) (Made row.index) (made_by row) made
      (ap (option_map made_by) (is_named (row_named words (run n) rows p row.index) refl))))
    where
      is_named : (o : Option Ordered) → row_named words (run n) rows row.source row.index ≡ o → row_named words (run n) rows row.source row.index ≡ Some row
      is_named None is = (let f = found (λ (r : Ordered). (r.source == row.source) && (r.index == row.index)) rows in
          absurd (both_ways ((row.source == row.source) && (row.index == row.index)) (f.none k row is at)
          (and_from (row.source == row.source) (row.index == row.index) (eq-eqb row.source row.source refl) (eq-eqb row.index row.index refl))))
      is_named (Some other) is = (let f = found (λ (r : Ordered). (r.source == row.source) && (r.index == row.index)) rows in
          let it = f.some other is in
          let parts = and_parts (other.source == row.source) (other.index == row.index) it.0 in
          let place = same_name tiles tags opening run n rows one it.1.0 k other row it.1.1 at (eqb-true other.source row.source parts.0)
          (eqb-true other.index row.index parts.1) in
          is ∙ ap Some (same_get rows k other row (subst (λ j. slice_get rows j ≡ Some other) place it.1.1) at))
