-- The entries of services replay, bank by bank, on one memory.
use Rattle.std.proofs.Common.{◌≡◌, ℕ, zero, suc, ◌+◌, ◌%◌, ◌<◌, List, [], ◌∷◌, length, map, flat_map, take, Some, refl, sym, ◌∙◌, ap, arith, subst, slice_get}
use Rattle.std.specs.Prelude.{filter}
use Rattle.std.specs.List.{range_with_len}
use Rattle.std.proofs.lemmas.List.{length-map, take-map}
use Rattle.std.proofs.lemmas.List.FromFn.{length-map-range_with_len}
use Rattle.std.proofs.lemmas.Option.{same_Some}
use Rattle.packet.specs.declared.kinds.Operation.{Operation}
use Rattle.packet.specs.declared.kinds.Reply.{Reply}
use Rattle.packet.specs.Memory.{replies, memory_after, memory_after_one, reply_of_one}
use Rattle.one_order.proofs.Counting.{same_lists}
use Rattle.one_order.proofs.Replay.{Told, asked, told, told_at, asked_told, length-told, told_replays, replays_replies, AtHome, of_bank, by_bank}
use Rattle.one_order.proofs.Replay.{by_bank_replays, by_bank_words, length-by_bank, joined}
use Rattle.report_lines.specs.declared.parts.EntryRow.{EntryRow}
use Rattle.report_check.specs.Facts.{operation_in, AreEntries, StandsIn}
use Rattle.trace_laws.specs.declared.event.Call.{Call}
use Rattle.trace_laws.specs.Orders.{operations_of, memory_of}
use Rattle.trace_text.specs.Traced.{TraceSpec, opening_of}
use Rattle.trace_answer.specs.declared.times.Times.{Times}
use Rattle.trace_answer.specs.declared.service.Service.{Service}
use Rattle.trace_answer.specs.Services.{call_at, service_of, services_told}
use Rattle.trace_answer.specs.Contents.{entry_of_service, is_at_bank, entries_of_bank, entries_of}
use Rattle.trace_answer.proofs.Lists.{image_at, mapped_of, rows_of, filter_map, map_thrice}
use Rattle.trace_answer.proofs.Given.{Given, call_there, address_there, processor_low}
use Rattle.trace_answer.proofs.Rows.{entry_of}

-- the reply at a place of a list of operations
pub reply_at : (os : List Operation) (m : List ℕ) (k : ℕ) (o : Operation) → slice_get os k ≡ Some o
    → slice_get (replies os m) k ≡ Some (reply_of_one o (memory_after (take k os) m))
reply_at [] m k o h = absurd (cc)
reply_at (u ∷ os) m zero o h = let e : u ≡ o = same_Some u o h in ap (λ (v : Operation). Some (reply_of_one v m)) e
reply_at (u ∷ os) m (suc k) o h = reply_at os (memory_after_one u m) k o h

-- the reply of the one memory at a place of an order
pub told_reply : (opening : List ℕ) (order : List Call) (x : ℕ) → x < length order
    → slice_get (replies (operations_of order) opening) x ≡ Some (reply_of_one (call_at order x).operation (memory_of opening (take x order)))
told_reply opening order x l =
    let op : Call → Operation = λ c. c.operation in
    reply_at (operations_of order) opening x (call_at order x).operation (mapped_of op order x (call_at order x) (call_there order x l))
    ∙ ap (λ (os : List Operation). Some (reply_of_one (call_at order x).operation (memory_after os opening))) (take-map op x order)

-- an operation of the order with the memory's reply
abbrev told_in : List ℕ → List Call → ℕ → Told
told_in opening order x = ((call_at order x).operation, reply_of_one (call_at order x).operation (memory_of opening (take x order)))

told_is : (opening : List ℕ) (order : List Call) → told (operations_of order) opening ≡ map (told_in opening order) (range_with_len 0 (length order))
told_is opening order =
    let op : Call → Operation = λ c. c.operation in
    let count = length-told (operations_of order) opening ∙ length-map order op in
    same_lists (told (operations_of order) opening) (map (told_in opening order) (range_with_len 0 (length order)))
    (count ∙ sym (length-map-range_with_len (told_in opening order) 0 (length order)))
    (λ k q r hq hr.
    let a = image_at (told_in opening order) (length order) k r hr in
    let is = told_at (operations_of order) opening k (call_at order k).operation
    (reply_of_one (call_at order k).operation (memory_of opening (take k order)))
    (mapped_of op order k (call_at order k) (call_there order k a.0)) (told_reply opening order k a.0) in
    sym (same_Some (told_in opening order k) q (sym is ∙ hq)) ∙ a.1)

-- what an entry asks and tells
abbrev told_by : EntryRow → Told
told_by e = (operation_in e, e.reply)

asked_by : (es : List EntryRow) → asked (map told_by es) ≡ map operation_in es
asked_by [] = refl
asked_by (e ∷ es) = ap (λ (os : List Operation). operation_in e ∷ os) (asked_by es)

replied_by : (es : List EntryRow) → map (λ (q : Told). q.1) (map told_by es) ≡ map (λ (e : EntryRow). e.reply) es
replied_by [] = refl
replied_by (e ∷ es) = ap (λ (rs : List Reply). e.reply ∷ rs) (replied_by es)

-- a bank's entries are the operations at home there
bank_told : (t : TraceSpec) (tiles : ℕ) (times : List Times) (order : List Call) (b : ℕ)
    → map told_by (entries_of_bank (services_told t tiles times order) b) ≡ filter (of_bank tiles b) (told (operations_of order) (opening_of t))
bank_told t tiles times order b =
    let f : ℕ → Service = service_of t tiles times order in
    let g : ℕ → Told = told_in (opening_of t) order in
    let xs : List ℕ = range_with_len 0 (length order) in
    ap (λ (ss : List Service). map told_by (map entry_of_service ss)) (filter_map f (is_at_bank b) xs)
    ∙ (map_thrice f entry_of_service told_by g (λ x. refl) (filter (λ x. is_at_bank b (f x)) xs)
    ∙ (sym (filter_map g (of_bank tiles b) xs)
    ∙ ap (filter (of_bank tiles b)) (sym (told_is (opening_of t) order))))

-- all entries, bank by bank
entries_told : (t : TraceSpec) (tiles : ℕ) (times : List Times) (order : List Call)
    → map told_by (flat_map (λ es. es) (entries_of tiles (services_told t tiles times order)))
    ≡ by_bank tiles 0 tiles (told (operations_of order) (opening_of t))
entries_told t tiles times order =
    let all : List Service = services_told t tiles times order in
    let qs : List Told = told (operations_of order) (opening_of t) in
    let count : length (entries_of tiles all) ≡ tiles = length-map-range_with_len (entries_of_bank all) 0 tiles in
    joined told_by tiles 0 (entries_of tiles all) qs (λ b l.
    let e : b ≡ 0 + b = omega arith in
    ap (map told_by) (rows_of (entries_of_bank all) tiles b (omega arith))
    ∙ (bank_told t tiles times order b ∙ ap (λ c. filter (of_bank tiles c) qs) e))
    ∙ ap (λ k. by_bank tiles 0 k qs) count

at_home : (t : TraceSpec) (tiles : ℕ) (order : List Call) → 0 < tiles → AtHome tiles (told (operations_of order) (opening_of t))
at_home t tiles order some k q h =
    let a = image_at (told_in (opening_of t) order) (length order) k q (ap (λ (qs : List Told). slice_get qs k) (sym (told_is (opening_of t) order)) ∙ h) in
    subst (λ (r : Told). r.0.address % tiles < tiles) a.1 (omega arith)

pub are_entries : (t : TraceSpec) (tiles : ℕ) (times : List Times) (order : List Call) → Given t tiles times order
    → AreEntries tiles (opening_of t) (entries_of tiles (services_told t tiles times order)) (memory_of (opening_of t) order)
are_entries t tiles times order g =
    let es : List EntryRow = flat_map (λ es. es) (entries_of tiles (services_told t tiles times order)) in
    let os : List Operation = operations_of order in
    let opening : List ℕ = opening_of t in
    let qs : List Told = told os opening in
    let are : map told_by es ≡ by_bank tiles 0 tiles qs = entries_told t tiles times order in
    let homes = at_home t tiles order g.some in
    let op : Call → Operation = λ c. c.operation in
    record {
      stand = λ b place e h.
          let r = entry_of t tiles times order b place e h in
          subst (StandsIn tiles (length opening) b) r.row
          (record {
            bank = r.inside;
            source = processor_low t tiles times order g r.x r.low;
            tag = omega arith;
            address = address_there t tiles times order g r.x r.low;
            home = r.bank;
          });
      few =
          let same = ap length are in
          let few = g.fit.operations in
          omega (arith, few, same, length-map es told_by, length-by_bank tiles qs homes, length-told os opening, length-map order op);
      told = ap (λ (ps : List Operation). replies ps opening) (sym (asked_by es))
          ∙ (ap (λ (rs : List Told). replies (asked rs) opening) are
          ∙ (replays_replies (by_bank tiles 0 tiles qs) opening (by_bank_replays tiles qs opening homes (told_replays os opening))
          ∙ (ap (map (λ (q : Told). q.1)) (sym are) ∙ replied_by es)));
      left = ap (λ (ps : List Operation). memory_after ps opening) (sym (asked_by es))
          ∙ (ap (λ (rs : List Told). memory_after (asked rs) opening) are
          ∙ (by_bank_words tiles qs opening homes ∙ ap (λ (ps : List Operation). memory_after ps opening) (asked_told os opening)));
    }
