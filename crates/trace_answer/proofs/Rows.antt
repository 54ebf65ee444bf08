-- The entries of services.
use Rattle.std.proofs.Common.{◌≡◌, ℕ, zero, suc, ◌+◌, ◌%◌, ◌<◌, ◌≤◌, ◌==◌, true, List, [], ◌∷◌, ◌++◌, length, map, take, Some, refl, sym, ◌∙◌}
use Rattle.std.proofs.Common.{ap, arith, slice_get}
use Rattle.std.specs.Prelude.{count_by, filter}
use Rattle.std.specs.List.{range_with_len}
use Rattle.std.proofs.lemmas.Bool.{eqb-true, eq-eqb}
use Rattle.std.proofs.lemmas.List.{take_more}
use Rattle.std.proofs.lemmas.List.FromFn.{map-range_with_len_more, take-map-range_with_len}
use Rattle.packet.specs.declared.kinds.Op.TheVariants.{Load}
use Rattle.one_order.proofs.Counting.{filter_at}
use Rattle.report_lines.specs.declared.parts.EntryRow.{EntryRow}
use Rattle.report_check.specs.Facts.{rows_at}
use Rattle.trace_laws.specs.declared.event.Call.{Call}
use Rattle.trace_text.specs.Traced.{TraceSpec}
use Rattle.trace_answer.specs.declared.times.Times.{Times}
use Rattle.trace_answer.specs.declared.service.Service.{Service}
use Rattle.trace_answer.specs.Services.{call_at, is_on_bank, service_of, services_told}
use Rattle.trace_answer.specs.Contents.{entry_of_service, is_at_bank, entries_of_bank, entries_of}
use Rattle.trace_answer.proofs.Lists.{image_at, image_of, row_in, row_put, mapped_at, mapped_of, stood, count_map}

-- the first operations of an order
take_calls : (order : List Call) (x : ℕ) → x ≤ length order → take x order ≡ map (call_at order) (range_with_len 0 x)
take_calls order zero l = refl
take_calls order (suc x) l =
    let e : suc x ≡ x + 1 = omega arith in
    ap (λ n. take n order) e
    ∙ (take_more order x (record { id = 0; operation = record { address = 0; op = Load } }) (omega arith)
    ∙ (ap (λ (cs : List Call). cs ++ call_at order x ∷ []) (take_calls order x (omega arith))
    ∙ (sym (map-range_with_len_more (call_at order) 0 x x (omega arith)) ∙ ap (λ n. map (call_at order) (range_with_len 0 n)) (sym e))))

-- so many services of a bank stand before a place
pub bank_count : (t : TraceSpec) (tiles : ℕ) (times : List Times) (order : List Call) (b x : ℕ) → x ≤ length order
    → count_by (is_at_bank b) (take x (services_told t tiles times order)) ≡ count_by (is_on_bank tiles b) (take x order)
bank_count t tiles times order b x l =
    ap (count_by (is_at_bank b)) (take-map-range_with_len (service_of t tiles times order) 0 (length order) x l)
    ∙ (count_map (service_of t tiles times order) (is_at_bank b) (range_with_len 0 x)
    ∙ (sym (count_map (call_at order) (is_on_bank tiles b) (range_with_len 0 x))
    ∙ ap (count_by (is_on_bank tiles b)) (sym (take_calls order x l))))

pub same_number : (n : ℕ) → (n == n) ≡ true
same_number n = eq-eqb n n refl

-- the entry of a service stands in its place
pub entry_there : (t : TraceSpec) (tiles : ℕ) (times : List Times) (order : List Call) → 0 < tiles → (x : ℕ) → x < length order
    → slice_get (rows_at (entries_of tiles (services_told t tiles times order)) (service_of t tiles times order x).bank)
    (service_of t tiles times order x).place
    ≡ Some (entry_of_service (service_of t tiles times order x))
entry_there t tiles times order some x l =
    let f : ℕ → Service = service_of t tiles times order in
    let all : List Service = services_told t tiles times order in
    let s : Service = f x in
    let b : ℕ = (call_at order x).operation.address % tiles in
    let kept : slice_get (filter (is_at_bank b) all) (count_by (is_at_bank b) (take x all)) ≡ Some s =
    filter_at (is_at_bank b) all x s (image_of f (length order) x l) (same_number b) in
    let placed : slice_get (filter (is_at_bank b) all) s.place ≡ Some s =
    ap (slice_get (filter (is_at_bank b) all)) (sym (bank_count t tiles times order b x (omega arith))) ∙ kept in
    row_put (entries_of_bank all) tiles b s.place (entry_of_service s) (omega arith) (mapped_of entry_of_service (filter (is_at_bank b) all) s.place s placed)

-- and each entry is one of a service
pub record EntryOf (t : TraceSpec) (tiles : ℕ) (times : List Times) (order : List Call) (b place : ℕ) (e : EntryRow) : Type 0 where
  pub x : ℕ
  pub low : x < length order
  pub inside : b < tiles
  pub row : entry_of_service (service_of t tiles times order x) ≡ e
  pub bank : (service_of t tiles times order x).bank ≡ b
  pub at : (service_of t tiles times order x).place ≡ place

pub entry_of : (t : TraceSpec) (tiles : ℕ) (times : List Times) (order : List Call) (b place : ℕ) (e : EntryRow)
    → slice_get (rows_at (entries_of tiles (services_told t tiles times order)) b) place ≡ Some e → EntryOf t tiles times order b place e
entry_of t tiles times order b place e h =
    let f : ℕ → Service = service_of t tiles times order in
    let all : List Service = services_told t tiles times order in
    let r = row_in (entries_of_bank all) tiles b place e h in
    let m = mapped_at entry_of_service (filter (is_at_bank b) all) place e r.1 in
    let d = stood (is_at_bank b) all place m.0 m.1 in
    let a = image_at f (length order) d.at m.0 d.there in
    let bank : (f d.at).bank ≡ b = ap (λ (s : Service). s.bank) a.1 ∙ eqb-true m.0.bank b d.passes in
    let low : d.at < length order = a.0 in
    record {
      x = d.at;
      low = low;
      inside = r.0;
      row = ap entry_of_service a.1 ∙ m.2;
      bank = bank;
      at = ap (λ c. count_by (is_on_bank tiles c) (take d.at order)) bank ∙ (sym (bank_count t tiles times order b d.at (omega arith)) ∙ d.counts);
    }
