-- What is given of a trace and of an order that explains it.
use Rattle.std.proofs.Common.{◌≡◌, ℕ, ◌+◌, ◌<◌, ◌≤◌, List, length, Some, None, sym, arith, subst, slice_get}
use Rattle.std.proofs.lemmas.Option.{slice_get_within, slice_get-get_or}
use Rattle.packet.specs.declared.kinds.Op.TheVariants.{Load}
use Rattle.trace_laws.specs.declared.event.Call.{Call}
use Rattle.trace_laws.specs.declared.event.Event.TheVariants.{Issue}
use Rattle.trace_laws.specs.Orders.{IsOrder}
use Rattle.trace_laws.specs.Traces.{TraceIssuesAt}
use Rattle.trace_text.specs.declared.issued.Issued.{Issued}
use Rattle.trace_text.specs.Traced.{TraceSpec, opening_of}
use Rattle.trace_text.proofs.Opening.{length-opening}
use Rattle.trace_answer.specs.declared.times.Times.{Times}
use Rattle.trace_answer.specs.Fitting.{IsFit}
use Rattle.trace_answer.specs.Services.{call_at, issued_call, service_of, services_told}
use Rattle.trace_answer.specs.declared.service.Service.{Service}
use Rattle.trace_answer.specs.Times.{AreLowTimes, AreTimes, time_of}
use Rattle.trace_answer.specs.Whole.{IsWholeTrace}
use Rattle.trace_answer.proofs.Lists.{image_at}

pub record Given (t : TraceSpec) (tiles : ℕ) (times : List Times) (order : List Call) : Type 0 where
  pub some : 0 < tiles
  pub whole : IsWholeTrace t
  pub explains : IsOrder (opening_of t) t.events order
  pub told : AreTimes t.events (length t.issued) times
  pub fit : IsFit t order
  pub below : (n : ℕ) (i : Issued) → slice_get t.issued n ≡ Some i → i.processor < tiles

-- the operation at a place is there
pub call_there : (order : List Call) (x : ℕ) → x < length order → slice_get order x ≡ Some (call_at order x)
call_there order x l = slice_get-get_or order x (record { id = 0; operation = record { address = 0; op = Load } }) l

-- the operation of its number is known
known_of : (t : TraceSpec) (order : List Call) → IsWholeTrace t → IsOrder (opening_of t) t.events order → (x : ℕ) → x < length order
    → slice_get t.issued (call_at order x).id ≡ Some (issued_call t.issued (call_at order x).id)
known_of t order whole explains x l =
    let c : Call = call_at order x in
    let i = explains.issued x c (call_there order x l) in
    let k = whole.known i.0 c i.1 in
    slice_get-get_or t.issued c.id (record { processor = 0; index = 0; operation = record { address = 0; op = Load }; reply = None })
    (slice_get_within t.issued c.id k.0 k.1)

-- what is needed of times, operations and indexes before there is a number of tiles
pub inside : (t : TraceSpec) (order : List Call) → IsWholeTrace t → IsOrder (opening_of t) t.events order → (x : ℕ) (c : Call) → slice_get order x ≡ Some c
    → c.operation.address < length (opening_of t)
inside t order whole explains x c h =
    let i = explains.issued x c h in
    let low : c.operation.address < t.words = whole.trace.inside i.0 c i.1 in
    omega (arith, low, length-opening t)

pub are_low : (t : TraceSpec) (times : List Times) (order : List Call) → IsFit t order → AreTimes t.events (length t.issued) times → AreLowTimes times
are_low t times order fit told =
    let few : length t.events + length order ≤ 196608 = fit.events in
    record {
      issued = λ id. let l = told.low id in omega arith;
      answered = λ id i h. let a = told.only i id h in let l : i < length t.events = a.0 in omega arith;
    }

pub index_of : (t : TraceSpec) (tiles : ℕ) (times : List Times) (order : List Call) → IsWholeTrace t → IsOrder (opening_of t) t.events order → IsFit t order
    → (k : ℕ) (s : Service) → slice_get (services_told t tiles times order) k ≡ Some s → s.index < 4096
index_of t tiles times order whole explains fit k s h =
    let a = image_at (service_of t tiles times order) (length order) k s h in
    let id : ℕ = (call_at order k).id in
    subst (λ (u : Service). u.index < 4096) a.1 (fit.issued id (issued_call t.issued id) (known_of t order whole explains k a.0)).1

-- it was issued
pub issue_there : (t : TraceSpec) (tiles : ℕ) (times : List Times) (order : List Call) → Given t tiles times order → (x : ℕ) → x < length order
    → TraceIssuesAt t.events (time_of times (call_at order x).id).issued (call_at order x)
issue_there t tiles times order g x l =
    let c : Call = call_at order x in
    let i = g.explains.issued x c (call_there order x l) in
    let low : i.0 < length t.events = slice_get_within t.events i.0 (Issue c) i.1 in
    subst (λ (k : ℕ). TraceIssuesAt t.events k c) (sym (g.told.issued i.0 c low i.1)) i.1

-- as the operation of its number
pub known_there : (t : TraceSpec) (tiles : ℕ) (times : List Times) (order : List Call) → Given t tiles times order → (x : ℕ) → x < length order
    → slice_get t.issued (call_at order x).id ≡ Some (issued_call t.issued (call_at order x).id)
known_there t tiles times order g x l =
    known_of t order g.whole g.explains x l

-- on a word of the memory
pub address_there : (t : TraceSpec) (tiles : ℕ) (times : List Times) (order : List Call) → Given t tiles times order → (x : ℕ) → x < length order
    → (call_at order x).operation.address < length (opening_of t)
address_there t tiles times order g x l =
    let c : Call = call_at order x in
    let i = g.explains.issued x c (call_there order x l) in
    let low : c.operation.address < t.words = g.whole.trace.inside i.0 c i.1 in
    omega (arith, low, length-opening t)

-- by a processor of the report, as one of so many
pub processor_low : (t : TraceSpec) (tiles : ℕ) (times : List Times) (order : List Call) → Given t tiles times order → (x : ℕ) → x < length order
    → (issued_call t.issued (call_at order x).id).processor < tiles
processor_low t tiles times order g x l =
    g.below (call_at order x).id (issued_call t.issued (call_at order x).id) (known_there t tiles times order g x l)

pub index_low : (t : TraceSpec) (tiles : ℕ) (times : List Times) (order : List Call) → Given t tiles times order → (x : ℕ) → x < length order
    → (issued_call t.issued (call_at order x).id).index < 4096
index_low t tiles times order g x l =
    (g.fit.issued (call_at order x).id (issued_call t.issued (call_at order x).id) (known_there t tiles times order g x l)).1

-- one operation stands at one place
pub once : (t : TraceSpec) (tiles : ℕ) (times : List Times) (order : List Call) → Given t tiles times order → (x y : ℕ) → x < length order
    → y < length order → (call_at order x).id ≡ (call_at order y).id → x ≡ y
once t tiles times order g x y l m h =
    g.explains.once x y (call_at order x) (call_at order y) (call_there order x l) (call_there order y m) h
