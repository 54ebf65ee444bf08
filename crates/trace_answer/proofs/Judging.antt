-- Parts of a trace that are judged over the words alone that the trace names.
use Rattle.std.proofs.Common.{◌≡◌, ◌⊎◌, ⊎_elim, inl, inr, ℕ, ◌+◌, ◌<◌, Bool, true, false, not, List, [], length, Option, Some, None, refl, sym, ◌∙◌, ap, subst, arith, slice_get, map}
use Rattle.std.specs.Prelude.{MatchOption, is_some, replicate, unwrap_or}
use Rattle.state_search.specs.declared.smallest.Ending.{Ending}
use Rattle.state_search.specs.declared.smallest.Ending.TheVariants.{Minimal, Spent}
use Rattle.state_search.specs.Parts.{AreClosed, IsEnding, IsKept, without}
use Rattle.trace_judge.specs.declared.undecided.Undecided.{Undecided}
use Rattle.trace_judge.specs.declared.undecided.Undecided.TheVariants.{Memory, Configurations, Operations}
use Rattle.trace_judge.specs.Stops.{IsOpen, IsUndecided, TellsMany}
use Rattle.trace_laws.specs.declared.event.Call.{Call}
use Rattle.trace_laws.specs.declared.event.Event.{Event}
use Rattle.trace_laws.specs.declared.event.Event.TheVariants.{Issue, Answer}
use Rattle.trace_laws.specs.Orders.{IsLinearizable, IsOrder}
use Rattle.trace_laws.specs.Traces.{IsTrace, TraceIssuesAt}
use Rattle.trace_laws.proofs.Lists.{get_within}
use Rattle.trace_laws.proofs.Without.{forth}
use Rattle.trace_text.specs.declared.issued.Issued.{Issued}
use Rattle.trace_text.specs.Kept.{IsKnownAs}
use Rattle.trace_text.specs.Renumbered.{IsRenumbered, moved_call, moved_event}
use Rattle.trace_text.specs.Traced.{TraceSpec, opening_of}
use Rattle.trace_text.proofs.Renumbered.{order_there, order_back}
use Rattle.trace_answer.specs.Kept.{is_of_kept, kept_events}
use Rattle.trace_answer.specs.Leaving.{IsClosedPart}
use Rattle.trace_answer.specs.Parts.{EndsSo, IsExplained, IsOpenTrace, IsUnshown, PartStands, part_of}
use Rattle.trace_answer.proofs.Keeping.{filter_is_without, filter_of_all, filter_of_images, get_replicate, kept_trace}

same_number : (kept : List Bool) (place : ℕ → ℕ) (e : Event) → is_of_kept kept (moved_event place e) ≡ is_of_kept kept e
same_number kept place (Issue c) = refl
same_number kept place (Answer id reply) = refl

-- a part of a trace with other numbers of its words
pub part_renumbered : (t : TraceSpec) (kept : List Bool) (opening : List ℕ) (events : List Event) → IsRenumbered t opening events
    → IsRenumbered (part_of t kept) opening (kept_events kept events)
part_renumbered t kept opening events r = record {
  place = r.place;
  back = r.back;
  words = record {
    inside = λ i c h. let f = forth (λ e. is_of_kept kept e ≡ false) t.events (kept_events kept t.events) (filter_is_without (is_of_kept kept) t.events) i (Issue c) h in r.words.inside f.0 c f.1;
    placed = λ i c h. let f = forth (λ e. is_of_kept kept e ≡ false) t.events (kept_events kept t.events) (filter_is_without (is_of_kept kept) t.events) i (Issue c) h in r.words.placed f.0 c f.1;
    word = λ i c h. let f = forth (λ e. is_of_kept kept e ≡ false) t.events (kept_events kept t.events) (filter_is_without (is_of_kept kept) t.events) i (Issue c) h in r.words.word f.0 c f.1;
    inverse = λ i c h. let f = forth (λ e. is_of_kept kept e ≡ false) t.events (kept_events kept t.events) (filter_is_without (is_of_kept kept) t.events) i (Issue c) h in r.words.inverse f.0 c f.1;
  };
  is = ap (kept_events kept) r.is ∙ filter_of_images (is_of_kept kept) (moved_event r.place) t.events (same_number kept r.place);
}

-- no order explains it where none does over the other numbers
pub unexplained : (t : TraceSpec) (opening : List ℕ) (events : List Event) → IsRenumbered t opening events
    → (IsLinearizable opening events → ⊥) → IsExplained t → ⊥
unexplained t opening events r none lin =
    none (
      map (moved_call r.place) lin.0,
      subst (λ es. IsOrder opening es (map (moved_call r.place) lin.0)) (sym r.is)
          (order_there r.place r.back (opening_of t) opening t.events r.words lin.0 lin.1),
    )

-- one does where one does
pub explained : (t : TraceSpec) (opening : List ℕ) (events : List Event) → IsRenumbered t opening events
    → (order : List Call) → IsOrder opening events order → IsExplained t
explained t opening events r order o = (
  map (moved_call r.back) order,
  order_back r.place r.back (opening_of t) opening t.events r.words order (subst (λ es. IsOrder opening es order) r.is o),
)

-- why it isn't decided, which isn't memory
open_by : (opening : List ℕ) (events : List Event) (bound : ℕ) (why : Undecided) → (why ≡ Memory → ⊥) → IsUndecided events why
    → TellsMany opening events bound why → IsOpen opening events bound why
open_by opening events bound Memory other undecided many = other refl
open_by opening events bound (Configurations event) other undecided many = (undecided, many)
open_by opening events bound (Operations event) other undecided many = undecided

-- what a call decided
pub none_decided : {V : Type 0} (found : Option V) (b : Bool) (P : Type 0) (Q : V → Type 0) → is_some found ≡ not b → MatchOption found P Q → b ≡ true → P
none_decided None b P Q same h e = h
none_decided (Some x) true P Q same h e = absurd (let n : true ≡ false = same in cc)
none_decided (Some x) false P Q same h e = absurd (let n : false ≡ true = e in cc)

pub some_decided : {V : Type 0} (found : Option V) (b : Bool) (P : Type 0) (Q : V → Type 0) → is_some found ≡ not b → MatchOption found P Q → b ≡ false → (x : V) × Q x
some_decided None true P Q same h e = absurd (let n : true ≡ false = e in cc)
some_decided None false P Q same h e = absurd (let n : false ≡ true = same in cc)
some_decided (Some x) b P Q same h e = (x, h)

-- over words and events that equal those
pub part_over : (t : TraceSpec) (kept : List Bool) (opening others : List ℕ) (events part : List Event) → IsRenumbered t opening events
    → others ≡ opening → part ≡ kept_events kept events → IsRenumbered (part_of t kept) others part
part_over t kept opening others events part r words same =
    subst (λ o. IsRenumbered (part_of t kept) o part) (sym words)
    (subst (λ es. IsRenumbered (part_of t kept) opening es) (sym same) (part_renumbered t kept opening events r))

pub trace_over : (kept : List Bool) (opening others : List ℕ) (events part : List Event) → IsTrace (length opening) events
    → others ≡ opening → part ≡ kept_events kept events → IsTrace (length others) part
trace_over kept opening others events part is words same =
    subst (λ o. IsTrace (length o) part) (sym words)
    (subst (λ es. IsTrace (length opening) es) (sym same) (kept_trace (length opening) kept events is))

pub unshown_by : (opening : List ℕ) (events : List Event) (bound : ℕ) (why : Undecided) → (why ≡ Memory → ⊥) → IsUndecided events why
    → TellsMany opening events bound why → IsUnshown opening events bound
unshown_by opening events bound why other undecided many = (why, open_by opening events bound why other undecided many)

-- what stands over the other numbers
pub stands_over : (t : TraceSpec) (opening : List ℕ) (events : List Event) (bound : ℕ) → IsRenumbered t opening events
    → IsLinearizable opening events ⊎ IsUnshown opening events bound → IsExplained t ⊎ IsOpenTrace t bound
stands_over t opening events bound r h = ⊎_elim {C = IsExplained t ⊎ IsOpenTrace t bound}
    (λ (lin : IsLinearizable opening events). inl (explained t opening events r lin.0 lin.1))
    (λ (u : IsUnshown opening events bound). inr (record { opening = opening; events = events; named = r; unshown = u }))
    h

-- all operations are a closed part
pub all_closed : (issued : List Issued) (events : List Event) (kept : List Bool) → kept ≡ replicate (length issued) true → IsClosedPart issued events kept
all_closed issued events kept all = λ k j there m.
    subst (λ z. IsKept z j) (sym all) (get_replicate (length issued) true j (get_within issued j m.second m.other))

all_pass : (t : TraceSpec) → IsTrace t.words t.events → ((i : ℕ) (call : Call) → TraceIssuesAt t.events i call → IsKnownAs t.issued call)
    → (i : ℕ) (e : Event) → slice_get t.events i ≡ Some e → is_of_kept (replicate (length t.issued) true) e ≡ true
all_pass t is known i (Issue c) h =
    let k = known i c h in
    ap (λ (o : Option Bool). unwrap_or o false) (get_replicate (length t.issued) true c.id (get_within t.issued c.id k.0 k.1))
all_pass t is known i (Answer id reply) h =
    let was = is.issued i id reply h in
    let k = known was.0 was.1 was.4 in
    let low : was.1.id < length t.issued = get_within t.issued was.1.id k.0 k.1 in
    ap (λ (o : Option Bool). unwrap_or o false) (get_replicate (length t.issued) true id (subst (λ n. n < length t.issued) was.3 low))

-- their events are all events
pub part_of_all : (t : TraceSpec) (kept : List Bool) → IsTrace t.words t.events
    → ((i : ℕ) (call : Call) → TraceIssuesAt t.events i call → IsKnownAs t.issued call)
    → kept ≡ replicate (length t.issued) true → kept_events kept t.events ≡ t.events
part_of_all t kept is known all =
    ap (λ z. kept_events z t.events) all ∙ filter_of_all (is_of_kept (replicate (length t.issued) true)) t.events (all_pass t is known)

-- where all operations stand, the trace is explained, or it isn't decided
pub whole_stands : (t : TraceSpec) (bound : ℕ) (kept : List Bool) → IsTrace t.words t.events
    → ((i : ℕ) (call : Call) → TraceIssuesAt t.events i call → IsKnownAs t.issued call)
    → kept ≡ replicate (length t.issued) true → PartStands t bound kept → IsExplained t ⊎ IsOpenTrace t bound
whole_stands t bound kept is known all stands = ⊎_elim {C = IsExplained t ⊎ IsOpenTrace t bound}
    (λ (never : IsClosedPart t.issued t.events kept → ⊥). absurd (never (all_closed t.issued t.events kept all)))
    (λ (other : IsExplained (part_of t kept) ⊎ IsOpenTrace (part_of t kept) bound).
    subst (λ es. IsExplained (record t { events = es }) ⊎ IsOpenTrace (record t { events = es }) bound)
    (part_of_all t kept is known all) other)
    stands

-- parts without sources are closed
pub bare_closed : (kept : List Bool) → AreClosed [] kept
bare_closed kept = λ k s there h. absurd (let n : None ≡ Some (Some s) = h in cc)

-- how a search ends
pub ends_so : (t : TraceSpec) (bound : ℕ) (kept : List Bool) (left judged : ℕ) (ending : Ending) → judged + left ≡ 1000
    → IsEnding [] (PartStands t bound) kept left ending → EndsSo t bound kept judged ending
ends_so t bound kept left judged Minimal sum h = λ k there. ⊎_elim {C = PartStands t bound (without kept k)}
    (λ (bare : AreClosed [] (without kept k) → ⊥). absurd (bare (bare_closed (without kept k))))
    (λ (stands : PartStands t bound (without kept k)). stands)
    (h k there)
ends_so t bound kept left judged Spent sum h = omega arith
