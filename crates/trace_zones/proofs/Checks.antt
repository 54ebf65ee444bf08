-- What each look at an operation shows.
use Rattle.std.proofs.Common.{◌≡◌, ◌⊎◌, inl, inr, ⊎_elim, ℕ, Bool, true, false, ◌+◌, ◌<◌, ◌≤◌, arith, length, List, Option, None, Some, MatchOption, sym, ◌∙◌, ap, subst}
use Rattle.std.specs.Prelude.{is_some}
use Rattle.std.proofs.lemmas.Bool.{cases_lt}
use Rattle.std.proofs.lemmas.Option.{same_Some}
use Rattle.packet.specs.Memory.{new_word}
use Rattle.trace_laws.specs.declared.event.Call.{Call}
use Rattle.trace_laws.specs.declared.event.Event.{Event}
use Rattle.trace_laws.specs.declared.event.Event.TheVariants.{Issue}
use Rattle.trace_laws.proofs.Lists.{get_within}
use Rattle.trace_laws.specs.Traces.{TraceIssuesAt, TraceAnswersAt, IsAnswered}
use Rattle.trace_zones.specs.declared.told.Told.{Told}
use Rattle.trace_zones.specs.Told.{FitsTold}
use Rattle.trace_zones.specs.Zones.{MayHaveFound, MayEnter, IsZone}
use Rattle.trace_zones.specs.Conflicts.{EntersOnly, IsSetReader, IsSetLeaver, IsSetLeftBy, IsSetWriter, IsSetWitness}
use Rattle.trace_zones.proofs.Certificates.{one_at}

-- what is told, the trace tells
abbrev pub IsTold : List Event → Call → Option Told → Type 0
IsTold trace c told = MatchOption told (Unit {0}) (λ t. TraceAnswersAt trace t.event c.id t.reply)

-- what an operation may have found fits what is told
pub fits_told : (trace : List Event) (c : Call) (told : Option Told) → IsTold trace c told → (u : ℕ)
    → MayHaveFound trace c u → FitsTold c.operation.op told u
fits_told trace c None is u may = tt
fits_told trace c (Some t) is u may = may t.event t.reply is

pub never_enters : (trace : List Event) (w i : ℕ) (set : ℕ → Bool) (call : Call) (told : Option Told)
    → TraceIssuesAt trace i call → IsTold trace call told
    → ((u : ℕ) → FitsTold call.operation.op told u → set u ≡ false → set (new_word call.operation.op u) ≡ true → ⊥)
    → (c : Call) → TraceIssuesAt trace i c → MayEnter trace w set c → ⊥
never_enters trace w i set call told issue is none c also enters =
    let same : c ≡ call = one_at trace i c call also issue in
    let e = subst (λ (d : Call). MayEnter trace w set d) same enters in
    none e.1.0 (fits_told trace call told is e.1.0 e.1.1) e.1.2 e.1.3

-- no operation that is issued before event n may enter the set but the one that the entry issues
abbrev pub AloneBefore : List Event → ℕ → (ℕ → Bool) → Option ℕ → ℕ → Type 0
AloneBefore trace w set entry n = (j : ℕ) (c : Call) → j < n → TraceIssuesAt trace j c → MayEnter trace w set c
    → entry ≡ Some j

pub alone_more : (trace : List Event) (w : ℕ) (set : ℕ → Bool) (entry : Option ℕ) (i : ℕ)
    → ((c : Call) → TraceIssuesAt trace i c → MayEnter trace w set c → entry ≡ Some i)
    → AloneBefore trace w set entry i → AloneBefore trace w set entry (i + 1)
alone_more trace w set entry i now was j c l issue enters = ⊎_elim {C = entry ≡ Some j}
    (λ (low : j < i). was j c low issue enters)
    (λ (high : i ≤ j).
    let same : i ≡ j = omega arith in
    let there : TraceIssuesAt trace i c = subst (λ (n : ℕ). TraceIssuesAt trace n c) (sym same) issue in
    now c there enters ∙ ap (λ (n : ℕ). Some n) same)
    (cases_lt j i)

pub alone_all : (trace : List Event) (w : ℕ) (set : ℕ → Bool) (entry : Option ℕ) (n : ℕ) → length trace ≤ n
    → AloneBefore trace w set entry n → EntersOnly trace w set entry
alone_all trace w set entry n all was j c issue enters =
    let l = get_within trace j (Issue c) issue in
    was j c (omega arith) issue enters

pub zone_alone : (initial : ℕ) (trace : List Event) (w : ℕ) (set : ℕ → Bool) (entry : Option ℕ)
    → EntersOnly trace w set entry → (entry ≡ None) ⊎ (set initial ≡ false)
    → IsZone initial trace w set
zone_alone initial trace w set entry only cases = record {
  one = λ i j c d issue also e f.
      let a : entry ≡ Some i = only i c issue e in
      let b : entry ≡ Some j = only j d also f in
      let same : i ≡ j = same_Some i j (sym a ∙ b) in
      let there : TraceIssuesAt trace i d = subst (λ (n : ℕ). TraceIssuesAt trace n d) (sym same) also in
      ap (λ (x : Call). x.id) (one_at trace i c d issue there);
  none = λ there i c issue e.
      let a : entry ≡ Some i = only i c issue e in
      ⊎_elim {C = ⊥}
      (λ (n : entry ≡ None). let m : None ≡ Some i = sym n ∙ a in cc)
      (λ (out : set initial ≡ false). cc)
      cases;
}

pub answered_told : (trace : List Event) (c : Call) (told : Option Told) → IsTold trace c told
    → is_some told ≡ true → IsAnswered trace c.id
answered_told trace c None is some = cc
answered_told trace c (Some t) is some = (t.event, t.reply, is)

pub is_reader : (trace : List Event) (w i : ℕ) (set : ℕ → Bool) (c : Call) (told : Option Told)
    → TraceIssuesAt trace i c → c.operation.address ≡ w → IsTold trace c told → is_some told ≡ true
    → ((u : ℕ) → FitsTold c.operation.op told u → set u ≡ true) → IsSetReader trace w set i
is_reader trace w i set c told issue here is some all = (
  c,
  issue,
  answered_told trace c told is some,
  (here, λ u may. all u (fits_told trace c told is u may)),
)

pub is_leaver : (trace : List Event) (w i : ℕ) (set : ℕ → Bool) (c : Call) (told : Option Told)
    → TraceIssuesAt trace i c → c.operation.address ≡ w → IsTold trace c told → is_some told ≡ true
    → ((u : ℕ) → FitsTold c.operation.op told u → set (new_word c.operation.op u) ≡ true)
    → IsSetLeaver trace w set i
is_leaver trace w i set c told issue here is some all = (
  c,
  issue,
  answered_told trace c told is some,
  (here, λ u may. all u (fits_told trace c told is u may)),
)

pub is_left_by : (trace : List Event) (w i : ℕ) (set : ℕ → Bool) (c : Call) (told : Option Told)
    → TraceIssuesAt trace i c → c.operation.address ≡ w → IsTold trace c told → is_some told ≡ true
    → ((u : ℕ) → FitsTold c.operation.op told u → set u ≡ true)
    → ((u : ℕ) → FitsTold c.operation.op told u → set (new_word c.operation.op u) ≡ false)
    → IsSetLeftBy trace w set i
is_left_by trace w i set c told issue here is some found other = (
  c,
  issue,
  answered_told trace c told is some,
  (
    (here, λ u may. found u (fits_told trace c told is u may)),
    λ u may. other u (fits_told trace c told is u may),
  ),
)

pub is_writer : (initial : ℕ) (trace : List Event) (w i reader : ℕ) (set : ℕ → Bool) (entry : Option ℕ) (c : Call)
    → TraceIssuesAt trace i c → entry ≡ Some i → set initial ≡ false → IsSetReader trace w set reader
    → EntersOnly trace w set entry → IsSetWriter initial trace w set i
is_writer initial trace w i reader set entry c issue is out found only = (
  c,
  issue,
  record {
    outside = out;
    alone = λ j d also enters.
        let same : i ≡ j = same_Some i j (sym is ∙ only j d also enters) in
        let there : TraceIssuesAt trace i d = subst (λ (n : ℕ). TraceIssuesAt trace n d) (sym same) also in
        ap (λ (x : Call). x.id) (one_at trace i d c there issue);
    found = (found.0, reader, found.1, found.2, found.3);
  },
)

pub reader_sees : (initial : ℕ) (trace : List Event) (w i : ℕ) (set : ℕ → Bool) → IsSetReader trace w set i
    → IsSetWitness initial trace w set i
reader_sees initial trace w i set r = (r.0, r.1, inl (((i, r.1), inl r.2), inl r.3))

pub leaver_sees : (initial : ℕ) (trace : List Event) (w i : ℕ) (set : ℕ → Bool) → IsSetLeaver trace w set i
    → IsSetWitness initial trace w set i
leaver_sees initial trace w i set r = (r.0, r.1, inl (((i, r.1), inl r.2), inr r.3))

pub writer_sees : (initial : ℕ) (trace : List Event) (w i : ℕ) (set : ℕ → Bool) → IsSetWriter initial trace w set i
    → IsSetWitness initial trace w set i
writer_sees initial trace w i set r = (r.0, r.1, inr (i, r.1, r.2))
