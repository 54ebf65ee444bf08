-- Channels with owners, and where packets pass them.
use Rattle.std.proofs.Common.{◌≡◌, ◌≢◌, ◌⊎◌, inl, inr, ℕ, suc, ◌+◌, ◌-◌, ◌<◌, ◌≤◌, List, [], ◌++◌, Option, Some, None, length, set, sym, ◌∙◌, ap, subst, arith}
use Rattle.std.specs.Prelude.{slice_index, IfSome, IfNone, drop, take}
use Rattle.std.proofs.Math.Seq.{drop-length, take-length}
use Rattle.std.proofs.lemmas.Bool.{cases_lt, cases_eq}
use Rattle.std.proofs.lemmas.List.{length-set, get_or-set_same, get_or-set_other, append-nil}
use Rattle.network_judge.specs.declared.table.Kind.TheVariants.{Ejection}
use Rattle.network_judge.specs.declared.spans.Span.{Span}
use Rattle.network_judge.specs.declared.tangles.Met.{Met}
use Rattle.network_judge.specs.Table.{Table, channels_of, kind_of}
use Rattle.network_judge.specs.Ways.{place}
use Rattle.network_judge.specs.Spans.{span_at, IsOnSpan, IsSpanOfArc, IsSpanNoted, AreOwners, IsLastMet, MeetsNone, IsTangle, IsUntangled}
use Rattle.network_judge.proofs.Still.{on_within}

-- a step of an arc's route is at a channel, and its packets go on to an ejection channel
pub arc_within : (t : Table) (s : Span) (k : ℕ) → IsSpanOfArc t s → k < s.end → place t s.to s.from k < channels_of t
arc_within t s k a less =
    subst (λ (z : Span). k < z.end → place t z.to z.from k < channels_of t) a.is
    (λ l. (let within = a.arc.within in on_within t a.arc.from a.arc.to a.arc.len a.arc.way k (omega arith))) less

pub arc_start : (t : Table) (s : Span) → IsSpanOfArc t s → s.start < s.end
arc_start t s a = subst (λ (z : Span). z.start < z.end) a.is (let order = a.arc.order in omega arith)

pub arc_end : (t : Table) (s : Span) → IsSpanOfArc t s → kind_of t s.to ≡ Some Ejection
arc_end t s a = subst (λ (z : Span). kind_of t z.to ≡ Some Ejection) a.is a.arc.way.under_way.receiver

-- the channels of a span up to a step have its number, and others may keep theirs
pub record NotedTo (t : Table) (s : Span) (number n : ℕ) (old new : List ℕ) : Type 0 where
  pub size : length new ≡ length old
  pub each : (x : ℕ) → (slice_index new x ≡ slice_index old x) ⊎ ((slice_index new x ≡ number) × IsOnSpan t s x)
  pub on : (k : ℕ) → k < n → s.start ≤ k → place t s.to s.from k < length old → slice_index new (place t s.to s.from k) ≡ number

pub noted_more : (t : Table) (s : Span) (number n x : ℕ) (old new : List ℕ) → NotedTo t s number n old new → x ≡ place t s.to s.from n → n < s.end
    → s.start ≤ n → x < length new → NotedTo t s number (n + 1) old (set new x number)
noted_more t s number n x old new r here less low inside =
    let size = r.size in
    record {
      size = length-set new x number ∙ r.size;
      each = λ y. elim (cases_eq y x) [
        | inl e ↦ inr (
          ap (slice_index (set new x number)) e ∙ get_or-set_same new x number 0 inside,
          record { step = n; low = low; high = less; here = sym here ∙ sym e },
        )
        | inr d ↦ (let other : slice_index (set new x number) y ≡ slice_index new y = get_or-set_other new x y number 0 d in
            elim (r.each y) [ inl same ↦ inl (other ∙ same) | inr w ↦ inr (other ∙ w.0, w.1) ])
      ];
      on = λ k l above within. elim (cases_eq (place t s.to s.from k) x) [
        | inl e ↦ ap (slice_index (set new x number)) e ∙ get_or-set_same new x number 0 inside
        | inr d ↦ (let not_now : k ≢ n = λ e. d (ap (place t s.to s.from) e ∙ sym here) in
            get_or-set_other new x (place t s.to s.from k) number 0 d ∙ r.on k (omega arith) above within)
      ];
    }

pub noted_less : (t : Table) (s : Span) (number n x : ℕ) (old new : List ℕ) → NotedTo t s number n old new → x ≡ place t s.to s.from n
    → (s.start ≤ n → x < length new → ⊥) → NotedTo t s number (n + 1) old new
noted_less t s number n x old new r here not = record {
  size = r.size;
  each = r.each;
  on = λ k l above within. elim (cases_lt k n) [
    | inl less ↦ r.on k less above within
    | inr more ↦ (let size = r.size in let same : n ≡ k = omega arith in
        let e : x ≡ place t s.to s.from k = here ∙ ap (place t s.to s.from) same in absurd (not (omega arith) (omega arith)))
  ];
}

pub noted : (t : Table) (s : Span) (number n : ℕ) (old new : List ℕ) → NotedTo t s number n old new
    → (IsSpanOfArc t s → s.end ≤ n) → IsSpanNoted t s number old new
noted t s number n old new r end = record {
  size = r.size;
  each = r.each;
  on = λ size a x o. (let high = o.high in let low = end a in let inside = arc_within t s o.step a o.high in
      ap (slice_index new) (sym o.here) ∙ r.on o.step (omega arith) o.low (omega arith));
}

-- one more span's channels have owners
pub owned_more : (t : Table) (spans : List Span) (n number : ℕ) (old new : List ℕ) → AreOwners t spans n old → number ≡ n + 1
    → IsSpanNoted t (span_at spans n) number old new → AreOwners t spans (n + 1) new
owned_more t spans n number old new r one noted =
    let size = r.size in
    record {
      size = noted.size ∙ r.size;
      some = λ x b e. elim (noted.each x) [
        | inl same ↦ (let w = r.some x b (sym same ∙ e) in let low = w.0 in (omega arith, w.1))
        | inr w ↦ (let number_is : number ≡ suc b = sym w.0 ∙ e in let same : n ≡ b = omega arith in
            (omega arith, subst (λ z. IsOnSpan t (span_at spans z) x) same w.1))
      ];
      none = λ b x l a o. elim (noted.each x) [
        | inl same ↦ elim (cases_lt b n) [
          | inl less ↦ (λ zero_now. r.none b x less a o (sym same ∙ zero_now))
          | inr more ↦ (let now : n ≡ b = omega arith in
              λ zero_now. (let is = noted.on r.size (subst (λ z. IsSpanOfArc t (span_at spans z)) (sym now) a) x (subst (λ z. IsOnSpan t (span_at spans z) x) (sym now) o) in
              absurd (omega arith)))
        ]
        | inr w ↦ (λ zero_now. (let is = w.0 in absurd (omega arith)))
      ];
    }

-- the last channel with an owner so far, if one has
pub record LastBelow (t : Table) (owners : List ℕ) (s : Span) (n : ℕ) (m : Met) : Type 0 where
  pub low : m.step < n
  pub here : place t s.to s.from m.step ≡ m.channel
  pub owned : slice_index owners m.channel ≢ 0
  pub last : (k : ℕ) → m.step < k → k < n → slice_index owners (place t s.to s.from k) ≡ 0

abbrev pub MetSoFar : Table → List ℕ → Span → ℕ → Option Met → Type 0
MetSoFar t owners s n None = (k : ℕ) → k < n → slice_index owners (place t s.to s.from k) ≡ 0
MetSoFar t owners s n (Some m) = LastBelow t owners s n m

pub met_here : (t : Table) (owners : List ℕ) (s : Span) (n x : ℕ) → x ≡ place t s.to s.from n → slice_index owners x ≢ 0
    → MetSoFar t owners s (n + 1) (Some (record { step = n; channel = x }))
met_here t owners s n x here owned = record {
  low = omega arith;
  here = sym here;
  owned = owned;
  last = λ k above below. absurd (omega arith);
}

pub met_before : (t : Table) (owners : List ℕ) (s : Span) (n x : ℕ) (found : Option Met) → MetSoFar t owners s n found → x ≡ place t s.to s.from n
    → slice_index owners x ≡ 0 → MetSoFar t owners s (n + 1) found
met_before t owners s n x None r here none = λ k l. elim (cases_lt k n) [
  | inl less ↦ r k less
  | inr more ↦ (let same : k ≡ n = omega arith in ap (λ z. slice_index owners (place t s.to s.from z)) same ∙ (ap (slice_index owners) (sym here) ∙ none))
]
met_before t owners s n x (Some m) r here none = (let low = r.low in record {
  low = omega arith;
  here = r.here;
  owned = r.owned;
  last = λ k above l. elim (cases_lt k n) [
    | inl less ↦ r.last k above less
    | inr more ↦ (let same : k ≡ n = omega arith in ap (λ z. slice_index owners (place t s.to s.from z)) same ∙ (ap (slice_index owners) (sym here) ∙ none))
  ];
})

pub last_of : (t : Table) (owners : List ℕ) (s : Span) (n : ℕ) (m : Met) → LastBelow t owners s n m → n ≤ s.start → (IsSpanOfArc t s → s.start ≤ n)
    → IsLastMet t owners s m
last_of t owners s n m r within all = (let low = r.low in record {
  low = omega arith;
  here = r.here;
  owned = r.owned;
  last = λ a k above below. (let end = all a in r.last k above (omega arith));
})

pub none_of : (t : Table) (owners : List ℕ) (s : Span) (n : ℕ) → MetSoFar t owners s n None → (IsSpanOfArc t s → s.start ≤ n) → MeetsNone t owners s
none_of t owners s n r all = λ a k l. (let end = all a in r k (omega arith))

-- what is met is a tangle
pub tangle : (t : Table) (spans : List Span) (owners : List ℕ) (p b : ℕ) (m : Met) → AreOwners t spans (length spans) owners → p < length spans
    → IsLastMet t owners (span_at spans p) m → slice_index owners m.channel - 1 ≡ b
    → IsTangle t spans (record { place = p; step = m.step; channel = m.channel; owner = b })
tangle t spans owners p b m r low met same =
    let owned = met.owned in
    let w = r.some m.channel b (omega arith) in
    record {
      place_low = low;
      owner_low = w.0;
      low = met.low;
      here = met.here;
      on = w.1;
      last = λ arcs k c above below l o. (let free = met.last (arcs p low) k above below in
          r.none c (place t (span_at spans p).to (span_at spans p).from k) l (arcs c l) o free);
    }

pub untangled : (t : Table) (spans : List Span) (owners : List ℕ) → AreOwners t spans (length spans) owners
    → ((a : ℕ) → a < length spans → MeetsNone t owners (span_at spans a)) → IsUntangled t spans
untangled t spans owners r none = λ arcs a b k la lb lk o.
    r.none b (place t (span_at spans a).to (span_at spans a).from k) lb (arcs b lb) o (none a la (arcs a la) k lk)

-- what was found so far, at the end of the way or where the walk breaks off
pub some_met : (t : Table) (owners : List ℕ) (s : Span) (n : ℕ) (found : Option Met) → MetSoFar t owners s n found → n ≤ s.start → (IsSpanOfArc t s → s.start ≤ n)
    → IfSome found (IsLastMet t owners s)
some_met t owners s n None r within all = tt
some_met t owners s n (Some m) r within all = last_of t owners s n m r within all

pub none_met : (t : Table) (owners : List ℕ) (s : Span) (n : ℕ) (found : Option Met) → MetSoFar t owners s n found → (IsSpanOfArc t s → s.start ≤ n)
    → IfNone found (MeetsNone t owners s)
none_met t owners s n None r all = none_of t owners s n r all
none_met t owners s n (Some m) r all = tt

-- what was written to all of a list
pub written : (n : ℕ) (xs ys : List ℕ) → length ys ≡ length xs → n ≡ length xs → take n (ys ++ drop (length ys) xs) ≡ ys
written n xs ys same all =
    let none : drop (length ys) xs ≡ [] = ap (λ z. drop z xs) same ∙ drop-length xs in
    let whole : n ≡ length ys = omega arith in
    ap (λ (zs : List ℕ). take n (ys ++ zs)) none ∙ (ap (take n) (append-nil ys) ∙ (ap (λ z. take z ys) whole ∙ take-length ys))
