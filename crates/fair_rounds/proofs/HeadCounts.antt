-- Each packet that was sent has its head in one channel, or it was begun at its receiver: whatever is counted of packets,
-- that of the sent ones is that of the ones in the channels and of those begun.
use Rattle.std.proofs.Common.{◌≡◌, ◌≢◌, ℕ, ◌+◌, ◌<◌, [], ◌∷◌, ◌++◌, take, drop, Some, None, ap, ◌∙◌, refl, arith}
use Rattle.std.proofs.lemmas.List.Sums.{sum_by-cons, sum_by_push}
use Rattle.std.specs.List.{sum_by}
use Rattle.wormhole.specs.Net.{Net, IsNet, Parcel}
use Rattle.wormhole.specs.State.{NetLine, Note, NetState, empty}
use Rattle.wormhole.specs.Words.{Words}
use Rattle.wormhole.specs.Routes.{Routes}
use Rattle.wormhole.specs.Weight.{sum_below}
use Rattle.wormhole.specs.Events.{NetEvent, InjectHead, InjectRest, Latch, ForwardHead, ForwardRest, AcceptHead, AcceptRest, Return, put, forwarded}
use Rattle.wormhole.specs.Events.{accepted, after, CanHappen, first_tail}
use Rattle.wormhole.proofs.Changes.{IsChangedAt, AreChangedAt, changed, changed_both}
use Rattle.wormhole.proofs.Sums.{sum_one, sum_two, sum_same}
use Rattle.wormhole.proofs.Heads.{in_line_is, heads, leads}

module _ (n : Net) (count : Parcel → ℕ) where
  -- the count of a channel's packets and of those begun there; and that of those sent there
  abbrev held : Note → ℕ
  held k = sum_by count k.parcels + sum_by count k.begun

  abbrev gone : Note → ℕ
  gone k = sum_by count k.sent

  abbrev pub IsCounted : NetState → Type 0
  IsCounted s = sum_below n.channels (λ x. held (s.notes x)) ≡ sum_below n.channels (λ x. gone (s.notes x))

  pub counted_empty : IsCounted (empty n)
  counted_empty = sum_same n.channels (λ x. gone ((empty n).notes x)) (λ x. held ((empty n).notes x)) (λ x low. refl)

  -- one channel changes
  counted_one : (s t : NetState) (x : ℕ) (l : NetLine) (k : Note) → x < n.channels → IsChangedAt s t x l k
      → held k + gone (s.notes x) ≡ held (s.notes x) + gone k → IsCounted s → IsCounted t
  counted_one s t x l k within change local before =
      let a = sum_one n.channels x (λ z. held (s.notes z)) (λ z. held (t.notes z)) within (λ z low other. ap held (change.notes z other)) in
      let b = sum_one n.channels x (λ z. gone (s.notes z)) (λ z. gone (t.notes z)) within (λ z low other. ap gone (change.notes z other)) in
      let c : held (t.notes x) ≡ held k = ap held change.note in
      let d : gone (t.notes x) ≡ gone k = ap gone change.note in
      omega (arith, a, b, c, d, local, before)

  -- two channels change
  counted_two : (s t : NetState) (x y : ℕ) (l : NetLine) (k : Note) (m : NetLine) (h : Note) → x < n.channels → y < n.channels → x ≢ y
      → AreChangedAt s t x l k y m h → held k + held h ≡ held (s.notes x) + held (s.notes y) → gone k ≡ gone (s.notes x) → gone h ≡ gone (s.notes y)
      → IsCounted s → IsCounted t
  counted_two s t x y l k m h hx hy apart change local sent sent_too before =
      let a = sum_two n.channels x y (λ z. held (s.notes z)) (λ z. held (t.notes z)) hx hy apart (λ z low other more. ap held (change.notes z other more)) in
      let b = sum_two n.channels x y (λ z. gone (s.notes z)) (λ z. gone (t.notes z)) hx hy apart (λ z low other more. ap gone (change.notes z other more)) in
      let c : held (t.notes x) ≡ held k = ap held change.note in
      let d : held (t.notes y) ≡ held h = ap held change.note_too in
      let e : gone (t.notes x) ≡ gone k = ap gone change.note in
      let f : gone (t.notes y) ≡ gone h = ap gone change.note_too in
      omega (arith, a, b, c, d, e, f, local, sent, sent_too, before)

  module _ (s : NetState) (net : IsNet n) (words : Words n s) (routes : Routes n s) where
    apart_by : (x y : ℕ) → n.number x < n.number y → x ≢ y
    apart_by x y rises e = let same = ap n.number e in omega arith

    pub counted_after : (e : NetEvent) → CanHappen n s.lines e → IsCounted s → IsCounted (after n s e)
    counted_after (InjectHead x k) may before =
        let l : NetLine = record (put k.head (s.lines x)) { rest = k.tail } in
        let h : Note = record (s.notes x) { parcels = (s.notes x).parcels ++ k ∷ []; owed = k.tail; sent = (s.notes x).sent ++ k ∷ [] } in
        let a = sum_by_push count (s.notes x).parcels k in
        let b = sum_by_push count (s.notes x).sent k in
        counted_one s (after n s (InjectHead x k)) x l h may.here (changed s x l h) (omega (arith, a, b)) before
    counted_after (InjectRest x f more) may before =
        let l : NetLine = record (put f (s.lines x)) { rest = more } in
        counted_one s (after n s (InjectRest x f more)) x l (record (s.notes x) { owed = more }) may.here (changed s x l (record (s.notes x) { owed = more }))
        refl before
    counted_after (Latch x f more) may before = before
    counted_after (ForwardHead x y f) may before =
        let at = heads n s words routes x f (s.lines x).flits may.head (in_line_is s x (Some f) (s.lines x).flits may.full refl) in
        let on = leads n s words net x y f may.input at may.output in
        let l : NetLine = record (s.lines x) { latch = None } in
        let k : Note = record (s.notes x) { parcels = drop 1 (s.notes x).parcels; awaited = first_tail (s.notes x).parcels } in
        let m : NetLine = forwarded n x f (s.lines y) in
        let h : Note = record (s.notes y) { parcels = (s.notes y).parcels ++ take 1 (s.notes x).parcels; owed = first_tail (s.notes x).parcels } in
        let p : Parcel = at.parcel in
        let a : sum_by count (s.notes x).parcels ≡ count p + sum_by count at.others = ap (sum_by count) at.parcels ∙ sum_by-cons count p at.others in
        let b : sum_by count k.parcels ≡ sum_by count at.others = ap (λ ks. sum_by count (drop 1 ks)) at.parcels in
        let c : sum_by count h.parcels ≡ sum_by count (s.notes y).parcels + count p =
        ap (λ ks. sum_by count ((s.notes y).parcels ++ take 1 ks)) at.parcels ∙ sum_by_push count (s.notes y).parcels p in
        counted_two s (after n s (ForwardHead x y f)) x y l k m h may.here on.within (apart_by x y on.rises) (changed_both s x l k y m h (apart_by x y on.rises))
        (omega (arith, a, b, c)) refl refl before
    counted_after (ForwardRest x y f) may before =
        let rises = routes.rising x y may.owned in
        let l : NetLine = record (s.lines x) { latch = None } in
        let k : Note = record (s.notes x) { awaited = drop 1 (s.notes x).awaited } in
        let m : NetLine = forwarded n x f (s.lines y) in
        let h : Note = record (s.notes y) { owed = drop 1 (s.notes y).owed } in
        counted_two s (after n s (ForwardRest x y f)) x y l k m h may.here (words.inside.owned x y may.owned) (apart_by x y rises)
        (changed_both s x l k y m h (apart_by x y rises)) refl refl refl before
    counted_after (AcceptHead x f more) may before =
        let at = heads n s words routes x f more may.head (in_line_is s x None (f ∷ more) (words.unlatched x may.ejects) may.first) in
        let l : NetLine = accepted n f more (s.lines x) in
        let h : Note = record (s.notes x)
        { parcels = drop 1 (s.notes x).parcels; awaited = first_tail (s.notes x).parcels; begun = (s.notes x).begun ++ take 1 (s.notes x).parcels } in
        let p : Parcel = at.parcel in
        let a : sum_by count (s.notes x).parcels ≡ count p + sum_by count at.others = ap (sum_by count) at.parcels ∙ sum_by-cons count p at.others in
        let b : sum_by count h.parcels ≡ sum_by count at.others = ap (λ ks. sum_by count (drop 1 ks)) at.parcels in
        let c : sum_by count h.begun ≡ sum_by count (s.notes x).begun + count p =
        ap (λ ks. sum_by count ((s.notes x).begun ++ take 1 ks)) at.parcels ∙ sum_by_push count (s.notes x).begun p in
        counted_one s (after n s (AcceptHead x f more)) x l h may.here (changed s x l h) (omega (arith, a, b, c)) before
    counted_after (AcceptRest x f more) may before =
        let l : NetLine = accepted n f more (s.lines x) in
        let h : Note = record (s.notes x) { awaited = drop 1 (s.notes x).awaited } in
        counted_one s (after n s (AcceptRest x f more)) x l h may.here (changed s x l h) refl before
    counted_after (Return x) may before = before
