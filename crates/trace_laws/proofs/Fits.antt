-- A configuration tells what an order leaves of a word, and which of the open operations on it are in the order.
use Rattle.std.proofs.Common.{◌≡◌, ◌≢◌, inl, inr, ⊎_elim, ℕ, ◌<◌, ◌≤◌, List, [], ◌∷◌, ◌++◌, length, Option, Some, None, sym, ◌∙◌, ap, subst, arith, slice_get}
use Rattle.std.proofs.Common.{set, get_or}
use Rattle.std.specs.Int.{bit_at}
use Rattle.std.proofs.lemmas.Bool.{cases_eq}
use Rattle.packet.specs.Memory.{new_word}
use Rattle.trace_laws.specs.declared.event.Call.{Call}
use Rattle.trace_laws.specs.declared.event.Event.{Event}
use Rattle.trace_laws.specs.declared.opened.Open.{Open}
use Rattle.trace_laws.specs.declared.opened.Config.{Config}
use Rattle.packet.specs.declared.kinds.Reply.{Reply}
use Rattle.trace_laws.specs.Traces.{IsTrace, TraceIssuesAt, TraceAnswersAt}
use Rattle.trace_laws.specs.Orders.{IsOn, memory_of}
use Rattle.trace_laws.specs.Configs.{IsOpen, IsLeft, MayTake, effect, release, with_bit, without_bit}
use Rattle.trace_laws.proofs.Lists.{get_within, get_push, get_set_same, get_set_other}
use Rattle.trace_laws.proofs.Memory.{word_changed, word_kept}
use Rattle.trace_laws.proofs.Bits.{not_both, with_same, with_other, without_same, without_other}
use Rattle.trace_laws.proofs.Legal.{push_on}
use Rattle.trace_laws.proofs.Issues.{one_call, on_push}
use Rattle.trace_laws.proofs.Table.{at_within, at_more, more_at}
use Rattle.trace_laws.specs.Searches.{IsAt, IsIndexTable, Fits}

pub fits_none : (opening : List ℕ) (table : List (Option Open)) (w : ℕ)
    → ((s : ℕ) (o : Open) → IsAt table s o → ⊥) → (c : Config) → c.word ≡ get_or opening w 0
    → ((s : ℕ) → IsLeft c s) → Fits opening table w [] c
fits_none opening table w empty c word left = record {
  word = word;
  taken = λ s o h b. absurd (empty s o h.there);
  left = λ s o h b on. empty s o h.there;
  free = λ s l. inl (left s);
}

-- an open operation takes effect
pub fits_effect : (opening : List ℕ) (trace : List Event) (k : ℕ) (table : List (Option Open)) (w : ℕ)
    (order : List Call) (c : Config) (s : ℕ) (o : Open)
    → IsIndexTable trace k w table
    → w < length opening → MayTake table w c s o → Fits opening table w order c
    → Fits opening table w (order ++ o.call ∷ []) (effect c s o)
fits_effect opening trace k table w order c s o t inside may fits =
    let l : s < 128 = at_within trace k w table s o t may.pending.there in
    record {
      word = ap (λ (v : ℕ). new_word o.call.operation.op v) fits.word ∙ sym
          (word_changed opening order o.call w may.pending.here inside);
      taken = λ u p h b. ⊎_elim
          (λ (e : u ≡ s).
          let there : slice_get table s ≡ Some (Some p) = ap (λ (n : ℕ). slice_get table n) (sym e) ∙ h.there in
          let here : slice_get table s ≡ Some (Some o) = may.pending.there in
          let same : o ≡ p = cc in
          (length order, o.call, get_push order o.call, ap (λ (q : Open). q.call.id) same))
          (λ (ne : u ≢ s). on_push order o.call p.call.id (fits.taken u p h (sym (with_other c.taken s u l ne) ∙ b)))
          (cases_eq u s);
      left = λ u p h b on. ⊎_elim
          (λ (e : u ≡ s). not_both (bit_at (with_bit c.taken s) u) b
          (ap (λ (n : ℕ). bit_at (with_bit c.taken s) n) e ∙ with_same c.taken s l))
          (λ (ne : u ≢ s). fits.left u p h (sym (with_other c.taken s u l ne) ∙ b)
          (push_on order o.call p.call.id on (λ same. ne (t.distinct u s p o h.there may.pending.there (sym same)))))
          (cases_eq u s);
      free = λ u m. ⊎_elim
          (λ (e : u ≡ s). inr (
            o,
            record {
              there = ap (λ (n : ℕ). slice_get table n) e
                  ∙ may.pending.there;
              here = may.pending.here;
            },
          ))
          (λ (ne : u ≢ s). ⊎_elim
          (λ b. inl (with_other c.taken s u l ne ∙ b))
          (λ r. inr r)
          (fits.free u m))
          (cases_eq u s);
    }

-- an operation on another word does
pub fits_other : (words : ℕ) (opening : List ℕ) (trace : List Event) (k : ℕ) (table : List (Option Open)) (w : ℕ)
    (order : List Call) (c : Config) (d : Call) (i : ℕ)
    → IsTrace words trace → IsIndexTable trace k w table → TraceIssuesAt trace i d → w ≢ d.operation.address
    → Fits opening table w order c → Fits opening table w (order ++ d ∷ []) c
fits_other words opening trace k table w order c d i tr t issue other fits = record {
  word = fits.word ∙ sym (word_kept opening order d w other);
  taken = λ s o h b. on_push order d o.call.id (fits.taken s o h b);
  left = λ s o h b on. fits.left s o h b (push_on order d o.call.id on
      (λ same.
      let p = t.pending s o h.there in
      let e = one_call words trace tr i p.at d o.call issue p.issue same in
      other (sym h.here ∙ ap (λ (f : Call). f.operation.address) (sym e))));
  free = fits.free;
}

-- an operation on this word that is not open takes effect, and leaves the word as it is
pub fits_idle : (opening : List ℕ) (trace : List Event) (k : ℕ) (table : List (Option Open)) (w : ℕ)
    (order : List Call) (c : Config) (d : Call)
    → IsIndexTable trace k w table → w < length opening → d.operation.address ≡ w
    → (i : ℕ) (reply : Reply) → i < k → TraceAnswersAt trace i d.id reply
    → new_word d.operation.op (get_or (memory_of opening order) w 0) ≡ get_or (memory_of opening order) w 0
    → Fits opening table w order c → Fits opening table w (order ++ d ∷ []) c
fits_idle opening trace k table w order c d t inside here i reply early answered still fits = record {
  word = fits.word ∙ (sym still ∙ sym (word_changed opening order d w here inside));
  taken = λ s o h b. on_push order d o.call.id (fits.taken s o h b);
  left = λ s o h b on. fits.left s o h b (push_on order d o.call.id on
      (λ same.
      let late = (t.pending s o h.there).unanswered i reply
      (subst (λ (n : ℕ). TraceAnswersAt trace i n reply) same answered) in
      omega arith));
  free = fits.free;
}

-- an operation is issued, and takes a free slot
pub fits_issue : (opening : List ℕ) (table : List (Option Open)) (w : ℕ) (order : List Call) (c : Config) (s : ℕ)
    (b : Open)
    → s < 128 → slice_get table s ≡ Some None
    → (b.call.operation.address ≡ w → IsOn order b.call.id → ⊥) → Fits opening table w order c
    → Fits opening (set table s (Some b)) w order c
fits_issue opening table w order c s b l empty new fits =
    let unset : IsLeft c s = ⊎_elim
    (λ b. b)
    (λ (r : (o : Open) × IsOpen table w s o). absurd
    (let there : slice_get table s ≡ Some (Some r.0) = r.1.there in cc))
    (fits.free s l) in
    let old : (u : ℕ) (o : Open) → u ≢ s → IsOpen (set table s (Some b)) w u o → IsOpen table w u o =
    λ u o ne h. record { there = sym (get_set_other table s u (Some b) ne) ∙ h.there; here = h.here } in
    record {
      word = fits.word;
      taken = λ u o h bit. ⊎_elim
          (λ (e : u ≡ s). absurd (not_both (bit_at c.taken u) (ap (λ (n : ℕ). bit_at c.taken n) e ∙ unset) bit))
          (λ (ne : u ≢ s). fits.taken u o (old u o ne h) bit)
          (cases_eq u s);
      left = λ u o h bit on. ⊎_elim
          (λ (e : u ≡ s).
          let same : Some o ≡ Some b = get_set_same table s None (Some b) (Some o) empty
          (ap (λ (n : ℕ). slice_get (set table s (Some b)) n) (sym e) ∙ h.there) in
          let is : o ≡ b = cc in
          new (ap (λ (q : Open). q.call.operation.address) (sym is) ∙ h.here)
          (subst (λ (q : Open). IsOn order q.call.id) is on))
          (λ (ne : u ≢ s). fits.left u o (old u o ne h) bit on)
          (cases_eq u s);
      free = λ u m. ⊎_elim
          (λ (e : u ≡ s). inl (ap (λ (n : ℕ). bit_at c.taken n) e ∙ unset))
          (λ (ne : u ≢ s). ⊎_elim
          (λ bit. inl bit)
          (λ (r : (o : Open) × IsOpen table w u o). inr
          (r.0, record { there = get_set_other table s u (Some b) ne ∙ r.1.there; here = r.1.here }))
          (fits.free u m))
          (cases_eq u s);
    }

-- so it is of each word
pub fits_issued : (opening : List ℕ) (tables later : ℕ → List (Option Open)) (w : ℕ) (order : List Call) (c : Config)
    (s : ℕ) (b : Open)
    → s < 128 → slice_get (tables b.call.operation.address) s ≡ Some None
    → later b.call.operation.address ≡ set (tables b.call.operation.address) s (Some b)
    → ((v : ℕ) → v ≢ b.call.operation.address → later v ≡ tables v)
    → (b.call.operation.address ≡ w → IsOn order b.call.id → ⊥) → Fits opening (tables w) w order c
    → Fits opening (later w) w order c
fits_issued opening tables later w order c s b l empty written same new fits = ⊎_elim {C = Fits opening (later w) w order c}
    (λ (e : w ≡ b.call.operation.address).
    let a : ℕ = b.call.operation.address in
    subst (λ (u : ℕ). Fits opening (later u) u order c) (sym e)
    (subst (λ (ts : List (Option Open)). Fits opening ts a order c) (sym written)
    (fits_issue opening (tables a) a order c s b l empty (λ h. new (sym e))
    (subst (λ (u : ℕ). Fits opening (tables u) u order c) e fits))))
    (λ (ne : w ≢ b.call.operation.address). subst (λ (ts : List (Option Open)). Fits opening ts w order c) (sym (same w ne)) fits)
    (cases_eq w b.call.operation.address)

-- the operation in slot s is answered
pub fits_answer : (opening : List ℕ) (table : List (Option Open)) (w : ℕ) (order : List Call) (c : Config) (s : ℕ)
    (a : Open)
    → length table ≤ 128 → IsAt table s a
    → Fits opening table w order c → Fits opening (set table s None) w order (release c s)
fits_answer opening table w order c s a small there fits =
    let l : s < 128 = let m = get_within table s (Some a) there in omega arith in
    let other : (u : ℕ) (o : Open) → IsOpen (set table s None) w u o → u ≢ s =
    λ u o h e.
    let same : Some o ≡ None = get_set_same table s (Some a) None (Some o) there
    (ap (λ (n : ℕ). slice_get (set table s None) n) (sym e) ∙ h.there) in
    cc in
    let old : (u : ℕ) (o : Open) → IsOpen (set table s None) w u o → IsOpen table w u o =
    λ u o h. record { there = sym (get_set_other table s u None (other u o h)) ∙ h.there; here = h.here } in
    let kept : (u : ℕ) (o : Open) → IsOpen (set table s None) w u o → bit_at
    (without_bit c.taken s) u ≡ bit_at c.taken u =
    λ u o h.
    let m = get_within table u (Some o) (old u o h).there in
    let small : u < 128 = omega arith in
    without_other c.taken s u l small (other u o h) in
    record {
      word = fits.word;
      taken = λ u o h bit. fits.taken u o (old u o h) (sym (kept u o h) ∙ bit);
      left = λ u o h bit on. fits.left u o (old u o h) (sym (kept u o h) ∙ bit) on;
      free = λ u m. ⊎_elim
          (λ (e : u ≡ s). inl (ap (λ (n : ℕ). bit_at (without_bit c.taken s) n) e ∙ without_same c.taken s l))
          (λ (ne : u ≢ s). ⊎_elim
          (λ bit. inl (without_other c.taken s u l m ne ∙ bit))
          (λ (r : (o : Open) × IsOpen table w u o). inr
          (r.0, record { there = get_set_other table s u None ne ∙ r.1.there; here = r.1.here }))
          (fits.free u m))
          (cases_eq u s);
    }

-- the table has one more slot
pub fits_more : (opening : List ℕ) (table : List (Option Open)) (w : ℕ) (order : List Call) (c : Config)
    → Fits opening table w order c → Fits opening (table ++ None ∷ []) w order c
fits_more opening table w order c fits = record {
  word = fits.word;
  taken = λ s o h b. fits.taken s o (record { there = at_more table s o h.there; here = h.here }) b;
  left = λ s o h b on. fits.left s o (record { there = at_more table s o h.there; here = h.here }) b on;
  free = λ s m. ⊎_elim
      (λ bit. inl bit)
      (λ (r : (o : Open) × IsOpen table w s o). inr
      (r.0, record { there = more_at table s r.0 r.1.there; here = r.1.here }))
      (fits.free s m);
}

pub fits_widened : (opening : List ℕ) (tables later : ℕ → List (Option Open)) (w : ℕ)
    → later w ≡ tables w ++ None ∷ [] → ((v : ℕ) → v ≢ w → later v ≡ tables v)
    → (v : ℕ) (order : List Call) (c : Config) → Fits opening (tables v) v order c → Fits opening (later v) v order c
fits_widened opening tables later w new same v order c fits = ⊎_elim {C = Fits opening (later v) v order c}
    (λ (e : v ≡ w). subst (λ (u : ℕ). Fits opening (later u) u order c) (sym e)
    (subst (λ (ts : List (Option Open)). Fits opening ts w order c) (sym new)
    (fits_more opening (tables w) w order c (subst (λ (u : ℕ). Fits opening (tables u) u order c) e fits))))
    (λ (ne : v ≢ w). subst (λ (ts : List (Option Open)). Fits opening ts v order c) (sym (same v ne)) fits)
    (cases_eq v w)
