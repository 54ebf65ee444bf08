-- The operations on one word, taken out of an order of all.
use Rattle.std.proofs.Common.{◌≡◌, ◌≢◌, ⊎_elim, ℕ, zero, suc, ◌<◌, ◌≤◌, List, [], ◌∷◌, ◌++◌, length, Some, None, refl, sym, ◌∙◌, ap, arith, slice_get, take}
use Rattle.std.proofs.Common.{get_or}
use Rattle.std.proofs.lemmas.Bool.{cases_eq}
use Rattle.std.proofs.lemmas.List.{take_at, take-append-le}
use Rattle.packet.specs.Memory.{new_word, reply_to}
use Rattle.trace_laws.specs.declared.event.Call.{Call}
use Rattle.trace_laws.specs.declared.event.Event.{Event}
use Rattle.trace_laws.specs.Traces.{IsTrace}
use Rattle.trace_laws.specs.Orders.{IsOn, IsOrder, IsLinearizable, memory_of}
use Rattle.trace_laws.specs.Locality.{IsLinearizableOn}
use Rattle.trace_laws.proofs.Lists.{get_push_cases, get_append_left, get_push, within_length, get_within, take_push}
use Rattle.trace_laws.proofs.Issues.{one_call}
use Rattle.trace_laws.proofs.Memory.{word_changed, word_kept}

-- word w after the operations of an order
abbrev pub word_of : List ℕ → ℕ → List Call → ℕ
word_of opening w order = get_or (memory_of opening order) w 0

-- an operation of the part stands in the order before place n, is on the word, and finds the word that it finds there
record IsFound (opening : List ℕ) (order : List Call) (w n : ℕ) (part : List Call) (x : ℕ) (c : Call) : Type 0 where
  pub at : ℕ
  pub before : at < n
  pub there : slice_get order at ≡ Some c
  pub here : c.operation.address ≡ w
  pub word : word_of opening w (take x part) ≡ word_of opening w (take at order)

-- the part has the operations on word w that stand in the order before place n
record IsPart (opening : List ℕ) (order : List Call) (w n : ℕ) (part : List Call) : Type 0 where
  pub inside : (x : ℕ) (c : Call) → slice_get part x ≡ Some c → IsFound opening order w n part x c
  pub has : (y : ℕ) (c : Call) → y < n → slice_get order y ≡ Some c → c.operation.address ≡ w
      → (x : ℕ) × (slice_get part x ≡ Some c)
  pub rising : (x u y v : ℕ) (c d : Call) → slice_get part x ≡ Some c → slice_get part u ≡ Some d
      → slice_get order y ≡ Some c → slice_get order v ≡ Some d → y < v → x < u
  pub once : (x u : ℕ) (c d : Call) → slice_get part x ≡ Some c → slice_get part u ≡ Some d → c.id ≡ d.id
      → x ≡ u
  pub word : word_of opening w part ≡ word_of opening w (take n order)

part_none : (opening : List ℕ) (order : List Call) (w : ℕ) → IsPart opening order w 0 []
part_none opening order w = record {
  inside = λ x c h. absurd (let e : None ≡ Some c = h in cc);
  has = λ y c l h here. absurd (omega arith);
  rising = λ x u y v c d h k m n l. absurd (let e : None ≡ Some c = h in cc);
  once = λ x u c d h k e. absurd (let f : None ≡ Some c = h in cc);
  word = refl;
}

-- what stands at place n is on another word
part_skip : (opening : List ℕ) (order : List Call) (w n : ℕ) (d : Call) → slice_get order n ≡ Some d
    → w ≢ d.operation.address → (part : List Call) → IsPart opening order w n part
    → IsPart opening order w (suc n) part
part_skip opening order w n d at other part p = record {
  inside = λ x c h.
      let f = p.inside x c h in
      let l = f.before in
      record { at = f.at; before = omega arith; there = f.there; here = f.here; word = f.word };
  has = λ y c l h here. ⊎_elim {C = (x : ℕ) × (slice_get part x ≡ Some c)}
      (λ (e : y ≡ n).
      let same : c ≡ d = let k : slice_get order n ≡ Some c = ap (λ (m : ℕ). slice_get order m) (sym e) ∙ h in cc in
      absurd (other (sym here ∙ ap (λ (f : Call). f.operation.address) same)))
      (λ (ne : y ≢ n). p.has y c (omega arith) h here)
      (cases_eq y n);
  rising = p.rising;
  once = p.once;
  word = p.word ∙ (sym (word_kept opening (take n order) d w other)
      ∙ ap (λ (o : List Call). word_of opening w o) (sym (take_push order n d at)));
}

-- what stands at place n is on the word
part_add : (opening : List ℕ) (trace : List Event) (order : List Call) → IsOrder opening trace order
    → (w n : ℕ) (d : Call)
    → slice_get order n ≡ Some d → d.operation.address ≡ w → w < length opening → (part : List Call)
    → IsPart opening order w n part → IsPart opening order w (suc n) (part ++ d ∷ [])
part_add opening trace order o w n d at here l part p = record {
  inside = λ x c h. ⊎_elim {C = IsFound opening order w (suc n) (part ++ d ∷ []) x c}
      (λ (old : slice_get part x ≡ Some c).
      let f = p.inside x c old in
      let less = f.before in
      let short = get_within part x c old in
      let same : take x (part ++ d ∷ []) ≡ take x part = take-append-le x part (d ∷ []) (omega arith) in
      record {
        at = f.at;
        before = omega arith;
        there = f.there;
        here = f.here;
        word = ap (λ (q : List Call). word_of opening w q) same ∙ f.word;
      })
      (λ (new : (x ≡ length part) × (d ≡ c)).
      let same : take x (part ++ d ∷ []) ≡ part = take_at part (d ∷ []) x (sym new.0) in
      record {
        at = n;
        before = omega arith;
        there = at ∙ ap (λ (f : Call). Some f) new.1;
        here = ap (λ (f : Call). f.operation.address) (sym new.1) ∙ here;
        word = ap (λ (q : List Call). word_of opening w q) same ∙ p.word;
      })
      (get_push_cases part d x c h);
  has = λ y c less h there. ⊎_elim {C = (x : ℕ) × (slice_get (part ++ d ∷ []) x ≡ Some c)}
      (λ (e : y ≡ n).
      let k : slice_get order n ≡ Some c = ap (λ (m : ℕ). slice_get order m) (sym e) ∙ h in
      let same : d ≡ c = cc in
      (length part, get_push part d ∙ ap (λ (f : Call). Some f) same))
      (λ (ne : y ≢ n). let r = p.has y c (omega arith) h there in (r.0, get_append_left part (d ∷ []) r.0 c r.1))
      (cases_eq y n);
  rising = λ x u y v c e h k m q less. ⊎_elim {C = x < u}
      (λ (old : slice_get part x ≡ Some c). ⊎_elim {C = x < u}
      (λ (also : slice_get part u ≡ Some e). p.rising x u y v c e old also m q less)
      (λ (new : (u ≡ length part) × (d ≡ e)). let short = get_within part x c old in let long = new.0 in omega arith)
      (get_push_cases part d u e k))
      (λ (new : (x ≡ length part) × (d ≡ c)).
      let last : y ≡ n = o.once y n c d m at (ap (λ (f : Call). f.id) (sym new.1)) in
      ⊎_elim {C = x < u}
      (λ (old : slice_get part u ≡ Some e).
      let f = p.inside u e old in
      let early = f.before in
      let same = o.once v f.at e e q f.there refl in
      absurd (omega arith))
      (λ (also : (u ≡ length part) × (d ≡ e)).
      let same = o.once v n e d q at (ap (λ (f : Call). f.id) (sym also.1)) in
      absurd (omega arith))
      (get_push_cases part d u e k))
      (get_push_cases part d x c h);
  once = λ x u c e h k same. ⊎_elim {C = x ≡ u}
      (λ (old : slice_get part x ≡ Some c). ⊎_elim {C = x ≡ u}
      (λ (also : slice_get part u ≡ Some e). p.once x u c e old also same)
      (λ (new : (u ≡ length part) × (d ≡ e)). absurd (apart x c e old new.1 same))
      (get_push_cases part d u e k))
      (λ (new : (x ≡ length part) × (d ≡ c)). ⊎_elim {C = x ≡ u}
      (λ (old : slice_get part u ≡ Some e). absurd (apart u e c old new.1 (sym same)))
      (λ (also : (u ≡ length part) × (d ≡ e)). new.0 ∙ sym also.0)
      (get_push_cases part d u e k))
      (get_push_cases part d x c h);
  word = word_changed opening part d w here l
      ∙ (ap (λ (v : ℕ). new_word d.operation.op v) p.word
      ∙ (sym (word_changed opening (take n order) d w here l)
      ∙ ap (λ (q : List Call). word_of opening w q) (sym (take_push order n d at))));
}
  where
    apart : (x : ℕ) (c e : Call) → slice_get part x ≡ Some c → d ≡ e → c.id ≡ e.id → ⊥
    apart x c e old new same =
        let f = p.inside x c old in
        let early = f.before in
        let wrong = o.once f.at n c d f.there at (same ∙ ap (λ (g : Call). g.id) (sym new)) in
        omega arith

part_to : (opening : List ℕ) (trace : List Event) (order : List Call) → IsOrder opening trace order → (w : ℕ)
    → w < length opening
    → (n : ℕ) → n ≤ length order → (part : List Call) × IsPart opening order w n part
part_to opening trace order o w l zero all = ([], part_none opening order w)
part_to opening trace order o w l (suc n) all =
    let r = part_to opening trace order o w l n (omega arith) in
    let d = within_length order n (omega arith) in
    ⊎_elim {C = (part : List Call) × IsPart opening order w (suc n) part}
    (λ (here : d.0.operation.address ≡ w).
    (r.0 ++ d.0 ∷ [], part_add opening trace order o w n d.0 d.1 here l r.0 r.1))
    (λ (other : d.0.operation.address ≢ w). (r.0, part_skip opening order w n d.0 d.1 (λ e. other (sym e)) r.0 r.1))
    (cases_eq d.0.operation.address w)

-- the operations on one word of an order that explains the trace explain what the trace does on the word
pub word_order : (opening : List ℕ) (trace : List Event) → IsTrace (length opening) trace
    → IsLinearizable opening trace
    → (w : ℕ) → w < length opening → IsLinearizableOn w opening trace
word_order opening trace t is w l =
    let order = is.0 in
    let o : IsOrder opening trace order = is.1 in
    let n = length order in
    let r = part_to opening trace order o w l n (omega arith) in
    let part : List Call = r.0 in
    let p : IsPart opening order w n part = r.1 in (
      part,
      record {
        here = λ x c h. (p.inside x c h).here;
        once = p.once;
        issued = λ x c h. let f = p.inside x c h in o.issued f.at c f.there;
        answered = λ i j c reply issue here answer.
            let on : IsOn order c.id = o.answered j c.id reply answer in
            let also = o.issued on.0 on.1 on.2 in
            let same = one_call (length opening) trace t also.0 i on.1 c also.1 issue on.3 in
            let there : slice_get order on.0 ≡ Some c = on.2 ∙ ap (λ (f : Call). Some f) same in
            let x = p.has on.0 c (get_within order on.0 c there) there here in
            (x.0, c, x.1, refl);
        real_time = λ i j x y c d reply less answer issue h k.
            let f = p.inside x c h in
            let g = p.inside y d k in
            p.rising x y f.at g.at c d h k f.there g.there
            (o.real_time i j f.at g.at c d reply less answer issue f.there g.there);
        replies = λ i x c reply h answer.
            let f = p.inside x c h in
            o.replies i f.at c reply f.there answer
            ∙ (ap (λ (v : ℕ). reply_to c.operation.op (get_or (memory_of opening (take f.at order)) v 0)) f.here
            ∙ (ap (λ (v : ℕ). reply_to c.operation.op v) (sym f.word)
            ∙ ap (λ (v : ℕ). reply_to c.operation.op (get_or (memory_of opening (take x part)) v 0)) (sym f.here)));
      },
    )
