-- Where orders that are unlike explain a trace with places for addresses, as many do of the trace as it is written.
use Rattle.std.proofs.Common.{◌≡◌, ◌≢◌, ◌⊎◌, inl, inr, ⊎_elim, ℕ, zero, suc, ◌<◌, List, [], ◌∷◌, Some, None, refl, sym, ◌∙◌, ap, subst, slice_get, take}
use Rattle.std.proofs.Common.{get_or, map}
use Rattle.std.proofs.lemmas.Bool.{cases_eq}
use Rattle.std.proofs.lemmas.List.{length-map}
use Rattle.packet.specs.Memory.{reply_to, memory_after_one}
use Rattle.packet.proofs.Folds.{other_word}
use Rattle.trace_laws.specs.declared.event.Call.{Call}
use Rattle.trace_laws.specs.declared.event.Event.{Event}
use Rattle.trace_laws.specs.declared.event.Event.TheVariants.{Issue, Answer}
use Rattle.trace_laws.specs.Traces.{TraceIssuesAt}
use Rattle.trace_laws.specs.Orders.{IsOn, memory_of}
use Rattle.trace_laws.specs.Legal.{Legal}
use Rattle.trace_judge.specs.Stops.{LeaveSame, HasMany}
use Rattle.trace_text.specs.Renumbered.{moved_call, moved_event, IsRenumbering}
use Rattle.trace_text.proofs.Renumbered.{map_get, get_map, take_map, map_back, issue_back, issue_there, answer_there, IsSomewhere, same_left, same_found, issue_image, renumbering_take}

-- an order of a beginning, with the numbers of the trace as it is written
abbrev named : (ℕ → ℕ) → List Call → List Call
named back order = map (moved_call back) order

-- with places again it is the same order
placed_again : (place back : ℕ → ℕ) (opening others : List ℕ) (trace : List Event) (k : ℕ) → IsRenumbering place back opening others trace
    → (order : List Call) → Legal others (map (moved_event place) trace) k order → map (moved_call place) (named back order) ≡ order
placed_again place back opening others trace k r order o =
    map_back (moved_call place) (moved_call back) order
    (λ x d h. let at = o.issued x d h in (issue_image place back opening others trace r at.0 d at.2).1)

-- its operations are issued in the trace
issued_before : (place back : ℕ → ℕ) (opening others : List ℕ) (trace : List Event) (k : ℕ) → IsRenumbering place back opening others trace
    → (order : List Call) → Legal others (map (moved_event place) trace) k order → (x : ℕ) (c : Call) → slice_get (named back order) x ≡ Some c
    → (i : ℕ) × (i < k) × TraceIssuesAt trace i c
issued_before place back opening others trace k r order o x c h =
    let g = get_map (moved_call back) order x c h in
    let at = o.issued x g.0 g.1 in
    let i = issue_image place back opening others trace r at.0 g.0 at.2 in
    (at.0, at.1, subst (λ (d : Call). TraceIssuesAt trace at.0 d) g.2 i.0)

somewhere : (place back : ℕ → ℕ) (opening others : List ℕ) (trace : List Event) (k : ℕ) → IsRenumbering place back opening others trace
    → (order : List Call) → Legal others (map (moved_event place) trace) k order → (x : ℕ) (c : Call) → slice_get (named back order) x ≡ Some c
    → IsSomewhere trace c
somewhere place back opening others trace k r order o x c h =
    let at = issued_before place back opening others trace k r order o x c h in (at.0, at.2)

-- it explains what comes before an event
legal_back : (place back : ℕ → ℕ) (opening others : List ℕ) (trace : List Event) (k : ℕ) → IsRenumbering place back opening others trace
    → (order : List Call) → Legal others (map (moved_event place) trace) k order → Legal opening trace k (named back order)
legal_back place back opening others trace k r order o =
    let own : List Call = named back order in
    let again : map (moved_call place) own ≡ order = placed_again place back opening others trace k r order o in
    let issued : (x : ℕ) (c : Call) → slice_get own x ≡ Some c → IsSomewhere trace c =
    λ x c h. somewhere place back opening others trace k r order o x c h in
    let get : (x : ℕ) (c : Call) → slice_get own x ≡ Some c → slice_get order x ≡ Some (moved_call place c) = λ x c h.
    subst (λ (cs : List Call). slice_get cs x ≡ Some (moved_call place c)) again (map_get (moved_call place) own x c h) in
    record {
      once = λ x y c d h g e. o.once x y (moved_call place c) (moved_call place d) (get x c h) (get y d g) e;
      issued = λ x c h. issued_before place back opening others trace k r order o x c h;
      answered = λ i id reply early h.
          let on = o.answered i id reply early (answer_there place trace i id reply h) in
          (on.0, moved_call back on.1, map_get (moved_call back) order on.0 on.1 on.2, on.3);
      real_time = λ i j x y c d reply less h g m n.
          o.real_time i j x y (moved_call place c) (moved_call place d) reply less
          (answer_there place trace i c.id reply h) (issue_there place trace j d g) (get x c m) (get y d n);
      replies = λ i x c reply h g.
          o.replies i x (moved_call place c) reply (get x c h) (answer_there place trace i c.id reply g)
          ∙ (ap (λ (cs : List Call). reply_to c.operation.op (get_or (memory_of others (take x cs)) (place c.operation.address) 0)) (sym again)
          ∙ ap (reply_to c.operation.op) (same_found place back opening others trace r own issued x c (issued x c h)));
    }

-- an operation of a trace that begins with an event is issued there, or behind it
first_or_behind : (e : Event) (trace : List Event) (c : Call) → IsSomewhere (e ∷ trace) c → (e ≡ Issue c) ⊎ IsSomewhere trace c
first_or_behind e trace c (zero, h) = inl (cc)
first_or_behind e trace c (suc i, h) = inr (i, h)

-- an operation of a trace is at this place
abbrev IsNamed : (ℕ → ℕ) → List Event → ℕ → Type 0
IsNamed place trace w = (c : Call) × IsSomewhere trace c × (place c.operation.address ≡ w)

-- some operation is at a place, or none
is_named : (place : ℕ → ℕ) (trace : List Event) (w : ℕ) → IsNamed place trace w ⊎ (IsNamed place trace w → ⊥)
is_named place [] w = inr (λ n. absurd (let e : None ≡ Some (Issue n.0) = n.1.1 in cc))
is_named place (Answer id reply ∷ trace) w = ⊎_elim
    (λ (n : IsNamed place trace w). inl (n.0, (suc n.1.0, n.1.1), n.2))
    (λ (none : IsNamed place trace w → ⊥). inr (λ n. ⊎_elim {C = ⊥}
    (λ (e : Answer id reply ≡ Issue n.0). absurd (cc))
    (λ (on : IsSomewhere trace n.0). none (n.0, on, n.2))
    (first_or_behind (Answer id reply) trace n.0 n.1)))
    (is_named place trace w)
is_named place (Issue d ∷ trace) w = ⊎_elim
    (λ (e : place d.operation.address ≡ w). inl (d, (zero, refl), e))
    (λ (ne : place d.operation.address ≢ w). ⊎_elim
    (λ (n : IsNamed place trace w). inl (n.0, (suc n.1.0, n.1.1), n.2))
    (λ (none : IsNamed place trace w → ⊥). inr (λ n. ⊎_elim {C = ⊥}
    (λ (e : Issue d ≡ Issue n.0). let same : d ≡ n.0 = cc in ne (ap (λ (c : Call). place c.operation.address) same ∙ n.2))
    (λ (on : IsSomewhere trace n.0). none (n.0, on, n.2))
    (first_or_behind (Issue d) trace n.0 n.1)))
    (is_named place trace w))
    (cases_eq (place d.operation.address) w)

-- a word that no operation is on stays as it is
untouched : (words : List ℕ) (order : List Call) (w : ℕ) → ((x : ℕ) (c : Call) → slice_get order x ≡ Some c → c.operation.address ≡ w → ⊥)
    → get_or (memory_of words order) w 0 ≡ get_or words w 0
untouched words [] w none = refl
untouched words (c ∷ order) w none =
    untouched (memory_after_one c.operation words) order w (λ x d h e. none (suc x) d h e)
    ∙ other_word c.operation words w (λ e. none zero c refl (sym e))

unnamed_stays : (place : ℕ → ℕ) (others : List ℕ) (trace : List Event) (k w : ℕ) (order : List Call)
    → Legal others (map (moved_event place) trace) k order → (IsNamed place trace w → ⊥) → get_or (memory_of others order) w 0 ≡ get_or others w 0
unnamed_stays place others trace k w order o none = untouched others order w (λ x c h e.
    let at = o.issued x c h in
    let b = issue_back place trace at.0 c at.2 in
    none (b.0, (at.0, b.1), ap (λ (d : Call). d.operation.address) b.2 ∙ e))

-- what an order leaves at a place, it leaves at its address
left_named : (place back : ℕ → ℕ) (opening others : List ℕ) (trace : List Event) (k w : ℕ) → IsRenumbering place back opening others trace
    → (order : List Call) → Legal others (map (moved_event place) trace) k order → IsNamed place trace w
    → get_or (memory_of others order) w 0 ≡ get_or (memory_of opening (named back order)) (back w) 0
left_named place back opening others trace k w r order o n =
    let own : List Call = named back order in
    let at : back w ≡ n.0.operation.address = ap back (sym n.2) ∙ r.inverse n.1.0 n.0 n.1.1 in
    ap (λ (cs : List Call). get_or (memory_of others cs) w 0) (sym (placed_again place back opening others trace k r order o))
    ∙ (ap (λ (v : ℕ). get_or (memory_of others (map (moved_call place) own)) v 0) (sym n.2)
    ∙ (same_left place back opening others trace r own (λ x c h. somewhere place back opening others trace k r order o x c h) n.0 n.1
    ∙ ap (λ (v : ℕ). get_or (memory_of opening own) v 0) (sym at)))

on_named : (back : ℕ → ℕ) (order : List Call) (id : ℕ) → IsOn order id → IsOn (named back order) id
on_named back order id on = (on.0, moved_call back on.1, map_get (moved_call back) order on.0 on.1 on.2, on.3)

named_on : (back : ℕ → ℕ) (order : List Call) (id : ℕ) → IsOn (named back order) id → IsOn order id
named_on back order id on =
    let g = get_map (moved_call back) order on.0 on.1 on.2 in
    (on.0, g.0, g.1, ap (λ (c : Call). c.id) g.2 ∙ on.3)

-- where two orders leave the same of an address, they leave the same of its place
same_placed : (place back : ℕ → ℕ) (opening others : List ℕ) (trace : List Event) (k w : ℕ) → IsRenumbering place back opening others trace
    → (a b : List Call) → Legal others (map (moved_event place) trace) k a → Legal others (map (moved_event place) trace) k b
    → LeaveSame opening trace k (back w) (named back a) (named back b) → LeaveSame others (map (moved_event place) trace) k w a b
same_placed place back opening others trace k w r a b left right same = record {
  word = ⊎_elim {C = get_or (memory_of others a) w 0 ≡ get_or (memory_of others b) w 0}
      (λ (n : IsNamed place trace w).
      left_named place back opening others trace k w r a left n
      ∙ (same.word ∙ sym (left_named place back opening others trace k w r b right n)))
      (λ (none : IsNamed place trace w → ⊥).
      unnamed_stays place others trace k w a left none ∙ sym (unnamed_stays place others trace k w b right none))
      (is_named place trace w);
  on = λ i call early issue here unanswered.
      let image = issue_image place back opening others trace r i call issue in
      let both = same.on i (moved_call back call) early image.0 (ap back here)
      (λ j reply h. unanswered j reply (answer_there place trace j call.id reply h)) in (
        (λ on. named_on back b call.id (both.0 (on_named back a call.id on))),
        (λ on. named_on back a call.id (both.1 (on_named back b call.id on))),
      );
}

-- a word of the trace as it is written has as many configurations as its place
pub many_back : (place back : ℕ → ℕ) (opening others : List ℕ) (trace : List Event) (k bound : ℕ) → IsRenumbering place back opening others trace
    → HasMany others (map (moved_event place) trace) k bound → HasMany opening trace k bound
many_back place back opening others trace k bound r m =
    let begun : List Event = take m.told trace in
    let is : take m.told (map (moved_event place) trace) ≡ map (moved_event place) begun = take_map (moved_event place) m.told trace in
    let renumbered = renumbering_take place back opening others trace m.told r in
    let legal : (i : ℕ) (order : List Call) → slice_get m.orders i ≡ Some order → Legal others (map (moved_event place) begun) k order =
    λ i order h. subst (λ (t : List Event). Legal others t k order) is (m.legal i order h) in
    record {
      word = back m.word;
      told = m.told;
      early = m.early;
      orders = map (named back) m.orders;
      many = subst (λ (n : ℕ). bound < n) (sym (length-map m.orders (named back))) m.many;
      legal = λ i order h.
          let g = get_map (named back) m.orders i order h in
          subst (λ (cs : List Call). Legal opening begun k cs) g.2
          (legal_back place back opening others begun k renumbered g.0 (legal i g.0 g.1));
      unlike = λ i j a b less h g same.
          let x = get_map (named back) m.orders i a h in
          let y = get_map (named back) m.orders j b g in
          m.unlike i j x.0 y.0 less x.1 y.1
          (subst (λ (t : List Event). LeaveSame others t k m.word x.0 y.0) (sym is)
          (same_placed place back opening others begun k m.word renumbered x.0 y.0 (legal i x.0 x.1) (legal j y.0 y.1)
          (subst (λ (cs : List Call). LeaveSame opening begun k (back m.word) cs (named back y.0)) (sym x.2)
          (subst (λ (cs : List Call). LeaveSame opening begun k (back m.word) a cs) (sym y.2) same))));
    }
