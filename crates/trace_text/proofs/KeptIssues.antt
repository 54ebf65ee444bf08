-- What an issue keeps true.
use Rattle.std.proofs.Common.{◌≡◌, ◌≢◌, ⊎_elim, ℕ, ◌<◌, ◌^◌, ◌+◌, true, List, [], ◌∷◌, ◌++◌, length, Some, None, refl, sym, ◌∙◌}
use Rattle.std.proofs.Common.{ap, subst, arith, slice_get, get_or-set_same, get_or-set_other}
use Rattle.std.specs.Prelude.{Option, nat_lt, not, is_some, Ok, Err, if◌then◌else◌}
use Rattle.std.proofs.lemmas.Bool.{cases_eq}
use Rattle.std.proofs.lemmas.List.{length-set}
use Rattle.packet.specs.declared.kinds.Operation.{Operation}
use Rattle.trace_laws.specs.declared.event.Call.{Call}
use Rattle.trace_laws.specs.declared.event.Event.TheVariants.{Issue}
use Rattle.trace_laws.proofs.Lists.{get_push_cases, get_append_left, get_push, get_within}
use Rattle.trace_lines.specs.Head.{value_in, with_value}
use Rattle.trace_text.specs.declared.issued.Issued.{Issued}
use Rattle.trace_text.specs.declared.reason.TraceReason.TheVariants as reason
use Rattle.trace_text.specs.IssueNumbers.{numbers_of, with_number}
use Rattle.trace_text.specs.Kept.{IsKeptIssue, IsKnownAs, AreIndexed}
use Rattle.trace_text.specs.Traced.{TraceReading, with_issue, placed, add_issue}
use Rattle.trace_text.proofs.Entries.{value_new, value_old}
use Rattle.trace_text.proofs.Growing.{longer, issued_with, answered_before, was_issued, issued_later, issue_grows}
use Rattle.trace_text.proofs.Outcomes.{one_ok, bind_ok, else_ok, if_ok}

-- operations are found by processor and index once there is one more
issue_indexed : (numbers : List (List ℕ)) (issued : List Issued) → length numbers ≡ 4096 → AreIndexed numbers issued → (p : ℕ) → p < 4096
    → (one : Issued) → one.processor ≡ p → one.index ≡ length (numbers_of numbers p)
    → AreIndexed (with_number numbers p (length issued)) (issued ++ one ∷ [])
issue_indexed numbers issued count found p low one processor index n i h =
    let mine : List ℕ = numbers_of numbers p ++ length issued ∷ [] in
    let here : numbers_of (with_number numbers p (length issued)) p ≡ mine = get_or-set_same numbers p mine [] (omega (arith, count, low)) in
    ⊎_elim {C = slice_get (numbers_of (with_number numbers p (length issued)) i.processor) i.index ≡ Some n}
    (λ old. ⊎_elim {C = slice_get (numbers_of (with_number numbers p (length issued)) i.processor) i.index ≡ Some n}
    (λ (same : i.processor ≡ p).
    let there : slice_get (numbers_of numbers p) i.index ≡ Some n = ap (λ q. slice_get (numbers_of numbers q) i.index) (sym same) ∙ found n i old in
    ap (λ q. slice_get (numbers_of (with_number numbers p (length issued)) q) i.index) same
    ∙ (ap (λ (ns : List ℕ). slice_get ns i.index) here ∙ get_append_left (numbers_of numbers p) (length issued ∷ []) i.index n there))
    (λ (other : i.processor ≢ p).
    ap (λ (ns : List ℕ). slice_get ns i.index) (get_or-set_other numbers p i.processor mine [] other) ∙ found n i old)
    (cases_eq i.processor p))
    (λ last.
    let is : one ≡ i = last.1 in
    subst (λ (j : Issued). slice_get (numbers_of (with_number numbers p (length issued)) j.processor) j.index ≡ Some n) is
    (ap (λ (q : ℕ). slice_get (numbers_of (with_number numbers p (length issued)) q) one.index) processor
    ∙ (ap (λ (k : ℕ). slice_get (numbers_of (with_number numbers p (length issued)) p) k) index
    ∙ (ap (λ (ns : List ℕ). slice_get ns (length (numbers_of numbers p))) here
    ∙ (get_push (numbers_of numbers p) (length issued) ∙ ap (λ (m : ℕ). Some m) (sym last.0))))))
    (get_push_cases issued one n i h)

-- a new issue
issue_kept : (r : TraceReading) → IsKeptIssue r → (line p : ℕ) (o : Operation) → p < 4096 → o.address < r.head.words
    → (q : ℕ) → value_in r.places o.address ≡ Some q → IsKeptIssue (with_issue r line p o)
issue_kept r k line p o small low q place =
    let new : Call = record { id = length r.issued; operation = o } in
    let one : Issued = record { processor = p; index = length (numbers_of r.numbers p); operation = o; reply = None } in
    record {
      words = k.words;
      processors = length-set r.numbers p (numbers_of r.numbers p ++ length r.issued ∷ []) ∙ k.processors;
      opened = k.opened;
      trace = issue_grows r.head.words r.events new k.trace
          (λ i c h. let named = k.known i c h in get_within r.issued c.id named.0 named.1) low;
      lines = longer r.lines line ∙ (ap (λ n. n + 1) k.lines ∙ sym (longer r.events (Issue new)));
      known = λ i c h. ⊎_elim
          (λ old. let named = k.known i c old in (named.0, get_append_left r.issued (one ∷ []) c.id named.0 named.1, named.2))
          (λ last. subst (λ (d : Call). IsKnownAs (r.issued ++ one ∷ []) d) last.1 (one, get_push r.issued one, refl))
          (issued_with r.events new i c h);
      issued = λ n l. ⊎_elim
          (λ (e : n ≡ length r.issued).
          (length r.events, new, (let g = longer r.events (Issue new) in omega arith), sym e, get_push r.events (Issue new)))
          (λ (ne : n ≢ length r.issued).
          let low : n < length r.issued = (let g = longer r.issued one in omega arith) in
          issued_later (r.events ++ Issue new ∷ []) (length r.events) (length (r.events ++ Issue new ∷ [])) n
          (let g = longer r.events (Issue new) in omega arith)
          (was_issued r.events (Issue new) (length r.events) n (k.issued n low)))
          (cases_eq n (length r.issued));
      replied = λ i id reply h.
          let b = k.replied i id reply (answered_before r.events new i id reply h) in
          (b.0, get_append_left r.issued (one ∷ []) id b.0 b.1, b.2);
      indexed = issue_indexed r.numbers r.issued k.processors k.indexed p small one refl refl;
      placed = λ i c h. ⊎_elim
          (λ old. k.placed i c old)
          (λ last. subst (λ (d : Call). (n : ℕ) × (value_in r.places d.operation.address ≡ Some n)) last.1 (q, place))
          (issued_with r.events new i c h);
      addressed = k.addressed;
      below = k.below;
    }

-- a new place
new_place : (r : TraceReading) → IsKeptIssue r → (a : ℕ) → a < r.head.words
    → IsKeptIssue (record r { places = with_value r.places a (length r.addresses); addresses = r.addresses ++ a ∷ [] })
new_place r k a low = record {
  words = k.words;
  processors = k.processors;
  opened = k.opened;
  trace = k.trace;
  lines = k.lines;
  known = k.known;
  issued = k.issued;
  replied = k.replied;
  indexed = k.indexed;
  placed = λ i c h. let q = k.placed i c h in ⊎_elim
      (λ (e : c.operation.address ≡ a).
      (length r.addresses, ap (value_in (with_value r.places a (length r.addresses))) e ∙ value_new r.places a (length r.addresses)))
      (λ (ne : c.operation.address ≢ a). (q.0, value_old r.places a (length r.addresses) c.operation.address ne ∙ q.1))
      (cases_eq c.operation.address a);
  addressed = λ b p h. ⊎_elim {C = slice_get (r.addresses ++ a ∷ []) p ≡ Some b}
      (λ (e : b ≡ a).
      let there : value_in (with_value r.places a (length r.addresses)) b ≡ Some (length r.addresses) =
      ap (value_in (with_value r.places a (length r.addresses))) e ∙ value_new r.places a (length r.addresses) in
      let last : p ≡ length r.addresses = cc in
      ap (λ (n : ℕ). slice_get (r.addresses ++ a ∷ []) n) last ∙ (get_push r.addresses a ∙ ap (λ (n : ℕ). Some n) (sym e)))
      (λ (ne : b ≢ a).
      get_append_left r.addresses (a ∷ []) p b (k.addressed b p (sym (value_old r.places a (length r.addresses) b ne) ∙ h)))
      (cases_eq b a);
  below = λ p b h. ⊎_elim
      (λ old. k.below p b old)
      (λ last. subst (λ (n : ℕ). n < r.head.words) last.1 low)
      (get_push_cases r.addresses a p b h);
}

some_is : (o : Option ℕ) → is_some o ≡ true → (q : ℕ) × (o ≡ Some q)
some_is (Some q) h = (q, refl)
some_is None h = absurd (cc)

-- what placing leaves: the same, and a place
record IsPlaced (r next : TraceReading) (a : ℕ) : Type 0 where
  pub kept : IsKeptIssue next
  pub words : next.head.words ≡ r.head.words
  pub place : ℕ
  pub there : value_in next.places a ≡ Some place

placed_kept : (r next : TraceReading) → IsKeptIssue r → (a : ℕ) → a < r.head.words → placed r a ≡ Ok next → IsPlaced r next a
placed_kept r next k a low h = ⊎_elim
    (λ old.
    let same : r ≡ next = one_ok r next old.1 in
    let q = some_is (value_in r.places a) old.0 in
    subst (λ (n : TraceReading). IsPlaced r n a) same (record { kept = k; words = refl; place = q.0; there = q.1 }))
    (λ new.
    let room = else_ok (not (nat_lt (length r.addresses) (2 ^ 20))) _
    (Ok (record r { places = with_value r.places a (length r.addresses); addresses = r.addresses ++ a ∷ [] })) next new.1 in
    let same : record r { places = with_value r.places a (length r.addresses); addresses = r.addresses ++ a ∷ [] } ≡ next = one_ok _ next room.1 in
    subst (λ (n : TraceReading). IsPlaced r n a) same
    (record { kept = new_place r k a low; words = refl; place = length r.addresses; there = value_new r.places a (length r.addresses) }))
    (if_ok (is_some (value_in r.places a)) (Ok r)
    (if not (nat_lt (length r.addresses) (2 ^ 20)) then Err reason.AddressesLimits
    else Ok (record r { places = with_value r.places a (length r.addresses); addresses = r.addresses ++ a ∷ [] })) next h)

pub add_issue_kept : (r next : TraceReading) → IsKeptIssue r → (line p : ℕ) (o : Operation) → p < 4096 → o.address < r.head.words
    → add_issue r line p o ≡ Ok next → IsKeptIssue next
add_issue_kept r next k line p o small inside h =
    let room = else_ok (not (nat_lt (length r.issued) (2 ^ 22))) _ _ next h in
    let place = bind_ok (placed r o.address) _ next room.1 in
    let there = placed_kept r place.0 k o.address inside place.1 in
    let same : with_issue place.0 line p o ≡ next = one_ok _ next place.2 in
    subst IsKeptIssue same
    (issue_kept place.0 there.kept line p o small
    (subst (λ (n : ℕ). o.address < n) (sym there.words) inside) there.place there.there)
