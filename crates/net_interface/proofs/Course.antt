-- The flits of the request in course, or of the operation that is ready, of which so many are put.
use Rattle.std.proofs.Common.{◌≡◌, ◌≢◌, ℕ, zero, suc, ◌+◌, ◌<◌, ◌≤◌, List, [], ◌∷◌, length, drop, Option, refl, sym, ap, subst, ◌∙◌, arith, add-one}
use Rattle.std.proofs.Common.{length-drop}
use Rattle.std.proofs.lemmas.Bool.{ne_eqb}
use Rattle.std.specs.Prelude.{Bool, true, false, ◌==◌, if◌then◌else◌, IsSome}
use Rattle.packet.specs.declared.kinds.Operation.{Operation}
use Rattle.flit_buffer.specs.Channel.{first_of, rest}
use Rattle.one_order.specs.ProcessorRecord.{ProcessorRecord, ready}
use Rattle.one_order.specs.ProcessorTable.{request_flits, flits_due, issued_of, record_sent}
use Rattle.net_interface.specs.Place.{ProcessorPlace, with_state}
use Rattle.net_interface.specs.Inside.{flits_in_course}

-- a list without so many items and the next
rest_drop : (n : ℕ) (xs : List ℕ) → rest (drop n xs) ≡ drop (suc n) xs
rest_drop zero [] = refl
rest_drop zero (x ∷ xs) = refl
rest_drop (suc n) [] = refl
rest_drop (suc n) (x ∷ xs) = rest_drop n xs

rest_none : (xs : List ℕ) → length xs ≤ 1 → [] ≡ rest xs
rest_none [] h = refl
rest_none (x ∷ []) h = refl
rest_none (x ∷ y ∷ xs) h = absurd (omega arith)

first_within : (xs : List ℕ) → IsSome (first_of xs) → 0 < length xs
first_within [] h = cc
first_within (x ∷ xs) h = omega arith

-- some flits are put
some_put : (n : ℕ) → (suc n == 0) ≡ false
some_put n = ne_eqb (suc n) 0 (λ (e : suc n ≡ 0). cc)

course_put : (n : ℕ) (flits : List ℕ) → flits_in_course (suc n) flits ≡ drop (suc n) flits
course_put n flits = rw (some_put n) refl

-- no request is in course exactly while no flit is put
pub none_in_course : (to_put : List ℕ) (put : ℕ) (flits : List ℕ) → flits_in_course put flits ≡ to_put → (put ≢ 0 → put < length flits)
    → ((put == 0) ≡ true → to_put ≡ []) × (to_put ≡ [] → (put == 0) ≡ true)
none_in_course to_put zero flits is left = (λ t. sym is, λ h. refl)
none_in_course to_put (suc n) flits is left =
    let low = left (λ (e : suc n ≡ 0). cc) in
    let long = length-drop (suc n) flits in (
      λ t. let clash : ◌≡◌ {A = Bool} false true = sym (some_put n) ∙ t in absurd (cc),
      λ h.
          let none : drop (suc n) flits ≡ [] = sym (course_put n flits) ∙ (is ∙ h) in
          let empty : length (drop (suc n) flits) ≡ 0 = ap (λ (xs : List ℕ). length xs) none in
          absurd (omega (arith, low, long, empty)),
    )

module _ (tiles words tile : ℕ) (next : Option (ℕ × Operation)) where
  due_of : (xs : List ℕ) → 0 < length xs → flits_due tiles words tile xs next ≡ xs
  due_of [] h = absurd (omega arith)
  due_of (x ∷ xs) h = refl

  -- the flits to send are those that are not put yet
  pub due_is : (put : ℕ) (flits : List ℕ) → (put ≡ 0 → flits ≡ request_flits tiles words tile next) → (put ≢ 0 → put < length flits)
      → flits_due tiles words tile (flits_in_course put flits) next ≡ drop put flits
  due_is zero flits kept left = sym (kept refl)
  due_is (suc n) flits kept left =
      let low = left (λ (e : suc n ≡ 0). cc) in
      ap (λ xs. flits_due tiles words tile xs next) (course_put n flits) ∙ due_of (drop (suc n) flits) (omega (arith, length-drop (suc n) flits))

sent_of : (tiles words tile : ℕ) (b : ProcessorRecord) (xs : List ℕ) → 0 < length xs → b ≡ record_sent tiles words tile xs b
sent_of tiles words tile b [] h = absurd (omega arith)
sent_of tiles words tile b (x ∷ xs) h = refl

-- a processor that is the same has a flit to send
pub some_due : (p q : ProcessorPlace) → p ≡ q → IsSome (first_of (flits_due q.tiles q.words q.tile q.agent.state.to_put (ready q.agent.state.operations)))
    → IsSome (first_of (flits_due p.tiles p.words p.tile p.agent.state.to_put (ready p.agent.state.operations)))
some_due p q e some = subst (λ (r : ProcessorPlace). IsSome (first_of (flits_due r.tiles r.words r.tile r.agent.state.to_put (ready r.agent.state.operations)))) (sym e)
    some

module _ (tiles words tile put : ℕ) (flits : List ℕ) (b : ProcessorRecord)
    (kept : put ≡ 0 → flits ≡ request_flits tiles words tile (ready b)) (left : put ≢ 0 → put < length flits)
    (some : IsSome (first_of (flits_due tiles words tile (flits_in_course put flits) (ready b)))) where
  -- there is a flit to send
  pub put_within : put < length flits
  put_within =
      let e = due_is tiles words tile (ready b) put flits kept left in
      let k = first_within (drop put flits) (subst (λ (xs : List ℕ). IsSome (first_of xs)) e some) in
      omega (arith, length-drop put flits)

  -- more flits are left after it
  pub left_more : flits_in_course (put + 1) flits ≡ rest (flits_due tiles words tile (flits_in_course put flits) (ready b))
  left_more =
      ap (λ n. flits_in_course n flits) (add-one put)
      ∙ course_put put flits
      ∙ sym (rest_drop put flits)
      ∙ ap rest (sym (due_is tiles words tile (ready b) put flits kept left))

  -- it is the last one
  pub left_none : length flits ≤ put + 1 → [] ≡ rest (flits_due tiles words tile (flits_in_course put flits) (ready b))
  left_none last =
      rest_none (drop put flits) (omega (arith, length-drop put flits, put_within))
      ∙ ap rest (sym (due_is tiles words tile (ready b) put flits kept left))

sent_record_at : (tiles words tile put : ℕ) (flits : List ℕ) (b : ProcessorRecord) → (put ≢ 0 → put < length flits)
    → (if put == 0 then issued_of tiles words tile (ready b) b else b) ≡ record_sent tiles words tile (flits_in_course put flits) b
sent_record_at tiles words tile zero flits b left = refl
sent_record_at tiles words tile (suc n) flits b left =
    let low = left (λ (e : suc n ≡ 0). cc) in
    rw (some_put n) (sent_of tiles words tile b (drop (suc n) flits) (omega (arith, length-drop (suc n) flits)))

-- the processor after a flit is sent
pub sent_place : (p : ProcessorPlace) (ops : ProcessorRecord) (xs : List ℕ) (put : ℕ) (flits : List ℕ) → p.agent.state.to_put ≡ flits_in_course put flits
    → (put ≢ 0 → put < length flits)
    → ops ≡ (if put == 0 then issued_of p.tiles p.words p.tile (ready p.agent.state.operations) p.agent.state.operations else p.agent.state.operations)
    → xs ≡ rest (flits_due p.tiles p.words p.tile (flits_in_course put flits) (ready p.agent.state.operations))
    → with_state p (record p.agent.state { operations = ops; to_put = xs })
    ≡ with_state p (record p.agent.state {
      operations = record_sent p.tiles p.words p.tile p.agent.state.to_put p.agent.state.operations;
      to_put = rest (flits_due p.tiles p.words p.tile p.agent.state.to_put (ready p.agent.state.operations));
    })
sent_place p ops xs put flits same left is_ops is_xs =
    let e : ops ≡ record_sent p.tiles p.words p.tile p.agent.state.to_put p.agent.state.operations =
    is_ops ∙ sent_record_at p.tiles p.words p.tile put flits p.agent.state.operations left
    ∙ ap (λ ys. record_sent p.tiles p.words p.tile ys p.agent.state.operations) (sym same) in
    let f : xs ≡ rest (flits_due p.tiles p.words p.tile p.agent.state.to_put (ready p.agent.state.operations)) =
    is_xs ∙ ap (λ ys. rest (flits_due p.tiles p.words p.tile ys (ready p.agent.state.operations))) (sym same) in
    ap (λ o. with_state p (record p.agent.state { operations = o; to_put = xs })) e
    ∙ ap (λ ys. with_state p (record p.agent.state
    { operations = record_sent p.tiles p.words p.tile p.agent.state.to_put p.agent.state.operations; to_put = ys })) f
