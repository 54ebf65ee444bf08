-- The channels of two agents together; and that the word of a want tells what is granted.
use Rattle.std.proofs.Common.{◌≡◌, ◌≢◌, ℕ, ◌-◌, ◌*◌, ◌<◌, ◌≤◌, inl, inr, List, ◌++◌, length, get_or, Option, Some, None, ap, ◌∙◌, refl, sym, subst, arith}
use Rattle.std.specs.Prelude.{MatchOption, nat_lt, if◌then◌else◌}
use Rattle.std.proofs.lemmas.List.{get_or_append_left, get_or-append-add, map-append, length-append}
use Rattle.std.proofs.lemmas.Bool.{cases_lt}
use Rattle.flit_buffer.specs.Channel.{first_of}
use Rattle.flit_buffer.specs.Words.{word_of}
use Rattle.flit_buffer.specs.Wants.{want_op, outcome}
use Rattle.flit_buffer.specs.Places.{sending, receiving, put_in_ring, take_from_ring, credit_of_ring}
use Rattle.flit_buffer.specs.Surroundings.{Surroundings, Wiring, ring, granted, surroundings_after, ports_of, AreRings, ShowsAll, IsWired, IsPossible, changed}
use Rattle.flit_buffer.specs.declared.word_op.WordOp.{WordOp}
use Rattle.flit_buffer.specs.declared.want.Want.{Want}
use Rattle.flit_buffer.specs.declared.want.Want.TheVariants.{Take, Put, Credit, Access, Await}
use Rattle.flit_buffer.proofs.PortLaws.{some_injective}
use Rattle.flit_buffer.proofs.WantLaws.{want_granted, want_refused}
use Rattle.flit_buffer.specs.Joined.{joined, shifted, joined_wiring, HasChannel, AreDisjoint}

-- what is granted and what follows, by the number of the channel
g_take : Surroundings → ℕ → Option ℕ
g_take around x = first_of (ring around.rings x).channel.flits

g_put : Surroundings → ℕ → Option ℕ
g_put around x = if nat_lt 0 (ring around.rings x).channel.held then Some 0 else None

g_credit : Surroundings → ℕ → Option ℕ
g_credit around x = if nat_lt 0 (ring around.rings x).channel.returning then Some 0 else None

module _ (depth : ℕ) (around : Surroundings) (v w : Wiring) where
  pub granted_left : (want : Want) → HasChannel v want → granted around (joined_wiring v w) want ≡ granted around v want
  unfolding g_take g_put g_credit
  granted_left (Take i) there = ap (g_take around) (get_or_append_left v.inputs w.inputs 0 i there)
  granted_left (Put o flit) there = ap (g_put around) (get_or_append_left v.outputs w.outputs 0 o there)
  granted_left (Credit o) there = ap (g_credit around) (get_or_append_left v.outputs w.outputs 0 o there)
  granted_left (Access word op) there = refl
  granted_left (Await word value) there = refl

  pub left_left : (want : Want) → HasChannel v want → surroundings_after depth around (joined_wiring v w) want ≡ surroundings_after depth around v want
  left_left (Take i) there = ap (λ x. changed around x (take_from_ring depth)) (get_or_append_left v.inputs w.inputs 0 i there)
  left_left (Put o flit) there = ap (λ x. changed around x (put_in_ring flit)) (get_or_append_left v.outputs w.outputs 0 o there)
  left_left (Credit o) there = ap (λ x. changed around x credit_of_ring) (get_or_append_left v.outputs w.outputs 0 o there)
  left_left (Access word op) there = refl
  left_left (Await word value) there = refl

  pub granted_right : (want : Want) → granted around (joined_wiring v w) (shifted (length v.inputs) (length v.outputs) want) ≡ granted around w want
  unfolding g_take g_put g_credit
  granted_right (Take i) = ap (g_take around) (get_or-append-add v.inputs w.inputs i 0)
  granted_right (Put o flit) = ap (g_put around) (get_or-append-add v.outputs w.outputs o 0)
  granted_right (Credit o) = ap (g_credit around) (get_or-append-add v.outputs w.outputs o 0)
  granted_right (Access word op) = refl
  granted_right (Await word value) = refl

  pub left_right : (want : Want)
      → surroundings_after depth around (joined_wiring v w) (shifted (length v.inputs) (length v.outputs) want) ≡ surroundings_after depth around w want
  left_right (Take i) = ap (λ x. changed around x (take_from_ring depth)) (get_or-append-add v.inputs w.inputs i 0)
  left_right (Put o flit) = ap (λ x. changed around x (put_in_ring flit)) (get_or-append-add v.outputs w.outputs o 0)
  left_right (Credit o) = ap (λ x. changed around x credit_of_ring) (get_or-append-add v.outputs w.outputs o 0)
  left_right (Access word op) = refl
  left_right (Await word value) = refl

  pub ports_joined : ports_of depth around (joined_wiring v w) ≡ joined (ports_of depth around v) (ports_of depth around w)
  ports_joined = rw (
    map-append (λ x. receiving (x * depth) depth (ring around.rings x)) v.inputs w.inputs,
    map-append
        (λ x. sending (x * depth) depth (ring around.rings x)) v.outputs w.outputs,
  ) refl

-- two lists of different numbers below a bound, none of which stands in both
module _ (count : ℕ) (xs ys : List ℕ) where
  at_right : (i : ℕ) → length xs ≤ i → get_or (xs ++ ys) i 0 ≡ get_or ys (i - length xs) 0
  at_right i high = ap (λ k. get_or (xs ++ ys) k 0) (omega arith) ∙ get_or-append-add xs ys (i - length xs) 0

  within : ((i : ℕ) → i < length xs → get_or xs i 0 < count) → ((i : ℕ) → i < length ys → get_or ys i 0 < count) → (i : ℕ) → i < length (xs ++ ys)
      → get_or (xs ++ ys) i 0 < count
  within left right i h = elim (cases_lt i (length xs)) [
    | inl low ↦ omega (arith, get_or_append_left xs ys 0 i low, left i low)
    | inr high ↦ omega (arith, at_right i high, right (i - length xs) (omega (arith, length-append xs ys)))
  ]

  apart : ((i j : ℕ) → i < length xs → j < length xs → i ≢ j → get_or xs i 0 ≢ get_or xs j 0)
      → ((i j : ℕ) → i < length ys → j < length ys → i ≢ j → get_or ys i 0 ≢ get_or ys j 0)
      → ((i j : ℕ) → i < length xs → j < length ys → get_or xs i 0 ≢ get_or ys j 0)
      → (i j : ℕ) → i < length (xs ++ ys) → j < length (xs ++ ys) → i ≢ j → get_or (xs ++ ys) i 0 ≢ get_or (xs ++ ys) j 0
  apart left right across i j hi hj ne e = elim (cases_lt i (length xs)) [
    | inl li ↦
        elim (cases_lt j (length xs)) [
          | inl lj ↦ left i j li lj ne (sym (get_or_append_left xs ys 0 i li) ∙ e ∙ get_or_append_left xs ys 0 j lj)
          | inr rj ↦ across i (j - length xs) li (omega (arith, length-append xs ys)) (sym (get_or_append_left xs ys 0 i li) ∙ e ∙ at_right j rj)
        ]
    | inr ri ↦
        elim (cases_lt j (length xs)) [
          | inl lj ↦ across j (i - length xs) lj (omega (arith, length-append xs ys)) (sym (get_or_append_left xs ys 0 j lj) ∙ sym e ∙ at_right i ri)
          | inr rj ↦
              right (i - length xs) (j - length xs) (omega (arith, length-append xs ys)) (omega (arith, length-append xs ys)) (λ d. ne (omega arith))
              (sym (at_right i ri) ∙ e ∙ at_right j rj)
        ]
  ]

pub joined_is_wired : (count : ℕ) (v w : Wiring) → IsWired count v → IsWired count w → AreDisjoint v w → IsWired count (joined_wiring v w)
joined_is_wired count v w first second disjoint = record {
  inputs_within = within count v.inputs w.inputs first.inputs_within second.inputs_within;
  outputs_within = within count v.outputs w.outputs first.outputs_within second.outputs_within;
  inputs_apart = apart count v.inputs w.inputs first.inputs_apart second.inputs_apart disjoint.inputs;
  outputs_apart = apart count v.outputs w.outputs first.outputs_apart second.outputs_apart disjoint.outputs;
}

module _ (row : List ℕ) (depth : ℕ) (around : Surroundings) (wiring : Wiring) (want : Want) (shows : ShowsAll row depth around) (are : AreRings depth around)
    (wired : IsWired (length around.rings) wiring) (possible : IsPossible around wiring want) where
  tells_by : (o : Option WordOp) (g : Option ℕ) → want_op (ports_of depth around wiring) want ≡ o → granted around wiring want ≡ g
      → MatchOption o (g ≡ None) (λ op. outcome want (get_or row (word_of op) 0) ≡ g)
  tells_by None None asks e = refl
  tells_by None (Some learned) asks e = let m = want_granted row depth around wiring shows are wired want learned possible e in let k = m.asks in cc
  tells_by (Some op) None asks e = (want_refused row depth around wiring shows are wired want op possible e asks).refuses
  tells_by (Some op) (Some learned) asks e =
      let m = want_granted row depth around wiring shows are wired want learned possible e in
      let P : WordOp → Type 0 = λ x. outcome want (get_or row (word_of x) 0) ≡ Some learned in
      subst P (some_injective (sym m.asks ∙ asks)) m.learns

  pub tells : MatchOption (want_op (ports_of depth around wiring) want) (granted around wiring want ≡ None)
      (λ op. outcome want (get_or row (word_of op) 0) ≡ granted around wiring want)
  tells = tells_by (want_op (ports_of depth around wiring) want) (granted around wiring want) refl refl
