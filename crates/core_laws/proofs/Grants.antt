-- A want that another agent's granted want doesn't meet is granted after it exactly where it was.
use Rattle.std.proofs.Common.{◌≡◌, ◌≢◌, ◌↔◌, ℕ, ◌<◌, inl, inr, List, length, Option, Some, None, refl, sym, ◌∙◌, ap, get_or-set_other}
use Rattle.std.proofs.Common.{if◌then◌else◌}
use Rattle.std.specs.Prelude.{slice_index, nat_lt}
use Rattle.std.proofs.lemmas.Bool.{cases_eq, cases_lt}
use Rattle.std.proofs.lemmas.List.{set_past}
use Rattle.packet.specs.Memory.{new_word}
use Rattle.flit_buffer.specs.Channel.{first_of}
use Rattle.flit_buffer.specs.Joined.{AreDisjoint}
use Rattle.flit_buffer.specs.Places.{Ring, put_in_ring, take_from_ring, credit_of_ring}
use Rattle.flit_buffer.specs.Surroundings.{Surroundings, Wiring, ring, changed, granted, surroundings_after, IsPossible}
use Rattle.flit_buffer.specs.OwnPart.{SameWhereWanted}
use Rattle.flit_buffer.specs.declared.want.Want.{Want}
use Rattle.flit_buffer.specs.declared.want.Want.TheVariants.{Take, Put, Credit, Access, Await}
use Rattle.flit_buffer.proofs.ManyRings.{changed_here, changed_other}
use Rattle.flit_buffer.proofs.OwnParts.{same_where}
use Rattle.core_laws.specs.Waking.{Meets}

-- what a change of a channel leaves of it, every channel has as before; and another channel has all as before
module _ {A : Type 0} (part : Ring → A) (around : Surroundings) (x : ℕ) (f : Ring → Ring) (y : ℕ) where
  elsewhere : y ≢ x → part (ring (changed around x f).rings y) ≡ part (ring around.rings y)
  elsewhere other = ap part (changed_other around x f y other)

  left_alone : ((r : Ring) → part (f r) ≡ part r) → part (ring (changed around x f).rings y) ≡ part (ring around.rings y)
  left_alone same = elim (cases_eq y x) [
    | inl e ↦
        elim (cases_lt x (length around.rings)) [
          | inl low ↦
              ap (λ (z : ℕ). part (ring (changed around x f).rings z)) e
              ∙ (ap part (changed_here around x f low) ∙ (same (ring around.rings x) ∙ ap (λ (z : ℕ). part (ring around.rings z)) (sym e)))
          | inr high ↦ ap (λ (rs : List Ring). part (ring rs y)) (set_past around.rings x _ high)
        ]
    | inr other ↦ elsewhere other
  ]

none_alike : {o p : Option ℕ} → o ≡ p → (o ≡ None) ↔ (p ≡ None)
none_alike e = (λ h. sym e ∙ h, λ h. e ∙ h)

module _ (depth : ℕ) (around : Surroundings) (v w : Wiring) (apart : AreDisjoint v w) where
  abbrev left : Want → Surroundings
  left want = surroundings_after depth around v want

  same_flits : (want : Want) (j : ℕ) → IsPossible around v want → j < length w.inputs → (Meets v want w (Take j) → ⊥)
      → SameWhereWanted (left want) around w (Take j)
  same_flits (Take i) j here there unmet =
      elsewhere (λ (r : Ring). r.channel.flits) around _ (take_from_ring depth) (slice_index w.inputs j) (λ e. apart.inputs i j here there (sym e))
  same_flits (Put o flit) j here there unmet =
      elsewhere (λ (r : Ring). r.channel.flits) around _ (put_in_ring flit) (slice_index w.inputs j) (λ e. unmet (sym e))
  same_flits (Credit o) j here there unmet = left_alone (λ (r : Ring). r.channel.flits) around _ credit_of_ring (slice_index w.inputs j) (λ r. refl)
  same_flits (Access word op) j here there unmet = refl
  same_flits (Await word value) j here there unmet = refl

  same_held : (want : Want) (p flit : ℕ) → IsPossible around v want → p < length w.outputs → SameWhereWanted (left want) around w (Put p flit)
  same_held (Take i) p flit here there = left_alone (λ (r : Ring). r.channel.held) around _ (take_from_ring depth) (slice_index w.outputs p) (λ r. refl)
  same_held (Put o other) p flit here there =
      elsewhere (λ (r : Ring). r.channel.held) around _ (put_in_ring other) (slice_index w.outputs p) (λ e. apart.outputs o p here.0 there (sym e))
  same_held (Credit o) p flit here there =
      elsewhere (λ (r : Ring). r.channel.held) around _ credit_of_ring (slice_index w.outputs p) (λ e. apart.outputs o p here there (sym e))
  same_held (Access word op) p flit here there = refl
  same_held (Await word value) p flit here there = refl

  same_returning : (want : Want) (p : ℕ) → IsPossible around v want → p < length w.outputs → (Meets v want w (Credit p) → ⊥)
      → SameWhereWanted (left want) around w (Credit p)
  same_returning (Take i) p here there unmet =
      elsewhere (λ (r : Ring). r.channel.returning) around _ (take_from_ring depth) (slice_index w.outputs p) (λ e. unmet (sym e))
  same_returning (Put o flit) p here there unmet =
      left_alone (λ (r : Ring). r.channel.returning) around _ (put_in_ring flit) (slice_index w.outputs p) (λ r. refl)
  same_returning (Credit o) p here there unmet =
      elsewhere (λ (r : Ring). r.channel.returning) around _ credit_of_ring (slice_index w.outputs p) (λ e. apart.outputs o p here there (sym e))
  same_returning (Access word op) p here there unmet = refl
  same_returning (Await word value) p here there unmet = refl

  same_word : (want : Want) (n value : ℕ) → (Meets v want w (Await n value) → ⊥) → SameWhereWanted (left want) around w (Await n value)
  same_word (Take i) n value unmet = refl
  same_word (Put o flit) n value unmet = refl
  same_word (Credit o) n value unmet = refl
  same_word (Access word op) n value unmet = get_or-set_other around.words word n (new_word op (slice_index around.words word)) 0 (λ e. unmet (sym e))
  same_word (Await word other) n value unmet = refl

  pub granted_alike : (want sought : Want) → IsPossible around v want → IsPossible around w sought → (Meets v want w sought → ⊥)
      → (granted (left want) w sought ≡ None) ↔ (granted around w sought ≡ None)
  granted_alike want (Take j) here there unmet = none_alike (same_where (left want) around w (Take j) (same_flits want j here there unmet))
  granted_alike want (Put p flit) here there unmet = none_alike (same_where (left want) around w (Put p flit) (same_held want p flit here there.0))
  granted_alike want (Credit p) here there unmet = none_alike (same_where (left want) around w (Credit p) (same_returning want p here there unmet))
  granted_alike want (Access n op) here there unmet = (λ h. absurd (cc), λ h. absurd (cc))
  granted_alike want (Await n value) here there unmet = none_alike (same_where (left want) around w (Await n value) (same_word want n value unmet))

-- a credit may grant a put of the same agent
abbrev pub Spares : Want → Want → Type 0
Spares (Credit o) (Put p flit) = ⊥
Spares want sought = Unit {0}

-- any other want that is refused stays so after one of the same agent is granted that doesn't meet it
module _ (depth : ℕ) (around : Surroundings) (v : Wiring) where
  abbrev behind : Want → Surroundings
  behind want = surroundings_after depth around v want

  refused_by : (want sought : Want) → SameWhereWanted (behind want) around v sought → granted around v sought ≡ None → granted (behind want) v sought ≡ None
  refused_by want sought same none = same_where (behind want) around v sought same ∙ none

  clash : {o : Option ℕ} {n : ℕ} → o ≡ Some n → o ≡ None → ⊥
  clash {o} {n} some none = let e : ◌≡◌ {A = Option ℕ} (Some n) None = sym some ∙ none in cc

  pub own_refused : (want sought : Want) (learned : ℕ) → granted around v want ≡ Some learned → (Meets v want v sought → ⊥) → Spares want sought
      → granted around v sought ≡ None
      → granted (behind want) v sought ≡ None
  own_refused (Take i) (Take j) n grants unmet spares none = elim (cases_eq (slice_index v.inputs j) (slice_index v.inputs i)) [
    | inl e ↦ absurd (clash (ap (λ (x : ℕ). first_of (ring around.rings x).channel.flits) e ∙ grants) none)
    | inr other ↦ refused_by (Take i) (Take j) (elsewhere (λ (r : Ring). r.channel.flits) around _ (take_from_ring depth) (slice_index v.inputs j) other) none
  ]
  own_refused (Take i) (Put p flit) n grants unmet spares none =
      refused_by (Take i) (Put p flit) (left_alone (λ (r : Ring). r.channel.held) around _ (take_from_ring depth) (slice_index v.outputs p) (λ r. refl)) none
  own_refused (Take i) (Credit p) n grants unmet spares none =
      refused_by (Take i) (Credit p)
      (elsewhere (λ (r : Ring). r.channel.returning) around _ (take_from_ring depth) (slice_index v.outputs p) (λ e. unmet (sym e))) none
  own_refused (Take i) (Access w op) n grants unmet spares none = absurd (cc)
  own_refused (Take i) (Await w value) n grants unmet spares none = none
  own_refused (Put o flit) (Take j) n grants unmet spares none =
      refused_by (Put o flit) (Take j)
      (elsewhere (λ (r : Ring). r.channel.flits) around _ (put_in_ring flit) (slice_index v.inputs j) (λ e. unmet (sym e))) none
  own_refused (Put o flit) (Put p more) n grants unmet spares none = elim (cases_eq (slice_index v.outputs p) (slice_index v.outputs o)) [
    | inl e ↦ absurd (clash (ap (λ (x : ℕ). if nat_lt 0 (ring around.rings x).channel.held then Some 0 else None) e ∙ grants) none)
    | inr other ↦
        refused_by (Put o flit) (Put p more) (elsewhere (λ (r : Ring). r.channel.held) around _ (put_in_ring flit) (slice_index v.outputs p) other) none
  ]
  own_refused (Put o flit) (Credit p) n grants unmet spares none =
      refused_by (Put o flit) (Credit p) (left_alone (λ (r : Ring). r.channel.returning) around _ (put_in_ring flit) (slice_index v.outputs p) (λ r. refl)) none
  own_refused (Put o flit) (Access w op) n grants unmet spares none = absurd (cc)
  own_refused (Put o flit) (Await w value) n grants unmet spares none = none
  own_refused (Credit o) (Take j) n grants unmet spares none =
      refused_by (Credit o) (Take j) (left_alone (λ (r : Ring). r.channel.flits) around _ credit_of_ring (slice_index v.inputs j) (λ r. refl)) none
  own_refused (Credit o) (Put p flit) n grants unmet spares none = absurd spares
  own_refused (Credit o) (Credit p) n grants unmet spares none = elim (cases_eq (slice_index v.outputs p) (slice_index v.outputs o)) [
    | inl e ↦ absurd (clash (ap (λ (x : ℕ). if nat_lt 0 (ring around.rings x).channel.returning then Some 0 else None) e ∙ grants) none)
    | inr other ↦ refused_by (Credit o) (Credit p) (elsewhere (λ (r : Ring). r.channel.returning) around _ credit_of_ring (slice_index v.outputs p) other) none
  ]
  own_refused (Credit o) (Access w op) n grants unmet spares none = absurd (cc)
  own_refused (Credit o) (Await w value) n grants unmet spares none = none
  own_refused (Access w op) (Take j) n grants unmet spares none = none
  own_refused (Access w op) (Put p flit) n grants unmet spares none = none
  own_refused (Access w op) (Credit p) n grants unmet spares none = none
  own_refused (Access w op) (Access x act) n grants unmet spares none = absurd (cc)
  own_refused (Access w op) (Await x value) n grants unmet spares none =
      refused_by (Access w op) (Await x value) (get_or-set_other around.words w x (new_word op (slice_index around.words w)) 0 (λ e. unmet (sym e))) none
  own_refused (Await w value) (Take j) n grants unmet spares none = none
  own_refused (Await w value) (Put p flit) n grants unmet spares none = none
  own_refused (Await w value) (Credit p) n grants unmet spares none = none
  own_refused (Await w value) (Access x act) n grants unmet spares none = absurd (cc)
  own_refused (Await w value) (Await x sought) n grants unmet spares none = none
