-- Places that are noted for choices, one choice further.
use Rattle.std.proofs.Common.{◌≡◌, ◌⊎◌, inl, inr, ℕ, ◌+◌, ◌<◌, ◌≤◌, ◌^◌, Bool, true, false, List, [], ◌∷◌, ◌++◌, Vec}
use Rattle.std.proofs.Common.{length, take, get_or, refl, sym, ◌∙◌, ap, subst, arith}
use Rattle.std.proofs.Common.{get_or-set_same, get_or-set_other}
use Rattle.std.specs.Prelude.{slice_set, slice_index_or, replicate}
use Rattle.std.specs.List.{flat_map, sum_by}
use Rattle.std.proofs.lemmas.Bool.{cases_eq, cases_lt}
use Rattle.std.proofs.lemmas.List.{append-nil, append_assoc, length-append, length_push, get_or_push, get_or_append_left}
use Rattle.std.proofs.lemmas.List.{take_more, get_or-replicate, get_or_past, length-replicate}
use Rattle.std.proofs.lemmas.List.Concat.{length-flat_map}
use Rattle.std.proofs.lemmas.Grind.{flat_map-append}
use Rattle.network_machine.specs.declared.moves.Move.{Move}
use Rattle.network_machine.specs.declared.moves.Move.TheVariants.{Send, More, Take, Put, Accept, Credit}
use Rattle.network_machine.specs.Moves.{move_channel}
use Rattle.network_machine.specs.Machine.{NetworkMachineSpec}
use Rattle.network_rounds.specs.declared.flags.Places.{Places}
use Rattle.network_rounds.specs.declared.flags.Flags.{Flags}
use Rattle.network_rounds.specs.Flags.{choices_of, no_place, nowhere, place_in, place_of, AreNotedIn, AreFlags}

-- a place is that of no choice, or of this one in a list
abbrev NotedAt : List Move → Move → Move → ℕ → Type 0
NotedAt choices of d k = (k ≡ no_place) ⊎ ((k < length choices) × (slice_index_or choices k d ≡ of))

noted_longer : (choices more : List Move) (of d : Move) (k : ℕ) → NotedAt choices of d k → NotedAt (choices ++ more) of d k
noted_longer choices more of d k h = elim h [
  | inl none ↦ inl none
  | inr here ↦ inr (
    (let size = length-append choices more in let low = here.0 in omega (arith, size, low)),
    get_or_append_left choices more d k here.0
        ∙ here.1,
  )
]

noted_last : (choices : List Move) (of d : Move) → NotedAt (choices ++ of ∷ []) of d (length choices)
noted_last choices of d = inr ((let size = length_push choices of in omega (arith, size)), get_or_push choices of d (length choices) refl)

-- the place of one choice more
pub notes_one : (places : List Places) (choices : List Move) (of : Move) (place : ℕ) (p q : Places) → move_channel of < length places
    → q ≡ get_or places (move_channel of) nowhere → length choices ≡ place
    → ((other : Move) → move_channel other ≡ move_channel of → (place_in p other ≡ place_in q other) ⊎ ((other ≡ of) × (place_in p other ≡ place)))
    → AreNotedIn places choices → AreNotedIn (slice_set places (move_channel of) p) (choices ++ of ∷ [])
notes_one places choices of place p q low was long tells h o d = elim (cases_eq (move_channel o) (move_channel of)) [
  | inl same ↦
      (let here : place_of (slice_set places (move_channel of) p) o ≡ place_in p o =
      ap (λ (r : Places). place_in r o)
      (ap (λ (z : ℕ). slice_index_or (slice_set places (move_channel of) p) z nowhere) same ∙ get_or-set_same places (move_channel of) p nowhere low) in
      elim (tells o same) [
        | inl old ↦ subst (NotedAt (choices ++ of ∷ []) o d)
            (sym (here ∙ (old ∙ ap (λ (r : Places). place_in r o) (was ∙ ap (λ (z : ℕ). get_or places z nowhere) (sym same)))))
            (noted_longer choices (of ∷ []) o d (place_of places o) (h o d))
        | inr new ↦ subst (NotedAt (choices ++ of ∷ []) o d) (sym (here ∙ (new.1 ∙ sym long)))
            (subst (λ (m : Move). NotedAt (choices ++ of ∷ []) m d (length choices)) (sym new.0) (noted_last choices of d))
      ])
  | inr other ↦ subst (NotedAt (choices ++ of ∷ []) o d)
      (sym (ap (λ (r : Places). place_in r o) (get_or-set_other places (move_channel of) (move_channel o) p nowhere other)))
      (noted_longer choices (of ∷ []) o d (place_of places o) (h o d))
]

-- a choice that isn't noted
pub notes_none : (places : List Places) (choices more : List Move) → AreNotedIn places choices → AreNotedIn places (choices ++ more)
notes_none places choices more h o d = noted_longer choices more o d (place_of places o) (h o d)

-- one choice of a group further
pub notes_more : (places : List Places) (choices group : List Move) (k : ℕ) (d : Move) → k < length group
    → AreNotedIn places ((choices ++ take k group) ++ get_or group k d ∷ []) → AreNotedIn places (choices ++ take (k + 1) group)
notes_more places choices group k d low h =
    subst (AreNotedIn places) (append_assoc choices (take k group) (get_or group k d ∷ []) ∙ ap (λ (ms : List Move). choices ++ ms)
    (sym (take_more group k d low))) h

-- the choices of one group more
pub choices_more : {A : Type 0} (groups : List (Vec Move A)) (k : ℕ) (d : Vec Move A) → k < length groups
    → choices_of (take (k + 1) groups) ≡ choices_of (take k groups) ++ (get_or groups k d).items
choices_more {A} groups k d low =
    let f : Vec Move A → List Move = λ group. group.items in
    ap (flat_map f) (take_more groups k d low)
    ∙ (flat_map-append f (take k groups) (get_or groups k d ∷ []) ∙ ap (λ (ms : List Move). flat_map f (take k groups) ++ ms)
    (append-nil (get_or groups k d).items))

pub choices_long : {A : Type 0} (groups : List (Vec Move A)) → length (choices_of groups) ≡ sum_by (λ group. length group.items) groups
choices_long {A} groups = length-flat_map (λ (group : Vec Move A). group.items) groups

pub no_place_in : (of : Move) → place_in nowhere of ≡ no_place
no_place_in (Send p) = refl
no_place_in (More x) = refl
no_place_in (Take x) = refl
no_place_in (Put x) = refl
no_place_in (Accept x) = refl
no_place_in (Credit x) = refl

-- none is noted at first
pub notes_at_first : (channels : ℕ) (choices : List Move) → AreNotedIn (replicate channels nowhere) choices
notes_at_first channels choices of d = inl (ap (λ (r : Places). place_in r of) (by (cases_lt (move_channel of) channels)) ∙ no_place_in of)
  where
    by : (move_channel of < channels) ⊎ (channels ≤ move_channel of) → slice_index_or (replicate channels nowhere) (move_channel of) nowhere ≡ nowhere
    by (inl low) = get_or-replicate channels (move_channel of) nowhere nowhere low
    by (inr past) = get_or_past (replicate channels nowhere) (move_channel of) nowhere
        (let size = length-replicate channels nowhere in omega (arith, size, past))

-- all flags are up at first
pub flags_at_first : {A : Type 0} (m : NetworkMachineSpec) (choices : List Move) (channels count : ℕ) (f : Flags A) → length choices < 2 ^ 31
    → length f.places.items ≡ channels → f.up.items ≡ replicate count true → count ≡ length choices → AreNotedIn f.places.items choices
    → length m.channels ≡ channels → AreFlags m choices f
flags_at_first m choices channels count f few size up many noted is = record {
  size = ap length up ∙ (length-replicate count true ∙ many);
  channels = size ∙ sym is;
  point = λ of d low. elim (noted of d) [
    | inl none ↦ absurd (omega (arith, none, low, few))
    | inr here ↦ here.1
  ];
  noted = λ k d low down. absurd (clash k low down);
  kept = λ k d low down. absurd (clash k low down);
}
  where
    clash : (k : ℕ) → k < length choices → slice_index_or f.up.items k true ≡ false → ⊥
    clash k low down =
        (let e : true ≡ false = sym (ap (λ (us : List Bool). slice_index_or us k true) up ∙ get_or-replicate count k true true (omega (arith, many, low)))
        ∙ down in absurd (cc))

-- how many they are with one group more
pub choices_count : {A : Type 0} (groups : List (Vec Move A)) (k from len : ℕ) (group : Vec Move A) → k < length groups → group ≡ get_or groups k group
    → from ≡ length (choices_of (take k groups)) → len ≡ group.len → from + len ≡ length (choices_of (take (k + 1) groups))
choices_count {A} groups k from len group low is count size =
    (let more = ap length (choices_more groups k group low) in
    let both = length-append (choices_of (take k groups)) (get_or groups k group).items in
    let same = ap (λ (v : Vec Move A). length v.items) is in
    let long = group.ok.0 in
    omega (arith, more, both, same, long, count, size))
