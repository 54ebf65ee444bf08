-- Flags that are told, one choice after the other.
use Rattle.std.proofs.Common.{◌≡◌, ◌⊎◌, inl, inr, ℕ, ◌<◌, ◌≤◌, Bool, true, false, List, Vec, length, get_or, refl, sym, ◌∙◌, ap, subst, arith}
use Rattle.std.proofs.Common.{get_or-set_same, get_or-set_other}
use Rattle.std.specs.Prelude.{◌==◌, slice_set, slice_index_or}
use Rattle.std.proofs.lemmas.Bool.{cases_eq, eq-eqb, eqb-true}
use Rattle.std.specs.Vec.{with_items}
use Rattle.std.proofs.lemmas.List.{length-set, get_or_past, with_items_is}
use Rattle.network_machine.specs.declared.moves.Move.{Move}
use Rattle.network_machine.specs.declared.moves.Move.TheVariants.{Send, More, Take, Put, Accept, Credit}
use Rattle.network_machine.specs.declared.free.Lets.{Lets}
use Rattle.network_machine.specs.Lets.{is_let}
use Rattle.network_machine.specs.Moves.{move_channel}
use Rattle.network_machine.specs.Machine.{NetworkMachineSpec, IsKept, KeepsOtherChannels}
use Rattle.network_machine.proofs.Kept.{kept_prevents, kept_elsewhere}
use Rattle.network_rounds.specs.declared.flags.Places.{Places}
use Rattle.network_rounds.specs.declared.flags.Flags.{Flags}
use Rattle.network_rounds.specs.Flags.{no_place, nowhere, place_in, place_of, PointTo, AreFlagsBut, AreFlags, AreIdleWhereDown, told_places}
use Rattle.network_rounds.proofs.Noted.{no_place_in}

-- a vector is shorter than the place of no choice
pub places_few : {A : Type 0} (f : Flags A) → length f.up.items ≤ no_place
places_few f =
    (let size = f.up.ok.0 in
    let room = f.up.ok.1 in
    let small = f.up.small in
    omega (arith, size, room, small))

-- fewer choices are untold, where the others have no place
pub told_less : {A : Type 0} (P Q : Move → Type 0) (m : NetworkMachineSpec) (choices : List Move) (f : Flags A) → length f.up.items ≤ no_place
    → ((of : Move) → place_of f.places.items of < no_place → P of → Q of) → AreFlagsBut P m choices f → AreFlagsBut Q m choices f
told_less P Q m choices f few less h = record {
  size = h.size;
  channels = h.channels;
  point = h.point;
  noted = h.noted;
  kept = λ k d low down. elim (h.kept k d low down) [
    | inl untold ↦ inl (less (slice_index_or choices k d)
        (let at = h.noted k d low down in let size = h.size in omega (arith, at, low, size, few)) untold)
    | inr kept ↦ inr kept
  ];
}

-- one choice is told
pub tell_one : {A : Type 0} (P Q : Move → Type 0) (m : NetworkMachineSpec) (choices : List Move) (f g : Flags A) (of : Move) (may : Bool)
    → ((o : Move) → P o → (o ≡ of) ⊎ Q o) → g.up.items ≡ slice_set f.up.items (place_of f.places.items of) may → g.places ≡ f.places
    → (may ≡ false → IsKept m of) → AreFlagsBut P m choices f → AreFlagsBut Q m choices g
tell_one {A} P Q m choices f g of may takes up places keeps h = record {
  size = ap length up ∙ (length-set f.up.items place may ∙ h.size);
  channels = ap (λ (ps : Vec Places A). length ps.items) places ∙ h.channels;
  point = subst (λ (ps : Vec Places A). PointTo ps.items choices) (sym places) h.point;
  noted = λ k d low down. ap (λ (ps : Vec Places A). place_of ps.items (slice_index_or choices k d)) places ∙ (was k d low down).0;
  kept = λ k d low down. (was k d low down).1;
}
  where
    place : ℕ
    place = place_of f.places.items of

    was : (k : ℕ) (d : Move) → k < length choices → slice_index_or g.up.items k true ≡ false
        → (place_of f.places.items (slice_index_or choices k d) ≡ k) × (Q (slice_index_or choices k d) ⊎ IsKept m (slice_index_or choices k d))
    was k d low down = elim (cases_eq k place) [
      | inl same ↦
          (let here : slice_index_or choices k d ≡ of = ap (λ (j : ℕ). slice_index_or choices j d) same ∙ h.point of d (omega (arith, same, low)) in
          let size = h.size in
          let is : may ≡ false =
          sym (ap (λ (us : List Bool). slice_index_or us k true) up
          ∙ (ap (λ (j : ℕ). slice_index_or (slice_set f.up.items place may) j true) same
          ∙ get_or-set_same f.up.items place may true (omega (arith, same, low, size)))) ∙ down in
          (ap (place_of f.places.items) here ∙ sym same, inr (subst (IsKept m) (sym here) (keeps is))))
      | inr other ↦
          (let old : slice_index_or f.up.items k true ≡ false =
          sym (ap (λ (us : List Bool). slice_index_or us k true) up ∙ get_or-set_other f.up.items place k may true other) ∙ down in
          let at = h.noted k d low old in (
            at,
            elim (h.kept k d low old) [
              | inl untold ↦ elim (takes (slice_index_or choices k d) untold) [
                | inl here ↦ absurd (other (sym at ∙ ap (place_of f.places.items) here))
                | inr more ↦ inl more
              ]
              | inr kept ↦ inr kept
            ],
          ))
    ]

-- a move of a channel is one of five, or it has no place
of_channel : (places : List Places) (x : ℕ) (Q : Move → Type 0) (o : Move) → place_of places o < no_place → (move_channel o ≡ x) ⊎ Q o
    → (o ≡ More x) ⊎ ((o ≡ Take x) ⊎ ((o ≡ Put x) ⊎ ((o ≡ Accept x) ⊎ ((o ≡ Credit x) ⊎ Q o))))
of_channel places x Q o low (inr untold) = inr (inr (inr (inr (inr untold))))
of_channel places x Q (Send p) low (inl here) = absurd (omega (arith, low))
of_channel places x Q (More y) low (inl here) = inl (ap More here)
of_channel places x Q (Take y) low (inl here) = inr (inl (ap Take here))
of_channel places x Q (Put y) low (inl here) = inr (inr (inl (ap Put here)))
of_channel places x Q (Accept y) low (inl here) = inr (inr (inr (inl (ap Accept here))))
of_channel places x Q (Credit y) low (inl here) = inr (inr (inr (inr (inl (ap Credit here)))))

-- all choices of a channel are told
pub tells : {A : Type 0} (untold : Move → Bool) (m : NetworkMachineSpec) (choices : List Move) (x : ℕ) (lets : Lets) (p : Places) (f a b c d e : Flags A)
    → p ≡ get_or f.places.items x nowhere → length f.up.items ≤ no_place
    → ((of : Move) → move_channel of ≡ x → is_let lets of ≡ false → IsKept m of)
    → a.up.items ≡ slice_set f.up.items p.more lets.more → a.places ≡ f.places → b.up.items ≡ slice_set a.up.items p.take lets.take → b.places ≡ a.places
    → c.up.items ≡ slice_set b.up.items p.put lets.put → c.places ≡ b.places → d.up.items ≡ slice_set c.up.items p.accept lets.accept → d.places ≡ c.places
    → e.up.items ≡ slice_set d.up.items p.credit lets.credit → e.places ≡ d.places
    → AreFlagsBut (λ of. (move_channel of ≡ x) ⊎ (untold of ≡ true)) m choices f → AreFlagsBut (λ of. untold of ≡ true) m choices e
tells {A} untold m choices x lets p f a b c d e is few keeps ua pa ub pb uc pc ud pd ue pe h =
    tell_one Q5 Q6 m choices d e (Credit x) lets.credit (λ o t. t)
    (ue ∙ ap (λ (r : Places). slice_set d.up.items r.credit lets.credit) (at d (pd ∙ (pc ∙ (pb ∙ pa))))) pe
    (keeps (Credit x) refl)
    (tell_one Q4 Q5 m choices c d (Accept x) lets.accept (λ o t. t)
    (ud ∙ ap (λ (r : Places). slice_set c.up.items r.accept lets.accept) (at c (pc ∙ (pb ∙ pa)))) pd
    (keeps (Accept x) refl)
    (tell_one Q3 Q4 m choices b c (Put x) lets.put (λ o t. t) (uc ∙ ap (λ (r : Places). slice_set b.up.items r.put lets.put) (at b (pb ∙ pa))) pc
    (keeps (Put x) refl)
    (tell_one Q2 Q3 m choices a b (Take x) lets.take (λ o t. t) (ub ∙ ap (λ (r : Places). slice_set a.up.items r.take lets.take) (at a pa)) pb
    (keeps (Take x) refl)
    (tell_one Q1 Q2 m choices f a (More x) lets.more (λ o t. t) (ua ∙ ap (λ (r : Places). slice_set f.up.items r.more lets.more) (at f refl)) pa
    (keeps (More x) refl)
    (told_less (λ of. (move_channel of ≡ x) ⊎ Q6 of) Q1 m choices f few (λ o low t. of_channel f.places.items x Q6 o low t) h)))))
  where
    Q6 : Move → Type 0
    Q6 = λ o. untold o ≡ true

    Q5 : Move → Type 0
    Q5 = λ o. (o ≡ Credit x) ⊎ Q6 o

    Q4 : Move → Type 0
    Q4 = λ o. (o ≡ Accept x) ⊎ Q5 o

    Q3 : Move → Type 0
    Q3 = λ o. (o ≡ Put x) ⊎ Q4 o

    Q2 : Move → Type 0
    Q2 = λ o. (o ≡ Take x) ⊎ Q3 o

    Q1 : Move → Type 0
    Q1 = λ o. (o ≡ More x) ⊎ Q2 o

    at : (g : Flags A) → g.places ≡ f.places → p ≡ slice_index_or g.places.items x nowhere
    at g same = is ∙ ap (λ (ps : Vec Places A). slice_index_or ps.items x nowhere) (sym same)

-- all of them are, in one list of flags
pub tells_places : {A : Type 0} (untold : Move → Bool) (m : NetworkMachineSpec) (choices : List Move) (x : ℕ) (lets : Lets) (p : Places) (f e : Flags A)
    → p ≡ get_or f.places.items x nowhere → length f.up.items ≤ no_place
    → ((of : Move) → move_channel of ≡ x → is_let lets of ≡ false → IsKept m of)
    → e.up.items ≡ told_places f.up.items p lets → e.places ≡ f.places
    → AreFlagsBut (λ of. (move_channel of ≡ x) ⊎ (untold of ≡ true)) m choices f → AreFlagsBut (λ of. untold of ≡ true) m choices e
tells_places {A} untold m choices x lets p f e is few keeps up places h =
    tells untold m choices x lets p f (flags u1) (flags u2) (flags u3) (flags u4) e is few keeps
    (at u1 long1) refl
    (at u2 long2 ∙ ap (λ (us : List Bool). slice_set us p.take lets.take) (sym (at u1 long1))) refl
    (at u3 long3 ∙ ap (λ (us : List Bool). slice_set us p.put lets.put) (sym (at u2 long2))) refl
    (at u4 long4 ∙ ap (λ (us : List Bool). slice_set us p.accept lets.accept) (sym (at u3 long3))) refl
    (up ∙ ap (λ (us : List Bool). slice_set us p.credit lets.credit) (sym (at u4 long4))) places h
  where
    flags : List Bool → Flags A
    flags us = record { up = with_items f.up us; places = f.places }

    at : (us : List Bool) → length us ≡ f.up.len → (flags us).up.items ≡ us
    at us long = with_items_is f.up us long

    u1 : List Bool
    u1 = slice_set f.up.items p.more lets.more

    u2 : List Bool
    u2 = slice_set u1 p.take lets.take

    u3 : List Bool
    u3 = slice_set u2 p.put lets.put

    u4 : List Bool
    u4 = slice_set u3 p.accept lets.accept

    long1 : length u1 ≡ f.up.len
    long1 = (let size = length-set f.up.items p.more lets.more in let all = f.up.ok.0 in omega (arith, size, all))

    long2 : length u2 ≡ f.up.len
    long2 = length-set u1 p.take lets.take ∙ long1

    long3 : length u3 ≡ f.up.len
    long3 = length-set u2 p.put lets.put ∙ long2

    long4 : length u4 ≡ f.up.len
    long4 = length-set u3 p.accept lets.accept ∙ long3

-- a channel that isn't there has no choices
pub tells_none : {A : Type 0} (untold : Move → Bool) (m : NetworkMachineSpec) (choices : List Move) (x : ℕ) (f : Flags A) → length f.places.items ≤ x
    → length f.up.items ≤ no_place → AreFlagsBut (λ of. (move_channel of ≡ x) ⊎ (untold of ≡ true)) m choices f
    → AreFlagsBut (λ of. untold of ≡ true) m choices f
tells_none untold m choices x f past few h =
    told_less (λ of. (move_channel of ≡ x) ⊎ (untold of ≡ true)) (λ of. untold of ≡ true) m choices f few less h
  where
    less : (o : Move) → place_of f.places.items o < no_place → (move_channel o ≡ x) ⊎ (untold o ≡ true) → untold o ≡ true
    less o low (inl here) = absurd
        (let none : place_of f.places.items o ≡ no_place =
        ap (λ (r : Places). place_in r o) (get_or_past f.places.items (move_channel o) nowhere (omega (arith, here, past))) ∙ no_place_in o in
        omega (arith, low, none))
    less o low (inr t) = t

none_left : {A : Type 0} (m : NetworkMachineSpec) (choices : List Move) (f : Flags A) → AreFlagsBut (λ of. false ≡ true) m choices f → AreFlags m choices f
none_left m choices f h = record {
  size = h.size;
  channels = h.channels;
  point = h.point;
  noted = h.noted;
  kept = λ k d low down. elim (h.kept k d low down) [ inl t ↦ absurd (cc) | inr kept ↦ inr kept ];
}

-- flags of which nothing is untold are those of a channel
pub tells_again : {A : Type 0} (m : NetworkMachineSpec) (choices : List Move) (x : ℕ) (f g : Flags A)
    → ((untold : Move → Bool) (choices : List Move) → AreFlagsBut (λ of. (move_channel of ≡ x) ⊎ (untold of ≡ true)) m choices f
    → AreFlagsBut (λ of. untold of ≡ true) m choices g) → AreFlags m choices f → AreFlags m choices g
tells_again m choices x f g tells h =
    none_left m choices g
    (tells (λ of. false) choices (record {
      size = h.size;
      channels = h.channels;
      point = h.point;
      noted = h.noted;
      kept = λ k d low down. elim (h.kept k d low down) [ inl t ↦ absurd t | inr kept ↦ inr kept ];
    }))

-- a machine moves: the choices of two channels are untold
moved : {A : Type 0} (old new : NetworkMachineSpec) (choices : List Move) (x y : ℕ) (f : Flags A) → KeepsOtherChannels old new x y → AreFlags old choices f
    → AreFlagsBut (λ of. (move_channel of ≡ x) ⊎ ((move_channel of == y) ≡ true)) new choices f
moved old new choices x y f others h = record {
  size = h.size;
  channels = h.channels ∙ sym others.size;
  point = h.point;
  noted = h.noted;
  kept = λ k d low down. elim (h.kept k d low down) [
    | inl t ↦ absurd t
    | inr kept ↦ elim (cases_eq (move_channel (slice_index_or choices k d)) x) [
      | inl here ↦ inl (inl here)
      | inr apart ↦ elim (cases_eq (move_channel (slice_index_or choices k d)) y) [
        | inl there ↦ inl (inr (eq-eqb (move_channel (slice_index_or choices k d)) y there))
        | inr away ↦ inr (kept_elsewhere old new x y (slice_index_or choices k d) others apart away kept)
      ]
    ]
  ];
}

-- what a flag that is told of a channel comes to
abbrev pub TellsChannel : {A : Type 0} → NetworkMachineSpec → ℕ → Flags A → Flags A → Type 0
TellsChannel m x f g = (untold : Move → Bool) (choices : List Move) → AreFlagsBut (λ of. (move_channel of ≡ x) ⊎ (untold of ≡ true)) m choices f
    → AreFlagsBut (λ of. untold of ≡ true) m choices g

-- more choices are untold
eased : {A : Type 0} (P Q : Move → Type 0) (m : NetworkMachineSpec) (choices : List Move) (f : Flags A) → ((of : Move) → P of → Q of)
    → AreFlagsBut P m choices f → AreFlagsBut Q m choices f
eased P Q m choices f more h = record {
  size = h.size;
  channels = h.channels;
  point = h.point;
  noted = h.noted;
  kept = λ k d low down. elim (h.kept k d low down) [ inl t ↦ inl (more (slice_index_or choices k d) t) | inr kept ↦ inr kept ];
}

-- both are told, or the one where they are the same
pub tells_both : {A : Type 0} (old new : NetworkMachineSpec) (choices : List Move) (x y : ℕ) (f g h : Flags A) → KeepsOtherChannels old new x y
    → TellsChannel new x f g → TellsChannel new y g h → AreFlags old choices f → AreFlags new choices h
tells_both {A} old new choices x y f g h others first second are =
    none_left new choices h (second (λ of. false) choices
    (eased (λ of. (move_channel of == y) ≡ true) (λ of. (move_channel of ≡ y) ⊎ (false ≡ true)) new choices g (λ o t. inl (eqb-true (move_channel o) y t))
    (first (λ of. move_channel of == y) choices (moved old new choices x y f others are))))

pub tells_same : {A : Type 0} (old new : NetworkMachineSpec) (choices : List Move) (x y : ℕ) (f g : Flags A) → KeepsOtherChannels old new x y → y ≡ x
    → TellsChannel new x f g → AreFlags old choices f → AreFlags new choices g
tells_same {A} old new choices x y f g others same first are =
    none_left new choices g (first (λ of. false) choices
    (eased (λ of. (move_channel of ≡ x) ⊎ ((move_channel of == y) ≡ true)) (λ of. (move_channel of ≡ x) ⊎ (false ≡ true)) new choices f less
    (moved old new choices x y f others are)))
  where
    less : (o : Move) → (move_channel o ≡ x) ⊎ ((move_channel o == y) ≡ true) → (move_channel o ≡ x) ⊎ (false ≡ true)
    less o (inl t) = inl t
    less o (inr t) = inl (eqb-true (move_channel o) y t ∙ same)

-- the choices whose flags are down are idle
pub idle : {A : Type 0} (m : NetworkMachineSpec) (choices : List Move) (f : Flags A) → AreFlags m choices f → AreIdleWhereDown m choices f.up.items
idle m choices f h k d low down = elim (h.kept k d low down) [
  | inl t ↦ absurd t
  | inr kept ↦ kept_prevents m (slice_index_or choices k d) kept
]
