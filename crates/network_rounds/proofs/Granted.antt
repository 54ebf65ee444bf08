-- What a round by the round robin grants.
use Rattle.std.proofs.Common.{◌≡◌, ◌⊎◌, inl, inr, ℕ, ◌<◌, Bool, true, false, cond, List, [], ◌∷◌, ◌++◌, length, Option, Some, None, refl, sym, ◌∙◌, ap, arith}
use Rattle.std.proofs.Common.{get_or-set_same, get_or-set_other}
use Rattle.std.specs.Prelude.{◌==◌, slice_index, slice_set, option_to_list}
use Rattle.std.specs.List.{flat_map}
use Rattle.std.proofs.lemmas.Bool.{cases_eq, eqb-true}
use Rattle.std.proofs.lemmas.List.{length-set}
use Rattle.std.proofs.lemmas.Option.{none-some, same_Some}
use Rattle.network_machine.specs.declared.moves.Move.{Move}
use Rattle.network_machine.specs.Machine.{NetworkMachineSpec}
use Rattle.network_machine.specs.Moves.{move_channel}
use Rattle.network_rounds.specs.declared.arbiter.Arbiter.TheVariants.{Rotating}
use Rattle.network_rounds.specs.declared.arbiter.Attempt.{Attempt}
use Rattle.network_rounds.specs.Arbiters.{output_asked, first_asking, head_attempt, attempt_by, attempts_by, granted_at, granted_to, names_channel}
use Rattle.network_rounds.specs.Attempts.{AttemptsMoves}
use Rattle.network_rounds.specs.Fairness.{IsGrantOf, RoundsGrantInTurn}

-- an attempt to which an output is granted is the first one that asks for it
pub record IsFirst (m : NetworkMachineSpec) (f : ℕ → Option ℕ) (a : Attempt) (y : ℕ) : Type 0 where
  pub asks : output_asked m a.of ≡ Some y
  pub first : f y ≡ Some (move_channel a.of)

abbrev IsFair : NetworkMachineSpec → (ℕ → Option ℕ) → Attempt → Type 0
IsFair m f a = (y : ℕ) → a.output ≡ Some y → IsFirst m f a y

abbrev AreFair : NetworkMachineSpec → (ℕ → Option ℕ) → List Attempt → Type 0
AreFair m f [] = Unit {0}
AreFair m f (a ∷ attempts) = IsFair m f a × AreFair m f attempts

fair_choice : (m : NetworkMachineSpec) (f : ℕ → Option ℕ) (of : Move) (rest : List Attempt) (o : Option ℕ) → output_asked m of ≡ o → AreFair m f rest
    → AreFair m f (option_to_list (head_attempt f of o) ++ rest)
fair_choice m f of rest None is fair = ((λ y e. absurd (none-some y e)), fair)
fair_choice m f of rest (Some y) is fair = by (f y) refl
  where
    by : (first : Option ℕ) → f y ≡ first
        → AreFair m f (option_to_list (cond (names_channel (move_channel of) first) (Some (record { of = of; output = Some y })) None) ++ rest)
    by None e = fair
    by (Some x) e = at (x == move_channel of) refl
      where
        at : (b : Bool) → (x == move_channel of) ≡ b → AreFair m f (option_to_list (cond b (Some (record { of = of; output = Some y })) None) ++ rest)
        at false is_other = fair
        at true is_same = (
          (λ z same. (let one : y ≡ z = same_Some y z same in
              record {
                asks = is ∙ ap (λ (w : ℕ). Some w) one;
                first = ap f (sym one) ∙ (e ∙ ap (λ (w : ℕ). Some w) (eqb-true x (move_channel of) is_same));
              })),
          fair,
        )

all_fair : (m : NetworkMachineSpec) (f : ℕ → Option ℕ) (moves : List Move) → AreFair m f (flat_map (λ of. option_to_list (attempt_by Rotating m f of)) moves)
all_fair m f [] = tt
all_fair m f (of ∷ moves) =
    fair_choice m f of (flat_map (λ z. option_to_list (attempt_by Rotating m f z)) moves) (output_asked m of) refl (all_fair m f moves)

-- what comes of an output by some attempts
abbrev Comes : NetworkMachineSpec → (ℕ → Option ℕ) → ℕ → List ℕ → List ℕ → List Move → Type 0
Comes m f y lasts later made = (slice_index later y ≡ slice_index lasts y)
    ⊎ ((f y ≡ Some (slice_index later y)) × IsGrantOf m y (slice_index later y) made)

-- one made move more, before the others
more_made : (m : NetworkMachineSpec) (f : ℕ → Option ℕ) (y : ℕ) (later : List ℕ) (a : Attempt) (made more : List Move) → made ≡ a.of ∷ more
    → ((f y ≡ Some (slice_index later y)) × IsGrantOf m y (slice_index later y) more) → (f y ≡ Some (slice_index later y)) × IsGrantOf m y (slice_index later y) made
more_made m f y later a made more is h = (
  h.0,
  record {
    of = h.1.of;
    before = a.of ∷ h.1.before;
    behind = h.1.behind;
    is = is ∙ ap (λ (ms : List Move). a.of ∷ ms) h.1.is;
    asks = h.1.asks;
    input = h.1.input;
  },
)

-- an attempt that is made, where an output is granted to it or not
one_made : (m : NetworkMachineSpec) (f : ℕ → Option ℕ) (y : ℕ) (lasts later : List ℕ) (a : Attempt) (made more : List Move) → y < length lasts → IsFair m f a
    → made ≡ a.of ∷ more → slice_index later y ≡ slice_index (granted_to lasts a) y → Comes m f y lasts later made
one_made m f y lasts later a made more low fair is stays = by a.output refl stays
  where
    by : (o : Option ℕ) → a.output ≡ o → slice_index later y ≡ slice_index (granted_at lasts (move_channel a.of) o) y → Comes m f y lasts later made
    by None e same = inl same
    by (Some z) e same = elim (cases_eq y z) [
      | inl one ↦ (let first = fair y (e ∙ ap (λ (w : ℕ). Some w) (sym one)) in
          let here : slice_index later y ≡ move_channel a.of = same ∙ (ap (λ (w : ℕ). slice_index (slice_set lasts w (move_channel a.of)) y) (sym one)
          ∙ get_or-set_same lasts y (move_channel a.of) 0 low) in
          inr (
            first.first ∙ ap (λ (w : ℕ). Some w) (sym here),
            record { of = a.of; before = []; behind = more; is = is; asks = first.asks; input = sym here },
          ))
      | inr apart ↦ inl (same ∙ get_or-set_other lasts z y (move_channel a.of) 0 apart)
    ]

kept_length : (lasts : List ℕ) (a : Attempt) → length (granted_to lasts a) ≡ length lasts
kept_length lasts a = by a.output
  where
    by : (o : Option ℕ) → length (granted_at lasts (move_channel a.of) o) ≡ length lasts
    by None = refl
    by (Some z) = length-set lasts z (move_channel a.of)

comes : (m : NetworkMachineSpec) (f : ℕ → Option ℕ) (y : ℕ) (old new : NetworkMachineSpec) (lasts later : List ℕ) (attempts : List Attempt) (made : List Move)
    → y < length lasts → AreFair m f attempts → AttemptsMoves old new lasts later attempts made → Comes m f y lasts later made
comes m f y old new lasts later [] made low fair h = inl (ap (λ (ls : List ℕ). slice_index ls y) h.1)
comes m f y old new lasts later (a ∷ attempts) made low fair h = elim h [
  | inl made_it ↦ elim (comes m f y made_it.0 new (granted_to lasts a) later attempts made_it.2
      (let size = kept_length lasts a in omega (arith, low, size)) fair.1 made_it.4) [
        | inl stays ↦ one_made m f y lasts later a made made_it.2 low fair.0 made_it.3 stays
        | inr changed ↦ inr (more_made m f y later a made made_it.2 made_it.3 changed)
      ]
  | inr missed ↦ comes m f y old new lasts later attempts made low fair.1 missed.1
]

pub grants_in_turn : RoundsGrantInTurn
grants_in_turn old new lasts later choices made r y low =
    comes old (first_asking old lasts r.enabled) y old new lasts later (attempts_by Rotating old lasts r.enabled) made low
    (all_fair old (first_asking old lasts r.enabled) r.enabled) r.attempts
