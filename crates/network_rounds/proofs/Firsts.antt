-- The first of the inputs that ask for an output, as a program finds it.
use Rattle.std.proofs.Common.{◌≡◌, inl, inr, ℕ, ◌+◌, ◌<◌, ◌≤◌, Bool, true, false, cond, List, [], ◌∷◌, ◌++◌, map, length, take, drop, get_or, Option, Some, None, refl, sym, ◌∙◌, ap, subst, arith, add-one, drop-cons}
use Rattle.std.proofs.Common.{get_or-set_same, get_or-set_other}
use Rattle.std.specs.Prelude.{filter, nat_lt, slice_index, slice_index_or, slice_set, slice_get, option_and_then, option_to_list}
use Rattle.std.specs.List.{flat_map}
use Rattle.std.proofs.lemmas.Bool.{cases_eq, eq-eqb, ne_eqb, ltb-true}
use Rattle.std.proofs.lemmas.List.{append-nil, take_more, drop_all}
use Rattle.std.proofs.lemmas.Grind.{flat_map-append}
use Rattle.std.proofs.lemmas.Option.{option_and_then_some, cond_some, none-some}
use Rattle.network_judge.specs.LockUps.{plain_format}
use Rattle.network_judge.specs.Table.{table_next}
use Rattle.network_machine.specs.declared.channel.Channel.{Channel}
use Rattle.network_machine.specs.declared.moves.Move.{Move}
use Rattle.network_machine.specs.declared.moves.Move.TheVariants.{Send, More, Take, Put, Accept, Credit}
use Rattle.network_machine.specs.Asked.{asked, asked_by_flit, channel_there}
use Rattle.network_machine.specs.Machine.{NetworkMachineSpec}
use Rattle.network_machine.specs.Moves.{move_channel}
use Rattle.network_rounds.specs.declared.arbiter.Arbiter.{Arbiter}
use Rattle.network_rounds.specs.declared.arbiter.Arbiter.TheVariants.{Rotating, Turn}
use Rattle.network_rounds.specs.declared.arbiter.Attempt.{Attempt}
use Rattle.network_rounds.specs.Arbiters.{nearer, first_among, names_channel, output_asked, asking, first_asking, head_attempt, attempt_by, attempts_by, HasFirsts}

then_is : (b : Bool) (o : Option ℕ) (y : ℕ) → cond b o None ≡ Some y → o ≡ Some y
then_is true o y is = is
then_is false o y is = absurd (none-some y is)

-- what is asked for is a channel
asked_low : (m : NetworkMachineSpec) (x y : ℕ) → asked m x ≡ Some y → y < length m.channels
asked_low m x y is =
    option_and_then_some (λ (c : Channel). option_and_then (asked_by_flit m x) c.latch) (slice_get m.channels x) y is
    (λ c here latched. option_and_then_some (asked_by_flit m x) c.latch y latched (λ flit full asks. low flit asks))
  where
    low : (flit : ℕ) → asked_by_flit m x flit ≡ Some y → y < length m.channels
    low flit asks =
        (let z : ℕ = table_next m.table x (plain_format.told flit) in
        let there = then_is _ (channel_there m z) y asks in
        let both = cond_some (nat_lt z (length m.channels)) z y there in
        subst (λ (w : ℕ). w < length m.channels) both.1 (ltb-true z (length m.channels) both.0))

output_asked_low : (m : NetworkMachineSpec) (of : Move) (y : ℕ) → output_asked m of ≡ Some y → y < length m.channels
output_asked_low m (Send p) y is = absurd (none-some y is)
output_asked_low m (More x) y is = absurd (none-some y is)
output_asked_low m (Take x) y is = absurd (none-some y is)
output_asked_low m (Put x) y is = asked_low m x y is
output_asked_low m (Accept x) y is = absurd (none-some y is)
output_asked_low m (Credit x) y is = absurd (none-some y is)

-- one choice more
asking_more : (m : NetworkMachineSpec) (of : Move) (moves : List Move) (y : ℕ) (b : Bool) → names_channel y (output_asked m of) ≡ b
    → asking m (of ∷ moves) y ≡ cond b (move_channel of ∷ asking m moves y) (asking m moves y)
asking_more m of moves y b is = by (names_channel y (output_asked m of)) ∙ ap (λ (c : Bool). cond c (move_channel of ∷ asking m moves y) (asking m moves y)) is
  where
    p : Move → Bool
    p = λ (o : Move). names_channel y (output_asked m o)

    by : (c : Bool) → map move_channel (cond c (of ∷ filter p moves) (filter p moves)) ≡ cond c (move_channel of ∷ asking m moves y) (asking m moves y)
    by true = refl
    by false = refl

-- a choice that doesn't ask for an output changes nothing there
pub passes : (m : NetworkMachineSpec) (of : Move) (moves : List Move) (y last : ℕ) (first : Option ℕ) → names_channel y (output_asked m of) ≡ false
    → first_among last first (asking m moves y) ≡ first_among last first (asking m (of ∷ moves) y)
passes m of moves y last first other = ap (first_among last first) (sym (asking_more m of moves y false other))

-- nor does one that asks for none
pub passes_none : (m : NetworkMachineSpec) (of : Move) (moves : List Move) (y last : ℕ) (first : Option ℕ) → output_asked m of ≡ None
    → first_among last first (asking m moves y) ≡ first_among last first (asking m (of ∷ moves) y)
passes_none m of moves y last first none = passes m of moves y last first (ap (names_channel y) none)

-- nor one that asks for a channel that isn't there
pub passes_far : (m : NetworkMachineSpec) (of : Move) (moves : List Move) (y z n last : ℕ) (first : Option ℕ) → output_asked m of ≡ Some z → n ≤ z → y < n
    → first_among last first (asking m moves y) ≡ first_among last first (asking m (of ∷ moves) y)
passes_far m of moves y z n last first asks far low =
    passes m of moves y last first (ap (names_channel y) asks ∙ ne_eqb z y (λ e. omega (arith, e, far, low)))

-- a choice that asks for an output is noted there, if it comes first
pub notes : (m : NetworkMachineSpec) (lasts : List ℕ) (firsts : List (Option ℕ)) (of : Move) (moves : List Move) (y z : ℕ) → z < length firsts → output_asked m of ≡ Some z
    → first_among (slice_index lasts y)
    (slice_index_or (slice_set firsts z (Some (nearer (slice_index lasts z) (slice_index_or firsts z None) (move_channel of)))) y None) (asking m moves y)
    ≡ first_among (slice_index lasts y) (slice_index_or firsts y None) (asking m (of ∷ moves) y)
notes m lasts firsts of moves y z low asks = elim (cases_eq z y) [
  | inl same ↦ subst at same here
  | inr apart ↦ ap (λ (o : Option ℕ). first_among (slice_index lasts y) o (asking m moves y)) (get_or-set_other firsts z y (new z) None (λ e. apart (sym e)))
      ∙ passes m of moves y (slice_index lasts y) (slice_index_or firsts y None) (ap (names_channel y) asks ∙ ne_eqb z y apart)
]
  where
    new : ℕ → Option ℕ
    new = λ (w : ℕ). Some (nearer (slice_index lasts w) (slice_index_or firsts w None) (move_channel of))

    at : ℕ → Type 0
    at = λ (w : ℕ). first_among (slice_index lasts w) (slice_index_or (slice_set firsts z (new z)) w None) (asking m moves w)
        ≡ first_among (slice_index lasts w) (slice_index_or firsts w None) (asking m (of ∷ moves) w)

    here : at z
    here =
        ap (λ (o : Option ℕ). first_among (slice_index lasts z) o (asking m moves z)) (get_or-set_same firsts z (new z) None low)
        ∙ ap (first_among (slice_index lasts z) (slice_index_or firsts z None))
        (sym (asking_more m of moves z true (ap (names_channel z) asks ∙ eq-eqb z z refl)))

-- one choice further
pub notes_next : (m : NetworkMachineSpec) (moves : List Move) (k y last : ℕ) (d : Move) (old new : Option ℕ) → k < length moves
    → first_among last old (asking m (drop k moves) y) ≡ first_among last None (asking m moves y)
    → first_among last new (asking m (drop (k + 1) moves) y) ≡ first_among last old (asking m (get_or moves k d ∷ drop (k + 1) moves) y)
    → first_among last new (asking m (drop (k + 1) moves) y) ≡ first_among last None (asking m moves y)
notes_next m moves k y last d old new low so_far next =
    next ∙ (ap (λ (ms : List Move). first_among last old (asking m ms y)) (sym cons) ∙ so_far)
  where
    cons : drop k moves ≡ get_or moves k d ∷ drop (k + 1) moves
    cons = rw add-one (drop-cons moves k d low)

pub noted_all : (m : NetworkMachineSpec) (moves : List Move) (k y last : ℕ) (first : Option ℕ) → length moves ≤ k
    → first_among last first (asking m (drop k moves) y) ≡ first_among last None (asking m moves y) → first ≡ first_among last None (asking m moves y)
noted_all m moves k y last first past so_far =
    ap (λ (ms : List Move). first_among last first (asking m ms y)) (sym (drop_all k moves past)) ∙ so_far

-- what is attempted is told by the first inputs of the channels that there are
same_attempt : (by : Arbiter) (m : NetworkMachineSpec) (f g : ℕ → Option ℕ) (of : Move) → ((y : ℕ) → y < length m.channels → f y ≡ g y)
    → attempt_by by m f of ≡ attempt_by by m g of
same_attempt Turn m f g of same = refl
same_attempt Rotating m f g of same = at (output_asked m of) refl
  where
    at : (o : Option ℕ) → output_asked m of ≡ o → head_attempt f of o ≡ head_attempt g of o
    at None is = refl
    at (Some y) is =
        ap (λ (first : Option ℕ). cond (names_channel (move_channel of) first) (Some (record { of = of; output = Some y })) None)
        (same y (output_asked_low m of y is))

same_lists_of : (f g : Move → List Attempt) (moves : List Move) → ((of : Move) → f of ≡ g of) → flat_map f moves ≡ flat_map g moves
same_lists_of f g [] same = refl
same_lists_of f g (of ∷ moves) same =
    ap (λ (xs : List Attempt). xs ++ flat_map f moves) (same of) ∙ ap (λ (xs : List Attempt). g of ++ xs) (same_lists_of f g moves same)

pub chosen : (by : Arbiter) (m : NetworkMachineSpec) (lasts : List ℕ) (firsts : List (Option ℕ)) (moves : List Move) → HasFirsts m lasts moves firsts
    → flat_map (λ of. option_to_list (attempt_by by m (λ z. slice_index_or firsts z None) of)) moves ≡ attempts_by by m lasts moves
chosen by m lasts firsts moves has =
    same_lists_of (λ of. option_to_list (attempt_by by m (λ z. slice_index_or firsts z None) of))
    (λ of. option_to_list (attempt_by by m (first_asking m lasts moves) of)) moves
    (λ of. ap option_to_list (same_attempt by m (λ z. slice_index_or firsts z None) (first_asking m lasts moves) of has))

-- one more is written
pub writes_next : (f : Move → List Attempt) (moves : List Move) (k : ℕ) (d : Move) (before later added : List Attempt) → k < length moves
    → before ≡ flat_map f (take k moves) → added ≡ f (get_or moves k d) → later ≡ before ++ added → later ≡ flat_map f (take (k + 1) moves)
writes_next f moves k d before later added low so_far one is =
    is ∙ (ap (λ (xs : List Attempt). xs ++ added) so_far ∙ (ap (λ (xs : List Attempt). flat_map f (take k moves) ++ xs) one ∙ sym more))
  where
    more : flat_map f (take (k + 1) moves) ≡ flat_map f (take k moves) ++ f (get_or moves k d)
    more =
        ap (flat_map f) (take_more moves k d low)
        ∙ (flat_map-append f (take k moves) (get_or moves k d ∷ []) ∙ ap (λ (xs : List Attempt). flat_map f (take k moves) ++ xs) (append-nil (f (get_or moves k d))))
