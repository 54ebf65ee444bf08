-- Which input owns which output, after a write.
use Rattle.std.proofs.Common.{◌≡◌, ◌≢◌, ℕ, zero, suc, ◌<◌, ◌⊎◌, List, [], ◌∷◌, length, get_or, set, Option, Some, None, true, false, inl, inr, refl, sym, ap}
use Rattle.std.proofs.Common.{◌∙◌, arith, length-set, get_or-set_same, get_or-set_other}
use Rattle.std.specs.Prelude.{is_some, IfSome}
use Rattle.std.proofs.lemmas.Bool.{cases_eq, cases_lt}
use Rattle.std.proofs.lemmas.Bool.Decides.{eqb_tells}
use Rattle.std.proofs.lemmas.List.{get_or_past}
use Rattle.std.proofs.lemmas.List.Elements.{All-from_get_or}
use Rattle.std.proofs.lemmas.List.Folds.{list_any_at, list_any_none}
use Rattle.router.specs.Table.{is_output, is_among}
use Rattle.router.specs.Owned.{IsAnswered, AreInverse}

-- an entry stands within its list
pub some_within : (xs : List (Option ℕ)) (i o : ℕ) → get_or xs i None ≡ Some o → i < length xs
some_within xs i o e = elim (cases_lt i (length xs)) [
  | inl low ↦ low
  | inr high ↦ let past = get_or_past xs i None high in let wrong : None ≡ Some o = sym past ∙ e in cc
]

-- what an entry of a written list was
read_back : (xs : List (Option ℕ)) (i j o : ℕ) (v : Option ℕ) → get_or (set xs i v) j None ≡ Some o
    → ((j ≡ i) × (v ≡ Some o) × (i < length xs)) ⊎ ((j ≢ i) × (get_or xs j None ≡ Some o))
read_back xs i j o v e = elim (cases_eq j i) [
  | inl same ↦
      let within : j < length (set xs i v) = some_within (set xs i v) j o e in
      let low : i < length xs = omega (arith, within, length-set xs i v) in
      inl (same, sym (get_or-set_same xs i v None low) ∙ ap (λ k. get_or (set xs i v) k None) (sym same) ∙ e, low)
  | inr other ↦ inr (other, sym (get_or-set_other xs i j v None other) ∙ e)
]

cleared : (xs ys : List (Option ℕ)) (i o : ℕ) → IsAnswered xs ys → get_or ys o None ≡ Some i → IsAnswered (set xs i None) (set ys o None)
cleared xs ys i o all owner j p e = elim (read_back xs i j p None e) [
  | inl here ↦ let wrong : None ≡ Some p = here.1 in cc
  | inr there ↦
      let said : get_or ys p None ≡ Some j = all j p there.1 in
      let differ : p ≢ o = λ (same : p ≡ o). there.0 (let both : Some j ≡ Some i = sym said ∙ ap (λ k. get_or ys k None) same ∙ owner in cc) in
      get_or-set_other ys o p None None differ ∙ said
]

noted : (xs ys : List (Option ℕ)) (i o : ℕ) → IsAnswered xs ys → get_or ys o None ≡ None → o < length ys → IsAnswered (set xs i (Some o)) (set ys o (Some i))
noted xs ys i o all free low j p e = elim (read_back xs i j p (Some o) e) [
  | inl here ↦
      let same : p ≡ o = let both : Some o ≡ Some p = here.1 in cc in
      ap (λ k. get_or (set ys o (Some i)) k None) same ∙ get_or-set_same ys o (Some i) None low ∙ ap Some (sym here.0)
  | inr there ↦
      let said : get_or ys p None ≡ Some j = all j p there.1 in
      let differ : p ≢ o = λ (same : p ≡ o). let wrong : None ≡ Some j = sym free ∙ ap (λ k. get_or ys k None) (sym same) ∙ said in cc in
      get_or-set_other ys o p (Some i) None differ ∙ said
]

pub inverse-freed : (owned owner : List (Option ℕ)) (i o : ℕ) → AreInverse owned owner → get_or owned i None ≡ Some o
    → AreInverse (set owned i None) (set owner o None)
inverse-freed owned owner i o is e = record {
  counts = length-set owner o None ∙ is.counts ∙ sym (length-set owned i None);
  forth = cleared owned owner i o is.forth (is.forth i o e);
  back = cleared owner owned o i is.back e;
}

inverse-given : (owned owner : List (Option ℕ)) (i o : ℕ) → AreInverse owned owner → i < length owned → o < length owned → get_or owned i None ≡ None
    → get_or owner o None ≡ None
    → AreInverse (set owned i (Some o)) (set owner o (Some i))
inverse-given owned owner i o is input output none free = record {
  counts = length-set owner o (Some i) ∙ is.counts ∙ sym (length-set owned i (Some o));
  forth = noted owned owner i o is.forth free (omega (arith, is.counts));
  back = noted owner owned o i is.back none input;
}

is_output-self : (o : ℕ) → is_output (Some o) o ≡ true
is_output-self o = search (arith, eqb_tells)

-- an output that an input owns is owned
is_owned-by : (owned : List (Option ℕ)) (i o : ℕ) → get_or owned i None ≡ Some o → is_among owned o ≡ true
is_owned-by owned i o e = list_any_at (λ k. is_output k o) owned i None (some_within owned i o e) (ap (λ k. is_output k o) e ∙ is_output-self o)

-- once an input has given back what it owned, the second list has no owner of an output that was free
still_free : (xs owned owner : List (Option ℕ)) (i o : ℕ) → AreInverse owned owner → owned ≡ set xs i None → is_among xs o ≡ false → (x : Option ℕ)
    → get_or owner o None ≡ x → x ≡ None
still_free xs owned owner i o is was free None e = refl
still_free xs owned owner i o is was free (Some j) e =
    elim (read_back xs i j o None (ap (λ l. get_or l j None) (sym was) ∙ is.back o j e)) [
      | inl here ↦ let wrong : None ≡ Some o = here.1 in cc
      | inr there ↦ let wrong : true ≡ false = sym (is_owned-by xs j o there.1) ∙ free in cc
    ]

pub inverse-replaced : (xs owned owner : List (Option ℕ)) (i o : ℕ) → AreInverse owned owner → owned ≡ set xs i None → i < length xs → o < length xs
    → is_among xs o ≡ false
    → AreInverse (set owned i (Some o)) (set owner o (Some i))
inverse-replaced xs owned owner i o is was input output free =
    let len : length owned ≡ length xs = ap length was ∙ length-set xs i None in
    inverse-given owned owner i o is (omega arith) (omega arith)
    (ap (λ l. get_or l i None) was ∙ get_or-set_same xs i None None input)
    (still_free xs owned owner i o is was free (get_or owner o None) refl)

-- whether an input owns an output stands in the second list
module _ (owned owner : List (Option ℕ)) (is : AreInverse owned owner) (o : ℕ) where
  no_input : get_or owner o None ≡ None → (x : Option ℕ) (i : ℕ) → get_or owned i None ≡ x → is_output x o ≡ false
  no_input none None i e = refl
  no_input none (Some p) i e = elim (eqb_tells p o) [
    | inl same ↦ let wrong : None ≡ Some i = sym none ∙ ap (λ k. get_or owner k None) (sym same.1) ∙ is.forth i p e in cc
    | inr other ↦ other.0
  ]

  pub is_owned-told : (x : Option ℕ) → get_or owner o None ≡ x → is_among owned o ≡ is_some x
  is_owned-told None e = list_any_none (λ k. is_output k o) owned
      (All-from_get_or (λ k. is_output k o ≡ false) owned None (λ i h. no_input e (get_or owned i None) i refl))
  is_owned-told (Some i) e = is_owned-by owned i o (is.back o i e)

-- the owned output of an input is one of the outputs
pub owned_within : (owned owner : List (Option ℕ)) → AreInverse owned owner → (i : ℕ) (x : Option ℕ) → x ≡ get_or owned i None
    → IfSome x (λ o. o < length owned)
owned_within owned owner is i None e = tt
owned_within owned owner is i (Some o) e = omega (arith, is.counts, some_within owner o i (is.forth i o (sym e)))

-- of two writes of one entry the second counts
pub set-twice : (xs : List (Option ℕ)) (i : ℕ) (x y : Option ℕ) → set (set xs i x) i y ≡ set xs i y
set-twice [] i x y = refl
set-twice (z ∷ xs) zero x y = refl
set-twice (z ∷ xs) (suc i) x y = ap (λ l. z ∷ l) (set-twice xs i x y)
