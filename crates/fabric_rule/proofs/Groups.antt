-- Groups of tiles, and runs with no attempt of theirs.
use Rattle.std.proofs.Common.{◌≡◌, ◌⊎◌, ℕ, ◌≤◌, Bool, true, false, List, [], ◌∷◌, ◌++◌, length, refl, sym, ap, ◌∙◌, subst, inl, inr, ⊎_elim, arith}
use Rattle.std.proofs.Common.{length-append, append_assoc}
use Rattle.std.specs.Prelude.{if◌then◌else◌, nat_lt}
use Rattle.std.proofs.lemmas.List.{append-nil, nil_from_length}
use Rattle.std.proofs.lemmas.Bool.Decides.{nat_tests}
use Rattle.torus.specs.declared.step.Step.{Step}
use Rattle.fabric_rule.specs.Known.{tile_of}
use Rattle.fabric_rule.specs.Told.{Away}
use Rattle.fabric_rule.specs.Groups.{Owns, In, Apart, Others, Mine, Named, GroupGoesOn, ToldOfGroup, flat, first_group, other_groups, longer}

pub others_append : (gs : List (List ℕ)) (xs ys : List Step) → Others gs xs → Others gs ys → Others gs (xs ++ ys)
others_append gs [] ys a b = b
others_append gs (x ∷ xs) ys a b = (a.0, others_append gs xs ys a.1 b)

pub named_append : (n : ℕ) (xs ys : List Step) → Named n xs → Named n ys → Named n (xs ++ ys)
named_append n [] ys a b = b
named_append n (x ∷ xs) ys a b = (a.0, named_append n xs ys a.1 b)

pub others_of_mine : (gs hs : List (List ℕ)) (more : List Step) → ((t : ℕ) → In gs t → In hs t → ⊥) → Mine gs more → Others hs more
others_of_mine gs hs [] no_tile m = tt
others_of_mine gs hs (c ∷ more) no_tile m = (no_tile (tile_of c) m.0, others_of_mine gs hs more no_tile m.1)

pub away : (gs : List (List ℕ)) (t : ℕ) (more : List Step) → In gs t → Others gs more → Away t more
away gs t [] i o = tt
away gs t (c ∷ more) i o = ((λ e. o.0 (subst (In gs) (sym e) i)), away gs t more i o.1)

pub told_more : (gs : List (List ℕ)) (r more : List Step) (hs : List (List ℕ)) (told : List (List Step × List (List ℕ))) → ((t : ℕ) → In gs t → In hs t → ⊥)
    → Mine gs more → ToldOfGroup r hs told → ToldOfGroup (r ++ more) hs told
told_more gs r more hs [] no_tile m k = tt
told_more gs r more hs (x ∷ xs) no_tile m k = (
  (
    k.0.0 ++ more,
    ap (λ (l : List Step). l ++ more) k.0.1 ∙ append_assoc x.0 k.0.0 more,
    others_append x.1 k.0.0 more k.0.2 (others_of_mine gs x.1 more (λ t a b. no_tile t a (k.1 t b)) m),
  ),
  k.1,
  told_more gs r more hs xs no_tile m k.2,
)

-- groups put together
pub in_append : (gs hs : List (List ℕ)) (t : ℕ) → In (gs ++ hs) t → In gs t ⊎ In hs t
in_append [] hs t i = inr i
in_append (g ∷ gs) hs t (inl o) = inl (inl o)
in_append (g ∷ gs) hs t (inr i) = ⊎_elim (λ a. inl (inr a)) (λ b. inr b) (in_append gs hs t i)

pub in_left : (gs hs : List (List ℕ)) (t : ℕ) → In gs t → In (gs ++ hs) t
in_left [] hs t i = absurd i
in_left (g ∷ gs) hs t (inl o) = inl o
in_left (g ∷ gs) hs t (inr i) = inr (in_left gs hs t i)

pub in_right : (gs hs : List (List ℕ)) (t : ℕ) → In hs t → In (gs ++ hs) t
in_right [] hs t i = i
in_right (g ∷ gs) hs t i = inr (in_right gs hs t i)

pub apart_append : (gs hs : List (List ℕ)) → Apart gs → Apart hs → ((t : ℕ) → In gs t → In hs t → ⊥) → Apart (gs ++ hs)
apart_append [] hs a b no_tile = b
apart_append (g ∷ gs) hs a b no_tile = (
  (λ t o i. ⊎_elim (λ (x : In gs t). a.0 t o x) (λ (y : In hs t). no_tile t (inl o) y) (in_append gs hs t i)),
  apart_append gs hs a.1 b (λ t i j. no_tile t (inr i) j),
)

pub others_both : (gs hs : List (List ℕ)) (xs : List Step) → Others gs xs → Others hs xs → Others (gs ++ hs) xs
others_both gs hs [] a b = tt
others_both gs hs (x ∷ xs) a b = ((λ i. ⊎_elim a.0 b.0 (in_append gs hs (tile_of x) i)), others_both gs hs xs a.1 b.1)

pub others_sub : (gs hs : List (List ℕ)) (xs : List Step) → ((t : ℕ) → In hs t → In gs t) → Others gs xs → Others hs xs
others_sub gs hs [] sub a = tt
others_sub gs hs (x ∷ xs) sub a = ((λ i. a.0 (sub (tile_of x) i)), others_sub gs hs xs sub a.1)

pub others_right : (gs : List (List ℕ)) (xs ys : List Step) → Others gs (xs ++ ys) → Others gs ys
others_right gs [] ys a = a
others_right gs (x ∷ xs) ys a = others_right gs xs ys a.1

pub others_none : (xs : List Step) → Others [] xs
others_none [] = tt
others_none (x ∷ xs) = ((λ i. i), others_none xs)

-- of two beginnings of one list, what follows the longer is the end of what follows the other
pub suffix : (gs : List (List ℕ)) (a x b y : List Step) → a ++ x ≡ b ++ y → length a ≤ length b → Others gs x → Others gs y
suffix gs [] x b y e le o = others_right gs b y (subst (Others gs) e o)
suffix gs (c ∷ a) x [] y e le o = absurd (omega arith)
suffix gs (c ∷ a) x (d ∷ b) y e le o = let f : a ++ x ≡ b ++ y = cc in suffix gs a x b y f (omega arith) o

pub goes_by : (q : Bool) (gs hs : List (List ℕ)) (r a b : List Step) → nat_lt (length a) (length b) ≡ q → GroupGoesOn gs r a → GroupGoesOn hs r b
    → GroupGoesOn (gs ++ hs) r (if q then b else a)
goes_by true gs hs r a b e x y = let le : length a ≤ length b = grind (arith, nat_tests) in
    (y.0, y.1, others_both gs hs y.0 (suffix gs a x.0 b y.0 (sym x.1 ∙ y.1) le x.2) y.2)
goes_by false gs hs r a b e x y = let le : length b ≤ length a = grind (arith, nat_tests) in
    (x.0, x.1, others_both gs hs x.0 x.2 (suffix hs b y.0 a x.0 (sym y.1 ∙ x.1) le y.2))

pub longer_goes : (gs hs : List (List ℕ)) (r a b : List Step) → GroupGoesOn gs r a → GroupGoesOn hs r b → GroupGoesOn (gs ++ hs) r (longer a b)
longer_goes gs hs r a b x y = goes_by (nat_lt (length a) (length b)) gs hs r a b refl x y

longer_by : (q : Bool) (a b : List Step) → nat_lt (length a) (length b) ≡ q
    → (length a ≤ length (if q then b else a)) × (length b ≤ length (if q then b else a))
longer_by true a b e = (grind (arith, nat_tests), omega arith)
longer_by false a b e = (omega arith, grind (arith, nat_tests))

pub longer_length : (a b : List Step) → (length a ≤ length (longer a b)) × (length b ≤ length (longer a b))
longer_length a b = longer_by (nat_lt (length a) (length b)) a b refl

pub whole : (a x r : List Step) → r ≡ a ++ x → length r ≤ length a → a ≡ r
whole a x r e le = let p = ap length e ∙ length-append a x in let q : x ≡ [] = nil_from_length x (omega arith) in
    sym (e ∙ ap (λ (l : List Step). a ++ l) q ∙ append-nil a)

pub owns_append : (g h : List ℕ) (t : ℕ) → Owns (g ++ h) t → Owns g t ⊎ Owns h t
owns_append [] h t o = inr o
owns_append (x ∷ g) h t (inl e) = inl (inl e)
owns_append (x ∷ g) h t (inr o) = ⊎_elim (λ a. inl (inr a)) (λ b. inr b) (owns_append g h t o)

pub owns_left : (g h : List ℕ) (t : ℕ) → Owns g t → Owns (g ++ h) t
owns_left [] h t o = absurd o
owns_left (x ∷ g) h t (inl e) = inl e
owns_left (x ∷ g) h t (inr o) = inr (owns_left g h t o)

pub owns_right : (g h : List ℕ) (t : ℕ) → Owns h t → Owns (g ++ h) t
owns_right [] h t o = o
owns_right (x ∷ g) h t o = inr (owns_right g h t o)

pub in_flat : (gs : List (List ℕ)) (t : ℕ) → Owns (flat gs) t → In gs t
in_flat [] t o = o
in_flat (g ∷ gs) t o = ⊎_elim (λ a. inl a) (λ b. inr (in_flat gs t b)) (owns_append g (flat gs) t o)

pub in_one : (g : List ℕ) (t : ℕ) → In (g ∷ []) t → Owns g t
in_one g t (inl o) = o
in_one g t (inr i) = absurd i

pub nothing : (gs : List (List ℕ)) (t : ℕ) → In gs t → In [] t → ⊥
nothing gs t i j = j

pub first_in : (gs : List (List ℕ)) (t : ℕ) → In (first_group gs ∷ []) t → In gs t
first_in [] t (inl o) = o
first_in [] t (inr i) = i
first_in (g ∷ gs) t (inl o) = inl o
first_in (g ∷ gs) t (inr i) = absurd i

pub others_in : (gs : List (List ℕ)) (t : ℕ) → In (other_groups gs) t → In gs t
others_in [] t i = i
others_in (g ∷ gs) t i = inr i

pub halves_apart : (gs : List (List ℕ)) → Apart gs → (t : ℕ) → In (first_group gs ∷ []) t → In (other_groups gs) t → ⊥
halves_apart [] a t x y = y
halves_apart (g ∷ gs) a t (inl o) y = a.0 t o y
halves_apart (g ∷ gs) a t (inr i) y = i

pub others_apart : (gs : List (List ℕ)) → Apart gs → Apart (other_groups gs)
others_apart [] a = tt
others_apart (g ∷ gs) a = a.1
