-- Lists whose elements all have a property, or of which each element stands so before each later one.
use Rattle.std.proofs.Common.{◌≡◌, ◌⊎◌, inl, inr, ℕ, zero, suc, ◌+◌, ◌<◌, ◌≤◌, Bool, true, false, List, [], ◌∷◌, ◌++◌, Option, Some, None}
use Rattle.std.proofs.Common.{refl, sym, ◌∙◌, ap, subst, arith, slice_get}
use Rattle.std.specs.Prelude.{find, filter_map, flat_map}
use Rattle.std.specs.List.{range_with_len, cons_option}
use Rattle.std.proofs.lemmas.Bool.{cases_Bool, cond-true, cond-false}
use Rattle.std.proofs.lemmas.Option.{same_Some}

abbrev pub Each : {A : Type 0} → (A → Type 0) → List A → Type 0
Each P [] = Unit {0}
Each P (x ∷ xs) = P x × Each P xs

abbrev pub Rising : {A : Type 0} → (A → A → Type 0) → List A → Type 0
Rising R [] = Unit {0}
Rising R (x ∷ xs) = Each (R x) xs × Rising R xs

abbrev pub Has : {A : Type 0} → List A → A → Type 0
Has [] x = ⊥
Has (y ∷ ys) x = (y ≡ x) ⊎ Has ys x

pub each_append : {A : Type 0} (P : A → Type 0) (xs ys : List A) → Each P xs → Each P ys → Each P (xs ++ ys)
each_append P [] ys h k = k
each_append P (x ∷ xs) ys h k = (h.0, each_append P xs ys h.1 k)

pub each_weaker : {A : Type 0} (P Q : A → Type 0) (xs : List A) → ((x : A) → P x → Q x) → Each P xs → Each Q xs
each_weaker P Q [] f h = tt
each_weaker P Q (x ∷ xs) f h = (f x h.0, each_weaker P Q xs f h.1)

pub each_at : {A : Type 0} (P : A → Type 0) (xs : List A) (k : ℕ) (x : A) → slice_get xs k ≡ Some x → Each P xs → P x
each_at P [] k x at h = absurd (cc)
each_at P (y ∷ ys) zero x at h = subst P (same_Some y x at) h.0
each_at P (y ∷ ys) (suc k) x at h = each_at P ys k x at h.1

pub rising_append : {A : Type 0} (R : A → A → Type 0) (xs ys : List A) → Rising R xs → Rising R ys → Each (λ x. Each (R x) ys) xs → Rising R (xs ++ ys)
rising_append R [] ys h k b = k
rising_append R (x ∷ xs) ys h k b = (each_append (R x) xs ys h.0 b.0, rising_append R xs ys h.1 k b.1)

pub rising_at : {A : Type 0} (R : A → A → Type 0) (xs : List A) (j k : ℕ) (x y : A) → j < k → slice_get xs j ≡ Some x → slice_get xs k ≡ Some y
    → Rising R xs → R x y
rising_at R [] j k x y less at there h = absurd (cc)
rising_at R (z ∷ zs) j zero x y less at there h = absurd (omega arith)
rising_at R (z ∷ zs) zero (suc k) x y less at there h = subst (λ u. R u y) (same_Some z x at) (each_at (R z) zs k y there h.0)
rising_at R (z ∷ zs) (suc j) (suc k) x y less at there h = rising_at R zs j k x y (omega arith) at there h.1

-- the pieces that the numbers of a range give
pub each_pieces : {A : Type 0} (P : A → Type 0) (f : ℕ → List A) (n a : ℕ) → ((p : ℕ) → a ≤ p → p < a + n → Each P (f p))
    → Each P (flat_map f (range_with_len a n))
each_pieces P f zero a h = tt
each_pieces P f (suc n) a h = each_append P (f a) (flat_map f (range_with_len (a + 1) n)) (h a (omega arith) (omega arith))
    (each_pieces P f n (a + 1) (λ p low high. h p (omega arith) (omega arith)))

pub rising_pieces : {A : Type 0} (R : A → A → Type 0) (F : ℕ → A → Type 0) (f : ℕ → List A) (n a : ℕ)
    → ((p : ℕ) → a ≤ p → p < a + n → Each (F p) (f p)) → ((p : ℕ) → a ≤ p → p < a + n → Rising R (f p))
    → ((p q : ℕ) (x y : A) → p < q → F p x → F q y → R x y) → Rising R (flat_map f (range_with_len a n))
rising_pieces R F f zero a each one two = tt
rising_pieces R F f (suc n) a each one two =
    rising_append R (f a) (flat_map f (range_with_len (a + 1) n)) (one a (omega arith) (omega arith))
    (rising_pieces R F f n (a + 1) (λ p low high. each p (omega arith) (omega arith)) (λ p low high. one p (omega arith) (omega arith)) two)
    (each_weaker (F a) (λ x. Each (R x) (flat_map f (range_with_len (a + 1) n))) (f a)
    (λ x here. each_pieces (R x) f n (a + 1) (λ q low high. each_weaker (F q) (R x) (f q) (λ y there. two a q x y (omega arith) here there)
    (each q (omega arith) (omega arith))))
    (each a (omega arith) (omega arith)))

-- what is made of some elements
each_cons : {A : Type 0} (P : A → Type 0) (o : Option A) (ys : List A) → ((u : A) → o ≡ Some u → P u) → Each P ys → Each P (cons_option o ys)
each_cons P None ys f h = h
each_cons P (Some u) ys f h = (f u refl, h)

pub each_filter : {A B : Type 0} (P : A → Type 0) (Q : B → Type 0) (g : B → Option A) (xs : List B)
    → ((x : B) (u : A) → Q x → g x ≡ Some u → P u) → Each Q xs → Each P (filter_map g xs)
each_filter P Q g [] f h = tt
each_filter P Q g (x ∷ xs) f h = each_cons P (g x) (filter_map g xs) (λ u is. f x u h.0 is) (each_filter P Q g xs f h.1)

rising_cons : {A : Type 0} (R : A → A → Type 0) (o : Option A) (ys : List A) → ((u : A) → o ≡ Some u → Each (R u) ys) → Rising R ys → Rising R
    (cons_option o ys)
rising_cons R None ys f h = h
rising_cons R (Some u) ys f h = (f u refl, h)

pub rising_filter : {A B : Type 0} (R : A → A → Type 0) (S : B → B → Type 0) (g : B → Option A) (xs : List B)
    → ((x y : B) (u v : A) → S x y → g x ≡ Some u → g y ≡ Some v → R u v) → Rising S xs → Rising R (filter_map g xs)
rising_filter R S g [] f h = tt
rising_filter R S g (x ∷ xs) f h = rising_cons R (g x) (filter_map g xs)
    (λ u is. each_filter (R u) (S x) g xs (λ y v s there. f x y u v s is there) h.0) (rising_filter R S g xs f h.1)

-- elements stay where lists are joined and filtered
pub has_left : {A : Type 0} (xs ys : List A) (x : A) → Has xs x → Has (xs ++ ys) x
has_left [] ys x h = absurd h
has_left (y ∷ xs) ys x (inl e) = inl e
has_left (y ∷ xs) ys x (inr h) = inr (has_left xs ys x h)

pub has_right : {A : Type 0} (xs ys : List A) (x : A) → Has ys x → Has (xs ++ ys) x
has_right [] ys x h = h
has_right (y ∷ xs) ys x h = inr (has_right xs ys x h)

pub has_piece : {A : Type 0} (f : ℕ → List A) (n a p : ℕ) (x : A) → a ≤ p → p < a + n → Has (f p) x → Has (flat_map f (range_with_len a n)) x
has_piece f zero a p x low high h = absurd (omega arith)
has_piece f (suc n) a p x low high h = elim (is_first a p low) [
  | inl here ↦ has_left (f a) (flat_map f (range_with_len (a + 1) n)) x (subst (λ q. Has (f q) x) (sym here) h)
  | inr later ↦ has_right (f a) (flat_map f (range_with_len (a + 1) n)) x (has_piece f n (a + 1) p x later (omega arith) h)
]
  where
    is_first : (a p : ℕ) → a ≤ p → (a ≡ p) ⊎ (a + 1 ≤ p)
    is_first zero zero low = inl refl
    is_first zero (suc p) low = inr (omega arith)
    is_first (suc a) zero low = absurd (omega arith)
    is_first (suc a) (suc p) low = elim (is_first a p (omega arith)) [
      | inl e ↦ inl (ap suc e)
      | inr l ↦ inr (omega arith)
    ]

has_cons : {A : Type 0} (o : Option A) (ys : List A) (x : A) → o ≡ Some x → Has (cons_option o ys) x
has_cons None ys x h = absurd (cc)
has_cons (Some u) ys x h = inl (same_Some u x h)

has_behind : {A : Type 0} (o : Option A) (ys : List A) (x : A) → Has ys x → Has (cons_option o ys) x
has_behind None ys x h = h
has_behind (Some u) ys x h = inr h

pub has_filter : {A B : Type 0} (g : B → Option A) (xs : List B) (y : B) (x : A) → Has xs y → g y ≡ Some x → Has (filter_map g xs) x
has_filter g [] y x h is = absurd h
has_filter g (z ∷ zs) y x (inl e) is = has_cons (g z) (filter_map g zs) x (ap g e ∙ is)
has_filter g (z ∷ zs) y x (inr h) is = has_behind (g z) (filter_map g zs) x (has_filter g zs y x h is)

pub place_of : {A : Type 0} (xs : List A) (x : A) → Has xs x → (k : ℕ) × (slice_get xs k ≡ Some x)
place_of [] x h = absurd h
place_of (y ∷ ys) x (inl e) = (0, ap Some e)
place_of (y ∷ ys) x (inr h) = (let rest = place_of ys x h in (suc rest.0, rest.1))

pub has_at : {A : Type 0} (xs : List A) (k : ℕ) (x : A) → slice_get xs k ≡ Some x → Has xs x
has_at [] k x h = absurd (cc)
has_at (y ∷ ys) zero x h = inl (same_Some y x h)
has_at (y ∷ ys) (suc k) x h = inr (has_at ys k x h)

-- what is found passes the test and has a place; and where nothing is found, nothing passes
pub record Found {A : Type 0} (p : A → Bool) (xs : List A) (o : Option A) : Type 0 where
  pub some : (x : A) → o ≡ Some x → (p x ≡ true) × ((k : ℕ) × (slice_get xs k ≡ Some x))
  pub none : (k : ℕ) (x : A) → o ≡ None → slice_get xs k ≡ Some x → p x ≡ false

pub found : {A : Type 0} (p : A → Bool) (xs : List A) → Found p xs (find p xs)
found p [] = record { some = λ x h. absurd (cc); none = λ k x h at. absurd (cc) }
found p (y ∷ ys) = elim (cases_Bool (p y)) [
  | inl passes ↦ (let is = cond-true (p y) (Some y) (find p ys) passes in record {
    some = λ x h. (let e : y ≡ x = same_Some y x (sym is ∙ h) in (subst (λ z. p z ≡ true) e passes, (0, ap Some e)));
    none = λ k x h at. (let bad : Some y ≡ None = sym is ∙ h in absurd (cc));
  })
  | inr fails ↦ (let is = cond-false (p y) (Some y) (find p ys) fails in let rest = found p ys in record {
    some = λ x h. (let it = rest.some x (sym is ∙ h) in (it.0, (suc it.1.0, it.1.1)));
    none = λ k x h at. none_at p y ys k x fails (λ j z there. rest.none j z (sym is ∙ h) there) at;
  })
]
  where
    none_at : {A : Type 0} (p : A → Bool) (y : A) (ys : List A) (k : ℕ) (x : A) → p y ≡ false → ((j : ℕ) (z : A) → slice_get ys j ≡ Some z → p z ≡ false)
        → slice_get (y ∷ ys) k ≡ Some x → p x ≡ false
    none_at p y ys zero x fails f at = subst (λ z. p z ≡ false) (same_Some y x at) fails
    none_at p y ys (suc k) x fails f at = f k x at
