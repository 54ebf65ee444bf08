-- Items of lists, and what holds of all of them.
use Rattle.std.proofs.Common.{List, [], ◌∷◌, ◌++◌, All, refl, sym, ◌∙◌, ap, subst, append_assoc}
use Rattle.std.proofs.lemmas.List.Elements.{All-nil, All-cons, All-head, All-tail}
use Rattle.wormhole.specs.Net.{IsOn}

-- what holds of all holds of one that is there
pub all_on : {A : Type 0} (P : A → Type 0) (xs : List A) (x : A) → All P xs → IsOn x xs → P x
all_on P xs x all on = at P on.0 on.1 x (subst (λ (ys : List _). All P ys) on.2 all)
  where
    at : {A : Type 0} (P : A → Type 0) (before after : List A) (x : A) → All P (before ++ x ∷ after) → P x
    at P [] after x h = All-head P x after h
    at P (y ∷ before) after x h = at P before after x (All-tail P y (before ++ x ∷ after) h)

-- what holds of each item holds of all
pub all_from : {A : Type 0} (P : A → Type 0) (xs : List A) → ((x : A) → IsOn x xs → P x) → All P xs
all_from P [] h = All-nil P
all_from P (x ∷ xs) h =
    All-cons P x xs (h x ([], xs, refl)) (all_from P xs (λ y on. h y (x ∷ on.0, on.1, ap (λ (ys : List _). x ∷ ys) on.2)))

-- what holds of all of a list holds of its beginning and of its end
pub all_left : {A : Type 0} (P : A → Type 0) (xs ys : List A) → All P (xs ++ ys) → All P xs
all_left P [] ys h = All-nil P
all_left P (x ∷ xs) ys h = All-cons P x xs (All-head P x (xs ++ ys) h) (all_left P xs ys (All-tail P x (xs ++ ys) h))

pub all_right : {A : Type 0} (P : A → Type 0) (xs ys : List A) → All P (xs ++ ys) → All P ys
all_right P [] ys h = h
all_right P (x ∷ xs) ys h = all_right P xs ys (All-tail P x (xs ++ ys) h)

-- who is on one of two lists is on both together
pub on_left : {A : Type 0} (x : A) (xs ys : List A) → IsOn x xs → IsOn x (xs ++ ys)
on_left x xs ys on = (on.0, on.1 ++ ys, ap (λ (zs : List _). zs ++ ys) on.2 ∙ append_assoc on.0 (x ∷ on.1) ys)

pub on_right : {A : Type 0} (x : A) (xs ys : List A) → IsOn x ys → IsOn x (xs ++ ys)
on_right x xs ys on = (xs ++ on.0, on.1, ap (λ (zs : List _). xs ++ zs) on.2 ∙ sym (append_assoc xs on.0 (x ∷ on.1)))
