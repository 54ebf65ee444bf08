-- What stays of a list of kinds where a hop is given another kind.
use Rattle.std.proofs.Common.{◌≡◌, ℕ, zero, suc, ◌+◌, ◌*◌, ◌<◌, true, false, cond, Some, List, [], ◌∷◌, length, get_or, take, set, refl, sym, ◌∙◌, ap, subst}
use Rattle.std.proofs.Common.{arith}
use Rattle.std.specs.Prelude.{slice_get}
use Rattle.std.specs.List.{count_by, sum_by}
use Rattle.std.proofs.lemmas.List.{length-set}
use Rattle.std.proofs.lemmas.List.Sums.{sum_by-cons, sum_by-set}
use Rattle.network_judge.specs.declared.table.Kind.{Kind}
use Rattle.network_judge.specs.declared.table.Kind.TheVariants.{Injection, Hop, Ejection}
use Rattle.network_judge.specs.declared.table.Reply.{Reply}
use Rattle.network_judge.specs.declared.table.Join.{Join}
use Rattle.network_judge.specs.Table.{Table, table_of, IsFull, ejects}
use Rattle.network_judge.specs.Columns.{AreColumns}
use Rattle.network_judge.specs.Replies.{AreReplies}
use Rattle.network_text.specs.Network.{is_hop}

-- one for an ejection channel
abbrev one : Kind → ℕ
one k = cond {A = ℕ} (ejects k) 1 0

-- a hop
is_the_hop : (k : Kind) → is_hop k ≡ true → k ≡ Hop
is_the_hop Injection h = absurd (cc)
is_the_hop Hop h = refl
is_the_hop Ejection h = absurd (cc)

-- the ejection channels among the first, where a hop is made an injection channel
pub same_before : (kinds : List Kind) (x n : ℕ) → is_hop (get_or kinds x Hop) ≡ true
    → count_by ejects (take n (set kinds x Injection)) ≡ count_by ejects (take n kinds)
same_before [] x n h = refl
same_before (k ∷ ks) x zero h = refl
same_before (k ∷ ks) zero (suc n) h =
    let hop : k ≡ Hop = is_the_hop k h in
    sum_by-cons one Injection (take n ks)
    ∙ sym (ap (λ z. one z + sum_by one (take n ks)) hop)
    ∙ sym (sum_by-cons one k (take n ks))
same_before (k ∷ ks) (suc x) (suc n) h =
    sum_by-cons one k (take n (set ks x Injection))
    ∙ ap (λ z. one k + z) (same_before ks x n h)
    ∙ sym (sum_by-cons one k (take n ks))

-- all of them
pub same_count : (kinds : List Kind) (x : ℕ) → x < length kinds → is_hop (get_or kinds x Hop) ≡ true
    → count_by ejects (set kinds x Injection) ≡ count_by ejects kinds
same_count kinds x low h =
    let sums = sum_by-set one kinds x Injection Hop low in
    let none : one (get_or kinds x Hop) ≡ 0 = ap one (is_the_hop _ h) in
    let all : sum_by one (set kinds x Injection) ≡ sum_by one kinds = omega arith in
    all

-- one more, where a hop is made an ejection channel
pub one_more : (kinds : List Kind) (x : ℕ) → x < length kinds → is_hop (get_or kinds x Hop) ≡ true
    → count_by ejects (set kinds x Ejection) ≡ count_by ejects kinds + 1
one_more kinds x low h =
    let sums = sum_by-set one kinds x Ejection Hop low in
    let none : one (get_or kinds x Hop) ≡ 0 = ap one (is_the_hop _ h) in
    let all : sum_by one (set kinds x Ejection) ≡ sum_by one kinds + 1 = omega arith in
    all

-- the columns
pub same_columns : (kinds : List Kind) (columns : List ℕ) (x : ℕ) → is_hop (get_or kinds x Hop) ≡ true
    → AreColumns kinds columns → AreColumns (set kinds x Injection) columns
same_columns kinds columns x h are = record {
  size = are.size ∙ sym (length-set kinds x Injection);
  each = λ y low. are.each y (subst (λ n. y < n) (length-set kinds x Injection) low) ∙ sym (same_before kinds x y h);
}

-- a channel that is no hop
kept : (kinds : List Kind) (x y : ℕ) (k c : Kind) → is_hop (get_or kinds x Hop) ≡ true → is_hop c ≡ false
    → slice_get kinds y ≡ Some c → slice_get (set kinds x k) y ≡ Some c
kept [] x y k c h n e = e
kept (a ∷ more) zero zero k c h n e = absurd (cc)
kept (a ∷ more) zero (suc y) k c h n e = e
kept (a ∷ more) (suc x) zero k c h n e = e
kept (a ∷ more) (suc x) (suc y) k c h n e = kept more x y k c h n e

-- the replies
pub same_replies : (t new : Table) (replies : List Reply) (x : ℕ) (k : Kind) → is_hop (get_or t.kinds x Hop) ≡ true
    → new.kinds ≡ set t.kinds x k → AreReplies t replies → AreReplies new replies
same_replies t new replies x k h is are = λ a b r.
    let both = are a b r in (
      ap (λ kinds. slice_get kinds a) is ∙ kept t.kinds x a k Ejection h refl both.0,
      ap (λ kinds. slice_get kinds b) is ∙ kept t.kinds x b k Injection h refl both.1,
    )

-- the choices have a row for each channel
pub same_full : (kinds : List Kind) (joins : List Join) (choices : List ℕ) (x : ℕ) → x < length kinds → is_hop (get_or kinds x Hop) ≡ true
    → IsFull (table_of kinds joins choices) → IsFull (table_of (set kinds x Injection) joins choices)
same_full kinds joins choices x low h full =
    full
    ∙ ap (λ n. n * count_by ejects kinds) (sym (length-set kinds x Injection))
    ∙ ap (λ n. length (set kinds x Injection) * n) (sym (same_count kinds x low h))
