-- What `append` makes of a `Follower`'s fields.
use Rattle.std.proofs.Common.{◌≡◌, ℕ, ◌+◌, ◌<◌, ◌≤◌, ◌^◌, List, [], ◌∷◌, ◌++◌, length, drop, Option, Some, refl, sym, ◌∙◌, ap, subst, arith, ⊎_elim, slice_get}
use Rattle.std.proofs.lemmas.List.{drop-append-le}
use Rattle.std.proofs.lemmas.List.Sums.{sum_by_push}
use Rattle.script_lines.specs.declared.line.Line.{Line}
use Rattle.script_lines.specs.declared.line.Line.TheVariants.{Spin}
use Rattle.script_lines.specs.Lines.{operations_of, operation_count}
use Rattle.one_order.proofs.Lists.{get_push_cases}
use Rattle.one_order.specs.declared.spin.OpenSpin.{OpenSpin}
use Rattle.one_order.specs.declared.follower.Follower.TheInside.{Inside}
use Rattle.one_order.specs.Following.{Following, unfenced, loads_left, left_of, follower_with}
use Rattle.one_order.specs.Inside.{following_of, IsFollower}
use Rattle.one_order.proofs.Places.{count_unfenced}

-- fields of which only the room for lines has changed
pub same_kept : {A : Type 0} (a b : Inside A) → IsFollower a → b.lines.items ≡ a.lines.items → b.at ≡ a.at → b.spin ≡ a.spin → b.issued ≡ a.issued
    → b.waiting ≡ a.waiting → b.last ≡ a.last → IsFollower b
same_kept a b h lines at spin issued waiting last = record {
  within = let w = h.within in let n = ap (λ (xs : List Line). length xs) lines in omega (arith, w, n, at);
  few = let f = h.few in let k = ap (λ (xs : List Line). operation_count (drop b.at xs)) lines in
      let l = ap (λ (n : ℕ). operation_count (drop n a.lines.items)) at in let m = ap loads_left spin in omega (arith, f, k, l, m, issued);
  loads = λ k c v m there. h.loads k c v m (ap (λ (xs : List Line). slice_get xs k) (sym lines) ∙ there);
  more = rw (spin, last) h.more;
  waiting = let w = h.waiting in omega (arith, w, issued, waiting);
}

-- a line more, from the fields before to those after
pub record IsAppended {A : Type 0} (a : Inside A) (line : Line) (b : Inside A) : Type 0 where
  pub kept : IsFollower b
  pub shows : following_of b ≡ follower_with line (following_of a)

module _ {A : Type 0} (a : Inside A) (line : Line) (h : IsFollower a) (f : Following) (is : following_of a ≡ f)
    (some : (k v m : ℕ) → line ≡ Spin k v m → 0 < m) (few : f.issued + left_of f + operations_of line < 2 ^ 32) where
  abbrev pub longer : List Line
  longer = a.lines.items ++ line ∷ []

  -- what is ahead in the longer script
  ahead_is : drop a.at longer ≡ drop a.at a.lines.items ++ line ∷ []
  ahead_is = drop-append-le a.at a.lines.items (line ∷ []) h.within

  count_is : operation_count (drop a.at a.lines.items ++ line ∷ []) ≡ operation_count (drop a.at a.lines.items) + operations_of line
  count_is = sum_by_push operations_of (drop a.at a.lines.items) line

  few_are : a.issued + (loads_left a.spin + operation_count (drop a.at a.lines.items)) + operations_of line < 2 ^ 32
  unfolding left_of
  few_are = let low = subst (λ (g : Following). g.issued + left_of g + operations_of line < 2 ^ 32) (sym is) few in omega (arith, low)

  loads_are : (k b v m : ℕ) → slice_get longer k ≡ Some (Spin b v m) → 0 < m
  loads_are k b v m at = ⊎_elim (λ old. h.loads k b v m old) (λ new. some b v m new.1) (get_push_cases a.lines.items line k (Spin b v m) at)

  pub appended_as : (b : Inside A) → b.lines.items ≡ longer → b.spin ≡ a.spin → b.issued ≡ a.issued → b.waiting ≡ a.waiting → b.last ≡ a.last
      → b.at ≤ length b.lines.items → drop b.at b.lines.items ≡ unfenced a.spin a.waiting (drop a.at b.lines.items) → IsAppended a line b
  appended_as b lines spin issued waiting last within place =
      let ahead : drop b.at b.lines.items ≡ unfenced a.spin a.waiting (drop a.at a.lines.items ++ line ∷ []) =
      place ∙ ap (λ (xs : List Line). unfenced a.spin a.waiting (drop a.at xs)) lines ∙ ap (unfenced a.spin a.waiting) ahead_is in
      record {
        kept = record {
          within = within;
          few = let e = ap operation_count ahead in let k = count_unfenced a.spin a.waiting (drop a.at a.lines.items ++ line ∷ []) in
              let l = ap loads_left spin in omega (arith, e, k, l, issued, count_is, few_are);
          loads = λ k c v m at. loads_are k c v m (ap (λ (xs : List Line). slice_get xs k) (sym lines) ∙ at);
          more = rw (spin, last) h.more;
          waiting = let w = h.waiting in omega (arith, waiting, issued, w);
        };
        shows = made ahead spin issued waiting last;
      }
    where
      made : {ahead : List Line} → ahead ≡ unfenced a.spin a.waiting (drop a.at a.lines.items ++ line ∷ []) → b.spin ≡ a.spin → b.issued ≡ a.issued
          → b.waiting ≡ a.waiting → b.last ≡ a.last
          → ◌≡◌ {A = Following} (record { ahead = ahead; spin = b.spin; issued = b.issued; waiting = b.waiting; last = b.last })
          (follower_with line (following_of a))
      made e s i w l = rw (e, s, i, w, l) refl
