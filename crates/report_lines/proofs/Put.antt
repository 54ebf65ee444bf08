-- What is written before the end of a list.
use Rattle.std.proofs.Common.{◌≡◌, ℕ, ◌+◌, ◌-◌, ◌≤◌, List, ◌++◌, length, drop, ap, ◌∙◌, arith}
use Rattle.std.proofs.Math.Seq.{drop_at, drop-drop, length-take-le}
use borrow.Rule.Slice.PartMut.{put_mid}

-- a part that is written up to a place stands before what is behind it
pub put_before : {X : Type 0} (a e : ℕ) (xs ys : List X) → a ≤ e → e ≤ length xs → drop a (put_mid a (e - a) xs ys) ≡ ys ++ drop e xs
put_before a e xs ys before inside =
    let end : a + (e - a) ≡ e = omega arith in
    drop_at _ _ a (length-take-le a xs (omega arith)) ∙ ap (λ l. ys ++ l) (drop-drop (e - a) a xs ∙ ap (λ m. drop m xs) end)
