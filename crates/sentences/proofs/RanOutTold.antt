-- The spins that ran out are told.
use Rattle.std.proofs.Common.{◌≡◌, ◌⊎◌, ⊎_elim, ℕ, zero, suc, ◌+◌, ◌≤◌, ◌==◌, true, false, List, [], ◌∷◌, ◌++◌, length, Some, refl, sym, ◌∙◌}
use Rattle.std.proofs.Common.{ap, arith, slice_get}
use Rattle.std.specs.Prelude.{Option}
use Rattle.std.proofs.lemmas.Bool.Decides.{nat_tests}
use Rattle.std.proofs.lemmas.List.{append_assoc, length-append}
use Rattle.script_lines.specs.declared.line.Line.{Line}
use Rattle.script_lines.specs.declared.line.Line.TheVariants.{Load, Store, Swap, Cas, Add, And, Or, Xor, Max, Min, Fence, Spin}
use Rattle.sentences.specs.declared.spins.SpentSpin.{SpentSpin}
use Rattle.sentences.specs.Spins.{spent_from, spent_spins, spun}
use Rattle.sentences.specs.RunsOut.{AreOthers, AreRepliesTo, AreSpent, HaveFound, RanOut}
use Rattle.sentences.proofs.RunningOut.{IsAmong}

-- a load that found another number
spun_other : (left n : ℕ) (s : SpentSpin) (over : List (Option ℕ) → List SpentSpin) (reply : Option ℕ) (replies : List (Option ℕ)) → reply ≡ Some n
    → (n == s.sought) ≡ false → spun (suc left) s over (reply ∷ replies) ≡ spun left s over replies
spun_other left n s over reply replies is differs =
    ap (λ (o : Option ℕ). spun (suc left) s over (o ∷ replies)) is ∙ (rw differs refl)

-- all loads of a spin
spun_spent : (left : ℕ) (s : SpentSpin) (over : List (Option ℕ) → List SpentSpin) (loads after : List (Option ℕ)) → AreSpent s.sought left loads
    → spun left s over (loads ++ after) ≡ s ∷ over after
spun_spent zero s over [] after h = refl
spun_spent zero s over (reply ∷ loads) after h = absurd (let e : suc (length loads) ≡ zero = h.0 in omega (arith, e))
spun_spent (suc left) s over [] after h = absurd (let e : zero ≡ suc left = h.0 in omega (arith, e))
spun_spent (suc left) s over (reply ∷ loads) after h =
    let o = h.1 in
    let size : length loads ≡ left = let e : suc (length loads) ≡ suc left = h.0 in omega (arith, e) in
    spun_other left o.0 s over reply (loads ++ after) o.1 o.2 ∙ spun_spent left s over loads after (size, o.3)

-- loads of which the last one found the number
spun_found : (left : ℕ) (s : SpentSpin) (over : List (Option ℕ) → List SpentSpin) (others rest : List (Option ℕ)) → length others + 1 ≤ left
    → AreOthers s.sought others → spun left s over (others ++ Some s.sought ∷ rest) ≡ over rest
spun_found zero s over others rest few h = absurd (omega (arith, few))
spun_found (suc left) s over [] rest few h =
    let yes : (s.sought == s.sought) ≡ true = grind (arith, nat_tests) in rw yes refl
spun_found (suc left) s over (reply ∷ others) rest few h =
    let fewer : length others + 1 ≤ left = let e : suc (length others) + 1 ≤ suc left = few in omega (arith, e) in
    spun_other left h.0 s over reply (others ++ Some s.sought ∷ rest) h.1 h.2 ∙ spun_found left s over others rest fewer h.3

-- what comes behind a spin that is over is told
behind_spin : (m : ℕ) (s : SpentSpin) (over : List (Option ℕ) → List SpentSpin) (loads rest : List (Option ℕ)) (x : SpentSpin)
    → AreSpent s.sought m loads ⊎ HaveFound s.sought m loads → IsAmong (over rest) x → IsAmong (spun m s over (loads ++ rest)) x
behind_spin m s over loads rest x how among = ⊎_elim
    (λ (h : AreSpent s.sought m loads).
    (suc among.0, ap (λ (xs : List SpentSpin). slice_get xs (suc among.0)) (spun_spent m s over loads rest h) ∙ among.1))
    (λ (f : HaveFound s.sought m loads).
    let size : length loads ≡ length f.0 + 1 = ap (λ (xs : List (Option ℕ)). length xs) f.1 ∙ length-append f.0 (Some s.sought ∷ []) in
    let few : length f.0 + 1 ≤ m = let most = f.2 in omega (arith, size, most) in
    let is : loads ++ rest ≡ f.0 ++ Some s.sought ∷ rest =
    ap (λ (xs : List (Option ℕ)). xs ++ rest) f.1 ∙ append_assoc f.0 (Some s.sought ∷ []) rest in (
      among.0,
      ap (λ (xs : List (Option ℕ)). slice_get (spun m s over xs) among.0) is
          ∙ (ap (λ (xs : List SpentSpin). slice_get xs among.0) (spun_found m s over f.0 rest few f.3) ∙ among.1),
    ))
    how

-- the spin at a place
abbrev spin_at : ℕ → ℕ → ℕ → ℕ → SpentSpin
spin_at place a v m = record { place = place; address = a; sought = v; loads = m }

-- a spin that is told is told by another name of its place, and of the replies
renamed : (at place : ℕ) (lines : List Line) (replies others : List (Option ℕ)) (a v m i : ℕ) (p : ℕ) → p ≡ place → replies ≡ others
    → slice_get (spent_from at lines others) i ≡ Some (spin_at p a v m) → IsAmong (spent_from at lines replies) (spin_at place a v m)
renamed at place lines replies others a v m i p is same h =
    (i, ap (λ (rs : List (Option ℕ)). slice_get (spent_from at lines rs) i) same ∙ (h ∙ ap (λ (q : ℕ). Some (spin_at q a v m)) is))

-- a line of one operation in front
one_line : (at : ℕ) (first : Line) (front behind : List Line) (a v m : ℕ) (before loads after : List (Option ℕ)) (n : ℕ) (rest : List (Option ℕ))
    → before ≡ Some n ∷ rest
    → ((rs : List (Option ℕ)) → spent_from at (first ∷ (front ++ Spin a v m ∷ behind)) (Some n ∷ rs)
    ≡ spent_from (at + 1) (front ++ Spin a v m ∷ behind) rs)
    → IsAmong (spent_from (at + 1) (front ++ Spin a v m ∷ behind) (rest ++ (loads ++ after))) (spin_at (at + 1 + length front) a v m)
    → IsAmong (spent_from at (first ∷ (front ++ Spin a v m ∷ behind)) (before ++ (loads ++ after))) (spin_at (at + suc (length front)) a v m)
one_line at first front behind a v m before loads after n rest is over t =
    renamed at (at + suc (length front)) (first ∷ (front ++ Spin a v m ∷ behind)) (before ++ (loads ++ after))
    (Some n ∷ (rest ++ (loads ++ after))) a v m t.0 (at + 1 + length front) (omega arith)
    (ap (λ (xs : List (Option ℕ)). xs ++ (loads ++ after)) is)
    (ap (λ (xs : List SpentSpin). slice_get xs t.0) (over (rest ++ (loads ++ after))) ∙ t.1)

told_at : (at : ℕ) (front behind : List Line) (a v m : ℕ) (before loads after : List (Option ℕ)) → AreRepliesTo front before → AreSpent v m loads
    → IsAmong (spent_from at (front ++ Spin a v m ∷ behind) (before ++ (loads ++ after))) (spin_at (at + length front) a v m)
told_at at [] behind a v m before loads after r h =
    renamed at (at + zero) (Spin a v m ∷ behind) (before ++ (loads ++ after)) (loads ++ after) a v m 0 at (omega arith)
    (ap (λ (xs : List (Option ℕ)). xs ++ (loads ++ after)) r)
    (ap (λ (xs : List SpentSpin). slice_get xs 0) (spun_spent m (spin_at at a v m) (spent_from (at + 1) behind) loads after h))
told_at at (Fence ∷ front) behind a v m before loads after r h =
    let t = told_at (at + 1) front behind a v m before loads after r h in
    renamed at (at + suc (length front)) (Fence ∷ (front ++ Spin a v m ∷ behind)) _ (before ++ (loads ++ after)) a v m t.0
    (at + 1 + length front) (omega arith) refl t.1
told_at at (Spin b w k ∷ front) behind a v m before loads after r h =
    let t = told_at (at + 1) front behind a v m r.1 loads after r.4 h in
    let u = behind_spin k (spin_at at b w k) (spent_from (at + 1) (front ++ Spin a v m ∷ behind)) r.0 (r.1 ++ (loads ++ after))
    (spin_at (at + 1 + length front) a v m) r.3 t in
    renamed at (at + suc (length front)) (Spin b w k ∷ (front ++ Spin a v m ∷ behind)) (before ++ (loads ++ after))
    (r.0 ++ (r.1 ++ (loads ++ after))) a v m u.0 (at + 1 + length front) (omega arith)
    (ap (λ (xs : List (Option ℕ)). xs ++ (loads ++ after)) r.2 ∙ append_assoc r.0 r.1 (loads ++ after)) u.1
told_at at (Load b ∷ front) behind a v m before loads after r h = one_line at (Load b) front behind a v m before loads after r.0 r.1 r.2 (λ rs. refl)
    (told_at (at + 1) front behind a v m r.1 loads after r.3 h)
told_at at (Store b w ∷ front) behind a v m before loads after r h = one_line at (Store b w) front behind a v m before loads after r.0 r.1 r.2 (λ rs. refl)
    (told_at (at + 1) front behind a v m r.1 loads after r.3 h)
told_at at (Swap b w ∷ front) behind a v m before loads after r h = one_line at (Swap b w) front behind a v m before loads after r.0 r.1 r.2 (λ rs. refl)
    (told_at (at + 1) front behind a v m r.1 loads after r.3 h)
told_at at (Cas b e n ∷ front) behind a v m before loads after r h = one_line at (Cas b e n) front behind a v m before loads after r.0 r.1 r.2 (λ rs. refl)
    (told_at (at + 1) front behind a v m r.1 loads after r.3 h)
told_at at (Add b w ∷ front) behind a v m before loads after r h = one_line at (Add b w) front behind a v m before loads after r.0 r.1 r.2 (λ rs. refl)
    (told_at (at + 1) front behind a v m r.1 loads after r.3 h)
told_at at (And b w ∷ front) behind a v m before loads after r h = one_line at (And b w) front behind a v m before loads after r.0 r.1 r.2 (λ rs. refl)
    (told_at (at + 1) front behind a v m r.1 loads after r.3 h)
told_at at (Or b w ∷ front) behind a v m before loads after r h = one_line at (Or b w) front behind a v m before loads after r.0 r.1 r.2 (λ rs. refl)
    (told_at (at + 1) front behind a v m r.1 loads after r.3 h)
told_at at (Xor b w ∷ front) behind a v m before loads after r h = one_line at (Xor b w) front behind a v m before loads after r.0 r.1 r.2 (λ rs. refl)
    (told_at (at + 1) front behind a v m r.1 loads after r.3 h)
told_at at (Max b w ∷ front) behind a v m before loads after r h = one_line at (Max b w) front behind a v m before loads after r.0 r.1 r.2 (λ rs. refl)
    (told_at (at + 1) front behind a v m r.1 loads after r.3 h)
told_at at (Min b w ∷ front) behind a v m before loads after r h = one_line at (Min b w) front behind a v m before loads after r.0 r.1 r.2 (λ rs. refl)
    (told_at (at + 1) front behind a v m r.1 loads after r.3 h)

-- what ran out is told
pub ran_out_told : (script : List Line) (replies : List (Option ℕ)) (x : SpentSpin) → RanOut script replies x → IsAmong (spent_spins script replies) x
ran_out_told script replies x r =
    let t = told_at 0 r.front r.behind x.address x.sought x.loads r.before r.loads r.after r.reached r.spent in
    let place : 0 + length r.front ≡ x.place = (let e : 0 + length r.front ≡ length r.front = omega arith in e) ∙ sym r.place in (
      t.0,
      ap (λ (ls : List Line). slice_get (spent_from 0 ls replies) t.0) r.line
          ∙ (ap (λ (rs : List (Option ℕ)). slice_get (spent_from 0 (r.front ++ Spin x.address x.sought x.loads ∷ r.behind) rs) t.0) r.replied
          ∙ (t.1 ∙ ap (λ (p : ℕ). Some (spin_at p x.address x.sought x.loads)) place)),
    )
