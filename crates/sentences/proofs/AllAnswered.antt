-- All operations of a script are answered where the replies to all of them are there.
use Rattle.std.proofs.Common.{◌≡◌, ◌⊎◌, ⊎_elim, inl, inr, ℕ, zero, suc, ◌+◌, ◌≤◌, ◌==◌, true, false, List, [], ◌∷◌, ◌++◌, length, Some, None, refl, sym, ◌∙◌}
use Rattle.std.proofs.Common.{ap, arith}
use Rattle.std.specs.Prelude.{Bool, Option, if◌then◌else◌}
use Rattle.std.proofs.lemmas.Bool.Decides.{nat_tests}
use Rattle.std.proofs.lemmas.List.{append_assoc, length-append}
use Rattle.script_lines.specs.declared.line.Line.{Line}
use Rattle.script_lines.specs.declared.line.Line.TheVariants.{Load, Store, Swap, Cas, Add, And, Or, Xor, Max, Min, Fence, Spin}
use Rattle.sentences.specs.Answered.{are_answered, behind_reply, behind_spin, true_behind}
use Rattle.sentences.specs.RunsOut.{AreOthers, AreRepliesTo, AreSpent, HasAllReplies, HaveFound}

-- how a spin's loads can end
abbrev Ends : ℕ → ℕ → List (Option ℕ) → Type 0
Ends sought left loads = AreSpent sought left loads ⊎ HaveFound sought left loads

-- a load that found another number
load_other : (left n sought : ℕ) (reply : Option ℕ) (replies : List (Option ℕ)) → reply ≡ Some n → (n == sought) ≡ false
    → behind_spin (suc left) sought (reply ∷ replies) ≡ behind_spin left sought replies
load_other left n sought reply replies is differs =
    ap (λ (o : Option ℕ). behind_spin (suc left) sought (o ∷ replies)) is ∙ (rw differs refl)

-- behind all loads of a spin
past_spent : (left sought : ℕ) (loads after : List (Option ℕ)) → AreSpent sought left loads → behind_spin left sought (loads ++ after) ≡ Some after
past_spent zero sought [] after h = refl
past_spent zero sought (reply ∷ loads) after h = absurd (let e : suc (length loads) ≡ zero = h.0 in omega (arith, e))
past_spent (suc left) sought [] after h = absurd (let e : zero ≡ suc left = h.0 in omega (arith, e))
past_spent (suc left) sought (reply ∷ loads) after h =
    let o = h.1 in
    let size : length loads ≡ left = let e : suc (length loads) ≡ suc left = h.0 in omega (arith, e) in
    load_other left o.0 sought reply (loads ++ after) o.1 o.2 ∙ past_spent left sought loads after (size, o.3)

-- behind loads of which the last one found the number
past_found : (left sought : ℕ) (others rest : List (Option ℕ)) → length others + 1 ≤ left → AreOthers sought others
    → behind_spin left sought (others ++ Some sought ∷ rest) ≡ Some rest
past_found zero sought others rest few h = absurd (omega (arith, few))
past_found (suc left) sought [] rest few h = let yes : (sought == sought) ≡ true = grind (arith, nat_tests) in rw yes refl
past_found (suc left) sought (reply ∷ others) rest few h =
    let fewer : length others + 1 ≤ left = let e : suc (length others) + 1 ≤ suc left = few in omega (arith, e) in
    load_other left h.0 sought reply (others ++ Some sought ∷ rest) h.1 h.2 ∙ past_found left sought others rest fewer h.3

past_spin : (m sought : ℕ) (loads rest : List (Option ℕ)) → Ends sought m loads → behind_spin m sought (loads ++ rest) ≡ Some rest
past_spin m sought loads rest how = ⊎_elim
    (λ (h : AreSpent sought m loads). past_spent m sought loads rest h)
    (λ (f : HaveFound sought m loads).
    let size : length loads ≡ length f.0 + 1 = ap (λ (xs : List (Option ℕ)). length xs) f.1 ∙ length-append f.0 (Some sought ∷ []) in
    let few : length f.0 + 1 ≤ m = let most = f.2 in omega (arith, size, most) in
    let is : loads ++ rest ≡ f.0 ++ Some sought ∷ rest =
    ap (λ (xs : List (Option ℕ)). xs ++ rest) f.1 ∙ append_assoc f.0 (Some sought ∷ []) rest in
    ap (behind_spin m sought) is ∙ past_found m sought f.0 rest few f.3)
    how

-- a line of one operation in front
one_more : (lines : List Line) (before after : List (Option ℕ)) (n : ℕ) (rest : List (Option ℕ)) → before ≡ Some n ∷ rest
    → are_answered lines (rest ++ after) ≡ true → true_behind (are_answered lines) (behind_reply (before ++ after)) ≡ true
one_more lines before after n rest is h =
    ap (λ (xs : List (Option ℕ)). true_behind (are_answered lines) (behind_reply (xs ++ after))) is ∙ h

-- with the replies to all operations in front, all are answered
answered_at : (lines : List Line) (before after : List (Option ℕ)) → AreRepliesTo lines before → are_answered lines (before ++ after) ≡ true
answered_at [] before after r = refl
answered_at (Fence ∷ lines) before after r = answered_at lines before after r
answered_at (Spin a v m ∷ lines) before after r =
    let is : before ++ after ≡ r.0 ++ (r.1 ++ after) =
    ap (λ (xs : List (Option ℕ)). xs ++ after) r.2 ∙ append_assoc r.0 r.1 after in
    ap (λ (xs : List (Option ℕ)). true_behind (are_answered lines) (behind_spin m v xs)) is
    ∙ (ap (true_behind (are_answered lines)) (past_spin m v r.0 (r.1 ++ after) r.3) ∙ answered_at lines r.1 after r.4)
answered_at (Load b ∷ lines) before after r = one_more lines before after r.0 r.1 r.2 (answered_at lines r.1 after r.3)
answered_at (Store b w ∷ lines) before after r = one_more lines before after r.0 r.1 r.2 (answered_at lines r.1 after r.3)
answered_at (Swap b w ∷ lines) before after r = one_more lines before after r.0 r.1 r.2 (answered_at lines r.1 after r.3)
answered_at (Cas b e n ∷ lines) before after r = one_more lines before after r.0 r.1 r.2 (answered_at lines r.1 after r.3)
answered_at (Add b w ∷ lines) before after r = one_more lines before after r.0 r.1 r.2 (answered_at lines r.1 after r.3)
answered_at (And b w ∷ lines) before after r = one_more lines before after r.0 r.1 r.2 (answered_at lines r.1 after r.3)
answered_at (Or b w ∷ lines) before after r = one_more lines before after r.0 r.1 r.2 (answered_at lines r.1 after r.3)
answered_at (Xor b w ∷ lines) before after r = one_more lines before after r.0 r.1 r.2 (answered_at lines r.1 after r.3)
answered_at (Max b w ∷ lines) before after r = one_more lines before after r.0 r.1 r.2 (answered_at lines r.1 after r.3)
answered_at (Min b w ∷ lines) before after r = one_more lines before after r.0 r.1 r.2 (answered_at lines r.1 after r.3)

pub all_replied : (script : List Line) (replies before after : List (Option ℕ)) → replies ≡ before ++ after → AreRepliesTo script before
    → are_answered script replies ≡ true
all_replied script replies before after is r = ap (are_answered script) is ∙ answered_at script before after r

-- one load more, which found another number
one_end : (sought left r : ℕ) (loads : List (Option ℕ)) → (r == sought) ≡ false → Ends sought left loads → Ends sought (suc left) (Some r ∷ loads)
one_end sought left r loads differs h = ⊎_elim
    (λ (s : AreSpent sought left loads). inl (ap (λ (n : ℕ). suc n) s.0, (r, refl, differs, s.1)))
    (λ (f : HaveFound sought left loads).
    inr (Some r ∷ f.0, ap (λ (xs : List (Option ℕ)). Some r ∷ xs) f.1, (let few = f.2 in omega (arith, few)), (r, refl, differs, f.3)))
    h

found_is : (r sought : ℕ) → (r == sought) ≡ true → r ≡ sought
found_is r sought h = grind (arith, nat_tests, h)

-- the loads of a spin that is over, where what is true behind it is
abbrev SpinIsOver : ℕ → ℕ → (List (Option ℕ) → Bool) → List (Option ℕ) → Type 0
SpinIsOver left sought over replies =
    (loads rest : List (Option ℕ)) × (replies ≡ loads ++ rest) × Ends sought left loads × (over rest ≡ true)

-- the loads of a spin that is over, from the next one on
load_over : (left sought : ℕ) (over : List (Option ℕ) → Bool) (r : ℕ) (replies : List (Option ℕ)) (b : Bool) → (r == sought) ≡ b
    → (true_behind over (behind_spin left sought replies) ≡ true → SpinIsOver left sought over replies)
    → true_behind over (if b then Some replies else behind_spin left sought replies) ≡ true → SpinIsOver (suc left) sought over (Some r ∷ replies)
load_over left sought over r replies true is rest h =
    (Some r ∷ [], replies, refl, inr ([], ap (λ (n : ℕ). Some n ∷ []) (found_is r sought is), omega arith, tt), h)
load_over left sought over r replies false is rest h =
    let t = rest h in
    (Some r ∷ t.0, t.1, ap (λ (xs : List (Option ℕ)). Some r ∷ xs) t.2, one_end sought left r t.0 is t.3, t.4)

none_over : {A : Type 0} → false ≡ true → A
none_over h = absurd (let e : false ≡ true = h in cc)

spin_over : (left sought : ℕ) (over : List (Option ℕ) → Bool) (replies : List (Option ℕ)) → true_behind over (behind_spin left sought replies) ≡ true
    → SpinIsOver left sought over replies
spin_over zero sought over replies h = ([], replies, refl, inl (refl, tt), h)
spin_over (suc left) sought over [] h = none_over h
spin_over (suc left) sought over (None ∷ replies) h = none_over h
spin_over (suc left) sought over (Some r ∷ replies) h =
    load_over left sought over r replies (r == sought) refl (λ rest. spin_over left sought over replies rest) h

-- the reply to a line of one operation
line_over : (over : List (Option ℕ) → Bool) (replies : List (Option ℕ)) → true_behind over (behind_reply replies) ≡ true
    → (n : ℕ) × (rest : List (Option ℕ)) × (replies ≡ Some n ∷ rest) × (over rest ≡ true)
line_over over [] h = none_over h
line_over over (None ∷ replies) h = none_over h
line_over over (Some n ∷ replies) h = (n, replies, refl, h)

-- the replies to all operations of the lines behind one, and so to all
one_before : (lines : List Line) (replies : List (Option ℕ)) (n : ℕ) (rest : List (Option ℕ)) → replies ≡ Some n ∷ rest → HasAllReplies lines rest
    → (before after : List (Option ℕ)) × (replies ≡ before ++ after)
    × ((k : ℕ) × (own : List (Option ℕ)) × (before ≡ Some k ∷ own) × AreRepliesTo lines own)
one_before lines replies n rest is t =
    (Some n ∷ t.0, t.1, is ∙ ap (λ (xs : List (Option ℕ)). Some n ∷ xs) t.2, (n, t.0, refl, t.3))

pub replied_all : (script : List Line) (replies : List (Option ℕ)) → are_answered script replies ≡ true → HasAllReplies script replies
replied_all [] replies h = ([], replies, refl, refl)
replied_all (Fence ∷ lines) replies h = replied_all lines replies h
replied_all (Spin a v m ∷ lines) replies h =
    let s = spin_over m v (are_answered lines) replies h in
    let t = replied_all lines s.1 s.4 in (
      s.0 ++ t.0,
      t.1,
      s.2 ∙ (ap (λ (xs : List (Option ℕ)). s.0 ++ xs) t.2 ∙ sym (append_assoc s.0 t.0 t.1)),
      (s.0, t.0, refl, s.3, t.3),
    )
replied_all (Load b ∷ lines) replies h =
    let s = line_over (are_answered lines) replies h in one_before lines replies s.0 s.1 s.2 (replied_all lines s.1 s.3)
replied_all (Store b w ∷ lines) replies h =
    let s = line_over (are_answered lines) replies h in one_before lines replies s.0 s.1 s.2 (replied_all lines s.1 s.3)
replied_all (Swap b w ∷ lines) replies h =
    let s = line_over (are_answered lines) replies h in one_before lines replies s.0 s.1 s.2 (replied_all lines s.1 s.3)
replied_all (Cas b e n ∷ lines) replies h =
    let s = line_over (are_answered lines) replies h in one_before lines replies s.0 s.1 s.2 (replied_all lines s.1 s.3)
replied_all (Add b w ∷ lines) replies h =
    let s = line_over (are_answered lines) replies h in one_before lines replies s.0 s.1 s.2 (replied_all lines s.1 s.3)
replied_all (And b w ∷ lines) replies h =
    let s = line_over (are_answered lines) replies h in one_before lines replies s.0 s.1 s.2 (replied_all lines s.1 s.3)
replied_all (Or b w ∷ lines) replies h =
    let s = line_over (are_answered lines) replies h in one_before lines replies s.0 s.1 s.2 (replied_all lines s.1 s.3)
replied_all (Xor b w ∷ lines) replies h =
    let s = line_over (are_answered lines) replies h in one_before lines replies s.0 s.1 s.2 (replied_all lines s.1 s.3)
replied_all (Max b w ∷ lines) replies h =
    let s = line_over (are_answered lines) replies h in one_before lines replies s.0 s.1 s.2 (replied_all lines s.1 s.3)
replied_all (Min b w ∷ lines) replies h =
    let s = line_over (are_answered lines) replies h in one_before lines replies s.0 s.1 s.2 (replied_all lines s.1 s.3)
