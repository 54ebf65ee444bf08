-- Whole packets move from a channel into the next, and along a route.
use Rattle.std.proofs.Common.{◌≡◌, ◌≢◌, inl, inr, ℕ, zero, suc, ◌+◌, ◌*◌, ◌<◌, ◌≤◌, true, false, List, [], ◌∷◌, ◌++◌, length, None, refl, sym, ◌∙◌, ap}
use Rattle.std.proofs.Common.{subst, arith, append-nil}
use Rattle.std.proofs.lemmas.Bool.{cases_eq}
use Rattle.std.proofs.lemmas.List.{length-append, append_assoc}
use Rattle.std.proofs.Math.Nat.{suc-mul}
use Rattle.wormhole.specs.Net.{Net, EndsWithTail, has_no_flit}
use Rattle.wormhole.specs.State.{NetLine, NetState}
use Rattle.deadlock_laws.proofs.Lines.{line, many, many_more, many_long}
use Rattle.deadlock_laws.proofs.LengthMoves.{Leads, Moved, Moved2, at_once, and_then}
use Rattle.deadlock_laws.proofs.Parts.{part_on, part_in}

module _ (n : Net) (deep : 0 < n.depth) (size : ℕ) where
  -- a packet, the part of which that stays is empty
  module _ (h : ℕ) (body : List ℕ) (j : ℕ) (is_head : n.is_head h ≡ true) (told : n.told h ≡ j) (alone : n.is_tail h ≡ has_no_flit body)
      (ends : EndsWithTail n body) (long : length (h ∷ body) ≡ size) (fits : size ≤ suc n.depth) where
    all : body ≡ body ++ []
    all = sym (append-nil body)

    whole : (ys : List ℕ) → length ys + size ≤ suc n.depth → length ys + suc (length body) ≤ suc n.depth
    whole ys room = subst (λ m. length ys + m ≤ suc n.depth) (sym long) room

    -- it goes from a channel into the next
    pub goes_on : (s : NetState) (p y : ℕ) (ys : List ℕ) → p < n.channels → y < n.channels → n.ejects p ≡ false → n.ejects y ≡ false → p ≢ y
        → y ≡ n.next p j → length ys + size ≤ suc n.depth → s.lines p ≡ line n (h ∷ body) None [] → s.lines y ≡ line n ys None []
        → Leads n size s (Moved2 s p y (line n [] None []) (line n (ys ++ h ∷ body) None []))
    goes_on s p y ys low within input output apart next room from into =
        part_on n deep size h body [] j is_head told (subst (λ (l : List ℕ). n.is_tail h ≡ has_no_flit l) all alone) (subst (EndsWithTail n) all ends)
        (subst (λ (l : List ℕ). length (h ∷ l) ≡ size) all long) fits s p y ys low within input output apart next (whole ys room)
        (from ∙ ap (λ (l : List ℕ). line n (h ∷ l) None []) all) into

    -- it comes from its sender
    pub enters : (s : NetState) (x : ℕ) (ys : List ℕ) → x < n.channels → n.injects x ≡ true → n.ejects x ≡ false → n.joins x j ≡ true
        → length ys + size ≤ suc n.depth → s.lines x ≡ line n ys None [] → Leads n size s (Moved s x (line n (ys ++ h ∷ body) None []))
    enters s x ys within sends input joined room is =
        part_in n deep size h body [] j is_head told (subst (λ (l : List ℕ). n.is_tail h ≡ has_no_flit l) all alone) (subst (EndsWithTail n) all ends)
        (subst (λ (l : List ℕ). length (h ∷ l) ≡ size) all long) fits s x ys within sends input joined (whole ys room) is

    -- a route's first channels, up to that at step m
    pub record Path (pl : ℕ → ℕ) (m : ℕ) : Type 0 where
      pub within : (k : ℕ) → k ≤ m → pl k < n.channels
      pub injects : n.injects (pl 0) ≡ true
      pub inputs : (k : ℕ) → k ≤ m → n.ejects (pl k) ≡ false
      pub joined : n.joins (pl 0) j ≡ true
      pub next : (k : ℕ) → k < m → pl (suc k) ≡ n.next (pl k) j
      pub apart : (k : ℕ) → k < m → pl k ≢ pl m
      pub steps : (k : ℕ) → k < m → pl k ≢ pl (suc k)

    module _ (pl : ℕ → ℕ) (m : ℕ) (path : Path pl m) where
      -- a step along empty channels leaves them empty behind it
      pub step : (s t u : NetState) (p y : ℕ) (l r : NetLine) → s.lines p ≡ line n [] None [] → Moved s p l t → Moved2 t p y (line n [] None []) r u → Moved s y r u
      step s t u p y l r clear a b = record {
        here = b.into;
        others = λ z d. elim (cases_eq z p) [
          | inl e ↦ subst (λ c. u.lines c ≡ s.lines c) (sym e) (b.from ∙ sym clear)
          | inr c ↦ b.others z c d ∙ a.others z c
        ];
      }

      pub alone_fits : (m : ℕ) → m ≤ suc n.depth → length {A = ℕ} [] + m ≤ suc n.depth
      alone_fits m f = omega arith

      pub carried : (s : NetState) → ((k : ℕ) → k < m → s.lines (pl k) ≡ line n [] None [])
          → (k : ℕ) → k < m → Leads n size s (Moved s (pl k) (line n (h ∷ body) None []))
      carried s clear zero l =
          enters s (pl 0) [] (path.within 0 (omega arith)) path.injects (path.inputs 0 (omega arith)) path.joined (alone_fits size fits) (clear 0 l)
      carried s clear (suc k) l =
          and_then n deep size s _ _ (carried s clear k (omega arith)) (λ t a.
          and_then n deep size t _ _ (goes_on t (pl k) (pl (suc k)) [] (path.within k (omega arith)) (path.within (suc k) (omega arith)) (path.inputs k (omega arith))
          (path.inputs (suc k) (omega arith)) (path.steps k (omega arith)) (path.next k (omega arith)) (alone_fits size fits) a.here
          (a.others (pl (suc k)) (λ e. path.steps k (omega arith) (sym e)) ∙ clear (suc k) l)) (λ u b.
          at_once n deep size u _ (step s t u (pl k) (pl (suc k)) _ _ (clear k (omega arith)) a b)))

      pub arrives : (s : NetState) (ys : List ℕ) → ((k : ℕ) → k < m → s.lines (pl k) ≡ line n [] None []) → length ys + size ≤ suc n.depth
          → s.lines (pl m) ≡ line n ys None [] → Leads n size s (Moved s (pl m) (line n (ys ++ h ∷ body) None []))
      arrives s ys clear room here = by m refl
        where
          by : (a : ℕ) → m ≡ a → Leads n size s (Moved s (pl m) (line n (ys ++ h ∷ body) None []))
          by zero same =
              enters s (pl m) ys (path.within m (omega arith)) (subst (λ a. n.injects (pl a) ≡ true) (sym same) path.injects) (path.inputs m (omega arith))
              (subst (λ a. n.joins (pl a) j ≡ true) (sym same) path.joined) room here
          by (suc k) same =
              and_then n deep size s _ _ (carried s clear k (omega arith)) (λ t a.
              and_then n deep size t _ _ (goes_on t (pl k) (pl m) ys (path.within k (omega arith)) (path.within m (omega arith)) (path.inputs k (omega arith))
              (path.inputs m (omega arith)) (path.apart k (omega arith)) (ap pl same ∙ path.next k (omega arith)) room a.here
              (a.others (pl m) (λ e. path.apart k (omega arith) (sym e)) ∙ here)) (λ u b.
              at_once n deep size u _ (step s t u (pl k) (pl m) _ _ (clear k (omega arith)) a b)))

      -- one packet after the other, behind what stands there
      pub filled_behind : (s : NetState) (ys : List ℕ) → ((k : ℕ) → k < m → s.lines (pl k) ≡ line n [] None []) → s.lines (pl m) ≡ line n ys None []
          → (c : ℕ) → length ys + c * size ≤ suc n.depth → Leads n size s (Moved s (pl m) (line n (ys ++ many c (h ∷ body)) None []))
      filled_behind s ys clear here zero room = at_once n deep size s _ (record { here = here ∙ ap (λ l. line n l None []) (sym (append-nil ys)); others = λ z d. refl })
      filled_behind s ys clear here (suc c) room =
          and_then n deep size s _ _ (filled_behind s ys clear here c (less c room)) (λ t a.
          and_then n deep size t _ _ (arrives t (ys ++ many c (h ∷ body)) (λ k low. a.others (pl k) (path.apart k low) ∙ clear k low) (more_room c room) a.here) (λ u b.
          at_once n deep size u _ (record {
            here = b.here ∙ ap (λ l. line n l None []) (append_assoc ys (many c (h ∷ body)) (h ∷ body) ∙ ap (λ l. ys ++ l) (many_more c (h ∷ body)));
            others = λ z d. b.others z d ∙ a.others z d;
          })))
        where
          less : (c : ℕ) → length ys + suc c * size ≤ suc n.depth → length ys + c * size ≤ suc n.depth
          less c r = let e = suc-mul c size in omega arith

          more_room : (c : ℕ) → length ys + suc c * size ≤ suc n.depth → length (ys ++ many c (h ∷ body)) + size ≤ suc n.depth
          more_room c r =
              let a : length (ys ++ many c (h ∷ body)) ≡ length ys + length (many c (h ∷ body)) = length-append ys (many c (h ∷ body)) in
              let l : length (many c (h ∷ body)) ≡ c * size = many_long c (h ∷ body) ∙ ap (λ k. c * k) long in
              let e = suc-mul c size in omega arith
