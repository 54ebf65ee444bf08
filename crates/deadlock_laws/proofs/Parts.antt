-- A part of a packet moves: its head and some flits behind it, while others stay behind.
use Rattle.std.proofs.Common.{◌≡◌, ◌≢◌, ℕ, suc, ◌+◌, ◌<◌, ◌≤◌, true, false, if◌then◌else◌, List, [], ◌∷◌, ◌++◌, length, Option, Some, None, refl, sym, ◌∙◌, ap}
use Rattle.std.proofs.Common.{subst, arith, append-nil}
use Rattle.std.proofs.lemmas.List.{length-append, append_assoc}
use Rattle.wormhole.specs.Net.{Net, Parcel, EndsWithTail, has_no_flit}
use Rattle.wormhole.specs.State.{NetLine, NetState, update}
use Rattle.wormhole.specs.Events.{InjectHead, InjectRest, ForwardHead, ForwardRest, after, put, forwarded, unlatched}
use Rattle.wormhole.proofs.Changes.{update_same, update_other}
use Rattle.deadlock_laws.proofs.Lines.{line, owner_is, rest_is, has_credit, put_owned, put_sent}
use Rattle.deadlock_laws.proofs.LengthMoves.{Leads, Moved, Moved2, at_once, first, and_then, settles, rests}

nil : (xs : List ℕ) → xs ++ [] ≡ xs
nil [] = refl
nil (x ∷ xs) = ap (λ zs. x ∷ zs) (nil xs)

module _ (n : Net) (deep : 0 < n.depth) (size : ℕ) where
  longer : (xs : List ℕ) (a : ℕ) (zs : List ℕ) → length xs + length (a ∷ zs) ≤ suc n.depth → length (xs ++ a ∷ []) + length zs ≤ suc n.depth
  longer xs a zs h = let l : length (xs ++ a ∷ []) ≡ length xs + 1 = length-append xs (a ∷ []) in omega arith

  -- some of the flits behind the head go after it
  pub part_goes : (ws bs : List ℕ) → EndsWithTail n (ws ++ bs) → (s : NetState) (p y : ℕ) (ys : List ℕ) (o : Option ℕ) (r v : List ℕ)
      → p < n.channels → y < n.channels → n.ejects p ≡ false → n.ejects y ≡ false → p ≢ y → length (ws ++ bs) ≤ suc n.depth → length ys + length ws ≤ suc n.depth
      → s.lines p ≡ line n (ws ++ bs) o r → s.lines y ≡ line n ys (if has_no_flit (ws ++ bs) then None else Some p) v
      → Leads n size s (Moved2 s p y (line n bs o r) (line n (ys ++ ws) (if has_no_flit bs then None else Some p) v))
  part_goes [] bs ends s p y ys o r v low within input output apart short room from into =
      at_once n deep size s _ (record { from = from; into = into ∙ ap (λ l. line n l (if has_no_flit bs then None else Some p) v) (sym (append-nil ys)); others = λ z d e. refl })
  part_goes (w ∷ ws) bs ends s p y ys o r v low within input output apart short room from into =
      let one = ForwardRest p y w in
      let s1 = after n s one in
      let q : Option ℕ = if has_no_flit (ws ++ bs) then None else Some p in
      let here : length ys ≤ n.depth = omega arith in
      let at_p : s1.lines p ≡ unlatched (line n (w ∷ (ws ++ bs)) o r) = update_other (update s.lines p (unlatched (s.lines p))) y _ p apart ∙ (update_same s.lines p _ ∙ ap unlatched from) in
      let at_y : s1.lines y ≡ put w (line n ys q v) =
      update_same (update s.lines p (unlatched (s.lines p))) y _
      ∙ (ap (forwarded n p w) into ∙ (put_owned n w ys (Some p) (if n.is_tail w then None else Some p) v ∙ ap (λ b. put w (line n ys (if b then None else Some p) v)) ends.1)) in
      let between : (z : ℕ) → z ≢ p → z ≢ y → s1.lines z ≡ s.lines z = λ z d e. update_other (update s.lines p (unlatched (s.lines p))) y _ z e ∙ update_other s.lines p _ z d in
      first n deep size s _ one tt (record {
        here = low;
        input = input;
        full = ap (λ (l : NetLine). l.latch) from;
        rest = ends.0;
        owned = ap (λ (l : NetLine). l.owner) into ∙ owner_is n ys (Some p) v;
        credit = subst (λ (l : NetLine). 0 < l.held) (sym into) (has_credit n ys (Some p) v deep here);
      })
      (and_then n deep size s1 _ _ (rests n deep size s s1 p y w (ws ++ bs) ys o q r v low within input output apart (omega arith) here at_p at_y between) (λ t a.
      and_then n deep size t _ _ (part_goes ws bs ends.2 t p y (ys ++ w ∷ []) o r v low within input output apart (omega arith) (longer ys w ws room) a.from a.into) (λ u b.
      at_once n deep size u _ (record {
        from = b.from;
        into = b.into ∙ ap (λ l. line n l (if has_no_flit bs then None else Some p) v) (append_assoc ys (w ∷ []) ws);
        others = λ z d e. b.others z d e ∙ a.others z d e;
      }))))

  -- some of them come from the sender
  pub part_enters : (ws bs : List ℕ) → (s : NetState) (x : ℕ) (ys : List ℕ) (o : Option ℕ)
      → x < n.channels → n.injects x ≡ true → n.ejects x ≡ false → length ys + length ws ≤ suc n.depth
      → s.lines x ≡ line n ys o (ws ++ bs) → Leads n size s (Moved s x (line n (ys ++ ws) o bs))
  part_enters [] bs s x ys o within sends input room is =
      at_once n deep size s _ (record { here = is ∙ ap (λ l. line n l o bs) (sym (append-nil ys)); others = λ z d. refl })
  part_enters (w ∷ ws) bs s x ys o within sends input room is =
      let one = InjectRest x w (ws ++ bs) in
      let s1 = after n s one in
      let here : length ys ≤ n.depth = omega arith in
      let at_x : s1.lines x ≡ put w (line n ys o (ws ++ bs)) =
      update_same s.lines x _ ∙ (ap (λ (l : NetLine). record (put w l) { rest = ws ++ bs }) is ∙ put_sent n w ys o (w ∷ (ws ++ bs)) (ws ++ bs)) in
      first n deep size s _ one tt (record {
        here = within;
        injects = sends;
        course = ap (λ (l : NetLine). l.rest) is ∙ rest_is n ys o (w ∷ (ws ++ bs));
        credit = subst (λ (l : NetLine). 0 < l.held) (sym is) (has_credit n ys o (w ∷ (ws ++ bs)) deep here);
      })
      (and_then n deep size s1 _ _ (settles n deep size s1 x w ys o (ws ++ bs) within input here at_x) (λ t a.
      and_then n deep size t _ _ (part_enters ws bs t x (ys ++ w ∷ []) o within sends input (longer ys w ws room) a.here) (λ u b.
      at_once n deep size u _ (record {
        here = b.here ∙ ap (λ l. line n l o bs) (append_assoc ys (w ∷ []) ws);
        others = λ z d. b.others z d ∙ (a.others z d ∙ update_other s.lines x _ z d);
      }))))

  -- a packet of which a part goes, and a part stays
  module _ (h : ℕ) (ws bs : List ℕ) (j : ℕ) (is_head : n.is_head h ≡ true) (told : n.told h ≡ j) (alone : n.is_tail h ≡ has_no_flit (ws ++ bs))
      (ends : EndsWithTail n (ws ++ bs)) (long : length (h ∷ (ws ++ bs)) ≡ size) (fits : size ≤ suc n.depth) where
    -- its head and some flits go on into the next channel
    pub part_on : (s : NetState) (p y : ℕ) (ys : List ℕ) → p < n.channels → y < n.channels → n.ejects p ≡ false → n.ejects y ≡ false → p ≢ y
        → y ≡ n.next p j → length ys + suc (length ws) ≤ suc n.depth → s.lines p ≡ line n (h ∷ (ws ++ bs)) None [] → s.lines y ≡ line n ys None []
        → Leads n size s (Moved2 s p y (line n bs None []) (line n (ys ++ h ∷ ws) (if has_no_flit bs then None else Some p) []))
    part_on s p y ys low within input output apart next room from into =
        let one = ForwardHead p y h in
        let s1 = after n s one in
        let q : Option ℕ = if has_no_flit (ws ++ bs) then None else Some p in
        let size_is : suc (length (ws ++ bs)) ≡ size = long in
        let here : length ys ≤ n.depth = omega arith in
        let at_p : s1.lines p ≡ unlatched (line n (h ∷ (ws ++ bs)) None []) = update_other (update s.lines p (unlatched (s.lines p))) y _ p apart ∙ (update_same s.lines p _ ∙ ap unlatched from) in
        let at_y : s1.lines y ≡ put h (line n ys q []) =
        update_same (update s.lines p (unlatched (s.lines p))) y _
        ∙ (ap (forwarded n p h) into ∙ (put_owned n h ys None (if n.is_tail h then None else Some p) [] ∙ ap (λ b. put h (line n ys (if b then None else Some p) [])) alone)) in
        let between : (z : ℕ) → z ≢ p → z ≢ y → s1.lines z ≡ s.lines z = λ z d e. update_other (update s.lines p (unlatched (s.lines p))) y _ z e ∙ update_other s.lines p _ z d in
        first n deep size s _ one tt (record {
          here = low;
          input = input;
          full = ap (λ (l : NetLine). l.latch) from;
          head = is_head;
          output = next ∙ ap (n.next p) (sym told);
          free = ap (λ (l : NetLine). l.owner) into ∙ owner_is n ys None [];
          credit = subst (λ (l : NetLine). 0 < l.held) (sym into) (has_credit n ys None [] deep here);
        })
        (and_then n deep size s1 _ _ (rests n deep size s s1 p y h (ws ++ bs) ys None q [] [] low within input output apart (omega arith) here at_p at_y between) (λ t a.
        and_then n deep size t _ _ (part_goes ws bs ends t p y (ys ++ h ∷ []) None [] [] low within input output apart (omega arith) (one_more ys room) a.from a.into) (λ u b.
        at_once n deep size u _ (record {
          from = b.from;
          into = b.into ∙ ap (λ l. line n l (if has_no_flit bs then None else Some p) []) (append_assoc ys (h ∷ []) ws);
          others = λ z d e. b.others z d e ∙ a.others z d e;
        }))))
      where
        one_more : (xs : List ℕ) → length xs + suc (length ws) ≤ suc n.depth → length (xs ++ h ∷ []) + length ws ≤ suc n.depth
        one_more xs k = let l : length (xs ++ h ∷ []) ≡ length xs + 1 = length-append xs (h ∷ []) in omega arith

    -- they come from the sender
    pub part_in : (s : NetState) (x : ℕ) (ys : List ℕ) → x < n.channels → n.injects x ≡ true → n.ejects x ≡ false → n.joins x j ≡ true
        → length ys + suc (length ws) ≤ suc n.depth → s.lines x ≡ line n ys None [] → Leads n size s (Moved s x (line n (ys ++ h ∷ ws) None bs))
    part_in s x ys within sends input joined room is =
        let k : Parcel = record { source = x; destination = j; index = 0; head = h; tail = ws ++ bs } in
        let one = InjectHead x k in
        let s1 = after n s one in
        let here : length ys ≤ n.depth = omega arith in
        let at_x : s1.lines x ≡ put h (line n ys None (ws ++ bs)) =
        update_same s.lines x _ ∙ (ap (λ (l : NetLine). record (put h l) { rest = ws ++ bs }) is ∙ put_sent n h ys None [] (ws ++ bs)) in
        first n deep size s _ one long (record {
          here = within;
          injects = sends;
          idle = ap (λ (l : NetLine). l.rest) is ∙ rest_is n ys None [];
          credit = subst (λ (l : NetLine). 0 < l.held) (sym is) (has_credit n ys None [] deep here);
          parcel = record { joined = joined; head = is_head; told = told; alone = alone; tail = ends };
          source = refl;
        })
        (and_then n deep size s1 _ _ (settles n deep size s1 x h ys None (ws ++ bs) within input here at_x) (λ t a.
        and_then n deep size t _ _ (part_enters ws bs t x (ys ++ h ∷ []) None within sends input (one_more ys room) a.here) (λ u b.
        at_once n deep size u _ (record {
          here = b.here ∙ ap (λ l. line n l None bs) (append_assoc ys (h ∷ []) ws);
          others = λ z d. b.others z d ∙ (a.others z d ∙ update_other s.lines x _ z d);
        }))))
      where
        one_more : (xs : List ℕ) → length xs + suc (length ws) ≤ suc n.depth → length (xs ++ h ∷ []) + length ws ≤ suc n.depth
        one_more xs k = let l : length (xs ++ h ∷ []) ≡ length xs + 1 = length-append xs (h ∷ []) in omega arith
