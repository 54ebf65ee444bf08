-- A trace and the same trace with other numbers of words have the same orders.
use Rattle.std.proofs.Common.{◌≡◌, ◌≢◌, ⊎_elim, ℕ, zero, suc, ◌<◌, List, [], ◌∷◌, length, Some, None, refl, sym, ◌∙◌, ap, subst, arith, slice_get, take}
use Rattle.std.proofs.Common.{get_or, map}
use Rattle.std.proofs.lemmas.Bool.{cases_eq}
use Rattle.std.proofs.lemmas.List.{get_or-set_same, length-set}
use Rattle.packet.specs.declared.kinds.Op.{Op}
use Rattle.packet.specs.declared.kinds.Reply.{Reply}
use Rattle.packet.specs.Memory.{new_word, reply_to, memory_after_one}
use Rattle.packet.proofs.Folds.{other_word}
use Rattle.trace_laws.specs.declared.event.Call.{Call}
use Rattle.trace_laws.specs.declared.event.Event.{Event}
use Rattle.trace_laws.specs.declared.event.Event.TheVariants.{Issue, Answer}
use Rattle.trace_laws.specs.Traces.{TraceIssuesAt, TraceAnswersAt}
use Rattle.trace_laws.specs.Orders.{IsOrder, memory_of}
use Rattle.trace_laws.proofs.Lists.{take_get}
use Rattle.trace_text.specs.Renumbered.{moved_call, moved_event, IsRenumbering}

-- lists of images
pub map_get : {A B : Type 0} (f : A → B) (xs : List A) (k : ℕ) (x : A) → slice_get xs k ≡ Some x
    → slice_get (map f xs) k ≡ Some (f x)
map_get f [] k x h = absurd (let e : None ≡ Some x = h in cc)
map_get f (y ∷ ys) zero x h = let e : y ≡ x = cc in ap (λ z. Some (f z)) e
map_get f (y ∷ ys) (suc k) x h = map_get f ys k x h

pub get_map : {A B : Type 0} (f : A → B) (xs : List A) (k : ℕ) (y : B) → slice_get (map f xs) k ≡ Some y
    → (x : A) × (slice_get xs k ≡ Some x) × (f x ≡ y)
get_map f [] k y h = absurd (let e : None ≡ Some y = h in cc)
get_map f (x ∷ xs) zero y h = (x, refl, cc)
get_map f (x ∷ xs) (suc k) y h = get_map f xs k y h

pub take_map : {A B : Type 0} (f : A → B) (n : ℕ) (xs : List A) → take n (map f xs) ≡ map f (take n xs)
take_map f zero xs = refl
take_map f (suc n) [] = refl
take_map f (suc n) (x ∷ xs) = ap (λ ys. f x ∷ ys) (take_map f n xs)

pub map_back : {A : Type 0} (f g : A → A) (xs : List A) → ((k : ℕ) (x : A) → slice_get xs k ≡ Some x → f (g x) ≡ x)
    → map f (map g xs) ≡ xs
map_back f g [] h = refl
map_back f g (x ∷ xs) h =
    ap (λ y. y ∷ map f (map g xs)) (h zero x refl) ∙ ap (λ ys. x ∷ ys) (map_back f g xs (λ k y e. h (suc k) y e))

-- events of the trace with other numbers
pub issue_back : (place : ℕ → ℕ) (trace : List Event) (i : ℕ) (d : Call)
    → TraceIssuesAt (map (moved_event place) trace) i d → (c : Call) × TraceIssuesAt trace i c × (moved_call place c ≡ d)
issue_back place [] i d h = absurd (let e : None ≡ Some (Issue d) = h in cc)
issue_back place (Issue c ∷ trace) zero d h = (c, refl, cc)
issue_back place (Answer id reply ∷ trace) zero d h = absurd (cc)
issue_back place (e ∷ trace) (suc i) d h = issue_back place trace i d h

pub answer_back : (place : ℕ → ℕ) (trace : List Event) (i id : ℕ) (reply : Reply)
    → TraceAnswersAt (map (moved_event place) trace) i id reply → TraceAnswersAt trace i id reply
answer_back place [] i id reply h = absurd (let e : None ≡ Some (Answer id reply) = h in cc)
answer_back place (Issue c ∷ trace) zero id reply h = absurd (cc)
answer_back place (Answer n told ∷ trace) zero id reply h = h
answer_back place (e ∷ trace) (suc i) id reply h = answer_back place trace i id reply h

pub issue_there : (place : ℕ → ℕ) (trace : List Event) (i : ℕ) (c : Call) → TraceIssuesAt trace i c
    → TraceIssuesAt (map (moved_event place) trace) i (moved_call place c)
issue_there place trace i c h = map_get (moved_event place) trace i (Issue c) h

pub answer_there : (place : ℕ → ℕ) (trace : List Event) (i id : ℕ) (reply : Reply) → TraceAnswersAt trace i id reply
    → TraceAnswersAt (map (moved_event place) trace) i id reply
answer_there place trace i id reply h = map_get (moved_event place) trace i (Answer id reply) h

-- an operation is issued in the trace
abbrev pub IsSomewhere : List Event → Call → Type 0
IsSomewhere trace c = (i : ℕ) × TraceIssuesAt trace i c

-- two memories have the same words at the addresses of a trace's operations and at their places
record AreAlike (place : ℕ → ℕ) (trace : List Event) (m n : List ℕ) : Type 0 where
  pub inside : (c : Call) → IsSomewhere trace c → c.operation.address < length m
  pub placed : (c : Call) → IsSomewhere trace c → place c.operation.address < length n
  pub word : (c : Call) → IsSomewhere trace c → get_or n (place c.operation.address) 0 ≡ get_or m c.operation.address 0

alike_one : (place back : ℕ → ℕ) (trace : List Event) → ((c : Call) → IsSomewhere trace c → back (place c.operation.address) ≡ c.operation.address)
    → (m n : List ℕ) (c : Call) → IsSomewhere trace c → AreAlike place trace m n
    → AreAlike place trace (memory_after_one c.operation m) (memory_after_one (moved_call place c).operation n)
alike_one place back trace inverse m n c at alike =
    let a : ℕ = c.operation.address in
    let v : ℕ = new_word c.operation.op (get_or m a 0) in
    let u : ℕ = new_word c.operation.op (get_or n (place a) 0) in
    let same : u ≡ v = ap (new_word c.operation.op) (alike.word c at) in
    record {
      inside = λ d there. let l = alike.inside d there in omega (arith, length-set m a v);
      placed = λ d there. let l = alike.placed d there in omega (arith, length-set n (place a) u);
      word = λ d there. ⊎_elim {C = get_or (memory_after_one (moved_call place c).operation n) (place d.operation.address) 0
          ≡ get_or (memory_after_one c.operation m) d.operation.address 0}
          (λ (e : d.operation.address ≡ a).
          ap (λ (w : ℕ). get_or (memory_after_one (moved_call place c).operation n) (place w) 0) e
          ∙ (get_or-set_same n (place a) u 0 (alike.placed c at)
          ∙ (same
          ∙ (sym (get_or-set_same m a v 0 (alike.inside c at))
          ∙ ap (λ (w : ℕ). get_or (memory_after_one c.operation m) w 0) (sym e)))))
          (λ (ne : d.operation.address ≢ a).
          let other : place d.operation.address ≢ place a = λ e. ne (sym (inverse d there) ∙ (ap back e ∙ inverse c at)) in
          other_word (moved_call place c).operation n (place d.operation.address) other
          ∙ (alike.word d there
          ∙ sym (other_word c.operation m d.operation.address ne)))
          (cases_eq d.operation.address a);
    }

alike_all : (place back : ℕ → ℕ) (trace : List Event) → ((c : Call) → IsSomewhere trace c → back (place c.operation.address) ≡ c.operation.address)
    → (order : List Call) → ((x : ℕ) (c : Call) → slice_get order x ≡ Some c → IsSomewhere trace c)
    → (m n : List ℕ) → AreAlike place trace m n → AreAlike place trace (memory_of m order) (memory_of n (map (moved_call place) order))
alike_all place back trace inverse [] issued m n alike = alike
alike_all place back trace inverse (c ∷ order) issued m n alike =
    alike_all place back trace inverse order (λ x d h. issued (suc x) d h)
    (memory_after_one c.operation m) (memory_after_one (moved_call place c).operation n)
    (alike_one place back trace inverse m n c (issued zero c refl) alike)

-- the word that an order leaves at the address of an operation of the trace is the same
pub same_left : (place back : ℕ → ℕ) (opening others : List ℕ) (trace : List Event) → IsRenumbering place back opening others trace
    → (order : List Call) → ((x : ℕ) (c : Call) → slice_get order x ≡ Some c → IsSomewhere trace c) → (c : Call) → IsSomewhere trace c
    → get_or (memory_of others (map (moved_call place) order)) (place c.operation.address) 0
    ≡ get_or (memory_of opening order) c.operation.address 0
same_left place back opening others trace r order issued c at =
    let alike : AreAlike place trace opening others = record {
      inside = λ d there. r.inside there.0 d there.1;
      placed = λ d there. r.placed there.0 d there.1;
      word = λ d there. r.word there.0 d there.1;
    } in
    let later : AreAlike place trace (memory_of opening order) (memory_of others (map (moved_call place) order)) =
    alike_all place back trace (λ d there. r.inverse there.0 d there.1) order issued opening others alike in
    later.word c at

-- the word that an operation of the order finds is the same
pub same_found : (place back : ℕ → ℕ) (opening others : List ℕ) (trace : List Event) → IsRenumbering place back opening others trace
    → (order : List Call) → ((x : ℕ) (c : Call) → slice_get order x ≡ Some c → IsSomewhere trace c) → (x : ℕ) (c : Call) → IsSomewhere trace c
    → get_or (memory_of others (take x (map (moved_call place) order))) (place c.operation.address) 0
    ≡ get_or (memory_of opening (take x order)) c.operation.address 0
same_found place back opening others trace r order issued x c at =
    ap (λ (cs : List Call). get_or (memory_of others cs) (place c.operation.address) 0) (take_map (moved_call place) x order)
    ∙ same_left place back opening others trace r (take x order) (λ y d h. let g = take_get x order y d h in issued y d g.1) c at

-- a call is its number, its address and what it does
abbrev call_with : ℕ → ℕ → Op → Call
call_with id address op = record { id = id; operation = record { address = address; op = op } }

same_call : (c d : Call) → c.id ≡ d.id → c.operation.address ≡ d.operation.address → c.operation.op ≡ d.operation.op → c ≡ d
same_call c d n a o =
    ap (λ (k : ℕ). call_with k c.operation.address c.operation.op) n
    ∙ (ap (λ (k : ℕ). call_with d.id k c.operation.op) a
    ∙ ap (λ (k : Op). call_with d.id d.operation.address k) o)

-- a call is told by its image
one_image : (place back : ℕ → ℕ) (opening others : List ℕ) (trace : List Event) → IsRenumbering place back opening others trace
    → (c d : Call) → IsSomewhere trace c → IsSomewhere trace d → moved_call place c ≡ moved_call place d → c ≡ d
one_image place back opening others trace r c d at there e =
    let a : c.operation.address ≡ d.operation.address =
    sym (r.inverse at.0 c at.1) ∙ (ap (λ (k : Call). back k.operation.address) e ∙ r.inverse there.0 d there.1) in
    let o : c.operation.op ≡ d.operation.op = ap (λ (k : Call). k.operation.op) e in
    same_call c d (ap (λ (k : Call). k.id) e) a o

-- an order of the trace is one with other numbers
pub order_there : (place back : ℕ → ℕ) (opening others : List ℕ) (trace : List Event) → IsRenumbering place back opening others trace
    → (order : List Call) → IsOrder opening trace order → IsOrder others (map (moved_event place) trace) (map (moved_call place) order)
order_there place back opening others trace r order o = record {
  once = λ x y c d h k e.
      let g = get_map (moved_call place) order x c h in
      let f = get_map (moved_call place) order y d k in
      o.once x y g.0 f.0 g.1 f.1 (ap (λ (a : Call). a.id) g.2 ∙ (e ∙ sym (ap (λ (a : Call). a.id) f.2)));
  issued = λ x c h.
      let g = get_map (moved_call place) order x c h in
      let at = o.issued x g.0 g.1 in
      (at.0, subst (λ (d : Call). TraceIssuesAt (map (moved_event place) trace) at.0 d) g.2 (issue_there place trace at.0 g.0 at.1));
  answered = λ i id reply h.
      let on = o.answered i id reply (answer_back place trace i id reply h) in
      (on.0, moved_call place on.1, map_get (moved_call place) order on.0 on.1 on.2, on.3);
  real_time = λ i j x y c d reply less h k m n.
      let g = get_map (moved_call place) order x c m in
      let f = get_map (moved_call place) order y d n in
      let b = issue_back place trace j d k in
      let same : b.0 ≡ f.0 = one_image place back opening others trace r b.0 f.0 (j, b.1) (o.issued y f.0 f.1) (b.2 ∙ sym f.2) in
      let answer : TraceAnswersAt trace i g.0.id reply =
      subst (λ (id : ℕ). TraceAnswersAt trace i id reply) (sym (ap (λ (a : Call). a.id) g.2)) (answer_back place trace i c.id reply h) in
      o.real_time i j x y g.0 f.0 reply less answer (subst (λ (a : Call). TraceIssuesAt trace j a) same b.1) g.1 f.1;
  replies = λ i x c reply h k.
      let g = get_map (moved_call place) order x c h in
      let answer : TraceAnswersAt trace i g.0.id reply =
      subst (λ (id : ℕ). TraceAnswersAt trace i id reply) (sym (ap (λ (a : Call). a.id) g.2)) (answer_back place trace i c.id reply k) in
      o.replies i x g.0 reply g.1 answer
      ∙ (ap (reply_to g.0.operation.op) (sym (same_found place back opening others trace r order o.issued x g.0 (o.issued x g.0 g.1)))
      ∙ ap (λ (a : Call). reply_to a.operation.op (get_or (memory_of others (take x (map (moved_call place) order))) a.operation.address 0)) g.2);
}

-- what is issued with other numbers is the image of an operation of the trace
pub issue_image : (place back : ℕ → ℕ) (opening others : List ℕ) (trace : List Event) → IsRenumbering place back opening others trace
    → (i : ℕ) (d : Call) → TraceIssuesAt (map (moved_event place) trace) i d
    → TraceIssuesAt trace i (moved_call back d) × (moved_call place (moved_call back d) ≡ d)
issue_image place back opening others trace r i d at =
    let b = issue_back place trace i d at in
    let a : back d.operation.address ≡ b.0.operation.address =
    ap (λ (k : Call). back k.operation.address) (sym b.2) ∙ r.inverse i b.0 b.1 in
    let q : d.operation.op ≡ b.0.operation.op = ap (λ (k : Call). k.operation.op) (sym b.2) in
    let n : d.id ≡ b.0.id = ap (λ (k : Call). k.id) (sym b.2) in
    let same : b.0 ≡ moved_call back d = same_call b.0 (moved_call back d) (sym n) (sym a) (sym q) in
    (subst (λ (k : Call). TraceIssuesAt trace i k) same b.1, ap (moved_call place) (sym same) ∙ b.2)

-- so it is of what stands in an order with other numbers
image_of : (place back : ℕ → ℕ) (opening others : List ℕ) (trace : List Event) → IsRenumbering place back opening others trace
    → (order : List Call) → IsOrder others (map (moved_event place) trace) order → (x : ℕ) (d : Call) → slice_get order x ≡ Some d
    → IsSomewhere trace (moved_call back d) × (moved_call place (moved_call back d) ≡ d)
image_of place back opening others trace r order o x d h =
    let at = o.issued x d h in
    let i = issue_image place back opening others trace r at.0 d at.1 in
    ((at.0, i.0), i.1)

-- and the other way
pub order_back : (place back : ℕ → ℕ) (opening others : List ℕ) (trace : List Event) → IsRenumbering place back opening others trace
    → (order : List Call) → IsOrder others (map (moved_event place) trace) order → IsOrder opening trace (map (moved_call back) order)
order_back place back opening others trace r order o =
    let own : List Call = map (moved_call back) order in
    let again : map (moved_call place) own ≡ order =
    map_back (moved_call place) (moved_call back) order (λ k d h. let i = image_of place back opening others trace r order o k d h in i.1) in
    let issued : (x : ℕ) (c : Call) → slice_get own x ≡ Some c → IsSomewhere trace c = λ x c h.
    let g = get_map (moved_call back) order x c h in
    let i = image_of place back opening others trace r order o x g.0 g.1 in
    subst (λ (k : Call). IsSomewhere trace k) g.2 i.0 in
    let get : (x : ℕ) (c : Call) → slice_get own x ≡ Some c → slice_get order x ≡ Some (moved_call place c) = λ x c h.
    subst (λ (cs : List Call). slice_get cs x ≡ Some (moved_call place c)) again (map_get (moved_call place) own x c h) in
    record {
      once = λ x y c d h k e. o.once x y (moved_call place c) (moved_call place d) (get x c h) (get y d k) e;
      issued = issued;
      answered = λ i id reply h.
          let on = o.answered i id reply (answer_there place trace i id reply h) in
          (on.0, moved_call back on.1, map_get (moved_call back) order on.0 on.1 on.2, on.3);
      real_time = λ i j x y c d reply less h k m n.
          o.real_time i j x y (moved_call place c) (moved_call place d) reply less
          (answer_there place trace i c.id reply h) (issue_there place trace j d k) (get x c m) (get y d n);
      replies = λ i x c reply h k.
          o.replies i x (moved_call place c) reply (get x c h) (answer_there place trace i c.id reply k)
          ∙ (ap (λ (cs : List Call). reply_to c.operation.op (get_or (memory_of others (take x cs)) (place c.operation.address) 0)) (sym again)
          ∙ ap (reply_to c.operation.op) (same_found place back opening others trace r own issued x c (issued x c h)));
    }

-- a beginning of a trace has the same places
pub renumbering_take : (place back : ℕ → ℕ) (opening others : List ℕ) (trace : List Event) (n : ℕ)
    → IsRenumbering place back opening others trace → IsRenumbering place back opening others (take n trace)
renumbering_take place back opening others trace n r = record {
  inside = λ i c h. r.inside i c (take_get n trace i (Issue c) h).1;
  placed = λ i c h. r.placed i c (take_get n trace i (Issue c) h).1;
  word = λ i c h. r.word i c (take_get n trace i (Issue c) h).1;
  inverse = λ i c h. r.inverse i c (take_get n trace i (Issue c) h).1;
}
