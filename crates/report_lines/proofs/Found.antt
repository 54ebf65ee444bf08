-- What is read is spelled so, line by line.
use Rattle.std.proofs.Common.{◌≡◌, ◌<◌, ℕ, ◌^◌, ◌==◌, ◌&&◌, nat_lt, if◌then◌else◌, Bool, true, false, List, ◌∷◌, ◌++◌, Option, Some, None, IfSome}
use Rattle.std.proofs.Common.{[], length, take, zero, suc, decimal, codes, refl, sym, ap, subst, ◌∙◌, arith, length-append}
use Rattle.std.specs.Prelude.{All}
use Rattle.std.specs.List.{after_first, before_first}
use Rattle.std.proofs.lemmas.List.{take_all}
use Rattle.std.proofs.lemmas.List.Elements.{All-cons}
use Rattle.std.specs.Option.{option_or}
use Rattle.std.proofs.lemmas.Bool.{eq-eqb, ltb-true}
use Rattle.std.proofs.lemmas.Option.{IfSome_then}
use Rattle.packet.specs.declared.kinds.Op.{Op}
use Rattle.packet.specs.declared.kinds.Code.{Code}
use Rattle.packet.specs.declared.kinds.Reply.{Reply}
use Rattle.packet.specs.declared.kinds.Reply.TheVariants.{Old, Ok as Stored}
use Rattle.packet.specs.Names.{arity, code_named, code_word}
use Rattle.packet.specs.Reading.{op_with}
use Rattle.packet.proofs.Words.{none_below, one_below}
use Rattle.report_lines.specs.Fits.{FitsOp, FitsReply, FitsRadices}
use Rattle.report_lines.specs.declared.line.Radices.{Radices}
use Rattle.report_lines.specs.declared.line.Radices.TheVariants.{One, Two, Three}
use Rattle.report_lines.proofs.Operations.{made_of, named_word, space_splits}
use Rattle.report_lines.proofs.Spelled.{reply_then, event_then, pair_then, values_then, op_then, radices_then}
use Rattle.report_lines.specs.Reading.{◌>>=◌, instead, behind, number_read_at, index_at, reply_read_at, event_at, pair_at, valued_at}
use Rattle.report_lines.specs.Reading.{is_space, values_at, op_at}
use Rattle.report_lines.specs.Reading.{four_at, uniform_at, two_at, three_at, radices_at}
use Rattle.report_lines.proofs.Sound.{behind_sound, number_sound}

-- what holds of each value that there may be
each_some : {X : Type 0} (r : Option X) (P : X → Type 0) → ((x : X) → r ≡ Some x → P x) → IfSome r P
each_some None P each = tt
each_some (Some x) P each = each x refl

-- of what is read after something
pub then_some : {X Y : Type 0} (Q : Y → Type 0) (r : Option X) (f : X → Option Y) {P : X → Type 0} → IfSome r P → ((x : X) → P x → IfSome (f x) Q)
    → IfSome (r >>= f) Q
then_some Q None f h each = tt
then_some Q (Some x) f h each = each x h

-- of one of two readings
pub instead_some : {X Y : Type 0} (Q : Y → Type 0) (r : Option X) (f : X → Option Y) (other : Option Y) {P : X → Type 0} → IfSome r P
    → ((x : X) → P x → IfSome (f x) Q) → IfSome other Q → IfSome (instead r f other) Q
instead_some Q None f other h each last = last
instead_some Q (Some x) f other h each last = each x h

pub or_some : {Y : Type 0} (Q : Y → Type 0) (r other : Option Y) → IfSome r Q → IfSome other Q → IfSome (option_or r other) Q
or_some Q None other h last = last
or_some Q (Some y) other h last = h

-- by a test
if_some : {Y : Type 0} (Q : Y → Type 0) (b : Bool) (r other : Option Y) → (b ≡ true → IfSome r Q) → (b ≡ false → IfSome other Q)
    → IfSome (if b then r else other) Q
if_some Q true r other holds fails = holds refl
if_some Q false r other holds fails = fails refl

-- words and numbers
abbrev SpellsBehind : List ℕ → List ℕ → List ℕ → Type 0
SpellsBehind word text rest = text ≡ word ++ rest

pub behind_spelled : (word text : List ℕ) → IfSome (behind word text) (SpellsBehind word text)
behind_spelled word text = each_some (behind word text) (SpellsBehind word text) (λ rest h. behind_sound word text rest h)

abbrev SpellsNumber : ℕ → ℕ → List ℕ → ℕ × List ℕ → Type 0
SpellsNumber bits end text n = (n.0 < 2 ^ bits) × (text ≡ decimal n.0 ++ end ∷ n.1)

number_spelled : (end : ℕ) (text : List ℕ) → IfSome (number_read_at end text) (SpellsNumber 64 end text)
number_spelled end text = each_some (number_read_at end text) (SpellsNumber 64 end text) (λ n h. number_sound end text n h)

pub index_spelled : (end : ℕ) (text : List ℕ) → IfSome (index_at end text) (SpellsNumber 32 end text)
unfolding index_at
index_spelled end text =
    then_some _ (number_read_at end text) (λ n. if nat_lt n.0 (2 ^ 32) then Some (n.0, n.1) else None) (number_spelled end text)
    (λ n is. if_some _ (nat_lt n.0 (2 ^ 32)) (Some (n.0, n.1)) None (λ small. (ltb-true n.0 (2 ^ 32) small, is.1)) (λ much. tt))

abbrev SpellsPair : ℕ → List ℕ → ℕ × ℕ × List ℕ → Type 0
SpellsPair end text p = (p.0 < 2 ^ 32) × (p.1 < 2 ^ 64) × (text ≡ pair_then end p.0 p.1 p.2)

pair_spelled : (end : ℕ) (text : List ℕ) → IfSome (pair_at end text) (SpellsPair end text)
unfolding pair_at
pair_spelled end text =
    then_some _ (index_at 32 text) (λ a. number_read_at end a.1 >>= λ v. Some (a.0, v.0, v.1)) (index_spelled 32 text)
    (λ a is. then_some _ (number_read_at end a.1) (λ v. Some (a.0, v.0, v.1)) (number_spelled end a.1)
    (λ v next. (is.0, next.0, is.1 ∙ ap (λ (t : List ℕ). decimal a.0 ++ 32 ∷ t) next.1)))

abbrev SpellsValued : ℕ → List ℕ → List ℕ → ℕ × ℕ × List ℕ → Type 0
SpellsValued end word text p = (p.0 < 2 ^ 32) × (p.1 < 2 ^ 64) × (text ≡ word ++ pair_then end p.0 p.1 p.2)

pub valued_spelled : (end : ℕ) (word text : List ℕ) → IfSome (valued_at end word text) (SpellsValued end word text)
unfolding valued_at
valued_spelled end word text =
    then_some _ (behind word text) (pair_at end) (behind_spelled word text)
    (λ rest is. IfSome_then (pair_at end rest) (pair_spelled end rest) (λ p next. (next.0, next.1, is ∙ ap (λ (t : List ℕ). word ++ t) next.2)))

abbrev SpellsFour : List ℕ → List ℕ → ℕ × ℕ × ℕ × ℕ × List ℕ → Type 0
SpellsFour word text x =
    (x.0 < 2 ^ 32) × (x.1 < 2 ^ 32) × (x.2 < 2 ^ 32) × (x.3 < 2 ^ 32)
    × (text ≡ word ++ (decimal x.0 ++ 32 ∷ (decimal x.1 ++ 32 ∷ (decimal x.2 ++ 32 ∷ (decimal x.3 ++ 32 ∷ x.4)))))

pub four_spelled : (word text : List ℕ) → IfSome (four_at word text) (SpellsFour word text)
unfolding four_at
four_spelled word text =
    then_some _ (behind word text)
    (λ rest. index_at 32 rest >>= λ a. index_at 32 a.1 >>= λ b. index_at 32 b.1 >>= λ c. index_at 32 c.1 >>= λ d. Some (a.0, b.0, c.0, d.0, d.1))
    (behind_spelled word text)
    (λ rest is. then_some _ (index_at 32 rest) (λ a. index_at 32 a.1 >>= λ b. index_at 32 b.1 >>= λ c. index_at 32 c.1 >>= λ d. Some (a.0, b.0, c.0, d.0, d.1))
    (index_spelled 32 rest)
    (λ a ha. then_some _ (index_at 32 a.1) (λ b. index_at 32 b.1 >>= λ c. index_at 32 c.1 >>= λ d. Some (a.0, b.0, c.0, d.0, d.1)) (index_spelled 32 a.1)
    (λ b hb. then_some _ (index_at 32 b.1) (λ c. index_at 32 c.1 >>= λ d. Some (a.0, b.0, c.0, d.0, d.1)) (index_spelled 32 b.1)
    (λ c hc. then_some _ (index_at 32 c.1) (λ d. Some (a.0, b.0, c.0, d.0, d.1)) (index_spelled 32 c.1)
    (λ d hd.
    let last : c.1 ≡ decimal d.0 ++ 32 ∷ d.1 = hd.1 in
    let third : b.1 ≡ decimal c.0 ++ 32 ∷ (decimal d.0 ++ 32 ∷ d.1) = hc.1 ∙ ap (λ (t : List ℕ). decimal c.0 ++ 32 ∷ t) last in
    let second : a.1 ≡ decimal b.0 ++ 32 ∷ (decimal c.0 ++ 32 ∷ (decimal d.0 ++ 32 ∷ d.1)) = hb.1 ∙ ap (λ (t : List ℕ). decimal b.0 ++ 32 ∷ t) third in
    (ha.0, hb.0, hc.0, hd.0, is ∙ ap (λ (t : List ℕ). word ++ t) (ha.1 ∙ ap (λ (t : List ℕ). decimal a.0 ++ 32 ∷ t) second)))))))

-- replies and events
abbrev SpellsReply : List ℕ → Reply × List ℕ → Type 0
SpellsReply text r = FitsReply r.0 × (text ≡ reply_then r.0 r.1)

pub reply_spelled : (text : List ℕ) → IfSome (reply_read_at text) (SpellsReply text)
unfolding reply_read_at
reply_spelled text =
    instead_some _ (behind (codes "ok\n") text) (λ rest. Some (Stored, rest)) (number_read_at 10 text >>= λ n. Some (Old n.0, n.1))
    (behind_spelled (codes "ok\n") text)
    (λ rest is. (tt, is))
    (then_some _ (number_read_at 10 text) (λ n. Some (Old n.0, n.1)) (number_spelled 10 text) (λ n is. (is.0, is.1)))

abbrev SpellsEvent : List ℕ → Option ℕ × List ℕ → Type 0
SpellsEvent text e = IfSome e.0 (λ n. n < 2 ^ 32) × (text ≡ event_then e.0 e.1)

pub event_spelled : (text : List ℕ) → IfSome (event_at text) (SpellsEvent text)
unfolding event_at
event_spelled text =
    instead_some _ (behind (codes "-\n") text) (λ rest. Some (None, rest)) (index_at 10 text >>= λ n. Some (Some n.0, n.1))
    (behind_spelled (codes "-\n") text)
    (λ rest is. (tt, is))
    (then_some _ (index_at 10 text) (λ n. Some (Some n.0, n.1)) (index_spelled 10 text) (λ n is. (is.0, is.1)))

-- operations
abbrev SpellsOp : List ℕ → Op × ℕ × List ℕ → Type 0
SpellsOp text x = FitsOp x.0 × (x.1 < 2 ^ 32) × (text ≡ op_then x.0 x.1 x.2)

-- values, each up to a space
pub record SpellsValues (n : ℕ) (text : List ℕ) (v : ℕ × ℕ × List ℕ) : Type 0 where
  pub fit : All (λ value. value < 2 ^ 64) (take n (v.0 ∷ v.1 ∷ []))
  pub spelled : text ≡ values_then (take n (v.0 ∷ v.1 ∷ [])) v.2

values_spelled : (n : ℕ) (text : List ℕ) → IfSome (values_at n text) (SpellsValues n text)
unfolding values_at
values_spelled zero text = record { fit = none_below; spelled = refl }
values_spelled (suc zero) text =
    then_some _ (number_read_at 32 text) (λ v. Some (v.0, 0, v.1)) (number_spelled 32 text)
    (λ v hv. record { fit = one_below v.0 hv.0; spelled = hv.1 })
values_spelled (suc (suc n)) text =
    then_some _ (number_read_at 32 text) (λ v. number_read_at 32 v.1 >>= λ w. Some (v.0, w.0, w.1)) (number_spelled 32 text)
    (λ v hv. then_some _ (number_read_at 32 v.1) (λ w. Some (v.0, w.0, w.1)) (number_spelled 32 v.1)
    (λ w hw.
    let both : take (suc (suc n)) (v.0 ∷ w.0 ∷ []) ≡ v.0 ∷ w.0 ∷ [] = take_all (suc (suc n)) (v.0 ∷ w.0 ∷ []) (omega arith) in
    record {
      fit =
          subst (λ values. All (λ value. value < 2 ^ 64) values) (sym both) (All-cons (λ value. value < 2 ^ 64) v.0 (w.0 ∷ []) hv.0 (one_below w.0 hw.0));
      spelled = hv.1 ∙ ap (λ (t : List ℕ). decimal v.0 ++ 32 ∷ t) hw.1 ∙ ap (λ values. values_then values w.1) (sym both);
    }))

-- the word of an operation, its address and its values
op_made : (text : List ℕ) (c : Code) (a v w : ℕ) (rest : List ℕ) → before_first is_space text ≡ code_word c → a < 2 ^ 32
    → after_first is_space text ≡ decimal a ++ 32 ∷ values_then (take (arity c) (v ∷ w ∷ [])) rest
    → All (λ value. value < 2 ^ 64) (take (arity c) (v ∷ w ∷ []))
    → SpellsOp text (op_with c v w, a, rest)
op_made text c a v w rest word small behind fits =
    let made = made_of c v w in
    let some : 0 < length (after_first is_space text) = omega (arith, ap (λ (t : List ℕ). length t) behind, length-append {A = ℕ}) in
    let is : text ≡ code_word c ++ 32 ∷ (decimal a ++ 32 ∷ values_then (take (arity c) (v ∷ w ∷ [])) rest) =
    space_splits text some ∙ ap (λ (t : List ℕ). t ++ 32 ∷ after_first is_space text) word ∙ ap (λ (t : List ℕ). code_word c ++ 32 ∷ t) behind in
    (rw made.values fits, small, rw (made.name, made.values) is)

pub op_spelled : (text : List ℕ) → IfSome (op_at text) (SpellsOp text)
unfolding op_at
op_spelled text =
    let word : List ℕ = before_first is_space text in
    let rest : List ℕ = after_first is_space text in
    then_some _ (code_named word)
    (λ c. index_at 32 rest >>= λ a. values_at (arity c) a.1 >>= λ v. Some (op_with c v.0 v.1, a.0, v.2)) (named_word word)
    (λ c hc. then_some _ (index_at 32 rest) (λ a. values_at (arity c) a.1 >>= λ v. Some (op_with c v.0 v.1, a.0, v.2)) (index_spelled 32 rest)
    (λ a ha. then_some _ (values_at (arity c) a.1) (λ v. Some (op_with c v.0 v.1, a.0, v.2)) (values_spelled (arity c) a.1)
    (λ v hv. op_made text c a.0 v.0 v.1 v.2 hc ha.0 (ha.1 ∙ ap (λ (t : List ℕ). decimal a.0 ++ 32 ∷ t) hv.spelled) hv.fit)))

-- radices
abbrev SpellsRadices : List ℕ → Radices × List ℕ → Type 0
SpellsRadices text r = FitsRadices r.0 × (text ≡ radices_then r.0 r.1)

uniform_spelled : (text : List ℕ) → IfSome (uniform_at text) (SpellsRadices text)
unfolding uniform_at
uniform_spelled text =
    then_some _ (index_at 32 text)
    (λ k. instead (behind (codes "1 ") k.1) (λ rest. Some (One k.0, rest))
    (instead (behind (codes "2 ") k.1) (λ rest. Some (Two k.0 k.0, rest))
    (instead (behind (codes "3 ") k.1) (λ rest. Some (Three k.0 k.0 k.0, rest))
    None)))
    (index_spelled 32 text)
    (λ k is.
    let same : (k.0 == k.0) ≡ true = eq-eqb k.0 k.0 refl in
    let all : ((k.0 == k.0) && (k.0 == k.0)) ≡ true = rw same in
    instead_some _ (behind (codes "1 ") k.1) (λ rest. Some (One k.0, rest)) _ (behind_spelled (codes "1 ") k.1)
    (λ rest next. (is.0, is.1 ∙ ap (λ (t : List ℕ). decimal k.0 ++ 32 ∷ t) next))
    (instead_some _ (behind (codes "2 ") k.1) (λ rest. Some (Two k.0 k.0, rest)) _ (behind_spelled (codes "2 ") k.1)
    (λ rest next. ((is.0, is.0), rw same (is.1 ∙ ap (λ (t : List ℕ). decimal k.0 ++ 32 ∷ t) next)))
    (instead_some _ (behind (codes "3 ") k.1) (λ rest. Some (Three k.0 k.0 k.0, rest)) None (behind_spelled (codes "3 ") k.1)
    (λ rest next. ((is.0, is.0, is.0), rw all (is.1 ∙ ap (λ (t : List ℕ). decimal k.0 ++ 32 ∷ t) next)))
    tt)))

two_spelled : (text : List ℕ) → IfSome (two_at text) (SpellsRadices text)
unfolding two_at
two_spelled text =
    then_some _ (index_at 120 text)
    (λ j. index_at 32 j.1 >>= λ k. behind (codes "2 ") k.1 >>= λ rest. if j.0 == k.0 then None else Some (Two j.0 k.0, rest))
    (index_spelled 120 text)
    (λ j hj. then_some _ (index_at 32 j.1) (λ k. behind (codes "2 ") k.1 >>= λ rest. if j.0 == k.0 then None else Some (Two j.0 k.0, rest))
    (index_spelled 32 j.1)
    (λ k hk. then_some _ (behind (codes "2 ") k.1) (λ rest. if j.0 == k.0 then None else Some (Two j.0 k.0, rest)) (behind_spelled (codes "2 ") k.1)
    (λ rest is. if_some _ (j.0 == k.0) None (Some (Two j.0 k.0, rest)) (λ same. tt)
    (λ apart.
    let second : j.1 ≡ decimal k.0 ++ 32 ∷ (codes "2 " ++ rest) = hk.1 ∙ ap (λ (t : List ℕ). decimal k.0 ++ 32 ∷ t) is in
    ((hj.0, hk.0), rw apart (hj.1 ∙ ap (λ (t : List ℕ). decimal j.0 ++ 120 ∷ t) second))))))

three_spelled : (text : List ℕ) → IfSome (three_at text) (SpellsRadices text)
unfolding three_at
three_spelled text =
    then_some _ (index_at 120 text)
    (λ j. index_at 120 j.1 >>= λ k. index_at 32 k.1 >>= λ l. behind (codes "3 ") l.1
    >>= λ rest. if (j.0 == k.0) && (k.0 == l.0) then None else Some (Three j.0 k.0 l.0, rest))
    (index_spelled 120 text)
    (λ j hj. then_some _ (index_at 120 j.1)
    (λ k. index_at 32 k.1 >>= λ l. behind (codes "3 ") l.1 >>= λ rest. if (j.0 == k.0) && (k.0 == l.0) then None else Some (Three j.0 k.0 l.0, rest))
    (index_spelled 120 j.1)
    (λ k hk. then_some _ (index_at 32 k.1)
    (λ l. behind (codes "3 ") l.1 >>= λ rest. if (j.0 == k.0) && (k.0 == l.0) then None else Some (Three j.0 k.0 l.0, rest))
    (index_spelled 32 k.1)
    (λ l hl. then_some _ (behind (codes "3 ") l.1) (λ rest. if (j.0 == k.0) && (k.0 == l.0) then None else Some (Three j.0 k.0 l.0, rest))
    (behind_spelled (codes "3 ") l.1)
    (λ rest is. if_some _ ((j.0 == k.0) && (k.0 == l.0)) None (Some (Three j.0 k.0 l.0, rest)) (λ same. tt)
    (λ apart.
    let third : k.1 ≡ decimal l.0 ++ 32 ∷ (codes "3 " ++ rest) = hl.1 ∙ ap (λ (t : List ℕ). decimal l.0 ++ 32 ∷ t) is in
    let second : j.1 ≡ decimal k.0 ++ 120 ∷ (decimal l.0 ++ 32 ∷ (codes "3 " ++ rest)) = hk.1 ∙ ap (λ (t : List ℕ). decimal k.0 ++ 120 ∷ t) third in
    ((hj.0, hk.0, hl.0), rw apart (hj.1 ∙ ap (λ (t : List ℕ). decimal j.0 ++ 120 ∷ t) second)))))))

pub radices_spelled : (text : List ℕ) → IfSome (radices_at text) (SpellsRadices text)
unfolding radices_at
radices_spelled text =
    or_some _ (uniform_at text) (option_or (two_at text) (three_at text)) (uniform_spelled text)
    (or_some _ (two_at text) (three_at text) (two_spelled text) (three_spelled text))

-- lines
