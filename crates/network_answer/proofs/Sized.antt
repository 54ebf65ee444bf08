-- Where the verdict is a cycle and no packet is answered, packets of the length of the text deadlock.
use Rattle.std.proofs.Common.{◌≡◌, ℕ, ◌+◌, ◌-◌, ◌<◌, ◌≤◌, Bool, true, false, List, [], ◌∷◌, ◌++◌, refl, sym, ◌∙◌, ap, subst, arith, append_assoc}
use Rattle.std.specs.Prelude.{Option, Some, None, nat_le, if◌then◌else◌}
use Rattle.std.proofs.lemmas.Bool.Decides.{nat_tests}
use Rattle.network_judge.specs.declared.table.Link.{Link}
use Rattle.network_judge.specs.declared.table.Reply.{Reply}
use Rattle.network_judge.specs.declared.table.Verdict.{Verdict}
use Rattle.network_judge.specs.declared.table.Verdict.TheVariants.{Rising, NoRoute, Cycle}
use Rattle.network_judge.specs.Cycles.{IsCycle}
use Rattle.network_judge.specs.Verdicts.{AllArrive, IsVerdict}
use Rattle.deadlock_laws.specs.Lengths.{LocksUpOf}
use Rattle.deadlock_laws.proofs.Finished.{cycles_lock}
use Rattle.network_text.specs.Network.{NetworkSpec}
use Rattle.network_answer.specs.Answer.{LocksUpByLength, length_line, unanswered_length, told_length, TellsLength, IsLengthText}

-- the least depth is above 0, and holds a packet with the latch
deep : (size depth : ℕ) (b : Bool) → nat_le size 2 ≡ b → (if b then 1 else size - 1) ≤ depth → (0 < depth) × (size ≤ depth + 1)
deep size depth true is most =
    (let low : size ≤ 2 = grind (arith, nat_tests) in let one : 1 ≤ depth = most in (omega arith, omega arith))
deep size depth false is most =
    (let high : 2 < size = grind (arith, nat_tests) in let held : size - 1 ≤ depth = most in (omega arith, omega arith))

-- a cycle deadlocks with packets of the length of the text
by_replies : (n : NetworkSpec) (links : List Link) (replies : List Reply) (flits : Option ℕ) (size : ℕ) → n.replies ≡ replies → AllArrive n.table
    → IsCycle n.table n.replies links → unanswered_length replies flits ≡ Some size → LocksUpByLength n size
by_replies n links [] flits size is arrive cycle some = λ depth format most has.
    (let fits = deep size depth (nat_le size 2) refl most in
    subst (λ (rs : List Reply). LocksUpOf n.table rs depth format size) (sym is)
    (cycles_lock n.table links arrive (subst (λ (rs : List Reply). IsCycle n.table rs links) is cycle) size depth format fits.0 fits.1 has))
by_replies n links (reply ∷ replies) flits size is arrive cycle some = absurd (let no : None ≡ Some size = some in cc)

by_verdict : {A : Type 0} (n : NetworkSpec) (v : Verdict A) (size : ℕ) → IsVerdict n.table n.replies v → told_length n v ≡ Some size → LocksUpByLength n size
by_verdict n (Rising numbers) size holds some = absurd (let no : None ≡ Some size = some in cc)
by_verdict n (NoRoute r) size holds some = absurd (let no : None ≡ Some size = some in cc)
by_verdict n (Cycle links) size holds some = by_replies n links.items n.replies n.flits size refl holds.0 holds.1 some

-- the line of a length stands there
pub length_told : {A : Type 0} (n : NetworkSpec) (v : Verdict A) (found : Option ℕ) (size : ℕ) (text : List ℕ) → IsVerdict n.table n.replies v
    → found ≡ told_length n v → found ≡ Some size → text ≡ length_line size → IsLengthText n v text
length_told n v found size text holds is some told =
    subst (λ (o : Option ℕ). TellsLength n o text) (sym some ∙ is) (told, by_verdict n v size holds (sym is ∙ some))

-- where there is none, nothing does
pub length_untold : {A : Type 0} (n : NetworkSpec) (v : Verdict A) (found : Option ℕ) (text : List ℕ)
    → found ≡ told_length n v → found ≡ None → text ≡ [] → IsLengthText n v text
length_untold n v found text is none told = subst (λ (o : Option ℕ). TellsLength n o text) (sym none ∙ is) told

-- the three parts of a text
pub three_parts : (a b c made more : List ℕ) → made ≡ a ++ b → more ≡ made ++ c → more ≡ a ++ (b ++ c)
three_parts a b c made more is last = last ∙ (ap (λ s. s ++ c) is ∙ append_assoc a b c)
