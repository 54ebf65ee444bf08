-- What stands behind the text of a verdict.
use Rattle.std.proofs.Common.{◌≡◌, true, false, ◌++◌, [], append-nil, ap, ◌∙◌, ℕ, List, refl, sym, subst}
use Rattle.std.specs.Prelude.{Vec, Option, Some, None, IfSome, IsSome, Result, Ok, Err, IfOk}
use Rattle.network_judge.specs.declared.table.Verdict.{Verdict}
use Rattle.network_judge.specs.declared.table.Verdict.TheVariants.{Rising, NoRoute, Cycle}
use Rattle.network_judge.specs.declared.table.Kind.{Kind}
use Rattle.network_judge.specs.declared.table.Join.{Join}
use Rattle.network_judge.specs.declared.table.Reply.{Reply}
use Rattle.network_judge.specs.Table.{Table, table_of}
use Rattle.network_judge.specs.Replies.{AreReplies}
use Rattle.network_judge.specs.Verdicts.{IsVerdict}
use Rattle.network_judge.specs.Cycles.{IsCycle}
use Rattle.network_judge.specs.Jams.{IsJam}
use Rattle.network_judge.specs.declared.table.Link.{Link}
use Rattle.network_judge.specs.declared.fill.Fill.{Fill}
use Rattle.network_judge.proofs.Both.{never}
use Rattle.network_judge.proofs.Jammed.{jams_lock}
use Rattle.network_text.specs.Network.{NetworkSpec}
use Rattle.network_answer.specs.Answer.{verdict_text, jam_text, IsFoundVerdict, IsJammedText}

-- with numbers no jam is found, and the network is free of deadlock
pub none_found : {A : Type 0} (n : NetworkSpec) (v : Verdict A) (numbers : Vec ℕ A) → v ≡ Rising numbers → AreReplies n.table n.replies
    → IsVerdict n.table n.replies v → IsFoundVerdict n v None
none_found n (Rising numbers) other is are holds = (refl, λ depth flits deep. never n.table n.replies numbers.items are holds.1 depth flits deep)
none_found n (NoRoute r) other is are holds = refl
none_found n (Cycle links) other is are holds = cc

-- with a cycle a jam is found
pub jam_found : {A : Type 0} (n : NetworkSpec) (v : Verdict A) (links : Vec Link A) (found : Option (Vec Fill A)) → v ≡ Cycle links → AreReplies n.table n.replies
    → IsVerdict n.table n.replies v → IfSome found (λ jam. IsJam n.table n.replies jam.items)
    → (AreReplies n.table n.replies → IsCycle n.table n.replies links.items → IsSome found) → IsFoundVerdict n v found
jam_found n (Rising numbers) links found is are holds jam some = cc
jam_found n (NoRoute r) links found is are holds jam some = cc
jam_found n (Cycle others) links (Some fills) is are holds jam some = jam
jam_found {A} n (Cycle others) links None is are holds jam some =
    (let same : others ≡ links = cc in
    let no : false ≡ true = some are (subst (λ (ls : Vec Link A). IsCycle n.table n.replies ls.items) same holds.1) in cc)

-- that is so of what a search of the network's own lists answers
pub jam_answered : {A E : Type 0} (n : NetworkSpec) (v : Verdict A) (links : Vec Link A) (kinds : List Kind) (joins : List Join) (choices : List ℕ)
    (replies : List Reply) (lent : List Link) (r : Result (Option (Vec Fill A)) E) → kinds ≡ n.table.kinds → joins ≡ n.table.joins
    → choices ≡ n.table.choices → replies ≡ n.replies → lent ≡ links.items → v ≡ Cycle links → AreReplies n.table n.replies → IsVerdict n.table n.replies v
    → IfOk r (λ f. IfSome f (λ jam. IsJam (table_of kinds joins choices) replies jam.items))
    → IfOk r (λ f. AreReplies (table_of kinds joins choices) replies → IsCycle (table_of kinds joins choices) replies lent → IsSome f)
    → IfOk r (IsFoundVerdict n v)
jam_answered n v links kinds joins choices replies lent (Ok found) one two three four five is are holds jam some =
    (let same : table_of kinds joins choices ≡ n.table =
    ap (λ k. table_of k joins choices) one ∙ (ap (λ j. table_of n.table.kinds j choices) two ∙ ap (λ c. table_of n.table.kinds n.table.joins c) three) in
    jam_found n v links found is are holds
    (subst (λ (t : Table). IfSome found (λ fs. IsJam t n.replies fs.items)) same
    (subst (λ (rs : List Reply). IfSome found (λ fs. IsJam (table_of kinds joins choices) rs fs.items)) four jam))
    (λ those cycle. some
    (subst (λ (t : Table). AreReplies t replies) (sym same) (subst (λ (rs : List Reply). AreReplies n.table rs) (sym four) those))
    (subst (λ (t : Table). IsCycle t replies lent) (sym same)
    (subst (λ (rs : List Reply). IsCycle n.table rs lent) (sym four) (subst (λ (ls : List Link). IsCycle n.table n.replies ls) (sym five) cycle)))))
jam_answered n v links kinds joins choices replies lent (Err e) one two three four five is are holds jam some = tt

-- its text is put behind that of the verdict
pub jam_put : (head before text : List ℕ) (lent jam : List Fill) → text ≡ before ++ jam_text lent → before ≡ head → lent ≡ jam
    → text ≡ head ++ jam_text jam
jam_put head before text lent jam put is same = put ∙ ap (λ t. t ++ jam_text lent) is ∙ ap (λ fs. head ++ jam_text fs) same

-- a jam that is found stands there
pub judged_with_jam : {A : Type 0} (n : NetworkSpec) (v : Verdict A) (found : Option (Vec Fill A)) (jam : Vec Fill A) (text : List ℕ)
    → found ≡ Some jam → IsFoundVerdict n v found → text ≡ verdict_text v ++ jam_text jam.items → IsJammedText n v text
judged_with_jam n (Rising numbers) found jam text some is told = absurd (let no : Some jam ≡ None = sym some ∙ is.0 in cc)
judged_with_jam n (NoRoute r) found jam text some is told = absurd (let no : Some jam ≡ None = sym some ∙ is in cc)
judged_with_jam n (Cycle links) (Some fills) jam text some is told = record {
  behind = jam_text jam.items;
  follows = record {
    jam = jam.items;
    holds = subst (λ f. IsFoundVerdict n (Cycle links) f) some is;
    is = refl;
    locks = λ depth flits deep tells.
        jams_lock n.table n.replies jam.items (subst (λ f. IsFoundVerdict n (Cycle links) f) some is) depth flits deep tells;
  };
  is = told;
}
judged_with_jam n (Cycle links) None jam text some is told = absurd (let no : None ≡ Some jam = some in cc)

-- where none is found, nothing does
pub judged_alone : {A : Type 0} (n : NetworkSpec) (v : Verdict A) (found : Option (Vec Fill A)) (text : List ℕ)
    → found ≡ None → IsFoundVerdict n v found → text ≡ verdict_text v → IsJammedText n v text
judged_alone n (Rising numbers) found text none is told =
    record { behind = []; follows = (refl, is.1); is = told ∙ sym (append-nil _) }
judged_alone n (NoRoute r) found text none is told =
    record { behind = []; follows = refl; is = told ∙ sym (append-nil _) }
judged_alone n (Cycle links) (Some jam) text none is told = cc
judged_alone n (Cycle links) None text none is told = absurd is
